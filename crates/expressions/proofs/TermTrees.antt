-- Terms that were read and written, and the space behind them. Assumes nothing.
use Rattle.std.proofs.Common.{◌≡◌, ℕ, ◌+◌, ◌-◌, ◌≤◌, true, false, cond, eqb, List, length, Some, Option, sym, ap, ◌∙◌, subst, arith}
use Rattle.std.proofs.lemmas.Bool.{cond-true, cond-false, eq-eqb, ne_eqb}
use Rattle.model.specs.Model as model
use Rattle.model.specs.Kept.{NumIn, LinIn}
use Rattle.compose.specs.Agree.{Agree, Settled}
use Rattle.compose.proofs.Trees.{amount_tree}
use Rattle.grammar.specs.declared.Refusal.TheVariants.{Name}
use Rattle.grammar.specs.Grammar.{is_letter, Word, Num, Term, alone, times1, times2}
use Rattle.grammar.specs.Reading.{ok, bad, then, byte, name, Names, Sort, find, an_array, array_there, one_place, num, place, after, after_num}
use Rattle.grammar.specs.Says.{num_of, term_of, number_of, row_place, column_place}
use Rattle.tokens.proofs.Steps.{then_ok}
use Rattle.scope.specs.declared.Grid.{Grid}
use Rattle.expressions.specs.declared.Node.{Node}
use Rattle.expressions.specs.declared.Places.{Places}
use Rattle.expressions.specs.declared.TermAt.{TermAt}
use Rattle.expressions.specs.Made.{Made, NumMade}
use Rattle.expressions.specs.Places.{Place, one_of, two_of, enough, place_at, row_of, column_of, PlacesMade}
use Rattle.expressions.specs.Sums.{Follow, goes_on, after_at, after_num_at, variable_at, Spaced, TermMade}
use Rattle.expressions.proofs.Ways.{placed, place_as, then_then}
use Rattle.expressions.proofs.NumberTrees.{settled_on, zero_on}

-- WAYS

module _ (x : List ℕ) (ns : Names) (left : ℕ) (e : Num) (m : ℕ) where
  num_on : byte x m ≡ 32 → (m ≡ 65536 → ⊥) → after_num_at x ns left e m ≡ cond (is_letter (byte x (m + 1))) (variable_at x ns left e (m + 1)) (ok (goes_on (alone e)) (m + 1))
  unfolding after_num variable_at
  num_on b n = cond-true (eqb (byte x m) 32) _ _ (eq-eqb (byte x m) 32 b) ∙ cond-false (eqb m 65536) _ _ (ne_eqb m 65536 n)

  -- where no variable stands behind it, a number is a term of its own
  pub num_stop : (byte x m ≡ 32 → ⊥) → after_num_at x ns left e m ≡ after_at x (alone e) m
  unfolding after_num after
  num_stop n = cond-false (eqb (byte x m) 32) _ _ (ne_eqb (byte x m) 32 n) ∙ sym (cond-false (eqb (byte x m) 32) _ _ (ne_eqb (byte x m) 32 n))

  pub num_past : byte x m ≡ 32 → m ≡ 65536 → after_num_at x ns left e m ≡ after_at x (alone e) m
  unfolding after_num after
  num_past b p =
      let c = eq-eqb (byte x m) 32 b in
      cond-true (eqb (byte x m) 32) _ _ c ∙ cond-true (eqb m 65536) _ _ (eq-eqb m 65536 p) ∙ sym (cond-true (eqb (byte x m) 32) _ _ c ∙ cond-true (eqb m 65536) _ _ (eq-eqb m 65536 p))

  pub num_space : byte x m ≡ 32 → (m ≡ 65536 → ⊥) → is_letter (byte x (m + 1)) ≡ false → after_num_at x ns left e m ≡ after_at x (alone e) m
  unfolding after
  num_space b n l =
      num_on b n ∙ cond-false (is_letter (byte x (m + 1))) _ _ l ∙ sym (cond-true (eqb (byte x m) 32) _ _ (eq-eqb (byte x m) 32 b) ∙ cond-false (eqb m 65536) _ _ (ne_eqb m 65536 n))

  pub num_variable : byte x m ≡ 32 → (m ≡ 65536 → ⊥) → is_letter (byte x (m + 1)) ≡ true → after_num_at x ns left e m ≡ variable_at x ns left e (m + 1)
  num_variable b n l = num_on b n ∙ cond-true (is_letter (byte x (m + 1))) _ _ l

-- behind the name of a variable
module _ (x : List ℕ) (ns : Names) (left : ℕ) (e : Num) (at : ℕ) (w : Word) (z : ℕ) where
  pub no_variable : (v : Word) (o : Option Sort) → name x at ≡ ok w z → w ≡ v → o ≡ find v ns → array_there o ≡ false → variable_at x ns left e at ≡ bad (Name at)
  unfolding variable_at
  no_variable v o h f g i = then_ok _ h ∙ cond-false (array_there (find w ns)) _ _ (ap (λ u. array_there (find u ns)) f ∙ ap array_there (sym g) ∙ i)

  pub variable_places : (g : Grid) → name x at ≡ ok w z → find w ns ≡ Some (an_array g.number g.rows g.columns)
      → variable_at x ns left e at ≡ then (place_at x g at left (num x ns (left - 1)) z) (λ p q. after_at x (placed (times1 e w) (times2 e w) p) q)
  unfolding variable_at then
  variable_places g h i =
      then_ok _ h
      ∙ cond-true (array_there (find w ns)) _ _ (ap array_there i)
      ∙ ap (λ o. then (place x (one_place o) at left (num x ns (left - 1)) (times1 e w) (times2 e w) z) (λ t q. after_at x t q)) i
      ∙ ap (λ o. then o (λ t q. after_at x t q)) (place_as x (enough g) at left (num x ns (left - 1)) z (times1 e w) (times2 e w))
      ∙ then_then (place_at x g at left (num x ns (left - 1)) z) _ _

-- TREES

pub alone_made : (x us ws : List ℕ) (ns : Names) (begin free here : ℕ) (e : Num) (n : Node) → n.end ≤ here → here ≤ length x → here ≤ 65536 → NumMade x ns begin free us ws e n
    → Made x begin free 3 us ws (λ vs k. LinIn vs k (term_of ns (alone e))) (record { place = n.place; next = n.next; end = here })
unfolding term_of
alone_made x us ws ns begin free here e n a b d m = record {
  onward = let y = m.onward in omega arith;
  inside = b;
  short = d;
  words = let y = m.words in omega arith;
  forward = m.forward;
  placed = m.placed;
  tree = λ z. amount_tree 1808 n.next ws n.place (num_of ns e) (let y = m.placed in omega arith) (m.tree z);
}

times_tree : (ws : List ℕ) (k m : ℕ) (ns : Names) (w : Word) (g : Grid) (e : Num) (l : Place) → find w ns ≡ Some (an_array g.number g.rows g.columns)
    → Settled 1808 m ws (λ vs. LinIn vs k (model.term (num_of ns e) g.number (row_of ns g l) (column_of ns g l))) → Settled 1808 m ws (λ vs. LinIn vs k (term_of ns (placed (times1 e w) (times2 e w) l)))
unfolding term_of
times_tree ws k m ns w g e (one_of f) i t = subst (λ o. Settled 1808 m ws (λ vs. LinIn vs k (model.term (num_of ns e) (number_of o) (row_place o (num_of ns f)) (column_place o (num_of ns f))))) (sym i) t
times_tree ws k m ns w g e (two_of f h) i t = subst (λ o. Settled 1808 m ws (λ vs. LinIn vs k (model.term (num_of ns e) (number_of o) (num_of ns f) (num_of ns h)))) (sym i) t

-- us, vs, ws, ys: before the number, behind it, behind the places, behind the term
pub times_made : (x us vs ws ys : List ℕ) (ns : Names) (begin free z next : ℕ) (w : Word) (g : Grid) (e : Num) (l : Place) (n : Node) (p : Places) → 1810 ≤ free → Agree 0 free us vs → Agree 0 n.next vs ws → n.end + 2 ≤ z
    → find w ns ≡ Some (an_array g.number g.rows g.columns) → NumMade x ns begin free us vs e n → PlacesMade x ns g z n.next vs ws l p → next ≡ p.next + 5
    → ((a b c : model.Num) → Settled 1808 p.next ws (λ zs. NumIn zs n.place a) → Settled 1808 p.next ws (λ zs. NumIn zs p.row b) → Settled 1808 p.next ws (λ zs. NumIn zs p.column c) → Settled 1808 (p.next + 5) ys (λ zs. LinIn zs p.next (model.term a g.number b c)))
    → Made x begin free 3 us ys (λ vs k. LinIn vs k (term_of ns (placed (times1 e w) (times2 e w) l))) (record { place = p.next; next = next; end = p.end })
times_made x us vs ws ys ns begin free z next w g e l n p r h k a i m q f t = record {
  onward = let y = m.onward in let o = q.onward in omega arith;
  inside = q.inside;
  short = q.short;
  words = let y = m.words in let o = q.words in omega arith;
  forward = let y = m.forward in let o = q.forward in omega arith;
  placed = let y = m.forward in let o = q.forward in (omega arith, omega arith);
  tree = λ o. subst (λ j. Settled 1808 j ys (λ zs. LinIn zs p.next (term_of ns (placed (times1 e w) (times2 e w) l)))) (sym f)
      (times_tree ys p.next (p.next + 5) ns w g e l i
      (t (num_of ns e) (row_of ns g l) (column_of ns g l) (settled_on n.next p.next vs ws _ k q.forward (m.tree o)) (q.row (zero_on free us vs r h o)) (q.column (zero_on free us vs r h o))));
}

-- the space behind a term belongs to it
pub spaced_made : (x us ws : List ℕ) (ns : Names) (begin free : ℕ) (t : Term) (n : Node) (f : Follow) (p : TermAt) → Spaced x n t f p → Made x begin free 3 us ws (λ vs k. LinIn vs k (term_of ns t)) n → TermMade x ns begin free us ws f p
spaced_made x us ws ns begin free t n f p s m = (
  t,
  s.told,
  record {
    onward = let y = m.onward in let o = s.onward in omega arith;
    inside = s.inside;
    short = s.short;
    words = let y = m.words in let o = s.onward in let e = s.next in omega arith;
    forward = let y = m.forward in let e = s.next in omega arith;
    placed = let y = m.placed in let e = s.next in let d = s.place in (omega arith, omega arith);
    tree = λ z. subst (λ k. Settled 1808 p.node.next ws (λ vs. LinIn vs k (term_of ns t))) (sym s.place) (subst (λ k. Settled 1808 k ws (λ vs. LinIn vs n.place (term_of ns t))) (sym s.next) (m.tree z));
  },
  λ b. let o = s.further b in let i = m.onward in let y = m.words in let e = s.next in (omega arith, omega arith),
)
