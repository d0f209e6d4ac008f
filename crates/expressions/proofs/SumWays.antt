-- Ways of reading a term, and a sum over a set. Assumes nothing.
use Rattle.std.proofs.Common.{◌≡◌, ℕ, zero, suc, ◌+◌, ◌-◌, ◌<◌, ◌≤◌, Bool, true, false, cond, eqb, List, length, get_or, Some, None, codes, Option, sym, refl, ap, ◌∙◌, subst, ⊎_elim, arith}
use Rattle.std.specs.Str.{bytes_eq}
use Rattle.std.proofs.lemmas.Slice.Eq.{bytes_eq-Decides}
use Rattle.std.proofs.lemmas.Bool.{cond-true, cond-false, eq-eqb, ne_eqb, cases_Bool, false≢true}
use Rattle.model.specs.declared.Sign.TheVariants.{Positive}
use Rattle.model.specs.Model as model
use Rattle.model.specs.Kept.{FilterIn, LinIn}
use Rattle.compose.specs.Agree.{Agree, Settled}
use Rattle.grammar.specs.declared.Refusal.{Refusal}
use Rattle.grammar.specs.declared.Refusal.TheVariants.{Syntax, Range}
use Rattle.grammar.specs.Grammar.{is_letter, Word, member, reserved, Cond, Term, Lin, sum_over}
use Rattle.grammar.specs.Reading.{Got, ok, bad, then, byte, literal, word, name, Names, find, a_set, set_there, free, num, named, lin, header, sum_at, term_then, condition, with_index}
use Rattle.grammar.specs.Says.{term_of, lin_behind, filter_of, number_of}
use Rattle.tokens.specs.declared.words.Reserved.{Reserved}
use Rattle.tokens.specs.declared.words.Reserved.TheVariants.{Set, Table, Unknown, Least, Wish, From, To, Where, Sum, All, And, Or, Then}
use Rattle.tokens.specs.Spelling.{Spells, spelled}
use Rattle.tokens.proofs.Steps.{then_ok, then_bad}
use Rattle.tokens.proofs.Named.{none_member}
use Rattle.expressions.specs.declared.Node.{Node}
use Rattle.expressions.specs.declared.Filter.{Filter}
use Rattle.expressions.specs.Made.{Made}
use Rattle.expressions.specs.Conditions.{BoundNames, bound_at, filter_at, FilterMade}
use Rattle.expressions.specs.Sums.{inner_of, deep_of, term_at, after_at, after_num_at, LinMade}
use Rattle.expressions.proofs.Ways.{then_then, then_same, then_cond, cond_same}
use Rattle.expressions.proofs.NumberTrees.{settled_on, zero_on}

pub deep_is : (nest : ℕ) → eqb nest 0 ≡ deep_of nest
deep_is zero = refl
deep_is (suc nest) = ne_eqb (suc nest) 0 (λ e. omega arith)

pub not_deep : (nest : ℕ) → deep_of nest ≡ false → 0 < nest
not_deep zero e = absurd (false≢true (sym e))
not_deep (suc nest) e = omega arith

pub inner_is : (x : List ℕ) (most nest : ℕ) → 0 < nest → inner_of x most nest ≡ lin x most (nest - 1)
inner_is x most zero l = absurd (omega arith)
inner_is x most (suc nest) l = let z : nest ≡ suc nest - 1 = omega arith in ap (lin x most) z

-- HEADERS

pub header_as : (x : List ℕ) (ns : Names) (left turns : ℕ) (deep : Bool) (start at : ℕ)
    → header x ns left turns deep start at ≡ then (bound_at x ns deep start at) (λ b e. then (filter_at x (with_index b.index ns) left turns e) (λ d z. ok (record { set = b.set; name = b.index; filter = d }) z))
unfolding header bound_at filter_at then
header_as x ns left turns deep start at =
    then_same (literal x (codes " ") at) _ _ (λ _ a.
    cond_same deep refl
    (then_same (name x a) _ _ (λ s m.
    cond_same (set_there (find s ns))
    (then_same (literal x (codes " ") m) _ _ (λ _ b.
    then_same (name x b) _ _ (λ i e.
    cond_same (free i ns)
    (cond_same (eqb (byte x e) 32)
    (then_same (literal x (codes " where ") e) _ _ (λ _ m.
    then_same (condition x (num x (with_index i ns) left) turns m) _ _ (λ c m. sym (then_then (literal x (codes ": ") m) _ _))
    ∙ sym (then_then (condition x (num x (with_index i ns) left) turns m) _ _))
    ∙ sym (then_then (literal x (codes " where ") e) _ _))
    (sym (then_then (literal x (codes ": ") e) _ _))
    ∙ sym (then_cond (eqb (byte x e) 32) _ _ _))
    refl
    ∙ sym (then_cond (free i ns) _ _ _))
    ∙ sym (then_then (name x b) _ _))
    ∙ sym (then_then (literal x (codes " ") m) _ _))
    refl
    ∙ sym (then_cond (set_there (find s ns)) _ _ _))
    ∙ sym (then_then (name x a) _ _))
    ∙ sym (then_cond deep _ _ _))
    ∙ sym (then_then (literal x (codes " ") at) _ _)

-- SUMS over sets

-- behind the colon
unfoldable pub body_at : List ℕ → Names → ℕ → (Names → ℕ → ℕ → Got Lin) → BoundNames → Option Cond → ℕ → Got Term
body_at x ns left inner b d y =
    cond (eqb (byte x y) 40)
    (cond (eqb left 0) (bad (Range y))
    (then (literal x (codes "(") y) (λ _ z.
    then (inner (with_index b.index ns) (left - 1) z) (λ l m.
    then (literal x (codes ")") m) (λ _ q. ok (sum_over b.set b.index d l) q)))))
    (bad (Syntax y))

pub sum_as : (x : List ℕ) (ns : Names) (left turns : ℕ) (deep : Bool) (inner : Names → ℕ → ℕ → Got Lin) (start at : ℕ)
    → sum_at x ns left turns deep inner start at ≡ then (bound_at x ns deep start at) (λ b e. then (filter_at x (with_index b.index ns) left turns e) (λ d y. body_at x ns left inner b d y))
unfolding sum_at body_at then
sum_as x ns left turns deep inner start at =
    ap (λ o. then o (λ h y. cond (eqb (byte x y) 40) (cond (eqb left 0) (bad (Range y)) (then (literal x (codes "(") y) (λ _ z. then (inner (with_index h.name ns) (left - 1) z) (λ l m. then (literal x (codes ")") m) (λ _ q. ok (sum_over h.set h.name h.filter l) q))))) (bad (Syntax y))))
    (header_as x ns left turns deep start at)
    ∙ then_then (bound_at x ns deep start at) _ _
    ∙ then_same (bound_at x ns deep start at) _ _ (λ b e. then_then (filter_at x (with_index b.index ns) left turns e) _ _)

module _ (x : List ℕ) (ns : Names) (left : ℕ) (inner : Names → ℕ → ℕ → Got Lin) (b : BoundNames) (d : Option Cond) (y : ℕ) where
  pub body_none : (byte x y ≡ 40 → ⊥) → body_at x ns left inner b d y ≡ bad (Syntax y)
  unfolding body_at
  body_none n = cond-false (eqb (byte x y) 40) _ _ (ne_eqb (byte x y) 40 n)

  pub body_deep : byte x y ≡ 40 → left ≡ 0 → body_at x ns left inner b d y ≡ bad (Range y)
  unfolding body_at
  body_deep e z = cond-true (eqb (byte x y) 40) _ _ (eq-eqb (byte x y) 40 e) ∙ cond-true (eqb left 0) _ _ (eq-eqb left 0 z)

  pub body_open : byte x y ≡ 40 → (left ≡ 0 → ⊥) → body_at x ns left inner b d y
      ≡ then (literal x (codes "(") y) (λ _ z. then (inner (with_index b.index ns) (left - 1) z) (λ l m. then (literal x (codes ")") m) (λ _ q. ok (sum_over b.set b.index d l) q)))
  unfolding body_at
  body_open e n = cond-true (eqb (byte x y) 40) _ _ (eq-eqb (byte x y) 40 e) ∙ cond-false (eqb left 0) _ _ (ne_eqb left 0 n)

-- us, vs, ws, ys: before the sum, behind its condition, behind its body, behind its node
pub sum_made : (x us vs ws ys : List ℕ) (ns ms : Names) (start at first free next end k : ℕ) (b : BoundNames) (d : Option Cond) (l : Lin) (p : Filter) (q : Node) → start + 7 ≤ at → first ≡ p.end + 1 → end ≡ q.end + 1 → end ≤ length x → end ≤ 65536
    → 1810 ≤ free → find b.set ns ≡ Some (a_set k) → ms ≡ with_index b.index ns → FilterMade x ms at free us vs d p → LinMade x ms first p.next vs ws l q → Agree 0 free us vs → Agree 0 p.next vs ws → next ≡ q.next + 4
    → ((c : Option model.Cond) (a : model.Lin) → Settled 1808 q.next ws (λ zs. FilterIn zs p.condition c) → Settled 1808 q.next ws (λ zs. LinIn zs q.place a) → Settled 1808 (q.next + 4) ys (λ zs. LinIn zs q.next (model.sum_over k c a)))
    → Made x start free 3 us ys (λ vs k. LinIn vs k (term_of ns (sum_over b.set b.index d l))) (record { place = q.next; next = next; end = end })
unfolding term_of
sum_made x us vs ws ys ns ms start at first free next end k b d l p q a o e i s r f g m w h j n t = record {
  onward = let y = m.onward in let z = w.onward in omega arith;
  inside = i;
  short = s;
  words = let y = m.words in let z = w.words in omega arith;
  forward = let y = m.forward in let z = w.forward in omega arith;
  placed = let y = m.forward in let z = w.forward in (omega arith, omega arith);
  tree = λ z.
      let u = settled_on p.next q.next vs ws _ j w.forward (m.tree z) in
      let v = w.tree (zero_on free us vs r h z) in
      subst (λ i. Settled 1808 i ys (λ zs. LinIn zs q.next (model.sum_over (number_of (find b.set ns)) (filter_of (with_index b.index ns) d) (lin_behind Positive (with_index b.index ns) l)))) (sym n)
      (subst (λ y. Settled 1808 (q.next + 4) ys (λ zs. LinIn zs q.next (model.sum_over (number_of y) (filter_of (with_index b.index ns) d) (lin_behind Positive (with_index b.index ns) l)))) (sym f)
      (subst (λ y. Settled 1808 (q.next + 4) ys (λ zs. LinIn zs q.next (model.sum_over k (filter_of y d) (lin_behind Positive y l)))) g (t (filter_of ms d) (lin_behind Positive ms l) u v)));
}

-- TERMS

-- only `sum` is spelled so
pub is_sum : (w : Reserved) → spelled w ≡ codes "sum" → w ≡ Sum
is_sum Set e = let y = ap (λ l. get_or l 0 0) e in let z = ap (λ l. get_or l 1 0) e in absurd (omega arith)
is_sum Table e = let y = ap (λ l. get_or l 0 0) e in let z = ap (λ l. get_or l 1 0) e in absurd (omega arith)
is_sum Unknown e = let y = ap (λ l. get_or l 0 0) e in let z = ap (λ l. get_or l 1 0) e in absurd (omega arith)
is_sum Least e = let y = ap (λ l. get_or l 0 0) e in let z = ap (λ l. get_or l 1 0) e in absurd (omega arith)
is_sum Wish e = let y = ap (λ l. get_or l 0 0) e in let z = ap (λ l. get_or l 1 0) e in absurd (omega arith)
is_sum From e = let y = ap (λ l. get_or l 0 0) e in let z = ap (λ l. get_or l 1 0) e in absurd (omega arith)
is_sum To e = let y = ap (λ l. get_or l 0 0) e in let z = ap (λ l. get_or l 1 0) e in absurd (omega arith)
is_sum Where e = let y = ap (λ l. get_or l 0 0) e in let z = ap (λ l. get_or l 1 0) e in absurd (omega arith)
is_sum Sum e = refl
is_sum All e = let y = ap (λ l. get_or l 0 0) e in let z = ap (λ l. get_or l 1 0) e in absurd (omega arith)
is_sum And e = let y = ap (λ l. get_or l 0 0) e in let z = ap (λ l. get_or l 1 0) e in absurd (omega arith)
is_sum Or e = let y = ap (λ l. get_or l 0 0) e in let z = ap (λ l. get_or l 1 0) e in absurd (omega arith)
is_sum Then e = let y = ap (λ l. get_or l 0 0) e in let z = ap (λ l. get_or l 1 0) e in absurd (omega arith)

pub differs : (v w : Word) → (v ≡ w → ⊥) → bytes_eq v w ≡ false
differs v w n = ⊎_elim (λ (t : bytes_eq v w ≡ true). absurd (n ((bytes_eq-Decides v w).0 t))) (λ (t : bytes_eq v w ≡ false). t) (cases_Bool (bytes_eq v w))

module _ (x : List ℕ) (ns : Names) (left most nest at : ℕ) where
  pub term_number : is_letter (byte x at) ≡ false → term_at x ns left most nest at ≡ then (num x ns left at) (λ n m. after_num_at x ns left n m)
  unfolding term_then
  term_number l = cond-false (is_letter (byte x at)) _ _ l

  pub term_broken : (q : Refusal) → is_letter (byte x at) ≡ true → word x at ≡ bad q → term_at x ns left most nest at ≡ bad q
  unfolding term_then
  term_broken q l h = cond-true (is_letter (byte x at)) _ _ l ∙ then_bad _ h

  module _ (w : Word) (e : ℕ) (l : is_letter (byte x at) ≡ true) (h : word x at ≡ ok w e) where
    pub term_name : Spells w None → term_at x ns left most nest at ≡ then (named x ns left (num x ns (left - 1)) at w e) (λ n m. after_num_at x ns left n m)
    unfolding term_then
    term_name n =
        cond-true (is_letter (byte x at)) _ _ l
        ∙ then_ok _ h
        ∙ cond-false (bytes_eq w (codes "sum")) _ _ (differs w (codes "sum") (n Sum))
        ∙ cond-false (bytes_eq w (codes "all")) _ _ (differs w (codes "all") (n All))
        ∙ cond-false (member w reserved) _ _ (none_member w n)

    pub term_sum : w ≡ codes "sum" → term_at x ns left most nest at ≡ then (sum_at x ns left most (deep_of nest) (inner_of x most nest) at e) (λ t m. after_at x t m)
    unfolding term_then
    term_sum i = cond-true (is_letter (byte x at)) _ _ l ∙ then_ok _ h ∙ cond-true (bytes_eq w (codes "sum")) _ _ ((bytes_eq-Decides w (codes "sum")).1 i)

    pub term_stop : (w ≡ codes "sum" → ⊥) → member w reserved ≡ true → term_at x ns left most nest at ≡ bad (Syntax e)
    unfolding term_then
    term_stop n i = cond-true (is_letter (byte x at)) _ _ l ∙ then_ok _ h ∙ cond-false (bytes_eq w (codes "sum")) _ _ (differs w (codes "sum") n) ∙ go (bytes_eq w (codes "all")) where
      go : (c : Bool) → cond c (bad (Syntax e)) (cond (member w reserved) (bad (Syntax e)) (then (named x ns left (num x ns (left - 1)) at w e) (λ n m. after_num_at x ns left n m))) ≡ bad (Syntax e)
      go true = refl
      go false = cond-true (member w reserved) _ _ i
