-- Ways of reading a comparison and a constraint. Assumes nothing.
use Rattle.std.proofs.Common.{◌≡◌, ℕ, zero, suc, ◌+◌, ◌-◌, ◌*◌, ◌<◌, ◌≤◌, Bool, true, false, cond, ◌&&◌, ltb, leb, List, length, Some, codes, Option, sym, refl, ap, ◌∙◌, subst, arith}
use Rattle.std.specs.Str.{bytes_eq}
use Rattle.model.specs.declared.Sign.{Sign}
use Rattle.model.specs.declared.Sign.TheVariants.{Positive}
use Rattle.model.specs.declared.Comparison.{Comparison}
use Rattle.model.specs.Model as model
use Rattle.model.specs.Kept.{LinIn, FilterIn, ConstraintIn}
use Rattle.compose.specs.Agree.{Agree, Settled}
use Rattle.grammar.specs.declared.Refusal.TheVariants.{Syntax}
use Rattle.grammar.specs.Grammar.{is_letter, Word, Cond, Lin, Row, compare, for_all}
use Rattle.grammar.specs.Reading.{ok, bad, then, byte, in_length, run_at, literal, word, Names, find, a_set, lin, comparison, row, with_index}
use Rattle.grammar.specs.Says.{term_of, lin_behind, left_of, right_of, comparison_of, row_of, filter_of, number_of}
use Rattle.expressions.specs.declared.Node.{Node}
use Rattle.expressions.specs.declared.Filter.{Filter}
use Rattle.expressions.specs.declared.Run.{Run}
use Rattle.expressions.specs.declared.Chain.{Chain}
use Rattle.expressions.specs.Made.{Zero}
use Rattle.expressions.specs.Conditions.{BoundNames, bound_at, filter_at, FilterMade}
use Rattle.expressions.specs.Sums.{deep_of, Terms, run_end, run_more, spaced_of, sum_of, sides_of, terms_at, sides_at, Item, Stacked, chained, TermsMade, LinMade, RowMade}
use Rattle.expressions.proofs.Ways.{then_then, then_same, then_cond, cond_same}
use Rattle.expressions.proofs.NumberTrees.{settled_on, zero_on}
use Rattle.expressions.proofs.Follows.{row_plain, row_all, body_of}
use Rattle.expressions.proofs.SumWays.{header_as}

-- CONSTRAINTS

module _ (x : List ℕ) (most nest : ℕ) (ns : Names) (at : ℕ) where
  pub row_sides : ((w : Word) (e : ℕ) → word x at ≡ ok w e → bytes_eq w (codes "all") ≡ false) → row x most nest ns at ≡ sides_at x ns most nest at
  unfolding sides_at then
  row_sides h =
      row_plain x most nest ns at h
      ∙ then_then (terms_at x ns 64 most nest (suc most) at) _ _
      ∙ then_same (terms_at x ns 64 most nest (suc most) at) _ _ (λ r e.
      then_cond (spaced_of r) _ _ _
      ∙ cond_same (spaced_of r)
      (then_then (comparison x e) _ _
      ∙ then_same (comparison x e) _ _ (λ c m.
      then_then (literal x (codes " ") m) _ _
      ∙ then_same (literal x (codes " ") m) _ _ (λ _ m. then_then (lin x most nest ns 64 m) _ _)))
      refl)

  pub row_over : (e : ℕ) → is_letter (byte x at) ≡ true → word x at ≡ ok (codes "all") e
      → row x most nest ns at ≡ then (bound_at x ns (deep_of nest) at e) (λ b e. then (filter_at x (with_index b.index ns) 64 most e) (λ d y. then (body_of x most nest (with_index b.index ns) y) (λ r z. ok (for_all b.set b.index d r) z)))
  unfolding then
  row_over e l h =
      row_all x most nest ns at e l h
      ∙ ap (λ o. then o (λ h y. then (body_of x most nest (with_index h.name ns) y) (λ r z. ok (for_all h.set h.name h.filter r) z))) (header_as x ns 64 most (deep_of nest) at e)
      ∙ then_then (bound_at x ns (deep_of nest) at e) _ _
      ∙ then_same (bound_at x ns (deep_of nest) at e) _ _ (λ b m. then_then (filter_at x (with_index b.index ns) 64 most m) _ _)

pub body_is : (x : List ℕ) (most nest : ℕ) → 0 < nest → body_of x most nest ≡ row x most (nest - 1)
body_is x most zero l = absurd (omega arith)
body_is x most (suc nest) l = let z : nest ≡ suc nest - 1 = omega arith in ap (row x most) z

-- TREES

-- the left side of a comparison is the sum of its terms
left_is : (ns : Names) (h : Sign) (c : Comparison) (l : Lin) (r : Terms) → left_of h ns (sides_of c l r) ≡ lin_behind h ns (sum_of r)
unfolding left_of lin_behind
left_is ns h c l (run_end t b) = refl
left_is ns h c l (run_more t g r) = ap (model.chain h (term_of ns t)) (left_is ns g c l r)

right_is : (ns : Names) (c : Comparison) (l : Lin) (r : Terms) → right_of ns (sides_of c l r) ≡ lin_behind Positive ns l
unfolding right_of
right_is ns c l (run_end t b) = refl
right_is ns c l (run_more t g r) = right_is ns c l r

sign_is : (c : Comparison) (l : Lin) (r : Terms) → comparison_of (sides_of c l r) ≡ c
unfolding comparison_of
sign_is c l (run_end t b) = refl
sign_is c l (run_more t g r) = sign_is c l r

pub sides_is : (ns : Names) (c : Comparison) (l : Lin) (r : Terms) → row_of ns (compare (sides_of c l r)) ≡ model.compare c (lin_behind Positive ns (sum_of r)) (lin_behind Positive ns l)
unfolding row_of
sides_is ns c l r =
    ap (λ d. model.compare d (left_of Positive ns (sides_of c l r)) (right_of ns (sides_of c l r))) (sign_is c l r)
    ∙ ap (λ a. model.compare c a (right_of ns (sides_of c l r))) (left_is ns Positive c l r)
    ∙ ap (model.compare c (lin_behind Positive ns (sum_of r))) (right_is ns c l r)

-- a word begins with a letter
letter : (x : List ℕ) (at : ℕ) (w : Word) (e : ℕ) → word x at ≡ ok w e → is_letter (byte x at) ≡ true
unfolding word
letter x at w e h = go (is_letter (byte x at)) h where
  go : (b : Bool) → cond b (cond (ltb 12 (length (run_at x at)) && leb (at + 12) 65536) (bad (Syntax (at + 12))) (in_length (run_at x at) (at + length (run_at x at)))) (bad (Syntax at)) ≡ ok w e → b ≡ true
  go true i = refl
  go false i = let y : ◌≡◌ {A = ℕ} 0 1 = cc in absurd (omega arith)

-- us, vs, ws, ys, zs: before the constraint, behind its terms, its chain, its right side, its node
pub sides_made : (x us vs ws ys zs ps : List ℕ) (ns : Names) (at here free next : ℕ) (o : Comparison) (r : Terms) (l : Lin) (p : Run) (q : Chain) (n : Node) → 1810 ≤ free → p.end + 2 ≤ here → next ≡ n.next + 3 → Agree 0 free us vs → Agree 0 p.next vs ws → Agree 0 q.next ws ys
    → TermsMade x ns at free ps vs r p → p.spaced ≡ true → 2 * q.next ≡ 2 * p.next + 3 * p.top → (1808 ≤ q.place) × (q.place < q.next)
    → ((is : List Item) → Stacked ps p.next vs is p.top → Zero vs → Settled 1808 q.next ws (λ ks. LinIn ks q.place (chained is model.nothing))) → LinMade x ns here q.next ws ys l n
    → ((a b : model.Lin) → Settled 1808 n.next ys (λ ks. LinIn ks q.place a) → Settled 1808 n.next ys (λ ks. LinIn ks n.place b) → Settled 1808 (n.next + 3) zs (λ ks. ConstraintIn ks n.next (model.compare o a b)))
    → RowMade x ns at free us zs (compare (sides_of o l r)) (record { place = n.next; next = next; end = n.end })
sides_made x us vs ws ys zs ps ns at here free next o r l p q n i a f s h k m b e c t w y =
    let (is, st, g, j) = m.waiting in
    let fm = m.forward in
    let fw = w.forward in
    record {
      onward = let u = m.onward in let v = w.onward in omega arith;
      inside = w.inside;
      short = w.short;
      words = let u = m.sharp b in let v = w.words in omega arith;
      forward = omega arith;
      placed = (omega arith, omega arith);
      tree = λ z.
          let zv = zero_on free us vs i s z in
          let zw = zero_on p.next vs ws (omega arith) h zv in
          let first = subst (λ d. Settled 1808 q.next ws (λ ks. LinIn ks q.place d)) j (t is st zv) in
          subst (λ d. Settled 1808 next zs (λ ks. ConstraintIn ks n.next d)) (sym (sides_is ns o l r))
          (subst (λ d. Settled 1808 d zs (λ ks. ConstraintIn ks n.next (model.compare o (lin_behind Positive ns (sum_of r)) (lin_behind Positive ns l)))) (sym f)
          (y (lin_behind Positive ns (sum_of r)) (lin_behind Positive ns l) (settled_on q.next n.next ws ys _ k fw first) (w.tree zw)));
    }

-- us, vs, ws, ys: before the constraint, behind its condition, its body, its node
pub all_made : (x us vs ws ys : List ℕ) (ns ms : Names) (start at free next k : ℕ) (b : BoundNames) (d : Option Cond) (r : Row) (p : Filter) (q : Node) → start + 7 ≤ at → 1810 ≤ free → find b.set ns ≡ Some (a_set k) → ms ≡ with_index b.index ns
    → FilterMade x ms at free us vs d p → RowMade x ms p.end p.next vs ws r q → Agree 0 free us vs → Agree 0 p.next vs ws → next ≡ q.next + 4
    → ((c : Option model.Cond) (a : model.Constraint) → Settled 1808 q.next ws (λ zs. FilterIn zs p.condition c) → Settled 1808 q.next ws (λ zs. ConstraintIn zs q.place a) → Settled 1808 (q.next + 4) ys (λ zs. ConstraintIn zs q.next (model.for_all k c a)))
    → RowMade x ns start free us ys (for_all b.set b.index d r) (record { place = q.next; next = next; end = q.end })
unfolding row_of
all_made x us vs ws ys ns ms start at free next k b d r p q a i f g m w h j n t = record {
  onward = let y = m.onward in let z = w.onward in omega arith;
  inside = w.inside;
  short = w.short;
  words = let y = m.words in let z = w.words in omega arith;
  forward = let y = m.forward in let z = w.forward in omega arith;
  placed = let y = m.forward in let z = w.forward in (omega arith, omega arith);
  tree = λ z.
      let u = settled_on p.next q.next vs ws _ j w.forward (m.tree z) in
      let v = w.tree (zero_on free us vs i h z) in
      subst (λ i. Settled 1808 i ys (λ zs. ConstraintIn zs q.next (model.for_all (number_of (find b.set ns)) (filter_of (with_index b.index ns) d) (row_of (with_index b.index ns) r)))) (sym n)
      (subst (λ y. Settled 1808 (q.next + 4) ys (λ zs. ConstraintIn zs q.next (model.for_all (number_of y) (filter_of (with_index b.index ns) d) (row_of (with_index b.index ns) r)))) (sym f)
      (subst (λ y. Settled 1808 (q.next + 4) ys (λ zs. ConstraintIn zs q.next (model.for_all k (filter_of y d) (row_of y r)))) g (t (filter_of ms d) (row_of ms r) u v)));
}
