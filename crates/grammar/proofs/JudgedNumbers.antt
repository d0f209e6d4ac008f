-- Numbers, judged. Assumes nothing.
use Rattle.std.proofs.Common.{◌≡◌, ℕ, zero, suc, ◌-◌, Bool, true, false, not, ◌&&◌, eqb, List, [], ◌∷◌, ◌++◌, drop, codes, refl, ⊎_elim}
use native.Mathlib.Numerals.{unary_clauses}
use Rattle.std.proofs.lemmas.Bool.{and_cases, eqb-false, not-false, true≢false}
use Rattle.model.specs.declared.Operator.{Operator}
use Rattle.model.specs.declared.Operator.TheVariants.{Plus, Minus, Times}
use Rattle.grammar.specs.Grammar.{is_letter, Word, IsName, nought, Num, fixed, index, entry1, entry2, joined, IsNum, operator_byte, num_text}
use Rattle.grammar.specs.Reading.{Got, byte, literal, small, Names, find, table_there, index_there, one_place, operator, place, named, fixed_at, pair, any_num, num}
use Rattle.grammar.specs.Fine.{FineNum}
use Rattle.grammar.proofs.Bytes.{drop_byte}
use Rattle.grammar.proofs.Places.{Span, span_none}
use Rattle.grammar.proofs.Judged.{Kind, Judged, judge_then, judge_last, judge_ok, judge_name_fault, judge_range_fault, judge_stop, judge_none, judge_cond, judge_byte, judge_more, Lit, judge_literal}
use Rattle.grammar.proofs.JudgedTokens.{Numerals, Called, judge_numeral, judge_name}

abbrev Operators : Kind
Operators = record { Tree = Operator; Is = λ _. Unit {0}; Sure = λ _ _. Unit {0}; text = λ o k. operator_byte o ∷ k }

judge_operator : (x : List ℕ) (at : ℕ) → Judged Operators x at (operator x at)
unfolding operator
judge_operator x at =
    judge_cond (eqb (byte x at) 43) (judge_byte Operators x at 43 Plus refl (λ _. tt) (λ _. refl)) (λ _.
    judge_cond (eqb (byte x at) 45) (judge_byte Operators x at 45 Minus refl (λ _. tt) (λ _. refl)) (λ _.
    judge_cond (eqb (byte x at) 42) (judge_byte Operators x at 42 Times refl (λ _. tt) (λ _. refl)) (λ _. judge_none Operators x at Plus tt)))

-- what is sure of a number that was read
abbrev pub SureNum : Names → ℕ → Num → Type 0
SureNum ns left t = IsNum t × FineNum ns left t

abbrev pub Nums : Names → ℕ → Kind
Nums ns left = record { Tree = Num; Is = IsNum; Sure = λ t _. SureNum ns left t; text = num_text }

abbrev pub 0! : Num
0! = fixed nought

-- a closing bracket, and that it stood there
abbrev Closing : List ℕ → ℕ → Kind
Closing x at = record { Tree = Unit {0}; Is = λ _. Unit {0}; Sure = λ _ _. byte x at ≡ 93; text = λ _ k. 93 ∷ k }

judge_closing : (x : List ℕ) (at : ℕ) → Judged (Closing x at) x at (literal x (93 ∷ []) at)
judge_closing x at = judge_more (Lit (93 ∷ [])) (λ _ _. byte x at ≡ 93) _ (λ _ e _ s. (drop_byte x (drop e x) at 93 s.here).0) (judge_literal x (93 ∷ []) at refl)

one_will_do : (b : ℕ) (enough : Bool) → b ≡ 93 → (eqb b 93 && not enough) ≡ false → enough ≡ true
one_will_do b enough e n = ⊎_elim (λ (z : eqb b 93 ≡ false). absurd (eqb-false b 93 z e)) (λ (z : not enough ≡ false). not-false enough z) (and_cases (eqb b 93) (not enough) n)

-- k1 and k2 make a tree of one place and of two, behind what C writes
pub judge_place : (S : Kind) (ns : Names) (x : List ℕ) (enough : Bool) (start left : ℕ) (inner : ℕ → Got Num) (k1 : Num → S.Tree) (k2 : Num → Num → S.Tree) {a : ℕ} (at : ℕ) {C : List ℕ → List ℕ}
    → Span x a at C → ((m : ℕ) → Judged (Nums ns (left - 1)) x m (inner m))
    → ((f : Num) → IsNum f → S.Is (k1 f)) → ((f g : Num) → IsNum f → IsNum g → S.Is (k2 f g))
    → ((f : Num) (e : ℕ) → eqb left 0 ≡ false → enough ≡ true → SureNum ns (left - 1) f → S.Sure (k1 f) e)
    → ((f g : Num) (e : ℕ) → eqb left 0 ≡ false → SureNum ns (left - 1) f → SureNum ns (left - 1) g → S.Sure (k2 f g) e)
    → ((f : Num) (k : List ℕ) → S.text (k1 f) k ≡ C (91 ∷ num_text f (93 ∷ k)))
    → ((f g : Num) (k : List ℕ) → S.text (k2 f g) k ≡ C (91 ∷ num_text f (44 ∷ 32 ∷ num_text g (93 ∷ k))))
    → Judged S x a (place x enough start left inner k1 k2 at)
unfolding place
judge_place S ns x enough start left inner k1 k2 at {C} s j i1 i2 y1 y2 w1 w2 =
    let A = Nums ns (left - 1) in
    judge_cond (eqb (byte x at) 91)
    (λ _.
    judge_cond (eqb left 0) (λ _. judge_range_fault) (λ l.
    judge_then (Lit (91 ∷ [])) S _ s (judge_literal x (91 ∷ []) at refl) (λ _. k1 0!) (λ k. codes "0]" ++ k) (λ _ _. i1 0! tt) (λ _ k. w1 0! k) (λ _ e _ s.
    judge_then A S _ s (j e) k1 (λ k. 93 ∷ k) i1 w1 (λ f m y s.
    judge_cond (eqb (byte x m) 44)
    (λ _.
    judge_then (Lit (codes ", ")) S _ s (judge_literal x (codes ", ") m refl) (λ _. k2 f 0!) (λ k. codes "0]" ++ k) (λ _ _. i2 f 0! y.0 tt) (λ _ k. w2 f 0! k) (λ _ e _ s.
    judge_then A S _ s (j e) (k2 f) (λ k. 93 ∷ k) (λ g h. i2 f g y.0 h) (w2 f) (λ g e z s.
    judge_last (Lit (93 ∷ [])) S s (judge_literal x (93 ∷ []) e refl) (λ _. k2 f g) (λ _ _. i2 f g y.0 z.0) (λ _ e _. y2 f g e l y z) (λ _ k. w2 f g k))))
    (λ _.
    judge_cond (eqb (byte x m) 93 && not enough) (λ _. judge_name_fault) (λ n.
    judge_last (Closing x m) S s (judge_closing x m) (λ _. k1 f) (λ _ _. i1 f y.0) (λ _ e b. y1 f e l (one_will_do (byte x m) enough b n) y) (λ _ k. w1 f k)))))))
    (λ _. judge_stop S C (λ k. codes "[0]" ++ k) s (k1 0!) (i1 0! tt) (w1 0!))

-- where a bracket may still be opened
fine_entry1 : (ns : Names) (left : ℕ) (w : Word) (f : Num) → eqb left 0 ≡ false → table_there (find w ns) ≡ true → one_place (find w ns) ≡ true → FineNum ns (left - 1) f → FineNum ns left (entry1 w f)
unfolding FineNum
fine_entry1 ns zero w f l t o y = absurd (true≢false l)
fine_entry1 ns (suc left) w f l t o y = (t, o, simp unary_clauses at y)

fine_entry2 : (ns : Names) (left : ℕ) (w : Word) (f g : Num) → eqb left 0 ≡ false → table_there (find w ns) ≡ true → FineNum ns (left - 1) f → FineNum ns (left - 1) g → FineNum ns left (entry2 w f g)
unfolding FineNum
fine_entry2 ns zero w f g l t y z = absurd (true≢false l)
fine_entry2 ns (suc left) w f g l t y z = (t, simp unary_clauses at y, simp unary_clauses at z)

fine_joined : (ns : Names) (left : ℕ) (o : Operator) (f g : Num) → eqb left 0 ≡ false → FineNum ns (left - 1) f → FineNum ns (left - 1) g → FineNum ns left (joined o f g)
unfolding FineNum
fine_joined ns zero o f g l y z = absurd (true≢false l)
fine_joined ns (suc left) o f g l y z = (simp unary_clauses at y, simp unary_clauses at z)

pub judge_named : (x : List ℕ) (ns : Names) (left : ℕ) (inner : ℕ → Got Num) (start : ℕ) (w : Word) (e : ℕ) → ((m : ℕ) → Judged (Nums ns (left - 1)) x m (inner m)) → IsName w → Span x start e (λ k. w ++ k)
    → Judged (Nums ns left) x start (named x ns left inner start w e)
unfolding named FineNum
judge_named x ns left inner start w e j i s =
    let S = Nums ns left in
    judge_cond (eqb (byte x e) 91)
    (λ _.
    judge_cond (table_there (find w ns))
    (λ t. judge_place S ns x (one_place (find w ns)) start left inner (entry1 w) (entry2 w) e s j (λ f h. (i, h)) (λ f g h k. (i, h, k))
    (λ f e l o y. ((i, y.0), fine_entry1 ns left w f l t o y.1)) (λ f g e l y z. ((i, y.0, z.0), fine_entry2 ns left w f g l t y.1 z.1)) (λ f k. refl) (λ f g k. refl))
    (λ _. judge_name_fault))
    (λ _. judge_cond (index_there (find w ns)) (λ y. judge_ok S (i, y) s) (λ _. judge_name_fault))

judge_fixed : (x : List ℕ) (ns : Names) (left at : ℕ) → Judged (Nums ns left) x at (fixed_at x at)
unfolding fixed_at FineNum
judge_fixed x ns left at =
    let S = Nums ns left in
    judge_then Numerals S _ (span_none x at) (judge_numeral x at) fixed (λ k. k) (λ n i. i) (λ n k. refl) (λ n e i s. judge_cond (small n) (λ y. judge_ok S (i, y) s) (λ _. judge_range_fault))

judge_pair : (x : List ℕ) (ns : Names) (left : ℕ) (inner : ℕ → Got Num) (at : ℕ) → ((m : ℕ) → Judged (Nums ns (left - 1)) x m (inner m)) → Judged (Nums ns left) x at (pair x left inner at)
unfolding pair
judge_pair x ns left inner at j =
    let S = Nums ns left in
    let A = Nums ns (left - 1) in
    judge_cond (eqb left 0) (λ _. judge_range_fault) (λ l.
    judge_then (Lit (codes "(")) S _ (span_none x at) (judge_literal x (codes "(") at refl) (λ _. joined Plus 0! 0!) (λ k. codes "0 + 0)" ++ k) (λ _ _. (tt, tt)) (λ _ k. refl) (λ _ e _ s.
    judge_then A S _ s (j e) (λ f. joined Plus f 0!) (λ k. codes " + 0)" ++ k) (λ f h. (h, tt)) (λ f k. refl) (λ f e y s.
    judge_then (Lit (codes " ")) S _ s (judge_literal x (codes " ") e refl) (λ _. joined Plus f 0!) (λ k. codes "+ 0)" ++ k) (λ _ _. (y.0, tt)) (λ _ k. refl) (λ _ e _ s.
    judge_then Operators S _ s (judge_operator x e) (λ o. joined o f 0!) (λ k. codes " 0)" ++ k) (λ _ _. (y.0, tt)) (λ _ k. refl) (λ o e _ s.
    judge_then (Lit (codes " ")) S _ s (judge_literal x (codes " ") e refl) (λ _. joined o f 0!) (λ k. codes "0)" ++ k) (λ _ _. (y.0, tt)) (λ _ k. refl) (λ _ e _ s.
    judge_then A S _ s (j e) (λ g. joined o f g) (λ k. codes ")" ++ k) (λ g h. (y.0, h)) (λ g k. refl) (λ g e z s.
    judge_last (Lit (codes ")")) S s (judge_literal x (codes ")") e refl) (λ _. joined o f g) (λ _ _. (y.0, z.0)) (λ _ _ _. ((y.0, z.0), fine_joined ns left o f g l y.1 z.1)) (λ _ k. refl))))))))

judge_any : (x : List ℕ) (ns : Names) (left : ℕ) (inner : ℕ → Got Num) (at : ℕ) → ((m : ℕ) → Judged (Nums ns (left - 1)) x m (inner m)) → Judged (Nums ns left) x at (any_num x ns left inner at)
unfolding any_num
judge_any x ns left inner at j =
    judge_cond (eqb (byte x at) 40) (λ _. judge_pair x ns left inner at j) (λ _.
    judge_cond (is_letter (byte x at))
    (λ _. judge_then Called (Nums ns left) _ (span_none x at) (judge_name x at) index (λ k. k) (λ w i. i) (λ w k. refl) (λ w e i s. judge_named x ns left inner at w e j i s))
    (λ _. judge_fixed x ns left at))

pub judge_num : (x : List ℕ) (ns : Names) (left at : ℕ) → Judged (Nums ns left) x at (num x ns left at)
unfolding num
judge_num x ns zero at = judge_any x ns 0 _ at (λ m. judge_range_fault)
judge_num x ns (suc left) at = judge_any x ns (suc left) _ at (λ m. simp unary_clauses (judge_num x ns left m))
