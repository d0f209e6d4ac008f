-- Expanded rows hold exactly if the constraints do. Assumes nothing.
use Rattle.std.proofs.Common.{◌≡◌, ℕ, zero, suc, ◌<◌, Bool, true, false, cond, List, [], ◌∷◌, ◌++◌, map, ℤ, pos, ◌+ℤ◌, ◌-ℤ◌, neg_ℤ, sym, refl, ap, ◌∙◌, subst, ap₂, ⊎_elim, le_of_suc-le-suc, eq-or-lt_of_le, arith}
use lib.IntN.{+ℤ_idl, +ℤ_idr}
use borrow.Author.Differences.{ints}
use Rattle.std.specs.List.{AllByRecursion}
use Rattle.std.proofs.ByRecursion.{All-append}
use Rattle.integer.specs.Sums.{total}
use Rattle.integer.proofs.Ring.{neg_mul}
use Rattle.model.specs.declared.Sign.{Sign}
use Rattle.model.specs.declared.Sign.TheVariants.{Positive, Negative}
use Rattle.model.specs.Model.{Lin, amount, term, sum_over, chain, nothing, Constraint, compare, for_all, Symbols}
use Rattle.model.specs.Meaning.{Assignment, number, passes, bound, size_of, present, signed, value, Compares, Meets}
use Rattle.model.specs.Rows.{Term, Affine, Row, constantly, turned, under, followed, all_followed, expanded, all_rows, rows, terms_value, affine_value, RowHolds}
use Rattle.model.specs.Claims.{ExpandedValue, ExpandedRows}
use Rattle.model.proofs.Comparisons.{moved, moved_back}

pub terms_value-++ : (x : Assignment) (s t : List Term) → terms_value x (s ++ t) ≡ terms_value x s +ℤ terms_value x t
unfolding terms_value
terms_value-++ x [] t = sym (+ℤ_idl (terms_value x t))
terms_value-++ x (a ∷ s) t = let ih = terms_value-++ x s t in omega (arith, ints)

pub terms_value_turned : (x : Assignment) (t : List Term) → terms_value x (map turned t) ≡ neg_ℤ (terms_value x t)
unfolding terms_value
terms_value_turned x [] = refl
terms_value_turned x (a ∷ t) = let ih = terms_value_turned x t in let n = neg_mul a.coefficient (x a.variable) in omega (arith, ints)

pub followed_value : (x : Assignment) (a b : Affine) → affine_value x (followed a b) ≡ affine_value x a +ℤ affine_value x b
followed_value x a b = omega (arith, ints, terms_value-++ x a.terms b.terms)

pub under_value : (x : Assignment) (g : Sign) (a : Affine) → affine_value x (under g a) ≡ signed g (affine_value x a)
under_value x Positive a = refl
under_value x Negative a = omega (arith, ints, terms_value_turned x a.terms)

all_followed_value : (x : Assignment) (f : ℕ → Affine) (v : ℕ → ℤ) → ((i : ℕ) → affine_value x (f i) ≡ v i) → (n : ℕ) → affine_value x (all_followed f n) ≡ total v n
unfolding all_followed total terms_value
all_followed_value x f v h zero = refl
all_followed_value x f v h (suc n) = followed_value x (all_followed f n) (f n) ∙ ap₂ ◌+ℤ◌ (all_followed_value x f v h n) (h n)

cond_value : (x : Assignment) (b : Bool) (a : Affine) (v : ℤ) → affine_value x a ≡ v → affine_value x (cond b a (constantly (pos 0))) ≡ cond b v (pos 0)
unfolding terms_value
cond_value x true a v h = h
cond_value x false a v h = refl

pub expanded_value : ExpandedValue
unfolding expanded value
expanded_value s x is (amount e) = unfold terms_value in +ℤ_idl (number s is e)
expanded_value s x is (term e k f g) =
    cond_value x (present s k (number s is f) (number s is g)) _ _ (unfold terms_value in +ℤ_idr _ ∙ +ℤ_idr _)
expanded_value s x is (sum_over k c l) =
    all_followed_value x _ _ (λ i. cond_value x (passes s (bound is i) c) _ _ (expanded_value s x (bound is i) l)) (size_of s k)
expanded_value s x is (chain g t l) =
    followed_value x (under g (expanded s is t)) (expanded s is l)
    ∙ ap₂ ◌+ℤ◌ (under_value x g (expanded s is t) ∙ ap (signed g) (expanded_value s x is t)) (expanded_value s x is l)
expanded_value s x is nothing = unfold terms_value in refl

all_parted : {X : Type 0} (P : X → Type 0) (xs ys : List X) → AllByRecursion P (xs ++ ys) → AllByRecursion P xs × AllByRecursion P ys
all_parted P [] ys a = (tt, a)
all_parted P (x ∷ xs) ys a = let r = all_parted P xs ys a.1 in ((a.0, r.0), r.1)

-- rows of each index below n
all_rows_in : (P : Row → Type 0) (f : ℕ → List Row) (n : ℕ) → ((i : ℕ) → i < n → AllByRecursion P (f i)) → AllByRecursion P (all_rows f n)
unfolding all_rows
all_rows_in P f zero h = tt
all_rows_in P f (suc n) h = All-append P (all_rows f n) (f n) (all_rows_in P f n (λ i l. h i (omega arith))) (h n (omega arith))

all_rows_out : (P : Row → Type 0) (f : ℕ → List Row) (n : ℕ) → AllByRecursion P (all_rows f n) → (i : ℕ) → i < n → AllByRecursion P (f i)
unfolding all_rows
all_rows_out P f zero a i h = absurd (omega arith)
all_rows_out P f (suc n) a i h =
    let s = all_parted P (all_rows f n) (f n) a in
    ⊎_elim (λ e. subst (λ j. AllByRecursion P (f j)) (sym e) s.1) (λ l. all_rows_out P f n s.0 i l) (eq-or-lt_of_le (le_of_suc-le-suc h))

cond_in : (P : Row → Type 0) (b : Bool) (ls : List Row) → (b ≡ true → AllByRecursion P ls) → AllByRecursion P (cond b ls [])
cond_in P true ls h = h refl
cond_in P false ls h = tt

cond_out : (P : Row → Type 0) (b : Bool) (ls : List Row) → AllByRecursion P (cond b ls []) → b ≡ true → AllByRecursion P ls
cond_out P b ls a e = subst (λ t. AllByRecursion P (cond t ls [])) e a

-- what a row of two sides comes to is the left one less the right one
pub sides_value : (s : Symbols) (x : Assignment) (is : List ℕ) (l r : Lin) → affine_value x (followed (expanded s is l) (under Negative (expanded s is r))) ≡ value s x is l -ℤ value s x is r
sides_value s x is l r =
    followed_value x (expanded s is l) (under Negative (expanded s is r))
    ∙ ap₂ ◌+ℤ◌ (expanded_value s x is l) (under_value x Negative (expanded s is r) ∙ ap neg_ℤ (expanded_value s x is r))

rows_in : (s : Symbols) (x : Assignment) (is : List ℕ) (c : Constraint) → Meets s x is c → AllByRecursion (RowHolds x) (rows s is c)
unfolding Meets rows
rows_in s x is (compare c l r) h = (subst (λ z. Compares c z (pos 0)) (sym (sides_value s x is l r)) (moved c _ _ h), tt)
rows_in s x is (for_all k c r) h =
    all_rows_in (RowHolds x) _ (size_of s k) (λ i l. cond_in (RowHolds x) (passes s (bound is i) c) (rows s (bound is i) r) (λ t. rows_in s x (bound is i) r (h i l t)))

rows_out : (s : Symbols) (x : Assignment) (is : List ℕ) (c : Constraint) → AllByRecursion (RowHolds x) (rows s is c) → Meets s x is c
unfolding Meets rows
rows_out s x is (compare c l r) h = moved_back c _ _ (subst (λ z. Compares c z (pos 0)) (sides_value s x is l r) h.0)
rows_out s x is (for_all k c r) h = λ i l t.
    rows_out s x (bound is i) r (cond_out (RowHolds x) (passes s (bound is i) c) (rows s (bound is i) r) (all_rows_out (RowHolds x) _ (size_of s k) h i l) t)

pub expanded_rows : ExpandedRows
expanded_rows s x is c = (rows_in s x is c, rows_out s x is c)
