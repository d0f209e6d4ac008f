-- What a model means turns on an assignment only at the model's variables. Assumes nothing.
use Rattle.std.proofs.Common.{◌≡◌, ℕ, ◌<◌, Bool, true, false, cond, List, [], get_or, ℤ, pos, ◌+ℤ◌, ◌*ℤ◌, ◌≤ℤ◌, refl, ap, subst, ap₂}
use Rattle.std.proofs.ByRecursion.{All-weaker}
use Rattle.integer.proofs.Sums.{total_same}
use Rattle.model.specs.Model.{Lin, amount, term, sum_over, chain, nothing, Constraint, compare, for_all, Symbols, Model}
use Rattle.model.specs.Meaning.{Assignment, number, passes, bound, size_of, variables, present, signed, value, Compares, Meets, Feasible, lowers, uppers, cost}
use Rattle.model.proofs.Numbering.{variable_below}

-- two assignments are the same at each variable below n
abbrev pub Agree : ℕ → Assignment → Assignment → Type 0
Agree n x y = (u : ℕ) → u < n → x u ≡ y u

-- what is asked only where a condition holds
cond_same : (b : Bool) (v w : ℤ) → (b ≡ true → v ≡ w) → cond b v (pos 0) ≡ cond b w (pos 0)
cond_same true v w h = h refl
cond_same false v w h = refl

pub value_same : (s : Symbols) (x y : Assignment) → Agree (variables s.arrays) x y → (is : List ℕ) (l : Lin) → value s x is l ≡ value s y is l
unfolding value
value_same s x y h is (amount e) = refl
value_same s x y h is (term e k f g) =
    cond_same (present s k (number s is f) (number s is g)) _ _ (λ p. ap (λ z. number s is e *ℤ z) (h _ (variable_below s k (number s is f) (number s is g) p)))
value_same s x y h is (sum_over k c l) =
    total_same _ _ (size_of s k) (λ i _. cond_same (passes s (bound is i) c) _ _ (λ _. value_same s x y h (bound is i) l))
value_same s x y h is (chain g t l) = ap₂ (λ a b. signed g a +ℤ b) (value_same s x y h is t) (value_same s x y h is l)
value_same s x y h is nothing = refl

pub cost_same : (m : Model) (x y : Assignment) → Agree (variables m.symbols.arrays) x y → cost m x ≡ cost m y
unfolding cost
cost_same m x y h = value_same m.symbols x y h [] m.objective

pub meets_same : (s : Symbols) (x y : Assignment) → Agree (variables s.arrays) x y → (is : List ℕ) (c : Constraint) → Meets s x is c → Meets s y is c
unfolding Meets
meets_same s x y h is (compare c l r) p =
    subst (λ z. Compares c z (value s y is r)) (value_same s x y h is l) (subst (Compares c (value s x is l)) (value_same s x y h is r) p)
meets_same s x y h is (for_all k c r) p = λ i l t. meets_same s x y h (bound is i) r (p i l t)

pub feasible_same : (m : Model) (x y : Assignment) → Agree (variables m.symbols.arrays) x y → Feasible m x → Feasible m y
feasible_same m x y h f = record {
  within = λ u l. subst (λ z. (get_or (lowers m.symbols) u (pos 0) ≤ℤ z) × (z ≤ℤ get_or (uppers m.symbols) u (pos 0))) (h u l) (f.within u l);
  meets = All-weaker (Meets m.symbols x []) (Meets m.symbols y []) (meets_same m.symbols x y h []) m.constraints f.meets;
}
