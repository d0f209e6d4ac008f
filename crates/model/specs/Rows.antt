-- Expanded rows: sums and alls gone through one by one. Assumes nothing.
use Rattle.std.specs.Prelude.{ℕ, zero, suc, cond, List, [], ◌∷◌, ◌++◌, map, ℤ, pos, ◌+ℤ◌, ◌*ℤ◌, neg_ℤ}
use Rattle.model.specs.declared.Comparison.{Comparison}
use Rattle.model.specs.declared.Sign.{Sign}
use Rattle.model.specs.declared.Sign.TheVariants.{Positive, Negative}
use Rattle.model.specs.Model.{Lin, amount, term, sum_over, chain, nothing, Constraint, compare, for_all, Symbols}
use Rattle.model.specs.Meaning.{Assignment, number, passes, bound, size_of, present, variable, Compares}

-- a coefficient before a variable, by the variable's number
pub record Term : Type 0 where
  pub coefficient : ℤ
  pub variable : ℕ

-- terms in their order, two of one variable not put together, and one number
pub record Affine : Type 0 where
  pub terms : List Term
  pub constant : ℤ

-- a row is compared with 0
pub record Row : Type 0 where
  pub comparison : Comparison
  pub form : Affine

abbrev pub constantly : ℤ → Affine
constantly a = record { terms = []; constant = a }

abbrev pub turned : Term → Term
turned t = record { coefficient = neg_ℤ t.coefficient; variable = t.variable }

-- a form behind a sign
abbrev pub under : Sign → Affine → Affine
under Positive a = a
under Negative a = record { terms = map turned a.terms; constant = neg_ℤ a.constant }

-- one form and another behind it
abbrev pub followed : Affine → Affine → Affine
followed a b = record { terms = a.terms ++ b.terms; constant = a.constant +ℤ b.constant }

unfoldable pub all_followed : (ℕ → Affine) → ℕ → Affine
all_followed f zero = constantly (pos 0)
all_followed f (suc n) = followed (all_followed f n) (f n)

-- a linear sum, expanded: a variable beyond its array is left out
unfoldable pub expanded : Symbols → List ℕ → Lin → Affine
expanded s is (amount e) = constantly (number s is e)
expanded s is (term e k f g) =
    cond (present s k (number s is f) (number s is g))
    (record { terms = record { coefficient = number s is e; variable = variable s k (number s is f) (number s is g) } ∷ []; constant = pos 0 })
    (constantly (pos 0))
expanded s is (sum_over k c l) = all_followed (λ i. cond (passes s (bound is i) c) (expanded s (bound is i) l) (constantly (pos 0))) (size_of s k)
expanded s is (chain g t l) = followed (under g (expanded s is t)) (expanded s is l)
expanded s is nothing = constantly (pos 0)

unfoldable pub all_rows : (ℕ → List Row) → ℕ → List Row
all_rows f zero = []
all_rows f (suc n) = all_rows f n ++ f n

-- the rows of a constraint: the right side is brought to the left
unfoldable pub rows : Symbols → List ℕ → Constraint → List Row
rows s is (compare c l r) = record { comparison = c; form = followed (expanded s is l) (under Negative (expanded s is r)) } ∷ []
rows s is (for_all k c r) = all_rows (λ i. cond (passes s (bound is i) c) (rows s (bound is i) r) []) (size_of s k)

unfoldable pub terms_value : Assignment → List Term → ℤ
terms_value x [] = pos 0
terms_value x (t ∷ ts) = (t.coefficient *ℤ x t.variable) +ℤ terms_value x ts

abbrev pub affine_value : Assignment → Affine → ℤ
affine_value x a = terms_value x a.terms +ℤ a.constant

abbrev pub RowHolds : Assignment → Row → Type 0
RowHolds x r = Compares r.comparison (affine_value x r.form) (pos 0)
