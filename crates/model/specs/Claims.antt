-- What is claimed of models, each a statement whose proof is owed. Assumes nothing.
use Rattle.std.specs.Prelude.{◌≡◌, ℕ, Bool, true, false, List, ◌∷◌, ℤ, ◌≤ℤ◌, Some}
use Rattle.std.specs.List.{AllByRecursion}
use Rattle.model.specs.Model.{Num, Cond, Lin, Constraint, Symbols, Model}
use Rattle.model.specs.Meaning.{Assignment, number, holds, value, Meets, cost, best, Right}
use Rattle.model.specs.Rows.{expanded, affine_value, rows, RowHolds}
use Rattle.model.specs.Evaluation.{worked_number, worked_condition, worked_constraint, worked_cost}
use Rattle.model.specs.Kept.{Keeps}
use Rattle.model.specs.Worked.{Case, worked_models}

-- an expanded sum comes to what the sum comes to
abbrev pub ExpandedValue : Type 0
ExpandedValue = (s : Symbols) (x : Assignment) (is : List ℕ) (l : Lin) → affine_value x (expanded s is l) ≡ value s x is l

-- expanded rows hold exactly if the constraint is met
abbrev pub ExpandedRows : Type 0
ExpandedRows =
    (s : Symbols) (x : Assignment) (is : List ℕ) (c : Constraint) → (Meets s x is c → AllByRecursion (RowHolds x) (rows s is c)) × (AllByRecursion (RowHolds x) (rows s is c) → Meets s x is c)

-- without one of its constraints a model's best costs no more
abbrev pub FewerConstraints : Type 0
FewerConstraints =
    (m : Model) (c : Constraint) (x y : Assignment) →
    Right (record { symbols = m.symbols; constraints = c ∷ m.constraints; objective = m.objective }) (best x) → Right m (best y) → cost m y ≤ℤ cost m x

-- each worked model's outcome is right
abbrev pub WorkedRight : Type 0
WorkedRight = AllByRecursion (λ (c : Case). Right c.model c.outcome) worked_models

-- what is worked out step by step is what is meant
pub record WorkedOut : Type 0 where
  pub numbers : (s : Symbols) (is : List ℕ) (e : Num) (a : ℤ) → worked_number s is e ≡ Some a → a ≡ number s is e
  pub conditions : (s : Symbols) (is : List ℕ) (c : Cond) (b : Bool) → worked_condition s is c ≡ Some b → b ≡ holds s is c
  pub met : (s : Symbols) (x : Assignment) (is : List ℕ) (c : Constraint) → worked_constraint s x is c ≡ Some true → Meets s x is c
  pub unmet : (s : Symbols) (x : Assignment) (is : List ℕ) (c : Constraint) → worked_constraint s x is c ≡ Some false → Meets s x is c → ⊥
  pub costs : (m : Model) (x : Assignment) (a : ℤ) → worked_cost m x ≡ Some a → a ≡ cost m x

-- words keep one model at most
abbrev pub OneModel : Type 0
OneModel = (ws : List ℕ) (m n : Model) → Keeps ws m → Keeps ws n → m ≡ n
