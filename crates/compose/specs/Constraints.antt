-- Constraints that are settled, from number k on. Assumes nothing.
use Rattle.std.specs.Prelude.{ℕ, suc, List, [], ◌∷◌}
use Rattle.model.specs.Model.{Constraint}
use Rattle.model.specs.Words.{constraint_place}
use Rattle.model.specs.Kept.{ConstraintIn}
use Rattle.compose.specs.Agree.{Settled}

abbrev pub ConstraintsSettled : ℕ → List ℕ → ℕ → List Constraint → Type 0
ConstraintsSettled n ws k [] = Unit {0}
ConstraintsSettled n ws k (c ∷ cs) = Settled 1808 n ws (λ us. ConstraintIn us (constraint_place ws k) c) × ConstraintsSettled n ws (suc k) cs
