-- What is told of one byte that means something. Assumes nothing.
use Rattle.std.specs.Prelude.{◌≡◌, ℕ, ◌<◌, ◌≤◌, List, length}
use Rattle.expressions.specs.declared.At.{At}

-- what code tells of a relation, a comparison, an operator or a sign
abbrev pub Stands : {A : Type 0} → List ℕ → ℕ → A → At A → Type 0
Stands x at a p = (a ≡ p.value) × (at < p.end) × (p.end ≤ length x) × (p.end ≤ 65536)
