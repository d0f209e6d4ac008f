-- Models in bounds: as many sets, tables, arrays and constraints as there may be, of sizes as they may have; numbers in range; indexes that are bound; sums and alls at most 8 deep. Assumes nothing.
use Rattle.std.specs.Prelude.{◌≡◌, ℕ, suc, ◌*◌, ◌<◌, ◌≤◌, List, length, pos, neg_ℤ, ◌≤ℤ◌, Some, None, Option, unsigned_abs}
use Rattle.std.specs.List.{AllByRecursion}
use Rattle.model.specs.Model.{Num, fixed, index, entry, joined, Cond, relate, both, Lin, amount, term, sum_over, chain, nothing, Constraint, compare, for_all, Table, Array, Symbols, Model}
use Rattle.model.specs.Kept.{depth, sum_depth}
use Rattle.grammar.specs.Says.{Says}

-- with n indexes in force
unfoldable pub NumFits : Symbols → ℕ → Num → Type 0
NumFits s n (fixed a) = unsigned_abs a < 1000000
NumFits s n (index l) = l < n
NumFits s n (entry t e f) = (t < length s.tables) × NumFits s n e × NumFits s n f
NumFits s n (joined o e f) = NumFits s n e × NumFits s n f

unfoldable pub CondFits : Symbols → ℕ → Cond → Type 0
CondFits s n (relate r e f) = NumFits s n e × NumFits s n f
CondFits s n (both c d) = CondFits s n c × CondFits s n d

unfoldable pub FilterFits : Symbols → ℕ → Option Cond → Type 0
FilterFits s n None = Unit {0}
FilterFits s n (Some c) = CondFits s n c

unfoldable pub LinFits : Symbols → ℕ → Lin → Type 0
LinFits s n (amount e) = NumFits s n e
LinFits s n (term e a f g) = NumFits s n e × (a < length s.arrays) × NumFits s n f × NumFits s n g
LinFits s n (sum_over k c l) = (k < length s.sets) × FilterFits s (suc n) c × LinFits s (suc n) l
LinFits s n (chain g t l) = LinFits s n t × LinFits s n l
LinFits s n nothing = Unit {0}

unfoldable pub ConstraintFits : Symbols → ℕ → Constraint → Type 0
ConstraintFits s n (compare c l r) = LinFits s n l × LinFits s n r
ConstraintFits s n (for_all k c r) = (k < length s.sets) × FilterFits s (suc n) c × ConstraintFits s (suc n) r

pub record TableFits (t : Table) : Type 0 where
  pub rows : (1 ≤ t.rows) × (t.rows ≤ 1000)
  pub columns : (1 ≤ t.columns) × (t.columns ≤ 1000)
  pub count : length t.numbers ≡ t.rows * t.columns
  pub numbers : AllByRecursion (λ a. unsigned_abs a < 1000000) t.numbers

pub record ArrayFits (a : Array) : Type 0 where
  pub rows : (1 ≤ a.rows) × (a.rows ≤ 1000)
  pub columns : (1 ≤ a.columns) × (a.columns ≤ 1000)
  pub bounds : (neg_ℤ (pos 1000000) ≤ℤ a.lower) × (a.lower ≤ℤ a.upper) × (a.upper ≤ℤ pos 1000000)

pub record Fits (m : Model) : Type 0 where
  pub sets : (length m.symbols.sets ≤ 16) × AllByRecursion (λ n. n ≤ 1000) m.symbols.sets
  pub tables : (length m.symbols.tables ≤ 16) × AllByRecursion TableFits m.symbols.tables
  pub arrays : (1 ≤ length m.symbols.arrays) × (length m.symbols.arrays ≤ 16) × AllByRecursion ArrayFits m.symbols.arrays
  pub constraints : (length m.constraints ≤ 256) × AllByRecursion (λ c. ConstraintFits m.symbols 0 c × (depth c ≤ 8)) m.constraints
  pub objective : LinFits m.symbols 0 m.objective × (sum_depth m.objective ≤ 8)

-- a text that says a model says one in bounds
abbrev pub InBounds : Type 0
InBounds = (x : List ℕ) (m : Model) → Says x m → Fits m
