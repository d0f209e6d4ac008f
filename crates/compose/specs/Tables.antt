-- Where the numbers of a model's tables lie. Assumes nothing.
use Rattle.std.specs.Prelude.{ℕ, ◌+◌, ◌*◌, ◌<◌, ◌≤◌, List}
use Rattle.model.specs.Words.{table_count, table_rows, table_columns, table_start}

-- behind the heads, and before n
abbrev pub TablesWithin : ℕ → List ℕ → Type 0
TablesWithin n ws = (k : ℕ) → k < table_count ws → (1808 ≤ table_start ws k) × (table_start ws k + table_rows ws k * table_columns ws k ≤ n)
