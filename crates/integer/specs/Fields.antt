-- Numbers of four bytes, the low byte first. Assumes nothing.
use Rattle.std.specs.Prelude.{ℕ, ◌+◌, ◌*◌, cond, List, length, ℤ, Some, None, Option, nat_le, slice_index}
use Rattle.std.specs.Int.{w32}
use Rattle.std.proofs.Common.{to_z}

abbrev pub four_bytes : List ℕ → ℕ → ℕ
four_bytes bs at = slice_index bs at + slice_index bs (at + 1) * 256 + slice_index bs (at + 2) * 65536 + slice_index bs (at + 3) * 16777216

-- what the four bytes at a place mean, or none where the bytes end before
abbrev pub meant_at : {A : Type 0} → (ℕ → A) → List ℕ → ℕ → Option A
meant_at meaning bs at = cond (nat_le (at + 4) (length bs)) (Some (meaning (four_bytes bs at))) None

-- the number at a place
abbrev pub unsigned_at : List ℕ → ℕ → Option ℕ
unsigned_at bs at = meant_at (λ n. n) bs at

-- the same, with its sign in the highest bit (two's complement)
abbrev pub signed_at : List ℕ → ℕ → Option ℤ
signed_at bs at = meant_at (to_z w32) bs at
