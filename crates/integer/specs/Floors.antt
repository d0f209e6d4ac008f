-- The quotient of two whole numbers, rounded down. Assumes nothing.
use Rattle.std.specs.Prelude.{cond, ℤ, pos, Some, None, Option, int_lt, unsigned_abs}
use Rattle.std.specs.Int.Signed.{shr_z}

-- the greatest whole number that is at most a / d, or none where d is not above 0
-- (`shr_z a n` is a / n rounded down)
abbrev pub floor_of : ℤ → ℤ → Option ℤ
floor_of a d = cond (int_lt (pos 0) d) (Some (shr_z a (unsigned_abs d))) None
