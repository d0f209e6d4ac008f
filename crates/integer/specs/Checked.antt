-- Numbers that stay below 2^62 in size. Assumes nothing.
use Rattle.std.specs.Prelude.{◌^◌, cond, ℤ, Some, None, Option, nat_lt, unsigned_abs}

-- a number below 2^62 in size, or none
abbrev pub checked : ℤ → Option ℤ
checked z = cond (nat_lt (unsigned_abs z) (2 ^ 62)) (Some z) None
