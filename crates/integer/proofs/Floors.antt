-- Laws of the quotient rounded down. Assumes nothing.
use Rattle.std.proofs.Common.{◌≡◌, ℕ, suc, ◌*◌, ◌/◌, ◌<◌, ◌≤◌, ℤ, pos, negsuc, ◌+ℤ◌, ◌*ℤ◌, ◌≤ℤ◌, ◌<ℤ◌, Some, refl, mod-lt, mul_comm, div-lt_iff_lt-mul, div-add-mod' as div_add_mod'', le-div_iff_mul-le, arith}
use lib.Signed.{shr_z}
use borrow.Author.Differences.{ints}
use Rattle.std.specs.Int.{int_div_euclid}
use Rattle.std.proofs.lemmas.Bool.{lt-ltb}
use Rattle.integer.specs.Floors.{floor_of}
use Rattle.integer.proofs.Ring.{mul_add}

-- what `div_euclid` gives by a positive number is rounded down
pub floor_is : (a : ℤ) (d : ℕ) → int_div_euclid a (pos d) ≡ shr_z a d
floor_is (pos a) d = refl
floor_is (negsuc a) d = refl

pub floor_yes : (a : ℤ) (d : ℕ) → 0 < d → floor_of a (pos d) ≡ Some (shr_z a d)
floor_yes a d h = rw (lt-ltb 0 d h)

pub floor_le : (a : ℤ) (d : ℕ) → 0 < d → (pos d *ℤ shr_z a d) ≤ℤ a
floor_le (pos a) d h = omega (arith, ints, div_add_mod'' a d, mul_comm d (a / d))
floor_le (negsuc a) d h = omega (arith, ints, mod-lt a h, div_add_mod'' a d, mul_comm d (a / d))

-- it is the greatest such number
pub floor_most : (a b : ℤ) (d : ℕ) → 0 < d → (pos d *ℤ b) ≤ℤ a → b ≤ℤ shr_z a d
floor_most (pos a) (pos b) d h k = let g : b * d ≤ a = omega (arith, ints) in omega (arith, ints, (le-div_iff_mul-le h).1 g)
floor_most (pos a) (negsuc b) d h k = omega (arith, ints)
floor_most (negsuc a) (pos b) d h k = absurd (omega (arith, ints))
floor_most (negsuc a) (negsuc b) d h k = let g : a < suc b * d = omega (arith, ints) in omega (arith, ints, (div-lt_iff_lt-mul h).1 g)

-- one more is too much
pub floor_lt : (a : ℤ) (d : ℕ) → 0 < d → a <ℤ (pos d *ℤ (shr_z a d +ℤ pos 1))
floor_lt (pos a) d h = rw (mul_add (pos d) (pos (a / d)) (pos 1)) (omega (arith, ints, mod-lt a h, div_add_mod'' a d, mul_comm d (a / d)))
floor_lt (negsuc a) d h = rw (mul_add (pos d) (negsuc (a / d)) (pos 1)) (omega (arith, ints, mod-lt a h, div_add_mod'' a d, mul_comm d (a / d)))
