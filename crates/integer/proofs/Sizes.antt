-- Sizes of whole numbers, and what keeps them below 2^62 or in 64 bits. Assumes nothing.
use Rattle.std.proofs.Common.{◌≡◌, ℕ, ◌+◌, ◌*◌, ◌^◌, ◌<◌, ◌≤◌, Bool, true, false, cond, ltb, ℤ, pos, negsuc, ◌+ℤ◌, ◌*ℤ◌, neg_ℤ, nat_abs, ◌≤ℤ◌, Some, None, refl, arith, w64, SFits}
use borrow.Author.Differences.{ints}
use Rattle.std.proofs.lemmas.Bool.{lt-ltb, le-ltb, ltb-true}
use Rattle.integer.specs.Checked.{checked}

pub nat_abs_neg : (a : ℤ) → nat_abs (neg_ℤ a) ≡ nat_abs a
nat_abs_neg a = omega (arith, ints)

pub nat_abs_add : (a b : ℤ) → nat_abs (a +ℤ b) ≤ nat_abs a + nat_abs b
nat_abs_add a b = omega (arith, ints)

pub nat_abs_mul : (a b : ℤ) → nat_abs (a *ℤ b) ≡ nat_abs a * nat_abs b
nat_abs_mul (pos a) (pos b) = refl
nat_abs_mul (pos a) (negsuc b) = omega (arith, ints)
nat_abs_mul (negsuc a) (pos b) = omega (arith, ints)
nat_abs_mul (negsuc a) (negsuc b) = refl

-- a number between two others is no larger than the larger of them
pub nat_abs_between : (l x h : ℤ) → l ≤ℤ x → x ≤ℤ h → (m : ℕ) → nat_abs l ≤ m → nat_abs h ≤ m → nat_abs x ≤ m
nat_abs_between l x h p q m a b = omega (arith, ints)

pub fits_size : (z : ℤ) → nat_abs z < 2 ^ 63 → SFits w64 z
fits_size z h = omega (arith, ints)

pub checked_yes : (z : ℤ) → nat_abs z < 2 ^ 62 → checked z ≡ Some z
checked_yes z h = rw (lt-ltb (nat_abs z) (2 ^ 62) h)

pub checked_no : (z : ℤ) → 2 ^ 62 ≤ nat_abs z → checked z ≡ None
checked_no z h = rw (le-ltb (nat_abs z) (2 ^ 62) h)

chosen : (t : Bool) (z r : ℤ) → cond t (Some z) None ≡ Some r → (t ≡ true) × (r ≡ z)
chosen true z r e = (refl, cc)
chosen false z r e = let n : ◌≡◌ {A = ℕ} 0 1 = cc in absurd (omega arith)

pub checked_is : (z r : ℤ) → checked z ≡ Some r → r ≡ z
checked_is z r e = (chosen (ltb (nat_abs z) (2 ^ 62)) z r e).1

pub checked_small : (z r : ℤ) → checked z ≡ Some r → nat_abs r < 2 ^ 62
checked_small z r e =
    let c = chosen (ltb (nat_abs z) (2 ^ 62)) z r e in
    let l = ltb-true (nat_abs z) (2 ^ 62) c.0 in
    rw c.1 l
