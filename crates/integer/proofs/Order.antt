-- Laws of the order of whole numbers. Assumes nothing.
use Rattle.std.proofs.Common.{zero, suc, ℤ, pos, negsuc, ◌+ℤ◌, ◌*ℤ◌, ◌≤ℤ◌, mul-le-mul_left, arith}
use borrow.Author.Differences.{ints, le_out}

pub le_trans : (a b c : ℤ) → a ≤ℤ b → b ≤ℤ c → a ≤ℤ c
le_trans a b c h k = omega (arith, ints)

pub add_le_add : (a b c d : ℤ) → a ≤ℤ b → c ≤ℤ d → (a +ℤ c) ≤ℤ (b +ℤ d)
add_le_add a b c d h k = omega (arith, ints)

-- both sides times a number of at least 0
pub mul_le : (k a b : ℤ) → pos 0 ≤ℤ k → a ≤ℤ b → (k *ℤ a) ≤ℤ (k *ℤ b)
mul_le (pos k) a b n h = omega (arith, ints, mul-le-mul_left k (le_out a b h))
mul_le (negsuc k) a b n h = absurd n.le

-- both sides times a number of at most 0, which turns the order round
pub mul_ge : (k a b : ℤ) → k ≤ℤ pos 0 → a ≤ℤ b → (k *ℤ b) ≤ℤ (k *ℤ a)
mul_ge (pos zero) a b n h = omega (arith, ints)
mul_ge (pos (suc k)) a b n h = absurd (omega (arith, ints))
mul_ge (negsuc k) a b n h = omega (arith, ints, mul-le-mul_left (suc k) (le_out a b h))
