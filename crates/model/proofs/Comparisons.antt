-- Comparisons of two sides, and the tests of them. Assumes nothing.
use Rattle.std.proofs.Common.{ℤ, pos, ◌-ℤ◌, ◌≤ℤ◌, Decides, sym, arith}
use lib.Signed.{le_z}
use borrow.Author.Differences.{ints}
use Rattle.std.proofs.lemmas.Bool.Decides.{Decides-like, Decides-and}
use Rattle.model.specs.declared.Comparison.{Comparison}
use Rattle.model.specs.declared.Comparison.TheVariants.{AtMost, AtLeast, Exactly}
use Rattle.model.specs.Meaning.{is_same, Compares}
use Rattle.model.specs.Evaluation.{compared}

-- two sides compare as their difference does with 0
pub moved : (c : Comparison) (a b : ℤ) → Compares c a b → Compares c (a -ℤ b) (pos 0)
moved AtMost a b h = omega (arith, ints)
moved AtLeast a b h = omega (arith, ints)
moved Exactly a b h = omega (arith, ints)

pub moved_back : (c : Comparison) (a b : ℤ) → Compares c (a -ℤ b) (pos 0) → Compares c a b
moved_back AtMost a b h = omega (arith, ints)
moved_back AtLeast a b h = omega (arith, ints)
moved_back Exactly a b h = omega (arith, ints)

pub le_z_decides : (a b : ℤ) → Decides (le_z a b) (a ≤ℤ b)
le_z_decides a b = (λ e. omega (arith, ints), λ h. sym (omega (arith, ints)))

pub compared_decides : (c : Comparison) (a : ℤ) → Decides (compared c a) (Compares c a (pos 0))
compared_decides AtMost a = le_z_decides a (pos 0)
compared_decides AtLeast a = le_z_decides (pos 0) a
compared_decides Exactly a =
    Decides-like (is_same a (pos 0)) (λ p. omega (arith, ints)) (λ e. (omega (arith, ints), omega (arith, ints)))
    (Decides-and (le_z a (pos 0)) (le_z (pos 0) a) (le_z_decides a (pos 0)) (le_z_decides (pos 0) a))
