-- Numbers that are in range. Assumes nothing.
use Rattle.std.proofs.Common.{◌≡◌, ℕ, ◌+◌, ◌≤◌, true, false, leb, List, ℤ, ◌≤ℤ◌, ◌<ℤ◌, ◌∙◌, ap, arith}
use lib.IntN.{nat_abs}
use lib.Signed.{le_z}
use Rattle.grammar.specs.Grammar.{Numeral}
use Rattle.grammar.specs.Reading.{size, within}
use Rattle.grammar.proofs.Bounded.{within_size, size_is}
use Rattle.std.proofs.lemmas.Int.{ints}
use Rattle.std.proofs.lemmas.Bool.{leb-true}
use Rattle.tokens.specs.declared.Number.{Number}
use Rattle.tokens.specs.Sizes.{Counts}
use Rattle.tokens.proofs.Counted.{value_told}
use Rattle.reader.specs.Numbers.{Tells}
use Rattle.reader.specs.Lines.{NumberRead, SizeRead}

pub number_made : (x : List ℕ) (most at : ℕ) (n : Numeral) (p : Number) → most ≤ 1000000 → Counts x at n p → leb (size n) most ≡ true → NumberRead x most at n p
number_made x most at n p m t e =
    let l = leb-true (size n) most e in
    record { value = t.2 ∙ value_told n (omega arith); most = l; ends = record { onward = omega arith; inside = t.1; short = t.3 } }

pub size_made : (x : List ℕ) (least at b : ℕ) (z : ℤ) (n : Numeral) (p : Number) → b ≡ at + 1 → (at ≤ 65536 → b ≤ 65536) → Counts x b n p → within least 1000 n ≡ true → z ≡ p.value
    → SizeRead x least at n (record { size = nat_abs z; end = p.end })
size_made x least at b z n p f k t e v =
    let (l, m) = within_size least 1000 n e in
    let s : nat_abs z ≡ size n = ap nat_abs (v ∙ t.2 ∙ value_told n (omega arith)) ∙ size_is n in
    record { size = s; least = omega arith; most = omega arith; ends = record { onward = omega arith; inside = t.1; short = λ y. t.3 (k y) } }

-- BOUNDS as the code compares them

pub in_order : (l h a b : ℤ) → a ≡ l → b ≡ h → a ≤ℤ b → le_z l h ≡ true
in_order l h a b e f z = grind (arith, ints)

pub not_in_order : (l h a b : ℤ) → a ≡ l → b ≡ h → b <ℤ a → le_z l h ≡ false
not_in_order l h a b e f z = grind (arith, ints)
