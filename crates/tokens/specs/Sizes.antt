-- What code has of a number in a text. Assumes nothing.
use Rattle.std.specs.Prelude.{◌≡◌, ℕ, ◌-◌, ◌<◌, ◌≤◌, min, List, map, length, ℤ, pos, neg_ℤ, Result}
use Rattle.std.specs.Int.Digits.{number_from_digits_after}
use Rattle.grammar.specs.Grammar.{Numeral, nought, whole, minus}
use Rattle.grammar.specs.declared.Refusal.{Refusal}
use Rattle.grammar.specs.Reading.{size, numeral}
use Rattle.tokens.specs.Told.{Told}
use Rattle.tokens.specs.declared.Number.{Number}

-- the value, sizes above 1,000,000 being all the same
abbrev pub told_value : Numeral → ℤ
told_value nought = pos 0
told_value (whole d ds) = pos (min 1000001 (size (whole d ds)))
told_value (minus d ds) = neg_ℤ (pos (min 1000001 (size (minus d ds))))

-- p tells of n, which begins at a place and ends inside the text
abbrev pub Counts : List ℕ → ℕ → Numeral → Number → Type 0
Counts x at n p = (at < p.end) × (p.end ≤ length x) × (p.value ≡ told_value n) × (at ≤ 65536 → p.end ≤ 65536)

-- r tells of the numeral at a place
abbrev pub NumeralTold : List ℕ → ℕ → Result Number Refusal → Type 0
NumeralTold x at r = Told (λ p. p.end) (Counts x at) (numeral x at) r

-- digits after some that come to n
abbrev pub capped : ℕ → List ℕ → ℕ
capped n ds = min 1000001 (number_from_digits_after 10 n (map (λ c. c - 48) ds))
