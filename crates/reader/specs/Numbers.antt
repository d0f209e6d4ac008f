-- Reading parts that several lines share: what lines begin with, numbers in range, and names that are new. Assumes nothing.
use Rattle.std.specs.Prelude.{◌≡◌, ℕ, cond, List, codes, nat_le}
use Rattle.grammar.specs.declared.Refusal.TheVariants.{Name, Range}
use Rattle.grammar.specs.Grammar.{Word, Numeral}
use Rattle.grammar.specs.Reading.{Got, ok, bad, then, literal, name, numeral, size, within, Names, free}
use Rattle.tokens.specs.declared.Number as number
use Rattle.tokens.specs.Sizes.{told_value}

-- p tells of n, sizes above 1,000,000 being all the same
abbrev pub Tells : Numeral → number.Number → Type 0
Tells n p = p.value ≡ told_value n

-- a number whose size is at most so much
unfoldable pub number_at : List ℕ → ℕ → ℕ → Got Numeral
number_at x most at = then (numeral x at) (λ n e. cond (nat_le (size n) most) (ok n e) (bad (Range at)))

-- a space and a size, which is `least` or more
unfoldable pub size_at : List ℕ → ℕ → ℕ → ℕ → Got Numeral
size_at x least line at = then (literal x (codes " ") at) (λ _ b. then (numeral x b) (λ n e. cond (within least 1000 n) (ok n e) (bad (Range line))))

-- a name that is not in force
unfoldable pub new_name : List ℕ → Names → ℕ → Got Word
new_name x ns at = then (name x at) (λ w e. cond (free w ns) (ok w e) (bad (Name at)))

-- the word that a line begins with, where fewer such lines than `most` stand before it
unfoldable pub opening_at : List ℕ → List ℕ → ℕ → ℕ → ℕ → Got (Unit {0})
opening_at x w count most at = then (literal x w at) (λ _ e. cond (nat_le most count) (bad (Range at)) (ok tt e))
