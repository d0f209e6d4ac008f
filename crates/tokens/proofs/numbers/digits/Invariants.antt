use Rattle.std.proofs.Common.{◌≡◌, ◌+◌, ◌≤◌, length}
use Rattle.grammar.specs.Reading.{digits_at}
use Rattle.tokens.specs.Sizes.{capped}
use Rattle.tokens.proofs.numbers.digits.Given as goal

abbrev pub invariant-loop-here : goal.invariant-loop-here
invariant-loop-here l =
    (l.here ≤ length l.text)
    × (l.size ≤ 1000001)
    × (l.here + length (digits_at l.text l.here) ≡ l.at + length (digits_at l.text l.at))
    × (capped l.size (digits_at l.text l.here) ≡ capped 0 (digits_at l.text l.at))
