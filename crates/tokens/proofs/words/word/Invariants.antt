use Rattle.std.proofs.Common.{◌≡◌, ◌+◌, ◌≤◌, length}
use Rattle.grammar.specs.Reading.{run_at}
use Rattle.tokens.proofs.words.word.Given as goal

abbrev pub invariant-loop-here : goal.invariant-loop-here
invariant-loop-here l =
    (l.here ≤ length l.text)
    × (l.here ≤ l.at + 12)
    × (l.here + length (run_at l.text l.here) ≡ l.at + length (run_at l.text l.at))
