use Rattle.std.proofs.Common.{◌≡◌, ◌+◌, ◌<◌, ◌≤◌, length, drop}
use Rattle.grammar.specs.Reading.{literal}
use Rattle.tokens.proofs.bytes.literal.Given as goal

-- the bytes before this one stood in the text
abbrev pub invariant-loop-i : goal.invariant-loop-i
invariant-loop-i l =
    (0 < l.i → l.at + l.i ≤ length l.text)
    × (literal l.text (drop l.i l.word) (l.at + l.i) ≡ literal l.text l.word l.at)
    × (l.at ≤ 65536 → l.at + l.i ≤ 65536)
