use Rattle.reader.proofs.Tabled.{SoFar}
use Rattle.reader.proofs.declarations.table_numbers.Given as goal

abbrev pub invariant-loop-i : goal.invariant-loop-i
invariant-loop-i l = SoFar l.text l.initial.words l.line l.free l.wanted l.at l.words l.i l.here
