use Rattle.std.proofs.Common.{arith, rules}
use Rattle.scope.proofs.Entries.{none_behind}
use Rattle.scope.proofs.Scope.with.Goals as goal

pub invariant_of-result-2 : goal.invariant_of-result-2
invariant_of-result-2 c = (omega arith, search rules, none_behind _ _ _ _ c.self.invariant.2)
