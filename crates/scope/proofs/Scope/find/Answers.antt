use Rattle.std.proofs.Common.{reverse}
use Rattle.scope.proofs.Entries.{found_told}
use Rattle.scope.proofs.Scope.find.Goals as goal

pub returns : goal.returns
returns c = let f = found_told c.args.text.now c.part.result.now (reverse c.entries.result.now) c.last_named.result c.last_named.ensures in cc
