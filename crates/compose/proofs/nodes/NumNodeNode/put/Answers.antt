use Rattle.std.proofs.Common.{refl}
use Rattle.compose.proofs.Decoded.{pair_placed, op_here}
use Rattle.compose.proofs.nodes.NumNodeNode.put.Goals as goal

pub returns-in-Op-clause-here : goal.returns-in-Op-clause-here
returns-in-Op-clause-here c = rw c.in-Op.is (pair_placed c.in-Op.left c.in-Op.right c.args.free _ c.put_pair.result _ _ c.put_pair.ensures.appends c.put_pair.ensures.here (λ l m p q h. op_here c.put_pair.new.words c.args.free _ l m c.in-Op.left c.in-Op.right p q h c.in-Op.operator refl))
