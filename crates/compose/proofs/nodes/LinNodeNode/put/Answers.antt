use Rattle.std.proofs.Common.{refl}
use Rattle.compose.proofs.Decoded.{placed, sum_here}
use Rattle.compose.proofs.nodes.LinNodeNode.put.Goals as goal

pub returns-in-Sum-clause-here : goal.returns-in-Sum-clause-here
returns-in-Sum-clause-here c = rw c.in-Sum.is (placed _ c.args.free 4 c.put_over.result _ _ c.put_over.ensures.appends c.put_over.ensures.here (λ b l r h. sum_here c.put_over.new.words c.args.free 14 l r c.in-Sum.over b h refl))
