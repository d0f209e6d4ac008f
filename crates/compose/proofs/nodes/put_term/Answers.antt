use Rattle.std.proofs.Common.{true, refl, arith}
use Rattle.compose.proofs.Decoded.{placed, term_here}
use Rattle.compose.proofs.nodes.put_term.Goals as goal

pub returns-clause-here : goal.returns-clause-here
returns-clause-here c = placed true c.args.free 5 c.put_words.result _ _ c.put_words.ensures.appends c.put_words.ensures.here (λ _ l r h. term_here c.put_words.new.words c.args.free 11 l r c.args.term refl (omega arith) (omega arith) (omega arith) h)
