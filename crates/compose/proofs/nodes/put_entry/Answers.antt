use Rattle.std.proofs.Common.{true, refl}
use Rattle.compose.proofs.Decoded.{placed, entry_here}
use Rattle.compose.proofs.nodes.put_entry.Goals as goal

pub returns-clause-here : goal.returns-clause-here
returns-clause-here c = placed true c.args.free 4 c.put_words.result _ _ c.put_words.ensures.appends c.put_words.ensures.here (λ _ l r h. entry_here c.put_words.new.words c.args.free 3 l r c.args.table c.args.row c.args.column refl c.if-row-free.false c.if-column-free.false h)
