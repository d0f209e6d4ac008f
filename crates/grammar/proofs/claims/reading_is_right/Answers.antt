use Rattle.grammar.proofs.Theorems.{reads_right}
use Rattle.grammar.proofs.claims.reading_is_right.Goals as goal

pub returns : goal.returns
returns c = reads_right
