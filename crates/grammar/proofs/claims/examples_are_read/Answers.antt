use Rattle.grammar.proofs.Examples.{examples_read}
use Rattle.grammar.proofs.claims.examples_are_read.Goals as goal

pub returns : goal.returns
returns c = examples_read
