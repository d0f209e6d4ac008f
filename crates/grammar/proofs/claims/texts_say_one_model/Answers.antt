use Rattle.grammar.proofs.Theorems.{one_model}
use Rattle.grammar.proofs.claims.texts_say_one_model.Goals as goal

pub returns : goal.returns
returns c = one_model
