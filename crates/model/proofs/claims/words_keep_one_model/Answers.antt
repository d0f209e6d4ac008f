use Rattle.model.proofs.Trees.{one_model}
use Rattle.model.proofs.claims.words_keep_one_model.Goals as goal

pub returns : goal.returns
returns c = one_model
