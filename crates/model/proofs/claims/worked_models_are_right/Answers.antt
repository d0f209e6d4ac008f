use Rattle.model.proofs.Worked.{worked_right}
use Rattle.model.proofs.claims.worked_models_are_right.Goals as goal

pub returns : goal.returns
returns c = worked_right
