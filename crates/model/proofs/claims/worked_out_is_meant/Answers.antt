use Rattle.model.proofs.Steps.{worked_out}
use Rattle.model.proofs.claims.worked_out_is_meant.Goals as goal

pub returns : goal.returns
returns c = worked_out
