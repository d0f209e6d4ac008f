use Rattle.model.proofs.Fewer.{fewer_constraints}
use Rattle.model.proofs.claims.fewer_constraints_cost_no_more.Goals as goal

pub returns : goal.returns
returns c = fewer_constraints
