use Rattle.grammar.proofs.InBounds.{in_bounds}
use Rattle.grammar.proofs.claims.said_models_are_in_bounds.Goals as goal

pub returns : goal.returns
returns c = in_bounds
