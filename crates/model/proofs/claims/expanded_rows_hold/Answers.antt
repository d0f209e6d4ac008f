use Rattle.model.proofs.Expansion.{expanded_value, expanded_rows}
use Rattle.model.proofs.claims.expanded_rows_hold.Goals as goal

pub returns : goal.returns
returns c = record { sums = expanded_value; rows = expanded_rows }
