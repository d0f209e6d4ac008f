use Rattle.expressions.proofs.context.Context.+row.Given as goal

abbrev pub decreases-row : goal.decreases-row
decreases-row l = l.self.now.nest
