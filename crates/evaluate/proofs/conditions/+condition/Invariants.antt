use Rattle.evaluate.proofs.conditions.+condition.Given as goal

-- the parts of a node stand before it
abbrev pub decreases-condition : goal.decreases-condition
decreases-condition l = l.k
