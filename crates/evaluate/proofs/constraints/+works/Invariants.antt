use Rattle.evaluate.proofs.constraints.+works.Given as goal

-- the parts of a node stand before it
abbrev pub decreases-works : goal.decreases-works
decreases-works l = l.k
