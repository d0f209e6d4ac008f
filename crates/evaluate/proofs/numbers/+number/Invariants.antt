use Rattle.evaluate.proofs.numbers.+number.Given as goal

-- the parts of a node stand before it
abbrev pub decreases-number : goal.decreases-number
decreases-number l = l.k
