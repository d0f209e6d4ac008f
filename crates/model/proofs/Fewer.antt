-- Fewer constraints never make the best worse. Assumes nothing.
use Rattle.model.specs.Meaning.{Right, cost}
use Rattle.model.specs.Claims.{FewerConstraints}

-- an assignment that meets them all meets all but one, and what it costs does not turn on constraints
pub fewer_constraints : FewerConstraints
unfolding Right cost
fewer_constraints m c x y p q = q.1 x (record { within = p.0.within; meets = p.0.meets.1 })
