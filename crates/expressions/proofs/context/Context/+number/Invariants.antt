use Rattle.std.proofs.Common.{◌+◌, ◌*◌}
use Rattle.expressions.proofs.context.Context.+number.Given as goal

-- by the brackets that may still be opened, and what a number is made of
abbrev pub decreases-number : goal.decreases-number
decreases-number l = 4 * l.self.now.left + 3

abbrev pub decreases-named : goal.decreases-named
decreases-named l = 4 * l.self.now.left + 2

abbrev pub decreases-pair : goal.decreases-pair
decreases-pair l = 4 * l.self.now.left + 1

abbrev pub decreases-places : goal.decreases-places
decreases-places l = 4 * l.self.now.left + 1

abbrev pub decreases-second_place : goal.decreases-second_place
decreases-second_place l = 4 * l.self.now.left + 4
