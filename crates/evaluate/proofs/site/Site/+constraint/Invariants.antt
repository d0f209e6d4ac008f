use Rattle.std.proofs.Common.{◌≡◌, ◌+◌, ◌*◌, ◌<◌, true, Some, Option}
use Rattle.model.specs.Evaluation.{run, instance, worked_constraint}
use Rattle.model.specs.Kept.{FilterIn, ConstraintIn, Numbered, assignment, depth, symbols_in}
use Rattle.model.specs.Model.{Cond, Constraint}
use Rattle.evaluate.proofs.site.Site.+constraint.Given as goal

-- by how many alls may stand in this one
abbrev pub decreases-constraint_met : goal.decreases-constraint_met
decreases-constraint_met l = l.self.now.nest * 3 + 1

abbrev pub decreases-all_met : goal.decreases-all_met
decreases-all_met l = l.self.now.nest * 3

abbrev pub decreases-instance_met : goal.decreases-instance_met
decreases-instance_met l = l.self.now.nest * 3 + 2

-- all indexes below i were met
abbrev pub invariant-all_met-loop-i : goal.invariant-all_met-loop-i
invariant-all_met-loop-i l =
    (c : Option Cond) (q : Constraint) → Numbered l.self.words.now → FilterIn l.self.words.now l.over.filter c → ConstraintIn l.self.words.now l.over.body q → depth q < l.self.nest →
    Some true ≡ run (instance (symbols_in l.self.words.now) l.self.indexes.now c (λ js. worked_constraint (symbols_in l.self.words.now) (assignment l.self.values.now) js q)) l.i true
