use Rattle.std.proofs.Common.{◌≡◌, ◌+◌, ◌*◌, ◌^◌, ◌<◌, ◌≤◌, Some, Option}
use Rattle.model.specs.Evaluation.{run, summand, worked_sum}
use Rattle.model.specs.Kept.{FilterIn, LinIn, Numbered, assignment, sum_depth, symbols_in}
use Rattle.model.specs.Model.{Cond, Lin}
use Rattle.evaluate.proofs.site.Site.+sum.Given as goal

-- first by how many sums may stand in this one, then by place, which is below 2^64
abbrev pub decreases-add_sum : goal.decreases-add_sum
decreases-add_sum l = l.self.now.nest * 2 ^ 66 + l.k + 1

abbrev pub decreases-add_over : goal.decreases-add_over
decreases-add_over l = l.self.now.nest * 2 ^ 66

abbrev pub decreases-add_summand : goal.decreases-add_summand
decreases-add_summand l = l.self.now.nest * 2 ^ 66 + 2 ^ 65

-- what was added so far are the indexes below i
abbrev pub invariant-add_over-loop-i : goal.invariant-add_over-loop-i
invariant-add_over-loop-i l =
    (c : Option Cond) (a : Lin) → Numbered l.self.words.now → FilterIn l.self.words.now l.over.filter c → LinIn l.self.words.now l.over.body a → sum_depth a < l.self.nest →
    Some l.running ≡ run (summand (symbols_in l.self.words.now) l.self.indexes.now c (λ js. worked_sum (symbols_in l.self.words.now) (assignment l.self.values.now) l.sign js a)) l.i l.initial.running

-- what is left, added to what was added, comes to the same as all
abbrev pub invariant-add_sum-chain : goal.invariant-add_sum-chain
invariant-add_sum-chain l =
    (l.at ≤ l.k)
    × ((a : Lin) → Numbered l.self.words.now → LinIn l.self.words.now l.k a → sum_depth a ≤ l.self.nest →
    (b : Lin) × LinIn l.self.words.now l.at b × (sum_depth b ≤ l.self.nest) × (worked_sum (symbols_in l.self.words.now) (assignment l.self.values.now) l.sign l.self.indexes.now b l.running ≡ worked_sum (symbols_in l.self.words.now) (assignment l.self.values.now) l.sign l.self.indexes.now a l.initial.running))

abbrev pub decreases-add_sum-chain : goal.decreases-add_sum-chain
decreases-add_sum-chain l = l.at
