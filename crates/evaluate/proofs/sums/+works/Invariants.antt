use Rattle.std.proofs.Common.{◌≡◌, ◌+◌, ◌*◌, ◌≤◌}
use Rattle.model.specs.Evaluation.{sum_works}
use Rattle.model.specs.Kept.{LinIn, symbols_in}
use Rattle.model.specs.Model.{Lin}
use Rattle.evaluate.proofs.sums.+works.Given as goal

-- the parts of a node stand before it
abbrev pub decreases-works : goal.decreases-works
decreases-works l = 2 * l.k

abbrev pub decreases-over_works : goal.decreases-over_works
decreases-over_works l = 2 * l.over.body + 1

-- what is left works exactly if all does
abbrev pub invariant-works-chain : goal.invariant-works-chain
invariant-works-chain l =
    (l.at ≤ l.k) × ((a : Lin) → LinIn l.words l.k a → (b : Lin) × LinIn l.words l.at b × (sum_works (symbols_in l.words) b ≡ sum_works (symbols_in l.words) a))

abbrev pub decreases-works-chain : goal.decreases-works-chain
decreases-works-chain l = l.at
