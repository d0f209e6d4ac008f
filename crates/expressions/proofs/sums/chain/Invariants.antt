use Rattle.std.specs.Slice.Exact.{rchunks_exact_rest, rchunks_exact_size}
use Rattle.std.proofs.Common.{◌≡◌, ◌+◌, ◌*◌, ◌<◌, ◌≤◌, List, length}
use Rattle.model.specs.Kept.{LinIn}
use Rattle.model.specs.Model as model
use Rattle.compose.specs.Agree.{Agree, Settled}
use Rattle.expressions.specs.Made.{Zero}
use Rattle.expressions.specs.Sums.{Item, Stacked, chained}
use Rattle.expressions.proofs.Stacks.{First}
use Rattle.expressions.proofs.sums.chain.Given as goal

-- the newest are chained, and the others wait
abbrev pub invariant-loop-term : goal.invariant-loop-term
invariant-loop-term l =
    (rchunks_exact_size l.term-iterator ≡ 2)
    × (length (rchunks_exact_rest l.term-iterator) ≤ length l.waiting)
    × First l.waiting (rchunks_exact_rest l.term-iterator)
    × (2 * l.next + 3 * length (rchunks_exact_rest l.term-iterator) ≡ 2 * l.free + 3 * length l.waiting)
    × (l.rest < l.next)
    × (length (rchunks_exact_rest l.term-iterator) < length l.waiting → 1808 ≤ l.rest)
    × Agree 0 l.free l.initial.words l.words
    × ((is : List Item) → Stacked l.waiting l.free l.initial.words is (length l.waiting)
    → (js : List Item) × (a : model.Lin) × Stacked l.waiting l.free l.initial.words js (length (rchunks_exact_rest l.term-iterator)) × (chained is model.nothing ≡ chained js a) × (Zero l.initial.words → Settled 1808 l.next l.words (λ vs. LinIn vs l.rest a)))
