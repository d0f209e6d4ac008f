use Rattle.std.proofs.Common.{◌≡◌, ℕ, ◌+◌, ◌-◌, ◌*◌, ◌<◌, ◌≤◌, List, length}
use Rattle.compose.specs.Agree.{Agree}
use Rattle.model.specs.declared.Sign.TheVariants.{Positive}
use Rattle.grammar.specs.Reading.{ok, then}
use Rattle.grammar.specs.Says.{lin_behind}
use Rattle.scope.specs.Names.{names_in}
use Rattle.expressions.specs.Sums.{Item, Stacked, Terms, chained, spaced_of, sum_of, terms_at}
use Rattle.expressions.proofs.context.Context.+linear.Given as goal

-- by sums within each other, and then by who calls whom
abbrev pub decreases-linear : goal.decreases-linear
decreases-linear l = 4 * l.self.now.nest + 3

abbrev pub decreases-terms : goal.decreases-terms
decreases-terms l = 4 * l.self.now.nest + 2

abbrev pub decreases-term : goal.decreases-term
decreases-term l = 4 * l.self.now.nest + 1

abbrev pub decreases-sum : goal.decreases-sum
decreases-sum l = 4 * l.self.now.nest

-- some terms wait, and what is left to read gives the rest
abbrev pub invariant-terms-loop-term : goal.invariant-terms-loop-term
invariant-terms-loop-term l =
    (l.at ≤ l.here)
    × (l.here ≤ length l.self.text.now)
    × (l.here ≤ 65536)
    × (l.free ≤ l.next)
    × (6 * l.next + 8 * l.at + 9 * l.top ≤ 6 * l.free + 8 * l.here)
    × (2 * l.top + l.at ≤ l.here)
    × Agree 0 l.free l.initial.words l.words
    × ((is : List Item) × Stacked l.pending l.next l.words is l.top
    × ((turns : ℕ) → length l.self.text.now < turns + l.at → (f : ℕ) × (W : Terms → Terms) × (length l.self.text.now < f + l.here)
    × (terms_at l.self.text.now (names_in l.self.text.now l.self.scope.now) l.self.left (length l.self.text.now + 1) l.self.nest turns l.at ≡ then (terms_at l.self.text.now (names_in l.self.text.now l.self.scope.now) l.self.left (length l.self.text.now + 1) l.self.nest f l.here) (λ r z. ok (W r) z))
    × ((r : Terms) → (spaced_of (W r) ≡ spaced_of r) × (lin_behind Positive (names_in l.self.text.now l.self.scope.now) (sum_of (W r)) ≡ chained is (lin_behind l.sign (names_in l.self.text.now l.self.scope.now) (sum_of r))))))

abbrev pub decreases-terms-loop-term : goal.decreases-terms-loop-term
decreases-terms-loop-term l = length l.self.text.now - l.here
