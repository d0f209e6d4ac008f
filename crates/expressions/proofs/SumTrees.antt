-- Sums that were read and written. Assumes nothing.
use Rattle.std.proofs.Common.{◌≡◌, ℕ, ◌+◌, ◌*◌, ◌<◌, ◌≤◌, List, ◌∷◌, length, set, subst, arith}
use Rattle.model.specs.declared.Sign.{Sign}
use Rattle.model.specs.Model as model
use Rattle.model.specs.Words.{word}
use Rattle.model.specs.Kept.{LinIn}
use Rattle.compose.specs.Agree.{Agree, Settled}
use Rattle.grammar.specs.Grammar.{Term}
use Rattle.grammar.specs.Reading.{Names}
use Rattle.grammar.specs.Says.{term_of}
use Rattle.expressions.specs.declared.Node.{Node}
use Rattle.expressions.specs.declared.Run.{Run}
use Rattle.expressions.specs.declared.Chain.{Chain}
use Rattle.expressions.specs.Made.{Zero, Made}
use Rattle.expressions.specs.Sums.{Item, Stacked, sign_word, Terms, chained, sum_of, TermsMade, LinMade}
use Rattle.expressions.proofs.NumberTrees.{zero_on, agree_back}
use Rattle.expressions.proofs.Stacks.{stacked_on, stacked_push}

pub turns_enough : (n at : ℕ) → n < n + 1 + at
turns_enough n at = omega arith

-- us, vs, ws: before the sum, behind its terms, behind its chain
pub lin_made : (x us vs ws ps : List ℕ) (ns : Names) (at free : ℕ) (r : Terms) (p : Run) (q : Chain) → 1810 ≤ free → Agree 0 free us vs → TermsMade x ns at free ps vs r p → 2 * q.next ≡ 2 * p.next + 3 * p.top
    → (1808 ≤ q.place) × (q.place < q.next) → ((is : List Item) → Stacked ps p.next vs is p.top → Zero vs → Settled 1808 q.next ws (λ zs. LinIn zs q.place (chained is model.nothing)))
    → LinMade x ns at free us ws (sum_of r) (record { place = q.place; next = q.next; end = p.end })
lin_made x us vs ws ps ns at free r p q i s m e l t =
    let (is, k, a, f) = m.waiting in
    record {
      onward = m.onward;
      inside = m.inside;
      short = m.short;
      words = let y = m.words in omega arith;
      forward = let y = m.forward in omega arith;
      placed = l;
      tree = λ z. subst (λ b. Settled 1808 q.next ws (λ zs. LinIn zs q.place b)) f (t is k (zero_on free us vs i s z));
    }

-- a term that was read waits above the others
pub term_waits : (x ps qs us ws : List ℕ) (ns : Names) (here next top a : ℕ) (is : List Item) (g : Sign) (t : Term) (p : Node) → 1810 ≤ next → top + 2 ≤ length qs → a ≡ sign_word g → Agree 0 next us ws → ((k : ℕ) → k < top → word ps k ≡ word qs k)
    → Stacked ps next us is top → Made x here next 3 us ws (λ vs k. LinIn vs k (term_of ns t)) p → Stacked (set (set qs top a) (top + 1) p.place) p.next ws ((record { sign = g; term = term_of ns t }) ∷ is) (top + 2)
term_waits x ps qs us ws ns here next top a is g t p r l e s h st m =
    stacked_push qs top a p.place l p.next ws is (record { sign = g; term = term_of ns t }) (let y = m.forward in omega arith) e m.placed.0 m.placed.1 (λ z. m.tree (zero_on next ws us r (agree_back s) z))
    (stacked_on ps qs next p.next us ws is top r m.forward s h st)
