-- What was read and written, and that the words are enough for what may still be read. Assumes nothing.
use Rattle.std.specs.Prelude.{ℕ, ◌+◌, ◌-◌, ◌*◌, ◌<◌, ◌≤◌, List, length}
use Rattle.model.specs.Kept.{NumIn}
use Rattle.compose.specs.Agree.{Settled}
use Rattle.grammar.specs.Grammar.{Num}
use Rattle.grammar.specs.Reading.{Names}
use Rattle.grammar.specs.Says.{num_of, naught}
use Rattle.expressions.specs.declared.Node.{Node}

-- a place that the longest text has, behind the heads and the node of 0, and words for the bytes that are left, and some more
abbrev pub Roomy : ℕ → ℕ → ℕ → ℕ → Type 0
Roomy more len free at = (at ≤ 65536) × (1810 ≤ free) × (3 * free + 4 * (65536 - at) + more ≤ 3 * len)

abbrev pub Room : ℕ → ℕ → ℕ → Type 0
Room len free at = Roomy 60 len free at

-- the first node is the number 0, which stands for a place that is left out
abbrev pub Zero : List ℕ → Type 0
Zero ws = Settled 1808 1810 ws (λ us. NumIn us 1808 naught)

-- from `at` on in x, and from `free` on in the words, which were us and are ws: at most four words for three bytes, and c thirds of a word more; T is the tree
pub record Made (x : List ℕ) (at free c : ℕ) (us ws : List ℕ) (T : List ℕ → ℕ → Type 0) (p : Node) : Type 0 where
  pub onward : at < p.end
  pub inside : p.end ≤ length x
  pub short : p.end ≤ 65536
  pub words : 3 * p.next + 4 * at ≤ 3 * free + 4 * p.end + c
  pub forward : free ≤ p.next
  pub placed : (1808 ≤ p.place) × (p.place < p.next)
  pub tree : Zero us → Settled 1808 p.next ws (λ vs. T vs p.place)

-- a number
abbrev pub NumMade : List ℕ → Names → ℕ → ℕ → List ℕ → List ℕ → Num → Node → Type 0
NumMade x ns at free us ws e p = Made x at free 2 us ws (λ vs k. NumIn vs k (num_of ns e)) p
