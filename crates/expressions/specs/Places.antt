-- What stands in square brackets, one place or two, as rows and columns. Assumes nothing.
use Rattle.std.specs.Prelude.{ℕ, ◌+◌, ◌*◌, ◌<◌, ◌≤◌, Bool, cond, ◌||◌, List, [], ◌∷◌, length, codes, ◌==◌}
use Rattle.model.specs.Model as model
use Rattle.model.specs.Kept.{NumIn}
use Rattle.compose.specs.Agree.{Settled}
use Rattle.grammar.specs.Grammar.{Num}
use Rattle.grammar.specs.Reading.{Got, ok, then, Names, literal, place}
use Rattle.grammar.specs.Says.{num_of, naught}
use Rattle.scope.specs.declared.Grid.{Grid}
use Rattle.expressions.specs.declared.Node.{Node}
use Rattle.expressions.specs.declared.Places.{Places}
use Rattle.expressions.specs.Made.{Zero}

pub data Place : Type 0 where
  one_of : Num → Place
  two_of : Num → Num → Place

abbrev pub enough : Grid → Bool
enough g = g.columns == 1 || g.rows == 1

abbrev pub place_at : List ℕ → Grid → ℕ → ℕ → (ℕ → Got Num) → ℕ → Got Place
place_at x g start left inner at = place x (enough g) start left inner one_of two_of at

-- the second place, with the comma before it and the bracket behind it
unfoldable pub second_at : List ℕ → (ℕ → Got Num) → ℕ → Got Num
second_at x inner at = then (literal x (codes ", ") at) (λ _ m. then (inner m) (λ f m. then (literal x (93 ∷ []) m) (λ _ z. ok f z)))

-- the nodes for one place; the first node is 0
abbrev pub only_place : Grid → Node → ℕ → Places
only_place g n e = cond (g.columns == 1) (record { row = n.place; column = 1808; next = n.next; end = e }) (record { row = 1808; column = n.place; next = n.next; end = e })

-- one place stands for the row where there is one column, else for the column
abbrev pub row_of : Names → Grid → Place → model.Num
row_of ns g (one_of e) = cond (g.columns == 1) (num_of ns e) naught
row_of ns g (two_of e f) = num_of ns e

abbrev pub column_of : Names → Grid → Place → model.Num
column_of ns g (one_of e) = cond (g.columns == 1) naught (num_of ns e)
column_of ns g (two_of e f) = num_of ns f

-- both nodes, written from `free` on
pub record PlacesMade (x : List ℕ) (ns : Names) (g : Grid) (at free : ℕ) (us ws : List ℕ) (l : Place) (p : Places) : Type 0 where
  pub onward : at + 3 ≤ p.end
  pub inside : p.end ≤ length x
  pub short : p.end ≤ 65536
  pub words : 3 * p.next + 4 * at + 6 ≤ 3 * free + 4 * p.end
  pub forward : free ≤ p.next
  pub placed : (p.row < p.next) × (p.column < p.next)
  pub row : Zero us → Settled 1808 p.next ws (λ vs. NumIn vs p.row (row_of ns g l))
  pub column : Zero us → Settled 1808 p.next ws (λ vs. NumIn vs p.column (column_of ns g l))
