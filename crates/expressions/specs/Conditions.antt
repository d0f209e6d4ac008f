-- Conditions part by part, and what stands behind `sum` or `all`. Assumes nothing.
use Rattle.std.specs.Prelude.{◌≡◌, ℕ, ◌+◌, ◌*◌, ◌≤◌, Bool, true, cond, List, length, Some, None, codes, Option, ◌==◌}
use Rattle.compose.specs.Agree.{Settled}
use Rattle.compose.specs.Writes.{filter_before}
use Rattle.model.specs.declared.Relation.{Relation}
use Rattle.model.specs.Model as model
use Rattle.model.specs.Kept.{CondIn, FilterIn}
use Rattle.grammar.specs.declared.Refusal.TheVariants.{Name, Range}
use Rattle.grammar.specs.Grammar.{Word, Num, Cond}
use Rattle.grammar.specs.Reading.{Got, ok, bad, then, byte, literal, name, Names, find, set_there, free, num, relation, condition}
use Rattle.grammar.specs.Says.{num_of, filter_of}
use Rattle.expressions.specs.declared.Node.{Node}
use Rattle.expressions.specs.declared.Filter.{Filter}
use Rattle.expressions.specs.Made.{Zero, Made}

-- two numbers, compared
pub record Compared : Type 0 where
  pub left : Num
  pub relation : Relation
  pub right : Num

unfoldable pub compared_at : List ℕ → (ℕ → Got Num) → ℕ → Got Compared
compared_at x number at =
    then (number at) (λ e m.
    then (literal x (codes " ") m) (λ _ m.
    then (relation x m) (λ r m.
    then (literal x (codes " ") m) (λ _ m.
    then (number m) (λ f z. ok (record { left = e; relation = r; right = f }) z)))))

abbrev pub compared_of : Names → Compared → model.Cond
compared_of ns k = model.relate k.relation (num_of ns k.left) (num_of ns k.right)

abbrev pub CondMade : List ℕ → ℕ → ℕ → List ℕ → List ℕ → model.Cond → Node → Type 0
CondMade x at free us ws d p = Made x at free 1 us ws (λ vs k. CondIn vs k d) p

-- a set and a new index; `deep` says that there are 8 sums and alls around
pub record BoundNames : Type 0 where
  pub set : Word
  pub index : Word

unfoldable pub bound_at : List ℕ → Names → Bool → ℕ → ℕ → Got BoundNames
bound_at x ns deep start at =
    then (literal x (codes " ") at) (λ _ a.
    cond deep (bad (Range start))
    (then (name x a) (λ s m.
    cond (set_there (find s ns))
    (then (literal x (codes " ") m) (λ _ b.
    then (name x b) (λ i e. cond (free i ns) (ok (record { set = s; index = i }) e) (bad (Name b)))))
    (bad (Name a)))))

-- a condition, or none, and the colon
unfoldable pub filter_at : List ℕ → Names → ℕ → ℕ → ℕ → Got (Option Cond)
filter_at x ns left turns at =
    cond (byte x at == 32)
    (then (literal x (codes " where ") at) (λ _ m. then (condition x (num x ns left) turns m) (λ c m. then (literal x (codes ": ") m) (λ _ z. ok (Some c) z))))
    (then (literal x (codes ": ") at) (λ _ z. ok None z))

pub record FilterMade (x : List ℕ) (ns : Names) (at free : ℕ) (us ws : List ℕ) (d : Option Cond) (p : Filter) : Type 0 where
  pub onward : at + 2 ≤ p.end
  pub inside : p.end ≤ length x
  pub short : p.end ≤ 65536
  pub words : 3 * p.next + 4 * at + 7 ≤ 3 * free + 4 * p.end
  pub forward : free ≤ p.next
  pub placed : filter_before p.condition p.next ≡ true
  pub tree : Zero us → Settled 1808 p.next ws (λ vs. FilterIn vs p.condition (filter_of ns d))
