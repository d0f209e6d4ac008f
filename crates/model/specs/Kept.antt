-- Which model words stand for: one at most. Assumes nothing.
use Rattle.std.specs.Prelude.{◌≡◌, ℕ, zero, suc, ◌+◌, ◌*◌, ◌<◌, max, List, [], ◌∷◌, ◌++◌, Some, None, Option}
use Rattle.std.specs.Int.{w64}
use Rattle.std.proofs.Common.{to_z}
use Rattle.model.specs.declared.TermNode.{TermNode}
use Rattle.model.specs.declared.Over.{Over}
use Rattle.model.specs.declared.NumNode.TheVariants.{Fixed, Index, Entry, Op}
use Rattle.model.specs.declared.CondNode.TheVariants.{Relate, Both}
use Rattle.model.specs.declared.LinNode.TheVariants.{Amount, Term, Sum, Chain, Nothing}
use Rattle.model.specs.declared.ConstraintNode.TheVariants.{Compare, All}
use Rattle.model.specs.Model.{Num, fixed, index, entry, joined, Cond, relate, both, Lin, amount, term, sum_over, chain, nothing, Constraint, compare, for_all, Table, Array, Symbols, Model}
use Rattle.model.specs.Meaning.{Assignment, first}
use Rattle.model.specs.Words.{word, num_at, cond_at, lin_at, constraint_at, set_count, table_count, array_count, constraint_count, set_size, table_rows, table_columns, table_start, array_rows, array_columns, array_lower, array_upper, array_first, constraint_place, objective_place}

-- f 0, f 1, .. f (n - 1)
unfoldable pub listed : {A : Type 0} → (ℕ → A) → ℕ → List A
listed f zero = []
listed f (suc n) = listed f n ++ (f n ∷ [])

abbrev pub table_in : List ℕ → ℕ → Table
table_in ws k = record { rows = table_rows ws k; columns = table_columns ws k; numbers = listed (λ i. to_z w64 (word ws (table_start ws k + i))) (table_rows ws k * table_columns ws k) }

abbrev pub array_in : List ℕ → ℕ → Array
array_in ws k = record { rows = array_rows ws k; columns = array_columns ws k; lower = array_lower ws k; upper = array_upper ws k }

abbrev pub symbols_in : List ℕ → Symbols
symbols_in ws = record { sets = listed (set_size ws) (set_count ws); tables = listed (table_in ws) (table_count ws); arrays = listed (array_in ws) (array_count ws) }

-- each array's first variable has the number that the arrays before it leave
abbrev pub Numbered : List ℕ → Type 0
Numbered ws = (k : ℕ) → k < array_count ws → array_first ws k ≡ first (symbols_in ws).arrays k

-- the node at k stands for a number, a condition, a sum, a constraint
unfoldable pub NumIn : List ℕ → ℕ → Num → Type 0
NumIn ws k (fixed a) = num_at ws k ≡ Some (Fixed a)
NumIn ws k (index l) = num_at ws k ≡ Some (Index l)
NumIn ws k (entry t e f) = (i : ℕ) × (j : ℕ) × (num_at ws k ≡ Some (Entry t i j)) × NumIn ws i e × NumIn ws j f
NumIn ws k (joined o e f) = (i : ℕ) × (j : ℕ) × (num_at ws k ≡ Some (Op o i j)) × NumIn ws i e × NumIn ws j f

unfoldable pub CondIn : List ℕ → ℕ → Cond → Type 0
CondIn ws k (relate r e f) = (i : ℕ) × (j : ℕ) × (cond_at ws k ≡ Some (Relate r i j)) × NumIn ws i e × NumIn ws j f
CondIn ws k (both c d) = (i : ℕ) × (j : ℕ) × (cond_at ws k ≡ Some (Both i j)) × CondIn ws i c × CondIn ws j d

unfoldable pub FilterIn : List ℕ → Option ℕ → Option Cond → Type 0
FilterIn ws None None = Unit {0}
FilterIn ws None (Some c) = ⊥
FilterIn ws (Some k) None = ⊥
FilterIn ws (Some k) (Some c) = CondIn ws k c

unfoldable pub LinIn : List ℕ → ℕ → Lin → Type 0
LinIn ws k (amount e) = (lin_at ws k ≡ Some Amount) × NumIn ws k e
LinIn ws k (term e n f g) = (t : TermNode) × (lin_at ws k ≡ Some (Term t)) × (t.array ≡ n) × NumIn ws t.number e × NumIn ws t.row f × NumIn ws t.column g
LinIn ws k (sum_over n c l) = (o : Over) × (lin_at ws k ≡ Some (Sum o)) × (o.set ≡ n) × FilterIn ws o.filter c × LinIn ws o.body l
LinIn ws k (chain g t l) = (i : ℕ) × (j : ℕ) × (lin_at ws k ≡ Some (Chain g i j)) × LinIn ws i t × LinIn ws j l
LinIn ws k nothing = lin_at ws k ≡ Some Nothing

unfoldable pub ConstraintIn : List ℕ → ℕ → Constraint → Type 0
ConstraintIn ws k (compare c l r) = (i : ℕ) × (j : ℕ) × (constraint_at ws k ≡ Some (Compare c i j)) × LinIn ws i l × LinIn ws j r
ConstraintIn ws k (for_all n c r) = (o : Over) × (constraint_at ws k ≡ Some (All o)) × (o.set ≡ n) × FilterIn ws o.filter c × ConstraintIn ws o.body r

-- constraints from number k on
unfoldable pub ConstraintsIn : List ℕ → ℕ → List Constraint → Type 0
ConstraintsIn ws k [] = k ≡ constraint_count ws
ConstraintsIn ws k (c ∷ cs) = (k < constraint_count ws) × ConstraintIn ws (constraint_place ws k) c × ConstraintsIn ws (suc k) cs

-- how deep sums, and alls, stand within each other
unfoldable pub sum_depth : Lin → ℕ
sum_depth (amount e) = 0
sum_depth (term e n f g) = 0
sum_depth (sum_over n c l) = suc (sum_depth l)
sum_depth (chain g t l) = max (sum_depth t) (sum_depth l)
sum_depth nothing = 0

unfoldable pub depth : Constraint → ℕ
depth (compare c l r) = max (sum_depth l) (sum_depth r)
depth (for_all n c r) = suc (depth r)

-- the words keep this model
pub record Keeps (ws : List ℕ) (m : Model) : Type 0 where
  pub symbols : m.symbols ≡ symbols_in ws
  pub numbered : Numbered ws
  pub constraints : ConstraintsIn ws 0 m.constraints
  pub objective : LinIn ws (objective_place ws) m.objective

-- values in words, by the variables' numbers
abbrev pub assignment : List ℕ → Assignment
assignment vs u = to_z w64 (word vs u)
