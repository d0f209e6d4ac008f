-- What a model means: values, feasible assignments, and which outcomes are right. No bounds on sizes, no solver, no memory in it. Assumes nothing.
use Rattle.std.specs.Prelude.{◌≡◌, ℕ, zero, suc, ◌+◌, ◌*◌, ◌^◌, ◌<◌, Bool, true, false, cond, not, ◌&&◌, List, [], ◌∷◌, ◌++◌, replicate, ℤ, pos, negsuc, ◌+ℤ◌, ◌-ℤ◌, ◌*ℤ◌, neg_ℤ, ◌≤ℤ◌, Some, None, Option, int_le, int_lt, nat_lt, slice_index, slice_index_or, unsigned_abs}
use Rattle.std.specs.List.{AllByRecursion}
use Rattle.integer.specs.Sums.{total}
use Rattle.model.specs.declared.Operator.{Operator}
use Rattle.model.specs.declared.Operator.TheVariants.{Plus, Minus, Times}
use Rattle.model.specs.declared.Relation.{Relation}
use Rattle.model.specs.declared.Relation.TheVariants.{Less, Equal, Differ}
use Rattle.model.specs.declared.Comparison.{Comparison}
use Rattle.model.specs.declared.Comparison.TheVariants.{AtMost, AtLeast, Exactly}
use Rattle.model.specs.declared.Sign.{Sign}
use Rattle.model.specs.declared.Sign.TheVariants.{Positive, Negative}
use Rattle.model.specs.Model.{Num, fixed, index, entry, joined, Cond, relate, both, Lin, amount, term, sum_over, chain, nothing, Constraint, compare, for_all, Table, Array, Symbols, Model}

-- a number for each variable, by the variable's number
abbrev pub Assignment : Type 0
Assignment = ℕ → ℤ

abbrev pub no_table : Table
no_table = record { rows = 0; columns = 0; numbers = [] }

abbrev pub no_array : Array
no_array = record { rows = 0; columns = 0; lower = pos 0; upper = pos 0 }

-- whether a whole number is one of 0 up to n - 1
abbrev pub below : ℕ → ℤ → Bool
below n (pos i) = nat_lt i n
below n (negsuc i) = false

-- whether row i and column j lie within so many rows and columns; and the place of what does, counted row by row
abbrev pub inside : ℕ → ℕ → ℤ → ℤ → Bool
inside rows columns i j = below rows i && below columns j

abbrev pub place : ℕ → ℤ → ℤ → ℕ
place columns i j = unsigned_abs i * columns + unsigned_abs j

-- an entry of a table; beyond its ends, also below 0, it is 0
unfoldable pub entry_of : Table → ℤ → ℤ → ℤ
entry_of t i j = cond (inside t.rows t.columns i j) (slice_index_or t.numbers (place t.columns i j) (pos 0)) (pos 0)

abbrev pub operate : Operator → ℤ → ℤ → ℤ
operate Plus a b = a +ℤ b
operate Minus a b = a -ℤ b
operate Times a b = a *ℤ b

abbrev pub size_of : Symbols → ℕ → ℕ
size_of s k = slice_index s.sets k

abbrev pub table_of : Symbols → ℕ → Table
table_of s k = slice_index_or s.tables k no_table

abbrev pub array_of : Symbols → ℕ → Array
array_of s k = slice_index_or s.arrays k no_array

-- what a number comes to for the indexes in force, the outermost first
unfoldable pub number : Symbols → List ℕ → Num → ℤ
number s is (fixed a) = a
number s is (index k) = pos (slice_index is k)
number s is (entry t e f) = entry_of (table_of s t) (number s is e) (number s is f)
number s is (joined o e f) = operate o (number s is e) (number s is f)

abbrev pub is_same : ℤ → ℤ → Bool
is_same a b = int_le a b && int_le b a

abbrev pub related : Relation → ℤ → ℤ → Bool
related Less a b = int_lt a b
related Equal a b = is_same a b
related Differ a b = not (is_same a b)

unfoldable pub holds : Symbols → List ℕ → Cond → Bool
holds s is (relate r e f) = related r (number s is e) (number s is f)
holds s is (both c d) = holds s is c && holds s is d

-- one index more
abbrev pub bound : List ℕ → ℕ → List ℕ
bound is i = is ++ (i ∷ [])

-- where no condition stands all of a set is meant
unfoldable pub passes : Symbols → List ℕ → Option Cond → Bool
passes s is None = true
passes s is (Some c) = holds s is c

-- variables are numbered array by array, and row by row in an array
unfoldable pub variables : List Array → ℕ
variables [] = 0
variables (a ∷ rest) = a.rows * a.columns + variables rest

unfoldable pub first : List Array → ℕ → ℕ
first arrays zero = 0
first [] (suc k) = 0
first (a ∷ rest) (suc k) = a.rows * a.columns + first rest k

abbrev pub present : Symbols → ℕ → ℤ → ℤ → Bool
present s k i j = inside (array_of s k).rows (array_of s k).columns i j

abbrev pub variable : Symbols → ℕ → ℤ → ℤ → ℕ
variable s k i j = first s.arrays k + place (array_of s k).columns i j

abbrev pub signed : Sign → ℤ → ℤ
signed Positive a = a
signed Negative a = neg_ℤ a

-- what a linear sum comes to; a variable beyond its array counts for nothing
unfoldable pub value : Symbols → Assignment → List ℕ → Lin → ℤ
value s x is (amount e) = number s is e
value s x is (term e k f g) =
    cond (present s k (number s is f) (number s is g)) (number s is e *ℤ x (variable s k (number s is f) (number s is g))) (pos 0)
value s x is (sum_over k c l) = total (λ i. cond (passes s (bound is i) c) (value s x (bound is i) l) (pos 0)) (size_of s k)
value s x is (chain g t l) = signed g (value s x is t) +ℤ value s x is l
value s x is nothing = pos 0

abbrev pub Compares : Comparison → ℤ → ℤ → Type 0
Compares AtMost a b = a ≤ℤ b
Compares AtLeast a b = b ≤ℤ a
Compares Exactly a b = a ≡ b

unfoldable pub Meets : Symbols → Assignment → List ℕ → Constraint → Type 0
Meets s x is (compare c l r) = Compares c (value s x is l) (value s x is r)
Meets s x is (for_all k c r) = (i : ℕ) → i < size_of s k → passes s (bound is i) c ≡ true → Meets s x (bound is i) r

-- a bound of each variable, by number
unfoldable pub spread : (Array → ℤ) → List Array → List ℤ
spread f [] = []
spread f (a ∷ rest) = replicate (a.rows * a.columns) (f a) ++ spread f rest

abbrev pub lowers : Symbols → List ℤ
lowers s = spread (λ a. a.lower) s.arrays

abbrev pub uppers : Symbols → List ℤ
uppers s = spread (λ a. a.upper) s.arrays

-- every variable within its bounds, and every constraint met
pub record Feasible (m : Model) (x : Assignment) : Type 0 where
  pub within : (u : ℕ) → u < variables m.symbols.arrays → (slice_index_or (lowers m.symbols) u (pos 0) ≤ℤ x u) × (x u ≤ℤ slice_index_or (uppers m.symbols) u (pos 0))
  pub meets : AllByRecursion (Meets m.symbols x []) m.constraints

unfoldable pub cost : Model → Assignment → ℤ
cost m x = value m.symbols x [] m.objective

-- how many whole numbers lie from a lower bound to the upper one, which is so much above it
abbrev pub width : ℤ → ℕ
width (pos n) = suc n
width (negsuc n) = 0

-- how many assignments lie within the bounds
unfoldable pub assignments : List Array → ℕ
assignments [] = 1
assignments (a ∷ rest) = width (a.upper -ℤ a.lower) ^ (a.rows * a.columns) * assignments rest

-- what may be told of a model
pub data Outcome : Type 0 where
  best : Assignment → Outcome
  infeasible : Outcome
  too_long : Outcome

-- THE MAIN PROMISE: an assignment that is told is feasible and none costs less; where it is told that none is feasible, none is
unfoldable pub Right : Model → Outcome → Type 0
Right m (best x) = Feasible m x × ((y : Assignment) → Feasible m y → cost m x ≤ℤ cost m y)
Right m infeasible = (y : Assignment) → Feasible m y → ⊥
Right m too_long = Unit {0}
