-- A model's words: nodes of expressions, and a head for each set, table, array, constraint and line. Assumes nothing.
use Rattle.std.specs.Prelude.{ℕ, ◌+◌, ◌*◌, min, cond, ◌&&◌, List, length, ℤ, Some, None, Option, ◌==◌, nat_le, nat_lt, slice_index}
use Rattle.std.specs.Int.{w64}
use Rattle.std.proofs.Common.{to_z}
use Rattle.model.specs.declared.Operator.TheVariants.{Plus, Minus, Times}
use Rattle.model.specs.declared.Relation.TheVariants.{Less, Equal, Differ}
use Rattle.model.specs.declared.Comparison.TheVariants.{AtMost, AtLeast, Exactly}
use Rattle.model.specs.declared.Sign.TheVariants.{Positive, Negative}
use Rattle.model.specs.declared.Over.{Over}
use Rattle.model.specs.declared.NumNode.{NumNode}
use Rattle.model.specs.declared.NumNode.TheVariants.{Fixed, Index, Entry, Op}
use Rattle.model.specs.declared.CondNode.{CondNode}
use Rattle.model.specs.declared.CondNode.TheVariants.{Relate, Both}
use Rattle.model.specs.declared.LinNode.{LinNode}
use Rattle.model.specs.declared.LinNode.TheVariants.{Amount, Term, Sum, Chain, Nothing}
use Rattle.model.specs.declared.Line.{Line}
use Rattle.model.specs.declared.Line.TheVariants.{Set, Table, Variables, Objective, Constraint}
use Rattle.model.specs.declared.ConstraintNode.{ConstraintNode}
use Rattle.model.specs.declared.ConstraintNode.TheVariants.{Compare, All}

abbrev pub word : List ℕ → ℕ → ℕ
word ws i = slice_index ws i

-- NODES. A node at k: its tag, then its parts; parts that are nodes stand before k

abbrev pub num_of : ℕ → ℕ → ℕ → ℕ → ℕ → Option NumNode
num_of k t a b c =
    cond (t == 1) (Some (Fixed (to_z w64 a)))
    (cond (t == 2) (Some (Index a))
    (cond (t == 3) (cond (nat_lt b k && nat_lt c k) (Some (Entry a b c)) None)
    (cond (nat_lt a k && nat_lt b k) (cond (t == 4) (Some (Op Plus a b)) (cond (t == 5) (Some (Op Minus a b)) (cond (t == 6) (Some (Op Times a b)) None))) None)))

abbrev pub num_at : List ℕ → ℕ → Option NumNode
num_at ws k = cond (nat_le (k + 5) (length ws)) (num_of k (word ws k) (word ws (k + 1)) (word ws (k + 2)) (word ws (k + 3))) None

abbrev pub cond_of : ℕ → ℕ → ℕ → ℕ → Option CondNode
cond_of k t a b =
    cond (nat_lt a k && nat_lt b k)
    (cond (t == 7) (Some (Relate Less a b)) (cond (t == 8) (Some (Relate Equal a b)) (cond (t == 9) (Some (Relate Differ a b)) (cond (t == 10) (Some (Both a b)) None)))) None

abbrev pub cond_at : List ℕ → ℕ → Option CondNode
cond_at ws k = cond (nat_le (k + 5) (length ws)) (cond_of k (word ws k) (word ws (k + 1)) (word ws (k + 2))) None

-- what goes through a set; a condition at place 0 is none
abbrev pub over_of : ℕ → ℕ → ℕ → Over
over_of n c j = record { set = n; filter = cond (c == 0) None (Some c); body = j }

abbrev pub lin_of : ℕ → ℕ → ℕ → ℕ → ℕ → ℕ → Option LinNode
lin_of k t a b c d =
    cond (nat_le 1 t && nat_le t 6) (Some Amount)
    (cond (t == 11) (cond (nat_lt a k && nat_lt c k && nat_lt d k) (Some (Term (record { number = a; array = b; row = c; column = d }))) None)
    (cond (t == 12) (cond (nat_lt a k && nat_lt b k) (Some (Chain Positive a b)) None)
    (cond (t == 13) (cond (nat_lt a k && nat_lt b k) (Some (Chain Negative a b)) None)
    (cond (t == 14) (cond (nat_lt b k && nat_lt c k) (Some (Sum (over_of a b c))) None) None))))

-- at place 0, where no node ever is, there is nothing
abbrev pub lin_at : List ℕ → ℕ → Option LinNode
lin_at ws k = cond (k == 0) (Some Nothing) (cond (nat_le (k + 5) (length ws)) (lin_of k (word ws k) (word ws (k + 1)) (word ws (k + 2)) (word ws (k + 3)) (word ws (k + 4))) None)

abbrev pub constraint_of : ℕ → ℕ → ℕ → ℕ → ℕ → Option ConstraintNode
constraint_of k t a b c =
    cond (t == 18) (cond (nat_lt b k && nat_lt c k) (Some (All (over_of a b c))) None)
    (cond (nat_lt a k && nat_lt b k) (cond (t == 15) (Some (Compare AtMost a b)) (cond (t == 16) (Some (Compare AtLeast a b)) (cond (t == 17) (Some (Compare Exactly a b)) None))) None)

abbrev pub constraint_at : List ℕ → ℕ → Option ConstraintNode
constraint_at ws k = cond (nat_le (k + 5) (length ws)) (constraint_of k (word ws k) (word ws (k + 1)) (word ws (k + 2)) (word ws (k + 3))) None

-- HEADS. How many there are: sets in word 0, tables 1, arrays 2, constraints 3; the objective's node in word 4, lines in word 5

abbrev pub set_count : List ℕ → ℕ
set_count ws = min 16 (word ws 0)

abbrev pub table_count : List ℕ → ℕ
table_count ws = min 16 (word ws 1)

abbrev pub array_count : List ℕ → ℕ
array_count ws = min 16 (word ws 2)

abbrev pub constraint_count : List ℕ → ℕ
constraint_count ws = min 256 (word ws 3)

abbrev pub line_count : List ℕ → ℕ
line_count ws = min 305 (word ws 5)

-- a number that may not be above a limit; above it counts for nothing
abbrev pub limited : ℕ → ℕ → ℕ
limited most n = cond (nat_le n most) n 0

-- a set has four words from 8 on: its size comes first
abbrev pub set_size : List ℕ → ℕ → ℕ
set_size ws k = limited 1000 (word ws (8 + 4 * k))

-- a table has eight from 72 on: rows, columns, and the place of its numbers
abbrev pub table_rows : List ℕ → ℕ → ℕ
table_rows ws k = limited 1000 (word ws (72 + 8 * k))

abbrev pub table_columns : List ℕ → ℕ → ℕ
table_columns ws k = limited 1000 (word ws (73 + 8 * k))

abbrev pub table_start : List ℕ → ℕ → ℕ
table_start ws k = word ws (74 + 8 * k)

-- an array has eight from 200 on: rows, columns, bounds, and the number of its first variable
abbrev pub array_rows : List ℕ → ℕ → ℕ
array_rows ws k = limited 1000 (word ws (200 + 8 * k))

abbrev pub array_columns : List ℕ → ℕ → ℕ
array_columns ws k = limited 1000 (word ws (201 + 8 * k))

abbrev pub array_lower : List ℕ → ℕ → ℤ
array_lower ws k = to_z w64 (word ws (202 + 8 * k))

abbrev pub array_upper : List ℕ → ℕ → ℤ
array_upper ws k = to_z w64 (word ws (203 + 8 * k))

abbrev pub array_first : List ℕ → ℕ → ℕ
array_first ws k = limited 16000000 (word ws (204 + 8 * k))

-- a constraint has one word from 328 on, its node
abbrev pub constraint_place : List ℕ → ℕ → ℕ
constraint_place ws k = word ws (328 + k)

abbrev pub objective_place : List ℕ → ℕ
objective_place ws = word ws 4

-- a line has four from 584 on: its sort and its number among those
abbrev pub line_of : ℕ → ℕ → Option Line
line_of t n =
    cond (t == 1) (Some (Set n)) (cond (t == 2) (Some (Table n)) (cond (t == 3) (Some (Variables n)) (cond (t == 4) (Some Objective) (cond (t == 5) (Some (Constraint n)) None))))

abbrev pub line_at : List ℕ → ℕ → Option Line
line_at ws i = cond (nat_lt i (line_count ws)) (line_of (word ws (584 + 4 * i)) (word ws (585 + 4 * i))) None
