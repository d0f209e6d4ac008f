-- Which grammatical lines have no fault of names or ranges: each name is there, of its sort, and new where it has to be; numbers are in range; nothing is too many, too deep or too long. Assumes nothing.
use Rattle.std.specs.Prelude.{◌≡◌, ℕ, zero, suc, ◌*◌, ◌<◌, ◌≤◌, true, false, List, [], ◌∷◌, length, ◌≤ℤ◌, Some, None, Option}
use Rattle.std.specs.List.{AllByRecursion}
use Rattle.grammar.specs.Grammar.{Word, Num, fixed, index, entry1, entry2, joined, Cond, only, with_and, Term, alone, times1, times2, sum_over, Lin, one, more, Sides, last, next, Row, compare, for_all, Line, set_line, table_line, array_line, least_line, wish_line, IsLine, lines_text}
use Rattle.grammar.specs.Reading.{Names, find, set_there, table_there, array_there, index_there, one_place, free, with_index, size, value, small, within, bound_small, State, at_first, behind}

-- names ns are there, and so many brackets may be opened within each other
unfoldable pub FineNum : Names → ℕ → Num → Type 0
FineNum ns left (fixed n) = small n ≡ true
FineNum ns left (index w) = index_there (find w ns) ≡ true
FineNum ns zero (entry1 w e) = ⊥
FineNum ns (suc left) (entry1 w e) = (table_there (find w ns) ≡ true) × (one_place (find w ns) ≡ true) × FineNum ns left e
FineNum ns zero (entry2 w e f) = ⊥
FineNum ns (suc left) (entry2 w e f) = (table_there (find w ns) ≡ true) × FineNum ns left e × FineNum ns left f
FineNum ns zero (joined o e f) = ⊥
FineNum ns (suc left) (joined o e f) = FineNum ns left e × FineNum ns left f

unfoldable pub FineCond : Names → ℕ → Cond → Type 0
FineCond ns left (only e r f) = FineNum ns left e × FineNum ns left f
FineCond ns left (with_and e r f c) = FineNum ns left e × FineNum ns left f × FineCond ns left c

unfoldable pub FineFilter : Names → ℕ → Option Cond → Type 0
FineFilter ns left None = Unit {0}
FineFilter ns left (Some c) = FineCond ns left c

-- a set that is there, an index that is new
abbrev pub FineHeader : Names → ℕ → Word → Word → Option Cond → Type 0
FineHeader ns left s i c = (set_there (find s ns) ≡ true) × (free i ns ≡ true) × FineFilter (with_index i ns) left c

-- and so many sums and alls may stand within each other
unfoldable mutual
  pub FineTerm : Names → ℕ → ℕ → Term → Type 0
  FineTerm ns left nest (alone e) = FineNum ns left e
  FineTerm ns zero nest (times1 e w f) = ⊥
  FineTerm ns (suc left) nest (times1 e w f) = FineNum ns (suc left) e × (array_there (find w ns) ≡ true) × (one_place (find w ns) ≡ true) × FineNum ns left f
  FineTerm ns zero nest (times2 e w f g) = ⊥
  FineTerm ns (suc left) nest (times2 e w f g) = FineNum ns (suc left) e × (array_there (find w ns) ≡ true) × FineNum ns left f × FineNum ns left g
  FineTerm ns zero nest (sum_over s i c l) = ⊥
  FineTerm ns (suc left) zero (sum_over s i c l) = ⊥
  FineTerm ns (suc left) (suc nest) (sum_over s i c l) = FineHeader ns (suc left) s i c × FineLin (with_index i ns) left nest l

  pub FineLin : Names → ℕ → ℕ → Lin → Type 0
  FineLin ns left nest (one t) = FineTerm ns left nest t
  FineLin ns left nest (more t g l) = FineTerm ns left nest t × FineLin ns left nest l

unfoldable pub FineSides : Names → ℕ → Sides → Type 0
FineSides ns nest (last t c l) = FineTerm ns 64 nest t × FineLin ns 64 nest l
FineSides ns nest (next t g s) = FineTerm ns 64 nest t × FineSides ns nest s

unfoldable pub FineRow : Names → ℕ → Row → Type 0
FineRow ns nest (compare s) = FineSides ns nest s
FineRow ns zero (for_all s i c r) = ⊥
FineRow ns (suc nest) (for_all s i c r) = FineHeader ns 64 s i c × FineRow (with_index i ns) nest r

unfoldable pub FineLine : State → Line → Type 0
FineLine st (set_line w n) = (st.sets < 16) × (free w st.names ≡ true) × (within 0 1000 n ≡ true)
FineLine st (table_line w r c n ns) =
    (st.tables < 16) × (free w st.names ≡ true) × (within 1 1000 r ≡ true) × (within 1 1000 c ≡ true) × (small n ≡ true) × AllByRecursion (λ m. small m ≡ true) ns × (suc (length ns) ≡ size r * size c)
FineLine st (array_line w r c l h) =
    (st.arrays < 16) × (free w st.names ≡ true) × (within 1 1000 r ≡ true) × (within 1 1000 c ≡ true) × (bound_small l ≡ true) × (bound_small h ≡ true) × (value l ≤ℤ value h)
FineLine st (least_line l) = (st.least ≡ false) × FineLin st.names 64 8 l
FineLine st (wish_line r) = (st.wishes < 256) × FineRow st.names 8 r

-- lines one after the other; at the end there are an objective and a variable array
unfoldable pub FineLines : State → List Line → Type 0
FineLines st [] = (st.least ≡ true) × (0 < st.arrays)
FineLines st (l ∷ ls) = FineLine st l × FineLines (behind l st) ls

-- the text is these lines, which are grammatical and have no fault
abbrev pub Written : List ℕ → List Line → Type 0
Written x ls = AllByRecursion IsLine ls × FineLines at_first ls × (length x ≤ 65536) × (x ≡ lines_text ls [])
