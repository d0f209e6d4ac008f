-- What a text says: the model of its lines. Assumes nothing.
use Rattle.std.specs.Prelude.{◌≡◌, ℕ, cond, List, [], ◌∷◌, ◌++◌, map, pos, Some, None, Option, ◌==◌}
use Rattle.model.specs.declared.Comparison.{Comparison}
use Rattle.model.specs.declared.Sign.{Sign}
use Rattle.model.specs.declared.Sign.TheVariants.{Positive}
use Rattle.model.specs.Model as model
use Rattle.grammar.specs.Grammar.{Num, fixed, index, entry1, entry2, joined, Cond, only, with_and, Term, alone, times1, times2, sum_over, Lin, one, more, Sides, last, next, Row, compare, for_all, Line, set_line, table_line, array_line, least_line, wish_line}
use Rattle.grammar.specs.Reading.{Names, find, Sort, a_set, a_table, an_array, an_index, with_index, size, value, State, at_first, behind}
use Rattle.grammar.specs.Fine.{Written}

-- the number of a name among those of its sort, or the level of an index
abbrev pub number_of : Option Sort → ℕ
number_of None = 0
number_of (Some (a_set k)) = k
number_of (Some (a_table k r c)) = k
number_of (Some (an_array k r c)) = k
number_of (Some (an_index l)) = l

abbrev pub columns_of : Option Sort → ℕ
columns_of None = 0
columns_of (Some (a_set k)) = 0
columns_of (Some (a_table k r c)) = c
columns_of (Some (an_array k r c)) = c
columns_of (Some (an_index l)) = 0

abbrev pub naught : model.Num
naught = model.fixed (pos 0)

-- one place stands for the row where there is one column, else for the column
abbrev pub row_place : Option Sort → model.Num → model.Num
row_place k e = cond (columns_of k == 1) e naught

abbrev pub column_place : Option Sort → model.Num → model.Num
column_place k e = cond (columns_of k == 1) naught e

unfoldable pub num_of : Names → Num → model.Num
num_of ns (fixed n) = model.fixed (value n)
num_of ns (index w) = model.index (number_of (find w ns))
num_of ns (entry1 w e) = model.entry (number_of (find w ns)) (row_place (find w ns) (num_of ns e)) (column_place (find w ns) (num_of ns e))
num_of ns (entry2 w e f) = model.entry (number_of (find w ns)) (num_of ns e) (num_of ns f)
num_of ns (joined o e f) = model.joined o (num_of ns e) (num_of ns f)

-- conditions are joined from the left
unfoldable pub cond_behind : Names → model.Cond → Cond → model.Cond
cond_behind ns c (only e r f) = model.both c (model.relate r (num_of ns e) (num_of ns f))
cond_behind ns c (with_and e r f d) = cond_behind ns (model.both c (model.relate r (num_of ns e) (num_of ns f))) d

unfoldable pub cond_of : Names → Cond → model.Cond
cond_of ns (only e r f) = model.relate r (num_of ns e) (num_of ns f)
cond_of ns (with_and e r f c) = cond_behind ns (model.relate r (num_of ns e) (num_of ns f)) c

unfoldable pub filter_of : Names → Option Cond → Option model.Cond
filter_of ns None = None
filter_of ns (Some c) = Some (cond_of ns c)

-- a sum that stands behind a sign: its first term has it
unfoldable mutual
  pub term_of : Names → Term → model.Lin
  term_of ns (alone e) = model.amount (num_of ns e)
  term_of ns (times1 e w f) = model.term (num_of ns e) (number_of (find w ns)) (row_place (find w ns) (num_of ns f)) (column_place (find w ns) (num_of ns f))
  term_of ns (times2 e w f g) = model.term (num_of ns e) (number_of (find w ns)) (num_of ns f) (num_of ns g)
  term_of ns (sum_over s i c l) = model.sum_over (number_of (find s ns)) (filter_of (with_index i ns) c) (lin_behind Positive (with_index i ns) l)

  pub lin_behind : Sign → Names → Lin → model.Lin
  lin_behind h ns (one t) = model.chain h (term_of ns t) model.nothing
  lin_behind h ns (more t g l) = model.chain h (term_of ns t) (lin_behind g ns l)

abbrev pub lin_of : Names → Lin → model.Lin
lin_of ns l = lin_behind Positive ns l

unfoldable pub left_of : Sign → Names → Sides → model.Lin
left_of h ns (last t c l) = model.chain h (term_of ns t) model.nothing
left_of h ns (next t g s) = model.chain h (term_of ns t) (left_of g ns s)

unfoldable pub comparison_of : Sides → Comparison
comparison_of (last t c l) = c
comparison_of (next t g s) = comparison_of s

unfoldable pub right_of : Names → Sides → model.Lin
right_of ns (last t c l) = lin_of ns l
right_of ns (next t g s) = right_of ns s

unfoldable pub row_of : Names → Row → model.Constraint
row_of ns (compare s) = model.compare (comparison_of s) (left_of Positive ns s) (right_of ns s)
row_of ns (for_all s i c r) = model.for_all (number_of (find s ns)) (filter_of (with_index i ns) c) (row_of (with_index i ns) r)

-- what each line adds to the model of the lines before it
unfoldable pub with_line : State → Line → model.Model → model.Model
with_line st (set_line w n) m = record {
  symbols = record { sets = m.symbols.sets ++ (size n ∷ []); tables = m.symbols.tables; arrays = m.symbols.arrays };
  constraints = m.constraints;
  objective = m.objective;
}
with_line st (table_line w r c n ns) m = record {
  symbols = record { sets = m.symbols.sets; tables = m.symbols.tables ++ (record { rows = size r; columns = size c; numbers = map value (n ∷ ns) } ∷ []); arrays = m.symbols.arrays };
  constraints = m.constraints;
  objective = m.objective;
}
with_line st (array_line w r c l h) m = record {
  symbols = record { sets = m.symbols.sets; tables = m.symbols.tables; arrays = m.symbols.arrays ++ (record { rows = size r; columns = size c; lower = value l; upper = value h } ∷ []) };
  constraints = m.constraints;
  objective = m.objective;
}
with_line st (least_line l) m = record { symbols = m.symbols; constraints = m.constraints; objective = lin_of st.names l }
with_line st (wish_line r) m = record { symbols = m.symbols; constraints = m.constraints ++ (row_of st.names r ∷ []); objective = m.objective }

unfoldable pub with_lines : State → List Line → model.Model → model.Model
with_lines st [] m = m
with_lines st (l ∷ ls) m = with_lines (behind l st) ls (with_line st l m)

abbrev pub no_model : model.Model
no_model = record { symbols = record { sets = []; tables = []; arrays = [] }; constraints = []; objective = model.nothing }

abbrev pub model_of : List Line → model.Model
model_of ls = with_lines at_first ls no_model

-- the text is grammatical, has no fault of names or ranges, and this is its model
abbrev pub Says : List ℕ → model.Model → Type 0
Says x m = (ls : List Line) × Written x ls × (m ≡ model_of ls)

-- a text says one model at most
abbrev pub OneModel : Type 0
OneModel = (x : List ℕ) (m n : model.Model) → Says x m → Says x n → m ≡ n
