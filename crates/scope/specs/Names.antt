-- The names that a scope has, as reading takes them: the newest first. Assumes nothing.
use Rattle.std.specs.Prelude.{ℕ, ◌-◌, List, map, take, drop, Some, None, Option}
use Rattle.compose.specs.declared.Name.{Name}
use Rattle.grammar.specs.Grammar.{Word}
use Rattle.grammar.specs.Reading.{Sort, a_set, a_table, an_array, an_index, Named, Names}
use Rattle.scope.specs.declared.Symbol.{Symbol}
use Rattle.scope.specs.declared.Symbol.TheVariants.{Set, Table, Array, Index}
use Rattle.scope.specs.declared.Entry.{Entry}

abbrev pub part : List ℕ → Name → Word
part x n = take (n.end - n.begin) (drop n.begin x)

abbrev pub sort_of : Symbol → Sort
sort_of (Set k) = a_set k
sort_of (Table g) = a_table g.number g.rows g.columns
sort_of (Array g) = an_array g.number g.rows g.columns
sort_of (Index l) = an_index l

abbrev pub sort_told : Option Symbol → Option Sort
sort_told None = None
sort_told (Some s) = Some (sort_of s)

abbrev pub named : List ℕ → Entry → Named
named x e = record { word = part x e.name; sort = sort_of e.symbol }

abbrev pub names_in : List ℕ → List Entry → Names
names_in x es = map (named x) es
