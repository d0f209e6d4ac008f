-- Every model that a text says is in bounds. Assumes nothing.
use Rattle.std.proofs.Common.{◌≡◌, ◌<◌, ◌≤◌, true, List, [], ◌∷◌, map, length, pos, neg_ℤ, nat_abs, ◌≤ℤ◌, sym, refl, subst, arith}
use Rattle.std.specs.List.{AllByRecursion}
use Rattle.std.proofs.ByRecursion.{All-weaker, All-push, All-map}
use Rattle.std.proofs.lemmas.List.{length_push, length-map}
use Rattle.std.proofs.lemmas.Int.{ints}
use Rattle.std.proofs.lemmas.Bool.{leb-true}
use Rattle.model.specs.declared.Sign.TheVariants.{Positive}
use Rattle.model.specs.Model as model
use Rattle.grammar.specs.Grammar.{Word, Numeral, Line, set_line, table_line, array_line, least_line, wish_line}
use Rattle.grammar.specs.Reading.{levels, size, value, small, bound_small, State, at_first, behind}
use Rattle.grammar.specs.Fine.{FineLine, FineLines}
use Rattle.grammar.specs.Says.{row_of, with_line, with_lines, no_model}
use Rattle.grammar.specs.Bounds.{TableFits, ArrayFits, Fits, InBounds}
use Rattle.grammar.proofs.Bounded.{size_is, small_fits, within_size, Known, LinGood, nothing_good, lin_good, RowGood, row_good}

-- no fewer of each sort
record Grows (s t : model.Symbols) : Type 0 where
  sets : length s.sets ≤ length t.sets
  tables : length s.tables ≤ length t.tables
  arrays : length s.arrays ≤ length t.arrays

line_grows : (st : State) (l : Line) (m : model.Model) → Grows m.symbols (with_line st l m).symbols
unfolding with_line
line_grows st (set_line w n) m = record { sets = simp length_push (omega arith); tables = omega arith; arrays = omega arith }
line_grows st (table_line w r c n ns) m = record { sets = omega arith; tables = simp length_push (omega arith); arrays = omega arith }
line_grows st (array_line w r c l h) m = record { sets = omega arith; tables = omega arith; arrays = simp length_push (omega arith) }
line_grows st (least_line l) m = record { sets = omega arith; tables = omega arith; arrays = omega arith }
line_grows st (wish_line r) m = record { sets = omega arith; tables = omega arith; arrays = omega arith }

lines_grow : (st : State) (ls : List Line) (m : model.Model) → Grows m.symbols (with_lines st ls m).symbols
unfolding with_lines
lines_grow st [] m = record { sets = omega arith; tables = omega arith; arrays = omega arith }
lines_grow st (l ∷ ls) m =
    let g = line_grows st l m in
    let h = lines_grow (behind l st) ls (with_line st l m) in
    record { sets = omega arith; tables = omega arith; arrays = omega arith }

-- the model of the lines so far fits, where t are the symbols of all lines
record Kept (t : model.Symbols) (st : State) (m : model.Model) : Type 0 where
  sets : (length m.symbols.sets ≡ st.sets) × (st.sets ≤ 16) × AllByRecursion (λ n. n ≤ 1000) m.symbols.sets
  tables : (length m.symbols.tables ≡ st.tables) × (st.tables ≤ 16) × AllByRecursion TableFits m.symbols.tables
  arrays : (length m.symbols.arrays ≡ st.arrays) × (st.arrays ≤ 16) × AllByRecursion ArrayFits m.symbols.arrays
  constraints : (length m.constraints ≡ st.wishes) × (st.wishes ≤ 256) × AllByRecursion (RowGood t 0 8) m.constraints
  objective : LinGood t 0 8 m.objective
  names : Known t st.names
  outside : levels st.names ≡ 0

table_fits : (st : State) (w : Word) (r c n : Numeral) (ns : List Numeral) → FineLine st (table_line w r c n ns) → TableFits (record { rows = size r; columns = size c; numbers = map value (n ∷ ns) })
unfolding FineLine
table_fits st w r c n ns f =
    let (_, _, a, b, h, hs, e) = f in
    record {
      rows = within_size 1 1000 r a;
      columns = within_size 1 1000 c b;
      count = simp length-map e;
      numbers = (small_fits n h, All-map (λ a. nat_abs a < 1000000) value ns (All-weaker (λ m. small m ≡ true) (λ m. nat_abs (value m) < 1000000) small_fits ns hs));
    }

bound_fits : (n : Numeral) → bound_small n ≡ true → (neg_ℤ (pos 1000000) ≤ℤ value n) × (value n ≤ℤ pos 1000000)
bound_fits n e = let l = leb-true (size n) 1000000 e in let s = size_is n in (omega (arith, ints), omega (arith, ints))

array_fits : (st : State) (w : Word) (r c l h : Numeral) → FineLine st (array_line w r c l h) → ArrayFits (record { rows = size r; columns = size c; lower = value l; upper = value h })
unfolding FineLine
array_fits st w r c l h f =
    let (_, _, a, b, p, q, e) = f in
    record { rows = within_size 1 1000 r a; columns = within_size 1 1000 c b; bounds = ((bound_fits l p).0, e, (bound_fits h q).1) }

line_kept : (t : model.Symbols) (st : State) (l : Line) (m : model.Model) → Grows (with_line st l m).symbols t → FineLine st l → Kept t st m → Kept t (behind l st) (with_line st l m)
unfolding FineLine behind with_line levels
line_kept t st (set_line w n) m g f k =
    let e = length_push m.symbols.sets (size n) in
    record {
      sets = (omega arith, omega arith, All-push (λ n. n ≤ 1000) m.symbols.sets (size n) k.sets.2 (within_size 0 1000 n f.2).1);
      tables = k.tables;
      arrays = k.arrays;
      constraints = k.constraints;
      objective = k.objective;
      names = (omega arith, k.names);
      outside = k.outside;
    }
line_kept t st (table_line w r c n ns) m g f k =
    let e = length_push m.symbols.tables (record { rows = size r; columns = size c; numbers = map value (n ∷ ns) }) in
    record {
      sets = k.sets;
      tables = (omega arith, omega arith, All-push TableFits m.symbols.tables _ k.tables.2 (table_fits st w r c n ns f));
      arrays = k.arrays;
      constraints = k.constraints;
      objective = k.objective;
      names = (omega arith, k.names);
      outside = k.outside;
    }
line_kept t st (array_line w r c l h) m g f k =
    let e = length_push m.symbols.arrays (record { rows = size r; columns = size c; lower = value l; upper = value h }) in
    record {
      sets = k.sets;
      tables = k.tables;
      arrays = (omega arith, omega arith, All-push ArrayFits m.symbols.arrays _ k.arrays.2 (array_fits st w r c l h f));
      constraints = k.constraints;
      objective = k.objective;
      names = (omega arith, k.names);
      outside = k.outside;
    }
line_kept t st (least_line l) m g f k =
    record {
      sets = k.sets;
      tables = k.tables;
      arrays = k.arrays;
      constraints = k.constraints;
      objective = rw k.outside at (lin_good t st.names 64 8 Positive l k.names f.1);
      names = k.names;
      outside = k.outside;
    }
line_kept t st (wish_line r) m g f k =
    let e = length_push m.constraints (row_of st.names r) in
    record {
      sets = k.sets;
      tables = k.tables;
      arrays = k.arrays;
      constraints = (omega arith, omega arith, All-push (RowGood t 0 8) m.constraints (row_of st.names r) k.constraints.2 (rw k.outside at (row_good t st.names 8 r k.names f.1)));
      objective = k.objective;
      names = k.names;
      outside = k.outside;
    }

kept_fits : (st : State) (ls : List Line) (m : model.Model) → FineLines st ls → Kept (with_lines st ls m).symbols st m → Fits (with_lines st ls m)
unfolding FineLines with_lines
kept_fits st [] m f k =
    record {
      sets = (omega arith, k.sets.2);
      tables = (omega arith, k.tables.2);
      arrays = (omega arith, omega arith, k.arrays.2);
      constraints = (omega arith, k.constraints.2);
      objective = k.objective;
    }
kept_fits st (l ∷ ls) m f k = kept_fits (behind l st) ls (with_line st l m) f.1 (line_kept _ st l m (lines_grow (behind l st) ls (with_line st l m)) f.0 k)

pub in_bounds : InBounds
unfolding levels
in_bounds x m (ls, w, e) =
    let k : Kept _ at_first no_model = record {
      sets = (refl, omega arith, tt);
      tables = (refl, omega arith, tt);
      arrays = (refl, omega arith, tt);
      constraints = (refl, omega arith, tt);
      objective = nothing_good _ 0 8;
      names = tt;
      outside = refl;
    } in
    subst Fits (sym e) (kept_fits at_first ls no_model w.1 k)
