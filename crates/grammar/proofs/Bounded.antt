-- Numbers, sums and constraints that have no fault stand for ones in bounds. Assumes nothing.
use Rattle.std.proofs.Common.{◌≡◌, ℕ, zero, suc, ◌<◌, ◌≤◌, true, eqb, [], ◌∷◌, length, pos, nat_abs, Some, None, Option, refl, arith}
use lib.Signed.{le_z}
use Rattle.std.specs.List.{AllByRecursion}
use Rattle.std.specs.Str.{bytes_eq}
use Rattle.std.proofs.ByRecursion.{All-weaker}
use Rattle.std.proofs.lemmas.Int.{ints}
use Rattle.std.proofs.lemmas.Bool.{ltb-true, and_parts, cond_both, false≢true}
use Rattle.model.specs.declared.Sign.{Sign}
use Rattle.model.specs.declared.Sign.TheVariants.{Positive}
use Rattle.model.specs.Model as model
use Rattle.model.specs.Kept.{depth, sum_depth}
use Rattle.grammar.specs.Grammar.{Word, Numeral, nought, whole, minus, Num, fixed, index, entry1, entry2, joined, Cond, only, with_and, Term, alone, times1, times2, sum_over, Lin, one, more, Sides, last, next, Row, compare, for_all}
use Rattle.grammar.specs.Reading.{Sort, a_set, a_table, an_array, an_index, Named, Names, find, set_there, table_there, array_there, index_there, levels, with_index, size, value, small, within}
use Rattle.grammar.specs.Fine.{FineNum, FineCond, FineFilter, FineTerm, FineLin, FineSides, FineRow}
use Rattle.grammar.specs.Says.{number_of, columns_of, naught, row_place, column_place, num_of, cond_behind, cond_of, filter_of, term_of, lin_behind, left_of, right_of, row_of}
use Rattle.grammar.specs.Bounds.{NumFits, CondFits, FilterFits, LinFits, ConstraintFits}

-- NUMERALS

pub size_is : (n : Numeral) → nat_abs (value n) ≡ size n
size_is nought = refl
size_is (whole d ds) = refl
size_is (minus d ds) = omega (arith, ints)

pub small_fits : (n : Numeral) → small n ≡ true → nat_abs (value n) < 1000000
small_fits n e = let l = ltb-true (size n) 1000000 e in omega (arith, size_is n)

pub within_size : (l h : ℕ) (n : Numeral) → within l h n ≡ true → (l ≤ size n) × (size n ≤ h)
within_size l h n e =
    let p = and_parts (le_z (pos l) (value n)) (le_z (value n) (pos h)) e in
    let s = size_is n in
    (omega (arith, ints), omega (arith, ints))

-- NAMES

-- what a name stands for is there, with n indexes in force
abbrev Stands : model.Symbols → ℕ → Sort → Type 0
Stands s n (a_set k) = k < length s.sets
Stands s n (a_table k r c) = k < length s.tables
Stands s n (an_array k r c) = k < length s.arrays
Stands s n (an_index l) = l < n

abbrev pub Known : model.Symbols → Names → Type 0
Known s ns = AllByRecursion (λ n. Stands s (levels ns) n.sort) ns

stands_more : (s : model.Symbols) (n m : ℕ) → n ≤ m → (k : Sort) → Stands s n k → Stands s m k
stands_more s n m l (a_set k) h = h
stands_more s n m l (a_table k r c) h = h
stands_more s n m l (an_array k r c) h = h
stands_more s n m l (an_index i) h = omega arith

known_index : (s : model.Symbols) (i : Word) (ns : Names) → Known s ns → Known s (with_index i ns)
unfolding levels
known_index s i ns h =
    (omega arith, All-weaker (λ (n : Named). Stands s (levels ns) n.sort) (λ (n : Named). Stands s (suc (levels ns)) n.sort) (λ n. stands_more s (levels ns) (suc (levels ns)) (omega arith) n.sort) ns h)

abbrev StandsIf : model.Symbols → ℕ → Option Sort → Type 0
StandsIf s n None = Unit {0}
StandsIf s n (Some k) = Stands s n k

found : (s : model.Symbols) (n : ℕ) (w : Word) (ns : Names) → AllByRecursion (λ m. Stands s n m.sort) ns → StandsIf s n (find w ns)
unfolding find
found s n w [] h = tt
found s n w (m ∷ ns) h = cond_both (bytes_eq w m.word) (Some m.sort) (find w ns) (StandsIf s n) (λ _. h.0) (λ _. found s n w ns h.1)

set_below : (s : model.Symbols) (n : ℕ) (o : Option Sort) → set_there o ≡ true → StandsIf s n o → number_of o < length s.sets
set_below s n None e h = absurd (false≢true e)
set_below s n (Some (a_set k)) e h = h
set_below s n (Some (a_table k r c)) e h = absurd (false≢true e)
set_below s n (Some (an_array k r c)) e h = absurd (false≢true e)
set_below s n (Some (an_index l)) e h = absurd (false≢true e)

table_below : (s : model.Symbols) (n : ℕ) (o : Option Sort) → table_there o ≡ true → StandsIf s n o → number_of o < length s.tables
table_below s n None e h = absurd (false≢true e)
table_below s n (Some (a_set k)) e h = absurd (false≢true e)
table_below s n (Some (a_table k r c)) e h = h
table_below s n (Some (an_array k r c)) e h = absurd (false≢true e)
table_below s n (Some (an_index l)) e h = absurd (false≢true e)

array_below : (s : model.Symbols) (n : ℕ) (o : Option Sort) → array_there o ≡ true → StandsIf s n o → number_of o < length s.arrays
array_below s n None e h = absurd (false≢true e)
array_below s n (Some (a_set k)) e h = absurd (false≢true e)
array_below s n (Some (a_table k r c)) e h = absurd (false≢true e)
array_below s n (Some (an_array k r c)) e h = h
array_below s n (Some (an_index l)) e h = absurd (false≢true e)

index_below : (s : model.Symbols) (n : ℕ) (o : Option Sort) → index_there o ≡ true → StandsIf s n o → number_of o < n
index_below s n None e h = absurd (false≢true e)
index_below s n (Some (a_set k)) e h = absurd (false≢true e)
index_below s n (Some (a_table k r c)) e h = absurd (false≢true e)
index_below s n (Some (an_array k r c)) e h = absurd (false≢true e)
index_below s n (Some (an_index l)) e h = h

-- NUMBERS AND CONDITIONS

-- both places that one place stands for
places_fit : (s : model.Symbols) (n : ℕ) (o : Option Sort) (e : model.Num) → NumFits s n e → NumFits s n (row_place o e) × NumFits s n (column_place o e)
unfolding NumFits
places_fit s n o e h =
    let z : NumFits s n naught = omega (arith, ints) in
    (cond_both (eqb (columns_of o) 1) e naught (NumFits s n) (λ _. h) (λ _. z), cond_both (eqb (columns_of o) 1) naught e (NumFits s n) (λ _. z) (λ _. h))

num_fits : (s : model.Symbols) (ns : Names) (left : ℕ) (e : Num) → Known s ns → FineNum ns left e → NumFits s (levels ns) (num_of ns e)
unfolding FineNum NumFits num_of
num_fits s ns left (fixed n) k h = small_fits n h
num_fits s ns left (index w) k h = index_below s (levels ns) (find w ns) h (found s (levels ns) w ns k)
num_fits s ns zero (entry1 w e) k h = absurd h
num_fits s ns (suc left) (entry1 w e) k h =
    let p = places_fit s (levels ns) (find w ns) (num_of ns e) (num_fits s ns left e k h.2) in
    (table_below s (levels ns) (find w ns) h.0 (found s (levels ns) w ns k), p.0, p.1)
num_fits s ns zero (entry2 w e f) k h = absurd h
num_fits s ns (suc left) (entry2 w e f) k h =
    (table_below s (levels ns) (find w ns) h.0 (found s (levels ns) w ns k), num_fits s ns left e k h.1, num_fits s ns left f k h.2)
num_fits s ns zero (joined o e f) k h = absurd h
num_fits s ns (suc left) (joined o e f) k h = (num_fits s ns left e k h.0, num_fits s ns left f k h.1)

behind_fits : (s : model.Symbols) (ns : Names) (left : ℕ) (d : model.Cond) (c : Cond) → Known s ns → CondFits s (levels ns) d → FineCond ns left c → CondFits s (levels ns) (cond_behind ns d c)
unfolding FineCond CondFits cond_behind
behind_fits s ns left d (only e r f) k g h = (g, (num_fits s ns left e k h.0, num_fits s ns left f k h.1))
behind_fits s ns left d (with_and e r f c) k g h =
    behind_fits s ns left (model.both d (model.relate r (num_of ns e) (num_of ns f))) c k (g, (num_fits s ns left e k h.0, num_fits s ns left f k h.1)) h.2

filter_fits : (s : model.Symbols) (ns : Names) (left : ℕ) (c : Option Cond) → Known s ns → FineFilter ns left c → FilterFits s (levels ns) (filter_of ns c)
unfolding FineFilter FineCond FilterFits CondFits filter_of cond_of
filter_fits s ns left None k h = tt
filter_fits s ns left (Some (only e r f)) k h = (num_fits s ns left e k h.0, num_fits s ns left f k h.1)
filter_fits s ns left (Some (with_and e r f c)) k h =
    behind_fits s ns left (model.relate r (num_of ns e) (num_of ns f)) c k (num_fits s ns left e k h.0, num_fits s ns left f k h.1) h.2

-- SUMS AND CONSTRAINTS

-- in bounds, and so deep at most
abbrev pub LinGood : model.Symbols → ℕ → ℕ → model.Lin → Type 0
LinGood s n nest l = LinFits s n l × (sum_depth l ≤ nest)

-- a term behind its sign, and what follows it
chain_good : (s : model.Symbols) (n nest : ℕ) (g : Sign) (t l : model.Lin) → LinGood s n nest t → LinGood s n nest l → LinGood s n nest (model.chain g t l)
unfolding LinFits sum_depth
chain_good s n nest g t l h k = ((h.0, k.0), omega arith)

pub nothing_good : (s : model.Symbols) (n nest : ℕ) → LinGood s n nest model.nothing
unfolding LinFits sum_depth
nothing_good s n nest = (tt, omega arith)

mutual
  unfolding FineTerm FineLin LinFits term_of lin_behind sum_depth levels

  term_good : (s : model.Symbols) (ns : Names) (left nest : ℕ) (t : Term) → Known s ns → FineTerm ns left nest t → LinGood s (levels ns) nest (term_of ns t)
  term_good s ns left nest (alone e) k h = (num_fits s ns left e k h, omega arith)
  term_good s ns zero nest (times1 e w f) k h = absurd h
  term_good s ns (suc left) nest (times1 e w f) k h =
      let (a, b, _, d) = h in
      let p = places_fit s (levels ns) (find w ns) (num_of ns f) (num_fits s ns left f k d) in
      ((num_fits s ns (suc left) e k a, array_below s (levels ns) (find w ns) b (found s (levels ns) w ns k), p.0, p.1), omega arith)
  term_good s ns zero nest (times2 e w f g) k h = absurd h
  term_good s ns (suc left) nest (times2 e w f g) k h =
      let (a, b, c, d) = h in
      ((num_fits s ns (suc left) e k a, array_below s (levels ns) (find w ns) b (found s (levels ns) w ns k), num_fits s ns left f k c, num_fits s ns left g k d), omega arith)
  term_good s ns zero nest (sum_over o i c l) k h = absurd h
  term_good s ns (suc left) zero (sum_over o i c l) k h = absurd h
  term_good s ns (suc left) (suc nest) (sum_over o i c l) k h =
      let j = known_index s i ns k in
      let r = lin_good s (with_index i ns) left nest Positive l j h.1 in
      ((set_below s (levels ns) (find o ns) h.0.0 (found s (levels ns) o ns k), filter_fits s (with_index i ns) (suc left) c j h.0.2, r.0), omega arith)

  pub lin_good : (s : model.Symbols) (ns : Names) (left nest : ℕ) (g : Sign) (l : Lin) → Known s ns → FineLin ns left nest l → LinGood s (levels ns) nest (lin_behind g ns l)
  lin_good s ns left nest g (one t) k h = chain_good s (levels ns) nest g (term_of ns t) model.nothing (term_good s ns left nest t k h) (nothing_good s (levels ns) nest)
  lin_good s ns left nest g (more t f l) k h = chain_good s (levels ns) nest g (term_of ns t) (lin_behind f ns l) (term_good s ns left nest t k h.0) (lin_good s ns left nest f l k h.1)

sides_good : (s : model.Symbols) (ns : Names) (nest : ℕ) (g : Sign) (d : Sides) → Known s ns → FineSides ns nest d → LinGood s (levels ns) nest (left_of g ns d) × LinGood s (levels ns) nest (right_of ns d)
unfolding FineSides left_of right_of
sides_good s ns nest g (last t c l) k h = (chain_good s (levels ns) nest g (term_of ns t) model.nothing (term_good s ns 64 nest t k h.0) (nothing_good s (levels ns) nest), lin_good s ns 64 nest Positive l k h.1)
sides_good s ns nest g (next t f d) k h =
    let r = sides_good s ns nest f d k h.1 in
    (chain_good s (levels ns) nest g (term_of ns t) (left_of f ns d) (term_good s ns 64 nest t k h.0) r.0, r.1)

abbrev pub RowGood : model.Symbols → ℕ → ℕ → model.Constraint → Type 0
RowGood s n nest r = ConstraintFits s n r × (depth r ≤ nest)

pub row_good : (s : model.Symbols) (ns : Names) (nest : ℕ) (r : Row) → Known s ns → FineRow ns nest r → RowGood s (levels ns) nest (row_of ns r)
unfolding FineRow ConstraintFits row_of depth levels
row_good s ns nest (compare d) k h = let (l, r) = sides_good s ns nest Positive d k h in ((l.0, r.0), omega arith)
row_good s ns zero (for_all o i c r) k h = absurd h
row_good s ns (suc nest) (for_all o i c r) k h =
    let j = known_index s i ns k in
    let g = row_good s (with_index i ns) nest r j h.1 in
    ((set_below s (levels ns) (find o ns) h.0.0 (found s (levels ns) o ns k), filter_fits s (with_index i ns) 64 c j h.0.2, g.0), omega arith)
