-- Sets, tables and arrays, as words have them. Assumes nothing.
use Rattle.std.proofs.Common.{◌≡◌, ℕ, ◌+◌, ◌*◌, ◌<◌, ◌≤◌, Bool, true, false, cond, ◌&&◌, List, get_or, ℤ, pos, negsuc, nat_abs, Some, None, Option, sym, refl, ap, ◌∙◌, subst, ap₂, mul-le-mul, arith, w64, to_z}
use lib.Arith.{digits_lt}
use Rattle.std.proofs.lemmas.Bool.{le-ltb, cond-true, cond-false}
use Rattle.model.specs.Model.{Table, Array}
use Rattle.model.specs.Meaning.{below, inside, place, entry_of, table_of, array_of, present, variable, first, no_table, no_array}
use Rattle.model.specs.Words.{word, table_count, array_count, table_rows, table_columns, table_start, array_rows, array_columns, array_first}
use Rattle.model.specs.Kept.{table_in, array_in, symbols_in, Numbered}
use Rattle.model.proofs.Listed.{listed_at, listed_past}

below_some : (n : ℕ) (i : ℤ) (a : ℕ) → Some a ≡ cond (below n i) (Some (nat_abs i)) None → (below n i ≡ true) × (a ≡ nat_abs i)
below_some n i a e = by (below n i) refl e
  where
    by : (t : Bool) → below n i ≡ t → Some a ≡ cond t (Some (nat_abs i)) None → (below n i ≡ true) × (a ≡ nat_abs i)
    by true h f = (h, cc)
    by false h f = let z : ◌≡◌ {A = ℕ} 0 1 = cc in absurd (omega arith)

pub placed : (rows columns : ℕ) (i j : ℤ) (a b : ℕ) → Some a ≡ cond (below rows i) (Some (nat_abs i)) None → Some b ≡ cond (below columns j) (Some (nat_abs j)) None
    → Some (a * columns + b) ≡ cond (inside rows columns i j) (Some (place columns i j)) None
placed rows columns i j a b e f =
    let (p, q) = below_some rows i a e in
    let (r, s) = below_some columns j b f in
    simp (p, r) (simp (q, s))

-- at most a million, with at most a thousand of each
pub place_small : (rows columns a b : ℕ) → rows ≤ 1000 → columns ≤ 1000 → a < rows → b < columns → a * columns + b < 1000000
place_small rows columns a b p q h k = omega (arith, digits_lt {q = a} h k, mul-le-mul p q)

-- the same rows and columns under other names
pub same_place : (r s c d : ℕ) (i j : ℤ) (o : Option ℕ) → r ≡ s → c ≡ d → o ≡ cond (inside r c i j) (Some (place c i j)) None → o ≡ cond (inside s d i j) (Some (place d i j)) None
same_place r s c d i j o e f h = h ∙ ap₂ (λ m n. cond (inside m n i j) (Some (place n i j)) None) e f

pub same_below : (r s c d p : ℕ) → r ≡ s → c ≡ d → p < r * c → p < s * d
same_below r s c d p e f h = subst (λ n. p < n) (ap₂ ◌*◌ e f) h

-- what the symbols of words are, within and beyond how many there are
pub table_here : (ws : List ℕ) (t : ℕ) → t < table_count ws → table_of (symbols_in ws) t ≡ table_in ws t
table_here ws t h = listed_at (table_in ws) (table_count ws) t no_table h

pub table_none : (ws : List ℕ) (t : ℕ) → table_count ws ≤ t → table_of (symbols_in ws) t ≡ no_table
table_none ws t h = listed_past (table_in ws) (table_count ws) t no_table h

pub array_here : (ws : List ℕ) (a : ℕ) → a < array_count ws → array_of (symbols_in ws) a ≡ array_in ws a
array_here ws a h = listed_at (array_in ws) (array_count ws) a no_array h

pub array_none : (ws : List ℕ) (a : ℕ) → array_count ws ≤ a → array_of (symbols_in ws) a ≡ no_array
array_none ws a h = listed_past (array_in ws) (array_count ws) a no_array h

below_none : (i : ℤ) → below 0 i ≡ false
below_none (pos i) = le-ltb i 0 (omega arith)
below_none (negsuc i) = refl

inside_none : (i j : ℤ) → inside 0 0 i j ≡ false
inside_none i j = ap (λ t. t && below 0 j) (below_none i)

-- an entry beyond the ends, and one within them
pub entry_outside : (t : Table) (i j : ℤ) → inside t.rows t.columns i j ≡ false → entry_of t i j ≡ pos 0
unfolding entry_of
entry_outside t i j h = cond-false (inside t.rows t.columns i j) _ _ h

pub entry_none : (ws : List ℕ) (t : ℕ) (i j : ℤ) → table_count ws ≤ t → entry_of (table_of (symbols_in ws) t) i j ≡ pos 0
entry_none ws t i j h = ap (λ x. entry_of x i j) (table_none ws t h) ∙ entry_outside no_table i j (inside_none i j)

-- a place that is there is a number of its rows and columns, and inside
place_some : (rows columns : ℕ) (i j : ℤ) (p : ℕ) → Some p ≡ cond (inside rows columns i j) (Some (place columns i j)) None → (inside rows columns i j ≡ true) × (p ≡ place columns i j)
place_some rows columns i j p e = by (inside rows columns i j) refl e
  where
    by : (t : Bool) → inside rows columns i j ≡ t → Some p ≡ cond t (Some (place columns i j)) None → (inside rows columns i j ≡ true) × (p ≡ place columns i j)
    by true h f = (h, cc)
    by false h f = let z : ◌≡◌ {A = ℕ} 0 1 = cc in absurd (omega arith)

place_no : (rows columns : ℕ) (i j : ℤ) → None ≡ cond (inside rows columns i j) (Some (place columns i j)) None → inside rows columns i j ≡ false
place_no rows columns i j e = by (inside rows columns i j) refl e
  where
    by : (t : Bool) → inside rows columns i j ≡ t → None ≡ cond t (Some (place columns i j)) None → inside rows columns i j ≡ false
    by true h f = let z : ◌≡◌ {A = ℕ} 0 1 = cc in absurd (omega arith)
    by false h f = h

pub entry_at : (ws : List ℕ) (t : ℕ) (i j : ℤ) (p : ℕ) → t < table_count ws → p < table_rows ws t * table_columns ws t
    → Some p ≡ cond (inside (table_rows ws t) (table_columns ws t) i j) (Some (place (table_columns ws t) i j)) None
    → entry_of (table_of (symbols_in ws) t) i j ≡ to_z w64 (word ws (table_start ws t + p))
unfolding entry_of
entry_at ws t i j p h l e =
    let (q, r) = place_some (table_rows ws t) (table_columns ws t) i j p e in
    ap (λ x. entry_of x i j) (table_here ws t h) ∙ cond-true (inside (table_rows ws t) (table_columns ws t) i j) _ _ q
    ∙ ap (λ k. get_or (table_in ws t).numbers k (pos 0)) (sym r) ∙ listed_at (λ k. to_z w64 (word ws (table_start ws t + k))) (table_rows ws t * table_columns ws t) p (pos 0) l

pub entry_beyond : (ws : List ℕ) (t : ℕ) (i j : ℤ) → t < table_count ws
    → None ≡ cond (inside (table_rows ws t) (table_columns ws t) i j) (Some (place (table_columns ws t) i j)) None
    → entry_of (table_of (symbols_in ws) t) i j ≡ pos 0
entry_beyond ws t i j h e = ap (λ x. entry_of x i j) (table_here ws t h) ∙ entry_outside (table_in ws t) i j (place_no (table_rows ws t) (table_columns ws t) i j e)

-- the same for variables
pub absent : (ws : List ℕ) (a : ℕ) (i j : ℤ) → array_count ws ≤ a → present (symbols_in ws) a i j ≡ false
absent ws a i j h = ap (λ (x : Array). inside x.rows x.columns i j) (array_none ws a h) ∙ inside_none i j

module _ (ws : List ℕ) (a : ℕ) (i j : ℤ) (h : a < array_count ws) where
  pub present_at : (p : ℕ) → Some p ≡ cond (inside (array_rows ws a) (array_columns ws a) i j) (Some (place (array_columns ws a) i j)) None → present (symbols_in ws) a i j ≡ true
  present_at p e = ap (λ (x : Array). inside x.rows x.columns i j) (array_here ws a h) ∙ (place_some (array_rows ws a) (array_columns ws a) i j p e).0

  pub absent_at : None ≡ cond (inside (array_rows ws a) (array_columns ws a) i j) (Some (place (array_columns ws a) i j)) None → present (symbols_in ws) a i j ≡ false
  absent_at e = ap (λ (x : Array). inside x.rows x.columns i j) (array_here ws a h) ∙ place_no (array_rows ws a) (array_columns ws a) i j e

  pub variable_at : (p : ℕ) → Some p ≡ cond (inside (array_rows ws a) (array_columns ws a) i j) (Some (place (array_columns ws a) i j)) None
      → Numbered ws → array_first ws a + p ≡ variable (symbols_in ws) a i j
  variable_at p e n =
      ap (λ f. f + p) (n a h)
      ∙ ap (λ k. first (symbols_in ws).arrays a + k) ((place_some (array_rows ws a) (array_columns ws a) i j p e).1 ∙ sym (ap (λ (x : Array). place x.columns i j) (array_here ws a h)))
