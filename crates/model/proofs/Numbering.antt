-- The numbers of variables: each lies below how many there are, and each has its array's bounds. Assumes nothing.
use Rattle.std.proofs.Common.{◌≡◌, ℕ, zero, suc, ◌+◌, ◌*◌, ◌<◌, true, List, [], ◌∷◌, length, get_or, replicate, ℤ, pos, negsuc, refl, ◌∙◌, zero-add, arith}
use lib.Arith.{digits_lt}
use Rattle.std.proofs.lemmas.List.{length-append, length-replicate, get_or-replicate, get_or_append_left, get_or-append-add}
use Rattle.std.proofs.lemmas.Bool.{ltb-true, and_parts, false≢true}
use Rattle.model.specs.Model.{Array, Symbols}
use Rattle.model.specs.Meaning.{no_array, below, inside, place, array_of, present, variable, variables, first, spread}

-- how many variables an array has
abbrev pub cells : Array → ℕ
cells a = a.rows * a.columns

pub place_below : (rows columns : ℕ) (i j : ℤ) → inside rows columns i j ≡ true → place columns i j < rows * columns
place_below rows columns (pos i) (pos j) h =
    let p = and_parts (below rows (pos i)) (below columns (pos j)) h in
    digits_lt (ltb-true i rows p.0) (ltb-true j columns p.1)
place_below rows columns (pos i) (negsuc j) h = absurd (false≢true (and_parts (below rows (pos i)) _ h).1)
place_below rows columns (negsuc i) j h = absurd (false≢true h)

-- the variables of array k are numbered from `first` on
pub first_below : (arrays : List Array) (k p : ℕ) → p < cells (get_or arrays k no_array) → first arrays k + p < variables arrays
unfolding first variables
first_below [] zero p h = absurd (omega arith)
first_below [] (suc k) p h = absurd (omega arith)
first_below (a ∷ rest) zero p h = omega arith
first_below (a ∷ rest) (suc k) p h = let ih = first_below rest k p h in omega arith

-- a variable that is present has a number below how many there are
pub variable_below : (s : Symbols) (k : ℕ) (i j : ℤ) → present s k i j ≡ true → variable s k i j < variables s.arrays
variable_below s k i j h = first_below s.arrays k _ (place_below (array_of s k).rows (array_of s k).columns i j h)

-- there are as many bounds as variables
pub spread_length : (f : Array → ℤ) (arrays : List Array) → length (spread f arrays) ≡ variables arrays
unfolding spread variables
spread_length f [] = refl
spread_length f (a ∷ rest) =
    let ih = spread_length f rest in
    omega (arith, length-append (replicate (cells a) (f a)) (spread f rest), length-replicate (cells a) (f a))

-- the bound of each variable of array k is the array's
pub spread_at : (f : Array → ℤ) (arrays : List Array) (k p : ℕ) (d : ℤ) → p < cells (get_or arrays k no_array) → get_or (spread f arrays) (first arrays k + p) d ≡ f (get_or arrays k no_array)
unfolding spread first
spread_at f [] zero p d h = absurd (omega arith)
spread_at f [] (suc k) p d h = absurd (omega arith)
spread_at f (a ∷ rest) zero p d h =
    let r = replicate (cells a) (f a) in
    rw zero-add (get_or_append_left r (spread f rest) d p (omega (arith, length-replicate (cells a) (f a))) ∙ get_or-replicate (cells a) p (f a) d h)
spread_at f (a ∷ rest) (suc k) p d h =
    let r = replicate (cells a) (f a) in
    let n : cells a + first rest k + p ≡ length r + (first rest k + p) = omega (arith, length-replicate (cells a) (f a)) in
    rw n (get_or-append-add r (spread f rest) (first rest k + p) d ∙ spread_at f rest k p d h)
