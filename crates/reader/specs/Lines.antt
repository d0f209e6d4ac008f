-- What code tells of the lines that declare sets, tables and variable arrays, and of their parts. Assumes nothing.
use Rattle.std.specs.Prelude.{◌≡◌, ℕ, ◌+◌, ◌*◌, ◌≤◌, List, ◌∷◌, map, length, ℤ}
use Rattle.std.specs.Int.{w64}
use Rattle.std.proofs.Common.{to_z}
use Rattle.compose.specs.declared.Name.{Name}
use Rattle.grammar.specs.Grammar.{Word, Numeral, Line, set_line, table_line, array_line}
use Rattle.grammar.specs.Reading as reading
use Rattle.model.specs.Kept.{listed}
use Rattle.model.specs.Words.{word}
use Rattle.scope.specs.Names.{part}
use Rattle.tokens.specs.declared.Number.{Number}
use Rattle.reader.specs.declared.SizeAt.{SizeAt}
use Rattle.reader.specs.declared.SetLine.{SetLine}
use Rattle.reader.specs.declared.Shape.{Shape}
use Rattle.reader.specs.declared.ArrayLine.{ArrayLine}
use Rattle.reader.specs.declared.TableLine.{TableLine}

-- e is `long` bytes behind a place, or further on, and inside the text, which is not too long before it
pub record Ends (x : List ℕ) (long at e : ℕ) : Type 0 where
  pub onward : at + long ≤ e
  pub inside : e ≤ length x
  pub short : at ≤ 65536 → e ≤ 65536

pub record NameRead (x : List ℕ) (at : ℕ) (w : Word) (p : Name) : Type 0 where
  pub begin : p.begin ≡ at
  pub word : w ≡ part x p
  pub ends : Ends x 1 at p.end

pub record NumberRead (x : List ℕ) (limit at : ℕ) (n : Numeral) (p : Number) : Type 0 where
  pub value : p.value ≡ reading.value n
  pub most : reading.size n ≤ limit
  pub ends : Ends x 1 at p.end

pub record SizeRead (x : List ℕ) (lowest at : ℕ) (n : Numeral) (p : SizeAt) : Type 0 where
  pub size : p.size ≡ reading.size n
  pub least : lowest ≤ p.size
  pub most : p.size ≤ 1000
  pub ends : Ends x 2 at p.end

-- "set a 1" and the line's end are 8 bytes
pub record SetRead (x : List ℕ) (at : ℕ) (l : Line) (p : SetLine) : Type 0 where
  pub word : Word
  pub count : Numeral
  pub tree : l ≡ set_line word count
  pub name : word ≡ part x p.name
  pub size : p.size ≡ reading.size count
  pub most : p.size ≤ 1000
  pub ends : Ends x 8 at p.end

pub record ShapeRead (x : List ℕ) (at : ℕ) (s : reading.Shape) (p : Shape) : Type 0 where
  pub name : s.name ≡ part x p.name
  pub rows : p.rows ≡ reading.size s.rows
  pub columns : p.columns ≡ reading.size s.columns
  pub some : (1 ≤ p.rows) × (1 ≤ p.columns)
  pub most : (p.rows ≤ 1000) × (p.columns ≤ 1000)
  pub ends : Ends x 5 at p.end

-- "unknown a 1 1 from 0 to 1" and the line's end are 26 bytes
pub record ArrayRead (x : List ℕ) (at : ℕ) (l : Line) (p : ArrayLine) : Type 0 where
  pub shape : reading.Shape
  pub low : Numeral
  pub high : Numeral
  pub tree : l ≡ array_line shape.name shape.rows shape.columns low high
  pub shaped : ShapeRead x (at + 8) shape p.shape
  pub lower : p.lower ≡ reading.value low
  pub upper : p.upper ≡ reading.value high
  pub ends : Ends x 26 at p.end

-- n signed numbers from a word on
abbrev pub numbers_in : List ℕ → ℕ → ℕ → List ℤ
numbers_in ws free n = listed (λ i. to_z w64 (word ws (free + i))) n

-- a number behind the first takes 3 bytes at least, with the comma and the space before it
pub record NumbersRead (x ws : List ℕ) (free wanted at : ℕ) (ns : List Numeral) (e : ℕ) : Type 0 where
  pub numbers : numbers_in ws free wanted ≡ map reading.value ns
  pub ends : Ends x (3 * wanted) at e

-- "table a 1 1: 0" and the line's end are 15 bytes
pub record TableRead (x ws : List ℕ) (free at : ℕ) (l : Line) (p : TableLine) : Type 0 where
  pub shape : reading.Shape
  pub first : Numeral
  pub others : List Numeral
  pub tree : l ≡ table_line shape.name shape.rows shape.columns first others
  pub shaped : ShapeRead x (at + 6) shape p.shape
  pub numbers : numbers_in ws free (reading.size shape.rows * reading.size shape.columns) ≡ map reading.value (first ∷ others)
  pub next : p.next ≡ free + reading.size shape.rows * reading.size shape.columns
  pub ends : Ends x (12 + 3 * (reading.size shape.rows * reading.size shape.columns)) at p.end
