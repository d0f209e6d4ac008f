-- What is told of a name, of a set, of a shape and of a variable array. Assumes nothing.
use Rattle.std.proofs.Common.{◌≡◌, ℕ, ◌+◌, Bool, not, List, ℤ, is_some, Some, None, Option, sym, refl, ap, ◌∙◌, subst, arith}
use Rattle.compose.specs.declared.Name.{Name}
use Rattle.grammar.specs.Grammar.{Word, Numeral, set_line, array_line}
use Rattle.grammar.specs.Reading as reading
use Rattle.grammar.specs.Reading.{Names, find, free}
use Rattle.scope.specs.declared.Symbol.{Symbol}
use Rattle.scope.specs.Names.{sort_told}
use Rattle.tokens.specs.declared.Number.{Number}
use Rattle.tokens.specs.Told.{Part, Stood}
use Rattle.tokens.proofs.Steps.{steps}
use Rattle.reader.specs.declared.SizeAt.{SizeAt}
use Rattle.reader.specs.declared.Shape.{Shape}
use Rattle.reader.specs.Lines.{Ends, NameRead, NumberRead, SizeRead, SetRead, ShapeRead, ArrayRead}

-- ENDS, one part after another

module _ (x : List ℕ) (i j at m e : ℕ) where
  pub ends_on : Ends x i at m → Ends x j m e → Ends x (i + j) at e
  ends_on p q = record { onward = omega arith; inside = q.inside; short = λ l. q.short (p.short l) }

  pub ends_after : Stood x i at m → Ends x j m e → Ends x (i + j) at e
  ends_after p q = record { onward = omega arith; inside = q.inside; short = λ l. q.short (p.2 l) }

  pub ends_before : Ends x i at m → Stood x j m e → Ends x (i + j) at e
  ends_before p q = record { onward = omega arith; inside = q.1 p.inside; short = λ l. q.2 (p.short l) }

-- NAMES

some_told : (o : Option Symbol) → is_some (sort_told o) ≡ is_some o
some_told None = refl
some_told (Some s) = refl

-- a name is new if it is not found
pub free_told : (o : Option Symbol) (v w : Word) (ns : Names) (b : Bool) → w ≡ v → sort_told o ≡ find v ns → b ≡ is_some o → free w ns ≡ not b
free_told o v w ns b e f g = ap (λ u. free u ns) e ∙ ap (λ r. not (is_some r)) (sym f) ∙ ap not (some_told o ∙ sym g)

pub name_made : (x : List ℕ) (at e : ℕ) (w : Word) → Part x at w e → NameRead x at w (record { begin = at; end = e })
name_made x at e w p = record { begin = refl; word = p.2; ends = record { onward = omega arith; inside = p.1; short = p.3 } }

pub ruleset new_names = (steps, free_told, name_made)

-- LINES

module _ (x : List ℕ) (at : ℕ) where
  pub set_made : (b e : ℕ) (w : Word) (n : Numeral) (p : Name) (q : SizeAt) → Stood x 4 at b → NameRead x b w p → SizeRead x 0 p.end n q → Stood x 1 q.end e
      → SetRead x at (set_line w n) (record { name = p; size = q.size; end = e })
  set_made b e w n p q s i j t = record {
    word = w;
    count = n;
    tree = refl;
    name = i.word;
    size = j.size;
    most = j.most;
    ends = ends_before x 7 1 at q.end e (ends_after x 4 3 at b q.end s (ends_on x 1 2 b p.end q.end i.ends j.ends)) t;
  }

  pub shape_made : (w : Word) (m n : Numeral) (p : Name) (q r : SizeAt) → NameRead x at w p → SizeRead x 1 p.end m q → SizeRead x 1 q.end n r
      → ShapeRead x at (record { name = w; rows = m; columns = n }) (record { name = p; rows = q.size; columns = r.size; end = r.end })
  shape_made w m n p q r i j k = record {
    name = i.word;
    rows = j.size;
    columns = k.size;
    some = (j.least, k.least);
    most = (j.most, k.most);
    ends = ends_on x 3 2 at q.end r.end (ends_on x 1 2 at p.end q.end i.ends j.ends) k.ends;
  }

  pub array_made : (b d g e : ℕ) (s : reading.Shape) (l h : Numeral) (p : Shape) (q r : Number) (y z : ℤ) → Stood x 8 at b → ShapeRead x b s p → Stood x 6 p.end d
      → NumberRead x 1000000 d l q → Stood x 4 q.end g → NumberRead x 1000000 g h r → Stood x 1 r.end e → y ≡ q.value → z ≡ r.value
      → ArrayRead x at (array_line s.name s.rows s.columns l h) (record { shape = p; lower = y; upper = z; end = e })
  array_made b d g e s l h p q r y z t i u j v k o lo hi = record {
    shape = s;
    low = l;
    high = h;
    tree = refl;
    shaped = subst (λ (a : ℕ). ShapeRead x a s p) t.0 i;
    lower = lo ∙ j.value;
    upper = hi ∙ k.value;
    ends = ends_before x 25 1 at r.end e (ends_on x 24 1 at g r.end (ends_before x 20 4 at q.end g (ends_on x 19 1 at d q.end (ends_before x 13 6 at p.end d (ends_after x 8 5 at b p.end t i.ends) u) j.ends) v) k.ends) o;
  }
