-- What is written takes room: each tree but an empty one is a byte at least. Assumes nothing.
use Rattle.std.proofs.Common.{ℕ, ◌<◌, ◌≤◌, List, [], ◌∷◌, ◌++◌, length, Some, None, codes, Option, arith, length-append}
use Rattle.model.specs.declared.Relation.{Relation}
use Rattle.model.specs.declared.Relation.TheVariants.{Less, Equal, Differ}
use Rattle.model.specs.declared.Comparison.{Comparison}
use Rattle.model.specs.declared.Comparison.TheVariants.{AtMost, AtLeast, Exactly}
use Rattle.grammar.specs.Grammar.{Word, IsName, Numeral, nought, whole, minus, numeral_text, operator_byte, relation_text, sign_byte, comparison_text, Num, fixed, index, entry1, entry2, joined, IsNum, num_text, Cond, only, with_and, IsCond, cond_text, IsFilter, filter_text, over_text, Term, alone, times1, times2, sum_over, Lin, one, more, IsTerm, IsLin, term_text, lin_text, Sides, last, next, IsSides, sides_text, Row, compare, for_all, IsRow, row_text, numerals_text, Line, set_line, table_line, array_line, least_line, wish_line, IsLine, line_text}
use Rattle.grammar.proofs.Bytes.{word_long}

name_long : (w k : List ℕ) → IsName w → length k < length (w ++ k)
name_long w k i = let l = word_long w i.0.0 in omega (arith, length-append w k)

numeral_long : (n : Numeral) (k : List ℕ) → length k < length (numeral_text n k)
numeral_long nought k = omega arith
numeral_long (whole d ds) k = omega (arith, length-append ds k)
numeral_long (minus d ds) k = omega (arith, length-append ds k)

pub relation_long : (r : Relation) (k : List ℕ) → length k < length (relation_text r k)
relation_long Less k = omega arith
relation_long Equal k = omega arith
relation_long Differ k = omega arith

comparison_long : (c : Comparison) (k : List ℕ) → length k < length (comparison_text c k)
comparison_long AtMost k = omega arith
comparison_long AtLeast k = omega arith
comparison_long Exactly k = omega arith

pub num_long : (e : Num) (k : List ℕ) → IsNum e → length k < length (num_text e k)
num_long (fixed n) k i = numeral_long n k
num_long (index w) k i = name_long w k i
num_long (entry1 w e) k i = let p = name_long w (91 ∷ num_text e (93 ∷ k)) i.0 in let q = num_long e (93 ∷ k) i.1 in omega arith
num_long (entry2 w e f) k i =
    let p = name_long w (91 ∷ num_text e (44 ∷ 32 ∷ num_text f (93 ∷ k))) i.0 in
    let q = num_long e (44 ∷ 32 ∷ num_text f (93 ∷ k)) i.1 in
    let r = num_long f (93 ∷ k) i.2 in
    omega arith
num_long (joined o e f) k i = let p = num_long e (32 ∷ operator_byte o ∷ 32 ∷ num_text f (41 ∷ k)) i.0 in let q = num_long f (41 ∷ k) i.1 in omega arith

cond_long : (c : Cond) (k : List ℕ) → IsCond c → length k < length (cond_text c k)
cond_long (only e r f) k i =
    let p = num_long e (32 ∷ relation_text r (32 ∷ num_text f k)) i.0 in let q = relation_long r (32 ∷ num_text f k) in let s = num_long f k i.1 in omega arith
cond_long (with_and e r f c) k i =
    let p = num_long e (32 ∷ relation_text r (32 ∷ num_text f (codes " and " ++ cond_text c k))) i.0 in
    let q = relation_long r (32 ∷ num_text f (codes " and " ++ cond_text c k)) in
    let s = num_long f (codes " and " ++ cond_text c k) i.1 in
    let t = cond_long c k i.2 in
    omega arith

filter_long : (c : Option Cond) (k : List ℕ) → IsFilter c → length k ≤ length (filter_text c k)
filter_long None k i = omega arith
filter_long (Some c) k i = let p = cond_long c k i in omega arith

over_long : (s w : Word) (c : Option Cond) (k : List ℕ) → IsName s → IsName w → IsFilter c → length k < length (over_text s w c k)
over_long s w c k i j f =
    let p = name_long s (32 ∷ (w ++ filter_text c (58 ∷ 32 ∷ k))) i in
    let q = name_long w (filter_text c (58 ∷ 32 ∷ k)) j in
    let r = filter_long c (58 ∷ 32 ∷ k) f in
    omega arith

mutual
  pub term_long : (t : Term) (k : List ℕ) → IsTerm t → length k < length (term_text t k)
  term_long (alone e) k i = num_long e k i
  term_long (times1 e w f) k i =
      let p = num_long e (32 ∷ (w ++ (91 ∷ num_text f (93 ∷ k)))) i.0 in let q = name_long w (91 ∷ num_text f (93 ∷ k)) i.1 in let r = num_long f (93 ∷ k) i.2 in omega arith
  term_long (times2 e w f g) k i =
      let p = num_long e (32 ∷ (w ++ (91 ∷ num_text f (44 ∷ 32 ∷ num_text g (93 ∷ k))))) i.0 in
      let q = name_long w (91 ∷ num_text f (44 ∷ 32 ∷ num_text g (93 ∷ k))) i.1 in
      let r = num_long f (44 ∷ 32 ∷ num_text g (93 ∷ k)) i.2 in
      let s = num_long g (93 ∷ k) i.3 in
      omega arith
  term_long (sum_over s w c l) k i = let p = over_long s w c (40 ∷ lin_text l (41 ∷ k)) i.0 i.1 i.2 in let q = lin_long l (41 ∷ k) i.3 in omega arith

  lin_long : (l : Lin) (k : List ℕ) → IsLin l → length k < length (lin_text l k)
  lin_long (one t) k i = term_long t k i
  lin_long (more t g l) k i = let p = term_long t (32 ∷ sign_byte g ∷ 32 ∷ lin_text l k) i.0 in let q = lin_long l k i.1 in omega arith

sides_long : (s : Sides) (k : List ℕ) → IsSides s → length k < length (sides_text s k)
sides_long (last t c l) k i =
    let p = term_long t (32 ∷ comparison_text c (32 ∷ lin_text l k)) i.0 in let q = comparison_long c (32 ∷ lin_text l k) in let r = lin_long l k i.1 in omega arith
sides_long (next t g s) k i = let p = term_long t (32 ∷ sign_byte g ∷ 32 ∷ sides_text s k) i.0 in let q = sides_long s k i.1 in omega arith

row_long : (r : Row) (k : List ℕ) → IsRow r → length k < length (row_text r k)
row_long (compare s) k i = sides_long s k i
row_long (for_all s w c r) k i = let p = over_long s w c (row_text r k) i.0 i.1 i.2 in let q = row_long r k i.3 in omega arith

numerals_long : (ns : List Numeral) (k : List ℕ) → length k ≤ length (numerals_text ns k)
numerals_long [] k = omega arith
numerals_long (n ∷ ns) k = let p = numeral_long n (numerals_text ns k) in let q = numerals_long ns k in omega arith

pub line_long : (l : Line) (k : List ℕ) → IsLine l → length k < length (line_text l k)
line_long (set_line w n) k i = let p = name_long w (32 ∷ numeral_text n (10 ∷ k)) i.0 in let q = numeral_long n (10 ∷ k) in omega arith
line_long (table_line w r c n ns) k i =
    let a = numerals_text ns (10 ∷ k) in
    let b = numeral_text c (58 ∷ 32 ∷ numeral_text n a) in
    let p = name_long w (32 ∷ numeral_text r (32 ∷ b)) i.0 in
    let q = numeral_long r (32 ∷ b) in
    let s = numeral_long c (58 ∷ 32 ∷ numeral_text n a) in
    let t = numeral_long n a in
    let v = numerals_long ns (10 ∷ k) in
    omega arith
line_long (array_line w r c l h) k i =
    let a = numeral_text l (codes " to " ++ numeral_text h (10 ∷ k)) in
    let b = numeral_text c (codes " from " ++ a) in
    let p = name_long w (32 ∷ numeral_text r (32 ∷ b)) i.0 in
    let q = numeral_long r (32 ∷ b) in
    let s = numeral_long c (codes " from " ++ a) in
    let t = numeral_long l (codes " to " ++ numeral_text h (10 ∷ k)) in
    let v = numeral_long h (10 ∷ k) in
    omega arith
line_long (least_line l) k i = let p = lin_long l (10 ∷ k) i in omega arith
line_long (wish_line r) k i = let p = row_long r (10 ∷ k) i in omega arith
