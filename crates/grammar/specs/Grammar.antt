-- The grammar: what can be written, and how. A text is grammatical if it is the lines of some tree, written. Names need not be declared, nor numbers be in range. Assumes nothing.
use Rattle.std.specs.Prelude.{◌≡◌, ℕ, suc, ◌≤◌, Bool, true, false, ◌&&◌, ◌||◌, List, [], ◌∷◌, ◌++◌, length, take, Some, None, codes, Option, nat_le, slice_index_or}
use Rattle.std.specs.List.{AllByRecursion}
use Rattle.std.specs.Str.{bytes_eq}
use Rattle.model.specs.declared.Operator.{Operator}
use Rattle.model.specs.declared.Operator.TheVariants.{Plus, Minus, Times}
use Rattle.model.specs.declared.Relation.{Relation}
use Rattle.model.specs.declared.Relation.TheVariants.{Less, Equal, Differ}
use Rattle.model.specs.declared.Comparison.{Comparison}
use Rattle.model.specs.declared.Comparison.TheVariants.{AtMost, AtLeast, Exactly}
use Rattle.model.specs.declared.Sign.{Sign}
use Rattle.model.specs.declared.Sign.TheVariants.{Positive, Negative}

-- BYTES

abbrev pub is_digit : ℕ → Bool
is_digit c = nat_le 48 c && nat_le c 57

abbrev pub is_top : ℕ → Bool
is_top c = nat_le 49 c && nat_le c 57

abbrev pub is_letter : ℕ → Bool
is_letter c = nat_le 97 c && nat_le c 122

abbrev pub is_word : ℕ → Bool
is_word c = is_digit c || is_letter c

-- WORDS

abbrev pub Word : Type 0
Word = List ℕ

unfoldable pub member : Word → List Word → Bool
member w [] = false
member w (n ∷ ns) = bytes_eq w n || member w ns

abbrev pub reserved : List Word
reserved =
    codes "set" ∷ codes "table" ∷ codes "unknown" ∷ codes "least" ∷ codes "wish" ∷ codes "from" ∷ codes "to" ∷ codes "where" ∷ codes "sum" ∷ codes "all" ∷ codes "and" ∷ codes "or" ∷ codes "then" ∷ []

-- a letter, and up to 11 letters and digits
abbrev pub IsWord : Word → Type 0
IsWord w = (is_letter (slice_index_or w 0 256) ≡ true) × AllByRecursion (λ c. is_word c ≡ true) w × (length w ≤ 12)

abbrev pub IsName : Word → Type 0
IsName w = IsWord w × (member w reserved ≡ false)

-- 0; a digit from 1 to 9 and digits; the same behind a minus
pub data Numeral : Type 0 where
  nought : Numeral
  whole : ℕ → List ℕ → Numeral
  minus : ℕ → List ℕ → Numeral

abbrev pub IsNumeral : Numeral → Type 0
IsNumeral nought = Unit {0}
IsNumeral (whole d ds) = (is_top d ≡ true) × AllByRecursion (λ c. is_digit c ≡ true) ds
IsNumeral (minus d ds) = (is_top d ≡ true) × AllByRecursion (λ c. is_digit c ≡ true) ds

-- TREES

-- a number: written; an index; of a table by one place or by two; two numbers in brackets
pub data Num : Type 0 where
  fixed : Numeral → Num
  index : Word → Num
  entry1 : Word → Num → Num
  entry2 : Word → Num → Num → Num
  joined : Operator → Num → Num → Num

-- comparisons joined by `and`
pub data Cond : Type 0 where
  only : Num → Relation → Num → Cond
  with_and : Num → Relation → Num → Cond → Cond

mutual
  -- a number; a number before a variable, by one place or by two; a sum over a set
  pub data Term : Type 0 where
    alone : Num → Term
    times1 : Num → Word → Num → Term
    times2 : Num → Word → Num → Num → Term
    sum_over : Word → Word → Option Cond → Lin → Term

  -- terms with signs between them
  pub data Lin : Type 0 where
    one : Term → Lin
    more : Term → Sign → Lin → Lin

-- terms up to the comparison, and what stands behind it
pub data Sides : Type 0 where
  last : Term → Comparison → Lin → Sides
  next : Term → Sign → Sides → Sides

pub data Row : Type 0 where
  compare : Sides → Row
  for_all : Word → Word → Option Cond → Row → Row

pub data Line : Type 0 where
  set_line : Word → Numeral → Line
  table_line : Word → Numeral → Numeral → Numeral → List Numeral → Line
  array_line : Word → Numeral → Numeral → Numeral → Numeral → Line
  least_line : Lin → Line
  wish_line : Row → Line

-- WHICH TREES ARE GRAMMATICAL: words are words, names no reserved words, digits digits

abbrev pub IsNum : Num → Type 0
IsNum (fixed n) = IsNumeral n
IsNum (index w) = IsName w
IsNum (entry1 w e) = IsName w × IsNum e
IsNum (entry2 w e f) = IsName w × IsNum e × IsNum f
IsNum (joined o e f) = IsNum e × IsNum f

abbrev pub IsCond : Cond → Type 0
IsCond (only e r f) = IsNum e × IsNum f
IsCond (with_and e r f c) = IsNum e × IsNum f × IsCond c

abbrev pub IsFilter : Option Cond → Type 0
IsFilter None = Unit {0}
IsFilter (Some c) = IsCond c

abbrev mutual
  pub IsTerm : Term → Type 0
  IsTerm (alone e) = IsNum e
  IsTerm (times1 e w f) = IsNum e × IsName w × IsNum f
  IsTerm (times2 e w f g) = IsNum e × IsName w × IsNum f × IsNum g
  IsTerm (sum_over s i c l) = IsName s × IsName i × IsFilter c × IsLin l

  pub IsLin : Lin → Type 0
  IsLin (one t) = IsTerm t
  IsLin (more t g l) = IsTerm t × IsLin l

abbrev pub IsSides : Sides → Type 0
IsSides (last t c l) = IsTerm t × IsLin l
IsSides (next t g s) = IsTerm t × IsSides s

abbrev pub IsRow : Row → Type 0
IsRow (compare s) = IsSides s
IsRow (for_all s i c r) = IsName s × IsName i × IsFilter c × IsRow r

abbrev pub IsLine : Line → Type 0
IsLine (set_line w n) = IsName w × IsNumeral n
IsLine (table_line w r c k ks) = IsName w × IsNumeral r × IsNumeral c × IsNumeral k × AllByRecursion IsNumeral ks
IsLine (array_line w r c l h) = IsName w × IsNumeral r × IsNumeral c × IsNumeral l × IsNumeral h
IsLine (least_line l) = IsLin l
IsLine (wish_line r) = IsRow r

-- HOW THEY ARE WRITTEN, each before what follows it

abbrev pub numeral_text : Numeral → List ℕ → List ℕ
numeral_text nought k = 48 ∷ k
numeral_text (whole d ds) k = d ∷ (ds ++ k)
numeral_text (minus d ds) k = 45 ∷ d ∷ (ds ++ k)

abbrev pub operator_byte : Operator → ℕ
operator_byte Plus = 43
operator_byte Minus = 45
operator_byte Times = 42

abbrev pub relation_text : Relation → List ℕ → List ℕ
relation_text Less k = 60 ∷ k
relation_text Equal k = 61 ∷ k
relation_text Differ k = 60 ∷ 62 ∷ k

abbrev pub sign_byte : Sign → ℕ
sign_byte Positive = 43
sign_byte Negative = 45

abbrev pub comparison_text : Comparison → List ℕ → List ℕ
comparison_text AtMost k = 60 ∷ 61 ∷ k
comparison_text AtLeast k = 62 ∷ 61 ∷ k
comparison_text Exactly k = 61 ∷ k

abbrev pub num_text : Num → List ℕ → List ℕ
num_text (fixed n) k = numeral_text n k
num_text (index w) k = w ++ k
num_text (entry1 w e) k = w ++ (91 ∷ num_text e (93 ∷ k))
num_text (entry2 w e f) k = w ++ (91 ∷ num_text e (44 ∷ 32 ∷ num_text f (93 ∷ k)))
num_text (joined o e f) k = 40 ∷ num_text e (32 ∷ operator_byte o ∷ 32 ∷ num_text f (41 ∷ k))

abbrev pub cond_text : Cond → List ℕ → List ℕ
cond_text (only e r f) k = num_text e (32 ∷ relation_text r (32 ∷ num_text f k))
cond_text (with_and e r f c) k = num_text e (32 ∷ relation_text r (32 ∷ num_text f (codes " and " ++ cond_text c k)))

abbrev pub filter_text : Option Cond → List ℕ → List ℕ
filter_text None k = k
filter_text (Some c) k = codes " where " ++ cond_text c k

-- a set, an index, a condition
abbrev pub over_text : Word → Word → Option Cond → List ℕ → List ℕ
over_text s i c k = s ++ (32 ∷ (i ++ filter_text c (58 ∷ 32 ∷ k)))

abbrev mutual
  pub term_text : Term → List ℕ → List ℕ
  term_text (alone e) k = num_text e k
  term_text (times1 e w f) k = num_text e (32 ∷ (w ++ (91 ∷ num_text f (93 ∷ k))))
  term_text (times2 e w f g) k = num_text e (32 ∷ (w ++ (91 ∷ num_text f (44 ∷ 32 ∷ num_text g (93 ∷ k)))))
  term_text (sum_over s i c l) k = codes "sum " ++ over_text s i c (40 ∷ lin_text l (41 ∷ k))

  pub lin_text : Lin → List ℕ → List ℕ
  lin_text (one t) k = term_text t k
  lin_text (more t g l) k = term_text t (32 ∷ sign_byte g ∷ 32 ∷ lin_text l k)

abbrev pub sides_text : Sides → List ℕ → List ℕ
sides_text (last t c l) k = term_text t (32 ∷ comparison_text c (32 ∷ lin_text l k))
sides_text (next t g s) k = term_text t (32 ∷ sign_byte g ∷ 32 ∷ sides_text s k)

abbrev pub row_text : Row → List ℕ → List ℕ
row_text (compare s) k = sides_text s k
row_text (for_all s i c r) k = codes "all " ++ over_text s i c (row_text r k)

-- the numbers of a table behind its first
abbrev pub numerals_text : List Numeral → List ℕ → List ℕ
numerals_text [] k = k
numerals_text (n ∷ ns) k = 44 ∷ 32 ∷ numeral_text n (numerals_text ns k)

abbrev pub line_text : Line → List ℕ → List ℕ
line_text (set_line w n) k = codes "set " ++ (w ++ (32 ∷ numeral_text n (10 ∷ k)))
line_text (table_line w r c n ns) k = codes "table " ++ (w ++ (32 ∷ numeral_text r (32 ∷ numeral_text c (58 ∷ 32 ∷ numeral_text n (numerals_text ns (10 ∷ k))))))
line_text (array_line w r c l h) k = codes "unknown " ++ (w ++ (32 ∷ numeral_text r (32 ∷ numeral_text c (codes " from " ++ numeral_text l (codes " to " ++ numeral_text h (10 ∷ k))))))
line_text (least_line l) k = codes "least " ++ lin_text l (10 ∷ k)
line_text (wish_line r) k = codes "wish " ++ row_text r (10 ∷ k)

abbrev pub lines_text : List Line → List ℕ → List ℕ
lines_text [] k = k
lines_text (l ∷ ls) k = line_text l (lines_text ls k)

-- the first p bytes of x, or all of x where it has no more, begin a text of the grammar
abbrev pub Begins : ℕ → List ℕ → Type 0
Begins p x = (ls : List Line) × AllByRecursion IsLine ls × (take p (lines_text ls []) ≡ take p x)

-- p is the first place at which no text goes on as x does; the text's length where x ends too early
abbrev pub EndsAt : ℕ → List ℕ → Type 0
EndsAt p x = (p ≤ length x) × Begins p x × (Begins (suc p) x → ⊥)
