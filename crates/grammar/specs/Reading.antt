-- Reading from left to right, which stops at the first fault that it meets: what was read and where it ends, or a refusal. Assumes nothing.
use Rattle.std.specs.Prelude.{ℕ, zero, suc, ◌+◌, ◌-◌, ◌*◌, Bool, true, false, cond, not, ◌&&◌, ◌||◌, List, [], ◌∷◌, map, length, drop, ℤ, pos, neg_ℤ, is_some, Some, None, codes, Option, ◌==◌, int_le, nat_le, nat_lt, slice_index_or}
use Rattle.std.specs.Int.Digits.{number_from_digits as number}
use Rattle.std.specs.Str.{bytes_eq}
use Rattle.model.specs.declared.Operator.{Operator}
use Rattle.model.specs.declared.Operator.TheVariants.{Plus, Minus, Times}
use Rattle.model.specs.declared.Relation.{Relation}
use Rattle.model.specs.declared.Relation.TheVariants.{Less, Equal, Differ}
use Rattle.model.specs.declared.Comparison.{Comparison}
use Rattle.model.specs.declared.Comparison.TheVariants.{AtMost, AtLeast, Exactly}
use Rattle.model.specs.declared.Sign.{Sign}
use Rattle.model.specs.declared.Sign.TheVariants.{Positive, Negative}
use Rattle.grammar.specs.declared.Refusal.{Refusal}
use Rattle.grammar.specs.declared.Refusal.TheVariants.{Syntax, Name, Range}
use Rattle.grammar.specs.Grammar.{is_digit, is_top, is_letter, is_word, Word, member, reserved, Numeral, nought, whole, minus, Num, fixed, index, entry1, entry2, joined, Cond, only, with_and, Term, alone, times1, times2, sum_over, Lin, one, more, Sides, last, next, Row, compare, for_all, Line, set_line, table_line, array_line, least_line, wish_line}

pub data Got (A : Type 0) : Type 0 where
  ok : A → ℕ → Got A
  bad : Refusal → Got A

unfoldable pub then : {A B : Type 0} → Got A → (A → ℕ → Got B) → Got B
then (ok a e) g = g a e
then (bad q) g = bad q

-- the byte at a place, and 256 past the end
abbrev pub byte : List ℕ → ℕ → ℕ
byte x at = slice_index_or x at 256

-- a byte is read on, unless it is the one that makes the text too long
abbrev pub taken : {A : Type 0} → ℕ → Got A → Got A
taken at o = cond (at == 65536) (bad (Range 65536)) o

abbrev pub in_length : {A : Type 0} → A → ℕ → Got A
in_length a e = cond (nat_lt 65536 e) (bad (Range 65536)) (ok a e)

-- TOKENS

unfoldable pub literal : List ℕ → List ℕ → ℕ → Got (Unit {0})
literal x [] at = ok tt at
literal x (c ∷ w) at = cond (byte x at == c) (taken at (literal x w (at + 1))) (bad (Syntax at))

-- the longest front whose bytes pass a test
unfoldable pub front : (ℕ → Bool) → List ℕ → List ℕ
front f [] = []
front f (c ∷ cs) = cond (f c) (c ∷ front f cs) []

-- a run of letters and digits from a place on
abbrev pub run_at : List ℕ → ℕ → Word
run_at x at = front is_word (drop at x)

abbrev pub digits_at : List ℕ → ℕ → List ℕ
digits_at x at = front is_digit (drop at x)

unfoldable pub word : List ℕ → ℕ → Got Word
word x at =
    cond (is_letter (byte x at))
    (cond (nat_lt 12 (length (run_at x at)) && nat_le (at + 12) 65536) (bad (Syntax (at + 12))) (in_length (run_at x at) (at + length (run_at x at))))
    (bad (Syntax at))

unfoldable pub name : List ℕ → ℕ → Got Word
name x at = then (word x at) (λ w e. cond (member w reserved) (bad (Syntax e)) (ok w e))

unfoldable pub numeral : List ℕ → ℕ → Got Numeral
numeral x at =
    cond (byte x at == 48) (taken at (cond (is_digit (byte x (at + 1))) (bad (Syntax (at + 1))) (ok nought (at + 1))))
    (cond (is_top (byte x at)) (in_length (whole (byte x at) (digits_at x (at + 1))) (at + 1 + length (digits_at x (at + 1))))
    (cond (byte x at == 45)
    (taken at (cond (is_top (byte x (at + 1))) (in_length (minus (byte x (at + 1)) (digits_at x (at + 1 + 1))) (at + 1 + 1 + length (digits_at x (at + 1 + 1)))) (bad (Syntax (at + 1)))))
    (bad (Syntax at))))

-- what a numeral comes to
abbrev pub size : Numeral → ℕ
size nought = 0
size (whole d ds) = number 10 (map (λ c. c - 48) (d ∷ ds))
size (minus d ds) = number 10 (map (λ c. c - 48) (d ∷ ds))

abbrev pub value : Numeral → ℤ
value nought = pos 0
value (whole d ds) = pos (size (whole d ds))
value (minus d ds) = neg_ℤ (pos (size (minus d ds)))

abbrev pub small : Numeral → Bool
small n = nat_lt (size n) 1000000

-- from so much to so much
abbrev pub within : ℕ → ℕ → Numeral → Bool
within l h n = int_le (pos l) (value n) && int_le (value n) (pos h)

-- NAMES that are there, the newest first: which of its sort, and rows and columns; an index by its level

pub data Sort : Type 0 where
  a_set : ℕ → Sort
  a_table : ℕ → ℕ → ℕ → Sort
  an_array : ℕ → ℕ → ℕ → Sort
  an_index : ℕ → Sort

pub record Named : Type 0 where
  pub word : Word
  pub sort : Sort

abbrev pub Names : Type 0
Names = List Named

unfoldable pub find : Word → Names → Option Sort
find w [] = None
find w (n ∷ ns) = cond (bytes_eq w n.word) (Some n.sort) (find w ns)

abbrev pub set_there : Option Sort → Bool
set_there None = false
set_there (Some (a_set k)) = true
set_there (Some (a_table k r c)) = false
set_there (Some (an_array k r c)) = false
set_there (Some (an_index l)) = false

abbrev pub table_there : Option Sort → Bool
table_there None = false
table_there (Some (a_set k)) = false
table_there (Some (a_table k r c)) = true
table_there (Some (an_array k r c)) = false
table_there (Some (an_index l)) = false

abbrev pub array_there : Option Sort → Bool
array_there None = false
array_there (Some (a_set k)) = false
array_there (Some (a_table k r c)) = false
array_there (Some (an_array k r c)) = true
array_there (Some (an_index l)) = false

abbrev pub index_there : Option Sort → Bool
index_there None = false
index_there (Some (a_set k)) = false
index_there (Some (a_table k r c)) = false
index_there (Some (an_array k r c)) = false
index_there (Some (an_index l)) = true

-- whether one place will do: one column, or one row
abbrev pub one_place : Option Sort → Bool
one_place None = false
one_place (Some (a_set k)) = false
one_place (Some (a_table k r c)) = c == 1 || r == 1
one_place (Some (an_array k r c)) = c == 1 || r == 1
one_place (Some (an_index l)) = false

abbrev pub free : Word → Names → Bool
free w ns = not (is_some (find w ns))

-- NUMBERS. `left` is how many brackets may still be opened within each other

abbrev pub one_byte : {A : Type 0} → ℕ → A → Got A
one_byte at a = taken at (ok a (at + 1))

unfoldable pub operator : List ℕ → ℕ → Got Operator
operator x at =
    cond (byte x at == 43) (one_byte at Plus) (cond (byte x at == 45) (one_byte at Minus) (cond (byte x at == 42) (one_byte at Times) (bad (Syntax at))))

-- what stands in square brackets: one place, or two; `start` is where the name before them begins
unfoldable pub place : {A : Type 0} → List ℕ → Bool → ℕ → ℕ → (ℕ → Got Num) → (Num → A) → (Num → Num → A) → ℕ → Got A
place x enough start left inner k1 k2 at =
    cond (byte x at == 91)
    (cond (left == 0) (bad (Range at))
    (then (literal x (91 ∷ []) at) (λ _ e.
    then (inner e) (λ f m.
    cond (byte x m == 44)
    (then (literal x (codes ", ") m) (λ _ m. then (inner m) (λ g m. then (literal x (93 ∷ []) m) (λ _ z. ok (k2 f g) z))))
    (cond (byte x m == 93 && not enough) (bad (Name start)) (then (literal x (93 ∷ []) m) (λ _ z. ok (k1 f) z)))))))
    (bad (Syntax at))

-- a word that was read: an entry of a table, or an index
unfoldable pub named : List ℕ → Names → ℕ → (ℕ → Got Num) → ℕ → Word → ℕ → Got Num
named x ns left inner start w e =
    cond (byte x e == 91)
    (cond (table_there (find w ns)) (place x (one_place (find w ns)) start left inner (entry1 w) (entry2 w) e) (bad (Name start)))
    (cond (index_there (find w ns)) (ok (index w) e) (bad (Name start)))

unfoldable pub fixed_at : List ℕ → ℕ → Got Num
fixed_at x at = then (numeral x at) (λ n e. cond (small n) (ok (fixed n) e) (bad (Range at)))

-- two numbers in brackets
unfoldable pub pair : List ℕ → ℕ → (ℕ → Got Num) → ℕ → Got Num
pair x left inner at =
    cond (left == 0) (bad (Range at))
    (then (literal x (codes "(") at) (λ _ b.
    then (inner b) (λ e m.
    then (literal x (codes " ") m) (λ _ m.
    then (operator x m) (λ o m.
    then (literal x (codes " ") m) (λ _ m.
    then (inner m) (λ f m.
    then (literal x (codes ")") m) (λ _ z. ok (joined o e f) z))))))))

unfoldable pub any_num : List ℕ → Names → ℕ → (ℕ → Got Num) → ℕ → Got Num
any_num x ns left inner at =
    cond (byte x at == 40) (pair x left inner at)
    (cond (is_letter (byte x at)) (then (name x at) (λ w e. named x ns left inner at w e)) (fixed_at x at))

unfoldable pub num : List ℕ → Names → ℕ → ℕ → Got Num
num x ns zero at = any_num x ns 0 (λ p. bad (Range p)) at
num x ns (suc left) at = any_num x ns (suc left) (num x ns left) at

-- CONDITIONS. `turns` is how many parts there may be; more than a text's length never are

unfoldable pub relation : List ℕ → ℕ → Got Relation
relation x at =
    cond (byte x at == 61) (one_byte at Equal)
    (cond (byte x at == 60) (taken at (cond (byte x (at + 1) == 62) (one_byte (at + 1) Differ) (ok Less (at + 1)))) (bad (Syntax at)))

unfoldable pub condition : List ℕ → (ℕ → Got Num) → ℕ → ℕ → Got Cond
condition x number zero at = bad (Range at)
condition x number (suc turns) at =
    then (number at) (λ e m.
    then (literal x (codes " ") m) (λ _ m.
    then (relation x m) (λ r m.
    then (literal x (codes " ") m) (λ _ m.
    then (number m) (λ f m.
    cond (byte x m == 32)
    (then (literal x (codes " and ") m) (λ _ m. then (condition x number turns m) (λ c z. ok (with_and e r f c) z)))
    (ok (only e r f) m))))))

-- how many indexes are in force
unfoldable pub levels : Names → ℕ
levels [] = 0
levels (n ∷ ns) = cond (index_there (Some n.sort)) (suc (levels ns)) (levels ns)

abbrev pub with_index : Word → Names → Names
with_index i ns = record { word = i; sort = an_index (levels ns) } ∷ ns

pub record Header : Type 0 where
  pub set : Word
  pub name : Word
  pub filter : Option Cond

-- behind `sum` or `all`, which begins at `start`: a set, an index, a condition; `deep` says that there are 8 around it
unfoldable pub header : List ℕ → Names → ℕ → ℕ → Bool → ℕ → ℕ → Got Header
header x ns left turns deep start at =
    then (literal x (codes " ") at) (λ _ a.
    cond deep (bad (Range start))
    (then (name x a) (λ s m.
    cond (set_there (find s ns))
    (then (literal x (codes " ") m) (λ _ b.
    then (name x b) (λ i e.
    cond (free i ns)
    (cond (byte x e == 32)
    (then (literal x (codes " where ") e) (λ _ m. then (condition x (num x (with_index i ns) left) turns m) (λ c m. then (literal x (codes ": ") m) (λ _ z. ok (record { set = s; name = i; filter = Some c }) z))))
    (then (literal x (codes ": ") e) (λ _ z. ok (record { set = s; name = i; filter = None }) z)))
    (bad (Name b)))))
    (bad (Name a)))))

-- SUMS. `inner` reads the sum inside a `sum`, by names and brackets left; a term is followed by a space or not, since what the space begins is not known before

unfoldable pub sum_at : List ℕ → Names → ℕ → ℕ → Bool → (Names → ℕ → ℕ → Got Lin) → ℕ → ℕ → Got Term
sum_at x ns left turns deep inner start at =
    then (header x ns left turns deep start at) (λ h y.
    cond (byte x y == 40)
    (cond (left == 0) (bad (Range y))
    (then (literal x (codes "(") y) (λ _ z.
    then (inner (with_index h.name ns) (left - 1) z) (λ l m.
    then (literal x (codes ")") m) (λ _ q. ok (sum_over h.set h.name h.filter l) q)))))
    (bad (Syntax y)))

-- behind a term
unfoldable pub after : {R : Type 0} → List ℕ → (Term → ℕ → Got R) → (Term → ℕ → Got R) → Term → ℕ → Got R
after x ended spaced t m = cond (byte x m == 32) (taken m (spaced t (m + 1))) (ended t m)

-- behind a number, which may stand before a variable
unfoldable pub after_num : {R : Type 0} → List ℕ → Names → ℕ → (Term → ℕ → Got R) → (Term → ℕ → Got R) → Num → ℕ → Got R
after_num x ns left ended spaced e m =
    cond (byte x m == 32)
    (taken m
    (cond (is_letter (byte x (m + 1)))
    (then (name x (m + 1)) (λ w z.
    cond (array_there (find w ns))
    (then (place x (one_place (find w ns)) (m + 1) left (num x ns (left - 1)) (times1 e w) (times2 e w) z) (λ t q. after x ended spaced t q))
    (bad (Name (m + 1)))))
    (spaced (alone e) (m + 1))))
    (ended (alone e) m)

-- a term; `at_all` goes on behind the word `all`
unfoldable pub term_then : {R : Type 0} → List ℕ → Names → ℕ → ℕ → Bool → (Names → ℕ → ℕ → Got Lin) → (ℕ → Got R) → (Term → ℕ → Got R) → (Term → ℕ → Got R) → ℕ → Got R
term_then x ns left turns deep inner at_all ended spaced at =
    cond (is_letter (byte x at))
    (then (word x at) (λ w e.
    cond (bytes_eq w (codes "sum")) (then (sum_at x ns left turns deep inner at e) (λ t m. after x ended spaced t m))
    (cond (bytes_eq w (codes "all")) (at_all e)
    (cond (member w reserved) (bad (Syntax e)) (then (named x ns left (num x ns (left - 1)) at w e) (λ n m. after_num x ns left ended spaced n m))))))
    (then (num x ns left at) (λ n m. after_num x ns left ended spaced n m))

unfoldable pub sign : List ℕ → ℕ → Got Sign
sign x at = cond (byte x at == 43) (one_byte at Positive) (cond (byte x at == 45) (one_byte at Negative) (bad (Syntax at)))

unfoldable pub terms : List ℕ → ℕ → Bool → (Names → ℕ → ℕ → Got Lin) → Names → ℕ → ℕ → ℕ → Got Lin
terms x most deep inner ns left zero at = bad (Range at)
terms x most deep inner ns left (suc turns) at =
    term_then x ns left most deep inner (λ e. bad (Syntax e)) (λ t e. ok (one t) e)
    (λ t e. then (sign x e) (λ g m. then (literal x (codes " ") m) (λ _ m. then (terms x most deep inner ns left turns m) (λ l z. ok (more t g l) z)))) at

-- with so many sums and alls that may still stand within each other
unfoldable pub lin : List ℕ → ℕ → ℕ → Names → ℕ → ℕ → Got Lin
lin x most zero ns left at = terms x most true (λ _ _ p. bad (Range p)) ns left most at
lin x most (suc nest) ns left at = terms x most false (lin x most nest) ns left most at

-- CONSTRAINTS

unfoldable pub comparison : List ℕ → ℕ → Got Comparison
comparison x at =
    cond (byte x at == 60) (taken at (then (literal x (codes "=") (at + 1)) (λ _ e. ok AtMost e)))
    (cond (byte x at == 62) (taken at (then (literal x (codes "=") (at + 1)) (λ _ e. ok AtLeast e)))
    (cond (byte x at == 61) (one_byte at Exactly) (bad (Syntax at))))

abbrev pub is_sign : ℕ → Bool
is_sign b = b == 43 || b == 45

-- behind a term of the left side and a space: more of it, or the comparison and the right side
unfoldable pub behind_left : List ℕ → (ℕ → Got Sides) → (ℕ → Got Lin) → Term → ℕ → Got Sides
behind_left x further right t e =
    cond (is_sign (byte x e))
    (then (sign x e) (λ g m. then (literal x (codes " ") m) (λ _ m. then (further m) (λ s z. ok (next t g s) z))))
    (then (comparison x e) (λ c m. then (literal x (codes " ") m) (λ _ m. then (right m) (λ l z. ok (last t c l) z))))

unfoldable pub sides : List ℕ → ℕ → Bool → (Names → ℕ → ℕ → Got Lin) → (ℕ → Got Lin) → Names → ℕ → ℕ → Got Sides
sides x most deep inner right ns zero at = bad (Range at)
sides x most deep inner right ns (suc turns) at =
    term_then x ns 64 most deep inner (λ e. bad (Syntax e)) (λ t e. bad (Syntax e)) (behind_left x (sides x most deep inner right ns turns) right) at

-- a comparison, its first term being read here, or what `all` goes through
unfoldable pub any_row : List ℕ → ℕ → Bool → (Names → ℕ → ℕ → Got Lin) → (ℕ → Got Lin) → (Names → ℕ → Got Row) → Names → ℕ → Got Row
any_row x most deep inner right body ns at =
    term_then x ns 64 most deep inner
    (λ e. then (header x ns 64 most deep at e) (λ h y. then (body (with_index h.name ns) y) (λ r z. ok (for_all h.set h.name h.filter r) z)))
    (λ t e. bad (Syntax e)) (λ t e. then (behind_left x (sides x most deep inner right ns most) right t e) (λ s z. ok (compare s) z)) at

unfoldable pub row : List ℕ → ℕ → ℕ → Names → ℕ → Got Row
row x most zero ns at = any_row x most true (λ _ _ p. bad (Range p)) (lin x most 0 ns 64) (λ _ p. bad (Range p)) ns at
row x most (suc nest) ns at = any_row x most false (lin x most nest) (lin x most (suc nest) ns 64) (row x most nest) ns at

-- LINES

pub record State : Type 0 where
  pub names : Names
  pub sets : ℕ
  pub tables : ℕ
  pub arrays : ℕ
  pub wishes : ℕ
  pub least : Bool

abbrev pub at_first : State
at_first = record { names = []; sets = 0; tables = 0; arrays = 0; wishes = 0; least = false }

unfoldable pub set_at : List ℕ → State → ℕ → Got Line
set_at x st at =
    then (literal x (codes "set ") at) (λ _ b.
    cond (nat_le 16 st.sets) (bad (Range at))
    (then (name x b) (λ w m.
    cond (free w st.names)
    (then (literal x (codes " ") m) (λ _ m.
    then (numeral x m) (λ n m.
    cond (within 0 1000 n) (then (literal x (10 ∷ []) m) (λ _ z. ok (set_line w n) z)) (bad (Range at)))))
    (bad (Name b)))))

-- a name, rows and columns
pub record Shape : Type 0 where
  pub name : Word
  pub rows : Numeral
  pub columns : Numeral

unfoldable pub shape : List ℕ → Names → ℕ → ℕ → Got Shape
shape x ns line at =
    then (name x at) (λ w m.
    cond (free w ns)
    (then (literal x (codes " ") m) (λ _ m.
    then (numeral x m) (λ r m.
    cond (within 1 1000 r)
    (then (literal x (codes " ") m) (λ _ m.
    then (numeral x m) (λ c z. cond (within 1 1000 c) (ok (record { name = w; rows = r; columns = c }) z) (bad (Range line)))))
    (bad (Range line)))))
    (bad (Name at)))

-- the numbers of a table behind its first, of which so many are wanted
unfoldable pub numerals : List ℕ → ℕ → ℕ → ℕ → Got (List Numeral)
numerals x line zero at = cond (byte x at == 44) (then (literal x (codes ", ") at) (λ _ m. bad (Range line))) (ok [] at)
numerals x line (suc wanted) at =
    cond (byte x at == 44)
    (then (literal x (codes ", ") at) (λ _ b.
    then (numeral x b) (λ n m. cond (small n) (then (numerals x line wanted m) (λ ns z. ok (n ∷ ns) z)) (bad (Range b)))))
    (cond (byte x at == 10) (bad (Range line)) (bad (Syntax at)))

unfoldable pub table_at : List ℕ → State → ℕ → Got Line
table_at x st at =
    then (literal x (codes "table ") at) (λ _ b.
    cond (nat_le 16 st.tables) (bad (Range at))
    (then (shape x st.names at b) (λ s m.
    then (literal x (codes ": ") m) (λ _ d.
    then (numeral x d) (λ n m.
    cond (small n)
    (then (numerals x at (size s.rows * size s.columns - 1) m) (λ ns m. then (literal x (10 ∷ []) m) (λ _ z. ok (table_line s.name s.rows s.columns n ns) z)))
    (bad (Range d)))))))

abbrev pub bound_small : Numeral → Bool
bound_small n = nat_le (size n) 1000000

unfoldable pub array_at : List ℕ → State → ℕ → Got Line
array_at x st at =
    then (literal x (codes "unknown ") at) (λ _ b.
    cond (nat_le 16 st.arrays) (bad (Range at))
    (then (shape x st.names at b) (λ s m.
    then (literal x (codes " from ") m) (λ _ d.
    then (numeral x d) (λ l m.
    cond (bound_small l)
    (then (literal x (codes " to ") m) (λ _ g.
    then (numeral x g) (λ h m.
    cond (bound_small h)
    (cond (int_le (value l) (value h)) (then (literal x (10 ∷ []) m) (λ _ z. ok (array_line s.name s.rows s.columns l h) z)) (bad (Range d)))
    (bad (Range g)))))
    (bad (Range d)))))))

unfoldable pub least_at : List ℕ → ℕ → State → ℕ → Got Line
least_at x most st at =
    then (literal x (codes "least ") at) (λ _ b.
    cond st.least (bad (Name at)) (then (lin x most 8 st.names 64 b) (λ l m. then (literal x (10 ∷ []) m) (λ _ z. ok (least_line l) z))))

unfoldable pub wish_at : List ℕ → ℕ → State → ℕ → Got Line
wish_at x most st at =
    then (literal x (codes "wish ") at) (λ _ b.
    cond (nat_le 256 st.wishes) (bad (Range at)) (then (row x most 8 st.names b) (λ r m. then (literal x (10 ∷ []) m) (λ _ z. ok (wish_line r) z))))

unfoldable pub line : List ℕ → ℕ → State → ℕ → Got Line
line x most st at =
    cond (byte x at == 115) (set_at x st at)
    (cond (byte x at == 116) (table_at x st at)
    (cond (byte x at == 117) (array_at x st at) (cond (byte x at == 108) (least_at x most st at) (cond (byte x at == 119) (wish_at x most st at) (bad (Syntax at))))))

-- what is there behind a line
unfoldable pub behind : Line → State → State
behind (set_line w n) st = record { names = record { word = w; sort = a_set st.sets } ∷ st.names; sets = suc st.sets; tables = st.tables; arrays = st.arrays; wishes = st.wishes; least = st.least }
behind (table_line w r c n ns) st = record { names = record { word = w; sort = a_table st.tables (size r) (size c) } ∷ st.names; sets = st.sets; tables = suc st.tables; arrays = st.arrays; wishes = st.wishes; least = st.least }
behind (array_line w r c l h) st = record { names = record { word = w; sort = an_array st.arrays (size r) (size c) } ∷ st.names; sets = st.sets; tables = st.tables; arrays = suc st.arrays; wishes = st.wishes; least = st.least }
behind (least_line l) st = record { names = st.names; sets = st.sets; tables = st.tables; arrays = st.arrays; wishes = st.wishes; least = true }
behind (wish_line r) st = record { names = st.names; sets = st.sets; tables = st.tables; arrays = st.arrays; wishes = suc st.wishes; least = st.least }

-- the end of a text: an objective and a variable array have to be there
abbrev pub ended : State → ℕ → Got (List Line)
ended st at = cond st.least (cond (st.arrays == 0) (bad (Range at)) (ok [] at)) (bad (Name at))

-- so many lines at most
unfoldable pub lines : List ℕ → ℕ → ℕ → State → ℕ → Got (List Line)
lines x most zero st at = bad (Range at)
lines x most (suc turns) st at =
    cond (byte x at == 256) (ended st at) (then (line x most st at) (λ l e. then (lines x most turns (behind l st) e) (λ ls z. ok (l ∷ ls) z)))

-- a text has fewer lines, terms and conditions than bytes, and one more to end at
abbrev pub reading : List ℕ → Got (List Line)
reading x = lines x (length x + 1) (length x + 1) at_first 0
