-- Terms one after the other, with their signs, and the sums and sides that they make. Assumes nothing.
use Rattle.std.specs.Prelude.{◌≡◌, ℕ, zero, suc, ◌+◌, ◌-◌, ◌*◌, ◌<◌, ◌≤◌, Bool, true, false, cond, ◌&&◌, List, [], ◌∷◌, length, Some, None, codes, Option, ◌==◌, nat_le}
use Rattle.compose.specs.Agree.{Settled}
use Rattle.model.specs.declared.Sign.{Sign}
use Rattle.model.specs.declared.Sign.TheVariants.{Positive, Negative}
use Rattle.model.specs.declared.Comparison.{Comparison}
use Rattle.model.specs.Model as model
use Rattle.model.specs.Words.{word}
use Rattle.model.specs.Kept.{LinIn, ConstraintIn}
use Rattle.grammar.specs.declared.Refusal.TheVariants.{Syntax, Name, Range}
use Rattle.grammar.specs.Grammar.{is_letter, Word, Num, Term, times1, times2, Lin, one, more, Sides, last, next, Row, compare}
use Rattle.grammar.specs.Reading.{Got, ok, bad, then, byte, literal, word as read_word, name, Names, find, array_there, one_place, num, place, after, after_num, term_then, sign, lin, is_sign, taken, comparison}
use Rattle.grammar.specs.Says.{term_of, lin_behind, row_of}
use Rattle.expressions.specs.declared.Node.{Node}
use Rattle.expressions.specs.declared.TermAt.{TermAt}
use Rattle.std.specs.Str.{bytes_eq}
use Rattle.expressions.specs.declared.Run.{Run}
use Rattle.expressions.specs.declared.At.{At}
use Rattle.expressions.specs.Made.{Zero, Made}

-- a term, and whether a space follows it
pub data Follow : Type 0 where
  stops : Term → Follow
  goes_on : Term → Follow

abbrev pub followed : Bool → Term → Follow
followed true t = goes_on t
followed false t = stops t

-- the sums inside a sum, with so many that may still stand within each other
abbrev pub inner_of : List ℕ → ℕ → ℕ → Names → ℕ → ℕ → Got Lin
inner_of x most zero = λ _ _ p. bad (Range p)
inner_of x most (suc nest) = lin x most nest

abbrev pub deep_of : ℕ → Bool
deep_of zero = true
deep_of (suc nest) = false

-- a term, where no `all` may stand
abbrev pub term_at : List ℕ → Names → ℕ → ℕ → ℕ → ℕ → Got Follow
term_at x ns left most nest at = term_then x ns left most (deep_of nest) (inner_of x most nest) (λ e. bad (Syntax e)) (λ t e. ok (stops t) e) (λ t e. ok (goes_on t) e) at

-- behind a term, a number, or a number and a space, where a name begins
abbrev pub after_at : List ℕ → Term → ℕ → Got Follow
after_at x t m = after x (λ t e. ok (stops t) e) (λ t e. ok (goes_on t) e) t m

abbrev pub after_num_at : List ℕ → Names → ℕ → Num → ℕ → Got Follow
after_num_at x ns left e m = after_num x ns left (λ t e. ok (stops t) e) (λ t e. ok (goes_on t) e) e m

unfoldable pub variable_at : List ℕ → Names → ℕ → Num → ℕ → Got Follow
variable_at x ns left e at =
    then (name x at) (λ w z.
    cond (array_there (find w ns)) (then (place x (one_place (find w ns)) at left (num x ns (left - 1)) (times1 e w) (times2 e w) z) (λ t q. after_at x t q)) (bad (Name at)))

-- the same node, and the space behind it if there is one
pub record Spaced (x : List ℕ) (n : Node) (t : Term) (f : Follow) (p : TermAt) : Type 0 where
  pub told : f ≡ followed p.spaced t
  pub place : p.node.place ≡ n.place
  pub next : p.node.next ≡ n.next
  pub onward : n.end ≤ p.node.end
  pub further : p.spaced ≡ true → n.end + 1 ≤ p.node.end
  pub inside : p.node.end ≤ length x
  pub short : p.node.end ≤ 65536

abbrev pub TermMade : List ℕ → Names → ℕ → ℕ → List ℕ → List ℕ → Follow → TermAt → Type 0
TermMade x ns at free us ws f p =
    (t : Term) × (f ≡ followed p.spaced t) × Made x at free 3 us ws (λ vs k. LinIn vs k (term_of ns t)) p.node
    × (p.spaced ≡ true → (at + 2 ≤ p.node.end) × (3 * p.node.next + 4 * at + 1 ≤ 3 * free + 4 * p.node.end))

-- terms with signs between them, up to one that no sign follows; whether a space follows that
pub data Terms : Type 0 where
  run_end : Term → Bool → Terms
  run_more : Term → Sign → Terms → Terms

abbrev pub spaced_of : Terms → Bool
spaced_of (run_end t b) = b
spaced_of (run_more t g r) = spaced_of r

abbrev pub sum_of : Terms → Lin
sum_of (run_end t b) = one t
sum_of (run_more t g r) = more t g (sum_of r)

abbrev pub sides_of : Comparison → Lin → Terms → Sides
sides_of c l (run_end t b) = last t c l
sides_of c l (run_more t g r) = next t g (sides_of c l r)

-- behind a term: a sign and a space, or nothing of the sort
unfoldable pub sign_after : List ℕ → Follow → ℕ → Got (Option Sign)
sign_after x (stops t) e = ok None e
sign_after x (goes_on t) e = cond (is_sign (byte x e)) (then (sign x e) (λ g m. then (literal x (codes " ") m) (λ _ z. ok (Some g) z))) (ok None e)

abbrev pub term_in : Follow → Term
term_in (stops t) = t
term_in (goes_on t) = t

abbrev pub is_spaced : Follow → Bool
is_spaced (stops t) = false
is_spaced (goes_on t) = true

-- the last term, or one with a sign behind it
abbrev pub terms_on : (ℕ → Got Terms) → Follow → Option Sign → ℕ → Got Terms
terms_on rest f None m = ok (run_end (term_in f) (is_spaced f)) m
terms_on rest f (Some g) m = then (rest m) (λ r z. ok (run_more (term_in f) g r) z)

unfoldable pub terms_at : List ℕ → Names → ℕ → ℕ → ℕ → ℕ → ℕ → Got Terms
terms_at x ns left most nest zero at = bad (Range at)
terms_at x ns left most nest (suc turns) at = then (term_at x ns left most nest at) (λ f e. then (sign_after x f e) (λ o m. terms_on (terms_at x ns left most nest turns) f o m))

abbrev pub sign_of : ℕ → Option Sign
sign_of c = cond (c == 43) (Some Positive) (cond (c == 45) (Some Negative) None)

-- where a sign ends that may not be there, and what is told of it
abbrev pub sign_end : ℕ → Option (At Sign) → ℕ
sign_end at None = at
sign_end at (Some s) = s.end

abbrev pub SignRead : List ℕ → ℕ → Option Sign → Option (At Sign) → Type 0
SignRead x at o None = o ≡ None
SignRead x at o (Some s) = (o ≡ Some s.value) × (s.end ≡ at + 2) × (s.end ≤ length x) × (s.end ≤ 65536)

-- TERMS THAT WAIT. Two words each, the newest last: the sign and the place of the term's node

-- enough for those that four bytes each make, of the bytes that are left
abbrev pub Waiting : ℕ → ℕ → Type 0
Waiting len at = 65544 ≤ 2 * len + at

pub record Item : Type 0 where
  pub sign : Sign
  pub term : model.Lin

abbrev pub sign_word : Sign → ℕ
sign_word Positive = 12
sign_word Negative = 13

-- the newest first, in the first d of the words ps; n words of ws are written
unfoldable pub Stacked : List ℕ → ℕ → List ℕ → List Item → ℕ → Type 0
Stacked ps n ws [] d = d ≡ 0
Stacked ps n ws (i ∷ is) d =
    (e : ℕ) × (d ≡ e + 2) × (word ps e ≡ sign_word i.sign) × (1808 ≤ word ps (e + 1)) × (word ps (e + 1) < n) × (Zero ws → Settled 1808 n ws (λ vs. LinIn vs (word ps (e + 1)) i.term)) × Stacked ps n ws is e

-- the newest stand last in the sum
unfoldable pub chained : List Item → model.Lin → model.Lin
chained [] l = l
chained (i ∷ is) l = chained is (model.chain i.sign i.term l)

-- terms that were read from `at` on, with their nodes from `free` on, and wait
pub record TermsMade (x : List ℕ) (ns : Names) (at free : ℕ) (ps ws : List ℕ) (r : Terms) (p : Run) : Type 0 where
  pub onward : at < p.end
  pub inside : p.end ≤ length x
  pub short : p.end ≤ 65536
  pub spaced : p.spaced ≡ spaced_of r
  pub forward : free ≤ p.next
  pub few : 2 * p.top + at ≤ p.end + 4
  pub words : 6 * p.next + 8 * at + 9 * p.top ≤ 6 * free + 8 * p.end + 24
  pub sharp : p.spaced ≡ true → 6 * p.next + 8 * at + 9 * p.top ≤ 6 * free + 8 * p.end + 16
  pub waiting : (is : List Item) × Stacked ps p.next ws is p.top × (2 ≤ p.top) × (chained is model.nothing ≡ lin_behind Positive ns (sum_of r))

-- a sum and a constraint
abbrev pub LinMade : List ℕ → Names → ℕ → ℕ → List ℕ → List ℕ → Lin → Node → Type 0
LinMade x ns at free us ws l p = Made x at free 12 us ws (λ vs k. LinIn vs k (lin_behind Positive ns l)) p

abbrev pub RowMade : List ℕ → Names → ℕ → ℕ → List ℕ → List ℕ → Row → Node → Type 0
RowMade x ns at free us ws r p = Made x at free 21 us ws (λ vs k. ConstraintIn vs k (row_of ns r)) p

-- a comparison whose second byte is =
unfoldable pub second_byte : List ℕ → Comparison → ℕ → Got Comparison
second_byte x c at = taken at (then (literal x (codes "=") (at + 1)) (λ _ e. ok c e))

-- two sides: terms, a comparison and a sum
unfoldable pub sides_at : List ℕ → Names → ℕ → ℕ → ℕ → Got Row
sides_at x ns most nest at =
    then (terms_at x ns 64 most nest (suc most) at) (λ r e.
    cond (spaced_of r)
    (then (comparison x e) (λ c m. then (literal x (codes " ") m) (λ _ m. then (lin x most nest ns 64 m) (λ l z. ok (compare (sides_of c l r)) z))))
    (bad (Syntax e)))

-- whether `all` stands at a place
abbrev pub AllWord : List ℕ → ℕ → Option ℕ → Type 0
AllWord x at (Some e) = (is_letter (byte x at) ≡ true) × (read_word x at ≡ ok (codes "all") e) × (at + 3 ≡ e) × (e ≤ length x) × (at ≤ 65536 → e ≤ 65536)
AllWord x at None = (w : Word) (e : ℕ) → read_word x at ≡ ok w e → bytes_eq w (codes "all") ≡ false

-- there is room for whatever may still be read: in the text, the words, the words that wait, and the scope
abbrev pub ready : ℕ → ℕ → ℕ → ℕ → ℕ → ℕ → Bool
ready long len waits count free at = nat_le at long && nat_le at 65536 && nat_le 1810 free && nat_le (3 * free + 4 * (65536 - at) + 60) (3 * len) && nat_le 32772 waits && nat_le count 48
