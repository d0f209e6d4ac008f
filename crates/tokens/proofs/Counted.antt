-- The ends of a number, as the code finds them, and its size. Assumes nothing.
use Rattle.std.proofs.Common.{◌≡◌, ℕ, ◌+◌, ◌-◌, ◌*◌, ◌<◌, ◌≤◌, min, true, false, cond, eqb, leb, List, ◌∷◌, map, length, zero, suc, nat_abs, pos, neg_ℤ, refl, ap, ◌∙◌, ⊎_elim, arith}
use Rattle.std.proofs.lemmas.Int.Digits.{number_after_ge}
use Rattle.std.proofs.lemmas.Bool.{cond-true, cond-false, cases_lt, eq-eqb, ne_eqb, and_parts, and_from, leb-true, le-leb}
use Rattle.grammar.specs.declared.Refusal.TheVariants.{Syntax, Range}
use Rattle.grammar.specs.Grammar.{is_digit, is_top, Numeral, nought, whole, minus}
use Rattle.grammar.specs.Reading.{ok, bad, byte, in_length, digits_at, size, value, numeral}
use Rattle.grammar.proofs.Bytes.{top_other}
use Rattle.tokens.proofs.Steps.{inside, told_on}
use Rattle.tokens.specs.declared.Number.{Number}
use Rattle.tokens.specs.Sizes.{told_value, capped}

pub capped_more : (n m c : ℕ) (ds : List ℕ) → m ≡ min (n * 10 + (c - 48)) 1000001 → capped m ds ≡ capped n (c ∷ ds)
capped_more n m c ds e =
    let a = n * 10 + (c - 48) in
    ⊎_elim
    (λ (h : a < 1000001). let z : m ≡ a = omega arith in ap (λ k. capped k ds) z)
    (λ (h : 1000001 ≤ a).
    let p = number_after_ge 10 m (map (λ c. c - 48) ds) (omega arith) in
    let q = number_after_ge 10 a (map (λ c. c - 48) ds) (omega arith) in
    omega arith)
    (cases_lt a 1000001)

-- DIGITS

pub top_digit : (c : ℕ) → is_top c ≡ true → is_digit c ≡ true
top_digit c e =
    let p = and_parts (leb 49 c) (leb c 57) e in
    let l = leb-true 49 c p.0 in
    and_from (leb 48 c) (leb c 57) (le-leb 48 c (omega arith)) p.1

-- a number in range is told as it is
pub value_told : (n : Numeral) → size n ≤ 1000000 → told_value n ≡ value n
value_told nought l = refl
value_told (whole d ds) l = let z : min 1000001 (size (whole d ds)) ≡ size (whole d ds) = omega arith in ap pos z
value_told (minus d ds) l = let z : min 1000001 (size (minus d ds)) ≡ size (minus d ds) = omega arith in ap (λ s. neg_ℤ (pos s)) z

-- the size that is told
pub told_size : (n : Numeral) → nat_abs (told_value n) ≡ min 1000001 (size n)
told_size nought = refl
told_size (whole d ds) = refl
told_size (minus d ds) = go (min 1000001 (size (minus d ds))) where
  go : (k : ℕ) → nat_abs (neg_ℤ (pos k)) ≡ k
  go zero = refl
  go (suc k) = refl

-- a number that is told in range is the one that stands there
pub number_told : (n : Numeral) (p : Number) → p.value ≡ told_value n → nat_abs p.value ≤ 1000000 → p.value ≡ value n
number_told n p v l = let m = ap nat_abs v ∙ told_size n in v ∙ value_told n (omega arith)

-- NUMERALS by how they begin

module _ (x : List ℕ) (at : ℕ) where
  pub nought_past : byte x at ≡ 48 → at ≡ 65536 → numeral x at ≡ bad (Range 65536)
  unfolding numeral
  nought_past e n = cond-true (eqb (byte x at) 48) _ _ (eq-eqb (byte x at) 48 e) ∙ cond-true (eqb at 65536) _ _ (eq-eqb at 65536 n)

  pub nought_more : byte x at ≡ 48 → (at ≡ 65536 → ⊥) → is_digit (byte x (at + 1)) ≡ true → numeral x at ≡ bad (Syntax (at + 1))
  unfolding numeral
  nought_more e n d =
      cond-true (eqb (byte x at) 48) _ _ (eq-eqb (byte x at) 48 e) ∙ cond-false (eqb at 65536) _ _ (ne_eqb at 65536 n) ∙ cond-true (is_digit (byte x (at + 1))) _ _ d

  pub nought_alone : byte x at ≡ 48 → (at ≡ 65536 → ⊥) → is_digit (byte x (at + 1)) ≡ false → numeral x at ≡ ok nought (at + 1)
  unfolding numeral
  nought_alone e n d =
      cond-true (eqb (byte x at) 48) _ _ (eq-eqb (byte x at) 48 e) ∙ cond-false (eqb at 65536) _ _ (ne_eqb at 65536 n) ∙ cond-false (is_digit (byte x (at + 1))) _ _ d

  pub numeral_whole : is_top (byte x at) ≡ true → numeral x at ≡ in_length (whole (byte x at) (digits_at x (at + 1))) (at + 1 + length (digits_at x (at + 1)))
  unfolding numeral
  numeral_whole e = cond-false (eqb (byte x at) 48) _ _ (top_other (byte x at) 48 (omega arith) e) ∙ cond-true (is_top (byte x at)) _ _ e

  -- what a minus comes to
  minus_on : byte x at ≡ 45
      → numeral x at
      ≡ cond (eqb at 65536) (bad (Range 65536))
      (cond (is_top (byte x (at + 1))) (in_length (minus (byte x (at + 1)) (digits_at x (at + 1 + 1))) (at + 1 + 1 + length (digits_at x (at + 1 + 1)))) (bad (Syntax (at + 1))))
  unfolding numeral
  minus_on m = cond-false (eqb (byte x at) 48) _ _ (ap (λ b. eqb b 48) m) ∙ cond-false (is_top (byte x at)) _ _ (ap is_top m) ∙ cond-true (eqb (byte x at) 45) _ _ (eq-eqb (byte x at) 45 m)

  pub minus_past : byte x at ≡ 45 → at ≡ 65536 → numeral x at ≡ bad (Range 65536)
  minus_past m n = minus_on m ∙ cond-true (eqb at 65536) _ _ (eq-eqb at 65536 n)

  pub minus_more : byte x at ≡ 45 → (at ≡ 65536 → ⊥) → is_top (byte x (at + 1)) ≡ true
      → numeral x at ≡ in_length (minus (byte x (at + 1)) (digits_at x (at + 1 + 1))) (at + 1 + 1 + length (digits_at x (at + 1 + 1)))
  minus_more m n e =
      minus_on m ∙ cond-false (eqb at 65536) _ _ (ne_eqb at 65536 n) ∙ cond-true (is_top (byte x (at + 1))) _ _ e

  pub minus_alone : byte x at ≡ 45 → (at ≡ 65536 → ⊥) → is_top (byte x (at + 1)) ≡ false → numeral x at ≡ bad (Syntax (at + 1))
  minus_alone m n d = minus_on m ∙ cond-false (eqb at 65536) _ _ (ne_eqb at 65536 n) ∙ cond-false (is_top (byte x (at + 1))) _ _ d

  pub numeral_none : (byte x at ≡ 48 → ⊥) → is_top (byte x at) ≡ false → (byte x at ≡ 45 → ⊥) → numeral x at ≡ bad (Syntax at)
  unfolding numeral
  numeral_none n e m =
      cond-false (eqb (byte x at) 48) _ _ (ne_eqb (byte x at) 48 n) ∙ cond-false (is_top (byte x at)) _ _ e ∙ cond-false (eqb (byte x at) 45) _ _ (ne_eqb (byte x at) 45 m)

pub ruleset noughts = (nought_past, nought_more, nought_alone, inside)

pub ruleset numerals = (numeral_whole, numeral_none, told_on)

pub ruleset minuses = (minus_past, minus_alone, minus_more, inside)
