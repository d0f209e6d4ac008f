-- Signs behind terms. Assumes nothing.
use Rattle.std.proofs.Common.{◌≡◌, ℕ, ◌+◌, ◌<◌, ◌≤◌, Bool, true, false, cond, not, ◌||◌, eqb, List, length, Some, None, Ok, codes, Option, sym, refl, ap, ◌∙◌, subst, arith}
use Rattle.std.proofs.lemmas.Bool.{cond-true, cond-false, eqb-true}
use Rattle.model.specs.declared.Sign.{Sign}
use Rattle.model.specs.declared.Sign.TheVariants.{Positive, Negative}
use Rattle.grammar.specs.declared.Refusal.{Refusal}
use Rattle.grammar.specs.declared.Refusal.TheVariants.{Syntax, Range}
use Rattle.grammar.specs.Grammar.{Term}
use Rattle.grammar.specs.Reading.{Got, ok, bad, then, byte, one_byte, literal, sign, is_sign}
use Rattle.tokens.proofs.Steps.{then_ok, then_bad}
use Rattle.tokens.specs.Told.{Told}
use Rattle.expressions.specs.declared.At.{At}
use Rattle.expressions.specs.Sums.{stops, goes_on, sign_after, sign_of, sign_end, SignRead, followed}
use Rattle.expressions.proofs.Signs.{signed_at, past_end, one_on}

sign_is : (x : List ℕ) (at : ℕ) → sign x at ≡ signed_at at (sign_of (byte x at))
unfolding sign
sign_is x at = go (eqb (byte x at) 43) (eqb (byte x at) 45) where
  go : (a b : Bool) → cond a (one_byte at Positive) (cond b (one_byte at Negative) (bad (Syntax at))) ≡ signed_at at (cond a (Some Positive) (cond b (Some Negative) None))
  go true b = refl
  go false true = refl
  go false false = refl

is_sign_some : (b : ℕ) (g : Sign) → sign_of b ≡ Some g → is_sign b ≡ true
is_sign_some b g e = go (eqb b 43) (eqb b 45) e where
  go : (p q : Bool) → cond p (Some Positive) (cond q (Some Negative) None) ≡ Some g → (p || q) ≡ true
  go true q e = refl
  go false true e = refl
  go false false e = let y : ◌≡◌ {A = ℕ} 0 1 = cc in absurd (omega arith)

is_sign_none : (b : ℕ) → sign_of b ≡ None → is_sign b ≡ false
is_sign_none b e = go (eqb b 43) (eqb b 45) e where
  go : (p q : Bool) → cond p (Some Positive) (cond q (Some Negative) None) ≡ None → (p || q) ≡ false
  go true q e = let y : ◌≡◌ {A = ℕ} 0 1 = cc in absurd (omega arith)
  go false true e = let y : ◌≡◌ {A = ℕ} 0 1 = cc in absurd (omega arith)
  go false false e = refl

pub sign_inside : (b : ℕ) (g : Sign) → sign_of b ≡ Some g → b < 256
sign_inside b g e = go (eqb b 43) (eqb b 45) (λ t. eqb-true b 43 t) (λ t. eqb-true b 45 t) e where
  go : (p q : Bool) → (p ≡ true → b ≡ 43) → (q ≡ true → b ≡ 45) → cond p (Some Positive) (cond q (Some Negative) None) ≡ Some g → b < 256
  go true q f h z = let y = f refl in omega arith
  go false true f h z = let y = h refl in omega arith
  go false false f h z = let y : ◌≡◌ {A = ℕ} 0 1 = cc in absurd (omega arith)

module _ (x : List ℕ) (t : Term) (e : ℕ) where
  pub no_sign : sign_after x (stops t) e ≡ ok None e
  unfolding sign_after
  no_sign = refl

  pub no_sign_byte : sign_of (byte x e) ≡ None → sign_after x (goes_on t) e ≡ ok None e
  unfolding sign_after
  no_sign_byte n = cond-false (is_sign (byte x e)) _ _ (is_sign_none (byte x e) n)

  module _ (g : Sign) (s : sign_of (byte x e) ≡ Some g) where
    on : sign_after x (goes_on t) e ≡ then (one_byte e g) (λ g m. then (literal x (codes " ") m) (λ _ z. ok (Some g) z))
    unfolding sign_after
    on = cond-true (is_sign (byte x e)) _ _ (is_sign_some (byte x e) g s) ∙ ap (λ o. then o (λ g m. then (literal x (codes " ") m) (λ _ z. ok (Some g) z))) (sign_is x e ∙ ap (signed_at e) s)

    pub sign_past : e ≡ 65536 → sign_after x (goes_on t) e ≡ bad (Range 65536)
    sign_past p = on ∙ then_bad _ (past_end e g p)

    pub sign_bad : (e ≡ 65536 → ⊥) → (q : Refusal) → literal x (codes " ") (e + 1) ≡ bad q → sign_after x (goes_on t) e ≡ bad q
    sign_bad n q h = on ∙ then_ok _ (one_on e g n) ∙ then_bad _ h

    pub sign_read : (e ≡ 65536 → ⊥) → (z : ℕ) → literal x (codes " ") (e + 1) ≡ ok tt z → sign_after x (goes_on t) e ≡ ok (Some g) z
    sign_read n z h = on ∙ then_ok _ (one_on e g n) ∙ then_ok _ h

pub not-false : (b : Bool) → not b ≡ true → b ≡ false
not-false true e = sym e
not-false false e = refl

pub not-true : (b : Bool) → not b ≡ false → b ≡ true
not-true true e = refl
not-true false e = sym e

-- what code told of a sign that may not be there
pub told_none : (x : List ℕ) (e : ℕ) (o : Got (Option Sign)) (r : Option (At Sign)) → r ≡ None → Told (sign_end e) (SignRead x e) o (Ok r) → o ≡ ok None e
told_none x e o None i (s, h, p) = h ∙ ap (λ s. ok s e) p
told_none x e o (Some s) i t = let y : ◌≡◌ {A = ℕ} 0 1 = cc in absurd (omega arith)

pub told_some : (x : List ℕ) (e : ℕ) (o : Got (Option Sign)) (r : Option (At Sign)) (s : At Sign) → r ≡ Some s → Told (sign_end e) (SignRead x e) o (Ok r) → (o ≡ ok (Some s.value) s.end) × (s.end ≡ e + 2) × (s.end ≤ length x) × (s.end ≤ 65536)
told_some x e o r s i t = go (subst (λ r. Told (sign_end e) (SignRead x e) o (Ok r)) i t) where
  go : Told (sign_end e) (SignRead x e) o (Ok (Some s)) → (o ≡ ok (Some s.value) s.end) × (s.end ≡ e + 2) × (s.end ≤ length x) × (s.end ≤ 65536)
  go (g, h, p) = (h ∙ ap (λ g. ok g s.end) p.0, p.1, p.2, p.3)

-- a sign stands only behind a space
pub some_spaced : (x : List ℕ) (t : Term) (e : ℕ) (b : Bool) (g : Sign) (z : ℕ) → sign_after x (followed b t) e ≡ ok (Some g) z → b ≡ true
unfolding sign_after
some_spaced x t e true g z h = refl
some_spaced x t e false g z h = let y : ◌≡◌ {A = ℕ} 0 1 = cc in absurd (omega arith)
