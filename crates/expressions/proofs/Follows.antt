-- Terms and what follows them, whatever is made of both. Assumes nothing.
use Rattle.std.proofs.Common.{◌≡◌, ℕ, zero, suc, ◌+◌, ◌-◌, Bool, true, false, cond, ◌||◌, eqb, List, Some, None, codes, sym, refl, ap, ◌∙◌}
use Rattle.std.specs.Str.{bytes_eq}
use Rattle.std.proofs.lemmas.Bool.{cond-true, cond-false, false≢true}
use Rattle.model.specs.declared.Sign.{Sign}
use Rattle.model.specs.declared.Sign.TheVariants.{Positive, Negative}
use Rattle.grammar.specs.declared.Refusal.TheVariants.{Syntax, Range}
use Rattle.grammar.specs.Grammar.{is_letter, Word, member, reserved, Num, Term, times1, times2, Lin, one, more, Sides, last, next, Row, compare, for_all}
use Rattle.grammar.specs.Reading.{Got, ok, bad, then, byte, taken, literal, word, name, Names, find, array_there, one_place, num, named, place, sum_at, after, after_num, term_then, sign, terms, lin, comparison, is_sign, behind_left, sides, any_row, row, header, with_index}
use Rattle.tokens.proofs.Steps.{then_ok, then_bad}
use Rattle.expressions.specs.Sums.{Follow, stops, goes_on, inner_of, deep_of, term_at, Terms, run_more, spaced_of, sum_of, sides_of, sign_after, terms_at, terms_on}
use Rattle.expressions.proofs.Ways.{then_then, then_same, then_cond, cond_same}

abbrev pub follow : {R : Type 0} → (Term → ℕ → Got R) → (Term → ℕ → Got R) → Follow → ℕ → Got R
follow E S (stops t) e = E t e
follow E S (goes_on t) e = S t e

abbrev told_stops : Term → ℕ → Got Follow
told_stops t e = ok (stops t) e

abbrev told_on : Term → ℕ → Got Follow
told_on t e = ok (goes_on t) e

module _ {R : Type 0} (x : List ℕ) (E S : Term → ℕ → Got R) where
  pub after_as : (t : Term) (m : ℕ) → after x E S t m ≡ then (after x told_stops told_on t m) (follow E S)
  unfolding after then
  after_as t m =
      cond_same (eqb (byte x m) 32) (cond_same (eqb m 65536) refl refl ∙ sym (then_cond (eqb m 65536) _ _ _)) refl ∙ sym (then_cond (eqb (byte x m) 32) _ _ _)

  pub after_num_as : (ns : Names) (left : ℕ) (e : Num) (m : ℕ) → after_num x ns left E S e m ≡ then (after_num x ns left told_stops told_on e m) (follow E S)
  unfolding after_num then
  after_num_as ns left e m =
      cond_same (eqb (byte x m) 32)
      (cond_same (eqb m 65536) refl
      (cond_same (is_letter (byte x (m + 1)))
      (then_same (name x (m + 1)) _ _ (λ w z.
      cond_same (array_there (find w ns))
      (then_same (place x (one_place (find w ns)) (m + 1) left (num x ns (left - 1)) (times1 e w) (times2 e w) z) _ _ (λ t q. after_as t q) ∙ sym (then_then (place x (one_place (find w ns)) (m + 1) left (num x ns (left - 1)) (times1 e w) (times2 e w) z) _ _))
      refl
      ∙ sym (then_cond (array_there (find w ns)) _ _ _))
      ∙ sym (then_then (name x (m + 1)) _ _))
      refl
      ∙ sym (then_cond (is_letter (byte x (m + 1))) _ _ _))
      ∙ sym (then_cond (eqb m 65536) _ _ _))
      refl
      ∙ sym (then_cond (eqb (byte x m) 32) _ _ _)

  -- a term, if the word is not `all` or that is a fault
  pub term_as : (ns : Names) (left most : ℕ) (deep : Bool) (inner : Names → ℕ → ℕ → Got Lin) (at : ℕ)
      → term_then x ns left most deep inner (λ e. bad (Syntax e)) E S at ≡ then (term_then x ns left most deep inner (λ e. bad (Syntax e)) told_stops told_on at) (follow E S)
  unfolding term_then then
  term_as ns left most deep inner at =
      cond_same (is_letter (byte x at))
      (then_same (word x at) _ _ (λ w e.
      cond_same (bytes_eq w (codes "sum"))
      (then_same (sum_at x ns left most deep inner at e) _ _ (λ t m. after_as t m) ∙ sym (then_then (sum_at x ns left most deep inner at e) _ _))
      (cond_same (bytes_eq w (codes "all")) refl
      (cond_same (member w reserved) refl
      (then_same (named x ns left (num x ns (left - 1)) at w e) _ _ (λ n m. after_num_as ns left n m) ∙ sym (then_then (named x ns left (num x ns (left - 1)) at w e) _ _))
      ∙ sym (then_cond (member w reserved) _ _ _))
      ∙ sym (then_cond (bytes_eq w (codes "all")) _ _ _))
      ∙ sym (then_cond (bytes_eq w (codes "sum")) _ _ _))
      ∙ sym (then_then (word x at) _ _))
      (then_same (num x ns left at) _ _ (λ n m. after_num_as ns left n m) ∙ sym (then_then (num x ns left at) _ _))
      ∙ sym (then_cond (is_letter (byte x at)) _ _ _)

-- SUMS AND SIDES as terms that were read

sign_none : (x : List ℕ) (e : ℕ) → is_sign (byte x e) ≡ false → sign x e ≡ bad (Syntax e)
unfolding sign
sign_none x e h = go (eqb (byte x e) 43) (eqb (byte x e) 45) h where
  go : (a b : Bool) → (a || b) ≡ false → cond a (taken e (ok Positive (e + 1))) (cond b (taken e (ok Negative (e + 1))) (bad (Syntax e))) ≡ bad (Syntax e)
  go true b h = absurd (false≢true (sym h))
  go false true h = absurd (false≢true (sym h))
  go false false h = refl

abbrev pub end_sum : Terms → ℕ → Got Lin
end_sum r e = cond (spaced_of r) (bad (Syntax e)) (ok (sum_of r) e)

module _ (x : List ℕ) (most nest : ℕ) (ns : Names) (left : ℕ) where
  pub terms_as : (turns at : ℕ) → terms x most (deep_of nest) (inner_of x most nest) ns left turns at ≡ then (terms_at x ns left most nest turns at) end_sum
  unfolding terms terms_at then sign_after
  terms_as zero at = refl
  terms_as (suc turns) at =
      term_as x _ _ ns left most (deep_of nest) (inner_of x most nest) at
      ∙ then_same (term_at x ns left most nest at) _ _ (each (λ m. terms_as turns m))
      ∙ sym (then_then (term_at x ns left most nest at) _ _) where
        on : (t : Term) (g : Sign) (o : Got Terms) → then (then o end_sum) (λ l z. ok (more t g l) z) ≡ then (then o (λ r z. ok (run_more t g r) z)) end_sum
        on t g (ok r z) = then_cond (spaced_of r) _ _ _
        on t g (bad q) = refl

        spaced : ((m : ℕ) → terms x most (deep_of nest) (inner_of x most nest) ns left turns m ≡ then (terms_at x ns left most nest turns m) end_sum) → (t : Term) (e : ℕ) (b : Bool) → is_sign (byte x e) ≡ b
            → then (sign x e) (λ g m. then (literal x (codes " ") m) (λ _ m. then (terms x most (deep_of nest) (inner_of x most nest) ns left turns m) (λ l z. ok (more t g l) z)))
            ≡ then (then (cond b (then (sign x e) (λ g m. then (literal x (codes " ") m) (λ _ z. ok (Some g) z))) (ok None e)) (λ o m. terms_on (terms_at x ns left most nest turns) (goes_on t) o m)) end_sum
        spaced ih t e false h = then_bad _ (sign_none x e h)
        spaced ih t e true h =
            then_same (sign x e) _ _ (λ g m.
            then_same (literal x (codes " ") m) _ _ (λ _ m. ap (λ o. then o (λ l z. ok (more t g l) z)) (ih m) ∙ on t g (terms_at x ns left most nest turns m))
            ∙ sym (ap (λ o. then o end_sum) (then_then (literal x (codes " ") m) _ _) ∙ then_then (literal x (codes " ") m) _ _))
            ∙ sym (ap (λ o. then o end_sum) (then_then (sign x e) _ _) ∙ then_then (sign x e) _ _)

        each : ((m : ℕ) → terms x most (deep_of nest) (inner_of x most nest) ns left turns m ≡ then (terms_at x ns left most nest turns m) end_sum) → (f : Follow) (e : ℕ) → follow (λ t e. ok (one t) e) (λ t e. then (sign x e) (λ g m. then (literal x (codes " ") m) (λ _ m. then (terms x most (deep_of nest) (inner_of x most nest) ns left turns m) (λ l z. ok (more t g l) z)))) f e
            ≡ then (then (sign_after x f e) (λ o m. terms_on (terms_at x ns left most nest turns) f o m)) end_sum
        each ih (stops t) e = refl
        each ih (goes_on t) e = spaced ih t e (is_sign (byte x e)) refl

pub lin_as : (x : List ℕ) (most nest : ℕ) (ns : Names) (left at : ℕ) → lin x most nest ns left at ≡ then (terms_at x ns left most nest most at) end_sum
unfolding lin
lin_as x most zero ns left at = terms_as x most zero ns left most at
lin_as x most (suc nest) ns left at = terms_as x most (suc nest) ns left most at

-- two sides: terms, a comparison, and a sum
abbrev pub end_sides : List ℕ → (ℕ → Got Lin) → Terms → ℕ → Got Sides
end_sides x right r e = cond (spaced_of r) (then (comparison x e) (λ c m. then (literal x (codes " ") m) (λ _ m. then (right m) (λ l z. ok (sides_of c l r) z)))) (bad (Syntax e))

module _ (x : List ℕ) (most nest : ℕ) (ns : Names) (right : ℕ → Got Lin) where
  -- what follows a term of the left side
  abbrev left_on : ℕ → Term → ℕ → Got Sides
  left_on turns t e = behind_left x (sides x most (deep_of nest) (inner_of x most nest) right ns turns) right t e

  module _ (turns : ℕ) (ih : (m : ℕ) → sides x most (deep_of nest) (inner_of x most nest) right ns turns m ≡ then (terms_at x ns 64 most nest turns m) (end_sides x right)) where
    on : (t : Term) (g : Sign) (o : Got Terms) → then (then o (end_sides x right)) (λ s z. ok (next t g s) z) ≡ then (then o (λ r z. ok (run_more t g r) z)) (end_sides x right)
    unfolding then
    on t g (ok r e) =
        then_cond (spaced_of r) _ _ _
        ∙ cond_same (spaced_of r)
        (then_then (comparison x e) _ _ ∙ then_same (comparison x e) _ _ (λ c m. then_then (literal x (codes " ") m) _ _ ∙ then_same (literal x (codes " ") m) _ _ (λ _ m. then_then (right m) _ _)))
        refl
    on t g (bad q) = refl

    spaced : (t : Term) (e : ℕ) (b : Bool)
        → cond b (then (sign x e) (λ g m. then (literal x (codes " ") m) (λ _ m. then (sides x most (deep_of nest) (inner_of x most nest) right ns turns m) (λ s z. ok (next t g s) z))))
        (then (comparison x e) (λ c m. then (literal x (codes " ") m) (λ _ m. then (right m) (λ l z. ok (last t c l) z))))
        ≡ then (then (cond b (then (sign x e) (λ g m. then (literal x (codes " ") m) (λ _ z. ok (Some g) z))) (ok None e)) (λ o m. terms_on (terms_at x ns 64 most nest turns) (goes_on t) o m)) (end_sides x right)
    unfolding then
    spaced t e false = refl
    spaced t e true =
        then_same (sign x e) _ _ (λ g m.
        then_same (literal x (codes " ") m) _ _ (λ _ m. ap (λ o. then o (λ s z. ok (next t g s) z)) (ih m) ∙ on t g (terms_at x ns 64 most nest turns m))
        ∙ sym (ap (λ o. then o (end_sides x right)) (then_then (literal x (codes " ") m) _ _) ∙ then_then (literal x (codes " ") m) _ _))
        ∙ sym (ap (λ o. then o (end_sides x right)) (then_then (sign x e) _ _) ∙ then_then (sign x e) _ _)

    each : (f : Follow) (e : ℕ) → follow (λ t e. bad (Syntax e)) (left_on turns) f e ≡ then (then (sign_after x f e) (λ o m. terms_on (terms_at x ns 64 most nest turns) f o m)) (end_sides x right)
    unfolding then sign_after behind_left
    each (stops t) e = refl
    each (goes_on t) e = spaced t e (is_sign (byte x e))

    pub sides_on : (at : ℕ) → then (term_at x ns 64 most nest at) (follow (λ t e. bad (Syntax e)) (left_on turns)) ≡ then (terms_at x ns 64 most nest (suc turns) at) (end_sides x right)
    unfolding terms_at
    sides_on at = then_same (term_at x ns 64 most nest at) _ _ each ∙ sym (then_then (term_at x ns 64 most nest at) _ _)

  pub sides_as : (turns at : ℕ) → sides x most (deep_of nest) (inner_of x most nest) right ns turns at ≡ then (terms_at x ns 64 most nest turns at) (end_sides x right)
  unfolding sides terms_at then
  sides_as zero at = refl
  sides_as (suc turns) at = term_as x _ _ ns 64 most (deep_of nest) (inner_of x most nest) at ∙ sides_on turns (λ m. sides_as turns m) at

-- CONSTRAINTS

-- what stands inside an `all`
abbrev pub body_of : List ℕ → ℕ → ℕ → Names → ℕ → Got Row
body_of x most zero = λ _ p. bad (Range p)
body_of x most (suc nest) = row x most nest

pub row_is : (x : List ℕ) (most nest : ℕ) (ns : Names) (at : ℕ) → row x most nest ns at ≡ any_row x most (deep_of nest) (inner_of x most nest) (lin x most nest ns 64) (body_of x most nest) ns at
unfolding row
row_is x most zero ns at = refl
row_is x most (suc nest) ns at = refl

-- a word that is not `all` does not ask what stands behind `all`
no_all : {R : Type 0} (x : List ℕ) (ns : Names) (left most : ℕ) (deep : Bool) (inner : Names → ℕ → ℕ → Got Lin) (A B : ℕ → Got R) (E S : Term → ℕ → Got R) (at : ℕ)
    → ((w : Word) (e : ℕ) → word x at ≡ ok w e → bytes_eq w (codes "all") ≡ false) → term_then x ns left most deep inner A E S at ≡ term_then x ns left most deep inner B E S at
unfolding term_then then
no_all x ns left most deep inner A B E S at h = cond_same (is_letter (byte x at)) (go (word x at) h) refl where
  go : (o : Got Word) → ((w : Word) (e : ℕ) → o ≡ ok w e → bytes_eq w (codes "all") ≡ false)
      → then o (λ w e. cond (bytes_eq w (codes "sum")) (then (sum_at x ns left most deep inner at e) (λ t m. after x E S t m)) (cond (bytes_eq w (codes "all")) (A e) (cond (member w reserved) (bad (Syntax e)) (then (named x ns left (num x ns (left - 1)) at w e) (λ n m. after_num x ns left E S n m)))))
      ≡ then o (λ w e. cond (bytes_eq w (codes "sum")) (then (sum_at x ns left most deep inner at e) (λ t m. after x E S t m)) (cond (bytes_eq w (codes "all")) (B e) (cond (member w reserved) (bad (Syntax e)) (then (named x ns left (num x ns (left - 1)) at w e) (λ n m. after_num x ns left E S n m)))))
  go (ok w e) h = cond_same (bytes_eq w (codes "sum")) refl (cond-false (bytes_eq w (codes "all")) _ _ (h w e refl) ∙ sym (cond-false (bytes_eq w (codes "all")) _ _ (h w e refl)))
  go (bad q) h = refl

module _ (x : List ℕ) (most nest : ℕ) (ns : Names) (at : ℕ) where
  pub row_plain : ((w : Word) (e : ℕ) → word x at ≡ ok w e → bytes_eq w (codes "all") ≡ false)
      → row x most nest ns at ≡ then (then (terms_at x ns 64 most nest (suc most) at) (end_sides x (lin x most nest ns 64))) (λ s z. ok (compare s) z)
  unfolding any_row then
  row_plain h =
      let right = lin x most nest ns 64 in
      row_is x most nest ns at
      ∙ no_all x ns 64 most (deep_of nest) (inner_of x most nest) _ (λ e. bad (Syntax e)) _ _ at h
      ∙ term_as x _ _ ns 64 most (deep_of nest) (inner_of x most nest) at
      ∙ then_same (term_at x ns 64 most nest at) _ _ split
      ∙ sym (then_then (term_at x ns 64 most nest at) _ _)
      ∙ ap (λ o. then o (λ s z. ok (compare s) z)) (sides_on x most nest ns right most (sides_as x most nest ns right most) at) where
        split : (f : Follow) (e : ℕ) → follow (λ t e. bad (Syntax e)) (λ t e. then (left_on x most nest ns (lin x most nest ns 64) most t e) (λ s z. ok (compare s) z)) f e
            ≡ then (follow (λ t e. bad (Syntax e)) (left_on x most nest ns (lin x most nest ns 64) most) f e) (λ s z. ok (compare s) z)
        split (stops t) e = refl
        split (goes_on t) e = refl

  pub row_all : (e : ℕ) → is_letter (byte x at) ≡ true → word x at ≡ ok (codes "all") e
      → row x most nest ns at ≡ then (header x ns 64 most (deep_of nest) at e) (λ h y. then (body_of x most nest (with_index h.name ns) y) (λ r z. ok (for_all h.set h.name h.filter r) z))
  unfolding any_row term_then
  row_all e l h = row_is x most nest ns at ∙ cond-true (is_letter (byte x at)) _ _ l ∙ then_ok _ h
