-- Steps of the loops over a text. Assumes nothing.
use Rattle.std.proofs.Common.{◌≡◌, ℕ, ◌+◌, ◌<◌, ◌≤◌, Bool, true, false, eqb, ltb, List, [], ◌∷◌, length, get_or, drop, IsErrAnd, Ok, Err, Result, sym, ap, ◌∙◌, subst, ⊎_elim, arith}
use Rattle.std.proofs.lemmas.Result.{err_from_is_err_and}
use Rattle.std.proofs.lemmas.List.{drop_more, drop_all, get_or_past}
use Rattle.std.proofs.lemmas.Bool.{cond-true, cond-false, eq-eqb, ne_eqb, lt-ltb, le-ltb, cases_lt, both_ways}
use Rattle.grammar.specs.declared.Refusal.{Refusal}
use Rattle.grammar.specs.declared.Refusal.TheVariants.{Syntax, Range}
use Rattle.grammar.specs.Reading.{Got, ok, bad, then, byte, in_length, front, literal}
use Rattle.tokens.specs.Told.{Told}

-- what is told of an outcome is told of one that is the same, with what follows from it
pub told_on : {A R : Type 0} (end : R → ℕ) (P Q : A → R → Type 0) (o q : Got A) (r : Result R Refusal) → o ≡ q → ((a : A) (r : R) → Q a r → P a r) → Told end Q q r → Told end P o r
told_on end P Q o q (Ok r) e f t = (t.0, e ∙ t.1, f t.0 r t.2)
told_on end P Q o q (Err r) e f t = e ∙ t

-- what a `?` returns
pub told_exit : {A R : Type 0} (end : R → ℕ) (P : A → R → Type 0) (o : Got A) (q : Refusal) (r : Result R Refusal) → IsErrAnd r (λ y. y ≡ q) → o ≡ bad q → Told end P o r
told_exit end P o q r b h = let p = err_from_is_err_and r b in subst (Told end P o) (sym p.1) (h ∙ ap bad (sym p.2))

-- one part read after another
pub then_ok : {A B : Type 0} {o : Got A} {a : A} {e : ℕ} (g : A → ℕ → Got B) → o ≡ ok a e → then o g ≡ g a e
unfolding then
then_ok g h = ap (λ o. then o g) h

pub then_bad : {A B : Type 0} {o : Got A} {q : Refusal} (g : A → ℕ → Got B) → o ≡ bad q → then o g ≡ bad q
unfolding then
then_bad g h = ap (λ o. then o g) h

-- parts read one after another, each with a `?`
pub ruleset steps = (told_exit, then_ok, then_bad)

-- LITERALS

pub literal_same : (x w : List ℕ) (i at : ℕ) → i < length w → byte x at ≡ get_or w i 0 → (at ≡ 65536 → ⊥) → literal x (drop i w) at ≡ literal x (drop (i + 1) w) (at + 1)
unfolding literal
literal_same x w i at l e n =
    ap (λ v. literal x v at) (drop_more w i 0 l) ∙ cond-true (eqb (byte x at) (get_or w i 0)) _ _ (eq-eqb (byte x at) (get_or w i 0) e) ∙ cond-false (eqb at 65536) _ _ (ne_eqb at 65536 n)

pub literal_past : (x w : List ℕ) (i at : ℕ) → i < length w → byte x at ≡ get_or w i 0 → at ≡ 65536 → literal x (drop i w) at ≡ bad (Range 65536)
unfolding literal
literal_past x w i at l e n =
    ap (λ v. literal x v at) (drop_more w i 0 l) ∙ cond-true (eqb (byte x at) (get_or w i 0)) _ _ (eq-eqb (byte x at) (get_or w i 0) e) ∙ cond-true (eqb at 65536) _ _ (eq-eqb at 65536 n)

pub literal_other : (x w : List ℕ) (i at : ℕ) → i < length w → (byte x at ≡ get_or w i 0 → ⊥) → literal x (drop i w) at ≡ bad (Syntax at)
unfolding literal
literal_other x w i at l e = ap (λ v. literal x v at) (drop_more w i 0 l) ∙ cond-false (eqb (byte x at) (get_or w i 0)) _ _ (ne_eqb (byte x at) (get_or w i 0) e)

pub literal_end : (x w : List ℕ) (i at : ℕ) → length w ≤ i → literal x (drop i w) at ≡ ok tt at
unfolding literal
literal_end x w i at l = ap (λ v. literal x v at) (drop_all i w l)

-- PLACES

pub inside : (x : List ℕ) (at : ℕ) → byte x at < 256 → at < length x
inside x at l = ⊎_elim (λ (h : at < length x). h) (λ (h : length x ≤ at). let z = get_or_past x at 256 h in absurd (omega arith)) (cases_lt at (length x))

pub test_inside : (f : ℕ → Bool) (x : List ℕ) (at : ℕ) → f 256 ≡ false → f (byte x at) ≡ true → at < length x
test_inside f x at z e = ⊎_elim (λ (h : at < length x). h) (λ (h : length x ≤ at). absurd (both_ways (f 256) z (ap f (sym (get_or_past x at 256 h)) ∙ e))) (cases_lt at (length x))

-- FRONTS

pub front_more : (f : ℕ → Bool) (x : List ℕ) (at : ℕ) → f 256 ≡ false → f (byte x at) ≡ true → front f (drop at x) ≡ byte x at ∷ front f (drop (at + 1) x)
unfolding front
front_more f x at z e = ap (front f) (drop_more x at 256 (test_inside f x at z e)) ∙ cond-true (f (byte x at)) _ _ e

pub front_end : (f : ℕ → Bool) (x : List ℕ) (at : ℕ) → f (byte x at) ≡ false → front f (drop at x) ≡ []
unfolding front
front_end f x at e = ⊎_elim
    (λ (h : at < length x). ap (front f) (drop_more x at 256 h) ∙ cond-false (f (byte x at)) _ _ e)
    (λ (h : length x ≤ at). ap (front f) (drop_all at x h))
    (cases_lt at (length x))

-- LENGTHS

pub in_length_in : {A : Type 0} (a : A) (e : ℕ) → e ≤ 65536 → in_length a e ≡ ok a e
in_length_in a e l = cond-false (ltb 65536 e) _ _ (le-ltb 65536 e l)

pub in_length_past : {A : Type 0} (a : A) (e : ℕ) → 65536 < e → in_length a e ≡ bad (Range 65536)
in_length_past a e l = cond-true (ltb 65536 e) _ _ (lt-ltb 65536 e l)

-- whether a token is in length does not hang on what it is
pub in_length_like : {A : Type 0} (a b c : A) (e m : ℕ) → in_length a e ≡ ok c m → (c ≡ a) × (m ≡ e) × (in_length b e ≡ ok b m)
in_length_like a b c e m h = ⊎_elim
    (λ (l : 65536 < e). let z = in_length_past a e l in (cc, cc, cc))
    (λ (l : e ≤ 65536). let z = in_length_in a e l in let y = in_length_in b e l in (cc, cc, cc))
    (cases_lt 65536 e)

pub in_length_like_bad : {A : Type 0} (a b : A) (e : ℕ) (q : Refusal) → in_length a e ≡ bad q → in_length b e ≡ bad q
in_length_like_bad a b e q h = ⊎_elim
    (λ (l : 65536 < e). in_length_past b e l ∙ sym (in_length_past a e l) ∙ h)
    (λ (l : e ≤ 65536). let z = in_length_in a e l in cc)
    (cases_lt 65536 e)

pub ruleset literals = (literal_same, literal_past, literal_other, literal_end, inside)
