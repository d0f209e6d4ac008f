-- The ends of words and names, as the code finds them. Assumes nothing.
use Rattle.std.proofs.Common.{◌≡◌, ℕ, ◌+◌, ◌-◌, ◌<◌, ◌≤◌, Bool, true, false, cond, ◌&&◌, ltb, leb, List, length, take, drop, is_some, Some, None, codes, Option, sym, refl, ap, ◌∙◌, ⊎_elim, arith}
use Rattle.std.specs.Str.{bytes_eq}
use Rattle.std.proofs.lemmas.Slice.Eq.{bytes_eq-Decides}
use Rattle.std.proofs.lemmas.List.{take_at}
use Rattle.std.proofs.lemmas.Bool.{cond-true, cond-false, lt-ltb, le-ltb, lt-leb, le-leb, and_left, and_right, and_from, or_from, or_right, cases_Bool}
use Rattle.grammar.specs.declared.Refusal.{Refusal}
use Rattle.grammar.specs.declared.Refusal.TheVariants.{Syntax, Range}
use Rattle.grammar.specs.Grammar.{is_digit, is_letter, is_word, member, reserved}
use Rattle.grammar.specs.Reading.{ok, bad, then, byte, front, run_at, word, name}
use Rattle.grammar.proofs.Places.{front_is}
use Rattle.tokens.specs.declared.words.Reserved.{Reserved}
use Rattle.tokens.specs.declared.words.Reserved.TheVariants.{Set, Table, Unknown, Least, Wish, From, To, Where, Sum, All, And, Or, Then}
use Rattle.tokens.specs.Spelling.{spelled, Spells}
use Rattle.tokens.proofs.Steps.{in_length_in, in_length_past, told_exit}

-- RESERVED WORDS

pub spelled_member : (w : Reserved) → member (spelled w) reserved ≡ true
unfolding member
spelled_member Set = refl
spelled_member Table = refl
spelled_member Unknown = refl
spelled_member Least = refl
spelled_member Wish = refl
spelled_member From = refl
spelled_member To = refl
spelled_member Where = refl
spelled_member Sum = refl
spelled_member All = refl
spelled_member And = refl
spelled_member Or = refl
spelled_member Then = refl

-- bytes that spell a reserved word are one
pub some_member : (bs : List ℕ) (w : Reserved) → Spells bs (Some w) → member bs reserved ≡ true
some_member bs w e = ap (λ l. member l reserved) e ∙ spelled_member w

other : (bs v : List ℕ) → (bs ≡ v → ⊥) → bytes_eq bs v ≡ false
other bs v h = ⊎_elim (λ (e : bytes_eq bs v ≡ true). absurd (h ((bytes_eq-Decides bs v).0 e))) (λ (e : bytes_eq bs v ≡ false). e) (cases_Bool (bytes_eq bs v))

-- bytes that spell none are none
pub none_member : (bs : List ℕ) → Spells bs None → member bs reserved ≡ false
unfolding member
none_member bs h =
    or_from _ _ (other bs (codes "set") (h Set))
    (or_from _ _ (other bs (codes "table") (h Table))
    (or_from _ _ (other bs (codes "unknown") (h Unknown))
    (or_from _ _ (other bs (codes "least") (h Least))
    (or_from _ _ (other bs (codes "wish") (h Wish))
    (or_from _ _ (other bs (codes "from") (h From))
    (or_from _ _ (other bs (codes "to") (h To))
    (or_from _ _ (other bs (codes "where") (h Where))
    (or_from _ _ (other bs (codes "sum") (h Sum))
    (or_from _ _ (other bs (codes "all") (h All))
    (or_from _ _ (other bs (codes "and") (h And)) (or_from _ _ (other bs (codes "or") (h Or)) (or_from _ _ (other bs (codes "then") (h Then)) refl))))))))))))

-- whether bytes are a reserved word, by what they spell
pub spells_member : (bs : List ℕ) (r : Option Reserved) → Spells bs r → member bs reserved ≡ is_some r
spells_member bs None h = none_member bs h
spells_member bs (Some w) h = some_member bs w h

-- WORDS

pub letter_word : (c : ℕ) → is_letter c ≡ true → is_word c ≡ true
letter_word c e = or_right (is_digit c) (is_letter c) e

pub front_taken : (f : ℕ → Bool) (x : List ℕ) (at e : ℕ) → e ≡ at + length (front f (drop at x)) → take (e - at) (drop at x) ≡ front f (drop at x)
front_taken f x at e h =
    let r = front_is f (drop at x) in
    let n : e - at ≡ length (front f (drop at x)) = omega arith in
    ap (λ l. take (e - at) l) r.1 ∙ take_at (front f (drop at x)) r.0 (e - at) (sym n)

pub word_none : (x : List ℕ) (at : ℕ) → is_letter (byte x at) ≡ false → word x at ≡ bad (Syntax at)
unfolding word
word_none x at h = cond-false (is_letter (byte x at)) _ _ h

-- a thirteenth letter or digit
pub word_long : (x : List ℕ) (at e : ℕ) → is_letter (byte x at) ≡ true → e ≡ at + 12 → e < at + length (run_at x at) → e ≤ 65536 → word x at ≡ bad (Syntax e)
unfolding word
word_long x at e h i l m =
    let n = length (run_at x at) in
    cond-true (is_letter (byte x at)) _ _ h
    ∙ cond-true (ltb 12 n && leb (at + 12) 65536) _ _ (and_from (ltb 12 n) (leb (at + 12) 65536) (lt-ltb 12 n (omega arith)) (le-leb (at + 12) 65536 (omega arith)))
    ∙ ap (λ p. bad (Syntax p)) (sym i)

-- a word that goes on at byte 65,536, which is not its thirteenth
pub word_past : (x : List ℕ) (at : ℕ) → is_letter (byte x at) ≡ true → 65536 < at + 12 → 65536 < at + length (run_at x at) → word x at ≡ bad (Range 65536)
unfolding word
word_past x at h l m =
    let n = length (run_at x at) in
    cond-true (is_letter (byte x at)) _ _ h
    ∙ cond-false (ltb 12 n && leb (at + 12) 65536) _ _ (and_right (ltb 12 n) (leb (at + 12) 65536) (lt-leb (at + 12) 65536 l))
    ∙ in_length_past (run_at x at) (at + n) m

pub word_end : (x : List ℕ) (at e : ℕ) → is_letter (byte x at) ≡ true → e ≡ at + length (run_at x at) → e - at ≤ 12 → e ≤ 65536 → word x at ≡ ok (take (e - at) (drop at x)) e
unfolding word
word_end x at e h i l m =
    let n = length (run_at x at) in
    cond-true (is_letter (byte x at)) _ _ h
    ∙ cond-false (ltb 12 n && leb (at + 12) 65536) _ _ (and_left (ltb 12 n) (leb (at + 12) 65536) (le-ltb 12 n (omega arith)))
    ∙ in_length_in (run_at x at) (at + n) (omega arith)
    ∙ ap (ok (run_at x at)) (sym i)
    ∙ ap (λ w. ok w e) (sym (front_taken is_word x at e i))

-- NAMES

pub name_bad : (x : List ℕ) (at : ℕ) (q : Refusal) → word x at ≡ bad q → name x at ≡ bad q
unfolding name then
name_bad x at q h = ap (λ o. then o (λ w e. cond (member w reserved) (bad (Syntax e)) (ok w e))) h

pub name_taken : (x w v : List ℕ) (at e : ℕ) → word x at ≡ ok w e → w ≡ v → member v reserved ≡ true → name x at ≡ bad (Syntax e)
unfolding name then
name_taken x w v at e h i m =
    ap (λ o. then o (λ w e. cond (member w reserved) (bad (Syntax e)) (ok w e))) h ∙ cond-true (member w reserved) _ _ (ap (λ u. member u reserved) i ∙ m)

pub name_free : (x w v : List ℕ) (at e : ℕ) → word x at ≡ ok w e → w ≡ v → member v reserved ≡ false → name x at ≡ ok w e
unfolding name then
name_free x w v at e h i m =
    ap (λ o. then o (λ w e. cond (member w reserved) (bad (Syntax e)) (ok w e))) h ∙ cond-false (member w reserved) _ _ (ap (λ u. member u reserved) i ∙ m)

pub ruleset names = (spells_member, name_bad, name_taken, name_free, told_exit)
