-- Texts by their places: bytes, words and fronts. Assumes nothing.
use Rattle.std.proofs.Common.{◌≡◌, ℕ, zero, suc, ◌+◌, ◌-◌, ◌<◌, Bool, true, false, ◌&&◌, ◌||◌, eqb, leb, List, [], ◌∷◌, ◌++◌, length, get_or, drop, sym, refl, ap, ◌∙◌, arith, length-drop}
use Rattle.std.specs.List.{AllByRecursion}
use Rattle.std.specs.Str.{bytes_eq}
use Rattle.std.proofs.lemmas.List.{drop-drop, drop_at, get_or-drop}
use Rattle.std.proofs.lemmas.Bool.{cond-true, cond-false, false≢true, and_parts, leb-true, eqb-true, ne_eqb}
use Rattle.grammar.specs.Grammar.{is_top, is_letter, member}
use Rattle.grammar.specs.Reading.{byte, front}

pub drop_byte : (x k : List ℕ) (at c : ℕ) → drop at x ≡ c ∷ k → (byte x at ≡ c) × (drop (at + 1) x ≡ k)
drop_byte x k at c e =
    let z : at + 0 ≡ at = omega arith in
    (ap (byte x) (sym z) ∙ sym (get_or-drop at x 0 256) ∙ ap (λ l. get_or l 0 256) e, sym (drop-drop 1 at x) ∙ ap (drop 1) e)

pub drop_word : (u w k : List ℕ) (at : ℕ) → drop at u ≡ w ++ k → drop (at + length w) u ≡ k
drop_word u w k at h = sym (drop-drop (length w) at u) ∙ ap (drop (length w)) h ∙ drop_at w k (length w) refl

pub drop_size : (u l : List ℕ) (at : ℕ) → drop at u ≡ l → length l ≡ length u - at
drop_size u l at h = sym (ap length h) ∙ length-drop at u

-- the byte at a place is the first of what stands there
pub byte_at : (u l : List ℕ) (at : ℕ) → drop at u ≡ l → byte u at ≡ byte l 0
byte_at u [] at h = past u at h
  where
    past : (u : List ℕ) (at : ℕ) → drop at u ≡ [] → byte u at ≡ 256
    past [] at h = refl
    past (c ∷ u) zero h = let z : ◌≡◌ {A = ℕ} 0 1 = cc in absurd (omega arith)
    past (c ∷ u) (suc at) h = past u at h
byte_at u (c ∷ l) at h = (drop_byte u l at c h).0

pub first_of : (w k : List ℕ) → is_letter (byte w 0) ≡ true → is_letter (byte (w ++ k) 0) ≡ true
first_of [] k e = absurd (false≢true e)
first_of (c ∷ w) k e = e

pub word_long : (w : List ℕ) → is_letter (byte w 0) ≡ true → 0 < length w
word_long [] e = absurd (false≢true e)
word_long (c ∷ w) e = omega arith

-- the front of a word before what is no part of it
pub front_of : (f : ℕ → Bool) (w k : List ℕ) → f 256 ≡ false → AllByRecursion (λ c. f c ≡ true) w → f (byte k 0) ≡ false → front f (w ++ k) ≡ w
unfolding front
front_of f [] [] z a s = refl
front_of f [] (c ∷ k) z a s = cond-false (f c) (c ∷ front f k) [] s
front_of f (c ∷ w) k z a s = cond-true (f c) (c ∷ front f (w ++ k)) [] a.0 ∙ ap (λ l. c ∷ l) (front_of f w k z a.1 s)

-- BYTES that are told apart

pub letter_other : (c d : ℕ) → d < 97 → is_letter c ≡ true → eqb c d ≡ false
letter_other c d l t = ne_eqb c d (λ e. let p = leb-true 97 c (and_parts (leb 97 c) (leb c 122) t).0 in omega arith)

pub top_other : (c d : ℕ) → d < 49 → is_top c ≡ true → eqb c d ≡ false
top_other c d l t = ne_eqb c d (λ e. let p = leb-true 49 c (and_parts (leb 49 c) (leb c 57) t).0 in omega arith)

-- WORDS that are told apart

same_bytes : (v w n : List ℕ) → bytes_eq v w ≡ true → bytes_eq v n ≡ bytes_eq w n
same_bytes [] [] n e = refl
same_bytes [] (d ∷ w) n e = absurd (false≢true e)
same_bytes (c ∷ v) [] n e = absurd (false≢true e)
same_bytes (c ∷ v) (d ∷ w) [] e = refl
same_bytes (c ∷ v) (d ∷ w) (b ∷ n) e =
    let p = and_parts (eqb c d) (bytes_eq v w) e in
    ap (λ a. eqb a b && bytes_eq v n) (eqb-true c d p.0) ∙ ap (λ t. eqb d b && t) (same_bytes v w n p.1)

same_member : (v w : List ℕ) (ns : List (List ℕ)) → bytes_eq v w ≡ true → member v ns ≡ member w ns
unfolding member
same_member v w [] e = refl
same_member v w (n ∷ ns) e = ap (λ t. t || member v ns) (same_bytes v w n e) ∙ ap (λ t. bytes_eq w n || t) (same_member v w ns e)

-- what is in no list is no word of it
pub other_word : (v w : List ℕ) (ns : List (List ℕ)) → member v ns ≡ false → member w ns ≡ true → bytes_eq v w ≡ false
other_word v w ns p q = go (bytes_eq v w) refl
  where
    go : (t : Bool) → bytes_eq v w ≡ t → t ≡ false
    go true e = absurd (false≢true (sym p ∙ same_member v w ns e ∙ q))
    go false e = refl
