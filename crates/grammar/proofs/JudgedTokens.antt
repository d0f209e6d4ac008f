-- Words, names and numerals, judged. Assumes nothing.
use Rattle.std.proofs.Common.{◌≡◌, ℕ, ◌+◌, ◌<◌, ◌≤◌, true, false, cond, ◌&&◌, eqb, ltb, leb, List, [], ◌∷◌, ◌++◌, length, get_or, take, drop, sym, refl, ap, ◌∙◌, subst, ⊎_elim, append_assoc, arith, length-append}
use Rattle.std.specs.List.{AllByRecursion}
use Rattle.std.specs.Str.{bytes_eq}
use Rattle.std.proofs.lemmas.List.{take-append-drop, length-take-le}
use Rattle.std.proofs.ByRecursion.{All-take, All-push}
use Rattle.std.proofs.lemmas.Slice.Eq.{bytes_eq-Decides}
use Rattle.std.proofs.lemmas.Bool.{and_parts, and_cases, ltb-true, ltb-false, leb-true, leb-false, or_right, or_cases, false≢true, cases_Bool}
use Rattle.grammar.specs.declared.Refusal.TheVariants.{Syntax}
use Rattle.grammar.specs.Grammar.{is_digit, is_top, is_letter, is_word, Word, member, reserved, IsWord, IsName, Numeral, nought, whole, minus, IsNumeral, numeral_text}
use Rattle.grammar.specs.Reading.{bad, byte, in_length, run_at, digits_at, word, name, numeral}
use Rattle.grammar.proofs.Places.{Span, Short, span_none, span_join, span_word, span_byte, span_this, span_front, front_is, front_all, front_head}
use Rattle.grammar.proofs.Judged.{Kind, Judged, judge_then, judge_ok, judge_stop, judge_none, judge_cond, judge_taken, judge_length}

abbrev pub Numerals : Kind
Numerals = record { Tree = Numeral; Is = IsNumeral; Sure = λ n _. IsNumeral n; text = numeral_text }

-- a word that was read may be a reserved one, and one that goes on where reading stops is a name
abbrev pub Words : Kind
Words = record { Tree = Word; Is = IsName; Sure = λ w _. IsWord w; text = λ w k. w ++ k }

abbrev pub Called : Kind
Called = record { Tree = Word; Is = IsName; Sure = λ w _. IsName w; text = λ w k. w ++ k }

top_byte : (c : ℕ) → is_top c ≡ true → c < 256
top_byte c e = omega (arith, leb-true c 57 (and_parts (leb 49 c) (leb c 57) e).1)

letter_byte : (c : ℕ) → is_letter c ≡ true → c < 256
letter_byte c e = omega (arith, leb-true c 122 (and_parts (leb 97 c) (leb c 122) e).1)

-- a digit that is not 0 and the digits behind it
span_digits : (x : List ℕ) (at : ℕ) → is_top (byte x at) ≡ true → at + 1 + length (digits_at x (at + 1)) ≤ 65536
    → Span x at (at + 1 + length (digits_at x (at + 1))) (λ k. byte x at ∷ (digits_at x (at + 1) ++ k))
span_digits x at e n = span_join (span_this x at (λ _. omega arith) (top_byte (byte x at) e)) (span_front is_digit x (at + 1) n)

pub judge_numeral : (x : List ℕ) (at : ℕ) → Judged Numerals x at (numeral x at)
unfolding numeral
judge_numeral x at =
    judge_cond (eqb (byte x at) 48)
    (λ e. judge_taken at (λ n.
    judge_cond (is_digit (byte x (at + 1))) (λ _. judge_stop Numerals (λ k. 48 ∷ k) (λ k. k) (span_byte x at 48 refl n e) nought tt (λ k. refl)) (λ _. judge_ok Numerals tt (span_byte x at 48 refl n e)))) (λ _.
    judge_cond (is_top (byte x at))
    (λ e. judge_length Numerals (whole (byte x at) (digits_at x (at + 1))) _ (λ n. judge_ok Numerals (e, front_all is_digit (drop (at + 1) x)) (span_digits x at e n))) (λ _.
    judge_cond (eqb (byte x at) 45)
    (λ m. judge_taken at (λ n.
    judge_cond (is_top (byte x (at + 1)))
    (λ e. judge_length Numerals (minus (byte x (at + 1)) (digits_at x (at + 1 + 1))) _ (λ l. judge_ok Numerals (e, front_all is_digit (drop (at + 1 + 1) x)) (span_join (span_byte x at 45 refl n m) (span_digits x (at + 1) e l))))
    (λ _. judge_stop Numerals (λ k. 45 ∷ k) (λ k. 49 ∷ k) (span_byte x at 45 refl n m) (minus 49 []) (refl, tt) (λ k. refl))))
    (λ _. judge_none Numerals x at nought tt)))

-- what holds of each word holds of one that is among them
among : (P : Word → Type 0) (w : Word) (ns : List Word) → member w ns ≡ true → AllByRecursion P ns → P w
unfolding member
among P w [] e a = absurd (false≢true e)
among P w (n ∷ ns) e a =
    ⊎_elim (λ (s : bytes_eq w n ≡ true). subst P (sym ((bytes_eq-Decides w n).0 s)) a.0) (λ (m : member w ns ≡ true). among P w ns m a.1) (or_cases (bytes_eq w n) (member w ns) e)

-- short, and a letter behind it makes a name of it
abbrev Brief : Word → Type 0
Brief n = (length n < 12) × (member (n ++ (97 ∷ [])) reserved ≡ false)

brief : AllByRecursion Brief reserved
unfolding member
brief = ((omega arith, refl), ((omega arith, refl), ((omega arith, refl), ((omega arith, refl), ((omega arith, refl), ((omega arith, refl), ((omega arith, refl), ((omega arith, refl), ((omega arith, refl), ((omega arith, refl), ((omega arith, refl), ((omega arith, refl), ((omega arith, refl), tt)))))))))))))

-- twelve letters are no reserved word
long_name : (w : Word) → length w ≡ 12 → member w reserved ≡ false
long_name w l = ⊎_elim (λ (e : member w reserved ≡ true). let s = among Brief w reserved e brief in absurd (omega arith)) (λ (e : member w reserved ≡ false). e) (cases_Bool (member w reserved))

-- a letter, and letters and digits, of any length
record Begun (w : Word) : Type 0 where
  letter : is_letter (get_or w 0 256) ≡ true
  rest : AllByRecursion (λ c. is_word c ≡ true) w

begun_take : (w : Word) → Begun w → Begun (take 12 w)
begun_take [] b = b
begun_take (c ∷ w) b = record { letter = b.letter; rest = All-take (λ c. is_word c ≡ true) 12 (c ∷ w) b.rest }

begun_push : (w : Word) → Begun w → Begun (w ++ (97 ∷ []))
begun_push [] b = absurd (false≢true b.letter)
begun_push (c ∷ w) b = record { letter = b.letter; rest = All-push (λ c. is_word c ≡ true) (c ∷ w) 97 b.rest refl }

begun_front : (x : List ℕ) (at : ℕ) → is_letter (byte x at) ≡ true → Begun (run_at x at)
begun_front x at e = record {
  letter = ap (λ l. is_letter (get_or l 0 256)) (front_head is_word x at (letter_byte (byte x at) e) (or_right (is_digit (byte x at)) (is_letter (byte x at)) e)) ∙ e;
  rest = front_all is_word (drop at x);
}

pub a_name : IsName (97 ∷ [])
unfolding member
a_name = ((refl, (refl, tt), omega arith), refl)

-- a reserved word goes on to a name
pub pushed_name : (w : Word) → IsWord w → member w reserved ≡ true → IsName (w ++ (97 ∷ []))
pushed_name w (l, r, n) e =
    let s = among Brief w reserved e brief in
    let t = begun_push w (record { letter = l; rest = r }) in
    ((t.letter, t.rest, omega (arith, length-append w (97 ∷ []))), s.1)

-- a run of letters and digits w that stands at a place before y
judge_run : (x y w : List ℕ) (at : ℕ) → drop at x ≡ w ++ y → Begun w → Judged Words x at (cond (ltb 12 (length w) && leb (at + 12) 65536) (bad (Syntax (at + 12))) (in_length w (at + length w)))
judge_run x y w at h b =
    judge_cond (ltb 12 (length w) && leb (at + 12) 65536)
    (λ l.
    let (p, q) = and_parts (ltb 12 (length w)) (leb (at + 12) 65536) l in
    let m : length (take 12 w) ≡ 12 = length-take-le 12 w (omega (arith, ltb-true 12 (length w) p)) in
    let t = begun_take w b in
    let e : drop at x ≡ take 12 w ++ (drop 12 w ++ y) = h ∙ ap (λ v. v ++ y) (sym (take-append-drop 12 w)) ∙ append_assoc (take 12 w) (drop 12 w) y in
    let n : Short at (at + length (take 12 w)) = λ _. omega (arith, leb-true (at + 12) 65536 q) in
    judge_stop Words (λ k. take 12 w ++ k) (λ k. k)
    (subst (λ (n : ℕ). Span x at (at + n) (λ k. take 12 w ++ k)) m (span_word x (drop 12 w ++ y) (take 12 w) at n e))
    (take 12 w) ((t.letter, t.rest, omega arith), long_name (take 12 w) m) (λ k. refl))
    (λ l.
    judge_length Words w (at + length w) (λ n.
    let s : length w ≤ 12 = ⊎_elim (λ (f : ltb 12 (length w) ≡ false). omega (arith, ltb-false 12 (length w) f)) (λ (f : leb (at + 12) 65536 ≡ false). omega (arith, leb-false (at + 12) 65536 f))
    (and_cases (ltb 12 (length w)) (leb (at + 12) 65536) l) in
    judge_ok Words (b.letter, b.rest, s) (span_word x y w at (λ _. n) h)))

pub judge_word : (x : List ℕ) (at : ℕ) → Judged Words x at (word x at)
unfolding word
judge_word x at =
    judge_cond (is_letter (byte x at))
    (λ e. let r = front_is is_word (drop at x) in judge_run x r.0 (run_at x at) at r.1 (begun_front x at e))
    (λ _. judge_none Words x at (97 ∷ []) a_name)

pub judge_name : (x : List ℕ) (at : ℕ) → Judged Called x at (name x at)
unfolding name
judge_name x at =
    judge_then Words Called _ (span_none x at) (judge_word x at) (λ w. w) (λ k. k) (λ w i. i) (λ w k. refl) (λ w e i s.
    judge_cond (member w reserved)
    (λ y. judge_stop Called (λ k. w ++ k) (λ k. 97 ∷ k) s (w ++ (97 ∷ [])) (pushed_name w i y) (append_assoc w (97 ∷ [])))
    (λ y. judge_ok Called (i, y) s))
