-- Reading looks at no byte past the one at which it stops: a text that is the same so far is read the same. The judgement, and tokens. Assumes nothing.
use Rattle.std.proofs.Common.{◌≡◌, ℕ, zero, suc, ◌+◌, ◌<◌, ◌≤◌, Bool, true, false, cond, ◌&&◌, eqb, ltb, leb, List, [], ◌∷◌, length, drop, sym, refl, ap, ◌∙◌, ap₂, ⊎_elim, suc-le-suc, arith}
use Rattle.std.proofs.lemmas.List.{get_or-drop}
use Rattle.std.proofs.lemmas.Bool.{cond-true, cond-false, cases_Bool, both_ways, ltb-true, lt-ltb, and_parts, and_from}
use Rattle.grammar.specs.declared.Refusal.TheVariants.{Syntax, Name, Range}
use Rattle.grammar.specs.Grammar.{is_digit, is_top, is_letter, is_word, Word, member, reserved, whole, minus}
use Rattle.grammar.specs.Reading.{Got, ok, bad, then, byte, taken, in_length, literal, front, run_at, digits_at, word, name, numeral, one_byte}

abbrev pub Agree : ℕ → List ℕ → List ℕ → Type 0
Agree n x u = (i : ℕ) → i < n → byte x i ≡ byte u i

abbrev Kept : {A : Type 0} → List ℕ → List ℕ → ℕ → Got A → Got A → Type 0
Kept x u at (ok a e) o = (at ≤ e) × (Agree (e + 1) x u → o ≡ ok a e)
Kept x u at (bad (Syntax p)) o = (at ≤ p) × (Agree (p + 1) x u → o ≡ bad (Syntax p))
Kept x u at (bad (Name p)) o = Unit {0}
Kept x u at (bad (Range p)) o = Unit {0}

-- o is read in x from a place on, and p in u
pub record Tracks {A : Type 0} (x u : List ℕ) (at : ℕ) (o p : Got A) : Type 0 where
  pub told : Kept x u at o p

-- THE JUDGEMENT

moved : {A : Type 0} (x u : List ℕ) (a e : ℕ) (r p q : Got A) → a ≤ e → ((n : ℕ) → e ≤ n → Agree (n + 1) x u → q ≡ p) → Kept x u e r p → Kept x u a r q
moved x u a e (ok b z) p q h s k = (omega arith, λ g. s z k.0 g ∙ k.1 g)
moved x u a e (bad (Syntax z)) p q h s k = (omega arith, λ g. s z k.0 g ∙ k.1 g)
moved x u a e (bad (Name z)) p q h s k = tt
moved x u a e (bad (Range z)) p q h s k = tt

pub track_then : {A B : Type 0} {x u : List ℕ} {at : ℕ} {o p : Got A} {g h : A → ℕ → Got B}
    → Tracks x u at o p → ((a : A) (e : ℕ) → Tracks x u e (g a e) (h a e)) → Tracks x u at (then o g) (then p h)
unfolding then
track_then {x = x} {u = u} {at = at} {o = ok a e} {p = p} {g = g} {h = h} t next = record {
  told = moved x u at e (g a e) (h a e) (then p h) t.told.0 (λ n l k. ap (λ q. then q h) (t.told.1 (λ i b. k i (omega arith)))) (next a e).told;
}
track_then {o = bad (Syntax z)} {h = h} t next = record { told = (t.told.0, λ k. ap (λ q. then q h) (t.told.1 k)) }
track_then {o = bad (Name z)} t next = record { told = tt }
track_then {o = bad (Range z)} t next = record { told = tt }

-- a test of anything but bytes
pub track_cond : {A : Type 0} {x u : List ℕ} {at : ℕ} (b : Bool) {o p q r : Got A} → Tracks x u at o q → Tracks x u at p r → Tracks x u at (cond b o p) (cond b q r)
track_cond true s t = s
track_cond false s t = t

-- the byte at the place is used
track_byte : {A : Type 0} {x u : List ℕ} {at : ℕ} {o : Got A} (P : ℕ → Got A) → Tracks x u at o (P (byte x at)) → Tracks x u at o (P (byte u at))
track_byte {x = x} {u = u} {at = at} {o = o} P t = record { told = moved x u at at o (P (byte x at)) (P (byte u at)) (omega arith) (λ n l k. ap P (sym (k at (omega arith)))) t.told }

-- a test of the byte at the place
pub track_test : {A : Type 0} {x u : List ℕ} {at : ℕ} (t : ℕ → Bool) {o p q r : Got A} → Tracks x u at o q → Tracks x u at p r → Tracks x u at (cond (t (byte x at)) o p) (cond (t (byte u at)) q r)
track_test {x = x} {at = at} t {q = q} {r = r} s z = track_byte (λ c. cond (t c) q r) (track_cond (t (byte x at)) s z)

-- one byte further on
pub track_on : {A : Type 0} {x u : List ℕ} {at : ℕ} {o p : Got A} → Tracks x u (at + 1) o p → Tracks x u at o p
track_on {x = x} {u = u} {at = at} {o = o} {p = p} t = record { told = moved x u at (at + 1) o p p (omega arith) (λ n l k. refl) t.told }

pub track_ok : {A : Type 0} {x u : List ℕ} {at : ℕ} {a : A} → Tracks x u at (ok a at) (ok a at)
track_ok = record { told = (omega arith, λ _. refl) }

pub track_stop : {A : Type 0} {x u : List ℕ} {at : ℕ} → Tracks {A = A} x u at (bad (Syntax at)) (bad (Syntax at))
track_stop = record { told = (omega arith, λ _. refl) }

pub track_name_fault : {A : Type 0} {x u : List ℕ} {at p : ℕ} {o : Got A} → Tracks x u at (bad (Name p)) o
track_name_fault = record { told = tt }

pub track_range_fault : {A : Type 0} {x u : List ℕ} {at p : ℕ} {o : Got A} → Tracks x u at (bad (Range p)) o
track_range_fault = record { told = tt }

pub track_taken : {A : Type 0} {x u : List ℕ} {at : ℕ} {o p : Got A} → Tracks x u (at + 1) o p → Tracks x u at (taken at o) (taken at p)
track_taken {at = at} t = track_cond (eqb at 65536) track_range_fault (track_on t)

pub track_one : {A : Type 0} {x u : List ℕ} {at : ℕ} (a : A) → Tracks x u at (one_byte at a) (one_byte at a)
track_one a = track_taken track_ok

pub track_literal : (x u w : List ℕ) (at : ℕ) → Tracks x u at (literal x w at) (literal u w at)
unfolding literal
track_literal x u [] at = track_ok
track_literal x u (c ∷ w) at = track_test (λ b. eqb b c) (track_taken (track_literal x u w (at + 1))) track_stop

-- FRONTS

abbrev Alike : ℕ → List ℕ → List ℕ → Type 0
Alike n l m = (i : ℕ) → i ≤ n → byte l i ≡ byte m i

front_none : (f : ℕ → Bool) (l : List ℕ) → f 256 ≡ false → f (byte l 0) ≡ false → front f l ≡ []
unfolding front
front_none f [] z e = refl
front_none f (c ∷ l) z e = cond-false (f c) (c ∷ front f l) [] e

front_some : (f : ℕ → Bool) (l : List ℕ) → f 256 ≡ false → f (byte l 0) ≡ true → front f l ≡ byte l 0 ∷ front f (drop 1 l)
unfolding front
front_some f [] z e = absurd (both_ways (f 256) z e)
front_some f (c ∷ l) z e = cond-true (f c) (c ∷ front f l) [] e

byte_next : (l : List ℕ) (i : ℕ) → byte (drop 1 l) i ≡ byte l (suc i)
byte_next [] zero = refl
byte_next [] (suc i) = refl
byte_next (c ∷ l) i = refl

alike_next : (n : ℕ) (l m : List ℕ) → Alike (suc n) l m → Alike n (drop 1 l) (drop 1 m)
alike_next n l m a i h = byte_next l i ∙ a (suc i) (suc-le-suc h) ∙ sym (byte_next m i)

front_same : (f : ℕ → Bool) → f 256 ≡ false → (n : ℕ) (l m : List ℕ) → length (front f l) ≡ n → Alike n l m → front f m ≡ front f l
front_same f z zero l m e a = ⊎_elim
    (λ (t : f (byte l 0) ≡ true). absurd (let s = ap length (front_some f l z t) in omega arith))
    (λ (t : f (byte l 0) ≡ false). front_none f m z (ap f (sym (a 0 (omega arith))) ∙ t) ∙ sym (front_none f l z t))
    (cases_Bool (f (byte l 0)))
front_same f z (suc n) l m e a = ⊎_elim
    (λ (t : f (byte l 0) ≡ true).
    let s = front_some f l z t in
    let b = a 0 (omega arith) in
    front_some f m z (ap f (sym b) ∙ t) ∙ ap₂ (λ c cs. c ∷ cs) (sym b) (front_same f z n (drop 1 l) (drop 1 m) (omega (arith, ap length s)) (alike_next n l m a)) ∙ sym s)
    (λ (t : f (byte l 0) ≡ false). absurd (let s = ap length (front_none f l z t) in omega arith))
    (cases_Bool (f (byte l 0)))

front_long : (f : ℕ → Bool) → f 256 ≡ false → (n : ℕ) (l m : List ℕ) → n < length (front f l) → Alike n l m → n < length (front f m)
front_long f z zero l m h a = ⊎_elim
    (λ (t : f (byte l 0) ≡ true). let s = ap length (front_some f m z (ap f (sym (a 0 (omega arith))) ∙ t)) in omega arith)
    (λ (t : f (byte l 0) ≡ false). absurd (let s = ap length (front_none f l z t) in omega arith))
    (cases_Bool (f (byte l 0)))
front_long f z (suc n) l m h a = ⊎_elim
    (λ (t : f (byte l 0) ≡ true).
    let s = ap length (front_some f m z (ap f (sym (a 0 (omega arith))) ∙ t)) in
    let r = ap length (front_some f l z t) in
    let q = front_long f z n (drop 1 l) (drop 1 m) (omega arith) (alike_next n l m a) in
    omega arith)
    (λ (t : f (byte l 0) ≡ false). absurd (let s = ap length (front_none f l z t) in omega arith))
    (cases_Bool (f (byte l 0)))

alike : (x u : List ℕ) (at n : ℕ) → Agree (at + n + 1) x u → Alike n (drop at x) (drop at u)
alike x u at n a i h = get_or-drop at x i 256 ∙ a (at + i) (omega arith) ∙ sym (get_or-drop at u i 256)

-- from a place on
same_front : (f : ℕ → Bool) (x u : List ℕ) (at : ℕ) → f 256 ≡ false → Agree (at + length (front f (drop at x)) + 1) x u → front f (drop at u) ≡ front f (drop at x)
same_front f x u at z a = let n = length (front f (drop at x)) in front_same f z n (drop at x) (drop at u) refl (alike x u at n a)

-- TOKENS

-- a front becomes a tree, and reading goes on behind it
abbrev fronted : {A : Type 0} → ℕ → (List ℕ → A) → List ℕ → Got A
fronted at G w = in_length (G w) (at + length w)

-- H makes an outcome of a front, in x that of a tree
track_fronted : {A : Type 0} (f : ℕ → Bool) (x u : List ℕ) (at : ℕ) → f 256 ≡ false → (H : List ℕ → Got A) (a : A) (b : Bool)
    → H (front f (drop at x)) ≡ cond b (bad (Range 65536)) (ok a (at + length (front f (drop at x))))
    → Tracks x u at (cond b (bad (Range 65536)) (ok a (at + length (front f (drop at x))))) (H (front f (drop at u)))
track_fronted f x u at z H a true e = track_range_fault
track_fronted f x u at z H a false e = record { told = (omega arith, λ g. ap H (same_front f x u at z g) ∙ e) }

-- a front that is read again
track_front : {A : Type 0} (f : ℕ → Bool) (x u : List ℕ) (at : ℕ) (G : List ℕ → A) → f 256 ≡ false → Tracks x u at (fronted at G (front f (drop at x))) (fronted at G (front f (drop at u)))
track_front f x u at G z = track_fronted f x u at z (fronted at G) (G (front f (drop at x))) (ltb 65536 (at + length (front f (drop at x)))) refl

pub track_numeral : (x u : List ℕ) (at : ℕ) → Tracks x u at (numeral x at) (numeral u at)
unfolding numeral
track_numeral x u at =
    track_test (λ b. eqb b 48) (track_taken (track_test is_digit track_stop track_ok))
    (track_test is_top (track_byte (λ d. fronted (at + 1) (whole d) (digits_at u (at + 1))) (track_on (track_front is_digit x u (at + 1) (whole (byte x at)) refl)))
    (track_test (λ b. eqb b 45)
    (track_taken
    (track_test is_top (track_byte (λ d. fronted (at + 1 + 1) (minus d) (digits_at u (at + 1 + 1))) (track_on (track_front is_digit x u (at + 1 + 1) (minus (byte x (at + 1))) refl))) track_stop))
    track_stop))

-- a run that is too long or not
abbrev cut : ℕ → Word → Got Word
cut at w = cond (ltb 12 (length w) && leb (at + 12) 65536) (bad (Syntax (at + 12))) (fronted at (λ w. w) w)

track_cut : (x u : List ℕ) (at : ℕ) (b : Bool) → (ltb 12 (length (run_at x at)) && leb (at + 12) 65536) ≡ b
    → Tracks x u at (cond b (bad (Syntax (at + 12))) (fronted at (λ w. w) (run_at x at))) (cut at (run_at u at))
track_cut x u at true e = record {
  told = (
    omega arith,
    λ a.
        let h = and_parts (ltb 12 (length (run_at x at))) (leb (at + 12) 65536) e in
        let l = front_long is_word refl 12 (drop at x) (drop at u) (ltb-true 12 (length (run_at x at)) h.0) (alike x u at 12 a) in
        cond-true (ltb 12 (length (run_at u at)) && leb (at + 12) 65536) _ _ (and_from (ltb 12 (length (run_at u at))) (leb (at + 12) 65536) (lt-ltb 12 (length (run_at u at)) l) h.1),
  );
}
track_cut x u at false e =
    track_fronted is_word x u at refl (cut at) (run_at x at) (ltb 65536 (at + length (run_at x at))) (cond-false (ltb 12 (length (run_at x at)) && leb (at + 12) 65536) (bad (Syntax (at + 12))) (fronted at (λ w. w) (run_at x at)) e)

pub track_word : (x u : List ℕ) (at : ℕ) → Tracks x u at (word x at) (word u at)
unfolding word
track_word x u at = track_test is_letter (track_cut x u at _ refl) track_stop

pub track_name : (x u : List ℕ) (at : ℕ) → Tracks x u at (name x at) (name u at)
unfolding name
track_name x u at = track_then (track_word x u at) (λ w e. track_cond (member w reserved) track_stop track_ok)
