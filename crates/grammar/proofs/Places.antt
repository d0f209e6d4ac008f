-- Parts of a text by their places, and what was read there. Assumes nothing.
use Rattle.std.proofs.Common.{◌≡◌, ℕ, suc, ◌+◌, ◌<◌, ◌≤◌, Bool, true, false, eqb, ltb, List, [], ◌∷◌, ◌++◌, length, drop, sym, refl, ap, ◌∙◌, subst, ⊎_elim, arith}
use Rattle.std.specs.List.{AllByRecursion}
use Rattle.std.proofs.lemmas.List.{drop_more, drop_all, get_or_past}
use Rattle.std.proofs.lemmas.Bool.{cases_lt, eqb-true, eqb-false, ltb-true, cond-true, cond_both}
use Rattle.grammar.specs.Reading.{byte, front}
use Rattle.grammar.proofs.Bytes.{drop_byte}

pub byte_drop : (x : List ℕ) (at c : ℕ) → c < 256 → byte x at ≡ c → drop at x ≡ c ∷ drop (at + 1) x
byte_drop x at c l e =
    ⊎_elim (λ (h : at < length x). drop_more x at 256 h ∙ ap (λ b. b ∷ drop (at + 1) x) e)
    (λ (h : length x ≤ at). let z : 256 ≡ c = sym (get_or_past x at 256 h) ∙ e in absurd (omega arith))
    (cases_lt at (length x))

-- the same bytes from a place up to another
abbrev pub Between : ℕ → ℕ → List ℕ → List ℕ → Type 0
Between a b x u = (i : ℕ) → a ≤ i → i < b → byte x i ≡ byte u i

between_join : (a b d : ℕ) (x u : List ℕ) → Between a b x u → Between b d x u → Between a d x u
between_join a b d x u p q i h l = ⊎_elim (λ (m : i < b). p i h m) (λ (m : b ≤ i). q i m l) (cases_lt i b)

-- from a place within the length that a text may have, to one within it
abbrev pub Short : ℕ → ℕ → Type 0
Short at e = at ≤ 65536 → e ≤ 65536

-- from a place up to another a text has what H puts before what follows
pub record Span (x : List ℕ) (at e : ℕ) (H : List ℕ → List ℕ) : Type 0 where
  pub onward : at ≤ e
  pub inside : at ≤ length x → e ≤ length x
  pub short : Short at e
  pub here : drop at x ≡ H (drop e x)
  pub there : (u k : List ℕ) → drop at u ≡ H k → Between at e x u × (drop e u ≡ k)

pub span_none : (x : List ℕ) (at : ℕ) → Span x at at (λ k. k)
span_none x at = record { onward = omega arith; inside = λ h. h; short = λ h. h; here = refl; there = λ u k e. (λ i h l. absurd (omega arith), e) }

pub span_cons : (x y : List ℕ) (at c : ℕ) → Short at (at + 1) → drop at x ≡ c ∷ y → Span x at (at + 1) (λ k. c ∷ k)
span_cons x y at c n e =
    let p = drop_byte x y at c e in
    record {
      onward = omega arith;
      inside = λ _. ⊎_elim (λ (h : at < length x). omega arith) (λ (h : length x ≤ at). let z : ◌≡◌ {A = ℕ} 0 1 = cc (drop_all at x h) in absurd (omega arith)) (cases_lt at (length x));
      short = n;
      here = e ∙ ap (λ l. c ∷ l) (sym p.1);
      there = λ u k f. let q = drop_byte u k at c f in (λ i h l. let z : i ≡ at = omega arith in ap (byte x) z ∙ p.0 ∙ sym q.0 ∙ sym (ap (byte u) z), q.1);
    }

pub span_join : {x : List ℕ} {a b d : ℕ} {H G : List ℕ → List ℕ} → Span x a b H → Span x b d G → Span x a d (λ k. H (G k))
span_join {x} {a} {b} {d} {H} {G} s t = record {
  onward = omega arith;
  inside = λ h. t.inside (s.inside h);
  short = λ h. t.short (s.short h);
  here = s.here ∙ ap H t.here;
  there = λ u k e. let p = s.there u (G k) e in let q = t.there u k p.1 in (between_join a b d x u p.0 q.0, q.1);
}

pub span_same : {x : List ℕ} {a b : ℕ} (H G : List ℕ → List ℕ) → ((k : List ℕ) → H k ≡ G k) → Span x a b G → Span x a b H
span_same {x} {a} {b} H G e s =
    record { onward = s.onward; inside = s.inside; short = s.short; here = s.here ∙ sym (e (drop b x)); there = λ u k f. s.there u k (f ∙ e k) }

pub span_word : (x y w : List ℕ) (at : ℕ) → Short at (at + length w) → drop at x ≡ w ++ y → Span x at (at + length w) (λ k. w ++ k)
span_word x y [] at n e = let z : at ≡ at + 0 = omega arith in subst (λ (n : ℕ). Span x at n (λ k. k)) z (span_none x at)
span_word x y (c ∷ w) at n e =
    let z : at + 1 + length w ≡ at + suc (length w) = omega arith in
    let m : Short at (at + 1) = λ h. let l = n h in omega arith in
    let o : Short (at + 1) (at + 1 + length w) = λ h. let l = n (omega arith) in omega arith in
    subst (λ (n : ℕ). Span x at n (λ k. c ∷ (w ++ k))) z (span_join (span_cons x (w ++ y) at c m e) (span_word x y w (at + 1) o (drop_byte x (w ++ y) at c e).1))

-- a byte that is read on
pub on_short : (at : ℕ) → eqb at 65536 ≡ false → Short at (at + 1)
on_short at e h = ⊎_elim (λ (l : at < 65536). omega arith) (λ (l : 65536 ≤ at). let z : at ≡ 65536 = omega arith in absurd (eqb-false at 65536 e z)) (cases_lt at 65536)

pub span_byte : (x : List ℕ) (at c : ℕ) → ltb c 256 ≡ true → eqb at 65536 ≡ false → eqb (byte x at) c ≡ true → Span x at (at + 1) (λ k. c ∷ k)
span_byte x at c l n e = span_cons x (drop (at + 1) x) at c (on_short at n) (byte_drop x at c (ltb-true c 256 l) (eqb-true (byte x at) c e))

-- the byte that is there, where it is one
pub span_this : (x : List ℕ) (at : ℕ) → Short at (at + 1) → byte x at < 256 → Span x at (at + 1) (λ k. byte x at ∷ k)
span_this x at n l = span_cons x (drop (at + 1) x) at (byte x at) n (byte_drop x at (byte x at) l refl)

-- a longest front
pub front_is : (f : ℕ → Bool) (l : List ℕ) → (y : List ℕ) × (l ≡ front f l ++ y)
unfolding front
front_is f [] = ([], refl)
front_is f (c ∷ l) =
    cond_both (f c) (c ∷ front f l) [] (λ (w : List ℕ). (y : List ℕ) × (c ∷ l ≡ w ++ y)) (λ _. let r = front_is f l in (r.0, ap (λ m. c ∷ m) r.1)) (λ _. (c ∷ l, refl))

pub span_front : (f : ℕ → Bool) (x : List ℕ) (at : ℕ) → at + length (front f (drop at x)) ≤ 65536 → Span x at (at + length (front f (drop at x))) (λ k. front f (drop at x) ++ k)
span_front f x at n = let r = front_is f (drop at x) in span_word x r.0 (front f (drop at x)) at (λ _. n) r.1

pub front_all : (f : ℕ → Bool) (l : List ℕ) → AllByRecursion (λ c. f c ≡ true) (front f l)
unfolding front
front_all f [] = tt
front_all f (c ∷ l) = cond_both (f c) (c ∷ front f l) [] (AllByRecursion (λ c. f c ≡ true)) (λ e. (e, front_all f l)) (λ _. tt)

pub front_head : (f : ℕ → Bool) (x : List ℕ) (at : ℕ) → byte x at < 256 → f (byte x at) ≡ true → front f (drop at x) ≡ byte x at ∷ front f (drop (at + 1) x)
unfolding front
front_head f x at l e = ap (front f) (byte_drop x at (byte x at) l refl) ∙ cond-true (f (byte x at)) (byte x at ∷ front f (drop (at + 1) x)) [] e
