-- Passing: what is written is read as it, or stops at a fault of names or ranges that it has. Assumes nothing.
use Rattle.std.proofs.Common.{◌≡◌, ℕ, ◌+◌, ◌<◌, ◌≤◌, Bool, true, false, cond, eqb, ltb, List, ◌∷◌, ◌++◌, length, drop, sym, refl, ap, ◌∙◌, subst, arith, length-append}
use Rattle.std.proofs.lemmas.Bool.{both_ways, false≢true, ne_eqb, le-ltb}
use Rattle.grammar.specs.declared.Refusal.TheVariants.{Syntax, Name, Range}
use Rattle.grammar.specs.Reading.{Got, ok, bad, then, byte, taken, in_length, one_byte}
use Rattle.grammar.proofs.Bytes.{byte_at, drop_byte, drop_size, drop_word}

abbrev Went : {A : Type 0} → Type 0 → List ℕ → List ℕ → A → Got A → Type 0
Went F u k a (ok b e) = (b ≡ a) × (drop e u ≡ k)
Went F u k a (bad (Syntax p)) = ⊥
Went F u k a (bad (Name p)) = F → ⊥
Went F u k a (bad (Range p)) = F → ⊥

-- a was written in u, and k follows it; F says that there is no fault of names or ranges
pub record Passes {A : Type 0} (F : Type 0) (u k : List ℕ) (a : A) (o : Got A) : Type 0 where
  pub told : Went F u k a o

pub pass_ok : {A F : Type 0} {u k : List ℕ} {e : ℕ} {a : A} → drop e u ≡ k → Passes F u k a (ok a e)
pass_ok h = record { told = (refl, h) }

pub pass_then : {A B F : Type 0} {u k j : List ℕ} {a : A} {b : B} {o : Got A} (g : A → ℕ → Got B)
    → Passes F u k a o → ((e : ℕ) → drop e u ≡ k → Passes F u j b (g a e)) → Passes F u j b (then o g)
unfolding then
pass_then {F = F} {u = u} {j = j} {b = b} {o = ok c e} g t next = subst (λ c. Passes F u j b (g c e)) (sym t.told.0) (next e t.told.1)
pass_then {o = bad (Syntax p)} g t next = absurd t.told
pass_then {o = bad (Name p)} g t next = record { told = t.told }
pass_then {o = bad (Range p)} g t next = record { told = t.told }

-- TESTS

pub pass_true : {A F : Type 0} {u k : List ℕ} {a : A} (b : Bool) {o : Got A} (p : Got A) → b ≡ true → Passes F u k a o → Passes F u k a (cond b o p)
pass_true true p e t = t
pass_true false p e t = absurd (false≢true e)

pub pass_false : {A F : Type 0} {u k : List ℕ} {a : A} (b : Bool) {p : Got A} (o : Got A) → b ≡ false → Passes F u k a p → Passes F u k a (cond b o p)
pass_false true o e t = absurd (false≢true (sym e))
pass_false false o e t = t

-- of the byte at a place, by what stands there
pub pass_see : {A F : Type 0} {u k : List ℕ} {a : A} (f : ℕ → Bool) (l : List ℕ) (at : ℕ) {o : Got A} (p : Got A) → drop at u ≡ l → f (byte l 0) ≡ true → Passes F u k a o → Passes F u k a (cond (f (byte u at)) o p)
pass_see {u = u} f l at p h e t = pass_true (f (byte u at)) p (ap f (byte_at u l at h) ∙ e) t

pub pass_skip : {A F : Type 0} {u k : List ℕ} {a : A} (f : ℕ → Bool) (l : List ℕ) (at : ℕ) {p : Got A} (o : Got A) → drop at u ≡ l → f (byte l 0) ≡ false → Passes F u k a p → Passes F u k a (cond (f (byte u at)) o p)
pass_skip {u = u} f l at o h e t = pass_false (f (byte u at)) o (ap f (byte_at u l at h) ∙ e) t

pub pass_test : {A F : Type 0} {u k : List ℕ} {a : A} (b : Bool) {o p : Got A} → (b ≡ true → Passes F u k a o) → (b ≡ false → Passes F u k a p) → Passes F u k a (cond b o p)
pass_test true s t = s refl
pass_test false s t = t refl

-- FAULTS that are not there

pub no_name : {A F : Type 0} {u k : List ℕ} {p : ℕ} {a : A} → (F → ⊥) → Passes F u k a (bad (Name p))
no_name h = record { told = h }

pub no_range : {A F : Type 0} {u k : List ℕ} {p : ℕ} {a : A} → (F → ⊥) → Passes F u k a (bad (Range p))
no_range h = record { told = h }

-- a test that F has, for a name and for a range
pub pass_name_test : {A F : Type 0} {u k : List ℕ} {a : A} (b : Bool) (p : ℕ) {o : Got A} → (F → b ≡ true) → Passes F u k a o → Passes F u k a (cond b o (bad (Name p)))
pass_name_test b p f t = pass_test b (λ _. t) (λ z. no_name (λ y. both_ways b z (f y)))

pub pass_range_test : {A F : Type 0} {u k : List ℕ} {a : A} (b : Bool) (p : ℕ) {o : Got A} → (F → b ≡ true) → Passes F u k a o → Passes F u k a (cond b o (bad (Range p)))
pass_range_test b p f t = pass_test b (λ _. t) (λ z. no_range (λ y. both_ways b z (f y)))

-- one that F has not
pub pass_range_not : {A F : Type 0} {u k : List ℕ} {a : A} (b : Bool) (p : ℕ) {o : Got A} → (F → b ≡ false) → Passes F u k a o → Passes F u k a (cond b (bad (Range p)) o)
pass_range_not b p f t = pass_test b (λ z. no_range (λ y. both_ways b (f y) z)) (λ _. t)

-- THE TEXT'S LENGTH, of which F says that it is not too much

pub pass_taken : {A F : Type 0} (u k : List ℕ) (at c : ℕ) {j : List ℕ} {a : A} {o : Got A} → (F → length u ≤ 65536) → drop at u ≡ c ∷ k → Passes F u j a o → Passes F u j a (taken at o)
pass_taken u k at c short h t = pass_range_not (eqb at 65536) _ (λ y. let s = short y in let d = drop_size u (c ∷ k) at h in ne_eqb at 65536 (λ e. omega arith)) t

pub pass_one : {A F : Type 0} (u k : List ℕ) (at c : ℕ) {a : A} → (F → length u ≤ 65536) → drop at u ≡ c ∷ k → Passes F u k a (one_byte at a)
pass_one u k at c short h = pass_taken u k at c short h (pass_ok (drop_byte u k at c h).1)

-- w begins at a place and its end is told
pub pass_in_length : {A F : Type 0} (u w k : List ℕ) (at : ℕ) {a : A} → (F → length u ≤ 65536) → 0 < length w → drop at u ≡ w ++ k → Passes F u k a (in_length a (at + length w))
pass_in_length u w k at short l h =
    pass_range_not (ltb 65536 (at + length w)) _ (λ y. let s = short y in let d = drop_size u (w ++ k) at h in let p = length-append w k in le-ltb 65536 (at + length w) (omega arith)) (pass_ok (drop_word u w k at h))
