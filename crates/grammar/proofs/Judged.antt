-- What holds of each outcome of reading: what was read stands there, and a syntax fault is at a place up to which some text goes. Assumes nothing.
use Rattle.std.proofs.Common.{◌≡◌, ℕ, ◌+◌, ◌≤◌, Bool, true, false, cond, ◌&&◌, eqb, ltb, List, [], ◌∷◌, ◌++◌, refl, ap, ◌∙◌}
use Rattle.std.proofs.lemmas.Bool.{and_parts, ltb-false}
use Rattle.grammar.specs.declared.Refusal.TheVariants.{Syntax, Name, Range}
use Rattle.grammar.specs.Reading.{Got, ok, bad, then, byte, taken, in_length, literal, one_byte}
use Rattle.grammar.proofs.Places.{Span, span_none, span_join, span_same, span_byte}

-- a kind of trees and how they are written: which a text may have, and what is sure of one that was read and ended at a place
pub record Kind : Type 1 where
  pub Tree : Type 0
  pub Is : Tree → Type 0
  pub Sure : Tree → ℕ → Type 0
  pub text : Tree → List ℕ → List ℕ

-- the bytes from one place to another begin some tree of the kind
pub record Viable (S : Kind) (x : List ℕ) (at p : ℕ) : Type 0 where
  pub tree : S.Tree
  pub good : S.Is tree
  pub head : List ℕ → List ℕ
  pub tail : List ℕ → List ℕ
  pub span : Span x at p head
  pub same : (k : List ℕ) → S.text tree k ≡ head (tail k)

abbrev Fits : (S : Kind) → List ℕ → ℕ → Got S.Tree → Type 0
Fits S x at (ok t e) = S.Sure t e × Span x at e (S.text t)
Fits S x at (bad (Syntax p)) = Viable S x at p
Fits S x at (bad (Name p)) = Unit {0}
Fits S x at (bad (Range p)) = Unit {0}

-- in a record, so that the outcome is read off a goal
pub record Judged (S : Kind) (x : List ℕ) (at : ℕ) (o : Got S.Tree) : Type 0 where
  pub told : Fits S x at o

-- a part is read, and then what follows it; where the part stops, T and D finish the whole
pub judge_then : (A S : Kind) {x : List ℕ} {a m : ℕ} {C : List ℕ → List ℕ} {o : Got A.Tree} (g : A.Tree → ℕ → Got S.Tree)
    → Span x a m C → Judged A x m o → (T : A.Tree → S.Tree) (D : List ℕ → List ℕ) → ((t : A.Tree) → A.Is t → S.Is (T t))
    → ((t : A.Tree) (k : List ℕ) → S.text (T t) k ≡ C (A.text t (D k)))
    → ((t : A.Tree) (e : ℕ) → A.Sure t e → Span x a e (λ k. C (A.text t k)) → Judged S x a (g t e)) → Judged S x a (then o g)
unfolding then
judge_then A S {o = ok t e} g c j T D i w next = next t e j.told.0 (span_join c j.told.1)
judge_then A S {C = C} {o = bad (Syntax p)} g c j T D i w next =
    let v = j.told in
    record {
      told = record {
        tree = T v.tree;
        good = i v.tree v.good;
        head = λ k. C (v.head k);
        tail = λ k. v.tail (D k);
        span = span_join c v.span;
        same = λ k. w v.tree k ∙ ap C (v.same (D k));
      };
    }
judge_then A S {o = bad (Name p)} g c j T D i w next = record { told = tt }
judge_then A S {o = bad (Range p)} g c j T D i w next = record { told = tt }

-- what was read
pub judge_ok : (S : Kind) {x : List ℕ} {at e : ℕ} {t : S.Tree} → S.Sure t e → Span x at e (S.text t) → Judged S x at (ok t e)
judge_ok S y s = record { told = (y, s) }

-- a fault of another sort
pub judge_name_fault : {S : Kind} {x : List ℕ} {at p : ℕ} → Judged S x at (bad (Name p))
judge_name_fault = record { told = tt }

pub judge_range_fault : {S : Kind} {x : List ℕ} {at p : ℕ} → Judged S x at (bad (Range p))
judge_range_fault = record { told = tt }

-- the last part
pub judge_last : (A S : Kind) {x : List ℕ} {a m : ℕ} {C : List ℕ → List ℕ} {o : Got A.Tree} → Span x a m C → Judged A x m o
    → (T : A.Tree → S.Tree) → ((t : A.Tree) → A.Is t → S.Is (T t)) → ((t : A.Tree) (e : ℕ) → A.Sure t e → S.Sure (T t) e) → ((t : A.Tree) (k : List ℕ) → S.text (T t) k ≡ C (A.text t k))
    → Judged S x a (then o (λ t e. ok (T t) e))
judge_last A S {C = C} {o = o} c j T i y w = judge_then A S (λ t e. ok (T t) e) c j T (λ k. k) i w (λ t e z s. judge_ok S (y t e z) (span_same (S.text (T t)) (λ k. C (A.text t k)) (w t) s))

-- a fault after some of a tree
pub judge_stop : (S : Kind) {x : List ℕ} {at p : ℕ} (head tail : List ℕ → List ℕ) → Span x at p head → (t : S.Tree) → S.Is t → ((k : List ℕ) → S.text t k ≡ head (tail k)) → Judged S x at (bad (Syntax p))
judge_stop S head tail s t i e = record { told = record { tree = t; good = i; head = head; tail = tail; span = s; same = e } }

-- nothing of it is there
pub judge_none : (S : Kind) (x : List ℕ) (at : ℕ) (t : S.Tree) → S.Is t → Judged S x at (bad (Syntax at))
judge_none S x at t i = judge_stop S (λ k. k) (S.text t) (span_none x at) t i (λ k. refl)

pub judge_cond : {S : Kind} {x : List ℕ} {at : ℕ} (b : Bool) {o p : Got S.Tree} → (b ≡ true → Judged S x at o) → (b ≡ false → Judged S x at p) → Judged S x at (cond b o p)
judge_cond true f g = f refl
judge_cond false f g = g refl

-- a byte that is read on
pub judge_taken : {S : Kind} {x : List ℕ} {at : ℕ} (m : ℕ) {o : Got S.Tree} → (eqb m 65536 ≡ false → Judged S x at o) → Judged S x at (taken m o)
judge_taken m f = judge_cond (eqb m 65536) (λ _. judge_range_fault) f

pub judge_length : (S : Kind) {x : List ℕ} {at : ℕ} (t : S.Tree) (e : ℕ) → (e ≤ 65536 → Judged S x at (ok t e)) → Judged S x at (in_length t e)
judge_length S t e f = judge_cond (ltb 65536 e) (λ _. judge_range_fault) (λ n. f (ltb-false 65536 e n))

-- one byte, which is known
pub judge_byte : (S : Kind) (x : List ℕ) (at c : ℕ) (t : S.Tree) → ltb c 256 ≡ true → ((e : ℕ) → S.Sure t e) → ((k : List ℕ) → S.text t k ≡ c ∷ k) → eqb (byte x at) c ≡ true → Judged S x at (one_byte at t)
judge_byte S x at c t l y w b = judge_taken at (λ n. judge_ok S (y (at + 1)) (span_same (S.text t) (λ k. c ∷ k) w (span_byte x at c l n b)))

-- more is sure of what was read
pub judge_more : (A : Kind) (Q : A.Tree → ℕ → Type 0) {x : List ℕ} {at : ℕ} (o : Got A.Tree) → ((t : A.Tree) (e : ℕ) → A.Sure t e → Span x at e (A.text t) → Q t e) → Judged A x at o
    → Judged (record { Tree = A.Tree; Is = A.Is; Sure = Q; text = A.text }) x at o
judge_more A Q (ok t e) f j = record { told = (f t e j.told.0 j.told.1, j.told.1) }
judge_more A Q (bad (Syntax p)) f j = let v = j.told in record { told = record { tree = v.tree; good = v.good; head = v.head; tail = v.tail; span = v.span; same = v.same } }
judge_more A Q (bad (Name p)) f j = record { told = tt }
judge_more A Q (bad (Range p)) f j = record { told = tt }

-- bytes as they stand
abbrev pub Lit : List ℕ → Kind
Lit w = record { Tree = Unit {0}; Is = λ _. Unit {0}; Sure = λ _ _. Unit {0}; text = λ _ k. w ++ k }

abbrev pub bytes : List ℕ → Bool
bytes [] = true
bytes (c ∷ w) = ltb c 256 && bytes w

pub judge_literal : (x w : List ℕ) (at : ℕ) → bytes w ≡ true → Judged (Lit w) x at (literal x w at)
unfolding literal
judge_literal x [] at b = judge_ok (Lit []) tt (span_none x at)
judge_literal x (c ∷ w) at b =
    let l = and_parts (ltb c 256) (bytes w) b in
    judge_cond (eqb (byte x at) c) (λ e. judge_taken at (λ n. later (literal x w (at + 1)) (span_byte x at c l.0 n e) (judge_literal x w (at + 1) l.1))) (λ _. judge_none (Lit (c ∷ w)) x at tt tt)
  where
    later : (o : Got (Unit {0})) → Span x at (at + 1) (λ k. c ∷ k) → Judged (Lit w) x (at + 1) o → Judged (Lit (c ∷ w)) x at o
    later (ok t e) s j = judge_ok (Lit (c ∷ w)) tt (span_join s j.told.1)
    later (bad (Syntax p)) s j = let v = j.told in judge_stop (Lit (c ∷ w)) (λ k. c ∷ v.head k) v.tail (span_join s v.span) tt tt (λ k. ap (λ l. c ∷ l) (v.same k))
    later (bad (Name p)) s j = record { told = tt }
    later (bad (Range p)) s j = record { told = tt }
