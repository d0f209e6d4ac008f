-- Heads by their words, and what a head leaves as it is. Assumes nothing.
use Rattle.std.proofs.Common.{◌≡◌, ℕ, ◌+◌, ◌*◌, ◌<◌, ◌≤◌, min, List, Some, None, Option, OnOk, Ok, Err, Result, refl, subst, inl, inr, arith}
use Rattle.std.proofs.lemmas.Bool.{lt-ltb, cases_lt}
use Rattle.model.specs.declared.Line.{Line}
use Rattle.model.specs.declared.Line.TheVariants.{Set, Table, Variables, Objective, Constraint}
use Rattle.model.specs.Words.{word, line_at, line_of}
use Rattle.compose.specs.Agree.{Agree}
use Rattle.compose.specs.Heads.{Others, line_sort, line_number}

-- a word at a place that is written in another way
pub at : (vs : List ℕ) (p q x : ℕ) → p ≡ q → word vs p ≡ x → word vs q ≡ x
at vs p q x e h = subst (λ n. word vs n ≡ x) e h

-- what follows from two facts of a head that is written
pub on_ok_both : {E P Q R : Type 0} (r : Result (Unit {0}) E) → OnOk r P → OnOk r Q → (P → Q → R) → OnOk r R
on_ok_both (Ok x) p q f = f p q
on_ok_both (Err e) p q f = tt

pub counted : (n k w : ℕ) → k < n → w ≡ k + 1 → min n w ≡ k + 1
counted n k w l e = omega arith

-- what was written as a line is read as that line
line_back : (n : Option Line) → line_of (line_sort n) (line_number n) ≡ n
line_back (Some (Set n)) = refl
line_back (Some (Table n)) = refl
line_back (Some (Variables n)) = refl
line_back (Some Objective) = refl
line_back (Some (Constraint n)) = refl
line_back None = refl

pub line_here : (vs : List ℕ) (k s m : ℕ) (n : Option Line) → k < 305 → word vs 5 ≡ k + 1 → word vs (584 + 4 * k) ≡ s → word vs (585 + 4 * k) ≡ m → s ≡ line_sort n → m ≡ line_number n → line_at vs k ≡ n
line_here vs k s m n l e p q x y =
    let c = counted 305 k (word vs 5) l e in
    simp (c, lt-ltb k (k + 1) (omega arith), p, q, x, y) (line_back n)

-- a head leaves all nodes as they are
pub nodes_stay : (ws vs : List ℕ) (count place e n : ℕ) → e ≤ 1808 → Others count place e ws vs → Agree 1808 n ws vs
nodes_stay ws vs count place e n l s = record { long = s.long; same = λ p a b. s.above p (omega arith) }

-- and every other word below
pub word_stays : (ws vs : List ℕ) (count place e p : ℕ) → Others count place e ws vs → (p ≡ count → ⊥) → (place ≤ p → e ≤ p) → word ws p ≡ word vs p
word_stays ws vs count place e p s n h = elim (cases_lt p place) [ inl l ↦ s.below p l n | inr r ↦ s.above p (h r) ]
