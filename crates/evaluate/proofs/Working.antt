-- Sums and constraints in which nothing is worked out. Assumes nothing.
use Rattle.std.proofs.Common.{◌≡◌, ℕ, zero, suc, ◌<◌, ◌≤◌, Bool, true, false, cond, ◌&&◌, ◌||◌, ltb, List, is_some, Some, None, Option, sym, refl, ap, ◌∙◌, ⊎_elim, arith}
use Rattle.std.proofs.lemmas.Bool.{lt-ltb, le-ltb, and_cases, or_parts, ltb-false}
use Rattle.model.specs.declared.Sign.{Sign}
use Rattle.model.specs.declared.Running.{Running}
use Rattle.model.specs.Model.{Cond, Lin, amount, term, sum_over, chain, nothing, Constraint, compare, for_all, Symbols}
use Rattle.model.specs.Meaning.{Assignment, size_of, bound}
use Rattle.model.specs.Evaluation.{then, run, sign_of, worked_filter, worked_sum, worked_constraint, sum_works, constraint_works}
use Rattle.model.specs.Kept.{FilterIn}

-- a condition is there exactly if its place is
filter_some : (ws : List ℕ) (o : Option ℕ) (c : Option Cond) → FilterIn ws o c → is_some o ≡ is_some c
unfolding FilterIn
filter_some ws None None h = refl
filter_some ws None (Some c) h = absurd h
filter_some ws (Some k) None h = absurd h
filter_some ws (Some k) (Some c) h = refl

-- what goes through a set works if the set is not empty, and it has a condition or its body works
pub over_works : (ws : List ℕ) (o : Option ℕ) (c : Option Cond) (n size : ℕ) (body v : Bool) → n ≡ size → 0 < n → FilterIn ws o c → v ≡ (is_some o || body) → v ≡ (ltb 0 size && (is_some c || body))
over_works ws o c n size body v e h f w =
    w ∙ ap (λ t. t || body) (filter_some ws o c f) ∙ sym (ap (λ t. t && (is_some c || body)) (ap (ltb 0) (sym e) ∙ lt-ltb 0 n h))

pub over_empty : (c : Option Cond) (n size : ℕ) (body : Bool) → n ≡ size → n ≤ 0 → ltb 0 n ≡ (ltb 0 size && (is_some c || body))
over_empty c n size body e h = le-ltb 0 n h ∙ sym (ap (λ t. t && (is_some c || body)) (ap (ltb 0) (sym e) ∙ le-ltb 0 n h))

-- steps that change nothing
run_still : {A : Type 0} (f : ℕ → A → Option A) (a : A) → ((i : ℕ) → f i a ≡ Some a) → (n : ℕ) → run f n a ≡ Some a
unfolding run
run_still f a h zero = refl
run_still f a h (suc n) = ap (λ o. then o (f n)) (run_still f a h n) ∙ h n

run_none : {A : Type 0} (f : ℕ → A → Option A) (a : A) (n : ℕ) → n ≤ 0 → run f n a ≡ Some a
unfolding run
run_none f a zero h = refl
run_none f a (suc n) h = absurd (omega arith)

-- a condition that is not there lets all pass
no_filter : (s : Symbols) (is : List ℕ) (c : Option Cond) → is_some c ≡ false → worked_filter s is c ≡ Some true
unfolding worked_filter
no_filter s is None h = refl
no_filter s is (Some c) h = absurd (false_true h)
  where
    false_true : true ≡ false → ⊥
    false_true e = let z : ◌≡◌ {A = ℕ} 0 1 = cc in omega arith

-- a sum in which nothing is worked out adds nothing
pub idle_sum : (s : Symbols) (x : Assignment) (g : Sign) (is : List ℕ) (l : Lin) (r : Running) → sum_works s l ≡ false → worked_sum s x g is l r ≡ Some r
unfolding sum_works worked_sum
idle_sum s x g is (amount e) r h = let z : ◌≡◌ {A = ℕ} 0 1 = cc in absurd (omega arith)
idle_sum s x g is (term e k f i) r h = let z : ◌≡◌ {A = ℕ} 0 1 = cc in absurd (omega arith)
idle_sum s x g is (sum_over k c l) r e =
    ⊎_elim (λ p. run_none _ r (size_of s k) (ltb-false 0 (size_of s k) p))
    (λ p. let (q, w) = or_parts (is_some c) (sum_works s l) p in
    run_still _ r (λ i. ap (λ o. then o (λ t. cond t (worked_sum s x g (bound is i) l r) (Some r))) (no_filter s (bound is i) c q) ∙ idle_sum s x g (bound is i) l r w) (size_of s k))
    (and_cases (ltb 0 (size_of s k)) (is_some c || sum_works s l) e)
idle_sum s x g is (chain h t l) r e =
    let (p, q) = or_parts (sum_works s t) (sum_works s l) e in
    ap (λ o. then o (worked_sum s x g is l)) (idle_sum s x (sign_of g h) is t r p) ∙ idle_sum s x g is l r q
idle_sum s x g is nothing r e = refl

-- and a constraint in which nothing is worked out is met
pub idle_constraint : (s : Symbols) (x : Assignment) (is : List ℕ) (r : Constraint) → constraint_works s r ≡ false → worked_constraint s x is r ≡ Some true
unfolding constraint_works worked_constraint
idle_constraint s x is (compare c l r) h = let z : ◌≡◌ {A = ℕ} 0 1 = cc in absurd (omega arith)
idle_constraint s x is (for_all k c r) e =
    ⊎_elim (λ p. run_none _ true (size_of s k) (ltb-false 0 (size_of s k) p))
    (λ p. let (q, w) = or_parts (is_some c) (constraint_works s r) p in
    run_still _ true (λ i. ap (λ o. then o (λ t. cond t (worked_constraint s x (bound is i) r) (Some true))) (no_filter s (bound is i) c q) ∙ idle_constraint s x (bound is i) r w) (size_of s k))
    (and_cases (ltb 0 (size_of s k)) (is_some c || constraint_works s r) e)
