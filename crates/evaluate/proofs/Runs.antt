-- Steps for each of 0 up to n - 1, one after the other. Assumes nothing.
use Rattle.std.proofs.Common.{◌≡◌, ℕ, zero, suc, ◌+◌, ◌≤◌, Some, Option, sym, ap, ◌∙◌, ⊎_elim, le_of_suc-le-suc, eq-or-lt_of_le, add-one, arith}
use Rattle.model.specs.Evaluation.{then, run}

-- one step more
pub run_more : {A : Type 0} (f : ℕ → A → Option A) (i : ℕ) (a b : A) (r : Option A) → Some b ≡ run f i a → r ≡ f i b → r ≡ run f (i + 1) a
unfolding run
run_more f i a b r p q = q ∙ ap (λ o. then o (f i)) p ∙ sym (ap (λ n. run f n a) (add-one i))

-- what stays as it is, stays so
pub run_stays : {A : Type 0} (f : ℕ → A → Option A) (r : Option A) → ((n : ℕ) → then r (f n) ≡ r) → (i n : ℕ) (a : A) → i ≤ n → r ≡ run f i a → r ≡ run f n a
unfolding run
run_stays f r h zero zero a l e = e
run_stays f r h (suc i) zero a l e = absurd (omega arith)
run_stays f r h i (suc n) a l e =
    ⊎_elim (λ s. e ∙ ap (λ k. run f k a) s) (λ s. sym (h n) ∙ ap (λ o. then o (f n)) (run_stays f r h i n a (le_of_suc-le-suc s) e)) (eq-or-lt_of_le l)
