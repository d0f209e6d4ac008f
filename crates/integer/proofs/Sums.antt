-- Laws of finite sums. Assumes nothing.
use Rattle.std.proofs.Common.{◌≡◌, ℕ, zero, suc, ◌<◌, ◌≤◌, false, cond, eqb, ℤ, pos, ◌+ℤ◌, ◌*ℤ◌, neg_ℤ, ◌≤ℤ◌, sym, refl, ap, ◌∙◌, ap₂, ⊎_elim, le_of_suc-le-suc, eq-or-lt_of_le, arith}
use lib.IntN.{+ℤ_idl}
use borrow.Author.Differences.{ints}
use Rattle.std.proofs.lemmas.Bool.{eq-eqb, ne_eqb}
use Rattle.integer.specs.Sums.{total}
use Rattle.integer.proofs.Ring.{mul_add}
use Rattle.integer.proofs.Order.{add_le_add}

pub total_same : (f g : ℕ → ℤ) (n : ℕ) → ((u : ℕ) → u < n → f u ≡ g u) → total f n ≡ total g n
unfolding total
total_same f g zero h = refl
total_same f g (suc n) h = ap₂ ◌+ℤ◌ (total_same f g n (λ u l. h u (omega arith))) (h n (omega arith))

pub total_le : (f g : ℕ → ℤ) (n : ℕ) → ((u : ℕ) → u < n → f u ≤ℤ g u) → total f n ≤ℤ total g n
unfolding total
total_le f g zero h = omega (arith, ints)
total_le f g (suc n) h = add_le_add _ _ _ _ (total_le f g n (λ u l. h u (omega arith))) (h n (omega arith))

pub total_zero : (n : ℕ) → total (λ _. pos 0) n ≡ pos 0
unfolding total
total_zero zero = refl
total_zero (suc n) = let ih = total_zero n in omega (arith, ints)

pub total-+ : (f g : ℕ → ℤ) (n : ℕ) → total (λ u. f u +ℤ g u) n ≡ total f n +ℤ total g n
unfolding total
total-+ f g zero = refl
total-+ f g (suc n) = let ih = total-+ f g n in omega (arith, ints)

pub total-* : (k : ℤ) (f : ℕ → ℤ) (n : ℕ) → total (λ u. k *ℤ f u) n ≡ k *ℤ total f n
unfolding total
total-* k f zero = omega (arith, ints)
total-* k f (suc n) = let ih = total-* k f n in omega (arith, ints, mul_add k (total f n) (f n))

pub total_neg : (f : ℕ → ℤ) (n : ℕ) → total (λ u. neg_ℤ (f u)) n ≡ neg_ℤ (total f n)
unfolding total
total_neg f zero = refl
total_neg f (suc n) = let ih = total_neg f n in omega (arith, ints)

-- a sum whose factors are 0 but for one, which stands beyond the last place, or at a place
pub total_beyond : (a : ℕ) (b : ℤ) (x : ℕ → ℤ) (n : ℕ) → n ≤ a → total (λ u. cond (eqb a u) b (pos 0) *ℤ x u) n ≡ pos 0
unfolding total
total_beyond a b x zero h = refl
total_beyond a b x (suc n) h =
    let ih = total_beyond a b x n (omega arith) in
    let e : eqb a n ≡ false = ne_eqb a n (omega arith) in
    rw e (omega (arith, ints))

pub total_at : (a : ℕ) (b : ℤ) (x : ℕ → ℤ) (n : ℕ) → a < n → total (λ u. cond (eqb a u) b (pos 0) *ℤ x u) n ≡ b *ℤ x a
unfolding total
total_at a b x zero h = absurd (omega arith)
total_at a b x (suc n) h =
    ⊎_elim
    (λ same. let none = total_beyond a b x n (omega arith) in let e = eq-eqb a n same in rw e (let v = ap x same in ap₂ ◌+ℤ◌ none (ap (λ z. b *ℤ z) (sym v)) ∙ +ℤ_idl (b *ℤ x a)))
    (λ l. let ih = total_at a b x n l in let e : eqb a n ≡ false = ne_eqb a n (omega arith) in rw e (omega (arith, ints)))
    (eq-or-lt_of_le (le_of_suc-le-suc h))
