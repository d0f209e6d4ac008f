-- Lists by their places. Assumes nothing.
use Rattle.std.proofs.Common.{◌≡◌, ℕ, zero, suc, ◌<◌, ◌≤◌, [], ◌∷◌, length, get_or, sym, refl, ap, ◌∙◌, ⊎_elim, le_of_suc-le-suc, eq-or-lt_of_le, arith}
use Rattle.std.proofs.lemmas.List.{get_or_append_left, get_or_push, get_or_past, length-append}
use Rattle.model.specs.Kept.{listed}

pub listed_length : {A : Type 0} (f : ℕ → A) (n : ℕ) → length (listed f n) ≡ n
unfolding listed
listed_length f zero = refl
listed_length f (suc n) = let e = listed_length f n in omega (arith, length-append (listed f n) (f n ∷ []))

pub listed_at : {A : Type 0} (f : ℕ → A) (n k : ℕ) (d : A) → k < n → get_or (listed f n) k d ≡ f k
unfolding listed
listed_at f zero k d h = absurd (omega arith)
listed_at f (suc n) k d h =
    ⊎_elim (λ e. get_or_push (listed f n) (f n) d k (listed_length f n ∙ sym e) ∙ ap f (sym e))
    (λ l. get_or_append_left (listed f n) (f n ∷ []) d k (omega (arith, listed_length f n)) ∙ listed_at f n k d l)
    (eq-or-lt_of_le (le_of_suc-le-suc h))

pub listed_past : {A : Type 0} (f : ℕ → A) (n k : ℕ) (d : A) → n ≤ k → get_or (listed f n) k d ≡ d
listed_past f n k d h = get_or_past (listed f n) k d (omega (arith, listed_length f n))
