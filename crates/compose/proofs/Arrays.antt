-- The numbers of variables stay, and go on with a new array. Assumes nothing.
use Rattle.std.proofs.Common.{◌≡◌, ℕ, zero, suc, ◌+◌, ◌*◌, ◌<◌, ◌≤◌, min, List, [], ◌∷◌, ◌++◌, length, sym, refl, ap, ◌∙◌, inl, inr, arith}
use Rattle.std.proofs.lemmas.Bool.{cases_lt}
use Rattle.model.specs.Model.{Array, Symbols}
use Rattle.model.specs.Meaning.{first, variables}
use Rattle.model.specs.Words.{word, limited, array_count, array_first}
use Rattle.model.specs.Kept.{array_in, symbols_in, Numbered}
use Rattle.model.proofs.Listed.{listed_length}
use Rattle.compose.specs.Agree.{Settled}
use Rattle.compose.specs.Heads.{Others}
use Rattle.compose.specs.Tables.{TablesWithin}
use Rattle.compose.proofs.Symbols.{arrays_stay, array_added}

-- a new array at the end changes no number, and begins behind all
first_push : (xs : List Array) (a : Array) (j : ℕ) → j ≤ length xs → first (xs ++ (a ∷ [])) j ≡ first xs j
unfolding first
first_push [] a zero h = refl
first_push [] a (suc j) h = absurd (omega arith)
first_push (x ∷ xs) a zero h = refl
first_push (x ∷ xs) a (suc j) h = ap (λ n. x.rows * x.columns + n) (first_push xs a j (omega arith))

first_all : (xs : List Array) → first xs (length xs) ≡ variables xs
unfolding first variables
first_all [] = refl
first_all (x ∷ xs) = ap (λ n. x.rows * x.columns + n) (first_all xs)

-- what has no word of an array among its own keeps all numbers
pub numbered_stays : (ws vs : List ℕ) → word ws 2 ≡ word vs 2 → ((p : ℕ) → 200 ≤ p → p < 328 → word ws p ≡ word vs p) → Numbered ws → Numbered vs
numbered_stays ws vs e h n k l =
    let m : array_count ws ≡ array_count vs = ap (min 16) e in
    sym (ap (limited 16000000) (h (204 + 8 * k) (omega arith) (omega arith))) ∙ n k (omega arith) ∙ ap (λ xs. first xs k) (arrays_stay ws vs e h)

pub numbered_settled : (n : ℕ) (ws : List ℕ) → 1808 ≤ n → Numbered ws → Settled 0 n ws Numbered
numbered_settled n ws l w vs s = numbered_stays ws vs (s.same 2 (omega arith) (omega arith)) (λ p a b. s.same p (omega arith) (omega arith)) w

-- an array whose first variable comes behind those of all arrays before it
pub numbered_more : (ws vs : List ℕ) (n k : ℕ) → TablesWithin n ws → k < 16 → array_count ws ≡ k → array_count vs ≡ k + 1 → Others 2 (200 + 8 * k) (207 + 8 * k) ws vs
    → array_first vs k ≡ variables (symbols_in ws).arrays → Numbered ws → Numbered vs
numbered_more ws vs n k w l c d o f m j h =
    let xs = (symbols_in ws).arrays in
    let size : length xs ≡ k = listed_length (array_in ws) (array_count ws) ∙ c in
    let new = ap (λ (s : Symbols). s.arrays) (array_added ws vs n w k l c d o) in
    let back : first (symbols_in vs).arrays j ≡ first xs j = ap (λ ys. first ys j) new ∙ first_push xs (array_in vs k) j (omega arith) in
    elim (cases_lt j k) [
      | inl a ↦ sym (ap (limited 16000000) (o.below (204 + 8 * j) (omega arith) (λ e. omega arith))) ∙ m j (omega arith) ∙ sym back
      | inr b ↦
          let e : j ≡ k = omega arith in
          ap (array_first vs) e ∙ f ∙ sym (first_all xs) ∙ ap (first xs) (size ∙ sym e) ∙ sym back
    ]
