-- Laws of numbers of four bytes, whatever four bytes mean. Assumes nothing.
use Rattle.std.specs.Prelude.{◌≡◌, ℕ, ◌+◌, ◌<◌, ◌≤◌, List, length, take, drop, Some, None}
use Rattle.std.proofs.Common.{sym, ap, ◌∙◌, arith, add-zero}
use Rattle.std.proofs.lemmas.Bool.{cond-false, cond-true, le-leb, lt-leb}
use Rattle.std.proofs.lemmas.List.{get_or-drop, get_or-take, length-drop, length-take}
use Rattle.integer.specs.Fields.{four_bytes, meant_at}

alone : (bs : List ℕ) (at : ℕ) → four_bytes bs at ≡ four_bytes (take 4 (drop at bs)) 0
alone bs at =
    let first : 0 < 4 = omega arith in
    let second : 1 < 4 = omega arith in
    let third : 2 < 4 = omega arith in
    let fourth : 3 < 4 = omega arith in
    simp (get_or-take, get_or-drop, add-zero)

module _ {A : Type 0} (meaning : ℕ → A) where
  within : (bs : List ℕ) (at : ℕ) → at + 4 ≤ length bs → meant_at meaning bs at ≡ Some (meaning (four_bytes bs at))
  within bs at fits = cond-true _ _ _ (le-leb _ _ fits)

  -- the four bytes at a place mean there what they mean alone
  pub meant_alone : (bs : List ℕ) (at : ℕ) → at + 4 ≤ length bs → meant_at meaning bs at ≡ meant_at meaning (take 4 (drop at bs)) 0
  meant_alone bs at fits =
      let long : 4 ≤ length (take 4 (drop at bs)) = simp (length-take, length-drop) (omega arith) in
      within bs at fits ∙ ap (λ n. Some (meaning n)) (alone bs at) ∙ sym (within _ 0 long)

  -- nothing stands where the bytes end before
  pub meant_ends : (bs : List ℕ) (at : ℕ) → length bs < at + 4 → meant_at meaning bs at ≡ None
  meant_ends bs at short = cond-false _ _ _ (lt-leb _ _ short)
