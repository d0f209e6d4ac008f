-- A buffer is known by the part of it that is in use and by what is blank behind it. Assumes nothing.
use Rattle.std.specs.Prelude.{◌≡◌, ℕ, ◌-◌, ◌≤◌, List, ◌++◌, length, replicate, reverse, take, drop}
use Rattle.std.proofs.Common.{sym, ap, ◌∙◌, ap₂, arith}
use Rattle.std.proofs.lemmas.List.{take-append-drop, length-take-le, length-reverse, reverse-reverse}

pub entries_back : {A B : Type 0} (make : List A → ℕ → B) (blank : A) (es : List A) (n : ℕ) → n ≤ 56 → length es ≡ 56 → drop n es ≡ replicate (56 - n) blank
    → make (reverse (reverse (take n es)) ++ replicate (56 - length (reverse (take n es))) blank) (length (reverse (take n es))) ≡ make es n
entries_back make blank es n few long rest =
    let many : length (reverse (take n es)) ≡ n = length-reverse (take n es) ∙ length-take-le n es (omega arith) in
    let behind = ap (λ k. replicate (56 - k) blank) many ∙ sym rest in
    ap₂ make (ap₂ ◌++◌ (reverse-reverse (take n es)) behind ∙ take-append-drop n es) many
