-- What code tells of what was read. Assumes nothing.
use Rattle.std.specs.Prelude.{◌≡◌, ℕ, ◌+◌, ◌-◌, ◌<◌, ◌≤◌, List, length, take, drop, Ok, Err, Result}
use Rattle.grammar.specs.declared.Refusal.{Refusal}
use Rattle.grammar.specs.Grammar.{Word}
use Rattle.grammar.specs.Reading.{Got, ok, bad}

-- `end` is the end that a result has, and P what else it has to do with what was read
abbrev pub Told : {A R : Type 0} → (R → ℕ) → (A → R → Type 0) → Got A → Result R Refusal → Type 0
Told {A = A} end P o (Ok r) = (a : A) × (o ≡ ok a (end r)) × P a r
Told end P o (Err q) = o ≡ bad q

-- w is the part of a text from a place to another, which is further on and inside the text
abbrev pub Part : List ℕ → ℕ → Word → ℕ → Type 0
Part x at w e = (at < e) × (e ≤ length x) × (w ≡ take (e - at) (drop at x)) × (at ≤ 65536 → e ≤ 65536)

-- k fixed bytes from a place on end at e
abbrev pub Stood : List ℕ → ℕ → ℕ → ℕ → Type 0
Stood x k at e = (e ≡ at + k) × (at ≤ length x → e ≤ length x) × (at ≤ 65536 → e ≤ 65536)
