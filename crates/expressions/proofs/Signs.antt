-- What follows a byte that may be a sign. Assumes nothing.
use Rattle.std.proofs.Common.{◌≡◌, ℕ, ◌+◌, eqb, Some, None, Option}
use Rattle.std.proofs.lemmas.Bool.{cond-true, cond-false, eq-eqb, ne_eqb}
use Rattle.grammar.specs.declared.Refusal.TheVariants.{Syntax, Range}
use Rattle.grammar.specs.Reading.{Got, ok, bad, one_byte}

abbrev pub signed_at : {A : Type 0} → ℕ → Option A → Got A
signed_at at None = bad (Syntax at)
signed_at at (Some a) = one_byte at a

pub past_end : {A : Type 0} (at : ℕ) (a : A) → at ≡ 65536 → one_byte at a ≡ bad (Range 65536)
past_end at a e = cond-true (eqb at 65536) _ _ (eq-eqb at 65536 e)

pub one_on : {A : Type 0} (at : ℕ) (a : A) → (at ≡ 65536 → ⊥) → one_byte at a ≡ ok a (at + 1)
one_on at a n = cond-false (eqb at 65536) _ _ (ne_eqb at 65536 n)
