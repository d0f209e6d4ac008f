-- What is claimed of texts, each a statement whose proof is owed. Assumes nothing.
use Rattle.std.specs.Prelude.{◌≡◌, ℕ, ◌<◌, List, length}
use Rattle.std.specs.List.{AllByRecursion}
use Rattle.grammar.specs.declared.Refusal.{Refusal}
use Rattle.grammar.specs.declared.Refusal.TheVariants.{Syntax}
use Rattle.grammar.specs.Grammar.{Line, EndsAt}
use Rattle.grammar.specs.Reading.{ok, bad, reading}
use Rattle.grammar.specs.Fine.{Written}

-- Reading from left to right takes just the texts that are written without a fault, and ends at a syntax fault at the first place at which no text goes on so. Bytes are below 256
pub record ReadsRight : Type 0 where
  pub taken : (x : List ℕ) (ls : List Line) (e : ℕ) → AllByRecursion (λ c. c < 256) x → reading x ≡ ok ls e → Written x ls × (e ≡ length x)
  pub anew : (x : List ℕ) (ls : List Line) → Written x ls → (e : ℕ) × (reading x ≡ ok ls e)
  pub first : (x : List ℕ) (p : ℕ) → AllByRecursion (λ c. c < 256) x → reading x ≡ bad (Syntax p) → EndsAt p x
  pub refused : (x : List ℕ) (q : Refusal) → reading x ≡ bad q → (ls : List Line) → Written x ls → ⊥
