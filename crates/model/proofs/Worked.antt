-- The outcomes of the worked models are right: one test of the whole table. Assumes nothing.
use Rattle.std.proofs.Common.{◌≡◌, Bool, true, refl}
use Rattle.std.specs.List.{list_all}
use Rattle.std.proofs.ByRecursion.{All-weaker, Decides-by_and}
use Rattle.integer.specs.Sums.{total}
use Rattle.model.specs.Meaning.{entry_of, number, holds, passes, variables, first, spread, value, cost, Right}
use Rattle.model.specs.Rows.{expanded, all_followed, all_rows, rows, terms_value}
use Rattle.model.specs.Worked.{Case, worked_models}
use Rattle.model.specs.Claims.{WorkedRight}
use Rattle.model.proofs.Exhausted.{all_below, feasible?, everywhere, decided, decided_right}

abbrev right? : Case → Bool
right? c = decided c.model c.outcome

-- the test, computed over the whole table
table_decided : list_all right? worked_models ≡ true
unfolding decided feasible? everywhere all_below variables first spread rows all_rows expanded all_followed entry_of number holds passes terms_value cost value total
table_decided = refl

pub worked_right : WorkedRight
worked_right =
    All-weaker (λ c. right? c ≡ true) (λ c. Right c.model c.outcome) (λ c. decided_right c.model c.outcome) worked_models
    ((Decides-by_and right? (λ c. right? c ≡ true) (list_all right?) (λ c. (λ p. p, λ p. p)) refl (λ _ _. refl) worked_models).0 table_decided)
