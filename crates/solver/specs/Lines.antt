-- How an outcome is told: one line. Assumes nothing.
use Rattle.std.specs.Prelude.{ℕ, Bool, cond, List, [], ◌∷◌, ◌++◌, length, drop, codes, nat_le}
use Rattle.std.specs.Fmt.{signed_decimal}
use Rattle.solver.specs.declared.Outcome.{Outcome}
use Rattle.solver.specs.declared.Outcome.TheVariants.{Best, Infeasible, TooLong}

-- The text that tells an outcome: of the best, its cost in decimal digits, with a minus
-- where it is below 0.
abbrev pub text_of : Outcome → List ℕ
text_of (Best cost) = codes "best " ++ signed_decimal cost
text_of Infeasible = codes "none"
text_of TooLong = codes "too long"

-- The line that tells it: the text and a newline.
abbrev pub line_of : Outcome → List ℕ
line_of outcome = text_of outcome ++ (10 ∷ [])

-- Whether the line fits lent bytes.
abbrev pub fits : Outcome → List ℕ → Bool
fits outcome lent = nat_le (length (line_of outcome)) (length lent)

-- What lent bytes hold once an outcome is told into them: the line, and then what
-- stood there. Where the line does not fit it is all that stood there.
abbrev pub told : Outcome → List ℕ → List ℕ
told outcome lent = cond (fits outcome lent) (line_of outcome ++ drop (length (line_of outcome)) lent) lent
