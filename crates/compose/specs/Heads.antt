-- What a head's words leave as it was, and how a line is kept. Assumes nothing.
use Rattle.std.specs.Prelude.{◌≡◌, ℕ, ◌<◌, ◌≤◌, cond, List, length, Some, None, Option, Ok, Err, Result, ◌≢◌, OnErr, nat_le, nat_lt}
use Rattle.compose.specs.declared.Unwritten.{Unwritten}
use Rattle.compose.specs.declared.Unwritten.TheVariants.{TooMany, NoRoom}
use Rattle.model.specs.declared.Line.{Line}
use Rattle.model.specs.declared.Line.TheVariants.{Set, Table, Variables, Objective, Constraint}
use Rattle.model.specs.Words.{word}

-- every word but the count and those from place up to end is the same
pub record Others (count place end : ℕ) (ws vs : List ℕ) : Type 0 where
  pub long : length ws ≡ length vs
  pub below : (p : ℕ) → p < place → (p ≢ count) → word ws p ≡ word vs p
  pub above : (p : ℕ) → end ≤ p → word ws p ≡ word vs p

-- head k of `most` at most: written, or why not
abbrev pub head_told : ℕ → ℕ → List ℕ → Result (Unit {0}) Unwritten
head_told k most ws = cond (nat_lt k most) (cond (nat_le 1808 (length ws)) (Ok tt) (Err NoRoom)) (Err TooMany)

-- what every head has in common; its words lie from place up to end
pub record Puts (k most count place end : ℕ) (r : Result (Unit {0}) Unwritten) (ws vs : List ℕ) : Type 0 where
  pub told : r ≡ head_told k most ws
  pub refused : OnErr r (vs ≡ ws)
  pub others : Others count place end ws vs

-- the sort of a line and its number; no line has the sort 0
abbrev pub line_sort : Option Line → ℕ
line_sort (Some (Set n)) = 1
line_sort (Some (Table n)) = 2
line_sort (Some (Variables n)) = 3
line_sort (Some Objective) = 4
line_sort (Some (Constraint n)) = 5
line_sort None = 0

abbrev pub line_number : Option Line → ℕ
line_number (Some (Set n)) = n
line_number (Some (Table n)) = n
line_number (Some (Variables n)) = n
line_number (Some Objective) = 0
line_number (Some (Constraint n)) = n
line_number None = 0
