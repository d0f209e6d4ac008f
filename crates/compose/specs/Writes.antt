-- Where a node may be written, and what that takes. Assumes nothing.
use Rattle.std.specs.Prelude.{◌≡◌, ℕ, ◌+◌, ◌<◌, Bool, true, false, cond, ◌&&◌, List, length, Some, None, Option, nat_le, nat_lt, slice_index}
use Rattle.model.specs.Words.{word}
use Rattle.model.specs.declared.NumNode.{NumNode}
use Rattle.model.specs.declared.NumNode.TheVariants.{Fixed, Index, Entry, Op}
use Rattle.model.specs.declared.CondNode.{CondNode}
use Rattle.model.specs.declared.CondNode.TheVariants.{Relate, Both}
use Rattle.model.specs.declared.LinNode.{LinNode}
use Rattle.model.specs.declared.LinNode.TheVariants.{Amount, Term, Sum, Chain, Nothing}
use Rattle.model.specs.declared.ConstraintNode.{ConstraintNode}
use Rattle.model.specs.declared.ConstraintNode.TheVariants.{Compare, All}
use Rattle.compose.specs.Agree.{Agree, Behind}

-- behind the heads, with five words to look at
abbrev pub room : ℕ → ℕ → Bool
room len k = nat_le 1808 k && nat_le (k + 5) len

-- these words stand at k
abbrev pub Holds : List ℕ → ℕ → List ℕ → Type 0
Holds ws k ns = (i : ℕ) → i < length ns → word ws (k + i) ≡ slice_index ns i

-- `size` words more behind the place `free`, and no other word changed, where there is room and that may be; else nothing
pub record Appends (may : Bool) (size free : ℕ) (r : Option ℕ) (ws vs : List ℕ) : Type 0 where
  pub next : r ≡ cond (may && room (length ws) free) (Some (free + size)) None
  pub refused : r ≡ None → vs ≡ ws
  pub below : Agree 0 free ws vs
  pub behind : Behind (free + size) ws vs

-- a condition's place: 0 for none
abbrev pub filter_place : Option ℕ → ℕ
filter_place None = 0
filter_place (Some c) = c

-- a condition stands before k, and not at place 0
abbrev pub filter_before : Option ℕ → ℕ → Bool
filter_before None k = true
filter_before (Some c) k = nat_lt 0 c && nat_lt c k

-- NODES. How many words a node takes, and whether its parts stand before the place k

abbrev pub num_size : NumNode → ℕ
num_size (Fixed a) = 2
num_size (Index l) = 2
num_size (Entry t i j) = 4
num_size (Op o i j) = 3

abbrev pub num_fits : NumNode → ℕ → Bool
num_fits (Fixed a) k = true
num_fits (Index l) k = true
num_fits (Entry t i j) k = nat_lt i k && nat_lt j k
num_fits (Op o i j) k = nat_lt i k && nat_lt j k

abbrev pub cond_size : CondNode → ℕ
cond_size (Relate r i j) = 3
cond_size (Both i j) = 3

abbrev pub cond_fits : CondNode → ℕ → Bool
cond_fits (Relate r i j) k = nat_lt i k && nat_lt j k
cond_fits (Both i j) k = nat_lt i k && nat_lt j k

-- a number by itself is the number's node, and nothing is place 0: neither is written
abbrev pub lin_size : LinNode → ℕ
lin_size Amount = 0
lin_size (Term t) = 5
lin_size (Sum o) = 4
lin_size (Chain g i j) = 3
lin_size Nothing = 0

abbrev pub lin_fits : LinNode → ℕ → Bool
lin_fits Amount k = false
lin_fits (Term t) k = nat_lt t.number k && nat_lt t.row k && nat_lt t.column k
lin_fits (Sum o) k = nat_lt o.body k && filter_before o.filter k
lin_fits (Chain g i j) k = nat_lt i k && nat_lt j k
lin_fits Nothing k = false

abbrev pub constraint_size : ConstraintNode → ℕ
constraint_size (Compare c i j) = 3
constraint_size (All o) = 4

abbrev pub constraint_fits : ConstraintNode → ℕ → Bool
constraint_fits (Compare c i j) k = nat_lt i k && nat_lt j k
constraint_fits (All o) k = nat_lt o.body k && filter_before o.filter k
