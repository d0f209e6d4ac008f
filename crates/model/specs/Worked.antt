-- Worked models: a table of models and of what is right to tell of each. Assumes nothing.
use Rattle.std.specs.Prelude.{ℕ, List, [], ◌∷◌, pos, None}
use Rattle.model.specs.declared.Comparison.TheVariants.{AtMost, AtLeast, Exactly}
use Rattle.model.specs.declared.Sign.TheVariants.{Positive}
use Rattle.model.specs.Model.{Num, fixed, index, Lin, amount, term, sum_over, chain, nothing, compare, for_all, Array, Model}
use Rattle.model.specs.Meaning.{Outcome, best, infeasible}

abbrev number_of : ℕ → Num
number_of n = fixed (pos n)

-- a sum of one term, as a text has it
abbrev single : Lin → Lin
single t = chain Positive t nothing

abbrev plain : ℕ → Lin
plain n = single (amount (number_of n))

-- so much of the only variable
abbrev alone : ℕ → Lin
alone n = single (term (number_of n) 0 (number_of 0) (number_of 0))

-- all of row or column i, by the place of each variable
abbrev line_of : Num → Num → Lin
line_of row column = single (sum_over 0 None (single (term (number_of 1) 0 row column)))

abbrev one_array : ℕ → ℕ → ℕ → Array
one_array rows columns high = record { rows = rows; columns = columns; lower = pos 0; upper = pos high }

-- x from 0 to 10, 3 x >= 7, least x
abbrev pub model_a : Model
model_a = record {
  symbols = record { sets = []; tables = []; arrays = one_array 1 1 10 ∷ [] };
  constraints = compare AtLeast (alone 3) (plain 7) ∷ [];
  objective = alone 1;
}

-- 2 by 2 from 0 to 3: each row sums to 3, each column to 2 at most
abbrev pub model_c : Model
model_c = record {
  symbols = record { sets = 2 ∷ []; tables = []; arrays = one_array 2 2 3 ∷ [] };
  constraints =
      for_all 0 None (compare Exactly (line_of (index 0) (index 1)) (plain 3))
      ∷ (for_all 0 None (compare AtMost (line_of (index 1) (index 0)) (plain 2)) ∷ []);
  objective = plain 0;
}

-- x from 0 to 9, 2 x = 5
abbrev pub model_e : Model
model_e = record {
  symbols = record { sets = []; tables = []; arrays = one_array 1 1 9 ∷ [] };
  constraints = compare Exactly (alone 2) (plain 5) ∷ [];
  objective = plain 0;
}

pub record Case : Type 0 where
  pub model : Model
  pub outcome : Outcome

abbrev pub worked_models : List Case
worked_models =
    record { model = model_a; outcome = best (λ _. pos 3) }
    ∷ (record { model = model_c; outcome = infeasible } ∷ (record { model = model_e; outcome = infeasible } ∷ []))
