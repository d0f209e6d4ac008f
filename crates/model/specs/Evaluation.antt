-- The meaning, worked out step by step: there is no result where a number on the way is 2^62 or more in size. A condition stops at its first part that fails, the number before a variable that is not there is not worked out, and what is not worked out is never too large. Assumes nothing.
use Rattle.std.specs.Prelude.{ℕ, zero, suc, Bool, true, false, cond, ◌&&◌, ◌||◌, List, [], ℤ, pos, ◌+ℤ◌, ◌*ℤ◌, is_some, Some, None, Option, int_le, nat_lt, slice_index}
use Rattle.integer.specs.Checked.{checked}
use Rattle.model.specs.declared.Comparison.{Comparison}
use Rattle.model.specs.declared.Comparison.TheVariants.{AtMost, AtLeast, Exactly}
use Rattle.model.specs.declared.Sign.{Sign}
use Rattle.model.specs.declared.Sign.TheVariants.{Positive, Negative}
use Rattle.model.specs.declared.Running.{Running}
use Rattle.model.specs.Model.{Num, fixed, index, entry, joined, Cond, relate, both, Lin, amount, term, sum_over, chain, nothing, Constraint, compare, for_all, Symbols, Model}
use Rattle.model.specs.Meaning.{Assignment, entry_of, operate, related, is_same, bound, size_of, table_of, present, variable, signed}

-- go on with a result, where there is one
abbrev pub then : {A B : Type 0} → Option A → (A → Option B) → Option B
then None f = None
then (Some a) f = f a

-- two numbers joined
abbrev pub combined : (ℤ → ℤ → ℤ) → Option ℤ → Option ℤ → Option ℤ
combined f a b = then a (λ v. then b (λ w. checked (f v w)))

unfoldable pub worked_number : Symbols → List ℕ → Num → Option ℤ
worked_number s is (fixed a) = checked a
worked_number s is (index k) = checked (pos (slice_index is k))
worked_number s is (entry t e f) = combined (entry_of (table_of s t)) (worked_number s is e) (worked_number s is f)
worked_number s is (joined o e f) = combined (operate o) (worked_number s is e) (worked_number s is f)

unfoldable pub worked_condition : Symbols → List ℕ → Cond → Option Bool
worked_condition s is (relate r e f) = then (worked_number s is e) (λ a. then (worked_number s is f) (λ b. Some (related r a b)))
worked_condition s is (both c d) = then (worked_condition s is c) (λ b. cond b (worked_condition s is d) (Some false))

unfoldable pub worked_filter : Symbols → List ℕ → Option Cond → Option Bool
worked_filter s is None = Some true
worked_filter s is (Some c) = worked_condition s is c

-- a sum is kept as two numbers: its constant, and what its terms with variables come to
abbrev pub nothing_yet : Running
nothing_yet = record { constant = pos 0; terms = pos 0 }

abbrev pub with_constant : Sign → ℤ → Running → Option Running
with_constant g a r = then (checked (r.constant +ℤ signed g a)) (λ z. Some (record { constant = z; terms = r.terms }))

abbrev pub with_term : Sign → ℤ → ℤ → Running → Option Running
with_term g a v r = then (checked (a *ℤ v)) (λ p. then (checked (r.terms +ℤ signed g p)) (λ z. Some (record { constant = r.constant; terms = z })))

-- a number times a variable of array k in a row and a column; where the variable is not there the number does not count
unfoldable pub weighted : Symbols → Assignment → Sign → ℕ → Option ℤ → Option ℤ → Option ℤ → Running → Option Running
weighted s x g k number row column r =
    then row (λ i. then column (λ j. cond (present s k i j) (then number (λ a. with_term g a (x (variable s k i j)) r)) (Some r)))

-- a term under a sign, itself with a sign before it
abbrev pub sign_of : Sign → Sign → Sign
sign_of Positive h = h
sign_of Negative Positive = Negative
sign_of Negative Negative = Positive

-- a step for each of 0 up to n - 1, as long as there are results
unfoldable pub run : {A : Type 0} → (ℕ → A → Option A) → ℕ → A → Option A
run f zero a = Some a
run f (suc n) a = then (run f n a) (f n)

abbrev pub where_so : {A : Type 0} → Option Bool → Option A → Option A → Option A
where_so b taken left = then b (λ t. cond t taken left)

-- one step of a sum over a set: only where the condition holds
abbrev pub summand : Symbols → List ℕ → Option Cond → (List ℕ → Running → Option Running) → ℕ → Running → Option Running
summand s is c body i r = where_so (worked_filter s (bound is i) c) (body (bound is i) r) (Some r)

-- one step of a constraint for all of a set, as long as it was met
abbrev pub instance : Symbols → List ℕ → Option Cond → (List ℕ → Option Bool) → ℕ → Bool → Option Bool
instance s is c body i met = cond met (where_so (worked_filter s (bound is i) c) (body (bound is i)) (Some true)) (Some false)

unfoldable pub worked_sum : Symbols → Assignment → Sign → List ℕ → Lin → Running → Option Running
worked_sum s x g is (amount e) r = then (worked_number s is e) (λ a. with_constant g a r)
worked_sum s x g is (term e k f h) r = weighted s x g k (worked_number s is e) (worked_number s is f) (worked_number s is h) r
worked_sum s x g is (sum_over k c l) r = run (summand s is c (λ js. worked_sum s x g js l)) (size_of s k) r
worked_sum s x g is (chain h t l) r = then (worked_sum s x (sign_of g h) is t r) (worked_sum s x g is l)
worked_sum s x g is nothing r = Some r

abbrev pub whole : Running → Option ℤ
whole r = checked (r.constant +ℤ r.terms)

abbrev pub compared : Comparison → ℤ → Bool
compared AtMost a = int_le a (pos 0)
compared AtLeast a = int_le (pos 0) a
compared Exactly a = is_same a (pos 0)

-- the left side less the right one
abbrev pub difference_of : Symbols → Assignment → List ℕ → Lin → Lin → Option ℤ
difference_of s x is l r = then (worked_sum s x Positive is l nothing_yet) (λ p. then (worked_sum s x Negative is r p) whole)

-- constraints for all of a set are looked at in order, up to the first that is not met
unfoldable pub worked_constraint : Symbols → Assignment → List ℕ → Constraint → Option Bool
worked_constraint s x is (compare c l r) = then (difference_of s x is l r) (λ d. Some (compared c d))
worked_constraint s x is (for_all k c r) = run (instance s is c (λ js. worked_constraint s x js r)) (size_of s k) true

-- a sum by itself
abbrev pub worked_value : Symbols → Assignment → List ℕ → Lin → Option ℤ
worked_value s x is l = then (worked_sum s x Positive is l nothing_yet) whole

abbrev pub worked_cost : Model → Assignment → Option ℤ
worked_cost m x = worked_value m.symbols x [] m.objective

-- whether anything could be worked out in it at all; where nothing could, no set is gone through
unfoldable pub sum_works : Symbols → Lin → Bool
sum_works s (amount e) = true
sum_works s (term e k f h) = true
sum_works s (sum_over k c l) = nat_lt 0 (size_of s k) && (is_some c || sum_works s l)
sum_works s (chain h t l) = sum_works s t || sum_works s l
sum_works s nothing = false

unfoldable pub constraint_works : Symbols → Constraint → Bool
constraint_works s (compare c l r) = true
constraint_works s (for_all k c r) = nat_lt 0 (size_of s k) && (is_some c || constraint_works s r)
