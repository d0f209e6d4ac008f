-- Constraints that are settled stay so, grow by one, and are kept. Assumes nothing.
use Rattle.std.proofs.Common.{◌≡◌, ℕ, suc, ◌+◌, ◌<◌, ◌≤◌, List, [], ◌∷◌, ◌++◌, length, subst, add-zero, arith}
use Rattle.model.specs.Model.{Constraint}
use Rattle.model.specs.Words.{constraint_count, constraint_place}
use Rattle.model.specs.Kept.{ConstraintIn, ConstraintsIn}
use Rattle.compose.specs.Agree.{Agree, Settled}
use Rattle.compose.specs.Constraints.{ConstraintsSettled}
use Rattle.compose.proofs.Settled.{agree_self, agree_on, agree_part}

-- by words that agree, if they have the same constraints in their heads
pub constraints_on : (n m : ℕ) (ws vs : List ℕ) (k : ℕ) (cs : List Constraint) → n ≤ m → Agree 1808 n ws vs → ((i : ℕ) → k ≤ i → i < k + length cs → constraint_place ws i ≡ constraint_place vs i)
    → ConstraintsSettled n ws k cs → ConstraintsSettled m vs k cs
constraints_on n m ws vs k [] l s h p = tt
constraints_on n m ws vs k (c ∷ cs) l s h p = (
  λ us t. subst (λ i. ConstraintIn us i c) (h k (omega arith) (omega arith)) (p.0 us (agree_on s (agree_part 1808 n (omega arith) l t))),
  constraints_on n m ws vs (suc k) cs l s (λ i a b. h i (omega arith) (omega arith)) p.1,
)

pub constraints_more : (n : ℕ) (ws : List ℕ) (k : ℕ) (cs : List Constraint) (c : Constraint) → ConstraintsSettled n ws k cs → Settled 1808 n ws (λ us. ConstraintIn us (constraint_place ws (k + length cs)) c)
    → ConstraintsSettled n ws k (cs ++ (c ∷ []))
constraints_more n ws k [] c p q = (λ us t. subst (λ i. ConstraintIn us (constraint_place ws i) c) (add-zero k) (q us t), tt)
constraints_more n ws k (d ∷ cs) c p q =
    let e : k + suc (length cs) ≡ suc k + length cs = omega arith in
    (p.0, constraints_more n ws (suc k) cs c p.1 (λ us t. subst (λ i. ConstraintIn us (constraint_place ws i) c) e (q us t)))

pub constraints_kept : (n : ℕ) (ws : List ℕ) (k : ℕ) (cs : List Constraint) → k + length cs ≡ constraint_count ws → ConstraintsSettled n ws k cs → ConstraintsIn ws k cs
unfolding ConstraintsIn
constraints_kept n ws k [] e p = omega arith
constraints_kept n ws k (c ∷ cs) e p = (omega arith, p.0 ws (agree_self 1808 n ws), constraints_kept n ws (suc k) cs (omega arith) p.1)
