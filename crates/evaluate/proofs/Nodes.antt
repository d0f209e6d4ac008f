-- What each node of a number and of a condition comes to, by what its parts come to. Assumes nothing.
use Rattle.std.proofs.Common.{◌≡◌, ℕ, Bool, false, cond, List, pos, ℤ, slice_index, Some, None, Option, sym, ap, ◌∙◌}
use Rattle.integer.specs.Checked.{checked}
use Rattle.model.specs.declared.Operator.{Operator}
use Rattle.model.specs.declared.Relation.{Relation}
use Rattle.model.specs.declared.NumNode.TheVariants.{Fixed, Index, Entry, Op}
use Rattle.model.specs.declared.CondNode.TheVariants.{Relate, Both}
use Rattle.model.specs.declared.LinNode.{LinNode}
use Rattle.model.specs.declared.ConstraintNode.{ConstraintNode}
use Rattle.model.specs.Evaluation.{then, combined, worked_number, worked_condition}
use Rattle.model.specs.Kept.{NumIn, CondIn, LinIn, ConstraintIn, symbols_in}
use Rattle.model.specs.Meaning.{entry_of, operate, related, table_of}
use Rattle.model.specs.Model.{Num, Cond, Lin, Constraint}
use Rattle.model.specs.Words.{num_at, cond_at, lin_at, constraint_at}
use Rattle.model.proofs.Trees.{num_fit, cond_fit, LinFit, lin_fit, ConstraintFit, constraint_fit}

-- one step after another
pub then_none : {A B : Type 0} {o : Option A} (f : A → Option B) → None ≡ o → None ≡ then o f
then_none f h = ap (λ p. then p f) h

pub then_some : {A B : Type 0} {o : Option A} {r : Option B} (f : A → Option B) (a : A) → Some a ≡ o → r ≡ f a → r ≡ then o f
then_some f a h e = e ∙ ap (λ p. then p f) h

abbrev pub worked : List ℕ → List ℕ → Num → Option ℤ
worked ws is = worked_number (symbols_in ws) is

abbrev pub holds : List ℕ → List ℕ → Cond → Option Bool
holds ws is = worked_condition (symbols_in ws) is

module _ (ws is : List ℕ) (k : ℕ) where
  pub num_none : {r : Option ℤ} → None ≡ num_at ws k → (e : Num) → NumIn ws k e → r ≡ worked ws is e
  num_none h e p = absurd (num_fit ws k h e p)

  pub num_fixed : {r : Option ℤ} (a : ℤ) → Some (Fixed a) ≡ num_at ws k → r ≡ checked a → (e : Num) → NumIn ws k e → r ≡ worked ws is e
  unfolding worked_number
  num_fixed a h v e p = v ∙ sym (ap (worked ws is) (num_fit ws k h e p))

  pub num_index : {r : Option ℤ} (l : ℕ) → Some (Index l) ≡ num_at ws k → r ≡ checked (pos (slice_index is l)) → (e : Num) → NumIn ws k e → r ≡ worked ws is e
  unfolding worked_number
  num_index l h v e p = v ∙ sym (ap (worked ws is) (num_fit ws k h e p))

  pub num_entry : {r : Option ℤ} (t i j : ℕ) → Some (Entry t i j) ≡ num_at ws k
      → ((e f : Num) → NumIn ws i e → NumIn ws j f → r ≡ combined (entry_of (table_of (symbols_in ws) t)) (worked ws is e) (worked ws is f)) → (e : Num) → NumIn ws k e → r ≡ worked ws is e
  unfolding worked_number
  num_entry t i j h v e p = let (a, b, z, q, w) = num_fit ws k h e p in v a b q w ∙ sym (ap (worked ws is) z)

  pub num_op : {r : Option ℤ} (o : Operator) (i j : ℕ) → Some (Op o i j) ≡ num_at ws k
      → ((e f : Num) → NumIn ws i e → NumIn ws j f → r ≡ combined (operate o) (worked ws is e) (worked ws is f)) → (e : Num) → NumIn ws k e → r ≡ worked ws is e
  unfolding worked_number
  num_op o i j h v e p = let (a, b, z, q, w) = num_fit ws k h e p in v a b q w ∙ sym (ap (worked ws is) z)

  pub cond_none : {r : Option Bool} → None ≡ cond_at ws k → (d : Cond) → CondIn ws k d → r ≡ holds ws is d
  cond_none h d p = absurd (cond_fit ws k h d p)

  pub cond_relate : {r : Option Bool} (o : Relation) (i j : ℕ) → Some (Relate o i j) ≡ cond_at ws k
      → ((e f : Num) → NumIn ws i e → NumIn ws j f → r ≡ then (worked ws is e) (λ a. then (worked ws is f) (λ b. Some (related o a b)))) → (d : Cond) → CondIn ws k d → r ≡ holds ws is d
  unfolding worked_condition
  cond_relate o i j h v d p = let (a, b, z, q, w) = cond_fit ws k h d p in v a b q w ∙ sym (ap (holds ws is) z)

  pub cond_both : {r : Option Bool} (i j : ℕ) → Some (Both i j) ≡ cond_at ws k
      → ((c d : Cond) → CondIn ws i c → CondIn ws j d → r ≡ then (holds ws is c) (λ b. cond b (holds ws is d) (Some false))) → (d : Cond) → CondIn ws k d → r ≡ holds ws is d
  unfolding worked_condition
  cond_both i j h v d p = let (a, b, z, q, w) = cond_fit ws k h d p in v a b q w ∙ sym (ap (holds ws is) z)

-- the trees that a node allows, once it is known which it is
pub lin_known : {n : LinNode} (ws : List ℕ) (k : ℕ) (m : LinNode) → Some n ≡ lin_at ws k → n ≡ m → (l : Lin) → LinIn ws k l → LinFit ws k (Some m) l
lin_known ws k m h e l p = lin_fit {n = Some m} ws k (ap Some (sym e) ∙ h) l p

pub constraint_known : {n : ConstraintNode} (ws : List ℕ) (k : ℕ) (m : ConstraintNode) → Some n ≡ constraint_at ws k → n ≡ m → (r : Constraint) → ConstraintIn ws k r → ConstraintFit ws (Some m) r
constraint_known ws k m h e r p = constraint_fit {n = Some m} ws k (ap Some (sym e) ∙ h) r p
