use Rattle.std.proofs.Common.{◌≡◌, ℕ, Bool, true, List, Some, None, Option, refl, subst}
use Rattle.model.specs.Model.{Cond}
use Rattle.model.specs.Kept.{CondIn, FilterIn, symbols_in}
use Rattle.model.specs.Evaluation.{worked_condition, worked_filter}
use Rattle.evaluate.proofs.conditions.passes.Goals as goal

filtered : (ws is : List ℕ) (o : Option ℕ) (k : ℕ) (r : Option Bool) → o ≡ Some k → ((d : Cond) → CondIn ws k d → r ≡ worked_condition (symbols_in ws) is d)
    → (c : Option Cond) → FilterIn ws o c → r ≡ worked_filter (symbols_in ws) is c
unfolding FilterIn worked_filter
filtered ws is o k r e f c h = by c (subst (λ z. FilterIn ws z c) e h)
  where
    by : (c : Option Cond) → FilterIn ws (Some k) c → r ≡ worked_filter (symbols_in ws) is c
    by None h = absurd h
    by (Some d) h = f d h

unfiltered : (ws is : List ℕ) (o : Option ℕ) → o ≡ None → (c : Option Cond) → FilterIn ws o c → Some true ≡ worked_filter (symbols_in ws) is c
unfolding FilterIn worked_filter
unfiltered ws is o e c h = by c (subst (λ z. FilterIn ws z c) e h)
  where
    by : (c : Option Cond) → FilterIn ws None c → Some true ≡ worked_filter (symbols_in ws) is c
    by None h = refl
    by (Some d) h = absurd h

pub returns-in-Some : goal.returns-in-Some
returns-in-Some c = filtered c.args.words.now c.args.indexes.now c.args.filter c.in-Some.k c.condition.result c.in-Some.is c.condition.ensures

pub returns-in-None : goal.returns-in-None
returns-in-None c = unfiltered c.args.words.now c.args.indexes.now c.args.filter c.in-None.is
