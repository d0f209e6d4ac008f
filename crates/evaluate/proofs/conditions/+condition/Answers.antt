use Rattle.std.proofs.Common.{◌≡◌, Some, sym, refl, ap, ◌∙◌, w64, SFits, rules}
use Rattle.std.proofs.lemmas.Int.{to_z-of_z}
use Rattle.model.specs.Meaning.{related}
use Rattle.evaluate.proofs.Nodes.{then_none, then_some, cond_none, cond_relate, cond_both}
use Rattle.evaluate.proofs.conditions.+condition.Goals as goal

pub returns-in_err-r : goal.returns-in_err-r
returns-in_err-r t c = cond_none _ _ _ c.in_err-r.ensures

pub returns-in_err-left-in-Relate : goal.returns-in_err-left-in-Relate
returns-in_err-left-in-Relate t c = cond_relate _ _ _ c.in-Relate.r c.in-Relate.i c.in-Relate.j (ap Some (sym c.in-Relate.is) ∙ c.in_ok-r.ensures)
    (λ e f p q. c.from_residual-in_err-left-in-Relate.ensures ∙ then_none _ (c.in_err-left-in-Relate.ensures e p))

pub returns-in_err-right-in-Relate : goal.returns-in_err-right-in-Relate
returns-in_err-right-in-Relate t c = cond_relate _ _ _ c.in-Relate.r c.in-Relate.i c.in-Relate.j (ap Some (sym c.in-Relate.is) ∙ c.in_ok-r.ensures)
    (λ e f p q. c.from_residual-in_err-right-in-Relate.ensures ∙ then_some _ c.in_ok-left-in-Relate.left (c.in_ok-left-in-Relate.ensures e p) (then_none _ (c.in_err-right-in-Relate.ensures f q)))

pub returns-in_ok-right-in-Relate : goal.returns-in_ok-right-in-Relate
returns-in_ok-right-in-Relate t c =
    let l : SFits w64 c.in_ok-left-in-Relate.left = search rules in
    let r : SFits w64 c.in_ok-right-in-Relate.right = search rules in
    let e : c.holds.result ≡ related c.in-Relate.r c.in_ok-left-in-Relate.left c.in_ok-right-in-Relate.right = simp to_z-of_z at c.holds.ensures in
    cond_relate _ _ _ c.in-Relate.r c.in-Relate.i c.in-Relate.j (ap Some (sym c.in-Relate.is) ∙ c.in_ok-r.ensures)
    (λ a b p q. then_some _ c.in_ok-left-in-Relate.left (c.in_ok-left-in-Relate.ensures a p) (then_some _ c.in_ok-right-in-Relate.right (c.in_ok-right-in-Relate.ensures b q) (ap Some e)))

pub returns-in_err-first-in-Both : goal.returns-in_err-first-in-Both
returns-in_err-first-in-Both t c = cond_both _ _ _ c.in-Both.i c.in-Both.j (ap Some (sym c.in-Both.is) ∙ c.in_ok-r.ensures)
    (λ d e p q. c.from_residual-in_err-first-in-Both.ensures ∙ then_none _ (c.in_err-first-in-Both.ensures d p))

pub returns-then-first : goal.returns-then-first
returns-then-first t c = cond_both _ _ _ c.in-Both.i c.in-Both.j (ap Some (sym c.in-Both.is) ∙ c.in_ok-r.ensures)
    (λ d e p q. then_some _ c.in_ok-first-in-Both.first (c.in_ok-first-in-Both.ensures d p) (rw c.if-first.true (c.condition-then-first.ensures e q)))

pub returns-else-first : goal.returns-else-first
returns-else-first t c = cond_both _ _ _ c.in-Both.i c.in-Both.j (ap Some (sym c.in-Both.is) ∙ c.in_ok-r.ensures)
    (λ d e p q. then_some _ c.in_ok-first-in-Both.first (c.in_ok-first-in-Both.ensures d p) (rw c.if-first.false refl))
