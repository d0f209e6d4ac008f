use Rattle.std.proofs.Common.{◌≡◌, true, false, sym, ap, ◌∙◌, w64, SFits, rules}
use Rattle.std.proofs.lemmas.Bool.{cond-true, cond-false}
use Rattle.std.proofs.lemmas.Int.{to_z-of_z}
use Rattle.model.specs.Evaluation.{weighted, with_term, worked_sum}
use Rattle.model.specs.Kept.{assignment, symbols_in}
use Rattle.model.specs.Meaning.{present, variable}
use Rattle.evaluate.proofs.Nodes.{then_none, then_some}
use Rattle.evaluate.proofs.site.Site.add_weighted.Goals as goal

pub returns-in_err-row : goal.returns-in_err-row
unfolding worked_sum weighted
returns-in_err-row c = λ e f g m p q r. c.from_residual.ensures ∙ then_none _ (c.in_err-row.ensures f q)

pub returns-in_err-column : goal.returns-in_err-column
unfolding worked_sum weighted
returns-in_err-column c = λ e f g m p q r. c.from_residual-in_err-column.ensures ∙ then_some _ c.in_ok-row.row (c.in_ok-row.ensures f q) (then_none _ (c.in_err-column.ensures g r))

pub returns-in_default : goal.returns-in_default
unfolding worked_sum weighted
returns-in_default c = λ e f g m p q r.
    let i = c.in_ok-row.row in
    let j = c.in_ok-column.column in
    let fi : SFits w64 i = search rules in
    let fj : SFits w64 j = search rules in
    let h : false ≡ present (symbols_in c.args.self.now.words.now) c.args.t.array i j = simp to_z-of_z at c.in_default.ensures.test in
    then_some _ i (c.in_ok-row.ensures f q) (then_some _ j (c.in_ok-column.ensures g r) (sym (cond-false (present (symbols_in c.args.self.now.words.now) c.args.t.array i j) _ _ (sym h))))

pub returns-in_err-a : goal.returns-in_err-a
unfolding worked_sum weighted
returns-in_err-a c = λ e f g m p q r.
    let i = c.in_ok-row.row in
    let j = c.in_ok-column.column in
    let fi : SFits w64 i = search rules in
    let fj : SFits w64 j = search rules in
    let h : true ≡ present (symbols_in c.args.self.now.words.now) c.args.t.array i j = simp to_z-of_z at c.in-Some.ensures.test in
    c.from_residual-in_err-a.ensures ∙ then_some _ i (c.in_ok-row.ensures f q) (then_some _ j (c.in_ok-column.ensures g r) (then_none _ (c.in_err-a.ensures e p) ∙ sym (cond-true (present (symbols_in c.args.self.now.words.now) c.args.t.array i j) _ _ (sym h))))

pub returns : goal.returns
unfolding worked_sum weighted
returns c = λ e f g m p q r.
    let s = symbols_in c.args.self.now.words.now in
    let i = c.in_ok-row.row in
    let j = c.in_ok-column.column in
    let a = c.in_ok-a.a in
    let fi : SFits w64 i = search rules in
    let fj : SFits w64 j = search rules in
    let fa : SFits w64 a = search rules in
    let fv : SFits w64 c.value_of.result = search rules in
    let h : true ≡ present s c.args.t.array i j = simp to_z-of_z at c.in-Some.ensures.test in
    let u : c.in-Some.u ≡ variable s c.args.t.array i j = simp to_z-of_z at (c.in-Some.ensures.value m) in
    let v : c.add_term.result ≡ with_term c.args.sign a c.value_of.result c.args.so_far = simp to_z-of_z at c.add_term.ensures in
    then_some _ i (c.in_ok-row.ensures f q) (then_some _ j (c.in_ok-column.ensures g r) (then_some _ a (c.in_ok-a.ensures e p) (v ∙ ap (λ y. with_term c.args.sign a y c.args.so_far) (c.value_of.ensures ∙ ap (assignment c.args.self.now.values.now) u)) ∙ sym (cond-true (present s c.args.t.array i j) _ _ (sym h))))
