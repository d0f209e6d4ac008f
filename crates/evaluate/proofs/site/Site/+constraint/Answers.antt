use Rattle.std.proofs.Common.{◌≡◌, ◌+◌, true, false, Some, None, sym, refl, ap, ◌∙◌, arith}
use Rattle.model.specs.Evaluation.{run, instance, where_so, worked_constraint, worked_filter}
use Rattle.model.specs.Kept.{assignment, depth, symbols_in}
use Rattle.model.proofs.Trees.{constraint_fit}
use Rattle.model.specs.declared.ConstraintNode.TheVariants.{Compare, All}
use Rattle.evaluate.proofs.Nodes.{constraint_known}
use Rattle.evaluate.proofs.Runs.{run_more, run_stays}
use Rattle.evaluate.proofs.Working.{idle_constraint}
use Rattle.evaluate.proofs.site.Site.+constraint.Goals as goal

pub all_met-loop-i-init : goal.all_met-loop-i-init
all_met-loop-i-init t c = λ d a m p q h. unfold run in refl

pub all_met-returns-in_err-instance_met : goal.all_met-returns-in_err-instance_met
all_met-returns-in_err-instance_met t c = λ d a m p q h.
    let s = symbols_in c.args.self.now.words.now in
    let x = assignment c.args.self.now.values.now in
    let is = c.args.self.now.indexes.now in
    let i = c.loop-i.i in
    let f = instance s is d (λ js. worked_constraint s x js a) in
    let b = c.as_slice.ensures.value ∙ c.extended-all.ensures in
    let e = run_more f i true true None (c.loop-i.invariant d a m p q h) (c.in_err-instance_met.ensures d a m p q (omega arith) ∙ ap (λ js. where_so (worked_filter s js d) (worked_constraint s x js a) (Some true)) b) in
    c.from_residual.ensures ∙ run_stays f None (λ n. refl) (i + 1) c.set_size-i-end.result true (omega (arith, c.loop-i-test.true)) e ∙ ap (λ n. run f n true) c.set_size-i-end.ensures

pub all_met-returns-then-not-branch : goal.all_met-returns-then-not-branch
all_met-returns-then-not-branch t c = λ d a m p q h.
    let s = symbols_in c.args.self.now.words.now in
    let x = assignment c.args.self.now.values.now in
    let is = c.args.self.now.indexes.now in
    let i = c.loop-i.i in
    let f = instance s is d (λ js. worked_constraint s x js a) in
    let b = c.as_slice.ensures.value ∙ c.extended-all.ensures in
    let k = ap Some (sym c.if-not-branch.true) ∙ c.in_ok-instance_met.ensures d a m p q (omega arith) in
    let e = run_more f i true true (Some false) (c.loop-i.invariant d a m p q h) (k ∙ ap (λ js. where_so (worked_filter s js d) (worked_constraint s x js a) (Some true)) b) in
    run_stays f (Some false) (λ n. refl) (i + 1) c.set_size-i-end.result true (omega (arith, c.loop-i-test.true)) e ∙ ap (λ n. run f n true) c.set_size-i-end.ensures

pub all_met-loop-i-preserved : goal.all_met-loop-i-preserved
all_met-loop-i-preserved t c = λ d a m p q h.
    let s = symbols_in c.args.self.now.words.now in
    let x = assignment c.args.self.now.values.now in
    let is = c.args.self.now.indexes.now in
    let i = c.loop-i.i in
    let f = instance s is d (λ js. worked_constraint s x js a) in
    let b = c.as_slice.ensures.value ∙ c.extended-all.ensures in
    let k = ap Some (sym c.if-not-branch.false) ∙ c.in_ok-instance_met.ensures d a m p q (omega arith) in
    run_more f i true true (Some true) (c.loop-i.invariant d a m p q h) (k ∙ ap (λ js. where_so (worked_filter s js d) (worked_constraint s x js a) (Some true)) b)

pub all_met-returns : goal.all_met-returns
all_met-returns t c = λ d a m p q h.
    let s = symbols_in c.args.self.now.words.now in
    let x = assignment c.args.self.now.values.now in
    let is = c.args.self.now.indexes.now in
    let e : c.loop-i.i ≡ c.set_size-i-end.result = omega (arith, c.loop-i-test.false, c.loop-i.auto.i-end) in
    c.loop-i.invariant d a m p q h ∙ ap (λ n. run (instance s is d (λ js. worked_constraint s x js a)) n true) (e ∙ c.set_size-i-end.ensures)

pub constraint_met-returns-in-Compare : goal.constraint_met-returns-in-Compare
unfolding worked_constraint depth
constraint_met-returns-in-Compare t c = λ r m h n.
    let s = symbols_in c.args.self.now.words.now in
    let x = assignment c.args.self.now.values.now in
    let is = c.args.self.now.indexes.now in
    let (a, b, z, p, q) = constraint_known c.args.self.now.words.now c.args.k (Compare c.in-Compare.c c.in-Compare.i c.in-Compare.j) c.in_ok-c.ensures c.in-Compare.is r h in
    let w = ap depth z in
    c.compare.ensures a b m p q (omega arith) (omega arith) ∙ sym (ap (worked_constraint s x is) z)

pub constraint_met-returns-then-self-eq0 : goal.constraint_met-returns-then-self-eq0
unfolding depth
constraint_met-returns-then-self-eq0 t c = λ r m h n.
    let (d, a, z, p, q) = constraint_known c.args.self.now.words.now c.args.k (All c.in-All.over) c.in_ok-c.ensures c.in-All.is r h in
    absurd (omega (arith, ap depth z, c.if-self-eq0.true))

pub constraint_met-returns-then-not-works : goal.constraint_met-returns-then-not-works
constraint_met-returns-then-not-works t c = λ r m h n.
    let s = symbols_in c.args.self.now.words.now in
    let x = assignment c.args.self.now.values.now in
    let is = c.args.self.now.indexes.now in
    sym (idle_constraint s x is r (sym (c.works.ensures r h) ∙ c.if-not-works.true))

pub constraint_met-returns-else-not-works : goal.constraint_met-returns-else-not-works
unfolding worked_constraint depth
constraint_met-returns-else-not-works t c = λ r m h n.
    let s = symbols_in c.args.self.now.words.now in
    let x = assignment c.args.self.now.values.now in
    let is = c.args.self.now.indexes.now in
    let (d, a, z, p, q) = constraint_known c.args.self.now.words.now c.args.k (All c.in-All.over) c.in_ok-c.ensures c.in-All.is r h in
    let w = ap depth z in
    c.all_met.ensures d a m p q (omega arith) ∙ sym (ap (worked_constraint s x is) z)

pub constraint_met-returns-in_err-c : goal.constraint_met-returns-in_err-c
constraint_met-returns-in_err-c t c = λ r m h n. absurd (constraint_fit c.args.self.now.words.now c.args.k c.in_err-c.ensures r h)
