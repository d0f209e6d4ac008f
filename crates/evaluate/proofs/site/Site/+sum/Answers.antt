use Rattle.std.proofs.Common.{◌≡◌, ◌+◌, Some, None, sym, refl, ap, ◌∙◌, arith}
use Rattle.model.specs.Evaluation.{then, run, sign_of, summand, where_so, worked_filter, worked_sum}
use Rattle.model.specs.Kept.{assignment, sum_depth, symbols_in}
use Rattle.model.specs.Model.{sum_over}
use Rattle.model.specs.declared.LinNode.TheVariants.{Amount, Term, Sum, Chain, Nothing}
use Rattle.model.proofs.Trees.{chain_below, lin_fit}
use Rattle.evaluate.proofs.Nodes.{then_none, lin_known}
use Rattle.evaluate.proofs.Runs.{run_more, run_stays}
use Rattle.evaluate.proofs.Working.{idle_sum}
use Rattle.evaluate.proofs.site.Site.+sum.Goals as goal

pub add_over-returns-then-not-over_works : goal.add_over-returns-then-not-over_works
unfolding worked_sum
add_over-returns-then-not-over_works t c = λ d l m p q h.
    let s = symbols_in c.args.self.now.words.now in
    let x = assignment c.args.self.now.values.now in
    let is = c.args.self.now.indexes.now in
    let g = c.args.sign in
    sym (idle_sum s x g is (sum_over c.args.over.set d l) c.args.so_far (sym (c.over_works.ensures d l p q) ∙ c.if-not-over_works.true))

pub add_over-loop-i-init : goal.add_over-loop-i-init
add_over-loop-i-init t c = λ d l m p q h. unfold run in refl

pub add_over-returns-in_err-running : goal.add_over-returns-in_err-running
add_over-returns-in_err-running t c = λ d l m p q h.
    let s = symbols_in c.args.self.now.words.now in
    let x = assignment c.args.self.now.values.now in
    let is = c.args.self.now.indexes.now in
    let g = c.args.sign in
    let r = c.args.so_far in
    let i = c.loop-i.i in
    let z = c.loop-i.running in
    let f = summand s is d (λ js. worked_sum s x g js l) in
    let b = c.as_slice.ensures.value ∙ c.extended-all.ensures in
    let e = run_more f i r z None (c.loop-i.invariant d l m p q h) (c.in_err-running.ensures d l m p q (omega arith) ∙ ap (λ js. where_so (worked_filter s js d) (worked_sum s x g js l z) (Some z)) b) in
    c.from_residual.ensures ∙ run_stays f None (λ n. refl) (i + 1) c.set_size-i-end.result r (omega (arith, c.loop-i-test.true)) e ∙ ap (λ n. run f n r) c.set_size-i-end.ensures

pub add_over-loop-i-preserved : goal.add_over-loop-i-preserved
add_over-loop-i-preserved t c = λ d l m p q h.
    let s = symbols_in c.args.self.now.words.now in
    let x = assignment c.args.self.now.values.now in
    let is = c.args.self.now.indexes.now in
    let g = c.args.sign in
    let r = c.args.so_far in
    let i = c.loop-i.i in
    let z = c.loop-i.running in
    let f = summand s is d (λ js. worked_sum s x g js l) in
    let b = c.as_slice.ensures.value ∙ c.extended-all.ensures in
    run_more f i r z (Some c.in_ok-running.running) (c.loop-i.invariant d l m p q h) (c.in_ok-running.ensures d l m p q (omega arith) ∙ ap (λ js. where_so (worked_filter s js d) (worked_sum s x g js l z) (Some z)) b)

pub add_over-returns : goal.add_over-returns
add_over-returns t c = λ d l m p q h.
    let s = symbols_in c.args.self.now.words.now in
    let x = assignment c.args.self.now.values.now in
    let is = c.args.self.now.indexes.now in
    let g = c.args.sign in
    let r = c.args.so_far in
    let e : c.loop-i.i ≡ c.set_size-i-end.result = omega (arith, c.loop-i-test.false, c.loop-i.auto.i-end) in
    c.loop-i.invariant d l m p q h ∙ ap (λ n. run (summand s is d (λ js. worked_sum s x g js l)) n r) (e ∙ c.set_size-i-end.ensures)

pub add_sum-returns-in_err-running-in-Chain : goal.add_sum-returns-in_err-running-in-Chain
unfolding worked_sum sum_depth
add_sum-returns-in_err-running-in-Chain t c = λ l m h d.
    let s = symbols_in c.args.self.now.words.now in
    let x = assignment c.args.self.now.values.now in
    let is = c.args.self.now.indexes.now in
    let g = c.args.sign in
    let r = c.chain.running in
    let (b, i, n, e) = c.chain.invariant.1 l m h d in
    let (y, w, z, p, q) = lin_known c.args.self.now.words.now c.chain.at (Chain c.in-Chain.inner c.in-Chain.t c.in-Chain.rest) c.in_ok-inner.ensures c.in-Chain.is b i in
    let k = ap sum_depth z in
    let f : None ≡ worked_sum s x (sign_of g c.in-Chain.inner) is y r = c.in_err-running-in-Chain.ensures y m p (omega arith) ∙ ap (λ u. worked_sum s x u is y r) c.sign_under.ensures in
    c.from_residual-in_err-running-in-Chain.ensures ∙ then_none (worked_sum s x g is w) f ∙ sym (ap (λ v. worked_sum s x g is v r) z) ∙ e

pub add_sum-chain-preserved : goal.add_sum-chain-preserved
unfolding worked_sum sum_depth
add_sum-chain-preserved t c =
    let f = chain_below c.args.self.now.words.now c.chain.at c.in-Chain.inner c.in-Chain.t c.in-Chain.rest (ap Some (sym c.in-Chain.is) ∙ c.in_ok-inner.ensures) in (
      omega (arith, f, c.chain.invariant.0),
      λ l m h d.
          let s = symbols_in c.args.self.now.words.now in
          let x = assignment c.args.self.now.values.now in
          let is = c.args.self.now.indexes.now in
          let g = c.args.sign in
          let r = c.chain.running in
          let (b, i, n, e) = c.chain.invariant.1 l m h d in
          let (y, w, z, p, q) = lin_known c.args.self.now.words.now c.chain.at (Chain c.in-Chain.inner c.in-Chain.t c.in-Chain.rest) c.in_ok-inner.ensures c.in-Chain.is b i in
          let k = ap sum_depth z in (
            w,
            q,
            omega arith,
            ap (λ o. then o (worked_sum s x g is w)) (c.in_ok-running-in-Chain.ensures y m p (omega arith) ∙ ap (λ u. worked_sum s x u is y r) c.sign_under.ensures) ∙ sym (ap (λ v. worked_sum s x g is v r) z) ∙ e,
          ),
    )

pub add_sum-returns-in-Nothing : goal.add_sum-returns-in-Nothing
unfolding worked_sum
add_sum-returns-in-Nothing t c = λ l m h d.
    let s = symbols_in c.args.self.now.words.now in
    let x = assignment c.args.self.now.values.now in
    let is = c.args.self.now.indexes.now in
    let g = c.args.sign in
    let r = c.chain.running in
    let (b, i, n, e) = c.chain.invariant.1 l m h d in
    sym (ap (λ v. worked_sum s x g is v r) (lin_known c.args.self.now.words.now c.chain.at Nothing c.in_ok-inner.ensures c.in-Nothing.is b i)) ∙ e

pub add_sum-returns-in-Amount : goal.add_sum-returns-in-Amount
unfolding worked_sum
add_sum-returns-in-Amount t c = λ l m h d.
    let s = symbols_in c.args.self.now.words.now in
    let x = assignment c.args.self.now.values.now in
    let is = c.args.self.now.indexes.now in
    let g = c.args.sign in
    let r = c.chain.running in
    let (b, i, n, e) = c.chain.invariant.1 l m h d in
    let (y, z, q) = lin_known c.args.self.now.words.now c.chain.at Amount c.in_ok-inner.ensures c.in-Amount.is b i in
    c.add_amount.ensures y q ∙ sym (ap (λ v. worked_sum s x g is v r) z) ∙ e

pub add_sum-returns-in-Term : goal.add_sum-returns-in-Term
add_sum-returns-in-Term t c = λ l m h d.
    let s = symbols_in c.args.self.now.words.now in
    let x = assignment c.args.self.now.values.now in
    let is = c.args.self.now.indexes.now in
    let g = c.args.sign in
    let r = c.chain.running in
    let (b, i, n, e) = c.chain.invariant.1 l m h d in
    let (y, f, j, z, p, q, w) = lin_known c.args.self.now.words.now c.chain.at (Term c.in-Term.t) c.in_ok-inner.ensures c.in-Term.is b i in
    c.add_weighted.ensures y f j m p q w ∙ sym (ap (λ v. worked_sum s x g is v r) z) ∙ e

pub add_sum-returns-in-Sum : goal.add_sum-returns-in-Sum
unfolding worked_sum sum_depth
add_sum-returns-in-Sum t c = λ l m h d.
    let s = symbols_in c.args.self.now.words.now in
    let x = assignment c.args.self.now.values.now in
    let is = c.args.self.now.indexes.now in
    let g = c.args.sign in
    let r = c.chain.running in
    let (b, i, n, e) = c.chain.invariant.1 l m h d in
    let (y, w, z, p, q) = lin_known c.args.self.now.words.now c.chain.at (Sum c.in-Sum.over) c.in_ok-inner.ensures c.in-Sum.is b i in
    let k = ap sum_depth z in
    c.add_over.ensures y w m p q (omega arith) ∙ sym (ap (λ v. worked_sum s x g is v r) z) ∙ e

pub add_sum-returns-in_err-inner : goal.add_sum-returns-in_err-inner
add_sum-returns-in_err-inner t c = λ l m h d.
    let (b, i, n, e) = c.chain.invariant.1 l m h d in
    absurd (lin_fit c.args.self.now.words.now c.chain.at c.in_err-inner.ensures b i)
