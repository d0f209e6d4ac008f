use Rattle.std.proofs.Common.{◌≡◌, ℕ, true, ◌||◌, ◌⊎◌, List, is_some, sym, ap, ◌∙◌, ⊎_elim, arith, Some}
use Rattle.std.proofs.lemmas.Bool.{or_left}
use Rattle.model.specs.declared.LinNode.{LinNode}
use Rattle.model.specs.declared.LinNode.TheVariants.{Amount, Term, Sum, Chain, Nothing}
use Rattle.model.specs.declared.TermNode.{TermNode}
use Rattle.model.specs.Evaluation.{sum_works}
use Rattle.model.specs.Kept.{LinIn, symbols_in}
use Rattle.model.specs.Meaning.{size_of}
use Rattle.model.specs.Model.{Lin}
use Rattle.model.specs.Words.{lin_at}
use Rattle.model.proofs.Trees.{chain_below, lin_fit}
use Rattle.evaluate.proofs.Nodes.{lin_known}
use Rattle.evaluate.proofs.Working.{over_works, over_empty}
use Rattle.evaluate.proofs.sums.+works.Goals as goal

pub over_works-returns-then-is_some : goal.over_works-returns-then-is_some
unfolding sum_works
over_works-returns-then-is_some t c = λ d a p q.
    let s = symbols_in c.args.words.now in
    let o = c.args.over.filter in
    over_works c.args.words.now o d c.set_size.result (size_of s c.args.over.set) (sum_works s a) c.is_some.result c.set_size.ensures c.if-set_size-gt0.true p
    (c.if-is_some.true ∙ sym (or_left (is_some o) (sum_works s a) (sym c.is_some.ensures ∙ c.if-is_some.true)))

pub over_works-returns-else-is_some : goal.over_works-returns-else-is_some
unfolding sum_works
over_works-returns-else-is_some t c = λ d a p q.
    let s = symbols_in c.args.words.now in
    over_works c.args.words.now c.args.over.filter d c.set_size.result (size_of s c.args.over.set) (sum_works s a) c.works.result c.set_size.ensures c.if-set_size-gt0.true p
    (c.works.ensures a q ∙ ap (λ y. y || sum_works s a) (sym c.if-is_some.false ∙ c.is_some.ensures))

pub over_works-returns-else-set_size-gt0 : goal.over_works-returns-else-set_size-gt0
unfolding sum_works
over_works-returns-else-set_size-gt0 t c = λ d a p q.
    let s = symbols_in c.args.words.now in
    over_empty d c.set_size.result (size_of s c.args.over.set) (sum_works s a) c.set_size.ensures c.if-set_size-gt0.false

pub works-returns-then-works : goal.works-returns-then-works
unfolding sum_works
works-returns-then-works t c = λ l h.
    let s = symbols_in c.args.words.now in
    let (b, i, e) = c.chain.invariant.1 l h in
    let (x, y, z, p, q) = lin_known c.args.words.now c.chain.at (Chain c.in-Chain.field-0 c.in-Chain.t c.in-Chain.rest) c.in-Some.ensures c.in-Chain.is b i in
    sym (or_left (sum_works s x) (sum_works s y) (sym (c.works.ensures x p) ∙ c.if-works.true)) ∙ sym (ap (sum_works s) z) ∙ e

pub works-chain-preserved : goal.works-chain-preserved
unfolding sum_works
works-chain-preserved t c =
    let s = symbols_in c.args.words.now in
    let w = chain_below c.args.words.now c.chain.at c.in-Chain.field-0 c.in-Chain.t c.in-Chain.rest (ap Some (sym c.in-Chain.is) ∙ c.in-Some.ensures) in (
      omega (arith, w, c.chain.invariant.0),
      λ l h.
          let (b, i, e) = c.chain.invariant.1 l h in
          let (x, y, z, p, q) = lin_known c.args.words.now c.chain.at (Chain c.in-Chain.field-0 c.in-Chain.t c.in-Chain.rest) c.in-Some.ensures c.in-Chain.is b i in
          (y, q, ap (λ v. v || sum_works s y) (sym c.if-works.false ∙ c.works.ensures x p) ∙ sym (ap (sum_works s) z) ∙ e),
    )

pub works-returns-in-Sum : goal.works-returns-in-Sum
works-returns-in-Sum t c = λ l h.
    let (b, i, e) = c.chain.invariant.1 l h in
    let (d, a, z, p, q) = lin_known c.args.words.now c.chain.at (Sum c.in-Sum.over) c.in-Some.ensures c.in-Sum.is b i in
    c.over_works.ensures d a p q ∙ sym (ap (sum_works (symbols_in c.args.words.now)) z) ∙ e

pub works-returns-in-Nothing : goal.works-returns-in-Nothing
unfolding sum_works
works-returns-in-Nothing t c = λ l h.
    let (b, i, e) = c.chain.invariant.1 l h in
    sym (ap (sum_works (symbols_in c.args.words.now)) (lin_known c.args.words.now c.chain.at Nothing c.in-Some.ensures c.in-Nothing.is b i)) ∙ e

pub works-returns-in_default : goal.works-returns-in_default
works-returns-in_default t c = λ l h.
    let (b, i, e) = c.chain.invariant.1 l h in
    absurd (lin_fit c.args.words.now c.chain.at c.in_default.ensures b i)

-- a number by itself, or before a variable
plain : (ws : List ℕ) (k : ℕ) (n : LinNode) → Some n ≡ lin_at ws k → (n ≡ Amount) ⊎ ((x : TermNode) × (n ≡ Term x)) → (l : Lin) → LinIn ws k l → true ≡ sum_works (symbols_in ws) l
unfolding sum_works
plain ws k n e w l h =
    let s = symbols_in ws in
    ⊎_elim (λ p. let (a, z, q) = lin_known ws k Amount e p l h in sym (ap (sum_works s) z))
    (λ (x, p). let (a, b, d, z, q, r, t) = lin_known ws k (Term x) e p l h in sym (ap (sum_works s) z))
    w

pub works-returns-in-Amount : goal.works-returns-in-Amount
works-returns-in-Amount t c = λ l h.
    let (b, i, e) = c.chain.invariant.1 l h in
    plain c.args.words.now c.chain.at c.in-Some.node c.in-Some.ensures c.in-Amount.is b i ∙ e
