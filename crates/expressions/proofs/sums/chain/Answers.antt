use Rattle.std.specs.Slice.Exact.{rchunks_exact_rest, rchunks_exact_size}
use Rattle.std.proofs.Common.{◌≡◌, ◌+◌, ◌<◌, length, sym, refl, ap, ◌∙◌, subst, arith}
use Rattle.std.proofs.lemmas.Bool.{and_from, lt-ltb}
use Rattle.model.specs.Words.{word}
use Rattle.model.specs.Kept.{LinIn}
use Rattle.model.specs.Model as model
use Rattle.compose.specs.Agree.{Settled}
use Rattle.compose.proofs.Settled.{agree_self}
use Rattle.compose.proofs.Trees.{nothing_tree, chain_tree}
use Rattle.expressions.specs.Sums.{Stacked}
use Rattle.expressions.proofs.NumberTrees.{agree_more, settled_on}
use Rattle.expressions.proofs.Stacks.{First, first_all, first_front, long_by_two, top_of, none_left, chained_top, stacked_even}
use Rattle.expressions.proofs.sums.chain.Goals as goal

pub loop-term-init : goal.loop-term-init
loop-term-init c =
    let (is, s) = c.requires.stacked in
    let v = c.rchunks_exact-term-items.ensures in
    let g = c.into_iter-term-iterator.ensures.into_iter_gives in
    let (l, w) = first_all c.args.waiting.now _ _ (length is) (stacked_even c.args.waiting.now c.args.free c.args.words.now is _ s) v.parts v.remainder_len in
    let size = ap rchunks_exact_size g ∙ v.size in
    let long = ap (λ i. length (rchunks_exact_rest i)) g ∙ l in (
      size,
      omega arith,
      subst (λ i. First c.args.waiting.now (rchunks_exact_rest i)) (sym g) w,
      omega arith,
      omega arith,
      λ l. absurd (omega arith),
      agree_self _ _ _,
      λ is s. (is, model.nothing, subst (Stacked c.args.waiting.now c.args.free c.args.words.now is) (sym long) s, refl, λ _. nothing_tree 1808 c.args.free c.args.words.now),
    )

pub bounds-term-1 : goal.bounds-term-1
bounds-term-1 c = let l : length c.in-Some.term.now ≡ 2 = c.in-Some.ensures.steps.2.1 ∙ c.loop-term.invariant.0 in omega arith

pub write-next-requires-clause-room : goal.write-next-requires-clause-room
write-next-requires-clause-room c =
    let m = long_by_two c.args.waiting.now _ _ c.in-Some.term.now c.in-Some.ensures.steps.2.0 (c.in-Some.ensures.steps.2.1 ∙ c.loop-term.invariant.0) c.loop-term.invariant.2 in
    let n = c.loop-term.invariant.3 in
    (omega arith, omega arith)

pub write-next-requires-clause-parts : goal.write-next-requires-clause-parts
write-next-requires-clause-parts c =
    let (is, s) = c.requires.stacked in
    let (js, a, t, e, r) = c.loop-term.invariant.7 is s in
    let y = top_of c.args.waiting.now _ _ c.in-Some.term.now c.in-Some.ensures.steps.2.0 (c.in-Some.ensures.steps.2.1 ∙ c.loop-term.invariant.0) c.loop-term.invariant.2 c.args.free c.args.words.now js t in
    let p = y.place in
    let m = long_by_two c.args.waiting.now _ _ c.in-Some.term.now c.in-Some.ensures.steps.2.0 (c.in-Some.ensures.steps.2.1 ∙ c.loop-term.invariant.0) c.loop-term.invariant.2 in
    let n = c.loop-term.invariant.3 in
    let l : word c.in-Some.term.now 1 < c.loop-term.next = omega arith in
    and_from _ _ (lt-ltb _ _ l) (lt-ltb _ _ c.loop-term.invariant.4)

pub loop-term-preserved : goal.loop-term-preserved
loop-term-preserved c =
    let ps = c.args.waiting.now in
    let us = c.args.words.now in
    let free = c.args.free in
    let next = c.loop-term.next in
    let front = rchunks_exact_rest c.next.new.self in
    let two = c.in-Some.term.now in
    let b = c.in-Some.ensures.steps.2.0 in
    let l = c.in-Some.ensures.steps.2.1 ∙ c.loop-term.invariant.0 in
    let v = c.loop-term.invariant.2 in
    let m = long_by_two ps _ front two b l v in
    let n = c.loop-term.invariant.3 in
    let z = c.write-next.ensures.next in
    let (is, s) = c.requires.stacked in
    let (js, a, t, e, r) = c.loop-term.invariant.7 is s in
    let p = (top_of ps _ front two b l v free us js t).place in (
      c.in-Some.ensures.steps.0 ∙ c.loop-term.invariant.0,
      omega arith,
      first_front ps _ front two b l v,
      omega arith,
      omega arith,
      λ _. omega arith,
      agree_more free next us c.loop-term.words c.write-next.new.words (omega arith) c.loop-term.invariant.6 c.write-next.ensures.kept,
      λ is s.
          let (js, a, t, e, r) = c.loop-term.invariant.7 is s in
          let y = top_of ps _ front two b l v free us js t in (
            y.others,
            model.chain y.item.sign y.item.term a,
            y.rest,
            e ∙ chained_top js y.others y.item a y.all,
            λ o. subst (λ m. Settled 1808 m c.write-next.new.words (λ vs. LinIn vs next (model.chain y.item.sign y.item.term a))) (sym z)
                (subst (λ g. Settled 1808 (next + 3) c.write-next.new.words (λ vs. LinIn vs next (model.chain g y.item.term a))) (c.sign_of.ensures y.item.sign y.sign)
                (chain_tree c.loop-term.words c.write-next.new.words next (omega arith) c.write-next.ensures.kept _ _ y.item.term a (settled_on free next us c.loop-term.words _ c.loop-term.invariant.6 (omega arith) (y.tree o)) (r o) _ c.write-next.ensures.here)),
          ),
    )

pub returns : goal.returns
returns c =
    let ps = c.args.waiting.now in
    let us = c.args.words.now in
    let (is, s) = c.requires.stacked in
    let (js, a, t, e, r) = c.loop-term.invariant.7 is s in
    let n = c.loop-term.invariant.3 in
    let few = c.in-None.ensures.steps.2.0 in
    let two = c.loop-term.invariant.0 in
    let l = stacked_even ps c.args.free us js _ t in
    record {
      next = omega arith;
      placed = (c.loop-term.invariant.5 (omega arith), c.loop-term.invariant.4);
      kept = c.loop-term.invariant.6;
      tree = λ is s o.
          let (js, a, t, e, r) = c.loop-term.invariant.7 is s in
          subst (λ b. Settled 1808 c.loop-term.next c.loop-term.words (λ vs. LinIn vs c.loop-term.rest b)) (sym (e ∙ none_left ps c.args.free us js _ t (omega arith) a)) (r o);
    }
