use Rattle.compose.proofs.Trees.{compare_tree}
use Rattle.std.proofs.Common.{suc, ◌+◌, ◌<◌, ◌≤◌, length, sym, ap, ◌∙◌, arith}
use Rattle.std.proofs.lemmas.Bool.{cond-true, cond-false}
use Rattle.std.proofs.lemmas.List.{length-take-le}
use Rattle.grammar.specs.Grammar.{compare}
use Rattle.grammar.specs.Reading.{ok}
use Rattle.scope.specs.Names.{names_in}
use Rattle.tokens.proofs.Steps.{then_ok, then_bad, told_exit}
use Rattle.expressions.specs.Sums.{spaced_of, sides_of, sides_at}
use Rattle.expressions.proofs.NumberTrees.{agree_more}
use Rattle.expressions.proofs.Stacks.{stacked_take}
use Rattle.expressions.proofs.SignsAfter.{not-true, not-false}
use Rattle.expressions.proofs.RowWays.{sides_made}
use Rattle.expressions.proofs.context.Context.sides.Goals as goal

pub returns-in_err-found-clause-told : goal.returns-in_err-found-clause-told
unfolding sides_at
returns-in_err-found-clause-told c =
    let x = c.args.self.now.text.now in
    let most = length x + 1 in
    let at = c.args.at in
    let enough : length x < suc most + at = omega arith in
    told_exit _ _ _ _ c.from_residual.result c.from_residual.ensures.1 (then_bad _ (rw c.requires.brackets at (c.in_err-found.ensures.told (suc most) enough)))

pub returns-then-not-found-clause-told : goal.returns-then-not-found-clause-told
unfolding sides_at
returns-then-not-found-clause-told c =
    let x = c.args.self.now.text.now in
    let most = length x + 1 in
    let at = c.args.at in
    let enough : length x < suc most + at = omega arith in
    let (r, y1, p1) = c.in_ok-found.ensures.told (suc most) enough in
    let h1 = rw c.requires.brackets at y1 in
    then_ok _ h1 ∙ cond-false (spaced_of r) _ _ (sym p1.spaced ∙ not-false _ c.if-not-found.true)

pub comparison-requires : goal.comparison-requires
comparison-requires c =
    let x = c.args.self.now.text.now in
    let most = length x + 1 in
    let at = c.args.at in
    let enough : length x < suc most + at = omega arith in
    let (r, y1, p1) = c.in_ok-found.ensures.told (suc most) enough in
    p1.short

pub returns-in_err-sign-clause-told : goal.returns-in_err-sign-clause-told
unfolding sides_at
returns-in_err-sign-clause-told c =
    let x = c.args.self.now.text.now in
    let most = length x + 1 in
    let at = c.args.at in
    let enough : length x < suc most + at = omega arith in
    let (r, y1, p1) = c.in_ok-found.ensures.told (suc most) enough in
    let h1 = rw c.requires.brackets at y1 in
    let b = not-true _ c.if-not-found.false in
    let on = then_ok _ h1 ∙ cond-true (spaced_of r) _ _ (sym p1.spaced ∙ b) in
    told_exit _ _ _ _ c.from_residual-in_err-sign.result c.from_residual-in_err-sign.ensures.1 (on ∙ then_bad _ c.in_err-sign.ensures.told)

pub returns-in_err-here-clause-told : goal.returns-in_err-here-clause-told
unfolding sides_at
returns-in_err-here-clause-told c =
    let x = c.args.self.now.text.now in
    let most = length x + 1 in
    let at = c.args.at in
    let enough : length x < suc most + at = omega arith in
    let (r, y1, p1) = c.in_ok-found.ensures.told (suc most) enough in
    let h1 = rw c.requires.brackets at y1 in
    let b = not-true _ c.if-not-found.false in
    let on = then_ok _ h1 ∙ cond-true (spaced_of r) _ _ (sym p1.spaced ∙ b) in
    let (o, h2, p2) = c.in_ok-sign.ensures.told in
    told_exit _ _ _ _ c.from_residual-in_err-here.result c.from_residual-in_err-here.ensures.1 (on ∙ then_ok _ h2 ∙ then_bad _ c.in_err-here.ensures.told)

pub chain-first-requires : goal.chain-first-requires
chain-first-requires c =
    let x = c.args.self.now.text.now in
    let most = length x + 1 in
    let at = c.args.at in
    let enough : length x < suc most + at = omega arith in
    let (r, y1, p1) = c.in_ok-found.ensures.told (suc most) enough in
    let h1 = rw c.requires.brackets at y1 in
    let (is, s, l, e) = p1.waiting in
    let w = p1.words in
    let f = p1.forward in
    let i = p1.short in
    let y = p1.few in
    let z = c.terms.auto.pending in
    let long = c.terms.ensures.kept.long in
    let j : c.in_ok-found.found.top ≤ length c.terms.new.pending = omega arith in
    let v = length-take-le c.in_ok-found.found.top c.terms.new.pending j in
    record { stacked = (is, stacked_take c.terms.new.pending c.in_ok-found.found.next c.terms.new.words is c.in_ok-found.found.top (omega arith) j s); some = omega arith; room = (omega arith, omega arith) }

pub returns-in_err-second-clause-told : goal.returns-in_err-second-clause-told
unfolding sides_at
returns-in_err-second-clause-told c =
    let x = c.args.self.now.text.now in
    let most = length x + 1 in
    let at = c.args.at in
    let enough : length x < suc most + at = omega arith in
    let (r, y1, p1) = c.in_ok-found.ensures.told (suc most) enough in
    let h1 = rw c.requires.brackets at y1 in
    let b = not-true _ c.if-not-found.false in
    let on = then_ok _ h1 ∙ cond-true (spaced_of r) _ _ (sym p1.spaced ∙ b) in
    let (o, h2, p2) = c.in_ok-sign.ensures.told in
    let (u, h3, p3) = c.in_ok-here.ensures.told in
    told_exit _ _ _ _ c.from_residual-in_err-second.result c.from_residual-in_err-second.ensures.1 (on ∙ then_ok _ h2 ∙ then_ok _ h3 ∙ then_bad _ (rw c.requires.brackets at c.in_err-second.ensures.told))

pub returns-clause-told : goal.returns-clause-told
unfolding sides_at
returns-clause-told c =
    let x = c.args.self.now.text.now in
    let ns = names_in x c.args.self.now.scope.now in
    let most = length x + 1 in
    let at = c.args.at in
    let enough : length x < suc most + at = omega arith in
    let (r, y1, p1) = c.in_ok-found.ensures.told (suc most) enough in
    let h1 = rw c.requires.brackets at y1 in
    let found = c.in_ok-found.found in
    let b = not-true _ c.if-not-found.false in
    let on = then_ok _ h1 ∙ cond-true (spaced_of r) _ _ (sym p1.spaced ∙ b) in
    let (o, h2, p2) = c.in_ok-sign.ensures.told in
    let (u, h3, p3) = c.in_ok-here.ensures.told in
    let first = c.chain-first.result in
    let (l, y4, p4) = c.in_ok-second.ensures.told in
    let h4 = rw c.requires.brackets at y4 in
    let second = c.in_ok-second.second in
    let k = c.write-next.ensures in
    let few = p1.few in
    let forward = p1.forward in
    let long = c.terms.auto.pending in
    let next = c.chain-first.ensures.next in
    let j : found.top ≤ length c.terms.new.pending = omega arith in
    let v = length-take-le found.top c.terms.new.pending j in
    let sign = c.in_ok-sign.sign.value in (
      compare (sides_of sign l r),
      on ∙ then_ok _ h2 ∙ then_ok _ h3 ∙ then_ok _ h4 ∙ ap (λ d. ok (compare (sides_of d l r)) second.end) p2.0,
      sides_made x c.args.words.now c.terms.new.words c.chain-first.new.words c.linear.new.words c.write-next.new.words c.terms.new.pending ns at c.in_ok-here.here c.args.free c.write-next.result sign r l found first second
          c.requires.room.1 (omega arith) k.next c.terms.ensures.kept c.chain-first.ensures.kept c.linear.ensures.kept p1 b (omega arith) c.chain-first.ensures.placed (λ is st. c.chain-first.ensures.tree is (stacked_take c.terms.new.pending found.next c.terms.new.words is found.top (omega arith) j st)) p4 (λ v z s t. compare_tree c.linear.new.words c.write-next.new.words second.next (let q = p4.forward in let n = c.chain-first.ensures.next in let f = p1.forward in omega arith) k.kept first.place second.place v z s t sign k.here),
    )

pub returns-in_err-second-clause-kept : goal.returns-in_err-second-clause-kept
unfolding sides_at
returns-in_err-second-clause-kept c =
    let x = c.args.self.now.text.now in
    let most = length x + 1 in
    let at = c.args.at in
    let enough : length x < suc most + at = omega arith in
    let (r, h1, p1) = c.in_ok-found.ensures.told (suc most) enough in
    let found = c.in_ok-found.found in
    let b = not-true _ c.if-not-found.false in
    let (o, h2, p2) = c.in_ok-sign.ensures.told in
    let (u, h3, p3) = c.in_ok-here.ensures.told in
    let first = c.chain-first.result in
    agree_more c.args.free first.next c.args.words.now c.chain-first.new.words c.linear.new.words (let n = c.chain-first.ensures.next in let f = p1.forward in omega arith) (agree_more c.args.free found.next c.args.words.now c.terms.new.words c.chain-first.new.words p1.forward c.terms.ensures.kept c.chain-first.ensures.kept) c.linear.ensures.kept

pub returns-clause-kept : goal.returns-clause-kept
unfolding sides_at
returns-clause-kept c =
    let x = c.args.self.now.text.now in
    let most = length x + 1 in
    let at = c.args.at in
    let enough : length x < suc most + at = omega arith in
    let (r, h1, p1) = c.in_ok-found.ensures.told (suc most) enough in
    let found = c.in_ok-found.found in
    let b = not-true _ c.if-not-found.false in
    let (o, h2, p2) = c.in_ok-sign.ensures.told in
    let (u, h3, p3) = c.in_ok-here.ensures.told in
    let first = c.chain-first.result in
    let (l, h4, p4) = c.in_ok-second.ensures.told in
    let second = c.in_ok-second.second in
    let k = c.write-next.ensures in
    let sign = c.in_ok-sign.sign.value in
    agree_more c.args.free second.next c.args.words.now c.linear.new.words c.write-next.new.words (let n = c.chain-first.ensures.next in let f = p1.forward in let d = p4.forward in omega arith) (agree_more c.args.free first.next c.args.words.now c.chain-first.new.words c.linear.new.words (let n = c.chain-first.ensures.next in let f = p1.forward in omega arith) (agree_more c.args.free found.next c.args.words.now c.terms.new.words c.chain-first.new.words p1.forward c.terms.ensures.kept c.chain-first.ensures.kept) c.linear.ensures.kept) k.kept

pub linear-requires-clause-room : goal.linear-requires-clause-room
linear-requires-clause-room c =
    let x = c.args.self.now.text.now in
    let most = length x + 1 in
    let at = c.args.at in
    let enough : length x < suc most + at = omega arith in
    let (r, h1, p1) = c.in_ok-found.ensures.told (suc most) enough in
    let b = not-true _ c.if-not-found.false in
    let (o, h2, p2) = c.in_ok-sign.ensures.told in
    let (u, h3, p3) = c.in_ok-here.ensures.told in
    let w = p1.sharp b in
    let f = p1.forward in
    let n = c.chain-first.ensures.next in
    let (is, s, l, e) = p1.waiting in
    let v = c.terms.ensures.kept.long in
    let z = c.chain-first.ensures.kept.long in
    let y = c.terms.auto.pending in
    let few = p1.few in
    let q = p3.2 p2.3 in
    let g = p1.onward in
    let t = length-take-le c.in_ok-found.found.top c.terms.new.pending (omega arith) in
    (q, omega arith, omega arith)

pub write-next-requires-clause-room : goal.write-next-requires-clause-room
write-next-requires-clause-room c =
    let x = c.args.self.now.text.now in
    let most = length x + 1 in
    let at = c.args.at in
    let enough : length x < suc most + at = omega arith in
    let (r, h1, p1) = c.in_ok-found.ensures.told (suc most) enough in
    let b = not-true _ c.if-not-found.false in
    let (o, h2, p2) = c.in_ok-sign.ensures.told in
    let (u, h3, p3) = c.in_ok-here.ensures.told in
    let (l, h4, p4) = c.in_ok-second.ensures.told in
    let w = p1.sharp b in
    let f = p1.forward in
    let n = c.chain-first.ensures.next in
    let m = c.chain-first.ensures.placed in
    let (is, s, k, e) = p1.waiting in
    let v = c.terms.ensures.kept.long in
    let z = c.chain-first.ensures.kept.long in
    let y = c.linear.ensures.kept.long in
    let g = p4.words in
    let a = p4.placed in
    let d = p4.forward in
    let q = p4.short in
    let i = p4.onward in
    let few = p1.few in
    let long = c.terms.auto.pending in
    let t = length-take-le c.in_ok-found.found.top c.terms.new.pending (omega arith) in
    (omega arith, omega arith)

pub slice_bounds-chain-end : goal.slice_bounds-chain-end
slice_bounds-chain-end c =
    let enough : length c.args.self.now.text.now < suc (length c.args.self.now.text.now + 1) + c.args.at = omega arith in
    let (r, h, p) = c.in_ok-found.ensures.told (suc (length c.args.self.now.text.now + 1)) enough in
    let y = p.few in
    let i = p.short in
    let z = c.terms.auto.pending in
    omega arith

pub slice_bounds-chain-end-2 : goal.slice_bounds-chain-end-2
slice_bounds-chain-end-2 c =
    let enough : length c.args.self.now.text.now < suc (length c.args.self.now.text.now + 1) + c.args.at = omega arith in
    let (r, h, p) = c.in_ok-found.ensures.told (suc (length c.args.self.now.text.now + 1)) enough in
    let y = p.few in
    let i = p.short in
    let z = c.terms.auto.pending in
    sym (length-take-le c.in_ok-found.found.top c.terms.new.pending (omega arith))
