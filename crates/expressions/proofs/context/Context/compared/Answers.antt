use Rattle.std.proofs.Common.{ap, ◌∙◌, arith}
use Rattle.compose.proofs.Trees.{relate_tree}
use Rattle.grammar.specs.Reading.{ok}
use Rattle.scope.specs.Names.{names_in}
use Rattle.tokens.proofs.Steps.{then_ok, then_bad, told_exit}
use Rattle.expressions.specs.Conditions.{compared_at}
use Rattle.expressions.proofs.CondTrees.{compared_made}
use Rattle.expressions.proofs.context.Context.compared.Goals as goal

pub returns-in_err-here-clause-told : goal.returns-in_err-here-clause-told
unfolding compared_at
returns-in_err-here-clause-told c =
    let (e, h1, p1) = c.in_ok-first.ensures.told in
    let (a, h2, p2) = c.in_ok-sign.ensures.told in
    let (o, h3, p3) = c.in_ok-found.ensures.told in
    told_exit _ _ _ _ c.from_residual-in_err-here.result c.from_residual-in_err-here.ensures.1 (then_ok _ h1 ∙ then_ok _ h2 ∙ then_ok _ h3 ∙ then_bad _ c.in_err-here.ensures.told)

pub returns-in_err-second-clause-told : goal.returns-in_err-second-clause-told
unfolding compared_at
returns-in_err-second-clause-told c =
    let (e, h1, p1) = c.in_ok-first.ensures.told in
    let (a, h2, p2) = c.in_ok-sign.ensures.told in
    let (o, h3, p3) = c.in_ok-found.ensures.told in
    let (b, h4, p4) = c.in_ok-here.ensures.told in
    told_exit _ _ _ _ c.from_residual-in_err-second.result c.from_residual-in_err-second.ensures.1 (then_ok _ h1 ∙ then_ok _ h2 ∙ then_ok _ h3 ∙ then_ok _ h4 ∙ then_bad _ c.in_err-second.ensures.told)

pub returns-clause-told : goal.returns-clause-told
unfolding compared_at
returns-clause-told c =
    let (e, h1, p1) = c.in_ok-first.ensures.told in
    let (a, h2, p2) = c.in_ok-sign.ensures.told in
    let (o, h3, p3) = c.in_ok-found.ensures.told in
    let (b, h4, p4) = c.in_ok-here.ensures.told in
    let (f, h5, p5) = c.in_ok-second.ensures.told in
    let x = c.args.self.now.text.now in
    let first = c.in_ok-first.first in
    let second = c.in_ok-second.second in
    let k = c.write-next.ensures in
    let r = c.in_ok-found.found.value in (
      record { left = e; relation = r; right = f },
      then_ok _ h1 ∙ then_ok _ h2 ∙ then_ok _ h3 ∙ then_ok _ h4 ∙ then_ok _ h5 ∙ ap (λ q. ok (record { left = e; relation = q; right = f }) second.end) p3.0,
      compared_made x c.args.words.now c.number.new.words c.number-2.new.words c.write-next.new.words c.args.at c.in_ok-here.here c.args.free c.write-next.result (names_in x c.args.self.now.scope.now) r e f
          first second (omega arith) k.next c.number-2.ensures.kept c.requires.room.1 c.number.ensures.kept p1 p5
          (λ y z s t. relate_tree c.number-2.new.words c.write-next.new.words second.next (let g = p5.forward in let i = p1.forward in omega arith) k.kept first.place second.place y z s t r k.here),
    )
