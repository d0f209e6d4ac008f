use Rattle.compose.proofs.Trees.{all_tree}
use Rattle.std.proofs.Common.{◌+◌, ◌-◌, length, sym, ap, ◌∙◌, arith}
use Rattle.grammar.specs.Grammar.{for_all}
use Rattle.grammar.specs.Reading.{row, with_index}
use Rattle.scope.specs.Names.{names_in}
use Rattle.tokens.proofs.Steps.{then_ok, then_bad, told_exit, told_on}
use Rattle.expressions.specs.Conditions.{bound_at, filter_at}
use Rattle.expressions.proofs.SumWays.{deep_is, not_deep}
use Rattle.expressions.proofs.RowWays.{row_sides, row_over, body_is, all_made}
use Rattle.expressions.proofs.context.Context.+row.Goals as goal

pub returns-in_default-clause-told : goal.returns-in_default-clause-told
returns-in_default-clause-told t c =
    let x = c.args.self.now.text.now in
    let ns = names_in x c.args.self.now.scope.now in
    let most = length x + 1 in
    let nest = c.args.self.now.nest in
    let at = c.args.at in
    told_on _ _ _ _ _ c.sides.result (row_sides x most nest ns at c.in_default.ensures) (λ r n p. p) c.sides.ensures.told

pub returns-in_err-over-clause-told : goal.returns-in_err-over-clause-told
returns-in_err-over-clause-told t c =
    let x = c.args.self.now.text.now in
    let ns = names_in x c.args.self.now.scope.now in
    let most = length x + 1 in
    let nest = c.args.self.now.nest in
    let at = c.args.at in
    let (l, w, three, in-text, in_length) = c.in-Some.ensures in
    let end = c.in-Some.end in
    let way = row_over x most nest ns at end l w in
    let deep = deep_is nest in
    told_exit _ _ _ _ c.from_residual.result c.from_residual.ensures.1 (way ∙ then_bad _ (ap (λ d. bound_at x ns d at end) (sym deep) ∙ c.in_err-over.ensures.told))

pub returns-in_err-only-clause-told : goal.returns-in_err-only-clause-told
returns-in_err-only-clause-told t c =
    let x = c.args.self.now.text.now in
    let ns = names_in x c.args.self.now.scope.now in
    let most = length x + 1 in
    let nest = c.args.self.now.nest in
    let at = c.args.at in
    let (l, w, three, in-text, in_length) = c.in-Some.ensures in
    let end = c.in-Some.end in
    let way = row_over x most nest ns at end l w in
    let deep = deep_is nest in
    let (b, h1, p1) = c.in_ok-over.ensures.told in
    let d1 = ap (λ d. bound_at x ns d at end) (sym deep) ∙ h1 in
    let over = c.in_ok-over.over in
    let g = c.inside-scope.ensures.names ∙ ap (λ v. with_index v ns) (sym p1.2) in
    let e2 = ap (λ ms. filter_at x ms 64 most over.index.end) (sym g) in
    told_exit _ _ _ _ c.from_residual-in_err-only.result c.from_residual-in_err-only.ensures.1 (way ∙ then_ok _ d1 ∙ then_bad _ (e2 ∙ (rw c.requires.brackets at c.in_err-only.ensures.told)))

pub returns-in_err-body-clause-told : goal.returns-in_err-body-clause-told
returns-in_err-body-clause-told t c =
    let x = c.args.self.now.text.now in
    let ns = names_in x c.args.self.now.scope.now in
    let most = length x + 1 in
    let nest = c.args.self.now.nest in
    let at = c.args.at in
    let (l, w, three, in-text, in_length) = c.in-Some.ensures in
    let end = c.in-Some.end in
    let way = row_over x most nest ns at end l w in
    let deep = deep_is nest in
    let (b, h1, p1) = c.in_ok-over.ensures.told in
    let d1 = ap (λ d. bound_at x ns d at end) (sym deep) ∙ h1 in
    let over = c.in_ok-over.over in
    let g = c.inside-scope.ensures.names ∙ ap (λ v. with_index v ns) (sym p1.2) in
    let e2 = ap (λ ms. filter_at x ms 64 most over.index.end) (sym g) in
    let (d, y2, p2) = c.in_ok-only.ensures.told in
    let h2 = rw c.requires.brackets at y2 in
    let only = c.in_ok-only.only in
    let e3 = ap (λ f. f (with_index b.index ns) only.end) (body_is x most nest (not_deep nest (sym deep ∙ p1.0))) ∙ ap (λ ms. row x most (nest - 1) ms only.end) (sym g) in
    told_exit _ _ _ _ c.from_residual-in_err-body.result c.from_residual-in_err-body.ensures.1 (way ∙ then_ok _ d1 ∙ then_ok _ (e2 ∙ h2) ∙ then_bad _ (e3 ∙ c.in_err-body.ensures.told))

pub returns-clause-told : goal.returns-clause-told
returns-clause-told t c =
    let x = c.args.self.now.text.now in
    let ns = names_in x c.args.self.now.scope.now in
    let most = length x + 1 in
    let nest = c.args.self.now.nest in
    let at = c.args.at in
    let (l, w, three, in-text, in_length) = c.in-Some.ensures in
    let end = c.in-Some.end in
    let way = row_over x most nest ns at end l w in
    let deep = deep_is nest in
    let (b, h1, p1) = c.in_ok-over.ensures.told in
    let d1 = ap (λ d. bound_at x ns d at end) (sym deep) ∙ h1 in
    let over = c.in_ok-over.over in
    let g = c.inside-scope.ensures.names ∙ ap (λ v. with_index v ns) (sym p1.2) in
    let e2 = ap (λ ms. filter_at x ms 64 most over.index.end) (sym g) in
    let (d, y2, p2) = c.in_ok-only.ensures.told in
    let h2 = rw c.requires.brackets at y2 in
    let only = c.in_ok-only.only in
    let e3 = ap (λ f. f (with_index b.index ns) only.end) (body_is x most nest (not_deep nest (sym deep ∙ p1.0))) ∙ ap (λ ms. row x most (nest - 1) ms only.end) (sym g) in
    let (r, h3, p3) = c.in_ok-body.ensures.told in
    let body = c.in_ok-body.body in
    let k = c.write-next.ensures in (
      for_all b.set b.index d r,
      way ∙ then_ok _ d1 ∙ then_ok _ (e2 ∙ h2) ∙ then_ok _ (e3 ∙ h3),
      all_made x c.args.words.now c.filter.new.words c.row.new.words c.write-next.new.words ns (names_in x c.inside-scope.result) at over.index.end c.args.free c.write-next.result over.set b d r only body
          (let z = p1.3 in omega arith) c.requires.room.1 p1.1 g p2 p3 c.filter.ensures.kept c.row.ensures.kept k.next (λ y z f s. all_tree c.row.new.words c.write-next.new.words body.next (let q = p3.forward in let o = p2.forward in omega arith) k.kept (record { set = over.set; filter = only.condition; body = body.place }) y f z s k.here),
    )
