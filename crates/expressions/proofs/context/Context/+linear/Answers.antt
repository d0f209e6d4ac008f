use Rattle.compose.proofs.Trees.{sum_tree}
use Rattle.expressions.proofs.Ways.{is_byte, no_byte}
use Rattle.std.proofs.Common.{◌≡◌, suc, ◌+◌, ◌-◌, ◌≤◌, [], ◌∷◌, length, sym, refl, ap, ◌∙◌, arith}
use Rattle.std.proofs.lemmas.Bool.{cond-true, cond-false}
use Rattle.std.proofs.lemmas.List.{length-take-le}
use borrow.Rule.Slice.PartMut.{put_mid, same_len_mid}
use Rattle.compose.proofs.Settled.{agree_self}
use Rattle.grammar.specs.Grammar.{member, reserved, sum_over}
use Rattle.grammar.specs.Reading.{num, named, lin, with_index}
use Rattle.grammar.specs.Says.{term_of}
use Rattle.scope.specs.Names.{names_in}
use denote.Enum.Bare.{differs_false, differs_true}
use Rattle.tokens.specs.contracts.words.Reserved.{the_type}
use Rattle.tokens.specs.declared.words.Reserved.TheVariants.{Sum}
use Rattle.tokens.specs.Spelling.{spelled}
use Rattle.tokens.proofs.Named.{some_member}
use Rattle.tokens.proofs.Steps.{then_ok, then_bad, told_exit, told_on}
use Rattle.expressions.specs.Conditions.{bound_at, filter_at}
use Rattle.expressions.specs.Sums.{inner_of, deep_of, run_end, run_more, spaced_of, sum_of, terms_at}
use Rattle.expressions.proofs.NumberTrees.{agree_more}
use Rattle.expressions.proofs.TermTrees.{spaced_made}
use Rattle.expressions.proofs.Follows.{lin_as}
use Rattle.expressions.proofs.Stacks.{stacked_none, stacked_take, lent_above, sign_tag, sign_is}
use Rattle.expressions.proofs.Runs.{terms_bad, terms_broken, terms_last, terms_more, wrapped, one_more, the_last, wrapped_none, chained_none}
use Rattle.expressions.proofs.SumWays.{deep_is, not_deep, inner_is, sum_as, body_none, body_deep, body_open, sum_made, term_number, term_broken, term_name, term_sum, term_stop, is_sum}
use Rattle.expressions.proofs.SumTrees.{lin_made, turns_enough, term_waits}
use Rattle.expressions.proofs.SignsAfter.{told_none, told_some, some_spaced}
use Rattle.expressions.proofs.context.Context.+linear.Goals as goal

pub linear-returns-in_err-found-clause-told : goal.linear-returns-in_err-found-clause-told
linear-returns-in_err-found-clause-told t c =
    let x = c.args.self.now.text.now in
    let ns = names_in x c.args.self.now.scope.now in
    let left = c.args.self.now.left in
    let most = length x + 1 in
    let nest = c.args.self.now.nest in
    let at = c.args.at in
    let way = lin_as x most nest ns left at in
    let enough = turns_enough (length x) at in
    told_exit _ _ _ _ c.from_residual.result c.from_residual.ensures.1 (way ∙ then_bad _ (c.in_err-found.ensures.told most enough))

pub linear-returns-then-found-clause-told : goal.linear-returns-then-found-clause-told
linear-returns-then-found-clause-told t c =
    let x = c.args.self.now.text.now in
    let ns = names_in x c.args.self.now.scope.now in
    let left = c.args.self.now.left in
    let most = length x + 1 in
    let nest = c.args.self.now.nest in
    let at = c.args.at in
    let way = lin_as x most nest ns left at in
    let enough = turns_enough (length x) at in
    let (r, h, p) = c.in_ok-found.ensures.told most enough in
    let run = c.in_ok-found.found in
    way ∙ then_ok _ h ∙ cond-true (spaced_of r) _ _ (sym p.spaced ∙ c.if-found.true)

pub linear-chain-sum-requires : goal.linear-chain-sum-requires
linear-chain-sum-requires t c =
    let x = c.args.self.now.text.now in
    let ns = names_in x c.args.self.now.scope.now in
    let left = c.args.self.now.left in
    let most = length x + 1 in
    let nest = c.args.self.now.nest in
    let at = c.args.at in
    let enough = turns_enough (length x) at in
    let (r, h, p) = c.in_ok-found.ensures.told most enough in
    let run = c.in_ok-found.found in
    let (is, s, l, e) = p.waiting in
    let w = p.words in
    let f = p.forward in
    let i = p.short in
    let long = c.terms.ensures.kept.long in
    let y = p.few in
    let z = c.terms.auto.pending in
    let j : run.top ≤ length c.terms.new.pending = omega arith in
    let v = length-take-le run.top c.terms.new.pending j in
    record { stacked = (is, stacked_take c.terms.new.pending run.next c.terms.new.words is run.top (omega arith) j s); some = omega arith; room = (omega arith, omega arith) }

pub linear-returns-clause-told : goal.linear-returns-clause-told
linear-returns-clause-told t c =
    let x = c.args.self.now.text.now in
    let ns = names_in x c.args.self.now.scope.now in
    let left = c.args.self.now.left in
    let most = length x + 1 in
    let nest = c.args.self.now.nest in
    let at = c.args.at in
    let way = lin_as x most nest ns left at in
    let enough = turns_enough (length x) at in
    let (r, h, p) = c.in_ok-found.ensures.told most enough in
    let run = c.in_ok-found.found in
    let k = c.chain-sum.ensures in
    let y = p.few in
    let f = p.forward in
    let z = c.terms.auto.pending in
    let j : run.top ≤ length c.terms.new.pending = omega arith in
    let v = length-take-le run.top c.terms.new.pending j in (
      sum_of r,
      way ∙ then_ok _ h ∙ cond-false (spaced_of r) _ _ (sym p.spaced ∙ c.if-found.false),
      lin_made x c.args.words.now c.terms.new.words c.chain-sum.new.words c.terms.new.pending ns at c.args.free r run c.chain-sum.result c.requires.room.1 c.terms.ensures.kept p (omega arith) k.placed (λ is st. k.tree is (stacked_take c.terms.new.pending run.next c.terms.new.words is run.top (omega arith) j st)),
    )

pub sum-returns-in_err-over-clause-told : goal.sum-returns-in_err-over-clause-told
sum-returns-in_err-over-clause-told t c =
    let x = c.args.self.now.text.now in
    let ns = names_in x c.args.self.now.scope.now in
    let left = c.args.self.now.left in
    let most = length x + 1 in
    let nest = c.args.self.now.nest in
    let at = c.args.at in
    let start = c.args.start in
    let inner = inner_of x most nest in
    let deep = deep_is nest in
    let way = sum_as x ns left most (deep_of nest) inner start at in
    told_exit _ _ _ _ c.from_residual.result c.from_residual.ensures.1 (way ∙ then_bad _ (ap (λ d. bound_at x ns d start at) (sym deep) ∙ c.in_err-over.ensures.told))

pub sum-returns-in_err-only-clause-told : goal.sum-returns-in_err-only-clause-told
sum-returns-in_err-only-clause-told t c =
    let x = c.args.self.now.text.now in
    let ns = names_in x c.args.self.now.scope.now in
    let left = c.args.self.now.left in
    let most = length x + 1 in
    let nest = c.args.self.now.nest in
    let at = c.args.at in
    let start = c.args.start in
    let inner = inner_of x most nest in
    let deep = deep_is nest in
    let way = sum_as x ns left most (deep_of nest) inner start at in
    let (b, h1, p1) = c.in_ok-over.ensures.told in
    let d1 = ap (λ d. bound_at x ns d start at) (sym deep) ∙ h1 in
    let g = c.inside-scope.ensures.names ∙ ap (λ v. with_index v ns) (sym p1.2) in
    let over = c.in_ok-over.over in
    let e2 = ap (λ ms. filter_at x ms left most over.index.end) (sym g) in
    told_exit _ _ _ _ c.from_residual-in_err-only.result c.from_residual-in_err-only.ensures.1 (way ∙ then_ok _ d1 ∙ then_bad _ (e2 ∙ c.in_err-only.ensures.told))

pub sum-returns-then-not-is_at-clause-told : goal.sum-returns-then-not-is_at-clause-told
sum-returns-then-not-is_at-clause-told t c =
    let x = c.args.self.now.text.now in
    let ns = names_in x c.args.self.now.scope.now in
    let left = c.args.self.now.left in
    let most = length x + 1 in
    let nest = c.args.self.now.nest in
    let at = c.args.at in
    let start = c.args.start in
    let inner = inner_of x most nest in
    let deep = deep_is nest in
    let way = sum_as x ns left most (deep_of nest) inner start at in
    let (b, h1, p1) = c.in_ok-over.ensures.told in
    let d1 = ap (λ d. bound_at x ns d start at) (sym deep) ∙ h1 in
    let g = c.inside-scope.ensures.names ∙ ap (λ v. with_index v ns) (sym p1.2) in
    let over = c.in_ok-over.over in
    let e2 = ap (λ ms. filter_at x ms left most over.index.end) (sym g) in
    let (d, h2, p2) = c.in_ok-only.ensures.told in
    let only = c.in_ok-only.only in
    let on = way ∙ then_ok _ d1 ∙ then_ok _ (e2 ∙ h2) in
    on ∙ body_none x ns left inner b d only.end (no_byte _ _ c.if-not-is_at.ensures)

pub sum-returns-then-self-eq0-clause-told : goal.sum-returns-then-self-eq0-clause-told
sum-returns-then-self-eq0-clause-told t c =
    let x = c.args.self.now.text.now in
    let ns = names_in x c.args.self.now.scope.now in
    let left = c.args.self.now.left in
    let most = length x + 1 in
    let nest = c.args.self.now.nest in
    let at = c.args.at in
    let start = c.args.start in
    let inner = inner_of x most nest in
    let deep = deep_is nest in
    let way = sum_as x ns left most (deep_of nest) inner start at in
    let (b, h1, p1) = c.in_ok-over.ensures.told in
    let d1 = ap (λ d. bound_at x ns d start at) (sym deep) ∙ h1 in
    let g = c.inside-scope.ensures.names ∙ ap (λ v. with_index v ns) (sym p1.2) in
    let over = c.in_ok-over.over in
    let e2 = ap (λ ms. filter_at x ms left most over.index.end) (sym g) in
    let (d, h2, p2) = c.in_ok-only.ensures.told in
    let only = c.in_ok-only.only in
    let on = way ∙ then_ok _ d1 ∙ then_ok _ (e2 ∙ h2) in
    on ∙ body_deep x ns left inner b d only.end (is_byte _ _ c.if-not-is_at.ensures) c.if-self-eq0.true

pub sum-returns-in_err-first-clause-told : goal.sum-returns-in_err-first-clause-told
sum-returns-in_err-first-clause-told t c =
    let x = c.args.self.now.text.now in
    let ns = names_in x c.args.self.now.scope.now in
    let left = c.args.self.now.left in
    let most = length x + 1 in
    let nest = c.args.self.now.nest in
    let at = c.args.at in
    let start = c.args.start in
    let inner = inner_of x most nest in
    let deep = deep_is nest in
    let way = sum_as x ns left most (deep_of nest) inner start at in
    let (b, h1, p1) = c.in_ok-over.ensures.told in
    let d1 = ap (λ d. bound_at x ns d start at) (sym deep) ∙ h1 in
    let g = c.inside-scope.ensures.names ∙ ap (λ v. with_index v ns) (sym p1.2) in
    let over = c.in_ok-over.over in
    let e2 = ap (λ ms. filter_at x ms left most over.index.end) (sym g) in
    let (d, h2, p2) = c.in_ok-only.ensures.told in
    let only = c.in_ok-only.only in
    let on = way ∙ then_ok _ d1 ∙ then_ok _ (e2 ∙ h2) in
    let into = on ∙ body_open x ns left inner b d only.end (is_byte _ _ c.if-not-is_at.ensures) c.if-self-eq0.false in
    told_exit _ _ _ _ c.from_residual-in_err-first.result c.from_residual-in_err-first.ensures.1 (into ∙ then_bad _ c.in_err-first.ensures.told)

pub sum-returns-in_err-body-clause-told : goal.sum-returns-in_err-body-clause-told
sum-returns-in_err-body-clause-told t c =
    let x = c.args.self.now.text.now in
    let ns = names_in x c.args.self.now.scope.now in
    let left = c.args.self.now.left in
    let most = length x + 1 in
    let nest = c.args.self.now.nest in
    let at = c.args.at in
    let start = c.args.start in
    let inner = inner_of x most nest in
    let deep = deep_is nest in
    let way = sum_as x ns left most (deep_of nest) inner start at in
    let (b, h1, p1) = c.in_ok-over.ensures.told in
    let d1 = ap (λ d. bound_at x ns d start at) (sym deep) ∙ h1 in
    let g = c.inside-scope.ensures.names ∙ ap (λ v. with_index v ns) (sym p1.2) in
    let over = c.in_ok-over.over in
    let e2 = ap (λ ms. filter_at x ms left most over.index.end) (sym g) in
    let (d, h2, p2) = c.in_ok-only.ensures.told in
    let only = c.in_ok-only.only in
    let on = way ∙ then_ok _ d1 ∙ then_ok _ (e2 ∙ h2) in
    let into = on ∙ body_open x ns left inner b d only.end (is_byte _ _ c.if-not-is_at.ensures) c.if-self-eq0.false in
    let (u, h3, p3) = c.in_ok-first.ensures.told in
    let e4 = ap (λ f. f (with_index b.index ns) (left - 1) c.in_ok-first.first) (inner_is x most nest (not_deep nest (sym deep ∙ p1.0))) ∙ ap (λ ms. lin x most (nest - 1) ms (left - 1) c.in_ok-first.first) (sym g) in
    told_exit _ _ _ _ c.from_residual-in_err-body.result c.from_residual-in_err-body.ensures.1 (into ∙ then_ok _ h3 ∙ then_bad _ (e4 ∙ c.in_err-body.ensures.told))

pub sum-returns-in_err-end-clause-told : goal.sum-returns-in_err-end-clause-told
sum-returns-in_err-end-clause-told t c =
    let x = c.args.self.now.text.now in
    let ns = names_in x c.args.self.now.scope.now in
    let left = c.args.self.now.left in
    let most = length x + 1 in
    let nest = c.args.self.now.nest in
    let at = c.args.at in
    let start = c.args.start in
    let inner = inner_of x most nest in
    let deep = deep_is nest in
    let way = sum_as x ns left most (deep_of nest) inner start at in
    let (b, h1, p1) = c.in_ok-over.ensures.told in
    let d1 = ap (λ d. bound_at x ns d start at) (sym deep) ∙ h1 in
    let g = c.inside-scope.ensures.names ∙ ap (λ v. with_index v ns) (sym p1.2) in
    let over = c.in_ok-over.over in
    let e2 = ap (λ ms. filter_at x ms left most over.index.end) (sym g) in
    let (d, h2, p2) = c.in_ok-only.ensures.told in
    let only = c.in_ok-only.only in
    let on = way ∙ then_ok _ d1 ∙ then_ok _ (e2 ∙ h2) in
    let into = on ∙ body_open x ns left inner b d only.end (is_byte _ _ c.if-not-is_at.ensures) c.if-self-eq0.false in
    let (u, h3, p3) = c.in_ok-first.ensures.told in
    let e4 = ap (λ f. f (with_index b.index ns) (left - 1) c.in_ok-first.first) (inner_is x most nest (not_deep nest (sym deep ∙ p1.0))) ∙ ap (λ ms. lin x most (nest - 1) ms (left - 1) c.in_ok-first.first) (sym g) in
    let (l, h4, p4) = c.in_ok-body.ensures.told in
    let body = c.in_ok-body.body in
    told_exit _ _ _ _ c.from_residual-in_err-end.result c.from_residual-in_err-end.ensures.1 (into ∙ then_ok _ h3 ∙ then_ok _ (e4 ∙ h4) ∙ then_bad _ c.in_err-end.ensures.told)

pub sum-returns-clause-told : goal.sum-returns-clause-told
sum-returns-clause-told t c =
    let x = c.args.self.now.text.now in
    let ns = names_in x c.args.self.now.scope.now in
    let left = c.args.self.now.left in
    let most = length x + 1 in
    let nest = c.args.self.now.nest in
    let at = c.args.at in
    let start = c.args.start in
    let inner = inner_of x most nest in
    let deep = deep_is nest in
    let way = sum_as x ns left most (deep_of nest) inner start at in
    let (b, h1, p1) = c.in_ok-over.ensures.told in
    let d1 = ap (λ d. bound_at x ns d start at) (sym deep) ∙ h1 in
    let g = c.inside-scope.ensures.names ∙ ap (λ v. with_index v ns) (sym p1.2) in
    let over = c.in_ok-over.over in
    let e2 = ap (λ ms. filter_at x ms left most over.index.end) (sym g) in
    let (d, h2, p2) = c.in_ok-only.ensures.told in
    let only = c.in_ok-only.only in
    let on = way ∙ then_ok _ d1 ∙ then_ok _ (e2 ∙ h2) in
    let into = on ∙ body_open x ns left inner b d only.end (is_byte _ _ c.if-not-is_at.ensures) c.if-self-eq0.false in
    let (u, h3, p3) = c.in_ok-first.ensures.told in
    let e4 = ap (λ f. f (with_index b.index ns) (left - 1) c.in_ok-first.first) (inner_is x most nest (not_deep nest (sym deep ∙ p1.0))) ∙ ap (λ ms. lin x most (nest - 1) ms (left - 1) c.in_ok-first.first) (sym g) in
    let (l, h4, p4) = c.in_ok-body.ensures.told in
    let body = c.in_ok-body.body in
    let (v, h5, p5) = c.in_ok-end.ensures.told in
    let k = c.write-next.ensures in (
      sum_over b.set b.index d l,
      into ∙ then_ok _ h3 ∙ then_ok _ (e4 ∙ h4) ∙ then_ok _ h5,
      sum_made x c.args.words.now c.filter.new.words c.linear.new.words c.write-next.new.words ns (names_in x c.inside-scope.result) start over.index.end c.in_ok-first.first c.args.free c.write-next.result c.in_ok-end.end over.set b d l only body
          (let y = c.requires.start in let z = p1.3 in omega arith) p3.0 p5.0 (p5.1 p4.inside) (p5.2 p4.short) c.requires.room.1 p1.1 g p2 p4 c.filter.ensures.kept c.linear.ensures.kept k.next (λ y z r s. sum_tree c.linear.new.words c.write-next.new.words body.next (let q = p4.forward in let o = p2.forward in omega arith) k.kept (record { set = over.set; filter = only.condition; body = body.place }) y r z s k.here),
    )

pub term-returns-in_err-first-clause-told : goal.term-returns-in_err-first-clause-told
term-returns-in_err-first-clause-told t c =
    let x = c.args.self.now.text.now in
    let ns = names_in x c.args.self.now.scope.now in
    let left = c.args.self.now.left in
    let most = length x + 1 in
    let nest = c.args.self.now.nest in
    let at = c.args.at in
    let way = term_number x ns left most nest at (sym c.if-not-is_letter_at.ensures) in
    told_exit _ _ _ _ c.from_residual.result c.from_residual.ensures.1 (way ∙ then_bad _ c.in_err-first.ensures.told)

pub term-returns-then-not-is_letter_at-clause-told : goal.term-returns-then-not-is_letter_at-clause-told
term-returns-then-not-is_letter_at-clause-told t c =
    let x = c.args.self.now.text.now in
    let ns = names_in x c.args.self.now.scope.now in
    let left = c.args.self.now.left in
    let most = length x + 1 in
    let nest = c.args.self.now.nest in
    let at = c.args.at in
    let way = term_number x ns left most nest at (sym c.if-not-is_letter_at.ensures) in
    let (n, h, p) = c.in_ok-first.ensures.told in
    let s = c.number.ensures.kept in
    told_on _ _ _ _ _ c.after_number.result (way ∙ then_ok _ h) (λ f r q. q) (c.after_number.ensures.told n at c.args.free c.args.words.now c.requires.room.1 s p)

pub term-returns-in_err-end-clause-told : goal.term-returns-in_err-end-clause-told
term-returns-in_err-end-clause-told t c =
    let x = c.args.self.now.text.now in
    let ns = names_in x c.args.self.now.scope.now in
    let left = c.args.self.now.left in
    let most = length x + 1 in
    let nest = c.args.self.now.nest in
    let at = c.args.at in
    let letter = sym c.if-not-is_letter_at.ensures in
    told_exit _ _ _ _ c.from_residual-in_err-end.result c.from_residual-in_err-end.ensures.1 (term_broken x ns left most nest at _ letter c.in_err-end.ensures.told)

pub term-returns-in_err-first-2-clause-told : goal.term-returns-in_err-first-2-clause-told
term-returns-in_err-first-2-clause-told t c =
    let x = c.args.self.now.text.now in
    let ns = names_in x c.args.self.now.scope.now in
    let left = c.args.self.now.left in
    let most = length x + 1 in
    let nest = c.args.self.now.nest in
    let at = c.args.at in
    let letter = sym c.if-not-is_letter_at.ensures in
    let (w, h, p) = c.in_ok-end.ensures.told in
    let end = c.in_ok-end.end in
    let way = term_name x ns left most nest at w end letter h (λ k e. c.in_default.ensures k (sym p.2 ∙ e)) in
    let e1 = ap (λ v. named x ns left (num x ns (left - 1)) at v end) p.2 in
    told_exit _ _ _ _ c.from_residual-in_err-first-2.result c.from_residual-in_err-first-2.ensures.1 (way ∙ then_bad _ (e1 ∙ c.in_err-first-2.ensures.told))

pub term-returns-in_default-clause-told : goal.term-returns-in_default-clause-told
term-returns-in_default-clause-told t c =
    let x = c.args.self.now.text.now in
    let ns = names_in x c.args.self.now.scope.now in
    let left = c.args.self.now.left in
    let most = length x + 1 in
    let nest = c.args.self.now.nest in
    let at = c.args.at in
    let letter = sym c.if-not-is_letter_at.ensures in
    let (w, h, p) = c.in_ok-end.ensures.told in
    let end = c.in_ok-end.end in
    let way = term_name x ns left most nest at w end letter h (λ k e. c.in_default.ensures k (sym p.2 ∙ e)) in
    let e1 = ap (λ v. named x ns left (num x ns (left - 1)) at v end) p.2 in
    let (n, i, q) = c.in_ok-first-2.ensures.told in
    let s = c.named.ensures.kept in
    told_on _ _ _ _ _ c.after_number-in_default.result (way ∙ then_ok _ (e1 ∙ i)) (λ f r o. o) (c.after_number-in_default.ensures.told n at c.args.free c.args.words.now c.requires.room.1 s q)

pub term-returns-in_err-node-clause-told : goal.term-returns-in_err-node-clause-told
term-returns-in_err-node-clause-told t c =
    let x = c.args.self.now.text.now in
    let ns = names_in x c.args.self.now.scope.now in
    let left = c.args.self.now.left in
    let most = length x + 1 in
    let nest = c.args.self.now.nest in
    let at = c.args.at in
    let letter = sym c.if-not-is_letter_at.ensures in
    let (w, h, p) = c.in_ok-end.ensures.told in
    let end = c.in_ok-end.end in
    let way = term_sum x ns left most nest at w end letter h (p.2 ∙ c.in-Some.ensures ∙ ap spelled (differs_false the_type tt c.in-Some.reserved Sum (sym c.if-ne.ensures))) in
    told_exit _ _ _ _ c.from_residual-in_err-node.result c.from_residual-in_err-node.ensures.1 (way ∙ then_bad _ c.in_err-node.ensures.told)

pub term-returns-clause-told : goal.term-returns-clause-told
term-returns-clause-told t c =
    let x = c.args.self.now.text.now in
    let ns = names_in x c.args.self.now.scope.now in
    let left = c.args.self.now.left in
    let most = length x + 1 in
    let nest = c.args.self.now.nest in
    let at = c.args.at in
    let letter = sym c.if-not-is_letter_at.ensures in
    let (w, h, p) = c.in_ok-end.ensures.told in
    let end = c.in_ok-end.end in
    let way = term_sum x ns left most nest at w end letter h (p.2 ∙ c.in-Some.ensures ∙ ap spelled (differs_false the_type tt c.in-Some.reserved Sum (sym c.if-ne.ensures))) in
    let (s, i, q) = c.in_ok-node.ensures.told in
    told_on _ _ _ _ _ c.after.result (way ∙ then_ok _ i) (λ f r o. spaced_made x c.args.words.now c.sum.new.words ns at c.args.free s c.in_ok-node.node f r o q) (c.after.ensures.told s)

pub term-returns-then-ne-clause-told : goal.term-returns-then-ne-clause-told
term-returns-then-ne-clause-told t c =
    let x = c.args.self.now.text.now in
    let ns = names_in x c.args.self.now.scope.now in
    let left = c.args.self.now.left in
    let most = length x + 1 in
    let nest = c.args.self.now.nest in
    let at = c.args.at in
    let letter = sym c.if-not-is_letter_at.ensures in
    let (w, h, p) = c.in_ok-end.ensures.told in
    let end = c.in_ok-end.end in
    term_stop x ns left most nest at w end letter h
    (λ e. differs_true the_type c.in-Some.reserved Sum (sym c.if-ne.ensures) (is_sum c.in-Some.reserved (sym c.in-Some.ensures ∙ sym p.2 ∙ e)))
    (ap (λ v. member v reserved) p.2 ∙ some_member _ c.in-Some.reserved c.in-Some.ensures)

pub terms-loop-term-init : goal.terms-loop-term-init
terms-loop-term-init t c =
    let x = c.args.self.now.text.now in (
      omega arith,
      c.requires.inside,
      c.requires.room.0,
      omega arith,
      omega arith,
      omega arith,
      agree_self _ _ _,
      (
        [],
        stacked_none c.args.pending.now c.args.free c.args.words.now,
        λ turns l. (turns, (λ r. r), l, wrapped_none (terms_at x (names_in x c.args.self.now.scope.now) c.args.self.now.left (length x + 1) c.args.self.now.nest turns c.args.at), λ r. (refl, chained_none _)),
      ),
    )

pub terms-returns-in_err-term-clause-told : goal.terms-returns-in_err-term-clause-told
terms-returns-in_err-term-clause-told τ c =
    let x = c.args.self.now.text.now in
    let ns = names_in x c.args.self.now.scope.now in
    let left = c.args.self.now.left in
    let most = length x + 1 in
    let nest = c.args.self.now.nest in
    let free = c.args.free in
    let here = c.loop-term.here in
    let top = c.loop-term.top in
    let next = c.loop-term.next in
    let inv = c.loop-term.invariant in
    let (is, st, all) = inv.7 in
    let kept = agree_more free next c.args.words.now c.loop-term.words c.term.new.words inv.3 inv.6 c.term.ensures.kept in
    λ turns l.
    let (f, W, m, e, r) = all turns l in
    let z : f ≡ suc (f - 1) = let i = inv.1 in omega arith in
    told_exit _ _ _ _ c.from_residual.result c.from_residual.ensures.1 (e ∙ then_bad _ (ap (λ n. terms_at x ns left most nest n here) z ∙ terms_bad x ns left most nest (f - 1) here _ c.in_err-term.ensures.told))

pub terms-returns-in_err-another-clause-told : goal.terms-returns-in_err-another-clause-told
terms-returns-in_err-another-clause-told τ c =
    let x = c.args.self.now.text.now in
    let ns = names_in x c.args.self.now.scope.now in
    let left = c.args.self.now.left in
    let most = length x + 1 in
    let nest = c.args.self.now.nest in
    let free = c.args.free in
    let here = c.loop-term.here in
    let top = c.loop-term.top in
    let next = c.loop-term.next in
    let inv = c.loop-term.invariant in
    let (is, st, all) = inv.7 in
    let kept = agree_more free next c.args.words.now c.loop-term.words c.term.new.words inv.3 inv.6 c.term.ensures.kept in
    let (F, h, told) = c.in_ok-term.ensures.told in
    let (t, i, M, sp) = told in
    let term = c.in_ok-term.term in
    let e = term.node.end in
    let a = sign_tag c.loop-term.sign in
    let ps = c.loop-term.pending in
    let qs = put_mid top (length ps - top) ps c.term.new.pending in
    let few : top + 2 ≤ length qs = let y = inv.5 in let z = M.onward in let w = M.short in let u = same_len_mid top (length ps - top) ps c.term.new.pending c.term.auto.pending in omega arith in
    let r-next : 1810 ≤ next = let y = inv.3 in let z = c.requires.room.1 in omega arith in
    let waits = term_waits x c.loop-term.pending qs c.loop-term.words c.term.new.words ns here next top a is c.loop-term.sign t term.node r-next few (sign_is c.loop-term.sign) c.term.ensures.kept (lent_above top ps c.term.new.pending (omega arith)) st M in
    λ turns l.
    let (f, W, m, eq, r) = all turns l in
    let z : f ≡ suc (f - 1) = let y = inv.1 in omega arith in
    told_exit _ _ _ _ c.from_residual-in_err-another.result c.from_residual-in_err-another.ensures.1
    (eq ∙ then_bad _ (ap (λ n. terms_at x ns left most nest n here) z ∙ terms_broken x ns left most nest (f - 1) here F term.spaced t e h i _ (c.in_err-another.ensures.told t)))

pub terms-returns-in_default-clause-told : goal.terms-returns-in_default-clause-told
terms-returns-in_default-clause-told τ c =
    let x = c.args.self.now.text.now in
    let ns = names_in x c.args.self.now.scope.now in
    let left = c.args.self.now.left in
    let most = length x + 1 in
    let nest = c.args.self.now.nest in
    let free = c.args.free in
    let here = c.loop-term.here in
    let top = c.loop-term.top in
    let next = c.loop-term.next in
    let inv = c.loop-term.invariant in
    let (is, st, all) = inv.7 in
    let kept = agree_more free next c.args.words.now c.loop-term.words c.term.new.words inv.3 inv.6 c.term.ensures.kept in
    let (F, h, told) = c.in_ok-term.ensures.told in
    let (t, i, M, sp) = told in
    let term = c.in_ok-term.term in
    let e = term.node.end in
    let a = sign_tag c.loop-term.sign in
    let ps = c.loop-term.pending in
    let qs = put_mid top (length ps - top) ps c.term.new.pending in
    let few : top + 2 ≤ length qs = let y = inv.5 in let z = M.onward in let w = M.short in let u = same_len_mid top (length ps - top) ps c.term.new.pending c.term.auto.pending in omega arith in
    let r-next : 1810 ≤ next = let y = inv.3 in let z = c.requires.room.1 in omega arith in
    let waits = term_waits x c.loop-term.pending qs c.loop-term.words c.term.new.words ns here next top a is c.loop-term.sign t term.node r-next few (sign_is c.loop-term.sign) c.term.ensures.kept (lent_above top ps c.term.new.pending (omega arith)) st M in
    let s = told_none x e _ c.in_ok-another.field-0 c.in_default.is (c.in_ok-another.ensures.told t) in
    λ turns l.
    let (f, W, m, eq, r) = all turns l in
    let z : f ≡ suc (f - 1) = let y = inv.1 in omega arith in
    let last = run_end t term.spaced in (
      W last,
      eq ∙ then_ok _ (ap (λ n. terms_at x ns left most nest n here) z ∙ terms_last x ns left most nest (f - 1) here F term.spaced t e h i e s),
      record {
        onward = let y = M.onward in let w = inv.0 in omega arith;
        inside = M.inside;
        short = M.short;
        spaced = sym (r last).0;
        forward = let y = M.forward in let w = inv.3 in omega arith;
        few = let y = M.onward in let w = inv.5 in omega arith;
        words = let y = M.words in let w = inv.4 in omega arith;
        sharp = λ b. let y = (sp b).1 in let w = inv.4 in omega arith;
        waiting = ((record { sign = c.loop-term.sign; term = term_of ns t }) ∷ is, waits, omega arith, sym ((r last).1 ∙ the_last ns is c.loop-term.sign t term.spaced));
      },
    )

pub terms-loop-term-smaller : goal.terms-loop-term-smaller
terms-loop-term-smaller τ c =
    let x = c.args.self.now.text.now in
    let ns = names_in x c.args.self.now.scope.now in
    let left = c.args.self.now.left in
    let most = length x + 1 in
    let nest = c.args.self.now.nest in
    let free = c.args.free in
    let here = c.loop-term.here in
    let top = c.loop-term.top in
    let next = c.loop-term.next in
    let inv = c.loop-term.invariant in
    let (is, st, all) = inv.7 in
    let kept = agree_more free next c.args.words.now c.loop-term.words c.term.new.words inv.3 inv.6 c.term.ensures.kept in
    let (F, h, told) = c.in_ok-term.ensures.told in
    let (t, i, M, sp) = told in
    let term = c.in_ok-term.term in
    let e = term.node.end in
    let a = sign_tag c.loop-term.sign in
    let ps = c.loop-term.pending in
    let qs = put_mid top (length ps - top) ps c.term.new.pending in
    let few : top + 2 ≤ length qs = let y = inv.5 in let z = M.onward in let w = M.short in let u = same_len_mid top (length ps - top) ps c.term.new.pending c.term.auto.pending in omega arith in
    let r-next : 1810 ≤ next = let y = inv.3 in let z = c.requires.room.1 in omega arith in
    let waits = term_waits x c.loop-term.pending qs c.loop-term.words c.term.new.words ns here next top a is c.loop-term.sign t term.node r-next few (sign_is c.loop-term.sign) c.term.ensures.kept (lent_above top ps c.term.new.pending (omega arith)) st M in
    let (s, k, u, v) = told_some x e _ c.in_ok-another.field-0 c.in-Some.another c.in-Some.is (c.in_ok-another.ensures.told t) in
    let y = M.onward in
    omega arith

pub terms-loop-term-preserved : goal.terms-loop-term-preserved
terms-loop-term-preserved τ c =
    let x = c.args.self.now.text.now in
    let ns = names_in x c.args.self.now.scope.now in
    let left = c.args.self.now.left in
    let most = length x + 1 in
    let nest = c.args.self.now.nest in
    let free = c.args.free in
    let here = c.loop-term.here in
    let top = c.loop-term.top in
    let next = c.loop-term.next in
    let inv = c.loop-term.invariant in
    let (is, st, all) = inv.7 in
    let kept = agree_more free next c.args.words.now c.loop-term.words c.term.new.words inv.3 inv.6 c.term.ensures.kept in
    let (F, h, told) = c.in_ok-term.ensures.told in
    let (t, i, M, sp) = told in
    let term = c.in_ok-term.term in
    let e = term.node.end in
    let a = sign_tag c.loop-term.sign in
    let ps = c.loop-term.pending in
    let qs = put_mid top (length ps - top) ps c.term.new.pending in
    let few : top + 2 ≤ length qs = let y = inv.5 in let z = M.onward in let w = M.short in let u = same_len_mid top (length ps - top) ps c.term.new.pending c.term.auto.pending in omega arith in
    let r-next : 1810 ≤ next = let y = inv.3 in let z = c.requires.room.1 in omega arith in
    let waits = term_waits x c.loop-term.pending qs c.loop-term.words c.term.new.words ns here next top a is c.loop-term.sign t term.node r-next few (sign_is c.loop-term.sign) c.term.ensures.kept (lent_above top ps c.term.new.pending (omega arith)) st M in
    let another = c.in-Some.another in
    let (s, k, u, v) = told_some x e _ c.in_ok-another.field-0 another c.in-Some.is (c.in_ok-another.ensures.told t) in
    let spaced = some_spaced x t e term.spaced another.value another.end s in
    let (far, more) = sp spaced in (
      (let y = M.onward in let w = inv.0 in omega arith),
      u,
      v,
      (let y = M.forward in let w = inv.3 in omega arith),
      (let w = inv.4 in omega arith),
      (let w = inv.5 in omega arith),
      kept,
      (
        (record { sign = c.loop-term.sign; term = term_of ns t }) ∷ is,
        waits,
        λ turns l.
            let (f, W, m, eq, r) = all turns l in
            let z : f ≡ suc (f - 1) = let y = inv.1 in omega arith in (
              f - 1,
              (λ q. W (run_more t another.value q)),
              (let y = M.onward in omega arith),
              eq ∙ wrapped W _ (terms_at x ns left most nest (f - 1) another.end) t another.value (ap (λ n. terms_at x ns left most nest n here) z ∙ terms_more x ns left most nest (f - 1) here F term.spaced t e h i another.value another.end s),
              λ q. ((r (run_more t another.value q)).0, (r (run_more t another.value q)).1 ∙ one_more ns is c.loop-term.sign another.value t q),
            ),
      ),
    )

pub linear-returns-clause-kept : goal.linear-returns-clause-kept
linear-returns-clause-kept t c =
    let (r, h, p) = c.in_ok-found.ensures.told (length c.args.self.now.text.now + 1) (turns_enough (length c.args.self.now.text.now) c.args.at) in
    agree_more c.args.free c.in_ok-found.found.next c.args.words.now c.terms.new.words c.chain-sum.new.words p.forward c.terms.ensures.kept c.chain-sum.ensures.kept

pub linear-slice_bounds-chain-end : goal.linear-slice_bounds-chain-end
linear-slice_bounds-chain-end t c =
    let (r, h, p) = c.in_ok-found.ensures.told (length c.args.self.now.text.now + 1) (turns_enough (length c.args.self.now.text.now) c.args.at) in
    let y = p.few in
    let i = p.short in
    let z = c.terms.auto.pending in
    omega arith

pub linear-slice_bounds-chain-end-2 : goal.linear-slice_bounds-chain-end-2
linear-slice_bounds-chain-end-2 t c =
    let (r, h, p) = c.in_ok-found.ensures.told (length c.args.self.now.text.now + 1) (turns_enough (length c.args.self.now.text.now) c.args.at) in
    let y = p.few in
    let i = p.short in
    let z = c.terms.auto.pending in
    sym (length-take-le c.in_ok-found.found.top c.terms.new.pending (omega arith))
