use Rattle.std.proofs.Common.{◌≡◌, suc, ◌-◌, [], ◌∷◌, ◌++◌, length, sym, ap, ◌∙◌, subst, add-one, arith}
use Rattle.compose.proofs.Trees.{both_tree}
use Rattle.expressions.proofs.Ways.{is_byte, no_byte}
use Rattle.compose.proofs.Settled.{agree_self}
use Rattle.grammar.specs.Reading.{condition, num}
use Rattle.scope.specs.Names.{names_in}
use Rattle.tokens.proofs.Steps.{then_ok, then_bad, told_exit, inside}
use Rattle.expressions.specs.Conditions.{CondMade}
use Rattle.expressions.proofs.NumberTrees.{agree_more, agree_back, zero_on, made_from}
use Rattle.expressions.proofs.CondTrees.{both_made}
use Rattle.expressions.proofs.Parts.{all_of, all_one, all_more, rest_at, joined_rest, first_part, rest_ended, rest_broken, rest_bad, rest_more}
use Rattle.expressions.proofs.context.Context.condition.Goals as goal

pub returns-in_err-all-clause-told : goal.returns-in_err-all-clause-told
returns-in_err-all-clause-told c =
    let x = c.args.self.now.text.now in
    let number = num x (names_in x c.args.self.now.scope.now) c.args.self.now.left in
    told_exit _ _ _ _ c.from_residual.result c.from_residual.ensures.1 (ap (λ n. condition x number n c.args.at) (add-one (length x)) ∙ first_part x number (length x) c.args.at ∙ then_bad _ c.in_err-all.ensures.told)

pub loop-all-init : goal.loop-all-init
loop-all-init c =
    let x = c.args.self.now.text.now in
    let ns = names_in x c.args.self.now.scope.now in
    let number = num x ns c.args.self.now.left in
    let (k, h, p) = c.in_ok-all.ensures.told in
    let s = c.compared.ensures.kept in (
      agree_self _ _ _,
      (
        [],
        k,
        length x,
        (let o = p.onward in omega arith),
        subst (λ d. CondMade x c.args.at c.args.free c.compared.new.words c.compared.new.words d c.in_ok-all.all) (sym (all_one ns k))
            (made_from (zero_on c.args.free c.compared.new.words c.args.words.now c.requires.room.1 (agree_back s)) p),
        ap (λ n. condition x number n c.args.at) (add-one (length x)) ∙ first_part x number (length x) c.args.at ∙ then_ok _ h,
      ),
    )

pub returns-in_err-here-clause-told : goal.returns-in_err-here-clause-told
returns-in_err-here-clause-told c =
    let x = c.args.self.now.text.now in
    let ns = names_in x c.args.self.now.scope.now in
    let number = num x ns c.args.self.now.left in
    let free = c.args.free in
    let all = c.loop-all.all in
    let (ks, k, f, l, m, r) = c.loop-all.invariant.1 in
    let e = is_byte _ _ c.loop-all-test.ensures in
    let begun = agree_more free free c.args.words.now c.compared.new.words c.loop-all.words (omega arith) c.compared.ensures.kept c.loop-all.invariant.0 in
    told_exit _ _ _ _ c.from_residual-in_err-here.result c.from_residual-in_err-here.ensures.1 (r ∙ rest_broken x number ks k f all.end _ e c.in_err-here.ensures.told)

pub returns-in_err-part-clause-told : goal.returns-in_err-part-clause-told
returns-in_err-part-clause-told c =
    let x = c.args.self.now.text.now in
    let ns = names_in x c.args.self.now.scope.now in
    let number = num x ns c.args.self.now.left in
    let free = c.args.free in
    let all = c.loop-all.all in
    let (ks, k, f, l, m, r) = c.loop-all.invariant.1 in
    let e = is_byte _ _ c.loop-all-test.ensures in
    let begun = agree_more free free c.args.words.now c.compared.new.words c.loop-all.words (omega arith) c.compared.ensures.kept c.loop-all.invariant.0 in
    let (u, h, p) = c.in_ok-here.ensures.told in
    let i = inside x all.end (omega arith) in
    let z : f ≡ suc (f - 1) = omega arith in
    told_exit _ _ _ _ c.from_residual-in_err-part.result c.from_residual-in_err-part.ensures.1
    (r ∙ ap (λ n. joined_rest ks k (rest_at x number n all.end)) z ∙ rest_bad x number ks k (f - 1) all.end c.in_ok-here.here e h _ c.in_err-part.ensures.told)

pub loop-all-preserved : goal.loop-all-preserved
loop-all-preserved c =
    let x = c.args.self.now.text.now in
    let ns = names_in x c.args.self.now.scope.now in
    let number = num x ns c.args.self.now.left in
    let free = c.args.free in
    let all = c.loop-all.all in
    let (ks, k, f, l, m, r) = c.loop-all.invariant.1 in
    let e = is_byte _ _ c.loop-all-test.ensures in
    let begun = agree_more free free c.args.words.now c.compared.new.words c.loop-all.words (omega arith) c.compared.ensures.kept c.loop-all.invariant.0 in
    let (u, h, p) = c.in_ok-here.ensures.told in
    let (j, g, q) = c.in_ok-part.ensures.told in
    let b = c.write-next.ensures in
    let i = inside x all.end (omega arith) in
    let z : f ≡ suc (f - 1) = omega arith in
    let part = c.in_ok-part.part in
    let next = agree_more free all.next c.compared.new.words c.loop-all.words c.compared-in-loop-all.new.words m.forward c.loop-all.invariant.0 c.compared-in-loop-all.ensures.kept in (
      agree_more free part.next c.compared.new.words c.compared-in-loop-all.new.words c.write-next.new.words (let o = q.forward in let w = m.forward in omega arith) next b.kept,
      (
        ks ++ (k ∷ []),
        j,
        f - 1,
        (let o = q.onward in omega arith),
        subst (λ d. CondMade x c.args.at free c.compared.new.words c.write-next.new.words d (record { place = part.next; next = c.write-next.result; end = part.end })) (sym (all_more ns ks k j))
            (both_made x c.compared.new.words c.loop-all.words c.compared-in-loop-all.new.words c.write-next.new.words c.args.at c.in_ok-here.here free c.write-next.result _ _ all part
            (omega arith) b.next c.requires.room.1 c.loop-all.invariant.0 c.compared-in-loop-all.ensures.kept m q (λ y z s t. both_tree c.compared-in-loop-all.new.words c.write-next.new.words part.next (let g = q.forward in let i = m.forward in omega arith) b.kept all.place part.place y z s t b.here)),
        r ∙ ap (λ n. joined_rest ks k (rest_at x number n all.end)) z ∙ rest_more x number ks k (f - 1) all.end c.in_ok-here.here e h j part.end g,
      ),
    )

pub returns-clause-told : goal.returns-clause-told
returns-clause-told c =
    let x = c.args.self.now.text.now in
    let ns = names_in x c.args.self.now.scope.now in
    let number = num x ns c.args.self.now.left in
    let free = c.args.free in
    let all = c.loop-all.all in
    let (ks, k, f, l, m, r) = c.loop-all.invariant.1 in
    let s = c.compared.ensures.kept in (
      all_of ks k,
      r ∙ rest_ended x number ks k f all.end (no_byte _ _ c.loop-all-test.ensures),
      made_from (zero_on free c.args.words.now c.compared.new.words c.requires.room.1 s) m,
    )
