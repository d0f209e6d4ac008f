use Rattle.std.proofs.Common.{eqb, Some, sym, ap, ◌∙◌, arith}
use Rattle.std.proofs.lemmas.Bool.{cond-true, cond-false, ne_eqb}
use Rattle.grammar.specs.Reading.{find, free, set_there}
use Rattle.scope.specs.Names.{names_in, sort_of}
use Rattle.tokens.proofs.Steps.{then_ok}
use Rattle.expressions.specs.Conditions.{bound_at}
use Rattle.expressions.proofs.Headers.{free_none}
use Rattle.expressions.proofs.context.Context.bound.Goals as goal

pub returns : goal.returns
unfolding bound_at
returns c =
    let x = c.args.self.now.text.now in
    let ns = names_in x c.args.self.now.scope.now in
    let (u, h1, p1) = c.in_ok-first.ensures.told in
    let deep = ne_eqb c.args.self.now.nest 0 c.if-self-eq0.false in
    let a = cond-false (eqb c.args.self.now.nest 0) _ _ deep in
    let (s, h2, p2) = c.in_ok-end.ensures.told in
    let e = ap (λ w. find w ns) p2.2 ∙ sym c.in-Some-Set.ensures ∙ ap (λ s. Some (sort_of s)) c.in-Some-Set.field-0-is in
    let b = cond-true (set_there (find s ns)) _ _ (ap set_there e) in
    let (v, h3, p3) = c.in_ok-begin.ensures.told in
    let (i, h4, p4) = c.in_ok-end-2.ensures.told in
    let way = then_ok _ h1 ∙ a ∙ then_ok _ h2 ∙ b ∙ then_ok _ h3 ∙ then_ok _ h4 in
    record {
      told = (
        record { set = s; index = i },
        way ∙ cond-true (free i ns) _ _ (free_none i ns c.find-2.result (c.find-2.ensures ∙ ap (λ w. find w ns) (sym p4.2)) (sym c.if-is_some.ensures)),
        (deep, e, p4.2, omega arith, p4.1, λ l. p4.3 (p3.2 (p2.3 (p1.2 l)))),
      );
    }
