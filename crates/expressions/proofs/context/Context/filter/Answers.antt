use Rattle.std.proofs.Common.{eqb, Some, None, sym, ◌∙◌, arith}
use Rattle.std.proofs.lemmas.Bool.{cond-true, cond-false, eq-eqb, ne_eqb}
use Rattle.grammar.specs.Reading.{byte}
use Rattle.scope.specs.Names.{names_in}
use Rattle.expressions.proofs.Ways.{is_byte, no_byte}
use Rattle.tokens.proofs.Steps.{then_ok}
use Rattle.expressions.specs.Conditions.{filter_at}
use Rattle.expressions.proofs.CondTrees.{no_filter_made, filter_made}
use Rattle.expressions.proofs.context.Context.filter.Goals as goal

pub returns-then-not-is_at-clause-told : goal.returns-then-not-is_at-clause-told
unfolding filter_at
returns-then-not-is_at-clause-told c =
    let x = c.args.self.now.text.now in
    let at = c.args.at in
    let way = cond-false (eqb (byte x at) 32) _ _ (ne_eqb (byte x at) 32 (no_byte _ _ c.if-not-is_at.ensures)) in
    let (u, h, p) = c.in_ok-end.ensures.told in
    (None, way ∙ then_ok _ h, no_filter_made x c.args.words.now c.args.words.now at c.in_ok-end.end c.args.free (names_in x c.args.self.now.scope.now) (sym p.0) (p.1 c.requires.inside) (p.2 c.requires.room.0))

pub returns-clause-told : goal.returns-clause-told
unfolding filter_at
returns-clause-told c =
    let x = c.args.self.now.text.now in
    let at = c.args.at in
    let b = is_byte _ _ c.if-not-is_at.ensures in
    let way = cond-true (eqb (byte x at) 32) _ _ (eq-eqb (byte x at) 32 b) in
    let (u, h, p) = c.in_ok-here.ensures.told in
    let (d, g, q) = c.in_ok-only.ensures.told in
    let (v, f, s) = c.in_ok-end-2.ensures.told in (
      Some d,
      way ∙ then_ok _ h ∙ then_ok _ g ∙ then_ok _ f,
      filter_made x c.args.words.now c.condition.new.words at c.in_ok-here.here c.in_ok-end-2.end c.args.free (names_in x c.args.self.now.scope.now) d c.in_ok-only.only (omega arith) (omega arith) (s.1 q.inside) (s.2 q.short) c.requires.room.1 q,
    )
