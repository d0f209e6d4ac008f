use Rattle.compose.proofs.Trees.{term_tree}
use Rattle.std.proofs.Common.{◌≡◌, false, Some, sym, ap, ◌∙◌, arith}
use Rattle.grammar.specs.Grammar.{times1, times2}
use Rattle.grammar.specs.Reading.{find, array_there}
use Rattle.scope.specs.Names.{names_in, sort_of, sort_told}
use Rattle.tokens.proofs.Steps.{then_ok, then_bad, told_exit, told_on}
use Rattle.expressions.proofs.Ways.{placed}
use Rattle.expressions.proofs.TermTrees.{no_variable, variable_places, times_made, spaced_made}
use Rattle.expressions.proofs.context.Context.variable.Goals as goal

pub returns-in_default-clause-told : goal.returns-in_default-clause-told
returns-in_default-clause-told c =
    let (w, h, p) = c.in_ok-end.ensures.told in
    let o : array_there (sort_told c.find.result) ≡ false = grind arith in
    λ e begin free us l s m. no_variable c.args.self.now.text.now _ c.args.self.now.left e c.args.at w c.in_ok-end.end _ _ h p.2 c.find.ensures o

pub returns-in_default-2-clause-told : goal.returns-in_default-2-clause-told
returns-in_default-2-clause-told c =
    let (w, h, p) = c.in_ok-end.ensures.told in
    let o : array_there (sort_told c.find.result) ≡ false = grind arith in
    λ e begin free us l s m. no_variable c.args.self.now.text.now _ c.args.self.now.left e c.args.at w c.in_ok-end.end _ _ h p.2 c.find.ensures o

pub returns-in_err-cell-clause-told : goal.returns-in_err-cell-clause-told
returns-in_err-cell-clause-told c =
    let x = c.args.self.now.text.now in
    let ns = names_in x c.args.self.now.scope.now in
    let (w, h, p) = c.in_ok-end.ensures.told in
    let i = ap (λ v. find v ns) p.2 ∙ sym c.in-Some-Array.ensures ∙ ap (λ s. Some (sort_of s)) c.in-Some-Array.field-0-is in
    λ e begin free us l s m. told_exit _ _ _ _ c.from_residual-in_err-cell.result c.from_residual-in_err-cell.ensures.1
    (variable_places x ns c.args.self.now.left e c.args.at w c.in_ok-end.end c.in-Some-Array.array h i ∙ then_bad _ c.in_err-cell.ensures.told)

pub returns-clause-told : goal.returns-clause-told
returns-clause-told c =
    let x = c.args.self.now.text.now in
    let ns = names_in x c.args.self.now.scope.now in
    let n = c.args.number in
    let (w, h, p) = c.in_ok-end.ensures.told in
    let i = ap (λ v. find v ns) p.2 ∙ sym c.in-Some-Array.ensures ∙ ap (λ s. Some (sort_of s)) c.in-Some-Array.field-0-is in
    let (a, g, q) = c.in_ok-cell.ensures.told in
    let cell = c.in_ok-cell.cell in
    let k = c.write-next.ensures in
    λ e begin free us l s m. told_on _ _ _ _ _ c.after.result
    (variable_places x ns c.args.self.now.left e c.args.at w c.in_ok-end.end c.in-Some-Array.array h i ∙ then_ok _ g)
    (λ f r o. spaced_made x us c.write-next.new.words ns begin free (placed (times1 e w) (times2 e w) a) _ f r o
    (times_made x us c.args.words.now c.places.new.words c.write-next.new.words ns begin free c.in_ok-end.end c.write-next.result w c.in-Some-Array.array e a n cell l s c.places.ensures.kept
    (omega arith) i m q k.next (λ y z o r t v. term_tree c.places.new.words c.write-next.new.words cell.next (let f = q.forward in omega arith) k.kept (record { number = n.place; array = c.in-Some-Array.array.number; row = cell.row; column = cell.column }) y z o r t v k.here)))
    (c.after.ensures.told (placed (times1 e w) (times2 e w) a))
