use Rattle.expressions.proofs.Ways.{is_byte, no_byte}
use Rattle.std.proofs.Common.{◌≡◌, sym, arith}
use Rattle.grammar.specs.Grammar.{Num, alone}
use Rattle.scope.specs.Names.{names_in}
use Rattle.tokens.proofs.Steps.{told_on}
use Rattle.expressions.specs.Sums.{after_at, after_num_at}
use Rattle.expressions.proofs.TermTrees.{num_stop, num_past, num_space, num_variable, alone_made, spaced_made}
use Rattle.expressions.proofs.context.Context.after_number.Goals as goal
use Rattle.expressions.proofs.context.Context.after_number.Goals.{else-is_at-via-then-is_at+then-number-ne-LONGEST+else-is_letter_at, else-is_at-via-then-is_at+else-number-ne-LONGEST, else-is_at-via-else-is_at}

pub returns-then-is_letter_at-clause-told : goal.returns-then-is_letter_at-clause-told
returns-then-is_letter_at-clause-told c =
    let x = c.args.self.now.text.now in
    let ns = names_in x c.args.self.now.scope.now in
    λ e begin free us l s m. told_on _ _ _ _ _ c.variable.result (num_variable x ns c.args.self.now.left e c.args.number.end (is_byte _ _ c.if-is_at.ensures) c.if-number-ne-LONGEST.true (sym c.if-is_letter_at.ensures)) (λ f r o. o) (c.variable.ensures.told e begin free us l s m)

pub returns-clause-told : goal.returns-clause-told
returns-clause-told c =
    let x = c.args.self.now.text.now in
    let ns = names_in x c.args.self.now.scope.now in
    let n = c.args.number in
    let left = c.args.self.now.left in
    let way : (e : Num) → after_num_at x ns left e n.end ≡ after_at x (alone e) n.end = λ e.
    elim c.else-is_at.branch [
      | else-is_at-via-then-is_at+then-number-ne-LONGEST+else-is_letter_at w ↦ num_space x ns left e n.end (is_byte _ _ w.if-is_at.ensures) w.if-number-ne-LONGEST.true (sym w.if-is_letter_at.ensures)
      | else-is_at-via-then-is_at+else-number-ne-LONGEST w ↦ num_past x ns left e n.end (is_byte _ _ w.if-is_at.ensures) w.if-number-ne-LONGEST.false
      | else-is_at-via-else-is_at w ↦ num_stop x ns left e n.end (no_byte _ _ w.if-is_at.ensures)
    ] in
    λ e begin free us l s m.
    told_on _ _ _ _ _ c.after.result (way e) (λ f r o. spaced_made x us c.args.words.now ns begin free (alone e) n f r o (alone_made x us c.args.words.now ns begin free n.end e n (omega arith) c.requires.number.0 c.requires.room.0 m)) (c.after.ensures.told (alone e))
