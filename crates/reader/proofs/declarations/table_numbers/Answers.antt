use Rattle.std.proofs.Common.{◌+◌, length, sym, ap, ◌∙◌, arith, w64, SFits, rules}
use Rattle.std.proofs.lemmas.Int.{to_z-of_z}
use Rattle.std.proofs.lemmas.Bool.{eqb-true, eqb-false}
use Rattle.grammar.specs.Reading.{bad}
use Rattle.tokens.proofs.Steps.{told_exit}
use Rattle.reader.proofs.Tabled.{put_done, comma_bad, too_many, number_bad, no_comma, so_far_none, so_far_room, so_far_bad, so_far_done, so_far_more}
use Rattle.reader.proofs.declarations.table_numbers.Goals as goal

pub loop-i-init : goal.loop-i-init
loop-i-init c = so_far_none c.args.text.now c.args.words.now c.args.line c.args.free c.args.wanted c.args.at c.requires.place

pub returns-then-not-is_at-clause-told : goal.returns-then-not-is_at-clause-told
returns-then-not-is_at-clause-told c =
    so_far_bad c.loop-i.invariant _ (no_comma _ _ _ _ (omega arith) (eqb-false _ _ (sym c.if-not-is_at.ensures)) ∙ ap bad (sym c.too_few.ensures))

pub returns-in_err-from-clause-told : goal.returns-in_err-from-clause-told
returns-in_err-from-clause-told c =
    let z = c.from_residual in
    told_exit _ _ _ _ z.result z.ensures.1 (so_far_bad c.loop-i.invariant _ (comma_bad _ _ _ _ _ (eqb-true _ _ (sym c.if-not-is_at.ensures)) c.in_err-from.ensures.told))

pub returns-in_err-found-clause-told : goal.returns-in_err-found-clause-told
returns-in_err-found-clause-told c =
    let z = c.from_residual-in_err-found in
    let (u, h, p) = c.in_ok-from.ensures.told in
    told_exit _ _ _ _ z.result z.ensures.1 (so_far_bad c.loop-i.invariant _ (number_bad _ _ _ _ _ _ (omega arith) (eqb-true _ _ (sym c.if-not-is_at.ensures)) h c.in_err-found.ensures.told))

pub loop-i-preserved : goal.loop-i-preserved
loop-i-preserved c =
    let (u, h, p) = c.in_ok-from.ensures.told in
    let (n, i, q) = c.in_ok-found.ensures.told in
    let s = c.loop-i.invariant in
    let f : SFits w64 c.in_ok-found.found.value = search rules in
    let r = so_far_room s c.requires.short c.requires.room in
    let (g, y) = put_done c.put_number.result (length c.loop-i.words) (c.args.free + c.loop-i.i) c.put_number.ensures.appends.next (omega arith) r c.put_number.ensures.here in
    so_far_more s c.put_number.new.words c.in_ok-from.from n c.in_ok-found.found (eqb-true _ _ (sym c.if-not-is_at.ensures)) (omega arith) h p i q c.put_number.ensures.appends.below
    (y ∙ to_z-of_z w64 c.in_ok-found.found.value f)

pub returns-then-not-is_at-2-clause-told : goal.returns-then-not-is_at-2-clause-told
returns-then-not-is_at-2-clause-told c = so_far_done c.loop-i.invariant (omega arith) (eqb-false _ _ (sym c.if-not-is_at-2.ensures))

pub returns-in_err-literal-clause-told : goal.returns-in_err-literal-clause-told
returns-in_err-literal-clause-told c =
    let z = c.from_residual-in_err-literal in
    told_exit _ _ _ _ z.result z.ensures.1 (so_far_bad c.loop-i.invariant _ (comma_bad _ _ _ _ _ (eqb-true _ _ (sym c.if-not-is_at-2.ensures)) c.in_err-literal.ensures.told))

pub returns-clause-told : goal.returns-clause-told
returns-clause-told c =
    let (u, h, p) = c.in_ok-literal.ensures.told in
    so_far_bad c.loop-i.invariant _ (too_many _ _ _ _ _ (omega arith) (eqb-true _ _ (sym c.if-not-is_at-2.ensures)) h)
