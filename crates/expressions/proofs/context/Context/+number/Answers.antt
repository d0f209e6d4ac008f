use Rattle.std.proofs.Common.{◌-◌, eqb, Ok, Some, sym, ap, ◌∙◌, subst, arith}
use Rattle.std.proofs.lemmas.Bool.{cond-false, ne_eqb}
use Rattle.compose.proofs.Trees.{index_tree, entry_tree, joined_tree}
use Rattle.grammar.specs.Grammar.{joined, entry1, entry2, index}
use Rattle.grammar.specs.Reading.{ok, num, pair}
use Rattle.scope.specs.Names.{names_in, part, sort_of}
use Rattle.tokens.specs.Told.{Told}
use Rattle.tokens.proofs.Steps.{then_ok, then_bad, told_exit, told_on}
use Rattle.expressions.specs.Places.{one_of, two_of, enough, place_at, PlacesMade}
use Rattle.expressions.proofs.Ways.{is_byte, no_byte, num_fixed, placed, place_open, after_comma, after_wrong, after_one, named_index, named_table}
use Rattle.expressions.proofs.NumberTrees.{index_made, entry_made, joined_made, only_made, both_made, only_end}
use Rattle.expressions.proofs.context.Context.+number.Goals as goal

pub named-returns-then-not-is_at-clause-told : goal.named-returns-then-not-is_at-clause-told
named-returns-then-not-is_at-clause-told t c =
    let x = c.args.self.now.text.now in
    let ns = names_in x c.args.self.now.scope.now in
    let left = c.args.self.now.left in
    let name = c.args.name in
    let w = part x name in
    let f = sym c.in-Some-Index.ensures ∙ ap (λ s. Some (sort_of s)) c.in-Some-Index.field-0-is in
    let k = c.write-next.ensures in (
      index w,
      named_index x ns left (num x ns (left - 1)) name.begin w name.end c.in-Some-Index.level (no_byte _ _ c.if-not-is_at.ensures) f,
      index_made x c.args.words.now c.write-next.new.words name c.args.free c.write-next.result c.in-Some-Index.level ns w c.requires.name.0 c.requires.name.1 c.requires.room.0 c.requires.room.1 f k.next
          (index_tree c.args.words.now c.write-next.new.words c.args.free (omega arith) k.kept c.in-Some-Index.level k.here),
    )

pub named-returns-in_err-cell-clause-told : goal.named-returns-in_err-cell-clause-told
named-returns-in_err-cell-clause-told t c =
    let x = c.args.self.now.text.now in
    let ns = names_in x c.args.self.now.scope.now in
    let left = c.args.self.now.left in
    let name = c.args.name in
    let w = part x name in
    let f = sym c.in-Some-Table.ensures ∙ ap (λ s. Some (sort_of s)) c.in-Some-Table.field-0-is in
    let way = named_table x ns left (num x ns (left - 1)) name.begin w name.end c.in-Some-Table.table (is_byte _ _ c.if-not-is_at.ensures) f in
    told_exit _ _ _ _ c.from_residual.result c.from_residual.ensures.1 (way ∙ then_bad _ c.in_err-cell.ensures.told)

pub named-returns-clause-told : goal.named-returns-clause-told
named-returns-clause-told t c =
    let x = c.args.self.now.text.now in
    let ns = names_in x c.args.self.now.scope.now in
    let left = c.args.self.now.left in
    let name = c.args.name in
    let w = part x name in
    let g = c.in-Some-Table.table in
    let f = sym c.in-Some-Table.ensures ∙ ap (λ s. Some (sort_of s)) c.in-Some-Table.field-0-is in
    let way = named_table x ns left (num x ns (left - 1)) name.begin w name.end g (is_byte _ _ c.if-not-is_at.ensures) f in
    let (l, h, p) = c.in_ok-cell.ensures.told in
    let k = c.write-next-2.ensures in
    let cell = c.in_ok-cell.cell in (
      placed (entry1 w) (entry2 w) l,
      way ∙ then_ok _ h,
      entry_made x c.args.words.now c.places.new.words c.write-next-2.new.words name c.args.free c.write-next-2.result ns w g l cell c.requires.name.0 c.requires.room.1 f p k.next
          (λ a b q r. entry_tree c.places.new.words c.write-next-2.new.words cell.next (let z = p.forward in omega arith) k.kept cell.row cell.column a b q r g.number k.here),
    )

pub number-returns-then-not-is_letter_at-clause-told : goal.number-returns-then-not-is_letter_at-clause-told
number-returns-then-not-is_letter_at-clause-told t c =
    let x = c.args.self.now.text.now in
    let ns = names_in x c.args.self.now.scope.now in
    told_on _ _ _ _ _ c.fixed.result (num_fixed x ns c.args.self.now.left c.args.at (no_byte _ _ c.if-is_at.ensures) (sym c.if-not-is_letter_at.ensures)) (λ e r p. p) (c.fixed.ensures.told ns)

pub pair-returns-in_err-sign-clause-told : goal.pair-returns-in_err-sign-clause-told
unfolding pair
pair-returns-in_err-sign-clause-told t c =
    let d = cond-false (eqb c.args.self.now.left 0) _ _ (ne_eqb c.args.self.now.left 0 c.if-self-eq0.false) in
    let (a, h1, p1) = c.in_ok-inside.ensures.told in
    let (e, h2, p2) = c.in_ok-first.ensures.told in
    told_exit _ _ _ _ c.from_residual-in_err-sign.result c.from_residual-in_err-sign.ensures.1 (d ∙ then_ok _ h1 ∙ then_ok _ h2 ∙ then_bad _ c.in_err-sign.ensures.told)

pub pair-returns-in_err-joined-clause-told : goal.pair-returns-in_err-joined-clause-told
unfolding pair
pair-returns-in_err-joined-clause-told t c =
    let d = cond-false (eqb c.args.self.now.left 0) _ _ (ne_eqb c.args.self.now.left 0 c.if-self-eq0.false) in
    let (a, h1, p1) = c.in_ok-inside.ensures.told in
    let (e, h2, p2) = c.in_ok-first.ensures.told in
    let (b, h3, p3) = c.in_ok-sign.ensures.told in
    told_exit _ _ _ _ c.from_residual-in_err-joined.result c.from_residual-in_err-joined.ensures.1 (d ∙ then_ok _ h1 ∙ then_ok _ h2 ∙ then_ok _ h3 ∙ then_bad _ c.in_err-joined.ensures.told)

pub pair-returns-in_err-here-clause-told : goal.pair-returns-in_err-here-clause-told
unfolding pair
pair-returns-in_err-here-clause-told t c =
    let d = cond-false (eqb c.args.self.now.left 0) _ _ (ne_eqb c.args.self.now.left 0 c.if-self-eq0.false) in
    let (a, h1, p1) = c.in_ok-inside.ensures.told in
    let (e, h2, p2) = c.in_ok-first.ensures.told in
    let (b, h3, p3) = c.in_ok-sign.ensures.told in
    let (o, h4, p4) = c.in_ok-joined.ensures.told in
    told_exit _ _ _ _ c.from_residual-in_err-here.result c.from_residual-in_err-here.ensures.1 (d ∙ then_ok _ h1 ∙ then_ok _ h2 ∙ then_ok _ h3 ∙ then_ok _ h4 ∙ then_bad _ c.in_err-here.ensures.told)

pub pair-returns-in_err-second-clause-told : goal.pair-returns-in_err-second-clause-told
unfolding pair
pair-returns-in_err-second-clause-told t c =
    let d = cond-false (eqb c.args.self.now.left 0) _ _ (ne_eqb c.args.self.now.left 0 c.if-self-eq0.false) in
    let (a, h1, p1) = c.in_ok-inside.ensures.told in
    let (e, h2, p2) = c.in_ok-first.ensures.told in
    let (b, h3, p3) = c.in_ok-sign.ensures.told in
    let (o, h4, p4) = c.in_ok-joined.ensures.told in
    let (v, h5, p5) = c.in_ok-here.ensures.told in
    told_exit _ _ _ _ c.from_residual-in_err-second.result c.from_residual-in_err-second.ensures.1 (d ∙ then_ok _ h1 ∙ then_ok _ h2 ∙ then_ok _ h3 ∙ then_ok _ h4 ∙ then_ok _ h5 ∙ then_bad _ c.in_err-second.ensures.told)

pub pair-returns-in_err-end-clause-told : goal.pair-returns-in_err-end-clause-told
unfolding pair
pair-returns-in_err-end-clause-told t c =
    let d = cond-false (eqb c.args.self.now.left 0) _ _ (ne_eqb c.args.self.now.left 0 c.if-self-eq0.false) in
    let (a, h1, p1) = c.in_ok-inside.ensures.told in
    let (e, h2, p2) = c.in_ok-first.ensures.told in
    let (b, h3, p3) = c.in_ok-sign.ensures.told in
    let (o, h4, p4) = c.in_ok-joined.ensures.told in
    let (v, h5, p5) = c.in_ok-here.ensures.told in
    let (f, h6, p6) = c.in_ok-second.ensures.told in
    told_exit _ _ _ _ c.from_residual-in_err-end.result c.from_residual-in_err-end.ensures.1 (d ∙ then_ok _ h1 ∙ then_ok _ h2 ∙ then_ok _ h3 ∙ then_ok _ h4 ∙ then_ok _ h5 ∙ then_ok _ h6 ∙ then_bad _ c.in_err-end.ensures.told)

pub pair-returns-clause-told : goal.pair-returns-clause-told
unfolding pair
pair-returns-clause-told t c =
    let x = c.args.self.now.text.now in
    let ns = names_in x c.args.self.now.scope.now in
    let d = cond-false (eqb c.args.self.now.left 0) _ _ (ne_eqb c.args.self.now.left 0 c.if-self-eq0.false) in
    let (a, h1, p1) = c.in_ok-inside.ensures.told in
    let (e, h2, p2) = c.in_ok-first.ensures.told in
    let (b, h3, p3) = c.in_ok-sign.ensures.told in
    let (o, h4, p4) = c.in_ok-joined.ensures.told in
    let (v, h5, p5) = c.in_ok-here.ensures.told in
    let (f, h6, p6) = c.in_ok-second.ensures.told in
    let (w, h7, p7) = c.in_ok-end.ensures.told in
    let k = c.write-next.ensures in
    let first = c.in_ok-first.first in
    let second = c.in_ok-second.second in
    let q = c.in_ok-joined.joined.value in (
      joined q e f,
      d ∙ then_ok _ h1 ∙ then_ok _ h2 ∙ then_ok _ h3 ∙ then_ok _ h4 ∙ then_ok _ h5 ∙ then_ok _ h6 ∙ then_ok _ h7 ∙ ap (λ y. ok (joined y e f) c.in_ok-end.end) p4.0,
      joined_made x c.args.words.now c.number.new.words c.number-2.new.words c.write-next.new.words c.args.at c.in_ok-inside.inside c.in_ok-here.here c.in_ok-end.end c.args.free
          c.write-next.result ns q e f first second (omega arith) (omega arith) (omega arith) (p7.1 p6.inside) (p7.2 p6.short) (omega arith) k.next c.number-2.ensures.kept c.requires.room.1 c.number.ensures.kept p2 p6
          (λ y z r s. joined_tree c.number-2.new.words c.write-next.new.words second.next (let g = p6.forward in let i = p2.forward in omega arith) k.kept first.place second.place y z r s q k.here),
    )

pub places-returns-in_err-second-clause-told : goal.places-returns-in_err-second-clause-told
places-returns-in_err-second-clause-told t c =
    let x = c.args.self.now.text.now in
    let ns = names_in x c.args.self.now.scope.now in
    let left = c.args.self.now.left in
    let inner = num x ns (left - 1) in
    let g = c.args.grid in
    let way = place_open x (enough g) c.args.start left inner c.args.at (is_byte _ _ c.if-not-is_at.ensures) c.if-self-eq0.false in
    let (a, h1, p1) = c.in_ok-inside.ensures.told in
    let (f, h2, p2) = c.in_ok-first.ensures.told in
    let on = way ∙ then_ok _ h1 ∙ then_ok _ h2 ∙ after_comma x (enough g) c.args.start inner f c.in_ok-first.first.end (is_byte _ _ c.if-is_at.ensures) in
    told_exit _ _ _ _ c.from_residual-in_err-second.result c.from_residual-in_err-second.ensures.1 (on ∙ then_bad _ c.in_err-second.ensures.told)

pub places-returns-then-is_at-clause-told : goal.places-returns-then-is_at-clause-told
places-returns-then-is_at-clause-told t c =
    let x = c.args.self.now.text.now in
    let ns = names_in x c.args.self.now.scope.now in
    let left = c.args.self.now.left in
    let inner = num x ns (left - 1) in
    let g = c.args.grid in
    let way = place_open x (enough g) c.args.start left inner c.args.at (is_byte _ _ c.if-not-is_at.ensures) c.if-self-eq0.false in
    let (a, h1, p1) = c.in_ok-inside.ensures.told in
    let (f, h2, p2) = c.in_ok-first.ensures.told in
    let on = way ∙ then_ok _ h1 ∙ then_ok _ h2 ∙ after_comma x (enough g) c.args.start inner f c.in_ok-first.first.end (is_byte _ _ c.if-is_at.ensures) in
    let (s, h3, p3) = c.in_ok-second.ensures.told in (
      two_of f s,
      on ∙ then_ok _ h3,
      both_made x c.args.words.now c.number.new.words c.second_place.new.words c.args.at c.in_ok-inside.inside c.args.free ns g f s c.in_ok-first.first c.in_ok-second.second (omega arith) c.requires.room.1
          c.number.ensures.kept c.second_place.ensures.kept p2 p3.0 p3.1,
    )

pub places-returns-then-needs_second-clause-told : goal.places-returns-then-needs_second-clause-told
places-returns-then-needs_second-clause-told t c =
    let x = c.args.self.now.text.now in
    let ns = names_in x c.args.self.now.scope.now in
    let left = c.args.self.now.left in
    let inner = num x ns (left - 1) in
    let g = c.args.grid in
    let way = place_open x (enough g) c.args.start left inner c.args.at (is_byte _ _ c.if-not-is_at.ensures) c.if-self-eq0.false in
    let (a, h1, p1) = c.in_ok-inside.ensures.told in
    let (f, h2, p2) = c.in_ok-first.ensures.told in
    way ∙ then_ok _ h1 ∙ then_ok _ h2 ∙ after_wrong x (enough g) c.args.start inner f c.in_ok-first.first.end (no_byte _ _ c.if-is_at.ensures) (sym c.if-needs_second.ensures)

pub places-returns-in_err-end-clause-told : goal.places-returns-in_err-end-clause-told
places-returns-in_err-end-clause-told t c =
    let x = c.args.self.now.text.now in
    let ns = names_in x c.args.self.now.scope.now in
    let left = c.args.self.now.left in
    let inner = num x ns (left - 1) in
    let g = c.args.grid in
    let way = place_open x (enough g) c.args.start left inner c.args.at (is_byte _ _ c.if-not-is_at.ensures) c.if-self-eq0.false in
    let (a, h1, p1) = c.in_ok-inside.ensures.told in
    let (f, h2, p2) = c.in_ok-first.ensures.told in
    let on = way ∙ then_ok _ h1 ∙ then_ok _ h2 ∙ after_one x (enough g) c.args.start inner f c.in_ok-first.first.end (no_byte _ _ c.if-is_at.ensures) (sym c.if-needs_second.ensures) in
    told_exit _ _ _ _ c.from_residual-in_err-end.result c.from_residual-in_err-end.ensures.1 (on ∙ then_bad _ c.in_err-end.ensures.told)

pub places-returns-clause-told : goal.places-returns-clause-told
places-returns-clause-told t c =
    let x = c.args.self.now.text.now in
    let ns = names_in x c.args.self.now.scope.now in
    let left = c.args.self.now.left in
    let inner = num x ns (left - 1) in
    let g = c.args.grid in
    let first = c.in_ok-first.first in
    let way = place_open x (enough g) c.args.start left inner c.args.at (is_byte _ _ c.if-not-is_at.ensures) c.if-self-eq0.false in
    let (a, h1, p1) = c.in_ok-inside.ensures.told in
    let (f, h2, p2) = c.in_ok-first.ensures.told in
    let on = way ∙ then_ok _ h1 ∙ then_ok _ h2 ∙ after_one x (enough g) c.args.start inner f first.end (no_byte _ _ c.if-is_at.ensures) (sym c.if-needs_second.ensures) in
    let (s, h3, p3) = c.in_ok-end.ensures.told in
    subst (λ r. Told (λ p. p.end) (PlacesMade x ns g c.args.at c.args.free c.args.words.now c.number.new.words) (place_at x g c.args.start left inner c.args.at) (Ok r)) (sym c.only_place.ensures) (
      one_of f,
      on ∙ then_ok _ h3 ∙ ap (ok (one_of f)) (sym (only_end g first c.in_ok-end.end)),
      only_made x c.args.words.now c.number.new.words c.args.at c.in_ok-inside.inside c.in_ok-end.end c.args.free ns g f first (omega arith) (omega arith) (p3.1 p2.inside) (p3.2 p2.short) c.requires.room.1 c.number.ensures.kept p2,
    )
