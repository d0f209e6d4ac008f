use Rattle.std.proofs.Common.{◌≡◌, sym, ap, ◌∙◌, Some, w64, SFits, rules}
use Rattle.std.proofs.lemmas.Int.{to_z-of_z}
use Rattle.integer.specs.Checked.{checked}
use Rattle.model.specs.Kept.{symbols_in}
use Rattle.model.specs.Meaning.{entry_of, table_of}
use Rattle.evaluate.proofs.Nodes.{then_none, then_some, num_none, num_fixed, num_index, num_entry, num_op}
use Rattle.evaluate.proofs.numbers.+number.Goals as goal

pub returns-in_err-a : goal.returns-in_err-a
returns-in_err-a t c = num_none _ _ _ c.in_err-a.ensures

pub returns-in-Fixed : goal.returns-in-Fixed
returns-in-Fixed t c =
    let f : SFits w64 c.in-Fixed.a = search rules in
    num_fixed _ _ _ c.in-Fixed.a (ap Some (sym c.in-Fixed.is) ∙ c.in_ok-a.ensures) (simp to_z-of_z at c.in_range.ensures.value)

pub returns-in-Index : goal.returns-in-Index
returns-in-Index t c =
    let f : SFits w64 c.index.result = search rules in
    let v : c.in_range-in-Index.result ≡ checked c.index.result = simp to_z-of_z at c.in_range-in-Index.ensures.value in
    num_index _ _ _ c.in-Index.l (ap Some (sym c.in-Index.is) ∙ c.in_ok-a.ensures) (v ∙ ap checked c.index.ensures)

pub returns-in_err-row-in-Entry : goal.returns-in_err-row-in-Entry
returns-in_err-row-in-Entry t c = num_entry _ _ _ c.in-Entry.t c.in-Entry.i c.in-Entry.j (ap Some (sym c.in-Entry.is) ∙ c.in_ok-a.ensures)
    (λ e f p q. c.from_residual-in_err-row-in-Entry.ensures ∙ then_none _ (c.in_err-row-in-Entry.ensures e p))

pub returns-in_err-column-in-Entry : goal.returns-in_err-column-in-Entry
returns-in_err-column-in-Entry t c = num_entry _ _ _ c.in-Entry.t c.in-Entry.i c.in-Entry.j (ap Some (sym c.in-Entry.is) ∙ c.in_ok-a.ensures)
    (λ e f p q. c.from_residual-in_err-column-in-Entry.ensures ∙ then_some _ c.in_ok-row-in-Entry.row (c.in_ok-row-in-Entry.ensures e p) (then_none _ (c.in_err-column-in-Entry.ensures f q)))

pub returns-in_ok-column-in-Entry : goal.returns-in_ok-column-in-Entry
returns-in_ok-column-in-Entry t c =
    let r = c.in_ok-row-in-Entry.row in
    let w = c.in_ok-column-in-Entry.column in
    let fr : SFits w64 r = search rules in
    let fw : SFits w64 w = search rules in
    let fe : SFits w64 c.table_entry.result = search rules in
    let e : c.table_entry.result ≡ entry_of (table_of (symbols_in c.args.words.now) c.in-Entry.t) r w = simp to_z-of_z at c.table_entry.ensures in
    let v : c.in_range-in-Entry.result ≡ checked c.table_entry.result = simp to_z-of_z at c.in_range-in-Entry.ensures.value in
    num_entry _ _ _ c.in-Entry.t c.in-Entry.i c.in-Entry.j (ap Some (sym c.in-Entry.is) ∙ c.in_ok-a.ensures)
    (λ a b p q. then_some _ r (c.in_ok-row-in-Entry.ensures a p) (then_some _ w (c.in_ok-column-in-Entry.ensures b q) (v ∙ ap checked e)))

pub returns-in_err-left-in-Op : goal.returns-in_err-left-in-Op
returns-in_err-left-in-Op t c = num_op _ _ _ c.in-Op.o c.in-Op.i c.in-Op.j (ap Some (sym c.in-Op.is) ∙ c.in_ok-a.ensures)
    (λ e f p q. c.from_residual-in_err-left-in-Op.ensures ∙ then_none _ (c.in_err-left-in-Op.ensures e p))

pub returns-in_err-right-in-Op : goal.returns-in_err-right-in-Op
returns-in_err-right-in-Op t c = num_op _ _ _ c.in-Op.o c.in-Op.i c.in-Op.j (ap Some (sym c.in-Op.is) ∙ c.in_ok-a.ensures)
    (λ e f p q. c.from_residual-in_err-right-in-Op.ensures ∙ then_some _ c.in_ok-left-in-Op.left (c.in_ok-left-in-Op.ensures e p) (then_none _ (c.in_err-right-in-Op.ensures f q)))

pub returns-in_ok-right-in-Op : goal.returns-in_ok-right-in-Op
returns-in_ok-right-in-Op t c =
    let l : SFits w64 c.in_ok-left-in-Op.left = search rules in
    let r : SFits w64 c.in_ok-right-in-Op.right = search rules in
    num_op _ _ _ c.in-Op.o c.in-Op.i c.in-Op.j (ap Some (sym c.in-Op.is) ∙ c.in_ok-a.ensures)
    (λ e f p q. then_some _ c.in_ok-left-in-Op.left (c.in_ok-left-in-Op.ensures e p) (then_some _ c.in_ok-right-in-Op.right (c.in_ok-right-in-Op.ensures f q) (simp to_z-of_z at c.joined.ensures)))
