use Rattle.std.proofs.Common.{◌||◌, is_some, sym, ap, ◌∙◌}
use Rattle.std.proofs.lemmas.Bool.{or_left}
use Rattle.model.specs.declared.ConstraintNode.TheVariants.{Compare, All}
use Rattle.model.specs.Evaluation.{constraint_works}
use Rattle.model.specs.Kept.{symbols_in}
use Rattle.model.specs.Meaning.{size_of}
use Rattle.model.proofs.Trees.{constraint_fit}
use Rattle.evaluate.proofs.Nodes.{constraint_known}
use Rattle.evaluate.proofs.Working.{over_works, over_empty}
use Rattle.evaluate.proofs.constraints.+works.Goals as goal

pub returns-then-is_some : goal.returns-then-is_some
unfolding constraint_works
returns-then-is_some t c = λ r h.
    let s = symbols_in c.args.words.now in
    let (d, a, z, p, q) = constraint_known c.args.words.now c.args.k (All c.in-All.over) c.in-Some.ensures c.in-All.is r h in
    over_works c.args.words.now c.in-All.over.filter d c.set_size.result (size_of s c.in-All.over.set) (constraint_works s a) c.is_some.result c.set_size.ensures c.if-set_size-gt0.true p
    (c.if-is_some.true ∙ sym (or_left (is_some c.in-All.over.filter) (constraint_works s a) (sym c.is_some.ensures ∙ c.if-is_some.true)))
    ∙ sym (ap (constraint_works s) z)

pub returns-else-is_some : goal.returns-else-is_some
unfolding constraint_works
returns-else-is_some t c = λ r h.
    let s = symbols_in c.args.words.now in
    let (d, a, z, p, q) = constraint_known c.args.words.now c.args.k (All c.in-All.over) c.in-Some.ensures c.in-All.is r h in
    over_works c.args.words.now c.in-All.over.filter d c.set_size.result (size_of s c.in-All.over.set) (constraint_works s a) c.works.result c.set_size.ensures c.if-set_size-gt0.true p
    (c.works.ensures a q ∙ ap (λ y. y || constraint_works s a) (sym c.if-is_some.false ∙ c.is_some.ensures))
    ∙ sym (ap (constraint_works s) z)

pub returns-else-set_size-gt0 : goal.returns-else-set_size-gt0
unfolding constraint_works
returns-else-set_size-gt0 t c = λ r h.
    let s = symbols_in c.args.words.now in
    let (d, a, z, p, q) = constraint_known c.args.words.now c.args.k (All c.in-All.over) c.in-Some.ensures c.in-All.is r h in
    over_empty d c.set_size.result (size_of s c.in-All.over.set) (constraint_works s a) c.set_size.ensures c.if-set_size-gt0.false ∙ sym (ap (constraint_works s) z)

pub returns-in_default : goal.returns-in_default
returns-in_default t c = λ r h. absurd (constraint_fit c.args.words.now c.args.k c.in_default.ensures r h)

pub returns-in-Compare : goal.returns-in-Compare
unfolding constraint_works
returns-in-Compare t c = λ r h.
    let (a, b, z, q, u) = constraint_known c.args.words.now c.args.k (Compare c.in-Compare.field-0 c.in-Compare.field-1 c.in-Compare.field-2) c.in-Some.ensures c.in-Compare.is r h in
    sym (ap (constraint_works (symbols_in c.args.words.now)) z)
