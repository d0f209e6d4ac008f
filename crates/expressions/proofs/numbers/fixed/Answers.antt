use Rattle.std.proofs.Common.{◌≡◌, ◌<◌, ◌∙◌, Some, arith, w64, SFits, rules, nat_abs}
use Rattle.std.proofs.lemmas.Int.{to_z-of_z}
use Rattle.std.proofs.lemmas.Bool.{cond-true, lt-ltb}
use Rattle.model.specs.declared.NumNode.TheVariants.{Fixed}
use Rattle.model.specs.Words.{num_at}
use Rattle.compose.proofs.Trees.{fixed_tree}
use Rattle.grammar.specs.Grammar.{fixed}
use Rattle.grammar.specs.Reading.{fixed_at, small, size}
use Rattle.tokens.proofs.Steps.{then_ok}
use Rattle.expressions.proofs.NumberTrees.{fixed_made, small_told}
use Rattle.expressions.proofs.numbers.fixed.Goals as goal

pub returns-clause-told : goal.returns-clause-told
unfolding fixed_at
returns-clause-told c =
    let (n, h, p) = c.in_ok-number.ensures.told in
    let k = c.write-next.ensures in
    let f : SFits w64 c.in_ok-number.number.value = search rules in
    let m : c.unsigned_abs.result ≡ nat_abs c.in_ok-number.number.value = simp to_z-of_z at c.unsigned_abs.ensures.value in
    let l : nat_abs c.in_ok-number.number.value < 1000000 = let u = c.if-unsigned_abs-ge-NUMBER_LIMIT.false in omega arith in
    let e : num_at c.write-next.new.words c.args.free ≡ Some (Fixed c.in_ok-number.number.value) = simp to_z-of_z at k.here in
    λ ns. (
      fixed n,
      then_ok _ h ∙ cond-true (small n) _ _ (lt-ltb (size n) 1000000 (small_told n c.in_ok-number.number p.2 l)),
      fixed_made c.args.text.now c.args.words.now c.write-next.new.words c.args.at c.args.free c.write-next.result n c.in_ok-number.number ns p c.requires.room.0 c.requires.room.1 l k.next
          (fixed_tree c.args.words.now c.write-next.new.words c.args.free (omega arith) k.kept c.in_ok-number.number.value e),
    )
