use Rattle.std.proofs.Common.{◌≤ℤ◌, ◌<ℤ◌, ◌∙◌, arith, w64, SFits, rules}
use lib.Signed.{le_z}
use Rattle.std.proofs.lemmas.Int.{ints, to_z-of_z}
use Rattle.std.proofs.lemmas.Bool.{cond-true, cond-false}
use Rattle.grammar.specs.Grammar.{array_line}
use Rattle.grammar.specs.Reading.{value}
use Rattle.tokens.proofs.Steps.{told_exit, then_ok, then_bad}
use Rattle.reader.proofs.Parts.{array_is}
use Rattle.reader.proofs.Ranges.{in_order, not_in_order}
use Rattle.reader.proofs.Told.{array_made}
use Rattle.reader.proofs.declarations.array_line.Goals as goal

pub returns-then-lower-upper : goal.returns-then-lower-upper
returns-then-lower-upper c =
    let (u, h, p) = c.in_ok-begin.ensures.told in
    let (s, i, q) = c.in_ok-shape.ensures.told in
    let (v, j, r) = c.in_ok-from.ensures.told in
    let (l, k, o) = c.in_ok-lower.ensures.told in
    let (y, m, t) = c.in_ok-to.ensures.told in
    let (n, g, a) = c.in_ok-upper.ensures.told in
    let lo : SFits w64 c.in_ok-lower.lower.value = search rules in
    let hi : SFits w64 c.in_ok-upper.upper.value = search rules in
    let z : c.in_ok-upper.upper.value <ℤ c.in_ok-lower.lower.value = omega (arith, ints) in
    record { told = λ st e f. array_is _ st _ _ _ e f ∙ then_ok _ h ∙ then_ok _ i ∙ then_ok _ j ∙ then_ok _ k ∙ then_ok _ m ∙ then_ok _ g ∙ cond-false (le_z (value l) (value n)) _ _ (not_in_order (value l) (value n) _ _ o.value a.value z) }

pub returns-in_err-end : goal.returns-in_err-end
returns-in_err-end c =
    let x = c.from_residual-in_err-end in
    let (u, h, p) = c.in_ok-begin.ensures.told in
    let (s, i, q) = c.in_ok-shape.ensures.told in
    let (v, j, r) = c.in_ok-from.ensures.told in
    let (l, k, o) = c.in_ok-lower.ensures.told in
    let (y, m, t) = c.in_ok-to.ensures.told in
    let (n, g, a) = c.in_ok-upper.ensures.told in
    let lo : SFits w64 c.in_ok-lower.lower.value = search rules in
    let hi : SFits w64 c.in_ok-upper.upper.value = search rules in
    let z : c.in_ok-lower.lower.value ≤ℤ c.in_ok-upper.upper.value = omega (arith, ints) in
    record {
      told = λ st e f. told_exit _ _ _ _ x.result x.ensures.1
          (array_is _ st _ _ _ e f ∙ then_ok _ h ∙ then_ok _ i ∙ then_ok _ j ∙ then_ok _ k ∙ then_ok _ m ∙ then_ok _ g ∙ cond-true (le_z (value l) (value n)) _ _ (in_order (value l) (value n) _ _ o.value a.value z) ∙ then_bad _ c.in_err-end.ensures.told);
    }

pub returns : goal.returns
returns c =
    let (u, h, p) = c.in_ok-begin.ensures.told in
    let (s, i, q) = c.in_ok-shape.ensures.told in
    let (v, j, r) = c.in_ok-from.ensures.told in
    let (l, k, o) = c.in_ok-lower.ensures.told in
    let (y, m, t) = c.in_ok-to.ensures.told in
    let (n, g, a) = c.in_ok-upper.ensures.told in
    let lo : SFits w64 c.in_ok-lower.lower.value = search rules in
    let hi : SFits w64 c.in_ok-upper.upper.value = search rules in
    let z : c.in_ok-lower.lower.value ≤ℤ c.in_ok-upper.upper.value = omega (arith, ints) in
    let (b, w, d) = c.in_ok-end.ensures.told in
    record {
      told = λ st e f. (
        array_line s.name s.rows s.columns l n,
        array_is _ st _ _ _ e f ∙ then_ok _ h ∙ then_ok _ i ∙ then_ok _ j ∙ then_ok _ k ∙ then_ok _ m ∙ then_ok _ g ∙ cond-true (le_z (value l) (value n)) _ _ (in_order (value l) (value n) _ _ o.value a.value z) ∙ then_ok _ w,
        array_made c.args.text.now c.args.at c.in_ok-begin.begin c.in_ok-from.from c.in_ok-to.to c.in_ok-end.end s l n c.in_ok-shape.shape
            c.in_ok-lower.lower c.in_ok-upper.upper _ _ p q r o t a d (to_z-of_z w64 c.in_ok-lower.lower.value lo) (to_z-of_z w64 c.in_ok-upper.upper.value hi),
      );
    }
