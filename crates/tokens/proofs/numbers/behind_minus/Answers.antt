use Rattle.std.proofs.Common.{true, ◌+◌, ◌≡◌, arith, ap, ◌∙◌, rules, w64, SFits, pos, ◌-ℤ◌}
use Rattle.std.proofs.lemmas.Int.{to_z-of_z}
use Rattle.std.proofs.lemmas.Bool.Decides.{nat_tests}
use Rattle.grammar.specs.Grammar.{is_top, whole, minus}
use Rattle.grammar.specs.Reading.{byte, digits_at}
use Rattle.tokens.specs.Sizes.{told_value}
use Rattle.tokens.proofs.Steps.{told_exit, in_length_like, in_length_like_bad}
use Rattle.tokens.proofs.Counted.{minus_more}
use Rattle.tokens.proofs.numbers.behind_minus.Goals as goal

pub returns-in_err-end : goal.returns-in_err-end
returns-in_err-end c =
    let b = c.in-Some-49-to-57.ensures in
    let t : is_top (byte c.args.text.now (c.args.at + 1)) ≡ true = grind (arith, nat_tests) in
    record {
      told = told_exit _ _ _ _ c.from_residual.result c.from_residual.ensures.1
          (minus_more c.args.text.now c.args.at c.requires c.if-at-eq-LONGEST.false t ∙ in_length_like_bad _ _ _ _ c.in_err-end.ensures.told);
    }

pub returns : goal.returns
returns c =
    let x = c.args.text.now in
    let at = c.args.at in
    let b = c.in-Some-49-to-57.ensures in
    let t : is_top (byte x (at + 1)) ≡ true = grind (arith, nat_tests) in
    let (n, h, p) = c.in_ok-end.ensures.told in
    let d = byte x (at + 1) in
    let ds = digits_at x (at + 1 + 1) in
    let (e, m, i) = in_length_like (whole d ds) (minus d ds) n _ _ h in
    let v : c.in_ok-end.field-0.value ≡ told_value (whole d ds) = p.2 ∙ ap told_value e in
    let f : SFits w64 c.in_ok-end.field-0.value = search rules in
    let g : SFits w64 (pos 0 -ℤ c.in_ok-end.field-0.value) = search rules in
    let k : pos 0 -ℤ c.in_ok-end.field-0.value ≡ told_value (minus d ds) = rw v (grind arith) in
    record {
      told = (
        minus d ds,
        minus_more x at c.requires c.if-at-eq-LONGEST.false t ∙ i,
        (omega arith, p.1, simp to_z-of_z k, λ l. p.3 (omega arith)),
      );
    }
