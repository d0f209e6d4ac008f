use Rattle.std.proofs.Common.{◌≡◌, ◌+◌, ◌-◌, ◌*◌, min, true, false, length, pos, sym, refl, ap, ◌∙◌, arith, rules, w64}
use Rattle.std.proofs.lemmas.Int.{to_z-of_z}
use Rattle.std.proofs.lemmas.Bool.Decides.{nat_tests}
use Rattle.grammar.specs.Grammar.{is_digit, whole}
use Rattle.grammar.specs.Reading.{ok, byte, digits_at}
use Rattle.tokens.specs.Sizes.{capped}
use Rattle.tokens.proofs.Steps.{test_inside, front_more, front_end, in_length_in, in_length_past}
use Rattle.tokens.proofs.Counted.{capped_more, top_digit}
use Rattle.tokens.proofs.numbers.digits.Goals as goal
use Rattle.tokens.proofs.numbers.digits.Goals.{in_default-via-in-Some+then-look-lt48, in_default-via-in-Some+else-look-lt48+else-this-lt58, in_default-via-in_default}

pub returns-in_default : goal.returns-in_default
returns-in_default c =
    let x = c.args.text.now in
    let at = c.args.at in
    let here = c.loop-here.here in
    let d = byte x at in
    let ds = digits_at x (at + 1) in
    let f = front_more is_digit x at refl (top_digit d c.requires) in
    let no_digit : is_digit (byte x here) ≡ false =
    elim c.in_default.branch [ in_default-via-in-Some+then-look-lt48 w ↦ search rules | in_default-via-in-Some+else-look-lt48+else-this-lt58 w ↦ grind (arith, nat_tests) | in_default-via-in_default w ↦ search rules ] in
    let e = front_end is_digit x here no_digit in
    let i : at + 1 + length ds ≡ here = omega (arith, ap length f, ap length e, c.loop-here.invariant.2) in
    let z : c.loop-here.size ≡ min 1000001 c.loop-here.size = omega (arith, c.loop-here.invariant.1) in
    record {
      told = (
        whole d ds,
        in_length_in (whole d ds) (at + 1 + length ds) (omega arith) ∙ ap (ok (whole d ds)) i,
        (omega arith, c.loop-here.invariant.0, to_z-of_z w64 c.from.result (search rules) ∙ c.from.ensures ∙ ap pos (z ∙ ap (capped c.loop-here.size) (sym e) ∙ c.loop-here.invariant.3 ∙ ap (capped 0) f), λ _. omega arith),
      );
    }

pub loop-here-preserved : goal.loop-here-preserved
loop-here-preserved c =
    let x = c.args.text.now in
    let here = c.loop-here.here in
    let b = c.in-Some-48-to-57.ensures in
    let d : is_digit (byte x here) ≡ true = grind (arith, nat_tests) in
    let l = test_inside is_digit x here refl d in
    let e = front_more is_digit x here refl d in
    let m : c.min-size.result ≡ min (c.loop-here.size * 10 + (byte x here - 48)) 1000001 = cc in (
      omega arith,
      omega arith,
      omega (arith, ap length e, c.loop-here.invariant.2),
      capped_more c.loop-here.size c.min-size.result (byte x here) (digits_at x (here + 1)) m ∙ ap (capped c.loop-here.size) (sym e) ∙ c.loop-here.invariant.3,
    )

pub returns : goal.returns
returns c =
    let x = c.args.text.now in
    let at = c.args.at in
    let ds = digits_at x (at + 1) in
    let f = ap length (front_more is_digit x at refl (top_digit (byte c.args.text.now c.args.at) c.requires)) in
    record { told = in_length_past (whole (byte x at) ds) (at + 1 + length ds) (omega (arith, c.loop-here.invariant.2)) }
