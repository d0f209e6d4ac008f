use Rattle.std.proofs.Common.{◌≡◌, ◌-◌, ◌<◌, true, length, take, drop, sym, refl, ap, arith}
use Rattle.grammar.specs.Grammar.{is_letter, is_word}
use Rattle.grammar.specs.Reading.{byte}
use Rattle.tokens.proofs.Steps.{test_inside, front_more, front_end}
use Rattle.tokens.proofs.Named.{letter_word, word_none, word_long, word_past, word_end}
use Rattle.tokens.proofs.words.word.Goals as goal

pub returns-then-not-is_letter_at : goal.returns-then-not-is_letter_at
returns-then-not-is_letter_at c = record { told = word_none c.args.text.now c.args.at (sym c.if-not-is_letter_at.ensures) }

pub returns-then-not-is_word_at : goal.returns-then-not-is_word_at
returns-then-not-is_word_at c =
    let x = c.args.text.now in
    let at = c.args.at in
    let here = c.loop-here.here in
    let b : is_letter (byte x at) ≡ true = sym c.if-not-is_letter_at.ensures in
    let f = ap length (front_more is_word x at refl (letter_word (byte x at) b)) in
    let m = ap length (front_end is_word x here (sym c.if-not-is_word_at.ensures)) in
    let l : at < here = omega (arith, c.loop-here.invariant.2) in
    record {
      told = (
        take (here - at) (drop at x),
        word_end x at here b (omega (arith, c.loop-here.invariant.2)) (omega arith) (omega arith),
        (l, c.loop-here.invariant.0, refl, λ _. omega arith),
      );
    }

pub returns-then-here-at-eq-LONGEST_WORD : goal.returns-then-here-at-eq-LONGEST_WORD
returns-then-here-at-eq-LONGEST_WORD c =
    let m = ap length (front_more is_word c.args.text.now c.loop-here.here refl (sym c.if-not-is_word_at.ensures)) in
    record { told = word_long c.args.text.now c.args.at c.loop-here.here (sym c.if-not-is_letter_at.ensures) (omega arith) (omega (arith, c.loop-here.invariant.2)) (omega arith) }

pub loop-here-preserved : goal.loop-here-preserved
loop-here-preserved c =
    let x = c.args.text.now in
    let here = c.loop-here.here in
    let l = test_inside is_word x here refl (sym c.if-not-is_word_at.ensures) in
    let m = ap length (front_more is_word x here refl (sym c.if-not-is_word_at.ensures)) in
    (omega arith, omega arith, omega (arith, c.loop-here.invariant.2))

pub returns : goal.returns
returns c =
    record { told = word_past c.args.text.now c.args.at (sym c.if-not-is_letter_at.ensures) (omega arith) (omega (arith, c.loop-here.invariant.2)) }
