use Rattle.std.proofs.Common.{◌∙◌}
use Rattle.grammar.specs.Grammar.{set_line}
use Rattle.tokens.proofs.Steps.{then_ok}
use Rattle.reader.proofs.Parts.{set_is}
use Rattle.reader.proofs.Told.{set_made}
use Rattle.reader.proofs.declarations.set_line.Goals as goal

pub returns : goal.returns
returns c =
    let (u, h, p) = c.in_ok-begin.ensures.told in
    let (w, i, q) = c.in_ok-name.ensures.told in
    let (n, j, r) = c.in_ok-number.ensures.told in
    let (v, k, s) = c.in_ok-end.ensures.told in
    record {
      told = λ st e f. (
        set_line w n,
        set_is _ st _ _ _ e f ∙ then_ok _ h ∙ then_ok _ i ∙ then_ok _ j ∙ then_ok _ k,
        set_made c.args.text.now c.args.at c.in_ok-begin.begin c.in_ok-end.end w n c.in_ok-name.name c.in_ok-number.number p q r s,
      );
    }
