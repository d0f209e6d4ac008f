use Rattle.std.proofs.Common.{◌∙◌}
use Rattle.tokens.proofs.Steps.{then_ok}
use Rattle.reader.proofs.Parts.{shape_is}
use Rattle.reader.proofs.Told.{shape_made}
use Rattle.reader.proofs.declarations.shape.Goals as goal

pub returns : goal.returns
returns c =
    let (w, i, q) = c.in_ok-name.ensures.told in
    let (m, j, r) = c.in_ok-rows.ensures.told in
    let (n, k, s) = c.in_ok-columns.ensures.told in
    record {
      told = (
        record { name = w; rows = m; columns = n },
        shape_is _ _ _ _ ∙ then_ok _ i ∙ then_ok _ j ∙ then_ok _ k,
        shape_made c.args.text.now c.args.at w m n c.in_ok-name.name c.in_ok-rows.rows c.in_ok-columns.columns q r s,
      );
    }
