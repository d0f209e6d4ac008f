use Rattle.std.proofs.Common.{sym, ◌∙◌, w64, SFits, rules}
use Rattle.std.proofs.lemmas.Int.{to_z-of_z}
use Rattle.std.proofs.lemmas.Bool.{cond-true}
use Rattle.grammar.specs.Reading.{within}
use Rattle.reader.specs.Numbers.{size_at}
use Rattle.reader.proofs.Ranges.{size_made}
use Rattle.tokens.proofs.Steps.{then_ok}
use Rattle.reader.proofs.numbers.size.Goals as goal

pub returns : goal.returns
unfolding size_at
returns c =
    let (u, h, p) = c.in_ok-begin.ensures.told in
    let (n, i, q) = c.in_ok-found.ensures.told in
    let e = sym (c.if-not-is_size.ensures n q.2) in
    let f : SFits w64 c.in_ok-found.found.value = search rules in
    record {
      told = (
        n,
        then_ok _ h ∙ then_ok _ i ∙ cond-true (within c.args.least 1000 n) _ _ e,
        size_made c.args.text.now c.args.least c.args.at c.in_ok-begin.begin _ n c.in_ok-found.found p.0 p.2 q e (to_z-of_z w64 c.in_ok-found.found.value f),
      );
    }
