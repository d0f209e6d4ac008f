use Rattle.std.proofs.Common.{sym, ◌∙◌, arith}
use Rattle.model.specs.Words.{set_size, set_count}
use Rattle.model.proofs.Listed.{listed_at, listed_past}
use Rattle.model.proofs.symbols.set_size.Goals as goal

pub returns-then-k-count : goal.returns-then-k-count
returns-then-k-count c = sym (listed_past (set_size c.args.words.now) (set_count c.args.words.now) c.args.k 0 (omega (arith, c.count.ensures)))

pub returns : goal.returns
returns c = c.limited.ensures.value ∙ sym (listed_at (set_size c.args.words.now) (set_count c.args.words.now) c.args.k 0 (omega (arith, c.count.ensures)))
