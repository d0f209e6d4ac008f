use Rattle.std.proofs.Common.{◌+◌, ◌*◌, arith, lit<, rules}
use Rattle.compose.proofs.Stays.{at, line_here, on_ok_both}
use Rattle.compose.proofs.heads.put_line.Goals as goal

pub returns-clause-here : goal.returns-clause-here
returns-clause-here c =
    let vs = c.put_head.new.words in
    let k = c.args.k in
    on_ok_both c.put_head.result c.put_head.ensures.count c.put_head.ensures.here
    (λ n h. line_here vs k _ _ c.args.line (omega arith) n (at vs ((584 + 4 * k) + 0) (584 + 4 * k) _ (omega arith) (h 0 (lit< tt))) (at vs ((584 + 4 * k) + 1) (585 + 4 * k) _ (omega arith) (h 1 (lit< tt))) (search rules) (search rules))
