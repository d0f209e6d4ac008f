use Rattle.std.proofs.Common.{◌≡◌, ◌+◌, length, ◌∙◌, arith, w64, SFits, to_z, rules}
use Rattle.std.proofs.lemmas.Int.{to_z-of_z}
use Rattle.compose.specs.Agree.{Agree}
use Rattle.compose.proofs.Settled.{agree_on, agree_part}
use Rattle.grammar.specs.Grammar.{table_line}
use Rattle.model.specs.Words.{word}
use Rattle.tokens.proofs.Steps.{told_exit, then_ok, then_bad}
use Rattle.reader.proofs.Parts.{table_is}
use Rattle.reader.proofs.Tabled.{put_done, some_entries, others_are, table_made}
use Rattle.reader.proofs.declarations.table_line.Goals as goal
use Rattle.reader.proofs.declarations.table_line.Goals.{After-unwrap-others, After-table_numbers}

pub overflow_sub-wanted : goal.overflow_sub-wanted
overflow_sub-wanted c = let (s, i, q) = c.in_ok-shape.ensures.told in some_entries q

-- the first number is written
first_put : (c : After-unwrap-others) → (c.unwrap-others.result ≡ c.args.free + 1) × (to_z w64 (word c.put_number.new.words c.args.free) ≡ c.in_ok-first.first.value)
first_put c =
    let fits : SFits w64 c.in_ok-first.first.value = search rules in
    let (g, y) = put_done c.put_number.result (length c.args.words.now) c.args.free c.put_number.ensures.appends.next (omega arith) (omega arith) c.put_number.ensures.here in
    let u = c.unwrap-others.ensures in
    (cc, y ∙ to_z-of_z w64 c.in_ok-first.first.value fits)

-- what stands below the table stays
all_below : (c : After-table_numbers) → Agree 0 c.args.free c.args.words.now c.table_numbers.new.words
all_below c = let (g, y) = first_put (goal.at.After-table_numbers c).After-unwrap-others in agree_on c.put_number.ensures.appends.below (agree_part 0 c.args.free (omega arith) (omega arith) c.table_numbers.ensures.below)

pub returns-in_err-behind : goal.returns-in_err-behind
returns-in_err-behind c =
    let x = c.from_residual-in_err-behind in
    let (u, h, p) = c.in_ok-begin.ensures.told in
    let (s, i, q) = c.in_ok-shape.ensures.told in
    let (v, j, r) = c.in_ok-from.ensures.told in
    let (n, k, o) = c.in_ok-first.ensures.told in
    record {
      told = λ st e f. told_exit _ _ _ _ x.result x.ensures.1
          (table_is _ st _ _ _ e f ∙ then_ok _ h ∙ then_ok _ i ∙ then_ok _ j ∙ then_ok _ k ∙ then_bad _ (others_are q _ _ ∙ c.in_err-behind.ensures.told));
      below = all_below (goal.at.returns-in_err-behind c).After-table_numbers;
    }

pub returns-in_err-end : goal.returns-in_err-end
returns-in_err-end c =
    let x = c.from_residual-in_err-end in
    let (u, h, p) = c.in_ok-begin.ensures.told in
    let (s, i, q) = c.in_ok-shape.ensures.told in
    let (v, j, r) = c.in_ok-from.ensures.told in
    let (n, k, o) = c.in_ok-first.ensures.told in
    let (ns, m, t) = c.in_ok-behind.ensures.told in
    record {
      told = λ st e f. told_exit _ _ _ _ x.result x.ensures.1
          (table_is _ st _ _ _ e f ∙ then_ok _ h ∙ then_ok _ i ∙ then_ok _ j ∙ then_ok _ k ∙ then_ok _ (others_are q _ _ ∙ m) ∙ then_bad _ c.in_err-end.ensures.told);
      below = all_below (goal.at.returns-in_err-end c).After-table_numbers;
    }

pub returns : goal.returns
returns c =
    let (u, h, p) = c.in_ok-begin.ensures.told in
    let (s, i, q) = c.in_ok-shape.ensures.told in
    let (v, j, r) = c.in_ok-from.ensures.told in
    let (n, k, o) = c.in_ok-first.ensures.told in
    let (ns, m, t) = c.in_ok-behind.ensures.told in
    let (b, w, d) = c.in_ok-end.ensures.told in
    let (g, y) = first_put (goal.at.returns c).After-unwrap-others in
    record {
      told = λ st e f. (
        table_line s.name s.rows s.columns n ns,
        table_is _ st _ _ _ e f ∙ then_ok _ h ∙ then_ok _ i ∙ then_ok _ j ∙ then_ok _ k ∙ then_ok _ (others_are q _ _ ∙ m) ∙ then_ok _ w,
        table_made q c.args.at c.in_ok-from.from c.in_ok-behind.behind c.in_ok-end.end n ns c.in_ok-first.first c.args.free c.unwrap-others.result
            c.put_number.new.words c.table_numbers.new.words p r o g y c.table_numbers.ensures.below t d,
      );
      below = all_below (goal.at.returns c).After-table_numbers;
    }
