use Rattle.std.proofs.Common.{◌≡◌, ◌+◌, ◌*◌, ap, ◌∙◌, arith, lit<, w64, SFits, to_z, rules}
use Rattle.std.proofs.lemmas.Int.{to_z-of_z}
use Rattle.std.proofs.lemmas.Result.{on_ok_weaker}
use Rattle.compose.proofs.Stays.{at}
use Rattle.compose.proofs.heads.put_array.Goals as goal

pub returns-clause-lower : goal.returns-clause-lower
returns-clause-lower c =
    let f : SFits w64 c.args.array.lower = search rules in
    let e : to_z w64 c.cast_unsigned.result ≡ c.args.array.lower = ap (to_z w64) (simp to_z-of_z at c.cast_unsigned.ensures) ∙ to_z-of_z w64 c.args.array.lower f in
    on_ok_weaker c.put_head.result (λ h. ap (to_z w64) (at c.put_head.new.words ((200 + 8 * c.args.k) + 2) (202 + 8 * c.args.k) _ (omega arith) (h 2 (lit< tt))) ∙ e) c.put_head.ensures.here

pub returns-clause-upper : goal.returns-clause-upper
returns-clause-upper c =
    let f : SFits w64 c.args.array.upper = search rules in
    let e : to_z w64 c.cast_unsigned-2.result ≡ c.args.array.upper = ap (to_z w64) (simp to_z-of_z at c.cast_unsigned-2.ensures) ∙ to_z-of_z w64 c.args.array.upper f in
    on_ok_weaker c.put_head.result (λ h. ap (to_z w64) (at c.put_head.new.words ((200 + 8 * c.args.k) + 3) (203 + 8 * c.args.k) _ (omega arith) (h 3 (lit< tt))) ∙ e) c.put_head.ensures.here
