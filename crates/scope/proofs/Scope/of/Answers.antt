use Rattle.std.proofs.Common.{◌≡◌, ◌≤◌, length, reverse, take, drop, ap, ◌∙◌, arith}
use Rattle.std.proofs.lemmas.List.{length-replicate, length-take-le, take_at, take_min}
use Rattle.scope.specs.declared.TheConstants.{NO_ENTRY}
use Rattle.scope.proofs.Entries.{put_behind, put_long}
use Rattle.scope.proofs.Scope.of.Goals as goal

pub invariant_of-result : goal.invariant_of-result
invariant_of-result c =
    let long : length c.blank-held.result ≡ 56 = ap length c.blank-held.ensures ∙ length-replicate 56 NO_ENTRY in
    let few : c.min-count.result ≤ 56 = omega (arith, c.min-count.ensures) in
    let many : length c.copy_from_slice.new.self ≡ c.min-count.result = c.copy_from_slice.ensures.len ∙ length-take-le _ _ (omega (arith, long, few)) in
    (few, put_long _ _ _ few long many, put_behind _ _ _ _ c.blank-held.ensures many)

pub returns : goal.returns
returns c =
    let long : length c.blank-held.result ≡ 56 = ap length c.blank-held.ensures ∙ length-replicate 56 NO_ENTRY in
    let many : length c.copy_from_slice.new.self ≡ c.min-count.result = c.copy_from_slice.ensures.len ∙ length-take-le _ _ (omega (arith, long, c.min-count.ensures)) in
    ap reverse (take_at _ (drop c.min-count.result c.blank-held.result) _ many ∙ c.copy_from_slice.ensures.after ∙ ap (λ k. take k c.args.entries.now) c.min-count.ensures ∙ take_min 56 c.args.entries.now)
