use Rattle.std.proofs.Common.{◌≡◌, ℕ, ◌+◌, ◌<◌, cond, Some, None, Option, sym, ap, ◌∙◌, arith}
use Rattle.std.proofs.lemmas.Int.{to_z-of_z}
use Rattle.model.specs.Meaning.{inside, place}
use Rattle.model.specs.Words.{array_count}
use Rattle.model.proofs.Heads.{same_place, absent, present_at, absent_at, variable_at}
use Rattle.model.proofs.symbols.variable.Goals as goal

pub returns-then-a-count : goal.returns-then-a-count
returns-then-a-count c = record { test = sym (absent c.args.words.now c.args.a c.args.i c.args.j (omega (arith, c.count.ensures))); value = λ n. tt }

pub returns : goal.returns
returns c =
    let ws = c.args.words.now in
    let a = c.args.a in
    let i = c.args.i in
    let j = c.args.j in
    let p = c.in_ok-place.field-0 in
    let fi = c.ranges.i in
    let fj = c.ranges.j in
    let h : a < array_count ws = omega (arith, c.count.ensures) in
    let e : Some p ≡ cond (inside c.limited-rows.result c.limited-columns.result c.args.i c.args.j) (Some (place c.limited-columns.result c.args.i c.args.j)) None = simp to_z-of_z at c.in_ok-place.ensures.value in
    let k = same_place _ _ _ _ c.args.i c.args.j (Some p) c.limited-rows.ensures.value c.limited-columns.ensures.value e in
    record { test = sym (present_at ws a i j h p k); value = λ n. ap (λ f. f + p) c.limited.ensures.value ∙ variable_at ws a i j h p k n }

pub returns-in_err-place-clause-test : goal.returns-in_err-place-clause-test
returns-in_err-place-clause-test c =
    let fi = c.ranges.i in
    let fj = c.ranges.j in
    let e : ◌≡◌ {A = Option ℕ} None (cond (inside c.limited-rows.result c.limited-columns.result c.args.i c.args.j) (Some (place c.limited-columns.result c.args.i c.args.j)) None) = simp to_z-of_z at c.in_err-place.ensures.value in
    let k = same_place _ _ _ _ c.args.i c.args.j None c.limited-rows.ensures.value c.limited-columns.ensures.value e in
    rw c.from_residual.ensures (sym (absent_at c.args.words.now c.args.a c.args.i c.args.j (omega (arith, c.count.ensures)) k))
