use Rattle.std.proofs.Common.{◌≡◌, ℕ, ◌+◌, ◌<◌, cond, Some, None, Option, sym, ap, ◌∙◌, arith, w64, SFits, to_z, rules}
use Rattle.std.proofs.lemmas.Int.{to_z-of_z}
use Rattle.model.specs.Meaning.{inside, place}
use Rattle.model.specs.Words.{word, table_count}
use Rattle.model.proofs.Heads.{same_place, same_below, entry_none, entry_at, entry_beyond}
use Rattle.model.proofs.symbols.table_entry.Goals as goal

pub returns-then-t-count : goal.returns-then-t-count
returns-then-t-count c = sym (entry_none c.args.words.now c.args.t c.args.i c.args.j (omega (arith, c.count.ensures)))

pub returns-in-Some : goal.returns-in-Some
returns-in-Some c =
    let ws = c.args.words.now in
    let t = c.args.t in
    let p = c.in-Some.p in
    let fi = c.ranges.i in
    let fj = c.ranges.j in
    let f : SFits w64 c.number_behind.result = search rules in
    let h : t < table_count ws = omega (arith, c.count.ensures) in
    let e : Some p ≡ cond (inside c.limited-rows.result c.limited-columns.result c.args.i c.args.j) (Some (place c.limited-columns.result c.args.i c.args.j)) None = simp to_z-of_z at c.in-Some.ensures.value in
    let k = same_place _ _ _ _ c.args.i c.args.j (Some p) c.limited-rows.ensures.value c.limited-columns.ensures.value e in
    let l = same_below _ _ _ _ p c.limited-rows.ensures.value c.limited-columns.ensures.value c.in-Some.ensures.bound.0 in
    to_z-of_z w64 c.number_behind.result f ∙ c.number_behind.ensures ∙ ap (λ s. to_z w64 (word ws (s + p))) c.word.ensures ∙ sym (entry_at ws t c.args.i c.args.j p h l k)

pub returns-in-None : goal.returns-in-None
returns-in-None c =
    let fi = c.ranges.i in
    let fj = c.ranges.j in
    let e : ◌≡◌ {A = Option ℕ} None (cond (inside c.limited-rows.result c.limited-columns.result c.args.i c.args.j) (Some (place c.limited-columns.result c.args.i c.args.j)) None) = simp to_z-of_z at c.in-None.ensures.value in
    let k = same_place _ _ _ _ c.args.i c.args.j None c.limited-rows.ensures.value c.limited-columns.ensures.value e in
    sym (entry_beyond c.args.words.now c.args.t c.args.i c.args.j (omega (arith, c.count.ensures)) k)
