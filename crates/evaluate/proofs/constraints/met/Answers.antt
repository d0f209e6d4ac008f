use Rattle.std.proofs.Common.{◌≡◌, ℕ, ◌≤◌, cond, ltb, [], Some, None, Option, sym, ap, ◌∙◌, subst, arith}
use Rattle.std.proofs.lemmas.Bool.{cond-true, cond-false, lt-ltb, le-ltb}
use Rattle.model.specs.Evaluation.{worked_constraint}
use Rattle.model.specs.Kept.{ConstraintIn, assignment}
use Rattle.model.specs.Words.{constraint_count, constraint_place}
use Rattle.model.proofs.Trees.{constraint_kept}
use Rattle.evaluate.proofs.constraints.met.Goals as goal

pub returns-in_err-constraint_place-clause-means : goal.returns-in_err-constraint_place-clause-means
returns-in_err-constraint_place-clause-means c = λ m r k h e n.
    let (l, p) = constraint_kept c.args.words.now m c.args.i r k h e in
    let f : ◌≡◌ {A = Option ℕ} None (Some (constraint_place c.args.words.now c.args.i)) = c.in_err-constraint_place.ensures ∙ cond-true (ltb c.args.i (constraint_count c.args.words.now)) _ _ (lt-ltb c.args.i (constraint_count c.args.words.now) l) in
    let z : ◌≡◌ {A = ℕ} 0 1 = cc in
    absurd (omega arith)

-- a place that is there is that of a constraint
some_place : (i n k p : ℕ) → Some k ≡ cond (ltb i n) (Some p) None → n ≤ i → ⊥
some_place i n k p e h = let f : Some k ≡ None = e ∙ cond-false (ltb i n) _ _ (le-ltb i n h) in let z : ◌≡◌ {A = ℕ} 0 1 = cc in omega arith

pub returns : goal.returns
returns c =
    let ws = c.args.words.now in
    record {
      beyond = λ b. absurd (some_place c.args.i (constraint_count ws) c.in_ok-constraint_place.field-0 (constraint_place ws c.args.i) c.in_ok-constraint_place.ensures b);
      means = λ m r k h e n.
          let (l, p) = constraint_kept ws m c.args.i r k h e in
          let f : Some c.in_ok-constraint_place.field-0 ≡ Some (constraint_place ws c.args.i) = c.in_ok-constraint_place.ensures ∙ cond-true (ltb c.args.i (constraint_count ws)) _ _ (lt-ltb c.args.i (constraint_count ws) l) in
          let g : c.in_ok-constraint_place.field-0 ≡ constraint_place ws c.args.i = cc in
          c.constraint_met.ensures r k.numbered (subst (λ j. ConstraintIn ws j r) (sym g) p) n ∙ ap (λ s. worked_constraint s (assignment c.args.values.now) [] r) (sym k.symbols);
    }
