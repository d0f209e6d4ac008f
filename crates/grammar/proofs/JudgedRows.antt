-- Constraints, judged. Assumes nothing.
use Rattle.std.proofs.Common.{ℕ, zero, suc, ◌+◌, Bool, true, false, eqb, List, ◌∷◌, ◌++◌, codes, sym, refl, ◌∙◌}
use Rattle.std.proofs.lemmas.Bool.{true≢false}
use Rattle.model.specs.declared.Comparison.{Comparison}
use Rattle.model.specs.declared.Comparison.TheVariants.{AtMost, AtLeast, Exactly}
use Rattle.grammar.specs.Grammar.{Term, Lin, one, Sides, last, next, Row, compare, for_all, IsSides, IsRow, comparison_text, term_text, sides_text, row_text}
use Rattle.grammar.specs.Reading.{Got, ok, then, byte, Names, with_index, Header, header, comparison, is_sign, behind_left, sides, any_row, row}
use Rattle.grammar.specs.Fine.{FineSides, FineRow}
use Rattle.grammar.proofs.Places.{Span, span_none, span_byte}
use Rattle.grammar.proofs.Judged.{Kind, Judged, judge_then, judge_last, judge_range_fault, judge_stop, judge_none, judge_cond, judge_taken, judge_byte, Lit, judge_literal}
use Rattle.grammar.proofs.JudgedHeaders.{Headed, judge_header}
use Rattle.grammar.proofs.JudgedTerms.{SureTerm, Lins, 0_term, Signs, judge_sign, Inside, Onward, judge_no_all, judge_term, judge_lin}

abbrev Comparisons : Kind
Comparisons = record { Tree = Comparison; Is = λ _. Unit {0}; Sure = λ _ _. Unit {0}; text = comparison_text }

judge_comparison : (x : List ℕ) (at : ℕ) → Judged Comparisons x at (comparison x at)
unfolding comparison
judge_comparison x at =
    let S = Comparisons in
    let equals : (m : ℕ) → Judged (Lit (codes "=")) x m _ = λ m. judge_literal x (codes "=") m refl in
    judge_cond (eqb (byte x at) 60) (λ b. judge_taken at (λ n. judge_last (Lit (codes "=")) S (span_byte x at 60 refl n b) (equals (at + 1)) (λ _. AtMost) (λ _ _. tt) (λ _ _ _. tt) (λ _ k. refl))) (λ _.
    judge_cond (eqb (byte x at) 62) (λ b. judge_taken at (λ n. judge_last (Lit (codes "=")) S (span_byte x at 62 refl n b) (equals (at + 1)) (λ _. AtLeast) (λ _ _. tt) (λ _ _ _. tt) (λ _ k. refl))) (λ _.
    judge_cond (eqb (byte x at) 61) (judge_byte S x at 61 Exactly refl (λ _. tt) (λ _. refl)) (λ _. judge_none S x at Exactly tt)))

abbrev Sided : Names → ℕ → Kind
Sided ns nest = record { Tree = Sides; Is = IsSides; Sure = λ s _. IsSides s × FineSides ns nest s; text = sides_text }

abbrev pub Rows : Names → ℕ → Kind
Rows ns nest = record { Tree = Row; Is = IsRow; Sure = λ r _. IsRow r × FineRow ns nest r; text = row_text }

-- finished by ` = 0`
abbrev pub is_0 : Term → Sides
is_0 t = last t Exactly (one 0_term)

judge_behind_left : (x : List ℕ) (ns : Names) (nest : ℕ) (further : ℕ → Got Sides) (right : ℕ → Got Lin) (at : ℕ) → ((m : ℕ) → Judged (Sided ns nest) x m (further m)) → ((m : ℕ) → Judged (Lins ns 64 nest) x m (right m))
    → (t : Term) (e : ℕ) → SureTerm ns 64 nest t → Span x at e (λ k. term_text t (32 ∷ k)) → Judged (Sided ns nest) x at (behind_left x further right t e)
unfolding behind_left FineSides
judge_behind_left x ns nest further right at f r t e y s =
    let S = Sided ns nest in
    judge_cond (is_sign (byte x e))
    (λ _.
    judge_then Signs S _ s (judge_sign x e) (λ g. next t g (is_0 0_term)) (λ k. codes " 0 = 0" ++ k) (λ _ _. (y.0, (tt, tt))) (λ _ k. refl) (λ g e _ s.
    judge_then (Lit (codes " ")) S _ s (judge_literal x (codes " ") e refl) (λ _. next t g (is_0 0_term)) (λ k. codes "0 = 0" ++ k) (λ _ _. (y.0, (tt, tt))) (λ _ k. refl) (λ _ e _ s.
    judge_last S S s (f e) (λ d. next t g d) (λ d i. (y.0, i)) (λ d _ z. ((y.0, z.0), (y.1, z.1))) (λ d k. refl))))
    (λ _.
    judge_then Comparisons S _ s (judge_comparison x e) (λ c. last t c (one 0_term)) (λ k. codes " 0" ++ k) (λ _ _. (y.0, tt)) (λ _ k. refl) (λ c e _ s.
    judge_then (Lit (codes " ")) S _ s (judge_literal x (codes " ") e refl) (λ _. last t c (one 0_term)) (λ k. codes "0" ++ k) (λ _ _. (y.0, tt)) (λ _ k. refl) (λ _ e _ s.
    judge_last (Lins ns 64 nest) S s (r e) (λ l. last t c l) (λ l i. (y.0, i)) (λ l _ z. ((y.0, z.0), (y.1, z.1))) (λ l k. refl))))

judge_sides : (x : List ℕ) (most : ℕ) (deep : Bool) (inner : Names → ℕ → ℕ → Got Lin) (right : ℕ → Got Lin) (ns : Names) (nest : ℕ) → Inside x deep inner nest → ((m : ℕ) → Judged (Lins ns 64 nest) x m (right m))
    → (turns at : ℕ) → Judged (Sided ns nest) x at (sides x most deep inner right ns turns at)
unfolding sides
judge_sides x most deep inner right ns nest j r zero at = judge_range_fault
judge_sides x most deep inner right ns nest j r (suc turns) at =
    let S = Sided ns nest in
    let o : Onward S x ns 64 nest at _ _ = record {
      tree = is_0;
      tail = λ k. codes " = 0" ++ k;
      good = λ t i. (i, tt);
      same = λ t k. refl;
      at_end = λ t e y s. judge_stop S (term_text t) (λ k. codes " = 0" ++ k) s (is_0 t) (y.0, tt) (λ k. refl);
      at_space = judge_behind_left x ns nest _ right at (judge_sides x most deep inner right ns nest j r turns) r;
    } in
    judge_term S x ns 64 most deep inner nest at _ _ _ j o (judge_no_all S x ns 64 nest at _ _ o)

-- what reads the constraint inside an `all`, where one may stand
abbrev Held : List ℕ → (Names → ℕ → Got Row) → ℕ → Type 0
Held x body zero = Unit {0}
Held x body (suc nest) = (ns : Names) (m : ℕ) → Judged (Rows ns nest) x m (body ns m)

abbrev all_of : Header → Row → Row
all_of h r = for_all h.set h.name h.filter r

-- behind the word `all`
judge_all : (x : List ℕ) (most : ℕ) (deep : Bool) (inner : Names → ℕ → ℕ → Got Lin) (body : Names → ℕ → Got Row) (ns : Names) (nest at : ℕ) → Inside x deep inner nest → Held x body nest → (e : ℕ) → Span x at e (λ k. codes "all" ++ k)
    → Judged (Rows ns nest) x at (then (header x ns 64 most deep at e) (λ h y. then (body (with_index h.name ns) y) (λ r z. ok (all_of h r) z)))
unfolding FineRow
judge_all x most deep inner body ns zero at d _ e s =
    judge_then (Headed ns 64 deep) (Rows ns zero) _ s (judge_header x ns 64 most deep at e) (λ h. all_of h (compare (is_0 0_term))) (λ k. codes "0 = 0" ++ k) (λ h i. (i.0, i.1, i.2, (tt, tt))) (λ h k. refl)
    (λ h y f s. absurd (true≢false (sym d ∙ f.1)))
judge_all x most deep inner body ns (suc nest) at _ j e s =
    let S = Rows ns (suc nest) in
    judge_then (Headed ns 64 deep) S _ s (judge_header x ns 64 most deep at e) (λ h. all_of h (compare (is_0 0_term))) (λ k. codes "0 = 0" ++ k) (λ h i. (i.0, i.1, i.2, (tt, tt))) (λ h k. refl) (λ h y f s.
    let (i, _, v) = f in
    judge_last (Rows (with_index h.name ns) nest) S s (j (with_index h.name ns) y) (λ r. all_of h r) (λ r g. (i.0, i.1, i.2, g)) (λ r _ g. ((i.0, i.1, i.2, g.0), (v, g.1))) (λ r k. refl))

judge_any_row : (x : List ℕ) (most : ℕ) (deep : Bool) (inner : Names → ℕ → ℕ → Got Lin) (right : ℕ → Got Lin) (body : Names → ℕ → Got Row) (ns : Names) (nest at : ℕ)
    → Inside x deep inner nest → ((m : ℕ) → Judged (Lins ns 64 nest) x m (right m)) → Held x body nest → Judged (Rows ns nest) x at (any_row x most deep inner right body ns at)
unfolding any_row FineRow
judge_any_row x most deep inner right body ns nest at j r h =
    let S = Rows ns nest in
    let o : Onward S x ns 64 nest at _ _ = record {
      tree = λ t. compare (is_0 t);
      tail = λ k. codes " = 0" ++ k;
      good = λ t i. (i, tt);
      same = λ t k. refl;
      at_end = λ t e y s. judge_stop S (term_text t) (λ k. codes " = 0" ++ k) s (compare (is_0 t)) (y.0, tt) (λ k. refl);
      at_space = λ t e y s.
          judge_last (Sided ns nest) S (span_none x at) (judge_behind_left x ns nest _ right at (judge_sides x most deep inner right ns nest j r most) r t e y s) compare (λ d i. i) (λ d _ z. z) (λ d k. refl);
    } in
    judge_term S x ns 64 most deep inner nest at _ _ _ j o (judge_all x most deep inner body ns nest at j h)

pub judge_row : (x : List ℕ) (most nest : ℕ) (ns : Names) (at : ℕ) → Judged (Rows ns nest) x at (row x most nest ns at)
unfolding row
judge_row x most zero ns at = judge_any_row x most true _ _ _ ns zero at refl (judge_lin x most zero ns 64) tt
judge_row x most (suc nest) ns at = judge_any_row x most false _ _ _ ns (suc nest) at (judge_lin x most nest) (judge_lin x most (suc nest) ns 64) (judge_row x most nest)
