-- What was read is what the text is, and up to a syntax fault a text goes. Assumes nothing.
use Rattle.std.proofs.Common.{◌≡◌, ℕ, zero, suc, ◌+◌, ◌<◌, ◌≤◌, List, [], ◌∷◌, length, take, sym, refl, ap, ◌∙◌, subst, ⊎_elim, suc-le-suc, arith}
use Rattle.std.specs.List.{AllByRecursion}
use Rattle.std.proofs.lemmas.List.{drop_all}
use Rattle.std.proofs.ByRecursion.{All-get_or}
use Rattle.std.proofs.lemmas.Bool.{cases_lt}
use Rattle.grammar.specs.declared.Refusal.TheVariants.{Syntax}
use Rattle.grammar.specs.Grammar.{Line, lines_text, Begins}
use Rattle.grammar.specs.Reading.{Got, ok, bad, at_first, reading}
use Rattle.grammar.specs.Fine.{Written}
use Rattle.grammar.proofs.Places.{Between}
use Rattle.grammar.proofs.Judged.{Judged}
use Rattle.grammar.proofs.JudgedLines.{Texts, judge_lines}

take_between : (p : ℕ) (x u : List ℕ) → AllByRecursion (λ c. c < 256) x → p ≤ length x → Between 0 p x u → take p u ≡ take p x
take_between zero x u b l a = refl
take_between (suc p) [] u b l a = absurd (omega arith)
take_between (suc p) (c ∷ x) [] b l a = let z = a 0 (omega arith) (omega arith) in let y = b.0 in absurd (omega arith)
take_between (suc p) (c ∷ x) (d ∷ u) b l a =
    ap (λ e. e ∷ take p u) (sym (a 0 (omega arith) (omega arith))) ∙ ap (λ m. c ∷ m) (take_between p x u b.1 (omega arith) (λ i h l. a (suc i) (omega arith) (suc-le-suc l)))

judged : (x : List ℕ) (o : Got (List Line)) → reading x ≡ o → Judged (Texts x at_first) x 0 o
judged x o e = subst (Judged (Texts x at_first) x 0) e (judge_lines x (length x + 1) (length x + 1) at_first 0)

pub taken : (x : List ℕ) (ls : List Line) (e : ℕ) → AllByRecursion (λ c. c < 256) x → reading x ≡ ok ls e → Written x ls × (e ≡ length x)
taken x ls e b r =
    let ((i, f, z), s) = (judged x (ok ls e) r).told in
    let m : e ≤ length x = s.inside (omega arith) in
    let n : e ≡ length x = ⊎_elim (λ (h : e < length x). let y = All-get_or (λ c. c < 256) x e 256 h b in absurd (omega arith)) (λ (h : length x ≤ e). omega arith) (cases_lt e (length x)) in
    let o : e ≤ 65536 = s.short (omega arith) in
    ((i, f, omega arith, s.here ∙ ap (lines_text ls) (drop_all e x (omega arith))), n)

pub begins : (x : List ℕ) (p : ℕ) → AllByRecursion (λ c. c < 256) x → reading x ≡ bad (Syntax p) → (p ≤ length x) × Begins p x
begins x p b r =
    let v = (judged x (bad (Syntax p)) r).told in
    let l : p ≤ length x = v.span.inside (omega arith) in
    (l, (v.tree, v.good, take_between p x (lines_text v.tree []) b l (v.span.there (lines_text v.tree []) (v.tail []) (v.same [])).0))
