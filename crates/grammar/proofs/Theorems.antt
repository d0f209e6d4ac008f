-- Reading is right: the three judgements put together. Assumes nothing.
use Rattle.std.proofs.Common.{◌≡◌, ℕ, suc, ◌+◌, List, [], length, get_or, take, sym, ap, ◌∙◌, subst, arith}
use Rattle.std.proofs.lemmas.List.{get_or-take}
use Rattle.grammar.specs.declared.Refusal.{Refusal}
use Rattle.grammar.specs.declared.Refusal.TheVariants.{Syntax}
use Rattle.grammar.specs.Grammar.{Line, lines_text, Begins}
use Rattle.grammar.specs.Reading.{bad, at_first, lines, reading}
use Rattle.grammar.specs.Fine.{Written}
use Rattle.grammar.specs.Says.{OneModel, model_of}
use Rattle.grammar.specs.Claims.{ReadsRight}
use Rattle.grammar.proofs.Sound.{taken, begins}
use Rattle.grammar.proofs.Tracks.{Agree, Tracks}
use Rattle.grammar.proofs.Tracked.{track_lines}
use Rattle.grammar.proofs.Anew.{never_syntax_in, read_anew, one_tree}

agree_take : (p : ℕ) (x u : List ℕ) → take p u ≡ take p x → Agree p x u
agree_take p x u e i h = sym (get_or-take p x i 256 h) ∙ ap (λ l. get_or l i 256) (sym e) ∙ get_or-take p u i 256 h

-- a text that went on would be read as x is, up to its fault; but what is written never has one
goes_no_further : (x : List ℕ) (p : ℕ) → reading x ≡ bad (Syntax p) → Begins (suc p) x → ⊥
goes_no_further x p e (ls, i, t) =
    let u = lines_text ls [] in
    let f = length x + 1 in
    let k : Tracks x u 0 (bad (Syntax p)) (lines u f f at_first 0) = subst (λ o. Tracks x u 0 o (lines u f f at_first 0)) e (track_lines x u f f at_first 0) in
    let g : Agree (p + 1) x u = λ n h. agree_take (suc p) x u t n (omega arith) in
    never_syntax_in ls f f p i (k.told.1 g)

no_way : (x : List ℕ) (q : Refusal) → reading x ≡ bad q → (ls : List Line) → Written x ls → ⊥
no_way x q e ls s = let a = read_anew x ls s in let r = a.1 in let z : ◌≡◌ {A = ℕ} 0 1 = cc in omega arith

pub reads_right : ReadsRight
reads_right = record {
  taken = taken;
  anew = read_anew;
  first = λ x p b e. let k = begins x p b e in (k.0, k.1, goes_no_further x p e);
  refused = no_way;
}

pub one_model : OneModel
one_model x m n (ls, p, e) (ms, q, f) = e ∙ ap model_of (one_tree x ls ms p q) ∙ sym f
