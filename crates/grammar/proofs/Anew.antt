-- What is written is read: it never stops at a syntax fault, a text without faults is read as what it was written from, and it was written from one tree only. Assumes nothing.
use Rattle.std.proofs.Common.{◌≡◌, ℕ, ◌+◌, ◌≤◌, List, [], length, refl, ap, subst, arith}
use Rattle.std.specs.List.{AllByRecursion}
use Rattle.grammar.specs.declared.Refusal.TheVariants.{Syntax, Name, Range}
use Rattle.grammar.specs.Grammar.{Line, IsLine, lines_text}
use Rattle.grammar.specs.Reading.{Got, ok, bad, at_first, lines, reading}
use Rattle.grammar.specs.Fine.{FineLines, Written}
use Rattle.grammar.proofs.Passes.{Passes}
use Rattle.grammar.proofs.PassedLines.{pass_each, pass_lines}

-- without faults it is read to the end
passed : {A : Type 0} (F : Type 0) (u k : List ℕ) (a : A) (o : Got A) → Passes F u k a o → F → (e : ℕ) × (o ≡ ok a e)
passed F u k a (ok b e) t f = (e, ap (λ c. ok c e) t.told.0)
passed F u k a (bad (Syntax p)) t f = absurd t.told
passed F u k a (bad (Name p)) t f = absurd (t.told f)
passed F u k a (bad (Range p)) t f = absurd (t.told f)

pass_reading : (x : List ℕ) (ls : List Line) → AllByRecursion IsLine ls → x ≡ lines_text ls [] → Passes (FineLines at_first ls × (length x ≤ 65536)) x [] ls (reading x)
pass_reading x ls i e = let m : length x ≡ length (lines_text ls []) = ap length e in pass_lines x (length x + 1) (length x + 1) at_first 0 ls (omega arith) (omega arith) i e

-- nor with too few turns
pub never_syntax_in : (ls : List Line) (most turns p : ℕ) → AllByRecursion IsLine ls → lines (lines_text ls []) most turns at_first 0 ≡ bad (Syntax p) → ⊥
never_syntax_in ls most turns p i e =
    let x = lines_text ls [] in
    let t : Passes ⊥ x [] ls (bad (Syntax p)) = subst (Passes ⊥ x [] ls) e (pass_each {F = ⊥} x (λ y. absurd y) most (λ y. absurd y) ls turns at_first 0 i (λ y. absurd y) (λ y. absurd y) refl) in
    t.told

pub never_syntax : (ls : List Line) (p : ℕ) → AllByRecursion IsLine ls → reading (lines_text ls []) ≡ bad (Syntax p) → ⊥
never_syntax ls p i e = let n = length (lines_text ls []) + 1 in never_syntax_in ls n n p i e

pub read_anew : (x : List ℕ) (ls : List Line) → Written x ls → (e : ℕ) × (reading x ≡ ok ls e)
read_anew x ls (i, f, s, e) = passed _ x [] ls (reading x) (pass_reading x ls i e) (f, s)

pub one_tree : (x : List ℕ) (ls ms : List Line) → Written x ls → Written x ms → ls ≡ ms
one_tree x ls ms p q = let a = read_anew x ls p in let b = read_anew x ms q in let r = a.1 in let s = b.1 in cc
