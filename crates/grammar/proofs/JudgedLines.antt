-- Lines, judged. Assumes nothing.
use Rattle.std.proofs.Common.{◌≡◌, ℕ, zero, suc, ◌-◌, ◌*◌, ◌<◌, true, eqb, leb, List, [], ◌∷◌, ◌++◌, length, pos, codes, refl, ap, pos_of_ne-zero, mul-pos, arith}
use lib.Signed.{le_z}
use Rattle.std.specs.List.{AllByRecursion}
use Rattle.std.proofs.lemmas.Int.{ints}
use Rattle.std.proofs.lemmas.Bool.{and_parts, eqb-true, eqb-false, leb-false, false≢true}
use Rattle.grammar.specs.Grammar.{Word, IsName, Numeral, nought, whole, minus, IsNumeral, numeral_text, one, compare, Line, set_line, table_line, array_line, least_line, wish_line, IsLine, numerals_text, line_text, lines_text}
use Rattle.grammar.specs.Reading.{ok, then, byte, literal, size, value, small, within, Names, free, State, set_at, Shape, shape, numerals, table_at, bound_small, array_at, least_at, wish_at, line, behind, lines}
use Rattle.grammar.specs.Fine.{FineLine, FineLines}
use Rattle.grammar.proofs.Places.{Span, span_none}
use Rattle.grammar.proofs.Judged.{Kind, Judged, judge_then, judge_last, judge_ok, judge_name_fault, judge_range_fault, judge_none, judge_cond, Lit, judge_literal}
use Rattle.grammar.proofs.JudgedTokens.{Numerals, Called, judge_numeral, judge_name, a_name}
use Rattle.grammar.proofs.JudgedTerms.{Lins, 0_term, judge_lin}
use Rattle.grammar.proofs.JudgedRows.{Rows, is_0, judge_row}

abbrev Lines : State → Kind
Lines st = record { Tree = Line; Is = IsLine; Sure = λ l _. IsLine l × FineLine st l; text = line_text }

-- the end of a line that is all there
judge_end : (st : State) (x : List ℕ) {a : ℕ} (m : ℕ) {C : List ℕ → List ℕ} (l : Line) → Span x a m C → IsLine l → FineLine st l → ((k : List ℕ) → line_text l k ≡ C (10 ∷ k)) → Judged (Lines st) x a (then (literal x (10 ∷ []) m) (λ _ z. ok l z))
judge_end st x m l s i f w = judge_last (Lit (10 ∷ [])) (Lines st) s (judge_literal x (10 ∷ []) m refl) (λ _. l) (λ _ _. i) (λ _ _ _. (i, f)) (λ _ k. w k)

judge_set : (x : List ℕ) (st : State) (at : ℕ) → Judged (Lines st) x at (set_at x st at)
unfolding set_at FineLine
judge_set x st at =
    let S = Lines st in
    judge_then (Lit (codes "set ")) S _ (span_none x at) (judge_literal x (codes "set ") at refl) (λ _. set_line (codes "a") nought) (λ k. codes "a 0" ++ (10 ∷ k)) (λ _ _. (a_name, tt)) (λ _ k. refl) (λ _ b _ s.
    judge_cond (leb 16 st.sets) (λ _. judge_range_fault) (λ few.
    judge_then Called S _ s (judge_name x b) (λ w. set_line w nought) (λ k. codes " 0" ++ (10 ∷ k)) (λ w i. (i, tt)) (λ w k. refl) (λ w e i s.
    judge_cond (free w st.names)
    (λ y.
    judge_then (Lit (codes " ")) S _ s (judge_literal x (codes " ") e refl) (λ _. set_line w nought) (λ k. codes "0" ++ (10 ∷ k)) (λ _ _. (i, tt)) (λ _ k. refl) (λ _ e _ s.
    judge_then Numerals S _ s (judge_numeral x e) (λ n. set_line w n) (λ k. 10 ∷ k) (λ n h. (i, h)) (λ n k. refl) (λ n e h s.
    judge_cond (within 0 1000 n) (λ z. judge_end st x e (set_line w n) s (i, h) (leb-false 16 st.sets few, y, z) (λ k. refl)) (λ _. judge_range_fault))))
    (λ _. judge_name_fault))))

abbrev IsShape : Shape → Type 0
IsShape s = IsName s.name × IsNumeral s.rows × IsNumeral s.columns

abbrev Shapes : Names → Kind
Shapes ns = record {
  Tree = Shape;
  Is = IsShape;
  Sure = λ s _. IsShape s × (free s.name ns ≡ true) × (within 1 1000 s.rows ≡ true) × (within 1 1000 s.columns ≡ true);
  text = λ s k. s.name ++ (32 ∷ numeral_text s.rows (32 ∷ numeral_text s.columns k));
}

abbrev shaped : Word → Numeral → Numeral → Shape
shaped w r c = record { name = w; rows = r; columns = c }

judge_shape : (x : List ℕ) (ns : Names) (start at : ℕ) → Judged (Shapes ns) x at (shape x ns start at)
unfolding shape
judge_shape x ns start at =
    let S = Shapes ns in
    judge_then Called S _ (span_none x at) (judge_name x at) (λ w. shaped w nought nought) (λ k. codes " 0 0" ++ k) (λ w i. (i, tt, tt)) (λ w k. refl) (λ w e i s.
    judge_cond (free w ns)
    (λ y.
    judge_then (Lit (codes " ")) S _ s (judge_literal x (codes " ") e refl) (λ _. shaped w nought nought) (λ k. codes "0 0" ++ k) (λ _ _. (i, tt, tt)) (λ _ k. refl) (λ _ e _ s.
    judge_then Numerals S _ s (judge_numeral x e) (λ r. shaped w r nought) (λ k. codes " 0" ++ k) (λ r p. (i, p, tt)) (λ r k. refl) (λ r e p s.
    judge_cond (within 1 1000 r)
    (λ z.
    judge_then (Lit (codes " ")) S _ s (judge_literal x (codes " ") e refl) (λ _. shaped w r nought) (λ k. codes "0" ++ k) (λ _ _. (i, p, tt)) (λ _ k. refl) (λ _ e _ s.
    judge_then Numerals S _ s (judge_numeral x e) (λ c. shaped w r c) (λ k. k) (λ c q. (i, p, q)) (λ c k. refl) (λ c e q s.
    judge_cond (within 1 1000 c) (λ v. judge_ok S ((i, p, q), y, z, v) s) (λ _. judge_range_fault))))
    (λ _. judge_range_fault))))
    (λ _. judge_name_fault))

abbrev Listed : ℕ → Kind
Listed wanted = record { Tree = List Numeral; Is = AllByRecursion IsNumeral; Sure = λ ns _. AllByRecursion IsNumeral ns × AllByRecursion (λ m. small m ≡ true) ns × (length ns ≡ wanted); text = numerals_text }

judge_numerals : (x : List ℕ) (start wanted at : ℕ) → Judged (Listed wanted) x at (numerals x start wanted at)
unfolding numerals
judge_numerals x start zero at =
    let S = Listed zero in
    judge_cond (eqb (byte x at) 44)
    (λ _. judge_then (Lit (codes ", ")) S _ (span_none x at) (judge_literal x (codes ", ") at refl) (λ _. nought ∷ []) (λ k. codes "0" ++ k) (λ _ _. (tt, tt)) (λ _ k. refl) (λ _ _ _ _. judge_range_fault))
    (λ _. judge_ok S (tt, tt, refl) (span_none x at))
judge_numerals x start (suc wanted) at =
    let S = Listed (suc wanted) in
    judge_cond (eqb (byte x at) 44)
    (λ _.
    judge_then (Lit (codes ", ")) S _ (span_none x at) (judge_literal x (codes ", ") at refl) (λ _. nought ∷ []) (λ k. codes "0" ++ k) (λ _ _. (tt, tt)) (λ _ k. refl) (λ _ b _ s.
    judge_then Numerals S _ s (judge_numeral x b) (λ n. n ∷ []) (λ k. k) (λ n i. (i, tt)) (λ n k. refl) (λ n m i s.
    judge_cond (small n)
    (λ y. judge_last (Listed wanted) S s (judge_numerals x start wanted m) (λ ns. n ∷ ns) (λ ns h. (i, h)) (λ ns _ h. ((i, h.0), (y, h.1), ap suc h.2)) (λ ns k. refl))
    (λ _. judge_range_fault))))
    (λ _. judge_cond (eqb (byte x at) 10) (λ _. judge_range_fault) (λ _. judge_none S x at [] tt))

-- a number from 1 on
from_1 : (n : Numeral) → within 1 1000 n ≡ true → 0 < size n
from_1 nought e = absurd (false≢true e)
from_1 (whole d ds) e = let l = (and_parts (le_z (pos 1) (value (whole d ds))) (le_z (value (whole d ds)) (pos 1000)) e).0 in omega (arith, ints)
from_1 (minus d ds) e = let l = (and_parts (le_z (pos 1) (value (minus d ds))) (le_z (value (minus d ds)) (pos 1000)) e).0 in omega (arith, ints)

judge_table : (x : List ℕ) (st : State) (at : ℕ) → Judged (Lines st) x at (table_at x st at)
unfolding table_at FineLine
judge_table x st at =
    let S = Lines st in
    judge_then (Lit (codes "table ")) S _ (span_none x at) (judge_literal x (codes "table ") at refl) (λ _. table_line (codes "a") nought nought nought []) (λ k. codes "a 0 0: 0" ++ (10 ∷ k)) (λ _ _. (a_name, tt, tt, tt, tt)) (λ _ k. refl) (λ _ b _ s.
    judge_cond (leb 16 st.tables) (λ _. judge_range_fault) (λ few.
    judge_then (Shapes st.names) S _ s (judge_shape x st.names at b) (λ h. table_line h.name h.rows h.columns nought []) (λ k. codes ": 0" ++ (10 ∷ k)) (λ h i. (i.0, i.1, i.2, tt, tt)) (λ h k. refl) (λ h m f s.
    let (i, y, p, q) = f in
    judge_then (Lit (codes ": ")) S _ s (judge_literal x (codes ": ") m refl) (λ _. table_line h.name h.rows h.columns nought []) (λ k. codes "0" ++ (10 ∷ k)) (λ _ _. (i.0, i.1, i.2, tt, tt)) (λ _ k. refl) (λ _ d _ s.
    judge_then Numerals S _ s (judge_numeral x d) (λ n. table_line h.name h.rows h.columns n []) (λ k. 10 ∷ k) (λ n j. (i.0, i.1, i.2, j, tt)) (λ n k. refl) (λ n m j s.
    judge_cond (small n)
    (λ z.
    judge_then (Listed (size h.rows * size h.columns - 1)) S _ s (judge_numerals x at (size h.rows * size h.columns - 1) m) (λ ns. table_line h.name h.rows h.columns n ns) (λ k. 10 ∷ k) (λ ns g. (i.0, i.1, i.2, j, g)) (λ ns k. refl) (λ ns m g s.
    let all : suc (length ns) ≡ size h.rows * size h.columns = omega (arith, mul-pos (from_1 h.rows p) (from_1 h.columns q), g.2) in
    judge_end st x m (table_line h.name h.rows h.columns n ns) s (i.0, i.1, i.2, j, g.0) (leb-false 16 st.tables few, y, p, q, z, g.1, all) (λ k. refl)))
    (λ _. judge_range_fault))))))

judge_array : (x : List ℕ) (st : State) (at : ℕ) → Judged (Lines st) x at (array_at x st at)
unfolding array_at FineLine
judge_array x st at =
    let S = Lines st in
    judge_then (Lit (codes "unknown ")) S _ (span_none x at) (judge_literal x (codes "unknown ") at refl) (λ _. array_line (codes "a") nought nought nought nought) (λ k. codes "a 0 0 from 0 to 0" ++ (10 ∷ k)) (λ _ _. (a_name, tt, tt, tt, tt)) (λ _ k. refl) (λ _ b _ s.
    judge_cond (leb 16 st.arrays) (λ _. judge_range_fault) (λ few.
    judge_then (Shapes st.names) S _ s (judge_shape x st.names at b) (λ h. array_line h.name h.rows h.columns nought nought) (λ k. codes " from 0 to 0" ++ (10 ∷ k)) (λ h i. (i.0, i.1, i.2, tt, tt)) (λ h k. refl) (λ h m f s.
    let (i, y, p, q) = f in
    judge_then (Lit (codes " from ")) S _ s (judge_literal x (codes " from ") m refl) (λ _. array_line h.name h.rows h.columns nought nought) (λ k. codes "0 to 0" ++ (10 ∷ k)) (λ _ _. (i.0, i.1, i.2, tt, tt)) (λ _ k. refl) (λ _ d _ s.
    judge_then Numerals S _ s (judge_numeral x d) (λ l. array_line h.name h.rows h.columns l nought) (λ k. codes " to 0" ++ (10 ∷ k)) (λ l j. (i.0, i.1, i.2, j, tt)) (λ l k. refl) (λ l m j s.
    judge_cond (bound_small l)
    (λ z.
    judge_then (Lit (codes " to ")) S _ s (judge_literal x (codes " to ") m refl) (λ _. array_line h.name h.rows h.columns l nought) (λ k. codes "0" ++ (10 ∷ k)) (λ _ _. (i.0, i.1, i.2, j, tt)) (λ _ k. refl) (λ _ g _ s.
    judge_then Numerals S _ s (judge_numeral x g) (λ u. array_line h.name h.rows h.columns l u) (λ k. 10 ∷ k) (λ u o. (i.0, i.1, i.2, j, o)) (λ u k. refl) (λ u m o s.
    judge_cond (bound_small u)
    (λ v.
    judge_cond (le_z (value l) (value u))
    (λ t. judge_end st x m (array_line h.name h.rows h.columns l u) s (i.0, i.1, i.2, j, o) (leb-false 16 st.arrays few, y, p, q, z, v, omega (arith, ints)) (λ k. refl))
    (λ _. judge_range_fault))
    (λ _. judge_range_fault))))
    (λ _. judge_range_fault))))))

judge_least : (x : List ℕ) (most : ℕ) (st : State) (at : ℕ) → Judged (Lines st) x at (least_at x most st at)
unfolding least_at FineLine
judge_least x most st at =
    let S = Lines st in
    judge_then (Lit (codes "least ")) S _ (span_none x at) (judge_literal x (codes "least ") at refl) (λ _. least_line (one 0_term)) (λ k. codes "0" ++ (10 ∷ k)) (λ _ _. tt) (λ _ k. refl) (λ _ b _ s.
    judge_cond st.least (λ _. judge_name_fault) (λ first.
    judge_then (Lins st.names 64 8) S _ s (judge_lin x most 8 st.names 64 b) least_line (λ k. 10 ∷ k) (λ l i. i) (λ l k. refl) (λ l m y s. judge_end st x m (least_line l) s y.0 (first, y.1) (λ k. refl))))

judge_wish : (x : List ℕ) (most : ℕ) (st : State) (at : ℕ) → Judged (Lines st) x at (wish_at x most st at)
unfolding wish_at FineLine
judge_wish x most st at =
    let S = Lines st in
    judge_then (Lit (codes "wish ")) S _ (span_none x at) (judge_literal x (codes "wish ") at refl) (λ _. wish_line (compare (is_0 0_term))) (λ k. codes "0 = 0" ++ (10 ∷ k)) (λ _ _. (tt, tt)) (λ _ k. refl) (λ _ b _ s.
    judge_cond (leb 256 st.wishes) (λ _. judge_range_fault) (λ few.
    judge_then (Rows st.names 8) S _ s (judge_row x most 8 st.names b) wish_line (λ k. 10 ∷ k) (λ r i. i) (λ r k. refl) (λ r m y s. judge_end st x m (wish_line r) s y.0 (leb-false 256 st.wishes few, y.1) (λ k. refl))))

judge_line : (x : List ℕ) (most : ℕ) (st : State) (at : ℕ) → Judged (Lines st) x at (line x most st at)
unfolding line
judge_line x most st at =
    judge_cond (eqb (byte x at) 115) (λ _. judge_set x st at) (λ _.
    judge_cond (eqb (byte x at) 116) (λ _. judge_table x st at) (λ _.
    judge_cond (eqb (byte x at) 117) (λ _. judge_array x st at) (λ _.
    judge_cond (eqb (byte x at) 108) (λ _. judge_least x most st at) (λ _.
    judge_cond (eqb (byte x at) 119) (λ _. judge_wish x most st at) (λ _. judge_none (Lines st) x at (least_line (one 0_term)) tt)))))

-- and the text ends behind them
abbrev pub Texts : List ℕ → State → Kind
Texts x st = record { Tree = List Line; Is = AllByRecursion IsLine; Sure = λ ls e. AllByRecursion IsLine ls × FineLines st ls × (byte x e ≡ 256); text = lines_text }

pub judge_lines : (x : List ℕ) (most turns : ℕ) (st : State) (at : ℕ) → Judged (Texts x st) x at (lines x most turns st at)
unfolding lines FineLines
judge_lines x most zero st at = judge_range_fault
judge_lines x most (suc turns) st at =
    let S = Texts x st in
    judge_cond (eqb (byte x at) 256)
    (λ e. judge_cond st.least (λ l. judge_cond (eqb st.arrays 0) (λ _. judge_range_fault) (λ z. judge_ok S (tt, (l, pos_of_ne-zero (eqb-false st.arrays 0 z)), eqb-true (byte x at) 256 e) (span_none x at))) (λ _. judge_name_fault))
    (λ _.
    judge_then (Lines st) S _ (span_none x at) (judge_line x most st at) (λ l. l ∷ []) (λ k. k) (λ l i. (i, tt)) (λ l k. refl) (λ l e y s.
    judge_last (Texts x (behind l st)) S s (judge_lines x most turns (behind l st) e) (λ ls. l ∷ ls) (λ ls h. (y.0, h)) (λ ls _ z. ((y.0, z.0), (y.1, z.1), z.2)) (λ ls k. refl)))
