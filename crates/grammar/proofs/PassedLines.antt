-- Lines pass. Assumes nothing.
use Rattle.std.proofs.Common.{◌≡◌, ℕ, zero, suc, ◌-◌, ◌*◌, ◌<◌, ◌≤◌, Bool, true, false, T, eqb, leb, List, [], ◌∷◌, ◌++◌, length, drop, codes, refl, arith}
use lib.Signed.{le_z}
use Rattle.std.specs.List.{AllByRecursion}
use Rattle.std.proofs.lemmas.Bool.{both_ways, lt-leb, ne_eqb}
use Rattle.grammar.specs.Grammar.{Word, IsName, Numeral, IsNumeral, numeral_text, lin_text, row_text, numerals_text, Line, set_line, table_line, array_line, least_line, wish_line, IsLine, line_text, lines_text}
use Rattle.grammar.specs.Reading.{byte, size, value, small, within, Names, free, State, set_at, shape, numerals, table_at, bound_small, array_at, least_at, wish_at, line, behind, lines}
use Rattle.grammar.specs.Fine.{FineLine, FineLines}
use Rattle.grammar.proofs.Passes.{Passes, pass_ok, pass_then, pass_see, pass_skip, pass_test, no_name, no_range, pass_name_test, pass_range_test, pass_range_not}
use Rattle.grammar.proofs.Lengths.{line_long}
use Rattle.grammar.proofs.PassedTokens.{Stops, pass_literal, pass_name, pass_numeral}
use Rattle.grammar.proofs.PassedSums.{pass_lin}
use Rattle.grammar.proofs.PassedRows.{pass_row}

true_of : (t : Bool) → T t → t ≡ true
true_of true h = refl
true_of false h = absurd h

numerals_stop : (ns : List Numeral) (k : List ℕ) → Stops (numerals_text ns (10 ∷ k))
numerals_stop [] k = refl
numerals_stop (n ∷ ns) k = refl

-- how a line begins
line_first : (l : Line) (k : List ℕ) → eqb (byte (line_text l k) 0) 256 ≡ false
line_first (set_line w n) k = refl
line_first (table_line w r c n ns) k = refl
line_first (array_line w r c l h) k = refl
line_first (least_line l) k = refl
line_first (wish_line r) k = refl

module _ {F : Type 0} (u : List ℕ) (short : F → length u ≤ 65536) where
  pass_shape : (k : List ℕ) (ns : Names) (start : ℕ) (w : Word) (r c : Numeral) (at : ℕ) → IsName w → IsNumeral r → IsNumeral c → Stops k → (F → (free w ns ≡ true) × (within 1 1000 r ≡ true) × (within 1 1000 c ≡ true))
      → drop at u ≡ w ++ (32 ∷ numeral_text r (32 ∷ numeral_text c k)) → Passes F u k (record { name = w; rows = r; columns = c }) (shape u ns start at)
  unfolding shape
  pass_shape k ns start w r c at x y z s f h =
      let a = numeral_text c k in
      pass_then _ (pass_name u short (32 ∷ numeral_text r (32 ∷ a)) w at x refl h) (λ e h.
      pass_name_test (free w ns) _ (λ v. (f v).0)
      (pass_then _ (pass_literal u short (numeral_text r (32 ∷ a)) (codes " ") e h) (λ e h.
      pass_then _ (pass_numeral u short (32 ∷ a) r e y refl h) (λ e h.
      pass_range_test (within 1 1000 r) _ (λ v. (f v).1)
      (pass_then _ (pass_literal u short a (codes " ") e h) (λ e h.
      pass_then _ (pass_numeral u short k c e z s h) (λ e h. pass_range_test (within 1 1000 c) _ (λ v. (f v).2) (pass_ok h))))))))

  -- so many as are wanted
  pass_numerals : (ns : List Numeral) (wanted : ℕ) (k : List ℕ) (start at : ℕ) → AllByRecursion IsNumeral ns → (F → AllByRecursion (λ n. small n ≡ true) ns × (length ns ≡ wanted)) → drop at u ≡ numerals_text ns (10 ∷ k)
      → Passes F u (10 ∷ k) ns (numerals u start wanted at)
  unfolding numerals
  pass_numerals [] zero k start at i f h = pass_skip (λ b. eqb b 44) (10 ∷ k) at _ h refl (pass_ok h)
  pass_numerals [] (suc wanted) k start at i f h =
      pass_skip (λ b. eqb b 44) (10 ∷ k) at _ h refl (pass_see (λ b. eqb b 10) (10 ∷ k) at _ h refl (no_range (λ y. let z = (f y).1 in omega arith)))
  pass_numerals (n ∷ ns) zero k start at i f h =
      let r = numeral_text n (numerals_text ns (10 ∷ k)) in
      pass_see (λ b. eqb b 44) (44 ∷ 32 ∷ r) at _ h refl (pass_then _ (pass_literal u short r (codes ", ") at h) (λ e h. no_range (λ y. let z = (f y).1 in omega arith)))
  pass_numerals (n ∷ ns) (suc wanted) k start at i f h =
      let m = numerals_text ns (10 ∷ k) in
      pass_see (λ b. eqb b 44) (44 ∷ 32 ∷ numeral_text n m) at _ h refl
      (pass_then _ (pass_literal u short (numeral_text n m) (codes ", ") at h) (λ e h.
      pass_then _ (pass_numeral u short m n e i.0 (numerals_stop ns k) h) (λ e h.
      pass_range_test (small n) _ (λ y. (f y).0.0)
      (pass_then _ (pass_numerals ns wanted k start e i.1 (λ y. ((f y).0.1, let z = (f y).1 in omega arith)) h) (λ e h. pass_ok h)))))

module _ {F : Type 0} (u : List ℕ) (short : F → length u ≤ 65536) (most : ℕ) (room : F → length u < most) where
  pass_line : (l : Line) (st : State) (k : List ℕ) (at : ℕ) → IsLine l → (F → FineLine st l) → drop at u ≡ line_text l k → Passes F u k l (line u most st at)
  unfolding line set_at table_at array_at least_at wish_at FineLine
  pass_line (set_line w n) st k at i f h =
      let r = numeral_text n (10 ∷ k) in
      pass_see (λ b. eqb b 115) (line_text (set_line w n) k) at _ h refl
      (pass_then _ (pass_literal u short (w ++ (32 ∷ r)) (codes "set ") at h) (λ e h.
      pass_range_not (leb 16 st.sets) _ (λ y. lt-leb 16 st.sets (f y).0)
      (pass_then _ (pass_name u short (32 ∷ r) w e i.0 refl h) (λ e h.
      pass_name_test (free w st.names) _ (λ y. (f y).1)
      (pass_then _ (pass_literal u short r (codes " ") e h) (λ e h.
      pass_then _ (pass_numeral u short (10 ∷ k) n e i.1 refl h) (λ e h.
      pass_range_test (within 0 1000 n) _ (λ y. (f y).2)
      (pass_then _ (pass_literal u short k (10 ∷ []) e h) (λ e h. pass_ok h)))))))))
  pass_line (table_line w r c n ns) st k at i f h =
      let a = numeral_text n (numerals_text ns (10 ∷ k)) in
      let b = w ++ (32 ∷ numeral_text r (32 ∷ numeral_text c (58 ∷ 32 ∷ a))) in
      pass_skip (λ b. eqb b 115) (codes "table " ++ b) at _ h refl
      (pass_see (λ b. eqb b 116) (codes "table " ++ b) at _ h refl
      (pass_then _ (pass_literal u short b (codes "table ") at h) (λ e h.
      pass_range_not (leb 16 st.tables) _ (λ y. lt-leb 16 st.tables (f y).0)
      (pass_then _ (pass_shape u short (58 ∷ 32 ∷ a) st.names at w r c e i.0 i.1 i.2 refl (λ y. ((f y).1, (f y).2, (f y).3)) h) (λ e h.
      pass_then _ (pass_literal u short a (codes ": ") e h) (λ d h.
      pass_then _ (pass_numeral u short (numerals_text ns (10 ∷ k)) n d i.3 (numerals_stop ns k) h) (λ e h.
      pass_range_test (small n) _ (λ y. (f y).4)
      (pass_then _ (pass_numerals u short ns (size r * size c - 1) k at e i.4 (λ y. ((f y).5, let z = (f y).6 in omega arith)) h) (λ e h.
      pass_then _ (pass_literal u short k (10 ∷ []) e h) (λ e h. pass_ok h))))))))))
  pass_line (array_line w r c l m) st k at i f h =
      let a = numeral_text m (10 ∷ k) in
      let b = numeral_text l (codes " to " ++ a) in
      let d = w ++ (32 ∷ numeral_text r (32 ∷ numeral_text c (codes " from " ++ b))) in
      pass_skip (λ b. eqb b 115) (codes "unknown " ++ d) at _ h refl
      (pass_skip (λ b. eqb b 116) (codes "unknown " ++ d) at _ h refl
      (pass_see (λ b. eqb b 117) (codes "unknown " ++ d) at _ h refl
      (pass_then _ (pass_literal u short d (codes "unknown ") at h) (λ e h.
      pass_range_not (leb 16 st.arrays) _ (λ y. lt-leb 16 st.arrays (f y).0)
      (pass_then _ (pass_shape u short (codes " from " ++ b) st.names at w r c e i.0 i.1 i.2 refl (λ y. ((f y).1, (f y).2, (f y).3)) h) (λ e h.
      pass_then _ (pass_literal u short b (codes " from ") e h) (λ e h.
      pass_then _ (pass_numeral u short (codes " to " ++ a) l e i.3 refl h) (λ e h.
      pass_range_test (bound_small l) _ (λ y. (f y).4)
      (pass_then _ (pass_literal u short a (codes " to ") e h) (λ e h.
      pass_then _ (pass_numeral u short (10 ∷ k) m e i.4 refl h) (λ e h.
      pass_range_test (bound_small m) _ (λ y. (f y).5)
      (pass_range_test (le_z (value l) (value m)) _ (λ y. true_of (le_z (value l) (value m)) (f y).6.le)
      (pass_then _ (pass_literal u short k (10 ∷ []) e h) (λ e h. pass_ok h))))))))))))))
  pass_line (least_line l) st k at i f h =
      let d = lin_text l (10 ∷ k) in
      pass_skip (λ b. eqb b 115) (codes "least " ++ d) at _ h refl
      (pass_skip (λ b. eqb b 116) (codes "least " ++ d) at _ h refl
      (pass_skip (λ b. eqb b 117) (codes "least " ++ d) at _ h refl
      (pass_see (λ b. eqb b 108) (codes "least " ++ d) at _ h refl
      (pass_then _ (pass_literal u short d (codes "least ") at h) (λ e h.
      pass_test st.least (λ z. no_name (λ y. both_ways st.least (f y).0 z)) (λ _.
      pass_then _ (pass_lin u short most room l 8 64 st.names (10 ∷ k) e i (refl, refl) refl (λ y. (f y).1) h) (λ e h.
      pass_then _ (pass_literal u short k (10 ∷ []) e h) (λ e h. pass_ok h))))))))
  pass_line (wish_line r) st k at i f h =
      let d = row_text r (10 ∷ k) in
      pass_skip (λ b. eqb b 115) (codes "wish " ++ d) at _ h refl
      (pass_skip (λ b. eqb b 116) (codes "wish " ++ d) at _ h refl
      (pass_skip (λ b. eqb b 117) (codes "wish " ++ d) at _ h refl
      (pass_skip (λ b. eqb b 108) (codes "wish " ++ d) at _ h refl
      (pass_see (λ b. eqb b 119) (codes "wish " ++ d) at _ h refl
      (pass_then _ (pass_literal u short d (codes "wish ") at h) (λ e h.
      pass_range_not (leb 256 st.wishes) _ (λ y. lt-leb 256 st.wishes (f y).0)
      (pass_then _ (pass_row u short most room r 8 st.names (10 ∷ k) e i (refl, refl) refl (λ y. (f y).1) h) (λ e h.
      pass_then _ (pass_literal u short k (10 ∷ []) e h) (λ e h. pass_ok h)))))))))

  -- with a turn for each line, and one to end at
  pub pass_each : (ls : List Line) (turns : ℕ) (st : State) (at : ℕ) → AllByRecursion IsLine ls → (F → length (lines_text ls []) < turns) → (F → FineLines st ls) → drop at u ≡ lines_text ls [] → Passes F u [] ls (lines u most turns st at)
  unfolding lines FineLines
  pass_each [] zero st at i t f h = no_range (λ y. let n = t y in omega arith)
  pass_each (l ∷ ls) zero st at i t f h = no_range (λ y. let n = t y in omega arith)
  pass_each [] (suc turns) st at i t f h =
      pass_see (λ b. eqb b 256) [] at _ h refl
      (pass_name_test st.least _ (λ y. (f y).0) (pass_range_not (eqb st.arrays 0) _ (λ y. let z = (f y).1 in ne_eqb st.arrays 0 (λ e. omega arith)) (pass_ok h)))
  pass_each (l ∷ ls) (suc turns) st at i t f h =
      let p = line_long l (lines_text ls []) i.0 in
      pass_skip (λ b. eqb b 256) (line_text l (lines_text ls [])) at _ h (line_first l (lines_text ls []))
      (pass_then _ (pass_line l st (lines_text ls []) at i.0 (λ y. (f y).0) h) (λ e h.
      pass_then _ (pass_each ls turns (behind l st) e i.1 (λ y. let n = t y in omega arith) (λ y. (f y).1) h) (λ e h. pass_ok h)))

-- with turns enough
pub pass_lines : (u : List ℕ) (most turns : ℕ) (st : State) (at : ℕ) (ls : List Line) → length u < most → length (lines_text ls []) < turns → AllByRecursion IsLine ls → drop at u ≡ lines_text ls []
    → Passes (FineLines st ls × (length u ≤ 65536)) u [] ls (lines u most turns st at)
pass_lines u most turns st at ls room t i h = pass_each u (λ y. y.1) most (λ _. room) ls turns st at i (λ _. t) (λ y. y.0) h
