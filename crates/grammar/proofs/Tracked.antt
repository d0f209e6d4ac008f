-- Reading looks at no byte past the one at which it stops: constraints and lines, each as it is read. Assumes nothing.
use Rattle.std.proofs.Common.{ℕ, zero, suc, ◌+◌, ◌-◌, ◌*◌, Bool, true, false, eqb, leb, List, [], ◌∷◌, codes}
use lib.Signed.{le_z}
use Rattle.model.specs.declared.Comparison.TheVariants.{Exactly}
use Rattle.grammar.specs.Grammar.{Term, Lin, Sides, Row}
use Rattle.grammar.specs.Reading.{Got, size, value, small, within, Names, free, with_index, comparison, is_sign, behind_left, sides, any_row, row, State, set_at, shape, numerals, table_at, bound_small, array_at, least_at, wish_at, line, behind, lines}
use Rattle.grammar.proofs.Tracks.{Tracks, track_then, track_cond, track_test, track_ok, track_stop, track_name_fault, track_range_fault, track_taken, track_one, track_literal, track_numeral, track_name}
use Rattle.grammar.proofs.TrackedTerms.{ReadAlike, SumsAlike, track_header, track_term, track_sign, track_lin}

-- CONSTRAINTS

track_comparison : (x u : List ℕ) (at : ℕ) → Tracks x u at (comparison x at) (comparison u at)
unfolding comparison
track_comparison x u at =
    track_test (λ b. eqb b 60) (track_taken (track_then (track_literal x u (codes "=") (at + 1)) (λ _ e. track_ok)))
    (track_test (λ b. eqb b 62) (track_taken (track_then (track_literal x u (codes "=") (at + 1)) (λ _ e. track_ok))) (track_test (λ b. eqb b 61) (track_one Exactly) track_stop))

track_behind : (x u : List ℕ) (f g : ℕ → Got Sides) (p q : ℕ → Got Lin) (t : Term) (e : ℕ) → ReadAlike x u f g → ReadAlike x u p q → Tracks x u e (behind_left x f p t e) (behind_left u g q t e)
unfolding behind_left
track_behind x u f g p q t e y z =
    track_test is_sign (track_then (track_sign x u e) (λ k m. track_then (track_literal x u (codes " ") m) (λ _ m. track_then (y m) (λ s z. track_ok))))
    (track_then (track_comparison x u e) (λ c m. track_then (track_literal x u (codes " ") m) (λ _ m. track_then (z m) (λ l z. track_ok))))

track_sides : (x u : List ℕ) (most : ℕ) (deep : Bool) (f g : Names → ℕ → ℕ → Got Lin) (p q : ℕ → Got Lin) (ns : Names) (turns at : ℕ) → SumsAlike x u f g → ReadAlike x u p q
    → Tracks x u at (sides x most deep f p ns turns at) (sides u most deep g q ns turns at)
unfolding sides
track_sides x u most deep f g p q ns zero at t z = track_range_fault
track_sides x u most deep f g p q ns (suc turns) at t z =
    track_term x u ns 64 most deep f g _ _ _ _ _ _ at t (λ e. track_stop) (λ k e. track_stop) (λ k e. track_behind x u _ _ p q k e (λ m. track_sides x u most deep f g p q ns turns m t z) z)

track_any_row : (x u : List ℕ) (most : ℕ) (deep : Bool) (f g : Names → ℕ → ℕ → Got Lin) (p q : ℕ → Got Lin) (a b : Names → ℕ → Got Row) (ns : Names) (at : ℕ)
    → SumsAlike x u f g → ReadAlike x u p q → ((ns : Names) → ReadAlike x u (a ns) (b ns)) → Tracks x u at (any_row x most deep f p a ns at) (any_row u most deep g q b ns at)
unfolding any_row
track_any_row x u most deep f g p q a b ns at t z v =
    track_term x u ns 64 most deep f g _ _ _ _ _ _ at t (λ e. track_then (track_header x u ns 64 most deep at e) (λ h y. track_then (v (with_index h.name ns) y) (λ r z. track_ok)))
    (λ k e. track_stop) (λ k e. track_then (track_behind x u _ _ p q k e (λ m. track_sides x u most deep f g p q ns most m t z) z) (λ s z. track_ok))

pub track_row : (x u : List ℕ) (most nest : ℕ) (ns : Names) (at : ℕ) → Tracks x u at (row x most nest ns at) (row u most nest ns at)
unfolding row
track_row x u most zero ns at = track_any_row x u most true _ _ _ _ _ _ ns at (λ _ _ m. track_range_fault) (track_lin x u most 0 ns 64) (λ _ m. track_range_fault)
track_row x u most (suc nest) ns at = track_any_row x u most false _ _ _ _ _ _ ns at (track_lin x u most nest) (track_lin x u most (suc nest) ns 64) (track_row x u most nest)

-- LINES

track_set : (x u : List ℕ) (st : State) (at : ℕ) → Tracks x u at (set_at x st at) (set_at u st at)
unfolding set_at
track_set x u st at =
    track_then (track_literal x u (codes "set ") at) (λ _ b.
    track_cond (leb 16 st.sets) track_range_fault
    (track_then (track_name x u b) (λ w m.
    track_cond (free w st.names)
    (track_then (track_literal x u (codes " ") m) (λ _ m.
    track_then (track_numeral x u m) (λ n m. track_cond (within 0 1000 n) (track_then (track_literal x u (10 ∷ []) m) (λ _ z. track_ok)) track_range_fault)))
    track_name_fault)))

track_shape : (x u : List ℕ) (ns : Names) (line at : ℕ) → Tracks x u at (shape x ns line at) (shape u ns line at)
unfolding shape
track_shape x u ns line at =
    track_then (track_name x u at) (λ w m.
    track_cond (free w ns)
    (track_then (track_literal x u (codes " ") m) (λ _ m.
    track_then (track_numeral x u m) (λ r m.
    track_cond (within 1 1000 r)
    (track_then (track_literal x u (codes " ") m) (λ _ m. track_then (track_numeral x u m) (λ c z. track_cond (within 1 1000 c) track_ok track_range_fault)))
    track_range_fault)))
    track_name_fault)

track_numerals : (x u : List ℕ) (line wanted at : ℕ) → Tracks x u at (numerals x line wanted at) (numerals u line wanted at)
unfolding numerals
track_numerals x u line zero at = track_test (λ b. eqb b 44) (track_then (track_literal x u (codes ", ") at) (λ _ m. track_range_fault)) track_ok
track_numerals x u line (suc wanted) at =
    track_test (λ b. eqb b 44)
    (track_then (track_literal x u (codes ", ") at) (λ _ b.
    track_then (track_numeral x u b) (λ n m. track_cond (small n) (track_then (track_numerals x u line wanted m) (λ ns z. track_ok)) track_range_fault)))
    (track_test (λ b. eqb b 10) track_range_fault track_stop)

track_table : (x u : List ℕ) (st : State) (at : ℕ) → Tracks x u at (table_at x st at) (table_at u st at)
unfolding table_at
track_table x u st at =
    track_then (track_literal x u (codes "table ") at) (λ _ b.
    track_cond (leb 16 st.tables) track_range_fault
    (track_then (track_shape x u st.names at b) (λ s m.
    track_then (track_literal x u (codes ": ") m) (λ _ d.
    track_then (track_numeral x u d) (λ n m.
    track_cond (small n)
    (track_then (track_numerals x u at (size s.rows * size s.columns - 1) m) (λ ns m. track_then (track_literal x u (10 ∷ []) m) (λ _ z. track_ok)))
    track_range_fault)))))

track_array : (x u : List ℕ) (st : State) (at : ℕ) → Tracks x u at (array_at x st at) (array_at u st at)
unfolding array_at
track_array x u st at =
    track_then (track_literal x u (codes "unknown ") at) (λ _ b.
    track_cond (leb 16 st.arrays) track_range_fault
    (track_then (track_shape x u st.names at b) (λ s m.
    track_then (track_literal x u (codes " from ") m) (λ _ d.
    track_then (track_numeral x u d) (λ l m.
    track_cond (bound_small l)
    (track_then (track_literal x u (codes " to ") m) (λ _ g.
    track_then (track_numeral x u g) (λ h m.
    track_cond (bound_small h)
    (track_cond (le_z (value l) (value h)) (track_then (track_literal x u (10 ∷ []) m) (λ _ z. track_ok)) track_range_fault)
    track_range_fault)))
    track_range_fault)))))

track_least : (x u : List ℕ) (most : ℕ) (st : State) (at : ℕ) → Tracks x u at (least_at x most st at) (least_at u most st at)
unfolding least_at
track_least x u most st at =
    track_then (track_literal x u (codes "least ") at) (λ _ b.
    track_cond st.least track_name_fault (track_then (track_lin x u most 8 st.names 64 b) (λ l m. track_then (track_literal x u (10 ∷ []) m) (λ _ z. track_ok))))

track_wish : (x u : List ℕ) (most : ℕ) (st : State) (at : ℕ) → Tracks x u at (wish_at x most st at) (wish_at u most st at)
unfolding wish_at
track_wish x u most st at =
    track_then (track_literal x u (codes "wish ") at) (λ _ b.
    track_cond (leb 256 st.wishes) track_range_fault (track_then (track_row x u most 8 st.names b) (λ r m. track_then (track_literal x u (10 ∷ []) m) (λ _ z. track_ok))))

pub track_line : (x u : List ℕ) (most : ℕ) (st : State) (at : ℕ) → Tracks x u at (line x most st at) (line u most st at)
unfolding line
track_line x u most st at =
    track_test (λ b. eqb b 115) (track_set x u st at)
    (track_test (λ b. eqb b 116) (track_table x u st at)
    (track_test (λ b. eqb b 117) (track_array x u st at) (track_test (λ b. eqb b 108) (track_least x u most st at) (track_test (λ b. eqb b 119) (track_wish x u most st at) track_stop))))

pub track_lines : (x u : List ℕ) (most turns : ℕ) (st : State) (at : ℕ) → Tracks x u at (lines x most turns st at) (lines u most turns st at)
unfolding lines
track_lines x u most zero st at = track_range_fault
track_lines x u most (suc turns) st at =
    track_test (λ b. eqb b 256) (track_cond st.least (track_cond (eqb st.arrays 0) track_range_fault track_ok) track_name_fault)
    (track_then (track_line x u most st at) (λ l e. track_then (track_lines x u most turns (behind l st) e) (λ ls z. track_ok)))
