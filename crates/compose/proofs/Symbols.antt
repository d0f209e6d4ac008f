-- What writing does to the symbols that words stand for. Assumes nothing.
use Rattle.std.proofs.Common.{◌≡◌, ℕ, zero, suc, ◌+◌, ◌*◌, ◌<◌, ◌≤◌, min, List, [], ◌∷◌, ◌++◌, ℤ, sym, refl, ap, ◌∙◌, ap₂, add-one, arith, w64, to_z}
use Rattle.model.specs.Model.{Table, Array, Symbols}
use Rattle.model.specs.Words.{word, limited, set_count, table_count, array_count, set_size, table_rows, table_columns, table_start, array_rows, array_columns, array_lower, array_upper}
use Rattle.model.specs.Kept.{listed, table_in, array_in, symbols_in}
use Rattle.compose.specs.Agree.{Settled}
use Rattle.compose.specs.Heads.{Others}
use Rattle.compose.specs.Tables.{TablesWithin}

listed_same : {A : Type 0} (f g : ℕ → A) (n : ℕ) → ((k : ℕ) → k < n → f k ≡ g k) → listed f n ≡ listed g n
unfolding listed
listed_same f g zero h = refl
listed_same f g (suc n) h = ap₂ (λ xs x. xs ++ (x ∷ [])) (listed_same f g n (λ k l. h k (omega arith))) (h n (omega arith))

-- as many, and the same
listed_stays : {A : Type 0} (f g : ℕ → A) (m n : ℕ) → m ≡ n → ((k : ℕ) → k < m → f k ≡ g k) → listed f m ≡ listed g n
listed_stays f g m n e h = listed_same f g m h ∙ ap (listed g) e

-- one more
listed_more : {A : Type 0} (f g : ℕ → A) (m n : ℕ) → n ≡ m + 1 → ((k : ℕ) → k < m → f k ≡ g k) → listed g n ≡ listed f m ++ (g m ∷ [])
unfolding listed
listed_more f g m n e h = ap (listed g) (e ∙ add-one m) ∙ ap (λ xs. xs ++ (g m ∷ [])) (sym (listed_same f g m h))

symbols_are : (a b : List ℕ) (c d : List Table) (e f : List Array) → a ≡ b → c ≡ d → e ≡ f → ◌≡◌ {A = Symbols} (record { sets = a; tables = c; arrays = e }) (record { sets = b; tables = d; arrays = f })
symbols_are a b c d e f p q r = cc

-- WORDS THAT ARE THE SAME

module _ (ws vs : List ℕ) where
  sets_stay : word ws 0 ≡ word vs 0 → ((p : ℕ) → 8 ≤ p → p < 72 → word ws p ≡ word vs p) → (symbols_in ws).sets ≡ (symbols_in vs).sets
  sets_stay e h = listed_stays (set_size ws) (set_size vs) (set_count ws) (set_count vs) (ap (min 16) e) (λ k l. ap (limited 1000) (h (8 + 4 * k) (omega arith) (omega arith)))

  array_stays : (k : ℕ) → ((p : ℕ) → 200 + 8 * k ≤ p → p < 205 + 8 * k → word ws p ≡ word vs p) → array_in ws k ≡ array_in vs k
  array_stays k h =
      let a = ap (limited 1000) (h (200 + 8 * k) (omega arith) (omega arith)) in
      let b = ap (limited 1000) (h (201 + 8 * k) (omega arith) (omega arith)) in
      let c = ap (to_z w64) (h (202 + 8 * k) (omega arith) (omega arith)) in
      let d = ap (to_z w64) (h (203 + 8 * k) (omega arith) (omega arith)) in
      ap₂ (λ (x y : ℕ). record { rows = x; columns = y; lower = array_lower ws k; upper = array_upper ws k }) a b
      ∙ ap₂ (λ (x y : ℤ). record { rows = array_rows vs k; columns = array_columns vs k; lower = x; upper = y }) c d

  pub arrays_stay : word ws 2 ≡ word vs 2 → ((p : ℕ) → 200 ≤ p → p < 328 → word ws p ≡ word vs p) → (symbols_in ws).arrays ≡ (symbols_in vs).arrays
  arrays_stay e h = listed_stays (array_in ws) (array_in vs) (array_count ws) (array_count vs) (ap (min 16) e) (λ k l. array_stays k (λ p a b. h p (omega arith) (omega arith)))

  table_stays : (k n : ℕ) → 1808 ≤ table_start ws k → table_start ws k + table_rows ws k * table_columns ws k ≤ n
      → ((p : ℕ) → 72 + 8 * k ≤ p → p < 75 + 8 * k → word ws p ≡ word vs p) → ((p : ℕ) → 1808 ≤ p → p < n → word ws p ≡ word vs p) → table_in ws k ≡ table_in vs k
  table_stays k n l r h g =
      let a = ap (limited 1000) (h (72 + 8 * k) (omega arith) (omega arith)) in
      let b = ap (limited 1000) (h (73 + 8 * k) (omega arith) (omega arith)) in
      let s = h (74 + 8 * k) (omega arith) (omega arith) in
      let c : listed (λ i. to_z w64 (word ws (table_start ws k + i))) (table_rows ws k * table_columns ws k) ≡ listed (λ i. to_z w64 (word vs (table_start vs k + i))) (table_rows vs k * table_columns vs k)
      = listed_stays (λ i. to_z w64 (word ws (table_start ws k + i))) (λ i. to_z w64 (word vs (table_start vs k + i))) _ _ (ap₂ ◌*◌ a b)
      (λ i m. ap (to_z w64) (g (table_start ws k + i) (omega arith) (omega arith) ∙ ap (λ j. word vs (j + i)) s)) in
      ap₂ (λ (x y : ℕ). record { rows = x; columns = y; numbers = listed (λ i. to_z w64 (word ws (table_start ws k + i))) (table_rows ws k * table_columns ws k) }) a b
      ∙ ap (λ (ns : List ℤ). record { rows = table_rows vs k; columns = table_columns vs k; numbers = ns }) c

  tables_stay : (n : ℕ) → TablesWithin n ws → word ws 1 ≡ word vs 1 → ((p : ℕ) → 72 ≤ p → p < 200 → word ws p ≡ word vs p) → ((p : ℕ) → 1808 ≤ p → p < n → word ws p ≡ word vs p) → (symbols_in ws).tables ≡ (symbols_in vs).tables
  tables_stay n w e h g = listed_stays (table_in ws) (table_in vs) (table_count ws) (table_count vs) (ap (min 16) e)
      (λ k l. table_stays k n (w k l).0 (w k l).1 (λ p a b. h p (omega arith) (omega arith)) g)

-- A NODE keeps all symbols, once the tables' numbers lie before it
pub symbols_settled : (n : ℕ) (ws : List ℕ) → 1808 ≤ n → TablesWithin n ws → Settled 0 n ws (λ vs. symbols_in vs ≡ symbols_in ws)
symbols_settled n ws l w vs s =
    sym (symbols_are _ _ _ _ _ _
    (sets_stay ws vs (s.same 0 (omega arith) (omega arith)) (λ p a b. s.same p (omega arith) (omega arith)))
    (tables_stay ws vs n w (s.same 1 (omega arith) (omega arith)) (λ p a b. s.same p (omega arith) (omega arith)) (λ p a b. s.same p (omega arith) b))
    (arrays_stay ws vs (s.same 2 (omega arith) (omega arith)) (λ p a b. s.same p (omega arith) (omega arith))))

-- HEADS. A set, a table or an array comes last; a constraint, the objective and a line leave the symbols as they are

module _ (ws vs : List ℕ) (n : ℕ) (w : TablesWithin n ws) where
  pub set_added : (k : ℕ) → k < 16 → set_count ws ≡ k → set_count vs ≡ k + 1 → Others 0 (8 + 4 * k) (11 + 4 * k) ws vs
      → symbols_in vs ≡ record { sets = (symbols_in ws).sets ++ (set_size vs k ∷ []); tables = (symbols_in ws).tables; arrays = (symbols_in ws).arrays }
  set_added k l c d o =
      let m : set_count vs ≡ set_count ws + 1 = omega arith in
      let a = listed_more (set_size ws) (set_size vs) (set_count ws) (set_count vs) m (λ j h. ap (limited 1000) (o.below (8 + 4 * j) (omega arith) (λ e. omega arith))) in
      let b = ap (λ j. (symbols_in ws).sets ++ (set_size vs j ∷ [])) c in
      symbols_are _ _ _ _ _ _ (a ∙ b)
      (sym (tables_stay ws vs n w (o.below 1 (omega arith) (λ e. omega arith)) (λ p x y. o.above p (omega arith)) (λ p x y. o.above p (omega arith))))
      (sym (arrays_stay ws vs (o.below 2 (omega arith) (λ e. omega arith)) (λ p x y. o.above p (omega arith))))

  pub table_added : (k : ℕ) → k < 16 → table_count ws ≡ k → table_count vs ≡ k + 1 → Others 1 (72 + 8 * k) (77 + 8 * k) ws vs
      → symbols_in vs ≡ record { sets = (symbols_in ws).sets; tables = (symbols_in ws).tables ++ (table_in vs k ∷ []); arrays = (symbols_in ws).arrays }
  table_added k l c d o =
      let m : table_count vs ≡ table_count ws + 1 = omega arith in
      let a = listed_more (table_in ws) (table_in vs) (table_count ws) (table_count vs) m
      (λ j h. table_stays ws vs j n (w j h).0 (w j h).1 (λ p x y. o.below p (omega arith) (λ e. omega arith)) (λ p x y. o.above p (omega arith))) in
      let b = ap (λ j. (symbols_in ws).tables ++ (table_in vs j ∷ [])) c in
      symbols_are _ _ _ _ _ _
      (sym (sets_stay ws vs (o.below 0 (omega arith) (λ e. omega arith)) (λ p x y. o.below p (omega arith) (λ e. omega arith))))
      (a ∙ b)
      (sym (arrays_stay ws vs (o.below 2 (omega arith) (λ e. omega arith)) (λ p x y. o.above p (omega arith))))

  pub array_added : (k : ℕ) → k < 16 → array_count ws ≡ k → array_count vs ≡ k + 1 → Others 2 (200 + 8 * k) (207 + 8 * k) ws vs
      → symbols_in vs ≡ record { sets = (symbols_in ws).sets; tables = (symbols_in ws).tables; arrays = (symbols_in ws).arrays ++ (array_in vs k ∷ []) }
  array_added k l c d o =
      let m : array_count vs ≡ array_count ws + 1 = omega arith in
      let a = listed_more (array_in ws) (array_in vs) (array_count ws) (array_count vs) m (λ j h. array_stays ws vs j (λ p x y. o.below p (omega arith) (λ e. omega arith))) in
      let b = ap (λ j. (symbols_in ws).arrays ++ (array_in vs j ∷ [])) c in
      symbols_are _ _ _ _ _ _
      (sym (sets_stay ws vs (o.below 0 (omega arith) (λ e. omega arith)) (λ p x y. o.below p (omega arith) (λ e. omega arith))))
      (sym (tables_stay ws vs n w (o.below 1 (omega arith) (λ e. omega arith)) (λ p x y. o.below p (omega arith) (λ e. omega arith)) (λ p x y. o.above p (omega arith))))
      (a ∙ b)

  pub symbols_stay : (count place e : ℕ) → 3 ≤ count → count < 8 → 328 ≤ place → e ≤ 1808 → Others count place e ws vs → symbols_in vs ≡ symbols_in ws
  symbols_stay count place e c d p r o =
      sym (symbols_are _ _ _ _ _ _
      (sets_stay ws vs (o.below 0 (omega arith) (λ z. omega arith)) (λ q x y. o.below q (omega arith) (λ z. omega arith)))
      (tables_stay ws vs n w (o.below 1 (omega arith) (λ z. omega arith)) (λ q x y. o.below q (omega arith) (λ z. omega arith)) (λ q x y. o.above q (omega arith)))
      (arrays_stay ws vs (o.below 2 (omega arith) (λ z. omega arith)) (λ q x y. o.below q (omega arith) (λ z. omega arith))))

  pub objective_set : Others 4 4 5 ws vs → symbols_in vs ≡ symbols_in ws
  objective_set o =
      sym (symbols_are _ _ _ _ _ _
      (sets_stay ws vs (o.below 0 (omega arith) (λ z. omega arith)) (λ q x y. o.above q (omega arith)))
      (tables_stay ws vs n w (o.below 1 (omega arith) (λ z. omega arith)) (λ q x y. o.above q (omega arith)) (λ q x y. o.above q (omega arith)))
      (arrays_stay ws vs (o.below 2 (omega arith) (λ z. omega arith)) (λ q x y. o.above q (omega arith))))
