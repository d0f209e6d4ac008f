-- A test that goes through all assignments within the bounds: where it passes, the outcome is right. Assumes nothing.
use Rattle.std.proofs.Common.{◌≡◌, ℕ, zero, suc, ◌<◌, ◌≤◌, Bool, true, false, cond, ◌&&◌, eqb, [], get_or, ℤ, pos, negsuc, ◌+ℤ◌, ◌-ℤ◌, nat_abs, ◌≤ℤ◌, Decides, sym, refl, ap, ◌∙◌, subst, ⊎_elim, eq-or-lt_of_le, arith}
use lib.Signed.{le_z}
use borrow.Author.Differences.{ints}
use Rattle.std.specs.List.{list_all}
use Rattle.std.proofs.lemmas.Bool.{false≢true, and_parts, eq-eqb, ne_eqb, cond-true, cond-false}
use Rattle.std.proofs.lemmas.Bool.Decides.{Decides-like, Decides-and, Decides-below_and}
use Rattle.std.proofs.ByRecursion.{Decides-by_and}
use Rattle.model.specs.Model.{Constraint, Symbols, Model}
use Rattle.model.specs.Meaning.{Assignment, variables, Meets, lowers, uppers, Feasible, cost, width, Outcome, best, infeasible, too_long, Right}
use Rattle.model.specs.Rows.{Row, rows, affine_value, RowHolds}
use Rattle.model.specs.Evaluation.{compared}
use Rattle.model.proofs.Comparisons.{le_z_decides, compared_decides}
use Rattle.model.proofs.Expansion.{expanded_rows}
use Rattle.model.proofs.Agreement.{Agree, cost_same, feasible_same}

-- a test of each number below n
unfoldable pub all_below : (ℕ → Bool) → ℕ → Bool
all_below t zero = true
all_below t (suc n) = t n && all_below t n

all_below_at : (t : ℕ → Bool) (n : ℕ) → all_below t n ≡ true → (k : ℕ) → k < n → t k ≡ true
unfolding all_below
all_below_at t n e = (Decides-below_and t (λ k. t k ≡ true) (all_below t) (λ k. (λ p. p, λ p. p)) refl (λ _. refl) n).0 e

-- whether a constraint is met, by its rows
abbrev meets? : Symbols → Assignment → Constraint → Bool
meets? s x c = list_all (λ (r : Row). compared r.comparison (affine_value x r.form)) (rows s [] c)

abbrev low : Model → ℕ → ℤ
low m u = get_or (lowers m.symbols) u (pos 0)

abbrev high : Model → ℕ → ℤ
high m u = get_or (uppers m.symbols) u (pos 0)

-- the constraints first: within the bounds they are what fails
unfoldable pub feasible? : Model → Assignment → Bool
feasible? m x = list_all (meets? m.symbols x) m.constraints && all_below (λ u. le_z (low m u) (x u) && le_z (x u) (high m u)) (variables m.symbols.arrays)

meets_decides : (s : Symbols) (x : Assignment) (c : Constraint) → Decides (meets? s x c) (Meets s x [] c)
meets_decides s x c =
    let e = expanded_rows s x [] c in
    Decides-like (meets? s x c) e.1 e.0
    (Decides-by_and _ (RowHolds x) (list_all _) (λ r. compared_decides r.comparison (affine_value x r.form)) refl (λ _ _. refl) (rows s [] c))

pub feasible_decides : (m : Model) (x : Assignment) → Decides (feasible? m x) (Feasible m x)
unfolding feasible? all_below
feasible_decides m x =
    Decides-like (feasible? m x) (λ p. record { within = p.1; meets = p.0 }) (λ f. (f.meets, f.within))
    (Decides-and _ _
    (Decides-by_and _ (Meets m.symbols x []) (list_all _) (meets_decides m.symbols x) refl (λ _ _. refl) m.constraints)
    (Decides-below_and _ (λ u. (low m u ≤ℤ x u) × (x u ≤ℤ high m u)) (all_below _)
    (λ u. Decides-and _ _ (le_z_decides (low m u) (x u)) (le_z_decides (x u) (high m u))) refl (λ _. refl) (variables m.symbols.arrays)))

-- a number for one variable, the others as they were
abbrev put : Assignment → ℕ → ℤ → Assignment
put x n a = λ u. cond (eqb u n) a (x u)

-- a test of each assignment that lies within bounds below n and is x from n on
unfoldable pub everywhere : (ℕ → ℤ) → (ℕ → ℤ) → (Assignment → Bool) → ℕ → Assignment → Bool
everywhere l h t zero x = t x
everywhere l h t (suc n) x = all_below (λ k. everywhere l h t n (put x n (l n +ℤ pos k))) (width (h n -ℤ l n))

-- a number within bounds is so much above the lower one
offset : (l a h : ℤ) → l ≤ℤ a → a ≤ℤ h → (k : ℕ) × (k < width (h -ℤ l)) × (l +ℤ pos k ≡ a)
offset l a h p q = (nat_abs (a -ℤ l), narrow (h -ℤ l) refl, omega (arith, ints))
  where
    narrow : (d : ℤ) → d ≡ h -ℤ l → nat_abs (a -ℤ l) < width d
    narrow (pos n) e = omega (arith, ints)
    narrow (negsuc n) e = absurd (omega (arith, ints))

-- each assignment y within the bounds is tested: by one that agrees with it at the m variables
everywhere_at : (l h : ℕ → ℤ) (t : Assignment → Bool) (n m : ℕ) (x y : Assignment) → everywhere l h t n x ≡ true → ((u : ℕ) → u < n → (l u ≤ℤ y u) × (y u ≤ℤ h u))
    → ((u : ℕ) → n ≤ u → u < m → x u ≡ y u) → (z : Assignment) × Agree m z y × (t z ≡ true)
unfolding everywhere
everywhere_at l h t zero m x y e w a = (x, λ u. a u (omega arith), e)
everywhere_at l h t (suc n) m x y e w a =
    let b = w n (omega arith) in
    let (k, i, v) = offset (l n) (y n) (h n) b.0 b.1 in
    everywhere_at l h t n m (put x n (l n +ℤ pos k)) y (all_below_at _ (width (h n -ℤ l n)) e k i) (λ u below. w u (omega arith)) (λ u from to.
    ⊎_elim (λ same. cond-true (eqb u n) _ _ (eq-eqb u n (sym same)) ∙ v ∙ ap y same) (λ above. cond-false (eqb u n) _ _ (ne_eqb u n (omega arith)) ∙ a u above to) (eq-or-lt_of_le from))

-- a test of each feasible assignment
abbrev each_feasible : Model → (Assignment → Bool) → Bool
each_feasible m t = everywhere (low m) (high m) (λ y. cond (feasible? m y) (t y) true) (variables m.symbols.arrays) (λ _. pos 0)

each_feasible_at : (m : Model) (t : Assignment → Bool) → each_feasible m t ≡ true → (y : Assignment) → Feasible m y → (z : Assignment) × Agree (variables m.symbols.arrays) z y × (t z ≡ true)
each_feasible_at m t e y f =
    let n = variables m.symbols.arrays in
    let (z, a, p) = everywhere_at (low m) (high m) (λ y. cond (feasible? m y) (t y) true) n n (λ _. pos 0) y e f.within (λ u g h. absurd (omega arith)) in
    let g = (feasible_decides m z).1 (feasible_same m y z (λ u l. sym (a u l)) f) in
    (z, a, sym (cond-true (feasible? m z) (t z) true g) ∙ p)

-- whether an outcome is right, by all assignments within the bounds
unfoldable pub decided : Model → Outcome → Bool
decided m (best x) = feasible? m x && each_feasible m (λ y. le_z (cost m x) (cost m y))
decided m infeasible = each_feasible m (λ _. false)
decided m too_long = true

pub decided_right : (m : Model) (o : Outcome) → decided m o ≡ true → Right m o
unfolding decided Right
decided_right m (best x) e =
    let p = and_parts (feasible? m x) _ e in (
      (feasible_decides m x).0 p.0,
      λ y f.
          let (z, a, q) = each_feasible_at m _ p.1 y f in
          subst (λ v. cost m x ≤ℤ v) (cost_same m z y a) ((le_z_decides (cost m x) (cost m z)).0 q),
    )
decided_right m infeasible e = λ y f. let (z, a, q) = each_feasible_at m _ e y f in false≢true q
decided_right m too_long e = tt
