-- What is worked out step by step is what is meant. Assumes nothing.
use Rattle.std.proofs.Common.{◌≡◌, ℕ, zero, suc, ◌<◌, Bool, true, false, cond, ◌&&◌, List, [], ◌∷◌, ℤ, pos, ◌+ℤ◌, ◌-ℤ◌, ◌*ℤ◌, Some, None, Decides, Option, sym, refl, ap, ◌∙◌, subst, ap₂, ⊎_elim, le_of_suc-le-suc, eq-or-lt_of_le, arith}
use lib.IntN.{+ℤ_idr}
use borrow.Author.Differences.{ints}
use Rattle.std.proofs.lemmas.Bool.{false≢true}
use Rattle.integer.specs.Checked.{checked}
use Rattle.integer.proofs.Sizes.{checked_is}
use Rattle.model.specs.declared.Sign.{Sign}
use Rattle.model.specs.declared.Sign.TheVariants.{Positive, Negative}
use Rattle.model.specs.declared.Running.{Running}
use Rattle.model.specs.Model.{Num, fixed, index, entry, joined, Cond, relate, both, Lin, amount, term, sum_over, chain, nothing, Constraint, compare, for_all, Symbols, Model}
use Rattle.model.specs.Meaning.{Assignment, number, entry_of, operate, related, holds, passes, bound, size_of, table_of, present, variable, signed, value, Compares, Meets, cost}
use Rattle.model.specs.Rows.{Affine, constantly, under, followed, all_followed, expanded, terms_value}
use Rattle.model.specs.Evaluation.{then, combined, worked_number, worked_condition, worked_filter, with_constant, with_term, weighted, sign_of, nothing_yet, run, where_so, worked_sum, whole, compared, difference_of, worked_constraint, worked_cost}
use Rattle.model.specs.Claims.{WorkedOut}
use Rattle.model.proofs.Expansion.{terms_value-++, terms_value_turned, expanded_value}
use Rattle.model.proofs.Comparisons.{moved, moved_back, compared_decides}

-- a result behind another one
pub then_some : {A B : Type 0} (o : Option A) (f : A → Option B) (r : B) → then o f ≡ Some r → (a : A) × (o ≡ Some a) × (f a ≡ Some r)
then_some None f r e = let z : ◌≡◌ {A = ℕ} 0 1 = cc in absurd (omega arith)
then_some (Some a) f r e = (a, refl, e)

same_some : {A : Type 0} (a b : A) → Some a ≡ Some b → a ≡ b
same_some a b e = cc

combined_is : (f : ℤ → ℤ → ℤ) (a b : Option ℤ) (r v w : ℤ) → combined f a b ≡ Some r → ((u : ℤ) → a ≡ Some u → u ≡ v) → ((u : ℤ) → b ≡ Some u → u ≡ w) → r ≡ f v w
combined_is f a b r v w e p q =
    let (c, h, k) = then_some a (λ v. then b (λ w. checked (f v w))) r e in
    let (d, i, l) = then_some b (λ w. checked (f c w)) r k in
    checked_is (f c d) r l ∙ ap₂ f (p c h) (q d i)

pub worked_number_is : (s : Symbols) (is : List ℕ) (e : Num) (a : ℤ) → worked_number s is e ≡ Some a → a ≡ number s is e
unfolding worked_number number
worked_number_is s is (fixed z) a h = checked_is z a h
worked_number_is s is (index k) a h = checked_is _ a h
worked_number_is s is (entry t e f) a h =
    combined_is (entry_of (table_of s t)) (worked_number s is e) (worked_number s is f) a _ _ h (worked_number_is s is e) (worked_number_is s is f)
worked_number_is s is (joined o e f) a h =
    combined_is (operate o) (worked_number s is e) (worked_number s is f) a _ _ h (worked_number_is s is e) (worked_number_is s is f)

pub worked_condition_is : (s : Symbols) (is : List ℕ) (c : Cond) (b : Bool) → worked_condition s is c ≡ Some b → b ≡ holds s is c
unfolding worked_condition holds
worked_condition_is s is (relate r e f) b h =
    let (v, i, k) = then_some (worked_number s is e) (λ a. then (worked_number s is f) (λ w. Some (related r a w))) b h in
    let (w, j, l) = then_some (worked_number s is f) (λ w. Some (related r v w)) b k in
    sym (same_some (related r v w) b l) ∙ ap₂ (related r) (worked_number_is s is e v i) (worked_number_is s is f w j)
worked_condition_is s is (both c d) b h =
    let (t, i, k) = then_some (worked_condition s is c) (λ t. cond t (worked_condition s is d) (Some false)) b h in
    parts (worked_condition_is s is d b) t (worked_condition_is s is c t i) k
  where
    parts : (worked_condition s is d ≡ Some b → b ≡ holds s is d) → (t : Bool) → t ≡ holds s is c → cond t (worked_condition s is d) (Some false) ≡ Some b → b ≡ (holds s is c && holds s is d)
    parts h true p q = h q ∙ ap (λ y. y && holds s is d) p
    parts h false p q = sym (same_some false b q) ∙ ap (λ y. y && holds s is d) p

pub worked_filter_is : (s : Symbols) (is : List ℕ) (c : Option Cond) (b : Bool) → worked_filter s is c ≡ Some b → b ≡ passes s is c
unfolding worked_filter passes
worked_filter_is s is None b h = sym (same_some true b h)
worked_filter_is s is (Some c) b h = worked_condition_is s is c b h

-- from one running sum to another an expanded sum was added, or taken away
abbrev pub Adds : Assignment → Sign → Affine → Running → Running → Type 0
Adds x g a r q = (q.constant ≡ r.constant +ℤ signed g a.constant) × (q.terms ≡ r.terms +ℤ signed g (terms_value x a.terms))

signed_zero : (g : Sign) (a : ℤ) → a ≡ a +ℤ signed g (pos 0)
signed_zero Positive a = omega (arith, ints)
signed_zero Negative a = omega (arith, ints)

signed_twice : (g h : Sign) (a : ℤ) → signed (sign_of g h) a ≡ signed g (signed h a)
signed_twice Positive h a = refl
signed_twice Negative Positive a = refl
signed_twice Negative Negative a = omega (arith, ints)

signed_both : (g : Sign) (a b c : ℤ) → (a +ℤ signed g b) +ℤ signed g c ≡ a +ℤ signed g (b +ℤ c)
signed_both Positive a b c = omega (arith, ints)
signed_both Negative a b c = omega (arith, ints)

under_parts : (x : Assignment) (h : Sign) (a : Affine) → ((under h a).constant ≡ signed h a.constant) × (terms_value x (under h a).terms ≡ signed h (terms_value x a.terms))
under_parts x Positive a = (refl, refl)
under_parts x Negative a = (refl, terms_value_turned x a.terms)

adds_under : (x : Assignment) (g h : Sign) (a : Affine) (r q : Running) → Adds x (sign_of g h) a r q → Adds x g (under h a) r q
adds_under x g h a r q (i, j) =
    let e = under_parts x h a in (
      i ∙ ap (λ z. r.constant +ℤ z) (signed_twice g h a.constant ∙ ap (signed g) (sym e.0)),
      j ∙ ap (λ z. r.terms +ℤ z) (signed_twice g h (terms_value x a.terms) ∙ ap (signed g) (sym e.1)),
    )

adds_followed : (x : Assignment) (g : Sign) (a b : Affine) (r p q : Running) → Adds x g a r p → Adds x g b p q → Adds x g (followed a b) r q
adds_followed x g a b r p q (i, j) (k, l) = (
  k ∙ ap (λ z. z +ℤ signed g b.constant) i ∙ signed_both g r.constant a.constant b.constant,
  l ∙ ap (λ z. z +ℤ signed g (terms_value x b.terms)) j ∙ signed_both g r.terms (terms_value x a.terms) (terms_value x b.terms) ∙ ap (λ z. r.terms +ℤ signed g z) (sym (terms_value-++ x a.terms b.terms)),
)

adds_nothing : (x : Assignment) (g : Sign) (r : Running) → Adds x g (constantly (pos 0)) r r
unfolding terms_value
adds_nothing x g r = (signed_zero g r.constant, signed_zero g r.terms)

adds_all : (x : Assignment) (g : Sign) (f : ℕ → Running → Option Running) (a : ℕ → Affine) → ((i : ℕ) (r q : Running) → f i r ≡ Some q → Adds x g (a i) r q)
    → (n : ℕ) (r q : Running) → run f n r ≡ Some q → Adds x g (all_followed a n) r q
unfolding run all_followed
adds_all x g f a h zero r q e = subst (Adds x g (constantly (pos 0)) r) (same_some r q e) (adds_nothing x g r)
adds_all x g f a h (suc n) r q e =
    let (p, i, k) = then_some (run f n r) (f n) q e in
    adds_followed x g (all_followed a n) (a n) r p q (adds_all x g f a h n r p i) (h n p q k)

adds_where : (x : Assignment) (g : Sign) (o : Option Bool) (b : Bool) (w : Option Running) (a : Affine) (r q : Running)
    → ((t : Bool) → o ≡ Some t → t ≡ b) → (w ≡ Some q → Adds x g a r q) → where_so o w (Some r) ≡ Some q → Adds x g (cond b a (constantly (pos 0))) r q
adds_where x g o b w a r q h k e =
    let (t, i, l) = then_some o (λ t. cond t w (Some r)) q e in
    subst (λ z. Adds x g (cond z a (constantly (pos 0))) r q) (h t i) (parts t l)
  where
    parts : (t : Bool) → cond t w (Some r) ≡ Some q → Adds x g (cond t a (constantly (pos 0))) r q
    parts true l = k l
    parts false l = subst (Adds x g (constantly (pos 0)) r) (same_some r q l) (adds_nothing x g r)

constant_adds : (x : Assignment) (g : Sign) (a : ℤ) (r q : Running) → with_constant g a r ≡ Some q → Adds x g (constantly a) r q
unfolding terms_value
constant_adds x g a r q e =
    let (z, i, k) = then_some (checked (r.constant +ℤ signed g a)) (λ z. Some (record { constant = z; terms = r.terms })) q e in
    let s = same_some (record { constant = z; terms = r.terms }) q k in
    (sym (ap (λ (t : Running). t.constant) s) ∙ checked_is (r.constant +ℤ signed g a) z i, sym (ap (λ (t : Running). t.terms) s) ∙ signed_zero g r.terms)

term_adds : (x : Assignment) (g : Sign) (a : ℤ) (u : ℕ) (r q : Running) → with_term g a (x u) r ≡ Some q → Adds x g (record { terms = record { coefficient = a; variable = u } ∷ []; constant = pos 0 }) r q
unfolding terms_value
term_adds x g a u r q e =
    let (p, i, k) = then_some (checked (a *ℤ x u)) (λ p. then (checked (r.terms +ℤ signed g p)) (λ z. Some (record { constant = r.constant; terms = z }))) q e in
    let (z, j, l) = then_some (checked (r.terms +ℤ signed g p)) (λ z. Some (record { constant = r.constant; terms = z })) q k in
    let s = same_some (record { constant = r.constant; terms = z }) q l in (
      sym (ap (λ (t : Running). t.constant) s) ∙ signed_zero g r.constant,
      sym (ap (λ (t : Running). t.terms) s) ∙ checked_is (r.terms +ℤ signed g p) z j ∙ ap (λ v. r.terms +ℤ signed g v) (checked_is (a *ℤ x u) p i ∙ sym (+ℤ_idr (a *ℤ x u))),
    )

pub worked_sum_adds : (s : Symbols) (x : Assignment) (g : Sign) (is : List ℕ) (l : Lin) (r q : Running) → worked_sum s x g is l r ≡ Some q → Adds x g (expanded s is l) r q
unfolding worked_sum weighted expanded
worked_sum_adds s x g is (amount e) r q h =
    let (a, i, k) = then_some (worked_number s is e) (λ a. with_constant g a r) q h in
    subst (λ z. Adds x g (constantly z) r q) (worked_number_is s is e a i) (constant_adds x g a r q k)
worked_sum_adds s x g is (term e n f h) r q w =
    let (i, a, b) = then_some (worked_number s is f) _ q w in
    let (j, c, d) = then_some (worked_number s is h) _ q b in
    subst (λ v. Adds x g (there v (number s is h)) r q) (worked_number_is s is f i a)
    (subst (λ v. Adds x g (there i v) r q) (worked_number_is s is h j c) (parts i j (present s n i j) d))
  where
    one : ℤ → ℤ → Affine
    one i j = record { terms = record { coefficient = number s is e; variable = variable s n i j } ∷ []; constant = pos 0 }

    there : ℤ → ℤ → Affine
    there i j = cond (present s n i j) (one i j) (constantly (pos 0))

    parts : (i j : ℤ) (t : Bool) → cond t (then (worked_number s is e) (λ a. with_term g a (x (variable s n i j)) r)) (Some r) ≡ Some q → Adds x g (cond t (one i j) (constantly (pos 0))) r q
    parts i j true k =
        let (a, b, c) = then_some (worked_number s is e) (λ a. with_term g a (x (variable s n i j)) r) q k in
        subst (λ z. Adds x g (record { terms = record { coefficient = z; variable = variable s n i j } ∷ []; constant = pos 0 }) r q) (worked_number_is s is e a b) (term_adds x g a (variable s n i j) r q c)
    parts i j false k = subst (Adds x g (constantly (pos 0)) r) (same_some r q k) (adds_nothing x g r)
worked_sum_adds s x g is (sum_over n c l) r q w =
    adds_all x g _ _ (λ i a b e.
    adds_where x g (worked_filter s (bound is i) c) (passes s (bound is i) c) (worked_sum s x g (bound is i) l a) (expanded s (bound is i) l) a b
    (worked_filter_is s (bound is i) c) (worked_sum_adds s x g (bound is i) l a b) e)
    (size_of s n) r q w
worked_sum_adds s x g is (chain h t l) r q w =
    let (p, i, k) = then_some (worked_sum s x (sign_of g h) is t r) (worked_sum s x g is l) q w in
    adds_followed x g (under h (expanded s is t)) (expanded s is l) r p q (adds_under x g h (expanded s is t) r p (worked_sum_adds s x (sign_of g h) is t r p i)) (worked_sum_adds s x g is l p q k)
worked_sum_adds s x g is nothing r q w = subst (Adds x g (constantly (pos 0)) r) (same_some r q w) (adds_nothing x g r)

-- a test tells whether something is so
abbrev pub Tells : Bool → Type 0 → Type 0
Tells true P = P
Tells false P = P → ⊥

tells_as : {P Q : Type 0} (b : Bool) → (P → Q) → (Q → P) → Tells b P → Tells b Q
tells_as true f g h = f h
tells_as false f g h = λ q. h (g q)

tells_of : {P : Type 0} (b : Bool) → Decides b P → Tells b P
tells_of true d = d.0 refl
tells_of false d = λ p. false≢true (d.1 p)

-- what both sides come to together is the left one less the right one
pub difference_is : (s : Symbols) (x : Assignment) (is : List ℕ) (l r : Lin) (d : ℤ) → difference_of s x is l r ≡ Some d → d ≡ value s x is l -ℤ value s x is r
difference_is s x is l r d h =
    let (p, a, b) = then_some (worked_sum s x Positive is l nothing_yet) (λ p. then (worked_sum s x Negative is r p) whole) d h in
    let (q, c, e) = then_some (worked_sum s x Negative is r p) whole d b in
    let (i, j) = worked_sum_adds s x Positive is l nothing_yet p a in
    let (k, m) = worked_sum_adds s x Negative is r p q c in
    let v = expanded_value s x is l in
    let w = expanded_value s x is r in
    omega (arith, ints, checked_is (q.constant +ℤ q.terms) d e)

pub worked_cost_is : (m : Model) (x : Assignment) (a : ℤ) → worked_cost m x ≡ Some a → a ≡ cost m x
unfolding cost
worked_cost_is m x a h =
    let (q, c, e) = then_some (worked_sum m.symbols x Positive [] m.objective nothing_yet) whole a h in
    let (i, j) = worked_sum_adds m.symbols x Positive [] m.objective nothing_yet q c in
    let v = expanded_value m.symbols x [] m.objective in
    omega (arith, ints, checked_is (q.constant +ℤ q.terms) a e)

-- what holds of each below n, and of n
each_more : (P : ℕ → Type 0) (n : ℕ) → ((i : ℕ) → i < n → P i) → P n → (i : ℕ) → i < suc n → P i
each_more P n h k i l = ⊎_elim (λ e. subst P (sym e) k) (h i) (eq-or-lt_of_le (le_of_suc-le-suc l))

-- a constraint for each below n
every_tells : (f : ℕ → Bool → Option Bool) (P : ℕ → Type 0) → ((i : ℕ) (b : Bool) → f i true ≡ Some b → Tells b (P i)) → ((i : ℕ) → f i false ≡ Some false)
    → (n : ℕ) (b : Bool) → run f n true ≡ Some b → Tells b ((i : ℕ) → i < n → P i)
unfolding run
every_tells f P h k zero b e = subst (λ t. Tells t ((i : ℕ) → i < zero → P i)) (same_some true b e) (λ i l. absurd (omega arith))
every_tells f P h k (suc n) b e =
    let (t, i, j) = then_some (run f n true) (f n) b e in
    parts t (every_tells f P h k n t i) j
  where
    parts : (t : Bool) → Tells t ((i : ℕ) → i < n → P i) → f n t ≡ Some b → Tells b ((i : ℕ) → i < suc n → P i)
    parts true a j = last b (h n b j)
      where
        last : (b : Bool) → Tells b (P n) → Tells b ((i : ℕ) → i < suc n → P i)
        last true p = each_more P n a p
        last false p = λ g. p (g n (omega arith))
    parts false a j = subst (λ t. Tells t ((i : ℕ) → i < suc n → P i)) (same_some false b (sym (k n) ∙ j)) (λ g. a (λ i l. g i (omega arith)))

-- a constraint that is asked only where a condition holds
where_tells : (o : Option Bool) (b t : Bool) (w : Option Bool) (P : Type 0) → ((u : Bool) → o ≡ Some u → u ≡ b) → (w ≡ Some t → Tells t P) → where_so o w (Some true) ≡ Some t → Tells t (b ≡ true → P)
where_tells o b t w P h k e =
    let (u, i, l) = then_some o (λ u. cond u w (Some true)) t e in
    parts u (h u i) l
  where
    parts : (u : Bool) → u ≡ b → cond u w (Some true) ≡ Some t → Tells t (b ≡ true → P)
    parts true f l = tells_as t (λ p _. p) (λ g. g (sym f)) (k l)
    parts false f l = subst (λ y. Tells y (b ≡ true → P)) (same_some true t l) (λ g. absurd (false≢true (f ∙ g)))

pub worked_constraint_tells : (s : Symbols) (x : Assignment) (is : List ℕ) (c : Constraint) (b : Bool) → worked_constraint s x is c ≡ Some b → Tells b (Meets s x is c)
unfolding worked_constraint Meets
worked_constraint_tells s x is (compare c l r) b h =
    let (d, i, k) = then_some (difference_of s x is l r) (λ d. Some (compared c d)) b h in
    let e = difference_is s x is l r d i in
    subst (λ t. Tells t (Compares c (value s x is l) (value s x is r))) (same_some (compared c d) b k)
    (tells_as (compared c d) (λ p. moved_back c _ _ (subst (λ z. Compares c z (pos 0)) e p)) (λ p. subst (λ z. Compares c z (pos 0)) (sym e) (moved c _ _ p)) (tells_of (compared c d) (compared_decides c d)))
worked_constraint_tells s x is (for_all n c r) b h =
    tells_as b (λ p i l t. p i l t) (λ p i l t. p i l t)
    (every_tells _ (λ i. passes s (bound is i) c ≡ true → Meets s x (bound is i) r)
    (λ i t e.
    where_tells (worked_filter s (bound is i) c) (passes s (bound is i) c) t (worked_constraint s x (bound is i) r) (Meets s x (bound is i) r)
    (worked_filter_is s (bound is i) c) (worked_constraint_tells s x (bound is i) r t) e)
    (λ i. refl) (size_of s n) b h)

pub worked_out : WorkedOut
worked_out = record {
  numbers = worked_number_is;
  conditions = worked_condition_is;
  met = λ s x is c. worked_constraint_tells s x is c true;
  unmet = λ s x is c. worked_constraint_tells s x is c false;
  costs = worked_cost_is;
}
