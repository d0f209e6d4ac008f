-- What a node says of the tree that it stands for; and that words keep one model at most. Assumes nothing.
use Rattle.std.proofs.Common.{◌≡◌, ℕ, zero, suc, ◌+◌, ◌<◌, List, [], ◌∷◌, length, get_or, Some, None, Option, sym, refl, ap, ◌∙◌, subst, ap₂, add-zero, zero-add, arith}
use Rattle.std.proofs.lemmas.Bool.Decides.{nat_tests}
use Rattle.model.specs.declared.Sign.{Sign}
use Rattle.model.specs.declared.NumNode.{NumNode}
use Rattle.model.specs.declared.NumNode.TheVariants.{Fixed, Index, Entry, Op}
use Rattle.model.specs.declared.CondNode.{CondNode}
use Rattle.model.specs.declared.CondNode.TheVariants.{Relate, Both}
use Rattle.model.specs.declared.LinNode.{LinNode}
use Rattle.model.specs.declared.LinNode.TheVariants.{Amount, Term, Sum, Chain, Nothing}
use Rattle.model.specs.declared.ConstraintNode.{ConstraintNode}
use Rattle.model.specs.declared.ConstraintNode.TheVariants.{Compare, All}
use Rattle.model.specs.Model.{Num, fixed, index, entry, joined, Cond, relate, both, Lin, amount, term, sum_over, chain, nothing, Constraint, compare, for_all, Model}
use Rattle.model.specs.Words.{num_at, cond_at, lin_at, constraint_at, constraint_count, constraint_place, objective_place}
use Rattle.model.specs.Kept.{NumIn, CondIn, FilterIn, LinIn, ConstraintIn, ConstraintsIn, Keeps}
use Rattle.model.specs.Claims.{OneModel}

-- the trees that a node allows

abbrev pub NumFit : List ℕ → Option NumNode → Num → Type 0
NumFit ws (Some (Fixed a)) e = e ≡ fixed a
NumFit ws (Some (Index l)) e = e ≡ index l
NumFit ws (Some (Entry t i j)) e = (f : Num) × (g : Num) × (e ≡ entry t f g) × NumIn ws i f × NumIn ws j g
NumFit ws (Some (Op o i j)) e = (f : Num) × (g : Num) × (e ≡ joined o f g) × NumIn ws i f × NumIn ws j g
NumFit ws None e = ⊥

pub num_fit : {n : Option NumNode} (ws : List ℕ) (k : ℕ) → n ≡ num_at ws k → (e : Num) → NumIn ws k e → NumFit ws n e
unfolding NumIn
num_fit ws k h (fixed a) p = subst (λ n. NumFit ws n (fixed a)) (sym (h ∙ p)) refl
num_fit ws k h (index l) p = subst (λ n. NumFit ws n (index l)) (sym (h ∙ p)) refl
num_fit ws k h (entry t e f) (i, j, p, q, r) = subst (λ n. NumFit ws n (entry t e f)) (sym (h ∙ p)) (e, f, refl, q, r)
num_fit ws k h (joined o e f) (i, j, p, q, r) = subst (λ n. NumFit ws n (joined o e f)) (sym (h ∙ p)) (e, f, refl, q, r)

abbrev pub CondFit : List ℕ → Option CondNode → Cond → Type 0
CondFit ws (Some (Relate r i j)) c = (e : Num) × (f : Num) × (c ≡ relate r e f) × NumIn ws i e × NumIn ws j f
CondFit ws (Some (Both i j)) c = (d : Cond) × (e : Cond) × (c ≡ both d e) × CondIn ws i d × CondIn ws j e
CondFit ws None c = ⊥

pub cond_fit : {n : Option CondNode} (ws : List ℕ) (k : ℕ) → n ≡ cond_at ws k → (c : Cond) → CondIn ws k c → CondFit ws n c
unfolding CondIn
cond_fit ws k h (relate r e f) (i, j, p, q, s) = subst (λ n. CondFit ws n (relate r e f)) (sym (h ∙ p)) (e, f, refl, q, s)
cond_fit ws k h (both c d) (i, j, p, q, s) = subst (λ n. CondFit ws n (both c d)) (sym (h ∙ p)) (c, d, refl, q, s)

abbrev pub LinFit : List ℕ → ℕ → Option LinNode → Lin → Type 0
LinFit ws k (Some Amount) l = (e : Num) × (l ≡ amount e) × NumIn ws k e
LinFit ws k (Some (Term t)) l = (e : Num) × (f : Num) × (g : Num) × (l ≡ term e t.array f g) × NumIn ws t.number e × NumIn ws t.row f × NumIn ws t.column g
LinFit ws k (Some (Chain g i j)) l = (a : Lin) × (b : Lin) × (l ≡ chain g a b) × LinIn ws i a × LinIn ws j b
LinFit ws k (Some Nothing) l = l ≡ nothing
LinFit ws k (Some (Sum o)) l = (c : Option Cond) × (a : Lin) × (l ≡ sum_over o.set c a) × FilterIn ws o.filter c × LinIn ws o.body a
LinFit ws k None l = ⊥

pub lin_fit : {n : Option LinNode} (ws : List ℕ) (k : ℕ) → n ≡ lin_at ws k → (l : Lin) → LinIn ws k l → LinFit ws k n l
unfolding LinIn
lin_fit ws k h (amount e) (p, q) = subst (λ n. LinFit ws k n (amount e)) (sym (h ∙ p)) (e, refl, q)
lin_fit ws k h (term e n f g) (t, p, a, q, r, s) = subst (λ x. LinFit ws k x (term e n f g)) (sym (h ∙ p)) (e, f, g, ap (λ m. term e m f g) (sym a), q, r, s)
lin_fit ws k h (sum_over n c l) (o, p, a, q, r) = subst (λ x. LinFit ws k x (sum_over n c l)) (sym (h ∙ p)) (c, l, ap (λ m. sum_over m c l) (sym a), q, r)
lin_fit ws k h (chain g t l) (i, j, p, q, r) = subst (λ n. LinFit ws k n (chain g t l)) (sym (h ∙ p)) (t, l, refl, q, r)
lin_fit ws k h nothing p = subst (λ n. LinFit ws k n nothing) (sym (h ∙ p)) refl

abbrev pub ConstraintFit : List ℕ → Option ConstraintNode → Constraint → Type 0
ConstraintFit ws (Some (Compare c i j)) r = (a : Lin) × (b : Lin) × (r ≡ compare c a b) × LinIn ws i a × LinIn ws j b
ConstraintFit ws (Some (All o)) r = (c : Option Cond) × (q : Constraint) × (r ≡ for_all o.set c q) × FilterIn ws o.filter c × ConstraintIn ws o.body q
ConstraintFit ws None r = ⊥

pub constraint_fit : {n : Option ConstraintNode} (ws : List ℕ) (k : ℕ) → n ≡ constraint_at ws k → (r : Constraint) → ConstraintIn ws k r → ConstraintFit ws n r
unfolding ConstraintIn
constraint_fit ws k h (compare c l r) (i, j, p, q, s) = subst (λ n. ConstraintFit ws n (compare c l r)) (sym (h ∙ p)) (l, r, refl, q, s)
constraint_fit ws k h (for_all n c r) (o, p, a, q, s) = subst (λ x. ConstraintFit ws x (for_all n c r)) (sym (h ∙ p)) (c, r, ap (λ m. for_all m c r) (sym a), q, s)

-- the parts of a chain stand before it
pub chain_below : (ws : List ℕ) (k : ℕ) (g : Sign) (i j : ℕ) → Some (Chain g i j) ≡ lin_at ws k → (i < k) × (j < k)
chain_below ws k g i j h = grind (arith, nat_tests)

-- a node stands for one tree at most

pub one_num : (ws : List ℕ) (k : ℕ) (e f : Num) → NumIn ws k e → NumIn ws k f → e ≡ f
unfolding NumIn
one_num ws k (fixed a) f p q = sym (num_fit ws k (sym p) f q)
one_num ws k (index l) f p q = sym (num_fit ws k (sym p) f q)
one_num ws k (entry t e f) g (i, j, n, p, q) r =
    let (x, y, z, u, v) = num_fit ws k (sym n) g r in
    ap₂ (entry t) (one_num ws i e x p u) (one_num ws j f y q v) ∙ sym z
one_num ws k (joined o e f) g (i, j, n, p, q) r =
    let (x, y, z, u, v) = num_fit ws k (sym n) g r in
    ap₂ (joined o) (one_num ws i e x p u) (one_num ws j f y q v) ∙ sym z

pub one_cond : (ws : List ℕ) (k : ℕ) (c d : Cond) → CondIn ws k c → CondIn ws k d → c ≡ d
unfolding CondIn
one_cond ws k (relate r e f) d (i, j, n, p, q) s =
    let (x, y, z, u, v) = cond_fit ws k (sym n) d s in
    ap₂ (relate r) (one_num ws i e x p u) (one_num ws j f y q v) ∙ sym z
one_cond ws k (both c e) d (i, j, n, p, q) s =
    let (x, y, z, u, v) = cond_fit ws k (sym n) d s in
    ap₂ both (one_cond ws i c x p u) (one_cond ws j e y q v) ∙ sym z

pub one_filter : (ws : List ℕ) (o : Option ℕ) (c d : Option Cond) → FilterIn ws o c → FilterIn ws o d → c ≡ d
unfolding FilterIn
one_filter ws None None None p q = refl
one_filter ws None None (Some d) p q = absurd q
one_filter ws None (Some c) d p q = absurd p
one_filter ws (Some k) None d p q = absurd p
one_filter ws (Some k) (Some c) None p q = absurd q
one_filter ws (Some k) (Some c) (Some d) p q = ap Some (one_cond ws k c d p q)

pub one_lin : (ws : List ℕ) (k : ℕ) (l m : Lin) → LinIn ws k l → LinIn ws k m → l ≡ m
unfolding LinIn
one_lin ws k (amount e) m (n, p) q = let (x, z, u) = lin_fit ws k (sym n) m q in ap amount (one_num ws k e x p u) ∙ sym z
one_lin ws k (term e a f g) m (h, n, o, p, q, r) s =
    let (x, y, w, z, t, u, v) = lin_fit ws k (sym n) m s in
    ap₂ (λ c b. term c b f g) (one_num ws h.number e x p t) (sym o) ∙ ap₂ (term x h.array) (one_num ws h.row f y q u) (one_num ws h.column g w r v) ∙ sym z
one_lin ws k (sum_over a c l) m (o, n, b, p, q) s =
    let (x, y, z, u, v) = lin_fit ws k (sym n) m s in
    ap (λ d. sum_over d c l) (sym b) ∙ ap₂ (sum_over o.set) (one_filter ws o.filter c x p u) (one_lin ws o.body l y q v) ∙ sym z
one_lin ws k (chain g t l) m (i, j, n, p, q) s =
    let (x, y, z, u, v) = lin_fit ws k (sym n) m s in
    ap₂ (chain g) (one_lin ws i t x p u) (one_lin ws j l y q v) ∙ sym z
one_lin ws k nothing m n s = sym (lin_fit ws k (sym n) m s)

pub one_constraint : (ws : List ℕ) (k : ℕ) (r s : Constraint) → ConstraintIn ws k r → ConstraintIn ws k s → r ≡ s
unfolding ConstraintIn
one_constraint ws k (compare c l r) s (i, j, n, p, q) t =
    let (x, y, z, u, v) = constraint_fit ws k (sym n) s t in
    ap₂ (compare c) (one_lin ws i l x p u) (one_lin ws j r y q v) ∙ sym z
one_constraint ws k (for_all a c r) s (o, n, b, p, q) t =
    let (x, y, z, u, v) = constraint_fit ws k (sym n) s t in
    ap (λ d. for_all d c r) (sym b) ∙ ap₂ (for_all o.set) (one_filter ws o.filter c x p u) (one_constraint ws o.body r y q v) ∙ sym z

one_list : (ws : List ℕ) (k : ℕ) (rs ss : List Constraint) → ConstraintsIn ws k rs → ConstraintsIn ws k ss → rs ≡ ss
unfolding ConstraintsIn
one_list ws k [] [] p q = refl
one_list ws k [] (s ∷ ss) p q = absurd (omega (arith, q.0))
one_list ws k (r ∷ rs) [] p q = absurd (omega (arith, p.0))
one_list ws k (r ∷ rs) (s ∷ ss) p q = ap₂ ◌∷◌ (one_constraint ws (constraint_place ws k) r s p.1 q.1) (one_list ws (suc k) rs ss p.2 q.2)

-- constraint i of a model that words keep
constraint_in_list : (ws : List ℕ) (k : ℕ) (rs : List Constraint) (i : ℕ) (r : Constraint) → ConstraintsIn ws k rs → i < length rs → get_or rs i r ≡ r → (k + i < constraint_count ws) × ConstraintIn ws (constraint_place ws (k + i)) r
unfolding ConstraintsIn
constraint_in_list ws k [] i r p h e = absurd (omega arith)
constraint_in_list ws k (q ∷ rs) zero r p h e = rw add-zero (p.0, subst (ConstraintIn ws (constraint_place ws k)) e p.1)
constraint_in_list ws k (q ∷ rs) (suc i) r p h e =
    let n : k + suc i ≡ suc k + i = omega arith in
    subst (λ j. (j < constraint_count ws) × ConstraintIn ws (constraint_place ws j) r) (sym n) (constraint_in_list ws (suc k) rs i r p.2 (omega arith) e)

pub constraint_kept : (ws : List ℕ) (m : Model) (i : ℕ) (r : Constraint) → Keeps ws m → i < length m.constraints → get_or m.constraints i r ≡ r → (i < constraint_count ws) × ConstraintIn ws (constraint_place ws i) r
constraint_kept ws m i r k h e = subst (λ j. (j < constraint_count ws) × ConstraintIn ws (constraint_place ws j) r) (zero-add i) (constraint_in_list ws 0 m.constraints i r k.constraints h e)

pub one_model : OneModel
one_model ws m n p q =
    let a = p.symbols ∙ sym q.symbols in
    let b = one_list ws 0 m.constraints n.constraints p.constraints q.constraints in
    let c = one_lin ws (objective_place ws) m.objective n.objective p.objective q.objective in
    ap (λ s. record { symbols = s; constraints = m.constraints; objective = m.objective }) a
    ∙ ap₂ (λ r l. record { symbols = n.symbols; constraints = r; objective = l }) b c
