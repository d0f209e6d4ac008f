-- A node by the words that it takes. Assumes nothing.
use denote.Enum.Declared.{tag_of}
use Rattle.std.proofs.Common.{◌≡◌, ℕ, ◌+◌, ◌<◌, ◌≤◌, Bool, true, false, cond, ◌&&◌, eqb, ltb, leb, List, [], ◌∷◌, length, ℤ, IfSome, Some, None, Option, refl, ap, add-zero, arith, lit<, w64, to_z}
use Rattle.std.proofs.lemmas.Bool.{lt-ltb, le-leb, ne_eqb, and_parts}
use Rattle.std.proofs.lemmas.Bool.Decides.{nat_tests}
use Rattle.model.specs.declared.Operator.{Operator}
use Rattle.model.specs.contracts.Operator.{the_type}
use Rattle.model.specs.contracts.Relation as relation
use Rattle.model.specs.contracts.Comparison as comparison
use Rattle.model.specs.contracts.Sign as sign
use Rattle.model.specs.declared.Operator.TheVariants.{Plus, Minus, Times}
use Rattle.model.specs.declared.Relation.{Relation}
use Rattle.model.specs.declared.Relation.TheVariants.{Less, Equal, Differ}
use Rattle.model.specs.declared.Comparison.{Comparison}
use Rattle.model.specs.declared.Comparison.TheVariants.{AtMost, AtLeast, Exactly}
use Rattle.model.specs.declared.Sign.{Sign}
use Rattle.model.specs.declared.Sign.TheVariants.{Positive, Negative}
use Rattle.model.specs.declared.TermNode.{TermNode}
use Rattle.model.specs.declared.Over.{Over}
use Rattle.model.specs.declared.NumNode.TheVariants.{Fixed, Index, Entry, Op}
use Rattle.model.specs.declared.CondNode.TheVariants.{Relate, Both}
use Rattle.model.specs.declared.LinNode.TheVariants.{Term, Chain, Sum}
use Rattle.model.specs.declared.ConstraintNode.TheVariants.{Compare, All}
use Rattle.model.specs.Words.{word, num_at, cond_at, lin_at, constraint_at, over_of}
use Rattle.compose.specs.Writes.{Appends, Holds, filter_place, filter_before}

-- what holds once it is written
pub placed : {P Q : Type 0} (b : Bool) (k w : ℕ) (r : Option ℕ) (ws vs : List ℕ) → Appends b w k r ws vs → IfSome r (λ _. P) → (b ≡ true → 1808 ≤ k → k + 5 ≤ length vs → P → Q) → IfSome r (λ _. Q)
placed b k w None ws vs a p f = tt
placed true k w (Some n) ws vs a p f =
    let e = a.next in
    let h : (1808 ≤ k) × (k + 5 ≤ length ws) = grind (arith, nat_tests) in
    f refl h.0 (omega (arith, h.1, a.below.long)) p
placed false k w (Some n) ws vs a p f = let e = a.next in let z : ◌≡◌ {A = ℕ} 0 1 = cc in absurd (omega arith)

-- a node of two parts
pub pair_placed : {Q : Type 0} (i j k : ℕ) (t : ℕ) (r : Option ℕ) (ws vs : List ℕ) → Appends (ltb i k && ltb j k) 3 k r ws vs → IfSome r (λ _. Holds vs k (t ∷ (i ∷ (j ∷ []))))
    → (1808 ≤ k → k + 5 ≤ length vs → i < k → j < k → Holds vs k (t ∷ (i ∷ (j ∷ []))) → Q) → IfSome r (λ _. Q)
pair_placed i j k t r ws vs a p f = placed (ltb i k && ltb j k) k 3 r ws vs a p (λ b l m h. let q : (i < k) × (j < k) = grind (arith, nat_tests) in f l m q.0 q.1 h)

module _ (vs : List ℕ) (k t : ℕ) (l : 1808 ≤ k) (r : k + 5 ≤ length vs) where
  room_is : leb (k + 5) (length vs) ≡ true
  room_is = le-leb (k + 5) (length vs) r

  not_first : eqb k 0 ≡ false
  not_first = ne_eqb k 0 (λ e. omega arith)

  first : (ns : List ℕ) → Holds vs k (t ∷ ns) → word vs k ≡ t
  first ns h = rw add-zero at (h 0 (omega arith))

  pub fixed_here : (a : ℕ) (z : ℤ) → t ≡ 1 → to_z w64 a ≡ z → Holds vs k (t ∷ (a ∷ [])) → num_at vs k ≡ Some (Fixed z)
  fixed_here a z e f h = simp (room_is, first (a ∷ []) h, e, h 1 (lit< tt), f)

  pub index_here : (a : ℕ) → t ≡ 2 → Holds vs k (t ∷ (a ∷ [])) → num_at vs k ≡ Some (Index a)
  index_here a e h = simp (room_is, first (a ∷ []) h, e, h 1 (lit< tt))

  pub entry_here : (n i j : ℕ) → t ≡ 3 → i < k → j < k → Holds vs k (t ∷ (n ∷ (i ∷ (j ∷ [])))) → num_at vs k ≡ Some (Entry n i j)
  entry_here n i j e p q h = simp (room_is, first (n ∷ (i ∷ (j ∷ []))) h, e, h 1 (lit< tt), h 2 (lit< tt), h 3 (lit< tt), lt-ltb i k p, lt-ltb j k q)

  pub term_here : (n : TermNode) → t ≡ 11 → n.number < k → n.row < k → n.column < k → Holds vs k (t ∷ (n.number ∷ (n.array ∷ (n.row ∷ (n.column ∷ []))))) → lin_at vs k ≡ Some (Term n)
  term_here n e p q s h = simp (not_first, room_is, first (n.number ∷ (n.array ∷ (n.row ∷ (n.column ∷ [])))) h, e, h 1 (lit< tt), h 2 (lit< tt), h 3 (lit< tt), h 4 (lit< tt), lt-ltb n.number k p, lt-ltb n.row k q, lt-ltb n.column k s)

  module _ (i j : ℕ) (p : i < k) (q : j < k) (h : Holds vs k (t ∷ (i ∷ (j ∷ [])))) where
    pub op_here : (o : Operator) → t ≡ tag_of the_type o + 4 → num_at vs k ≡ Some (Op o i j)
    op_here Plus e = simp (room_is, first (i ∷ (j ∷ [])) h, e, h 1 (lit< tt), h 2 (lit< tt), lt-ltb i k p, lt-ltb j k q)
    op_here Minus e = simp (room_is, first (i ∷ (j ∷ [])) h, e, h 1 (lit< tt), h 2 (lit< tt), lt-ltb i k p, lt-ltb j k q)
    op_here Times e = simp (room_is, first (i ∷ (j ∷ [])) h, e, h 1 (lit< tt), h 2 (lit< tt), lt-ltb i k p, lt-ltb j k q)

    pub relate_here : (o : Relation) → t ≡ tag_of relation.the_type o + 7 → cond_at vs k ≡ Some (Relate o i j)
    relate_here Less e = simp (room_is, first (i ∷ (j ∷ [])) h, e, h 1 (lit< tt), h 2 (lit< tt), lt-ltb i k p, lt-ltb j k q)
    relate_here Equal e = simp (room_is, first (i ∷ (j ∷ [])) h, e, h 1 (lit< tt), h 2 (lit< tt), lt-ltb i k p, lt-ltb j k q)
    relate_here Differ e = simp (room_is, first (i ∷ (j ∷ [])) h, e, h 1 (lit< tt), h 2 (lit< tt), lt-ltb i k p, lt-ltb j k q)

    pub both_here : t ≡ 10 → cond_at vs k ≡ Some (Both i j)
    both_here e = simp (room_is, first (i ∷ (j ∷ [])) h, e, h 1 (lit< tt), h 2 (lit< tt), lt-ltb i k p, lt-ltb j k q)

    pub chain_here : (g : Sign) → t ≡ tag_of sign.the_type g + 12 → lin_at vs k ≡ Some (Chain g i j)
    chain_here Positive e = simp (not_first, room_is, first (i ∷ (j ∷ [])) h, e, h 1 (lit< tt), h 2 (lit< tt), lt-ltb i k p, lt-ltb j k q)
    chain_here Negative e = simp (not_first, room_is, first (i ∷ (j ∷ [])) h, e, h 1 (lit< tt), h 2 (lit< tt), lt-ltb i k p, lt-ltb j k q)

    pub compare_here : (o : Comparison) → t ≡ tag_of comparison.the_type o + 15 → constraint_at vs k ≡ Some (Compare o i j)
    compare_here AtMost e = simp (room_is, first (i ∷ (j ∷ [])) h, e, h 1 (lit< tt), h 2 (lit< tt), lt-ltb i k p, lt-ltb j k q)
    compare_here AtLeast e = simp (room_is, first (i ∷ (j ∷ [])) h, e, h 1 (lit< tt), h 2 (lit< tt), lt-ltb i k p, lt-ltb j k q)
    compare_here Exactly e = simp (room_is, first (i ∷ (j ∷ [])) h, e, h 1 (lit< tt), h 2 (lit< tt), lt-ltb i k p, lt-ltb j k q)

  filter_is : (f : Option ℕ) → filter_before f k ≡ true → (cond (eqb (filter_place f) 0) None (Some (filter_place f)) ≡ f) × (filter_place f < k)
  filter_is None e = (refl, omega arith)
  filter_is (Some c) e = grind (arith, nat_tests)

  over_is : (o : Over) → filter_before o.filter k ≡ true → over_of o.set (filter_place o.filter) o.body ≡ o
  over_is o e = ap (λ f. record { set = o.set; filter = f; body = o.body }) (filter_is o.filter e).0

  module _ (o : Over) (b : (ltb o.body k && filter_before o.filter k) ≡ true) (h : Holds vs k (t ∷ (o.set ∷ (filter_place o.filter ∷ (o.body ∷ []))))) where
    parts : (ltb o.body k ≡ true) × (filter_before o.filter k ≡ true)
    parts = and_parts (ltb o.body k) (filter_before o.filter k) b

    filter_lt : ltb (filter_place o.filter) k ≡ true
    filter_lt = lt-ltb (filter_place o.filter) k (filter_is o.filter parts.1).1

    tag_is : word vs k ≡ t
    tag_is = first (o.set ∷ (filter_place o.filter ∷ (o.body ∷ []))) h

    pub sum_here : t ≡ 14 → lin_at vs k ≡ Some (Sum o)
    sum_here e = simp (not_first, room_is, tag_is, e, h 1 (lit< tt), h 2 (lit< tt), h 3 (lit< tt), parts.0, filter_lt) (ap (λ p. Some (Sum p)) (over_is o parts.1))

    pub all_here : t ≡ 18 → constraint_at vs k ≡ Some (All o)
    all_here e = simp (room_is, tag_is, e, h 1 (lit< tt), h 2 (lit< tt), h 3 (lit< tt), parts.0, filter_lt) (ap (λ p. Some (All p)) (over_is o parts.1))
