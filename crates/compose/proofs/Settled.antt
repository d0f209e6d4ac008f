-- Words that agree; and that the words which a node takes settle it. Assumes nothing.
use Rattle.std.proofs.Common.{◌≡◌, ℕ, ◌+◌, ◌<◌, ◌≤◌, List, Some, refl, ◌∙◌, arith}
use Rattle.std.proofs.lemmas.Bool.Decides.{nat_tests}
use Rattle.model.specs.declared.NumNode.{NumNode}
use Rattle.model.specs.declared.NumNode.TheVariants.{Fixed, Index, Entry, Op}
use Rattle.model.specs.declared.CondNode.{CondNode}
use Rattle.model.specs.declared.CondNode.TheVariants.{Relate, Both}
use Rattle.model.specs.declared.LinNode.{LinNode}
use Rattle.model.specs.declared.LinNode.TheVariants.{Amount, Term, Sum, Chain, Nothing}
use Rattle.model.specs.declared.ConstraintNode.{ConstraintNode}
use Rattle.model.specs.declared.ConstraintNode.TheVariants.{Compare, All}
use Rattle.model.specs.Words.{num_at, cond_at, lin_at, constraint_at}
use Rattle.compose.specs.Agree.{Agree, Settled}
use Rattle.compose.specs.Writes.{num_size, cond_size, lin_size, constraint_size}

-- AGREEMENT

pub agree_self : (m n : ℕ) (ws : List ℕ) → Agree m n ws ws
agree_self m n ws = record { long = refl; same = λ p l h. refl }

pub agree_on : {m n : ℕ} {ws vs us : List ℕ} → Agree m n ws vs → Agree m n vs us → Agree m n ws us
agree_on s t = record { long = s.long ∙ t.long; same = λ p l h. s.same p l h ∙ t.same p l h }

-- fewer words agree all the more
pub agree_part : {m n : ℕ} {ws vs : List ℕ} (i j : ℕ) → m ≤ i → j ≤ n → Agree m n ws vs → Agree i j ws vs
agree_part i j l r s = record { long = s.long; same = λ p a b. s.same p (omega arith) (omega arith) }

-- WHAT IS SETTLED

pub settled_now : (m n : ℕ) (ws : List ℕ) (P : List ℕ → Type 0) → Settled m n ws P → P ws
settled_now m n ws P p = p ws (agree_self m n ws)

-- it stays so in words that agree
pub settled_on : (m n : ℕ) (ws vs : List ℕ) (P : List ℕ → Type 0) → Agree m n ws vs → Settled m n ws P → Settled m n vs P
settled_on m n ws vs P s p us t = p us (agree_on s t)

-- and by more words
pub settled_more : (m n i j : ℕ) (ws : List ℕ) (P : List ℕ → Type 0) → i ≤ m → n ≤ j → Settled m n ws P → Settled i j ws P
settled_more m n i j ws P l r p us t = p us (agree_part m n l r t)

-- NODES. Of the five words that are looked at, those that a node takes settle it

module _ (ws : List ℕ) (k n : ℕ) (l : 1808 ≤ k) where
  pub num_settled : (node : NumNode) → k + num_size node ≤ n → num_at ws k ≡ Some node → Settled 1808 n ws (λ vs. num_at vs k ≡ Some node)
  num_settled (Fixed a) h e vs s =
      let z = s.long in
      let t = s.same k l (omega arith) in
      let x = s.same (k + 1) (omega arith) (omega arith) in
      grind (arith, nat_tests)
  num_settled (Index i) h e vs s =
      let z = s.long in
      let t = s.same k l (omega arith) in
      let x = s.same (k + 1) (omega arith) (omega arith) in
      grind (arith, nat_tests)
  num_settled (Entry a i j) h e vs s =
      let z = s.long in
      let t = s.same k l (omega arith) in
      let x = s.same (k + 1) (omega arith) (omega arith) in
      let y = s.same (k + 2) (omega arith) (omega arith) in
      let w = s.same (k + 3) (omega arith) (omega arith) in
      grind (arith, nat_tests)
  num_settled (Op o i j) h e vs s =
      let z = s.long in
      let t = s.same k l (omega arith) in
      let x = s.same (k + 1) (omega arith) (omega arith) in
      let y = s.same (k + 2) (omega arith) (omega arith) in
      grind (arith, nat_tests)

  pub cond_settled : (node : CondNode) → k + cond_size node ≤ n → cond_at ws k ≡ Some node → Settled 1808 n ws (λ vs. cond_at vs k ≡ Some node)
  cond_settled node h e vs s =
      let three : cond_size node ≡ 3 = by node in
      let z = s.long in
      let t = s.same k l (omega arith) in
      let x = s.same (k + 1) (omega arith) (omega arith) in
      let y = s.same (k + 2) (omega arith) (omega arith) in
      cc
    where
      by : (node : CondNode) → cond_size node ≡ 3
      by (Relate o i j) = refl
      by (Both i j) = refl

  pub lin_settled : (node : LinNode) → k + lin_size node ≤ n → 0 < lin_size node → lin_at ws k ≡ Some node → Settled 1808 n ws (λ vs. lin_at vs k ≡ Some node)
  lin_settled (Term o) h f e vs s =
      let z = s.long in
      let t = s.same k l (omega arith) in
      let x = s.same (k + 1) (omega arith) (omega arith) in
      let y = s.same (k + 2) (omega arith) (omega arith) in
      let w = s.same (k + 3) (omega arith) (omega arith) in
      let v = s.same (k + 4) (omega arith) (omega arith) in
      cc
  lin_settled (Chain g i j) h f e vs s =
      let z = s.long in
      let t = s.same k l (omega arith) in
      let x = s.same (k + 1) (omega arith) (omega arith) in
      let y = s.same (k + 2) (omega arith) (omega arith) in
      grind (arith, nat_tests)
  lin_settled (Sum o) h f e vs s =
      let z = s.long in
      let t = s.same k l (omega arith) in
      let x = s.same (k + 1) (omega arith) (omega arith) in
      let y = s.same (k + 2) (omega arith) (omega arith) in
      let w = s.same (k + 3) (omega arith) (omega arith) in
      grind (arith, nat_tests)
  lin_settled Amount h f e vs s = absurd (omega arith)
  lin_settled Nothing h f e vs s = absurd (omega arith)

  pub constraint_settled : (node : ConstraintNode) → k + constraint_size node ≤ n → constraint_at ws k ≡ Some node → Settled 1808 n ws (λ vs. constraint_at vs k ≡ Some node)
  constraint_settled (Compare o i j) h e vs s =
      let z = s.long in
      let t = s.same k l (omega arith) in
      let x = s.same (k + 1) (omega arith) (omega arith) in
      let y = s.same (k + 2) (omega arith) (omega arith) in
      grind (arith, nat_tests)
  constraint_settled (All o) h e vs s =
      let z = s.long in
      let t = s.same k l (omega arith) in
      let x = s.same (k + 1) (omega arith) (omega arith) in
      let y = s.same (k + 2) (omega arith) (omega arith) in
      let w = s.same (k + 3) (omega arith) (omega arith) in
      cc
