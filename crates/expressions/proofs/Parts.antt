-- Conditions read part by part. Assumes nothing.
use Rattle.std.proofs.Common.{◌≡◌, ℕ, suc, cond, eqb, List, [], ◌∷◌, ◌++◌, Some, None, codes, Option, sym, refl, ap, ◌∙◌}
use Rattle.std.proofs.lemmas.Bool.{cond-true, cond-false, eq-eqb, ne_eqb}
use Rattle.model.specs.Model as model
use Rattle.grammar.specs.declared.Refusal.{Refusal}
use Rattle.grammar.specs.Grammar.{Num, Cond, only, with_and}
use Rattle.grammar.specs.Reading.{Got, ok, bad, then, byte, literal, Names, relation, condition}
use Rattle.grammar.specs.Says.{cond_of, cond_behind}
use Rattle.tokens.proofs.Steps.{then_ok, then_bad}
use Rattle.expressions.specs.Conditions.{Compared, compared_at, compared_of}
use Rattle.expressions.proofs.Ways.{then_then, then_same, then_cond, cond_same}

-- conditions one after the other, and the last
abbrev pub all_of : List Compared → Compared → Cond
all_of [] k = only k.left k.relation k.right
all_of (j ∷ ks) k = with_and j.left j.relation j.right (all_of ks k)

-- one more
pub all_more : (ns : Names) (ks : List Compared) (k j : Compared) → cond_of ns (all_of (ks ++ (k ∷ [])) j) ≡ model.both (cond_of ns (all_of ks k)) (compared_of ns j)
unfolding cond_of cond_behind
all_more ns [] k j = refl
all_more ns (i ∷ ks) k j = go ks (compared_of ns i) where
  go : (ks : List Compared) (c : model.Cond) → cond_behind ns c (all_of (ks ++ (k ∷ [])) j) ≡ model.both (cond_behind ns c (all_of ks k)) (compared_of ns j)
  go [] c = refl
  go (i ∷ ks) c = go ks (model.both c (compared_of ns i))

pub all_one : (ns : Names) (k : Compared) → cond_of ns (all_of [] k) ≡ compared_of ns k
unfolding cond_of
all_one ns k = refl

-- what follows some conditions: nothing, or others
unfoldable pub rest_at : List ℕ → (ℕ → Got Num) → ℕ → ℕ → Got (Option Cond)
rest_at x number turns m = cond (eqb (byte x m) 32) (then (literal x (codes " and ") m) (λ _ m. then (condition x number turns m) (λ c z. ok (Some c) z))) (ok None m)

abbrev pub with_rest : List Compared → Compared → Option Cond → Cond
with_rest [] k None = only k.left k.relation k.right
with_rest [] k (Some c) = with_and k.left k.relation k.right c
with_rest (j ∷ ks) k o = with_and j.left j.relation j.right (with_rest ks k o)

abbrev pub joined_rest : List Compared → Compared → Got (Option Cond) → Got Cond
joined_rest ks k o = then o (λ d z. ok (with_rest ks k d) z)

module _ (x : List ℕ) (number : ℕ → Got Num) where
  -- one condition, and what follows it
  pub first_part : (turns at : ℕ) → condition x number (suc turns) at ≡ then (compared_at x number at) (λ k m. joined_rest [] k (rest_at x number turns m))
  unfolding condition compared_at rest_at then
  first_part turns at =
      then_same (number at) _ _ (λ e m.
      then_same (literal x (codes " ") m) _ _ (λ _ m.
      then_same (relation x m) _ _ (λ r m.
      then_same (literal x (codes " ") m) _ _ (λ _ m.
      then_same (number m) _ _ (λ f m.
      cond_same (eqb (byte x m) 32) (then_same (literal x (codes " and ") m) _ _ (λ _ m. sym (then_then (condition x number turns m) _ _)) ∙ sym (then_then (literal x (codes " and ") m) _ _)) refl
      ∙ sym (then_cond (eqb (byte x m) 32) _ _ _))
      ∙ sym (then_then (number m) _ _))
      ∙ sym (then_then (literal x (codes " ") m) _ _))
      ∙ sym (then_then (relation x m) _ _))
      ∙ sym (then_then (literal x (codes " ") m) _ _))
      ∙ sym (then_then (number at) _ _)

  with_more : (ks : List Compared) (k j : Compared) (o : Option Cond) → with_rest ks k (Some (with_rest [] j o)) ≡ with_rest (ks ++ (k ∷ [])) j o
  with_more [] k j None = refl
  with_more [] k j (Some c) = refl
  with_more (i ∷ ks) k j o = ap (with_and i.left i.relation i.right) (with_more ks k j o)

  rest_open : (turns m : ℕ) → byte x m ≡ 32 → rest_at x number turns m ≡ then (literal x (codes " and ") m) (λ _ m. then (condition x number turns m) (λ c z. ok (Some c) z))
  unfolding rest_at
  rest_open turns m e = cond-true (eqb (byte x m) 32) _ _ (eq-eqb (byte x m) 32 e)

  -- no more conditions
  pub rest_ended : (ks : List Compared) (k : Compared) (turns m : ℕ) → (byte x m ≡ 32 → ⊥) → joined_rest ks k (rest_at x number turns m) ≡ ok (all_of ks k) m
  unfolding rest_at
  rest_ended ks k turns m n = then_ok _ (cond-false (eqb (byte x m) 32) _ _ (ne_eqb (byte x m) 32 n)) ∙ ap (λ c. ok c m) (go ks) where
    go : (ks : List Compared) → with_rest ks k None ≡ all_of ks k
    go [] = refl
    go (j ∷ ks) = ap (with_and j.left j.relation j.right) (go ks)

  -- a fault in what follows
  pub rest_broken : (ks : List Compared) (k : Compared) (turns m : ℕ) (q : Refusal) → byte x m ≡ 32 → literal x (codes " and ") m ≡ bad q → joined_rest ks k (rest_at x number turns m) ≡ bad q
  rest_broken ks k turns m q e h = then_bad _ (rest_open turns m e ∙ then_bad _ h)

  module _ (ks : List Compared) (k : Compared) (turns m p : ℕ) (e : byte x m ≡ 32) (h : literal x (codes " and ") m ≡ ok tt p) where
    pub rest_bad : (q : Refusal) → compared_at x number p ≡ bad q → joined_rest ks k (rest_at x number (suc turns) m) ≡ bad q
    rest_bad q i = then_bad _ (rest_open (suc turns) m e ∙ then_ok _ h ∙ then_bad _ (first_part turns p ∙ then_bad _ i))

    -- one more condition
    pub rest_more : (j : Compared) (z : ℕ) → compared_at x number p ≡ ok j z → joined_rest ks k (rest_at x number (suc turns) m) ≡ joined_rest (ks ++ (k ∷ [])) j (rest_at x number turns z)
    unfolding then
    rest_more j z i =
        ap (joined_rest ks k) (rest_open (suc turns) m e ∙ then_ok _ h ∙ ap (λ o. then o (λ c z. ok (Some c) z)) (first_part turns p ∙ then_ok _ i))
        ∙ go (rest_at x number turns z) where
          go : (o : Got (Option Cond)) → joined_rest ks k (then (joined_rest [] j o) (λ c z. ok (Some c) z)) ≡ joined_rest (ks ++ (k ∷ [])) j o
          go (ok o y) = ap (λ c. ok c y) (with_more ks k j o)
          go (bad q) = refl
