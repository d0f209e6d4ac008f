-- Tokens that are written pass. Assumes nothing.
use Rattle.std.proofs.Common.{◌≡◌, ℕ, suc, ◌+◌, ◌≤◌, true, false, cond, ◌&&◌, eqb, ltb, leb, List, [], ◌∷◌, ◌++◌, length, drop, codes, sym, refl, ap, ◌∙◌, subst, arith}
use Rattle.std.specs.List.{AllByRecursion}
use Rattle.std.proofs.lemmas.Bool.{eq-eqb, and_parts, and_left, leb-true, lt-leb, le-ltb, or_parts}
use Rattle.model.specs.declared.Operator.{Operator}
use Rattle.model.specs.declared.Operator.TheVariants.{Plus, Minus, Times}
use Rattle.model.specs.declared.Relation.{Relation}
use Rattle.model.specs.declared.Relation.TheVariants.{Less, Equal, Differ}
use Rattle.model.specs.declared.Comparison.{Comparison}
use Rattle.model.specs.declared.Comparison.TheVariants.{AtMost, AtLeast, Exactly}
use Rattle.model.specs.declared.Sign.{Sign}
use Rattle.model.specs.declared.Sign.TheVariants.{Positive, Negative}
use Rattle.grammar.specs.declared.Refusal.TheVariants.{Syntax}
use Rattle.grammar.specs.Grammar.{is_digit, is_top, is_letter, is_word, member, reserved, IsWord, IsName, Numeral, nought, whole, minus, IsNumeral, numeral_text, operator_byte, relation_text, sign_byte, comparison_text}
use Rattle.grammar.specs.Reading.{bad, byte, in_length, front, run_at, digits_at, literal, word, name, numeral, operator, relation, sign, comparison}
use Rattle.grammar.proofs.Bytes.{drop_byte, first_of, word_long, front_of, top_other}
use Rattle.grammar.proofs.Passes.{Passes, pass_ok, pass_then, pass_false, pass_see, pass_skip, pass_taken, pass_one, pass_in_length}

-- what follows is no part of a word
abbrev pub Stops : List ℕ → Type 0
Stops k = is_word (byte k 0) ≡ false

stops_digit : (k : List ℕ) → Stops k → is_digit (byte k 0) ≡ false
stops_digit k s = (or_parts (is_digit (byte k 0)) (is_letter (byte k 0)) s).0

-- how a numeral begins
pub numeral_first : (n : Numeral) (k : List ℕ) → IsNumeral n → (eqb (byte (numeral_text n k) 0) 40 ≡ false) × (is_letter (byte (numeral_text n k) 0) ≡ false)
numeral_first nought k i = (refl, refl)
numeral_first (whole d ds) k i =
    let l = leb-true d 57 (and_parts (leb 49 d) (leb d 57) i.0).1 in
    (top_other d 40 (omega arith) i.0, and_left (leb 97 d) (leb d 122) (lt-leb 97 d (omega arith)))
numeral_first (minus d ds) k i = (refl, refl)

-- F says that the text is not too long
module _ {F : Type 0} (u : List ℕ) (short : F → length u ≤ 65536) where
  pub pass_literal : (k w : List ℕ) (at : ℕ) → drop at u ≡ w ++ k → Passes F u k tt (literal u w at)
  unfolding literal
  pass_literal k [] at h = pass_ok h
  pass_literal k (c ∷ w) at h =
      pass_see (λ b. eqb b c) (c ∷ (w ++ k)) at _ h (eq-eqb c c refl) (pass_taken u (w ++ k) at c short h (pass_literal k w (at + 1) (drop_byte u (w ++ k) at c h).1))

  pub pass_word : (k w : List ℕ) (at : ℕ) → IsWord w → Stops k → drop at u ≡ w ++ k → Passes F u k w (word u at)
  unfolding word
  pass_word k w at i s h =
      let e : run_at u at ≡ w = ap (front is_word) h ∙ front_of is_word w k refl i.1 s in
      pass_see is_letter (w ++ k) at _ h (first_of w k i.0)
      (subst (λ v. Passes F u k w (cond (ltb 12 (length v) && leb (at + 12) 65536) (bad (Syntax (at + 12))) (in_length v (at + length v)))) (sym e)
      (pass_false (ltb 12 (length w) && leb (at + 12) 65536) _ (and_left (ltb 12 (length w)) (leb (at + 12) 65536) (le-ltb 12 (length w) i.2))
      (pass_in_length u w k at short (word_long w i.0) h)))

  pub pass_name : (k w : List ℕ) (at : ℕ) → IsName w → Stops k → drop at u ≡ w ++ k → Passes F u k w (name u at)
  unfolding name
  pass_name k w at i s h = pass_then _ (pass_word k w at i.0 s h) (λ e h. pass_false (member w reserved) _ i.1 (pass_ok h))

  -- the digits behind a first one
  pass_digits : (ds k : List ℕ) (at d : ℕ) (G : ℕ → List ℕ → Numeral) → AllByRecursion (λ c. is_digit c ≡ true) ds → Stops k → drop at u ≡ d ∷ (ds ++ k)
      → Passes F u k (G d ds) (in_length (G (byte u at) (digits_at u (at + 1))) (at + 1 + length (digits_at u (at + 1))))
  pass_digits ds k at d G a s h =
      let b = drop_byte u (ds ++ k) at d h in
      let e : digits_at u (at + 1) ≡ ds = ap (front is_digit) b.1 ∙ front_of is_digit ds k refl a (stops_digit k s) in
      let z : at + suc (length ds) ≡ at + 1 + length ds = omega arith in
      subst (λ (v : List ℕ). Passes F u k (G d ds) (in_length (G (byte u at) v) (at + 1 + length v))) (sym e)
      (subst (λ (c : ℕ). Passes F u k (G d ds) (in_length (G c ds) (at + 1 + length ds))) (sym b.0)
      (subst (λ (m : ℕ). Passes F u k (G d ds) (in_length (G d ds) m)) z (pass_in_length u (d ∷ ds) k at short (omega arith) h)))

  pub pass_numeral : (k : List ℕ) (n : Numeral) (at : ℕ) → IsNumeral n → Stops k → drop at u ≡ numeral_text n k → Passes F u k n (numeral u at)
  unfolding numeral
  pass_numeral k nought at i s h =
      let d = (drop_byte u k at 48 h).1 in
      pass_see (λ b. eqb b 48) (48 ∷ k) at _ h refl (pass_taken u k at 48 short h (pass_skip is_digit k (at + 1) _ d (stops_digit k s) (pass_ok d)))
  pass_numeral k (whole t ds) at i s h =
      pass_skip (λ b. eqb b 48) (t ∷ (ds ++ k)) at _ h (top_other t 48 (omega arith) i.0)
      (pass_see is_top (t ∷ (ds ++ k)) at _ h i.0 (pass_digits ds k at t whole i.1 s h))
  pass_numeral k (minus t ds) at i s h =
      let d = (drop_byte u (t ∷ (ds ++ k)) at 45 h).1 in
      pass_skip (λ b. eqb b 48) (45 ∷ t ∷ (ds ++ k)) at _ h refl
      (pass_skip is_top (45 ∷ t ∷ (ds ++ k)) at _ h refl
      (pass_see (λ b. eqb b 45) (45 ∷ t ∷ (ds ++ k)) at _ h refl
      (pass_taken u (t ∷ (ds ++ k)) at 45 short h (pass_see is_top (t ∷ (ds ++ k)) (at + 1) _ d i.0 (pass_digits ds k (at + 1) t minus i.1 s d)))))

  pub pass_operator : (k : List ℕ) (o : Operator) (at : ℕ) → drop at u ≡ operator_byte o ∷ k → Passes F u k o (operator u at)
  unfolding operator
  pass_operator k Plus at h = pass_see (λ b. eqb b 43) (43 ∷ k) at _ h refl (pass_one u k at 43 short h)
  pass_operator k Minus at h = pass_skip (λ b. eqb b 43) (45 ∷ k) at _ h refl (pass_see (λ b. eqb b 45) (45 ∷ k) at _ h refl (pass_one u k at 45 short h))
  pass_operator k Times at h =
      pass_skip (λ b. eqb b 43) (42 ∷ k) at _ h refl (pass_skip (λ b. eqb b 45) (42 ∷ k) at _ h refl (pass_see (λ b. eqb b 42) (42 ∷ k) at _ h refl (pass_one u k at 42 short h)))

  pub pass_relation : (k : List ℕ) (r : Relation) (at : ℕ) → drop at u ≡ relation_text r (32 ∷ k) → Passes F u (32 ∷ k) r (relation u at)
  unfolding relation
  pass_relation k Equal at h = pass_see (λ b. eqb b 61) (61 ∷ 32 ∷ k) at _ h refl (pass_one u (32 ∷ k) at 61 short h)
  pass_relation k Less at h =
      let d = (drop_byte u (32 ∷ k) at 60 h).1 in
      pass_skip (λ b. eqb b 61) (60 ∷ 32 ∷ k) at _ h refl
      (pass_see (λ b. eqb b 60) (60 ∷ 32 ∷ k) at _ h refl (pass_taken u (32 ∷ k) at 60 short h (pass_skip (λ b. eqb b 62) (32 ∷ k) (at + 1) _ d refl (pass_ok d))))
  pass_relation k Differ at h =
      let d = (drop_byte u (62 ∷ 32 ∷ k) at 60 h).1 in
      pass_skip (λ b. eqb b 61) (60 ∷ 62 ∷ 32 ∷ k) at _ h refl
      (pass_see (λ b. eqb b 60) (60 ∷ 62 ∷ 32 ∷ k) at _ h refl
      (pass_taken u (62 ∷ 32 ∷ k) at 60 short h (pass_see (λ b. eqb b 62) (62 ∷ 32 ∷ k) (at + 1) _ d refl (pass_one u (32 ∷ k) (at + 1) 62 short d))))

  pub pass_sign : (k : List ℕ) (g : Sign) (at : ℕ) → drop at u ≡ sign_byte g ∷ k → Passes F u k g (sign u at)
  unfolding sign
  pass_sign k Positive at h = pass_see (λ b. eqb b 43) (43 ∷ k) at _ h refl (pass_one u k at 43 short h)
  pass_sign k Negative at h = pass_skip (λ b. eqb b 43) (45 ∷ k) at _ h refl (pass_see (λ b. eqb b 45) (45 ∷ k) at _ h refl (pass_one u k at 45 short h))

  pub pass_comparison : (k : List ℕ) (c : Comparison) (at : ℕ) → drop at u ≡ comparison_text c k → Passes F u k c (comparison u at)
  unfolding comparison
  pass_comparison k AtMost at h =
      let d = (drop_byte u (61 ∷ k) at 60 h).1 in
      pass_see (λ b. eqb b 60) (60 ∷ 61 ∷ k) at _ h refl (pass_taken u (61 ∷ k) at 60 short h (pass_then _ (pass_literal k (codes "=") (at + 1) d) (λ e h. pass_ok h)))
  pass_comparison k AtLeast at h =
      let d = (drop_byte u (61 ∷ k) at 62 h).1 in
      pass_skip (λ b. eqb b 60) (62 ∷ 61 ∷ k) at _ h refl
      (pass_see (λ b. eqb b 62) (62 ∷ 61 ∷ k) at _ h refl (pass_taken u (61 ∷ k) at 62 short h (pass_then _ (pass_literal k (codes "=") (at + 1) d) (λ e h. pass_ok h))))
  pass_comparison k Exactly at h =
      pass_skip (λ b. eqb b 60) (61 ∷ k) at _ h refl (pass_skip (λ b. eqb b 62) (61 ∷ k) at _ h refl (pass_see (λ b. eqb b 61) (61 ∷ k) at _ h refl (pass_one u k at 61 short h)))
