-- Constraints pass. Assumes nothing.
use Rattle.std.proofs.Common.{◌≡◌, ℕ, zero, suc, ◌<◌, ◌≤◌, Bool, true, false, eqb, List, ◌∷◌, ◌++◌, length, drop, codes, Option, refl, arith}
use Rattle.model.specs.declared.Comparison.{Comparison}
use Rattle.model.specs.declared.Comparison.TheVariants.{AtMost, AtLeast, Exactly}
use Rattle.model.specs.declared.Sign.{Sign}
use Rattle.model.specs.declared.Sign.TheVariants.{Positive, Negative}
use Rattle.grammar.specs.Grammar.{is_letter, Word, IsName, sign_byte, comparison_text, Cond, IsFilter, over_text, Term, Lin, lin_text, Sides, last, next, IsSides, sides_text, Row, compare, for_all, IsRow, row_text}
use Rattle.grammar.specs.Reading.{Got, byte, Names, with_index, term_then, lin, is_sign, behind_left, sides, any_row, row}
use Rattle.grammar.specs.Fine.{FineHeader, FineSides, FineRow}
use Rattle.grammar.proofs.Bytes.{drop_size}
use Rattle.grammar.proofs.Passes.{Passes, pass_ok, pass_then, pass_see, pass_skip, no_range}
use Rattle.grammar.proofs.Lengths.{term_long}
use Rattle.grammar.proofs.PassedTokens.{pass_literal, pass_word, pass_sign, pass_comparison}
use Rattle.grammar.proofs.PassedNumbers.{Ends}
use Rattle.grammar.proofs.PassedHeaders.{pass_header}
use Rattle.grammar.proofs.PassedSums.{deep_of, inner_of, sign_letter, goes, pass_term, pass_lin}

sign_first : (g : Sign) (k : List ℕ) → is_sign (byte (sign_byte g ∷ k) 0) ≡ true
sign_first Positive k = refl
sign_first Negative k = refl

comparison_first : (c : Comparison) (k : List ℕ) → (is_letter (byte (comparison_text c k) 0) ≡ false) × (is_sign (byte (comparison_text c k) 0) ≡ false)
comparison_first AtMost k = (refl, refl)
comparison_first AtLeast k = (refl, refl)
comparison_first Exactly k = (refl, refl)

module _ {F : Type 0} (u : List ℕ) (short : F → length u ≤ 65536) where
  -- behind a term: the comparison and the right side, or more terms, as these pass
  pass_last : (k : List ℕ) (t : Term) (c : Comparison) (l : Lin) (further : ℕ → Got Sides) (right : ℕ → Got Lin) (at : ℕ) → ((m : ℕ) → drop m u ≡ lin_text l k → Passes F u k l (right m))
      → drop at u ≡ comparison_text c (32 ∷ lin_text l k) → Passes F u k (last t c l) (behind_left u further right t at)
  unfolding behind_left
  pass_last k t c l further right at p h =
      let r = 32 ∷ lin_text l k in
      pass_skip is_sign (comparison_text c r) at _ h (comparison_first c r).1
      (pass_then _ (pass_comparison u short r c at h) (λ e h.
      pass_then _ (pass_literal u short (lin_text l k) (codes " ") e h) (λ e h.
      pass_then _ (p e h) (λ e h. pass_ok h))))

  pass_next : (k : List ℕ) (t : Term) (g : Sign) (s : Sides) (further : ℕ → Got Sides) (right : ℕ → Got Lin) (at : ℕ) → ((m : ℕ) → drop m u ≡ sides_text s k → Passes F u k s (further m))
      → drop at u ≡ sign_byte g ∷ 32 ∷ sides_text s k → Passes F u k (next t g s) (behind_left u further right t at)
  unfolding behind_left
  pass_next k t g s further right at p h =
      let r = 32 ∷ sides_text s k in
      pass_see is_sign (sign_byte g ∷ r) at _ h (sign_first g r)
      (pass_then _ (pass_sign u short r g at h) (λ e h.
      pass_then _ (pass_literal u short (sides_text s k) (codes " ") e h) (λ e h.
      pass_then _ (p e h) (λ e h. pass_ok h))))

  -- what `all` goes through, as it passes
  pass_all : (k : List ℕ) (s i : Word) (c : Option Cond) (r : Row) (most : ℕ) (deep : Bool) (inner : Names → ℕ → ℕ → Got Lin) (right : ℕ → Got Lin) (body : Names → ℕ → Got Row) (ns : Names) (at : ℕ)
      → IsName s → IsName i → IsFilter c → (F → length u < most) → (F → deep ≡ false) → (F → FineHeader ns 64 s i c) → ((m : ℕ) → drop m u ≡ row_text r k → Passes F u k r (body (with_index i ns) m))
      → drop at u ≡ row_text (for_all s i c r) k → Passes F u k (for_all s i c r) (any_row u most deep inner right body ns at)
  unfolding any_row term_then
  pass_all k s i c r most deep inner right body ns at x y z room d f p h =
      let m = 32 ∷ over_text s i c (row_text r k) in
      pass_see is_letter (codes "all" ++ m) at _ h refl
      (pass_then _ (pass_word u short m (codes "all") at (refl, (refl, (refl, (refl, tt))), omega arith) refl h) (λ e h.
      pass_then _ (pass_header u short c s i ns 64 most deep at (row_text r k) e x y z room d f h) (λ e h.
      pass_then _ (p e h) (λ e h. pass_ok h))))

module _ {F : Type 0} (u : List ℕ) (short : F → length u ≤ 65536) (most : ℕ) (room : F → length u < most) where
  -- with a turn for each term
  pass_sides : (s : Sides) (turns nest : ℕ) (ns : Names) (k : List ℕ) (at : ℕ) → IsSides s → Ends k → eqb (byte k 0) 32 ≡ false → (F → FineSides ns nest s) → (F → length (sides_text s k) ≤ turns) → drop at u ≡ sides_text s k
      → Passes F u k s (sides u most (deep_of nest) (inner_of u most nest) (lin u most nest ns 64) ns turns at)
  unfolding sides FineSides
  pass_sides (last t c l) zero nest ns k at i s z f b h = let p = term_long t (32 ∷ comparison_text c (32 ∷ lin_text l k)) i.0 in no_range (λ y. let n = b y in omega arith)
  pass_sides (next t g x) zero nest ns k at i s z f b h = let p = term_long t (32 ∷ sign_byte g ∷ 32 ∷ sides_text x k) i.0 in no_range (λ y. let n = b y in omega arith)
  pass_sides (last t c l) (suc turns) nest ns k at i s z f b h =
      let r = comparison_text c (32 ∷ lin_text l k) in
      pass_term u short most room t nest 64 (32 ∷ r) k (last t c l) ns _ _ _ at i.0 (λ y. (f y).0) (goes r refl (comparison_first c (32 ∷ lin_text l k)).0 (λ e h.
      pass_last u short k t c l _ _ e (λ m h. pass_lin u short most room l nest 64 ns k m i.1 s z (λ y. (f y).1) h) h)) h
  pass_sides (next t g x) (suc turns) nest ns k at i s z f b h =
      let r = sign_byte g ∷ 32 ∷ sides_text x k in
      let p = term_long t (32 ∷ r) i.0 in
      pass_term u short most room t nest 64 (32 ∷ r) k (next t g x) ns _ _ _ at i.0 (λ y. (f y).0) (goes r refl (sign_letter g (32 ∷ sides_text x k)) (λ e h.
      pass_next u short k t g x _ _ e (λ m h. pass_sides x turns nest ns k m i.1 s z (λ y. (f y).1) (λ y. let n = b y in omega arith) h) h)) h

  pass_compare : (s : Sides) (nest : ℕ) (body : Names → ℕ → Got Row) (ns : Names) (k : List ℕ) (at : ℕ) → IsSides s → Ends k → eqb (byte k 0) 32 ≡ false → (F → FineSides ns nest s) → drop at u ≡ sides_text s k
      → Passes F u k (compare s) (any_row u most (deep_of nest) (inner_of u most nest) (lin u most nest ns 64) body ns at)
  unfolding any_row FineSides
  pass_compare (last t c l) nest body ns k at i s z f h =
      let r = comparison_text c (32 ∷ lin_text l k) in
      pass_term u short most room t nest 64 (32 ∷ r) k (compare (last t c l)) ns _ _ _ at i.0 (λ y. (f y).0) (goes r refl (comparison_first c (32 ∷ lin_text l k)).0 (λ e h.
      pass_then _ (pass_last u short k t c l _ _ e (λ m h. pass_lin u short most room l nest 64 ns k m i.1 s z (λ y. (f y).1) h) h) (λ e h. pass_ok h))) h
  pass_compare (next t g x) nest body ns k at i s z f h =
      let r = sign_byte g ∷ 32 ∷ sides_text x k in
      pass_term u short most room t nest 64 (32 ∷ r) k (compare (next t g x)) ns _ _ _ at i.0 (λ y. (f y).0) (goes r refl (sign_letter g (32 ∷ sides_text x k)) (λ e h.
      pass_then _ (pass_next u short k t g x _ _ e (λ m h. let d = drop_size u (sides_text x k) m h in pass_sides x most nest ns k m i.1 s z (λ y. (f y).1) (λ y. let n = room y in omega arith) h) h) (λ e h. pass_ok h))) h

  pub pass_row : (r : Row) (nest : ℕ) (ns : Names) (k : List ℕ) (at : ℕ) → IsRow r → Ends k → eqb (byte k 0) 32 ≡ false → (F → FineRow ns nest r) → drop at u ≡ row_text r k → Passes F u k r (row u most nest ns at)
  unfolding row FineRow
  pass_row (compare s) zero ns k at i e z f h = pass_compare s 0 _ ns k at i e z f h
  pass_row (compare s) (suc nest) ns k at i e z f h = pass_compare s (suc nest) _ ns k at i e z f h
  pass_row (for_all s w c r) zero ns k at i e z f h =
      pass_all u short k s w c r most true _ _ _ ns at i.0 i.1 i.2 room (λ y. absurd (f y)) (λ y. absurd (f y)) (λ m h. no_range f) h
  pass_row (for_all s w c r) (suc nest) ns k at i e z f h =
      pass_all u short k s w c r most false _ _ _ ns at i.0 i.1 i.2 room (λ y. refl) (λ y. (f y).0) (λ m h. pass_row r nest (with_index w ns) k m i.3 e z (λ y. (f y).1) h) h
