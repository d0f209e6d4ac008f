-- Numbers pass. Assumes nothing.
use Rattle.std.proofs.Common.{◌≡◌, ℕ, zero, suc, ◌≤◌, Bool, true, false, not, ◌&&◌, eqb, List, [], ◌∷◌, ◌++◌, length, drop, codes, refl, arith}
use Rattle.std.proofs.lemmas.Bool.{both_ways, not-true, and_parts, ne_eqb}
use Rattle.grammar.specs.Grammar.{is_letter, Word, IsName, Numeral, IsNumeral, numeral_text, operator_byte, Num, fixed, index, entry1, entry2, joined, IsNum, num_text}
use Rattle.grammar.specs.Reading.{Got, byte, small, Names, find, table_there, index_there, one_place, place, named, fixed_at, pair, any_num, num}
use Rattle.grammar.specs.Fine.{FineNum}
use Rattle.grammar.proofs.Bytes.{first_of, letter_other}
use Rattle.grammar.proofs.Passes.{Passes, pass_ok, pass_then, pass_false, pass_see, pass_skip, pass_test, no_name, no_range, pass_name_test, pass_range_test}
use Rattle.grammar.proofs.PassedTokens.{Stops, numeral_first, pass_literal, pass_name, pass_numeral, pass_operator}

-- what follows a number is no part of a word, nor a place
abbrev pub Ends : List ℕ → Type 0
Ends k = Stops k × (eqb (byte k 0) 91 ≡ false)

pub some_left : (left : ℕ) → eqb (suc left) 0 ≡ false
some_left left = ne_eqb (suc left) 0 (λ e. omega arith)

module _ {F : Type 0} (u : List ℕ) (short : F → length u ≤ 65536) where
  -- PLACES: too deep; one; two

  pub pass_place_none : {A : Type 0} (k : List ℕ) (enough : Bool) (start : ℕ) (inner : ℕ → Got Num) (k1 : Num → A) (k2 : Num → Num → A) (at : ℕ) {j : List ℕ} {a : A}
      → (F → ⊥) → drop at u ≡ 91 ∷ k → Passes F u j a (place u enough start 0 inner k1 k2 at)
  unfolding place
  pass_place_none k enough start inner k1 k2 at f h = pass_see (λ b. eqb b 91) (91 ∷ k) at _ h refl (no_range f)

  pub pass_place1 : {A : Type 0} (k : List ℕ) (enough : Bool) (start left : ℕ) (inner : ℕ → Got Num) (k1 : Num → A) (k2 : Num → Num → A) (e : Num) (at : ℕ)
      → (F → enough ≡ true) → ((m : ℕ) → drop m u ≡ num_text e (93 ∷ k) → Passes F u (93 ∷ k) e (inner m))
      → drop at u ≡ 91 ∷ num_text e (93 ∷ k) → Passes F u k (k1 e) (place u enough start (suc left) inner k1 k2 at)
  unfolding place
  pass_place1 k enough start left inner k1 k2 e at f p h =
      pass_see (λ b. eqb b 91) (91 ∷ num_text e (93 ∷ k)) at _ h refl
      (pass_false (eqb (suc left) 0) _ (some_left left)
      (pass_then _ (pass_literal u short (num_text e (93 ∷ k)) (91 ∷ []) at h) (λ b h.
      pass_then _ (p b h) (λ m h.
      pass_skip (λ b. eqb b 44) (93 ∷ k) m _ h refl
      (pass_test (eqb (byte u m) 93 && not enough) (λ z. no_name (λ y. both_ways enough (not-true enough (and_parts (eqb (byte u m) 93) (not enough) z).1) (f y)))
      (λ _. pass_then _ (pass_literal u short k (93 ∷ []) m h) (λ z h. pass_ok h)))))))

  pub pass_place2 : {A : Type 0} (k : List ℕ) (enough : Bool) (start left : ℕ) (inner : ℕ → Got Num) (k1 : Num → A) (k2 : Num → Num → A) (e f : Num) (at : ℕ)
      → ((m : ℕ) → drop m u ≡ num_text e (44 ∷ 32 ∷ num_text f (93 ∷ k)) → Passes F u (44 ∷ 32 ∷ num_text f (93 ∷ k)) e (inner m))
      → ((m : ℕ) → drop m u ≡ num_text f (93 ∷ k) → Passes F u (93 ∷ k) f (inner m))
      → drop at u ≡ 91 ∷ num_text e (44 ∷ 32 ∷ num_text f (93 ∷ k)) → Passes F u k (k2 e f) (place u enough start (suc left) inner k1 k2 at)
  unfolding place
  pass_place2 k enough start left inner k1 k2 e f at p q h =
      let r = 44 ∷ 32 ∷ num_text f (93 ∷ k) in
      pass_see (λ b. eqb b 91) (91 ∷ num_text e r) at _ h refl
      (pass_false (eqb (suc left) 0) _ (some_left left)
      (pass_then _ (pass_literal u short (num_text e r) (91 ∷ []) at h) (λ b h.
      pass_then _ (p b h) (λ m h.
      pass_see (λ b. eqb b 44) r m _ h refl
      (pass_then _ (pass_literal u short (num_text f (93 ∷ k)) (codes ", ") m h) (λ m h.
      pass_then _ (q m h) (λ m h.
      pass_then _ (pass_literal u short k (93 ∷ []) m h) (λ z h. pass_ok h))))))))

  -- WORDS that were read: too deep; an index; an entry by one place; by two

  pub pass_entry_none : (k : List ℕ) (ns : Names) (inner : ℕ → Got Num) (start : ℕ) (w : Word) (at : ℕ) {j : List ℕ} {a : Num} → (F → ⊥) → drop at u ≡ 91 ∷ k → Passes F u j a (named u ns 0 inner start w at)
  unfolding named
  pass_entry_none k ns inner start w at f h =
      pass_see (λ b. eqb b 91) (91 ∷ k) at _ h refl (pass_test (table_there (find w ns)) (λ _. pass_place_none k (one_place (find w ns)) start inner (entry1 w) (entry2 w) at f h) (λ _. no_name f))

  pub pass_index : (k : List ℕ) (ns : Names) (left : ℕ) (inner : ℕ → Got Num) (start : ℕ) (w : Word) (at : ℕ) → Ends k → (F → index_there (find w ns) ≡ true) → drop at u ≡ k → Passes F u k (index w) (named u ns left inner start w at)
  unfolding named
  pass_index k ns left inner start w at s f h = pass_skip (λ b. eqb b 91) k at _ h s.1 (pass_name_test (index_there (find w ns)) _ f (pass_ok h))

  pub pass_entry1 : (k : List ℕ) (ns : Names) (left : ℕ) (inner : ℕ → Got Num) (start : ℕ) (w : Word) (e : Num) (at : ℕ) → (F → table_there (find w ns) ≡ true) → (F → one_place (find w ns) ≡ true)
      → ((m : ℕ) → drop m u ≡ num_text e (93 ∷ k) → Passes F u (93 ∷ k) e (inner m)) → drop at u ≡ 91 ∷ num_text e (93 ∷ k) → Passes F u k (entry1 w e) (named u ns (suc left) inner start w at)
  unfolding named
  pass_entry1 k ns left inner start w e at f g p h =
      pass_see (λ b. eqb b 91) (91 ∷ num_text e (93 ∷ k)) at _ h refl
      (pass_name_test (table_there (find w ns)) _ f (pass_place1 k (one_place (find w ns)) start left inner (entry1 w) (entry2 w) e at g p h))

  pub pass_entry2 : (k : List ℕ) (ns : Names) (left : ℕ) (inner : ℕ → Got Num) (start : ℕ) (w : Word) (e f : Num) (at : ℕ) → (F → table_there (find w ns) ≡ true)
      → ((m : ℕ) → drop m u ≡ num_text e (44 ∷ 32 ∷ num_text f (93 ∷ k)) → Passes F u (44 ∷ 32 ∷ num_text f (93 ∷ k)) e (inner m))
      → ((m : ℕ) → drop m u ≡ num_text f (93 ∷ k) → Passes F u (93 ∷ k) f (inner m))
      → drop at u ≡ 91 ∷ num_text e (44 ∷ 32 ∷ num_text f (93 ∷ k)) → Passes F u k (entry2 w e f) (named u ns (suc left) inner start w at)
  unfolding named
  pass_entry2 k ns left inner start w e f at g p q h =
      pass_see (λ b. eqb b 91) (91 ∷ num_text e (44 ∷ 32 ∷ num_text f (93 ∷ k))) at _ h refl
      (pass_name_test (table_there (find w ns)) _ g (pass_place2 k (one_place (find w ns)) start left inner (entry1 w) (entry2 w) e f at p q h))

  -- NUMBERS

  pass_fixed : (k : List ℕ) (ns : Names) (left : ℕ) (inner : ℕ → Got Num) (n : Numeral) (at : ℕ) → IsNumeral n → Stops k → (F → small n ≡ true) → drop at u ≡ numeral_text n k → Passes F u k (fixed n) (any_num u ns left inner at)
  unfolding any_num fixed_at
  pass_fixed k ns left inner n at i s f h =
      pass_skip (λ b. eqb b 40) (numeral_text n k) at _ h (numeral_first n k i).0
      (pass_skip is_letter (numeral_text n k) at _ h (numeral_first n k i).1
      (pass_then _ (pass_numeral u short k n at i s h) (λ e h. pass_range_test (small n) _ f (pass_ok h))))

  -- what begins with a name
  pass_any_name : (k j : List ℕ) (ns : Names) (left : ℕ) (inner : ℕ → Got Num) (w : Word) (a : Num) (at : ℕ) → IsName w → Stops k → drop at u ≡ w ++ k
      → ((e : ℕ) → drop e u ≡ k → Passes F u j a (named u ns left inner at w e)) → Passes F u j a (any_num u ns left inner at)
  unfolding any_num
  pass_any_name k j ns left inner w a at i s h p =
      let l = first_of w k i.0.0 in
      pass_skip (λ b. eqb b 40) (w ++ k) at _ h (letter_other (byte (w ++ k) 0) 40 (omega arith) l) (pass_see is_letter (w ++ k) at _ h l (pass_then _ (pass_name u short k w at i s h) p))

  pub pass_num : (e : Num) (left : ℕ) (ns : Names) (k : List ℕ) (at : ℕ) → IsNum e → Ends k → (F → FineNum ns left e) → drop at u ≡ num_text e k → Passes F u k e (num u ns left at)
  unfolding num any_num pair FineNum
  pass_num (fixed n) zero ns k at i s f h = pass_fixed k ns 0 _ n at i s.0 f h
  pass_num (fixed n) (suc left) ns k at i s f h = pass_fixed k ns (suc left) _ n at i s.0 f h
  pass_num (index w) zero ns k at i s f h = pass_any_name k k ns 0 _ w (index w) at i s.0 h (λ e h. pass_index k ns 0 _ at w e s f h)
  pass_num (index w) (suc left) ns k at i s f h = pass_any_name k k ns (suc left) _ w (index w) at i s.0 h (λ e h. pass_index k ns (suc left) _ at w e s f h)
  pass_num (entry1 w a) zero ns k at i s f h =
      let r = num_text a (93 ∷ k) in pass_any_name (91 ∷ r) k ns 0 _ w (entry1 w a) at i.0 refl h (λ e h. pass_entry_none r ns _ at w e f h)
  pass_num (entry1 w a) (suc left) ns k at i s f h =
      pass_any_name (91 ∷ num_text a (93 ∷ k)) k ns (suc left) _ w (entry1 w a) at i.0 refl h (λ e h.
      pass_entry1 k ns left (num u ns left) at w a e (λ y. (f y).0) (λ y. (f y).1) (λ m h. pass_num a left ns (93 ∷ k) m i.1 (refl, refl) (λ y. (f y).2) h) h)
  pass_num (entry2 w a b) zero ns k at i s f h =
      let r = num_text a (44 ∷ 32 ∷ num_text b (93 ∷ k)) in pass_any_name (91 ∷ r) k ns 0 _ w (entry2 w a b) at i.0 refl h (λ e h. pass_entry_none r ns _ at w e f h)
  pass_num (entry2 w a b) (suc left) ns k at i s f h =
      let r = 44 ∷ 32 ∷ num_text b (93 ∷ k) in
      pass_any_name (91 ∷ num_text a r) k ns (suc left) _ w (entry2 w a b) at i.0 refl h (λ e h.
      pass_entry2 k ns left (num u ns left) at w a b e (λ y. (f y).0) (λ m h. pass_num a left ns r m i.1 (refl, refl) (λ y. (f y).1) h) (λ m h. pass_num b left ns (93 ∷ k) m i.2 (refl, refl) (λ y. (f y).2) h) h)
  pass_num (joined o a b) zero ns k at i s f h =
      pass_see (λ b. eqb b 40) (40 ∷ num_text a (32 ∷ operator_byte o ∷ 32 ∷ num_text b (41 ∷ k))) at _ h refl (no_range f)
  pass_num (joined o a b) (suc left) ns k at i s f h =
      let r = 32 ∷ num_text b (41 ∷ k) in
      pass_see (λ b. eqb b 40) (40 ∷ num_text a (32 ∷ operator_byte o ∷ r)) at _ h refl
      (pass_false (eqb (suc left) 0) _ (some_left left)
      (pass_then _ (pass_literal u short (num_text a (32 ∷ operator_byte o ∷ r)) (codes "(") at h) (λ e h.
      pass_then _ (pass_num a left ns (32 ∷ operator_byte o ∷ r) e i.0 (refl, refl) (λ y. (f y).0) h) (λ e h.
      pass_then _ (pass_literal u short (operator_byte o ∷ r) (codes " ") e h) (λ e h.
      pass_then _ (pass_operator u short r o e h) (λ e h.
      pass_then _ (pass_literal u short (num_text b (41 ∷ k)) (codes " ") e h) (λ e h.
      pass_then _ (pass_num b left ns (41 ∷ k) e i.1 (refl, refl) (λ y. (f y).1) h) (λ e h.
      pass_then _ (pass_literal u short k (codes ")") e h) (λ e h. pass_ok h)))))))))
