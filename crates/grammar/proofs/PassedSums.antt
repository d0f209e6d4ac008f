-- Terms and sums pass. Assumes nothing.
use Rattle.std.proofs.Common.{◌≡◌, ℕ, zero, suc, ◌+◌, ◌-◌, ◌<◌, ◌≤◌, Bool, true, false, eqb, List, ◌∷◌, ◌++◌, length, drop, codes, Option, sym, refl, ◌∙◌, subst, arith}
use Rattle.std.specs.Str.{bytes_eq}
use Rattle.std.proofs.lemmas.Bool.{true≢false}
use Rattle.model.specs.declared.Sign.{Sign}
use Rattle.model.specs.declared.Sign.TheVariants.{Positive, Negative}
use Rattle.grammar.specs.declared.Refusal.TheVariants.{Range}
use Rattle.grammar.specs.Grammar.{is_letter, Word, member, reserved, IsName, numeral_text, operator_byte, sign_byte, Num, fixed, index, entry1, entry2, joined, IsNum, num_text, Cond, IsFilter, over_text, Term, alone, times1, times2, sum_over, Lin, one, more, IsTerm, IsLin, term_text, lin_text}
use Rattle.grammar.specs.Reading.{Got, bad, byte, Names, find, array_there, one_place, place, named, num, with_index, sum_at, after, after_num, term_then, terms, lin}
use Rattle.grammar.specs.Fine.{FineNum, FineHeader, FineTerm, FineLin}
use Rattle.grammar.proofs.Bytes.{drop_byte, drop_size, first_of, other_word}
use Rattle.grammar.proofs.Passes.{Passes, pass_ok, pass_then, pass_false, pass_see, pass_skip, no_range, pass_name_test, pass_range_not, pass_taken}
use Rattle.grammar.proofs.Lengths.{term_long}
use Rattle.grammar.proofs.PassedTokens.{Stops, numeral_first, pass_literal, pass_word, pass_name, pass_sign}
use Rattle.grammar.proofs.PassedNumbers.{Ends, some_left, pass_place_none, pass_place1, pass_place2, pass_entry_none, pass_index, pass_entry1, pass_entry2, pass_num}
use Rattle.grammar.proofs.PassedHeaders.{pass_header}

-- WITH SO MANY SUMS LEFT: whether that is none, and the reader of the sum within a sum

abbrev pub deep_of : ℕ → Bool
deep_of zero = true
deep_of (suc nest) = false

abbrev pub inner_of : List ℕ → ℕ → ℕ → Names → ℕ → ℕ → Got Lin
inner_of x most zero = λ _ _ p. bad (Range p)
inner_of x most (suc nest) = lin x most nest

lin_is : (x : List ℕ) (most nest : ℕ) (ns : Names) (left at : ℕ) → lin x most nest ns left at ≡ terms x most (deep_of nest) (inner_of x most nest) ns left most at
unfolding lin
lin_is x most zero ns left at = refl
lin_is x most (suc nest) ns left at = refl

-- a sum has brackets and a sum left
fine_sum : (ns : Names) (left nest : ℕ) (s i : Word) (c : Option Cond) (l : Lin) → FineTerm ns left nest (sum_over s i c l) → (eqb left 0 ≡ false) × (deep_of nest ≡ false) × FineHeader ns left s i c
unfolding FineTerm
fine_sum ns zero nest s i c l f = absurd f
fine_sum ns (suc left) zero s i c l f = absurd f
fine_sum ns (suc left) (suc nest) s i c l f = (some_left left, refl, f.0)

fine_within : (ns : Names) (left nest : ℕ) (s i : Word) (c : Option Cond) (l : Lin) → FineTerm ns left (suc nest) (sum_over s i c l) → FineLin (with_index i ns) (left - 1) nest l
unfolding FineTerm
fine_within ns zero nest s i c l f = absurd f
fine_within ns (suc left) nest s i c l f = let z : left ≡ suc left - 1 = omega arith in subst (λ (n : ℕ). FineLin (with_index i ns) n nest l) z f.1

pub sign_letter : (g : Sign) (k : List ℕ) → is_letter (byte (sign_byte g ∷ k) 0) ≡ false
sign_letter Positive k = refl
sign_letter Negative k = refl

-- what follows a term: no space, and then the term ends; or a space with no name behind it, which belongs to what follows
pub data Goes {R : Type 0} (F : Type 0) (u k j : List ℕ) (b : R) (ended spaced : ℕ → Got R) : Type 0 where
  ends : Ends k → eqb (byte k 0) 32 ≡ false → ((e : ℕ) → drop e u ≡ k → Passes F u j b (ended e)) → Goes F u k j b ended spaced
  goes : (m : List ℕ) → k ≡ 32 ∷ m → is_letter (byte m 0) ≡ false → ((e : ℕ) → drop e u ≡ m → Passes F u j b (spaced e)) → Goes F u k j b ended spaced

goes_ends : {R F : Type 0} {u k j : List ℕ} {b : R} {p q : ℕ → Got R} → Goes F u k j b p q → Ends k
goes_ends (ends s z p) = s
goes_ends (goes m e z p) = subst Ends (sym e) (refl, refl)

module _ {F : Type 0} (u : List ℕ) (short : F → length u ≤ 65536) where
  pass_after : {R : Type 0} (k j : List ℕ) (b : R) (ended spaced : Term → ℕ → Got R) (t : Term) (at : ℕ) → Goes F u k j b (ended t) (spaced t) → drop at u ≡ k → Passes F u j b (after u ended spaced t at)
  unfolding after
  pass_after k j b ended spaced t at (ends s z p) h = pass_skip (λ c. eqb c 32) k at _ h z (p at h)
  pass_after k j b ended spaced t at (goes m e z p) h =
      pass_see (λ c. eqb c 32) (32 ∷ m) at _ (h ∙ e) refl (pass_taken u m at 32 short (h ∙ e) (p (at + 1) (drop_byte u m at 32 (h ∙ e)).1))

  pass_alone : {R : Type 0} (k j : List ℕ) (b : R) (ns : Names) (left : ℕ) (ended spaced : Term → ℕ → Got R) (e : Num) (at : ℕ) → Goes F u k j b (ended (alone e)) (spaced (alone e)) → drop at u ≡ k
      → Passes F u j b (after_num u ns left ended spaced e at)
  unfolding after_num
  pass_alone k j b ns left ended spaced e at (ends s z p) h = pass_skip (λ c. eqb c 32) k at _ h z (p at h)
  pass_alone k j b ns left ended spaced e at (goes m y z p) h =
      let d = (drop_byte u m at 32 (h ∙ y)).1 in
      pass_see (λ c. eqb c 32) (32 ∷ m) at _ (h ∙ y) refl (pass_taken u m at 32 short (h ∙ y) (pass_skip is_letter m (at + 1) _ d z (p (at + 1) d)))

  -- a variable behind a number, as its places pass
  pass_variable : {R : Type 0} (k j l : List ℕ) (b : R) (ns : Names) (left : ℕ) (ended spaced : Term → ℕ → Got R) (e : Num) (w : Word) (t : Term) (at : ℕ) → IsName w → Stops l → (F → array_there (find w ns) ≡ true)
      → ((m z : ℕ) → drop z u ≡ l → Passes F u k t (place u (one_place (find w ns)) m left (num u ns (left - 1)) (times1 e w) (times2 e w) z))
      → Goes F u k j b (ended t) (spaced t) → drop at u ≡ 32 ∷ (w ++ l) → Passes F u j b (after_num u ns left ended spaced e at)
  unfolding after_num
  pass_variable k j l b ns left ended spaced e w t at i s f p g h =
      let d = (drop_byte u (w ++ l) at 32 h).1 in
      pass_see (λ c. eqb c 32) (32 ∷ (w ++ l)) at _ h refl
      (pass_taken u (w ++ l) at 32 short h
      (pass_see is_letter (w ++ l) (at + 1) _ d (first_of w l i.0.0)
      (pass_then _ (pass_name u short l w (at + 1) i s d) (λ z h.
      pass_name_test (array_there (find w ns)) _ f (pass_then _ (p (at + 1) z h) (λ q h. pass_after k j b ended spaced t q g h))))))

  -- a number within a bracket
  pass_inner : (e : Num) (left : ℕ) (ns : Names) (k : List ℕ) (at : ℕ) → IsNum e → Ends k → (F → FineNum ns left e) → drop at u ≡ num_text e k → Passes F u k e (num u ns (suc left - 1) at)
  pass_inner e left ns k at i s f h = let z : left ≡ suc left - 1 = omega arith in subst (λ (n : ℕ). Passes F u k e (num u ns n at)) z (pass_num u short e left ns k at i s f h)

  -- a term that begins with a name
  pass_first_name : {R : Type 0} (k m j : List ℕ) (b : R) (w : Word) (a : Num) (ns : Names) (left turns : ℕ) (deep : Bool) (inner : Names → ℕ → ℕ → Got Lin) (all : ℕ → Got R) (ended spaced : Term → ℕ → Got R) (at : ℕ)
      → IsName w → Stops k → drop at u ≡ w ++ k → ((e : ℕ) → drop e u ≡ k → Passes F u m a (named u ns left (num u ns (left - 1)) at w e))
      → ((e : ℕ) → drop e u ≡ m → Passes F u j b (after_num u ns left ended spaced a e)) → Passes F u j b (term_then u ns left turns deep inner all ended spaced at)
  unfolding term_then member
  pass_first_name k m j b w a ns left turns deep inner all ended spaced at i s h p q =
      pass_see is_letter (w ++ k) at _ h (first_of w k i.0.0)
      (pass_then _ (pass_word u short k w at i.0 s h) (λ e h.
      pass_false (bytes_eq w (codes "sum")) _ (other_word w (codes "sum") reserved i.1 refl)
      (pass_false (bytes_eq w (codes "all")) _ (other_word w (codes "all") reserved i.1 refl)
      (pass_false (member w reserved) _ i.1 (pass_then _ (p e h) q)))))

  -- a term that begins with a number
  pass_first : {R : Type 0} (a : Num) (left : ℕ) (k j : List ℕ) (b : R) (ns : Names) (turns : ℕ) (deep : Bool) (inner : Names → ℕ → ℕ → Got Lin) (all : ℕ → Got R) (ended spaced : Term → ℕ → Got R) (at : ℕ)
      → IsNum a → Ends k → (F → FineNum ns left a) → drop at u ≡ num_text a k
      → ((e : ℕ) → drop e u ≡ k → Passes F u j b (after_num u ns left ended spaced a e)) → Passes F u j b (term_then u ns left turns deep inner all ended spaced at)
  unfolding term_then FineNum
  pass_first (fixed n) left k j b ns turns deep inner all ended spaced at i s f h q =
      pass_skip is_letter (numeral_text n k) at _ h (numeral_first n k i).1 (pass_then _ (pass_num u short (fixed n) left ns k at i s f h) q)
  pass_first (joined o e g) left k j b ns turns deep inner all ended spaced at i s f h q =
      pass_skip is_letter (40 ∷ num_text e (32 ∷ operator_byte o ∷ 32 ∷ num_text g (41 ∷ k))) at _ h refl (pass_then _ (pass_num u short (joined o e g) left ns k at i s f h) q)
  pass_first (index w) left k j b ns turns deep inner all ended spaced at i s f h q =
      pass_first_name k k j b w (index w) ns left turns deep inner all ended spaced at i s.0 h (λ e h. pass_index u short k ns left _ at w e s f h) q
  pass_first (entry1 w e) zero k j b ns turns deep inner all ended spaced at i s f h q =
      let r = num_text e (93 ∷ k) in
      pass_first_name (91 ∷ r) k j b w (entry1 w e) ns 0 turns deep inner all ended spaced at i.0 refl h (λ m h. pass_entry_none u short r ns _ at w m f h) q
  pass_first (entry1 w e) (suc left) k j b ns turns deep inner all ended spaced at i s f h q =
      pass_first_name (91 ∷ num_text e (93 ∷ k)) k j b w (entry1 w e) ns (suc left) turns deep inner all ended spaced at i.0 refl h (λ m h.
      pass_entry1 u short k ns left _ at w e m (λ y. (f y).0) (λ y. (f y).1) (λ m h. pass_inner e left ns (93 ∷ k) m i.1 (refl, refl) (λ y. (f y).2) h) h) q
  pass_first (entry2 w e g) zero k j b ns turns deep inner all ended spaced at i s f h q =
      let r = num_text e (44 ∷ 32 ∷ num_text g (93 ∷ k)) in
      pass_first_name (91 ∷ r) k j b w (entry2 w e g) ns 0 turns deep inner all ended spaced at i.0 refl h (λ m h. pass_entry_none u short r ns _ at w m f h) q
  pass_first (entry2 w e g) (suc left) k j b ns turns deep inner all ended spaced at i s f h q =
      let r = 44 ∷ 32 ∷ num_text g (93 ∷ k) in
      pass_first_name (91 ∷ num_text e r) k j b w (entry2 w e g) ns (suc left) turns deep inner all ended spaced at i.0 refl h (λ m h.
      pass_entry2 u short k ns left _ at w e g m (λ y. (f y).0) (λ m h. pass_inner e left ns r m i.1 (refl, refl) (λ y. (f y).1) h) (λ m h. pass_inner g left ns (93 ∷ k) m i.2 (refl, refl) (λ y. (f y).2) h) h) q

  -- behind the word `sum`, as the sum within passes
  pass_sum_at : (k : List ℕ) (s i : Word) (c : Option Cond) (l : Lin) (ns : Names) (left turns : ℕ) (deep : Bool) (inner : Names → ℕ → ℕ → Got Lin) (start at : ℕ) → IsName s → IsName i → IsFilter c → (F → length u < turns)
      → (F → (eqb left 0 ≡ false) × (deep ≡ false) × FineHeader ns left s i c) → ((m : ℕ) → drop m u ≡ lin_text l (41 ∷ k) → Passes F u (41 ∷ k) l (inner (with_index i ns) (left - 1) m))
      → drop at u ≡ 32 ∷ over_text s i c (40 ∷ lin_text l (41 ∷ k)) → Passes F u k (sum_over s i c l) (sum_at u ns left turns deep inner start at)
  unfolding sum_at
  pass_sum_at k s i c l ns left turns deep inner start at x y z t f p h =
      pass_then _ (pass_header u short c s i ns left turns deep start (40 ∷ lin_text l (41 ∷ k)) at x y z t (λ v. (f v).1) (λ v. (f v).2) h) (λ e h.
      pass_see (λ b. eqb b 40) (40 ∷ lin_text l (41 ∷ k)) e _ h refl
      (pass_range_not (eqb left 0) _ (λ v. (f v).0)
      (pass_then _ (pass_literal u short (lin_text l (41 ∷ k)) (codes "(") e h) (λ e h.
      pass_then _ (p e h) (λ e h.
      pass_then _ (pass_literal u short k (codes ")") e h) (λ e h. pass_ok h))))))

  -- a term that is a sum, as the sum within passes
  pass_sum : {R : Type 0} (k j : List ℕ) (b : R) (s i : Word) (c : Option Cond) (l : Lin) (ns : Names) (left turns : ℕ) (deep : Bool) (inner : Names → ℕ → ℕ → Got Lin) (all : ℕ → Got R) (ended spaced : Term → ℕ → Got R) (at : ℕ)
      → IsName s → IsName i → IsFilter c → (F → length u < turns) → (F → (eqb left 0 ≡ false) × (deep ≡ false) × FineHeader ns left s i c)
      → ((m : ℕ) → drop m u ≡ lin_text l (41 ∷ k) → Passes F u (41 ∷ k) l (inner (with_index i ns) (left - 1) m)) → Goes F u k j b (ended (sum_over s i c l)) (spaced (sum_over s i c l))
      → drop at u ≡ term_text (sum_over s i c l) k → Passes F u j b (term_then u ns left turns deep inner all ended spaced at)
  unfolding term_then
  pass_sum k j b s i c l ns left turns deep inner all ended spaced at x y z t f p g h =
      let r = 32 ∷ over_text s i c (40 ∷ lin_text l (41 ∷ k)) in
      pass_see is_letter (codes "sum" ++ r) at _ h refl
      (pass_then _ (pass_word u short r (codes "sum") at (refl, (refl, (refl, (refl, tt))), omega arith) refl h) (λ e h.
      pass_then _ (pass_sum_at k s i c l ns left turns deep inner at e x y z t f p h) (λ m h. pass_after k j b ended spaced (sum_over s i c l) m g h)))

module _ {F : Type 0} (u : List ℕ) (short : F → length u ≤ 65536) (most : ℕ) (room : F → length u < most) where
  mutual
    unfolding terms FineTerm

    pub pass_term : (t : Term) (nest left : ℕ) {R : Type 0} (k j : List ℕ) (b : R) (ns : Names) (all : ℕ → Got R) (ended spaced : Term → ℕ → Got R) (at : ℕ) → IsTerm t → (F → FineTerm ns left nest t)
        → Goes F u k j b (ended t) (spaced t) → drop at u ≡ term_text t k → Passes F u j b (term_then u ns left most (deep_of nest) (inner_of u most nest) all ended spaced at)
    pass_term (alone e) nest left k j b ns all ended spaced at i f g h =
        pass_first u short e left k j b ns most _ _ all ended spaced at i (goes_ends g) f h (λ m h. pass_alone u short k j b ns left ended spaced e m g h)
    pass_term (times1 e w a) nest zero k j b ns all ended spaced at i f g h =
        let r = num_text a (93 ∷ k) in
        pass_first u short e 0 (32 ∷ (w ++ (91 ∷ r))) j b ns most _ _ all ended spaced at i.0 (refl, refl) (λ y. absurd (f y)) h (λ m h.
        pass_variable u short k j (91 ∷ r) b ns 0 ended spaced e w (times1 e w a) m i.1 refl (λ y. absurd (f y)) (λ n z h. pass_place_none u short r _ n _ _ _ z f h) g h)
    pass_term (times1 e w a) nest (suc left) k j b ns all ended spaced at i f g h =
        let r = num_text a (93 ∷ k) in
        pass_first u short e (suc left) (32 ∷ (w ++ (91 ∷ r))) j b ns most _ _ all ended spaced at i.0 (refl, refl) (λ y. (f y).0) h (λ m h.
        pass_variable u short k j (91 ∷ r) b ns (suc left) ended spaced e w (times1 e w a) m i.1 refl (λ y. (f y).1) (λ n z h.
        pass_place1 u short k (one_place (find w ns)) n left _ (times1 e w) (times2 e w) a z (λ y. (f y).2) (λ m h. pass_inner u short a left ns (93 ∷ k) m i.2 (refl, refl) (λ y. (f y).3) h) h) g h)
    pass_term (times2 e w a d) nest zero k j b ns all ended spaced at i f g h =
        let r = num_text a (44 ∷ 32 ∷ num_text d (93 ∷ k)) in
        pass_first u short e 0 (32 ∷ (w ++ (91 ∷ r))) j b ns most _ _ all ended spaced at i.0 (refl, refl) (λ y. absurd (f y)) h (λ m h.
        pass_variable u short k j (91 ∷ r) b ns 0 ended spaced e w (times2 e w a d) m i.1 refl (λ y. absurd (f y)) (λ n z h. pass_place_none u short r _ n _ _ _ z f h) g h)
    pass_term (times2 e w a d) nest (suc left) k j b ns all ended spaced at i f g h =
        let q = 44 ∷ 32 ∷ num_text d (93 ∷ k) in
        let r = num_text a q in
        pass_first u short e (suc left) (32 ∷ (w ++ (91 ∷ r))) j b ns most _ _ all ended spaced at i.0 (refl, refl) (λ y. (f y).0) h (λ m h.
        pass_variable u short k j (91 ∷ r) b ns (suc left) ended spaced e w (times2 e w a d) m i.1 refl (λ y. (f y).1) (λ n z h.
        pass_place2 u short k (one_place (find w ns)) n left _ (times1 e w) (times2 e w) a d z (λ m h. pass_inner u short a left ns q m i.2 (refl, refl) (λ y. (f y).2) h)
        (λ m h. pass_inner u short d left ns (93 ∷ k) m i.3 (refl, refl) (λ y. (f y).3) h) h) g h)
    pass_term (sum_over s w c l) zero left k j b ns all ended spaced at i f g h =
        pass_sum u short k j b s w c l ns left most _ _ all ended spaced at i.0 i.1 i.2 room (λ y. fine_sum ns left 0 s w c l (f y))
        (λ m h. no_range (λ y. true≢false (fine_sum ns left 0 s w c l (f y)).1)) g h
    pass_term (sum_over s w c l) (suc nest) left k j b ns all ended spaced at i f g h =
        pass_sum u short k j b s w c l ns left most _ _ all ended spaced at i.0 i.1 i.2 room (λ y. fine_sum ns left (suc nest) s w c l (f y))
        (λ m h.
        let z = drop_size u (lin_text l (41 ∷ k)) m h in
        subst (Passes F u (41 ∷ k) l) (sym (lin_is u most nest (with_index w ns) (left - 1) m))
        (pass_terms l Lin most nest (left - 1) (with_index w ns) (41 ∷ k) m i.3 (refl, refl) refl (λ y. fine_within ns left nest s w c l (f y)) (λ y. let n = room y in omega arith) h)) g h

    -- with a turn for each term; R is put to no use, but puts this into the universe of what stands above
    pass_terms : (l : Lin) (R : Type 0) (turns nest left : ℕ) (ns : Names) (k : List ℕ) (at : ℕ) → IsLin l → Ends k → eqb (byte k 0) 32 ≡ false → (F → FineLin ns left nest l) → (F → length (lin_text l k) ≤ turns) → drop at u ≡ lin_text l k
        → Passes F u k l (terms u most (deep_of nest) (inner_of u most nest) ns left turns at)
    pass_terms (one t) R zero nest left ns k at i s z f b h = let p = term_long t k i in no_range (λ y. let n = b y in omega arith)
    pass_terms (more t g l) R zero nest left ns k at i s z f b h = let p = term_long t (32 ∷ sign_byte g ∷ 32 ∷ lin_text l k) i.0 in no_range (λ y. let n = b y in omega arith)
    pass_terms (one t) R (suc turns) nest left ns k at i s z f b h = pass_term t nest left k k (one t) ns _ _ _ at i f (ends s z (λ e h. pass_ok h)) h
    pass_terms (more t g l) R (suc turns) nest left ns k at i s z f b h =
        let r = 32 ∷ lin_text l k in
        let p = term_long t (32 ∷ sign_byte g ∷ r) i.0 in
        pass_term t nest left (32 ∷ sign_byte g ∷ r) k (more t g l) ns _ _ _ at i.0 (λ y. (f y).0) (goes (sign_byte g ∷ r) refl (sign_letter g r) (λ e h.
        pass_then _ (pass_sign u short r g e h) (λ e h.
        pass_then _ (pass_literal u short (lin_text l k) (codes " ") e h) (λ e h.
        pass_then _ (pass_terms l R turns nest left ns k e i.1 s z (λ y. (f y).1) (λ y. let n = b y in omega arith) h) (λ e h. pass_ok h))))) h

  pub pass_lin : (l : Lin) (nest left : ℕ) (ns : Names) (k : List ℕ) (at : ℕ) → IsLin l → Ends k → eqb (byte k 0) 32 ≡ false → (F → FineLin ns left nest l) → drop at u ≡ lin_text l k → Passes F u k l (lin u most nest ns left at)
  pass_lin l nest left ns k at i s z f h =
      let d = drop_size u (lin_text l k) at h in
      subst (Passes F u k l) (sym (lin_is u most nest ns left at)) (pass_terms l Lin most nest left ns k at i s z f (λ y. let n = room y in omega arith) h)
