-- Ways of reading a number, by what stands at its place. Assumes nothing.
use Rattle.std.proofs.Common.{◌≡◌, ℕ, zero, suc, ◌-◌, Bool, true, false, cond, not, ◌&&◌, eqb, List, [], ◌∷◌, Some, Option, codes, sym, refl, ap, ◌∙◌, arith}
use Rattle.std.proofs.lemmas.Bool.{cond-true, cond-false, eq-eqb, ne_eqb, eqb-true, both_ways}
use Rattle.grammar.specs.declared.Refusal.TheVariants.{Syntax, Name, Range}
use Rattle.grammar.specs.Grammar.{is_letter, Word, Num, index, entry1, entry2}
use Rattle.grammar.specs.Reading.{Got, ok, bad, then, byte, literal, name, Names, Sort, find, a_table, an_index, table_there, index_there, one_place, fixed_at, named, num, any_num, pair, place}
use Rattle.scope.specs.declared.Grid.{Grid}
use Rattle.expressions.specs.Places.{Place, one_of, two_of, enough, place_at, second_at}

-- READING ON

pub then_then : {A B C : Type 0} (o : Got A) (f : A → ℕ → Got B) (g : B → ℕ → Got C) → then (then o f) g ≡ then o (λ a e. then (f a e) g)
unfolding then
then_then (ok a e) f g = refl
then_then (bad q) f g = refl

pub then_same : {A B : Type 0} (o : Got A) (f g : A → ℕ → Got B) → ((a : A) (e : ℕ) → f a e ≡ g a e) → then o f ≡ then o g
unfolding then
then_same (ok a e) f g h = h a e
then_same (bad q) f g h = refl

pub then_cond : {A B : Type 0} (b : Bool) (o p : Got A) (g : A → ℕ → Got B) → then (cond b o p) g ≡ cond b (then o g) (then p g)
then_cond true o p g = refl
then_cond false o p g = refl

pub cond_same : {A : Type 0} (b : Bool) {o p q r : A} → o ≡ q → p ≡ r → cond b o p ≡ cond b q r
cond_same true e f = e
cond_same false e f = f

-- BYTES that were tested

pub is_byte : (b n : ℕ) → true ≡ eqb b n → b ≡ n
is_byte b n e = eqb-true b n (sym e)

pub no_byte : (b n : ℕ) → false ≡ eqb b n → b ≡ n → ⊥
no_byte b n e f = both_ways (eqb b n) (sym e) (eq-eqb b n f)

-- NUMBERS

pub num_pair : (x : List ℕ) (ns : Names) (left at : ℕ) → byte x at ≡ 40 → num x ns left at ≡ pair x left (num x ns (left - 1)) at
unfolding num any_num pair
num_pair x ns zero at e = cond-true (eqb (byte x at) 40) _ _ (eq-eqb (byte x at) 40 e)
num_pair x ns (suc left) at e = let z : left ≡ suc left - 1 = omega arith in cond-true (eqb (byte x at) 40) _ _ (eq-eqb (byte x at) 40 e) ∙ ap (λ n. pair x (suc left) (num x ns n) at) z

pub num_fixed : (x : List ℕ) (ns : Names) (left at : ℕ) → (byte x at ≡ 40 → ⊥) → is_letter (byte x at) ≡ false → num x ns left at ≡ fixed_at x at
unfolding num any_num
num_fixed x ns zero at n e = cond-false (eqb (byte x at) 40) _ _ (ne_eqb (byte x at) 40 n) ∙ cond-false (is_letter (byte x at)) _ _ e
num_fixed x ns (suc left) at n e = cond-false (eqb (byte x at) 40) _ _ (ne_eqb (byte x at) 40 n) ∙ cond-false (is_letter (byte x at)) _ _ e

pub num_named : (x : List ℕ) (ns : Names) (left at : ℕ) → (byte x at ≡ 40 → ⊥) → is_letter (byte x at) ≡ true → num x ns left at ≡ then (name x at) (λ w e. named x ns left (num x ns (left - 1)) at w e)
unfolding num any_num named place
num_named x ns zero at n e = cond-false (eqb (byte x at) 40) _ _ (ne_eqb (byte x at) 40 n) ∙ cond-true (is_letter (byte x at)) _ _ e
num_named x ns (suc left) at n e =
    let z : left ≡ suc left - 1 = omega arith in
    cond-false (eqb (byte x at) 40) _ _ (ne_eqb (byte x at) 40 n) ∙ cond-true (is_letter (byte x at)) _ _ e ∙ ap (λ m. then (name x at) (λ w e. named x ns (suc left) (num x ns m) at w e)) z

-- PLACES

abbrev pub placed : {A : Type 0} → (Num → A) → (Num → Num → A) → Place → A
placed k1 k2 (one_of e) = k1 e
placed k1 k2 (two_of e f) = k2 e f

-- behind the first number in square brackets
unfoldable pub after_first : List ℕ → Bool → ℕ → (ℕ → Got Num) → Num → ℕ → Got Place
after_first x enough start inner f m =
    cond (eqb (byte x m) 44)
    (then (literal x (codes ", ") m) (λ _ m. then (inner m) (λ g m. then (literal x (93 ∷ []) m) (λ _ z. ok (two_of f g) z))))
    (cond (eqb (byte x m) 93 && not enough) (bad (Name start)) (then (literal x (93 ∷ []) m) (λ _ z. ok (one_of f) z)))

module _ (x : List ℕ) (enough : Bool) (start left : ℕ) (inner : ℕ → Got Num) (at : ℕ) where
  pub place_none : (byte x at ≡ 91 → ⊥) → place x enough start left inner one_of two_of at ≡ bad (Syntax at)
  unfolding place
  place_none n = cond-false (eqb (byte x at) 91) _ _ (ne_eqb (byte x at) 91 n)

  pub place_deep : byte x at ≡ 91 → left ≡ 0 → place x enough start left inner one_of two_of at ≡ bad (Range at)
  unfolding place
  place_deep e z = cond-true (eqb (byte x at) 91) _ _ (eq-eqb (byte x at) 91 e) ∙ cond-true (eqb left 0) _ _ (eq-eqb left 0 z)

  pub place_open : byte x at ≡ 91 → (left ≡ 0 → ⊥) → place x enough start left inner one_of two_of at ≡ then (literal x (91 ∷ []) at) (λ _ e. then (inner e) (λ f m. after_first x enough start inner f m))
  unfolding place after_first
  place_open e n = cond-true (eqb (byte x at) 91) _ _ (eq-eqb (byte x at) 91 e) ∙ cond-false (eqb left 0) _ _ (ne_eqb left 0 n)

  -- whatever is made of the places
  pub place_as : {A : Type 0} (k1 : Num → A) (k2 : Num → Num → A) → place x enough start left inner k1 k2 at ≡ then (place x enough start left inner one_of two_of at) (λ p e. ok (placed k1 k2 p) e)
  unfolding place then
  place_as k1 k2 =
      cond_same (eqb (byte x at) 91)
      (cond_same (eqb left 0) refl
      (then_same (literal x (91 ∷ []) at) _ _ (λ _ e.
      then_same (inner e) _ _ (λ f m.
      cond_same (eqb (byte x m) 44)
      (then_same (literal x (codes ", ") m) _ _ (λ _ m. then_same (inner m) _ _ (λ g m. sym (then_then (literal x (93 ∷ []) m) _ _)) ∙ sym (then_then (inner m) _ _)) ∙ sym (then_then (literal x (codes ", ") m) _ _))
      (cond_same (eqb (byte x m) 93 && not enough) refl (sym (then_then (literal x (93 ∷ []) m) _ _)) ∙ sym (then_cond (eqb (byte x m) 93 && not enough) _ _ _))
      ∙ sym (then_cond (eqb (byte x m) 44) _ _ _))
      ∙ sym (then_then (inner e) _ _))
      ∙ sym (then_then (literal x (91 ∷ []) at) _ _))
      ∙ sym (then_cond (eqb left 0) _ _ _))
      refl
      ∙ sym (then_cond (eqb (byte x at) 91) _ _ _)

module _ (x : List ℕ) (enough : Bool) (start : ℕ) (inner : ℕ → Got Num) (f : Num) (m : ℕ) where
  pub after_comma : byte x m ≡ 44 → after_first x enough start inner f m ≡ then (second_at x inner m) (λ g z. ok (two_of f g) z)
  unfolding after_first second_at then
  after_comma e =
      cond-true (eqb (byte x m) 44) _ _ (eq-eqb (byte x m) 44 e)
      ∙ then_same (literal x (codes ", ") m) _ _ (λ _ m. then_same (inner m) _ _ (λ g m. sym (then_then (literal x (93 ∷ []) m) _ _)) ∙ sym (then_then (inner m) _ _))
      ∙ sym (then_then (literal x (codes ", ") m) _ _)

  pub after_wrong : (byte x m ≡ 44 → ⊥) → (eqb (byte x m) 93 && not enough) ≡ true → after_first x enough start inner f m ≡ bad (Name start)
  unfolding after_first
  after_wrong n e = cond-false (eqb (byte x m) 44) _ _ (ne_eqb (byte x m) 44 n) ∙ cond-true (eqb (byte x m) 93 && not enough) _ _ e

  pub after_one : (byte x m ≡ 44 → ⊥) → (eqb (byte x m) 93 && not enough) ≡ false → after_first x enough start inner f m ≡ then (literal x (93 ∷ []) m) (λ _ z. ok (one_of f) z)
  unfolding after_first
  after_one n e = cond-false (eqb (byte x m) 44) _ _ (ne_eqb (byte x m) 44 n) ∙ cond-false (eqb (byte x m) 93 && not enough) _ _ e

-- NAMES

module _ (x : List ℕ) (ns : Names) (left : ℕ) (inner : ℕ → Got Num) (start : ℕ) (w : Word) (e : ℕ) where
  pub named_no_index : (o : Option Sort) → (byte x e ≡ 91 → ⊥) → o ≡ find w ns → index_there o ≡ false → named x ns left inner start w e ≡ bad (Name start)
  unfolding named
  named_no_index o n f i = cond-false (eqb (byte x e) 91) _ _ (ne_eqb (byte x e) 91 n) ∙ cond-false (index_there (find w ns)) _ _ (ap index_there (sym f) ∙ i)

  pub named_index : (l : ℕ) → (byte x e ≡ 91 → ⊥) → find w ns ≡ Some (an_index l) → named x ns left inner start w e ≡ ok (index w) e
  unfolding named
  named_index l n i = cond-false (eqb (byte x e) 91) _ _ (ne_eqb (byte x e) 91 n) ∙ cond-true (index_there (find w ns)) _ _ (ap index_there i)

  pub named_no_table : (o : Option Sort) → byte x e ≡ 91 → o ≡ find w ns → table_there o ≡ false → named x ns left inner start w e ≡ bad (Name start)
  unfolding named
  named_no_table o b f i = cond-true (eqb (byte x e) 91) _ _ (eq-eqb (byte x e) 91 b) ∙ cond-false (table_there (find w ns)) _ _ (ap table_there (sym f) ∙ i)

  pub named_table : (g : Grid) → byte x e ≡ 91 → find w ns ≡ Some (a_table g.number g.rows g.columns)
      → named x ns left inner start w e ≡ then (place_at x g start left inner e) (λ p z. ok (placed (entry1 w) (entry2 w) p) z)
  unfolding named
  named_table g b i =
      cond-true (eqb (byte x e) 91) _ _ (eq-eqb (byte x e) 91 b)
      ∙ cond-true (table_there (find w ns)) _ _ (ap table_there i)
      ∙ ap (λ o. place x (one_place o) start left inner (entry1 w) (entry2 w) e) i
      ∙ place_as x (enough g) start left inner e (entry1 w) (entry2 w)
