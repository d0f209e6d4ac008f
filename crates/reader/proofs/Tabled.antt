-- The numbers of a table, one after another. Assumes nothing.
use Rattle.std.proofs.Common.{true, false, ◌≡◌, ℕ, zero, suc, ◌+◌, ◌-◌, ◌*◌, ◌<◌, ◌≤◌, cond, eqb, leb, List, [], ◌∷◌, ◌++◌, map, length, ℤ, OnSome, ◌&&◌, Some, None, codes, Option, sym, refl, ap, ◌∙◌, subst, ap₂, append_assoc, append-nil, add-one, arith, length-append, w64, to_z}
use native.Mathlib.Nat.{one-le-mul, sub-zero}
use Rattle.std.proofs.lemmas.List.{map-append}
use Rattle.std.proofs.lemmas.Bool.{cond-true, cond-false, eq-eqb, ne_eqb, and_from, le-leb}
use Rattle.compose.specs.Agree.{Agree}
use Rattle.compose.specs.Writes.{room}
use Rattle.compose.proofs.Settled.{agree_self, agree_on, agree_part}
use Rattle.grammar.specs.declared.Refusal.{Refusal}
use Rattle.grammar.specs.declared.Refusal.TheVariants.{Syntax, Range}
use Rattle.grammar.specs.Grammar.{Numeral, Line, table_line}
use Rattle.grammar.specs.Reading as reading
use Rattle.grammar.specs.Reading.{Got, ok, bad, then, byte, literal, size, value, numerals}
use Rattle.model.specs.Kept.{listed}
use Rattle.model.specs.Words.{word}
use Rattle.tokens.specs.Told.{Stood}
use Rattle.tokens.proofs.Steps.{then_ok, then_bad}
use Rattle.tokens.specs.declared.Number.{Number}
use Rattle.reader.specs.declared.Shape.{Shape}
use Rattle.reader.specs.declared.TableLine.{TableLine}
use Rattle.reader.specs.Lines.{Ends, NumberRead, ShapeRead, numbers_in, NumbersRead, TableRead}
use Rattle.reader.specs.Numbers.{number_at}
use Rattle.reader.proofs.Parts.{small_part}
use Rattle.reader.proofs.Told.{ends_on, ends_after}

-- NUMBERS in words

listed_same : {A : Type 0} (f g : ℕ → A) (n : ℕ) → ((k : ℕ) → k < n → f k ≡ g k) → listed f n ≡ listed g n
unfolding listed
listed_same f g zero h = refl
listed_same f g (suc n) h = ap₂ (λ xs a. xs ++ (a ∷ [])) (listed_same f g n (λ k l. h k (omega arith))) (h n (omega arith))

listed_front : {A : Type 0} (f : ℕ → A) (n : ℕ) → listed f (suc n) ≡ f 0 ∷ listed (λ i. f (suc i)) n
unfolding listed
listed_front f zero = refl
listed_front f (suc n) = ap (λ xs. xs ++ (f (suc n) ∷ [])) (listed_front f n)

numbers_agree : (ws vs : List ℕ) (free n : ℕ) → Agree 0 (free + n) ws vs → numbers_in vs free n ≡ numbers_in ws free n
numbers_agree ws vs free n a = listed_same _ _ n (λ k l. ap (to_z w64) (sym (a.same (free + k) (omega arith) (omega arith))))

-- one more behind
numbers_push : (ws vs : List ℕ) (free n : ℕ) (z : ℤ) → Agree 0 (free + n) ws vs → to_z w64 (word vs (free + n)) ≡ z → numbers_in vs free (suc n) ≡ numbers_in ws free n ++ (z ∷ [])
unfolding listed
numbers_push ws vs free n z a e = ap₂ (λ xs y. xs ++ (y ∷ [])) (numbers_agree ws vs free n a) e

-- what a write that has room does
pub put_done : {P : Type 0} (r : Option ℕ) (len k : ℕ) → r ≡ cond (true && room len k) (Some (k + 1)) None → 1808 ≤ k → k + 5 ≤ len → OnSome r P → (r ≡ Some (k + 1)) × P
put_done {P = P} r len k e l m h =
    let s : r ≡ Some (k + 1) = e ∙ cond-true (room len k) _ _ (and_from (leb 1808 k) (leb (k + 5) len) (le-leb 1808 k l) (le-leb (k + 5) len m)) in
    (s, subst (λ (o : Option ℕ). OnSome o P) s h)

-- READING one number

module _ (x : List ℕ) (line at : ℕ) where
  pub comma_bad : (left : ℕ) (q : Refusal) → byte x at ≡ 44 → literal x (codes ", ") at ≡ bad q → numerals x line left at ≡ bad q
  unfolding numerals
  comma_bad zero q e h = cond-true (eqb (byte x at) 44) _ _ (eq-eqb (byte x at) 44 e) ∙ then_bad _ h
  comma_bad (suc k) q e h = cond-true (eqb (byte x at) 44) _ _ (eq-eqb (byte x at) 44 e) ∙ then_bad _ h

  pub too_many : (left b : ℕ) → left ≡ 0 → byte x at ≡ 44 → literal x (codes ", ") at ≡ ok tt b → numerals x line left at ≡ bad (Range line)
  unfolding numerals
  too_many left b z e h = ap (λ n. numerals x line n at) z ∙ cond-true (eqb (byte x at) 44) _ _ (eq-eqb (byte x at) 44 e) ∙ then_ok _ h

  next_number : (left k b : ℕ) → left ≡ suc k → byte x at ≡ 44 → literal x (codes ", ") at ≡ ok tt b
      → numerals x line left at ≡ then (number_at x 999999 b) (λ n m. then (numerals x line k m) (λ ns z. ok (n ∷ ns) z))
  unfolding numerals
  next_number left k b z e h = ap (λ n. numerals x line n at) z ∙ cond-true (eqb (byte x at) 44) _ _ (eq-eqb (byte x at) 44 e) ∙ then_ok _ h ∙ small_part x b _

  pub number_bad : (left b : ℕ) (q : Refusal) → (left ≡ 0 → ⊥) → byte x at ≡ 44 → literal x (codes ", ") at ≡ ok tt b → number_at x 999999 b ≡ bad q → numerals x line left at ≡ bad q
  number_bad left b q z e h g = next_number left (left - 1) b (omega arith) e h ∙ then_bad _ g

  all_read : (left : ℕ) → left ≡ 0 → (byte x at ≡ 44 → ⊥) → numerals x line left at ≡ ok [] at
  unfolding numerals
  all_read left z e = ap (λ n. numerals x line n at) z ∙ cond-false (eqb (byte x at) 44) _ _ (ne_eqb (byte x at) 44 e)

  pub no_comma : (left : ℕ) → (left ≡ 0 → ⊥) → (byte x at ≡ 44 → ⊥) → numerals x line left at ≡ bad (cond (eqb (byte x at) 10) (Range line) (Syntax at))
  unfolding numerals
  no_comma left z e =
      let s : left ≡ suc (left - 1) = omega arith in
      ap (λ n. numerals x line n at) s ∙ cond-false (eqb (byte x at) 44) _ _ (ne_eqb (byte x at) 44 e)
      ∙ elim (eqb (byte x at) 10) as (λ b. cond {A = Got (List Numeral)} b (bad (Range line)) (bad (Syntax at)) ≡ bad (cond b (Range line) (Syntax at))) [ true ↦ refl | false ↦ refl ]

-- READING SO FAR

-- numbers that were read before the others
abbrev before : List Numeral → Got (List Numeral) → Got (List Numeral)
before ms o = then o (λ ns z. ok (ms ++ ns) z)

before_none : (o : Got (List Numeral)) → o ≡ before [] o
unfolding then
before_none (ok ns e) = refl
before_none (bad q) = refl

before_push : (ms : List Numeral) (n : Numeral) (o : Got (List Numeral)) → before ms (then o (λ ns z. ok (n ∷ ns) z)) ≡ before (ms ++ (n ∷ [])) o
unfolding then
before_push ms n (ok ns e) = ap (λ k. ok k e) (sym (append_assoc ms (n ∷ []) ns))
before_push ms n (bad q) = refl

-- i numbers were read up to `here`, they stand in vs, and the words below `free` are as in ws
pub record SoFar (x ws : List ℕ) (line free wanted at : ℕ) (vs : List ℕ) (i here : ℕ) : Type 0 where
  pub read : List Numeral
  pub many : length read ≡ i
  pub rest : numerals x line wanted at ≡ before read (numerals x line (wanted - i) here)
  pub numbers : numbers_in vs free i ≡ map value read
  pub ends : Ends x (3 * i) at here
  pub below : Agree 0 free ws vs

pub so_far_none : (x ws : List ℕ) (line free wanted at : ℕ) → at ≤ length x → SoFar x ws line free wanted at ws 0 at
unfolding listed
so_far_none x ws line free wanted at l = record {
  read = [];
  many = refl;
  rest = rw sub-zero (before_none (numerals x line wanted at));
  numbers = refl;
  ends = record { onward = omega arith; inside = l; short = λ m. m };
  below = agree_self 0 free ws;
}

module _ {x ws : List ℕ} {line free wanted at : ℕ} {vs : List ℕ} {i here : ℕ} (s : SoFar x ws line free wanted at vs i here) where
  pub so_far_room : at ≤ 65536 → 3 * free + (65536 - at) + 15 ≤ 3 * length ws → free + i + 5 ≤ length vs
  so_far_room l r = let h = s.ends.short l in omega arith

  pub so_far_bad : (q : Refusal) → numerals x line (wanted - i) here ≡ bad q → numerals x line wanted at ≡ bad q
  so_far_bad q h = s.rest ∙ then_bad _ h

  pub so_far_done : i ≡ wanted → (byte x here ≡ 44 → ⊥) → (ns : List Numeral) × (numerals x line wanted at ≡ ok ns here) × NumbersRead x vs free wanted at ns here
  so_far_done w e = (
    s.read,
    s.rest ∙ then_ok _ (all_read x line here (wanted - i) (omega arith) e) ∙ ap (λ k. ok k here) (append-nil s.read),
    record { numbers = ap (numbers_in vs free) (sym w) ∙ s.numbers; ends = subst (λ (n : ℕ). Ends x (3 * n) at here) w s.ends },
  )

  pub so_far_more : (us : List ℕ) (b : ℕ) (n : Numeral) (q : Number) → byte x here ≡ 44 → i < wanted → literal x (codes ", ") here ≡ ok tt b → Stood x 2 here b → number_at x 999999 b ≡ ok n q.end
      → NumberRead x 999999 b n q → Agree 0 (free + i) vs us → to_z w64 (word us (free + i)) ≡ q.value
      → SoFar x ws line free wanted at us (i + 1) q.end
  so_far_more us b n q e z h t j p a y =
      let d = ends_on x (3 * i) 3 at here q.end s.ends (ends_after x 2 1 here b q.end t p.ends) in
      let l = length-append s.read (n ∷ []) in
      record {
        read = s.read ++ (n ∷ []);
        many = omega (arith, s.many);
        rest = s.rest ∙ ap (before s.read) (next_number x line here (wanted - i) (wanted - (i + 1)) b (omega arith) e h ∙ then_ok _ j) ∙ before_push s.read n (numerals x line (wanted - (i + 1)) q.end);
        numbers = ap (numbers_in us free) (add-one i) ∙ numbers_push vs us free i (value n) a (y ∙ p.value) ∙ ap (λ k. k ++ (value n ∷ [])) s.numbers ∙ sym (map-append value s.read (n ∷ []));
        ends = record { onward = omega arith; inside = d.inside; short = d.short };
        below = agree_on s.below (agree_part 0 free (omega arith) (omega arith) a);
      }

-- A WHOLE TABLE

numbers_front : (ws : List ℕ) (free others n : ℕ) → others ≡ free + 1 → numbers_in ws free (suc n) ≡ to_z w64 (word ws free) ∷ numbers_in ws others n
numbers_front ws free others n e =
    let z : free + 0 ≡ free = omega arith in
    listed_front (λ i. to_z w64 (word ws (free + i))) n
    ∙ ap₂ (λ y ys. y ∷ ys) (ap (λ k. to_z w64 (word ws k)) z) (listed_same _ _ n (λ i l. let y : free + suc i ≡ others + i = omega arith in ap (λ k. to_z w64 (word ws k)) y))

module _ {x : List ℕ} {b : ℕ} {s : reading.Shape} {p : Shape} (h : ShapeRead x b s p) where
  entries : size s.rows * size s.columns ≡ p.rows * p.columns
  entries = ap₂ (λ i j. i * j) (sym h.rows) (sym h.columns)

  pub some_entries : 1 ≤ p.rows * p.columns
  some_entries = one-le-mul h.some.0 h.some.1

  pub others_are : (line at : ℕ) → numerals x line (size s.rows * size s.columns - 1) at ≡ numerals x line (p.rows * p.columns - 1) at
  others_are line at = ap (λ n. numerals x line (n - 1) at) entries

  -- the first number stands in us, and the others in vs
  pub table_made : (at d k e : ℕ) (n : Numeral) (ns : List Numeral) (q : Number) (free others : ℕ) (us vs : List ℕ) → Stood x 6 at b → Stood x 2 p.end d → NumberRead x 999999 d n q
      → others ≡ free + 1 → to_z w64 (word us free) ≡ q.value → Agree 0 others us vs → NumbersRead x vs others (p.rows * p.columns - 1) q.end ns k → Stood x 1 k e
      → TableRead x vs free at (table_line s.name s.rows s.columns n ns) (record { shape = p; next = others + (p.rows * p.columns - 1); end = e })
  table_made at d k e n ns q free others us vs t u i f v a j w =
      let some = some_entries in
      let g = entries in
      let more : size s.rows * size s.columns ≡ suc (p.rows * p.columns - 1) = omega arith in
      let c : to_z w64 (word vs free) ≡ value n = ap (to_z w64) (sym (a.same free (omega arith) (omega arith))) ∙ v ∙ i.value in
      record {
        shape = s;
        first = n;
        others = ns;
        tree = refl;
        shaped = subst (λ (y : ℕ). ShapeRead x y s p) t.0 h;
        numbers = ap (numbers_in vs free) more ∙ numbers_front vs free others (p.rows * p.columns - 1) f ∙ ap₂ (λ y ys. y ∷ ys) c j.numbers;
        next = omega arith;
        ends = record { onward = omega arith; inside = w.1 j.ends.inside; short = λ l. w.2 (j.ends.short (i.ends.short (u.2 (h.ends.short (t.2 l))))) };
      }

-- a table's numbers take fewer words than its line has bytes
pub table_words : {x ws : List ℕ} {free at : ℕ} {l : Line} {p : TableLine} → TableRead x ws free at l p → 3 * p.next + 4 * at ≤ 3 * free + 4 * p.end
table_words t = let e = t.ends in omega arith
