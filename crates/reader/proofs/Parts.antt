-- Lines by the parts that they share. Assumes nothing.
use Rattle.std.proofs.Common.{◌≡◌, ℕ, ◌-◌, ◌*◌, Bool, true, false, cond, leb, List, [], ◌∷◌, codes, refl, ap, ◌∙◌, ap₂}
use lib.Dec.{leb-suc-suc}
use lib.Signed.{le_z}
use Rattle.grammar.specs.declared.Refusal.{Refusal}
use Rattle.grammar.specs.declared.Refusal.TheVariants.{Name, Range}
use Rattle.grammar.specs.Grammar.{Word, Numeral, Line, set_line, table_line, array_line}
use Rattle.grammar.specs.Reading.{Got, ok, bad, then, literal, name, numeral, size, value, within, small, bound_small, Names, free, State, Shape, set_at, shape, array_at, numerals, table_at}
use Rattle.reader.specs.Numbers.{opening_at, number_at, size_at, new_name}

-- ONE PART after another

pub then_same : {A B : Type 0} (o : Got A) (g h : A → ℕ → Got B) → ((a : A) (e : ℕ) → g a e ≡ h a e) → then o g ≡ then o h
unfolding then
then_same (ok a e) g h s = s a e
then_same (bad q) g h s = refl

pub then_then : {A B C : Type 0} (o : Got A) (g : A → ℕ → Got B) (h : B → ℕ → Got C) → then o (λ a e. then (g a e) h) ≡ then (then o g) h
unfolding then
then_then (ok a e) g h = refl
then_then (bad q) g h = refl

tested : {A B : Type 0} (b : Bool) (a : A) (e : ℕ) (q : Refusal) (h : A → ℕ → Got B) → cond b (h a e) (bad q) ≡ then (cond b (ok a e) (bad q)) h
unfolding then
tested true a e q h = refl
tested false a e q h = refl

-- a part and its test are a part
pub then_tested : {A B : Type 0} (o : Got A) (t : A → Bool) (q : Refusal) (h : A → ℕ → Got B)
    → then o (λ a e. cond (t a) (h a e) (bad q)) ≡ then (then o (λ a e. cond (t a) (ok a e) (bad q))) h
then_tested o t q h = then_same o _ _ (λ a e. tested (t a) a e q h) ∙ then_then o (λ a e. cond (t a) (ok a e) (bad q)) h

-- a test that refuses
then_tested_not : {A B : Type 0} (o : Got A) (b : Bool) (q : Refusal) (h : A → ℕ → Got B) → then o (λ a e. cond b (bad q) (h a e)) ≡ then (then o (λ a e. cond b (bad q) (ok a e))) h
unfolding then
then_tested_not (ok a e) true q h = refl
then_tested_not (ok a e) false q h = refl
then_tested_not (bad r) b q h = refl

-- PARTS

module _ {B : Type 0} (x : List ℕ) where
  opening_part : (w : List ℕ) (count most at : ℕ) (h : Unit {0} → ℕ → Got B) → then (literal x w at) (λ u b. cond (leb most count) (bad (Range at)) (h u b)) ≡ then (opening_at x w count most at) h
  unfolding opening_at
  opening_part w count most at h = then_tested_not (literal x w at) (leb most count) (Range at) h

  name_part : (ns : Names) (at : ℕ) (h : Word → ℕ → Got B) → then (name x at) (λ w e. cond (free w ns) (h w e) (bad (Name at))) ≡ then (new_name x ns at) h
  unfolding new_name
  name_part ns at h = then_tested (name x at) (λ w. free w ns) (Name at) h

  size_part : (least line at : ℕ) (h : Numeral → ℕ → Got B)
      → then (literal x (codes " ") at) (λ _ b. then (numeral x b) (λ n e. cond (within least 1000 n) (h n e) (bad (Range line)))) ≡ then (size_at x least line at) h
  unfolding size_at
  size_part least line at h =
      then_same (literal x (codes " ") at) _ _ (λ _ b. then_tested (numeral x b) (within least 1000) (Range line) h)
      ∙ then_then (literal x (codes " ") at) (λ _ b. then (numeral x b) (λ n e. cond (within least 1000 n) (ok n e) (bad (Range line)))) h

  bound_part : (at : ℕ) (h : Numeral → ℕ → Got B) → then (numeral x at) (λ n e. cond (bound_small n) (h n e) (bad (Range at))) ≡ then (number_at x 1000000 at) h
  unfolding number_at
  bound_part at h = then_tested (numeral x at) bound_small (Range at) h

  pub small_part : (at : ℕ) (h : Numeral → ℕ → Got B) → then (numeral x at) (λ n e. cond (small n) (h n e) (bad (Range at))) ≡ then (number_at x 999999 at) h
  unfolding number_at
  small_part at h =
      then_same (numeral x at) _ _ (λ n e. ap (λ (b : Bool). cond b (h n e) (bad (Range at))) (leb-suc-suc (size n) 999999)) ∙ then_tested (numeral x at) (λ n. leb (size n) 999999) (Range at) h

-- LINES

abbrev pub set_parts : List ℕ → Names → ℕ → ℕ → Got Line
set_parts x ns sets at =
    then (opening_at x (codes "set ") sets 16 at) (λ _ b.
    then (new_name x ns b) (λ w m. then (size_at x 0 at m) (λ n m. then (literal x (10 ∷ []) m) (λ _ z. ok (set_line w n) z))))

pub set_is : (x : List ℕ) (st : State) (at : ℕ) (ns : Names) (sets : ℕ) → st.names ≡ ns → st.sets ≡ sets → set_at x st at ≡ set_parts x ns sets at
unfolding set_at
set_is x st at ns sets e f =
    opening_part x (codes "set ") st.sets 16 at _
    ∙ then_same (opening_at x (codes "set ") st.sets 16 at) _ _ (λ _ b.
    name_part x st.names b (λ w m. then (literal x (codes " ") m) (λ _ m. then (numeral x m) (λ n m. cond (within 0 1000 n) (then (literal x (10 ∷ []) m) (λ _ z. ok (set_line w n) z)) (bad (Range at)))))
    ∙ then_same (new_name x st.names b) _ _ (λ w m. size_part x 0 at m (λ n m. then (literal x (10 ∷ []) m) (λ _ z. ok (set_line w n) z))))
    ∙ ap₂ (λ ns sets. set_parts x ns sets at) e f

abbrev pub shape_parts : List ℕ → Names → ℕ → ℕ → Got Shape
shape_parts x ns line at =
    then (new_name x ns at) (λ w m. then (size_at x 1 line m) (λ r m. then (size_at x 1 line m) (λ c z. ok (record { name = w; rows = r; columns = c }) z)))

pub shape_is : (x : List ℕ) (ns : Names) (line at : ℕ) → shape x ns line at ≡ shape_parts x ns line at
unfolding shape
shape_is x ns line at =
    name_part x ns at _
    ∙ then_same (new_name x ns at) _ _ (λ w m. size_part x 1 line m _ ∙ then_same (size_at x 1 line m) _ _ (λ r m. size_part x 1 line m (λ c z. ok (record { name = w; rows = r; columns = c }) z)))

abbrev pub array_parts : List ℕ → Names → ℕ → ℕ → Got Line
array_parts x ns arrays at =
    then (opening_at x (codes "unknown ") arrays 16 at) (λ _ b.
    then (shape x ns at b) (λ s m.
    then (literal x (codes " from ") m) (λ _ d.
    then (number_at x 1000000 d) (λ l m.
    then (literal x (codes " to ") m) (λ _ g.
    then (number_at x 1000000 g) (λ h m.
    cond (le_z (value l) (value h)) (then (literal x (10 ∷ []) m) (λ _ z. ok (array_line s.name s.rows s.columns l h) z)) (bad (Range d))))))))

pub array_is : (x : List ℕ) (st : State) (at : ℕ) (ns : Names) (arrays : ℕ) → st.names ≡ ns → st.arrays ≡ arrays → array_at x st at ≡ array_parts x ns arrays at
unfolding array_at
array_is x st at ns arrays e f =
    opening_part x (codes "unknown ") st.arrays 16 at _
    ∙ then_same (opening_at x (codes "unknown ") st.arrays 16 at) _ _ (λ _ b.
    then_same (shape x st.names at b) _ _ (λ s m.
    then_same (literal x (codes " from ") m) _ _ (λ _ d.
    bound_part x d _
    ∙ then_same (number_at x 1000000 d) _ _ (λ l m.
    then_same (literal x (codes " to ") m) _ _ (λ _ g.
    bound_part x g (λ h m. cond (le_z (value l) (value h)) (then (literal x (10 ∷ []) m) (λ _ z. ok (array_line s.name s.rows s.columns l h) z)) (bad (Range d))))))))
    ∙ ap₂ (λ ns arrays. array_parts x ns arrays at) e f

abbrev pub table_parts : List ℕ → Names → ℕ → ℕ → Got Line
table_parts x ns tables at =
    then (opening_at x (codes "table ") tables 16 at) (λ _ b.
    then (shape x ns at b) (λ s m.
    then (literal x (codes ": ") m) (λ _ d.
    then (number_at x 999999 d) (λ n m.
    then (numerals x at (size s.rows * size s.columns - 1) m) (λ ns m. then (literal x (10 ∷ []) m) (λ _ z. ok (table_line s.name s.rows s.columns n ns) z))))))

pub table_is : (x : List ℕ) (st : State) (at : ℕ) (ns : Names) (tables : ℕ) → st.names ≡ ns → st.tables ≡ tables → table_at x st at ≡ table_parts x ns tables at
unfolding table_at
table_is x st at ns tables e f =
    opening_part x (codes "table ") st.tables 16 at _
    ∙ then_same (opening_at x (codes "table ") st.tables 16 at) _ _ (λ _ b.
    then_same (shape x st.names at b) _ _ (λ s m. then_same (literal x (codes ": ") m) _ _ (λ _ d. small_part x d _)))
    ∙ ap₂ (λ ns tables. table_parts x ns tables at) e f
