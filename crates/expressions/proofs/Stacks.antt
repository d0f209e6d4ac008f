-- Terms that wait. Assumes nothing.
use denote.Enum.Declared.{tag_of}
use Rattle.model.specs.contracts.Sign.{the_type}
use Rattle.model.specs.declared.Sign.{Sign}
use Rattle.model.specs.declared.Sign.TheVariants.{Positive, Negative}
use Rattle.std.proofs.Common.{◌≡◌, ℕ, ◌+◌, ◌-◌, ◌*◌, ◌%◌, ◌<◌, ◌≤◌, List, [], ◌∷◌, ◌++◌, length, set, take, sym, refl, ap, ◌∙◌, subst, arith, length-set}
use Rattle.std.proofs.lemmas.List.{length-append, length-take-le, get_or-set_same, get_or-set_other, get_or-append-add, get_or_append_left, get_or-take}
use Rattle.std.proofs.lemmas.Slice.{take-put_mid_below}
use borrow.Rule.Slice.PartMut.{put_mid}
use Rattle.model.specs.Model as model
use Rattle.model.specs.Words.{word}
use Rattle.model.specs.Kept.{LinIn}
use Rattle.compose.specs.Agree.{Agree, Settled}
use Rattle.compose.proofs.Settled.{agree_self}
use Rattle.expressions.specs.Made.{Zero}
use Rattle.expressions.specs.Sums.{Item, sign_word, Stacked, chained}
use Rattle.expressions.proofs.NumberTrees.{settled_on, zero_on, agree_back}

-- a sign as a word is its number
abbrev pub sign_tag : Sign → ℕ
sign_tag g = tag_of the_type g + 12

pub sign_is : (g : Sign) → sign_tag g ≡ sign_word g
sign_is Positive = refl
sign_is Negative = refl

-- two words for each
pub stacked_even : (ps : List ℕ) (n : ℕ) (ws : List ℕ) (is : List Item) (d : ℕ) → Stacked ps n ws is d → d ≡ 2 * length is
unfolding Stacked
stacked_even ps n ws [] d e = omega arith
stacked_even ps n ws (i ∷ is) d (e, f, g, h, j, t, s) = let l = stacked_even ps n ws is e s in omega arith

-- words that are still to be gone through, which are the first of some
abbrev pub First : List ℕ → List ℕ → Type 0
First ps rest = (i : ℕ) → i < length rest → word rest i ≡ word ps i

-- all of them, where they come in twos
pub first_all : (ps over rest : List ℕ) (m : ℕ) → length ps ≡ 2 * m → ps ≡ over ++ rest → length over ≡ length ps % 2 → (length rest ≡ length ps) × First ps rest
first_all ps over rest m l e z =
    let y : length over ≡ 0 = omega arith in
    let x = ap length e ∙ length-append over rest in (
      omega arith,
      λ i h. sym (get_or-append-add over rest i 0) ∙ ap (λ k. word (over ++ rest) k) (omega arith) ∙ ap (λ l. word l i) (sym e),
    )

-- the newest of some that wait
pub record Top (ps : List ℕ) (n : ℕ) (ws : List ℕ) (js : List Item) (front two : List ℕ) : Type 0 where
  pub item : Item
  pub others : List Item
  pub all : js ≡ item ∷ others
  pub sign : word two 0 ≡ sign_word item.sign
  pub place : (1808 ≤ word two 1) × (word two 1 < n)
  pub tree : Zero ws → Settled 1808 n ws (λ vs. LinIn vs (word two 1) item.term)
  pub rest : Stacked ps n ws others (length front)

module _ (ps rest front two : List ℕ) (e : rest ≡ front ++ two) (l : length two ≡ 2) (w : First ps rest) where
  pub long_by_two : length rest ≡ length front + 2
  long_by_two = ap length e ∙ length-append front two ∙ ap (λ k. length front + k) l

  word_of_two : (i : ℕ) → i < 2 → word two i ≡ word ps (length front + i)
  word_of_two i h = let m = long_by_two in sym (get_or-append-add front two i 0) ∙ ap (λ l. word l (length front + i)) (sym e) ∙ w (length front + i) (omega arith)

  pub first_front : First ps front
  first_front i h = let m = long_by_two in sym (get_or_append_left front two 0 i h) ∙ ap (λ l. word l i) (sym e) ∙ w i (omega arith)

  pub top_of : (n : ℕ) (ws : List ℕ) (js : List Item) → Stacked ps n ws js (length rest) → Top ps n ws js front two
  unfolding Stacked
  top_of n ws [] s = let m = long_by_two in absurd (omega arith)
  top_of n ws (i ∷ is) (d, f, g, h, j, t, s) =
      let m = long_by_two in
      let z : d ≡ length front = omega arith in
      let p : word ps d ≡ word two 0 = ap (λ y. word ps y) (omega arith) ∙ sym (word_of_two 0 (omega arith)) in
      let q : word ps (d + 1) ≡ word two 1 = ap (λ y. word ps y) (omega arith) ∙ sym (word_of_two 1 (omega arith)) in
      record {
        item = i;
        others = is;
        all = refl;
        sign = sym p ∙ g;
        place = (omega arith, omega arith);
        tree = λ o. subst (λ y. Settled 1808 n ws (λ vs. LinIn vs y i.term)) q (t o);
        rest = subst (Stacked ps n ws is) z s;
      }

pub none_left : (ps : List ℕ) (n : ℕ) (ws : List ℕ) (js : List Item) (d : ℕ) → Stacked ps n ws js d → d < 2 → (a : model.Lin) → chained js a ≡ a
unfolding Stacked chained
none_left ps n ws [] d s l a = refl
none_left ps n ws (i ∷ is) d (e, f, g, h, j, t, s) l a = absurd (omega arith)

pub chained_top : (js is : List Item) (i : Item) (a : model.Lin) → js ≡ i ∷ is → chained js a ≡ chained is (model.chain i.sign i.term a)
unfolding chained
chained_top js is i a e = ap (λ ks. chained ks a) e

-- words that are written behind, and other words that wait above, leave them as they are
pub stacked_on : (ps qs : List ℕ) (n m : ℕ) (us ws : List ℕ) (is : List Item) (d : ℕ) → 1810 ≤ n → n ≤ m → Agree 0 n us ws → ((p : ℕ) → p < d → word ps p ≡ word qs p) → Stacked ps n us is d → Stacked qs m ws is d
unfolding Stacked
stacked_on ps qs n m us ws [] d r l s t e = e
stacked_on ps qs n m us ws (i ∷ is) d r l s t (e, f, g, h, j, y, z) =
    let a = t e (omega arith) in
    let b = t (e + 1) (omega arith) in (
      e,
      f,
      sym a ∙ g,
      omega arith,
      omega arith,
      subst (λ p. Zero ws → Settled 1808 m ws (λ vs. LinIn vs p i.term)) b (λ o. settled_on n m us ws _ s l (y (zero_on n ws us r (agree_back s) o))),
      stacked_on ps qs n m us ws is e r l s (λ p v. t p (omega arith)) z,
    )

-- words that were lent above them
pub lent_above : (top : ℕ) (ps ys : List ℕ) → top ≤ length ps → (p : ℕ) → p < top → word ps p ≡ word (put_mid top (length ps - top) ps ys) p
lent_above top ps ys l p h = sym (get_or-take top ps p 0 h) ∙ ap (λ k. word k p) (sym (take-put_mid_below top (length ps - top) ps ys top (omega arith) l)) ∙ get_or-take top (put_mid top (length ps - top) ps ys) p 0 h

-- the words that wait, and no others
pub stacked_take : (ps : List ℕ) (n : ℕ) (ws : List ℕ) (is : List Item) (d : ℕ) → 1810 ≤ n → d ≤ length ps → Stacked ps n ws is d → Stacked (take d ps) n ws is (length (take d ps))
stacked_take ps n ws is d r l s =
    subst (Stacked (take d ps) n ws is) (sym (length-take-le d ps l)) (stacked_on ps (take d ps) n n ws ws is d r (omega arith) (agree_self 0 n ws) (λ p h. sym (get_or-take d ps p 0 h)) s)

pub stacked_none : (ps : List ℕ) (n : ℕ) (ws : List ℕ) → Stacked ps n ws [] 0
unfolding Stacked
stacked_none ps n ws = refl

-- PUSHING: two words above d

module _ (qs : List ℕ) (d a b : ℕ) (l : d + 2 ≤ length qs) where
  abbrev pushed : List ℕ
  pushed = set (set qs d a) (d + 1) b

  push_below : (p : ℕ) → p < d → word qs p ≡ word pushed p
  push_below p h = sym (get_or-set_other (set qs d a) (d + 1) p b 0 (λ z. omega arith) ∙ get_or-set_other qs d p a 0 (λ z. omega arith))

  push_first : word pushed d ≡ a
  push_first = get_or-set_other (set qs d a) (d + 1) d b 0 (λ z. omega arith) ∙ get_or-set_same qs d a 0 (omega arith)

  push_second : word pushed (d + 1) ≡ b
  push_second = get_or-set_same (set qs d a) (d + 1) b 0 (let h = length-set qs d a in omega arith)

  -- a term more waits
  pub stacked_push : (n : ℕ) (ws : List ℕ) (is : List Item) (i : Item) → 1810 ≤ n → a ≡ sign_word i.sign → 1808 ≤ b → b < n → (Zero ws → Settled 1808 n ws (λ vs. LinIn vs b i.term)) → Stacked qs n ws is d → Stacked pushed n ws (i ∷ is) (d + 2)
  unfolding Stacked
  stacked_push n ws is i r e g h t s =
      let y = push_second in
      (d, refl, push_first ∙ e, omega arith, omega arith, subst (λ k. Zero ws → Settled 1808 n ws (λ vs. LinIn vs k i.term)) (sym y) t, stacked_on qs pushed n n ws ws is d r (omega arith) (agree_self 0 n ws) push_below s)
