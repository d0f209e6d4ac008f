-- Numbers that were read and written. Assumes nothing.
use Rattle.std.proofs.Common.{◌≡◌, ℕ, nat_abs, ap, ◌+◌, ◌*◌, ◌<◌, ◌≤◌, Bool, true, false, cond, eqb, List, length, Some, sym, refl, ◌∙◌, subst, arith}
use Rattle.model.specs.Model as model
use Rattle.model.specs.Kept.{NumIn}
use Rattle.compose.specs.Agree.{Agree, Settled}
use Rattle.compose.proofs.Settled.{agree_on, agree_part}
use Rattle.model.specs.declared.Operator.{Operator}
use Rattle.compose.specs.declared.Name.{Name}
use Rattle.grammar.specs.Grammar.{Word, Numeral, Num, fixed, index, entry1, entry2, joined}
use Rattle.grammar.specs.Reading.{Names, find, a_table, an_index, size, value}
use Rattle.grammar.specs.Says.{num_of, naught, number_of, row_place, column_place}
use Rattle.scope.specs.declared.Grid.{Grid}
use Rattle.tokens.specs.declared.Number.{Number}
use Rattle.tokens.specs.Sizes.{Counts, told_value}
use Rattle.tokens.proofs.Counted.{told_size, number_told}
use Rattle.expressions.specs.declared.Node.{Node}
use Rattle.expressions.specs.declared.Places.{Places}
use Rattle.expressions.specs.Made.{Zero, Made, NumMade}
use Rattle.expressions.specs.Places.{Place, one_of, two_of, only_place, row_of, column_of, PlacesMade}
use Rattle.expressions.proofs.Ways.{placed as of_places}

-- WHAT STAYS

-- what is settled before a place stays so while words from there on are written
pub settled_on : (n m : ℕ) (us ws : List ℕ) (P : List ℕ → Type 0) → Agree 0 n us ws → n ≤ m → Settled 1808 n us P → Settled 1808 m ws P
settled_on n m us ws P s l p vs t = p vs (agree_on (agree_part 1808 n (omega arith) (omega arith) s) (agree_part 1808 n (omega arith) l t))

pub zero_on : (n : ℕ) (us ws : List ℕ) → 1810 ≤ n → Agree 0 n us ws → Zero us → Zero ws
zero_on n us ws l s z vs t = z vs (agree_on (agree_part 1808 1810 (omega arith) l s) t)

pub zero_there : (n m : ℕ) (us ws : List ℕ) → 1810 ≤ n → n ≤ m → Agree 0 n us ws → Zero us → Settled 1808 m ws (λ vs. NumIn vs 1808 naught)
zero_there n m us ws l h s z vs t = zero_on n us ws l s z vs (agree_part 1808 1810 (omega arith) (omega arith) t)

pub agree_more : (m n : ℕ) (us vs ws : List ℕ) → m ≤ n → Agree 0 m us vs → Agree 0 n vs ws → Agree 0 m us ws
agree_more m n us vs ws l s t = agree_on s (agree_part 0 m (omega arith) l t)

pub agree_back : {m n : ℕ} {us ws : List ℕ} → Agree m n us ws → Agree m n ws us
agree_back s = record { long = sym s.long; same = λ p a b. sym (s.same p a b) }

-- counted from other words that have 0 too
pub made_from : {x : List ℕ} {at free c : ℕ} {us vs ws : List ℕ} {T : List ℕ → ℕ → Type 0} {p : Node} → (Zero vs → Zero us) → Made x at free c us ws T p → Made x at free c vs ws T p
made_from f m = record { onward = m.onward; inside = m.inside; short = m.short; words = m.words; forward = m.forward; placed = m.placed; tree = λ z. m.tree (f z) }

-- NUMBERS

pub small_told : (n : Numeral) (p : Number) → p.value ≡ told_value n → nat_abs p.value < 1000000 → size n < 1000000
small_told n p v l = let m = ap nat_abs v ∙ told_size n in omega arith

pub fixed_made : (x us ws : List ℕ) (at free next : ℕ) (n : Numeral) (p : Number) (ns : Names) → Counts x at n p → at ≤ 65536 → 1810 ≤ free → nat_abs p.value < 1000000 → next ≡ free + 2
    → Settled 1808 (free + 2) ws (λ vs. NumIn vs free (model.fixed p.value)) → NumMade x ns at free us ws (fixed n) (record { place = free; next = next; end = p.end })
unfolding num_of
fixed_made x us ws at free next n p ns (a, b, v, d) l r z f t =
    record {
      onward = a;
      inside = b;
      short = d l;
      words = omega arith;
      forward = omega arith;
      placed = (omega arith, omega arith);
      tree = λ _. subst (λ k. Settled 1808 k ws (λ vs. NumIn vs free (model.fixed (value n)))) (sym f)
          (subst (λ y. Settled 1808 (free + 2) ws (λ vs. NumIn vs free (model.fixed y))) (number_told n p v (omega arith)) t);
    }

pub index_made : (x us ws : List ℕ) (n : Name) (free next level : ℕ) (ns : Names) (w : Word) → n.begin < n.end → n.end ≤ length x → n.end ≤ 65536 → 1810 ≤ free → find w ns ≡ Some (an_index level) → next ≡ free + 2
    → Settled 1808 (free + 2) ws (λ vs. NumIn vs free (model.index level)) → NumMade x ns n.begin free us ws (index w) (record { place = free; next = next; end = n.end })
unfolding num_of
index_made x us ws n free next level ns w a b d r e f t = record {
  onward = a;
  inside = b;
  short = d;
  words = omega arith;
  forward = omega arith;
  placed = (omega arith, omega arith);
  tree = λ _. subst (λ k. Settled 1808 k ws (λ vs. NumIn vs free (model.index (number_of (find w ns))))) (sym f)
      (subst (λ o. Settled 1808 (free + 2) ws (λ vs. NumIn vs free (model.index (number_of o)))) (sym e) t);
}

-- an entry of a table, by its places
entry_tree : (ws : List ℕ) (k m : ℕ) (ns : Names) (w : Word) (g : Grid) (l : Place) → find w ns ≡ Some (a_table g.number g.rows g.columns)
    → Settled 1808 m ws (λ vs. NumIn vs k (model.entry g.number (row_of ns g l) (column_of ns g l))) → Settled 1808 m ws (λ vs. NumIn vs k (num_of ns (of_places (entry1 w) (entry2 w) l)))
unfolding num_of
entry_tree ws k m ns w g (one_of e) f t = subst (λ o. Settled 1808 m ws (λ vs. NumIn vs k (model.entry (number_of o) (row_place o (num_of ns e)) (column_place o (num_of ns e))))) (sym f) t
entry_tree ws k m ns w g (two_of e d) f t = subst (λ o. Settled 1808 m ws (λ vs. NumIn vs k (model.entry (number_of o) (num_of ns e) (num_of ns d)))) (sym f) t

pub entry_made : (x us vs ws : List ℕ) (n : Name) (free next : ℕ) (ns : Names) (w : Word) (g : Grid) (l : Place) (p : Places) → n.begin < n.end → 1810 ≤ free → find w ns ≡ Some (a_table g.number g.rows g.columns)
    → PlacesMade x ns g n.end free us vs l p → next ≡ p.next + 4
    → ((e f : model.Num) → Settled 1808 p.next vs (λ ys. NumIn ys p.row e) → Settled 1808 p.next vs (λ ys. NumIn ys p.column f) → Settled 1808 (p.next + 4) ws (λ ys. NumIn ys p.next (model.entry g.number e f)))
    → NumMade x ns n.begin free us ws (of_places (entry1 w) (entry2 w) l) (record { place = p.next; next = next; end = p.end })
entry_made x us vs ws n free next ns w g l p a r e q f t = record {
  onward = let o = q.onward in omega arith;
  inside = q.inside;
  short = q.short;
  words = let o = q.words in omega arith;
  forward = let o = q.forward in omega arith;
  placed = let o = q.forward in (omega arith, omega arith);
  tree = λ z. subst (λ k. Settled 1808 k ws (λ ys. NumIn ys p.next (num_of ns (of_places (entry1 w) (entry2 w) l)))) (sym f)
      (entry_tree ws p.next (p.next + 4) ns w g l e (t (row_of ns g l) (column_of ns g l) (q.row z) (q.column z)));
}

pub joined_made : (x us vs ws ys : List ℕ) (at here there end free next : ℕ) (ns : Names) (o : Operator) (e f : Num) (p q : Node) → at < here → p.end < there → q.end < end → end ≤ length x → end ≤ 65536 → p.end + 3 ≤ there → next ≡ q.next + 3 → Agree 0 p.next vs ws
    → 1810 ≤ free → Agree 0 free us vs → NumMade x ns here free us vs e p → NumMade x ns there p.next vs ws f q
    → ((a b : model.Num) → Settled 1808 q.next ws (λ zs. NumIn zs p.place a) → Settled 1808 q.next ws (λ zs. NumIn zs q.place b) → Settled 1808 (q.next + 3) ys (λ zs. NumIn zs q.next (model.joined o a b)))
    → NumMade x ns at free us ys (joined o e f) (record { place = q.next; next = next; end = end })
unfolding num_of
joined_made x us vs ws ys at here there end free next ns o e f p q a b c d s g n k r h m w t = record {
  onward = let y = m.onward in let z = w.onward in omega arith;
  inside = d;
  short = s;
  words = let y = m.words in let z = w.words in omega arith;
  forward = let y = m.forward in let z = w.forward in omega arith;
  placed = let y = m.placed in let z = w.placed in (omega arith, omega arith);
  tree = λ z. subst (λ i. Settled 1808 i ys (λ zs. NumIn zs q.next (model.joined o (num_of ns e) (num_of ns f)))) (sym n)
      (t (num_of ns e) (num_of ns f) (settled_on p.next q.next vs ws _ k w.forward (m.tree z)) (w.tree (zero_on free us vs r h z)));
}

-- PLACES

pub only_made : (x us ws : List ℕ) (at here end free : ℕ) (ns : Names) (g : Grid) (e : Num) (p : Node) → at < here → p.end < end → end ≤ length x → end ≤ 65536 → 1810 ≤ free → Agree 0 free us ws → NumMade x ns here free us ws e p
    → PlacesMade x ns g at free us ws (one_of e) (only_place g p end)
only_made x us ws at here end free ns g e p a b d s r h m = go (eqb g.columns 1) refl where
  at_row : (c : Bool) (k : ℕ) → eqb g.columns 1 ≡ c → Settled 1808 p.next ws (λ vs. NumIn vs k (cond c (num_of ns e) naught)) → Settled 1808 p.next ws (λ vs. NumIn vs k (row_of ns g (one_of e)))
  at_row c k i t = subst (λ b. Settled 1808 p.next ws (λ vs. NumIn vs k (cond b (num_of ns e) naught))) (sym i) t

  at_column : (c : Bool) (k : ℕ) → eqb g.columns 1 ≡ c → Settled 1808 p.next ws (λ vs. NumIn vs k (cond c naught (num_of ns e))) → Settled 1808 p.next ws (λ vs. NumIn vs k (column_of ns g (one_of e)))
  at_column c k i t = subst (λ b. Settled 1808 p.next ws (λ vs. NumIn vs k (cond b naught (num_of ns e)))) (sym i) t

  go : (c : Bool) → eqb g.columns 1 ≡ c → PlacesMade x ns g at free us ws (one_of e) (cond c (record { row = p.place; column = 1808; next = p.next; end = end }) (record { row = 1808; column = p.place; next = p.next; end = end }))
  go true i = record {
    onward = let y = m.onward in omega arith;
    inside = d;
    short = s;
    words = let y = m.words in omega arith;
    forward = m.forward;
    placed = let y = m.placed in let z = m.forward in (omega arith, omega arith);
    row = λ z. at_row true p.place i (m.tree z);
    column = λ z. at_column true 1808 i (zero_there free p.next us ws r m.forward h z);
  }
  go false i = record {
    onward = let y = m.onward in omega arith;
    inside = d;
    short = s;
    words = let y = m.words in omega arith;
    forward = m.forward;
    placed = let y = m.placed in let z = m.forward in (omega arith, omega arith);
    row = λ z. at_row false 1808 i (zero_there free p.next us ws r m.forward h z);
    column = λ z. at_column false p.place i (m.tree z);
  }

pub both_made : (x us vs ws : List ℕ) (at here free : ℕ) (ns : Names) (g : Grid) (e f : Num) (p q : Node) → at < here → 1810 ≤ free → Agree 0 free us vs → Agree 0 p.next vs ws → NumMade x ns here free us vs e p
    → NumMade x ns p.end p.next vs ws f q → 3 * q.next + 4 * p.end + 10 ≤ 3 * p.next + 4 * q.end → PlacesMade x ns g at free us ws (two_of e f) (record { row = p.place; column = q.place; next = q.next; end = q.end })
both_made x us vs ws at here free ns g e f p q a r h k m w b = record {
  onward = let y = m.onward in let z = w.onward in omega arith;
  inside = w.inside;
  short = w.short;
  words = let y = m.words in omega arith;
  forward = let y = m.forward in let z = w.forward in omega arith;
  placed = let y = m.placed in let z = w.placed in let o = w.forward in (omega arith, omega arith);
  row = λ z. settled_on p.next q.next vs ws _ k w.forward (m.tree z);
  column = λ z. w.tree (zero_on free us vs r h z);
}

pub only_end : (g : Grid) (p : Node) (e : ℕ) → (only_place g p e).end ≡ e
only_end g p e = go (eqb g.columns 1) where
  go : (c : Bool) → (cond {A = Places} c (record { row = p.place; column = 1808; next = p.next; end = e }) (record { row = 1808; column = p.place; next = p.next; end = e })).end ≡ e
  go true = refl
  go false = refl
