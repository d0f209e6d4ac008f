-- Conditions that were read and written. Assumes nothing.
use Rattle.std.proofs.Common.{◌≡◌, ℕ, ◌+◌, ◌≤◌, ltb, List, length, Some, None, sym, refl, subst, arith}
use Rattle.std.proofs.lemmas.Bool.{and_from, lt-ltb}
use Rattle.model.specs.declared.Relation.{Relation}
use Rattle.model.specs.Model as model
use Rattle.model.specs.Kept.{NumIn, CondIn}
use Rattle.compose.specs.Agree.{Agree, Settled}
use Rattle.compose.proofs.Trees.{no_filter, some_filter}
use Rattle.grammar.specs.Grammar.{Num, Cond}
use Rattle.grammar.specs.Reading.{Names}
use Rattle.grammar.specs.Says.{num_of, cond_of, filter_of}
use Rattle.expressions.specs.declared.Node.{Node}
use Rattle.expressions.specs.Made.{NumMade}
use Rattle.expressions.specs.Conditions.{compared_of, CondMade, FilterMade}
use Rattle.expressions.proofs.NumberTrees.{settled_on, zero_on}

pub compared_made : (x us vs ws ys : List ℕ) (at there free next : ℕ) (ns : Names) (o : Relation) (e f : Num) (p q : Node) → p.end + 3 ≤ there → next ≡ q.next + 3 → Agree 0 p.next vs ws
    → 1810 ≤ free → Agree 0 free us vs → NumMade x ns at free us vs e p → NumMade x ns there p.next vs ws f q
    → ((a b : model.Num) → Settled 1808 q.next ws (λ zs. NumIn zs p.place a) → Settled 1808 q.next ws (λ zs. NumIn zs q.place b) → Settled 1808 (q.next + 3) ys (λ zs. CondIn zs q.next (model.relate o a b)))
    → CondMade x at free us ys (compared_of ns (record { left = e; relation = o; right = f })) (record { place = q.next; next = next; end = q.end })
compared_made x us vs ws ys at there free next ns o e f p q b n k r h m w t = record {
  onward = let y = m.onward in let z = w.onward in omega arith;
  inside = w.inside;
  short = w.short;
  words = let y = m.words in let z = w.words in omega arith;
  forward = let y = m.forward in let z = w.forward in omega arith;
  placed = let y = m.placed in let z = w.placed in let o = w.forward in let i = m.forward in (omega arith, omega arith);
  tree = λ z. subst (λ i. Settled 1808 i ys (λ zs. CondIn zs q.next (model.relate o (num_of ns e) (num_of ns f)))) (sym n)
      (t (num_of ns e) (num_of ns f) (settled_on p.next q.next vs ws _ k w.forward (m.tree z)) (w.tree (zero_on free us vs r h z)));
}

pub both_made : (x us vs ws ys : List ℕ) (at here free next : ℕ) (a b : model.Cond) (p q : Node) → p.end + 5 ≤ here → next ≡ q.next + 3 → 1810 ≤ free → Agree 0 free us vs → Agree 0 p.next vs ws
    → CondMade x at free us vs a p → CondMade x here p.next vs ws b q
    → ((e f : model.Cond) → Settled 1808 q.next ws (λ zs. CondIn zs p.place e) → Settled 1808 q.next ws (λ zs. CondIn zs q.place f) → Settled 1808 (q.next + 3) ys (λ zs. CondIn zs q.next (model.both e f)))
    → CondMade x at free us ys (model.both a b) (record { place = q.next; next = next; end = q.end })
both_made x us vs ws ys at here free next a b p q d n r h k m w t = record {
  onward = let y = m.onward in let z = w.onward in omega arith;
  inside = w.inside;
  short = w.short;
  words = let y = m.words in let z = w.words in omega arith;
  forward = let y = m.forward in let z = w.forward in omega arith;
  placed = let y = m.placed in let z = w.placed in let o = w.forward in let i = m.forward in (omega arith, omega arith);
  tree = λ z. subst (λ i. Settled 1808 i ys (λ zs. CondIn zs q.next (model.both a b))) (sym n)
      (t a b (settled_on p.next q.next vs ws _ k w.forward (m.tree z)) (w.tree (zero_on free us vs r h z)));
}

-- FILTERS

pub no_filter_made : (x us ws : List ℕ) (at end free : ℕ) (ns : Names) → at + 2 ≡ end → end ≤ length x → end ≤ 65536 → FilterMade x ns at free us ws None (record { condition = None; next = free; end = end })
unfolding filter_of
no_filter_made x us ws at end free ns e i s = record { onward = omega arith; inside = i; short = s; words = omega arith; forward = omega arith; placed = refl; tree = λ _. no_filter 1808 free ws }

pub filter_made : (x us ws : List ℕ) (at here end free : ℕ) (ns : Names) (d : Cond) (p : Node) → at + 7 ≡ here → p.end + 2 ≡ end → end ≤ length x → end ≤ 65536 → 1810 ≤ free → CondMade x here free us ws (cond_of ns d) p
    → FilterMade x ns at free us ws (Some d) (record { condition = Some p.place; next = p.next; end = end })
unfolding filter_of
filter_made x us ws at here end free ns d p e f i s r m = record {
  onward = let y = m.onward in omega arith;
  inside = i;
  short = s;
  words = let y = m.words in omega arith;
  forward = m.forward;
  placed = let y = m.placed in and_from (ltb 0 p.place) (ltb p.place p.next) (lt-ltb 0 p.place (omega arith)) (lt-ltb p.place p.next (omega arith));
  tree = λ z. some_filter 1808 p.next ws p.place (cond_of ns d) (m.tree z);
}
