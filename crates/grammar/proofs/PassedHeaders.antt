-- Conditions, and what stands behind `sum` or `all`, pass. Assumes nothing.
use Rattle.std.proofs.Common.{◌≡◌, ℕ, zero, suc, ◌<◌, ◌≤◌, Bool, false, eqb, List, ◌∷◌, ◌++◌, length, drop, Some, None, codes, Option, refl, arith}
use Rattle.grammar.specs.Grammar.{Word, IsName, relation_text, num_text, Cond, only, with_and, IsCond, cond_text, IsFilter, over_text}
use Rattle.grammar.specs.Reading.{byte, Names, find, set_there, free, num, condition, with_index, header}
use Rattle.grammar.specs.Fine.{FineCond, FineFilter, FineHeader}
use Rattle.grammar.proofs.Bytes.{drop_size}
use Rattle.grammar.proofs.Passes.{Passes, pass_ok, pass_then, pass_see, pass_skip, no_range, pass_name_test, pass_range_not}
use Rattle.grammar.proofs.Lengths.{relation_long, num_long}
use Rattle.grammar.proofs.PassedTokens.{pass_literal, pass_name, pass_relation}
use Rattle.grammar.proofs.PassedNumbers.{Ends, pass_num}

module _ {F : Type 0} (u : List ℕ) (short : F → length u ≤ 65536) where
  -- with a turn for each part
  pass_cond : (c : Cond) (turns : ℕ) (ns : Names) (left : ℕ) (k : List ℕ) (at : ℕ) → IsCond c → Ends k → eqb (byte k 0) 32 ≡ false → (F → FineCond ns left c) → (F → length (cond_text c k) ≤ turns) → drop at u ≡ cond_text c k
      → Passes F u k c (condition u (num u ns left) turns at)
  unfolding condition FineCond
  pass_cond (only a r b) zero ns left k at i s z f t h = let p = num_long a (32 ∷ relation_text r (32 ∷ num_text b k)) i.0 in no_range (λ y. let n = t y in omega arith)
  pass_cond (with_and a r b c) zero ns left k at i s z f t h = let p = num_long a (32 ∷ relation_text r (32 ∷ num_text b (codes " and " ++ cond_text c k))) i.0 in no_range (λ y. let n = t y in omega arith)
  pass_cond (only a r b) (suc turns) ns left k at i s z f t h =
      let m = num_text b k in
      pass_then _ (pass_num u short a left ns (32 ∷ relation_text r (32 ∷ m)) at i.0 (refl, refl) (λ y. (f y).0) h) (λ e h.
      pass_then _ (pass_literal u short (relation_text r (32 ∷ m)) (codes " ") e h) (λ e h.
      pass_then _ (pass_relation u short m r e h) (λ e h.
      pass_then _ (pass_literal u short m (codes " ") e h) (λ e h.
      pass_then _ (pass_num u short b left ns k e i.1 s (λ y. (f y).1) h) (λ e h.
      pass_skip (λ b. eqb b 32) k e _ h z (pass_ok h))))))
  pass_cond (with_and a r b c) (suc turns) ns left k at i s z f t h =
      let j = codes " and " ++ cond_text c k in
      let m = num_text b j in
      let p = num_long a (32 ∷ relation_text r (32 ∷ m)) i.0 in
      let q = relation_long r (32 ∷ m) in
      let v = num_long b j i.1 in
      pass_then _ (pass_num u short a left ns (32 ∷ relation_text r (32 ∷ m)) at i.0 (refl, refl) (λ y. (f y).0) h) (λ e h.
      pass_then _ (pass_literal u short (relation_text r (32 ∷ m)) (codes " ") e h) (λ e h.
      pass_then _ (pass_relation u short m r e h) (λ e h.
      pass_then _ (pass_literal u short m (codes " ") e h) (λ e h.
      pass_then _ (pass_num u short b left ns j e i.1 (refl, refl) (λ y. (f y).1) h) (λ e h.
      pass_see (λ b. eqb b 32) j e _ h refl
      (pass_then _ (pass_literal u short (cond_text c k) (codes " and ") e h) (λ e h.
      pass_then _ (pass_cond c turns ns left k e i.2 s z (λ y. (f y).2) (λ y. let n = t y in omega arith) h) (λ e h. pass_ok h))))))))

  pub pass_header : (c : Option Cond) (s i : Word) (ns : Names) (left turns : ℕ) (deep : Bool) (start : ℕ) (k : List ℕ) (at : ℕ) → IsName s → IsName i → IsFilter c → (F → length u < turns)
      → (F → deep ≡ false) → (F → FineHeader ns left s i c) → drop at u ≡ 32 ∷ over_text s i c k → Passes F u k (record { set = s; name = i; filter = c }) (header u ns left turns deep start at)
  unfolding header FineFilter
  pass_header None s i ns left turns deep start k at p q r t d f h =
      pass_then _ (pass_literal u short (over_text s i None k) (codes " ") at h) (λ a h.
      pass_range_not deep _ d
      (pass_then _ (pass_name u short (32 ∷ (i ++ (58 ∷ 32 ∷ k))) s a p refl h) (λ e h.
      pass_name_test (set_there (find s ns)) _ (λ y. (f y).0)
      (pass_then _ (pass_literal u short (i ++ (58 ∷ 32 ∷ k)) (codes " ") e h) (λ b h.
      pass_then _ (pass_name u short (58 ∷ 32 ∷ k) i b q refl h) (λ e h.
      pass_name_test (free i ns) _ (λ y. (f y).1)
      (pass_skip (λ b. eqb b 32) (58 ∷ 32 ∷ k) e _ h refl
      (pass_then _ (pass_literal u short k (codes ": ") e h) (λ e h. pass_ok h)))))))))
  pass_header (Some c) s i ns left turns deep start k at p q r t d f h =
      let j = codes " where " ++ cond_text c (58 ∷ 32 ∷ k) in
      pass_then _ (pass_literal u short (over_text s i (Some c) k) (codes " ") at h) (λ a h.
      pass_range_not deep _ d
      (pass_then _ (pass_name u short (32 ∷ (i ++ j)) s a p refl h) (λ e h.
      pass_name_test (set_there (find s ns)) _ (λ y. (f y).0)
      (pass_then _ (pass_literal u short (i ++ j) (codes " ") e h) (λ b h.
      pass_then _ (pass_name u short j i b q refl h) (λ e h.
      pass_name_test (free i ns) _ (λ y. (f y).1)
      (pass_see (λ b. eqb b 32) j e _ h refl
      (pass_then _ (pass_literal u short (cond_text c (58 ∷ 32 ∷ k)) (codes " where ") e h) (λ e h.
      let z = drop_size u (cond_text c (58 ∷ 32 ∷ k)) e h in
      pass_then _ (pass_cond c turns (with_index i ns) left (58 ∷ 32 ∷ k) e r (refl, refl) refl (λ y. (f y).2) (λ y. let n = t y in omega arith) h) (λ e h.
      pass_then _ (pass_literal u short k (codes ": ") e h) (λ e h. pass_ok h)))))))))))
