-- Conditions, and what stands behind `sum` and `all`, judged. Assumes nothing.
use Rattle.std.proofs.Common.{◌≡◌, ℕ, zero, suc, ◌+◌, Bool, false, eqb, List, ◌∷◌, ◌++◌, Some, None, codes, Option, refl}
use Rattle.model.specs.declared.Relation.{Relation}
use Rattle.model.specs.declared.Relation.TheVariants.{Less, Equal}
use Rattle.grammar.specs.Grammar.{Word, IsName, Num, Cond, only, with_and, IsCond, IsFilter, relation_text, cond_text, over_text}
use Rattle.grammar.specs.Reading.{Got, byte, Names, find, set_there, free, relation, condition, with_index, Header, header}
use Rattle.grammar.specs.Fine.{FineCond, FineFilter, FineHeader}
use Rattle.grammar.proofs.Places.{span_none, span_join, span_byte}
use Rattle.grammar.proofs.Judged.{Kind, Judged, judge_then, judge_last, judge_ok, judge_name_fault, judge_range_fault, judge_none, judge_cond, judge_taken, judge_byte, Lit, judge_literal}
use Rattle.grammar.proofs.JudgedTokens.{Called, judge_name, a_name}
use Rattle.grammar.proofs.JudgedNumbers.{Nums, 0!, judge_num}

abbrev Relations : Kind
Relations = record { Tree = Relation; Is = λ _. Unit {0}; Sure = λ _ _. Unit {0}; text = relation_text }

judge_relation : (x : List ℕ) (at : ℕ) → Judged Relations x at (relation x at)
unfolding relation
judge_relation x at =
    judge_cond (eqb (byte x at) 61) (judge_byte Relations x at 61 Equal refl (λ _. tt) (λ _. refl)) (λ _.
    judge_cond (eqb (byte x at) 60)
    (λ b. judge_taken at (λ n.
    let s = span_byte x at 60 refl n b in
    judge_cond (eqb (byte x (at + 1)) 62) (λ c. judge_taken (at + 1) (λ m. judge_ok Relations tt (span_join s (span_byte x (at + 1) 62 refl m c)))) (λ _. judge_ok Relations tt s)))
    (λ _. judge_none Relations x at Less tt))

abbrev Conds : Names → ℕ → Kind
Conds ns left = record { Tree = Cond; Is = IsCond; Sure = λ c _. IsCond c × FineCond ns left c; text = cond_text }

judge_condition : (x : List ℕ) (ns : Names) (left : ℕ) (number : ℕ → Got Num) → ((m : ℕ) → Judged (Nums ns left) x m (number m)) → (turns at : ℕ) → Judged (Conds ns left) x at (condition x number turns at)
unfolding condition FineCond
judge_condition x ns left number j zero at = judge_range_fault
judge_condition x ns left number j (suc turns) at =
    let S = Conds ns left in
    let A = Nums ns left in
    judge_then A S _ (span_none x at) (j at) (λ e. only e Less 0!) (λ k. codes " < 0" ++ k) (λ e h. (h, tt)) (λ e k. refl) (λ e m y s.
    judge_then (Lit (codes " ")) S _ s (judge_literal x (codes " ") m refl) (λ _. only e Less 0!) (λ k. codes "< 0" ++ k) (λ _ _. (y.0, tt)) (λ _ k. refl) (λ _ m _ s.
    judge_then Relations S _ s (judge_relation x m) (λ r. only e r 0!) (λ k. codes " 0" ++ k) (λ _ _. (y.0, tt)) (λ _ k. refl) (λ r m _ s.
    judge_then (Lit (codes " ")) S _ s (judge_literal x (codes " ") m refl) (λ _. only e r 0!) (λ k. codes "0" ++ k) (λ _ _. (y.0, tt)) (λ _ k. refl) (λ _ m _ s.
    judge_then A S _ s (j m) (λ f. only e r f) (λ k. k) (λ f h. (y.0, h)) (λ f k. refl) (λ f m z s.
    judge_cond (eqb (byte x m) 32)
    (λ _.
    judge_then (Lit (codes " and ")) S _ s (judge_literal x (codes " and ") m refl) (λ _. with_and e r f (only 0! Less 0!)) (λ k. codes "0 < 0" ++ k) (λ _ _. (y.0, z.0, (tt, tt))) (λ _ k. refl) (λ _ m _ s.
    judge_last S S s (judge_condition x ns left number j turns m) (λ c. with_and e r f c) (λ c h. (y.0, z.0, h)) (λ c _ h. ((y.0, z.0, h.0), (y.1, z.1, h.1))) (λ c k. refl)))
    (λ _. judge_ok S ((y.0, z.0), (y.1, z.1)) s))))))

abbrev pub IsHeader : Header → Type 0
IsHeader h = IsName h.set × IsName h.name × IsFilter h.filter

-- with the space before it
abbrev pub Headed : Names → ℕ → Bool → Kind
Headed ns left deep =
    record { Tree = Header; Is = IsHeader; Sure = λ h _. IsHeader h × (deep ≡ false) × FineHeader ns left h.set h.name h.filter; text = λ h k. 32 ∷ over_text h.set h.name h.filter k }

abbrev heads : Word → Word → Option Cond → Header
heads s i c = record { set = s; name = i; filter = c }

pub judge_header : (x : List ℕ) (ns : Names) (left turns : ℕ) (deep : Bool) (start at : ℕ) → Judged (Headed ns left deep) x at (header x ns left turns deep start at)
unfolding header FineFilter
judge_header x ns left turns deep start at =
    let S = Headed ns left deep in
    judge_then (Lit (codes " ")) S _ (span_none x at) (judge_literal x (codes " ") at refl) (λ _. heads (codes "a") (codes "a") None) (λ k. codes "a a: " ++ k) (λ _ _. (a_name, a_name, tt)) (λ _ k. refl) (λ _ a _ t.
    judge_cond deep (λ _. judge_range_fault) (λ d.
    judge_then Called S _ t (judge_name x a) (λ s. heads s (codes "a") None) (λ k. codes " a: " ++ k) (λ s p. (p, a_name, tt)) (λ s k. refl) (λ s m p t.
    judge_cond (set_there (find s ns))
    (λ y.
    judge_then (Lit (codes " ")) S _ t (judge_literal x (codes " ") m refl) (λ _. heads s (codes "a") None) (λ k. codes "a: " ++ k) (λ _ _. (p, a_name, tt)) (λ _ k. refl) (λ _ b _ t.
    judge_then Called S _ t (judge_name x b) (λ i. heads s i None) (λ k. codes ": " ++ k) (λ i q. (p, q, tt)) (λ i k. refl) (λ i e q t.
    judge_cond (free i ns)
    (λ z.
    judge_cond (eqb (byte x e) 32)
    (λ _.
    judge_then (Lit (codes " where ")) S _ t (judge_literal x (codes " where ") e refl) (λ _. heads s i (Some (only 0! Less 0!))) (λ k. codes "0 < 0: " ++ k) (λ _ _. (p, q, (tt, tt))) (λ _ k. refl) (λ _ m _ t.
    judge_then (Conds (with_index i ns) left) S _ t (judge_condition x (with_index i ns) left _ (judge_num x (with_index i ns) left) turns m) (λ c. heads s i (Some c)) (λ k. codes ": " ++ k) (λ c r. (p, q, r)) (λ c k. refl) (λ c m r t.
    judge_last (Lit (codes ": ")) S t (judge_literal x (codes ": ") m refl) (λ _. heads s i (Some c)) (λ _ _. (p, q, r.0)) (λ _ _ _. ((p, q, r.0), d, (y, z, r.1))) (λ _ k. refl))))
    (λ _. judge_last (Lit (codes ": ")) S t (judge_literal x (codes ": ") e refl) (λ _. heads s i None) (λ _ _. (p, q, tt)) (λ _ _ _. ((p, q, tt), d, (y, z, tt))) (λ _ k. refl)))
    (λ _. judge_name_fault))))
    (λ _. judge_name_fault))))
