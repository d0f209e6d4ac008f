-- Terms and sums of them, judged. Assumes nothing.
use Rattle.std.proofs.Common.{◌≡◌, ℕ, zero, suc, ◌+◌, ◌-◌, Bool, true, false, eqb, List, [], ◌∷◌, ◌++◌, codes, Option, sym, refl, ◌∙◌, subst, append_assoc, arith}
use native.Mathlib.Numerals.{unary_clauses}
use Rattle.std.specs.Str.{bytes_eq}
use Rattle.std.proofs.lemmas.Slice.Eq.{bytes_eq-Decides}
use Rattle.std.proofs.lemmas.Bool.{true≢false}
use Rattle.model.specs.declared.Sign.{Sign}
use Rattle.model.specs.declared.Sign.TheVariants.{Positive, Negative}
use Rattle.grammar.specs.declared.Refusal.TheVariants.{Syntax}
use Rattle.grammar.specs.Grammar.{is_letter, Word, member, reserved, IsName, Num, index, Cond, Term, alone, times1, times2, sum_over, Lin, one, more, IsTerm, IsLin, sign_byte, num_text, term_text, lin_text}
use Rattle.grammar.specs.Reading.{Got, bad, byte, Names, find, array_there, one_place, num, with_index, Header, sum_at, after, after_num, term_then, sign, terms, lin}
use Rattle.grammar.specs.Fine.{FineNum, FineHeader, FineTerm, FineLin}
use Rattle.grammar.proofs.Places.{Span, span_none, span_join, span_byte}
use Rattle.grammar.proofs.Judged.{Kind, Judged, judge_then, judge_last, judge_ok, judge_name_fault, judge_range_fault, judge_stop, judge_none, judge_cond, judge_taken, judge_byte, Lit, judge_literal}
use Rattle.grammar.proofs.JudgedTokens.{Words, Called, judge_word, judge_name, pushed_name}
use Rattle.grammar.proofs.JudgedNumbers.{SureNum, Nums, 0!, judge_place, judge_named, judge_num}
use Rattle.grammar.proofs.JudgedHeaders.{Headed, judge_header}

abbrev pub SureTerm : Names → ℕ → ℕ → Term → Type 0
SureTerm ns left nest t = IsTerm t × FineTerm ns left nest t

abbrev Terms : Names → ℕ → ℕ → Kind
Terms ns left nest = record { Tree = Term; Is = IsTerm; Sure = λ t _. SureTerm ns left nest t; text = term_text }

abbrev pub Lins : Names → ℕ → ℕ → Kind
Lins ns left nest = record { Tree = Lin; Is = IsLin; Sure = λ l _. IsLin l × FineLin ns left nest l; text = lin_text }

abbrev pub 0_term : Term
0_term = alone 0!

abbrev pub Signs : Kind
Signs = record { Tree = Sign; Is = λ _. Unit {0}; Sure = λ _ _. Unit {0}; text = λ g k. sign_byte g ∷ k }

pub judge_sign : (x : List ℕ) (at : ℕ) → Judged Signs x at (sign x at)
unfolding sign
judge_sign x at =
    judge_cond (eqb (byte x at) 43) (judge_byte Signs x at 43 Positive refl (λ _. tt) (λ _. refl)) (λ _.
    judge_cond (eqb (byte x at) 45) (judge_byte Signs x at 45 Negative refl (λ _. tt) (λ _. refl)) (λ _. judge_none Signs x at Positive tt))

-- what reads the sum inside a `sum`, where one may stand
abbrev pub Inside : List ℕ → Bool → (Names → ℕ → ℕ → Got Lin) → ℕ → Type 0
Inside x deep inner zero = deep ≡ true
Inside x deep inner (suc nest) = (ns : Names) (left m : ℕ) → Judged (Lins ns left nest) x m (inner ns left m)

-- where a bracket may still be opened
fine_times1 : (ns : Names) (left nest : ℕ) (e : Num) (w : Word) (f : Num) → eqb left 0 ≡ false → FineNum ns left e → array_there (find w ns) ≡ true → one_place (find w ns) ≡ true → FineNum ns (left - 1) f → FineTerm ns left nest (times1 e w f)
unfolding FineTerm
fine_times1 ns zero nest e w f l y t o z = absurd (true≢false l)
fine_times1 ns (suc left) nest e w f l y t o z = (y, t, o, simp unary_clauses at z)

fine_times2 : (ns : Names) (left nest : ℕ) (e : Num) (w : Word) (f g : Num) → eqb left 0 ≡ false → FineNum ns left e → array_there (find w ns) ≡ true → FineNum ns (left - 1) f → FineNum ns (left - 1) g → FineTerm ns left nest (times2 e w f g)
unfolding FineTerm
fine_times2 ns zero nest e w f g l y t z v = absurd (true≢false l)
fine_times2 ns (suc left) nest e w f g l y t z v = (y, t, simp unary_clauses at z, simp unary_clauses at v)

fine_sum : (ns : Names) (left nest : ℕ) (s i : Word) (c : Option Cond) (l : Lin) → eqb left 0 ≡ false → FineHeader ns left s i c → FineLin (with_index i ns) (left - 1) nest l → FineTerm ns left (suc nest) (sum_over s i c l)
unfolding FineTerm
fine_sum ns zero nest s i c l z y v = absurd (true≢false z)
fine_sum ns (suc left) nest s i c l z y v = (y, simp unary_clauses at v)

abbrev sum_of : Header → Lin → Term
sum_of h l = sum_over h.set h.name h.filter l

-- behind the word `sum`
judge_sum : (x : List ℕ) (ns : Names) (left turns : ℕ) (deep : Bool) (inner : Names → ℕ → ℕ → Got Lin) (nest start : ℕ) {a : ℕ} (at : ℕ) → Inside x deep inner nest → Span x a at (λ k. codes "sum" ++ k)
    → Judged (Terms ns left nest) x a (sum_at x ns left turns deep inner start at)
unfolding sum_at
judge_sum x ns left turns deep inner zero start at d s =
    judge_then (Headed ns left deep) (Terms ns left zero) _ s (judge_header x ns left turns deep start at) (λ h. sum_of h (one 0_term)) (λ k. codes "(0)" ++ k) (λ h i. (i.0, i.1, i.2, tt)) (λ h k. refl)
    (λ h y f s. absurd (true≢false (sym d ∙ f.1)))
judge_sum x ns left turns deep inner (suc nest) start at j s =
    let S = Terms ns left (suc nest) in
    judge_then (Headed ns left deep) S _ s (judge_header x ns left turns deep start at) (λ h. sum_of h (one 0_term)) (λ k. codes "(0)" ++ k) (λ h i. (i.0, i.1, i.2, tt)) (λ h k. refl) (λ h y f s.
    let (i, _, v) = f in
    judge_cond (eqb (byte x y) 40)
    (λ _.
    judge_cond (eqb left 0) (λ _. judge_range_fault) (λ z.
    judge_then (Lit (codes "(")) S _ s (judge_literal x (codes "(") y refl) (λ _. sum_of h (one 0_term)) (λ k. codes "0)" ++ k) (λ _ _. (i.0, i.1, i.2, tt)) (λ _ k. refl) (λ _ e _ s.
    judge_then (Lins (with_index h.name ns) (left - 1) nest) S _ s (j (with_index h.name ns) (left - 1) e) (λ l. sum_of h l) (λ k. 41 ∷ k) (λ l g. (i.0, i.1, i.2, g)) (λ l k. refl) (λ l e g s.
    judge_last (Lit (codes ")")) S s (judge_literal x (codes ")") e refl) (λ _. sum_of h l) (λ _ _. (i.0, i.1, i.2, g.0))
    (λ _ _ _. ((i.0, i.1, i.2, g.0), fine_sum ns left nest h.set h.name h.filter l z v g.1)) (λ _ k. refl)))))
    (λ _. judge_stop S _ (λ k. codes "(0)" ++ k) s (sum_of h (one 0_term)) (i.0, i.1, i.2, tt) (λ k. refl)))

-- what follows a term that begins at a place: how it is finished where it stops within the term, and what is read behind it
pub record Onward (S : Kind) (x : List ℕ) (ns : Names) (left nest at : ℕ) (ended spaced : Term → ℕ → Got S.Tree) : Type 0 where
  pub tree : Term → S.Tree
  pub tail : List ℕ → List ℕ
  pub good : (t : Term) → IsTerm t → S.Is (tree t)
  pub same : (t : Term) (k : List ℕ) → S.text (tree t) k ≡ term_text t (tail k)
  pub at_end : (t : Term) (e : ℕ) → SureTerm ns left nest t → Span x at e (term_text t) → Judged S x at (ended t e)
  pub at_space : (t : Term) (e : ℕ) → SureTerm ns left nest t → Span x at e (λ k. term_text t (32 ∷ k)) → Judged S x at (spaced t e)

judge_after : (S : Kind) (x : List ℕ) (ns : Names) (left nest at : ℕ) (ended spaced : Term → ℕ → Got S.Tree) → Onward S x ns left nest at ended spaced → (t : Term) (m : ℕ) → SureTerm ns left nest t → Span x at m (term_text t)
    → Judged S x at (after x ended spaced t m)
unfolding after
judge_after S x ns left nest at ended spaced o t m y s =
    judge_cond (eqb (byte x m) 32) (λ b. judge_taken m (λ n. o.at_space t (m + 1) y (span_join s (span_byte x m 32 refl n b)))) (λ _. o.at_end t m y s)

judge_after_num : (S : Kind) (x : List ℕ) (ns : Names) (left nest at : ℕ) (ended spaced : Term → ℕ → Got S.Tree) → Onward S x ns left nest at ended spaced → (e : Num) (m : ℕ) → SureNum ns left e → Span x at m (num_text e)
    → Judged S x at (after_num x ns left ended spaced e m)
unfolding after_num FineTerm
judge_after_num S x ns left nest at ended spaced o e m y s =
    let A = Terms ns left nest in
    judge_cond (eqb (byte x m) 32)
    (λ b. judge_taken m (λ n.
    let r = span_join s (span_byte x m 32 refl n b) in
    judge_cond (is_letter (byte x (m + 1)))
    (λ _.
    judge_then Called S _ r (judge_name x (m + 1)) (λ w. o.tree (times1 e w 0!)) (λ k. codes "[0]" ++ o.tail k) (λ w g. o.good (times1 e w 0!) (y.0, g, tt)) (λ w k. o.same (times1 e w 0!) k) (λ w z g s.
    judge_cond (array_there (find w ns))
    (λ h.
    judge_then A S _ (span_none x at)
    (judge_place A ns x (one_place (find w ns)) (m + 1) left (num x ns (left - 1)) (times1 e w) (times2 e w) z s (judge_num x ns (left - 1)) (λ f p. (y.0, g, p)) (λ f k p q. (y.0, g, p, q))
    (λ f _ l u p. ((y.0, g, p.0), fine_times1 ns left nest e w f l y.1 h u p.1)) (λ f k _ l p q. ((y.0, g, p.0, q.0), fine_times2 ns left nest e w f k l y.1 h p.1 q.1)) (λ f k. refl) (λ f g k. refl))
    o.tree o.tail o.good o.same (λ t q v s. judge_after S x ns left nest at ended spaced o t q v s))
    (λ _. judge_name_fault)))
    (λ _. o.at_space (alone e) (m + 1) y r)))
    (λ _. o.at_end (alone e) m y s)

-- `all` where a sum stands goes on to a name
alla : IsName (codes "alla")
unfolding member
alla = ((refl, (refl, (refl, (refl, (refl, tt)))), omega arith), refl)

pub judge_no_all : (S : Kind) (x : List ℕ) (ns : Names) (left nest at : ℕ) (ended spaced : Term → ℕ → Got S.Tree) → Onward S x ns left nest at ended spaced → (e : ℕ) → Span x at e (λ k. codes "all" ++ k) → Judged S x at (bad (Syntax e))
judge_no_all S x ns left nest at ended spaced o e s = judge_stop S (λ k. codes "all" ++ k) (λ k. 97 ∷ o.tail k) s (o.tree (alone (index (codes "alla")))) (o.good (alone (index (codes "alla"))) alla) (o.same (alone (index (codes "alla"))))

pub judge_term : (S : Kind) (x : List ℕ) (ns : Names) (left turns : ℕ) (deep : Bool) (inner : Names → ℕ → ℕ → Got Lin) (nest at : ℕ) (at_all : ℕ → Got S.Tree) (ended spaced : Term → ℕ → Got S.Tree)
    → Inside x deep inner nest → Onward S x ns left nest at ended spaced → ((e : ℕ) → Span x at e (λ k. codes "all" ++ k) → Judged S x at (at_all e)) → Judged S x at (term_then x ns left turns deep inner at_all ended spaced at)
unfolding term_then
judge_term S x ns left turns deep inner nest at at_all ended spaced j o a =
    let A = Nums ns left in
    let number : (n : Num) (m : ℕ) → SureNum ns left n → Span x at m (num_text n) → Judged S x at (after_num x ns left ended spaced n m) = judge_after_num S x ns left nest at ended spaced o in
    judge_cond (is_letter (byte x at))
    (λ _.
    judge_then Words S _ (span_none x at) (judge_word x at) (λ w. o.tree (alone (index w))) o.tail (λ w i. o.good (alone (index w)) i) (λ w k. o.same (alone (index w)) k) (λ w e i s.
    let this : (v : Word) → bytes_eq w v ≡ true → Span x at e (λ k. v ++ k) = λ v z. subst (λ (u : Word). Span x at e (λ k. u ++ k)) ((bytes_eq-Decides w v).0 z) s in
    judge_cond (bytes_eq w (codes "sum"))
    (λ z. judge_then (Terms ns left nest) S _ (span_none x at) (judge_sum x ns left turns deep inner nest at e j (this (codes "sum") z)) o.tree o.tail o.good o.same (λ t m y s. judge_after S x ns left nest at ended spaced o t m y s)) (λ _.
    judge_cond (bytes_eq w (codes "all")) (λ z. a e (this (codes "all") z)) (λ _.
    judge_cond (member w reserved)
    (λ z. judge_stop S (λ k. w ++ k) (λ k. 97 ∷ o.tail k) s (o.tree (alone (index (w ++ (97 ∷ []))))) (o.good (alone (index (w ++ (97 ∷ [])))) (pushed_name w i z)) (λ k. o.same (alone (index (w ++ (97 ∷ [])))) k ∙ append_assoc w (97 ∷ []) (o.tail k)))
    (λ z. judge_then A S _ (span_none x at) (judge_named x ns left _ at w e (judge_num x ns (left - 1)) (i, z) s) (λ n. o.tree (alone n)) o.tail (λ n h. o.good (alone n) h) (λ n k. o.same (alone n) k) (λ n m y s. number n m y s))))))
    (λ _. judge_then A S _ (span_none x at) (judge_num x ns left at) (λ n. o.tree (alone n)) o.tail (λ n h. o.good (alone n) h) (λ n k. o.same (alone n) k) (λ n m y s. number n m y s))

judge_terms : (x : List ℕ) (most : ℕ) (deep : Bool) (inner : Names → ℕ → ℕ → Got Lin) (ns : Names) (left nest : ℕ) → Inside x deep inner nest → (turns at : ℕ) → Judged (Lins ns left nest) x at (terms x most deep inner ns left turns at)
unfolding terms FineLin
judge_terms x most deep inner ns left nest j zero at = judge_range_fault
judge_terms x most deep inner ns left nest j (suc turns) at =
    let S = Lins ns left nest in
    let o : Onward S x ns left nest at _ _ = record {
      tree = one;
      tail = λ k. k;
      good = λ t i. i;
      same = λ t k. refl;
      at_end = λ t e y s. judge_ok S y s;
      at_space = λ t e y s.
          judge_then Signs S _ s (judge_sign x e) (λ g. more t g (one 0_term)) (λ k. codes " 0" ++ k) (λ _ _. (y.0, tt)) (λ _ k. refl) (λ g e _ s.
          judge_then (Lit (codes " ")) S _ s (judge_literal x (codes " ") e refl) (λ _. more t g (one 0_term)) (λ k. codes "0" ++ k) (λ _ _. (y.0, tt)) (λ _ k. refl) (λ _ e _ s.
          judge_last S S s (judge_terms x most deep inner ns left nest j turns e) (λ l. more t g l) (λ l i. (y.0, i)) (λ l _ z. ((y.0, z.0), (y.1, z.1))) (λ l k. refl)));
    } in
    judge_term S x ns left most deep inner nest at _ _ _ j o (judge_no_all S x ns left nest at _ _ o)

pub judge_lin : (x : List ℕ) (most nest : ℕ) (ns : Names) (left at : ℕ) → Judged (Lins ns left nest) x at (lin x most nest ns left at)
unfolding lin
judge_lin x most zero ns left at = judge_terms x most true _ ns left zero refl most at
judge_lin x most (suc nest) ns left at = judge_terms x most false _ ns left (suc nest) (judge_lin x most nest) most at
