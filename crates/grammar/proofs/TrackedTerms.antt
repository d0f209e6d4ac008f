-- Reading looks at no byte past the one at which it stops: numbers, conditions and sums, each as it is read. Assumes nothing.
use Rattle.std.proofs.Common.{ℕ, zero, suc, ◌+◌, ◌-◌, Bool, true, false, not, ◌&&◌, eqb, List, [], ◌∷◌, codes}
use Rattle.std.specs.Str.{bytes_eq}
use Rattle.model.specs.declared.Operator.TheVariants.{Plus, Minus, Times}
use Rattle.model.specs.declared.Relation.TheVariants.{Equal, Differ}
use Rattle.model.specs.declared.Sign.TheVariants.{Positive, Negative}
use Rattle.grammar.specs.Grammar.{is_letter, Word, member, reserved, Num, entry1, entry2, Term, alone, times1, times2, Lin}
use Rattle.grammar.specs.Reading.{Got, small, Names, find, set_there, table_there, array_there, index_there, one_place, free, operator, place, named, fixed_at, pair, any_num, num, relation, condition, with_index, header, sum_at, after, after_num, term_then, sign, terms, lin}
use Rattle.grammar.proofs.Tracks.{Tracks, track_then, track_cond, track_test, track_ok, track_stop, track_name_fault, track_range_fault, track_taken, track_one, track_literal, track_numeral, track_word, track_name}

-- NUMBERS

track_operator : (x u : List ℕ) (at : ℕ) → Tracks x u at (operator x at) (operator u at)
unfolding operator
track_operator x u at = track_test (λ b. eqb b 43) (track_one Plus) (track_test (λ b. eqb b 45) (track_one Minus) (track_test (λ b. eqb b 42) (track_one Times) track_stop))

-- f and g read alike from each place on
abbrev pub ReadAlike : {A : Type 0} → List ℕ → List ℕ → (ℕ → Got A) → (ℕ → Got A) → Type 0
ReadAlike x u f g = (m : ℕ) → Tracks x u m (f m) (g m)

track_place : {A : Type 0} (x u : List ℕ) (enough : Bool) (start left : ℕ) (f g : ℕ → Got Num) (k1 : Num → A) (k2 : Num → Num → A) (at : ℕ) → ReadAlike x u f g
    → Tracks x u at (place x enough start left f k1 k2 at) (place u enough start left g k1 k2 at)
unfolding place
track_place x u enough start left f g k1 k2 at t =
    track_test (λ b. eqb b 91)
    (track_cond (eqb left 0) track_range_fault
    (track_then (track_literal x u (91 ∷ []) at) (λ _ e.
    track_then (t e) (λ f m.
    track_test (λ b. eqb b 44)
    (track_then (track_literal x u (codes ", ") m) (λ _ m. track_then (t m) (λ g m. track_then (track_literal x u (93 ∷ []) m) (λ _ z. track_ok))))
    (track_test (λ b. eqb b 93 && not enough) track_name_fault (track_then (track_literal x u (93 ∷ []) m) (λ _ z. track_ok)))))))
    track_stop

track_named : (x u : List ℕ) (ns : Names) (left : ℕ) (f g : ℕ → Got Num) (start : ℕ) (w : Word) (e : ℕ) → ReadAlike x u f g → Tracks x u e (named x ns left f start w e) (named u ns left g start w e)
unfolding named
track_named x u ns left f g start w e t =
    track_test (λ b. eqb b 91) (track_cond (table_there (find w ns)) (track_place x u (one_place (find w ns)) start left f g (entry1 w) (entry2 w) e t) track_name_fault)
    (track_cond (index_there (find w ns)) track_ok track_name_fault)

track_fixed : (x u : List ℕ) (at : ℕ) → Tracks x u at (fixed_at x at) (fixed_at u at)
unfolding fixed_at
track_fixed x u at = track_then (track_numeral x u at) (λ n e. track_cond (small n) track_ok track_range_fault)

track_pair : (x u : List ℕ) (left : ℕ) (f g : ℕ → Got Num) (at : ℕ) → ReadAlike x u f g → Tracks x u at (pair x left f at) (pair u left g at)
unfolding pair
track_pair x u left f g at t =
    track_cond (eqb left 0) track_range_fault
    (track_then (track_literal x u (codes "(") at) (λ _ b.
    track_then (t b) (λ e m.
    track_then (track_literal x u (codes " ") m) (λ _ m.
    track_then (track_operator x u m) (λ o m. track_then (track_literal x u (codes " ") m) (λ _ m. track_then (t m) (λ f m. track_then (track_literal x u (codes ")") m) (λ _ z. track_ok))))))))

track_any_num : (x u : List ℕ) (ns : Names) (left : ℕ) (f g : ℕ → Got Num) (at : ℕ) → ReadAlike x u f g → Tracks x u at (any_num x ns left f at) (any_num u ns left g at)
unfolding any_num
track_any_num x u ns left f g at t =
    track_test (λ b. eqb b 40) (track_pair x u left f g at t) (track_test is_letter (track_then (track_name x u at) (λ w e. track_named x u ns left f g at w e t)) (track_fixed x u at))

pub track_num : (x u : List ℕ) (ns : Names) (left at : ℕ) → Tracks x u at (num x ns left at) (num u ns left at)
unfolding num
track_num x u ns zero at = track_any_num x u ns 0 _ _ at (λ m. track_range_fault)
track_num x u ns (suc left) at = track_any_num x u ns (suc left) _ _ at (track_num x u ns left)

-- CONDITIONS

track_relation : (x u : List ℕ) (at : ℕ) → Tracks x u at (relation x at) (relation u at)
unfolding relation
track_relation x u at = track_test (λ b. eqb b 61) (track_one Equal) (track_test (λ b. eqb b 60) (track_taken (track_test (λ b. eqb b 62) (track_one Differ) track_ok)) track_stop)

track_condition : (x u : List ℕ) (f g : ℕ → Got Num) (turns at : ℕ) → ReadAlike x u f g → Tracks x u at (condition x f turns at) (condition u g turns at)
unfolding condition
track_condition x u f g zero at t = track_range_fault
track_condition x u f g (suc turns) at t =
    track_then (t at) (λ e m.
    track_then (track_literal x u (codes " ") m) (λ _ m.
    track_then (track_relation x u m) (λ r m.
    track_then (track_literal x u (codes " ") m) (λ _ m.
    track_then (t m) (λ f' m.
    track_test (λ b. eqb b 32) (track_then (track_literal x u (codes " and ") m) (λ _ m. track_then (track_condition x u f g turns m t) (λ c z. track_ok))) track_ok)))))

pub track_header : (x u : List ℕ) (ns : Names) (left turns : ℕ) (deep : Bool) (start at : ℕ) → Tracks x u at (header x ns left turns deep start at) (header u ns left turns deep start at)
unfolding header
track_header x u ns left turns deep start at =
    track_then (track_literal x u (codes " ") at) (λ _ a.
    track_cond deep track_range_fault
    (track_then (track_name x u a) (λ s m.
    track_cond (set_there (find s ns))
    (track_then (track_literal x u (codes " ") m) (λ _ b.
    track_then (track_name x u b) (λ i e.
    track_cond (free i ns)
    (track_test (λ b. eqb b 32)
    (track_then (track_literal x u (codes " where ") e) (λ _ m.
    track_then (track_condition x u (num x (with_index i ns) left) (num u (with_index i ns) left) turns m (track_num x u (with_index i ns) left)) (λ c m.
    track_then (track_literal x u (codes ": ") m) (λ _ z. track_ok))))
    (track_then (track_literal x u (codes ": ") e) (λ _ z. track_ok)))
    track_name_fault)))
    track_name_fault)))

-- SUMS

abbrev pub SumsAlike : List ℕ → List ℕ → (Names → ℕ → ℕ → Got Lin) → (Names → ℕ → ℕ → Got Lin) → Type 0
SumsAlike x u f g = (ns : Names) (left m : ℕ) → Tracks x u m (f ns left m) (g ns left m)

-- f and g go on alike behind a term
abbrev pub BehindAlike : {R : Type 0} → List ℕ → List ℕ → (Term → ℕ → Got R) → (Term → ℕ → Got R) → Type 0
BehindAlike x u f g = (t : Term) (m : ℕ) → Tracks x u m (f t m) (g t m)

track_sum : (x u : List ℕ) (ns : Names) (left turns : ℕ) (deep : Bool) (f g : Names → ℕ → ℕ → Got Lin) (start at : ℕ) → SumsAlike x u f g
    → Tracks x u at (sum_at x ns left turns deep f start at) (sum_at u ns left turns deep g start at)
unfolding sum_at
track_sum x u ns left turns deep f g start at t =
    track_then (track_header x u ns left turns deep start at) (λ h y.
    track_test (λ b. eqb b 40)
    (track_cond (eqb left 0) track_range_fault
    (track_then (track_literal x u (codes "(") y) (λ _ z. track_then (t (with_index h.name ns) (left - 1) z) (λ l m. track_then (track_literal x u (codes ")") m) (λ _ q. track_ok)))))
    track_stop)

track_after : {R : Type 0} (x u : List ℕ) (p q r s : Term → ℕ → Got R) (t : Term) (m : ℕ) → BehindAlike x u p r → BehindAlike x u q s → Tracks x u m (after x p q t m) (after u r s t m)
unfolding after
track_after x u p q r s t m y z = track_test (λ b. eqb b 32) (track_taken (z t (m + 1))) (y t m)

track_after_num : {R : Type 0} (x u : List ℕ) (ns : Names) (left : ℕ) (p q r s : Term → ℕ → Got R) (e : Num) (m : ℕ) → BehindAlike x u p r → BehindAlike x u q s
    → Tracks x u m (after_num x ns left p q e m) (after_num u ns left r s e m)
unfolding after_num
track_after_num x u ns left p q r s e m y z =
    track_test (λ b. eqb b 32)
    (track_taken
    (track_test is_letter
    (track_then (track_name x u (m + 1)) (λ w k.
    track_cond (array_there (find w ns))
    (track_then (track_place x u (one_place (find w ns)) (m + 1) left (num x ns (left - 1)) (num u ns (left - 1)) (times1 e w) (times2 e w) k (track_num x u ns (left - 1))) (λ t k. track_after x u p q r s t k y z))
    track_name_fault))
    (z (alone e) (m + 1))))
    (y (alone e) m)

-- a and b go on alike behind `all`
pub track_term : {R : Type 0} (x u : List ℕ) (ns : Names) (left turns : ℕ) (deep : Bool) (f g : Names → ℕ → ℕ → Got Lin) (a b : ℕ → Got R) (p q r s : Term → ℕ → Got R) (at : ℕ)
    → SumsAlike x u f g → ReadAlike x u a b → BehindAlike x u p r → BehindAlike x u q s → Tracks x u at (term_then x ns left turns deep f a p q at) (term_then u ns left turns deep g b r s at)
unfolding term_then
track_term x u ns left turns deep f g a b p q r s at t v y z =
    track_test is_letter
    (track_then (track_word x u at) (λ w e.
    track_cond (bytes_eq w (codes "sum")) (track_then (track_sum x u ns left turns deep f g at e t) (λ k m. track_after x u p q r s k m y z))
    (track_cond (bytes_eq w (codes "all")) (v e)
    (track_cond (member w reserved) track_stop
    (track_then (track_named x u ns left (num x ns (left - 1)) (num u ns (left - 1)) at w e (track_num x u ns (left - 1))) (λ n m. track_after_num x u ns left p q r s n m y z))))))
    (track_then (track_num x u ns left at) (λ n m. track_after_num x u ns left p q r s n m y z))

pub track_sign : (x u : List ℕ) (at : ℕ) → Tracks x u at (sign x at) (sign u at)
unfolding sign
track_sign x u at = track_test (λ b. eqb b 43) (track_one Positive) (track_test (λ b. eqb b 45) (track_one Negative) track_stop)

track_terms : (x u : List ℕ) (most : ℕ) (deep : Bool) (f g : Names → ℕ → ℕ → Got Lin) (ns : Names) (left turns at : ℕ) → SumsAlike x u f g
    → Tracks x u at (terms x most deep f ns left turns at) (terms u most deep g ns left turns at)
unfolding terms
track_terms x u most deep f g ns left zero at t = track_range_fault
track_terms x u most deep f g ns left (suc turns) at t =
    track_term x u ns left most deep f g _ _ _ _ _ _ at t (λ e. track_stop) (λ k e. track_ok)
    (λ k e. track_then (track_sign x u e) (λ g' m. track_then (track_literal x u (codes " ") m) (λ _ m. track_then (track_terms x u most deep f g ns left turns m t) (λ l z. track_ok))))

pub track_lin : (x u : List ℕ) (most nest : ℕ) (ns : Names) (left at : ℕ) → Tracks x u at (lin x most nest ns left at) (lin u most nest ns left at)
unfolding lin
track_lin x u most zero ns left at = track_terms x u most true _ _ ns left most at (λ _ _ m. track_range_fault)
track_lin x u most (suc nest) ns left at = track_terms x u most false _ _ ns left most at (track_lin x u most nest)
