-- Terms that are read one after the other. Assumes nothing.
use Rattle.std.proofs.Common.{◌≡◌, ℕ, suc, Bool, true, false, List, [], ◌∷◌, Some, None, refl, ap, ◌∙◌}
use Rattle.model.specs.declared.Sign.{Sign}
use Rattle.model.specs.Model as model
use Rattle.grammar.specs.declared.Refusal.{Refusal}
use Rattle.grammar.specs.Grammar.{Term}
use Rattle.grammar.specs.Reading.{Got, ok, bad, then, Names}
use Rattle.grammar.specs.Says.{term_of, lin_behind}
use Rattle.tokens.proofs.Steps.{then_ok, then_bad}
use Rattle.expressions.specs.Sums.{Follow, followed, term_at, Terms, run_end, run_more, sum_of, sign_after, term_in, is_spaced, terms_at, terms_on, Item, chained}
use Rattle.expressions.proofs.Ways.{then_then}

followed_term : (b : Bool) (t : Term) → term_in (followed b t) ≡ t
followed_term true t = refl
followed_term false t = refl

followed_spaced : (b : Bool) (t : Term) → is_spaced (followed b t) ≡ b
followed_spaced true t = refl
followed_spaced false t = refl

module _ (x : List ℕ) (ns : Names) (left most nest f at : ℕ) where
  pub terms_bad : (q : Refusal) → term_at x ns left most nest at ≡ bad q → terms_at x ns left most nest (suc f) at ≡ bad q
  unfolding terms_at
  terms_bad q h = then_bad _ h

  module _ (F : Follow) (b : Bool) (t : Term) (e : ℕ) (h : term_at x ns left most nest at ≡ ok F e) (i : F ≡ followed b t) where
    on : terms_at x ns left most nest (suc f) at ≡ then (sign_after x (followed b t) e) (λ o m. terms_on (terms_at x ns left most nest f) (followed b t) o m)
    unfolding terms_at
    on = then_ok _ h ∙ ap (λ G. then (sign_after x G e) (λ o m. terms_on (terms_at x ns left most nest f) G o m)) i

    pub terms_broken : (q : Refusal) → sign_after x (followed b t) e ≡ bad q → terms_at x ns left most nest (suc f) at ≡ bad q
    terms_broken q j = on ∙ then_bad _ j

    pub terms_last : (z : ℕ) → sign_after x (followed b t) e ≡ ok None z → terms_at x ns left most nest (suc f) at ≡ ok (run_end t b) z
    terms_last z j = on ∙ then_ok _ j ∙ ap (λ u. ok (run_end u (is_spaced (followed b t))) z) (followed_term b t) ∙ ap (λ c. ok (run_end t c) z) (followed_spaced b t)

    pub terms_more : (g : Sign) (z : ℕ) → sign_after x (followed b t) e ≡ ok (Some g) z → terms_at x ns left most nest (suc f) at ≡ then (terms_at x ns left most nest f z) (λ r y. ok (run_more t g r) y)
    terms_more g z j = on ∙ then_ok _ j ∙ ap (λ u. then (terms_at x ns left most nest f z) (λ r y. ok (run_more u g r) y)) (followed_term b t)

-- what was read before
pub wrapped : (W : Terms → Terms) (o p : Got Terms) (t : Term) (g : Sign) → o ≡ then p (λ r y. ok (run_more t g r) y) → then o (λ r z. ok (W r) z) ≡ then p (λ r z. ok (W (run_more t g r)) z)
unfolding then
wrapped W o p t g e = ap (λ o. then o (λ r z. ok (W r) z)) e ∙ then_then p _ _

-- a term more waits
pub one_more : (ns : Names) (is : List Item) (h g : Sign) (t : Term) (r : Terms) → chained is (lin_behind h ns (sum_of (run_more t g r))) ≡ chained ((record { sign = h; term = term_of ns t }) ∷ is) (lin_behind g ns (sum_of r))
unfolding chained lin_behind
one_more ns is h g t r = refl

pub the_last : (ns : Names) (is : List Item) (h : Sign) (t : Term) (b : Bool) → chained is (lin_behind h ns (sum_of (run_end t b))) ≡ chained ((record { sign = h; term = term_of ns t }) ∷ is) model.nothing
unfolding chained lin_behind
the_last ns is h t b = refl

pub wrapped_none : (o : Got Terms) → o ≡ then o (λ r z. ok r z)
unfolding then
wrapped_none (ok r z) = refl
wrapped_none (bad q) = refl

pub chained_none : (l : model.Lin) → l ≡ chained [] l
unfolding chained
chained_none l = refl
