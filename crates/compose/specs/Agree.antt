-- Words that agree in a range of places, and what holds of all words that do. Assumes nothing.
use Rattle.std.specs.Prelude.{◌≡◌, ℕ, ◌<◌, ◌≤◌, List, length}
use Rattle.model.specs.Words.{word}

-- equally many words, and the same from place m up to place n
pub record Agree (m n : ℕ) (ws vs : List ℕ) : Type 0 where
  pub long : length ws ≡ length vs
  pub same : (p : ℕ) → m ≤ p → p < n → word ws p ≡ word vs p

-- the same from place n on
abbrev pub Behind : ℕ → List ℕ → List ℕ → Type 0
Behind n ws vs = (p : ℕ) → n ≤ p → word ws p ≡ word vs p

-- the words from place m up to place n settle P: no other word can change it
abbrev pub Settled : ℕ → ℕ → List ℕ → (List ℕ → Type 0) → Type 0
Settled m n ws P = (vs : List ℕ) → Agree m n ws vs → P vs
