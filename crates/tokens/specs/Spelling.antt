-- How the reserved words are spelled. Assumes nothing.
use Rattle.std.specs.Prelude.{◌≡◌, ℕ, List, Some, None, codes, Option, ◌≢◌}
use Rattle.tokens.specs.declared.words.Reserved.{Reserved}
use Rattle.tokens.specs.declared.words.Reserved.TheVariants.{Set, Table, Unknown, Least, Wish, From, To, Where, Sum, All, And, Or, Then}

abbrev pub spelled : Reserved → List ℕ
spelled Set = codes "set"
spelled Table = codes "table"
spelled Unknown = codes "unknown"
spelled Least = codes "least"
spelled Wish = codes "wish"
spelled From = codes "from"
spelled To = codes "to"
spelled Where = codes "where"
spelled Sum = codes "sum"
spelled All = codes "all"
spelled And = codes "and"
spelled Or = codes "or"
spelled Then = codes "then"

-- the word that bytes spell, or that they spell none
abbrev pub Spells : List ℕ → Option Reserved → Type 0
Spells bs (Some w) = bs ≡ spelled w
Spells bs None = (w : Reserved) → bs ≢ spelled w
