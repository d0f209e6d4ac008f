-- What reading makes of the names of a scope, by its entries. Assumes nothing.
use Rattle.std.proofs.Common.{◌≡◌, ℕ, ◌+◌, ◌-◌, ◌≤◌, true, false, cond, List, [], ◌∷◌, ◌++◌, count_by, length, reverse, drop, set, replicate, Some, Option, sym, refl, ap, ◌∙◌, drop-drop, arith}
use Rattle.std.specs.List.{find}
use Rattle.std.specs.Option.{option_map}
use Rattle.std.specs.Str.{bytes_eq}
use Rattle.std.proofs.lemmas.List.{drop_at, drop-set-lt, drop-replicate, length-append, length-drop}
use Rattle.std.proofs.lemmas.List.Recursion.{is_count_by}
use Rattle.std.proofs.lemmas.List.Sorted.{sum_by-IsPermutation, IsPermutation-reverse}
use Rattle.grammar.specs.Grammar.{Word}
use Rattle.grammar.specs.Reading as reading
use Rattle.grammar.specs.Reading.{index_there, levels}
use Rattle.scope.specs.declared.Symbol.{Symbol}
use Rattle.scope.specs.declared.Entry.{Entry}
use Rattle.scope.specs.Names.{part, sort_of, sort_told, names_in}

-- LOOKING UP

found_is : (x : List ℕ) (w : Word) (es : List Entry) → reading.find w (names_in x es) ≡ sort_told (option_map (λ e. e.symbol) (find (λ e. bytes_eq w (part x e.name)) es))
unfolding reading.find
found_is x w [] = refl
found_is x w (e ∷ es) =
    elim (bytes_eq w (part x e.name)) as (λ b. cond b (Some (sort_of e.symbol)) (reading.find w (names_in x es)) ≡ sort_told (option_map (λ d. d.symbol) (cond b (Some e) (find (λ d. bytes_eq w (part x d.name)) es))))
    [ true ↦ refl | false ↦ found_is x w es ]

-- what the newest entry of a name stands for is what reading finds
pub found_told : (x : List ℕ) (w : Word) (es : List Entry) (o : Option Symbol) → o ≡ option_map (λ e. e.symbol) (find (λ e. bytes_eq w (part x e.name)) es) → sort_told o ≡ reading.find w (names_in x es)
found_told x w es o h = ap sort_told h ∙ sym (found_is x w es)

-- ONE MORE

-- the entry behind those in force is none, and so are those behind it
pub none_behind : (es : List Entry) (n : ℕ) (d e : Entry) → drop n es ≡ replicate (56 - n) d → drop (n + 1) (set es n e) ≡ replicate (56 - (n + 1)) d
none_behind es n d e h =
    drop-set-lt (n + 1) es n e (omega arith) ∙ sym (drop-drop 1 n es) ∙ ap (drop 1) h ∙ drop-replicate 1 (56 - n) d ∙ ap (λ m. replicate m d) (omega arith)

-- MANY AT ONCE

-- what takes the place of the first entries leaves as many as there were
pub put_long : (es part : List Entry) (n : ℕ) → n ≤ 56 → length es ≡ 56 → length part ≡ n → length (part ++ drop n es) ≡ 56
put_long es part n few long many = omega (arith, length-append part (drop n es), length-drop n es)

-- and behind it there are none, where there were none before
pub put_behind : (es part : List Entry) (n : ℕ) (d : Entry) → es ≡ replicate 56 d → length part ≡ n → drop n (part ++ drop n es) ≡ replicate (56 - n) d
put_behind es part n d none many = drop_at part (drop n es) n many ∙ ap (drop n) none ∙ drop-replicate n 56 d

-- LEVELS

levels_is : (x : List ℕ) (es : List Entry) → levels (names_in x es) ≡ count_by (λ e. index_there (Some (sort_of e.symbol))) es
unfolding levels
levels_is x es = is_count_by (λ ds. levels (names_in x ds)) (λ e. index_there (Some (sort_of e.symbol))) refl (λ e ds. ap (λ n. cond (index_there (Some (sort_of e.symbol))) n (levels (names_in x ds))) (omega arith)) es

-- indexes are as many in the order in which they came
pub levels_told : (x : List ℕ) (es : List Entry) → count_by (λ e. index_there (Some (sort_of e.symbol))) es ≡ levels (names_in x (reverse es))
levels_told x es = sym (levels_is x (reverse es) ∙ sum_by-IsPermutation _ es (reverse es) (IsPermutation-reverse es))
