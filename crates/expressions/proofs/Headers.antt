-- Names that are new. Assumes nothing.
use Rattle.std.proofs.Common.{◌≡◌, true, false, not, is_some, Some, None, Option, sym, refl, ap, ◌∙◌}
use Rattle.grammar.specs.Grammar.{Word}
use Rattle.grammar.specs.Reading.{Names, find, free}
use Rattle.scope.specs.declared.Symbol.{Symbol}
use Rattle.scope.specs.Names.{sort_told}

pub told_some : (o : Option Symbol) → is_some (sort_told o) ≡ is_some o
told_some None = refl
told_some (Some s) = refl

-- a word is free if it is not found
pub free_none : (w : Word) (ns : Names) (o : Option Symbol) → sort_told o ≡ find w ns → is_some o ≡ false → free w ns ≡ true
free_none w ns o e f = ap (λ s. not (is_some s)) (sym e) ∙ ap not (told_some o ∙ f)

pub free_some : (w : Word) (ns : Names) (o : Option Symbol) → sort_told o ≡ find w ns → is_some o ≡ true → free w ns ≡ false
free_some w ns o e f = ap (λ s. not (is_some s)) (sym e) ∙ ap not (told_some o ∙ f)
