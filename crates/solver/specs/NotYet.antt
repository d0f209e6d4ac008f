-- What is said of what is not there yet. Assumes nothing.
use Rattle.std.specs.Prelude.{ℕ, List, codes}
use Rattle.solver.specs.declared.NotYet.{NotYet}
use Rattle.solver.specs.declared.NotYet.TheVariants.{Certificates, Texts}

abbrev pub words_of : NotYet → List ℕ
words_of Certificates = codes "not there yet: no certificate can be checked"
words_of Texts = codes "not there yet: no model can be read"
