-- The texts of the table are read as it says: one computation. Assumes nothing.
use Rattle.std.proofs.Common.{refl}
use Rattle.grammar.specs.Grammar.{member}
use Rattle.grammar.specs.Reading.{then, literal, front, word, name, numeral, find, operator, place, named, fixed_at, pair, any_num, num, relation, condition, levels, header, sum_at, after, after_num, term_then, sign, terms, lin, comparison, behind_left, sides, any_row, row, set_at, shape, numerals, table_at, array_at, least_at, wish_at, line, behind, lines}
use Rattle.grammar.specs.Examples.{ExamplesRead}

pub examples_read : ExamplesRead
unfolding member then literal front word name numeral find operator place named fixed_at pair any_num num relation condition levels header sum_at after after_num term_then sign terms lin comparison behind_left sides any_row row set_at shape numerals table_at array_at least_at wish_at line behind lines
examples_read = refl
