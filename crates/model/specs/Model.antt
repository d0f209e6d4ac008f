-- A language for integer programs: sets, tables, variable arrays, constraints over sets. What there is; what it means stands in Meaning. Assumes nothing.
use Rattle.std.specs.Prelude.{ℕ, List, ℤ, Option}
use Rattle.model.specs.declared.Operator.{Operator}
use Rattle.model.specs.declared.Relation.{Relation}
use Rattle.model.specs.declared.Comparison.{Comparison}
use Rattle.model.specs.declared.Sign.{Sign}

-- a number: fixed; an index in force, the outermost being 0; an entry of a table, by row and column; two numbers joined
pub data Num : Type 0 where
  fixed : ℤ → Num
  index : ℕ → Num
  entry : ℕ → Num → Num → Num
  joined : Operator → Num → Num → Num

-- a condition on numbers; two conditions, of which the second is looked at where the first holds
pub data Cond : Type 0 where
  relate : Relation → Num → Num → Cond
  both : Cond → Cond → Cond

-- a linear sum: a number; a number times a variable of an array, by row and column; a sum over a set, where a condition holds; a term with its sign, and what follows it; nothing
pub data Lin : Type 0 where
  amount : Num → Lin
  term : Num → ℕ → Num → Num → Lin
  sum_over : ℕ → Option Cond → Lin → Lin
  chain : Sign → Lin → Lin → Lin
  nothing : Lin

-- a constraint: two sides compared; a constraint for all of a set, where a condition holds
pub data Constraint : Type 0 where
  compare : Comparison → Lin → Lin → Constraint
  for_all : ℕ → Option Cond → Constraint → Constraint

-- a table: its numbers row by row
pub record Table : Type 0 where
  pub rows : ℕ
  pub columns : ℕ
  pub numbers : List ℤ

-- an array of variables, all with the same bounds
pub record Array : Type 0 where
  pub rows : ℕ
  pub columns : ℕ
  pub lower : ℤ
  pub upper : ℤ

-- what the names of a model stand for; a set of size n is 0 up to n - 1
pub record Symbols : Type 0 where
  pub sets : List ℕ
  pub tables : List Table
  pub arrays : List Array

pub record Model : Type 0 where
  pub symbols : Symbols
  pub constraints : List Constraint
  pub objective : Lin
