-- Texts, and how reading one ends: what it is refused for, or that it is taken. Assumes nothing.
use Rattle.std.specs.Prelude.{◌≡◌, ℕ, List, [], ◌∷◌, ◌++◌, map, replicate, Some, None, codes, Option}
use Prim.Native.String.{String}
use Rattle.grammar.specs.declared.Refusal.{Refusal}
use Rattle.grammar.specs.declared.Refusal.TheVariants.{Syntax, Name, Range}
use Rattle.grammar.specs.Grammar.{Line}
use Rattle.grammar.specs.Reading.{Got, ok, bad, reading}

pub record Example : Type 0 where
  pub text : List ℕ
  pub told : Option Refusal

abbrev taken : String → Example
taken s = record { text = codes s; told = None }

abbrev syntax : ℕ → String → Example
syntax p s = record { text = codes s; told = Some (Syntax p) }

abbrev name : ℕ → String → Example
name p s = record { text = codes s; told = Some (Name p) }

abbrev range : ℕ → String → Example
range p s = record { text = codes s; told = Some (Range p) }

-- models, and the examples that the language's document gives
abbrev documented : List Example
documented =
    taken "unknown x 1 1 from 0 to 10\nwish 3 x[0] >= 7\nleast 1 x[0]\n"
    ∷ taken "set s 3\ntable worth 3 1: 60, 50, 70\ntable heavy 3 1: 5, 4, 6\nunknown x 3 1 from 0 to 1\nwish sum s i: (heavy[i] x[i]) <= 10\nleast sum s i: ((-1 * worth[i]) x[i])\n"
    ∷ taken "set s 2\nunknown x 2 2 from 0 to 3\nwish all s i: sum s j: (1 x[i, j]) = 3\nwish all s j: sum s i: (1 x[i, j]) <= 2\nleast 0\n"
    ∷ taken "set s 3\ntable cost 3 3: 9, 2, 7, 6, 4, 3, 5, 8, 1\nunknown x 3 3 from 0 to 1\nwish all s i: sum s j: (1 x[i, j]) = 1\nwish all s j: sum s i: (1 x[i, j]) = 1\nleast sum s i: (sum s j: (cost[i, j] x[i, j]))\n"
    ∷ taken "unknown x 1 1 from 0 to 9\nwish 2 x[0] = 5\nleast 0\n"
    ∷ taken "set s 3\nunknown x 3 1 from 0 to 2\nwish all s i where 0 < i: 1 x[i] >= 1 x[(i - 1)] + 1\nleast sum s i: (1 x[i])\n"
    ∷ name 0 ""
    ∷ syntax 0 "\n"
    ∷ syntax 7 "set sum 3\n"
    ∷ syntax 3 "sets 3\n"
    ∷ syntax 6 "set s  3\n"
    ∷ syntax 7 "set s 03\n"
    ∷ syntax 7 "set s 3"
    ∷ syntax 16 "set abcdefghijklm 3\n"
    ∷ range 0 "set s 1001x"
    ∷ name 12 "set s 3\nset s 4\n"
    ∷ range 0 "table t 2 2: 1, 2, 3\n"
    ∷ range 0 "table t 1 1: 1, 2\n"
    ∷ range 13 "table t 1 1: 1000000\n"
    ∷ range 19 "unknown x 1 1 from 5 to 4\nleast 0\n"
    ∷ range 24 "unknown x 1 1 from 5 to 1000001\n"
    ∷ range 8 "least 0\n"
    ∷ name 26 "unknown x 1 1 from 0 to 9\n"
    ∷ name 34 "unknown x 1 1 from 0 to 9\nleast 0\nleast 1\n"
    ∷ name 34 "unknown x 2 2 from 0 to 9\nleast 1 x[0]\n"
    ∷ name 32 "unknown x 1 1 from 0 to 9\nleast x[0]\n"
    ∷ syntax 35 "unknown x 1 1 from 0 to 9\nleast 1 x\n"
    ∷ syntax 33 "unknown x 1 1 from 0 to 9\nleast - 1 x[0]\n"
    ∷ syntax 39 "unknown x 1 1 from 0 to 9\nleast 1 x[0] <= 0\n"
    ∷ syntax 39 "unknown x 1 1 from 0 to 9\nwish 1 x[0] < 3\n"
    ∷ syntax 34 "unknown x 1 1 from 0 to 9\nwish (1 x[0]) <= 3\n"
    ∷ name 8 "least 1 x[0]\nunknown x 1 1 from 0 to 9\n"
    ∷ name 54 "set s 2\nunknown x 1 1 from 0 to 9\nwish all s i: sum s i: (1 x[i]) <= 1\n"
    ∷ name 60 "set s 2\nunknown x 1 1 from 0 to 9\nleast sum s i: (1 x[i]) + i\n"
    ∷ taken "unknown x 1000 1000 from 0 to 0\nunknown y 1 1 from 0 to 9\nleast 0\n"
    ∷ taken "unknown x 1 1 from 0 to 9\nset s 1000\nwish all s i: all s j: 0 <= 0\nleast 0\n"
    ∷ taken "unknown x 1 1 from 0 to 9\nleast (((999999 * 999999) * 999999) * 999999) x[1]\n"
    ∷ []

-- names that are not there, of another sort or there already; places; two objectives
abbrev of_names : List Example
of_names =
    name 9 "wish sum q i: (1) = 0\n"
    ∷ name 35 "unknown x 1 1 from 0 to 9\nwish all x i: 0 = 0\n"
    ∷ name 33 "table t 2 2: 1, 2, 3, 4\nwish sum t i: (1) = 0\n"
    ∷ name 26 "set s 2\nwish all s i: all i j: 0 = 0\n"
    ∷ name 9 "wish 1 + i = 0\n"
    ∷ name 14 "set s 2\nleast s\n"
    ∷ name 30 "table t 2 2: 1, 2, 3, 4\nleast t\n"
    ∷ name 6 "least t[0]\n"
    ∷ name 14 "set s 2\nleast s[0]\n"
    ∷ name 22 "set s 2\nwish all s i: i[0] = 0\n"
    ∷ name 32 "table t 2 2: 1, 2, 3, 4\nleast 1 t[0, 0]\n"
    ∷ name 26 "set s 2\nleast sum s i: (1 i[0])\n"
    ∷ name 14 "set s 2\ntable s 1 1: 0\n"
    ∷ name 16 "set s 2\nunknown s 1 1 from 0 to 0\n"
    ∷ name 30 "unknown x 1 1 from 0 to 9\nset x 1\n"
    ∷ name 19 "set s 2\nwish all s s: 0 = 0\n"
    ∷ name 46 "set s 2\nunknown x 1 1 from 0 to 9\nleast sum s x: (1)\n"
    ∷ name 28 "set s 2\nwish all s i: all s i: 0 = 0\n"
    ∷ taken "set s 2\nunknown x 1 1 from 0 to 9\nwish all s i: sum s j: (1) + sum s j: (j) = i\nset i 1\nset j 1\nleast 0\n"
    ∷ name 30 "table t 2 2: 1, 2, 3, 4\nleast t[1]\n"
    ∷ syntax 33 "table t 2 2: 1, 2, 3, 4\nleast t[1 + 1]\n"
    ∷ taken "unknown x 1 1 from 0 to 9\nunknown y 2 2 from 0 to 9\nleast 1 y[1, 0]\n"
    ∷ taken "unknown y 1 3 from 0 to 9\nleast 1 y[2]\n"
    ∷ taken "unknown y 3 1 from 0 to 9\nleast 1 y[2]\n"
    ∷ name 34 "unknown x 1 1 from 0 to 9\nleast 0\nleast \n"
    ∷ syntax 39 "unknown x 1 1 from 0 to 9\nleast 0\nleast"
    ∷ []

-- too many, too few, too large, too small
abbrev of_ranges : List Example
of_ranges =
    taken "set a 0\nset b 0\nset c 0\nset d 0\nset e 0\nset f 0\nset g 0\nset h 0\nset i 0\nset j 0\nset k 0\nset l 0\nset m 0\nset n 0\nset o 0\nset p 0\nunknown xx 1 1 from 0 to 9\nleast 0\n"
    ∷ range 128 "set a 0\nset b 0\nset c 0\nset d 0\nset e 0\nset f 0\nset g 0\nset h 0\nset i 0\nset j 0\nset k 0\nset l 0\nset m 0\nset n 0\nset o 0\nset p 0\nset "
    ∷ syntax 131 "set a 0\nset b 0\nset c 0\nset d 0\nset e 0\nset f 0\nset g 0\nset h 0\nset i 0\nset j 0\nset k 0\nset l 0\nset m 0\nset n 0\nset o 0\nset p 0\nset"
    ∷ range 240 "table a 1 1: 0\ntable b 1 1: 0\ntable c 1 1: 0\ntable d 1 1: 0\ntable e 1 1: 0\ntable f 1 1: 0\ntable g 1 1: 0\ntable h 1 1: 0\ntable i 1 1: 0\ntable j 1 1: 0\ntable k 1 1: 0\ntable l 1 1: 0\ntable m 1 1: 0\ntable n 1 1: 0\ntable o 1 1: 0\ntable p 1 1: 0\ntable "
    ∷ range 416 "unknown a 1 1 from 0 to 0\nunknown b 1 1 from 0 to 0\nunknown c 1 1 from 0 to 0\nunknown d 1 1 from 0 to 0\nunknown e 1 1 from 0 to 0\nunknown f 1 1 from 0 to 0\nunknown g 1 1 from 0 to 0\nunknown h 1 1 from 0 to 0\nunknown i 1 1 from 0 to 0\nunknown j 1 1 from 0 to 0\nunknown k 1 1 from 0 to 0\nunknown l 1 1 from 0 to 0\nunknown m 1 1 from 0 to 0\nunknown n 1 1 from 0 to 0\nunknown o 1 1 from 0 to 0\nunknown p 1 1 from 0 to 0\nunknown x"
    ∷ name 11 "set s 1000\n"
    ∷ range 0 "set s -1\n"
    ∷ syntax 10 "set s 1000x"
    ∷ range 0 "table t 0 1: 0\n"
    ∷ range 0 "table t 1 0: 0\n"
    ∷ range 0 "table t 1000 1001x"
    ∷ range 0 "unknown x 1 1001 from"
    ∷ syntax 18 "table t 1 2: 1, 2,3\n"
    ∷ range 0 "table t 1 2: 1, 2, "
    ∷ syntax 17 "table t 1 2: 1, 2 3"
    ∷ syntax 20 "table t 2 2: 1, 2, 3x"
    ∷ name 20 "table t 1 1: 999999\n"
    ∷ range 13 "table t 1 1: -1000000\n"
    ∷ range 16 "table t 1 2: 0, 1000000\n"
    ∷ taken "unknown x 1 1 from 0 to 9\nleast 999999\n"
    ∷ range 32 "unknown x 1 1 from 0 to 9\nleast -1000000\n"
    ∷ range 36 "unknown x 1 1 from 0 to 9\nleast 1 x[1000000]\n"
    ∷ range 37 "unknown x 1 1 from 0 to 9\nleast (1 + 1000000)\n"
    ∷ range 58 "set s 2\nunknown x 1 1 from 0 to 9\nleast sum s i where i < 1000000: (1)\n"
    ∷ taken "unknown x 1 1 from -1000000 to 1000000\nleast 0\n"
    ∷ range 19 "unknown x 1 1 from -1000001 to"
    ∷ range 24 "unknown x 1 1 from 0 to -1000001x"
    ∷ range 19 "unknown x 1 1 from -1 to -2\n"
    ∷ taken "unknown x 1 1 from -2 to -1\nleast 0\n"
    ∷ range 19 "unknown x 1 1 from 1 to 0x"
    ∷ []

-- too deep
abbrev of_depths : List Example
of_depths =
    taken "set s 2\nunknown x 1 1 from 0 to 9\nwish all s a: all s b: all s c: all s d: all s e: all s f: all s g: all s h: h = g\nleast 0\n"
    ∷ range 85 "set s 2\nwish all s a: all s b: all s c: all s d: all s e: all s f: all s g: all s h: all s i: 0 = 0\n"
    ∷ syntax 88 "set s 2\nwish all s a: all s b: all s c: all s d: all s e: all s f: all s g: all s h: all"
    ∷ taken "set s 2\nunknown x 1 1 from 0 to 9\nleast sum s a: (sum s b: (sum s c: (sum s d: (sum s e: (sum s f: (sum s g: (sum s h: (h))))))))\n"
    ∷ range 94 "set s 2\nleast sum s a: (sum s b: (sum s c: (sum s d: (sum s e: (sum s f: (sum s g: (sum s h: (sum "
    ∷ name 94 "set s 2\nleast sum s a: (sum s b: (sum s c: (sum s d: (sum s e: (sum s f: (sum s g: (sum s h: (sums"
    ∷ taken "set s 2\nunknown x 1 1 from 0 to 9\nwish all s a: all s b: all s c: all s d: sum s e: (sum s f: (sum s g: (sum s h: (1)))) = sum s e: (sum s f: (sum s g: (sum s h: (1))))\nleast 0\n"
    ∷ range 89 "set s 2\nwish all s a: all s b: all s c: all s d: sum s e: (sum s f: (sum s g: (sum s h: (sum s i: (1)"
    ∷ range 89 "set s 2\nwish all s a: all s b: all s c: all s d: all s e: all s f: all s g: all s h: 0 = sum s i: (1)"
    ∷ taken "unknown x 1 1 from 0 to 9\nleast ((((((((((((((((((((((((((((((((((((((((((((((((((((((((((((((((1 + 1) + 1) + 1) + 1) + 1) + 1) + 1) + 1) + 1) + 1) + 1) + 1) + 1) + 1) + 1) + 1) + 1) + 1) + 1) + 1) + 1) + 1) + 1) + 1) + 1) + 1) + 1) + 1) + 1) + 1) + 1) + 1) + 1) + 1) + 1) + 1) + 1) + 1) + 1) + 1) + 1) + 1) + 1) + 1) + 1) + 1) + 1) + 1) + 1) + 1) + 1) + 1) + 1) + 1) + 1) + 1) + 1) + 1) + 1) + 1) + 1) + 1) + 1) + 1)\n"
    ∷ range 96 "unknown x 1 1 from 0 to 9\nleast (((((((((((((((((((((((((((((((((((((((((((((((((((((((((((((((((1 + 1) + 1) + 1) + 1) + 1) + 1) + 1) + 1) + 1) + 1) + 1) + 1) + 1) + 1) + 1) + 1) + 1) + 1) + 1) + 1) + 1) + 1) + 1) + 1) + 1) + 1) + 1) + 1) + 1) + 1) + 1) + 1) + 1) + 1) + 1) + 1) + 1) + 1) + 1) + 1) + 1) + 1) + 1) + 1) + 1) + 1) + 1) + 1) + 1) + 1) + 1) + 1) + 1) + 1) + 1) + 1) + 1) + 1) + 1) + 1) + 1) + 1) + 1) + 1) + 1)\n"
    ∷ range 99 "unknown x 1 1 from 0 to 9\nleast 1 x[((((((((((((((((((((((((((((((((((((((((((((((((((((((((((((((((1 + 1) + 1) + 1) + 1) + 1) + 1) + 1) + 1) + 1) + 1) + 1) + 1) + 1) + 1) + 1) + 1) + 1) + 1) + 1) + 1) + 1) + 1) + 1) + 1) + 1) + 1) + 1) + 1) + 1) + 1) + 1) + 1) + 1) + 1) + 1) + 1) + 1) + 1) + 1) + 1) + 1) + 1) + 1) + 1) + 1) + 1) + 1) + 1) + 1) + 1) + 1) + 1) + 1) + 1) + 1) + 1) + 1) + 1) + 1) + 1) + 1) + 1) + 1) + 1)]\n"
    ∷ taken "table t 1 1: 0\nunknown x 1 1 from 0 to 9\nleast t[t[t[t[t[t[t[t[t[t[t[t[t[t[t[t[t[t[t[t[t[t[t[t[t[t[t[t[t[t[t[t[t[t[t[t[t[t[t[t[t[t[t[t[t[t[t[t[t[t[t[t[t[t[t[t[t[t[t[t[t[t[t[t[0]]]]]]]]]]]]]]]]]]]]]]]]]]]]]]]]]]]]]]]]]]]]]]]]]]]]]]]]]]]]]]]]\n"
    ∷ range 150 "table t 1 1: 0\nleast t[t[t[t[t[t[t[t[t[t[t[t[t[t[t[t[t[t[t[t[t[t[t[t[t[t[t[t[t[t[t[t[t[t[t[t[t[t[t[t[t[t[t[t[t[t[t[t[t[t[t[t[t[t[t[t[t[t[t[t[t[t[t[t[t["
    ∷ taken "set s 2\nunknown x 1 1 from 0 to 9\nleast sum s i: ((((((((((((((((((((((((((((((((((((((((((((((((((((((((((((((((1 + 1) + 1) + 1) + 1) + 1) + 1) + 1) + 1) + 1) + 1) + 1) + 1) + 1) + 1) + 1) + 1) + 1) + 1) + 1) + 1) + 1) + 1) + 1) + 1) + 1) + 1) + 1) + 1) + 1) + 1) + 1) + 1) + 1) + 1) + 1) + 1) + 1) + 1) + 1) + 1) + 1) + 1) + 1) + 1) + 1) + 1) + 1) + 1) + 1) + 1) + 1) + 1) + 1) + 1) + 1) + 1) + 1) + 1) + 1) + 1) + 1) + 1) + 1))\n"
    ∷ range 87 "set s 2\nleast sum s i: (((((((((((((((((((((((((((((((((((((((((((((((((((((((((((((((((1 + 1) + 1) + 1) + 1) + 1) + 1) + 1) + 1) + 1) + 1) + 1) + 1) + 1) + 1) + 1) + 1) + 1) + 1) + 1) + 1) + 1) + 1) + 1) + 1) + 1) + 1) + 1) + 1) + 1) + 1) + 1) + 1) + 1) + 1) + 1) + 1) + 1) + 1) + 1) + 1) + 1) + 1) + 1) + 1) + 1) + 1) + 1) + 1) + 1) + 1) + 1) + 1) + 1) + 1) + 1) + 1) + 1) + 1) + 1) + 1) + 1) + 1) + 1) + 1))\n"
    ∷ range 101 "set s 2\nleast sum s i: (sum s j where ((((((((((((((((((((((((((((((((((((((((((((((((((((((((((((((((1 + 1) + 1) + 1) + 1) + 1) + 1) + 1) + 1) + 1) + 1) + 1) + 1) + 1) + 1) + 1) + 1) + 1) + 1) + 1) + 1) + 1) + 1) + 1) + 1) + 1) + 1) + 1) + 1) + 1) + 1) + 1) + 1) + 1) + 1) + 1) + 1) + 1) + 1) + 1) + 1) + 1) + 1) + 1) + 1) + 1) + 1) + 1) + 1) + 1) + 1) + 1) + 1) + 1) + 1) + 1) + 1) + 1) + 1) + 1) + 1) + 1) + 1) + 1) + 1) = 0: (1))\n"
    ∷ []

-- words
abbrev of_words : List Example
of_words =
    taken "set abcdefghijkl 0\nunknown x 1 1 from 0 to 9\nleast sum abcdefghijkl i: (i)\n"
    ∷ syntax 16 "set a123456789012"
    ∷ syntax 4 "set 1a 0\n"
    ∷ syntax 4 "set A 0\n"
    ∷ syntax 9 "set table 0\n"
    ∷ syntax 8 "set from 0\n"
    ∷ syntax 9 "set where 0\n"
    ∷ syntax 7 "set and 0\n"
    ∷ syntax 6 "set or 0\n"
    ∷ syntax 8 "set then 0\n"
    ∷ taken "set summ 0\nset allx 0\nset tot 0\nset o 0\nunknown x 1 1 from 0 to 9\nleast 0\n"
    ∷ syntax 10 "unknown to 1 1 from 0 to 0\n"
    ∷ syntax 9 "least all s i: 1\n"
    ∷ syntax 9 "least and[0]\n"
    ∷ syntax 11 "least 1 sum\n"
    ∷ syntax 10 "least (all + 1)\n"
    ∷ syntax 12 "wish 1 + all s i: 0 = 0\n"
    ∷ syntax 21 "set s 2\nwish sum from i: (1) = 0\n"
    ∷ syntax 22 "set s 2\nwish all s sum: 0 = 0\n"
    ∷ syntax 18 "least abcdefghijklm\n"
    ∷ syntax 20 "least 1 abcdefghijklm[0]\n"
    ∷ name 13 "set s 2\nwish allx = 0\n"
    ∷ taken "set s 2\nwish all s al: al = al\nunknown x 1 1 from 0 to 9\nleast 0\n"
    ∷ []

-- no text goes on so: lines, declarations, numbers, conditions, sums, constraints
abbrev of_syntax : List Example
of_syntax =
    syntax 0 " set s 1\n"
    ∷ syntax 3 "set\n"
    ∷ syntax 7 "set s 1 \n"
    ∷ syntax 8 "set s 1\n\n"
    ∷ syntax 1 "sat s 1\n"
    ∷ syntax 4 "wishx"
    ∷ syntax 6 "set s +1\n"
    ∷ syntax 7 "set s -0\n"
    ∷ syntax 11 "table t 1 1\n"
    ∷ syntax 12 "table t 1 1:0\n"
    ∷ syntax 14 "table t 1 2: 0 1\n"
    ∷ syntax 15 "table t 1 2: 0,\n"
    ∷ syntax 14 "table t 1 1: 01\n"
    ∷ syntax 14 "unknown x 1 1 to 1\n"
    ∷ syntax 20 "unknown x 1 1 from 0\n"
    ∷ syntax 25 "unknown x 1 1 from 0 to 1"
    ∷ syntax 7 "least (\n"
    ∷ syntax 8 "least (1)\n"
    ∷ syntax 10 "least (1 +1)\n"
    ∷ syntax 9 "least (1 / 1)\n"
    ∷ syntax 12 "least (1 + 1 + 1)\n"
    ∷ syntax 6 "least +1\n"
    ∷ syntax 7 "least -(1 + 1)\n"
    ∷ syntax 25 "table t 1 1: 0\nleast t[0,0]\n"
    ∷ syntax 27 "table t 1 1: 0\nleast t[0, 0, 0]\n"
    ∷ syntax 27 "table t 1 1: 0\nleast t[0, 0)\n"
    ∷ name 6 "least t(0, 0)\n"
    ∷ syntax 37 "unknown x 1 1 from 0 to 9\nleast 1 x[0\n"
    ∷ syntax 26 "set s 2\nwish all s i where: 0 = 0\n"
    ∷ syntax 28 "set s 2\nwish all s i where i: 0 = 0\n"
    ∷ syntax 29 "set s 2\nwish all s i where i > 0: 0 = 0\n"
    ∷ syntax 30 "set s 2\nwish all s i where i <= 0: 0 = 0\n"
    ∷ syntax 37 "set s 2\nwish all s i where i <> 0 and: 0 = 0\n"
    ∷ syntax 34 "set s 2\nwish all s i where i <> 0 or i = 1: 0 = 0\n"
    ∷ syntax 33 "set s 2\nwish all s i where i = 0 : 0 = 0\n"
    ∷ taken "set s 2\nunknown x 1 1 from 0 to 9\nwish all s i where i <> 0 and i < 2 and 1 = i: i = 0\nleast 0\n"
    ∷ syntax 10 "least sum \n"
    ∷ syntax 19 "set s 2\nleast sum s\n"
    ∷ syntax 21 "set s 2\nleast sum s i\n"
    ∷ syntax 23 "set s 2\nleast sum s i: 1\n"
    ∷ syntax 25 "set s 2\nleast sum s i: (1\n"
    ∷ syntax 31 "set s 2\nleast sum s i: (1 + 1) x[0]\n"
    ∷ syntax 26 "set s 2\nleast sum s i: (1 <= 2)\n"
    ∷ syntax 27 "set s 2\nleast sum s i: (all s j: 1)\n"
    ∷ syntax 10 "least 1 + \n"
    ∷ syntax 7 "least 1+ 1\n"
    ∷ syntax 8 "least 1 * 1\n"
    ∷ syntax 39 "unknown x 1 1 from 0 to 9\nleast 1 x[0] x[0]\n"
    ∷ syntax 39 "unknown x 1 1 from 0 to 9\nleast 1 x[0] \n"
    ∷ taken "table t 2 2: 1, 2, 3, 4\nunknown x 1 1 from 0 to 9\nleast 1 x[0] - -1 + t[0, 1] x[0, 0] + 0\n"
    ∷ syntax 6 "wish 1\n"
    ∷ syntax 8 "wish 1 <\n"
    ∷ syntax 8 "wish 1 <> 2\n"
    ∷ syntax 9 "wish 1 <=2\n"
    ∷ syntax 6 "wish 1<= 2\n"
    ∷ syntax 8 "wish 1 > 2\n"
    ∷ syntax 8 "wish 1 == 2\n"
    ∷ syntax 11 "wish 1 = 2 = 3\n"
    ∷ syntax 10 "wish 1 + 1\n"
    ∷ syntax 11 "wish 1 = 2 \n"
    ∷ syntax 7 "wish 1 ! 2\n"
    ∷ syntax 26 "set s 2\nwish sum s i: (1) x[0] = 1\n"
    ∷ syntax 8 "wish all\n"
    ∷ syntax 25 "set s 2\nwish all s i: (0 = 0)\n"
    ∷ taken "set s 2\ntable t 2 2: 1, 2, 3, 4\nunknown x 1 1 from 0 to 9\nwish 1 x[0] + 2 x[0] - sum s i: (i) >= 1 - t[0, 0] x[0]\nleast 0\n"
    ∷ []

-- a number that goes on past byte 65,536
abbrev too_long : Example
too_long = record { text = codes "set s " ++ replicate 65531 49; told = Some (Range 65536) }

abbrev pub examples : List Example
examples = too_long ∷ documented ++ of_names ++ of_ranges ++ of_depths ++ of_words ++ of_syntax

abbrev pub refused : Got (List Line) → Option Refusal
refused (ok ls e) = None
refused (bad q) = Some q

abbrev pub ExamplesRead : Type 0
ExamplesRead = map (λ e. refused (reading e.text)) examples ≡ map (λ e. e.told) examples
