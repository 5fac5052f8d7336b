-- the limits of the texts and the numbers of a statement
use Rattle.std.specs.Prelude.{ℕ}

-- the most characters of a text: as many as the operand field has, columns 21 to 72
abbrev pub longest_text : ℕ
longest_text = 52

-- the number that each number of a source is below, since it has at most five digits
abbrev pub number_limit : ℕ
number_limit = 100000
