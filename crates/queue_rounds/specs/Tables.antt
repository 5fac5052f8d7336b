-- the rows of a table of how customers' jobs stand
use Rattle.std.specs.Prelude.{ℕ, ◌-◌, if◌then◌else◌, List, [], ◌++◌, codes, decimal, length, replicate}
use Rattle.queue_rounds.specs.Answers.{Stands}

-- a text and behind it blanks up to this width
abbrev pub left_in : ℕ → List ℕ → List ℕ
left_in width text = text ++ replicate (width - length text) 32

-- a number, before it blanks up to this width
unfoldable pub right_in : ℕ → ℕ → List ℕ
right_in width number = replicate (width - length (decimal number)) 32 ++ decimal number

-- how a job stands, in words
unfoldable pub standing_words : Stands → List ℕ
standing_words it = it.standing ++ (if it.held then codes " held" else [])
    ++ (if it.collected then codes " collected" else [])

-- the counts of a job, one below the other: granted instructions, cards and lines
unfoldable pub counts_of : Stands → List ℕ
counts_of it = right_in 13 it.granted ++ right_in 8 it.cards ++ right_in 8 it.lines

-- a row of the table on a terminal: customer, number, counts, standing
abbrev pub row_of : List ℕ → ℕ → Stands → List ℕ
row_of customer number it = left_in 12 customer ++ right_in 8 number ++ counts_of it
    ++ codes "  " ++ standing_words it ++ codes "\n"

-- a cell of a page's table that holds a number
unfoldable pub number_cell : ℕ → List ℕ
number_cell number = codes "<td class=\"n\">" ++ decimal number ++ codes "</td>"

-- a cell of a page's table that holds a text
unfoldable pub text_cell : List ℕ → List ℕ
text_cell text = codes "<td>" ++ text ++ codes "</td>"

-- the cells of a job's counts
unfoldable pub count_cells : Stands → List ℕ
count_cells it = number_cell it.granted ++ number_cell it.cards ++ number_cell it.lines

-- a row of a page's table
abbrev pub page_row_of : List ℕ → ℕ → Stands → List ℕ
page_row_of customer number it = codes "<tr>" ++ text_cell customer ++ number_cell number
    ++ text_cell (standing_words it) ++ count_cells it ++ codes "</tr>\n"
