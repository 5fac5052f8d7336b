-- the texts of a film's changes
use Rattle.std.specs.Prelude.{ℕ, ◌==◌, Bool, if◌then◌else◌, List, [], ◌∷◌, ◌++◌, length, map, slice_index, codes, decimal, Option}
use Rattle.std.specs.List.{flat_map}
use Rattle.cards.specs.Files.{line_feed}
use Rattle.machine.specs.Run.{State, step}
use Rattle.units.specs.declared.printer.Line.{Line}
use Rattle.units.specs.declared.punch.Punched.{Punched}
use Rattle.run_traces.specs.Names.{Named}
use Rattle.run_traces.specs.Statements.{statement_next}
use Rattle.films.specs.Changes.{Item, cell_is, change, is_same_cell, number_is, printed, punched}
use Rattle.films.specs.Frames.{card_shown, frame_of, line_shown, nothing}
use Rattle.films.specs.Signs.{sign_of_code, signs_of}
use Rattle.films.specs.Worked.{worked}

-- the letters of a frame's numbers
abbrev pub letters : List ℕ
letters = codes "iabcotwfnrkxlq"

-- the contents of a position: an apostrophe if it has a word mark, and the sign of its character
abbrev pub cell_text : ℕ × Bool → List ℕ
cell_text cell = (if cell.1 then codes "'" else []) ++ sign_of_code cell.0 ∷ []

-- the word for an item: of a number its letter and the number, of a position its address and its
-- contents, of a line its form, its line and its signs, of a card its pocket and its signs
abbrev pub item_text : Item → List ℕ
item_text (number_is place value) = slice_index letters place ∷ decimal value
item_text (cell_is position cell) = decimal position ++ codes ":" ++ cell_text cell
item_text (printed line) =
    codes "p" ++ decimal line.form ++ codes "." ++ decimal line.line ++ codes ":" ++ line.signs
item_text (punched card) = codes "u" ++ decimal card.pocket ++ codes ":" ++ card.signs

-- a blank, and a word behind it
abbrev pub spaced : List ℕ → List ℕ
spaced word = codes " " ++ word

-- words, each with a blank before it
abbrev pub words_text : List (List ℕ) → List ℕ
words_text words = flat_map spaced words

-- the words for items
abbrev pub item_texts : List Item → List (List ℕ)
item_texts items = map item_text items

-- the words for items, each with a blank before it
abbrev pub items_text : List Item → List ℕ
items_text items = words_text (item_texts items)

-- the word for the number at a place, with a blank before it, if it is another one than before
abbrev pub number_words : ℕ → ℕ → ℕ → List ℕ
number_words place old new =
    if old == new then [] else spaced (item_text (number_is place new))

-- the word for a position, with a blank before it, if its contents are others than before
abbrev pub cell_words : ℕ → ℕ × Bool → ℕ × Bool → List ℕ
cell_words position old new =
    if is_same_cell old new then [] else spaced (item_text (cell_is position new))

-- the word for a printed line, with a blank before it
abbrev pub line_words : Line → List ℕ
line_words line = spaced (item_text (printed (line_shown line)))

-- the word for a punched card, with a blank before it
abbrev pub card_words : Punched → List ℕ
card_words card = spaced (item_text (punched (card_shown card)))

-- the line of a change with these words
unfoldable pub change_line : List (List ℕ) → List ℕ
change_line words = codes "C" ++ words_text words ++ line_feed ∷ []

-- the line of the first frame, of a machine
unfoldable pub first_line : ℕ → ℕ → State → List ℕ
first_line lines cards m = change_line
    (item_texts (change (nothing (length m.works.storage)) (frame_of lines cards m)))

-- the word for a statement with these glyphs, if there is one: `d` and their signs
abbrev pub statement_words : List ℕ → List (List ℕ)
statement_words [] = []
statement_words (glyph ∷ text) = (codes "d" ++ signs_of (glyph ∷ text)) ∷ []

-- the word for the statement that has the characters of the instruction that a machine attempts
-- next, by the names of a source; none if no statement has them
unfoldable pub said : Option Named → State → List (List ℕ)
said names m = statement_words (statement_next names m)

-- the line of the step that a machine makes next: the statement of its instruction, the positions
-- at which it works, and its change
unfoldable pub step_line : Option Named → ℕ → ℕ → State → List ℕ
step_line names lines cards m = change_line (said names m ++ worked m
    ++ item_texts (change (frame_of lines cards m) (frame_of lines cards (step m))))
