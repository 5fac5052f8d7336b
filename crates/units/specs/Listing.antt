-- the listing of printed lines
use Rattle.std.specs.Io.KnownBytes.{Appends, append_known}
use Rattle.std.specs.Prelude.{ℕ, ◌≡◌, ◌-◌, ◌<◌, ◌⊎◌, ◌==◌, ◌&&◌, max, List, [], ◌∷◌, ◌++◌, map, filter, fold, find, take, length, replicate, Option, if◌then◌else◌, codes}
use Rattle.std.specs.List.{All, AllAdjacentBelow, list_any, flat_map, join_with_byte, dedup, range_with_len, suffix_len}
use Rattle.std.specs.Option.{option_map_or}
use Rattle.bcd.specs.Table.{glyph_of, byte}
use Rattle.units.specs.declared.printer.Line.{Line}
use Rattle.units.specs.declared.ranges.Place.{Place}
use Rattle.cards.specs.Files.{line_feed}

-- the glyphs that the printer's chain does not have
abbrev pub not_on_the_chain : List ℕ
not_on_the_chain = codes ":>\"^=\\+];_[<}"

-- the glyph that is printed for a blank
abbrev pub blank : ℕ
blank = byte (codes " ")

-- the glyph that is printed for a character: its own if the chain has it, else a blank
unfoldable pub shown : ℕ → ℕ
shown code = if list_any (λ g. glyph_of code == g) not_on_the_chain then blank else glyph_of code

-- the byte between two forms
abbrev pub form_feed : ℕ
form_feed = 12

-- a text without the blanks at its end
abbrev pub without_trailing_blanks : List ℕ → List ℕ
without_trailing_blanks text = take (length text - suffix_len (λ g. g == blank) text) text

-- the glyphs that a printed line shows, without the blanks at its end
unfoldable pub text_of : List ℕ → List ℕ
text_of print_area = without_trailing_blanks (map shown print_area)

-- what was printed at a line of a form, if anything was
unfoldable pub printed_at : List Line → ℕ → ℕ → Option Line
printed_at lines form number = find (λ l. l.form == form && l.line == number) lines

-- a line of a form in the listing: the text that was printed there, if any, and a line feed
unfoldable pub listed_line : List Line → ℕ → ℕ → List ℕ
listed_line lines form number =
    option_map_or (λ l. text_of l.codes) (printed_at lines form number) [] ++ line_feed ∷ []

-- the number of the last printed line of a form, 0 if there is none
unfoldable pub last_line : List Line → ℕ → ℕ
last_line lines form = fold max 0 (map (λ l. l.line) (filter (λ l. l.form == form) lines))

-- a form in the listing: its lines from line 1 to the last printed one
unfoldable pub page : List Line → ℕ → List ℕ
page lines form = flat_map (listed_line lines form) (range_with_len 1 (last_line lines form))

-- the numbers of the forms that have a printed line, each once
abbrev pub forms_of : List Line → List ℕ
forms_of lines = dedup ◌==◌ (map (λ l. l.form) lines)

-- the listing of printed lines: the pages of their forms, with a form feed between two pages
unfoldable pub rendered : List Line → List ℕ
rendered lines = join_with_byte form_feed (map (page lines) (forms_of lines))

-- a form feed between two forms, the first of them 0 where the listing begins
abbrev pub form_feed_between : ℕ → ℕ → List ℕ
form_feed_between form next =
    if form == next then [] else (if form == 0 then [] else form_feed ∷ [])

-- the last listed line of the form that comes next, where the listing has come to a line of a form
abbrev pub done_on : ℕ → ℕ → ℕ → ℕ
done_on form done next = if form == next then done else 0

-- what a printed line adds to a listing that has come to a line of a form, 0 of 0 where it begins: a
-- form feed before another form, the empty lines above the line, what was printed and a line feed
unfoldable pub added_after : ℕ → ℕ → Line → List ℕ
added_after form done line =
    form_feed_between form line.form
    ++ (replicate (line.line - done_on form done line.form - 1) line_feed
    ++ (text_of line.codes ++ line_feed ∷ []))

-- the most bytes that a printed line adds to a listing: a form feed, 255 empty lines, its 132
-- characters and a line feed
abbrev pub most_added : ℕ
most_added = 389

-- a line is above another: on an earlier form, or higher on the same one
abbrev pub IsAbove : Line → Line → Type 0
IsAbove x y = (x.form < y.form) ⊎ ((x.form ≡ y.form) × (x.line < y.line))

-- lines in the order of printing: each is on a line of a form, and above the next
pub record IsRising (lines : List Line) : Type 0 where
  pub on_forms : All (λ l. (0 < l.form) × (0 < l.line)) lines
  pub in_order : AllAdjacentBelow IsAbove lines (length lines)

-- ---- a listing that is written while its lines are printed

-- the form of the last of these lines, 0 if there is none
abbrev pub last_form : List Line → ℕ
last_form lines = fold (λ _ form. form) 0 (map (λ l. l.form) lines)

-- these bytes are the listing of these lines, which has come to this line of this form, 0 of 0 where
-- it begins
pub record IsListedTo (lines : List Line) (bytes : List ℕ) (on number : ℕ) : Type 0 where
  pub text : bytes ≡ rendered lines
  pub form : on ≡ last_form lines
  pub done : number ≡ last_line lines on
  pub none : on ≡ 0 → lines ≡ []

-- a listing that is being written: the piece of it that is not written yet, and the place to which
-- it has come
pub record Unwritten : Type 0 where
  pub piece : List ℕ
  pub place : Place

-- what was written since the first of these, and behind it the piece, is the listing of these lines
pub record HasListed (first now : Option (List ℕ)) (w : Unwritten) (lines : List Line) : Type 0
  where
    pub bytes : List ℕ
    pub written : Appends first (append_known now w.piece) bytes
    pub listed : IsListedTo lines bytes w.place.form w.place.line
