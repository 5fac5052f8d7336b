-- the pages of a listing
use Rattle.std.specs.Prelude.{ℕ, ◌+◌, ◌==◌, Bool, if◌then◌else◌, List, [], ◌∷◌, ◌++◌, length, codes, decimal}
use Rattle.std.specs.List.{slice_split}
use Rattle.pictures.specs.Escapes.{escaped}
use Rattle.pictures.specs.Heads.{page_head}
use Rattle.pictures.specs.declared.styles.TheConstants.{FORM_STYLE, LISTING_STYLE}

-- whether a byte is a form feed
abbrev pub is_form_feed : ℕ → Bool
is_form_feed byte = byte == 12

-- the parts of a text between its form feeds
abbrev pub parts : List ℕ → List (List ℕ)
parts text = slice_split is_form_feed text

-- the forms of a listing; an empty listing has none
abbrev pub forms_of : List ℕ → List (List ℕ)
forms_of listing = if length listing == 0 then [] else parts listing

-- what stands before the lines of a form
abbrev pub form_opening : List ℕ
form_opening = codes "<section class=\"form\"><div class=\"band\"></div>"
    ++ codes "<div class=\"strip\"></div><div class=\"strip r\"></div><pre>\n"

-- the section of a form with its number and the number of forms
unfoldable pub form_section : ℕ → ℕ → List ℕ → List ℕ
form_section number count form = form_opening ++ escaped form ++ codes "</pre><div class=\"no\">"
    ++ decimal number ++ codes " of " ++ decimal count ++ codes "</div></section>\n"

-- the sections of forms that are numbered from this number on
unfoldable pub sections_from : ℕ → ℕ → List (List ℕ) → List ℕ
sections_from number count [] = []
sections_from number count (form ∷ forms) =
    form_section number count form ++ sections_from (number + 1) count forms

-- the sections of forms
abbrev pub sections : List (List ℕ) → List ℕ
sections forms = sections_from 1 (length forms) forms

-- the head of the pages of a listing with a title
abbrev pub listing_head : List ℕ → List ℕ
listing_head title = page_head title ++ codes "<style>"
    ++ LISTING_STYLE.now ++ FORM_STYLE.now ++ codes "</style>\n"

-- the pages of a listing with a title
abbrev pub pages : List ℕ → List ℕ → List ℕ
pages title listing = listing_head title ++ sections (forms_of listing)
