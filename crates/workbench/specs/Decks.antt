-- the decks that subcommands read, and what a manifest says of one
use Rattle.std.specs.Prelude.{ℕ, ◌≡◌, ◌⊎◌, Bool, false, if◌then◌else◌, List, Option, Some, None}
use Rattle.card_forms.specs.Forms.{form_told}
use Rattle.card_forms.specs.ImageFaults.{IsFirstOdd, IsImageFault, out_of_memory}
use Rattle.card_forms.specs.ImageFiles.{IsImageFile, has_file}
use Rattle.card_forms.specs.declared.forms.Form.{Form}
use Rattle.card_forms.specs.declared.image_faults.ImageFault.{ImageFault}
use Rattle.card_forms.specs.declared.images.CardImage.{CardImage}
use Rattle.card_tools.specs.Manifests.{counted_line, manifest_line}

-- the form of a file: the one that is named, or else the one that its first line tells
abbrev pub form_of : Option Form → List ℕ → Form
form_of (Some form) bytes = form
form_of None bytes = form_told bytes

-- the line of a deck with a name in a manifest, with the number of its cards or without
abbrev pub line_by : Bool → List CardImage → List ℕ → List ℕ
line_by counts deck name = if counts then counted_line deck name else manifest_line deck name

-- why cards are not written in a form: want of memory, or the first column that is no character
abbrev pub IsUnwritten : Form → List CardImage → ImageFault → Type 0
IsUnwritten form images fault =
    (fault ≡ out_of_memory) ⊎ ((has_file form images ≡ false) × IsFirstOdd images fault)

-- why a file of one form is not made one of another: it is none of the first, or its cards are not
-- written in the second
abbrev pub IsUnconverted : Form → List ℕ → Form → ImageFault → Type 0
IsUnconverted reads bytes writes fault = IsImageFault reads bytes fault
    ⊎ ((images : List CardImage) × IsImageFile reads bytes images × IsUnwritten writes images fault)
