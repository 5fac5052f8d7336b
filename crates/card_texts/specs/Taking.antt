-- a file of which nothing is known, taken as a deck
use Rattle.std.specs.Prelude.{ℕ, ◌≡◌, ◌≢◌, ⊤, ◌⊎◌, Bool, true, false, ◌&&◌, ◌||◌, List, [], Option, Some, None, Result, Ok, Err}
use Rattle.std.specs.Global.{Vec}
use Rattle.cards.specs.declared.Card.{Card}
use Rattle.cards.specs.Decks.{IsDeck}
use Rattle.cards.specs.Files.{text_of}
use Rattle.card_forms.specs.declared.Form as forms
use Rattle.card_forms.specs.declared.Form.TheVariants as form
use Rattle.card_forms.specs.Forms.{IsFileOf}
use Rattle.card_texts.specs.declared.rules.Rules.{Rules}
use Rattle.card_texts.specs.declared.rules.Signs.{Signs}
use Rattle.card_texts.specs.declared.rules.Signs.TheVariants.{Bureau, Simh}
use Rattle.card_texts.specs.declared.taking.Way.{Way}
use Rattle.card_texts.specs.declared.taking.Way.TheVariants.{Punch, Binary, Text}
use Rattle.card_texts.specs.declared.taking.Reading.{Reading}
use Rattle.card_texts.specs.declared.taking.Untaken.{Untaken}
use Rattle.card_texts.specs.declared.taking.Untaken.TheVariants.{NoMemory, Differ, Faults}
use Rattle.card_texts.specs.Punching.{deck_text_of, faults_of}

-- the rules with these signs, and with small letters as capitals or not
abbrev pub ruled : Rules → Signs → Bool → Rules
ruled rules signs folds = record rules { signs = signs; folds = folds }

-- the rules for a text in these signs
abbrev pub signed : Rules → Signs → Rules
signed rules signs = ruled rules signs rules.folds

-- the same with small letters as capitals
abbrev pub folded : Rules → Signs → Rules
folded rules signs = ruled rules signs true

-- the bytes are a file, in this form, of the deck with this text
abbrev pub IsFileWith : forms.Form → List ℕ → List ℕ → Type 0
IsFileWith form bytes text =
    (deck : List Card) × IsDeck deck × IsFileOf form bytes deck × (text ≡ text_of deck)

-- what was found of bytes in this form: the text of the one deck of which they are a file, or that
-- they are no such file
abbrev pub IsTextIf : forms.Form → List ℕ → Option (Vec ℕ) → Type 0
IsTextIf form bytes None = (text : List ℕ) → IsFileWith form bytes text → ⊥
IsTextIf form bytes (Some text) = IsFileWith form bytes text.items
    × ((other : List ℕ) → IsFileWith form bytes other → other ≡ text.items)

-- by these rules the bytes are a text without faults, of the deck with this text
abbrev pub IsTextWith : Rules → List ℕ → List ℕ → Type 0
IsTextWith rules bytes text = (faults_of rules bytes ≡ []) × (text ≡ deck_text_of rules bytes)

-- read in this way, a file is the deck with this text
abbrev pub Reads : Rules → List ℕ → Way → List ℕ → Type 0
Reads rules bytes Punch text = IsFileWith form.Punch bytes text
Reads rules bytes Binary text = IsFileWith form.Binary bytes text
Reads rules bytes (Text signs) text = IsTextWith (signed rules signs) bytes text

-- a text in these signs has not only faults that small letters as capitals would take away
abbrev pub IsUnfolded : Rules → List ℕ → Signs → Type 0
IsUnfolded rules bytes signs =
    faults_of (folded rules signs) bytes ≡ [] → faults_of (signed rules signs) bytes ≡ []

-- whether these are the same signs
abbrev pub is_same : Signs → Signs → Bool
is_same Bureau Bureau = true
is_same Simh Simh = true
is_same one other = false

-- whether these are the same way
abbrev pub is_way : Way → Way → Bool
is_way Punch Punch = true
is_way Binary Binary = true
is_way (Text one) (Text other) = is_same one other
is_way one other = false

-- whether a way is tried: where the signs of a text are named, a text is read in no others
abbrev pub is_tried : Option Signs → Way → Bool
is_tried (Some named) (Text signs) = is_same named signs
is_tried named way = true

-- no text in signs that are tried has only such faults
abbrev pub AreUnfolded : Rules → Option Signs → List ℕ → Type 0
AreUnfolded rules named bytes =
    (signs : Signs) → is_tried named (Text signs) ≡ true → IsUnfolded rules bytes signs

-- whether this is the way of a text in these signs, and is tried
abbrev pub is_text_tried : Option Signs → Signs → Way → Bool
is_text_tried named signs way = is_way (Text signs) way && is_tried named way

-- whether this is the way of a file that tells its holes
abbrev pub is_card_way : Way → Bool
is_card_way way = is_way Punch way || is_way Binary way

-- whether this is the way of a text, and is tried
abbrev pub is_text_way : Option Signs → Way → Bool
is_text_way named way = is_text_tried named Bureau way || is_text_tried named Simh way

-- what was found in these ways: a deck that one of them reads, where each other one reads the same
-- or none; or that none of them reads one
abbrev pub IsFound : Rules → List ℕ → (Way → Bool) → Option Reading → Type 0
IsFound rules bytes ways None =
    (way : Way) → ways way ≡ true → (text : List ℕ) → Reads rules bytes way text → ⊥
IsFound rules bytes ways (Some it) = (ways it.way ≡ true) × Reads rules bytes it.way it.text.items
    × ((way : Way) → ways way ≡ true → (text : List ℕ) → Reads rules bytes way text
    → text ≡ it.text.items)

-- two findings as one, or that they differ
abbrev pub IsJoined : Option Reading → Option Reading → Result (Option Reading) Untaken → Type 0
IsJoined None other (Ok found) = found ≡ other
IsJoined (Some one) None (Ok found) = found ≡ Some one
IsJoined (Some one) (Some other) (Ok found) =
    (found ≡ Some one) × (one.text.items ≡ other.text.items)
IsJoined (Some one) (Some other) (Err (Differ way second)) =
    (way ≡ one.way) × (second ≡ other.way) × (one.text.items ≢ other.text.items)
IsJoined one other result = ⊥

-- a file was taken as a deck: one of the ways that are tried reads it so, by the rules as they are,
-- and each other one reads the same deck or none. No text is one only with small letters as capitals
pub record IsTaken (rules : Rules) (named : Option Signs) (bytes : List ℕ) (it : Reading) : Type 0 where
  pub tried : is_tried named it.way ≡ true
  pub reads : Reads rules bytes it.way it.text.items
  pub alone : (way : Way) → is_tried named way ≡ true → (text : List ℕ) →
      Reads rules bytes way text → text ≡ it.text.items
  pub unfolded : AreUnfolded rules named bytes

-- a file is read in both of these ways, and as two decks
pub record DiffersBy (rules : Rules) (named : Option Signs) (bytes : List ℕ) (one other : Way) : Type 0 where
  pub first : List ℕ
  pub second : List ℕ
  pub one_tried : is_tried named one ≡ true
  pub other_tried : is_tried named other ≡ true
  pub one_reads : Reads rules bytes one first
  pub other_reads : Reads rules bytes other second
  pub differ : first ≢ second

-- the signs of which the faults of a file are told that is read in no way: those that are named, or
-- the bureau's
abbrev pub told_signs : Option Signs → Signs
told_signs (Some named) = named
told_signs None = Bureau

-- a file is read in no way
abbrev pub IsUnread : Rules → Option Signs → List ℕ → Type 0
IsUnread rules named bytes = (way : Way) → is_tried named way ≡ true → (text : List ℕ) →
    Reads rules bytes way text → ⊥

-- why a file is told by its faults as a text in these signs: it is one only with small letters as
-- capitals, or it is read in no way
abbrev pub IsAtFault : Rules → Option Signs → List ℕ → Signs → Type 0
IsAtFault rules named bytes signs =
    ((is_tried named (Text signs) ≡ true) × (faults_of (folded rules signs) bytes ≡ []))
    ⊎ ((signs ≡ told_signs named) × IsUnread rules named bytes)

-- why a file is not taken: want of memory, two decks, or the faults that it has as a text
abbrev pub IsUntaken : Rules → Option Signs → List ℕ → Untaken → Type 0
IsUntaken rules named bytes NoMemory = ⊤
IsUntaken rules named bytes (Differ one other) = DiffersBy rules named bytes one other
IsUntaken rules named bytes (Faults signs faults) =
    (faults.items ≡ faults_of (signed rules signs) bytes) × (faults.items ≢ [])
    × IsAtFault rules named bytes signs
