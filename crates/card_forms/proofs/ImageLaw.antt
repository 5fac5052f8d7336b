-- the place of a fault is the only one, and no images have a file with a fault
use Rattle.std.proofs.Common.{◌≡◌, ◌≢◌, ℕ, ◌+◌, ◌/◌, ◌%◌, ◌<◌, ◌≤◌, List, [], ◌∷◌, ◌++◌, refl, sym, ◌∙◌, ap, arith, length, append_assoc, append-nil, inl, inr, Result, Ok, Err, IfOk, IfErr, MatchResult}
use Rattle.std.specs.List.{flat_map, All}
use Rattle.std.proofs.lemmas.Bool.{cases_lt, ltb-true}
use Rattle.std.proofs.lemmas.List.{nil_from_length, length-append}
use Rattle.bcd.proofs.Tables.{glyphs_differ}
use Rattle.bcd.specs.Table.{punches_of}
use Rattle.cards.proofs.FormColumns.{hexadecimal_differ}
use Rattle.cards.proofs.Pieces.{AreApart, goes_on, same_pieces, Next, next_of}
use Rattle.card_forms.proofs.ImageCharacters.{glyph_of_character, punches_back}
use Rattle.card_forms.proofs.ImageColumns.{line_long}
use Rattle.card_forms.specs.ImageFaults.{IsCardFault, IsFaultIn, IsFirstFaultIn, out_of_memory}
use Rattle.card_forms.specs.ImageFiles.{AreLines, IsImageFile, IsImageIn, MayStand, column_of, end_of, line_of, lines_of}
use Rattle.card_forms.specs.Images.{character_of}
use Rattle.card_forms.specs.declared.columns.ColumnForm.{ColumnForm}
use Rattle.card_forms.specs.declared.columns.ColumnForm.TheVariants.{Glyph, Digits, Bits}
use Rattle.card_forms.specs.PunchFiles.{in_capitals}
use Rattle.card_forms.specs.SimhTexts.{deck_text_of}
use Rattle.card_forms.specs.declared.faults.FormError.{FormError}
use Rattle.card_forms.specs.declared.forms.Form.{Form}
use Rattle.card_forms.specs.declared.forms.Form.TheVariants.{Text, Punch, Simh, Binary}
use Rattle.card_forms.specs.declared.image_faults.ImageFault.{ImageFault}
use Rattle.card_forms.specs.declared.images.CardImage.{CardImage}

pub columns_apart : (form : ColumnForm) → AreApart (column_of form) (MayStand form)
unfolding column_of
columns_apart Glyph x y r s is_x is_y same =
    let shown = glyph_of_character x is_x.1 in
    let other = glyph_of_character y is_y.1 in
    let code = glyphs_differ (character_of x) (character_of y) (ltb-true (character_of x) 64 is_x.1) (ltb-true (character_of y) 64 is_y.1) (cc) in
    (sym (punches_back x is_x.1) ∙ ap punches_of code ∙ punches_back y is_y.1, cc)
columns_apart Digits x y r s is_x is_y same =
    let high : x / 256 % 16 ≡ y / 256 % 16 = hexadecimal_differ _ _ (omega arith) (omega arith) (cc) in
    let middle : x / 16 % 16 ≡ y / 16 % 16 = hexadecimal_differ _ _ (omega arith) (omega arith) (cc) in
    let low : x % 16 ≡ y % 16 = hexadecimal_differ _ _ (omega arith) (omega arith) (cc) in
    (omega (arith, high, middle, low, is_x, is_y), cc)
columns_apart Bits x y r s is_x is_y same =
    let upper : x / 64 % 64 ≡ y / 64 % 64 = cc in
    let lower : x % 64 ≡ y % 64 = cc in
    (omega (arith, upper, lower, is_x, is_y), cc)

same_image : (one two : CardImage) → one.0 ≡ two.0 → one ≡ two
same_image one two same = ap (λ (columns : List ℕ). let image : CardImage = record { 0 = columns } in image) same

-- the bytes behind the columns of a card are its end
same_behind : (form : ColumnForm) (r s : List ℕ) → end_of form ++ r ≡ end_of form ++ s → r ≡ s
same_behind Glyph r s same = cc
same_behind Digits r s same = cc
same_behind Bits r s same = same

pub lines_apart : (form : ColumnForm) → AreApart (line_of form) (IsImageIn form)
lines_apart form one two r s is_one is_two same =
    let both = same_pieces (column_of form) (MayStand form) (columns_apart form) one.0 two.0 (end_of form ++ r) (end_of form ++ s) is_one.1 is_two.1
    (is_one.0 ∙ sym is_two.0)
    (sym (append_assoc (flat_map (column_of form) one.0) (end_of form) r) ∙ same
    ∙ append_assoc (flat_map (column_of form) two.0) (end_of form) s) in
    (same_image one two both.0, same_behind form r s both.1)

-- the columns of a fault, and of the card whose bytes stand there
columns_of_card : (form : ColumnForm) (columns rest bytes behind : List ℕ) (image : CardImage) → bytes ≡ flat_map (column_of form) columns ++ rest
    → bytes ≡ line_of form image ++ behind → flat_map (column_of form) columns ++ rest ≡ flat_map (column_of form) image.0 ++ (end_of form ++ behind)
columns_of_card form columns rest bytes behind image before line =
    sym before ∙ line ∙ append_assoc (flat_map (column_of form) image.0) (end_of form) behind

-- where a card is at fault no card begins
no_line : (form : ColumnForm) (bytes : List ℕ) (column : ℕ) (error : FormError) → IsCardFault form bytes column error
    → (image : CardImage) (behind : List ℕ) → IsImageIn form image → bytes ≢ line_of form image ++ behind
no_line form bytes column error fault image behind is_image line =
    let same = columns_of_card form fault.columns fault.rest bytes behind image fault.before line in
    elim fault.wrong [
      | inl wrong ↦
          let more = goes_on (column_of form) (MayStand form) (columns_apart form) fault.columns image.0 fault.rest (end_of form ++ behind)
          fault.each is_image.1 (omega (arith, wrong.0, is_image.0)) same in
          let next = next_of (column_of form) (MayStand form) fault.columns image.0 fault.rest (end_of form ++ behind) more (omega (arith, wrong.0, is_image.0)) in
          wrong.1 next.piece next.after next.is next.begins
      | inr wrong ↦
          wrong.1 behind (same_pieces (column_of form) (MayStand form) (columns_apart form) fault.columns image.0 fault.rest (end_of form ++ behind)
          fault.each is_image.1 (wrong.0 ∙ sym is_image.0) same).1
    ]

-- bytes with a fault are no cards'
pub no_images : (form : ColumnForm) (bytes : List ℕ) (fault : ImageFault) → IsFirstFaultIn form bytes fault
    → (images : List CardImage) → AreLines form bytes images → ⊥
no_images form bytes fault a images are =
    let joined : lines_of form a.images ++ a.rest ≡ lines_of form images ++ [] = sym a.before ∙ are.1 ∙ sym (append-nil (lines_of form images)) in
    elim (cases_lt (length a.images) (length images)) [
      | inl fewer ↦
          let more = goes_on (line_of form) (IsImageIn form) (lines_apart form) a.images images a.rest [] a.whole are.0 (omega arith) joined in
          let next = next_of (line_of form) (IsImageIn form) a.images images a.rest [] more fewer in
          no_line form a.rest fault.column fault.error a.wrong next.piece next.after next.is next.begins
      | inr all ↦
          let more = goes_on (line_of form) (IsImageIn form) (lines_apart form) images a.images [] a.rest are.0 a.whole all (sym joined) in
          a.more (nil_from_length a.rest (omega (arith, ap length more.bytes, length-append (lines_of form more.more) a.rest)))
    ]

-- cards without bytes are none
no_lines : (form : ColumnForm) (images : List CardImage) → All (IsImageIn form) images → length (lines_of form images) ≡ 0 → images ≡ []
no_lines form [] each empty = refl
no_lines form (image ∷ images) each empty =
    absurd (omega (arith, empty, line_long form image (each 0 image (omega arith)), length-append (line_of form image) (lines_of form images)))

at_most : (form : ColumnForm) (one two : List CardImage) → All (IsImageIn form) one → All (IsImageIn form) two → length one ≤ length two
    → lines_of form one ≡ lines_of form two → one ≡ two
at_most form one two is_one is_two le same =
    let more = goes_on (line_of form) (IsImageIn form) (lines_apart form) one two [] [] is_one is_two le
    (append-nil (lines_of form one) ∙ same ∙ sym (append-nil (lines_of form two))) in
    let none = no_lines form more.more more.each (omega (arith, ap length more.bytes, length-append (lines_of form more.more) [])) in
    sym (more.list ∙ ap (λ images. one ++ images) none ∙ append-nil one)

-- bytes are those of one list of cards at most
pub lines_once : (form : ColumnForm) (bytes : List ℕ) (one two : List CardImage) → AreLines form bytes one → AreLines form bytes two → one ≡ two
lines_once form bytes one two is_one is_two = elim (cases_lt (length one) (length two)) [
  | inl fewer ↦ at_most form one two is_one.0 is_two.0 (omega arith) (sym is_one.1 ∙ is_two.1)
  | inr more ↦ sym (at_most form two one is_two.0 is_one.0 more (sym is_two.1 ∙ is_one.1))
]

-- what a reader says of its result lets it miss no cards
pub no_others : {X : Type 0} (form : ColumnForm) (bytes : List ℕ) (items : X → List CardImage) (result : Result X ImageFault)
    → IfOk result (λ found. AreLines form bytes (items found)) → IfErr result (λ fault. IsFaultIn form bytes fault)
    → (images : List CardImage) → AreLines form bytes images
    → MatchResult result (λ found. items found ≡ images) (λ fault. fault ≡ out_of_memory)
no_others form bytes items (Ok found) is_ok is_err images are = lines_once form bytes (items found) images is_ok are
no_others form bytes items (Err fault) is_ok (inl memory) images are = memory
no_others form bytes items (Err fault) is_ok (inr first) images are = absurd (no_images form bytes fault first images are)

-- and a file is one of one list of images at most
pub images_once : (form : Form) (bytes : List ℕ) (one two : List CardImage) → IsImageFile form bytes one → IsImageFile form bytes two → one ≡ two
images_once Text bytes one two first second = lines_once Glyph bytes one two first second
images_once Punch bytes one two first second = lines_once Digits (in_capitals bytes) one two first second
images_once Simh bytes one two first second = lines_once Glyph (deck_text_of bytes) one two first second
images_once Binary bytes one two first second = lines_once Bits bytes one two first second
