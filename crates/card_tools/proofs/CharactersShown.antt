-- decks of characters are shown by glyphs, and have the digests of their texts
use Rattle.std.proofs.Common.{◌≡◌, ℕ, ◌<◌, Bool, if◌then◌else◌, List, [], ◌∷◌, ◌++◌, map, refl, ap, ◌∙◌}
use Rattle.std.proofs.lemmas.List.Elements.{All-head, All-tail}
use Rattle.bcd.specs.Table.{glyph_of, punches_of}
use Rattle.cards.specs.Decks.{AreCharacters, IsCard, IsDeck}
use Rattle.cards.specs.Files.{text_of}
use Rattle.cards.specs.declared.Card.{Card}
use Rattle.card_forms.proofs.FilledColumns.{filled_characters}
use Rattle.card_forms.proofs.ImageCharacters.{glyph_is}
use Rattle.card_forms.proofs.ImageDecks.{deck_characters, filled_same, glyph_lines}
use Rattle.card_forms.specs.ImageFiles.{image_file_of}
use Rattle.card_forms.specs.Images.{image_of, images_of}
use Rattle.card_forms.specs.Signs.{filled}
use Rattle.card_forms.specs.declared.forms.Form.TheVariants.{Text, Punch}
use Rattle.card_tools.specs.Lines.{barred, columns_shown, glyphs_of}
use Rattle.card_tools.specs.Manifests.{digest_of}
use Rattle.texts.specs.Digests as digests

-- the number is a character's
abbrev IsNumber : ℕ → Type 0
IsNumber code = code < 64

glyphs_same : (codes : List ℕ) → AreCharacters codes → columns_shown (map punches_of codes) ≡ glyphs_of codes
glyphs_same [] each = refl
glyphs_same (code ∷ codes) each =
    rw (glyph_is code (All-head IsNumber code codes each), glyphs_same codes (All-tail IsNumber code codes each)) refl

pub card_shown : (card : Card) → IsCard card → barred (image_of card) ≡ 124 ∷ glyphs_of (filled card.0) ++ 124 ∷ []
card_shown card is =
    ap (λ (columns : List ℕ). 124 ∷ columns_shown columns ++ 124 ∷ []) (filled_same card.0 is.1)
    ∙ ap (λ (glyphs : List ℕ). 124 ∷ glyphs ++ 124 ∷ []) (glyphs_same (filled card.0) (filled_characters IsNumber card.0 is.1))

pub digest_same : (deck : List Card) → IsDeck deck → digest_of (images_of deck) ≡ digests.digest_of (text_of deck)
digest_same deck is =
    ap (λ (each : Bool). digests.digest_of (image_file_of (if each then Text else Punch) (images_of deck))) (deck_characters deck is.1)
    ∙ ap digests.digest_of (glyph_lines deck is.1)
