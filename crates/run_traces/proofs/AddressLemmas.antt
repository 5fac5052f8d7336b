-- the characters of a text, and the position that they name
use Rattle.std.proofs.Common.{◌≡◌, ◌≢◌, ℕ, ◌<◌, ◌≤◌, List, All, length, get_or, Option, Some, None, MatchOption, sym, ap, ◌∙◌, arith}
use Rattle.std.proofs.lemmas.List.{ext_get_or, get_or-map, length-map}
use Rattle.std.proofs.lemmas.List.Elements.{All-get_or}
use Rattle.bcd.specs.Table.{glyph_of}
use Rattle.bcd.proofs.Tables.{glyphs_differ}
use Rattle.autocoder.specs.Listing.{glyphs_of}
use Rattle.autocoder_layout.specs.declared.slots.Slot.{Slot}
use Rattle.run_traces.specs.Addresses.{NamesPosition, position_named}

-- a text with a byte that is no character's glyph is not the glyphs of characters
pub no_glyph : (text codes : List ℕ) (place glyph : ℕ) → place < length text → glyph ≡ get_or text place 0
    → ((n : ℕ) → n < 64 → glyph_of n ≢ glyph) → All (λ code. code < 64) codes → text ≢ glyphs_of codes
no_glyph text codes place glyph within is none all same =
    let long : length text ≡ length codes = ap length same ∙ length-map codes glyph_of in
    let inside : place < length codes = omega (arith, long) in
    none (get_or codes place 0) (All-get_or (λ code. code < 64) codes place 0 inside all)
    (sym (ap (λ t. get_or t place 0) same ∙ get_or-map glyph_of codes place 0 0 inside) ∙ sym is)

-- a text is the glyphs of one list of characters
one_text : (xs ys : List ℕ) → All (λ code. code < 64) xs → All (λ code. code < 64) ys → glyphs_of xs ≡ glyphs_of ys → xs ≡ ys
one_text xs ys all others same =
    let long : length xs ≡ length ys = sym (length-map xs glyph_of) ∙ ap length same ∙ length-map ys glyph_of in
    ext_get_or 0 xs ys long (λ i within.
    let inside : i < length ys = omega (arith, long) in
    glyphs_differ (get_or xs i 0) (get_or ys i 0)
    (All-get_or (λ code. code < 64) xs i 0 within all)
    (All-get_or (λ code. code < 64) ys i 0 inside others)
    (sym (get_or-map glyph_of xs i 0 0 within) ∙ ap (λ t. get_or t i 0) same ∙ get_or-map glyph_of ys i 0 0 inside))

-- what the characters of a text name is what the text names
pub is_named : (slots : List Slot) (text codes : List ℕ) (found : Option ℕ) → length text ≤ 52 → All (λ code. code < 64) codes
    → text ≡ glyphs_of codes → found ≡ position_named slots codes
    → MatchOption found ((position : ℕ) → ¬ NamesPosition slots text position) (NamesPosition slots text)
is_named slots text codes None short all is found = λ position it.
    let same : it.characters ≡ codes = one_text it.characters codes it.are_characters all (sym it.text_is ∙ is) in
    absurd (let e : None ≡ Some position = found ∙ ap (position_named slots) (sym same) ∙ it.named in cc)
is_named slots text codes (Some position) short all is found =
    let long : length text ≡ length codes = ap length is ∙ length-map codes glyph_of in
    record { characters = codes; short = omega (arith, long); are_characters = all; text_is = is; named = sym found }
