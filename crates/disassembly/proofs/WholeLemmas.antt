-- When a deck is whole.
use Rattle.std.proofs.Common.{◌≡◌, ◌↔◌, ℕ, zero, suc, ◌+◌, ◌-◌, ◌≤◌, Bool, true, false, IsTrue, List, [], ◌∷◌, ◌++◌, length, take, drop, Option, None, Some, refl, sym, ap, subst, ◌∙◌, arith, length-append, length-drop}
use Rattle.cards.specs.declared.decks.Card.{Card}
use Rattle.core_store.specs.Storage.{Storage, positions_of}
use Rattle.autocoder_layout.specs.Source.{end_of, source_of, up_to}
use Rattle.autocoder.specs.Assembly.{Assembly}
use Rattle.autocoder.specs.Programs.{IsFaultless, IsProgramOf, image_for, size_for}
use Rattle.disassembly.specs.Sources.{EndsWith, IsCodeOf, IsImageOf, IsWhole}

-- ---- the source and what is behind it

take_short : (n : ℕ) (cards : List Card) → length (take n cards) ≤ length cards
take_short zero cards = omega arith
take_short (suc n) [] = omega arith
take_short (suc n) (card ∷ cards) = let rest = take_short n cards in omega (arith, rest)

up_to_short : (cards : List Card) (end : Option ℕ) → length (up_to cards end) ≤ length cards
up_to_short cards None = omega arith
up_to_short cards (Some end) = take_short (end + 1) cards

source_short : (cards : List Card) → length (source_of cards) ≤ length cards
unfolding source_of
source_short cards = up_to_short cards (end_of cards)

drop_first : (first rest : List Card) → drop (length first) (first ++ rest) ≡ rest
drop_first [] rest = refl
drop_first (card ∷ first) rest = drop_first first rest

-- the data of a deck that ends with it are all that is behind its first cards
data_behind : (n : ℕ) (data_cards deck : List Card) → EndsWith data_cards deck → n ≡ length deck - length data_cards → drop n deck ≡ data_cards
data_behind n data_cards deck (made, is) count =
    let long : length deck ≡ length made + length data_cards = ap length is ∙ length-append made data_cards in
    let same : n ≡ length made = omega (arith, count, long) in
    ap (λ k. drop k deck) same ∙ ap (drop (length made)) is ∙ drop_first made data_cards

count_before : (n : ℕ) (data_cards deck : List Card) → n ≤ length deck → drop n deck ≡ data_cards → n ≡ length deck - length data_cards
count_before n data_cards deck within is = omega (arith, within, ap length is, length-drop n deck)

-- ---- a whole deck

module _ (s : Storage) (start : ℕ) (data_cards deck : List Card) (ends : EndsWith data_cards deck) (program : Assembly) (is : IsProgramOf (source_of deck) program) (is_code : Bool)
    (code : IsTrue is_code ↔ IsImageOf s (positions_of program.size) program.image) where
  image_to : IsImageOf s (positions_of program.size) program.image → IsImageOf s (size_for (source_of deck)) (image_for (source_of deck))
  image_to here = subst (IsImageOf s (size_for (source_of deck))) is.image (subst (λ n. IsImageOf s n program.image) (ap positions_of is.size) here)

  image_from : IsImageOf s (size_for (source_of deck)) (image_for (source_of deck)) → IsImageOf s (positions_of program.size) program.image
  image_from here = subst (λ n. IsImageOf s n program.image) (sym (ap positions_of is.size)) (subst (IsImageOf s (size_for (source_of deck))) (sym is.image) here)

  -- its source has the storage's image
  pub whole_if : IsFaultless (source_of deck) → is_code ≡ true → (cards : ℕ) → cards ≡ length deck - length data_cards → (is_begun : Bool)
      → IsTrue is_begun ↔ (program.start ≡ start) × (program.last ≡ cards) → (result : Bool) → result ≡ is_begun → IsTrue result ↔ IsWhole s start data_cards deck
  whole_if faultless matches cards count is_begun begun result same = (
    λ h.
        let so = begun.0 (sym same ∙ h) in
        record {
          code = record { faultless = faultless; image = image_to (code.0 matches) };
          start_is = sym is.start ∙ so.0;
          data_is = data_behind (length (source_of deck)) data_cards deck ends (sym is.last ∙ so.1 ∙ count);
        },
    λ whole. same ∙ begun.1 (is.start ∙ whole.start_is, is.last ∙ count_before (length (source_of deck)) data_cards deck (source_short deck) whole.data_is ∙ sym count),
  )

  -- it has another image
  pub not_whole : is_code ≡ false → (result : Bool) → result ≡ false → IsTrue result ↔ IsWhole s start data_cards deck
  not_whole differs result same = (
    λ h. absurd (let e = sym same ∙ h in cc),
    λ whole. absurd (let e = sym differs ∙ code.1 (image_from whole.code.image) in cc),
  )
