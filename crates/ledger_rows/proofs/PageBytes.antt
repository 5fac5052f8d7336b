-- the bytes of a page
use Rattle.std.proofs.Common.{◌≡◌, ◌+◌, ◌-◌, ◌*◌, ◌<◌, ◌≤◌, ◌∙◌, ℕ, false, List, [], ◌∷◌, ◌++◌, length, take, drop, map, set, get_or, ap, sym, arith}
use Rattle.std.proofs.lemmas.List.{take_more, take_more_set, map_push, take_all, length-take-le, length-drop, get_or-take, get_or-drop}
use Rattle.core_store.specs.Pages.{page_at}
use Rattle.core_store.specs.Storage.{Storage, code_at, is_marked}
use Rattle.ledger_rows.specs.Columns.{byte_of}
use Rattle.ledger_rows.specs.Pages.{page_bytes}

module _ (s : Storage) (k : ℕ) (fits : k * 100 + 100 ≤ length s) where
  pub page_length : length (page_at s k) ≡ 100
  page_length =
      let most : k * 100 + 100 - k * 100 ≡ 100 = omega arith in
      ap (λ n. length (take n (drop (k * 100) s))) most ∙ length-take-le 100 (drop (k * 100) s) (omega (arith, fits, length-drop (k * 100) s))

  pub place_in_page : (place : ℕ) → place < 100 → get_or (page_at s k) place (0, false) ≡ get_or s (k * 100 + place) (0, false)
  place_in_page place less =
      let most : k * 100 + 100 - k * 100 ≡ 100 = omega arith in
      ap (λ n. get_or (take n (drop (k * 100) s)) place (0, false)) most ∙ get_or-take 100 (drop (k * 100) s) place (0, false) less ∙ get_or-drop (k * 100) s place (0, false)

  -- one more byte
  pub bytes_more : (place byte : ℕ) (before after : List ℕ) → place < 100 → place < length before → byte ≡ byte_of (code_at s (k * 100 + place), is_marked s (k * 100 + place)) →
      take place before ≡ map byte_of (take place (page_at s k)) → after ≡ set before place byte → take (place + 1) after ≡ map byte_of (take (place + 1) (page_at s k))
  bytes_more place byte before after less within is old new =
      let inside : place < length (page_at s k) = omega (arith, page_length, less) in
      let cell = place_in_page place less in
      ap (take (place + 1)) new ∙ take_more_set before place byte within ∙ ap (λ xs. xs ++ byte ∷ []) old
      ∙ ap (λ b. map byte_of (take place (page_at s k)) ++ b ∷ []) (is ∙ ap byte_of (sym cell))
      ∙ sym (ap (map byte_of) (take_more (page_at s k) place (0, false) inside) ∙ map_push byte_of (take place (page_at s k)) (get_or (page_at s k) place (0, false)))

  pub bytes_all : (place : ℕ) (bytes : List ℕ) → 100 ≤ place → length bytes ≡ 100 → take place bytes ≡ map byte_of (take place (page_at s k)) → bytes ≡ page_bytes s k
  bytes_all place bytes past long same =
      sym (take_all place bytes (omega (arith, past, long))) ∙ same ∙ ap (map byte_of) (take_all place (page_at s k) (omega (arith, past, page_length)))
