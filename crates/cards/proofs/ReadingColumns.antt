-- what a loop over the columns of a card keeps
use Rattle.std.proofs.Common.{◌≡◌, ℕ, ◌+◌, ◌<◌, ◌≤◌, List, [], ◌∷◌, ◌++◌, refl, sym, ap, arith, length, take, set, inl, inr, append_assoc, append-nil}
use Rattle.std.specs.List.{flat_map}
use Rattle.std.proofs.lemmas.List.{take_more_set, take_all, length-take-le}
use Rattle.std.proofs.lemmas.List.Concat.{flat_map-append}
use Rattle.std.proofs.lemmas.List.Elements.{All-push}
use Rattle.cards.specs.declared.faults.CardError.{CardError}
use Rattle.cards.specs.declared.faults.CardError.TheVariants.{Length}
use Rattle.cards.specs.declared.forms.Form.{Form}
use Rattle.cards.specs.Decks.{AreCharacters, IsCard}
use Rattle.cards.specs.Faults.{IsNoColumn, IsNoLineFeed, IsLineFault, column_error}
use Rattle.cards.specs.Files.{column_of, line_of, line_feed}

pub characters_more : (codes : List ℕ) (i code : ℕ) → i < length codes → AreCharacters (take i codes) → code < 64 →
    AreCharacters (take (i + 1) (set codes i code))
characters_more codes i code within characters below =
    rw (take_more_set codes i code within) (All-push (λ n. n < 64) (take i codes) code characters below)

pub columns_more : (form : Form) (bytes rest behind codes : List ℕ) (i code : ℕ) → i < length codes →
    bytes ≡ flat_map (column_of form) (take i codes) ++ rest → rest ≡ column_of form code ++ behind →
    bytes ≡ flat_map (column_of form) (take (i + 1) (set codes i code)) ++ behind
columns_more form bytes rest behind codes i code within before column =
    rw (take_more_set codes i code within, flat_map-append (column_of form) (take i codes) (code ∷ []), append-nil, append_assoc, ← column) before

-- the columns up to the one that is none
pub wrong_column : (form : Form) (bytes rest codes : List ℕ) (i : ℕ) (error : CardError) → length codes ≡ 80 → i < 80 →
    AreCharacters (take i codes) → bytes ≡ flat_map (column_of form) (take i codes) ++ rest →
    IsNoColumn form rest → error ≡ column_error form rest → IsLineFault form bytes (i + 1) error
wrong_column form bytes rest codes i error width within characters before none is =
    let place : length (take i codes) ≡ i = length-take-le i codes (omega arith) in
    record {
      columns = take i codes;
      rest = rest;
      characters = characters;
      before = before;
      place = ap (λ n. n + 1) (sym place);
      wrong = rw place (inl (within, none, is));
    }

-- all eighty, and no line feed behind them
pub no_line_feed : (form : Form) (bytes rest codes : List ℕ) (i : ℕ) → length codes ≡ 80 → 80 ≤ i →
    AreCharacters (take i codes) → bytes ≡ flat_map (column_of form) (take i codes) ++ rest → IsNoLineFeed rest →
    IsLineFault form bytes 81 Length
no_line_feed form bytes rest codes i width end characters before none =
    let all : take i codes ≡ codes = take_all i codes (omega arith) in
    record {
      columns = codes;
      rest = rest;
      characters = rw all at characters;
      before = rw all at before;
      place = rw width refl;
      wrong = inr (width, none, refl);
    }

-- all eighty, and the line feed
pub whole_line : (form : Form) (bytes rest behind codes : List ℕ) (i : ℕ) → length codes ≡ 80 → 80 ≤ i →
    AreCharacters (take i codes) → bytes ≡ flat_map (column_of form) (take i codes) ++ rest → rest ≡ line_feed ∷ behind →
    IsCard (record { 0 = codes }) × (bytes ≡ line_of form (record { 0 = codes }) ++ behind)
whole_line form bytes rest behind codes i width end characters before feed =
    let all : take i codes ≡ codes = take_all i codes (omega arith) in
    ((width, rw all at characters), rw (append_assoc, ← feed) (rw all at before))
