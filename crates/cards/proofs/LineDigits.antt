-- three digits that are the punches of a character, or of none
use Rattle.std.proofs.Common.{◌≡◌, ◌≢◌, ℕ, ◌+◌, ◌*◌, ◌<◌, List, [], ◌∷◌, sym, ◌∙◌, ap, append-nil}
use Rattle.bcd.specs.Table.{punches_of}
use Rattle.cards.specs.declared.forms.Form.TheVariants.{Punched}
use Rattle.cards.specs.Faults.{IsNoColumn, IsNoDigit}
use Rattle.cards.specs.Files.{column_of, hexadecimal, BeginsWithDigit}
use Rattle.cards.proofs.FormColumns.{column_found, column_missing, first_wrong, second_wrong, third_wrong}
use Rattle.cards.proofs.ReadingLaw.{columns_apart}

-- the byte is the digit of this value
abbrev IsDigit : ℕ → ℕ → Type 0
IsDigit byte value = (value < 16) × (hexadecimal value ≡ byte)

-- the byte is no digit
abbrev IsNone : ℕ → Type 0
IsNone byte = (value : ℕ) → value < 16 → hexadecimal value ≢ byte

begins : (byte value : ℕ) (rest : List ℕ) → IsDigit byte value → BeginsWithDigit (byte ∷ rest) value rest
begins byte value rest digit = (digit.0, ap (λ b. b ∷ rest) (sym digit.1))

no_digit : (byte : ℕ) (rest : List ℕ) → IsNone byte → IsNoDigit (byte ∷ rest)
no_digit byte rest none value behind below same = none value below (cc)

module _ (high middle low : ℕ) where
  abbrev digits : List ℕ
  digits = high ∷ middle ∷ low ∷ []

  -- no character has these digits
  abbrev HasNone : Type 0
  HasNone = (code : ℕ) → code < 64 → digits ≢ column_of Punched code

  none_from : IsNoColumn Punched digits → HasNone
  none_from none code below same = none code [] below (same ∙ sym (append-nil (column_of Punched code)))

  pub none_first : IsNone high → HasNone
  none_first none = none_from (first_wrong digits (no_digit high (middle ∷ low ∷ []) none))

  module _ (h : ℕ) (first : IsDigit high h) where
    pub none_second : IsNone middle → HasNone
    none_second none =
        none_from (second_wrong digits (middle ∷ low ∷ []) h (begins high h (middle ∷ low ∷ []) first) (no_digit middle (low ∷ []) none))

    module _ (m : ℕ) (second : IsDigit middle m) where
      pub none_third : IsNone low → HasNone
      none_third none =
          none_from (third_wrong digits (middle ∷ low ∷ []) (low ∷ []) h m (begins high h (middle ∷ low ∷ []) first) (begins middle m (low ∷ []) second) (no_digit low [] none))

      module _ (l : ℕ) (third : IsDigit low l) where
        pub none_punched : ((code : ℕ) → code < 64 → punches_of code ≢ h * 256 + m * 16 + l) → HasNone
        none_punched none =
            none_from (column_missing digits (middle ∷ low ∷ []) (low ∷ []) [] h m l (begins high h (middle ∷ low ∷ []) first) (begins middle m (low ∷ []) second) (begins low l [] third) none)

        pub one_punched : (code : ℕ) → punches_of code ≡ h * 256 + m * 16 + l → digits ≡ column_of Punched code
        one_punched code punched =
            column_found digits (middle ∷ low ∷ []) (low ∷ []) [] h m l code (begins high h (middle ∷ low ∷ []) first) (begins middle m (low ∷ []) second) (begins low l [] third) punched
            ∙ append-nil (column_of Punched code)

-- the columns of two characters differ
pub same_character : (code other : ℕ) (bytes : List ℕ) → code < 64 → other < 64 → bytes ≡ column_of Punched code → bytes ≡ column_of Punched other → code ≡ other
same_character code other bytes below_code below_other one two =
    (columns_apart Punched code other [] [] below_code below_other (append-nil (column_of Punched code) ∙ sym one ∙ two ∙ sym (append-nil (column_of Punched other)))).0
