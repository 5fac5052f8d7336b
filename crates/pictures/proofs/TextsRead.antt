-- what stands in a page for a text is read as that text
use Rattle.std.proofs.Common.{◌≡◌, ℕ, ◌<◌, ◌==◌, true, false, List, [], ◌∷◌, ◌++◌, length, map, refl, ap, ◌∙◌, arith}
use Rattle.std.specs.List.{onto_first}
use Rattle.std.proofs.lemmas.Bool.{eqb-true}
use Rattle.pictures.specs.Escapes.{escape_of, escaped}
use Rattle.pictures.specs.Reading.{piece_read, pieces, pieces_read, unescaped}
use Rattle.pictures.proofs.PiecesRead.{has_none, none_in_both, some_piece}

-- an escape holds no tag
pub none_in_escape : (byte : ℕ) → has_none 60 (escape_of byte) ≡ true
unfolding escape_of
none_in_escape byte =
    (elim (byte == 38) as (λ t. (byte == 38) ≡ t → has_none 60 (escape_of byte) ≡ true) [
      | true ↦ λ yes. rw yes refl
      | false ↦ λ no. (elim (byte == 60) as (λ t. (byte == 60) ≡ t → has_none 60 (escape_of byte) ≡ true) [
        | true ↦ λ less. rw (no, less) refl
        | false ↦ λ other. (elim (byte == 62) as (λ t. (byte == 62) ≡ t → has_none 60 (escape_of byte) ≡ true) [
          | true ↦ λ great. rw (no, other, great) refl
          | false ↦ λ plain. rw (no, other, plain) (rw other refl)
        ]) refl
      ]) refl
    ]) refl

-- an escaped text holds no tag
pub none_in_escaped : (text : List ℕ) → has_none 60 (escaped text) ≡ true
none_in_escaped [] = refl
none_in_escaped (byte ∷ text) = none_in_both 60 (escape_of byte) (escaped text) (none_in_escape byte) (none_in_escaped text)

onto_read : (x : ℕ) (parts : List (List ℕ)) → 0 < length parts → pieces_read (onto_first x parts) ≡ x ∷ pieces_read parts
onto_read x [] some = absurd (omega arith)
onto_read x (part ∷ parts) some = refl

-- a byte that is no `&` is itself
plain_read : (x : ℕ) (rest : List ℕ) → (x == 38) ≡ false → unescaped (x ∷ rest) ≡ x ∷ unescaped rest
unfolding unescaped
plain_read x rest other = rw other (onto_read x (pieces 38 rest) (some_piece 38 rest))

-- the three escapes
amp_onto : (parts : List (List ℕ)) → 0 < length parts → pieces_read ([] ∷ onto_first 97 (onto_first 109 (onto_first 112 (onto_first 59 parts)))) ≡ 38 ∷ pieces_read parts
unfolding piece_read
amp_onto [] some = absurd (omega arith)
amp_onto (part ∷ parts) some = refl

less_onto : (parts : List (List ℕ)) → 0 < length parts → pieces_read ([] ∷ onto_first 108 (onto_first 116 (onto_first 59 parts))) ≡ 60 ∷ pieces_read parts
unfolding piece_read
less_onto [] some = absurd (omega arith)
less_onto (part ∷ parts) some = refl

great_onto : (parts : List (List ℕ)) → 0 < length parts → pieces_read ([] ∷ onto_first 103 (onto_first 116 (onto_first 59 parts))) ≡ 62 ∷ pieces_read parts
unfolding piece_read
great_onto [] some = absurd (omega arith)
great_onto (part ∷ parts) some = refl

escape_read : (byte : ℕ) (rest : List ℕ) → unescaped (escape_of byte ++ rest) ≡ byte ∷ unescaped rest
unfolding escape_of unescaped
escape_read byte rest =
    let some = some_piece 38 rest in
    (elim (byte == 38) as (λ t. (byte == 38) ≡ t → unescaped (escape_of byte ++ rest) ≡ byte ∷ unescaped rest) [
      | true ↦ λ yes. let is : byte ≡ 38 = eqb-true byte 38 yes in rw is (amp_onto (pieces 38 rest) some)
      | false ↦ λ no. (elim (byte == 60) as (λ t. (byte == 60) ≡ t → unescaped (escape_of byte ++ rest) ≡ byte ∷ unescaped rest) [
        | true ↦ λ less. let is : byte ≡ 60 = eqb-true byte 60 less in rw is (less_onto (pieces 38 rest) some)
        | false ↦ λ other. (elim (byte == 62) as (λ t. (byte == 62) ≡ t → unescaped (escape_of byte ++ rest) ≡ byte ∷ unescaped rest) [
          | true ↦ λ great. let is : byte ≡ 62 = eqb-true byte 62 great in rw is (great_onto (pieces 38 rest) some)
          | false ↦ λ plain. rw (no, other, plain) (plain_read byte rest no)
        ]) refl
      ]) refl
    ]) refl

nothing_read : unescaped [] ≡ []
unfolding unescaped
nothing_read = refl

-- an escaped text is read as the text
pub text_read : (text : List ℕ) → unescaped (escaped text) ≡ text
text_read [] = nothing_read
text_read (byte ∷ text) = escape_read byte (escaped text) ∙ ap (λ rest. byte ∷ rest) (text_read text)

-- and so each of several texts
pub texts_read_back : (texts : List (List ℕ)) → map unescaped (map escaped texts) ≡ texts
texts_read_back [] = refl
texts_read_back (text ∷ texts) = rw (text_read text) (ap (λ rest. text ∷ rest) (texts_read_back texts))
