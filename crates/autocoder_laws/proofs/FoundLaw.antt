-- for the law `statements_are_exact`: what the assembler makes of numbers has a statement
use Rattle.std.proofs.Common.{◌≡◌, ℕ, zero, suc, ◌/◌, ◌%◌, ◌<◌, ◌==◌, ◌&&◌, inl, inr, Bool, true, false, List, [], ◌∷◌, ◌++◌, length, drop, get_or, Option, Some, None, if◌then◌else◌, nat_lt, refl, sym, ◌∙◌, ap, subst, arith, append-nil, append_assoc, true≢false}
use Rattle.std.specs.Prelude.{option_to_list, option_map, Contains, IsSome, is_some}
use Rattle.std.specs.List.{fold}
use Rattle.std.specs.Str.{bytes_eq}
use Rattle.std.proofs.lemmas.List.{get_or_read}
use Rattle.std.proofs.lemmas.Slice.Eq.{bytes_eq-Decides}
use Rattle.bcd.proofs.Tables.{at_each}
use Rattle.bcd.specs.Table.{glyph_of, zone_of}
use Rattle.bcd.specs.declared.Zone.{Zone}
use Rattle.addresses.specs.Addresses.{Tagged, tagged, decoded, written, location_of}
use Rattle.addresses.proofs.DigitLemmas.{written_read, zone_of-digit_under}
use Rattle.addresses.specs.declared.tagged.IndexLocation.{IndexLocation}
use Rattle.addresses.specs.declared.tagged.IndexLocation.TheVariants.{First, Second, Third}
use Rattle.autocoder_statements.specs.Mnemonics.{Row, mnemonics, mnemonic_of, code_of, or_else, instruction, instruction_with, operands_in, one_form, IsAmong}
use Rattle.autocoder_statements.specs.declared.operand_forms.OperandForm.{OperandForm}
use Rattle.autocoder_statements.specs.declared.operand_forms.OperandForm.TheVariants.{Empty, Modifier, One, OneAndModifier, Two, TwoAndModifier}
use Rattle.autocoder_statements.specs.declared.operands.Operand.{Operand}
use Rattle.autocoder_statements.specs.declared.operands.Operand.TheVariants.{Address, Literal}
use Rattle.autocoder_statements.specs.declared.operands.Operands.{Operands}
use Rattle.autocoder_statements.specs.declared.operations.Instruction.{Instruction}
use Rattle.autocoder_statements.proofs.Found.{mapped}
use Rattle.autocoder_statements.proofs.Tests.{both}
use Rattle.autocoder_layout.specs.Cells.{tag, operand_codes, instruction_codes}
use Rattle.disassembly.specs.Statements.{address, last, is_own_last, said, said_before, in_form, in_form_if, in_forms, of_row, of_rows, statement_of}
use Rattle.disassembly.specs.declared.statements.Statement.{Statement}
use Rattle.autocoder_laws.specs.Disassembly.{IsNumbered}
use Rattle.autocoder_laws.specs.Instructions.{IsOfForm, IsAllowed, address_count, last_characters}
use Rattle.autocoder_laws.proofs.FormLemmas as forms
use Rattle.autocoder_laws.proofs.StatementLemmas.{codes_are}

-- ---- an address that the assembler writes is found again

tag_of : (index : Option IndexLocation) → location_of (tag index) ≡ index
tag_of None = refl
tag_of (Some First) = refl
tag_of (Some Second) = refl
tag_of (Some Third) = refl

record Shaped (zone : Zone) (n : ℕ) (codes : List ℕ) : Type 0 where
  x : ℕ
  y : ℕ
  z : ℕ
  said : codes ≡ x ∷ y ∷ z ∷ []
  zone_is : zone_of y ≡ zone

shaped : (zone : Zone) (n : ℕ) → Shaped zone n (written zone n)
unfolding written
shaped zone n = record { x = _; y = _; z = _; said = refl; zone_is = zone_of-digit_under zone (n / 10 % 10) (omega arith) }

found_again : (zone : Zone) (n : ℕ) (codes rest : List ℕ) (s : Shaped zone n codes) → codes ≡ written zone n → n < 16000
    → address (codes ++ rest) ≡ Some (record { base = n; index = location_of zone })
unfolding address
found_again zone n codes rest s e below =
    let whole : s.x ∷ s.y ∷ s.z ∷ [] ≡ written zone n = sym s.said ∙ e in
    let read : tagged s.x s.y s.z ≡ Some (record { base = n; index = location_of zone }) = ap decoded whole ∙ written_read n below zone in
    let same : bytes_eq (written (zone_of s.y) n) (s.x ∷ s.y ∷ s.z ∷ []) ≡ true =
    (bytes_eq-Decides (written (zone_of s.y) n) (s.x ∷ s.y ∷ s.z ∷ [])).1 (ap (λ t. written t n) s.zone_is ∙ sym whole) in
    ap (λ c. address (c ++ rest)) s.said ∙ rw (read, same) refl

record Placed (codes : List ℕ) : Type 0 where
  found : Tagged
  at : (rest : List ℕ) → address (codes ++ rest) ≡ Some found
  behind : (rest : List ℕ) → drop 3 (codes ++ rest) ≡ rest

dropped : (zone : Zone) (n : ℕ) (codes rest : List ℕ) → Shaped zone n codes → drop 3 (codes ++ rest) ≡ rest
dropped zone n codes rest s = ap (λ c. drop 3 (c ++ rest)) s.said

placed : (o : Operand) → IsNumbered (Some o) → Placed (operand_codes 16000 [] [] (Some o))
placed (Literal text) h = absurd h
placed (Address a) (n, below, e) =
    let zone = tag a.index in
    let codes = operand_codes 16000 [] [] (Some (Address a)) in
    let own : codes ≡ written zone n =
    ap (λ expression. operand_codes 16000 [] [] (Some (Address (record { expression = expression; index = a.index })))) e ∙ codes_are [] [] (record { base = n; index = a.index }) below in
    let s = subst (Shaped zone n) (sym own) (shaped zone n) in
    record {
      found = record { base = n; index = location_of zone };
      at = λ rest. found_again zone n codes rest s own below;
      behind = λ rest. dropped zone n codes rest s;
    }

-- ---- last characters

-- the glyph of a mnemonic's own last character, if it has one, is that of a character
abbrev has_own : Option ℕ → Bool
has_own None = true
has_own (Some glyph) = glyph_of (code_of glyph) == glyph

own_is : (own : Option ℕ) → has_own own ≡ true → is_own_last own (option_to_list (option_map code_of own)) ≡ true
unfolding is_own_last
own_is None h = refl
own_is (Some glyph) h = h

-- ---- one form

-- a row's statement has these characters behind its operation
abbrev Takes : Row → OperandForm → List ℕ → Type 0
Takes row form text = (s : Statement) × (in_form row form text ≡ Some s)

before_own : (row : Row) (first second : Option Tagged) → has_own row.1.1 ≡ true → said_before row first second (option_to_list (option_map code_of row.1.1)) ≡ Some (said row first second None)
before_own row first second h = rw (own_is row.1.1 h) refl

taken : (row : Row) (form : OperandForm) (first second : Option Operand) (end : Option ℕ) → has_own row.1.1 ≡ true → IsNumbered first → IsNumbered second
    → is_some first ≡ nat_lt 0 (address_count form) → is_some second ≡ nat_lt 1 (address_count form) → IsAllowed (last_characters form) end
    → Takes row form ((operand_codes 16000 [] [] first ++ operand_codes 16000 [] [] second) ++ option_to_list (or_else end (option_map code_of row.1.1)))
unfolding in_form last
taken row Empty None None None own h k f g l = (said row None None None, before_own row None None own)
taken row Empty None None (Some c) own h k f g l = absurd l
taken row Empty None (Some b) end own h k f g l = absurd (true≢false g)
taken row Empty (Some a) second end own h k f g l = absurd (true≢false f)
taken row (Modifier modifiers) None None None own h k f g l = absurd l
taken row (Modifier modifiers) None None (Some c) own h k f g l = (said row None None (Some c), rw l refl)
taken row (Modifier modifiers) None (Some b) end own h k f g l = absurd (true≢false g)
taken row (Modifier modifiers) (Some a) second end own h k f g l = absurd (true≢false f)
taken row (One kind) None second end own h k f g l = absurd (true≢false (sym f))
taken row (One kind) (Some a) (Some b) end own h k f g l = absurd (true≢false g)
taken row (One kind) (Some a) None (Some c) own h k f g l = absurd l
taken row (One kind) (Some a) None None own h k f g l =
    let codes = operand_codes 16000 [] [] (Some a) in
    let rest = option_to_list (option_map code_of row.1.1) in
    let p = placed a h in
    (said row (Some p.found) None None, rw (append-nil codes, p.at rest, p.behind rest) (before_own row (Some p.found) None own))
taken row (OneAndModifier kind modifiers) None second end own h k f g l = absurd (true≢false (sym f))
taken row (OneAndModifier kind modifiers) (Some a) (Some b) end own h k f g l = absurd (true≢false g)
taken row (OneAndModifier kind modifiers) (Some a) None None own h k f g l = absurd l
taken row (OneAndModifier kind modifiers) (Some a) None (Some c) own h k f g l =
    let codes = operand_codes 16000 [] [] (Some a) in
    let p = placed a h in
    (said row (Some p.found) None (Some c), rw (append-nil codes, p.at (c ∷ []), p.behind (c ∷ []), l) refl)
taken row (Two kind other) None second end own h k f g l = absurd (true≢false (sym f))
taken row (Two kind other) (Some a) None end own h k f g l = absurd (true≢false (sym g))
taken row (Two kind other) (Some a) (Some b) (Some c) own h k f g l = absurd l
taken row (Two kind other) (Some a) (Some b) None own h k f g l =
    let one = operand_codes 16000 [] [] (Some a) in
    let next = operand_codes 16000 [] [] (Some b) in
    let rest = option_to_list (option_map code_of row.1.1) in
    let p = placed a h in
    let q = placed b k in (
      said row (Some p.found) (Some q.found) None,
      rw (append_assoc one next rest, p.at (next ++ rest), p.behind (next ++ rest), q.at rest, q.behind rest) (before_own row (Some p.found) (Some q.found) own),
    )
taken row (TwoAndModifier kind other modifiers) None second end own h k f g l = absurd (true≢false (sym f))
taken row (TwoAndModifier kind other modifiers) (Some a) None end own h k f g l = absurd (true≢false (sym g))
taken row (TwoAndModifier kind other modifiers) (Some a) (Some b) None own h k f g l = absurd l
taken row (TwoAndModifier kind other modifiers) (Some a) (Some b) (Some c) own h k f g l =
    let one = operand_codes 16000 [] [] (Some a) in
    let next = operand_codes 16000 [] [] (Some b) in
    let p = placed a h in
    let q = placed b k in (
      said row (Some p.found) (Some q.found) (Some c),
      rw (append_assoc one next (c ∷ []), p.at (next ++ c ∷ []), p.behind (next ++ c ∷ []), q.at (c ∷ []), q.behind (c ∷ []), l) refl,
    )

-- ---- one of the forms, and one of the rows

abbrev Has : {A : Type 0} → Option A → Type 0
Has {A} x = (a : A) × (x ≡ Some a)

first_has : {A : Type 0} (x y : Option A) → Has x → Has (or_else x y)
first_has x y (a, e) = (a, ap (λ o. or_else o y) e)

second_has : {A : Type 0} (x y : Option A) → Has y → Has (or_else x y)
second_has None y h = h
second_has (Some b) y h = (b, refl)

forms_taken : (row : Row) (form : OperandForm) (text : List ℕ) → IsAmong row.1.2 form → Takes row form text → Has (in_forms row text)
unfolding in_forms
forms_taken row form text (inl same) (s, e) =
    first_has (in_form row row.1.2.form text) _ (s, ap (λ f. in_form row f text) same ∙ e)
forms_taken row form text (inr (inl same)) (s, e) =
    second_has (in_form row row.1.2.form text) _ (first_has (in_form_if row row.1.2.other text) _ (s, ap (λ f. in_form_if row f text) same ∙ e))
forms_taken row form text (inr (inr same)) (s, e) =
    second_has (in_form row row.1.2.form text) _ (second_has (in_form_if row row.1.2.other text) _ (s, ap (λ f. in_form_if row f text) same ∙ e))

abbrev step : List ℕ → Option Statement → Row → Option Statement
step word found row = or_else (of_row row word) found

stays : (rows : List Row) (word : List ℕ) (before : Option Statement) → Has before → Has (fold (step word) before rows)
stays [] word before h = h
stays (row ∷ rows) word before h = stays rows word (step word before row) (second_has (of_row row word) before h)

rows_taken : (rows : List Row) (word : List ℕ) (before : Option Statement) (row : Row) → Contains rows row → Has (of_row row word) → Has (fold (step word) before rows)
rows_taken [] word before row (k, low, e) h = absurd (omega (arith, low))
rows_taken (first ∷ rows) word before row (zero, low, e) h =
    stays rows word (step word before first) (first_has (of_row first word) before (subst (λ r. Has (of_row r word)) (sym e) h))
rows_taken (first ∷ rows) word before row (suc k, low, e) h = rows_taken rows word (step word before first) row (k, omega (arith, low), e) h

-- ---- the law

abbrev none : Row
none = ([], (0, None, one_form Empty))

abbrev is_fine : Row → Bool
is_fine row = (glyph_of (code_of row.1.0) == row.1.0) && has_own row.1.1

many : length mnemonics ≡ 40
unfolding mnemonics
many = refl

each_fine : (k : ℕ) → k < 40 → is_fine (get_or mnemonics k none) ≡ true
unfolding mnemonics code_of glyph_of
each_fine k h = at_each (λ i. is_fine (get_or mnemonics i none)) 40 refl k h

fine : (row : Row) → Contains mnemonics row → is_fine row ≡ true
fine row (k, low, e) =
    let own : row ≡ get_or mnemonics k none = get_or_read mnemonics k row low (sym e) none in
    ap is_fine own ∙ each_fine k (subst (λ n. k < n) many low)

has_some : {A : Type 0} (x : Option A) → Has x → IsSome x
has_some x (a, e) = ap is_some e

passed : {A : Type 0} (test : Bool) (x : Option A) → test ≡ true → Has x → Has (if test then x else None)
passed true x e h = h
passed false x e h = absurd (cc)

row_taken : (row : Row) (o : Operands) (form : OperandForm) → Contains mnemonics row → IsAmong row.1.2 form → IsOfForm form o → IsNumbered o.first → IsNumbered o.second
    → Has (of_row row (instruction_codes 16000 [] [] (instruction_with (mnemonic_of row.1) o)))
unfolding of_row instruction_codes
row_taken row o form listed among fits first second =
    let p = both (glyph_of (code_of row.1.0) == row.1.0) (has_own row.1.1) (fine row listed) in
    passed (glyph_of (code_of row.1.0) == row.1.0) _ p.0
    (forms_taken row form _ among (taken row form o.first o.second o.modifier p.1 first second fits.first fits.second fits.last))

pub found_law : (row : Row) (field : List ℕ) (spelled : Instruction) → Contains mnemonics row → instruction (mnemonic_of row.1) field ≡ Some spelled
    → IsNumbered spelled.first → IsNumbered spelled.second → IsSome (statement_of (instruction_codes 16000 [] [] spelled))
unfolding instruction statement_of of_rows
found_law row field spelled listed e first second =
    let m = mnemonic_of row.1 in
    let (o, read, same) = mapped (instruction_with m) (operands_in row.1.2 field) spelled e in
    let (form, among, fits) = forms.in_forms row.1.2 field o read in
    let one : IsNumbered o.first = subst (λ (i : Instruction). IsNumbered i.first) (sym same) first in
    let next : IsNumbered o.second = subst (λ (i : Instruction). IsNumbered i.second) (sym same) second in
    let taken = row_taken row o form listed among fits one next in
    subst (λ (i : Instruction). IsSome (fold (step (instruction_codes 16000 [] [] i)) None mnemonics)) same
    (has_some _ (rows_taken mnemonics (instruction_codes 16000 [] [] (instruction_with m o)) None row listed taken))
