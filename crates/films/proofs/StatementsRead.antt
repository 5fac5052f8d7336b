-- the words before the items of a step, which are no items
use Rattle.std.proofs.Common.{◌≡◌, ℕ, zero, suc, ◌<◌, ◌==◌, ◌&&◌, not, Bool, true, false, if◌then◌else◌, List, [], ◌∷◌, ◌++◌, take, drop, refl, ap, ◌∙◌, arith}
use Rattle.std.specs.Prelude.{Option, Some, None, fold, option_and_then, option_map, codes}
use Rattle.std.specs.List.{flat_map, list_all}
use Rattle.std.proofs.Math.Decide.{dec_lt}
use Rattle.std.proofs.lemmas.Bool.{ne_eqb}
use Rattle.std.proofs.lemmas.List.Concat.{flat_map-append}
use Rattle.bcd.proofs.Tables.{at_each}
use Rattle.bcd.specs.Table.{glyph_of}
use Rattle.autocoder.specs.Listing.{glyphs_of}
use Rattle.autocoder_layout.specs.declared.slots.Slot.{Slot}
use Rattle.autocoder_statements.specs.Expressions.{◌>>=◌}
use Rattle.autocoder_statements.specs.Mnemonics.{Row, mnemonics, or_else}
use Rattle.autocoder_statements.specs.declared.operand_forms.OperandForm.{OperandForm}
use Rattle.autocoder_statements.specs.declared.operand_forms.OperandForm.TheVariants.{Empty, Modifier, One, OneAndModifier, Two, TwoAndModifier}
use Rattle.addresses.specs.Addresses.{Tagged}
use Rattle.source_reports.specs.OperationNames.{shown_length, shown_name}
use Rattle.disassembly.specs.Statements.{address, in_form, in_form_if, in_forms, is_own_last, last, of_row, of_rows, said_before, statement_of}
use Rattle.disassembly.specs.Statements.{said as named}
use Rattle.disassembly.specs.Storage.{statement_at}
use Rattle.disassembly.specs.Texts.{behind_blank, operand_text, statement_text}
use Rattle.disassembly.specs.declared.statements.Statement.{Statement}
use Rattle.machine.specs.Run.{State}
use Rattle.machine.specs.Word.{word}
use Rattle.run_traces.specs.Names.{Named}
use Rattle.run_traces.specs.Statements.{slots_named, statement_next, statement_shown}
use Rattle.pictures.proofs.PiecesRead.{first_of_both, has_none, none_in_both, second_of_both}
use Rattle.films.specs.Reading.{word_read, word_read_by}
use Rattle.films.specs.Signs.{sign_of, signs_of}
use Rattle.films.specs.Texts.{said, statement_words}
use Rattle.films.specs.Worked.{worked}
use Rattle.films.proofs.ItemsRead.{IsClean}
use Rattle.films.proofs.SignTables.{above, no_glyph}
use Rattle.films.proofs.TextsRead.{AreOther, both_words, worked_other}

-- ---- the name of a statement has no line feed

is_plain : Option Statement → Bool
is_plain None = true
is_plain (Some statement) = has_none 10 statement.name

if_plain : (b : Bool) (statement : Statement) → has_none 10 statement.name ≡ true → is_plain (if b then Some statement else None) ≡ true
unfolding is_plain
if_plain true statement plain = plain
if_plain false statement plain = refl

map_plain : (f : ℕ → Statement) (o : Option ℕ) → ((code : ℕ) → has_none 10 (f code).name ≡ true) → is_plain (option_map f o) ≡ true
unfolding is_plain
map_plain f None plain = refl
map_plain f (Some code) plain = plain code

then_plain : (o : Option Tagged) (f : Tagged → Option Statement) → ((address : Tagged) → is_plain (f address) ≡ true) → is_plain (o >>= f) ≡ true
unfolding is_plain
then_plain None f plain = refl
then_plain (Some address) f plain = plain address

else_plain : (o p : Option Statement) → is_plain o ≡ true → is_plain p ≡ true → is_plain (or_else o p) ≡ true
else_plain None p a b = b
else_plain (Some statement) p a b = a

before_plain : (row : Row) (first second : Option Tagged) (text : List ℕ) → has_none 10 row.0 ≡ true → is_plain (said_before row first second text) ≡ true
before_plain row first second text plain = if_plain (is_own_last row.1.1 text) (named row first second None) plain

last_plain : (row : Row) (first second : Option Tagged) (o : Option ℕ) → has_none 10 row.0 ≡ true → is_plain (option_map (λ code. named row first second (Some code)) o) ≡ true
last_plain row first second o plain = map_plain (λ code. named row first second (Some code)) o (λ code. plain)

form_plain : (row : Row) (form : OperandForm) (text : List ℕ) → has_none 10 row.0 ≡ true → is_plain (in_form row form text) ≡ true
unfolding in_form
form_plain row Empty text plain = before_plain row None None text plain
form_plain row (Modifier modifiers) text plain = last_plain row None None (last modifiers text) plain
form_plain row (One kind) text plain =
    then_plain (address text) (λ first. said_before row (Some first) None (drop 3 text)) (λ first. before_plain row (Some first) None (drop 3 text) plain)
form_plain row (OneAndModifier kind modifiers) text plain =
    let code = last modifiers (drop 3 text) in
    then_plain (address text) (λ first. option_map (λ code. named row (Some first) None (Some code)) code) (λ first. last_plain row (Some first) None code plain)
form_plain row (Two kind other) text plain =
    let rest = drop 3 (drop 3 text) in
    then_plain (address text) (λ first. address (drop 3 text) >>= (λ second. said_before row (Some first) (Some second) rest))
    (λ first. then_plain (address (drop 3 text)) (λ second. said_before row (Some first) (Some second) rest) (λ second. before_plain row (Some first) (Some second) rest plain))
form_plain row (TwoAndModifier kind other modifiers) text plain =
    let code = last modifiers (drop 3 (drop 3 text)) in
    then_plain (address text) (λ first. address (drop 3 text) >>= (λ second. option_map (λ code. named row (Some first) (Some second) (Some code)) code))
    (λ first. then_plain (address (drop 3 text)) (λ second. option_map (λ code. named row (Some first) (Some second) (Some code)) code) (λ second. last_plain row (Some first) (Some second) code plain))

form_if_plain : (row : Row) (form : Option OperandForm) (text : List ℕ) → has_none 10 row.0 ≡ true → is_plain (in_form_if row form text) ≡ true
unfolding is_plain
form_if_plain row None text plain = refl
form_if_plain row (Some form) text plain = form_plain row form text plain

forms_plain : (row : Row) (text : List ℕ) → has_none 10 row.0 ≡ true → is_plain (in_forms row text) ≡ true
unfolding in_forms
forms_plain row text plain =
    else_plain _ _ (form_plain row row.1.2.form text plain) (else_plain _ _ (form_if_plain row row.1.2.other text plain) (form_if_plain row row.1.2.third text plain))

by_operation : (b : Bool) (o : Option Statement) → is_plain o ≡ true → is_plain (if b then o else None) ≡ true
unfolding is_plain
by_operation true o plain = plain
by_operation false o plain = refl

row_plain : (row : Row) (text : List ℕ) → has_none 10 row.0 ≡ true → is_plain (of_row row text) ≡ true
unfolding of_row is_plain
row_plain row [] plain = refl
row_plain row (code ∷ text) plain = by_operation _ (in_forms row text) (forms_plain row text plain)

rows_plain : (rows : List Row) (text : List ℕ) (found : Option Statement) → list_all (λ row. has_none 10 row.0) rows ≡ true → is_plain found ≡ true
    → is_plain (fold (λ found row. or_else (of_row row text) found) found rows) ≡ true
rows_plain [] text found all plain = plain
rows_plain (row ∷ rows) text found all plain =
    let here = first_of_both (has_none 10 row.0) (list_all (λ row. has_none 10 row.0) rows) all in
    rows_plain rows text (or_else (of_row row text) found) (second_of_both (has_none 10 row.0) (list_all (λ row. has_none 10 row.0) rows) all) (else_plain _ _ (row_plain row text here) plain)

table_plain : list_all (λ row. has_none 10 row.0) mnemonics ≡ true
unfolding mnemonics
table_plain = refl

of_plain : (text : List ℕ) → is_plain (statement_of text) ≡ true
unfolding statement_of of_rows is_plain
of_plain text = rows_plain mnemonics text None table_plain refl

-- ---- a statement has no line feed

taken_plain : (n : ℕ) (text : List ℕ) → has_none 10 text ≡ true → has_none 10 (take n text) ≡ true
taken_plain zero text plain = refl
taken_plain (suc n) [] plain = refl
taken_plain (suc n) (glyph ∷ text) plain =
    rw (first_of_both (not (glyph == 10)) (has_none 10 text) plain, taken_plain n text (second_of_both (not (glyph == 10)) (has_none 10 text) plain)) refl

glyph_below : (code : ℕ) → code < 64 → not (glyph_of code == 10) ≡ true
unfolding glyph_of
glyph_below = at_each (λ k. not (glyph_of k == 10)) 64 refl

glyph_plain : (code : ℕ) → not (glyph_of code == 10) ≡ true
glyph_plain code =
    elim (dec_lt code 64) [
      | yes low ↦ glyph_below code low
      | no high ↦ ap (λ g. not (g == 10)) (no_glyph code (omega arith))
    ]

glyphs_plain : (codes : List ℕ) → has_none 10 (glyphs_of codes) ≡ true
glyphs_plain [] = refl
glyphs_plain (code ∷ codes) = rw (glyph_plain code, glyphs_plain codes) refl

blank_plain : (text : List ℕ) → has_none 10 text ≡ true → has_none 10 (behind_blank text) ≡ true
blank_plain [] plain = refl
blank_plain (glyph ∷ text) plain = plain

text_plain : (slots : List Slot) (statement : Option Statement) → is_plain statement ≡ true → has_none 10 (statement_shown slots statement) ≡ true
unfolding statement_text shown_name is_plain
text_plain slots None plain = refl
text_plain slots (Some statement) plain =
    none_in_both 10 (shown_name statement.name) (behind_blank (glyphs_of (operand_text slots statement)))
    (taken_plain (shown_length statement.name) statement.name plain)
    (blank_plain (glyphs_of (operand_text slots statement)) (glyphs_plain (operand_text slots statement)))

at_plain : (o : Option (List ℕ)) → is_plain (option_and_then statement_of o) ≡ true
unfolding is_plain
at_plain None = refl
at_plain (Some text) = of_plain text

next_plain : (names : Option Named) (m : State) → has_none 10 (statement_next names m) ≡ true
unfolding statement_next statement_at
next_plain names m =
    text_plain (slots_named names) (option_and_then statement_of (word m.works.storage m.works.registers.i)) (at_plain (word m.works.storage m.works.registers.i))

-- ---- its signs have no blank either

blank_below : (glyph : ℕ) → glyph < 128 → not (sign_of glyph == 32) ≡ true
unfolding sign_of
blank_below = at_each (λ k. not (sign_of k == 32)) 128 refl

blank_by : (glyph : ℕ) → not (sign_of glyph == 32) ≡ true
blank_by glyph =
    elim (dec_lt glyph 128) [
      | yes low ↦ blank_below glyph low
      | no high ↦ ap (λ sign. not (sign == 32)) (above glyph (omega arith)) ∙ ap not (ne_eqb glyph 32 (λ is. omega (arith, is, high)))
    ]

feed_test : ℕ → Bool
feed_test glyph = if glyph == 10 then true else not (sign_of glyph == 10)

feed_below : (glyph : ℕ) → glyph < 128 → feed_test glyph ≡ true
unfolding feed_test sign_of
feed_below = at_each feed_test 128 refl

by_test : (a b : Bool) → (if a then true else b) ≡ true → not a ≡ true → b ≡ true
by_test true b test plain = absurd (cc)
by_test false b test plain = test

feed_by : (glyph : ℕ) → not (glyph == 10) ≡ true → not (sign_of glyph == 10) ≡ true
unfolding feed_test
feed_by glyph plain =
    elim (dec_lt glyph 128) [
      | yes low ↦ by_test (glyph == 10) (not (sign_of glyph == 10)) (feed_below glyph low) plain
      | no high ↦ ap (λ sign. not (sign == 10)) (above glyph (omega arith)) ∙ plain
    ]

signs_of_clean : (text : List ℕ) → has_none 10 text ≡ true → IsClean (signs_of text)
signs_of_clean [] plain = (refl, refl)
signs_of_clean (glyph ∷ text) plain =
    let here = first_of_both (not (glyph == 10)) (has_none 10 text) plain in
    let rest = signs_of_clean text (second_of_both (not (glyph == 10)) (has_none 10 text) plain) in (
      ap (λ b. b && has_none 32 (signs_of text)) (blank_by glyph) ∙ rest.0,
      ap (λ b. b && has_none 10 (signs_of text)) (feed_by glyph here) ∙ rest.1,
    )

-- ---- the word for it is no item

words_other : (text : List ℕ) → has_none 10 text ≡ true → AreOther (statement_words text)
unfolding word_read_by
words_other [] plain = (tt, refl)
words_other (glyph ∷ text) plain =
    let clean = signs_of_clean (glyph ∷ text) plain in
    (((none_in_both 32 (100 ∷ []) (signs_of (glyph ∷ text)) refl clean.0, none_in_both 10 (100 ∷ []) (signs_of (glyph ∷ text)) refl clean.1), tt), refl)

said_other : (names : Option Named) (m : State) → AreOther (said names m)
unfolding said
said_other names m = words_other (statement_next names m) (next_plain names m)

-- the words before the items of a step
pub lead_other : (names : Option Named) (m : State) → AreOther (said names m ++ worked m)
lead_other names m =
    let front = said_other names m in
    let back = worked_other m in (
      both_words (said names m) (worked m) front.0 back.0,
      flat_map-append word_read (said names m) (worked m) ∙ ap (λ read. read ++ flat_map word_read (worked m)) front.1 ∙ back.1,
    )
