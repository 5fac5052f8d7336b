-- for the law `wrong_operands_are_told`: where nothing is told to be wrong, the operands have a form
use Rattle.std.proofs.Common.{◌≡◌, ℕ, ◌+◌, ◌<◌, ◌==◌, Bool, true, false, ◌&&◌, List, [], ◌∷◌, length, drop, get_or, Option, Some, None, if◌then◌else◌, refl, ◌∙◌, ap, subst, arith, length-drop}
use Rattle.std.specs.Option.{option_map, is_some}
use Rattle.std.specs.Prelude.{codes, nat_lt, nat_le}
use Rattle.std.proofs.lemmas.Bool.{leb-true, ltb-true}
use Rattle.std.proofs.lemmas.List.{drop-drop, get_or-drop}
use Rattle.bcd.specs.Table.{byte, glyph_of}
use Rattle.autocoder_statements.specs.Characters.{begins, is_blank, is_ended}
use Rattle.autocoder_statements.specs.Mnemonics.{or_else, operands_if, operands_in}
use Rattle.autocoder_statements.specs.Operands.{operand, next_operand, is_modifier, modifier, next_modifier, operands, with_modifier, without_modifier}
use Rattle.autocoder_statements.specs.declared.modifiers.Modifiers.{Modifiers}
use Rattle.autocoder_statements.specs.declared.modifiers.Modifiers.TheVariants.{Any, Switches, ZonesAndMarks, Carriage, Pockets}
use Rattle.autocoder_statements.specs.declared.operand_forms.OperandForm.{OperandForm}
use Rattle.autocoder_statements.specs.declared.operand_forms.OperandForm.TheVariants as form
use Rattle.autocoder_statements.specs.declared.operand_forms.OperandForms.{OperandForms}
use Rattle.autocoder_statements.specs.declared.operand_kinds.OperandKind.{OperandKind}
use Rattle.autocoder_statements.specs.declared.operands.Operand.{Operand}
use Rattle.autocoder_statements.specs.declared.operands.Operands.{Operands}
use Rattle.autocoder_statements.proofs.Found.{mapped}
use Rattle.autocoder_statements.proofs.Tests.{both, either}
use Rattle.source_reports.specs.OperandCauses.{cause_at, cause_of, ended_cause}
use Rattle.source_reports.specs.OperandStops.{at, farther, character_at, has_comma, ends_at, operand_end, character_stop, stop_behind, stop_by_end, stop_by_first, stop_of_one, stop_of_two, form_stop, or_farther, forms_stop}
use Rattle.source_reports.specs.declared.operand_causes.Cause.{Cause}
use Rattle.source_reports.specs.declared.operand_stops.Stop.{Stop}
use Rattle.source_reports.specs.declared.operand_stops.Wanted.TheVariants as wanted

-- ---- a field that ends

-- at a stop the field ends, and its end is what is wanted
abbrev IsWhole : Stop → List ℕ → Type 0
IsWhole stop field = (ends_at field stop.count ≡ true) × (ended_cause stop.wanted ≡ None)

nothing_wrong : (stop : Stop) (field : List ℕ) → cause_of stop field ≡ None → IsWhole stop field
unfolding cause_of
nothing_wrong stop field e = by_test (ends_at field stop.count) refl e
  where
    by_test : (test : Bool) → ends_at field stop.count ≡ test
        → (if test then ended_cause stop.wanted
        else Some (cause_at stop.wanted stop.count field)) ≡ None → IsWhole stop field
    by_test true is none = (is, none)
    by_test false is none = absurd (cc)

-- a text without a character is ended, and one that begins with two blanks
no_rest : (rest : List ℕ) → length rest ≡ 0 → is_ended rest ≡ true
unfolding is_ended
no_rest [] e = refl
no_rest (code ∷ rest) e = absurd (omega (arith, e))

two_blanks : (rest : List ℕ) → is_blank (get_or rest 0 0) ≡ true
    → is_blank (get_or rest 1 0) ≡ true → is_ended rest ≡ true
unfolding is_ended
two_blanks [] one other = refl
two_blanks (code ∷ []) one other = one
two_blanks (code ∷ next ∷ rest) one other = rw (one, other) refl

ended : (field : List ℕ) (count : ℕ) → ends_at field count ≡ true
    → is_ended (drop count field) ≡ true
ended field count e = either _ _ e past blanks
  where
    past : nat_le (length field) count ≡ true → is_ended (drop count field) ≡ true
    past is = no_rest (drop count field)
        (length-drop count field ∙ omega (arith, leb-true (length field) count is))

    blanks : (is_blank (get_or field count 0) && is_blank (get_or field (count + 1) 0)) ≡ true
        → is_ended (drop count field) ≡ true
    blanks are =
        let two = both (is_blank (get_or field count 0)) (is_blank (get_or field (count + 1) 0)) are in
        let here : count + 0 ≡ count = omega arith in
        two_blanks (drop count field)
        (ap is_blank (get_or-drop count field 0 0 ∙ ap (λ n. get_or field n 0) here) ∙ two.0)
        (ap is_blank (get_or-drop count field 1 0) ∙ two.1)

-- ---- parts of a field

-- a text whose first character is a comma begins with one
comma_first : (rest : List ℕ) → 0 < length rest
    → (glyph_of (get_or rest 0 0) == byte (codes ",")) ≡ true → begins (codes ",") rest ≡ true
unfolding begins
comma_first [] some is = absurd (omega (arith, some))
comma_first (code ∷ rest) some is = rw is refl

comma_begins : (field : List ℕ) (count : ℕ) → has_comma field count ≡ true
    → begins (codes ",") (drop count field) ≡ true
comma_begins field count e =
    let two = both (nat_lt count (length field)) (glyph_of (get_or field count 0) == byte (codes ",")) e in
    let here : count + 0 ≡ count = omega arith in
    let below : count < length field = ltb-true count (length field) two.0 in
    comma_first (drop count field) (omega (arith, length-drop count field, below))
    (ap (λ code. glyph_of code == byte (codes ",")) (get_or-drop count field 0 0 ∙ ap (λ n. get_or field n 0) here) ∙ two.1)

no_blank : (modifiers : Modifiers) → is_modifier modifiers 0 ≡ false
unfolding is_modifier glyph_of
no_blank Any = refl
no_blank Switches = refl
no_blank ZonesAndMarks = refl
no_blank Carriage = refl
no_blank Pockets = refl

modifier_fits : (modifiers : Modifiers) (text : List ℕ)
    → is_modifier modifiers (get_or text 0 0) ≡ true → is_ended (drop 1 text) ≡ true
    → is_some (modifier modifiers text) ≡ true
unfolding modifier
modifier_fits modifiers [] taken ends = let none = no_blank modifiers in absurd (cc)
modifier_fits modifiers (code ∷ rest) taken ends = rw (taken, ends) refl

-- ---- what stands behind an operand

mapped_some : {A B : Type 0} (f : A → B) (x : Option A) → is_some x ≡ true
    → is_some (option_map f x) ≡ true
mapped_some f None e = absurd (cc)
mapped_some f (Some x) e = refl

alone_fits : (first second : Option Operand) (text : List ℕ) → is_ended text ≡ true
    → is_some (without_modifier first second text) ≡ true
alone_fits first second text e = rw e refl

last_fits : (modifiers : Modifiers) (field : List ℕ) (count : ℕ) → has_comma field count ≡ true
    → is_modifier modifiers (character_at field (count + 1)) ≡ true
    → ends_at field (count + 1 + 1) ≡ true
    → is_some (next_modifier modifiers (drop count field)) ≡ true
unfolding next_modifier
last_fits modifiers field count comma taken ends =
    let here : count + 1 + 0 ≡ count + 1 = omega arith in
    let rest : is_some (modifier modifiers (drop (count + 1) field)) ≡ true =
    modifier_fits modifiers (drop (count + 1) field)
    (ap (is_modifier modifiers) (get_or-drop (count + 1) field 0 0 ∙ ap (λ n. get_or field n 0) here) ∙ taken)
    (ap is_ended (drop-drop 1 (count + 1) field) ∙ ended field (count + 1 + 1) ends) in
    rw (comma_begins field count comma)
    (ap (λ text. is_some (modifier modifiers text)) (drop-drop 1 count field) ∙ rest)

last_read : (modifiers : Modifiers) (field : List ℕ) (end : ℕ)
    → IsWhole (stop_behind (Some modifiers) end field) field
    → is_some (next_modifier modifiers (drop end field)) ≡ true
last_read modifiers field end whole = by_comma (has_comma field end) refl whole
  where
    by_taken : has_comma field end ≡ true → (test : Bool)
        → is_modifier modifiers (character_at field (end + 1)) ≡ test
        → IsWhole (if test then at (end + 1 + 1) wanted.LastEnd else at (end + 1) (wanted.Last modifiers)) field
        → is_some (next_modifier modifiers (drop end field)) ≡ true
    by_taken comma true taken whole = last_fits modifiers field end comma taken whole.0
    by_taken comma false taken whole = let no = whole.1 in absurd (cc)

    by_comma : (test : Bool) → has_comma field end ≡ test
        → IsWhole (if test then character_stop modifiers (end + 1) field else at end wanted.Comma) field
        → is_some (next_modifier modifiers (drop end field)) ≡ true
    by_comma true comma whole =
        by_taken comma (is_modifier modifiers (character_at field (end + 1))) refl whole
    by_comma false comma whole = let no = whole.1 in absurd (cc)

-- ---- each form

-- an operand behind so many characters, as how many come before its end
abbrev end_from : ℕ → Operand × ℕ → ℕ
end_from count found = count + found.1

empty_fits : (field : List ℕ) → IsWhole (form_stop form.Empty field) field
    → is_some (operands form.Empty field) ≡ true
unfolding form_stop operands
empty_fits field whole = alone_fits None None field (ended field 0 whole.0)

alone_modifier_fits : (modifiers : Modifiers) (field : List ℕ)
    → IsWhole (form_stop (form.Modifier modifiers) field) field
    → is_some (operands (form.Modifier modifiers) field) ≡ true
unfolding form_stop operands
alone_modifier_fits modifiers field whole =
    by_taken (is_modifier modifiers (character_at field 0)) refl whole
  where
    by_taken : (test : Bool) → is_modifier modifiers (character_at field 0) ≡ test
        → IsWhole (if test then at (0 + 1) wanted.LastEnd else at 0 (wanted.Last modifiers)) field
        → is_some (option_map (with_modifier None None) (modifier modifiers field)) ≡ true
    by_taken true taken whole =
        mapped_some (with_modifier None None) (modifier modifiers field)
        (modifier_fits modifiers field taken (ended field 1 whole.0))
    by_taken false taken whole = let no = whole.1 in absurd (cc)

one_fits : (kind : OperandKind) (field : List ℕ)
    → IsWhole (form_stop (form.One kind) field) field
    → is_some (operands (form.One kind) field) ≡ true
unfolding form_stop operands
one_fits kind field whole = by_end (operand_end kind 0 field) refl whole
  where
    by_end : (found : Option ℕ) → operand_end kind 0 field ≡ found
        → IsWhole (stop_by_end kind None 0 field found) field
        → is_some (operands (form.One kind) field) ≡ true
    by_end None is whole = let no = whole.1 in absurd (cc)
    by_end (Some end) is whole =
        let was = mapped (end_from 0) (operand kind (drop 0 field)) end is in
        let count : end ≡ was.0.1 = omega (arith, was.2) in
        rw was.1 (alone_fits (Some was.0.0) None (drop was.0.1 field)
        (ended field was.0.1 (subst (λ n. ends_at field n ≡ true) count whole.0)))

one_and_last_fits : (kind : OperandKind) (modifiers : Modifiers) (field : List ℕ)
    → IsWhole (form_stop (form.OneAndModifier kind modifiers) field) field
    → is_some (operands (form.OneAndModifier kind modifiers) field) ≡ true
unfolding form_stop operands
one_and_last_fits kind modifiers field whole = by_end (operand_end kind 0 field) refl whole
  where
    by_end : (found : Option ℕ) → operand_end kind 0 field ≡ found
        → IsWhole (stop_by_end kind (Some modifiers) 0 field found) field
        → is_some (operands (form.OneAndModifier kind modifiers) field) ≡ true
    by_end None is whole = let no = whole.1 in absurd (cc)
    by_end (Some end) is whole =
        let was = mapped (end_from 0) (operand kind (drop 0 field)) end is in
        let count : end ≡ was.0.1 = omega (arith, was.2) in
        rw was.1 (mapped_some (with_modifier (Some was.0.0) None) (next_modifier modifiers (drop was.0.1 field))
        (last_read modifiers field was.0.1
        (subst (λ n. IsWhole (stop_behind (Some modifiers) n field) field) count whole)))

-- ---- two operands

-- an operand that was read, as one behind a comma
abbrev behind : Operand × ℕ → Operand × ℕ
behind found = (found.0, 1 + found.1)

next_read : (kind : OperandKind) (field : List ℕ) (end : ℕ) (second : Operand × ℕ)
    → has_comma field end ≡ true → operand kind (drop (end + 1) field) ≡ Some second
    → next_operand kind (drop end field) ≡ Some (behind second)
unfolding next_operand
next_read kind field end second comma read =
    rw (comma_begins field end comma)
    (ap (λ text. option_map behind (operand kind text)) (drop-drop 1 end field) ∙ ap (option_map behind) read)

-- what two operands that were read leave of a field, and where
abbrev ReadsTwo : OperandKind → OperandKind → List ℕ → ℕ → Type 0
ReadsTwo kind other field last = (first : Operand × ℕ) × (second : Operand × ℕ)
    × (operand kind field ≡ Some first)
    × (next_operand other (drop first.1 field) ≡ Some second)
    × (first.1 + second.1 ≡ last)

-- the two operands of a field at whose stop, behind both, this holds
two_read : (kind other : OperandKind) (last : Option Modifiers) (field : List ℕ)
    → IsWhole (stop_of_two kind other last field) field
    → (end : ℕ) × (IsWhole (stop_behind last end field) field) × ReadsTwo kind other field end
two_read kind other last field whole = by_first (operand_end kind 0 field) refl whole
  where
    by_second : (end : ℕ) → operand_end kind 0 field ≡ Some end → has_comma field end ≡ true
        → (found : Option ℕ) → operand_end other (end + 1) field ≡ found
        → IsWhole (stop_by_end other last (end + 1) field found) field
        → (place : ℕ) × (IsWhole (stop_behind last place field) field) × ReadsTwo kind other field place
    by_second end is comma None second whole = let no = whole.1 in absurd (cc)
    by_second end is comma (Some place) second whole =
        let one = mapped (end_from 0) (operand kind (drop 0 field)) end is in
        let two = mapped (end_from (end + 1)) (operand other (drop (end + 1) field)) place second in
        let count : end ≡ one.0.1 = omega (arith, one.2) in
        let next = next_read other field end two.0 comma two.1 in (
          place,
          whole,
          (
            one.0,
            behind two.0,
            one.1,
            subst (λ n. next_operand other (drop n field) ≡ Some (behind two.0)) count next,
            omega (arith, count, two.2),
          ),
        )

    by_comma : (end : ℕ) → operand_end kind 0 field ≡ Some end → (test : Bool)
        → has_comma field end ≡ test
        → IsWhole (if test then stop_of_one other last (end + 1) field else at end wanted.Comma) field
        → (place : ℕ) × (IsWhole (stop_behind last place field) field) × ReadsTwo kind other field place
    by_comma end is true comma whole =
        by_second end is comma (operand_end other (end + 1) field) refl whole
    by_comma end is false comma whole = let no = whole.1 in absurd (cc)

    by_first : (found : Option ℕ) → operand_end kind 0 field ≡ found
        → IsWhole (stop_by_first kind other last field found) field
        → (place : ℕ) × (IsWhole (stop_behind last place field) field) × ReadsTwo kind other field place
    by_first None is whole = let no = whole.1 in absurd (cc)
    by_first (Some end) is whole = by_comma end is (has_comma field end) refl whole

two_fits : (kind other : OperandKind) (field : List ℕ)
    → IsWhole (form_stop (form.Two kind other) field) field
    → is_some (operands (form.Two kind other) field) ≡ true
unfolding form_stop operands
two_fits kind other field whole =
    let was = two_read kind other None field whole in
    let read = was.2 in
    let rest : is_ended (drop read.1.1 (drop read.0.1 field)) ≡ true =
    ap is_ended (drop-drop read.1.1 read.0.1 field ∙ ap (λ n. drop n field) read.4) ∙ ended field was.0 was.1.0 in
    rw (read.2, read.3) (alone_fits (Some read.0.0) (Some read.1.0) (drop read.1.1 (drop read.0.1 field)) rest)

two_and_last_fits : (kind other : OperandKind) (modifiers : Modifiers) (field : List ℕ)
    → IsWhole (form_stop (form.TwoAndModifier kind other modifiers) field) field
    → is_some (operands (form.TwoAndModifier kind other modifiers) field) ≡ true
unfolding form_stop operands
two_and_last_fits kind other modifiers field whole =
    let was = two_read kind other (Some modifiers) field whole in
    let read = was.2 in
    let rest : is_some (next_modifier modifiers (drop read.1.1 (drop read.0.1 field))) ≡ true =
    ap (λ text. is_some (next_modifier modifiers text)) (drop-drop read.1.1 read.0.1 field ∙ ap (λ n. drop n field) read.4)
    ∙ last_read modifiers field was.0 was.1 in
    rw (read.2, read.3) (mapped_some (with_modifier (Some read.0.0) (Some read.1.0)) (next_modifier modifiers (drop read.1.1 (drop read.0.1 field))) rest)

-- ---- the forms of a mnemonic

fits : (one : OperandForm) (field : List ℕ) → IsWhole (form_stop one field) field
    → is_some (operands one field) ≡ true
fits form.Empty field whole = empty_fits field whole
fits (form.Modifier modifiers) field whole = alone_modifier_fits modifiers field whole
fits (form.One kind) field whole = one_fits kind field whole
fits (form.OneAndModifier kind modifiers) field whole = one_and_last_fits kind modifiers field whole
fits (form.Two kind other) field whole = two_fits kind other field whole
fits (form.TwoAndModifier kind other modifiers) field whole =
    two_and_last_fits kind other modifiers field whole

-- a stop is whole only if the field has a form of those tried so far
abbrev IsSound : Option Operands → Stop → List ℕ → Type 0
IsSound found stop field = IsWhole stop field → is_some found ≡ true

first_some : (one other : Option Operands) → is_some one ≡ true
    → is_some (or_else one other) ≡ true
first_some None other e = absurd (cc)
first_some (Some one) other e = refl

second_some : (one other : Option Operands) → is_some other ≡ true
    → is_some (or_else one other) ≡ true
second_some None other e = e
second_some (Some one) other e = refl

farther_sound : (one other : Option Operands) (stop more : Stop) (field : List ℕ)
    → IsSound one stop field → IsSound other more field
    → IsSound (or_else one other) (farther stop more) field
farther_sound one other stop more field sound sounder =
    by_test (nat_lt more.count stop.count)
  where
    by_test : (test : Bool) → IsSound (or_else one other) (if test then stop else more) field
    by_test true = λ whole. first_some one other (sound whole)
    by_test false = λ whole. second_some one other (sounder whole)

or_farther_sound : (found : Option Operands) (stop : Stop) (other : Option OperandForm)
    (field : List ℕ) → IsSound found stop field
    → IsSound (or_else found (operands_if other field)) (or_farther stop other field) field
or_farther_sound found stop None field sound = λ whole. first_some found None (sound whole)
or_farther_sound found stop (Some one) field sound =
    farther_sound found (operands one field) stop (form_stop one field) field sound (fits one field)

any_some : (one other third : Option Operands) → is_some (or_else (or_else one other) third) ≡ true
    → is_some (or_else one (or_else other third)) ≡ true
any_some None other third e = e
any_some (Some one) other third e = refl

forms_sound : (forms : OperandForms) (field : List ℕ)
    → IsSound (operands_in forms field) (forms_stop forms field) field
unfolding operands_in forms_stop
forms_sound forms field =
    let one = operands forms.form field in
    let stop = form_stop forms.form field in
    let two : IsSound (or_else one (operands_if forms.other field)) (or_farther stop forms.other field) field =
    or_farther_sound one stop forms.other field (fits forms.form field) in
    λ whole. any_some one (operands_if forms.other field) (operands_if forms.third field)
    (or_farther_sound (or_else one (operands_if forms.other field)) (or_farther stop forms.other field) forms.third field two whole)

pub told_where_wrong : (forms : OperandForms) (field : List ℕ) → operands_in forms field ≡ None
    → is_some (cause_of (forms_stop forms field) field) ≡ true
told_where_wrong forms field none = by_cause (cause_of (forms_stop forms field) field) refl
  where
    by_cause : (told : Option Cause) → cause_of (forms_stop forms field) field ≡ told
        → is_some told ≡ true
    by_cause None is =
        let some = forms_sound forms field (nothing_wrong (forms_stop forms field) field is) in
        absurd (cc)
    by_cause (Some told) is = refl
