-- for the law `statements_are_exact`
use Rattle.std.proofs.Common.{◌≡◌, ℕ, suc, ◌<◌, ◌==◌, ◌⊎◌, inl, inr, Bool, true, false, List, [], ◌∷◌, ◌++◌, map, drop, Option, Some, None, if◌then◌else◌, refl, sym, ◌∙◌, ap, ap₂, subst, arith, append-nil, append_assoc}
use Rattle.std.specs.Prelude.{option_to_list, option_map, Contains}
use Rattle.std.specs.List.{fold}
use Rattle.std.proofs.lemmas.Bool.{eqb-true}
use Rattle.std.proofs.lemmas.List.{get_or-map, length-map}
use Rattle.std.proofs.lemmas.List.Elements.{Contains-append_right}
use Rattle.bcd.specs.Table.{glyph_of}
use Rattle.addresses.specs.Addresses.{Tagged}
use Rattle.autocoder_statements.specs.Mnemonics.{Row, orders, mnemonics, mnemonic_of, code_of, or_else, instruction_with, IsAmong}
use Rattle.autocoder_statements.specs.declared.operand_forms.OperandForm.{OperandForm}
use Rattle.autocoder_statements.specs.declared.operand_forms.OperandForm.TheVariants.{Empty, Modifier, One, OneAndModifier, Two, TwoAndModifier}
use Rattle.autocoder_statements.specs.declared.operands.Operands.{Operands}
use Rattle.autocoder_statements.specs.declared.operations.Operation.TheVariants as operation
use Rattle.autocoder_statements.proofs.Found.{mapped, some_if}
use Rattle.autocoder_statements.proofs.GlyphLemmas.{code_found}
use Rattle.autocoder_layout.specs.Cells.{operand_codes, instruction_codes}
use Rattle.autocoder_layout.specs.Literals.{Characters}
use Rattle.autocoder_layout.specs.declared.slots.Slot.{Slot}
use Rattle.disassembly.specs.Statements.{address, last, is_own_last, said, said_before, in_form, in_form_if, in_forms, of_row, of_rows, statement_of}
use Rattle.disassembly.specs.Texts.{address_text, behind_comma, operand_text}
use Rattle.disassembly.specs.declared.statements.Statement.{Statement}
use Rattle.autocoder_laws.specs.Texts.{characters}
use Rattle.autocoder_laws.specs.Cards.{operations}
use Rattle.autocoder_laws.specs.OperandFields.{IsOperand, AreOperands, operands_with}
use Rattle.autocoder_laws.specs.Disassembly.{IsMadeOf}
use Rattle.autocoder_laws.proofs.CardTexts.{instruction_read}
use Rattle.autocoder_laws.proofs.Fronts.{bound}
use Rattle.autocoder_laws.proofs.Operations.{operation_read}
use Rattle.autocoder_laws.proofs.StatementLemmas.{AreSmall, head_small, tail_small, address_back, as_operand, operand_is, comma_is, codes_are, last_back, own_last_back}

-- ---- the row that a statement is of

either : {A P : Type 0} (x y : Option A) (a : A) → or_else x y ≡ Some a → (x ≡ Some a → P) → (y ≡ Some a → P) → P
either None y a e f g = g e
either (Some b) y a e f g = f e

if_some : {A : Type 0} (test : Bool) (x : Option A) (a : A) → (if test then x else None) ≡ Some a → (test ≡ true) × (x ≡ Some a)
if_some true x a e = (refl, e)
if_some false x a e = absurd (cc)

record Found (rows : List Row) (word : List ℕ) (s : Statement) : Type 0 where
  row : Row
  listed : Contains rows row
  said : of_row row word ≡ Some s

behind : (first row : Row) (rows : List Row) → Contains rows row → Contains (first ∷ rows) row
behind first row rows (k, low, e) = (suc k, omega (arith, low), e)

search_back : (rows : List Row) (word : List ℕ) (before : Option Statement) (s : Statement) → fold (λ found row. or_else (of_row row word) found) before rows ≡ Some s
    → (before ≡ Some s) ⊎ Found rows word s
search_back [] word before s e = inl e
search_back (row ∷ rows) word before s e =
    elim (search_back rows word (or_else (of_row row word) before) s e) [
      | inl here ↦ either (of_row row word) before s here (λ h. inr (record { row = row; listed = (0, omega arith, refl); said = h })) (λ h. inl h)
      | inr later ↦ inr (record { row = later.row; listed = behind row later.row rows later.listed; said = later.said })
    ]

found_back : (rows : List Row) (word : List ℕ) (s : Statement) → of_rows rows word ≡ Some s → Found rows word s
unfolding of_rows
found_back rows word s e =
    elim (search_back rows word None s e) [
      | inl none ↦ absurd (cc)
      | inr found ↦ found
    ]

-- ---- one form

-- a statement with its operands, of which the assembler makes the characters behind the operation
record Exact (row : Row) (form : OperandForm) (text : List ℕ) (s : Statement) : Type 0 where
  operands : Operands
  name : s.name ≡ row.0
  said : AreOperands form operands (operand_text [] s)
  made : (slots : List Slot) (literals : List Characters)
      → operand_codes 16000 slots literals operands.first ++ operand_codes 16000 slots literals operands.second ++ option_to_list (or_else operands.modifier (option_map code_of row.1.1)) ≡ text

before_own : (row : Row) (first second : Option Tagged) (text : List ℕ) (s : Statement) → AreSmall text → said_before row first second text ≡ Some s
    → (option_to_list (option_map code_of row.1.1) ≡ text) × (said row first second None ≡ s)
before_own row first second text s small e =
    let p = some_if (is_own_last row.1.1 text) (said row first second None) s e in
    (own_last_back row.1.1 text small p.0, p.1)

two_made : {first second one other last rest more text : List ℕ} → first ≡ one → second ≡ other → last ≡ more → text ≡ one ++ rest → rest ≡ other ++ more → (first ++ second) ++ last ≡ text
two_made {first} {second} {one} {other} {last} {rest} {more} {text} e f g h k =
    append_assoc first second last ∙ ap₂ (λ x y. x ++ y) e (ap₂ (λ x y. x ++ y) f g ∙ sym k) ∙ sym h

exact : (row : Row) (form : OperandForm) (text : List ℕ) (s : Statement) → AreSmall text → in_form row form text ≡ Some s → Exact row form text s
unfolding in_form operand_text
exact row Empty text s small e =
    let p = before_own row None None text s small e in
    subst (Exact row Empty text) p.1 (record { operands = operands_with None None None; name = refl; said = (refl, refl); made = λ slots literals. p.0 })
exact row (Modifier modifiers) text s small e =
    let (code, found, same) = mapped (λ c. said row None None (Some c)) (last modifiers text) s e in
    let q = last_back modifiers text code found in
    subst (Exact row (Modifier modifiers) text) same (record { operands = operands_with None None (Some code); name = refl; said = (code, refl, q.1); made = λ slots literals. sym q.0 })
exact row (One kind) text s small e =
    let (a, found, more) = bound (address text) _ s e in
    let w = address_back text a small found in
    let p = before_own row (Some a) None (drop 3 text) s w.small more in
    subst (Exact row (One kind) text) p.1 (record {
      operands = operands_with (Some (as_operand a)) None None;
      name = refl;
      said = (as_operand a, refl, subst (IsOperand kind (as_operand a)) (sym (append-nil (address_text [] a ++ []) ∙ append-nil (address_text [] a))) (operand_is kind a w.below));
      made = λ slots literals. ap₂ (λ one other. one ++ other) (append-nil (operand_codes 16000 slots literals (Some (as_operand a))) ∙ codes_are slots literals a w.below) p.0 ∙ sym w.said;
    })
exact row (OneAndModifier kind modifiers) text s small e =
    let (a, found, more) = bound (address text) _ s e in
    let w = address_back text a small found in
    let (code, at, same) = mapped (λ c. said row (Some a) None (Some c)) (last modifiers (drop 3 text)) s more in
    let q = last_back modifiers (drop 3 text) code at in
    subst (Exact row (OneAndModifier kind modifiers) text) same (record {
      operands = operands_with (Some (as_operand a)) None (Some code);
      name = refl;
      said = (as_operand a, code, refl, record { one = address_text [] a; other = behind_comma (code ∷ []); said = ap (λ t. t ++ behind_comma (code ∷ [])) (append-nil (address_text [] a)); is_one = operand_is kind a w.below; is_other = comma_is (code ∷ []) q.1 });
      made = λ slots literals. ap₂ (λ one other. one ++ other) (append-nil (operand_codes 16000 slots literals (Some (as_operand a))) ∙ codes_are slots literals a w.below) (sym q.0) ∙ sym w.said;
    })
exact row (Two kind other) text s small e =
    let (a, found, more) = bound (address text) _ s e in
    let w = address_back text a small found in
    let (b, next, rest) = bound (address (drop 3 text)) _ s more in
    let v = address_back (drop 3 text) b w.small next in
    let p = before_own row (Some a) (Some b) (drop 3 (drop 3 text)) s v.small rest in
    subst (Exact row (Two kind other) text) p.1 (record {
      operands = operands_with (Some (as_operand a)) (Some (as_operand b)) None;
      name = refl;
      said = (
        as_operand a,
        as_operand b,
        refl,
        record {
          one = address_text [] a;
          other = behind_comma (address_text [] b);
          said = append-nil (address_text [] a ++ behind_comma (address_text [] b));
          is_one = operand_is kind a w.below;
          is_other = comma_is (address_text [] b) (operand_is other b v.below);
        },
      );
      made = λ slots literals. two_made (codes_are slots literals a w.below) (codes_are slots literals b v.below) p.0 w.said v.said;
    })
exact row (TwoAndModifier kind other modifiers) text s small e =
    let (a, found, more) = bound (address text) _ s e in
    let w = address_back text a small found in
    let (b, next, rest) = bound (address (drop 3 text)) _ s more in
    let v = address_back (drop 3 text) b w.small next in
    let (code, at, same) = mapped (λ c. said row (Some a) (Some b) (Some c)) (last modifiers (drop 3 (drop 3 text))) s rest in
    let q = last_back modifiers (drop 3 (drop 3 text)) code at in
    subst (Exact row (TwoAndModifier kind other modifiers) text) same (record {
      operands = operands_with (Some (as_operand a)) (Some (as_operand b)) (Some code);
      name = refl;
      said = (
        as_operand a,
        as_operand b,
        code,
        refl,
        record {
          one = address_text [] a;
          other = behind_comma (address_text [] b) ++ behind_comma (code ∷ []);
          said = append_assoc (address_text [] a) (behind_comma (address_text [] b)) (behind_comma (code ∷ []));
          is_one = operand_is kind a w.below;
          is_other = record {
            one = behind_comma (address_text [] b);
            other = behind_comma (code ∷ []);
            said = refl;
            is_one = comma_is (address_text [] b) (operand_is other b v.below);
            is_other = comma_is (code ∷ []) q.1;
          };
        },
      );
      made = λ slots literals. two_made (codes_are slots literals a w.below) (codes_are slots literals b v.below) (sym q.0) w.said v.said;
    })

-- ---- the forms of a row

record InForm (row : Row) (text : List ℕ) (s : Statement) : Type 0 where
  form : OperandForm
  among : IsAmong row.1.2 form
  read : in_form row form text ≡ Some s

if_there : (row : Row) (form : Option OperandForm) (text : List ℕ) (s : Statement) → in_form_if row form text ≡ Some s → (there : OperandForm) × (form ≡ Some there) × (in_form row there text ≡ Some s)
if_there row None text s e = absurd (cc)
if_there row (Some form) text s e = (form, refl, e)

forms_back : (row : Row) (text : List ℕ) (s : Statement) → in_forms row text ≡ Some s → InForm row text s
unfolding in_forms
forms_back row text s e =
    either (in_form row row.1.2.form text) _ s e
    (λ h. record { form = row.1.2.form; among = inl refl; read = h })
    (λ rest. either (in_form_if row row.1.2.other text) _ s rest
    (λ h. let (form, there, read) = if_there row row.1.2.other text s h in record { form = form; among = inr (inl there); read = read })
    (λ h. let (form, there, read) = if_there row row.1.2.third text s h in record { form = form; among = inr (inr there); read = read }))

-- ---- the law

mapped_in : {X Y : Type 0} (f : X → Y) (xs : List X) (x : X) → Contains xs x → Contains (map f xs) (f x)
mapped_in f xs x (k, low, e) = (k, subst (λ n. k < n) (sym (length-map xs f)) low, get_or-map f xs k x (f x) low ∙ ap f e)

listed_is : (row : Row) → Contains mnemonics row → Contains operations (row.0, operation.Instruction (mnemonic_of row.1))
unfolding operations
listed_is row h =
    Contains-append_right orders (map (λ (r : Row). (r.0, operation.Instruction (mnemonic_of r.1))) mnemonics) (row.0, operation.Instruction (mnemonic_of row.1))
    (mapped_in (λ (r : Row). (r.0, operation.Instruction (mnemonic_of r.1))) mnemonics row h)

of_row_made : (row : Row) (word : List ℕ) (s : Statement) → AreSmall word → Contains mnemonics row → of_row row word ≡ Some s → IsMadeOf s word
unfolding of_row instruction_codes
of_row_made row [] s small listed e = absurd (cc)
of_row_made row (code ∷ text) s small listed e =
    let p = if_some (glyph_of code == row.1.0) (in_forms row text) s e in
    let f = forms_back row text s p.1 in
    let x = exact row f.form text s (tail_small code text small) f.read in
    let m = mnemonic_of row.1 in
    let o = operation_read (operation.Instruction m) (characters s.name) (record { name = row.0; named = listed_is row listed; said = ap characters x.name }) in
    record {
      mnemonic = m;
      spelled = instruction_with m x.operands;
      named = o.found;
      read = λ rest end. instruction_read m (instruction_with m x.operands) (operand_text [] s ++ rest) o.apart (record {
        form = f.form;
        operands = x.operands;
        among = f.among;
        is_built = refl;
        said = record { one = operand_text [] s; other = rest; said = refl; is_one = x.said; is_other = end };
      });
      made = λ slots literals. ap₂ (λ c rest. c ∷ rest) (sym (code_found row.1.0 code (head_small code text small) (eqb-true _ _ p.0))) (x.made slots literals);
    }

pub statement_law : (word : List ℕ) (s : Statement) → AreSmall word → statement_of word ≡ Some s → IsMadeOf s word
unfolding statement_of
statement_law word s small e =
    let f = found_back mnemonics word s e in
    of_row_made f.row word s small f.listed f.said
