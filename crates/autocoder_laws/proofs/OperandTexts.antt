-- for `operand_fields_are_read`: operands as they are spelled, read and read back
use Rattle.std.proofs.Common.{◌≡◌, ℕ, ◌+◌, ◌<◌, Bool, true, false, not, ◌||◌, List, [], ◌∷◌, ◌++◌, length, drop, slice_index, Option, Some, None, if◌then◌else◌, option_map, codes, refl, sym, ◌∙◌, ap, subst, arith, inl, inr, append_assoc, one-add}
use Rattle.std.specs.List.{list_all}
use Rattle.std.proofs.Math.Seq.{drop-append_seam}
use Rattle.bcd.specs.Table.{glyph_of}
use Rattle.addresses.specs.Digits.{code_of}
use Rattle.autocoder_statements.specs.Characters.{begins, is_ended}
use Rattle.autocoder_statements.specs.Constants.{literal}
use Rattle.autocoder_statements.specs.Expressions.{address}
use Rattle.autocoder_statements.specs.Operands.{begins_literal, operand, next_operand, is_modifier, modifier, next_modifier, without_modifier, operands, with_modifier}
use Rattle.autocoder_statements.specs.declared.expressions.Base.{Base}
use Rattle.autocoder_statements.specs.declared.expressions.Base.TheVariants.{Number, Name}
use Rattle.autocoder_statements.specs.declared.expressions.Address as addresses
use Rattle.autocoder_statements.specs.declared.operand_forms.OperandForm.{OperandForm}
use Rattle.autocoder_statements.specs.declared.operand_forms.OperandForm.TheVariants.{Empty, Modifier, One, OneAndModifier, Two, TwoAndModifier}
use Rattle.autocoder_statements.specs.declared.operand_kinds.OperandKind.{OperandKind}
use Rattle.autocoder_statements.specs.declared.operand_kinds.OperandKind.TheVariants.{Branch, Field}
use Rattle.autocoder_statements.specs.declared.modifiers.Modifiers.{Modifiers}
use Rattle.autocoder_statements.specs.declared.modifiers.Modifiers.TheVariants.{Any, Switches, ZonesAndMarks, Carriage, Pockets}
use Rattle.autocoder_statements.specs.declared.operands.Operand.{Operand}
use Rattle.autocoder_statements.specs.declared.operands.Operand.TheVariants.{Address, Literal}
use Rattle.autocoder_statements.specs.declared.operands.Operands.{Operands}
use Rattle.autocoder_laws.specs.Texts.{is_one_of, letters, digits, Joined, AfterComma, IsEnd}
use Rattle.autocoder_laws.specs.Addresses.{IsBase, IsAddress}
use Rattle.autocoder_laws.specs.OperandFields.{IsOperand, is_allowed, IsLast, operands_with, AreOperands}
use Rattle.autocoder_laws.proofs.Classes.{blank_class, no_literal_start}
use Rattle.autocoder_laws.proofs.Fronts.{Front, left, joined, changed, begins_typed, bound, end_of, front_end, joined_end, changed_one}
use Rattle.autocoder_statements.proofs.Found.{mapped, some_if}
use Rattle.autocoder_laws.proofs.Fronts as fronts
use Rattle.autocoder_laws.proofs.Stops.{Stops, end_stops, after_comma_stops}
use Rattle.autocoder_laws.proofs.AddressTexts.{number_digits, address_read, address_spelled}
use Rattle.autocoder_laws.proofs.ConstantTexts.{IsLiteralStart, literal_start, literal_read, literal_spelled}
use Rattle.autocoder_statements.proofs.Tests.{both}

-- ---- how addresses begin

pub record Starts (text : List ℕ) : Type 0 where
  pub first : ℕ
  pub tail : List ℕ
  pub said : text ≡ first ∷ tail
  pub is_first : (is_one_of letters first || is_one_of digits first) ≡ true

or_first : (a b : Bool) → a ≡ true → (a || b) ≡ true
or_first true b h = refl
or_first false b h = absurd (cc)

or_second : (a b : Bool) → b ≡ true → (a || b) ≡ true
or_second true b h = refl
or_second false b h = h

number_starts : (text : List ℕ) → 0 < length text → list_all (is_one_of digits) text ≡ true → Starts text
number_starts [] some all = absurd (omega arith)
number_starts (c ∷ text) some all = record { first = c; tail = text; said = refl; is_first = or_second (is_one_of letters c) (is_one_of digits c) (both (is_one_of digits c) _ all).0 }

pub name_starts : (text : List ℕ) → is_one_of letters (slice_index text 0) ≡ true → Starts text
unfolding glyph_of
name_starts [] h = absurd (cc)
name_starts (c ∷ text) h = record { first = c; tail = text; said = refl; is_first = or_first (is_one_of letters c) (is_one_of digits c) h }

pub base_starts : (b : Base) (text : List ℕ) → IsBase b text → Starts text
base_starts (Number n) text h = number_starts text h.some (number_digits n text h)
base_starts (Name name) text h = name_starts text h.letter

pub before : (one other text : List ℕ) → text ≡ one ++ other → Starts one → Starts text
before one other text e s = record { first = s.first; tail = s.tail ++ other; said = e ∙ ap (λ t. t ++ other) s.said; is_first = s.is_first }

address_starts : (a : addresses.Address) (text : List ℕ) → IsAddress a text → Starts text
address_starts a text h = before h.one h.other text h.said (before h.is_one.one h.is_one.other h.one h.is_one.said (base_starts a.expression.base h.is_one.one h.is_one.is_one))

starts_no_literal : (text : List ℕ) → Starts text → begins_literal text ≡ false
unfolding begins
starts_no_literal text s = rw s.said (no_literal_start s.first s.is_first)

literal_starts : (text rest : List ℕ) → IsLiteralStart text → begins_literal (text ++ rest) ≡ true
unfolding begins glyph_of
literal_starts text rest (tail, inl e) = rw e refl
literal_starts text rest (tail, inr (inl e)) = rw e refl
literal_starts text rest (tail, inr (inr e)) = rw e refl

-- ---- operands

abbrev as_address : addresses.Address × ℕ → Operand × ℕ
as_address found = (Address found.0, found.1)

abbrev as_literal : List ℕ × ℕ → Operand × ℕ
as_literal found = (Literal found.0, found.1)

pub operand_read : (kind : OperandKind) (o : Operand) (text rest : List ℕ) → IsOperand kind o text → Stops rest → operand kind (text ++ rest) ≡ Some (o, length text)
unfolding operand
operand_read Branch (Address a) text rest h stops = ap (option_map as_address) (address_read a text rest h stops)
operand_read Field (Address a) text rest h stops =
    rw (starts_no_literal (text ++ rest) (before text rest (text ++ rest) refl (address_starts a text h)), address_read a text rest h stops) refl
operand_read Branch (Literal held) text rest h stops = absurd h
operand_read Field (Literal held) text rest h stops =
    rw (literal_starts text rest (literal_start held text h), literal_read held text rest h stops.halts.digits) refl

own : (kind : OperandKind) (text : List ℕ) (o : Operand) (n : ℕ) (found : Operand × ℕ) → found ≡ (o, n) → Front (IsOperand kind found.0) text found.1 → Front (IsOperand kind o) text n
own kind text o n found same f = subst (λ (p : Operand × ℕ). Front (IsOperand kind p.0) text p.1) same f

address_found : (kind : OperandKind) (text : List ℕ) (o : Operand) (n : ℕ) → option_map as_address (address text) ≡ Some (o, n) → Front (IsOperand kind o) text n
address_found kind text o n e =
    let ((a, k), found, same) = mapped as_address (address text) (o, n) e in
    own kind text o n (Address a, k) same (address_spelled text a k found)

pub operand_spelled : (kind : OperandKind) (text : List ℕ) (o : Operand) (n : ℕ) → operand kind text ≡ Some (o, n) → Front (IsOperand kind o) text n
unfolding operand
operand_spelled Branch text o n e = address_found Branch text o n e
operand_spelled Field text o n e = by_test (begins_literal text) e
  where
    by_test : (test : Bool) → (if test then option_map as_literal (literal text) else option_map as_address (address text)) ≡ Some (o, n) → Front (IsOperand Field o) text n
    by_test true h =
        let ((held, k), found, same) = mapped as_literal (literal text) (o, n) h in
        own Field text o n (Literal held, k) same (literal_spelled text held k found)
    by_test false h = address_found Field text o n h

-- ---- after a comma

-- 27 is the comma
comma_text : {P : List ℕ → Type 0} (text : List ℕ) (h : AfterComma P text) → text ≡ 27 ∷ h.other
unfolding code_of
comma_text text h = h.said ∙ ap (λ one. one ++ h.other) h.is_one

next_after : (kind : OperandKind) (text : List ℕ) (o : Operand) (n : ℕ) → operand kind text ≡ Some (o, n) → next_operand kind (27 ∷ text) ≡ Some (o, 1 + n)
unfolding next_operand begins glyph_of
next_after kind text o n e = rw e refl

pub next_read : (kind : OperandKind) (o : Operand) (text rest : List ℕ) → AfterComma (IsOperand kind o) text → Stops rest → next_operand kind (text ++ rest) ≡ Some (o, length text)
next_read kind o text rest h stops =
    let e = comma_text text h in
    ap (λ t. next_operand kind (t ++ rest)) e ∙ next_after kind (h.other ++ rest) o (length h.other) (operand_read kind o h.other rest h.is_other stops)
    ∙ ap (λ k. Some (o, k)) (one-add (length h.other) ∙ sym (ap length e))

abbrev as_next : Operand × ℕ → Operand × ℕ
as_next found = (found.0, 1 + found.1)

pub next_spelled : (kind : OperandKind) (text : List ℕ) (o : Operand) (n : ℕ) → next_operand kind text ≡ Some (o, n) → Front (AfterComma (IsOperand kind o)) text n
unfolding next_operand code_of glyph_of
next_spelled kind text o n e = by_test (begins (codes ",") text) refl e
  where
    by_test : (test : Bool) → begins (codes ",") text ≡ test → (if test then option_map as_next (operand kind (drop 1 text)) else None) ≡ Some (o, n) → Front (AfterComma (IsOperand kind o)) text n
    by_test false t h = absurd (cc)
    by_test true t h =
        let ((p, k), found, same) = mapped as_next (operand kind (drop 1 text)) (o, n) h in
        subst (λ (q : Operand × ℕ). Front (AfterComma (IsOperand kind q.0)) text q.1) same
        (joined text 1 k (begins_typed (codes ",") text refl t) (operand_spelled kind (drop 1 text) p k found))

-- ---- last characters

allowed_is : (modifiers : Modifiers) (c : ℕ) → is_modifier modifiers c ≡ is_allowed modifiers c
unfolding is_modifier
allowed_is Any c = ap not (blank_class c)
allowed_is Switches c = refl
allowed_is ZonesAndMarks c = refl
allowed_is Carriage c = refl
allowed_is Pockets c = refl

pub last_read : (modifiers : Modifiers) (c : ℕ) (text rest : List ℕ) → IsLast modifiers c text → IsEnd rest → modifier modifiers (text ++ rest) ≡ Some c
unfolding modifier
last_read modifiers c text rest h end = rw (h.said, allowed_is modifiers c ∙ h.allowed, fronts.ended rest end) refl

pub last_spelled : (modifiers : Modifiers) (text : List ℕ) (c : ℕ) → modifier modifiers text ≡ Some c → Joined (IsLast modifiers c) IsEnd text
unfolding modifier
last_spelled modifiers [] c e = absurd (cc)
last_spelled modifiers (d ∷ text) c e = by_test (is_modifier modifiers d) refl e
  where
    by_test : (test : Bool) → is_modifier modifiers d ≡ test → (if test then (if is_ended text then Some d else None) else None) ≡ Some c → Joined (IsLast modifiers c) IsEnd (d ∷ text)
    by_test false t h = absurd (cc)
    by_test true t h =
        let p = some_if (is_ended text) d c h in
        record {
          one = d ∷ [];
          other = text;
          said = refl;
          is_one = record { allowed = ap (is_allowed modifiers) (sym p.1) ∙ sym (allowed_is modifiers d) ∙ t; said = ap (λ x. x ∷ []) p.1 };
          is_other = end_of text p.0;
        }

next_last : (modifiers : Modifiers) (text : List ℕ) (c : ℕ) → modifier modifiers text ≡ Some c → next_modifier modifiers (27 ∷ text) ≡ Some c
unfolding next_modifier begins glyph_of
next_last modifiers text c e = e

pub next_last_read : (modifiers : Modifiers) (c : ℕ) (text rest : List ℕ) → AfterComma (IsLast modifiers c) text → IsEnd rest → next_modifier modifiers (text ++ rest) ≡ Some c
next_last_read modifiers c text rest h end =
    ap (λ t. next_modifier modifiers (t ++ rest)) (comma_text text h) ∙ next_last modifiers (h.other ++ rest) c (last_read modifiers c h.other rest h.is_other end)

pub next_last_spelled : (modifiers : Modifiers) (text : List ℕ) (c : ℕ) → next_modifier modifiers text ≡ Some c → Joined (AfterComma (IsLast modifiers c)) IsEnd text
unfolding next_modifier code_of glyph_of
next_last_spelled modifiers text c e = by_test (begins (codes ",") text) refl e
  where
    by_test : (test : Bool) → begins (codes ",") text ≡ test → (if test then modifier modifiers (drop 1 text) else None) ≡ Some c → Joined (AfterComma (IsLast modifiers c)) IsEnd text
    by_test false t h = absurd (cc)
    by_test true t h = joined_end text 1 (begins_typed (codes ",") text refl t) (last_spelled modifiers (drop 1 text) c h)

-- ---- whole fields, by their forms

ended_read : (first second : Option Operand) (rest : List ℕ) → IsEnd rest → without_modifier first second rest ≡ Some (operands_with first second None)
ended_read first second rest end = rw (fronts.ended rest end) refl

split : {P Q : List ℕ → Type 0} (text rest : List ℕ) (h : Joined P Q text) → text ++ rest ≡ h.one ++ (h.other ++ rest)
split text rest h = ap (λ t. t ++ rest) h.said ∙ append_assoc h.one h.other rest

pub operands_read : (form : OperandForm) (o : Operands) (text rest : List ℕ) → AreOperands form o text → IsEnd rest → operands form (text ++ rest) ≡ Some o
unfolding operands
operands_read Empty o text rest (same, e) end = ap (λ t. without_modifier None None (t ++ rest)) e ∙ ended_read None None rest end ∙ ap Some (sym same)
operands_read (Modifier modifiers) o text rest (c, same, h) end =
    ap (option_map (with_modifier None None)) (last_read modifiers c text rest h end) ∙ ap Some (sym same)
operands_read (One kind) o text rest (a, same, h) end =
    rw (operand_read kind a text rest h (end_stops rest end), drop-append_seam text rest) (ended_read (Some a) None rest end ∙ ap Some (sym same))
operands_read (OneAndModifier kind modifiers) o text rest (a, c, same, h) end =
    rw (
      split text rest h,
      operand_read kind a h.one (h.other ++ rest) h.is_one (after_comma_stops h.other rest h.is_other),
      drop-append_seam h.one (h.other ++ rest),
      next_last_read modifiers c h.other rest h.is_other end,
    ) (ap Some (sym same))
operands_read (Two kind other) o text rest (a, b, same, h) end =
    rw (
      split text rest h,
      operand_read kind a h.one (h.other ++ rest) h.is_one (after_comma_stops h.other rest h.is_other),
      drop-append_seam h.one (h.other ++ rest),
      next_read other b h.other rest h.is_other (end_stops rest end),
      drop-append_seam h.other rest,
    )
    (ended_read (Some a) (Some b) rest end ∙ ap Some (sym same))
operands_read (TwoAndModifier kind other modifiers) o text rest (a, b, c, same, h) end =
    let g = h.is_other in
    let whole : text ++ rest ≡ h.one ++ (g.one ++ (g.other ++ rest)) = split text rest h ∙ ap (λ t. h.one ++ t) (split h.other rest g) in
    rw (
      whole,
      operand_read kind a h.one (g.one ++ (g.other ++ rest)) h.is_one (after_comma_stops g.one (g.other ++ rest) g.is_one),
      drop-append_seam h.one (g.one ++ (g.other ++ rest)),
      next_read other b g.one (g.other ++ rest) g.is_one (after_comma_stops g.other rest g.is_other),
      drop-append_seam g.one (g.other ++ rest),
      next_last_read modifiers c g.other rest g.is_other end,
    ) (ap Some (sym same))

ended_back : (first second : Option Operand) (text : List ℕ) (o : Operands) → without_modifier first second text ≡ Some o → (is_ended text ≡ true) × (operands_with first second None ≡ o)
ended_back first second text o e = some_if (is_ended text) (operands_with first second None) o e

pub operands_spelled : (form : OperandForm) (field : List ℕ) (o : Operands) → operands form field ≡ Some o → Joined (AreOperands form o) IsEnd field
unfolding operands
operands_spelled Empty field o e =
    let p = ended_back None None field o e in
    record { one = []; other = field; said = refl; is_one = (sym p.1, refl); is_other = end_of field p.0 }
operands_spelled (Modifier modifiers) field o e =
    let (c, read, same) = mapped (with_modifier None None) (modifier modifiers field) o e in
    changed_one field (λ one h. (c, sym same, h)) (last_spelled modifiers field c read)
operands_spelled (One kind) field o e =
    let ((a, n), read, more) = bound (operand kind field) _ o e in
    let p = ended_back (Some a) None (drop n field) o more in
    changed_one field (λ one h. (a, sym p.1, h)) (front_end field n (operand_spelled kind field a n read) p.0)
operands_spelled (OneAndModifier kind modifiers) field o e =
    let ((a, n), read, more) = bound (operand kind field) _ o e in
    let (c, last, same) = mapped (with_modifier (Some a) None) (next_modifier modifiers (drop n field)) o more in
    changed_one field (λ one h. (a, c, sym same, h)) (joined_end field n (operand_spelled kind field a n read) (next_last_spelled modifiers (drop n field) c last))
operands_spelled (Two kind other) field o e =
    let ((a, n), read, more) = bound (operand kind field) _ o e in
    let ((b, m), next, last) = bound (next_operand other (drop n field)) _ o more in
    let p = ended_back (Some a) (Some b) (drop m (drop n field)) o last in
    changed_one field (λ one h. (a, b, sym p.1, h))
    (joined_end field n (operand_spelled kind field a n read) (front_end (drop n field) m (next_spelled other (drop n field) b m next) p.0))
operands_spelled (TwoAndModifier kind other modifiers) field o e =
    let ((a, n), read, more) = bound (operand kind field) _ o e in
    let ((b, m), next, least) = bound (next_operand other (drop n field)) _ o more in
    let (c, last, same) = mapped (with_modifier (Some a) (Some b)) (next_modifier modifiers (drop m (drop n field))) o least in
    changed_one field (λ one h. (a, b, c, sym same, h))
    (joined_end field n (operand_spelled kind field a n read) (joined_end (drop n field) m (next_spelled other (drop n field) b m next) (next_last_spelled modifiers (drop m (drop n field)) c last)))

joined_operands : (form : OperandForm) (o : Operands) (field : List ℕ) → Joined (AreOperands form o) IsEnd field → operands form field ≡ Some o
joined_operands form o field j = ap (operands form) j.said ∙ operands_read form o j.one j.other j.is_one j.is_other

same_some : (a b : Operands) → Some a ≡ Some b → a ≡ b
same_some a b e = cc

pub operands_one : (form : OperandForm) (one other : Operands) (field : List ℕ) → Joined (AreOperands form one) IsEnd field → Joined (AreOperands form other) IsEnd field → one ≡ other
operands_one form one other field h k = same_some one other (sym (joined_operands form one field h) ∙ joined_operands form other field k)
