-- for `cards_are_read`: whole cards as they are spelled, read and read back
use Rattle.std.proofs.Common.{◌≡◌, ℕ, ◌==◌, Bool, true, false, ◌||◌, List, [], ◌∷◌, ◌++◌, length, take, drop, Option, Some, None, Result, Ok, Err, if◌then◌else◌, option_map, codes, is_some, refl, sym, ◌∙◌, ap, subst, arith, inl, inr, length-take, length-drop, true≢false, IsErr, is_err, ◌↔◌}
use Rattle.bcd.specs.Table.{glyph_of}
use Rattle.addresses.specs.Digits.{code_of}
use Rattle.cards.specs.declared.decks.Card.{Card}
use Rattle.core_store.specs.declared.sizes.Size.{Size}
use Rattle.core_store.specs.declared.sizes.Size.TheVariants.{Positions1400, Positions2000, Positions4000, Positions8000, Positions12000, Positions16000}
use Rattle.autocoder_statements.specs.Characters.{begins, is_ended}
use Rattle.autocoder_statements.specs.Constants.{constant}
use Rattle.autocoder_statements.specs.Expressions.{positive, expression}
use Rattle.autocoder_statements.specs.Laws.{fits}
use Rattle.autocoder_statements.specs.Mnemonics.{or_else, operands_if, operands_in, instruction_with, instruction, IsAmong}
use Rattle.autocoder_statements.specs.Operands.{operands}
use Rattle.autocoder_statements.specs.Statements.{◌>>=◌, label_field, operation_field, operand_field, is_comment, word_run, is_broken, operation_in, or_fault, must_label, may_label, is_labelled, may_not_label, whole, size, start, statement_of, statement_on}
use Rattle.autocoder_statements.specs.declared.expressions.Expression.{Expression}
use Rattle.autocoder_statements.specs.declared.faults.StatementFault.{StatementFault}
use Rattle.autocoder_statements.specs.declared.faults.StatementFault.TheVariants as fault
use Rattle.autocoder_statements.specs.declared.operand_forms.OperandForm.{OperandForm}
use Rattle.autocoder_statements.specs.declared.operand_forms.OperandForm.TheVariants.{Empty, One, Two}
use Rattle.autocoder_statements.specs.declared.operands.Operands.{Operands}
use Rattle.autocoder_statements.specs.declared.operand_forms.OperandForms.{OperandForms}
use Rattle.autocoder_statements.specs.declared.operations.Instruction.{Instruction}
use Rattle.autocoder_statements.specs.declared.operations.Mnemonic.{Mnemonic}
use Rattle.autocoder_statements.specs.declared.operations.Operation.{Operation}
use Rattle.autocoder_statements.specs.declared.operations.Operation.TheVariants as operation
use Rattle.autocoder_statements.specs.declared.reading.Statement.{Statement}
use Rattle.autocoder_statements.specs.declared.reading.Statement.TheVariants as statement
use Rattle.autocoder_statements.proofs.OperandFormLaw.{none_or_one, none_or_two, one_or_two}
use Rattle.autocoder_laws.specs.Texts.{Joined, AreBlanks, IsEnd}
use Rattle.autocoder_laws.specs.Numbers.{IsPositive}
use Rattle.autocoder_laws.specs.Addresses.{IsExpression}
use Rattle.autocoder_laws.specs.Constants.{IsConstant}
use Rattle.autocoder_laws.specs.Cards.{IsSize, IsStart, IsInstruction, Says, IsCard}
use Rattle.autocoder_laws.proofs.Classes.{names_no_blank, blank_class, asterisk_is}
use Rattle.autocoder_laws.proofs.Fronts.{Front, nothing, begins_typed, end_of, whole_read, whole_spelled}
use Rattle.autocoder_statements.proofs.Found.{mapped, bound, is_found}
use Rattle.autocoder_laws.proofs.Fronts as fronts
use Rattle.autocoder_laws.proofs.OperandTexts.{Starts, before, base_starts, operands_read, operands_spelled}
use Rattle.autocoder_laws.proofs.Fields.{positive_law, positive_law_back, expression_law, expression_law_back, constant_law, constant_law_back}
use Rattle.autocoder_laws.proofs.Words.{blank_field, empty_field}
use Rattle.autocoder_laws.proofs.Operations.{is_apart, are_apart, has_forms_apart, operation_read, operation_spelled}
use Rattle.autocoder_laws.proofs.Labels.{IsPlain, blanks_are_plain, labelled_plain, label_plain, end_plain, must_read, may_read, end_read, must_spelled, may_spelled, end_spelled}
use Rattle.autocoder_statements.proofs.Tests.{both, neither}

-- ---- fields that are spelled, as they are joined

pub joined_read : {A : Type 0} (P : A → List ℕ → Type 0) (reader : List ℕ → Option (A × ℕ)) →
    ((x : A) (text rest : List ℕ) → P x text → IsEnd rest → whole (text ++ rest) (reader (text ++ rest)) ≡ Some x) →
    (x : A) (field : List ℕ) → Joined (P x) IsEnd field → whole field (reader field) ≡ Some x
joined_read P reader law x field j = ap (λ f. whole f (reader f)) j.said ∙ law x j.one j.other j.is_one j.is_other

-- ---- sizes

size_read : (s : Size) (text rest : List ℕ) → IsSize s text → size (text ++ rest) ≡ Some (s, length text)
unfolding size begins glyph_of code_of
size_read Positions1400 text rest h = rw h refl
size_read Positions2000 text rest h = rw h refl
size_read Positions4000 text rest h = rw h refl
size_read Positions8000 text rest h = rw h refl
size_read Positions12000 text rest h = rw h refl
size_read Positions16000 text rest h = rw h refl

pub size_law : (s : Size) (text rest : List ℕ) → IsSize s text → IsEnd rest → whole (text ++ rest) (size (text ++ rest)) ≡ Some s
size_law s text rest h end = ap (whole (text ++ rest)) (size_read s text rest h) ∙ whole_read s text rest end

abbrev Found : Type 0
Found = Size × ℕ

abbrev first : Found
first = (Positions1400, 1)

abbrev second : Found
second = (Positions2000, 1)

abbrev third : Found
third = (Positions4000, 1)

abbrev fourth : Found
fourth = (Positions8000, 1)

abbrev fifth : Found
fifth = (Positions12000, 1)

abbrev sixth : Found
sixth = (Positions16000, 1)

-- what is read where the text begins with no earlier digit
abbrev from_sixth : List ℕ → Option Found
from_sixth text = if begins (codes "6") text then Some sixth else None

abbrev from_fifth : List ℕ → Option Found
from_fifth text = if begins (codes "5") text then Some fifth else from_sixth text

abbrev from_fourth : List ℕ → Option Found
from_fourth text = if begins (codes "4") text then Some fourth else from_fifth text

abbrev from_third : List ℕ → Option Found
from_third text = if begins (codes "3") text then Some third else from_fourth text

abbrev from_second : List ℕ → Option Found
from_second text = if begins (codes "2") text then Some second else from_third text

size_spelled : (text : List ℕ) (s : Size) (n : ℕ) → size text ≡ Some (s, n) → Front (IsSize s) text n
unfolding size code_of glyph_of
size_spelled text s n e = by_first (begins (codes "1") text) refl e
  where
    same : (a b : Found) → Some a ≡ Some b → a ≡ b
    same a b h = cc

    own : (found : Found) → Some found ≡ Some (s, n) → Front (IsSize found.0) text found.1 → Front (IsSize s) text n
    own found h f = subst (λ (p : Found). Front (IsSize p.0) text p.1) (same found (s, n) h) f

    by_sixth : (test : Bool) → begins (codes "6") text ≡ test → (if test then Some sixth else None) ≡ Some (s, n) → Front (IsSize s) text n
    by_sixth true t h = own sixth h (begins_typed (codes "6") text refl t)
    by_sixth false t h = absurd (cc)

    by_fifth : (test : Bool) → begins (codes "5") text ≡ test → (if test then Some fifth else from_sixth text) ≡ Some (s, n) → Front (IsSize s) text n
    by_fifth true t h = own fifth h (begins_typed (codes "5") text refl t)
    by_fifth false t h = by_sixth (begins (codes "6") text) refl h

    by_fourth : (test : Bool) → begins (codes "4") text ≡ test → (if test then Some fourth else from_fifth text) ≡ Some (s, n) → Front (IsSize s) text n
    by_fourth true t h = own fourth h (begins_typed (codes "4") text refl t)
    by_fourth false t h = by_fifth (begins (codes "5") text) refl h

    by_third : (test : Bool) → begins (codes "3") text ≡ test → (if test then Some third else from_fourth text) ≡ Some (s, n) → Front (IsSize s) text n
    by_third true t h = own third h (begins_typed (codes "3") text refl t)
    by_third false t h = by_fourth (begins (codes "4") text) refl h

    by_second : (test : Bool) → begins (codes "2") text ≡ test → (if test then Some second else from_third text) ≡ Some (s, n) → Front (IsSize s) text n
    by_second true t h = own second h (begins_typed (codes "2") text refl t)
    by_second false t h = by_third (begins (codes "3") text) refl h

    by_first : (test : Bool) → begins (codes "1") text ≡ test → (if test then Some first else from_second text) ≡ Some (s, n) → Front (IsSize s) text n
    by_first true t h = own first h (begins_typed (codes "1") text refl t)
    by_first false t h = by_second (begins (codes "2") text) refl h

pub size_law_back : (s : Size) (field : List ℕ) → whole field (size field) ≡ Some s → Joined (IsSize s) IsEnd field
size_law_back s field e = whole_spelled IsSize field (size field) s e (λ x count read. size_spelled field x count read)

-- ---- starts of programs

not_ended : (c : ℕ) (text : List ℕ) → (glyph_of c == 32) ≡ false → is_ended (c ∷ text) ≡ false
unfolding is_ended
not_ended c [] h = h
not_ended c (d ∷ text) h = rw h refl

starts_not_ended : (text : List ℕ) → Starts text → is_ended text ≡ false
starts_not_ended text s = ap is_ended s.said ∙ not_ended s.first s.tail (blank_class s.first ∙ names_no_blank s.first s.is_first)

expression_starts : (e : Expression) (field : List ℕ) → Joined (IsExpression e) IsEnd field → Starts field
expression_starts e field j = before j.one j.other field j.said (before j.is_one.one j.is_one.other j.one j.is_one.said (base_starts e.base j.is_one.one j.is_one.is_one))

pub start_read : (s : Option Expression) (field : List ℕ) → IsStart s field → start field ≡ Some s
unfolding start
start_read None field h = rw (fronts.ended field h) refl
start_read (Some e) field h = rw (starts_not_ended field (expression_starts e field h), joined_read IsExpression expression expression_law e field h) refl

pub start_spelled : (field : List ℕ) (s : Option Expression) → start field ≡ Some s → IsStart s field
unfolding start
start_spelled field s e = by_test (is_ended field) refl e
  where
    same : (a b : Option Expression) → Some a ≡ Some b → a ≡ b
    same a b h = cc

    by_test : (test : Bool) → is_ended field ≡ test → (if test then Some None else option_map Some (whole field (expression field))) ≡ Some s → IsStart s field
    by_test true t h = subst (λ x. IsStart x field) (same None s h) (end_of field t)
    by_test false t h =
        let (x, read, own) = mapped Some (whole field (expression field)) s h in
        subst (λ y. IsStart y field) own (expression_law_back x field read)

-- ---- instructions

is_none : {A : Type 0} (o : Option A) → is_some o ≡ false → o ≡ None
is_none None h = refl
is_none (Some x) h = absurd (cc)

not_both : (f g : OperandForm) (field : List ℕ) (o : Operands) → (fits f field ≡ true → fits g field ≡ false) → operands g field ≡ Some o → operands f field ≡ None
not_both f g field o apart e = is_none (operands f field) (by_test (is_some (operands f field)) refl)
  where
    by_test : (test : Bool) → is_some (operands f field) ≡ test → test ≡ false
    by_test false t = refl
    by_test true t = absurd (true≢false (sym (ap is_some e) ∙ apart t))

apart_forms : (f g : OperandForm) (field : List ℕ) (o : Operands) → is_apart f g ≡ true → operands g field ≡ Some o → operands f field ≡ None
apart_forms Empty (One kind) field o h e = not_both Empty (One kind) field o (none_or_one kind field) e
apart_forms Empty (Two kind other) field o h e = not_both Empty (Two kind other) field o (none_or_two kind other field) e
apart_forms (One kind) (Two other third) field o h e = not_both (One kind) (Two other third) field o (one_or_two kind other third field) e
apart_forms _ _ field o h e = absurd (true≢false (sym h))

record IsRead (forms : OperandForms) (o : Operands) (field : List ℕ) : Type 0 where
  form : OperandForm
  among : IsAmong forms form
  read : operands form field ≡ Some o

-- the first form, the second or the third, with what the forms before it read
in_forms : (form : OperandForm) (other third : Option OperandForm) (chosen : OperandForm) (field : List ℕ) (o : Operands) → are_apart (record { form = form; other = other; third = third }) ≡ true →
    IsAmong (record { form = form; other = other; third = third }) chosen → operands chosen field ≡ Some o →
    or_else (operands form field) (or_else (operands_if other field) (operands_if third field)) ≡ Some o
in_forms form other third chosen field o apart (inl same) e = let k = ap (λ f. operands f field) same ∙ e in rw k refl
in_forms form None third chosen field o apart (inr (inl same)) e = absurd (cc)
in_forms form (Some g) third chosen field o apart (inr (inl same)) e =
    let p = both (is_apart form g) _ apart in
    let own : g ≡ chosen = cc in
    let k = ap (λ f. operands f field) own ∙ e in
    rw (apart_forms form g field o p.0 k, k) refl
in_forms form other None chosen field o apart (inr (inr same)) e = absurd (cc)
in_forms form None (Some h) chosen field o apart (inr (inr same)) e =
    let p = both (is_apart form h) _ apart in
    let own : h ≡ chosen = cc in
    let k = ap (λ f. operands f field) own ∙ e in
    rw (apart_forms form h field o p.0 k, k) refl
in_forms form (Some g) (Some h) chosen field o apart (inr (inr same)) e =
    let p = both (is_apart form g) _ apart in
    let q = both (is_apart form h) (is_apart g h) p.1 in
    let own : h ≡ chosen = cc in
    let k = ap (λ f. operands f field) own ∙ e in
    rw (apart_forms form h field o q.0 k, apart_forms g h field o q.1 k, k) refl

pub instruction_read : (m : Mnemonic) (i : Instruction) (field : List ℕ) → are_apart m.forms ≡ true → IsInstruction m i field → instruction m field ≡ Some i
unfolding instruction operands_in
instruction_read m i field apart h =
    let j = h.said in
    let read : operands h.form field ≡ Some h.operands = ap (operands h.form) j.said ∙ operands_read h.form h.operands j.one j.other j.is_one j.is_other in
    ap (option_map (instruction_with m)) (in_forms m.forms.form m.forms.other m.forms.third h.form field h.operands apart h.among read) ∙ ap Some (sym h.is_built)

if_form : (form : Option OperandForm) (field : List ℕ) (o : Operands) → operands_if form field ≡ Some o → (f : OperandForm) × (form ≡ Some f) × (operands f field ≡ Some o)
if_form None field o e = absurd (cc)
if_form (Some f) field o e = (f, refl, e)

either : {A P : Type 0} (x y : Option A) (a : A) → or_else x y ≡ Some a → (x ≡ Some a → P) → (y ≡ Some a → P) → P
either None y a e f g = g e
either (Some b) y a e f g = f e

forms_back : (forms : OperandForms) (field : List ℕ) (o : Operands) → operands_in forms field ≡ Some o → IsRead forms o field
unfolding operands_in
forms_back forms field o e =
    either (operands forms.form field) _ o e
    (λ h. record { form = forms.form; among = inl refl; read = h })
    (λ k. either (operands_if forms.other field) (operands_if forms.third field) o k
    (λ h. let (f, same, read) = if_form forms.other field o h in record { form = f; among = inr (inl same); read = read })
    (λ h. let (f, same, read) = if_form forms.third field o h in record { form = f; among = inr (inr same); read = read }))

pub instruction_spelled : (m : Mnemonic) (i : Instruction) (field : List ℕ) → instruction m field ≡ Some i → IsInstruction m i field
unfolding instruction
instruction_spelled m i field e =
    let (o, read, same) = mapped (instruction_with m) (operands_in m.forms field) i e in
    let r = forms_back m.forms field o read in
    record { form = r.form; operands = o; among = r.among; is_built = sym same; said = operands_spelled r.form field o r.read }

-- ---- statements

unlabelled_read : (field : List ℕ) (said : Statement) → AreBlanks field → may_not_label field said ≡ Ok said
unfolding may_not_label
unlabelled_read field said h = rw (blank_field field h) refl

unlabelled_spelled : (field : List ℕ) (given said : Statement) → is_broken field ≡ false → may_not_label field given ≡ Ok said → (given ≡ said) × AreBlanks field
unfolding may_not_label
unlabelled_spelled field given said h e = by_test (word_run field == 0) refl e
  where
    by_test : (test : Bool) → (word_run field == 0) ≡ test → (if test then Ok given else Err fault.Label) ≡ Ok said → (given ≡ said) × AreBlanks field
    by_test true t k = (cc, empty_field field h t)
    by_test false t k = absurd (cc)

says_plain : (o : Operation) (said : Statement) (label field : List ℕ) → Says o said label field → IsPlain label
says_plain operation.Job said label field (same, blank) = blanks_are_plain label blank
says_plain operation.Control said label field (s, same, blank, h) = blanks_are_plain label blank
says_plain operation.Origin said label field (e, same, blank, h) = blanks_are_plain label blank
says_plain operation.Equate said label field (name, e, same, own, h) = labelled_plain name label own
says_plain operation.MarkedConstant said label field (name, c, same, own, h) = label_plain name label own
says_plain operation.Constant said label field (name, c, same, own, h) = label_plain name label own
says_plain operation.Area said label field (name, n, same, own, h) = label_plain name label own
says_plain operation.End said label field (s, labelled, same, own, h) = end_plain labelled label own
says_plain (operation.Instruction m) said label field (name, i, same, own, h) = label_plain name label own

says_read : (o : Operation) (said : Statement) (label field : List ℕ) → has_forms_apart o ≡ true → Says o said label field → statement_of o label field ≡ Ok said
unfolding statement_of
says_read operation.Job said label field apart (same, blank) = unlabelled_read label statement.Job blank ∙ ap Ok (sym same)
says_read operation.Control said label field apart (s, same, blank, h) =
    rw (joined_read IsSize size size_law s field h) (unlabelled_read label (statement.Control s) blank ∙ ap Ok (sym same))
says_read operation.Origin said label field apart (e, same, blank, h) =
    rw (joined_read IsExpression expression expression_law e field h) (unlabelled_read label (statement.Origin e) blank ∙ ap Ok (sym same))
says_read operation.Equate said label field apart (name, e, same, own, h) =
    rw (joined_read IsExpression expression expression_law e field h, must_read name label own) (ap Ok (sym same))
says_read operation.MarkedConstant said label field apart (name, c, same, own, h) =
    rw (joined_read IsConstant constant constant_law c field h, may_read name label own) (ap Ok (sym same))
says_read operation.Constant said label field apart (name, c, same, own, h) =
    rw (joined_read IsConstant constant constant_law c field h, may_read name label own) (ap Ok (sym same))
says_read operation.Area said label field apart (name, n, same, own, h) =
    rw (joined_read IsPositive positive positive_law n field h, may_read name label own) (ap Ok (sym same))
says_read operation.End said label field apart (s, labelled, same, own, h) =
    rw (start_read s field h) (ap (λ l. Ok (statement.End s l)) (end_read labelled label own) ∙ ap Ok (sym same))
says_read (operation.Instruction m) said label field apart (name, i, same, own, h) =
    rw (instruction_read m i field apart h, may_read name label own) (ap Ok (sym same))

ok_same : (a b : Statement) → ◌≡◌ {A = Result Statement StatementFault} (Ok a) (Ok b) → b ≡ a
ok_same a b e = cc

says_back : (o : Operation) (said : Statement) (label field : List ℕ) → IsPlain label → statement_of o label field ≡ Ok said → Says o said label field
unfolding statement_of
says_back operation.Job said label field plain e =
    let p = unlabelled_spelled label statement.Job said plain.unbroken e in
    (sym p.0, p.1)
says_back operation.Control said label field plain e =
    let (s, at, more) = bound (or_fault fault.Operand (whole field (size field))) _ said e in
    let p = unlabelled_spelled label (statement.Control s) said plain.unbroken more in
    (s, sym p.0, p.1, size_law_back s field (is_found fault.Operand _ s at))
says_back operation.Origin said label field plain e =
    let (x, at, more) = bound (or_fault fault.Operand (whole field (expression field))) _ said e in
    let p = unlabelled_spelled label (statement.Origin x) said plain.unbroken more in
    (x, sym p.0, p.1, expression_law_back x field (is_found fault.Operand _ x at))
says_back operation.Equate said label field plain e =
    let (x, at, more) = bound (or_fault fault.Operand (whole field (expression field))) _ said e in
    let (name, by, last) = bound (must_label label) _ said more in
    (name, x, ok_same (statement.Equate name x) said last, must_spelled name label plain.unbroken by, expression_law_back x field (is_found fault.Operand _ x at))
says_back operation.MarkedConstant said label field plain e =
    let (c, at, more) = bound (or_fault fault.Operand (whole field (constant field))) _ said e in
    let (name, by, last) = bound (may_label label) _ said more in
    (name, c, ok_same (statement.Constant name true c) said last, may_spelled name label plain.unbroken by, constant_law_back c field (is_found fault.Operand _ c at))
says_back operation.Constant said label field plain e =
    let (c, at, more) = bound (or_fault fault.Operand (whole field (constant field))) _ said e in
    let (name, by, last) = bound (may_label label) _ said more in
    (name, c, ok_same (statement.Constant name false c) said last, may_spelled name label plain.unbroken by, constant_law_back c field (is_found fault.Operand _ c at))
says_back operation.Area said label field plain e =
    let (n, at, more) = bound (or_fault fault.Operand (whole field (positive field))) _ said e in
    let (name, by, last) = bound (may_label label) _ said more in
    (name, n, ok_same (statement.Area name n) said last, may_spelled name label plain.unbroken by, positive_law_back n field (is_found fault.Operand _ n at))
says_back operation.End said label field plain e =
    let (s, at, more) = bound (or_fault fault.Operand (start field)) _ said e in
    (s, is_labelled label, ok_same (statement.End s (is_labelled label)) said more, end_spelled (is_labelled label) label plain refl, start_spelled field s (is_found fault.Operand _ s at))
says_back (operation.Instruction m) said label field plain e =
    let (i, at, more) = bound (or_fault fault.Operand (instruction m field)) _ said e in
    let (name, by, last) = bound (may_label label) _ said more in
    (name, i, ok_same (statement.Instruction name i) said last, may_spelled name label plain.unbroken by, instruction_spelled m i field (is_found fault.Operand _ i at))

-- ---- cards

pub asterisk_read : (xs : List ℕ) → take 1 xs ≡ 44 ∷ [] → begins (codes "*") (take 10 xs) ≡ true
unfolding begins glyph_of
asterisk_read [] e = absurd (cc)
asterisk_read (c ∷ xs) e = let k : c ≡ 44 = cc in rw k refl

pub asterisk_spelled : (xs : List ℕ) → begins (codes "*") (take 10 xs) ≡ true → take 1 xs ≡ 44 ∷ []
unfolding begins
asterisk_spelled [] e = absurd (cc)
asterisk_spelled (c ∷ xs) e = ap (λ x. x ∷ []) (asterisk_is c (both (glyph_of c == 42) true e).0)

pub card_read : (said : Statement) (card : Card) → IsCard said card → statement_on card ≡ Ok said
unfolding statement_on is_comment code_of
card_read said card (inl h) = rw (asterisk_read (drop 5 card.0) h.asterisk) (ap Ok (sym h.comment))
card_read said card (inr h) =
    let plain = says_plain h.operation said (label_field card) (operand_field card) h.says in
    let o = operation_read h.operation (operation_field card) h.named in
    rw (plain.asterisk, plain.unbroken, o.unbroken, o.found) (says_read h.operation said (label_field card) (operand_field card) o.apart h.says)

five : (card : Card) → length card.0 ≡ 80 → length (operation_field card) ≡ 5
five card h = simp (length-take, length-drop) (omega arith)

pub card_spelled : (said : Statement) (card : Card) → length card.0 ≡ 80 → statement_on card ≡ Ok said → IsCard said card
unfolding statement_on is_comment code_of
card_spelled said card long e = by_comment (begins (codes "*") (label_field card)) refl e
  where
    by_fields : (test : Bool) → (is_broken (label_field card) || is_broken (operation_field card)) ≡ test → begins (codes "*") (label_field card) ≡ false →
        (if test then Err fault.BrokenField
        else (or_fault fault.UnknownOperation (operation_in (operation_field card)) >>= (λ o. statement_of o (label_field card) (operand_field card)))) ≡ Ok said →
        IsCard said card
    by_fields true t plain h = absurd (cc)
    by_fields false t plain h =
        let p = neither (is_broken (label_field card)) (is_broken (operation_field card)) t in
        let (o, at, more) = bound (or_fault fault.UnknownOperation (operation_in (operation_field card))) (λ o. statement_of o (label_field card) (operand_field card)) said h in
        inr (record {
          operation = o;
          named = operation_spelled o (operation_field card) (five card long) p.1 (is_found fault.UnknownOperation _ o at);
          says = says_back o said (label_field card) (operand_field card) (record { unbroken = p.0; asterisk = plain }) more;
        })

    by_comment : (test : Bool) → begins (codes "*") (label_field card) ≡ test →
        (if test then Ok statement.Comment
        else (if is_broken (label_field card) || is_broken (operation_field card) then Err fault.BrokenField
        else (or_fault fault.UnknownOperation (operation_in (operation_field card)) >>= (λ o. statement_of o (label_field card) (operand_field card))))) ≡ Ok said →
        IsCard said card
    by_comment true t h = inl (record { comment = ok_same statement.Comment said h; asterisk = asterisk_spelled (drop 5 card.0) t })
    by_comment false t h = by_fields (is_broken (label_field card) || is_broken (operation_field card)) refl t h

pub card_one : (one other : Statement) (card : Card) → IsCard one card → IsCard other card → one ≡ other
card_one one other card h k = sym (ok_same one other (sym (card_read one card h) ∙ card_read other card k))

pub card_faulty : (card : Card) → length card.0 ≡ 80 → IsErr (statement_on card) ↔ ((said : Statement) → IsCard said card → ⊥)
card_faulty card long = (λ bad said h. true≢false (sym bad ∙ ap is_err (card_read said card h)), λ none. by_result (statement_on card) refl none)
  where
    by_result : (found : Result Statement StatementFault) → statement_on card ≡ found → ((said : Statement) → IsCard said card → ⊥) → is_err found ≡ true
    by_result (Ok said) e none = absurd (none said (card_spelled said card long e))
    by_result (Err fault) e none = refl
