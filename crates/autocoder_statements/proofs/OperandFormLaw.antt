-- for the law `a_field_has_one_form`
use Rattle.std.proofs.Common.{◌≡◌, ℕ, ◌==◌, Bool, true, false, ◌&&◌, ◌||◌, List, [], ◌∷◌, drop, Option, Some, None, if◌then◌else◌, refl}
use Rattle.std.specs.Option.{is_some, option_and_then}
use Rattle.autocoder_statements.specs.declared.operands.Operands.{Operands}
use Rattle.std.proofs.lemmas.Bool.{eqb-true}
use Rattle.bcd.specs.Table.{glyph_of}
use Rattle.autocoder_statements.specs.Characters.{run, is_of, begins, begins_with_letter, is_ended}
use Rattle.autocoder_statements.specs.Expressions.{number, base, expression, address}
use Rattle.autocoder_statements.specs.Operands.{begins_literal, operand, next_operand, operands, without_modifier}
use Rattle.autocoder_statements.specs.Laws.{fits}
use Rattle.autocoder_statements.specs.declared.operand_forms.OperandForm.TheVariants.{Empty, One, Two}
use Rattle.autocoder_statements.specs.declared.operands.Operand.{Operand}
use Rattle.autocoder_statements.specs.declared.operand_kinds.OperandKind.{OperandKind}
use Rattle.autocoder_statements.specs.declared.operand_kinds.OperandKind.TheVariants.{Branch, Field}
use Rattle.autocoder_statements.proofs.Tests.{both}

-- ---- what begins with a blank is no operand

nothing_read : (kind : OperandKind) → operand kind [] ≡ None
unfolding operand address expression base number run begins begins_with_letter
nothing_read Branch = refl
nothing_read Field = refl

blank_read : (kind : OperandKind) (code : ℕ) (text : List ℕ) → glyph_of code ≡ 32 → operand kind (code ∷ text) ≡ None
unfolding operand address expression base number run is_of begins begins_with_letter
blank_read Branch code text e = rw e refl
blank_read Field code text e = rw e refl

no_operand : (kind : OperandKind) (text : List ℕ) → is_ended text ≡ true → operand kind text ≡ None
unfolding is_ended
no_operand kind [] h = nothing_read kind
no_operand kind (code ∷ []) h = blank_read kind code [] (eqb-true _ _ h)
no_operand kind (code ∷ next ∷ text) h = blank_read kind code (next ∷ text) (eqb-true _ _ (both (glyph_of code == 32) (glyph_of next == 32) h).0)

no_comma : (text : List ℕ) → is_ended text ≡ true → begins (44 ∷ []) text ≡ false
unfolding is_ended begins
no_comma [] h = refl
no_comma (code ∷ []) h = let e : glyph_of code ≡ 32 = eqb-true _ _ h in rw e refl
no_comma (code ∷ next ∷ text) h = let e : glyph_of code ≡ 32 = eqb-true _ _ (both (glyph_of code == 32) (glyph_of next == 32) h).0 in rw e refl

-- ---- an operand takes as many characters by either kind

at_read : (code : ℕ) (text : List ℕ) → glyph_of code ≡ 64 → address (code ∷ text) ≡ None
unfolding address expression base number run is_of begins_with_letter
at_read code text e = rw e refl

plus_read : (code : ℕ) (text : List ℕ) → glyph_of code ≡ 38 → address (code ∷ text) ≡ None
unfolding address expression base number run is_of begins_with_letter
plus_read code text e = rw e refl

minus_read : (code : ℕ) (text : List ℕ) → glyph_of code ≡ 45 → address (code ∷ text) ≡ None
unfolding address expression base number run is_of begins_with_letter
minus_read code text e = rw e refl

one_of : {P : Type 0} (a b c : Bool) → ((a && true) || ((b && true) || ((c && true) || false))) ≡ true → (a ≡ true → P) → (b ≡ true → P) → (c ≡ true → P) → P
one_of true b c h f g k = f refl
one_of false true c h f g k = g refl
one_of false false true h f g k = k refl
one_of false false false h f g k = absurd (cc)

no_address : (text : List ℕ) → begins_literal text ≡ true → address text ≡ None
unfolding begins
no_address [] h = absurd (cc)
no_address (code ∷ text) h =
    one_of (glyph_of code == 64) (glyph_of code == 38) (glyph_of code == 45) h
    (λ t. at_read code text (eqb-true _ _ t)) (λ t. plus_read code text (eqb-true _ _ t)) (λ t. minus_read code text (eqb-true _ _ t))

-- where an address is read, a field is read as the same
field_as_branch : (text : List ℕ) (found : Operand × ℕ) → operand Branch text ≡ Some found → operand Field text ≡ Some found
unfolding operand
field_as_branch text found h = by_start (begins_literal text) refl
  where
    by_start : (starts : Bool) → begins_literal text ≡ starts → operand Field text ≡ Some found
    by_start true e = let k = rw (no_address text e) at h in absurd (cc)
    by_start false e = rw e h

same_count : (kind other : OperandKind) (text : List ℕ) (one two : Operand × ℕ) → operand kind text ≡ Some one → operand other text ≡ Some two → one.1 ≡ two.1
same_count Branch Branch text one two h k = cc
same_count Field Field text one two h k = cc
same_count Branch Field text one two h k = let e = field_as_branch text one h in cc
same_count Field Branch text one two h k = let e = field_as_branch text two k in cc

-- ---- at most one form

some_where : {A : Type 0} (end : Bool) (x : A) → is_some (if end then Some x else None) ≡ true → end ≡ true
some_where true x h = refl
some_where false x h = absurd (cc)

pub none_or_one : (kind : OperandKind) (text : List ℕ) → fits Empty text ≡ true → fits (One kind) text ≡ false
unfolding operands
none_or_one kind text h = rw (no_operand kind text (some_where (is_ended text) _ h)) refl

pub none_or_two : (kind other : OperandKind) (text : List ℕ) → fits Empty text ≡ true → fits (Two kind other) text ≡ false
unfolding operands
none_or_two kind other text h = rw (no_operand kind text (some_where (is_ended text) _ h)) refl

no_next : (kind : OperandKind) (text : List ℕ) → is_ended text ≡ true → next_operand kind text ≡ None
unfolding next_operand
no_next kind text h = rw (no_comma text h) refl

abbrev one_form : Option (Operand × ℕ) → List ℕ → Option Operands
one_form found text = option_and_then (λ first. without_modifier (Some first.0) None (drop first.1 text)) found

abbrev two_forms : OperandKind → Option (Operand × ℕ) → List ℕ → Option Operands
two_forms third found text =
    option_and_then (λ first. option_and_then (λ second. without_modifier (Some first.0) (Some second.0) (drop second.1 (drop first.1 text))) (next_operand third (drop first.1 text))) found

at_most_one : (kind other third : OperandKind) (text : List ℕ) (one two : Option (Operand × ℕ)) → operand kind text ≡ one → operand other text ≡ two →
    is_some (one_form one text) ≡ true → is_some (two_forms third two text) ≡ false
at_most_one kind other third text None two e f h = absurd (cc)
at_most_one kind other third text (Some x) None e f h = refl
at_most_one kind other third text (Some x) (Some y) e f h =
    let end : is_ended (drop x.1 text) ≡ true = some_where (is_ended (drop x.1 text)) _ h in
    let count : x.1 ≡ y.1 = same_count kind other text x y e f in
    rw (no_next third (drop y.1 text) (rw count at end)) refl

pub one_or_two : (kind other third : OperandKind) (text : List ℕ) → fits (One kind) text ≡ true → fits (Two other third) text ≡ false
unfolding operands
one_or_two kind other third text h = at_most_one kind other third text (operand kind text) (operand other text) refl refl h
