-- for the law `statements_are_exact`: the parts of an instruction, read back and spelled
use Rattle.std.proofs.Common.{◌≡◌, ℕ, zero, suc, ◌+◌, ◌^◌, ◌<◌, ◌≤◌, Bool, true, false, List, [], ◌∷◌, ◌++◌, length, drop, Option, Some, None, if◌then◌else◌, nat_lt, unwrap_or, refl, sym, ◌∙◌, ap, subst, arith, append-nil}
use Rattle.std.specs.Prelude.{codes, option_to_list, option_map}
use Rattle.std.specs.List.{All}
use Rattle.std.specs.Str.{bytes_eq}
use Rattle.std.proofs.lemmas.Bool.{eqb-true, ltb-true, lt-ltb}
use Rattle.std.proofs.lemmas.List.Elements.{All-tail}
use Rattle.std.proofs.lemmas.Slice.Eq.{bytes_eq-Decides}
use Rattle.bcd.specs.Table.{zone_of}
use Rattle.bcd.specs.declared.Zone.{Zone}
use Rattle.bcd.specs.declared.Zone.TheVariants.{Bare, A, B, AB}
use Rattle.addresses.specs.Addresses.{Tagged, base, sum_of, tagged, weighed, written, location_of}
use Rattle.addresses.specs.Digits as digits
use Rattle.addresses.specs.declared.tagged.IndexLocation.{IndexLocation}
use Rattle.addresses.specs.declared.tagged.IndexLocation.TheVariants.{First, Second, Third}
use Rattle.addresses.proofs.TableLemmas.{first_below, second_below, third_below}
use Rattle.autocoder_statements.specs.Characters.{is_ended}
use Rattle.autocoder_statements.specs.Laws.{digits_of}
use Rattle.autocoder_statements.specs.Mnemonics.{code_of}
use Rattle.autocoder_statements.specs.Operands.{is_modifier, modifier}
use Rattle.autocoder_statements.specs.declared.expressions.Base.TheVariants.{Number}
use Rattle.autocoder_statements.specs.declared.expressions.Adjustment.TheVariants.{Nothing}
use Rattle.autocoder_statements.specs.declared.expressions.Address as addresses
use Rattle.autocoder_statements.specs.declared.modifiers.Modifiers.{Modifiers}
use Rattle.autocoder_statements.specs.declared.operand_kinds.OperandKind.{OperandKind}
use Rattle.autocoder_statements.specs.declared.operand_kinds.OperandKind.TheVariants.{Branch, Field}
use Rattle.autocoder_statements.specs.declared.operands.Operand.{Operand}
use Rattle.autocoder_statements.specs.declared.operands.Operand.TheVariants.{Address}
use Rattle.autocoder_statements.proofs.Found.{some_if}
use Rattle.autocoder_statements.proofs.GlyphLemmas.{code_found}
use Rattle.autocoder_layout.specs.Cells.{tag, operand_codes}
use Rattle.autocoder_layout.specs.Literals.{Characters}
use Rattle.autocoder_layout.specs.Names.{value_in, within}
use Rattle.autocoder_layout.specs.declared.slots.Slot.{Slot}
use Rattle.disassembly.specs.Statements.{if_written, address, last, is_own_last}
use Rattle.disassembly.specs.Texts.{name_at, number_text, index_text, tagged_text, address_text, behind_comma}
use Rattle.autocoder_laws.specs.Texts.{Joined, AfterComma}
use Rattle.autocoder_laws.specs.Numbers.{IsNumber}
use Rattle.autocoder_laws.specs.Addresses.{IsExpression, IsAddress}
use Rattle.autocoder_laws.specs.OperandFields.{IsOperand, IsLast}
use Rattle.autocoder_laws.proofs.OperandTexts.{last_spelled}

-- all are numbers of characters
abbrev pub AreSmall : List ℕ → Type 0
AreSmall text = All (λ code. code < 64) text

pub head_small : (code : ℕ) (text : List ℕ) → AreSmall (code ∷ text) → code < 64
head_small code text small = small 0 0 (omega arith)

pub tail_small : (code : ℕ) (text : List ℕ) → AreSmall (code ∷ text) → AreSmall text
tail_small code text small = All-tail (λ c. c < 64) code text small

-- ---- an address, read back

sum_below : (x y z : Option ℕ) (n : ℕ) → unwrap_or x 0 ≤ 3900 → unwrap_or y 0 ≤ 90 → unwrap_or z 0 ≤ 12009 → sum_of x y z ≡ Some n → n < 16000
sum_below (Some x) (Some y) (Some z) n first second third e = let sum : x + y + z ≡ n = cc in omega (arith, first, second, third, sum)
sum_below (Some x) (Some y) None n first second third e = absurd (cc)
sum_below (Some x) None z n first second third e = absurd (cc)
sum_below None y z n first second third e = absurd (cc)

base_below : (x y z n : ℕ) → x < 64 → y < 64 → z < 64 → base x y z ≡ Some n → n < 16000
unfolding base
base_below x y z n first second third e =
    sum_below (weighed 100 1000 x) (weighed 10 0 y) (weighed 1 4000 z) n (first_below x first) (second_below y second) (third_below z third) e

tag_of_zone : (zone : Zone) → tag (location_of zone) ≡ zone
tag_of_zone Bare = refl
tag_of_zone A = refl
tag_of_zone B = refl
tag_of_zone AB = refl

pub record Written (text : List ℕ) (a : Tagged) : Type 0 where
  pub below : a.base < 16000
  pub said : text ≡ written (tag a.index) a.base ++ drop 3 text
  pub small : AreSmall (drop 3 text)

pub address_back : (text : List ℕ) (a : Tagged) → AreSmall text → address text ≡ Some a → Written text a
unfolding address tagged
address_back [] a small e = absurd (cc)
address_back (x ∷ []) a small e = absurd (cc)
address_back (x ∷ y ∷ []) a small e = absurd (cc)
address_back (x ∷ y ∷ z ∷ text) a small e = by_base (base x y z) refl e
  where
    zone : Zone
    zone = zone_of y

    three : List ℕ
    three = x ∷ y ∷ z ∷ []

    more : AreSmall (y ∷ z ∷ text)
    more = tail_small x (y ∷ z ∷ text) small

    last : AreSmall (z ∷ text)
    last = tail_small y (z ∷ text) more

    by_base : (found : Option ℕ) → base x y z ≡ found → if_written (zone_of y) (x ∷ y ∷ z ∷ []) (option_map (λ n. record { base = n; index = location_of (zone_of y) }) found) ≡ Some a
        → Written (x ∷ y ∷ z ∷ text) a
    by_base None b h = absurd (cc)
    by_base (Some n) b h =
        let p = some_if (bytes_eq (written (zone_of y) n) (x ∷ y ∷ z ∷ [])) (record { base = n; index = location_of (zone_of y) }) a h in
        let same : written (zone_of y) n ≡ x ∷ y ∷ z ∷ [] = (bytes_eq-Decides (written (zone_of y) n) (x ∷ y ∷ z ∷ [])).0 p.0 in
        let own : x ∷ y ∷ z ∷ [] ≡ written (tag (location_of (zone_of y))) n = sym same ∙ ap (λ t. written t n) (sym (tag_of_zone (zone_of y))) in
        subst (Written (x ∷ y ∷ z ∷ text)) p.1 (record {
          below = base_below x y z n (head_small x (y ∷ z ∷ text) small) (head_small y (z ∷ text) more) (head_small z text last) b;
          said = ap (λ codes. codes ++ text) own;
          small = tail_small z text last;
        })

-- ---- an address, spelled

digits_long : (count n : ℕ) → length (digits_of count n) ≡ count
unfolding digits_of
digits_long zero n = refl
digits_long (suc k) n = ap suc (digits_long k n)

number_in : (count n : ℕ) → 0 < count → count ≤ 5 → n < 10 ^ count → IsNumber n (digits_of count n)
number_in count n some few below =
    let long = sym (digits_long count n) in
    record {
      some = subst (λ k. 0 < k) long some;
      few = subst (λ k. k ≤ 5) long few;
      below = subst (λ k. n < 10 ^ k) long below;
      said = ap (λ k. digits_of k n) long;
    }

number_is : (n : ℕ) → n < 16000 → IsNumber n (number_text n)
number_is n below = by_three (nat_lt n 1000) refl
  where
    by_four : (small : Bool) → nat_lt n 10000 ≡ small → IsNumber n (digits_of (if small then 4 else 5) n)
    by_four true t = number_in 4 n (omega arith) (omega arith) (ltb-true n 10000 t)
    by_four false t = number_in 5 n (omega arith) (omega arith) (omega (arith, below))

    by_three : (small : Bool) → nat_lt n 1000 ≡ small → IsNumber n (digits_of (if small then 3 else (if nat_lt n 10000 then 4 else 5)) n)
    by_three true t = number_in 3 n (omega arith) (omega arith) (ltb-true n 1000 t)
    by_three false t = by_four (nat_lt n 10000) refl

pub with_nothing : {P Q : List ℕ → Type 0} (text : List ℕ) → P text → Q [] → Joined P Q text
with_nothing text p q = record { one = text; other = []; said = sym (append-nil text); is_one = p; is_other = q }

abbrev pub as_address : ℕ → Option IndexLocation → addresses.Address
as_address n index = record { expression = record { base = Number n; adjustment = Nothing }; index = index }

expression_is : (n : ℕ) → n < 16000 → IsExpression (record { base = Number n; adjustment = Nothing }) (number_text n)
expression_is n below = with_nothing (number_text n) (number_is n below) refl

tagged_is : (n : ℕ) (index : Option IndexLocation) → n < 16000 → IsAddress (as_address n index) (tagged_text [] n index)
unfolding name_at code_of digits.code_of
tagged_is n None below = with_nothing (number_text n) (expression_is n below) refl
tagged_is n (Some First) below = record { one = number_text n; other = index_text (codes "1"); said = refl; is_one = expression_is n below; is_other = refl }
tagged_is n (Some Second) below = record { one = number_text n; other = index_text (codes "2"); said = refl; is_one = expression_is n below; is_other = refl }
tagged_is n (Some Third) below = record { one = number_text n; other = index_text (codes "3"); said = refl; is_one = expression_is n below; is_other = refl }

-- an address as an operand
abbrev pub as_operand : Tagged → Operand
as_operand a = Address (as_address a.base a.index)

pub operand_is : (kind : OperandKind) (a : Tagged) → a.base < 16000 → IsOperand kind (as_operand a) (address_text [] a)
unfolding address_text
operand_is Branch a below = tagged_is a.base a.index below
operand_is Field a below = tagged_is a.base a.index below

pub comma_is : {P : List ℕ → Type 0} (text : List ℕ) → P text → AfterComma P (behind_comma text)
unfolding code_of digits.code_of
comma_is text p = record { one = code_of 44 ∷ []; other = text; said = refl; is_one = refl; is_other = p }

-- the characters that the assembler makes of it
pub codes_are : (slots : List Slot) (literals : List Characters) (a : Tagged) → a.base < 16000 → operand_codes 16000 slots literals (Some (as_operand a)) ≡ written (tag a.index) a.base
unfolding value_in within
codes_are slots literals a below = rw (lt-ltb a.base 16000 below) refl

-- ---- last characters

allowed : (modifiers : Modifiers) (code : ℕ) → is_modifier modifiers code ≡ true → IsLast modifiers code (code ∷ [])
unfolding modifier is_ended
allowed modifiers code t =
    let h = last_spelled modifiers (code ∷ []) code (rw t refl) in
    record { allowed = h.is_one.allowed; said = refl }

pub last_back : (modifiers : Modifiers) (text : List ℕ) (code : ℕ) → last modifiers text ≡ Some code → (text ≡ code ∷ []) × IsLast modifiers code (code ∷ [])
unfolding last
last_back modifiers [] code e = absurd (cc)
last_back modifiers (c ∷ []) code e =
    let p = some_if (is_modifier modifiers c) c code e in
    (ap (λ x. x ∷ []) p.1, allowed modifiers code (subst (λ x. is_modifier modifiers x ≡ true) p.1 p.0))
last_back modifiers (c ∷ d ∷ text) code e = absurd (cc)

pub own_last_back : (own : Option ℕ) (text : List ℕ) → AreSmall text → is_own_last own text ≡ true → option_to_list (option_map code_of own) ≡ text
unfolding is_own_last
own_last_back None [] small h = refl
own_last_back None (c ∷ text) small h = absurd (cc)
own_last_back (Some glyph) [] small h = absurd (cc)
own_last_back (Some glyph) (c ∷ []) small h = ap (λ x. x ∷ []) (sym (code_found glyph c (head_small c [] small) (eqb-true _ _ h)))
own_last_back (Some glyph) (c ∷ d ∷ text) small h = absurd (cc)
