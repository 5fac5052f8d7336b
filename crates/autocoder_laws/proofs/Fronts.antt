-- for all laws: what a reader reads at the beginning of a text, and what is left
use Rattle.std.proofs.Common.{◌≡◌, ℕ, suc, ◌<◌, nat_lt, ◌+◌, ◌==◌, Bool, true, false, ◌&&◌, List, [], ◌∷◌, ◌++◌, length, drop, Option, Some, None, if◌then◌else◌, refl, sym, ◌∙◌, ap, ap₂, subst, arith, inl, inr, append_assoc, append-nil, length-append}
use Rattle.std.specs.List.{list_all}
use Rattle.std.proofs.lemmas.Bool.{eqb-true, ltb-true}
use Rattle.std.proofs.Math.Seq.{drop-append_seam}
use Rattle.bcd.specs.Table.{glyph_of}
use Rattle.addresses.specs.Digits.{code_of}
use Rattle.autocoder_statements.specs.Characters.{is_ended, begins}
use Rattle.autocoder_statements.specs.Expressions.{◌>>=◌}
use Rattle.autocoder_statements.specs.Statements.{whole}
use Rattle.autocoder_laws.specs.Texts.{Joined, IsTyped, IsEnd, blank}
use Rattle.autocoder_laws.proofs.Classes.{same_glyph}
use Rattle.autocoder_statements.proofs.Tests.{both}
use Rattle.autocoder_statements.proofs.Found.{some_if}

-- ---- options

pub bound : {A B : Type 0} (o : Option A) (f : A → Option B) (y : B) → (o >>= f) ≡ Some y → (x : A) × (o ≡ Some x) × (f x ≡ Some y)
bound None f y e = absurd (cc)
bound (Some x) f y e = (x, refl, e)

pub if_none : {A : Type 0} (test : Bool) (o : Option A) (y : A) → (if test then None else o) ≡ Some y → (test ≡ false) × (o ≡ Some y)
if_none true o y e = absurd (cc)
if_none false o y e = (refl, e)

-- ---- fronts

-- a text begins with one such text, of so many characters
pub record Front (IsOne : List ℕ → Type 0) (text : List ℕ) (count : ℕ) : Type 0 where
  pub one : List ℕ
  pub rest : List ℕ
  pub said : text ≡ one ++ rest
  pub counted : length one ≡ count
  pub is_one : IsOne one

pub left : {P : List ℕ → Type 0} (text : List ℕ) (count : ℕ) (f : Front P text count) → drop count text ≡ f.rest
left text count f = ap (drop count) f.said ∙ ap (λ n. drop n (f.one ++ f.rest)) (sym f.counted) ∙ drop-append_seam f.one f.rest

-- one text and another after it
pub joined : {P Q : List ℕ → Type 0} (text : List ℕ) (n m : ℕ) → Front P text n → Front Q (drop n text) m → Front (Joined P Q) text (n + m)
joined text n m f g =
    let after : f.rest ≡ g.one ++ g.rest = sym (left text n f) ∙ g.said in
    record {
      one = f.one ++ g.one;
      rest = g.rest;
      said = f.said ∙ ap (λ rest. f.one ++ rest) after ∙ sym (append_assoc f.one g.one g.rest);
      counted = length-append f.one g.one ∙ ap₂ (λ a b. a + b) f.counted g.counted;
      is_one = record { one = f.one; other = g.one; said = refl; is_one = f.is_one; is_other = g.is_one };
    }

pub changed : {P Q : List ℕ → Type 0} (text : List ℕ) (n : ℕ) → ((one : List ℕ) → P one → Q one) → Front P text n → Front Q text n
changed text n h f = record { one = f.one; rest = f.rest; said = f.said; counted = f.counted; is_one = h f.one f.is_one }

pub nothing : {P : List ℕ → Type 0} (text : List ℕ) → P [] → Front P text 0
nothing text h = record { one = []; rest = text; said = refl; counted = refl; is_one = h }

-- ---- the end of a field

is_blank_code : (c : ℕ) → (glyph_of c == 32) ≡ true → c ≡ blank
unfolding glyph_of
is_blank_code c h = same_glyph c 0 (omega arith) (λ e. absurd (cc)) (eqb-true _ _ h)

pub end_of : (text : List ℕ) → is_ended text ≡ true → IsEnd text
unfolding is_ended
end_of [] h = inl refl
end_of (c ∷ []) h = inr (inl (ap (λ x. x ∷ []) (is_blank_code c h)))
end_of (c ∷ d ∷ text) h =
    let p = both (glyph_of c == 32) (glyph_of d == 32) h in
    inr (inr (text, ap₂ (λ x y. x ∷ y ∷ text) (is_blank_code c p.0) (is_blank_code d p.1)))

pub ended : (text : List ℕ) → IsEnd text → is_ended text ≡ true
unfolding is_ended glyph_of
ended text (inl e) = rw e refl
ended text (inr (inl e)) = rw e refl
ended text (inr (inr (comment, e))) = rw e refl

-- ---- whole fields

pub whole_read : {A : Type 0} (x : A) (text rest : List ℕ) → IsEnd rest → whole (text ++ rest) (Some (x, length text)) ≡ Some x
unfolding whole
whole_read x text rest h = rw (drop-append_seam text rest, ended rest h) refl

pub whole_spelled : {A : Type 0} (P : A → List ℕ → Type 0) (field : List ℕ) (found : Option (A × ℕ)) (x : A) → whole field found ≡ Some x →
    ((y : A) (n : ℕ) → found ≡ Some (y, n) → Front (P y) field n) → Joined (P x) IsEnd field
unfolding whole
whole_spelled P field None x e read = absurd (cc)
whole_spelled P field (Some (y, n)) x e read =
    let p = some_if (is_ended (drop n field)) y x e in
    let f = read y n refl in
    record {
      one = f.one;
      other = f.rest;
      said = f.said;
      is_one = subst (λ z. P z f.one) p.1 f.is_one;
      is_other = subst IsEnd (left field n f) (end_of (drop n field) p.0);
    }

-- ---- characters with given glyphs

-- whether each of these is the glyph of a character
abbrev pub are_glyphs : List ℕ → Bool
are_glyphs glyphs = list_all (λ g. (glyph_of (code_of g) == g) && (nat_lt (code_of g) 64 && nat_lt 0 g)) glyphs

-- what begins with these glyphs begins with their characters
pub begins_typed : (glyphs text : List ℕ) → are_glyphs glyphs ≡ true → begins glyphs text ≡ true → Front (IsTyped glyphs) text (length glyphs)
unfolding begins
begins_typed [] text all h = record { one = []; rest = text; said = refl; counted = refl; is_one = refl }
begins_typed (g ∷ glyphs) [] all h = absurd (cc)
begins_typed (g ∷ glyphs) (c ∷ text) all h =
    let p = both ((glyph_of (code_of g) == g) && (nat_lt (code_of g) 64 && nat_lt 0 g)) (are_glyphs glyphs) all in
    let q = both (glyph_of (code_of g) == g) (nat_lt (code_of g) 64 && nat_lt 0 g) p.0 in
    let r = both (nat_lt (code_of g) 64) (nat_lt 0 g) q.1 in
    let here = both (glyph_of c == g) (begins glyphs text) h in
    let own : glyph_of (code_of g) ≡ g = eqb-true _ _ q.0 in
    let some : glyph_of (code_of g) ≡ 0 → ⊥ = λ e. none g (ltb-true 0 g r.1) (sym own ∙ e) in
    let first : c ≡ code_of g = same_glyph c (code_of g) (ltb-true _ _ r.0) some (eqb-true _ _ here.0 ∙ sym own) in
    let f = begins_typed glyphs text p.1 here.1 in
    record {
      one = code_of g ∷ f.one;
      rest = f.rest;
      said = ap₂ (λ x xs. x ∷ xs) first f.said;
      counted = ap suc f.counted;
      is_one = ap (λ xs. code_of g ∷ xs) f.is_one;
    }
  where
    none : (g : ℕ) → 0 < g → g ≡ 0 → ⊥
    none g h e = absurd (omega arith)

-- ---- fields that end

pub front_end : {P : List ℕ → Type 0} (text : List ℕ) (n : ℕ) → Front P text n → is_ended (drop n text) ≡ true → Joined P IsEnd text
front_end text n f h = record { one = f.one; other = f.rest; said = f.said; is_one = f.is_one; is_other = subst IsEnd (left text n f) (end_of (drop n text) h) }

pub joined_end : {P Q : List ℕ → Type 0} (text : List ℕ) (n : ℕ) → Front P text n → Joined Q IsEnd (drop n text) → Joined (Joined P Q) IsEnd text
joined_end text n f j = record {
  one = f.one ++ j.one;
  other = j.other;
  said = f.said ∙ ap (λ rest. f.one ++ rest) (sym (left text n f) ∙ j.said) ∙ sym (append_assoc f.one j.one j.other);
  is_one = record { one = f.one; other = j.one; said = refl; is_one = f.is_one; is_other = j.is_one };
  is_other = j.is_other;
}

pub changed_one : {P Q R : List ℕ → Type 0} (text : List ℕ) → ((one : List ℕ) → P one → Q one) → Joined P R text → Joined Q R text
changed_one text h j = record { one = j.one; other = j.other; said = j.said; is_one = h j.one j.is_one; is_other = j.is_other }

nothing_left : (rest : List ℕ) → length rest ≡ 0 → rest ≡ []
nothing_left [] h = refl
nothing_left (c ∷ rest) h = absurd (omega arith)

-- what is as long as the text is the text
pub whole_front : {P : List ℕ → Type 0} (text : List ℕ) (n : ℕ) → Front P text n → length text ≡ n → P text
whole_front {P} text n f long =
    let none : f.rest ≡ [] = nothing_left f.rest (omega (arith, ap length f.said, length-append f.one f.rest, f.counted)) in
    subst P (sym (f.said ∙ ap (λ rest. f.one ++ rest) none ∙ append-nil f.one)) f.is_one
