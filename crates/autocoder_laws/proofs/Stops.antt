-- for the clauses `read`: what stops each reader, the end of the field or a comma
use Rattle.std.proofs.Common.{◌≡◌, ℕ, List, [], ◌∷◌, ◌++◌, refl, sym, ◌∙◌, ap, subst, inl, inr}
use Rattle.std.specs.Prelude.{None}
use Rattle.bcd.specs.Table.{glyph_of}
use Rattle.addresses.specs.Digits.{code_of}
use Rattle.autocoder_statements.specs.Characters.{is_of, run, begins}
use Rattle.autocoder_statements.specs.Expressions.{digit_run, signed_run, index}
use Rattle.autocoder_statements.specs.Names.{name_run}
use Rattle.autocoder_laws.specs.Texts.{AfterComma, IsEnd, blank}

-- a text that goes on no number, name and adjustment
pub record Halts (rest : List ℕ) : Type 0 where
  pub digits : digit_run rest ≡ 0
  pub names : name_run rest ≡ 0
  pub signs : signed_run rest ≡ 0

-- and no index location
pub record Stops (rest : List ℕ) : Type 0 where
  pub halts : Halts rest
  pub tags : index rest ≡ (None, 0)

none_stops : Stops []
unfolding run signed_run begins index
none_stops = record { halts = record { digits = refl; names = refl; signs = refl }; tags = refl }

-- 0 is the blank
blank_stops : (text : List ℕ) → Stops (0 ∷ text)
unfolding run is_of glyph_of signed_run begins index
blank_stops text = record { halts = record { digits = refl; names = refl; signs = refl }; tags = refl }

-- 27 is the comma
comma_stops : (text : List ℕ) → Stops (27 ∷ text)
unfolding run is_of glyph_of signed_run begins index
comma_stops text = record { halts = record { digits = refl; names = refl; signs = refl }; tags = refl }

pub end_stops : (rest : List ℕ) → IsEnd rest → Stops rest
end_stops rest (inl e) = subst Stops (sym e) none_stops
end_stops rest (inr (inl e)) = subst Stops (sym e) (blank_stops [])
end_stops rest (inr (inr (comment, e))) = subst Stops (sym e) (blank_stops (blank ∷ comment))

pub after_comma_stops : {P : List ℕ → Type 0} (text rest : List ℕ) → AfterComma P text → Stops (text ++ rest)
unfolding code_of
after_comma_stops text rest h =
    let e : text ≡ 27 ∷ h.other = h.said ∙ ap (λ one. one ++ h.other) h.is_one in
    subst (λ t. Stops (t ++ rest)) (sym e) (comma_stops (h.other ++ rest))
