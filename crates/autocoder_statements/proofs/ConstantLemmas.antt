-- for `with_zone` of `constants`: digits whose last one gets a zone
use Rattle.std.proofs.Common.{◌≡◌, ℕ, ◌-◌, ◌<◌, List, length, get_or, set, arith, ◌∙◌, ap}
use Rattle.std.proofs.lemmas.List.{get_or_read}
use Rattle.bcd.specs.declared.Zone.{Zone}
use Rattle.addresses.specs.Digits.{digit_under}
use Rattle.autocoder_statements.specs.Characters.{digit_value}
use Rattle.autocoder_statements.specs.Constants.{with_zone}

pub zoned_is : (zone : Zone) (digits copied text : List ℕ) (digit value code : ℕ) → 0 < length digits →
    text ≡ set copied (length digits - 1) code → copied ≡ digits → code ≡ digit_under zone value → value ≡ digit_value digit →
    digit ≡ get_or digits (length digits - 1) digit → text ≡ with_zone zone digits
unfolding with_zone
zoned_is zone digits copied text digit value code some e f g h i =
    let within : length digits - 1 < length digits = omega arith in
    let last : digit ≡ get_or digits (length digits - 1) 0 = get_or_read digits (length digits - 1) _ within i 0 in
    e ∙ ap (λ xs. set xs (length digits - 1) code) f ∙ ap (λ c. set digits (length digits - 1) c) (g ∙ ap (digit_under zone) (h ∙ ap digit_value last))
