use Rattle.std.proofs.Common.{[], ◌∷◌, ap, ap₂, sym, ◌∙◌}
use Rattle.std.specs.Str.{bytes_eq}
use Rattle.addresses.specs.Addresses.{written}
use Rattle.disassembly.proofs.PartLemmas.{address_found}
use Rattle.disassembly.proofs.parts.address.Goals as goal

pub returns-clause-address : goal.returns-clause-address
returns-clause-address c =
    let three = c.first-item.result ∷ c.second-item.result ∷ c.third-item.result ∷ [] in
    let test = c.if-not-is_written.false in
    let made = ap₂ (λ tag number. bytes_eq (written tag number) three) c.zone.ensures (ap (λ a. a.base) c.address.view_is) in
    address_found c.args.text.now c.first-item.result c.second-item.result c.third-item.result c.in_ok-address.address
    c.in-len3-up.len_at_least c.first-item.is c.second-item.is c.third-item.is (sym c.in_ok-address.ensures.address)
    (sym made ∙ sym c.is_written.ensures ∙ test)
