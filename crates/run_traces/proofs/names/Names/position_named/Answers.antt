use Rattle.std.proofs.Common.{◌≡◌, ◌<◌, All, IfSome, ap, arith, subst, sym, ◌∙◌}
use Rattle.autocoder.specs.Listing.{glyphs_of}
use Rattle.run_traces.specs.Addresses.{position_named}
use Rattle.run_traces.proofs.AddressLemmas.{is_named}
use Rattle.run_traces.proofs.names.Names.position_named.Goals as goal

pub returns-in-Some : goal.returns-in-Some
returns-in-Some c =
    let below = subst (λ found. IfSome found (λ codes. All (λ code. code < 64) codes.items)) c.in-Some.is c.in_ok-codes.ensures.below in
    let read = subst (λ found. IfSome found (λ codes. c.as_bytes-bytes.result.now ≡ glyphs_of codes.items)) c.in-Some.is c.in_ok-codes.ensures.some in
    is_named c.args.self.now.slots c.args.text.now c.in-Some.codes.items c.position_named.result (omega arith) below (sym c.as_bytes-bytes.ensures.value ∙ read)
    (c.position_named.ensures ∙ ap (λ slots. position_named slots c.deref.result.now) c.slots.ensures ∙ ap (position_named c.args.self.now.slots) c.deref.ensures.value)
