use Rattle.std.proofs.Common.{true≢false, ◌≡◌, ◌∙◌, ◌++◌, List, All, drop, length, map, refl, sym, ap, subst, arith}
use Rattle.std.proofs.lemmas.List.{length-map}
use Rattle.units.specs.declared.punch.Punched.{Punched}
use Rattle.ledger_rows.specs.Pockets.{in_normal, with_pockets, ArePunched, IsPocketOf}
use Rattle.ledger_rows.proofs.PocketsRead.{all_pockets, are_punched, at_some, given_back, normal_bytes, normal_held, not_none, pockets_are_all}
use Rattle.ledger_rows.proofs.pockets.read_punched.Goals as goal

pub returns-in_default-clause-all : goal.returns-in_default-clause-all
returns-in_default-clause-all c = λ punched held bytes are.
    let read = c.in_ok-punched.ensures.all (map in_normal punched) (normal_held punched held) (bytes ∙ sym (normal_bytes punched)) in
    absurd (not_none c.in_ok-punched.field-0 read.1 c.in_default.not-Some)

pub returns-then-not-put_into_pockets-clause-all : goal.returns-then-not-put_into_pockets-clause-all
returns-then-not-put_into_pockets-clause-all c = λ punched held bytes are.
    let read = c.in_ok-punched.ensures.all (map in_normal punched) (normal_held punched held) (bytes ∙ sym (normal_bytes punched)) in
    let items = at_some _ c.in_ok-punched.field-0 c.in-Some.punched c.in-Some.is read.0 in
    let many : length c.deref_mut.result.now ≡ length punched = ap length (c.deref_mut.ensures.value ∙ items) ∙ length-map punched in_normal in
    absurd (true≢false (sym (c.put_into_pockets.ensures.are.1 (all_pockets punched c.args.pockets.now (length c.deref_mut.result.now) many are)) ∙ c.if-not-put_into_pockets.true))

pub returns-clause-all : goal.returns-clause-all
returns-clause-all c = λ punched held bytes are.
    let read = c.in_ok-punched.ensures.all (map in_normal punched) (normal_held punched held) (bytes ∙ sym (normal_bytes punched)) in
    let items = at_some _ c.in_ok-punched.field-0 c.in-Some.punched c.in-Some.is read.0 in
    let new = c.put_into_pockets.new.cards in
    let whole : c.in-Some.punched.len ≡ length new = omega (arith, c.in-Some.punched.ok, c.deref_mut.ensures.len, ap length c.deref_mut.ensures.value, c.put_into_pockets.ensures.size) in (
      given_back new (drop (length new) c.in-Some.punched.items) c.in-Some.punched.len whole
          ∙ c.put_into_pockets.ensures.put c.if-not-put_into_pockets.false
          ∙ ap (λ (xs : List Punched). with_pockets xs c.args.pockets.now) (c.deref_mut.ensures.value ∙ items)
          ∙ pockets_are_all punched c.args.pockets.now are,
      refl,
    )

pub returns-clause-only : goal.returns-clause-only
returns-clause-only c =
    let only = at_some _ c.in_ok-punched.field-0 c.in-Some.punched c.in-Some.is c.in_ok-punched.ensures.only in
    let cards = c.in-Some.punched.items in
    let lent = c.deref_mut.ensures.value in
    let new = c.put_into_pockets.new.cards in
    let whole : c.in-Some.punched.len ≡ length new = omega (arith, c.in-Some.punched.ok, c.deref_mut.ensures.len, ap length lent, c.put_into_pockets.ensures.size) in
    let many : length new ≡ length cards = c.put_into_pockets.ensures.size ∙ ap length lent in
    let are = subst (λ (xs : List Punched). All (IsPocketOf (length xs)) c.args.pockets.now) lent (c.put_into_pockets.ensures.are.0 c.if-not-put_into_pockets.false) in
    let put = c.put_into_pockets.ensures.put c.if-not-put_into_pockets.false ∙ ap (λ (xs : List Punched). with_pockets xs c.args.pockets.now) lent in
    subst (ArePunched c.args.cards.now c.args.pockets.now) (sym (given_back new (drop (length new) cards) c.in-Some.punched.len whole))
    (are_punched c.args.cards.now c.args.pockets.now cards new only.0 only.1 many are put)
