use Rattle.std.proofs.Common.{◌≡◌, false, IsTrue, sym, ap, subst, ◌∙◌, arith}
use Rattle.sqlite.specs.Effect.{Database}
use Rattle.sqlite.specs.Held.{state}
use Rattle.sqlite.specs.State.{HasCleanDisk}
use Rattle.sqlite_catalog.specs.Listing.{IsSound}
use Rattle.sqlite_trees.specs.View.{View}
use Rattle.ledger_tables.specs.Schema.{bureau_schema}
use Rattle.job_checks.specs.Tables.{AreInOrder}
use Rattle.job_checks.proofs.OrderLemmas.{are_in_order, open_of}
use Rattle.job_checks.proofs.reading.hand_back.Goals as goal

pub returns-clause-sound : goal.returns-clause-sound
returns-clause-sound g c clean =
    let s = c.into_store-store.result in
    let v : View = g.S.Store.view s in
    let whole : v.is_broken ≡ false = sym (c.is_broken.ensures clean) ∙ c.if-is_broken.false in
    let open_now : IsTrue v.is_open = open_of v.is_open v.is_broken (g.met.S.Store.broken_if_shut s) whole in
    let quiet : HasCleanDisk (state g.S.Store c.args.conn) = omega (arith, c.into_store-store.ensures.quiet.clean, clean) in
    let undone = c.into_store-store.ensures.undone.undone open_now in (
      quiet,
      λ db ours sound committed.
          let trees : v.trees ≡ db.trees = undone.0 ∙ ap (λ (d : Database). d.trees) (committed ((c.into_store-store.ensures.undone.kept clean).was_open open_now)) in
          let obeys : IsSound bureau_schema db.trees = subst (λ schema. IsSound schema db.trees) ours sound in
          let sorted : AreInOrder v.trees = are_in_order v (g.met.S.Alter.listed s whole) (g.met.S.Store.ordered s whole) (subst (IsSound bureau_schema) (sym trees) obeys) in
          record { schema = ours; sound = sound; in_order = subst AreInOrder trees sorted },
    )
