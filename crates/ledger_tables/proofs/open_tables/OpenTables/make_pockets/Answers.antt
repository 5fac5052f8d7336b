use Rattle.std.proofs.Common.{codes, refl}
use Rattle.ledger_tables.specs.Schema.{pockets, new_up_to_profiles}
use Rattle.ledger_tables.specs.Steps.{seen}
use Rattle.ledger_tables.proofs.Frames.{on_ok_then}
use Rattle.ledger_tables.proofs.Texts.{create_pockets, create_pockets_new}
use Rattle.ledger_tables.proofs.CreateTables.{table_made}
use Rattle.ledger_tables.proofs.CreateTexts.{pockets_text}
use Rattle.ledger_tables.proofs.CreateNames.{adds_one}
use Rattle.ledger_tables.proofs.RaisingTables.{pockets_created}
use Rattle.ledger_tables.proofs.open_tables.OpenTables.make_pockets.Goals as goal

pub returns-clause-made : goal.returns-clause-made
returns-clause-made g c clean inside =
    on_ok_then c.run.result _ _ (λ ran. table_made new_up_to_profiles create_pockets pockets create_pockets_new refl (seen g.S.Store c.args.self.now) (seen g.S.Store c.run.new.self) ran.0 ran.1) (c.run.ensures.ran clean inside)

pub returns-clause-named : goal.returns-clause-named
returns-clause-named g c clean inside =
    adds_one create_pockets (codes "pockets") pockets_text pockets create_pockets_new.2 refl (seen g.S.Store c.args.self.now) (seen g.S.Store c.run.new.self) c.run.result (c.run.ensures.ran clean inside) (c.run.ensures.failed clean inside) inside

pub returns-clause-beside : goal.returns-clause-beside
returns-clause-beside g c clean inside =
    on_ok_then c.run.result _ _ (λ ran t version has. pockets_created (seen g.S.Store c.args.self.now) (seen g.S.Store c.run.new.self) ran.0 ran.1 t version has) (c.run.ensures.ran clean inside)
