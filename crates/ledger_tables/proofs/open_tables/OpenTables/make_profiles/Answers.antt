use Rattle.std.proofs.Common.{codes, refl}
use Rattle.ledger_tables.specs.Schema.{profiles, raising_schema}
use Rattle.ledger_tables.specs.Steps.{seen}
use Rattle.ledger_tables.proofs.Frames.{on_ok_then}
use Rattle.ledger_tables.proofs.Texts.{create_profiles, create_profiles_new}
use Rattle.ledger_tables.proofs.CreateTables.{table_made}
use Rattle.ledger_tables.proofs.CreateTexts.{profiles_text}
use Rattle.ledger_tables.proofs.CreateNames.{adds_one}
use Rattle.ledger_tables.proofs.RaisingTables.{profiles_created}
use Rattle.ledger_tables.proofs.open_tables.OpenTables.make_profiles.Goals as goal

pub returns-clause-made : goal.returns-clause-made
returns-clause-made g c clean inside =
    on_ok_then c.run.result _ _ (λ ran. table_made raising_schema create_profiles profiles create_profiles_new refl (seen g.S.Store c.args.self.now) (seen g.S.Store c.run.new.self) ran.0 ran.1) (c.run.ensures.ran clean inside)

pub returns-clause-named : goal.returns-clause-named
returns-clause-named g c clean inside =
    adds_one create_profiles (codes "profiles") profiles_text profiles create_profiles_new.2 refl (seen g.S.Store c.args.self.now) (seen g.S.Store c.run.new.self) c.run.result (c.run.ensures.ran clean inside) (c.run.ensures.failed clean inside) inside

pub returns-clause-beside : goal.returns-clause-beside
returns-clause-beside g c clean inside =
    on_ok_then c.run.result _ _ (λ ran t version has. profiles_created (seen g.S.Store c.args.self.now) (seen g.S.Store c.run.new.self) ran.0 ran.1 t version has) (c.run.ensures.ran clean inside)
