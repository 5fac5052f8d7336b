use Rattle.std.proofs.Common.{◌⊎◌, arith}
use Rattle.std.proofs.Math.Logic.{∥∥₁_map}
use Rattle.sqlite.specs.FileStore.{recovers}
use Rattle.sqlite.specs.Files.{file_state}
use Rattle.sqlite.specs.State.{HasCleanDisk}
use Rattle.sqlite.specs.Tree.{Trees}
use Rattle.ledger.specs.Older.{LeftOf}
use Rattle.office_tables.specs.Standing.{LeftAs}
use Rattle.ledger_files.proofs.migrating.end.Goals as goal

pub returns-in-Ok-clause-version : goal.returns-in-Ok-clause-version
returns-in-Ok-clause-version g c files found clean = found (c.in-Ok.ensures.clean clean)

pub returns-in-Err-clause-unmigrated : goal.returns-in-Err-clause-unmigrated
returns-in-Err-clause-unmigrated g c files midway = (
  c.in-Err.ensures.told,
  λ clean version office are.
      let was : HasCleanDisk (file_state c.args.conn) = omega (arith, c.in-Err.ensures.clean_still, clean) in
      ∥∥₁_map (midway was version office are) (λ all.
      let r : (db : Trees) → recovers c.in-Err.store db → LeftOf version db office ⊎ LeftAs db office = λ db may. all db (c.in-Err.ensures.kept db may) in r),
)
