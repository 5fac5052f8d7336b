use Rattle.ledger_rows.proofs.StorageCells.{characters_of}
use Rattle.ledger_rows.proofs.storage.storage_holds_characters.Goals as goal

pub returns : goal.returns
returns c = characters_of c.args.core.now
