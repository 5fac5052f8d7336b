use Rattle.card_tools.proofs.ManifestFields.{one_entry}
use Rattle.card_tools.proofs.laws.manifest_lines_have_one_reading.Goals as goal

pub returns : goal.returns
returns c = one_entry
