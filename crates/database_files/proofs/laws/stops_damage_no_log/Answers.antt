use Rattle.database_files.proofs.UndamagedLemmas.{store_undamaged}
use Rattle.database_files.proofs.laws.stops_damage_no_log.Goals as goal

pub returns : goal.returns
returns g c is_open image may = store_undamaged c.args.left.now is_open image may
