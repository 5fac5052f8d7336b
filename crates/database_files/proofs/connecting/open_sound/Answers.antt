use Rattle.database_files.proofs.ConnectingLemmas.{finds, undamaged, unopened, damaged, unlooked}
use Rattle.database_files.proofs.connecting.open_sound.Goals as goal

pub returns-in-Ok-None-clause-found : goal.returns-in-Ok-None-clause-found
returns-in-Ok-None-clause-found g c = finds c.args.files c.find_damage.new.log c.find_damage.ensures.same c.open_files_with.result c.open_files_with.ensures.found

pub returns-in-Ok-None-clause-cause : goal.returns-in-Ok-None-clause-cause
returns-in-Ok-None-clause-cause g c = unopened c.args.files c.find_damage.new.log c.find_damage.ensures.same c.open_files_with.result c.open_files_with.ensures.cause c.open_files_with.ensures.unharmed

pub returns-in-Ok-Some-clause-cause : goal.returns-in-Ok-Some-clause-cause
returns-in-Ok-Some-clause-cause g c = damaged c.args.files c.find_damage.new.log c.find_damage.ensures.same c.in-Ok-Some.field-0 c.in-Ok-Some.field-0-0 c.in-Ok-Some.field-0-is c.in-Ok-Some.ensures.ok

pub returns-in-Err-clause-cause : goal.returns-in-Err-clause-cause
returns-in-Err-clause-cause g c = unlooked c.args.files c.find_damage.new.log c.find_damage.ensures.same c.in-Err.error _ c.look_error.ensures c.in-Err.ensures.cause

pub returns-in-Ok-None-clause-sound : goal.returns-in-Ok-None-clause-sound
returns-in-Ok-None-clause-sound g c = undamaged c.args.files c.find_damage.new.log c.find_damage.ensures.same c.open_files_with.result c.in-Ok-None.field-0 c.in-Ok-None.field-0-is c.in-Ok-None.ensures.ok c.open_files_with.ensures.found
