-- disks that do not become clean by what is done
use Rattle.std.specs.Prelude.{◌≤◌}
use Rattle.sqlite.specs.Held.{Held, state}
use Rattle.sqlite.specs.View.{doubt}
use Rattle.sqlite_trees.specs.declared.store.Store.{Ghosts}

-- a disk that is clean after was clean before
abbrev pub StaysClean : {S : Type 0} → Ghosts S → Held S → Held S → Type 0
StaysClean g old new = doubt (state g old).is_clean ≤ doubt (state g new).is_clean
