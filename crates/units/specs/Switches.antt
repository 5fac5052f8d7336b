-- the sense switches of the console
use Rattle.std.specs.Prelude.{◌%◌, ◌<◌}
use Rattle.units.specs.declared.switches.Switches.{Switches}

-- the seven switches without the eighth bit, which is no switch: A is the lowest bit, G the seventh
abbrev pub seven : Switches → Switches
seven switches = record { 0 = switches.0 % 128 }

-- no bit is set that is not a switch
abbrev pub AreSeven : Switches → Type 0
AreSeven switches = switches.0 < 128
