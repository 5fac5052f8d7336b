-- a session: what it began with, what it has done, its stops and the position it watches
use Rattle.std.specs.Prelude.{ℕ, ◌≡◌, ◌≤◌, ◌-◌, if◌then◌else◌, List, [], ◌∷◌, All, Option, None}
use Rattle.machine.specs.Run.{State, after, is_halted, started}
use Rattle.units.specs.declared.switches.Switches.{Switches}
use Rattle.run_traces.specs.Names.{Named}
use Rattle.console.specs.declared.starts.Start.{Start}

-- the most instructions of a session
abbrev pub most_made : ℕ
most_made = 1000000000

-- a session: the machine that the load button left, the names of its source, the machine as it
-- stands, how many instructions it has attempted, the starts that it was given, the stops, and the
-- position that is watched
pub record SessionState : Type 0 where
  pub base : State
  pub names : Option Named
  pub machine : State
  pub made : ℕ
  pub starts : List Start
  pub stops : List ℕ
  pub watched : Option ℕ

-- a session that begins
abbrev pub begun : State → Option Named → SessionState
begun base names = record {
  base = base;
  names = names;
  machine = base;
  made = 0;
  starts = [];
  stops = [];
  watched = None;
}

-- the machine after the start button, with these switches; only a halt is left by it
abbrev pub pressed : State → Switches → State
pressed m switches = if is_halted m.standing then started m switches else m

-- a machine that has attempted so many instructions, with these starts to come, after so many in
-- all
unfoldable pub machine_from : State → ℕ → List Start → ℕ → State
machine_from m done [] count = after m (count - done)
machine_from m done (start ∷ starts) count =
    machine_from (pressed (after m (start.made - done)) start.switches) start.made starts count

-- the machine of a past: what the load button left, after so many instructions, with these starts
-- among them
abbrev pub machine_of : State → List Start → ℕ → State
machine_of base starts count = machine_from base 0 starts count

-- the machine of a session is that of its past, no start is from later on, and it has not made more
-- instructions than a session may
pub record HasCome (s : SessionState) : Type 0 where
  pub machine : s.machine ≡ machine_of s.base s.starts s.made
  pub earlier : All (λ start. start.made ≤ s.made) s.starts
  pub most : s.made ≤ most_made
