-- the machine of a session is that of its past
use Rattle.std.proofs.Common.{◌≡◌, ℕ, ◌+◌, ◌-◌, ◌≤◌, Bool, true, false, List, [], Option, None, if◌then◌else◌, refl, sym, ap, subst, ◌∙◌, arith}
use Rattle.std.specs.Prelude.{All, nat_le}
use Rattle.std.proofs.lemmas.List.Elements.{All-nil, All-push}
use Rattle.units.specs.declared.switches.Switches.{Switches}
use Rattle.machine.specs.Run.{State, after, attempts, is_halted}
use Rattle.run_traces.specs.Names.{Named}
use Rattle.console.specs.Answers.{advanced, done, going, gone, is_inside, limit_of, next, restarted, set_back, stepped}
use Rattle.console.specs.SessionStates.{HasCome, SessionState, begun, machine_of, most_made, pressed}
use Rattle.console.specs.declared.commands.Action.{Action}
use Rattle.console.specs.declared.commands.Action.TheVariants as action
use Rattle.console.specs.declared.commands.Command.{Command}
use Rattle.console.specs.declared.commands.Command.TheVariants as say
use Rattle.console.specs.declared.starts.Start.{Start}
use Rattle.machine.proofs.Attempts.{attempts_fit}
use Rattle.console.proofs.GoLemmas.{went_fits}
use Rattle.console.proofs.PastLemmas.{all_later, past_later, past_none, past_started, until_all}

pub come_begun : (base : State) (names : Option Named) → HasCome (begun base names)
come_begun base names = record { machine = sym (past_none base); earlier = All-nil (λ (start : Start). start.made ≤ 0); most = omega arith }

pub come_fresh : (s : SessionState) → s.machine ≡ s.base → s.made ≡ 0 → s.starts ≡ [] → HasCome s
come_fresh s same none no_start = record {
  machine = same ∙ sym (past_none s.base) ∙ ap (λ n. machine_of s.base [] n) (sym none) ∙ ap (λ starts. machine_of s.base starts s.made) (sym no_start);
  earlier = subst (λ (starts : List Start). All (λ start. start.made ≤ s.made) starts) (sym no_start) (All-nil (λ (start : Start). start.made ≤ s.made));
  most = omega arith;
}

-- the machine of a session that has attempted so many more
pub later_machine : (s : SessionState) (count : ℕ) → HasCome s → machine_of s.base s.starts (s.made + count) ≡ after s.machine count
later_machine s count come =
    past_later s.base 0 s.starts s.made count (omega arith) come.earlier ∙ ap (λ m. after m count) (sym come.machine)

pub come_advanced : (s : SessionState) (count : ℕ) → s.made + count ≤ most_made → HasCome s → HasCome (advanced s count)
come_advanced s count fits come = record {
  machine = sym (later_machine s count come);
  earlier = all_later s.starts s.made (s.made + count) (omega arith) come.earlier;
  most = fits;
}

-- what a session attempts fits
pub limit_fits : (s : SessionState) (count n : ℕ) → s.made ≤ most_made → n ≤ limit_of s count → s.made + n ≤ most_made
limit_fits s count n most within = omega arith

come_stepped : (s : SessionState) (count : ℕ) → HasCome s → HasCome (stepped s count)
come_stepped s count come =
    let n = attempts s.machine (limit_of s count) in
    come_advanced s n (limit_fits s count n come.most (attempts_fit s.machine (limit_of s count))) come

come_gone : (s : SessionState) (count : ℕ) → HasCome s → HasCome (gone s count)
come_gone s count come =
    let n = going s count in
    come_advanced s n (limit_fits s count n come.most (went_fits s.stops s.watched s.machine (limit_of s count))) come

come_set_back : (s : SessionState) (made : ℕ) → made ≤ s.made → HasCome s → HasCome (set_back s made)
come_set_back s made within come = record { machine = refl; earlier = until_all made s.starts; most = omega (arith, come.most) }

come_backed : (b : Bool) (s : SessionState) (count : ℕ) → HasCome s → HasCome (if b then set_back s (s.made - count) else s)
come_backed true s count come = come_set_back s (s.made - count) (omega arith) come
come_backed false s count come = come

come_restarted : (s : SessionState) (switches : Switches) → HasCome s → HasCome (restarted s switches)
come_restarted s switches come =
    let start : Start = record { made = s.made; switches = switches } in
    record {
      machine = ap (λ m. pressed m switches) come.machine ∙ sym (past_started s.base 0 s.starts start);
      earlier = All-push (λ (other : Start). other.made ≤ s.made) s.starts start come.earlier (omega arith);
      most = come.most;
    }

come_started : (b : Bool) (s : SessionState) (switches : Switches) → HasCome s → HasCome (if b then restarted s switches else s)
come_started true s switches come = come_restarted s switches come
come_started false s switches come = come

-- stops and the watched position are no part of the past
come_stops : (s : SessionState) (stops : List ℕ) → HasCome s → HasCome (record s { stops = stops })
come_stops s stops come = record { machine = come.machine; earlier = come.earlier; most = come.most }

come_watched : (s : SessionState) (watched : Option ℕ) → HasCome s → HasCome (record s { watched = watched })
come_watched s watched come = record { machine = come.machine; earlier = come.earlier; most = come.most }

come_stopped : (b : Bool) (s : SessionState) (stops : List ℕ) → HasCome s → HasCome (if b then record s { stops = stops } else s)
come_stopped true s stops come = come_stops s stops come
come_stopped false s stops come = come

come_watching : (b : Bool) (s : SessionState) (watched : Option ℕ) → HasCome s → HasCome (if b then record s { watched = watched } else s)
come_watching true s watched come = come_watched s watched come
come_watching false s watched come = come

pub come_done : (s : SessionState) (action : Action) → HasCome s → HasCome (done s action)
come_done s (action.Step count) come = come_stepped s count come
come_done s (action.Go count) come = come_gone s count come
come_done s (action.Stop stop) come = come_stopped (is_inside s stop) s _ come
come_done s (action.Clear stop) come = come_stops s _ come
come_done s (action.Watch position) come = come_watching (is_inside s position) s _ come
come_done s action.Unwatch come = come_watched s None come
come_done s (action.Start switches) come = come_started (is_halted s.machine.standing) s switches come
come_done s (action.Back count) come = come_backed (nat_le count s.made) s count come

pub come_next : (s : SessionState) (command : Command) → HasCome s → HasCome (next s command)
come_next s say.Nothing come = come
come_next s say.Unknown come = come
come_next s (say.Wrong wrong) come = come
come_next s (say.Do action) come = come_done s action come
come_next s (say.Ask question) come = come
come_next s say.End come = come
