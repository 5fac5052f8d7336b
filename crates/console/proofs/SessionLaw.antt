-- the laws of sessions
use Rattle.std.proofs.Common.{◌≡◌, ℕ, ◌+◌, ◌-◌, ◌≤◌, Bool, true, false, List, [], Option, if◌then◌else◌, refl, sym, ap, subst, ◌∙◌, arith}
use Rattle.std.specs.Prelude.{nat_le}
use Rattle.std.proofs.lemmas.Bool.{le-leb}
use Rattle.machine.specs.Run.{State, after, attempts, is_halted}
use Rattle.console.specs.Answers.{advanced, backed, done, going, is_inside, limit_of, next, set_back, starts_until}
use Rattle.console.specs.Commands.{is_start}
use Rattle.console.specs.SessionStates.{HasCome, SessionState, machine_of, most_made}
use Rattle.console.specs.Talks.{Talked}
use Rattle.console.specs.declared.commands.Action.{Action}
use Rattle.console.specs.declared.commands.Action.TheVariants as action
use Rattle.console.specs.declared.commands.Command.{Command}
use Rattle.console.specs.declared.commands.Command.TheVariants as say
use Rattle.console.specs.declared.starts.Start.{Start}
use Rattle.console.proofs.PastLemmas.{past_alone, until_same}
use Rattle.console.proofs.SessionLemmas.{come_next}

-- after any lines
pub come_talked : (s : SessionState) (from : Option (List ℕ)) (now : SessionState) (left : Option (List ℕ)) (lines : List (List ℕ)) (text : List ℕ) → Talked s from lines now left text → HasCome s → HasCome now
come_talked s from now left lines text Talked.none come = come
come_talked s from now left lines text (Talked.more earlier before read told line after rest more talked is answered) come =
    subst HasCome (sym answered.next_is) (come_next before answered.command (come_talked s from before read earlier told talked come))

-- a run of so many steps
pub come_alone : (s : SessionState) → HasCome s → s.starts ≡ [] → s.machine ≡ after s.base s.made
come_alone s come none = come.machine ∙ ap (λ starts. machine_of s.base starts s.made) none ∙ past_alone s.base s.made

-- the machine of the load button stays
base_by : (b : Bool) (s t : SessionState) → t.base ≡ s.base → (if b then t else s).base ≡ s.base
base_by true s t same = same
base_by false s t same = refl

base_done : (s : SessionState) (action : Action) → (done s action).base ≡ s.base
base_done s (action.Step count) = refl
base_done s (action.Go count) = refl
base_done s (action.Stop stop) = base_by (is_inside s stop) s _ refl
base_done s (action.Clear stop) = refl
base_done s (action.Watch position) = base_by (is_inside s position) s _ refl
base_done s action.Unwatch = refl
base_done s (action.Start switches) = base_by (is_halted s.machine.standing) s _ refl
base_done s (action.Back count) = base_by (nat_le count s.made) s _ refl

pub base_next : (s : SessionState) (command : Command) → (next s command).base ≡ s.base
base_next s say.Nothing = refl
base_next s say.Unknown = refl
base_next s (say.Wrong wrong) = refl
base_next s (say.Do action) = base_done s action
base_next s (say.Ask question) = refl
base_next s say.End = refl

-- no other line is a start
starts_by : (b : Bool) (s t : SessionState) → s.starts ≡ [] → t.starts ≡ [] → (if b then t else s).starts ≡ []
starts_by true s t none same = same
starts_by false s t none same = none

starts_done : (s : SessionState) (action : Action) → is_start (say.Do action) ≡ false → s.starts ≡ [] → (done s action).starts ≡ []
starts_done s (action.Step count) h none = none
starts_done s (action.Go count) h none = none
starts_done s (action.Stop stop) h none = starts_by (is_inside s stop) s _ none none
starts_done s (action.Clear stop) h none = none
starts_done s (action.Watch position) h none = starts_by (is_inside s position) s _ none none
starts_done s action.Unwatch h none = none
starts_done s (action.Start switches) h none = absurd (cc)
starts_done s (action.Back count) h none = starts_by (nat_le count s.made) s (set_back s (s.made - count)) none (ap (starts_until (s.made - count)) none)

pub starts_next : (s : SessionState) (command : Command) → is_start command ≡ false → s.starts ≡ [] → (next s command).starts ≡ []
starts_next s say.Nothing h none = none
starts_next s say.Unknown h none = none
starts_next s (say.Wrong wrong) h none = none
starts_next s (say.Do action) h none = starts_done s action h none
starts_next s (say.Ask question) h none = none
starts_next s say.End h none = none

-- going back undoes steps
back_same : (s : SessionState) (made count : ℕ) → made ≡ s.made → HasCome s → set_back (advanced s count) made ≡ s
back_same s made count same come =
    let starts : starts_until made s.starts ≡ s.starts = ap (λ n. starts_until n s.starts) same ∙ until_same s.made s.starts come.earlier in
    let machine : machine_of s.base (starts_until made s.starts) made ≡ s.machine =
    ap (λ l. machine_of s.base l made) starts ∙ ap (machine_of s.base s.starts) same ∙ sym come.machine in
    ap (λ (m : State). record { base = s.base; names = s.names; machine = m; made = made; starts = starts_until made s.starts; stops = s.stops; watched = s.watched }) machine
    ∙ ap (λ n. record { base = s.base; names = s.names; machine = s.machine; made = n; starts = starts_until made s.starts; stops = s.stops; watched = s.watched }) same
    ∙ ap (λ (l : List Start). record { base = s.base; names = s.names; machine = s.machine; made = s.made; starts = l; stops = s.stops; watched = s.watched }) starts

backed_same : (s : SessionState) (count : ℕ) → HasCome s → backed (advanced s count) count ≡ s
backed_same s count come =
    let within : nat_le count (s.made + count) ≡ true = le-leb count (s.made + count) (omega arith) in
    let same : s.made + count - count ≡ s.made = omega arith in
    ap (λ b. if b then set_back (advanced s count) (s.made + count - count) else advanced s count) within ∙ back_same s (s.made + count - count) count same come

pub undoes : (s : SessionState) (count : ℕ) → HasCome s → s.made + count ≤ most_made → attempts s.machine count ≡ count → next (next s (say.Do (action.Step count))) (say.Do (action.Back count)) ≡ s
undoes s count come fits all =
    let limit : limit_of s count ≡ count = omega arith in
    let made : attempts s.machine (limit_of s count) ≡ count = ap (attempts s.machine) limit ∙ all in
    ap (λ n. backed (advanced s n) count) made ∙ backed_same s count come

pub undoes_going : (s : SessionState) (count : ℕ) → HasCome s → next (next s (say.Do (action.Go count))) (say.Do (action.Back (going s count))) ≡ s
undoes_going s count come = backed_same s (going s count) come
