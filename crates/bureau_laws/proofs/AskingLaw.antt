-- a target spells one number, one set of switches and so one thing to ask for
use Rattle.std.proofs.Common.{◌≡◌, ◌∙◌, ◌==◌, ℕ, ◌<◌, List, [], ◌∷◌, Bool, true, false, sym, ap, subst, refl, arith, inl, inr}
use Rattle.std.specs.Prelude.{Option, Some, None, if◌then◌else◌}
use Rattle.std.specs.Option.{option_map_or}
use Rattle.std.specs.Str.{bytes_eq}
use Rattle.std.proofs.lemmas.Bool.{eqb-true}
use Rattle.std.proofs.lemmas.Fmt.{decimal_injective}
use Rattle.bcd.proofs.Tables.{at_each}
use Rattle.http_messages.specs.declared.routes.Route.{Route}
use Rattle.http_messages.specs.declared.routes.Verb.{Verb}
use Rattle.http_messages.specs.declared.routes.Verb.TheVariants as verb
use Rattle.http_messages.specs.Parts.{part}
use Rattle.http_messages.specs.Paths.{route_at}
use Rattle.units.specs.declared.switches.Switches.{Switches}
use Rattle.texts.specs.Numbers.{IsNumberOf}
use Rattle.texts.specs.Switches.{AreSwitchesOf, letters_of, risen, text_of_bits}
use Rattle.office.specs.declared.commands.JobCommand.{JobCommand}
use Rattle.office.specs.declared.commands.JobCommand.TheVariants as on
use Rattle.office.specs.declared.stackers.Stacker.{Stacker}
use Rattle.http_messages.specs.Targets.{Asks, IsCommandBy, IsJobOf}
use Rattle.http_messages.specs.Fields.{body_length}
use Rattle.http_messages.specs.Judging.{AsksFor}
use Rattle.http_messages.specs.declared.targets.Target.{Target}
use Rattle.http_messages.specs.declared.targets.Target.TheVariants as target
use Rattle.texts.specs.declared.names.JobName.{JobName}
use Rattle.http_messages.specs.HeadTests.{count_of, fields_of}
use Rattle.httparse.specs.Grammar.{RequestHead}
use Rattle.bureau_laws.specs.Same.{IsSameTarget, IsSameJob}
use Rattle.bureau_laws.proofs.HeadLaw.{same_head}

-- ---- numbers and switches

some_is : {x y : ℕ} → Some x ≡ Some y → x ≡ y
some_is e = cc

pub one_number : (text : List ℕ) (n m : ℕ) → IsNumberOf text n → IsNumberOf text m → n ≡ m
one_number text n m (inl a) (inl b) = decimal_injective n m (omega (arith, a.1)) (omega (arith, b.1)) (sym a.2 ∙ b.2)
one_number text n m (inl a) (inr b) = absurd (b.1 n a.0 a.1 a.2)
one_number text n m (inr a) (inl b) = absurd (a.1 m b.0 b.1 b.2)
one_number text n m (inr a) (inr b) = a.0 ∙ sym b.0

-- the switches that a text spells, if it spells some
abbrev spelled : List ℕ → Option ℕ
spelled text = if bytes_eq text (45 ∷ []) then Some 0 else risen 0 text

abbrev is_spelled : ℕ → Bool
is_spelled bits = option_map_or (λ m. m == bits) (spelled (text_of_bits bits)) false

is_spelled_at : (bits : ℕ) → bits < 128 → is_spelled bits ≡ true
unfolding risen letters_of
is_spelled_at bits small = at_each is_spelled 128 refl bits small

spelled_as : (o : Option ℕ) (bits : ℕ) → option_map_or (λ m. m == bits) o false ≡ true → o ≡ Some bits
spelled_as None bits e = cc
spelled_as (Some m) bits e = ap (λ (n : ℕ). Some n) (eqb-true m bits e)

are_spelled : (text : List ℕ) (bits : ℕ) → bits < 128 → text ≡ text_of_bits bits → spelled text ≡ Some bits
are_spelled text bits small is = ap spelled is ∙ spelled_as (spelled (text_of_bits bits)) bits (is_spelled_at bits small)

pub one_set : (text : List ℕ) (some other : Switches) → AreSwitchesOf text some → AreSwitchesOf text other → some ≡ other
one_set text some other a b =
    let bits : some.0 ≡ other.0 = some_is (sym (are_spelled text some.0 a.0 a.1) ∙ are_spelled text other.0 b.0 b.1) in
    ap (λ (n : ℕ). let all : Switches = record { 0 = n } in all) bits

pub one_job : (target : List ℕ) (job name : JobName) → IsJobOf target job → IsJobOf target name → IsSameJob job name
one_job target job name a b = (a.0 ∙ sym b.0, one_number _ job.number name.number a.1 b.1)

-- a verb and its value are one command
one_command : (v : Verb) (text : List ℕ) (c d : JobCommand) → IsCommandBy v text c → IsCommandBy v text d → c ≡ d
one_command verb.Slice text (on.Slice limit) (on.Slice most) x y = ap (λ (n : ℕ). on.Slice n) (one_number text limit most x y)
one_command verb.Slice text (on.Slice limit) d x y = absurd y
one_command verb.Start text (on.Start switches) (on.Start up) x y = ap (λ (s : Switches). on.Start s) (one_set text switches up x y)
one_command verb.Start text (on.Start switches) d x y = absurd y
one_command verb.Hold text on.Hold on.Hold x y = refl
one_command verb.Hold text on.Hold d x y = absurd y
one_command verb.Release text on.Release on.Release x y = refl
one_command verb.Release text on.Release d x y = absurd y
one_command verb.Collect text on.Collect on.Collect x y = refl
one_command verb.Collect text on.Collect d x y = absurd y
one_command verb.Standing text on.Standing on.Standing x y = refl
one_command verb.Standing text on.Standing d x y = absurd y
one_command verb.Cards text (on.Cards from) (on.Cards other) x y = ap (λ (s : Stacker). on.Cards s) (x ∙ sym y)
one_command verb.Cards text (on.Cards from) d x y = absurd y
one_command verb.Pocket text (on.Cards from) (on.Cards other) x y = ap (λ (s : Stacker). on.Cards s) (x ∙ sym y)
one_command verb.Pocket text (on.Cards from) d x y = absurd y
one_command verb.Lines text on.Lines on.Lines x y = refl
one_command verb.Lines text on.Lines d x y = absurd y
one_command v text c d x y = absurd x

-- ---- what is asked

-- a target has one route
one_route : (text : List ℕ) {r s : Route} → route_at text ≡ Some r → route_at text ≡ Some s → r ≡ s
one_route text x y = let e = sym x ∙ y in cc

-- a target asks for one thing
pub same_target : (text : List ℕ) (a b : Target) → Asks text a → Asks text b → IsSameTarget a b
same_target text (target.Submission job kind size switches) (target.Submission name form positions up) x y =
    let e = one_route text x.0 y.0 in
    (one_job text job name x.1 y.1, cc, one_number _ size positions x.2 y.2, one_set _ switches up x.3 y.3)
same_target text (target.Job job c) (target.Job name d) x y =
    let e = one_route text x.1 y.1 in
    let same : y.0 ≡ x.0 = cc in
    (one_job text job name x.2 y.2, one_command x.0 _ c d x.3 (subst (λ (u : Verb). IsCommandBy u (part 6 text) d) same y.3))
same_target text (target.Jobs customer) (target.Jobs name) x y = x.1 ∙ sym y.1
same_target text target.Queue target.Queue x y = tt
same_target text (target.Submission job kind size switches) (target.Job name d) x y = absurd (let e = one_route text x.0 y.1 in cc)
same_target text (target.Submission job kind size switches) (target.Jobs name) x y = absurd (let e = one_route text x.0 y.0 in cc)
same_target text (target.Submission job kind size switches) target.Queue x y = absurd (let e = one_route text x.0 y in cc)
same_target text (target.Job job c) (target.Submission name form positions up) x y = absurd (let e = one_route text x.1 y.0 in cc)
same_target text (target.Job job c) (target.Jobs name) x y = absurd (let e = one_route text x.1 y.0 in cc)
same_target text (target.Job job c) target.Queue x y = absurd (let e = one_route text x.1 y in cc)
same_target text (target.Jobs customer) (target.Submission name form positions up) x y = absurd (let e = one_route text x.0 y.0 in cc)
same_target text (target.Jobs customer) (target.Job name d) x y = absurd (let e = one_route text x.0 y.1 in cc)
same_target text (target.Jobs customer) target.Queue x y = absurd (let e = one_route text x.0 y in cc)
same_target text target.Queue (target.Submission name form positions up) x y = absurd (let e = one_route text x y.0 in cc)
same_target text target.Queue (target.Job name d) x y = absurd (let e = one_route text x y.1 in cc)
same_target text target.Queue (target.Jobs name) x y = absurd (let e = one_route text x y.0 in cc)

-- bytes ask for one thing, with a body of one length, and the same bytes come after the head
pub same_asking : (input : List ℕ) (a b : Target) (n m : ℕ) (after rest : List ℕ) → AsksFor input a n after → AsksFor input b m rest
    → IsSameTarget a b × (n ≡ m) × (after ≡ rest)
same_asking input a b n m after rest (h, begins, passed, asks, counted, more) (k, also, too, other, length, left) =
    let heads = same_head input h k begins also in
    let target = ap (λ (x : RequestHead). x.target) heads.0 in (
      same_target k.target a b (subst (λ (t : List ℕ). Asks t a) target asks) other,
      counted ∙ ap (λ (x : RequestHead). count_of (body_length (fields_of x))) heads.0 ∙ sym length,
      more ∙ heads.1 ∙ sym left,
    )
