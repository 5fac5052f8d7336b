-- Commands in turn.
use Rattle.std.proofs.Common.{◌≡◌, inl, inr, ℕ, ◌+◌, ◌<◌, ◌≤◌, ◌||◌, Bool, true, false, List, [], ◌∷◌, ◌++◌, length, get_or, take, refl, sym, ap, subst, ◌∙◌, arith, append-nil, length-append, None, Some, Result, Ok, Err}
use Rattle.std.specs.Prelude.{◌≢◌, Option}
use Rattle.std.specs.List.{list_any}
use Rattle.std.proofs.lemmas.List.{take_all}
use Rattle.std.proofs.lemmas.List.Concat.{flat_map-append}
use Rattle.std.proofs.lemmas.List.Folds.{list_any-append}
use Rattle.std.proofs.KnownBytes.{Appends-trans}
use Rattle.std.specs.Io.KnownBytes.{Appends}
use Rattle.office.specs.Office as office
use Rattle.office.specs.Office.{Office}
use Rattle.office.specs.declared.commands.Command.{Command}
use Rattle.office.specs.declared.replies.Reply.{Reply}
use Rattle.sqlite.specs.Held.{Held, state}
use Rattle.sqlite.specs.State.{HasCleanDisk}
use Rattle.sqlite.specs.View.{doubt}
use Rattle.sqlite_trees.specs.declared.store.Store.{Ghosts}
use Rattle.scripts.specs.Replies.{fault_line, reply_line}
use Rattle.scripts.specs.Sending.{Writes, WritesPart, counted}
use Rattle.scripts.specs.declared.write_failed.WriteFailed.{WriteFailed}
use Rattle.scripts.proofs.SendingLemmas.{part_after}
use Rattle.ledger_tables.specs.declared.faults.Fault.{Fault}
use Rattle.ledger_tables.specs.declared.faults.Fault.TheVariants.{NoMemory, Store}
use Rattle.ledger.proofs.ShiftLemmas.{office_more, replies_more}
use Rattle.office_tables.specs.Standing.{Stands}
use Rattle.ledger_tables.specs.Faults.{fault_number}
use Rattle.exchanges.specs.Ending.{StopsAtFirst}
use Rattle.exchanges.specs.declared.script_ends.ScriptEnd.TheVariants as ended
use Rattle.exchanges.specs.Running.{SendsBegun, office_after, replies_to, reply_lines}
use Rattle.exchanges.specs.Steps.{IsReplyTo, Sends, SendsSome, is_refusal}

or_false : (b : Bool) → (b || false) ≡ b
or_false true = refl
or_false false = refl

any_more : (f : Reply → Bool) (xs : List Reply) (x : Reply) → list_any f (xs ++ x ∷ []) ≡ (list_any f xs || f x)
any_more f xs x = list_any-append f xs (x ∷ []) ∙ ap (λ (b : Bool). list_any f xs || b) (or_false (f x))

pub refused_more : (replies : List Reply) (reply : Reply) (before now after : Bool)
    → before ≡ list_any is_refusal replies → now ≡ is_refusal reply → after ≡ (before || now) → after ≡ list_any is_refusal (replies ++ reply ∷ [])
refused_more replies reply before now after one two both =
    both ∙ ap (λ (b : Bool). b || now) one ∙ ap (λ (b : Bool). list_any is_refusal replies || b) two ∙ sym (any_more is_refusal replies reply)

lines_more : (replies : List Reply) (reply : Reply) → reply_lines replies ++ reply_line reply ≡ reply_lines (replies ++ reply ∷ [])
lines_more replies reply =
    ap (λ (l : List ℕ). reply_lines replies ++ l) (sym (append-nil (reply_line reply))) ∙ sym (flat_map-append reply_line replies (reply ∷ []))

count_more : (before n m first second : ℕ) → first ≡ counted (before + n) → second ≡ counted (first + m) → second ≡ counted (before + (n + m))
count_more before n m first second one two = omega (arith, one, two)

pub sends_more : (replies : List Reply) (reply : Reply) (old mid new : Option (List ℕ)) (between after : ℕ)
    → Sends (reply_lines replies) old mid 0 between → Sends (reply_line reply) mid new between after → Sends (reply_lines (replies ++ reply ∷ [])) old new 0 after
sends_more replies reply old mid new between after one two =
    let front : List ℕ = reply_lines replies in
    let back : List ℕ = reply_line reply in
    subst (λ (l : List ℕ). Sends l old new 0 after) (lines_more replies reply)
    (Appends-trans old mid new front back one.0 two.0, subst (λ (n : ℕ). after ≡ counted (0 + n)) (sym (length-append front back)) (count_more 0 (length front) (length back) between after one.1 two.1))

pub part_more : (replies : List Reply) (reply : Reply) (old mid new : Option (List ℕ)) (between after : ℕ)
    → Sends (reply_lines replies) old mid 0 between → WritesPart (reply_line reply) mid new between after → WritesPart (reply_lines (replies ++ reply ∷ [])) old new 0 after
part_more replies reply old mid new between after one two =
    subst (λ (l : List ℕ). WritesPart l old new 0 after) (lines_more replies reply)
    (part_after (reply_lines replies) (reply_line reply) old mid new 0 between after one.0 one.1 two)

pub nothing_sent : (written : Option (List ℕ)) → Sends [] written written 0 0
nothing_sent None = (tt, omega arith)
nothing_sent (Some bytes) = (sym (append-nil bytes), omega arith)

-- a fault that is not the store's
pub only_memory : (fault : Fault) → fault ≢ Store → fault ≡ NoMemory
only_memory NoMemory other = refl
only_memory Store other = absurd (other refl)

-- what a write came to, whether the writer failed or not
pub sends_some : {T : Type 0} (bytes : List ℕ) (old new : Option (List ℕ)) (before after : ℕ) (result : Result T WriteFailed)
    → Writes bytes old new before after result → SendsSome bytes old new before after
sends_some bytes old new before after (Ok done) all =
    (length bytes, omega arith, subst (Appends old new) (sym (take_all (length bytes) bytes (omega arith))) all.0, all.1)
sends_some bytes old new before after (Err failed) part = (part.0, omega (arith, part.1), part.2, part.3)

-- the lines of replies, and then of a fault
pub begun_after : (front back : List ℕ) (old mid new : Option (List ℕ)) (between after : ℕ)
    → Sends front old mid 0 between → SendsSome back mid new between after → SendsBegun front back old new 0 after
begun_after front back old mid new between after one some =
    (some.0, some.1, Appends-trans old mid new front (take some.0 back) one.0 some.2, count_more 0 (length front) some.0 between after one.1 some.3)

-- the run of the first so many commands
pub record SoFar {S : Type 0} (g : Ghosts S) (old now : Held S) (commands : List Command) (n : ℕ) (refused : Bool) (written text : Option (List ℕ)) (sent : ℕ) : Type 0 where
  pub replies : List Reply
  pub count : length replies ≡ n
  pub refusing : refused ≡ list_any is_refusal replies
  pub lines : Sends (reply_lines replies) written text 0 sent
  pub stands : HasCleanDisk (state g now) → (o : Office) → Stands (state g old) o → Stands (state g now) (office_after n commands o) × (replies ≡ replies_to n commands o)

module _ {S : Type 0} (g : Ghosts S) (old mid new : Held S) (early : doubt (state g mid).is_clean ≤ doubt (state g new).is_clean)
    (commands : List Command) (n : ℕ) (it : Command) (within : n < length commands) (is : it ≡ get_or commands n it) (reply : Reply) (done : IsReplyTo g mid new (office.take it) reply)
    (refused : Bool) (written text : Option (List ℕ)) (sent : ℕ) (before : SoFar g old mid commands n refused written text sent) where
  -- one command more was replied to
  pub stands_more : HasCleanDisk (state g new) → (o : Office) → Stands (state g old) o
      → Stands (state g new) (office_after (n + 1) commands o) × (before.replies ++ reply ∷ [] ≡ replies_to (n + 1) commands o)
  stands_more clean o s =
      let was : HasCleanDisk (state g mid) = omega (arith, early) in
      let first = before.stands was o s in
      let next = done clean (office_after n commands o) first.0 in (
        subst (Stands (state g new)) (office_more commands n it within is o) next.1,
        ap (λ (rs : List Reply). rs ++ reply ∷ []) first.1 ∙ ap (λ (r : Reply). replies_to n commands o ++ r ∷ []) next.0 ∙ replies_more commands n it within is o,
      )

  pub count_one : length (before.replies ++ reply ∷ []) ≡ n + 1
  count_one = length-append before.replies (reply ∷ []) ∙ ap (λ m. m + 1) before.count

  pub so_far_more : (now after : Bool) (further : Option (List ℕ)) (more : ℕ) → now ≡ is_refusal reply → Sends (reply_line reply) text further sent more → after ≡ (refused || now)
      → SoFar g old new commands (n + 1) after written further more
  so_far_more now after further more is_refused sends both = record {
    replies = before.replies ++ reply ∷ [];
    count = count_one;
    refusing = refused_more before.replies reply refused now after before.refusing is_refused both;
    lines = sends_more before.replies reply written text further sent more before.lines sends;
    stands = stands_more;
  }

-- ---- a broken bureau

none_of : (commands : List Command) → length commands ≡ 0 → commands ≡ []
none_of [] is = refl
none_of (command ∷ commands) is = absurd (omega (arith, is))

-- the first command met fault 2
pub stopped_at_first : (commands : List Command) (n : ℕ) (refused : Bool) (between after : ℕ) (fault : Fault) (old mid new : Option (List ℕ))
    → n < length commands → n ≡ 0 → refused ≡ false → between ≡ 0 → mid ≡ old → fault ≡ Store → SendsSome (fault_line (fault_number fault)) mid new between after
    → StopsAtFirst commands (record { acknowledged = n; sent = after; refused = refused; ended = ended.Fault fault }) old new
stopped_at_first commands n refused between after fault old mid new within none not_refused begun same is sends = (
  (none, not_refused),
  inr (omega (arith, within, none), ap ended.Fault is, subst (λ f. SendsSome (fault_line (fault_number f)) old new 0 after) is (subst (λ w. SendsSome (fault_line (fault_number fault)) w new 0 after) same (subst (λ b. SendsSome (fault_line (fault_number fault)) mid new b after) begun sends))),
)

-- there is no command
pub stopped_at_none : (commands : List Command) (n : ℕ) (refused : Bool) (sent : ℕ) (old now : Option (List ℕ)) → length commands ≡ n → n ≡ 0 → refused ≡ false → sent ≡ 0 → now ≡ old
    → StopsAtFirst commands (record { acknowledged = n; sent = sent; refused = refused; ended = ended.Whole }) old now
stopped_at_none commands n refused sent old now all none not_refused begun same = ((none, not_refused), inl (none_of commands (all ∙ none), refl, begun, same))
