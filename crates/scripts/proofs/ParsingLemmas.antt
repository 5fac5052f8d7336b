-- The first line of a script, and what it says.
use Rattle.std.proofs.Common.{◌≡◌, ◌≢◌, ◌∙◌, inl, inr, ℕ, ◌+◌, ◌<◌, ◌≤◌, length, arith, length-append, List, [], ◌∷◌, ◌++◌, refl, sym, ap, subst}
use Rattle.std.proofs.lemmas.List.Elements.{All-head, All-tail}
use Rattle.scripts.specs.declared.meanings.Meaning.{Meaning}
use Rattle.scripts.specs.declared.meanings.Meaning.TheVariants as said
use Rattle.scripts.specs.Commands.{IsMeantBy, IsMeantIn}
use Rattle.scripts.specs.Lines.{IsWithout}
use Rattle.office.specs.declared.commands.Command.{Command}
use Rattle.office.specs.declared.commands.Command.TheVariants as command
use Rattle.scripts.specs.declared.faults.ScriptFault.{ScriptFault}
use Rattle.scripts.specs.declared.faults.ScriptFault.TheVariants as fault
use Rattle.scripts.specs.declared.headings.Heading.{Heading}
use Rattle.scripts.specs.Scripts.{Begins, EndsSubmission, HasFaultAfter, IsBadHere, IsFaultHere, IsFaultOf, Leads, later}
use Rattle.scripts.proofs.DeckLemmas.{deck_shorter}
use Rattle.scripts.specs.Words.{AreWords, words_of}

-- a byte that stands there
stands : (byte : ℕ) (front back : List ℕ) → ¬ IsWithout byte (front ++ byte ∷ back)
stands byte [] back none = All-head (λ (b : ℕ). b ≢ byte) byte back none refl
stands byte (first ∷ front) back none = stands byte front back (All-tail (λ (b : ℕ). b ≢ byte) first (front ++ byte ∷ back) none)

-- bytes have one first line
pub one_line : (byte : ℕ) (a b r s : List ℕ) → IsWithout byte a → IsWithout byte b → a ++ byte ∷ r ≡ b ++ byte ∷ s → (a ≡ b) × (r ≡ s)
one_line byte [] [] r s none other same = (refl, let e = same in cc)
one_line byte [] (y ∷ b) r s none other same =
    absurd (All-head (λ (x : ℕ). x ≢ byte) y b other (let e = same in cc))
one_line byte (x ∷ a) [] r s none other same =
    absurd (All-head (λ (y : ℕ). y ≢ byte) x a none (let e = same in cc))
one_line byte (x ∷ a) (y ∷ b) r s none other same =
    let e = same in
    let head : x ≡ y = cc in
    let tail : a ++ byte ∷ r ≡ b ++ byte ∷ s = cc in
    let rest = one_line byte a b r s (All-tail (λ (z : ℕ). z ≢ byte) x a none) (All-tail (λ (z : ℕ). z ≢ byte) y b other) tail in
    (ap (λ (z : ℕ). z ∷ a) head ∙ ap (λ (zs : List ℕ). y ∷ zs) rest.0, rest.1)

-- without a line feed no line stands here
pub no_line : (bytes : List ℕ) → bytes ≢ [] → IsWithout 10 bytes → IsBadHere bytes 1
no_line bytes some none = (some, inl (refl, λ it rest other begins. stands 10 begins.line rest (subst (IsWithout 10) begins.begins.1 none)))

no_other : (words : List (List ℕ)) (it : Meaning) → it ≢ said.Nothing → IsMeantBy words said.Nothing → ¬ IsMeantBy words it
no_other words (said.Command c) other none says = none.0 c says
no_other words (said.Heading h) other none says = none.1 h says
no_other words said.Nothing other none says = other refl

-- where the first line says nothing
pub bad_line : (bytes line rest : List ℕ) → bytes ≢ [] → IsWithout 10 line → bytes ≡ line ++ 10 ∷ rest → IsMeantIn line said.Nothing → IsBadHere bytes 1
bad_line bytes line rest some none whole says = (
  some,
  inl (
    refl,
    λ it after other begins.
        let same : line ≡ begins.line = (one_line 10 line begins.line rest after none begins.begins.0 (sym whole ∙ begins.begins.1)).0 in
        no_other (words_of line) it other (says (subst (λ (l : List ℕ). AreWords (words_of l)) (sym same) begins.words))
        (subst (λ (l : List ℕ). IsMeantBy (words_of l) it) (sym same) begins.says),
  ),
)

-- a heading, and the cards after it
pub headed : (bytes line rest : List ℕ) (heading : Heading) (it : Command) (lines : ℕ) (after : List ℕ) → IsWithout 10 line → bytes ≡ line ++ 10 ∷ rest
    → IsMeantIn line (said.Heading heading) → EndsSubmission heading rest it lines after → Begins bytes it lines after
headed bytes line rest heading (command.Submit customer number contents) lines after none whole says ends =
    (heading, rest, record { line = line; begins = (none, whole); words = says.0; says = says.1 }, ends)
headed bytes line rest heading (command.Job customer number c) lines after none whole says ends = absurd ends
headed bytes line rest heading (command.Jobs customer) lines after none whole says ends = absurd ends
headed bytes line rest heading command.Queue lines after none whole says ends = absurd ends

pub headed_shorter : (bytes line rest : List ℕ) (heading : Heading) (it : Command) (lines : ℕ) (after : List ℕ) → bytes ≡ line ++ 10 ∷ rest
    → EndsSubmission heading rest it lines after → lines + length after ≤ length bytes
headed_shorter bytes line rest heading (command.Submit customer number contents) lines after whole ends =
    omega (arith, ap length whole, length-append line (10 ∷ rest), ends.2, ends.1.1, deck_shorter rest after contents.deck ends.1.0.1 ends.1.2)
headed_shorter bytes line rest heading (command.Job customer number c) lines after whole ends = absurd ends
headed_shorter bytes line rest heading (command.Jobs customer) lines after whole ends = absurd ends
headed_shorter bytes line rest heading command.Queue lines after whole ends = absurd ends

pub headed_some : (rest : List ℕ) (heading : Heading) (it : Command) (lines : ℕ) (after : List ℕ) → EndsSubmission heading rest it lines after → 0 < lines
headed_some rest heading (command.Submit customer number contents) lines after ends = omega (arith, ends.2)
headed_some rest heading (command.Job customer number c) lines after ends = absurd ends
headed_some rest heading (command.Jobs customer) lines after ends = absurd ends
headed_some rest heading command.Queue lines after ends = absurd ends

pub headed_fault : (bytes line rest : List ℕ) (heading : Heading) (it : ScriptFault) → bytes ≢ [] → IsWithout 10 line → bytes ≡ line ++ 10 ∷ rest
    → IsMeantIn line (said.Heading heading) → HasFaultAfter rest heading.cards it → IsFaultHere bytes it
headed_fault bytes line rest heading (fault.BadLine number) some none whole says bad = (
  some,
  inr (record {
    heading = heading;
    after = rest;
    heads = record { line = line; begins = (none, whole); words = says.0; says = says.1 };
    card = bad.0;
    bad = bad.2;
    place = bad.1;
  }),
)
headed_fault bytes line rest heading fault.TooLong some none whole says bad = absurd bad
headed_fault bytes line rest heading fault.NoMemory some none whole says bad = tt

-- one more command
pub leads_more : (bytes mid rest : List ℕ) (commands : List Command) (lines more : ℕ) (it : Command) → Leads bytes commands lines mid → Begins mid it more rest
    → Leads bytes (commands ++ it ∷ []) (lines + more) rest
leads_more bytes mid rest [] lines more it leads begins =
    (more, 0, rest, subst (λ (b : List ℕ). Begins b it more rest) (sym leads.1) begins, (refl, refl), omega (arith, leads.0))
leads_more bytes mid rest (first ∷ commands) lines more it leads begins =
    (leads.0, leads.1 + more, leads.2, leads.3, leads_more leads.2 mid rest commands leads.1 more it leads.4 begins, omega (arith, leads.5))

-- the fault after these commands
pub fault_after : (bytes rest : List ℕ) (commands : List Command) (lines : ℕ) (it : ScriptFault) → length bytes ≤ 4000000 → Leads bytes commands lines rest
    → IsFaultHere rest it → IsFaultOf bytes (later lines it)
fault_after bytes rest commands lines (fault.BadLine number) short leads bad =
    (short, record { commands = commands; lines = lines; rest = rest; leads = leads; line = number; bad = bad; place = refl })
fault_after bytes rest commands lines fault.TooLong short leads bad = absurd bad
fault_after bytes rest commands lines fault.NoMemory short leads bad = tt

pub not_long : (rest : List ℕ) (lines : ℕ) (it : ScriptFault) → IsFaultHere rest it → later lines it ≢ fault.TooLong
not_long rest lines (fault.BadLine number) bad same = absurd (cc)
not_long rest lines fault.TooLong bad same = bad
not_long rest lines fault.NoMemory bad same = absurd (cc)
