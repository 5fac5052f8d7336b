-- a line of a script says one thing
use Rattle.std.proofs.Common.{◌≡◌, ◌∙◌, ℕ, ◌+◌, ◌*◌, ◌<◌, List, ◌∷◌, ◌++◌, length, sym, ap, subst, refl, arith, inl, inr, append-nil}
use Rattle.std.specs.Prelude.{All, string_bytes}
use Rattle.std.proofs.lemmas.Bool.{cases_lt}
use Rattle.std.proofs.lemmas.Fmt.{decimal_injective}
use Rattle.cards.specs.Decks.{IsCard}
use Rattle.cards.specs.Files.{file_of, line_of, text_of as deck_text}
use Rattle.cards.specs.declared.decks.Card.{Card}
use Rattle.cards.proofs.Pieces.{Next, goes_on, next_of, same_pieces}
use Rattle.cards.proofs.ReadingLaw.{lines_apart}
use Rattle.units.specs.declared.switches.Switches.{Switches}
use Rattle.texts.specs.Numbers.{IsNumberOf}
use Rattle.texts.specs.Switches.{AreSwitchesOf}
use Rattle.office.specs.declared.commands.Command.{Command}
use Rattle.office.specs.declared.commands.Command.TheVariants as command
use Rattle.office.specs.declared.commands.JobCommand.{JobCommand}
use Rattle.office.specs.declared.commands.JobCommand.TheVariants as on
use Rattle.office.specs.declared.commands.Kind.{Kind}
use Rattle.office.specs.declared.commands.Kind.TheVariants.{Object, Autocoder}
use Rattle.scripts.specs.Commands.{AreJobWords, IsHeading, IsMeantBy, Says, SaysJob}
use Rattle.scripts.specs.Scripts.{BeginsWith, BeginsWithDeck, HasBadCard, HasNoCard}
use Rattle.scripts.specs.Texts.{IsCountOf, IsKindOf, text_of}
use Rattle.scripts.specs.Words.{words_of}
use Rattle.scripts.specs.declared.headings.Heading.{Heading}
use Rattle.scripts.specs.declared.meanings.Meaning.{Meaning}
use Rattle.scripts.specs.declared.meanings.Meaning.TheVariants as said
use Rattle.scripts.proofs.ParsingLemmas.{one_line}
use Rattle.bureau_laws.specs.Same.{IsSameCommand}
use Rattle.bureau_laws.proofs.AskingLaw.{one_number, one_set}

-- ---- commands

heads : {x y : List ℕ} {xs ys : List (List ℕ)} → (x ∷ xs) ≡ (y ∷ ys) → (x ≡ y) × (xs ≡ ys)
heads e = (cc, cc)

-- a number that tells verbs apart: by the length of a word and its second byte
abbrev key : List ℕ → ℕ
key (first ∷ second ∷ rest) = length rest * 1000 + second
key other = 0

module _ (verb : List ℕ) (after : List (List ℕ)) where
  one_on_job : (c d : JobCommand) → AreJobWords verb after c → AreJobWords verb after d → c ≡ d
  one_on_job (on.Slice limit) (on.Slice most) x y =
      let word = heads (sym x.2 ∙ y.2) in
      ap (λ (n : ℕ). on.Slice n) (one_number (text_of x.1) limit most x.3 (subst (λ (w : List ℕ). IsNumberOf (text_of w) most) (sym word.0) y.3))
  one_on_job (on.Slice limit) (on.Start switches) x y = absurd (omega (arith, ap key (sym x.0 ∙ y.0)))
  one_on_job (on.Slice limit) on.Hold x y = absurd (omega (arith, ap key (sym x.0 ∙ y.0)))
  one_on_job (on.Slice limit) on.Release x y = absurd (omega (arith, ap key (sym x.0 ∙ y.0)))
  one_on_job (on.Slice limit) on.Collect x y = absurd (omega (arith, ap key (sym x.0 ∙ y.0)))
  one_on_job (on.Slice limit) on.Standing x y = absurd (omega (arith, ap key (sym x.0 ∙ y.0)))
  one_on_job (on.Start switches) (on.Start up) x y =
      let word = heads (sym x.2 ∙ y.2) in
      ap (λ (s : Switches). on.Start s) (one_set (text_of x.1) switches up x.3 (subst (λ (w : List ℕ). AreSwitchesOf (text_of w) up) (sym word.0) y.3))
  one_on_job (on.Start switches) (on.Slice limit) x y = absurd (omega (arith, ap key (sym x.0 ∙ y.0)))
  one_on_job (on.Start switches) on.Hold x y = absurd (omega (arith, ap key (sym x.0 ∙ y.0)))
  one_on_job (on.Start switches) on.Release x y = absurd (omega (arith, ap key (sym x.0 ∙ y.0)))
  one_on_job (on.Start switches) on.Collect x y = absurd (omega (arith, ap key (sym x.0 ∙ y.0)))
  one_on_job (on.Start switches) on.Standing x y = absurd (omega (arith, ap key (sym x.0 ∙ y.0)))
  one_on_job on.Hold on.Hold x y = refl
  one_on_job on.Hold (on.Slice limit) x y = absurd (omega (arith, ap key (sym x.0 ∙ y.0)))
  one_on_job on.Hold (on.Start switches) x y = absurd (omega (arith, ap key (sym x.0 ∙ y.0)))
  one_on_job on.Hold on.Release x y = absurd (omega (arith, ap key (sym x.0 ∙ y.0)))
  one_on_job on.Hold on.Collect x y = absurd (omega (arith, ap key (sym x.0 ∙ y.0)))
  one_on_job on.Hold on.Standing x y = absurd (omega (arith, ap key (sym x.0 ∙ y.0)))
  one_on_job on.Release on.Release x y = refl
  one_on_job on.Release (on.Slice limit) x y = absurd (omega (arith, ap key (sym x.0 ∙ y.0)))
  one_on_job on.Release (on.Start switches) x y = absurd (omega (arith, ap key (sym x.0 ∙ y.0)))
  one_on_job on.Release on.Hold x y = absurd (omega (arith, ap key (sym x.0 ∙ y.0)))
  one_on_job on.Release on.Collect x y = absurd (omega (arith, ap key (sym x.0 ∙ y.0)))
  one_on_job on.Release on.Standing x y = absurd (omega (arith, ap key (sym x.0 ∙ y.0)))
  one_on_job on.Collect on.Collect x y = refl
  one_on_job on.Collect (on.Slice limit) x y = absurd (omega (arith, ap key (sym x.0 ∙ y.0)))
  one_on_job on.Collect (on.Start switches) x y = absurd (omega (arith, ap key (sym x.0 ∙ y.0)))
  one_on_job on.Collect on.Hold x y = absurd (omega (arith, ap key (sym x.0 ∙ y.0)))
  one_on_job on.Collect on.Release x y = absurd (omega (arith, ap key (sym x.0 ∙ y.0)))
  one_on_job on.Collect on.Standing x y = absurd (omega (arith, ap key (sym x.0 ∙ y.0)))
  one_on_job on.Standing on.Standing x y = refl
  one_on_job on.Standing (on.Slice limit) x y = absurd (omega (arith, ap key (sym x.0 ∙ y.0)))
  one_on_job on.Standing (on.Start switches) x y = absurd (omega (arith, ap key (sym x.0 ∙ y.0)))
  one_on_job on.Standing on.Hold x y = absurd (omega (arith, ap key (sym x.0 ∙ y.0)))
  one_on_job on.Standing on.Release x y = absurd (omega (arith, ap key (sym x.0 ∙ y.0)))
  one_on_job on.Standing on.Collect x y = absurd (omega (arith, ap key (sym x.0 ∙ y.0)))
  one_on_job (on.Cards from) d x y = absurd x
  one_on_job on.Lines d x y = absurd x
  one_on_job c (on.Cards from) x y = absurd y
  one_on_job c on.Lines x y = absurd y

-- words say one command on one job
one_job_meant : (words : List (List ℕ)) (customer name : List ℕ) (number place : ℕ) (c d : JobCommand)
    → SaysJob words customer number c → SaysJob words name place d → (customer ≡ name) × (number ≡ place) × (c ≡ d)
one_job_meant words customer name number place c d a b =
    let verbs = heads (sym a.are ∙ b.are) in
    let names = heads verbs.1 in
    let numerals = heads names.1 in (
      a.customer_is ∙ ap text_of names.0 ∙ sym b.customer_is,
      one_number (text_of a.numeral) number place a.number_is (subst (λ (w : List ℕ). IsNumberOf (text_of w) place) (sym numerals.0) b.number_is),
      one_on_job a.verb a.after c d a.command_is
          (subst (λ (w : List ℕ). AreJobWords w a.after d) (sym verbs.0) (subst (λ (ws : List (List ℕ)). AreJobWords b.verb ws d) (sym numerals.1) b.command_is)),
    )

-- words say one command
one_meant : (words : List (List ℕ)) (c d : Command) → Says words c → Says words d → IsSameCommand c d
one_meant words (command.Job customer number c) (command.Job name place d) x y = one_job_meant words (string_bytes customer) (string_bytes name) number place c d x y
one_meant words (command.Job customer number c) (command.Jobs name) x y = absurd (omega (arith, ap length x.are, ap length y.1))
one_meant words (command.Job customer number c) command.Queue x y = absurd (omega (arith, ap length x.are, ap length y))
one_meant words (command.Jobs customer) (command.Job name place d) x y = absurd (omega (arith, ap length y.are, ap length x.1))
one_meant words (command.Jobs customer) (command.Jobs name) x y =
    let e = sym x.1 ∙ y.1 in
    let name_is : x.0 ≡ y.0 = cc in
    x.2 ∙ ap text_of name_is ∙ sym y.2
one_meant words (command.Jobs customer) command.Queue x y = absurd (omega (arith, ap length x.1, ap length y))
one_meant words command.Queue (command.Job name place d) x y = absurd (omega (arith, ap length x, ap length y.are))
one_meant words command.Queue (command.Jobs name) x y = absurd (omega (arith, ap length x, ap length y.1))
one_meant words command.Queue command.Queue x y = tt
one_meant words (command.Submit customer number contents) d x y = absurd x
one_meant words c (command.Submit customer number contents) x y = absurd y

-- ---- headings

-- two headings are the same: customers, numbers and all else are equal
pub record IsSameHeading (one other : Heading) : Type 0 where
  pub customer : string_bytes one.customer ≡ string_bytes other.customer
  pub number : one.number ≡ other.number
  pub kind : one.kind ≡ other.kind
  pub size : one.size ≡ other.size
  pub switches : one.switches ≡ other.switches
  pub cards : one.cards ≡ other.cards

one_kind : (word : List ℕ) (k l : Kind) → IsKindOf word k → IsKindOf word l → k ≡ l
one_kind word Object Object x y = refl
one_kind word Object Autocoder x y = absurd (let e = sym x ∙ y in cc)
one_kind word Autocoder Object x y = absurd (let e = sym x ∙ y in cc)
one_kind word Autocoder Autocoder x y = refl

one_count : (word : List ℕ) (n m : ℕ) → IsCountOf word n → IsCountOf word m → n ≡ m
one_count word n m x y = decimal_injective n m (omega (arith, x.0)) (omega (arith, y.0)) (sym x.1 ∙ y.1)

one_heading : (words : List (List ℕ)) (h k : Heading) → IsHeading words h → IsHeading words k → IsSameHeading h k
one_heading words h k a b =
    let verbs = heads (sym a.are ∙ b.are) in
    let names = heads verbs.1 in
    let numerals = heads names.1 in
    let kinds = heads numerals.1 in
    let sizes = heads kinds.1 in
    let switches = heads sizes.1 in
    let counts = heads switches.1 in
    record {
      customer = a.customer_is ∙ ap text_of names.0 ∙ sym b.customer_is;
      number = one_number (text_of a.numeral) h.number k.number a.number_is (subst (λ (w : List ℕ). IsNumberOf (text_of w) k.number) (sym numerals.0) b.number_is);
      kind = one_kind a.kind h.kind k.kind a.kind_is (subst (λ (w : List ℕ). IsKindOf w k.kind) (sym kinds.0) b.kind_is);
      size = one_number (text_of a.size) h.size k.size a.size_is (subst (λ (w : List ℕ). IsNumberOf (text_of w) k.size) (sym sizes.0) b.size_is);
      switches = one_set (text_of a.switches) h.switches k.switches a.switches_are (subst (λ (w : List ℕ). AreSwitchesOf (text_of w) k.switches) (sym switches.0) b.switches_are);
      cards = one_count a.count h.cards k.cards a.count_is (subst (λ (w : List ℕ). IsCountOf w k.cards) (sym counts.0) b.count_is);
    }

-- a command is no heading
pub no_heading : (words : List (List ℕ)) (c : Command) (h : Heading) → Says words c → IsHeading words h → ⊥
no_heading words (command.Submit customer number contents) h x y = x
no_heading words (command.Job customer number (on.Slice limit)) h x y = omega (arith, ap length x.are, ap length y.are, ap length x.command_is.2)
no_heading words (command.Job customer number (on.Start switches)) h x y = omega (arith, ap length x.are, ap length y.are, ap length x.command_is.2)
no_heading words (command.Job customer number on.Hold) h x y = omega (arith, ap length x.are, ap length y.are, ap length x.command_is.1)
no_heading words (command.Job customer number on.Release) h x y = omega (arith, ap length x.are, ap length y.are, ap length x.command_is.1)
no_heading words (command.Job customer number on.Collect) h x y = omega (arith, ap length x.are, ap length y.are, ap length x.command_is.1)
no_heading words (command.Job customer number on.Standing) h x y = omega (arith, ap length x.are, ap length y.are, ap length x.command_is.1)
no_heading words (command.Job customer number (on.Cards from)) h x y = x.command_is
no_heading words (command.Job customer number on.Lines) h x y = x.command_is
no_heading words (command.Jobs customer) h x y = omega (arith, ap length x.1, ap length y.are)
no_heading words command.Queue h x y = omega (arith, ap length x, ap length y.are)

-- ---- lines

-- bytes begin with one line
pub same_line : (bytes : List ℕ) (it other : Meaning) (rest after : List ℕ) (a : BeginsWith bytes it rest) (b : BeginsWith bytes other after)
    → (a.line ≡ b.line) × (rest ≡ after)
same_line bytes it other rest after a b = one_line 10 a.line b.line rest after a.begins.0 b.begins.0 (sym a.begins.1 ∙ b.begins.1)

-- .. which says what the other does
meant_too : (bytes : List ℕ) (it other : Meaning) (rest after : List ℕ) (a : BeginsWith bytes it rest) (b : BeginsWith bytes other after) → IsMeantBy (words_of a.line) other
meant_too bytes it other rest after a b = subst (λ (l : List ℕ). IsMeantBy (words_of l) other) (sym (same_line bytes it other rest after a b).0) b.says

pub same_meaning : (bytes : List ℕ) (c d : Command) (rest after : List ℕ) → BeginsWith bytes (said.Command c) rest → BeginsWith bytes (said.Command d) after
    → IsSameCommand c d × (rest ≡ after)
same_meaning bytes c d rest after a b = (
  one_meant (words_of a.line) c d a.says (meant_too bytes (said.Command c) (said.Command d) rest after a b),
  (same_line bytes (said.Command c) (said.Command d) rest after a b).1,
)

pub same_heading : (bytes : List ℕ) (h k : Heading) (rest after : List ℕ) → BeginsWith bytes (said.Heading h) rest → BeginsWith bytes (said.Heading k) after
    → IsSameHeading h k × (rest ≡ after)
same_heading bytes h k rest after a b = (
  one_heading (words_of a.line) h k a.says (meant_too bytes (said.Heading h) (said.Heading k) rest after a b),
  (same_line bytes (said.Heading h) (said.Heading k) rest after a b).1,
)

pub meant_or_headed : (bytes : List ℕ) (c : Command) (h : Heading) (rest after : List ℕ) → BeginsWith bytes (said.Command c) rest → BeginsWith bytes (said.Heading h) after → ⊥
meant_or_headed bytes c h rest after a b =
    no_heading (words_of a.line) c h a.says (meant_too bytes (said.Command c) (said.Heading h) rest after a b)

-- ---- cards

-- the form of texts
abbrev form : (it : _) × (deck_text ≡ file_of it)
form = (_, refl)

pub same_deck : (bytes : List ℕ) (count : ℕ) (one two : List Card) (r s : List ℕ) → BeginsWithDeck bytes one count r → BeginsWithDeck bytes two count s → (one ≡ two) × (r ≡ s)
same_deck bytes count one two r s a b = same_pieces (line_of form.0) IsCard (lines_apart form.0) one two r s a.0.1 b.0.1 (a.1 ∙ sym b.1) (sym a.2 ∙ b.2)

no_next : (bytes : List ℕ) → HasNoCard bytes → ¬ Next (line_of form.0) IsCard bytes
no_next bytes none next =
    none next.piece next.after next.is (next.begins ∙ ap (λ (l : List ℕ). l ++ next.after) (sym (append-nil (line_of form.0 next.piece))))

-- behind fewer of the same cards another card begins
no_fewer : (bytes : List ℕ) (one two : List Card) (r s : List ℕ) → All IsCard one → All IsCard two → bytes ≡ deck_text one ++ r → bytes ≡ deck_text two ++ s → HasNoCard r → length one < length two → ⊥
no_fewer bytes one two r s is_one is_two first second none fewer =
    no_next r none (next_of (line_of form.0) IsCard one two r s
    (goes_on (line_of form.0) IsCard (lines_apart form.0) one two r s is_one is_two (omega (arith, fewer)) (sym first ∙ second)) fewer)

pub deck_or_bad : (bytes : List ℕ) (count number : ℕ) (deck : List Card) (rest : List ℕ) → BeginsWithDeck bytes deck count rest → HasBadCard bytes count number → ⊥
deck_or_bad bytes count number deck rest a b =
    no_fewer bytes b.cards deck b.rest rest b.are a.0.1 b.before a.2 b.none (omega (arith, b.fewer, a.1))

pub one_bad_card : (bytes : List ℕ) (count n m : ℕ) → HasBadCard bytes count n → HasBadCard bytes count m → n ≡ m
one_bad_card bytes count n m a b = elim (cases_lt (length a.cards) (length b.cards)) [
  | inl fewer ↦ absurd (no_fewer bytes a.cards b.cards a.rest b.rest a.are b.are a.before b.before a.none fewer)
  | inr enough ↦ elim (cases_lt (length b.cards) (length a.cards)) [
    | inl fewer ↦ absurd (no_fewer bytes b.cards a.cards b.rest a.rest b.are a.are b.before a.before b.none fewer)
    | inr same ↦ omega (arith, enough, same, a.place, b.place)
  ]
]
