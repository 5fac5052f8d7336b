-- bytes are one script, or have one fault
use Rattle.std.proofs.Common.{◌≡◌, ◌≢◌, ◌∙◌, ℕ, zero, suc, ◌+◌, ◌<◌, ◌≤◌, List, [], ◌∷◌, ◌++◌, length, sym, ap, subst, refl, arith, inl, inr, append_assoc, append-nil}
use Rattle.std.specs.Prelude.{string_bytes}
use Rattle.std.proofs.lemmas.Bool.{cases_lt}
use Rattle.std.proofs.lemmas.List.{length-append}
use Rattle.std.proofs.lemmas.List.Elements.{All-cons, All-nil}
use Rattle.cards.specs.Decks.{IsCard}
use Rattle.cards.specs.Files.{text_of as deck_text}
use Rattle.cards.specs.declared.decks.Card.{Card}
use Rattle.office.specs.declared.commands.Command.{Command}
use Rattle.office.specs.declared.commands.Command.TheVariants as command
use Rattle.office.specs.declared.commands.Contents.{Contents}
use Rattle.scripts.specs.Scripts.{Begins, BeginsWith, BeginsWithDeck, HasBadCard, IsBadAt, IsBadHere, IsFaultOf, IsScriptOf, Leads, SaysNothing}
use Rattle.scripts.specs.declared.faults.ScriptFault.{ScriptFault}
use Rattle.scripts.specs.declared.faults.ScriptFault.TheVariants as fault
use Rattle.scripts.specs.declared.headings.Heading.{Heading}
use Rattle.scripts.specs.declared.meanings.Meaning.{Meaning}
use Rattle.scripts.specs.declared.meanings.Meaning.TheVariants as said
use Rattle.bureau_laws.specs.Same.{AreSameCommands, IsSameCommand}
use Rattle.bureau_laws.proofs.LineLaw.{IsSameHeading, deck_or_bad, one_bad_card, meant_or_headed, same_deck, same_heading, same_meaning}

-- ---- a command

line_shorter : (bytes : List ℕ) (it : Meaning) (rest : List ℕ) → BeginsWith bytes it rest → length rest < length bytes
line_shorter bytes it rest begins = omega (arith, ap length begins.begins.1, length-append begins.line (10 ∷ rest))

deck_shorter : (bytes : List ℕ) (deck : List Card) (count : ℕ) (rest : List ℕ) → BeginsWithDeck bytes deck count rest → length rest ≤ length bytes
deck_shorter bytes deck count rest begins = omega (arith, ap length begins.2, length-append (deck_text deck) rest)

shorter : (bytes : List ℕ) (c : Command) (n : ℕ) (rest : List ℕ) → Begins bytes c n rest → length rest < length bytes
shorter bytes (command.Submit customer number contents) n rest (h, after, heads, ends) =
    omega (arith, line_shorter bytes (said.Heading h) after heads, deck_shorter after contents.deck h.cards rest ends.1)
shorter bytes (command.Job customer number c) n rest begins = line_shorter bytes _ rest begins.0
shorter bytes (command.Jobs customer) n rest begins = line_shorter bytes _ rest begins.0
shorter bytes command.Queue n rest begins = line_shorter bytes _ rest begins.0

same_contents : (one other : Contents) → one.kind ≡ other.kind → one.size ≡ other.size → one.switches ≡ other.switches → one.deck ≡ other.deck → one ≡ other
same_contents one other kinds sizes sets decks = λ i. record { kind = kinds i; size = sizes i; switches = sets i; deck = decks i }

same_submission : (bytes : List ℕ) (customer name : _) (number place : ℕ) (contents handed : Contents) (n m : ℕ) (r s : List ℕ)
    → Begins bytes (command.Submit customer number contents) n r → Begins bytes (command.Submit name place handed) m s
    → IsSameCommand (command.Submit customer number contents) (command.Submit name place handed) × (n ≡ m) × (r ≡ s)
same_submission bytes customer name number place contents handed n m r s (h, after, heads, ends) (k, behind, also, too) =
    let heading = same_heading bytes h k after behind heads also in
    let it : IsSameHeading h k = heading.0 in
    let cut : BeginsWithDeck after handed.deck h.cards s =
    subst (λ (b : List ℕ). BeginsWithDeck b handed.deck h.cards s) (sym heading.1) (subst (λ (n : ℕ). BeginsWithDeck behind handed.deck n s) (sym it.cards) too.1) in
    let decks = same_deck after h.cards contents.deck handed.deck r s ends.1 cut in (
      (
        sym (ap (λ (x : Heading). string_bytes x.customer) ends.0) ∙ it.customer ∙ ap (λ (x : Heading). string_bytes x.customer) too.0,
        sym (ap (λ (x : Heading). x.number) ends.0) ∙ it.number ∙ ap (λ (x : Heading). x.number) too.0,
        same_contents contents handed (sym (ap (λ (x : Heading). x.kind) ends.0) ∙ it.kind ∙ ap (λ (x : Heading). x.kind) too.0)
            (sym (ap (λ (x : Heading). x.size) ends.0) ∙ it.size ∙ ap (λ (x : Heading). x.size) too.0)
            (sym (ap (λ (x : Heading). x.switches) ends.0) ∙ it.switches ∙ ap (λ (x : Heading). x.switches) too.0) decks.0,
      ),
      ends.2 ∙ ap (λ (n : ℕ). 1 + n) it.cards ∙ sym too.2,
      decks.1,
    )

module _ (bytes : List ℕ) (n m : ℕ) (r s : List ℕ) where
  same_plain : (c d : Command) → BeginsWith bytes (said.Command c) r × (n ≡ 1) → BeginsWith bytes (said.Command d) s × (m ≡ 1)
      → IsSameCommand c d × (n ≡ m) × (r ≡ s)
  same_plain c d a b = let it = same_meaning bytes c d r s a.0 b.0 in (it.0, a.1 ∙ sym b.1, it.1)

  same_begins : (c d : Command) → Begins bytes c n r → Begins bytes d m s → IsSameCommand c d × (n ≡ m) × (r ≡ s)
  same_begins (command.Submit customer number contents) (command.Submit name place handed) a b = same_submission bytes customer name number place contents handed n m r s a b
  same_begins (command.Submit customer number contents) (command.Job name place d) a b = absurd (meant_or_headed bytes _ a.0 s a.1 b.0 a.2)
  same_begins (command.Submit customer number contents) (command.Jobs name) a b = absurd (meant_or_headed bytes _ a.0 s a.1 b.0 a.2)
  same_begins (command.Submit customer number contents) command.Queue a b = absurd (meant_or_headed bytes _ a.0 s a.1 b.0 a.2)
  same_begins (command.Job customer number c) (command.Submit name place handed) a b = absurd (meant_or_headed bytes _ b.0 r b.1 a.0 b.2)
  same_begins (command.Job customer number c) (command.Job name place d) a b = same_plain (command.Job customer number c) (command.Job name place d) a b
  same_begins (command.Job customer number c) (command.Jobs name) a b = same_plain (command.Job customer number c) (command.Jobs name) a b
  same_begins (command.Job customer number c) command.Queue a b = same_plain (command.Job customer number c) command.Queue a b
  same_begins (command.Jobs customer) (command.Submit name place handed) a b = absurd (meant_or_headed bytes _ b.0 r b.1 a.0 b.2)
  same_begins (command.Jobs customer) (command.Job name place d) a b = same_plain (command.Jobs customer) (command.Job name place d) a b
  same_begins (command.Jobs customer) (command.Jobs name) a b = same_plain (command.Jobs customer) (command.Jobs name) a b
  same_begins (command.Jobs customer) command.Queue a b = same_plain (command.Jobs customer) command.Queue a b
  same_begins command.Queue (command.Submit name place handed) a b = absurd (meant_or_headed bytes _ b.0 r b.1 a.0 b.2)
  same_begins command.Queue (command.Job name place d) a b = same_plain command.Queue (command.Job name place d) a b
  same_begins command.Queue (command.Jobs name) a b = same_plain command.Queue (command.Jobs name) a b
  same_begins command.Queue command.Queue a b = same_plain command.Queue command.Queue a b

-- ---- a bad line

a_command : (c : Command) → said.Command c ≢ said.Nothing
a_command c same = absurd (cc)

a_heading : (h : Heading) → said.Heading h ≢ said.Nothing
a_heading h same = absurd (cc)

plain_or_bad : (bytes : List ℕ) (c : Command) (m : ℕ) (r : List ℕ) → BeginsWith bytes (said.Command c) r → IsBadHere bytes m → ⊥
plain_or_bad bytes c m r begins (some, inl nothing) = nothing.1 (said.Command c) r (a_command c) begins
plain_or_bad bytes c m r begins (some, inr bad) = meant_or_headed bytes c bad.heading r bad.after begins bad.heads

begins_or_bad : (bytes : List ℕ) (c : Command) (n m : ℕ) (r : List ℕ) → Begins bytes c n r → IsBadHere bytes m → ⊥
begins_or_bad bytes (command.Submit customer number contents) n m r (h, after, heads, ends) (some, inl nothing) = nothing.1 (said.Heading h) after (a_heading h) heads
begins_or_bad bytes (command.Submit customer number contents) n m r (h, after, heads, ends) (some, inr bad) =
    let same = same_heading bytes h bad.heading after bad.after heads bad.heads in
    let it : IsSameHeading h bad.heading = same.0 in
    let here : HasBadCard after h.cards bad.card =
    subst (λ (b : List ℕ). HasBadCard b h.cards bad.card) (sym same.1) (subst (λ (n : ℕ). HasBadCard bad.after n bad.card) (sym it.cards) bad.bad) in
    deck_or_bad after h.cards bad.card contents.deck r ends.1 here
begins_or_bad bytes (command.Job customer number c) n m r begins bad = plain_or_bad bytes (command.Job customer number c) m r begins.0 bad
begins_or_bad bytes (command.Jobs customer) n m r begins bad = plain_or_bad bytes (command.Jobs customer) m r begins.0 bad
begins_or_bad bytes command.Queue n m r begins bad = plain_or_bad bytes command.Queue m r begins.0 bad

one_bad_here : (bytes : List ℕ) (n m : ℕ) → IsBadHere bytes n → IsBadHere bytes m → n ≡ m
one_bad_here bytes n m (some, inl a) (other, inl b) = a.0 ∙ sym b.0
one_bad_here bytes n m (some, inl a) (other, inr b) = absurd (a.1 (said.Heading b.heading) b.after (a_heading b.heading) b.heads)
one_bad_here bytes n m (some, inr a) (other, inl b) = absurd (b.1 (said.Heading a.heading) a.after (a_heading a.heading) a.heads)
one_bad_here bytes n m (some, inr a) (other, inr b) =
    let same = same_heading bytes a.heading b.heading a.after b.after a.heads b.heads in
    let it : IsSameHeading a.heading b.heading = same.0 in
    let here : HasBadCard a.after a.heading.cards b.card =
    subst (λ (x : List ℕ). HasBadCard x a.heading.cards b.card) (sym same.1) (subst (λ (n : ℕ). HasBadCard b.after n b.card) (sym it.cards) b.bad) in
    a.place ∙ ap (λ (n : ℕ). 1 + n) (one_bad_card a.after a.heading.cards a.card b.card a.bad here) ∙ sym b.place

-- ---- commands

none_begins : (bytes : List ℕ) (c : Command) (n : ℕ) (r : List ℕ) → Begins bytes c n r → bytes ≢ []
none_begins bytes c n r begins none = omega (arith, shorter bytes c n r begins, ap length none)

same_leads : (bytes : List ℕ) (cs ds : List Command) (n m : ℕ) → Leads bytes cs n [] → Leads bytes ds m [] → AreSameCommands cs ds
same_leads bytes [] [] n m a b = tt
same_leads bytes [] (d ∷ ds) n m a b = absurd (none_begins bytes d b.0 b.2 b.3 a.1)
same_leads bytes (c ∷ cs) [] n m a b = absurd (none_begins bytes c a.0 a.2 a.3 b.1)
same_leads bytes (c ∷ cs) (d ∷ ds) n m a b =
    let first = same_begins bytes a.0 b.0 a.2 b.2 c d a.3 b.3 in
    (first.0, same_leads a.2 cs ds a.1 b.1 a.4 (subst (λ (x : List ℕ). Leads x ds b.1 []) (sym first.2) b.4))

leads_or_bad : (bytes : List ℕ) (cs ds : List Command) (n m k : ℕ) (s : List ℕ) → Leads bytes cs n [] → Leads bytes ds m s → IsBadHere s k → ⊥
leads_or_bad bytes [] [] n m k s a b bad = bad.0 (sym b.1 ∙ a.1)
leads_or_bad bytes [] (d ∷ ds) n m k s a b bad = none_begins bytes d b.0 b.2 b.3 a.1
leads_or_bad bytes (c ∷ cs) [] n m k s a b bad = begins_or_bad bytes c a.0 k a.2 a.3 (subst (λ (x : List ℕ). IsBadHere x k) (sym b.1) bad)
leads_or_bad bytes (c ∷ cs) (d ∷ ds) n m k s a b bad =
    let first = same_begins bytes a.0 b.0 a.2 b.2 c d a.3 b.3 in
    leads_or_bad a.2 cs ds a.1 b.1 k s a.4 (subst (λ (x : List ℕ). Leads x ds b.1 s) (sym first.2) b.4) bad

one_bad_line : (bytes : List ℕ) (cs ds : List Command) (n m k l : ℕ) (r s : List ℕ) → Leads bytes cs n r → Leads bytes ds m s → IsBadHere r k → IsBadHere s l
    → n + k ≡ m + l
one_bad_line bytes [] [] n m k l r s a b bad worse =
    let same = one_bad_here bytes k l (subst (λ (x : List ℕ). IsBadHere x k) (sym a.1) bad) (subst (λ (x : List ℕ). IsBadHere x l) (sym b.1) worse) in
    omega (arith, a.0, b.0, same)
one_bad_line bytes [] (d ∷ ds) n m k l r s a b bad worse = absurd (begins_or_bad bytes d b.0 k b.2 b.3 (subst (λ (x : List ℕ). IsBadHere x k) (sym a.1) bad))
one_bad_line bytes (c ∷ cs) [] n m k l r s a b bad worse = absurd (begins_or_bad bytes c a.0 l a.2 a.3 (subst (λ (x : List ℕ). IsBadHere x l) (sym b.1) worse))
one_bad_line bytes (c ∷ cs) (d ∷ ds) n m k l r s a b bad worse =
    let first = same_begins bytes a.0 b.0 a.2 b.2 c d a.3 b.3 in
    let others = one_bad_line a.2 cs ds a.1 b.1 k l r s a.4 (subst (λ (x : List ℕ). Leads x ds b.1 s) (sym first.2) b.4) bad worse in
    omega (arith, a.5, b.5, first.1, others)

-- ---- some command, or a bad line

one_more : (first : Card) (others : List Card) (after : List ℕ) → deck_text (first ∷ []) ++ (deck_text others ++ after) ≡ deck_text (first ∷ others) ++ after
one_more first others after = simp (append_assoc, append-nil)

-- cards are a deck, or one of them is bad
no_deck_or_bad : (count : ℕ) (bytes : List ℕ) → count ≤ 2000 → ((deck : List Card) (rest : List ℕ) → ¬ BeginsWithDeck bytes deck count rest)
    → ((card : ℕ) → ¬ HasBadCard bytes count card) → ⊥
no_deck_or_bad zero bytes few deck bad = deck [] bytes ((omega arith, All-nil IsCard), refl, refl)
no_deck_or_bad (suc count) bytes few deck bad = bad 1 (record {
  cards = [];
  rest = bytes;
  are = All-nil IsCard;
  before = refl;
  fewer = omega arith;
  none = λ card rest is same. no_deck_or_bad count rest (omega (arith, few))
      (λ others after begins. deck (card ∷ others) after (
        (omega (arith, begins.1, few), All-cons IsCard card others is begins.0.1),
        omega (arith, begins.1),
        same ∙ ap (λ (b : List ℕ). deck_text (card ∷ []) ++ b) begins.2 ∙ one_more card others after,
      ))
      (λ number it. bad (suc number) (record {
        cards = card ∷ it.cards;
        rest = it.rest;
        are = All-cons IsCard card it.cards is it.are;
        before = same ∙ ap (λ (b : List ℕ). deck_text (card ∷ []) ++ b) it.before ∙ one_more card it.cards it.rest;
        fewer = omega (arith, it.fewer);
        none = it.none;
        place = omega (arith, it.place);
      }));
  place = refl;
})

-- bytes begin with a command, or their first line or a card of the first command is bad
module _ (bytes : List ℕ) (some : bytes ≢ []) (begins : (c : Command) (n : ℕ) (rest : List ℕ) → ¬ Begins bytes c n rest)
    (bad : (number : ℕ) → ¬ IsBadHere bytes number) where
  no_heading : (h : Heading) (rest : List ℕ) → ¬ BeginsWith bytes (said.Heading h) rest
  no_heading h rest heads = no_deck_or_bad h.cards rest heads.says.count_is.0
      (λ deck after it. begins (command.Submit h.customer h.number (record { kind = h.kind; size = h.size; switches = h.switches; deck = deck })) (1 + h.cards) after
      (h, rest, heads, (ap (λ (n : ℕ). let again : Heading = record h { cards = n } in again) (sym it.1), it, refl)))
      (λ card it. bad (1 + card) (some, inr (record { heading = h; after = rest; heads = heads; card = card; bad = it; place = refl })))

  says_nothing : SaysNothing bytes
  says_nothing (said.Command (command.Submit customer number contents)) rest other line = line.says
  says_nothing (said.Command (command.Job customer number c)) rest other line = begins (command.Job customer number c) 1 rest (line, refl)
  says_nothing (said.Command (command.Jobs customer)) rest other line = begins (command.Jobs customer) 1 rest (line, refl)
  says_nothing (said.Command command.Queue) rest other line = begins command.Queue 1 rest (line, refl)
  says_nothing (said.Heading h) rest other line = no_heading h rest line
  says_nothing said.Nothing rest other line = other refl

  no_begin_or_bad : ⊥
  no_begin_or_bad = bad 1 (some, inl (refl, says_nothing))

pub no_leads_or_bad : (fuel : ℕ) (bytes : List ℕ) → length bytes ≤ fuel → ((commands : List Command) (lines : ℕ) → ¬ Leads bytes commands lines [])
    → ((number : ℕ) → ¬ IsBadAt bytes number) → ⊥
no_leads_or_bad fuel [] enough leads bad = leads [] 0 (refl, refl)
no_leads_or_bad zero (byte ∷ bytes) enough leads bad = omega (arith, enough)
no_leads_or_bad (suc fuel) (byte ∷ bytes) enough leads bad =
    let all : List ℕ = byte ∷ bytes in
    no_begin_or_bad all (λ same. absurd (cc))
    (λ c n rest begins. no_leads_or_bad fuel rest (omega (arith, enough, shorter all c n rest begins))
    (λ commands lines it. leads (c ∷ commands) (n + lines) (n, lines, rest, begins, it, refl))
    (λ number it. bad (n + number) (record {
      commands = c ∷ it.commands;
      lines = n + it.lines;
      rest = it.rest;
      leads = (n, it.lines, rest, begins, it.leads, refl);
      line = it.line;
      bad = it.bad;
      place = omega (arith, it.place);
    })))
    (λ number it. bad number (record { commands = []; lines = 0; rest = all; leads = (refl, refl); line = number; bad = it; place = omega arith }))

-- ---- scripts and faults

pub same_script : (bytes : List ℕ) (one other : List Command) → IsScriptOf bytes one → IsScriptOf bytes other → AreSameCommands one other
same_script bytes one other a b = same_leads bytes one other a.1 b.1 a.2 b.2

pub one_fault : (bytes : List ℕ) (one other : ScriptFault) → IsFaultOf bytes one → IsFaultOf bytes other → one ≢ fault.NoMemory → other ≢ fault.NoMemory → one ≡ other
one_fault bytes (fault.BadLine n) (fault.BadLine m) (short, a) (too, b) one other =
    ap (λ (n : ℕ). fault.BadLine n) (a.place ∙ one_bad_line bytes a.commands b.commands a.lines b.lines a.line b.line a.rest b.rest a.leads b.leads a.bad b.bad ∙ sym b.place)
one_fault bytes (fault.BadLine n) fault.TooLong (short, a) long one other = absurd (omega (arith, short, long))
one_fault bytes fault.TooLong (fault.BadLine m) long (short, b) one other = absurd (omega (arith, short, long))
one_fault bytes fault.TooLong fault.TooLong long too one other = refl
one_fault bytes fault.NoMemory other a b one not = absurd (one refl)
one_fault bytes one fault.NoMemory a b not other = absurd (other refl)

pub not_both : (bytes : List ℕ) (commands : List Command) (it : ScriptFault) → IsScriptOf bytes commands → IsFaultOf bytes it → it ≡ fault.NoMemory
not_both bytes commands (fault.BadLine n) (short, lines, leads) (too, bad) =
    absurd (leads_or_bad bytes commands bad.commands lines bad.lines bad.line bad.rest leads bad.leads bad.bad)
not_both bytes commands fault.TooLong (short, lines, leads) long = absurd (omega (arith, short, long))
not_both bytes commands fault.NoMemory script bad = refl

pub not_neither : (bytes : List ℕ) → ((commands : List Command) → ¬ IsScriptOf bytes commands) → ((it : ScriptFault) → IsFaultOf bytes it → it ≡ fault.NoMemory) → ⊥
not_neither bytes no_script only = elim (cases_lt 4000000 (length bytes)) [
  | inl long ↦ let e = only fault.TooLong long in cc
  | inr short ↦ no_leads_or_bad (length bytes) bytes (omega arith) (λ commands lines leads. no_script commands (short, lines, leads))
      (λ number bad. let e = only (fault.BadLine number) (short, bad) in cc)
]
