-- From a submission to its repeats in the same round and in later ones.
use Rattle.std.proofs.Common.{◌≡◌, ◌⊎◌, inl, inr, ℕ, zero, suc, ◌≤◌, ◌<◌, List, [], ◌∷◌, ◌++◌, length, take as beginning_of, refl, sym, ap, subst, ◌∙◌, arith, length-append}
use Rattle.std.proofs.Math.Seq.{take-append_seam}
use Rattle.std.proofs.lemmas.Bool.{cases_lt}
use Rattle.office.specs.Office.{Office, take, fold}
use Rattle.office.specs.declared.commands.Command.{Command}
use Rattle.office.specs.declared.replies.Reply.{Reply}
use Rattle.office.specs.declared.replies.Reply.TheVariants as reply
use Rattle.ledger.proofs.WorkLemmas.{fold_both}
use Rattle.bureau_laws.specs.Repeats.{IsRepeatOf, IsNumberTaken, IsLastPlaceTaken}
use Rattle.bureau_laws.specs.KeptRounds.{KeptRound, left_after, IsChain, Answer, answers, answers_in, IsTakenAlready}
use Rattle.bureau_laws.proofs.ChainLemmas.{IsKept, AreLinked, is_linked, at_round}
use Rattle.bureau_laws.proofs.RepeatLaw.{Repeats, kept_repeat, lost_repeat}

-- ---- what comes after an office

-- some commands lead from this office to that before the answer, and the reply is that one's
pub record IsReached (o : Office) (it : Answer) : Type 0 where
  pub commands : List Command
  pub before : it.before ≡ (fold commands o).0
  pub reply : it.reply ≡ (take it.command it.before).1

-- the office after the answer
abbrev next : Answer → Office
next it = (take it.command it.before).0

-- each is reached from the one before, the first from this office
abbrev AreReached : Office → List Answer → Type 0
AreReached o [] = Unit {0}
AreReached o (it ∷ rest) = IsReached o it × AreReached (next it) rest

reached_from : (commands : List Command) (o : Office) (it : Answer) → IsReached (fold commands o).0 it → IsReached o it
reached_from commands o it is = record { commands = commands ++ is.commands; before = is.before ∙ sym (fold_both commands is.commands o); reply = is.reply }

all_from : (commands : List Command) (o : Office) (all : List Answer) → AreReached (fold commands o).0 all → AreReached o all
all_from commands o [] are = tt
all_from commands o (it ∷ rest) are = (reached_from commands o it are.0, are.1)

reached_after : (o : Office) (one other : Answer) → IsReached o one → IsReached (next one) other → IsReached o other
unfolding fold
reached_after o one other is then = record {
  commands = is.commands ++ one.command ∷ then.commands;
  before = then.before ∙ ap (λ (x : Office). (fold then.commands (take one.command x).0).0) is.before ∙ sym (fold_both is.commands (one.command ∷ then.commands) o);
  reply = then.reply;
}

at_place : (earlier : List Answer) (it : Answer) (later : List Answer) (o : Office) → AreReached o (earlier ++ it ∷ later) → IsReached o it × AreReached (next it) later
at_place [] it later o are = are
at_place (one ∷ earlier) it later o are =
    let there = at_place earlier it later (next one) are.1 in
    (reached_after o one it are.0 there.0, there.1)

-- ---- the answers of a chain

round_reached : (given : List Command) (replies : List Reply) (taken : ℕ) (o : Office) (later : List Answer) → length replies ≤ taken → taken ≤ length given
    → replies ≡ (fold (beginning_of (length replies) given) o).1 → AreReached (fold (beginning_of taken given) o).0 later → AreReached o (answers o given replies ++ later)
unfolding fold
round_reached [] replies taken o later some most are rest = all_from (beginning_of taken []) o later rest
round_reached (c ∷ given) [] taken o later some most are rest = all_from (beginning_of taken (c ∷ given)) o later rest
round_reached (c ∷ given) (r ∷ replies) zero o later some most are rest = absurd (omega (arith, some))
round_reached (c ∷ given) (r ∷ replies) (suc taken) o later some most are rest =
    let both : r ∷ replies ≡ (take c o).1 ∷ (fold (beginning_of (length replies) given) (take c o).0).1 = are in
    let first : r ≡ (take c o).1 = cc in
    let behind : replies ≡ (fold (beginning_of (length replies) given) (take c o).0).1 = cc in
    (record { commands = []; before = refl; reply = first }, round_reached given replies taken (take c o).0 later (omega (arith, some)) (omega (arith, most)) behind rest)

chain_reached : (o : Office) (chain : List KeptRound) → AreLinked o chain → AreReached o (answers_in chain)
chain_reached o [] are = tt
chain_reached o (k ∷ chain) are =
    let later : AreReached (fold (beginning_of are.1.taken k.round.given) k.office).0 (answers_in chain) =
    subst (λ cs. AreReached (fold cs k.office).0 (answers_in chain)) are.1.kept (chain_reached (left_after k) chain are.2) in
    let all : AreReached k.office (answers_in (k ∷ chain)) =
    round_reached k.round.given k.round.replies are.1.taken k.office (answers_in chain) are.1.replied are.1.most are.1.replies later in
    subst (λ x. AreReached x (answers_in (k ∷ chain))) are.0 all

later_reached : (o : Office) (later : List KeptRound) → AreLinked o later → (before after : List Answer) (again : Answer) → answers_in later ≡ before ++ again ∷ after → IsReached o again
later_reached o later are before after again place = (at_place before again after o (subst (AreReached o) place (chain_reached o later are))).0

-- ---- where a command stands in its round

-- a beginning that is longer than what is before the command holds the command
front_of : (sooner : List Command) (first : Command) (more : List Command) (taken : ℕ) → length sooner < taken → (rest : List Command) × (beginning_of taken (sooner ++ first ∷ more) ≡ sooner ++ first ∷ rest)
front_of [] first more zero longer = absurd (omega (arith, longer))
front_of [] first more (suc taken) longer = (beginning_of taken more, refl)
front_of (c ∷ sooner) first more zero longer = absurd (omega (arith, longer))
front_of (c ∷ sooner) first more (suc taken) longer =
    let there = front_of sooner first more taken (omega (arith, longer)) in
    (there.0, ap (λ (cs : List Command). c ∷ cs) there.1)

-- where all commands before it were replied to, a command was kept, or is the first that was not
kept_or_lost : (k : KeptRound) → IsKept k → (sooner more : List Command) (first : Command) → k.round.given ≡ sooner ++ first ∷ more → length sooner ≤ length k.round.replies
    → ((rest : List Command) × (k.kept ≡ sooner ++ first ∷ rest)) ⊎ (k.kept ≡ sooner)
kept_or_lost k is sooner more first given replied = elim (cases_lt (length sooner) is.taken) [
  | inl longer ↦
      let there = front_of sooner first more is.taken longer in
      inl (there.0, is.kept ∙ ap (beginning_of is.taken) given ∙ there.1)
  | inr all ↦
      let same : is.taken ≡ length sooner = omega (arith, all, replied, is.replied) in
      let front : beginning_of is.taken k.round.given ≡ sooner = ap (λ n. beginning_of n k.round.given) same ∙ ap (beginning_of (length sooner)) given ∙ take-append_seam sooner (first ∷ more) in
      inr (is.kept ∙ front)
]

-- ---- repeats

module _ (law : Repeats) where
  told_again : (first : Command) (o : Office) (again : Answer) (cards : ℕ) → IsReached (take first o).0 again → IsRepeatOf first again.command → (take first o).1 ≡ reply.Taken cards → IsTakenAlready again cards
  told_again first o again cards reached same told =
      let is : take again.command again.before ≡ (again.before, reply.Taken cards) =
      subst (λ (x : Office). take again.command x ≡ (x, reply.Taken cards)) (sym reached.before) (kept_repeat law first again.command reached.commands o cards same told) in
      (reached.reply ∙ ap (λ (p : Office × Reply). p.1) is, ap (λ (p : Office × Reply). p.0) is)

  lost_again : (first : Command) (o : Office) (again : Answer) (cards : ℕ) → IsReached o again → IsRepeatOf first again.command → (take first o).1 ≡ reply.Taken cards
      → (again.reply ≡ reply.Taken cards) ⊎ (IsNumberTaken first o again.before ⊎ IsLastPlaceTaken first o again.before)
  lost_again first o again cards reached same told =
      let said : ((take again.command again.before).1 ≡ reply.Taken cards) ⊎ (IsNumberTaken first o again.before ⊎ IsLastPlaceTaken first o again.before) =
      subst (λ (x : Office). ((take again.command x).1 ≡ reply.Taken cards) ⊎ (IsNumberTaken first o x ⊎ IsLastPlaceTaken first o x)) (sym reached.before) (lost_repeat first again.command reached.commands o cards same told) in
      elim said [
        | inl here ↦ inl (reached.reply ∙ here)
        | inr other ↦ inr other
      ]

  pub replied_again : (o : Office) (chain : List KeptRound) → IsChain o chain → (earlier between later : List Answer) (first again : Answer) (cards : ℕ) → answers_in chain ≡ earlier ++ first ∷ (between ++ again ∷ later)
      → IsRepeatOf first.command again.command → first.reply ≡ reply.Taken cards → IsTakenAlready again cards
  replied_again o chain is earlier between later first again cards place same told =
      let all = subst (AreReached o) place (chain_reached o chain (is_linked o chain is)) in
      let one = at_place earlier first (between ++ again ∷ later) o all in
      let other = at_place between again later (next first) one.1 in
      told_again first.command first.before again cards other.0 same (sym one.0.reply ∙ told)

  -- a command that was kept leads to what comes in later rounds
  kept_reached : (k : KeptRound) (later : List KeptRound) → AreLinked (left_after k) later → (sooner more : List Command) (first : Command) → k.kept ≡ sooner ++ first ∷ more
      → (before after : List Answer) (again : Answer) → answers_in later ≡ before ++ again ∷ after → IsReached (take first (fold sooner k.office).0).0 again
  unfolding fold
  kept_reached k later are sooner more first kept before after again place =
      let left : left_after k ≡ (fold more (take first (fold sooner k.office).0).0).0 = ap (λ cs. (fold cs k.office).0) kept ∙ fold_both sooner (first ∷ more) k.office in
      reached_from more (take first (fold sooner k.office).0).0 again (subst (λ x. IsReached x again) left (later_reached (left_after k) later are before after again place))

  pub kept_later : (o : Office) (earlier later : List KeptRound) (k : KeptRound) → IsChain o (earlier ++ k ∷ later) → (sooner more : List Command) (first : Command) (cards : ℕ) → k.kept ≡ sooner ++ first ∷ more
      → (take first (fold sooner k.office).0).1 ≡ reply.Taken cards → (before after : List Answer) (again : Answer) → answers_in later ≡ before ++ again ∷ after → IsRepeatOf first again.command → IsTakenAlready again cards
  kept_later o earlier later k is sooner more first cards kept told before after again place same =
      let there = at_round earlier k later o (is_linked o (earlier ++ k ∷ later) is) in
      told_again first (fold sooner k.office).0 again cards (kept_reached k later there.1 sooner more first kept before after again place) same told

  -- a command that was given leads to what comes in later rounds, from the office before it or from that after it
  pub given_later : (o : Office) (earlier later : List KeptRound) (k : KeptRound) → IsChain o (earlier ++ k ∷ later) → (sooner more : List Command) (first : Command) (cards : ℕ) → k.round.given ≡ sooner ++ first ∷ more
      → (take first (fold sooner k.office).0).1 ≡ reply.Taken cards → (before after : List Answer) (again : Answer) → answers_in later ≡ before ++ again ∷ after → IsRepeatOf first again.command
      → (again.reply ≡ reply.Taken cards) ⊎ (IsNumberTaken first (fold sooner k.office).0 again.before ⊎ IsLastPlaceTaken first (fold sooner k.office).0 again.before)
  given_later o earlier later k is sooner more first cards given told before after again place same =
      let there = at_round earlier k later o (is_linked o (earlier ++ k ∷ later) is) in
      let replied : length sooner ≤ length k.round.replies = omega (arith, there.0.all, ap length given, length-append sooner (first ∷ more)) in
      elim (kept_or_lost k there.0 sooner more first given replied) [
        | inl kept ↦
            let already = told_again first (fold sooner k.office).0 again cards (kept_reached k later there.1 sooner kept.0 first kept.1 before after again place) same told in
            inl already.0
        | inr lost ↦
            let left : left_after k ≡ (fold sooner k.office).0 = ap (λ cs. (fold cs k.office).0) lost in
            let reached : IsReached (fold sooner k.office).0 again = subst (λ x. IsReached x again) left (later_reached (left_after k) later there.1 before after again place) in
            lost_again first (fold sooner k.office).0 again cards reached same told
      ]
