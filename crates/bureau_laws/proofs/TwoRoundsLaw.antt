-- Two rounds are a chain.
use Rattle.std.proofs.Common.{◌≡◌, List, [], ◌∷◌, Result, Ok, Err, refl}
use Rattle.std.specs.Prelude.{IfOk}
use Rattle.sqlite.specs.Recovery.{Image}
use Rattle.office.specs.Office.{Office}
use Rattle.office.specs.declared.commands.Command.{Command}
use Rattle.office.specs.declared.replies.Reply.{Reply}
use Rattle.ledger_files.specs.Opening.{AreOf, IsAnswerFor}
use Rattle.ledger_files.specs.Rounds.{IsRound}
use Rattle.bureau_laws.specs.Headline.{AreLinks, IsOneHistory, IsOwn, Link, Round, rounds_of, worked}
use Rattle.bureau_laws.specs.TwoRounds.{AreOneHistory}

-- files that were found to be of this program's version are
own_found : (files : Image) → IsAnswerFor files (Ok tt) → IsOwn files
own_found files found db holds sound ours = (found db holds sound).1 ours

module _ (law : (first : Image) (links : List Link) → AreLinks first links → (o : Office) → AreOf first o → IsOneHistory o (rounds_of links)) where
  pub joined : (first between : Image) (MayOne MayTwo : Image → Type 0) (One Two : List Command → List Reply → Type 0) → IsRound first MayOne One → IsRound between MayTwo Two
      → (o : Office) → AreOf first o → MayOne between → (last : Image) → MayTwo last → AreOneHistory o between last One Two
  joined first between MayOne MayTwo One Two one two o are may last end =
      let r : Round = record { given = one.commands; replies = one.replies; files = between } in
      let s : Round = record { given = two.commands; replies = two.replies; files = last } in
      let links : AreLinks first (worked r ∷ worked s ∷ []) = (
        own_found first (one.link.opened between may),
        one.link.all,
        one.link.leads between may,
        (own_found between (two.link.opened last end), two.link.all, two.link.leads last end, tt),
      ) in
      ∣ (r, s, one.told, two.told, refl, refl, law first (worked r ∷ worked s ∷ []) links o are) ∣₁

pub both_ok : {A B C D : Type 0} (one : Result A B) (two : Result C D) (P : A → Type 0) (Q : C → Type 0) (R : A → C → Type 0) → ((a : A) (c : C) → P a → Q c → R a c)
    → IfOk one P → IfOk two Q → IfOk one (λ a. IfOk two (R a))
both_ok (Ok a) (Ok c) P Q R join p q = join a c p q
both_ok (Ok a) (Err d) P Q R join p q = tt
both_ok (Err b) two P Q R join p q = tt
