-- The rounds of a chain, one after the other.
use Rattle.std.proofs.Common.{◌≡◌, ℕ, ◌≤◌, ◌+◌, List, [], ◌∷◌, ◌++◌, length, take as beginning_of, refl, sym, ap, subst, ◌∙◌}
use Rattle.office.specs.Office.{Office, fold}
use Rattle.office.specs.declared.commands.Command.{Command}
use Rattle.ledger.proofs.WorkLemmas.{fold_both}
use Rattle.bureau_laws.specs.Headline.{Round, AreKept}
use Rattle.bureau_laws.specs.KeptRounds.{KeptRound, left_after, kept_rounds, IsChain, left_by, kept_in}

-- what was kept of a round
pub record IsKept (k : KeptRound) : Type 0 where
  pub taken : ℕ
  pub replied : length k.round.replies ≤ taken
  pub most : taken ≤ length k.round.given
  pub all : length k.round.given ≤ length k.round.replies + 1
  pub kept : k.kept ≡ beginning_of taken k.round.given
  pub replies : k.round.replies ≡ (fold (beginning_of (length k.round.replies) k.round.given) k.office).1

-- each round begins with what the one before left, the first with this office
abbrev pub AreLinked : Office → List KeptRound → Type 0
AreLinked o [] = Unit {0}
AreLinked o (k ∷ chain) = (k.office ≡ o) × IsKept k × AreLinked (left_after k) chain

linked : (o : Office) (rounds : List Round) (commands : List Command) (are : AreKept o rounds commands) → AreLinked o (kept_rounds o rounds commands are)
linked o [] commands are = tt
linked o (round ∷ rounds) commands are =
    (refl, record { taken = are.0; replied = are.2; most = are.3; all = are.6; kept = refl; replies = are.4 }, linked (fold (beginning_of are.0 round.given) o).0 rounds are.1 are.7)

pub is_linked : (o : Office) (chain : List KeptRound) → IsChain o chain → AreLinked o chain
is_linked o chain is = subst (AreLinked o) (sym is.3) (linked o is.0 is.1 is.2)

pub at_round : (earlier : List KeptRound) (k : KeptRound) (later : List KeptRound) (o : Office) → AreLinked o (earlier ++ k ∷ later) → IsKept k × AreLinked (left_after k) later
at_round [] k later o are = (are.1, are.2)
at_round (one ∷ earlier) k later o are = at_round earlier k later (left_after one) are.2

-- ---- what is left of a chain

-- what the last round left is the office after all that was kept
left_linked : (o : Office) (chain : List KeptRound) → AreLinked o chain → left_by o chain ≡ (fold (kept_in chain) o).0
unfolding fold
left_linked o [] are = refl
left_linked o (k ∷ chain) are =
    left_linked (left_after k) chain are.2 ∙ ap (λ (x : Office). (fold (kept_in chain) (fold k.kept x).0).0) are.0 ∙ sym (fold_both k.kept (kept_in chain) o)

pub left_is : (o : Office) (chain : List KeptRound) → IsChain o chain → left_by o chain ≡ (fold (kept_in chain) o).0
left_is o chain is = left_linked o chain (is_linked o chain is)

kept_are : (o : Office) (rounds : List Round) (commands : List Command) (are : AreKept o rounds commands) → commands ≡ kept_in (kept_rounds o rounds commands are)
kept_are o [] commands are = are
kept_are o (round ∷ rounds) commands are =
    are.5 ∙ ap (λ (cs : List Command). beginning_of are.0 round.given ++ cs) (kept_are (fold (beginning_of are.0 round.given) o).0 rounds are.1 are.7)

pub chain_leads : (o : Office) (rounds : List Round) (commands : List Command) (are : AreKept o rounds commands)
    → (commands ≡ kept_in (kept_rounds o rounds commands are)) × ((fold commands o).0 ≡ left_by o (kept_rounds o rounds commands are))
chain_leads o rounds commands are =
    let kept = kept_are o rounds commands are in
    (kept, ap (λ cs. (fold cs o).0) kept ∙ sym (left_linked o (kept_rounds o rounds commands are) (linked o rounds commands are)))
