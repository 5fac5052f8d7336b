-- One customer's part of a chain of rounds.
use Rattle.std.proofs.Common.{◌≡◌, ℕ, suc, ◌≤◌, ◌+◌, List, [], ◌∷◌, ◌++◌, length, map, filter, take as beginning_of, drop, refl, sym, ap, subst, ◌∙◌, inl, inr, arith, length-append, take-append-drop, take-take}
use Rattle.std.proofs.Math.Seq.{take-append_seam}
use Rattle.std.proofs.lemmas.Bool.{cases_Bool}
use Rattle.std.proofs.lemmas.List.{map-append}
use Rattle.std.proofs.lemmas.List.Elements.{filter-append}
use Rattle.office.specs.Office.{Office, own, take, fold}
use Rattle.office.specs.declared.commands.Command.{Command}
use Rattle.office.specs.declared.replies.Reply.{Reply}
use Rattle.bureau_laws.specs.Headline.{Round, AreKept}
use Rattle.bureau_laws.specs.KeptRounds.{KeptRound, kept_rounds, IsChain, left_by, kept_in, Answer, answers, answers_in}
use Rattle.bureau_laws.specs.Customers.{names, commands_of, replies_to, own_round, own_kept, own_answer, answers_to}
use Rattle.bureau_laws.proofs.ChainLemmas.{left_is}
use Rattle.bureau_laws.proofs.CustomerLaw.{take_alike, take_others, are_apart}

-- ---- beginnings

module _ (c : List ℕ) where
  -- the customer's commands in a beginning are a beginning of the customer's
  halves : (n : ℕ) (given : List Command) → commands_of c given ≡ commands_of c (beginning_of n given) ++ commands_of c (drop n given)
  halves n given = ap (commands_of c) (sym (take-append-drop n given)) ∙ filter-append (names c) (beginning_of n given) (drop n given)

  begins : (n : ℕ) (given : List Command) → beginning_of (length (commands_of c (beginning_of n given))) (commands_of c given) ≡ commands_of c (beginning_of n given)
  begins n given =
      ap (beginning_of (length (commands_of c (beginning_of n given)))) (halves n given) ∙ take-append_seam (commands_of c (beginning_of n given)) (commands_of c (drop n given))

  fewer : (n : ℕ) (given : List Command) → length (commands_of c (beginning_of n given)) ≤ length (commands_of c given)
  fewer n given = omega (arith, ap length (halves n given), length-append (commands_of c (beginning_of n given)) (commands_of c (drop n given)))

  grows : (n m : ℕ) (given : List Command) → n ≤ m → length (commands_of c (beginning_of n given)) ≤ length (commands_of c (beginning_of m given))
  grows n m given more =
      subst (λ (cs : List Command). length (commands_of c cs) ≤ length (commands_of c (beginning_of m given))) (take-take n m given more) (fewer n (beginning_of m given))

  -- replies are to the first commands
  to_first : (given : List Command) (replies : List Reply) → replies_to c given replies ≡ replies_to c (beginning_of (length replies) given) replies
  to_first [] [] = refl
  to_first [] (r ∷ replies) = refl
  to_first (x ∷ given) [] = refl
  to_first (x ∷ given) (r ∷ replies) = elim (cases_Bool (names c x)) [
    | inl is ↦ simp is (ap (λ (rs : List Reply). r ∷ rs) (to_first given replies))
    | inr not ↦ simp not (to_first given replies)
  ]

  counted : (given : List Command) (replies : List Reply) → length replies ≤ length given → length (replies_to c given replies) ≡ length (commands_of c (beginning_of (length replies) given))
  counted [] [] some = refl
  counted [] (r ∷ replies) some = absurd (omega (arith, some))
  counted (x ∷ given) [] some = refl
  counted (x ∷ given) (r ∷ replies) some =
      let rest = counted given replies (omega (arith, some)) in
      elim (cases_Bool (names c x)) [
        | inl is ↦ simp is (ap suc rest)
        | inr not ↦ simp not rest
      ]

  own_replies : (o : Office) (given : List Command) (replies : List Reply) → replies ≡ (fold (beginning_of (length replies) given) o).1
      → replies_to c given replies ≡ (fold (commands_of c (beginning_of (length replies) given)) (own c o)).1
  own_replies o given replies are =
      to_first given replies ∙ ap (replies_to c (beginning_of (length replies) given)) are ∙ (are_apart c (beginning_of (length replies) given) o).replies_are

  -- if all commands but the last have a reply, so have all of the customer's but the last
  but_last : (given : List Command) (replies : List Reply) → length given ≤ length replies + 1 → length (commands_of c given) ≤ length (replies_to c given replies) + 1
  but_last [] replies all = omega arith
  but_last (x ∷ []) [] all = elim (cases_Bool (names c x)) [
    | inl is ↦ let r : 1 ≤ 1 = omega arith in simp is r
    | inr not ↦ let r : 0 ≤ 1 = omega arith in simp not r
  ]
  but_last (x ∷ (y ∷ given)) [] all = absurd (omega (arith, all))
  but_last (x ∷ given) (r ∷ replies) all =
      let rest = but_last given replies (omega (arith, all)) in
      elim (cases_Bool (names c x)) [
        | inl is ↦ let more : suc (length (commands_of c given)) ≤ suc (length (replies_to c given replies)) + 1 = omega (arith, rest) in simp is more
        | inr not ↦ simp not rest
      ]

-- ---- the customer's own chain

-- the customer's own rounds are kept from this office on, and are a chain of the customer's own parts
pub record IsOwn (c : List ℕ) (o part : Office) (rounds : List Round) (commands : List Command) (are : AreKept o rounds commands) : Type 0 where
  pub kept : AreKept part (map (own_round c) rounds) (commands_of c commands)
  pub chain_is : map (own_kept c) (kept_rounds o rounds commands are) ≡ kept_rounds part (map (own_round c) rounds) (commands_of c commands) kept

pub own_chain : (c : List ℕ) (o part : Office) → part ≡ own c o → (rounds : List Round) (commands : List Command) (are : AreKept o rounds commands) → IsOwn c o part rounds commands are
own_chain c o part own_is [] commands are = record { kept = ap (commands_of c) are; chain_is = refl }
own_chain c o part own_is (round ∷ rounds) commands are =
    let given = round.given in
    let n = length round.replies in
    let front = beginning_of are.0 given in
    let taken = length (commands_of c front) in
    let own_given = commands_of c given in
    let some = length (replies_to c given round.replies) in
    let begun : beginning_of taken own_given ≡ commands_of c front = begins c are.0 given in
    let count : some ≡ length (commands_of c (beginning_of n given)) = counted c given round.replies (omega (arith, are.2, are.3)) in
    let replied : beginning_of some own_given ≡ commands_of c (beginning_of n given) = ap (λ k. beginning_of k own_given) count ∙ begins c n given in
    let reply_are : replies_to c given round.replies ≡ (fold (beginning_of some own_given) part).1 =
    own_replies c o given round.replies are.4 ∙ ap (λ (x : Office). (fold (commands_of c (beginning_of n given)) x).1) (sym own_is) ∙ ap (λ cs. (fold cs part).1) (sym replied) in
    let next : (fold (beginning_of taken own_given) part).0 ≡ own c (fold front o).0 =
    ap (λ cs. (fold cs part).0) begun ∙ ap (λ (x : Office). (fold (commands_of c front) x).0) own_is ∙ sym (are_apart c front o).own_is in
    let rest = own_chain c (fold front o).0 (fold (beginning_of taken own_given) part).0 next rounds are.1 are.7 in
    let split : commands_of c commands ≡ beginning_of taken own_given ++ commands_of c are.1 =
    ap (commands_of c) are.5 ∙ filter-append (names c) front are.1 ∙ ap (λ (cs : List Command). cs ++ commands_of c are.1) (sym begun) in
    let least : some ≤ taken = subst (λ k. k ≤ taken) (sym count) (grows c n are.0 given are.2) in
    let kept : AreKept part (map (own_round c) (round ∷ rounds)) (commands_of c commands) = (taken, commands_of c are.1, least, fewer c are.0 given, reply_are, split, but_last c given round.replies are.6, rest.kept) in
    record {
      kept = kept;
      chain_is = ap (λ (x : Office). let all : List KeptRound = (record { round = own_round c round; office = x; kept = commands_of c front }) ∷ map (own_kept c) (kept_rounds (fold front o).0 rounds are.1 are.7) in all) (sym own_is)
          ∙ ap (λ (cs : List Command). let all : List KeptRound = (record { round = own_round c round; office = part; kept = cs }) ∷ map (own_kept c) (kept_rounds (fold front o).0 rounds are.1 are.7) in all) (sym begun)
          ∙ ap (λ (ks : List KeptRound). let all : List KeptRound = (record { round = own_round c round; office = part; kept = beginning_of taken own_given }) ∷ ks in all) rest.chain_is;
    }

pub own_is_kept : (c : List ℕ) (o : Office) (rounds : List Round) (commands : List Command) → AreKept o rounds commands → AreKept (own c o) (map (own_round c) rounds) (commands_of c commands)
own_is_kept c o rounds commands are = (own_chain c o (own c o) refl rounds commands are).kept

pub own_is_chain : (c : List ℕ) (o : Office) (chain : List KeptRound) → IsChain o chain → IsChain (own c o) (map (own_kept c) chain)
own_is_chain c o chain is =
    let here = own_chain c o (own c o) refl is.0 is.1 is.2 in
    (map (own_round c) is.0, commands_of c is.1, here.kept, ap (map (own_kept c)) is.3 ∙ here.chain_is)

pub own_is_left : (c : List ℕ) (o : Office) (chain : List KeptRound) → IsChain o chain → own c (left_by o chain) ≡ (fold (commands_of c (kept_in chain)) (own c o)).0
own_is_left c o chain is = ap (own c) (left_is o chain is) ∙ (are_apart c (kept_in chain) o).own_is

-- ---- the answers to the customer

no_answers : (o : Office) (given : List Command) → answers o given [] ≡ []
no_answers o [] = refl
no_answers o (x ∷ given) = refl

module _ (c : List ℕ) where
  own_answers : (o part : Office) → part ≡ own c o → (given : List Command) (replies : List Reply) → answers part (commands_of c given) (replies_to c given replies) ≡ answers_to c (answers o given replies)
  own_answers o part own_is [] replies = refl
  own_answers o part own_is (x ∷ given) [] = no_answers part (commands_of c (x ∷ given))
  own_answers o part own_is (x ∷ given) (r ∷ replies) = elim (cases_Bool (names c x)) [
    | inl is ↦
        let alike = take_alike c o x is in
        let next : (take x part).0 ≡ own c (take x o).0 = ap (λ (y : Office). (take x y).0) own_is ∙ sym alike.own_is in
        let rest = own_answers (take x o).0 (take x part).0 next given replies in
        let all : (record { command = x; before = part; reply = r }) ∷ answers (take x part).0 (commands_of c given) (replies_to c given replies) ≡ (record { command = x; before = own c o; reply = r }) ∷ answers_to c (answers (take x o).0 given replies) =
        ap (λ (y : Office). let them : List Answer = (record { command = x; before = y; reply = r }) ∷ answers (take x part).0 (commands_of c given) (replies_to c given replies) in them) own_is
        ∙ ap (λ (ys : List Answer). let them : List Answer = (record { command = x; before = own c o; reply = r }) ∷ ys in them) rest in
        simp is all
    | inr not ↦
        let next : part ≡ own c (take x o).0 = own_is ∙ sym (take_others c o x not) in
        simp not (own_answers (take x o).0 part next given replies)
  ]

  answers_both : (one other : List Answer) → answers_to c (one ++ other) ≡ answers_to c one ++ answers_to c other
  answers_both one other = ap (map (own_answer c)) (filter-append (λ (it : Answer). names c it.command) one other) ∙ map-append (own_answer c) (filter (λ (it : Answer). names c it.command) one) (filter (λ (it : Answer). names c it.command) other)

  pub answers_are : (chain : List KeptRound) → answers_in (map (own_kept c) chain) ≡ answers_to c (answers_in chain)
  answers_are [] = refl
  answers_are (k ∷ chain) =
      let here = answers k.office k.round.given k.round.replies in
      ap (λ (xs : List Answer). xs ++ answers_in (map (own_kept c) chain)) (own_answers k.office (own c k.office) refl k.round.given k.round.replies)
      ∙ ap (λ (xs : List Answer). answers_to c here ++ xs) (answers_are chain)
      ∙ sym (answers_both here (answers_in chain))
