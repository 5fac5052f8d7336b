-- One command after others.
use Rattle.std.proofs.Common.{◌≡◌, ◌⊎◌, inl, inr, ℕ, ◌+◌, ◌<◌, ◌≤◌, List, [], ◌∷◌, ◌++◌, length, get_or, take, Option, Some, refl, sym, ap, subst, ◌∙◌, arith}
use Rattle.std.proofs.lemmas.List.{take_more, take_all, take-take, length-take-le}
use Rattle.std.proofs.lemmas.List.Sums.{sum_by_push}
use Rattle.machine.specs.Run.{risen}
use Rattle.office.specs.Meters.{RisenAtMost}
use Rattle.office.specs.Office as office
use Rattle.office.specs.Office.{Office, fold, attempted, limit_of}
use Rattle.office.specs.declared.commands.Command.{Command}
use Rattle.office.specs.declared.replies.Reply.{Reply}
use Rattle.sqlite.specs.Effect.{Database}
use Rattle.sqlite.specs.Tree.{Trees}
use Rattle.ledger_tables.specs.Schema.{bureau_schema}
use Rattle.ledger_tables.specs.declared.faults.Fault.{Fault}
use Rattle.ledger_tables.specs.declared.faults.Fault.TheVariants.{NoMemory, Store}
use Rattle.office_tables.specs.Standing.{Rows, LeftAs}
use Rattle.ledger.specs.Meters.{RisenWithin, attempted_by_all}
use Rattle.ledger.specs.Shifting.{limit_of_all, LeavesWhole}
use Rattle.ledger.specs.WholeRows.{HaveWholeRows}

-- ---- one command more

pub office_push : (commands : List Command) (last : Command) (o : Office) → (fold (commands ++ last ∷ []) o).0 ≡ (office.take last (fold commands o).0).0
unfolding fold
office_push [] last o = refl
office_push (first ∷ commands) last o = office_push commands last (office.take first o).0

pub replies_push : (commands : List Command) (last : Command) (o : Office) → (fold (commands ++ last ∷ []) o).1 ≡ (fold commands o).1 ++ (office.take last (fold commands o).0).1 ∷ []
unfolding fold
replies_push [] last o = refl
replies_push (first ∷ commands) last o = ap (λ (rest : List Reply). (office.take first o).1 ∷ rest) (replies_push commands last (office.take first o).0)

pub attempted_push : (commands : List Command) (last : Command) (o : Office) → attempted_by_all (commands ++ last ∷ []) o ≡ attempted_by_all commands o + attempted last (fold commands o).0
unfolding fold attempted_by_all
attempted_push [] last o = omega arith
attempted_push (first ∷ commands) last o = let rest = attempted_push commands last (office.take first o).0 in omega (arith, rest)

module _ (commands : List Command) (i : ℕ) (it : Command) (within : i < length commands) (is : it ≡ get_or commands i it) where
  pub one_more : take (i + 1) commands ≡ take i commands ++ it ∷ []
  one_more = take_more commands i it within ∙ ap (λ x. take i commands ++ x ∷ []) (sym is)

  pub office_more : (o : Office) → (office.take it (fold (take i commands) o).0).0 ≡ (fold (take (i + 1) commands) o).0
  office_more o = sym (ap (λ cs. (fold cs o).0) one_more ∙ office_push (take i commands) it o)

  pub replies_more : (o : Office) → (fold (take i commands) o).1 ++ (office.take it (fold (take i commands) o).0).1 ∷ [] ≡ (fold (take (i + 1) commands) o).1
  replies_more o = sym (ap (λ cs. (fold cs o).1) one_more ∙ replies_push (take i commands) it o)

  pub attempted_more : (o : Office) → attempted_by_all (take (i + 1) commands) o ≡ attempted_by_all (take i commands) o + attempted it (fold (take i commands) o).0
  attempted_more o = ap (λ cs. attempted_by_all cs o) one_more ∙ attempted_push (take i commands) it o

  pub limit_more : limit_of_all (take (i + 1) commands) ≡ limit_of_all (take i commands) + limit_of it
  limit_more = ap limit_of_all one_more ∙ sum_by_push limit_of (take i commands) it

-- ---- the meter

risen_twice : (old a b : ℕ) → risen (risen old a) b ≡ risen old (a + b)
risen_twice old a b = omega arith

pub risen_more : (old mid new a b : ℕ) → mid ≡ risen old a → new ≡ risen mid b → new ≡ risen old (a + b)
risen_more old mid new a b one two = two ∙ ap (λ m. risen m b) one ∙ risen_twice old a b

pub risen_in_all : (old mid new a b : ℕ) → RisenAtMost a old mid → RisenAtMost b mid new → RisenAtMost (a + b) old new
risen_in_all old mid new a b one two = record {
  ticks = one.ticks + two.ticks;
  most = omega (arith, one.most, two.most);
  is = risen_more old mid new one.ticks two.ticks one.is two.is;
}

-- what was ticked for some commands, and for one more that met a fault
pub risen_on_fault : (old mid new a b : ℕ) → mid ≡ risen old a → RisenAtMost b mid new → RisenWithin a (a + b) old new
risen_on_fault old mid new a b one two = record {
  ticks = a + two.ticks;
  least = omega arith;
  most = omega (arith, two.most);
  is = risen_more old mid new a two.ticks one two.is;
}

pub risen_just : (old new a : ℕ) → new ≡ risen old a → RisenWithin a a old new
risen_just old new a is = record { ticks = a; least = omega arith; most = omega arith; is = is }

pub not_risen : (old new : ℕ) → new ≡ old → RisenAtMost 0 old new
not_risen old new same = record { ticks = 0; most = omega arith; is = omega (arith, same) }

-- ---- what a crash leaves

module _ (law : (db : Database) (o : Office) → Rows db o → HaveWholeRows db o) (db : Trees) (o : Office) (commands : List Command) where
  abbrev database : Database
  database = record { schema = bureau_schema; trees = db }

  -- the office after so many commands
  left_at : (given : List Command) (acknowledged taken : ℕ) → acknowledged ≤ taken → taken ≤ length given → LeftAs db (fold (take taken given) o).0 → LeavesWhole db o given acknowledged
  left_at given acknowledged taken least most rows = record {
    left = (fold (take taken given) o).0;
    beginning = (taken, least, most, refl);
    rows = rows;
    whole = law database (fold (take taken given) o).0 rows;
  }

  -- so many
  pub leaves_after : (i : ℕ) → i ≤ length commands → LeftAs db (fold (take i commands) o).0 → LeavesWhole db o (take i commands) i
  leaves_after i within rows =
      let long : length (take i commands) ≡ i = length-take-le i commands within in
      left_at (take i commands) i i (omega arith) (omega arith) (subst (λ cs. LeftAs db (fold cs o).0) (sym (take_all i (take i commands) (omega arith))) rows)

  -- either with the next or without it
  pub leaves_either : (i : ℕ) (it : Command) → i < length commands → it ≡ get_or commands i it
      → LeftAs db (fold (take i commands) o).0 ⊎ LeftAs db (office.take it (fold (take i commands) o).0).0 → LeavesWhole db o (take (i + 1) commands) i
  leaves_either i it within is (inl before) =
      let long : length (take (i + 1) commands) ≡ i + 1 = length-take-le (i + 1) commands (omega arith) in
      left_at (take (i + 1) commands) i i (omega arith) (omega arith) (subst (λ cs. LeftAs db (fold cs o).0) (sym (take-take i (i + 1) commands (omega arith))) before)
  leaves_either i it within is (inr made) =
      let long : length (take (i + 1) commands) ≡ i + 1 = length-take-le (i + 1) commands (omega arith) in
      let same : (office.take it (fold (take i commands) o).0).0 ≡ (fold (take (i + 1) (take (i + 1) commands)) o).0 =
      office_more commands i it within is o ∙ ap (λ cs. (fold cs o).0) (sym (take_all (i + 1) (take (i + 1) commands) (omega arith))) in
      left_at (take (i + 1) commands) i (i + 1) (omega arith) (omega arith) (subst (LeftAs db) same made)

-- a fault that is not the store's
pub only_memory : (fault : Fault) → (◌≡◌ {A = Option Fault} (Some fault) (Some Store) → ⊥) → fault ≡ NoMemory
only_memory NoMemory other = refl
only_memory Store other = absurd (other refl)
