-- A machine that goes through one stretch after the other.
use Rattle.std.proofs.Common.{◌≡◌, ◌<◌, ◌+◌, ◌++◌, ℕ, zero, suc, List, [], ◌∷◌, take, length, get_or, refl, sym, ap, ◌∙◌, arith}
use Rattle.std.proofs.lemmas.List.{take_more}
use Rattle.machine.specs.Run.{State, after, started}
use Rattle.machine.specs.declared.standings.Standing.TheVariants.{Halted}
use Rattle.office.specs.Jobs.{resumed, AreStretches}
use Rattle.office.specs.declared.stretches.Stretch.{Stretch}
use Rattle.job_checks.specs.Again.{GoesThrough, HasResumed, StartsAtHalts}

-- one stretch more
pub resumed_push : (m : State) (xs : List Stretch) (s : Stretch) → resumed m (xs ++ s ∷ []) ≡ after (started (resumed m xs) s.switches) s.granted
unfolding resumed
resumed_push m [] s = refl
resumed_push m (x ∷ xs) s = resumed_push (after (started m x.switches) x.granted) xs s

pub resumed_next : (m : State) (xs : List Stretch) (i : ℕ) (d : Stretch) → i < length xs → resumed m (take (i + 1) xs) ≡ after (started (resumed m (take i xs)) (get_or xs i d).switches) (get_or xs i d).granted
resumed_next m xs i d less = ap (resumed m) (take_more xs i d less) ∙ resumed_push m (take i xs) (get_or xs i d)

pub next_is : (m old new : State) (xs : List Stretch) (i : ℕ) (s d : Stretch) → i < length xs → old ≡ resumed m (take i xs) → s ≡ get_or xs i d → new ≡ after (started old s.switches) s.granted → new ≡ resumed m (take (i + 1) xs)
next_is m old new xs i s d less was is made =
    made ∙ ap (λ (o : State). after (started o s.switches) s.granted) was ∙ ap (λ (x : Stretch). after (started (resumed m (take i xs)) x.switches) x.granted) is ∙ sym (resumed_next m xs i d less)

-- the first stretch and then the others
pub resumed_first : (m now : State) (s : Stretch) (others : List Stretch) → AreStretches (s ∷ others) → GoesThrough (after (started m s.switches) s.granted) now others → HasResumed m (s ∷ others) now
unfolding resumed
resumed_first m now s others allowed went = record {
  allowed = allowed;
  machine = went.machine;
  halts = λ n some within. elim n as (λ n. 0 < n → n < length (s ∷ others) → (resumed m (take n (s ∷ others))).standing ≡ Halted)
      [ zero ↦ λ some within. absurd (omega (arith, some)) | suc k ↦ λ some within. went.halts k (omega (arith, within)) ] some within;
}

-- a machine that goes through a first stretch and others is at a halt before each of these
pub halts_after_first : (m now : State) (s : Stretch) (others : List Stretch) → HasResumed m (s ∷ others) now → StartsAtHalts (after (started m s.switches) s.granted) others
unfolding resumed
halts_after_first m now s others went = λ n within. went.halts (suc n) (omega arith) (omega (arith, within))
