use Rattle.std.proofs.Common.{List, ℕ, [], ◌∷◌, IfOk, arith, inl, inr, rules, subst, sym}
use Rattle.scripts.specs.Commands.{IsMeantBy}
use Rattle.scripts.proofs.MeaningLemmas.{four_words, other_words, seven_words, three_words}
use Rattle.scripts.proofs.meaning.meant_by.Goals.{in_default-via-then-words-lt1, in_default-via-else-words-lt1+else-words-lt2+else-words-lt3+else-words-lt4+else-words-lt5+then-words-lt7, in_default-via-else-words-lt1+else-words-lt2+else-words-lt3+else-words-lt4+else-words-lt5+else-words-lt7+else-words-lt8}
use Rattle.scripts.proofs.meaning.meant_by.Goals as goal

pub returns-in-len3 : goal.returns-in-len3
returns-in-len3 c =
    subst (λ (ws : List (List ℕ)). IfOk c.on_job.result (IsMeantBy ws)) (sym (three_words c.args.words.now _ _ _ c.in-len3.len_at_least c.in-len3.len_below))
    (c.on_job.ensures _ [] (omega arith) c.plain_command.ensures)

pub returns-in-len4 : goal.returns-in-len4
returns-in-len4 c =
    subst (λ (ws : List (List ℕ)). IfOk c.on_job-in-len4.result (IsMeantBy ws)) (sym (four_words c.args.words.now _ _ _ _ c.in-len4.len_at_least c.in-len4.len_below))
    (c.on_job-in-len4.ensures _ (_ ∷ []) (omega arith) c.worded_command.ensures)

pub returns-in-len7 : goal.returns-in-len7
returns-in-len7 c =
    subst (λ (ws : List (List ℕ)). IfOk c.heading.result (IsMeantBy ws)) (sym (seven_words c.args.words.now _ _ _ _ _ _ _ c.in-len7.len_at_least c.in-len7.len_below))
    c.heading.ensures

pub returns-in_default : goal.returns-in_default
returns-in_default c = other_words c.args.words.now (elim c.in_default.branch [
  | in_default-via-then-words-lt1 w ↦ inl (search rules)
  | in_default-via-else-words-lt1+else-words-lt2+else-words-lt3+else-words-lt4+else-words-lt5+then-words-lt7 w ↦ inr (search rules)
  | in_default-via-else-words-lt1+else-words-lt2+else-words-lt3+else-words-lt4+else-words-lt5+else-words-lt7+else-words-lt8 w ↦ inr (search rules)
])
