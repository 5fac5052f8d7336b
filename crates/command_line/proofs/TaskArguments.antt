-- The tasks that the arguments of a subcommand ask for, and what can be wrong with its values.
use Rattle.std.proofs.Common.{◌≡◌, List, [], ◌∷◌, decimal, refl, subst, inl, inr}
use Rattle.std.specs.Prelude.{⊤}
use Rattle.clap.specs.Words.{Row as Found, Text}
use Rattle.core_store.specs.Storage.{positions_of}
use Rattle.command_line.specs.Asked.{HasValues, values_found}
use Rattle.command_line.specs.Tasks.{IsSubcommandMistake, IsServeMistake, IsValueMistake, Wants, WantsSubcommand}
use Rattle.command_line.specs.Words.{Row, Spells, SpellsInPlace}
use Rattle.command_line.specs.Words as words
use Rattle.command_line.specs.declared.mistakes.Mistake.{Mistake}
use Rattle.command_line.specs.declared.mistakes.Mistake.TheVariants as mistake
use Rattle.command_line.specs.declared.subcommands.Subcommand.{Subcommand}
use Rattle.command_line.specs.declared.subcommands.Subcommand.TheVariants as name
use Rattle.command_line.specs.declared.tasks.Input.TheVariants.{File, Standard}
use Rattle.command_line.specs.declared.tasks.Task.{Task}
use Rattle.command_line.specs.declared.tasks.Task.TheVariants as task
use Rattle.texts.specs.Switches.{text_of}
use Rattle.command_line.proofs.AskedWays.{one_subcommand}

-- ---- arguments that ask for a task spell a row

-- the row of a subcommand has this task
abbrev pub HasTask : Row → Task → Type 0
HasTask (words.subcommand r values) t = WantsSubcommand r values t
HasTask other t = ⊤

-- the arguments spell a row that has this task
pub record AreOfRow (arguments : List Text) (t : Task) : Type 0 where
  pub row : Row
  pub spells : Spells arguments row
  pub has : HasTask row t

pub spelt : (arguments : List Text) (t : Task) → Wants arguments t → AreOfRow arguments t
spelt arguments (task.Help page) wants = record { row = words.help page; spells = wants; has = tt }
spelt arguments task.Version wants = record { row = words.version; spells = wants; has = tt }
spelt arguments (task.Run Standard s w) wants = record { row = words.standard; spells = wants.0; has = tt }
spelt arguments (task.Run (File path) s w) wants = record {
  row = words.subcommand name.Run (path.now ∷ decimal (positions_of s) ∷ text_of w ∷ []);
  spells = (refl, wants.0);
  has = (refl, refl, wants.1);
}
spelt arguments (task.Assemble source out) wants = record {
  row = words.subcommand name.Assemble (source.now ∷ out.now ∷ []);
  spells = (refl, wants);
  has = (refl, refl);
}
spelt arguments (task.Init file) wants =
    record { row = words.subcommand name.Init (file.now ∷ []); spells = (refl, wants); has = (refl, refl) }
spelt arguments (task.Apply file script) wants = record {
  row = words.subcommand name.Apply (file.now ∷ script.now ∷ []);
  spells = (refl, wants);
  has = (refl, refl);
}
spelt arguments (task.Export file customer number) wants = record {
  row = words.subcommand name.Export (file.now ∷ customer.now ∷ wants.0 ∷ []);
  spells = (refl, wants.1);
  has = (wants.0, refl, refl, wants.2);
}
spelt arguments (task.Migrate file) wants =
    record { row = words.subcommand name.Migrate (file.now ∷ []); spells = (refl, wants); has = (refl, refl) }
spelt arguments (task.Serve file port count) wants = record {
  row = words.subcommand name.Serve (file.now ∷ decimal port ∷ decimal count ∷ []);
  spells = (refl, wants.0);
  has = (refl, refl, wants.1, wants.2);
}

-- ---- a subcommand with a mistake in its values has no task

second_is : {a b c x y z : Text} → a ∷ b ∷ c ∷ [] ≡ x ∷ y ∷ z ∷ [] → b ≡ y
second_is e = cc

third_is : {a b c x y z : Text} → a ∷ b ∷ c ∷ [] ≡ x ∷ y ∷ z ∷ [] → c ≡ z
third_is e = cc

no_run : (deck size switches : Text) (m : Mistake) (t : Task) → IsValueMistake size switches m
    → WantsSubcommand name.Run (deck ∷ size ∷ switches ∷ []) t → ⊥
no_run deck size switches m (task.Help page) wrong is = absurd is
no_run deck size switches m task.Version wrong is = absurd is
no_run deck size switches m (task.Run Standard s w) wrong is = absurd is
no_run deck size switches mistake.Memory (task.Run (File path) s w) wrong is = absurd wrong
no_run deck size switches mistake.NoText (task.Run (File path) s w) wrong is = absurd wrong
no_run deck size switches mistake.Nothing (task.Run (File path) s w) wrong is = absurd wrong
no_run deck size switches (mistake.Subcommand argument near) (task.Run (File path) s w) wrong is = absurd wrong
no_run deck size switches (mistake.Arguments it usage) (task.Run (File path) s w) wrong is = absurd wrong
no_run deck size switches (mistake.Hyphen argument usage) (task.Run (File path) s w) wrong is = absurd wrong
no_run deck size switches (mistake.Value said) (task.Run (File path) s w) (inl wrong) is = absurd (wrong.1 s (second_is is.1))
no_run deck size switches (mistake.Value said) (task.Run (File path) s w) (inr wrong) is = absurd (wrong.2 w is.2 (third_is is.1))
no_run deck size switches m (task.Assemble source out) wrong is = let k : name.Run ≡ name.Assemble = is.0 in cc
no_run deck size switches m (task.Init file) wrong is = let k : name.Run ≡ name.Init = is.0 in cc
no_run deck size switches m (task.Apply file script) wrong is = let k : name.Run ≡ name.Apply = is.0 in cc
no_run deck size switches m (task.Export file customer number) wrong is = let k : name.Run ≡ name.Export = is.1 in cc
no_run deck size switches m (task.Migrate file) wrong is = let k : name.Run ≡ name.Migrate = is.0 in cc
no_run deck size switches m (task.Serve file port count) wrong is = let k : name.Run ≡ name.Serve = is.0 in cc

no_serve : (served at_port so_many : Text) (m : Mistake) (t : Task) → IsServeMistake at_port so_many m
    → WantsSubcommand name.Serve (served ∷ at_port ∷ so_many ∷ []) t → ⊥
no_serve served at_port so_many m (task.Help page) wrong is = absurd is
no_serve served at_port so_many m task.Version wrong is = absurd is
no_serve served at_port so_many m (task.Run Standard s w) wrong is = absurd is
no_serve served at_port so_many m (task.Run (File path) s w) wrong is = let k : name.Serve ≡ name.Run = is.0 in cc
no_serve served at_port so_many m (task.Assemble source out) wrong is = let k : name.Serve ≡ name.Assemble = is.0 in cc
no_serve served at_port so_many m (task.Init file) wrong is = let k : name.Serve ≡ name.Init = is.0 in cc
no_serve served at_port so_many m (task.Apply file script) wrong is = let k : name.Serve ≡ name.Apply = is.0 in cc
no_serve served at_port so_many m (task.Export file customer number) wrong is = let k : name.Serve ≡ name.Export = is.1 in cc
no_serve served at_port so_many m (task.Migrate file) wrong is = let k : name.Serve ≡ name.Migrate = is.0 in cc
no_serve served at_port so_many mistake.Memory (task.Serve f p c) wrong is = absurd wrong
no_serve served at_port so_many mistake.NoText (task.Serve f p c) wrong is = absurd wrong
no_serve served at_port so_many mistake.Nothing (task.Serve f p c) wrong is = absurd wrong
no_serve served at_port so_many (mistake.Subcommand argument near) (task.Serve f p c) wrong is = absurd wrong
no_serve served at_port so_many (mistake.Arguments it usage) (task.Serve f p c) wrong is = absurd wrong
no_serve served at_port so_many (mistake.Hyphen argument usage) (task.Serve f p c) wrong is = absurd wrong
no_serve served at_port so_many (mistake.Value said) (task.Serve f p c) (inl wrong) is = absurd (wrong.1 p is.2 (second_is is.1))
no_serve served at_port so_many (mistake.Value said) (task.Serve f p c) (inr wrong) is = absurd (wrong.2 c is.3 (third_is is.1))

no_task : (subcommand : Subcommand) (found : List Found) (m : Mistake) (t : Task) → IsSubcommandMistake subcommand (values_found found subcommand) m
    → WantsSubcommand subcommand (values_found found subcommand) t → ⊥
no_task name.Run found m t wrong is = no_run _ _ _ m t wrong is
no_task name.Assemble found m t wrong is = absurd wrong
no_task name.Init found m t wrong is = absurd wrong
no_task name.Apply found m t wrong is = absurd wrong
no_task name.Export found m t wrong is = absurd wrong
no_task name.Migrate found m t wrong is = absurd wrong
no_task name.Serve found m t wrong is = no_serve _ _ _ m t wrong is

some_words : (r : Subcommand) (values : List Text) → HasValues r values [] → ⊥
some_words r values (inl has) = let e = has.0 in cc
some_words r values (inr has) = cc

-- arguments with a mistake in the values of their subcommand ask for no task
pub no_subcommand_task : (arguments : List Text) (r : Subcommand) (found : List Found) (m : Mistake) (t : Task) → HasValues r (values_found found r) arguments
    → ((row : Row) → SpellsInPlace arguments row → words.subcommand r (values_found found r) ≡ row) → IsSubcommandMistake r (values_found found r) m → Wants arguments t → ⊥
no_subcommand_task arguments r found m t has place wrong wants = let of = spelt arguments t wants in go of.row of.spells of.has
  where
    go : (row : Row) → Spells arguments row → HasTask row t → ⊥
    go words.standard is of = some_words r (values_found found r) (subst (HasValues r (values_found found r)) is has)
    go (words.help page) is of = let e = place (words.help page) is in cc
    go words.version is of = let e = place words.version is in cc
    go (words.subcommand s values) is of =
        let same = one_subcommand s r values (values_found found r) arguments is.1 has in
        no_task r found m t wrong (subst (λ v. WantsSubcommand r v t) same.1 (subst (λ q. WantsSubcommand q values t) same.0 of))
