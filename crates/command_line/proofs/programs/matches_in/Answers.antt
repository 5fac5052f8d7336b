use Rattle.std.proofs.Common.{◌≡◌, ◌≢◌, ◌∙◌, [], ap, inl, inr, subst, sym}
use Rattle.clap.specs.Simple.{is_simple}
use Rattle.clap.specs.Words.{App, fault_of, is_simple_and_free, subcommand_of, subcommand_rows_of}
use Rattle.command_line.specs.Plain.{texts}
use Rattle.command_line.proofs.programs.matches_in.Goals as goal

pub parse-requires-clause-simple : goal.parse-requires-clause-simple
parse-requires-clause-simple g c = ap is_simple c.in_ok-command_of.ensures ∙ c.requires.simple

pub parse-requires-clause-free : goal.parse-requires-clause-free
parse-requires-clause-free g c = ap is_simple_and_free c.in_ok-command_of.ensures ∙ c.requires.free

pub returns-in-Ok-clause-ok : goal.returns-in-Ok-clause-ok
returns-in-Ok-clause-ok g c =
    let arguments = texts c.args.arguments.now in
    subst (λ (a : App). (fault_of a arguments ≡ []) × (subcommand_rows_of c.in-Ok.matches ≡ subcommand_of a arguments))
    c.in_ok-command_of.ensures c.in-Ok.ensures.ok

pub returns-in-Err-Arguments-clause-err : goal.returns-in-Err-Arguments-clause-err
returns-in-Err-Arguments-clause-err g c =
    elim c.in-Err-Arguments.ensures.err [
      | inl memory ↦ absurd (let none = sym c.in-Err-Arguments.field-0-is ∙ memory in cc)
      | inr faulty ↦ inr (subst (λ (a : App). fault_of a (texts c.args.arguments.now) ≢ []) c.in_ok-command_of.ensures faulty)
    ]
