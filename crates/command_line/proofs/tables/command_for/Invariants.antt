use Rattle.std.proofs.Common.{◌≡◌, take}
use Rattle.clap.specs.Words.{app_of, new_app, with_rule}
use Rattle.std.specs.Prelude.{fold}
use Rattle.command_line.specs.Tables.{IsLocal, rule_for}
use Rattle.command_line.proofs.tables.command_for.Given as goal

abbrev pub invariant-loop-one : goal.invariant-loop-one
invariant-loop-one l = record {
  app : app_of l.command ≡ fold (λ a g. with_rule a (rule_for g.0.now g.1)) (new_app l.fn.name) (take l.one-index l.arguments);
  local : IsLocal l.command;
}
