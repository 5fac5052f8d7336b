use Rattle.std.proofs.Common.{◌∙◌, ap, ap₂, sym, Bor, ◌||◌, take_all, []}
use Rattle.std.proofs.lemmas.List.Sums.{fold_more}
use Rattle.std.proofs.lemmas.List.Folds.{fold-map}
use Rattle.std.specs.Prelude.{fold}
use Rattle.clap.specs.Words.{App, Text, new_app, with_rule}
use Rattle.command_line.specs.Tables.{rule_for}
use Rattle.command_line.specs.declared.tables.Kind.{Kind}
use Rattle.command_line.specs.declared.tables.Kind.TheVariants.{Value}
use Rattle.command_line.proofs.tables.command_for.Goals as goal

abbrev with_argument : App → Text × Kind → App
with_argument a g = with_rule a (rule_for g.0 g.1)

abbrev step : App → Bor Text × Kind → App
step a g = with_argument a (g.0.now, g.1)

-- an argument that no index reaches
abbrev past : Bor Text × Kind
past = (record { ref_ptr = (0, 0); now = [] }, Value)

pub loop-one-preserved : goal.loop-one-preserved
loop-one-preserved c = record {
  app = c.in_ok-command.ensures.shape c.argument.ensures.local
      ∙ ap₂ with_rule c.loop-one.invariant.app c.argument.ensures.rule
      ∙ sym (fold_more step (new_app c.args.name.now) c.args.arguments.now c.loop-one.one-index past c.loop-one-test.true);
  local = c.in_ok-command.ensures.globals ∙ ap₂ ◌||◌ c.loop-one.invariant.local c.argument.ensures.local;
}

pub returns : goal.returns
returns c = (
  c.loop-one.invariant.app ∙ ap (fold step (new_app c.args.name.now)) (take_all c.loop-one.one-index c.args.arguments.now c.loop-one-test.false)
      ∙ sym (fold-map with_argument (λ (g : Bor Text × Kind). (g.0.now, g.1)) (new_app c.args.name.now) c.args.arguments.now),
  c.loop-one.invariant.local,
)
