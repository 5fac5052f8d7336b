use Rattle.std.proofs.Common.{List, ◌+◌, arith, rules, subst}
use Rattle.office.specs.declared.commands.Command.{Command}
use Rattle.scripts.specs.Scripts.{Leads}
use Rattle.scripts.proofs.ParsingLemmas.{leads_more}
use Rattle.scripts.proofs.parsing.parse.Goals as goal

pub loop-rest-preserved : goal.loop-rest-preserved
loop-rest-preserved c = record {
  short = c.loop-rest.invariant.short;
  within = omega (arith, c.loop-rest.invariant.within, c.in-Ok.ensures.shorter);
  leads = subst (λ (commands : List Command). Leads c.args.bytes.now commands (c.loop-rest.lines + c.in-Ok.found.lines) c.in-Ok.found.rest.now) (search rules)
      (leads_more c.args.bytes.now c.loop-rest.rest.now c.in-Ok.found.rest.now c.loop-rest.commands.items c.loop-rest.lines c.in-Ok.found.lines c.in-Ok.found.command c.loop-rest.invariant.leads c.in-Ok.ensures.found);
}
