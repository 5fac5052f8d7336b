use Rattle.std.proofs.Common.{sym, ◌∙◌, arith}
use Rattle.loader.proofs.StretchLemmas.{first_lawful, first_split, longer, cut, whole}
use Rattle.loader.proofs.stretches.longest.Goals as goal

pub loop-end-init : goal.loop-end-init
loop-end-init c = record {
  some = omega arith;
  lawful = first_lawful c.args.cells.now c.requires;
  split = first_split c.args.cells.now c.requires;
}

pub returns-then-not-is_lawful-clause-split : goal.returns-then-not-is_lawful-clause-split
returns-then-not-is_lawful-clause-split c =
    sym c.loop-end.invariant.split ∙ cut c.args.cells.now c.loop-end.end (omega arith) (sym c.is_lawful.ensures ∙ c.if-not-is_lawful.true)

pub loop-end-preserved : goal.loop-end-preserved
loop-end-preserved c =
    let lawful = sym c.is_lawful.ensures ∙ c.if-not-is_lawful.false in
    record {
      some = omega arith;
      lawful = lawful;
      split = longer c.args.cells.now c.loop-end.end (omega arith) lawful ∙ c.loop-end.invariant.split;
    }

pub returns-clause-split : goal.returns-clause-split
returns-clause-split c = sym c.loop-end.invariant.split ∙ whole c.args.cells.now c.loop-end.end (omega arith)
