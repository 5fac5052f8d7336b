use Rattle.std.proofs.Common.{◌∙◌, ap, length}
use Rattle.card_tools.proofs.NumberLaw.{length-columns}
use Rattle.card_tools.proofs.numbering.numbered.Goals as goal

pub with_columns-requires : goal.with_columns-requires
with_columns-requires c =
    ap length (c.deref.ensures.value ∙ c.in_ok-columns.ensures) ∙ length-columns c.args.ident.now c.args.number c.requires
