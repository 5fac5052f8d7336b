use Rattle.std.proofs.Common.{◌∙◌, ap, length, take}
use Rattle.autocoder_statements.specs.declared.texts.TheConstants.{LONGEST_TEXT}
use Rattle.autocoder_statements.proofs.TextLemmas.{length-with_blanks, take-with_blanks, with_blanks_is}
use Rattle.autocoder_statements.proofs.texts.Text.of.Goals as goal

pub invariant_of-result : goal.invariant_of-result
invariant_of-result c = rw c.with_blanks.ensures (c.requires, length-with_blanks LONGEST_TEXT c.args.characters.now c.requires, with_blanks_is LONGEST_TEXT c.args.characters.now)

pub returns : goal.returns
returns c = ap (take (length c.args.characters.now)) c.with_blanks.ensures ∙ take-with_blanks LONGEST_TEXT c.args.characters.now
