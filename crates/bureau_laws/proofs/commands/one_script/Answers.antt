use Rattle.bureau_laws.proofs.ScriptLaw.{not_both, not_neither, one_fault, same_script}
use Rattle.bureau_laws.proofs.commands.one_script.Goals as goal

pub returns : goal.returns
returns c = record { same = same_script; one_fault = one_fault; not_both = not_both; not_neither = not_neither }
