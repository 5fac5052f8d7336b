use Rattle.office.proofs.SourceLaw.{source_run_whole}
use Rattle.office.proofs.laws.sources_run_as_programs.Goals as goal

pub returns : goal.returns
returns c job can between halted =
    source_run_whole c.programs_run_from_their_start.ensures c.faultless_sources_can_be_loaded.ensures job can (c.grants_are_whole_runs.ensures job between halted)
