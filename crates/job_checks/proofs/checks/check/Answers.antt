use Rattle.std.proofs.Common.{◌≡◌, ◌↔◌, IfOk, IsNone, Option, subst}
use Rattle.sqlite.specs.Held.{state}
use Rattle.sqlite.specs.Schema.{Schema}
use Rattle.ledger_tables.specs.Schema.{bureau_schema}
use Rattle.job_checks.specs.declared.schemas.SchemaDifference.{SchemaDifference}
use Rattle.job_checks.proofs.ExactLemmas.{checked}
use Rattle.job_checks.proofs.checks.check.Goals as goal

pub returns-clause-exact : goal.returns-clause-exact
returns-clause-exact g c clean =
    let none = subst (λ (schema : Schema). IfOk c.compare_schema-schema.result (λ (it : Option SchemaDifference). IsNone it ↔ (schema ≡ bureau_schema))) c.schema.ensures.value c.compare_schema-schema.ensures.none in
    let told = c.report_walked.ensures in
    checked (state g.S.Store c.args.conn).now c.each_job-walked.result.0 c.compare_schema-schema.result c.report_walked.result (record { alloc = c.args.alloc; reports = c.new.result }) c.each_job-walked.new.each
    (c.each_job-walked.ensures.read clean) none c.new.ensures.items told.orphans told.schema told.jobs
