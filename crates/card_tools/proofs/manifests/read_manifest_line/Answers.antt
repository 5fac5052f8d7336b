use Rattle.std.proofs.Common.{sym, ◌∙◌, refl}
use Rattle.card_tools.proofs.ManifestFields.{no_digest, no_field}
use Rattle.card_tools.proofs.manifests.read_manifest_line.Goals as goal

pub returns-in_default-clause-missing : goal.returns-in_default-clause-missing
returns-in_default-clause-missing c _ digest name entry =
    no_field c.args.line.now digest name (c.in_default.ensures.none refl) entry

pub returns-then-not-may_be_digest-clause-missing : goal.returns-then-not-may_be_digest-clause-missing
returns-then-not-may_be_digest-clause-missing c _ digest name entry =
    no_digest c.args.line.now c.in-Some.digest.now c.in-Some.label.now digest name c.in-Some.ensures.field
    (sym c.may_be_digest.ensures ∙ c.if-not-may_be_digest.true) entry

pub returns-clause-found : goal.returns-clause-found
returns-clause-found c = record {
  label = c.in-Some.label.now;
  line_is = c.in-Some.ensures.field.1;
  digest_is = sym c.may_be_digest.ensures ∙ c.if-not-may_be_digest.false;
  name_is = c.name_in.ensures;
}
