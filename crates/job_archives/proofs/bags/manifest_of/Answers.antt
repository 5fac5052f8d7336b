use Rattle.std.proofs.Common.{◌∙◌, ap, flat_map, sym}
use Rattle.std.proofs.lemmas.List.{take_all}
use Rattle.job_archives.specs.Bags.{manifest_line}
use Rattle.job_archives.specs.declared.archives.BagFile.{BagFile}
use Rattle.job_archives.proofs.BagLemmas.{same_manifest}
use Rattle.job_archives.proofs.bags.manifest_of.Goals as goal

pub returns : goal.returns
returns c =
    c.loop-file.invariant ∙ ap (flat_map (λ (file : BagFile). manifest_line file.path.now file.bytes.now)) (take_all c.loop-file.file-index c.args.files.now c.loop-file-test.false)
    ∙ sym (same_manifest c.args.files.now)
