use Rattle.std.proofs.Common.{◌≡◌, flat_map, take}
use Rattle.job_archives.specs.Bags.{manifest_line}
use Rattle.job_archives.specs.declared.archives.BagFile.{BagFile}
use Rattle.job_archives.proofs.bags.manifest_of.Given as goal

abbrev pub invariant-loop-file : goal.invariant-loop-file
invariant-loop-file l = l.out.items ≡ flat_map (λ (file : BagFile). manifest_line file.path.now file.bytes.now) (take l.file-index l.files)
