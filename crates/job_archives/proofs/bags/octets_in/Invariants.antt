use Rattle.std.proofs.Common.{◌≡◌, length, take}
use Rattle.std.specs.List.{sum_by}
use Rattle.job_archives.specs.declared.archives.BagFile.{BagFile}
use Rattle.job_archives.proofs.bags.octets_in.Given as goal

abbrev pub invariant-loop-file : goal.invariant-loop-file
invariant-loop-file l = l.octets ≡ sum_by (λ (file : BagFile). length file.bytes.now) (take l.file-index l.files)
