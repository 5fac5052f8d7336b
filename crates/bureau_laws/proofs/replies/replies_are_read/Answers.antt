use Rattle.bureau_laws.proofs.ReplyLaw.{machine_in_storage, reads_failed_queue, reads_failed_slice, reads_foreign_queue, reads_foreign_slice, reads_jobs, reads_queue, reads_ran, reads_refusal, reads_standing, reply_answered, reply_responded}
use Rattle.bureau_laws.proofs.replies.replies_are_read.Goals as goal

pub returns : goal.returns
returns c = record {
  response = reply_responded;
  one = reply_answered;
  queue = reads_queue;
  ran = reads_ran;
  refused = reads_refusal;
  failed = reads_failed_slice;
  no_queue = reads_failed_queue;
  foreign = reads_foreign_slice;
  foreign_queue = reads_foreign_queue;
  standing = reads_standing;
  jobs = reads_jobs;
  in_storage = machine_in_storage;
}
