-- A record carries each reply.
use Rattle.std.proofs.Common.{◌≤◌, length, arith}
use Rattle.std.proofs.lemmas.List.{length-append}
use Rattle.osd_bytes.specs.declared.records.TheConstants.{MAX_RECORD}
use Rattle.osd_commands.specs.declared.replies.Reply.{Reply}
use Rattle.osd_commands.specs.Replies.{fields, spelling}
use Rattle.osd_drive.specs.declared.limits.TheConstants.{MAX_LENGTH}

pub spelled-short : (r : Reply) → length r.payload ≤ MAX_LENGTH → length (spelling r) ≤ MAX_RECORD
unfolding spelling fields
spelled-short r short = rw length-append (omega (arith, short))
