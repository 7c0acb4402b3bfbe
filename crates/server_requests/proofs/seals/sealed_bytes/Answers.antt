use Rattle.std.proofs.Common.{◌∙◌, refl}
use Rattle.server_requests.proofs.SealLaws.{sealed_as, head-taken}
use Rattle.server_requests.proofs.seals.sealed_bytes.Goals as goal

pub returns : goal.returns
returns c =
    sealed_as c.args.drives.now c.args.awaited.now c.key_of_drive.result c.key_of_drive.ensures _
    (c.in_ok-extend_from_slice-2.ensures.ok
    ∙ rw (
      c.in_ok-extend_from_slice.ensures.ok,
      c.check_value-check.ensures,
      c.as_slice.ensures,
      c.as_slice-2.ensures,
      c.as_slice-3.ensures,
      c.truncate.ensures,
      c.in_ok-bytes.ensures.spelled,
      c.check_len-size.ensures,
      head-taken c.args.awaited.now.command,
      c.capability_key-key.ensures.key,
    ) refl)
