use Rattle.std.proofs.Common.{◌≡◌, ◌∙◌, ap, append_assoc, take}
use Rattle.osd_commands.specs.Commands.{head, spelling, reading, check_len}
use Rattle.osd_commands.proofs.Writing.{head-cut}
use Rattle.osd_commands.proofs.CommandLaws.{reading-command}
use Rattle.osd_commands.proofs.commands.write_command.Goals as goal

pub returns : goal.returns
unfolding spelling
returns c =
    let command = c.args.c.now in
    let size = check_len command.capability.format in
    let first = c.in_ok-extend_from_slice.ensures.ok in
    let second = c.in_ok-extend_from_slice-2.ensures.ok in
    let third = c.in_ok-extend_from_slice-3.ensures.ok in
    let spelled : c.extend_from_slice-3.new.self ≡ spelling command =
    third ∙ rw (
      c.as_slice.ensures,
      second,
      first,
      c.in_ok-bytes.ensures,
      c.check_len-size.ensures,
      c.head_of.ensures.written,
      head-cut command,
    ) (append_assoc (head command) (take size command.check) command.payload) in
    record {
      spelled = spelled;
      read_back = λ whole. ap reading spelled ∙ reading-command command (c.head_of.ensures.fits whole);
    }
