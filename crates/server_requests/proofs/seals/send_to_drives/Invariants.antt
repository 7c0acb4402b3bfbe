use Rattle.std.proofs.Common.{◌≡◌, ◌++◌, drop}
use Rattle.server_rules.specs.Files.{to_drives}
use Rattle.server_requests.specs.Sending.{all_sent}
use Rattle.server_requests.proofs.seals.send_to_drives.Given as goal

abbrev pub invariant-loop-command : goal.invariant-loop-command
invariant-loop-command l =
    l.sends ++ all_sent (to_drives l.fn.drives (drop l.command-index l.fn.commands)) ≡ l.fn.sends ++ all_sent
    (to_drives l.fn.drives l.fn.commands)
