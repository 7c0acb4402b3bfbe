use Rattle.std.proofs.Common.{◌≡◌, ◌++◌}
use Rattle.server_requests.specs.Sending.{all_sent}
use Rattle.server_state.specs.Tables.{files_in}
use Rattle.layout_server.specs.Resending.{resent}
use Rattle.layout_server.proofs.resends.resend_all.Given as goal

abbrev pub invariant-loop-file : goal.invariant-loop-file
invariant-loop-file l =
    l.sends ++ all_sent (resent l.fn.drives (files_in l.file-iterator)) ≡ l.fn.sends ++ all_sent
    (resent l.fn.drives (files_in l.files.entries))
