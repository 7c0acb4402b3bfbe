-- All that is known of the entries at cuts.
-- Towards `CutsShowEntries` (`specs/Parts.antt`).
use Rattle.headline_law.specs.EntriesTied.{CutsKeepEntries, ServersKeepEntries}
use Rattle.headline_law.proofs.EntriesBehindClients.{BehindLaws, clients_keep_tied}
use Rattle.headline_law.proofs.EntriesBehindOthers.{others_keep_tied}
use Rattle.headline_law.proofs.EntriesCuts.{cuts_keep_entries}
use Rattle.headline_law.proofs.EntriesFacts.{FactLaws}
use Rattle.headline_law.proofs.EntriesOthers.{others_keep_entries}
use Rattle.headline_law.proofs.EntriesQuiet.{others_leave_entries}
use Rattle.headline_law.proofs.EntriesResendsMove.{resends_leave_calls, resends_leave_entries}

-- Cuts keep entries, if steps of the server do.
pub entries_are_kept : FactLaws → BehindLaws → ServersKeepEntries → CutsKeepEntries
entries_are_kept laws behind servers =
    cuts_keep_entries laws (clients_keep_tied laws behind) servers
    (others_keep_entries laws.client.reading (others_leave_entries laws.client.reading (resends_leave_entries laws.client))
    (others_keep_tied laws.client.reading behind.one (resends_leave_calls laws.client)))
