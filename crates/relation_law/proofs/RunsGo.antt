-- A move of a client keeps a run of the machine calm, also where it is cut.
use Rattle.std.specs.Prelude.{take}
use Rattle.file_simulation.specs.Events.{joined, events_of}
use Rattle.relation_law.specs.Frames.{IsOfClient}
use Rattle.relation_law.specs.Steps.{owed}
use Rattle.relation_law.proofs.FramesParties.{by_client_lines}
use Rattle.relation_law.proofs.FramesStay.{all_joined, lines_taken}
use Rattle.relation_law.specs.Runs.{ClientsKeepRuns}
use Rattle.relation_law.proofs.CalmRuns.{client_run}

pub clients_keep_runs : ClientsKeepRuns
clients_keep_runs w h m count f g s k j goes lawful =
    client_run j.client s k.run (joined (take count (events_of s w (owed k.related) f m)))
    (all_joined (IsOfClient j.client) (take count (events_of s w (owed k.related) f m))
    (lines_taken (IsOfClient j.client) count (events_of s w (owed k.related) f m)
    (by_client_lines s w (owed k.related) f m j goes))) lawful
