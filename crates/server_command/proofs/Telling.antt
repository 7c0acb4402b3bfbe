-- What was told until the serving stopped.
use Rattle.std.proofs.Common.{◌≡◌, ℕ, List, [], Err, Option, inr, refl}
use Rattle.std.specs.Io.KnownBytes.{Appends}
use Rattle.osd_bytes.specs.Asking.{Ends}
use Rattle.cluster_text.specs.Lines.{listening_line}
use Rattle.server_command.specs.Ends.{StopsCore}
use Rattle.server_command.specs.GoesOn.{Breaks, EndsServing}
use Rattle.server_command.specs.ServerStops.{stop_of_serving}
use Rattle.server_command.specs.declared.metadata_server.MetadataServer.{Ghosts}
use Rattle.server_command.specs.declared.serve_err.ServerServeErr.{ServerServeErr}
use Rattle.server_command.specs.declared.serve_err.ServerServeErr.TheVariants.{DiskFault, LinkFault, Memory}
use Rattle.server_command.specs.declared.server_stop.ServerStop.TheVariants as stop
use Rattle.server_command.proofs.KeptLaws.{cuts_as, cuts_here}

pub stopped_serving : {H : Type 0} (s : Ghosts H) (connections : ℕ) (old new : H) (before now : Ends)
    (taken_before taken : Option (List ℕ)) (failed_before failed : ℕ) (e : ServerServeErr)
    → Appends taken_before taken listening_line → EndsServing s connections old new before now (Err e)
    → Breaks s (stop_of_serving e ≡ stop.DiskFault) old new (λ had served unserved. StopsCore connections (s.server old)
    (s.server new) had served unserved before now taken_before taken failed_before failed (stop_of_serving e))
stopped_serving s connections old new before now taken_before taken failed_before failed LinkFault told ends = λ had.
    let x = ends had in (x.0, [], (told, refl, x.1), cuts_here s _ had x.0 old new x.2 (λ e. cc e))
stopped_serving s connections old new before now taken_before taken failed_before failed DiskFault told ends = λ had.
    let x = ends had in (x.0, x.1, (told, x.2), cuts_as s _ _ had x.0 x.1 old new (λ e. refl) x.3)
stopped_serving s connections old new before now taken_before taken failed_before failed Memory told ends = λ had.
    let x = ends had in (x.0, x.1, inr (told, x.2), cuts_as s _ _ had x.0 x.1 old new (λ e. absurd (cc e)) x.3)
