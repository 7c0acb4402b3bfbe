-- Which part of the code an event is for.
use Rattle.std.specs.Prelude.{Bool, true, false}
use Rattle.scenario_text.specs.declared.event.Event.{Event}
use Rattle.scenario_text.specs.declared.event.Event.TheVariants as event

-- it needs no placer, and no part of the code that is for crashes and openings
abbrev pub is_plain : Event → Bool
is_plain (event.Deliver number) = false
is_plain (event.File f m tag) = false
is_plain (event.ZonedFile f m tag) = false
is_plain (event.Recall f) = false
is_plain (event.Revoke f) = false
is_plain (event.Rebuild f) = false
is_plain (event.Audit f) = false
is_plain (event.Declare d) = false
is_plain (event.Crash m) = false
is_plain (event.Reopen m) = false
is_plain e = true

-- nothing is told and nothing sent
abbrev pub is_change : Event → Bool
is_change (event.Deliver number) = false
is_change (event.File f m tag) = false
is_change (event.ZonedFile f m tag) = false
is_change (event.Recall f) = false
is_change (event.Revoke f) = false
is_change (event.Rebuild f) = false
is_change (event.Audit f) = false
is_change (event.Declare d) = false
is_change (event.Crash m) = false
is_change (event.Reopen m) = false
is_change (event.Drive d key capacity) = false
is_change (event.Disk d key capacity) = false
is_change (event.Zone d zone) = false
is_change (event.Client c) = false
is_change (event.Inject d bytes) = false
is_change (event.Do c x) = false
is_change (event.Call c x) = false
is_change (event.Timeout c component) = false
is_change (event.Leave c) = false
is_change (event.Resend s) = false
is_change (event.Format format) = false
is_change e = true
