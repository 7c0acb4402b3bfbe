-- The history of a run of a cluster: the lines of its steps, in order.
use Rattle.std.specs.Prelude.{◌≡◌, ℕ, true, false, ◌+◌, List, [], ◌∷◌, ◌++◌, length, slice_get}
use Rattle.server_rules.specs.Making.{add_drive, create_file, set_format}
use Rattle.server_rules.specs.Messages.{resend}
use Rattle.server_rules.specs.Openings.{crash, reopen}
use Rattle.server_rules.specs.Files.{still}
use Rattle.client_rules.specs.Steps.{calls, new_client}
use Rattle.client_rules.specs.History as client_input
use Rattle.scenario_text.specs.declared.event.Event.TheVariants as event
use Rattle.scenario_text.specs.declared.event.Machine.TheVariants as machine
use Rattle.scenario_text.specs.declared.event.Sender.TheVariants as sender
use Rattle.scenario_text.specs.declared.line.Line.{Line}
use Rattle.scenario_text.specs.declared.line.Line.TheVariants as line
use Rattle.world_history.specs.declared.messages.Message.{Message}
use Rattle.world_history.specs.State.{at_number}
use Rattle.world_history.specs.Moves.{known_drive}
use Rattle.world_history.specs.Sending.{sent_line}
use Rattle.cluster_history.specs.State.{Cluster, and_drive, and_client, with_client}
use Rattle.cluster_history.specs.Steps.{Step, May, Knows, Raises, Makes, Hears, Obeys, Passes, Resends, Crashes, Opens, Takes, IsHit, Falls, Rises, IsLost, Begins, Calls, Learns, Misses, Leaves, SendsAgain, Ends}
use Rattle.cluster_history.specs.Deeds.{Deed, rests, changes, served, hears, obeys, makes, fresh_drive, takes_found, hit_found, turned, fallen, risen, lost, goes, called, learns_found, at_client}

-- ---- a step

-- what it comes to
unfoldable pub deed : Cluster → Step → Deed
deed k (Knows d key capacity) =
    changes (record (and_drive k d (fresh_drive d key capacity)) {
      server = record k.server { drives = add_drive k.server.drives (known_drive d key capacity) };
    }) (event.Disk d key capacity)
deed k (Raises format) = changes (record k { server = set_format k.server format }) (event.Format format)
deed k (Makes chosen f m) = makes k f m (create_file k.server f m 1 false chosen)
deed k (Hears time chosen n) = hears k time chosen n (slice_get k.sent n)
deed k (Obeys time chosen o) = obeys k time chosen o
deed k (Passes time chosen from bytes) = rests k
deed k Resends =
    served k (line.Event (event.Resend sender.Server) ∷ []) (record (still k.server) { sends = resend k.server })
deed k Crashes = changes (record k { server = crash k.server; up = false }) (event.Crash machine.Server)
deed k Opens =
    served (record k { up = true }) (line.Event (event.Reopen machine.Server) ∷ []) (reopen k.server)
deed k (Takes d time n) = takes_found k d time n (at_number k.drives d) (slice_get k.sent n)
deed k (IsHit d time bytes) = hit_found k d time bytes (at_number k.drives d)
deed k (Falls d) = turned k d fallen (event.Crash (machine.Drive d)) (at_number k.drives d)
deed k (Rises d) = turned k d risen (event.Reopen (machine.Drive d)) (at_number k.drives d)
deed k (IsLost d) = turned k d lost (event.Fail d) (at_number k.drives d)
deed k (Begins c) = changes (and_client k c (record { state = new_client c 1; left = false })) (event.Client c)
deed k (Calls c op) = at_client k (λ h. called k c h op (calls h.state op)) (at_number k.clients c)
deed k (Learns c n) = at_client k (λ h. learns_found k c n h (slice_get k.sent n)) (at_number k.clients c)
deed k (Misses c component) =
    at_client k (λ h. goes k c h (client_input.TimesOut component)
    (line.Event (event.Timeout c component) ∷ line.TimedOut c component ∷ [])) (at_number k.clients c)
deed k (Leaves c) =
    at_client k (λ h. goes k c h client_input.Leaves (line.Event (event.Leave c) ∷ [])) (at_number k.clients c)
deed k (SendsAgain c) =
    at_client k (λ h. goes k c h client_input.Resends (line.Event (event.Resend (sender.Client c)) ∷ [])) (at_number k.clients c)
deed k (Ends c) =
    at_client k (λ h. changes (with_client k c (record h { left = true })) (event.Stop c)) (at_number k.clients c)

-- ---- messages

-- the lines of messages, from a number on
unfoldable pub message_lines : (number : ℕ) → List Message → List Line
message_lines n [] = []
message_lines n (m ∷ ms) = sent_line n m ∷ message_lines (n + 1) ms

-- the cluster with all that was given to send
abbrev pub sending : Deed → Cluster
sending d = record d.cluster { sent = d.cluster.sent ++ d.gives }

-- all lines of it
abbrev pub lines_of : Deed → List Line
lines_of d = d.lines ++ (message_lines (length d.cluster.sent) d.gives ++ d.behind)

-- the cluster after a step, and the lines that tell of it
abbrev pub after : Cluster → Step → Cluster
after k s = sending (deed k s)

abbrev pub told : Cluster → Step → List Line
told k s = lines_of (deed k s)

-- ---- a run

-- each step may be where it comes
abbrev pub AreSteps : Cluster → List Step → Type 0
AreSteps k [] = Unit {0}
AreSteps k (s ∷ steps) = May k s × AreSteps (after k s) steps

-- the cluster after all of them
abbrev pub cluster_after : Cluster → List Step → Cluster
cluster_after k [] = k
cluster_after k (s ∷ steps) = cluster_after (after k s) steps

-- and the lines of all of them
abbrev pub history_of : Cluster → List Step → List Line
history_of k [] = []
history_of k (s ∷ steps) = told k s ++ history_of (after k s) steps
