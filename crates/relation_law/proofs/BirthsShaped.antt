-- The files that are read off the lines of a history have maps that can be used, and a component for each that the map has.
use Rattle.std.proofs.Common.{◌≡◌, ℕ, Bool, true, false, List, [], ◌∷◌, Option, Some, None, slice_get, refl, sym, subst, arith, if◌then◌else◌}
use Rattle.std.specs.List.{fold}
use Rattle.std.proofs.lemmas.Bool.Decides.{nat_tests}
use Rattle.data_map.specs.declared.check.RawMap.{RawMap}
use Rattle.data_map.specs.Check.{HasAlgorithm, IsChecked}
use Rattle.scenario_text.specs.declared.event.Event.{Event}
use Rattle.scenario_text.specs.declared.event.Event.TheVariants as event
use Rattle.scenario_text.specs.declared.event.Machine.TheVariants as machine
use Rattle.scenario_text.specs.declared.line.Delivery.TheVariants as delivery
use Rattle.scenario_text.specs.declared.line.Party.{Party}
use Rattle.scenario_text.specs.declared.line.Party.TheVariants as party
use Rattle.scenario_text.specs.declared.line.Line.{Line}
use Rattle.scenario_text.specs.declared.line.Line.TheVariants as line
use Rattle.server_rules.specs.Messages.{Message}
use Rattle.server_rules.specs.Envelopes.{message_in}
use Rattle.server_rules.specs.History.{Input, Makes}
use Rattle.world_history.specs.ServerNames.{Server}
use Rattle.world_history.specs.Spelled.{node_of}
use Rattle.world_history.specs.declared.messages.Sent.{Sent}
use Rattle.world_history.specs.Moves.{has_algorithm, raw_of}
use Rattle.world_history.specs.Reading.{Step, steps_of}
use Rattle.world_history.specs.Book.{ServerSeen, made_of, input_of, input_at, heard_from, heard_for, heard, step_by, server_behind, placed_in}
use Rattle.world_history.specs.Calm.{Seen, sees, first_seen, seen, moment_of}
use Rattle.history_law.proofs.Files.{Each, in_at}
use Rattle.exchange_law.proofs.Making.{good_map}
use Rattle.exchange_law.proofs.Shapes.{Shaped, IsOfMade, step_shaped}
use Rattle.file_simulation.specs.Conclusion.{FilesAreShaped}

-- the map of a file and the number of its components
abbrev IsFine : RawMap × ℕ → Type 0
IsFine p = IsChecked p.0 × (p.1 ≡ p.0.comps)

-- ---- what comes to the server

-- a file that is to be made has a map with a parity algorithm
abbrev HasIt : Input → Type 0
HasIt (Makes n m tag zoned) = HasAlgorithm m
HasIt i = Unit {0}

abbrev HaveIt : Option Input → Type 0
HaveIt None = Unit {0}
HaveIt (Some i) = HasIt i

algorithm_in : (m : RawMap) → has_algorithm m ≡ true → HasAlgorithm m
algorithm_in m e = grind (arith, nat_tests, e)

made_has : (f : ℕ) (m : RawMap) (tag : ℕ) (zoned : Bool) → HaveIt (made_of f m tag zoned)
made_has f m tag zoned = by (has_algorithm m) (algorithm_in m)
  where
    by : (b : Bool) → (b ≡ true → HasAlgorithm m) → HaveIt (if b then Some (Makes f m tag zoned) else None)
    by true k = k refl
    by false k = tt

event_has : (e : Event) → HaveIt (input_of e)
event_has (event.File f m tag) = made_has f (raw_of m) tag false
event_has (event.ZonedFile f m tag) = made_has f (raw_of m) tag true
event_has (event.Zone d zone) = tt
event_has (event.Drive d key capacity) = tt
event_has (event.Disk d key capacity) = tt
event_has (event.Format format) = tt
event_has (event.Recall f) = tt
event_has (event.Revoke f) = tt
event_has (event.Rebuild f) = tt
event_has (event.Audit f) = tt
event_has (event.Declare d) = tt
event_has (event.Crash machine.Server) = tt
event_has (event.Reopen machine.Server) = tt
event_has e = tt

from_has : (now : ℕ) (p : Party) (o : Option Message) → HaveIt (heard_from now p o)
from_has now p None = tt
from_has now p (Some x) = tt

for_has : (now : ℕ) (s : Sent) (to : Party) → HaveIt (heard_for now s to)
for_has now s party.Server = from_has now s.from (message_in (node_of s.from) s.bytes)
for_has now s (party.Drive d) = tt
for_has now s (party.Client c) = tt

heard_has : (now : ℕ) (o : Option Sent) → HaveIt (heard now o)
heard_has now None = tt
heard_has now (Some s) = for_has now s s.to

line_has : (s : ServerSeen) (l : Line) → HaveIt (input_at s l)
line_has s (line.Event e) = event_has e
line_has s (line.Delivered number delivery.Deaf) = tt
line_has s (line.Delivered number d) = heard_has s.clock (slice_get s.sent number)
line_has s l = tt

-- so what is made of it is fine
fine_made : (s : Server) (i : Input) → HasIt i → IsOfMade IsFine s i
fine_made s i has n m tag zoned is none =
    let k : HasAlgorithm m = subst HasIt is has in
    ((good_map s n m zoned k none).0, refl)

-- ---- step by step

step_fine : (s : Server) (placed : List ℕ) (o : Option Input) → HaveIt o → Each (Shaped IsFine) s.files
    → Each (Shaped IsFine) (server_behind s (step_by s placed o)).files
step_fine s placed None has all = all
step_fine s placed (Some i) has all = step_shaped IsFine s placed i (fine_made s i has) all

-- the moment has the server that is read, and its files are fine
abbrev Reads : Seen → Type 0
Reads s = (s.moment.server ≡ s.server.server) × Each (Shaped IsFine) s.server.server.files

reads_on : (s : Seen) (t : Step) → Reads s → Reads (sees s t)
reads_on s t h =
    (refl, step_fine s.server.server (placed_in t.rest) (input_at s.server t.head) (line_has s.server t.head) h.1)

reads_all : (s : Seen) (ts : List Step) → Reads s → Reads (fold sees s ts)
reads_all s [] h = h
reads_all s (t ∷ ts) h = reads_all (sees s t) ts (reads_on s t h)

pub fine_all : (h : List Line) → Each (Shaped IsFine) (moment_of h).server.files
fine_all h =
    let r : Reads (seen h) = reads_all first_seen (steps_of h) (refl, λ f i. absurd i) in
    subst (λ (s : Server). Each (Shaped IsFine) s.files) (sym r.0) r.1

pub files_are_shaped : FilesAreShaped
files_are_shaped h lawful text file f at = fine_all h f (in_at (moment_of h).server.files file f at)
