-- What comes to the server at a line by which no drive is declared.
use Rattle.std.proofs.Common.{◌≡◌, ℕ, ◌≤◌, ◌&&◌, Bool, true, false, Option, Some, None, arith, refl, sym, ap, ◌∙◌, slice_get, nat_le, if◌then◌else◌}
use Rattle.std.proofs.lemmas.Bool.Decides.{nat_tests}
use Rattle.data_map.specs.declared.check.RawMap.{RawMap}
use Rattle.data_map.specs.declared.check.TheConstants.{RAID_0, RAID_PQ}
use Rattle.data_map.specs.Check.{HasAlgorithm}
use Rattle.scenario_text.specs.declared.event.Event.{Event}
use Rattle.scenario_text.specs.declared.event.Event.TheVariants as event
use Rattle.scenario_text.specs.declared.event.Machine.TheVariants as machine
use Rattle.scenario_text.specs.declared.line.Delivery.TheVariants as delivery
use Rattle.scenario_text.specs.declared.line.Party.{Party}
use Rattle.scenario_text.specs.declared.line.Party.TheVariants as party
use Rattle.scenario_text.specs.declared.line.Line.{Line}
use Rattle.scenario_text.specs.declared.line.Line.TheVariants as line
use Rattle.server_rules.specs.declared.server.Server.{Server}
use Rattle.server_rules.specs.Messages.{Message, counters_have_room}
use Rattle.server_rules.specs.History.{Input, Hears, Makes, Obeys, Adds, Zones, Formats, Resends, Crashes, Opens}
use Rattle.world_history.specs.declared.messages.Sent.{Sent}
use Rattle.world_history.specs.Moves.{raw_of, has_algorithm}
use Rattle.world_history.specs.Book.{ServerSeen, heard_from, heard_for, heard, input_of, input_at}
use Rattle.component_law.specs.Going.{declared_in, if_known, taken_out}

-- ---- a file that is made has an algorithm

made_alg_if : (b : Bool) (f n : ℕ) (m k : RawMap) (tag t : ℕ) (zoned z : Bool) → has_algorithm m ≡ b
    → (if b then Some (Makes f m tag zoned) else None) ≡ Some (Makes n k t z) → has_algorithm k ≡ true
made_alg_if true f n m k tag t zoned z is e =
    let same : m ≡ k = cc e in
    ap has_algorithm (sym same) ∙ is
made_alg_if false f n m k tag t zoned z is e = absurd (cc e)

event_alg : (v : Event) (n : ℕ) (m : RawMap) (tag : ℕ) (zoned : Bool) → input_of v ≡ Some (Makes n m tag zoned)
    → has_algorithm m ≡ true
event_alg (event.File f x t) n m tag zoned e =
    made_alg_if (has_algorithm (raw_of x)) f n (raw_of x) m t tag false zoned refl e
event_alg (event.ZonedFile f x t) n m tag zoned e =
    made_alg_if (has_algorithm (raw_of x)) f n (raw_of x) m t tag true zoned refl e
event_alg (event.Crash (machine.Drive d)) n m tag zoned e = absurd (cc e)
event_alg (event.Crash machine.Server) n m tag zoned e = absurd (cc e)
event_alg (event.Reopen (machine.Drive d)) n m tag zoned e = absurd (cc e)
event_alg (event.Reopen machine.Server) n m tag zoned e = absurd (cc e)
event_alg v n m tag zoned e = absurd (cc e)

from_none : (now : ℕ) (from : Party) (o : Option Message) (n : ℕ) (m : RawMap) (tag : ℕ) (zoned : Bool)
    → heard_from now from o ≡ Some (Makes n m tag zoned) → ⊥
from_none now from None n m tag zoned e = cc e
from_none now from (Some x) n m tag zoned e = cc e

for_none : (now : ℕ) (s : Sent) (to : Party) (n : ℕ) (m : RawMap) (tag : ℕ) (zoned : Bool)
    → heard_for now s to ≡ Some (Makes n m tag zoned) → ⊥
for_none now s party.Server n m tag zoned e = from_none now s.from _ n m tag zoned e
for_none now s (party.Drive d) n m tag zoned e = cc e
for_none now s (party.Client c) n m tag zoned e = cc e

heard_none : (now : ℕ) (o : Option Sent) (n : ℕ) (m : RawMap) (tag : ℕ) (zoned : Bool)
    → heard now o ≡ Some (Makes n m tag zoned) → ⊥
heard_none now None n m tag zoned e = cc e
heard_none now (Some s) n m tag zoned e = for_none now s s.to n m tag zoned e

line_alg : (s : ServerSeen) (l : Line) (n : ℕ) (m : RawMap) (tag : ℕ) (zoned : Bool)
    → input_at s l ≡ Some (Makes n m tag zoned) → has_algorithm m ≡ true
line_alg s (line.Event v) n m tag zoned e = event_alg v n m tag zoned e
line_alg s (line.Delivered number delivery.Deaf) n m tag zoned e = absurd (cc e)
line_alg s (line.Delivered number delivery.Taken) n m tag zoned e =
    absurd (heard_none s.clock (slice_get s.sent number) n m tag zoned e)
line_alg s (line.Delivered number (delivery.Judged v)) n m tag zoned e =
    absurd (heard_none s.clock (slice_get s.sent number) n m tag zoned e)
line_alg s l n m tag zoned e = absurd (cc e)

both : (a : ℕ) → (nat_le RAID_0 a && nat_le a RAID_PQ) ≡ true → (RAID_0 ≤ a) × (a ≤ RAID_PQ)
both a e = (grind (arith, nat_tests, e), grind (arith, nat_tests, e))

pub made_algorithm : (s : ServerSeen) (l : Line) (n : ℕ) (m : RawMap) (tag : ℕ) (zoned : Bool)
    → input_at s l ≡ Some (Makes n m tag zoned) → HasAlgorithm m
made_algorithm s l n m tag zoned e = both m.algorithm (line_alg s l n m tag zoned e)

-- ---- no drive is taken out

room_none : (b : Bool) (s : Server) (o : Option ℕ) → o ≡ None → (if b then if_known s o else None) ≡ None
room_none true s o e = ap (if_known s) e
room_none false s o e = refl

pub out_none : (s : Server) (i : Input) → declared_in i ≡ None → taken_out s i ≡ None
out_none s (Hears now from m) e = room_none (counters_have_room s) s (declared_in (Hears now from m)) e
out_none s (Makes n m tag zoned) e = ap (if_known s) e
out_none s (Obeys k n) e = ap (if_known s) e
out_none s (Adds d) e = ap (if_known s) e
out_none s (Zones d zone) e = ap (if_known s) e
out_none s (Formats n) e = ap (if_known s) e
out_none s Resends e = ap (if_known s) e
out_none s Crashes e = ap (if_known s) e
out_none s Opens e = ap (if_known s) e
