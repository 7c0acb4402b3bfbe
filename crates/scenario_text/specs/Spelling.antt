-- What a line of a scenario spells.
use Rattle.std.specs.Prelude.{◌≡◌, ℕ, ⊤, List, [], ◌∷◌, ◌++◌, map, codes, Option, Some, None, Result, Ok, Err}
use Rattle.scenario_text.specs.Words.{words_of, spaced}
use Rattle.scenario_text.specs.Parts.{Part, Fixed, Number, Key, Hex, u32, u64, drive, client, file, server, word_of}
use Rattle.scenario_text.specs.Parts.{AllFit}
use Rattle.scenario_text.specs.Spells.{SpellAll}
use Rattle.scenario_text.specs.declared.hexadecimal.Digits.TheVariants.{Either}
use Rattle.scenario_text.specs.declared.event.Event.{Event}
use Rattle.scenario_text.specs.declared.event.Event.TheVariants as event
use Rattle.scenario_text.specs.declared.event.EventErr.{EventErr}
use Rattle.scenario_text.specs.declared.event.EventErr.TheVariants.{Memory}
use Rattle.scenario_text.specs.declared.event.Call.{Call}
use Rattle.scenario_text.specs.declared.event.Call.TheVariants as call
use Rattle.scenario_text.specs.declared.event.Sender.{Sender}
use Rattle.scenario_text.specs.declared.event.Sender.TheVariants as sender
use Rattle.scenario_text.specs.declared.event.Machine.{Machine}
use Rattle.scenario_text.specs.declared.event.Machine.TheVariants as machine
use Rattle.scenario_text.specs.declared.event.FileMap.{FileMap}

-- ---- the parts of an event

abbrev pub call_parts : Call → List Part
call_parts (call.Write f offset bytes) = Fixed (codes "write") ∷ file f ∷ u64 offset ∷ Hex bytes ∷ []
call_parts (call.Read f offset len) = Fixed (codes "read") ∷ file f ∷ u64 offset ∷ u64 len ∷ []

abbrev pub map_parts : FileMap → List Part
map_parts m = u32 m.components ∷ u64 m.unit ∷ u32 m.width ∷ u32 m.depth ∷ u32 m.mirrors ∷ Number 1 4 m.algorithm ∷ []

-- a policy access tag, from 1
abbrev pub tag : ℕ → Part
tag n = Number 1 4294967295 n

-- a capability format
abbrev pub format : ℕ → Part
format n = Number 1 2 n

abbrev pub sender_part : Sender → Part
sender_part (sender.Client c) = client c
sender_part sender.Server = server

abbrev pub machine_part : Machine → Part
machine_part (machine.Drive d) = drive d
machine_part machine.Server = server

abbrev pub drive_parts : ℕ → List ℕ → ℕ → List Part
drive_parts d key capacity = drive d ∷ Key key ∷ u64 capacity ∷ []

abbrev pub file_parts : ℕ → FileMap → ℕ → List Part
file_parts f m t = file f ∷ (map_parts m ++ tag t ∷ [])

abbrev pub event_parts : Event → List Part
event_parts (event.Drive d key capacity) = Fixed (codes "drive") ∷ drive_parts d key capacity
event_parts (event.Disk d key capacity) = Fixed (codes "disk") ∷ drive_parts d key capacity
event_parts (event.Client c) = Fixed (codes "client") ∷ client c ∷ []
event_parts (event.File f m t) = Fixed (codes "file") ∷ file_parts f m t
event_parts (event.ZonedFile f m t) = Fixed (codes "zfile") ∷ file_parts f m t
event_parts (event.Zone d z) = Fixed (codes "zone") ∷ drive d ∷ u32 z ∷ []
event_parts (event.Least d n) = Fixed (codes "least") ∷ drive d ∷ format n ∷ []
event_parts (event.Format n) = Fixed (codes "format") ∷ server ∷ format n ∷ []
event_parts (event.Do c what) = Fixed (codes "do") ∷ client c ∷ call_parts what
event_parts (event.Call c what) = Fixed (codes "call") ∷ client c ∷ call_parts what
event_parts (event.Deliver n) = Fixed (codes "deliver") ∷ u64 n ∷ []
event_parts (event.DropMessage n) = Fixed (codes "drop") ∷ u64 n ∷ []
event_parts event.Settle = Fixed (codes "settle") ∷ []
event_parts (event.Resend who) = Fixed (codes "resend") ∷ sender_part who ∷ []
event_parts (event.Timeout c k) = Fixed (codes "timeout") ∷ client c ∷ u32 k ∷ []
event_parts (event.Leave c) = Fixed (codes "leave") ∷ client c ∷ []
event_parts (event.Inject d bytes) = Fixed (codes "inject") ∷ drive d ∷ Hex bytes ∷ []
event_parts (event.Clock who time) = Fixed (codes "clock") ∷ machine_part who ∷ u64 time ∷ []
event_parts (event.Recall f) = Fixed (codes "recall") ∷ file f ∷ []
event_parts (event.Revoke f) = Fixed (codes "revoke") ∷ file f ∷ []
event_parts (event.Rebuild f) = Fixed (codes "rebuild") ∷ file f ∷ []
event_parts (event.Audit f) = Fixed (codes "audit") ∷ file f ∷ []
event_parts (event.Declare d) = Fixed (codes "declare") ∷ drive d ∷ []
event_parts (event.Stop c) = Fixed (codes "stop") ∷ client c ∷ []
event_parts (event.Fail d) = Fixed (codes "fail") ∷ drive d ∷ []
event_parts (event.Crash who) = Fixed (codes "crash") ∷ machine_part who ∷ []
event_parts (event.Reopen who) = Fixed (codes "reopen") ∷ machine_part who ∷ []

-- an event that a line can spell: each part is in the range of its place
abbrev pub Fits : Event → Type 0
Fits e = AllFit (event_parts e)

-- a line of a scenario spells an event: its words say the event's parts, with bytes in digits of either case
abbrev pub Spells : Event → List ℕ → Type 0
Spells e line = SpellAll Either (event_parts e) (words_of line)

-- a line without an event: it is empty, or begins with `#`
abbrev pub IsSkipped : List ℕ → Type 0
IsSkipped [] = ⊤
IsSkipped (b ∷ rest) = b ≡ 35

-- an answer of `read_event` for a line that spells an event
abbrev pub GivesEvent : Event → Result (Option Event) EventErr → Type 0
GivesEvent e (Ok None) = ⊥
GivesEvent e (Ok (Some x)) = x ≡ e
GivesEvent e (Err Memory) = ⊤
GivesEvent e (Err other) = ⊥

-- the spelling of an event with lower-case digits
abbrev pub event_text : Event → List ℕ
event_text e = spaced (map word_of (event_parts e))
