-- The text of a line of a transcript.
use Rattle.std.specs.Prelude.{◌≡◌, ℕ, Bool, true, false, ⊤, List, [], ◌∷◌, ◌++◌, map, codes}
use Rattle.std.specs.List.{flat_map}
use Rattle.scenario_text.specs.Words.{spaced}
use Rattle.scenario_text.specs.Parts.{Part, Fixed, Hex, Positions, u32, u64, drive, client, file, server, word_of}
use Rattle.scenario_text.specs.Parts.{AllFit}
use Rattle.scenario_text.specs.Spelling.{Fits, Spells, event_parts}
use Rattle.scenario_text.specs.declared.event.Event.{Event}
use Rattle.scenario_text.specs.declared.line.Line.{Line}
use Rattle.scenario_text.specs.declared.line.Line.TheVariants as line
use Rattle.scenario_text.specs.declared.line.Party.{Party}
use Rattle.scenario_text.specs.declared.line.Party.TheVariants as party
use Rattle.scenario_text.specs.declared.line.Verdict.{Verdict}
use Rattle.scenario_text.specs.declared.line.Verdict.TheVariants as verdict
use Rattle.scenario_text.specs.declared.line.Delivery.{Delivery}
use Rattle.scenario_text.specs.declared.line.Delivery.TheVariants as delivery
use Rattle.scenario_text.specs.declared.line.CallKind.{CallKind}
use Rattle.scenario_text.specs.declared.line.CallKind.TheVariants as kind
use Rattle.scenario_text.specs.declared.line.LayoutFault.{LayoutFault}
use Rattle.scenario_text.specs.declared.line.LayoutFault.TheVariants as layout
use Rattle.scenario_text.specs.declared.line.Ending.{Ending}
use Rattle.scenario_text.specs.declared.line.Ending.TheVariants as ending
use Rattle.scenario_text.specs.declared.line.Outcome.{Outcome}
use Rattle.scenario_text.specs.declared.line.Outcome.TheVariants as outcome
use Rattle.scenario_text.specs.declared.line.Refusal.{Refusal}
use Rattle.scenario_text.specs.declared.line.Refusal.TheVariants as refusal
use Rattle.scenario_text.specs.declared.line.MapFault.{MapFault}
use Rattle.scenario_text.specs.declared.line.MapFault.TheVariants as map_fault
use Rattle.scenario_text.specs.declared.line.Note.{Note}
use Rattle.scenario_text.specs.declared.line.Note.TheVariants as note

-- ---- words

abbrev pub party_part : Party → Part
party_part (party.Drive d) = drive d
party_part (party.Client c) = client c
party_part party.Server = server

abbrev pub kind_word : CallKind → List ℕ
kind_word kind.Write = codes "write"
kind_word kind.Read = codes "read"

abbrev pub layout_fault_word : LayoutFault → List ℕ
layout_fault_word layout.Unreadable = codes "Unreadable"
layout_fault_word layout.Index = codes "Index"
layout_fault_word layout.Partial = codes "Partial"
layout_fault_word layout.Ssv = codes "Ssv"
layout_fault_word layout.Map = codes "Map"
layout_fault_word layout.Credential = codes "Credential"

abbrev pub map_fault_word : MapFault → List ℕ
map_fault_word map_fault.Unit = codes "Unit"
map_fault_word map_fault.TooMany = codes "TooMany"
map_fault_word map_fault.TooFew = codes "TooFew"
map_fault_word map_fault.Multiple = codes "Multiple"
map_fault_word map_fault.Width = codes "Width"
map_fault_word map_fault.Depth = codes "Depth"

abbrev pub refusal_word : Refusal → List ℕ
refusal_word refusal.Busy = codes "busy"
refusal_word refusal.BadRange = codes "badrange"
refusal_word refusal.SlotSpent = codes "slotspent"

abbrev pub yes_or_no : Bool → List ℕ
yes_or_no true = codes "yes"
yes_or_no false = codes "no"

-- ---- verdicts, outcomes and notes

abbrev pub verdict_parts : Verdict → List Part
verdict_parts verdict.Perform = Fixed (codes "perform") ∷ []
verdict_parts verdict.Again = Fixed (codes "again") ∷ []
verdict_parts verdict.NoKey = Fixed (codes "nokey") ∷ []
verdict_parts verdict.CheckValue = Fixed (codes "checkvalue") ∷ []
verdict_parts verdict.Expired = Fixed (codes "expired") ∷ []
verdict_parts verdict.Rights = Fixed (codes "rights") ∷ []
verdict_parts verdict.WrongObject = Fixed (codes "wrongobject") ∷ []
verdict_parts verdict.Range = Fixed (codes "range") ∷ []
verdict_parts verdict.NoObject = Fixed (codes "noobject") ∷ []
verdict_parts verdict.Exists = Fixed (codes "exists") ∷ []
verdict_parts (verdict.Tag n) = Fixed (codes "tag") ∷ u32 n ∷ []
verdict_parts verdict.Limit = Fixed (codes "limit") ∷ []
verdict_parts (verdict.NoSpace n) = Fixed (codes "nospace") ∷ u64 n ∷ []
verdict_parts verdict.LaneFull = Fixed (codes "lanefull") ∷ []
verdict_parts (verdict.Stale n) = Fixed (codes "stale") ∷ u64 n ∷ []
verdict_parts verdict.AttrFull = Fixed (codes "attrfull") ∷ []
verdict_parts verdict.Format = Fixed (codes "format") ∷ []
verdict_parts verdict.OldFormat = Fixed (codes "oldformat") ∷ []

abbrev pub delivery_parts : Delivery → List Part
delivery_parts delivery.Deaf = Fixed (codes "deaf") ∷ []
delivery_parts delivery.Taken = Fixed (codes "taken") ∷ []
delivery_parts (delivery.Judged v) = verdict_parts v

abbrev pub ending_parts : Ending → List Part
ending_parts ending.NoFile = Fixed (codes "nofile") ∷ []
ending_parts (ending.Held c) = Fixed (codes "held") ∷ client c ∷ []
ending_parts (ending.Fencing k) = Fixed (codes "fencing") ∷ u32 k ∷ []
ending_parts (ending.Degraded k) = Fixed (codes "degraded") ∷ u32 k ∷ []
ending_parts ending.Spent = Fixed (codes "spent") ∷ []
ending_parts (ending.Status status detail) = Fixed (codes "status") ∷ u32 status ∷ u32 detail ∷ []
ending_parts (ending.Refused d v) = Fixed (codes "refused") ∷ drive d ∷ verdict_parts v
ending_parts (ending.Silent k) = Fixed (codes "silent") ∷ u32 k ∷ []
ending_parts (ending.Lost ps) = Fixed (codes "lost") ∷ Positions ps ∷ []
ending_parts (ending.BadLayout why) = Fixed (codes "badlayout") ∷ Fixed (layout_fault_word why) ∷ []
ending_parts ending.Pending = Fixed (codes "pending") ∷ []

abbrev pub outcome_parts : Outcome → List Part
outcome_parts (outcome.WriteOk len) = Fixed (codes "write") ∷ Fixed (codes "ok") ∷ u64 len ∷ []
outcome_parts (outcome.ReadOk bytes) = Fixed (codes "read") ∷ Fixed (codes "ok") ∷ Hex bytes ∷ []
outcome_parts (outcome.Failed call how) = Fixed (kind_word call) ∷ ending_parts how

abbrev pub note_parts : Note → List Part
note_parts note.Ready = Fixed (codes "ready") ∷ []
note_parts (note.Fenced tag) = Fixed (codes "fenced") ∷ u32 tag ∷ []
note_parts (note.Repaired n s) = Fixed (codes "repaired") ∷ u64 n ∷ u64 s ∷ []
note_parts (note.Rebuilt k d) = Fixed (codes "rebuilt") ∷ u32 k ∷ drive d ∷ []
note_parts (note.NoDrive k) = Fixed (codes "nodrive") ∷ u32 k ∷ []
note_parts (note.Lost k ps) = Fixed (codes "lost") ∷ u32 k ∷ Positions ps ∷ []
note_parts (note.NoSpace k) = Fixed (codes "nospace") ∷ u32 k ∷ []
note_parts (note.Audited n s b bytes) = Fixed (codes "audit") ∷ u64 n ∷ u64 s ∷ u64 b ∷ u64 bytes ∷ []
note_parts (note.Busy k) = Fixed (codes "busy") ∷ u32 k ∷ []
note_parts note.Spent = Fixed (codes "spent") ∷ []
note_parts (note.Reported k) = Fixed (codes "reported") ∷ u32 k ∷ []
note_parts note.Exists = Fixed (codes "refused") ∷ Fixed (codes "exists") ∷ []
note_parts (note.BadMap why) = Fixed (codes "refused") ∷ Fixed (codes "badmap") ∷ Fixed (map_fault_word why) ∷ []
note_parts (note.TooFew n) = Fixed (codes "refused") ∷ Fixed (codes "toofew") ∷ u32 n ∷ []
note_parts (note.NoSpread n) = Fixed (codes "refused") ∷ Fixed (codes "nospread") ∷ u32 n ∷ []

-- the words of the last line behind its first
abbrev pub last_words : Bool → Bool → List (List ℕ)
last_words calm unguessed = yes_or_no calm ∷ codes "unguessed" ∷ yes_or_no unguessed ∷ []

-- ---- lines

-- the first word of a line, and the parts of the others
abbrev pub head_word : Line → List ℕ
head_word (line.Event e) = codes "="
head_word (line.Message n from to bytes) = codes "m"
head_word (line.Delivered n what) = codes "d"
head_word (line.Judged d v) = codes "j"
head_word (line.TimedOut c k) = codes "t"
head_word (line.Ended c how) = codes "o"
head_word (line.Refused c why) = codes "x"
head_word (line.Note f what) = codes "f"
head_word (line.Last calm unguessed) = codes "calm"

abbrev pub tail_parts : Line → List Part
tail_parts (line.Event e) = event_parts e
tail_parts (line.Message n from to bytes) = u64 n ∷ party_part from ∷ party_part to ∷ Hex bytes ∷ []
tail_parts (line.Delivered n what) = u64 n ∷ delivery_parts what
tail_parts (line.Judged d v) = drive d ∷ verdict_parts v
tail_parts (line.TimedOut c k) = client c ∷ u32 k ∷ []
tail_parts (line.Ended c how) = client c ∷ outcome_parts how
tail_parts (line.Refused c why) = client c ∷ Fixed (refusal_word why) ∷ []
tail_parts (line.Note f what) = file f ∷ note_parts what
tail_parts (line.Last calm unguessed) =
    Fixed (yes_or_no calm) ∷ Fixed (codes "unguessed") ∷ Fixed (yes_or_no unguessed) ∷ []

abbrev pub line_parts : Line → List Part
line_parts l = Fixed (head_word l) ∷ tail_parts l

-- a line that a text can spell: names and numbers in their ranges, and positions that rise
abbrev pub LineFits : Line → Type 0
LineFits l = AllFit (line_parts l)

-- the text of a line of a transcript, without its newline
abbrev pub line_text : Line → List ℕ
line_text l = spaced (map word_of (line_parts l))

-- the text of a history: each line and its newline
abbrev pub lines_text : List Line → List ℕ
lines_text lines = flat_map (λ l. line_text l ++ 10 ∷ []) lines

-- behind `= ` a text spells the event
abbrev pub EchoesEvent : Event → List ℕ → Type 0
EchoesEvent e text = Fits e → (rest : List ℕ) × (text ≡ codes "= " ++ rest) × Spells e rest

abbrev pub SpellsItsEvent : Line → List ℕ → Type 0
SpellsItsEvent (line.Event e) text = EchoesEvent e text
SpellsItsEvent l text = ⊤
