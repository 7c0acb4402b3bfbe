-- How a line of a transcript is read, a word after another.
use Rattle.std.specs.Prelude.{ℕ, Bool, true, false, List, [], ◌∷◌, Option, codes}
use Rattle.scenario_text.specs.Reading.{u32_of, u64_of, drive_of, client_of, file_of, party_of, bytes_of}
use Rattle.scenario_text.specs.Reading.{positions_of}
use Rattle.scenario_text.specs.Keywords.{word_in}
use Rattle.scenario_text.specs.Form.{Form, Done, Word, Choose, Then, Unknown, chosen, by_word, form_or}
use Rattle.scenario_text.specs.EventForms.{call_kind_of, event_form}
use Rattle.scenario_text.specs.declared.hexadecimal.Digits.TheVariants.{Lower}
use Rattle.scenario_text.specs.declared.line.Line.{Line}
use Rattle.scenario_text.specs.declared.line.Line.TheVariants as line
use Rattle.scenario_text.specs.declared.line.Verdict.{Verdict}
use Rattle.scenario_text.specs.declared.line.Verdict.TheVariants as verdict
use Rattle.scenario_text.specs.declared.line.Delivery.{Delivery}
use Rattle.scenario_text.specs.declared.line.Delivery.TheVariants as delivery
use Rattle.scenario_text.specs.declared.line.CallKind.{CallKind}
use Rattle.scenario_text.specs.declared.line.CallKind.TheVariants as kind
use Rattle.scenario_text.specs.declared.line.LayoutFault.{LayoutFault}
use Rattle.scenario_text.specs.declared.line.LayoutFault.TheVariants as layout
use Rattle.scenario_text.specs.declared.line.Ending.{Ending}
use Rattle.scenario_text.specs.declared.line.Ending.TheVariants as ending
use Rattle.scenario_text.specs.declared.line.Outcome.{Outcome}
use Rattle.scenario_text.specs.declared.line.Outcome.TheVariants as outcome
use Rattle.scenario_text.specs.declared.line.Refusal.{Refusal}
use Rattle.scenario_text.specs.declared.line.Refusal.TheVariants as refusal
use Rattle.scenario_text.specs.declared.line.MapFault.{MapFault}
use Rattle.scenario_text.specs.declared.line.MapFault.TheVariants as map_fault
use Rattle.scenario_text.specs.declared.line.Note.{Note}
use Rattle.scenario_text.specs.declared.line.Note.TheVariants as note
use Rattle.scenario_text.specs.declared.line_keyword.EndingWord.{EndingWord}
use Rattle.scenario_text.specs.declared.line_keyword.EndingWord.TheVariants as ending_word
use Rattle.scenario_text.specs.declared.line_keyword.NoteWord.{NoteWord}
use Rattle.scenario_text.specs.declared.line_keyword.NoteWord.TheVariants as note_word
use Rattle.scenario_text.specs.declared.line_keyword.LineWord.{LineWord}
use Rattle.scenario_text.specs.declared.line_keyword.LineWord.TheVariants as line_word

-- ---- single words

abbrev pub kind_by : List ℕ → Form CallKind
kind_by word = form_or Done Unknown (call_kind_of word)

abbrev pub kind_form : Form CallKind
kind_form = Choose kind_by

abbrev pub yes_or_no_rows : List (List ℕ × Form Bool)
yes_or_no_rows = (codes "yes", Done true) ∷ (codes "no", Done false) ∷ []

unfoldable pub yes_or_no_form : Form Bool
yes_or_no_form = by_word yes_or_no_rows

abbrev pub layout_fault_words : List (List ℕ × LayoutFault)
layout_fault_words =
    (codes "Unreadable", layout.Unreadable)
    ∷ (codes "Index", layout.Index)
    ∷ (codes "Partial", layout.Partial)
    ∷ (codes "Ssv", layout.Ssv)
    ∷ (codes "Map", layout.Map)
    ∷ (codes "Credential", layout.Credential) ∷ []

unfoldable pub layout_fault_of : List ℕ → Option LayoutFault
layout_fault_of word = word_in layout_fault_words word

abbrev pub layout_fault_by : List ℕ → Form LayoutFault
layout_fault_by word = form_or Done Unknown (layout_fault_of word)

abbrev pub layout_fault_form : Form LayoutFault
layout_fault_form = Choose layout_fault_by

abbrev pub map_fault_words : List (List ℕ × MapFault)
map_fault_words =
    (codes "Unit", map_fault.Unit)
    ∷ (codes "TooMany", map_fault.TooMany)
    ∷ (codes "TooFew", map_fault.TooFew)
    ∷ (codes "Multiple", map_fault.Multiple)
    ∷ (codes "Width", map_fault.Width)
    ∷ (codes "Depth", map_fault.Depth) ∷ []

unfoldable pub map_fault_of : List ℕ → Option MapFault
map_fault_of word = word_in map_fault_words word

abbrev pub map_fault_by : List ℕ → Form MapFault
map_fault_by word = form_or Done Unknown (map_fault_of word)

abbrev pub map_fault_form : Form MapFault
map_fault_form = Choose map_fault_by

abbrev pub refusal_rows : List (List ℕ × Form Refusal)
refusal_rows =
    (codes "busy", Done refusal.Busy)
    ∷ (codes "badrange", Done refusal.BadRange)
    ∷ (codes "slotspent", Done refusal.SlotSpent) ∷ []

unfoldable pub refusal_form : Form Refusal
refusal_form = by_word refusal_rows

-- ---- verdicts and deliveries

-- the verdicts without a number
abbrev pub plain_verdict_words : List (List ℕ × Verdict)
plain_verdict_words =
    (codes "perform", verdict.Perform)
    ∷ (codes "again", verdict.Again)
    ∷ (codes "nokey", verdict.NoKey)
    ∷ (codes "checkvalue", verdict.CheckValue)
    ∷ (codes "expired", verdict.Expired)
    ∷ (codes "rights", verdict.Rights)
    ∷ (codes "wrongobject", verdict.WrongObject)
    ∷ (codes "range", verdict.Range)
    ∷ (codes "noobject", verdict.NoObject)
    ∷ (codes "exists", verdict.Exists)
    ∷ (codes "limit", verdict.Limit)
    ∷ (codes "lanefull", verdict.LaneFull)
    ∷ (codes "attrfull", verdict.AttrFull)
    ∷ (codes "format", verdict.Format)
    ∷ (codes "oldformat", verdict.OldFormat) ∷ []

unfoldable pub plain_verdict_of : List ℕ → Option Verdict
plain_verdict_of word = word_in plain_verdict_words word

abbrev pub numbered_verdict_rows : List (List ℕ × Form Verdict)
numbered_verdict_rows =
    (codes "tag", Word u32_of (λ n. Done (verdict.Tag n)))
    ∷ (codes "nospace", Word u64_of (λ n. Done (verdict.NoSpace n)))
    ∷ (codes "stale", Word u64_of (λ n. Done (verdict.Stale n))) ∷ []

unfoldable pub numbered_verdict_by : List ℕ → Form Verdict
numbered_verdict_by word = chosen numbered_verdict_rows (λ w. Unknown) word

-- a verdict behind its first word
unfoldable pub verdict_by : List ℕ → Form Verdict
verdict_by word = form_or Done (numbered_verdict_by word) (plain_verdict_of word)

abbrev pub verdict_form : Form Verdict
verdict_form = Choose verdict_by

abbrev pub delivery_rows : List (List ℕ × Form Delivery)
delivery_rows = (codes "deaf", Done delivery.Deaf) ∷ (codes "taken", Done delivery.Taken) ∷ []

abbrev pub judged_by : List ℕ → Form Delivery
judged_by word = Then (verdict_by word) (λ v. Done (delivery.Judged v))

unfoldable pub delivery_by : List ℕ → Form Delivery
delivery_by word = chosen delivery_rows judged_by word

-- ---- endings and outcomes

abbrev pub ending_words : List (List ℕ × EndingWord)
ending_words =
    (codes "nofile", ending_word.NoFile)
    ∷ (codes "held", ending_word.Held)
    ∷ (codes "fencing", ending_word.Fencing)
    ∷ (codes "degraded", ending_word.Degraded)
    ∷ (codes "spent", ending_word.Spent)
    ∷ (codes "status", ending_word.Status)
    ∷ (codes "refused", ending_word.Refused)
    ∷ (codes "silent", ending_word.Silent)
    ∷ (codes "lost", ending_word.Lost)
    ∷ (codes "badlayout", ending_word.BadLayout)
    ∷ (codes "pending", ending_word.Pending) ∷ []

abbrev pub ending_form_of : EndingWord → Form Ending
ending_form_of ending_word.NoFile = Done ending.NoFile
ending_form_of ending_word.Held = Word client_of (λ c. Done (ending.Held c))
ending_form_of ending_word.Fencing = Word u32_of (λ k. Done (ending.Fencing k))
ending_form_of ending_word.Degraded = Word u32_of (λ k. Done (ending.Degraded k))
ending_form_of ending_word.Spent = Done ending.Spent
ending_form_of ending_word.Status = Word u32_of (λ status. Word u32_of (λ detail. Done (ending.Status status detail)))
ending_form_of ending_word.Refused = Word drive_of (λ d. Then verdict_form (λ v. Done (ending.Refused d v)))
ending_form_of ending_word.Silent = Word u32_of (λ k. Done (ending.Silent k))
ending_form_of ending_word.Lost = Word positions_of (λ ps. Done (ending.Lost ps))
ending_form_of ending_word.BadLayout = Then layout_fault_form (λ why. Done (ending.BadLayout why))
ending_form_of ending_word.Pending = Done ending.Pending

unfoldable pub ending_word_of : List ℕ → Option EndingWord
ending_word_of word = word_in ending_words word

unfoldable pub ending_by : List ℕ → Form Ending
ending_by word = form_or ending_form_of Unknown (ending_word_of word)

abbrev pub done_form : CallKind → Form Outcome
done_form kind.Write = Word u64_of (λ len. Done (outcome.WriteOk len))
done_form kind.Read = Word (bytes_of Lower) (λ bytes. Done (outcome.ReadOk bytes))

abbrev pub outcome_rows : CallKind → List (List ℕ × Form Outcome)
outcome_rows call = (codes "ok", done_form call) ∷ []

abbrev pub failed_by : CallKind → List ℕ → Form Outcome
failed_by call word = Then (ending_by word) (λ how. Done (outcome.Failed call how))

unfoldable pub outcome_by : CallKind → List ℕ → Form Outcome
outcome_by call word = chosen (outcome_rows call) (failed_by call) word

abbrev pub outcome_form : Form Outcome
outcome_form = Then kind_form (λ call. Choose (outcome_by call))

-- ---- notes

abbrev pub refused_rows : List (List ℕ × Form Note)
refused_rows =
    (codes "exists", Done note.Exists)
    ∷ (codes "badmap", Then map_fault_form (λ why. Done (note.BadMap why)))
    ∷ (codes "toofew", Word u32_of (λ n. Done (note.TooFew n)))
    ∷ (codes "nospread", Word u32_of (λ n. Done (note.NoSpread n))) ∷ []

unfoldable pub refused_form : Form Note
refused_form = by_word refused_rows

abbrev pub note_words : List (List ℕ × NoteWord)
note_words =
    (codes "ready", note_word.Ready)
    ∷ (codes "fenced", note_word.Fenced)
    ∷ (codes "repaired", note_word.Repaired)
    ∷ (codes "rebuilt", note_word.Rebuilt)
    ∷ (codes "nodrive", note_word.NoDrive)
    ∷ (codes "lost", note_word.Lost)
    ∷ (codes "nospace", note_word.NoSpace)
    ∷ (codes "audit", note_word.Audited)
    ∷ (codes "busy", note_word.Busy)
    ∷ (codes "spent", note_word.Spent)
    ∷ (codes "reported", note_word.Reported)
    ∷ (codes "refused", note_word.Refused) ∷ []

abbrev pub note_form_of : NoteWord → Form Note
note_form_of note_word.Ready = Done note.Ready
note_form_of note_word.Fenced = Word u32_of (λ tag. Done (note.Fenced tag))
note_form_of note_word.Repaired = Word u64_of (λ n. Word u64_of (λ s. Done (note.Repaired n s)))
note_form_of note_word.Rebuilt = Word u32_of (λ k. Word drive_of (λ d. Done (note.Rebuilt k d)))
note_form_of note_word.NoDrive = Word u32_of (λ k. Done (note.NoDrive k))
note_form_of note_word.Lost = Word u32_of (λ k. Word positions_of (λ ps. Done (note.Lost k ps)))
note_form_of note_word.NoSpace = Word u32_of (λ k. Done (note.NoSpace k))
note_form_of note_word.Audited =
    Word u64_of (λ n. Word u64_of (λ s. Word u64_of (λ b. Word u64_of (λ bytes. Done (note.Audited n s b bytes)))))
note_form_of note_word.Busy = Word u32_of (λ k. Done (note.Busy k))
note_form_of note_word.Spent = Done note.Spent
note_form_of note_word.Reported = Word u32_of (λ k. Done (note.Reported k))
note_form_of note_word.Refused = refused_form

unfoldable pub note_word_of : List ℕ → Option NoteWord
note_word_of word = word_in note_words word

unfoldable pub note_by : List ℕ → Form Note
note_by word = form_or note_form_of Unknown (note_word_of word)

abbrev pub note_form : Form Note
note_form = Choose note_by

-- ---- lines

abbrev pub message_form : Form Line
message_form =
    Word u64_of (λ n. Word party_of (λ from. Word party_of (λ to.
    Word (bytes_of Lower) (λ bytes. Done (line.Message n from to bytes)))))

abbrev pub unguessed_rows : Bool → List (List ℕ × Form Line)
unguessed_rows calm = (codes "unguessed", Then yes_or_no_form (λ unguessed. Done (line.Last calm unguessed))) ∷ []

abbrev pub last_form : Form Line
last_form = Then yes_or_no_form (λ calm. by_word (unguessed_rows calm))

abbrev pub line_words : List (List ℕ × LineWord)
line_words =
    (codes "=", line_word.Event)
    ∷ (codes "m", line_word.Message)
    ∷ (codes "d", line_word.Delivered)
    ∷ (codes "j", line_word.Judged)
    ∷ (codes "t", line_word.TimedOut)
    ∷ (codes "o", line_word.Ended)
    ∷ (codes "x", line_word.Refused)
    ∷ (codes "f", line_word.Note)
    ∷ (codes "calm", line_word.Last) ∷ []

abbrev pub line_form_of : LineWord → Form Line
line_form_of line_word.Event = Then (event_form Lower) (λ e. Done (line.Event e))
line_form_of line_word.Message = message_form
line_form_of line_word.Delivered = Word u64_of (λ n. Then (Choose delivery_by) (λ what. Done (line.Delivered n what)))
line_form_of line_word.Judged = Word drive_of (λ d. Then verdict_form (λ v. Done (line.Judged d v)))
line_form_of line_word.TimedOut = Word client_of (λ c. Word u32_of (λ k. Done (line.TimedOut c k)))
line_form_of line_word.Ended = Word client_of (λ c. Then outcome_form (λ how. Done (line.Ended c how)))
line_form_of line_word.Refused = Word client_of (λ c. Then refusal_form (λ why. Done (line.Refused c why)))
line_form_of line_word.Note = Word file_of (λ f. Then note_form (λ what. Done (line.Note f what)))
line_form_of line_word.Last = last_form

unfoldable pub line_word_of : List ℕ → Option LineWord
line_word_of word = word_in line_words word

unfoldable pub line_by : List ℕ → Form Line
line_by word = form_or line_form_of Unknown (line_word_of word)

abbrev pub line_form : Form Line
line_form = Choose line_by
