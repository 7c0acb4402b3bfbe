-- What `show` and `check` promise: an answer for each line, which spells bytes in pairs of hexadecimal digits.
use Rattle.std.specs.Prelude.{◌≡◌, ℕ, ◌+◌, List, [], ◌∷◌, ◌++◌, length, take, codes, ⊤, Option, Some, None, Result}
use Rattle.std.specs.Prelude.{Ok, Err, IsErr}
use Rattle.std.specs.Fmt.{decimal}
use Rattle.std.specs.Io.KnownBytes.{Appends, IsAtEnd}
use Rattle.hex.specs.Hex.{decode_of, encode_lower}
use Rattle.osd_bytes.specs.Causes.{Rose}
use Rattle.osd_bytes.specs.Lines.{lines_of, next_of}
use Rattle.osd_bytes.specs.declared.lines.LineErr.{LineErr}
use Rattle.osd_bytes.specs.declared.lines.LineErr.TheVariants.{TooLong, InputFull, ReadFault as LineFault}
use Rattle.osd_bytes.specs.declared.lines.LineErr.TheVariants.{Memory as LineMemory}
use Rattle.xdr_codec.specs.declared.err.XdrErr.TheVariants.{Short, Padding, BadBool, TooMany, Trailing}
use Rattle.xdr_codec.specs.declared.err.XdrErr.TheVariants.{Memory as XdrMemory}
use Rattle.layout_types.specs.declared.err.LayoutErr.{LayoutErr}
use Rattle.layout_types.specs.declared.err.LayoutErr.TheVariants.{Xdr, BadEnum, Memory as LayoutMemory}
use Rattle.layout_types.specs.declared.kind.Kind.{Kind}
use Rattle.layout_types.specs.Leaves.{leaves_of}
use Rattle.layout_types.specs.Again.{written_of}
use Rattle.osd_replay.specs.Errors.{error_line, full_name, kind_name}
use Rattle.osd_replay.specs.Ends.{Ends, Begins, IsAll, IsLineAt, PassesNext, PutsError}
use Rattle.osd_replay.specs.declared.command.Inspection.{Inspection}
use Rattle.osd_replay.specs.declared.command.Inspection.TheVariants.{Show, Check}
use Rattle.osd_replay.specs.declared.status.Quantity.{Quantity}
use Rattle.osd_replay.specs.declared.status.Quantity.TheVariants.{Input, Line, Kept}
use Rattle.osd_replay.specs.declared.status.ScenarioKind.{ScenarioKind}
use Rattle.osd_replay.specs.declared.status.ScenarioKind.TheVariants.{BadHex}
use Rattle.osd_replay.specs.declared.stop.Stop.{Stop}
use Rattle.osd_replay.specs.declared.stop.Stop.TheVariants.{Refused, Read, Memory as WantsMemory, Full as StopsFull}
use Rattle.osd_replay.specs.declared.status.Status.{Status}
use Rattle.osd_replay.specs.declared.status.Status.TheVariants.{Done, BadWords, BadScenario, ReadFault, WriteFault}
use Rattle.osd_replay.specs.declared.status.Status.TheVariants.{Memory, Full}

-- ---- the answer to the bytes of a line

-- `refused NAME AT`
abbrev pub refused : List ℕ → ℕ → List ℕ
refused name place = codes "refused " ++ (name ++ (32 ∷ (decimal place ++ (10 ∷ []))))

abbrev pub refusal : LayoutErr → List ℕ
refusal (Xdr (Short place)) = refused (codes "Short") place
refusal (Xdr (Padding place)) = refused (codes "Padding") place
refusal (Xdr (BadBool place)) = refused (codes "BadBool") place
refusal (Xdr (TooMany place)) = refused (codes "TooMany") place
refusal (Xdr (Trailing place)) = refused (codes "Trailing") place
refusal (Xdr XdrMemory) = []
refusal (BadEnum place value) = refused (codes "BadEnum") place
refusal LayoutMemory = []

-- the fields of the structure, or why there is none
abbrev pub shown : Result (List ℕ) LayoutErr → List ℕ
shown (Ok fields) = fields
shown (Err e) = refusal e

-- `ok HEX`, the structure written again, or why there is none
abbrev pub checked : Result (List ℕ) LayoutErr → List ℕ
checked (Ok written) = codes "ok " ++ (encode_lower written ++ (10 ∷ []))
checked (Err e) = refusal e

abbrev pub answer_of : Inspection → Kind → List ℕ → List ℕ
answer_of Show kind bytes = shown (leaves_of kind bytes)
answer_of Check kind bytes = checked (written_of kind bytes)

-- the answer to a line of hexadecimal digits
abbrev pub Answers : Inspection → Kind → List ℕ → List ℕ → Type 0
Answers inspection kind line text =
    (bytes : List ℕ) × (decode_of line ≡ Ok bytes) × (text ≡ answer_of inspection kind bytes)

-- why a line has no answer
abbrev pub StopsInspection : List ℕ → Stop → Type 0
StopsInspection line (Refused kind) = (kind ≡ BadHex) × IsErr (decode_of line)
StopsInspection line Read = ⊥
StopsInspection line WantsMemory = ⊤
StopsInspection line (StopsFull quantity) = ⊥

-- ---- the answers to the input's lines

-- each line is of hexadecimal digits, and has its answer
abbrev pub HasAnswers : Inspection → Kind → List (List ℕ) → List ℕ → Type 0
HasAnswers inspection kind [] out = out ≡ []
HasAnswers inspection kind (line ∷ lines) out =
    (text later : List ℕ) × Answers inspection kind line text × (out ≡ text ++ later)
    × HasAnswers inspection kind lines later

-- Why an answer of the line reader isn't inspected. A line that passes a limit is another end.
abbrev pub IsNoLine : ScenarioKind → Result (Option (List ℕ)) LineErr → Type 0
IsNoLine kind (Err TooLong) = ⊥
IsNoLine kind (Err InputFull) = ⊥
IsNoLine kind (Err LineFault) = ⊥
IsNoLine kind (Err LineMemory) = ⊥
IsNoLine kind (Ok None) = ⊥
IsNoLine kind (Ok (Some line)) = (kind ≡ BadHex) × IsErr (decode_of line)

-- the line behind these lines of the input is refused
abbrev pub RefusesLine : Option (List ℕ) → List (List ℕ) → ScenarioKind → Type 0
RefusesLine None lines kind = ⊤
RefusesLine (Some input) lines kind =
    (front rest : List ℕ) × (input ≡ front ++ rest) × (lines_of input ≡ lines ++ lines_of rest)
    × IsNoLine kind (next_of (length front) rest)

-- the input's first lines and their answers
pub record Inspected (inspection : Inspection) (kind : Kind) (input : Option (List ℕ)) (lines : List (List ℕ))
    (out : List ℕ) : Type 0 where
  pub begins : Begins input lines
  pub answers : HasAnswers inspection kind lines out

-- ---- what each status promises

-- every line was answered, and all answers went out
pub record IsDone (inspection : Inspection) (kind : Kind) (before after : Ends) : Type 0 where
  pub lines : List (List ℕ)
  pub out : List ℕ
  pub inspected : Inspected inspection kind before.left lines out
  pub all : IsAll before.left lines
  pub told : Appends before.taken after.taken out
  pub at_end : IsAtEnd after.left
  pub reads : after.reads_failed ≡ before.reads_failed
  pub writes : after.writes_failed ≡ before.writes_failed

-- the lines before a line were answered, and then comes an error line
pub record Stops (inspection : Inspection) (kind : Kind) (before after : Ends) (number : ℕ)
    (reason : List ℕ) : Type 0 where
  pub lines : List (List ℕ)
  pub out : List ℕ
  pub inspected : Inspected inspection kind before.left lines out
  pub number_is : number ≡ length lines + 1
  pub tells : PutsError before after out (error_line number reason)

-- the line of that number is the first that is refused
pub record IsBadLine (inspection : Inspection) (kind : Kind) (before after : Ends) (number : ℕ)
    (why : ScenarioKind) : Type 0 where
  pub stops : Stops inspection kind before after number (kind_name why)
  pub refused : RefusesLine before.left stops.lines why

-- the source failed at the line of that number
pub record IsReadFault (inspection : Inspection) (kind : Kind) (before after : Ends) : Type 0 where
  pub number : ℕ
  pub stops : Stops inspection kind before after number (codes "read")
  pub line : IsLineAt number before.left after.left
  pub rose : Rose before.reads_failed after.reads_failed

-- the sink failed: what went out is a part of the answers to the input's first lines
pub record IsWriteFault (inspection : Inspection) (kind : Kind) (before after : Ends) : Type 0 where
  pub lines : List (List ℕ)
  pub out : List ℕ
  pub inspected : Inspected inspection kind before.left lines out
  pub upto : ℕ
  pub told : Appends before.taken after.taken (take upto out)
  pub rose : Rose before.writes_failed after.writes_failed

-- there was no memory for the line of that number
pub record IsMemory (inspection : Inspection) (kind : Kind) (before after : Ends) : Type 0 where
  pub number : ℕ
  pub stops : Stops inspection kind before after number (codes "memory")

-- behind the lines that were answered a quantity of the input passes its limit
pub record IsFull (inspection : Inspection) (kind : Kind) (before after : Ends) (quantity : Quantity) : Type 0 where
  pub number : ℕ
  pub stops : Stops inspection kind before after number (full_name quantity)
  pub passes : PassesNext before.left stops.lines quantity

abbrev pub Promises : Inspection → Kind → Ends → Ends → Status → Type 0
Promises inspection kind before after Done = IsDone inspection kind before after
Promises inspection kind before after BadWords = ⊥
Promises inspection kind before after (BadScenario number why) = IsBadLine inspection kind before after number why
Promises inspection kind before after ReadFault = IsReadFault inspection kind before after
Promises inspection kind before after WriteFault = IsWriteFault inspection kind before after
Promises inspection kind before after Memory = IsMemory inspection kind before after
Promises inspection kind before after (Full Input) = IsFull inspection kind before after Input
Promises inspection kind before after (Full Line) = IsFull inspection kind before after Line
Promises inspection kind before after (Full Kept) = ⊥
