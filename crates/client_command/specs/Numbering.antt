-- How a client learns a number that no request had.
use Rattle.std.specs.Prelude.{◌≡◌, ◌⊎◌, ◌<◌, ⊤, ℕ, ◌+◌, ◌==◌, nat_lt, if◌then◌else◌, List, Option, Some, None, Result, Ok, Err}
use Rattle.osd_lists.specs.declared.node.Node.TheVariants.{Server}
use Rattle.osd_bytes.specs.Asking.{Answered}
use Rattle.layout_ops.specs.declared.err.OpErr.{OpErr}
use Rattle.layout_ops.specs.declared.envelope.Envelope.{Envelope}
use Rattle.layout_ops.specs.declared.envelope.Envelope.TheVariants as envelope
use Rattle.layout_ops.specs.declared.messages.Request.{Request}
use Rattle.layout_ops.specs.declared.results.LayoutGetResult.TheVariants as get
use Rattle.layout_ops.specs.declared.results.Results.{Results}
use Rattle.layout_ops.specs.declared.results.Results.TheVariants as results
use Rattle.layout_ops.specs.declared.statuses.TheConstants.{NFS4ERR_NOENT, NFS4ERR_SEQ_MISORDERED}
use Rattle.layout_ops.specs.Reading.{envelope_of}
use Rattle.layout_ops.specs.Spelling.{envelope_item}
use Rattle.client_rules.specs.declared.calls.CallOp.TheVariants.{Read}
use Rattle.client_rules.specs.declared.limits.TheConstants.{GREATEST_SEQUENCE}
use Rattle.client_rules.specs.Requests.{get_args}
use Rattle.reply_matching.specs.Answers.{is_answer_to}
use Rattle.command_words.specs.declared.words.FirstNumber.{FirstNumber}
use Rattle.command_words.specs.declared.words.FirstNumber.TheVariants.{Given, Fresh}
use Rattle.client_command.specs.declared.numbering.NullAnswer.{NullAnswer}
use Rattle.client_command.specs.declared.numbering.NullAnswer.TheVariants.{Taken, Expects, Unknown}
use Rattle.client_command.specs.declared.numbering.TheConstants.{NO_FILE, NO_NUMBER}
use Rattle.client_command.specs.Exchanges.{CutsExchange}
use Rattle.client_command.specs.OnLinks.{OnLinks}

-- a request can have the number that is given
abbrev pub IsNumbered : FirstNumber → Type 0
IsNumbered (Given sequence) = 0 < sequence
IsNumbered Fresh = ⊤

-- the number after one that is used up; the greatest again after that, under which no call is taken
abbrev pub after : (used : ℕ) → ℕ
after used = if nat_lt used GREATEST_SEQUENCE then used + 1 else GREATEST_SEQUENCE

-- ---- a request that does nothing

-- it asks for a layout of a file that nobody has
abbrev pub null_request : (number sequence : ℕ) → Request
null_request number sequence =
    record { client = number; sequence = sequence; file = NO_FILE; args = get_args (Read NO_FILE 0 1) }

abbrev pub null_message : (number sequence : ℕ) → List ℕ
null_message number sequence = envelope_item (envelope.Request (null_request number sequence))

-- the server took its number if it says that there is no such file
abbrev pub said_by : (detail : ℕ) → Results → NullAnswer
said_by detail (results.LayoutGet (get.Refused status)) =
    if status == NFS4ERR_NOENT then Taken
    else if status == NFS4ERR_SEQ_MISORDERED then Expects detail
    else Unknown
said_by detail other = Unknown

abbrev pub said_read : Result Envelope OpErr → NullAnswer
said_read (Ok (envelope.Answer a)) = said_by a.detail a.results
said_read read = Unknown

-- what a record says to the message, nothing if it isn't its answer or none came
abbrev pub said_to : (message : List ℕ) → Option (List ℕ) → NullAnswer
said_to message None = Unknown
said_to message (Some came) = if is_answer_to message came then said_read (envelope_of came) else Unknown

-- one exchange with the server, and what the server says
pub record AsksNothing (number sequence : ℕ) (before now : OnLinks) (said : NullAnswer) : Type 0 where
  pub came : Option (List ℕ)
  pub exchange : Answered Server (null_message number sequence) before.told now.told before.faults now.faults came
  pub is : said ≡ said_to (null_message number sequence) came

-- ---- the number

-- a number that the server took
abbrev pub used_by : (sequence : ℕ) → NullAnswer → Option ℕ
used_by sequence Taken = Some sequence
used_by sequence other = None

-- the number that the server expects is used up on a second request
abbrev pub FindsBy : NullAnswer → (number : ℕ) → (before now : OnLinks) → Option ℕ → Type 0
FindsBy (Expects sequence) number before now used =
    (said : NullAnswer) × AsksNothing number sequence before now said × (used ≡ used_by sequence said)
FindsBy other number before now used = (now ≡ before) × (used ≡ None)

-- a request without a number asks which one the server expects. No request of a process before this one has the number
-- that is used up then, or a later one
pub record Finds (number : ℕ) (before now : OnLinks) (used : Option ℕ) : Type 0 where
  pub said : NullAnswer
  pub between : OnLinks
  pub asks : AsksNothing number NO_NUMBER before between said
  pub uses : FindsBy said number between now used

-- ---- cut off for want of memory

-- the request wasn't sent; or its exchange was cut off, or there was no memory for the answer
abbrev pub CutsNothing : (number sequence : ℕ) → (before now : OnLinks) → Type 0
CutsNothing number sequence before now =
    (now ≡ before)
    ⊎ CutsExchange Server (null_message number sequence) before.told now.told before.faults now.faults

-- the first or the second request was
abbrev pub CutsFinding : (number : ℕ) → (before now : OnLinks) → Type 0
CutsFinding number before now =
    CutsNothing number NO_NUMBER before now
    ⊎ ((sequence : ℕ) × (between : OnLinks) × AsksNothing number NO_NUMBER before between (Expects sequence)
    × CutsNothing number sequence between now)
