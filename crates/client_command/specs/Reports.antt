-- What a client tells of its work, and how that ends.
use Rattle.std.specs.Prelude.{◌≡◌, ◌⊎◌, ℕ, List, [], ◌++◌, Option, Some, None, IsSome, Err}
use Rattle.std.specs.Option.{option_map}
use Rattle.layout_ops.specs.declared.orders.OrderResult.{OrderResult}
use Rattle.layout_ops.specs.Enumerations.{order_result_number}
use Rattle.scenario_text.specs.LineSpelling.{lines_text}
use Rattle.world_history.specs.Told.{kind_of}
use Rattle.world_history.specs.Moves.{op_of}
use Rattle.client_rules.specs.declared.calls.CallOp.{CallOp}
use Rattle.client_rules.specs.declared.client.Client.{Client}
use Rattle.client_rules.specs.declared.outcomes.CallErr.{CallErr}
use Rattle.client_rules.specs.Steps.{calls, new_client}
use Rattle.client_command.specs.declared.notices.Notice.{Notice}
use Rattle.client_command.specs.OnLinks.{OnLinks}
use Rattle.client_command.specs.Exchanges.{CutsExchange, Dealing, dealing}
use Rattle.osd_lists.specs.declared.node.Node.TheVariants.{Server}
use Rattle.command_words.specs.declared.words.FirstNumber.{FirstNumber}
use Rattle.command_words.specs.declared.words.FirstNumber.TheVariants.{Given, Fresh}
use Rattle.command_words.specs.declared.work.ClientWork.{ClientWork}
use Rattle.command_words.specs.declared.work.ClientWork.TheVariants as work
use Rattle.command_words.specs.declared.work.Order.{Order}
use Rattle.client_command.specs.declared.work_ends.ClientEnd.{ClientEnd}
use Rattle.client_command.specs.declared.work_ends.ClientEnd.TheVariants.{Refused, Unnumbered}
use Rattle.client_command.specs.declared.work_ends.Refusal.TheVariants.{Call}
use Rattle.client_command.specs.declared.work_ends.Report.{Report}
use Rattle.client_command.specs.WorkEnds.{end_of, end_by_result}
use Rattle.client_command.specs.Lines.{call_lines, next_line, next_of, order_line, refusal_lines, unnumbered_line}
use Rattle.client_command.specs.declared.calls.CallStop.{CallStop}
use Rattle.client_command.specs.declared.calls.CallStop.TheVariants.{Lost}
use Rattle.client_command.specs.Calls.{Calls, StopsCall}
use Rattle.client_command.specs.Numbering.{CutsFinding, Finds, after}
use Rattle.client_command.specs.Orders.{Answers, order_message, sent_order}

-- a client that has done nothing, whose first request has this number
abbrev pub fresh : (number sequence : ℕ) → OnLinks → Dealing
fresh number sequence on = dealing (new_client number sequence) [] [] on.told on.faults

-- the report has this text and this end
pub record IsReport (text : List ℕ) (end : Option ClientEnd) (report : Report) : Type 0 where
  pub text_is : report.text ≡ text
  pub end_is : report.end ≡ end

-- ---- a call

-- it isn't taken, and nothing is sent
pub record RefusesCall (number sequence : ℕ) (op : CallOp) (before now : OnLinks) (report : Report) : Type 0 where
  pub why : CallErr
  pub refused : calls (new_client number sequence) op ≡ Err why
  pub same : now ≡ before
  pub told : IsReport (lines_text (refusal_lines number why) ++ next_line sequence) (Some (Refused (Call why))) report

-- it is carried out to its end, and the grants are returned; behind its lines stands the number of the next request
pub record EndsCall (number sequence : ℕ) (op : CallOp) (before now : OnLinks) (report : Report) : Type 0 where
  pub client : Client
  pub notices : List Notice
  pub calls : Calls op (fresh number sequence before) (dealing client [] notices now.told now.faults)
  pub ended : IsSome (end_of notices)
  pub told : IsReport (lines_text (call_lines number (kind_of op) notices) ++ next_line client.next) (end_of notices) report

-- the server's answer to a request didn't come
pub record LosesServer (number sequence : ℕ) (op : CallOp) (before now : OnLinks) (report : Report) : Type 0 where
  pub client : Client
  pub notices : List Notice
  pub loses : StopsCall op (fresh number sequence before) client notices now.told now.faults Lost
  pub told : IsReport (lines_text (call_lines number (kind_of op) notices)) None report

abbrev pub ReportsCall : (number sequence : ℕ) → CallOp → (before now : OnLinks) → Report → Type 0
ReportsCall number sequence op before now report =
    RefusesCall number sequence op before now report
    ⊎ EndsCall number sequence op before now report
    ⊎ LosesServer number sequence op before now report

-- the number that the server expected is used up, and the call goes under the one after it; or no number was learned, and
-- nothing was done
abbrev pub ReportsAfter : (number : ℕ) → Option ℕ → CallOp → (before now : OnLinks) → Report → Type 0
ReportsAfter number (Some used) op before now report = ReportsCall number (after used) op before now report
ReportsAfter number None op before now report = (now ≡ before) × IsReport unnumbered_line (Some Unnumbered) report

-- the client finds a fresh number first
pub record ReportsFresh (number : ℕ) (op : CallOp) (before now : OnLinks) (report : Report) : Type 0 where
  pub used : Option ℕ
  pub between : OnLinks
  pub finds : Finds number before between used
  pub call : ReportsAfter number used op between now report

abbrev pub ReportsFrom : (number : ℕ) → FirstNumber → CallOp → (before now : OnLinks) → Report → Type 0
ReportsFrom number (Given sequence) op before now report = ReportsCall number sequence op before now report
ReportsFrom number Fresh op before now report = ReportsFresh number op before now report

-- ---- an order

-- what is told of it; no request of the client is used up
abbrev pub answer_text : FirstNumber → Option OrderResult → List ℕ
answer_text first None = []
answer_text first (Some answer) = order_line (order_result_number answer) ++ next_of first

-- it is one exchange with the server, whose answer comes or doesn't
pub record ReportsOrder (first : FirstNumber) (o : Order) (before now : OnLinks) (report : Report) : Type 0 where
  pub answer : Option OrderResult
  pub exchange : Answers (sent_order o) before.told now.told before.faults now.faults answer
  pub told : IsReport (answer_text first answer) (option_map end_by_result answer) report

-- ---- the work

abbrev pub Reports : (number : ℕ) → FirstNumber → ClientWork → (before now : OnLinks) → Report → Type 0
Reports number first (work.Call what) before now report = ReportsFrom number first (op_of what) before now report
Reports number first (work.Order o) before now report = ReportsOrder first o before now report

-- ---- cut off for want of memory

-- a call was carried out so far, or was over, and there was no memory to tell of it
abbrev pub CutsCall : (number sequence : ℕ) → CallOp → (before now : OnLinks) → Type 0
CutsCall number sequence op before now =
    (client : Client) × (notices : List Notice)
    × (Calls op (fresh number sequence before) (dealing client [] notices now.told now.faults)
    ⊎ ((stop : CallStop) × StopsCall op (fresh number sequence before) client notices now.told now.faults stop))

-- an order wasn't sent; or its exchange was cut off, or there was no memory for the answer
abbrev pub CutsOrder : Order → (before now : OnLinks) → Type 0
CutsOrder o before now =
    (now ≡ before)
    ⊎ CutsExchange Server (order_message (sent_order o)) before.told now.told before.faults now.faults

-- after the search for a fresh number
abbrev pub CutsAfter : (number : ℕ) → Option ℕ → CallOp → (before now : OnLinks) → Type 0
CutsAfter number (Some used) op before now = CutsCall number (after used) op before now
CutsAfter number None op before now = now ≡ before

-- or in it
abbrev pub CutsFresh : (number : ℕ) → CallOp → (before now : OnLinks) → Type 0
CutsFresh number op before now =
    CutsFinding number before now
    ⊎ ((used : Option ℕ) × (between : OnLinks) × Finds number before between used × CutsAfter number used op between now)

abbrev pub CutsFrom : (number : ℕ) → FirstNumber → CallOp → (before now : OnLinks) → Type 0
CutsFrom number (Given sequence) op before now = CutsCall number sequence op before now
CutsFrom number Fresh op before now = CutsFresh number op before now

abbrev pub CutsWork : (number : ℕ) → FirstNumber → ClientWork → (before now : OnLinks) → Type 0
CutsWork number first (work.Call what) before now = CutsFrom number first (op_of what) before now
CutsWork number first (work.Order o) before now = CutsOrder o before now
