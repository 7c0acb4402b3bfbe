-- The steps of a client whose call goes well: what it sends, and what it is then.
use Rattle.std.specs.Prelude.{◌≡◌, ◌+◌, ℕ, true, false, List, [], ◌∷◌, map, nat_lt, Some, None, Ok}
use Rattle.osd_lists.specs.declared.node.Node.TheVariants.{Server as FromServer, Drive as FromDrive}
use Rattle.layout_ops.specs.declared.args.Args.{Args}
use Rattle.layout_ops.specs.declared.statuses.TheConstants.{NFS4_OK, NFS4ERR_LAYOUTTRYLATER}
use Rattle.stripe_plan.specs.Lost.{among}
use Rattle.server_rules.specs.Laws.{In}
use Rattle.client_rules.specs.declared.limits.TheConstants.{PERFORMED, MAX_TRIES}
use Rattle.client_rules.specs.Answers.{is_loss_taken}
use Rattle.client_rules.specs.Calls.{file_of, span_of, is_write}
use Rattle.client_rules.specs.Commands.{others, of_component, not_of}
use Rattle.client_rules.specs.Going.{begins, after_number, held_after, request_of}
use Rattle.client_rules.specs.Grants.{covers, held_of, put_held}
use Rattle.client_rules.specs.History.{Calls, Hears, TimesOut, step}
use Rattle.client_rules.specs.Io.{awaited_in}
use Rattle.client_rules.specs.Laws.{nonce_of}
use Rattle.client_rules.specs.Layouts.{taken}
use Rattle.client_rules.specs.Messages.{Step, Replies, Answers, is_awaited, to_drive}
use Rattle.client_rules.specs.Replies.{replied, timed_out}
use Rattle.client_rules.specs.Requests.{get_args, return_args, commit_args, report_of}
use Rattle.client_rules.specs.Results.{status_of}
use Rattle.client_rules.specs.Steps.{is_bad_range, is_spent, writes_nothing}
use Rattle.client_rules.specs.Turns.{needing}
use Rattle.client_rules.specs.Writes.{is_past_size}
use Rattle.world_history.specs.ClientNames.{Client, CallOp, Held, Awaited, TimedOut, Need, First, Get, Commit, Report, Phase, Waits, Outcome, WriteOk, Goes, Moved, Asks, Request, Reply, Answer}
use Rattle.ready_law.specs.Reacting.{IsGood, WorksWell, GoesOn, EndsWell, IsWritten}

-- ---- what a step leaves

-- the grant is held in the place of the file's former one
abbrev pub holding : Client → Held → Client
holding c h = record c { held = put_held c.held h }

-- the call is in this phase
abbrev pub in_phase : Client → CallOp → Phase → Client
in_phase c op p = record c { call = Some (record { op = op; phase = p }) }

-- the call is over
abbrev pub without_call : Client → Client
without_call c = record c { call = None }

-- the answer to the outstanding request came
abbrev pub unasked : Client → Client
unasked c = record c { outstanding = None }

-- a request is sent, and the call waits for its answer
abbrev pub asking : Client → CallOp → Need → Args → Client
asking c op n a = record (in_phase c op (Waits n)) {
  next = after_number c.next;
  outstanding = Some (request_of c (file_of op) a);
  held = held_after c.held (file_of op) a;
}

-- the step in which this is all that is sent
abbrev pub asks_step : Client → CallOp → Need → Args → Step
asks_step c op n a = record {
  client = asking c op n a;
  sends = Asks (request_of c (file_of op) a) ∷ [];
  outcome = None;
}

-- the call ends, and nothing is sent
abbrev pub ends_step : Client → Outcome → Step
ends_step c o = record { client = without_call c; sends = []; outcome = Some o }

-- A step of a client whose call moves so under grant h, of which the rest is still awaited: the call works on, or it ends well,
-- or it commits a new size, or it reports what timed out.
pub data StepsWell (c : Client) (h : Held) (op : CallOp) (lost : List ℕ) (rest : List Awaited) (m : Moved) (s : Step) : Type 0
  where
    WorksOn : (p : Phase) → m.turn ≡ Goes p → GoesOn h op lost rest m.held p m.sent
        → s ≡ record { client = in_phase (holding c m.held) op p; sends = map to_drive m.sent; outcome = None }
        → StepsWell c h op lost rest m s
    IsDone : (o : Outcome) → rest ≡ [] → EndsWell op o → (is_write op ≡ true → is_past_size h op ≡ false)
        → s ≡ ends_step (holding c h) o → StepsWell c h op lost rest m s
    Commits : (timed : List TimedOut) → is_past_size h op ≡ true → IsWritten h op lost rest timed
        → s ≡ asks_step (holding c h) op (Commit timed) (commit_args h op) → StepsWell c h op lost rest m s
    Reports : (t : TimedOut) (timed : List TimedOut) → m.turn ≡ needing (Report (t ∷ timed)) → is_past_size h op ≡ false
        → IsWritten h op lost rest (t ∷ timed)
        → s ≡ asks_step (holding c h) op (Report (t ∷ timed)) (return_args h.number (report_of h (t ∷ timed)))
        → StepsWell c h op lost rest m s

-- ---- a call that works with the drives

-- The client's call is in this phase under this grant, and has nothing to do with the server.
pub record IsWorkingAt (c : Client) (h : Held) (op : CallOp) (p : Phase) : Type 0 where
  pub pending : c.call ≡ Some (record { op = op; phase = p })
  pub holds : held_of c.held (file_of op) ≡ Some h
  pub free : c.outstanding ≡ None
  pub none_due : c.due ≡ []

-- it takes the reply to what it awaits
abbrev pub RepliesStepWell : Type 0
RepliesStepWell =
    (c : Client) (h : Held) (op : CallOp) (lost : List ℕ) (p : Phase) → IsGood h op lost → WorksWell h op lost p
    → IsWorkingAt c h op p → (a : Awaited) → In a (awaited_in p) → (r : Reply) → r.verdict ≡ PERFORMED
    → a.command.nonce ≡ r.nonce
    → StepsWell c h op lost (others (awaited_in p) (nonce_of a)) (replied h op p a r)
    (step c (Hears (FromDrive a.drive) (Replies r)))

-- a lost component of which it awaits something times out
abbrev pub TimeoutsStepWell : Type 0
TimeoutsStepWell =
    (c : Client) (h : Held) (op : CallOp) (lost : List ℕ) (p : Phase) → IsGood h op lost → WorksWell h op lost p
    → IsWorkingAt c h op p → (k : ℕ) → among k lost ≡ true → (a : Awaited) (xs : List Awaited)
    → of_component k (awaited_in p) ≡ a ∷ xs
    → StepsWell c h op lost (not_of k (awaited_in p)) (timed_out h op p k a xs) (step c (TimesOut k))

-- ---- a call that comes to an idle client

-- The client has no call, waits for no answer, and has nothing to give back; it can take the call.
pub record TakesCall (c : Client) (op : CallOp) : Type 0 where
  pub idle : c.call ≡ None
  pub free : c.outstanding ≡ None
  pub none_due : c.due ≡ []
  pub range : is_bad_range (span_of op) ≡ false
  pub numbers : is_spent c.next ≡ false

-- A write of no byte is over at once. Under a grant that covers it a call begins; another grant goes back first; and without one
-- the call asks for it.
pub record CallsStep : Type 0 where
  pub nothing : (c : Client) (op : CallOp) → TakesCall c op → writes_nothing op ≡ true
      → step c (Calls op) ≡ record { client = c; sends = []; outcome = Some (WriteOk 0) }
  pub covered : (c : Client) (h : Held) (op : CallOp) (lost : List ℕ) → TakesCall c op → writes_nothing op ≡ false
      → held_of c.held (file_of op) ≡ Some h → covers h op ≡ true → IsGood h op lost
      → StepsWell c h op lost [] (begins h op) (step c (Calls op))
  pub uncovered : (c : Client) (h : Held) (op : CallOp) → TakesCall c op → writes_nothing op ≡ false
      → held_of c.held (file_of op) ≡ Some h → covers h op ≡ false
      → step c (Calls op) ≡ asks_step c op First (return_args h.number [])
  pub unheld : (c : Client) (op : CallOp) → TakesCall c op → writes_nothing op ≡ false
      → held_of c.held (file_of op) ≡ None
      → step c (Calls op) ≡ asks_step c op (Get 0) (get_args op)

-- ---- answers to the call's request

-- The client's call waits for this answer, and nothing is to be given back.
pub record IsAnsweredAt (c : Client) (op : CallOp) (n : Need) (a : Answer) : Type 0 where
  pub pending : c.call ≡ Some (record { op = op; phase = Waits n })
  pub none_due : c.due ≡ []
  pub request : Request
  pub asked : c.outstanding ≡ Some request
  pub its : is_awaited c a request ≡ true

-- Behind the return of the former grant, and where the server is busy, the call asks for a grant. Under the grant that is given
-- it begins. A commit that is carried out ends it, or what timed out is reported then. A report that is taken as a loss ends it.
pub record AnswersStep : Type 0 where
  pub returned : (c : Client) (op : CallOp) (a : Answer) → IsAnsweredAt c op First a
      → held_of c.held (file_of op) ≡ None
      → step c (Hears FromServer (Answers a)) ≡ asks_step (unasked c) op (Get 0) (get_args op)
  pub later : (c : Client) (op : CallOp) (tries : ℕ) (a : Answer) → IsAnsweredAt c op (Get tries) a
      → status_of a.results ≡ NFS4ERR_LAYOUTTRYLATER → nat_lt (tries + 1) MAX_TRIES ≡ true
      → step c (Hears FromServer (Answers a)) ≡ asks_step (unasked c) op (Get (tries + 1)) (get_args op)
  pub given : (c : Client) (op : CallOp) (tries : ℕ) (a : Answer) (h : Held) (lost : List ℕ)
      → IsAnsweredAt c op (Get tries) a → status_of a.results ≡ NFS4_OK → taken a op ≡ Ok h → IsGood h op lost
      → StepsWell (holding (unasked c) h) h op lost [] (begins h op) (step c (Hears FromServer (Answers a)))
  pub committed : (c : Client) (h : Held) (op : CallOp) (a : Answer) → IsAnsweredAt c op (Commit []) a
      → held_of c.held (file_of op) ≡ Some h → status_of a.results ≡ NFS4_OK
      → step c (Hears FromServer (Answers a))
      ≡ ends_step (holding (unasked c) (record h { size = a.size })) (WriteOk (span_of op).length)
  pub committed_but : (c : Client) (h : Held) (op : CallOp) (t : TimedOut) (timed : List TimedOut) (a : Answer)
      → IsAnsweredAt c op (Commit (t ∷ timed)) a → held_of c.held (file_of op) ≡ Some h → status_of a.results ≡ NFS4_OK
      → step c (Hears FromServer (Answers a))
      ≡ asks_step (holding (unasked c) (record h { size = a.size })) op (Report (t ∷ timed))
      (return_args h.number (report_of h (t ∷ timed)))
  pub reported : (c : Client) (op : CallOp) (timed : List TimedOut) (a : Answer) → IsAnsweredAt c op (Report timed) a
      → is_loss_taken a ≡ true
      → step c (Hears FromServer (Answers a)) ≡ ends_step (unasked c) (WriteOk (span_of op).length)
