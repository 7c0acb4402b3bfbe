-- What a move of a call's event tells, and what the log keeps then: no loss is told, and the call's data are logged once.
use Rattle.cause_law.proofs.Frames.{delivered_act}
use Rattle.cause_law.proofs.Moving.{none_short}
use Rattle.cause_law.proofs.Reported.{read_whole}
use Rattle.cause_law.proofs.Sends.{outstanding_of}
use Rattle.client_rules.specs.Calls.{bytes_of, is_write, span_of}
use Rattle.client_rules.specs.History.{Calls, Hears, step}
use Rattle.client_rules.specs.Messages.{Message as ClientMessage, Step as ClientStep}
use Rattle.client_rules.specs.Requests.{asked_span, commit_args, get_args, plain_update, return_args}
use Rattle.client_rules.specs.Steps.{calls}
use Rattle.exchange_law.proofs.HeldWorlds.{readable_there}
use Rattle.exchange_law.proofs.SlotReading.{server_reads_none}
use Rattle.generate_law.proofs.KeptLogs.{MayLog, called_logs, handed_logs, logged_in, spare, spare_of}
use Rattle.generate_law.proofs.KeptNotes.{commit_quiet, get_quiet, request_quiet, return_quiet}
use Rattle.history_law.specs.BookMoments.{lines_in}
use Rattle.history_law.specs.Moments.{with_event}
use Rattle.layout_ops.proofs.Whole.{all_again}
use Rattle.layout_ops.specs.declared.statuses.TheConstants.{LAYOUTIOMODE4_READ, LAYOUTIOMODE4_RW}
use Rattle.layout_types.proofs.Codecs.{update_codec}
use Rattle.layout_types.proofs.Steps.{all_again as part_again}
use Rattle.layout_types.specs.Reading.{update_in}
use Rattle.layout_types.specs.Spelling.{UpdateFits, update_item}
use Rattle.lossless_law.specs.Lossless.{TellsNoLoss}
use Rattle.osd_lists.specs.declared.node.Node.{Node}
use Rattle.ready_law.proofs.Calls.{DeliversHead, ReadyCall, op_at, request_message}
use Rattle.ready_law.proofs.Stages.{IsRecallAnswer}
use Rattle.ready_law.specs.Fair.{IsFair}
use Rattle.scenario_text.specs.declared.line.Line.{Line}
use Rattle.scenario_text.specs.declared.line.Outcome.{Outcome as ToldOutcome}
use Rattle.server_rules.specs.Envelopes.{asked_in, by_envelope, commit_in, message_in, request_with, return_in}
use Rattle.server_rules.specs.Files.{Step as ServerStep, at_file, file_at, still}
use Rattle.server_rules.specs.Get.{must_fence}
use Rattle.server_rules.specs.Grants.{against, any_expired, asked, grant_of}
use Rattle.server_rules.specs.Messages.{Asks, Message as ServerMessage, Orders, Replies, counters_have_room, on_message}
use Rattle.server_rules.specs.Requests.{serves}
use Rattle.std.proofs.Common.{ℕ, Bool, Err, List, None, Ok, Option, Result, Some, [], ap, arith, false, find, if◌then◌else◌, is_some, length, nat_lt, refl, subst, sym, true, ◌++◌, ◌+◌, ◌-◌, ◌==◌, ◌||◌, ◌∙◌, ◌∷◌, ◌≡◌, ◌≤◌}
use Rattle.std.proofs.lemmas.Bool.Decides.{nat_tests}
use Rattle.std.specs.List.{AllByRecursion, filter_map}
use Rattle.world_history.specs.ClientNames.{CallErr, CallOp, Held, Outcome, Request}
use Rattle.world_history.specs.Drives.{command_in, is_deaf, judges}
use Rattle.world_history.specs.Handed.{Handed, Post, client_did, client_hears, client_takes, drive_hears, drive_replies, end_line, ended_by, for_client, for_server, handed_to, pending_op, quiet, server_takes}
use Rattle.world_history.specs.Moves.{Act, Action, Opens, acts, begins, by_client, called, calls_at, marked, told_delivered}
use Rattle.world_history.specs.Names.{known_note_line, known_outcome}
use Rattle.world_history.specs.Sending.{Move, move, sent_lines}
use Rattle.world_history.specs.ServerNames.{ClientRequest, Commit, Effects, File, Get, Grant, Note, RequestArgs, Return, Server}
use Rattle.world_history.specs.State.{ClientAt, DriveAt, World, at_number}
use Rattle.world_history.specs.Told.{kind_of}
use Rattle.world_history.specs.declared.messages.Message.{Message}
use Rattle.scenario_text.specs.declared.line.Delivery.TheVariants as delivery
use Rattle.scenario_text.specs.declared.event.Event.TheVariants as event
use Rattle.layout_ops.specs.declared.envelope.Envelope.TheVariants as envelope
use Rattle.osd_lists.specs.declared.node.Node.TheVariants as node

abbrev pub NoLoss : List Line → Type 0
NoLoss ls = AllByRecursion TellsNoLoss ls

-- ---- lines

pub sent_no_loss : (n : ℕ) (ps : List Post) → NoLoss (sent_lines n ps)
unfolding sent_lines
sent_no_loss n [] = tt
sent_no_loss n (p ∷ ps) = (tt, sent_no_loss (n + 1) ps)

pub both_no_loss : (xs ys : List Line) → NoLoss xs → NoLoss ys → NoLoss (xs ++ ys)
both_no_loss [] ys p q = q
both_no_loss (x ∷ xs) ys p q = (p.0, both_no_loss xs ys p.1 q)

end_no_loss : (c : ℕ) (o : Option ToldOutcome) → NoLoss (end_line c o)
end_no_loss c None = tt
end_no_loss c (Some o) = (tt, tt)

ended_no_loss : (c : ℕ) (op : Option CallOp) (o : Option Outcome) → NoLoss (ended_by c op o)
ended_no_loss c None o = tt
ended_no_loss c (Some op) None = tt
ended_no_loss c (Some op) (Some o) = end_no_loss c (known_outcome (kind_of op) o)

-- ---- a message comes to a party

-- the server notes nothing of what it reads in the message
abbrev pub ServerIsQuiet : World → (chosen : List ℕ) → Message → Type 0
ServerIsQuiet w chosen x =
    (y : ServerMessage) → for_server x ≡ Some y → (on_message w.server w.clock chosen x.from y).notes ≡ []

-- A client to which the message comes is the call's own, or has no call; and the server notes nothing of it.
pub record MayHear (s : ReadyCall) (w : World) (chosen : List ℕ) (x : Message) : Type 0 where
  pub client : (k : ℕ) (a : ClientAt) → x.to ≡ node.Client k → at_number w.clients k ≡ Some a
      → MayLog s.client (length (bytes_of (op_at s))) k a
  pub server : x.to ≡ node.Server → ServerIsQuiet w chosen x

module _ (w : World) (chosen : List ℕ) (x : Message) where
  either : (b : Bool) (p q : Handed) → NoLoss p.told → NoLoss q.told → NoLoss (if b then p else q).told
  either true p q k l = k
  either false p q k l = l

  server_told : (m : Option ServerMessage) → for_server x ≡ m → ServerIsQuiet w chosen x
      → NoLoss (server_takes w chosen x.from m).told
  server_told None is quiet_of = tt
  server_told (Some y) is quiet_of =
      subst (λ (ns : List Note). NoLoss (filter_map known_note_line ns)) (sym (quiet_of y is)) tt

  drive_told : (d : ℕ) (a : Option DriveAt) → NoLoss (drive_hears w d x a).told
  drive_told d None = tt
  drive_told d (Some a) =
      either (is_deaf a) (quiet w delivery.Deaf) (drive_replies w d x.from (judges a (command_in x.body))) tt tt

  takes_told : (c : ℕ) (a : ClientAt) (m : Option ClientMessage) → NoLoss (client_takes w c a x.from m).told
  takes_told c a None = tt
  takes_told c a (Some y) = ended_no_loss c (pending_op a.state) (step a.state (Hears x.from y)).outcome

  client_told : (c : ℕ) (a : Option ClientAt) → NoLoss (client_hears w c x a).told
  client_told c None = tt
  client_told c (Some a) =
      either a.stopped (quiet w delivery.Deaf) (client_takes w c a x.from (for_client x)) tt (takes_told c a (for_client x))

  handed_told : (to : Node) → (to ≡ node.Server → ServerIsQuiet w chosen x) → NoLoss (handed_to w chosen x to).told
  handed_told node.Server quiet_of =
      either w.down (quiet w delivery.Deaf) (server_takes w chosen x.from (for_server x)) tt
      (server_told (for_server x) refl (quiet_of refl))
  handed_told (node.Drive d) quiet_of = drive_told d (at_number w.drives d)
  handed_told (node.Client c) quiet_of = client_told c (at_number w.clients c)

-- ---- the move

-- The move tells no loss, and what it logs, with what may still be logged of the call, is no more than before.
pub record GoesQuietly (s : ReadyCall) (w : World) (m : Move) : Type 0 where
  pub told : NoLoss (lines_in w m)
  pub logs : logged_in (acts w m.chosen m.action).posts
      + spare_of (length (bytes_of (op_at s))) (at_number (move w m).world.clients s.client)
      ≤ spare_of (length (bytes_of (op_at s))) (at_number w.clients s.client)

pub delivers_quietly : (s : ReadyCall) (w : World) (m : Move) (x : Message) (rest : List Message) → DeliversHead s w m x rest
    → MayHear s w m.chosen x → GoesQuietly s w m
delivers_quietly s w m x rest d hear =
    let v : World = marked w d.number d.posted_as in
    let n : ℕ = length (bytes_of (op_at s)) in
    let is : acts w m.chosen m.action ≡ told_delivered d.number (handed_to v m.chosen x x.to) =
    ap (acts w m.chosen) d.action_is ∙ delivered_act w m.chosen d.number d.posted_as d.found
    ∙ ap (λ (z : Message). told_delivered d.number (handed_to v m.chosen z z.to)) d.message_is in
    let lines : NoLoss (move w m).lines =
    subst (λ (a : Act). NoLoss (a.told ++ sent_lines (length a.world.network.messages) a.posts)) (sym is)
    (both_no_loss (told_delivered d.number (handed_to v m.chosen x x.to)).told
    (sent_lines (length (handed_to v m.chosen x x.to).world.network.messages) (handed_to v m.chosen x x.to).posts)
    (tt, handed_told v m.chosen x x.to hear.server)
    (sent_no_loss (length (handed_to v m.chosen x x.to).world.network.messages) (handed_to v m.chosen x x.to).posts)) in
    record {
      told = subst (λ (a : Action). NoLoss (with_event a (move w m).lines)) (sym d.action_is) lines;
      logs =
          subst (λ (a : Act). logged_in a.posts + spare_of n (at_number a.world.clients s.client)
          ≤ spare_of n (at_number w.clients s.client)) (sym is)
          (handed_logs s.client n v m.chosen x x.to hear.client);
    }

-- ---- the opening move

spare_most : (n : ℕ) (o : Option ClientAt) → spare_of n o ≤ n
spare_most n None = omega arith
spare_most n (Some a) = by a.wrote
  where
    by : (b : Bool) → spare n b ≤ n
    by true = omega arith
    by false = omega arith

pub record OpensQuietly (s : ReadyCall) (m : Move) : Type 0 where
  pub told : NoLoss (lines_in s.world m)
  pub logs : logged_in (acts s.world m.chosen m.action).posts
      + spare_of (length (bytes_of (op_at s))) (at_number (move s.world m).world.clients s.client)
      ≤ length (bytes_of (op_at s))

module _ (s : ReadyCall) (m : Move) (opens : m.action ≡ Opens (event.Do s.client s.its)) where
  abbrev n : ℕ
  n = length (bytes_of (op_at s))

  abbrev a : ClientAt
  a = s.ready.caller

  abbrev IsGood : Act → Type 0
  IsGood x =
      NoLoss (x.told ++ sent_lines (length x.world.network.messages) x.posts)
      × (logged_in x.posts + spare_of n (at_number x.world.clients s.client) ≤ n)

  by_result : (r : Result ClientStep CallErr) → IsGood (called s.world s.client a (op_at s) r)
  by_result (Err e) =
      let x : Act = called s.world s.client a (op_at s) (Err e) in
      let told : NoLoss x.told = (tt, tt) in (
        both_no_loss x.told (sent_lines (length x.world.network.messages) x.posts) told
            (sent_no_loss (length x.world.network.messages) x.posts),
        omega (arith, spare_most n (at_number s.world.clients s.client)),
      )
  by_result (Ok t) =
      let x : Handed = client_did s.world s.client a (Calls (op_at s)) t in (
        both_no_loss x.told (sent_lines (length x.world.network.messages) x.posts)
            (ended_no_loss s.client (Some (op_at s)) t.outcome)
            (sent_no_loss (length x.world.network.messages) x.posts),
        called_logs s.world s.client a (op_at s) t s.ready.there,
      )

  opened : IsGood (acts s.world m.chosen m.action)
  unfolding begins calls_at
  opened =
      subst IsGood
      (sym (ap (acts s.world m.chosen) opens
      ∙ ap (by_client s.world (λ (b : ClientAt). called s.world s.client b (op_at s) (calls b.state (op_at s)))) s.ready.there))
      (by_result (calls a.state (op_at s)))

  pub opens_quietly : OpensQuietly s m
  opens_quietly = record {
    told =
        subst (λ (x : Action). NoLoss (with_event x (move s.world m).lines)) (sym opens) (tt, opened.0);
    logs = opened.1;
  }

-- ---- what the server reads

either_step : (b : Bool) (x y : ServerStep) → x.notes ≡ [] → y.notes ≡ [] → (if b then x else y).notes ≡ []
either_step true x y p q = p
either_step false x y p q = q

-- a client's message that is no request is nothing to the server
not_asked : (s : Server) (now : ℕ) (chosen : List ℕ) (c : ℕ) (y : ServerMessage)
    → ((q : ClientRequest) → y ≡ Asks q → ⊥) → (on_message s now chosen (node.Client c) y).notes ≡ []
unfolding on_message
not_asked s now chosen c (Asks q) none = absurd (none q refl)
not_asked s now chosen c (Replies r) none = either_step (counters_have_room s) (still s) (still s) refl refl
not_asked s now chosen c (Orders o) none = either_step (counters_have_room s) (still s) (still s) refl refl

pub recall_answer_quiet : (w : World) (chosen : List ℕ) (c : ℕ) (x : Message) → IsRecallAnswer c x → ServerIsQuiet w chosen x
recall_answer_quiet w chosen c x it =
    subst (ServerIsQuiet w chosen) (sym it.message_is)
    (λ y is. not_asked w.server w.clock chosen c y
    (λ q e. server_reads_none c it.answer q (is ∙ ap (λ (z : ServerMessage). Some z) e)))

-- a request of which nothing is noted at its file
pub request_is_quiet : (w : World) (h : List Line) → IsFair w h → (chosen : List ℕ) (q : Request)
    → outstanding_of w q.client ≡ Some q → (r : RequestArgs) → asked_in q.args ≡ Some r
    → ((f : File) → file_at w.server.files q.file ≡ Some f
    → (serves (at_file w.server chosen f) w.server.next_grant w.server.format w.clock q.client r).going.effects.notes ≡ [])
    → ServerIsQuiet w chosen (request_message q)
unfolding message_in
request_is_quiet w h fair chosen q out r asked_is none y is =
    let read : for_server (request_message q)
    ≡ Some (Asks (record { client = q.client; sequence = q.sequence; file = q.file; args = r })) =
    ap by_envelope
    (all_again (envelope.Request q) ((readable_there w h fair.moment fair.readable).requests q.client q out))
    ∙ ap (λ (o : Option RequestArgs). request_with q o) asked_is in
    let same : y ≡ Asks (record { client = q.client; sequence = q.sequence; file = q.file; args = r }) = cc (sym is ∙ read) in
    subst (λ (z : ServerMessage). (on_message w.server w.clock chosen (node.Client q.client) z).notes ≡ []) (sym same)
    (request_quiet w.server w.clock chosen q.client _ none)

none_noted : (s : Server) (chosen : List ℕ) (f : File) (e : Effects) → e ≡ (at_file s chosen f).effects → e.notes ≡ []
none_noted s chosen f e is = ap (λ (x : Effects). x.notes) is

pub return_asked : (n : ℕ) → asked_in (return_args n []) ≡ Some (Return [])
return_asked n = ap return_in (read_whole [] none_short)

pub commit_asked : (h : Held) (op : CallOp)
    → asked_in (commit_args h op) ≡ Some (Commit (Some ((span_of op).offset + (span_of op).length - 1)))
commit_asked h op =
    ap (commit_in (Some ((span_of op).offset + (span_of op).length - 1)))
    (part_again update_in update_item UpdateFits update_codec plain_update tt)

module _ (w : World) (h : List Line) (fair : IsFair w h) (chosen : List ℕ) (q : Request)
    (out : outstanding_of w q.client ≡ Some q) where
  pub returns_quietly : (n : ℕ) → q.args ≡ return_args n [] → ServerIsQuiet w chosen (request_message q)
  returns_quietly n is =
      request_is_quiet w h fair chosen q out (Return []) (ap asked_in is ∙ return_asked n)
      (λ f found. none_noted w.server chosen f _ (return_quiet (at_file w.server chosen f) w.server.format q.client))

  pub commits_quietly : (g : Held) (op : CallOp) → q.args ≡ commit_args g op → ServerIsQuiet w chosen (request_message q)
  commits_quietly g op is =
      request_is_quiet w h fair chosen q out (Commit (Some ((span_of op).offset + (span_of op).length - 1)))
      (ap asked_in is ∙ commit_asked g op)
      (λ f found. none_noted w.server chosen f _ (commit_quiet (at_file w.server chosen f) q.client _))

  pub gets_quietly : (op : CallOp) → q.args ≡ get_args op → w.clock ≡ 0
      → ((f : File) → file_at w.server.files q.file ≡ Some f → grant_of f.kept.grants q.client ≡ None)
      → ServerIsQuiet w chosen (request_message q)
  unfolding must_fence asked
  gets_quietly op is clock none =
      request_is_quiet w h fair chosen q out (Get (mode (is_write op)) (asked_span op).offset (asked_span op).length)
      (ap asked_in is)
      (λ f found. none_noted w.server chosen f _
      (get_quiet (at_file w.server chosen f) w.server.next_grant w.server.format w.clock q.client (mode (is_write op))
      (asked_span op).offset (asked_span op).length (no_fence f (none f found) (mode (is_write op) == LAYOUTIOMODE4_RW))))
    where
      mode : Bool → ℕ
      mode b = if b then LAYOUTIOMODE4_RW else LAYOUTIOMODE4_READ

      never : (k : ℕ) → nat_lt k 0 ≡ false
      never k = grind (arith, nat_tests)

      none_found : (gs : List Grant) → find (λ (g : Grant). nat_lt g.expiry 0) gs ≡ None
      none_found [] = refl
      none_found (g ∷ gs) = rw (never g.expiry) (none_found gs)

      none_expired : (now : ℕ) (gs : List Grant) → now ≡ 0 → any_expired now gs ≡ false
      none_expired now gs zero_is =
          ap (λ (k : ℕ). any_expired k gs) zero_is ∙ ap (λ (o : Option Grant). is_some o) (none_found gs)

      no_fence : (f : File) → grant_of f.kept.grants q.client ≡ None → (rw_is : Bool)
          → must_fence w.clock f.kept.grants
          (asked f.kept w.server.next_grant q.client w.clock (asked_span op).offset (asked_span op).length rw_is) ≡ false
      no_fence f own rw_is =
          ap (λ (o : Option Grant). is_some o || any_expired w.clock (against f.kept.grants
          (asked f.kept w.server.next_grant q.client w.clock (asked_span op).offset (asked_span op).length rw_is))) own
          ∙ none_expired w.clock (against f.kept.grants
          (asked f.kept w.server.next_grant q.client w.clock (asked_span op).offset (asked_span op).length rw_is)) clock
