-- A step of the call's client that dealt with drives, where the call is over, or asks the server.
use Rattle.std.proofs.Common.{◌≡◌, ◌+◌, ℕ, true, false, List, [], ◌∷◌, ◌++◌, length, Some, refl, sym, ap, ◌∙◌, arith, Option, is_some, subst, nat_lt, inl, inr}
use Rattle.std.specs.List.{list_any}
use Rattle.osd_lists.specs.declared.node.Node.TheVariants as node
use Rattle.layout_ops.specs.declared.args.Args.{Args}
use Rattle.layout_ops.specs.declared.envelope.Envelope.TheVariants as envelope
use Rattle.server_rules.specs.Laws.{In}
use Rattle.server_rules.proofs.Members.{in_map, one_in}
use Rattle.client_rules.specs.Calls.{is_write, span_of}
use Rattle.client_rules.specs.Going.{held_after, request_of}
use Rattle.client_rules.specs.Grants.{held_of, put_held}
use Rattle.client_rules.specs.Messages.{Step}
use Rattle.client_rules.specs.Requests.{commit_args}
use Rattle.client_rules.specs.Writes.{is_past_size}
use Rattle.client_rules.proofs.HeldGrants.{put_at}
use Rattle.scenario_text.specs.declared.line.Line.{Line}
use Rattle.scenario_text.specs.declared.line.Line.TheVariants as line
use Rattle.scenario_text.specs.declared.line.Outcome.{Outcome as ToldOutcome}
use Rattle.scenario_text.specs.declared.line.Outcome.TheVariants as told
use Rattle.world_history.specs.ClientNames.{Client, CallOp, Write, Read, Held, TimedOut, Need, Commit, Waits, Outcome, WriteOk, ReadOk, Request}
use Rattle.world_history.specs.declared.messages.Body.TheVariants.{Envelope as OfEnvelope}
use Rattle.world_history.specs.State.{World}
use Rattle.world_history.specs.Handed.{Post, ended_by}
use Rattle.world_history.specs.Moves.{acts}
use Rattle.world_history.specs.Sending.{Move, move}
use Rattle.history_law.specs.BookMoments.{lines_in}
use Rattle.exchange_law.specs.Doing.{posted}
use Rattle.ready_law.specs.Answered.{ends_call, IsOk}
use Rattle.ready_law.specs.Reacting.{components_of, IsLostThere, AreTimedWell, EndsWell}
use Rattle.ready_law.specs.Stepping.{holding, asks_step, ends_step}
use Rattle.ready_law.proofs.ReactingGood.{reached_there}
use Rattle.ready_law.proofs.Calls.{ReadyCall, op_at, file_at_call, kept_at, lost_at, queue_at, request_message}
use Rattle.ready_law.proofs.Stages.{Caller, IsAsked, HasSent, work_at, asking_at, AreSilent, Commits, GoesOn, Further, Over, IsRested, Serves, DrivesGoOn}
use Rattle.ready_law.proofs.WorkingForms.{UnderGrant, TakesTurn, EndsUnder}
use Rattle.ready_law.proofs.WorkingTurns.{caller_of, posts_are, no_end}
use Rattle.ready_law.proofs.Resting.{read_keeps, inside_keeps}
use Rattle.ready_law.specs.Rested.{size_after}
use Rattle.std.proofs.lemmas.Bool.{cases_Bool}
use Rattle.std.proofs.lemmas.Bool.Decides.{nat_tests}
use Rattle.world_history.specs.ServerNames.{Grant}

-- ---- it is over

-- how the call ended can be told, and it is well
record IsToldWell (c : ℕ) (op : CallOp) (o : Outcome) : Type 0 where
  outcome : ToldOutcome
  is : ended_by c (Some op) (Some o) ≡ line.Ended c outcome ∷ []
  ok : IsOk op outcome

told_well : (c : ℕ) (op : CallOp) (o : Outcome) → EndsWell op o → IsToldWell c op o
told_well c (Write file offset bytes) (WriteOk n) e = record { outcome = told.WriteOk n; is = refl; ok = e }
told_well c (Read file offset count) (ReadOk bytes) e = record { outcome = told.ReadOk bytes; is = refl; ok = tt }
told_well c op o e = absurd e

module _ (s : ReadyCall) (w : World) (m : Move) (held : Held) (u : Outcome) (t : TakesTurn s w m held [])
    (is : t.result ≡ ends_step (holding t.base held) u) where
  ends_posts : (acts w m.chosen m.action).posts ≡ []
  ends_posts = posts_are s w m held [] t _ is

  -- it is within the size
  not_past : (e : EndsUnder s (move w m).world held) → size_after (kept_at s) (op_at s) ≡ (kept_at s).size
  not_past e = elim (cases_Bool (is_write (op_at s))) [
    | inl writes ↦
        let low : nat_lt (kept_at s).size ((span_of (op_at s)).offset + (span_of (op_at s)).length) ≡ false =
        subst (λ (n : ℕ). nat_lt n ((span_of (op_at s)).offset + (span_of (op_at s)).length) ≡ false) e.size
        (e.low writes) in
        inside_keeps (kept_at s) (op_at s) (grind (arith, nat_tests, low))
    | inr reads ↦ read_keeps (kept_at s) (op_at s) reads
  ]

  ends_rested : EndsUnder s (move w m).world held → IsRested s (move w m).world
  ends_rested e =
      let after = t.step.state ∙ ap (λ (x : Step). x.client) is in
      record {
        grants = e.grants;
        server = subst (λ (n : ℕ). Serves s (move w m).world e.grants n) (sym (not_past e)) e.server;
        at = t.step.after;
        there = t.step.there;
        idle = record {
          alive = t.step.stopped ∙ t.alive;
          free = ap (λ (z : Client). z.call) after;
          answered = ap (λ (z : Client). z.outstanding) after ∙ t.free;
        };
        alike =
            ap (λ (z : Client). is_some (held_of z.held (file_at_call s))) after
            ∙ ap (λ (o : Option Held). is_some o) (put_at t.base.held held (file_at_call s) t.file_is)
            ∙ sym (ap (λ (o : Option Grant). is_some o) e.granted);
        others = e.others;
        aside = e.aside;
        drives = e.drives;
      }

  pub turn_ends : EndsUnder s (move w m).world held → EndsWell (op_at s) u → HasSent s w (asking_at s + work_at s)
      → GoesOn s (move w m).world (lines_in w m)
  turn_ends under well sent =
      let tells = told_well s.client (op_at s) u well in
      Over
      (record {
        at = t.step.after;
        there = t.step.there;
        free = ap (λ (z : Client). z.call) (t.step.state ∙ ap (λ (x : Step). x.client) is);
        queue = t.queue ∙ ap posted ends_posts;
        sent = omega (arith, sent, t.count, ap (λ (ps : List Post). length ps) ends_posts);
        rests = λ whole. ends_rested under;
      })
      (record {
        front = t.step.front;
        outcome = tells.outcome;
        back = t.step.back;
        lines_are =
            t.step.lines
            ∙ ap (λ (x : Step). t.step.front ++ (ended_by s.client (Some (op_at s)) x.outcome ++ t.step.back)) is
            ∙ ap (λ (ls : List Line). t.step.front ++ (ls ++ t.step.back)) tells.is;
        ok = tells.ok;
        once = (t.step.no_front s.client, t.step.no_back s.client);
      })

-- ---- it asks the server

module _ (s : ReadyCall) (w : World) (m : Move) (held : Held) (n : Need) (a : Args) (t : TakesTurn s w m held [])
    (is : t.result ≡ asks_step (holding t.base held) (op_at s) n a) where
  abbrev pub asked_request : Request
  asked_request = request_of (holding t.base held) (file_at_call s) a

  pub asks_queue : queue_at s (move w m).world ≡ request_message asked_request ∷ []
  asks_queue =
      t.queue
      ∙ ap posted (posts_are s w m held [] t _ is)
      ∙ ap (λ (c : ℕ). record { from = node.Client c; to = node.Server; body = OfEnvelope (envelope.Request asked_request) } ∷ [])
      (sym t.number)

  abbrev pub asks_caller : Caller s (move w m).world (Waits n) (Some asked_request)
  asks_caller =
      caller_of s w m held [] t (Waits n) (Some asked_request) _
      (ap (λ (x : Step). x.client) is) refl refl t.due

  pub asks_new : IsAsked s (move w m).world asked_request
  asks_new = record { client_is = t.number; file_is = refl; new = t.new }

  pub asks_quiet : list_any (ends_call s.client) (lines_in w m) ≡ false
  asks_quiet = no_end s w m held [] t _ is refl

  pub asks_sent : (k : ℕ) → HasSent s w k → HasSent s (move w m).world (k + 1)
  asks_sent k sent =
      let one : length (acts w m.chosen m.action).posts ≡ 1 =
      ap (λ (ps : List Post). length ps) (posts_are s w m held [] t _ is) in
      omega (arith, sent, t.count, one)

  -- what the client holds then
  pub asks_held : held_of asks_caller.at.state.held (file_at_call s)
      ≡ held_of (held_after (put_held t.base.held held) (file_at_call s) a) (file_at_call s)
  asks_held = ap (λ (x : Client). held_of x.held (file_at_call s)) (t.step.state ∙ ap (λ (x : Step). x.client) is)

-- ---- what timed out

-- what timed out is lost, touched and listed
pub are_silent : (s : ReadyCall) (w : World) (held : Held) (size : ℕ) → UnderGrant s w held size → is_write (op_at s) ≡ true
    → (timed : List TimedOut) → AreTimedWell held (op_at s) (lost_at s) timed → AreSilent s held timed
are_silent s w held size u writes timed well = record {
  lost = λ t i. (there t i).gone;
  touched = λ t i. reached_there (kept_at s) held (op_at s) u.agrees.map writes t.ask.component (there t i).asked.reached;
  listed = λ t i. (there t i).asked.listed;
}
  where
    there : (t : TimedOut) → In t timed → IsLostThere held (op_at s) (lost_at s) t.ask.component
    there t i =
        one_in (IsLostThere held (op_at s) (lost_at s)) (components_of timed) t.ask.component well.each
        (in_map (λ (x : TimedOut). x.ask.component) t timed i)

-- a new size is committed
pub turn_commits : (s : ReadyCall) (w : World) (m : Move) (held : Held) (timed : List TimedOut)
    (t : TakesTurn s w m held [])
    → t.result ≡ asks_step (holding t.base held) (op_at s) (Commit timed) (commit_args held (op_at s))
    → UnderGrant s (move w m).world held (kept_at s).size → DrivesGoOn s (move w m).world → is_write (op_at s) ≡ true
    → is_past_size held (op_at s) ≡ true → AreTimedWell held (op_at s) (lost_at s) timed
    → HasSent s w (asking_at s + work_at s) → GoesOn s (move w m).world (lines_in w m)
turn_commits s w m held timed t is u drives writes past well sent =
    let n : Need = Commit timed in
    let a : Args = commit_args held (op_at s) in
    Further
    (Commits (record {
      request = asked_request s w m held n a t is;
      timed = timed;
      has = record {
        caller = asks_caller s w m held n a t is;
        held = held;
        holds = asks_held s w m held n a t is ∙ put_at t.base.held held (file_at_call s) t.file_is;
        grants = u.grants;
        grant = u.grant;
        granted = u.granted;
        others = u.others;
        aside = u.aside;
        server = u.server;
        good = u.good;
        listed = u.listed;
      };
      writes = writes;
      silent = are_silent s (move w m).world held (kept_at s).size u writes timed well;
      args_are = refl;
      past = past;
      asked = asks_new s w m held n a t is;
      drives = drives;
      queue = asks_queue s w m held n a t is;
      sent = asks_sent s w m held n a t is (asking_at s + work_at s) sent;
    }))
    (asks_quiet s w m held n a t is)
