-- A step of the call's client that dealt with drives, where the call works on.
use Rattle.std.proofs.Common.{◌≡◌, ◌⊎◌, ◌≤◌, ◌+◌, ◌*◌, ◌||◌, ℕ, Bool, true, false, List, [], ◌++◌, length, map, filter, Option, Some, None, nat_lt, refl, sym, ap, subst, ◌∙◌, inl, inr, arith}
use Rattle.std.specs.List.{list_any}
use Rattle.std.proofs.lemmas.List.{length-append, length-map}
use Rattle.std.proofs.lemmas.List.Folds.{list_any-append}
use Rattle.server_rules.specs.Laws.{In}
use Rattle.server_rules.proofs.Members.{in_front, in_behind, in_either, one_in}
use Rattle.stripe_plan.specs.Lost.{among}
use Rattle.client_rules.specs.Commands.{counted}
use Rattle.client_rules.specs.Grants.{held_of}
use Rattle.client_rules.specs.Laws.{nonce_of}
use Rattle.client_rules.specs.Messages.{Step, to_drive}
use Rattle.client_rules.specs.Io.{awaited_in}
use Rattle.client_rules.proofs.HeldGrants.{put_at}
use Rattle.scenario_text.specs.declared.line.Line.{Line}
use Rattle.scenario_text.specs.declared.names.TheConstants.{DRIVES}
use Rattle.world_history.specs.ClientNames.{Client, CallOp, Held, Awaited, Phase, Starts, Needs, Waits, Reads, Probes, Gathers, Scatters, Outcome, Goes, Moved, Request}
use Rattle.world_history.specs.declared.messages.Message.{Message}
use Rattle.world_history.specs.State.{World, DriveAt, at_number}
use Rattle.world_history.specs.Handed.{Post, is_addressed, client_posts, ended_by}
use Rattle.world_history.specs.Moves.{acts}
use Rattle.world_history.specs.Sending.{Move, move}
use Rattle.history_law.specs.BookMoments.{lines_in}
use Rattle.exchange_law.specs.ClientNonces.{AllDiffer}
use Rattle.exchange_law.specs.Doing.{posted}
use Rattle.ready_law.specs.Answered.{ends_call}
use Rattle.ready_law.specs.Reacting as reacting
use Rattle.ready_law.specs.Reacting.{WorksWell, IsAwaitedWell, timed_in, is_writing}
use Rattle.ready_law.specs.Stepping.{holding, in_phase}
use Rattle.ready_law.proofs.ReactingGood.{good_still}
use Rattle.ready_law.proofs.Calls.{ReadyCall, op_at, file_at_call, kept_at, lost_at, first_at, queue_at, IsIn}
use Rattle.ready_law.proofs.Stages.{Caller, DrivesGoOn, IsAsBefore, AreOf, commands_in, command_message, IsWorking, HasGrant, asking_at, Works, GoesOn, Further}
use Rattle.ready_law.proofs.WorkingForms.{UnderGrant, CanWork, TakesTurn, TurnsOn}
use Rattle.ready_law.proofs.WorkingListed.{drive_named, awaited_at}
use Rattle.ready_law.proofs.WorkingMessages.{of_both, of_commands, commands_more, commands_all, all_named, commands_posted, posted_length, apart, differ_behind, own_all, own_both}

-- ---- what stays

-- the drives stay as they are
pub drives_on : {s : ReadyCall} {w v : World} → DrivesGoOn s w → v.drives ≡ w.drives → DrivesGoOn s v
drives_on {s} {w} {v} x same = record {
  each = λ d.
      subst (λ (ds : List (ℕ × DriveAt)). IsAsBefore (at_number s.world.drives d) (at_number ds d)) (sym same) (x.each d);
  stays = λ k at a b top place first now low old.
      x.stays k at a b top place first (ap (λ (ds : List (ℕ × DriveAt)). at_number ds at.drive) (sym same) ∙ now) low old;
  room = λ writes k at a touched place works stands.
      x.room writes k at a touched place works
      (ap (λ (ds : List (ℕ × DriveAt)). at_number ds at.drive) (sym same) ∙ stands);
}

works_phase : (h : Held) (op : CallOp) (lost : List ℕ) (p : Phase) → WorksWell h op lost p → IsWorking p
works_phase h op lost (Reads io) w = w.some
works_phase h op lost (Probes io) w = w.some
works_phase h op lost (Gathers io) w = w.some
works_phase h op lost (Scatters io queue) w = w.some
works_phase h op lost Starts w = absurd w.kind
works_phase h op lost (Needs n) w = absurd w.kind
works_phase h op lost (Waits n) w = absurd w.kind

-- the grant counts what is sent
under_counted : (s : ReadyCall) (w : World) (held : Held) (size : ℕ) (sent : List Awaited) → UnderGrant s w held size
    → UnderGrant s w (counted held sent) size
under_counted s w held size sent u = record {
  grants = u.grants;
  grant = u.grant;
  granted = u.granted;
  others = u.others;
  aside = u.aside;
  server = u.server;
  good = good_still held (op_at s) (lost_at s) sent u.good;
  listed = u.listed;
  agrees = record {
    file = u.agrees.file;
    number = u.agrees.number;
    rw = u.agrees.rw;
    extending = u.agrees.extending;
    first = u.agrees.first;
    end = u.agrees.end;
    map = u.agrees.map;
  };
  lists = u.lists;
  for_writing = u.for_writing;
}

-- ---- behind the step

-- the step of a client whose call goes on so with the drives, and works on in this phase
abbrev pub works_step : Client → CallOp → Moved → Phase → Step
works_step c op mv p = record { client = in_phase (holding c mv.held) op p; sends = map to_drive mv.sent; outcome = None }

module _ (s : ReadyCall) (w : World) (m : Move) (held : Held) (rest : List Message) (t : TakesTurn s w m held rest) where
  abbrev v : World
  v = (move w m).world

  abbrev posts : List Post
  posts = (acts w m.chosen m.action).posts

  -- the call's client
  abbrev pub caller_of : (p : Phase) (out : Option Request) (x : Client) → t.result.client ≡ x
      → x.call ≡ Some (record { op = op_at s; phase = p }) → x.outstanding ≡ out → x.due ≡ [] → Caller s v p out
  caller_of p out x is call o due = record {
    at = t.step.after;
    there = t.step.there;
    alive = t.step.stopped ∙ t.alive;
    call = ap (λ (z : Client). z.call) (t.step.state ∙ is) ∙ call;
    outstanding = ap (λ (z : Client). z.outstanding) (t.step.state ∙ is) ∙ o;
    due = ap (λ (z : Client). z.due) (t.step.state ∙ is) ∙ due;
  }

  -- what it posts is what the step sends
  pub posts_are : (x : Step) → t.result ≡ x
      → posts ≡ filter is_addressed (client_posts s.client t.step.wrote t.step.logged x.sends)
  posts_are x is =
      t.step.posts
      ∙ ap (λ (z : Step). filter is_addressed (client_posts s.client t.step.wrote t.step.logged z.sends)) is

  -- its lines, where it tells of no end
  pub no_end : (x : Step) → t.result ≡ x → x.outcome ≡ None → list_any (ends_call s.client) (lines_in w m) ≡ false
  no_end x is none =
      ap (list_any (ends_call s.client))
      (t.step.lines
      ∙ ap (λ (z : Step). t.step.front ++ (ended_by s.client (Some (op_at s)) z.outcome ++ t.step.back)) is
      ∙ ap (λ (o : Option Outcome). t.step.front ++ (ended_by s.client (Some (op_at s)) o ++ t.step.back)) none)
      ∙ list_any-append (ends_call s.client) t.step.front t.step.back
      ∙ ap (λ (b : Bool). b || list_any (ends_call s.client) t.step.back) (t.step.no_front s.client)
      ∙ t.step.no_back s.client

  -- ---- it works on

  -- it holds the grant, with the count of what was sent
  pub works_held : (mv : Moved) (p : Phase) → t.result ≡ works_step t.base (op_at s) mv p → mv.held ≡ counted held mv.sent
      → held_of t.step.after.state.held (file_at_call s) ≡ Some mv.held
  works_held mv p is same =
      ap (λ (x : Client). held_of x.held (file_at_call s)) (t.step.state ∙ ap (λ (x : Step). x.client) is)
      ∙ put_at t.base.held mv.held (file_at_call s) (ap (λ (x : Held). x.file) same ∙ t.file_is)

  module _ (mv : Moved) (h : List Line) (i : IsIn s v h) (u : UnderGrant s v held (kept_at s).size)
      (c : CanWork s v held u.grant) (begun : Held) (commands awaited waiting : List Awaited)
      (o : TurnsOn s w held begun mv commands awaited waiting rest) (p : Phase) (goes : mv.turn ≡ Goes p)
      (g : reacting.GoesOn held (op_at s) (lost_at s) awaited mv.held p mv.sent)
      (is : t.result ≡ works_step t.base (op_at s) mv p) where
    works_under : UnderGrant s v mv.held (kept_at s).size
    works_under =
        subst (λ (k : Held). UnderGrant s v k (kept_at s).size) (sym g.held) (under_counted s v held (kept_at s).size mv.sent u)

    sent_in : (y : Awaited) → In y mv.sent → In y (awaited_in p)
    sent_in y j = subst (In y) (sym g.awaited) (in_behind y awaited mv.sent j)

    sent_named : (y : Awaited) → In y mv.sent → nat_lt y.drive DRIVES ≡ true
    sent_named y j =
        let it = one_in (IsAwaitedWell mv.held (op_at s) (timed_in p) (is_writing p)) (awaited_in p) y g.works.awaited
        (sent_in y j) in
        let at = awaited_at s v mv.held (kept_at s).size works_under (timed_in p) (is_writing p) y it in
        ap (λ (d : ℕ). nat_lt d DRIVES) at.drive
        ∙ drive_named s v mv.held (kept_at s).size works_under h i y.ask.component at.component.at at.component.place

    works_posted : posted posts ≡ map (command_message s.client) mv.sent
    works_posted =
        ap posted (posts_are _ is)
        ∙ commands_posted s.client t.step.wrote t.step.logged mv.sent (all_named mv.sent sent_named)

    works_queue : queue_at s v ≡ rest ++ map (command_message s.client) mv.sent
    works_queue = t.queue ∙ ap (λ (ms : List Message). rest ++ ms) works_posted

    abbrev works_caller : Caller s v p None
    works_caller = caller_of p None _ (ap (λ (x : Step). x.client) is) refl t.free t.due

    abbrev works_has : HasGrant s v p None (kept_at s).size
    works_has = record {
      caller = works_caller;
      held = mv.held;
      holds = works_held mv p is g.held;
      grants = u.grants;
      grant = u.grant;
      granted = u.granted;
      others = u.others;
      aside = u.aside;
      server = u.server;
      good = works_under.good;
      listed = works_under.listed;
    }

    nonces_differ : AllDiffer (map nonce_of (awaited ++ mv.sent))
    nonces_differ = subst (λ (xs : List Awaited). AllDiffer (map nonce_of xs)) g.awaited g.works.differ

    works_heard : (x : Awaited) → In x (awaited_in p) → In x (waiting ++ mv.sent) ⊎ (among x.ask.component (lost_at s) ≡ true)
    works_heard x j = elim (in_either x awaited mv.sent (subst (In x) g.awaited j)) [
      | inl old ↦ elim (o.heard x old) [
        | inl still ↦ inl (in_front x waiting mv.sent still)
        | inr gone ↦ inr gone
      ]
      | inr new ↦ inl (in_behind x waiting mv.sent new)
    ]

    works_awaits : (x : Awaited) → In x (waiting ++ mv.sent) → In x (awaited_in p)
    works_awaits x j = elim (in_either x waiting mv.sent j) [
      | inl old ↦ subst (In x) (sym g.awaited) (in_front x awaited mv.sent (o.among_them x old))
      | inr new ↦ sent_in x new
    ]

    works_sent : length v.network.messages + commands_in (queue_at s v)
        ≤ first_at s + (asking_at s + 2 * length (commands ++ mv.sent))
    works_sent =
        omega (
          arith,
          o.sent,
          t.count,
          sym (posted_length posts) ∙ ap (λ (ms : List Message). length ms) works_posted
              ∙ length-map mv.sent (command_message s.client),
          ap commands_in works_queue ∙ commands_more rest (map (command_message s.client) mv.sent),
          commands_all s.client mv.sent,
          length-append commands mv.sent,
        )

    pub turn_works : GoesOn s v (lines_in w m)
    turn_works =
        Further
        (Works (record {
          phase = p;
          works = works_phase mv.held (op_at s) (lost_at s) p g.works;
          has = works_has;
          size = ap (λ (x : Held). x.size) g.held ∙ c.size;
          well = g.works;
          in_time = c.in_time;
          drives = c.drives;
          begun = begun;
          commands = commands ++ mv.sent;
          run = o.run p goes g.held;
          waiting = waiting ++ mv.sent;
          own =
              own_both waiting mv.sent o.own (own_all mv.sent (differ_behind awaited mv.sent nonces_differ))
              (λ x y j k. apart awaited mv.sent nonces_differ x y (o.among_them x j) k);
          queue =
              subst (AreOf s.client (waiting ++ mv.sent)) (sym works_queue)
              (of_both s.client waiting mv.sent rest (map (command_message s.client) mv.sent) o.queue
              (of_commands s.client mv.sent));
          awaited = works_awaits;
          heard = works_heard;
          sent = works_sent;
        }))
        (no_end _ is refl)
