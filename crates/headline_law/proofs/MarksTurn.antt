-- A new WRITE of a client's own turn: its client scatters behind the move, and the machine's WRITE is of what it scatters.
-- Towards `NewScattered` (`proofs/MarksNewLogged.antt`).
use Rattle.std.proofs.Common.{◌≡◌, ◌==◌, ◌<◌, ◌++◌, ℕ, Bool, true, List, length, Option, Some, slice_get, sym, ap, subst, ◌∙◌, eq-eqb}
use Rattle.osd_lists.specs.declared.node.Node.TheVariants as node
use Rattle.osd_commands.specs.declared.commands.Command.{Command}
use Rattle.osd_drive.specs.Table.{is_write as is_write_action}
use Rattle.layout_ops.specs.declared.messages.Answer.{Answer}
use Rattle.scenario_text.specs.declared.line.Line.{Line}
use Rattle.scenario_text.specs.declared.names.TheConstants.{CLIENTS}
use Rattle.server_rules.specs.Laws.{In}
use Rattle.server_rules.specs.Slots.{slot_of}
use Rattle.server_rules.proofs.Members.{in_filtered}
use Rattle.client_rules.specs.Calls.{file_of}
use Rattle.client_rules.specs.History.{step}
use Rattle.world_history.specs.ClientNames.{ToDrive}
use Rattle.world_history.specs.ServerNames.{File}
use Rattle.world_history.specs.declared.messages.Body.TheVariants.{Command as OfCommand}
use Rattle.world_history.specs.declared.messages.Message.{Message}
use Rattle.world_history.specs.Handed.{client_posts, is_addressed}
use Rattle.world_history.specs.Moves.{acts}
use Rattle.world_history.specs.State.{World}
use Rattle.world_history.specs.Sending.{Move, move}
use Rattle.history_law.specs.Moments.{IsMoment, lines_in}
use Rattle.exchange_law.specs.Sent.{HasSent}
use Rattle.fence_law.specs.State as machine
use Rattle.fence_law.specs.State.{State}
use Rattle.fence_law.proofs.Safe.{safe_all}
use Rattle.fence_law.specs.Words.{In as InRun}
use Rattle.file_simulation.specs.Calls.{CallIs, CallOn, CallAt, IsClient}
use Rattle.file_simulation.specs.Claim.{IsOfScenario}
use Rattle.file_simulation.specs.ClientEvents.{Going, going_in}
use Rattle.file_simulation.specs.EventLists.{write_of}
use Rattle.file_simulation.specs.Events.{joined, events_of}
use Rattle.file_simulation.specs.Messages.{is_scatter}
use Rattle.file_simulation.specs.Relation.{client_of}
use Rattle.file_simulation.specs.Requests.{kept_for}
use Rattle.file_simulation.specs.Showing.{Pairs}
use Rattle.relation_law.specs.Frames.{ByClient}
use Rattle.relation_law.specs.Steps.{CallsGoOn, FollowsWhole, owed, whole_behind}
use Rattle.relation_law.specs.Working.{CallWorks}
use Rattle.relation_law.proofs.ComponentsGoOn.{client_file}
use Rattle.relation_law.proofs.ComponentsMoved.{behind as moment_behind, later, safe}
use Rattle.relation_law.proofs.FramesParties as parties
use Rattle.relation_law.proofs.RequestsReturns.{low}
use Rattle.headline_law.specs.Parts.{CutShown, cut_at}
use Rattle.headline_law.proofs.EntriesActs.{never_resends}
use Rattle.headline_law.proofs.MarksAgain.{entry_is}
use Rattle.headline_law.proofs.MarksNew.{IsNewWrite, OneGoes}
use Rattle.headline_law.proofs.MarksNewLogged.{IsOfScatter, NewScattered}
use Rattle.headline_law.proofs.MarksNewResends.{posts_to}
use Rattle.headline_law.proofs.MarksNewSent.{IsPostAt, post_at, post_in, posts_from}
use Rattle.headline_law.proofs.MarksWritesJoined.{TiedLaws}
use Rattle.headline_law.proofs.MarksWritesOld.{IsCommandOf}
use Rattle.headline_law.proofs.MarksWritesSent.{command_read}
use Rattle.headline_law.proofs.MarksWritesStood.{whole, cut_is}
use Rattle.headline_law.proofs.SentHeld.{IsHeldFor, held_for, works}
use Rattle.headline_law.proofs.SentMove.{IsSentNew, turn_sent}

-- what is known of the WRITEs that a client's turn sends
pub record ScatterLaws : Type 0 where
  pub tied : TiedLaws
  pub calls : CallsGoOn

module _ (laws : ScatterLaws) (w : World) (h : List Line) (m : Move) (f g : File) (s : State) (pairs : Pairs)
    (k : CutShown w h m (length (lines_in w m)) f g s pairs) (j : Going) (goes : going_in w m.action ≡ Some j)
    (n c d i : ℕ) (x : Command) (y : machine.Write) (is : IsNewWrite w h m f g s pairs k n c d i x y) where
  abbrev v : World
  v = (move w m).world

  all : FollowsWhole w h m f g s
  all = whole laws.tied.sent laws.tied.components laws.tied.lines laws.tied.notes w h m f g s pairs k

  cut_all : cut_at k.shown.follows ≡ whole_behind all
  unfolding all
  cut_all = cut_is laws.tied.sent laws.tied.components laws.tied.lines laws.tied.notes w h m f g s pairs k

  next : IsMoment (move w m).world (h ++ lines_in w m)
  next = moment_behind laws.tied.sent.moved w h m f g s all

  scenario : IsOfScenario (h ++ lines_in w m)
  scenario = later laws.tied.sent.moved w h m f g s all

  -- ---- the command that was sent

  its : (its : IsCommandOf (move w m).world c d x) × (is.posted.posted.message.body ≡ OfCommand its.command)
  its = command_read laws.tied.senders v (h ++ lines_in w m) next scenario n c d x is.posted

  by_client : ByClient w m.action j (acts w m.chosen m.action)
  by_client = parties.client_goes w h k.shown.follows.moment m k.shown.follows.is_due j goes

  post : IsPostAt w (acts w m.chosen m.action) n is.posted.posted.message
  post = post_at w m n c d x is.new is.posted

  mine : In post.post (client_posts j.client by_client.wrote by_client.logged (step j.state j.input).sends)
  mine =
      (in_filtered is_addressed post.post (client_posts j.client by_client.wrote by_client.logged (step j.state j.input).sends)
      (subst (In post.post) by_client.posts (post_in w m n is.posted.posted.message post))).0

  same_client : j.client ≡ c
  same_client =
      let both : node.Client j.client ≡ node.Client c =
      sym (posts_from j.client by_client.wrote by_client.logged (step j.state j.input).sends post.post mine)
      ∙ ap (λ (q : Message). q.from) (sym post.message) ∙ is.posted.sender in
      cc both

  sent_now : In (ToDrive d its.0.command) (step j.state j.input).sends
  sent_now =
      let r =
      posts_to j.client by_client.wrote by_client.logged (step j.state j.input).sends post.post d mine
      (ap (λ (q : Message). q.to) (sym post.message) ∙ is.posted.receiver) in
      let both : OfCommand r.0 ≡ OfCommand its.0.command =
      ap (λ (q : Message). q.body) (sym r.2) ∙ ap (λ (q : Message). q.body) (sym post.message) ∙ its.1 in
      let one : r.0 ≡ its.0.command = cc both in
      subst (λ (q : Command). In (ToDrive d q) (step j.state j.input).sends) one r.1

  has : HasSent (move w m).world j.client d its.0.command
  has = subst (λ (q : ℕ). HasSent (move w m).world q d its.0.command) (sym same_client) its.0.sent

  same_file : f ≡ g
  same_file =
      client_file w h m f g s k.shown.follows.moment k.shown.follows.is_due k.shown.follows.there k.shown.follows.run
      k.shown.follows.related j goes k.shown.follows.goes

  write_ : is_write_action its.0.command.action ≡ true
  write_ = ap is_write_action (its.0.action ∙ is.write)

  -- ---- the call that awaits it

  by_call : IsSentNew (move w m).world f.kept.number j.client i its.0.command
  by_call =
      turn_sent laws.tied.sent w h m f g s all j goes (never_resends w m.chosen m.action j goes)
      d i its.0.command is.at has sent_now write_
      (ap (λ (q : File). slice_get q.kept.components i) same_file ∙ is.found) (its.0.object ∙ is.object)

  call_works : CallWorks (client_of (move w m).world j.client).held (Some by_call.call)
  call_works =
      works laws.tied.sent.moved.held laws.tied.sent.moved.fresh v (h ++ lines_in w m) next scenario j.client by_call.call
      by_call.is by_call.awaited by_call.awaits

  held : IsHeldFor (move w m).world j.client by_call.call by_call.awaited
  held =
      held_for laws.tied.sent.moved.held laws.tied.sent.moved.fresh v (h ++ lines_in w m) next scenario j.client by_call.call
      by_call.is by_call.awaited by_call.awaits

  scatters : is_scatter by_call.call.phase ≡ true
  scatters =
      sym ((call_works.1 held.held held.holds).ones by_call.awaited by_call.awaits).action
      ∙ ap (λ (q : Command). is_write_action q.action) by_call.command ∙ write_

  low_ : j.client < CLIENTS
  low_ = low laws.tied.sent.moved.held w h m f g s all j goes

  -- ---- the entry at which the machine's client is

  abbrev o : Option Answer
  o = kept_for (slot_of v.server.slots j.client) (client_of v j.client).outstanding

  here : (file_of by_call.call.op == g.kept.number) ≡ true
  here =
      eq-eqb (file_of by_call.call.op) g.kept.number (by_call.here ∙ ap (λ (q : File). q.kept.number) same_file)

  same_client_ : j.client ≡ y.holder
  same_client_ = same_client ∙ sym is.holder

  call_is : CallIs g.kept.map (whole_behind all) y.holder by_call.call.op o by_call.call.phase
  call_is =
      let client : IsClient g.kept.number g.kept.map (whole_behind all) j.client (client_of v j.client) o =
      laws.calls w h m f g s all j.client low_ in
      let at_call : CallAt g.kept.number g.kept.map (whole_behind all) j.client o (Some by_call.call) =
      subst (CallAt g.kept.number g.kept.map (whole_behind all) j.client o) by_call.is client.call in
      subst (λ (q : ℕ). CallIs g.kept.map (whole_behind all) q by_call.call.op o by_call.call.phase) same_client_
      (subst (λ (b : Bool). CallOn b g.kept.map (whole_behind all) j.client by_call.call o) here at_call)

  scattered : IsOfScatter (move w m).world (cut_at k.shown.follows) f.kept.number y
  scattered =
      let z =
      entry_is (whole_behind all)
      (safe_all s (joined (events_of s w (owed all.follows.related) f m)) all.lawful (safe laws.tied.sent.moved w h m f g s all))
      g.kept.map y (subst (λ (t : State). InRun y t.writes) cut_all is.sent) by_call.call.op o by_call.call.phase scatters call_is
      by_call.awaited by_call.awaits (by_call.place ∙ sym is.there)
      (ap (λ (q : Command). q.nonce) by_call.command ∙ its.0.nonce ∙ sym is.nonce) in
      record {
        low = subst (λ (q : ℕ). q < CLIENTS) same_client_ low_;
        call = by_call.call;
        is = ap (λ (q : ℕ). (client_of v q).call) (sym same_client_) ∙ by_call.is;
        here = eq-eqb (file_of by_call.call.op) f.kept.number by_call.here;
        io = z.0;
        queue = z.1;
        phase = z.2;
        entry = z.3 ∙ ap (λ (t : State). write_of t y.holder) (sym cut_all);
      }

-- Each is of the write that its client scatters.
pub turns_scatter : ScatterLaws → NewScattered OneGoes
turns_scatter laws w h m f g s pairs p k tied writes e n c d i x y is =
    scattered laws w h m f g s pairs k p.0 p.1 n c d i x y is
