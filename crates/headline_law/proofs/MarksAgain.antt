-- A WRITE that a client sends again is of the write that its client scatters.
-- Towards `WritesStayTied` (`specs/MarksTied.antt`).
use Rattle.std.proofs.Common.{◌≡◌, ◌<◌, ◌++◌, ℕ, Bool, true, List, length, Option, Some, None, refl, sym, ap, subst, ◌∙◌, eq-eqb}
use Rattle.data_map.specs.declared.check.RawMap.{RawMap}
use Rattle.layout_ops.specs.declared.messages.Answer.{Answer}
use Rattle.osd_commands.specs.declared.actions.Action.{Action}
use Rattle.osd_commands.specs.declared.actions.Action.TheVariants.{Write}
use Rattle.osd_commands.specs.declared.commands.Command.{Command}
use Rattle.osd_drive.specs.Table.{is_write as is_write_action}
use Rattle.scenario_text.specs.declared.line.Line.{Line}
use Rattle.scenario_text.specs.declared.names.TheConstants.{CLIENTS}
use Rattle.server_rules.specs.Files.{file_at}
use Rattle.server_rules.specs.Laws.{In}
use Rattle.server_rules.specs.Slots.{slot_of}
use Rattle.client_rules.specs.Calls.{file_of}
use Rattle.client_rules.specs.Io.{awaited_in}
use Rattle.client_rules.specs.Messages.{awaited_of}
use Rattle.world_history.specs.ClientNames.{Awaited, Call, CallOp, Client, Io, Store, Phase, Starts, Needs, Waits, Reads, Probes, Gathers, Scatters}
use Rattle.world_history.specs.declared.messages.Body.TheVariants.{Command as OfCommand}
use Rattle.world_history.specs.declared.messages.Message.{Message}
use Rattle.world_history.specs.ServerNames.{File}
use Rattle.world_history.specs.State.{World, at_number}
use Rattle.world_history.specs.Sending.{Move, move}
use Rattle.history_law.specs.Moments.{IsMoment, lines_in}
use Rattle.exchange_law.specs.InStep.{state_of}
use Rattle.exchange_law.specs.Sent.{IsBacked}
use Rattle.fence_law.specs.State as machine
use Rattle.fence_law.specs.State.{State}
use Rattle.fence_law.specs.State.PartState.{Sent}
use Rattle.fence_law.specs.Words.{In as InRun}
use Rattle.fence_law.proofs.Safe.{Safe, safe_all}
use Rattle.file_simulation.specs.Calls.{CallIs, CallOn, CallAt, IsClient}
use Rattle.file_simulation.specs.Claim.{IsOfScenario}
use Rattle.file_simulation.specs.ClientEvents.{going_in}
use Rattle.file_simulation.specs.EventLists.{write_of}
use Rattle.file_simulation.specs.Events.{joined, events_of}
use Rattle.file_simulation.specs.Messages.{is_scatter}
use Rattle.file_simulation.specs.Relation.{client_of}
use Rattle.file_simulation.specs.Requests.{kept_for}
use Rattle.file_simulation.specs.Showing.{Pairs}
use Rattle.relation_law.specs.DriveHearing.{AwaitedAreSent}
use Rattle.relation_law.specs.Frames.{IsSameFile}
use Rattle.relation_law.specs.Steps.{FollowsWhole, CallsGoOn, owed, whole_behind}
use Rattle.relation_law.specs.Working.{CallWorks}
use Rattle.relation_law.proofs.ComponentsMoved.{behind as moment_behind, later, safe, scenario}
use Rattle.relation_law.proofs.ComponentsWorld.{awaited_are_sent}
use Rattle.relation_law.proofs.FramesFiles.{file_stays}
use Rattle.relation_law.proofs.FramesParties.{clients_rest}
use Rattle.relation_law.proofs.KeptCommits.{client_low}
use Rattle.relation_law.proofs.ComponentsAbove.{backed_there}
use Rattle.headline_law.specs.Parts.{CutShown, cut_at}
use Rattle.headline_law.proofs.MarksNew.{IsNewWrite, OneResends}
use Rattle.headline_law.proofs.MarksNewLogged.{IsOfScatter, NewScattered}
use Rattle.headline_law.proofs.MarksNewResends.{IsAwaitedAgain, awaited_again}
use Rattle.headline_law.proofs.MarksWritesJoined.{TiedLaws}
use Rattle.headline_law.proofs.MarksWritesOld.{IsCommandOf}
use Rattle.headline_law.proofs.MarksWritesSent.{command_read}
use Rattle.headline_law.proofs.MarksWritesStood.{whole, cut_is}
use Rattle.headline_law.proofs.SentHeld.{IsHeldFor, held_for, file_is, component_is, works_at}

-- what is known of histories, and of each move
pub record AgainLaws : Type 0 where
  pub tied : TiedLaws
  pub calls : CallsGoOn

-- the call that awaits a command
awaiting : (o : Option Call) (a : Awaited) → In a (awaited_of o) →
    (call : Call) × (o ≡ Some call) × In a (awaited_in call.phase)
awaiting None a i = absurd i
awaiting (Some call) a i = (call, refl, i)

-- a WRITE of the machine that a scattering call awaits is of the write that it scatters
module _ (t : State) (safe_ : Safe t) (m : RawMap) (y : machine.Write) (sent : InRun y t.writes) (op : CallOp)
    (o : Option Answer) where
  pub entry_is : (p : Phase) → is_scatter p ≡ true → CallIs m t y.holder op o p → (a : Awaited) → In a (awaited_in p) →
      a.ask.component ≡ y.at → a.command.nonce ≡ y.nonce →
      (io : Io) × (queue : List Store) × (p ≡ Scatters io queue) × (y.entry ≡ write_of t y.holder)
  entry_is Starts is k a i place nonce = absurd (cc is)
  entry_is (Needs need) is k a i place nonce = absurd (cc is)
  entry_is (Waits need) is k a i place nonce = absurd (cc is)
  entry_is (Reads io) is k a i place nonce = absurd (cc is)
  entry_is (Probes io) is k a i place nonce = absurd (cc is)
  entry_is (Gathers io) is k a i place nonce = absurd (cc is)
  entry_is (Scatters io queue) is k a i place nonce =
      let own = safe_.own y sent k.0 a.ask.offset k.1.writing.at_
      (ap (λ (n : ℕ). t.out y.holder n a.ask.offset) (sym place) ∙ k.1.out.sent a i ∙ ap (λ (n : ℕ). Sent n) nonce) in
      (io, queue, refl, own.0 ∙ sym k.1.writing.last)

module _ (laws : AgainLaws) (w : World) (h : List Line) (m : Move) (f g : File) (s : State) (pairs : Pairs)
    (k : CutShown w h m (length (lines_in w m)) f g s pairs) (again : OneResends w m) (n c d i : ℕ) (x : Command)
    (y : machine.Write) (is : IsNewWrite w h m f g s pairs k n c d i x y) where
  abbrev v : World
  v = (move w m).world

  abbrev t : State
  t = cut_at k.shown.follows

  all : FollowsWhole w h m f g s
  all = whole laws.tied.sent laws.tied.components laws.tied.lines laws.tied.notes w h m f g s pairs k

  same_cut : cut_at k.shown.follows ≡ whole_behind all
  unfolding all
  same_cut = cut_is laws.tied.sent laws.tied.components laws.tied.lines laws.tied.notes w h m f g s pairs k

  before : IsOfScenario h
  before = scenario laws.tied.sent.moved w h m f g s all

  next : IsMoment (move w m).world (h ++ lines_in w m)
  next = moment_behind laws.tied.sent.moved w h m f g s all

  then_ : IsOfScenario (h ++ lines_in w m)
  then_ = later laws.tied.sent.moved w h m f g s all

  safe_then : Safe (cut_at k.shown.follows)
  safe_then =
      subst Safe (sym same_cut)
      (safe_all s (joined (events_of s w (owed all.follows.related) f m)) all.lawful
      (safe laws.tied.sent.moved w h m f g s all))

  -- ---- what is awaited

  sent_before : AwaitedAreSent w
  sent_before = awaited_are_sent laws.tied.sent.moved.known w h k.shown.follows.moment before.few

  z : IsAwaitedAgain w c d is.posted.posted.message
  z = awaited_again w m again sent_before n c d x is.new is.posted

  read : (q : IsCommandOf (move w m).world c d x) × (is.posted.posted.message.body ≡ OfCommand q.command)
  read = command_read laws.tied.senders (move w m).world (h ++ lines_in w m) next then_ n c d x is.posted

  same_command : read.0.command ≡ z.awaited.command
  same_command =
      let both : OfCommand read.0.command ≡ OfCommand z.awaited.command =
      sym read.1 ∙ ap (λ (b : Message). b.body) z.message in
      cc both

  action : z.awaited.command.action ≡ Write
  action = ap (λ (q : Command). q.action) (sym same_command) ∙ read.0.action ∙ is.write

  nonce : z.awaited.command.nonce ≡ y.nonce
  nonce = ap (λ (q : Command). q.nonce) (sym same_command) ∙ read.0.nonce ∙ sym is.nonce

  object : is.at.object ≡ z.awaited.command.object
  object = sym is.object ∙ sym read.0.object ∙ ap (λ (q : Command). q.object) same_command

  backed : IsBacked z.awaited.command
  backed =
      backed_there laws.tied.sent.moved.answers w h k.shown.follows.moment before c z.awaited.drive z.awaited.command
      (sent_before c z.at z.found z.awaited z.there)

  -- ---- the call

  its_call : (call : Call) × (z.at.state.call ≡ Some call) × In z.awaited (awaited_in call.phase)
  its_call = awaiting z.at.state.call z.awaited z.there

  none : going_in w m.action ≡ None
  none = ap (going_in w) again.1

  client_is : client_of (move w m).world c ≡ z.at.state
  client_is = clients_rest w h k.shown.follows.moment m k.shown.follows.is_due none c ∙ ap (state_of c) z.found

  call_is : (client_of (move w m).world c).call ≡ Some its_call.0
  call_is = ap (λ (q : Client). q.call) client_is ∙ its_call.1

  same_file : IsSameFile f g
  same_file =
      (file_stays w h k.shown.follows.moment m k.shown.follows.is_due f.kept.number f g k.shown.follows.there
      k.shown.follows.goes).same

  there : file_at (move w m).world.server.files g.kept.number ≡ Some g
  there = subst (λ (q : ℕ). file_at (move w m).world.server.files q ≡ Some g) (sym same_file.number) k.shown.follows.goes

  holds : IsHeldFor (move w m).world c its_call.0 z.awaited
  holds =
      held_for laws.tied.sent.moved.held laws.tied.sent.moved.fresh (move w m).world (h ++ lines_in w m) next then_ c
      its_call.0 call_is z.awaited its_call.2

  file_here : file_of its_call.0.op ≡ g.kept.number
  file_here =
      file_is laws.tied.sent.moved.held laws.tied.sent.moved.fresh (move w m).world (h ++ lines_in w m) next then_ c
      its_call.0 call_is z.awaited its_call.2 backed g there i is.at is.found object

  component_here : z.awaited.ask.component ≡ i
  component_here =
      component_is laws.tied.sent.moved.held laws.tied.sent.moved.fresh (move w m).world (h ++ lines_in w m) next then_ c
      its_call.0 call_is z.awaited its_call.2 backed g
      (subst (λ (q : ℕ). file_at (move w m).world.server.files q ≡ Some g) (sym file_here) there) i is.at is.found object

  works : CallWorks (client_of (move w m).world c).held (Some its_call.0)
  works =
      subst (CallWorks (client_of (move w m).world c).held) call_is
      (works_at laws.tied.sent.moved.held laws.tied.sent.moved.fresh (move w m).world (h ++ lines_in w m) next then_ c
      (at_number (move w m).world.clients c) refl)

  scatters : is_scatter its_call.0.phase ≡ true
  scatters =
      sym ((works.1 holds.held holds.holds).ones z.awaited its_call.2).action
      ∙ ap (λ (a : Action). is_write_action a) action

  low : c < CLIENTS
  low = client_low w h k.shown.follows.moment before.text c z.at z.found

  -- ---- the machine

  abbrev o : Option Answer
  o = kept_for (slot_of v.server.slots c) (client_of v c).outstanding

  its_client : IsClient g.kept.number g.kept.map (whole_behind all) c (client_of (move w m).world c)
      (kept_for (slot_of (move w m).world.server.slots c) (client_of (move w m).world c).outstanding)
  its_client = laws.calls w h m f g s all c low

  call_at : CallAt g.kept.number g.kept.map (cut_at k.shown.follows) c
      (kept_for (slot_of (move w m).world.server.slots c) (client_of (move w m).world c).outstanding) (Some its_call.0)
  call_at =
      subst (λ (u : State). CallAt g.kept.number g.kept.map u c o (Some its_call.0)) (sym same_cut)
      (subst (CallAt g.kept.number g.kept.map (whole_behind all) c o) call_is its_client.call)

  phase_is : CallIs g.kept.map (cut_at k.shown.follows) y.holder its_call.0.op
      (kept_for (slot_of (move w m).world.server.slots c) (client_of (move w m).world c).outstanding) its_call.0.phase
  phase_is =
      subst (λ (q : ℕ). CallIs g.kept.map t q its_call.0.op o its_call.0.phase) (sym is.holder)
      (subst (λ (b : Bool). CallOn b g.kept.map t c its_call.0 o)
      (eq-eqb (file_of its_call.0.op) g.kept.number file_here) call_at)

  of_scatter : IsOfScatter (move w m).world (cut_at k.shown.follows) f.kept.number y
  of_scatter =
      let e = entry_is t safe_then g.kept.map y is.sent its_call.0.op o its_call.0.phase scatters phase_is z.awaited
      its_call.2 (component_here ∙ sym is.there) nonce in
      record {
        low = subst (λ (q : ℕ). q < CLIENTS) (sym is.holder) low;
        call = its_call.0;
        is = ap (λ (q : ℕ). (client_of v q).call) is.holder ∙ call_is;
        here = eq-eqb (file_of its_call.0.op) f.kept.number (file_here ∙ same_file.number);
        io = e.0;
        queue = e.1;
        phase = e.2;
        entry = e.3;
      }

pub again_scatters : AgainLaws → NewScattered OneResends
again_scatters laws w h m f g s pairs again k tied writes e n c d i x y is =
    of_scatter laws w h m f g s pairs k again n c d i x y is
