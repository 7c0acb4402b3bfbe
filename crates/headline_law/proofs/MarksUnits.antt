-- What a new WRITE carries is in the unit in which it begins: it was sent before, or its client scatters it behind the move.
-- Towards `WritesStayTied` (`specs/MarksTied.antt`).
use Rattle.std.proofs.Common.{◌≡◌, ◌<◌, ◌++◌, ℕ, true, List, slice_get, Option, Some, None, refl, sym, ap, subst, ◌∙◌}
use Rattle.data_map.specs.declared.check.RawMap.{RawMap}
use Rattle.data_map.specs.Check.{IsChecked}
use Rattle.osd_commands.specs.declared.actions.Action.TheVariants.{Write}
use Rattle.osd_commands.specs.declared.commands.Command.{Command}
use Rattle.osd_drive.specs.Table.{is_write as is_write_action}
use Rattle.scenario_text.specs.declared.line.Line.{Line}
use Rattle.scenario_text.specs.declared.names.TheConstants.{CLIENTS}
use Rattle.server_rules.specs.Laws.{In}
use Rattle.server_rules.specs.Slots.{slot_of}
use Rattle.client_rules.specs.Calls.{file_of}
use Rattle.client_rules.specs.Grants.{held_of}
use Rattle.client_rules.specs.History.{Resends, step}
use Rattle.client_rules.specs.Io.{awaited_in}
use Rattle.world_history.specs.ClientNames.{Awaited, Call, Held, Phase, Starts, Needs, Waits, Reads, Probes, Gathers, Scatters, ToDrive}
use Rattle.world_history.specs.ServerNames.{File, Component}
use Rattle.world_history.specs.State.{World, ClientAt, at_number}
use Rattle.world_history.specs.Sending.{Move, move}
use Rattle.history_law.specs.Moments.{IsMoment, lines_in}
use Rattle.exchange_law.specs.InStep.{state_of}
use Rattle.exchange_law.specs.Sent.{HasSent}
use Rattle.exchange_law.proofs.ClientMoves.{clients_always}
use Rattle.exchange_law.proofs.HeldWorlds.{reached}
use Rattle.fence_law.specs.State.{State}
use Rattle.file_simulation.specs.Calls.{HeldIs, IsClient, IsHolding}
use Rattle.file_simulation.specs.ClientEvents.{Going, going_in}
use Rattle.file_simulation.specs.Messages.{is_scatter}
use Rattle.file_simulation.specs.Relation.{client_of}
use Rattle.file_simulation.specs.Requests.{kept_for}
use Rattle.relation_law.specs.Steps.{CallsGoOn, FollowsWhole, whole_behind}
use Rattle.relation_law.specs.Working.{CallWorks, WorksUnder}
use Rattle.relation_law.proofs.MessagesRun.{IsFine}
use Rattle.relation_law.proofs.ReturnsStands.{always_fine}
use Rattle.headline_law.proofs.MarksUnitsStores.{PhaseLies, CommandLies}
use Rattle.headline_law.proofs.MarksUnitsClients.{CallLies, ClientLies, lies_kept}
use Rattle.headline_law.proofs.SentHeld.{works_at}
use Rattle.headline_law.proofs.SentMove as sent
use Rattle.headline_law.proofs.SentMove.{SentLaws}

module _ (laws : SentLaws) (calls : CallsGoOn) (w : World) (h : List Line) (m : Move) (f g : File) (s : State)
    (k : FollowsWhole w h m f g s) (j : Going) (goes : going_in w m.action ≡ Some j) where
  abbrev v : World
  v = (move w m).world

  abbrev c : ℕ
  c = j.client

  next : IsMoment (move w m).world (h ++ lines_in w m)
  next = sent.next laws w h m f g s k j goes

  same_file : f ≡ g
  same_file =
      let both : Some f ≡ Some g = sym (sent.there_behind laws w h m f g s k j goes) ∙ k.follows.goes in
      cc both

  lies_at : (o : Option ClientAt) → at_number (move w m).world.clients c ≡ o → ClientLies (state_of c o)
  lies_at None e = tt
  lies_at (Some a) e = clients_always (λ n y. ClientLies y) lies_kept v (reached v (h ++ lines_in w m) next) c a e

  lies : ClientLies (client_of (move w m).world c)
  lies = lies_at (at_number (move w m).world.clients c) refl

  fine_at : (o : Option ClientAt) → at_number (move w m).world.clients c ≡ o → (call : Call) → (state_of c o).call ≡ Some call →
      (file : ℕ) (hh : Held) → held_of (state_of c o).held file ≡ Some hh → IsChecked hh.map
  fine_at None e call is file hh held = absurd (cc is)
  fine_at (Some a) e call is file hh held =
      ((clients_always (λ n y. IsFine y) always_fine v (reached v (h ++ lines_in w m) next) c a e).usable file hh held).checked

  map_is : (low : j.client < CLIENTS) (hh : Held) → held_of (client_of (move w m).world c).held g.kept.number ≡ Some hh →
      hh.map ≡ g.kept.map
  map_is low hh holds =
      let all : IsClient g.kept.number g.kept.map (whole_behind k) c (client_of v c)
      (kept_for (slot_of v.server.slots c) (client_of v c).outstanding) = calls w h m f g s k c low in
      let holding : IsHolding g.kept.map (whole_behind k) c hh =
      subst (HeldIs g.kept.number g.kept.map (whole_behind k) c (client_of v c)
      (kept_for (slot_of v.server.slots c) (client_of v c).outstanding)) holds all.held in
      holding.same.agrees.map

  scattered : (unit : ℕ) (p : Phase) → is_scatter p ≡ true → PhaseLies unit p → (a : Awaited) → In a (awaited_in p) →
      CommandLies unit a.command
  scattered unit (Scatters io queue) e l a i = l.awaited a i
  scattered unit Starts e l a i = absurd i
  scattered unit (Needs n) e l a i = absurd i
  scattered unit (Waits n) e l a i = absurd i
  scattered unit (Reads io) e l a i = absurd (cc e)
  scattered unit (Probes io) e l a i = absurd (cc e)
  scattered unit (Gathers io) e l a i = absurd (cc e)

  -- what the client sends in a turn lies in one unit
  pub turn_lies : (none : j.input ≡ Resends → ⊥) (e n : ℕ) (y : Command) (at : Component) →
      HasSent (move w m).world j.client e y → In (ToDrive e y) (step j.state j.input).sends → y.action ≡ Write →
      slice_get g.kept.components n ≡ Some at → y.object ≡ at.object → CommandLies g.kept.map.unit y
  turn_lies none e n y at has now write found object =
      let found_ : slice_get f.kept.components n ≡ Some at =
      subst (λ (q : File). slice_get q.kept.components n ≡ Some at) (sym same_file) found in
      let z = sent.sends laws w h m f g s k j goes none e y now (sent.is_write y.action write) in
      let held = sent.held laws w h m f g s k j goes none e n y at has z found_ object in
      let call_is = sent.call_is laws w h m f g s k j goes none e n y at has z found_ object in
      let file = sent.file_ laws w h m f g s k j goes none e n y at has z found_ object in
      let here : file_of z.call.op ≡ g.kept.number = file ∙ ap (λ (q : File). q.kept.number) same_file in
      let map : held.held.map ≡ g.kept.map =
      map_is (sent.low_ laws w h m f g s k j goes none) held.held
      (ap (held_of (client_of v c).held) (sym here) ∙ held.holds) in
      let works : CallWorks (client_of v c).held (Some z.call) =
      subst (CallWorks (client_of v c).held) call_is
      (works_at laws.moved.held laws.moved.fresh v (h ++ lines_in w m) next
      (sent.later_ laws w h m f g s k j goes) c (at_number v.clients c) refl) in
      let under : WorksUnder held.held z.call.phase = works.1 held.held held.holds in
      let action : is_write_action z.awaited.command.action ≡ true =
      ap (λ (q : Command). is_write_action q.action) z.command ∙ sent.is_write y.action write in
      let scatter : is_scatter z.call.phase ≡ true = sym (under.ones z.awaited z.awaits).action ∙ action in
      let call_lies : CallLies (client_of v c).held (Some z.call) = subst (CallLies (client_of v c).held) call_is lies in
      let checked : IsChecked held.held.map =
      fine_at (at_number v.clients c) refl z.call call_is (file_of z.call.op) held.held held.holds in
      let phase : PhaseLies held.held.map.unit z.call.phase = call_lies held.held held.holds checked in
      subst (λ (q : RawMap). CommandLies q.unit y) map
      (subst (CommandLies held.held.map.unit) z.command
      (scattered held.held.map.unit z.call.phase scatter phase z.awaited z.awaits))
