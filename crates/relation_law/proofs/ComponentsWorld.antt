-- What landed laws give of a world at a moment for the components: what clients await they have sent, no two commands of a
-- client have one nonce, and a file has a component for each of its map's, each with an object of its own.
-- Towards `ComponentsGoOn` (`specs/Steps.antt`).
use Rattle.std.proofs.Common.{◌≡◌, ℕ, List, [], ◌∷◌, zero, suc, slice_get, Option, Some, None, refl, sym, ap, subst, ◌∙◌, arith}
use Rattle.std.proofs.lemmas.List.{append-nil}
use Rattle.osd_lists.specs.declared.node.Node.TheVariants as node
use Rattle.osd_commands.specs.declared.commands.Command.{Command}
use Rattle.client_rules.specs.declared.calls.Awaited.{Awaited}
use Rattle.client_rules.specs.Io.{awaited_in}
use Rattle.client_rules.specs.Messages.{awaited_of}
use Rattle.scenario_text.specs.declared.line.Line.{Line}
use Rattle.server_rules.specs.Files.{file_at}
use Rattle.server_rules.specs.History.{state_after}
use Rattle.server_rules.specs.Laws.{In}
use Rattle.server_rules.specs.Making.{new_server}
use Rattle.server_rules.proofs.Members.{in_front}
use Rattle.world_history.specs.ClientNames.{Call}
use Rattle.world_history.specs.ServerNames.{File, Component}
use Rattle.world_history.specs.State.{World, ClientAt, at_number}
use Rattle.world_history.specs.Sending.{Move, move}
use Rattle.world_history.specs.Moves.{acts}
use Rattle.world_history.specs.declared.messages.Body.TheVariants.{Command as OfCommand}
use Rattle.world_history.specs.declared.messages.Message.{Message}
use Rattle.history_law.specs.BookMoments.{IsMoment}
use Rattle.history_law.proofs.Running.{parties_run}
use Rattle.history_law.specs.Said.{said, posted}
use Rattle.history_law.proofs.Files.{in_at}
use Rattle.exchange_law.specs.Files.{FilesFit, KeptFits}
use Rattle.exchange_law.specs.InStep.{state_of}
use Rattle.exchange_law.specs.Sent.{HasSent, message_of}
use Rattle.exchange_law.specs.Text.{AreFew}
use Rattle.exchange_law.proofs.Awaited.{few_at}
use Rattle.exchange_law.proofs.CountMoments.{reached}
use Rattle.exchange_law.proofs.Parts.{each_in}
use Rattle.exchange_law.proofs.RefusalClients.{ClientsRan, Known, clients_ran}
use Rattle.exchange_law.proofs.Shapes.{files_have_shape}
use Rattle.exchange_law.proofs.Turns.{messages_behind}
use Rattle.component_law.specs.Objects.{objects_of, NoneIs, AllDiffer, IsOwned}
use Rattle.component_law.specs.Sent.{IsSentByRun}
use Rattle.component_law.proofs.ObjectRuns.{each_object_is_owned}
use Rattle.file_simulation.specs.Relation.{client_of}
use Rattle.relation_law.specs.DriveHearing.{IsLaidOut, AwaitedAreSent, DifferByNonce}

-- ---- clients

module _ (q : Known) (w : World) (h : List Line) (k : IsMoment w h) (few : AreFew h) where
  pub ran : ClientsRan w
  ran = clients_ran q w h k (few_at w h k (omega (arith, few)))

  -- what each client awaits it has sent
  pub awaited_are_sent : AwaitedAreSent w
  awaited_are_sent c a there x i = (ran.clients c a there).awaited x i

  differ_at : (c d e : ℕ) (x y : Command) → HasSent w c d x → HasSent w c e y → x.nonce ≡ y.nonce → (o : Option ClientAt) →
      at_number w.clients c ≡ o → (d ≡ e) × (x ≡ y)
  differ_at c d e x y s t same None gone =
      absurd (ran.absent c gone (message_of c d x) s refl)
  differ_at c d e x y s t same (Some a) there =
      let one : message_of c d x ≡ message_of c e y =
      (ran.clients c a there).unique (message_of c d x) (message_of c e y) s t refl refl x y refl refl same in
      let to : node.Drive d ≡ node.Drive e = ap (λ (m : Message). m.to) one in
      let body : OfCommand x ≡ OfCommand y = ap (λ (m : Message). m.body) one in
      (cc to, cc body)

  -- no two commands of a client have one nonce
  pub differ_by_nonce : DifferByNonce w
  differ_by_nonce c d e x y s t same = differ_at c d e x y s t same (at_number w.clients c) refl

  pub awaited_by : (c : ℕ) (call : Call) (o : Option ClientAt) → at_number w.clients c ≡ o →
      (state_of c o).call ≡ Some call → (y : Awaited) → In y (awaited_in call.phase) → HasSent w c y.drive y.command
  awaited_by c call None gone is y i = absurd (cc is)
  awaited_by c call (Some a) there is y i =
      awaited_are_sent c a there y (subst (λ (o : Option Call). In y (awaited_of o)) (sym is) i)

  -- what a client awaits under the nonce of what it sent is just that
  pub awaits_same : (c d : ℕ) (x : Command) → HasSent w c d x → (call : Call) → (client_of w c).call ≡ Some call →
      (y : Awaited) → In y (awaited_in call.phase) → y.command.nonce ≡ x.nonce → y.command ≡ x
  awaits_same c d x s call is y i same =
      (differ_by_nonce c y.drive d y.command x (awaited_by c call (at_number w.clients c) refl is y i) s same).1

-- ---- files

none_is : (o : ℕ) (cs : List Component) (i : ℕ) (a : Component) → NoneIs o (objects_of cs) → slice_get cs i ≡ Some a →
    a.object ≡ o → ⊥
none_is o [] i a none found is = absurd (cc found)
none_is o (c ∷ cs) zero a none found is =
    let same : c ≡ a = cc found in none.0 (ap (λ (x : Component). x.object) same ∙ is)
none_is o (c ∷ cs) (suc i) a none found is = none_is o cs i a none.1 found is

all_differ : (cs : List Component) → AllDiffer (objects_of cs) → (i k : ℕ) (a b : Component) → slice_get cs i ≡ Some a →
    slice_get cs k ≡ Some b → a.object ≡ b.object → i ≡ k
all_differ [] d i k a b fa fb same = absurd (cc fa)
all_differ (c ∷ cs) d zero zero a b fa fb same = refl
all_differ (c ∷ cs) d zero (suc k) a b fa fb same =
    let first : c ≡ a = cc fa in
    absurd (none_is c.object cs k b d.0 fb (sym same ∙ ap (λ (x : Component). x.object) (sym first)))
all_differ (c ∷ cs) d (suc i) zero a b fa fb same =
    let first : c ≡ b = cc fb in
    absurd (none_is c.object cs i a d.0 fa (same ∙ ap (λ (x : Component). x.object) (sym first)))
all_differ (c ∷ cs) d (suc i) (suc k) a b fa fb same = ap suc (all_differ cs d.1 i k a b fa fb same)

-- a file has a usable map, a component for each of it, and an object for each component
pub laid_out : (w : World) (h : List Line) → IsMoment w h → FilesFit w.server → IsSentByRun w → (f : File) →
    file_at w.server.files f.kept.number ≡ Some f → IsLaidOut f
laid_out w h k fits sent f there =
    let i : In f w.server.files = in_at w.server.files f.kept.number f there in
    let owns = each_object_is_owned sent.acts in
    let mine : IsOwned owns.0 (state_after (new_server []) sent.acts).next_object f =
    owns.1 sent.acts [] (sym (append-nil sent.acts)) f (subst (λ s. In f s.files) sent.server i) in
    record {
      checked = (each_in (λ (x : File). KeptFits w.server.next_object x.kept) w.server.files f fits i).map;
      components = (files_have_shape parties_run w (reached w h k) f.kept.number f there).components;
      differ = all_differ f.kept.components mine.differ;
    }

-- ---- a move

-- what was sent stays sent
pub sent_later : (w : World) (m : Move) (c d : ℕ) (x : Command) → HasSent w c d x → HasSent (move w m).world c d x
sent_later w m c d x i =
    subst (In (message_of c d x)) (sym (messages_behind w m))
    (in_front (message_of c d x) (said w.network.messages) (posted (acts w m.chosen m.action).posts) i)
