-- What a new WRITE carries is in the unit in which it begins, by the laws of the world and of the machine.
-- Towards `WritesStayTied` (`specs/MarksTied.antt`).
use Rattle.std.proofs.Common.{◌≡◌, ◌/◌, ◌++◌, ℕ, List, length, Some, refl, sym, ap, subst, ◌∙◌, inl, inr, arith}
use Rattle.osd_lists.specs.declared.node.Node.TheVariants as node
use Rattle.osd_commands.specs.declared.commands.Command.{Command}
use Rattle.scenario_text.specs.declared.line.Line.{Line}
use Rattle.server_rules.specs.Laws.{In}
use Rattle.client_rules.specs.History.{Input, step}
use Rattle.world_history.specs.ClientNames.{ToDrive}
use Rattle.world_history.specs.ServerNames.{File}
use Rattle.world_history.specs.State.{World}
use Rattle.world_history.specs.Sending.{Move, move}
use Rattle.world_history.specs.declared.messages.Body.{Body}
use Rattle.world_history.specs.declared.messages.Body.TheVariants.{Command as OfCommand}
use Rattle.history_law.specs.Moments.{lines_in}
use Rattle.exchange_law.specs.Sent.{HasSent, message_of}
use Rattle.exchange_law.proofs.RefusalSending.{resent_awaited}
use Rattle.fence_law.specs.State as machine
use Rattle.fence_law.specs.State.{State}
use Rattle.file_simulation.specs.Messages.{AreSent, WasSent}
use Rattle.file_simulation.specs.Showing.{Pairs}
use Rattle.file_simulation.specs.Tied.{AreTied, WritesAreTied}
use Rattle.relation_law.specs.Steps.{CallsGoOn, FollowsWhole, SentGoesOn}
use Rattle.relation_law.proofs.ComponentsAbove.{sent_either}
use Rattle.relation_law.proofs.ComponentsMoved.{behind as moment_behind, later, scenario, run, awaits}
use Rattle.relation_law.proofs.ComponentsSenders.{same_message}
use Rattle.relation_law.proofs.ComponentsWorld.{awaited_are_sent}
use Rattle.headline_law.specs.EntriesTied.{EntriesKept}
use Rattle.headline_law.specs.Parts.{CutShown, cut_at}
use Rattle.headline_law.proofs.MarksNew.{IsNewWrite, NewInUnits, OneGoes, OneResends}
use Rattle.headline_law.proofs.MarksNewResends.{WasBefore, before_of, was_before}
use Rattle.headline_law.proofs.MarksUnits.{turn_lies}
use Rattle.headline_law.proofs.MarksUnitsStores.{CommandLies}
use Rattle.headline_law.proofs.MarksWritesJoined.{TiedLaws, old_tied}
use Rattle.headline_law.proofs.MarksWritesOld.{IsCommandOf, cuts_grow}
use Rattle.headline_law.proofs.MarksWritesSent.{command_read}
use Rattle.headline_law.proofs.MarksWritesStood.{whole as whole_of, cut_is}
use Rattle.headline_law.proofs.SentMove as sent

-- what is known of histories, and of each move
pub record UnitLaws : Type 0 where
  pub tied : TiedLaws
  pub goes : SentGoesOn
  pub calls : CallsGoOn

module _ (laws : UnitLaws) (w : World) (h : List Line) (m : Move) (f g : File) (s : State) (pairs : Pairs)
    (k : CutShown w h m (length (lines_in w m)) f g s pairs) (tied : AreTied w h s f.kept.number pairs)
    (writes : WritesAreTied w h s f pairs)
    (e : EntriesKept w h m (length (lines_in w m)) (cut_at k.shown.follows) f.kept.number pairs) (n c d i : ℕ) (x : Command)
    (y : machine.Write) (is : IsNewWrite w h m f g s pairs k n c d i x y) where
  abbrev InUnit : Type 0
  InUnit =
      (z v : ℕ) → ((cut_at k.shown.follows).start y.entry).content i z ≡ Some v →
      ((cut_at k.shown.follows).start y.entry).part i z ≡ y.part → z / g.kept.map.unit ≡ x.offset / g.kept.map.unit

  whole : FollowsWhole w h m f g s
  whole = whole_of laws.tied.sent laws.tied.components laws.tied.lines laws.tied.notes w h m f g s pairs k

  by_old : WasBefore w m c d x → InUnit
  by_old b =
      (old_tied laws.tied w h m f g s pairs k tied writes e b.number c d i x is.at b.old b.posted is.write is.found is.object
      is.stands y is.sent is.holder is.nonce is.there).unit

  again : OneResends w m → InUnit
  again p =
      by_old
      (was_before w m p
      (awaited_are_sent laws.tied.sent.moved.known w h k.shown.follows.moment
      (scenario laws.tied.sent.moved w h m f g s whole).few)
      n c d x is.new is.posted)

  its : (q : IsCommandOf (move w m).world c d x) × (is.posted.posted.message.body ≡ OfCommand q.command)
  its =
      command_read laws.tied.senders (move w m).world (h ++ lines_in w m) (moment_behind laws.tied.sent.moved w h m f g s whole)
      (later laws.tied.sent.moved w h m f g s whole) n c d x is.posted

  message_is : is.posted.posted.message ≡ message_of c d its.0.command
  message_is =
      same_message is.posted.posted.message (node.Client c) (node.Drive d) is.posted.sender is.posted.receiver
      ∙ ap (λ (b : Body). record { from = node.Client c; to = node.Drive d; body = b }) its.1

  had : HasSent w c d its.0.command → InUnit
  had old = by_old (before_of w m n c d x is.posted its.0.command old message_is)

  now_lies : CommandLies g.kept.map.unit its.0.command → InUnit
  unfolding whole
  now_lies lies z v content part =
      let t : State = cut_at k.shown.follows in
      let are : AreSent (cut_at k.shown.follows) (move w m).world g =
      subst (λ (u : State). AreSent u (move w m).world g)
      (sym (cut_is laws.tied.sent laws.tied.components laws.tied.lines laws.tied.notes w h m f g s pairs k))
      (laws.goes w h m f g s whole) in
      let was : WasSent t c i its.0.command =
      are.writes c d i its.0.command is.at its.0.sent (its.0.action ∙ is.write) is.found (its.0.object ∙ is.object) is.stands in
      let same : y ≡ was.write =
      (cuts_grow laws.tied.runs laws.tied.book w h m f g s pairs k).single y was.write is.sent was.sent
      (is.holder ∙ sym was.holder) (is.nonce ∙ sym its.0.nonce ∙ sym was.nonce) in
      let within =
      was.carries.just z v
      (ap (λ (q : machine.Write). (t.start q.entry).content i z) (sym same) ∙ content)
      (ap (λ (q : machine.Write). (t.start q.entry).part i z) (sym same) ∙ part ∙ ap (λ (q : machine.Write). q.part) same) in
      lies z within.0 within.1 ∙ ap (λ (q : ℕ). q / g.kept.map.unit) (sym (its.0.offset is.write))

  turns : OneGoes w m → InUnit
  turns (j, goes) =
      elim (sent_either laws.tied.sent.moved.held laws.tied.sent.moved.fresh laws.tied.sent.moved.answers w h m f g s whole
      (moment_behind laws.tied.sent.moved w h m f g s whole) (later laws.tied.sent.moved w h m f g s whole)
      (omega (arith, (scenario laws.tied.sent.moved w h m f g s whole).few)) (run laws.tied.sent.moved w h m f g s whole)
      k.shown.follows.there j goes c d its.0.command its.0.sent) [
        | inl old ↦ had old
        | inr now ↦ elim (sent.resent laws.tied.sent w h m f g s whole j goes j.input refl) [
          | inl again_ ↦
              let r = resent_awaited j.state d its.0.command
              (subst (λ (a : Input). In (ToDrive d its.0.command) (step j.state a).sends) again_ now.1) in
              let before = awaits laws.tied.sent.moved w h m f g s whole j goes r.awaited r.there in
              had
              (subst (λ (q : ℕ). HasSent w q d its.0.command) (sym now.0)
              (subst (λ (q : ℕ). HasSent w j.client q its.0.command) r.drive
              (subst (λ (q : Command). HasSent w j.client r.awaited.drive q) r.command before)))
          | inr none ↦
              now_lies
              (turn_lies laws.tied.sent laws.calls w h m f g s whole j goes none d i its.0.command is.at
              (subst (λ (q : ℕ). HasSent (move w m).world q d its.0.command) now.0 its.0.sent) now.1
              (its.0.action ∙ is.write) is.found (its.0.object ∙ is.object))
        ]
      ]

pub turns_in_units : UnitLaws → NewInUnits OneGoes
turns_in_units laws w h m f g s pairs p k tied writes e n c d i x y is =
    turns laws w h m f g s pairs k tied writes e n c d i x y is p

pub resends_in_units : UnitLaws → NewInUnits OneResends
resends_in_units laws w h m f g s pairs p k tied writes e n c d i x y is =
    again laws w h m f g s pairs k tied writes e n c d i x y is p
