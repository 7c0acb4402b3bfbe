-- While a repair reads, no drive performs a WRITE of the server on a component of the file that isn't lost.
-- Towards `RowsFollow` (`specs/Parts.antt`).
use Rattle.std.proofs.Common.{◌≡◌, ◌==◌, ◌+◌, ℕ, Bool, true, false, not, List, [], ◌∷◌, slice_get, find, Option, Some, None, Result, Ok, Err, refl, sym, subst, ◌∙◌}
use Rattle.osd_commands.specs.declared.actions.Action.{Action as CommandAction}
use Rattle.osd_commands.specs.declared.actions.Action.TheVariants as action
use Rattle.osd_commands.specs.declared.commands.Command.{Command}
use Rattle.osd_commands.specs.declared.commands.CommandErr.{CommandErr}
use Rattle.osd_drive.specs.declared.verdict.Verdict.{Verdict}
use Rattle.osd_drive.specs.declared.verdict.Verdict.TheVariants.{Perform}
use Rattle.osd_drive.specs.Table.{first_fault}
use Rattle.osd_lists.specs.declared.node.Node.{Node}
use Rattle.osd_lists.specs.declared.node.Node.TheVariants as node
use Rattle.scenario_text.specs.declared.event.Event.{Event as Told}
use Rattle.scenario_text.specs.declared.event.Event.TheVariants as told
use Rattle.scenario_text.specs.declared.line.Line.{Line}
use Rattle.server_rules.specs.Laws.{In}
use Rattle.server_rules.proofs.Members.{in_map}
use Rattle.world_history.specs.ServerNames.{File, Component}
use Rattle.world_history.specs.declared.messages.Message.{Message}
use Rattle.world_history.specs.declared.messages.Posted.{Posted}
use Rattle.world_history.specs.Drives.{command_in, verdict_on, is_deaf}
use Rattle.world_history.specs.Moves as moves
use Rattle.world_history.specs.State.{World, DriveAt, at_number}
use Rattle.world_history.specs.Stripes.{component_at}
use Rattle.world_history.specs.Told.{told_verdict}
use Rattle.history_law.specs.Moments.{IsMoment}
use Rattle.history_law.specs.Said.{said}
use Rattle.history_law.specs.Spent.{IsSpent}
use Rattle.history_law.proofs.Spending.{free, not_spent}
use Rattle.component_law.specs.Sent.{IsSentByRun}
use Rattle.fence_law.specs.State.{State, Event, Write}
use Rattle.file_simulation.specs.Claim.{IsOfScenario}
use Rattle.file_simulation.specs.EventLists.{where_so}
use Rattle.file_simulation.specs.DriveEvents as table
use Rattle.file_simulation.specs.Jobs.{IsOfPhase, AreOwned}
use Rattle.file_simulation.specs.Messages.{HasCommanded}
use Rattle.file_simulation.specs.Relation.{client_of}
use Rattle.relation_law.specs.ComponentsFollow.{WritesHavePlaces}
use Rattle.relation_law.specs.DriveHearing.{IsOfServer}
use Rattle.relation_law.specs.Frames.{AreAll, LinesAre}
use Rattle.relation_law.proofs.ComponentsSenders.{SenderLaws, server_sent}
use Rattle.relation_law.proofs.DriveFinding.{IsAt, found}
use Rattle.relation_law.proofs.DriveMoves.{got_in, found_in}
use Rattle.relation_law.proofs.DriveReads.{spent_read}
use Rattle.relation_law.proofs.FramesClient.{where_all}
use Rattle.relation_law.proofs.FramesStay.{all_more}
use Rattle.headline_law.proofs.RowsMachine.{IsIdleEvent}

module _ (laws : SenderLaws) (w : World) (h : List Line) (k : IsMoment w h) (scenario : IsOfScenario h) (run : IsSentByRun w)
    (places : WritesHavePlaces w) (s : State) (e : ℕ → ℕ) (f : File) (owned : AreOwned s w f)
    (none : (n : ℕ) (x : Command) → IsOfPhase f n x f.kept.phase → ⊥) where
  abbrev Idle : List Event → Type 0
  Idle = AreAll (IsIdleEvent s.repairing)

  told_perform : (v : Verdict) → table.is_performed (told_verdict v) ≡ true → v ≡ Perform
  told_perform Perform is = refl
  told_perform v is = absurd (cc is)

  -- ---- what a drive performs

  performed_write : (o : Option Write) → Idle (table.performs o)
  performed_write None = tt
  performed_write (Some m) = (tt, tt)

  of_client : (n c : ℕ) (x : Command) (a : CommandAction) → Idle (table.of_client s w f.kept.number n c x a)
  of_client n c x action.Read =
      where_all (IsIdleEvent s.repairing) (table.is_running f.kept.number x.nonce (client_of w c).call) _ (tt, tt)
  of_client n c x action.Write = performed_write (find (table.is_write c n x.nonce) s.writes)
  of_client n c x a = tt

  -- a WRITE of the server would be of the phase
  never : (d n : ℕ) (a : DriveAt) (x : Command) → at_number w.drives d ≡ Some a → is_deaf a ≡ false →
      first_fault a.state a.clock x ≡ Perform → IsOfServer w d x → IsAt f.kept.components d x.object n → s.lost n ≡ false →
      x.action ≡ action.Write → ⊥
  never d n a x there hears clear of at stands write =
      none n of.command (owned n of.command (record {
        component = at.component;
        there = at.there;
        sent = subst (λ (m : ℕ). HasCommanded w m of.command) (sym at.drive) of.sent;
        write = sym of.reads.action ∙ write;
        object = sym of.reads.object ∙ sym at.object_is;
        unspent = λ spent.
            not_spent a x hears (free a.state a.clock x clear)
            (subst (λ (o : Option DriveAt). IsSpent o x) there
            (subst (λ (m : ℕ). IsSpent (at_number w.drives m) x) at.drive
            (spent_read (at_number w.drives at.component.drive) of.command x of.reads spent)));
        stands = stands;
      }))

  of_server : (n : ℕ) (x : Command) (a : CommandAction) → (a ≡ action.Write → ⊥) → Idle (table.of_server e n x a)
  of_server n x action.SetTag not_ = (tt, tt)
  of_server n x action.Write not_ = absurd (not_ refl)
  of_server n x action.Create not_ = tt
  of_server n x action.Read not_ = tt
  of_server n x action.GetAttr not_ = tt
  of_server n x action.SetAttr not_ = tt

  performed_of : (n : ℕ) (x : Command) (from : Node) → (from ≡ node.Server → x.action ≡ action.Write → ⊥) →
      Idle (table.performed_of s w e f.kept.number n x from)
  performed_of n x (node.Client c) not_ = of_client n c x x.action
  performed_of n x node.Server not_ = of_server n x x.action (not_ refl)
  performed_of n x (node.Drive d) not_ = tt

  -- ---- what a drive judges

  module _ (d : ℕ) (a : DriveAt) (there : at_number w.drives d ≡ Some a) (hears : is_deaf a ≡ false) (from : Node) where
    performed_on : (x : Command) → first_fault a.state a.clock x ≡ Perform → (from ≡ node.Server → IsOfServer w d x) →
        (o : Option ℕ) → component_at d x.object f.kept.components 0 ≡ o → Idle (table.performed_on s w e f x from o)
    performed_on x clear of None is = tt
    performed_on x clear of (Some n) is = by_lost (s.lost n) refl
      where
        by_lost : (b : Bool) → s.lost n ≡ b →
            Idle (where_so (not b) (table.performed_of s w e f.kept.number n x from))
        by_lost true lost = tt
        by_lost false stands =
            performed_of n x from (λ server write.
            never d n a x there hears clear (of server) (found d x.object f.kept.components n is) stands write)

    judged : (o : Result Command CommandErr) → ((x : Command) → o ≡ Ok x → from ≡ node.Server → IsOfServer w d x) →
        Idle (table.judged s w e f d a from o)
    judged (Err why) of = tt
    judged (Ok x) of = by_verdict (table.is_performed (verdict_on a.state a.clock (Ok x))) refl
      where
        by_verdict : (b : Bool) → table.is_performed (verdict_on a.state a.clock (Ok x)) ≡ b →
            Idle (where_so b (table.performed_on s w e f x from (component_at d x.object f.kept.components 0)))
        by_verdict true is =
            performed_on x (told_perform (first_fault a.state a.clock x) is) (of x refl)
            (component_at d x.object f.kept.components 0) refl
        by_verdict false is = tt

  heard : (m : Message) → In m (said w.network.messages) → (d : ℕ) → m.to ≡ node.Drive d → (o : Option DriveAt) →
      at_number w.drives d ≡ o → Idle (table.heard s w e f d m o)
  heard m i d to None there = tt
  heard m i d to (Some a) there = by_ears (is_deaf a) refl
    where
      by_ears : (b : Bool) → is_deaf a ≡ b → Idle (where_so (not b) (table.judged s w e f d a m.from (command_in m.body)))
      by_ears true deaf = tt
      by_ears false hears =
          judged d a there hears m.from (command_in m.body)
          (λ x reads server. server_sent laws w h k scenario run places m d x i server to reads)

  heard_at : (m : Message) → In m (said w.network.messages) → (to : Node) → m.to ≡ to → Idle (table.heard_at s w e f m to)
  heard_at m i (node.Drive d) to = heard m i d to (at_number w.drives d) refl
  heard_at m i node.Server to = tt
  heard_at m i (node.Client c) to = tt

  delivered : (o : Option Posted) → ((p : Posted) → o ≡ Some p → In p w.network.messages) → Idle (table.delivered s w e f o)
  delivered None among = tt
  delivered (Some p) among =
      heard_at p.message (in_map (λ (q : Posted). q.message) p w.network.messages (among p refl)) p.message.to refl

  -- ---- a move

  fails : (d : ℕ) (cs : List Component) (n : ℕ) → Idle (table.fails_from d cs n)
  unfolding table.fails_from
  fails d [] n = tt
  fails d (at ∷ cs) n =
      all_more (IsIdleEvent s.repairing) _ (table.fails_from d cs (n + 1))
      (where_all (IsIdleEvent s.repairing) (at.drive == d) _ (tt, tt)) (fails d cs (n + 1))

  opened : (x : Told) → Idle (table.opened s w e f x)
  opened (told.Deliver number) =
      delivered (slice_get w.network.messages number) (λ p is. got_in w.network.messages number p is)
  opened (told.Inject d bytes) =
      delivered (find (table.is_sent_as d bytes) w.network.messages)
      (λ p is. (found_in (table.is_sent_as d bytes) w.network.messages p is).0)
  opened (told.Fail d) = fails d f.kept.components 0
  opened x = tt

  -- The events of a drive's move write nothing to the file's components but clients' WRITEs.
  pub drives_idle : (action : moves.Action) → LinesAre (IsIdleEvent s.repairing) (table.drive_events s w e f action)
  drives_idle (moves.Opens x) = (opened x, tt)
  drives_idle (moves.Delivers number) =
      (delivered (slice_get w.network.messages number) (λ p is. got_in w.network.messages number p is), tt)
  drives_idle (moves.TimesOut c n) = tt
  drives_idle (moves.Pends c) = tt
