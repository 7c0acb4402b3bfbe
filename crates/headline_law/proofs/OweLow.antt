-- What a lane of the server's holder has passed is of a command that the server sent, so its nonce is below the next.
-- Towards `OweFollows` (`specs/Parts.antt`).
use Rattle.std.proofs.Common.{◌≡◌, ℕ, ◌<◌, List, [], Option, Some, None, refl, subst, arith}
use Rattle.scenario_text.specs.declared.line.Line.{Line}
use Rattle.osd_objects.specs.declared.lanes.LaneEntry.{LaneEntry}
use Rattle.osd_objects.specs.declared.object.StoredObject.{StoredObject}
use Rattle.osd_objects.specs.Lanes.{lane_of}
use Rattle.osd_objects.specs.Store.{object_at, lane_or_none}
use Rattle.server_rules.specs.declared.limits.TheConstants.{SERVER_HOLDER}
use Rattle.history_law.specs.Names.{Component}
use Rattle.history_law.specs.Moments.{IsMoment}
use Rattle.history_law.specs.Reaching.{OwnAt}
use Rattle.history_law.specs.Spent.{HasPassed}
use Rattle.history_law.proofs.DriveLines.{drive_read}
use Rattle.history_law.proofs.Each.{EachBehind}
use Rattle.history_law.proofs.Heard.{IsCommand, world_command}
use Rattle.history_law.proofs.Holding.{Holds}
use Rattle.history_law.proofs.LaneLines.{IsServers, AreServers, lanes_are_servers}
use Rattle.world_history.specs.State.{World, DriveAt, at_number}
use Rattle.file_simulation.specs.Claim.{IsOfScenario}
use Rattle.file_simulation.specs.Components.{object_on, object_of}
use Rattle.relation_law.proofs.Hearing.{read_nonce}
use Rattle.relation_law.proofs.OwnedBefore.{OwnedLaws, held, room}

module _ (laws : OwnedLaws) (w : World) (h : List Line) (k : IsMoment w h) (scenario : IsOfScenario h)
    (own : EachBehind OwnAt [] h) where
  holds : Holds w h
  holds = held laws w h k scenario

  servers : (d : ℕ) → AreServers h d (at_number w.drives d)
  servers d =
      subst (AreServers h d) (drive_read w holds.read.injected h d holds.read.drives)
      (lanes_are_servers h holds.read.lines own d)

  sent_low : (d object tag nonce : ℕ) → IsServers h d object tag nonce → nonce < w.server.next_nonce
  sent_low d object tag nonce s =
      let c : IsCommand w d s.bytes = world_command w h holds.read holds.numbers d s.bytes s.sent in
      let same = (read_nonce w d s.bytes c s.command (room laws w h k scenario) s.read).0 in
      omega (arith, same, s.nonce_is, c.low)

  by_lane : (d object : ℕ) (a : DriveAt) → at_number w.drives d ≡ Some a → (x : StoredObject) →
      object_at a.state.store object ≡ Some x → (o : Option LaneEntry) → lane_of x.lanes SERVER_HOLDER ≡ o → (n : ℕ) →
      HasPassed o n → n < w.server.next_nonce
  by_lane d object a there x at None lane n passed = absurd passed
  by_lane d object a there x at (Some l) lane n passed =
      let low = sent_low d object x.tag l.nonce (servers d a there object x l at lane) in omega (arith, low, passed)

  by_object : (d object : ℕ) (a : DriveAt) → at_number w.drives d ≡ Some a → (o : Option StoredObject) →
      object_at a.state.store object ≡ o → (n : ℕ) → HasPassed (lane_or_none o SERVER_HOLDER) n → n < w.server.next_nonce
  by_object d object a there None at n passed = absurd passed
  by_object d object a there (Some x) at n passed =
      by_lane d object a there x at (lane_of x.lanes SERVER_HOLDER) refl n passed

  by_drive : (d object : ℕ) (o : Option DriveAt) → at_number w.drives d ≡ o → (n : ℕ) →
      HasPassed (lane_or_none (object_on o object) SERVER_HOLDER) n → n < w.server.next_nonce
  by_drive d object None there n passed = absurd passed
  by_drive d object (Some a) there n passed =
      by_object d object a there (object_at a.state.store object) refl n passed

  -- what a lane of the server's holder has passed at a component is below the server's next nonce
  pub passed_low : (at : Component) (n : ℕ) → HasPassed (lane_or_none (object_of w at) SERVER_HOLDER) n →
      n < w.server.next_nonce
  passed_low at n passed = by_drive at.drive at.object (at_number w.drives at.drive) refl n passed
