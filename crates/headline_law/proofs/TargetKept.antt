-- The bytes of the WRITE that a rebuild awaits stand in its target's object, if the drive is past it.
use Rattle.std.proofs.Common.{◌≡◌, ◌++◌, ℕ, ◌≤◌, true, List, [], ◌∷◌, Option, Some, None, refl, sym, ap, subst, ◌∙◌, arith, inl, inr}
use Rattle.std.proofs.lemmas.Option.{same_Some}
use Rattle.osd_commands.specs.declared.actions.Action.TheVariants as action
use Rattle.osd_commands.specs.declared.commands.Command.{Command}
use Rattle.osd_objects.specs.declared.object.StoredObject.{StoredObject}
use Rattle.osd_objects.specs.declared.lanes.LaneEntry.{LaneEntry}
use Rattle.osd_objects.specs.Lanes.{lane_of, with_lane}
use Rattle.osd_objects.specs.Store.{lane_or_none}
use Rattle.osd_drive.specs.Effects.{lane_for}
use Rattle.osd_drive.proofs.LaneLaws.{lane_kept}
use Rattle.scenario_text.specs.declared.line.Line.{Line}
use Rattle.server_rules.specs.declared.limits.TheConstants.{SERVER_HOLDER}
use Rattle.server_rules.specs.Laws.{In}
use Rattle.server_rules.specs.Messages.{awaited_by}
use Rattle.server_rules.proofs.Members.{in_front}
use Rattle.world_history.specs.Guesses.{unguessed}
use Rattle.world_history.specs.ServerNames.{File, Awaited, Piece, Target, Job, Work, Fills}
use Rattle.world_history.specs.Moves.{acts}
use Rattle.world_history.specs.Plans.{due}
use Rattle.world_history.specs.Sending.{Move, move}
use Rattle.world_history.specs.State.{World, at_number}
use Rattle.history_law.specs.BookMoments.{IsMoment, plan_at, lines_in}
use Rattle.history_law.specs.Spent.{HasPassed}
use Rattle.history_law.proofs.Coming.{clean_front}
use Rattle.component_law.proofs.NamedLines.{are_named}
use Rattle.component_law.specs.Objects.{target_in, target_of}
use Rattle.component_law.specs.Sent.{commanded}
use Rattle.exchange_law.proofs.CountMoments.{reached}
use Rattle.exchange_law.proofs.SlotMoments.{always}
use Rattle.exchange_law.proofs.Turns.{messages_behind}
use Rattle.history_law.specs.Said.{posted}
use Rattle.exchange_law.specs.Doing.{said}
use Rattle.exchange_law.specs.Sent.{HasSent}
use Rattle.file_simulation.specs.Claim.{IsOfScenario}
use Rattle.file_simulation.specs.Components.{object_on}
use Rattle.file_simulation.specs.Messages.{HasCommanded}
use Rattle.relation_law.specs.Awaiting.{IsAskedIn, FitsIn}
use Rattle.relation_law.specs.ComponentsFollow.{EachWriteHasItsPlace}
use Rattle.relation_law.specs.DriveHearing.{IsOfServer}
use Rattle.relation_law.specs.TargetWrites.{IsLatest}
use Rattle.relation_law.proofs.ComponentsMoved.{MovedLaws}
use Rattle.relation_law.proofs.ComponentsWorld.{sent_later}
use Rattle.relation_law.proofs.DriveObjects.{written_inside}
use Rattle.relation_law.proofs.FramesFiles.{files_distinct}
use Rattle.relation_law.proofs.KeptServer.{at_place}
use Rattle.relation_law.proofs.OwnedBefore.{OwnedLaws, held, fits_in}
use Rattle.relation_law.proofs.TargetMoments.{in_one, each_fill_is_latest}
use Rattle.headline_law.specs.TargetLaws.{HasBytesOf, FillsStand, EachFillStands, EachTargetIsWellAsked}
use Rattle.headline_law.proofs.SentUntouched.{are_unaimed, is_backed}
use Rattle.headline_law.proofs.TargetKeptCreates.{creates_are_earlier}
use Rattle.headline_law.proofs.TargetStoreTurns.{Turned, Same, Gone, Makes, Writes, Sets, scenario, turned}

-- no client sent anything to the object
abbrev IsUntouched : World → (object : ℕ) → Type 0
IsUntouched w o = (c e : ℕ) (x : Command) → HasSent w c e x → x.object ≡ o → ⊥

-- The server sent a command under a lane's nonce, and the bytes stand there if it is a WRITE.
record IsOfLane (w : World) (d o : ℕ) (x : StoredObject) (nonce : ℕ) : Type 0 where
  command : Command
  sent : HasCommanded w d command
  object : command.object ≡ o
  nonce_is : nonce ≡ command.nonce
  bytes : command.action ≡ action.Write → HasBytesOf x command

-- so it is of the server's lane at each object to which no client sent anything
abbrev LanesStand : World → Type 0
LanesStand w =
    (d o : ℕ) → IsUntouched w o → (x : StoredObject) (l : LaneEntry) → object_on (at_number w.drives d) o ≡ Some x →
    lane_of x.lanes SERVER_HOLDER ≡ Some l → IsOfLane w d o x l.nonce

abbrev Stand : World → List Line → Type 0
Stand w h = IsOfScenario h → unguessed h ≡ true → LanesStand w

-- the lane that a command of the server leaves has its nonce
new_lane : (ls : List LaneEntry) (x : Command) (n : ℕ) (l : LaneEntry) → x.capability.holder ≡ SERVER_HOLDER →
    lane_of (with_lane ls (lane_for x n)) SERVER_HOLDER ≡ Some l → l.nonce ≡ x.nonce
new_lane ls x n l holder lane =
    let kept : lane_of (with_lane ls (lane_for x n)) SERVER_HOLDER ≡ Some (lane_for x n) =
    subst (λ (q : ℕ). lane_of (with_lane ls (lane_for x n)) q ≡ Some (lane_for x n)) holder (lane_kept ls (lane_for x n)) in
    ap (λ (y : LaneEntry). y.nonce) (same_Some l (lane_for x n) (sym lane ∙ kept))

-- ---- a move

module _ (laws : MovedLaws) (places : EachWriteHasItsPlace) (w : World) (h : List Line) (k : IsMoment w h) (m : Move)
    (is_due : due (plan_at k) w ≡ Some m.action) (before : Stand w h) (later : IsOfScenario (h ++ lines_in w m))
    (clean : unguessed (h ++ lines_in w m) ≡ true) where
  abbrev v : World
  v = (move w m).world

  commanded_later : (d : ℕ) (x : Command) → HasCommanded w d x → HasCommanded v d x
  commanded_later d x i =
      subst (In (commanded d x)) (sym (messages_behind w m))
      (in_front (commanded d x) (said w.network.messages) (posted (acts w m.chosen m.action).posts) i)

  module _ (d o : ℕ) (alone : IsUntouched v o) where
    alone_before : IsUntouched w o
    alone_before c e x sent = alone c e x (sent_later w m c e x sent)

    lane_later : (x : StoredObject) (n : ℕ) → IsOfLane w d o x n → IsOfLane v d o x n
    lane_later x n r = record {
      command = r.command;
      sent = commanded_later d r.command r.sent;
      object = r.object;
      nonce_is = r.nonce_is;
      bytes = r.bytes;
    }

    -- a command of the server leaves its lane
    leaves : (x : Command) (of : IsOfServer w d x) → of.command.object ≡ o → (y : StoredObject) (l : LaneEntry)
        (ls : List LaneEntry) (n : ℕ) → y.lanes ≡ with_lane ls (lane_for x n) → lane_of y.lanes SERVER_HOLDER ≡ Some l →
        (of.command.action ≡ action.Write → HasBytesOf y of.command) → IsOfLane v d o y l.nonce
    leaves x of own y l ls n lanes lane bytes = record {
      command = of.command;
      sent = commanded_later d of.command of.sent;
      object = own;
      nonce_is =
          new_lane ls x n l of.holder (ap (λ (q : List LaneEntry). lane_of q SERVER_HOLDER) (sym lanes) ∙ lane)
          ∙ of.reads.nonce;
      bytes = bytes;
    }

    by_turn : Turned w v d o → (y : StoredObject) (l : LaneEntry) → object_on (at_number v.drives d) o ≡ Some y →
        lane_of y.lanes SERVER_HOLDER ≡ Some l → IsOfLane v d o y l.nonce
    by_turn (Same same) y l is lane =
        lane_later y l.nonce
        (before (scenario laws places w h k m is_due later clean) (clean_front h (lines_in w m) clean) d o alone_before y l
        (sym same ∙ is) lane)
    by_turn (Gone none) y l is lane = absurd (cc (sym none ∙ is))
    by_turn (Makes x of own create none made) y l is lane =
        leaves x of own y l [] 0 (ap (λ (z : StoredObject). z.lanes) (same_Some y _ (sym is ∙ made))) lane
        (λ write. absurd (cc (sym create ∙ write)))
    by_turn (Writes x of own write b was made unspent) y l is lane =
        let same = same_Some _ y (sym made ∙ is) in
        leaves x of own y l b.lanes 0 (ap (λ (z : StoredObject). z.lanes) (sym same)) lane
        (λ again. subst (λ (z : StoredObject). HasBytesOf z of.command) same
        (λ i low. written_inside b.content of.command.offset of.command.payload i low))
    by_turn (Sets x of own sets b c was made n lanes) y l is lane =
        leaves x of own y l b.lanes n (ap (λ (z : StoredObject). z.lanes) (same_Some y c (sym is ∙ made)) ∙ lanes) lane
        (λ write. elim sets [ inl tag ↦ absurd (cc (sym tag ∙ write)) | inr attr ↦ absurd (cc (sym attr ∙ write)) ])

    stand_behind : (y : StoredObject) (l : LaneEntry) → object_on (at_number v.drives d) o ≡ Some y →
        lane_of y.lanes SERVER_HOLDER ≡ Some l → IsOfLane v d o y l.nonce
    stand_behind = by_turn (turned laws places w h k m is_due later clean d o alone_before)

lanes_stand : MovedLaws → EachWriteHasItsPlace → (w : World) (h : List Line) → IsMoment w h → Stand w h
lanes_stand laws places w h k =
    always Stand (record {
      starts = λ scenario_ clean d o alone x l is lane. absurd (cc is);
      moves = λ u g j m d p later clean n o alone y l is lane.
          stand_behind laws places u g j m d p later clean n o alone y l is lane;
    }) laws.made.more w h k

-- ---- at each moment

-- what is known of histories, and of what the server asks
pub record KeptLaws : Type 0 where
  pub moved : MovedLaws
  pub places : EachWriteHasItsPlace
  pub asked : EachTargetIsWellAsked

module _ (laws : KeptLaws) (w : World) (h : List Line) (k : IsMoment w h) (is_scenario : IsOfScenario h)
    (clean : unguessed h ≡ true) (f : File) (here : In f w.server.files) where
  world : OwnedLaws
  world = record { more = laws.moved.made.more; counters = laws.moved.room; ahead = laws.moved.made.ahead }

  module _ (j : Job) (t : Target) (todo : List Piece) (a : Awaited) (o : StoredObject) (runs : f.job ≡ Some j)
      (works : j.work ≡ Fills t todo) (awaits : In a j.awaited)
      (there : object_on (at_number w.drives t.drive) t.object ≡ Some o) where
    aim : target_of f.job ≡ Some t
    aim = ap target_of runs ∙ ap target_in works

    waits : In a (awaited_by f.job)
    waits = subst (λ (q : Option Job). In a (awaited_by q)) (sym runs) awaits

    alone : IsUntouched w t.object
    alone c d x has object =
        (are_unaimed laws.moved w h k is_scenario c d x has (is_backed laws.moved w h k is_scenario c d x has)).none
        f.kept.number f t (at_place w.server.files f (files_distinct w (reached w h k)) here) aim (sym object)

    latest : IsLatest w t j.awaited
    latest = each_fill_is_latest laws.moved.made.more w h k (are_named h is_scenario.written) f here j t todo runs works

    own : a ≡ latest.command
    own = in_one a latest.command j.awaited latest.only awaits

    write : a.command.action ≡ action.Write
    write =
        by todo (subst (λ (y : Work). IsAskedIn f.kept y a) works
        ((subst (FitsIn f.kept) runs (fits_in world w h k is_scenario f here)).asked a awaits))
      where
        by : (ps : List Piece) → IsAskedIn f.kept (Fills t ps) a → a.command.action ≡ action.Write
        by [] asked = absurd asked
        by (p ∷ ps) asked = asked.action_is

    -- the lane's command is the one that is awaited
    by_lane : (l : LaneEntry) → a.command.nonce ≤ l.nonce → IsOfLane w t.drive t.object o l.nonce → HasBytesOf o a.command
    by_lane l passed r =
        elim ((laws.asked w h k is_scenario f here).only t r.command aim r.sent r.object) [
          | inl create ↦
              let early =
              creates_are_earlier laws.moved.made.more w h k (are_named h is_scenario.written) f here t a r.command aim waits
              write r.sent r.object create in
              absurd (omega (arith, early, passed, r.nonce_is))
          | inr writes ↦
              let le = latest.latest r.command (record { sent = r.sent; write = writes; object = r.object }) in
              let same : a.command.nonce ≡ latest.command.command.nonce = ap (λ (y : Awaited). y.command.nonce) own in
              let nonce : a.command.nonce ≡ r.command.nonce = omega (arith, le, same, passed, r.nonce_is) in
              let is =
              (held world w h k is_scenario).numbers.answers t.drive r.command r.sent a (f, here, waits) nonce in
              subst (HasBytesOf o) is.1 (r.bytes writes)
        ]

    by_option : (q : Option LaneEntry) → lane_or_none (Some o) SERVER_HOLDER ≡ q → HasPassed q a.command.nonce →
        HasBytesOf o a.command
    by_option None is passed = absurd passed
    by_option (Some l) is passed =
        by_lane l passed
        (lanes_stand laws.moved laws.places w h k is_scenario clean t.drive t.object alone o l there is)

  pub fills_stand : FillsStand w f
  fills_stand j t todo a o runs works awaits there passed =
      by_option j t todo a o runs works awaits there (lane_or_none (Some o) SERVER_HOLDER) refl passed

pub each_fill_stands : KeptLaws → EachFillStands
each_fill_stands laws w h k is_scenario clean f here = fills_stand laws w h k is_scenario clean f here
