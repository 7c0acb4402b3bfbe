-- In a step of the server the events of its first lines can happen, as long as the run stays calm: `ServersAreLawful`
-- (`specs/Parts.antt`).
use Rattle.std.proofs.Common.{◌≡◌, ◌||◌, ◌+◌, ℕ, Bool, true, false, List, [], ◌∷◌, ◌++◌, Option, Some, refl, sym, ap, subst, ◌∙◌, arith}
use Rattle.std.proofs.lemmas.Bool.{eqb-true}
use Rattle.std.specs.Prelude.{if◌then◌else◌}
use Rattle.osd_lists.specs.declared.node.Node.TheVariants.{Server as FromServer, Client as FromClient, Drive as FromDrive}
use Rattle.scenario_text.specs.declared.line.Line.{Line}
use Rattle.server_rules.specs.Files.{Step, file_at}
use Rattle.server_rules.specs.History.{Input, Hears, Makes, Obeys, Adds, Zones, Formats, Resends, Crashes, Opens, step}
use Rattle.server_rules.specs.Messages.{Asks, Replies, Orders}
use Rattle.component_law.proofs.Moments.{allowed_at}
use Rattle.component_law.specs.Turns.{in_turn}
use Rattle.world_history.specs.ServerNames.{Server, File, ToDeclare}
use Rattle.world_history.specs.State.{World, at_number}
use Rattle.world_history.specs.Sending.{Move}
use Rattle.world_history.specs.Book.{step_by}
use Rattle.world_history.specs.Moves as moves
use Rattle.history_law.specs.Doing.{input_in, did_in}
use Rattle.history_law.specs.Read.{leads}
use Rattle.exchange_law.proofs.CountMoments.{reached}
use Rattle.fence_law.specs.State.{State, Event}
use Rattle.fence_law.specs.Machine.{Lawful, after_all}
use Rattle.file_simulation.specs.Components.{has_failed}
use Rattle.file_simulation.specs.ClientEvents.{Going}
use Rattle.file_simulation.specs.EventLists.{Lines}
use Rattle.file_simulation.specs.Events.{joined, led_by, events_at, events_of}
use Rattle.file_simulation.specs.DriveEvents.{drive_events}
use Rattle.file_simulation.specs.ServerEvents.{at_first, sends_all, server_goes, server_events}
use Rattle.relation_law.specs.KeptSteps.{behind_notes, first_of}
use Rattle.relation_law.specs.Steps.{Follows, owed}
use Rattle.relation_law.proofs.ComponentsFair.{is_fair}
use Rattle.relation_law.proofs.ComponentsMoves.{none_joined}
use Rattle.relation_law.proofs.FramesParties.{server_alone, server_steps, drive_quiet}
use Rattle.relation_law.proofs.KeptGiven.{turn_in}
use Rattle.relation_law.proofs.KeptInputs.{IsNoRequest}
use Rattle.relation_law.proofs.KeptLawful.{DeclaredAreLost, first_lawful}
use Rattle.relation_law.proofs.KeptLines.{first_is, sends_none}
use Rattle.relation_law.proofs.KeptOrders.{no_order_is_heard}
use Rattle.relation_law.proofs.KeptReady.{IsFit, idle_by, fit_by}
use Rattle.relation_law.proofs.OwnedBefore.{fit}
use Rattle.relation_law.proofs.RequestsHeard.{heard_in}
use Rattle.headline_law.specs.Parts.{ServersAreLawful}
use Rattle.headline_law.specs.ServerLines.{MayGo, NotesMay}
use Rattle.headline_law.proofs.ServerAsked.{asked_may}
use Rattle.headline_law.proofs.ServerClients.{ClientLaws, asked_so}
use Rattle.headline_law.proofs.ServerGiven.{scenario, stands_so, is_ready, job_stands, hears_so, declares_so}
use Rattle.headline_law.proofs.ServerLines.{StepMay, may_take, led_go, none_go, step_goes}
use Rattle.headline_law.proofs.ServerSteps.{ComesSo, plain_may}

-- lines without an event behind others
more_go : (s : State) (ls ms : Lines) → MayGo s ls → joined ms ≡ [] → MayGo s (ls ++ ms)
unfolding MayGo
more_go s [] ms may none = none_go s ms none
more_go s (es ∷ ls) ms may none = (may.0, λ r. more_go (after_all s es) ls ms (may.1 r) none)

led_may : (s : State) (a : moves.Action) (ls : Lines) → MayGo s ls → MayGo s (led_by a ls)
led_may s (moves.Opens e) ls may = either (leads e)
  where
    either : (b : Bool) → MayGo s (if b then [] ∷ ls else ls)
    either true = led_go s ls may
    either false = may
led_may s (moves.Delivers n) ls may = may
led_may s (moves.TimesOut c k) ls may = may
led_may s (moves.Pends c) ls may = may

-- ---- the lines of a step

module _ (w : World) (h : List Line) (m : Move) (count : ℕ) (f g : File) (s : State) (k : Follows w h m count f g s) (i : Input)
    (comes : input_in w m.action ≡ Some i) where
  pub found_there : file_at (step w.server m.chosen i).state.files f.kept.number ≡ Some g
  found_there = ap (λ (x : Server). file_at x.files f.kept.number) (sym (server_steps w m i comes)) ∙ k.goes

  its_lines : server_events s w f.kept.number (input_in w m.action) (did_in w m)
      ≡ server_goes s w (step w.server m.chosen i) i (Some f) (Some g)
  its_lines =
      ap (λ (o : Option Input). server_events s w f.kept.number o (step_by w.server m.chosen o)) comes
      ∙ ap (λ (o : Option File). server_goes s w (step w.server m.chosen i) i o
      (file_at (step w.server m.chosen i).state.files f.kept.number)) k.there
      ∙ ap (λ (o : Option File). server_goes s w (step w.server m.chosen i) i (Some f) o) found_there

  -- what stands behind a line that leads
  abbrev pub all_lines : Lines
  all_lines = server_goes s w (step w.server m.chosen i) i (Some f) (Some g) ++ drive_events s w (owed k.related) f m.action

  pub lines_are : events_of s w (owed k.related) f m ≡ led_by m.action all_lines
  lines_are =
      ap (λ (o : Option Going). led_by m.action (events_at s w (owed k.related) f m o)) (server_alone w m.action i comes)
      ∙ ap (λ (ls : Lines). led_by m.action (ls ++ drive_events s w (owed k.related) f m.action)) its_lines

-- ---- that they can happen

module _ (laws : ClientLaws) (w : World) (h : List Line) (m : Move) (count : ℕ) (f g : File) (s : State)
    (k : Follows w h m count f g s) where
  -- ---- what comes to the server

  abbrev Comes : Input → Type 0
  Comes i =
      ComesSo w.server.next_grant s w f m.chosen (stands_so laws.given w h m count f g s k)
      (is_ready laws.given w h m count f g s k) (job_stands laws.given w h m count f g s k) i

  comes_so : (i : Input) → input_in w m.action ≡ Some i → Comes i
  comes_so (Hears now (FromDrive d) (Replies r)) comes = hears_so laws.given w h m count f g s k now d r comes
  comes_so (Obeys ToDeclare d) comes = declares_so laws.given w h m count f g s k d comes
  comes_so i comes = tt

  or_true : (b : Bool) → (b || true) ≡ true
  or_true true = refl
  or_true false = refl

  -- a drive that is declared has failed, and each component on it is lost
  declared : (i : Input) → input_in w m.action ≡ Some i → DeclaredAreLost s f i
  declared (Obeys ToDeclare d) comes = λ n at found on.
      let fair = is_fair laws.given.fenced.owned.more laws.given.others w h k.moment m k.is_due f (Obeys ToDeclare d) comes in
      let drive : at.drive ≡ d = eqb-true at.drive d on in
      let lost : s.lost n ≡ true =
      (k.related.components n at found).lost
      ∙ ap (λ (b : Bool). at.missing || b) (ap (λ (x : ℕ). has_failed (at_number w.drives x)) drive ∙ fair.0)
      ∙ or_true at.missing in
      subst (λ (x : ℕ). s.lost x ≡ true) (let e : n ≡ 0 + n = omega arith in e) lost
  declared i comes = tt

  -- ---- the step

  abbrev May : Input → Type 0
  May i = StepMay s w f g i (step w.server m.chosen i)

  turn : (i : Input) → input_in w m.action ≡ Some i → in_turn w.down i ≡ true
  turn i comes = turn_in w m.action i (allowed_at w h k.moment m.action k.is_due) comes

  is_fit : IsFit w
  is_fit = fit laws.given.fenced.owned w h k.moment (scenario laws.given w h m count f g s k)

  plain : (i : Input) → input_in w m.action ≡ Some i → IsNoRequest i → May i
  plain i comes no_ =
      let did : Step = step w.server m.chosen i in
      let first : at_first s w.server did f g i ≡ first_of f g i = first_is s w.server did f g i no_ in
      let law : Lawful s (first_of f g i) =
      first_lawful w.server.next_grant s f g i (declared i comes) (stands_so laws.given w h m count f g s k).kept in
      let notes : NotesMay (after_all s (first_of f g i)) w f i did.notes =
      plain_may w.server.next_grant s w f m.chosen (stands_so laws.given w h m count f g s k)
      (is_ready laws.given w h m count f g s k) (job_stands laws.given w h m count f g s k) i (comes_so i comes) no_
      (no_order_is_heard w (reached w h k.moment) i (heard_in w m.action i comes))
      (idle_by w w.down refl is_fit i (turn i comes)) (fit_by w w.down refl is_fit i (turn i comes)) g
      (found_there w h m count f g s k i comes) law in
      record {
        first = subst (Lawful s) (sym first) law;
        notes = subst (λ (es : List Event). NotesMay (after_all s es) w f i did.notes) (sym first) notes;
        sends = λ l r.
            none_go (behind_notes (after_all s (at_first s w.server did f g i)) w f i did.notes)
            (sends_all (behind_notes (after_all s (at_first s w.server did f g i)) w f i did.notes) w.server g i did.sends)
            (sends_none w.server g i no_ (behind_notes (after_all s (at_first s w.server did f g i)) w f i did.notes) did.sends);
      }

  may : (i : Input) → input_in w m.action ≡ Some i → May i
  may (Hears now (FromClient c) (Asks q)) comes =
      asked_may s w f m.chosen now q (stands_so laws.given w h m count f g s k) (is_ready laws.given w h m count f g s k) c
      (λ own taken.
      asked_so laws w h m count f g s k now q
      (comes ∙ ap (λ (n : ℕ). Some (Hears now (FromClient n) (Asks q))) (sym own)) taken) g
      (found_there w h m count f g s k (Hears now (FromClient c) (Asks q)) comes)
  may (Hears now (FromClient c) (Replies r)) comes = plain (Hears now (FromClient c) (Replies r)) comes tt
  may (Hears now (FromClient c) (Orders o)) comes = plain (Hears now (FromClient c) (Orders o)) comes tt
  may (Hears now FromServer b) comes = plain (Hears now FromServer b) comes tt
  may (Hears now (FromDrive d) b) comes = plain (Hears now (FromDrive d) b) comes tt
  may (Makes n map tag zoned) comes = plain (Makes n map tag zoned) comes tt
  may (Obeys kind n) comes = plain (Obeys kind n) comes tt
  may (Adds d) comes = plain (Adds d) comes tt
  may (Zones d zone) comes = plain (Zones d zone) comes tt
  may (Formats n) comes = plain (Formats n) comes tt
  may Resends comes = plain Resends comes tt
  may Crashes comes = plain Crashes comes tt
  may Opens comes = plain Opens comes tt

  -- ---- the lines of the move

  module _ (i : Input) (comes : input_in w m.action ≡ Some i) where
    pub lines_may : MayGo s (events_of s w (owed k.related) f m)
    lines_may =
        subst (MayGo s) (sym (lines_are w h m count f g s k i comes))
        (led_may s m.action (all_lines w h m count f g s k i comes)
        (more_go s (server_goes s w (step w.server m.chosen i) i (Some f) (Some g))
        (drive_events s w (owed k.related) f m.action)
        (step_goes s w f g i (step w.server m.chosen i) (may i comes))
        (none_joined (drive_events s w (owed k.related) f m.action) (drive_quiet s w (owed k.related) f m.action i comes))))

-- The events of the first lines of a step of the server can happen, if it keeps runs calm.
pub servers_are_lawful : ClientLaws → ServersAreLawful
servers_are_lawful laws keep w h m count f g s pairs k i comes =
    may_take s (events_of s w (owed k.follows.related) f m) count
    (λ r. lines_may laws w h m count f g s k.follows i comes)
    (λ n le lawful. keep w h m count f g s pairs k i comes n le lawful)
