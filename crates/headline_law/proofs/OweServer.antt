-- What a repair owes and has done, through a step of the server.
-- Towards `OweFollows` and `DoneFollows` (`specs/Parts.antt`).
use Rattle.std.proofs.Common.{◌≡◌, ◌||◌, ℕ, ◌<◌, List, [], ◌∷◌, Bool, true, false, Option, Some, sym, ap, subst, ◌∙◌, arith}
use Rattle.data_map.specs.declared.check.RawMap.{RawMap}
use Rattle.data_map.specs.Check.{IsChecked}
use Rattle.osd_objects.specs.declared.object.StoredObject.{StoredObject}
use Rattle.osd_objects.specs.Store.{lane_or_none}
use Rattle.scenario_text.specs.declared.line.Line.{Line}
use Rattle.server_rules.specs.declared.limits.TheConstants.{SERVER_HOLDER}
use Rattle.server_rules.specs.Files.{file_at, at_file}
use Rattle.server_rules.specs.Going.{Going}
use Rattle.server_rules.specs.History.{Input}
use Rattle.server_rules.specs.Laws.{AreSafe}
use Rattle.server_rules.specs.Making.{new_server}
use Rattle.server_rules.specs.Replies.{answers, hearing}
use Rattle.server_rules.proofs.StepLaws.{safe_after}
use Rattle.history_law.specs.Doing.{input_in}
use Rattle.history_law.specs.Names.{Server, File, Component, Job, Piece, Work, Creates, Fences, Fetches, Stores, Targets, Gathers, Fills, Lengths, Checks, Repairing}
use Rattle.history_law.specs.Said.{IsHeardByServer}
use Rattle.history_law.specs.Spent.{HasPassed}
use Rattle.history_law.proofs.Hearing.{found_in}
use Rattle.component_law.proofs.Moments.{allowed_at}
use Rattle.component_law.proofs.NamedLines.{are_named}
use Rattle.exchange_law.proofs.CountMoments.{reached}
use Rattle.world_history.specs.State.{World, at_number}
use Rattle.world_history.specs.Sending.{Move, move}
use Rattle.fence_law.specs.State.{State, Event}
use Rattle.plan_law.specs.FileLayout.{layout_of}
use Rattle.file_simulation.specs.Components.{has_failed, object_of}
use Rattle.file_simulation.specs.Events.{joined, events_of}
use Rattle.file_simulation.specs.Jobs.{DoneIn}
use Rattle.file_simulation.specs.Phases.{PhaseIs, IsRepairing}
use Rattle.file_simulation.specs.ServerEvents.{asker}
use Rattle.relation_law.specs.DriveHearing.{IsLaidOut}
use Rattle.relation_law.specs.Frames.{IsOfServer}
use Rattle.relation_law.specs.Steps.{FollowsWhole, whole_behind, owed}
use Rattle.relation_law.proofs.DriveAlike.{server_move_alike}
use Rattle.relation_law.proofs.DriveStays.{IsAlike}
use Rattle.relation_law.proofs.FramesFiles.{file_stays, files_distinct}
use Rattle.relation_law.proofs.FramesParties.{by_server_lines, server_alone, server_steps}
use Rattle.relation_law.proofs.FramesStay.{all_joined}
use Rattle.relation_law.proofs.OwnedBefore.{run}
use Rattle.relation_law.proofs.OwnedJoined.{own}
use Rattle.relation_law.proofs.Followed as followed
use Rattle.relation_law.proofs.Quiet.{layout_all}
use Rattle.relation_law.proofs.RequestsHeard.{heard_in}
use Rattle.headline_law.specs.OweAsking.{AsksOf}
use Rattle.headline_law.proofs.OweWritten.{WrittenOf}
use Rattle.headline_law.specs.Parts.{PartsBehind}
use Rattle.headline_law.proofs.OweAskedRun.{repairs_ask_all}
use Rattle.headline_law.proofs.OweGoes.{OwnWays, own_goes}
use Rattle.headline_law.proofs.OweLaws.{OweLaws}
use Rattle.headline_law.proofs.OweLow.{passed_low}
use Rattle.headline_law.proofs.OweMachine.{KeepsCells, repair_keeps}
use Rattle.headline_law.proofs.OweSteps as steps
use Rattle.headline_law.proofs.OweTurns as turns
use Rattle.headline_law.proofs.OweWalk.{OwesStores, Settles, Outcome, IsSettled}

module _ (laws : OweLaws) (w : World) (h : List Line) (m : Move) (f g : File) (s : State) (k : FollowsWhole w h m f g s)
    (b : PartsBehind k) (i : Input) (is : input_in w m.action ≡ Some i) (repairs : g.kept.phase ≡ Repairing) (j : Job)
    (runs : g.job ≡ Some j) where
  abbrev v : World
  v = (move w m).world

  abbrev t : State
  t = whole_behind k

  abbrev events : List Event
  events = joined (events_of s w (owed k.follows.related) f m)

  laid : IsLaidOut f
  laid = (laws.moves w h m f g s k).laid

  now_repairs : t.repairing ≡ true
  now_repairs = (subst (PhaseIs t g) repairs b.kept.phase).repairing

  -- a repair that was under way lasts
  keeps : f.kept.phase ≡ Repairing → t.tag ≡ f.kept.tag → KeepsCells s t
  keeps was tag =
      let before : IsRepairing false s f = subst (PhaseIs s f) was k.follows.related.kept.phase in
      repair_keeps s (asker i) events
      (all_joined (IsOfServer (asker i)) (events_of s w (owed k.follows.related) f m)
      (by_server_lines s w (owed k.follows.related) f m i is)) k.lawful before.repairing now_repairs
      (tag ∙ sym k.follows.related.kept.tag)

  alike : IsAlike w v
  alike =
      server_move_alike w m.chosen (laws.moves w h m f g s k).awaited m.action
      (allowed_at w h k.follows.moment m.action k.follows.is_due) (server_alone w m.action i is) i is

  objects : (at : Component) → object_of v at ≡ object_of w at
  objects at = alike.objects at.drive at.object

  passed : (at : Component) (n : ℕ) → HasPassed (lane_or_none (object_of v at) SERVER_HOLDER) n → n < w.server.next_nonce
  passed at n has =
      passed_low laws.join.world w h k.follows.moment (followed.scenario w h m f g s k) (own laws.join w h m f g s k) at n
      (subst (λ (o : Option StoredObject). HasPassed (lane_or_none o SERVER_HOLDER) n) (objects at) has)

  asks : AsksOf f.kept f.job
  asks =
      repairs_ask_all laws.join.world.more w h k.follows.moment (are_named h (followed.scenario w h m f g s k).written) f
      (followed.in_before w h m f g s k)

  heard : IsHeardByServer w i
  heard = heard_in w m.action i is

  abbrev R : Going → Type 0
  R x = IsSettled (WrittenOf s (owed k.follows.related) f.job) t v w.server.next_nonce passed x.file

  ways : OwnWays w.server m.chosen i f R
  ways = record {
    stays = λ x same.
        turns.same_settled laws.join.world w h k.follows.moment (followed.scenario w h m f g s k) s f k.follows.there
        k.follows.related laid asks t v keeps objects passed x.file same;
    free = λ x none.
        steps.free_settled laws.join.world w h k.follows.moment (followed.scenario w h m f g s k) s f k.follows.there
        k.follows.related laid asks t v keeps objects passed x.file none;
    heard = λ x at same.
        let runs_ : f.job ≡ Some x.job = ap (λ (y : File). y.job) (sym same) ∙ at.runs in
        let found = found_in (answers x.drive x.reply) x.job.awaited x.awaited at.awaits in
        steps.hears_settled laws.join.world w h k.follows.moment (followed.scenario w h m f g s k) s f k.follows.there
        k.follows.related laid asks t v keeps objects passed (at_file w.server m.chosen x.file) same (omega arith) x.job runs_
        x.now x.drive x.reply (subst (IsHeardByServer w) at.is heard) x.awaited found.0 found.1
        (hearing x.file.kept x.awaited x.reply) (ap (λ (y : File). hearing y.kept x.awaited x.reply) (sym same));
    fenced = λ x kind format same none.
        steps.fence_settled laws.join.world w h k.follows.moment (followed.scenario w h m f g s k) s f k.follows.there
        k.follows.related laid asks t v keeps objects passed kind format x;
    declared = λ x drive same.
        turns.declares_settled laws.join.world w h k.follows.moment (followed.scenario w h m f g s k) s f k.follows.there
        k.follows.related laid asks t v keeps objects passed drive x same;
    opened = λ x format same.
        turns.opens_settled laws.join.world w h k.follows.moment (followed.scenario w h m f g s k) s f k.follows.there
        k.follows.related laid asks t v keeps objects passed format x same;
  }

  safe : AreSafe w.server.files
  safe =
      let r = run laws.join.world w h k.follows.moment (followed.scenario w h m f g s k) in
      subst (λ (y : Server). AreSafe y.files) (sym r.server) (safe_after (new_server []) r.acts tt)

  settled : IsSettled (WrittenOf s (owed k.follows.related) f.job) t v w.server.next_nonce passed g
  settled =
      let r = own_goes w.server m.chosen i f R ways safe (files_distinct w (reached w h k.follows.moment)) k.follows.there g
      (ap (λ (y : Server). file_at y.files f.kept.number) (sym (server_steps w m i is)) ∙ k.follows.goes) in
      subst (λ (y : File). IsSettled (WrittenOf s (owed k.follows.related) f.job) t v w.server.next_nonce passed y) r.1 r.2

  settles : Settles t g.kept
  settles =
      let stays = file_stays w h k.follows.moment m k.follows.is_due f.kept.number f g k.follows.there k.follows.goes in
      record {
        tag = b.kept.tag;
        layout = layout_all s events ∙ k.follows.related.layout
            ∙ ap (λ (y : RawMap). layout_of y f.kept.first_tag) (sym stays.same.map)
            ∙ ap (layout_of g.kept.map) (sym stays.same.first_tag);
        checked = subst IsChecked (sym stays.same.map) laid.checked;
        many = stays.components ∙ laid.components ∙ ap (λ (y : RawMap). y.comps) (sym stays.same.map);
        lost = λ n at there gone. (b.components n at there).lost ∙
            ap (λ (x : Bool). x || has_failed (at_number v.drives at.drive)) gone;
      }

  outcome : Outcome (WrittenOf s (owed k.follows.related) f.job) t v w.server.next_nonce passed g j j.work
  outcome = settled repairs settles j runs

  -- a repair that writes
  pub stores_owe : WrittenOf s (owed k.follows.related) f.job → (p : Piece) (ps : List Piece) (short : List ℕ)
      (broken : Bool) → j.work ≡ Stores (p ∷ ps) short broken → OwesStores t v g j p
  stores_owe written p ps short broken work =
      (subst (Outcome (WrittenOf s (owed k.follows.related) f.job) t v w.server.next_nonce passed g j) work outcome).1 written

  -- what it has done
  pub step_done : DoneIn t g j.work
  step_done = by_work j.work outcome
    where
      by_work : (work : Work) → Outcome (WrittenOf s (owed k.follows.related) f.job) t v w.server.next_nonce passed g j work →
          DoneIn t g work
      by_work (Fetches todo short) o = o
      by_work (Stores [] short q) o = o
      by_work (Stores (p ∷ ps) short q) o = o.0
      by_work Creates o = tt
      by_work Fences o = tt
      by_work (Targets y) o = tt
      by_work (Gathers y todo) o = tt
      by_work (Fills y todo) o = tt
      by_work Lengths o = tt
      by_work (Checks todo y) o = tt
