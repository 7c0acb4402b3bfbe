-- A move of a drive or of the server: each WRITE that was sent to a component that stands was sent in the machine.
-- Towards `SentGoesOn` (`relation_law/specs/Steps.antt`).
use Rattle.std.proofs.Common.{◌≡◌, ◌||◌, ◌<◌, ◌++◌, ℕ, Bool, true, false, List, Option, Some, None, refl, sym, ap, subst, ◌∙◌, inl, inr}
use Rattle.osd_commands.specs.declared.commands.Command.{Command}
use Rattle.scenario_text.specs.declared.line.Line.{Line}
use Rattle.scenario_text.specs.declared.names.TheConstants.{CLIENTS}
use Rattle.server_rules.specs.Files.{file_at}
use Rattle.server_rules.specs.History.{Input, step}
use Rattle.world_history.specs.ServerNames.{File, Component}
use Rattle.world_history.specs.State.{World, ClientAt, at_number}
use Rattle.world_history.specs.Sending.{Move, move}
use Rattle.history_law.specs.Moments.{IsMoment, lines_in}
use Rattle.history_law.specs.Doing.{input_in}
use Rattle.component_law.proofs.Moments.{allowed_at}
use Rattle.exchange_law.specs.Sent.{HasSent, message_of}
use Rattle.exchange_law.proofs.CountMoments.{reached}
use Rattle.fence_law.specs.State.{State, Event}
use Rattle.file_simulation.specs.ClientEvents.{going_in}
use Rattle.file_simulation.specs.Components.{AreComponents, has_failed, is_lost_in}
use Rattle.file_simulation.specs.Events.{joined, events_of}
use Rattle.relation_law.specs.Frames.{IsOfDrive}
use Rattle.relation_law.specs.MessagesWrites.{IsUnwritten, ObjectsStay, WritesAreSent}
use Rattle.relation_law.specs.Steps.{FollowsWhole, owed, whole_behind}
use Rattle.relation_law.proofs.ComponentsGoOn.{alike, drive_file, goes_there, lost_by_drives}
use Rattle.relation_law.proofs.ComponentsMoved.{MovedLaws, behind as moment_behind, later, safe, scenario}
use Rattle.relation_law.proofs.ComponentsWorld.{awaited_are_sent, ran}
use Rattle.relation_law.proofs.DriveStays.{IsAlike}
use Rattle.relation_law.proofs.FramesFiles.{files_distinct}
use Rattle.relation_law.proofs.FramesGrow.{log_grows}
use Rattle.relation_law.proofs.FramesParties as parties
use Rattle.relation_law.proofs.FramesStay.{all_joined}
use Rattle.relation_law.proofs.KeptCommits.{client_low}
use Rattle.relation_law.proofs.MessagesKept.{writes_stay}
use Rattle.relation_law.proofs.Places.{IsPlaced}
use Rattle.headline_law.proofs.SentNone.{none_new}
use Rattle.headline_law.proofs.SentTargets.{IsRemade, components_remade}
use Rattle.headline_law.proofs.SentUntouched.{are_unaimed, is_backed}

module _ (laws : MovedLaws) (w : World) (h : List Line) (m : Move) (f g : File) (s : State) (k : FollowsWhole w h m f g s)
    (none : going_in w m.action ≡ None) where
  abbrev es : List Event
  es = joined (events_of s w (owed k.follows.related) f m)

  next : IsMoment (move w m).world (h ++ lines_in w m)
  next = moment_behind laws w h m f g s k

  -- who sent a command is a client that a line can name
  low : (c d : ℕ) (x : Command) → HasSent (move w m).world c d x → c < CLIENTS
  low c d x has = by (at_number (move w m).world.clients c) refl
    where
      by : (o : Option ClientAt) → at_number (move w m).world.clients c ≡ o → c < CLIENTS
      by None gone =
          absurd ((ran laws.known (move w m).world (h ++ lines_in w m) next (later laws w h m f g s k).few).absent c gone
          (message_of c d x) has refl)
      by (Some a) there =
          client_low (move w m).world (h ++ lines_in w m) next (later laws w h m f g s k).text c a there

  none_sent : (c d : ℕ) (x : Command) → HasSent (move w m).world c d x → HasSent w c d x
  none_sent c d x has =
      none_new w m (allowed_at w h k.follows.moment m.action k.follows.is_due) none
      (awaited_are_sent laws.known w h k.follows.moment (scenario laws w h m f g s k).few) c d x (low c d x has) has

  writes : (x : File) → AreComponents (whole_behind k) (move w m).world x → ObjectsStay w (move w m).world f x →
      WritesAreSent (whole_behind k) (move w m).world x
  writes x behind stay =
      writes_stay s (whole_behind k) w (move w m).world f x (safe laws w h m f g s k).known (log_grows s es)
      k.follows.related.components behind stay none_sent k.follows.related.sent.writes

  -- ---- of a drive

  module _ (nothing : input_in w m.action ≡ None) (behind : AreComponents (whole_behind k) (move w m).world g) where
    pub same : f ≡ g
    same =
        drive_file w h m f g s k.follows.moment k.follows.is_due k.follows.there k.follows.run k.follows.related none nothing
        k.follows.goes

    behind_f : AreComponents (whole_behind k) (move w m).world f
    behind_f = subst (AreComponents (whole_behind k) (move w m).world) (sym same) behind

    pub objects : ObjectsStay w (move w m).world f f
    objects n at found lost =
        let all = all_joined IsOfDrive (events_of s w (owed k.follows.related) f m)
        (parties.by_drive_lines s w (owed k.follows.related) f m none nothing) in
        let there : (whole_behind k).lost n ≡ false = (behind_f n at found).lost ∙ lost in
        let before : s.lost n ≡ false = lost_by_drives s es all n there in
        inl (record {
          component = at;
          there = found;
          object = refl;
          stands = sym (k.follows.related.components n at found).lost ∙ before;
        })

    pub drive_writes : WritesAreSent (whole_behind k) (move w m).world g
    drive_writes = subst (WritesAreSent (whole_behind k) (move w m).world) same (writes f behind_f objects)

  -- ---- of the server

  module _ (i : Input) (is : input_in w m.action ≡ Some i) (behind : AreComponents (whole_behind k) (move w m).world g) where
    goes : file_at (step w.server m.chosen i).state.files f.kept.number ≡ Some g
    goes =
        goes_there w h m f g s k.follows.moment k.follows.is_due k.follows.there k.follows.run k.follows.related i is
        k.follows.goes

    same_drives : IsAlike w (move w m).world
    same_drives =
        alike w h m f g s k.follows.moment k.follows.is_due k.follows.there k.follows.run k.follows.related i is k.follows.goes
        (awaited_are_sent laws.known w h k.follows.moment (scenario laws w h m f g s k).few)

    -- a component that stands stood before
    stood : (a at : Component) → IsPlaced a at → is_lost_in (move w m).world at ≡ false → is_lost_in w a ≡ false
    stood a at placed lost =
        let both = neither at.missing (has_failed (at_number (move w m).world.drives at.drive)) lost in
        let missing : a.missing ≡ false = placed.missing both.0 in
        let failed : has_failed (at_number w.drives a.drive) ≡ false =
        ap (λ (d : ℕ). has_failed (at_number w.drives d)) (sym placed.drive) ∙ sym (same_drives.failed at.drive) ∙ both.1 in
        ap (λ (b : Bool). b || has_failed (at_number w.drives a.drive)) missing ∙ failed
      where
        neither : (a b : Bool) → (a || b) ≡ false → (a ≡ false) × (b ≡ false)
        neither true b e = absurd (cc e)
        neither false b e = (refl, e)

    -- no client sent anything to what is made anew
    unwritten : (at : Component) → IsRemade f at → IsUnwritten w at
    unwritten at new c d x has write object =
        let t = scenario laws w h m f g s k in
        (are_unaimed laws w h k.follows.moment t c d x has (is_backed laws w h k.follows.moment t c d x has)).none f.kept.number f
        new.0 k.follows.there new.1 (sym new.2 ∙ sym object)

    pub objects_ : ObjectsStay w (move w m).world f g
    objects_ n at found lost =
        elim (components_remade w.server m.chosen i (files_distinct w (reached w h k.follows.moment)) f.kept.number f g
        k.follows.there goes n at found) [
          | inl still ↦ inl (record {
            component = still.0;
            there = still.1;
            object = sym still.2.object;
            stands = stood still.0 at still.2 lost;
          })
          | inr new ↦ inr (unwritten at new.0)
        ]

    pub server_writes : WritesAreSent (whole_behind k) (move w m).world g
    server_writes = writes g behind objects_
