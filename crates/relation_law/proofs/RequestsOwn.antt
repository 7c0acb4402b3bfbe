-- A step of the server on a client's request keeps what the machine has of this client's requests.
use Rattle.std.proofs.Common.{◌≡◌, ℕ, List, [], ◌∷◌, ◌++◌, Option, Some, refl, sym, ap, ◌∙◌, append_assoc}
use Rattle.std.proofs.lemmas.List.{append-nil}
use Rattle.scenario_text.specs.declared.line.Line.{Line}
use Rattle.server_rules.specs.Files.{Step, file_at}
use Rattle.server_rules.specs.History.{Input, step as server_step}
use Rattle.world_history.specs.ServerNames.{Server, File}
use Rattle.world_history.specs.State.{World}
use Rattle.world_history.specs.Sending.{Move, move}
use Rattle.history_law.specs.Doing.{input_in, did_in}
use Rattle.world_history.specs.Book.{step_by}
use Rattle.file_simulation.specs.ClientEvents.{Going}
use Rattle.fence_law.specs.State.{State, Event}
use Rattle.file_simulation.specs.EventLists.{Lines}
use Rattle.file_simulation.specs.Events.{joined, events_of, events_at, led_by}
use Rattle.file_simulation.specs.ServerEvents as table
use Rattle.file_simulation.specs.DriveEvents.{drive_events}
use Rattle.relation_law.specs.Frames.{AreAll, LinesAre}
use Rattle.relation_law.specs.Steps.{FollowsWhole, owed}
use Rattle.relation_law.proofs.FramesParties as parties
use Rattle.relation_law.proofs.RequestsMoments.{joined_led}

-- ---- the lines of a step of the server

joined_more : (x y : Lines) → joined (x ++ y) ≡ joined x ++ joined y
joined_more [] y = refl
joined_more (l ∷ x) y = ap (λ (z : List Event). l ++ z) (joined_more x y) ∙ sym (append_assoc l (joined x) (joined y))

none_all : (es : List Event) → AreAll (λ e. ⊥) es → es ≡ []
none_all [] a = refl
none_all (e ∷ es) a = absurd a.0

joined_none : (x : Lines) → LinesAre (λ e. ⊥) x → joined x ≡ []
joined_none [] a = refl
joined_none (l ∷ x) a = ap (λ (z : List Event). z ++ joined x) (none_all l a.0) ∙ joined_none x a.1

module _ (w : World) (h : List Line) (m : Move) (f g : File) (s : State) (k : FollowsWhole w h m f g s) (i : Input)
    (comes : input_in w m.action ≡ Some i) where
  abbrev did : Step
  did = server_step w.server m.chosen i

  pub server_is : (move w m).world.server ≡ did.state
  server_is = parties.server_steps w m i comes

  -- all events of the move are those of the step
  pub lines_are : joined (events_of s w (owed k.follows.related) f m)
      ≡ joined (table.server_goes s w did i (Some f) (Some g))
  lines_are =
      let e : ℕ → ℕ = owed k.follows.related in
      let n : ℕ = f.kept.number in
      ap (λ (o : Option Going). joined (led_by m.action (events_at s w e f m o))) (parties.server_alone w m.action i comes)
      ∙ joined_led m.action (table.server_events s w n (input_in w m.action) (did_in w m) ++ drive_events s w e f m.action)
      ∙ joined_more (table.server_events s w n (input_in w m.action) (did_in w m)) (drive_events s w e f m.action)
      ∙ ap (λ (z : List Event). joined (table.server_events s w n (input_in w m.action) (did_in w m)) ++ z)
      (joined_none (drive_events s w e f m.action) (parties.drive_quiet s w e f m.action i comes))
      ∙ append-nil (joined (table.server_events s w n (input_in w m.action) (did_in w m)))
      ∙ ap (λ (o : Option Input). joined (table.server_events s w n o (step_by w.server m.chosen o))) comes
      ∙ ap (λ (o : Option File). joined (table.server_goes s w did i o (file_at did.state.files n))) k.follows.there
      ∙ ap (λ (o : Option File). joined (table.server_goes s w did i (Some f) o))
      (ap (λ (z : Server). file_at z.files n) (sym server_is) ∙ k.follows.goes)
