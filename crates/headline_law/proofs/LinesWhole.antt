-- Behind the lines of a whole move all its events have happened, and no note of it is still to be told.
use Rattle.std.proofs.Common.{◌≡◌, ◌≤◌, ℕ, ◌+◌, ◌-◌, ◌++◌, [], List, length, nat_lt, Bool, true, false, Option, Some, None, refl, subst, arith, if◌then◌else◌}
use Rattle.std.specs.Prelude.{take, drop}
use Rattle.std.proofs.lemmas.List.{drop_all}
use Rattle.scenario_text.specs.declared.event.Event.TheVariants as event
use Rattle.scenario_text.specs.declared.event.Sender.TheVariants as sender
use Rattle.scenario_text.specs.declared.line.Line.{Line}
use Rattle.server_rules.specs.History.{Input, step}
use Rattle.world_history.specs.Book.{step_by}
use Rattle.world_history.specs.Moves.{Action, Opens, Delivers, TimesOut, Pends}
use Rattle.world_history.specs.Sending.{Move}
use Rattle.world_history.specs.ServerNames.{File}
use Rattle.world_history.specs.State.{World}
use Rattle.history_law.specs.BookMoments.{lines_in}
use Rattle.history_law.specs.Doing.{input_in}
use Rattle.history_law.specs.Read.{leads}
use Rattle.exchange_law.specs.Text.{AreOfText}
use Rattle.exchange_law.proofs.CountGrowing.{text_front}
use Rattle.fence_law.specs.State.{State}
use Rattle.file_simulation.specs.ClientEvents.{Going, going_in}
use Rattle.file_simulation.specs.Cuts.{notes_behind, lines_before}
use Rattle.file_simulation.specs.Events.{joined, events_of}
use Rattle.name_law.specs.ServerTells.{given_to_server, LeavesNothingOut, ServerLeavesNothingOut, TextsAreNamed}
use Rattle.relation_law.specs.Steps.{Follows}
use Rattle.relation_law.proofs.Followed.{all_taken}
use Rattle.headline_law.specs.Parts.{EventsHaveLines, NotesAreTold}
use Rattle.headline_law.proofs.Lines.{led}
use Rattle.headline_law.proofs.LinesClient.{ClientLineLaws, client_joined}
use Rattle.headline_law.proofs.LinesServer.{lines_long, server_joined, drive_joined}

pub record LineLaws : Type 0 where
  pub clients : ClientLineLaws
  pub server : ServerLeavesNothingOut
  pub texts : TextsAreNamed

-- what comes to the server is given to it
given_too : (w : World) (action : Action) (i : Input) → input_in w action ≡ Some i → given_to_server w action ≡ Some i
given_too w (Opens (event.Resend sender.Server)) i comes = absurd (cc comes)
given_too w (Opens e) i comes = comes
given_too w action i comes = comes

-- the line of a step, and one before it that only leads
pub before_led : (action : Action) → lines_before action ≡ led action + 1
unfolding led
before_led (Opens e) = by (leads e)
  where
    by : (b : Bool) → (if b then 2 else 1) ≡ (if b then 1 else 0) + 1
    by true = refl
    by false = refl
before_led (Delivers n) = refl
before_led (TimesOut c k) = refl
before_led (Pends c) = refl

module _ (laws : LineLaws) (w : World) (h : List Line) (m : Move) (f g : File) (s : State)
    (k : Follows w h m (length (lines_in w m)) f g s) where
  text : AreOfText (h ++ lines_in w m)
  text = subst (λ (ls : List Line). AreOfText (h ++ ls)) (all_taken (lines_in w m)) k.calm.scenario.text

  nothing_out : (i : Input) → input_in w m.action ≡ Some i → LeavesNothingOut w m (step w.server m.chosen i)
  nothing_out i comes =
      laws.server w h k.moment m k.is_due (laws.texts (h ++ lines_in w m) text) i (given_too w m.action i comes)

  all_events : (e : ℕ → ℕ) → joined (take (length (lines_in w m)) (events_of s w e f m)) ≡ joined (events_of s w e f m)
  all_events e = by_party (going_in w m.action) refl (input_in w m.action) refl
    where
      by_party : (o : Option Going) → going_in w m.action ≡ o → (p : Option Input) → input_in w m.action ≡ p →
          joined (take (length (lines_in w m)) (events_of s w e f m)) ≡ joined (events_of s w e f m)
      by_party (Some j) goes p comes =
          client_joined laws.clients w h k.moment (text_front h (lines_in w m) text) m k.is_due j goes s e f
      by_party None none (Some i) comes = server_joined s w e f m i comes (nothing_out i comes)
      by_party None none None nothing = drive_joined s w e f m none nothing

  none_left : (o : Option Input) → input_in w m.action ≡ o →
      notes_behind (length (lines_in w m)) m.action (step_by w.server m.chosen o) ≡ []
  none_left None comes = refl
  none_left (Some i) comes =
      let long = lines_long w m i (step w.server m.chosen i) comes (nothing_out i comes) in
      by (nat_lt (length (lines_in w m)) (lines_before m.action))
      (omega (arith, long, before_led m.action))
    where
      by : (b : Bool) → length (step w.server m.chosen i).notes ≤ length (lines_in w m) - lines_before m.action →
          (if b then [] else drop (length (lines_in w m) - lines_before m.action) (step w.server m.chosen i).notes) ≡ []
      by true low = refl
      by false low = drop_all (length (lines_in w m) - lines_before m.action) (step w.server m.chosen i).notes low

pub events_have_lines : LineLaws → EventsHaveLines
events_have_lines laws w h m f g s e k = all_events laws w h m f g s k e

pub notes_are_told : LineLaws → NotesAreTold
notes_are_told laws w h m f g s k = none_left laws w h m f g s k (input_in w m.action) refl
