-- The events of each move of a drive, or of nobody, can happen, also where the move is cut.
use Rattle.std.proofs.Common.{◌≡◌, ◌≤◌, ℕ, ◌++◌, true, List, ◌∷◌, zero, suc, take, Option, Some, None, refl, sym, ap, subst, ◌∙◌, arith}
use Rattle.scenario_text.specs.declared.event.Event.TheVariants as event
use Rattle.std.proofs.Math.Seq.{take-nil}
use Rattle.osd_commands.specs.Commands.{reading}
use Rattle.scenario_text.specs.declared.line.Line.{Line}
use Rattle.scenario_text.specs.declared.line.Line.TheVariants as line
use Rattle.world_history.specs.Drives.{judges}
use Rattle.server_rules.specs.Messages.{counters_have_room}
use Rattle.world_history.specs.Guesses.{unguessed}
use Rattle.world_history.specs.Moves.{Action, Opens, acts, begins, injects, injects_at}
use Rattle.world_history.specs.ServerNames.{File}
use Rattle.world_history.specs.State.{World, DriveAt, at_number}
use Rattle.world_history.specs.Sending.{Move, move, sends_all, sent_lines}
use Rattle.history_law.specs.Moments.{lines_in, with_event}
use Rattle.history_law.specs.Doing.{input_in}
use Rattle.component_law.specs.Sent.{IsSentByRun}
use Rattle.component_law.proofs.NamedLines.{are_named}
use Rattle.exchange_law.specs.Counters.{CountersStayLow}
use Rattle.exchange_law.proofs.HeldWorlds.{next_moment}
use Rattle.exchange_law.proofs.Knowing.{lawful_at}
use Rattle.exchange_law.proofs.LatestLaw.{AllFine, fine_at}
use Rattle.exchange_law.proofs.RefusalClients.{Known}
use Rattle.cause_law.specs.Fresh.{GrantsAreFresh}
use Rattle.cause_law.specs.Readable.{FilesAndAnswersAreReadable}
use Rattle.fence_law.specs.Law.{IsCode}
use Rattle.fence_law.specs.Machine.{Lawful}
use Rattle.fence_law.specs.State.{State}
use Rattle.fence_law.proofs.Safe.{Safe}
use Rattle.plan_law.proofs.Codes.{layouts_are_codes}
use Rattle.file_simulation.specs.Claim.{IsOfScenario}
use Rattle.file_simulation.specs.ClientEvents.{going_in}
use Rattle.file_simulation.specs.Cuts.{lines_before}
use Rattle.file_simulation.specs.Events.{joined, events_of, events_at, led_by}
use Rattle.file_simulation.proofs.Fronts.{scenario_before}
use Rattle.relation_law.specs.ComponentsFacts.{OfDrives}
use Rattle.relation_law.specs.ComponentsFollow.{EachWriteHasItsPlace}
use Rattle.relation_law.specs.DriveHearing.{IsLaidOut, NoneIsGuessed}
use Rattle.relation_law.specs.Steps.{Follows, owed}
use Rattle.relation_law.proofs.ComponentsGoOn.{by_drive, drive_lawful}
use Rattle.relation_law.proofs.ComponentsGuesses.{none_is_guessed}
use Rattle.relation_law.proofs.ComponentsMade.{MadeLaws, are_first}
use Rattle.relation_law.proofs.ComponentsSenders.{SenderLaws, are_of_senders}
use Rattle.relation_law.proofs.ComponentsWorld.{awaited_are_sent, laid_out}
use Rattle.relation_law.proofs.DrivePerformed.{GoWell}
use Rattle.relation_law.proofs.KeptGoing.{safe_of}
use Rattle.headline_law.specs.Parts.{DrivesAreLawful}

-- what is known of histories
pub record DriveLaws : Type 0 where
  pub made : MadeLaws
  pub known : Known
  pub readable : FilesAndAnswersAreReadable
  pub room : CountersStayLow
  pub fresh : GrantsAreFresh
  pub senders : SenderLaws
  pub places : EachWriteHasItsPlace

-- ---- the lines of an action

abbrev lines_at : World → List ℕ → Action → List Line
lines_at w chosen a = with_event a (sends_all (acts w chosen a)).lines

-- where bytes are injected there are two at most
injected_whole : (w : World) (chosen : List ℕ) (d : ℕ) (bytes : List ℕ) (n : ℕ) →
    take (suc (suc n)) (lines_at w chosen (Opens (event.Inject d bytes))) ≡ lines_at w chosen (Opens (event.Inject d bytes))
unfolding begins injects sent_lines
injected_whole w chosen d bytes n = by_drive (at_number w.drives d)
  where
    by_drive : (o : Option DriveAt) →
        take (suc (suc n)) (with_event (Opens (event.Inject d bytes)) (sends_all (injects_at w d bytes o)).lines)
        ≡ with_event (Opens (event.Inject d bytes)) (sends_all (injects_at w d bytes o)).lines
    by_drive None = ap (λ (ls : List Line). line.Event (event.Inject d bytes) ∷ ls) (take-nil (suc n))
    by_drive (Some a) =
        ap (λ (ls : List Line). line.Event (event.Inject d bytes) ∷ line.Judged d (judges a (reading bytes)).verdict ∷ ls)
        (take-nil n)

module _ (laws : DriveLaws) (w : World) (h : List Line) (m : Move) (count : ℕ) (f g : File) (s : State)
    (k : Follows w h m count f g s) (rests : going_in w m.action ≡ None) (nothing : input_in w m.action ≡ None) where
  scenario : IsOfScenario h
  scenario = scenario_before h (take count (lines_in w m)) k.calm.scenario

  run : IsSentByRun w
  run = laws.made.run w h k.moment (are_named h scenario.written)

  laid : IsLaidOut f
  laid = laid_out w h k.moment (laws.made.fits w h k.moment scenario.text) run f k.there

  room : counters_have_room w.server ≡ true
  room = laws.room w h k.moment scenario.text scenario.few

  safe : Safe s
  safe = safe_of s k.run (subst IsCode (sym k.related.layout) (layouts_are_codes f.kept.map f.kept.first_tag laid.checked))

  fine : AllFine w
  fine =
      fine_at laws.made.more h
      (laws.fresh h (laws.readable h (lawful_at w h k.moment) scenario.text scenario.few) (omega (arith, scenario.few))) w
      k.moment

  of_drives : OfDrives s w f
  of_drives = record {
    first = are_first w run room f k.there laws.made.ahead;
    senders =
        are_of_senders laws.senders w h k.moment scenario run laws.known fine s f k.related safe laid
        (laws.places w h k.moment scenario);
  }

  abbrev Goal : Type 0
  Goal = Lawful s (joined (take count (events_of s w (owed k.related) f m)))

  -- ---- where nothing is guessed

  pub goes_well : NoneIsGuessed w m.action → GoWell s w (move w m).world f (joined (events_of s w (owed k.related) f m))
  goes_well guess =
      by_drive w h m f g s k.moment k.is_due k.there k.run k.related rests nothing laid of_drives
      (awaited_are_sent laws.known w h k.moment scenario.few) guess

  unless_guessed : NoneIsGuessed w m.action → Goal
  unless_guessed guess =
      drive_lawful w h m count f g s k rests nothing laid of_drives
      (awaited_are_sent laws.known w h k.moment scenario.few) guess

  -- where bytes are injected, the event stands at the line behind that of the injection, which is the last one
  injected_none : (d : ℕ) (bytes : List ℕ) → m.action ≡ Opens (event.Inject d bytes) → (n : ℕ) → count ≡ suc (suc n) →
      NoneIsGuessed w m.action
  injected_none d bytes is n at =
      let whole : take count (lines_in w m) ≡ lines_in w m =
      ap (λ (i : ℕ). take i (lines_in w m)) at
      ∙ subst (λ (a : Action). take (suc (suc n)) (lines_at w m.chosen a) ≡ lines_at w m.chosen a) (sym is)
      (injected_whole w m.chosen d bytes n) in
      none_is_guessed w h k.moment m (next_moment w h k.moment m k.is_due)
      (ap (λ (ls : List Line). unguessed (h ++ ls)) (sym whole) ∙ k.calm.is_unguessed)

  injected : (d : ℕ) (bytes : List ℕ) → m.action ≡ Opens (event.Inject d bytes) → (n : ℕ) → count ≡ n → Goal
  injected d bytes is zero at = rw at tt
  injected d bytes is (suc zero) at =
      rw at
      (subst (λ (a : Action). Lawful s (joined (take 1 (led_by a (events_at s w (owed k.related) f m (going_in w m.action))))))
      (sym is) tt)
  injected d bytes is (suc (suc n)) at = unless_guessed (injected_none d bytes is n at)

  -- none is, if the cut has the line with which the step begins
  pub none_guessed : lines_before m.action ≤ count → NoneIsGuessed w m.action
  none_guessed low = by m.action refl low
    where
      late : (d : ℕ) (bytes : List ℕ) → m.action ≡ Opens (event.Inject d bytes) → (n : ℕ) → count ≡ n → 2 ≤ n →
          NoneIsGuessed w m.action
      late d bytes is zero at few = absurd (omega (arith, few))
      late d bytes is (suc zero) at few = absurd (omega (arith, few))
      late d bytes is (suc (suc n)) at few = injected_none d bytes is n at

      by : (a : Action) → m.action ≡ a → lines_before a ≤ count → NoneIsGuessed w m.action
      by (Opens (event.Inject d bytes)) is few = late d bytes is count refl few
      by (Opens e) is few = subst (NoneIsGuessed w) (sym is) tt
      by a is few = subst (NoneIsGuessed w) (sym is) tt

  by_action : (a : Action) → m.action ≡ a → Goal
  by_action (Opens (event.Inject d bytes)) is = injected d bytes is count refl
  by_action (Opens e) is = unless_guessed (subst (NoneIsGuessed w) (sym is) tt)
  by_action a is = unless_guessed (subst (NoneIsGuessed w) (sym is) tt)

  all_lawful : Goal
  all_lawful = by_action m.action refl

-- Moves of drives have events that can happen.
pub drives_are_lawful : DriveLaws → DrivesAreLawful
drives_are_lawful laws w h m count f g s k rests nothing = all_lawful laws w h m count f g s k rests nothing
