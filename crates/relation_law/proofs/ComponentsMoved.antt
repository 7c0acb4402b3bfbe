-- What the components' part needs at each whole move, but for what a rebuild has made anew.
-- Towards `ComponentsGoOn` (`specs/Steps.antt`).
use Rattle.std.proofs.Common.{◌≡◌, ◌++◌, true, List, [], ◌∷◌, Some, ap, subst, sym, ◌∙◌, arith}
use Rattle.scenario_text.specs.declared.line.Line.{Line}
use Rattle.server_rules.specs.Files.{file_at}
use Rattle.server_rules.specs.History.{Input, Act, step, state_after}
use Rattle.server_rules.specs.Making.{new_server}
use Rattle.server_rules.specs.Messages.{counters_have_room}
use Rattle.world_history.specs.Guesses.{unguessed}
use Rattle.world_history.specs.ServerNames.{Server, File}
use Rattle.world_history.specs.State.{World}
use Rattle.world_history.specs.Sending.{Move, move}
use Rattle.history_law.specs.BookMoments.{IsMoment, lines_in}
use Rattle.history_law.specs.Doing.{input_in}
use Rattle.history_law.specs.Unforged.{AreUnforged, UnguessedAreUnforged}
use Rattle.component_law.specs.Moments.{ServerWritesToOthers}
use Rattle.component_law.specs.Sound.{IsSound, EachStepIsSound}
use Rattle.component_law.specs.Tags.{EachStepRaisesTags}
use Rattle.component_law.proofs.NamedLines.{are_named}
use Rattle.exchange_law.specs.Counters.{CountersStayLow}
use Rattle.exchange_law.proofs.HeldWorlds.{next_moment}
use Rattle.exchange_law.proofs.Knowing.{lawful_at}
use Rattle.exchange_law.proofs.RefusalClients.{Known}
use Rattle.exchange_law.specs.Sent.{HasSent}
use Rattle.cause_law.specs.Fresh.{GrantsAreFresh}
use Rattle.cause_law.specs.Readable.{AnswersAreFit}
use Rattle.client_rules.specs.Messages.{awaited_of}
use Rattle.server_rules.specs.Laws.{In}
use Rattle.world_history.specs.ClientNames.{Awaited, Client}
use Rattle.component_law.specs.Sent.{IsSentByRun}
use Rattle.component_law.specs.Tagged.{AreNamedActs}
use Rattle.exchange_law.proofs.LatestLaw.{AllFine, fine_at}
use Rattle.fence_law.specs.Law.{IsCode}
use Rattle.fence_law.specs.State.{State}
use Rattle.fence_law.proofs.Safe.{Safe}
use Rattle.plan_law.proofs.Codes.{layouts_are_codes}
use Rattle.file_simulation.specs.Claim.{IsOfScenario}
use Rattle.file_simulation.specs.ClientEvents.{Going, going_in}
use Rattle.file_simulation.proofs.Fronts.{scenario_before}
use Rattle.relation_law.specs.ComponentsFacts.{OfServer}
use Rattle.relation_law.specs.ComponentsFollow.{EachRebuiltStands, EachWriteHasItsPlace, ComponentsFollow}
use Rattle.relation_law.specs.ComponentsMove.{OfMove}
use Rattle.relation_law.specs.DriveHearing.{IsLaidOut}
use Rattle.relation_law.specs.Steps.{FollowsWhole}
use Rattle.relation_law.proofs.ComponentsAbove.{sends_above}
use Rattle.relation_law.proofs.ComponentsFair.{is_fair}
use Rattle.relation_law.proofs.ComponentsFiles.{of_server}
use Rattle.relation_law.proofs.ComponentsGoOn.{components_go_on}
use Rattle.relation_law.proofs.ComponentsGuesses.{none_is_guessed}
use Rattle.relation_law.proofs.ComponentsMade.{MadeLaws, are_first, unready_at}
use Rattle.relation_law.proofs.ComponentsSenders.{SenderLaws, are_of_senders}
use Rattle.relation_law.proofs.ComponentsWorld.{awaited_are_sent, laid_out}
use Rattle.relation_law.proofs.FramesFiles.{file_stays}
use Rattle.relation_law.proofs.KeptGoing.{safe_of}
use Rattle.relation_law.proofs.RequestsKept.{taken_all}
use Rattle.relation_law.proofs.RequestsReturns.{HeldLaws, by}

-- the server's files are sound at the end of each run
sound_over : EachStepIsSound → (s : Server) (acts : List Act) → AreNamedActs acts → IsSound s → IsSound (state_after s acts)
sound_over each s [] named sound = sound
sound_over each s (a ∷ acts) named sound =
    sound_over each (step s a.chosen a.input).state acts named.1 (each s a.chosen a.input sound named.0)

pub sound_there : EachStepIsSound → (w : World) → IsSentByRun w → IsSound w.server
sound_there each w run =
    subst IsSound (sym run.server)
    (sound_over each (new_server []) run.acts run.named
    (record { distinct = tt; components = tt; aimed = tt; files = tt; drives = tt }))

-- what is known of histories
pub record MovedLaws : Type 0 where
  pub made : MadeLaws
  pub known : Known
  pub held : HeldLaws
  pub room : CountersStayLow
  pub others : ServerWritesToOthers
  pub unforged : UnguessedAreUnforged
  pub raises : EachStepRaisesTags
  pub fresh : GrantsAreFresh
  pub senders : SenderLaws
  pub answers : AnswersAreFit
  pub sound : EachStepIsSound

module _ (laws : MovedLaws) (w : World) (h : List Line) (m : Move) (f g : File) (s : State) (k : FollowsWhole w h m f g s) where
  abbrev v : World
  v = (move w m).world

  pub behind : IsMoment (move w m).world (h ++ lines_in w m)
  behind = next_moment w h k.follows.moment m k.follows.is_due

  pub later : IsOfScenario (h ++ lines_in w m)
  later = subst (λ (ls : List Line). IsOfScenario (h ++ ls)) (taken_all (lines_in w m)) k.follows.calm.scenario

  pub scenario : IsOfScenario h
  scenario = scenario_before h (lines_in w m) later

  pub clean : unguessed (h ++ lines_in w m) ≡ true
  clean = ap (λ (ls : List Line). unguessed (h ++ ls)) (sym (taken_all (lines_in w m))) ∙ k.follows.calm.is_unguessed

  unforged : AreUnforged (h ++ lines_in w m)
  unforged = laws.unforged (h ++ lines_in w m) (lawful_at (move w m).world (h ++ lines_in w m) behind) clean

  pub run : IsSentByRun w
  run = laws.made.run w h k.follows.moment (are_named h scenario.written)

  pub laid : IsLaidOut f
  laid = laid_out w h k.follows.moment (laws.made.fits w h k.follows.moment scenario.text) run f k.follows.there

  room : counters_have_room w.server ≡ true
  room = laws.room w h k.follows.moment scenario.text scenario.few

  pub safe : Safe s
  safe =
      safe_of s k.follows.run
      (subst IsCode (sym k.follows.related.layout) (layouts_are_codes f.kept.map f.kept.first_tag laid.checked))

  fine : AllFine w
  fine =
      fine_at laws.made.more h
      (laws.fresh h (laws.held.right.readable h (lawful_at w h k.follows.moment) scenario.text scenario.few)
      (omega (arith, scenario.few)))
      w
      k.follows.moment

  -- what is asked of the server's step
  pub server_needs : (i : Input) → input_in w m.action ≡ Some i → OfServer w (move w m).world f g i
  server_needs i is =
      let stays = file_stays w h k.follows.moment m k.follows.is_due f.kept.number f g k.follows.there k.follows.goes in
      of_server w h k.follows.moment m k.follows.is_due f g k.follows.there k.follows.goes i is
      (sound_there laws.sound w run) laws.raises
      (is_fair laws.made.more laws.others w h k.follows.moment m k.follows.is_due f i is)
      (unready_at laws.made (move w m).world (h ++ lines_in w m) behind later unforged g
      (subst (λ n. file_at (move w m).world.server.files n ≡ Some g) (sym stays.same.number) k.follows.goes))

  -- what the client that goes on awaits it has sent
  pub awaits : (x : Going) → going_in w m.action ≡ Some x → (a : Awaited) → In a (awaited_of x.state.call) →
      HasSent w x.client a.drive a.command
  awaits x is a i =
      let its = by laws.held w h m f g s k x is in
      awaited_are_sent laws.known w h k.follows.moment scenario.few x.client its.before its.found a
      (subst (λ (y : Client). In a (awaited_of y.call)) its.state_is i)

  pub of_move : EachWriteHasItsPlace → EachRebuiltStands → OfMove k
  of_move places rebuilt = record {
    laid = laid;
    awaited = awaited_are_sent laws.known w h k.follows.moment scenario.few;
    client = λ x is.
        sends_above laws.held laws.fresh laws.answers w h m f g s k behind later (omega (arith, scenario.few)) run
        k.follows.there x is
        k.follows.related.components (awaits x is);
    drive = λ rests nothing. (
      record {
        first = are_first w run room f k.follows.there laws.made.ahead;
        senders =
            are_of_senders laws.senders w h k.follows.moment scenario run laws.known fine s f k.follows.related safe laid
            (places w h k.follows.moment scenario);
      },
      none_is_guessed w h k.follows.moment m behind clean,
    );
    server = λ i is. (server_needs i is, rebuilt w h m f g s k i is);
  }

-- behind each whole move the components are as the machine has them, if what a rebuild made anew stands
pub components_go_on_but_rebuilt : MovedLaws → ComponentsFollow
components_go_on_but_rebuilt laws places rebuilt w h m f g s k =
    components_go_on w h m f g s k (of_move laws w h m f g s k places rebuilt)
