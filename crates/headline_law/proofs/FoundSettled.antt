-- Each file is made and its present components have its tag, or it isn't made yet; and while its first fence runs its job is that
-- fence.
-- Towards `EachHeldBecame` (`headline_law/specs/FoundHeld.antt`).
use Rattle.std.proofs.Common.{◌≡◌, Bool, true, false, List, [], Option, Some, refl, sym, ap, subst, ◌∙◌}
use Rattle.osd_commands.specs.declared.actions.Action.TheVariants.{SetTag}
use Rattle.scenario_text.specs.declared.line.Line.{Line}
use Rattle.server_rules.specs.History.{state_after}
use Rattle.server_rules.specs.Laws.{In}
use Rattle.server_rules.specs.Making.{new_server}
use Rattle.server_rules.specs.Messages.{awaited_by, counters_have_room}
use Rattle.world_history.specs.History.{OneEventMore}
use Rattle.world_history.specs.ServerNames.{Awaited, File, Job, Phase, Fencing, Work, Creates, Fences, Fetches, Stores, Targets, Gathers, Fills, Lengths, Checks, Server}
use Rattle.world_history.specs.State.{World}
use Rattle.history_law.specs.Moments.{IsMoment}
use Rattle.history_law.specs.Fencing.{Reached, is_fences, is_fencing}
use Rattle.history_law.specs.Holder.{UnforgedHolderIsServer}
use Rattle.history_law.specs.Reaching.{reached_in, OwnAt}
use Rattle.history_law.specs.Unforged.{AreUnforged}
use Rattle.history_law.proofs.Each.{EachBehind}
use Rattle.history_law.proofs.Files.{in_at}
use Rattle.history_law.proofs.Holding.{Holds, holds}
use Rattle.history_law.proofs.Ending.{own_each}
use Rattle.component_law.specs.KeptWalk.{JobFits, WorkFits}
use Rattle.component_law.specs.Origin.{EachTagWasSent}
use Rattle.component_law.specs.First.{CreatesAreFirst}
use Rattle.component_law.specs.Sent.{IsSentByRun, ServerSentItsRun}
use Rattle.component_law.specs.Standing.{EachStepStands, IsSettled, StandsBy}
use Rattle.component_law.specs.Turns.{down_after}
use Rattle.component_law.specs.Tagged.{NoCommandIsAhead}
use Rattle.component_law.proofs.KeptFits.{FitsBy, fits_run}
use Rattle.component_law.proofs.LeastLaw.{reached_there, stand_at}
use Rattle.component_law.proofs.NamedLines.{are_named}
use Rattle.component_law.proofs.StandRuns.{starts}
use Rattle.exchange_law.specs.Counters.{CountersStayLow, ServerIsCounted}
use Rattle.exchange_law.specs.Files.{AllFilesFit}
use Rattle.exchange_law.proofs.CountMoments.{at_moment}
use Rattle.exchange_law.proofs.Knowing.{lawful_at}
use Rattle.file_simulation.specs.Claim.{IsOfScenario}
use Rattle.headline_law.specs.FoundHeld.{EachFenceSetsTags, EachFileIsSettled}

-- what is known of histories
pub record SettledLaws : Type 0 where
  pub run : ServerSentItsRun
  pub given : EachTagWasSent
  pub ahead : NoCommandIsAhead
  pub files : AllFilesFit
  pub counted : ServerIsCounted
  pub holder : UnforgedHolderIsServer
  pub stands_on : EachStepStands
  pub first : CreatesAreFirst
  pub more : OneEventMore
  pub room : CountersStayLow

settled_by : (down : Bool) (R : Reached) (f : File) → StandsBy down R f → IsSettled R f
settled_by true R f s = s.settled
settled_by false R f s = s.settled

-- the work of a job whose file's first fence runs is that fence
fences_work : (p : Phase) (y : Work) → p ≡ Fencing → WorkFits p y → y ≡ Fences
fences_work p Fences phase fits = refl
fences_work p (Fetches todo short) phase fits = absurd (cc (sym phase ∙ fits))
fences_work p (Stores todo short broken) phase fits = absurd (cc (sym phase ∙ fits))
fences_work p Creates phase fits = absurd (cc (sym phase ∙ fits))
fences_work p (Targets t) phase fits = absurd (cc (sym phase ∙ fits))
fences_work p (Gathers t todo) phase fits = absurd (cc (sym phase ∙ fits))
fences_work p (Fills t todo) phase fits = absurd (cc (sym phase ∙ fits))
fences_work p Lengths phase fits = absurd (cc (sym phase ∙ fits))
fences_work p (Checks todo t) phase fits = absurd (cc (sym phase ∙ fits))

module _ (laws : SettledLaws) where
  pub each_file_is_settled : EachFileIsSettled
  each_file_is_settled w h k t fair n f there = record {
    raised = λ ready at j present.
        reached_there laws.run laws.given laws.ahead laws.files laws.counted laws.holder laws.stands_on laws.first laws.more w h k
        t.text t.few f inside at j (settled.made ready at j present);
    unmade = λ unready. let x = settled.unmade unready in (x.0, x.1);
  }
    where
      inside : In f w.server.files
      inside = in_at w.server.files n f there

      settled : IsSettled (reached_in h) f
      settled =
          settled_by w.down (reached_in h) f
          (stand_at laws.run laws.given laws.ahead laws.files laws.counted laws.holder laws.stands_on laws.first laws.more w h k
          (are_named h t.written) t.text t.few fair f inside)

  module _ (w : World) (h : List Line) (k : IsMoment w h) (t : IsOfScenario h) (fair : AreUnforged h) (f : File)
      (there : In f w.server.files) (phase : f.kept.phase ≡ Fencing) (j : Job) (runs : f.job ≡ Some j) where
    run : IsSentByRun w
    run = laws.run w h k (are_named h t.written)

    room : counters_have_room (state_after (new_server []) run.acts) ≡ true
    room = subst (λ (s : Server). counters_have_room s ≡ true) run.server (laws.room w h k t.text t.few)

    fits : FitsBy w.down w.server.files
    fits =
        subst (λ (b : Bool). FitsBy b w.server.files) run.down
        (subst (λ (s : Server). FitsBy (down_after false run.acts) s.files) (sym run.server)
        (fits_run false (new_server []) run.acts starts (λ f i. absurd i) run.turns room).0)

    work : j.work ≡ Fences
    work = by w.down fits
      where
        by : (down : Bool) → FitsBy down w.server.files → j.work ≡ Fences
        by true idle = absurd (cc (sym (idle f there) ∙ runs))
        by false all = fences_work f.kept.phase j.work phase (subst (JobFits f.spent f.kept.phase) runs (all f there))

    sets : (a : Awaited) → In a j.awaited → a.command.action ≡ SetTag
    sets a i =
        let now : Holds w h = at_moment Holds holds w h k in
        let own : EachBehind OwnAt [] h = own_each [] h (laws.holder h (lawful_at w h k) fair) in
        let fence : is_fencing f.job ≡ true = ap is_fencing runs ∙ ap is_fences work in
        ((now.fences own f there fence).raises a (subst (λ (o : Option Job). In a (awaited_by o)) (sym runs) i)).action

  pub each_fence_sets_tags : EachFenceSetsTags
  each_fence_sets_tags w h k t fair f there phase j runs =
      (work w h k t fair f there phase j runs, sets w h k t fair f there phase j runs)
