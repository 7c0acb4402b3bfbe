-- In each whole history what a job has heard goes on as its causes say.
use Rattle.std.proofs.Common.{◌≡◌, ℕ, List, Some, sym, subst, ◌∙◌}
use Rattle.server_rules.specs.Files.{file_at}
use Rattle.server_rules.specs.History.{Input, step}
use Rattle.server_rules.proofs.FileLaws.{number_at}
use Rattle.world_history.specs.ServerNames.{Server, File, Heard}
use Rattle.world_history.specs.Book.{placed_in}
use Rattle.world_history.specs.History.{OneEventMore}
use Rattle.world_history.specs.Laws.{ServerGoesOn}
use Rattle.history_law.specs.BookMoments.{lines_in}
use Rattle.history_law.specs.Doing.{ServerMoves}
use Rattle.history_law.specs.Read.{BookIsRead, StepIsRead}
use Rattle.history_law.proofs.Files.{in_at}
use Rattle.history_law.proofs.Staying.{written_front}
use Rattle.component_law.specs.Distinct.{AreDistinct}
use Rattle.component_law.specs.Seeing.{SeenIsSound}
use Rattle.cause_law.proofs.CauseInputs.{IsShown, at_inputs}
use Rattle.cause_law.proofs.Changing.{at_place}
use Rattle.cause_law.proofs.Grants.{sound_at}
use Rattle.history_claims.specs.Heard.{HasHeardIt, HeardGoes, HeardGo, EachHeardHasItsCause}
use Rattle.history_claims.proofs.HeardSteps.{heard_go}

-- of the file of a number
heard_so : (s : Server) (chosen : List ℕ) (i : Input) → AreDistinct s.files → (n : ℕ) (g : File) (x : Heard)
    → file_at (step s chosen i).state.files n ≡ Some g → HasHeardIt g.job x
    → (f : File) × (file_at s.files n ≡ Some f) × HeardGoes s i f x
heard_so s chosen i distinct n g x there has =
    let r = heard_go s chosen i g (in_at (step s chosen i).state.files n g there) x has in (
      r.0,
      subst (λ (k : ℕ). file_at s.files k ≡ Some r.0) (sym r.2 ∙ number_at (step s chosen i).state.files n g there)
          (at_place s.files r.0 distinct r.1),
      r.3,
    )

module _ (moves : ServerMoves) (seen : SeenIsSound) (read : BookIsRead) where
  shown : IsShown HeardGo
  shown = record {
    shows = λ w h k m d written front l after is i moved file g x there has.
        subst (λ (s : Server). (f : File) × (file_at s.files file ≡ Some f) × HeardGoes s i f x) (sym moved.server)
        (heard_so w.server (placed_in after) i
        (sound_at seen read w h k (written_front h (lines_in w m) written)).distinct file g x
        (subst (λ (s : Server). file_at s.files file ≡ Some g) moved.behind there) has);
  }

  pub each_heard_has_its_cause : StepIsRead → OneEventMore → ServerGoesOn → EachHeardHasItsCause
  each_heard_has_its_cause step_read more on w h s written =
      at_inputs read step_read moves more on HeardGo shown w h s written
