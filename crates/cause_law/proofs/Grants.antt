-- In each whole history the live grants and the size of each file change as its causes say.
use Rattle.std.proofs.Common.{List, ◌∷◌, ◌++◌, sym, ap, subst, ◌∙◌}
use Rattle.server_rules.specs.Files.{file_at}
use Rattle.server_rules.specs.Laws.{FilesArePut}
use Rattle.scenario_text.specs.declared.line.Line.{Line}
use Rattle.world_history.specs.ServerNames.{Server}
use Rattle.world_history.specs.State.{World}
use Rattle.world_history.specs.Reading.{steps_of}
use Rattle.world_history.specs.Book.{ServerSeen, placed_in, server_after}
use Rattle.world_history.specs.Calm.{first_seen}
use Rattle.world_history.specs.History.{OneEventMore}
use Rattle.world_history.specs.Laws.{ServerGoesOn}
use Rattle.component_law.specs.Seeing.{SeenIsSound}
use Rattle.component_law.specs.Sound.{IsSound}
use Rattle.component_law.specs.Tags.{EachStepRaisesTags}
use Rattle.component_law.proofs.NamedLines.{are_named}
use Rattle.component_law.proofs.SeenServer.{seen_server}
use Rattle.history_law.specs.BookMoments.{IsMoment, lines_in}
use Rattle.history_law.specs.Doing.{ServerMoves}
use Rattle.history_law.specs.Grants.{GrantsAreSafe}
use Rattle.history_law.specs.Read.{AreWritten, BookIsRead, StepIsRead}
use Rattle.history_law.proofs.Staying.{written_front}
use Rattle.cause_law.specs.Changes.{Changes, ChangesFiles, EachGrantHasItsCauses}
use Rattle.cause_law.proofs.Answering.{safe_at}
use Rattle.cause_law.proofs.Ordering.{changes_so}
use Rattle.cause_law.proofs.CauseInputs.{IsShown, at_inputs}

-- the server of a moment is sound
pub sound_at : SeenIsSound → BookIsRead → (w : World) (h : List Line) → IsMoment w h → AreWritten h → IsSound w.server
sound_at seen read w h k x =
    subst IsSound (ap (λ (s : ServerSeen). s.server) (seen_server first_seen (steps_of h) ∙ read w h k x))
    (seen h (are_named h x))

module _ (put : FilesArePut) (raise : EachStepRaisesTags) (seen : SeenIsSound) (safe : GrantsAreSafe) (read : BookIsRead) where
  shown : IsShown ChangesFiles
  shown = record {
    shows = λ w h k m d written front l after is i moved file.
        let upto : List Line = (h ++ front) ++ l ∷ after in
        subst (λ (s : Server). Changes s i file (file_at s.files file) (file_at (server_after upto).files file))
        (sym moved.server)
        (subst (λ (s : Server). Changes w.server i file (file_at w.server.files file) (file_at s.files file)) (sym moved.behind)
        (changes_so put raise w.server (placed_in after) (safe_at safe w h k)
        (sound_at seen read w h k (written_front h (lines_in w m) written)) i file));
  }

  pub each_grant_has_its_causes : StepIsRead → ServerMoves → OneEventMore → ServerGoesOn → EachGrantHasItsCauses
  each_grant_has_its_causes step_read moves more on w h s written =
      at_inputs read step_read moves more on ChangesFiles shown w h s written
