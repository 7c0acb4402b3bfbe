-- In each whole history the components of each file go on as the notes of the server's steps tell.
use Rattle.std.proofs.Common.{◌≡◌, ℕ, true, false, List, [], ◌∷◌, ◌++◌, filter, Option, Some, None, refl, sym, ap, subst, ◌∙◌, append_assoc}
use Rattle.std.specs.List.{filter_map}
use Rattle.server_rules.specs.Files.{Step, file_at}
use Rattle.server_rules.specs.History.{Input, step}
use Rattle.scenario_text.specs.declared.line.Note.{Note}
use Rattle.scenario_text.specs.declared.line.Note.TheVariants as note
use Rattle.scenario_text.specs.declared.line.Line.{Line}
use Rattle.scenario_text.specs.declared.line.Line.TheVariants as line
use Rattle.world_history.specs.ServerNames.{Server, File, Component}
use Rattle.world_history.specs.State.{World}
use Rattle.world_history.specs.Names.{known_note_line}
use Rattle.world_history.specs.Sending.{Move}
use Rattle.world_history.specs.Book.{placed_in, server_seen, server_after}
use Rattle.world_history.specs.History.{OneEventMore}
use Rattle.world_history.specs.Laws.{ServerGoesOn}
use Rattle.history_law.specs.Moves.{IsFileRefusal}
use Rattle.history_law.specs.BookMoments.{lines_in}
use Rattle.history_law.specs.Doing.{ServerMoves}
use Rattle.history_law.specs.Read.{is_written_line, AreWritten, BookIsRead, StepIsRead}
use Rattle.history_law.proofs.Staying.{written_front}
use Rattle.component_law.specs.Components.{Paired, StandAlike, without_drive, tells_component}
use Rattle.component_law.specs.Sound.{IsSound}
use Rattle.component_law.specs.Going.{taken_out, Goes, EachStepTells}
use Rattle.component_law.specs.Naming.{IsNamed}
use Rattle.component_law.specs.Seeing.{SeenIsSound}
use Rattle.component_law.proofs.FileFacts.{named_input, told_same, rebuilt_same}
use Rattle.component_law.proofs.NamedLines.{named_line}
use Rattle.cause_law.specs.Components.{ComponentsGo, EachComponentHasItsCauses}
use Rattle.cause_law.proofs.NoteLines.{is_note, IsOfNotes, rest_tells}
use Rattle.cause_law.proofs.CauseInputs.{IsMoved, IsShown, at_inputs}
use Rattle.cause_law.proofs.Grants.{sound_at}

-- ---- of components

no_component : (l : Line) → is_note l ≡ false → tells_component l ≡ false
no_component (line.Note f n) e = absurd (cc e)
no_component l e = refl

refusal_none : (file : ℕ) (n : Note) → IsFileRefusal n → tells_component (line.Note file n) ≡ false
refusal_none f (note.NoSpace k) q = absurd q
refusal_none f (note.Reported k) q = absurd q
refusal_none f (note.Rebuilt k d) q = absurd q
refusal_none f n q = refl

of_components : IsOfNotes tells_component
of_components = record { others = no_component; refusals = refusal_none }

module _ (moves : ServerMoves) (tells : EachStepTells) (w : World) (h : List Line) (m : Move) (front : List Line) (l : Line)
    (after : List Line) (is : lines_in w m ≡ front ++ l ∷ after) (i : Input) (moved : IsMoved w h m front l after i)
    (named : IsNamed l) (sound : IsSound w.server) where
  abbrev its : Step
  its = step w.server (placed_in after) i

  shown_so : (n : ℕ) → Goes i (taken_out w.server i) after n (file_at w.server.files n) (file_at its.state.files n)
  shown_so n =
      by (file_at w.server.files n) (file_at its.state.files n)
      (tells w.server (placed_in after) i sound (named_input (server_seen (h ++ front)) l i moved.comes named) n)
    where
      telling : filter tells_component (filter_map known_note_line its.notes) ≡ filter tells_component after
      telling = sym (rest_tells tells_component of_components moves w h m front l after is i moved its moved.did)

      by : (o p : Option File) → Goes i (taken_out w.server i) (filter_map known_note_line its.notes) n o p
          → Goes i (taken_out w.server i) after n o p
      by None None g = g
      by None (Some y) g = g
      by (Some x) None g = g
      by (Some x) (Some y) g = record {
        map = g.map;
        alike =
            subst (λ (cs : List Component). Paired StandAlike cs y.kept.components)
            (told_same n (without_drive (taken_out w.server i) x.kept.components) (filter_map known_note_line its.notes) after
            telling) g.alike;
        exact = λ plain.
            g.exact (rebuilt_same n (filter_map known_note_line its.notes) after telling ∙ plain)
            ∙ told_same n (without_drive (taken_out w.server i) x.kept.components) (filter_map known_note_line its.notes) after
            telling;
      }

-- a line of a history whose events a text may have
pub written_there : (front : List Line) (l : Line) (after : List Line) → AreWritten (front ++ l ∷ after)
    → is_written_line l ≡ true
written_there [] l after x = x.0
written_there (y ∷ front) l after x = written_there front l after x.1

module _ (moves : ServerMoves) (tells : EachStepTells) (seen : SeenIsSound) (read : BookIsRead) where
  shown : IsShown ComponentsGo
  shown = record {
    shows = λ w h k m d written front l after is i moved file.
        let upto : List Line = (h ++ front) ++ l ∷ after in
        let all : AreWritten ((h ++ front) ++ l ∷ after) =
        subst AreWritten (ap (λ (ls : List Line). h ++ ls) is ∙ sym (append_assoc h front (l ∷ after))) written in
        subst (λ (s : Server). Goes i (taken_out s i) after file (file_at s.files file) (file_at (server_after upto).files file))
        (sym moved.server)
        (subst (λ (s : Server). Goes i (taken_out w.server i) after file (file_at w.server.files file) (file_at s.files file))
        (sym moved.behind)
        (shown_so moves tells w h m front l after is i moved (named_line l (written_there (h ++ front) l after all))
        (sound_at seen read w h k (written_front h (lines_in w m) written)) file));
  }

  pub each_component_has_its_causes : StepIsRead → OneEventMore → ServerGoesOn → EachComponentHasItsCauses
  each_component_has_its_causes step_read more on w h s written =
      at_inputs read step_read moves more on ComponentsGo shown w h s written
