-- Each note that a fence is over, in the lines of a whole history.
use Rattle.std.proofs.Common.{◌≡◌, ℕ, false, ◌++◌, ◌∷◌, List, Some, refl, sym, ap, subst, ◌∙◌, append_assoc, inl}
use Rattle.server_rules.specs.Laws.{In}
use Rattle.server_rules.proofs.Members.{in_behind}
use Rattle.scenario_text.specs.declared.line.Note.TheVariants as note
use Rattle.scenario_text.specs.declared.line.Line.{Line}
use Rattle.scenario_text.specs.declared.line.Line.TheVariants as line
use Rattle.world_history.specs.ServerNames.{Server}
use Rattle.world_history.specs.State.{World}
use Rattle.world_history.specs.Sending.{Move, move}
use Rattle.world_history.specs.Plans.{due}
use Rattle.world_history.specs.Reading.{is_head}
use Rattle.world_history.specs.Book.{ServerSeen, server_after}
use Rattle.world_history.specs.History.{StandsFor, OneEventMore}
use Rattle.history_law.specs.BookMoments.{IsMoment, plan_at, lines_in}
use Rattle.history_law.specs.Read.{AreWritten, BookIsRead}
use Rattle.history_law.proofs.StepEnds.{at_step_ends}
use Rattle.history_law.proofs.Staying.{written_front}
use Rattle.history_law.specs.Reaching.{HolderIsServer}
use Rattle.history_law.specs.StepEnds.{BehindStep}
use Rattle.history_law.specs.Fenced.{IsFenced, noted}
use Rattle.history_law.proofs.Ending.{next_moment, fences_end}

pub own_front : (xs ys : List Line) → HolderIsServer (xs ++ ys) → HolderIsServer xs
own_front xs ys own before l after is =
    own before l (after ++ ys) (ap (λ (h : List Line). h ++ ys) is ∙ append_assoc before (l ∷ after) ys)

module _ (read : BookIsRead) (further : OneEventMore) (number tag : ℕ) where
  -- the file is fenced as far as what is performed under the server's holder is its own
  abbrev Fenced : List Line → Type 0
  Fenced g = HolderIsServer g → IsFenced (server_after g).files g number tag

  -- behind a move in whose lines the fence is over
  ends_move : (w : World) (h : List Line) (k : IsMoment w h) (m : Move) → due (plan_at k) w ≡ Some m.action
      → AreWritten (h ++ lines_in w m) → (front : List Line) (l : Line) (after : List Line)
      → lines_in w m ≡ front ++ l ∷ after → l ≡ line.Note number (note.Fenced tag) → Fenced (h ++ lines_in w m)
  ends_move w h k m d written front l after there is own =
      subst (λ (s : Server). IsFenced s.files (h ++ lines_in w m) number tag)
      (sym (ap (λ (s : ServerSeen). s.server) (read (move w m).world (h ++ lines_in w m) (next_moment w h k m d) written)))
      (fences_end w h k m d own number tag
      (subst (In (line.Note number (note.Fenced tag))) (sym there)
      (in_behind (line.Note number (note.Fenced tag)) front (l ∷ after) (inl (sym is)))))

  pub fenced_behind : (w : World) (h : List Line) → StandsFor w h → AreWritten h → (before after : List Line)
      → h ≡ noted before number tag after
      → BehindStep (λ lines g. Fenced g) before (line.Note number (note.Fenced tag)) after
  fenced_behind w h s written before after is =
      at_step_ends AreWritten (λ l. l ≡ line.Note number (note.Fenced tag)) (λ l lines g. Fenced g)
      (record {
        fronts = written_front;
        tells = λ l same. subst (λ (x : Line). is_head x ≡ false) (sym same) refl;
        ends = ends_move;
      }) further w h s written before (line.Note number (note.Fenced tag)) after is refl
