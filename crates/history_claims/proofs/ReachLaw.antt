-- In each whole history how far the grants for writing of a file reached goes on as its causes say.
use Rattle.std.proofs.Common.{◌≡◌, ℕ, List, ◌∷◌, ◌++◌, Option, Some, None, refl, sym, ap, subst, ◌∙◌, inl, inr}
use Rattle.server_rules.specs.Files.{file_at}
use Rattle.server_rules.specs.History.{Input, step}
use Rattle.server_rules.specs.Laws.{In, AreSafe}
use Rattle.server_rules.proofs.FileLaws.{number_at}
use Rattle.scenario_text.specs.declared.line.Line.{Line}
use Rattle.world_history.specs.ServerNames.{Server, File}
use Rattle.world_history.specs.Book.{placed_in, server_after}
use Rattle.world_history.specs.History.{OneEventMore}
use Rattle.world_history.specs.Laws.{ServerGoesOn}
use Rattle.history_law.specs.BookMoments.{lines_in}
use Rattle.history_law.specs.Doing.{ServerMoves}
use Rattle.history_law.specs.Grants.{GrantsAreSafe}
use Rattle.history_law.specs.Read.{BookIsRead, StepIsRead}
use Rattle.history_law.proofs.Files.{in_at}
use Rattle.history_law.proofs.Staying.{written_front}
use Rattle.component_law.specs.Going.{IsMaking}
use Rattle.component_law.specs.Seeing.{SeenIsSound}
use Rattle.component_law.specs.Sound.{IsSound}
use Rattle.component_law.specs.Tags.{EachStepRaisesTags}
use Rattle.cause_law.proofs.Answering.{safe_at}
use Rattle.cause_law.proofs.CauseInputs.{IsShown, at_inputs}
use Rattle.cause_law.proofs.Changing.{at_place}
use Rattle.cause_law.proofs.Grants.{sound_at}
use Rattle.history_claims.specs.Reach.{Reaches, ReachGoes, Absent, Made, GoesOn, ReachesGo, EachReachHasItsCause}
use Rattle.history_claims.proofs.Reaching.{all_reached}

module _ (raise : EachStepRaisesTags) (s : Server) (chosen : List ℕ) (i : Input) (safe : AreSafe s.files) (sound : IsSound s)
  where
    abbrev behind : List File
    behind = (step s chosen i).state.files

    -- the file of a number that is there
    its : (n : ℕ) (f g : File) → In f s.files → g.kept.number ≡ f.kept.number → file_at behind n ≡ Some g
        → file_at s.files n ≡ Some f
    its n f g there number d =
        subst (λ (k : ℕ). file_at s.files k ≡ Some f) (sym number ∙ number_at behind n g d)
        (at_place s.files f sound.distinct there)

    by_files : (n : ℕ) (o p : Option File) → file_at s.files n ≡ o → file_at behind n ≡ p → ReachGoes i n o p
    by_files n None None e d = Absent
    by_files n (Some f) None e d = let it = raise s chosen i sound n f e in absurd (cc (sym d ∙ it.there))
    by_files n None (Some g) e d = elim (all_reached s chosen i safe g (in_at behind n g d)) [
      | inl (f, there, number, goes) ↦ absurd (cc (sym e ∙ its n f g there number d))
      | inr (absent, makes, zero_) ↦ Made g (subst (IsMaking i) (number_at behind n g d) makes) zero_
    ]
    by_files n (Some f) (Some g) e d = elim (all_reached s chosen i safe g (in_at behind n g d)) [
      | inl (x, there, number, goes) ↦
          GoesOn f g (subst (λ (y : File). Reaches y g) (one x f (sym (its n x g there number d) ∙ e)) goes)
      | inr (absent, makes, zero_) ↦
          absurd (cc (sym e ∙ sym (ap (file_at s.files) (number_at behind n g d)) ∙ absent))
    ]
      where
        one : (x y : File) → Some x ≡ Some y → x ≡ y
        one x y q = cc q

    pub reach_so : (n : ℕ) → ReachGoes i n (file_at s.files n) (file_at behind n)
    reach_so n = by_files n (file_at s.files n) (file_at behind n) refl refl

module _ (raise : EachStepRaisesTags) (seen : SeenIsSound) (safe : GrantsAreSafe) (read : BookIsRead) where
  shown : IsShown ReachesGo
  shown = record {
    shows = λ w h k m d written front l after is i moved file.
        let upto : List Line = (h ++ front) ++ l ∷ after in
        subst (λ (s : Server). ReachGoes i file (file_at s.files file) (file_at (server_after upto).files file))
        (sym moved.server)
        (subst (λ (s : Server). ReachGoes i file (file_at w.server.files file) (file_at s.files file)) (sym moved.behind)
        (reach_so raise w.server (placed_in after) i (safe_at safe w h k)
        (sound_at seen read w h k (written_front h (lines_in w m) written)) file));
  }

  pub each_reach_has_its_cause : StepIsRead → ServerMoves → OneEventMore → ServerGoesOn → EachReachHasItsCause
  each_reach_has_its_cause step_read moves more on w h s written =
      at_inputs read step_read moves more on ReachesGo shown w h s written
