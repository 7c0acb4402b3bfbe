-- In each whole history the formats of the server and of each file go on as their causes say.
use Rattle.std.proofs.Common.{◌≡◌, ℕ, max, List, ◌∷◌, ◌++◌, Option, Some, None, refl, sym, ap, subst, ◌∙◌, inl, inr}
use Rattle.server_rules.specs.Files.{file_at}
use Rattle.server_rules.specs.History.{Input, step}
use Rattle.server_rules.specs.Laws.{In, AreSafe, FilesArePut}
use Rattle.server_rules.proofs.FileLaws.{number_at}
use Rattle.scenario_text.specs.declared.line.Line.{Line}
use Rattle.world_history.specs.ServerNames.{Server, File}
use Rattle.world_history.specs.Book.{placed_in, server_after}
use Rattle.world_history.specs.History.{OneEventMore}
use Rattle.world_history.specs.Laws.{ServerGoesOn}
use Rattle.history_law.specs.BookMoments.{lines_in}
use Rattle.history_law.specs.Doing.{ServerMoves}
use Rattle.history_law.specs.Grants.{GrantsAreSafe}
use Rattle.history_law.specs.Read.{BookIsRead, StepIsRead}
use Rattle.history_law.proofs.Files.{in_at}
use Rattle.history_law.proofs.Staying.{written_front}
use Rattle.component_law.specs.Going.{IsMaking}
use Rattle.component_law.specs.Seeing.{SeenIsSound}
use Rattle.component_law.specs.Sound.{IsSound}
use Rattle.component_law.specs.Tags.{EachStepRaisesTags}
use Rattle.cause_law.proofs.Answering.{safe_at}
use Rattle.cause_law.proofs.AwaitedAnswered.{AreParted, AreAlone, AreOne}
use Rattle.cause_law.proofs.AwaitedLines.{kept_at}
use Rattle.cause_law.proofs.CauseInputs.{IsShown, at_inputs}
use Rattle.cause_law.proofs.Changing.{at_place}
use Rattle.cause_law.proofs.Grants.{sound_at}
use Rattle.history_claims.specs.Formats.{IsTooOld, FenceBegins, FormatStep, FormatGoes, Absent, Made, GoesOn, FormatsStep, FormatsGo, EachFormatHasItsCause}
use Rattle.history_claims.proofs.FormatSteps.{Becomes, Begins, Raised, Renewed, Stays, Went}
use Rattle.history_claims.proofs.FormatFiles.{all_formats, own_format}
use Rattle.history_claims.proofs.FormatHears.{renewed_so}

-- ---- a file

module _ (put : FilesArePut) (raise : EachStepRaisesTags) (s : Server) (chosen : List ℕ) (i : Input) (safe : AreSafe s.files)
    (sound : IsSound s) (parted : AreParted s.files) (alone : AreAlone s.files) where
  abbrev behind : List File
  behind = (step s chosen i).state.files

  one : AreOne s.files
  one x y j k e =
      its x y (sym (at_place s.files x sound.distinct j) ∙ ap (file_at s.files) e ∙ at_place s.files y sound.distinct k)
    where
      its : (x y : File) → Some x ≡ Some y → x ≡ y
      its x y q = cc q

  module _ (n : ℕ) (f g : File) (e : file_at s.files n ≡ Some f) (d : file_at behind n ≡ Some g) where
    begins_so : FenceBegins s i f g → Begins s i f g.kept.tag g.job
    begins_so b = record { under = b.under; anew = b.anew }

    begins_as : Begins s i f g.kept.tag g.job → FenceBegins s i f g
    begins_as b = record { under = b.under; anew = b.anew }

    goes_on : Went s i f g.kept.format g.kept.tag g.job → FormatStep s i f g
    goes_on w = record {
      renewed = λ x. (renewed_so put s chosen parted alone one i n f e x g d).format;
      again = λ x. (renewed_so put s chosen parted alone one i n f e x g d).again;
      raised = raised w.becomes;
      stays = stays w.becomes;
      asks = w.asks;
    }
      where
        raised : Becomes s i f g.kept.format g.kept.tag g.job → FenceBegins s i f g → g.kept.format ≡ max f.kept.format s.format
        raised (Raised b is) begins = is
        raised (Renewed none x) begins = absurd (none (begins_so begins))
        raised (Stays none is) begins = absurd (none (begins_so begins))

        stays : Becomes s i f g.kept.format g.kept.tag g.job → (IsTooOld s i f → ⊥) → (FenceBegins s i f g → ⊥)
            → g.kept.format ≡ f.kept.format
        stays (Raised b is) young closed = absurd (closed (begins_as b))
        stays (Renewed none x) young closed = absurd (young x)
        stays (Stays none is) young closed = is

  -- the file of a number that is there
  its : (n : ℕ) (f g : File) → In f s.files → g.kept.number ≡ f.kept.number → file_at behind n ≡ Some g
      → file_at s.files n ≡ Some f
  its n f g there number d =
      subst (λ (k : ℕ). file_at s.files k ≡ Some f) (sym number ∙ number_at behind n g d)
      (at_place s.files f sound.distinct there)

  same : (x y : File) → Some x ≡ Some y → x ≡ y
  same x y q = cc q

  by_files : (n : ℕ) (o p : Option File) → file_at s.files n ≡ o → file_at behind n ≡ p → FormatGoes s i n o p
  by_files n None None e d = Absent
  by_files n (Some f) None e d = let it = raise s chosen i sound n f e in absurd (cc (sym d ∙ it.there))
  by_files n None (Some g) e d = elim (all_formats s chosen i safe g (in_at behind n g d)) [
    | inl (f, there, number, went) ↦ absurd (cc (sym e ∙ its n f g there number d))
    | inr (absent, makes, format, asks) ↦
        Made g (subst (IsMaking i) (number_at behind n g d) makes) format (λ a k. asks a k ∙ sym format)
  ]
  by_files n (Some f) (Some g) e d = elim (all_formats s chosen i safe g (in_at behind n g d)) [
    | inl (x, there, number, went) ↦
        GoesOn f g (goes_on n f g e d
        (subst (λ (y : File). Went s i y g.kept.format g.kept.tag g.job) (same x f (sym (its n x g there number d) ∙ e)) went))
    | inr (absent, makes, format, asks) ↦
        absurd (cc (sym e ∙ sym (ap (file_at s.files) (number_at behind n g d)) ∙ absent))
  ]

  pub formats_so : FormatsStep s (step s chosen i).state i
  formats_so = record {
    server = own_format s chosen i;
    files = λ n. by_files n (file_at s.files n) (file_at behind n) refl refl;
  }

-- ---- in the lines

module _ (put : FilesArePut) (raise : EachStepRaisesTags) (seen : SeenIsSound) (safe : GrantsAreSafe) (read : BookIsRead)
    (moves : ServerMoves) (more : OneEventMore) where
  shown : IsShown FormatsGo
  shown = record {
    shows = λ w h k m d written front l after is i moved.
        let upto : List Line = (h ++ front) ++ l ∷ after in
        let numbers = kept_at moves more w h k in
        subst (λ (s : Server). FormatsStep s (server_after upto) i) (sym moved.server)
        (subst (λ (t : Server). FormatsStep w.server t i) (sym moved.behind)
        (formats_so put raise w.server (placed_in after) i (safe_at safe w h k)
        (sound_at seen read w h k (written_front h (lines_in w m) written)) numbers.1 numbers.0.alone));
  }

  pub each_format_has_its_cause : StepIsRead → ServerGoesOn → EachFormatHasItsCause
  each_format_has_its_cause step_read on w h s written =
      at_inputs read step_read moves more on FormatsGo shown w h s written
