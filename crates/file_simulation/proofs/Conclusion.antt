-- If each file goes as a run, the headline holds.
use Rattle.std.proofs.Common.{◌≡◌, ℕ, [], List, Option, Some, None, refl, sym, subst, ◌∙◌, arith, false, length}
use Rattle.data_map.specs.Check.{IsChecked}
use Rattle.server_rules.specs.Files.{file_at}
use Rattle.server_rules.proofs.FileLaws.{number_at}
use Rattle.file_log.specs.Judge.{Accepts}
use Rattle.scenario_text.specs.declared.line.Line.{Line}
use Rattle.world_history.specs.ServerNames.{File}
use Rattle.world_history.specs.ReadLog.{log_of}
use Rattle.world_history.specs.Stripes.{is_disturbed}
use Rattle.world_history.specs.Calm.{moment_of}
use Rattle.fence_law.specs.State.{Layout}
use Rattle.fence_law.specs.Law.{IsCode, IsJudged, IsWholeAt}
use Rattle.fence_law.specs.Law as machine
use Rattle.plan_law.specs.Layouts.{LayoutsAreCodes, ColumnsHaveStripes}
use Rattle.file_simulation.specs.Claim.{IsWhole, IsRight}
use Rattle.file_simulation.specs.Showing.{GoesAsRun, ShowsLines}
use Rattle.file_simulation.specs.Conclusion.{RunsGiveTheHeadline}
use Rattle.file_simulation.proofs.ShownCells.{accepted}
use Rattle.file_simulation.proofs.ShownStripes.{is_whole}

module _ (codes : LayoutsAreCodes) (columns : ColumnsHaveStripes) (judge : IsJudged) (whole : machine.IsWhole) where
  -- ---- a file that there is

  coded : (h : List Line) (file : ℕ) (f : File) (g : GoesAsRun h file) → IsChecked f.kept.map →
      file_at (moment_of h).server.files file ≡ Some f → IsCode g.state.layout
  coded h file f g ch e =
      subst (λ (y : Layout). IsCode y) (sym (g.shown.shown f e).layout) (codes f.kept.map f.kept.first_tag ch)

  whole_at : (h : List Line) (file : ℕ) (g : GoesAsRun h file) → IsCode g.state.layout → IsWholeAt g.state
  whole_at h file g code =
      subst IsWholeAt (sym g.run.state) (whole g.state.layout g.run.events code g.run.lawful g.run.calm)

  whole_there : (h : List Line) (file st : ℕ) (f : File) → IsChecked f.kept.map →
      length f.kept.components ≡ f.kept.map.comps → file_at (moment_of h).server.files file ≡ Some f →
      is_disturbed (moment_of h) file st ≡ false → GoesAsRun h file → IsWhole h file st
  whole_there h file st f ch long e quiet g =
      let same : f.kept.number ≡ file = number_at (moment_of h).server.files file f e in
      subst (λ n. IsWhole h n st) same
      (is_whole h g.state f g.pairs columns (subst (λ n. ShowsLines h g.state n g.pairs) (sym same) g.shown)
      (whole_at h file g (coded h file f g ch e))
      (subst (λ n. file_at (moment_of h).server.files n ≡ Some f) (sym same) e) ch long st
      (subst (λ n. is_disturbed (moment_of h) n st ≡ false) (sym same) quiet))

  -- ---- a file that there isn't

  none_accepts : (h : List Line) (file : ℕ) → log_of h file ≡ [] → Accepts (log_of h file)
  none_accepts h file e = subst Accepts (sym e) tt

  none_whole : (h : List Line) (file st : ℕ) → file_at (moment_of h).server.files file ≡ None → log_of h file ≡ [] →
      IsWhole h file st
  none_whole h file st none e = record {
    bytes = λ l. 0;
    among = λ l. rw e (0, omega arith, refl);
    held = λ f there. absurd (cc (sym none ∙ there));
  }

  -- ---- any file

  accepts_file : (h : List Line) (file : ℕ) →
      ((f : File) → file_at (moment_of h).server.files file ≡ Some f → IsChecked f.kept.map) →
      ((f : File) → file_at (moment_of h).server.files file ≡ Some f → GoesAsRun h file) →
      (file_at (moment_of h).server.files file ≡ None → log_of h file ≡ []) →
      (o : Option File) → file_at (moment_of h).server.files file ≡ o → Accepts (log_of h file)
  accepts_file h file ch goes none None e = none_accepts h file (none e)
  accepts_file h file ch goes none (Some f) e =
      accepted h file (goes f e) judge (coded h file f (goes f e) (ch f e) e)

  whole_file : (h : List Line) (file st : ℕ) →
      ((f : File) → file_at (moment_of h).server.files file ≡ Some f →
      IsChecked f.kept.map × (length f.kept.components ≡ f.kept.map.comps)) →
      ((f : File) → file_at (moment_of h).server.files file ≡ Some f → GoesAsRun h file) →
      (file_at (moment_of h).server.files file ≡ None → log_of h file ≡ []) →
      is_disturbed (moment_of h) file st ≡ false →
      (o : Option File) → file_at (moment_of h).server.files file ≡ o → IsWhole h file st
  whole_file h file st shaped goes none quiet None e = none_whole h file st e (none e)
  whole_file h file st shaped goes none quiet (Some f) e =
      whole_there h file st f (shaped f e).0 (shaped f e).1 e quiet (goes f e)

  -- a history of which each file goes as a run
  pub right : (h : List Line) →
      ((file : ℕ) (f : File) → file_at (moment_of h).server.files file ≡ Some f →
      IsChecked f.kept.map × (length f.kept.components ≡ f.kept.map.comps)) →
      ((file : ℕ) (f : File) → file_at (moment_of h).server.files file ≡ Some f → GoesAsRun h file) →
      ((file : ℕ) → file_at (moment_of h).server.files file ≡ None → log_of h file ≡ []) → IsRight h
  right h shaped goes none = record {
    accepted = λ file. accepts_file h file (λ f e. (shaped file f e).0) (goes file) (none file)
        (file_at (moment_of h).server.files file) refl;
    whole = λ file st quiet. whole_file h file st (shaped file) (goes file) (none file) quiet
        (file_at (moment_of h).server.files file) refl;
  }

  pub runs_give_the_headline : RunsGiveTheHeadline
  runs_give_the_headline runs shaped none = λ h lawful calm.
      right h (shaped h lawful calm.scenario) (runs h lawful calm) (none h lawful calm.scenario)
