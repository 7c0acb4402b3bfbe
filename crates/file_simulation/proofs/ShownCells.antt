-- What a machine shows of a file: the judge accepts the file's log, and each cell that isn't lost in a stripe that isn't
-- disturbed holds the word of the bytes that the log leaves.
use Rattle.std.proofs.Common.{◌≡◌, ℕ, ◌&&◌, List, Bool, true, false, not, Some, slice_get, refl, sym, ap, subst, ◌∙◌, inl, inr, eq-eqb}
use Rattle.std.proofs.lemmas.Bool.{cases_Bool}
use Rattle.server_rules.specs.Files.{file_at}
use Rattle.server_rules.specs.Laws.{In}
use Rattle.file_log.specs.Judge.{Accepts}
use Rattle.scenario_text.specs.declared.line.Line.{Line}
use Rattle.world_history.specs.ServerNames.{File, Component}
use Rattle.world_history.specs.ReadDrives.{drive_after}
use Rattle.world_history.specs.ReadLog.{Logged, log_of}
use Rattle.world_history.specs.Stripes.{Mark, Moment, is_lost, is_disturbed, is_unfinished, marks_as, is_in}
use Rattle.world_history.specs.Calm.{moment_of}
use Rattle.fence_law.specs.State.{State}
use Rattle.fence_law.specs.Columns.{Disturbed, Gone}
use Rattle.fence_law.specs.Log.{IsLog}
use Rattle.fence_law.specs.Law.{IsCode, IsJudged, IsWholeAt, byte_before}
use Rattle.component_law.proofs.Members.{here}
use Rattle.plan_law.specs.FileLayout.{stripe_of_column}
use Rattle.file_simulation.specs.Claim.{byte_stored}
use Rattle.file_simulation.specs.Showing.{Pairs, ShowsLines, ShowsFile, GoesAsRun, HasMark}

-- ---- the judge

pub accepted : (h : List Line) (file : ℕ) (g : GoesAsRun h file) → IsJudged → IsCode g.state.layout → Accepts (log_of h file)
accepted h file g judged code =
    judged g.state.layout g.run.events (log_of h file) code g.run.lawful g.run.calm
    (subst (λ b. IsLog b b.count (log_of h file)) g.run.state g.shown.log)

-- ---- stripes that aren't disturbed

-- a mark of an unfinished entry disturbs its stripe
disturbs : (m : Moment) (file st i : ℕ) (e : Logged) → In (record { file = file; stripe = st; entry = i }) m.marks →
    slice_get m.log.entries i ≡ Some e → is_unfinished e ≡ true → is_disturbed m file st ≡ true
unfolding is_disturbed
disturbs m file st i e mark got open_ =
    here (λ (k : Mark). is_in file st k && marks_as m is_unfinished k) m.marks (record { file = file; stripe = st; entry = i })
    mark (rw (eq-eqb file file refl) (rw (eq-eqb st st refl) (rw got open_)))

-- so the machine's column isn't disturbed either, or nothing is left of it
left_alone : (h : List Line) (s : State) (f : File) (pairs : Pairs) → ShowsLines h s f.kept.number pairs →
    file_at (moment_of h).server.files f.kept.number ≡ Some f → (st x : ℕ) →
    is_disturbed (moment_of h) f.kept.number st ≡ false → stripe_of_column f.kept.map x ≡ st → (d : Disturbed s x) →
    HasMark s (moment_of h) f pairs d.0 x → Gone s x
left_alone h s f pairs shows there st x quiet stripe d (inr g) = g.1
left_alone h s f pairs shows there st x quiet stripe d (inl m) =
    let same : _ = shows.paired.same m.0 d.0 m.1
    in let unfinished : is_unfinished same.0 ≡ true = same.2.unfinished d.6 ∙ ap not d.7
    in absurd (cc (sym (disturbs (moment_of h) f.kept.number (stripe_of_column f.kept.map x) m.0 same.0 m.2 same.1 unfinished)
    ∙ ap (is_disturbed (moment_of h) f.kept.number) stripe ∙ quiet))

-- ---- cells

stands : (h : List Line) (s : State) (k : ℕ) (lost : Bool) → (s.lost k ≡ true → lost ≡ true) → lost ≡ false → s.lost k ≡ false
stands h s k lost shown e = elim (cases_Bool (s.lost k)) [ inl t ↦ absurd (cc (sym (shown t) ∙ e)) | inr f ↦ f ]

pub cell_holds : (h : List Line) (s : State) (f : File) (pairs : Pairs) → ShowsLines h s f.kept.number pairs → IsWholeAt s →
    file_at (moment_of h).server.files f.kept.number ≡ Some f → (st k z : ℕ) (at : Component) →
    is_disturbed (moment_of h) f.kept.number st ≡ false → slice_get f.kept.components k ≡ Some at →
    s.layout.is_cell k z ≡ true → stripe_of_column f.kept.map (s.layout.cell_col k z) ≡ st →
    is_lost (moment_of h) at ≡ false →
    byte_stored (drive_after h at.drive) at.object z ≡ s.layout.word k z (byte_before s s.count)
cell_holds h s f pairs shows whole there st k z at quiet got cell stripe kept =
    let shown : ShowsFile h s pairs f = shows.shown f there
    in let lost : s.lost k ≡ false = stands h s k (is_lost (moment_of h) at) (shown.components k at got).lost kept
    in let gone : s.gone k ≡ false = whole.stands k lost
    in let calm : (Disturbed s (s.layout.cell_col k z) → ⊥) = λ d. absurd (cc (sym (left_alone h s f pairs shows there st
    (s.layout.cell_col k z) quiet stripe d (shown.marks (s.layout.cell_col k z) d) k z cell refl) ∙ gone))
    in sym ((shown.components k at got).cells kept z) ∙ whole.undisturbed (s.layout.cell_col k z) calm k z cell refl gone
