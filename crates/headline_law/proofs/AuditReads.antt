-- Where a machine stands for a file whose audit reads, the rows of a piece are words of the log's bytes, so that the piece is as
-- it should be.
-- Towards `AuditsFindNone` (`file_simulation/specs/Claim.antt`).
use Rattle.std.proofs.Common.{◌≡◌, ℕ, ◌+◌, ◌<◌, true, not, List, [], ◌∷◌, Option, Some, None, refl, sym, ap, subst, ◌∙◌, arith, inl, inr}
use Rattle.std.specs.Prelude.{get_or}
use Rattle.std.proofs.lemmas.Bool.{cases_eq, ne_eqb, lt-ltb}
use Rattle.std.proofs.lemmas.Option.{slice_get_within}
use Rattle.data_map.specs.Striping.{offset_of}
use Rattle.scenario_text.specs.declared.line.Line.{Line}
use Rattle.server_rules.specs.Files.{file_at}
use Rattle.server_rules.specs.Grants.{grant_of}
use Rattle.osd_lists.specs.declared.node.Node.TheVariants as node
use Rattle.server_rules.specs.Audit.{checked}
use Rattle.server_rules.specs.History.{Hears}
use Rattle.server_rules.specs.Laws.{In, IsSafe, NoneBeside, EachStepIsSafe}
use Rattle.server_rules.specs.Messages.{Replies}
use Rattle.server_rules.specs.Replies.{Done, answers, hearing, others, heard_with}
use Rattle.server_rules.proofs.Members.{in_front, in_behind, in_either, in_filter}
use Rattle.world_history.specs.ServerNames.{File, Grant, Piece, Tally, Awaited, Heard, Job, Work, Checks}
use Rattle.world_history.specs.State.{World}
use Rattle.history_law.specs.Moments.{IsMoment}
use Rattle.history_law.specs.Said.{IsHeardByServer}
use Rattle.history_law.specs.Steps.{Answering}
use Rattle.history_law.proofs.Hearing.{done_is_done}
use Rattle.component_law.specs.KeptWalk.{WorkFits}
use Rattle.exchange_law.specs.Files.{AllFilesFit}
use Rattle.fence_law.specs.Columns.{Stood}
use Rattle.fence_law.specs.Law.{IsCode, IsAudited, byte_before}
use Rattle.fence_law.specs.State.{State, Layout}
use Rattle.fence_law.specs.State as machine
use Rattle.plan_law.specs.FileLayout.{layout_of}
use Rattle.plan_law.proofs.Codes.{layouts_are_codes}
use Rattle.file_simulation.specs.Claim.{IsOfScenario}
use Rattle.file_simulation.specs.Jobs.{IsRow, AreRows, RowsIn, JobIs}
use Rattle.file_simulation.specs.Phases.{IsStill, PhaseIs, OutstandingIs}
use Rattle.file_simulation.specs.Relation.{IsRelated}
use Rattle.file_simulation.specs.Showing.{IsRun}
use Rattle.relation_law.specs.Awaiting as awaiting
use Rattle.relation_law.specs.DriveHearing.{IsLaidOut}
use Rattle.relation_law.proofs.ComponentsWorld.{laid_out}
use Rattle.relation_law.proofs.OwnedBefore.{OwnedLaws, run, work_fits, fits_in}
use Rattle.headline_law.specs.OweAsking.{IsRead}
use Rattle.headline_law.proofs.AuditJobs.{HasFoundNone}
use Rattle.headline_law.proofs.AuditRows.{RowsAreWords, checked_clean}
use Rattle.headline_law.proofs.OweAsked.{AreAlone}
use Rattle.headline_law.proofs.OweFilled.{filled_at, row_found}
use Rattle.headline_law.proofs.RowsNow.{heard_now}

-- what is known of the world, and of machines
pub record AuditLaws : Type 0 where
  pub world : OwnedLaws
  pub fits : AllFilesFit
  pub safe : EachStepIsSafe
  pub audited : IsAudited

none_out : (o : Option machine.Grant) (f : File) → OutstandingIs f.kept.map f.kept.tag None o → o ≡ None
none_out None f is = refl
none_out (Some x) f is = absurd is

-- each column stands while a job runs and the file is still
still_stood : IsAudited → (s : State) (f : File) → IsRun s → IsCode s.layout → IsStill s f → f.kept.grants ≡ [] → (x : ℕ) →
    Stood s x (byte_before s s.count)
still_stood audited s f r code still free x =
    subst (λ (b : State). Stood b x (byte_before b b.count)) (sym r.state)
    (audited s.layout r.events x code r.lawful r.calm (ap (λ (b : State). b.repairing) (sym r.state) ∙ still.repairing)
    (λ c. ap (λ (b : State). b.outstanding c) (sym r.state)
    ∙ none_out (s.outstanding c) f
    (subst (λ (gs : List Grant). OutstandingIs f.kept.map f.kept.tag (grant_of gs c) (s.outstanding c)) free
    (still.outstanding c))))

module _ (laws : AuditLaws) (w : World) (h : List Line) (before : IsMoment w h) (scenario : IsOfScenario h) (f : File)
    (there : In f w.server.files) (place : file_at w.server.files f.kept.number ≡ Some f) (safe : IsSafe f) (s : State)
    (r : IsRun s) (related : IsRelated s w f) (x : Answering) where
  laid : IsLaidOut f
  laid = laid_out w h before (laws.fits w h before scenario.text) (run laws.world w h before scenario) f place

  module _ (runs : f.job ≡ Some x.job) (p : Piece) (ps : List Piece) (t : Tally) (work : x.job.work ≡ Checks (p ∷ ps) t)
      (found : HasFoundNone f.kept x.job (p ∷ ps) t) (alone : AreAlone x.job.awaited)
      (heard : IsHeardByServer w (Hears x.now (node.Drive x.drive) (Replies x.reply)))
      (awaits : In x.awaited x.job.awaited) (answer : answers x.drive x.reply x.awaited ≡ true)
      (done : hearing f.kept x.awaited x.reply ≡ Done) (last : others x.job.awaited x.awaited.command.nonce ≡ []) where
    rows : AreRows s w f x.job p
    rows = subst (RowsIn s w f x.job) work (subst (JobIs s w f) runs related.jobs.job).rows

    asked : (a : Awaited) → In a x.job.awaited → awaiting.IsRow f.kept.map f.kept.components p a
    asked a i =
        subst (λ (y : Work). awaiting.IsAskedIn f.kept y a) work
        ((subst (awaiting.FitsIn f.kept) runs (fits_in laws.world w h before scenario f there)).asked a i)

    still : IsStill s f
    still =
        subst (PhaseIs s f) (subst (WorkFits f.kept.phase) work (work_fits laws.world w h before scenario f there x.job runs))
        related.kept.phase

    free : f.kept.grants ≡ []
    free = subst (λ (o : Option Job). NoneBeside o f.kept.grants) runs safe.alone

    code : IsCode s.layout
    code = subst IsCode (sym related.layout) (layouts_are_codes f.kept.map f.kept.first_tag laid.checked)

    abbrev d : ℕ → ℕ
    d = byte_before s s.count

    -- each row that was heard, the last one among them
    each_row : (y : Heard) → In y (heard_with x.job x.awaited x.reply) →
        IsRow s y.component (offset_of f.kept.map p.stripe p.column) p.count y.payload
    each_row y i = elim (in_either y x.job.heard _ i) [
      | inl old ↦ rows.heard y old
      | inr (inl e) ↦
          subst (λ (z : Heard). IsRow s z.component (offset_of f.kept.map p.stripe p.column) p.count z.payload) (sym e)
          (heard_now laws.world w h before scenario f there s x.job runs p rows asked x.awaited x.now x.drive x.reply awaits heard
          answer (done_is_done f.kept x.awaited x.reply done))
      | inr (inr z) ↦ absurd z
    ]

    -- a row of each present component was heard
    each_heard : (n : ℕ) → IsRead x.job n → (y : Heard) × In y (heard_with x.job x.awaited x.reply) × (y.component ≡ n)
    each_heard n (inl y) = (y.0, in_front y.0 x.job.heard _ y.1, y.2)
    each_heard n (inr b) = elim (cases_eq b.0.command.nonce x.awaited.command.nonce) [
      | inl same ↦ (
        record { component = x.awaited.component; payload = x.reply.payload },
        in_behind (record { component = x.awaited.component; payload = x.reply.payload }) x.job.heard _ (inl refl),
        ap (λ (z : Awaited). z.component) (alone x.awaited b.0 awaits b.1 (sym same)) ∙ b.2,
      )
      | inr other ↦
          absurd (subst (In b.0) last
          (in_filter _ b.0 x.job.awaited b.1 (ap not (ne_eqb b.0.command.nonce x.awaited.command.nonce other))))
    ]

    words : RowsAreWords f.kept p (heard_with x.job x.awaited x.reply) (byte_before s s.count)
    words n of i low =
        let y = each_heard n (found.reads n of) in
        let z = row_found (heard_with x.job x.awaited x.reply) n p.count y.0 y.1 y.2 in
        let row : IsRow s n (offset_of f.kept.map p.stripe p.column) p.count z.0.payload =
        subst (λ (k : ℕ). IsRow s k (offset_of f.kept.map p.stripe p.column) p.count z.0.payload) z.2 (each_row z.0 z.1) in
        let at : ℕ = offset_of f.kept.map p.stripe p.column + i in
        let below : n < f.kept.map.comps =
        omega (arith, slice_get_within f.kept.components n of.component of.there, laid.components) in
        let cell : s.layout.is_cell n (offset_of f.kept.map p.stripe p.column + i) ≡ true =
        ap (λ (l : Layout). l.is_cell n (offset_of f.kept.map p.stripe p.column + i)) related.layout
        ∙ lt-ltb n f.kept.map.comps below in
        ap (λ (xs : List ℕ). get_or xs i 0) z.3 ∙ filled_at z.0.payload p.count i low ∙ row.cells i low
        ∙ still_stood laws.audited s f r code still free (s.layout.cell_col n (offset_of f.kept.map p.stripe p.column + i)) n
        (offset_of f.kept.map p.stripe p.column + i) cell refl row.stands
        ∙ ap (λ (l : Layout). l.word n (offset_of f.kept.map p.stripe p.column + i) (byte_before s s.count)) related.layout
        ∙ ap (λ (o : ℕ). (layout_of f.kept.map f.kept.first_tag).word n o (byte_before s s.count)) (omega arith)

    pub piece_clears : (checked f.kept p (heard_with x.job x.awaited x.reply) t).bad ≡ []
    piece_clears =
        checked_clean f.kept laid.checked p (heard_with x.job x.awaited x.reply) (byte_before s s.count)
        (found.cut p (inl refl)) words t found.bad
