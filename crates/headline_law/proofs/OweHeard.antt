-- The rows that a repair has heard when the last reply comes are those of its piece.
-- Towards `OweFollows` (`specs/Parts.antt`).
use Rattle.std.proofs.Common.{◌≡◌, ◌==◌, ℕ, ◌+◌, Bool, true, not, List, [], ◌∷◌, Option, Some, refl, sym, ap, subst, ◌∙◌, inl, inr}
use Rattle.std.specs.Prelude.{get_or}
use Rattle.std.proofs.lemmas.Bool.{cases_eq, eq-eqb, ne_eqb, and_parts, eqb-true}
use Rattle.osd_lists.specs.declared.node.Node.TheVariants as node
use Rattle.osd_commands.specs.declared.replies.Reply.{Reply}
use Rattle.data_map.specs.Striping.{offset_of}
use Rattle.scenario_text.specs.declared.line.Line.{Line}
use Rattle.server_rules.specs.declared.limits.TheConstants.{PERFORMED}
use Rattle.server_rules.specs.Files.{file_at}
use Rattle.server_rules.specs.History.{Hears}
use Rattle.server_rules.specs.Laws.{In}
use Rattle.server_rules.specs.Messages.{Replies, awaited_by}
use Rattle.server_rules.specs.Replies.{Done, answers, hearing, others, heard_with}
use Rattle.server_rules.proofs.Members.{in_filter, in_either, in_front, in_behind}
use Rattle.history_law.specs.Names.{File, Awaited, Heard, Piece, Job, Work, Fetches}
use Rattle.history_law.specs.Said.{IsHeardByServer}
use Rattle.history_law.specs.Moments.{IsMoment}
use Rattle.history_law.proofs.Hearing.{done_is_done}
use Rattle.world_history.specs.State.{World}
use Rattle.fence_law.specs.State.{State}
use Rattle.file_simulation.specs.Claim.{IsOfScenario}
use Rattle.file_simulation.specs.Jobs.{JobIs, AreRows, IsRow, RowsIn, HasToldServer}
use Rattle.file_simulation.specs.Relation.{IsRelated}
use Rattle.relation_law.specs.Awaiting as awaiting
use Rattle.relation_law.specs.DriveHearing.{IsLaidOut}
use Rattle.relation_law.proofs.OwnedBefore.{OwnedLaws, fits_in}
use Rattle.headline_law.specs.OweAsking.{IsOfPiece, ReadsAll, AsksIn, AsksOf}
use Rattle.headline_law.proofs.DoneLast.{in_files, alone_in}
use Rattle.headline_law.proofs.OweFilled.{filled_at, row_found}
use Rattle.headline_law.proofs.OweMachine.{KeepsCells}
use Rattle.headline_law.proofs.OweRows.{RowsAre}
use Rattle.headline_law.proofs.RowsHeard.{WasTold, was_told, done_read}

module _ (laws : OwnedLaws) (w : World) (h : List Line) (moment : IsMoment w h) (scenario : IsOfScenario h) (s : State)
    (f : File) (there : file_at w.server.files f.kept.number ≡ Some f) (related : IsRelated s w f) (laid : IsLaidOut f)
    (asks : AsksOf f.kept f.job) (j : Job) (runs : f.job ≡ Some j) (now d : ℕ) (r : Reply)
    (heard : IsHeardByServer w (Hears now (node.Drive d) (Replies r))) (a : Awaited) (i : In a j.awaited)
    (answer : answers d r a ≡ true) (done : hearing f.kept a r ≡ Done) (none : others j.awaited a.command.nonce ≡ []) where
  one : (b : Awaited) → In b j.awaited → b ≡ a
  one b x = elim (cases_eq b.command.nonce a.command.nonce) [
    | inl nonce ↦ alone_in laws w h moment scenario s f there related laid j runs b a x i nonce
    | inr other ↦
        absurd (subst (In b) none (in_filter _ b j.awaited x (ap not (ne_eqb b.command.nonce a.command.nonce other))))
  ]

  abbrev newly : Heard
  newly = record { component = a.component; payload = r.payload }

  module _ (p : Piece) (ps : List Piece) (short : List ℕ) (is : j.work ≡ Fetches (p ∷ ps) short) where
    all_read : ReadsAll f.kept j p
    all_read = (subst (AsksIn f.kept j) is (subst (AsksOf f.kept) runs asks)).0

    rows : AreRows s w f j p
    rows =
        subst (RowsIn s w f j) is ((subst (JobIs s w f) runs related.jobs.job).rows)

    asked : awaiting.IsRow f.kept.map f.kept.components p a
    asked =
        subst (λ (y : Work). awaiting.IsAskedIn f.kept y a) is
        ((subst (awaiting.FitsIn f.kept) runs
        (fits_in laws w h moment scenario f (in_files laws w h moment scenario s f there related laid))).asked a i)

    new_row : IsRow s a.component (offset_of f.kept.map p.stripe p.column) p.count r.payload
    new_row =
        let told : WasTold w d r =
        was_told laws w h moment scenario a (
          f,
          in_files laws w h moment scenario s f there related laid,
          subst (λ (o : Option Job). In a (awaited_by o)) (sym runs) i,
        ) now d r heard in
        let both = and_parts (a.command.nonce == r.nonce) (a.drive == d) answer in
        let drive : a.drive ≡ d = eqb-true a.drive d both.1 in
        let nonce : a.command.nonce ≡ told.reply.nonce = eqb-true a.command.nonce r.nonce both.0 ∙ told.nonce in
        let verdict : told.reply.verdict ≡ PERFORMED =
        sym told.verdict ∙ done_read f.kept a r asked.action_is (done_is_done f.kept a r done) in
        let row = rows.replied a told.reply i (subst (λ (n : ℕ). HasToldServer w n told.reply) (sym drive) told.told)
        (rw (eq-eqb a.command.nonce told.reply.nonce nonce, eq-eqb a.drive a.drive refl) refl) verdict in
        subst (λ (xs : List ℕ). IsRow s a.component (offset_of f.kept.map p.stripe p.column) p.count xs) (sym told.payload)
        (subst (λ (n : ℕ). IsRow s a.component (offset_of f.kept.map p.stripe p.column) n told.reply.payload) asked.count
        (subst (λ (n : ℕ). IsRow s a.component n a.command.length told.reply.payload) asked.offset row))

    heard_row : (x : Heard) → In x (heard_with j a r) →
        IsRow s x.component (offset_of f.kept.map p.stripe p.column) p.count x.payload
    heard_row x k = elim (in_either x j.heard (newly ∷ []) k) [
      | inl old ↦ rows.heard x old
      | inr (inl new) ↦
          subst (λ (y : Heard). IsRow s y.component (offset_of f.kept.map p.stripe p.column) p.count y.payload) (sym new)
          new_row
      | inr (inr no_more) ↦ absurd no_more
    ]

    was_heard : (n : ℕ) → IsOfPiece f.kept p n → (x : Heard) × In x (heard_with j a r) × (x.component ≡ n)
    was_heard n of = elim (all_read.each n of) [
      | inl x ↦ (x.0, in_front x.0 j.heard _ x.1, x.2)
      | inr b ↦ (
        newly,
        in_behind newly j.heard _ (inl refl),
        ap (λ (z : Awaited). z.component) (sym (one b.0 b.1)) ∙ b.2,
      )
    ]

    pub rows_at : (t : State) → KeepsCells s t → RowsAre t f.kept p (heard_with j a r)
    rows_at t cells =
        record {
          right = all_read.right;
          rows = λ n of.
              let x = was_heard n of in
              let y = row_found (heard_with j a r) n p.count x.0 x.1 x.2 in
              let row = heard_row y.0 y.1 in (
                ap (λ (b : ℕ → Bool). b n) cells.gone ∙ ap s.gone (sym y.2) ∙ row.stands,
                λ c low.
                    ap (λ (xs : List ℕ). get_or xs c 0) y.3 ∙ filled_at y.0.payload p.count c low
                    ∙ row.cells c low
                    ∙ ap (λ (m : ℕ). s.cell m (offset_of f.kept.map p.stripe p.column + c)) y.2
                    ∙ ap (λ (b : ℕ → ℕ → ℕ). b n (offset_of f.kept.map p.stripe p.column + c)) (sym cells.cell),
              );
        }
