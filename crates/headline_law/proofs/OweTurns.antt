-- What a repair owes and has done, where a drive is declared or the server is opened.
-- Towards `OweFollows` and `DoneFollows` (`specs/Parts.antt`).
use Rattle.std.proofs.Common.{◌≡◌, ◌==◌, ◌||◌, ℕ, ◌<◌, Bool, true, false, not, List, ◌∷◌, slice_get, Option, Some, None, refl, sym, ap, ◌∙◌, inl, inr, if◌then◌else◌}
use Rattle.std.proofs.lemmas.Bool.{cases_eq, cases_Bool, ne_eqb}
use Rattle.std.proofs.lemmas.Option.{same_Some}
use Rattle.osd_objects.specs.Store.{lane_or_none}
use Rattle.scenario_text.specs.declared.line.Line.{Line}
use Rattle.server_rules.specs.declared.limits.TheConstants.{SERVER_HOLDER, GREATEST_TAG}
use Rattle.server_rules.specs.Files.{file_at}
use Rattle.server_rules.specs.Going.{Going, with_components}
use Rattle.server_rules.specs.Jobs.{declares, declared_in, is_target, others_than, targets}
use Rattle.server_rules.specs.Openings.{is_unsettled, opens_made, opens_spent, opens_fenced, opens}
use Rattle.server_rules.specs.Standing.{any_on, lose_on}
use Rattle.server_rules.proofs.Members.{in_filter, in_filtered}
use Rattle.history_law.specs.Names.{File, Kept, Component, Awaited, Piece, Job, Revoking, Repairing, Stores}
use Rattle.history_law.specs.Moments.{IsMoment}
use Rattle.history_law.specs.Spent.{HasPassed}
use Rattle.history_law.proofs.Asking.{in_lost_on}
use Rattle.world_history.specs.State.{World}
use Rattle.fence_law.specs.State.{State}
use Rattle.file_simulation.specs.Claim.{IsOfScenario}
use Rattle.file_simulation.specs.Components.{object_of}
use Rattle.file_simulation.specs.Relation.{IsRelated}
use Rattle.relation_law.specs.DriveHearing.{IsLaidOut}
use Rattle.relation_law.proofs.DriveMoves.{got_in}
use Rattle.relation_law.proofs.OwnedBefore.{OwnedLaws}
use Rattle.relation_law.proofs.Places.{keep_on, keep_then}
use Rattle.headline_law.specs.OweAsking.{AsksOf}
use Rattle.headline_law.proofs.OweWritten.{WrittenOf}
use Rattle.headline_law.proofs.DoneLast.{store_of}
use Rattle.headline_law.proofs.OweInto.{Waits, Lost}
use Rattle.headline_law.proofs.OweMachine.{KeepsCells}
use Rattle.headline_law.proofs.OweSteps as steps
use Rattle.headline_law.proofs.OweSteps.{IsLike, Goes}
use Rattle.headline_law.proofs.OweWalk.{IsSettled}

module _ (laws : OwnedLaws) (w : World) (h : List Line) (moment : IsMoment w h) (scenario : IsOfScenario h) (s : State)
    (f : File) (there : file_at w.server.files f.kept.number ≡ Some f) (related : IsRelated s w f) (laid : IsLaidOut f)
    (asks : AsksOf f.kept f.job) (t : State) (v : World)
    (keeps : f.kept.phase ≡ Repairing → t.tag ≡ f.kept.tag → KeepsCells s t)
    (objects : (at : Component) → object_of v at ≡ object_of w at)
    (passed : (at : Component) (n : ℕ) → HasPassed (lane_or_none (object_of v at) SERVER_HOLDER) n → n < w.server.next_nonce)
  where
    abbrev Settled : File → Type 0
    Settled g = IsSettled (WrittenOf s related.jobs.owe.bytes f.job) t v w.server.next_nonce passed g

    abbrev Like : Kept → Type 0
    Like k = IsLike laws w h moment scenario s f there related laid asks t v keeps objects passed k

    like_same : (g : File) → g ≡ f → Like g.kept
    like_same g same =
        steps.like_kept laws w h moment scenario s f there related laid asks t v keeps objects passed g.kept
        (ap (λ (y : File). y.kept) same)

    -- the file is as it was
    pub same_settled : (g : File) → g ≡ f → Settled g
    same_settled g same =
        steps.here_settled laws w h moment scenario s f there related laid asks t v keeps objects passed g (like_same g same)
        (ap (λ (y : File). y.job) same)

    pick : (b : Bool) (x y : Going) → Settled x.file → Settled y.file → Settled (if b then x else y).file
    pick true x y p q = p
    pick false x y p q = q

    -- ---- an opening

    pub opens_settled : (format : ℕ) (g : Going) → g.file ≡ f → Settled (opens format g).file
    unfolding opens opens_fenced
    opens_settled format g same =
        pick (is_unsettled g.file.kept) _ _
        (pick (g.file.kept.tag == GREATEST_TAG) _ _
        (steps.here_settled laws w h moment scenario s f there related laid asks t v keeps objects passed (opens_spent g).file
        (like_same g.file same) (ap (λ (y : File). y.job) same))
        (steps.fence_settled laws w h moment scenario s f there related laid asks t v keeps objects passed Revoking format g))
        (by_ready g.file.kept.ready)
      where
        by_ready : (b : Bool) → Settled (opens_made g b).file
        by_ready true =
            steps.free_settled laws w h moment scenario s f there related laid asks t v keeps objects passed
            (opens_made g true).file
            refl
        by_ready false =
            steps.making_settled laws w h moment scenario s f there related laid asks t v keeps objects passed g

    -- ---- a declaration

    module _ (drive : ℕ) (g : Going) (same : g.file ≡ f) where
      abbrev fewer : Going
      fewer = with_components g (lose_on drive g.file.kept.components)

      like_fewer : Like (with_components g (lose_on drive g.file.kept.components)).file.kept
      like_fewer =
          let like = like_same g.file same in
          record {
            map = like.map;
            ended = like.ended;
            tag = like.tag;
            places = keep_then f.kept.components g.file.kept.components (lose_on drive g.file.kept.components) like.places
                (keep_on drive g.file.kept.components);
          }

      abbrev GoesTo : Job → List Awaited → Type 0
      GoesTo j ws = Goes laws w h moment scenario s f there related laid asks t v keeps objects passed
          (with_components g (lose_on drive g.file.kept.components)).file.kept j.awaited ws

      -- what went to the drive is of a component that is lost
      gone_on : (a : Awaited) (c : Component) → slice_get f.kept.components a.component ≡ Some c → c.drive ≡ drive →
          (at : Component) → slice_get (lose_on drive g.file.kept.components) a.component ≡ Some at → at.missing ≡ true
      gone_on a c found on at there_ = elim (cases_Bool at.missing) [
        | inl gone ↦ gone
        | inr stands ↦
            let was = (keep_on drive g.file.kept.components).back a.component at there_ in
            let it : was.0 ≡ c =
            same_Some was.0 c (sym was.1 ∙ ap (λ (y : File). slice_get y.kept.components a.component) same ∙ found) in
            let off = in_lost_on drive g.file.kept.components at
            (got_in (lose_on drive g.file.kept.components) a.component at there_) stands in
            absurd (off.1 (was.2.drive ∙ ap (λ (y : Component). y.drive) it ∙ on))
      ]

      declared_goes : (j : Job) → f.job ≡ Some j → (p : Piece) (ps : List Piece) (short : List ℕ) (q : Bool) →
          j.work ≡ Stores (p ∷ ps) short q → GoesTo j (others_than drive j.awaited)
      declared_goes j runs p ps short q is = record {
        became = λ a i. elim (cases_eq a.drive drive) [
          | inl on ↦
              let store = store_of laws w h moment scenario s f there related laid j runs p ps short q is a i in
              Lost (λ at found. gone_on a store.of.component store.of.there (sym store.of.drive ∙ on) at found)
          | inr off ↦ Waits (in_filter _ a j.awaited i (ap not (ne_eqb a.drive drive off)))
        ];
        from = λ b i. (b, (in_filtered _ b j.awaited i).0, refl, refl, refl);
      }

      by_job : (o : Option Job) → g.file.job ≡ o → Settled (declared_in fewer drive o).file
      by_job None none =
          steps.free_settled laws w h moment scenario s f there related laid asks t v keeps objects passed fewer.file none
      by_job (Some j) has =
          let runs : f.job ≡ Some j = ap (λ (y : File). y.job) (sym same) ∙ has in
          steps.loses_settled laws w h moment scenario s f there related laid asks t v keeps objects passed fewer
          like_fewer j runs
          has (others_than drive j.awaited) (declared_goes j runs) (is_target j.work drive) j.work refl

      pub declares_settled : Settled (declares g drive).file
      unfolding declares
      declares_settled =
          pick (any_on drive g.file.kept.components || targets g.file.job drive) (declared_in fewer drive g.file.job) g
          (by_job g.file.job refl) (same_settled g.file same)
