-- What a repair owes and has done, behind a step of the server: a reply, a declaration, a fence, an opening.
-- Towards `OweFollows` and `DoneFollows` (`specs/Parts.antt`).
use Rattle.std.proofs.Common.{◌≡◌, ℕ, ◌<◌, ◌≤◌, Bool, true, false, not, List, [], ◌∷◌, map, slice_get, Option, Some, None, refl, sym, ap, subst, ◌∙◌, inl, inr, arith}
use Rattle.std.proofs.lemmas.Bool.{cases_eq, eq-eqb, ne_eqb}
use Rattle.osd_lists.specs.declared.node.Node.TheVariants as node
use Rattle.osd_commands.specs.declared.replies.Reply.{Reply}
use Rattle.osd_objects.specs.Store.{lane_or_none}
use Rattle.data_map.specs.declared.check.RawMap.{RawMap}
use Rattle.scenario_text.specs.declared.line.Line.{Line}
use Rattle.server_rules.specs.declared.limits.TheConstants.{SERVER_HOLDER}
use Rattle.server_rules.specs.Commands.{again_in_2}
use Rattle.server_rules.specs.Files.{file_at}
use Rattle.server_rules.specs.Going.{Going, noting, with_components, waits_on}
use Rattle.server_rules.specs.History.{Hears}
use Rattle.server_rules.specs.Jobs.{loses, fence_begins, making}
use Rattle.server_rules.specs.Laws.{In}
use Rattle.server_rules.specs.Messages.{Replies}
use Rattle.server_rules.specs.Replies.{Hearing, Older, Full, Done, Nothing, answers, hearing, others, renewed, renews, fills_up, heard_with, hears}
use Rattle.server_rules.specs.Standing.{lose_from}
use Rattle.server_rules.proofs.Members.{in_filter, in_filtered, in_map, in_mapped}
use Rattle.history_law.specs.Names.{File, Kept, Component, Awaited, Piece, Job, JobKind, Repairing, Work, Creates, Fences, Fetches, Stores, Targets, Gathers, Fills, Lengths, Checks, NoSpace}
use Rattle.history_law.specs.Said.{IsHeardByServer}
use Rattle.history_law.specs.Moments.{IsMoment}
use Rattle.history_law.specs.Spent.{HasPassed}
use Rattle.history_law.proofs.FencingMoves.{IsSent}
use Rattle.component_law.specs.KeptWalk.{WorkFits}
use Rattle.world_history.specs.State.{World}
use Rattle.fence_law.specs.Law.{IsCode}
use Rattle.fence_law.specs.State.{State}
use Rattle.plan_law.proofs.Codes.{layouts_are_codes}
use Rattle.file_simulation.specs.Claim.{IsOfScenario}
use Rattle.file_simulation.specs.Components.{object_of}
use Rattle.file_simulation.specs.Jobs.{AreDone, DueIn, DueOf, DoneIn, IsJob, JobIs, HasColumn}
use Rattle.file_simulation.specs.Relation.{IsRelated}
use Rattle.relation_law.specs.DriveHearing.{IsLaidOut}
use Rattle.relation_law.proofs.Owning.{lost_at, among_one}
use Rattle.server_rules.specs.Numbers.{among}
use Rattle.relation_law.proofs.OwnedBefore.{OwnedLaws, work_fits}
use Rattle.relation_law.proofs.Places.{KeepPlaces, keep_here, keep_then, keep_from}
use Rattle.relation_law.proofs.Walk.{place_behind, lost_place, broken, walk_waits, walk_loses, walk_full, walk_fence, walk_making}
use Rattle.headline_law.specs.OweAsking.{AreInside, AsksIn, AsksOf}
use Rattle.headline_law.proofs.OweWritten.{WrittenIn, WrittenOf}
use Rattle.headline_law.proofs.DoneLast.{IsLastReply, in_files, alone_in, has_passed, last_stands}
use Rattle.headline_law.proofs.OweHeard.{rows_at}
use Rattle.headline_law.proofs.OweInto.{done_over, stands_over, Became, Waits, Again, Lost, Passed, due_into, written_into}
use Rattle.headline_law.proofs.OweMachine.{KeepsCells}
use Rattle.headline_law.proofs.OweRows.{RowsAre}
use Rattle.headline_law.proofs.OweWalk.{OwesStores, Settles, done_same, done_more, Outcome, IsSettled, PlaceOwes, rested, broken_out, owe_cases}

module _ (laws : OwnedLaws) (w : World) (h : List Line) (moment : IsMoment w h) (scenario : IsOfScenario h) (s : State)
    (f : File) (there : file_at w.server.files f.kept.number ≡ Some f) (related : IsRelated s w f) (laid : IsLaidOut f)
    (asks : AsksOf f.kept f.job) (t : State) (v : World)
    (keeps : f.kept.phase ≡ Repairing → t.tag ≡ f.kept.tag → KeepsCells s t)
    (objects : (at : Component) → object_of v at ≡ object_of w at)
    (passed : (at : Component) (n : ℕ) → HasPassed (lane_or_none (object_of v at) SERVER_HOLDER) n → n < w.server.next_nonce)
  where
    -- what is asked beside
    abbrev W : Type 0
    W = WrittenOf s related.jobs.owe.bytes f.job

    code : IsCode s.layout
    code = subst IsCode (sym related.layout) (layouts_are_codes f.kept.map f.kept.first_tag laid.checked)

    phase_of : (j : Job) → f.job ≡ Some j → (work : Work) → j.work ≡ work → WorkFits f.kept.phase work
    phase_of j runs work is =
        subst (WorkFits f.kept.phase) is
        (work_fits laws w h moment scenario f (in_files laws w h moment scenario s f there related laid) j runs)

    -- the file is as it was, but for its format, its job, and components that are lost
    pub record IsLike (g : Kept) : Type 0 where
      pub map : g.map ≡ f.kept.map
      pub ended : g.ended ≡ f.kept.ended
      pub tag : g.tag ≡ f.kept.tag
      pub places : KeepPlaces f.kept.components g.components

    pub like_kept : (g : Kept) → g ≡ f.kept → IsLike g
    like_kept g same = record {
      map = ap (λ (y : Kept). y.map) same;
      ended = ap (λ (y : Kept). y.ended) same;
      tag = ap (λ (y : Kept). y.tag) same;
      places = subst (λ (cs : List Component). KeepPlaces f.kept.components cs) (sym (ap (λ (y : Kept). y.components) same))
          (keep_here f.kept.components);
    }

    cells_of : (g : File) → IsLike g.kept → f.kept.phase ≡ Repairing → Settles t g.kept → KeepsCells s t
    cells_of g like repairs settles = keeps repairs (settles.tag ∙ like.tag)

    done_like : (g : File) → IsLike g.kept → f.kept.phase ≡ Repairing → Settles t g.kept → (todo : List Piece) →
        AreDone s f todo →
        AreDone t g todo
    done_like g like repairs settles todo done =
        done_same t f g todo (sym like.ended) (sym like.map) (done_over s t (cells_of g like repairs settles) f todo done)

    done_in : (j : Job) → f.job ≡ Some j → f.kept.phase ≡ Repairing → (work : Work) → j.work ≡ work → DoneIn s f work
    done_in j runs repairs work is =
        let job : IsJob s w f j = subst (JobIs s w f) runs related.jobs.job in subst (DoneIn s f) is (job.done repairs)

    -- what became of each command that was awaited, and what each was that is
    pub record Goes (g : Kept) (us ws : List Awaited) : Type 0 where
      pub became : (a : Awaited) → In a us → Became w f.kept g w.server.next_nonce ws a
      pub from : (b : Awaited) → In b ws → (a : Awaited) × In a us × (b.component ≡ a.component) ×
          (b.command.offset ≡ a.command.offset) × (b.command.payload ≡ a.command.payload)

    stores_like : WrittenOf s related.jobs.owe.bytes f.job → (g : File) → IsLike g.kept → Settles t g.kept → (j : Job) →
        f.job ≡ Some j → (p : Piece) (ps : List Piece)
        (short : List ℕ) (q : Bool) → j.work ≡ Stores (p ∷ ps) short q → (i : Job) → Goes g.kept j.awaited i.awaited →
        OwesStores t v g i p
    stores_like written g like settles j runs p ps short q work i goes =
        let cells = cells_of g like (phase_of j runs (Stores (p ∷ ps) short q) work) settles in
        record {
          bytes = related.jobs.owe.bytes;
          due = due_into s t w v f g w.server.next_nonce cells related.components objects passed settles like.map like.places
              related.jobs.owe.bytes j.awaited i.awaited p goes.became
              ((subst (λ (y : Work). DueIn s w f related.jobs.owe.bytes j.awaited y) work
              (subst (λ (o : Option Job). DueOf s w f related.jobs.owe.bytes o) runs related.jobs.owe.due)).0);
          written = written_into related.jobs.owe.bytes s t j.awaited i.awaited code cells goes.from
              (subst (λ (y : Work). WrittenIn s related.jobs.owe.bytes j.awaited y) work
              (subst (λ (o : Option Job). WrittenOf s related.jobs.owe.bytes o) runs written));
        }

    abbrev Out : File → Job → Work → Type 0
    Out g i work = Outcome W t v w.server.next_nonce passed g i work

    -- where a repair writes
    abbrev GoesIn : Kept → Job → List Awaited → Type 0
    GoesIn g j ws =
        (p : Piece) (ps : List Piece) (short : List ℕ) (q : Bool) → j.work ≡ Stores (p ∷ ps) short q → Goes g j.awaited ws

    outcome_like : (g : File) → IsLike g.kept → Settles t g.kept → (j : Job) → f.job ≡ Some j → (i : Job) →
        GoesIn g.kept j i.awaited → (work : Work) → j.work ≡ work → Out g i work
    outcome_like g like settles j runs i goes Creates is = tt
    outcome_like g like settles j runs i goes Fences is = tt
    outcome_like g like settles j runs i goes (Fetches todo short) is =
        let repairs = phase_of j runs (Fetches todo short) is in
        done_like g like repairs settles todo (done_in j runs repairs (Fetches todo short) is)
    outcome_like g like settles j runs i goes (Stores [] short q) is =
        let repairs = phase_of j runs (Stores [] short q) is in
        done_like g like repairs settles [] (done_in j runs repairs (Stores [] short q) is)
    outcome_like g like settles j runs i goes (Stores (p ∷ ps) short q) is =
        let repairs = phase_of j runs (Stores (p ∷ ps) short q) is in (
          done_like g like repairs settles (p ∷ ps) (done_in j runs repairs (Stores (p ∷ ps) short q) is),
          λ written. stores_like written g like settles j runs p ps short q is i (goes p ps short q is),
        )
    outcome_like g like settles j runs i goes (Targets y) is = tt
    outcome_like g like settles j runs i goes (Gathers y todo) is = tt
    outcome_like g like settles j runs i goes (Fills y todo) is = tt
    outcome_like g like settles j runs i goes Lengths is = tt
    outcome_like g like settles j runs i goes (Checks todo y) is = tt

    same_goes : (g : Kept) (us : List Awaited) → Goes g us us
    same_goes g us = record { became = λ a i. Waits i; from = λ b i. (b, i, refl, refl, refl) }

    abbrev Settled : File → Type 0
    Settled g = IsSettled W t v w.server.next_nonce passed g

    -- without a job nothing is asked
    pub free_settled : (g : File) → g.job ≡ None → Settled g
    free_settled g none repairs settles j runs = absurd (cc (sym none ∙ runs))

    -- the file as it is, or with the same job
    pub here_settled : (g : File) → IsLike g.kept → g.job ≡ f.job → Settled g
    here_settled g like same repairs settles j runs =
        outcome_like g like settles j (sym same ∙ runs) j (λ p ps short q is. same_goes g.kept j.awaited) j.work refl

    -- ---- a component is lost

    lost_owes : (g : Going) → IsLike g.file.kept → (j : Job) → f.job ≡ Some j → (work : Work) → j.work ≡ work →
        AsksIn f.kept j work → PlaceOwes W t v w.server.next_nonce passed (lost_place g.file.kept work) g
    lost_owes g like j runs Creates is asks_ = tt
    lost_owes g like j runs Fences is asks_ = tt
    lost_owes g like j runs (Fetches [] short) is asks_ =
        let repairs = phase_of j runs (Fetches [] short) is in
        (λ p i. absurd i, λ settles. done_like g.file like repairs settles [] (done_in j runs repairs (Fetches [] short) is))
    lost_owes g like j runs (Fetches (p ∷ ps) short) is asks_ =
        let repairs = phase_of j runs (Fetches (p ∷ ps) short) is in (
          subst (λ (y : RawMap). AreInside y (p ∷ ps)) (sym like.map) asks_.1,
          λ settles. done_like g.file like repairs settles (p ∷ ps) (done_in j runs repairs (Fetches (p ∷ ps) short) is),
        )
    lost_owes g like j runs (Stores [] short q) is asks_ =
        let repairs = phase_of j runs (Stores [] short q) is in
        (λ p i. absurd i, λ settles. done_like g.file like repairs settles [] (done_in j runs repairs (Stores [] short q) is))
    lost_owes g like j runs (Stores (p ∷ ps) short q) is asks_ =
        let repairs = phase_of j runs (Stores (p ∷ ps) short q) is in (
          subst (λ (y : RawMap). AreInside y (p ∷ ps)) (sym like.map) asks_.1,
          λ settles. done_like g.file like repairs settles (p ∷ ps) (done_in j runs repairs (Stores (p ∷ ps) short q) is),
        )
    lost_owes g like j runs (Targets y) is asks_ = tt
    lost_owes g like j runs (Gathers y todo) is asks_ = tt
    lost_owes g like j runs (Fills y todo) is asks_ = tt
    lost_owes g like j runs Lengths is asks_ = tt
    lost_owes g like j runs (Checks todo y) is asks_ = tt

    asks_in : (j : Job) → f.job ≡ Some j → (work : Work) → j.work ≡ work → AsksIn f.kept j work
    asks_in j runs work is = subst (AsksIn f.kept j) is (subst (AsksOf f.kept) runs asks)

    pub loses_settled : (g : Going) → IsLike g.file.kept → (j : Job) → f.job ≡ Some j → g.file.job ≡ Some j →
        (rest : List Awaited) → GoesIn g.file.kept j rest → (gone : Bool) → (work : Work) → j.work ≡ work →
        Settled (loses g j work rest gone).file
    loses_settled g like j runs has rest goes gone work is =
        subst (λ (y : Work). Settled (loses g j y rest gone).file) is
        (walk_loses (PlaceOwes W t v w.server.next_nonce passed) (λ g. Settled g.file)
        (owe_cases W t v w.server.next_nonce passed)
        g j j.work rest gone refl (record {
          waits = λ c cs same repairs settles i runs_.
              rested W t v w.server.next_nonce passed (waits_on g j (broken j.work) c cs j.heard).file
              (record { kind = j.kind; work = broken j.work; awaited = c ∷ cs; heard = j.heard }) refl
              (broken_out W t v w.server.next_nonce passed _ _ j.work
              (outcome_like (waits_on g j (broken j.work) c cs j.heard).file like settles j runs
              (record { kind = j.kind; work = broken j.work; awaited = c ∷ cs; heard = j.heard })
              (λ p ps short q is_. subst (Goes g.file.kept j.awaited) same (goes p ps short q is_)) j.work refl)) i runs_;
          stays = here_settled g.file like (has ∙ sym runs);
          on = λ none. lost_owes g like j runs j.work refl (asks_in j runs j.work refl);
        }))

    -- ---- a fence, and what begins anew

    pub fence_settled : (kind : JobKind) (format : ℕ) (g : Going) → Settled (fence_begins kind format g).file
    fence_settled kind format g =
        walk_fence (PlaceOwes W t v w.server.next_nonce passed) (λ g. Settled g.file)
        (owe_cases W t v w.server.next_nonce passed) kind format g tt

    pub making_settled : (g : Going) → Settled (making g).file
    making_settled g =
        walk_making (PlaceOwes W t v w.server.next_nonce passed) (λ g. Settled g.file)
        (owe_cases W t v w.server.next_nonce passed) g tt

    -- ---- a reply

    module _ (g : Going) (same : g.file ≡ f) (above : w.server.next_nonce ≤ g.effects.nonce) (j : Job) (runs : f.job ≡ Some j)
        (now d : ℕ) (r : Reply) (heard : IsHeardByServer w (Hears now (node.Drive d) (Replies r))) (a : Awaited)
        (i : In a j.awaited) (answer : answers d r a ≡ true) where
      like : IsLike g.file.kept
      like = like_kept g.file.kept (ap (λ (y : File). y.kept) same)

      alone : (b c : Awaited) → In b j.awaited → In c j.awaited → b.command.nonce ≡ c.command.nonce → b ≡ c
      alone = alone_in laws w h moment scenario s f there related laid j runs

      abbrev again : Awaited
      again = again_in_2 a g.effects.nonce

      renewed_same : (y : Awaited) → y.command.nonce ≡ a.command.nonce →
          renewed a (again_in_2 a g.effects.nonce) y ≡ again_in_2 a g.effects.nonce
      renewed_same y nonce = rw (eq-eqb y.command.nonce a.command.nonce nonce) refl

      renewed_other : (y : Awaited) → (y.command.nonce ≡ a.command.nonce → ⊥) →
          renewed a (again_in_2 a g.effects.nonce) y ≡ y
      renewed_other y other = rw (ne_eqb y.command.nonce a.command.nonce other) refl

      renews_goes : (k : Kept) → Goes k j.awaited (map (renewed a (again_in_2 a g.effects.nonce)) j.awaited)
      renews_goes k = record {
        became = λ y x. elim (cases_eq y.command.nonce a.command.nonce) [
          | inl nonce ↦
              let it : y ≡ a = alone y a x i nonce in
              Again (again_in_2 a g.effects.nonce)
              (subst (λ (z : Awaited). In z (map (renewed a (again_in_2 a g.effects.nonce)) j.awaited)) (renewed_same y nonce)
              (in_map (renewed a (again_in_2 a g.effects.nonce)) y j.awaited x))
              (ap (λ (z : Awaited). z.component) (sym it)) (ap (λ (z : Awaited). z.command.offset) (sym it))
              (ap (λ (z : Awaited). z.command.payload) (sym it)) above
          | inr other ↦
              Waits (subst (λ (z : Awaited). In z (map (renewed a (again_in_2 a g.effects.nonce)) j.awaited))
              (renewed_other y other) (in_map (renewed a (again_in_2 a g.effects.nonce)) y j.awaited x))
        ];
        from = λ b x.
            let m = in_mapped (renewed a (again_in_2 a g.effects.nonce)) b j.awaited x in
            elim (cases_eq m.0.command.nonce a.command.nonce) [
              | inl nonce ↦
                  let it : b ≡ again_in_2 a g.effects.nonce = m.2 ∙ renewed_same m.0 nonce in (
                    a,
                    i,
                    ap (λ (z : Awaited). z.component) it,
                    ap (λ (z : Awaited). z.command.offset) it,
                    ap (λ (z : Awaited). z.command.payload) it,
                  )
              | inr other ↦
                  let it : b ≡ m.0 = m.2 ∙ renewed_other m.0 other in (
                    m.0,
                    m.1,
                    ap (λ (z : Awaited). z.component) it,
                    ap (λ (z : Awaited). z.command.offset) it,
                    ap (λ (z : Awaited). z.command.payload) it,
                  )
            ];
      }

      renews_settled : Settled (renews g j a).file
      renews_settled repairs settles k runs_ =
          rested W t v w.server.next_nonce passed (renews g j a).file
          (record j { awaited = map (renewed a (again_in_2 a g.effects.nonce)) j.awaited }) refl
          (outcome_like (renews g j a).file
          (record { map = like.map; ended = like.ended; tag = like.tag; places = like.places }) settles j runs
          (record j { awaited = map (renewed a (again_in_2 a g.effects.nonce)) j.awaited })
          (λ p ps short q is. renews_goes (renews g j a).file.kept) j.work refl) k runs_

      -- it is answered
      fewer_from : (b : Awaited) → In b (others j.awaited a.command.nonce) → (c : Awaited) × In c j.awaited ×
          (b.component ≡ c.component) × (b.command.offset ≡ c.command.offset) × (b.command.payload ≡ c.command.payload)
      fewer_from b x = (b, (in_filtered _ b j.awaited x).0, refl, refl, refl)

      sent : IsSent w (Hears now (node.Drive d) (Replies r))
      sent = (heard.0.number, heard.0.posted, heard.0.there, heard.0.receiver, sym heard.2, heard.3)

      answered_goes : (k : Kept) → hearing f.kept a r ≡ Done → GoesIn k j (others j.awaited a.command.nonce)
      answered_goes k done p ps short q is = record {
        became = λ y x. elim (cases_eq y.command.nonce a.command.nonce) [
          | inl nonce ↦
              let it : y ≡ a = alone y a x i nonce in
              Passed (λ at found lost.
              subst (λ (z : Awaited). HasPassed (lane_or_none (object_of w at) SERVER_HOLDER) z.command.nonce) (sym it)
              (has_passed laws w h moment scenario s f there related laid j runs p ps short q is now d r sent a i answer done at
              (ap (λ (z : Awaited). slice_get f.kept.components z.component) (sym it) ∙ found) lost))
          | inr other ↦
              Waits (in_filter _ y j.awaited x (ap not (ne_eqb y.command.nonce a.command.nonce other)))
        ];
        from = fewer_from;
      }

      waits_settled : hearing f.kept a r ≡ Done → (c : Awaited) (cs : List Awaited) →
          others j.awaited a.command.nonce ≡ c ∷ cs → Settled (waits_on g j j.work c cs (heard_with j a r)).file
      waits_settled done c cs rest repairs settles k runs_ =
          rested W t v w.server.next_nonce passed (waits_on g j j.work c cs (heard_with j a r)).file
          (record { kind = j.kind; work = j.work; awaited = c ∷ cs; heard = heard_with j a r }) refl
          (outcome_like (waits_on g j j.work c cs (heard_with j a r)).file like settles j runs
          (record { kind = j.kind; work = j.work; awaited = c ∷ cs; heard = heard_with j a r })
          (λ p ps short q is. subst (Goes g.file.kept j.awaited) rest (answered_goes g.file.kept done p ps short q is)) j.work
          refl) k runs_

      -- nothing is awaited any more
      last_done : hearing f.kept a r ≡ Done → others j.awaited a.command.nonce ≡ [] → (p : Piece) (ps : List Piece)
          (short : List ℕ) (q : Bool) → j.work ≡ Stores (p ∷ ps) short q → Settles t g.file.kept →
          AreDone t g.file ps
      last_done done none p ps short q is settles =
          let repairs = phase_of j runs (Stores (p ∷ ps) short q) is in
          let last : IsLastReply w f p = record {
            job = j;
            runs = runs;
            todo = ps;
            short = short;
            is_broken = q;
            work = is;
            now = now;
            drive = d;
            reply = r;
            sent = sent;
            awaited = a;
            awaits = i;
            answers_it = answer;
            done = done;
            last = none;
          } in
          done_more t g.file p ps
          (done_like g.file like repairs settles (p ∷ ps) (done_in j runs repairs (Stores (p ∷ ps) short q) is))
          (λ x has short_. (
            related.jobs.owe.bytes,
            stands_over s t (cells_of g.file like repairs settles) x related.jobs.owe.bytes
                (last_stands laws w h moment scenario s f there related laid p last x
                (subst (λ (y : RawMap). HasColumn y p x) like.map has)),
          ))

      -- the rows that were heard are those of the piece
      rows_are : hearing f.kept a r ≡ Done → others j.awaited a.command.nonce ≡ [] → (p : Piece) (ps : List Piece)
          (short : List ℕ) → j.work ≡ Fetches (p ∷ ps) short → Settles t g.file.kept →
          RowsAre t g.file.kept p (heard_with j a r)
      rows_are done none p ps short is settles =
          let kept : g.file.kept ≡ f.kept = ap (λ (y : File). y.kept) same in
          let now_ : Settles t f.kept = subst (Settles t) kept settles in
          subst (λ (y : Kept). RowsAre t y p (heard_with j a r)) (sym kept)
          (rows_at laws w h moment scenario s f there related laid asks j runs now d r heard a i answer done none p ps short is t
          (keeps (phase_of j runs (Fetches (p ∷ ps) short) is) now_.tag))

      behind_owes : hearing f.kept a r ≡ Done → others j.awaited a.command.nonce ≡ [] → (work : Work) → j.work ≡ work →
          AsksIn f.kept j work → PlaceOwes W t v w.server.next_nonce passed (place_behind g.file.kept work (heard_with j a r)) g
      behind_owes done none Creates is asks_ = tt
      behind_owes done none Fences is asks_ = tt
      behind_owes done none (Fetches [] short) is asks_ = lost_owes g like j runs (Fetches [] short) is asks_
      behind_owes done none (Fetches (p ∷ ps) short) is asks_ =
          let repairs = phase_of j runs (Fetches (p ∷ ps) short) is in (
            subst (λ (y : RawMap). AreInside y (p ∷ ps)) (sym like.map) asks_.1,
            λ settles. (
              done_like g.file like repairs settles (p ∷ ps) (done_in j runs repairs (Fetches (p ∷ ps) short) is),
              rows_are done none p ps short is settles,
            ),
            above,
          )
      behind_owes done none (Stores [] short q) is asks_ = lost_owes g like j runs (Stores [] short q) is asks_
      behind_owes done none (Stores (p ∷ ps) short true) is asks_ = lost_owes g like j runs (Stores (p ∷ ps) short true) is asks_
      behind_owes done none (Stores (p ∷ ps) short false) is asks_ = (
        subst (λ (y : RawMap). AreInside y ps) (sym like.map) (λ x k. asks_.1 x (inr k)),
        λ settles. last_done done none p ps short false is settles,
      )
      behind_owes done none (Targets y) is asks_ = tt
      behind_owes done none (Gathers y []) is asks_ = tt
      behind_owes done none (Gathers y (p ∷ ps)) is asks_ = tt
      behind_owes done none (Fills y []) is asks_ = tt
      behind_owes done none (Fills y (p ∷ ps)) is asks_ = tt
      behind_owes done none Lengths is asks_ = tt
      behind_owes done none (Checks [] y) is asks_ = tt
      behind_owes done none (Checks (p ∷ ps) y) is asks_ = tt

      -- a component lacks space
      abbrev lacks : Going
      lacks = noting (with_components g (lose_from (a.component ∷ []) g.file.kept.components 0)) (NoSpace a.component)

      lacks_like : IsLike (noting (with_components g (lose_from (a.component ∷ []) g.file.kept.components 0))
          (NoSpace a.component)).file.kept
      lacks_like = record {
        map = like.map;
        ended = like.ended;
        tag = like.tag;
        places = keep_then f.kept.components g.file.kept.components (lose_from (a.component ∷ []) g.file.kept.components 0)
            like.places (keep_from (a.component ∷ []) g.file.kept.components 0);
      }

      lacks_goes : GoesIn (noting (with_components g (lose_from (a.component ∷ []) g.file.kept.components 0))
          (NoSpace a.component)).file.kept j (others j.awaited a.command.nonce)
      lacks_goes p ps short q is = record {
        became = λ y x. elim (cases_eq y.command.nonce a.command.nonce) [
          | inl nonce ↦
              let place : a.component ≡ y.component =
              ap (λ (z : Awaited). z.component) (sym (alone y a x i nonce)) in
              Lost (λ at found.
              lost_at (a.component ∷ []) g.file.kept.components 0 y.component at
              (subst (λ (m : ℕ). among m (a.component ∷ []) ≡ true) (place ∙ omega arith) (among_one a.component)) found)
          | inr other ↦
              Waits (in_filter _ y j.awaited x (ap not (ne_eqb y.command.nonce a.command.nonce other)))
        ];
        from = fewer_from;
      }

      fills_settled : (work : Work) → j.work ≡ work → Settled (fills_up g j a work).file
      fills_settled (Targets y) is =
          walk_full (PlaceOwes W t v w.server.next_nonce passed) (λ g. Settled g.file)
          (owe_cases W t v w.server.next_nonce passed)
          y [] g tt
      fills_settled (Gathers y todo) is =
          walk_full (PlaceOwes W t v w.server.next_nonce passed) (λ g. Settled g.file)
          (owe_cases W t v w.server.next_nonce passed)
          y todo g tt
      fills_settled (Fills y todo) is =
          walk_full (PlaceOwes W t v w.server.next_nonce passed) (λ g. Settled g.file)
          (owe_cases W t v w.server.next_nonce passed)
          y todo g tt
      fills_settled work is =
          loses_settled lacks lacks_like j runs (ap (λ (y : File). y.job) same ∙ runs) (others j.awaited a.command.nonce)
          lacks_goes false work is

      pub hears_settled : (x : Hearing) → hearing f.kept a r ≡ x → Settled (hears g j a r x).file
      hears_settled Older is = renews_settled
      hears_settled Full is = fills_settled j.work refl
      hears_settled Done is =
          walk_waits (PlaceOwes W t v w.server.next_nonce passed) (λ g. Settled g.file)
          (owe_cases W t v w.server.next_nonce passed)
          g j j.work (others j.awaited a.command.nonce) (heard_with j a r) (waits_settled is)
          (λ none. behind_owes is none j.work refl (asks_in j runs j.work refl))
      hears_settled Nothing is = here_settled g.file like (ap (λ (y : File). y.job) same)
