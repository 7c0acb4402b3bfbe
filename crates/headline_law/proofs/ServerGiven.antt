-- What a calm history gives where the server goes on: what is known of the file, of its job, and of what comes.
use Rattle.std.proofs.Common.{◌≡◌, ◌<◌, ◌+◌, ℕ, Bool, true, false, take, List, [], ◌∷◌, length, Option, Some, refl, sym, ap, subst, ◌∙◌, inl, inr, arith}
use Rattle.osd_lists.proofs.Slices.{some_at}
use Rattle.osd_lists.specs.declared.node.Node.TheVariants as node
use Rattle.osd_commands.specs.declared.replies.Reply.{Reply}
use Rattle.scenario_text.specs.declared.line.Line.{Line}
use Rattle.server_rules.specs.History.{Hears, Obeys}
use Rattle.server_rules.specs.Laws.{In, NoneBeside}
use Rattle.server_rules.specs.Messages.{Replies}
use Rattle.server_rules.specs.Replies.{answers, heard_with}
use Rattle.world_history.specs.ServerNames.{File, Still, Piece, Target, Job, Work, Creates, Fences, Fetches, Stores, Targets, Gathers, Fills, Lengths, Checks, Awaited, ToDeclare}
use Rattle.world_history.specs.State.{World}
use Rattle.world_history.specs.Sending.{Move}
use Rattle.history_law.specs.Moments.{lines_in}
use Rattle.history_law.specs.Doing.{input_in}
use Rattle.history_law.specs.Grants.{GrantsAreSafe}
use Rattle.history_law.specs.Said.{IsHeardByServer}
use Rattle.history_law.specs.Unforged.{AreUnforged, UnguessedAreUnforged}
use Rattle.history_law.proofs.Coming.{clean_front}
use Rattle.history_law.proofs.Files.{in_at, safe_in}
use Rattle.history_law.proofs.Hearing.{found_in}
use Rattle.exchange_law.specs.Files.{AllFilesFit}
use Rattle.exchange_law.proofs.CountMoments.{reached}
use Rattle.exchange_law.proofs.Knowing.{lawful_at}
use Rattle.component_law.specs.KeptWalk.{WorkFits}
use Rattle.component_law.specs.Sound.{EachStepIsSound, IsAimed, IsAim}
use Rattle.component_law.specs.Moments.{ServerWritesToOthers}
use Rattle.component_law.proofs.NamedLines.{are_named}
use Rattle.component_law.proofs.Rounds.{each_at}
use Rattle.component_law.specs.Objects.{target_of, target_in}
use Rattle.fence_law.specs.State.{State, Layout}
use Rattle.fence_law.specs.Law.{IsCode}
use Rattle.fence_law.specs.Machine.{after_all}
use Rattle.fence_law.specs.Columns.{HaveNextTag}
use Rattle.fence_law.specs.Words.{In as InRun}
use Rattle.fence_law.proofs.Safe.{Safe}
use Rattle.plan_law.proofs.Codes.{layouts_are_codes}
use Rattle.file_simulation.specs.Claim.{IsOfScenario}
use Rattle.file_simulation.specs.Jobs.{IsFilling, DoneIn, TargetIn, IsTarget, JobIs}
use Rattle.file_simulation.specs.ServerEvents.{declared_from}
use Rattle.file_simulation.proofs.Fronts.{scenario_before}
use Rattle.relation_law.specs.Awaiting.{FitsIn}
use Rattle.relation_law.specs.DriveHearing.{IsLaidOut}
use Rattle.relation_law.specs.Steps.{Follows}
use Rattle.relation_law.proofs.ComponentsFair.{is_fair}
use Rattle.relation_law.proofs.ComponentsNotes.{lacking_at}
use Rattle.relation_law.proofs.ComponentsMoved.{sound_there}
use Rattle.relation_law.proofs.ComponentsWorld.{laid_out}
use Rattle.relation_law.proofs.FramesFiles.{files_distinct}
use Rattle.relation_law.proofs.KeptGoing.{kept_at, safe_of}
use Rattle.relation_law.proofs.KeptServer.{IsReady}
use Rattle.relation_law.proofs.KeptSources.{target_sources}
use Rattle.relation_law.proofs.OwnedBefore.{run, work_fits, fits_in}
use Rattle.relation_law.proofs.RequestsHeard.{heard_in}
use Rattle.relation_law.proofs.Walk.{place_behind}
use Rattle.headline_law.specs.OweAsking.{AsksIn, AsksOf}
use Rattle.headline_law.specs.ServerEnds.{HearsLast, IsSourced}
use Rattle.headline_law.specs.TargetLaws.{IsWellAsked, IsWellMade, EachTargetIsWellAsked, EachTargetIsWellMade}
use Rattle.headline_law.proofs.ServerDeclares.{IsLeft, declared_left}
use Rattle.headline_law.proofs.ServerFenced.{FencedLaws, last_told, loses_told}
use Rattle.headline_law.proofs.OweAskedRun.{repairs_ask_all}
use Rattle.headline_law.proofs.ServerHears.{done_core}
use Rattle.headline_law.proofs.ServerLast.{fetched, stored, gathered}
use Rattle.headline_law.proofs.ServerOwn.{StandsSo}
use Rattle.headline_law.proofs.ServerPlaces.{CanFill, EndsSourced, JobStands, Knows}
use Rattle.headline_law.proofs.ServerSteps.{HearsSo, DeclaresSo}

-- what is known of histories
pub record GivenLaws : Type 0 where
  pub fenced : FencedLaws
  pub unforged : UnguessedAreUnforged
  pub fits : AllFilesFit
  pub safe : GrantsAreSafe
  pub sound : EachStepIsSound
  pub others : ServerWritesToOthers
  pub well : EachTargetIsWellMade
  pub asked : EachTargetIsWellAsked

-- what a first line of declarations leaves
have_left : (s t : State) → IsLeft s t → HaveNextTag s → HaveNextTag t
have_left s t left have n low = elim (have n (subst (λ (y : Layout). n < y.components) left.layout low)) [
  | inl gone ↦ inl (ap (λ (q : ℕ → Bool). q n) left.lost ∙ gone)
  | inr told ↦
      inr (subst (InRun (n, t.tag + 1)) (sym left.replies)
      (subst (λ (x : ℕ). InRun (n, x + 1) s.tag_replies) (sym left.tag) told))
]

module _ (laws : GivenLaws) (w : World) (h : List Line) (m : Move) (count : ℕ) (f g : File) (s : State)
    (k : Follows w h m count f g s) where
  pub scenario : IsOfScenario h
  scenario = scenario_before h (take count (lines_in w m)) k.calm.scenario

  unforged : AreUnforged h
  unforged = laws.unforged h (lawful_at w h k.moment) (clean_front h (take count (lines_in w m)) k.calm.is_unguessed)

  asked : IsWellAsked w f
  asked = laws.asked w h k.moment scenario f (in_at w.server.files f.kept.number f k.there)

  well : IsWellMade w f
  well =
      laws.well w h k.moment scenario (clean_front h (take count (lines_in w m)) k.calm.is_unguessed) f
      (in_at w.server.files f.kept.number f k.there)

  in_files : In f w.server.files
  in_files = in_at w.server.files f.kept.number f k.there

  pub laid : IsLaidOut f
  laid = laid_out w h k.moment (laws.fits w h k.moment scenario.text) (run laws.fenced.owned w h k.moment scenario) f k.there

  pub many : length f.kept.components ≡ s.layout.components
  many = laid.components ∙ sym (ap (λ (y : Layout). y.components) k.related.layout)

  safe : Safe s
  safe =
      safe_of s k.run
      (subst IsCode (sym k.related.layout) (layouts_are_codes f.kept.map f.kept.first_tag laid.checked))

  -- the machine and the file
  pub stands_so : StandsSo w.server.next_grant s w f
  stands_so = record {
    safe = safe;
    laid = record { checked = laid.checked; layout = k.related.layout; many = laid.components };
    many = many;
    kept = kept_at s w.server f k.related.kept k.related.low;
    parts = k.related.components;
  }

  pub is_ready : IsReady w f
  is_ready = record { there = k.there; apart = files_distinct w (reached w h k.moment) }

  -- ---- its job

  module _ (j : Job) (runs : f.job ≡ Some j) where
    fit : WorkFits f.kept.phase j.work
    fit = work_fits laws.fenced.owned w h k.moment scenario f in_files j runs

    job_is : JobIs s w f (Some j)
    job_is = subst (JobIs s w f) runs k.related.jobs.job

    none_live : f.kept.grants ≡ []
    none_live =
        subst (λ (o : Option Job). NoneBeside o f.kept.grants) runs
        (safe_in w.server.files (laws.safe w (reached w h k.moment)) f in_files).alone

    aims : (x : Target) → target_in j.work ≡ Some x → CanFill f x
    aims x is =
        let aim : IsAim f.kept.components (Some x) =
        subst (IsAim f.kept.components) (ap target_of runs ∙ is)
        (each_at IsAimed w.server.files f.kept.number f
        (sound_there laws.sound w (run laws.fenced.owned w h k.moment scenario)).aimed k.there) in
        let at = some_at f.kept.components x.component
        (let low = well.inside x (ap target_of runs ∙ is) in omega (arith, low, laid.components)) in
        record {
          still = still j.work is fit;
          busy = λ none. cc (sym runs ∙ none);
          alone = none_live;
          component = at.0;
          there = at.1;
          missing = lacking_at f.kept.components x.component at.0 aim.0 at.1;
        }
      where
        still : (work : Work) → target_in work ≡ Some x → WorkFits f.kept.phase work → f.kept.phase ≡ Still
        still (Targets t) e p = p
        still (Gathers t todo) e p = p
        still (Fills t todo) e p = p
        still Creates e p = absurd (cc e)
        still Fences e p = absurd (cc e)
        still (Fetches todo short) e p = absurd (cc e)
        still (Stores todo short b) e p = absurd (cc e)
        still Lengths e p = absurd (cc e)
        still (Checks todo tally) e p = absurd (cc e)

    done_by : (work : Work) → j.work ≡ work → WorkFits f.kept.phase work → DoneIn s f work
    done_by (Fetches todo short) is p = subst (DoneIn s f) is (job_is.done p)
    done_by (Stores todo short b) is p = subst (DoneIn s f) is (job_is.done p)
    done_by Creates is p = tt
    done_by Fences is p = tt
    done_by (Targets x) is p = tt
    done_by (Gathers x todo) is p = tt
    done_by (Fills x todo) is p = tt
    done_by Lengths is p = tt
    done_by (Checks todo tally) is p = tt

    -- a target without a piece to do has its sources
    sourced : (x : Target) (todo : List Piece) → target_in j.work ≡ Some x → IsTarget s w f x todo → todo ≡ []
        → IsSourced s f x
    sourced x todo is target none =
        target_sources s w f x laid.checked
        (well.inside x (ap target_of runs ∙ is))
        (subst (IsTarget s w f x) none target)

    ends_by : (work : Work) → j.work ≡ work → EndsSourced s f work
    ends_by (Targets x) is = sourced x _ (ap target_in is) (subst (TargetIn s w f) is job_is.target)
    ends_by (Gathers x todo) is = sourced x todo (ap target_in is) (subst (TargetIn s w f) is job_is.target)
    ends_by (Fills x todo) is =
        let filling : IsFilling s w f x todo = subst (TargetIn s w f) is job_is.target in
        sourced x todo (ap target_in is) filling.target
    ends_by Creates is = tt
    ends_by Fences is = tt
    ends_by (Fetches todo short) is = tt
    ends_by (Stores todo short b) is = tt
    ends_by Lengths is = tt
    ends_by (Checks todo tally) is = tt

    pub job_stands : JobStands s f j
    job_stands = record {
      runs = runs;
      fits = fit;
      fill = aims;
      done = done_by j.work refl fit;
      ends = ends_by j.work refl;
    }

    -- ---- the last reply

    awaits : (a : Awaited) (r : Reply) → (last : HearsLast w m f j a r) → In a j.awaited × (answers last.drive r a ≡ true)
    awaits a r last = found_in (answers last.drive r) j.awaited a last.found

    heard : (a : Awaited) (r : Reply) → (last : HearsLast w m f j a r)
        → IsHeardByServer w (Hears last.now (node.Drive last.drive) (Replies r))
    heard a r last = heard_in w m.action (Hears last.now (node.Drive last.drive) (Replies r)) last.comes

    last_by : (a : Awaited) (r : Reply) → HearsLast w m f j a r → (work : Work) → j.work ≡ work
        → Knows s f (place_behind f.kept work (heard_with j a r))
    last_by a r last Creates is = tt
    last_by a r last Fences is =
        let at = awaits a r last in
        let sent = heard a r last in
        last_told laws.fenced w h k.moment scenario unforged s f k.there k.related.components safe.tags k.related.kept.tag many
        j runs is last.now last.drive r
        (sent.0.number, sent.0.posted, sent.0.there, sent.0.receiver, sym sent.2, sent.3) a at.0 at.1 last.done last.last
    last_by a r last (Fetches [] short) is =
        done_core s f [] (done_by (Fetches [] short) is (subst (WorkFits f.kept.phase) is fit))
    last_by a r last (Fetches (p ∷ ps) short) is = (
      done_core s f (p ∷ ps) (done_by (Fetches (p ∷ ps) short) is (subst (WorkFits f.kept.phase) is fit)),
      λ nonce none.
          done_core s f ps
          (fetched laws.fenced.owned w h k.moment scenario s f k.there k.related laid j runs last.now last.drive r
          (heard a r last) a (awaits a r last).0 (awaits a r last).1 last.done last.last p ps short
          (done_by (Fetches (p ∷ ps) short) is (subst (WorkFits f.kept.phase) is fit)) is
          (subst (AsksIn f.kept j) is
          (subst (AsksOf f.kept) runs
          (repairs_ask_all laws.fenced.owned.more w h k.moment (are_named h scenario.written) f in_files))) nonce none),
    )
    last_by a r last (Stores [] short b) is =
        done_core s f [] (done_by (Stores [] short b) is (subst (WorkFits f.kept.phase) is fit))
    last_by a r last (Stores (p ∷ ps) short true) is =
        done_core s f (p ∷ ps) (done_by (Stores (p ∷ ps) short true) is (subst (WorkFits f.kept.phase) is fit))
    last_by a r last (Stores (p ∷ ps) short false) is =
        done_core s f ps
        (stored laws.fenced.owned w h k.moment scenario s f k.there k.related laid j runs last.now last.drive r (heard a r last) a
        (awaits a r last).0 (awaits a r last).1 last.done last.last p ps short
        (done_by (Stores (p ∷ ps) short false) is (subst (WorkFits f.kept.phase) is fit)) false is)
    last_by a r last (Targets x) is = ends_by (Targets x) is
    last_by a r last (Gathers x []) is = ends_by (Gathers x []) is
    last_by a r last (Gathers x (p ∷ ps)) is = λ none.
        gathered laws.fenced.owned w h k.moment scenario s f k.there k.related laid j runs last.now last.drive r (heard a r last)
        a (awaits a r last).0 (awaits a r last).1 last.done last.last x p ps is
        (well.inside x (ap target_of runs ∙ ap target_in is)) (asked.asked j x p ps runs is)
    last_by a r last (Fills x []) is = ends_by (Fills x []) is
    last_by a r last (Fills x (p ∷ ps)) is = λ none z low.
        let sources = (subst (TargetIn s w f) is job_is.target).sources in (sources.out, sources.each z)
    last_by a r last Lengths is = tt
    last_by a r last (Checks [] tally) is = tt
    last_by a r last (Checks (p ∷ ps) tally) is = tt

  -- what is so of a reply that comes
  pub hears_so : (now drive : ℕ) (r : Reply) → input_in w m.action ≡ Some (Hears now (node.Drive drive) (Replies r))
      → HearsSo s f drive r
  hears_so now drive r comes j a runs found = (
    (subst (FitsIn f.kept) runs (fits_in laws.fenced.owned w h k.moment scenario f in_files)).asked a
        (found_in (answers drive r) j.awaited a found).0,
    λ done last. last_by j runs a r (record {
      now = now;
      drive = drive;
      comes = comes;
      runs = runs;
      found = found;
      done = done;
      last = last;
    }) j.work refl,
  )

  -- what is so of a drive that is declared
  pub declares_so : (drive : ℕ) → input_in w m.action ≡ Some (Obeys ToDeclare drive)
      → DeclaresSo w.server.next_grant s w f m.chosen stands_so is_ready job_stands drive
  declares_so drive comes =
      let fair = is_fair laws.fenced.owned.more laws.others w h k.moment m k.is_due f (Obeys ToDeclare drive) comes in
      record {
        failed = fair.0;
        knows = λ j runs work none.
            have_left s (after_all s (declared_from drive f.kept.components 0)) (declared_left s drive f.kept.components 0)
            (loses_told laws.fenced w h k.moment scenario unforged s f k.there k.related.components safe.tags
            k.related.kept.tag many j runs work drive fair.0 none);
      }
