-- What lasts through each part of a job lasts through the job's functions, one by one.
-- Towards `KeptGoesOn` (`specs/Steps.antt`).
use Rattle.std.proofs.Common.{◌≡◌, ◌||◌, ℕ, ◌+◌, Bool, true, false, nat_lt, List, [], ◌∷◌, length, slice_set, Option, Some, None, refl, subst, if◌then◌else◌}
use Rattle.std.proofs.lemmas.Bool.{true≢false}
use Rattle.component_law.specs.Tagged.{is_fence}
use Rattle.server_rules.specs.Audit.{audits, audit_begins}
use Rattle.server_rules.specs.Going.{Going, over, keeping, noting, noting_if, with_components, rests_or}
use Rattle.server_rules.specs.Grants.{merged, count_stripes}
use Rattle.server_rules.specs.Jobs.{making, fencing, ending, fenced, fence_begins, fetched, written, gathered, filled_in, audited_on, goes_on, waits_or_on, refills, remakes, loses, declared_in, targets, declares}
use Rattle.server_rules.specs.Openings.{opens_made}
use Rattle.server_rules.specs.Rebuild.{makes_or, rebuilds, stands_at, fills, filling, target_gone, target_full, target_for}
use Rattle.server_rules.specs.Repair.{after_repair, mended, repairs, storing, stored, repair_begins}
use Rattle.server_rules.specs.Replies.{renews, fills_up, hears, Hearing, Older, Full, Done, Nothing, others}
use Rattle.server_rules.specs.Standing.{lose_from, lose_on, any_on}
use Rattle.server_rules.specs.Columns.{end_of}
use Rattle.std.specs.Prelude.{replicate}
use Rattle.world_history.specs.ServerNames.{Kept, Phase, Still, Fencing, Repairing, FencingAgain, Note, NoteKind, Ready, Fenced, NoDrive, NoSpace, Rebuilt, Job, JobKind, Making, Revoking, Rebuilding, Auditing, Work, Creates, Fences, Fetches, Stores, Targets, Gathers, Fills, Lengths, Checks, Awaited, Heard, Piece, Target, Tally, Component, Reply}
use Rattle.component_law.specs.KeptWalk.{AreAlike, WorkFits, JobFits, FileFits, is_plain, IsWalked}

-- a file with other components is alike
pub same_but_components : (k : Kept) (cs : List Component) → AreAlike k (record k { components = cs })
same_but_components k cs = record {
  number = refl;
  map = refl;
  first_tag = refl;
  tag = refl;
  size = refl;
  high = refl;
  phase = refl;
  grants = refl;
  ended = refl;
  ready = λ e. e;
}

module _ (Q : Bool → Kept → List Note → Type 0) (w : (spent : Bool) → IsWalked (Q spent)) where
  -- in the middle of a step
  abbrev pub OwnBy : Going → Type 0
  OwnBy g = Q g.file.spent g.file.kept g.effects.notes

  -- while the file is in this phase
  abbrev pub AtBy : Phase → Going → Type 0
  AtBy p g = (g.file.kept.phase ≡ p) × OwnBy g

  -- behind it
  abbrev pub EndBy : Going → Type 0
  EndBy g = OwnBy g × FileFits g.file

  parts : (g : Going) (cs : List Component) → OwnBy g → OwnBy (with_components g cs)
  parts g cs h =
      (w g.file.spent).alike g.file.kept (record g.file.kept { components = cs }) g.effects.notes
      (same_but_components g.file.kept cs) h

  notes : (g : Going) (kind : NoteKind) → is_plain kind ≡ true → OwnBy g → OwnBy (noting g kind)
  notes g kind p h = (w g.file.spent).plain g.file.kept g.effects.notes kind p h

  notes_if : (b : Bool) (g : Going) (kind : NoteKind) → is_plain kind ≡ true → OwnBy g → OwnBy (noting_if b g kind)
  notes_if true g kind p h = notes g kind p h
  notes_if false g kind p h = h

  -- no job runs any more
  ended : (g : Going) → AtBy Still g → EndBy (over g)
  ended g h = (h.1, λ e. h.0)

  either_going : (b : Bool) (x y : Going) → EndBy x → EndBy y → EndBy (if b then x else y)
  either_going true x y p q = p
  either_going false x y p q = q

  -- ---- the job rests, or goes on

  ends_rests_or : (cs : List Awaited) (g : Going) (kind : JobKind) (work : Work) (later : Going) → OwnBy g
      → WorkFits g.file.kept.phase work → EndBy later → EndBy (rests_or cs g kind work later)
  ends_rests_or [] g kind work later h fits l = l
  ends_rests_or (c ∷ cs) g kind work later h fits l = (h, fits)

  -- ---- audit

  ends_audits : (g : Going) (ps : List Piece) (t : Tally) → AtBy Still g → EndBy (audits g ps t)
  unfolding audits
  ends_audits g [] t h = ended (noting g _) (h.0, notes g _ refl h.1)
  ends_audits g (p ∷ ps) t h = ends_rests_or _ g _ _ _ h.1 h.0 (ends_audits g ps _ h)

  ends_audit : (g : Going) → AtBy Still g → EndBy (audit_begins g)
  unfolding audit_begins
  ends_audit g h = ends_rests_or _ g _ _ _ h.1 h.0 (ends_audits g _ _ h)

  -- ---- rebuild

  ends_makes_or : (g : Going) (o : Option Target) (later : Going) → AtBy Still g → EndBy later → EndBy (makes_or g o later)
  ends_makes_or g None later h l = l
  ends_makes_or g (Some t) later h l = (h.1, h.0)

  ends_rebuilds : (g : Going) (cs : List Component) (k : ℕ) → AtBy Still g → EndBy (rebuilds g cs k)
  unfolding rebuilds
  ends_rebuilds g [] k h = ended g h
  ends_rebuilds g (at ∷ cs) k h =
      ends_makes_or g (target_for g at k) _ h
      (ends_rebuilds (noting_if at.missing g (NoDrive k)) cs (k + 1) (h.0, notes_if at.missing g (NoDrive k) refl h.1))

  ends_fills : (g : Going) (t : Target) (ps : List Piece) → AtBy Still g → EndBy (fills g t ps)
  unfolding fills
  ends_fills g t [] h =
      let cs : List Component = slice_set g.file.kept.components t.component (stands_at t) in
      ends_rebuilds (noting (with_components g cs) (Rebuilt t.component t.drive)) _ _
      (h.0, notes (with_components g cs) (Rebuilt t.component t.drive) refl (parts g cs h.1))
  ends_fills g t (p ∷ ps) h =
      ends_rests_or _ g _ _ _ h.1 h.0 (ends_rebuilds (noting g _) _ _ (h.0, notes g _ refl h.1))

  ends_filling : (g : Going) (t : Target) (p : Piece) (ps : List Piece) (bytes : List ℕ) → AtBy Still g
      → EndBy (filling g t p ps bytes)
  unfolding filling
  ends_filling g t p ps bytes h =
      either_going (nat_lt 0 (end_of bytes (replicate p.count 0))) _ _ (h.1, h.0) (ends_fills g t ps h)

  ends_gone : (g : Going) (t : Target) → AtBy Still g → EndBy (target_gone g t)
  ends_gone g t h = ends_rebuilds (noting g (NoDrive t.component)) _ _ (h.0, notes g (NoDrive t.component) refl h.1)

  ends_full : (g : Going) (t : Target) → AtBy Still g → EndBy (target_full g t)
  ends_full g t h = ends_rebuilds (noting g (NoSpace t.component)) _ _ (h.0, notes g (NoSpace t.component) refl h.1)

  -- ---- repair

  ends_after : (kind : JobKind) (g : Going) → AtBy Still g → EndBy (after_repair kind g)
  ends_after Making g h = ended g h
  ends_after Revoking g h = ended g h
  ends_after Rebuilding g h = ends_rebuilds g g.file.kept.components 0 h
  ends_after Auditing g h = ends_audit g h

  ends_repairs : (kind : JobKind) (g : Going) (ps : List Piece) (short : List ℕ) → AtBy Repairing g
      → EndBy (repairs kind g ps short)
  unfolding repairs
  ends_repairs kind g [] short h =
      ends_after kind (mended g short) (
        refl,
        (w g.file.spent).mended g.file.kept g.effects.notes
            (count_stripes (merged g.file.kept.ended)) (length short) h.0 h.1,
      )
  ends_repairs kind g (p ∷ ps) short h = ends_rests_or _ g _ _ _ h.1 h.0 (ends_repairs kind g ps _ h)

  ends_storing : (kind : JobKind) (g : Going) (p : Piece) (ps : List Piece) (short : List ℕ) (heard : List Heard)
      → AtBy Repairing g → EndBy (storing kind g p ps short heard)
  unfolding storing
  ends_storing kind g p ps short heard h = ends_rests_or _ g _ _ _ h.1 h.0 (ends_repairs kind g ps short h)

  ends_stored : (kind : JobKind) (g : Going) (p : Piece) (ps : List Piece) (short : List ℕ) (broken : Bool)
      → AtBy Repairing g → EndBy (stored kind g p ps short broken)
  ends_stored kind g p ps short true h = ends_repairs kind g (p ∷ ps) short h
  ends_stored kind g p ps short false h = ends_repairs kind g ps short h

  -- ---- the fence and the job

  made : (g : Going) → AtBy Still g → EndBy (over (noting (keeping g (record g.file.kept { ready = true })) Ready))
  made g h =
      let k : Going = keeping g (record g.file.kept { ready = true }) in
      ended (noting k Ready) (
        h.0,
        notes k Ready refl ((w g.file.spent).alike g.file.kept (record g.file.kept { ready = true }) g.effects.notes
            (record {
              number = refl;
              map = refl;
              first_tag = refl;
              tag = refl;
              size = refl;
              high = refl;
              phase = refl;
              grants = refl;
              ended = refl;
              ready = λ e. absurd (true≢false e);
            }) h.1),
      )

  pub making_by : (g : Going) → AtBy Still g → EndBy (making g)
  unfolding making
  making_by g h = ends_rests_or _ g _ _ _ h.1 h.0 (made g h)

  ends_fenced : (kind : JobKind) (g : Going) → is_fence g.file.kept.phase ≡ true → OwnBy g → EndBy (fenced kind g)
  unfolding fenced repair_begins
  ends_fenced kind g wide h =
      ends_repairs kind
      (noting (keeping g (record g.file.kept { tag = g.file.kept.tag + 1; phase = Repairing })) (Fenced (g.file.kept.tag + 1)))
      _ [] (refl, (w g.file.spent).fenced g.file.kept g.effects.notes wide h)

  pub opened : (p : Phase) → is_fence (fencing p) ≡ true
  opened Still = refl
  opened Fencing = refl
  opened Repairing = refl
  opened FencingAgain = refl

  -- Where the fence begins all grants are ended already.
  pub fence_by : (kind : JobKind) (format : ℕ) (g : Going) → Q g.file.spent (ending g.file.kept format) g.effects.notes
      → EndBy (fence_begins kind format g)
  unfolding fence_begins
  fence_by kind format g h =
      let k : Going = keeping g (ending g.file.kept format) in
      ends_rests_or _ k _ _ _ h (opened g.file.kept.phase) (ends_fenced kind k (opened g.file.kept.phase) h)

  ends_fetched : (kind : JobKind) (g : Going) (ps : List Piece) (short : List ℕ) (heard : List Heard) → AtBy Repairing g
      → EndBy (fetched kind g ps short heard)
  ends_fetched kind g [] short heard h = ends_repairs kind g [] short h
  ends_fetched kind g (p ∷ ps) short heard h = ends_storing kind g p ps short heard h

  ends_written : (kind : JobKind) (g : Going) (ps : List Piece) (short : List ℕ) (broken : Bool) → AtBy Repairing g
      → EndBy (written kind g ps short broken)
  ends_written kind g [] short broken h = ends_repairs kind g [] short h
  ends_written kind g (p ∷ ps) short broken h = ends_stored kind g p ps short broken h

  ends_gathered : (g : Going) (t : Target) (ps : List Piece) (heard : List Heard) → AtBy Still g
      → EndBy (gathered g t ps heard)
  ends_gathered g t [] heard h = ends_fills g t [] h
  ends_gathered g t (p ∷ ps) heard h = ends_filling g t p ps _ h

  ends_filled : (g : Going) (t : Target) (ps : List Piece) → AtBy Still g → EndBy (filled_in g t ps)
  ends_filled g t [] h = ends_fills g t [] h
  ends_filled g t (p ∷ ps) h = ends_fills g t ps h

  ends_checked : (g : Going) (ps : List Piece) (t : Tally) (heard : List Heard) → AtBy Still g
      → EndBy (audited_on g ps t heard)
  ends_checked g [] t heard h = ends_audits g [] t h
  ends_checked g (p ∷ ps) t heard h = ends_audits g ps _ h

  ends_on : (kind : JobKind) (work : Work) (heard : List Heard) (g : Going) → OwnBy g
      → WorkFits g.file.kept.phase work → EndBy (goes_on kind work heard g)
  unfolding goes_on
  ends_on kind Creates heard g h p = made g (p, h)
  ends_on kind Fences heard g h p = ends_fenced kind g p h
  ends_on kind (Fetches ps short) heard g h p = ends_fetched kind g ps short heard (p, h)
  ends_on kind (Stores ps short broken) heard g h p = ends_written kind g ps short broken (p, h)
  ends_on kind (Targets t) heard g h p = ends_fills g t _ (p, h)
  ends_on kind (Gathers t ps) heard g h p = ends_gathered g t ps heard (p, h)
  ends_on kind (Fills t ps) heard g h p = ends_filled g t ps (p, h)
  ends_on kind Lengths heard g h p = ends_audits g _ _ (p, h)
  ends_on kind (Checks ps t) heard g h p = ends_checked g ps t heard (p, h)

  ends_waits : (g : Going) (j : Job) (work : Work) (rest : List Awaited) (heard : List Heard) → OwnBy g
      → WorkFits g.file.kept.phase work → EndBy (waits_or_on g j work rest heard)
  ends_waits g j work [] heard h p = ends_on j.kind work heard g h p
  ends_waits g j work (c ∷ cs) heard h p = (h, p)

  -- ---- a component is lost meanwhile

  ends_refills : (g : Going) (t : Target) (ps : List Piece) (gone : Bool) → AtBy Still g → EndBy (refills g t ps gone)
  ends_refills g t ps true h = ends_gone g t h
  ends_refills g t ps false h = ends_fills g t ps h

  ends_remakes : (g : Going) (t : Target) (gone : Bool) → AtBy Still g → FileFits g.file → EndBy (remakes g t gone)
  ends_remakes g t true h f = ends_gone g t h
  ends_remakes g t false h f = (h.1, f)

  ends_loses : (g : Going) (j : Job) (work : Work) (rest : List Awaited) (gone : Bool) → EndBy g
      → WorkFits g.file.kept.phase work → EndBy (loses g j work rest gone)
  unfolding loses
  ends_loses g j (Fetches ps short) rest gone h p = ends_repairs j.kind g ps short (p, h.0)
  ends_loses g j (Stores ps short broken) rest gone h p = ends_waits g j (Stores ps short true) rest j.heard h.0 p
  ends_loses g j (Targets t) rest gone h p = ends_remakes g t gone (p, h.0) h.1
  ends_loses g j (Gathers t ps) rest gone h p = ends_refills g t ps gone (p, h.0)
  ends_loses g j (Fills t ps) rest gone h p = ends_refills g t ps gone (p, h.0)
  ends_loses g j (Checks ps t) rest gone h p = ends_audits g ps t (p, h.0)
  ends_loses g j Creates rest gone h p = ends_waits g j Creates rest j.heard h.0 p
  ends_loses g j Fences rest gone h p = ends_waits g j Fences rest j.heard h.0 p
  ends_loses g j Lengths rest gone h p = ends_waits g j Lengths rest j.heard h.0 p

  -- ---- a reply

  work_of : (g : Going) (j : Job) → g.file.job ≡ Some j → FileFits g.file → WorkFits g.file.kept.phase j.work
  work_of g j is f = subst (JobFits g.file.spent g.file.kept.phase) is f

  ends_lost : (g : Going) (j : Job) (a : Awaited) (work : Work) → EndBy g → WorkFits g.file.kept.phase work
      → EndBy (loses (noting (with_components g (lose_from (a.component ∷ []) g.file.kept.components 0))
      (NoSpace a.component)) j work (others j.awaited a.command.nonce) false)
  ends_lost g j a work h p =
      let cs : List Component = lose_from (a.component ∷ []) g.file.kept.components 0 in
      ends_loses (noting (with_components g cs) (NoSpace a.component)) j work _ false
      (notes (with_components g cs) (NoSpace a.component) refl (parts g cs h.0), h.1) p

  ends_fills_up : (g : Going) (j : Job) (a : Awaited) (work : Work) → EndBy g → WorkFits g.file.kept.phase work
      → EndBy (fills_up g j a work)
  ends_fills_up g j a (Targets t) h p = ends_full g t (p, h.0)
  ends_fills_up g j a (Gathers t ps) h p = ends_full g t (p, h.0)
  ends_fills_up g j a (Fills t ps) h p = ends_full g t (p, h.0)
  ends_fills_up g j a Creates h p = ends_lost g j a Creates h p
  ends_fills_up g j a Fences h p = ends_lost g j a Fences h p
  ends_fills_up g j a (Fetches ps short) h p = ends_lost g j a (Fetches ps short) h p
  ends_fills_up g j a (Stores ps short broken) h p = ends_lost g j a (Stores ps short broken) h p
  ends_fills_up g j a Lengths h p = ends_lost g j a Lengths h p
  ends_fills_up g j a (Checks ps t) h p = ends_lost g j a (Checks ps t) h p

  -- the command goes again, in format 2
  ends_renews : (g : Going) (j : Job) (a : Awaited) → g.file.job ≡ Some j → EndBy g → EndBy (renews g j a)
  ends_renews g j a is h = (
    (w g.file.spent).alike g.file.kept _ g.effects.notes
        (record {
          number = refl;
          map = refl;
          first_tag = refl;
          tag = refl;
          size = refl;
          high = refl;
          phase = refl;
          grants = refl;
          ended = refl;
          ready = λ e. e;
        }) h.0,
    work_of g j is h.1,
  )

  pub hears_by : (g : Going) (j : Job) (a : Awaited) (r : Reply) (x : Hearing) → g.file.job ≡ Some j → EndBy g
      → EndBy (hears g j a r x)
  hears_by g j a r Older is h = ends_renews g j a is h
  hears_by g j a r Full is h = ends_fills_up g j a j.work h (work_of g j is h.1)
  hears_by g j a r Done is h = ends_waits g j j.work _ _ h.0 (work_of g j is h.1)
  hears_by g j a r Nothing is h = h

  -- ---- a declaration

  ends_declared : (g : Going) (drive : ℕ) (o : Option Job) → g.file.job ≡ o → EndBy g
      → EndBy (declared_in (with_components g (lose_on drive g.file.kept.components)) drive o)
  ends_declared g drive None is h = (parts g (lose_on drive g.file.kept.components) h.0, h.1)
  ends_declared g drive (Some j) is h =
      let cs : List Component = lose_on drive g.file.kept.components in
      ends_loses (with_components g cs) j j.work _ _ (parts g cs h.0, h.1) (work_of g j is h.1)

  pub declares_by : (g : Going) (drive : ℕ) → EndBy g → EndBy (declares g drive)
  unfolding declares
  declares_by g drive h =
      either_going (any_on drive g.file.kept.components || targets g.file.job drive) _ _
      (ends_declared g drive g.file.job refl h) h

  -- ---- an opening

  pub opened_by : (g : Going) (ready : Bool) → AtBy Still g → EndBy (opens_made g ready)
  opened_by g true h = ended g h
  opened_by g false h = making_by g h

-- ---- whether the file's tag is spent or not

module _ (Q : Kept → List Note → Type 0) (w : IsWalked Q) where
  abbrev pub Own : Going → Type 0
  Own g = Q g.file.kept g.effects.notes

  abbrev pub At : Phase → Going → Type 0
  At p g = (g.file.kept.phase ≡ p) × Own g

  abbrev pub End : Going → Type 0
  End g = Own g × FileFits g.file

  pub ends_making : (g : Going) → At Still g → End (making g)
  ends_making g h = making_by (λ spent. Q) (λ spent. w) g h

  pub ends_fence : (kind : JobKind) (format : ℕ) (g : Going) → Q (ending g.file.kept format) g.effects.notes
      → End (fence_begins kind format g)
  ends_fence kind format g h = fence_by (λ spent. Q) (λ spent. w) kind format g h

  pub ends_hears : (g : Going) (j : Job) (a : Awaited) (r : Reply) (x : Hearing) → g.file.job ≡ Some j → End g
      → End (hears g j a r x)
  ends_hears g j a r x is h = hears_by (λ spent. Q) (λ spent. w) g j a r x is h

  pub ends_declares : (g : Going) (drive : ℕ) → End g → End (declares g drive)
  ends_declares g drive h = declares_by (λ spent. Q) (λ spent. w) g drive h

  pub ends_opened : (g : Going) (ready : Bool) → At Still g → End (opens_made g ready)
  ends_opened g ready h = opened_by (λ spent. Q) (λ spent. w) g ready h
