-- What a job makes of its file's components, function by function.
use Rattle.std.proofs.Common.{◌≡◌, ℕ, ◌+◌, ◌<◌, ◌∷◌, [], List, Bool, true, false, Option, Some, None, nat_lt, drop, replicate, slice_set, refl, ap, ◌∙◌, inl, inr}
use Rattle.std.proofs.Math.Numerals.{add-one}
use Rattle.std.proofs.lemmas.Bool.{cases_Bool}
use Rattle.scenario_text.specs.declared.names.TheConstants.{DRIVES}
use Rattle.server_rules.specs.Columns.{end_of}
use Rattle.server_rules.specs.Standing.{stood_on}
use Rattle.server_rules.specs.Going.{Going, keeping, with_components, noting, noting_if, rests_or}
use Rattle.server_rules.specs.Audit.{audits, audit_begins}
use Rattle.server_rules.specs.Rebuild.{target_for, makes_or, rebuilds, stands_at, fills, filling, target_gone, target_full}
use Rattle.server_rules.specs.Repair.{repairs, after_repair, mended, storing, stored, repair_begins}
use Rattle.server_rules.specs.Jobs.{making, ending, fenced, fences, fence_begins, goes_on, fetched, written, gathered, filled_in, audited_on, waits_or_on, loses, refills, remakes}
use Rattle.world_history.specs.ServerNames.{Component, Kept, Note, Piece, Heard, Awaited, Target, Job, JobKind, Work, Tally, Making, Revoking, Rebuilding, Auditing, Creates, Fences, Fetches, Stores, Targets, Gathers, Fills, Lengths, Checks, Ready, Rebuilt, NoDrive, NoSpace}
use Rattle.component_law.specs.Components.{is_lacking}
use Rattle.component_law.specs.Sound.{IsAim}
use Rattle.component_law.proofs.Components.{drop_next, drop_lacks}
use Rattle.component_law.proofs.FileNotes.{Tells, Ends, tells_plain, tells_if, tells_full, tells_made, tells_fenced}
use Rattle.component_law.proofs.Targets.{AreKnown, aim_for}
use Rattle.component_law.specs.Objects.{target_in}

-- ---- the job rests, or goes on

ends_rests_or : (k : Kept) (before : List Note) (cs : List Awaited) (g : Going) (kind : JobKind) (work : Work) (later : Going)
    → Tells k before g → IsAim g.file.kept.components (target_in work) → Ends k before later
    → Ends k before (rests_or cs g kind work later)
ends_rests_or k before [] g kind work later h a l = l
ends_rests_or k before (c ∷ cs) g kind work later h a l = (h, a)

-- ---- audit

pub ends_audits : (k : Kept) (before : List Note) (g : Going) (ps : List Piece) (t : Tally) → Tells k before g
    → Ends k before (audits g ps t)
unfolding audits
ends_audits k before g [] t h = (tells_plain k before g _ (λ cs. refl) refl refl refl h, tt)
ends_audits k before g (p ∷ ps) t h = ends_rests_or k before _ g _ _ _ h tt (ends_audits k before g ps _ h)

ends_audit : (k : Kept) (before : List Note) (g : Going) → Tells k before g → Ends k before (audit_begins g)
unfolding audit_begins
ends_audit k before g h = ends_rests_or k before _ g _ _ _ h tt (ends_audits k before g _ _ h)

-- ---- rebuild

-- a target where there is one
ends_makes_or : (k : Kept) (before : List Note) (g : Going) (at : Component) (cs : List Component) (j : ℕ)
    (o : Option Target) (later : Going) → Tells k before g → AreKnown g.drives → at ∷ cs ≡ drop j g.file.kept.components
    → target_for g at j ≡ o → Ends k before later → Ends k before (makes_or g o later)
ends_makes_or k before g at cs j None later h known from is l = l
ends_makes_or k before g at cs j (Some t) later h known from is l =
    let a : (at.missing ≡ true) × (t.component ≡ j) × (t.drive < DRIVES) × (stood_on t.drive g.file.kept.components ≡ false) =
    aim_for g at j t known is in (
      h,
      (
        ap (λ (x : ℕ). is_lacking g.file.kept.components x) a.1 ∙ drop_lacks g.file.kept.components j at cs from a.0,
        a.2,
        a.3,
      ),
    )

pub ends_rebuilds : (k : Kept) (before : List Note) (g : Going) (cs : List Component) (j : ℕ) → Tells k before g
    → AreKnown g.drives → cs ≡ drop j g.file.kept.components → Ends k before (rebuilds g cs j)
unfolding rebuilds
ends_rebuilds k before g [] j h known from = (h, tt)
ends_rebuilds k before g (at ∷ cs) j h known from =
    ends_makes_or k before g at cs j (target_for g at j) (rebuilds (noting_if at.missing g (NoDrive j)) cs (j + 1)) h known
    from refl
    (ends_rebuilds k before (noting_if at.missing g (NoDrive j)) cs (j + 1)
    (tells_if at.missing k before g (NoDrive j) (λ cs. refl) refl refl refl h) known
    (rw add-one (drop_next g.file.kept.components j at cs from)))

-- the component of a target, until it is made anew
abbrev pub Aims : Going → Target → Type 0
Aims g t =
    (is_lacking g.file.kept.components t.component ≡ true) × (t.drive < DRIVES)
    × (stood_on t.drive g.file.kept.components ≡ false)

ends_rebuilt : (k : Kept) (before : List Note) (g : Going) (t : Target) → Tells k before g → AreKnown g.drives → Aims g t
    → Ends k before (fills g t [])
unfolding fills
ends_rebuilt k before g t h known a =
    ends_rebuilds k before
    (noting (with_components g (slice_set g.file.kept.components t.component (stands_at t))) (Rebuilt t.component t.drive))
    (drop (t.component + 1) (slice_set g.file.kept.components t.component (stands_at t))) (t.component + 1)
    (tells_made k before g t.component (stands_at t) refl a.1 a.2 h) known refl

pub ends_fills : (k : Kept) (before : List Note) (g : Going) (t : Target) (ps : List Piece) → Tells k before g
    → AreKnown g.drives → Aims g t → Ends k before (fills g t ps)
unfolding fills
ends_fills k before g t [] h known a = ends_rebuilt k before g t h known a
ends_fills k before g t (p ∷ ps) h known a =
    ends_rests_or k before _ g _ _ _ h a
    (ends_rebuilds k before (noting g _) _ _ (tells_plain k before g _ (λ cs. refl) refl refl refl h) known refl)

ends_filling : (k : Kept) (before : List Note) (g : Going) (t : Target) (p : Piece) (ps : List Piece) (bytes : List ℕ)
    → Tells k before g → AreKnown g.drives → Aims g t → Ends k before (filling g t p ps bytes)
unfolding filling
ends_filling k before g t p ps bytes h known a = elim (cases_Bool (nat_lt 0 (end_of bytes (replicate p.count 0)))) [
  | inl e ↦ rw e (h, a)
  | inr e ↦ rw e (ends_fills k before g t ps h known a)
]

ends_gone : (k : Kept) (before : List Note) (g : Going) (t : Target) → Tells k before g → AreKnown g.drives
    → Ends k before (target_gone g t)
ends_gone k before g t h known =
    ends_rebuilds k before (noting g (NoDrive t.component)) _ _
    (tells_plain k before g (NoDrive t.component) (λ cs. refl) refl refl refl h) known refl

pub ends_full : (k : Kept) (before : List Note) (g : Going) (t : Target) → Tells k before g → AreKnown g.drives
    → Aims g t → Ends k before (target_full g t)
ends_full k before g t h known a =
    ends_rebuilds k before (noting g (NoSpace t.component)) _ _ (tells_full k before g t.component a.0 h) known refl

-- ---- repair

ends_after : (k : Kept) (before : List Note) (kind : JobKind) (g : Going) → Tells k before g → AreKnown g.drives
    → Ends k before (after_repair kind g)
ends_after k before Making g h known = (h, tt)
ends_after k before Revoking g h known = (h, tt)
ends_after k before Rebuilding g h known = ends_rebuilds k before g g.file.kept.components 0 h known refl
ends_after k before Auditing g h known = ends_audit k before g h

pub ends_repairs : (k : Kept) (before : List Note) (kind : JobKind) (g : Going) (ps : List Piece) (short : List ℕ)
    → Tells k before g → AreKnown g.drives → Ends k before (repairs kind g ps short)
unfolding repairs
ends_repairs k before kind g [] short h known =
    ends_after k before kind (mended g short) (tells_plain k before g _ (λ cs. refl) refl refl refl h) known
ends_repairs k before kind g (p ∷ ps) short h known =
    ends_rests_or k before _ g _ _ _ h tt (ends_repairs k before kind g ps _ h known)

ends_storing : (k : Kept) (before : List Note) (kind : JobKind) (g : Going) (p : Piece) (ps : List Piece) (short : List ℕ)
    (heard : List Heard) → Tells k before g → AreKnown g.drives → Ends k before (storing kind g p ps short heard)
unfolding storing
ends_storing k before kind g p ps short heard h known =
    ends_rests_or k before _ g _ _ _ h tt (ends_repairs k before kind g ps short h known)

ends_stored : (k : Kept) (before : List Note) (kind : JobKind) (g : Going) (p : Piece) (ps : List Piece) (short : List ℕ)
    (broken : Bool) → Tells k before g → AreKnown g.drives → Ends k before (stored kind g p ps short broken)
ends_stored k before kind g p ps short true h known = ends_repairs k before kind g (p ∷ ps) short h known
ends_stored k before kind g p ps short false h known = ends_repairs k before kind g ps short h known

-- ---- the fence and the job

pub ends_making : (k : Kept) (before : List Note) (g : Going) → Tells k before g → Ends k before (making g)
unfolding making
ends_making k before g h =
    ends_rests_or k before _ g _ _ _ h tt (tells_plain k before g _ (λ cs. refl) refl refl refl h, tt)

ends_fenced : (k : Kept) (before : List Note) (kind : JobKind) (g : Going) → Tells k before g → AreKnown g.drives
    → Ends k before (fenced kind g)
unfolding fenced repair_begins
ends_fenced k before kind g h known =
    ends_repairs k before kind _ _ [] (tells_fenced k before g h) known

ends_fences : (k : Kept) (before : List Note) (kind : JobKind) (g : Going) → Tells k before g → AreKnown g.drives
    → Ends k before (fences kind g)
ends_fences k before kind g h known = ends_rests_or k before _ g _ _ _ h tt (ends_fenced k before kind g h known)

pub ends_fence : (k : Kept) (before : List Note) (kind : JobKind) (format : ℕ) (g : Going) → Tells k before g
    → AreKnown g.drives → Ends k before (fence_begins kind format g)
unfolding fence_begins
ends_fence k before kind format g h known = ends_fences k before kind (keeping g (ending g.file.kept format)) h known

ends_fetched : (k : Kept) (before : List Note) (kind : JobKind) (g : Going) (ps : List Piece) (short : List ℕ)
    (heard : List Heard) → Tells k before g → AreKnown g.drives → Ends k before (fetched kind g ps short heard)
ends_fetched k before kind g [] short heard h known = ends_repairs k before kind g [] short h known
ends_fetched k before kind g (p ∷ ps) short heard h known = ends_storing k before kind g p ps short heard h known

ends_written : (k : Kept) (before : List Note) (kind : JobKind) (g : Going) (ps : List Piece) (short : List ℕ)
    (broken : Bool) → Tells k before g → AreKnown g.drives → Ends k before (written kind g ps short broken)
ends_written k before kind g [] short broken h known = ends_repairs k before kind g [] short h known
ends_written k before kind g (p ∷ ps) short broken h known = ends_stored k before kind g p ps short broken h known

ends_gathered : (k : Kept) (before : List Note) (g : Going) (t : Target) (ps : List Piece) (heard : List Heard)
    → Tells k before g → AreKnown g.drives → Aims g t → Ends k before (gathered g t ps heard)
ends_gathered k before g t [] heard h known a = ends_fills k before g t [] h known a
ends_gathered k before g t (p ∷ ps) heard h known a = ends_filling k before g t p ps _ h known a

ends_filled : (k : Kept) (before : List Note) (g : Going) (t : Target) (ps : List Piece) → Tells k before g
    → AreKnown g.drives → Aims g t → Ends k before (filled_in g t ps)
ends_filled k before g t [] h known a = ends_fills k before g t [] h known a
ends_filled k before g t (p ∷ ps) h known a = ends_fills k before g t ps h known a

ends_checked : (k : Kept) (before : List Note) (g : Going) (ps : List Piece) (t : Tally) (heard : List Heard)
    → Tells k before g → Ends k before (audited_on g ps t heard)
ends_checked k before g [] t heard h = ends_audits k before g [] t h
ends_checked k before g (p ∷ ps) t heard h = ends_audits k before g ps _ h

ends_on : (k : Kept) (before : List Note) (kind : JobKind) (work : Work) (heard : List Heard) (g : Going)
    → Tells k before g → AreKnown g.drives → IsAim g.file.kept.components (target_in work)
    → Ends k before (goes_on kind work heard g)
unfolding goes_on
ends_on k before kind Creates heard g h known a = (tells_plain k before g Ready (λ cs. refl) refl refl refl h, tt)
ends_on k before kind Fences heard g h known a = ends_fenced k before kind g h known
ends_on k before kind (Fetches ps short) heard g h known a = ends_fetched k before kind g ps short heard h known
ends_on k before kind (Stores ps short broken) heard g h known a = ends_written k before kind g ps short broken h known
ends_on k before kind (Targets t) heard g h known a = ends_fills k before g t _ h known a
ends_on k before kind (Gathers t ps) heard g h known a = ends_gathered k before g t ps heard h known a
ends_on k before kind (Fills t ps) heard g h known a = ends_filled k before g t ps h known a
ends_on k before kind Lengths heard g h known a = ends_audits k before g _ _ h
ends_on k before kind (Checks ps t) heard g h known a = ends_checked k before g ps t heard h

pub ends_waits_or_on : (k : Kept) (before : List Note) (g : Going) (j : Job) (work : Work) (rest : List Awaited)
    (heard : List Heard) → Tells k before g → AreKnown g.drives → IsAim g.file.kept.components (target_in work)
    → Ends k before (waits_or_on g j work rest heard)
ends_waits_or_on k before g j work [] heard h known a = ends_on k before j.kind work heard g h known a
ends_waits_or_on k before g j work (c ∷ cs) heard h known a = (h, a)

-- ---- a component is lost meanwhile

ends_refills : (k : Kept) (before : List Note) (g : Going) (t : Target) (ps : List Piece) (gone : Bool) → Tells k before g
    → AreKnown g.drives → Aims g t → Ends k before (refills g t ps gone)
ends_refills k before g t ps true h known a = ends_gone k before g t h known
ends_refills k before g t ps false h known a = ends_fills k before g t ps h known a

ends_remakes : (k : Kept) (before : List Note) (g : Going) (t : Target) (gone : Bool) → Ends k before g
    → AreKnown g.drives → Ends k before (remakes g t gone)
ends_remakes k before g t true h known = ends_gone k before g t h.0 known
ends_remakes k before g t false h known = h

pub ends_loses : (k : Kept) (before : List Note) (g : Going) (j : Job) (work : Work) (rest : List Awaited) (gone : Bool)
    → Ends k before g → AreKnown g.drives → IsAim g.file.kept.components (target_in work)
    → Ends k before (loses g j work rest gone)
unfolding loses
ends_loses k before g j (Fetches ps short) rest gone h known a = ends_repairs k before j.kind g ps short h.0 known
ends_loses k before g j (Stores ps short broken) rest gone h known a =
    ends_waits_or_on k before g j (Stores ps short true) rest j.heard h.0 known tt
ends_loses k before g j (Targets t) rest gone h known a = ends_remakes k before g t gone h known
ends_loses k before g j (Gathers t ps) rest gone h known a = ends_refills k before g t ps gone h.0 known a
ends_loses k before g j (Fills t ps) rest gone h known a = ends_refills k before g t ps gone h.0 known a
ends_loses k before g j (Checks ps t) rest gone h known a = ends_audits k before g ps t h.0
ends_loses k before g j work rest gone h known a = ends_waits_or_on k before g j work rest j.heard h.0 known a
