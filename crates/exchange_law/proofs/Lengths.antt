-- What is done at a file leaves it as many components as it had.
use Rattle.std.proofs.Common.{◌≡◌, ◌||◌, ℕ, zero, suc, ◌+◌, Bool, true, false, List, [], ◌∷◌, Option, Some, None, nat_lt, length, replicate, inl, inr, refl, ap, ◌∙◌}
use Rattle.std.specs.Prelude.{slice_set}
use Rattle.std.proofs.lemmas.Bool.{cases_Bool}
use Rattle.world_history.specs.ServerNames.{Kept, RawMap, Piece, Heard, Component, Awaited, Target, Job, JobKind, Work, Tally, Making, Revoking, Rebuilding, Auditing, Creates, Fences, Fetches, Stores, Targets, Gathers, Fills, Lengths, Checks, NoDrive}
use Rattle.server_rules.specs.Standing.{any_on}
use Rattle.server_rules.specs.Columns.{end_of}
use Rattle.server_rules.specs.Going.{Going, over, noting_if, rests_or}
use Rattle.server_rules.specs.Audit.{audits, audit_begins}
use Rattle.server_rules.specs.Rebuild.{stands_at, rebuilds, makes_or, fills, filling, target_gone, target_full}
use Rattle.server_rules.specs.Repair.{repairs, after_repair, mended, storing, stored, repair_begins}
use Rattle.server_rules.specs.Jobs.{making, fenced, fences, goes_on, fetched, written, gathered, filled_in, audited_on, waits_or_on, loses, refills, remakes, declares, declared_in, targets}
use Rattle.server_rules.proofs.Components.{length_lost_on}

-- ---- lists of components

length_set : (cs : List Component) (j : ℕ) (at : Component) → length (slice_set cs j at) ≡ length cs
length_set [] j at = refl
length_set (c ∷ cs) zero at = refl
length_set (c ∷ cs) (suc j) at = ap suc (length_set cs j at)

-- the map, and how many components there are
abbrev pub shape : Kept → RawMap × ℕ
shape k = (k.map, length k.components)

-- both as before
abbrev pub Long : Going → Going → Type 0
Long g h = shape h.file.kept ≡ shape g.file.kept

-- ---- the ends

long_over : (g : Going) → Long g (over g)
long_over g = refl

long_rests_or : (cs : List Awaited) (g : Going) (kind : JobKind) (work : Work) (later : Going) → Long g later
    → Long g (rests_or cs g kind work later)
long_rests_or [] g kind work later h = h
long_rests_or (c ∷ cs) g kind work later h = refl

-- ---- audit

long_audits : (g : Going) (ps : List Piece) (t : Tally) → Long g (audits g ps t)
unfolding audits
long_audits g [] t = refl
long_audits g (p ∷ ps) t = long_rests_or _ g _ _ _ (long_audits g ps _)

long_audit : (g : Going) → Long g (audit_begins g)
unfolding audit_begins
long_audit g = long_rests_or _ g _ _ _ (long_audits g _ _)

-- ---- rebuild

long_makes_or : (g : Going) (t : Option Target) (later : Going) → Long g later → Long g (makes_or g t later)
long_makes_or g None later h = h
long_makes_or g (Some t) later h = refl

long_rebuilds : (g : Going) (cs : List Component) (k : ℕ) → Long g (rebuilds g cs k)
unfolding rebuilds
long_rebuilds g [] k = long_over g
long_rebuilds g (at ∷ cs) k = long_makes_or g _ _ (long_rebuilds (noting_if at.missing g (NoDrive k)) cs (k + 1))

long_fills : (g : Going) (t : Target) (ps : List Piece) → Long g (fills g t ps)
unfolding fills
long_fills g t [] = long_rebuilds _ _ _
    ∙ ap (λ (n : ℕ). (g.file.kept.map, n)) (length_set g.file.kept.components t.component (stands_at t))
long_fills g t (p ∷ ps) = long_rests_or _ g _ _ _ (long_rebuilds _ _ _)

long_filling : (g : Going) (t : Target) (p : Piece) (ps : List Piece) (bytes : List ℕ)
    → Long g (filling g t p ps bytes)
unfolding filling
long_filling g t p ps bytes = elim (cases_Bool (nat_lt 0 (end_of bytes (replicate p.count 0)))) [
  | inl e ↦ rw e (refl)
  | inr e ↦ rw e (long_fills g t ps)
]

long_gone : (g : Going) (t : Target) → Long g (target_gone g t)
long_gone g t = long_rebuilds _ _ _

pub long_full : (g : Going) (t : Target) → Long g (target_full g t)
long_full g t = long_rebuilds _ _ _

-- ---- repair

long_after : (kind : JobKind) (g : Going) → Long g (after_repair kind g)
long_after Making g = long_over g
long_after Revoking g = long_over g
long_after Rebuilding g = long_rebuilds g _ _
long_after Auditing g = long_audit g

long_repairs : (kind : JobKind) (g : Going) (ps : List Piece) (short : List ℕ) → Long g (repairs kind g ps short)
unfolding repairs
long_repairs kind g [] short = long_after kind (mended g short)
long_repairs kind g (p ∷ ps) short = long_rests_or _ g _ _ _ (long_repairs kind g ps _)

long_storing : (kind : JobKind) (g : Going) (p : Piece) (ps : List Piece) (short : List ℕ) (heard : List Heard)
    → Long g (storing kind g p ps short heard)
unfolding storing
long_storing kind g p ps short heard = long_rests_or _ g _ _ _ (long_repairs kind g ps short)

long_stored : (kind : JobKind) (g : Going) (p : Piece) (ps : List Piece) (short : List ℕ) (broken : Bool)
    → Long g (stored kind g p ps short broken)
long_stored kind g p ps short true = long_repairs kind g (p ∷ ps) short
long_stored kind g p ps short false = long_repairs kind g ps short

long_repair : (kind : JobKind) (g : Going) → Long g (repair_begins kind g)
unfolding repair_begins
long_repair kind g = long_repairs kind g _ _

-- ---- the fence and the job

pub long_making : (g : Going) → Long g (making g)
unfolding making
long_making g = long_rests_or _ g _ _ _ (refl)

long_fenced : (kind : JobKind) (g : Going) → Long g (fenced kind g)
unfolding fenced
long_fenced kind g = long_repair kind _

pub long_fences : (kind : JobKind) (g : Going) → Long g (fences kind g)
long_fences kind g = long_rests_or _ g _ _ _ (long_fenced kind g)

long_fetched : (kind : JobKind) (g : Going) (ps : List Piece) (short : List ℕ) (heard : List Heard)
    → Long g (fetched kind g ps short heard)
long_fetched kind g [] short heard = long_repairs kind g [] short
long_fetched kind g (p ∷ ps) short heard = long_storing kind g p ps short heard

long_written : (kind : JobKind) (g : Going) (ps : List Piece) (short : List ℕ) (broken : Bool)
    → Long g (written kind g ps short broken)
long_written kind g [] short broken = long_repairs kind g [] short
long_written kind g (p ∷ ps) short broken = long_stored kind g p ps short broken

long_gathered : (g : Going) (t : Target) (ps : List Piece) (heard : List Heard) → Long g (gathered g t ps heard)
long_gathered g t [] heard = long_fills g t []
long_gathered g t (p ∷ ps) heard = long_filling g t p ps _

long_filled : (g : Going) (t : Target) (ps : List Piece) → Long g (filled_in g t ps)
long_filled g t [] = long_fills g t []
long_filled g t (p ∷ ps) = long_fills g t ps

long_checked : (g : Going) (ps : List Piece) (t : Tally) (heard : List Heard) → Long g (audited_on g ps t heard)
long_checked g [] t heard = long_audits g [] t
long_checked g (p ∷ ps) t heard = long_audits g ps _

long_on : (kind : JobKind) (work : Work) (heard : List Heard) (g : Going) → Long g (goes_on kind work heard g)
unfolding goes_on
long_on kind Creates heard g = refl
long_on kind Fences heard g = long_fenced kind g
long_on kind (Fetches ps short) heard g = long_fetched kind g ps short heard
long_on kind (Stores ps short broken) heard g = long_written kind g ps short broken
long_on kind (Targets t) heard g = long_fills g t _
long_on kind (Gathers t ps) heard g = long_gathered g t ps heard
long_on kind (Fills t ps) heard g = long_filled g t ps
long_on kind Lengths heard g = long_audits g _ _
long_on kind (Checks ps t) heard g = long_checked g ps t heard

pub long_waits_or_on : (g : Going) (j : Job) (work : Work) (rest : List Awaited) (heard : List Heard)
    → Long g (waits_or_on g j work rest heard)
long_waits_or_on g j work [] heard = long_on j.kind work heard g
long_waits_or_on g j work (c ∷ cs) heard = refl

-- ---- a component is lost meanwhile

long_refills : (g : Going) (t : Target) (ps : List Piece) (gone : Bool) → Long g (refills g t ps gone)
long_refills g t ps true = long_gone g t
long_refills g t ps false = long_fills g t ps

long_here : (g : Going) → Long g g
long_here g = refl

long_remakes : (g : Going) (t : Target) (gone : Bool) → Long g (remakes g t gone)
long_remakes g t true = long_gone g t
long_remakes g t false = long_here g

pub long_loses : (g : Going) (j : Job) (work : Work) (rest : List Awaited) (gone : Bool)
    → Long g (loses g j work rest gone)
unfolding loses
long_loses g j (Fetches ps short) rest gone = long_repairs j.kind g ps short
long_loses g j (Stores ps short broken) rest gone = long_waits_or_on g j _ rest _
long_loses g j (Targets t) rest gone = long_remakes g t gone
long_loses g j (Gathers t ps) rest gone = long_refills g t ps gone
long_loses g j (Fills t ps) rest gone = long_refills g t ps gone
long_loses g j (Checks ps t) rest gone = long_audits g ps t
long_loses g j work rest gone = long_waits_or_on g j work rest j.heard

long_declared : (g : Going) (drive : ℕ) (j : Option Job) → Long g (declared_in g drive j)
long_declared g drive None = long_here g
long_declared g drive (Some j) = long_loses g j j.work _ _

pub long_declares : (g : Going) (drive : ℕ) → Long g (declares g drive)
unfolding declares
long_declares g drive = elim (cases_Bool (any_on drive g.file.kept.components || targets g.file.job drive)) [
  | inl e ↦ rw e (long_declared _ drive g.file.job
      ∙ ap (λ (n : ℕ). (g.file.kept.map, n)) (length_lost_on drive g.file.kept.components))
  | inr e ↦ rw e (long_here g)
]
