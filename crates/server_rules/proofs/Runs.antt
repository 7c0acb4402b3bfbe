-- What a job leaves of its file, and that it rests only where it awaits something: function by function.
use Rattle.std.specs.Prelude.{ℕ, Bool, true, false, List, [], ◌∷◌, Option, Some, None, refl, ◌+◌, ◌||◌, nat_lt, replicate}
use Rattle.std.proofs.Common.{inl, inr}
use Rattle.std.proofs.lemmas.Bool.{cases_Bool}
use Rattle.server_rules.specs.Standing.{any_on}
use Rattle.server_rules.specs.Columns.{end_of}
use Rattle.server_rules.specs.State.{Piece, Heard, Component, Awaited, Target, Job, JobKind, Work, Tally, Making, Revoking, Rebuilding, Auditing, Creates, Fences, Fetches, Stores, Targets, Gathers, Fills, Lengths, Checks, NoDrive}
use Rattle.server_rules.specs.Going.{Going, over, noting_if, rests_or}
use Rattle.server_rules.specs.Audit.{audits, audit_begins}
use Rattle.server_rules.specs.Rebuild.{rebuilds, makes_or, fills, filling, target_gone, target_full}
use Rattle.server_rules.specs.Repair.{repairs, after_repair, mended, storing, stored, repair_begins}
use Rattle.server_rules.specs.Jobs.{making, fenced, fences, goes_on, fetched, written, gathered, filled_in, audited_on, waits_or_on, loses, refills, remakes, declares, declared_in, targets}
use Rattle.server_rules.specs.Laws.{Rests, Ran}

-- ---- the ends

pub ran_over : (g : Going) → Ran g.file.kept (over g)
ran_over g = record { number = refl; map = refl; size = refl; high = refl; grants = refl; rests = tt }

pub ran_rests_or : (cs : List Awaited) (g : Going) (kind : JobKind) (work : Work) (later : Going) → Ran g.file.kept later →
    Ran g.file.kept (rests_or cs g kind work later)
ran_rests_or [] g kind work later h = h
ran_rests_or (c ∷ cs) g kind work later h =
    record { number = refl; map = refl; size = refl; high = refl; grants = refl; rests = (c, cs, refl) }

-- ---- audit

pub ran_audits : (g : Going) (ps : List Piece) (t : Tally) → Ran g.file.kept (audits g ps t)
unfolding audits
ran_audits g [] t = record { number = refl; map = refl; size = refl; high = refl; grants = refl; rests = tt }
ran_audits g (p ∷ ps) t = ran_rests_or _ g _ _ _ (ran_audits g ps _)

pub ran_audit : (g : Going) → Ran g.file.kept (audit_begins g)
unfolding audit_begins
ran_audit g = ran_rests_or _ g _ _ _ (ran_audits g _ _)

-- ---- rebuild

pub ran_makes_or : (g : Going) (t : Option Target) (later : Going) → Ran g.file.kept later → Ran g.file.kept (makes_or g t later)
ran_makes_or g None later h = h
ran_makes_or g (Some t) later h =
    record { number = refl; map = refl; size = refl; high = refl; grants = refl; rests = (_, _, refl) }

pub ran_rebuilds : (g : Going) (cs : List Component) (k : ℕ) → Ran g.file.kept (rebuilds g cs k)
unfolding rebuilds
ran_rebuilds g [] k = ran_over g
ran_rebuilds g (at ∷ cs) k = ran_makes_or g _ _ (ran_rebuilds (noting_if at.missing g (NoDrive k)) cs (k + 1))

pub ran_fills : (g : Going) (t : Target) (ps : List Piece) → Ran g.file.kept (fills g t ps)
unfolding fills
ran_fills g t [] = ran_rebuilds _ _ _
ran_fills g t (p ∷ ps) = ran_rests_or _ g _ _ _ (ran_rebuilds _ _ _)

pub ran_filling : (g : Going) (t : Target) (p : Piece) (ps : List Piece) (bytes : List ℕ) →
    Ran g.file.kept (filling g t p ps bytes)
unfolding filling
ran_filling g t p ps bytes = elim (cases_Bool (nat_lt 0 (end_of bytes (replicate p.count 0)))) [
  | inl e ↦ rw e (record { number = refl; map = refl; size = refl; high = refl; grants = refl; rests = (_, _, refl) })
  | inr e ↦ rw e (ran_fills g t ps)
]

pub ran_gone : (g : Going) (t : Target) → Ran g.file.kept (target_gone g t)
ran_gone g t = ran_rebuilds _ _ _

pub ran_full : (g : Going) (t : Target) → Ran g.file.kept (target_full g t)
ran_full g t = ran_rebuilds _ _ _

-- ---- repair

pub ran_after : (kind : JobKind) (g : Going) → Ran g.file.kept (after_repair kind g)
ran_after Making g = ran_over g
ran_after Revoking g = ran_over g
ran_after Rebuilding g = ran_rebuilds g _ _
ran_after Auditing g = ran_audit g

pub ran_repairs : (kind : JobKind) (g : Going) (ps : List Piece) (short : List ℕ) → Ran g.file.kept (repairs kind g ps short)
unfolding repairs
ran_repairs kind g [] short = ran_after kind (mended g short)
ran_repairs kind g (p ∷ ps) short = ran_rests_or _ g _ _ _ (ran_repairs kind g ps _)

pub ran_storing : (kind : JobKind) (g : Going) (p : Piece) (ps : List Piece) (short : List ℕ) (heard : List Heard) →
    Ran g.file.kept (storing kind g p ps short heard)
unfolding storing
ran_storing kind g p ps short heard = ran_rests_or _ g _ _ _ (ran_repairs kind g ps short)

pub ran_stored : (kind : JobKind) (g : Going) (p : Piece) (ps : List Piece) (short : List ℕ) (broken : Bool) →
    Ran g.file.kept (stored kind g p ps short broken)
ran_stored kind g p ps short true = ran_repairs kind g (p ∷ ps) short
ran_stored kind g p ps short false = ran_repairs kind g ps short

pub ran_repair : (kind : JobKind) (g : Going) → Ran g.file.kept (repair_begins kind g)
unfolding repair_begins
ran_repair kind g = ran_repairs kind g _ _

-- ---- the fence and the job

pub ran_making : (g : Going) → Ran g.file.kept (making g)
unfolding making
ran_making g = ran_rests_or _ g _ _ _ (record { number = refl; map = refl; size = refl; high = refl; grants = refl; rests = tt })

pub ran_fenced : (kind : JobKind) (g : Going) → Ran g.file.kept (fenced kind g)
unfolding fenced
ran_fenced kind g = ran_repair kind _

pub ran_fences : (kind : JobKind) (g : Going) → Ran g.file.kept (fences kind g)
ran_fences kind g = ran_rests_or _ g _ _ _ (ran_fenced kind g)

pub ran_fetched : (kind : JobKind) (g : Going) (ps : List Piece) (short : List ℕ) (heard : List Heard) →
    Ran g.file.kept (fetched kind g ps short heard)
ran_fetched kind g [] short heard = ran_repairs kind g [] short
ran_fetched kind g (p ∷ ps) short heard = ran_storing kind g p ps short heard

pub ran_written : (kind : JobKind) (g : Going) (ps : List Piece) (short : List ℕ) (broken : Bool) →
    Ran g.file.kept (written kind g ps short broken)
ran_written kind g [] short broken = ran_repairs kind g [] short
ran_written kind g (p ∷ ps) short broken = ran_stored kind g p ps short broken

pub ran_gathered : (g : Going) (t : Target) (ps : List Piece) (heard : List Heard) → Ran g.file.kept (gathered g t ps heard)
ran_gathered g t [] heard = ran_fills g t []
ran_gathered g t (p ∷ ps) heard = ran_filling g t p ps _

pub ran_filled : (g : Going) (t : Target) (ps : List Piece) → Ran g.file.kept (filled_in g t ps)
ran_filled g t [] = ran_fills g t []
ran_filled g t (p ∷ ps) = ran_fills g t ps

pub ran_checked : (g : Going) (ps : List Piece) (t : Tally) (heard : List Heard) → Ran g.file.kept (audited_on g ps t heard)
ran_checked g [] t heard = ran_audits g [] t
ran_checked g (p ∷ ps) t heard = ran_audits g ps _

pub ran_on : (kind : JobKind) (work : Work) (heard : List Heard) (g : Going) → Ran g.file.kept (goes_on kind work heard g)
unfolding goes_on
ran_on kind Creates heard g = record { number = refl; map = refl; size = refl; high = refl; grants = refl; rests = tt }
ran_on kind Fences heard g = ran_fenced kind g
ran_on kind (Fetches ps short) heard g = ran_fetched kind g ps short heard
ran_on kind (Stores ps short broken) heard g = ran_written kind g ps short broken
ran_on kind (Targets t) heard g = ran_fills g t _
ran_on kind (Gathers t ps) heard g = ran_gathered g t ps heard
ran_on kind (Fills t ps) heard g = ran_filled g t ps
ran_on kind Lengths heard g = ran_audits g _ _
ran_on kind (Checks ps t) heard g = ran_checked g ps t heard

pub ran_waits_or_on : (g : Going) (j : Job) (work : Work) (rest : List Awaited) (heard : List Heard) →
    Ran g.file.kept (waits_or_on g j work rest heard)
ran_waits_or_on g j work [] heard = ran_on j.kind work heard g
ran_waits_or_on g j work (c ∷ cs) heard =
    record { number = refl; map = refl; size = refl; high = refl; grants = refl; rests = (c, cs, refl) }

-- ---- a component is lost meanwhile

pub ran_refills : (g : Going) (t : Target) (ps : List Piece) (gone : Bool) → Ran g.file.kept (refills g t ps gone)
ran_refills g t ps true = ran_gone g t
ran_refills g t ps false = ran_fills g t ps

pub ran_here : (g : Going) → Rests g.file.job → Ran g.file.kept g
ran_here g h = record { number = refl; map = refl; size = refl; high = refl; grants = refl; rests = h }

pub ran_remakes : (g : Going) (t : Target) (gone : Bool) → Rests g.file.job → Ran g.file.kept (remakes g t gone)
ran_remakes g t true h = ran_gone g t
ran_remakes g t false h = ran_here g h

pub ran_loses : (g : Going) (j : Job) (work : Work) (rest : List Awaited) (gone : Bool) → Rests g.file.job →
    Ran g.file.kept (loses g j work rest gone)
unfolding loses
ran_loses g j (Fetches ps short) rest gone h = ran_repairs j.kind g ps short
ran_loses g j (Stores ps short broken) rest gone h = ran_waits_or_on g j _ rest _
ran_loses g j (Targets t) rest gone h = ran_remakes g t gone h
ran_loses g j (Gathers t ps) rest gone h = ran_refills g t ps gone
ran_loses g j (Fills t ps) rest gone h = ran_refills g t ps gone
ran_loses g j (Checks ps t) rest gone h = ran_audits g ps t
ran_loses g j work rest gone h = ran_waits_or_on g j work rest j.heard

pub ran_declared : (g : Going) (drive : ℕ) (j : Option Job) → Rests g.file.job → Ran g.file.kept (declared_in g drive j)
ran_declared g drive None h = ran_here g h
ran_declared g drive (Some j) h = ran_loses g j j.work _ _ h

pub ran_declares : (g : Going) (drive : ℕ) → Rests g.file.job → Ran g.file.kept (declares g drive)
unfolding declares
ran_declares g drive h = elim (cases_Bool (any_on drive g.file.kept.components || targets g.file.job drive)) [
  | inl e ↦ rw e (ran_declared _ drive g.file.job h)
  | inr e ↦ rw e (ran_here g h)
]
