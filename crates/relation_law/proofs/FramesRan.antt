-- A file keeps its number, its map and its first tag in each step of the server: function by function.
use Rattle.std.specs.Prelude.{◌≡◌, ◌==◌, ℕ, Bool, true, false, List, [], ◌∷◌, Option, Some, None, refl, ◌+◌, ◌||◌, nat_lt, replicate}
use Rattle.std.proofs.Common.{inl, inr, ◌∙◌}
use Rattle.std.proofs.lemmas.Bool.{cases_Bool}
use Rattle.server_rules.specs.declared.limits.TheConstants.{GREATEST_TAG}
use Rattle.server_rules.specs.Standing.{any_on, lose_from}
use Rattle.server_rules.specs.Columns.{end_of}
use Rattle.server_rules.specs.Numbers.{among}
use Rattle.world_history.specs.ServerNames.{IoErr, Reply, RequestArgs, Get, Commit, Return, Reported, Grant, Kept, Piece, Heard, Component, Awaited, Target, Job, JobKind, Work, Tally, Making, Revoking, Rebuilding, Auditing, Creates, Fences, Fetches, Stores, Targets, Gathers, Fills, Lengths, Checks, NoDrive}
use Rattle.server_rules.specs.Going.{Going, over, keeping, noting_if, rests_or}
use Rattle.server_rules.specs.Audit.{audits, audit_begins}
use Rattle.server_rules.specs.Rebuild.{rebuilds, makes_or, fills, filling, target_gone, target_full}
use Rattle.server_rules.specs.Repair.{repairs, after_repair, mended, storing, stored, repair_begins}
use Rattle.server_rules.specs.Jobs.{fence_begins, making, fenced, fences, goes_on, fetched, written, gathered, filled_in, audited_on, waits_or_on, loses, refills, remakes, declares, declared_in, targets}
use Rattle.server_rules.specs.Replies.{Hearing, Older, Full, Done, Nothing, others, heard_with, fills_up, hears}
use Rattle.server_rules.specs.Get.{Early, BadMode, Invalid, Unable, Waits, On, Late, NoNumber, Lacks, Conflict, Gives, late, early, must_fence, by_late, give_or_refuse, after_fence, fence_then, fence_first, on_grants, by_early, gets}
use Rattle.server_rules.specs.Commit.{Committed, NoGrant as NoneCommits, Wrong, Sizes, by_commit, commit_row, commits}
use Rattle.server_rules.specs.Return.{Returned, NoGrant, Clean, Taken, TooMany, Fencing, by_return, return_row, reports_from, takes_loss, ends_grant, returns_on}
use Rattle.server_rules.specs.Requests.{serves}
use Rattle.server_rules.specs.Openings.{opens_made, opens_fenced, opens, is_unsettled}

-- the file that was k is still that file
abbrev pub Same : Kept → Going → Type 0
Same k g = record {
  number : g.file.kept.number ≡ k.number;
  map : g.file.kept.map ≡ k.map;
  first_tag : g.file.kept.first_tag ≡ k.first_tag;
}

then_same : (k : Kept) (g h : Going) → Same k g → Same g.file.kept h → Same k h
then_same k g h a b = record {
  number = b.number ∙ a.number;
  map = b.map ∙ a.map;
  first_tag = b.first_tag ∙ a.first_tag;
}

-- ---- the ends

pub same_over : (g : Going) → Same g.file.kept (over g)
same_over g = record { number = refl; map = refl; first_tag = refl }

pub same_rests_or : (cs : List Awaited) (g : Going) (kind : JobKind) (work : Work) (later : Going)
    → Same g.file.kept later → Same g.file.kept (rests_or cs g kind work later)
same_rests_or [] g kind work later h = h
same_rests_or (c ∷ cs) g kind work later h = record { number = refl; map = refl; first_tag = refl }

-- ---- audit

pub same_audits : (g : Going) (ps : List Piece) (t : Tally) → Same g.file.kept (audits g ps t)
unfolding audits
same_audits g [] t = record { number = refl; map = refl; first_tag = refl }
same_audits g (p ∷ ps) t = same_rests_or _ g _ _ _ (same_audits g ps _)

pub same_audit : (g : Going) → Same g.file.kept (audit_begins g)
unfolding audit_begins
same_audit g = same_rests_or _ g _ _ _ (same_audits g _ _)

-- ---- rebuild

pub same_makes_or : (g : Going) (t : Option Target) (later : Going) → Same g.file.kept later
    → Same g.file.kept (makes_or g t later)
same_makes_or g None later h = h
same_makes_or g (Some t) later h = record { number = refl; map = refl; first_tag = refl }

pub same_rebuilds : (g : Going) (cs : List Component) (k : ℕ) → Same g.file.kept (rebuilds g cs k)
unfolding rebuilds
same_rebuilds g [] k = same_over g
same_rebuilds g (at ∷ cs) k = same_makes_or g _ _ (same_rebuilds (noting_if at.missing g (NoDrive k)) cs (k + 1))

pub same_fills : (g : Going) (t : Target) (ps : List Piece) → Same g.file.kept (fills g t ps)
unfolding fills
same_fills g t [] = same_rebuilds _ _ _
same_fills g t (p ∷ ps) = same_rests_or _ g _ _ _ (same_rebuilds _ _ _)

pub same_filling : (g : Going) (t : Target) (p : Piece) (ps : List Piece) (bytes : List ℕ)
    → Same g.file.kept (filling g t p ps bytes)
unfolding filling
same_filling g t p ps bytes = elim (cases_Bool (nat_lt 0 (end_of bytes (replicate p.count 0)))) [
  | inl e ↦ rw e (record { number = refl; map = refl; first_tag = refl })
  | inr e ↦ rw e (same_fills g t ps)
]

pub same_gone : (g : Going) (t : Target) → Same g.file.kept (target_gone g t)
same_gone g t = same_rebuilds _ _ _

pub same_target_full : (g : Going) (t : Target) → Same g.file.kept (target_full g t)
same_target_full g t = same_rebuilds _ _ _

-- ---- repair

pub same_after : (kind : JobKind) (g : Going) → Same g.file.kept (after_repair kind g)
same_after Making g = same_over g
same_after Revoking g = same_over g
same_after Rebuilding g = same_rebuilds g _ _
same_after Auditing g = same_audit g

pub same_repairs : (kind : JobKind) (g : Going) (ps : List Piece) (short : List ℕ) → Same g.file.kept (repairs kind g ps short)
unfolding repairs
same_repairs kind g [] short = same_after kind (mended g short)
same_repairs kind g (p ∷ ps) short = same_rests_or _ g _ _ _ (same_repairs kind g ps _)

pub same_storing : (kind : JobKind) (g : Going) (p : Piece) (ps : List Piece) (short : List ℕ) (heard : List Heard)
    → Same g.file.kept (storing kind g p ps short heard)
unfolding storing
same_storing kind g p ps short heard = same_rests_or _ g _ _ _ (same_repairs kind g ps short)

pub same_stored : (kind : JobKind) (g : Going) (p : Piece) (ps : List Piece) (short : List ℕ) (broken : Bool)
    → Same g.file.kept (stored kind g p ps short broken)
same_stored kind g p ps short true = same_repairs kind g (p ∷ ps) short
same_stored kind g p ps short false = same_repairs kind g ps short

pub same_repair : (kind : JobKind) (g : Going) → Same g.file.kept (repair_begins kind g)
unfolding repair_begins
same_repair kind g = same_repairs kind g _ _

-- ---- the fence and the job

pub same_making : (g : Going) → Same g.file.kept (making g)
unfolding making
same_making g = same_rests_or _ g _ _ _ (record { number = refl; map = refl; first_tag = refl })

pub same_fenced : (kind : JobKind) (g : Going) → Same g.file.kept (fenced kind g)
unfolding fenced
same_fenced kind g = same_repair kind _

pub same_fences : (kind : JobKind) (g : Going) → Same g.file.kept (fences kind g)
same_fences kind g = same_rests_or _ g _ _ _ (same_fenced kind g)

pub same_fetched : (kind : JobKind) (g : Going) (ps : List Piece) (short : List ℕ) (heard : List Heard)
    → Same g.file.kept (fetched kind g ps short heard)
same_fetched kind g [] short heard = same_repairs kind g [] short
same_fetched kind g (p ∷ ps) short heard = same_storing kind g p ps short heard

pub same_written : (kind : JobKind) (g : Going) (ps : List Piece) (short : List ℕ) (broken : Bool)
    → Same g.file.kept (written kind g ps short broken)
same_written kind g [] short broken = same_repairs kind g [] short
same_written kind g (p ∷ ps) short broken = same_stored kind g p ps short broken

pub same_gathered : (g : Going) (t : Target) (ps : List Piece) (heard : List Heard) → Same g.file.kept (gathered g t ps heard)
same_gathered g t [] heard = same_fills g t []
same_gathered g t (p ∷ ps) heard = same_filling g t p ps _

pub same_filled : (g : Going) (t : Target) (ps : List Piece) → Same g.file.kept (filled_in g t ps)
same_filled g t [] = same_fills g t []
same_filled g t (p ∷ ps) = same_fills g t ps

pub same_checked : (g : Going) (ps : List Piece) (t : Tally) (heard : List Heard) → Same g.file.kept (audited_on g ps t heard)
same_checked g [] t heard = same_audits g [] t
same_checked g (p ∷ ps) t heard = same_audits g ps _

pub same_on : (kind : JobKind) (work : Work) (heard : List Heard) (g : Going) → Same g.file.kept (goes_on kind work heard g)
unfolding goes_on
same_on kind Creates heard g = record { number = refl; map = refl; first_tag = refl }
same_on kind Fences heard g = same_fenced kind g
same_on kind (Fetches ps short) heard g = same_fetched kind g ps short heard
same_on kind (Stores ps short broken) heard g = same_written kind g ps short broken
same_on kind (Targets t) heard g = same_fills g t _
same_on kind (Gathers t ps) heard g = same_gathered g t ps heard
same_on kind (Fills t ps) heard g = same_filled g t ps
same_on kind Lengths heard g = same_audits g _ _
same_on kind (Checks ps t) heard g = same_checked g ps t heard

pub same_waits_or_on : (g : Going) (j : Job) (work : Work) (rest : List Awaited) (heard : List Heard)
    → Same g.file.kept (waits_or_on g j work rest heard)
same_waits_or_on g j work [] heard = same_on j.kind work heard g
same_waits_or_on g j work (c ∷ cs) heard = record { number = refl; map = refl; first_tag = refl }

-- ---- a component is lost meanwhile

pub same_refills : (g : Going) (t : Target) (ps : List Piece) (gone : Bool) → Same g.file.kept (refills g t ps gone)
same_refills g t ps true = same_gone g t
same_refills g t ps false = same_fills g t ps

pub same_here : (g : Going) → Same g.file.kept g
same_here g = record { number = refl; map = refl; first_tag = refl }

pub same_remakes : (g : Going) (t : Target) (gone : Bool) → Same g.file.kept (remakes g t gone)
same_remakes g t true = same_gone g t
same_remakes g t false = same_here g

pub same_loses : (g : Going) (j : Job) (work : Work) (rest : List Awaited) (gone : Bool)
    → Same g.file.kept (loses g j work rest gone)
unfolding loses
same_loses g j (Fetches ps short) rest gone = same_repairs j.kind g ps short
same_loses g j (Stores ps short broken) rest gone = same_waits_or_on g j _ rest _
same_loses g j (Targets t) rest gone = same_remakes g t gone
same_loses g j (Gathers t ps) rest gone = same_refills g t ps gone
same_loses g j (Fills t ps) rest gone = same_refills g t ps gone
same_loses g j (Checks ps t) rest gone = same_audits g ps t
same_loses g j work rest gone = same_waits_or_on g j work rest j.heard

pub same_declared : (g : Going) (drive : ℕ) (j : Option Job) → Same g.file.kept (declared_in g drive j)
same_declared g drive None = same_here g
same_declared g drive (Some j) = same_loses g j j.work _ _

pub same_declares : (g : Going) (drive : ℕ) → Same g.file.kept (declares g drive)
unfolding declares
same_declares g drive = elim (cases_Bool (any_on drive g.file.kept.components || targets g.file.job drive)) [
  | inl e ↦ rw e (same_declared _ drive g.file.job)
  | inr e ↦ rw e (same_here g)
]

-- ---- a drive's reply

same_full : (g : Going) (j : Job) (a : Awaited) (work : Work) → Same g.file.kept (fills_up g j a work)
same_full g j a (Targets t) = same_target_full g t
same_full g j a (Gathers t ps) = same_target_full g t
same_full g j a (Fills t ps) = same_target_full g t
same_full g j a work = same_loses _ j work _ false

pub same_hears : (g : Going) (j : Job) (a : Awaited) (r : Reply) (as_ : Hearing) → Same g.file.kept (hears g j a r as_)
same_hears g j a r Older = record { number = refl; map = refl; first_tag = refl }
same_hears g j a r Full = same_full g j a j.work
same_hears g j a r Done = same_waits_or_on g j j.work (others j.awaited a.command.nonce) (heard_with j a r)
same_hears g j a r Nothing = same_here g

-- ---- a fence, and an opening

pub same_fence : (kind : JobKind) (format : ℕ) (g : Going) → Same g.file.kept (fence_begins kind format g)
unfolding fence_begins
same_fence kind format g = same_fences kind _

same_opens_made : (g : Going) (ready : Bool) → Same g.file.kept (opens_made g ready)
same_opens_made g true = same_over g
same_opens_made g false = same_making g

same_opens_fenced : (format : ℕ) (g : Going) → Same g.file.kept (opens_fenced format g)
unfolding opens_fenced
same_opens_fenced format g = elim (cases_Bool (g.file.kept.tag == GREATEST_TAG)) [
  | inl e ↦ rw e (record { number = refl; map = refl; first_tag = refl })
  | inr e ↦ rw e (same_fence Revoking format g)
]

pub same_opens : (format : ℕ) (g : Going) → Same g.file.kept (opens format g)
unfolding opens
same_opens format g = elim (cases_Bool (is_unsettled g.file.kept)) [
  | inl e ↦ rw e (same_opens_fenced format g)
  | inr e ↦ rw e (same_opens_made g g.file.kept.ready)
]

-- ---- LAYOUTGET

same_late : (go : Going) (g : Grant) (l : Late) → Same go.file.kept (by_late go g l).going
same_late go g NoNumber = same_here go
same_late go g (Lacks k) = same_here go
same_late go g (Conflict holder) = same_here go
same_late go g Gives = record { number = refl; map = refl; first_tag = refl }

same_given : (go : Going) (next : ℕ) (g : Grant) → Same go.file.kept (give_or_refuse go next g).going
unfolding give_or_refuse
same_given go next g = same_late go g (late go.file.kept next g)

same_after_fence : (go : Going) (next : ℕ) (g : Grant) (j : Option Job) → Same go.file.kept (after_fence go next g j).going
same_after_fence go next g None = same_given go next g
same_after_fence go next g (Some j) = same_here go

same_fence_first : (go : Going) (next format : ℕ) (g : Grant) → Same go.file.kept (fence_first go next format g).going
unfolding fence_first
same_fence_first go next format g = elim (cases_Bool (go.file.kept.tag == GREATEST_TAG)) [
  | inl e ↦ rw e (record { number = refl; map = refl; first_tag = refl })
  | inr e ↦ rw e (then_same go.file.kept (fence_begins Revoking format go)
      (fence_then (fence_begins Revoking format go) next g).going (same_fence Revoking format go)
      (same_after_fence (fence_begins Revoking format go) next g (fence_begins Revoking format go).file.job))
]

same_on_grants : (go : Going) (next format now : ℕ) (g : Grant) → Same go.file.kept (on_grants go next format now g).going
unfolding on_grants
same_on_grants go next format now g = elim (cases_Bool (must_fence now go.file.kept.grants g)) [
  | inl e ↦ rw e (same_fence_first go next format g)
  | inr e ↦ rw e (same_given go next g)
]

same_early : (go : Going) (next format now : ℕ) (g : Grant) (e : Early)
    → Same go.file.kept (by_early go next format now g e).going
same_early go next format now g BadMode = same_here go
same_early go next format now g Invalid = same_here go
same_early go next format now g Unable = same_here go
same_early go next format now g (Waits k) = same_here go
same_early go next format now g On = same_on_grants go next format now g

same_gets : (go : Going) (next format now client iomode offset count : ℕ)
    → Same go.file.kept (gets go next format now client iomode offset count).going
unfolding gets
same_gets go next format now client iomode offset count =
    same_early go next format now _ (early go.file iomode offset count)

-- ---- LAYOUTCOMMIT and LAYOUTRETURN

same_commit : (go : Going) (c : Committed) → Same go.file.kept (by_commit go c).going
same_commit go NoneCommits = same_here go
same_commit go Wrong = same_here go
same_commit go (Sizes size) = record { number = refl; map = refl; first_tag = refl }

same_commits : (go : Going) (client : ℕ) (last : Option ℕ) → Same go.file.kept (commits go client last).going
unfolding commits
same_commits go client last = same_commit go (commit_row go.file.kept client last)

same_reports : (go : Going) (ks : List ℕ) (cs : List Component) (k : ℕ) → Same go.file.kept (reports_from go ks cs k)
unfolding reports_from
same_reports go ks [] k = same_here go
same_reports go ks (at ∷ cs) k = same_reports (noting_if (among k ks) go (Reported k)) ks cs (k + 1)

same_loss : (go : Going) (ks : List ℕ) → Same go.file.kept (takes_loss go ks)
unfolding takes_loss
same_loss go ks = same_reports (keeping go (record go.file.kept { components = lose_from ks go.file.kept.components 0 })) ks
    go.file.kept.components 0

same_return : (go : Going) (format client : ℕ) (r : Returned) → Same go.file.kept (by_return go format client r).going
same_return go format client NoGrant = same_here go
same_return go format client Clean = record { number = refl; map = refl; first_tag = refl }
same_return go format client (Taken ks) =
    then_same go.file.kept (takes_loss go ks) (ends_grant (takes_loss go ks) client) (same_loss go ks)
    (record { number = refl; map = refl; first_tag = refl })
same_return go format client TooMany = record { number = refl; map = refl; first_tag = refl }
same_return go format client Fencing = same_fence Revoking format go

same_returns : (go : Going) (format client : ℕ) (report : List IoErr)
    → Same go.file.kept (returns_on go format client report).going
unfolding returns_on
same_returns go format client report = same_return go format client (return_row go.file.kept client report)

pub same_serves : (go : Going) (next format now client : ℕ) (r : RequestArgs)
    → Same go.file.kept (serves go next format now client r).going
same_serves go next format now client (Get iomode offset count) = same_gets go next format now client iomode offset count
same_serves go next format now client (Commit last) = same_commits go client last
same_serves go next format now client (Return report) = same_returns go format client report
