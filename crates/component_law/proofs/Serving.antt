-- What each handler makes of its file's components.
use Rattle.std.proofs.Common.{◌≡◌, ℕ, ◌==◌, ◌||◌, ◌∷◌, [], List, Bool, true, false, Option, Some, None, find, refl, sym, subst, inl, inr}
use Rattle.std.proofs.lemmas.Bool.{cases_Bool}
use Rattle.osd_lists.proofs.Tests.{first_false}
use Rattle.server_rules.specs.declared.limits.TheConstants.{GREATEST_TAG}
use Rattle.server_rules.specs.Going.{Going, with_components, noting}
use Rattle.server_rules.specs.Standing.{lose_on, lose_from, any_on}
use Rattle.server_rules.specs.Jobs.{fence_begins, declares, declared_in, targets}
use Rattle.server_rules.specs.Replies.{Hearing, Older, Full, Done, Nothing, hearing, hears, fills_up, on_reply, heard_by, heard_in, answers}
use Rattle.server_rules.specs.Get.{Early, BadMode, Invalid, Unable, Waits, On, Late, NoNumber, Lacks, Conflict, Gives, early, late, by_late, give_or_refuse, after_fence, fence_first, must_fence, on_grants, by_early, gets}
use Rattle.server_rules.specs.Commit.{Committed, Wrong, Sizes, NoGrant as NoCommit, by_commit, commits, commit_row}
use Rattle.server_rules.specs.Return.{Returned, NoGrant, Clean, Taken, TooMany, Fencing, by_return, return_row, returns_on}
use Rattle.server_rules.specs.Requests.{serves}
use Rattle.server_rules.specs.Openings.{opens, opens_made, opens_fenced, is_unsettled}
use Rattle.world_history.specs.ServerNames.{Kept, File, Grant, Reply, IoErr, RequestArgs, Get, Commit, Return, Note, Awaited, Job, Work, Revoking, Targets, Gathers, Fills, NoSpace, Spent}
use Rattle.component_law.specs.Sound.{IsAim, IsAimed}
use Rattle.component_law.proofs.Drives.{apart_again}
use Rattle.component_law.proofs.Components.{none_lost_on, alike_same}
use Rattle.component_law.proofs.FileNotes.{Tells, Ends, tells_plain, tells_lost, tells_first}
use Rattle.component_law.proofs.Targets.{AreKnown, aim_lost, aim_declared}
use Rattle.component_law.proofs.Jobs.{ends_full, ends_loses, ends_waits_or_on, ends_fence, ends_making}
use Rattle.component_law.proofs.Reports.{ends_loss}
use Rattle.component_law.specs.Objects.{target_of, target_in}

-- the target of the job that runs
aim_of : (f : File) (j : Job) → f.job ≡ Some j → IsAimed f → IsAim f.kept.components (target_in j.work)
aim_of f j e a = subst (λ (o : Option Job). IsAim f.kept.components (target_of o)) e a

-- ---- a reply

ends_up : (k : Kept) (before : List Note) (g : Going) (j : Job) (a : Awaited) (work : Work) → Ends k before g
    → AreKnown g.drives → IsAim g.file.kept.components (target_in work) → Ends k before (fills_up g j a work)
ends_up k before g j a (Targets t) h known m = ends_full k before g t h.0 known m
ends_up k before g j a (Gathers t todo) h known m = ends_full k before g t h.0 known m
ends_up k before g j a (Fills t todo) h known m = ends_full k before g t h.0 known m
ends_up k before g j a work h known m =
    ends_loses k before
    (noting (with_components g (lose_from (a.component ∷ []) g.file.kept.components 0)) (NoSpace a.component)) j work _ false (
      tells_lost k before g a.component h.0,
      aim_lost (a.component ∷ []) g.file.kept.components (target_of g.file.job) h.1,
    )
    known (aim_lost (a.component ∷ []) g.file.kept.components (target_in work) m)

ends_hears : (k : Kept) (before : List Note) (g : Going) (j : Job) (a : Awaited) (r : Reply) (as_ : Hearing)
    → Ends k before g → AreKnown g.drives → g.file.job ≡ Some j → Ends k before (hears g j a r as_)
ends_hears k before g j a r Older h known e = (h.0, aim_of g.file j e h.1)
ends_hears k before g j a r Full h known e = ends_up k before g j a j.work h known (aim_of g.file j e h.1)
ends_hears k before g j a r Done h known e = ends_waits_or_on k before g j j.work _ _ h.0 known (aim_of g.file j e h.1)
ends_hears k before g j a r Nothing h known e = h

abbrev pub EndsOut : Kept → List Note → Option Going → Type 0
EndsOut k before None = Unit {0}
EndsOut k before (Some g) = Ends k before g

out_by : (k : Kept) (before : List Note) (g : Going) (r : Reply) (j : Job) (o : Option Awaited) → Ends k before g
    → AreKnown g.drives → g.file.job ≡ Some j → EndsOut k before (heard_by g r j o)
out_by k before g r j None h known e = tt
out_by k before g r j (Some a) h known e = ends_hears k before g j a r (hearing g.file.kept a r) h known e

out_in : (k : Kept) (before : List Note) (g : Going) (drive : ℕ) (r : Reply) (o : Option Job) → Ends k before g
    → AreKnown g.drives → g.file.job ≡ o → EndsOut k before (heard_in g drive r o)
out_in k before g drive r None h known e = tt
out_in k before g drive r (Some j) h known e = out_by k before g r j (find (answers drive r) j.awaited) h known e

pub ends_reply : (g : Going) (drive : ℕ) (r : Reply) → AreKnown g.drives → IsAimed g.file
    → EndsOut g.file.kept g.effects.notes (on_reply g drive r)
unfolding on_reply
ends_reply g drive r known a = out_in g.file.kept g.effects.notes g drive r g.file.job (tells_first g, a) known refl

-- ---- a drive is declared

abbrev pub without : Kept → (drive : ℕ) → Kept
without k d = record k { components = lose_on d k.components }

ends_declared : (k : Kept) (before : List Note) (g : Going) (drive : ℕ) (o : Option Job) → Ends k before g
    → AreKnown g.drives → g.file.job ≡ o → Ends k before (declared_in g drive o)
ends_declared k before g drive None h known e = h
ends_declared k before g drive (Some j) h known e = ends_loses k before g j j.work _ _ h known (aim_of g.file j e h.1)

untouched : (g : Going) (drive : ℕ) → any_on drive g.file.kept.components ≡ false
    → Tells (without g.file.kept drive) g.effects.notes g
untouched g drive e = record {
  number = refl;
  map = refl;
  kinds = [];
  notes = refl;
  tellable = tt;
  tags = (refl, tt);
  alike = rw (none_lost_on drive g.file.kept.components e) (alike_same g.file.kept.components);
  exact = λ q. sym (none_lost_on drive g.file.kept.components e);
  apart = λ x. apart_again drive g.file.kept.components x;
}

pub ends_declares : (g : Going) (drive : ℕ) → AreKnown g.drives → IsAimed g.file
    → Ends (without g.file.kept drive) g.effects.notes (declares g drive)
unfolding declares
ends_declares g drive known a = elim (cases_Bool (any_on drive g.file.kept.components || targets g.file.job drive)) [
  | inl e ↦ rw e (ends_declared (without g.file.kept drive) g.effects.notes
      (with_components g (lose_on drive g.file.kept.components)) drive g.file.job (
        tells_first (with_components g (lose_on drive g.file.kept.components)),
        aim_declared drive g.file.kept.components (target_of g.file.job) a,
      ) known refl)
  | inr e ↦ rw e (untouched g drive (first_false (any_on drive g.file.kept.components) (targets g.file.job drive) e), a)
]

-- ---- the server is opened

ends_made : (g : Going) (ready : Bool) → IsAimed g.file → Ends g.file.kept g.effects.notes (opens_made g ready)
ends_made g true a = (tells_first g, tt)
ends_made g false a = ends_making g.file.kept g.effects.notes g (tells_first g)

ends_reopened : (format : ℕ) (g : Going) → AreKnown g.drives → IsAimed g.file
    → Ends g.file.kept g.effects.notes (opens_fenced format g)
unfolding opens_fenced
ends_reopened format g known a = elim (cases_Bool (g.file.kept.tag == GREATEST_TAG)) [
  | inl t ↦ rw t (tells_plain g.file.kept g.effects.notes g Spent (λ cs. refl) refl refl refl (tells_first g), a)
  | inr z ↦ rw z (ends_fence g.file.kept g.effects.notes Revoking format g (tells_first g) known)
]

pub ends_opened : (format : ℕ) (g : Going) → AreKnown g.drives → IsAimed g.file
    → Ends g.file.kept g.effects.notes (opens format g)
unfolding opens
ends_opened format g known a = elim (cases_Bool (is_unsettled g.file.kept)) [
  | inl e ↦ rw e (ends_reopened format g known a)
  | inr e ↦ rw e (ends_made g g.file.kept.ready a)
]

-- ---- LAYOUTGET

ends_late : (k : Kept) (before : List Note) (go : Going) (g : Grant) (l : Late) → Ends k before go
    → Ends k before (by_late go g l).going
ends_late k before go g NoNumber h = h
ends_late k before go g (Lacks c) h = h
ends_late k before go g (Conflict d) h = h
ends_late k before go g Gives h = h

ends_given : (k : Kept) (before : List Note) (go : Going) (next : ℕ) (g : Grant) → Ends k before go
    → Ends k before (give_or_refuse go next g).going
unfolding give_or_refuse
ends_given k before go next g h = ends_late k before go g (late go.file.kept next g) h

ends_after : (k : Kept) (before : List Note) (go : Going) (next : ℕ) (g : Grant) (o : Option Job) → Ends k before go
    → Ends k before (after_fence go next g o).going
ends_after k before go next g None h = ends_given k before go next g h
ends_after k before go next g (Some j) h = h

ends_first : (go : Going) (next format : ℕ) (g : Grant) → AreKnown go.drives → IsAimed go.file
    → Ends go.file.kept go.effects.notes (fence_first go next format g).going
unfolding fence_first
ends_first go next format g known a = elim (cases_Bool (go.file.kept.tag == GREATEST_TAG)) [
  | inl t ↦ rw t (tells_plain go.file.kept go.effects.notes go Spent (λ cs. refl) refl refl refl (tells_first go), a)
  | inr z ↦ rw z (ends_after go.file.kept go.effects.notes (fence_begins Revoking format go) next g
      (fence_begins Revoking format go).file.job
      (ends_fence go.file.kept go.effects.notes Revoking format go (tells_first go) known))
]

ends_grants : (go : Going) (next format now : ℕ) (g : Grant) → AreKnown go.drives → IsAimed go.file
    → Ends go.file.kept go.effects.notes (on_grants go next format now g).going
unfolding on_grants
ends_grants go next format now g known a = elim (cases_Bool (must_fence now go.file.kept.grants g)) [
  | inl t ↦ rw t (ends_first go next format g known a)
  | inr z ↦ rw z (ends_given go.file.kept go.effects.notes go next g (tells_first go, a))
]

ends_early : (go : Going) (next format now : ℕ) (g : Grant) (e : Early) → AreKnown go.drives → IsAimed go.file
    → Ends go.file.kept go.effects.notes (by_early go next format now g e).going
ends_early go next format now g BadMode known a = (tells_first go, a)
ends_early go next format now g Invalid known a = (tells_first go, a)
ends_early go next format now g Unable known a = (tells_first go, a)
ends_early go next format now g (Waits k) known a = (tells_first go, a)
ends_early go next format now g On known a = ends_grants go next format now g known a

ends_gets : (go : Going) (next format now client iomode offset count : ℕ) → AreKnown go.drives → IsAimed go.file
    → Ends go.file.kept go.effects.notes (gets go next format now client iomode offset count).going
unfolding gets
ends_gets go next format now client iomode offset count known a =
    ends_early go next format now _ (early go.file iomode offset count) known a

-- ---- LAYOUTCOMMIT and LAYOUTRETURN

ends_commit : (go : Going) (c : Committed) → IsAimed go.file → Ends go.file.kept go.effects.notes (by_commit go c).going
ends_commit go NoCommit a = (tells_first go, a)
ends_commit go Wrong a = (tells_first go, a)
ends_commit go (Sizes size) a = (tells_first go, a)

ends_commits : (go : Going) (client : ℕ) (last : Option ℕ) → IsAimed go.file
    → Ends go.file.kept go.effects.notes (commits go client last).going
unfolding commits
ends_commits go client last a = ends_commit go (commit_row go.file.kept client last) a

ends_return : (go : Going) (format client : ℕ) (r : Returned) → AreKnown go.drives → IsAimed go.file
    → Ends go.file.kept go.effects.notes (by_return go format client r).going
ends_return go format client NoGrant known a = (tells_first go, a)
ends_return go format client Clean known a = (tells_first go, a)
ends_return go format client (Taken ks) known a = ends_loss go ks a
ends_return go format client TooMany known a =
    (tells_plain go.file.kept go.effects.notes go Spent (λ cs. refl) refl refl refl (tells_first go), a)
ends_return go format client Fencing known a =
    ends_fence go.file.kept go.effects.notes Revoking format go (tells_first go) known

ends_returns : (go : Going) (format client : ℕ) (report : List IoErr) → AreKnown go.drives → IsAimed go.file
    → Ends go.file.kept go.effects.notes (returns_on go format client report).going
unfolding returns_on
ends_returns go format client report known a =
    ends_return go format client (return_row go.file.kept client report) known a

-- ---- a request

pub ends_served : (go : Going) (next format now client : ℕ) (args : RequestArgs) → AreKnown go.drives → IsAimed go.file
    → Ends go.file.kept go.effects.notes (serves go next format now client args).going
ends_served go next format now client (Get iomode offset count) known a =
    ends_gets go next format now client iomode offset count known a
ends_served go next format now client (Commit last) known a = ends_commits go client last a
ends_served go next format now client (Return report) known a = ends_returns go format client report known a
