-- What each handler leaves of its file: it is the same file, its job rests, and its grants don't conflict.
use Rattle.std.specs.Prelude.{ℕ, Bool, true, false, List, [], ◌∷◌, Option, Some, None, refl, ◌≡◌, ◌+◌, ◌++◌, ◌==◌, ◌||◌, not, nat_lt, length, find, map}
use Rattle.std.proofs.Common.{arith, inl, inr, ◌∙◌}
use Rattle.std.proofs.lemmas.Bool.{cases_Bool}
use Rattle.std.proofs.lemmas.Bool.Decides.{nat_tests}
use Rattle.data_map.specs.declared.ranges.TheConstants.{MAX_FILE_SIZE}
use Rattle.server_rules.specs.declared.limits.TheConstants.{GREATEST_TAG, GREATEST_GRANT}
use Rattle.server_rules.specs.State.{File, Kept, Grant, Component, Awaited, Job, JobKind, Work, Reply, IoErr, RequestArgs, Get, Commit, Return, Revoking, Spent, Reported, Targets, Gathers, Fills}
use Rattle.server_rules.specs.Grants.{conflicts, grant_of, without}
use Rattle.server_rules.specs.Going.{Going, keeping, with_components, noting, noting_if}
use Rattle.server_rules.specs.Numbers.{among}
use Rattle.server_rules.specs.Standing.{lose_on, lose_from, any_on}
use Rattle.server_rules.specs.Jobs.{fence_begins, fences, ending, declares, declared_in, targets, making}
use Rattle.server_rules.specs.Replies.{Hearing, Older, Full, Done, Nothing, hearing, hears, renewed, fills_up, on_reply, heard_by, heard_in, answers}
use Rattle.server_rules.specs.Commands.{again_in_2}
use Rattle.server_rules.specs.Get.{Early, BadMode, Invalid, Unable, Waits, On, Late, NoNumber, Lacks, Conflict, Gives, by_job, early, late, lacked, by_lacked, by_late, give_or_refuse, after_fence, fence_then, fence_first, must_fence, on_grants, by_early, gets}
use Rattle.server_rules.specs.Commit.{Committed, Wrong, Sizes, NoGrant as NoCommit, by_commit, commits, commit_row}
use Rattle.server_rules.specs.Return.{Returned, NoGrant, Clean, Taken, TooMany, Fencing, reports_from, takes_loss, ends_grant, by_return, return_row, returns_on}
use Rattle.server_rules.specs.Requests.{serves}
use Rattle.server_rules.specs.Openings.{opens, opens_made, opens_fenced, is_unsettled}
use Rattle.server_rules.specs.Laws.{Rests, NoneBeside, Ran, IsSafe, Leaves}
use Rattle.server_rules.proofs.Runs.{ran_here, ran_full, ran_loses, ran_waits_or_on, ran_fences, ran_declares, ran_making}
use Rattle.server_rules.proofs.GrantLaws.{apart_none, apart_same, apart_more, apart_without}

-- ---- from the job machine

pub alone_by : (j : Option Job) (gs : List Grant) → gs ≡ [] → NoneBeside j gs
alone_by None gs e = tt
alone_by (Some j) gs e = e

pub no_job_beside : (j : Option Job) (gs : List Grant) → j ≡ None → NoneBeside j gs
no_job_beside None gs e = tt
no_job_beside (Some j) gs e = absurd (cc e)

-- no job begins, and the grants stay
pub alone_from : (j i : Option Job) (gs hs : List Grant) → (j ≡ None → i ≡ None) → hs ≡ gs → NoneBeside j gs → NoneBeside i hs
alone_from None i gs hs n e a = no_job_beside i hs (n refl)
alone_from (Some j) i gs hs n e a = alone_by i hs (e ∙ a)

pub alone_without : (j : Option Job) (gs : List Grant) (client : ℕ) → NoneBeside j gs → NoneBeside j (without gs client)
alone_without None gs client a = tt
alone_without (Some j) gs client a = rw a refl

-- a job that ran on beside no grant
pub left_by : (k : Kept) (g : Going) → Ran k g → k.grants ≡ [] → Leaves k g
left_by k g r e = record {
  number = r.number;
  safe = record {
    rests = r.rests;
    apart = apart_same g.file.kept.grants [] (r.grants ∙ e) apart_none;
    alone = alone_by g.file.job g.file.kept.grants (r.grants ∙ e);
  };
}

pub leaves_here : (g : Going) → IsSafe g.file → Leaves g.file.kept g
leaves_here g s = record { number = refl; safe = s }

pub leaves_fence : (kind : JobKind) (format : ℕ) (g : Going) → Leaves g.file.kept (fence_begins kind format g)
unfolding fence_begins
leaves_fence kind format g =
    left_by (ending g.file.kept format) (fences kind (keeping g (ending g.file.kept format)))
    (ran_fences kind (keeping g (ending g.file.kept format))) refl

pub none_in : (g : Going) (drive : ℕ) (j : Option Job) → j ≡ None → g.file.job ≡ None → (declared_in g drive j).file.job ≡ None
none_in g drive None e n = n
none_in g drive (Some j) e n = absurd (cc e)

-- where no job runs, none begins
pub none_declared : (g : Going) (drive : ℕ) → g.file.job ≡ None → (declares g drive).file.job ≡ None
unfolding declares
none_declared g drive n = elim (cases_Bool (any_on drive g.file.kept.components || targets g.file.job drive)) [
  | inl t ↦ rw t (none_in (with_components g (lose_on drive g.file.kept.components)) drive g.file.job n n)
  | inr z ↦ rw z n
]

pub leaves_declared : (g : Going) (drive : ℕ) → IsSafe g.file → Leaves g.file.kept (declares g drive)
leaves_declared g drive s = record {
  number = (ran_declares g drive s.rests).number;
  safe = record {
    rests = (ran_declares g drive s.rests).rests;
    apart = apart_same (declares g drive).file.kept.grants g.file.kept.grants (ran_declares g drive s.rests).grants s.apart;
    alone = alone_from g.file.job (declares g drive).file.job g.file.kept.grants (declares g drive).file.kept.grants
        (none_declared g drive)
        (ran_declares g drive s.rests).grants s.alone;
  };
}

pub leaves_made : (g : Going) (ready : Bool) → g.file.kept.grants ≡ [] → IsSafe g.file → Leaves g.file.kept (opens_made g ready)
leaves_made g true e s = record { number = refl; safe = record { rests = tt; apart = s.apart; alone = tt } }
leaves_made g false e s = left_by g.file.kept (making g) (ran_making g) e

pub leaves_new : (g : Going) → g.file.kept.grants ≡ [] → Leaves g.file.kept (making g)
leaves_new g e = left_by g.file.kept (making g) (ran_making g) e

pub none_there : (gs : List Grant) (b : Bool) → (nat_lt 0 (length gs) || b) ≡ false → gs ≡ []
none_there [] b e = refl
none_there (g ∷ gs) b e = absurd (grind (arith, nat_tests, e))

pub leaves_reopened : (format : ℕ) (g : Going) → IsSafe g.file → Leaves g.file.kept (opens_fenced format g)
unfolding opens_fenced
leaves_reopened format g s = elim (cases_Bool (g.file.kept.tag == GREATEST_TAG)) [
  | inl t ↦ rw t (record { number = refl; safe = s })
  | inr z ↦ rw z (leaves_fence Revoking format g)
]

pub leaves_opened : (format : ℕ) (g : Going) → IsSafe g.file → Leaves g.file.kept (opens format g)
unfolding opens
leaves_opened format g s = elim (cases_Bool (is_unsettled g.file.kept)) [
  | inl e ↦ rw e (leaves_reopened format g s)
  | inr e ↦ rw e (leaves_made g g.file.kept.ready (none_there g.file.kept.grants _ e) s)
]

-- ---- a reply

pub some_renewed : (a b c : Awaited) (cs js : List Awaited) → js ≡ c ∷ cs →
    map (renewed a b) js ≡ renewed a b c ∷ map (renewed a b) cs
some_renewed a b c cs js e = rw e refl

pub ran_full_up : (g : Going) (j : Job) (a : Awaited) (work : Work) → Rests g.file.job → Ran g.file.kept (fills_up g j a work)
ran_full_up g j a (Targets t) h = ran_full g t
ran_full_up g j a (Gathers t todo) h = ran_full g t
ran_full_up g j a (Fills t todo) h = ran_full g t
ran_full_up g j a work h = ran_loses _ j work _ false h

pub ran_hears : (g : Going) (j : Job) (a : Awaited) (r : Reply) (as_ : Hearing) → Rests (Some j) → Rests g.file.job →
    Ran g.file.kept (hears g j a r as_)
ran_hears g j a r Older w h = record {
  number = refl;
  map = refl;
  size = refl;
  high = refl;
  grants = refl;
  rests = (
    renewed a (again_in_2 a g.effects.nonce) w.0,
    map (renewed a (again_in_2 a g.effects.nonce)) w.1,
    some_renewed a _ w.0 w.1 j.awaited w.2,
  );
}
ran_hears g j a r Full w h = ran_full_up g j a j.work h
ran_hears g j a r Done w h = ran_waits_or_on g j j.work _ _
ran_hears g j a r Nothing w h = ran_here g h

abbrev pub Heard_out : Kept → Option Going → Type 0
Heard_out k None = Unit {0}
Heard_out k (Some g) = Leaves k g

pub out_by : (g : Going) (r : Reply) (j : Job) (o : Option Awaited) → Rests (Some j) → g.file.kept.grants ≡ [] → IsSafe g.file →
    Heard_out g.file.kept (heard_by g r j o)
out_by g r j None w e s = tt
out_by g r j (Some a) w e s =
    left_by g.file.kept (hears g j a r (hearing g.file.kept a r)) (ran_hears g j a r (hearing g.file.kept a r) w s.rests) e

pub out_in : (g : Going) (drive : ℕ) (r : Reply) (j : Option Job) → g.file.job ≡ j → IsSafe g.file →
    Heard_out g.file.kept (heard_in g drive r j)
out_in g drive r None e s = tt
out_in g drive r (Some j) e s = out_by g r j (find (answers drive r) j.awaited) (rw e at s.rests) (rw e at s.alone) s

pub leaves_reply : (g : Going) (drive : ℕ) (r : Reply) → IsSafe g.file → Heard_out g.file.kept (on_reply g drive r)
unfolding on_reply
leaves_reply g drive r s = out_in g drive r g.file.job refl s

-- ---- LAYOUTGET

pub by_lacked_gives : (l : Option ℕ) (o : Option Grant) → by_lacked l o ≡ Gives → o ≡ None
by_lacked_gives (Some k) o e = absurd (cc e)
by_lacked_gives None None e = refl
by_lacked_gives None (Some d) e = absurd (cc e)

-- the grant is given where it conflicts with none
pub given : (f : Kept) (next : ℕ) (g : Grant) → late f next g ≡ Gives → find (conflicts g) f.grants ≡ None
unfolding late
given f next g e = elim (cases_Bool (nat_lt GREATEST_GRANT next)) [
  | inl t ↦ absurd (cc (rw t at e))
  | inr z ↦ by_lacked_gives (lacked f g) _ (rw z at e)
]

pub leaves_late : (go : Going) (next : ℕ) (g : Grant) (l : Late) → late go.file.kept next g ≡ l → go.file.job ≡ None →
    grant_of go.file.kept.grants g.client ≡ None → IsSafe go.file →
    Leaves go.file.kept (by_late go g l).going
leaves_late go next g NoNumber e n own s = leaves_here go s
leaves_late go next g (Lacks k) e n own s = leaves_here go s
leaves_late go next g (Conflict h) e n own s = leaves_here go s
leaves_late go next g Gives e n own s = record {
  number = refl;
  safe = record {
    rests = s.rests;
    apart = apart_more go.file.kept.grants g s.apart (given go.file.kept next g e) own;
    alone = no_job_beside go.file.job (go.file.kept.grants ++ (g ∷ [])) n;
  };
}

pub leaves_given : (go : Going) (next : ℕ) (g : Grant) → go.file.job ≡ None → grant_of go.file.kept.grants g.client ≡ None →
    IsSafe go.file →
    Leaves go.file.kept (give_or_refuse go next g).going
unfolding give_or_refuse
leaves_given go next g n own s = leaves_late go next g (late go.file.kept next g) refl n own s

pub leaves_after : (go : Going) (next : ℕ) (g : Grant) (j : Option Job) → go.file.job ≡ j →
    grant_of go.file.kept.grants g.client ≡ None → IsSafe go.file →
    Leaves go.file.kept (after_fence go next g j).going
leaves_after go next g None n own s = leaves_given go next g n own s
leaves_after go next g (Some j) n own s = leaves_here go s

-- one after the other
pub then_leaves : (k : Kept) (g h : Going) → Leaves k g → Leaves g.file.kept h → Leaves k h
then_leaves k g h a b = record { number = b.number ∙ a.number; safe = b.safe }

-- a fence leaves no grant
pub fence_leaves_none : (kind : JobKind) (format : ℕ) (g : Going) → (fence_begins kind format g).file.kept.grants ≡ []
unfolding fence_begins
fence_leaves_none kind format g = (ran_fences kind (keeping g (ending g.file.kept format))).grants

pub nobody_left : (gs : List Grant) (client : ℕ) → gs ≡ [] → grant_of gs client ≡ None
nobody_left gs client e = rw e refl

-- the asking client has no grant where no fence must come first
pub no_fence : (now : ℕ) (gs : List Grant) (g : Grant) → must_fence now gs g ≡ false → grant_of gs g.client ≡ None
unfolding must_fence
no_fence now gs g e = grind (arith, e)

pub leaves_first : (go : Going) (next format : ℕ) (g : Grant) → IsSafe go.file →
    Leaves go.file.kept (fence_first go next format g).going
unfolding fence_first
leaves_first go next format g s = elim (cases_Bool (go.file.kept.tag == GREATEST_TAG)) [
  | inl t ↦ rw t (record { number = refl; safe = s })
  | inr z ↦ rw z
      (then_leaves go.file.kept (fence_begins Revoking format go) (fence_then (fence_begins Revoking format go) next g).going
      (leaves_fence Revoking format go)
      (leaves_after (fence_begins Revoking format go) next g (fence_begins Revoking format go).file.job refl
      (nobody_left (fence_begins Revoking format go).file.kept.grants g.client (fence_leaves_none Revoking format go))
      (leaves_fence Revoking format go).safe))
]

pub leaves_grants : (go : Going) (next format now : ℕ) (g : Grant) → go.file.job ≡ None → IsSafe go.file →
    Leaves go.file.kept (on_grants go next format now g).going
unfolding on_grants
leaves_grants go next format now g n s = elim (cases_Bool (must_fence now go.file.kept.grants g)) [
  | inl t ↦ rw t (leaves_first go next format g s)
  | inr z ↦ rw z (leaves_given go next g n (no_fence now go.file.kept.grants g z) s)
]

-- no job runs where none of the first rows applies
pub no_job_on : (j : Option Job) → by_job j ≡ On → j ≡ None
no_job_on None e = refl
no_job_on (Some j) e = absurd (cc e)

pub idle : (f : File) (iomode offset count : ℕ) → early f iomode offset count ≡ On → f.job ≡ None
unfolding early
idle f iomode offset count e = elim (cases_Bool (not ((iomode == 1) || (iomode == 2)))) [
  | inl t ↦ absurd (cc (rw t at e))
  | inr z ↦ elim (cases_Bool ((count == 0) || nat_lt MAX_FILE_SIZE (offset + count))) [
    | inl t ↦ absurd (cc (rw (z, t) at e))
    | inr y ↦ elim (cases_Bool f.spent) [ inl t ↦ absurd (cc (rw (z, y, t) at e)) | inr x ↦ no_job_on f.job (rw (z, y, x) at e) ]
  ]
]

pub leaves_early : (go : Going) (next format now : ℕ) (g : Grant) (e : Early) → (e ≡ On → go.file.job ≡ None) → IsSafe go.file →
    Leaves go.file.kept (by_early go next format now g e).going
leaves_early go next format now g BadMode n s = leaves_here go s
leaves_early go next format now g Invalid n s = leaves_here go s
leaves_early go next format now g Unable n s = leaves_here go s
leaves_early go next format now g (Waits k) n s = leaves_here go s
leaves_early go next format now g On n s = leaves_grants go next format now g (n refl) s

pub leaves_gets : (go : Going) (next format now client iomode offset count : ℕ) → IsSafe go.file →
    Leaves go.file.kept (gets go next format now client iomode offset count).going
unfolding gets
leaves_gets go next format now client iomode offset count s =
    leaves_early go next format now _ (early go.file iomode offset count) (idle go.file iomode offset count) s

-- ---- LAYOUTCOMMIT and LAYOUTRETURN

pub leaves_commit : (go : Going) (c : Committed) → IsSafe go.file → Leaves go.file.kept (by_commit go c).going
leaves_commit go NoCommit s = leaves_here go s
leaves_commit go Wrong s = leaves_here go s
leaves_commit go (Sizes size) s = record { number = refl; safe = s }

pub leaves_commits : (go : Going) (client : ℕ) (last : Option ℕ) → IsSafe go.file →
    Leaves go.file.kept (commits go client last).going
unfolding commits
leaves_commits go client last s = leaves_commit go (commit_row go.file.kept client last) s

pub leaves_reports : (go : Going) (ks : List ℕ) (cs : List Component) (k : ℕ) → IsSafe go.file →
    Leaves go.file.kept (reports_from go ks cs k)
unfolding reports_from
leaves_reports go ks [] k s = leaves_here go s
leaves_reports go ks (at ∷ cs) k s = leaves_reports (noting_if (among k ks) go (Reported k)) ks cs (k + 1) s

pub leaves_loss : (go : Going) (ks : List ℕ) → IsSafe go.file → Leaves go.file.kept (takes_loss go ks)
unfolding takes_loss
leaves_loss go ks s =
    leaves_reports
    (keeping go (record go.file.kept { components = lose_from ks go.file.kept.components 0 })) ks go.file.kept.components 0 s

pub leaves_ended : (go : Going) (client : ℕ) → IsSafe go.file → Leaves go.file.kept (ends_grant go client)
leaves_ended go client s = record {
  number = refl;
  safe = record {
    rests = s.rests;
    apart = apart_without go.file.kept.grants client s.apart;
    alone =
        alone_without go.file.job go.file.kept.grants client s.alone;
  };
}

pub leaves_return : (go : Going) (format client : ℕ) (r : Returned) → IsSafe go.file →
    Leaves go.file.kept (by_return go format client r).going
leaves_return go format client NoGrant s = leaves_here go s
leaves_return go format client Clean s = leaves_ended go client s
leaves_return go format client (Taken ks) s =
    then_leaves go.file.kept (takes_loss go ks) (ends_grant (takes_loss go ks) client) (leaves_loss go ks s)
    (leaves_ended (takes_loss go ks) client (leaves_loss go ks s).safe)
leaves_return go format client TooMany s = leaves_here (noting go Spent) s
leaves_return go format client Fencing s = leaves_fence Revoking format go

pub leaves_returns : (go : Going) (format client : ℕ) (report : List IoErr) → IsSafe go.file →
    Leaves go.file.kept (returns_on go format client report).going
unfolding returns_on
leaves_returns go format client report s = leaves_return go format client (return_row go.file.kept client report) s

-- ---- a request

pub leaves_served : (go : Going) (next format now client : ℕ) (args : RequestArgs) → IsSafe go.file →
    Leaves go.file.kept (serves go next format now client args).going
leaves_served go next format now client (Get iomode offset count) s = leaves_gets go next format now client iomode offset count s
leaves_served go next format now client (Commit last) s = leaves_commits go client last s
leaves_served go next format now client (Return report) s = leaves_returns go format client report s
