-- The answer to a request that is carried out never says that it is misordered.
use Rattle.std.proofs.Common.{◌≡◌, ◌≢◌, ◌==◌, ℕ, Bool, true, false, List, Option, Some, None, refl, sym, ap, ◌∙◌, inl, inr, eq-eqb, if◌then◌else◌}
use Rattle.std.proofs.lemmas.Bool.{cases_Bool}
use Rattle.layout_ops.specs.declared.statuses.TheConstants.{NFS4_OK, NFS4ERR_LAYOUTTRYLATER, NFS4ERR_SEQ_MISORDERED}
use Rattle.layout_ops.specs.declared.messages.Answer.{Answer}
use Rattle.server_rules.specs.declared.limits.TheConstants.{GREATEST_TAG}
use Rattle.server_rules.specs.declared.requests.RequestArgs.{RequestArgs}
use Rattle.server_rules.specs.declared.requests.RequestArgs.TheVariants.{Get, Commit, Return}
use Rattle.server_rules.specs.declared.requests.ClientRequest.{ClientRequest}
use Rattle.server_rules.specs.declared.server.Server.{Server}
use Rattle.server_rules.specs.declared.server.Drive.{Drive}
use Rattle.server_rules.specs.declared.files.File.{File}
use Rattle.server_rules.specs.declared.files.Kept.{Kept}
use Rattle.server_rules.specs.declared.grants.Grant.{Grant}
use Rattle.server_rules.specs.declared.jobs.Job.{Job}
use Rattle.server_rules.specs.Answers.{result_of, result_with}
use Rattle.server_rules.specs.Files.{file_at, at_file}
use Rattle.server_rules.specs.Going.{Going}
use Rattle.server_rules.specs.Served.{Served}
use Rattle.server_rules.specs.Get.{Early, BadMode, Invalid, Unable, Waits, On, Late, NoNumber, Lacks, Conflict, Gives, by_late, late, give_or_refuse, after_fence, fence_first, on_grants, must_fence, by_early, gets}
use Rattle.server_rules.specs.Commit.{Committed, NoGrant, Wrong, Sizes, by_commit, commits}
use Rattle.server_rules.specs.Return.{Returned, NoGrant as NotHeld, Clean, Taken, TooMany, Fencing, by_return, returns_on}
use Rattle.server_rules.specs.Requests.{serves, no_file}
use Rattle.client_rules.specs.Results.{status_of}
use Rattle.scenario_text.specs.declared.line.Line.{Line}
use Rattle.history_law.specs.State.{Request}
use Rattle.exchange_law.specs.Made.{WasMade, answer_at}

-- ---- statuses

abbrev IsOther : ℕ → Type 0
IsOther status = (status == NFS4ERR_SEQ_MISORDERED) ≡ false

abbrev InOrder : Served → Type 0
InOrder v = IsOther v.told.status

either_served : (b : Bool) (x y : Served) → InOrder x → InOrder y → InOrder (if b then x else y)
either_served true x y p q = p
either_served false x y p q = q

late_other : (go : Going) (g : Grant) (l : Late) → InOrder (by_late go g l)
late_other go g NoNumber = refl
late_other go g (Lacks k) = refl
late_other go g (Conflict holder) = refl
late_other go g Gives = refl

give_other : (go : Going) (next : ℕ) (g : Grant) → InOrder (give_or_refuse go next g)
unfolding give_or_refuse
give_other go next g = late_other go g (late go.file.kept next g)

after_other : (go : Going) (next : ℕ) (g : Grant) (j : Option Job) → InOrder (after_fence go next g j)
after_other go next g None = give_other go next g
after_other go next g (Some j) = refl

fence_other : (go : Going) (next format : ℕ) (g : Grant) → InOrder (fence_first go next format g)
unfolding fence_first
fence_other go next format g =
    either_served (go.file.kept.tag == GREATEST_TAG) _ _ refl (after_other _ next g _)

grants_other : (go : Going) (next format now : ℕ) (g : Grant) → InOrder (on_grants go next format now g)
unfolding on_grants
grants_other go next format now g =
    either_served (must_fence now go.file.kept.grants g) _ _ (fence_other go next format g) (give_other go next g)

early_other : (go : Going) (next format now : ℕ) (g : Grant) (e : Early) → InOrder (by_early go next format now g e)
early_other go next format now g BadMode = refl
early_other go next format now g Invalid = refl
early_other go next format now g Unable = refl
early_other go next format now g (Waits k) = refl
early_other go next format now g On = grants_other go next format now g

commit_other : (go : Going) (c : Committed) → InOrder (by_commit go c)
commit_other go NoGrant = refl
commit_other go Wrong = refl
commit_other go (Sizes size) = refl

return_other : (go : Going) (format client : ℕ) (r : Returned) → InOrder (by_return go format client r)
return_other go format client NotHeld = refl
return_other go format client Clean = refl
return_other go format client (Taken ks) = refl
return_other go format client TooMany = refl
return_other go format client Fencing = refl

served_other : (go : Going) (next format now client : ℕ) (a : RequestArgs)
    → InOrder (serves go next format now client a)
unfolding gets commits returns_on
served_other go next format now client (Get iomode offset count) = early_other go next format now _ _
served_other go next format now client (Commit last) = commit_other go _
served_other go next format now client (Return report) = return_other go format client _

-- ---- results

plain_other : (a : RequestArgs) (status : ℕ) → IsOther status → IsOther (status_of (result_of a status))
plain_other (Get iomode offset count) status o = elim (cases_Bool (status == NFS4ERR_LAYOUTTRYLATER)) [
  | inl t ↦ rw t refl
  | inr f ↦ rw f o
]
plain_other (Commit last) status o = elim (cases_Bool (status == NFS4_OK)) [ inl t ↦ rw t refl | inr f ↦ rw f o ]
plain_other (Return report) status o = elim (cases_Bool (status == NFS4_OK)) [ inl t ↦ rw t refl | inr f ↦ rw f o ]

with_other : (ds : List Drive) (f : Kept) (a : RequestArgs) (status : ℕ) (g : Option Grant) → IsOther status
    → IsOther (status_of (result_with ds f a status g))
with_other ds f a status None o = plain_other a status o
with_other ds f a status (Some g) o = refl

without_other : (a : RequestArgs) → IsOther (no_file a)
without_other (Get iomode offset count) = refl
without_other (Commit last) = refl
without_other (Return report) = refl

answer_other : (s : Server) (now : ℕ) (chosen : List ℕ) (q : ClientRequest) (f : Option File)
    → IsOther (status_of (answer_at s now chosen q f).results)
answer_other s now chosen q None = plain_other q.args (no_file q.args) (without_other q.args)
answer_other s now chosen q (Some f) =
    let v : Served = serves (at_file s chosen f) s.next_grant s.format now q.client q.args in
    with_other s.drives v.going.file.kept q.args v.told.status v.told.grant
    (served_other (at_file s chosen f) s.next_grant s.format now q.client q.args)

is_not : (status : ℕ) → IsOther status → status ≢ NFS4ERR_SEQ_MISORDERED
is_not status o e = absurd (cc (sym o ∙ eq-eqb status NFS4ERR_SEQ_MISORDERED e))

pub made_in_order : (h : List Line) (c : ℕ) (r : Request) (a : Answer) → WasMade h c r a
    → status_of a.results ≢ NFS4ERR_SEQ_MISORDERED
made_in_order h c r a m =
    let s : Server = m.world.server in
    is_not (status_of a.results)
    (ap (λ (x : Answer). status_of x.results == NFS4ERR_SEQ_MISORDERED) m.answer
    ∙ answer_other s m.world.clock m.next.chosen m.request (file_at s.files m.request.file))
