-- What a request is told: a grant is of the client that asks, and its file's latest.
use Rattle.std.proofs.Common.{◌≡◌, ◌==◌, ℕ, ◌++◌, ◌∷◌, [], List, Bool, true, false, Option, Some, None, refl, sym, ap, ◌∙◌, if◌then◌else◌}
use Rattle.layout_ops.specs.declared.results.LayoutGetResult.TheVariants as get
use Rattle.layout_ops.specs.declared.results.Results.TheVariants as results
use Rattle.layout_ops.specs.declared.statuses.TheConstants.{LAYOUTIOMODE4_RW, NFS4ERR_LAYOUTTRYLATER, NFS4ERR_LAYOUTUNAVAILABLE}
use Rattle.server_rules.specs.declared.limits.TheConstants.{GREATEST_TAG, NO_COMPONENT}
use Rattle.server_rules.specs.declared.requests.RequestArgs.{RequestArgs}
use Rattle.server_rules.specs.declared.requests.RequestArgs.TheVariants.{Get, Commit, Return}
use Rattle.server_rules.specs.declared.server.Drive.{Drive}
use Rattle.server_rules.specs.declared.files.Kept.{Kept}
use Rattle.server_rules.specs.declared.grants.Grant.{Grant}
use Rattle.server_rules.specs.declared.jobs.Job.{Job}
use Rattle.server_rules.specs.declared.jobs.JobKind.TheVariants.{Revoking}
use Rattle.server_rules.specs.Answers.{result_of, result_with}
use Rattle.server_rules.specs.declared.notes.NoteKind.TheVariants.{Spent}
use Rattle.server_rules.specs.Jobs.{fence_begins}
use Rattle.server_rules.specs.Grants.{asked}
use Rattle.server_rules.specs.Going.{Going, noting}
use Rattle.server_rules.specs.Served.{Served, says}
use Rattle.server_rules.specs.Get.{Early, BadMode, Invalid, Unable, Waits, On, Late, NoNumber, Lacks, Conflict, Gives, by_late, late, give_or_refuse, after_fence, fence_first, on_grants, must_fence, by_early, early, gets}
use Rattle.server_rules.specs.Commit.{Committed, NoGrant, Wrong, Sizes, by_commit, commits}
use Rattle.server_rules.specs.Return.{Returned, NoGrant as NotHeld, Clean, Taken, TooMany, Fencing, by_return, returns_on}
use Rattle.server_rules.specs.Requests.{serves}
use Rattle.history_law.specs.Granted.{GivesOwn}

-- ---- what a request is told

-- a grant that is told is the client's, and the file's latest
pub record IsOwn (client : ℕ) (v : Served) (g : Grant) : Type 0 where
  pub client_is : g.client ≡ client
  pub earlier : List Grant
  pub latest : v.going.file.kept.grants ≡ earlier ++ g ∷ []

abbrev pub TellsOwn : (client : ℕ) → Served → Type 0
TellsOwn client v = (g : Grant) → v.told.grant ≡ Some g → IsOwn client v g

told_none : (client : ℕ) (v : Served) → v.told.grant ≡ None → TellsOwn client v
told_none client v none g e = absurd (cc (sym none ∙ e))

either_served : (client : ℕ) (b : Bool) (x y : Served) → TellsOwn client x → TellsOwn client y
    → TellsOwn client (if b then x else y)
either_served client true x y p q = p
either_served client false x y p q = q

late_own : (client : ℕ) (go : Going) (g : Grant) (l : Late) → g.client ≡ client → TellsOwn client (by_late go g l)
late_own client go g NoNumber is = told_none client _ refl
late_own client go g (Lacks k) is = told_none client _ refl
late_own client go g (Conflict holder) is = told_none client _ refl
late_own client go g Gives is =
    λ x e. let same : g ≡ x = cc e in
    record {
      client_is = ap (λ (y : Grant). y.client) (sym same) ∙ is;
      earlier = go.file.kept.grants;
      latest = ap (λ (y : Grant). go.file.kept.grants ++ y ∷ []) same;
    }

give_own : (client : ℕ) (go : Going) (next : ℕ) (g : Grant) → g.client ≡ client
    → TellsOwn client (give_or_refuse go next g)
unfolding give_or_refuse
give_own client go next g is = late_own client go g (late go.file.kept next g) is

after_own : (client : ℕ) (go : Going) (next : ℕ) (g : Grant) (j : Option Job) → g.client ≡ client
    → TellsOwn client (after_fence go next g j)
after_own client go next g None is = give_own client go next g is
after_own client go next g (Some j) is = told_none client _ refl

fence_own : (client : ℕ) (go : Going) (next format : ℕ) (g : Grant) → g.client ≡ client
    → TellsOwn client (fence_first go next format g)
unfolding fence_first
fence_own client go next format g is =
    let fenced : Going = fence_begins Revoking format go in
    either_served client (go.file.kept.tag == GREATEST_TAG)
    (says (noting go Spent) NFS4ERR_LAYOUTUNAVAILABLE NO_COMPONENT) (after_fence fenced next g fenced.file.job)
    (told_none client _ refl) (after_own client fenced next g fenced.file.job is)

grants_own : (client : ℕ) (go : Going) (next format now : ℕ) (g : Grant) → g.client ≡ client
    → TellsOwn client (on_grants go next format now g)
unfolding on_grants
grants_own client go next format now g is =
    either_served client (must_fence now go.file.kept.grants g) _ _ (fence_own client go next format g is)
    (give_own client go next g is)

early_own : (client : ℕ) (go : Going) (next format now : ℕ) (g : Grant) (e : Early) → g.client ≡ client
    → TellsOwn client (by_early go next format now g e)
early_own client go next format now g BadMode is = told_none client _ refl
early_own client go next format now g Invalid is = told_none client _ refl
early_own client go next format now g Unable is = told_none client _ refl
early_own client go next format now g (Waits k) is = told_none client _ refl
early_own client go next format now g On is = grants_own client go next format now g is

pub asked_client : (f : Kept) (number client now offset count : ℕ) (b : Bool)
    → (asked f number client now offset count b).client ≡ client
unfolding asked
asked_client f number client now offset count b = refl

commit_own : (client : ℕ) (go : Going) (c : Committed) → TellsOwn client (by_commit go c)
commit_own client go NoGrant = told_none client _ refl
commit_own client go Wrong = told_none client _ refl
commit_own client go (Sizes size) = told_none client _ refl

return_own : (client : ℕ) (go : Going) (format : ℕ) (r : Returned) → TellsOwn client (by_return go format client r)
return_own client go format NotHeld = told_none client _ refl
return_own client go format Clean = told_none client _ refl
return_own client go format (Taken ks) = told_none client _ refl
return_own client go format TooMany = told_none client _ refl
return_own client go format Fencing = told_none client _ refl

pub served_own : (go : Going) (next format now client : ℕ) (a : RequestArgs)
    → TellsOwn client (serves go next format now client a)
unfolding gets commits returns_on
served_own go next format now client (Get iomode offset count) =
    early_own client go next format now _ (early go.file iomode offset count)
    (asked_client go.file.kept next client now offset count (iomode == LAYOUTIOMODE4_RW))
served_own go next format now client (Commit last) = commit_own client go _
served_own go next format now client (Return report) = return_own client go format _

-- ---- the answer

pub refused_own : (client : ℕ) (a : RequestArgs) (status : ℕ) → GivesOwn client (result_of a status)
refused_own client (Get iomode offset count) status = either (status == NFS4ERR_LAYOUTTRYLATER)
  where
    either : (b : Bool) → GivesOwn client (results.LayoutGet (if b then get.TryLater false else get.Refused status))
    either true = tt
    either false = tt
refused_own client (Commit last) status = tt
refused_own client (Return report) status = tt

pub answer_own : (client : ℕ) (ds : List Drive) (v : Served) (a : RequestArgs) (o : Option Grant) → v.told.grant ≡ o
    → TellsOwn client v → GivesOwn client (result_with ds v.going.file.kept a v.told.status o)
answer_own client ds v a None is own = refused_own client a v.told.status
answer_own client ds v a (Some g) is own =
    let it = own g is in
    record {
      drives = ds;
      file = v.going.file.kept;
      grant = g;
      is = refl;
      client_is = it.client_is;
      earlier = it.earlier;
      latest = it.latest;
    }
