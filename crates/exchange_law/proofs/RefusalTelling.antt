-- Where the server tells a grant to a client it is the next one.
use Rattle.std.proofs.Common.{◌≡◌, ◌==◌, ℕ, ◌<◌, ◌^◌, List, Bool, true, false, Option, Some, None, refl, sym, ap, ◌∙◌, arith, if◌then◌else◌}
use Rattle.std.specs.Option.{option_map}
use Rattle.std.proofs.lemmas.Nat.{from_be_bytes-to_be_bytes_4}
use Rattle.layout_ops.specs.declared.results.LayoutGetOk.{LayoutGetOk}
use Rattle.layout_ops.specs.declared.results.Results.{Results}
use Rattle.layout_ops.specs.declared.results.Results.TheVariants as results
use Rattle.layout_ops.specs.declared.results.LayoutGetResult.TheVariants as get
use Rattle.layout_ops.specs.declared.statuses.TheConstants.{NFS4ERR_LAYOUTTRYLATER, NFS4ERR_LAYOUTUNAVAILABLE}
use Rattle.client_rules.specs.Requests.{grant_in}
use Rattle.client_rules.specs.Results.{layouts_in}
use Rattle.server_rules.specs.declared.limits.TheConstants.{GREATEST_TAG, NO_COMPONENT}
use Rattle.world_history.specs.ServerNames.{Kept, Drive, Grant, Job, Revoking, RequestArgs, Get, Commit, Return, Spent}
use Rattle.server_rules.specs.Layouts.{stateid_of}
use Rattle.server_rules.specs.Served.{Served, says}
use Rattle.server_rules.specs.Answers.{result_of, result_with}
use Rattle.server_rules.specs.Going.{Going, noting}
use Rattle.server_rules.specs.Grants.{asked}
use Rattle.server_rules.specs.Get.{early, Early, BadMode, Invalid, Unable, Waits, On, Late, NoNumber, Lacks, Conflict, Gives, by_late, late, give_or_refuse, after_fence, fence_first, on_grants, must_fence, by_early, gets}
use Rattle.server_rules.specs.Commit.{Committed, NoGrant, Wrong, Sizes, by_commit, commits}
use Rattle.server_rules.specs.Return.{Returned, NoGrant as NotHeld, Clean, Taken, TooMany, Fencing, by_return, returns_on}
use Rattle.server_rules.specs.Jobs.{fence_begins}
use Rattle.server_rules.specs.Requests.{serves}

-- ---- what is given

-- the number of the grant that results give
abbrev pub named : Results → Option ℕ
named r = option_map (λ (ok : LayoutGetOk). grant_in ok.stateid) (layouts_in r)

-- ---- a request at a file

-- where a grant is told it has the next number, which is used
pub record TellsNext (next : ℕ) (v : Served) : Type 0 where
  pub each : (g : Grant) → v.told.grant ≡ Some g → (g.number ≡ next) × (v.numbers ≡ 1)

told_none : (next : ℕ) (v : Served) → v.told.grant ≡ None → TellsNext next v
told_none next v none = record { each = λ g e. absurd (cc (sym none ∙ e)) }

either_served : (next : ℕ) (b : Bool) (x y : Served) → TellsNext next x → TellsNext next y
    → TellsNext next (if b then x else y)
either_served next true x y p q = p
either_served next false x y p q = q

late_next : (next : ℕ) (go : Going) (g : Grant) (l : Late) → g.number ≡ next → TellsNext next (by_late go g l)
late_next next go g NoNumber is = told_none next _ refl
late_next next go g (Lacks k) is = told_none next _ refl
late_next next go g (Conflict holder) is = told_none next _ refl
late_next next go g Gives is =
    record { each = λ x e. let same : g ≡ x = cc e in (ap (λ (y : Grant). y.number) (sym same) ∙ is, refl) }

give_next : (go : Going) (next : ℕ) (g : Grant) → g.number ≡ next → TellsNext next (give_or_refuse go next g)
unfolding give_or_refuse
give_next go next g is = late_next next go g (late go.file.kept next g) is

after_next : (go : Going) (next : ℕ) (g : Grant) (j : Option Job) → g.number ≡ next
    → TellsNext next (after_fence go next g j)
after_next go next g None is = give_next go next g is
after_next go next g (Some j) is = told_none next _ refl

fence_next : (go : Going) (next format : ℕ) (g : Grant) → g.number ≡ next
    → TellsNext next (fence_first go next format g)
unfolding fence_first
fence_next go next format g is =
    let fenced : Going = fence_begins Revoking format go in
    either_served next (go.file.kept.tag == GREATEST_TAG)
    (says (noting go Spent) NFS4ERR_LAYOUTUNAVAILABLE NO_COMPONENT) (after_fence fenced next g fenced.file.job)
    (told_none next _ refl) (after_next fenced next g fenced.file.job is)

grants_next : (go : Going) (next format now : ℕ) (g : Grant) → g.number ≡ next
    → TellsNext next (on_grants go next format now g)
unfolding on_grants
grants_next go next format now g is =
    either_served next (must_fence now go.file.kept.grants g) _ _ (fence_next go next format g is)
    (give_next go next g is)

early_next : (go : Going) (next format now : ℕ) (g : Grant) (e : Early) → g.number ≡ next
    → TellsNext next (by_early go next format now g e)
early_next go next format now g BadMode is = told_none next _ refl
early_next go next format now g Invalid is = told_none next _ refl
early_next go next format now g Unable is = told_none next _ refl
early_next go next format now g (Waits k) is = told_none next _ refl
early_next go next format now g On is = grants_next go next format now g is

asked_number : (f : Kept) (number client now offset count : ℕ) (b : Bool) → number < 2 ^ 32
    → (asked f number client now offset count b).number ≡ number
unfolding asked
asked_number f number client now offset count b low = omega (arith, low)

commit_next : (next : ℕ) (go : Going) (c : Committed) → TellsNext next (by_commit go c)
commit_next next go NoGrant = told_none next _ refl
commit_next next go Wrong = told_none next _ refl
commit_next next go (Sizes size) = told_none next _ refl

return_next : (next : ℕ) (go : Going) (format client : ℕ) (r : Returned) → TellsNext next (by_return go format client r)
return_next next go format client NotHeld = told_none next _ refl
return_next next go format client Clean = told_none next _ refl
return_next next go format client (Taken ks) = told_none next _ refl
return_next next go format client TooMany = told_none next _ refl
return_next next go format client Fencing = told_none next _ refl

pub served_next : (go : Going) (next format now client : ℕ) (a : RequestArgs) → next < 2 ^ 32
    → TellsNext next (serves go next format now client a)
unfolding gets commits returns_on
served_next go next format now client (Get iomode offset count) low =
    early_next go next format now _ (early go.file iomode offset count)
    (asked_number go.file.kept next client now offset count _ low)
served_next go next format now client (Commit last) low = commit_next next go _
served_next go next format now client (Return report) low = return_next next go format client _

-- ---- its answer

pub grant_read : (n : ℕ) → n < 2 ^ 32 → grant_in (stateid_of n) ≡ n
grant_read n low = from_be_bytes-to_be_bytes_4 n low

pub refused_names : (a : RequestArgs) (status : ℕ) → named (result_of a status) ≡ None
refused_names (Get iomode offset count) status = either (status == NFS4ERR_LAYOUTTRYLATER)
  where
    either : (b : Bool) → named (results.LayoutGet (if b then get.TryLater false else get.Refused status)) ≡ None
    either true = refl
    either false = refl
refused_names (Commit last) status = refl
refused_names (Return report) status = refl

pub answer_names : (next : ℕ) (ds : List Drive) (f : Kept) (v : Served) (a : RequestArgs) (o : Option Grant) (n : ℕ)
    → next < 2 ^ 32 → v.told.grant ≡ o → TellsNext next v → named (result_with ds f a v.told.status o) ≡ Some n
    → (n ≡ next) × (v.numbers ≡ 1)
answer_names next ds f v a None n low is t e = absurd (cc (sym (refused_names a v.told.status) ∙ e))
answer_names next ds f v a (Some g) n low is t e =
    let it = t.each g is in
    let there : grant_in (stateid_of g.number) ≡ n = cc e in
    (sym there ∙ ap (λ (k : ℕ). grant_in (stateid_of k)) it.0 ∙ grant_read next low, it.1)
