-- Steps that leave what a job awaits: at other files, at requests, and where it waits on for the rest.
use Rattle.std.proofs.Common.{◌≡◌, ◌==◌, ℕ, Bool, true, false, nat_lt, List, [], ◌∷◌, Option, Some, None, refl, sym, ap, ◌∙◌, inl, inr, if◌then◌else◌}
use Rattle.std.proofs.lemmas.Bool.{cases_eq, eq-eqb, ne_eqb}
use Rattle.server_rules.specs.Commit.{Committed, NoGrant, Wrong, Sizes, by_commit, commit_row, commits}
use Rattle.server_rules.specs.Files.{file_at, put_file, add_file}
use Rattle.server_rules.specs.Get.{Early, BadMode, Invalid, Unable, Waits, On, by_job, early, by_early, gets}
use Rattle.server_rules.specs.Going.{Going, noting, with_components}
use Rattle.server_rules.specs.Jobs.{waits_or_on, loses}
use Rattle.server_rules.specs.Laws.{In}
use Rattle.server_rules.specs.Messages.{awaited_by}
use Rattle.server_rules.specs.Replies.{others, fills_up}
use Rattle.server_rules.specs.Requests.{serves}
use Rattle.server_rules.specs.Standing.{lose_from}
use Rattle.server_rules.specs.Return.{return_row, returns_on}
use Rattle.world_history.specs.ServerNames.{File, Job, Awaited, Work, Heard, Grant, IoErr, RequestArgs, Get, Commit, Return, Creates, Fences, Stores, Lengths, NoSpace}
use Rattle.cause_law.specs.AwaitedEnds.{waits_for_all}

-- ---- the list of files

pub others_there : (fs : List File) (n : ℕ) (h f : File) → In f fs → (f.kept.number ≡ n → ⊥) → In f (put_file fs n h)
unfolding put_file
others_there [] n h f i o = absurd i
others_there (x ∷ fs) n h f (inl same) o =
    rw (ne_eqb x.kept.number n (λ e. o (ap (λ (y : File). y.kept.number) same ∙ e))) (inl same)
others_there (x ∷ fs) n h f (inr i) o = either (x.kept.number == n) (others_there fs n h f i o)
  where
    either : (b : Bool) → In f (put_file fs n h) → In f (if b then h ∷ fs else x ∷ put_file fs n h)
    either true j = inr i
    either false j = inr j

pub added_there : (fs : List File) (g f : File) → In f fs → In f (add_file fs g)
unfolding add_file
added_there [] g f i = absurd i
added_there (x ∷ fs) g f i = either (nat_lt x.kept.number g.kept.number) i (λ j. added_there fs g f j)
  where
    either : (b : Bool) → In f (x ∷ fs) → (In f fs → In f (add_file fs g))
        → In f (if b then x ∷ add_file fs g else g ∷ x ∷ fs)
    either true (inl e) rest = inl e
    either true (inr j) rest = inr (rest j)
    either false j rest = inr j

pub none_has : (fs : List File) (n : ℕ) (g : File) → In g fs → g.kept.number ≡ n → file_at fs n ≡ None → ⊥
unfolding file_at
none_has [] n g j e z = j
none_has (x ∷ fs) n g j e z = elim (cases_eq x.kept.number n) [
  | inl same ↦ cc (rw (eq-eqb x.kept.number n same) at z)
  | inr o ↦ elim j [
    | inl here ↦ o (ap (λ (y : File). y.kept.number) (sym here) ∙ e)
    | inr k ↦ none_has fs n g k e (rw (ne_eqb x.kept.number n o) at z)
  ]
]

-- ---- a request leaves a job as it is

pick : (b : Bool) (x y : Early) → (if b then x else y) ≡ On → (x ≡ On → ⊥) → y ≡ On
pick true x y e other = absurd (other e)
pick false x y e other = e

on_free : (f : File) (iomode offset count : ℕ) → early f iomode offset count ≡ On → f.job ≡ None
unfolding early
on_free f iomode offset count e =
    free f.job (pick _ Unable _ (pick _ Invalid _ (pick _ BadMode _ e (λ q. cc q)) (λ q. cc q)) (λ q. cc q))
  where
    free : (o : Option Job) → by_job o ≡ On → o ≡ None
    free None q = refl
    free (Some j) q = absurd (cc q)

early_leaves : (go : Going) (next format now : ℕ) (g : Grant) (e : Early) → (e ≡ On → ⊥)
    → (by_early go next format now g e).going.file.job ≡ go.file.job
early_leaves go next format now g BadMode other = refl
early_leaves go next format now g Invalid other = refl
early_leaves go next format now g Unable other = refl
early_leaves go next format now g (Waits k) other = refl
early_leaves go next format now g On other = absurd (other refl)

commit_leaves : (go : Going) (c : Committed) → (by_commit go c).going.file.job ≡ go.file.job
commit_leaves go NoGrant = refl
commit_leaves go Wrong = refl
commit_leaves go (Sizes size) = refl

return_leaves : (go : Going) (format client : ℕ) (report : List IoErr) → go.file.kept.grants ≡ []
    → (returns_on go format client report).going.file.job ≡ go.file.job
unfolding returns_on return_row
return_leaves go format client report none = rw none refl

pub serves_leaves : (go : Going) (next format now client : ℕ) (args : RequestArgs) (j : Job) → go.file.job ≡ Some j
    → go.file.kept.grants ≡ [] → (serves go next format now client args).going.file.job ≡ go.file.job
unfolding gets commits
serves_leaves go next format now client (Get iomode offset count) j runs none =
    early_leaves go next format now _ (early go.file iomode offset count)
    (λ e. cc (sym (on_free go.file iomode offset count e) ∙ runs))
serves_leaves go next format now client (Commit last) j runs none =
    commit_leaves go (commit_row go.file.kept client last)
serves_leaves go next format now client (Return report) j runs none = return_leaves go format client report none

-- ---- a job waits on for the rest

pub rest_waits : (g : Going) (j : Job) (work : Work) (rest : List Awaited) (heard : List Heard) (a : Awaited) → In a rest
    → In a (awaited_by (waits_or_on g j work rest heard).file.job)
rest_waits g j work [] heard a i = absurd i
rest_waits g j work (c ∷ cs) heard a i = i

-- it does so too where a component is lost, unless its piece begins again
pub lost_waits : (g : Going) (j : Job) (work : Work) (rest : List Awaited) (gone : Bool) (a : Awaited)
    → waits_for_all work ≡ true → In a rest → In a (awaited_by (loses g j work rest gone).file.job)
unfolding loses
lost_waits g j Creates rest gone a w i = rest_waits g j Creates rest j.heard a i
lost_waits g j Fences rest gone a w i = rest_waits g j Fences rest j.heard a i
lost_waits g j (Stores todo short broken) rest gone a w i = rest_waits g j (Stores todo short true) rest j.heard a i
lost_waits g j Lengths rest gone a w i = rest_waits g j Lengths rest j.heard a i
lost_waits g j work rest gone a w i = absurd (cc w)

pub full_waits : (g : Going) (j : Job) (b : Awaited) (work : Work) (a : Awaited) → waits_for_all work ≡ true
    → In a (others j.awaited b.command.nonce) → In a (awaited_by (fills_up g j b work).file.job)
full_waits g j b Creates a w i =
    lost_waits (noting (with_components g (lose_from (b.component ∷ []) g.file.kept.components 0)) (NoSpace b.component)) j
    Creates (others j.awaited b.command.nonce) false a refl i
full_waits g j b Fences a w i =
    lost_waits (noting (with_components g (lose_from (b.component ∷ []) g.file.kept.components 0)) (NoSpace b.component)) j
    Fences (others j.awaited b.command.nonce) false a refl i
full_waits g j b (Stores todo short broken) a w i =
    lost_waits (noting (with_components g (lose_from (b.component ∷ []) g.file.kept.components 0)) (NoSpace b.component)) j
    (Stores todo short broken) (others j.awaited b.command.nonce) false a refl i
full_waits g j b Lengths a w i =
    lost_waits (noting (with_components g (lose_from (b.component ∷ []) g.file.kept.components 0)) (NoSpace b.component)) j
    Lengths (others j.awaited b.command.nonce) false a refl i
full_waits g j b work a w i = absurd (cc w)
