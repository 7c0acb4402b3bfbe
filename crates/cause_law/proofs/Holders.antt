-- Each grant is of a client that was admitted, so each holder that the server names is one of 16.
use Rattle.std.proofs.Common.{◌≡◌, ◌==◌, ◌<◌, ◌≤◌, ◌^◌, ℕ, Bool, true, false, List, [], ◌∷◌, Option, Some, None, nat_lt, find, inl, inr, arith, refl, sym, ap, subst, ◌∙◌, if◌then◌else◌}
use Rattle.std.proofs.lemmas.Bool.{cases_eq, eq-eqb, ne_eqb}
use Rattle.layout_ops.specs.declared.statuses.TheConstants.{NFS4_OK, NFS4ERR_LAYOUTTRYLATER, NFS4ERR_LAYOUTUNAVAILABLE, NFS4ERR_RECALLCONFLICT}
use Rattle.scenario_text.specs.declared.names.TheConstants.{CLIENTS}
use Rattle.scenario_text.specs.declared.line.Line.{Line}
use Rattle.server_rules.specs.declared.limits.TheConstants.{GREATEST_TAG, GREATEST_GRANT, MAX_CLIENT}
use Rattle.client_rules.specs.Results.{status_of}
use Rattle.world_history.specs.ServerNames.{Server, File, Drive, Kept, Grant, Job, Revoking, RequestArgs, Get, Commit, Return, Answer, ClientRequest, Spent}
use Rattle.world_history.specs.State.{World, empty_world}
use Rattle.world_history.specs.Moves.{acts}
use Rattle.world_history.specs.Sending.{Move, move}
use Rattle.world_history.specs.History.{OneEventMore}
use Rattle.server_rules.specs.Answers.{result_of, result_with}
use Rattle.server_rules.specs.Commit.{Committed, NoGrant, Wrong, Sizes, by_commit, commits}
use Rattle.server_rules.specs.Files.{Step, file_at, at_file, put_file}
use Rattle.server_rules.specs.Get.{Early, BadMode, Invalid, Unable, Waits, On, NoNumber, by_lacked, lacked, by_late, late, give_or_refuse, after_fence, fence_first, must_fence, on_grants, by_early, early, gets}
use Rattle.server_rules.specs.Going.{Going, noting}
use Rattle.server_rules.specs.Grants.{grant_of, conflicts}
use Rattle.server_rules.specs.History.{Input, step}
use Rattle.server_rules.specs.Jobs.{fence_begins}
use Rattle.server_rules.specs.Laws.{AreSafe}
use Rattle.server_rules.specs.Requests.{serves, no_file, on_request}
use Rattle.server_rules.specs.Return.{Returned, NoGrant as NotHeld, Clean, Taken, TooMany, Fencing, by_return, returns_on}
use Rattle.server_rules.specs.Served.{Served, says}
use Rattle.server_rules.proofs.HandlerLaws.{fence_leaves_none}
use Rattle.server_rules.proofs.FileLaws.{number_at, put_other}
use Rattle.history_law.specs.Files.{FilesGo, Quiet, Asked}
use Rattle.history_law.proofs.Files.{put_gives}
use Rattle.history_law.proofs.Steps.{each_request}
use Rattle.history_law.specs.Grants.{GrantsAreSafe}
use Rattle.history_law.specs.BookMoments.{IsMoment}
use Rattle.exchange_law.specs.Made.{answer_at, answer_to}
use Rattle.exchange_law.proofs.HeldServing.{MayGive, serves_may}
use Rattle.exchange_law.proofs.HeldSteps.{IsFewer, HasNone, step_did}
use Rattle.exchange_law.proofs.HeldWorlds.{reached}
use Rattle.exchange_law.proofs.SlotMoments.{always}
use Rattle.exchange_law.proofs.Turning.{Turn, ByServer, ByClient, ByDrive, Makes, Stops, Rests}
use Rattle.exchange_law.proofs.Turns.{acts_turn}

-- ---- grants

-- each grant is of a client that a line can name
abbrev pub AreNamed : List Grant → Type 0
AreNamed gs = (c : ℕ) (g : Grant) → grant_of gs c ≡ Some g → c < CLIENTS

abbrev pub GrantsAreNamed : Server → Type 0
GrantsAreNamed s = (n : ℕ) (f : File) → file_at s.files n ≡ Some f → AreNamed f.kept.grants

none_named : (gs : List Grant) → gs ≡ [] → AreNamed gs
none_named gs none c g e = absurd (cc (sym (ap (λ (l : List Grant). grant_of l c) none) ∙ e))

-- a grant that is found is its client's, or another one is
held_by : (p : Grant → Bool) (gs : List Grant) (d : Grant) → find p gs ≡ Some d
    → (g : Grant) × (grant_of gs d.client ≡ Some g)
held_by p [] d e = absurd (cc e)
held_by p (x ∷ xs) d e = by (p x) e (λ f. held_by p xs d f)
  where
    by : (b : Bool) → (if b then Some x else find p xs) ≡ Some d
        → (find p xs ≡ Some d → (g : Grant) × (grant_of xs d.client ≡ Some g))
        → (g : Grant) × (grant_of (x ∷ xs) d.client ≡ Some g)
    by true f rest =
        let same : x ≡ d = cc f in
        (x, rw (eq-eqb x.client d.client (ap (λ (y : Grant). y.client) same)) refl)
    by false f rest = elim (cases_eq x.client d.client) [
      | inl here ↦ (x, rw (eq-eqb x.client d.client here) refl)
      | inr other ↦ let r = rest f in (r.0, rw (ne_eqb x.client d.client other) r.1)
    ]

-- ---- what is told

-- where the answer bids its client try later, the holder that it names is such a client
pub record NamesHolder (status detail : ℕ) : Type 0 where
  pub low : status < 2 ^ 32
  pub holder : status ≡ NFS4ERR_LAYOUTTRYLATER → detail < CLIENTS

abbrev Tells : Served → Type 0
Tells v = NamesHolder v.told.status v.told.detail

says_low : (go : Going) (status detail : ℕ) → status < 2 ^ 32 → (status ≡ NFS4ERR_LAYOUTTRYLATER → detail < CLIENTS)
    → Tells (says go status detail)
says_low go status detail low holder = record { low = low; holder = holder }

either_tells : (b : Bool) (x y : Served) → Tells x → Tells y → Tells (if b then x else y)
either_tells true x y p q = p
either_tells false x y p q = q

lacked_tells : (go : Going) (g : Grant) (first : Option Grant) (o : Option ℕ) → find (conflicts g) go.file.kept.grants ≡ first
    → AreNamed go.file.kept.grants → Tells (by_late go g (by_lacked o first))
lacked_tells go g first (Some k) is named = record { low = omega arith; holder = λ e. absurd (omega (arith, e)) }
lacked_tells go g None None is named = record { low = omega arith; holder = λ e. absurd (omega (arith, e)) }
lacked_tells go g (Some d) None is named =
    let r = held_by (conflicts g) go.file.kept.grants d is in
    record { low = omega arith; holder = λ e. named d.client r.0 r.1 }

late_tells : (go : Going) (next : ℕ) (g : Grant) → AreNamed go.file.kept.grants
    → Tells (by_late go g (late go.file.kept next g))
unfolding late
late_tells go next g named = by (nat_lt GREATEST_GRANT next)
  where
    first : Option Grant
    first = find (conflicts g) go.file.kept.grants

    by : (b : Bool) → Tells (by_late go g (if b then NoNumber else by_lacked (lacked go.file.kept g) first))
    by true = says_low go NFS4ERR_LAYOUTUNAVAILABLE _ (omega arith) (λ e. absurd (omega (arith, e)))
    by false = lacked_tells go g first (lacked go.file.kept g) refl named

give_tells : (go : Going) (next : ℕ) (g : Grant) → AreNamed go.file.kept.grants → Tells (give_or_refuse go next g)
unfolding give_or_refuse
give_tells go next g named = late_tells go next g named

after_tells : (go : Going) (next : ℕ) (g : Grant) (j : Option Job) → AreNamed go.file.kept.grants
    → Tells (after_fence go next g j)
after_tells go next g None named = give_tells go next g named
after_tells go next g (Some j) named =
    says_low go NFS4ERR_RECALLCONFLICT _ (omega arith) (λ e. absurd (omega (arith, e)))

first_tells : (go : Going) (next format : ℕ) (g : Grant) → Tells (fence_first go next format g)
unfolding fence_first
first_tells go next format g =
    let fenced : Going = fence_begins Revoking format go in
    either_tells (go.file.kept.tag == GREATEST_TAG) _ _
    (says_low (noting go Spent) NFS4ERR_LAYOUTUNAVAILABLE _ (omega arith) (λ e. absurd (omega (arith, e))))
    (after_tells fenced next g fenced.file.job
    (none_named fenced.file.kept.grants (fence_leaves_none Revoking format go)))

grants_tells : (go : Going) (next format now : ℕ) (g : Grant) → AreNamed go.file.kept.grants
    → Tells (on_grants go next format now g)
unfolding on_grants
grants_tells go next format now g named =
    either_tells (must_fence now go.file.kept.grants g) _ _ (first_tells go next format g) (give_tells go next g named)

early_tells : (go : Going) (next format now : ℕ) (g : Grant) (e : Early) → AreNamed go.file.kept.grants
    → Tells (by_early go next format now g e)
early_tells go next format now g BadMode named = says_low go _ _ (omega arith) (λ e. absurd (omega (arith, e)))
early_tells go next format now g Invalid named = says_low go _ _ (omega arith) (λ e. absurd (omega (arith, e)))
early_tells go next format now g Unable named = says_low go _ _ (omega arith) (λ e. absurd (omega (arith, e)))
early_tells go next format now g (Waits k) named = says_low go _ _ (omega arith) (λ e. absurd (omega (arith, e)))
early_tells go next format now g On named = grants_tells go next format now g named

commit_tells : (go : Going) (c : Committed) → Tells (by_commit go c)
commit_tells go NoGrant = says_low go _ _ (omega arith) (λ e. absurd (omega (arith, e)))
commit_tells go Wrong = says_low go _ _ (omega arith) (λ e. absurd (omega (arith, e)))
commit_tells go (Sizes size) = record { low = omega arith; holder = λ e. absurd (omega (arith, e)) }

return_tells : (go : Going) (format client : ℕ) (r : Returned) → Tells (by_return go format client r)
return_tells go format client NotHeld = record { low = omega arith; holder = λ e. absurd (omega (arith, e)) }
return_tells go format client Clean = record { low = omega arith; holder = λ e. absurd (omega (arith, e)) }
return_tells go format client (Taken ks) = record { low = omega arith; holder = λ e. absurd (omega (arith, e)) }
return_tells go format client TooMany = record { low = omega arith; holder = λ e. absurd (omega (arith, e)) }
return_tells go format client Fencing = record { low = omega arith; holder = λ e. absurd (omega (arith, e)) }

serves_tells : (go : Going) (next format now client : ℕ) (a : RequestArgs) → AreNamed go.file.kept.grants
    → Tells (serves go next format now client a)
unfolding gets commits returns_on
serves_tells go next format now client (Get iomode offset count) named =
    early_tells go next format now _ (early go.file iomode offset count) named
serves_tells go next format now client (Commit last) named = commit_tells go _
serves_tells go next format now client (Return report) named = return_tells go format client _

-- ---- the answer

result_status : (a : RequestArgs) (status : ℕ) → status_of (result_of a status) ≡ status
result_status (Get iomode offset count) status = elim (cases_eq status NFS4ERR_LAYOUTTRYLATER) [
  | inl same ↦ rw (eq-eqb status NFS4ERR_LAYOUTTRYLATER same) (sym same)
  | inr other ↦ rw (ne_eqb status NFS4ERR_LAYOUTTRYLATER other) refl
]
result_status (Commit last) status = elim (cases_eq status NFS4_OK) [
  | inl same ↦ rw (eq-eqb status NFS4_OK same) (sym same)
  | inr other ↦ rw (ne_eqb status NFS4_OK other) refl
]
result_status (Return report) status = elim (cases_eq status NFS4_OK) [
  | inl same ↦ rw (eq-eqb status NFS4_OK same) (sym same)
  | inr other ↦ rw (ne_eqb status NFS4_OK other) refl
]

abbrev pub AnswerNames : Answer → Type 0
AnswerNames a = NamesHolder (status_of a.results) a.detail

with_names : (ds : List Drive) (f : Kept) (a : RequestArgs) (status detail : ℕ) (o : Option Grant)
    → NamesHolder status detail → NamesHolder (status_of (result_with ds f a status o)) detail
with_names ds f a status detail None k = subst (λ (n : ℕ). NamesHolder n detail) (sym (result_status a status)) k
with_names ds f a status detail (Some g) k = record { low = omega arith; holder = λ e. absurd (omega (arith, e)) }

without_names : (q : ClientRequest) (a : RequestArgs) → NamesHolder (status_of (result_of a (no_file a))) 0
without_names q a =
    subst (λ (n : ℕ). NamesHolder n 0) (sym (result_status a (no_file a))) (record { low = fits a; holder = λ e. omega arith })
  where
    fits : (b : RequestArgs) → no_file b < 4294967296
    fits (Get iomode offset count) = omega arith
    fits (Commit last) = omega arith
    fits (Return report) = omega arith

made_names : (s : Server) (now : ℕ) (chosen : List ℕ) (q : ClientRequest) (o : Option File) → file_at s.files q.file ≡ o
    → GrantsAreNamed s → AnswerNames (answer_at s now chosen q o)
made_names s now chosen q None there named = without_names q q.args
made_names s now chosen q (Some f) there named =
    let v : Served = serves (at_file s chosen f) s.next_grant s.format now q.client q.args in
    with_names s.drives v.going.file.kept q.args v.told.status v.told.detail v.told.grant
    (serves_tells (at_file s chosen f) s.next_grant s.format now q.client q.args (named q.file f there))

pub answer_names : (s : Server) (now : ℕ) (chosen : List ℕ) (q : ClientRequest) → GrantsAreNamed s
    → AnswerNames (answer_to s now chosen q)
answer_names s now chosen q named = made_names s now chosen q (file_at s.files q.file) refl named

-- ---- a step of the server

may_named : (f : Kept) (client : ℕ) (a : RequestArgs) (v : Served) → MayGive f client a v → client ≤ MAX_CLIENT
    → AreNamed f.grants → AreNamed v.going.file.kept.grants
may_named f client a v may low named c g e = elim (may.grants c g e) [
  | inl old ↦ named c g old
  | inr new ↦ omega (arith, new.0, low)
]

put_named : (fs : List File) (n : ℕ) (g : File) → g.kept.number ≡ n
    → ((m : ℕ) (f : File) → file_at fs m ≡ Some f → AreNamed f.kept.grants) → AreNamed g.kept.grants
    → (m : ℕ) (f : File) → file_at (put_file fs n g) m ≡ Some f → AreNamed f.kept.grants
put_named fs n g is all new m f e = elim (cases_eq n m) [
  | inl here ↦
      let it : f ≡ g =
      put_gives fs n g f is (subst (λ (k : ℕ). file_at (put_file fs n g) k ≡ Some f) (sym here) e) in
      subst (λ (x : File). AreNamed x.kept.grants) (sym it) new
  | inr other ↦ all m f (sym (put_other fs n g is m (ne_eqb n m other)) ∙ e)
]

request_named : (s : Server) (now : ℕ) (chosen : List ℕ) (q : ClientRequest) → q.client ≤ MAX_CLIENT
    → GrantsAreNamed s → GrantsAreNamed (on_request s now chosen q).state
request_named s now chosen q low named = each_request s now chosen q (λ (t : Step). GrantsAreNamed t.state) (record {
  again = λ kept is. named;
  misordered = λ expected is. named;
  without = λ new none. named;
  served = λ new f found.
      let go : Going = at_file s chosen f in
      let v : Served = serves go s.next_grant s.format now q.client q.args in
      let may : MayGive f.kept q.client q.args v = serves_may go s.next_grant s.format now q.client q.args in
      put_named s.files q.file v.going.file (may.number ∙ number_at s.files q.file f found) named
      (may_named f.kept q.client q.args v may low (named q.file f found));
})

step_named : (s : Server) (chosen : List ℕ) (i : Input) → AreSafe s.files → GrantsAreNamed s
    → GrantsAreNamed (step s chosen i).state
step_named s chosen i safe named = by (step s chosen i) (step_did s chosen i safe)
  where
    by : (t : Step) → FilesGo IsFewer HasNone s chosen i t → GrantsAreNamed t.state
    by t (Quiet all slots) = λ n f e c g has. elim (all n f e) [
      | inl (old, there, fewer) ↦ named n old there c g (fewer.grants c g has)
      | inr none ↦ none_named f.kept.grants none c g has
    ]
    by t (Asked now q is done) =
        subst (λ (x : Step). GrantsAreNamed x.state) (sym done) (request_named s now chosen q is.named named)

-- ---- at each moment

move_named : (safe : GrantsAreSafe) (w : World) (h : List Line) → IsMoment w h → (m : Move) → GrantsAreNamed w.server
    → GrantsAreNamed (move w m).world.server
move_named safe w h k m named = by (acts_turn w m.chosen m.action).turn
  where
    same : (move w m).world.server ≡ w.server → GrantsAreNamed (move w m).world.server
    same is = subst GrantsAreNamed (sym is) named

    by : Turn w m.action (acts w m.chosen m.action) → GrantsAreNamed (move w m).world.server
    by (ByServer b) =
        subst GrantsAreNamed (sym b.server) (step_named w.server b.chosen b.input (safe w (reached w h k)) named)
    by (ByClient b) = same b.server
    by (ByDrive b) = same b.server
    by (Makes b) = same b.server
    by (Stops b) = same b.server
    by (Rests b) = same b.server

none_made : GrantsAreNamed empty_world.server
unfolding file_at
none_made n f e = absurd (cc e)

pub grants_named : GrantsAreSafe → OneEventMore → (w : World) (h : List Line) → IsMoment w h → GrantsAreNamed w.server
grants_named safe more w h k =
    always (λ w h. GrantsAreNamed w.server) (record {
      starts = none_made;
      moves = λ v g j m d x. move_named safe v g j m x;
    }) more w h k
