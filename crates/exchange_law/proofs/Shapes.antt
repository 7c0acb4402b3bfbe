-- Each file has as many components as its map, whatever comes to the server.
use Rattle.std.proofs.Common.{◌≡◌, ◌≤◌, ◌==◌, ℕ, ◌+◌, Bool, true, false, List, [], ◌∷◌, Option, Some, None, length, refl, sym, ap, subst, ◌∙◌, if◌then◌else◌}
use Rattle.server_rules.specs.declared.limits.TheConstants.{MAX_FILE_COMPONENTS, GREATEST_TAG}
use Rattle.world_history.specs.ServerNames.{Server, File, Component, Job, JobKind, Work, Awaited, Grant, RequestArgs, Get, Commit, Return, ClientRequest, Reply, RawMap, Revoking, Targets, Gathers, Fills, Reported}
use Rattle.server_rules.specs.Numbers.{among}
use Rattle.server_rules.specs.Files.{Step, put_file, add_file, at_file, begins}
use Rattle.server_rules.specs.Laws.{In}
use Rattle.server_rules.specs.Going.{Going, keeping, noting, noting_if}
use Rattle.server_rules.specs.Served.{Served}
use Rattle.server_rules.specs.Jobs.{making, ending, fence_begins, declares}
use Rattle.server_rules.specs.Get.{Early, BadMode, Invalid, Unable, Waits, On, Late, NoNumber, Lacks, Conflict, Gives, by_late, late, give_or_refuse, after_fence, fence_first, must_fence, on_grants, by_early, gets}
use Rattle.server_rules.specs.Commit.{Committed, NoGrant, Wrong, Sizes, by_commit, commits}
use Rattle.server_rules.specs.Return.{Returned, NoGrant as NotHeld, Clean, Taken, TooMany as ManyTags, Fencing, reports_from, takes_loss, by_return, returns_on}
use Rattle.server_rules.specs.Openings.{is_unsettled, opens_made, opens_fenced, opens}
use Rattle.server_rules.specs.Orders.{offline, declare}
use Rattle.server_rules.specs.Replies.{Hearing, Older, Full, Done, Nothing, hearing, hears, fills_up}
use Rattle.server_rules.specs.Requests.{serves, on_request}
use Rattle.server_rules.specs.Making.{new_server, refusal, makes_file, with_file, drives_for}
use Rattle.server_rules.specs.History.{Input, Makes, Act, step, state_after}
use Rattle.server_rules.proofs.Components.{length_lost, length_components}
use Rattle.server_rules.proofs.Placed.{not_refused, length_made}
use Rattle.history_law.specs.Steps.{answered_file, new_file}
use Rattle.history_law.proofs.Steps.{each_request, each_step}
use Rattle.history_law.proofs.Files.{Each, in_at, put_each, add_each, crashed_each, declared_each, opened_each}
use Rattle.history_law.specs.Parties.{AllPartiesRun}
use Rattle.exchange_law.specs.Shapes.{FilesHaveShape}
use Rattle.exchange_law.proofs.Lengths.{shape, Long, long_making, long_fences, long_declares, long_full, long_loses, long_waits_or_on}

-- ---- at a file

long_fence : (kind : JobKind) (format : ℕ) (g : Going) → Long g (fence_begins kind format g)
unfolding fence_begins
long_fence kind format g = long_fences kind (keeping g (ending g.file.kept format))

either_long : (g : Going) (b : Bool) (x y : Going) → Long g x → Long g y → Long g (if b then x else y)
either_long g true x y p q = p
either_long g false x y p q = q

long_made : (g : Going) (ready : Bool) → Long g (opens_made g ready)
long_made g true = refl
long_made g false = long_making g

long_opens : (format : ℕ) (g : Going) → Long g (opens format g)
unfolding opens opens_fenced
long_opens format g =
    either_long g (is_unsettled g.file.kept) _ _
    (either_long g (g.file.kept.tag == GREATEST_TAG) _ _ refl (long_fence Revoking format g))
    (long_made g g.file.kept.ready)

fills_long : (g : Going) (j : Job) (a : Awaited) (work : Work) → Long g (fills_up g j a work)
fills_long g j a (Targets t) = long_full g t
fills_long g j a (Gathers t todo) = long_full g t
fills_long g j a (Fills t todo) = long_full g t
fills_long g j a work =
    long_loses _ j work _ false
    ∙ ap (λ (n : ℕ). (g.file.kept.map, n)) (length_lost (a.component ∷ []) g.file.kept.components 0)

hears_long : (g : Going) (j : Job) (a : Awaited) (r : Reply) (as_ : Hearing) → Long g (hears g j a r as_)
hears_long g j a r Older = refl
hears_long g j a r Full = fills_long g j a j.work
hears_long g j a r Done = long_waits_or_on g j j.work _ _
hears_long g j a r Nothing = refl

-- ---- a request

late_long : (go : Going) (g : Grant) (l : Late) → Long go (by_late go g l).going
late_long go g NoNumber = refl
late_long go g (Lacks k) = refl
late_long go g (Conflict holder) = refl
late_long go g Gives = refl

give_long : (go : Going) (next : ℕ) (g : Grant) → Long go (give_or_refuse go next g).going
unfolding give_or_refuse
give_long go next g = late_long go g (late go.file.kept next g)

after_long : (go : Going) (next : ℕ) (g : Grant) (j : Option Job) → Long go (after_fence go next g j).going
after_long go next g None = give_long go next g
after_long go next g (Some j) = refl

either_served : (g : Going) (b : Bool) (x y : Served) → Long g x.going → Long g y.going
    → Long g (if b then x else y).going
either_served g true x y p q = p
either_served g false x y p q = q

first_long : (go : Going) (next format : ℕ) (g : Grant) → Long go (fence_first go next format g).going
unfolding fence_first
first_long go next format g =
    let fenced : Going = fence_begins Revoking format go in
    either_served go (go.file.kept.tag == GREATEST_TAG) _ _ refl
    (after_long fenced next g fenced.file.job ∙ long_fence Revoking format go)

grants_long : (go : Going) (next format now : ℕ) (g : Grant) → Long go (on_grants go next format now g).going
unfolding on_grants
grants_long go next format now g =
    either_served go (must_fence now go.file.kept.grants g) _ _ (first_long go next format g) (give_long go next g)

early_long : (go : Going) (next format now : ℕ) (g : Grant) (e : Early)
    → Long go (by_early go next format now g e).going
early_long go next format now g BadMode = refl
early_long go next format now g Invalid = refl
early_long go next format now g Unable = refl
early_long go next format now g (Waits k) = refl
early_long go next format now g On = grants_long go next format now g

commit_long : (go : Going) (c : Committed) → Long go (by_commit go c).going
commit_long go NoGrant = refl
commit_long go Wrong = refl
commit_long go (Sizes size) = refl

reports_long : (go : Going) (ks : List ℕ) (cs : List Component) (k : ℕ) → Long go (reports_from go ks cs k)
unfolding reports_from
reports_long go ks [] k = refl
reports_long go ks (at ∷ cs) k = reports_long (noting_if (among k ks) go (Reported k)) ks cs (k + 1)

loss_long : (go : Going) (ks : List ℕ) → Long go (takes_loss go ks)
unfolding takes_loss
loss_long go ks =
    reports_long _ ks go.file.kept.components 0
    ∙ ap (λ (n : ℕ). (go.file.kept.map, n)) (length_lost ks go.file.kept.components 0)

return_long : (go : Going) (format client : ℕ) (r : Returned) → Long go (by_return go format client r).going
return_long go format client NotHeld = refl
return_long go format client Clean = refl
return_long go format client (Taken ks) = loss_long go ks
return_long go format client ManyTags = refl
return_long go format client Fencing = long_fence Revoking format go

serves_long : (go : Going) (next format now client : ℕ) (a : RequestArgs)
    → Long go (serves go next format now client a).going
unfolding gets commits returns_on
serves_long go next format now client (Get iomode offset count) = early_long go next format now _ _
serves_long go next format now client (Commit last) = commit_long go _
serves_long go next format now client (Return report) = return_long go format client _

-- ---- all files

-- so P is of the map of a file and the number of its components
abbrev pub Shaped : (RawMap × ℕ → Type 0) → File → Type 0
Shaped P f = P (shape f.kept)

over : (P : RawMap × ℕ → Type 0) (g h : Going) → Long g h → Shaped P g.file → Shaped P h.file
over P g h same x = subst P (sym same) x

-- ---- a file that is made

-- ---- whatever comes

-- a file that is made has a component for each that its map has, so P need only hold of that
abbrev pub IsOfMade : (RawMap × ℕ → Type 0) → Server → Input → Type 0
IsOfMade P s i =
    (n : ℕ) (m : RawMap) (tag : ℕ) (zoned : Bool) → i ≡ Makes n m tag zoned → refusal s n m zoned ≡ None → P (m, m.comps)

module _ (P : RawMap × ℕ → Type 0) (s : Server) (chosen : List ℕ) (i : Input) (new : IsOfMade P s i)
    (all : Each (Shaped P) s.files) where
  -- at a file that is there
  put_shaped : (n : ℕ) (f : File) (g : Going) → In f s.files → Long (at_file s chosen f) g
      → Each (Shaped P) (put_file s.files n g.file)
  put_shaped n f g there same = put_each (Shaped P) s.files n g.file all (over P (at_file s chosen f) g same (all f there))

  asked_shaped : (now : ℕ) (q : ClientRequest) → Each (Shaped P) (on_request s now chosen q).state.files
  asked_shaped now q = each_request s now chosen q (λ (t : Step). Each (Shaped P) t.state.files) (record {
    again = λ kept is. all;
    misordered = λ expected is. all;
    without = λ new none. all;
    served = λ new f found.
        put_shaped q.file f (serves (at_file s chosen f) s.next_grant s.format now q.client q.args).going
        (in_at s.files q.file f found) (serves_long (at_file s chosen f) s.next_grant s.format now q.client q.args);
  })

  declared_shaped : (d : ℕ) → Each (Shaped P) (declare s chosen d).state.files
  unfolding declare
  declared_shaped d =
      declared_each (Shaped P) d (offline s.drives d) s.files (begins s) chosen (λ f there m placed.
      let g : Going = record { file = f; effects = m; drives = offline s.drives d; chosen = placed } in
      over P g (declares g d) (long_declares g d) (all f there))

  made_shaped : (n : ℕ) (m : RawMap) (tag : ℕ) (zoned : Bool) → i ≡ Makes n m tag zoned → refusal s n m zoned ≡ None
      → Each (Shaped P) (makes_file s (new_file s chosen n m tag zoned)).state.files
  made_shaped n m tag zoned is none =
      let f : File = new_file s chosen n m tag zoned in
      let count : length f.kept.components ≡ m.comps =
      length_components (drives_for zoned s.drives m chosen) s.next_object ∙ length_made s n m zoned chosen none in
      let fresh : Shaped P f = subst (λ (k : ℕ). P (m, k)) (sym count) (new n m tag zoned is none) in
      let g : Going = making (at_file (with_file s f) [] f) in
      put_each (Shaped P) (add_file s.files f) n g.file (add_each (Shaped P) s.files f all fresh)
      (over P (at_file (with_file s f) [] f) g (long_making (at_file (with_file s f) [] f)) fresh)

  pub step_shaped : Each (Shaped P) (step s chosen i).state.files
  step_shaped = each_step s chosen i (λ (t : Step). Each (Shaped P) t.state.files) (record {
    rests = all;
    asked = λ now q is. asked_shaped now q;
    answered = λ x is.
        put_shaped (answered_file s chosen x).file.kept.number x.file (answered_file s chosen x) is.there
        (hears_long (at_file s chosen x.file) x.job x.awaited x.reply (hearing x.file.kept x.awaited x.reply));
    recalled = λ f is. all;
    refused = λ f is n why.
        put_shaped f.kept.number f (noting (at_file s chosen f) n) (in_at s.files is.target f is.found) refl;
    fenced = λ f is kind none low.
        put_shaped f.kept.number f (fence_begins kind s.format (at_file s chosen f))
        (in_at s.files is.target f is.found) (long_fence kind s.format (at_file s chosen f));
    declared = λ d known. declared_shaped d;
    told = λ t now o is result shaped. shaped;
    made = λ n m tag zoned is none. made_shaped n m tag zoned is none;
    added = λ d is. all;
    zoned = λ d zone is. all;
    formats = λ n is. all;
    resends = λ is. all;
    crashes = λ is. crashed_each (Shaped P) s.files all;
    opened = λ is low.
        opened_each (Shaped P) s.format s.drives s.files (begins s) (λ f there m.
        let g : Going = record { file = f; effects = m; drives = s.drives; chosen = [] } in
        over P g (opens s.format g) (long_opens s.format g) (all f there));
  })

abbrev IsShape : RawMap × ℕ → Type 0
IsShape p = (p.1 ≡ p.0.comps) × (p.0.comps ≤ MAX_FILE_COMPONENTS)

run_shaped : (s : Server) (acts : List Act) → Each (Shaped IsShape) s.files → Each (Shaped IsShape) (state_after s acts).files
run_shaped s [] all = all
run_shaped s (a ∷ acts) all =
    run_shaped (step s a.chosen a.input).state acts
    (step_shaped IsShape s a.chosen a.input (λ n m tag zoned is none. (refl, (not_refused s n m zoned none).few)) all)

-- at each moment the server is a new one after some inputs
pub files_have_shape : AllPartiesRun → FilesHaveShape
files_have_shape run w r n f at =
    let it = (run w r).server in
    let all : Each (Shaped IsShape) w.server.files =
    subst (λ (s : Server). Each (Shaped IsShape) s.files) (sym it.is)
    (run_shaped (new_server []) it.acts (λ g i. absurd i)) in
    let x : Shaped IsShape f = all f (in_at w.server.files n f at) in
    record { components = x.0; few = x.1 }
