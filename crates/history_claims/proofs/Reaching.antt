-- What a step of the server makes of how far the grants for writing of each file reached.
use Rattle.std.proofs.Common.{◌≡◌, ◌⊎◌, ◌≤◌, ◌==◌, ℕ, Bool, true, false, not, ◌+◌, max, List, [], ◌∷◌, ◌++◌, Option, Some, None, refl, sym, ap, subst, ◌∙◌, arith, inl, inr, if◌then◌else◌}
use Rattle.server_rules.specs.declared.limits.TheConstants.{GREATEST_TAG}
use Rattle.server_rules.specs.Commit.{Committed, Wrong, Sizes, NoGrant as NoCommit, by_commit, commits, commit_row}
use Rattle.server_rules.specs.Files.{Step, file_at, put_file, add_file, at_file, begins}
use Rattle.server_rules.specs.Get as rows
use Rattle.server_rules.specs.Get.{Early, early, must_fence, Late, high_after, by_late, late, give_or_refuse, after_fence, fence_first, on_grants, by_early, gets}
use Rattle.server_rules.specs.Going.{Going, keeping}
use Rattle.server_rules.specs.Grants.{without}
use Rattle.server_rules.specs.History.{Input, step}
use Rattle.server_rules.specs.Jobs.{making, ending, declares, fence_begins}
use Rattle.server_rules.specs.Laws.{In, Rests, AreSafe}
use Rattle.server_rules.specs.Making.{with_file}
use Rattle.server_rules.specs.Openings.{opens, opens_made, opens_spent, opens_fenced, is_unsettled}
use Rattle.server_rules.specs.Orders.{offline, declare}
use Rattle.server_rules.specs.Replies.{hearing}
use Rattle.server_rules.specs.Requests.{serves, on_request}
use Rattle.server_rules.specs.Return as returning
use Rattle.server_rules.specs.Return.{Returned, return_row, reports_from, takes_loss, by_return, returns_on}
use Rattle.server_rules.specs.Numbers.{among}
use Rattle.server_rules.specs.Served.{Served}
use Rattle.server_rules.specs.Going.{noting_if}
use Rattle.server_rules.proofs.FileLaws.{not_there}
use Rattle.server_rules.proofs.HandlerLaws.{ran_hears}
use Rattle.server_rules.proofs.Members.{in_either, in_behind, in_filtered}
use Rattle.server_rules.proofs.Runs.{ran_fences, ran_declares, ran_making}
use Rattle.world_history.specs.ServerNames.{Server, File, Component, Grant, Job, JobKind, Revoking, Reported, ClientRequest, RequestArgs, Get, Commit, Return, IoErr}
use Rattle.history_law.specs.Steps.{answered_file, new_file, StepCases}
use Rattle.history_law.proofs.Files as Files
use Rattle.history_law.proofs.Files.{in_at, put_each, add_each, declared_each, opened_each, crashed_each, safe_in}
use Rattle.history_law.proofs.Steps.{each_request, each_step}
use Rattle.history_law.proofs.Fences.{handled_fence}
use Rattle.history_law.proofs.Asking.{handled_served, handled_opened}
use Rattle.component_law.specs.Going.{IsMaking}
use Rattle.cause_law.proofs.TagSteps.{R}
use Rattle.history_claims.specs.Reach.{Rises, Stays, Raised, Reaches}

-- ---- a file

-- the live grants are among those before, and nothing else changes
less : (f g : File) → g.kept.high ≡ f.kept.high → ((w : Grant) → In w g.kept.grants → In w f.kept.grants) → Reaches f g
less f g high among_ = record { rises = Stays high; covers = λ w i rw_. inl (among_ w i) }

same : (f g : File) → g.kept.high ≡ f.kept.high → g.kept.grants ≡ f.kept.grants → Reaches f g
same f g high grants = less f g high (λ w i. subst (In w) grants i)

none : (f g : File) → g.kept.high ≡ f.kept.high → g.kept.grants ≡ [] → Reaches f g
none f g high grants = less f g high (λ w i. absurd (subst (In w) grants i))

-- a grant is given
gives : (f : File) (go : Going) (w : Grant) → go.file.kept.high ≡ f.kept.high
    → ((v : Grant) → In v go.file.kept.grants → In v f.kept.grants) → Reaches f (rows.gives go w).going.file
gives f go w high among_ = record { rises = by w.rw refl; covers = covers }
  where
    by : (b : Bool) → w.rw ≡ b → Rises f (rows.gives go w).going.file
    by false e = Stays (ap (λ (c : Bool). if c then max go.file.kept.high w.end else go.file.kept.high) e ∙ high)
    by true e =
        Raised w (in_behind w go.file.kept.grants (w ∷ []) (inl refl)) e
        (ap (λ (c : Bool). if c then max go.file.kept.high w.end else go.file.kept.high) e
        ∙ ap (λ (n : ℕ). max n w.end) high)

    reached : (v : Grant) → v ≡ w → v.rw ≡ true → v.end ≤ high_after go.file.kept.high w
    reached v is e =
        subst (λ (u : Grant). u.rw ≡ true → u.end ≤ high_after go.file.kept.high w) (sym is)
        (λ t. subst (λ (c : Bool). w.end ≤ (if c then max go.file.kept.high w.end else go.file.kept.high)) (sym t)
        (grind (arith))) e

    covers : (v : Grant) → In v (go.file.kept.grants ++ (w ∷ [])) → v.rw ≡ true
        → In v f.kept.grants ⊎ (v.end ≤ high_after go.file.kept.high w)
    covers v i e = elim (in_either v go.file.kept.grants (w ∷ []) i) [
      | inl j ↦ inl (among_ v j)
      | inr (inl is) ↦ inr (reached v is e)
      | inr (inr no_) ↦ absurd no_
    ]

fence_reaches : (kind : JobKind) (format : ℕ) (g : Going) → Reaches g.file (fence_begins kind format g).file
unfolding fence_begins
fence_reaches kind format g =
    let r = ran_fences kind (keeping g (ending g.file.kept format)) in
    none g.file (fence_begins kind format g).file r.high r.grants

-- ---- a request

module _ (go : Going) where
  late_reaches : (h : Going) (w : Grant) → h.file.kept.high ≡ go.file.kept.high
      → ((v : Grant) → In v h.file.kept.grants → In v go.file.kept.grants) → (l : Late)
      → Reaches go.file (by_late h w l).going.file
  late_reaches h w high among_ rows.NoNumber = less go.file h.file high among_
  late_reaches h w high among_ (rows.Lacks k) = less go.file h.file high among_
  late_reaches h w high among_ (rows.Conflict c) = less go.file h.file high among_
  late_reaches h w high among_ rows.Gives = gives go.file h w high among_

  given_reaches : (h : Going) (next : ℕ) (w : Grant) → h.file.kept.high ≡ go.file.kept.high
      → ((v : Grant) → In v h.file.kept.grants → In v go.file.kept.grants)
      → Reaches go.file (give_or_refuse h next w).going.file
  unfolding give_or_refuse
  given_reaches h next w high among_ = late_reaches h w high among_ (late h.file.kept next w)

  after_reaches : (next format : ℕ) (w : Grant) (o : Option Job)
      → Reaches go.file (after_fence (fence_begins Revoking format go) next w o).going.file
  unfolding fence_begins
  after_reaches next format w (Some j) = fence_reaches Revoking format go
  after_reaches next format w None =
      let r = ran_fences Revoking (keeping go (ending go.file.kept format)) in
      given_reaches (fence_begins Revoking format go) next w r.high (λ v i. absurd (subst (In v) r.grants i))

  either : (b : Bool) (v w : Served) → Reaches go.file v.going.file → Reaches go.file w.going.file
      → Reaches go.file (if b then v else w).going.file
  either true v w p q = p
  either false v w p q = q

  here : Reaches go.file go.file
  here = same go.file go.file refl refl

  gets_reach : (next format now client iomode offset count : ℕ)
      → Reaches go.file (gets go next format now client iomode offset count).going.file
  unfolding gets on_grants fence_first
  gets_reach next format now client iomode offset count = by _ (early go.file iomode offset count)
    where
      by : (w : Grant) (e : Early) → Reaches go.file (by_early go next format now w e).going.file
      by w rows.BadMode = here
      by w rows.Invalid = here
      by w rows.Unable = here
      by w (rows.Waits k) = here
      by w rows.On =
          either (must_fence now go.file.kept.grants w) _ _
          (either (go.file.kept.tag == GREATEST_TAG) _ _ (same go.file go.file refl refl)
          (after_reaches next format w (fence_begins Revoking format go).file.job))
          (given_reaches go next w refl (λ v i. i))

  commits_reach : (client : ℕ) (last : Option ℕ) → Reaches go.file (commits go client last).going.file
  unfolding commits
  commits_reach client last = by (commit_row go.file.kept client last)
    where
      by : (c : Committed) → Reaches go.file (by_commit go c).going.file
      by NoCommit = here
      by Wrong = here
      by (Sizes size) = same go.file (by_commit go (Sizes size)).going.file refl refl

  reports_file : (g : Going) (ks : List ℕ) (cs : List Component) (k : ℕ) → (reports_from g ks cs k).file ≡ g.file
  unfolding reports_from
  reports_file g ks [] k = refl
  reports_file g ks (at ∷ cs) k = reports_file (noting_if (among k ks) g (Reported k)) ks cs (k + 1)

  returns_reach : (format client : ℕ) (report : List IoErr) → Reaches go.file (returns_on go format client report).going.file
  unfolding returns_on takes_loss
  returns_reach format client report = by (return_row go.file.kept client report)
    where
      less_without : (f : File) → f.kept.high ≡ go.file.kept.high → f.kept.grants ≡ go.file.kept.grants
          → Reaches go.file (record f { kept = record f.kept { grants = without f.kept.grants client } })
      less_without f high grants =
          less go.file _ high
          (λ v i. subst (In v) grants (in_filtered (λ (x : Grant). not (x.client == client)) v f.kept.grants i).0)

      by : (r : Returned) → Reaches go.file (by_return go format client r).going.file
      by returning.NoGrant = here
      by returning.Clean = less_without go.file refl refl
      by (returning.Taken ks) =
          let e = reports_file (keeping go _) ks go.file.kept.components 0 in
          less_without _ (ap (λ (f : File). f.kept.high) e) (ap (λ (f : File). f.kept.grants) e)
      by returning.TooMany = here
      by returning.Fencing = fence_reaches Revoking format go

  pub serves_reach : (next format now client : ℕ) (args : RequestArgs)
      → Reaches go.file (serves go next format now client args).going.file
  serves_reach next format now client (Get iomode offset count) = gets_reach next format now client iomode offset count
  serves_reach next format now client (Commit last) = commits_reach client last
  serves_reach next format now client (Return report) = returns_reach format client report

  -- ---- an opening

  pub opens_reach : (format : ℕ) → Reaches go.file (opens format go).file
  unfolding opens opens_fenced
  opens_reach format = by (is_unsettled go.file.kept)
    where
      made : (b : Bool) → Reaches go.file (opens_made go b).file
      made true = same go.file _ refl refl
      made false = let r = ran_making go in same go.file (making go).file r.high r.grants

      tag : (b : Bool) → Reaches go.file (if b then opens_spent go else fence_begins Revoking format go).file
      tag true = same go.file _ refl refl
      tag false = fence_reaches Revoking format go

      by : (b : Bool) → Reaches go.file (if b then (if go.file.kept.tag == GREATEST_TAG then opens_spent go
          else fence_begins Revoking format go) else opens_made go go.file.kept.ready).file
      by true = tag (go.file.kept.tag == GREATEST_TAG)
      by false = made go.file.kept.ready

-- ---- a step

-- the file was there and reached so, or is made
abbrev pub ReachedAs : Server → Input → File → Type 0
ReachedAs s i g =
    ((f : File) × In f s.files × (g.kept.number ≡ f.kept.number) × Reaches f g)
    ⊎ ((file_at s.files g.kept.number ≡ None) × IsMaking i g.kept.number × (g.kept.high ≡ 0))

module _ (s : Server) (chosen : List ℕ) (i : Input) (safe : AreSafe s.files) where
  abbrev P : Step → Type 0
  P t = Files.Each (ReachedAs s i) t.state.files

  stay : Files.Each (ReachedAs s i) s.files
  stay f there = inl (f, there, refl, same f f refl refl)

  put_at : (n : ℕ) (f g : File) → In f s.files → g.kept.number ≡ f.kept.number → Reaches f g
      → Files.Each (ReachedAs s i) (put_file s.files n g)
  put_at n f g there number goes = put_each (ReachedAs s i) s.files n g stay (inl (f, there, number, goes))

  asked : (now : ℕ) (q : ClientRequest) → P (on_request s now chosen q)
  asked now q =
      each_request s now chosen q P (record {
        again = λ kept e. stay;
        misordered = λ expected e. stay;
        without = λ new none. stay;
        served = λ new f found.
            put_at q.file f (serves (at_file s chosen f) s.next_grant s.format now q.client q.args).going.file
            (in_at s.files q.file f found)
            (handled_served R (at_file s chosen f) s.next_grant s.format now q.client q.args).goes.number_is
            (serves_reach (at_file s chosen f) s.next_grant s.format now q.client q.args);
      })

  cases : StepCases s chosen i P
  unfolding declare
  cases = record {
    rests = stay;
    asked = λ now q is. asked now q;
    answered = λ x is.
        let safe_ = safe_in s.files safe x.file is.there in
        let r = ran_hears (at_file s chosen x.file) x.job x.awaited x.reply (hearing x.file.kept x.awaited x.reply)
        (subst Rests is.runs safe_.rests) safe_.rests in
        put_at (answered_file s chosen x).file.kept.number x.file (answered_file s chosen x).file is.there r.number
        (same x.file (answered_file s chosen x).file r.high r.grants);
    recalled = λ f is. stay;
    refused = λ f is n why.
        put_at f.kept.number f f (in_at s.files is.target f is.found) refl (same f f refl refl);
    fenced = λ f is kind free low.
        put_at f.kept.number f _ (in_at s.files is.target f is.found) (fence_number kind f)
        (fence_reaches kind s.format (at_file s chosen f));
    declared = λ d known.
        declared_each (ReachedAs s i) d (offline s.drives d) s.files (begins s) chosen (λ f there m placed.
        let g : Going = record { file = f; effects = m; drives = offline s.drives d; chosen = placed } in
        let r = ran_declares g d (safe_in s.files safe f there).rests in
        inl (f, there, r.number, same f (declares g d).file r.high r.grants));
    told = λ t now o is result p. p;
    made = λ n m tag zoned is none.
        let f : File = new_file s chosen n m tag zoned in
        let r = ran_making (at_file (with_file s f) [] f) in
        let absent : file_at s.files n ≡ None = not_there s n m zoned none in
        let begun : IsMaking i n = subst (λ (x : Input). IsMaking x n) (sym is) refl in
        put_each (ReachedAs s i) (add_file s.files f) n (making (at_file (with_file s f) [] f)).file
        (add_each (ReachedAs s i) s.files f stay (inr (absent, begun, refl)))
        (inr (
          ap (file_at s.files) r.number ∙ absent,
          subst (IsMaking i) (sym r.number) begun,
          r.high,
        ));
    added = λ d is. stay;
    zoned = λ d zone is. stay;
    formats = λ n is. stay;
    resends = λ is. stay;
    crashes = λ is. crashed_each (ReachedAs s i) s.files (λ f there. inl (f, there, refl, same f _ refl refl));
    opened = λ is low.
        opened_each (ReachedAs s i) s.format s.drives s.files (begins s) (λ f there m.
        let g : Going = record { file = f; effects = m; drives = s.drives; chosen = [] } in
        inl (f, there, (handled_opened R s.format g).goes.number_is, opens_reach g s.format));
  }
    where
      fence_number : (kind : JobKind) (f : File) → (fence_begins kind s.format (at_file s chosen f)).file.kept.number
          ≡ f.kept.number
      fence_number kind f = (handled_fence R kind s.format (at_file s chosen f)).goes.number_is

  pub all_reached : P (step s chosen i)
  all_reached = each_step s chosen i P cases
