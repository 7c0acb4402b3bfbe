-- What a step of the server sends to drives a job awaits behind it.
use Rattle.std.proofs.Common.{◌≡◌, ◌⊎◌, ◌==◌, ◌||◌, ℕ, ◌+◌, Bool, true, false, List, [], ◌∷◌, ◌++◌, map, flat_map, Option, Some, None, refl, sym, ap, subst, ◌∙◌, inl, inr, if◌then◌else◌}
use Rattle.std.proofs.lemmas.Bool.{eq-eqb}
use Rattle.osd_commands.specs.declared.commands.Command.{Command}
use Rattle.layout_ops.specs.declared.statuses.TheConstants.{NFS4ERR_SEQ_MISORDERED}
use Rattle.server_rules.specs.declared.limits.TheConstants.{GREATEST_TAG}
use Rattle.server_rules.specs.Answers.{plain_answer, recalls_from}
use Rattle.server_rules.specs.Commands.{again_in_2}
use Rattle.server_rules.specs.Commit.{Committed, NoGrant, Wrong, Sizes, by_commit, commits}
use Rattle.server_rules.specs.Files.{Step, still, begins, file_at, put_file, add_file, at_file, step_at, to_drives}
use Rattle.server_rules.specs.Get.{Early, BadMode, Invalid, Unable, Waits, On, Late, NoNumber, Lacks, Conflict, Gives, by_late, late, give_or_refuse, after_fence, fence_first, on_grants, must_fence, by_early, gets}
use Rattle.server_rules.specs.Going.{Going, noting, noting_if, keeping, with_components, rests, over, waits_on}
use Rattle.server_rules.specs.History.{Input}
use Rattle.server_rules.specs.Jobs.{making, fence_begins, loses, declares, declared_in, is_target, others_than, targets, is_made}
use Rattle.server_rules.specs.Laws.{In}
use Rattle.server_rules.specs.Making.{with_file, makes_file, set_format}
use Rattle.server_rules.specs.Messages.{awaited_by}
use Rattle.server_rules.specs.Numbers.{among}
use Rattle.server_rules.specs.Openings.{is_unsettled, opens_made, opens_fenced, opens, opens_each, crash, opens_spent}
use Rattle.server_rules.specs.Orders.{recalls, offline, declare, declares_each}
use Rattle.server_rules.specs.Replies.{Hearing, Older, Full, Done, Nothing, others, renewed, fills_up, heard_with, hears, renews}
use Rattle.server_rules.specs.Requests.{serves, carried_out, keeps, answer_without, only_answers, size_in}
use Rattle.server_rules.specs.Return.{Returned, NoGrant as NotHeld, Clean, Taken, TooMany, Fencing as ToFence, reports_from, takes_loss, by_return, returns_on, ends_grant}
use Rattle.server_rules.specs.Served.{Served, tells}
use Rattle.server_rules.specs.Standing.{lose_from, lose_on, any_on}
use Rattle.server_rules.proofs.FileLaws.{number_at}
use Rattle.server_rules.specs.Audit.{audited}
use Rattle.server_rules.specs.Rounds.{Round, step_round}
use Rattle.server_rules.proofs.Members.{in_either, in_map}
use Rattle.history_law.specs.Names.{Server, File, Drive, Effects, Component, Grant, Job, JobKind, Revoking, Awaited, Work, Creates, Fences, Fetches, Stores, Targets, Gathers, Fills, Lengths, Checks, Reply, Reported, RequestArgs, Get, Commit, Return, ClientRequest, ToDrive, Answer, Spent}
use Rattle.history_law.specs.Numbered.{Awaits, IsOf}
use Rattle.history_law.proofs.JobFiles.{put_there, add_there, in_drives}
use Rattle.history_law.proofs.Hearing.{found_in}
use Rattle.history_law.proofs.JobSteps.{no_recall}
use Rattle.history_law.specs.Steps.{answered_file, new_file, with_added, with_zoned, StepCases, RequestCases}
use Rattle.history_law.proofs.Files.{in_at}
use Rattle.history_law.proofs.Steps.{each_step, each_request}
use Rattle.relation_law.specs.Owning.{EachSendIsAwaited}
use Rattle.relation_law.proofs.Ways.{hears_number}
use Rattle.relation_law.proofs.Walk.{Place, JobCases, walk_loses, walk_fence, walk_making, walk_full, walk_waits, aims_at, broken}

-- ---- one file

-- nothing is sent at a place
abbrev Unsent : List Awaited → Place → Going → Type 0
Unsent ns place g = g.effects.sent ≡ ns

module _ (ns : List Awaited) where
  -- what is sent beyond these the job awaits
  abbrev IsSent : Going → Type 0
  IsSent g = (a : Awaited) → In a g.effects.sent → In a ns ⊎ In a (awaited_by g.file.job)

  none_sent : (g h : Going) → h.effects.sent ≡ g.effects.sent → g.effects.sent ≡ ns → IsSent h
  none_sent g h same q a i = inl (subst (In a) (same ∙ q) i)

  all_sent : (g h : Going) (ws : List Awaited) → h.effects.sent ≡ g.effects.sent ++ ws → awaited_by h.file.job ≡ ws →
      g.effects.sent ≡ ns → IsSent h
  all_sent g h ws sent waits q a i = elim (in_either a g.effects.sent ws (subst (In a) sent i)) [
    | inl old ↦ inl (subst (In a) q old)
    | inr new ↦ inr (subst (In a) (sym waits) new)
  ]

  sent_cases : JobCases (Unsent ns) IsSent
  sent_cases = record {
    asks = λ place work c cs kind g q a. all_sent g (rests g kind work c cs) (c ∷ cs) refl refl q;
    aims = λ t g q is. all_sent g (aims_at g t) (awaited_by (aims_at g t).file.job) refl refl q;
    readied = λ g q. none_sent g (is_made g) refl q;
    rests_behind = λ g q. none_sent g (over g) refl q;
    built = λ n g q. none_sent g (over g) refl q;
    counted = λ t g q. none_sent g (audited g t) refl q;
    raises = λ g q. q;
    skips = λ p ps g q e. q;
    unchanged = λ p ps heard g q e. q;
    repaired = λ short g q. q;
    begins = λ g q. q;
    passes = λ b n g q. q;
    builds = λ t g q. q;
    loses_it = λ t p ps lacked g q e. q;
    gone = λ t todo g q. q;
    full = λ t todo g q. q;
    zeros = λ t p ps heard g q e. q;
    lengths = λ g q. q;
    counts = λ p ps g q. q;
  }

  loses_sent : (g : Going) (j : Job) (work : Work) (rest : List Awaited) (gone : Bool) → j.work ≡ work →
      g.effects.sent ≡ ns → IsSent (loses g j work rest gone)
  loses_sent g j work rest gone is q =
      walk_loses (Unsent ns) IsSent sent_cases g j work rest gone is
      (record {
        waits = λ c cs e. none_sent g (waits_on g j (broken j.work) c cs j.heard) refl q;
        stays = none_sent g g refl q;
        on = λ none. q;
      })

  fills_up_sent : (g : Going) (j : Job) (a : Awaited) (work : Work) → j.work ≡ work → g.effects.sent ≡ ns →
      IsSent (fills_up g j a work)
  fills_up_sent g j a (Targets t) is q = walk_full (Unsent ns) IsSent sent_cases t [] g q
  fills_up_sent g j a (Gathers t ps) is q = walk_full (Unsent ns) IsSent sent_cases t ps g q
  fills_up_sent g j a (Fills t ps) is q = walk_full (Unsent ns) IsSent sent_cases t ps g q
  fills_up_sent g j a Creates is q = loses_sent _ j Creates (others j.awaited a.command.nonce) false is q
  fills_up_sent g j a Fences is q = loses_sent _ j Fences (others j.awaited a.command.nonce) false is q
  fills_up_sent g j a (Fetches ps short) is q =
      loses_sent _ j (Fetches ps short) (others j.awaited a.command.nonce) false is q
  fills_up_sent g j a (Stores ps short b) is q =
      loses_sent _ j (Stores ps short b) (others j.awaited a.command.nonce) false is q
  fills_up_sent g j a Lengths is q = loses_sent _ j Lengths (others j.awaited a.command.nonce) false is q
  fills_up_sent g j a (Checks ps t) is q =
      loses_sent _ j (Checks ps t) (others j.awaited a.command.nonce) false is q

  -- the command that is sent again stands among those that are awaited
  renewed_there : (a b : Awaited) (ws : List Awaited) → In a ws → In b (map (renewed a b) ws)
  renewed_there a b ws i =
      subst (λ (y : Awaited). In y (map (renewed a b) ws)) own (in_map (renewed a b) a ws i)
    where
      own : renewed a b a ≡ b
      own = ap (λ (t : Bool). if t then b else a) (eq-eqb a.command.nonce a.command.nonce refl)

  renews_sent : (g : Going) (j : Job) (a : Awaited) → In a j.awaited → g.effects.sent ≡ ns → IsSent (renews g j a)
  renews_sent g j a here q y i =
      elim (in_either y g.effects.sent _ i) [
        | inl old ↦ inl (subst (In y) q old)
        | inr (inl new) ↦
            inr (subst (λ (z : Awaited). In z (map (renewed a (again_in_2 a g.effects.nonce)) j.awaited)) (sym new)
            (renewed_there a (again_in_2 a g.effects.nonce) j.awaited here))
        | inr (inr none) ↦ absurd none
      ]

  hears_sent : (g : Going) (j : Job) (a : Awaited) (r : Reply) (x : Hearing) → In a j.awaited → g.effects.sent ≡ ns →
      (g.file.job ≡ Some j) → IsSent (hears g j a r x)
  hears_sent g j a r Older here q runs = renews_sent g j a here q
  hears_sent g j a r Full here q runs = fills_up_sent g j a j.work refl q
  hears_sent g j a r Done here q runs =
      walk_waits (Unsent ns) IsSent sent_cases g j j.work (others j.awaited a.command.nonce) (heard_with j a r)
      (λ c cs e. none_sent g (waits_on g j j.work c cs (heard_with j a r)) refl q) (λ none. q)
  hears_sent g j a r Nothing here q runs = none_sent g g refl q

  pick : (b : Bool) (x y : Going) → IsSent x → IsSent y → IsSent (if b then x else y)
  pick true x y p r = p
  pick false x y p r = r

  declares_sent : (drive : ℕ) (g : Going) → g.effects.sent ≡ ns → IsSent (declares g drive)
  unfolding declares
  declares_sent drive g q =
      let h : Going = with_components g (lose_on drive g.file.kept.components) in
      pick (any_on drive g.file.kept.components || targets g.file.job drive) (declared_in h drive g.file.job) g
      (by_job h g.file.job q) (none_sent g g refl q)
    where
      by_job : (h : Going) (o : Option Job) → h.effects.sent ≡ ns → IsSent (declared_in h drive o)
      by_job h None p = none_sent h h refl p
      by_job h (Some j) p = loses_sent h j j.work (others_than drive j.awaited) (is_target j.work drive) refl p

  fence_sent : (kind : JobKind) (format : ℕ) (g : Going) → g.effects.sent ≡ ns → IsSent (fence_begins kind format g)
  fence_sent kind format g q = walk_fence (Unsent ns) IsSent sent_cases kind format g q

  opens_sent : (format : ℕ) (g : Going) → g.effects.sent ≡ ns → IsSent (opens format g)
  unfolding opens opens_fenced
  opens_sent format g q =
      pick (is_unsettled g.file.kept) _ _
      (pick (g.file.kept.tag == GREATEST_TAG) _ _ (none_sent g (opens_spent g) refl q) (fence_sent Revoking format g q))
      (by_ready g.file.kept.ready)
    where
      by_ready : (b : Bool) → IsSent (opens_made g b)
      by_ready true = none_sent g (over g) refl q
      by_ready false = walk_making (Unsent ns) IsSent sent_cases g q

  -- ---- a request

  -- it leaves the job, and sends nothing
  stays_sent : (g h : Going) → h.file.job ≡ g.file.job → h.effects.sent ≡ g.effects.sent → IsSent g → IsSent h
  stays_sent g h job sent is a i = elim (is a (subst (In a) sent i)) [
    | inl old ↦ inl old
    | inr waits ↦ inr (subst (λ (o : Option Job). In a (awaited_by o)) (sym job) waits)
  ]

  given_sent : (go : Going) (g : Grant) (l : Late) → IsSent go → IsSent (by_late go g l).going
  given_sent go g NoNumber is = is
  given_sent go g (Lacks n) is = is
  given_sent go g (Conflict holder) is = is
  given_sent go g Gives is = stays_sent go (by_late go g Gives).going refl refl is

  after_sent : (go : Going) (next : ℕ) (g : Grant) (j : Option Job) → IsSent go → IsSent (after_fence go next g j).going
  unfolding give_or_refuse
  after_sent go next g None is = given_sent go g (late go.file.kept next g) is
  after_sent go next g (Some j) is = is

  either : (b : Bool) (x y : Served) → IsSent x.going → IsSent y.going → IsSent (if b then x else y).going
  either true x y p q = p
  either false x y p q = q

  gets_sent : (go : Going) (next format now : ℕ) (g : Grant) (e : Early) → go.effects.sent ≡ ns →
      IsSent (by_early go next format now g e).going
  unfolding on_grants fence_first give_or_refuse
  gets_sent go next format now g BadMode q = none_sent go go refl q
  gets_sent go next format now g Invalid q = none_sent go go refl q
  gets_sent go next format now g Unable q = none_sent go go refl q
  gets_sent go next format now g (Waits n) q = none_sent go go refl q
  gets_sent go next format now g On q =
      either (must_fence now go.file.kept.grants g) _ _
      (either (go.file.kept.tag == GREATEST_TAG) _ _ (none_sent go (noting go Spent) refl q)
      (after_sent (fence_begins Revoking format go) next g (fence_begins Revoking format go).file.job
      (fence_sent Revoking format go q)))
      (given_sent go g (late go.file.kept next g) (none_sent go go refl q))

  reports_sent : (go : Going) (ks : List ℕ) (cs : List Component) (n : ℕ) →
      (reports_from go ks cs n).effects.sent ≡ go.effects.sent
  unfolding reports_from
  reports_sent go ks [] n = refl
  reports_sent go ks (at ∷ cs) n = reports_sent (noting_if (among n ks) go (Reported n)) ks cs (n + 1)

  return_sent : (go : Going) (format client : ℕ) (r : Returned) → go.effects.sent ≡ ns →
      IsSent (by_return go format client r).going
  unfolding takes_loss
  return_sent go format client NotHeld q = none_sent go go refl q
  return_sent go format client Clean q = none_sent go (ends_grant go client) refl q
  return_sent go format client (Taken ks) q =
      none_sent go (ends_grant (takes_loss go ks) client)
      (reports_sent (keeping go (record go.file.kept { components = lose_from ks go.file.kept.components 0 })) ks
      go.file.kept.components 0) q
  return_sent go format client TooMany q = none_sent go (noting go Spent) refl q
  return_sent go format client ToFence q = fence_sent Revoking format go q

  commit_sent : (go : Going) (c : Committed) → go.effects.sent ≡ ns → IsSent (by_commit go c).going
  commit_sent go NoGrant q = none_sent go go refl q
  commit_sent go Wrong q = none_sent go go refl q
  commit_sent go (Sizes size) q = none_sent go (by_commit go (Sizes size)).going refl q

  serves_sent : (go : Going) (next format now client : ℕ) (args : RequestArgs) → go.effects.sent ≡ ns →
      IsSent (serves go next format now client args).going
  unfolding gets commits returns_on
  serves_sent go next format now client (Get iomode offset count) q = gets_sent go next format now _ _ q
  serves_sent go next format now client (Commit last) q = commit_sent go _ q
  serves_sent go next format now client (Return report) q = return_sent go format client _ q

-- ---- a round

-- a job of one of these files awaits it, or it is one of those
abbrev SentBy : List Awaited → List File → List Awaited → Type 0
SentBy ns fs ws = (a : Awaited) → In a ws → In a ns ⊎ Awaits fs a

first_sent : (ns ms : List Awaited) (f : File) (fs : List File) (ws : List Awaited) →
    ((a : Awaited) → In a ms → In a ns ⊎ In a (awaited_by f.job)) → SentBy ms fs ws → SentBy ns (f ∷ fs) ws
first_sent ns ms f fs ws own rest a i = elim (rest a i) [
  | inl early ↦ elim (own a early) [
    | inl old ↦ inl old
    | inr waits ↦ inr (f, inl refl, waits)
  ]
  | inr later ↦ inr (later.0, inr later.1, later.2)
]

declares_round : (drive : ℕ) (ds : List Drive) (fs : List File) (m : Effects) (placed : List ℕ) →
    SentBy m.sent (declares_each drive ds fs m placed).files (declares_each drive ds fs m placed).effects.sent
unfolding declares_each
declares_round drive ds [] m placed = λ a i. inl i
declares_round drive ds (f ∷ fs) m placed =
    let h : Going = declares (record { file = f; effects = m; drives = ds; chosen = placed }) drive in
    first_sent m.sent h.effects.sent h.file (declares_each drive ds fs h.effects h.chosen).files _
    (declares_sent m.sent drive (record { file = f; effects = m; drives = ds; chosen = placed }) refl)
    (declares_round drive ds fs h.effects h.chosen)

opens_round : (format : ℕ) (ds : List Drive) (fs : List File) (m : Effects) →
    SentBy m.sent (opens_each format ds fs m).files (opens_each format ds fs m).effects.sent
unfolding opens_each
opens_round format ds [] m = λ a i. inl i
opens_round format ds (f ∷ fs) m =
    let h : Going = opens format (record { file = f; effects = m; drives = ds; chosen = [] }) in
    first_sent m.sent h.effects.sent h.file (opens_each format ds fs h.effects).files _
    (opens_sent m.sent format (record { file = f; effects = m; drives = ds; chosen = [] }) refl)
    (opens_round format ds fs h.effects)

-- ---- a step

abbrev AllAwaited : Step → Type 0
AllAwaited t =
    (drive : ℕ) (x : Command) → In (ToDrive drive x) t.sends → (a : Awaited) × IsOf drive x a × Awaits t.state.files a

nothing : (t : Step) → ((drive : ℕ) (x : Command) → In (ToDrive drive x) t.sends → ⊥) → AllAwaited t
nothing t none drive x i = absurd (none drive x i)

-- what goes to drives are these commands, and a job of the files awaits each
by_sent : (t : Step) (ds : List Drive) (ws : List Awaited) →
    ((drive : ℕ) (x : Command) → In (ToDrive drive x) t.sends → In (ToDrive drive x) (to_drives ds ws)) →
    SentBy [] t.state.files ws → AllAwaited t
by_sent t ds ws among sent drive x i =
    let r = in_drives ds ws drive x (among drive x i) in
    elim (sent r.0 r.2) [ inl none ↦ absurd none | inr waits ↦ (r.0, r.1, waits) ]

-- of one file that stands in the list
of_one : (fs : List File) (n : ℕ) (f : File) (h : Going) → In f fs → f.kept.number ≡ n → IsSent [] h →
    SentBy [] (put_file fs n h.file) h.effects.sent
of_one fs n f h there number sent a i = elim (sent a i) [
  | inl none ↦ absurd none
  | inr waits ↦ inr (h.file, put_there fs n h.file f there number, waits)
]

module _ (s : Server) (chosen : List ℕ) (i : Input) where
  same_nothing : (t : Step) → t.sends ≡ [] → AllAwaited t
  same_nothing t none = nothing t (λ drive x j. subst (In (ToDrive drive x)) none j)

  only_nothing : (u : Server) (a : Answer) → AllAwaited (only_answers u a)
  only_nothing u a = nothing (only_answers u a) (λ drive x j. elim j [ inl e ↦ cc e | inr none ↦ none ])

  requests : (now : ℕ) (q : ClientRequest) → RequestCases s now chosen q AllAwaited
  requests now q = record {
    again = λ kept is. only_nothing s kept;
    misordered = λ expected is.
        only_nothing s (plain_answer q (tells NFS4ERR_SEQ_MISORDERED expected) (size_in (file_at s.files q.file)));
    without = λ is none. only_nothing (keeps s (answer_without q)) (answer_without q);
    served = λ is f found.
        let v : Served = serves (at_file s chosen f) s.next_grant s.format now q.client q.args in
        by_sent (carried_out s q v) s.drives v.going.effects.sent
        (λ drive x j. elim (in_either (ToDrive drive x) (to_drives s.drives v.going.effects.sent) _ j) [
          | inl k ↦ k
          | inr k ↦ elim (in_either (ToDrive drive x) (recalls_from s.next_recall v.recalled) _ k) [
            | inl l ↦ absurd (no_recall s.next_recall v.recalled drive x l)
            | inr (inl e) ↦ absurd (cc e)
            | inr (inr none) ↦ absurd none
          ]
        ])
        (of_one s.files q.file f v.going (in_at s.files q.file f found) (number_at s.files q.file f found)
        (serves_sent [] (at_file s chosen f) s.next_grant s.format now q.client q.args refl));
  }

  one : (f : File) (h : Going) (n : ℕ) → In f s.files → f.kept.number ≡ n → IsSent [] h → AllAwaited (step_at s n h)
  one f h n there number sent =
      by_sent (step_at s n h) s.drives h.effects.sent (λ drive x j. j) (of_one s.files n f h there number sent)

  -- what is sent once more is awaited
  again_sent : (ds : List Drive) (fs : List File) (drive : ℕ) (x : Command) →
      In (ToDrive drive x) (flat_map (λ (f : File). to_drives ds (awaited_by f.job)) fs) →
      (a : Awaited) × IsOf drive x a × Awaits fs a
  again_sent ds [] drive x j = absurd j
  again_sent ds (f ∷ fs) drive x j = elim (in_either (ToDrive drive x) (to_drives ds (awaited_by f.job)) _ j) [
    | inl k ↦ let r = in_drives ds (awaited_by f.job) drive x k in (r.0, r.1, (f, inl refl, r.2))
    | inr k ↦ let r = again_sent ds fs drive x k in (r.0, r.1, (r.2.0, inr r.2.1, r.2.2))
  ]

  cases : StepCases s chosen i AllAwaited
  unfolding declare
  cases = record {
    rests = same_nothing (still s) refl;
    asked = λ now q is. each_request s now chosen q AllAwaited (requests now q);
    answered = λ x is.
        let h : Going = answered_file s chosen x in
        one x.file h h.file.kept.number is.there
        (sym (hears_number x.file.kept.number (at_file s chosen x.file) x.job x.awaited x.reply _ refl))
        (hears_sent [] (at_file s chosen x.file) x.job x.awaited x.reply _
        (found_in _ x.job.awaited x.awaited is.awaits).0 refl is.runs);
    recalled = λ f is. nothing (recalls s f).step (no_recall s.next_recall f.kept.grants);
    refused = λ f is n why.
        one f (noting (at_file s chosen f) n) f.kept.number (in_at s.files is.target f is.found) refl
        (none_sent [] (at_file s chosen f) (noting (at_file s chosen f) n) refl refl);
    fenced = λ f is kind none low.
        one f (fence_begins kind s.format (at_file s chosen f)) f.kept.number (in_at s.files is.target f is.found) refl
        (fence_sent [] kind s.format (at_file s chosen f) refl);
    declared = λ d known.
        let ds : List Drive = offline s.drives d in
        let r : Round = declares_each d ds s.files (begins s) chosen in
        by_sent (declare s chosen d) ds r.effects.sent (λ drive x j. j)
        (declares_round d ds s.files (begins s) chosen);
    told = λ t now o is result all drive x j. elim (in_either (ToDrive drive x) t.sends _ j) [
      | inl k ↦ all drive x k
      | inr (inl e) ↦ absurd (cc e)
      | inr (inr none) ↦ absurd none
    ];
    made = λ n m tag zoned is none.
        let f : File = new_file s chosen n m tag zoned in
        let h : Going = making (at_file (with_file s f) [] f) in
        by_sent (makes_file s f) s.drives h.effects.sent (λ drive x j. j)
        (of_one (add_file s.files f) f.kept.number f h (add_there s.files f) refl
        (walk_making (Unsent []) (IsSent []) (sent_cases []) (at_file (with_file s f) [] f) refl));
    added = λ d is. same_nothing (still (with_added s d)) refl;
    zoned = λ d zone is. same_nothing (still (with_zoned s d zone)) refl;
    formats = λ n is. same_nothing (still (set_format s n)) refl;
    resends = λ is drive x j. again_sent s.drives s.files drive x j;
    crashes = λ is. same_nothing (still (crash s)) refl;
    opened = λ is low.
        let r : Round = opens_each s.format s.drives s.files (begins s) in
        by_sent (step_round s r) s.drives r.effects.sent (λ drive x j. j)
        (opens_round s.format s.drives s.files (begins s));
  }

pub each_send_is_awaited : EachSendIsAwaited
each_send_is_awaited s chosen i = each_step s chosen i AllAwaited (cases s chosen i)
