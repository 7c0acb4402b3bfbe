-- What a job has heard goes on in each step of the server.
use Rattle.std.proofs.Common.{◌≡◌, ◌==◌, ◌||◌, ℕ, ◌+◌, Bool, true, false, List, [], ◌∷◌, Option, Some, None, refl, sym, ap, subst, ◌∙◌, inl, inr, if◌then◌else◌}
use Rattle.std.proofs.lemmas.Bool.{and_parts, eqb-true}
use Rattle.osd_lists.specs.declared.node.Node.TheVariants.{Drive as FromDrive}
use Rattle.server_rules.specs.declared.limits.TheConstants.{GREATEST_TAG}
use Rattle.server_rules.specs.Commit.{Committed, Wrong, Sizes, NoGrant as NoCommit, by_commit, commits, commit_row}
use Rattle.server_rules.specs.Files.{Step, begins, add_file, at_file}
use Rattle.server_rules.specs.Get as rows
use Rattle.server_rules.specs.Get.{Early, early, must_fence, Late, by_late, late, give_or_refuse, after_fence, fence_first, on_grants, by_early, gets}
use Rattle.server_rules.specs.Going.{Going, keeping, noting_if, with_components}
use Rattle.server_rules.specs.History.{Input, Hears, step}
use Rattle.server_rules.specs.Jobs.{making, declares, fence_begins, waits_or_on, loses, others_than, is_target, targets, declared_in}
use Rattle.server_rules.specs.Laws.{In}
use Rattle.server_rules.specs.Making.{with_file}
use Rattle.server_rules.specs.Messages.{Replies, awaited_by}
use Rattle.server_rules.specs.Numbers.{among}
use Rattle.server_rules.specs.Openings.{opens, opens_made, opens_spent, opens_fenced, is_unsettled}
use Rattle.server_rules.specs.Orders.{offline, declare}
use Rattle.server_rules.specs.Replies.{Hearing, Older, Full, Done, Nothing, answers, others, heard_with, hearing, hears, fills_up}
use Rattle.server_rules.specs.Requests.{serves, on_request}
use Rattle.server_rules.specs.Return as returning
use Rattle.server_rules.specs.Return.{Returned, return_row, reports_from, takes_loss, by_return, returns_on}
use Rattle.server_rules.specs.Served.{Served}
use Rattle.server_rules.specs.Standing.{any_on, lose_on}
use Rattle.server_rules.proofs.Members.{in_either}
use Rattle.world_history.specs.ServerNames.{Server, File, Component, Grant, Job, Work, Creates, Fences, Fetches, Stores, Targets, Gathers, Fills, Lengths, Checks, Awaited, Heard, Reported, Revoking, Reply, ClientRequest, RequestArgs, Get, Commit, Return}
use Rattle.history_law.specs.Steps.{Answering, IsAnswering, answered_file, new_file, StepCases}
use Rattle.history_law.proofs.Files as Files
use Rattle.history_law.proofs.Files.{in_at, put_each, add_each, declared_each, opened_each, crashed_each}
use Rattle.history_law.proofs.Steps.{each_request, each_step}
use Rattle.history_law.proofs.Hearing.{found_in, goes_hears as number_hears}
use Rattle.history_law.proofs.Asking.{handled_served, handled_declares, handled_opened}
use Rattle.relation_law.proofs.Walk.{Place, JobCases, walk_fence, walk_making, walk_full, walk_loses, walk_waits}
use Rattle.cause_law.specs.Awaiting.{Answers}
use Rattle.cause_law.proofs.TagSteps.{R}
use Rattle.history_claims.specs.Heard.{HasHeardIt, HeardGoes, AsBefore, ByReply}

-- ---- a job that rests anew has heard nothing

abbrev Any : Place → Going → Type 0
Any place g = Unit {0}

-- what it has heard is so
abbrev Only : (Heard → Type 0) → Going → Type 0
Only H h = (x : Heard) → HasHeardIt h.file.job x → H x

module _ (H : Heard → Type 0) where
  nothing : JobCases Any (Only H)
  nothing = record {
    asks = λ place work c cs kind g q a x i. absurd i;
    aims = λ t g q is x i. absurd i;
    readied = λ g q x i. absurd i;
    rests_behind = λ g q x i. absurd i;
    built = λ k g q x i. absurd i;
    counted = λ t g q x i. absurd i;
    raises = λ g q. tt;
    skips = λ p ps g q e. tt;
    unchanged = λ p ps heard g q e. tt;
    repaired = λ short g q. tt;
    begins = λ g q. tt;
    passes = λ b k g q. tt;
    builds = λ t g q. tt;
    loses_it = λ t p ps lacked g q e. tt;
    gone = λ t todo g q. tt;
    full = λ t todo g q. tt;
    zeros = λ t p ps heard g q e. tt;
    lengths = λ g q. tt;
    counts = λ p ps g q. tt;
  }

  waits_so : (g : Going) (j : Job) (work : Work) (rest : List Awaited) (heard : List Heard)
      → ((x : Heard) → In x heard → H x) → Only H (waits_or_on g j work rest heard)
  waits_so g j work rest heard all = walk_waits Any (Only H) nothing g j work rest heard (λ c cs e x i. all x i) (λ none. tt)

  loses_so : (g : Going) (j : Job) (work : Work) (rest : List Awaited) (gone : Bool) → j.work ≡ work
      → ((x : Heard) → In x j.heard → H x) → Only H g → Only H (loses g j work rest gone)
  loses_so g j work rest gone is all stays =
      walk_loses Any (Only H) nothing g j work rest gone is
      (record { waits = λ c cs e x i. all x i; stays = stays; on = λ waits. tt })

  full_so : (g : Going) (j : Job) (a : Awaited) (work : Work) → j.work ≡ work → ((x : Heard) → In x j.heard → H x)
      → Only H g → Only H (fills_up g j a work)
  full_so g j a (Targets t) is all stays = walk_full Any (Only H) nothing t [] g tt
  full_so g j a (Gathers t todo) is all stays = walk_full Any (Only H) nothing t [] g tt
  full_so g j a (Fills t todo) is all stays = walk_full Any (Only H) nothing t [] g tt
  full_so g j a Creates is all stays = loses_so _ j Creates _ false is all stays
  full_so g j a Fences is all stays = loses_so _ j Fences _ false is all stays
  full_so g j a (Fetches todo short) is all stays = loses_so _ j (Fetches todo short) _ false is all stays
  full_so g j a (Stores todo short broken) is all stays = loses_so _ j (Stores todo short broken) _ false is all stays
  full_so g j a Lengths is all stays = loses_so _ j Lengths _ false is all stays
  full_so g j a (Checks todo t) is all stays = loses_so _ j (Checks todo t) _ false is all stays

-- ---- a file

module _ (s : Server) (i : Input) (f : File) where
  abbrev H : Heard → Type 0
  H x = HeardGoes s i f x

  heard_hears : (j : Job) → f.job ≡ Some j → (g : Going) → g.file ≡ f → (a : Awaited) → In a j.awaited → (r : Reply)
      → ((hearing f.kept a r ≡ Nothing → ⊥) → (y : Answers s i f a) × (y.reply ≡ r)) → (v : Hearing)
      → hearing f.kept a r ≡ v → Only H (hears g j a r v)
  heard_hears j runs g own a there r y v is = by v is
    where
      before : (x : Heard) → In x j.heard → H x
      before x k = AsBefore (subst (λ (o : Option Job). HasHeardIt o x) (sym runs) k)

      stays : Only H g
      stays x k = AsBefore (subst (λ (z : File). HasHeardIt z.job x) own k)

      more : hearing f.kept a r ≡ Done → (x : Heard) → In x (heard_with j a r) → H x
      more done x k = elim (in_either x j.heard (record { component = a.component; payload = r.payload } ∷ []) k) [
        | inl l ↦ before x l
        | inr (inl e) ↦
            let z = y (λ q. cc (sym done ∙ q)) in
            ByReply a (subst (λ (o : Option Job). In a (awaited_by o)) (sym runs) there) z.0 (ap (hearing f.kept a) z.1 ∙ done)
            (e ∙ ap (λ (u : Reply). record { component = a.component; payload = u.payload }) (sym z.1))
        | inr (inr none) ↦ absurd none
      ]

      by : (v : Hearing) → hearing f.kept a r ≡ v → Only H (hears g j a r v)
      by Older e = before
      by Nothing e = stays
      by Full e = full_so H g j a j.work refl before stays
      by Done e = waits_so H g j j.work (others j.awaited a.command.nonce) (heard_with j a r) (more e)

  heard_declares : (d : ℕ) (g : Going) → g.file ≡ f → Only H (declares g d)
  unfolding declares
  heard_declares d g own = by (any_on d g.file.kept.components || targets g.file.job d)
    where
      h : Going
      h = with_components g (lose_on d g.file.kept.components)

      stays : Only H g
      stays x k = AsBefore (subst (λ (z : File). HasHeardIt z.job x) own k)

      by_job : (o : Option Job) → g.file.job ≡ o → Only H (declared_in h d o)
      by_job None runs = stays
      by_job (Some j) runs =
          loses_so H h j j.work (others_than d j.awaited) (is_target j.work d) refl
          (λ x k. stays x (subst (λ (o : Option Job). HasHeardIt o x) (sym runs) k)) stays

      by : (b : Bool) → Only H (if b then declared_in h d g.file.job else g)
      by true = by_job g.file.job refl
      by false = stays

-- ---- requests and openings

module _ (H : Heard → Type 0) (go : Going) (here : Only H go) where
  either : (b : Bool) (v w : Served) → Only H v.going → Only H w.going → Only H (if b then v else w).going
  either true v w p q = p
  either false v w p q = q

  only_fence : (format : ℕ) → Only H (fence_begins Revoking format go)
  only_fence format = walk_fence Any (Only H) (nothing H) Revoking format go tt

  only_given : (h : Going) (next : ℕ) (w : Grant) → Only H h → Only H (give_or_refuse h next w).going
  unfolding give_or_refuse
  only_given h next w had = by (late h.file.kept next w)
    where
      by : (l : Late) → Only H (by_late h w l).going
      by rows.NoNumber = had
      by (rows.Lacks k) = had
      by (rows.Conflict c) = had
      by rows.Gives = had

  only_after : (h : Going) (next : ℕ) (w : Grant) (o : Option Job) → Only H h → Only H (after_fence h next w o).going
  only_after h next w None had = only_given h next w had
  only_after h next w (Some j) had = had

  only_gets : (next format now client iomode offset count : ℕ)
      → Only H (gets go next format now client iomode offset count).going
  unfolding gets on_grants fence_first
  only_gets next format now client iomode offset count = by _ (early go.file iomode offset count)
    where
      by : (w : Grant) (e : Early) → Only H (by_early go next format now w e).going
      by w rows.BadMode = here
      by w rows.Invalid = here
      by w rows.Unable = here
      by w (rows.Waits k) = here
      by w rows.On =
          either (must_fence now go.file.kept.grants w) _ _
          (either (go.file.kept.tag == GREATEST_TAG) _ _ here
          (only_after (fence_begins Revoking format go) next w (fence_begins Revoking format go).file.job (only_fence format)))
          (only_given go next w here)

  reports_job : (g : Going) (ks : List ℕ) (cs : List Component) (k : ℕ) → (reports_from g ks cs k).file ≡ g.file
  unfolding reports_from
  reports_job g ks [] k = refl
  reports_job g ks (at ∷ cs) k = reports_job (noting_if (among k ks) g (Reported k)) ks cs (k + 1)

  only_serves : (next format now client : ℕ) (args : RequestArgs) → Only H (serves go next format now client args).going
  unfolding commits returns_on takes_loss
  only_serves next format now client (Get iomode offset count) = only_gets next format now client iomode offset count
  only_serves next format now client (Commit last) = by (commit_row go.file.kept client last)
    where
      by : (c : Committed) → Only H (by_commit go c).going
      by NoCommit = here
      by Wrong = here
      by (Sizes size) = here
  only_serves next format now client (Return report) = by (return_row go.file.kept client report)
    where
      by : (r : Returned) → Only H (by_return go format client r).going
      by returning.NoGrant = here
      by returning.Clean = here
      by (returning.Taken ks) = λ x k.
          here x (subst (λ (f : File). HasHeardIt f.job x) (reports_job (keeping go _) ks go.file.kept.components 0) k)
      by returning.TooMany = here
      by returning.Fencing = only_fence format

  only_opens : (format : ℕ) → Only H (opens format go)
  unfolding opens opens_fenced
  only_opens format = by (is_unsettled go.file.kept)
    where
      made : (b : Bool) → Only H (opens_made go b)
      made true = λ x k. absurd k
      made false = walk_making Any (Only H) (nothing H) go tt

      tag : (b : Bool) → Only H (if b then opens_spent go else fence_begins Revoking format go)
      tag true = here
      tag false = only_fence format

      by : (b : Bool) → Only H (if b then (if go.file.kept.tag == GREATEST_TAG then opens_spent go
          else fence_begins Revoking format go) else opens_made go go.file.kept.ready)
      by true = tag (go.file.kept.tag == GREATEST_TAG)
      by false = made go.file.kept.ready

-- ---- a step

-- what its job has heard comes from a file that was there
abbrev pub HeardAs : Server → Input → File → Type 0
HeardAs s i g =
    (x : Heard) → HasHeardIt g.job x
    → (f : File) × In f s.files × (g.kept.number ≡ f.kept.number) × HeardGoes s i f x

module _ (s : Server) (chosen : List ℕ) (i : Input) where
  abbrev P : Step → Type 0
  P t = Files.Each (HeardAs s i) t.state.files

  as_it_was : (f g : File) → In f s.files → g.kept.number ≡ f.kept.number
      → ((x : Heard) → HasHeardIt g.job x → HeardGoes s i f x) → HeardAs s i g
  as_it_was f g there number goes x k = (f, there, number, goes x k)

  stay : Files.Each (HeardAs s i) s.files
  stay f there = as_it_was f f there refl (λ x k. AsBefore k)

  asked : (now : ℕ) (q : ClientRequest) → P (on_request s now chosen q)
  asked now q =
      each_request s now chosen q P (record {
        again = λ kept e. stay;
        misordered = λ expected e. stay;
        without = λ new none. stay;
        served = λ new f found.
            put_each (HeardAs s i) s.files q.file _ stay
            (as_it_was f (serves (at_file s chosen f) s.next_grant s.format now q.client q.args).going.file
            (in_at s.files q.file f found)
            (handled_served R (at_file s chosen f) s.next_grant s.format now q.client q.args).goes.number_is
            (only_serves (HeardGoes s i f) (at_file s chosen f) (λ x k. AsBefore k) s.next_grant s.format now q.client
            q.args));
      })

  answered : (x : Answering) → IsAnswering s i x → HeardAs s i (answered_file s chosen x).file
  answered x is =
      as_it_was x.file (answered_file s chosen x).file is.there
      (number_hears (at_file s chosen x.file) x.job x.awaited x.reply (hearing x.file.kept x.awaited x.reply) own.0
      (λ y j. subst (λ (o : Option Job). In y (awaited_by o)) (sym is.runs) j)).number_is
      (heard_hears s i x.file x.job is.runs (at_file s chosen x.file) refl x.awaited own.0 x.reply
      (λ counts. (
        record {
          now = x.now;
          reply = x.reply;
          comes = is.is ∙ ap (λ (n : ℕ). Hears x.now (FromDrive n) (Replies x.reply)) (sym its.0);
          room = is.low;
          nonce = its.1;
          counts = counts;
        },
        refl,
      )) (hearing x.file.kept x.awaited x.reply) refl)
    where
      own : In x.awaited x.job.awaited × (answers x.drive x.reply x.awaited ≡ true)
      own = found_in (answers x.drive x.reply) x.job.awaited x.awaited is.awaits

      its : (x.awaited.drive ≡ x.drive) × (x.reply.nonce ≡ x.awaited.command.nonce)
      its =
          let both = and_parts (x.awaited.command.nonce == x.reply.nonce) (x.awaited.drive == x.drive) own.1 in
          (eqb-true x.awaited.drive x.drive both.1, sym (eqb-true x.awaited.command.nonce x.reply.nonce both.0))

  cases : StepCases s chosen i P
  unfolding declare
  cases = record {
    rests = stay;
    asked = λ now q is. asked now q;
    answered = λ x is.
        put_each (HeardAs s i) s.files (answered_file s chosen x).file.kept.number (answered_file s chosen x).file stay
        (answered x is);
    recalled = λ f is. stay;
    refused = λ f is n why. put_each (HeardAs s i) s.files f.kept.number f stay (stay f (in_at s.files is.target f is.found));
    fenced = λ f is kind free low.
        put_each (HeardAs s i) s.files f.kept.number _ stay
        (λ x k. absurd (walk_fence Any (Only (λ y. ⊥)) (nothing (λ y. ⊥)) kind s.format (at_file s chosen f) tt x k));
    declared = λ d known.
        declared_each (HeardAs s i) d (offline s.drives d) s.files (begins s) chosen (λ f there m placed.
        let g : Going = record { file = f; effects = m; drives = offline s.drives d; chosen = placed } in
        as_it_was f (declares g d).file there (handled_declares R g d).goes.number_is (heard_declares s i f d g refl));
    told = λ t now o is result p. p;
    made = λ n m tag zoned is none.
        let f : File = new_file s chosen n m tag zoned in
        put_each (HeardAs s i) (add_file s.files f) n (making (at_file (with_file s f) [] f)).file
        (add_each (HeardAs s i) s.files f stay (λ x k. absurd k))
        (λ x k. absurd (walk_making Any (Only (λ y. ⊥)) (nothing (λ y. ⊥)) (at_file (with_file s f) [] f) tt x k));
    added = λ d is. stay;
    zoned = λ d zone is. stay;
    formats = λ n is. stay;
    resends = λ is. stay;
    crashes = λ is. crashed_each (HeardAs s i) s.files (λ f there x k. absurd k);
    opened = λ is low.
        opened_each (HeardAs s i) s.format s.drives s.files (begins s) (λ f there m.
        let g : Going = record { file = f; effects = m; drives = s.drives; chosen = [] } in
        as_it_was f (opens s.format g).file there (handled_opened R s.format g).goes.number_is
        (only_opens (HeardGoes s i f) g (λ x k. AsBefore k) s.format));
  }

  pub heard_go : P (step s chosen i)
  heard_go = each_step s chosen i P cases
