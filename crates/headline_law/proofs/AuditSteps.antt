-- What audits have found so far, over each step of the server.
-- Towards `AuditsFindNone` (`file_simulation/specs/Claim.antt`).
use Rattle.std.proofs.Common.{◌≡◌, ◌==◌, ℕ, ◌+◌, Bool, true, false, map, List, [], ◌∷◌, Option, Some, None, refl, sym, ap, subst, ◌∙◌, inl, inr, if◌then◌else◌}
use Rattle.server_rules.specs.declared.limits.TheConstants.{GREATEST_TAG}
use Rattle.server_rules.specs.Commit.{Committed, NoGrant, Wrong, Sizes, by_commit, commit_row, commits}
use Rattle.server_rules.specs.Files.{Step, begins, at_file, step_at}
use Rattle.server_rules.specs.Get.{Early, BadMode, Invalid, Unable, Waits, On, Late, NoNumber, Lacks, Conflict, Gives, by_late, late, give_or_refuse, after_fence, fence_first, on_grants, must_fence, by_early, gets}
use Rattle.server_rules.specs.Going.{Going, keeping, noting, noting_if}
use Rattle.server_rules.specs.History.{Input, step}
use Rattle.server_rules.specs.Jobs.{fence_begins, declares, making}
use Rattle.server_rules.specs.Laws.{In, IsSafe}
use Rattle.server_rules.specs.Making.{with_file}
use Rattle.server_rules.specs.Numbers.{among}
use Rattle.server_rules.specs.Openings.{crashed_file, opens, opens_each}
use Rattle.server_rules.specs.Orders.{declare, declares_each, offline}
use Rattle.server_rules.specs.Replies.{Done, answers, hearing, others, heard_with}
use Rattle.server_rules.specs.Requests.{serves}
use Rattle.server_rules.specs.Return.{Returned, NoGrant as NotHeld, Clean, Taken, TooMany, Fencing as ToFence, by_return, return_row, reports_from, takes_loss, returns_on}
use Rattle.server_rules.specs.Served.{Served}
use Rattle.server_rules.specs.Standing.{lose_from}
use Rattle.server_rules.proofs.Members.{in_mapped}
use Rattle.history_law.specs.Names.{Server, File, Drive, Effects, Component, Grant, Job, Revoking, Note, NoteKind, Spent, Reported, ClientRequest, RequestArgs, Get, Commit, Return}
use Rattle.history_law.specs.Steps.{Answering, IsAnswering, answered_file, new_file, Refuses, WhileBusy, OnGreatest, StepCases, RequestCases}
use Rattle.history_law.proofs.Files.{in_at}
use Rattle.history_law.proofs.Hearing.{found_in}
use Rattle.history_law.proofs.Steps.{each_step, each_request}
use Rattle.history_law.proofs.JobFiles.{in_add, in_put}
use Rattle.headline_law.proofs.AuditJobs.{NoneFound, FindsNone, FindsNoneOf, IsClean, Clears, none_more, none_if, same_found, clean_making, clean_fence, clean_hears, clean_declares, clean_opens}
use Rattle.headline_law.proofs.OweAsked.{AreAlone}
use Rattle.headline_law.proofs.RowsTurn.{reports_leave, none_taken}

-- ---- a request

reports_found : (g : Going) (ks : List ℕ) (cs : List Component) (k : ℕ) → NoneFound g.effects.notes →
    NoneFound (reports_from g ks cs k).effects.notes
unfolding reports_from
reports_found g ks [] k none = none
reports_found g ks (at ∷ cs) k none =
    reports_found (noting_if (among k ks) g (Reported k)) ks cs (k + 1)
    (none_if (among k ks) g (Reported k) (λ a b c d e. absurd (cc e)) none)

module _ (go : Going) (clean : IsClean go) where
  abbrev S : Served → Type 0
  S v = IsClean v.going

  either_served : (b : Bool) (x y : Served) → S x → S y → S (if b then x else y)
  either_served true x y p q = p
  either_served false x y p q = q

  spent : IsClean (noting go Spent)
  spent = (clean.0, none_more go.effects.notes go.file.kept.number Spent (λ a b c d e. absurd (cc e)) clean.1)

  late_clean : (g : Going) (x : Grant) (l : Late) → IsClean g → S (by_late g x l)
  late_clean g x NoNumber k = k
  late_clean g x (Lacks n) k = k
  late_clean g x (Conflict holder) k = k
  late_clean g x Gives k = (same_found g.file.kept (by_late g x Gives).going.file.kept g.file.job refl refl k.0, k.1)

  given : (g : Going) (next : ℕ) (x : Grant) → IsClean g → S (give_or_refuse g next x)
  unfolding give_or_refuse
  given g next x k = late_clean g x (late g.file.kept next x) k

  behind_fence : (g : Going) (next : ℕ) (x : Grant) (o : Option Job) → IsClean g → S (after_fence g next x o)
  behind_fence g next x None k = given g next x k
  behind_fence g next x (Some j) k = k

  first_clean : (next format : ℕ) (x : Grant) → S (fence_first go next format x)
  unfolding fence_first
  first_clean next format x =
      either_served (go.file.kept.tag == GREATEST_TAG) _ _ spent
      (behind_fence (fence_begins Revoking format go) next x (fence_begins Revoking format go).file.job
      (clean_fence Revoking format go clean.1))

  early_clean : (next format now : ℕ) (x : Grant) (e : Early) → S (by_early go next format now x e)
  unfolding on_grants
  early_clean next format now x BadMode = clean
  early_clean next format now x Invalid = clean
  early_clean next format now x Unable = clean
  early_clean next format now x (Waits k) = clean
  early_clean next format now x On =
      either_served (must_fence now go.file.kept.grants x) _ _ (first_clean next format x) (given go next x clean)

  commit_clean : (c : Committed) → S (by_commit go c)
  commit_clean NoGrant = clean
  commit_clean Wrong = clean
  commit_clean (Sizes size) =
      (same_found go.file.kept (by_commit go (Sizes size)).going.file.kept go.file.job refl refl clean.0, clean.1)

  return_clean : (format client : ℕ) (r : Returned) → ((ks : List ℕ) → r ≡ Taken ks → go.file.job ≡ None) →
      S (by_return go format client r)
  unfolding takes_loss
  return_clean format client NotHeld idle = clean
  return_clean format client Clean idle =
      (same_found go.file.kept (by_return go format client Clean).going.file.kept go.file.job refl refl clean.0, clean.1)
  return_clean format client (Taken ks) idle =
      let lost : Going = keeping go (record go.file.kept { components = lose_from ks go.file.kept.components 0 }) in
      let r = reports_leave lost ks go.file.kept.components 0 in (
        subst (FindsNoneOf (by_return go format client (Taken ks)).going.file.kept)
            (sym (ap (λ (y : File). y.job) r.0 ∙ idle ks refl)) tt,
        reports_found lost ks go.file.kept.components 0 clean.1,
      )
  return_clean format client TooMany idle = spent
  return_clean format client ToFence idle = clean_fence Revoking format go clean.1

  clean_serves : IsSafe go.file → (next format now client : ℕ) (args : RequestArgs) →
      S (serves go next format now client args)
  unfolding gets commits returns_on
  clean_serves safe next format now client (Get iomode offset count) = early_clean next format now _ _
  clean_serves safe next format now client (Commit last) = commit_clean (commit_row go.file.kept client last)
  clean_serves safe next format now client (Return report) =
      return_clean format client (return_row go.file.kept client report) (none_taken go.file safe.alone client report)

-- ---- files

abbrev pub AllFindNone : List File → Type 0
AllFindNone fs = (f : File) → In f fs → FindsNoneOf f.kept f.job

abbrev FoundIn : List File → List Note → Type 0
FoundIn fs ns = AllFindNone fs × NoneFound ns

-- the files and notes of a step
abbrev pub FoundBy : Step → Type 0
FoundBy did = AllFindNone did.state.files × NoneFound did.notes

first_and : (f : File) (fs : List File) → FindsNoneOf f.kept f.job → AllFindNone fs → AllFindNone (f ∷ fs)
first_and f fs first rest g (inl same) = subst (λ (y : File). FindsNoneOf y.kept y.job) (sym same) first
first_and f fs first rest g (inr i) = rest g i

declared_all : (drive : ℕ) (ds : List Drive) (fs : List File) (m : Effects) (c : List ℕ) → AllFindNone fs →
    NoneFound m.notes →
    FoundIn (declares_each drive ds fs m c).files (declares_each drive ds fs m c).effects.notes
unfolding declares_each
declared_all drive ds [] m c all none = (λ f i. absurd i, none)
declared_all drive ds (x ∷ fs) m c all none =
    let g : Going = declares (record { file = x; effects = m; drives = ds; chosen = c }) drive in
    let k : IsClean g =
    clean_declares drive (record { file = x; effects = m; drives = ds; chosen = c }) (all x (inl refl), none) in
    let rest = declared_all drive ds fs g.effects g.chosen (λ f i. all f (inr i)) k.1 in
    (first_and g.file (declares_each drive ds fs g.effects g.chosen).files k.0 rest.0, rest.1)

opened_all : (format : ℕ) (ds : List Drive) (fs : List File) (m : Effects) → AllFindNone fs → NoneFound m.notes →
    FoundIn (opens_each format ds fs m).files (opens_each format ds fs m).effects.notes
unfolding opens_each
opened_all format ds [] m all none = (λ f i. absurd i, none)
opened_all format ds (x ∷ fs) m all none =
    let g : Going = opens format (record { file = x; effects = m; drives = ds; chosen = [] }) in
    let k : IsClean g =
    clean_opens format (record { file = x; effects = m; drives = ds; chosen = [] }) (all x (inl refl), none) in
    let rest = opened_all format ds fs g.effects (λ f i. all f (inr i)) k.1 in
    (first_and g.file (opens_each format ds fs g.effects).files k.0 rest.0, rest.1)

-- ---- any step

-- Where the last reply to the READs of a piece comes, the piece is as it should be.
abbrev pub EachPieceClears : Server → Input → Type 0
EachPieceClears s i =
    (x : Answering) → IsAnswering s i x → In x.awaited x.job.awaited → answers x.drive x.reply x.awaited ≡ true →
    hearing x.file.kept x.awaited x.reply ≡ Done → others x.job.awaited x.awaited.command.nonce ≡ [] →
    Clears x.file.kept x.job.work (heard_with x.job x.awaited x.reply)

module _ (s : Server) (chosen : List ℕ) (i : Input) (all : AllFindNone s.files)
    (safe : (f : File) → In f s.files → IsSafe f)
    (alone : (f : File) (j : Job) → In f s.files → f.job ≡ Some j → AreAlone j.awaited) (clears : EachPieceClears s i) where
  none_yet : NoneFound []
  none_yet m a b c d i = absurd i

  puts : (n : ℕ) (g : Going) → IsClean g → FoundBy (step_at s n g)
  puts n g k = (
    λ f j. elim (in_put s.files n g.file f j) [
      | inl same ↦ subst (λ (y : File). FindsNoneOf y.kept y.job) (sym same) k.0
      | inr old ↦ all f old
    ],
    k.1,
  )

  starts : (f : File) → In f s.files → IsClean (at_file s chosen f)
  starts f j = (all f j, none_yet)

  answered : (x : Answering) → IsAnswering s i x →
      FoundBy (step_at s (answered_file s chosen x).file.kept.number (answered_file s chosen x))
  answered x is =
      let found = found_in (answers x.drive x.reply) x.job.awaited x.awaited is.awaits in
      let finds : FindsNone x.file.kept x.job x.job.work = subst (FindsNoneOf x.file.kept) is.runs (all x.file is.there) in
      puts (answered_file s chosen x).file.kept.number (answered_file s chosen x)
      (clean_hears (at_file s chosen x.file) x.job x.awaited x.reply is.runs found.0 (alone x.file x.job is.there is.runs) finds
      none_yet (hearing x.file.kept x.awaited x.reply) (λ done none. clears x is found.0 found.1 done none))

  refused : (x : File) (kind : NoteKind) → Refuses x kind →
      NoneFound (record { file = x.kept.number; kind = kind } ∷ [])
  refused x kind (WhileBusy j runs is) = none_more [] x.kept.number kind (λ a b c d e. absurd (cc (e ∙ is))) none_yet
  refused x kind (OnGreatest none great is) = none_more [] x.kept.number kind (λ a b c d e. absurd (cc (e ∙ is))) none_yet

  requests : (now : ℕ) (q : ClientRequest) → RequestCases s now chosen q FoundBy
  requests now q = record {
    again = λ kept is. (all, none_yet);
    misordered = λ expected is. (all, none_yet);
    without = λ is none. (all, none_yet);
    served = λ is f found.
        puts q.file (serves (at_file s chosen f) s.next_grant s.format now q.client q.args).going
        (clean_serves (at_file s chosen f) (starts f (in_at s.files q.file f found)) (safe f (in_at s.files q.file f found))
        s.next_grant s.format now q.client q.args);
  }

  crashed : (f : File) → In f (map crashed_file s.files) → FindsNoneOf f.kept f.job
  crashed f j =
      let r = in_mapped crashed_file f s.files j in subst (λ (y : File). FindsNoneOf y.kept y.job) (sym r.2) tt

  made : (x : File) → x.job ≡ None →
      FoundBy (step_at (with_file s x) x.kept.number (making (at_file (with_file s x) [] x)))
  made x idle =
      let k : IsClean (making (at_file (with_file s x) [] x)) = clean_making (at_file (with_file s x) [] x) none_yet in (
        λ f j. elim (in_put (with_file s x).files x.kept.number (making (at_file (with_file s x) [] x)).file f j) [
          | inl same ↦ subst (λ (y : File). FindsNoneOf y.kept y.job) (sym same) k.0
          | inr there ↦ elim (in_add s.files x f there) [
            | inl new ↦ subst (λ (y : File). FindsNoneOf y.kept y.job) (sym new) (subst (FindsNoneOf x.kept) (sym idle) tt)
            | inr old ↦ all f old
          ]
        ],
        k.1,
      )

  cases : StepCases s chosen i FoundBy
  unfolding declare
  cases = record {
    rests = (all, none_yet);
    asked = λ now q is. each_request s now chosen q FoundBy (requests now q);
    answered = answered;
    recalled = λ x is. (all, none_yet);
    refused = λ x is kind why. (
      λ f j. elim (in_put s.files x.kept.number x f j) [
        | inl same ↦ all f (subst (λ (y : File). In y s.files) (sym same) (in_at s.files is.target x is.found))
        | inr old ↦ all f old
      ],
      refused x kind why,
    );
    fenced = λ x is kind none low.
        puts x.kept.number (fence_begins kind s.format (at_file s chosen x))
        (clean_fence kind s.format (at_file s chosen x) none_yet);
    declared = λ d known. declared_all d (offline s.drives d) s.files (begins s) chosen all none_yet;
    told = λ u now o is result found. found;
    made = λ n m tag zoned is ok. made (new_file s chosen n m tag zoned) refl;
    added = λ d is. (all, none_yet);
    zoned = λ d zone is. (all, none_yet);
    formats = λ n is. (all, none_yet);
    resends = λ is. (all, none_yet);
    crashes = λ is. (crashed, none_yet);
    opened = λ is low. opened_all s.format s.drives s.files (begins s) all none_yet;
  }

  -- So it is behind each step.
  pub found_step : FoundBy (step s chosen i)
  found_step = each_step s chosen i FoundBy cases
