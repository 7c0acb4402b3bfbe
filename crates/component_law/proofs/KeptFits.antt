-- At each moment of a run the work of each file's job fits its phase, while the server is up.
-- Towards `KeptGoesOn` (`specs/Steps.antt`).
use Rattle.std.proofs.Common.{◌≡◌, ◌==◌, ℕ, ◌+◌, Bool, true, false, List, [], ◌∷◌, Option, Some, None, refl, sym, if◌then◌else◌}
use Rattle.std.proofs.lemmas.Bool.{true≢false}
use Rattle.server_rules.specs.declared.limits.TheConstants.{GREATEST_TAG}
use Rattle.server_rules.specs.Commit.{Committed, NoGrant as NotCommitted, Wrong, Sizes, by_commit, commit_row, commits}
use Rattle.server_rules.specs.Files.{Step, begins, at_file}
use Rattle.server_rules.specs.Get.{Early, BadMode, Invalid, Unable, Waits, On, Late, NoNumber, Lacks, Conflict, Gives, by_late, late, give_or_refuse, after_fence, fence_first, on_grants, must_fence, by_early, gets}
use Rattle.server_rules.specs.Going.{Going, noting_if, with_components}
use Rattle.server_rules.specs.History.{Input, Crashes, Opens, Act, step, state_after}
use Rattle.server_rules.specs.Jobs.{making, fence_begins}
use Rattle.server_rules.specs.Laws.{In}
use Rattle.server_rules.specs.Making.{with_file}
use Rattle.server_rules.specs.Messages.{counters_have_room}
use Rattle.server_rules.specs.Numbers.{among}
use Rattle.server_rules.specs.Openings.{crash, reopen}
use Rattle.server_rules.specs.Orders.{offline, declare}
use Rattle.server_rules.specs.Requests.{serves}
use Rattle.server_rules.specs.Return.{Returned, NoGrant, Clean, Taken, TooMany, Fencing, return_row, by_return, reports_from, takes_loss, returns_on}
use Rattle.server_rules.specs.Served.{Served}
use Rattle.server_rules.specs.Standing.{lose_from}
use Rattle.history_law.specs.Moves.{down_behind}
use Rattle.history_law.specs.Steps.{StepCases, RequestCases, new_file, answered_file}
use Rattle.history_law.proofs.Steps.{each_step, each_request}
use Rattle.history_law.proofs.Files.{put_each, add_each, crashed_each, declared_each, opened_each, in_at}
use Rattle.world_history.specs.ServerNames.{Server, File, Kept, Grant, Note, Job, Revoking, Component, Reported, ClientRequest, RequestArgs, Get as Gets, Commit as Commits_, Return as Returns}
use Rattle.component_law.specs.Turns.{in_turn, AreInTurn, down_after}
use Rattle.component_law.proofs.StandRuns.{IsAt, goes_on, room_before}
use Rattle.component_law.specs.KeptWalk.{IsWalked, FileFits}
use Rattle.component_law.proofs.KeptJobs.{ends_hears, ends_declares, ends_fence, ends_making}
use Rattle.component_law.proofs.KeptOpening.{IsIdle, ends_opens}

-- ---- nothing is asked but that

abbrev Any : Kept → List Note → Type 0
Any k ns = Unit {0}

any_walked : IsWalked Any
any_walked = record {
  alike = λ k l ns a h. tt;
  plain = λ k ns kind p h. tt;
  fenced = λ k ns p h. tt;
  mended = λ k ns stripes short p h. tt;
}

-- ---- a request

either_served : (b : Bool) (x y : Served) → FileFits x.going.file → FileFits y.going.file
    → FileFits (if b then x else y).going.file
either_served true x y p q = p
either_served false x y p q = q

fits_late : (go : Going) (x : Grant) (l : Late) → FileFits go.file → FileFits (by_late go x l).going.file
fits_late go x NoNumber h = h
fits_late go x (Lacks k) h = h
fits_late go x (Conflict holder) h = h
fits_late go x Gives h = h

fits_given : (go : Going) (next : ℕ) (x : Grant) → FileFits go.file → FileFits (give_or_refuse go next x).going.file
unfolding give_or_refuse
fits_given go next x h = fits_late go x (late go.file.kept next x) h

fits_after : (go : Going) (next : ℕ) (x : Grant) (o : Option Job) → FileFits go.file
    → FileFits (after_fence go next x o).going.file
fits_after go next x None h = fits_given go next x h
fits_after go next x (Some j) h = h

fits_first : (go : Going) (next format : ℕ) (x : Grant) → FileFits go.file
    → FileFits (fence_first go next format x).going.file
unfolding fence_first
fits_first go next format x h =
    either_served (go.file.kept.tag == GREATEST_TAG) _ _ h
    (fits_after (fence_begins Revoking format go) next x (fence_begins Revoking format go).file.job
    (ends_fence Any any_walked Revoking format go tt).1)

fits_grants : (go : Going) (next format now : ℕ) (x : Grant) → FileFits go.file
    → FileFits (on_grants go next format now x).going.file
unfolding on_grants
fits_grants go next format now x h =
    either_served (must_fence now go.file.kept.grants x) _ _ (fits_first go next format x h) (fits_given go next x h)

fits_early : (go : Going) (next format now : ℕ) (x : Grant) (e : Early) → FileFits go.file
    → FileFits (by_early go next format now x e).going.file
fits_early go next format now x BadMode h = h
fits_early go next format now x Invalid h = h
fits_early go next format now x Unable h = h
fits_early go next format now x (Waits k) h = h
fits_early go next format now x On h = fits_grants go next format now x h

fits_commit : (go : Going) (r : Committed) → FileFits go.file → FileFits (by_commit go r).going.file
fits_commit go NotCommitted h = h
fits_commit go Wrong h = h
fits_commit go (Sizes size) h = h

fits_if : (b : Bool) (go : Going) (k : ℕ) → FileFits go.file → FileFits (noting_if b go (Reported k)).file
fits_if true go k h = h
fits_if false go k h = h

fits_reports : (go : Going) (ks : List ℕ) (cs : List Component) (k : ℕ) → FileFits go.file
    → FileFits (reports_from go ks cs k).file
unfolding reports_from
fits_reports go ks [] k h = h
fits_reports go ks (at ∷ cs) k h =
    fits_reports (noting_if (among k ks) go (Reported k)) ks cs (k + 1) (fits_if (among k ks) go k h)

fits_loss : (go : Going) (ks : List ℕ) → FileFits go.file → FileFits (takes_loss go ks).file
unfolding takes_loss
fits_loss go ks h =
    fits_reports (with_components go (lose_from ks go.file.kept.components 0)) ks go.file.kept.components 0 h

fits_return : (go : Going) (format c : ℕ) (r : Returned) → FileFits go.file → FileFits (by_return go format c r).going.file
fits_return go format c NoGrant h = h
fits_return go format c Clean h = h
fits_return go format c (Taken ks) h = fits_loss go ks h
fits_return go format c TooMany h = h
fits_return go format c Fencing h = (ends_fence Any any_walked Revoking format go tt).1

pub fits_served : (go : Going) (next format now c : ℕ) (args : RequestArgs) → FileFits go.file
    → FileFits (serves go next format now c args).going.file
unfolding gets commits returns_on
fits_served go next format now c (Gets iomode offset count) h = fits_early go next format now _ _ h
fits_served go next format now c (Commits_ last) h = fits_commit go (commit_row go.file.kept c last) h
fits_served go next format now c (Returns report) h = fits_return go format c (return_row go.file.kept c report) h

-- ---- a step

abbrev pub AllFit : List File → Type 0
AllFit fs = (f : File) → In f fs → FileFits f

abbrev pub AllIdle : List File → Type 0
AllIdle fs = (f : File) → In f fs → IsIdle f

-- while the server is down no job runs
abbrev pub FitsBy : (down : Bool) → List File → Type 0
FitsBy true fs = AllIdle fs
FitsBy false fs = AllFit fs

module _ (s : Server) (chosen : List ℕ) (i : Input) (all : AllFit s.files) (up : i ≡ Crashes → ⊥) (closed : i ≡ Opens → ⊥)
  where
    abbrev Fit : Step → Type 0
    Fit t = AllFit t.state.files

    request_cases : (now : ℕ) (q : ClientRequest) → RequestCases s now chosen q Fit
    request_cases now q = record {
      again = λ kept e. all;
      misordered = λ expected e. all;
      without = λ new none. all;
      served = λ new f found.
          put_each FileFits s.files q.file _ all
          (fits_served (at_file s chosen f) s.next_grant s.format now q.client q.args (all f (in_at s.files q.file f found)));
    }

    step_cases : StepCases s chosen i Fit
    unfolding declare
    step_cases = record {
      rests = all;
      asked = λ now q is. each_request s now chosen q Fit (request_cases now q);
      answered = λ x is.
          put_each FileFits s.files _ (answered_file s chosen x).file all
          (ends_hears Any any_walked (at_file s chosen x.file) x.job x.awaited x.reply _ is.runs
          (tt, all x.file is.there)).1;
      recalled = λ f is. all;
      refused = λ f is n why. put_each FileFits s.files f.kept.number f all (all f (in_at s.files is.target f is.found));
      fenced = λ f is kind none low.
          put_each FileFits s.files f.kept.number (fence_begins kind s.format (at_file s chosen f)).file all
          (ends_fence Any any_walked kind s.format (at_file s chosen f) tt).1;
      declared = λ d known.
          declared_each FileFits d (offline s.drives d) s.files (begins s) chosen
          (λ f there m placed.
          (ends_declares Any any_walked (record { file = f; effects = m; drives = offline s.drives d; chosen = placed }) d
          (tt, all f there)).1);
      told = λ t now o is result h. h;
      made = λ n m tag zoned is none.
          let f : File = new_file s chosen n m tag zoned in
          put_each FileFits (with_file s f).files f.kept.number (making (at_file (with_file s f) [] f)).file
          (add_each FileFits s.files f all (λ e. refl))
          (ends_making Any any_walked (at_file (with_file s f) [] f) (refl, tt)).1;
      added = λ d is. all;
      zoned = λ d zone is. all;
      formats = λ n is. all;
      resends = λ is. all;
      crashes = λ is. absurd (up is);
      opened = λ is low. absurd (closed is);
    }

    fits_up : AllFit (step s chosen i).state.files
    fits_up = each_step s chosen i Fit step_cases

fits_crash : (s : Server) → AllIdle (crash s).files
fits_crash s = crashed_each IsIdle s.files (λ f there. refl)

fits_opened : (s : Server) → counters_have_room s ≡ true → AllIdle s.files → AllFit (reopen s).state.files
unfolding reopen
fits_opened s low idle =
    rw low (opened_each FileFits s.format s.drives s.files (begins s)
    (λ f there m.
    (ends_opens Any any_walked s.format (record { file = f; effects = m; drives = s.drives; chosen = [] }) (idle f there)
    (λ n. tt) (λ n. tt)).1))

-- a step in its turn keeps it
pub fits_step : (down : Bool) (s : Server) (chosen : List ℕ) (i : Input) → in_turn down i ≡ true
    → (i ≡ Opens → counters_have_room s ≡ true) → FitsBy down s.files
    → FitsBy (down_behind down i) (step s chosen i).state.files
fits_step true s chosen Opens turn low h = fits_opened s (low refl) h
fits_step false s chosen Opens turn low h = absurd (true≢false (sym turn))
fits_step false s chosen Crashes turn low h = fits_crash s
fits_step true s chosen Crashes turn low h = absurd (true≢false (sym turn))
fits_step true s chosen i turn low h = absurd (true≢false (sym turn))
fits_step false s chosen i turn low h = fits_up s chosen i h (λ e. absurd (cc e)) (λ e. absurd (cc e))

-- ---- a run

pub fits_run : (down : Bool) (s : Server) (acts : List Act) → IsAt down s → FitsBy down s.files → AreInTurn down acts
    → counters_have_room (state_after s acts) ≡ true
    → FitsBy (down_after down acts) (state_after s acts).files × IsAt (down_after down acts) (state_after s acts)
fits_run down s [] at h turns low = (h, at)
fits_run down s (a ∷ acts) at h turns low =
    let room : counters_have_room s ≡ true = room_before down s (a ∷ acts) at low in
    fits_run (down_behind down a.input) (step s a.chosen a.input).state acts
    (goes_on down s a at turns.0 (λ e. room)) (fits_step down s a.chosen a.input turns.0 (λ e. room) h) turns.1 low
