-- In each step of the server a job stays at what it is at, or the step notes that this is over.
use Rattle.std.proofs.Common.{◌≡◌, ◌⊎◌, ℕ, List, [], ◌∷◌, Option, Some, None, refl, sym, ap, subst, ◌∙◌, inl, inr}
use Rattle.std.proofs.lemmas.Bool.{cases_eq}
use Rattle.server_rules.specs.Files.{Step, begins, file_at, put_file, add_file, at_file}
use Rattle.server_rules.specs.Going.{Going, noting}
use Rattle.server_rules.specs.History.{Input, Crashes, Opens, step}
use Rattle.server_rules.specs.Jobs.{making, declares, fence_begins}
use Rattle.server_rules.specs.Laws.{In, NoneBeside, AreSafe}
use Rattle.server_rules.specs.Making.{with_file}
use Rattle.server_rules.specs.Messages.{awaited_by}
use Rattle.server_rules.specs.Orders.{offline, declare, declares_each}
use Rattle.server_rules.specs.Replies.{hearing}
use Rattle.server_rules.specs.Requests.{serves, on_request}
use Rattle.server_rules.proofs.FileLaws.{number_at, not_there}
use Rattle.world_history.specs.ServerNames.{Server, Drive, File, Job, Effects, Note, NoteKind, ClientRequest}
use Rattle.world_history.specs.Told.{told_note}
use Rattle.history_law.specs.Steps.{Answering, IsAnswering, answered_file, new_file, StepCases}
use Rattle.history_law.proofs.Steps.{each_request, each_step}
use Rattle.history_law.proofs.Files.{in_at, safe_in}
use Rattle.history_law.proofs.JobFiles.{put_there}
use Rattle.history_law.proofs.Fences.{handled_fence}
use Rattle.history_law.proofs.Hearing.{found_in, goes_hears as number_hears}
use Rattle.history_law.proofs.Asking.{handled_served, handled_declares}
use Rattle.component_law.specs.Distinct.{AreDistinct}
use Rattle.cause_law.proofs.AwaitedRests.{others_there, added_there, none_has, serves_leaves}
use Rattle.cause_law.proofs.Changing.{at_place}
use Rattle.cause_law.proofs.TagSteps.{R}
use Rattle.history_claims.specs.Stages.{Stage, Ends, IsAt}
use Rattle.history_claims.proofs.StageJobs.{Goes, StaysAt, IsNoted, goes_hears, goes_declares, declares_notes}

-- the file is at that still, or it is noted that this is over, or the server stops
pub data WentOn (i : Input) (gs : List File) (ns : List Note) (f : File) (s : Stage) : Type 0 where
  OnAs : (g : File) → In g gs → g.kept.number ≡ f.kept.number → IsAt s g.job → WentOn i gs ns f s
  OnNoted : (kind : NoteKind) → Ends s (told_note kind) → In (record { file = f.kept.number; kind = kind }) ns
      → WentOn i gs ns f s
  OnStopped : (i ≡ Crashes) ⊎ (i ≡ Opens) → WentOn i gs ns f s

module _ (s : Server) (chosen : List ℕ) (i : Input) (safe : AreSafe s.files) (distinct : AreDistinct s.files) where
  abbrev P : Step → Type 0
  P t = (f : File) → In f s.files → (st : Stage) → IsAt st f.job → WentOn i t.state.files t.notes f st

  stay : (ns : List Note) (f : File) → In f s.files → (st : Stage) → IsAt st f.job → WentOn i s.files ns f st
  stay ns f there st at = OnAs f there refl at

  one : (f x : File) → In f s.files → In x s.files → f.kept.number ≡ x.kept.number → f ≡ x
  one f x i_ j same =
      by f x (sym (at_place s.files f distinct i_) ∙ ap (file_at s.files) same ∙ at_place s.files x distinct j)
    where
      by : (f x : File) → Some f ≡ Some x → f ≡ x
      by f x e = cc e

  put_so : (n : ℕ) (x : File) (h : Going) → In x s.files → x.kept.number ≡ n → h.file.kept.number ≡ x.kept.number
      → ((st : Stage) → IsAt st x.job → Goes x.kept.number st h) → (f : File) → In f s.files → (st : Stage) → IsAt st f.job
      → WentOn i (put_file s.files n h.file) h.effects.notes f st
  put_so n x h there is number goes f j st at = elim (cases_eq f.kept.number n) [
    | inr o ↦ OnAs f (others_there s.files n h.file f j o) refl at
    | inl e ↦
        let same : x ≡ f = one x f there j (is ∙ sym e) in
        subst (λ (y : File). WentOn i (put_file s.files n h.file) h.effects.notes y st) same
        (by st (goes st (subst (λ (y : File). IsAt st y.job) (sym same) at)))
  ]
    where
      by : (st : Stage) → Goes x.kept.number st h → WentOn i (put_file s.files n h.file) h.effects.notes x st
      by st (StaysAt at_) = OnAs h.file (put_there s.files n h.file x there is) number at_
      by st (IsNoted kind ends i_) = OnNoted kind ends i_

  -- ---- a request

  no_grants : (f : File) → In f s.files → (j : Job) → f.job ≡ Some j → f.kept.grants ≡ []
  no_grants f there j runs = by f.job runs (safe_in s.files safe f there).alone
    where
      by : (o : Option Job) → o ≡ Some j → NoneBeside o f.kept.grants → f.kept.grants ≡ []
      by None e n = absurd (cc e)
      by (Some x) e n = n

  serves_at : (f : File) → In f s.files → (now : ℕ) (q : ClientRequest) (st : Stage) → IsAt st f.job
      → Goes f.kept.number st (serves (at_file s chosen f) s.next_grant s.format now q.client q.args).going
  serves_at f there now q st at = by f.job refl at
    where
      by : (o : Option Job) → f.job ≡ o → IsAt st o
          → Goes f.kept.number st (serves (at_file s chosen f) s.next_grant s.format now q.client q.args).going
      by None runs at_ = absurd at_
      by (Some j) runs at_ =
          StaysAt (subst (IsAt st) (sym (serves_leaves (at_file s chosen f) s.next_grant s.format now q.client q.args j runs
          (no_grants f there j runs))) at)

  asked : (now : ℕ) (q : ClientRequest) → P (on_request s now chosen q)
  asked now q =
      each_request s now chosen q P (record {
        again = λ kept e. stay [];
        misordered = λ expected e. stay [];
        without = λ new none. stay [];
        served = λ new f found.
            put_so q.file f (serves (at_file s chosen f) s.next_grant s.format now q.client q.args).going
            (in_at s.files q.file f found) (number_at s.files q.file f found)
            (handled_served R (at_file s chosen f) s.next_grant s.format now q.client q.args).goes.number_is
            (serves_at f (in_at s.files q.file f found) now q);
      })

  -- ---- a reply

  answered : (x : Answering) (is : IsAnswering s i x) (st : Stage) → IsAt st x.file.job
      → Goes x.file.kept.number st (answered_file s chosen x)
  answered x is st at =
      subst (λ (y : Stage). Goes x.file.kept.number y (answered_file s chosen x))
      (subst (IsAt st) is.runs at)
      (goes_hears x.file.kept.number (at_file s chosen x.file) x.job x.awaited x.reply
      (hearing x.file.kept x.awaited x.reply) refl is.runs)

  -- ---- a declaration

  notes_stay : (x : Note) (d : ℕ) (ds : List Drive) (fs : List File) (m : Effects) (placed : List ℕ) → In x m.notes
      → In x (declares_each d ds fs m placed).effects.notes
  unfolding declares_each
  notes_stay x d ds [] m placed j = j
  notes_stay x d ds (f ∷ fs) m placed j =
      let g : Going = record { file = f; effects = m; drives = ds; chosen = placed } in
      notes_stay x d ds fs (declares g d).effects (declares g d).chosen (declares_notes x d g j)

  all_declared : (d : ℕ) (ds : List Drive) (fs : List File) (m : Effects) (placed : List ℕ) → (f : File) → In f fs
      → (st : Stage) → IsAt st f.job
      → WentOn i (declares_each d ds fs m placed).files (declares_each d ds fs m placed).effects.notes f st
  unfolding declares_each
  all_declared d ds [] m placed f j st at = absurd j
  all_declared d ds (x ∷ fs) m placed f (inl same) st at =
      let g : Going = record { file = x; effects = m; drives = ds; chosen = placed } in
      subst (λ (y : File). WentOn i (declares_each d ds (x ∷ fs) m placed).files
      (declares_each d ds (x ∷ fs) m placed).effects.notes y st) (sym same)
      (by st (goes_declares x.kept.number st d g refl (subst (λ (y : File). IsAt st y.job) same at)))
    where
      by : (st : Stage)
          → Goes x.kept.number st (declares (record { file = x; effects = m; drives = ds; chosen = placed }) d)
          → WentOn i (declares_each d ds (x ∷ fs) m placed).files
          (declares_each d ds (x ∷ fs) m placed).effects.notes x st
      by st (StaysAt at_) =
          OnAs (declares (record { file = x; effects = m; drives = ds; chosen = placed }) d).file (inl refl)
          (handled_declares R (record { file = x; effects = m; drives = ds; chosen = placed }) d).goes.number_is at_
      by st (IsNoted kind ends k) =
          OnNoted kind ends (notes_stay _ d ds fs
          (declares (record { file = x; effects = m; drives = ds; chosen = placed }) d).effects
          (declares (record { file = x; effects = m; drives = ds; chosen = placed }) d).chosen k)
  all_declared d ds (x ∷ fs) m placed f (inr j) st at =
      let g : Going = record { file = x; effects = m; drives = ds; chosen = placed } in
      by (all_declared d ds fs (declares g d).effects (declares g d).chosen f j st at)
    where
      by : WentOn i (declares_each d ds fs (declares (record { file = x; effects = m; drives = ds; chosen = placed }) d).effects
          (declares (record { file = x; effects = m; drives = ds; chosen = placed }) d).chosen).files
          (declares_each d ds fs (declares (record { file = x; effects = m; drives = ds; chosen = placed }) d).effects
          (declares (record { file = x; effects = m; drives = ds; chosen = placed }) d).chosen).effects.notes f st
          → WentOn i (declares_each d ds (x ∷ fs) m placed).files
          (declares_each d ds (x ∷ fs) m placed).effects.notes f st
      by (OnAs g k number at_) = OnAs g (inr k) number at_
      by (OnNoted kind ends k) = OnNoted kind ends k
      by (OnStopped e) = OnStopped e

  -- ---- any step

  cases : StepCases s chosen i P
  unfolding declare
  cases = record {
    rests = stay [];
    asked = λ now q is. asked now q;
    answered = λ x is.
        let number : (answered_file s chosen x).file.kept.number ≡ x.file.kept.number =
        (number_hears (at_file s chosen x.file) x.job x.awaited x.reply (hearing x.file.kept x.awaited x.reply)
        (found_in _ x.job.awaited x.awaited is.awaits).0
        (λ y j. subst (λ (o : Option Job). In y (awaited_by o)) (sym is.runs) j)).number_is in
        put_so (answered_file s chosen x).file.kept.number x.file (answered_file s chosen x) is.there (sym number) number
        (answered x is);
    recalled = λ f is. stay [];
    refused = λ f is n why.
        put_so f.kept.number f (noting (at_file s chosen f) n) (in_at s.files is.target f is.found) refl refl
        (λ st at. StaysAt at);
    fenced = λ f is kind free low.
        put_so f.kept.number f (fence_begins kind s.format (at_file s chosen f)) (in_at s.files is.target f is.found) refl
        (handled_fence R kind s.format (at_file s chosen f)).goes.number_is
        (λ st at. absurd (subst (IsAt st) free at));
    declared = λ d known. all_declared d (offline s.drives d) s.files (begins s) chosen;
    told = λ t now o is result p. p;
    made = λ n m tag zoned is none f j st at.
        let g : File = new_file s chosen n m tag zoned in
        OnAs f (others_there (add_file s.files g) n (making (at_file (with_file s g) [] g)).file f (added_there s.files g f j)
        (λ same. none_has s.files n f j same (not_there s n m zoned none))) refl at;
    added = λ d is. stay [];
    zoned = λ d zone is. stay [];
    formats = λ n is. stay [];
    resends = λ is. stay [];
    crashes = λ is f j st at. OnStopped (inl is);
    opened = λ is low f j st at. OnStopped (inr is);
  }

  pub stages_go : P (step s chosen i)
  stages_go = each_step s chosen i P cases
