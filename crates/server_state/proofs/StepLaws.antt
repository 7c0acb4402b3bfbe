-- The step of a request, put together.
use Rattle.std.specs.Prelude.{ℕ, List, [], ◌∷◌, ◌++◌, ◌+◌, ◌≡◌, ◌≤◌, Option, Some, None, Result, Ok, Err, IfOk, OnOk, length}
use Rattle.std.specs.Option.{option_map}
use Rattle.std.specs.Ordering.{nat_cmp}
use Rattle.std.specs.BTreeMap.{BTreeMap, is_at}
use Rattle.std.specs.Map.{set_value}
use Rattle.std.proofs.Common.{ap, sym, subst, ◌∙◌}
use Rattle.osd_lists.specs.declared.memory.Memory.{Memory}
use Rattle.server_rules.specs.declared.limits.TheConstants.{GREATEST_GRANT}
use Rattle.server_rules.specs.declared.server.Server.{Server}
use Rattle.server_rules.specs.declared.files.File.{File}
use Rattle.server_rules.specs.declared.server.Effects.{Effects}
use Rattle.layout_ops.specs.declared.messages.Answer.{Answer}
use Rattle.server_rules.specs.declared.requests.ClientRequest.{ClientRequest}
use Rattle.server_rules.specs.declared.server.Outgoing.TheVariants.{Answers}
use Rattle.server_rules.specs.Answers.{recalls_from}
use Rattle.server_rules.specs.Slots.{keep}
use Rattle.server_rules.specs.Going.{Going}
use Rattle.server_rules.specs.Files.{file_at, put_file, begins, at_file, to_drives, step_at}
use Rattle.server_rules.specs.Served.{Served as RulesServed}
use Rattle.server_rules.specs.Requests.{serves, carries_out, carried_out}
use Rattle.server_requests.specs.Sending.{all_sent}
use Rattle.file_jobs.specs.declared.job.FileState.{FileState}
use Rattle.file_jobs.specs.Steps.{at, file_of}
use Rattle.server_state.specs.declared.outcome.Asking.{Asking}
use Rattle.server_state.specs.FileRequests.{served_by, serves_for}
use Rattle.server_state.specs.declared.at_file.Served.{Served}
use Rattle.server_state.specs.declared.state.State.{State}
use Rattle.server_state.specs.declared.step.Step.{Step}
use Rattle.server_state.specs.Index.{Keys}
use Rattle.server_rules.specs.declared.server.Drive.{Drive}
use Rattle.server_state.specs.Drives.{AreDrives}
use Rattle.server_state.specs.Replies.{AreListedBut, OthersStay}
use Rattle.server_state.specs.Counts.{Counts}
use Rattle.server_state.specs.Standing.{AreCounted}
use Rattle.server_state.specs.Tables.{Table, files_in, entry_at, without, AreEntries}
use Rattle.server_state.specs.AtFile.{ServedAt}
use Rattle.server_state.specs.States.{server_of, Did, Finishes, Settles, IsGoodBut, carried_in}
use Rattle.server_state.proofs.ReplyLaws.{still_listed}
use Rattle.server_state.proofs.CountLaws.{still_counted}
use Rattle.server_state.proofs.TableLaws.{file_at-files, put_file-files, no_file_there}

-- the server with these files and this answer, once the request's step is over
abbrev after_all : State → List File → Effects → Served → Answer → Server
after_all old fs m v a = record {
  files = fs;
  slots = keep old.slots (record { client = a.client; last = a.sequence; kept = a });
  drives = old.drives;
  next_grant = old.next_grant + v.outcome.numbers;
  next_object = m.object;
  next_nonce = m.nonce;
  next_recall = old.next_recall + length v.outcome.recalled;
  format = old.format;
}

-- what follows of the value, if there is one
pub mapped_ok : {A : Type 0} {P Q : A → Type 0} (r : Result A Memory) → ((a : A) → P a → Q a) → IfOk r P → IfOk r Q
mapped_ok (Ok a) f p = f a p
mapped_ok (Err e) f p = tt

pub on_ok : {A Q : Type 0} {P : A → Type 0} (r : Result A Memory) → ((a : A) → P a → Q) → IfOk r P → OnOk r Q
on_ok (Ok a) f p = f a p
on_ok (Err e) f p = tt

-- ---- a new request

-- what comes of it, once it was carried out at its file
pub done_at : (old : State) (files : BTreeMap ℕ FileState) (new : State) (m : Effects) (q : Asking) (r : ClientRequest) (now : ℕ)
    (chosen : List ℕ) (v : Served) (f g : FileState) (out : Step) →
    q ≡ record { client = r.client; time = now; next_grant = old.next_grant; format = old.format } →
    AreEntries old.files.entries →
    files.entries ≡ set_value (is_at (nat_cmp r.file)) old.files.entries g → entry_at old.files.entries r.file ≡ Some f →
    ServedAt q r old.drives f (begins (server_of old)) v g m → Finishes (record old { files = files }) m v new out →
    Did out (server_of new) (carried_in (server_of old) now chosen r)
done_at old files new m q r now chosen v f g out e good put_in found served fin =
    let s : Server = server_of old in
    let there : file_at (files_in old.files.entries) r.file ≡ Some (file_of f) =
    file_at-files old.files.entries r.file good ∙ ap (option_map file_of) found in
    let put : files_in files.entries ≡ put_file (files_in old.files.entries) r.file (file_of g) =
    ap files_in put_in ∙ sym (put_file-files old.files.entries r.file g good) in
    let rule : served_by v.outcome (at g m old.drives chosen) ≡ serves
    (at_file s chosen (file_of f)) old.next_grant old.format now r.client r.args =
    served.rule old.drives chosen ∙ ap (λ (z : Asking). serves_for z r.args (at f (begins s) old.drives chosen)) e in
    subst (λ (x : Option File). Did out (server_of new) (carries_out s now chosen r x)) (sym there)
    (subst (λ (w : RulesServed). Did out (server_of new) (carried_out s r w)) rule (record {
      state = ap server_of fin.state ∙ ap (λ (fs : List File). after_all old fs m v v.answer) put
          ∙ ap (λ (a : Answer). after_all old (put_file (files_in old.files.entries) r.file (file_of g)) m v a) served.answer;
      sends = fin.sends
          ∙ ap (λ (a : Answer). all_sent
          (to_drives old.drives m.sent ++ (recalls_from old.next_recall v.outcome.recalled ++ (Answers a ∷ [])))) served.answer;
      notes = fin.notes;
      mended = fin.mended;
    }))

-- ---- a step at one file that sends to drives alone

-- the server with these files, once such a step is over
abbrev pub after_settling : State → List File → Effects → Server
after_settling old fs m = record (server_of old) { files = fs; next_nonce = m.nonce; next_object = m.object }

-- what comes of it, once it was done at its file
pub settled_at : (old : State) (files : BTreeMap ℕ FileState) (new : State) (m : Effects) (n : ℕ) (g : FileState)
    (chosen : List ℕ) (go : Going) (out : Step) →
    AreEntries old.files.entries → files.entries ≡ set_value (is_at (nat_cmp n)) old.files.entries g →
    at g m old.drives chosen ≡ go →
    Settles (record old { files = files }) m new out → Did out (server_of new) (step_at (server_of old) n go)
settled_at old files new m n g chosen go out good put_in e fin =
    let put : files_in files.entries ≡ put_file (files_in old.files.entries) n (file_of g) =
    ap files_in put_in ∙ sym (put_file-files old.files.entries n g good) in
    subst (λ (z : Going). Did out (server_of new) (step_at (server_of old) n z)) e (record {
      state = ap server_of fin.state ∙ ap (λ (fs : List File). after_settling old fs m) put;
      sends = fin.sends;
      notes = fin.notes;
      mended = fin.mended;
    })

-- behind its file all is ready again
pub good_settled : (n : ℕ) (old : State) (files : BTreeMap ℕ FileState) (new : State) (m : Effects) (out : Step) →
    IsGoodBut n old → AreEntries files.entries → OthersStay n old.files.entries files.entries →
    Settles (record old { files = files }) m new out → IsGoodBut n new
good_settled n old files new m out good entries others fin =
    subst (λ (z : State). IsGoodBut n z) (sym fin.state) (record {
      files = entries;
      grants = good.grants;
      drives = good.drives;
      replies = still_listed n old.replies old.files.entries files.entries others good.replies;
      counts = still_counted n old.counts old.files.entries files.entries others good.counts;
    })

pub good_finished : (n : ℕ) (old : State) (files : BTreeMap ℕ FileState) (new : State) (m : Effects) (v : Served) (out : Step) →
    IsGoodBut n old → AreEntries files.entries → OthersStay n old.files.entries files.entries →
    old.next_grant + v.outcome.numbers ≤ GREATEST_GRANT + 1 →
    Finishes (record old { files = files }) m v new out → IsGoodBut n new
good_finished n old files new m v out good entries others numbers fin =
    subst (λ (z : State). IsGoodBut n z) (sym fin.state) (record {
      files = entries;
      grants = numbers;
      drives = good.drives;
      replies = still_listed n old.replies old.files.entries files.entries others good.replies;
      counts = still_counted n old.counts old.files.entries files.entries others good.counts;
    })

-- nothing of it changed
pub good_still : (n : ℕ) (old : State) (files : BTreeMap ℕ FileState) (new : State) → IsGoodBut n old →
    files.entries ≡ old.files.entries →
    new.files ≡ files → new.next_grant ≡ old.next_grant → new.drives ≡ old.drives → new.replies ≡ old.replies →
    new.counts ≡ old.counts → IsGoodBut n new
good_still n old files new good same f g d r h =
    let t : new.files.entries ≡ old.files.entries = ap (λ (z : BTreeMap ℕ FileState). z.entries) f ∙ same in
    record {
      files = subst (λ (z : Table). AreEntries z) (sym t) good.files;
      grants = subst (λ (k : ℕ). k ≤ GREATEST_GRANT + 1) (sym g) good.grants;
      drives = subst (λ (z : List Drive). AreDrives z) (sym d) good.drives;
      replies = subst (λ (z : Table). AreListedBut n new.replies z) (sym t)
          (subst (λ (z : Keys). AreListedBut n z old.files.entries) (sym r) good.replies);
      counts = subst (λ (z : Table). AreCounted new.counts (without n z)) (sym t)
          (subst (λ (z : Counts). AreCounted z (without n old.files.entries)) (sym h) good.counts);
    }

-- what comes of a request on a file that there isn't
pub refused_at : (old : State) (files : BTreeMap ℕ FileState) (new : State) (r : ClientRequest) (now : ℕ) (chosen : List ℕ)
    (out : Step) →
    AreEntries old.files.entries → entry_at old.files.entries r.file ≡ None → files.entries ≡ old.files.entries →
    Did out (server_of new) (carries_out (server_of (record old { files = files })) now chosen r None) →
    Did out (server_of new) (carried_in (server_of old) now chosen r)
refused_at old files new r now chosen out good none same did =
    subst (λ (x : Option File). Did out (server_of new) (carries_out (server_of old) now chosen r x))
    (sym (no_file_there old.files.entries r.file good none))
    (subst (λ (t : Table). Did out (server_of new)
    (carries_out (record (server_of old) { files = files_in t }) now chosen r None)) same did)
