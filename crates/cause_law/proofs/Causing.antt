-- A new request is answered, and its answer has its cause in what the server has of its file.
use Rattle.std.proofs.Common.{◌≡◌, ◌==◌, ℕ, true, List, [], ◌∷◌, ◌++◌, Some, refl, sym, ap, ◌∙◌, append_assoc}
use Rattle.layout_ops.specs.declared.results.Results.{Results}
use Rattle.layout_ops.specs.declared.statuses.TheConstants.{LAYOUTIOMODE4_RW}
use Rattle.server_rules.specs.Answers.{answer, result_with, recalls_from}
use Rattle.server_rules.specs.Files.{Step, file_at, at_file, to_drives}
use Rattle.server_rules.specs.Grants.{asked}
use Rattle.server_rules.specs.Laws.{ConflictsAreExact, FilesArePut, AreSafe, IsSafe}
use Rattle.server_rules.specs.Requests.{serves, answer_with, answer_without, carried_out, on_request}
use Rattle.server_rules.specs.Served.{Served}
use Rattle.server_rules.specs.Slots.{New, slot_of, admit}
use Rattle.server_rules.proofs.FileLaws.{safe_at}
use Rattle.history_law.proofs.Asking.{handled_served}
use Rattle.history_law.proofs.JobFiles.{found_file}
use Rattle.history_law.proofs.Steps.{each_request}
use Rattle.world_history.specs.ServerNames.{Server, File, Kept, Drive, Grant, Answer, ClientRequest, RequestArgs, Get, Commit, Return, Outgoing, Answers}
use Rattle.cause_law.specs.Gets as rows
use Rattle.cause_law.specs.Gets.{Row, detail_of, result_of}
use Rattle.cause_law.specs.Answers.{asking, IsCausedAt, IsCaused, NoFile, OnFile}
use Rattle.cause_law.proofs.Getting.{comes, first_alone, told_by}
use Rattle.cause_law.proofs.Returning.{commit_comes, return_comes}

-- the answer is the last that the step sends
pub record Answered (s : Server) (now : ℕ) (q : ClientRequest) (t : Step) : Type 0 where
  pub answer : Answer
  pub front : List Outgoing
  pub sends_are : t.sends ≡ front ++ (Answers answer ∷ [])
  pub client_is : answer.client ≡ q.client
  pub caused : IsCaused s t.state now q answer

-- a row's result is as the rules spell it
result_told : (ds : List Drive) (f : Kept) (g : Grant) (iomode offset count : ℕ) (r : Row)
    → result_with ds f (Get iomode offset count) (told_by g r).status (told_by g r).grant ≡ result_of ds f g r
result_told ds f g iomode offset count rows.BadMode = refl
result_told ds f g iomode offset count rows.BadRange = refl
result_told ds f g iomode offset count rows.LeftOpen = refl
result_told ds f g iomode offset count (rows.Waits k) = refl
result_told ds f g iomode offset count rows.TagSpent = refl
result_told ds f g iomode offset count (rows.Fences k) = refl
result_told ds f g iomode offset count rows.NoNumber = refl
result_told ds f g iomode offset count (rows.Lacks k) = refl
result_told ds f g iomode offset count (rows.Held c) = refl
result_told ds f g iomode offset count rows.Gives = refl

detail_told : (g : Grant) (r : Row) → (told_by g r).detail ≡ detail_of r
detail_told g rows.LeftOpen = refl
detail_told g (rows.Waits k) = refl
detail_told g rows.TagSpent = refl
detail_told g (rows.Fences k) = refl
detail_told g rows.NoNumber = refl
detail_told g (rows.Lacks k) = refl
detail_told g (rows.Held c) = refl
detail_told g r = refl

module _ (exact : ConflictsAreExact) (put : FilesArePut) (s : Server) (now : ℕ) (chosen : List ℕ) (q : ClientRequest) where
  -- what is asked of a file
  abbrev served : File → RequestArgs → Served
  served f args = serves (at_file s chosen f) s.next_grant s.format now q.client args

  got : (f : File) (iomode offset count : ℕ) → q.args ≡ Get iomode offset count → IsSafe f
      → IsSafe (served f (Get iomode offset count)).going.file
      → IsCausedAt s now q f (served f (Get iomode offset count)).going.file
      (answer_with s q (served f (Get iomode offset count))) (Get iomode offset count)
  got f iomode offset count is before behind =
      let v : Served = served f (Get iomode offset count) in
      let k : Kept = v.going.file.kept in
      let g : Grant = asked f.kept s.next_grant q.client now offset count (iomode == LAYOUTIOMODE4_RW) in
      let c = comes exact (at_file s chosen f) s.next_grant s.format now q.client iomode offset count before.rests behind.rests in
      record {
        row = c.row;
        first = c.first;
        live = c.live;
        size = c.size;
        alone = λ r x. first_alone (asking f v.going.file s.next_grant now q.client iomode offset count) c.row r c.first x;
        is = ap (λ (a : RequestArgs). answer q v.told.detail k.size (result_with s.drives k a v.told.status v.told.grant)) is
            ∙ ap (λ t. answer q t.detail k.size (result_with s.drives k (Get iomode offset count) t.status t.grant)) c.told
            ∙ ap
            (λ (d : ℕ). answer q d k.size
            (result_with s.drives k (Get iomode offset count) (told_by g c.row).status (told_by g c.row).grant))
            (detail_told g c.row)
            ∙ ap (λ (r : Results). answer q (detail_of c.row) k.size r) (result_told s.drives k g iomode offset count c.row);
      }

  caused_at : (f : File) (args : RequestArgs) → q.args ≡ args → IsSafe f → IsSafe (served f args).going.file
      → IsCausedAt s now q f (served f args).going.file (answer_with s q (served f args)) args
  caused_at f (Get iomode offset count) is before behind = got f iomode offset count is before behind
  caused_at f (Commit last) is before behind =
      let v : Served = served f (Commit last) in
      let k : Kept = v.going.file.kept in (
        v.told.detail,
        result_with s.drives k (Commit last) v.told.status v.told.grant,
        commit_comes s.drives (at_file s chosen f) q.client before.apart last,
        ap (λ (a : RequestArgs). answer q v.told.detail k.size (result_with s.drives k a v.told.status v.told.grant)) is,
      )
  caused_at f (Return report) is before behind =
      let v : Served = served f (Return report) in
      let k : Kept = v.going.file.kept in (
        v.told.detail,
        result_with s.drives k (Return report) v.told.status v.told.grant,
        return_comes s.drives (at_file s chosen f) q.client before.apart s.format report,
        ap (λ (a : RequestArgs). answer q v.told.detail k.size (result_with s.drives k a v.told.status v.told.grant)) is,
      )

  abbrev So : Step → Type 0
  So t = AreSafe t.state.files → Answered s now q t

  out : (f : File) → file_at s.files q.file ≡ Some f → AreSafe s.files → So (carried_out s q (served f q.args))
  out f found safe then =
      let v : Served = served f q.args in
      let number : v.going.file.kept.number ≡ q.file =
      (handled_served (λ d x tag. true) (at_file s chosen f) s.next_grant s.format now q.client q.args).goes.number_is
      ∙ (found_file s.files q.file f found).1 in
      let there = (put s.files q.file v.going.file f number found).0 in
      record {
        answer = answer_with s q v;
        front = to_drives s.drives v.going.effects.sent ++ recalls_from s.next_recall v.recalled;
        sends_are =
            sym
            (append_assoc (to_drives s.drives v.going.effects.sent) (recalls_from s.next_recall v.recalled)
            (Answers (answer_with s q v) ∷ []));
        client_is = refl;
        caused = OnFile f v.going.file found there
            (caused_at f q.args refl (safe_at s.files q.file f safe found)
            (safe_at (carried_out s q v).state.files q.file v.going.file then there));
      }

  pub request_answered : admit (slot_of s.slots q.client) q.sequence ≡ New → AreSafe s.files → So (on_request s now chosen q)
  request_answered new safe =
      each_request s now chosen q So (record {
        again = λ kept is. absurd (cc (sym new ∙ is));
        misordered = λ expected is. absurd (cc (sym new ∙ is));
        without = λ n none then. record {
          answer = answer_without q;
          front = [];
          sends_are = refl;
          client_is = refl;
          caused = NoFile none refl;
        };
        served = λ n f found. out f found safe;
      })
