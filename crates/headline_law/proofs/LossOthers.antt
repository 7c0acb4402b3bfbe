-- Where a report on another file is taken as a loss, the grant that it returns is live there, so this file has no write under it.
-- Towards `CutsShowEntries` (`specs/Parts.antt`).
use Rattle.std.proofs.Common.{◌≡◌, ◌||◌, ℕ, Bool, true, false, List, Option, Some, None, refl, sym, ap, ◌∙◌, eq-eqb, le-leb}
use Rattle.std.specs.List.{list_any}
use Rattle.std.proofs.lemmas.Bool.{true≢false}
use Rattle.layout_types.specs.declared.ioerrs.IoErr.{IoErr}
use Rattle.scenario_text.specs.declared.line.Line.{Line}
use Rattle.server_rules.specs.declared.limits.TheConstants.{MAX_CLIENT}
use Rattle.server_rules.specs.Commit.{commit_row}
use Rattle.server_rules.specs.Files.{Step, file_at, at_file}
use Rattle.server_rules.specs.Get.{early, gets}
use Rattle.server_rules.specs.Commit.{commits}
use Rattle.server_rules.specs.Going.{Going}
use Rattle.server_rules.specs.Grants.{grant_of}
use Rattle.server_rules.specs.History.{Input}
use Rattle.server_rules.specs.Requests.{serves, carries_out, by_admit, on_request}
use Rattle.server_rules.specs.Return.{Returned, NoGrant, Clean, Taken, TooMany, Fencing, return_row, by_grant, by_return, returns_on}
use Rattle.server_rules.specs.Served.{Served}
use Rattle.server_rules.specs.Slots.{Admit, New, Again, Misordered, admit, slot_of}
use Rattle.server_rules.proofs.FileLaws.{number_at, file_in}
use Rattle.world_history.specs.Calm.{is_taken_out}
use Rattle.world_history.specs.Sending.{Move, move}
use Rattle.world_history.specs.ServerNames.{Server, File, Kept, Drive, Grant, ClientRequest, RequestArgs, Get, Commit, Return}
use Rattle.world_history.specs.State.{World}
use Rattle.history_law.specs.Doing.{input_in}
use Rattle.component_law.proofs.Server.{grant_in}
use Rattle.fence_law.specs.State.{State}
use Rattle.file_simulation.specs.ServerEvents.{is_new, is_served}
use Rattle.file_simulation.specs.Showing.{Pairs}
use Rattle.headline_law.specs.Parts.{CutShown}
use Rattle.headline_law.proofs.CalmLosses.{asked_step, answer_alone, says_so, early_gets, commit_says}
use Rattle.headline_law.proofs.EntriesServerAgain.{OthersAreApart}
use Rattle.headline_law.proofs.EntriesServerLoss.{TakesLoss}
use Rattle.headline_law.proofs.EntriesServerOver.{is_here, returned_by}
use Rattle.headline_law.proofs.EntriesServerTold.{IsDelivered}
use Rattle.headline_law.proofs.LossOthersGranted.{IsAnswered, run_answered}

-- ---- the client has a grant there

-- the request is a report that the file's row takes as a loss, so the client has a grant on the file
pub record HasGrant (f : Kept) (client : ℕ) (args : RequestArgs) : Type 0 where
  pub grant : Grant
  pub has : grant_of f.grants client ≡ Some grant
  pub report : List IoErr
  pub args_are : args ≡ Return report
  pub components : List ℕ
  pub row : return_row f client report ≡ Taken components

granted : (f : Kept) (client : ℕ) (report : List IoErr) (ks : List ℕ) → return_row f client report ≡ Taken ks →
    (y : Grant) × (grant_of f.grants client ≡ Some y)
unfolding return_row
granted f client report ks e = by (grant_of f.grants client) refl e
  where
    by : (o : Option Grant) → grant_of f.grants client ≡ o → by_grant f report o ≡ Taken ks →
        (y : Grant) × (grant_of f.grants client ≡ Some y)
    by None is r = absurd (cc r)
    by (Some y) is r = (y, is)

row_grant : (f : Kept) (client : ℕ) (report : List IoErr) (ks : List ℕ) → return_row f client report ≡ Taken ks →
    HasGrant f client (Return report)
row_grant f client report ks e =
    let y = granted f client report ks e in
    record { grant = y.0; has = y.1; report = report; args_are = refl; components = ks; row = e }

module _ (ds : List Drive) (go : Going) where
  return_grant : (format client : ℕ) (report : List IoErr) (r : Returned) → return_row go.file.kept client report ≡ r →
      says_so ds (Return report) (by_return go format client r) ≡ true → HasGrant go.file.kept client (Return report)
  return_grant format client report NoGrant is e = absurd (true≢false (sym e))
  return_grant format client report Clean is e = absurd (true≢false (sym e))
  return_grant format client report (Taken ks) is e = row_grant go.file.kept client report ks is
  return_grant format client report TooMany is e = absurd (true≢false (sym e))
  return_grant format client report Fencing is e = absurd (true≢false (sym e))

  served_grant : (next format now client : ℕ) (args : RequestArgs) →
      says_so ds args (serves go next format now client args) ≡ true → HasGrant go.file.kept client args
  unfolding gets commits returns_on
  served_grant next format now client (Get iomode offset count) e =
      absurd (true≢false (sym e
      ∙ early_gets ds go next format now _ (early go.file iomode offset count) iomode offset count))
  served_grant next format now client (Commit last) e =
      absurd (true≢false (sym e ∙ commit_says ds go last (commit_row go.file.kept client last)))
  served_grant next format now client (Return report) e =
      return_grant format client report (return_row go.file.kept client report) refl e

-- a new report that is taken as a loss is on a file that there is, on which the client has a grant
pub record IsLive (s : Server) (q : ClientRequest) : Type 0 where
  pub file : File
  pub there : file_at s.files q.file ≡ Some file
  pub granted : HasGrant file.kept q.client q.args

requests_live : (s : Server) (now : ℕ) (chosen : List ℕ) (q : ClientRequest) →
    list_any is_taken_out (on_request s now chosen q).sends ≡ true →
    is_new (admit (slot_of s.slots q.client) q.sequence) ≡ true → IsLive s q
unfolding on_request
requests_live s now chosen q taken new = by (admit (slot_of s.slots q.client) q.sequence) taken new
  where
    none : (args : RequestArgs) → q.args ≡ args → list_any is_taken_out (carries_out s now chosen q None).sends ≡ false
    none (Get iomode offset count) is = rw is refl
    none (Commit last) is = rw is refl
    none (Return report) is = rw is refl

    carried : (o : Option File) → file_at s.files q.file ≡ o →
        list_any is_taken_out (carries_out s now chosen q o).sends ≡ true → IsLive s q
    carried None is e = absurd (true≢false (sym e ∙ none q.args refl))
    carried (Some f) is e =
        let v : Served = serves (at_file s chosen f) s.next_grant s.format now q.client q.args in
        record {
          file = f;
          there = is;
          granted =
              served_grant s.drives (at_file s chosen f) s.next_grant s.format now q.client q.args (answer_alone s q v e);
        }

    by : (a : Admit) → list_any is_taken_out (by_admit s now chosen q a).sends ≡ true → is_new a ≡ true → IsLive s q
    by New e is = carried (file_at s.files q.file) refl e
    by (Again kept) e is = absurd (cc is)
    by (Misordered expected) e is = absurd (cc is)

pub loss_live : (s : Server) (chosen : List ℕ) (i : Input) (loss : TakesLoss s chosen i) →
    is_new (admit (slot_of s.slots loss.request.client) loss.request.sequence) ≡ true → IsLive s loss.request
loss_live s chosen i loss new =
    requests_live s loss.now chosen loss.request
    (ap (λ (t : Step). list_any is_taken_out t.sends) (sym (asked_step s chosen i loss.now loss.request loss.asked))
    ∙ ap (list_any is_taken_out) loss.sends ∙ ap (λ (b : Bool). b || false) loss.taken) new

-- ---- it is another file

-- a new request that isn't carried out on the file names another one
pub elsewhere : (s : Server) (chosen : List ℕ) (i : Input) (g : File) (loss : TakesLoss s chosen i) →
    is_new (admit (slot_of s.slots loss.request.client) loss.request.sequence) ≡ true → is_here g loss ≡ false →
    loss.request.file ≡ g.kept.number → ⊥
elsewhere s chosen i g loss new away same =
    let q : ClientRequest = loss.request in
    let served : is_served s q.client q ≡ true =
    rw (eq-eqb q.client q.client refl, loss.asked.low, le-leb q.client MAX_CLIENT loss.asked.named, new) refl in
    true≢false (sym (rw (served, eq-eqb q.file g.kept.number same) refl) ∙ away)

-- Where the request is new, and the client has a grant on its file, it returns that one.
abbrev pub ReturnsAreLive : Type 0
ReturnsAreLive =
    (w : World) (h : List Line) (m : Move) (count : ℕ) (f g : File) (s : State) (pairs : Pairs) →
    CutShown w h m count f g s pairs → (i : Input) → input_in w m.action ≡ Some i → (loss : TakesLoss w.server m.chosen i) →
    (d : IsDelivered w m i) → is_new (admit (slot_of w.server.slots loss.request.client) loss.request.sequence) ≡ true →
    (x : File) → file_at w.server.files loss.request.file ≡ Some x → (y : Grant) →
    grant_of x.kept.grants loss.request.client ≡ Some y → (number : ℕ) → returned_by h d ≡ Some number → y.number ≡ number

pub others_are_apart : ReturnsAreLive → OthersAreApart
others_are_apart live w h m count f g s pairs k tied i is loss d new away number at_ j low write grant =
    let q : ClientRequest = loss.request in
    let l : IsLive w.server q = loss_live w.server m.chosen i loss new in
    let a : IsAnswered s (s.start j).grant = (run_answered s k.shown.follows.run).writes j low write in
    let same : g.kept.number ≡ f.kept.number =
    number_at (move w m).world.server.files f.kept.number g k.shown.follows.goes in
    let its : l.file.kept.number ≡ q.file = number_at w.server.files q.file l.file l.there in
    absurd (tied.apart a.answer a.grant a.stands a.gives l.file l.granted.grant
    (file_in w.server.files q.file l.file l.there)
    (λ here. elsewhere w.server m.chosen i g loss new away (sym its ∙ here ∙ sym same))
    (grant_in l.file.kept.grants q.client l.granted.grant l.granted.has).0
    (live w h m count f g s pairs k i is loss d new l.file l.there l.granted.grant l.granted.has number at_
    ∙ sym grant ∙ sym a.number_is))
