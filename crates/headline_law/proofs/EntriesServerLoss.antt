-- A step of the server that takes a report as a loss is on a client's request, and sends its answer alone.
-- Towards `CutsShowEntries` (`specs/Parts.antt`).
use Rattle.std.proofs.Common.{◌≡◌, ◌+◌, ℕ, Bool, true, false, List, [], ◌∷◌, Option, Some, None, refl, sym, ap, ◌∙◌, inl, inr}
use Rattle.std.specs.List.{list_any}
use Rattle.std.proofs.lemmas.Bool.{true≢false, or_cases}
use Rattle.layout_types.specs.declared.ioerrs.IoErr.{IoErr}
use Rattle.layout_ops.specs.declared.messages.Answer.{Answer}
use Rattle.client_rules.specs.Answers.{is_loss_taken}
use Rattle.layout_ops.specs.declared.statuses.TheConstants.{NFS4ERR_SEQ_MISORDERED}
use Rattle.server_rules.specs.Answers.{recalls_from, plain_answer}
use Rattle.server_rules.specs.Commit.{commit_row, commits}
use Rattle.server_rules.specs.Files.{Step, file_at, at_file}
use Rattle.server_rules.specs.Get.{early, gets}
use Rattle.server_rules.specs.Going.{Going, noting_if}
use Rattle.server_rules.specs.History.{Input, step}
use Rattle.server_rules.specs.Numbers.{among}
use Rattle.server_rules.specs.Requests.{serves, answer_with, carries_out, by_admit, on_request, answer_without, size_in}
use Rattle.server_rules.specs.Return.{Returned, NoGrant, Clean, Taken, TooMany, Fencing, return_row, by_return, returns_on, reports_from, takes_loss as takes}
use Rattle.server_rules.specs.Served.{Served, tells}
use Rattle.server_rules.specs.Slots.{Admit, New, Again, Misordered, admit, slot_of}
use Rattle.world_history.specs.ServerNames.{Server, File, Component, Drive, Answers, ClientRequest, RequestArgs, Get, Commit, Return, Reported}
use Rattle.world_history.specs.Calm.{is_taken_out, takes_loss}
use Rattle.file_simulation.specs.ServerEvents.{is_new}
use Rattle.history_law.specs.Steps.{IsAsked}
use Rattle.history_law.proofs.Steps.{each_step}
use Rattle.headline_law.proofs.CalmLosses.{WasAsked, Goal, cases, asked_step, answer_alone, says_so, early_gets, commit_says}

-- what such a step is on, and what it sends
pub record TakesLoss (s : Server) (chosen : List ℕ) (i : Input) : Type 0 where
  pub now : ℕ
  pub request : ClientRequest
  pub asked : IsAsked s i now request
  pub answer : Answer
  pub taken : is_loss_taken answer ≡ true
  pub sends : (step s chosen i).sends ≡ Answers answer ∷ []
  -- if the request is new, and its file is there, it is a return
  pub returns : is_new (admit (slot_of s.slots request.client) request.sequence) ≡ true → (x : File) →
      file_at s.files request.file ≡ Some x → (report : List IoErr) × (request.args ≡ Return report)

-- ---- a request's rows

-- it sends nothing beside the answer
abbrev IsAlone : Served → Going → Type 0
IsAlone v go = (v.going.effects.sent ≡ go.effects.sent) × (v.recalled ≡ [])

reported_sends : (go : Going) (ks : List ℕ) (cs : List Component) (k : ℕ) →
    (reports_from go ks cs k).effects.sent ≡ go.effects.sent
unfolding reports_from
reported_sends go ks [] k = refl
reported_sends go ks (at ∷ cs) k =
    reported_sends (noting_if (among k ks) go (Reported k)) ks cs (k + 1) ∙ one (among k ks)
  where
    one : (b : Bool) → (noting_if b go (Reported k)).effects.sent ≡ go.effects.sent
    one true = refl
    one false = refl

loss_sends : (go : Going) (ks : List ℕ) → (takes go ks).effects.sent ≡ go.effects.sent
unfolding takes
loss_sends go ks = reported_sends _ ks go.file.kept.components 0

module _ (ds : List Drive) (go : Going) where
  return_alone : (format client : ℕ) (report : List IoErr) (r : Returned) →
      says_so ds (Return report) (by_return go format client r) ≡ true → IsAlone (by_return go format client r) go
  return_alone format client report NoGrant e = absurd (true≢false (sym e))
  return_alone format client report Clean e = absurd (true≢false (sym e))
  return_alone format client report (Taken ks) e = (loss_sends go ks, refl)
  return_alone format client report TooMany e = absurd (true≢false (sym e))
  return_alone format client report Fencing e = absurd (true≢false (sym e))

  served_alone : (next format now client : ℕ) (args : RequestArgs) →
      says_so ds args (serves go next format now client args) ≡ true → IsAlone (serves go next format now client args) go
  unfolding gets commits returns_on
  served_alone next format now client (Get iomode offset count) e =
      absurd (true≢false (sym e
      ∙ early_gets ds go next format now _ (early go.file iomode offset count) iomode offset count))
  served_alone next format now client (Commit last) e =
      absurd (true≢false (sym e ∙ commit_says ds go last (commit_row go.file.kept client last)))
  served_alone next format now client (Return report) e =
      return_alone format client report (return_row go.file.kept client report) e

  served_returns : (next format now client : ℕ) (args : RequestArgs) →
      says_so ds args (serves go next format now client args) ≡ true → (report : List IoErr) × (args ≡ Return report)
  unfolding gets commits
  served_returns next format now client (Get iomode offset count) e =
      absurd (true≢false (sym e
      ∙ early_gets ds go next format now _ (early go.file iomode offset count) iomode offset count))
  served_returns next format now client (Commit last) e =
      absurd (true≢false (sym e ∙ commit_says ds go last (commit_row go.file.kept client last)))
  served_returns next format now client (Return report) e = (report, refl)

-- ---- a request

requests_return : (s : Server) (now : ℕ) (chosen : List ℕ) (q : ClientRequest) →
    list_any is_taken_out (on_request s now chosen q).sends ≡ true →
    is_new (admit (slot_of s.slots q.client) q.sequence) ≡ true → (x : File) → file_at s.files q.file ≡ Some x →
    (report : List IoErr) × (q.args ≡ Return report)
unfolding on_request
requests_return s now chosen q taken new x there = by (admit (slot_of s.slots q.client) q.sequence) taken new
  where
    carried : (o : Option File) → o ≡ Some x → list_any is_taken_out (carries_out s now chosen q o).sends ≡ true →
        (report : List IoErr) × (q.args ≡ Return report)
    carried None is e = absurd (cc is)
    carried (Some f) is e =
        let v : Served = serves (at_file s chosen f) s.next_grant s.format now q.client q.args in
        served_returns s.drives (at_file s chosen f) s.next_grant s.format now q.client q.args (answer_alone s q v e)

    by : (a : Admit) → list_any is_taken_out (by_admit s now chosen q a).sends ≡ true → is_new a ≡ true →
        (report : List IoErr) × (q.args ≡ Return report)
    by New e is = carried (file_at s.files q.file) there e
    by (Again kept) e is = absurd (cc is)
    by (Misordered expected) e is = absurd (cc is)

one_taken : (a : Answer) → list_any is_taken_out (Answers a ∷ []) ≡ true → is_loss_taken a ≡ true
one_taken a e = elim (or_cases (is_loss_taken a) false e) [
  | inl yes_ ↦ yes_
  | inr no_ ↦ absurd (true≢false (sym no_))
]

abbrev Alone : Step → Type 0
Alone t = list_any is_taken_out t.sends ≡ true → (a : Answer) × (is_loss_taken a ≡ true) × (t.sends ≡ Answers a ∷ [])

requests_alone : (s : Server) (now : ℕ) (chosen : List ℕ) (q : ClientRequest) → Alone (on_request s now chosen q)
unfolding on_request recalls_from
requests_alone s now chosen q = by (admit (slot_of s.slots q.client) q.sequence)
  where
    carried : (o : Option File) → Alone (carries_out s now chosen q o)
    carried None e = (answer_without q, one_taken (answer_without q) e, refl)
    carried (Some f) e =
        let v : Served = serves (at_file s chosen f) s.next_grant s.format now q.client q.args in
        let taken : is_loss_taken (answer_with s q v) ≡ true = answer_alone s q v e in
        let alone : IsAlone v (at_file s chosen f) =
        served_alone s.drives (at_file s chosen f) s.next_grant s.format now q.client q.args taken in (
          answer_with s q v,
          taken,
          rw (alone.0, alone.1) refl,
        )

    by : (a : Admit) → Alone (by_admit s now chosen q a)
    by New e = carried (file_at s.files q.file) e
    by (Again kept) e = (kept, one_taken kept e, refl)
    by (Misordered expected) e =
        let a : Answer = plain_answer q (tells NFS4ERR_SEQ_MISORDERED expected) (size_in (file_at s.files q.file)) in
        (a, one_taken a e, refl)

pub loss_taken : (s : Server) (chosen : List ℕ) (i : Input) → takes_loss (Some (step s chosen i)) ≡ true →
    TakesLoss s chosen i
loss_taken s chosen i e =
    let was : WasAsked s chosen i = each_step s chosen i (Goal s chosen i) (cases s chosen i) e in
    let alone = requests_alone s was.now chosen was.request was.taken in
    record {
      now = was.now;
      request = was.request;
      asked = was.asked;
      answer = alone.0;
      taken = alone.1;
      sends = ap (λ (t : Step). t.sends) (asked_step s chosen i was.now was.request was.asked) ∙ alone.2;
      returns = requests_return s was.now chosen was.request was.taken;
    }
