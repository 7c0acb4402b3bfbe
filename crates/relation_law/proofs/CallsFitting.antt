-- What a client asked fits the answer that it takes: `AnswerFits` is so at each moment.
-- Towards `CallsGoOn` and `ReturnsAreHeld` (`specs/Steps.antt`, `specs/RequestsGoing.antt`).
use Rattle.std.proofs.Common.{◌≡◌, ◌⊎◌, ◌==◌, ℕ, Bool, true, false, List, [], Option, Some, None, refl, sym, ap, subst, ◌∙◌, inl, inr, if◌then◌else◌}
use Rattle.std.proofs.lemmas.Bool.{eqb-true}
use Rattle.layout_types.specs.declared.ioerrs.IoErr.{IoErr}
use Rattle.layout_ops.specs.declared.args.Args.{Args}
use Rattle.layout_ops.specs.declared.args.Args.TheVariants as args
use Rattle.layout_ops.specs.declared.messages.Answer.{Answer}
use Rattle.layout_ops.specs.declared.statuses.TheConstants.{NFS4_OK, NFS4ERR_BADLAYOUT}
use Rattle.server_rules.specs.Slots.{slot_of}
use Rattle.client_rules.specs.Calls.{file_of}
use Rattle.client_rules.specs.Grants.{held_of}
use Rattle.client_rules.specs.Results.{status_of}
use Rattle.world_history.specs.ServerNames.{Server, Slot}
use Rattle.world_history.specs.ClientNames.{Client, CallOp, Held, TimedOut, Request, Need, First, Get, Commit, Report, Close, Waits, Outcome, Refused, Silent}
use Rattle.exchange_law.specs.Calls.{CallFine, GoodAnswer}
use Rattle.exchange_law.specs.Meeting.{AgreesAt, KeptGood, IsMet}
use Rattle.fence_law.specs.State.{State}
use Rattle.file_simulation.specs.Calls.{IsIdle}
use Rattle.file_simulation.specs.Requests.{kept_by}
use Rattle.relation_law.specs.CallsFits.{IsReturn, IsGet, IsCommit, AskedFor, AnswerFits}
use Rattle.relation_law.specs.CallsTurns.{NeedHas, OutcomeIs}
use Rattle.relation_law.specs.Requests.{IsReturning}
use Rattle.relation_law.specs.RequestsClients.{IsGetting, IsCommitting, IsReturnOf, AsksBy, NeedsHeld, AsksFor}
use Rattle.relation_law.specs.Returns.{EndsBadly, CallReports}

-- ---- words

is_return : (es : List IoErr) (a : Args) → IsReturnOf es a → IsReturn a
is_return es a k = subst IsReturn (sym k.1) tt

is_get : (a : Args) → IsGetting a → IsGet a
is_get (args.LayoutGet z) k = tt
is_get (args.LayoutCommit z) k = absurd k
is_get (args.LayoutReturn z) k = absurd k

is_commit : (a : Args) → IsCommitting a → IsCommit a
is_commit (args.LayoutCommit z) k = tt
is_commit (args.LayoutGet z) k = absurd k
is_commit (args.LayoutReturn z) k = absurd k

asked_for : (n : Need) (a : Args) → AsksBy n a → AskedFor n a
asked_for First a k = subst IsReturn (sym k.1) tt
asked_for (Get tries) a k = is_get a k
asked_for (Commit timed) a k = is_commit a k
asked_for (Report timed) a k = subst IsReturn (sym k.1.1) tt
asked_for (Close u report) a k = subst IsReturn (sym k.1) tt

ends_so : (u : Outcome) → EndsBadly u → (s : State) (c : ℕ) (op : CallOp) → IsIdle s c → OutcomeIs s c op u
ends_so (Refused d v z) bad s c op i = i
ends_so (Silent k) bad s c op i = i
ends_so u bad s c op i = absurd bad

need_has : (n : Need) (o : Option Held) → NeedsHeld n o → NeedHas n o
need_has First o k = tt
need_has (Get tries) o k = tt
need_has (Commit timed) o k = k
need_has (Report timed) o k = k
need_has (Close u report) o k = k

-- ---- an answer

module _ (file : ℕ) (server : Server) (c : ℕ) (x : Client) (r : Request) (out : x.outstanding ≡ Some r) (a : Answer)
    (kept : kept_by (slot_of server.slots c) r ≡ Some a) (asks : AsksFor x) (met : IsMet server c x)
    (N : CallOp → List IoErr → Type 0) (reports : CallReports N x.held x.call) where
  waits : (op : CallOp) (n : Need) → x.call ≡ Some (record { op = op; phase = Waits n })
      → (r.file ≡ file_of op) × AskedFor n r.args
  waits op n is =
      let w = asks.waits op n is in
      let same : w.request ≡ r = cc (sym w.outstanding ∙ out) in (
        ap (λ (z : Request). z.file) (sym same) ∙ w.file_is,
        subst (λ (z : Request). AskedFor n z.args) same (asked_for n w.request.args w.asks),
      )

  -- the answer that the server keeps for the request
  good : (P : Answer → Type 0) → ((t : Slot) → slot_of server.slots c ≡ Some t → t.last ≡ r.sequence → P t.kept) → P a
  good P each = by (slot_of server.slots c) refl kept
    where
      by : (o : Option Slot) → slot_of server.slots c ≡ o → kept_by o r ≡ Some a → P a
      by None there e = absurd (cc e)
      by (Some t) there e = at (t.last == r.sequence) refl e
        where
          at : (b : Bool) → (t.last == r.sequence) ≡ b → (if b then Some t.kept else None) ≡ Some a → P a
          at true test found = subst P (cc found) (each t there (eqb-true t.last r.sequence test))
          at false test found = absurd (cc found)

  commits : (op : CallOp) (timed : List TimedOut) → x.call ≡ Some (record { op = op; phase = Waits (Commit timed) })
      → (status_of a.results ≡ NFS4_OK) ⊎ (status_of a.results ≡ NFS4ERR_BADLAYOUT)
  commits op timed is =
      let fine : CallFine (KeptGood server c) x.held x.outstanding (Some (record { op = op; phase = Waits (Commit timed) })) =
      subst (CallFine (KeptGood server c) x.held x.outstanding) is met.call in
      let it = fine.1.asks in
      let same : it.request ≡ r = cc (sym it.outstanding ∙ out) in
      good (λ (b : Answer). (status_of b.results ≡ NFS4_OK) ⊎ (status_of b.results ≡ NFS4ERR_BADLAYOUT)) (λ t there last.
      told t.kept (it.known t there (last ∙ ap (λ (z : Request). z.sequence) (sym same))))
    where
      told : (b : Answer) → GoodAnswer (AgreesAt server c) op (Commit timed) b
          → (status_of b.results ≡ NFS4_OK) ⊎ (status_of b.results ≡ NFS4ERR_BADLAYOUT)
      told b (inl well) = inl well
      told b (inr bad) = inr bad.0

  gone : (op : CallOp) (timed : List TimedOut) → x.call ≡ Some (record { op = op; phase = Waits (Report timed) })
      → (file_of op == file) ≡ true → held_of x.held file ≡ None
  gone op timed is here =
      let w = asks.waits op (Report timed) is in
      let same : w.request ≡ r = cc (sym w.outstanding ∙ out) in
      let back : IsReturning r.args =
      subst (λ (z : Request). IsReturning z.args) same (subst IsReturning (sym w.asks.1.1) tt) in
      let there : r.file ≡ file = (waits op (Report timed) is).0 ∙ eqb-true (file_of op) file here in
      ap (held_of x.held) (sym there) ∙ asks.gone r out back

  -- it fits
  pub answer_fits : AnswerFits file x a r
  answer_fits = record {
    waits = waits;
    due = λ none. is_return [] r.args (asks.due none r out);
    commits = commits;
    reports = gone;
    closes = λ op u report is s d idle.
        ends_so u (subst (CallReports N x.held) is reports).reports.0 s d op idle;
    needs = λ op n is here.
        subst (λ (i : ℕ). NeedHas n (held_of x.held i)) (eqb-true (file_of op) file here)
        (need_has n (held_of x.held (file_of op)) (asks.needs op n is));
  }
