-- The server carries out a client's new request on a file that is there, or on another: what the machine then has of it.
use Rattle.std.proofs.Common.{◌≡◌, ◌+◌, ℕ, Bool, List, Option, Some, None, Result, Ok, Err, refl, sym, ap, subst, ◌∙◌, inl}
use Rattle.data_map.specs.declared.check.RawMap.{RawMap}
use Rattle.layout_types.specs.declared.err.LayoutErr.{LayoutErr}
use Rattle.layout_types.specs.declared.ioerrs.IoErrs.{IoErrs}
use Rattle.layout_types.specs.declared.update.LayoutUpdate.{LayoutUpdate}
use Rattle.server_rules.specs.Slots.{slot_of}
use Rattle.server_rules.specs.Laws.{last_of}
use Rattle.server_rules.specs.Envelopes.{commit_in, return_in}
use Rattle.world_history.specs.ServerNames.{Server, Slot, IoErr, RequestArgs, Commit as Commits, Return as Returns}
use Rattle.world_history.specs.ClientNames.{Client, Request}
use Rattle.world_history.specs.Handed.{pending_op}
use Rattle.exchange_law.specs.Messages.{last_before}
use Rattle.fence_law.specs.Words.{In}
use Rattle.fence_law.specs.Starts.{granted}
use Rattle.fence_law.specs.State.{State, Grant, RequestKind, Request as MachineRequest, Answer as MachineAnswer}
use Rattle.fence_law.specs.State.{Event as event}
use Rattle.fence_law.specs.State.{Event}
use Rattle.fence_law.specs.Machine.{after}
use Rattle.fence_law.proofs.Words.{updated_same}
use Rattle.file_simulation.specs.Requests.{Own, Other, class_of, Gives, IsOutstanding, RequestsAgree}
use Rattle.relation_law.specs.Requests.{AskingStays, SteadyStays, TellsAnswer}
use Rattle.relation_law.proofs.RequestsCarried.{agree_other, agree_own}

-- ---- what is read of a request

pub commit_read : (last : Option ℕ) (u : Result LayoutUpdate LayoutErr) (b : RequestArgs) → commit_in last u ≡ Some b
    → b ≡ Commits last
commit_read last (Ok u) b e = cc (sym e)
commit_read last (Err x) b e = absurd (cc e)

pub return_read : (u : Result IoErrs LayoutErr) (b : RequestArgs) → return_in u ≡ Some b
    → (report : List IoErr) × (b ≡ Returns report)
return_read (Ok u) b e = (u.olr_ioerr_report, cc (sym e))
return_read (Err x) b e = absurd (cc e)

-- ---- a request by what it is to the machine

module _ (file : ℕ) (m : RawMap) (s : State) (c : ℕ) (x : Client) (p : Option Slot) (r : Request) (server : Server)
    (out : x.outstanding ≡ Some r) (numbers : s.sequence c ≡ last_before x.next) (slot : s.slot c ≡ last_of p)
    (next : last_of p + 1 ≡ r.sequence) (w : IsOutstanding file m s p c x r) (new : Slot)
    (kept : slot_of server.slots c ≡ Some new) (last : new.last ≡ r.sequence) where
  abbrev Agrees : State → Type 0
  Agrees t = RequestsAgree file m t server c x

  -- one that the machine only counts, and events of no request behind that
  pub counted : (t : State) → class_of file x r ≡ Other → AskingStays (after s (event.ServesOther c)) t → Agrees t
  counted t is k =
      agree_other file m s t c x p r server out numbers slot next w new kept last
      (ap (λ (f : ℕ → ℕ). f c) k.slot ∙ updated_same s.slot c _) (ap (λ (f : ℕ → ℕ). f c) k.sequence) is
      (ap (λ (f : ℕ → Bool). f c) k.waiting) (ap (λ (f : ℕ → Bool). f c) k.away)

  -- one that it answers at state u, before and behind which stand events of no request
  module _ (u t : State) (e : Event) (kind : RequestKind) (grant : Option Grant)
      (is : class_of file x r ≡ Own kind) (before : SteadyStays s u) (behind : SteadyStays (after u e) t)
      (tells : TellsAnswer u c e grant) (size : t.size ≡ new.kept.size) (gives : Gives m new.kept (pending_op x) grant) where
    pub own_answered : Agrees t
    own_answered =
        let b = before.asking in
        let k = behind.asking in
        agree_own file m s t c x p r server out numbers slot next w new kept last
        (ap (λ (f : ℕ → ℕ). f c) k.slot ∙ tells.slot ∙ ap (λ (f : ℕ → ℕ). f c + 1) b.slot)
        (ap (λ (f : ℕ → ℕ). f c) (k.sequence ∙ tells.sequence ∙ b.sequence)) kind is
        (ap (λ (f : ℕ → Bool). f c) (k.waiting ∙ tells.waiting ∙ b.waiting))
        (ap (λ (f : ℕ → Bool). f c) (k.away ∙ tells.away ∙ b.away))
        (ap (λ (f : ℕ → RequestKind). f c) (k.asked ∙ tells.asked ∙ b.asked))
        (λ q i. subst (λ (l : List MachineRequest). In q l) (sym (k.requests ∙ tells.requests ∙ b.requests)) i) grant gives
        (subst (λ (l : List MachineAnswer). In (record {
          client = c;
          sequence = s.slot c + 1;
          grant = grant;
          size = new.kept.size;
        }) l) (sym k.answers)
        (subst (λ (n : ℕ). In (record { client = c; sequence = n; grant = grant; size = new.kept.size }) (after u e).answers)
        (ap (λ (f : ℕ → ℕ). f c + 1) b.slot)
        (subst (λ (n : ℕ). In (record { client = c; sequence = u.slot c + 1; grant = grant; size = n }) (after u e).answers)
        (sym tells.size ∙ sym behind.size ∙ size) tells.sent)))

-- ---- the events that answer

pub refuses_tells : (u : State) (c : ℕ) (kind : RequestKind) → TellsAnswer u c (event.Refuses c kind) None
refuses_tells u c kind = record {
  slot = updated_same u.slot c _;
  sequence = refl;
  waiting = refl;
  away = refl;
  asked = refl;
  requests = refl;
  size = refl;
  sent = inl refl;
}

pub frees_tells : (u : State) (c : ℕ) → TellsAnswer u c (event.Frees c) None
frees_tells u c = record {
  slot = updated_same u.slot c _;
  sequence = refl;
  waiting = refl;
  away = refl;
  asked = refl;
  requests = refl;
  size = refl;
  sent = inl refl;
}

pub grants_tells : (u : State) (c number : ℕ) (rw : Bool) (range : ℕ → Bool) (extending : Bool)
    → TellsAnswer u c (event.Grants c number rw range extending) (Some (granted u c number rw range extending))
grants_tells u c number rw range extending = record {
  slot = updated_same u.slot c _;
  sequence = refl;
  waiting = refl;
  away = refl;
  asked = refl;
  requests = refl;
  size = refl;
  sent = inl refl;
}
