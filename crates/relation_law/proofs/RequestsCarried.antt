-- The server has carried out a client's outstanding request: what the machine then has of it.
use Rattle.std.proofs.Common.{◌≡◌, ◌+◌, ℕ, Bool, Option, Some, None, sym, ap, subst, ◌∙◌, if◌then◌else◌}
use Rattle.std.proofs.lemmas.Bool.{eq-eqb}
use Rattle.data_map.specs.declared.check.RawMap.{RawMap}
use Rattle.layout_ops.specs.declared.messages.Answer.{Answer}
use Rattle.server_rules.specs.Slots.{slot_of}
use Rattle.server_rules.specs.Laws.{last_of}
use Rattle.world_history.specs.ServerNames.{Server, Slot}
use Rattle.world_history.specs.ClientNames.{Client, Request}
use Rattle.world_history.specs.Handed.{pending_op}
use Rattle.exchange_law.specs.Messages.{last_before}
use Rattle.fence_law.specs.Words.{In}
use Rattle.fence_law.specs.State.{State, Grant, RequestKind, Request as MachineRequest}
use Rattle.file_simulation.specs.Requests.{Own, Other, class_of, kept_by, Gives, ClassIs, IsOutstanding, RequestIs, RequestsAgree}

module _ (file : ℕ) (m : RawMap) (s t : State) (c : ℕ) (x : Client) (p : Option Slot) (r : Request) (server : Server)
    (out : x.outstanding ≡ Some r) (numbers : s.sequence c ≡ last_before x.next) (slot : s.slot c ≡ last_of p)
    (next : last_of p + 1 ≡ r.sequence) (w : IsOutstanding file m s p c x r) (new : Slot)
    (kept : slot_of server.slots c ≡ Some new) (last : new.last ≡ r.sequence)
    (took : t.slot c ≡ s.slot c + 1) (same : t.sequence c ≡ s.sequence c) where
  now_kept : kept_by (Some new) r ≡ Some new.kept
  now_kept = ap (λ (b : Bool). if b then Some new.kept else None) (eq-eqb new.last r.sequence last)

  agree : ClassIs m t c x (Some new.kept) (class_of file x r) → RequestsAgree file m t server c x
  agree is = record {
    slot = took ∙ ap (λ (n : ℕ). n + 1) slot ∙ next ∙ sym last ∙ sym (ap last_of kept);
    sequence = same ∙ numbers;
    request = subst (λ (z : Option Slot). RequestIs file m t z c x x.outstanding) (sym kept)
        (subst (RequestIs file m t (Some new) c x) (sym out) (record {
          sequence = w.sequence ∙ sym same;
          waits = subst (λ (z : Option Answer). ClassIs m t c x z (class_of file x r)) (sym now_kept) is;
        }));
  }

  -- one that the machine only counts
  pub agree_other : class_of file x r ≡ Other → t.waiting c ≡ s.waiting c → t.away c ≡ s.away c
      → RequestsAgree file m t server c x
  agree_other is waits out_ =
      let away : ClassIs m s c x (kept_by p r) Other = subst (ClassIs m s c x (kept_by p r)) is w.waits in
      agree (subst (ClassIs m t c x (Some new.kept)) (sym is)
      (record { waiting = waits ∙ away.waiting; away = out_ ∙ away.away }))

  -- one that it has answered
  pub agree_own : (kind : RequestKind) → class_of file x r ≡ Own kind → t.waiting c ≡ s.waiting c → t.away c ≡ s.away c
      → t.asked c ≡ s.asked c → ((q : MachineRequest) → In q s.requests → In q t.requests) → (grant : Option Grant)
      → Gives m new.kept (pending_op x) grant
      → In (record { client = c; sequence = s.slot c + 1; grant = grant; size = new.kept.size }) t.answers
      → RequestsAgree file m t server c x
  agree_own kind is waits out_ asks requests grant gives sent =
      let own : ClassIs m s c x (kept_by p r) (Own kind) = subst (ClassIs m s c x (kept_by p r)) is w.waits in
      agree (subst (ClassIs m t c x (Some new.kept)) (sym is)
      (record {
        waiting = waits ∙ own.waiting;
        away = out_ ∙ own.away;
        asked = asks ∙ own.asked;
        request = subst (λ (n : ℕ). In (record { client = c; sequence = n; kind = kind }) t.requests) (sym same)
            (requests _ own.request);
        answer = record {
          grant = grant;
          gives = gives;
          sent = subst (λ (n : ℕ). In (record { client = c; sequence = n; grant = grant; size = new.kept.size }) t.answers)
              (ap (λ (n : ℕ). n + 1) slot ∙ next ∙ w.sequence ∙ sym same) sent;
        };
      }))
