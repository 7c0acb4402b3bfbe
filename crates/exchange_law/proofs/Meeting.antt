-- Each step of the server keeps that a client and the server agree.
use Rattle.std.proofs.Common.{◌≡◌, ℕ, List, Option, Some, None, inl, inr, refl, sym, ap, subst, ◌∙◌}
use Rattle.layout_ops.specs.declared.args.Args.{Args}
use Rattle.layout_ops.specs.declared.messages.Answer.{Answer}
use Rattle.world_history.specs.ClientNames.{Client, Call, CallOp, Held, Request, Need, First, Get, Commit, Report, Close, Phase, Starts, Needs, Waits, Reads as ReadsOn, Probes, Gathers, Scatters}
use Rattle.client_rules.specs.Calls.{file_of}
use Rattle.client_rules.specs.Grants.{held_of}
use Rattle.client_rules.specs.Requests.{get_args, commit_args}
use Rattle.world_history.specs.ServerNames.{Server, Grant, Slot}
use Rattle.server_rules.specs.Grants.{grant_of}
use Rattle.server_rules.specs.Slots.{slot_of}
use Rattle.exchange_law.specs.Held.{Agrees}
use Rattle.exchange_law.specs.Calls.{Knows, IsCall, PhaseFine, CallFine, ClientFine, WaitFine, IsAsking, GoodAnswer}
use Rattle.exchange_law.specs.Meeting.{AgreesAt, KeptGood, IsMet}
use Rattle.exchange_law.proofs.HeldSteps.{FewerAt, AllFewer}

-- ---- what is known of a client goes over

pub good_over : (P Q : ℕ → Held → Type 0) (op : CallOp) (need : Need) (a : Answer)
    → ((h : Held) → P (file_of op) h → Q (file_of op) h)
    → GoodAnswer P op need a → GoodAnswer Q op need a
good_over P Q op (Get tries) a on (inl g) = inl (g.0, g.1, g.2, g.3, on g.1 g.4)
good_over P Q op (Get tries) a on (inr g) = inr g
good_over P Q op (Commit timed) a on g = g
good_over P Q op First a on g = tt
good_over P Q op (Report timed) a on g = tt
good_over P Q op (Close u report) a on g = tt

module _ (P Q : ℕ → Held → Type 0) (K L : Knows) (x : Client) where
  -- what a call waits for, and the request for it
  abbrev pub Over : Type 0
  Over =
      (op : CallOp) (need : Need) (r : Request) → x.call ≡ Some (record { op = op; phase = Waits need })
      → x.outstanding ≡ Some r → PhaseFine K (held_of x.held (file_of op)) x.outstanding op (Waits need)
      → IsCall op → K op need r → L op need r

  asking_over : (op : CallOp) (need : Need) (file : ℕ) (a : Args)
      → ((r : Request) → x.outstanding ≡ Some r → K op need r → L op need r)
      → IsAsking (K op need) x.outstanding file a → IsAsking (L op need) x.outstanding file a
  asking_over op need file a on k = record {
    request = k.request;
    outstanding = k.outstanding;
    file_is = k.file_is;
    args_are = k.args_are;
    known = on k.request k.outstanding k.known;
  }

  wait_over : (op : CallOp) (need : Need) → x.call ≡ Some (record { op = op; phase = Waits need }) → IsCall op → Over
      → WaitFine K (held_of x.held (file_of op)) x.outstanding op need
      → WaitFine L (held_of x.held (file_of op)) x.outstanding op need
  wait_over op First e is over k = k
  wait_over op (Get tries) e is over k = (
    k.0,
    asking_over op (Get tries) (file_of op) (get_args op)
        (λ r out known. over op (Get tries) r e out k is known) k.1,
  )
  wait_over op (Commit timed) e is over k = record {
    writes = k.writes;
    passes = k.passes;
    held = k.held;
    holds = k.holds;
    asks =
        asking_over op (Commit timed) (file_of op) (commit_args k.held op)
        (λ r out known. over op (Commit timed) r e out k is known) k.asks;
  }
  wait_over op (Report timed) e is over k = k
  wait_over op (Close u report) e is over k = k

  phase_over : (op : CallOp) (p : Phase) → x.call ≡ Some (record { op = op; phase = p }) → IsCall op → Over
      → PhaseFine K (held_of x.held (file_of op)) x.outstanding op p
      → PhaseFine L (held_of x.held (file_of op)) x.outstanding op p
  phase_over op (Waits need) e is over k = wait_over op need e is over k
  phase_over op Starts e is over k = k
  phase_over op (Needs need) e is over k = k
  phase_over op (ReadsOn io) e is over k = k
  phase_over op (Probes io) e is over k = k
  phase_over op (Gathers io) e is over k = k
  phase_over op (Scatters io queue) e is over k = k

  call_over : (o : Option Call) → x.call ≡ o → Over → CallFine K x.held x.outstanding o
      → CallFine L x.held x.outstanding o
  call_over None e over k = k
  call_over (Some call) e over k = (k.0, phase_over call.op call.phase e k.0 over k.1)

  pub client_over : ((file : ℕ) (h : Held) → held_of x.held file ≡ Some h → P file h → Q file h) → Over
      → ClientFine P K x → ClientFine Q L x
  client_over on over k = record {
    helds = λ file h e. on file h e (k.helds file h e);
    call = call_over x.call refl over k.call;
  }

-- ---- a step without a new request

fewer_agrees : (s t : Server) (c file : ℕ) (h : Held) → AllFewer t.drives s.files t.files → AgreesAt s c file h
    → AgreesAt t c file h
fewer_agrees s t c file h all agrees f g at has = by (all file f at)
  where
    by : FewerAt t.drives s.files file f → Agrees f.kept.map g h
    by (inl (e, there, fewer)) =
        subst (λ (m : _). Agrees m g h) (sym fewer.map) (agrees e g there (fewer.grants c g has))
    by (inr none) = absurd (cc (ap (λ (gs : List Grant). grant_of gs c) (sym none) ∙ has))

pub quiet_met : (s t : Server) (c : ℕ) (x : Client) → AllFewer t.drives s.files t.files → t.slots ≡ s.slots
    → IsMet s c x → IsMet t c x
quiet_met s t c x all same k =
    client_over (AgreesAt s c) (AgreesAt t c) (KeptGood s c) (KeptGood t c) x
    (λ file h e agrees. fewer_agrees s t c file h all agrees)
    (λ op need r e out fine is known slot has last.
    good_over (AgreesAt s c) (AgreesAt t c) op need slot.kept (λ h. fewer_agrees s t c (file_of op) h all)
    (known slot (ap (λ (ss : List Slot). slot_of ss c) (sym same) ∙ has) last)) k
