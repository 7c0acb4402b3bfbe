-- A step of a client keeps what holds of each grant that it holds, where it holds of each that the client may take from the
-- answer that the server keeps for it.
use Rattle.std.proofs.Common.{◌≡◌, ℕ, List, Option, Some, None, Ok, inl, inr, refl, sym, ap, subst, ◌∙◌}
use Rattle.osd_lists.specs.declared.node.Node.{Node}
use Rattle.osd_lists.proofs.Options.{same_some}
use Rattle.layout_ops.specs.declared.envelope.Envelope.TheVariants as envelope
use Rattle.layout_ops.specs.Spelling.{EnvelopeFits}
use Rattle.layout_ops.specs.declared.messages.Answer.{Answer}
use Rattle.scenario_text.specs.declared.line.Line.{Line}
use Rattle.client_rules.specs.Calls.{file_of}
use Rattle.client_rules.specs.Grants.{held_of}
use Rattle.client_rules.specs.History.{Input, Hears, Calls, TimesOut, Leaves, Resends, step as client_step}
use Rattle.client_rules.specs.Layouts.{taken}
use Rattle.client_rules.specs.Messages.{TakesAnswer, takes}
use Rattle.server_rules.specs.Files.{file_at}
use Rattle.server_rules.specs.Slots.{slot_of}
use Rattle.world_history.specs.ClientNames.{CallOp, Held, Request, Need, First, Get, Commit, Report, Close, Waits}
use Rattle.world_history.specs.ServerNames.{Server, File, Slot, ClientRequest}
use Rattle.world_history.specs.State.{World, ClientAt, at_number}
use Rattle.history_law.specs.BookMoments.{IsMoment}
use Rattle.exchange_law.specs.Calls.{Knows, CallFine, ClientFine, GoodAnswer, WaitFine}
use Rattle.exchange_law.specs.Doing.{IsHeardByClient}
use Rattle.exchange_law.specs.InStep.{state_of, client_of}
use Rattle.exchange_law.specs.Made.{WasMade, answer_at}
use Rattle.exchange_law.specs.Meeting.{AgreesAt, KeptGood, IsMet, IsReadableThrough, ClientsAgree, Reads}
use Rattle.exchange_law.specs.Taking.{AnswersAreOwn}
use Rattle.exchange_law.proofs.HeldGoing.{Rules}
use Rattle.exchange_law.proofs.HeldMoving.{IsSame}
use Rattle.exchange_law.proofs.HeldStepping.{IsGoodInput, step_fine}
use Rattle.exchange_law.proofs.HeldWorlds.{reads_fit, readable_there}
use Rattle.exchange_law.proofs.Meeting.{client_over}

-- ---- the answer that is taken

answer_file : (s : Server) (now : ℕ) (chosen : List ℕ) (q : ClientRequest) (o : Option File)
    → (answer_at s now chosen q o).file ≡ q.file
answer_file s now chosen q None = refl
answer_file s now chosen q (Some f) = refl

-- it is on the file of the request
pub made_file : (h : List Line) (c : ℕ) (r : Request) (a : Answer) → EnvelopeFits (envelope.Request r)
    → WasMade h c r a → a.file ≡ r.file
made_file h c r a fits m =
    let reads : Reads m.request r = reads_fit c r m.request fits m.read in
    ap (λ (y : Answer). y.file) m.answer
    ∙ answer_file m.world.server m.world.clock m.next.chosen m.request (file_at m.world.server.files m.request.file)
    ∙ reads.file

-- what a call waits for is good by Q where what is taken of it on the call's file is so
good_for : (P Q : ℕ → Held → Type 0) (K : Knows) (o : Option Held) (r : Request) (op : CallOp) (need : Need) (a : Answer)
    → (K op need r → GoodAnswer P op need a) → (r.file ≡ file_of op → (x : Held) → taken a op ≡ Ok x → Q (file_of op) x)
    → WaitFine K o (Some r) op need → GoodAnswer Q op need a
good_for P Q K o r op First a on q x = tt
good_for P Q K o r op (Get tries) a on q x =
    let same : x.1.request ≡ r = cc (sym x.1.outstanding) in
    by (ap (λ (y : Request). y.file) (sym same) ∙ x.1.file_is)
    (on (subst (λ (y : Request). K op (Get tries) y) same x.1.known))
  where
    by : r.file ≡ file_of op → GoodAnswer P op (Get tries) a → GoodAnswer Q op (Get tries) a
    by file (inl g) = inl (g.0, g.1, g.2, g.3, q file g.1 g.2)
    by file (inr g) = inr g
good_for P Q K o r op (Commit timed) a on q x =
    let same : x.asks.request ≡ r = cc (sym x.asks.outstanding) in
    on (subst (λ (y : Request). K op (Commit timed) y) same x.asks.known)
good_for P Q K o r op (Report timed) a on q x = tt
good_for P Q K o r op (Close u report) a on q x = tt

-- nothing needs to be known of what a call asks
abbrev pub AnyKnown : Knows
AnyKnown op need r = Unit {0}

-- ---- a step of the client

module _ (own : AnswersAreOwn) (agree : ClientsAgree) (P : ℕ → Held → Type 0)
    (over : (file : ℕ) (x y : Held) → IsSame x y → P file x → P file y) (w : World) (h : List Line) (k : IsMoment w h)
    (t : IsReadableThrough h) (c : ℕ) (a : ClientAt) (found : at_number w.clients c ≡ Some a)
    (helds : (file : ℕ) (x : Held) → held_of (client_of w c).held file ≡ Some x → P file x)
    (kept : (s : Slot) → slot_of w.server.slots c ≡ Some s → (op : CallOp) (x : Held) → taken s.kept op ≡ Ok x
    → P s.kept.file x) where
  met : IsMet w.server c a.state
  met = subst (IsMet w.server c) (ap (state_of c) found) (agree w h k t c)

  fine : ClientFine P AnyKnown a.state
  fine =
      client_over (AgreesAt w.server c) P (KeptGood w.server c) AnyKnown a.state
      (λ file x e old. helds file x (ap (λ (o : Option ClientAt). held_of (state_of c o).held file) found ∙ e))
      (λ op need r e out x is known. tt) met

  rules : Rules P AnyKnown a.state.next
  rules = record { keeps = over; new = λ op need r numbered. tt }

  call_is : (op : CallOp) (need : Need) (r : Request) → a.state.call ≡ Some (record { op = op; phase = Waits need })
      → a.state.outstanding ≡ Some r
      → WaitFine (KeptGood w.server c) (held_of a.state.held (file_of op)) (Some r) op need
  call_is op need r call out =
      (subst (CallFine (KeptGood w.server c) a.state.held (Some r)) call
      (subst (λ (o : Option Request). CallFine (KeptGood w.server c) a.state.held o a.state.call) out met.call)).1

  requests_fit : (r : Request) → a.state.outstanding ≡ Some r → EnvelopeFits (envelope.Request r)
  requests_fit r out =
      (readable_there w h k t).requests c r
      (ap (λ (o : Option ClientAt). (state_of c o).outstanding) found ∙ out)

  good : (i : Input) → IsHeardByClient w c i → IsGoodInput P AnyKnown a.state.next rules a.state refl fine i
  good (Hears from m) heard = λ b e op need q call out known.
      let d = heard.0 in
      let there : takes a.state d.posted.message.from m ≡ Some (TakesAnswer b) =
      subst (λ (n : Node). takes a.state n m ≡ Some (TakesAnswer b)) heard.1 e in
      let it = own w h k c a found d.number d.posted d.there d.receiver m b heard.2 there in
      let same : it.request ≡ q = same_some it.request q a.state.outstanding it.outstanding out in
      let exact : b ≡ it.slot.kept = it.exact ((readable_there w h k t).answers c it.slot it.kept) in
      let file : it.slot.kept.file ≡ q.file =
      made_file h c it.request it.slot.kept (requests_fit it.request it.outstanding) it.made
      ∙ ap (λ (r : Request). r.file) same in
      subst (GoodAnswer P op need) (sym exact)
      (good_for (AgreesAt w.server c) P (KeptGood w.server c) _ q op need it.slot.kept
      (λ good_kept. good_kept it.slot it.kept (it.last ∙ ap (λ (r : Request). r.sequence) same))
      (λ its x takes_it. subst (λ (n : ℕ). P n x) (file ∙ its) (kept it.slot it.kept op x takes_it))
      (call_is op need q call out))
  good (Calls op) heard = tt
  good (TimesOut j) heard = tt
  good Leaves heard = tt
  good Resends heard = tt

  -- behind any step the client is as it should be, and P holds of what it holds
  pub step_is_fine : (i : Input) → IsHeardByClient w c i → ClientFine P AnyKnown (client_step a.state i).client
  step_is_fine i heard = (step_fine P AnyKnown a.state.next rules a.state refl fine i (good i heard)).client
