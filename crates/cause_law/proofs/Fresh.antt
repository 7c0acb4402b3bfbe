-- A grant that a client takes is new to its objects.
use Rattle.std.proofs.Common.{◌≡◌, ◌⊎◌, ℕ, zero, suc, ◌+◌, ◌*◌, ◌<◌, ◌++◌, ◌∷◌, [], List, Option, Some, None, Ok, map, slice_get, option_map, inl, inr, refl, sym, ap, subst, ◌∙◌, arith}
use Rattle.osd_lists.specs.declared.node.Node.{Node}
use Rattle.layout_ops.specs.declared.envelope.Envelope.TheVariants as envelope
use Rattle.layout_ops.specs.Spelling.{EnvelopeFits}
use Rattle.layout_ops.specs.declared.messages.Answer.{Answer}
use Rattle.client_rules.specs.Calls.{file_of}
use Rattle.client_rules.specs.Grants.{held_of}
use Rattle.client_rules.specs.declared.limits.TheConstants.{NONCES}
use Rattle.client_rules.specs.Layouts.{taken}
use Rattle.client_rules.specs.Messages.{Answers, takes}
use Rattle.server_rules.specs.Laws.{In}
use Rattle.server_rules.specs.History.{Act as ServerAct, state_after}
use Rattle.server_rules.specs.Making.{new_server}
use Rattle.server_rules.proofs.FileLaws.{number_at, file_in}
use Rattle.scenario_text.specs.declared.line.Line.{Line}
use Rattle.world_history.specs.ClientNames.{Call, CallOp, Held, Request, First, Get, Commit, Report, Close, Phase, Starts, Needs, Waits, Reads as ReadsOn, Probes, Gathers, Scatters}
use Rattle.world_history.specs.ServerNames.{Component}
use Rattle.world_history.specs.Handed.{for_client}
use Rattle.world_history.specs.History.{OneEventMore}
use Rattle.world_history.specs.State.{World, ClientAt, at_number}
use Rattle.world_history.specs.declared.messages.Message.{Message}
use Rattle.world_history.specs.declared.messages.Posted.{Posted}
use Rattle.history_law.specs.BookMoments.{IsMoment}
use Rattle.component_law.specs.Objects.{AllDiffer, NoneIs, objects_of, IsOwned, AreOwned, EachObjectIsOwned}
use Rattle.component_law.proofs.Given.{taken_gives}
use Rattle.exchange_law.specs.InStep.{state_of}
use Rattle.exchange_law.specs.Taking.{AnswersAreOwn, TakesOwn}
use Rattle.exchange_law.proofs.Granted.{taken_covers}
use Rattle.exchange_law.specs.Awaited.{AreFewerThanNonces}
use Rattle.exchange_law.specs.RefusalNonces.{GrantsAreLater}
use Rattle.exchange_law.proofs.Fewer.{few_front}
use Rattle.exchange_law.specs.Calls.{Knows, IsNoGet, PhaseFine, CallFine}
use Rattle.exchange_law.specs.Meeting.{KeptGood, IsMet, IsReadableThrough, ClientsAgree, Reads}
use Rattle.exchange_law.proofs.HeldAsking.{no_get_asked}
use Rattle.exchange_law.proofs.HeldWorlds.{reads_fit, readable_fronts, readable_there}
use Rattle.exchange_law.specs.Given.{IsNew, CanTake}
use Rattle.exchange_law.specs.Sent.{Names, message_of}
use Rattle.cause_law.specs.Fresh.{GrantsAreFresh}
use Rattle.cause_law.proofs.Made.{no_get_given}
use Rattle.exchange_law.proofs.HeldHearing.{made_file}
use Rattle.cause_law.proofs.Moments.{WasHeld, Stands, stands, taken_held}

-- ---- lists

object_in : (cs : List Component) (k : ℕ) (at : Component) → slice_get cs k ≡ Some at → In at.object (objects_of cs)
object_in [] k at e = absurd (cc e)
object_in (x ∷ cs) zero at e = let same : x ≡ at = cc e in inl (ap (λ (y : Component). y.object) (sym same))
object_in (x ∷ cs) (suc k) at e = inr (object_in cs k at e)

none_in : (o : ℕ) (xs : List ℕ) (x : ℕ) → NoneIs o xs → In x xs → x ≡ o → ⊥
none_in o [] x n i e = i
none_in o (y ∷ xs) x n (inl same) e = n.0 (sym same ∙ e)
none_in o (y ∷ xs) x n (inr i) e = none_in o xs x n.1 i e

one_place : (cs : List Component) (k i : ℕ) (a b : Component) → AllDiffer (objects_of cs) → slice_get cs k ≡ Some a
    → slice_get cs i ≡ Some b → a.object ≡ b.object → k ≡ i
one_place [] k i a b d e f same = absurd (cc e)
one_place (x ∷ cs) zero zero a b d e f same = refl
one_place (x ∷ cs) zero (suc i) a b d e f same =
    let its : x ≡ a = cc e in
    absurd (none_in x.object (objects_of cs) b.object d.0 (object_in cs i b f)
    (sym same ∙ ap (λ (y : Component). y.object) (sym its)))
one_place (x ∷ cs) (suc k) zero a b d e f same =
    let its : x ≡ b = cc f in
    absurd (none_in x.object (objects_of cs) a.object d.0 (object_in cs k a e)
    (same ∙ ap (λ (y : Component). y.object) (sym its)))
one_place (x ∷ cs) (suc k) (suc i) a b d e f same = ap suc (one_place cs k i a b d.1 e f same)

-- the message was posted
record IsPosted (ps : List Posted) (m : Message) : Type 0 where
  number : ℕ
  posted : Posted
  there : slice_get ps number ≡ Some posted
  same : posted.message ≡ m

posted_at : (ps : List Posted) (m : Message) → In m (map (λ (p : Posted). p.message) ps) → IsPosted ps m
posted_at [] m i = absurd i
posted_at (p ∷ ps) m (inl e) = record { number = 0; posted = p; there = refl; same = sym e }
posted_at (p ∷ ps) m (inr i) =
    let x = posted_at ps m i in record { number = suc x.number; posted = x.posted; there = x.there; same = x.same }

-- ---- the request of a pending call

file_or_not : (K : Knows) (o : Option Held) (r : Request) (op : CallOp) (p : Phase) → PhaseFine K o (Some r) op p
    → IsNoGet r.args ⊎ (r.file ≡ file_of op)
file_or_not K o r op Starts x = inl x
file_or_not K o r op (Needs need) x = inl x.1
file_or_not K o r op (Waits First) x = inl x
file_or_not K o r op (Waits (Get tries)) x =
    let same : x.1.request ≡ r = cc (sym x.1.outstanding) in
    inr (ap (λ (q : Request). q.file) (sym same) ∙ x.1.file_is)
file_or_not K o r op (Waits (Commit timed)) x =
    let same : x.asks.request ≡ r = cc (sym x.asks.outstanding) in
    inl (subst IsNoGet (sym x.asks.args_are ∙ ap (λ (q : Request). q.args) same) tt)
file_or_not K o r op (Waits (Report timed)) x = inl x
file_or_not K o r op (Waits (Close u report)) x = inl x.1
file_or_not K o r op (ReadsOn io) x = inl x.1
file_or_not K o r op (Probes io) x = inl x.1
file_or_not K o r op (Gathers io) x = inl x.1
file_or_not K o r op (Scatters io queue) x = inl x.1

pending_file : (K : Knows) (hs : List Held) (r : Request) (op : CallOp) (o : Option Call) → CallFine K hs (Some r) o
    → option_map (λ (call : Call). call.op) o ≡ Some op → IsNoGet r.args ⊎ (r.file ≡ file_of op)
pending_file K hs r op None x e = absurd (cc e)
pending_file K hs r op (Some call) x e =
    let same : call.op ≡ op = cc e in
    subst (λ (y : CallOp). IsNoGet r.args ⊎ (r.file ≡ file_of y)) same
    (file_or_not K (held_of hs (file_of call.op)) r call.op call.phase x.1)

-- ---- one owner

module _ (run : List ServerAct) (owner : ℕ → ℕ)
    (owned : (before after : List ServerAct) → run ≡ before ++ after
    → AreOwned owner (state_after (new_server []) before)) where
  its_own : (n : ℕ) (h : Held) (x : WasHeld run n h)
      → IsOwned owner (state_after (new_server []) x.there.before).next_object x.file
  its_own n h x =
      owned x.there.before x.there.after x.there.run x.file
      (file_in (state_after (new_server []) x.there.before).files n x.file x.there.found)

  -- what a grant names is its file's
  pub owner_is : (n : ℕ) (h : Held) → WasHeld run n h → (k o : ℕ) → Names h k o → owner o ≡ n
  owner_is n h x k o names =
      let p = x.lists k o names in
      let i : In p.at.object (objects_of x.file.kept.components) =
      object_in x.file.kept.components k p.at p.found in
      ap owner (sym p.object) ∙ ((its_own n h x).components p.at.object i).1
      ∙ number_at (state_after (new_server []) x.there.before).files n x.file x.there.found

  single_in : (n : ℕ) (h : Held) → WasHeld run n h → (k i o : ℕ) → Names h k o → Names h i o → k ≡ i
  single_in n h x k i o one other =
      let p = x.lists k o one in
      let q = x.lists i o other in
      one_place x.file.kept.components k i p.at q.at (its_own n h x).differ p.found q.found (p.object ∙ sym q.object)

-- ---- the law

rise : (x a b : ℕ) → x < a + 0 → x < a + b
rise x a b less = omega (arith, less)

module _ (more : OneEventMore) (own : AnswersAreOwn) (agree : ClientsAgree) (w : World) (h : List Line)
    (k : IsMoment w h) (t : IsReadableThrough h) (c : ℕ) (a : ClientAt) (found : at_number w.clients c ≡ Some a)
    (g : Held) (can : CanTake w c a g) where
  abbrev pub s : Stands w
  s = stands more own agree w h k t

  p : IsPosted w.network.messages can.message
  p = posted_at w.network.messages can.message can.sent

  it : TakesOwn w h c a.state p.posted can.answer
  it =
      own w h k c a found p.number p.posted p.there
      (ap (λ (m : Message). m.to) p.same ∙ can.receiver) (Answers can.answer) can.answer
      (ap for_client p.same ∙ can.read)
      (ap (λ (n : Node). takes a.state n (Answers can.answer)) (ap (λ (m : Message). m.from) p.same ∙ can.sender)
      ∙ can.takes)

  exact : can.answer ≡ it.slot.kept
  exact = it.exact ((readable_there w h k t).answers c it.slot it.kept)

  fits : EnvelopeFits (envelope.Request it.request)
  fits =
      (readable_there w h k t).requests c it.request
      (ap (λ (o : Option ClientAt). (state_of c o).outstanding) found ∙ it.outstanding)

  takes_kept : taken it.slot.kept can.op ≡ Ok g
  takes_kept = ap (λ (b : Answer). taken b can.op) (sym exact) ∙ can.grant

  -- an answer that gives a grant is none to another request
  not_other : IsNoGet it.request.args → ⊥
  not_other none =
      let m = it.made in
      let reads : Reads m.request it.request = reads_fit c it.request m.request fits m.read in
      let ok = taken_gives it.slot.kept can.op g takes_kept in
      no_get_given m.world.server m.world.clock m.next.chosen m.request
      (no_get_asked it.request.args m.request.args none reads.args) ok.0
      (ap (λ (b : Answer). b.results) (sym m.answer) ∙ ok.1)

  met : IsMet w.server c a.state
  met = subst (IsMet w.server c) (ap (state_of c) found) (agree w h k t c)

  request_file : it.request.file ≡ file_of can.op
  request_file =
      by (pending_file (KeptGood w.server c) a.state.held it.request can.op a.state.call
      (subst (λ (o : Option Request). CallFine (KeptGood w.server c) a.state.held o a.state.call) it.outstanding
      met.call) can.asks)
    where
      by : IsNoGet it.request.args ⊎ (it.request.file ≡ file_of can.op) → it.request.file ≡ file_of can.op
      by (inl none) = absurd (not_other none)
      by (inr same) = same

  answer_on : it.slot.kept.file ≡ g.file
  answer_on =
      made_file h c it.request it.slot.kept fits it.made ∙ request_file
      ∙ sym (taken_covers it.slot.kept can.op g takes_kept).0

  pub new_held : WasHeld s.run g.file g
  new_held =
      subst (λ (n : ℕ). WasHeld s.run n g) answer_on
      (taken_held s.run it.slot.kept can.op g (s.slots c it.slot it.kept) takes_kept)

  old_held : (file : ℕ) (j : Held) → held_of a.state.held file ≡ Some j → WasHeld s.run file j
  old_held file j e =
      s.helds c file j (ap (λ (o : Option ClientAt). held_of (state_of c o).held file) found ∙ e)

  new_one : EachObjectIsOwned → GrantsAreLater → AreFewerThanNonces h → IsNew w c a.state.held g
  new_one owners later few =
      let o = owners s.run in
      let after =
      later w h k few c a found g (record {
        message = can.message;
        sent = can.sent;
        sender = can.sender;
        receiver = can.receiver;
        answer = can.answer;
        read = can.read;
        takes = can.takes;
        op = can.op;
        grant = can.grant;
      }) in
      record {
        later =
            λ d i x sent backed names.
            rise x.nonce (g.number * NONCES) (g.count + 1)
            (after.sent (message_of c d x) x (record { there = sent; sender = refl; body = refl }));
        apart =
            λ file j held other i n object one two.
            other (sym (owner_is s.run o.0 o.1 file j (old_held file j held) n object two)
            ∙ owner_is s.run o.0 o.1 g.file g new_held i object one);
        single = λ i n object one two. single_in s.run o.0 o.1 g.file g new_held i n object one two;
      }

pub grants_are_fresh : OneEventMore → AnswersAreOwn → ClientsAgree → EachObjectIsOwned → GrantsAreLater → GrantsAreFresh
grants_are_fresh more own agree owners later h t few w before after is k c a found g can =
    new_one more own agree w before k (readable_fronts before after (subst IsReadableThrough is t)) c a found g can
    owners later (few_front before after (subst AreFewerThanNonces is few))
