-- What a client awaits behind a move it awaited before, in a call that goes on; or it sent nothing before under the nonce.
use Rattle.std.proofs.Common.{◌≡◌, ◌⊎◌, ℕ, true, List, ◌++◌, is_some, option_map, Option, Some, None, Result, Err, refl, sym, ap, subst, ◌∙◌, inl, inr}
use Rattle.std.proofs.lemmas.Bool.{cases_eq}
use Rattle.osd_lists.specs.declared.node.Node.TheVariants as node
use Rattle.osd_commands.specs.declared.actions.Action.{Action}
use Rattle.osd_commands.specs.declared.actions.Action.TheVariants.{Write}
use Rattle.osd_commands.specs.declared.commands.Command.{Command}
use Rattle.osd_drive.specs.Table.{is_write as is_write_action}
use Rattle.scenario_text.specs.declared.line.Line.{Line}
use Rattle.server_rules.specs.Laws.{In}
use Rattle.client_rules.specs.Calls.{is_write}
use Rattle.client_rules.specs.History.{Input, Calls, Hears, TimesOut, Leaves, Resends, step, unless_refused}
use Rattle.client_rules.specs.Io.{awaited_in}
use Rattle.client_rules.specs.Messages.{Step, awaited_of}
use Rattle.client_rules.specs.Steps.{calls}
use Rattle.world_history.specs.ClientNames.{Awaited, Busy, Call, CallErr, CallOp, Client, Held, Outcome, Phase, Request, Starts, Needs, Waits, Reads, Probes, Gathers, Scatters}
use Rattle.world_history.specs.declared.messages.Body.TheVariants.{Command as OfCommand}
use Rattle.world_history.specs.declared.messages.Message.{Message}
use Rattle.world_history.specs.Moves.{acts}
use Rattle.world_history.specs.Sending.{Move, move}
use Rattle.world_history.specs.State.{World, ClientAt, at_number}
use Rattle.history_law.specs.Moments.{IsMoment, lines_in}
use Rattle.exchange_law.specs.Calls.{Knows, PhaseFine}
use Rattle.exchange_law.specs.InStep.{state_of}
use Rattle.exchange_law.proofs.ClientMoves.{clients_always}
use Rattle.exchange_law.proofs.HeldWorlds.{reached}
use Rattle.exchange_law.proofs.RefusalClients.{HasFew, Known, clients_ran, client_awaits, fewer_before}
use Rattle.exchange_law.proofs.Turning.{Turn, ByServer, ByClient, ByDrive, Makes, Stops, Rests, sent_by}
use Rattle.exchange_law.proofs.Turns.{acts_turn}
use Rattle.file_simulation.specs.Relation.{client_of}
use Rattle.relation_law.specs.CallsTurns.{IsWorking}
use Rattle.relation_law.specs.Working.{IsOne, CallWorks, ClientWorks}
use Rattle.file_simulation.specs.Messages.{is_scatter}
use Rattle.relation_law.proofs.OwnFacts.{works_kept}
use Rattle.exchange_law.proofs.PendingTurns.{EndsAs, turn_ends}

-- ---- what is awaited

working : (p : Phase) (a : Awaited) → In a (awaited_in p) → IsWorking p
working Starts a i = absurd i
working (Needs n) a i = absurd i
working (Waits n) a i = absurd i
working (Reads io) a i = tt
working (Probes io) a i = tt
working (Gathers io) a i = tt
working (Scatters io queue) a i = tt

-- it is of its phase's kind
pub one_of : (w : World) (h : List Line) → IsMoment w h → (c : ℕ) (call : Call) → (client_of w c).call ≡ Some call →
    (a : Awaited) → In a (awaited_in call.phase) → IsOne (is_scatter call.phase) a
one_of w h k c call is a i = by_client (at_number w.clients c) refl is
  where
    by_client : (o : Option ClientAt) → at_number w.clients c ≡ o → (state_of c o).call ≡ Some call →
        IsOne (is_scatter call.phase) a
    by_client None gone is = absurd (cc is)
    by_client (Some b) there is =
        let works : CallWorks b.state.held (Some call) =
        subst (CallWorks b.state.held) is (clients_always (λ n y. ClientWorks y) works_kept w (reached w h k) c b there) in
        let held = works.0 (working call.phase a i) in
        (works.1 held.0 held.1).ones a i

-- a call that scatters writes
pub scatter_writes : (K : Knows) (o : Option Held) (out : Option Request) (op : CallOp) (p : Phase) → PhaseFine K o out op p →
    is_scatter p ≡ true → is_write op ≡ true
scatter_writes K None out op (Scatters io queue) f t = absurd f.0
scatter_writes K (Some held) out op (Scatters io queue) f t = f.0.0
scatter_writes K o out op Starts f t = absurd (cc t)
scatter_writes K o out op (Needs n) f t = absurd (cc t)
scatter_writes K o out op (Waits n) f t = absurd (cc t)
scatter_writes K o out op (Reads io) f t = absurd (cc t)
scatter_writes K o out op (Probes io) f t = absurd (cc t)
scatter_writes K o out op (Gathers io) f t = absurd (cc t)

pub write_of : (b : Action) → is_write_action b ≡ true → b ≡ Write
write_of Write e = refl
write_of b e = absurd (cc e)

-- ---- the call

calls_busy : (x : Client) (op : CallOp) → is_some x.call ≡ true → calls x op ≡ Err Busy
unfolding calls
calls_busy x op e = rw e refl

ended : (op : CallOp) (t : Option Outcome) (o : Option Call) (call : Call) → EndsAs (Some op) t o → o ≡ Some call → call.op ≡ op
ended op None o call e is = some (sym (ap (option_map (λ (y : Call). y.op)) is) ∙ e)
  where
    some : Some call.op ≡ Some op → call.op ≡ op
    some q = cc q
ended op (Some x) o call e is = absurd (cc (sym e ∙ is))

-- a call that is pending behind a step of its client is the one before
pub op_stays : (x : Client) (i : Input) (before after : Call) → x.call ≡ Some before → (step x i).client.call ≡ Some after →
    after.op ≡ before.op
op_stays x i before after is now = by_input i now
  where
    other : (i : Input) → ((op : CallOp) → i ≡ Calls op → ⊥) → (step x i).client.call ≡ Some after → after.op ≡ before.op
    other i none now =
        ended before.op (step x i).outcome (step x i).client.call after
        (subst (λ (o : Option CallOp). EndsAs o (step x i).outcome (step x i).client.call)
        (ap (option_map (λ (y : Call). y.op)) is) (turn_ends x i none)) now

    same : Some before ≡ Some after → after.op ≡ before.op
    same e = cc e

    by_input : (i : Input) → (step x i).client.call ≡ Some after → after.op ≡ before.op
    by_input (Calls op) now =
        let busy : calls x op ≡ Err Busy = calls_busy x op (ap (λ (o : Option Call). is_some o) is) in
        same (sym is ∙ sym (ap (λ (r : Result Step CallErr). (unless_refused x r).client.call) busy) ∙ now)
    by_input (Hears from b) now = other (Hears from b) (λ op e. cc e) now
    by_input (TimesOut n) now = other (TimesOut n) (λ op e. cc e) now
    by_input Leaves now = other Leaves (λ op e. cc e) now
    by_input Resends now = other Resends (λ op e. cc e) now

-- ---- a move

-- the client sent no command under the nonce
abbrev pub NeverSent : World → (c nonce : ℕ) → Type 0
NeverSent w c nonce =
    (z : Command) (n : Message) → In n (sent_by w) → n.from ≡ node.Client c → n.body ≡ OfCommand z → z.nonce ≡ nonce → ⊥

module _ (q : Known) (w : World) (h : List Line) (m : Move) (k : IsMoment w h)
    (next : IsMoment (move w m).world (h ++ lines_in w m)) (few : HasFew (move w m).world) (c : ℕ) (a : Awaited) where
  abbrev v : World
  v = (move w m).world

  abbrev Was : Type 0
  Was = In a (awaited_of (client_of w c).call) ⊎ NeverSent w c a.command.nonce

  same : client_of v c ≡ client_of w c → In a (awaited_of (client_of v c).call) → Was
  same e i = inl (subst (λ (x : Client). In a (awaited_of x.call)) e i)

  by_turn : Turn w m.action (acts w m.chosen m.action) → In a (awaited_of (client_of v c).call) → Was
  by_turn (ByServer t) i = same (ap (state_of c) (t.clients c)) i
  by_turn (ByDrive t) i = same (ap (state_of c) (t.clients c)) i
  by_turn (Rests t) i = same (ap (state_of c) (t.clients c)) i
  by_turn (ByClient t) i = elim (cases_eq c t.client) [
    | inl it ↦
        let now : client_of v c ≡ (step t.caller.state t.input).client =
        ap (λ (n : ℕ). client_of v n) it ∙ ap (state_of t.client) t.becomes.there ∙ t.state in
        let before : client_of w c ≡ t.caller.state = ap (λ (n : ℕ). client_of w n) it ∙ ap (state_of t.client) t.found in
        elim (client_awaits q w h m k next few (clients_ran q w h k (fewer_before w m few)) t a
        (subst (λ (x : Client). In a (awaited_of x.call)) now i)) [
          | inl old ↦ inl (subst (λ (x : Client). In a (awaited_of x.call)) (sym before) old)
          | inr new ↦ inr (λ z n sent from body. new z n sent (from ∙ ap (λ (p : ℕ). node.Client p) it) body)
        ]
    | inr other ↦ same (ap (state_of c) (t.becomes.others c other)) i
  ]
  by_turn (Makes t) i = elim (cases_eq c t.client) [
    | inl it ↦
        let now = ap (λ (n : ℕ). client_of v n) it ∙ ap (state_of t.client) t.becomes.there ∙ t.state in
        absurd (subst (λ (x : Client). In a (awaited_of x.call)) now i)
    | inr other ↦ same (ap (state_of c) (t.becomes.others c other)) i
  ]
  by_turn (Stops t) i = elim (cases_eq c t.client) [
    | inl it ↦
        let now : client_of v c ≡ t.caller.state =
        ap (λ (n : ℕ). client_of v n) it ∙ ap (state_of t.client) t.becomes.there ∙ t.state in
        let before : client_of w c ≡ t.caller.state = ap (λ (n : ℕ). client_of w n) it ∙ ap (state_of t.client) t.found in
        same (now ∙ sym before) i
    | inr other ↦ same (ap (state_of c) (t.becomes.others c other)) i
  ]

  pub was_awaited : In a (awaited_of (client_of v c).call) → Was
  was_awaited i = by_turn (acts_turn w m.chosen m.action).turn i
