-- The end of a client's turn that asks nothing of the server: behind its commands the machine has of the client what it has.
-- Towards `CallsGoOn` (`specs/Steps.antt`).
use Rattle.std.proofs.Common.{◌≡◌, ◌==◌, ℕ, ◌+◌, ◌*◌, ◌<◌, ◌≤◌, Bool, true, false, List, [], ◌++◌, map, Option, Some, None, refl, sym, ap, subst, ◌∙◌, arith}
use Rattle.data_map.specs.declared.check.RawMap.{RawMap}
use Rattle.layout_ops.specs.declared.messages.Answer.{Answer}
use Rattle.osd_commands.specs.declared.commands.Command.{Command}
use Rattle.client_rules.specs.declared.limits.TheConstants.{NONCES}
use Rattle.client_rules.specs.Calls.{file_of, is_write}
use Rattle.client_rules.specs.Grants.{held_of}
use Rattle.client_rules.specs.Messages.{to_drive, sends_of}
use Rattle.world_history.specs.ClientNames.{Client, Call, CallOp, Held, Awaited, Phase, Starts, Needs, Waits, Reads, Probes, Gathers, Scatters, Done, Outgoing, Asks, AnswersRecall}
use Rattle.fence_law.specs.State.{State, Grant}
use Rattle.fence_law.proofs.Holds.{Holds}
use Rattle.file_simulation.specs.ClientEvents as table
use Rattle.file_simulation.specs.Calls.{IsIdle, CallIs, CallAt, IsHolding, HeldIs, IsClient}
use Rattle.relation_law.specs.CallsTurns.{PhasePends, PhaseOn, EndIs, PendsAt, IsMid, IsStarting}
use Rattle.relation_law.proofs.CallsEnded.{IsUnmoved, fresh_unmoved}
use Rattle.relation_law.proofs.CallsMid.{held_as}
use Rattle.relation_law.proofs.CallsTells.{told, told_more, recalls_told, commands_quiet, CommandsFit, reads_told, gathers_told, IsBeyond}
use Rattle.relation_law.proofs.CallsStarts.{PlanFits, writes_told}

-- What the commands of a turn have to be, by the phase that its call comes to: those of a call on the file go out under the
-- grant that is held.
abbrev pub WorkFits : (file : ℕ) → RawMap → State → (c : ℕ) → Client → CallOp → List Awaited → Phase → Type 0
WorkFits file m s c x op cs (Reads io) =
    (h : Held) × (held_of x.held file ≡ Some h) × (is_write op ≡ false) × CommandsFit x h false cs
WorkFits file m s c x op cs (Probes io) =
    (h : Held) × (held_of x.held file ≡ Some h) × (is_write op ≡ false) × CommandsFit x h false cs
WorkFits file m s c x op cs (Gathers io) =
    (h : Held) × (held_of x.held file ≡ Some h) × (is_write op ≡ true) × CommandsFit x h false cs
WorkFits file m s c x op cs (Scatters io queue) =
    (h : Held) × (held_of x.held file ≡ Some h) × (h.count < NONCES) × CommandsFit x h true cs
    × ((g : Grant) (call : Call) (is : x.call ≡ Some call) (here : (file_of call.op == file) ≡ true)
    (holds : held_of x.held file ≡ Some h) → call.op ≡ op → s.held c ≡ Some g → IsStarting m s c op io queue cs →
    PlanFits file c x call is here h holds m s g io queue cs)
WorkFits file m s c x op cs p = Unit {0}

module _ (file : ℕ) (m : RawMap) (c : ℕ) (o : Option Answer) (s : State) (holding : Holds s) (op : Option CallOp) (d : Done)
    (k : IsMid file m s c o op d) (over : d.outcome ≡ None) where
  abbrev x : Client
  x = d.client

  abbrev cs : List Awaited
  cs = d.commands

  -- the machine stays as it is
  settled : CallAt file m s c o x.call → (t : State) → t ≡ s → IsClient file m t c x o
  settled call t e = rw e (record { held = k.held; call = call; fresh = k.fresh; used = k.used })

  -- it has an entry more
  unmoved_client : (t : State) → IsUnmoved s t c → CallAt file m t c o x.call → IsClient file m t c x o
  unmoved_client t u call = record {
    held = held_as file m s t c x o (held_of x.held file) u.held u.size u.nonce k.held;
    call = call;
    fresh = fresh_unmoved s t c u k.fresh;
    used = rw (u.nonce, u.next) k.used;
  }

  module _ (call : Call) (call_is : x.call ≡ Some call) (here : (file_of call.op == file) ≡ true) where
    at_call : (t : State) → CallIs m t c call.op o call.phase → CallAt file m t c o x.call
    at_call t w = rw (call_is, here) w

    holding_of : (h : Held) → held_of x.held file ≡ Some h → IsHolding m s c h
    holding_of h e = subst (λ q. HeldIs file m s c x o q) e k.held

    -- a nonce of the grant is below all that comes
    below_next : (h : Held) (w : IsHolding m s c h) (v next : ℕ) → v ≤ h.number * NONCES + h.count → h.count < NONCES →
        next ≡ s.next → v < next * NONCES
    below_next h w v next low few e =
        let number : w.grant.number ≡ h.number = w.same.same.number ∙ sym w.same.agrees.number in
        let less : w.grant.number < s.next = (holding.has c w.grant w.held).0 in
        rw e (count_less h.number (subst (λ n. n < s.next) number less) v low)
      where
        count_less : (n : ℕ) → n < s.next → (v : ℕ) → v ≤ n * NONCES + h.count → v < s.next * NONCES
        count_less n less v low = omega (arith, less, low, few)

    -- WRITEs that were sent leave all but the nonce
    beyond_client : (h : Held) (holds : held_of x.held file ≡ Some h) (t : State) →
        IsBeyond file c x call call_is here h holds s t → h.count < NONCES → CallIs m t c call.op o call.phase →
        IsClient file m t c x o
    beyond_client h holds t b few w = let z = holding_of h holds in record {
      held = subst (λ q. HeldIs file m t c x o q) (sym holds)
          (record { grant = z.grant; held = b.held ∙ z.held; same = z.same; size = b.size ∙ z.size; nonce = b.nonce });
      call = at_call t w;
      fresh = λ g size e i. absurd (cc (sym z.held ∙ holding.waits c (sym b.waiting ∙ e)));
      used = below_next h z (t.nonce c) t.next b.nonce few b.next;
    }

    -- by the phase
    by_phase : (p : Phase) → call.phase ≡ p → PhasePends m s c call.op o cs p → WorkFits file m s c x call.op cs p →
        IsClient file m (told s file c x (map to_drive cs)) c x o
    unfolding told
    by_phase Starts e w f = rw w.0 (settled (at_call s (rw e w.1)) s refl)
    by_phase (Needs n) e w f = rw w.0 (settled (at_call s (rw e w.1)) s refl)
    by_phase (Waits n) e w f = rw w.0 (settled (at_call s (rw e w.1)) s refl)
    by_phase (Reads io) e w f =
        let r =
        reads_told file c x call call_is here f.0 f.1 s (holding_of f.0 f.1).grant cs (holding_of f.0 f.1).held f.2 f.3 w in
        unmoved_client (told s file c x (map to_drive cs)) r.0 (at_call (told s file c x (map to_drive cs)) (rw e r.1))
    by_phase (Probes io) e w f =
        let r =
        reads_told file c x call call_is here f.0 f.1 s (holding_of f.0 f.1).grant cs (holding_of f.0 f.1).held f.2 f.3 w in
        unmoved_client (told s file c x (map to_drive cs)) r.0 (at_call (told s file c x (map to_drive cs)) (rw e r.1))
    by_phase (Gathers io) e w f =
        let z = holding_of f.0 f.1 in
        let r = gathers_told file c x call call_is here f.0 f.1 m z.same.agrees.map s z.grant cs z.held f.2 f.3 w in
        unmoved_client (told s file c x (map to_drive cs)) r.0 (at_call (told s file c x (map to_drive cs)) (rw e r.1))
    by_phase (Scatters io queue) e w f =
        let z = holding_of f.0 f.1 in
        let r = writes_told file c x call call_is here f.0 f.1 m s z.grant io queue cs z.held z.nonce f.3
        (f.4 z.grant call call_is here f.1 refl z.held) w in
        beyond_client f.0 f.1 (told s file c x (map to_drive cs)) r.0 f.2 (rw e r.1)

  -- commands of another call have no event
  quiet_by : (call : Call) → x.call ≡ Some call → (file_of call.op == file) ≡ false → (t : State) (y : Command) →
      table.commands_in t file c x y x.call ≡ []
  quiet_by call is there t y = rw (is, there) refl

  none_by : x.call ≡ None → (t : State) (y : Command) → table.commands_in t file c x y x.call ≡ []
  none_by is t y = rw is refl

  at_end : (p : Option CallOp) → EndIs file s c p None → IsIdle s c
  at_end None w = w
  at_end (Some p) w = w

  pends : (y : Option Call) → x.call ≡ y → PendsAt file m s c o op None cs y
  pends y e = subst (λ z. PendsAt file m s c o op None cs z) e (subst (λ u. PendsAt file m s c o op u cs x.call) over k.call)

  by_here : (call : Call) → x.call ≡ Some call → (b : Bool) → (file_of call.op == file) ≡ b →
      (b ≡ true → WorkFits file m s c x call.op cs call.phase) → PhaseOn b m s c call o cs →
      IsClient file m (told s file c x (map to_drive cs)) c x o
  by_here call is true e f w = by_phase call is e call.phase refl w (f refl)
  by_here call is false e f w =
      settled (rw (is, e) w) (told s file c x (map to_drive cs)) (commands_quiet s file c x cs (quiet_by call is e))

  -- What the turn's commands have to be, of a call on the file.
  abbrev pub SendsFit : Type 0
  SendsFit =
      (call : Call) → x.call ≡ Some call → (file_of call.op == file) ≡ true → WorkFits file m s c x call.op cs call.phase

  by_call : (y : Option Call) → x.call ≡ y → SendsFit → IsClient file m (told s file c x (map to_drive cs)) c x o
  by_call None e f =
      settled (rw e (at_end op (pends None e))) (told s file c x (map to_drive cs)) (commands_quiet s file c x cs (none_by e))
  by_call (Some call) e f = by_here call e (file_of call.op == file) refl (λ b. f call e b) (pends (Some call) e)

  pub turn_settles : SendsFit → IsClient file m (told s file c x (sends_of d)) c x o
  turn_settles f =
      let w : IsClient file m (told s file c x (map to_drive cs)) c x o = by_call x.call refl f in
      subst (λ t. IsClient file m t c x o) (sym all) w
    where
      none_asked : map Asks d.requests ++ map to_drive cs ≡ map to_drive cs
      none_asked = rw k.unasked refl

      all : told s file c x (sends_of d) ≡ told s file c x (map to_drive cs)
      all = told_more s file c x (map AnswersRecall d.recalls) (map Asks d.requests ++ map to_drive cs)
          ∙ ap (λ (t : State). told t file c x (map Asks d.requests ++ map to_drive cs)) (recalls_told s file c x d.recalls)
          ∙ ap (λ (os : List Outgoing). told s file c x os) none_asked
