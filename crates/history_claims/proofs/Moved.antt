-- What the lines of each move begin with: a delivery, a timeout, a verdict on injected bytes, a refusal, or none of them.
use Rattle.std.proofs.Common.{◌≡◌, ◌∷◌, ℕ, Bool, true, false, true≢false, List, [], Option, Some, None, Result, Ok, Err, is_some, slice_get, refl, sym, inl, inr, if◌then◌else◌}
use Rattle.std.proofs.lemmas.Bool.{cases_Bool}
use Rattle.scenario_text.specs.declared.event.Event.{Event}
use Rattle.scenario_text.specs.declared.event.Event.TheVariants as event
use Rattle.scenario_text.specs.declared.event.Sender.TheVariants as sender
use Rattle.scenario_text.specs.declared.event.Machine.TheVariants as machine
use Rattle.scenario_text.specs.declared.line.Delivery.{Delivery}
use Rattle.scenario_text.specs.declared.line.Refusal.{Refusal}
use Rattle.scenario_text.specs.declared.line.Refusal.TheVariants as refusal
use Rattle.scenario_text.specs.declared.line.Verdict.{Verdict}
use Rattle.scenario_text.specs.declared.line.Line.{Line}
use Rattle.scenario_text.specs.declared.line.Line.TheVariants as line
use Rattle.server_rules.specs.History as server_input
use Rattle.client_rules.specs.History as client_input
use Rattle.client_rules.specs.Messages.{Step as ClientStep}
use Rattle.client_rules.specs.Steps.{calls}
use Rattle.world_history.specs.ServerNames as server_rules
use Rattle.world_history.specs.ClientNames.{Client, CallOp, CallErr}
use Rattle.world_history.specs.declared.messages.Posted.{Posted}
use Rattle.world_history.specs.State.{World, DriveAt, ClientAt, at_number, with_down}
use Rattle.world_history.specs.Told.{told_refusal}
use Rattle.world_history.specs.Handed.{handed, client_goes, pending_op}
use Rattle.world_history.specs.Moves.{Act, Action, Opens, Delivers, TimesOut, Pends, acted, tells, marked, by_client, called, calls_at, leaves, resends, op_of, raw_of, behind, pends_as, delivers_found, delivers, times_out, pends, injects_at, injects, begins, acts}
use Rattle.world_history.specs.Sending.{sent_lines, sends_all}
use Rattle.history_law.specs.Moves.{number_in}
use Rattle.history_claims.proofs.Plainly.{Plain, ended_plain, goes_plain, hand_plain, gives_plain, makes_plain, adds_plain, told_plain}

-- what becomes of message n where it is delivered
abbrev pub receipt_of : World → (chosen : List ℕ) → (n : ℕ) → Posted → Delivery
receipt_of w chosen n p = (handed (marked w n p) chosen p.message).receipt

-- the action times a component out at a client
abbrev pub TimesOutAt : Action → (client component : ℕ) → Type 0
TimesOutAt (Opens (event.Timeout c k)) client component = (c ≡ client) × (k ≡ component)
TimesOutAt (TimesOut c k) client component = (c ≡ client) × (k ≡ component)
TimesOutAt action client component = ⊥

-- a client in this state refuses the call
abbrev pub RefusesOp : Client → CallOp → Refusal → Type 0
RefusesOp a op why = (e : CallErr) × (calls a op ≡ Err e) × (why ≡ told_refusal e)

-- or what the action asks of it
abbrev pub Refuses : Action → (client : ℕ) → Client → Refusal → Type 0
Refuses (Opens (event.Do c x)) client a why = (c ≡ client) × RefusesOp a (op_of x) why
Refuses (Opens (event.Call c x)) client a why = (c ≡ client) × RefusesOp a (op_of x) why
Refuses (Opens (event.Leave c)) client a why = (c ≡ client) × (is_some a.call ≡ true) × (why ≡ refusal.Busy)
Refuses action client a why = ⊥

-- The lines of a move: plain ones; or plain ones behind one that tells what became of a message, that a component timed out, or
-- what a drive made of injected bytes; or just a refusal.
pub data Says (w : World) (chosen : List ℕ) (action : Action) (ls : List Line) : Type 0 where
  PlainLines : Plain ls → Says w chosen action ls
  ADelivery : (n : ℕ) (p : Posted) → number_in action ≡ Some n → slice_get w.network.messages n ≡ Some p
      → (rest : List Line) → Plain rest → ls ≡ line.Delivered n (receipt_of w chosen n p) ∷ rest → Says w chosen action ls
  ATimeout : (c k : ℕ) (a : ClientAt) → TimesOutAt action c k → at_number w.clients c ≡ Some a
      → (rest : List Line) → Plain rest → ls ≡ line.TimedOut c k ∷ rest → Says w chosen action ls
  AVerdict : (d : ℕ) (bytes : List ℕ) (v : Verdict) → action ≡ Opens (event.Inject d bytes) → (rest : List Line) → Plain rest
      → ls ≡ line.Judged d v ∷ rest → Says w chosen action ls
  ARefusal : (c : ℕ) (a : ClientAt) (why : Refusal) → at_number w.clients c ≡ Some a → Refuses action c a.state why
      → ls ≡ line.Refused c why ∷ [] → Says w chosen action ls

module _ (w : World) (chosen : List ℕ) (action : Action) where
  abbrev Told : Act → Type 0
  Told a = Says w chosen action (sends_all a).lines

  plainly : (a : Act) → Plain a.told → Told a
  plainly a b = PlainLines (told_plain a a.told b)

  found_says : (n : ℕ) → number_in action ≡ Some n → (o : Option Posted) → slice_get w.network.messages n ≡ o
      → Told (delivers_found w chosen n o)
  found_says n number None there = plainly (delivers_found w chosen n None) tt
  found_says n number (Some p) there =
      ADelivery n p number there _
      (told_plain (delivers_found w chosen n (Some p)) (handed (marked w n p) chosen p.message).told
      (hand_plain (marked w n p) chosen p.message p.message.to)) refl

  delivers_says : (n : ℕ) → number_in action ≡ Some n → Told (delivers w chosen n)
  unfolding delivers
  delivers_says n number = found_says n number (slice_get w.network.messages n) refl

  at_client : (c : ℕ) (does : ClientAt → Act) → ((a : ClientAt) → at_number w.clients c ≡ Some a → Told (does a))
      → (o : Option ClientAt) → at_number w.clients c ≡ o → Told (by_client w does o)
  at_client c does each None there = plainly (by_client w does None) tt
  at_client c does each (Some a) there = each a there

  times_out_says : (c k : ℕ) → TimesOutAt action c k → Told (times_out w c k)
  unfolding times_out
  times_out_says c k is =
      at_client c _
      (λ a there. ATimeout c k a is there _
      (told_plain (behind (line.TimedOut c k) (client_goes w c a (client_input.TimesOut k)))
      (client_goes w c a (client_input.TimesOut k)).told (goes_plain w c a (client_input.TimesOut k))) refl)
      (at_number w.clients c) refl

  calls_says : (c : ℕ) (op : CallOp)
      → ((a : ClientAt) (e : CallErr) → calls a.state op ≡ Err e → Refuses action c a.state (told_refusal e))
      → Told (calls_at w c op)
  unfolding calls_at sent_lines
  calls_says c op refuses =
      at_client c _ (λ a there. by a there (calls a.state op) refl) (at_number w.clients c) refl
    where
      by : (a : ClientAt) → at_number w.clients c ≡ Some a → (r : Result ClientStep CallErr) → calls a.state op ≡ r
          → Told (called w c a op r)
      by a there (Err e) is = ARefusal c a (told_refusal e) there (refuses a e is) refl
      by a there (Ok s) is = plainly (called w c a op (Ok s)) (ended_plain c (Some op) s.outcome)

  leaves_says : (c : ℕ) → ((a : ClientAt) → is_some a.state.call ≡ true → Refuses action c a.state refusal.Busy)
      → Told (leaves w c)
  unfolding leaves sent_lines
  leaves_says c refuses =
      at_client c _ (λ a there. by a there (is_some a.state.call) refl) (at_number w.clients c) refl
    where
      by : (a : ClientAt) → at_number w.clients c ≡ Some a → (b : Bool) → is_some a.state.call ≡ b
          → Told (if b then tells w (line.Refused c refusal.Busy) else acted (client_goes w c a client_input.Leaves))
      by a there true is = ARefusal c a refusal.Busy there (refuses a is) refl
      by a there false is = plainly (acted (client_goes w c a client_input.Leaves)) (goes_plain w c a client_input.Leaves)

  injects_says : (d : ℕ) (bytes : List ℕ) → action ≡ Opens (event.Inject d bytes) → Told (injects w d bytes)
  unfolding injects sent_lines
  injects_says d bytes is = found (at_number w.drives d)
    where
      found : (o : Option DriveAt) → Told (injects_at w d bytes o)
      found None = plainly (injects_at w d bytes None) tt
      found (Some a) = AVerdict d bytes _ is [] tt refl

  pends_says : (c : ℕ) → Told (pends w c)
  unfolding pends
  pends_says c = at_client c _ (λ a there. by (pending_op a.state)) (at_number w.clients c) refl
    where
      by : (o : Option CallOp) → Told (pends_as w c o)
      by None = plainly (pends_as w c None) tt
      by (Some op) = plainly (pends_as w c (Some op)) (tt, tt)

-- an event behind which one of these lines may stand
abbrev may_head : Event → Bool
may_head (event.Do c x) = true
may_head (event.Call c x) = true
may_head (event.Leave c) = true
may_head (event.Deliver n) = true
may_head (event.Timeout c k) = true
may_head (event.Inject d bytes) = true
may_head e = false

resends_plain : (w : World) (c : ℕ) (o : Option ClientAt)
    → Plain (by_client w (λ (a : ClientAt). acted (client_goes w c a client_input.Resends)) o).told
resends_plain w c None = tt
resends_plain w c (Some a) = goes_plain w c a client_input.Resends

module _ (w : World) (chosen : List ℕ) where
  begins_plain : (e : Event) → may_head e ≡ false → Plain (begins w chosen e).told
  unfolding begins resends
  begins_plain (event.Drive d key capacity) other = adds_plain w d key capacity false
  begins_plain (event.Disk d key capacity) other = adds_plain w d key capacity true
  begins_plain (event.File f m tag) other = makes_plain w chosen f (raw_of m) tag false
  begins_plain (event.ZonedFile f m tag) other = makes_plain w chosen f (raw_of m) tag true
  begins_plain (event.Zone d zone) other = gives_plain w chosen (server_input.Zones d zone)
  begins_plain (event.Format format) other = gives_plain w chosen (server_input.Formats format)
  begins_plain (event.Do c x) other = absurd (true≢false other)
  begins_plain (event.Call c x) other = absurd (true≢false other)
  begins_plain (event.Deliver n) other = absurd (true≢false other)
  begins_plain (event.Timeout c k) other = absurd (true≢false other)
  begins_plain (event.Leave c) other = absurd (true≢false other)
  begins_plain (event.Inject d bytes) other = absurd (true≢false other)
  begins_plain (event.Resend (sender.Client c)) other = resends_plain w c (at_number w.clients c)
  begins_plain (event.Resend sender.Server) other = gives_plain w chosen server_input.Resends
  begins_plain (event.Clock (machine.Drive d) time) other = tt
  begins_plain (event.Clock machine.Server time) other = tt
  begins_plain (event.Recall f) other = gives_plain w chosen (server_input.Obeys server_rules.ToRecall f)
  begins_plain (event.Revoke f) other = gives_plain w chosen (server_input.Obeys server_rules.ToRevoke f)
  begins_plain (event.Rebuild f) other = gives_plain w chosen (server_input.Obeys server_rules.ToRebuild f)
  begins_plain (event.Audit f) other = gives_plain w chosen (server_input.Obeys server_rules.ToAudit f)
  begins_plain (event.Declare d) other = gives_plain w chosen (server_input.Obeys server_rules.ToDeclare d)
  begins_plain (event.Crash (machine.Drive d)) other = tt
  begins_plain (event.Crash machine.Server) other = gives_plain (with_down w true) chosen server_input.Crashes
  begins_plain (event.Reopen (machine.Drive d)) other = tt
  begins_plain (event.Reopen machine.Server) other = gives_plain (with_down w false) chosen server_input.Opens
  begins_plain e other = tt

  opens_says : (e : Event) → may_head e ≡ true → Says w chosen (Opens e) (sends_all (begins w chosen e)).lines
  unfolding begins
  opens_says (event.Do c x) special = calls_says w chosen (Opens (event.Do c x)) c (op_of x) (λ a e is. (refl, (e, is, refl)))
  opens_says (event.Call c x) special = calls_says w chosen (Opens (event.Call c x)) c (op_of x) (λ a e is. (refl, (e, is, refl)))
  opens_says (event.Leave c) special = leaves_says w chosen (Opens (event.Leave c)) c (λ a is. (refl, is, refl))
  opens_says (event.Deliver n) special = delivers_says w chosen (Opens (event.Deliver n)) n refl
  opens_says (event.Timeout c k) special = times_out_says w chosen (Opens (event.Timeout c k)) c k (refl, refl)
  opens_says (event.Inject d bytes) special = injects_says w chosen (Opens (event.Inject d bytes)) d bytes refl
  opens_says e special = absurd (true≢false (sym special))

  -- each move
  pub says : (action : Action) → Says w chosen action (sends_all (acts w chosen action)).lines
  says (Opens e) = elim (cases_Bool (may_head e)) [
    | inl special ↦ opens_says e special
    | inr other ↦ PlainLines (told_plain (begins w chosen e) (begins w chosen e).told (begins_plain e other))
  ]
  says (Delivers n) = delivers_says w chosen (Delivers n) n refl
  says (TimesOut c k) = times_out_says w chosen (TimesOut c k) c k (refl, refl)
  says (Pends c) = pends_says w chosen (Pends c) c
