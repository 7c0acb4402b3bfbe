-- A whole move of a client, up to any line of it.
-- Towards `CutsShowEntries` (`specs/Parts.antt`).
use Rattle.std.proofs.Common.{◌≡◌, ◌≤◌, ℕ, zero, suc, Bool, true, false, List, [], ◌∷◌, ◌++◌, length, take, slice_get, Option, Some, None, refl, sym, ap, subst, ◌∙◌, arith, if◌then◌else◌}
use Rattle.std.specs.List.{fold}
use Rattle.std.specs.Prelude.{is_some}
use Rattle.osd_lists.specs.declared.node.Node.{Node}
use Rattle.osd_lists.specs.declared.node.Node.TheVariants as node
use Rattle.client_rules.specs.Messages.{Message as ClientMessage}
use Rattle.scenario_text.specs.declared.event.Event.{Event as Told}
use Rattle.scenario_text.specs.declared.event.Event.TheVariants as scenario
use Rattle.scenario_text.specs.declared.event.Call.{Call as ToldCall}
use Rattle.scenario_text.specs.declared.line.Delivery.TheVariants as delivery
use Rattle.scenario_text.specs.declared.line.Line.{Line}
use Rattle.scenario_text.specs.declared.line.Line.TheVariants as line
use Rattle.client_rules.specs.History.{Input, Calls, Hears, TimesOut, Leaves}
use Rattle.world_history.specs.declared.messages.Message.{Message}
use Rattle.world_history.specs.declared.messages.Posted.{Posted}
use Rattle.world_history.specs.ClientNames.{Client, CallOp}
use Rattle.world_history.specs.Handed.{for_client}
use Rattle.world_history.specs.Moves.{Action, Opens, Delivers, Pends, op_of}
use Rattle.world_history.specs.Moves as moves
use Rattle.world_history.specs.ReadLog.{Log, log_after, called}
use Rattle.world_history.specs.State.{World, ClientAt, at_number}
use Rattle.history_law.specs.Moments.{with_event}
use Rattle.history_law.specs.Moves.{front_of}
use Rattle.history_law.specs.Read.{leads}
use Rattle.fence_law.specs.Machine.{after_all}
use Rattle.fence_law.specs.State.{State, Event}
use Rattle.file_simulation.specs.ClientEvents as table
use Rattle.file_simulation.specs.ClientEvents.{Going, going_in}
use Rattle.file_simulation.specs.EventLists.{Lines}
use Rattle.file_simulation.specs.Events.{joined, led_by}
use Rattle.file_simulation.specs.Showing.{Pairs}
use Rattle.relation_law.proofs.KeptNotes.{after_both}
use Rattle.headline_law.proofs.EntriesCalls.{Stands}
use Rattle.headline_law.proofs.EntriesTurns.{Reaches, stays_so, EndTied}

-- ---- the first lines

-- What the log makes of the line of what comes to client c: a call begins, or nothing.
pub data HeadIs (c : ℕ) (i : Input) (y : Line) : Type 0 where
  Calling : (x : ToldCall) → i ≡ Calls (op_of x) → ((l : Log) → log_after l y ≡ called l c x) → HeadIs c i y
  Nothing : ((op : CallOp) → i ≡ Calls op → ⊥) → ((l : Log) → log_after l y ≡ l) → HeadIs c i y

-- the lines of a move and its events: a line of an event may stand before that of what comes of it
pub data Shaped (c : ℕ) (i : Input) (rest : List Line) (es : List Event) (ends : Lines) (lines : List Line) (events : Lines)
    : Type 0 where
  OneLine : (y : Line) → HeadIs c i y → lines ≡ y ∷ rest → events ≡ es ∷ ends → Shaped c i rest es ends lines events
  TwoLines : (y z : Line) → ((l : Log) → log_after l y ≡ l) → HeadIs c i z → lines ≡ y ∷ (z ∷ rest) →
      events ≡ [] ∷ (es ∷ ends) → Shaped c i rest es ends lines events

-- what comes to the client by its action
going_is : (c : ℕ) (i : Input) (o : Option ClientAt) (g : Going) → table.going c i o ≡ Some g → (g.client ≡ c) × (g.input ≡ i)
going_is c i None g e = absurd (cc e)
going_is c i (Some a) g e =
    let it : record { client = c; state = a.state; input = i } ≡ g = cc e in
    (sym (ap (λ (x : Going). x.client) it), sym (ap (λ (x : Going). x.input) it))

-- it isn't a call
abbrev IsNoCall : Input → Type 0
IsNoCall i = (op : CallOp) → i ≡ Calls op → ⊥

leaving_is : (c : ℕ) (o : Option ClientAt) (g : Going) → table.leaving c o ≡ Some g → IsNoCall g.input
leaving_is c None g e = absurd (cc e)
leaving_is c (Some a) g e = busy (is_some a.state.call) e
  where
    busy : (b : Bool) → (if b then None else Some (record { client = c; state = a.state; input = Leaves })) ≡ Some g →
        IsNoCall g.input
    busy true e op is = cc e
    busy false e op is =
        let it : record { client = c; state = a.state; input = Leaves } ≡ g = cc e in
        let both : Leaves ≡ Calls op = ap (λ (x : Going). x.input) it ∙ is in cc both

heard_is : (c : ℕ) (from : Node) (m : Option ClientMessage) (o : Option ClientAt) (g : Going) →
    table.hearing c from m o ≡ Some g → IsNoCall g.input
heard_is c from None None g e = absurd (cc e)
heard_is c from None (Some a) g e = absurd (cc e)
heard_is c from (Some m) None g e = absurd (cc e)
heard_is c from (Some m) (Some a) g e = awake a.stopped e
  where
    awake : (b : Bool) → (if b then None else Some (record { client = c; state = a.state; input = Hears from m })) ≡ Some g →
        IsNoCall g.input
    awake true e op is = cc e
    awake false e op is =
        let it : record { client = c; state = a.state; input = Hears from m } ≡ g = cc e in
        let both : Hears from m ≡ Calls op = ap (λ (x : Going). x.input) it ∙ is in cc both

heard_at_is : (w : World) (m : Message) (to : Node) (g : Going) → table.hearing_at w m to ≡ Some g → IsNoCall g.input
heard_at_is w m node.Server g e = absurd (cc e)
heard_at_is w m (node.Drive d) g e = absurd (cc e)
heard_at_is w m (node.Client c) g e = heard_is c m.from (for_client m) (at_number w.clients c) g e

delivered_is : (w : World) (o : Option Posted) (g : Going) → table.delivered w o ≡ Some g → IsNoCall g.input
delivered_is w None g e = absurd (cc e)
delivered_is w (Some p) g e = heard_at_is w p.message p.message.to g e

times_is : (c k : ℕ) (o : Option ClientAt) (g : Going) → table.going c (TimesOut k) o ≡ Some g → IsNoCall g.input
times_is c k o g e op is =
    let both : TimesOut k ≡ Calls op = sym (going_is c (TimesOut k) o g e).1 ∙ is in cc both

module _ (w : World) (g : Going) (rest : List Line) (es : List Event) (ends : Lines) where
  abbrev ShapedBy : Action → Type 0
  ShapedBy a = Shaped g.client g.input rest es ends (with_event a (front_of a delivery.Taken ++ rest)) (led_by a (es ∷ ends))

  calling : (c : ℕ) (x : ToldCall) (e : Told) → table.going c (Calls (op_of x)) (at_number w.clients c) ≡ Some g →
      ((l : Log) → log_after l (line.Event e) ≡ called l c x) → front_of (Opens e) delivery.Taken ≡ [] → leads e ≡ false →
      ShapedBy (Opens e)
  calling c x e goes logs front lead =
      let is = going_is c (Calls (op_of x)) (at_number w.clients c) g goes in
      OneLine (line.Event e)
      (Calling x is.1 (λ l. logs l ∙ ap (λ (n : ℕ). called l n x) (sym is.0)))
      (ap (λ (ls : List Line). line.Event e ∷ (ls ++ rest)) front)
      (ap (λ (b : Bool). if b then [] ∷ (es ∷ ends) else es ∷ ends) lead)

  opened : (e : Told) → table.opened w e ≡ Some g → ShapedBy (Opens e)
  opened (scenario.Do c x) goes = calling c x (scenario.Do c x) goes (λ l. refl) refl refl
  opened (scenario.Call c x) goes = calling c x (scenario.Call c x) goes (λ l. refl) refl refl
  opened (scenario.Leave c) goes =
      OneLine (line.Event (scenario.Leave c)) (Nothing (leaving_is c (at_number w.clients c) g goes) (λ l. refl)) refl refl
  opened (scenario.Timeout c k) goes =
      TwoLines (line.Event (scenario.Timeout c k)) (line.TimedOut c k) (λ l. refl)
      (Nothing (times_is c k (at_number w.clients c) g goes) (λ l. refl)) refl refl
  opened (scenario.Deliver n) goes =
      TwoLines (line.Event (scenario.Deliver n)) (line.Delivered n delivery.Taken) (λ l. refl)
      (Nothing (delivered_is w (slice_get w.network.messages n) g goes) (λ l. refl)) refl refl
  opened e goes = absurd (cc goes)

  pub shaped : (a : Action) → going_in w a ≡ Some g → ShapedBy a
  shaped (Opens e) goes = opened e goes
  shaped (Delivers n) goes =
      OneLine (line.Delivered n delivery.Taken)
      (Nothing (delivered_is w (slice_get w.network.messages n) g goes) (λ l. refl)) refl refl
  shaped (moves.TimesOut c k) goes =
      OneLine (line.TimedOut c k) (Nothing (times_is c k (at_number w.clients c) g goes) (λ l. refl)) refl refl
  shaped (Pends c) goes = absurd (cc goes)

-- ---- up to a line

module _ (file : ℕ) (s : State) (pairs : Pairs) (x : Client) (c : ℕ) where
  -- what these events and lines reach
  abbrev pub CutReach : Log → Lines → List Line → (n : ℕ) → Type 0
  CutReach l events lines n =
      (r : Reaches file (after_all s (joined (take n events))) (fold log_after l (take n lines)) pairs)
      × (length lines ≤ n → EndTied file c (after_all s (joined (take n events))) (fold log_after l (take n lines)) r.pairs x)

  -- behind the first line
  abbrev pub RestSo : Log → List Event → Lines → List Line → (n : ℕ) → Type 0
  RestSo m es ends rest n =
      (r : Reaches file (after_all (after_all s es) (joined (take n ends))) (fold log_after m (take n rest)) pairs)
      × (length rest ≤ n →
      EndTied file c (after_all (after_all s es) (joined (take n ends))) (fold log_after m (take n rest)) r.pairs x)

  one_line : (l m : Log) (es : List Event) (ends : Lines) (y : Line) (rest : List Line) → Stands file s l pairs →
      log_after l y ≡ m → ((n : ℕ) → RestSo m es ends rest n) → (n : ℕ) → CutReach l (es ∷ ends) (y ∷ rest) n
  one_line l m es ends y rest k is later zero = (stays_so file s l pairs k, λ full. absurd (omega (arith, full)))
  one_line l m es ends y rest k is later (suc n) =
      let r = later n in
      subst
      (λ (v : State). (r : Reaches file v (fold log_after (log_after l y) (take n rest)) pairs)
      × (length (y ∷ rest) ≤ suc n → EndTied file c v (fold log_after (log_after l y) (take n rest)) r.pairs x))
      (sym (after_both s es (joined (take n ends))))
      (subst
      (λ (q : Log). (r : Reaches file (after_all (after_all s es) (joined (take n ends))) (fold log_after q (take n rest)) pairs)
      × (length (y ∷ rest) ≤ suc n →
      EndTied file c (after_all (after_all s es) (joined (take n ends))) (fold log_after q (take n rest)) r.pairs x)) (sym is)
      (r.0, λ full. r.1 (omega (arith, full))))

  two_lines : (l m : Log) (es : List Event) (ends : Lines) (y z : Line) (rest : List Line) → Stands file s l pairs →
      log_after l y ≡ l → log_after l z ≡ m → ((n : ℕ) → RestSo m es ends rest n) → (n : ℕ) →
      CutReach l ([] ∷ (es ∷ ends)) (y ∷ (z ∷ rest)) n
  two_lines l m es ends y z rest k first is later zero = (stays_so file s l pairs k, λ full. absurd (omega (arith, full)))
  two_lines l m es ends y z rest k first is later (suc n) =
      let r = one_line l m es ends z rest k is later n in
      subst
      (λ (q : Log). (r : Reaches file (after_all s (joined (take n (es ∷ ends)))) (fold log_after q (take n (z ∷ rest))) pairs)
      × (length (y ∷ (z ∷ rest)) ≤ suc n →
      EndTied file c (after_all s (joined (take n (es ∷ ends)))) (fold log_after q (take n (z ∷ rest))) r.pairs x)) (sym first)
      (r.0, λ full. r.1 (omega (arith, full)))

  -- of any such move
  pub shaped_reaches : (i : Input) (l m : Log) (rest : List Line) (es : List Event) (ends : Lines) (lines : List Line)
      (events : Lines) → Shaped c i rest es ends lines events → Stands file s l pairs →
      ((y : Line) → HeadIs c i y → log_after l y ≡ m) → ((n : ℕ) → RestSo m es ends rest n) → (n : ℕ) →
      CutReach l events lines n
  shaped_reaches i l m rest es ends lines events (OneLine y h lines_are events_are) k head later n =
      subst (λ (ls : List Line). CutReach l events ls n) (sym lines_are)
      (subst (λ (ev : Lines). CutReach l ev (y ∷ rest) n) (sym events_are)
      (one_line l m es ends y rest k (head y h) later n))
  shaped_reaches i l m rest es ends lines events (TwoLines y z first h lines_are events_are) k head later n =
      subst (λ (ls : List Line). CutReach l events ls n) (sym lines_are)
      (subst (λ (ev : Lines). CutReach l ev (y ∷ (z ∷ rest)) n) (sym events_are)
      (two_lines l m es ends y z rest k (first l) (head z h) later n))
