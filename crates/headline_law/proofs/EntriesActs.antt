-- The lines of a move of a client: those of what comes to it, and then those of its turn.
-- Towards `CutsShowEntries` (`specs/Parts.antt`).
use Rattle.std.proofs.Common.{◌≡◌, ℕ, Bool, true, false, List, [], ◌∷◌, ◌++◌, filter, slice_get, Option, Some, None, Result, Ok, Err, is_some, refl, sym, ap, subst, ◌∙◌, if◌then◌else◌}
use Rattle.osd_lists.specs.declared.node.Node.{Node}
use Rattle.osd_lists.specs.declared.node.Node.TheVariants as node
use Rattle.client_rules.specs.History.{Input, Calls, Hears, TimesOut, Leaves, Resends, step, unless_refused}
use Rattle.client_rules.specs.Messages.{Message as ClientMessage, Step as ClientStep}
use Rattle.client_rules.specs.Steps.{calls}
use Rattle.scenario_text.specs.declared.event.Event.{Event}
use Rattle.scenario_text.specs.declared.event.Event.TheVariants as event
use Rattle.scenario_text.specs.declared.line.Delivery.TheVariants as delivery
use Rattle.scenario_text.specs.declared.line.Line.{Line}
use Rattle.scenario_text.specs.declared.line.Line.TheVariants as line
use Rattle.scenario_text.specs.declared.line.Refusal.TheVariants as refusal
use Rattle.world_history.specs.declared.messages.Posted.{Posted}
use Rattle.world_history.specs.ClientNames.{CallOp, CallErr}
use Rattle.world_history.specs.State.{World, ClientAt, at_number}
use Rattle.world_history.specs.Told.{told_refusal}
use Rattle.world_history.specs.Handed.{quiet, is_addressed, client_posts, client_goes, client_takes, client_hears, ended_by, op_in, wrote_in, data_in, for_client, handed_to}
use Rattle.world_history.specs.Moves as world
use Rattle.world_history.specs.Moves.{Act, Action, Opens, Delivers, Pends, told_delivered, marked, acts}
use Rattle.history_law.specs.Moves.{front_of}
use Rattle.file_simulation.specs.ClientEvents.{Going, going, hearing, hearing_at, delivered, leaving, going_in}

-- What a client tells and sends in a move: behind the line of what comes to it, if it has one, stands its turn; or its call was
-- refused.
pub data ActsSo (action : Action) (g : Going) (a : Act) : Type 0 where
  Turns : (g.input ≡ Resends → ⊥) → ((op : CallOp) → g.input ≡ Calls op → (d : ClientStep) × (calls g.state op ≡ Ok d)) →
      (wrote : Bool) (logged : ℕ) →
      a.told ≡ front_of action delivery.Taken ++ ended_by g.client (op_in g.state g.input) (step g.state g.input).outcome →
      a.posts ≡ filter is_addressed (client_posts g.client wrote logged (step g.state g.input).sends) → ActsSo action g a
  Refuses : (op : CallOp) (e : CallErr) → g.input ≡ Calls op → calls g.state op ≡ Err e → front_of action delivery.Taken ≡ [] →
      a.told ≡ line.Refused g.client (told_refusal e) ∷ [] → a.posts ≡ [] → ActsSo action g a

-- so it is of the client that goes on, if one does
abbrev SoIf : Action → Option Going → Act → Type 0
SoIf action None a = Unit {0}
SoIf action (Some g) a = ActsSo action g a

module _ (w : World) (chosen : List ℕ) (action : Action) where
  -- a client takes a step
  takes : (v : World) (c : ℕ) (a : ClientAt) (i : Input) → (i ≡ Resends → ⊥) → ((op : CallOp) → i ≡ Calls op → ⊥) →
      (front : List Line) →
      front_of action delivery.Taken ≡ front → (h : Act) → h.told ≡ front ++ (client_goes v c a i).told →
      h.posts ≡ (client_goes v c a i).posts → ActsSo action (record { client = c; state = a.state; input = i }) h
  takes v c a i other plain front is h told posts =
      Turns other (λ op called. absurd (plain op called)) (wrote_in a i) (data_in (op_in a.state i))
      (told ∙ ap (λ (l : List Line). l ++ ended_by c (op_in a.state i) (step a.state i).outcome) (sym is)) posts

  called : front_of action delivery.Taken ≡ [] → (c : ℕ) (a : ClientAt) (op : CallOp) (r : Result ClientStep CallErr) →
      calls a.state op ≡ r →
      ActsSo action (record { client = c; state = a.state; input = Calls op }) (world.called w c a op r)
  called none c a op (Err e) is = Refuses op e refl is none refl refl
  called none c a op (Ok s) is =
      Turns (λ e. cc e)
      (λ o called. (s, subst (λ (p : CallOp). calls a.state p ≡ Ok s) (same_call op o called) is)) (wrote_in a (Calls op))
      (data_in (Some op))
      (ap (λ (r : Result ClientStep CallErr). ended_by c (Some op) (unless_refused a.state r).outcome) (sym is)
      ∙ ap (λ (l : List Line). l ++ ended_by c (Some op) (step a.state (Calls op)).outcome) (sym none))
      (ap (λ (r : Result ClientStep CallErr). filter is_addressed
      (client_posts c (wrote_in a (Calls op)) (data_in (Some op)) (unless_refused a.state r).sends)) (sym is))
    where
      same_call : (p q : CallOp) → Calls p ≡ Calls q → p ≡ q
      same_call p q e = cc e

  calls_at : front_of action delivery.Taken ≡ [] → (c : ℕ) (op : CallOp) →
      SoIf action (going c (Calls op) (at_number w.clients c)) (world.calls_at w c op)
  unfolding world.calls_at
  calls_at none c op = either (at_number w.clients c)
    where
      either : (o : Option ClientAt) → SoIf action (going c (Calls op) o)
          (world.by_client w (λ a. world.called w c a op (calls a.state op)) o)
      either None = tt
      either (Some a) = called none c a op (calls a.state op) refl

  times_out : (c j : ℕ) → front_of action delivery.Taken ≡ line.TimedOut c j ∷ [] →
      SoIf action (going c (TimesOut j) (at_number w.clients c)) (world.times_out w c j)
  unfolding world.times_out
  times_out c j front = either (at_number w.clients c)
    where
      either : (o : Option ClientAt) → SoIf action (going c (TimesOut j) o)
          (world.by_client w (λ a. world.behind (line.TimedOut c j) (client_goes w c a (TimesOut j))) o)
      either None = tt
      either (Some a) = takes w c a (TimesOut j) (λ e. cc e) (λ op e. cc e) (line.TimedOut c j ∷ []) front _ refl refl

  leaves : (c : ℕ) → front_of action delivery.Taken ≡ [] →
      SoIf action (leaving c (at_number w.clients c)) (world.leaves w c)
  unfolding world.leaves
  leaves c front = either (at_number w.clients c)
    where
      busy : (a : ClientAt) (b : Bool) → SoIf action
          (if b then None else Some (record { client = c; state = a.state; input = Leaves }))
          (if b then world.tells w (line.Refused c refusal.Busy) else world.acted (client_goes w c a Leaves))
      busy a true = tt
      busy a false = takes w c a Leaves (λ e. cc e) (λ op e. cc e) [] front _ refl refl

      either : (o : Option ClientAt) → SoIf action (leaving c o)
          (world.by_client w (λ a. if is_some a.state.call then world.tells w (line.Refused c refusal.Busy)
          else world.acted (client_goes w c a Leaves)) o)
      either None = tt
      either (Some a) = busy a (is_some a.state.call)

  -- ---- a message comes

  module _ (n : ℕ) (p : Posted) (front : front_of action delivery.Taken ≡ line.Delivered n delivery.Taken ∷ []) where
    abbrev v : World
    v = marked w n p

    awake : (c : ℕ) (a : ClientAt) (m : ClientMessage) (b : Bool) → SoIf action
        (if b then None else Some (record { client = c; state = a.state; input = Hears p.message.from m }))
        (told_delivered n (if b then quiet v delivery.Deaf else client_takes v c a p.message.from (Some m)))
    awake c a m true = tt
    awake c a m false =
        takes v c a (Hears p.message.from m) (λ e. cc e) (λ op e. cc e) (line.Delivered n delivery.Taken ∷ []) front _ refl refl

    found_client : (c : ℕ) (a : ClientAt) (o : Option ClientMessage) →
        SoIf action (hearing c p.message.from o (Some a))
        (told_delivered n (if a.stopped then quiet v delivery.Deaf else client_takes v c a p.message.from o))
    found_client c a None = tt
    found_client c a (Some m) = awake c a m a.stopped

    no_client : (c : ℕ) (o : Option ClientMessage) →
        SoIf action (hearing c p.message.from o None) (told_delivered n (quiet v delivery.Deaf))
    no_client c None = tt
    no_client c (Some m) = tt

    client_heard : (c : ℕ) (o : Option ClientAt) →
        SoIf action (hearing c p.message.from (for_client p.message) o) (told_delivered n (client_hears v c p.message o))
    client_heard c None = no_client c (for_client p.message)
    client_heard c (Some a) = found_client c a (for_client p.message)

    handed_on : (to : Node) → SoIf action (hearing_at w p.message to) (told_delivered n (handed_to v chosen p.message to))
    handed_on node.Server = tt
    handed_on (node.Drive d) = tt
    handed_on (node.Client c) = client_heard c (at_number w.clients c)

  comes : (n : ℕ) → front_of action delivery.Taken ≡ line.Delivered n delivery.Taken ∷ [] → (o : Option Posted) →
      SoIf action (delivered w o) (world.delivers_found w chosen n o)
  comes n front None = tt
  comes n front (Some p) = handed_on n p front p.message.to

begun : (w : World) (chosen : List ℕ) (e : Event) → SoIf (Opens e) (going_in w (Opens e)) (acts w chosen (Opens e))
unfolding world.begins world.delivers
begun w chosen (event.Do c x) = calls_at w chosen (Opens (event.Do c x)) refl c (world.op_of x)
begun w chosen (event.Call c x) = calls_at w chosen (Opens (event.Call c x)) refl c (world.op_of x)
begun w chosen (event.Deliver n) = comes w chosen (Opens (event.Deliver n)) n refl (slice_get w.network.messages n)
begun w chosen (event.Timeout c k) = times_out w chosen (Opens (event.Timeout c k)) c k refl
begun w chosen (event.Leave c) = leaves w chosen (Opens (event.Leave c)) c refl
begun w chosen e = tt

each : (w : World) (chosen : List ℕ) (action : Action) → SoIf action (going_in w action) (acts w chosen action)
unfolding world.delivers
each w chosen (Opens e) = begun w chosen e
each w chosen (Delivers n) = comes w chosen (Delivers n) n refl (slice_get w.network.messages n)
each w chosen (world.TimesOut c k) = times_out w chosen (world.TimesOut c k) c k refl
each w chosen (Pends c) = tt

-- So it is of each client that goes on.
pub acts_so : (w : World) (chosen : List ℕ) (action : Action) (g : Going) → going_in w action ≡ Some g →
    ActsSo action g (acts w chosen action)
acts_so w chosen action g is = subst (λ (o : Option Going). SoIf action o (acts w chosen action)) is (each w chosen action)

-- No client that goes on sends its messages again.
pub never_resends : (w : World) (chosen : List ℕ) (action : Action) (g : Going) → going_in w action ≡ Some g →
    g.input ≡ Resends → ⊥
never_resends w chosen action g goes e = of (acts_so w chosen action g goes)
  where
    of : ActsSo action g (acts w chosen action) → ⊥
    of (Turns other taken wrote logged told posts) = other e
    of (Refuses op err is refuses front told posts) = cc (sym is ∙ e)
