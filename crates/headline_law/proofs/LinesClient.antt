-- Each list of events of a client's move has its line: how its call ended is told, and all that it sends is sent.
use Rattle.std.proofs.Common.{◌≡◌, ◌≤◌, ◌⊎◌, inl, inr, ℕ, ◌+◌, suc, ◌++◌, ◌∷◌, [], List, length, Bool, true, false, Option, Some, None, Result, Ok, Err, is_some, slice_get, refl, sym, ap, subst, ◌∙◌, arith, length-append, if◌then◌else◌}
use Rattle.std.specs.Prelude.{take}
use Rattle.scenario_text.specs.declared.event.Event.TheVariants as event
use Rattle.scenario_text.specs.declared.line.Delivery.TheVariants as delivery
use Rattle.scenario_text.specs.declared.line.Refusal.TheVariants as refusal
use Rattle.scenario_text.specs.declared.line.Line.{Line}
use Rattle.scenario_text.specs.declared.line.Line.TheVariants as line
use Rattle.osd_lists.specs.declared.node.Node.{Node}
use Rattle.osd_lists.specs.declared.node.Node.TheVariants as node
use Rattle.client_rules.specs.Going.{quiet, returns, requests}
use Rattle.client_rules.specs.History as client
use Rattle.client_rules.specs.History.{Input, step}
use Rattle.client_rules.specs.Messages.{Step, Message as ClientMessage, finished, obeys, no_match, on_call}
use Rattle.client_rules.specs.Steps.{calls}
use Rattle.layout_ops.specs.declared.messages.Answer.{Answer}
use Rattle.world_history.specs.ClientNames.{Client, CallOp, CallErr, Call, Outcome, Done, Due, Outgoing}
use Rattle.world_history.specs.declared.messages.Posted.{Posted}
use Rattle.world_history.specs.Handed.{Post, ended_by, op_in, client_hears, client_takes, quiet as nothing_done, handed_to, for_client, client_goes as goes_on, pending_op}
use Rattle.world_history.specs.Moves as world
use Rattle.world_history.specs.Moves.{Act, Action, Opens, Delivers, TimesOut, Pends, acts, marked, told_delivered}
use Rattle.world_history.specs.Names.{is_tellable}
use Rattle.world_history.specs.Told.{told_refusal}
use Rattle.world_history.specs.Plans.{due}
use Rattle.world_history.specs.Sending.{Move, move}
use Rattle.world_history.specs.State.{World, ClientAt, at_number}
use Rattle.world_history.specs.ServerNames.{File}
use Rattle.history_law.specs.BookMoments.{IsMoment, lines_in, plan_at}
use Rattle.history_law.proofs.Turns.{each_turn, each_finish}
use Rattle.exchange_law.specs.Text.{AreOfText}
use Rattle.fence_law.specs.State.{State}
use Rattle.fence_law.specs.Machine.{after_all}
use Rattle.file_simulation.specs.ClientEvents as table
use Rattle.file_simulation.specs.ClientEvents.{Going, going, going_in, hearing, hearing_at, leaving, delivered}
use Rattle.file_simulation.specs.Events.{joined, events_of}
use Rattle.name_law.specs.ClientSends.{ClientsSendToNamed, AreForNamed}
use Rattle.name_law.specs.ClientTells.{OutcomesOfTextAreTold}
use Rattle.relation_law.specs.Frames.{ByClient}
use Rattle.relation_law.proofs.FramesParties.{client_goes}
use Rattle.headline_law.proofs.Lines.{led, led_alone}
use Rattle.headline_law.proofs.LinesServer.{own_line, own_count, lines_count}
use Rattle.headline_law.proofs.EntriesTurn.{posts_long}

-- ---- a step that tells an outcome has a call

-- nothing runs, and no outcome is told
abbrev IsQuietDone : Done → Type 0
IsQuietDone d = (d.outcome ≡ None) × (d.client.call ≡ None)

returned_quiet : (d : Done) (u : Option Due) → IsQuietDone d → IsQuietDone (returns d u)
unfolding requests
returned_quiet d None q = q
returned_quiet d (Some u) q = q

finished_quiet : (d : Done) → IsQuietDone d → (finished d).outcome ≡ None
unfolding finished
finished_quiet d q = (each_finish IsQuietDone (record {
  needs = λ e op n s is out first. absurd (cc (sym s.1 ∙ is));
  begun = λ e op h s is held covered. absurd (cc (sym s.1 ∙ is));
  asks = λ e op n h s is out held. absurd (cc (sym s.1 ∙ is));
  gives_back = λ e u s none out. returned_quiet e u s;
}) d q).0

-- no outcome is told, or there was a call
abbrev IsOfCall : Client → Step → Type 0
IsOfCall c t = (t.outcome ≡ None) ⊎ (is_some c.call ≡ true)

rests : (c : Client) (o : Option Call) → c.call ≡ o → (d : Done) → d.outcome ≡ None → d.client.call ≡ c.call →
    IsOfCall c (finished d)
rests c None is d none same = inl (finished_quiet d (none, same ∙ is))
rests c (Some call) is d none same = inr (ap (λ (o : Option Call). is_some o) is)

answers : (c : Client) (o : Option Call) → c.call ≡ o → (d : Done) (a : Answer) → d.outcome ≡ None → d.client.call ≡ c.call →
    IsOfCall c (finished (on_call d o a))
answers c None is d a none same = rests c None is d none same
answers c (Some call) is d a none same = inr (ap (λ (o : Option Call). is_some o) is)

turn_of_call : (c : Client) (i : Input) → ((op : CallOp) → i ≡ client.Calls op → ⊥) → IsOfCall c (step c i)
turn_of_call c i other = each_turn c i (IsOfCall c) (record {
  rests = inl refl;
  nothing = λ op is nothing. absurd (other op is);
  called = λ op is free can. absurd (other op is);
  answered = λ a is. answers c c.call refl (quiet (record c { outstanding = None })) a refl refl;
  replied = λ drive q call h a is. inr (ap (λ (o : Option Call). is_some o) is.call_is);
  unheld = rests c c.call refl (quiet c) refl refl;
  recalled = λ q is. rests c c.call refl (obeys c q) refl refl;
  unmatched = λ q is. rests c c.call refl (no_match c q) refl refl;
  timed = λ k call h a xs is. inr (ap (λ (o : Option Call). is_some o) is.call_is);
  leaves = λ is. rests c c.call refl _ refl refl;
  resends = λ is. inl refl;
})

-- ---- what a client's move tells

-- behind some lines it tells how the call ended, if it has
abbrev ToldOf : Action → Going → Act → Type 0
ToldOf action g a =
    (front : List Line) × (a.told ≡ front ++ ended_by g.client (op_in g.state g.input) (step g.state g.input).outcome)
    × (led action + 1 ≤ own_line action + length front)

-- if a client goes on
abbrev ToldBy : Action → Option Going → Act → Type 0
ToldBy action None a = Unit {0}
ToldBy action (Some g) a = ToldOf action g a

module _ (w : World) (chosen : List ℕ) (action : Action) where
  called_told : (c : ℕ) (a : ClientAt) (op : CallOp) → led action + 1 ≤ own_line action → (r : Result Step CallErr) →
      calls a.state op ≡ r → ToldBy action (Some (record { client = c; state = a.state; input = client.Calls op }))
      (world.called w c a op r)
  called_told c a op low (Err e) is = (
    line.Refused c (told_refusal e) ∷ [],
    ap (λ (q : Result Step CallErr). line.Refused c (told_refusal e) ∷ ended_by c (Some op)
        (client.unless_refused a.state q).outcome) (sym is),
    omega (arith, low),
  )
  called_told c a op low (Ok s) is = (
    [],
    ap (λ (q : Result Step CallErr). ended_by c (Some op) (client.unless_refused a.state q).outcome) (sym is),
    omega (arith, low),
  )

  calls_told : (c : ℕ) (op : CallOp) → led action + 1 ≤ own_line action →
      ToldBy action (going c (client.Calls op) (at_number w.clients c)) (world.calls_at w c op)
  unfolding world.calls_at
  calls_told c op low = either (at_number w.clients c)
    where
      either : (o : Option ClientAt) → ToldBy action (going c (client.Calls op) o)
          (world.by_client w (λ a. world.called w c a op (calls a.state op)) o)
      either None = tt
      either (Some a) = called_told c a op low (calls a.state op) refl

  times_told : (c j : ℕ) → led action + 1 ≤ own_line action + 1 →
      ToldBy action (going c (client.TimesOut j) (at_number w.clients c)) (world.times_out w c j)
  unfolding world.times_out
  times_told c j low = either (at_number w.clients c)
    where
      either : (o : Option ClientAt) → ToldBy action (going c (client.TimesOut j) o)
          (world.by_client w (λ a. world.behind (line.TimedOut c j) (goes_on w c a (client.TimesOut j))) o)
      either None = tt
      either (Some a) = (line.TimedOut c j ∷ [], refl, omega (arith, low))

  leaves_told : (c : ℕ) → led action + 1 ≤ own_line action →
      ToldBy action (leaving c (at_number w.clients c)) (world.leaves w c)
  unfolding world.leaves
  leaves_told c low = either (at_number w.clients c)
    where
      busy : (a : ClientAt) (b : Bool) → ToldBy action
          (if b then None else Some (record { client = c; state = a.state; input = client.Leaves }))
          (if b then world.tells w (line.Refused c refusal.Busy) else world.acted (goes_on w c a client.Leaves))
      busy a true = tt
      busy a false = ([], refl, omega (arith, low))

      either : (o : Option ClientAt) → ToldBy action (leaving c o)
          (world.by_client w (λ a. if is_some a.state.call then world.tells w (line.Refused c refusal.Busy)
          else world.acted (goes_on w c a client.Leaves)) o)
      either None = tt
      either (Some a) = busy a (is_some a.state.call)

  module _ (n : ℕ) (p : Posted) (low : led action + 1 ≤ own_line action + 1) where
    abbrev v : World
    v = marked w n p

    heard : (c : ℕ) (o : Option ClientAt) → ToldBy action (hearing c p.message.from (for_client p.message) o)
        (told_delivered n (client_hears v c p.message o))
    heard c None = either (for_client p.message)
      where
        either : (o : Option ClientMessage) →
            ToldBy action (hearing c p.message.from o None) (told_delivered n (nothing_done v delivery.Deaf))
        either None = tt
        either (Some x) = tt
    heard c (Some a) = either (for_client p.message)
      where
        either : (o : Option ClientMessage) → ToldBy action (hearing c p.message.from o (Some a))
            (told_delivered n (if a.stopped then nothing_done v delivery.Deaf else client_takes v c a p.message.from o))
        either None = tt
        either (Some x) = by a.stopped
          where
            by : (b : Bool) → ToldBy action
                (if b then None else Some (record { client = c; state = a.state; input = client.Hears p.message.from x }))
                (told_delivered n (if b then nothing_done v delivery.Deaf else client_takes v c a p.message.from (Some x)))
            by true = tt
            by false = (line.Delivered n delivery.Taken ∷ [], refl, omega (arith, low))

    handed_on : (to : Node) → ToldBy action (hearing_at w p.message to) (told_delivered n (handed_to v chosen p.message to))
    handed_on node.Server = tt
    handed_on (node.Drive d) = tt
    handed_on (node.Client c) = heard c (at_number w.clients c)

  comes : (n : ℕ) → led action + 1 ≤ own_line action + 1 → (o : Option Posted) →
      ToldBy action (delivered w o) (world.delivers_found w chosen n o)
  comes n low None = tt
  comes n low (Some p) = handed_on n p low p.message.to

told_by_going : (w : World) (chosen : List ℕ) (action : Action) → ToldBy action (going_in w action) (acts w chosen action)
unfolding led own_line world.begins world.delivers
told_by_going w chosen (Opens (event.Do c x)) = calls_told w chosen (Opens (event.Do c x)) c (world.op_of x) (omega arith)
told_by_going w chosen (Opens (event.Call c x)) = calls_told w chosen (Opens (event.Call c x)) c (world.op_of x) (omega arith)
told_by_going w chosen (Opens (event.Leave c)) = leaves_told w chosen (Opens (event.Leave c)) c (omega arith)
told_by_going w chosen (Opens (event.Timeout c k)) = times_told w chosen (Opens (event.Timeout c k)) c k (omega arith)
told_by_going w chosen (Opens (event.Deliver n)) =
    comes w chosen (Opens (event.Deliver n)) n (omega arith) (slice_get w.network.messages n)
told_by_going w chosen (Opens e) = tt
told_by_going w chosen (Delivers n) = comes w chosen (Delivers n) n (omega arith) (slice_get w.network.messages n)
told_by_going w chosen (TimesOut c k) = times_told w chosen (TimesOut c k) c k (omega arith)
told_by_going w chosen (Pends c) = tt

-- ---- how many lists of events a client's step has

ends_of : Option Outcome → ℕ
ends_of None = 0
ends_of (Some o) = 1

sends_count : (s : State) (file c : ℕ) (x : Client) (os : List Outgoing) → length (table.sends_all s file c x os) ≡ length os
unfolding table.sends_all
sends_count s file c x [] = refl
sends_count s file c x (o ∷ os) = ap suc (sends_count (after_all s (table.sends s file c x o)) file c x os)

end_count : (s : State) (file c : ℕ) (op : Option CallOp) (t : Step) (o : Option Outcome) → t.outcome ≡ o →
    length (table.at_end s file c op t) ≡ ends_of o + length t.sends
unfolding ends_of
end_count s file c op t None is =
    rw is (sends_count s file c t.client t.sends ∙ omega arith)
end_count s file c op t (Some o) is =
    rw is (ap suc (sends_count (after_all s (table.ended s file c op (Some o))) file c t.client t.sends) ∙ omega arith)

turn_count : (s : State) (file c : ℕ) (x : Client) (i : Input) →
    length (table.at_end (after_all s (table.at_first s file c x i)) file c (op_in x i) (step x i)) ≡
    ends_of (step x i).outcome + length (step x i).sends
turn_count s file c x i =
    end_count (after_all s (table.at_first s file c x i)) file c (op_in x i) (step x i) (step x i).outcome refl

client_count : (s : State) (file c : ℕ) (x : Client) (i : Input) →
    length (table.client_goes s file c x i) ≤ 1 + (ends_of (step x i).outcome + length (step x i).sends)
client_count s file c x client.Resends = omega arith
client_count s file c x (client.Calls op) = omega (arith, turn_count s file c x (client.Calls op))
client_count s file c x (client.Hears from m) = omega (arith, turn_count s file c x (client.Hears from m))
client_count s file c x (client.TimesOut k) = omega (arith, turn_count s file c x (client.TimesOut k))
client_count s file c x client.Leaves = omega (arith, turn_count s file c x client.Leaves)

-- ---- an outcome has its line

line_of : (c : ℕ) (op : CallOp) (o : Outcome) → is_tellable o ≡ true → length (ended_by c (Some op) (Some o)) ≡ 1
line_of c op o told = rw told refl

some_pending : (x : Client) (o : Option Call) → x.call ≡ o → is_some o ≡ true → is_some (pending_op x) ≡ true
some_pending x None is some = absurd (cc some)
some_pending x (Some call) is some = rw is refl

some_op : (x : Client) (i : Input) (o : Outcome) → (step x i).outcome ≡ Some o → ((op : CallOp) → i ≡ client.Calls op → ⊥) →
    is_some (pending_op x) ≡ true
some_op x i o is other = elim (turn_of_call x i other) [
  | inl none ↦ absurd (cc (sym none ∙ is))
  | inr some ↦ some_pending x x.call refl some
]

has_op : (x : Client) (i : Input) (o : Outcome) → (step x i).outcome ≡ Some o → is_some (op_in x i) ≡ true
has_op x (client.Calls op) o is = refl
has_op x (client.Hears from m) o is = some_op x (client.Hears from m) o is (λ op e. cc e)
has_op x (client.TimesOut k) o is = some_op x (client.TimesOut k) o is (λ op e. cc e)
has_op x client.Leaves o is = some_op x client.Leaves o is (λ op e. cc e)
has_op x client.Resends o is = some_op x client.Resends o is (λ op e. cc e)

ended_long : (c : ℕ) (op : Option CallOp) (o : Option Outcome) → (is_some o ≡ true → is_some op ≡ true) →
    ((x : Outcome) → o ≡ Some x → is_tellable x ≡ true) → ends_of o ≤ length (ended_by c op o)
unfolding ends_of
ended_long c op None some told = omega arith
ended_long c None (Some o) some told = absurd (cc (some refl))
ended_long c (Some op) (Some o) some told = omega (arith, line_of c op o (told o refl))

-- ---- a move

pub record ClientLineLaws : Type 0 where
  pub told : OutcomesOfTextAreTold
  pub named : ClientsSendToNamed

module _ (laws : ClientLineLaws) (w : World) (h : List Line) (k : IsMoment w h) (text : AreOfText h) (m : Move)
    (is_due : due (plan_at k) w ≡ Some m.action) (g : Going) (goes : going_in w m.action ≡ Some g) where
  by : ByClient w m.action g (acts w m.chosen m.action)
  by = client_goes w h k m is_due g goes

  told : ToldOf m.action g (acts w m.chosen m.action)
  told = subst (λ (o : Option Going). ToldBy m.action o (acts w m.chosen m.action)) goes (told_by_going w m.chosen m.action)

  all_posts : length (acts w m.chosen m.action).posts ≡ length (step g.state g.input).sends
  all_posts =
      let sends = subst (λ (x : Client). AreForNamed g.client (step x g.input).sends) (sym by.state_is)
      (laws.named w h k g.client by.before by.found g.input) in
      ap (λ (ps : List Post). length ps) (by.posts ∙ sends.all by.wrote by.logged)
      ∙ posts_long g.client by.wrote by.logged (step g.state g.input).sends

  ended_there : ends_of (step g.state g.input).outcome ≤
      length (ended_by g.client (op_in g.state g.input) (step g.state g.input).outcome)
  ended_there =
      ended_long g.client (op_in g.state g.input) (step g.state g.input).outcome
      (λ some. of_some (step g.state g.input).outcome refl some)
      (λ o is.
      laws.told w h k text m is_due g.client by.before by.found g.input by.input_is o
      (ap (λ (x : Client). (step x g.input).outcome) (sym by.state_is) ∙ is))
    where
      of_some : (o : Option Outcome) → (step g.state g.input).outcome ≡ o → is_some o ≡ true →
          is_some (op_in g.state g.input) ≡ true
      of_some None is some = absurd (cc some)
      of_some (Some o) is some = has_op g.state g.input o is

  pub client_joined : (s : State) (e : ℕ → ℕ) (f : File) →
      joined (take (length (lines_in w m)) (events_of s w e f m)) ≡ joined (events_of s w e f m)
  client_joined s e f =
      rw goes (led_alone m.action (length (lines_in w m)) (table.client_goes s f.kept.number g.client g.state g.input)
      (omega (
        arith,
        client_count s f.kept.number g.client g.state g.input,
        own_count m.action (move w m).lines,
        lines_count w m,
        all_posts,
        told.2,
        ap (λ (ls : List Line). length ls) told.1
            ∙ length-append told.0 (ended_by g.client (op_in g.state g.input) (step g.state g.input).outcome),
        ended_there,
      )))
