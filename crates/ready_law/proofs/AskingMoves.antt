-- A move in which a client takes a step: a message that it reads comes to it, or a call that it takes.
use Rattle.std.proofs.Common.{◌≡◌, ◌⊎◌, ◌+◌, ℕ, Bool, true, false, List, [], ◌∷◌, ◌++◌, length, slice_get, Option, Some, None, Ok, refl, ap, ◌∙◌, inl, inr, if◌then◌else◌}
use Rattle.std.specs.List.{list_any}
use Rattle.osd_lists.specs.declared.node.Node.{Node}
use Rattle.osd_lists.specs.declared.node.Node.TheVariants as node
use Rattle.scenario_text.specs.declared.event.Call.{Call as EventCall}
use Rattle.scenario_text.specs.declared.event.Event.TheVariants as event
use Rattle.scenario_text.specs.declared.line.Delivery.{Delivery}
use Rattle.scenario_text.specs.declared.line.Delivery.TheVariants as delivery
use Rattle.scenario_text.specs.declared.line.Line.{Line}
use Rattle.scenario_text.specs.declared.line.Line.TheVariants as line
use Rattle.client_rules.specs.History.{Input as ClientInput, Calls, Hears, step}
use Rattle.client_rules.specs.Messages.{Message as ClientMessage, Step as ClientStep}
use Rattle.client_rules.specs.Steps.{calls}
use Rattle.world_history.specs.declared.messages.Message.{Message}
use Rattle.world_history.specs.declared.messages.Posted.{Posted}
use Rattle.world_history.specs.State.{World, ClientAt, at_number}
use Rattle.world_history.specs.Handed.{Handed, Post, quiet, client_did, client_takes, client_hears, for_client, handed_to, op_in, pending_op}
use Rattle.world_history.specs.Moves.{Act, Action, Opens, Delivers, acts, marked, told_delivered, by_client, called, acted, calls_at, op_of, begins}
use Rattle.world_history.specs.Sending.{Move, move, sent_lines}
use Rattle.history_law.specs.BookMoments.{with_event, lines_in}
use Rattle.history_law.specs.Said.{with_marks}
use Rattle.exchange_law.proofs.Each.{put_same, put_other}
use Rattle.cause_law.proofs.Frames.{delivered_act}
use Rattle.ready_law.specs.Answered.{ends_call}
use Rattle.ready_law.proofs.AskingForms.{Steps}

-- ---- lines

pub sent_ends_none : (d n : ℕ) (ps : List Post) → list_any (ends_call d) (sent_lines n ps) ≡ false
unfolding sent_lines
sent_ends_none d n [] = refl
sent_ends_none d n (p ∷ ps) = sent_ends_none d (n + 1) ps

delivers_event : (m : Move) (number : ℕ) → m.action ≡ Delivers number → (ls : List Line) → with_event m.action ls ≡ ls
delivers_event m number action ls = ap (λ (a : Action). with_event a ls) action

-- ---- the step

module _ (w : World) (m : Move) (c : ℕ) (before : ClientAt) (found : at_number w.clients c ≡ Some before)
    (i : ClientInput) (t : ClientStep) (ms : List Posted) (l : Line) (told : List Line) where
  abbrev its : Handed
  its = client_did (with_marks w ms) c before i t

  abbrev act : Act
  act = record { world = its.world; told = told; posts = its.posts }

  pub steps_so : ((d : ℕ) → list_any (ends_call d) (l ∷ []) ≡ false) → acts w m.chosen m.action ≡ act
      → with_event m.action (told ++ sent_lines (length its.world.network.messages) its.posts)
      ≡ l ∷ (its.told ++ sent_lines (length its.world.network.messages) its.posts)
      → Steps w m c before (op_in before.state i) t
  steps_so silent is lines = record {
    after = _;
    there = ap (λ (a : Act). at_number a.world.clients c) is ∙ put_same w.clients c before _ found;
    state = refl;
    stopped = refl;
    others = λ d other. ap (λ (a : Act). at_number a.world.clients d) is ∙ put_other w.clients c d _ other;
    server = ap (λ (a : Act). a.world.server) is;
    drives = ap (λ (a : Act). a.world.drives) is;
    clock = ap (λ (a : Act). a.world.clock) is;
    down = ap (λ (a : Act). a.world.down) is;
    wrote = _;
    logged = _;
    posts = ap (λ (a : Act). a.posts) is;
    front = l ∷ [];
    back = sent_lines (length its.world.network.messages) its.posts;
    lines =
        ap (λ (a : Act). with_event m.action (a.told ++ sent_lines (length a.world.network.messages) a.posts)) is ∙ lines;
    no_front = silent;
    no_back = λ d. sent_ends_none d (length its.world.network.messages) its.posts;
  }

-- a message that the client reads is delivered to it
pub delivered_steps : (w : World) (m : Move) (number c : ℕ) (p : Posted) (y : Message) (before : ClientAt)
    (x : ClientMessage) → m.action ≡ Delivers number → slice_get w.network.messages number ≡ Some p → p.message ≡ y
    → y.to ≡ node.Client c → at_number w.clients c ≡ Some before → before.stopped ≡ false → for_client y ≡ Some x
    → Steps w m c before (pending_op before.state) (step before.state (Hears y.from x))
delivered_steps w m number c p y before x action found same to there alive read =
    let v : World = marked w number p in
    let is : acts w m.chosen m.action
    ≡ told_delivered number (client_did v c before (Hears y.from x) (step before.state (Hears y.from x))) =
    ap (acts w m.chosen) action ∙ delivered_act w m.chosen number p found
    ∙ ap (λ (z : Message). told_delivered number (handed_to v m.chosen z z.to)) same
    ∙ ap (λ (n : Node). told_delivered number (handed_to v m.chosen y n)) to
    ∙ ap (λ (o : Option ClientAt). told_delivered number (client_hears v c y o)) there
    ∙ ap (λ (b : Bool). told_delivered number (if b then quiet v delivery.Deaf
    else client_takes v c before y.from (for_client y))) alive
    ∙ ap (λ (o : Option ClientMessage). told_delivered number (client_takes v c before y.from o)) read in
    steps_so w m c before there (Hears y.from x) (step before.state (Hears y.from x)) v.network.messages
    (line.Delivered number delivery.Taken) _ (λ d. refl) is (delivers_event m number action _)

-- a message in which the client reads nothing changes nothing
pub record IsUnread (w : World) (m : Move) : Type 0 where
  pub clients : (move w m).world.clients ≡ w.clients
  pub server : (move w m).world.server ≡ w.server
  pub drives : (move w m).world.drives ≡ w.drives
  pub clock : (move w m).world.clock ≡ w.clock
  pub down : (move w m).world.down ≡ w.down
  pub posts : (acts w m.chosen m.action).posts ≡ []
  pub lines : (d : ℕ) → list_any (ends_call d) (lines_in w m) ≡ false

pub delivered_unread : (w : World) (m : Move) (number c : ℕ) (p : Posted) (y : Message) (before : ClientAt)
    → m.action ≡ Delivers number → slice_get w.network.messages number ≡ Some p → p.message ≡ y → y.to ≡ node.Client c
    → at_number w.clients c ≡ Some before → (before.stopped ≡ true) ⊎ ((before.stopped ≡ false) × (for_client y ≡ None))
    → IsUnread w m
unfolding sent_lines
delivered_unread w m number c p y before action found same to there why = elim why [
  | inl dead ↦
      so delivery.Deaf
      (to_it ∙ ap (λ (b : Bool). told_delivered number (if b then quiet v delivery.Deaf
      else client_takes v c before y.from (for_client y))) dead)
  | inr none ↦
      so delivery.Taken
      (to_it ∙ ap (λ (b : Bool). told_delivered number (if b then quiet v delivery.Deaf
      else client_takes v c before y.from (for_client y))) none.0
      ∙ ap (λ (o : Option ClientMessage). told_delivered number (client_takes v c before y.from o)) none.1)
]
  where
    v : World
    v = marked w number p

    to_it : acts w m.chosen m.action ≡ told_delivered number (client_hears (marked w number p) c y (Some before))
    to_it =
        ap (acts w m.chosen) action ∙ delivered_act w m.chosen number p found
        ∙ ap (λ (z : Message). told_delivered number (handed_to v m.chosen z z.to)) same
        ∙ ap (λ (n : Node). told_delivered number (handed_to v m.chosen y n)) to
        ∙ ap (λ (o : Option ClientAt). told_delivered number (client_hears v c y o)) there

    so : (r : Delivery) → acts w m.chosen m.action ≡ told_delivered number (quiet (marked w number p) r) → IsUnread w m
    so r is = record {
      clients = ap (λ (a : Act). a.world.clients) is;
      server = ap (λ (a : Act). a.world.server) is;
      drives = ap (λ (a : Act). a.world.drives) is;
      clock = ap (λ (a : Act). a.world.clock) is;
      down = ap (λ (a : Act). a.world.down) is;
      posts = ap (λ (a : Act). a.posts) is;
      lines =
          λ k. ap (λ (ls : List Line). list_any (ends_call k) ls)
          (ap (λ (a : Act). with_event m.action (a.told ++ sent_lines (length a.world.network.messages) a.posts)) is
          ∙ ap (λ (x : Action). with_event x (line.Delivered number r ∷ [])) action);
    }

opens_event : (m : Move) (c : ℕ) (its : EventCall) → m.action ≡ Opens (event.Do c its) → (ls : List Line)
    → with_event m.action ls ≡ line.Event (event.Do c its) ∷ ls
opens_event m c its action ls = ap (λ (a : Action). with_event a ls) action

-- the client takes a call
pub called_steps : (w : World) (m : Move) (c : ℕ) (its : EventCall) (before : ClientAt) (t : ClientStep)
    → m.action ≡ Opens (event.Do c its) → at_number w.clients c ≡ Some before → calls before.state (op_of its) ≡ Ok t
    → Steps w m c before (Some (op_of its)) t
unfolding begins calls_at
called_steps w m c its before t action there takes =
    let is : acts w m.chosen m.action ≡ acted (client_did w c before (Calls (op_of its)) t) =
    ap (acts w m.chosen) action
    ∙ ap (by_client w (λ a. called w c a (op_of its) (calls a.state (op_of its)))) there
    ∙ ap (called w c before (op_of its)) takes in
    steps_so w m c before there (Calls (op_of its)) t w.network.messages (line.Event (event.Do c its)) _ (λ d. refl) is
    (opens_event m c its action _)
