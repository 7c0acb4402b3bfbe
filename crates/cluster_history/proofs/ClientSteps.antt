-- The steps of clients.
use Rattle.std.proofs.Common.{◌≡◌, ℕ, Bool, true, false, cond, List, [], ◌∷◌, ◌++◌, Option, Some, None, Result, Ok, Err, map, refl, sym, ap, subst, ◌∙◌}
use Rattle.std.specs.Prelude.{slice_get, slice_set, not, ◌||◌, ◌&&◌, filter, is_some, if◌then◌else◌}
use Rattle.osd_lists.specs.declared.node.Node.{Node}
use Rattle.osd_lists.specs.declared.node.Node.TheVariants as node
use Rattle.client_rules.specs.Messages.{Step as ClientStep, Message as ClientMessage}
use Rattle.client_rules.specs.Steps.{calls, new_client}
use Rattle.client_rules.specs.Envelopes.{receiver}
use Rattle.client_rules.specs.History as client_input
use Rattle.scenario_text.specs.declared.event.Event.{Event}
use Rattle.scenario_text.specs.declared.event.Event.TheVariants as event
use Rattle.scenario_text.specs.declared.event.Sender.TheVariants as sender
use Rattle.scenario_text.specs.declared.line.Delivery.TheVariants as delivery
use Rattle.scenario_text.specs.declared.line.Line.{Line}
use Rattle.scenario_text.specs.declared.line.Line.TheVariants as line
use Rattle.world_history.specs.ClientNames.{Call, CallOp, CallErr, Write, Read, Outgoing}
use Rattle.world_history.specs.declared.messages.Message.{Message}
use Rattle.world_history.specs.declared.messages.Posted.{Posted}
use Rattle.world_history.specs.State.{World, ClientAt, at_number, with_number, with_client}
use Rattle.world_history.specs.Names.{is_named}
use Rattle.world_history.specs.Handed.{Handed, Post, is_addressed, is_write_out, client_post, client_posts, client_did, client_goes, client_takes, for_client, wrote_in, op_in, data_in}
use Rattle.world_history.specs.Moves as world
use Rattle.world_history.specs.Moves.{Act, acted, behind, changed, begins, delivers, calls_at, times_out, leaves, resends, marked, told_delivered, op_of}
use Rattle.world_history.specs.Plans.{Alone, rule_of}
use Rattle.world_history.specs.Refusals.{refusal, of_message}
use Rattle.world_history.specs.History.{StandsFor}
use Rattle.history_law.specs.Said.{said, posted}
use Rattle.history_law.proofs.Moves.{said_marked}
use Rattle.cluster_history.specs.State as cluster
use Rattle.cluster_history.specs.State.{ClientHere, Cluster}
use Rattle.cluster_history.specs.Steps.{Step, May, IsLive, Begins, Calls, Learns, Misses, Leaves, SendsAgain, Ends}
use Rattle.cluster_history.specs.Deeds.{Deed, changes, for_somebody, client_message, went, goes, call_of, called, learnt}
use Rattle.cluster_history.specs.History.{lines_of, sending, deed, after, told}
use Rattle.cluster_history.specs.Like.{client_of, cluster_of, each_as, AreStored, LeadsTo}
use Rattle.cluster_history.proofs.Lists.{put_as, more_as, absent_from}
use Rattle.cluster_history.proofs.Worlds.{IsDone, event_goes, by_deed}
use Rattle.cluster_history.proofs.Kept.{ClientThere, client_there, MessageThere, message_there}

-- ---- what it sends

one_posted : (b : Bool) (p : Post) (ps : List Post) (ms : List Message) → posted (filter is_addressed ps) ≡ for_somebody ms
    → is_addressed p ≡ b → posted (filter is_addressed (p ∷ ps)) ≡ for_somebody (p.message ∷ ms)
one_posted true p ps ms rest is = rw is (ap (λ (l : List Message). p.message ∷ l) rest)
one_posted false p ps ms rest is = rw is rest

pub client_posted : (c : ℕ) (wrote : Bool) (logged : ℕ) (os : List Outgoing)
    → posted (filter is_addressed (client_posts c wrote logged os)) ≡ for_somebody (map (client_message c) os)
client_posted c wrote logged [] = refl
client_posted c wrote logged (o ∷ os) =
    one_posted (is_named (receiver o)) (client_post c (if is_write_out o && not wrote then logged else 0) o)
    (client_posts c (wrote || is_write_out o) logged os) (map (client_message c) os)
    (client_posted c (wrote || is_write_out o) logged os) refl

-- ---- a step of it

op_again : (op : CallOp) → op_of (call_of op) ≡ op
op_again (Write file offset bytes) = refl
op_again (Read file offset count) = refl

module _ (w : World) (h : List Line) (s : StandsFor w h) (stored : AreStored w.drives) (c : ℕ) (a : ClientAt)
    (found : at_number w.clients c ≡ Some a) where
  -- behind an event, and perhaps a line more, where only marks were set before
  module _ (ms : List Posted) (same : said ms ≡ said w.network.messages) (i : client_input.Input) (x : ClientStep)
      (e : Event) (front : List Line) where
    abbrev v : World
    v = record w { network = record w.network { messages = ms } }

    abbrev did : Handed
    did = client_did v c a i x

    abbrev act : Act
    act = record { world = did.world; told = front ++ did.told; posts = did.posts }

    abbrev done : Deed
    done = went (cluster_of w) c (client_of a) i (line.Event e ∷ front) x

    step_done : IsDone done e act
    step_done = record {
      same =
          ap (λ (l : List (ℕ × ClientHere)). record (cluster_of w) { clients = l; sent = said ms })
          (put_as client_of w.clients c _)
          ∙ ap (λ (l : List Message). record done.cluster { sent = l }) same;
      stored = stored;
      lines = refl;
      gives = client_posted c _ _ x.sends;
      behind = refl;
    }

    step_goes : (chosen : List ℕ) → refusal w e ≡ None → rule_of w e ≡ Alone → begins w chosen e ≡ act
        → LeadsTo (h ++ lines_of done) (sending done)
    step_goes chosen allowed alone is =
        event_goes w h e chosen s allowed alone done (subst (λ (y : Act). IsDone done e y) (sym is) step_done)

  -- ---- a message

  module _ (n : ℕ) (p : Posted) (there : slice_get w.network.messages n ≡ Some p) (to : p.message.to ≡ node.Client c)
      (live : a.stopped ≡ false) where
    abbrev marks : List Posted
    marks = slice_set w.network.messages n (record p { delivered = true })

    marks_same : said marks ≡ said w.network.messages
    marks_same = said_marked w.network.messages n p (record p { delivered = true }) there refl

    abbrev hears_act : Option ClientMessage → Act
    hears_act m = told_delivered n (client_takes (marked w n p) c a p.message.from m)

    learns_act : delivers w [] n ≡ hears_act (for_client p.message)
    unfolding delivers
    learns_act = rw (there, to, found, live) refl

    learns_done : (m : Option ClientMessage)
        → IsDone (learnt (cluster_of w) c n (client_of a) p.message.from m) (event.Deliver n) (hears_act m)
    learns_done None = record {
      same = ap (λ (l : List Message). record (cluster_of w) { sent = l }) marks_same;
      stored = stored;
      lines = refl;
      gives = refl;
      behind = refl;
    }
    learns_done (Some m) =
        step_done marks marks_same (client_input.Hears p.message.from m)
        (client_input.step a.state (client_input.Hears p.message.from m)) (event.Deliver n)
        (line.Delivered n delivery.Taken ∷ [])

    abbrev learnt_here : Deed
    learnt_here = learnt (cluster_of w) c n (client_of a) p.message.from (for_client p.message)

    learns_goes : of_message w n ≡ None → LeadsTo (h ++ lines_of learnt_here) (sending learnt_here)
    unfolding begins refusal rule_of
    learns_goes allowed =
        event_goes w h (event.Deliver n) [] s allowed refl learnt_here
        (subst (λ (y : Act). IsDone learnt_here (event.Deliver n) y) (sym learns_act) (learns_done (for_client p.message)))

  -- ---- a call

  call_done : (op : CallOp) (r : Result ClientStep CallErr) → op_of (call_of op) ≡ op
      → IsDone (called (cluster_of w) c (client_of a) op r) (event.Call c (call_of op)) (world.called w c a op r)
  call_done op (Err e) again = record { same = refl; stored = stored; lines = refl; gives = refl; behind = refl }
  call_done op (Ok x) again =
      step_done w.network.messages refl (client_input.Calls op) x (event.Call c (call_of op)) []

  abbrev called_here : CallOp → Deed
  called_here op = called (cluster_of w) c (client_of a) op (calls a.state op)

  call_begins : (op : CallOp) → begins w [] (event.Call c (call_of op)) ≡ world.called w c a op (calls a.state op)
  unfolding begins calls_at
  call_begins op = rw (found, op_again op) refl

  calls_goes : a.stopped ≡ false → (op : CallOp) → LeadsTo (h ++ lines_of (called_here op)) (sending (called_here op))
  unfolding refusal rule_of
  calls_goes live op =
      event_goes w h (event.Call c (call_of op)) [] s (rw (found, live) refl) refl (called_here op)
      (subst (λ (y : Act). IsDone (called_here op) (event.Call c (call_of op)) y) (sym (call_begins op))
      (call_done op (calls a.state op) (op_again op)))

  -- ---- other steps

  goes_alone : (i : client_input.Input) (e : Event) (front : List Line) → refusal w e ≡ None → rule_of w e ≡ Alone
      → begins w [] e ≡ act w.network.messages refl i (client_input.step a.state i) e front
      → LeadsTo (h ++ lines_of (goes (cluster_of w) c (client_of a) i (line.Event e ∷ front)))
      (sending (goes (cluster_of w) c (client_of a) i (line.Event e ∷ front)))
  goes_alone i e front allowed alone is =
      step_goes w.network.messages refl i (client_input.step a.state i) e front [] allowed alone is

  stop_done : IsDone (changes (cluster.with_client (cluster_of w) c (record (client_of a) { left = true })) (event.Stop c))
      (event.Stop c) (changed (with_client w c (record a { stopped = true })))
  stop_done = record {
    same =
        ap (λ (l : List (ℕ × ClientHere)). record (cluster_of w) { clients = l }) (put_as client_of w.clients c _);
    stored = stored;
    lines = refl;
    gives = refl;
    behind = refl;
  }

-- ---- each step

if_idle : (o : Option Call) (x y : Act) → o ≡ None → (if is_some o then x else y) ≡ y
if_idle None x y e = refl
if_idle (Some call) x y e = absurd (cc e)

module _ (w : World) (h : List Line) (s : StandsFor w h) (stored : AreStored w.drives) where
  -- a step of the cluster that the world shows leads on
  abbrev GoesOn : Step → Type 0
  GoesOn x = May (cluster_of w) x → LeadsTo (h ++ told (cluster_of w) x) (after (cluster_of w) x)

  live_there : (c : ℕ) (l : IsLive (cluster_of w) c) (t : ClientThere w c l.here) → t.at.stopped ≡ false
  live_there c l t = ap (λ (x : ClientHere). x.left) t.same ∙ l.live

  pub begins_new : (c : ℕ) → GoesOn (Begins c)
  unfolding deed refusal rule_of begins
  begins_new c m =
      let absent : at_number w.clients c ≡ None = absent_from client_of w.clients c m.absent in
      let d : Deed = deed (cluster_of w) (Begins c) in
      event_goes w h (event.Client c) [] s (rw absent refl) refl (deed (cluster_of w) (Begins c)) (record {
        same =
            ap (λ (l : List (ℕ × ClientHere)). record (cluster_of w) { clients = l })
            (more_as client_of w.clients c (record { state = new_client c 1; stopped = false; wrote = false }));
        stored = stored;
        lines = refl;
        gives = refl;
        behind = refl;
      })

  pub is_called : (c : ℕ) (op : CallOp) → GoesOn (Calls c op)
  unfolding deed
  is_called c op l =
      let t : ClientThere w c l.here = client_there w c l.here l.found in
      by_deed h (cluster_of w) (Calls c op) (called_here w h s stored c t.at t.found op) (rw t.shown refl)
      (calls_goes w h s stored c t.at t.found (live_there c l t) op)

  pub learns : (c n : ℕ) → GoesOn (Learns c n)
  unfolding deed
  learns c n m =
      let t : ClientThere w c m.0.here = client_there w c m.0.here m.0.found in
      let p : MessageThere w n (node.Client c) = message_there w n (node.Client c) m.1 in
      by_deed h (cluster_of w) (Learns c n)
      (learnt (cluster_of w) c n (client_of t.at) p.posted.message.from (for_client p.posted.message))
      (rw (t.shown, p.shown) refl)
      (learns_goes w h s stored c t.at t.found n p.posted p.found p.receiver (live_there c m.0 t) p.allowed)

  pub misses : (c component : ℕ) → GoesOn (Misses c component)
  unfolding deed refusal rule_of begins times_out
  misses c component l =
      let t : ClientThere w c l.here = client_there w c l.here l.found in
      by_deed h (cluster_of w) (Misses c component)
      (goes (cluster_of w) c (client_of t.at) (client_input.TimesOut component)
      (line.Event (event.Timeout c component) ∷ line.TimedOut c component ∷ [])) (rw t.shown refl)
      (goes_alone w h s stored c t.at t.found (client_input.TimesOut component) (event.Timeout c component)
      (line.TimedOut c component ∷ []) (rw (t.found, live_there c l t) refl) refl (rw t.found refl))

  pub leaves_all : (c : ℕ) → GoesOn (Leaves c)
  unfolding deed refusal rule_of begins leaves
  leaves_all c m =
      let l : IsLive (cluster_of w) c = m.0 in
      let t : ClientThere w c l.here = client_there w c l.here l.found in
      let idle : t.at.state.call ≡ None = ap (λ (x : ClientHere). x.state.call) t.same ∙ m.1 in
      by_deed h (cluster_of w) (Leaves c)
      (goes (cluster_of w) c (client_of t.at) client_input.Leaves (line.Event (event.Leave c) ∷ [])) (rw t.shown refl)
      (goes_alone w h s stored c t.at t.found client_input.Leaves (event.Leave c) [] (rw (t.found, live_there c l t) refl) refl
      (rw t.found (if_idle t.at.state.call _ _ idle)))

  pub sends_again : (c : ℕ) → GoesOn (SendsAgain c)
  unfolding deed refusal rule_of begins resends
  sends_again c l =
      let t : ClientThere w c l.here = client_there w c l.here l.found in
      by_deed h (cluster_of w) (SendsAgain c)
      (goes (cluster_of w) c (client_of t.at) client_input.Resends (line.Event (event.Resend (sender.Client c)) ∷ []))
      (rw t.shown refl)
      (goes_alone w h s stored c t.at t.found client_input.Resends (event.Resend (sender.Client c)) []
      (rw (t.found, live_there c l t) refl) refl (rw t.found refl))

  pub ends : (c : ℕ) → GoesOn (Ends c)
  unfolding deed refusal rule_of begins
  ends c l =
      let t : ClientThere w c l.here = client_there w c l.here l.found in
      let d : Deed =
      changes (cluster.with_client (cluster_of w) c (record (client_of t.at) { left = true })) (event.Stop c) in
      by_deed h (cluster_of w) (Ends c) d (rw t.shown refl)
      (event_goes w h (event.Stop c) [] s (rw (t.found, live_there c l t) refl) refl d
      (subst (λ (y : Act). IsDone d (event.Stop c) y) (rw t.found refl) (stop_done w h s stored c t.at t.found)))
