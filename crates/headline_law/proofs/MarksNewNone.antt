-- Where no client goes on, and none sends its messages again, no client sends a message.
-- Towards `NoneNew` (`proofs/MarksNew.antt`).
use Rattle.std.proofs.Common.{◌≡◌, ℕ, Bool, true, false, cond, List, [], is_some, Option, Some, None, refl, sym, ap, subst, ◌∙◌, if◌then◌else◌}
use Rattle.osd_lists.specs.declared.node.Node.TheVariants as node
use Rattle.scenario_text.specs.declared.event.Event.{Event}
use Rattle.scenario_text.specs.declared.event.Event.TheVariants as event
use Rattle.scenario_text.specs.declared.event.Sender.TheVariants as sender
use Rattle.scenario_text.specs.declared.line.Refusal.TheVariants as refusal
use Rattle.scenario_text.specs.declared.line.Line.TheVariants as line
use Rattle.server_rules.specs.Laws.{In}
use Rattle.client_rules.specs.History as client
use Rattle.world_history.specs.ClientNames.{CallOp}
use Rattle.world_history.specs.Handed.{Post, client_goes}
use Rattle.world_history.specs.State.{World, ClientAt, at_number}
use Rattle.world_history.specs.Moves as world
use Rattle.world_history.specs.Moves.{Act, Action, Opens, Delivers, TimesOut, Pends, acts}
use Rattle.world_history.specs.Sending.{Move}
use Rattle.history_law.specs.Moves.{IsForClient, asked_in}
use Rattle.file_simulation.specs.ClientEvents.{Going, going, leaving, going_in}
use Rattle.relation_law.proofs.DriveAlike.{not_going}
use Rattle.headline_law.proofs.MarksNew.{NoneNew}
use Rattle.headline_law.proofs.MarksNewSent.{AreOfClient, post_at, post_in, posts_of}
use Rattle.headline_law.proofs.SentNone.{heard}

-- a client that isn't there sends nothing
absent : (w : World) (does : ClientAt → Act) (o : Option ClientAt) → o ≡ None → (world.by_client w does o).posts ≡ []
absent w does None none = refl
absent w does (Some a) none = absurd (cc none)

calls : (w : World) (c : ℕ) (op : CallOp) → going c (client.Calls op) (at_number w.clients c) ≡ None →
    (world.calls_at w c op).posts ≡ []
unfolding world.calls_at
calls w c op none = absent w _ (at_number w.clients c) (not_going c (client.Calls op) (at_number w.clients c) none)

times_out : (w : World) (c k : ℕ) → going c (client.TimesOut k) (at_number w.clients c) ≡ None →
    (world.times_out w c k).posts ≡ []
unfolding world.times_out
times_out w c k none = absent w _ (at_number w.clients c) (not_going c (client.TimesOut k) (at_number w.clients c) none)

-- and one that is busy doesn't leave
leaves_as : (c : ℕ) → ClientAt → Going
leaves_as c a = record { client = c; state = a.state; input = client.Leaves }

left : (w : World) (c : ℕ) (a : ClientAt) (b : Bool) → cond b None (Some (leaves_as c a)) ≡ None →
    (if b then world.tells w (line.Refused c refusal.Busy) else world.acted (client_goes w c a client.Leaves)).posts ≡ []
left w c a true e = refl
left w c a false e = absurd (cc e)

leaves_by : (w : World) (c : ℕ) (o : Option ClientAt) → leaving c o ≡ None →
    (world.by_client w (λ a. if is_some a.state.call then world.tells w (line.Refused c refusal.Busy)
    else world.acted (client_goes w c a client.Leaves)) o).posts ≡ []
unfolding leaves_as
leaves_by w c None e = refl
leaves_by w c (Some a) e = left w c a (is_some a.state.call) e

leaves : (w : World) (c : ℕ) → leaving c (at_number w.clients c) ≡ None → (world.leaves w c).posts ≡ []
unfolding world.leaves
leaves w c none = leaves_by w c (at_number w.clients c) none

-- none of these messages is a client's
abbrev NoClients : List Post → Type 0
NoClients ps = (p : Post) (c : ℕ) → In p ps → p.message.from ≡ node.Client c → ⊥

nothing : (ps : List Post) → ps ≡ [] → NoClients ps
nothing ps e p c i from = absurd (subst (In p) e i)

module _ (w : World) (m : Move) (none : going_in w m.action ≡ None) where
  -- where nothing is asked of a client
  unasked : asked_in m.action ≡ None → NoClients (acts w m.chosen m.action).posts
  unasked quiet p c i from =
      let k = posts_of w m.chosen m.action p c i from in by k k.input k.asked
    where
      by : (k : AreOfClient w m.action c (acts w m.chosen m.action)) (i : client.Input) → IsForClient w m.action c k.at i → ⊥
      by k (client.Hears from_ y) is = heard w m none c k.at k.found from_ y is
      by k (client.Calls op) is = cc (sym quiet ∙ is)
      by k (client.TimesOut n) is = cc (sym quiet ∙ is)
      by k client.Leaves is = cc (sym quiet ∙ is)
      by k client.Resends is = cc (sym quiet ∙ is)

  abbrev Walks : Action → Type 0
  Walks a = asked_in a ≡ None → NoClients (acts w m.chosen a).posts

  at_event : (e : Event) → going_in w (Opens e) ≡ None →
      ((c : ℕ) → Opens e ≡ Opens (event.Resend (sender.Client c)) → ⊥) → Walks (Opens e) →
      NoClients (acts w m.chosen (Opens e)).posts
  unfolding world.begins
  at_event (event.Do c x) gone again walk = nothing (world.calls_at w c (world.op_of x)).posts (calls w c (world.op_of x) gone)
  at_event (event.Call c x) gone again walk =
      nothing (world.calls_at w c (world.op_of x)).posts (calls w c (world.op_of x) gone)
  at_event (event.Timeout c k) gone again walk = nothing (world.times_out w c k).posts (times_out w c k gone)
  at_event (event.Leave c) gone again walk = nothing (world.leaves w c).posts (leaves w c gone)
  at_event (event.Resend (sender.Client c)) gone again walk = absurd (again c refl)
  at_event (event.Resend sender.Server) gone again walk = walk refl
  at_event e gone again walk = walk refl

  at_action : (a : Action) → going_in w a ≡ None → ((c : ℕ) → a ≡ Opens (event.Resend (sender.Client c)) → ⊥) → Walks a →
      NoClients (acts w m.chosen a).posts
  at_action (Opens e) gone again walk = at_event e gone again walk
  at_action (Delivers n) gone again walk = walk refl
  at_action (TimesOut c k) gone again walk = nothing (world.times_out w c k).posts (times_out w c k gone)
  at_action (Pends c) gone again walk = walk refl

pub none_new : NoneNew
none_new w m k n c d x new p =
    let z = post_at w m n c d x new p in
    at_action w m k.0 m.action k.0 k.1 (unasked w m k.0) z.post c (post_in w m n p.posted.message z)
    (ap (λ y. y.from) (sym z.message) ∙ p.sender)
