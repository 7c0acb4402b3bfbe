-- What a `do` leaves as it is: whether the server is down, and that its client isn't stopped.
use Rattle.std.proofs.Common.{◌≡◌, ℕ, Bool, true, false, List, slice_get, Option, Some, None, Result, Ok, Err, refl, sym, ap, subst, ◌∙◌, inl, inr, if◌then◌else◌}
use Rattle.std.proofs.lemmas.Bool.{cases_eq}
use Rattle.osd_lists.specs.declared.node.Node.{Node}
use Rattle.osd_lists.specs.declared.node.Node.TheVariants as node
use Rattle.osd_lists.proofs.Options.{same_some}
use Rattle.scenario_text.specs.declared.event.Event.TheVariants as event
use Rattle.client_rules.specs.Messages.{Message as ClientMessage, Step as ClientStep}
use Rattle.client_rules.specs.Steps.{calls}
use Rattle.server_rules.specs.Messages.{Message as ServerMessage}
use Rattle.world_history.specs.ClientNames.{CallOp, CallErr}
use Rattle.world_history.specs.declared.messages.Message.{Message}
use Rattle.world_history.specs.declared.messages.Posted.{Posted}
use Rattle.world_history.specs.State.{World, DriveAt, ClientAt, at_number, with_number}
use Rattle.world_history.specs.Drives.{is_deaf}
use Rattle.world_history.specs.Handed.{Handed, drive_hears, server_takes, client_takes, client_hears, for_server, for_client, pending_op, handed_to}
use Rattle.world_history.specs.Moves.{Act, Action, Opens, Delivers, TimesOut, Pends, marked, told_delivered, delivers_found, delivers, by_client, called, calls_at, times_out, pends_as, pends, op_of, begins, acts}
use Rattle.exchange_law.proofs.Each.{put_same, put_other}
use Rattle.cause_law.specs.Queue.{DeliversNone}

-- the client isn't stopped, if there is one of that number
abbrev pub IsAlive : (client : ℕ) → World → Type 0
IsAlive c w = (a : ClientAt) → at_number w.clients c ≡ Some a → a.stopped ≡ false

-- both, from one world to another
pub record IsFrame (c : ℕ) (w v : World) : Type 0 where
  pub down : v.down ≡ w.down
  pub alive : IsAlive c w → IsAlive c v

module _ (c : ℕ) (w : World) where
  same : (v : World) → v.down ≡ w.down → v.clients ≡ w.clients → IsFrame c w v
  same v down clients = record {
    down = down;
    alive = λ alive a there. alive a (ap (λ (xs : List (ℕ × ClientAt)). at_number xs c) (sym clients) ∙ there);
  }

  put : (v : World) (j : ℕ) (a b : ClientAt) → at_number w.clients j ≡ Some a → b.stopped ≡ a.stopped → v.down ≡ w.down
      → v.clients ≡ with_number w.clients j b → IsFrame c w v
  put v j a b found stopped down clients = record {
    down = down;
    alive = λ alive x there.
        let at : at_number (with_number w.clients j b) c ≡ Some x =
        ap (λ (xs : List (ℕ × ClientAt)). at_number xs c) (sym clients) ∙ there in
        elim (cases_eq c j) [
          | inl is ↦
              let it : x ≡ b =
              same_some x b (at_number (with_number w.clients j b) c) at
              (ap (at_number (with_number w.clients j b)) is ∙ put_same w.clients j a b found) in
              ap (λ (y : ClientAt). y.stopped) it ∙ stopped
              ∙ alive a (ap (at_number w.clients) is ∙ found)
          | inr other ↦ alive x (sym (put_other w.clients j c b other) ∙ at)
        ];
  }

  either : (b : Bool) (x y : Handed) → IsFrame c w x.world → IsFrame c w y.world → IsFrame c w (if b then x else y).world
  either true x y p q = p
  either false x y p q = q

-- ---- a delivery

module _ (c : ℕ) (w : World) where
  server_frame : (chosen : List ℕ) (from : Node) (m : Option ServerMessage) → IsFrame c w (server_takes w chosen from m).world
  server_frame chosen from None = same c w w refl refl
  server_frame chosen from (Some m) = same c w _ refl refl

  drive_frame : (d : ℕ) (m : Message) (a : Option DriveAt) → IsFrame c w (drive_hears w d m a).world
  drive_frame d m None = same c w w refl refl
  drive_frame d m (Some a) = either c w (is_deaf a) _ _ (same c w w refl refl) (same c w _ refl refl)

  client_frame : (j : ℕ) (a : ClientAt) (from : Node) (m : Option ClientMessage) → at_number w.clients j ≡ Some a
      → IsFrame c w (client_takes w j a from m).world
  client_frame j a from None found = same c w w refl refl
  client_frame j a from (Some m) found = put c w _ j a _ found refl refl refl

  heard_frame : (j : ℕ) (m : Message) (a : Option ClientAt) → at_number w.clients j ≡ a
      → IsFrame c w (client_hears w j m a).world
  heard_frame j m None found = same c w w refl refl
  heard_frame j m (Some a) found =
      either c w a.stopped _ _ (same c w w refl refl) (client_frame j a m.from (for_client m) found)

  hand_frame : (chosen : List ℕ) (m : Message) (to : Node) → IsFrame c w (handed_to w chosen m to).world
  hand_frame chosen m node.Server =
      either c w w.down _ _ (same c w w refl refl) (server_frame chosen m.from (for_server m))
  hand_frame chosen m (node.Drive d) = drive_frame d m (at_number w.drives d)
  hand_frame chosen m (node.Client j) = heard_frame j m (at_number w.clients j) refl

-- what a delivery is
pub delivered_act : (w : World) (chosen : List ℕ) (n : ℕ) (p : Posted) → slice_get w.network.messages n ≡ Some p
    → acts w chosen (Delivers n) ≡ told_delivered n (handed_to (marked w n p) chosen p.message p.message.to)
unfolding delivers
delivered_act w chosen n p found = ap (delivers_found w chosen n) found

pub delivers_frame : (c : ℕ) (w : World) (chosen : List ℕ) (n : ℕ) (p : Posted) → slice_get w.network.messages n ≡ Some p
    → IsFrame c w (acts w chosen (Delivers n)).world
delivers_frame c w chosen n p found =
    let f : IsFrame c (marked w n p) (handed_to (marked w n p) chosen p.message p.message.to).world =
    hand_frame c (marked w n p) chosen p.message p.message.to in
    subst (λ (a : Act). IsFrame c w a.world) (sym (delivered_act w chosen n p found))
    (record { down = f.down; alive = f.alive })

found_down : (w : World) (chosen : List ℕ) (n : ℕ) (o : Option Posted) → (delivers_found w chosen n o).world.down ≡ w.down
found_down w chosen n None = refl
found_down w chosen n (Some p) = (hand_frame 0 (marked w n p) chosen p.message p.message.to).down

pub delivers_down : (w : World) (chosen : List ℕ) (n : ℕ) → (delivers w chosen n).world.down ≡ w.down
unfolding delivers
delivers_down w chosen n = found_down w chosen n (slice_get w.network.messages n)

-- ---- any other action

module _ (c : ℕ) (w : World) where
  by_client_frame : (does : ClientAt → Act) (j : ℕ) (a : Option ClientAt) → at_number w.clients j ≡ a
      → ((x : ClientAt) → at_number w.clients j ≡ Some x → IsFrame c w (does x).world)
      → IsFrame c w (by_client w does a).world
  by_client_frame does j None found h = same c w w refl refl
  by_client_frame does j (Some a) found h = h a found

  called_frame : (j : ℕ) (a : ClientAt) (op : CallOp) (r : Result ClientStep CallErr) → at_number w.clients j ≡ Some a
      → IsFrame c w (called w j a op r).world
  called_frame j a op (Ok s) found = put c w _ j a _ found refl refl refl
  called_frame j a op (Err e) found = same c w w refl refl

  pends_frame : (j : ℕ) (op : Option CallOp) → IsFrame c w (pends_as w j op).world
  pends_frame j None = same c w w refl refl
  pends_frame j (Some op) = same c w w refl refl

  pub other_frame : (chosen : List ℕ) (a : Action) → DeliversNone a → IsFrame c w (acts w chosen a).world
  unfolding begins calls_at times_out pends
  other_frame chosen (Opens (event.Do j x)) d =
      by_client_frame _ j (at_number w.clients j) refl (λ a found. called_frame j a (op_of x) (calls a.state (op_of x)) found)
  other_frame chosen (TimesOut j k) d =
      by_client_frame _ j (at_number w.clients j) refl (λ a found. put c w _ j a _ found refl refl refl)
  other_frame chosen (Pends j) d =
      by_client_frame _ j (at_number w.clients j) refl (λ a found. pends_frame j (pending_op a.state))
  other_frame chosen (Opens e) d = absurd d
  other_frame chosen (Delivers n) d = absurd d
