-- The next message that is due is the head of the queue, and each move takes it or leaves all.
use Rattle.std.proofs.Common.{◌≡◌, ◌≤◌, ◌<◌, ◌+◌, ◌-◌, ◌&&◌, ℕ, zero, suc, List, [], ◌∷◌, ◌++◌, length, map, filter, drop, Bool, true, false, Option, Some, None, Result, Ok, Err, nat_le, slice_get, slice_set, if◌then◌else◌, refl, sym, ap, ◌∙◌, inl, inr, arith, add-zero}
use Rattle.std.proofs.lemmas.Bool.{cases_Bool}
use Rattle.std.proofs.lemmas.Bool.Decides.{nat_tests}
use Rattle.std.proofs.lemmas.List.{drop-append-le, drop_all, map-append, length-append}
use Rattle.std.proofs.lemmas.List.Elements.{filter-append}
use Rattle.osd_lists.specs.declared.node.Node.{Node}
use Rattle.osd_lists.specs.declared.node.Node.TheVariants as node
use Rattle.osd_lists.proofs.Slices.{length_set}
use Rattle.scenario_text.specs.declared.event.Event.TheVariants as event
use Rattle.server_rules.specs.Messages.{Message as ServerMessage}
use Rattle.client_rules.specs.Messages.{Message as ClientMessage, Step as ClientStep}
use Rattle.client_rules.specs.Steps.{calls}
use Rattle.world_history.specs.ClientNames as client_rules
use Rattle.world_history.specs.declared.messages.Message.{Message}
use Rattle.world_history.specs.declared.messages.Posted.{Posted}
use Rattle.world_history.specs.State.{World, Network, DriveAt, ClientAt, at_number}
use Rattle.world_history.specs.Drives.{is_deaf}
use Rattle.world_history.specs.Handed.{Post, Handed, drive_hears, server_takes, client_takes, client_hears, for_server, for_client, handed_to, pending_op}
use Rattle.world_history.specs.Moves.{Act, Action, Opens, Delivers, TimesOut, Pends, marked, delivers_found, delivers, by_client, called, calls_at, times_out, pends, pends_as, op_of, begins, acts}
use Rattle.world_history.specs.Sending.{Move, move, fresh}
use Rattle.world_history.specs.Plans.{is_pending, pending_from, next_pending}
use Rattle.exchange_law.specs.Doing.{said, posted}
use Rattle.history_law.proofs.Goes.{moves_are_steps}
use Rattle.cause_law.specs.Queue.{queue_in, queue, IsQueue, IsHead, DeliversNone, QueueIsDue}

-- ---- the head

-- of messages from number k on, of which the first d are below the number from which they count
record Headed (d k : ℕ) (ps : List Posted) (n : ℕ) : Type 0 where
  place : ℕ
  number : n ≡ k + place
  from : d ≤ place
  posted : Posted
  found : slice_get ps place ≡ Some posted
  pending : is_pending posted ≡ true
  rest : List Posted
  queue_is : filter is_pending (drop d ps) ≡ posted ∷ rest
  taken : filter is_pending (drop d (slice_set ps place (record posted { delivered = true }))) ≡ rest

same_number : (a b : ℕ) → Some a ≡ Some b → a ≡ b
same_number a b e = cc e

headed : (first k d : ℕ) (ps : List Posted) (n : ℕ) → d ≡ first - k → pending_from first k ps ≡ Some n → Headed d k ps n
unfolding pending_from
headed first k d [] n s e = absurd (cc e)
headed first k zero (x ∷ ps) n s e = elim (cases_Bool (is_pending x)) [
  | inl t ↦
      let test : (nat_le first k && is_pending x) ≡ true = grind (arith, nat_tests, s, t) in
      let here : Some k ≡ Some n = rw test at e in
      record {
        place = 0;
        number = sym (same_number k n here) ∙ sym (add-zero k);
        from = omega arith;
        posted = x;
        found = refl;
        pending = t;
        rest = filter is_pending ps;
        queue_is = rw t refl;
        taken = refl;
      }
  | inr f ↦
      let test : (nat_le first k && is_pending x) ≡ false = grind (arith, nat_tests, f) in
      let there : pending_from first (k + 1) ps ≡ Some n = rw test at e in
      let h = headed first (k + 1) zero ps n (omega (arith, s)) there in
      record {
        place = suc h.place;
        number = omega (arith, h.number);
        from = omega arith;
        posted = h.posted;
        found = h.found;
        pending = h.pending;
        rest = h.rest;
        queue_is = rw f h.queue_is;
        taken = rw f h.taken;
      }
]
headed first k (suc d) (x ∷ ps) n s e =
    let test : (nat_le first k && is_pending x) ≡ false = grind (arith, nat_tests, s) in
    let there : pending_from first (k + 1) ps ≡ Some n = rw test at e in
    let h = headed first (k + 1) d ps n (omega (arith, s)) there in
    record {
      place = suc h.place;
      number = omega (arith, h.number);
      from = omega (arith, h.from);
      posted = h.posted;
      found = h.found;
      pending = h.pending;
      rest = h.rest;
      queue_is = h.queue_is;
      taken = h.taken;
    }

none_queued : (first k d : ℕ) (ps : List Posted) → d ≡ first - k → pending_from first k ps ≡ None
    → filter is_pending (drop d ps) ≡ []
unfolding pending_from
none_queued first k zero [] s e = refl
none_queued first k (suc d) [] s e = refl
none_queued first k zero (x ∷ ps) s e = elim (cases_Bool (is_pending x)) [
  | inl t ↦
      let test : (nat_le first k && is_pending x) ≡ true = grind (arith, nat_tests, s, t) in
      let here : Some k ≡ None = rw test at e in
      absurd (cc here)
  | inr f ↦
      let test : (nat_le first k && is_pending x) ≡ false = grind (arith, nat_tests, f) in
      let there : pending_from first (k + 1) ps ≡ None = rw test at e in
      rw f (none_queued first (k + 1) zero ps (omega (arith, s)) there)
]
none_queued first k (suc d) (x ∷ ps) s e =
    let test : (nat_le first k && is_pending x) ≡ false = grind (arith, nat_tests, s) in
    let there : pending_from first (k + 1) ps ≡ None = rw test at e in
    none_queued first (k + 1) d ps (omega (arith, s)) there

-- ---- what is sent

all_fresh : (ps : List Post) → said (filter is_pending (map fresh ps)) ≡ posted ps
all_fresh [] = refl
all_fresh (p ∷ ps) = ap (λ (ms : List Message). p.message ∷ ms) (all_fresh ps)

with_sent : (first : ℕ) (qs : List Posted) (ps : List Post) → first ≤ length qs
    → queue_in first (qs ++ map fresh ps) ≡ queue_in first qs ++ posted ps
with_sent first qs ps l =
    ap (λ (xs : List Posted). said (filter is_pending xs)) (drop-append-le first qs (map fresh ps) l)
    ∙ ap said (filter-append is_pending (drop first qs) (map fresh ps))
    ∙ map-append (λ (p : Posted). p.message) (filter is_pending (drop first qs)) (filter is_pending (map fresh ps))
    ∙ ap (λ (ms : List Message). said (filter is_pending (drop first qs)) ++ ms) (all_fresh ps)

-- ---- networks

either_net : (b : Bool) (w : World) (x y : Handed) → x.world.network ≡ w.network → y.world.network ≡ w.network
    → (if b then x else y).world.network ≡ w.network
either_net true w x y p q = p
either_net false w x y p q = q

drive_net : (w : World) (d : ℕ) (m : Message) (a : Option DriveAt) → (drive_hears w d m a).world.network ≡ w.network
drive_net w d m None = refl
drive_net w d m (Some a) = either_net (is_deaf a) w _ _ refl refl

server_net : (w : World) (chosen : List ℕ) (from : Node) (m : Option ServerMessage)
    → (server_takes w chosen from m).world.network ≡ w.network
server_net w chosen from None = refl
server_net w chosen from (Some m) = refl

client_net : (w : World) (c : ℕ) (a : ClientAt) (from : Node) (m : Option ClientMessage)
    → (client_takes w c a from m).world.network ≡ w.network
client_net w c a from None = refl
client_net w c a from (Some m) = refl

heard_net : (w : World) (c : ℕ) (m : Message) (a : Option ClientAt) → (client_hears w c m a).world.network ≡ w.network
heard_net w c m None = refl
heard_net w c m (Some a) = either_net a.stopped w _ _ refl (client_net w c a m.from (for_client m))

hand_net : (w : World) (chosen : List ℕ) (m : Message) (to : Node) → (handed_to w chosen m to).world.network ≡ w.network
hand_net w chosen m node.Server = either_net w.down w _ _ refl (server_net w chosen m.from (for_server m))
hand_net w chosen m (node.Drive d) = drive_net w d m (at_number w.drives d)
hand_net w chosen m (node.Client c) = heard_net w c m (at_number w.clients c)

delivered_net : (w : World) (chosen : List ℕ) (n : ℕ) (p : Posted) → slice_get w.network.messages n ≡ Some p
    → (acts w chosen (Delivers n)).world.network.messages
    ≡ slice_set w.network.messages n (record p { delivered = true })
unfolding delivers
delivered_net w chosen n p e =
    ap (λ (o : Option Posted). (delivers_found w chosen n o).world.network.messages) e
    ∙ ap (λ (t : Network). t.messages) (hand_net (marked w n p) chosen p.message p.message.to)

client_by : (w : World) (does : ClientAt → Act) (a : Option ClientAt)
    → ((x : ClientAt) → (does x).world.network ≡ w.network) → (by_client w does a).world.network ≡ w.network
client_by w does None h = refl
client_by w does (Some a) h = h a

called_net : (w : World) (c : ℕ) (a : ClientAt) (op : client_rules.CallOp)
    (r : Result ClientStep client_rules.CallErr) → (called w c a op r).world.network ≡ w.network
called_net w c a op (Ok s) = refl
called_net w c a op (Err e) = refl

pends_net : (w : World) (c : ℕ) (op : Option client_rules.CallOp) → (pends_as w c op).world.network ≡ w.network
pends_net w c None = refl
pends_net w c (Some op) = refl

other_net : (w : World) (chosen : List ℕ) (a : Action) → DeliversNone a
    → (acts w chosen a).world.network ≡ w.network
unfolding begins calls_at times_out pends
other_net w chosen (Opens (event.Do c x)) d =
    client_by w _ (at_number w.clients c) (λ a. called_net w c a (op_of x) (calls a.state (op_of x)))
other_net w chosen (TimesOut c k) d = client_by w _ (at_number w.clients c) (λ a. refl)
other_net w chosen (Pends c) d =
    client_by w _ (at_number w.clients c) (λ a. pends_net w c (pending_op a.state))
other_net w chosen (Opens e) d = absurd d
other_net w chosen (Delivers n) d = absurd d

-- ---- moves

behind : (w : World) (first : ℕ) (m : Move) (qs : List Posted) → (acts w m.chosen m.action).world.network.messages ≡ qs
    → first ≤ length qs → IsQueue w first m (queue_in first qs)
behind w first m qs e l =
    ap (λ (xs : List Posted). queue_in first (xs ++ map fresh (acts w m.chosen m.action).posts)) e
    ∙ with_sent first qs (acts w m.chosen m.action).posts l

within : (ps : List Posted) (n : ℕ) (p : Posted) → slice_get ps n ≡ Some p → n < length ps
within [] n p e = absurd (cc e)
within (x ∷ ps) zero p e = omega arith
within (x ∷ ps) (suc n) p e = let l = within ps n p e in omega (arith, l)

is_head : (w : World) (first n : ℕ) → next_pending w first ≡ Some n → IsHead w first n
is_head w first n e =
    let ps = w.network.messages in
    let h = headed first 0 first ps n (omega arith) e in
    let place : h.place ≡ n = omega (arith, h.number) in
    let found : slice_get ps n ≡ Some h.posted = ap (λ (k : ℕ). slice_get ps k) (sym place) ∙ h.found in
    let after : List Posted = slice_set ps n (record h.posted { delivered = true }) in
    let taken : queue_in first after ≡ said h.rest =
    ap (λ (k : ℕ). queue_in first (slice_set ps k (record h.posted { delivered = true }))) (sym place)
    ∙ ap said h.taken in
    let l : first ≤ length after =
    omega (arith, h.from, place, within ps n h.posted found, length_set ps n (record h.posted { delivered = true })) in
    record {
      posted = h.posted;
      found = found;
      from = omega (arith, h.from, place);
      pending = h.pending;
      rest = said h.rest;
      queue_is = ap said h.queue_is;
      goes_on = λ chosen.
          behind w first (record { action = Delivers n; chosen = chosen }) after
          (delivered_net w chosen n h.posted found) l
          ∙ ap (λ (ms : List Message). ms ++ posted (acts w chosen (Delivers n)).posts) taken;
    }

emptied : (w : World) (first : ℕ) (o : Option ℕ) → next_pending w first ≡ o → queue first w ≡ [] → o ≡ None
emptied w first None e q = refl
emptied w first (Some n) e q = let h = is_head w first n e in absurd (cc (sym h.queue_is ∙ q))

pub said_length : (ps : List Posted) → length (said ps) ≡ length ps
said_length [] = refl
said_length (p ∷ ps) = ap (λ (k : ℕ). suc k) (said_length ps)

longer : (w : World) (first : ℕ) (m : Move) → first ≤ length w.network.messages
    → first ≤ length (move w m).world.network.messages
longer w first m l =
    let a : Act = acts w m.chosen m.action in
    let same : length a.world.network.messages ≡ length w.network.messages =
    sym (said_length a.world.network.messages)
    ∙ ap (λ (ms : List Message). length ms) (moves_are_steps w m.chosen m.action).said
    ∙ said_length w.network.messages in
    omega (arith, l, same, length-append a.world.network.messages (map fresh a.posts))

pub queue_is_due : QueueIsDue
queue_is_due = record {
  head = is_head;
  none = λ w first. (
    λ e. ap said (none_queued first 0 first w.network.messages (omega arith) e),
    λ q. emptied w first (next_pending w first) refl q,
  );
  stays = λ w first m d l.
      behind w first m w.network.messages (ap (λ (t : Network). t.messages) (other_net w m.chosen m.action d)) l;
  first = λ w.
      ap (λ (xs : List Posted). said (filter is_pending xs))
      (drop_all (length w.network.messages) w.network.messages (omega arith));
  longer = longer;
}
