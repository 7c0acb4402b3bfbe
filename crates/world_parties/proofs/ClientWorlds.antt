-- The clients by number are those of the world.
use Rattle.std.proofs.Common.{◌≡◌, ℕ, Bool, true, false, ◌||◌, List, [], ◌∷◌, ◌++◌, map, filter, Option, Some, None, refl, sym, ap}
use Rattle.std.specs.Prelude.{Result, Ok, Err, is_some, if◌then◌else◌}
use Rattle.std.specs.Option.{option_map}
use Rattle.std.specs.Ordering.{nat_cmp}
use Rattle.std.specs.BTreeMap.{is_at}
use Rattle.std.proofs.lemmas.Map.Steps.{set_value_same}
use Rattle.std.proofs.Math.Bool.{or-false}
use Rattle.scenario_text.specs.declared.line.Line.{Line}
use Rattle.scenario_text.specs.declared.line.Line.TheVariants as line
use Rattle.scenario_text.specs.declared.line.Refusal.TheVariants as refusal
use Rattle.scenario_text.specs.declared.line.Delivery.TheVariants as delivery
use Rattle.client_rules.specs.Messages.{Message as ClientMessage, Step, still, hears}
use Rattle.client_rules.specs.Envelopes.{on_message_in, receiver, bytes_of}
use Rattle.client_rules.specs.Steps.{calls, times_out, leaves, resent}
use Rattle.client_rules.specs.History.{Input, Calls, Hears, TimesOut, Leaves, Resends}
use Rattle.stripe_client.specs.Sending.{sent_of, spelled as sents}
use Rattle.world_network.specs.declared.posting.Posting.{Posting}
use Rattle.world_network.specs.Shows.{posting_of}
use Rattle.world_history.specs.ClientNames.{Call, CallOp, CallErr, Outcome, Outgoing, AnswersRecall, Asks, ToDrive}
use Rattle.world_history.specs.declared.messages.Message.{Message}
use Rattle.world_history.specs.State.{ClientAt, World, at_number, with_number}
use Rattle.world_history.specs.Spelled.{spelled, party_of}
use Rattle.world_history.specs.Handed.{Post, is_addressed, quiet, client_hears, client_takes, for_client, client_goes, client_did, client_body, client_post, client_posts, is_write_out, ended_by, op_in, wrote_in, data_in, pending_op}
use Rattle.world_history.specs.Moves.{acted as acts_as, behind as behind_there, tells, by_client, called as called_there, calls_at, times_out as times_out_at, resends as resends_at, leaves as leaves_at, pends as pends_at, pends_as, stops}
use Rattle.world_network.specs.Acts.{IsAct, IsDone, IsHanded}
use Rattle.world_history.specs.Names.{where_known, is_named}
use Rattle.world_parties.specs.Posting.{logged_with, posting, posting_to, postings}
use Rattle.world_parties.specs.Client.{data_of_call, ended, acted, goes_on, only_tells, called_by, called, timed_out, resends, returned, left, pending_told}
use Rattle.world_parties.specs.Clients.{Table, did_at, did_by, is_deaf, takes, heard_at, heard_by, pends_in, stopped_if}
use Rattle.world_parties.specs.ClientLaws.{with_clients, IsDid, ClientsHear, ClientsCall, ClientsTimeOut, ClientsResend, ClientsLeave, ClientsPend, ClientsStop}
use Rattle.world_parties.proofs.Writes.{written, any_written}

-- ---- what is sent

body_spelled : (o : Outgoing) → spelled (client_body o) ≡ bytes_of o
body_spelled (AnswersRecall a) = refl
body_spelled (Asks r) = refl
body_spelled (ToDrive d c) = refl

one_if : (named : Bool) (c logged : ℕ) (o : Outgoing) → spelled (client_body o) ≡ bytes_of o
    → posting_to c logged (bytes_of o) (where_known named (party_of (receiver o)))
    ≡ map posting_of (if named then client_post c logged o ∷ [] else [])
one_if true c logged o e = rw e refl
one_if false c logged o e = refl

one_posted : (c logged : ℕ) (o : Outgoing)
    → posting c logged (sent_of o) ≡ map posting_of (filter is_addressed (client_post c logged o ∷ []))
one_posted c logged o = one_if (is_named (receiver o)) c logged o (body_spelled o)

posted_if : (sent : Bool) (p : Post) (ps : List Post)
    → map posting_of (if sent then p ∷ [] else []) ++ map posting_of ps ≡ map posting_of (if sent then p ∷ ps else ps)
posted_if true p ps = refl
posted_if false p ps = refl

-- the messages that are sent in front of others
posted_on : (p : Post) (ps : List Post) (xs ys : List Posting) → xs ≡ map posting_of (filter is_addressed (p ∷ []))
    → ys ≡ map posting_of (filter is_addressed ps) → xs ++ ys ≡ map posting_of (filter is_addressed (p ∷ ps))
posted_on p ps xs ys e f = rw (e, f) (posted_if (is_addressed p) p (filter is_addressed ps))

pub posts_sent : (c : ℕ) (wrote : Bool) (logged : ℕ) (os : List Outgoing)
    → postings c wrote logged (sents os) ≡ map posting_of (filter is_addressed (client_posts c wrote logged os))
posts_sent c wrote logged [] = refl
posts_sent c wrote logged (o ∷ os) =
    rw (written o) (posted_on (client_post c (logged_with (is_write_out o) wrote logged) o)
    (client_posts c (wrote || is_write_out o) logged os)
    (posting c (logged_with (is_write_out o) wrote logged) (sent_of o))
    (postings c (wrote || is_write_out o) logged (sents os))
    (one_posted c (logged_with (is_write_out o) wrote logged) o)
    (posts_sent c (wrote || is_write_out o) logged os))

-- ---- what is told

end_told : (c : ℕ) (op : Option CallOp) (o : Option Outcome)
    → ended c (option_map data_of_call op) o ≡ ended_by c op o
end_told c None None = refl
end_told c None (Some o) = refl
end_told c (Some op) None = refl
end_told c (Some op) (Some o) = refl

-- ---- a step

did_act : (w : World) (c : ℕ) (a : ClientAt) (i : Input) (s : Step)
    → IsAct (client_did w c a i s).told (client_did w c a i s).posts (acted c a (op_in a.state i) (wrote_in a i) s).act
did_act w c a i s = record {
  lines = end_told c (op_in a.state i) s.outcome;
  sends = posts_sent c (wrote_in a i) (data_in (op_in a.state i)) s.sends;
}

did_world : (w : World) (c : ℕ) (a : ClientAt) (i : Input) (s : Step)
    → (client_did w c a i s).world ≡ with_clients w
    (with_number w.clients c (acted c a (op_in a.state i) (wrote_in a i) s).client)
did_world w c a i s = rw (any_written s.sends) refl

-- a client that stays as it was
stays : (w : World) (c : ℕ) (a b : ClientAt) → b ≡ a → at_number w.clients c ≡ Some a
    → w ≡ with_clients w (with_number w.clients c b)
stays w c a b e f =
    rw e (ap (λ (t : Table). with_clients w t) (sym (set_value_same (is_at (nat_cmp c)) w.clients a f)))

still_same : (c : ℕ) (a : ClientAt) → (goes_on c a (still a.state)).client ≡ a
still_same c a = ap (λ (b : Bool). record a { wrote = b }) (or-false a.wrote)

nothing_ended : (c : ℕ) (op : Option CallOp) → ended c (option_map data_of_call op) None ≡ []
nothing_ended c None = refl
nothing_ended c (Some op) = refl

-- ---- a message

takes_by : (w : World) (c : ℕ) (m : Message) (a : ClientAt) (o : Option ClientMessage) → at_number w.clients c ≡ Some a
    → IsHanded (client_takes w c a m.from o)
    (with_clients w (heard_at w.clients c (takes (goes_on c a (on_message_in a.state m.from o)))).clients)
    (takes (goes_on c a (on_message_in a.state m.from o))).handed
takes_by w c m a None f = record {
  world = stays w c a (goes_on c a (still a.state)).client (still_same c a) f;
  receipt = refl;
  act = record { lines = nothing_ended c (pending_op a.state); sends = refl };
}
takes_by w c m a (Some x) f = record {
  world = did_world w c a (Hears m.from x) (hears a.state m.from x);
  receipt = refl;
  act = did_act w c a (Hears m.from x) (hears a.state m.from x);
}

hears_if : (b : Bool) (w : World) (c : ℕ) (m : Message) (a : ClientAt) (o : Option ClientMessage)
    → at_number w.clients c ≡ Some a
    → IsHanded (if b then quiet w delivery.Deaf else client_takes w c a m.from o)
    (with_clients w
    (heard_at w.clients c
    (if b then record { client = a; handed = is_deaf } else takes (goes_on c a (on_message_in a.state m.from o)))).clients)
    (if b then record { client = a; handed = is_deaf } else takes (goes_on c a (on_message_in a.state m.from o))).handed
hears_if true w c m a o f = record {
  world = stays w c a a refl f;
  receipt = refl;
  act = record { lines = refl; sends = refl };
}
hears_if false w c m a o f = takes_by w c m a o f

hears_by : (w : World) (c : ℕ) (m : Message) (o : Option ClientAt) → at_number w.clients c ≡ o
    → IsHanded (client_hears w c m o) (with_clients w (heard_by w.clients c m.from (spelled m.body) o).clients)
    (heard_by w.clients c m.from (spelled m.body) o).handed
hears_by w c m None f = record { world = refl; receipt = refl; act = record { lines = refl; sends = refl } }
hears_by w c m (Some a) f = hears_if a.stopped w c m a (for_client m) f

pub clients_hear : ClientsHear
clients_hear w c m = hears_by w c m (at_number w.clients c) refl

-- ---- calls, timeouts, and what else comes

goes_done : (w : World) (c : ℕ) (a : ClientAt) (i : Input) (s : Step)
    → IsDone (record {
      world = (client_did w c a i s).world;
      told = (client_did w c a i s).told;
      posts =
          (client_did w c a i s).posts;
    })
    (with_clients w (with_number w.clients c (acted c a (op_in a.state i) (wrote_in a i) s).client))
    (acted c a (op_in a.state i) (wrote_in a i) s).act
goes_done w c a i s = record { world = did_world w c a i s; act = did_act w c a i s }

only_told : (w : World) (c : ℕ) (a : ClientAt) (l : Line) → at_number w.clients c ≡ Some a
    → IsDid w (record { world = w; told = l ∷ []; posts = [] }) (did_at w.clients c (only_tells a l))
only_told w c a l f = record { world = stays w c a a refl f; act = record { lines = refl; sends = refl } }

calls_with : (w : World) (c : ℕ) (op : CallOp) (a : ClientAt) (r : Result Step CallErr) → at_number w.clients c ≡ Some a
    → IsDid w (called_there w c a op r) (did_at w.clients c (called_by c a op r))
calls_with w c op a (Err e) f = only_told w c a _ f
calls_with w c op a (Ok s) f = goes_done w c a (Calls op) s

calls_by : (w : World) (c : ℕ) (op : CallOp) (o : Option ClientAt) → at_number w.clients c ≡ o
    → IsDid w (by_client w (λ a. called_there w c a op (calls a.state op)) o) (did_by w.clients c (called c op) o)
calls_by w c op None f = record { world = refl; act = record { lines = refl; sends = refl } }
calls_by w c op (Some a) f = calls_with w c op a (calls a.state op) f

pub clients_call : ClientsCall
unfolding calls_at
clients_call w c op = calls_by w c op (at_number w.clients c) refl

times_by : (w : World) (c k : ℕ) (o : Option ClientAt) → at_number w.clients c ≡ o
    → IsDid w (by_client w (λ a. behind_there (line.TimedOut c k) (client_goes w c a (TimesOut k))) o)
    (did_by w.clients c (timed_out c k) o)
times_by w c k None f = record { world = refl; act = record { lines = refl; sends = refl } }
times_by w c k (Some a) f =
    let step = did_act w c a (TimesOut k) (times_out a.state k) in
    record {
      world = did_world w c a (TimesOut k) (times_out a.state k);
      act = record {
        lines = ap (λ (l : List Line). line.TimedOut c k ∷ l) step.lines;
        sends = step.sends;
      };
    }

pub clients_time_out : ClientsTimeOut
unfolding times_out_at
clients_time_out w c k = times_by w c k (at_number w.clients c) refl

resends_by : (w : World) (c : ℕ) (o : Option ClientAt) → at_number w.clients c ≡ o
    → IsDid w (by_client w (λ a. acts_as (client_goes w c a Resends)) o) (did_by w.clients c (resends c) o)
resends_by w c None f = record { world = refl; act = record { lines = refl; sends = refl } }
resends_by w c (Some a) f = goes_done w c a Resends (record (still a.state) { sends = resent a.state })

pub clients_resend : ClientsResend
unfolding resends_at
clients_resend w c = resends_by w c (at_number w.clients c) refl

none_pending : (o : Option Call) → is_some o ≡ false → option_map (λ (call : Call). call.op) o ≡ None
none_pending None e = refl
none_pending (Some call) e = absurd (cc e)

returns_done : (w : World) (c : ℕ) (a : ClientAt) → is_some a.state.call ≡ false
    → IsDid w (acts_as (client_goes w c a Leaves)) (did_at w.clients c (returned c a))
returns_done w c a e =
    let none : pending_op a.state ≡ None = none_pending a.state.call e in
    record {
      world = did_world w c a Leaves (leaves a.state);
      act = record {
        lines = rw none refl;
        sends = rw none (posts_sent c a.wrote 0 (leaves a.state).sends);
      };
    }

leaves_if : (b : Bool) (w : World) (c : ℕ) (a : ClientAt) → is_some a.state.call ≡ b → at_number w.clients c ≡ Some a
    → IsDid w (if b then tells w (line.Refused c refusal.Busy) else acts_as (client_goes w c a Leaves))
    (did_at w.clients c (if b then only_tells a (line.Refused c refusal.Busy) else returned c a))
leaves_if true w c a e f = only_told w c a (line.Refused c refusal.Busy) f
leaves_if false w c a e f = returns_done w c a e

leaves_by : (w : World) (c : ℕ) (o : Option ClientAt) → at_number w.clients c ≡ o
    → IsDid w (by_client w (λ a. if is_some a.state.call then tells w (line.Refused c refusal.Busy)
    else acts_as (client_goes w c a Leaves)) o) (did_by w.clients c (left c) o)
leaves_by w c None f = record { world = refl; act = record { lines = refl; sends = refl } }
leaves_by w c (Some a) f = leaves_if (is_some a.state.call) w c a refl f

pub clients_leave : ClientsLeave
unfolding leaves_at
clients_leave w c = leaves_by w c (at_number w.clients c) refl

pends_op : (w : World) (c : ℕ) (op : Option CallOp) → IsDone (pends_as w c op) w (pending_told c op)
pends_op w c None = record { world = refl; act = record { lines = refl; sends = refl } }
pends_op w c (Some op) = record { world = refl; act = record { lines = refl; sends = refl } }

pends_by : (w : World) (c : ℕ) (o : Option ClientAt)
    → IsDone (by_client w (λ a. pends_as w c (pending_op a.state)) o) w (pends_in c o)
pends_by w c None = record { world = refl; act = record { lines = refl; sends = refl } }
pends_by w c (Some a) = pends_op w c (pending_op a.state)

pub clients_pend : ClientsPend
unfolding pends_at
clients_pend w c = pends_by w c (at_number w.clients c)

stops_by : (w : World) (c : ℕ) (o : Option ClientAt) → stops w c o ≡ with_clients w (stopped_if w.clients c o)
stops_by w c None = refl
stops_by w c (Some a) = refl

pub clients_stop : ClientsStop
clients_stop w c = stops_by w c (at_number w.clients c)
