-- How a loop goes by a record that is heard, and by the messages that wait then.
use Rattle.std.proofs.Common.{◌≡◌, inl, ◌≤◌, ℕ, Bool, true, false, if◌then◌else◌, List, [], ◌∷◌, ◌++◌, length, map, Option, None, Some, refl, sym, ap, subst, ◌∙◌, append_assoc, arith}
use Rattle.std.proofs.lemmas.List.{append-nil}
use Rattle.osd_bytes.specs.Clocks.{TellsTime}
use Rattle.osd_bytes.specs.Records.{framed}
use Rattle.osd_lists.specs.declared.node.Node.{Node}
use Rattle.node_loop.specs.Nodes.{Held, Leads, Sets, is_node}
use Rattle.node_loop.specs.Points.{CanRead, Goes, Here, IsAs, IsKept, Rests, Work, calm, due_of, is_read, look, posting, putting, reading, resending}
use Rattle.node_loop.specs.Rules.{rules_of}
use Rattle.node_loop.specs.Steps.{HasNoWay, IsNext, Settled, Step, happened, heard_in, state_in, way_to}
use Rattle.node_loop.specs.Steps.Step.{Hears, Resends, Posts, Loses}
use Rattle.node_loop.specs.declared.party.Message.{Message}
use Rattle.node_loop.specs.declared.party.Party.{Ghosts}
use Rattle.port_loop.specs.Ports.{is_open, went_on}
use Rattle.port_loop.specs.Serving.{Desk}
use Rattle.port_loop.specs.Steps.{taken_on}
use Rattle.port_loop.proofs.ListLaws.{same}
use Rattle.node_loop.proofs.LookLaws.{by-number, heard-on, kept, keeps, reading-on}
use Rattle.node_loop.proofs.GoingLaws.{goes-by, unused-on}
use Rattle.std.specs.Prelude.{filter, not}
use Rattle.osd_bytes.specs.declared.records.TheConstants.{MAX_RECORD}
use Rattle.node_loop.specs.Points.{is_waited_for, open_at}
use Rattle.node_loop.specs.Serving.{Ran}
use Rattle.node_loop.specs.Steps.{IsServed, all_but_first, is_under_way, open_of, sender_or}
use Rattle.node_loop.proofs.FrontLaws.{fronts}

-- ---- what a loop that goes shows

pub goes-settled : {H : Type 0} {v : Ghosts H} {first : v.State} {since : Desk H} {a : Here H} {steps : List (Step v.Choice)}
    → Goes v first since a calm steps → Settled (rules_of v) first steps
goes-settled {H} {v} {first} {since} {a} {steps} g = record {
  heard = sym (g.taken ∙ append-nil (heard_in steps));
  posted = g.waiting;
  resent = g.due;
  served = λ p is. by_held p (a.at p) (g.each p) (g.reads p refl) (g.rests p refl) is;
}
  where
    by_held : (p : ℕ) (o : Option Held) → IsAs (look p steps) o → CanRead o → Rests o → is_open p (happened steps) ≡ true
        → IsServed p steps
    by_held p None k c r is = absurd (cc (sym is ∙ k.0))
    by_held p (Some s) k c r is = record {
      begun = c.0;
      reads = k.begun ∙ c.1;
      unsent = s.unsent;
      waits = k.unsent;
      bound = r.bound;
      all = λ e. r.all (sym k.full ∙ e);
    }

pub goes-ran : {H : Type 0} {v : Ghosts H} {first : v.State} {since : Desk H} {a : Here H} {w : Work}
    {steps : List (Step v.Choice)} → Goes v first since a w steps → Ran v first since a.desk steps
goes-ran {H} {v} {first} {since} {a} {w} {steps} g = record {
  lawful = g.lawful;
  fronts = fronts (rules_of v) first steps g.lawful;
  heard = inl g.heard;
}

-- ---- a record is heard

-- the record that is heard is the next one
pub is-next : {H : Type 0} {v : Ghosts H} {first : v.State} {since : Desk H} {a : Here H} {steps : List (Step v.Choice)}
    (p time : ℕ) (to : Option Node) (from : Node) (chosen : v.Choice) (message : List ℕ) (rest : List (List ℕ))
    → from ≡ sender_or to (v.sender_of message)
    → Goes v first since a (reading p to (message ∷ rest)) steps
    → IsNext (rules_of v) first (record { port = p; from = from; time = time; chosen = chosen; message = message }) steps
is-next {H} {v} {first} {since} {a} {steps} p time to from chosen message rest sender g = record {
  later = map (taken_on p) rest;
  next = g.taken;
  posted = g.waiting;
  resent = g.due;
  from = sender ∙ ap (λ (o : Option Node). sender_or o (v.sender_of message)) (sym g.read.1);
}

pub goes-hears : {H : Type 0} {v : Ghosts H} {first : v.State} {since : Desk H} {a b : Here H} {steps : List (Step v.Choice)}
    (p time : ℕ) (to : Option Node) (from : Node) (chosen : v.Choice) (message : List ℕ) (rest : List (List ℕ))
    (messages : List Message)
    → from ≡ sender_or to (v.sender_of message)
    → messages ≡ v.given (v.state a.desk.handler) chosen time from message
    → v.state b.desk.handler ≡ v.state_after (v.state a.desk.handler) chosen time from message
    → TellsTime a.desk.times b.desk.times time → v.hears chosen time from message a.desk.handler b.desk.handler
    → b.opened ≡ a.opened → b.over ≡ a.over → ((q : ℕ) → b.at q ≡ a.at q) → Leads from p a.ways b.ways
    → Goes v first since a (reading p to (message ∷ rest)) steps
    → Goes v first since b (posting (reading p to rest) messages)
    (Hears (record { port = p; from = from; time = time; chosen = chosen; message = message }) ∷ steps)
goes-hears {H} {v} {first} {since} {a} {b} {steps} p time to from chosen message rest messages sender gives state tells hears
    opened over there leads g =
    goes-by g (record {
      follows = is-next p time to from chosen message rest sender g;
      heard = record {
        desk = (a.desk, g.heard.desk, tells, hears);
        state = state ∙ ap (λ (d : v.State). v.state_after d chosen time from message) g.heard.state;
      };
      taken = g.taken ∙ sym (append_assoc (heard_in steps) (taken_on p message ∷ []) (map (taken_on p) rest));
      waiting = ap (λ (l : List Message). l ++ v.given (state_in (rules_of v) first steps) chosen time from message) g.waiting
          ∙ sym (gives ∙ ap (λ (d : v.State). v.given d chosen time from message) g.heard.state);
      due = g.due;
      over = over ∙ g.over;
      ways = λ n. ap (λ (o : Option ℕ). if is_node from n then Some p else o) (g.ways n) ∙ sym (leads n);
      read = g.read;
      here = λ q e. absurd (cc e);
      reads = λ q e. absurd (cc e);
      rests = λ q e. absurd (cc e);
      there = λ q ne. there q;
      still_read = λ q ne free. free;
      still_put = λ q ne free. free;
      unused = λ q above. g.unused q (omega (arith, opened, above));
    })

-- ---- messages that wait

-- on which connection a node is reached
reaches : {H : Type 0} {v : Ghosts H} {first : v.State} {since : Desk H} {a : Here H} {w : Work} {steps : List (Step v.Choice)}
    (n : Node) → Goes v first since a w steps
    → is_under_way (open_of (way_to n steps) (happened steps)) steps ≡ is_waited_for (open_at (a.ways n) a.at)
reaches {H} {v} {first} {since} {a} {w} {steps} n g =
    ap (λ (o : Option ℕ). is_under_way (open_of o (happened steps)) steps) (g.ways n) ∙ by_way (a.ways n)
  where
    by_held : (p : ℕ) (o : Option Held) → IsAs (look p steps) o
        → is_under_way (open_of (Some p) (happened steps)) steps ≡ is_waited_for o
    by_held p None k = let shut : is_open p (happened steps) ≡ false = k.0 in rw shut refl
    by_held p (Some s) k = let stands : is_open p (happened steps) ≡ true = k.stands in rw stands k.awaited

    by_way : (o : Option ℕ) → is_under_way (open_of o (happened steps)) steps ≡ is_waited_for (open_at o a.at)
    by_way None = refl
    by_way (Some p) = by_held p (a.at p) (g.each p)

filter-same : (f h : Message → Bool) → ((m : Message) → f m ≡ h m) → (ms : List Message) → filter f ms ≡ filter h ms
filter-same f h alike [] = refl
filter-same f h alike (m ∷ ms) = rw (alike m, filter-same f h alike ms) refl

pub goes-resends : {H : Type 0} {v : Ghosts H} {first : v.State} {since : Desk H} {a : Here H} {steps : List (Step v.Choice)}
    → Goes v first since a resending steps
    → Goes v first since a (posting calm (due_of a.at a.ways (v.awaited (v.state a.desk.handler)))) (Resends ∷ steps)
goes-resends {H} {v} {first} {since} {a} {steps} g = goes-by g (record {
  follows = (g.due, g.waiting);
  heard = heard-on g.heard refl (λ l. l) refl;
  taken = g.taken;
  waiting = ap (λ (l : List Message). l ++ filter (λ (m : Message). not
      (is_under_way (open_of (way_to m.to steps) (happened steps))
      steps)) (v.awaited (state_in (rules_of v) first steps))) g.waiting
      ∙ filter-same (λ (m : Message). not (is_under_way (open_of (way_to m.to steps) (happened steps)) steps))
      (λ (m : Message). not (is_waited_for (open_at (a.ways m.to) a.at)))
      (λ m. ap (λ (x : Bool). not x) (reaches m.to g)) (v.awaited (state_in (rules_of v) first steps))
      ∙ ap (λ (d : v.State). due_of a.at a.ways (v.awaited d)) (sym g.heard.state);
  due = refl;
  over = g.over;
  ways = g.ways;
  read = tt;
  here = λ q e. absurd (cc e);
  reads = λ q e. absurd (cc e);
  rests = λ q e. absurd (cc e);
  there = λ q ne. refl;
  still_read = λ q ne free. free;
  still_put = λ q ne free. free;
  unused = g.unused;
})

-- a message goes to an open connection
pub goes-posts : {H : Type 0} {v : Ghosts H} {first : v.State} {since : Desk H} {a b : Here H}
    {steps : List (Step v.Choice)} (w : Work) (p : ℕ) (m : Message) (more : List Message) (s t : Held)
    → a.at p ≡ Some s → a.ways m.to ≡ Some p → length m.bytes ≤ MAX_RECORD
    → t ≡ record s { unsent = s.unsent ++ framed m.bytes; is_awaited = true }
    → b.opened ≡ a.opened → b.desk ≡ a.desk → b.over ≡ a.over → Sets p (Some t) a.at b.at → b.ways ≡ a.ways
    → Goes v first since a (posting w (m ∷ more)) steps
    → Goes v first since b (putting (posting w more) p) (Posts p m ∷ steps)
goes-posts {H} {v} {first} {since} {a} {b} {steps} w p m more s t is way short is_t opened desk over sets ways g =
    let k : IsKept (look p steps) s = kept (look p steps) (a.at p) s is (g.each p) in
    let stands : is_open p (happened steps) ≡ true = k.stands in
    let open_p : open_of (Some p) (happened steps) ≡ Some p = rw stands refl in goes-by g (record {
      follows = record {
        later = more;
        waits = g.waiting;
        short = short;
        reaches = ap (λ (o : Option ℕ). open_of o (happened steps)) (g.ways m.to ∙ way) ∙ open_p;
      };
      heard = heard-on g.heard desk (λ l. l) refl;
      taken = g.taken;
      waiting = ap (λ (l : List Message). all_but_first l) g.waiting;
      due = g.due;
      over = over ∙ g.over;
      ways = λ n. g.ways n ∙ sym (ap (λ (f : Node → Option ℕ). f n) ways);
      read = reading-on (Posts p m) steps w.reading (λ q e k. (k, refl)) g.read;
      here = by-number (λ q. IsAs (look q (Posts p m ∷ steps)) (b.at q)) p
          (keeps (look p (Posts p m ∷ steps)) (b.at p) (record s { unsent = s.unsent ++ framed m.bytes; is_awaited = true })
          (sets.here ∙ ap (λ (x : Held). Some x) is_t) (record {
            known = k.known;
            stands = k.stands;
            guest = k.guest;
            asked = k.asked;
            begun = k.begun;
            unsent = rw (same p) (ap (λ (l : List ℕ). l ++ framed m.bytes) k.unsent
                ∙ append_assoc (went_on p (happened steps)) s.unsent (framed m.bytes));
            full = k.full;
            awaited = rw (same p) refl;
          }));
      reads = λ q e free. by-number (λ r. is_read w.reading r ≡ false → CanRead (b.at r)) p
          (λ f. subst (λ (o : Option Held). CanRead o) (sym (sets.here ∙ ap (λ (x : Held). Some x) is_t))
          (subst (λ (o : Option Held). CanRead o) is (g.reads p f))) q e free;
      rests = λ q e free. absurd (cc (sym e ∙ free));
      there = sets.there;
      still_read = λ q ne free. free;
      still_put = λ q ne free. refl;
      unused = λ q above. unused-on p (Posts p m) steps k.stands (λ r ne. ne) q (g.unused q (omega (arith, opened, above)));
    })

-- a message is lost
pub goes-loses : {H : Type 0} {v : Ghosts H} {first : v.State} {since : Desk H} {a b : Here H}
    {steps : List (Step v.Choice)} (w : Work) (m : Message) (more : List Message) → HasNoWay (rules_of v) first m steps
    → b.opened ≡ a.opened → b.desk ≡ a.desk → b.over ≡ a.over → ((q : ℕ) → b.at q ≡ a.at q) → b.ways ≡ a.ways
    → Goes v first since a (posting w (m ∷ more)) steps → Goes v first since b (posting w more) (Loses m ∷ steps)
goes-loses {H} {v} {first} {since} {a} {b} {steps} w m more no_way opened desk over there ways g = goes-by g (record {
  follows = no_way;
  heard = heard-on g.heard desk (λ l. l) refl;
  taken = g.taken;
  waiting = ap (λ (l : List Message). all_but_first l) g.waiting;
  due = g.due;
  over = over ∙ g.over;
  ways = λ n. g.ways n ∙ sym (ap (λ (f : Node → Option ℕ). f n) ways);
  read = reading-on (Loses m) steps w.reading (λ q e k. absurd (cc e)) g.read;
  here = λ q e. absurd (cc e);
  reads = λ q e. absurd (cc e);
  rests = λ q e. absurd (cc e);
  there = λ q ne. there q;
  still_read = λ q ne free. free;
  still_put = λ q ne free. free;
  unused = λ q above. g.unused q (omega (arith, opened, above));
})

-- no open connection leads to the node
pub shut-off : {H : Type 0} {v : Ghosts H} {first : v.State} {since : Desk H} {a : Here H} {w : Work}
    {steps : List (Step v.Choice)} (n : Node) → open_at (a.ways n) a.at ≡ None → Goes v first since a w steps
    → open_of (way_to n steps) (happened steps) ≡ None
shut-off {H} {v} {first} {since} {a} {w} {steps} n none g =
    ap (λ (o : Option ℕ). open_of o (happened steps)) (g.ways n) ∙ by_way (a.ways n) none
  where
    by_held : (p : ℕ) (o : Option Held) → IsAs (look p steps) o → o ≡ None → open_of (Some p) (happened steps) ≡ None
    by_held p None k e = let shut : is_open p (happened steps) ≡ false = k.0 in rw shut refl
    by_held p (Some s) k e = absurd (cc e)

    by_way : (o : Option ℕ) → open_at o a.at ≡ None → open_of o (happened steps) ≡ None
    by_way None e = refl
    by_way (Some p) e = by_held p (a.at p) (g.each p) e
