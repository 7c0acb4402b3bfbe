-- How a loop goes by what it does on one connection.
use Rattle.std.proofs.Common.{◌≡◌, ℕ, ◌+◌, Bool, false, nat_eq, if◌then◌else◌, List, [], ◌∷◌, ◌++◌, take, drop, Option, None, Some, refl, sym, ap, subst, ◌∙◌, append_assoc, arith}
use Rattle.std.proofs.lemmas.List.{take-append-drop}
use Rattle.osd_bytes.specs.Records.{Split, fresh, split}
use Rattle.osd_bytes.proofs.RecordLaws.{split-nil}
use Rattle.osd_lists.specs.declared.node.Node.{Node}
use Rattle.node_loop.specs.Nodes.{Held, Leads, Sets, held, is_node}
use Rattle.node_loop.specs.Points.{CanRead, Goes, Here, IsAs, IsKept, IsReading, Look, Rests, Work, calm, is_at, is_read, look, over_after, posting, putting, reading}
use Rattle.node_loop.specs.Rules.{rules_of}
use Rattle.node_loop.specs.Steps.{HasEnd, Step, Wants, all_but_first, happened, heard_in}
use Rattle.node_loop.specs.Steps.Step.{Happens}
use Rattle.node_loop.specs.declared.party.Message.{Message}
use Rattle.node_loop.specs.declared.party.Party.{Ghosts}
use Rattle.port_loop.specs.Ports.{over_in, went_on}
use Rattle.port_loop.specs.Serving.{Desk}
use Rattle.port_loop.specs.Steps.{Taken}
use Rattle.port_loop.specs.declared.ports.Happening.TheVariants.{Opened, Refused, Went, Failed, Closed}
use Rattle.port_loop.proofs.ListLaws.{everywhere, same}
use Rattle.node_loop.proofs.LookLaws.{by-number, heard-on, kept, keeps, keeps-none, over-more, reading-on}
use Rattle.node_loop.proofs.GoingLaws.{goes-by, unused-below, unused-on}

-- of the one that is opened the message comes next, so nothing else changes
pub goes-opened : {H : Type 0} {v : Ghosts H} {first : v.State} {since : Desk H} {a b : Here H} {w : Work}
    {steps : List (Step v.Choice)} (p : ℕ) (to : Node) → w.writing ≡ None → Wants (rules_of v) first to steps
    → p ≡ a.opened → b.opened ≡ a.opened + 1 → b.desk ≡ a.desk → b.over ≡ a.over → Sets p (Some (held (Some to))) a.at b.at
    → Leads to p a.ways b.ways
    → Goes v first since a w steps → Goes v first since b w (Happens (Opened p to) ∷ steps)
goes-opened {H} {v} {first} {since} {a} {b} {w} {steps} p to idle wants number opened desk over sets leads g =
    let u = g.unused p (omega (arith, number)) in goes-by g (record {
      follows = (wants, ap (λ (l : Look). l.known) u);
      heard = heard-on g.heard desk (λ l. l) refl;
      taken = g.taken;
      waiting = g.waiting;
      due = g.due;
      over = over ∙ g.over;
      ways = λ n. ap (λ (o : Option ℕ). if is_node to n then Some p else o) (g.ways n) ∙ sym (leads n);
      read = reading-on (Happens (Opened p to)) steps w.reading
          (λ q e k. absurd (cc (sym k ∙ by-number (λ r. (look r steps).known ≡ false) p (ap (λ (l : Look). l.known) u) q
          e))) g.read;
      here = by-number (λ q. IsAs (look q (Happens (Opened p to) ∷ steps)) (b.at q)) p
          (keeps (look p (Happens (Opened p to) ∷ steps)) (b.at p) (held (Some to)) sets.here (record {
            known = rw (same p) refl;
            stands = rw (same p) refl;
            guest = ap (λ (l : Look). l.guest) u;
            asked = rw (same p) refl;
            begun = ap (λ (l : Look). (split fresh l.came).begun) u ∙ ap (λ (s : Split). s.begun) (split-nil fresh);
            unsent = ap (λ (l : Look). l.posted) u ∙ sym (ap (λ (l : Look). l.went ++ []) u);
            full = ap (λ (l : Look). l.full) u;
            awaited = ap (λ (l : Look). l.awaited) u;
          }));
      reads = λ q e free. by-number (λ r. CanRead (b.at r)) p
          (subst (λ (o : Option Held). CanRead o) (sym sets.here) (fresh, refl)) q e;
      rests = λ q e free. by-number (λ r. Rests (b.at r)) p
          (subst (λ (o : Option Held). Rests o) (sym sets.here) (record { bound = omega arith; all = λ n. refl })) q e;
      there = sets.there;
      still_read = λ q ne free. free;
      still_put = λ q ne free. free;
      unused = λ q above. unused-below p b.opened (Happens (Opened p to)) steps (omega (arith, number, opened))
          (λ r ne. ne) q above
          (g.unused q (omega (arith, opened, above)));
    })

-- none could be opened, so the message is lost
pub goes-refused : {H : Type 0} {v : Ghosts H} {first : v.State} {since : Desk H} {a b : Here H}
    {steps : List (Step v.Choice)} (w : Work) (to : Node) (m : Message) (more : List Message) → Wants (rules_of v) first to steps
    → b.opened ≡ a.opened → b.desk ≡ a.desk → b.over ≡ a.over → ((q : ℕ) → b.at q ≡ a.at q) → b.ways ≡ a.ways
    → Goes v first since a (posting w (m ∷ more)) steps → Goes v first since b (posting w more) (Happens (Refused to) ∷ steps)
goes-refused {H} {v} {first} {since} {a} {b} {steps} w to m more wants opened desk over there ways g = goes-by g (record {
  follows = wants;
  heard = heard-on g.heard desk (λ l. l) refl;
  taken = g.taken;
  waiting = ap (λ (l : List Message). all_but_first l) g.waiting;
  due = g.due;
  over = over ∙ g.over;
  ways = λ n. g.ways n ∙ sym (ap (λ (f : Node → Option ℕ). f n) ways);
  read = reading-on (Happens (Refused to)) steps w.reading (λ q e k. absurd (cc e)) g.read;
  here = λ q e. absurd (cc e);
  reads = λ q e. absurd (cc e);
  rests = λ q e. absurd (cc e);
  there = λ q ne. there q;
  still_read = λ q ne free. free;
  still_put = λ q ne free. free;
  unused = λ q above. g.unused q (omega (arith, opened, above));
})

pub goes-went : {H : Type 0} {v : Ghosts H} {first : v.State} {since : Desk H} {a b : Here H}
    {steps : List (Step v.Choice)} (w : Work) (p n : ℕ) (full : Bool) (s t : Held)
    → a.at p ≡ Some s → t ≡ record s { unsent = drop n s.unsent; is_full = full }
    → b.opened ≡ a.opened → b.desk ≡ a.desk → b.over ≡ a.over → Sets p (Some t) a.at b.at → b.ways ≡ a.ways
    → Goes v first since a (putting w p) steps
    → Goes v first since b (putting w p) (Happens (Went p (take n s.unsent) full) ∷ steps)
goes-went {H} {v} {first} {since} {a} {b} {steps} w p n full s t is is_t opened desk over sets ways g =
    let k : IsKept (look p steps) s = kept (look p steps) (a.at p) s is (g.each p) in
    let both : (look p steps).posted ≡ went_on p (happened steps) ++ (take n s.unsent ++ drop n s.unsent) =
    k.unsent ∙ ap (λ (l : List ℕ). went_on p (happened steps) ++ l) (sym (take-append-drop n s.unsent)) in
    goes-by g (record {
      follows = (k.stands, drop n s.unsent, both);
      heard = heard-on g.heard desk (λ l. l) refl;
      taken = g.taken;
      waiting = g.waiting;
      due = g.due;
      over = over ∙ g.over;
      ways = λ m. g.ways m ∙ sym (ap (λ (f : Node → Option ℕ). f m) ways);
      read = reading-on (Happens (Went p (take n s.unsent) full)) steps w.reading (λ q e k. (k, refl)) g.read;
      here = by-number (λ q. IsAs (look q (Happens (Went p (take n s.unsent) full) ∷ steps)) (b.at q)) p
          (keeps (look p (Happens (Went p (take n s.unsent) full) ∷ steps)) (b.at p)
          (record s { unsent = drop n s.unsent; is_full = full }) (sets.here ∙ ap (λ (x : Held). Some x) is_t) (record {
            known = k.known;
            stands = k.stands;
            guest = k.guest;
            asked = k.asked;
            begun = k.begun;
            unsent = rw (same p)
                (both ∙ sym (append_assoc (went_on p (happened steps)) (take n s.unsent) (drop n s.unsent)));
            full = rw (same p) refl;
            awaited = k.awaited;
          }));
      reads = λ q e free. by-number (λ r. is_read w.reading r ≡ false → CanRead (b.at r)) p
          (λ f. subst (λ (o : Option Held). CanRead o) (sym (sets.here ∙ ap (λ (x : Held). Some x) is_t))
          (subst (λ (o : Option Held). CanRead o) is (g.reads p f))) q e free;
      rests = λ q e free. absurd (cc (sym e ∙ free));
      there = sets.there;
      still_read = λ q ne free. free;
      still_put = λ q ne free. ne;
      unused = λ q above. unused-on p (Happens (Went p (take n s.unsent) full)) steps k.stands (λ r ne. ne) q
          (g.unused q (omega (arith, opened, above)));
    })

pub goes-failed : {H : Type 0} {v : Ghosts H} {first : v.State} {since : Desk H} {a b : Here H}
    {steps : List (Step v.Choice)} (w : Work) (p : ℕ) (s : Held) → a.at p ≡ Some s
    → b.opened ≡ a.opened → b.desk ≡ a.desk → b.over ≡ a.over → ((q : ℕ) → b.at q ≡ a.at q) → b.ways ≡ a.ways
    → Goes v first since a (putting w p) steps → Goes v first since b (putting w p) (Happens (Failed p) ∷ steps)
goes-failed {H} {v} {first} {since} {a} {b} {steps} w p s is opened desk over there ways g =
    let k : IsKept (look p steps) s = kept (look p steps) (a.at p) s is (g.each p) in
    goes-by g (record {
      follows = k.stands;
      heard = heard-on g.heard desk (λ l. l) refl;
      taken = g.taken;
      waiting = g.waiting;
      due = g.due;
      over = over ∙ g.over;
      ways = λ n. g.ways n ∙ sym (ap (λ (f : Node → Option ℕ). f n) ways);
      read = reading-on (Happens (Failed p)) steps w.reading (λ q e k. (k, refl)) g.read;
      here = λ q e. subst (λ (o : Option Held). IsAs (look q steps) o) (sym (there q)) (g.each q);
      reads = λ q e free. subst (λ (o : Option Held). CanRead o) (sym (there q)) (g.reads q free);
      rests = λ q e free. absurd (cc (sym e ∙ free));
      there = λ q ne. there q;
      still_read = λ q ne free. free;
      still_put = λ q ne free. ne;
      unused = λ q above. unused-on p (Happens (Failed p)) steps k.stands (λ r ne. ne) q
          (g.unused q (omega (arith, opened, above)));
    })

-- a connection is closed on which is put, or of which a piece was read; `y` is what is still in hand
pub goes-closed : {H : Type 0} {v : Ghosts H} {first : v.State} {since : Desk H} {a b : Here H} {w y : Work}
    {steps : List (Step v.Choice)} (p : ℕ) (s : Held) → a.at p ≡ Some s → HasEnd p steps
    → b.opened ≡ a.opened → b.desk ≡ a.desk → b.over ≡ over_after s.to a.over → Sets p None a.at b.at → b.ways ≡ a.ways
    → y.pending ≡ w.pending → y.waiting ≡ w.waiting → y.due ≡ w.due → IsReading steps y.reading
    → ((q : ℕ) → nat_eq p q ≡ false → is_read y.reading q ≡ false → is_read w.reading q ≡ false)
    → ((q : ℕ) → nat_eq p q ≡ false → is_at y.writing q ≡ false → is_at w.writing q ≡ false)
    → Goes v first since a w steps → Goes v first since b y (Happens (Closed p) ∷ steps)
goes-closed {H} {v} {first} {since} {a} {b} {w} {y} {steps} p s is ends opened desk over sets ways pending waiting due read
    still_read still_put g =
    let k : IsKept (look p steps) s = kept (look p steps) (a.at p) s is (g.each p) in
    goes-by g (record {
      follows = (k.stands, ends);
      heard = heard-on g.heard desk (λ l. l) refl;
      taken = g.taken ∙ ap (λ (l : List Taken). heard_in steps ++ l) (sym pending);
      waiting = g.waiting ∙ sym waiting;
      due = g.due ∙ sym due;
      over = over-more s.to a.over b.over (over_in (happened steps)) (look p steps).guest k.guest g.over over;
      ways = λ n. g.ways n ∙ sym (ap (λ (f : Node → Option ℕ). f n) ways);
      read = reading-on (Happens (Closed p)) steps y.reading (λ q e k. (k, refl)) read;
      here = by-number (λ q. IsAs (look q (Happens (Closed p) ∷ steps)) (b.at q)) p
          (keeps-none (look p (Happens (Closed p) ∷ steps)) (b.at p) sets.here (rw (same p) refl, rw (same p) refl));
      reads = λ q e free. by-number (λ r. CanRead (b.at r)) p (subst (λ (o : Option Held). CanRead o) (sym sets.here) tt) q e;
      rests = λ q e free. by-number (λ r. Rests (b.at r)) p (subst (λ (o : Option Held). Rests o) (sym sets.here) tt) q e;
      there = sets.there;
      still_read = still_read;
      still_put = still_put;
      unused = λ q above. unused-on p (Happens (Closed p)) steps k.stands (λ r ne. ne) q
          (g.unused q (omega (arith, opened, above)));
    })

-- nothing is to be put on a connection any more
pub goes-rests : {H : Type 0} {v : Ghosts H} {first : v.State} {since : Desk H} {a b : Here H} {w : Work}
    {steps : List (Step v.Choice)} (p : ℕ) → Rests (a.at p)
    → b.opened ≡ a.opened → b.desk ≡ a.desk → b.over ≡ a.over → ((q : ℕ) → b.at q ≡ a.at q) → b.ways ≡ a.ways
    → Goes v first since a (putting w p) steps → Goes v first since b w steps
goes-rests {H} {v} {first} {since} {a} {b} {w} {steps} p rests opened desk over there ways g = record {
  lawful = g.lawful;
  heard = heard-on g.heard desk (λ l. l) refl;
  taken = g.taken;
  waiting = g.waiting;
  due = g.due;
  over = over ∙ g.over;
  ways = λ n. g.ways n ∙ sym (ap (λ (f : Node → Option ℕ). f n) ways);
  each = λ q. subst (λ (o : Option Held). IsAs (look q steps) o) (sym (there q)) (g.each q);
  read = g.read;
  reads = λ q free. subst (λ (o : Option Held). CanRead o) (sym (there q)) (g.reads q free);
  rests = λ q free. subst (λ (o : Option Held). Rests o) (sym (there q))
      (everywhere (λ r. Rests (a.at r)) p q rests (λ ne. g.rests q ne));
  unused = λ q above. g.unused q (omega (arith, opened, above));
}

-- all records of the piece were heard, and its connection can be read on
pub goes-read : {H : Type 0} {v : Ghosts H} {first : v.State} {since : Desk H} {a b : Here H} {to : Option Node}
    {steps : List (Step v.Choice)} (p : ℕ) → CanRead (a.at p)
    → b.opened ≡ a.opened → b.desk ≡ a.desk → b.over ≡ a.over → ((q : ℕ) → b.at q ≡ a.at q) → b.ways ≡ a.ways
    → Goes v first since a (reading p to []) steps → Goes v first since b calm steps
goes-read {H} {v} {first} {since} {a} {b} {to} {steps} p reads opened desk over there ways g = record {
  lawful = g.lawful;
  heard = heard-on g.heard desk (λ l. l) refl;
  taken = g.taken;
  waiting = g.waiting;
  due = g.due;
  over = over ∙ g.over;
  ways = λ n. g.ways n ∙ sym (ap (λ (f : Node → Option ℕ). f n) ways);
  each = λ q. subst (λ (o : Option Held). IsAs (look q steps) o) (sym (there q)) (g.each q);
  read = tt;
  reads = λ q free. subst (λ (o : Option Held). CanRead o) (sym (there q))
      (everywhere (λ r. CanRead (a.at r)) p q reads (λ ne. g.reads q ne));
  rests = λ q free. subst (λ (o : Option Held). Rests o) (sym (there q)) (g.rests q refl);
  unused = λ q above. g.unused q (omega (arith, opened, above));
}

-- the same place, seen anew
pub goes-on : {H : Type 0} {v : Ghosts H} {first : v.State} {since : Desk H} {a b : Here H} {w : Work}
    {steps : List (Step v.Choice)}
    → b.opened ≡ a.opened → b.desk ≡ a.desk → b.over ≡ a.over → ((q : ℕ) → b.at q ≡ a.at q) → ((n : Node) → b.ways n ≡ a.ways n)
    → Goes v first since a w steps → Goes v first since b w steps
goes-on {H} {v} {first} {since} {a} {b} {w} {steps} opened desk over there ways g = record {
  lawful = g.lawful;
  heard = heard-on g.heard desk (λ l. l) refl;
  taken = g.taken;
  waiting = g.waiting;
  due = g.due;
  over = over ∙ g.over;
  ways = λ n. g.ways n ∙ sym (ways n);
  each = λ q. subst (λ (o : Option Held). IsAs (look q steps) o) (sym (there q)) (g.each q);
  read = g.read;
  reads = λ q free. subst (λ (o : Option Held). CanRead o) (sym (there q)) (g.reads q free);
  rests = λ q free. subst (λ (o : Option Held). Rests o) (sym (there q)) (g.rests q free);
  unused = λ q above. g.unused q (omega (arith, opened, above));
}
