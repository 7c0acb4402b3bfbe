-- How a loop goes by what comes from outside.
use Rattle.std.proofs.Common.{◌≡◌, ◌<◌, ◌≤◌, ℕ, ◌+◌, ◌-◌, ◌^◌, true, false, min, nat_eq, List, [], ◌∷◌, ◌++◌, length, map, Option, None, Some, refl, sym, ap, subst, ◌∙◌, arith}
use Rattle.std.proofs.lemmas.List.{append-nil}
use Rattle.osd_bytes.specs.Records.{Begun, Split, fresh, split}
use Rattle.osd_bytes.proofs.RecordLaws.{carried, split-append, split-nil}
use Rattle.osd_lists.specs.declared.node.Node.{Node}
use Rattle.node_loop.specs.Nodes.{Held, Sets, held}
use Rattle.node_loop.specs.Points.{CanRead, Goes, Here, IsAs, IsKept, Look, RestsWith, Reads, Rests, blank, calm, is_of_others, look, over_with, putting, reading, resending}
use Rattle.node_loop.specs.Rules.{rules_of}
use Rattle.node_loop.specs.Steps.{Settled, Step, happened}
use Rattle.node_loop.specs.Steps.Step.{Happens}
use Rattle.node_loop.specs.declared.party.Party.{Ghosts}
use Rattle.port_loop.specs.Ports.{came_on, is_guest, is_open, over_in, went_on}
use Rattle.port_loop.specs.Serving.{Desk}
use Rattle.port_loop.specs.Sessions.{read_on}
use Rattle.port_loop.specs.Steps.{Taken, taken_in, taken_on, whole_in}
use Rattle.port_loop.specs.declared.ports.Happening.TheVariants.{Began, Came, Drained, Ended, Passed}
use Rattle.port_loop.specs.declared.serving.TheConstants.{MOST_UNSENT}
use Rattle.port_loop.proofs.ListLaws.{same}
use Rattle.node_loop.proofs.LookLaws.{by-number, either-way, heard-on, kept, keeps, keeps-none, look-other, over-more}
use Rattle.node_loop.proofs.GoingLaws.{goes-by, unused-below, unused-on}

pub goes-began : {H : Type 0} {v : Ghosts H} {first : v.State} {since : Desk H} {a b : Here H} {steps : List (Step v.Choice)}
    (p : ℕ) → Settled (rules_of v) first steps
    → p ≡ a.opened → b.opened ≡ a.opened + 1 → b.desk ≡ a.desk → b.over ≡ a.over → Sets p (Some (held None)) a.at b.at
    → b.ways ≡ a.ways → Goes v first since a calm steps → Goes v first since b resending (Happens (Began p) ∷ steps)
goes-began {H} {v} {first} {since} {a} {b} {steps} p settled number opened desk over sets ways g =
    let u = g.unused p (omega (arith, number)) in goes-by g (record {
      follows = (settled, ap (λ (l : Look). l.known) u);
      heard = heard-on g.heard desk (λ l. l) refl;
      taken = g.taken;
      waiting = g.waiting;
      due = refl;
      over = over ∙ g.over;
      ways = λ n. g.ways n ∙ sym (ap (λ (f : Node → Option ℕ). f n) ways);
      read = tt;
      here = by-number (λ q. IsAs (look q (Happens (Began p) ∷ steps)) (b.at q)) p
          (keeps (look p (Happens (Began p) ∷ steps)) (b.at p) (held None) sets.here (record {
            known = rw (same p) refl;
            stands = rw (same p) refl;
            guest = rw (same p) refl;
            asked = ap (λ (l : Look). l.asked) u;
            begun = ap (λ (l : Look). (split fresh l.came).begun) u ∙ ap (λ (s : Split). s.begun) (split-nil fresh);
            unsent = ap (λ (l : Look). l.posted) u ∙ sym (ap (λ (l : Look). l.went ++ []) u);
            full = ap (λ (l : Look). l.full) u;
            awaited = ap (λ (l : Look). l.awaited) u;
          }));
      reads = λ q e free. by-number (λ r. CanRead (b.at r)) p
          (subst (λ (o : Option Held). CanRead o) (sym sets.here) (fresh, refl)) q e;
      rests = λ q e free. by-number (λ r. Rests (b.at r)) p
          (subst (λ (o : Option Held). Rests o) (sym sets.here) (record { bound = omega arith; all = λ n. refl })) q e;
      there = sets.there;
      still_read = λ q ne free. refl;
      still_put = λ q ne free. refl;
      unused = λ q above. unused-below p b.opened (Happens (Began p)) steps (omega (arith, number, opened)) (λ r ne. ne) q above
          (g.unused q (omega (arith, opened, above)));
    })

pub goes-passed : {H : Type 0} {v : Ghosts H} {first : v.State} {since : Desk H} {a b : Here H} {steps : List (Step v.Choice)}
    → Settled (rules_of v) first steps
    → b.opened ≡ a.opened → b.desk ≡ a.desk → b.over ≡ a.over → ((q : ℕ) → b.at q ≡ a.at q) → b.ways ≡ a.ways
    → Goes v first since a calm steps → Goes v first since b resending (Happens Passed ∷ steps)
goes-passed {H} {v} {first} {since} {a} {b} {steps} settled opened desk over there ways g = goes-by g (record {
  follows = settled;
  heard = heard-on g.heard desk (λ l. l) refl;
  taken = g.taken;
  waiting = g.waiting;
  due = refl;
  over = over ∙ g.over;
  ways = λ n. g.ways n ∙ sym (ap (λ (f : Node → Option ℕ). f n) ways);
  read = tt;
  here = λ q e. absurd (cc e);
  reads = λ q e. absurd (cc e);
  rests = λ q e. absurd (cc e);
  there = λ q ne. there q;
  still_read = λ q ne free. refl;
  still_put = λ q ne free. refl;
  unused = λ q above. g.unused q (omega (arith, opened, above));
})

-- a piece comes on a connection that isn't open
pub goes-ignored : {H : Type 0} {v : Ghosts H} {first : v.State} {since : Desk H} {a b : Here H} {steps : List (Step v.Choice)}
    (p : ℕ) (bytes : List ℕ) → Settled (rules_of v) first steps → a.at p ≡ None → p < a.opened
    → b.opened ≡ a.opened → b.desk ≡ a.desk → b.over ≡ a.over → ((q : ℕ) → b.at q ≡ a.at q) → b.ways ≡ a.ways
    → Goes v first since a calm steps → Goes v first since b calm (Happens (Came p bytes) ∷ steps)
goes-ignored {H} {v} {first} {since} {a} {b} {steps} p bytes settled none less opened desk over there ways g =
    let none_held : IsAs (look p steps) None = subst (λ (o : Option Held). IsAs (look p steps) o) none (g.each p) in
    let shut : is_open p (happened steps) ≡ false = none_held.0 in goes-by g (record {
      follows = settled;
      heard = heard-on g.heard desk (λ l. l) refl;
      taken = rw shut (append-nil (taken_in (happened steps)) ∙ g.taken);
      waiting = g.waiting;
      due = g.due;
      over = over ∙ g.over;
      ways = λ n. g.ways n ∙ sym (ap (λ (f : Node → Option ℕ). f n) ways);
      read = tt;
      here = by-number (λ q. IsAs (look q (Happens (Came p bytes) ∷ steps)) (b.at q)) p
          (keeps-none (look p (Happens (Came p bytes) ∷ steps)) (b.at p) (there p ∙ none) none_held);
      reads = λ q e free. subst (λ (o : Option Held). CanRead o) (sym (there q)) (g.reads q refl);
      rests = λ q e free. subst (λ (o : Option Held). Rests o) (sym (there q)) (g.rests q refl);
      there = λ q ne. there q;
      still_read = λ q ne free. refl;
      still_put = λ q ne free. refl;
      unused = λ q above. unused-below p a.opened (Happens (Came p bytes)) steps less (λ r ne. ne) q
          (omega (arith, opened, above))
          (g.unused q (omega (arith, opened, above)));
    })

rests-on : (s t : Held) → t ≡ record s { begun = t.begun; is_awaited = false } → RestsWith s → RestsWith t
rests-on s t e r = record {
  bound = subst (λ (u : List ℕ). length u ≤ MOST_UNSENT) (sym (ap (λ (x : Held). x.unsent) e)) r.bound;
  all = λ f. ap (λ (x : Held). x.unsent) e ∙ r.all (sym (ap (λ (x : Held). x.is_full) e) ∙ f);
}

begun-carried : (rs : List (List ℕ)) (b : Option Begun) (bytes : List ℕ) →
    (carried rs b bytes).begun ≡ (read_on b bytes).begun
begun-carried rs None bytes = refl
begun-carried rs (Some b) bytes = refl

-- a piece is read, and its records are in hand
pub goes-came : {H : Type 0} {v : Ghosts H} {first : v.State} {since : Desk H} {a b : Here H} {steps : List (Step v.Choice)}
    (p : ℕ) (bytes : List ℕ) (records : List (List ℕ)) (s t : Held) → Settled (rules_of v) first steps → a.at p ≡ Some s
    → Reads bytes records s t
    → b.opened ≡ a.opened → b.desk ≡ a.desk → b.over ≡ a.over → Sets p (Some t) a.at b.at → b.ways ≡ a.ways
    → Goes v first since a calm steps → Goes v first since b (reading p s.to records) (Happens (Came p bytes) ∷ steps)
goes-came {H} {v} {first} {since} {a} {b} {steps} p bytes records s t settled is reads opened desk over sets ways g =
    let k : IsKept (look p steps) s = kept (look p steps) (a.at p) s is (g.each p) in
    let stands : is_open p (happened steps) ≡ true = k.stands in
    let whole : whole_in (came_on p (happened steps)) bytes ≡ records =
    ap (λ (x : Option Begun). (read_on x bytes).records) k.begun ∙ ap (λ (x : Split). x.records) reads.0 in
    goes-by g (record {
      follows = settled;
      heard = heard-on g.heard desk (λ l. l) refl;
      taken = rw (stands, whole) (ap (λ (l : List Taken). l ++ map (taken_on p) records) (g.taken ∙ append-nil _));
      waiting = g.waiting;
      due = g.due;
      over = over ∙ g.over;
      ways = λ n. g.ways n ∙ sym (ap (λ (f : Node → Option ℕ). f n) ways);
      read = (k.known, k.asked);
      here = by-number (λ q. IsAs (look q (Happens (Came p bytes) ∷ steps)) (b.at q)) p
          (keeps (look p (Happens (Came p bytes) ∷ steps)) (b.at p) t sets.here (record {
            known = k.known;
            stands = k.stands;
            guest = k.guest ∙ sym (ap (λ (x : Held). is_of_others x.to) reads.1);
            asked = k.asked ∙ sym (ap (λ (x : Held). x.to) reads.1);
            begun = rw (same p, stands) (ap (λ (x : Split). x.begun) (split-append fresh (came_on p (happened steps)) bytes)
                ∙ ap (λ (x : Option Begun). (carried (split fresh (came_on p (happened steps))).records x bytes).begun) k.begun
                ∙ begun-carried (split fresh (came_on p (happened steps))).records s.begun bytes
                ∙ ap (λ (x : Split). x.begun) reads.0);
            unsent = k.unsent ∙ sym (ap (λ (x : Held). went_on p (happened steps) ++ x.unsent) reads.1);
            full = k.full ∙ sym (ap (λ (x : Held). x.is_full) reads.1);
            awaited = rw (same p) (sym (ap (λ (x : Held). x.is_awaited) reads.1));
          }));
      reads = λ q e free. absurd (cc (sym e ∙ free));
      rests = λ q e free. by-number (λ r. Rests (b.at r)) p
          (subst (λ (o : Option Held). Rests o) (sym sets.here)
          (rests-on s t reads.1 (subst (λ (o : Option Held). Rests o) is (g.rests p refl)))) q e;
      there = sets.there;
      still_read = λ q ne free. refl;
      still_put = λ q ne free. refl;
      unused = λ q above. unused-on p (Happens (Came p bytes)) steps k.stands (λ r ne. ne) q
          (g.unused q (omega (arith, opened, above)));
    })

pub goes-drained : {H : Type 0} {v : Ghosts H} {first : v.State} {since : Desk H} {a b : Here H} {steps : List (Step v.Choice)}
    (p : ℕ) (s t : Held) → Settled (rules_of v) first steps → a.at p ≡ Some s → t ≡ record s { is_full = false }
    → b.opened ≡ a.opened → b.desk ≡ a.desk → b.over ≡ a.over → Sets p (Some t) a.at b.at → b.ways ≡ a.ways
    → Goes v first since a calm steps → Goes v first since b (putting calm p) (Happens (Drained p) ∷ steps)
goes-drained {H} {v} {first} {since} {a} {b} {steps} p s t settled is is_t opened desk over sets ways g =
    let k : IsKept (look p steps) s = kept (look p steps) (a.at p) s is (g.each p) in
    goes-by g (record {
      follows = settled;
      heard = heard-on g.heard desk (λ l. l) refl;
      taken = g.taken;
      waiting = g.waiting;
      due = g.due;
      over = over ∙ g.over;
      ways = λ n. g.ways n ∙ sym (ap (λ (f : Node → Option ℕ). f n) ways);
      read = tt;
      here = by-number (λ q. IsAs (look q (Happens (Drained p) ∷ steps)) (b.at q)) p
          (keeps (look p (Happens (Drained p) ∷ steps)) (b.at p) (record s { is_full = false })
          (sets.here ∙ ap (λ (x : Held). Some x) is_t) (record {
            known = k.known;
            stands = k.stands;
            guest = k.guest;
            asked = k.asked;
            begun = k.begun;
            unsent = k.unsent;
            full = rw (same p) refl;
            awaited = k.awaited;
          }));
      reads = λ q e free. by-number (λ r. CanRead (b.at r)) p
          (subst (λ (o : Option Held). CanRead o) (sym (sets.here ∙ ap (λ (x : Held). Some x) is_t))
          (subst (λ (o : Option Held). CanRead o) is (g.reads p refl))) q e;
      rests = λ q e free. absurd (cc (sym e ∙ free));
      there = sets.there;
      still_read = λ q ne free. refl;
      still_put = λ q ne free. refl;
      unused = λ q above. unused-on p (Happens (Drained p)) steps k.stands (λ r ne. ne) q
          (g.unused q (omega (arith, opened, above)));
    })

-- there is room on a connection that isn't open
pub goes-drained-none : {H : Type 0} {v : Ghosts H} {first : v.State} {since : Desk H} {a b : Here H}
    {steps : List (Step v.Choice)} (p : ℕ) → Settled (rules_of v) first steps → a.at p ≡ None
    → b.opened ≡ a.opened → b.desk ≡ a.desk → b.over ≡ a.over → ((q : ℕ) → b.at q ≡ a.at q) → b.ways ≡ a.ways
    → Goes v first since a calm steps → Goes v first since b calm (Happens (Drained p) ∷ steps)
goes-drained-none {H} {v} {first} {since} {a} {b} {steps} p settled none opened desk over there ways g =
    let none_held : IsAs (look p steps) None = subst (λ (o : Option Held). IsAs (look p steps) o) none (g.each p) in
    goes-by g (record {
      follows = settled;
      heard = heard-on g.heard desk (λ l. l) refl;
      taken = g.taken;
      waiting = g.waiting;
      due = g.due;
      over = over ∙ g.over;
      ways = λ n. g.ways n ∙ sym (ap (λ (f : Node → Option ℕ). f n) ways);
      read = tt;
      here = by-number (λ q. IsAs (look q (Happens (Drained p) ∷ steps)) (b.at q)) p
          (keeps-none (look p (Happens (Drained p) ∷ steps)) (b.at p) (there p ∙ none) none_held);
      reads = λ q e free. subst (λ (o : Option Held). CanRead o) (sym (there q)) (g.reads q refl);
      rests = λ q e free. subst (λ (o : Option Held). Rests o) (sym (there q)) (g.rests q refl);
      there = λ q ne. there q;
      still_read = λ q ne free. refl;
      still_put = λ q ne free. refl;
      unused = λ q above. unused-drained p q steps (g.unused q (omega (arith, opened, above)));
    })
  where
    unused-drained : {C : Type 0} (p q : ℕ) (steps : List (Step C)) → look q steps ≡ blank
        → look q (Happens (Drained p) ∷ steps) ≡ blank
    unused-drained p q steps u =
        either-way (nat_eq p q) (λ e. rw e (ap (λ (l : Look). record l { full = false }) u))
        (λ ne. look-other q (Happens (Drained p)) steps ne ∙ u)

-- a connection ends, or another number
pub goes-ended : {H : Type 0} {v : Ghosts H} {first : v.State} {since : Desk H} {a b : Here H} {steps : List (Step v.Choice)}
    (p : ℕ) → Settled (rules_of v) first steps
    → b.opened ≡ a.opened → b.desk ≡ a.desk → b.over ≡ over_with (a.at p) a.over → Sets p None a.at b.at → b.ways ≡ a.ways
    → Goes v first since a calm steps → Goes v first since b calm (Happens (Ended p) ∷ steps)
goes-ended {H} {v} {first} {since} {a} {b} {steps} p settled opened desk over sets ways g = goes-by g (record {
  follows = settled;
  heard = heard-on g.heard desk (λ l. l) refl;
  taken = g.taken;
  waiting = g.waiting;
  due = g.due;
  over = ended (a.at p) (g.each p) over;
  ways = λ n. g.ways n ∙ sym (ap (λ (f : Node → Option ℕ). f n) ways);
  read = tt;
  here = by-number (λ q. IsAs (look q (Happens (Ended p) ∷ steps)) (b.at q)) p
      (keeps-none (look p (Happens (Ended p) ∷ steps)) (b.at p) sets.here (rw (same p) refl, rw (same p) refl));
  reads = λ q e free. by-number (λ r. CanRead (b.at r)) p (subst (λ (o : Option Held). CanRead o) (sym sets.here) tt) q e;
  rests = λ q e free. by-number (λ r. Rests (b.at r)) p (subst (λ (o : Option Held). Rests o) (sym sets.here) tt) q e;
  there = sets.there;
  still_read = λ q ne free. refl;
  still_put = λ q ne free. refl;
  unused = λ q above. unused-ended p q steps (g.unused q (omega (arith, opened, above)));
})
  where
    ended : (o : Option Held) → IsAs (look p steps) o → b.over ≡ over_with o a.over →
        b.over ≡ min (over_in (Ended p ∷ happened steps)) (2 ^ 64 - 1)
    ended None none e =
        let shut : is_guest p (happened steps) ≡ false = none.1 in rw shut (e ∙ g.over)
    ended (Some s) k e = over-more s.to a.over b.over (over_in (happened steps)) (look p steps).guest k.guest g.over e

    unused-ended : {C : Type 0} (p q : ℕ) (steps : List (Step C)) → look q steps ≡ blank
        → look q (Happens (Ended p) ∷ steps) ≡ blank
    unused-ended p q steps u =
        either-way (nat_eq p q) (λ e. rw e (ap (λ (l : Look). record l { stands = false; guest = false }) u))
        (λ ne. look-other q (Happens (Ended p)) steps ne ∙ u)
