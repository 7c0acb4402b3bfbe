-- How a loop goes by one step more.
use Rattle.std.proofs.Common.{◌≡◌, ◌<◌, ◌≤◌, ℕ, ◌+◌, Bool, false, nat_eq, List, [], ◌∷◌, ◌++◌, map, take, drop, Option, None, Some, refl, sym, ap, subst, ◌∙◌, append_assoc, arith}
use Rattle.std.proofs.lemmas.List.{append-nil, map-append, take-append-drop}
use Rattle.osd_bytes.specs.Clocks.{TellsTime}
use Rattle.osd_bytes.specs.Records.{Begun, Split, framed, fresh, split}
use Rattle.osd_bytes.proofs.RecordLaws.{carried, split-append, split-nil}
use Rattle.port_loop.specs.Points.{Around, Goes, IsHeld, Rests, Sets, Unused, Work, calm, is_busy, on, with_over}
use Rattle.port_loop.specs.Ports.{came_on, is_full, is_open, over_in, went_on}
use Rattle.port_loop.specs.declared.ports.Happening.{Happening}
use Rattle.port_loop.specs.declared.ports.Happening.TheVariants.{Began, Came, Went, Failed, Drained, Ended, Closed, Passed}
use Rattle.port_loop.specs.declared.handler.Handler.{Ghosts}
use Rattle.port_loop.specs.Serving.{Desk, HandlesAll}
use Rattle.port_loop.specs.Sessions.{Reads, Sess, new_session, read_on}
use Rattle.port_loop.specs.Steps.{Answer, Change, Follows, Handled, HasEnd, Step, Taken, after_all, frames_on, handled_in, happened, record_of, taken_in, taken_on, whole_in}
use Rattle.port_loop.specs.Steps.Step.{Happens, Handles}
use Rattle.port_loop.proofs.FrontLaws.{guests}
use Rattle.port_loop.proofs.ListLaws.{after-append, everywhere, frames-append, handles-append, other, same}
use Rattle.port_loop.proofs.StepLaws.{Alike, alike-other, apart, full-other, goes-settled, opens, port_of, rests-alike, stands-alike, unused-other}

-- something happened on a connection; what is to be shown is about that one
pub goes-happens : {H : Type 0} {v : Ghosts H} {first : v.State} {since : Desk H} {a b : Around H}
    {w x : Work} {at bt : ℕ → Option Sess} {steps : List Step} (h : Happening)
    → Follows v.reply_to v.state_after first (Happens h) steps
    → taken_in (h ∷ happened steps) ≡ map record_of (handled_in steps) ++ x.pending
    → b.desk ≡ a.desk → b.over ≡ over_in (h ∷ happened steps)
    → IsHeld v.reply_to v.state_after first (Happens h ∷ steps) (port_of h) (bt (port_of h))
    → (is_busy x.busy (port_of h) ≡ false → Rests (Happens h ∷ steps) (port_of h) (bt (port_of h)))
    → ((q : ℕ) → nat_eq (port_of h) q ≡ false → bt q ≡ at q)
    → ((q : ℕ) → nat_eq (port_of h) q ≡ false → is_busy w.busy q ≡ false)
    → ((q : ℕ) → b.opened ≤ q → Unused v.reply_to v.state_after first (Happens h ∷ steps) q)
    → Goes v first since a w at steps → Goes v first since b x bt (Happens h ∷ steps)
goes-happens {H} {v} {first} {since} {a} {b} {w} {x} {at} {bt} {steps} h follows records desk over here rests
    there free unused g = record {
      lawful = (follows, g.lawful);
      records = records;
      state = ap (λ (d : Desk H). v.state d.handler) desk ∙ g.state;
      desk = subst (λ (d : Desk H). HandlesAll v since (handled_in steps) d) (sym desk) g.desk;
      over = over;
      each = λ q. everywhere (λ r. IsHeld v.reply_to v.state_after first (Happens h ∷ steps) r (bt r)) (port_of h) q here
          (λ ne. subst (λ (o : Option Sess). IsHeld v.reply_to v.state_after first (Happens h ∷ steps) q o) (sym (there q ne))
          (stands-alike (at q) (alike-other q h steps ne) (g.each q)));
      rests = λ q. everywhere (λ r. is_busy x.busy r ≡ false → Rests (Happens h ∷ steps) r (bt r)) (port_of h) q rests
          (λ ne idle. subst (λ (o : Option Sess). Rests (Happens h ∷ steps) q o) (sym (there q ne))
          (rests-alike q (Happens h ∷ steps) steps (at q) (full-other q h steps ne) (g.rests q (free q ne))));
      unused = unused;
    }

-- ---- what comes from outside

pub goes-began : {H : Type 0} {v : Ghosts H} {first : v.State} {since : Desk H} {a b : Around H}
    {at bt : ℕ → Option Sess} {steps : List Step} (p : ℕ)
    → p ≡ a.opened → b.opened ≡ a.opened + 1 → b.desk ≡ a.desk → b.over ≡ a.over → Sets p (Some new_session) at bt
    → Goes v first since a calm at steps → Goes v first since b calm bt (Happens (Began p) ∷ steps)
goes-began {H} {v} {first} {since} {a} {b} {at} {bt} {steps} p number opened desk over sets g =
    let u = g.unused p (omega (arith, number)) in
    goes-happens (Began p) (goes-settled g, u.unknown) g.records desk (over ∙ g.over)
    (subst (λ (o : Option Sess). IsHeld v.reply_to v.state_after first (Happens (Began p) ∷ steps) p o) (sym sets.here)
    (rw (same p) refl, rw u.came (ap (λ (s : Split). s.begun) (split-nil fresh)), rw (u.frames, u.went) refl))
    (λ idle. subst (λ (o : Option Sess). Rests (Happens (Began p) ∷ steps) p o) (sym sets.here)
    (record { begun = (fresh, refl); bound = omega arith; all = λ e. refl }))
    sets.there (λ q ne. refl)
    (λ q above. unused-other q (Began p) steps (other p q (λ e. omega (arith, opened, above, number, e)))
    (g.unused q (omega (arith, opened, above)))) g

pub goes-ignored : {H : Type 0} {v : Ghosts H} {first : v.State} {since : Desk H} {a b : Around H}
    {at bt : ℕ → Option Sess} {steps : List Step} (p : ℕ) (bytes : List ℕ)
    → at p ≡ None → p < a.opened → b.opened ≡ a.opened → b.desk ≡ a.desk → b.over ≡ a.over → Sets p None at bt
    → Goes v first since a calm at steps → Goes v first since b calm bt (Happens (Came p bytes) ∷ steps)
goes-ignored {H} {v} {first} {since} {a} {b} {at} {bt} {steps} p bytes none less opened desk over sets g =
    let shut : is_open p (happened steps) ≡ false =
    subst (λ (o : Option Sess). IsHeld v.reply_to v.state_after first steps p o) none (g.each p) in
    goes-happens (Came p bytes) (goes-settled g)
    (rw shut (append-nil (taken_in (happened steps)) ∙ g.records)) desk (over ∙ g.over)
    (subst (λ (o : Option Sess). IsHeld v.reply_to v.state_after first (Happens (Came p bytes) ∷ steps) p o) (sym sets.here) shut)
    (λ idle. subst (λ (o : Option Sess). Rests (Happens (Came p bytes) ∷ steps) p o) (sym sets.here) tt)
    sets.there (λ q ne. refl)
    (λ q above. unused-other q (Came p bytes) steps (other p q (λ e. omega (arith, opened, above, less, e)))
    (g.unused q (omega (arith, opened, above)))) g

-- a piece is read, and its records are in hand
pub goes-came : {H : Type 0} {v : Ghosts H} {first : v.State} {since : Desk H} {a b : Around H}
    {at bt : ℕ → Option Sess} {steps : List Step} (p : ℕ) (bytes : List ℕ) (records : List (List ℕ)) (s t : Sess)
    → at p ≡ Some s → Reads bytes records s t → b.opened ≡ a.opened → b.desk ≡ a.desk → b.over ≡ a.over
    → Sets p (Some t) at bt
    → Goes v first since a calm at steps
    → Goes v first since b (on p records) bt (Happens (Came p bytes) ∷ steps)
goes-came {H} {v} {first} {since} {a} {b} {at} {bt} {steps} p bytes records s t is reads opened desk over sets g =
    let h : IsHeld v.reply_to v.state_after first steps p (Some s) = opens v.reply_to v.state_after first steps p s (at p) is
    (g.each p) in
    let whole : whole_in (came_on p (happened steps)) bytes ≡ records =
    ap (λ (x : Option Begun). (read_on x bytes).records) h.1 ∙ ap (λ (x : Split). x.records) reads.0 in
    goes-happens (Came p bytes) (goes-settled g)
    (rw (h.0, whole) (ap (λ (l : List Taken). l ++ map (taken_on p) records) (g.records ∙ append-nil _))) desk (over ∙ g.over)
    (subst (λ (o : Option Sess). IsHeld v.reply_to v.state_after first (Happens (Came p bytes) ∷ steps) p o) (sym sets.here) (
      h.0,
      rw (same p, h.0) (ap (λ (x : Split). x.begun) (split-append fresh (came_on p (happened steps)) bytes)
          ∙ ap (λ (x : Option Begun). (carried (split fresh (came_on p (happened steps))).records x bytes).begun) h.1
          ∙ begun-carried (split fresh (came_on p (happened steps))).records s.begun bytes
          ∙ ap (λ (x : Split). x.begun) reads.0),
      rw reads.1 h.2,
    ))
    (λ idle. absurd (cc (sym idle ∙ same p)))
    sets.there (λ q ne. refl)
    (λ q above. let u = g.unused q (omega (arith, opened, above)) in
    unused-other q (Came p bytes) steps (apart p q h.0 u) u) g
  where
    begun-carried : (rs : List (List ℕ)) (b : Option Begun) (bytes : List ℕ) →
        (carried rs b bytes).begun ≡ (read_on b bytes).begun
    begun-carried rs None bytes = refl
    begun-carried rs (Some b) bytes = refl

pub goes-drained : {H : Type 0} {v : Ghosts H} {first : v.State} {since : Desk H} {a b : Around H}
    {at : ℕ → Option Sess} {steps : List Step} (p : ℕ)
    → b.opened ≡ a.opened → b.desk ≡ a.desk → b.over ≡ a.over
    → Goes v first since a calm at steps
    → Goes v first since b (on p []) at (Happens (Drained p) ∷ steps)
goes-drained {H} {v} {first} {since} {a} {b} {at} {steps} p opened desk over g =
    let alike : Alike v.reply_to v.state_after first p (Happens (Drained p) ∷ steps) steps =
    record { stays = refl; came = refl; went = refl; frames = refl } in
    goes-happens (Drained p) (goes-settled g) g.records desk (over ∙ g.over) (stands-alike (at p) alike (g.each p))
    (λ idle. absurd (cc (sym idle ∙ same p)))
    (λ q ne. refl) (λ q ne. refl)
    (λ q above. let u = g.unused q (omega (arith, opened, above)) in record {
      unknown = u.unknown;
      shut = u.shut;
      came = u.came;
      went = u.went;
      empty = everywhere (λ r. is_full r (happened steps) ≡ false → is_full r (Drained p ∷ happened steps) ≡ false) p q
          (λ e. rw (same p) refl) (λ ne e. rw ne e) u.empty;
      frames = u.frames;
    }) g

shut-ended : (h : Happening) (p q : ℕ) (log : List Happening) → is_open p (h ∷ log) ≡ false
    → (nat_eq p q ≡ false → is_open q (h ∷ log) ≡ is_open q log) → is_open q log ≡ false → is_open q (h ∷ log) ≡ false
shut-ended h p q log here there shut =
    everywhere (λ r. (nat_eq p r ≡ false → is_open r (h ∷ log) ≡ is_open r log) → is_open r log ≡ false → is_open r (h ∷ log)
    ≡ false)
    p q (λ t s. here) (λ ne t s. t ne ∙ s) there shut

pub goes-ended : {H : Type 0} {v : Ghosts H} {first : v.State} {since : Desk H} {a b : Around H}
    {at bt : ℕ → Option Sess} {steps : List Step} (p : ℕ)
    → b.opened ≡ a.opened → b.desk ≡ a.desk → b.over ≡ with_over (at p) a.over → Sets p None at bt
    → Goes v first since a calm at steps → Goes v first since b calm bt (Happens (Ended p) ∷ steps)
goes-ended {H} {v} {first} {since} {a} {b} {at} {bt} {steps} p opened desk over sets g =
    goes-happens (Ended p) (goes-settled g) g.records desk (ended (at p) (g.each p) over)
    (subst (λ (o : Option Sess). IsHeld v.reply_to v.state_after first (Happens (Ended p) ∷ steps) p o) (sym sets.here) (rw
    (same p) refl))
    (λ idle. subst (λ (o : Option Sess). Rests (Happens (Ended p) ∷ steps) p o) (sym sets.here) tt)
    sets.there (λ q ne. refl)
    (λ q above. let u = g.unused q (omega (arith, opened, above)) in record {
      unknown = u.unknown;
      shut = shut-ended (Ended p) p q (happened steps) (rw (same p) refl) (λ ne. rw ne refl) u.shut;
      came = u.came;
      went = u.went;
      empty = u.empty;
      frames = u.frames;
    }) g
  where
    ended : (o : Option Sess) → IsHeld v.reply_to v.state_after first steps p o → b.over ≡ with_over o a.over →
        b.over ≡ over_in (Ended p ∷ happened steps)
    ended None shut e = rw (guests v.reply_to v.state_after first steps p g.lawful, shut) (e ∙ g.over)
    ended (Some s) held e =
        rw (guests v.reply_to v.state_after first steps p g.lawful, held.0) (e ∙ ap (λ (n : ℕ). n + 1) g.over)

-- ---- what the loop does

pub goes-went : {H : Type 0} {v : Ghosts H} {first : v.State} {since : Desk H} {a b : Around H}
    {at bt : ℕ → Option Sess} {steps : List Step} (p n : ℕ) (full : Bool) (s t : Sess)
    → at p ≡ Some s → t ≡ record s { unsent = drop n s.unsent } → b.opened ≡ a.opened → b.desk ≡ a.desk → b.over ≡ a.over
    → Sets p (Some t) at bt
    → Goes v first since a (on p []) at steps
    → Goes v first since b (on p []) bt (Happens (Went p (take n s.unsent) full) ∷ steps)
goes-went {H} {v} {first} {since} {a} {b} {at} {bt} {steps} p n full s t is is_t opened desk over sets g =
    let h : IsHeld v.reply_to v.state_after first steps p (Some s) = opens v.reply_to v.state_after first steps p s (at p) is
    (g.each p) in
    goes-happens (Went p (take n s.unsent) full)
    (h.0, drop n s.unsent, h.2 ∙ ap (λ (l : List ℕ). went_on p (happened steps) ++ l) (sym (take-append-drop n s.unsent)))
    g.records desk (over ∙ g.over)
    (subst (λ (o : Option Sess). IsHeld v.reply_to v.state_after first (Happens (Went p (take n s.unsent) full) ∷ steps) p o)
    (sym (sets.here ∙ ap (λ (x : Sess). Some x) is_t)) (
      h.0,
      h.1,
      rw (same p)
          (h.2 ∙ ap (λ (l : List ℕ). went_on p (happened steps) ++ l) (sym (take-append-drop n s.unsent))
          ∙ sym (append_assoc (went_on p (happened steps)) (take n s.unsent) (drop n s.unsent))),
    ))
    (λ idle. absurd (cc (sym idle ∙ same p)))
    sets.there (λ q ne. ne)
    (λ q above. let u = g.unused q (omega (arith, opened, above)) in
    unused-other q (Went p (take n s.unsent) full) steps (apart p q h.0 u) u) g

pub goes-failed : {H : Type 0} {v : Ghosts H} {first : v.State} {since : Desk H} {a b : Around H}
    {at : ℕ → Option Sess} {steps : List Step} (p : ℕ) (s : Sess)
    → at p ≡ Some s → b.opened ≡ a.opened → b.desk ≡ a.desk → b.over ≡ a.over
    → Goes v first since a (on p []) at steps
    → Goes v first since b (on p []) at (Happens (Failed p) ∷ steps)
goes-failed {H} {v} {first} {since} {a} {b} {at} {steps} p s is opened desk over g =
    let h : IsHeld v.reply_to v.state_after first steps p (Some s) = opens v.reply_to v.state_after first steps p s (at p) is
    (g.each p) in
    let alike : Alike v.reply_to v.state_after first p (Happens (Failed p) ∷ steps) steps =
    record { stays = refl; came = refl; went = refl; frames = refl } in
    goes-happens (Failed p) h.0 g.records desk (over ∙ g.over) (stands-alike (at p) alike (g.each p))
    (λ idle. absurd (cc (sym idle ∙ same p)))
    (λ q ne. refl) (λ q ne. ne)
    (λ q above. let u = g.unused q (omega (arith, opened, above)) in
    unused-other q (Failed p) steps (apart p q h.0 u) u) g

pub goes-closed : {H : Type 0} {v : Ghosts H} {first : v.State} {since : Desk H} {a b : Around H}
    {at bt : ℕ → Option Sess} {steps : List Step} (p : ℕ) (s : Sess)
    → at p ≡ Some s → HasEnd v.reply_to v.state_after first p steps → b.opened ≡ a.opened → b.desk ≡ a.desk →
    b.over ≡ a.over + 1 → Sets p None at bt
    → Goes v first since a (on p []) at steps
    → Goes v first since b calm bt (Happens (Closed p) ∷ steps)
goes-closed {H} {v} {first} {since} {a} {b} {at} {bt} {steps} p s is ends opened desk over sets g =
    let h : IsHeld v.reply_to v.state_after first steps p (Some s) =
    opens v.reply_to v.state_after first steps p s (at p) is (g.each p) in
    goes-happens (Closed p) ends g.records desk
    (rw (guests v.reply_to v.state_after first steps p g.lawful, h.0) (over ∙ ap (λ (n : ℕ). n + 1) g.over))
    (subst (λ (o : Option Sess). IsHeld v.reply_to v.state_after first (Happens (Closed p) ∷ steps) p o) (sym sets.here) (rw
    (same p) refl))
    (λ idle. subst (λ (o : Option Sess). Rests (Happens (Closed p) ∷ steps) p o) (sym sets.here) tt)
    sets.there (λ q ne. ne)
    (λ q above. let u = g.unused q (omega (arith, opened, above)) in record {
      unknown = u.unknown;
      shut = shut-ended (Closed p) p q (happened steps) (rw (same p) refl) (λ ne. rw ne refl) u.shut;
      came = u.came;
      went = u.went;
      empty = u.empty;
      frames = u.frames;
    }) g

-- nothing is to be done for it any more
pub goes-rests : {H : Type 0} {v : Ghosts H} {first : v.State} {since : Desk H} {a : Around H}
    {at bt : ℕ → Option Sess} {steps : List Step} (p : ℕ)
    → Rests steps p (at p) → ((q : ℕ) → bt q ≡ at q)
    → Goes v first since a (on p []) at steps → Goes v first since a calm bt steps
goes-rests {H} {v} {first} {since} {a} {at} {bt} {steps} p rests alike g = record {
  lawful = g.lawful;
  records = g.records;
  state = g.state;
  desk = g.desk;
  over = g.over;
  each = λ q. subst (λ (o : Option Sess). IsHeld v.reply_to v.state_after first steps q o) (sym (alike q)) (g.each q);
  rests = λ q idle. subst (λ (o : Option Sess). Rests steps q o) (sym (alike q))
      (everywhere (λ r. Rests steps r (at r)) p q rests (λ ne. g.rests q ne));
  unused = g.unused;
}

-- nothing happened on any connection
pub goes-passed : {H : Type 0} {v : Ghosts H} {first : v.State} {since : Desk H} {a b : Around H}
    {at : ℕ → Option Sess} {steps : List Step}
    → b.opened ≡ a.opened → b.desk ≡ a.desk → b.over ≡ a.over
    → Goes v first since a calm at steps → Goes v first since b calm at (Happens Passed ∷ steps)
goes-passed {H} {v} {first} {since} {a} {b} {at} {steps} opened desk over g =
    let alike : (q : ℕ) → Alike v.reply_to v.state_after first q (Happens Passed ∷ steps) steps =
    λ q. record { stays = refl; came = refl; went = refl; frames = refl } in record {
      lawful = (goes-settled g, g.lawful);
      records = g.records;
      state = ap (λ (d : Desk H). v.state d.handler) desk ∙ g.state;
      desk = subst (λ (d : Desk H). HandlesAll v since (handled_in steps) d) (sym desk) g.desk;
      over = over ∙ g.over;
      each = λ q. stands-alike (at q) (alike q) (g.each q);
      rests = λ q idle. rests-alike q (Happens Passed ∷ steps) steps (at q) refl (g.rests q idle);
      unused = λ q above. let u = g.unused q (omega (arith, opened, above)) in record {
        unknown = u.unknown;
        shut = u.shut;
        came = u.came;
        went = u.went;
        empty = u.empty;
        frames = u.frames;
      };
    }

-- the call failed
pub goes-on : {H : Type 0} {v : Ghosts H} {first : v.State} {since : Desk H} {a b : Around H} {w : Work}
    {at : ℕ → Option Sess} {steps : List Step}
    → b.opened ≡ a.opened → b.desk ≡ a.desk → b.over ≡ a.over
    → Goes v first since a w at steps → Goes v first since b w at steps
goes-on {H} {v} {first} {since} {a} {b} {w} {at} {steps} opened desk over g = record {
  lawful = g.lawful;
  records = g.records;
  state = ap (λ (d : Desk H). v.state d.handler) desk ∙ g.state;
  desk = subst (λ (d : Desk H). HandlesAll v since (handled_in steps) d) (sym desk) g.desk;
  over = over ∙ g.over;
  each = g.each;
  rests = g.rests;
  unused = λ q above. g.unused q (omega (arith, opened, above));
}

-- the sessions are the same
pub goes-at : {H : Type 0} {v : Ghosts H} {first : v.State} {since : Desk H} {a : Around H} {w : Work}
    {at bt : ℕ → Option Sess} {steps : List Step}
    → ((q : ℕ) → bt q ≡ at q)
    → Goes v first since a w at steps → Goes v first since a w bt steps
goes-at {H} {v} {first} {since} {a} {w} {at} {bt} {steps} alike g = record {
  lawful = g.lawful;
  records = g.records;
  state = g.state;
  desk = g.desk;
  over = g.over;
  each = λ q. subst (λ (o : Option Sess). IsHeld v.reply_to v.state_after first steps q o) (sym (alike q)) (g.each q);
  rests = λ q idle. subst (λ (o : Option Sess). Rests steps q o) (sym (alike q)) (g.rests q idle);
  unused = g.unused;
}

-- ---- a record is handled

frame-one : {S : Type 0} (reply : Answer S) (step : Change S) (p : ℕ) (d : S) (time : ℕ) (message : List ℕ)
    → frames_on reply step p d (record { port = p; time = time; message = message } ∷ []) ≡ framed (reply d time message)
frame-one reply step p d time message = rw (same p) (append-nil (framed (reply d time message)))

-- what is owed on other connections stays
handles-other : {S : Type 0} (reply : Answer S) (step : Change S) (first : S) (q : ℕ) (h : Handled) (steps : List Step)
    → nat_eq h.port q ≡ false → Alike reply step first q (Handles h ∷ steps) steps
handles-other reply step first q h steps ne = record {
  stays = refl;
  came = refl;
  went = refl;
  frames = frames-append reply step q first (handled_in steps) (h ∷ [])
      ∙ rw ne (append-nil (frames_on reply step q first (handled_in steps)));
}

pub goes-handles : {H : Type 0} {v : Ghosts H} {first : v.State} {since : Desk H} {a b : Around H}
    {at bt : ℕ → Option Sess} {steps : List Step} (p time : ℕ) (message : List ℕ) (rest : List (List ℕ)) (s t : Sess)
    → at p ≡ Some s → t ≡ record s { unsent = s.unsent ++ framed (v.reply_to (v.state a.desk.handler) time message) }
    → b.opened ≡ a.opened → v.state b.desk.handler ≡ v.state_after (v.state a.desk.handler) time message
    → TellsTime a.desk.times b.desk.times time → v.handles time message a.desk.handler b.desk.handler → b.over ≡ a.over
    → Sets p (Some t) at bt
    → Goes v first since a (on p (message ∷ rest)) at steps
    → Goes v first since b (on p rest) bt
    (Handles (record { port = p; time = time; message = message }) ∷ steps)
goes-handles {H} {v} {first} {since} {a} {b} {at} {bt} {steps} p time message rest s t is is_t opened state tells done
    over sets g =
    let h : Handled = record { port = p; time = time; message = message } in
    let open_p : IsHeld v.reply_to v.state_after first steps p (Some s) = opens v.reply_to v.state_after first steps p s
    (at p) is (g.each p) in record {
      lawful = ((map (taken_on p) rest, g.records), g.lawful);
      records = g.records
          ∙ sym (append_assoc (map record_of (handled_in steps)) (taken_on p message ∷ []) (map (taken_on p) rest))
          ∙ ap (λ (l : List Taken). l ++ map (taken_on p) rest) (sym (map-append record_of (handled_in steps) (h ∷ [])));
      state = state ∙ ap (λ (d : v.State). v.state_after d time message) g.state
          ∙ sym (after-append v.state_after first (handled_in steps) (h ∷ []));
      desk = handles-append v since a.desk b.desk (handled_in steps) (h ∷ []) g.desk (b.desk, tells, done, refl);
      over = over ∙ g.over;
      each = λ q. everywhere (λ r. IsHeld v.reply_to v.state_after first (Handles h ∷ steps) r (bt r)) p q
          (subst (λ (o : Option Sess). IsHeld v.reply_to v.state_after first (Handles h ∷ steps) p o)
          (sym (sets.here ∙ ap (λ (x : Sess). Some x) is_t)) (
            open_p.0,
            open_p.1,
            frames-append v.reply_to v.state_after p first (handled_in steps) (h ∷ [])
                ∙ ap (λ (l : List ℕ). l ++ frames_on v.reply_to v.state_after p (after_all v.state_after first
                (handled_in steps)) (h ∷ [])) open_p.2
                ∙ append_assoc (went_on p (happened steps)) s.unsent
                (frames_on v.reply_to v.state_after p (after_all v.state_after first (handled_in steps)) (h ∷ []))
                ∙ ap (λ (l : List ℕ). went_on p (happened steps) ++ (s.unsent ++ l))
                (frame-one v.reply_to v.state_after p (after_all v.state_after first (handled_in steps)) time message
                ∙ ap (λ (d : v.State). framed (v.reply_to d time message)) (sym g.state)),
          ))
          (λ ne. subst (λ (o : Option Sess). IsHeld v.reply_to v.state_after first (Handles h ∷ steps) q o) (sym
          (sets.there q ne))
          (stands-alike (at q) (handles-other v.reply_to v.state_after first q h steps ne) (g.each q)));
      rests = λ q ne. subst (λ (o : Option Sess). Rests (Handles h ∷ steps) q o) (sym (sets.there q ne))
          (rests-alike q (Handles h ∷ steps) steps (at q) refl (g.rests q ne));
      unused = λ q above.
          let u = g.unused q (omega (arith, opened, above)) in
          let ne = apart p q open_p.0 u in record {
            unknown = u.unknown;
            shut = u.shut;
            came = u.came;
            went = u.went;
            empty = u.empty;
            frames = frames-append v.reply_to v.state_after q first (handled_in steps) (h ∷ []) ∙ rw (u.frames, ne) refl;
          };
    }
