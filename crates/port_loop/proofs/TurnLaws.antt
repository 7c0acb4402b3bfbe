-- What the parts of a turn leave.
use Rattle.std.proofs.Common.{◌≡◌, ◌⊎◌, inl, inr, ◌<◌, ◌≤◌, ℕ, ◌+◌, true, false, nat_lt, List, [], ◌∷◌, ◌++◌, length, map, take, drop, Option, None, Some, Ok, Err, refl, sym, ap, subst, ◌∙◌, arith}
use Rattle.std.proofs.lemmas.Bool.{ltb-false}
use Rattle.std.proofs.lemmas.List.{append-nil, drop_all}
use Rattle.osd_bytes.specs.Clocks.{TellsTime}
use Rattle.osd_bytes.specs.Records.{Begun, framed}
use Rattle.port_loop.specs.declared.serving.LoopErr.{LoopErr}
use Rattle.port_loop.specs.declared.serving.LoopErr.TheVariants.{PortFault, HandlerFault, Memory as NoMemory}
use Rattle.port_loop.specs.declared.serving.TheConstants.{MOST_UNSENT}
use Rattle.port_loop.specs.Points.{Around, Goes, IsHeld, Moves, Rests, Sets, Stops, Turns, Work, calm, holding, on, with_over}
use Rattle.port_loop.specs.Ports.{Adds, is_full, over_in, waits_of}
use Rattle.port_loop.specs.declared.ports.Happening.{Happening}
use Rattle.port_loop.specs.declared.ports.Happening.TheVariants.{Began, Came, Went, Failed, Drained, Ended, Closed, Passed}
use Rattle.port_loop.specs.declared.handler.Handler.{Ghosts}
use Rattle.port_loop.specs.Serving.{AddsAll, Desk, HandlesAll, Ran, Serves}
use Rattle.port_loop.specs.Sessions.{Reads, Sess, new_session, read_on}
use Rattle.port_loop.specs.Steps.{Handled, Lawful, Settled, Step, handled_in, happened, taken_on, waits_in}
use Rattle.port_loop.specs.Steps.Step.{Happens, Handles}
use Rattle.port_loop.proofs.FrontLaws.{fronts}
use Rattle.port_loop.proofs.GoingLaws.{goes-at, goes-began, goes-came, goes-closed, goes-drained, goes-ended, goes-failed, goes-handles, goes-ignored, goes-on, goes-passed, goes-rests, goes-went}
use Rattle.port_loop.proofs.LeavingLaws.{absent-same, dropped-sets, holding-here, holding-sets, laid-same, lifted-same, lifted-sets, moves-handles, moves-one, moves-stop, moves-then, moves-zero, stops-here}
use Rattle.port_loop.proofs.ListLaws.{adds-none, adds-one, adds-then, after-append, same}
use Rattle.port_loop.proofs.StepLaws.{goes-ran, goes-settled, opens}

-- two things happened
moves-two : {H : Type 0} {v : Ghosts H} {a b : Around H} {w x : Work} {at bt : ℕ → Option Sess}
    (h k : Happening) (between : Option (List Happening))
    → Adds h a.told between → Adds k between b.told
    → ((first : v.State) (since : Desk H) (steps : List Step) → Goes v first since a w at steps →
    Goes v first since b x bt (Happens k ∷ Happens h ∷ steps))
    → Moves (waits_of h + waits_of k) v a w at b x bt
moves-two {H} {v} {a} {b} h k between e f goes = λ first since steps g. (
  Happens k ∷ Happens h ∷ [],
  adds-then (Happens h ∷ []) (Happens k ∷ []) a.told between b.told (adds-one h a.told between e) (adds-one k between b.told f),
  goes first since steps g,
  omega arith,
)

-- ---- what is put

pub put-failed : {H : Type 0} {v : Ghosts H} (a m b : Around H) (tb : ℕ → Option Sess) (p : ℕ) (s : Sess)
    → m.opened ≡ a.opened → Adds (Failed p) a.told m.told → m.desk ≡ a.desk → m.over ≡ a.over
    → b.opened ≡ m.opened → Adds (Closed p) m.told b.told → b.desk ≡ m.desk → b.over ≡ m.over + 1 → tb p ≡ None
    → Moves 0 v a (on p []) (holding p s tb) b calm tb
put-failed {H} {v} a m b tb p s opened told desk over opened' told' desk' over' none =
    moves-two (Failed p) (Closed p) m.told told told' (λ first since steps g.
    let failed : Goes v first since m (on p []) (holding p s tb) (Happens (Failed p) ∷ steps) =
    goes-failed p s (holding-here p s tb) opened desk over g in
    goes-closed p s (holding-here p s tb) (inr (inl (rw (same p) refl))) opened' desk' over' (dropped-sets p s tb none) failed)

-- a put took so many bytes
abbrev pub put_on : ℕ → ℕ → List ℕ → Happening
put_on p n unsent = Went p (take n unsent) (nat_lt n (length unsent))

pub put-closed : {H : Type 0} {v : Ghosts H} (a m b : Around H) (tb : ℕ → Option Sess) (p n : ℕ) (s t :
    Sess)
    → m.opened ≡ a.opened → Adds (put_on p n s.unsent) a.told m.told → m.desk ≡ a.desk → m.over ≡ a.over
    → t ≡ record s { unsent = drop n s.unsent } → (t.begun ≡ None) ⊎ (MOST_UNSENT < length t.unsent)
    → b.opened ≡ m.opened → Adds (Closed p) m.told b.told → b.desk ≡ m.desk → b.over ≡ m.over + 1 → tb p ≡ None
    → Moves 0 v a (on p []) (holding p s tb) b calm tb
put-closed {H} {v} a m b tb p n s t opened told desk over is_t why opened' told' desk' over' none =
    moves-two (put_on p n s.unsent) (Closed p) m.told told told' (λ first since steps g.
    let went : Goes v first since m (on p []) (holding p t tb) (Happens (put_on p n s.unsent) ∷ steps) =
    goes-went p n (nat_lt n (length s.unsent)) s t (holding-here p s tb) is_t opened desk over (holding-sets p s t tb) g in
    let h = opens v.reply_to v.state_after first (Happens (put_on p n s.unsent) ∷ steps) p t (holding p t tb p)
    (holding-here p t tb)
    (went.each p) in
    goes-closed p t (holding-here p t tb)
    (elim why [ inl broken ↦ inl (h.1 ∙ broken) | inr many ↦ inr (inr (t.unsent, h.2, many)) ])
    opened' desk' over' (dropped-sets p t tb none) went)

some-of : (o : Option Begun) → (o ≡ None → ⊥) → (b : Begun) × (o ≡ Some b)
some-of None h = absurd (h refl)
some-of (Some b) h = (b, refl)

pub put-laid : {H : Type 0} {v : Ghosts H} (a m : Around H) (tb bt : ℕ → Option Sess) (p n : ℕ) (s t : Sess)
    → m.opened ≡ a.opened → Adds (put_on p n s.unsent) a.told m.told → m.desk ≡ a.desk → m.over ≡ a.over
    → t ≡ record s { unsent = drop n s.unsent } → (t.begun ≡ None → ⊥) → length t.unsent ≤ MOST_UNSENT → Sets p (Some t) tb bt
    → Moves 0 v a (on p []) (holding p s tb) m calm bt
put-laid {H} {v} a m tb bt p n s t opened told desk over is_t begun bound sets =
    moves-one (put_on p n s.unsent) told (λ first since steps g.
    goes-rests p
    (subst (λ (o : Option Sess). Rests (Happens (put_on p n s.unsent) ∷ steps) p o) (sym (holding-here p t tb))
    (record { begun = some-of t.begun begun; bound = bound; all = all (happened steps) })) (laid-same p t tb bt sets)
    (goes-went p n (nat_lt n (length s.unsent)) s t (holding-here p s tb) is_t opened desk over (holding-sets p s t tb) g))
  where
    full : (log : List Happening) → is_full p (put_on p n s.unsent ∷ log) ≡ nat_lt n (length s.unsent)
    full log = rw (same p) refl

    all : (log : List Happening) → is_full p (put_on p n s.unsent ∷ log) ≡ false → t.unsent ≡ []
    all log e = ap (λ (x : Sess). x.unsent) is_t ∙ drop_all n s.unsent (ltb-false n (length s.unsent) (sym (full log) ∙ e))

-- no memory for its session
pub put-stops : {H : Type 0} {v : Ghosts H} (a m : Around H) (tb : ℕ → Option Sess) (p n : ℕ) (s : Sess)
    → m.opened ≡ a.opened → Adds (put_on p n s.unsent) a.told m.told → m.desk ≡ a.desk → m.over ≡ a.over
    → Stops v a (on p []) (holding p s tb) m
put-stops {H} {v} a m tb p n s opened told desk over =
    let t : Sess = record s { unsent = drop n s.unsent } in
    let moved : Moves 0 v a (on p []) (holding p s tb) m (on p []) (holding p t tb) =
    moves-one (put_on p n s.unsent) told (λ first since steps g.
    goes-went p n (nat_lt n (length s.unsent)) s t (holding-here p s tb) refl opened desk over (holding-sets p s t tb) g) in
    stops-here moved

-- ---- there is room again

pub drained-some : {H : Type 0} {v : Ghosts H} (a b : Around H) (at tb : ℕ → Option Sess) (p : ℕ) (s : Sess)
    → b.opened ≡ a.opened → Adds (Drained p) a.told b.told → b.desk ≡ a.desk → b.over ≡ a.over
    → at p ≡ Some s → Sets p None at tb
    → Moves 1 v a calm at b (on p []) (holding p s tb)
drained-some a b at tb p s opened told desk over is sets =
    moves-one (Drained p) told (λ first since steps g.
    goes-at (lifted-same p s at tb is sets) (goes-drained p opened desk over g))

pub drained-none : {H : Type 0} {v : Ghosts H} (a b : Around H) (at tb : ℕ → Option Sess) (p : ℕ)
    → b.opened ≡ a.opened → Adds (Drained p) a.told b.told → b.desk ≡ a.desk → b.over ≡ a.over
    → at p ≡ None → Sets p None at tb
    → Moves 1 v a calm at b calm tb
drained-none a b at tb p opened told desk over none sets =
    moves-one (Drained p) told (λ first since steps g.
    goes-rests p (subst (λ (o : Option Sess). Rests (Happens (Drained p) ∷ steps) p o) (sym none) tt)
    (absent-same p at tb none sets) (goes-drained p opened desk over g))

-- ---- what came

pub came-none : {H : Type 0} {v : Ghosts H} (a b : Around H) (at tb : ℕ → Option Sess) (p : ℕ)
    (bytes : List ℕ)
    → b.opened ≡ a.opened → Adds (Came p bytes) a.told b.told → b.desk ≡ a.desk → b.over ≡ a.over
    → p < a.opened → at p ≡ None → Sets p None at tb
    → Moves 1 v a calm at b calm tb
came-none a b at tb p bytes opened told desk over less none sets =
    moves-one (Came p bytes) told (λ first since steps g. goes-ignored p bytes none less opened desk over sets g)

pub came-some : {H : Type 0} {v : Ghosts H} (a b : Around H) (at tb : ℕ → Option Sess) (p : ℕ)
    (bytes : List ℕ) (records : List (List ℕ)) (s t : Sess)
    → b.opened ≡ a.opened → Adds (Came p bytes) a.told b.told → b.desk ≡ a.desk → b.over ≡ a.over
    → at p ≡ Some s → Sets p None at tb → Reads bytes records s t
    → Moves 1 v a calm at b (on p records) (holding p t tb)
came-some a b at tb p bytes records s t opened told desk over is sets reads =
    moves-one (Came p bytes) told (λ first since steps g.
    goes-came p bytes records s t is reads opened desk over (lifted-sets p t at tb sets) g)

pub came-stops : {H : Type 0} {v : Ghosts H} (a b : Around H) (at tb : ℕ → Option Sess) (p : ℕ)
    (bytes : List ℕ) (s : Sess)
    → b.opened ≡ a.opened → Adds (Came p bytes) a.told b.told → b.desk ≡ a.desk → b.over ≡ a.over
    → at p ≡ Some s → Sets p None at tb
    → Stops v a calm at b
came-stops a b at tb p bytes s opened told desk over is sets =
    stops-here (came-some a b at tb p bytes (read_on s.begun bytes).records s
    (record { begun = (read_on s.begun bytes).begun; unsent = s.unsent }) opened told desk over is sets (refl, refl))

-- ---- a record is handled

pub handles-one : {H : Type 0} {v : Ghosts H} (a b : Around H) (at : ℕ → Option Sess) (p time : ℕ)
    (message : List ℕ) (rest : List (List ℕ)) (s t : Sess)
    → b.opened ≡ a.opened → b.told ≡ a.told → v.state b.desk.handler ≡ v.state_after (v.state a.desk.handler) time message
    → TellsTime a.desk.times b.desk.times time → v.handles time message a.desk.handler b.desk.handler → b.over ≡ a.over
    → t ≡ record s { unsent = s.unsent ++ framed (v.reply_to (v.state a.desk.handler) time message) }
    → Moves 0 v a (on p (message ∷ rest)) (holding p s at) b (on p rest) (holding p t at)
handles-one a b at p time message rest s t opened told state tells done over is_t =
    moves-handles (record { port = p; time = time; message = message }) told (λ first since steps g.
    goes-handles p time message rest s t (holding-here p s at) is_t opened state tells done over (holding-sets p s t at) g)

-- no memory for its reply
pub handles-stops : {H : Type 0} {v : Ghosts H} (a b : Around H) (at : ℕ → Option Sess) (p time : ℕ)
    (message : List ℕ) (rest : List (List ℕ)) (s : Sess)
    → b.opened ≡ a.opened → b.told ≡ a.told → v.state b.desk.handler ≡ v.state_after (v.state a.desk.handler) time message
    → TellsTime a.desk.times b.desk.times time → v.handles time message a.desk.handler b.desk.handler → b.over ≡ a.over
    → Stops v a (on p (message ∷ rest)) (holding p s at) b
handles-stops {H} {v} a b at p time message rest s opened told state tells done over =
    let t : Sess = record s { unsent = s.unsent ++ framed (v.reply_to (v.state a.desk.handler) time message) } in
    let moved : Moves 0 v a (on p (message ∷ rest)) (holding p s at) b (on p rest) (holding p t at) =
    handles-one a b at p time message rest s t opened told state tells done over refl in
    stops-here moved

-- the call failed, and the record wasn't handled
pub breaks-before : {H : Type 0} {v : Ghosts H} (a b : Around H) (at : ℕ → Option Sess) (p time : ℕ) (message : List ℕ)
    (rest : List (List ℕ))
    → b.told ≡ a.told → v.state b.desk.handler ≡ v.state a.desk.handler → TellsTime a.desk.times b.desk.times time
    → v.fails time message false a.desk.handler b.desk.handler
    → Stops v a (on p (message ∷ rest)) at b
breaks-before {H} {v} a b at p time message rest told state tells fails = λ first since steps g. (
  [],
  adds-none a.told b.told told,
  record {
    lawful = g.lawful;
    fronts = fronts v.reply_to v.state_after first steps g.lawful;
    state = state ∙ g.state;
    desk = inr (record {
      older = steps;
      mid = a.desk;
      handles = g.desk;
      next = record { port = p; time = time; message = message };
      follows = (map (taken_on p) rest, g.records);
      tells = tells;
      is_handled = false;
      fails = fails;
      are = refl;
    });
  },
)

-- the call failed, and the record was handled all the same
pub breaks-after : {H : Type 0} {v : Ghosts H} (a b : Around H) (at : ℕ → Option Sess) (p time : ℕ) (message : List ℕ)
    (rest : List (List ℕ))
    → b.told ≡ a.told → v.state b.desk.handler ≡ v.state_after (v.state a.desk.handler) time message
    → TellsTime a.desk.times b.desk.times time → v.fails time message true a.desk.handler b.desk.handler
    → Stops v a (on p (message ∷ rest)) at b
breaks-after {H} {v} a b at p time message rest told state tells fails = λ first since steps g.
    let h : Handled = record { port = p; time = time; message = message } in
    let lawful : Lawful v.reply_to v.state_after first (Handles h ∷ steps) =
    ((map (taken_on p) rest, g.records), g.lawful) in (
      Handles h ∷ [],
      adds-none a.told b.told told,
      record {
        lawful = lawful;
        fronts = fronts v.reply_to v.state_after first (Handles h ∷ steps) lawful;
        state = state ∙ ap (λ (d : v.State). v.state_after d time message) g.state
            ∙ sym (after-append v.state_after first (handled_in steps) (h ∷ []));
        desk = inr (record {
          older = steps;
          mid = a.desk;
          handles = g.desk;
          next = h;
          follows = (map (taken_on p) rest, g.records);
          tells = tells;
          is_handled = true;
          fails = fails;
          are = refl;
        });
      },
    )

-- ---- a turn

pub turn-began : {H : Type 0} {v : Ghosts H} (a b : Around H) (at bt : ℕ → Option Sess) (p : ℕ)
    → p ≡ a.opened → b.opened ≡ a.opened + 1 → Adds (Began p) a.told b.told → b.desk ≡ a.desk → b.over ≡ a.over
    → Sets p (Some new_session) at bt
    → Moves 1 v a calm at b calm bt
turn-began a b at bt p number opened told desk over sets =
    moves-one (Began p) told (λ first since steps g. goes-began p number opened desk over sets g)

-- no memory for its session
pub turn-began-stops : {H : Type 0} {v : Ghosts H} (a b : Around H) (at : ℕ → Option Sess) (p : ℕ)
    → p ≡ a.opened → b.opened ≡ a.opened + 1 → Adds (Began p) a.told b.told → b.desk ≡ a.desk → b.over ≡ a.over
    → Stops v a calm at b
turn-began-stops {H} {v} a b at p number opened told desk over =
    stops-here (turn-began a b at (holding p new_session at) p number opened told desk over
    (record { here = rw (same p) refl; there = λ q ne. rw ne refl }))

pub turn-ended : {H : Type 0} {v : Ghosts H} (a b : Around H) (at bt : ℕ → Option Sess) (p : ℕ)
    → b.opened ≡ a.opened → Adds (Ended p) a.told b.told → b.desk ≡ a.desk → b.over ≡ with_over (at p) a.over → Sets p None at bt
    → Moves 1 v a calm at b calm bt
turn-ended a b at bt p opened told desk over sets =
    moves-one (Ended p) told (λ first since steps g. goes-ended p opened desk over sets g)

pub turn-passed : {H : Type 0} {v : Ghosts H} (a b : Around H) (at : ℕ → Option Sess)
    → b.opened ≡ a.opened → Adds Passed a.told b.told → b.desk ≡ a.desk → b.over ≡ a.over
    → Moves 1 v a calm at b calm at
turn-passed a b at opened told desk over =
    moves-one Passed told (λ first since steps g. goes-passed opened desk over g)

-- the ports failed
pub turn-failed : {H : Type 0} {v : Ghosts H} (a b : Around H) (at : ℕ → Option Sess)
    → b.opened ≡ a.opened → b.told ≡ a.told → b.desk ≡ a.desk → b.over ≡ a.over
    → Moves 0 v a calm at b calm at
turn-failed a b at opened told desk over = moves-zero told (λ first since steps g. goes-on opened desk over g)

pub stops-same : {H : Type 0} {v : Ghosts H} (a : Around H) (w : Work) (at : ℕ → Option Sess)
    → Stops v a w at a
stops-same {H} {v} a w at =
    let moved : Moves 0 v a w at a w at = moves-zero refl (λ first since steps g. g) in stops-here moved

-- ---- all turns

pub goes-none : {H : Type 0} (v : Ghosts H) (a : Around H) (at : ℕ → Option Sess)
    → ((q : ℕ) → at q ≡ None) → a.over ≡ 0 → Goes v (v.state a.desk.handler) a.desk a calm at []
goes-none v a at none over = record {
  lawful = tt;
  records = refl;
  state = refl;
  desk = refl;
  over = over;
  each = λ q. subst (λ (o : Option Sess). IsHeld v.reply_to v.state_after (v.state a.desk.handler) [] q o) (sym (none q)) refl;
  rests = λ q idle. subst (λ (o : Option Sess). Rests [] q o) (sym (none q)) tt;
  unused = λ q above. record { unknown = refl; shut = refl; came = refl; went = refl; empty = refl; frames = refl };
}

-- all is settled at a later point
abbrev pub Finished : {H : Type 0} → ℕ → (v : Ghosts H) → (a b : Around H) → Type 0
Finished n v a b =
    (steps : List Step) × AddsAll (happened steps) a.told b.told × Ran v (v.state a.desk.handler) a.desk b.desk steps
    × (Settled v.reply_to v.state_after (v.state a.desk.handler) steps × HandlesAll v a.desk (handled_in steps) b.desk
    × (waits_in steps ≡ n) × (b.over ≡ over_in (happened steps)))

pub finished : {H : Type 0} {n : ℕ} {v : Ghosts H} (a b : Around H) (at bt : ℕ → Option Sess)
    → ((q : ℕ) → at q ≡ None) → a.over ≡ 0 → Moves n v a calm at b calm bt → Finished n v a b
finished {H} {n} {v} a b at bt none over m =
    let x = m (v.state a.desk.handler) a.desk [] (goes-none v a at none over) in
    let g : Goes v (v.state a.desk.handler) a.desk b calm bt x.0 =
    subst (λ (l : List Step). Goes v (v.state a.desk.handler) a.desk b calm bt l) (append-nil x.0) x.2 in
    (x.0, x.1, goes-ran g, (goes-settled g, g.desk, x.3, g.over))

abbrev pub Stopped : {H : Type 0} → (v : Ghosts H) → (a b : Around H) → Type 0
Stopped v a b =
    (steps : List Step) × AddsAll (happened steps) a.told b.told × Ran v (v.state a.desk.handler) a.desk b.desk steps

pub stopped : {H : Type 0} {v : Ghosts H} (a b : Around H) (at : ℕ → Option Sess)
    → ((q : ℕ) → at q ≡ None) → a.over ≡ 0 → Stops v a calm at b → Stopped v a b
stopped {H} {v} a b at none over m =
    let x = m (v.state a.desk.handler) a.desk [] (goes-none v a at none over) in
    (x.0, x.1, subst (λ (l : List Step). Ran v (v.state a.desk.handler) a.desk b.desk l) (append-nil x.0) x.2)

-- the end, where so many connections are over or the loop has waited so often
pub serve-done : {H : Type 0} {n : ℕ} (connections turns : ℕ) (v : Ghosts H) (a b : Around H) (at bt : ℕ → Option Sess)
    → ((q : ℕ) → at q ≡ None) → a.over ≡ 0 → Moves n v a calm at b calm bt → v.goes_on b.desk.handler
    → (b.over ≡ connections) ⊎ (n ≡ turns)
    → Serves v a.desk b.desk a.told b.told connections turns (Ok tt)
serve-done connections turns v a b at bt none over m goes_on why =
    let f = finished a b at bt none over m in (
      f.0,
      f.1,
      f.2,
      (
        record { settled = f.3.0; desk = f.3.1; goes_on = goes_on },
        elim why [ inl all ↦ inl (sym f.3.3 ∙ all) | inr last ↦ inr (f.3.2 ∙ last) ],
      ),
    )

-- an end that the last turn had
pub serve-ended : {H : Type 0} {n : ℕ} (connections turns : ℕ) (v : Ghosts H) (a b c : Around H) (at bt ct : ℕ → Option Sess)
    → ((q : ℕ) → at q ≡ None) → a.over ≡ 0 → Moves n v a calm at b calm bt → (e : LoopErr) → Turns v b bt c ct (Err e)
    → (e ≡ PortFault → v.goes_on c.desk.handler)
    → Serves v a.desk c.desk a.told c.told connections turns (Err e)
serve-ended connections turns v a b c at bt ct none over m PortFault t goes_on =
    let f = finished a c at ct none over (moves-then m t) in
    (f.0, f.1, f.2, record { settled = f.3.0; desk = f.3.1; goes_on = goes_on refl })
serve-ended connections turns v a b c at bt ct none over m HandlerFault t goes_on =
    let s = stopped a c at none over (moves-stop c m t) in (s.0, s.1, s.2, tt)
serve-ended connections turns v a b c at bt ct none over m NoMemory t goes_on =
    let s = stopped a c at none over (moves-stop c m t) in (s.0, s.1, s.2, tt)
