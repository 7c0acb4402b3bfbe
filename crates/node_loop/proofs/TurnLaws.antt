-- What the parts of a turn leave.
use Rattle.std.proofs.Common.{false, ◌≡◌, ◌⊎◌, inl, inr, ◌<◌, ◌≤◌, ℕ, ◌+◌, ◌-◌, ◌^◌, min, List, [], ◌∷◌, ◌++◌, Option, None, Some, Ok, Err, if◌then◌else◌, refl, sym, ap, subst, ◌∙◌, arith, take, drop, length}
use Rattle.std.proofs.lemmas.List.{append-nil, length-take, take-append-le, take-take}
use Rattle.std.specs.List.{refill}
use Rattle.osd_bytes.specs.Clocks.{TellsTime}
use Rattle.osd_bytes.specs.Records.{Begun}
use Rattle.osd_lists.specs.declared.node.Node.{Node}
use Rattle.node_loop.specs.Nodes.{Held, Leads, Sets, held, is_node}
use Rattle.node_loop.specs.Points.{CanRead, Goes, Here, IsAs, IsKept, Moves, Reads, Rests, Stops, Turns, calm, due_of, holding, holding_on, look, over_after, over_with, posting, putting, reading, resending}
use Rattle.node_loop.specs.Serving.{HasHeard, Ran, Serves}
use Rattle.node_loop.specs.Rules.{rules_of}
use Rattle.node_loop.specs.Steps.{Settled, Step, happened, sender_or, waits_in}
use Rattle.node_loop.specs.declared.party.Message.{Message}
use Rattle.node_loop.specs.declared.party.Party.{Ghosts}
use Rattle.port_loop.specs.Ports.{Adds, over_in}
use Rattle.port_loop.specs.Serving.{AddsAll, loop_err}
use Rattle.port_loop.specs.Sessions.{read_on}
use Rattle.port_loop.specs.declared.ports.Happening.TheVariants.{Began, Came, Drained, Ended, Closed, Passed}
use Rattle.port_loop.specs.declared.handler.HandlerErr.{HandlerErr}
use Rattle.port_loop.specs.declared.handler.HandlerErr.TheVariants.{Failed, Memory as OutOfMemory}
use Rattle.port_loop.specs.declared.serving.LoopErr.{LoopErr}
use Rattle.port_loop.specs.declared.serving.LoopErr.TheVariants.{PortFault, HandlerFault, Memory as NoMemory}
use Rattle.port_loop.proofs.ListLaws.{adds-none}
use Rattle.node_loop.proofs.LookLaws.{kept}
use Rattle.node_loop.proofs.FrontLaws.{fronts}
use Rattle.node_loop.proofs.HearingLaws.{goes-hears, goes-ran, goes-resends, goes-settled, is-next}
use Rattle.node_loop.proofs.OutsideLaws.{goes-began, goes-came, goes-drained, goes-drained-none, goes-ended, goes-ignored, goes-passed}
use Rattle.node_loop.proofs.PuttingLaws.{goes-closed, goes-on, goes-read}
use Rattle.node_loop.proofs.MovingLaws.{absent-same, held-sets, laid-again, moves-happens, moves-hears, moves-resends, moves-stop, moves-then, moves-zero, new-sets, stops-here}

-- ---- a record is heard

pub hears-one : {H : Type 0} {v : Ghosts H} (a b : Here H) (p time : ℕ) (to : Option Node) (from : Node) (chosen : v.Choice)
    (message : List ℕ) (rest : List (List ℕ)) (messages : List Message)
    → from ≡ sender_or to (v.sender_of message)
    → messages ≡ v.given (v.state a.desk.handler) chosen time from message
    → v.state b.desk.handler ≡ v.state_after (v.state a.desk.handler) chosen time from message
    → TellsTime a.desk.times b.desk.times time → v.hears chosen time from message a.desk.handler b.desk.handler
    → b.opened ≡ a.opened → b.told ≡ a.told → b.over ≡ a.over → b.at ≡ a.at → Leads from p a.ways b.ways
    → Moves 0 v a (reading p to (message ∷ rest)) b (posting (reading p to rest) messages)
hears-one {H} {v} a b p time to from chosen message rest messages sender gives state tells hears opened told over at leads =
    moves-hears (record { port = p; from = from; time = time; chosen = chosen; message = message }) told (λ first since steps g.
    goes-hears p time to from chosen message rest messages sender gives state tells hears opened over
    (λ q. ap (λ (f : ℕ → Option Held). f q) at) leads g)

-- no memory to keep where its sender is reached
pub hears-stops : {H : Type 0} {v : Ghosts H} (a b : Here H) (p time : ℕ) (to : Option Node) (from : Node) (chosen : v.Choice)
    (message : List ℕ) (rest : List (List ℕ)) (messages : List Message)
    → from ≡ sender_or to (v.sender_of message)
    → messages ≡ v.given (v.state a.desk.handler) chosen time from message
    → v.state b.desk.handler ≡ v.state_after (v.state a.desk.handler) chosen time from message
    → TellsTime a.desk.times b.desk.times time → v.hears chosen time from message a.desk.handler b.desk.handler
    → b.opened ≡ a.opened → b.told ≡ a.told
    → Stops v a (reading p to (message ∷ rest)) b
hears-stops {H} {v} a b p time to from chosen message rest messages sender gives state tells hears opened told =
    let c : Here H = record {
      opened = b.opened;
      told = b.told;
      desk = b.desk;
      over = a.over;
      at = a.at;
      ways = λ n. if is_node from n then Some p else a.ways n;
    } in
    let moved : Moves 0 v a (reading p to (message ∷ rest)) c (posting (reading p to rest) messages) =
    hears-one a c p time to from chosen message rest messages sender gives state tells hears opened told refl refl (λ n. refl) in
    stops-here moved

-- the call failed for it
pub breaks-off : {H : Type 0} {v : Ghosts H} (a b : Here H) (p time : ℕ) (to : Option Node) (from : Node) (chosen : v.Choice)
    (message : List ℕ) (rest : List (List ℕ))
    → from ≡ sender_or to (v.sender_of message)
    → TellsTime a.desk.times b.desk.times time → v.fails chosen time from message a.desk.handler b.desk.handler → b.told ≡ a.told
    → Stops v a (reading p to (message ∷ rest)) b
breaks-off {H} {v} a b p time to from chosen message rest sender tells fails told = λ first since steps g. (
  [],
  adds-none a.told b.told told,
  record {
    lawful = g.lawful;
    fronts = fronts (rules_of v) first steps g.lawful;
    heard = inr (record {
      mid = a.desk;
      heard = g.heard;
      next = record { port = p; from = from; time = time; chosen = chosen; message = message };
      follows = is-next p time to from chosen message rest sender g;
      tells = tells;
      fails = fails;
    });
  },
)

-- ---- a piece is read

-- the front of a buffer that was written
pub front-of : (n count : ℕ) (old new space piece : List ℕ) → space ≡ refill n old new → piece ≡ take count space
    → count ≤ length new → count ≤ length space → piece ≡ take count new
front-of n count old new space piece is front short within =
    let long : length space ≡ min n (length (new ++ drop (length new) old)) =
    ap (λ (l : List ℕ). length l) is ∙ length-take n (new ++ drop (length new) old) in
    front ∙ ap (λ (l : List ℕ). take count l) is
    ∙ take-take count n (new ++ drop (length new) old) (omega (arith, within, long))
    ∙ take-append-le count new (drop (length new) old) short

pub came-none : {H : Type 0} {v : Ghosts H} (a b : Here H) (p : ℕ) (bytes : List ℕ)
    → b.opened ≡ a.opened → Adds (Came p bytes) a.told b.told → b.desk ≡ a.desk → b.over ≡ a.over
    → p < a.opened → a.at p ≡ None → Sets p None a.at b.at → b.ways ≡ a.ways
    → Moves 1 v a calm b calm
came-none a b p bytes opened told desk over less none sets ways =
    moves-happens (Came p bytes) told (λ first since steps g.
    goes-ignored p bytes (goes-settled g) none less opened desk over (absent-same p a.at b.at none sets) ways g)

pub came-some : {H : Type 0} {v : Ghosts H} (a b : Here H) (p : ℕ) (bytes : List ℕ) (records : List (List ℕ)) (s t : Held)
    → b.opened ≡ a.opened → Adds (Came p bytes) a.told b.told → b.desk ≡ a.desk → b.over ≡ a.over
    → a.at p ≡ Some s → Reads bytes records s t → Sets p (Some t) a.at b.at → b.ways ≡ a.ways
    → Moves 1 v a calm b (reading p s.to records)
came-some a b p bytes records s t opened told desk over is reads sets ways =
    moves-happens (Came p bytes) told (λ first since steps g.
    goes-came p bytes records s t (goes-settled g) is reads opened desk over sets ways g)

-- no memory for it
pub came-stops : {H : Type 0} {v : Ghosts H} (a b : Here H) (p : ℕ) (bytes : List ℕ) (s : Held)
    → b.opened ≡ a.opened → Adds (Came p bytes) a.told b.told → b.desk ≡ a.desk → a.at p ≡ Some s
    → Stops v a calm b
came-stops {H} {v} a b p bytes s opened told desk is =
    let t : Held = record s { begun = (read_on s.begun bytes).begun; is_awaited = false } in
    let c : Here H = record {
      opened = b.opened;
      told = b.told;
      desk = b.desk;
      over = a.over;
      at = holding p t a.at;
      ways = a.ways;
    } in
    let moved : Moves 1 v a calm c (reading p s.to (read_on s.begun bytes).records) =
    came-some a c p bytes (read_on s.begun bytes).records s t opened told desk refl is (refl, refl) (new-sets p t a.at) refl in
    stops-here moved

some-of : (o : Option Begun) → (o ≡ None → ⊥) → (b : Begun) × (o ≡ Some b)
some-of None h = absurd (h refl)
some-of (Some b) h = (b, refl)

-- its connection is there no more
pub read-none : {H : Type 0} {v : Ghosts H} (a b : Here H) (to : Option Node) (p : ℕ)
    → b.opened ≡ a.opened → b.told ≡ a.told → b.desk ≡ a.desk → b.over ≡ a.over
    → a.at p ≡ None → Sets p None a.at b.at → b.ways ≡ a.ways
    → Moves 0 v a (reading p to []) b calm
read-none a b to p opened told desk over none sets ways =
    moves-zero told (λ first since steps g.
    goes-read p (subst (λ (o : Option Held). CanRead o) (sym none) tt) opened desk over
    (absent-same p a.at b.at none sets) ways g)

-- it can be read on
pub read-some : {H : Type 0} {v : Ghosts H} (a b : Here H) (to : Option Node) (p : ℕ) (s : Held) (bt : ℕ → Option Held)
    → b.opened ≡ a.opened → b.told ≡ a.told → b.desk ≡ a.desk → b.over ≡ a.over
    → a.at p ≡ Some s → (s.begun ≡ None → ⊥) → Sets p None a.at bt → Sets p (Some s) bt b.at → b.ways ≡ a.ways
    → Moves 0 v a (reading p to []) b calm
read-some a b to p s bt opened told desk over is whole lifted laid ways =
    moves-zero told (λ first since steps g.
    goes-read p (subst (λ (o : Option Held). CanRead o) (sym is) (some-of s.begun whole)) opened desk over
    (laid-again p s a.at bt b.at is lifted laid) ways g)

-- a record on it was too long
pub read-closed : {H : Type 0} {v : Ghosts H} (a b : Here H) (to : Option Node) (p : ℕ) (s : Held) (bt : ℕ → Option Held)
    → b.opened ≡ a.opened → Adds (Closed p) a.told b.told → b.desk ≡ a.desk → b.over ≡ over_after s.to a.over
    → a.at p ≡ Some s → s.begun ≡ None → Sets p None a.at bt → Sets p None bt b.at → b.ways ≡ a.ways
    → Moves 0 v a (reading p to []) b calm
read-closed {H} {v} a b to p s bt opened told desk over is broken lifted closed ways =
    moves-happens (Closed p) told (λ first since steps g.
    let k : IsKept (look p steps) s = kept (look p steps) (a.at p) s is (g.each p) in
    goes-closed p s is (inl (k.begun ∙ broken)) opened desk over
    (record { here = closed.here; there = λ q ne. closed.there q ne ∙ lifted.there q ne }) ways refl refl refl tt
    (λ q ne f. ne) (λ q ne f. refl) g)

-- ---- what else comes from outside

pub resends : {H : Type 0} {v : Ghosts H} (a : Here H) (messages : List Message)
    → messages ≡ due_of a.at a.ways (v.awaited (v.state a.desk.handler))
    → Moves 0 v a resending a (posting calm messages)
resends {H} {v} a messages e =
    subst (λ (ms : List Message). Moves 0 v a resending a (posting calm ms)) (sym e)
    (moves-resends refl (λ first since steps g. goes-resends g))

pub drained-some : {H : Type 0} {v : Ghosts H} (a b : Here H) (p : ℕ) (s t : Held)
    → b.opened ≡ a.opened → Adds (Drained p) a.told b.told → b.desk ≡ a.desk → b.over ≡ a.over
    → a.at p ≡ Some s → Sets p None a.at b.at → t ≡ record s { is_full = false } → b.ways ≡ a.ways
    → Moves 1 v a calm (holding_on p t b) (putting calm p)
drained-some a b p s t opened told desk over is sets is_t ways =
    moves-happens (Drained p) told (λ first since steps g.
    goes-drained p s t (goes-settled g) is is_t opened desk over (held-sets p t a.at b.at sets) ways g)

pub drained-none : {H : Type 0} {v : Ghosts H} (a b : Here H) (p : ℕ)
    → b.opened ≡ a.opened → Adds (Drained p) a.told b.told → b.desk ≡ a.desk → b.over ≡ a.over
    → a.at p ≡ None → Sets p None a.at b.at → b.ways ≡ a.ways
    → Moves 1 v a calm b calm
drained-none a b p opened told desk over none sets ways =
    moves-happens (Drained p) told (λ first since steps g.
    goes-drained-none p (goes-settled g) none opened desk over (absent-same p a.at b.at none sets) ways g)

pub ended : {H : Type 0} {v : Ghosts H} (a b : Here H) (p : ℕ)
    → b.opened ≡ a.opened → Adds (Ended p) a.told b.told → b.desk ≡ a.desk → b.over ≡ over_with (a.at p) a.over
    → Sets p None a.at b.at → b.ways ≡ a.ways
    → Moves 1 v a calm b calm
ended a b p opened told desk over sets ways =
    moves-happens (Ended p) told (λ first since steps g. goes-ended p (goes-settled g) opened desk over sets ways g)

pub turn-began : {H : Type 0} {v : Ghosts H} (a b : Here H) (p : ℕ)
    → p ≡ a.opened → b.opened ≡ a.opened + 1 → Adds (Began p) a.told b.told → b.desk ≡ a.desk → b.over ≡ a.over
    → Sets p (Some (held None)) a.at b.at → b.ways ≡ a.ways
    → Moves 1 v a calm b resending
turn-began a b p number opened told desk over sets ways =
    moves-happens (Began p) told (λ first since steps g.
    goes-began p (goes-settled g) number opened desk over sets ways g)

-- no memory for what is kept of it
pub turn-began-stops : {H : Type 0} {v : Ghosts H} (a b : Here H) (p : ℕ)
    → p ≡ a.opened → b.opened ≡ a.opened + 1 → Adds (Began p) a.told b.told → b.desk ≡ a.desk
    → Stops v a calm b
turn-began-stops {H} {v} a b p number opened told desk =
    let c : Here H = record {
      opened = b.opened;
      told = b.told;
      desk = b.desk;
      over = a.over;
      at = holding p (held None) a.at;
      ways = a.ways;
    } in
    let moved : Moves 1 v a calm c resending = turn-began a c p number opened told desk refl (new-sets p (held None) a.at) refl in
    stops-here moved

pub turn-passed : {H : Type 0} {v : Ghosts H} (a b : Here H)
    → b.opened ≡ a.opened → Adds Passed a.told b.told → b.desk ≡ a.desk → b.over ≡ a.over → b.at ≡ a.at → b.ways ≡ a.ways
    → Moves 1 v a calm b resending
turn-passed a b opened told desk over at ways =
    moves-happens Passed told (λ first since steps g.
    goes-passed (goes-settled g) opened desk over (λ q. ap (λ (f : ℕ → Option Held). f q) at) ways g)

-- the ports failed
pub turn-failed : {H : Type 0} {v : Ghosts H} (a b : Here H)
    → b.opened ≡ a.opened → b.told ≡ a.told → b.desk ≡ a.desk → b.over ≡ a.over → b.at ≡ a.at → b.ways ≡ a.ways
    → Moves 0 v a calm b calm
turn-failed a b opened told desk over at ways = moves-zero told (λ first since steps g.
    goes-on opened desk over (λ q. ap (λ (f : ℕ → Option Held). f q) at) (λ n. ap (λ (f : Node → Option ℕ). f n) ways) g)

-- the party failed, or memory was missing
pub turn-stops : {H : Type 0} {v : Ghosts H} (a b : Here H) (h : HandlerErr) → Stops v a calm b → Turns v a b (Err (loop_err h))
turn-stops a b Failed s = s
turn-stops a b OutOfMemory s = s

-- ---- all turns

pub goes-none : {H : Type 0} (v : Ghosts H) (a : Here H)
    → ((q : ℕ) → a.at q ≡ None) → ((n : Node) → a.ways n ≡ None) → a.over ≡ 0
    → Goes v (v.state a.desk.handler) a.desk a calm []
goes-none v a none nowhere over = record {
  lawful = tt;
  heard = record { desk = refl; state = refl };
  taken = refl;
  waiting = refl;
  due = refl;
  over = over;
  ways = λ n. sym (nowhere n);
  each = λ q. subst (λ (o : Option Held). IsAs (look {C = v.Choice} q []) o) (sym (none q)) (refl, refl);
  read = tt;
  reads = λ q free. subst (λ (o : Option Held). CanRead o) (sym (none q)) tt;
  rests = λ q free. subst (λ (o : Option Held). Rests o) (sym (none q)) tt;
  unused = λ q above. refl;
}

-- all is settled at a later point
abbrev pub Finished : {H : Type 0} → ℕ → (v : Ghosts H) → (a b : Here H) → Type 0
Finished n v a b =
    (steps : List (Step v.Choice)) × AddsAll (happened steps) a.told b.told × Ran v (v.state a.desk.handler) a.desk b.desk steps
    × (Settled (rules_of v) (v.state a.desk.handler) steps × HasHeard v (v.state a.desk.handler) a.desk b.desk steps
    × (waits_in steps ≡ n) × (b.over ≡ min (over_in (happened steps)) (2 ^ 64 - 1)))

finished : {H : Type 0} {n : ℕ} {v : Ghosts H} (a b : Here H)
    → ((q : ℕ) → a.at q ≡ None) → ((m : Node) → a.ways m ≡ None) → a.over ≡ 0 → Moves n v a calm b calm → Finished n v a b
finished {H} {n} {v} a b none nowhere over m =
    let x = m (v.state a.desk.handler) a.desk [] (goes-none v a none nowhere over) in
    let g : Goes v (v.state a.desk.handler) a.desk b calm x.0 =
    subst (λ (l : List (Step v.Choice)). Goes v (v.state a.desk.handler) a.desk b calm l) (append-nil x.0) x.2 in
    (x.0, x.1, goes-ran g, (goes-settled g, g.heard, x.3, g.over))

abbrev pub Stopped : {H : Type 0} → (v : Ghosts H) → (a b : Here H) → Type 0
Stopped v a b =
    (steps : List (Step v.Choice)) × AddsAll (happened steps) a.told b.told × Ran v (v.state a.desk.handler) a.desk b.desk steps

stopped : {H : Type 0} {v : Ghosts H} (a b : Here H)
    → ((q : ℕ) → a.at q ≡ None) → ((m : Node) → a.ways m ≡ None) → a.over ≡ 0 → Stops v a calm b → Stopped v a b
stopped {H} {v} a b none nowhere over m =
    let x = m (v.state a.desk.handler) a.desk [] (goes-none v a none nowhere over) in
    (x.0, x.1, subst (λ (l : List (Step v.Choice)). Ran v (v.state a.desk.handler) a.desk b.desk l) (append-nil x.0) x.2)

-- the end, where so many connections are over or the loop has waited so often
pub serve-done : {H : Type 0} {n : ℕ} (connections turns : ℕ) (v : Ghosts H) (a b : Here H)
    → ((q : ℕ) → a.at q ≡ None) → ((m : Node) → a.ways m ≡ None) → a.over ≡ 0 → Moves n v a calm b calm
    → v.goes_on b.desk.handler
    → (connections ≤ b.over) ⊎ (n ≡ turns)
    → Serves v a.desk b.desk a.told b.told connections turns (Ok tt)
serve-done connections turns v a b none nowhere over m goes_on why =
    let f = finished a b none nowhere over m in (
      f.0,
      f.1,
      f.2,
      (
        record { settled = f.3.0; heard = f.3.1; goes_on = goes_on },
        elim why [ inl all ↦ inl (omega (arith, all, f.3.3)) | inr last ↦ inr (f.3.2 ∙ last) ],
      ),
    )

-- an end that the last turn had
pub serve-ended : {H : Type 0} {n : ℕ} (connections turns : ℕ) (v : Ghosts H) (a b c : Here H)
    → ((q : ℕ) → a.at q ≡ None) → ((m : Node) → a.ways m ≡ None) → a.over ≡ 0 → Moves n v a calm b calm
    → (e : LoopErr) → Turns v b c (Err e) → (e ≡ PortFault → v.goes_on c.desk.handler)
    → Serves v a.desk c.desk a.told c.told connections turns (Err e)
serve-ended connections turns v a b c none nowhere over m PortFault t goes_on =
    let f = finished a c none nowhere over (moves-then m t) in
    (f.0, f.1, f.2, record { settled = f.3.0; heard = f.3.1; goes_on = goes_on refl })
serve-ended connections turns v a b c none nowhere over m HandlerFault t goes_on =
    let s = stopped a c none nowhere over (moves-stop c m t) in (s.0, s.1, s.2, tt)
serve-ended connections turns v a b c none nowhere over m NoMemory t goes_on =
    let s = stopped a c none nowhere over (moves-stop c m t) in (s.0, s.1, s.2, tt)
