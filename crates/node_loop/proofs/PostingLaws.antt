-- What posting messages leaves.
use Rattle.std.proofs.Common.{◌≡◌, inl, inr, ◌<◌, ◌≤◌, ℕ, ◌+◌, true, false, nat_lt, if◌then◌else◌, List, [], ◌∷◌, ◌++◌, length, take, drop, Option, None, Some, Result, Ok, Err, refl, sym, ap, subst, ◌∙◌}
use Rattle.std.proofs.lemmas.Bool.{ltb-false}
use Rattle.std.proofs.lemmas.List.{drop_all}
use Rattle.osd_bytes.specs.Records.{framed}
use Rattle.osd_bytes.specs.declared.records.TheConstants.{MAX_RECORD}
use Rattle.osd_lists.specs.declared.node.Node.{Node}
use Rattle.osd_lists.specs.declared.node.Node.TheVariants.{Server, Drive, Client}
use Rattle.node_loop.specs.Nodes.{Held, Leads, Sets, held, is_drive, is_node}
use Rattle.node_loop.specs.Points.{Goes, Here, IsKept, Leaves, Moves, Rests, Stops, Work, holding, holding_on, look, open_at, over_after, posting, putting}
use Rattle.node_loop.specs.Rules.{rules_of}
use Rattle.node_loop.specs.Steps.{Sends, Step}
use Rattle.node_loop.specs.Steps.Step.{Happens}
use Rattle.node_loop.specs.declared.party.Message.{Message}
use Rattle.node_loop.specs.declared.party.Party.{Ghosts}
use Rattle.port_loop.specs.Ports.{Adds}
use Rattle.port_loop.specs.Serving.{Desk}
use Rattle.port_loop.specs.declared.ports.Happening.{Happening}
use Rattle.port_loop.specs.declared.ports.Happening.TheVariants.{Opened, Refused, Went, Failed, Closed}
use Rattle.port_loop.specs.declared.serving.TheConstants.{MOST_UNSENT}
use Rattle.port_loop.proofs.ListLaws.{same}
use Rattle.node_loop.proofs.LookLaws.{kept}
use Rattle.node_loop.proofs.HearingLaws.{goes-loses, goes-posts, shut-off}
use Rattle.node_loop.proofs.PuttingLaws.{goes-closed, goes-failed, goes-on, goes-opened, goes-refused, goes-rests, goes-went}
use Rattle.node_loop.proofs.MovingLaws.{holding-here, holding-sets, laid-same, lifted-same, moves-happens, moves-loses, moves-posts, moves-stop, moves-then, moves-two, moves-zero, new-sets, stops-here}

pub leaves-then : {H T E : Type 0} {n : ℕ} {v : Ghosts H} {a b : Here H} {w x : Work} (k : ℕ) (c : Here H) (y : Work)
    (r : Result T E) → Moves n v a w b x → Leaves k v b x c y r → Leaves (n + k) v a w c y r
leaves-then {H} {T} {E} {n} {v} {a} {b} {w} {x} k c y (Ok t) m l = moves-then m l
leaves-then {H} {T} {E} {n} {v} {a} {b} {w} {x} k c y (Err e) m l = moves-stop c m l

-- ---- what is put

closed-sets : (p : ℕ) (s : Held) (at bt : ℕ → Option Held) → Sets p None at bt → Sets p None (holding p s at) bt
closed-sets p s at bt sets = record { here = sets.here; there = λ q ne. rw ne (sets.there q ne) }

-- too much waits
pub keep-closed : {H : Type 0} {v : Ghosts H} (a b : Here H) (w : Work) (p : ℕ) (s : Held) → MOST_UNSENT < length s.unsent
    → b.opened ≡ a.opened → Adds (Closed p) a.told b.told → b.desk ≡ a.desk → b.over ≡ over_after s.to a.over
    → Sets p None a.at b.at → b.ways ≡ a.ways
    → Moves 0 v (holding_on p s a) (putting w p) b w
keep-closed {H} {v} a b w p s many opened told desk over sets ways =
    moves-happens (Closed p) told (λ first since steps g.
    let k : IsKept (look p steps) s = kept (look p steps) (holding p s a.at p) s (holding-here p s a.at) (g.each p) in
    goes-closed p s (holding-here p s a.at) (inr (inr (s.unsent, k.unsent, many))) opened desk over
    (closed-sets p s a.at b.at sets) ways refl refl refl g.read (λ q ne f. f) (λ q ne f. ne) g)

pub keep-laid : {H : Type 0} {v : Ghosts H} (a b : Here H) (w : Work) (p : ℕ) (s : Held) → length s.unsent ≤ MOST_UNSENT
    → (s.is_full ≡ false → s.unsent ≡ [])
    → b.opened ≡ a.opened → b.told ≡ a.told → b.desk ≡ a.desk → b.over ≡ a.over → Sets p (Some s) a.at b.at → b.ways ≡ a.ways
    → Moves 0 v (holding_on p s a) (putting w p) b w
keep-laid {H} {v} a b w p s few all opened told desk over sets ways =
    moves-zero told (λ first since steps g.
    goes-rests p (subst (λ (o : Option Held). Rests o) (sym (holding-here p s a.at)) (record { bound = few; all = all }))
    opened desk
    over (laid-same p s a.at b.at sets) ways g)

-- a put took so many bytes
abbrev pub put_on : ℕ → ℕ → List ℕ → Happening
put_on p n unsent = Went p (take n unsent) (nat_lt n (length unsent))

pub put-went : {H : Type 0} {v : Ghosts H} (a m : Here H) (w : Work) (p n : ℕ) (s t : Held)
    → t ≡ record s { unsent = drop n s.unsent; is_full = nat_lt n (length s.unsent) }
    → m.opened ≡ a.opened → Adds (put_on p n s.unsent) a.told m.told → m.desk ≡ a.desk → m.over ≡ a.over → m.at ≡ a.at
    → m.ways ≡ a.ways
    → Moves 0 v (holding_on p s a) (putting w p) (holding_on p t m) (putting w p)
put-went {H} {v} a m w p n s t is_t opened told desk over at ways =
    moves-happens (put_on p n s.unsent) told (λ first since steps g.
    goes-went w p n (nat_lt n (length s.unsent)) s t (holding-here p s a.at) is_t opened desk over
    (subst (λ (f : ℕ → Option Held). Sets p (Some t) (holding p s a.at) (holding p t f)) (sym at)
    (holding-sets p s t a.at)) ways g)

-- no memory for what is left of it
pub put-stops : {H : Type 0} {v : Ghosts H} (a b : Here H) (w : Work) (p n : ℕ) (s : Held)
    → b.opened ≡ a.opened → Adds (put_on p n s.unsent) a.told b.told → b.desk ≡ a.desk → b.over ≡ a.over → b.at ≡ a.at
    → b.ways ≡ a.ways
    → Stops v (holding_on p s a) (putting w p) b
put-stops {H} {v} a b w p n s opened told desk over at ways =
    let t : Held = record s { unsent = drop n s.unsent; is_full = nat_lt n (length s.unsent) } in
    let moved : Moves 0 v (holding_on p s a) (putting w p) (holding_on p t b) (putting w p) =
    put-went a b w p n s t refl opened told desk over at ways in
    stops-here moved

-- after a put that took all, nothing waits
pub put-all : (n : ℕ) (s t : Held) → t ≡ record s { unsent = drop n s.unsent; is_full = nat_lt n (length s.unsent) }
    → t.is_full ≡ false → t.unsent ≡ []
put-all n s t is_t e =
    ap (λ (x : Held). x.unsent) is_t
    ∙ drop_all n s.unsent (ltb-false n (length s.unsent) (sym (ap (λ (x : Held). x.is_full) is_t) ∙ e))

pub put-failed : {H : Type 0} {v : Ghosts H} (a m b : Here H) (w : Work) (p : ℕ) (s : Held)
    → m.opened ≡ a.opened → Adds (Failed p) a.told m.told → m.desk ≡ a.desk → m.over ≡ a.over → m.at ≡ a.at → m.ways ≡ a.ways
    → b.opened ≡ m.opened → Adds (Closed p) m.told b.told → b.desk ≡ m.desk → b.over ≡ over_after s.to m.over
    → Sets p None m.at b.at → b.ways ≡ m.ways
    → Moves 0 v (holding_on p s a) (putting w p) b w
put-failed {H} {v} a m b w p s opened told desk over at ways opened' told' desk' over' sets ways' =
    moves-two (Failed p) (Closed p) m.told told told' (λ first since steps g.
    let failed : Goes v first since (holding_on p s m) (putting w p) (Happens (Failed p) ∷ steps) =
    goes-failed w p s (holding-here p s a.at) opened desk over
    (λ q. ap (λ (f : ℕ → Option Held). holding p s f q) at) ways g in
    goes-closed p s (holding-here p s m.at) (inr (inl (rw (same p) refl))) opened' desk' over'
    (closed-sets p s m.at b.at sets) ways' refl refl refl failed.read (λ q ne f. f) (λ q ne f. ne) failed)

-- ---- messages on their ways

pub message-posted : {H : Type 0} {v : Ghosts H} (a : Here H) (w : Work) (p : ℕ) (m : Message) (more : List Message) (s t : Held)
    → a.ways m.to ≡ Some p → length m.bytes ≤ MAX_RECORD
    → t ≡ record s { unsent = s.unsent ++ framed m.bytes; is_awaited = true }
    → Moves 0 v (holding_on p s a) (posting w (m ∷ more)) (holding_on p t a) (putting (posting w more) p)
message-posted {H} {v} a w p m more s t way short is_t =
    moves-posts p m refl (λ first since steps g.
    goes-posts w p m more s t (holding-here p s a.at) way short is_t refl refl refl (holding-sets p s t a.at) refl g)

-- the message that waits first, which has no open connection
sends-none : {H : Type 0} {v : Ghosts H} {first : v.State} {since : Desk H} {a : Here H} {steps : List (Step v.Choice)}
    (w : Work) (m : Message) (more : List Message) → length m.bytes ≤ MAX_RECORD → open_at (a.ways m.to) a.at ≡ None
    → Goes v first since a (posting w (m ∷ more)) steps → Sends (rules_of v) first m None steps
sends-none w m more short shut g =
    record { later = more; waits = g.waiting; short = short; reaches = shut-off m.to shut g }

pub message-too-long : {H : Type 0} {v : Ghosts H} (a : Here H) (w : Work) (m : Message) (more : List Message)
    → MAX_RECORD < length m.bytes
    → Moves 0 v a (posting w (m ∷ more)) a (posting w more)
message-too-long {H} {v} a w m more long =
    moves-loses m refl (λ first since steps g.
    goes-loses w m more (inl (more, g.waiting, long)) refl refl refl (λ q. refl) refl g)

-- of a node that is no drive and has no open connection
pub message-lost : {H : Type 0} {v : Ghosts H} (a : Here H) (w : Work) (m : Message) (more : List Message)
    → length m.bytes ≤ MAX_RECORD → open_at (a.ways m.to) a.at ≡ None → is_drive m.to ≡ false
    → Moves 0 v a (posting w (m ∷ more)) a (posting w more)
message-lost {H} {v} a w m more short shut other =
    moves-loses m refl (λ first since steps g.
    goes-loses w m more (inr (sends-none w m more short shut g, other)) refl refl refl (λ q. refl) refl g)

-- of a drive towards which none could be opened
pub message-refused : {H : Type 0} {v : Ghosts H} (a b : Here H) (w : Work) (m : Message) (more : List Message)
    → length m.bytes ≤ MAX_RECORD → open_at (a.ways m.to) a.at ≡ None → is_drive m.to ≡ true
    → b.opened ≡ a.opened → Adds (Refused m.to) a.told b.told → b.desk ≡ a.desk → b.over ≡ a.over → b.at ≡ a.at → b.ways ≡ a.ways
    → Moves 0 v a (posting w (m ∷ more)) b (posting w more)
message-refused {H} {v} a b w m more short shut drive opened told desk over at ways =
    moves-happens (Refused m.to) told (λ first since steps g.
    goes-refused w m.to m more (m, refl, drive, sends-none w m more short shut g) opened desk over
    (λ q. ap (λ (f : ℕ → Option Held). f q) at) ways g)

-- towards a drive one is opened
pub message-opens : {H : Type 0} {v : Ghosts H} (a b : Here H) (w : Work) (p : ℕ) (m : Message) (more : List Message)
    → length m.bytes ≤ MAX_RECORD → open_at (a.ways m.to) a.at ≡ None → is_drive m.to ≡ true
    → p ≡ a.opened → b.opened ≡ a.opened + 1 → Adds (Opened p m.to) a.told b.told → b.desk ≡ a.desk → b.over ≡ a.over
    → b.at ≡ a.at → Leads m.to p a.ways b.ways
    → Moves 0 v a (posting w (m ∷ more)) (holding_on p (held (Some m.to)) b) (posting w (m ∷ more))
message-opens {H} {v} a b w p m more short shut drive number opened told desk over at leads =
    moves-happens (Opened p m.to) told (λ first since steps g.
    goes-opened p m.to refl (m, refl, drive, sends-none w m more short shut g) number opened desk over
    (subst (λ (f : ℕ → Option Held). Sets p (Some (held (Some m.to))) a.at (holding p (held (Some m.to)) f)) (sym at)
    (new-sets p (held (Some m.to)) a.at)) leads g)

-- no memory to keep that
pub open-stops : {H : Type 0} {v : Ghosts H} (a b : Here H) (w : Work) (p : ℕ) (m : Message) (more : List Message)
    → length m.bytes ≤ MAX_RECORD → open_at (a.ways m.to) a.at ≡ None → is_drive m.to ≡ true
    → p ≡ a.opened → b.opened ≡ a.opened + 1 → Adds (Opened p m.to) a.told b.told → b.desk ≡ a.desk
    → Stops v a (posting w (m ∷ more)) b
open-stops {H} {v} a b w p m more short shut drive number opened told desk =
    let c : Here H = record {
      opened = b.opened;
      told = b.told;
      desk = b.desk;
      over = a.over;
      at = a.at;
      ways = λ n. if is_node m.to n then Some p else a.ways n;
    } in
    let moved : Moves 0 v a (posting w (m ∷ more)) (holding_on p (held (Some m.to)) c) (posting w (m ∷ more)) =
    message-opens a c w p m more short shut drive number opened told desk refl refl (λ n. refl) in
    stops-here moved

pub leads-here : (n : Node) (p : ℕ) (ways now : Node → Option ℕ) → Leads n p ways now → now n ≡ Some p
leads-here n p ways now leads = leads n ∙ rw (node-same n) refl
  where
    node-same : (n : Node) → is_node n n ≡ true
    node-same Server = refl
    node-same (Drive d) = same d
    node-same (Client c) = same c

-- ---- a node that is reached

pub from-lifted : {H : Type 0} {v : Ghosts H} (a b : Here H) (w : Work) (p : ℕ) (s : Held)
    → a.at p ≡ Some s → Sets p None a.at b.at → b.opened ≡ a.opened → b.told ≡ a.told → b.desk ≡ a.desk → b.over ≡ a.over
    → b.ways ≡ a.ways
    → Moves 0 v a w (holding_on p s b) w
from-lifted {H} {v} a b w p s is sets opened told desk over ways =
    moves-zero told (λ first since steps g.
    goes-on opened desk over (lifted-same p s a.at b.at is sets) (λ n. ap (λ (f : Node → Option ℕ). f n) ways) g)

pub from-same : {H : Type 0} {v : Ghosts H} (a b : Here H) (w : Work) → ((q : ℕ) → b.at q ≡ a.at q)
    → b.opened ≡ a.opened → b.told ≡ a.told → b.desk ≡ a.desk → b.over ≡ a.over → b.ways ≡ a.ways
    → Moves 0 v a w b w
from-same {H} {v} a b w there opened told desk over ways =
    moves-zero told (λ first since steps g. goes-on opened desk over there (λ n. ap (λ (f : Node → Option ℕ). f n) ways) g)
