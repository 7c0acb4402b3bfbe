-- Each step of a client asks nothing, or one request once none is outstanding.
use Rattle.std.proofs.Common.{◌≡◌, ◌≤◌, ◌<◌, ◌+◌, ◌-◌, ◌==◌, ◌⊎◌, nat_lt, ℕ, Bool, true, false, List, [], ◌∷◌, ◌++◌, Option, Some, None, Ok, Err, map, find, is_some, refl, sym, ap, subst, arith, inl, inr, if◌then◌else◌}
use Rattle.std.proofs.lemmas.Bool.{cases_Bool}
use Rattle.std.proofs.lemmas.Bool.Decides.{nat_tests}
use Rattle.osd_lists.specs.declared.node.Node.{Node}
use Rattle.osd_lists.specs.declared.node.Node.TheVariants.{Server as FromServer, Drive as FromDrive}
use Rattle.layout_ops.specs.declared.statuses.TheConstants.{NFS4_OK, NFS4ERR_BADLAYOUT}
use Rattle.client_rules.specs.declared.limits.TheConstants.{MAX_TRIES}
use Rattle.history_law.specs.State.{Client, Call, CallOp, CallErr, Busy, BadRange, SlotSpent, Held, Awaited, TimedOut, Need, First, Get, Commit, Phase, Starts, Needs, Waits, Reads, Probes, Gathers, Scatters, WriteOk, Moved, Done, Outgoing, AnswersRecall, Asks, Request, Answer, Recall, RecallAnswer, Reply}
use Rattle.client_rules.specs.Calls.{file_of, span_of}
use Rattle.client_rules.specs.Grants.{held_of, put_held, covers}
use Rattle.client_rules.specs.Requests.{grant_in}
use Rattle.client_rules.specs.Results.{status_of}
use Rattle.client_rules.specs.Commands.{of_component}
use Rattle.client_rules.specs.Io.{awaited_in}
use Rattle.client_rules.specs.Writes.{accounted}
use Rattle.client_rules.specs.Replies.{answers, replied, timed_out}
use Rattle.client_rules.specs.Answers.{not_granted, not_committed, on_commit}
use Rattle.client_rules.specs.Going.{quiet, phased, with_held, moved, begun, progressed}
use Rattle.client_rules.specs.Messages.{Message, Replies, Answers, Recalls, Taken, TakesAnswer, TakesReply, TakesRecall, Step, still, to_drive, finished, on_call, is_awaited, no_match, obeys, recalled, reply_under, reply_call, answer_taken, reply_taken, awaited_of, takes, on_taken, by_taken, hears}
use Rattle.client_rules.specs.Steps.{is_bad_range, is_spent, writes_nothing, starts, calls, timeout_under, timeout_call, times_out, all_due, leaves, outstanding_sends, resent}
use Rattle.client_rules.specs.History.{Input, Calls, Hears, TimesOut, Leaves, Resends, unless_refused, step}
use Rattle.client_rules.specs.Commands.{in_order}
use Rattle.client_rules.proofs.HeldGrants.{put_at}
use Rattle.exchange_law.proofs.Few.{rank_behind, IsDriving, replied_few, timed_out_few}
use Rattle.exchange_law.proofs.Granted.{taken_covers}
use Rattle.exchange_law.proofs.SlotAsking.{HasRoom, room_less, rank_at, RoomPhase, RoomCall, Unasked, Calm, AsksNone, AsksOne, AreOutstanding, RoomTurn, by_turn_calm, moved_calm, progressed_asked}
use Rattle.history_law.specs.Turns.{IsWaiting}
use Rattle.history_law.proofs.Turns.{each_refusal, each_answer}

-- ---- a step

-- each request that is sent is outstanding then
abbrev pub AsksOnly : Option Request → List Outgoing → Type 0
AsksOnly o [] = Unit {0}
AsksOnly o (Asks r ∷ os) = (o ≡ Some r) × AsksOnly o os
AsksOnly o (x ∷ os) = AsksOnly o os

pub record StepAsks (c : Client) (o : Option Request) (s : Step) : Type 0 where
  pub number : s.client.number ≡ c.number
  pub asks : AsksNone c.next o s.client ⊎ AsksOne c.number c.next o s.client
  pub sends : AsksOnly s.client.outstanding s.sends
  pub room : RoomCall s.client.held s.client.next s.client.call

recalls_only : (o : Option Request) (rs : List RecallAnswer) (os : List Outgoing) → AsksOnly o os
    → AsksOnly o (map AnswersRecall rs ++ os)
recalls_only o [] os k = k
recalls_only o (r ∷ rs) os k = recalls_only o rs os k

requests_only : (o : Option Request) (rs : List Request) (os : List Outgoing) → AreOutstanding o rs → AsksOnly o os
    → AsksOnly o (map Asks rs ++ os)
requests_only o [] os a k = k
requests_only o (r ∷ rs) os a k = (a.0, requests_only o rs os a.1 k)

commands_only : (o : Option Request) (xs : List Awaited) → AsksOnly o (map to_drive xs)
commands_only o [] = tt
commands_only o (a ∷ xs) = commands_only o xs

finished_asks : (c : Client) (o : Option Request) (d : Done) → Calm c.number c.next o d → StepAsks c o (finished d)
unfolding finished
finished_asks c o d k =
    let a = progressed_asked c.number c.next o d k in
    let e : Done = progressed (begun d) in
    record {
      number = a.number;
      asks = a.asks;
      sends =
          recalls_only e.client.outstanding e.recalls (map Asks e.requests ++ map to_drive e.commands)
          (requests_only e.client.outstanding e.requests (map to_drive e.commands) a.requests
          (commands_only e.client.outstanding e.commands));
      room = a.room;
    }

-- nothing happens
abbrev pub HasRoomIn : Client → Type 0
HasRoomIn c = RoomCall c.held c.next c.call

still_asks : (c : Client) → HasRoomIn c → StepAsks c c.outstanding (still c)
still_asks c room = record { number = refl; asks = inl (refl, refl); sends = tt; room = room }

-- ---- answers

module _ (own first : ℕ) (o : Option Request) where
  abbrev C : Done → Type 0
  C d = Calm own first o d

  abbrev U : Done → Type 0
  U d = Unasked own first o d

  granted_calm : (d : Done) (op : CallOp) (h : Held) → (h.file ≡ file_of op) × (covers h op ≡ true) → U d
      → HasRoom d.client.next 2 → C (phased (with_held d h) op Starts)
  granted_calm d op h it u room =
      let found : held_of (put_held d.client.held h) (file_of op) ≡ Some h =
      put_at d.client.held h (file_of op) it.0 in (
        u,
        subst (λ (x : Option Held). HasRoom d.client.next (rank_at op x)) (sym found)
            (subst (λ (b : Bool). HasRoom d.client.next (if b then 2 else 6)) (sym it.1) room),
      )

  fewer_tries : (tries : ℕ) → nat_lt (tries + 1) MAX_TRIES ≡ true → (2 - (tries + 1)) + 2 + 1 ≤ (2 - tries) + 2
  fewer_tries tries few = let l : tries + 1 < 3 = grind (arith, nat_tests, few) in omega (arith, l)

  not_granted_room : (n : ℕ) (a : Answer) (tries : ℕ) → HasRoom n (rank_behind (Get tries))
      → RoomTurn own first o n (not_granted a tries)
  not_granted_room n a tries room =
      each_refusal a tries (RoomTurn own first o n) (record {
        again = λ few hs op.
            room_less n (rank_behind (Get tries)) (rank_behind (Get (tries + 1)) + 1) (fewer_tries tries few) room;
        no_file = tt;
        is_held = tt;
        is_fenced = tt;
        none_given = tt;
        other = tt;
      })

  accounted_room : (n : ℕ) (op : CallOp) (timed : List TimedOut) → HasRoom n 1
      → RoomTurn own first o n (accounted op timed)
  accounted_room n op [] room = tt
  accounted_room n op (t ∷ ts) room = λ hs op'. room

  not_committed_room : (n status detail : ℕ) → RoomTurn own first o n (not_committed status detail)
  unfolding not_committed
  not_committed_room n status detail =
      elim (cases_Bool (status == NFS4ERR_BADLAYOUT)) [ inl t ↦ rw t tt | inr f ↦ rw f tt ]

  either_moved : (n : ℕ) (b : Bool) (x y : Moved) → RoomTurn own first o n x.turn → RoomTurn own first o n y.turn
      → RoomTurn own first o n (if b then x else y).turn
  either_moved n true x y p q = p
  either_moved n false x y p q = q

  commit_room : (n : ℕ) (h : Held) (op : CallOp) (a : Answer) (timed : List TimedOut) → HasRoom n 1
      → RoomTurn own first o n (on_commit h op a timed).turn
  unfolding on_commit
  commit_room n h op a timed room =
      either_moved n (status_of a.results == NFS4_OK) _ _ (accounted_room n op timed room) (not_committed_room n _ _)

  answered_calm : (d : Done) (a : Answer) → C d → C (on_call d d.client.call a)
  answered_calm d a c =
      each_answer d a C (record {
        stays = c;
        returned = λ op is.
            let r = room_of op First is in
            (c.0, subst (λ (x : Option Held). HasRoom d.client.next (rank_at op x)) (sym r.0) r.1);
        granted = λ op tries h is took.
            granted_calm d op h (taken_covers a op h took) c.0
            (room_less d.client.next (rank_behind (Get tries)) 2 (omega arith) (room_of op (Get tries) is).1);
        unusable = λ op tries w is took. (c.0, tt);
        refused = λ op tries is.
            by_turn_calm own first o d op (not_granted a tries) c.0
            (not_granted_room d.client.next a tries (room_of op (Get tries) is).1);
        committed = λ op timed h is held.
            let m : Moved = on_commit h op a timed in
            by_turn_calm own first o (record (with_held d m.held) { commands = m.sent }) op m.turn c.0
            (commit_room d.client.next h op a timed (room_of op (Commit timed) is).1);
        reported = λ op timed is. (c.0, tt);
        closed = λ op u report is. (c.0, tt);
      })
    where
      room_of : (op : CallOp) (n : Need) → IsWaiting d.client op n → RoomPhase d.client.held op d.client.next (Waits n)
      room_of op n is = subst (RoomCall d.client.held d.client.next) is c.1

-- ---- recalls, replies and timeouts

recalled_calm : (c : Client) (r : Recall) (h : Option Held) → HasRoomIn c
    → Calm c.number c.next c.outstanding (recalled c r h)
recalled_calm c r None room = (record { number = refl; next = refl; outstanding = refl; requests = refl }, room)
recalled_calm c r (Some h) room = by_number (h.number == grant_in r.args.stateid)
  where
    by_number : (b : Bool) → Calm c.number c.next c.outstanding (if b then obeys c r else no_match c r)
    by_number true = (record { number = refl; next = refl; outstanding = refl; requests = refl }, room)
    by_number false = (record { number = refl; next = refl; outstanding = refl; requests = refl }, room)

-- a call that awaits commands drives
abbrev DrivesCall : Option Call → Type 0
DrivesCall None = ⊥
DrivesCall (Some call) = IsDriving call.phase

driving_room : (hs : List Held) (op : CallOp) (n : ℕ) (p : Phase) → IsDriving p → RoomPhase hs op n p → HasRoom n 2
driving_room hs op n Starts w room = absurd w
driving_room hs op n (Needs need) w room = absurd w
driving_room hs op n (Waits need) w room = absurd w
driving_room hs op n (Reads io) w room = room
driving_room hs op n (Probes io) w room = room
driving_room hs op n (Gathers io) w room = room
driving_room hs op n (Scatters io queue) w room = room

quiet_unasked : (c : Client) → Unasked c.number c.next c.outstanding (quiet c)
quiet_unasked c = record { number = refl; next = refl; outstanding = refl; requests = refl }

reply_under_calm : (c : Client) (call : Call) (a : Awaited) (r : Reply) (h : Option Held) → HasRoomIn c
    → IsDriving call.phase → HasRoom c.next 2 → Calm c.number c.next c.outstanding (reply_under c call a r h)
reply_under_calm c call a r None room w two = (quiet_unasked c, room)
reply_under_calm c call a r (Some h) room w two =
    moved_calm c.number c.next c.outstanding (quiet c) call.op (replied h call.op call.phase a r) (quiet_unasked c)
    (replied_few h call.op call.phase a r w) two

reply_call_calm : (c : Client) (a : Awaited) (r : Reply) (call : Option Call) → HasRoomIn c → DrivesCall call
    → RoomCall c.held c.next call → Calm c.number c.next c.outstanding (reply_call c a r call)
reply_call_calm c a r None room w here = absurd w
reply_call_calm c a r (Some call) room w here =
    reply_under_calm c call a r (held_of c.held (file_of call.op)) room w
    (driving_room c.held call.op c.next call.phase w here)

drives_taken : (call : Option Call) (p : Awaited → Bool) (r q : Reply) (a : Awaited)
    → reply_taken r (find p (awaited_of call)) ≡ Some (TakesReply a q) → DrivesCall call
drives_taken None p r q a e = absurd (cc e)
drives_taken (Some call) p r q a e = by_phase call.phase e
  where
    by_phase : (f : Phase) → reply_taken r (find p (awaited_in f)) ≡ Some (TakesReply a q) → IsDriving f
    by_phase Starts e = absurd (cc e)
    by_phase (Needs n) e = absurd (cc e)
    by_phase (Waits n) e = absurd (cc e)
    by_phase (Reads io) e = tt
    by_phase (Probes io) e = tt
    by_phase (Gathers io) e = tt
    by_phase (Scatters io queue) e = tt

none_of_component : (k : ℕ) (f : Phase) (a : Awaited) (xs : List Awaited) → of_component k (awaited_in f) ≡ a ∷ xs
    → IsDriving f
unfolding of_component
none_of_component k Starts a xs e = absurd (cc e)
none_of_component k (Needs n) a xs e = absurd (cc e)
none_of_component k (Waits n) a xs e = absurd (cc e)
none_of_component k (Reads io) a xs e = tt
none_of_component k (Probes io) a xs e = tt
none_of_component k (Gathers io) a xs e = tt
none_of_component k (Scatters io queue) a xs e = tt

timeout_under_asks : (c : Client) (call : Call) (k : ℕ) (h : Option Held) (xs : List Awaited) → HasRoomIn c
    → RoomPhase c.held call.op c.next call.phase → of_component k (awaited_in call.phase) ≡ xs
    → StepAsks c c.outstanding (timeout_under c call k h xs)
timeout_under_asks c call k (Some h) (a ∷ xs) room here is =
    let w = none_of_component k call.phase a xs is in
    finished_asks c c.outstanding (moved (quiet c) call.op (timed_out h call.op call.phase k a xs))
    (moved_calm c.number c.next c.outstanding (quiet c) call.op (timed_out h call.op call.phase k a xs)
    (quiet_unasked c) (timed_out_few h call.op call.phase k a xs w)
    (driving_room c.held call.op c.next call.phase w here))
timeout_under_asks c call k None xs room here is = still_asks c room
timeout_under_asks c call k (Some h) [] room here is = still_asks c room

timeout_call_asks : (c : Client) (k : ℕ) (call : Option Call) → HasRoomIn c → RoomCall c.held c.next call
    → StepAsks c c.outstanding (timeout_call c k call)
timeout_call_asks c k None room here = still_asks c room
timeout_call_asks c k (Some call) room here =
    timeout_under_asks c call k (held_of c.held (file_of call.op)) (of_component k (awaited_in call.phase)) room here
    refl

-- ---- calls

starts_asks : (c : Client) (op : CallOp) (b : Bool) → HasRoomIn c → HasRoom c.next 6
    → StepAsks c c.outstanding
    (if b then record (still c) { outcome = Some (WriteOk 0) }
    else finished (quiet (record c { call = Some (record { op = op; phase = Starts }) })))
starts_asks c op true room six = record { number = refl; asks = inl (refl, refl); sends = tt; room = room }
starts_asks c op false room six =
    finished_asks c c.outstanding (quiet (record c { call = Some (record { op = op; phase = Starts }) }))
    (record { number = refl; next = refl; outstanding = refl; requests = refl }, enough (held_of c.held (file_of op)))
  where
    either_enough : (b : Bool) → HasRoom c.next (if b then 2 else 6)
    either_enough true = room_less c.next 6 2 (omega arith) six
    either_enough false = six

    enough : (h : Option Held) → HasRoom c.next (rank_at op h)
    enough None = room_less c.next 6 5 (omega arith) six
    enough (Some h) = either_enough (covers h op)

refuses : (c : Client) (a b d : Bool) (x y z : CallErr) (s : Step) → HasRoomIn c
    → (d ≡ false → StepAsks c c.outstanding s)
    → StepAsks c c.outstanding (unless_refused c (if a then Err x else if b then Err y else if d then Err z else Ok s))
refuses c true b d x y z s room k = still_asks c room
refuses c false true d x y z s room k = still_asks c room
refuses c false false true x y z s room k = still_asks c room
refuses c false false false x y z s room k = k refl

six_left : (n : ℕ) → is_spent n ≡ false → HasRoom n 6
six_left n e some =
    let least : (n ≡ 0) → ⊥ = λ z. absurd (grind (arith, nat_tests, e, z)) in
    let most : (4294967279 < n - 1) → ⊥ = λ z. absurd (grind (arith, nat_tests, e, z)) in
    (omega (arith, least), omega (arith, least, most))

calls_asks : (c : Client) (op : CallOp) → HasRoomIn c → StepAsks c c.outstanding (unless_refused c (calls c op))
unfolding calls
calls_asks c op room =
    refuses c (is_some c.call) (is_bad_range (span_of op)) (is_spent c.next) Busy BadRange SlotSpent (starts c op) room
    (λ e. starts_asks c op (writes_nothing op) room (six_left c.next e))

-- ---- any step

-- what is outstanding once this came: where an answer is taken, nothing
abbrev pub unless_answered : Option Request → Option Taken → Option Request
unless_answered o None = o
unless_answered o (Some (TakesAnswer a)) = None
unless_answered o (Some (TakesReply a r)) = o
unless_answered o (Some (TakesRecall r)) = o

abbrev pub outstanding_in : Client → Input → Option Request
outstanding_in c (Hears from m) = unless_answered c.outstanding (takes c from m)
outstanding_in c i = c.outstanding

-- a reply is taken while the call drives
drives_takes : (c : Client) (from : Node) (m : Message) (a : Awaited) (r : Reply)
    → takes c from m ≡ Some (TakesReply a r) → DrivesCall c.call
unfolding takes
drives_takes c (FromDrive d) (Replies reply) a r e = drives_taken c.call (answers d reply) reply r a e
drives_takes c FromServer (Answers answer) a r e = absurd (no_reply c.outstanding e)
  where
    either_none : (b : Bool) → (if b then Some (TakesAnswer answer) else None) ≡ Some (TakesReply a r) → ⊥
    either_none true e = cc e
    either_none false e = cc e

    no_reply : (o : Option Request) → answer_taken c answer o ≡ Some (TakesReply a r) → ⊥
    no_reply None e = cc e
    no_reply (Some q) e = either_none (is_awaited c answer q) e
drives_takes c FromServer (Recalls recall) a r e = absurd (either_none (recall.client == c.number) e)
  where
    either_none : (b : Bool) → (if b then Some (TakesRecall recall) else None) ≡ Some (TakesReply a r) → ⊥
    either_none true e = cc e
    either_none false e = cc e
drives_takes c from m a r e = absurd (cc e)

on_taken_calm : (c : Client) (t : Taken) → HasRoomIn c
    → ((a : Awaited) (r : Reply) → t ≡ TakesReply a r → DrivesCall c.call)
    → Calm c.number c.next (unless_answered c.outstanding (Some t)) (on_taken c t)
on_taken_calm c (TakesAnswer a) room w =
    answered_calm c.number c.next None (quiet (record c { outstanding = None })) a
    (record { number = refl; next = refl; outstanding = refl; requests = refl }, room)
on_taken_calm c (TakesReply a r) room w = reply_call_calm c a r c.call room (w a r refl) room
on_taken_calm c (TakesRecall r) room w = recalled_calm c r (held_of c.held r.file) room

by_taken_asks : (c : Client) (t : Option Taken) → HasRoomIn c
    → ((a : Awaited) (r : Reply) → t ≡ Some (TakesReply a r) → DrivesCall c.call)
    → StepAsks c (unless_answered c.outstanding t) (by_taken c t)
by_taken_asks c None room w = still_asks c room
by_taken_asks c (Some t) room w =
    finished_asks c (unless_answered c.outstanding (Some t)) (on_taken c t)
    (on_taken_calm c t room (λ a r e. w a r (ap (λ (x : Taken). Some x) e)))

hears_asks : (c : Client) (from : Node) (m : Message) → HasRoomIn c
    → StepAsks c (unless_answered c.outstanding (takes c from m)) (hears c from m)
unfolding hears
hears_asks c from m room = by_taken_asks c (takes c from m) room (λ a r e. drives_takes c from m a r e)

leaves_asks : (c : Client) → HasRoomIn c → StepAsks c c.outstanding (leaves c)
unfolding leaves
leaves_asks c room =
    finished_asks c c.outstanding (quiet (record c { due = all_due c.due c.held }))
    (record { number = refl; next = refl; outstanding = refl; requests = refl }, room)

times_out_asks : (c : Client) (k : ℕ) → HasRoomIn c → StepAsks c c.outstanding (times_out c k)
unfolding times_out
times_out_asks c k room = timeout_call_asks c k c.call room room

outstanding_only : (o : Option Request) (xs : List Awaited) → AsksOnly o (outstanding_sends o ++ map to_drive xs)
outstanding_only None xs = commands_only None xs
outstanding_only (Some r) xs = (refl, commands_only (Some r) xs)

resends_asks : (c : Client) → HasRoomIn c → StepAsks c c.outstanding (record (still c) { sends = resent c })
unfolding resent
resends_asks c room = record {
  number = refl;
  asks = inl (refl, refl);
  sends = outstanding_only c.outstanding (in_order (awaited_of c.call));
  room = room;
}

pub step_asks : (c : Client) (i : Input) → HasRoomIn c → StepAsks c (outstanding_in c i) (step c i)
step_asks c (Calls op) room = calls_asks c op room
step_asks c (Hears from m) room = hears_asks c from m room
step_asks c (TimesOut k) room = times_out_asks c k room
step_asks c Leaves room = leaves_asks c room
step_asks c Resends room = resends_asks c room
