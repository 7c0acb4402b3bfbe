-- At each moment what a client's call awaits was made under the grant that it holds, whose keys fit their capabilities and whose
-- map is a checked one, for no more bytes than the call's range has.
use Rattle.std.proofs.Common.{◌≡◌, ◌==◌, ℕ, arith, Bool, true, false, List, [], Option, Some, None, Result, Ok, Err, refl, sym, ap, subst, ◌∙◌, inl, inr, if◌then◌else◌}
use Rattle.data_map.specs.Check.{IsChecked}
use Rattle.layout_ops.specs.declared.args.Args.{Args}
use Rattle.layout_ops.specs.declared.args.Args.TheVariants as args
use Rattle.layout_ops.specs.declared.statuses.TheConstants.{NFS4_OK, NFS4ERR_NOENT, NFS4ERR_LAYOUTTRYLATER, NFS4ERR_LAYOUTUNAVAILABLE, NFS4ERR_RECALLCONFLICT}
use Rattle.client_rules.specs.Answers.{busy, refused_with, not_granted, on_commit}
use Rattle.client_rules.specs.Calls.{file_of, span_of}
use Rattle.client_rules.specs.Commands.{credential_of, sealed, command, awaited_for}
use Rattle.client_rules.specs.Going.{quiet, phased, with_held, by_turn, moved, begins, held_after, requests, asks_under, returns}
use Rattle.client_rules.specs.Grants.{held_of, put_held, without_held}
use Rattle.client_rules.specs.History.{Input, step}
use Rattle.client_rules.specs.Layouts.{taken}
use Rattle.client_rules.specs.Messages.{answered_get, commit_under, on_need, on_phase, on_call, finished}
use Rattle.client_rules.specs.Replies.{replied, timed_out}
use Rattle.client_rules.specs.Requests.{object_of, args_of, get_args}
use Rattle.client_rules.specs.Results.{status_of}
use Rattle.client_rules.proofs.HeldGrants.{held_file, put_at}
use Rattle.client_rules.proofs.TakenMaps.{taken_checked}
use Rattle.world_history.specs.ClientNames.{Client, Call, CallOp, Held, Listed, Due, Need, First, Get, Commit, Report, Close, Phase, Starts, Needs, Waits, Reads, Probes, Gathers, Scatters, Outcome, NoFile, HeldBy, Fencing, Why, Turn, Goes, Ends, Forgets, Moved, Done, Answer, Store}
use Rattle.world_history.specs.State.{World, ClientAt}
use Rattle.history_law.specs.Moments.{IsReached}
use Rattle.history_law.proofs.Reached.{always_by}
use Rattle.history_law.proofs.Turns.{each_turn, each_finish}
use Rattle.exchange_law.proofs.ClientKeeping.{put_read, without_read}
use Rattle.exchange_law.proofs.PlaceLists.{all_wider}
use Rattle.cause_law.proofs.EachAt.{EachAt, put_each, come_each}
use Rattle.cause_law.proofs.KeyedGrants.{AreKeyed, taken_keyed}
use Rattle.cause_law.proofs.MadeCommands.{IsMade, PhaseMade, TurnMade, MovedMade, replied_made, timed_out_made, begins_made, on_commit_made}

-- ---- the same components

-- a command is made alike under grants that list the same
listing : (h k : Held) (write : Bool) (w : Store) (nonce : ℕ)
    → awaited_for h write w nonce ≡ awaited_for (record k { components = h.components }) write w nonce
unfolding command sealed credential_of object_of
listing h k write w nonce = refl

same_made : (h k : Held) → k.components ≡ h.components → (write : Bool) (w : Store) (nonce : ℕ)
    → awaited_for h write w nonce ≡ awaited_for k write w nonce
same_made h k e write w nonce =
    listing h k write w nonce
    ∙ ap (λ (ls : List Listed). awaited_for (record k { components = ls }) write w nonce) (sym e)
    ∙ sym (listing k k write w nonce)

phase_again : (h k : Held) (n : ℕ) → k.components ≡ h.components → (p : Phase) → PhaseMade h n p → PhaseMade k n p
phase_again h k n e p m = (
  all_wider (IsMade h n) (IsMade k n) (λ x i. record {
    write = i.write;
    store = i.store;
    nonce = i.nonce;
    is = i.is ∙ same_made h k e i.write i.store i.nonce;
    carries = i.carries;
  }) _ m.0,
  m.1,
)

turn_again : (h k : Held) (n : ℕ) → k.components ≡ h.components → (t : Turn) → TurnMade h n t → TurnMade k n t
turn_again h k n e (Goes p) m = phase_again h k n e p m
turn_again h k n e (Ends o) m = tt
turn_again h k n e (Forgets o) m = tt

-- ---- a client

-- a grant's keys fit their capabilities, and its map is a checked one
pub record IsFineGrant (h : Held) : Type 0 where
  pub keyed : AreKeyed h.components
  pub checked : IsChecked h.map

abbrev pub GrantsFine : List Held → Type 0
GrantsFine hs = (file : ℕ) (h : Held) → held_of hs file ≡ Some h → IsFineGrant h

-- under the grant that is held, if one is
abbrev pub UnderMade : Option Held → CallOp → Phase → Type 0
UnderMade None op p = Unit {0}
UnderMade (Some h) op p = PhaseMade h (span_of op).length p

abbrev pub CallMade : List Held → Option Call → Type 0
CallMade hs None = Unit {0}
CallMade hs (Some call) = UnderMade (held_of hs (file_of call.op)) call.op call.phase

pub record ClientMade (c : Client) : Type 0 where
  pub grants : GrantsFine c.held
  pub call : CallMade c.held c.call

-- in the middle of a step
abbrev DoneMade : Done → Type 0
DoneMade d = ClientMade d.client

under_any : (o : Option Held) (op : CallOp) (p : Phase) → ((h : Held) (n : ℕ) → PhaseMade h n p) → UnderMade o op p
under_any None op p k = tt
under_any (Some h) op p k = k h (span_of op).length

either_done : (b : Bool) (d e : Done) → DoneMade d → DoneMade e → DoneMade (if b then d else e)
either_done true d e k l = k
either_done false d e k l = l

-- ---- what becomes of a call

without_fine : (hs : List Held) (file : ℕ) → GrantsFine hs → GrantsFine (without_held hs file)
without_fine hs file k f h e = k f h (without_read hs file f h e)

after_fine : (hs : List Held) (file : ℕ) (a : Args) → GrantsFine hs → GrantsFine (held_after hs file a)
after_fine hs file (args.LayoutGet a) k = k
after_fine hs file (args.LayoutCommit a) k = k
after_fine hs file (args.LayoutReturn a) k = without_fine hs file k

put_fine : (hs : List Held) (h : Held) → GrantsFine hs → IsFineGrant h → GrantsFine (put_held hs h)
put_fine hs h k l f j e = elim (put_read hs h f j e) [
  | inl new ↦ subst IsFineGrant new.1 l
  | inr old ↦ k f j old.1
]

turn_made : (d : Done) (op : CallOp) (h : Held) (t : Turn) → GrantsFine d.client.held
    → held_of d.client.held (file_of op) ≡ Some h → TurnMade h (span_of op).length t → DoneMade (by_turn d op t)
turn_made d op h (Goes p) k found m = record {
  grants = k;
  call = subst (λ (o : Option Held). UnderMade o op p) (sym found) m;
}
turn_made d op h (Ends o) k found m = record { grants = k; call = tt }
turn_made d op h (Forgets o) k found m = record {
  grants = without_fine d.client.held (file_of op) k;
  call = tt;
}

moved_made : (d : Done) (op : CallOp) (h : Held) (m : Moved) → GrantsFine d.client.held
    → held_of d.client.held (file_of op) ≡ Some h → MovedMade h (span_of op).length m → DoneMade (moved d op m)
moved_made d op h m k found l =
    let old : IsFineGrant h = k (file_of op) h found in
    let own : IsFineGrant m.held =
    record { keyed = subst AreKeyed (sym l.components) old.keyed; checked = subst IsChecked (sym l.map) old.checked } in
    turn_made (record (with_held d m.held) { commands = m.sent }) op m.held m.turn
    (put_fine d.client.held m.held k own)
    (put_at d.client.held m.held (file_of op) (l.file ∙ held_file d.client.held (file_of op) h found))
    (turn_again h m.held (span_of op).length l.components m.turn l.turn)

-- what awaits nothing needs no grant
abbrev Unled : Turn → Type 0
Unled t = (h : Held) (n : ℕ) → TurnMade h n t

unled_made : (d : Done) (op : CallOp) (t : Turn) → GrantsFine d.client.held → Unled t → DoneMade (by_turn d op t)
unled_made d op (Goes p) k u = record { grants = k; call = under_any (held_of d.client.held (file_of op)) op p u }
unled_made d op (Ends o) k u = record { grants = k; call = tt }
unled_made d op (Forgets o) k u = record { grants = without_fine d.client.held (file_of op) k; call = tt }

-- ---- answers

either_unled : (b : Bool) (t u : Turn) → Unled t → Unled u → Unled (if b then t else u)
either_unled true t u k l = k
either_unled false t u k l = l

busy_unled : (tries : ℕ) (o : Outcome) → Unled (busy tries o)
unfolding busy
busy_unled tries o = either_unled _ (Goes (Needs (Get _))) (Ends o) (λ h n. (tt, tt)) (λ h n. tt)

refused_unled : (status detail tries : ℕ) → Unled (refused_with status detail tries)
refused_unled status detail tries =
    either_unled (status == NFS4ERR_NOENT) (Ends NoFile) _ (λ h n. tt)
    (either_unled (status == NFS4ERR_LAYOUTTRYLATER) (busy tries (HeldBy detail)) _ (busy_unled tries (HeldBy detail))
    (either_unled (status == NFS4ERR_RECALLCONFLICT) (busy tries (Fencing detail)) _ (busy_unled tries (Fencing detail))
    (either_unled (status == NFS4ERR_LAYOUTUNAVAILABLE) (Ends _) (Ends _) (λ h n. tt) (λ h n. tt))))

not_granted_unled : (a : Answer) (tries : ℕ) → Unled (not_granted a tries)
unfolding not_granted
not_granted_unled a tries = refused_unled (status_of a.results) a.detail tries

phased_made : (d : Done) (op : CallOp) (p : Phase) → GrantsFine d.client.held → ((h : Held) (n : ℕ) → PhaseMade h n p)
    → DoneMade (phased d op p)
phased_made d op p k m = record { grants = k; call = under_any (held_of d.client.held (file_of op)) op p m }

get_made : (d : Done) (op : CallOp) (a : Answer) (r : Result Held Why) → taken a op ≡ r → DoneMade d
    → DoneMade (answered_get d op r)
get_made d op a (Err w) is k = record { grants = k.grants; call = tt }
get_made d op a (Ok h) is k =
    phased_made (with_held d h) op Starts
    (put_fine d.client.held h k.grants (record { keyed = taken_keyed a op h is; checked = taken_checked a op h is }))
    (λ g n. (tt, tt))

commit_made : (d : Done) (op : CallOp) (a : Answer) (timed : Need) (o : Option Held)
    → held_of d.client.held (file_of op) ≡ o → DoneMade d → DoneMade (commit_under d op a timed o)
commit_made d op a (Commit timed) (Some h) found k =
    moved_made d op h (on_commit h op a timed) k.grants found (on_commit_made h (span_of op).length op a timed)
commit_made d op a n o found k = k

need_made : (d : Done) (op : CallOp) (n : Need) (a : Answer) → DoneMade d → DoneMade (on_need d op n a)
need_made d op First a k = phased_made d op Starts k.grants (λ h n. (tt, tt))
need_made d op (Get tries) a k =
    either_done (status_of a.results == NFS4_OK) _ _ (get_made d op a (taken a op) refl k)
    (unled_made d op (not_granted a tries) k.grants (not_granted_unled a tries))
need_made d op (Commit timed) a k =
    commit_made d op a (Commit timed) (held_of d.client.held (file_of op)) refl k
need_made d op (Report timed) a k = record { grants = k.grants; call = tt }
need_made d op (Close outcome report) a k = record { grants = k.grants; call = tt }

on_phase_made : (d : Done) (op : CallOp) (p : Phase) (a : Answer) → DoneMade d → DoneMade (on_phase d op p a)
on_phase_made d op (Waits n) a k = need_made d op n a k
on_phase_made d op Starts a k = k
on_phase_made d op (Needs n) a k = k
on_phase_made d op (Reads io) a k = k
on_phase_made d op (Probes io) a k = k
on_phase_made d op (Gathers io) a k = k
on_phase_made d op (Scatters io queue) a k = k

on_call_made : (d : Done) (o : Option Call) (a : Answer) → DoneMade d → DoneMade (on_call d o a)
on_call_made d None a k = k
on_call_made d (Some call) a k = on_phase_made d call.op call.phase a k

-- ---- to the end of a step

asks_made : (d : Done) (op : CallOp) (n : Need) (o : Option Held) → DoneMade d → DoneMade (asks_under d op n o)
unfolding requests
asks_made d op n None k = record {
  grants = after_fine d.client.held (file_of op) (get_args op) k.grants;
  call =
      under_any (held_of (held_after d.client.held (file_of op) (get_args op)) (file_of op)) op (Waits n)
      (λ h m. (tt, tt));
}
asks_made d op n (Some h) k = record {
  grants = after_fine d.client.held (file_of op) (args_of h op n) k.grants;
  call =
      under_any (held_of (held_after d.client.held (file_of op) (args_of h op n)) (file_of op)) op (Waits n)
      (λ g m. (tt, tt));
}

no_call : (hs : List Held) (o : Option Call) → o ≡ None → CallMade hs o
no_call hs None e = tt
no_call hs (Some call) e = absurd (cc e)

returns_made : (d : Done) (u : Option Due) → d.client.call ≡ None → DoneMade d → DoneMade (returns d u)
unfolding requests
returns_made d None none k = record { grants = k.grants; call = k.call }
returns_made d (Some u) none k = record {
  grants = without_fine d.client.held u.file k.grants;
  call = no_call _ d.client.call none;
}

finished_made : (d : Done) → DoneMade d → ClientMade (finished d).client
unfolding finished
finished_made d k = each_finish DoneMade (record {
  needs = λ d op n k is out first. phased_made d op (Needs n) k.grants (λ h m. (tt, tt));
  begun = λ d op h k is held covers.
      moved_made d op h (begins h op) k.grants held
      (begins_made h (span_of op).length (k.grants (file_of op) h held).checked op (omega arith));
  asks = λ d op n h k is out held. asks_made d op n h k;
  gives_back = λ d u k none out. returns_made d u none k;
}) d k

phase_at : (hs : List Held) (call : Call) (o : Option Call) (h : Held) → CallMade hs o → o ≡ Some call
    → held_of hs (file_of call.op) ≡ Some h → PhaseMade h (span_of call.op).length call.phase
phase_at hs call o h k is held =
    subst (λ (g : Option Held). UnderMade g call.op call.phase) held (subst (CallMade hs) is k)

pub step_made : (c : Client) (i : Input) → ClientMade c → ClientMade (step c i).client
step_made c i k = each_turn c i (λ s. ClientMade s.client) (record {
  rests = k;
  nothing = λ op is none. k;
  called = λ op is none can. finished_made _ (phased_made (quiet c) op Starts k.grants (λ h n. (tt, tt)));
  answered = λ a is. finished_made _ (on_call_made (quiet (record c { outstanding = None })) c.call a
      (record { grants = k.grants; call = k.call }));
  replied = λ drive q call h a is. finished_made _
      (moved_made (quiet c) call.op h (replied h call.op call.phase a q) k.grants is.held
      (replied_made h (span_of call.op).length (k.grants (file_of call.op) h is.held).checked call.op (omega arith) call.phase a q
      (phase_at c.held call c.call h k.call is.call_is is.held)));
  unheld = finished_made (quiet c) k;
  recalled = λ q is. finished_made _ (record { grants = k.grants; call = k.call });
  unmatched = λ q is. finished_made _ k;
  timed = λ n call h a xs is. finished_made _
      (moved_made (quiet c) call.op h (timed_out h call.op call.phase n a xs) k.grants is.held
      (timed_out_made h (span_of call.op).length (k.grants (file_of call.op) h is.held).checked call.op (omega arith)
      call.phase n a xs (phase_at c.held call c.call h k.call is.call_is is.held)));
  leaves = λ is. finished_made _ (record { grants = k.grants; call = k.call });
  resends = λ is. k;
})

-- ---- at each moment

none_fine : GrantsFine []
unfolding held_of
none_fine file h e = absurd (cc e)

abbrev Made : ClientAt → Type 0
Made a = ClientMade a.state

pub all_made : (w : World) → IsReached w → EachAt (λ (a : ClientAt). ClientMade a.state) w.clients
all_made w r = always_by (λ (v : World). EachAt Made v.clients) (record {
  starts = λ c a e. absurd (cc e);
  cases = λ v m all. record {
    rests = λ ms same told quiet. all;
    refused = λ c a found op handed e is. all;
    clock = λ time. all;
    serves = λ ms same i is. all;
    goes = λ ms same c a found i is. put_each Made v.clients c a _ found (step_made a.state i (all c a found)) all;
    comes = λ c is. come_each Made v.clients c _ (record { grants = none_fine; call = tt }) all;
    stops = λ c a found. put_each Made v.clients c a (record a { stopped = true }) found (all c a found) all;
    judged = λ ms same d a found hears is number. all;
    injected = λ d bytes is a found. all;
    turns = λ d a b found t. all;
    known = λ d key capacity stored is knows. all;
    adds = λ d key capacity stored is knows. all;
  };
}) w r
