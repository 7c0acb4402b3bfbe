-- A client in the middle of a step: the request whose answer it awaits fits, but for the length of a report.
use Rattle.std.specs.List.{AllByRecursion}
use Rattle.std.proofs.Common.{◌≡◌, ◌==◌, ◌&&◌, ◌||◌, ℕ, ◌+◌, ◌^◌, ◌≤◌, ◌<◌, Bool, true, false, List, [], ◌∷◌, Option, Some, None, find, length, refl, sym, subst, arith, inl, inr, if◌then◌else◌}
use Rattle.std.proofs.lemmas.Bool.{cases_Bool}
use Rattle.osd_lists.proofs.Tests.{same_number}
use Rattle.data_map.specs.declared.ranges.TheConstants.{MAX_FILE_SIZE}
use Rattle.xdr_codec.specs.Items.{u32_item}
use Rattle.layout_types.specs.Spelling.{update_item}
use Rattle.layout_ops.specs.declared.args.Args.{Args}
use Rattle.layout_ops.specs.declared.args.Args.TheVariants as args
use Rattle.layout_ops.specs.Spelling.{ArgsFits}
use Rattle.client_rules.specs.declared.limits.TheConstants.{MAX_CALL}
use Rattle.client_rules.specs.Calls.{file_of, span_of, is_write}
use Rattle.client_rules.specs.Grants.{held_of, without_held}
use Rattle.client_rules.specs.Requests.{get_args, commit_args, return_args, args_of, plain_update}
use Rattle.client_rules.specs.Going.{phased, over, with_held, by_turn, moved, begins, begun, held_after, requests, asks_under, is_held, returns, progressed}
use Rattle.client_rules.specs.Messages.{finished}
use Rattle.world_history.specs.ClientNames.{Client, Call, CallOp, Held, Due, IoErr, Need, First, Get, Commit, Report, Close, Phase, Needs, Waits, Outcome, Turn, Goes, Ends, Forgets, Moved, Done, Request}
use Rattle.exchange_law.proofs.PlaceGoing.{put_all, found_all}
use Rattle.cause_law.specs.Reports.{IsShort}
use Rattle.exchange_law.proofs.Kept.{begins_kept}
use Rattle.exchange_law.proofs.Answering.{rw_fits}
use Rattle.history_law.proofs.Turns.{each_begin, each_progress}

-- ---- what is small

-- the file of a call has a number that fits its place, and its range passes no limit
pub record IsSmall (op : CallOp) : Type 0 where
  pub file : file_of op < 2 ^ 32
  pub long : (span_of op).length ≤ MAX_CALL
  pub end : (span_of op).offset + (span_of op).length ≤ MAX_FILE_SIZE

abbrev pub CallSmall : Option Call → Type 0
CallSmall None = Unit {0}
CallSmall (Some call) = IsSmall call.op

abbrev pub HeldSmall : Held → Type 0
HeldSmall h = h.file < 2 ^ 32

abbrev pub OutSmall : Option Request → Type 0
OutSmall None = Unit {0}
OutSmall (Some r) = (r.file < 2 ^ 32) × (IsShort r.args → ArgsFits r.args)

pub record ClientSmall (c : Client) : Type 0 where
  pub helds : AllByRecursion HeldSmall c.held
  pub call : CallSmall c.call
  pub outstanding : OutSmall c.outstanding

-- ---- arguments

get_small : (op : CallOp) → IsSmall op → IsShort (get_args op) → ArgsFits (get_args op)
get_small op s short = record {
  iomode = rw_fits (is_write op);
  offset = omega arith;
  «length» = omega (arith, s.long);
  minlength = omega (arith, s.long);
  stateid = record { seqid = omega arith; other = refl };
  maxcount = omega arith;
}

plain_body : length (update_item plain_update) ≤ 65536
unfolding u32_item
plain_body = omega arith

commit_small : (h : Held) (op : CallOp) → IsSmall op → IsShort (commit_args h op) → ArgsFits (commit_args h op)
commit_small h op s short = record {
  offset = omega (arith, s.end);
  «length» = omega (arith, s.long);
  stateid = record { seqid = omega arith; other = refl };
  last_write_offset = omega (arith, s.end);
  time = tt;
  body = plain_body;
}

return_small : (number : ℕ) (report : List IoErr) → IsShort (return_args number report)
    → ArgsFits (return_args number report)
return_small number report short = record {
  iomode = omega arith;
  offset = omega arith;
  «length» = omega arith;
  stateid = record { seqid = omega arith; other = refl };
  body = short;
}

args_small : (h : Held) (op : CallOp) (n : Need) → IsSmall op → IsShort (args_of h op n) → ArgsFits (args_of h op n)
unfolding args_of
args_small h op First s = return_small h.number []
args_small h op (Get tries) s = get_small op s
args_small h op (Commit timed) s = commit_small h op s
args_small h op (Report timed) s = return_small h.number _
args_small h op (Close outcome report) s = return_small h.number report

-- ---- held grants

without_small : (hs : List Held) (file : ℕ) → AllByRecursion HeldSmall hs
    → AllByRecursion HeldSmall (without_held hs file)
unfolding without_held
without_small [] file k = tt
without_small (h ∷ hs) file k = elim (cases_Bool (h.file == file)) [
  | inl t ↦ rw t (without_small hs file k.1)
  | inr z ↦ rw z (k.0, without_small hs file k.1)
]

after_small : (hs : List Held) (file : ℕ) (a : Args) → AllByRecursion HeldSmall hs
    → AllByRecursion HeldSmall (held_after hs file a)
after_small hs file (args.LayoutGet a) k = k
after_small hs file (args.LayoutCommit a) k = k
after_small hs file (args.LayoutReturn a) k = without_small hs file k

held_file : (hs : List Held) (u : Due) → AllByRecursion HeldSmall hs → is_held hs u ≡ true → u.file < 2 ^ 32
held_file [] u k e = absurd (cc e)
held_file (h ∷ hs) u k e =
    either (h.file == u.file) (h.number == u.number) refl (λ d. held_file hs u k.1 d) e
  where
    either : (a b : Bool) → (h.file == u.file) ≡ a → (is_held hs u ≡ true → u.file < 2 ^ 32)
        → ((a && b) || is_held hs u) ≡ true → u.file < 2 ^ 32
    either true true is rest e = subst (λ (n : ℕ). n < 2 ^ 32) (same_number h.file u.file is) k.0
    either true false is rest e = rest e
    either false b is rest e = rest e

-- what is found is so
found_is : (p : Due → Bool) (us : List Due) (u : Due) → find p us ≡ Some u → p u ≡ true
found_is p [] u e = absurd (cc e)
found_is p (x ∷ us) u e = either (p x) refl (λ d. found_is p us u d) e
  where
    either : (b : Bool) → p x ≡ b → (find p us ≡ Some u → p u ≡ true) → (if b then Some x else find p us) ≡ Some u
        → p u ≡ true
    either true is rest e = let same : x ≡ u = cc e in subst (λ (y : Due). p y ≡ true) same is
    either false is rest e = rest e

-- ---- what becomes of a call

pub phased_small : (d : Done) (op : CallOp) (p : Phase) → IsSmall op → ClientSmall d.client
    → ClientSmall (phased d op p).client
phased_small d op p s k = record { helds = k.helds; call = s; outstanding = k.outstanding }

pub over_small : (d : Done) (o : Outcome) → ClientSmall d.client → ClientSmall (over d o).client
over_small d o k = record { helds = k.helds; call = tt; outstanding = k.outstanding }

pub turn_small : (d : Done) (op : CallOp) (t : Turn) → IsSmall op → ClientSmall d.client
    → ClientSmall (by_turn d op t).client
turn_small d op (Goes p) s k = phased_small d op p s k
turn_small d op (Ends o) s k = over_small d o k
turn_small d op (Forgets o) s k = record {
  helds = without_small d.client.held (file_of op) k.helds;
  call = tt;
  outstanding = k.outstanding;
}

pub held_small : (d : Done) (h : Held) → HeldSmall h → ClientSmall d.client → ClientSmall (with_held d h).client
held_small d h s k = record {
  helds = put_all HeldSmall d.client.held h k.helds s;
  call = k.call;
  outstanding = k.outstanding;
}

pub moved_small : (d : Done) (op : CallOp) (h : Held) (m : Moved) → IsSmall op
    → held_of d.client.held (file_of op) ≡ Some h → m.held.file ≡ h.file → ClientSmall d.client
    → ClientSmall (moved d op m).client
moved_small d op h m s found same k =
    let own = found_all HeldSmall d.client.held (file_of op) h k.helds found in
    let small : HeldSmall m.held = subst (λ (n : ℕ). n < 2 ^ 32) (sym same) own.0 in
    turn_small (record (with_held d m.held) { commands = m.sent }) op m.turn s (held_small d m.held small k)

-- ---- a call begins

begun_small : (d : Done) → ClientSmall d.client → ClientSmall (begun d).client
begun_small d k =
    each_begin d (λ e. ClientSmall e.client) (record {
      stays = k;
      needs = λ op n is out first. phased_small d op (Needs n) (subst CallSmall is k.call) k;
      begun = λ op h is held covered.
          moved_small d op h (begins h op) (subst CallSmall is k.call) held (begins_kept h op).file k;
    })

-- ---- a request goes out

requests_small : (d : Done) (file : ℕ) (a : Args) → file < 2 ^ 32 → (IsShort a → ArgsFits a) → ClientSmall d.client
    → ClientSmall (requests d file a).client
unfolding requests
requests_small d file a l fits k = record {
  helds = after_small d.client.held file a k.helds;
  call = k.call;
  outstanding = (l, fits);
}

asks_small : (d : Done) (op : CallOp) (n : Need) (o : Option Held) → IsSmall op → ClientSmall d.client
    → ClientSmall (asks_under d op n o).client
asks_small d op n None s k =
    requests_small (phased d op (Waits n)) (file_of op) _ s.file (get_small op s) (phased_small d op (Waits n) s k)
asks_small d op n (Some h) s k =
    requests_small (phased d op (Waits n)) (file_of op) _ s.file (args_small h op n s)
    (phased_small d op (Waits n) s k)

returns_small : (d : Done) (o : Option Due) → find (is_held d.client.held) d.client.due ≡ o → ClientSmall d.client
    → ClientSmall (returns d o).client
returns_small d None found k = record { helds = k.helds; call = k.call; outstanding = k.outstanding }
returns_small d (Some u) found k =
    requests_small _ u.file (return_args u.number [])
    (held_file d.client.held u k.helds (found_is (is_held d.client.held) d.client.due u found))
    (return_small u.number []) (record { helds = k.helds; call = k.call; outstanding = k.outstanding })

progressed_small : (d : Done) → ClientSmall d.client → ClientSmall (progressed d).client
progressed_small d k =
    each_progress d (λ e. ClientSmall e.client) (record {
      waits = λ r out. k;
      works = λ call is out. k;
      spent = λ none out zero. k;
      asks = λ op n h is out held. asks_small d op n h (subst CallSmall is k.call) k;
      gives_back = λ u none out some found. returns_small d u found k;
    })

pub finished_small : (d : Done) → ClientSmall d.client → ClientSmall (finished d).client
unfolding finished
finished_small d k = progressed_small (begun d) (begun_small d k)
