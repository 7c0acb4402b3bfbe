-- A client in the middle of a step: what it holds has few components, and what it asks the server is short.
use Rattle.std.proofs.Common.{◌≡◌, ℕ, List, [], Option, Some, None, refl, subst}
use Rattle.std.specs.List.{AllByRecursion}
use Rattle.layout_ops.specs.declared.args.Args.{Args}
use Rattle.layout_ops.specs.declared.args.Args.TheVariants as args
use Rattle.cause_law.specs.State.{Client, Call, CallOp, Held, Due, Need, First, Get, Commit, Report, Close, Turn, Goes, Ends, Forgets, Moved, Done, Request, IoErr}
use Rattle.client_rules.specs.Calls.{file_of}
use Rattle.client_rules.specs.Grants.{held_of, without_held}
use Rattle.client_rules.specs.Requests.{get_args, args_of, return_args, report_of}
use Rattle.client_rules.specs.Going.{with_held, by_turn, moved, begins, held_after, requests, asks_under, returns}
use Rattle.client_rules.specs.Messages.{finished}
use Rattle.exchange_law.proofs.PlaceGoing.{put_all, found_all}
use Rattle.exchange_law.proofs.Parts.{each_filtered}
use Rattle.cause_law.specs.Reports.{IsShort, CanBeRead}
use Rattle.cause_law.proofs.Lengths.{ReportShort}
use Rattle.cause_law.proofs.Lengths as lengths
use Rattle.cause_law.proofs.Reported.{get_read, commit_read, return_read}
use Rattle.cause_law.proofs.Moving.{HeldShort, NeedShort, PhaseShort, TurnShort, MovedShort, report_short, none_short}
use Rattle.cause_law.proofs.Timing.{begins_short}
use Rattle.history_law.specs.Turns.{IsFirstNeed, FinishCases}
use Rattle.history_law.proofs.Turns.{each_finish}

-- ---- a client between steps

abbrev pub CallShort : Option Call → Type 0
CallShort None = Unit {0}
CallShort (Some call) = PhaseShort call.phase

-- what is asked is short, and the server reads it
abbrev pub ArgsShort : Args → Type 0
ArgsShort a = IsShort a × CanBeRead a

abbrev pub RequestShort : Option Request → Type 0
RequestShort None = Unit {0}
RequestShort (Some r) = ArgsShort r.args

pub record ClientShort (c : Client) : Type 0 where
  pub helds : AllByRecursion HeldShort c.held
  pub call : CallShort c.call
  pub request : RequestShort c.outstanding

-- and in the middle of one
abbrev pub DoneShort : Done → Type 0
DoneShort d = ClientShort d.client

-- ---- held grants

without_short : (hs : List Held) (file : ℕ) → AllByRecursion HeldShort hs
    → AllByRecursion HeldShort (without_held hs file)
unfolding without_held
without_short hs file k = each_filtered HeldShort _ hs k

after_short : (hs : List Held) (file : ℕ) (a : Args) → AllByRecursion HeldShort hs
    → AllByRecursion HeldShort (held_after hs file a)
after_short hs file (args.LayoutGet a) k = k
after_short hs file (args.LayoutCommit a) k = k
after_short hs file (args.LayoutReturn a) k = without_short hs file k

-- the grant on a file
abbrev pub FoundShort : Option Held → Type 0
FoundShort None = Unit {0}
FoundShort (Some h) = HeldShort h

found_as : (hs : List Held) (file : ℕ) (o : Option Held) → held_of hs file ≡ o → AllByRecursion HeldShort hs
    → FoundShort o
found_as hs file None e k = tt
found_as hs file (Some h) e k = (found_all HeldShort hs file h k e).0

pub found_short : (hs : List Held) (file : ℕ) → AllByRecursion HeldShort hs → FoundShort (held_of hs file)
found_short hs file k = found_as hs file (held_of hs file) refl k

-- ---- what becomes of a call

pub by_turn_short : (d : Done) (op : CallOp) (t : Turn) → AllByRecursion HeldShort d.client.held
    → RequestShort d.client.outstanding → TurnShort t → DoneShort (by_turn d op t)
by_turn_short d op (Goes p) k r t = record { helds = k; call = t; request = r }
by_turn_short d op (Ends o) k r t = record { helds = k; call = tt; request = r }
by_turn_short d op (Forgets o) k r t = record {
  helds = without_short d.client.held (file_of op) k;
  call = tt;
  request = r;
}

pub moved_short : (d : Done) (op : CallOp) (m : Moved) → DoneShort d → MovedShort m → DoneShort (moved d op m)
moved_short d op m k l =
    by_turn_short (record (with_held d m.held) { commands = m.sent }) op m.turn
    (put_all HeldShort d.client.held m.held k.helds l.held) k.request l.turn

-- ---- a request goes out

return_short : (grant : ℕ) (report : List IoErr) → ReportShort report → ArgsShort (return_args grant report)
return_short grant report s = (lengths.report_short report s, return_read grant report s)

args_short : (h : Held) (op : CallOp) (n : Need) → HeldShort h → NeedShort n → ArgsShort (args_of h op n)
unfolding args_of
args_short h op First s n = return_short h.number [] none_short
args_short h op (Get tries) s n = (tt, get_read op)
args_short h op (Commit timed) s n = (tt, commit_read h op)
args_short h op (Report timed) s n = return_short h.number (report_of h timed) (report_short h timed s n)
args_short h op (Close outcome report) s n = return_short h.number report n

asks_short : (d : Done) (op : CallOp) (n : Need) (o : Option Held) → NeedShort n → DoneShort d → FoundShort o
    → DoneShort (asks_under d op n o)
unfolding requests
asks_short d op n None s k f = record {
  helds = after_short d.client.held (file_of op) (get_args op) k.helds;
  call = s;
  request = (tt, get_read op);
}
asks_short d op n (Some h) s k f = record {
  helds = after_short d.client.held (file_of op) (args_of h op n) k.helds;
  call = s;
  request = args_short h op n f s;
}

returns_short : (d : Done) (o : Option Due) → DoneShort d → DoneShort (returns d o)
unfolding requests
returns_short d None k = record { helds = k.helds; call = k.call; request = k.request }
returns_short d (Some u) k = record {
  helds = after_short d.client.held u.file (return_args u.number []) k.helds;
  call = k.call;
  request = return_short u.number [] none_short;
}

-- ---- to the end of a step

first_short : (op : CallOp) (n : Need) (o : Option Held) → IsFirstNeed op n o → NeedShort n
first_short op First o first = tt
first_short op (Get tries) o first = tt
first_short op (Commit timed) o first = absurd first
first_short op (Report timed) o first = absurd first
first_short op (Close u report) o first = absurd first

held_short : (d : Done) (op : CallOp) (h : Option Held) → held_of d.client.held (file_of op) ≡ h → DoneShort d → FoundShort h
held_short d op h held k = subst FoundShort held (found_short d.client.held (file_of op) k.helds)

kept : FinishCases DoneShort
kept = record {
  needs = λ d op n k is out first. record {
    helds = k.helds;
    call = first_short op n (held_of d.client.held (file_of op)) first;
    request = k.request;
  };
  begun = λ d op h k is held covered.
      moved_short d op (begins h op) k (begins_short h (held_short d op (Some h) held k) op);
  asks = λ d op n h k is out held. asks_short d op n h (subst CallShort is k.call) k (held_short d op h held k);
  gives_back = λ d u k none out. returns_short d u k;
}

pub finished_short : (d : Done) → DoneShort d → ClientShort (finished d).client
unfolding finished
finished_short d k = each_finish DoneShort kept d k
