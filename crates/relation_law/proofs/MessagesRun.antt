-- Whatever comes to a client, a read and a gather have what they need, and a read is answered by what it got.
-- Towards `EventsAreLawful` (`specs/Steps.antt`).
use Rattle.std.proofs.Common.{◌≡◌, ℕ, ◌==◌, Bool, true, false, List, [], ◌∷◌, Option, Some, None, Result, Ok, Err, refl, sym, subst, ◌∙◌, inl, inr}
use Rattle.std.specs.Prelude.{if◌then◌else◌}
use Rattle.std.proofs.lemmas.Bool.{cases_Bool}
use Rattle.layout_ops.specs.declared.args.Args.{Args}
use Rattle.layout_ops.specs.declared.args.Args.TheVariants as args
use Rattle.layout_ops.specs.declared.statuses.TheConstants.{NFS4_OK, NFS4ERR_BADLAYOUT}
use Rattle.layout_ops.specs.declared.messages.Answer.{Answer}
use Rattle.client_rules.specs.Calls.{file_of}
use Rattle.client_rules.specs.Grants.{held_of, put_held, without_held}
use Rattle.client_rules.specs.Layouts.{taken}
use Rattle.client_rules.specs.Requests.{args_of, get_args, return_args}
use Rattle.client_rules.specs.Results.{status_of}
use Rattle.client_rules.specs.Answers.{on_commit, committed, not_committed, refused_with, not_granted}
use Rattle.client_rules.specs.Going.{phased, over, with_held, by_turn, moved, begins, held_after, requests, asks_server, asks_under, returns}
use Rattle.client_rules.specs.Messages.{Step, finished, answered_get, on_get, commit_under}
use Rattle.client_rules.proofs.ReadMoves.{FitsOutcome, weaker}
use Rattle.client_rules.proofs.HeldGrants.{held_file, put_at}
use Rattle.client_rules.proofs.ReadSteps.{Fits, Refuses, refused_with_refuses}
use Rattle.world_history.specs.ClientNames.{Client, Call, CallOp, Held, Due, TimedOut, Column, Need, Get, Commit, Phase, Needs, Outcome, Status, Why, Turn, Goes, Ends, Forgets, Moved, Done}
use Rattle.exchange_law.proofs.ClientKeeping.{put_read, without_read}
use Rattle.history_law.specs.Turns.{FinishCases}
use Rattle.history_law.proofs.Turns.{each_finish}
use Rattle.relation_law.proofs.MessagesClients.{IsUsable, AreUsable, IsFit, ReadEnds, TurnFits, IsSameGrant, MovedFits}
use Rattle.relation_law.proofs.MessagesGathers.{HasBytes}
use Rattle.relation_law.proofs.MessagesTurns.{begun_fits}

-- ---- held grants

usable_same : (h k : Held) → IsSameGrant h k → IsUsable h → IsUsable k
usable_same h k s u = record {
  checked = rw s.map u.checked;
  long = rw (s.map, s.components) u.long;
  writable = rw (s.map, s.components, s.reach) u.writable;
}

usable_put : (hs : List Held) (k : Held) → AreUsable hs → IsUsable k → AreUsable (put_held hs k)
usable_put hs k all u file h e = elim (put_read hs k file h e) [
  | inl x ↦ subst IsUsable x.1 u
  | inr x ↦ all file h x.1
]

usable_without : (hs : List Held) (f : ℕ) → AreUsable hs → AreUsable (without_held hs f)
usable_without hs f all file h e = all file h (without_read hs f file h e)

usable_after : (hs : List Held) (f : ℕ) (a : Args) → AreUsable hs → AreUsable (held_after hs f a)
usable_after hs f (args.LayoutGet a) all = all
usable_after hs f (args.LayoutCommit a) all = all
usable_after hs f (args.LayoutReturn a) all = usable_without hs f all

-- ---- a client between its turns

-- a call has something to do, and has what it needs under the grant on its file
abbrev pub CallFits : List Held → Option Call → Type 0
CallFits hs None = Unit {0}
CallFits hs (Some call) = HasBytes call.op × ((h : Held) → held_of hs (file_of call.op) ≡ Some h → IsFit h call.op call.phase)

pub record IsFine (c : Client) : Type 0 where
  pub usable : AreUsable c.held
  pub call : CallFits c.held c.call

pub record FineDone (Fit : List ℕ → Type 0) (d : Done) : Type 0 where
  pub usable : AreUsable d.client.held
  pub call : CallFits d.client.held d.client.call
  pub outcome : Fits Fit d.outcome

pub record FineStep (Fit : List ℕ → Type 0) (s : Step) : Type 0 where
  pub client : IsFine s.client
  pub outcome : Fits Fit s.outcome

-- a phase that awaits nothing of the drives
abbrev pub IsFree : Phase → Type 0
IsFree p = (h : Held) (op : CallOp) → IsFit h op p

pub phased_fine : (Fit : List ℕ → Type 0) (d : Done) (op : CallOp) (p : Phase) → FineDone Fit d → HasBytes op → IsFree p →
    FineDone Fit (phased d op p)
phased_fine Fit d op p f b free = record { usable = f.usable; call = (b, λ h e. free h op); outcome = f.outcome }

pub over_fine : (Fit : List ℕ → Type 0) (d : Done) (o : Outcome) → FineDone Fit d → FitsOutcome Fit o → FineDone Fit (over d o)
over_fine Fit d o f x = record { usable = f.usable; call = tt; outcome = x }

-- ---- what the call does with the drives

turn_fine : (Fit : List ℕ → Type 0) (d : Done) (op : CallOp) (k : Held) (got : List Column) (t : Turn) → AreUsable d.client.held →
    held_of d.client.held (file_of op) ≡ Some k → HasBytes op → TurnFits k op got t →
    ((bytes : List ℕ) → ReadEnds k op got bytes → Fit bytes) → Fits Fit d.outcome → FineDone Fit (by_turn d op t)
turn_fine Fit d op k got (Goes p) u e b x f o = record {
  usable = u;
  call = (b, λ h there. (let same : k ≡ h = cc (sym e ∙ there) in rw same at x.0));
  outcome = o;
}
turn_fine Fit d op k got (Ends q) u e b x f o = record { usable = u; call = tt; outcome = weaker (ReadEnds k op got) Fit f q x }
turn_fine Fit d op k got (Forgets q) u e b x f o = record {
  usable = usable_without d.client.held (file_of op) u;
  call = tt;
  outcome = weaker (λ bytes. ⊥) Fit (λ bytes z. absurd z) q x;
}

ends_same : (h k : Held) (op : CallOp) (got : List Column) (bytes : List ℕ) → IsSameGrant h k → ReadEnds k op got bytes →
    ReadEnds h op got bytes
ends_same h k op got bytes s x = (
  x.0,
  rw (s.map, s.size) at x.1,
  record { some = x.2.some; all = rw (s.map, s.size) at x.2.all },
)

pub moved_fine : (Fit : List ℕ → Type 0) (d : Done) (op : CallOp) (h : Held) (m : Moved) (got : List Column) → FineDone Fit d →
    held_of d.client.held (file_of op) ≡ Some h → HasBytes op → MovedFits h op got m →
    ((bytes : List ℕ) → ReadEnds h op got bytes → Fit bytes) → FineDone Fit (moved d op m)
moved_fine Fit d op h m got f e b x fit =
    let file : m.held.file ≡ file_of op = x.same.file ∙ held_file d.client.held (file_of op) h e in
    turn_fine Fit (record (with_held d m.held) { commands = m.sent }) op m.held got m.turn
    (usable_put d.client.held m.held f.usable (usable_same h m.held x.same (f.usable (file_of op) h e)))
    (put_at d.client.held m.held (file_of op) file) b x.turn
    (λ bytes y. fit bytes (ends_same h m.held op got bytes x.same y)) f.outcome

-- ---- to the end of a turn

requests_fine : (Fit : List ℕ → Type 0) (d : Done) (file : ℕ) (a : Args) (n : Need) (op : CallOp) → FineDone Fit d → HasBytes op →
    FineDone Fit (asks_server d op n a)
unfolding requests
requests_fine Fit d file a n op f b = record {
  usable = usable_after d.client.held (file_of op) a f.usable;
  call = (b, λ h e. tt);
  outcome = f.outcome;
}

pub call_bytes : (hs : List Held) (o : Option Call) (call : Call) → o ≡ Some call → CallFits hs o → HasBytes call.op
call_bytes hs None call e x = absurd (cc e)
call_bytes hs (Some q) call e x = let same : q ≡ call = cc e in rw same at x.0

pub finishes : (Fit : List ℕ → Type 0) → FinishCases (FineDone Fit)
unfolding requests
finishes Fit = record {
  needs = λ d op n f is out first.
      phased_fine Fit d op (Needs n) f (call_bytes d.client.held d.client.call _ is f.call) (λ h o. tt);
  begun = λ d op h f is held cover.
      let b = call_bytes d.client.held d.client.call _ is f.call in
      moved_fine Fit d op h (begins h op) [] f held b (begun_fits h op (f.usable (file_of op) h held) b cover)
      (λ bytes x. absurd (x.2.some refl));
  asks = λ d op n o f is out held. asks_fine d op n o f (call_bytes d.client.held d.client.call _ is f.call);
  gives_back = λ d u f none out. gives_fine d u f none;
}
  where
    asks_fine : (d : Done) (op : CallOp) (n : Need) (o : Option Held) → FineDone Fit d → HasBytes op →
        FineDone Fit (asks_under d op n o)
    asks_fine d op n None f b = requests_fine Fit d (file_of op) (get_args op) n op f b
    asks_fine d op n (Some h) f b = requests_fine Fit d (file_of op) (args_of h op n) n op f b

    gives_fine : (d : Done) (u : Option Due) → FineDone Fit d → d.client.call ≡ None → FineDone Fit (returns d u)
    gives_fine d None f none = record { usable = f.usable; call = f.call; outcome = f.outcome }
    gives_fine d (Some u) f none = record {
      usable = usable_after d.client.held u.file (return_args u.number []) f.usable;
      call = rw none tt;
      outcome = f.outcome;
    }

pub finished_fine : (Fit : List ℕ → Type 0) (d : Done) → FineDone Fit d → FineStep Fit (finished d)
unfolding finished
finished_fine Fit d f =
    let e = each_finish (FineDone Fit) (finishes Fit) d f in
    record { client = record { usable = e.usable; call = e.call }; outcome = e.outcome }

-- ---- answers

commit_fine : (Fit : List ℕ → Type 0) (d : Done) (op : CallOp) (h : Held) (a : Answer) (timed : List TimedOut) → FineDone Fit d →
    held_of d.client.held (file_of op) ≡ Some h → HasBytes op → FineDone Fit (moved d op (on_commit h op a timed))
unfolding on_commit not_committed
commit_fine Fit d op h a timed f e b = elim (cases_Bool (status_of a.results == NFS4_OK)) [
  | inl ok ↦ rw ok (sized timed)
  | inr other ↦ rw other (refused_commit (status_of a.results == NFS4ERR_BADLAYOUT))
]
  where
    with_size : (size : ℕ) → IsUsable (record h { size = size })
    with_size size = let u = f.usable (file_of op) h e in record { checked = u.checked; long = u.long; writable = u.writable }

    sized : (ts : List TimedOut) → FineDone Fit (moved d op (committed h op a ts))
    sized [] =
        record {
          usable = usable_put d.client.held (record h { size = a.size }) f.usable (with_size a.size);
          call = tt;
          outcome = tt;
        }
    sized (t ∷ ts) = record {
      usable = usable_put d.client.held (record h { size = a.size }) f.usable (with_size a.size);
      call = (b, λ k there. tt);
      outcome = f.outcome;
    }

    refused_commit : (c : Bool) →
        FineDone Fit (moved d op (record {
          held = h;
          turn = if c then Forgets (Status (status_of a.results) a.detail) else Ends (Status (status_of a.results) a.detail);
          sent = [];
        }))
    refused_commit true = record {
      usable =
          usable_without (put_held d.client.held h) (file_of op)
          (usable_put d.client.held h f.usable (f.usable (file_of op) h e));
      call = tt;
      outcome = tt;
    }
    refused_commit false =
        record { usable = usable_put d.client.held h f.usable (f.usable (file_of op) h e); call = tt; outcome = tt }

pub held_gives : (d : Done) (op : CallOp) (a : Answer) (timed : List TimedOut) (Fit : List ℕ → Type 0) (o : Option Held) →
    held_of d.client.held (file_of op) ≡ o → FineDone Fit d → HasBytes op → FineDone Fit (commit_under d op a (Commit timed) o)
held_gives d op a timed Fit None e f b = f
held_gives d op a timed Fit (Some h) e f b = commit_fine Fit d op h a timed f e b

-- what a LAYOUTGET's answer gives is usable
abbrev pub TakesUsable : Type 0
TakesUsable = (a : Answer) (op : CallOp) (h : Held) → taken a op ≡ Ok h → IsUsable h

get_fine : (Fit : List ℕ → Type 0) (d : Done) (op : CallOp) (r : Result Held Why) → ((h : Held) → r ≡ Ok h → IsUsable h) →
    FineDone Fit d → HasBytes op → FineDone Fit (answered_get d op r)
get_fine Fit d op (Err w) u f b = over_fine Fit d _ f tt
get_fine Fit d op (Ok h) u f b = record {
  usable = usable_put d.client.held h f.usable (u h refl);
  call = (b, λ k e. tt);
  outcome = f.outcome;
}

refusal_fine : (Fit : List ℕ → Type 0) (d : Done) (op : CallOp) (t : Turn) → Refuses t → FineDone Fit d → HasBytes op →
    FineDone Fit (by_turn d op t)
refusal_fine Fit d op (Goes (Needs (Get tries))) x f b = phased_fine Fit d op (Needs (Get tries)) f b (λ h o. tt)
refusal_fine Fit d op (Ends o) x f b = over_fine Fit d o f (weaker (λ bytes. ⊥) Fit (λ bytes z. absurd z) o x)
refusal_fine Fit d op t x f b = absurd x

pub on_get_fine : TakesUsable → (Fit : List ℕ → Type 0) (d : Done) (op : CallOp) (tries : ℕ) (a : Answer) → FineDone Fit d →
    HasBytes op →
    FineDone Fit (on_get d op tries a)
unfolding not_granted
on_get_fine u Fit d op tries a f b = elim (cases_Bool (status_of a.results == NFS4_OK)) [
  | inl ok ↦ rw ok (get_fine Fit d op (taken a op) (λ h e. u a op h e) f b)
  | inr other ↦ rw other (refusal_fine Fit d op (refused_with (status_of a.results) a.detail tries)
      (refused_with_refuses (status_of a.results) a.detail tries) f b)
]
