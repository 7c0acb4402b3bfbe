-- What a further answer, reply or timeout makes of what a call has met.
use Rattle.std.proofs.Common.{◌≡◌, ℕ, ◌+◌, ◌==◌, nat_lt, Bool, true, false, List, [], ◌∷◌, ◌++◌, Option, Some, None, length, map, refl, sym, ap, subst, ◌∙◌, inl, inr, if◌then◌else◌}
use Rattle.std.specs.Prelude.{is_some}
use Rattle.std.specs.Option.{option_or}
use Rattle.std.proofs.lemmas.Bool.{cases_Bool, eqb-true}
use Rattle.stripe_plan.specs.Lost.{unwritable}
use Rattle.stripe_plan.specs.Touched.{stripes}
use Rattle.layout_ops.specs.declared.args.Args.{Args}
use Rattle.layout_ops.specs.declared.args.Args.TheVariants as args
use Rattle.client_rules.specs.declared.limits.TheConstants.{PERFORMED}
use Rattle.world_history.specs.ClientNames.{CallOp, Held, Awaited, TimedOut, Outcome, Refused, Silent, WriteOk, ReadOk, Request, Answer, Reply}
use Rattle.client_rules.specs.Calls.{span_of, is_write}
use Rattle.client_rules.specs.Commands.{of_component, before}
use Rattle.client_rules.specs.Grants.{missing_of}
use Rattle.client_rules.specs.Io.{outs, first_of, timed_with}
use Rattle.client_rules.specs.Answers.{is_loss_taken}
use Rattle.client_rules.specs.Writes.{is_too_short}
use Rattle.client_rules.specs.Replies.{timed_after}
use Rattle.cause_law.specs.Met as met
use Rattle.cause_law.specs.Met.{Met, Answered, Replied, busy_args, busy_at, busy_in, last_busy, first_refusal, rising_with, timed_in, out_in, is_beyond, beyond_at, first_beyond, lost_under, given_args, silent_first, failure_args, failure_at, cut_short, failure_in}
use Rattle.cause_law.specs.Caused.{failure_of, WritesAll}
use Rattle.cause_law.proofs.Fetching.{Answers, failed_answers}

-- ---- options

pub or_none : {X : Type 0} (o : Option X) → option_or o None ≡ o
or_none None = refl
or_none (Some x) = refl

both_none : {X : Type 0} (b : Bool) (o p : Option X) → o ≡ None → p ≡ None → (if b then o else p) ≡ None
both_none true o p x y = x
both_none false o p x y = y

-- ---- components that timed out

abbrev pub comps : List TimedOut → List ℕ
comps ts = map (λ (t : TimedOut). t.ask.component) ts

put_rising : (t : TimedOut) (ts : List TimedOut) → comps (timed_with t ts) ≡ rising_with t.ask.component (comps ts)
unfolding timed_with rising_with
put_rising t [] = refl
put_rising t (u ∷ us) = elim (cases_Bool (nat_lt t.ask.component u.ask.component)) [
  | inl y ↦ rw y refl
  | inr n ↦ rw n (ap (λ (l : List ℕ). u.ask.component ∷ l) (put_rising t us))
]

abbrev AreOf : (k : ℕ) → List Awaited → Type 0
AreOf k [] = Unit {0}
AreOf k (a ∷ xs) = (a.ask.component ≡ k) × AreOf k xs

filtered : (k : ℕ) (xs : List Awaited) → AreOf k (of_component k xs)
unfolding of_component
filtered k [] = tt
filtered k (a ∷ xs) = elim (cases_Bool (a.ask.component == k)) [
  | inl y ↦ rw y (eqb-true a.ask.component k y, filtered k xs)
  | inr n ↦ rw n (filtered k xs)
]

first_is : (k : ℕ) (a : Awaited) (xs : List Awaited) → a.ask.component ≡ k → AreOf k xs
    → (first_of a xs).ask.component ≡ k
unfolding first_of
first_is k a [] is all = is
first_is k a (b ∷ bs) is all = elim (cases_Bool (before b.ask a.ask)) [
  | inl y ↦ rw y (first_is k b bs all.0 all.1)
  | inr n ↦ rw n (first_is k a bs is all.1)
]

-- component k times out, of which these commands are awaited
pub timed_more : (k : ℕ) (ys : List Awaited) (a : Awaited) (xs : List Awaited) (timed : List TimedOut)
    → of_component k ys ≡ a ∷ xs → comps (timed_after timed a xs) ≡ rising_with k (comps timed)
timed_more k ys a xs timed is =
    let all : AreOf k (a ∷ xs) = subst (AreOf k) is (filtered k ys) in
    put_rising (first_of a xs) timed ∙ ap (λ (n : ℕ). rising_with n (comps timed)) (first_is k a xs all.0 all.1)

pub outs_are : (h : Held) (ms : List Met) (timed : List TimedOut) → timed_in ms ≡ comps timed → out_in h ms ≡ outs h timed
unfolding outs
outs_are h ms timed is = ap (λ (l : List ℕ). missing_of h ++ l) is

pub short_is : (h : Held) (op : CallOp) (ms : List Met) (timed : List TimedOut) → timed_in ms ≡ comps timed
    → is_beyond h op ms ≡ is_too_short h op timed
unfolding is_too_short
short_is h op ms timed is =
    ap (λ (l : List ℕ). is_some (unwritable h.map l (stripes h.map (span_of op)))) (outs_are h ms timed is)

-- ---- a call that wasn't cut short

-- no busy answer was the last, nothing was refused, a write can go on, and these components timed out
pub record Works (op : CallOp) (ms : List Met) (timed : List TimedOut) : Type 0 where
  pub busy : last_busy ms ≡ None
  pub refusal : first_refusal ms ≡ None
  pub beyond : first_beyond op ms ≡ None
  pub silent : timed_in ms ≡ comps timed

-- a return
abbrev pub IsReturn : Args → Type 0
IsReturn (args.LayoutGet x) = ⊥
IsReturn (args.LayoutCommit x) = ⊥
IsReturn (args.LayoutReturn x) = Unit {0}

-- an answer that isn't that the server is busy
abbrev pub IsPlain : Request → Answer → Type 0
IsPlain r a = busy_args r.args a ≡ None

pub return_plain : (x : Args) (a : Answer) → IsReturn x → busy_args x a ≡ None
return_plain (args.LayoutGet x) a is = absurd is
return_plain (args.LayoutCommit x) a is = absurd is
return_plain (args.LayoutReturn x) a is = refl

pub return_gives : (op : CallOp) (x : Args) (a : Answer) → IsReturn x → given_args op x a ≡ None
return_gives op (args.LayoutGet x) a is = absurd is
return_gives op (args.LayoutCommit x) a is = absurd is
return_gives op (args.LayoutReturn x) a is = refl

pub return_fails : (op : CallOp) (x : Args) (a : Answer) (ms : List Met) → IsReturn x
    → failure_args op x a ms ≡ (if is_loss_taken a then None else silent_first (timed_in ms))
return_fails op (args.LayoutGet x) a ms is = absurd is
return_fails op (args.LayoutCommit x) a ms is = absurd is
return_fails op (args.LayoutReturn x) a ms is = refl

-- where nothing timed out
pub return_quiet : (op : CallOp) (x : Args) (a : Answer) (ms : List Met) → IsReturn x → timed_in ms ≡ []
    → failure_args op x a ms ≡ None
return_quiet op x a ms is none =
    return_fails op x a ms is
    ∙ both_none (is_loss_taken a) None (silent_first (timed_in ms)) refl (ap silent_first none)

pub busy_same : (r : Request) (a : Answer) (ms : List Met) → IsPlain r a → busy_in (Answered r a ∷ ms) ≡ busy_in ms
unfolding busy_in
busy_same r a ms is = rw is refl

-- what isn't that the server is busy
last_other : (m : Met) (ms : List Met) → busy_at m ≡ None → last_busy (m ∷ ms) ≡ last_busy ms
unfolding last_busy
last_other m ms is =
    ap (option_or (last_busy ms)) (both_none (length (busy_in ms) + 1 == 3) (busy_at m) None is refl)
    ∙ or_none (last_busy ms)

pub last_same : (r : Request) (a : Answer) (ms : List Met) → IsPlain r a → last_busy (Answered r a ∷ ms) ≡ last_busy ms
last_same r a ms is = last_other (Answered r a) ms is

pub refusal_same : (r : Request) (a : Answer) (ms : List Met) → first_refusal (Answered r a ∷ ms) ≡ first_refusal ms
unfolding first_refusal
refusal_same r a ms = or_none (first_refusal ms)

pub beyond_same : (op : CallOp) (r : Request) (a : Answer) (ms : List Met)
    → first_beyond op (Answered r a ∷ ms) ≡ first_beyond op ms
unfolding first_beyond
beyond_same op r a ms = or_none (first_beyond op ms)

pub answered_works : (op : CallOp) (r : Request) (a : Answer) (ms : List Met) (timed : List TimedOut) → IsPlain r a
    → Works op ms timed → Works op (Answered r a ∷ ms) timed
unfolding timed_in
answered_works op r a ms timed is w = record {
  busy = last_same r a ms is ∙ w.busy;
  refusal = refusal_same r a ms ∙ w.refusal;
  beyond = beyond_same op r a ms ∙ w.beyond;
  silent = w.silent;
}

pub performed_works : (op : CallOp) (a : Awaited) (r : Reply) (ms : List Met) (timed : List TimedOut)
    → (r.verdict == PERFORMED) ≡ true → Works op ms timed → Works op (Replied a r ∷ ms) timed
unfolding timed_in first_refusal first_beyond
performed_works op a r ms timed is w = record {
  busy = last_other (Replied a r) ms refl ∙ w.busy;
  refusal = rw is (or_none (first_refusal ms) ∙ w.refusal);
  beyond = or_none (first_beyond op ms) ∙ w.beyond;
  silent = w.silent;
}

busy_timed : (h : Held) (k : ℕ) (ms : List Met) → last_busy (met.TimedOut h k ∷ ms) ≡ last_busy ms
busy_timed h k ms = last_other (met.TimedOut h k) ms refl

refusal_timed : (h : Held) (k : ℕ) (ms : List Met) → first_refusal (met.TimedOut h k ∷ ms) ≡ first_refusal ms
unfolding first_refusal
refusal_timed h k ms = or_none (first_refusal ms)

-- a component times out, and the call goes on
pub timed_works : (op : CallOp) (h : Held) (k : ℕ) (ms : List Met) (timed after : List TimedOut)
    → comps after ≡ rising_with k (comps timed)
    → beyond_at op (met.TimedOut h k) ms ≡ None → Works op ms timed → Works op (met.TimedOut h k ∷ ms) after
unfolding timed_in first_beyond
timed_works op h k ms timed after more none w = record {
  busy = busy_timed h k ms ∙ w.busy;
  refusal = refusal_timed h k ms ∙ w.refusal;
  beyond = ap (λ (o : Option Outcome). option_or o (beyond_at op (met.TimedOut h k) ms)) w.beyond ∙ none;
  silent = ap (rising_with k) w.silent ∙ sym more;
}

pub read_beyond : (op : CallOp) (h : Held) (k : ℕ) (ms : List Met) → is_write op ≡ false
    → beyond_at op (met.TimedOut h k) ms ≡ None
read_beyond op h k ms is = rw is refl

-- in a write, by whether it can go on
pub write_beyond : (op : CallOp) (h : Held) (k : ℕ) (ms : List Met) (timed after : List TimedOut) (b : Bool)
    → comps after ≡ rising_with k (comps timed) → timed_in ms ≡ comps timed → is_write op ≡ true
    → is_too_short h op after ≡ b
    → beyond_at op (met.TimedOut h k) ms ≡ (if b then Some (Silent k) else None)
unfolding timed_in
write_beyond op h k ms timed after b more same is short =
    ap (λ (x : Bool). if x then (if is_beyond h op (met.TimedOut h k ∷ ms) then Some (Silent k) else None) else None) is
    ∙ ap (λ (x : Bool). if x then Some (Silent k) else None)
    (short_is h op (met.TimedOut h k ∷ ms) after (ap (rising_with k) same ∙ sym more) ∙ short)

-- ---- how a call ends

-- with this, under this grant
pub record EndsSo (g : Option Held) (op : CallOp) (ms : List Met) (o : Outcome) : Type 0 where
  pub cause : failure_in g op ms ≡ failure_of o
  pub whole : WritesAll op o
  pub answer : Answers g op ms o

-- nothing cut it short
pub uncut : (g : Option Held) (op : CallOp) (ms : List Met) (timed : List TimedOut) → Works op ms timed
    → lost_under op ms g ≡ None → cut_short g op ms ≡ None
uncut g op ms timed w none =
    ap (λ (o : Option Outcome).
    option_or o (option_or (first_refusal ms) (option_or (first_beyond op ms) (lost_under op ms g)))) w.busy
    ∙ ap (λ (o : Option Outcome). option_or o (option_or (first_beyond op ms) (lost_under op ms g))) w.refusal
    ∙ ap (λ (o : Option Outcome). option_or o (lost_under op ms g)) w.beyond ∙ none

-- what the last answer says
pub last_says : (g : Option Held) (op : CallOp) (ms : List Met) (timed : List TimedOut) → Works op ms timed
    → lost_under op ms g ≡ None → failure_in g op ms ≡ failure_at op ms
last_says g op ms timed w none = ap (λ (o : Option Outcome). option_or o (failure_at op ms)) (uncut g op ms timed w none)

pub lost_write : (g : Option Held) (op : CallOp) (ms : List Met) → is_write op ≡ true → lost_under op ms g ≡ None
lost_write None op ms is = refl
lost_write (Some h) op ms is = rw is refl

-- what cut it short: a refusal, or a timeout
pub record Decided (op : CallOp) (ms : List Met) (o : Outcome) : Type 0 where
  pub busy : last_busy ms ≡ None
  pub by : option_or (first_refusal ms) (first_beyond op ms) ≡ Some o
  pub fails : failure_of o ≡ Some o

pub whole_failed : (op : CallOp) (o : Outcome) → failure_of o ≡ Some o → WritesAll op o
whole_failed op (WriteOk n) is = absurd (cc is)
whole_failed op (ReadOk bytes) is = tt
whole_failed op o is = tt

or_more : {X : Type 0} (a b c : Option X) (x : X) → option_or a b ≡ Some x → option_or a (option_or b c) ≡ Some x
or_more None None c x is = absurd (cc is)
or_more None (Some y) c x is = is
or_more (Some y) b c x is = is

pub decided_ends : (g : Option Held) (op : CallOp) (ms : List Met) (o : Outcome) → Decided op ms o → EndsSo g op ms o
decided_ends g op ms o d = record {
  cause =
      ap (λ (x : Option Outcome). option_or (option_or x (option_or (first_refusal ms)
      (option_or (first_beyond op ms) (lost_under op ms g)))) (failure_at op ms)) d.busy
      ∙ ap (λ (x : Option Outcome). option_or x (failure_at op ms))
      (or_more (first_refusal ms) (first_beyond op ms) (lost_under op ms g) o d.by)
      ∙ sym d.fails;
  whole = whole_failed op o d.fails;
  answer = failed_answers g op ms o d.fails;
}

pub answered_decided : (op : CallOp) (r : Request) (a : Answer) (ms : List Met) (o : Outcome) → IsPlain r a
    → Decided op ms o → Decided op (Answered r a ∷ ms) o
answered_decided op r a ms o is d = record {
  busy = last_same r a ms is ∙ d.busy;
  by =
      ap (λ (x : Option Outcome). option_or x (first_beyond op (Answered r a ∷ ms))) (refusal_same r a ms)
      ∙ ap (option_or (first_refusal ms)) (beyond_same op r a ms) ∙ d.by;
  fails = d.fails;
}

pub refused_decided : (op : CallOp) (a : Awaited) (r : Reply) (ms : List Met) (timed : List TimedOut)
    → (r.verdict == PERFORMED) ≡ false → Works op ms timed
    → Decided op (Replied a r ∷ ms) (Refused a.drive r.verdict r.detail)
unfolding first_refusal first_beyond
refused_decided op a r ms timed is w = record {
  busy = last_other (Replied a r) ms refl ∙ w.busy;
  by = rw (is, w.refusal) refl;
  fails = refl;
}

pub timed_decided : (op : CallOp) (h : Held) (k : ℕ) (ms : List Met) (timed : List TimedOut)
    → beyond_at op (met.TimedOut h k) ms ≡ Some (Silent k) → Works op ms timed
    → Decided op (met.TimedOut h k ∷ ms) (Silent k)
unfolding first_beyond
timed_decided op h k ms timed is w = record {
  busy = busy_timed h k ms ∙ w.busy;
  by =
      ap (λ (o : Option Outcome). option_or o (first_beyond op (met.TimedOut h k ∷ ms)))
      (refusal_timed h k ms ∙ w.refusal)
      ∙ ap (λ (o : Option Outcome). option_or o (beyond_at op (met.TimedOut h k) ms)) w.beyond ∙ is;
  fails = refl;
}
