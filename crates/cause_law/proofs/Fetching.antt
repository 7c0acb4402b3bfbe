-- What a read has of the drives is what its call met, and was asked of replicas of its positions.
use Rattle.std.proofs.Common.{◌≡◌, ◌<◌, ℕ, zero, suc, ◌+◌, ◌-◌, ◌*◌, ◌/◌, ◌==◌, ◌⊎◌, Bool, true, false, List, [], ◌∷◌, ◌++◌, Option, Some, None, length, refl, sym, ap, subst, ◌∙◌, inl, inr, arith}
use Rattle.std.specs.List.{AllByRecursion}
use Rattle.std.specs.Prelude.{◌&&◌, find, if◌then◌else◌}
use Rattle.std.proofs.lemmas.Bool.{eqb-true}
use Rattle.std.proofs.lemmas.Nat.{div-mul-add}
use Rattle.data_map.specs.declared.check.RawMap.{RawMap}
use Rattle.data_map.specs.Striping.{replicas, group_width, group_of}
use Rattle.stripe_plan.specs.declared.plan.Stretch.{Stretch}
use Rattle.stripe_plan.specs.declared.plan.Interval.{Interval}
use Rattle.stripe_plan.specs.declared.plan.Aim.TheVariants.{Reads as ToRead}
use Rattle.stripe_plan.specs.Touched.{stripes}
use Rattle.stripe_plan.specs.Lost.{source, unreadable}
use Rattle.stripe_plan.specs.Asks.{asks_of, asks_source, asks_place, asks_stripe, asks}
use Rattle.stripe_plan.specs.Words.{answered}
use Rattle.stripe_plan.specs.Laws.{IsFetched}
use Rattle.osd_commands.specs.declared.actions.Action.TheVariants.{Read}
use Rattle.client_rules.specs.declared.limits.TheConstants.{PERFORMED}
use Rattle.world_history.specs.ClientNames.{CallOp, Held, Awaited, TimedOut, Outcome, ReadOk, Request, Answer, Reply, Column, Span, Ask}
use Rattle.client_rules.specs.Requests.{object_of}
use Rattle.client_rules.specs.Commands.{credential_of, command, sealed, nonce_at, numbered, carrying_none, read_commands, counted, others, not_of}
use Rattle.client_rules.specs.Io.{outs, got_of}
use Rattle.client_rules.specs.Reads.{reads_due}
use Rattle.client_rules.specs.Replies.{answers}
use Rattle.client_rules.proofs.Apart.{IsIn}
use Rattle.exchange_law.proofs.Had.{AreBelow, rest_below}
use Rattle.exchange_law.proofs.Parts.{each_more, each_filtered, each_as}
use Rattle.exchange_law.proofs.Plans.{source_found}
use Rattle.exchange_law.proofs.RightMoves.{IsReady, fetched, ready_sent, ready_replied}
use Rattle.cause_law.specs.Met as met
use Rattle.cause_law.specs.Met.{Met, Answered, Replied, out_in}
use Rattle.cause_law.specs.Caused.{failure_of}
use Rattle.cause_law.specs.Read.{read_in, range_under}

-- ---- before anything is asked of a drive

-- no drive has replied
abbrev pub NoReplies : List Met → Type 0
NoReplies [] = Unit {0}
NoReplies (Answered r a ∷ ms) = NoReplies ms
NoReplies (Replied a r ∷ ms) = ⊥
NoReplies (met.TimedOut h k ∷ ms) = NoReplies ms

none_read : (ms : List Met) → NoReplies ms → read_in ms ≡ []
unfolding read_in
none_read [] q = refl
none_read (Answered r a ∷ ms) q = none_read ms q
none_read (Replied a r ∷ ms) q = absurd q
none_read (met.TimedOut h k ∷ ms) q = none_read ms q

-- ---- READs of the replicas that the grant lists

pub record IsMade (h : Held) (a : Awaited) : Type 0 where
  pub write : a.write ≡ false
  pub read : a.command.action ≡ Read
  pub replica : a.ask.component / replicas h.map ≡ a.ask.position
  pub drive : a.drive ≡ (credential_of h a.ask.component).drive
  pub capability : a.command.capability ≡ (credential_of h a.ask.component).capability
  pub partition : a.command.partition ≡ (object_of h a.ask.component).oid_partition_id
  pub object : a.command.object ≡ (object_of h a.ask.component).oid_object_id
  pub offset : a.command.offset ≡ a.ask.offset
  pub length : a.command.length ≡ a.ask.length

-- those to which drives replied, by their nonces
abbrev pub AllMade : Held → List Met → Type 0
AllMade h [] = Unit {0}
AllMade h (Answered r a ∷ ms) = AllMade h ms
AllMade h (Replied a r ∷ ms) = IsMade h a × (r.nonce ≡ a.command.nonce) × AllMade h ms
AllMade h (met.TimedOut g k ∷ ms) = AllMade h ms

none_made : (h : Held) (ms : List Met) → NoReplies ms → AllMade h ms
none_made h [] q = tt
none_made h (Answered r a ∷ ms) q = none_made h ms q
none_made h (Replied a r ∷ ms) q = absurd q
none_made h (met.TimedOut g k ∷ ms) q = none_made h ms q

made_counted : (h : Held) (sent : List Awaited) (a : Awaited) → IsMade h a → IsMade (counted h sent) a
unfolding credential_of object_of
made_counted h sent a x = record {
  write = x.write;
  read = x.read;
  replica = x.replica;
  drive = x.drive;
  capability = x.capability;
  partition = x.partition;
  object = x.object;
  offset = x.offset;
  length = x.length;
}

met_counted : (h : Held) (sent : List Awaited) (ms : List Met) → AllMade h ms → AllMade (counted h sent) ms
met_counted h sent [] x = tt
met_counted h sent (Answered r a ∷ ms) x = met_counted h sent ms x
met_counted h sent (Replied a r ∷ ms) x = (made_counted h sent a x.0, x.1, met_counted h sent ms x.2)
met_counted h sent (met.TimedOut g k ∷ ms) x = met_counted h sent ms x

made_in : (h : Held) (xs : List Awaited) (a : Awaited) → AllByRecursion (IsMade h) xs → IsIn a xs → IsMade h a
made_in h [] a x i = absurd i
made_in h (y ∷ xs) a x (inl e) = subst (IsMade h) (sym e) x.0
made_in h (y ∷ xs) a x (inr i) = made_in h xs a x.1 i

-- a reply that is taken has the nonce of its command
pub nonce_is : (drive : ℕ) (r : Reply) (xs : List Awaited) (a : Awaited) → find (answers drive r) xs ≡ Some a
    → r.nonce ≡ a.command.nonce
nonce_is drive r [] a e = absurd (cc e)
nonce_is drive r (x ∷ xs) a e =
    by_test (x.command.nonce == r.nonce) (x.drive == drive) refl e (λ s. nonce_is drive r xs a s)
  where
    by_test : (b d : Bool) → (x.command.nonce == r.nonce) ≡ b
        → (if b && d then Some x else find (answers drive r) xs) ≡ Some a
        → (find (answers drive r) xs ≡ Some a → r.nonce ≡ a.command.nonce) → r.nonce ≡ a.command.nonce
    by_test true true is s later =
        let same : x ≡ a = cc s in
        sym (eqb-true x.command.nonce r.nonce is) ∙ ap (λ (y : Awaited). y.command.nonce) same
    by_test true false is s later = later s
    by_test false d is s later = later s

-- ---- what a read asks

abbrev OnReplica : RawMap → Ask → Type 0
OnReplica m a = a.component / replicas m ≡ a.position

module _ (m : RawMap) (r : Span) (out : List ℕ) (had : List Stretch) where
  of_source : (s p : ℕ) (o : Option ℕ) (is : List Interval) → source m out p ≡ o
      → AllByRecursion (OnReplica m) (asks_source s p o is)
  unfolding source
  of_source s p None is e = tt
  of_source s p (Some k) is e =
      let found = source_found out (p * replicas m) (replicas m) k e in
      let digits : k ≡ p * replicas m + (k - p * replicas m) = omega (arith, found.0) in
      let on : k / replicas m ≡ p =
      ap (λ (n : ℕ). n / replicas m) digits
      ∙ div-mul-add p (replicas m) (k - p * replicas m) (omega (arith, found.0, found.1)) in
      every is on
    where
      every : (js : List Interval) → k / replicas m ≡ p → AllByRecursion (OnReplica m) (asks_of s p k js)
      every [] on = tt
      every (j ∷ js) on = (on, every js on)

  of_stripe : (s i n : ℕ) → AllByRecursion (OnReplica m) (asks_stripe ToRead m r out had s i n)
  unfolding asks_stripe asks_place
  of_stripe s i zero = tt
  of_stripe s i (suc n) =
      each_more (OnReplica m) (asks_place ToRead m r out had s i) (asks_stripe ToRead m r out had s (i + 1) n)
      (of_source s (group_of m s * group_width m + i) (source m out (group_of m s * group_width m + i)) _ refl)
      (of_stripe s (i + 1) n)

  of_stripes : (ss : List ℕ) → AllByRecursion (OnReplica m) (asks ToRead m r out had ss)
  unfolding asks
  of_stripes [] = tt
  of_stripes (s ∷ ss) =
      each_more (OnReplica m) (asks_stripe ToRead m r out had s 0 (group_width m)) (asks ToRead m r out had ss)
      (of_stripe s 0 (group_width m)) (of_stripes ss)

numbered_made : (h : Held) (count : ℕ) (xs : List Ask) → AllByRecursion (OnReplica h.map) xs
    → AllByRecursion (IsMade h) (numbered h false count (carrying_none xs))
unfolding numbered command sealed
numbered_made h count [] k = tt
numbered_made h count (x ∷ xs) k = (
  record {
    write = refl;
    read = refl;
    replica = k.0;
    drive = refl;
    capability = refl;
    partition = refl;
    object = refl;
    offset = refl;
    length = refl;
  },
  numbered_made h (count + 1) xs k.1,
)

sent_made : (h : Held) (xs : List Ask) → AllByRecursion (OnReplica h.map) xs → AllByRecursion (IsMade h) (read_commands h xs)
unfolding read_commands
sent_made h xs k = numbered_made h h.count xs k

-- ---- a read goes on

-- what it has is what its call met, and what it awaits was asked of replicas
pub record Holds (h : Held) (got : List Column) (awaited : List Awaited) (ms : List Met) : Type 0 where
  pub read : got ≡ read_in ms
  pub made : AllByRecursion (IsMade h) awaited
  pub met : AllMade h ms
  pub nonces : AreBelow (nonce_at h h.count) awaited

-- and all that it needs is had or awaited
pub record Fetching (h : Held) (op : CallOp) (got : List Column) (timed : List TimedOut) (awaited : List Awaited) (top : ℕ)
    (ms : List Met) : Type 0
  where
    pub read : got ≡ read_in ms
    pub made : AllByRecursion (IsMade h) awaited
    pub met : AllMade h ms
    pub ready : IsReady h.map (range_under h op) (outs h timed) got awaited top

pub holds_none : (h : Held) (ms : List Met) → NoReplies ms → Holds h [] [] ms
holds_none h ms q = record {
  read = sym (none_read ms q);
  made = tt;
  met = none_made h ms q;
  nonces = record { differ = tt; below = tt };
}

pub fetching_sent : (h : Held) (op : CallOp) (got : List Column) (timed : List TimedOut) (awaited : List Awaited) (ms : List Met)
    → 0 < (range_under h op).length
    → unreadable h.map (range_under h op) (outs h timed) (stripes h.map (range_under h op)) ≡ None
    → Holds h got awaited ms
    → Fetching h op got timed (awaited ++ read_commands h (reads_due h (range_under h op) got timed awaited))
    (nonce_at h (h.count + length (read_commands h (reads_due h (range_under h op) got timed awaited)))) ms
fetching_sent h op got timed awaited ms some can x =
    let due : List Ask = reads_due h (range_under h op) got timed awaited in
    record {
      read = x.read;
      made = each_more (IsMade h) awaited (read_commands h due) x.made (sent_made h due (of_stripes h.map _ _ _ _));
      met = x.met;
      ready = ready_sent h (range_under h op) got timed awaited some can x.nonces;
    }

pub fetching_counted : (h : Held) (op : CallOp) (got : List Column) (timed : List TimedOut) (sent awaited : List Awaited)
    (top : ℕ) (ms : List Met) → top ≡ nonce_at h (h.count + length sent) → Fetching h op got timed awaited top ms
    → Fetching (counted h sent) op got timed awaited (nonce_at (counted h sent) (counted h sent).count) ms
unfolding outs
fetching_counted h op got timed sent awaited top ms e x = record {
  read = x.read;
  made = each_as (IsMade h) (IsMade (counted h sent)) awaited (made_counted h sent) x.made;
  met = met_counted h sent ms x.met;
  ready = subst (IsReady h.map (range_under h op) (outs h timed) got awaited) e x.ready;
}

-- a READ was performed
pub fetching_replied : (h : Held) (op : CallOp) (got : List Column) (timed : List TimedOut) (awaited : List Awaited) (top : ℕ)
    (ms : List Met) (a : Awaited) (r : Reply) → IsIn a awaited → (r.verdict == PERFORMED) ≡ true → r.nonce ≡ a.command.nonce
    → Fetching h op got timed awaited top ms
    → Fetching h op (got ++ got_of a r ∷ []) timed (others awaited a.command.nonce) top (Replied a r ∷ ms)
unfolding read_in others
fetching_replied h op got timed awaited top ms a r i is n x =
    let made : IsMade h a = made_in h awaited a x.made i in
    record {
      read = rw (is, made.write) (ap (λ (cs : List Column). cs ++ got_of a r ∷ []) x.read);
      made = each_filtered (IsMade h) _ awaited x.made;
      met = (made, n, x.met);
      ready = ready_replied h.map (range_under h op) (outs h timed) got awaited a r top i x.ready;
    }

-- a component timed out
pub holds_timed : (h g : Held) (op : CallOp) (got : List Column) (timed : List TimedOut) (awaited : List Awaited) (k : ℕ)
    (ms : List Met) → Fetching h op got timed awaited (nonce_at h h.count) ms
    → Holds h got (not_of k awaited) (met.TimedOut g k ∷ ms)
unfolding read_in not_of
holds_timed h g op got timed awaited k ms x = record {
  read = x.read;
  made = each_filtered (IsMade h) _ awaited x.made;
  met = x.met;
  nonces = rest_below (nonce_at h h.count) k awaited x.ready.nonces;
}

-- the server answered
pub fetching_answered : (h : Held) (op : CallOp) (got : List Column) (timed : List TimedOut) (awaited : List Awaited) (top : ℕ)
    (ms : List Met) (r : Request) (a : Answer) → Fetching h op got timed awaited top ms
    → Fetching h op got timed awaited top (Answered r a ∷ ms)
unfolding read_in
fetching_answered h op got timed awaited top ms r a x =
    record { read = x.read; made = x.made; met = x.met; ready = x.ready }

-- ---- and is answered

-- all that the range needs of positions that aren't out was read of replicas, and the answer is what the plan makes of it
pub record IsPut (h : Held) (op : CallOp) (ms : List Met) (bytes : List ℕ) : Type 0 where
  pub some : 0 < (range_under h op).length
  pub readable : unreadable h.map (range_under h op) (out_in h ms) (stripes h.map (range_under h op)) ≡ None
  pub fetched : IsFetched ToRead h.map (range_under h op) (read_in ms) (out_in h ms)
  pub met : AllMade h ms
  pub answer : bytes ≡ answered h.map (range_under h op) (read_in ms) (out_in h ms)

-- a read of no byte gives none
abbrev pub IsEmpty : Held → CallOp → List ℕ → Type 0
IsEmpty h op bytes = ((range_under h op).length ≡ 0) × (bytes ≡ [])

abbrev pub Answers : Option Held → CallOp → List Met → Outcome → Type 0
Answers g op ms (ReadOk bytes) = (h : Held) × (g ≡ Some h) × (IsEmpty h op bytes ⊎ IsPut h op ms bytes)
Answers g op ms o = Unit {0}

pub failed_answers : (g : Option Held) (op : CallOp) (ms : List Met) (o : Outcome) → failure_of o ≡ Some o
    → Answers g op ms o
failed_answers g op ms (ReadOk bytes) e = absurd (cc e)
failed_answers g op ms o e = tt

pub put_of : (h : Held) (op : CallOp) (got : List Column) (timed : List TimedOut) (top : ℕ) (ms : List Met)
    → out_in h ms ≡ outs h timed → 0 < (range_under h op).length → Fetching h op got timed [] top ms
    → IsPut h op ms (answered h.map (range_under h op) got (outs h timed))
put_of h op got timed top ms same some x =
    let all : IsFetched ToRead h.map (range_under h op) got (outs h timed) =
    fetched h.map (range_under h op) (outs h timed) got top x.ready in
    record {
      some = some;
      readable = rw same x.ready.readable;
      fetched = rw (same, ← x.read) all;
      met = x.met;
      answer = rw (same, ← x.read) refl;
    }
