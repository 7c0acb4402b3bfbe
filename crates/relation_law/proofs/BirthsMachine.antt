-- The machine of a file that was just made: a lawful and calm run has reached it, and nothing was started in it.
-- Towards `EachFileIsCreated` (`file_simulation/specs/Simulation.antt`).
use Rattle.std.proofs.Common.{◌≡◌, ◌<◌, ℕ, zero, suc, ◌+◌, Bool, true, false, List, [], ◌∷◌, ◌++◌, Option, None, refl, sym, ap, subst, ◌∙◌, arith, inl, inr, if◌then◌else◌}
use Rattle.fence_law.specs.Words.{In, updated}
use Rattle.fence_law.specs.State.{State, Layout, Event, Answer}
use Rattle.fence_law.specs.State.RequestKind.{Get}
use Rattle.fence_law.specs.State.Event.{Asks, Refuses, AsksOther, ServesOther, TakesOther, Fails}
use Rattle.fence_law.specs.State.Call.{Idle}
use Rattle.fence_law.specs.State.Commit.{NoCommit}
use Rattle.fence_law.specs.Columns.{IsCalm}
use Rattle.fence_law.specs.Machine.{Allowed, Lawful as IsLawfulRun, after, after_all, new_file_state}
use Rattle.fence_law.specs.Law.{Calms}
use Rattle.fence_law.proofs.Words.{updated_same}
use Rattle.file_simulation.specs.Creation.{earlier}

-- ---- what stays as it was

-- nothing is granted, held, started or performed, and the tag is the first one
pub record IsYoung (m : Layout) (s : State) : Type 0 where
  pub layout : s.layout ≡ m
  pub object_tag : s.object_tag ≡ (λ k. m.first_tag)
  pub last_nonce : s.last_nonce ≡ (λ k c. 0)
  pub cell : s.cell ≡ (λ k z. 0)
  pub gone : s.gone ≡ (λ k. false)
  pub missing : s.missing ≡ (λ k. false)
  pub fencing : s.fencing ≡ false
  pub repairing : s.repairing ≡ false
  pub tag : s.tag ≡ m.first_tag
  pub outstanding : s.outstanding ≡ (λ c. None)
  pub next : s.next ≡ 1
  pub unused : s.granted_since ≡ false
  pub size : s.size ≡ 0
  pub held : s.held ≡ (λ c. None)
  pub nonce : s.nonce ≡ (λ c. 0)
  pub call : s.call ≡ (λ c. Idle)
  pub commit : s.commit ≡ (λ c. NoCommit)
  pub count : s.count ≡ 0
  pub start : s.start ≡ (new_file_state m).start
  pub writes : s.writes ≡ []
  pub answers : (a : Answer) → In a s.answers → a.grant ≡ None

-- an event of the time before the file was made, or a failure
abbrev pub IsEarly : Event → Type 0
IsEarly (Asks c rw) = Unit {0}
IsEarly (Refuses c kind) = Unit {0}
IsEarly (AsksOther c) = Unit {0}
IsEarly (ServesOther c) = Unit {0}
IsEarly (TakesOther c) = Unit {0}
IsEarly (Fails k) = Unit {0}
IsEarly e = ⊥

abbrev pub AreEarly : List Event → Type 0
AreEarly [] = Unit {0}
AreEarly (e ∷ es) = IsEarly e × AreEarly es

pub early_more : (es fs : List Event) → AreEarly es → AreEarly fs → AreEarly (es ++ fs)
early_more [] fs a b = b
early_more (e ∷ es) fs a b = (a.0, early_more es fs a.1 b)

refused_none : (s : State) (c : ℕ) → ((a : Answer) → In a s.answers → a.grant ≡ None) → (a : Answer) →
    In a (record { client = c; sequence = s.slot c + 1; grant = None; size = s.size } ∷ s.answers) → a.grant ≡ None
refused_none s c before a (inl same) = ap (λ (x : Answer). x.grant) same
refused_none s c before a (inr i) = before a i

young_after : (m : Layout) (s : State) (e : Event) → IsEarly e → IsYoung m s → IsYoung m (after s e)
young_after m s (Asks c rw) i y = record {
  layout = y.layout;
  object_tag = y.object_tag;
  last_nonce = y.last_nonce;
  cell = y.cell;
  gone = y.gone;
  missing = y.missing;
  fencing = y.fencing;
  repairing = y.repairing;
  tag = y.tag;
  outstanding = y.outstanding;
  next = y.next;
  unused = y.unused;
  size = y.size;
  held = y.held;
  nonce = y.nonce;
  call = y.call;
  commit = y.commit;
  count = y.count;
  start = y.start;
  writes = y.writes;
  answers = y.answers;
}
young_after m s (Refuses c kind) i y = record {
  layout = y.layout;
  object_tag = y.object_tag;
  last_nonce = y.last_nonce;
  cell = y.cell;
  gone = y.gone;
  missing = y.missing;
  fencing = y.fencing;
  repairing = y.repairing;
  tag = y.tag;
  outstanding = y.outstanding;
  next = y.next;
  unused = y.unused;
  size = y.size;
  held = y.held;
  nonce = y.nonce;
  call = y.call;
  commit = y.commit;
  count = y.count;
  start = y.start;
  writes = y.writes;
  answers = refused_none s c y.answers;
}
young_after m s (AsksOther c) i y = record {
  layout = y.layout;
  object_tag = y.object_tag;
  last_nonce = y.last_nonce;
  cell = y.cell;
  gone = y.gone;
  missing = y.missing;
  fencing = y.fencing;
  repairing = y.repairing;
  tag = y.tag;
  outstanding = y.outstanding;
  next = y.next;
  unused = y.unused;
  size = y.size;
  held = y.held;
  nonce = y.nonce;
  call = y.call;
  commit = y.commit;
  count = y.count;
  start = y.start;
  writes = y.writes;
  answers = y.answers;
}
young_after m s (ServesOther c) i y = record {
  layout = y.layout;
  object_tag = y.object_tag;
  last_nonce = y.last_nonce;
  cell = y.cell;
  gone = y.gone;
  missing = y.missing;
  fencing = y.fencing;
  repairing = y.repairing;
  tag = y.tag;
  outstanding = y.outstanding;
  next = y.next;
  unused = y.unused;
  size = y.size;
  held = y.held;
  nonce = y.nonce;
  call = y.call;
  commit = y.commit;
  count = y.count;
  start = y.start;
  writes = y.writes;
  answers = y.answers;
}
young_after m s (TakesOther c) i y = record {
  layout = y.layout;
  object_tag = y.object_tag;
  last_nonce = y.last_nonce;
  cell = y.cell;
  gone = y.gone;
  missing = y.missing;
  fencing = y.fencing;
  repairing = y.repairing;
  tag = y.tag;
  outstanding = y.outstanding;
  next = y.next;
  unused = y.unused;
  size = y.size;
  held = y.held;
  nonce = y.nonce;
  call = y.call;
  commit = y.commit;
  count = y.count;
  start = y.start;
  writes = y.writes;
  answers = y.answers;
}
young_after m s (Fails k) i y = record {
  layout = y.layout;
  object_tag = y.object_tag;
  last_nonce = y.last_nonce;
  cell = y.cell;
  gone = y.gone;
  missing = y.missing;
  fencing = y.fencing;
  repairing = y.repairing;
  tag = y.tag;
  outstanding = y.outstanding;
  next = y.next;
  unused = y.unused;
  size = y.size;
  held = y.held;
  nonce = y.nonce;
  call = y.call;
  commit = y.commit;
  count = y.count;
  start = y.start;
  writes = y.writes;
  answers = y.answers;
}
young_after m s e i y = absurd i

pub young_all : (m : Layout) (s : State) (es : List Event) → AreEarly es → IsYoung m s → IsYoung m (after_all s es)
young_all m s [] a y = y
young_all m s (e ∷ es) a y = young_all m (after s e) es a.1 (young_after m s e a.0 y)

pub new_young : (m : Layout) → IsYoung m (new_file_state m)
new_young m = record {
  layout = refl;
  object_tag = refl;
  last_nonce = refl;
  cell = refl;
  gone = refl;
  missing = refl;
  fencing = refl;
  repairing = refl;
  tag = refl;
  outstanding = refl;
  next = refl;
  unused = refl;
  size = refl;
  held = refl;
  nonce = refl;
  call = refl;
  commit = refl;
  count = refl;
  start = refl;
  writes = refl;
  answers = λ a i. absurd i;
}

-- without an entry nothing is torn
pub young_calm : (m : Layout) (s : State) → IsYoung m s → IsCalm s
young_calm m s y x coded torn short =
    let low : torn.0 < s.count = torn.5 in
    let none : torn.0 < 0 = subst (λ (n : ℕ). torn.0 < n) y.count low in
    absurd (omega (arith, none))

pub young_calms : (m : Layout) (s : State) (es : List Event) → AreEarly es → IsYoung m s → Calms s es
young_calms m s [] a y = young_calm m s y
young_calms m s (e ∷ es) a y = (young_calm m s y, young_calms m (after s e) es a.1 (young_after m s e a.0 y))

-- ---- lawful runs, one behind another

pub lawful_more : (s : State) (es fs : List Event) → IsLawfulRun s es → IsLawfulRun (after_all s es) fs →
    IsLawfulRun s (es ++ fs)
lawful_more s [] fs a b = b
lawful_more s (e ∷ es) fs a b = (a.0, lawful_more (after s e) es fs a.1 b)

pub after_more : (s : State) (es fs : List Event) → after_all s (es ++ fs) ≡ after_all (after_all s es) fs
after_more s [] fs = refl
after_more s (e ∷ es) fs = after_more (after s e) es fs

-- ---- a client's earlier requests

-- client c has asked and was answered n times
pub record IsReady (c n : ℕ) (s : State) : Type 0 where
  pub sequence : s.sequence c ≡ n
  pub slot : s.slot c ≡ n
  pub waiting : s.waiting c ≡ false
  pub away : s.away c ≡ false

-- what a client's request and its answer make, of this client alone
abbrev one_round : (c : ℕ) → List Event
one_round c = AsksOther c ∷ ServesOther c ∷ TakesOther c ∷ []

module _ (c n : ℕ) (s : State) (r : IsReady c n s) where
  abbrev asked_state : State
  asked_state = after s (AsksOther c)

  sequence_asked : asked_state.sequence c ≡ n + 1
  sequence_asked = updated_same s.sequence c (s.sequence c + 1) ∙ ap (λ (x : ℕ). x + 1) r.sequence

  round_lawful : IsLawfulRun s (one_round c)
  round_lawful =
      let asks : Allowed s (AsksOther c) = record { free = r.waiting; home = r.away } in
      let serves : Allowed asked_state (ServesOther c) = record {
        free = r.waiting;
        out = updated_same s.away c true;
        next = ap (λ (x : ℕ). x + 1) r.slot ∙ sym sequence_asked;
      } in
      let takes : Allowed (after asked_state (ServesOther c)) (TakesOther c) = record {
        out = updated_same s.away c true;
        served = updated_same s.slot c (s.slot c + 1) ∙ ap (λ (x : ℕ). x + 1) r.slot ∙ sym sequence_asked;
      } in
      (asks, (serves, (takes, tt)))

  round_ready : IsReady c (n + 1) (after_all s (one_round c))
  round_ready = record {
    sequence = sequence_asked;
    slot = updated_same s.slot c (s.slot c + 1) ∙ ap (λ (x : ℕ). x + 1) r.slot;
    waiting = r.waiting;
    away = updated_same (updated s.away c true) c false;
  }

pub earlier_done : (c k n : ℕ) (s : State) → IsReady c n s →
    IsLawfulRun s (earlier c k) × IsReady c (n + k) (after_all s (earlier c k))
unfolding earlier
earlier_done c zero n s r = (tt, subst (λ (x : ℕ). IsReady c x s) (omega arith) r)
earlier_done c (suc k) n s r =
    let rest = earlier_done c k (n + 1) (after_all s (one_round c)) (round_ready c n s r) in (
      lawful_more s (one_round c) (earlier c k) (round_lawful c n s r) rest.0,
      subst (λ (x : ℕ). IsReady c x (after_all s (earlier c (suc k)))) (omega arith) rest.1,
    )

pub earlier_early : (c k : ℕ) → AreEarly (earlier c k)
unfolding earlier
earlier_early c zero = tt
earlier_early c (suc k) = (tt, (tt, (tt, earlier_early c k)))

-- ---- the outstanding request

-- a refusal of client c's request with number k + 1, where the file has this size
abbrev none_for : (c k size : ℕ) → Answer
none_for c k z = record { client = c; sequence = k + 1; grant = None; size = z }

same_refusal : (c n k z : ℕ) → k ≡ n → z ≡ 0 → none_for c n 0 ≡ none_for c k z
same_refusal c n k z a b = ap (λ (x : ℕ). none_for c x 0) (sym a) ∙ ap (λ (x : ℕ). none_for c k x) (sym b)

-- an own request that is a LAYOUTGET was asked, and perhaps refused
pub record HasAsked (c n : ℕ) (rw refused : Bool) (s : State) : Type 0 where
  pub sequence : s.sequence c ≡ n + 1
  pub slot : s.slot c ≡ (if refused then n + 1 else n)
  pub waiting : s.waiting c ≡ true
  pub away : s.away c ≡ false
  pub asked : s.asked c ≡ Get rw
  pub request : In (record { client = c; sequence = n + 1; kind = Get rw }) s.requests
  pub answer : refused ≡ true → In (record { client = c; sequence = n + 1; grant = None; size = 0 }) s.answers

-- any other was asked, and perhaps served
pub record IsOut (c n : ℕ) (served : Bool) (s : State) : Type 0 where
  pub sequence : s.sequence c ≡ n + 1
  pub slot : s.slot c ≡ (if served then n + 1 else n)
  pub waiting : s.waiting c ≡ false
  pub away : s.away c ≡ true

module _ (m : Layout) (c n : ℕ) (s : State) (y : IsYoung m s) (r : IsReady c n s) where
  module _ (rw : Bool) where
    abbrev get_asked : State
    get_asked = after s (Asks c rw)

    pub get_lawful : Allowed s (Asks c rw)
    get_lawful = record {
      free = r.waiting;
      home = r.away;
      none = ap (λ (f : ℕ → Option _). f c) y.held;
      idle = ap (λ (f : ℕ → _). f c) y.call;
    }

    request_in : In (record { client = c; sequence = n + 1; kind = Get rw }) get_asked.requests
    request_in = inl (ap (λ (x : ℕ). record { client = c; sequence = x + 1; kind = Get rw }) (sym r.sequence))

    pub get_has : HasAsked c n rw false get_asked
    get_has = record {
      sequence = updated_same s.sequence c (s.sequence c + 1) ∙ ap (λ (x : ℕ). x + 1) r.sequence;
      slot = r.slot;
      waiting = updated_same s.waiting c true;
      away = r.away;
      asked = updated_same s.asked c (Get rw);
      request = request_in;
      answer = λ e. absurd (cc e);
    }

    pub refuses_lawful : Allowed get_asked (Refuses c (Get rw))
    refuses_lawful = record {
      asks = inl (ap (λ (x : ℕ). record { client = c; sequence = x + 1; kind = Get rw }) (r.slot ∙ sym r.sequence));
      unclean = tt;
    }

    pub refused_has : HasAsked c n rw true (after get_asked (Refuses c (Get rw)))
    refused_has = record {
      sequence = get_has.sequence;
      slot = updated_same s.slot c (s.slot c + 1) ∙ ap (λ (x : ℕ). x + 1) r.slot;
      waiting = get_has.waiting;
      away = r.away;
      asked = get_has.asked;
      request = request_in;
      answer = λ e. inl (same_refusal c n (s.slot c) s.size r.slot y.size);
    }

  pub other_out : IsOut c n false (after s (AsksOther c))
  other_out = record {
    sequence = sequence_asked c n s r;
    slot = r.slot;
    waiting = r.waiting;
    away = updated_same s.away c true;
  }

  pub serves_lawful : Allowed (after s (AsksOther c)) (ServesOther c)
  serves_lawful = record {
    free = r.waiting;
    out = updated_same s.away c true;
    next = ap (λ (x : ℕ). x + 1) r.slot ∙ sym (sequence_asked c n s r);
  }

  pub served_out : IsOut c n true (after (after s (AsksOther c)) (ServesOther c))
  served_out = record {
    sequence = sequence_asked c n s r;
    slot = updated_same s.slot c (s.slot c + 1) ∙ ap (λ (x : ℕ). x + 1) r.slot;
    waiting = r.waiting;
    away = updated_same s.away c true;
  }
