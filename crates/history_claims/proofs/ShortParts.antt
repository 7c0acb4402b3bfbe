-- What the part of a file in a step leaves short: stripes that are counted, and short.
use Rattle.std.proofs.Common.{◌≡◌, ◌⊎◌, ◌≤◌, ◌<◌, ◌/◌, ◌*◌, ◌==◌, ◌||◌, ◌&&◌, ℕ, ◌+◌, ◌-◌, zero, suc, Bool, true, false, not, nat_lt, nat_le, true≢false, List, [], ◌∷◌, ◌++◌, filter, length, is_none, Option, Some, None, refl, sym, ap, subst, ◌∙◌, arith, inl, inr, if◌then◌else◌}
use Rattle.std.specs.List.{range_with_len, list_any}
use Rattle.std.proofs.lemmas.Bool.{cases_Bool}
use Rattle.std.proofs.lemmas.Bool.Decides.{nat_tests}
use Rattle.data_map.specs.declared.check.RawMap.{RawMap}
use Rattle.data_map.specs.Striping.{replicas, group_width, group_of}
use Rattle.server_rules.specs.declared.limits.TheConstants.{GREATEST_TAG, MAX_PIECE}
use Rattle.server_rules.specs.Going.{Going, keeping, noting, noting_if, over, with_components}
use Rattle.server_rules.specs.Grants.{merged}
use Rattle.server_rules.specs.Jobs.{making, ending, fence_begins, declares, declared_in, targets}
use Rattle.server_rules.specs.Laws.{In}
use Rattle.server_rules.specs.Maps.{pieces_from, pieces_of, pieces_along, pieces}
use Rattle.server_rules.specs.Numbers.{among, marked}
use Rattle.server_rules.specs.Openings.{opens_made, opens_spent, opens_fenced, opens, is_unsettled}
use Rattle.server_rules.specs.Pieces.{short_with}
use Rattle.server_rules.specs.Replies.{Hearing, hears}
use Rattle.server_rules.specs.Requests.{serves}
use Rattle.server_rules.specs.Standing.{replica_from, replica, lacking, is_short, lose_from, lose_on, any_on}
use Rattle.server_rules.proofs.Members.{in_either}
use Rattle.osd_commands.specs.declared.replies.Reply.{Reply}
use Rattle.world_history.specs.ServerNames.{File, Kept, Note, NoteKind, Mended, Component, Stripes, Job, JobKind, Revoking, Work, Creates, Fences, Fetches, Stores, Targets, Gathers, Fills, Lengths, Checks, Awaited, Piece, RequestArgs}
use Rattle.world_history.specs.Stripes.{is_worked}
use Rattle.component_law.specs.Components.{Paired}
use Rattle.component_law.proofs.RequestWalk.{IsServed, ends_served}
use Rattle.cause_law.proofs.RepairWalk.{Fact, RepairCases, Begins, Ends, EndsIn, of_making, of_fence, of_reply, of_declaration}
use Rattle.history_claims.specs.LeftShort.{LeftShort}

-- ---- stripes that are short stay so where components become missing

abbrev Fewer : Component → Component → Type 0
Fewer a b = a.missing ≡ true → b.missing ≡ true

lost_one : (b : Bool) (a : Component) → Fewer a (if b then record a { missing = true } else a)
lost_one true a e = refl
lost_one false a e = e

fewer_lost : (ks : List ℕ) (cs : List Component) (k : ℕ) → Paired Fewer cs (lose_from ks cs k)
unfolding lose_from
fewer_lost ks [] k = tt
fewer_lost ks (a ∷ cs) k = (lost_one (among k ks) a, fewer_lost ks cs (k + 1))

fewer_gone : (d : ℕ) (cs : List Component) → Paired Fewer cs (lose_on d cs)
unfolding lose_on
fewer_gone d [] = tt
fewer_gone d (a ∷ cs) = (lost_one (a.drive == d) a, fewer_gone d cs)

one_stays : (m : RawMap) (p : ℕ) (x y : Component) (xs ys : List Component) (k : ℕ) → Fewer x y
    → (is_none (replica_from m p xs (k + 1)) ≡ true → is_none (replica_from m p ys (k + 1)) ≡ true)
    → is_none (replica_from m p (x ∷ xs) k) ≡ true → is_none (replica_from m p (y ∷ ys) k) ≡ true
unfolding replica_from
one_stays m p x y xs ys k fewer rest e = elim (cases_Bool (k / replicas m == p)) [
  | inl t ↦ elim (cases_Bool x.missing) [
    | inl is ↦ rw (fewer is) (rest (rw is at e))
    | inr is ↦ absurd (true≢false (sym (rw (is, t) at e)))
  ]
  | inr z ↦ elim (cases_Bool y.missing) [
    | inl its ↦ rw its (rest (past z e))
    | inr its ↦ rw (its, z) (rest (past z e))
  ]
]
  where
    past : (k / replicas m == p) ≡ false
        → is_none (if not x.missing && (k / replicas m == p) then Some k else replica_from m p xs (k + 1)) ≡ true
        → is_none (replica_from m p xs (k + 1)) ≡ true
    past z d = elim (cases_Bool x.missing) [ inl is ↦ rw is at d | inr is ↦ rw (is, z) at d ]

-- a position without a present replica has none
none_stays : (m : RawMap) (p : ℕ) (xs ys : List Component) (k : ℕ) → Paired Fewer xs ys
    → is_none (replica_from m p xs k) ≡ true → is_none (replica_from m p ys k) ≡ true
unfolding replica_from
none_stays m p [] [] k f e = refl
none_stays m p [] (y ∷ ys) k f e = absurd f
none_stays m p (x ∷ xs) [] k f e = absurd f
none_stays m p (x ∷ xs) (y ∷ ys) k f e =
    one_stays m p x y xs ys k f.0 (λ d. none_stays m p xs ys (k + 1) f.1 d) e

some_more : (n : ℕ) → nat_lt 0 (suc n) ≡ true
some_more n = grind (arith, nat_tests)

filter_stays : (p q : ℕ → Bool) (xs : List ℕ) → ((x : ℕ) → p x ≡ true → q x ≡ true)
    → nat_lt 0 (length (filter p xs)) ≡ true → nat_lt 0 (length (filter q xs)) ≡ true
filter_stays p q [] h e = e
filter_stays p q (x ∷ xs) h e = elim (cases_Bool (q x)) [
  | inl t ↦ rw t (some_more (length (filter q xs)))
  | inr z ↦ elim (cases_Bool (p x)) [
    | inl s ↦ absurd (true≢false (sym (h x s) ∙ z))
    | inr o ↦ rw z (filter_stays p q xs h (rw o at e))
  ]
]

short_stays : (m : RawMap) (xs ys : List Component) (group : ℕ) → Paired Fewer xs ys → is_short m xs group ≡ true
    → is_short m ys group ≡ true
unfolding lacking
short_stays m xs ys group f e =
    filter_stays (λ p. is_none (replica m xs p)) (λ p. is_none (replica m ys p))
    (range_with_len (group * group_width m) (group_width m)) (λ p d. none_stays m p xs ys 0 f d) e

-- ---- pieces

from_stripe : (unit stripe column n : ℕ) (p : Piece) → In p (pieces_from unit stripe column n) → p.stripe ≡ stripe
unfolding pieces_from
from_stripe unit stripe column zero p i = absurd i
from_stripe unit stripe column (suc n) p (inl same) = ap (λ (q : Piece). q.stripe) same
from_stripe unit stripe column (suc n) p (inr i) = from_stripe unit stripe (column + MAX_PIECE) n p i

along : (unit stripe n : ℕ) (p : Piece) → In p (pieces_along unit stripe n) → (stripe ≤ p.stripe) × (p.stripe < stripe + n)
unfolding pieces_along
along unit stripe zero p i = absurd i
along unit stripe (suc n) p i = elim (in_either p (pieces_of unit stripe) (pieces_along unit (stripe + 1) n) i) [
  | inl here ↦ (let r = from_stripe unit stripe 0 _ p here in (omega (arith, r), omega (arith, r)))
  | inr later ↦ (let r = along unit (stripe + 1) n p later in (omega (arith, r.0), omega (arith, r.1)))
]

-- each is of a stripe of the ranges
all_worked : (unit : ℕ) (rs : List Stripes) (p : Piece) → In p (pieces unit rs) → is_worked p.stripe rs ≡ true
unfolding pieces
all_worked unit [] p i = absurd i
all_worked unit (r ∷ rs) p i = elim (in_either p (pieces_along unit r.first (r.end - r.first)) (pieces unit rs) i) [
  | inl here ↦
      let a = along unit r.first (r.end - r.first) p here in
      let low : nat_le r.first p.stripe ≡ true = grind (arith, nat_tests, a.0) in
      let high : nat_lt p.stripe r.end ≡ true = by_end r.first r.end p.stripe a.0 a.1 in
      rw (low, high) refl
  | inr later ↦
      let rest : list_any (λ (x : Stripes). nat_le x.first p.stripe && nat_lt p.stripe x.end) rs ≡ true =
      all_worked unit rs p later in
      or_right (nat_le r.first p.stripe && nat_lt p.stripe r.end) rest
]
  where
    by_end : (first end s : ℕ) → first ≤ s → s < first + (end - first) → nat_lt s end ≡ true
    by_end first end s low high = let l : s < end = omega (arith, low, high) in grind (arith, nat_tests, l)

    or_right : (b : Bool) {c : Bool} → c ≡ true → (b || c) ≡ true
    or_right true e = refl
    or_right false e = e

-- ---- a repair under way

pub record Left (ps : List Piece) (ss : List ℕ) (k : Kept) : Type 0 where
  pub counted : (s : ℕ) → In s ss → is_worked s (merged k.ended) ≡ true
  pub short : (s : ℕ) → In s ss → is_short k.map k.components (group_of k.map s) ≡ true
  pub todo : (p : Piece) → In p ps → is_worked p.stripe (merged k.ended) ≡ true

left_with : (ps : List Piece) (ss : List ℕ) (k : Kept) (cs : List Component) → Paired Fewer k.components cs → Left ps ss k
    → Left ps ss (record k { components = cs })
left_with ps ss k cs f l = record {
  counted = l.counted;
  short = λ s i. short_stays k.map k.components cs (group_of k.map s) f (l.short s i);
  todo = l.todo;
}

in_marked : (x s : ℕ) (ss : List ℕ) → In s (marked x ss) → (s ≡ x) ⊎ In s ss
unfolding marked
in_marked x s ss = by (among x ss)
  where
    by : (b : Bool) → In s (if b then ss else ss ++ x ∷ []) → (s ≡ x) ⊎ In s ss
    by true i = inr i
    by false i = elim (in_either s ss (x ∷ []) i) [
      | inl old ↦ inr old
      | inr (inl same) ↦ inl same
      | inr (inr none) ↦ absurd none
    ]

left_marked : (p : Piece) (ps : List Piece) (ss : List ℕ) (k : Kept) → Left (p ∷ ps) ss k → Left (p ∷ ps) (short_with k p ss) k
unfolding short_with
left_marked p ps ss k l = elim (cases_Bool (is_short k.map k.components (group_of k.map p.stripe))) [
  | inr z ↦ rw z l
  | inl t ↦ rw t (record {
    counted = λ s i. elim (in_marked p.stripe s ss i) [
      | inl same ↦ ap (λ (x : ℕ). is_worked x (merged k.ended)) same ∙ l.todo p (inl refl)
      | inr old ↦ l.counted s old
    ];
    short = λ s i. elim (in_marked p.stripe s ss i) [
      | inl same ↦ ap (λ (x : ℕ). is_short k.map k.components (group_of k.map x)) same ∙ t
      | inr old ↦ l.short s old
    ];
    todo = l.todo;
  })
]

-- so it is of the job's work
abbrev WorkRight : Work → Kept → Type 0
WorkRight (Fetches todo short) k = Left todo short k
WorkRight (Stores todo short broken) k = Left todo short k
WorkRight work k = Unit {0}

abbrev JobRight : Option Job → Kept → Type 0
JobRight None k = Unit {0}
JobRight (Some j) k = WorkRight j.work k

abbrev pub FileRight : File → Type 0
FileRight f = JobRight f.job f.kept

-- ---- the walk

-- the file of number n, behind repairs from before
module _ (n : ℕ) (before : List Mended) where
  -- it ended none so far
  pub record Ahead (k : Kept) (ms : List Mended) : Type 0 where
    pub number : k.number ≡ n
    pub none : ms ≡ before

  -- it ended one, which left only stripes short that it counted, and that are short
  pub record Behind (k : Kept) (ms : List Mended) : Type 0 where
    pub number : k.number ≡ n
    pub repair : Mended
    pub mended : ms ≡ before ++ repair ∷ []
    pub own : repair.file ≡ n
    pub right : LeftShort k repair

  abbrev A : Fact
  A k ns ms = Ahead k ms

  abbrev D : Fact
  D k ns ms = Behind k ms

  abbrev R : List Piece → List ℕ → Fact
  R ps ss k ns ms = Ahead k ms × Left ps ss k

  as_it_was : (k l : Kept) (ms : List Mended) → l.number ≡ k.number → Ahead k ms → Ahead l ms
  as_it_was k l ms same a = record { number = same ∙ a.number; none = a.none }

  cases : RepairCases A D R
  cases = record {
    a_noted = λ k ns ms kind p a. a;
    d_noted = λ k ns ms kind p d. d;
    r_noted = λ ps ss k ns ms kind p r. r;
    a_parts = λ k ns ms cs a. as_it_was k (record k { components = cs }) ms refl a;
    r_lost = λ ps ss k ns ms lost r. (
      as_it_was k (record k { components = lose_from lost k.components 0 }) ms refl r.0,
      left_with ps ss k (lose_from lost k.components 0) (fewer_lost lost k.components 0) r.1,
    );
    r_gone = λ ps ss k ns ms drive r. (
      as_it_was k (record k { components = lose_on drive k.components }) ms refl r.0,
      left_with ps ss k (lose_on drive k.components) (fewer_gone drive k.components) r.1,
    );
    a_format = λ k ns ms format a. as_it_was k (record k { format = format }) ms refl a;
    r_format = λ ps ss k ns ms format r. (
      as_it_was k (record k { format = format }) ms refl r.0,
      record { counted = r.1.counted; short = r.1.short; todo = r.1.todo },
    );
    a_ready = λ k ns ms a. as_it_was k (record k { ready = true }) ms refl a;
    raised = λ k ns ms a. (
      record { number = a.number; none = a.none },
      record {
        counted = λ s i. absurd i;
        short = λ s i. absurd i;
        todo = λ p i. all_worked k.map.unit (merged k.ended) p i;
      },
    );
    marks = λ p ps ss k ns ms r. (r.0, left_marked p ps ss k r.1);
    next = λ p ps ss k ns ms r. (
      r.0,
      record { counted = r.1.counted; short = r.1.short; todo = λ q i. r.1.todo q (inr i) },
    );
    mends = λ ss k ns ms r. record {
      number = r.0.number;
      repair = record { file = k.number; worked = merged k.ended; short = ss };
      mended = ap (λ (xs : List Mended). xs ++ record { file = k.number; worked = merged k.ended; short = ss } ∷ []) r.0.none;
      own = r.0.number;
      right = record { counted = r.1.counted; short = r.1.short };
    };
  }

  begins_so : (work : Work) (k : Kept) (ns : List Note) (ms : List Mended) → Ahead k ms → WorkRight work k
      → Begins cases work k ns ms
  begins_so (Fetches todo short) k ns ms a w = (a, w)
  begins_so (Stores todo short broken) k ns ms a w = (a, w)
  begins_so Creates k ns ms a w = a
  begins_so Fences k ns ms a w = a
  begins_so (Targets t) k ns ms a w = a
  begins_so (Gathers t todo) k ns ms a w = a
  begins_so (Fills t todo) k ns ms a w = a
  begins_so Lengths k ns ms a w = a
  begins_so (Checks todo t) k ns ms a w = a

  abbrev Went : Option Job → Kept → List Mended → Type 0
  Went o k ms = JobRight o k × (Ahead k ms ⊎ Behind k ms)

  ends_so : (work : Work) (k : Kept) (ns : List Note) (ms : List Mended) → Ends cases work k ns ms
      → WorkRight work k × (Ahead k ms ⊎ Behind k ms)
  ends_so (Fetches todo short) k ns ms r = (r.1, inl r.0)
  ends_so (Stores todo short broken) k ns ms r = (r.1, inl r.0)
  ends_so Creates k ns ms a = (tt, a)
  ends_so Fences k ns ms a = (tt, a)
  ends_so (Targets t) k ns ms a = (tt, a)
  ends_so (Gathers t todo) k ns ms a = (tt, a)
  ends_so (Fills t todo) k ns ms a = (tt, a)
  ends_so Lengths k ns ms a = (tt, a)
  ends_so (Checks todo t) k ns ms a = (tt, a)

  ends_in : (o : Option Job) (k : Kept) (ns : List Note) (ms : List Mended) → EndsIn cases o k ns ms → Went o k ms
  ends_in None k ns ms a = (tt, a)
  ends_in (Some j) k ns ms a = ends_so j.work k ns ms a

-- ---- the parts of a file

-- what the part of file f leaves, behind these repairs
pub record Part (f : File) (before : List Mended) (h : Going) : Type 0 where
  pub number : h.file.kept.number ≡ f.kept.number
  pub right : FileRight h.file
  pub mended : (h.effects.mended ≡ before) ⊎ Behind f.kept.number before h.file.kept h.effects.mended

module _ (g : Going) where
  abbrev f : File
  f = g.file

  abbrev n : ℕ
  n = g.file.kept.number

  abbrev ms : List Mended
  ms = g.effects.mended

  ahead : (k : Kept) → k.number ≡ n → Ahead n ms k ms
  ahead k same = record { number = same; none = refl }

  to_part : (h : Going) → EndsIn (cases n ms) h.file.job h.file.kept h.effects.notes h.effects.mended → Part f ms h
  to_part h ends = by (ends_in n ms h.file.job h.file.kept h.effects.notes h.effects.mended ends)
    where
      by : Went n ms h.file.job h.file.kept h.effects.mended → Part f ms h
      by (right, inl a) = record { number = a.number; right = right; mended = inl a.none }
      by (right, inr b) = record { number = b.number; right = right; mended = inr b }

  pub part_fence : (kind : JobKind) (format : ℕ) → Part f ms (fence_begins kind format g)
  part_fence kind format =
      to_part (fence_begins kind format g) (of_fence (cases n ms) kind format g (ahead (ending f.kept format) refl))

  pub part_making : Part f ms (making g)
  part_making = to_part (making g) (of_making (cases n ms) g (ahead f.kept refl))

  module _ (right : FileRight f) where
    begun : (j : Job) → f.job ≡ Some j → Begins (cases n ms) j.work f.kept g.effects.notes ms
    begun j runs =
        begins_so n ms j.work f.kept g.effects.notes ms (ahead f.kept refl)
        (subst (λ (o : Option Job). JobRight o f.kept) runs right)

    pub part_reply : (j : Job) → f.job ≡ Some j → (a : Awaited) (r : Reply) (x : Hearing) → Part f ms (hears g j a r x)
    part_reply j runs a r x = to_part (hears g j a r x) (of_reply (cases n ms) g j a r x runs (begun j runs))

    -- nothing is ended
    still : (h : Going) → h.file.kept.number ≡ n → FileRight h.file → h.effects.mended ≡ ms → Part f ms h
    still h number is same = record { number = number; right = is; mended = inl same }

    pub part_noted : (kind : NoteKind) → Part f ms (noting g kind)
    part_noted kind = still (noting g kind) refl right refl

    pub part_declares : (drive : ℕ) → Part f ms (declares g drive)
    unfolding declares
    part_declares drive = by f.job refl
      where
        less : Going
        less = with_components g (lose_on drive f.kept.components)

        idle : f.job ≡ None → (o : Option Job) → o ≡ None → Part f ms (declared_in less drive o)
        idle free None e = still less refl (subst (λ (o : Option Job). JobRight o less.file.kept) (sym free) tt) refl
        idle free (Some j) e = absurd (cc e)

        by : (o : Option Job) → f.job ≡ o → Part f ms (declares g drive)
        by None free = either (any_on drive f.kept.components || targets f.job drive)
          where
            either : (b : Bool) → Part f ms (if b then declared_in less drive f.job else g)
            either true = idle free f.job free
            either false = still g refl right refl
        by (Some j) runs = to_part (declares g drive) (of_declaration (cases n ms) g drive j runs (begun j runs))

    pub part_opens : (format : ℕ) → Part f ms (opens format g)
    unfolding opens opens_fenced
    part_opens format =
        either (is_unsettled f.kept) _ _
        (either (f.kept.tag == GREATEST_TAG) (opens_spent g) _ (still (opens_spent g) refl right refl)
        (part_fence Revoking format))
        (by_ready f.kept.ready)
      where
        either : (b : Bool) (x y : Going) → Part f ms x → Part f ms y → Part f ms (if b then x else y)
        either true x y p q = p
        either false x y p q = q

        by_ready : (ready : Bool) → Part f ms (opens_made g ready)
        by_ready true = still (over g) refl tt refl
        by_ready false = part_making

    -- components that become missing
    work_lost : (work : Work) (ks : List ℕ) (k : Kept) → WorkRight work k
        → WorkRight work (record k { components = lose_from ks k.components 0 })
    work_lost (Fetches todo short) ks k w = left_with todo short k _ (fewer_lost ks k.components 0) w
    work_lost (Stores todo short broken) ks k w = left_with todo short k _ (fewer_lost ks k.components 0) w
    work_lost Creates ks k w = tt
    work_lost Fences ks k w = tt
    work_lost (Targets t) ks k w = tt
    work_lost (Gathers t todo) ks k w = tt
    work_lost (Fills t todo) ks k w = tt
    work_lost Lengths ks k w = tt
    work_lost (Checks todo t) ks k w = tt

    job_lost : (o : Option Job) (ks : List ℕ) → JobRight o f.kept
        → JobRight o (record f.kept { components = lose_from ks f.kept.components 0 })
    job_lost None ks w = tt
    job_lost (Some j) ks w = work_lost j.work ks f.kept w

    -- what else changes of what is kept doesn't matter
    work_same : (work : Work) (k l : Kept) → l.map ≡ k.map → l.components ≡ k.components → l.ended ≡ k.ended → WorkRight work k
        → WorkRight work l
    work_same (Fetches todo short) k l map parts same w = record {
      counted = λ s i. rw same (w.counted s i);
      short = λ s i. rw (map, parts) (w.short s i);
      todo = λ p i. rw same (w.todo p i);
    }
    work_same (Stores todo short broken) k l map parts same w = record {
      counted = λ s i. rw same (w.counted s i);
      short = λ s i. rw (map, parts) (w.short s i);
      todo = λ p i. rw same (w.todo p i);
    }
    work_same Creates k l map parts same w = tt
    work_same Fences k l map parts same w = tt
    work_same (Targets t) k l map parts same w = tt
    work_same (Gathers t todo) k l map parts same w = tt
    work_same (Fills t todo) k l map parts same w = tt
    work_same Lengths k l map parts same w = tt
    work_same (Checks todo t) k l map parts same w = tt

    job_same : (o : Option Job) (k l : Kept) → l.map ≡ k.map → l.components ≡ k.components → l.ended ≡ k.ended
        → JobRight o k → JobRight o l
    job_same None k l map parts same w = tt
    job_same (Some j) k l map parts same w = work_same j.work k l map parts same w

    changed : (h : Going) (k : Kept) → k.number ≡ h.file.kept.number → k.map ≡ h.file.kept.map
        → k.components ≡ h.file.kept.components → k.ended ≡ h.file.kept.ended → Part f ms h
        → Part f ms (keeping h k)
    changed h k number map parts same x = record {
      number = number ∙ x.number;
      right = job_same h.file.job h.file.kept k map parts same x.right;
      mended = elim x.mended [
        | inl none ↦ inl none
        | inr b ↦ inr (record {
          number = number ∙ b.number;
          repair = b.repair;
          mended = b.mended;
          own = b.own;
          right = record { counted = b.right.counted; short = λ s i. rw (map, parts) (b.right.short s i) };
        })
      ];
    }

    noted_if : (b : Bool) (h : Going) (kind : NoteKind) → Part f ms h → Part f ms (noting_if b h kind)
    noted_if true h kind x = record { number = x.number; right = x.right; mended = x.mended }
    noted_if false h kind x = x

    served : IsServed (λ (h : Going). h ≡ g) (Part f ms)
    served = record {
      stays = λ h same. subst (Part f ms) (sym same) (still g refl right refl);
      fence = λ format h same.
          subst (λ (x : Going). Part f ms (fence_begins Revoking format x)) (sym same) (part_fence Revoking format);
      lost = λ h ks same.
          subst (λ (x : Going). Part f ms (with_components x (lose_from ks x.file.kept.components 0))) (sym same)
          (still (with_components g (lose_from ks f.kept.components 0)) refl (job_lost f.job ks right) refl);
      noted = λ h b kind p x. noted_if b h kind x;
      granted = λ h gs high x. changed h (record h.file.kept { grants = gs; high = high }) refl refl refl refl x;
      sized = λ h size x. changed h (record h.file.kept { size = size }) refl refl refl refl x;
    }

    pub part_serves : (next format now client : ℕ) (args : RequestArgs) → Part f ms (serves g next format now client args).going
    part_serves next format now client args =
        ends_served (λ (h : Going). h ≡ g) (Part f ms) served g next format now client args refl
