-- What the part of a file in a step notes of repairs: each note that a repair is over counts what that repair did.
-- Towards `RepairsLeaveNoneDisturbed` (`file_simulation/specs/Claim.antt`).
use Rattle.std.proofs.Common.{◌≡◌, ◌==◌, ◌++◌, ◌||◌, ℕ, Bool, true, false, List, [], ◌∷◌, length, find, Option, Some, None, refl, sym, ap, ◌∙◌, inl, inr, if◌then◌else◌}
use Rattle.std.proofs.lemmas.Bool.{true≢false, cases_Bool, eq-eqb, ne_eqb}
use Rattle.std.proofs.lemmas.List.{append-nil}
use Rattle.server_rules.specs.declared.limits.TheConstants.{GREATEST_TAG}
use Rattle.server_rules.specs.Going.{Going, noting, noting_if, with_components}
use Rattle.server_rules.specs.Grants.{merged, count_stripes}
use Rattle.server_rules.specs.Jobs.{making, fence_begins, declares, declared_in, targets}
use Rattle.server_rules.specs.Laws.{In, NoneBeside}
use Rattle.server_rules.specs.Openings.{is_unsettled, opens_made, opens_spent, opens_fenced, opens}
use Rattle.server_rules.specs.Repair.{mended}
use Rattle.server_rules.specs.Requests.{serves}
use Rattle.server_rules.specs.Standing.{lose_on, any_on}
use Rattle.server_rules.proofs.Members.{in_either}
use Rattle.world_history.specs.ServerNames.{Kept, Grant, Effects, Note, NoteKind, Ready, Repaired, NoDrive, NoSpace, Spent, Reported, Mended, Stripes, Job, JobKind, Revoking, RequestArgs}
use Rattle.headline_law.proofs.PartWalk.{PartCases, part_declares}
use Rattle.headline_law.proofs.ServedWalk.{walk_serves}
use Rattle.relation_law.proofs.Walk.{Place, AtFence, AtRepair, AtRows, JobCases, raised, walk_making, walk_fence}

-- ---- the words

-- a note that a repair is over
abbrev pub tells_repair : NoteKind → Bool
tells_repair (Repaired stripes short) = true
tells_repair kind = false

-- the first repair of file n
abbrev pub repair_of : (n : ℕ) → List Mended → Option Mended
repair_of n ms = find (λ (r : Mended). r.file == n) ms

-- The first repair of the file counted so many stripes, and left so many short.
pub record IsCounted (n : ℕ) (ms : List Mended) (stripes short : ℕ) : Type 0 where
  pub repair : Mended
  pub found : repair_of n ms ≡ Some repair
  pub worked : count_stripes repair.worked ≡ stripes
  pub left : length repair.short ≡ short

-- Each note that a repair is over counts what the first repair of its file did.
abbrev pub AllCounted : List Note → List Mended → Type 0
AllCounted ns ms = (x : Note) (stripes short : ℕ) → In x ns → x.kind ≡ Repaired stripes short → IsCounted x.file ms stripes short

-- a further note on file k, and a further repair of it
abbrev noted : List Note → (k : ℕ) → NoteKind → List Note
noted ns k kind = ns ++ record { file = k; kind = kind } ∷ []

abbrev mended_too : List Mended → (k : ℕ) → (worked : List Stripes) → (short : List ℕ) → List Mended
mended_too ms k worked short = ms ++ record { file = k; worked = worked; short = short } ∷ []

-- ---- one repair more

one_more : (p : Mended → Bool) (ms : List Mended) (r : Mended) → find p ms ≡ None → find p (ms ++ r ∷ []) ≡ find p (r ∷ [])
one_more p [] r none = refl
one_more p (x ∷ ms) r none = elim (cases_Bool (p x)) [
  | inl t ↦ absurd (cc (rw t at none))
  | inr z ↦ rw z (one_more p ms r (rw z at none))
]

another : (p : Mended → Bool) (ms : List Mended) (r : Mended) → p r ≡ false → find p (ms ++ r ∷ []) ≡ find p ms
another p [] r other = rw other refl
another p (x ∷ ms) r other = elim (cases_Bool (p x)) [
  | inl t ↦ rw t refl
  | inr z ↦ rw z (another p ms r other)
]

other_repair : (n k : ℕ) (ms : List Mended) (worked : List Stripes) (short : List ℕ) → (k ≡ n → ⊥) →
    repair_of n (mended_too ms k worked short) ≡ repair_of n ms
other_repair n k ms worked short other = another _ ms _ (ne_eqb k n other)

own_repair : (k : ℕ) (ms : List Mended) (worked : List Stripes) (short : List ℕ) → repair_of k ms ≡ None →
    repair_of k (mended_too ms k worked short) ≡ Some (record { file = k; worked = worked; short = short })
own_repair k ms worked short none =
    one_more _ ms (record { file = k; worked = worked; short = short }) none ∙ rw (eq-eqb k k refl) refl

-- ---- one note more

pub counted_noted : (ns : List Note) (ms : List Mended) (k : ℕ) (kind : NoteKind) → tells_repair kind ≡ false →
    AllCounted ns ms → AllCounted (noted ns k kind) ms
counted_noted ns ms k kind plain all x stripes short i is = elim (in_either x ns _ i) [
  | inl old ↦ all x stripes short old is
  | inr (inl same) ↦ absurd (true≢false (sym (ap tells_repair is) ∙ ap (λ (y : Note). tells_repair y.kind) same ∙ plain))
  | inr (inr z) ↦ absurd z
]

-- the first repair of file k is over, and noted so
counted_over : (ns : List Note) (ms : List Mended) (k : ℕ) (worked : List Stripes) (short : List ℕ) → repair_of k ms ≡ None →
    AllCounted ns ms →
    AllCounted (noted ns k (Repaired (count_stripes worked) (length short))) (mended_too ms k worked short)
counted_over ns ms k worked short none all x stripes left i is = elim (in_either x ns _ i) [
  | inl old ↦
      let c : IsCounted x.file ms stripes left = all x stripes left old is in
      let other : k ≡ x.file → ⊥ = λ (same : k ≡ x.file). cc (sym none ∙ ap (λ (j : ℕ). repair_of j ms) same ∙ c.found) in
      record {
        repair = c.repair;
        found = other_repair x.file k ms worked short other ∙ c.found;
        worked = c.worked;
        left = c.left;
      }
  | inr (inl own) ↦
      let kinds : Repaired (count_stripes worked) (length short) ≡ Repaired stripes left =
      sym (ap (λ (y : Note). y.kind) own) ∙ is in
      record {
        repair = record { file = k; worked = worked; short = short };
        found = ap (λ (y : Note). repair_of y.file (mended_too ms k worked short)) own ∙ own_repair k ms worked short none;
        worked = cc kinds;
        left = cc kinds;
      }
  | inr (inr z) ↦ absurd z
]

-- ---- the part of the file with number n, behind the repairs of others

-- the grants whose stripes a repair of the file counts: those that fences ended, and those that are live
abbrev pub to_repair : Kept → List Grant
to_repair f = f.ended ++ f.grants

-- where none is live
pub only_ended : (f : Kept) → f.grants ≡ [] → f.ended ≡ to_repair f
only_ended f none = sym (ap (λ (gs : List Grant). f.ended ++ gs) none ∙ append-nil f.ended)

-- such grants are to be repaired
module _ (before : List Mended) (n : ℕ) (total : List Grant) where
  -- what is noted so far; a repair of the file counts their stripes; of each other file the repairs are those from before
  pub record Told (ns : List Note) (ms : List Mended) : Type 0 where
    pub counted : AllCounted ns ms
    pub worked : (r : Mended) → repair_of n ms ≡ Some r → r.worked ≡ merged total
    pub others : (k : ℕ) → (n ≡ k → ⊥) → repair_of k ms ≡ repair_of k before

  abbrev pub Ends : Effects → Type 0
  Ends m = Told m.notes m.mended

  abbrev pub AllTold : Going → Type 0
  AllTold g = Ends g.effects

  -- no repair of the file is over, and fences ended all the grants that are to be repaired
  pub record IsAhead (g : Going) : Type 0 where
    pub number : g.file.kept.number ≡ n
    pub none : repair_of n g.effects.mended ≡ None
    pub ended : g.file.kept.ended ≡ total

  -- so it is, and none is live
  abbrev pub Base : Going → Type 0
  Base g = AllTold g × IsAhead g × (g.file.kept.grants ≡ [])

  -- so it is until its repair is over
  abbrev pub is_ahead : Place → Bool
  is_ahead AtFence = true
  is_ahead (AtRepair ps) = true
  is_ahead (AtRows p ps heard) = true
  is_ahead place = false

  abbrev pub AtPlace : Place → Going → Type 0
  AtPlace place g = AllTold g × (is_ahead place ≡ true → IsAhead g)

  at_any : (place : Place) (g : Going) → Base g → AtPlace place g
  at_any place g base = (base.0, λ ahead. base.1)

  -- where more is noted, or components change
  ahead_as : (g h : Going) → h.file.kept.number ≡ g.file.kept.number → h.file.kept.ended ≡ g.file.kept.ended →
      h.effects.mended ≡ g.effects.mended → IsAhead g → IsAhead h
  ahead_as g h number ended mended a = record {
    number = number ∙ a.number;
    none = ap (repair_of n) mended ∙ a.none;
    ended = ended ∙ a.ended;
  }

  more : (g : Going) (kind : NoteKind) → tells_repair kind ≡ false → AllTold g → AllTold (noting g kind)
  more g kind plain q = record {
    counted = counted_noted g.effects.notes g.effects.mended g.file.kept.number kind plain q.counted;
    worked = q.worked;
    others = q.others;
  }

  if_more : (b : Bool) (g : Going) (kind : NoteKind) → tells_repair kind ≡ false → AllTold g →
      AllTold (noting_if b g kind)
  if_more true g kind plain q = more g kind plain q
  if_more false g kind plain q = q

  -- the repair is over
  over_now : (short : List ℕ) (g : Going) → AllTold g → IsAhead g → AllTold (mended g short)
  over_now short g told a =
      let none : repair_of g.file.kept.number g.effects.mended ≡ None =
      ap (λ (k : ℕ). repair_of k g.effects.mended) a.number ∙ a.none in
      record {
        counted =
            counted_over g.effects.notes g.effects.mended g.file.kept.number (merged g.file.kept.ended) short none
            told.counted;
        worked = λ r found.
            let own : Some (record { file = g.file.kept.number; worked = merged g.file.kept.ended; short = short }) ≡ Some r =
            sym (own_repair g.file.kept.number g.effects.mended (merged g.file.kept.ended) short none)
            ∙ ap (λ (k : ℕ). repair_of k (mended g short).effects.mended) a.number ∙ found in
            sym (ap worked_of own) ∙ ap merged a.ended;
        others = λ k other.
            other_repair k g.file.kept.number g.effects.mended (merged g.file.kept.ended) short
            (λ same. other (sym a.number ∙ same))
            ∙ told.others k other;
      }
    where
      worked_of : Option Mended → List Stripes
      worked_of None = []
      worked_of (Some r) = r.worked

  told_cases : JobCases AtPlace AllTold
  told_cases = record {
    asks = λ place work c cs kind g q a. q.0;
    aims = λ t g q is. q.0;
    readied = λ g q. more g Ready refl q.0;
    rests_behind = λ g q. q.0;
    built = λ m g q. q.0;
    counted = λ t g q. more g _ refl q.0;
    raises = λ g q. (more g _ refl q.0, λ ahead. ahead_as g (raised g) refl refl refl (q.1 refl));
    skips = λ p ps g q e. (q.0, λ ahead. q.1 refl);
    unchanged = λ p ps heard g q e. (q.0, λ ahead. q.1 refl);
    repaired = λ short g q. (over_now short g q.0 (q.1 refl), λ ahead. absurd (cc ahead));
    begins = λ g q. q;
    passes = λ b k g q. (if_more b g (NoDrive k) refl q.0, λ ahead. absurd (cc ahead));
    builds = λ t g q. (more g _ refl q.0, λ ahead. absurd (cc ahead));
    loses_it = λ t p ps lacked g q e. (more g _ refl q.0, λ ahead. absurd (cc ahead));
    gone = λ t todo g q. (more g _ refl q.0, λ ahead. absurd (cc ahead));
    full = λ t todo g q. (more g _ refl q.0, λ ahead. absurd (cc ahead));
    zeros = λ t p ps heard g q e. q;
    lengths = λ g q. q;
    counts = λ p ps g q. q;
  }

  -- a new file
  pub told_making : (g : Going) → AllTold g → AllTold (making g)
  told_making g q = walk_making AtPlace AllTold told_cases g (q, λ ahead. absurd (cc ahead))

  -- what the whole part notes
  pub told_part : PartCases Base AtPlace Ends
  told_part = record {
    jobs = told_cases;
    at_any = at_any;
    out = λ g base. base.0;
    ends = λ format g base. (
      base.0,
      record {
        number = base.1.number;
        none = base.1.none;
        ended = sym (only_ended g.file.kept base.2) ∙ base.1.ended;
      },
      refl,
    );
    loses = λ cs g base. (base.0, ahead_as g (with_components g cs) refl refl refl base.1, base.2);
    lacks = λ cs k g base. (
      more g (NoSpace k) refl base.0,
      ahead_as g (noting (with_components g cs) (NoSpace k)) refl refl refl base.1,
      base.2,
    );
    again = λ j a g base. base.0;
    spent = λ g q. more g Spent refl q;
    reported = λ k g q. more g (Reported k) refl q;
  }

  -- a fence that ends just these
  pub told_fence : (kind : JobKind) (format : ℕ) (g : Going) → AllTold g → g.file.kept.number ≡ n →
      repair_of n g.effects.mended ≡ None → to_repair g.file.kept ≡ total → AllTold (fence_begins kind format g)
  told_fence kind format g told number none ends =
      walk_fence AtPlace AllTold told_cases kind format g
      (told, λ ahead. record { number = number; none = none; ended = ends })

  pick : (b : Bool) (x y : Going) → AllTold x → AllTold y → AllTold (if b then x else y)
  pick true x y p q = p
  pick false x y p q = q

  pub told_opens : (format : ℕ) (g : Going) → AllTold g → g.file.kept.number ≡ n →
      repair_of n g.effects.mended ≡ None → to_repair g.file.kept ≡ total → AllTold (opens format g)
  unfolding opens opens_fenced
  told_opens format g told number none ends =
      pick (is_unsettled g.file.kept) _ _
      (pick (g.file.kept.tag == GREATEST_TAG) (opens_spent g) _ (more g Spent refl told)
      (told_fence Revoking format g told number none ends))
      (by_ready g.file.kept.ready)
    where
      by_ready : (ready : Bool) → AllTold (opens_made g ready)
      by_ready true = told
      by_ready false = told_making g told

  -- a request
  pub told_serves : (g : Going) → AllTold g → g.file.kept.number ≡ n → repair_of n g.effects.mended ≡ None →
      to_repair g.file.kept ≡ total → (next format now client : ℕ) (args : RequestArgs) →
      AllTold (serves g next format now client args).going
  told_serves g told number none ends =
      walk_serves Ends g
      (record {
        begins = told;
        fences = λ format. told_fence Revoking format g told number none ends;
        spent = λ h q. more h Spent refl q;
        reported = λ k h q. more h (Reported k) refl q;
      })

  -- a drive is declared
  pub told_declares : (drive : ℕ) (g : Going) → AllTold g → g.file.kept.number ≡ n →
      repair_of n g.effects.mended ≡ None → to_repair g.file.kept ≡ total → NoneBeside g.file.job g.file.kept.grants →
      AllTold (declares g drive)
  unfolding declares
  told_declares drive g told number none ends alone = by g.file.job refl alone
    where
      h : Going
      h = with_components g (lose_on drive g.file.kept.components)

      idle : (o : Option Job) → o ≡ None → AllTold (declared_in h drive o)
      idle None e = told
      idle (Some j) e = absurd (cc e)

      by : (o : Option Job) → g.file.job ≡ o → NoneBeside o g.file.kept.grants → AllTold (declares g drive)
      by None free none_beside =
          pick (any_on drive g.file.kept.components || targets g.file.job drive) _ _ (idle g.file.job free) told
      by (Some j) runs none_live =
          part_declares told_part drive g
          (told, record { number = number; none = none; ended = only_ended g.file.kept none_live ∙ ends }, none_live)
