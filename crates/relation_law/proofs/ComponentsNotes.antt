-- What the notes of a step make of the components of a file, and their events of the machine: the same.
-- Towards `ComponentsGoOn` (`specs/Steps.antt`).
use Rattle.std.proofs.Common.{◌≡◌, ◌⊎◌, ◌||◌, ◌++◌, ℕ, ◌+◌, ◌<◌, Bool, true, false, zero, suc, List, [], ◌∷◌, length, slice_get, slice_set, Some, refl, sym, ap, subst, ◌∙◌, inl, inr, arith, eq-eqb, if◌then◌else◌}
use Rattle.std.proofs.lemmas.Bool.{cases_eq, ne_eqb}
use Rattle.std.proofs.lemmas.Option.{same_Some, slice_get_within}
use Rattle.osd_lists.proofs.Slices.{get_set}
use Rattle.server_rules.proofs.Members.{in_front, in_behind}
use Rattle.server_rules.specs.History.{Input}
use Rattle.server_rules.specs.Numbers.{among}
use Rattle.server_rules.specs.Rebuild.{stands_at}
use Rattle.server_rules.specs.Standing.{lose_from}
use Rattle.component_law.specs.Components.{is_lacking}
use Rattle.world_history.specs.ServerNames.{File, Kept, Component, Note, NoteKind, Ready, Fenced as FencedNote, Repaired as RepairedNote, Rebuilt, NoDrive, Lost, NoSpace, Audit, Busy, Spent, Reported, Target}
use Rattle.world_history.specs.State.{World, at_number}
use Rattle.fence_law.specs.State.{State}
use Rattle.fence_law.specs.State.Event.{Fenced, Refenced, Fails, Rebuilds}
use Rattle.fence_law.specs.Machine.{after, after_all}
use Rattle.fence_law.proofs.Words.{updated_same, updated_other}
use Rattle.file_simulation.specs.Components.{has_failed, is_lost_in}
use Rattle.file_simulation.specs.EventLists.{where_so}
use Rattle.file_simulation.specs.ServerEvents as table
use Rattle.relation_law.specs.ComponentsBehind.{WasRebuilt}
use Rattle.relation_law.specs.ComponentsWalk.{noted_after, is_silent, and_note, IsWalked}

-- ---- the machine behind some notes

pub noted_more : (t : State) (w : World) (f : File) (i : Input) (ns ms : List Note) →
    noted_after t w f i (ns ++ ms) ≡ noted_after (noted_after t w f i ns) w f i ms
unfolding noted_after
noted_more t w f i [] ms = refl
noted_more t w f i (n ∷ ns) ms = noted_more (after_all t (table.noted t w f i n)) w f i ns ms

-- an own note
pub own_note : (t : State) (w : World) (f : File) (i : Input) (n : ℕ) (kind : NoteKind) → n ≡ f.kept.number →
    noted_after t w f i (record { file = n; kind = kind } ∷ []) ≡ after_all t (table.noted_here t w f i kind)
unfolding noted_after
own_note t w f i n kind same =
    ap (λ (b : Bool). after_all t (where_so b (table.noted_here t w f i kind))) (eq-eqb n f.kept.number same)

-- ---- what is said of a component

-- the machine has of component j what it had before the step, and the component stands where it stood
pub record WasKept (s t : State) (f : File) (j : ℕ) (at : Component) : Type 0 where
  pub before : Component
  pub there : slice_get f.kept.components j ≡ Some before
  pub drive : at.drive ≡ before.drive
  pub object : at.object ≡ before.object
  pub tag : t.object_tag j ≡ s.object_tag j
  pub cells : (z : ℕ) → t.cell j z ≡ s.cell j z
  pub lost : t.lost j ≡ false → s.lost j ≡ false

-- the machine has whether it is missing, and whether it is lost
pub record Told (s t : State) (w : World) (f : File) (ns : List Note) (j : ℕ) (at : Component) : Type 0 where
  pub missing : t.missing j ≡ at.missing
  pub lost : t.lost j ≡ is_lost_in w at
  pub kept : WasKept s t f j at ⊎ WasRebuilt f ns j at

-- so it is of all components, behind the notes so far
pub record AreTold (s t : State) (w : World) (f : File) (i : Input) (k : Kept) (ns : List Note) : Type 0 where
  pub number : k.number ≡ f.kept.number
  pub each : (j : ℕ) (at : Component) → slice_get k.components j ≡ Some at →
      Told s (noted_after t w f i ns) w f ns j at

-- ---- events that leave a component

pub record Leaves (t u : State) (j : ℕ) : Type 0 where
  pub missing : u.missing j ≡ t.missing j
  pub lost : u.lost j ≡ t.lost j
  pub tag : u.object_tag j ≡ t.object_tag j
  pub cells : (z : ℕ) → u.cell j z ≡ t.cell j z

leaves_same : (t : State) (j : ℕ) → Leaves t t j
leaves_same t j = record { missing = refl; lost = refl; tag = refl; cells = λ z. refl }

pub leaves_as : (t u : State) (j : ℕ) → u ≡ t → Leaves t u j
leaves_as t u j e = subst (λ (v : State). Leaves t v j) (sym e) (leaves_same t j)

rebuilt_more : (f : File) (ns ms : List Note) (j : ℕ) (at : Component) → WasRebuilt f ns j at → WasRebuilt f (ns ++ ms) j at
rebuilt_more f ns ms j at r = record { note = r.note; told = in_front r.note ns ms r.told; file = r.file; kind = r.kind }

-- a component that stays behind further notes
pub told_left : (s t u : State) (w : World) (f : File) (ns ms : List Note) (j : ℕ) (at : Component) → Leaves t u j →
    Told s t w f ns j at → Told s u w f (ns ++ ms) j at
told_left s t u w f ns ms j at l h = record {
  missing = l.missing ∙ h.missing;
  lost = l.lost ∙ h.lost;
  kept = elim h.kept [
    | inl k ↦ inl (record {
      before = k.before;
      there = k.there;
      drive = k.drive;
      object = k.object;
      tag = l.tag ∙ k.tag;
      cells = λ z. l.cells z ∙ k.cells z;
      lost = λ e. k.lost (sym l.lost ∙ e);
    })
    | inr r ↦ inr (rebuilt_more f ns ms j at r)
  ];
}

-- a component that is missing from now on
pub told_lost : (s t u : State) (w : World) (f : File) (ns ms : List Note) (j : ℕ) (at to : Component) → to.missing ≡ true →
    to.drive ≡ at.drive → to.object ≡ at.object → u.missing j ≡ true → u.lost j ≡ true → u.object_tag j ≡ t.object_tag j →
    ((z : ℕ) → u.cell j z ≡ t.cell j z) → Told s t w f ns j at → Told s u w f (ns ++ ms) j to
told_lost s t u w f ns ms j at to gone drive object missing lost tag cells h = record {
  missing = missing ∙ sym gone;
  lost = lost ∙ sym (ap (λ (b : Bool). b || has_failed (at_number w.drives to.drive)) gone);
  kept = elim h.kept [
    | inl k ↦ inl (record {
      before = k.before;
      there = k.there;
      drive = drive ∙ k.drive;
      object = object ∙ k.object;
      tag = tag ∙ k.tag;
      cells = λ z. cells z ∙ k.cells z;
      lost = λ e. absurd (cc (sym lost ∙ e));
    })
    | inr r ↦ inr (record {
      note = r.note;
      told = in_front r.note ns ms r.told;
      file = r.file;
      kind = r.kind ∙ ap (Rebuilt j) (sym drive);
    })
  ];
}

-- ---- lists of components

-- behind a loss each is as it was, or is missing if its number is among these
pub record LostAt (ks : List ℕ) (cs : List Component) (n j : ℕ) (to : Component) : Type 0 where
  pub before : Component
  pub there : slice_get cs j ≡ Some before
  pub hit : among (n + j) ks ≡ true → to ≡ record before { missing = true }
  pub spared : among (n + j) ks ≡ false → to ≡ before

pub lost_at : (ks : List ℕ) (cs : List Component) (n j : ℕ) (to : Component) → slice_get (lose_from ks cs n) j ≡ Some to →
    LostAt ks cs n j to
unfolding lose_from
lost_at ks [] n j to e = absurd (cc e)
lost_at ks (at ∷ cs) n zero to e =
    let here : n + 0 ≡ n = omega arith in
    record {
      before = at;
      there = refl;
      hit = λ is. let own : among n ks ≡ true = sym (ap (λ (m : ℕ). among m ks) here) ∙ is in
          let it : Some (record at { missing = true }) ≡ Some to = rw own at e in sym (cc it);
      spared = λ is. let own : among n ks ≡ false = sym (ap (λ (m : ℕ). among m ks) here) ∙ is in
          let it : Some at ≡ Some to = rw own at e in sym (cc it);
    }
lost_at ks (at ∷ cs) n (suc j) to e =
    let r = lost_at ks cs (n + 1) j to e in
    let next : n + suc j ≡ n + 1 + j = omega arith in
    record {
      before = r.before;
      there = r.there;
      hit = λ is. r.hit (sym (ap (λ (m : ℕ). among m ks) next) ∙ is);
      spared = λ is. r.spared (sym (ap (λ (m : ℕ). among m ks) next) ∙ is);
    }

one_among : (n : ℕ) → among n (n ∷ []) ≡ true
unfolding among
one_among n = rw (eq-eqb n n refl) refl

none_among : (j n : ℕ) → (j ≡ n → ⊥) → among j (n ∷ []) ≡ false
unfolding among
none_among j n other = rw (ne_eqb j n other) refl

pub lacking_at : (cs : List Component) (n : ℕ) (at : Component) → is_lacking cs n ≡ true → slice_get cs n ≡ Some at →
    at.missing ≡ true
lacking_at [] n at lacks e = absurd (cc e)
lacking_at (x ∷ cs) zero at lacks e = ap (λ (y : Component). y.missing) (sym (same_Some x at e)) ∙ lacks
lacking_at (x ∷ cs) (suc n) at lacks e = lacking_at cs n at lacks e

pub set_other : (cs : List Component) (n j : ℕ) (x : Component) → (j ≡ n → ⊥) → slice_get (slice_set cs n x) j ≡ slice_get cs j
set_other [] n j x other = refl
set_other (y ∷ cs) zero zero x other = absurd (other refl)
set_other (y ∷ cs) zero (suc j) x other = refl
set_other (y ∷ cs) (suc n) zero x other = refl
set_other (y ∷ cs) (suc n) (suc j) x other = set_other cs n j x (λ e. other (ap suc e))

set_length : (cs : List Component) (n : ℕ) (x : Component) → length (slice_set cs n x) ≡ length cs
set_length [] n x = refl
set_length (y ∷ cs) zero x = refl
set_length (y ∷ cs) (suc n) x = ap suc (set_length cs n x)

-- ---- a silent note

pub silent_leaves : (t : State) (w : World) (f : File) (i : Input) (kind : NoteKind) (j : ℕ) → is_silent kind ≡ true →
    Leaves t (after_all t (table.noted_here t w f i kind)) j
silent_leaves t w f i Ready j e = leaves_same t j
silent_leaves t w f i (FencedNote tag) j e = fence t.repairing
  where
    fence : (b : Bool) → Leaves t (after_all t ((if b then Refenced else Fenced) ∷ [])) j
    fence true = record { missing = refl; lost = refl; tag = refl; cells = λ z. refl }
    fence false = record { missing = refl; lost = refl; tag = refl; cells = λ z. refl }
silent_leaves t w f i (RepairedNote stripes short) j e = record { missing = refl; lost = refl; tag = refl; cells = λ z. refl }
silent_leaves t w f i (Rebuilt k d) j e = absurd (cc e)
silent_leaves t w f i (NoDrive k) j e = leaves_same t j
silent_leaves t w f i (Lost a b) j e = leaves_same t j
silent_leaves t w f i (NoSpace k) j e = absurd (cc e)
silent_leaves t w f i (Audit a b c d) j e = leaves_same t j
silent_leaves t w f i (Busy k) j e = leaves_same t j
silent_leaves t w f i Spent j e = leaves_same t j
silent_leaves t w f i (Reported k) j e = absurd (cc e)

-- ---- a component lacks space

-- any other component is left
lacks_other : (t : State) (n j : ℕ) (missing lost : Bool) → (j ≡ n → ⊥) →
    Leaves t (after_all t (table.lacks_space missing lost n)) j
lacks_other t n j true lost other = leaves_same t j
lacks_other t n j false true other =
    record { missing = updated_other t.missing n true j other; lost = refl; tag = refl; cells = λ z. refl }
lacks_other t n j false false other = record {
  missing = updated_other t.missing n true j other;
  lost = updated_other t.lost n true j other;
  tag = refl;
  cells = λ z. refl;
}

pub record Falls (t u : State) (n : ℕ) : Type 0 where
  pub missing : u.missing n ≡ true
  pub lost : u.lost n ≡ true
  pub tag : u.object_tag n ≡ t.object_tag n
  pub cells : (z : ℕ) → u.cell n z ≡ t.cell n z

-- and the component is missing, and lost, since what is missing is lost
lacks_own : (t : State) (n : ℕ) (missing lost : Bool) → t.missing n ≡ missing → t.lost n ≡ lost →
    (missing ≡ true → lost ≡ true) → Falls t (after_all t (table.lacks_space missing lost n)) n
lacks_own t n true lost m l both = record { missing = m; lost = l ∙ both refl; tag = refl; cells = λ z. refl }
lacks_own t n false true m l both =
    record { missing = updated_same t.missing n true; lost = l; tag = refl; cells = λ z. refl }
lacks_own t n false false m l both = record {
  missing = updated_same t.missing n true;
  lost = updated_same t.lost n true;
  tag = refl;
  cells = λ z. refl;
}

-- ---- a component is made anew

fails_if : State → (failed : Bool) → (k : ℕ) → State
fails_if t true k = after t (Fails k)
fails_if t false k = t

rebuilt_is : (t : State) (failed : Bool) (k : ℕ) (cells : ℕ → ℕ) →
    after_all t (Rebuilds k cells ∷ where_so failed (Fails k ∷ [])) ≡ fails_if (after t (Rebuilds k cells)) failed k
unfolding fails_if
rebuilt_is t true k cells = refl
rebuilt_is t false k cells = refl

rebuilt_other : (t : State) (failed : Bool) (k j : ℕ) (cells : ℕ → ℕ) → (j ≡ k → ⊥) →
    Leaves t (fails_if (after t (Rebuilds k cells)) failed k) j
unfolding fails_if
rebuilt_other t true k j cells other = record {
  missing = updated_other t.missing k false j other;
  lost = updated_other (after t (Rebuilds k cells)).lost k true j other ∙ updated_other t.lost k false j other;
  tag = updated_other t.object_tag k t.tag j other;
  cells = λ z. ap (λ (q : ℕ → ℕ). q z) (updated_other t.cell k cells j other);
}
rebuilt_other t false k j cells other = record {
  missing = updated_other t.missing k false j other;
  lost = updated_other t.lost k false j other;
  tag = updated_other t.object_tag k t.tag j other;
  cells = λ z. ap (λ (q : ℕ → ℕ). q z) (updated_other t.cell k cells j other);
}

rebuilt_lost : (t : State) (failed : Bool) (k : ℕ) (cells : ℕ → ℕ) →
    (fails_if (after t (Rebuilds k cells)) failed k).lost k ≡ failed
unfolding fails_if
rebuilt_lost t true k cells = updated_same (after t (Rebuilds k cells)).lost k true
rebuilt_lost t false k cells = updated_same t.lost k false

rebuilt_missing : (t : State) (failed : Bool) (k : ℕ) (cells : ℕ → ℕ) →
    (fails_if (after t (Rebuilds k cells)) failed k).missing k ≡ false
unfolding fails_if
rebuilt_missing t true k cells = updated_same t.missing k false
rebuilt_missing t false k cells = updated_same t.missing k false

-- ---- each part of a job

module _ (s t : State) (w : World) (f : File) (i : Input) where
  abbrev pub Q : Kept → List Note → Type 0
  Q k ns = AreTold s t w f i k ns

  abbrev At : List Note → State
  At ns = noted_after t w f i ns

  -- the machine behind one note more of the file
  behind : (k : Kept) (ns : List Note) (kind : NoteKind) → k.number ≡ f.kept.number →
      At (and_note k ns kind) ≡ after_all (At ns) (table.noted_here (At ns) w f i kind)
  behind k ns kind number =
      noted_more t w f i ns (record { file = k.number; kind = kind } ∷ []) ∙ own_note (At ns) w f i k.number kind number

  both_lost : (ns : List Note) (n : ℕ) (at : Component) → Told s (At ns) w f ns n at → (At ns).missing n ≡ true →
      (At ns).lost n ≡ true
  both_lost ns n at h m = h.lost ∙ ap (λ (b : Bool). b || has_failed (at_number w.drives at.drive)) (sym h.missing ∙ m)

  lost_more : (k : Kept) (ns : List Note) (n : ℕ) → Q k ns →
      Q (record k { components = lose_from (n ∷ []) k.components 0 }) (and_note k ns (NoSpace n))
  lost_more k ns n h = record {
    number = h.number;
    each = λ j to e.
        let r = lost_at (n ∷ []) k.components 0 j to e in
        let old = h.each j r.before r.there in
        let place : 0 + j ≡ j = omega arith in
        let is = behind k ns (NoSpace n) h.number in
        elim (cases_eq j n) [
          | inl here ↦
              let gone : to ≡ record r.before { missing = true } =
              r.hit (ap (λ (m : ℕ). among m (n ∷ [])) (place ∙ here) ∙ one_among n) in
              let there : slice_get k.components n ≡ Some r.before = sym (ap (slice_get k.components) here) ∙ r.there in
              let own = h.each n r.before there in
              let falls = lacks_own (At ns) n ((At ns).missing n) ((At ns).lost n) refl refl (both_lost ns n r.before own) in
              subst (λ (u : State). Told s u w f (and_note k ns (NoSpace n)) j to) (sym is)
              (subst (λ (m : ℕ). Told s (after_all (At ns) (table.noted_here (At ns) w f i (NoSpace n))) w f
              (and_note k ns (NoSpace n)) m to) (sym here)
              (told_lost s (At ns) _ w f ns _ n r.before to (ap (λ (y : Component). y.missing) gone)
              (ap (λ (y : Component). y.drive) gone) (ap (λ (y : Component). y.object) gone) falls.missing falls.lost
              falls.tag falls.cells own))
          | inr other ↦
              let same : to ≡ r.before =
              r.spared (ap (λ (m : ℕ). among m (n ∷ [])) place ∙ none_among j n other) in
              subst (λ (u : State). Told s u w f (and_note k ns (NoSpace n)) j to) (sym is)
              (subst (λ (y : Component). Told s (after_all (At ns) (table.noted_here (At ns) w f i (NoSpace n))) w f
              (and_note k ns (NoSpace n)) j y) (sym same)
              (told_left s (At ns) (after_all (At ns) (table.noted_here (At ns) w f i (NoSpace n))) w f ns _ j r.before
              (lacks_other (At ns) n j ((At ns).missing n) ((At ns).lost n) other) old))
        ];
  }

  full_more : (k : Kept) (ns : List Note) (n : ℕ) → is_lacking k.components n ≡ true → Q k ns →
      Q k (and_note k ns (NoSpace n))
  full_more k ns n lacks h = record {
    number = h.number;
    each = λ j at e.
        let old = h.each j at e in
        let is = behind k ns (NoSpace n) h.number in
        subst (λ (u : State). Told s u w f (and_note k ns (NoSpace n)) j at) (sym is)
        (told_left s (At ns) _ w f ns _ j at (elim (cases_eq j n) [
          | inl here ↦
              let missing : (At ns).missing n ≡ true =
              ap (At ns).missing (sym here) ∙ old.missing
              ∙ lacking_at k.components n at lacks (sym (ap (slice_get k.components) here) ∙ e) in
              leaves_as (At ns) _ j (ap (λ (b : Bool). after_all (At ns) (table.lacks_space b ((At ns).lost n) n)) missing)
          | inr other ↦ lacks_other (At ns) n j ((At ns).missing n) ((At ns).lost n) other
        ]) old);
  }

  rebuilt_one : (k : Kept) (ns : List Note) (g : Target) → Q k ns →
      Q (record k { components = slice_set k.components g.component (stands_at g) })
      (and_note k ns (Rebuilt g.component g.drive))
  rebuilt_one k ns g h =
      let kind : NoteKind = Rebuilt g.component g.drive in
      let failed : Bool = has_failed (at_number w.drives g.drive) in
      let cells : ℕ → ℕ = table.cells_made (At ns) f.kept.map f.kept.high g.component in
      let is = behind k ns (Rebuilt g.component g.drive) h.number
      ∙ rebuilt_is (At ns) (has_failed (at_number w.drives g.drive)) g.component
      (table.cells_made (At ns) f.kept.map f.kept.high g.component) in
      record {
        number = h.number;
        each = λ j to e. elim (cases_eq j g.component) [
          | inl here ↦
              let low : j < length k.components =
              subst (λ (n : ℕ). j < n) (set_length k.components g.component (stands_at g))
              (slice_get_within _ j to e) in
              let its : stands_at g ≡ to =
              same_Some (stands_at g) to (sym (get_set k.components g.component (stands_at g)
              (subst (λ (n : ℕ). n < length k.components) here low))
              ∙ sym (ap (slice_get (slice_set k.components g.component (stands_at g))) here) ∙ e) in
              subst (λ (y : Component). Told s (At (and_note k ns (Rebuilt g.component g.drive))) w f
              (and_note k ns (Rebuilt g.component g.drive)) j y) its
              (subst (λ (n : ℕ). Told s (At (and_note k ns (Rebuilt g.component g.drive))) w f
              (and_note k ns (Rebuilt g.component g.drive)) n (stands_at g)) (sym here)
              (record {
                missing = ap (λ (u : State). u.missing g.component) is ∙ rebuilt_missing (At ns) _ g.component _;
                lost = ap (λ (u : State). u.lost g.component) is ∙ rebuilt_lost (At ns) _ g.component _;
                kept = inr (record {
                  note = record { file = k.number; kind = Rebuilt g.component g.drive };
                  told = in_behind (record { file = k.number; kind = Rebuilt g.component g.drive }) ns _ (inl refl);
                  file = h.number;
                  kind = refl;
                });
              }))
          | inr other ↦
              let there : slice_get k.components j ≡ Some to =
              sym (set_other k.components g.component j (stands_at g) other) ∙ e in
              subst (λ (u : State). Told s u w f (and_note k ns (Rebuilt g.component g.drive)) j to) (sym is)
              (told_left s (At ns) _ w f ns _ j to (rebuilt_other (At ns) _ g.component j _ other) (h.each j to there))
        ];
      }

  pub told_walked : IsWalked (λ k ns. AreTold s t w f i k ns)
  told_walked = record {
    same = λ k l ns number components h. record {
      number = number ∙ h.number;
      each = λ j at e. h.each j at (ap (λ cs. slice_get cs j) (sym components) ∙ e);
    };
    silent = λ k ns kind p h. record {
      number = h.number;
      each = λ j at e.
          subst (λ (u : State). Told s u w f (and_note k ns kind) j at) (sym (behind k ns kind h.number))
          (told_left s (At ns) _ w f ns _ j at (silent_leaves (At ns) w f i kind j p) (h.each j at e));
    };
    lost = lost_more;
    full = full_more;
    rebuilt = rebuilt_one;
  }
