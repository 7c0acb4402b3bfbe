-- A note on a file and its events: the machine behind them is as the moment behind the note shows it.
use Rattle.std.proofs.Common.{◌≡◌, ◌||◌, ℕ, Bool, true, false, List, length, slice_get, Some, refl, sym, ap, subst, ◌∙◌, inl, inr}
use Rattle.std.proofs.lemmas.Bool.{true≢false, cases_eq}
use Rattle.server_rules.specs.Files.{file_at}
use Rattle.server_rules.specs.Laws.{In}
use Rattle.world_history.specs.ServerNames.{File, Component, Grant}
use Rattle.data_map.specs.declared.check.RawMap.{RawMap}
use Rattle.data_map.specs.Striping.{parities}
use Rattle.server_rules.specs.Numbers.{among}
use Rattle.world_history.specs.Stripes.{Mark, Moment, is_lost}
use Rattle.fence_law.specs.Machine.{Allowed, after}
use Rattle.fence_law.specs.State.{State, Event}
use Rattle.fence_law.specs.State.Event.{Fences, Fenced, Refenced, Repaired, Fails, Drops, Loses, Rebuilds}
use Rattle.fence_law.proofs.Accepted.{Sure}
use Rattle.fence_law.proofs.SmallFiles.{same_map}
use Rattle.fence_law.proofs.Words.{updated_at, updated_other}
use Rattle.plan_law.specs.FileLayout.{stripe_of_column}
use Rattle.file_simulation.specs.Showing.{Pairs, HasMark, IsMarked}
use Rattle.headline_law.specs.Watching.{IsBeside, CameFrom, IsSeen}
use Rattle.headline_law.proofs.CalmEvents.{PerformsNone, LosesNone, came, Came}
use Rattle.headline_law.proofs.CalmGone.{mark_stays, left_gone, parity_none}

-- ---- from one moment to the next

-- The file of the next moment is like this one, and marks of the file stay.
pub record IsOn (number : ℕ) (n o : Moment) (x y : File) : Type 0 where
  pub there : file_at o.server.files number ≡ Some y
  pub same_number : y.kept.number ≡ x.kept.number
  pub map : y.kept.map ≡ x.kept.map
  pub granted : y.kept.grants ≡ x.kept.grants
  pub long : length y.kept.components ≡ length x.kept.components
  pub beside : IsBeside n o
  pub marks : (k : Mark) → k.file ≡ number → In k n.marks → In k o.marks

beside_then : (m n o : Moment) → IsBeside m n → IsBeside n o → IsBeside m o
beside_then m n o p q = record {
  log = q.log ∙ p.log;
  failed = q.failed ∙ p.failed;
  stopped = q.stopped ∙ p.stopped;
}

pub on_same : (number : ℕ) (n : Moment) (x : File) → file_at n.server.files number ≡ Some x → IsOn number n n x x
on_same number n x there = record {
  there = there;
  same_number = refl;
  map = refl;
  granted = refl;
  long = refl;
  beside = record { log = refl; failed = refl; stopped = refl };
  marks = λ k is i. i;
}

-- ---- the machine goes on

-- no fence begins
abbrev pub FencesNone : Event → Type 0
FencesNone Fences = ⊥
FencesNone e = Unit {0}

came_on : (s t : State) (e : Event) → PerformsNone e → CameFrom s t → CameFrom s (after t e)
came_on s t e none from x d =
    let c : Came t (after t e) x d = came t e none x d in
    let p = from x c.0 in (
      p.0,
      p.1 ∙ c.1,
      c.2 ∙ ap t.start (sym c.1) ∙ p.2 ∙ ap s.start c.1,
    )

pub rests_on : (t : State) (e : Event) → FencesNone e → Allowed t e → (t.fencing ≡ false) × (t.repairing ≡ false) →
    ((after t e).fencing ≡ false) × ((after t e).repairing ≡ false)
rests_on t Fences none a h = absurd none
rests_on t Fenced none a h = absurd (true≢false (sym a.runs ∙ h.0))
rests_on t Refenced none a h = absurd (true≢false (sym a.runs ∙ h.0))
rests_on t (Repaired done e) none a h = absurd (true≢false (sym a.runs ∙ h.1))
rests_on t e none a h = h

-- what is lost behind an event that loses none was lost
pub lost_before : (t : State) (e : Event) → LosesNone e → (k : ℕ) → (after t e).lost k ≡ true → t.lost k ≡ true
lost_before t (Rebuilds j cells) none k gone = elim (cases_eq k j) [
  | inl same ↦ absurd (true≢false (sym gone ∙ updated_at t.lost j false k same))
  | inr other ↦ sym (updated_other t.lost j false k other) ∙ gone
]
lost_before t (Fails j) none k gone = absurd none
lost_before t (Drops j) none k gone = absurd none
lost_before t (Loses c j) none k gone = absurd none
lost_before t e none k gone = gone

-- the mark of an entry in a stripe of a file
abbrev pub mark_of : (number : ℕ) → RawMap → (i x : ℕ) → Mark
mark_of number r i x = record { file = number; stripe = stripe_of_column r x; entry = i }

pub marked_on : (number : ℕ) (n o : Moment) (x y : File) (i c : ℕ) → x.kept.number ≡ number → IsOn number n o x y →
    IsMarked n x i c → IsMarked o y i c
marked_on number n o x y i c is on k =
    subst (λ (a : ℕ). In (mark_of a y.kept.map i c) o.marks) (sym on.same_number)
    (subst (λ (r : RawMap). In (mark_of x.kept.number r i c) o.marks) (sym on.map)
    (on.marks (mark_of x.kept.number x.kept.map i c) is k))

module _ (s : State) (m : Moment) (f : File) (grants : List Grant) (pairs : Pairs) where
  abbrev pub At : State → Moment → Type 0
  At t n = IsSeen s m f grants pairs t n

  -- what is lost at the next moment
  abbrev pub LostAt_ : State → Moment → File → Type 0
  LostAt_ t o y =
      (k : ℕ) (at : Component) → slice_get y.kept.components k ≡ Some at → t.lost k ≡ true → is_lost o at ≡ true

  -- an event, and the next moment
  pub seen_with : (t : State) (e : Event) (n o : Moment) (y : File) → Allowed t e → Sure t → PerformsNone e → FencesNone e →
      (h : At t n) → IsOn f.kept.number n o h.file y → LostAt_ (after t e) o y → At (after t e) o
  seen_with t e n o y a sure none fences h on lost = record {
    file = y;
    there = on.there;
    number = on.same_number ∙ h.number;
    map = on.map ∙ h.map;
    granted = on.granted ∙ h.granted;
    long = on.long ∙ h.long;
    beside = beside_then m n o h.beside on.beside;
    layout = same_map t e ∙ h.layout;
    came = came_on s t e none h.came;
    lost = lost;
    marks = λ x d.
        let c : Came t (after t e) x d = came t e none x d in
        subst (λ (j : ℕ). HasMark (after t e) o y pairs j x) c.1 (elim (h.marks x c.0) [
          | inl k ↦ inl (k.0, k.1, marked_on f.kept.number n o h.file y k.0 x h.number on k.2)
          | inr gone ↦ inr (
            ap parities on.map ∙ gone.0,
            mark_stays f.kept.map f.kept.first_tag t e h.layout a sure x c.0 (ap parities (sym h.map) ∙ gone.0) gone.1,
          )
        ]);
    rests = λ p q. rests_on t e fences a (h.rests p q);
  }

  -- no event
  pub seen_on : (t : State) (n o : Moment) (y : File) → (h : At t n) → IsOn f.kept.number n o h.file y → LostAt_ t o y →
      At t o
  seen_on t n o y h on lost = record {
    file = y;
    there = on.there;
    number = on.same_number ∙ h.number;
    map = on.map ∙ h.map;
    granted = on.granted ∙ h.granted;
    long = on.long ∙ h.long;
    beside = beside_then m n o h.beside on.beside;
    layout = h.layout;
    came = h.came;
    lost = lost;
    marks = λ x d. elim (h.marks x d) [
      | inl k ↦ inl (k.0, k.1, marked_on f.kept.number n o h.file y k.0 x h.number on k.2)
      | inr gone ↦ inr (ap parities on.map ∙ gone.0, gone.1)
    ];
    rests = h.rests;
  }

  -- a repair that is over, whose marks may go
  pub seen_repaired : (t : State) (done : ℕ → Bool) (e : ℕ → ℕ) (n o : Moment) (y : File) → Allowed t (Repaired done e) →
      Sure t → Sure (after t (Repaired done e)) → (h : At t n) → file_at o.server.files f.kept.number ≡ Some y →
      y ≡ h.file → IsBeside n o → At (after t (Repaired done e)) o
  seen_repaired t done e n o y a sure behind h there same beside = record {
    file = y;
    there = there;
    number = ap (λ (x : File). x.kept.number) same ∙ h.number;
    map = ap (λ (x : File). x.kept.map) same ∙ h.map;
    granted = ap (λ (x : File). x.kept.grants) same ∙ h.granted;
    long = ap (λ (x : File). length x.kept.components) same ∙ h.long;
    beside = beside_then m n o h.beside beside;
    layout = h.layout;
    came = came_on s t (Repaired done e) tt h.came;
    lost = λ k at found gone.
        ap (λ (ds : List ℕ). at.missing || among at.drive ds) beside.failed
        ∙ h.lost k at (ap (λ (x : File). slice_get x.kept.components k) (sym same) ∙ found) gone;
    marks = λ x d.
        let g = left_gone t done e a sure behind x d in
        inr (
          ap (λ (z : File). parities z.kept.map) same ∙ ap parities h.map
              ∙ parity_none f.kept.map f.kept.first_tag t x h.layout g.1,
          g.0,
        );
    rests = λ p q. rests_on t (Repaired done e) tt a (h.rests p q);
  }

  -- an event at a moment
  pub seen_event : (t : State) (e : Event) (n : Moment) → Allowed t e → Sure t → PerformsNone e → FencesNone e →
      LosesNone e → At t n → At (after t e) n
  seen_event t e n a sure none fences loses h =
      seen_with t e n n h.file a sure none fences h (on_same f.kept.number n h.file h.there)
      (λ k at found gone. h.lost k at found (lost_before t e loses k gone))
