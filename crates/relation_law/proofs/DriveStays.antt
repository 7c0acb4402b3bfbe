-- A world in which all drives have the same objects, or in which one failed.
-- Towards `ComponentsGoOn` (`specs/Steps.antt`).
use Rattle.std.proofs.Common.{◌≡◌, ℕ, ◌+◌, ◌<◌, ◌==◌, ◌||◌, Bool, true, false, List, [], ◌∷◌, ◌++◌, zero, suc, slice_get, Some, IsSome, refl, sym, ap, subst, ◌∙◌, inl, inr, arith, eq-eqb}
use Rattle.std.proofs.lemmas.Bool.{cases_eq, ne_eqb}
use Rattle.osd_commands.specs.declared.commands.Command.{Command}
use Rattle.osd_objects.specs.Store.{object_at}
use Rattle.osd_objects.proofs.Entries.{lookup_set, lookup_set_beside}
use Rattle.scenario_text.specs.declared.names.TheConstants.{CLIENTS}
use Rattle.world_history.specs.ServerNames.{File, Component}
use Rattle.world_history.specs.State.{World, DriveAt, at_number, with_number}
use Rattle.exchange_law.specs.Sent.{HasSent}
use Rattle.fence_law.specs.Words.{In as InRun}
use Rattle.fence_law.specs.State.{State}
use Rattle.fence_law.specs.State.Event.{Fails}
use Rattle.fence_law.specs.Machine.{Lawful, after, after_all}
use Rattle.fence_law.proofs.Words.{updated_other, updated_at}
use Rattle.file_simulation.specs.Components.{IsComponent, AreComponents, object_on, has_failed}
use Rattle.file_simulation.specs.EventLists.{where_so}
use Rattle.file_simulation.specs.DriveEvents.{fails_from}
use Rattle.relation_law.proofs.ComponentsKept.{stands_kept, place_kept, lanes_same, LanesGo}

-- each drive has the same objects, and failed if it had; no client sent anything
pub record IsAlike (w v : World) : Type 0 where
  pub failed : (n : ℕ) → has_failed (at_number v.drives n) ≡ has_failed (at_number w.drives n)
  pub objects : (n o : ℕ) → object_on (at_number v.drives n) o ≡ object_on (at_number w.drives n) o
  pub sent : (c e : ℕ) (x : Command) → c < CLIENTS → HasSent v c e x → HasSent w c e x

-- then all components are as they were
pub alike_go : (s : State) (w v : World) (f : File) → IsAlike w v → AreComponents s w f → AreComponents s v f
alike_go s w v f k is i at there =
    place_kept s s w v f f i at (is i at there)
    (record {
      missing = refl;
      lost = refl;
      failed = ap (λ (x : Bool). at.missing || x) (k.failed at.drive);
      nonces = (is i at there).nonces;
    })
    (λ lost stands. stands_kept s s w v f f i at (record {
      tag = refl;
      cells = λ z. refl;
      lanes = λ c. refl;
      object = k.objects at.drive at.object;
      sends = λ c e x below sent write object_is. inl (k.sent c e x below sent);
      replies = λ j n r. r;
      unmade = λ none un. un;
      next = λ e. e;
    }) stands)

pub alike_lanes : (t : State) (w v : World) (f : File) → IsAlike w v → LanesGo w v t f
alike_lanes t w v f k i at there lost = lanes_same w v t i at (k.objects at.drive at.object)

-- ---- another drive in the place of one

-- one drive that has the same objects stands in its place
pub same_drive : (w v : World) (d : ℕ) (a b : DriveAt) → at_number w.drives d ≡ Some a →
    v.drives ≡ with_number w.drives d b → b.failed ≡ a.failed →
    ((o : ℕ) → object_at b.state.store o ≡ object_at a.state.store o) →
    ((c e : ℕ) (x : Command) → c < CLIENTS → HasSent v c e x → HasSent w c e x) → IsAlike w v
same_drive w v d a b there drives failed objects sent = record {
  failed = λ n. elim (cases_eq n d) [
    | inl here ↦
        ap (λ m. has_failed (at_number v.drives m)) here ∙ ap has_failed now ∙ failed ∙ sym (ap has_failed there)
        ∙ sym (ap (λ m. has_failed (at_number w.drives m)) here)
    | inr other ↦ ap has_failed (beside n other)
  ];
  objects = λ n o. elim (cases_eq n d) [
    | inl here ↦
        ap (λ m. object_on (at_number v.drives m) o) here ∙ ap (λ q. object_on q o) now ∙ objects o
        ∙ sym (ap (λ q. object_on q o) there) ∙ sym (ap (λ m. object_on (at_number w.drives m) o) here)
    | inr other ↦ ap (λ q. object_on q o) (beside n other)
  ];
  sent = sent;
}
  where
    now : at_number v.drives d ≡ Some b
    now = ap (λ xs. at_number xs d) drives ∙ lookup_set w.drives d b (subst IsSome (sym there) refl)

    beside : (n : ℕ) → (n ≡ d → ⊥) → at_number v.drives n ≡ at_number w.drives n
    beside n other = ap (λ xs. at_number xs n) drives ∙ lookup_set_beside w.drives d n b other

-- ---- a drive fails

-- a component is lost by it, or as it was
pub lost_by : (hit lost : Bool) → Bool
lost_by true lost = true
lost_by false lost = lost

-- what its failing leaves of the machine, at the components from number n on
pub record IsFallen (s t : State) (d : ℕ) (cs : List Component) (n : ℕ) : Type 0 where
  pub tags : (i : ℕ) → t.object_tag i ≡ s.object_tag i
  pub cells : (i z : ℕ) → t.cell i z ≡ s.cell i z
  pub lanes : (i c : ℕ) → t.last_nonce i c ≡ s.last_nonce i c
  pub nonce : (c : ℕ) → t.nonce c ≡ s.nonce c
  pub missing : (i : ℕ) → t.missing i ≡ s.missing i
  pub unused : t.granted_since ≡ s.granted_since
  pub replies : (i k : ℕ) → InRun (i, k) s.tag_replies → InRun (i, k) t.tag_replies
  pub others : (i : ℕ) → i < n → t.lost i ≡ s.lost i
  pub lost : (i j : ℕ) (at : Component) → j ≡ n + i → slice_get cs i ≡ Some at →
      t.lost j ≡ lost_by (at.drive == d) (s.lost j)

where_fails : State → (hit : Bool) → (n : ℕ) → State
where_fails s true n = after s (Fails n)
where_fails s false n = s

pub fails_lawful : (d : ℕ) (cs : List Component) (n : ℕ) (s : State) → Lawful s (fails_from d cs n)
unfolding fails_from
fails_lawful d [] n s = tt
fails_lawful d (at ∷ cs) n s =
    either (at.drive == d) (fails_lawful d cs (n + 1) (after s (Fails n))) (fails_lawful d cs (n + 1) s)
  where
    either : (b : Bool) → Lawful (after s (Fails n)) (fails_from d cs (n + 1)) → Lawful s (fails_from d cs (n + 1)) →
        Lawful s (where_so b (Fails n ∷ []) ++ fails_from d cs (n + 1))
    either true hit miss = (tt, hit)
    either false hit miss = miss

same_component : (a b : Component) → Some a ≡ Some b → a ≡ b
same_component a b e = cc e

-- one component more in front
more : (d : ℕ) (at : Component) (cs : List Component) (n : ℕ) (s u : State) (b : Bool) → (at.drive == d) ≡ b →
    IsFallen (where_fails s b n) u d cs (n + 1) → IsFallen s u d (at ∷ cs) n
unfolding where_fails lost_by
more d at cs n s u true hit k = record {
  tags = k.tags;
  cells = k.cells;
  lanes = k.lanes;
  nonce = k.nonce;
  missing = k.missing;
  unused = k.unused;
  replies = k.replies;
  others = λ i low.
      k.others i (omega (arith, low)) ∙ updated_other s.lost n true i (λ e. absurd (omega (arith, low, e)));
  lost = lost;
}
  where
    lost : (i j : ℕ) (y : Component) → j ≡ n + i → slice_get (at ∷ cs) i ≡ Some y → u.lost j ≡ lost_by (y.drive == d) (s.lost j)
    lost zero j y is there =
        let same = same_component at y there in
        let here : j ≡ n = omega (arith, is) in
        k.others j (omega (arith, here)) ∙ updated_at s.lost n true j here
        ∙ sym (ap (λ (q : Bool). lost_by q (s.lost j)) (sym (ap (λ (z : Component). z.drive == d) same) ∙ hit))
    lost (suc i) j y is there =
        let other : j ≡ n → ⊥ = λ e. absurd (omega (arith, is, e)) in
        k.lost i j y (omega (arith, is)) there
        ∙ ap (lost_by (y.drive == d)) (updated_other s.lost n true j other)
more d at cs n s u false miss k = record {
  tags = k.tags;
  cells = k.cells;
  lanes = k.lanes;
  nonce = k.nonce;
  missing = k.missing;
  unused = k.unused;
  replies = k.replies;
  others = λ i low. k.others i (omega (arith, low));
  lost = lost;
}
  where
    lost : (i j : ℕ) (y : Component) → j ≡ n + i → slice_get (at ∷ cs) i ≡ Some y → u.lost j ≡ lost_by (y.drive == d) (s.lost j)
    lost zero j y is there =
        let same = same_component at y there in
        let here : j ≡ n = omega (arith, is) in
        k.others j (omega (arith, here))
        ∙ sym (ap (λ (q : Bool). lost_by q (s.lost j)) (sym (ap (λ (z : Component). z.drive == d) same) ∙ miss))
    lost (suc i) j y is there = k.lost i j y (omega (arith, is)) there

pub fallen : (d : ℕ) (cs : List Component) (n : ℕ) (s : State) → IsFallen s (after_all s (fails_from d cs n)) d cs n
unfolding fails_from where_fails
fallen d [] n s = record {
  tags = λ i. refl;
  cells = λ i z. refl;
  lanes = λ i c. refl;
  nonce = λ c. refl;
  missing = λ i. refl;
  unused = refl;
  replies = λ i k r. r;
  others = λ i low. refl;
  lost = λ i j at is e. absurd (cc e);
}
fallen d (at ∷ cs) n s =
    either (at.drive == d) refl (fallen d cs (n + 1) (after s (Fails n))) (fallen d cs (n + 1) s)
  where
    either : (b : Bool) → (at.drive == d) ≡ b →
        IsFallen (after s (Fails n)) (after_all (after s (Fails n)) (fails_from d cs (n + 1))) d cs (n + 1) →
        IsFallen s (after_all s (fails_from d cs (n + 1))) d cs (n + 1) →
        IsFallen s (after_all s (where_so b (Fails n ∷ []) ++ fails_from d cs (n + 1))) d (at ∷ cs) n
    either true hit first rest = more d at cs n s _ true hit first
    either false miss first rest = more d at cs n s _ false miss rest

-- drive d, which there is, fails: so does each component on it, and all others are as they were
pub fallen_go : (s : State) (w v : World) (f : File) (d : ℕ) (a b : DriveAt) → at_number w.drives d ≡ Some a →
    v.drives ≡ with_number w.drives d b → b.failed ≡ true →
    ((c e : ℕ) (x : Command) → c < CLIENTS → HasSent v c e x → HasSent w c e x) → AreComponents s w f →
    AreComponents (after_all s (fails_from d f.kept.components 0)) v f
unfolding lost_by
fallen_go s w v f d a b there drives failed sent is i at found = record {
  missing = k.missing i ∙ c.missing;
  lost = here_lost ∙ elim (cases_eq at.drive d) [
    | inl here ↦
        ap (λ (q : Bool). lost_by q (s.lost i)) (eq-eqb at.drive d here)
        ∙ sym (ap (λ (q : Bool). at.missing || q) (ap (λ m. has_failed (at_number v.drives m)) here ∙ ap has_failed now ∙ failed)
        ∙ or_true at.missing)
    | inr other ↦
        ap (λ (q : Bool). lost_by q (s.lost i)) (ne_eqb at.drive d other) ∙ c.lost
        ∙ sym (ap (λ q. at.missing || has_failed q) (beside at.drive other))
  ];
  stands = λ e.
      let r = stands_apart at.drive e in
      stands_kept s t w v f f i at (record {
        tag = k.tags i;
        cells = k.cells i;
        lanes = k.lanes i;
        object = ap (λ q. object_on q at.object) (beside at.drive r.0);
        sends = λ e n x below sends write object_is. inl (sent e n x below sends);
        replies = k.replies;
        unmade = λ none un. record {
          tag = k.tags i ∙ un.tag;
          cells = λ z. k.cells i z ∙ un.cells z;
          unready = un.unready;
          unused = k.unused ∙ un.unused;
          ungranted = un.ungranted;
          due = un.due;
        };
        next = λ e. e;
      }) (c.stands r.1);
  nonces = λ e below. let old = c.nonces e below in omega (arith, k.lanes i e, k.nonce e, old);
}
  where
    t : State
    t = after_all s (fails_from d f.kept.components 0)

    k : IsFallen s t d f.kept.components 0
    k = fallen d f.kept.components 0 s

    c : IsComponent s w f i at
    c = is i at found

    here_lost : t.lost i ≡ lost_by (at.drive == d) (s.lost i)
    here_lost = k.lost i i at (omega arith) found

    now : at_number v.drives d ≡ Some b
    now = ap (λ xs. at_number xs d) drives ∙ lookup_set w.drives d b (subst IsSome (sym there) refl)

    beside : (n : ℕ) → (n ≡ d → ⊥) → at_number v.drives n ≡ at_number w.drives n
    beside n other = ap (λ xs. at_number xs n) drives ∙ lookup_set_beside w.drives d n b other

    or_true : (q : Bool) → (q || true) ≡ true
    or_true true = refl
    or_true false = refl

    -- one that isn't lost behind it is on another drive
    stands_apart : (n : ℕ) → t.lost i ≡ false → (at.drive ≡ d → ⊥) × (s.lost i ≡ false)
    stands_apart n e = elim (cases_eq at.drive d) [
      | inl here ↦ absurd (cc (sym (here_lost ∙ ap (λ (q : Bool). lost_by q (s.lost i)) (eq-eqb at.drive d here)) ∙ e))
      | inr other ↦
          (other, sym (here_lost ∙ ap (λ (q : Bool). lost_by q (s.lost i)) (ne_eqb at.drive d other)) ∙ e)
    ]

-- lanes of what isn't lost are as they were
pub fallen_lanes : (s : State) (w v : World) (f : File) (d : ℕ) (b : DriveAt) → v.drives ≡ with_number w.drives d b →
    LanesGo w v (after_all s (fails_from d f.kept.components 0)) f
unfolding lost_by
fallen_lanes s w v f d b drives i at found lost = elim (cases_eq at.drive d) [
  | inl here ↦
      absurd (cc (sym ((fallen d f.kept.components 0 s).lost i i at (omega arith) found
      ∙ ap (λ (q : Bool). lost_by q (s.lost i)) (eq-eqb at.drive d here)) ∙ lost))
  | inr other ↦
      lanes_same w v (after_all s (fails_from d f.kept.components 0)) i at
      (ap (λ q. object_on q at.object)
      (ap (λ xs. at_number xs at.drive) drives ∙ lookup_set_beside w.drives d at.drive b other))
]
