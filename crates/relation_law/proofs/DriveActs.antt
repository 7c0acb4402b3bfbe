-- A drive performs a command: all components of a file are behind it as the machine has them, and its events may happen.
-- Towards `ComponentsGoOn` (`specs/Steps.antt`).
use Rattle.std.proofs.Common.{◌≡◌, ℕ, ◌+◌, ◌<◌, ◌≤◌, Bool, false, slice_get, Some, refl, sym, ap, subst, ◌∙◌, inl, inr, arith}
use Rattle.std.proofs.lemmas.Bool.{cases_eq}
use Rattle.osd_lists.proofs.Tests.{first_false}
use Rattle.osd_commands.specs.declared.commands.Command.{Command}
use Rattle.osd_objects.specs.Store.{object_at}
use Rattle.osd_drive.specs.State.{DriveState}
use Rattle.osd_drive.specs.Effects.{performed}
use Rattle.scenario_text.specs.declared.names.TheConstants.{CLIENTS}
use Rattle.world_history.specs.ServerNames.{File, Component}
use Rattle.world_history.specs.State.{World, DriveAt}
use Rattle.component_law.proofs.Within.{performed_stay_within}
use Rattle.fence_law.specs.Words.{updated, In as InRun}
use Rattle.fence_law.specs.State.{State, Write}
use Rattle.fence_law.specs.State.Event.{Performs, SetsTag, Repairs, Shows}
use Rattle.fence_law.specs.Machine.{after}
use Rattle.fence_law.proofs.Words.{updated_other, updated_at}
use Rattle.fence_law.proofs.Open.{Known}
use Rattle.file_simulation.specs.Components.{StandsAs, AreComponents, object_of}
use Rattle.relation_law.specs.DriveHearing.{IsPerformed, IsLaidOut}
use Rattle.relation_law.proofs.ComponentsKept.{stands_kept, place_kept, LanesKept, lanes_same, LanesGo}
use Rattle.relation_law.proofs.DriveFinding.{IsAt}
use Rattle.relation_law.proofs.DriveWorld.{IsBehind, lost_kept, object_kept}

-- ---- what an event on component k leaves of the others

pub record Touches (s t : State) (k : ℕ) : Type 0 where
  pub tags : (i : ℕ) → (i ≡ k → ⊥) → t.object_tag i ≡ s.object_tag i
  pub cells : (i : ℕ) → (i ≡ k → ⊥) → (z : ℕ) → t.cell i z ≡ s.cell i z
  pub lanes : (i : ℕ) → (i ≡ k → ⊥) → (c : ℕ) → t.last_nonce i c ≡ s.last_nonce i c
  pub own : (c : ℕ) → c < CLIENTS → t.last_nonce k c ≤ t.nonce c
  pub nonce : (c : ℕ) → t.nonce c ≡ s.nonce c
  pub lost : (i : ℕ) → t.lost i ≡ s.lost i
  pub missing : (i : ℕ) → t.missing i ≡ s.missing i
  pub unused : t.granted_since ≡ s.granted_since
  pub replies : (i n : ℕ) → InRun (i, n) s.tag_replies → InRun (i, n) t.tag_replies

-- an event that touches no component
pub record Rests (s t : State) : Type 0 where
  pub tags : (i : ℕ) → t.object_tag i ≡ s.object_tag i
  pub cells : (i z : ℕ) → t.cell i z ≡ s.cell i z
  pub lanes : (i c : ℕ) → t.last_nonce i c ≡ s.last_nonce i c
  pub nonce : (c : ℕ) → t.nonce c ≡ s.nonce c
  pub lost : (i : ℕ) → t.lost i ≡ s.lost i
  pub missing : (i : ℕ) → t.missing i ≡ s.missing i
  pub unused : t.granted_since ≡ s.granted_since
  pub replies : (i n : ℕ) → InRun (i, n) s.tag_replies → InRun (i, n) t.tag_replies

pub rests_same : (s : State) → Rests s s
rests_same s = record {
  tags = λ i. refl;
  cells = λ i z. refl;
  lanes = λ i c. refl;
  nonce = λ c. refl;
  lost = λ i. refl;
  missing = λ i. refl;
  unused = refl;
  replies = λ i n r. r;
}

pub rests_shows : (s : State) (j k : ℕ) → Rests s (after s (Shows j k))
rests_shows s j k = record {
  tags = λ i. refl;
  cells = λ i z. refl;
  lanes = λ i c. refl;
  nonce = λ c. refl;
  lost = λ i. refl;
  missing = λ i. refl;
  unused = refl;
  replies = λ i n r. r;
}

pub touches_performs : (s : State) (m : Write) → Known s → InRun m s.writes →
    ((c : ℕ) → c < CLIENTS → s.last_nonce m.at c ≤ s.nonce c) → Touches s (after s (Performs m)) m.at
touches_performs s m known sent own = record {
  tags = λ i other. refl;
  cells = λ i other z. ap (λ (row : ℕ → ℕ). row z) (updated_other s.cell m.at _ i other);
  lanes = λ i other c. ap (λ (row : ℕ → ℕ). row c) (updated_other s.last_nonce m.at _ i other);
  own = λ c below. subst (λ (row : ℕ → ℕ). row c ≤ s.nonce c) (sym (updated_at s.last_nonce m.at _ m.at refl))
      (elim (cases_eq c m.holder) [
        | inl same ↦
            let v : updated (s.last_nonce m.at) m.holder m.nonce c ≡ m.nonce =
            updated_at (s.last_nonce m.at) m.holder m.nonce c same in
            omega (arith, v, (known m sent).nonce, ap s.nonce same)
        | inr other ↦
            let v : updated (s.last_nonce m.at) m.holder m.nonce c ≡ s.last_nonce m.at c =
            updated_other (s.last_nonce m.at) m.holder m.nonce c other in
            let old = own c below in
            omega (arith, v, old)
      ]);
  nonce = λ c. refl;
  lost = λ i. refl;
  missing = λ i. refl;
  unused = refl;
  replies = λ i n r. r;
}

pub touches_sets : (s : State) (k : ℕ) → ((c : ℕ) → c < CLIENTS → s.last_nonce k c ≤ s.nonce c) →
    Touches s (after s (SetsTag k)) k
touches_sets s k own = record {
  tags = λ i other. updated_other s.object_tag k (s.object_tag k + 1) i other;
  cells = λ i other z. refl;
  lanes = λ i other c. refl;
  own = own;
  nonce = λ c. refl;
  lost = λ i. refl;
  missing = λ i. refl;
  unused = refl;
  replies = λ i n r. inr r;
}

pub touches_repairs : (s : State) (k : ℕ) (which : ℕ → Bool) (e : ℕ → ℕ) →
    ((c : ℕ) → c < CLIENTS → s.last_nonce k c ≤ s.nonce c) → Touches s (after s (Repairs k which e)) k
touches_repairs s k which e own = record {
  tags = λ i other. refl;
  cells = λ i other z. ap (λ (row : ℕ → ℕ). row z) (updated_other s.cell k _ i other);
  lanes = λ i other c. refl;
  own = own;
  nonce = λ c. refl;
  lost = λ i. refl;
  missing = λ i. refl;
  unused = refl;
  replies = λ i n r. r;
}

module _ (s : State) (w v : World) (f : File) (d : ℕ) (a b : DriveAt) (x : Command) (p : IsPerformed w d a x)
    (laid : IsLaidOut f) (g : IsBehind w v d a b) (becomes : b.state ≡ performed a.state x) (same : b.failed ≡ a.failed)
    (is : AreComponents s w f) where
  -- ---- components that the command isn't for

  present : (i : ℕ) (at : Component) → slice_get f.kept.components i ≡ Some at → s.lost i ≡ false → at.missing ≡ false
  present i at there lost = first_false at.missing _ (sym (is i at there).lost ∙ lost)

  -- the object of another one stays
  stays : (i : ℕ) (at : Component) → slice_get f.kept.components i ≡ Some at → s.lost i ≡ false →
      (IsAt f.kept.components d x.object i → ⊥) → object_of v at ≡ object_of w at
  stays i at there lost apart =
      object_kept w v d a b g at
      (λ here. ap (λ (q : DriveState). object_at q.store at.object) becomes
      ∙ (performed_stay_within a.state a.clock x p.clear).others at.object
      (λ e. apart (record { component = at; there = there; present = present i at there lost; drive = here; object_is = e })))

  beside : (t : State) (i : ℕ) (at : Component) → t.object_tag i ≡ s.object_tag i → ((z : ℕ) → t.cell i z ≡ s.cell i z) →
      ((c : ℕ) → t.last_nonce i c ≡ s.last_nonce i c) → t.granted_since ≡ s.granted_since →
      ((k n : ℕ) → InRun (k, n) s.tag_replies → InRun (k, n) t.tag_replies) → object_of v at ≡ object_of w at →
      StandsAs s w f i at → StandsAs t v f i at
  beside t i at tag cells lanes unused replies object stands =
      stands_kept s t w v f f i at (record {
        tag = tag;
        cells = cells;
        lanes = lanes;
        object = object;
        sends = λ c e y below sent write object_is. inl (g.sent c e y sent);
        replies = replies;
        unmade = λ none un. record {
          tag = tag ∙ un.tag;
          cells = λ z. cells z ∙ un.cells z;
          unready = un.unready;
          unused = unused ∙ un.unused;
          ungranted = un.ungranted;
          due = un.due;
        };
        next = λ e. e;
      }) stands

  -- ---- all components

  nonces : (t : State) (k i : ℕ) (at : Component) → Touches s t k → slice_get f.kept.components i ≡ Some at →
      (c : ℕ) → c < CLIENTS → t.last_nonce i c ≤ t.nonce c
  nonces t k i at touch there c below = elim (cases_eq i k) [
    | inl own ↦ subst (λ (n : ℕ). t.last_nonce n c ≤ t.nonce c) (sym own) (touch.own c below)
    | inr other ↦
        let old = (is i at there).nonces c below in
        omega (arith, touch.lanes i other c, touch.nonce c, old)
  ]

  -- where component k stands as the machine has it, and no other is one that the command is for
  pub all_go : (t : State) (k : ℕ) → Touches s t k → ((i : ℕ) → IsAt f.kept.components d x.object i → i ≡ k) →
      ((at : Component) → slice_get f.kept.components k ≡ Some at → s.lost k ≡ false → StandsAs s w f k at →
      StandsAs t v f k at) → AreComponents t v f
  all_go t k touch only own i at there =
      place_kept s t w v f f i at (is i at there)
      (record {
        missing = touch.missing i;
        lost = touch.lost i;
        failed = lost_kept w v d a b g same at;
        nonces = nonces t k i at touch there;
      })
      (λ lost stands. elim (cases_eq i k) [
        | inl here ↦
            subst (λ (n : ℕ). StandsAs t v f n at) (sym here)
            (own at (subst (λ (n : ℕ). slice_get f.kept.components n ≡ Some at) here there)
            (subst (λ (n : ℕ). s.lost n ≡ false) here lost) (subst (λ (n : ℕ). StandsAs s w f n at) here stands))
        | inr other ↦
            beside t i at (touch.tags i other) (touch.cells i other) (touch.lanes i other) touch.unused touch.replies
            (stays i at there lost (λ one. other (only i one))) stands
      ])

  -- where no component is touched, and the command is for none that stands
  pub none_go : (t : State) → Rests s t → ((i : ℕ) → s.lost i ≡ false → IsAt f.kept.components d x.object i → ⊥) →
      AreComponents t v f
  none_go t rest apart i at there =
      place_kept s t w v f f i at (is i at there)
      (record {
        missing = rest.missing i;
        lost = rest.lost i;
        failed = lost_kept w v d a b g same at;
        nonces = λ c below. let old = (is i at there).nonces c below in omega (arith, rest.lanes i c, rest.nonce c, old);
      })
      (λ lost stands.
      beside t i at (rest.tags i) (rest.cells i) (rest.lanes i) rest.unused rest.replies
      (stays i at there lost (apart i lost)) stands)

  -- where the command changes no object, none is touched at all
  pub idle_go : (t : State) → Rests s t →
      ((o : ℕ) → object_at (performed a.state x).store o ≡ object_at a.state.store o) → AreComponents t v f
  idle_go t rest idle i at there =
      place_kept s t w v f f i at (is i at there)
      (record {
        missing = rest.missing i;
        lost = rest.lost i;
        failed = lost_kept w v d a b g same at;
        nonces = λ c below. let old = (is i at there).nonces c below in omega (arith, rest.lanes i c, rest.nonce c, old);
      })
      (λ lost stands.
      beside t i at (rest.tags i) (rest.cells i) (rest.lanes i) rest.unused rest.replies
      (object_kept w v d a b g at (λ here. ap (λ (q : DriveState). object_at q.store at.object) becomes ∙ idle at.object))
      stands)

  -- ---- lanes

  -- those of component k, of which this is said, and of all others
  pub lanes_all : (t : State) (k : ℕ) → Touches s t k → ((i : ℕ) → IsAt f.kept.components d x.object i → i ≡ k) →
      ((at : Component) → slice_get f.kept.components k ≡ Some at → LanesKept w v t k at) → LanesGo w v t f
  lanes_all t k touch only own i at there lost = elim (cases_eq i k) [
    | inl here ↦
        subst (λ (n : ℕ). LanesKept w v t n at) (sym here)
        (own at (subst (λ (n : ℕ). slice_get f.kept.components n ≡ Some at) here there))
    | inr other ↦
        lanes_same w v t i at
        (stays i at there (sym (touch.lost i) ∙ lost) (λ one. other (only i one)))
  ]

  pub lanes_none : (t : State) → Rests s t → ((i : ℕ) → s.lost i ≡ false → IsAt f.kept.components d x.object i → ⊥) →
      LanesGo w v t f
  lanes_none t rest apart i at there lost =
      let here : s.lost i ≡ false = sym (rest.lost i) ∙ lost in
      lanes_same w v t i at (stays i at there here (apart i here))

  pub lanes_idle : (t : State) → ((o : ℕ) → object_at (performed a.state x).store o ≡ object_at a.state.store o) →
      LanesGo w v t f
  lanes_idle t idle i at there lost =
      lanes_same w v t i at
      (object_kept w v d a b g at (λ here. ap (λ (q : DriveState). object_at q.store at.object) becomes ∙ idle at.object))
