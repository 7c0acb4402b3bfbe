-- A component that a step leaves as it is, or of which it changes only what its object is.
-- Towards `ComponentsGoOn` (`specs/Steps.antt`).
use Rattle.std.proofs.Common.{◌≡◌, ◌⊎◌, ℕ, ◌+◌, ◌<◌, ◌≤◌, false, slice_get, Option, Some, None, refl, sym, ap, subst, ◌∙◌, inl, inr, arith}
use Rattle.osd_objects.specs.declared.lanes.LaneEntry.{LaneEntry}
use Rattle.osd_objects.specs.declared.object.StoredObject.{StoredObject}
use Rattle.osd_objects.specs.Store.{lane_or_none}
use Rattle.scenario_text.specs.declared.names.TheConstants.{CLIENTS}
use Rattle.world_history.specs.ServerNames.{File, Component}
use Rattle.world_history.specs.State.{World}
use Rattle.fence_law.specs.State.{State}
use Rattle.fence_law.specs.Words.{In as InRun}
use Rattle.file_simulation.specs.Components.{IsUnmade, ObjectIs, LaneIs, StandsAs, IsComponent, is_lost_in, object_of}
use Rattle.relation_law.specs.DriveHearing.{SendsAbove}

-- nothing of a component that stands is changed but what the network has
pub record KeepsObject (s t : State) (w v : World) (f g : File) (k : ℕ) (at : Component) : Type 0 where
  pub tag : t.object_tag k ≡ s.object_tag k
  pub cells : (z : ℕ) → t.cell k z ≡ s.cell k z
  pub lanes : (c : ℕ) → t.last_nonce k c ≡ s.last_nonce k c
  pub object : object_of v at ≡ object_of w at
  pub sends : SendsAbove w v t k at.object
  pub replies : (i n : ℕ) → InRun (i, n) s.tag_replies → InRun (i, n) t.tag_replies
  pub unmade : object_of w at ≡ None → IsUnmade s f k at → IsUnmade t g k at
  pub next : s.object_tag k ≡ g.kept.tag + 1 → s.object_tag k ≡ f.kept.tag + 1

keeps_made : (s t : State) (w v : World) (f g : File) (k : ℕ) (at : Component) → KeepsObject s t w v f g k at →
    (o : Option StoredObject) → object_of w at ≡ o → ObjectIs s f k at o → ObjectIs t g k at o
keeps_made s t w v f g k at keeps None e is = keeps.unmade e is
keeps_made s t w v f g k at keeps (Some o) e is = record {
  tag = keeps.tag ∙ is.tag;
  cells = λ z. keeps.cells z ∙ is.cells z;
}

keeps_lane : (s t : State) (w v : World) (k c object : ℕ) → c < CLIENTS → t.last_nonce k c ≡ s.last_nonce k c →
    SendsAbove w v t k object → (l : Option LaneEntry) → LaneIs w s k c object l → LaneIs v t k c object l
keeps_lane s t w v k c object below same sends None is =
    λ d x sent write object_is. elim (sends c d x below sent write object_is) [
      | inl old ↦ let low = is d x old write object_is in omega (arith, same, low)
      | inr high ↦ high
    ]
keeps_lane s t w v k c object below same sends (Some l) is = same ∙ is

-- it stands behind the step as before
pub stands_kept : (s t : State) (w v : World) (f g : File) (k : ℕ) (at : Component) → KeepsObject s t w v f g k at →
    StandsAs s w f k at → StandsAs t v g k at
stands_kept s t w v f g k at keeps is = record {
  object = subst (ObjectIs t g k at) (sym keeps.object) (keeps_made s t w v f g k at keeps (object_of w at) refl is.object);
  lane = λ c below. subst (λ (o : Option StoredObject). LaneIs v t k c at.object (lane_or_none o c)) (sym keeps.object)
      (keeps_lane s t w v k c at.object below (keeps.lanes c) keeps.sends (lane_or_none (object_of w at) c) (is.lane c below));
  raised = λ e.
      let same : s.object_tag k ≡ g.kept.tag + 1 = sym keeps.tag ∙ e in
      let before = keeps.next same in
      let tags : f.kept.tag + 1 ≡ g.kept.tag + 1 = sym before ∙ same in
      keeps.replies k (g.kept.tag + 1) (subst (λ (n : ℕ). InRun (k, n) s.tag_replies) tags (is.raised before));
}

-- what is lost and missing stays, and nonces stay in order
pub record KeepsPlace (s t : State) (w v : World) (k : ℕ) (at : Component) : Type 0 where
  pub missing : t.missing k ≡ s.missing k
  pub lost : t.lost k ≡ s.lost k
  pub failed : is_lost_in v at ≡ is_lost_in w at
  pub nonces : (c : ℕ) → c < CLIENTS → t.last_nonce k c ≤ t.nonce c

-- a component whose place is kept
pub place_kept : (s t : State) (w v : World) (f g : File) (k : ℕ) (at : Component) → IsComponent s w f k at →
    KeepsPlace s t w v k at → (s.lost k ≡ false → StandsAs s w f k at → StandsAs t v g k at) → IsComponent t v g k at
place_kept s t w v f g k at is keeps stands = record {
  missing = keeps.missing ∙ is.missing;
  lost = keeps.lost ∙ is.lost ∙ sym keeps.failed;
  stands = λ e. let here : s.lost k ≡ false = sym keeps.lost ∙ e in stands here (is.stands here);
  nonces = keeps.nonces;
}

-- ---- lanes and replies

-- each client's lane of a component was there before, or the machine has its reply
abbrev pub LanesKept : (w v : World) (t : State) (k : ℕ) → Component → Type 0
LanesKept w v t k at =
    (c : ℕ) (l : LaneEntry) → c < CLIENTS → lane_or_none (object_of v at) c ≡ Some l →
    (lane_or_none (object_of w at) c ≡ Some l) ⊎ InRun (record { holder = c; nonce = l.nonce; at = k }) t.replies

-- so it is where the object is the same
pub lanes_same : (w v : World) (t : State) (k : ℕ) (at : Component) → object_of v at ≡ object_of w at →
    LanesKept w v t k at
lanes_same w v t k at same c l below e =
    inl (ap (λ (o : Option StoredObject). lane_or_none o c) (sym same) ∙ e)

-- so it is of all components that stand behind some events
abbrev pub LanesGo : (w v : World) (t : State) → File → Type 0
LanesGo w v t f =
    (k : ℕ) (at : Component) → slice_get f.kept.components k ≡ Some at → t.lost k ≡ false → LanesKept w v t k at
