-- A move of a client: the components are as they were, where each WRITE that it newly sends has a nonce above all that the
-- machine's client had used.
-- Towards `ComponentsGoOn` (`specs/Steps.antt`).
use Rattle.std.proofs.Common.{◌≡◌, ℕ, ◌≤◌, ◌||◌, Bool, false, List, [], ◌∷◌, slice_get, Some, sym, ap, subst, ◌∙◌, arith}
use Rattle.world_history.specs.ServerNames.{File, Component}
use Rattle.world_history.specs.State.{World, at_number}
use Rattle.fence_law.specs.Words.{In}
use Rattle.fence_law.specs.State.{State, Event}
use Rattle.fence_law.specs.State.Event.{Sends}
use Rattle.fence_law.specs.Machine.{Allowed, Lawful, after, after_all}
use Rattle.fence_law.proofs.Words.{updated_read}
use Rattle.file_simulation.specs.Components.{AreComponents, object_on, has_failed}
use Rattle.relation_law.specs.DriveHearing.{SendsAbove}
use Rattle.relation_law.specs.Frames.{ServerStays}
use Rattle.relation_law.proofs.ComponentsKept.{stands_kept, place_kept}

-- ---- the nonces of the machine's clients

nonce_one : (b : State) (e : Event) → Allowed b e → (d : ℕ) → b.nonce d ≤ (after b e).nonce d
nonce_one b (Sends c k g j i v) a d = grind (arith, updated_read b.nonce c v d, a.new)
nonce_one b e a d = omega arith

-- they only rise
pub nonce_grows : (b : State) (es : List Event) → Lawful b es → (d : ℕ) → b.nonce d ≤ (after_all b es).nonce d
nonce_grows b [] l d = omega arith
nonce_grows b (e ∷ es) l d =
    let one = nonce_one b e l.0 d in
    let rest = nonce_grows (after b e) es l.1 d in
    omega (arith, one, rest)

-- ---- a move of a client

module _ (s : State) (w v : World) (f : File) (es : List Event) (l : Lawful s es) (stay : ServerStays s (after_all s es))
    (drives : v.drives ≡ w.drives) (is : AreComponents s w f) where
  abbrev t : State
  t = after_all s es

  -- so it is where each newly sent WRITE to a component that stands is above the machine's last one
  pub client_components :
      ((k : ℕ) (at : Component) → slice_get f.kept.components k ≡ Some at → s.lost k ≡ false →
      SendsAbove w v (after_all s es) k at.object) → AreComponents (after_all s es) v f
  client_components above k at there =
      place_kept s t w v f f k at (is k at there)
      (record {
        missing = ap (λ (q : ℕ → Bool). q k) stay.missing;
        lost = ap (λ (q : ℕ → Bool). q k) stay.lost;
        failed = ap (λ xs. at.missing || has_failed (at_number xs at.drive)) drives;
        nonces = λ c below.
            let old = (is k at there).nonces c below in
            let rise = nonce_grows s es l c in
            omega (arith, ap (λ (q : ℕ → ℕ → ℕ). q k c) stay.last_nonce, old, rise);
      })
      (λ lost stands. stands_kept s t w v f f k at (record {
        tag = ap (λ (q : ℕ → ℕ). q k) stay.object_tag;
        cells = λ z. ap (λ (q : ℕ → ℕ → ℕ). q k z) stay.cell;
        lanes = λ c. ap (λ (q : ℕ → ℕ → ℕ). q k c) stay.last_nonce;
        object = ap (λ xs. object_on (at_number xs at.drive) at.object) drives;
        sends = above k at there lost;
        replies = λ i n r. subst (In (i, n)) (sym stay.tag_replies) r;
        unmade = λ none un. record {
          tag = ap (λ (q : ℕ → ℕ). q k) stay.object_tag ∙ un.tag;
          cells = λ z. ap (λ (q : ℕ → ℕ → ℕ). q k z) stay.cell ∙ un.cells z;
          unready = un.unready;
          unused = stay.granted_since ∙ un.unused;
          ungranted = un.ungranted;
          due = un.due;
        };
        next = λ e. e;
      }) stands)
