-- Messages stay through a move, but for what becomes of them.
use Rattle.std.proofs.Common.{◌≡◌, ℕ, zero, suc, ◌++◌, ◌∷◌, [], List, Option, Some, None, option_map, slice_get, slice_set, refl, sym, ap, subst, ◌∙◌}
use Rattle.std.proofs.lemmas.Option.{slice_get-map}
use Rattle.osd_lists.proofs.Slices.{get_more}
use Rattle.world_history.specs.declared.messages.Posted.{Posted}
use Rattle.world_history.specs.declared.messages.Sent.{Sent}
use Rattle.world_history.specs.State.{World}
use Rattle.world_history.specs.Laws.{shown}
use Rattle.component_law.specs.Messages.{messages_of}

-- ---- a message that stays

-- message p is still there
pub record Stands (ps : List Posted) (k : ℕ) (p : Posted) : Type 0 where
  pub now : Posted
  pub found : slice_get ps k ≡ Some now
  pub same : now.message ≡ p.message

-- all of these are
abbrev pub Stay : (ps qs : List Posted) → Type 0
Stay ps qs = (k : ℕ) (p : Posted) → slice_get ps k ≡ Some p → Stands qs k p

pub stay_same : (ps qs : List Posted) → qs ≡ ps → Stay ps qs
stay_same ps qs e k p found = record {
  now = p;
  found = ap (λ (xs : List Posted). slice_get xs k) e ∙ found;
  same = refl;
}

pub stay_on : (ps qs rs : List Posted) → Stay ps qs → rs ≡ qs → Stay ps rs
stay_on ps qs rs h e = subst (λ (xs : List Posted). Stay ps xs) (sym e) h

-- where one is replaced by another with the same message
pub stay_set : (ps : List Posted) (n : ℕ) (p q : Posted) → slice_get ps n ≡ Some p → q.message ≡ p.message
    → Stay ps (slice_set ps n q)
stay_set [] n p q there same k x e = absurd (cc e)
stay_set (y ∷ ps) zero p q there same zero x e =
    let one : y ≡ p = cc in
    let other : y ≡ x = cc in
    record { now = q; found = refl; same = same ∙ ap (λ (z : Posted). z.message) (sym one ∙ other) }
stay_set (y ∷ ps) zero p q there same (suc k) x e = record { now = x; found = e; same = refl }
stay_set (y ∷ ps) (suc n) p q there same zero x e = record { now = x; found = e; same = refl }
stay_set (y ∷ ps) (suc n) p q there same (suc k) x e =
    let s : Stands (slice_set ps n q) k x = stay_set ps n p q there same k x e in
    record { now = s.now; found = s.found; same = s.same }

-- and behind further ones
pub stay_more : (ps qs rs : List Posted) → Stay ps qs → Stay ps (qs ++ rs)
stay_more ps qs rs h k p e =
    let s : Stands qs k p = h k p e in
    record { now = s.now; found = get_more qs rs k s.now s.found; same = s.same }

-- ---- as lines show them

pub shown_at : (w : World) (k : ℕ) (p : Posted) → slice_get w.network.messages k ≡ Some p
    → slice_get (messages_of w) k ≡ Some (shown p)
shown_at w k p e = slice_get-map shown w.network.messages k ∙ ap (option_map shown) e

-- what was shown was sent
pub record IsShown (w : World) (k : ℕ) (s : Sent) : Type 0 where
  pub posted : Posted
  pub found : slice_get w.network.messages k ≡ Some posted
  pub is : s ≡ shown posted

shown_by : (w : World) (k : ℕ) (s : Sent) (o : Option Posted) → slice_get w.network.messages k ≡ o
    → option_map shown o ≡ Some s → IsShown w k s
shown_by w k s None found e = absurd (cc e)
shown_by w k s (Some p) found e = record { posted = p; found = found; is = cc }

pub was_shown : (w : World) (k : ℕ) (s : Sent) → slice_get (messages_of w) k ≡ Some s → IsShown w k s
was_shown w k s e =
    shown_by w k s (slice_get w.network.messages k) refl (sym (slice_get-map shown w.network.messages k) ∙ e)
