-- What the machine knows behind the WRITEs that a client sends in a step.
-- Towards `SentGoesOn` (`specs/Steps.antt`).
use Rattle.std.proofs.Common.{◌≡◌, ℕ, ◌+◌, ◌≤◌, Bool, List, [], ◌∷◌, length, refl, sym, ap, inl, inr, arith}
use Rattle.server_rules.specs.Laws.{In}
use Rattle.client_rules.specs.Commands.{nonce_at, numbered, awaited_for, command, sealed}
use Rattle.world_history.specs.ClientNames.{Held, Awaited, Store}
use Rattle.fence_law.specs.State.{Grant, Write}
use Rattle.fence_law.specs.Words.{In as InRun}
use Rattle.relation_law.specs.MessagesSending.{write_sent, writes_behind, RiseFrom}

-- ---- WRITEs on the wire

pub write_stays : (writes : List Write) (c j : ℕ) (g : Grant) (xs : List Awaited) (m : Write) → InRun m writes →
    InRun m (writes_behind writes c j g xs)
unfolding writes_behind
write_stays writes c j g [] m i = i
write_stays writes c j g (a ∷ xs) m i = write_stays (write_sent c j g a ∷ writes) c j g xs m (inr i)

pub write_there : (writes : List Write) (c j : ℕ) (g : Grant) (xs : List Awaited) (a : Awaited) → In a xs →
    InRun (write_sent c j g a) (writes_behind writes c j g xs)
unfolding writes_behind
write_there writes c j g [] a i = absurd i
write_there writes c j g (x ∷ xs) a (inl e) =
    write_stays (write_sent c j g x ∷ writes) c j g xs (write_sent c j g a) (inl (ap (write_sent c j g) e))
write_there writes c j g (x ∷ xs) a (inr i) = write_there (write_sent c j g x ∷ writes) c j g xs a i

-- ---- commands with rising nonces

pub rise_lower : (n k : ℕ) (xs : List Awaited) → k ≤ n → RiseFrom n xs → RiseFrom k xs
rise_lower n k [] le r = tt
rise_lower n k (a ∷ xs) le r = (omega (arith, le, r.0), r.1)

pub numbered_rise : (h : Held) (write : Bool) (count : ℕ) (ws : List Store) →
    RiseFrom (nonce_at h count) (numbered h write count ws)
unfolding numbered command sealed
numbered_rise h write count [] = tt
numbered_rise h write count (w ∷ ws) = (omega arith, numbered_rise h write (count + 1) ws)

-- each is made of one of the Stores
pub numbered_made : (h : Held) (write : Bool) (count : ℕ) (ws : List Store) (a : Awaited) → In a (numbered h write count ws) →
    (w : Store) × (n : ℕ) × In w ws × (a ≡ awaited_for h write w n)
    × (n ≤ nonce_at h (count + length (numbered h write count ws)))
unfolding numbered
numbered_made h write count [] a i = absurd i
numbered_made h write count (w ∷ ws) a (inl e) = (w, nonce_at h (count + 1), inl refl, e, omega arith)
numbered_made h write count (w ∷ ws) a (inr i) =
    let r = numbered_made h write (count + 1) ws a i in (r.0, r.1, inr r.2, r.3, omega (arith, r.4))

-- and of each is one
pub numbered_there : (h : Held) (write : Bool) (count : ℕ) (ws : List Store) (w : Store) → In w ws →
    (a : Awaited) × In a (numbered h write count ws) × (a.ask ≡ w.ask)
unfolding numbered
numbered_there h write count [] w i = absurd i
numbered_there h write count (v ∷ ws) w (inl e) =
    (awaited_for h write v (nonce_at h (count + 1)), inl refl, ap (λ (x : Store). x.ask) (sym e))
numbered_there h write count (v ∷ ws) w (inr i) = let r = numbered_there h write (count + 1) ws w i in (r.0, inr r.1, r.2)
