-- Commands that are numbered one after the other.
use Rattle.std.proofs.Common.{◌≡◌, ℕ, ◌+◌, ◌++◌, Bool, List, [], ◌∷◌, sym, append-nil}
use Rattle.client_rules.specs.Commands.{awaited_for, nonce_at, numbered}
use Rattle.call_commands.specs.State.{Awaited, Held, Store}
use Rattle.call_commands.proofs.Lists.{snoc}

-- one more
pub one_numbered : (h : Held) (write : Bool) (count : ℕ) (w : Store) (ws : List Store) (sent : List Awaited) (a : Awaited) →
    a ≡ awaited_for h write w (nonce_at h (count + 1)) →
    (sent ++ a ∷ []) ++ numbered h write (count + 1) ws ≡ sent ++ numbered h write count (w ∷ ws)
unfolding numbered
one_numbered h write count w ws sent a e =
    rw e (snoc sent (awaited_for h write w (nonce_at h (count + 1))) (numbered h write (count + 1) ws))

-- no more
pub none_left : (h : Held) (write : Bool) (count : ℕ) (ws : List Store) (sent : List Awaited) → ws ≡ [] →
    sent ≡ sent ++ numbered h write count ws
unfolding numbered
none_left h write count ws sent e = rw e (sym (append-nil sent))
