-- The WRITEs that a client sends in a step, one after another, as events of the machine of the call's file.
use Rattle.std.specs.Prelude.{ℕ, ◌<◌, List, [], ◌∷◌}
use Rattle.world_history.specs.ClientNames.{Awaited}
use Rattle.fence_law.specs.State.{State, Grant, Write, PartState}
use Rattle.fence_law.specs.State.PartState.{Sent}
use Rattle.fence_law.specs.Words.{updated}

-- ---- what they change

-- the client's last nonce
unfoldable pub nonce_behind : (ℕ → ℕ) → (c : ℕ) → List Awaited → ℕ → ℕ
nonce_behind nonce c [] = nonce
nonce_behind nonce c (a ∷ xs) = nonce_behind (updated nonce c a.command.nonce) c xs

-- what it knows of its parts
unfoldable pub out_behind : (ℕ → ℕ → ℕ → PartState) → (c : ℕ) → List Awaited → ℕ → ℕ → ℕ → PartState
out_behind out c [] = out
out_behind out c (a ∷ xs) =
    out_behind
    (updated out c (updated (out c) a.ask.component (updated (out c a.ask.component) a.ask.offset (Sent a.command.nonce)))) c
    xs

-- a WRITE of the machine
abbrev pub write_sent : (c j : ℕ) → Grant → Awaited → Write
write_sent c j g a = record {
  holder = c;
  grant = g.number;
  tag = g.tag;
  nonce = a.command.nonce;
  at = a.ask.component;
  entry = j;
  part = a.ask.offset;
}

-- the WRITEs on the wire, newest first
unfoldable pub writes_behind : List Write → (c j : ℕ) → Grant → List Awaited → List Write
writes_behind writes c j g [] = writes
writes_behind writes c j g (a ∷ xs) = writes_behind (write_sent c j g a ∷ writes) c j g xs

-- the machine behind them
abbrev pub sent_behind : State → (c j : ℕ) → Grant → List Awaited → State
sent_behind s c j g xs = record s {
  nonce = nonce_behind s.nonce c xs;
  out = out_behind s.out c xs;
  writes = writes_behind s.writes c j g xs;
}

-- ---- when they may be sent

-- their nonces rise above a number
abbrev pub RiseFrom : (n : ℕ) → List Awaited → Type 0
RiseFrom n [] = Unit {0}
RiseFrom n (a ∷ xs) = (n < a.command.nonce) × RiseFrom a.command.nonce xs
