-- Commands to the drives, and those that are awaited.
use Rattle.std.specs.Prelude.{ℕ, Bool, true, false, not, List, [], ◌∷◌, ◌++◌, Option, Some, None, ◌+◌, ◌*◌, ◌==◌, ◌&&◌, ◌||◌, nat_lt, length, map, filter, slice_get, replicate, unwrap_or, if◌then◌else◌}
use Rattle.osd_capability.specs.declared.layout.TheConstants.{FORMAT_SHA1}
use Rattle.osd_capability.specs.declared.keys.TheConstants.{SHA1_TAG_BYTES, CHECK_BYTES}
use Rattle.osd_capability.specs.declared.keys.CapKey.{CapKey}
use Rattle.osd_capability.specs.declared.keys.CapKey.TheVariants.{One}
use Rattle.osd_capability.specs.Keys.{check_of}
use Rattle.osd_commands.specs.declared.actions.Action.{Action}
use Rattle.osd_commands.specs.declared.actions.Action.TheVariants.{Read, Write}
use Rattle.osd_commands.specs.Commands.{head}
use Rattle.client_rules.specs.declared.limits.TheConstants.{NONCES}
use Rattle.client_rules.specs.State.{Credential, Listed, Held, Awaited, Command, Capability, Ask, Store}
use Rattle.client_rules.specs.Requests.{object_of}

-- ---- credentials

-- a capability for nothing
abbrev pub no_capability : Capability
no_capability = record {
  format = FORMAT_SHA1;
  key_version = 0;
  rights = 0;
  expiry = 0;
  grant = 0;
  holder = 0;
  tag = 0;
  partition = 0;
  object = 0;
  range_start = 0;
  range_len = 0;
}

-- what stands for the credential of a component that has none; no plan asks such a component
abbrev pub no_credential : Credential
no_credential = record { drive = 0; key = One (replicate SHA1_TAG_BYTES 0); capability = no_capability }

-- that of a listed component
abbrev pub credential_in : Option Listed → Option Credential
credential_in None = None
credential_in (Some l) = l.credential

-- that of component k
unfoldable pub credential_of : Held → (k : ℕ) → Credential
credential_of h k = unwrap_or (credential_in (slice_get h.components k)) no_credential

-- ---- one command

-- READ or WRITE
abbrev pub action_of : (write : Bool) → Action
action_of false = Read
action_of true = Write

-- with the check value that the capability's key gives
unfoldable pub sealed : CapKey → Command → Command
sealed key c = record c { check = check_of key (head c ++ c.payload) }

-- for these bytes of a component, before it is sealed
abbrev pub bare : Held → (write : Bool) → Store → (nonce : ℕ) → Command
bare h write w nonce = record {
  action = action_of write;
  partition = (object_of h w.ask.component).oid_partition_id;
  object = (object_of h w.ask.component).oid_object_id;
  offset = w.ask.offset;
  length = w.ask.length;
  nonce = nonce;
  attribute = 0;
  capability = (credential_of h w.ask.component).capability;
  payload = w.bytes;
  check = replicate CHECK_BYTES 0;
}

-- as it is sent
unfoldable pub command : Held → (write : Bool) → Store → (nonce : ℕ) → Command
command h write w nonce = sealed (credential_of h w.ask.component).key (bare h write w nonce)

-- with what is kept of it
abbrev pub awaited_for : Held → (write : Bool) → Store → (nonce : ℕ) → Awaited
awaited_for h write w nonce = record {
  write = write;
  ask = w.ask;
  drive = (credential_of h w.ask.component).drive;
  command = command h write w nonce;
}

-- ---- several, with rising nonces

-- each grant has nonces of its own, which count its commands
abbrev pub nonce_at : Held → (count : ℕ) → ℕ
nonce_at h count = h.number * NONCES + count

-- in this order, behind so many
unfoldable pub numbered : Held → (write : Bool) → (count : ℕ) → List Store → List Awaited
numbered h write count [] = []
numbered h write count (w ∷ ws) = awaited_for h write w (nonce_at h (count + 1)) ∷ numbered h write (count + 1) ws

-- a READ carries nothing
abbrev pub carrying_none : List Ask → List Store
carrying_none xs = map (λ (a : Ask). record { ask = a; bytes = [] }) xs

-- READs under a grant
unfoldable pub read_commands : Held → List Ask → List Awaited
read_commands h xs = numbered h false h.count (carrying_none xs)

-- WRITEs under a grant
unfoldable pub write_commands : Held → List Store → List Awaited
write_commands h ws = numbered h true h.count ws

-- the grant once these are sent
abbrev pub counted : Held → List Awaited → Held
counted h sent = record h { count = h.count + length sent }

-- ---- what is awaited

-- a command to component k
abbrev pub is_of : (k : ℕ) → Awaited → Bool
is_of k a = a.ask.component == k

-- all but that of this nonce
unfoldable pub others : List Awaited → (nonce : ℕ) → List Awaited
others xs nonce = filter (λ (a : Awaited). not (a.command.nonce == nonce)) xs

-- those to component k
unfoldable pub of_component : (k : ℕ) → List Awaited → List Awaited
of_component k xs = filter (is_of k) xs

-- those to all others
unfoldable pub not_of : (k : ℕ) → List Awaited → List Awaited
not_of k xs = filter (λ (a : Awaited). not (is_of k a)) xs

-- by stripe, then component, then offset
unfoldable pub before : Ask → Ask → Bool
before a b =
    nat_lt a.stripe b.stripe
    || ((a.stripe == b.stripe) && (nat_lt a.component b.component
    || ((a.component == b.component) && nat_lt a.offset b.offset)))

-- a command at its place in that order
unfoldable pub placed : Awaited → List Awaited → List Awaited
placed a [] = a ∷ []
placed a (b ∷ bs) = if before a.ask b.ask then a ∷ b ∷ bs else b ∷ placed a bs

-- commands in that order
unfoldable pub in_order : List Awaited → List Awaited
in_order [] = []
in_order (a ∷ xs) = placed a (in_order xs)
