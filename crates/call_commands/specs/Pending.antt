-- Commands whose replies are awaited, by their nonces.
use Rattle.std.specs.Prelude.{◌≡◌, ℕ, Bool, ◌==◌, ◌&&◌, nat_lt, List, [], ◌∷◌, Option, Some, None, if◌then◌else◌}
use Rattle.std.specs.List.{AllByRecursion}
use Rattle.call_commands.specs.State.{Awaited, TimedOut}
use Rattle.client_rules.specs.Commands.{is_of, before, others}
use Rattle.client_rules.specs.Io.{first_of}
use Rattle.client_rules.specs.Steps.{lowest_with}

-- each stands at its nonce
abbrev pub AreKeyed : List (ℕ × Awaited) → Type 0
AreKeyed es = AllByRecursion (λ (e : ℕ × Awaited). e.1.command.nonce ≡ e.0) es

-- a reply with this nonce from this drive answers the command
abbrev pub answering : (drive nonce : ℕ) → Awaited → Bool
answering drive nonce a = (a.command.nonce == nonce) && (a.drive == drive)

-- what is left once that command, if there is one, is answered
abbrev pub left_by : List Awaited → Option Awaited → List Awaited
left_by xs None = xs
left_by xs (Some a) = others xs a.command.nonce

-- a command as that of a component that timed out
abbrev pub as_timed : Awaited → TimedOut
as_timed a = record { write = a.write; ask = a.ask }

-- that one, or the former one, which stays unless it comes behind
abbrev pub sooner : Option TimedOut → Awaited → TimedOut
sooner None a = as_timed a
sooner (Some t) a = if before a.ask t.ask then as_timed a else t

-- if it is to component k
abbrev pub nearer : Option TimedOut → Awaited → (k : ℕ) → Option TimedOut
nearer t a k = if is_of k a then Some (sooner t a) else t

-- the first command to component k, by stripe, component and offset, of a former one and these
unfoldable pub first_by : Option TimedOut → (k : ℕ) → List Awaited → Option TimedOut
first_by t k [] = t
first_by t k (a ∷ xs) = first_by (nearer t a k) k xs

-- the first of some commands, none of none
abbrev pub first_among : List Awaited → Option TimedOut
first_among [] = None
first_among (a ∷ xs) = Some (first_of a xs)

-- the lower of two components
abbrev pub lower : Option ℕ → (k : ℕ) → ℕ
lower None k = k
lower (Some j) k = if nat_lt k j then k else j

-- that of a former one and these
unfoldable pub lowest_by : Option ℕ → List Awaited → Option ℕ
lowest_by j [] = j
lowest_by j (a ∷ xs) = lowest_by (Some (lower j a.ask.component)) xs

-- the lowest of these, none of none
abbrev pub lowest_among : List Awaited → Option ℕ
lowest_among [] = None
lowest_among (a ∷ xs) = Some (lowest_with a.ask.component xs)
