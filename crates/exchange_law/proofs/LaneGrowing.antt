-- What was sent and what is held: the nonces of what a call sends under its grant are above all that were sent to the
-- grant's objects.
use Rattle.std.proofs.Common.{◌≡◌, ◌⊎◌, ℕ, zero, suc, ◌+◌, ◌≤◌, ◌<◌, true, List, [], ◌∷◌, length, slice_get, sym, ap, subst, ◌∙◌, arith, inl, inr}
use Rattle.std.specs.Prelude.{unwrap_or}
use Rattle.std.specs.List.{range_with_len}
use Rattle.osd_drive.specs.Table.{is_mutating}
use Rattle.server_rules.specs.Laws.{In}
use Rattle.server_rules.proofs.Members.{in_map}
use Rattle.exchange_law.specs.ClientState.{Held, Awaited, Listed, Command, Phase, Starts, Needs, Waits, Reads, Probes, Gathers, Scatters, Moved}
use Rattle.client_rules.specs.Requests.{object_of, id_in}
use Rattle.client_rules.specs.Commands.{credential_in, credential_of, no_credential, nonce_at}
use Rattle.client_rules.specs.Io.{awaited_in}
use Rattle.client_rules.specs.Laws.{nonce_of, IsNumbered, NoneTo, AreApart}
use Rattle.exchange_law.specs.Sent.{IsBacked, Names}
use Rattle.exchange_law.proofs.LaneMoves.{IsOf, AreOf, PhaseFine, PhaseWell, MovedWell}

-- ---- sets of commands

-- these commands, and those that are sent besides
abbrev pub With : (Command → Type 0) → List Awaited → Command → Type 0
With S xs y = S y ⊎ ((x : Awaited) × In x xs × (x.command ≡ y))

-- of what was sent to the grant's objects no nonce is above its last
abbrev pub HeldFine : (Command → Type 0) → Held → Type 0
HeldFine S h = (k : ℕ) (y : Command) → S y → IsBacked y → Names h k y.object → y.nonce ≤ nonce_at h h.count

-- no two components have one object
abbrev pub Single : Held → Type 0
Single h = (k i object : ℕ) → Names h k object → Names h i object → k ≡ i

-- no WRITE to a command's object has a later nonce
abbrev pub IsLatest : (Command → Type 0) → Awaited → Type 0
IsLatest S x =
    (y : Command) → S y → is_mutating y.action ≡ true → IsBacked y → y.object ≡ x.command.object → y.nonce ≤ x.command.nonce

-- so it is of each WRITE of these
abbrev pub AreLatest : (Command → Type 0) → List Awaited → Type 0
AreLatest S xs = (x : Awaited) → In x xs → is_mutating x.command.action ≡ true → IsBacked x.command → IsLatest S x

-- ---- names

pub names_of : (h : Held) (x : Awaited) → IsOf h x → IsBacked x.command → Names h x.ask.component x.command.object
names_of h x o b = (λ none. b (o.capability ∙ none), sym o.object)

credential_same : (k h : Held) (i : ℕ) → k.components ≡ h.components → credential_of k i ≡ credential_of h i
unfolding credential_of
credential_same k h i e = ap (λ (ls : List Listed). unwrap_or (credential_in (slice_get ls i)) no_credential) e

object_same : (k h : Held) (i : ℕ) → k.components ≡ h.components → object_of k i ≡ object_of h i
unfolding object_of
object_same k h i e = ap (λ (ls : List Listed). id_in (slice_get ls i)) e

pub names_same : (k h : Held) (i object : ℕ) → k.components ≡ h.components → Names k i object → Names h i object
names_same k h i object e n = (
  λ none. n.0 (ap (λ c. c.capability) (credential_same k h i e) ∙ none),
  sym (ap (λ o. o.oid_object_id) (object_same k h i e)) ∙ n.1,
)

pub of_same : (k h : Held) (x : Awaited) → k.components ≡ h.components → IsOf h x → IsOf k x
of_same k h x e o = record {
  object = o.object ∙ sym (ap (λ o. o.oid_object_id) (object_same k h x.ask.component e));
  capability = o.capability ∙ sym (ap (λ c. c.capability) (credential_same k h x.ask.component e));
}

-- ---- nonces

in_range : (a n x : ℕ) → In x (range_with_len a n) → (a ≤ x) × (x < a + n)
in_range a zero x i = absurd i
in_range a (suc n) x (inl e) = (omega (arith, e), omega (arith, e))
in_range a (suc n) x (inr i) = let r = in_range (a + 1) n x i in (omega (arith, r.0), omega (arith, r.1))

at_end : (h k : Held) (n : ℕ) → k.number ≡ h.number → k.count ≡ h.count + n
    → nonce_at k k.count ≡ nonce_at h h.count + n
at_end h k n same counted = omega (arith, same, counted)

module _ (S : Command → Type 0) (h : Held) (m : Moved) (numbers : IsNumbered h m) where
  -- a new nonce is above the former last, and no greater than the new one
  pub new_nonce : (x : Awaited) → In x m.sent
      → (nonce_at h h.count < x.command.nonce) × (x.command.nonce ≤ nonce_at m.held m.held.count)
  new_nonce x i =
      let there : In x.command.nonce (range_with_len (nonce_at h h.count + 1) (length m.sent)) =
      subst (In x.command.nonce) numbers.nonces (in_map nonce_of x m.sent i) in
      let r = in_range (nonce_at h h.count + 1) (length m.sent) x.command.nonce there in
      let e = at_end h m.held (length m.sent) numbers.same numbers.counted in
      (omega (arith, r.0), omega (arith, r.1, e))

  pub moved_held : (old : List Awaited) → HeldFine S h → MovedWell h old m → HeldFine (With S m.sent) m.held
  moved_held old fine well k y (inl s) b n =
      let e = at_end h m.held (length m.sent) numbers.same numbers.counted in
      omega (arith, e, fine k y s b (names_same m.held h k y.object well.components n))
  moved_held old fine well k y (inr (x, i, e)) b n =
      let nonce : x.command.nonce ≡ y.nonce = ap (λ (c : Command). c.nonce) e in
      omega (arith, nonce, (new_nonce x i).1)

  -- ---- what is awaited then

  none_in : (n : ℕ) (xs : List Awaited) (x : Awaited) → NoneTo n xs → In x xs → x.ask.component ≡ n → ⊥
  none_in n [] x none i e = i
  none_in n (y ∷ xs) x none (inl same) e = none.0 (ap (λ (z : Awaited). z.ask.component) (sym same) ∙ e)
  none_in n (y ∷ xs) x none (inr i) e = none_in n xs x none.1 i e

  apart_same : (xs : List Awaited) (x z : Awaited) → AreApart xs → In x xs → In z xs
      → x.ask.component ≡ z.ask.component → x ≡ z
  apart_same [] x z a i j e = absurd i
  apart_same (y ∷ xs) x z a (inl e) (inl f) same = e ∙ sym f
  apart_same (y ∷ xs) x z a (inl e) (inr j) same =
      absurd (none_in y.ask.component xs z a.0 j (sym same ∙ ap (λ (v : Awaited). v.ask.component) e))
  apart_same (y ∷ xs) x z a (inr i) (inl f) same =
      absurd (none_in y.ask.component xs x a.0 i (same ∙ ap (λ (v : Awaited). v.ask.component) f))
  apart_same (y ∷ xs) x z a (inr i) (inr j) same = apart_same xs x z a.1 i j same

  -- two awaited WRITEs to one component are the same
  phase_same : (p : Phase) → PhaseFine p → (x z : Awaited) → In x (awaited_in p) → In z (awaited_in p)
      → is_mutating x.command.action ≡ true → x.ask.component ≡ z.ask.component → x ≡ z
  phase_same (Scatters io queue) f x z i j w e = apart_same io.awaited x z f i j e
  phase_same (Reads io) f x z i j w e = absurd (f x i w)
  phase_same (Probes io) f x z i j w e = absurd (f x i w)
  phase_same (Gathers io) f x z i j w e = absurd (f x i w)
  phase_same Starts f x z i j w e = absurd i
  phase_same (Needs n) f x z i j w e = absurd i
  phase_same (Waits n) f x z i j w e = absurd i

  module _ (old : List Awaited) (p : Phase) (of : AreOf h old) (well : AreOf h m.sent) (goes : PhaseWell old m.sent p)
    where
      pub all_of : AreOf h (awaited_in p)
      all_of x i = elim (goes.stays x i) [ inl j ↦ of x j | inr j ↦ well x j ]

      latest_by : (x : Awaited) → In x (awaited_in p) → is_mutating x.command.action ≡ true → IsBacked x.command → HeldFine S h
          → Single h → AreLatest S old → IsLatest (With S m.sent) x
      latest_by x i w b fine single latest y (inl s) action backed same = elim (goes.stays x i) [
        | inl j ↦ latest x j w b y s action backed same
        | inr j ↦
            let n : Names h x.ask.component y.object =
            subst (Names h x.ask.component) (sym same) (names_of h x (well x j) b) in
            omega (arith, fine x.ask.component y s backed n, (new_nonce x j).0)
      ]
      latest_by x i w b fine single latest y (inr (z, j, e)) action backed same =
          let z_writes : is_mutating z.command.action ≡ true = ap (λ (c : Command). is_mutating c.action) e ∙ action in
          let z_backed : IsBacked z.command = λ none. backed (ap (λ (c : Command). c.capability) (sym e) ∙ none) in
          let one : z.command.object ≡ x.command.object = ap (λ (c : Command). c.object) e ∙ same in
          let component : x.ask.component ≡ z.ask.component =
          single x.ask.component z.ask.component x.command.object (names_of h x (all_of x i) b)
          (subst (Names h z.ask.component) one (names_of h z (well z j) z_backed)) in
          let it : x ≡ z = phase_same p goes.fine x z i (goes.writes z j z_writes) w component in
          let nonce : x.command.nonce ≡ z.command.nonce = ap (λ (v : Awaited). v.command.nonce) it in
          let other : z.command.nonce ≡ y.nonce = ap (λ (c : Command). c.nonce) e in
          omega (arith, nonce, other)

      pub moved_latest : HeldFine S h → Single h → AreLatest S old → AreLatest (With S m.sent) (awaited_in p)
      moved_latest fine single latest x i w b = latest_by x i w b fine single latest

-- a grant whose objects are others
pub moved_other : (S : Command → Type 0) (h j : Held) (sent : List Awaited) → HeldFine S j
    → ((k i object : ℕ) → Names h k object → Names j i object → ⊥) → AreOf h sent → HeldFine (With S sent) j
moved_other S h j sent fine apart of k y (inl s) b n = fine k y s b n
moved_other S h j sent fine apart of k y (inr (x, i, e)) b n =
    let backed : IsBacked x.command = λ none. b (ap (λ (c : Command). c.capability) (sym e) ∙ none) in
    let named : Names h x.ask.component y.object =
    subst (Names h x.ask.component) (ap (λ (c : Command). c.object) e) (names_of h x (of x i) backed) in
    absurd (apart x.ask.component k y.object named n)
