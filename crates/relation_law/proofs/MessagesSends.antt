-- A command that a client awaits is found by its nonce, and with it its component.
-- Towards `EventsAreLawful` (`specs/Steps.antt`).
use Rattle.std.proofs.Common.{◌≡◌, ℕ, ◌==◌, List, [], ◌∷◌, refl, ap, ◌∙◌, inl, inr, eq-eqb, ne_eqb}
use Rattle.std.specs.Prelude.{map, find, option_map, Option, Some}
use Rattle.server_rules.specs.Laws.{In}
use Rattle.client_rules.specs.Io.{awaited_in}
use Rattle.client_rules.specs.Laws.{nonce_of}
use Rattle.client_rules.specs.Steps.{awaited_component}
use Rattle.exchange_law.specs.ClientNonces.{NoneIs, AllDiffer}
use Rattle.world_history.specs.ClientNames.{Client, Call, Awaited}

-- ---- which component

-- a command among some whose nonces differ is found by its nonce
pub found_by_nonce : (xs : List Awaited) (a : Awaited) → AllDiffer (map nonce_of xs) → In a xs →
    find (λ (b : Awaited). b.command.nonce == a.command.nonce) xs ≡ Some a
found_by_nonce [] a d i = absurd i
found_by_nonce (x ∷ xs) a d (inl e) = rw (e, eq-eqb x.command.nonce x.command.nonce refl) refl
found_by_nonce (x ∷ xs) a d (inr i) =
    rw (ne_eqb x.command.nonce a.command.nonce (none_there xs x.command.nonce a d.0 i)) (found_by_nonce xs a d.1 i)
  where
    none_there : (xs : List Awaited) (n : ℕ) (a : Awaited) → NoneIs n (map nonce_of xs) → In a xs → n ≡ a.command.nonce → ⊥
    none_there [] n a d i e = i
    none_there (x ∷ xs) n a d (inl same) e = d.0 (e ∙ ap nonce_of same)
    none_there (x ∷ xs) n a d (inr i) e = none_there xs n a d.1 i e

pub component_is : (x : Client) (o : Option Call) (call : Call) (awaited : List Awaited) (a : Awaited) → x.call ≡ Some call →
    awaited_in call.phase ≡ awaited → AllDiffer (map nonce_of awaited) → In a awaited →
    awaited_component x a.command.nonce ≡ Some a.ask.component
unfolding awaited_component
component_is x o call awaited a e w d i =
    rw (e, w) (ap (λ (f : Option Awaited). option_map (λ (b : Awaited). b.ask.component) f) (found_by_nonce awaited a d i))
