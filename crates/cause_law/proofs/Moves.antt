-- What each step of a client keeps, given what comes to it, each move keeps.
use Rattle.std.proofs.Common.{◌≡◌, ℕ, List, Option, Some, None, IsSome, refl, sym, ap, subst, ◌∙◌, inl, inr}
use Rattle.std.proofs.lemmas.Bool.{cases_eq}
use Rattle.osd_objects.proofs.Entries.{lookup_inserted, lookup_beside, lookup_set, lookup_set_beside}
use Rattle.client_rules.specs.Steps.{new_client}
use Rattle.client_rules.specs.History.{Input, step}
use Rattle.client_rules.specs.History as client_input
use Rattle.scenario_text.specs.declared.event.Event.TheVariants as event
use Rattle.scenario_text.specs.declared.event.Sender.TheVariants as sender
use Rattle.world_history.specs.ClientNames.{Client, CallOp}
use Rattle.world_history.specs.State.{ClientAt, World, at_number, with_number, and_number}
use Rattle.world_history.specs.Moves.{Act, Action, Opens, op_of, acts}
use Rattle.history_law.specs.Moves.{ForClient, asked_in, IsForClient, MoveCases}
use Rattle.history_law.proofs.Moves.{each_act}

abbrev pub Clients : Type 0
Clients = List (ℕ × ClientAt)

-- so it is of each client
abbrev pub AllClients : (ℕ → Client → Type 0) → Clients → Type 0
AllClients R xs = (c : ℕ) (a : ClientAt) → at_number xs c ≡ Some a → R c a.state

-- what comes to it is no call, or such a one
abbrev pub Asks : (CallOp → Type 0) → Input → Type 0
Asks I (client_input.Calls op) = I op
Asks I i = Unit {0}

-- a client is so where it is made, if it has such a number, and behind each step
pub record IsKeptGiven (N : ℕ → Type 0) (I : CallOp → Type 0) (R : ℕ → Client → Type 0) : Type 0 where
  pub made : (c : ℕ) → N c → R c (new_client c 1)
  pub steps : (c : ℕ) (x : Client) (i : Input) → R c x → Asks I i → R c (step x i).client

-- such calls and clients come by an event
abbrev pub Given : (ℕ → Type 0) → (CallOp → Type 0) → Action → Type 0
Given N I (Opens (event.Do c x)) = I (op_of x)
Given N I (Opens (event.Call c x)) = I (op_of x)
Given N I (Opens (event.Client c)) = N c
Given N I action = Unit {0}

module _ (N : ℕ → Type 0) (I : CallOp → Type 0) (R : ℕ → Client → Type 0) (k : IsKeptGiven N I R) where
  abbrev All : Clients → Type 0
  All xs = AllClients R xs

  -- ---- one client changes

  put_client : (xs : Clients) (c : ℕ) (a b : ClientAt) → All xs → at_number xs c ≡ Some a → R c b.state
      → All (with_number xs c b)
  put_client xs c a b all found now d x there = elim (cases_eq d c) [
    | inl it ↦ let here : Some x ≡ Some b =
        sym there ∙ ap (λ (j : ℕ). at_number (with_number xs c b) j) it
        ∙ lookup_set xs c b (subst IsSome (sym found) refl) in
        let same : b ≡ x = cc (sym here) in
        subst (λ (y : ClientAt). R d y.state) same (subst (λ (j : ℕ). R j b.state) (sym it) now)
    | inr other ↦ all d x (sym (lookup_set_beside xs c d b other) ∙ there)
  ]

  add_client : (xs : Clients) (c : ℕ) (b : ClientAt) → All xs → R c b.state → All (and_number xs c b)
  add_client xs c b all now d x there = elim (cases_eq d c) [
    | inl it ↦ let here : Some x ≡ Some b =
        sym there ∙ ap (λ (j : ℕ). at_number (and_number xs c b) j) it ∙ lookup_inserted xs c b in
        let same : b ≡ x = cc (sym here) in
        subst (λ (y : ClientAt). R d y.state) same (subst (λ (j : ℕ). R j b.state) (sym it) now)
    | inr other ↦ all d x (sym (lookup_beside xs c d b other) ∙ there)
  ]

  -- ---- each move

  abbrev GoesTo : Act → Type 0
  GoesTo a = All a.world.clients

  -- a call that an action asks of a client is such a one
  abbrev AsksOf : Option ForClient → Type 0
  AsksOf None = Unit {0}
  AsksOf (Some x) = Asks I x.input

  call_given : (action : Action) → Given N I action → AsksOf (asked_in action)
  call_given (Opens (event.Do n x)) g = g
  call_given (Opens (event.Call n x)) g = g
  call_given (Opens (event.Resend (sender.Client n))) g = tt
  call_given (Opens (event.Resend sender.Server)) g = tt
  call_given action g = tt

  asks_given : (w : World) (action : Action) (c : ℕ) (a : ClientAt) (i : Input) → Given N I action
      → IsForClient w action c a i → Asks I i
  asks_given w action c a (client_input.Hears from m) g is = tt
  asks_given w action c a i g is = subst AsksOf is (call_given action g)

  cases : (w : World) → All w.clients → (chosen : List ℕ) (action : Action) → Given N I action
      → MoveCases w chosen action GoesTo
  cases w all chosen action g = record {
    rests = λ ms said told quiet. all;
    refused = λ c a found op is e why. all;
    clock = λ time. all;
    serves = λ ms said i is. all;
    goes = λ ms said c a found i is.
        put_client w.clients c a _ all found (k.steps c a.state i (all c a found) (asks_given w action c a i g is));
    comes = λ c is. add_client w.clients c _ all (k.made c (subst (Given N I) is g));
    stops = λ c a found. put_client w.clients c a _ all found (all c a found);
    judged = λ ms said d a found hears m number. all;
    injected = λ d bytes is a found. all;
    turns = λ d a b found turns. all;
    known = λ d key capacity stored is knows. all;
    adds = λ d key capacity stored is knows. all;
  }

  pub acts_go : (w : World) → All w.clients → (chosen : List ℕ) (action : Action) → Given N I action
      → All (acts w chosen action).world.clients
  acts_go w all chosen action g = each_act w chosen GoesTo action (cases w all chosen action g)
