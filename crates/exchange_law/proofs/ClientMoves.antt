-- What each step of a client keeps, given how many messages were sent, each move keeps.
use Rattle.std.proofs.Common.{◌≡◌, ℕ, ◌+◌, Bool, List, Some, IsSome, length, map, filter, refl, sym, ap, subst, ◌∙◌, arith, inl, inr}
use Rattle.std.proofs.lemmas.Bool.{cases_eq}
use Rattle.std.proofs.lemmas.List.{length-append}
use Rattle.osd_objects.proofs.Entries.{lookup_inserted, lookup_beside, lookup_set, lookup_set_beside}
use Rattle.server_rules.specs.History.{step as server_step}
use Rattle.client_rules.specs.Messages.{Step as ClientStep}
use Rattle.client_rules.specs.Steps.{new_client}
use Rattle.client_rules.specs.History.{Input, step}
use Rattle.world_history.specs.ClientNames.{Client}
use Rattle.world_history.specs.State.{ClientAt, World, at_number, with_number, and_number, empty_world}
use Rattle.world_history.specs.Handed.{Post, is_addressed, server_post, client_posts, wrote_in, data_in, op_in}
use Rattle.world_history.specs.Moves.{Act, Action, acts}
use Rattle.world_history.specs.Sending.{Move, move, fresh}
use Rattle.history_law.specs.Moves.{MoveCases}
use Rattle.history_law.proofs.Moves.{each_act}
use Rattle.history_law.specs.HistoryMoments.{IsReached}
use Rattle.history_law.proofs.HistoryMoments.{always}
use Rattle.history_law.proofs.Counting.{acts_count, length_map}

abbrev pub Clients : Type 0
Clients = List (ℕ × ClientAt)

-- so it is of each client, behind so many messages
abbrev pub AllClients : (ℕ → Client → Type 0) → Clients → ℕ → Type 0
AllClients R xs n = (c : ℕ) (a : ClientAt) → at_number xs c ≡ Some a → R n a.state

-- what a step of a client sends, as it stands in a world
abbrev pub posted : (client : ℕ) → (wrote : Bool) → (logged : ℕ) → ClientStep → ℕ
posted c wrote logged s = length (filter is_addressed (client_posts c wrote logged s.sends))

pub record IsKeptByClients (R : ℕ → Client → Type 0) : Type 0 where
  pub more : (n k : ℕ) (c : Client) → R n c → R (n + k) c
  pub made : (n number : ℕ) → R n (new_client number 1)
  pub steps : (n : ℕ) (c : Client) (i : Input) (number : ℕ) (wrote : Bool) (logged : ℕ) → R n c
      → R (n + posted number wrote logged (step c i)) (step c i).client

-- behind an act, and what a party does
abbrev pub Goes : (ℕ → Client → Type 0) → ℕ → World → List Post → Type 0
Goes R n v ps = AllClients R v.clients (n + length ps)

module _ (R : ℕ → Client → Type 0) (k : IsKeptByClients R) (n : ℕ) (w : World) (all : AllClients R w.clients n) where
  -- ---- one client changes

  put_client : (c : ℕ) (a b : ClientAt) (m : ℕ) → at_number w.clients c ≡ Some a → R (n + m) b.state
      → AllClients R (with_number w.clients c b) (n + m)
  put_client c a b m found now d x there = elim (cases_eq d c) [
    | inl it ↦ let here : Some x ≡ Some b =
        sym there ∙ ap (λ (j : ℕ). at_number (with_number w.clients c b) j) it
        ∙ lookup_set w.clients c b (subst IsSome (sym found) refl) in
        let same : b ≡ x = cc (sym here) in
        subst (λ (y : ClientAt). R (n + m) y.state) same now
    | inr other ↦ k.more n m x.state (all d x (sym (lookup_set_beside w.clients c d b other) ∙ there))
  ]

  add_client : (c : ℕ) (b : ClientAt) → R n b.state → AllClients R (and_number w.clients c b) (n + 0)
  add_client c b now d x there = elim (cases_eq d c) [
    | inl it ↦ let here : Some x ≡ Some b =
        sym there ∙ ap (λ (j : ℕ). at_number (and_number w.clients c b) j) it ∙ lookup_inserted w.clients c b in
        let same : b ≡ x = cc (sym here) in
        k.more n 0 x.state (subst (λ (y : ClientAt). R n y.state) same now)
    | inr other ↦ k.more n 0 x.state (all d x (sym (lookup_beside w.clients c d b other) ∙ there))
  ]

  -- no client changes, and so many messages are sent
  stay : (m : ℕ) → AllClients R w.clients (n + m)
  stay m c a found = k.more n m a.state (all c a found)

  abbrev GoesTo : Act → Type 0
  GoesTo a = Goes R n a.world a.posts

  cases : (chosen : List ℕ) (action : Action) → MoveCases w chosen action GoesTo
  cases chosen action = record {
    rests = λ ms said told quiet. stay 0;
    refused = λ c a found op is e why. stay 0;
    clock = λ time. stay 0;
    serves = λ ms said i is.
        stay (length (filter is_addressed (map server_post (server_step w.server chosen i).sends)));
    goes = λ ms said c a found i is.
        put_client c a _ (posted c (wrote_in a i) (data_in (op_in a.state i)) (step a.state i)) found
        (k.steps n a.state i c (wrote_in a i) (data_in (op_in a.state i)) (all c a found));
    comes = λ c is. add_client c _ (k.made n c);
    stops = λ c a found. put_client c a _ 0 found (k.more n 0 a.state (all c a found));
    judged = λ ms said d a found hears m number. stay 1;
    injected = λ d bytes is a found. stay 0;
    turns = λ d a b found turns. stay 0;
    known = λ d key capacity stored is knows. stay 0;
    adds = λ d key capacity stored is knows. stay 0;
  }

  acts_go : (chosen : List ℕ) (action : Action) → Goes R n (acts w chosen action).world (acts w chosen action).posts
  acts_go chosen action = each_act w chosen GoesTo action (cases chosen action)

-- how many messages there are behind a move
pub longer_by : (w : World) (m : Move) → length (move w m).world.network.messages
    ≡ length w.network.messages + length (acts w m.chosen m.action).posts
longer_by w m =
    let a = acts w m.chosen m.action in
    omega (
      arith,
      (acts_count w m.chosen m.action).messages,
      length-append a.world.network.messages (map fresh a.posts),
      length_map a.posts,
    )

-- so it is of each client of a world
abbrev pub InWorld : (ℕ → Client → Type 0) → World → Type 0
InWorld R w = AllClients R w.clients (length w.network.messages)

module _ (R : ℕ → Client → Type 0) (k : IsKeptByClients R) where
  pub none_there : InWorld R empty_world
  none_there c a found = absurd (cc found)

  pub move_goes : (w : World) (m : Move) → InWorld R w → InWorld R (move w m).world
  move_goes w m all c a found =
      subst (λ (n : ℕ). R n a.state) (sym (longer_by w m))
      (acts_go R k (length w.network.messages) w all m.chosen m.action c a found)

  -- so it is of each client, at each moment
  pub clients_always : (w : World) → IsReached w → InWorld R w
  clients_always w reached = always (InWorld R) (record { starts = none_there; moves = move_goes }) w reached
