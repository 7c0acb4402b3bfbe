-- So it is at each moment of a history, and behind any lines.
use Rattle.std.proofs.Common.{◌≡◌, ℕ, List, [], ◌∷◌, Option, Some, None, refl, sym, subst}
use Rattle.std.specs.List.{fold}
use Rattle.server_rules.specs.Files.{file_at}
use Rattle.server_rules.specs.History.{Input, Act, step, state_after}
use Rattle.world_history.specs.Book.{ServerSeen, input_at, placed_in, step_by, server_behind, sees_server, server_at_first, server_after, live_in}
use Rattle.world_history.specs.Reading.{Step, steps_of}
use Rattle.world_history.specs.ServerNames.{Server, File}
use Rattle.history_law.specs.Parties.{AllPartiesRun}
use Rattle.history_law.proofs.JobFiles.{found_file}
use Rattle.component_law.specs.Order.{Rise, AreInOrder, GrantsAreInOrder, GrantsReadInOrder}
use Rattle.component_law.proofs.OrderSteps.{each_step_orders}

-- ---- at each moment

order_after : (s : Server) (acts : List Act) → AreInOrder s → AreInOrder (state_after s acts)
order_after s [] h = h
order_after s (a ∷ acts) h = order_after (step s a.chosen a.input).state acts (each_step_orders s a.chosen a.input h)

pub grants_are_in_order : AllPartiesRun → GrantsAreInOrder
grants_are_in_order run w reached =
    let r = (run w reached).server in
    subst AreInOrder (sym r.is) (order_after _ r.acts (λ f i. absurd i))

-- ---- behind lines

order_behind : (s : Server) (placed : List ℕ) (i : Option Input) → AreInOrder s
    → AreInOrder (server_behind s (step_by s placed i))
order_behind s placed None h = h
order_behind s placed (Some i) h = each_step_orders s placed i h

order_seen : (s : ServerSeen) (steps : List Step) → AreInOrder s.server
    → AreInOrder (fold sees_server s steps).server
order_seen s [] h = h
order_seen s (t ∷ steps) h =
    order_seen (sees_server s t) steps (order_behind s.server (placed_in t.rest) (input_at s t.head) h)

-- of a file that is found
rise_found : (s : Server) (n : ℕ) (o : Option File) → file_at s.files n ≡ o → AreInOrder s → Rise (live_in o)
rise_found s n None e h = tt
rise_found s n (Some f) e h = (h f (found_file s.files n f e).0).rise

pub grants_read_in_order : GrantsReadInOrder
grants_read_in_order h n =
    rise_found (server_after h) n (file_at (server_after h).files n) refl
    (order_seen server_at_first (steps_of h) (λ f i. absurd i))
