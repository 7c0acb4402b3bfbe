-- The server and each client go by their rules, over all moves.
use Rattle.std.proofs.Common.{◌≡◌, ℕ, List, [], ◌∷◌, ◌++◌, Option, Some, All, refl, sym, ap, subst, ◌∙◌}
use Rattle.std.specs.Prelude.{IfSome}
use Rattle.std.specs.Map.{values_of}
use Rattle.std.specs.BTreeMap.{is_at}
use Rattle.std.specs.Ordering.{nat_cmp}
use Rattle.std.proofs.lemmas.List.Elements.{All-nil}
use Rattle.std.proofs.lemmas.Map.Views.{All-values-set_value, All-values-insert_entry, IfSome-lookup_from_All}
use Rattle.server_rules.specs.declared.server.Server.{Server}
use Rattle.server_rules.specs.Making.{new_server}
use Rattle.server_rules.specs.History.{Act, step, state_after}
use Rattle.server_rules.specs.Laws.{AreSafe, EveryRunIsSafe}
use Rattle.client_rules.specs.declared.client.Client.{Client}
use Rattle.client_rules.specs.Steps.{new_client}
use Rattle.client_rules.specs.History as client
use Rattle.world_history.specs.State.{World, ClientAt, empty_world, at_number}
use Rattle.world_history.specs.Sending.{Move, move}
use Rattle.history_law.specs.Parties.{ServerRuns, ClientRuns, PartiesRun, AllPartiesRun}
use Rattle.history_law.specs.Grants.{GrantsAreSafe}
use Rattle.history_law.proofs.HistoryMoments.{always}
use Rattle.history_law.proofs.HistoryGoing.{Clients, Served, Rests, Steps, Called, Idles, Goes, Moved, Same, One, More, goes}

-- ---- one input more

pub server_more : (s : Server) (acts : List Act) (a : Act)
    → state_after s (acts ++ a ∷ []) ≡ (step (state_after s acts) a.chosen a.input).state
server_more s [] a = refl
server_more s (b ∷ acts) a = server_more (step s b.chosen b.input).state acts a

client_more : (c : Client) (is : List client.Input) (i : client.Input)
    → client.state_after c (is ++ i ∷ []) ≡ (client.step (client.state_after c is) i).client
client_more c [] i = refl
client_more c (j ∷ is) i = client_more (client.step c j).client is i

served : (w v : World) → Served w.server v.server → ServerRuns w → ServerRuns v
served w v (Rests same) r = record { acts = r.acts; is = same ∙ r.is }
served w v (Steps a goes) r = record {
  acts = r.acts ++ a ∷ [];
  is =
      goes ∙ ap (λ (s : Server). (step s a.chosen a.input).state) r.is
      ∙ sym (server_more (new_server []) r.acts a);
}

called : (a b : ClientAt) → Called a b → ClientRuns a → ClientRuns b
called a b (Idles same) r = record { number = r.number; inputs = r.inputs; is = same ∙ r.is }
called a b (Goes i goes) r = record {
  number = r.number;
  inputs = r.inputs ++ i ∷ [];
  is =
      goes ∙ ap (λ (c : Client). (client.step c i).client) r.is
      ∙ sym (client_more (new_client r.number 1) r.inputs i);
}

new_runs : (c : ℕ) (a : ClientAt) → a.state ≡ new_client c 1 → ClientRuns a
new_runs c a is = record { number = c; inputs = []; is = is }

found_runs : (xs : Clients) (c : ℕ) (a : ClientAt) → at_number xs c ≡ Some a → All ClientRuns (values_of xs) → ClientRuns a
found_runs xs c a found all =
    subst (λ (o : Option ClientAt). IfSome o ClientRuns) found (IfSome-lookup_from_All ClientRuns (is_at (nat_cmp c)) xs all)

moved : (xs ys : Clients) → Moved xs ys → All ClientRuns (values_of xs) → All ClientRuns (values_of ys)
moved xs ys (Same same) all = subst (λ (zs : Clients). All ClientRuns (values_of zs)) (sym same) all
moved xs ys (One c a b found went is) all =
    subst (λ (zs : Clients). All ClientRuns (values_of zs)) (sym is)
    (All-values-set_value (is_at (nat_cmp c)) ClientRuns xs b all (called a b went (found_runs xs c a found all)))
moved xs ys (More c a new is) all =
    subst (λ (zs : Clients). All ClientRuns (values_of zs)) (sym is)
    (All-values-insert_entry nat_cmp c a ClientRuns xs all (new_runs c a new))

-- ---- all moves

run_on : (w : World) (m : Move) → PartiesRun w → PartiesRun (move w m).world
run_on w m r =
    let g = goes w m in
    record {
      server = served w (move w m).world g.server r.server;
      clients = moved w.clients (move w m).world.clients g.clients r.clients;
    }

run_first : PartiesRun empty_world
run_first = record { server = record { acts = []; is = refl }; clients = All-nil ClientRuns }

pub parties_run : AllPartiesRun
parties_run w reached = always PartiesRun (record { starts = run_first; moves = run_on }) w reached

pub grants_are_safe : EveryRunIsSafe → GrantsAreSafe
grants_are_safe safe w reached =
    let r = (parties_run w reached).server in
    subst (λ (s : Server). AreSafe s.files) (sym r.is) (safe [] r.acts)
