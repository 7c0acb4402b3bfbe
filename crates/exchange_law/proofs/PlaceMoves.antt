-- What a move sends: clients' commands are placed.
use Rattle.std.proofs.Common.{◌≡◌, ℕ, List, Some, slice_get, refl, sym, ap, subst, ◌∙◌}
use Rattle.osd_lists.specs.declared.node.Node.{Node}
use Rattle.server_rules.specs.History as server_input
use Rattle.client_rules.specs.History.{Input, Hears, step}
use Rattle.world_history.specs.declared.messages.Sent.{Sent}
use Rattle.world_history.specs.State.{ClientAt, World}
use Rattle.world_history.specs.Handed.{wrote_in, data_in, op_in}
use Rattle.world_history.specs.Spelled.{spelled, party_of}
use Rattle.world_history.specs.Moves.{Action, acts}
use Rattle.world_history.specs.Laws.{shown}
use Rattle.history_law.specs.Moves.{IsForClient, MoveCases}
use Rattle.history_law.proofs.Moves.{each_act}
use Rattle.history_law.proofs.DriveLines.{view, shown_get}
use Rattle.exchange_law.specs.PlaceAnswers.{AnswersFit}
use Rattle.exchange_law.proofs.PlaceSteps.{HeardOwn, InputOwn, step_fits}
use Rattle.exchange_law.proofs.PlaceWorlds.{ClientsFit, ActFits, from_server, from_client, put_client, add_client, heard_own}

module _ (ss : List Sent) (fit : AnswersFit ss) where
  -- what a client is handed is the server's own answer, where it is one
  own : (w : World) → view w ≡ ss → (action : Action) (c : ℕ) (a : ClientAt) (i : Input) → IsForClient w action c a i
      → InputOwn c i
  own w seen action c a (Hears from m) (d, from_is, read, number, awake) =
      let there : slice_get ss d.number ≡ Some (shown d.posted) =
      ap (λ (xs : List Sent). slice_get xs d.number) (sym seen)
      ∙ shown_get w.network.messages d.number (Some d.posted) d.there in
      subst (λ (n : Node). HeardOwn c n m) (sym from_is)
      (heard_own ss d.number (shown d.posted) there fit c d.posted.message.from (spelled d.posted.message.body) m refl
      (ap party_of d.receiver) refl read)
  own w seen action c a i is = tt

  cases : (w : World) → ClientsFit w.clients → view w ≡ ss → (chosen : List ℕ) (action : Action)
      → MoveCases w chosen action ActFits
  cases w k seen chosen action = record {
    rests = λ ms said told quiet. record { clients = k; posts = tt };
    refused = λ c a found op is e why. record { clients = k; posts = tt };
    clock = λ time. record { clients = k; posts = tt };
    serves = λ ms said i is. record {
      clients = k;
      posts = from_server (server_input.step w.server chosen i).sends;
    };
    goes = λ ms said c a found i is.
        let t = step_fits c a.state i (k c a found) (own w seen action c a i is) in
        record {
          clients = put_client w.clients c a _ k found t.client;
          posts = from_client c (wrote_in a i) (data_in (op_in a.state i)) (step a.state i).sends t.sends;
        };
    comes = λ c is. record {
      clients = add_client w.clients c _ k (record { helds = tt; call = tt });
      posts = tt;
    };
    stops = λ c a found. record { clients = put_client w.clients c a _ k found (k c a found); posts = tt };
    judged = λ ms said d a found hears m number. record { clients = k; posts = (tt, tt) };
    injected = λ d bytes is a found. record { clients = k; posts = tt };
    turns = λ d a b found turns. record { clients = k; posts = tt };
    known = λ d key capacity stored is knows. record { clients = k; posts = tt };
    adds = λ d key capacity stored is knows. record { clients = k; posts = tt };
  }

  pub acts_fit : (w : World) → ClientsFit w.clients → view w ≡ ss → (chosen : List ℕ) (action : Action)
      → ActFits (acts w chosen action)
  acts_fit w k seen chosen action = each_act w chosen ActFits action (cases w k seen chosen action)
