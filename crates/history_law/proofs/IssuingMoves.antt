-- What a move tells and sends: clients' commands are under credentials that were given to them.
use Rattle.std.proofs.Common.{◌≡◌, ℕ, ◌++◌, ◌∷◌, [], List, Some, slice_get, refl, sym, ap, ◌∙◌}
use Rattle.osd_lists.specs.declared.node.Node.{Node}
use Rattle.server_rules.specs.History.{step as server_step}
use Rattle.client_rules.specs.Envelopes.{message_in}
use Rattle.client_rules.specs.History.{Input, Hears}
use Rattle.scenario_text.specs.declared.line.Delivery.{Delivery}
use Rattle.scenario_text.specs.declared.line.Line.{Line}
use Rattle.scenario_text.specs.declared.line.Line.TheVariants as line
use Rattle.world_history.specs.declared.messages.Sent.{Sent}
use Rattle.world_history.specs.State.{ClientAt, World}
use Rattle.world_history.specs.Spelled.{spelled, party_of}
use Rattle.world_history.specs.Laws.{shown}
use Rattle.world_history.specs.Moves.{Action, acts}
use Rattle.history_law.specs.Said.{with_marks}
use Rattle.history_law.specs.Moves.{MoveCases, IsForClient, AreQuiet, front_of}
use Rattle.history_law.proofs.Moves.{front_cases, each_act}
use Rattle.history_law.proofs.DriveLines.{view, shown_get}
use Rattle.history_law.proofs.Granting.{step_own}
use Rattle.history_law.proofs.KnownSteps.{InputKnown}
use Rattle.history_law.proofs.Issuing.{MaySend, WorldKnown, AreSilent, ActKnown, notes_silent, from_server, add_client, put_client, client_went, heard_known}

-- ---- what is told

quiet_silent : (ls : List Line) → AreQuiet ls → AreSilent ls
quiet_silent [] q = tt
quiet_silent (line.Message n from to bytes ∷ ls) q = absurd q.0
quiet_silent (l ∷ ls) q = (tt, quiet_silent ls q.1)

fronts_silent : (action : Action) (d : Delivery) (ls : List Line) → AreSilent ls → AreSilent (front_of action d ++ ls)
fronts_silent action d ls s =
    front_cases (λ (front : List Line). AreSilent (front ++ ls)) s (λ number x. (tt, s)) (λ c k. (tt, s)) action d

-- ---- each move

module _ (ss : List Sent) (w : World) (k : WorldKnown ss w) (seen : view w ≡ ss) (chosen : List ℕ) (action : Action) where
  -- what a client hears was sent to it
  hears_known : (c : ℕ) (a : ClientAt) (i : Input) → IsForClient w action c a i → InputKnown (MaySend ss c) i
  hears_known c a (Hears from m) (d, sender, read, number, awake) =
      let there : slice_get ss d.number ≡ Some (shown d.posted) =
      ap (λ (xs : List Sent). slice_get xs d.number) (sym seen)
      ∙ shown_get w.network.messages d.number (Some d.posted) d.there in
      heard_known ss d.number (shown d.posted) there c from (spelled d.posted.message.body) m
      (ap party_of (sym sender)) (ap party_of d.receiver) refl
      (ap (λ (n : Node). message_in n (spelled d.posted.message.body)) sender ∙ read)
  hears_known c a i is = tt

  cases : MoveCases w chosen action (ActKnown ss)
  cases = record {
    rests = λ ms said told quiet. record {
      world = record { clients = k.clients; slots = k.slots };
      told = quiet_silent told quiet;
      posts = tt;
    };
    refused = λ c a found op is e why. record { world = k; told = (tt, tt); posts = tt };
    clock = λ time. record { world = record { clients = k.clients; slots = k.slots }; told = tt; posts = tt };
    serves = λ ms said i is.
        let t = step_own w.server chosen i k.slots in
        record {
          world = record { clients = k.clients; slots = t.slots };
          told = fronts_silent action _ _ (notes_silent (server_step w.server chosen i).notes);
          posts = from_server ss (server_step w.server chosen i).sends t.sends;
        };
    goes = λ ms said c a found i is.
        let h = client_went ss (with_marks w ms) (record { clients = k.clients; slots = k.slots }) c a i found
        (hears_known c a i is) in
        record { world = h.world; told = fronts_silent action _ _ h.told; posts = h.posts };
    comes = λ c is. record {
      world = record {
        clients = add_client ss w.clients c _ k.clients (record { helds = tt; call = tt });
        slots = k.slots;
      };
      told = tt;
      posts = tt;
    };
    stops = λ c a found. record {
      world = record { clients = put_client ss w.clients c a _ k.clients found (k.clients c a found); slots = k.slots };
      told = tt;
      posts = tt;
    };
    judged = λ ms said d a found hears m number. record {
      world = record { clients = k.clients; slots = k.slots };
      told = (tt, tt);
      posts = (tt, tt);
    };
    injected = λ d bytes is a found. record {
      world = record { clients = k.clients; slots = k.slots };
      told = (tt, tt);
      posts = tt;
    };
    turns = λ d a b found turns. record {
      world = record { clients = k.clients; slots = k.slots };
      told = tt;
      posts = tt;
    };
    known = λ d key capacity stored is knows. record {
      world = record { clients = k.clients; slots = k.slots };
      told = tt;
      posts = tt;
    };
    adds = λ d key capacity stored is knows. record {
      world = record { clients = k.clients; slots = k.slots };
      told = tt;
      posts = tt;
    };
  }

  pub acts_known : ActKnown ss (acts w chosen action)
  acts_known = each_act w chosen (ActKnown ss) action cases
