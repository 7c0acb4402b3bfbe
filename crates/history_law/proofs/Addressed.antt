-- Each message of the server to a client goes to one that a line can name, in each move.
use Rattle.std.proofs.Common.{◌≡◌, ℕ, ◌∷◌, [], List, Bool, true, false, nat_lt, filter, map, refl, if◌then◌else◌}
use Rattle.osd_lists.specs.declared.node.Node.{Node}
use Rattle.osd_lists.specs.declared.node.Node.TheVariants as node
use Rattle.server_rules.specs.History as server_input
use Rattle.client_rules.specs.History as client_input
use Rattle.scenario_text.specs.declared.names.TheConstants.{CLIENTS}
use Rattle.scenario_text.specs.declared.line.Party.{Party}
use Rattle.scenario_text.specs.declared.line.Party.TheVariants as party
use Rattle.world_history.specs.State.{World}
use Rattle.world_history.specs.Names.{is_named}
use Rattle.world_history.specs.Spelled.{party_of}
use Rattle.world_history.specs.Handed.{Post, is_addressed, server_post, client_posts, wrote_in, data_in, op_in}
use Rattle.world_history.specs.Moves.{Act, Action, acts}
use Rattle.history_law.specs.Moves.{MoveCases}
use Rattle.history_law.proofs.Moves.{each_act}

-- ---- what is sent

-- where the server sends to a client, a line can name it
abbrev pub IsNamedTo : Party → Party → Type 0
IsNamedTo party.Server (party.Client c) = nat_lt c CLIENTS ≡ true
IsNamedTo from to = Unit {0}

abbrev pub AreNamedTo : List Post → Type 0
AreNamedTo [] = Unit {0}
AreNamedTo (p ∷ ps) = IsNamedTo (party_of p.message.from) (party_of p.message.to) × AreNamedTo ps

named_to : (from to : Node) → is_named to ≡ true → IsNamedTo (party_of from) (party_of to)
named_to node.Server (node.Client c) e = e
named_to node.Server (node.Drive d) e = tt
named_to node.Server node.Server e = tt
named_to (node.Client c) to e = tt
named_to (node.Drive d) to e = tt

one_addressed : (b : Bool) (p : Post) (ps : List Post) → is_named p.message.to ≡ b → AreNamedTo ps
    → AreNamedTo (if b then p ∷ ps else ps)
one_addressed true p ps e k = (named_to p.message.from p.message.to e, k)
one_addressed false p ps e k = k

-- what is addressed is
addressed : (ps : List Post) → AreNamedTo (filter is_addressed ps)
addressed [] = tt
addressed (p ∷ ps) = one_addressed (is_addressed p) p (filter is_addressed ps) refl (addressed ps)

-- ---- each action

abbrev Named : Act → Type 0
Named a = AreNamedTo a.posts

cases : (w : World) (chosen : List ℕ) (action : Action) → MoveCases w chosen action Named
cases w chosen action = record {
  rests = λ ms said told quiet. tt;
  refused = λ c a found op is e why. tt;
  clock = λ time. tt;
  serves = λ ms said i is. addressed (map server_post (server_input.step w.server chosen i).sends);
  goes = λ ms said c a found i is.
      addressed (client_posts c (wrote_in a i) (data_in (op_in a.state i)) (client_input.step a.state i).sends);
  comes = λ c is. tt;
  stops = λ c a found. tt;
  judged = λ ms said d a found hears m number. (tt, tt);
  injected = λ d bytes is a found. tt;
  turns = λ d a b found turns. tt;
  known = λ d key capacity stored is knows. tt;
  adds = λ d key capacity stored is knows. tt;
}

pub acts_to : (w : World) (chosen : List ℕ) (action : Action) → AreNamedTo (acts w chosen action).posts
acts_to w chosen action = each_act w chosen Named action (cases w chosen action)
