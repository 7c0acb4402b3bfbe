-- What is told of the ends of calls, in any move.
use Rattle.std.specs.List.{AllByRecursion, cons_option, filter_map}
use Rattle.std.proofs.Common.{◌≡◌, ◌&&◌, ℕ, ◌+◌, ◌++◌, ◌∷◌, [], List, Bool, true, false, Option, Some, None, nat_lt}
use Rattle.server_rules.specs.History.{step as server_step}
use Rattle.client_rules.specs.History.{Input, step}
use Rattle.scenario_text.specs.declared.names.TheConstants.{FILES}
use Rattle.scenario_text.specs.declared.line.CallKind.{CallKind}
use Rattle.scenario_text.specs.declared.line.Delivery.{Delivery}
use Rattle.scenario_text.specs.declared.line.Ending.TheVariants as ending
use Rattle.scenario_text.specs.declared.line.Line.{Line}
use Rattle.scenario_text.specs.declared.line.Line.TheVariants as line
use Rattle.scenario_text.specs.declared.line.Outcome.TheVariants as outcome
use Rattle.world_history.specs.ServerNames as server_rules
use Rattle.world_history.specs.ClientNames as client_rules
use Rattle.world_history.specs.State.{ClientAt, World, at_number}
use Rattle.world_history.specs.Told.{kind_of, told_outcome}
use Rattle.world_history.specs.Names.{where_known, note_line, is_tellable, is_tellable_note, known_note_line}
use Rattle.world_history.specs.Handed.{Post, op_in, end_line, ended_by}
use Rattle.world_history.specs.Moves.{Act, Action, acts}
use Rattle.world_history.specs.Sending.{sent_lines}
use Rattle.history_law.specs.Moves.{MoveCases, AreQuiet, front_of}
use Rattle.history_law.proofs.Moves.{front_cases, each_act}
use Rattle.history_law.proofs.Goes.{for_client}
use Rattle.exchange_law.specs.Doing.{IsHeardByClient}
use Rattle.exchange_law.specs.Calls.{IsFair, EndsFair}
use Rattle.exchange_law.specs.Ends.{EndsAt}

-- ---- what is told

abbrev pub Fine : Line → Type 0
Fine l = EndsAt [] l

abbrev pub AreFine : List Line → Type 0
AreFine ls = AllByRecursion Fine ls

note_fine : (known : Bool) (n : server_rules.Note) (ls : List Line) → AreFine ls
    → AreFine (cons_option (where_known known (note_line n)) ls)
note_fine true n ls s = (tt, s)
note_fine false n ls s = s

notes_fine : (ns : List server_rules.Note) → AreFine (filter_map known_note_line ns)
notes_fine [] = tt
notes_fine (n ∷ ns) =
    note_fine (nat_lt n.file FILES && is_tellable_note n.kind) n (filter_map known_note_line ns) (notes_fine ns)

told_fine : (c : ℕ) (k : CallKind) (o : client_rules.Outcome) → IsFair o → Fine (line.Ended c (told_outcome k o))
told_fine c k (client_rules.WriteOk count) x = tt
told_fine c k (client_rules.ReadOk bytes) x = tt
told_fine c k client_rules.NoFile x = tt
told_fine c k (client_rules.HeldBy d) x = tt
told_fine c k (client_rules.Fencing component) x = tt
told_fine c k (client_rules.Degraded component) x = tt
told_fine c k client_rules.Spent x = tt
told_fine c k (client_rules.Status status detail) x = x
told_fine c k (client_rules.Refused d number detail) x = tt
told_fine c k (client_rules.Silent component) x = tt
told_fine c k (client_rules.Lost positions) x = tt
told_fine c k (client_rules.BadLayout why) x = absurd x

known_fine : (c : ℕ) (k : CallKind) (o : client_rules.Outcome) (b : Bool) → IsFair o
    → AreFine (end_line c (where_known b (told_outcome k o)))
known_fine c k o true x = (told_fine c k o x, tt)
known_fine c k o false x = tt

ended_fine : (c : ℕ) (op : Option client_rules.CallOp) (o : Option client_rules.Outcome) → EndsFair o
    → AreFine (ended_by c op o)
ended_fine c None o x = tt
ended_fine c (Some op) None x = tt
ended_fine c (Some op) (Some o) x = known_fine c (kind_of op) o (is_tellable o) x

pub sent_fine : (n : ℕ) (ps : List Post) → AreFine (sent_lines n ps)
unfolding sent_lines
sent_fine n [] = tt
sent_fine n (p ∷ ps) = (tt, sent_fine (n + 1) ps)

pub more_fine : (xs ys : List Line) → AreFine xs → AreFine ys → AreFine (xs ++ ys)
more_fine [] ys f g = g
more_fine (x ∷ xs) ys f g = (f.0, more_fine xs ys f.1 g)

-- ---- where no party goes on, and in front of what one tells

quiet_fine : (ls : List Line) → AreQuiet ls → AreFine ls
quiet_fine [] q = tt
quiet_fine (line.Ended c (outcome.Failed kind (ending.Status status detail)) ∷ ls) q = absurd q.0
quiet_fine (line.Ended c (outcome.Failed kind (ending.BadLayout why)) ∷ ls) q = absurd q.0
quiet_fine (l ∷ ls) q = (tt, quiet_fine ls q.1)

fronts_fine : (action : Action) (d : Delivery) (ls : List Line) → AreFine ls → AreFine (front_of action d ++ ls)
fronts_fine action d ls f =
    front_cases (λ (front : List Line). AreFine (front ++ ls)) f (λ number x. (tt, f)) (λ c k. (tt, f)) action d

-- ---- any action, where the steps of clients end calls fairly

module _ (w : World) (ends : (c : ℕ) (a : ClientAt) → at_number w.clients c ≡ Some a → (i : Input)
    → IsHeardByClient w c i → EndsFair (step a.state i).outcome) where
  cases : (chosen : List ℕ) (action : Action) → MoveCases w chosen action (λ (a : Act). AreFine a.told)
  cases chosen action = record {
    rests = λ ms said told quiet. quiet_fine told quiet;
    refused = λ c a found op is e why. (tt, tt);
    clock = λ time. tt;
    serves = λ ms said i is. fronts_fine action _ _ (notes_fine (server_step w.server chosen i).notes);
    goes = λ ms said c a found i is.
        fronts_fine action _ _ (ended_fine c (op_in a.state i) _ (ends c a found i (for_client w action c a i is)));
    comes = λ c is. tt;
    stops = λ c a found. tt;
    judged = λ ms said d a found hears m number. (tt, tt);
    injected = λ d bytes is a found. (tt, tt);
    turns = λ d a b found turns. tt;
    known = λ d key capacity stored is knows. tt;
    adds = λ d key capacity stored is knows. tt;
  }

  pub acts_fine : (chosen : List ℕ) (action : Action) → AreFine (acts w chosen action).told
  acts_fine chosen action = each_act w chosen (λ (a : Act). AreFine a.told) action (cases chosen action)
