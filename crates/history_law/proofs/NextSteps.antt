-- The lines of a move begin a step, or are the line that a call is left pending, or there are none.
use Rattle.std.proofs.Common.{ℕ, List, [], ◌∷◌, ◌++◌, slice_get, Option, Some, None, refl}
use Rattle.scenario_text.specs.declared.line.Ending.TheVariants as ending
use Rattle.scenario_text.specs.declared.line.Outcome.TheVariants.{Failed}
use Rattle.scenario_text.specs.declared.line.Line.{Line}
use Rattle.scenario_text.specs.declared.line.Line.TheVariants as line
use Rattle.world_history.specs.ClientNames.{CallOp}
use Rattle.world_history.specs.declared.messages.Posted.{Posted}
use Rattle.client_rules.specs.History.{TimesOut as TimesOutInput}
use Rattle.world_history.specs.Handed.{pending_op, client_goes}
use Rattle.world_history.specs.Moves.{Act, Action, Opens, Delivers, TimesOut, Pends, acts, delivers, delivers_found, times_out, pends, pends_as, by_client, behind}
use Rattle.world_history.specs.Sending.{Move, sends_all, sent_lines}
use Rattle.world_history.specs.State.{World, ClientAt, at_number}
use Rattle.history_law.specs.Moments.{with_event, lines_in}
use Rattle.history_law.specs.StepEnds.{BeginNext}

-- lines that begin so still do with further ones behind them
pub begin_more : (xs ys : List Line) → BeginNext xs → BeginNext ys → BeginNext (xs ++ ys)
begin_more [] ys x y = y
begin_more (line.Ended c (Failed kind ending.Pending) ∷ xs) ys x y = tt
begin_more (l ∷ xs) ys x y = x

abbrev Begins : Act → Type 0
Begins a = BeginNext (sends_all a).lines

delivered_begins : (w : World) (chosen : List ℕ) (n : ℕ) (o : Option Posted) → Begins (delivers_found w chosen n o)
unfolding sent_lines
delivered_begins w chosen n None = tt
delivered_begins w chosen n (Some p) = refl

come_begins : (w : World) (chosen : List ℕ) (n : ℕ) → Begins (delivers w chosen n)
unfolding delivers
come_begins w chosen n = delivered_begins w chosen n (slice_get w.network.messages n)

timed_begins : (w : World) (c k : ℕ) → Begins (times_out w c k)
unfolding times_out sent_lines
timed_begins w c k = by (at_number w.clients c)
  where
    by : (o : Option ClientAt) → Begins (by_client w (λ a. behind (line.TimedOut c k) (client_goes w c a (TimesOutInput k))) o)
    by None = tt
    by (Some a) = refl

left_begins : (w : World) (c : ℕ) → Begins (pends w c)
unfolding pends sent_lines
left_begins w c = by (at_number w.clients c)
  where
    as_ : (o : Option CallOp) → Begins (pends_as w c o)
    as_ None = tt
    as_ (Some op) = tt

    by : (o : Option ClientAt) → Begins (by_client w (λ a. pends_as w c (pending_op a.state)) o)
    by None = tt
    by (Some a) = as_ (pending_op a.state)

pub move_begins : (w : World) (m : Move) → BeginNext (lines_in w m)
move_begins w m = by m.action
  where
    by : (a : Action) → BeginNext (with_event a (sends_all (acts w m.chosen a)).lines)
    by (Opens e) = refl
    by (Delivers n) = come_begins w m.chosen n
    by (TimesOut c k) = timed_begins w c k
    by (Pends c) = left_begins w c
