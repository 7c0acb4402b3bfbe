-- A move of a client shows the entries of a file, up to any of its lines, as its turn is tied to them.
-- Towards `CutsShowEntries` (`specs/Parts.antt`).
use Rattle.std.proofs.Common.{◌≡◌, ◌||◌, ◌+◌, ℕ, zero, suc, Bool, List, [], ◌∷◌, ◌++◌, take, Option, Some, None, refl, sym, ap, ◌∙◌}
use Rattle.scenario_text.specs.declared.event.Call.{Call as ToldCall}
use Rattle.scenario_text.specs.declared.event.Call.TheVariants as told
use Rattle.scenario_text.specs.declared.event.Event.TheVariants as scenario
use Rattle.scenario_text.specs.declared.line.Outcome.{Outcome as ToldOutcome}
use Rattle.scenario_text.specs.declared.line.Line.{Line}
use Rattle.scenario_text.specs.declared.line.Line.TheVariants as line
use Rattle.client_rules.specs.History.{Input, Calls, Hears, TimesOut, Leaves, Resends}
use Rattle.world_history.specs.ClientNames as client_rules
use Rattle.world_history.specs.ClientNames.{Call, CallOp, Outcome, Outgoing}
use Rattle.world_history.specs.Handed.{client_posts, ended_by, end_line, is_write_out}
use Rattle.world_history.specs.Moves.{op_of}
use Rattle.world_history.specs.Names.{known_outcome}
use Rattle.world_history.specs.ReadLog.{Pending, Log, log_after, called, called_beside}
use Rattle.world_history.specs.Sending.{sent_lines}
use Rattle.world_history.specs.State.{at_number}
use Rattle.world_history.specs.Told.{kind_of}
use Rattle.fence_law.specs.State.{State}
use Rattle.file_simulation.specs.Showing.{Pairs}
use Rattle.headline_law.proofs.EntriesCalls.{Stands, AreNamed}
use Rattle.headline_law.proofs.EntriesNamed.{IsWell, after_well}
use Rattle.headline_law.proofs.EntriesRead.{NoneTaken}
use Rattle.headline_law.proofs.EntriesMove.{HeadIs, Calling, Nothing}

-- ---- no answer of the server is among the lines

pub none_more : (xs ys : List Line) → NoneTaken xs → NoneTaken ys → NoneTaken (xs ++ ys)
none_more [] ys a b = b
none_more (x ∷ xs) ys a b = (a.0, none_more xs ys a.1 b)

pub none_front : (n : ℕ) (xs : List Line) → NoneTaken xs → NoneTaken (take n xs)
none_front zero xs a = tt
none_front (suc n) [] a = tt
none_front (suc n) (x ∷ xs) a = (a.0, none_front n xs a.1)

pub none_end : (c : ℕ) (op : Option CallOp) (u : Option Outcome) → NoneTaken (ended_by c op u)
none_end c None u = tt
none_end c (Some op) None = tt
none_end c (Some op) (Some u) = at_ (known_outcome (kind_of op) u)
  where
    at_ : (o : Option ToldOutcome) → NoneTaken (end_line c o)
    at_ None = tt
    at_ (Some o) = (refl, tt)

pub none_sent : (c number : ℕ) (wrote : Bool) (logged : ℕ) (os : List Outgoing) →
    NoneTaken (sent_lines number (client_posts c wrote logged os))
unfolding sent_lines
none_sent c number wrote logged [] = tt
none_sent c number wrote logged (o ∷ os) = (refl, none_sent c (number + 1) (wrote || is_write_out o) logged os)

-- ---- the head

called_stands : (file c : ℕ) (s : State) (l : Log) (pairs : Pairs) (x : ToldCall) → AreNamed (called l c x) →
    Stands file s l pairs → Stands file s (called l c x) pairs
called_stands file c s l pairs x named k = by (at_number l.pending c) named
  where
    by : (o : Option Pending) → AreNamed (called_beside l c x o) → Stands file s (called_beside l c x o) pairs
    by None named = record { paired = k.paired; single = k.single; named = named; untold = k.untold }
    by (Some p) named = k

-- the call of the lines, by that of the rules
abbrev pub told_of : CallOp → ToldCall
told_of (client_rules.Write file offset bytes) = told.Write file offset bytes
told_of (client_rules.Read file offset count) = told.Read file offset count

told_back : (x : ToldCall) → told_of (op_of x) ≡ x
told_back (told.Write f offset bytes) = refl
told_back (told.Read f offset count) = refl

pub op_back : (op : CallOp) → op_of (told_of op) ≡ op
op_back (client_rules.Write f offset bytes) = refl
op_back (client_rules.Read f offset count) = refl

-- the log behind the first line, by what comes to client c
abbrev pub head_log : (c : ℕ) → Input → Log → Log
head_log c (Calls op) l = called l c (told_of op)
head_log c i l = l

pub head_is : (c : ℕ) (i : Input) (l : Log) (y : Line) → HeadIs c i y → log_after l y ≡ head_log c i l
head_is c i l y (Calling x is logs) =
    logs l ∙ ap (called l c) (sym (told_back x)) ∙ sym (ap (λ (j : Input). head_log c j l) is)
head_is c i l y (Nothing other logs) = logs l ∙ sym (by i other)
  where
    by : (j : Input) → ((op : CallOp) → j ≡ Calls op → ⊥) → head_log c j l ≡ l
    by (Calls op) other = absurd (other op refl)
    by (Hears from m) other = refl
    by (TimesOut k) other = refl
    by Leaves other = refl
    by Resends other = refl

pub head_stands : (file c : ℕ) (i : Input) (s : State) (l : Log) (pairs : Pairs) → AreNamed
    (head_log c i l) → Stands file s l pairs →
    Stands file s (head_log c i l) pairs
head_stands file c (Calls op) s l pairs named k = called_stands file c s l pairs (told_of op) named k
head_stands file c (Hears from m) s l pairs named k = k
head_stands file c (TimesOut n) s l pairs named k = k
head_stands file c Leaves s l pairs named k = k
head_stands file c Resends s l pairs named k = k

pub called_well : (c : ℕ) (i : Input) (l : Log) → IsWell l → IsWell (head_log c i l)
called_well c (Calls op) l k = after_well l (line.Event (scenario.Call c (told_of op))) k
called_well c (Hears from m) l k = k
called_well c (TimesOut n) l k = k
called_well c Leaves l k = k
called_well c Resends l k = k
