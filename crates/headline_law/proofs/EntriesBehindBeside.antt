-- The lines of a move of a client leave the pending calls of other clients.
-- Towards `CutsKeepEntries` (`specs/EntriesTied.antt`).
use Rattle.std.proofs.Common.{◌≡◌, ◌||◌, ◌+◌, ℕ, Bool, false, List, [], ◌∷◌, ◌++◌, filter, length, Option, Some, None, Result, Ok, Err, refl, sym, ap, subst, ◌∙◌, append_assoc}
use Rattle.std.specs.List.{fold}
use Rattle.osd_objects.proofs.Entries.{lookup_beside}
use Rattle.component_law.proofs.Lists.{removed_beside}
use Rattle.osd_commands.specs.declared.actions.Action.{Action as Doing}
use Rattle.osd_commands.specs.declared.actions.Action.TheVariants as action
use Rattle.osd_commands.specs.declared.commands.Command.{Command}
use Rattle.osd_commands.specs.declared.commands.CommandErr.{CommandErr}
use Rattle.osd_commands.specs.Commands as commands
use Rattle.file_log.specs.declared.entry.Entry.{Entry}
use Rattle.file_log.specs.declared.entry.Entry.TheVariants as entry
use Rattle.scenario_text.specs.declared.event.Call.{Call as ToldCall}
use Rattle.scenario_text.specs.declared.event.Call.TheVariants as call
use Rattle.scenario_text.specs.declared.line.Delivery.TheVariants as delivery
use Rattle.scenario_text.specs.declared.line.Ending.TheVariants as ending
use Rattle.scenario_text.specs.declared.line.Outcome.{Outcome as ToldOutcome}
use Rattle.scenario_text.specs.declared.line.Outcome.TheVariants as outcome
use Rattle.scenario_text.specs.declared.line.Refusal.{Refusal}
use Rattle.scenario_text.specs.declared.line.Refusal.TheVariants as refusal
use Rattle.scenario_text.specs.declared.line.Line.{Line}
use Rattle.scenario_text.specs.declared.line.Line.TheVariants as line
use Rattle.scenario_text.specs.declared.line.Party.{Party}
use Rattle.scenario_text.specs.declared.line.Party.TheVariants as party
use Rattle.client_rules.specs.History.{Input, step}
use Rattle.world_history.specs.ClientNames.{CallOp, Outcome, Outgoing}
use Rattle.world_history.specs.Handed.{Post, is_addressed, is_write_out, client_posts, ended_by, end_line, op_in}
use Rattle.world_history.specs.Moves.{acts}
use Rattle.world_history.specs.Names.{known_outcome}
use Rattle.world_history.specs.ReadLog.{Pending, Log, log_after, called_beside, begins_beside, sends_write, sends_read, sends_command, sends_in, sends_as}
use Rattle.world_history.specs.Sending.{Move, sent_lines}
use Rattle.world_history.specs.State.{World, at_number, without_number}
use Rattle.world_history.specs.Told.{told_refusal, kind_of}
use Rattle.history_law.specs.Moments.{with_event, lines_in}
use Rattle.history_law.specs.Moves.{front_of}
use Rattle.file_simulation.specs.ClientEvents.{Going, going_in}
use Rattle.file_simulation.specs.Events.{led_by}
use Rattle.headline_law.proofs.EntriesActs.{ActsSo, Turns, Refuses, acts_so}
use Rattle.headline_law.proofs.EntriesMove.{HeadIs, Calling, Nothing, Shaped, OneLine, TwoLines, shaped}

-- ---- lines

-- it leaves the pending calls of clients other than c
abbrev pub IsFor : (c : ℕ) → Line → Type 0
IsFor c y = (q : Log) (d : ℕ) → (d ≡ c → ⊥) → at_number (log_after q y).pending d ≡ at_number q.pending d

abbrev pub AllFor : (c : ℕ) → List Line → Type 0
AllFor c [] = Unit {0}
AllFor c (y ∷ ys) = IsFor c y × AllFor c ys

pub all_for : (c : ℕ) (ys : List Line) → AllFor c ys → (q : Log) (d : ℕ) → (d ≡ c → ⊥) →
    at_number (fold log_after q ys).pending d ≡ at_number q.pending d
all_for c [] k q d other = refl
all_for c (y ∷ ys) k q d other = all_for c ys k.1 (log_after q y) d other ∙ k.0 q d other

both_for : (c : ℕ) (xs ys : List Line) → AllFor c xs → AllFor c ys → AllFor c (xs ++ ys)
both_for c [] ys a b = b
both_for c (x ∷ xs) ys a b = (a.0, both_for c xs ys a.1 b)

-- a call begins
called_for : (c : ℕ) (x : ToldCall) (q : Log) (o : Option Pending) (d : ℕ) → (d ≡ c → ⊥) →
    at_number (called_beside q c x o).pending d ≡ at_number q.pending d
called_for c x q None d other = lookup_beside q.pending c d (record { call = x; entry = None }) other
called_for c x q (Some p) d other = refl

head_for : (c : ℕ) (i : Input) (y : Line) → HeadIs c i y → IsFor c y
head_for c i y (Calling x is logs) q d other =
    ap (λ (l : Log). at_number l.pending d) (logs q) ∙ called_for c x q (at_number q.pending c) d other
head_for c i y (Nothing none logs) q d other = ap (λ (l : Log). at_number l.pending d) (logs q)

-- a call is over
gone_for : (c : ℕ) (q : Log) (d : ℕ) → (d ≡ c → ⊥) → at_number (without_number q.pending c) d ≡ at_number q.pending d
gone_for c q d other = removed_beside q.pending c d other

refused_for : (c : ℕ) (why : Refusal) → IsFor c (line.Refused c why)
refused_for c refusal.Busy q d other = refl
refused_for c why q d other = gone_for c q d other

ended_for : (c : ℕ) (o : ToldOutcome) → IsFor c (line.Ended c o)
ended_for c (outcome.Failed kind ending.Pending) q d other = refl
ended_for c o q d other = gone_for c q d other

end_for : (c : ℕ) (o : Option ToldOutcome) → AllFor c (end_line c o)
end_for c None = tt
end_for c (Some o) = (ended_for c o, tt)

pub told_for : (c : ℕ) (op : Option CallOp) (u : Option Outcome) → AllFor c (ended_by c op u)
told_for c None u = tt
told_for c (Some op) None = tt
told_for c (Some op) (Some u) = end_for c (known_outcome (kind_of op) u)

-- a message goes out
begins_for : (l : Log) (c : ℕ) (p : Pending) (f g : ℕ) (e : Entry) (o : Option ℕ) (d : ℕ) → (d ≡ c → ⊥) →
    at_number (begins_beside l c p f g e o).pending d ≡ at_number l.pending d
begins_for l c p f g e None d other = lookup_beside l.pending c d (record p { entry = Some (length l.entries) }) other
begins_for l c p f g e (Some n) d other = refl

write_for : (l : Log) (number c : ℕ) (p : Pending) (x : Command) (y : ToldCall) (d : ℕ) → (d ≡ c → ⊥) →
    at_number (sends_write l number c p x y).pending d ≡ at_number l.pending d
write_for l number c p x (call.Write f offset bytes) d other =
    begins_for l c p f x.capability.grant (entry.Write offset bytes false) p.entry d other
write_for l number c p x (call.Read f offset count) d other = refl

read_for : (l : Log) (c : ℕ) (p : Pending) (x : Command) (y : ToldCall) (d : ℕ) → (d ≡ c → ⊥) →
    at_number (sends_read l c p x y).pending d ≡ at_number l.pending d
read_for l c p x (call.Write f offset bytes) d other = refl
read_for l c p x (call.Read f offset count) d other =
    begins_for l c p f x.capability.grant (entry.Read offset count None) p.entry d other

command_for : (l : Log) (number c : ℕ) (p : Pending) (x : Command) (a : Doing) (d : ℕ) → (d ≡ c → ⊥) →
    at_number (sends_command l number c p x a).pending d ≡ at_number l.pending d
command_for l number c p x action.Write d other = write_for l number c p x p.call d other
command_for l number c p x action.Read d other = read_for l c p x p.call d other
command_for l number c p x a d other = refl

in_for : (l : Log) (number c : ℕ) (x : Command) (o : Option Pending) (d : ℕ) → (d ≡ c → ⊥) →
    at_number (sends_in l number c x o).pending d ≡ at_number l.pending d
in_for l number c x None d other = refl
in_for l number c x (Some p) d other = command_for l number c p x x.action d other

as_for : (l : Log) (number c : ℕ) (r : Result Command CommandErr) (d : ℕ) → (d ≡ c → ⊥) →
    at_number (sends_as l number c r).pending d ≡ at_number l.pending d
as_for l number c (Ok x) d other = in_for l number c x (at_number l.pending c) d other
as_for l number c (Err e) d other = refl

message_for : (c number : ℕ) (to : Party) (bytes : List ℕ) → IsFor c (line.Message number (party.Client c) to bytes)
message_for c number (party.Drive n) bytes q d other = as_for q number c (commands.reading bytes) d other
message_for c number to bytes q d other = refl

pub sent_for : (c number : ℕ) (wrote : Bool) (logged : ℕ) (os : List Outgoing) →
    AllFor c (sent_lines number (client_posts c wrote logged os))
unfolding sent_lines
sent_for c number wrote logged [] = tt
sent_for c number wrote logged (o ∷ os) =
    (message_for c number _ _, sent_for c (number + 1) (wrote || is_write_out o) logged os)

-- ---- a move

module _ (w : World) (m : Move) (j : Going) (goes : going_in w m.action ≡ Some j) where
  -- behind its first lines
  behind_head : (rest : List Line) → AllFor j.client rest →
      AllFor j.client (with_event m.action (front_of m.action delivery.Taken ++ rest))
  behind_head rest all = by (shaped w j rest [] [] m.action goes)
    where
      by : Shaped j.client j.input rest [] [] (with_event m.action (front_of m.action delivery.Taken ++ rest))
          (led_by m.action ([] ∷ [])) → AllFor j.client (with_event m.action (front_of m.action delivery.Taken ++ rest))
      by (OneLine y h lines events) = subst (AllFor j.client) (sym lines) (head_for j.client j.input y h, all)
      by (TwoLines y z first h lines events) =
          subst (AllFor j.client) (sym lines)
          (λ q d other. ap (λ (l : Log). at_number l.pending d) (first q), (head_for j.client j.input z h, all))

  abbrev number : ℕ
  number = length (acts w m.chosen m.action).world.network.messages

  -- Its lines leave the pending calls of others.
  pub move_for : ((wrote : Bool) (logged : ℕ) →
      filter is_addressed (client_posts j.client wrote logged (step j.state j.input).sends)
      ≡ client_posts j.client wrote logged (step j.state j.input).sends) → AllFor j.client (lines_in w m)
  unfolding sent_lines
  move_for out = by (acts_so w m.chosen m.action j goes)
    where
      by : ActsSo m.action j (acts w m.chosen m.action) → AllFor j.client (lines_in w m)
      by (Turns other taken wrote logged told posts) =
          let ends : List Line = ended_by j.client (op_in j.state j.input) (step j.state j.input).outcome in
          let sent : List Line = sent_lines number (client_posts j.client wrote logged (step j.state j.input).sends) in
          let lines : lines_in w m ≡ with_event m.action (front_of m.action delivery.Taken ++ (ends ++ sent)) =
          ap (λ (ls : List Line). with_event m.action (ls ++ sent_lines number (acts w m.chosen m.action).posts)) told
          ∙ ap (λ (ps : List Post). with_event m.action ((front_of m.action delivery.Taken ++ ends) ++ sent_lines number ps))
          (posts ∙ out wrote logged)
          ∙ ap (with_event m.action) (append_assoc (front_of m.action delivery.Taken) ends sent) in
          subst (AllFor j.client) (sym lines)
          (behind_head (ends ++ sent)
          (both_for j.client ends sent (told_for j.client (op_in j.state j.input) (step j.state j.input).outcome)
          (sent_for j.client number wrote logged (step j.state j.input).sends)))
      by (Refuses op err is refuses front told posts) =
          let one : List Line = line.Refused j.client (told_refusal err) ∷ [] in
          let lines : lines_in w m ≡ with_event m.action (front_of m.action delivery.Taken ++ one) =
          ap (λ (ls : List Line). with_event m.action (ls ++ sent_lines number (acts w m.chosen m.action).posts)) told
          ∙ ap (λ (ps : List Post). with_event m.action (one ++ sent_lines number ps)) posts
          ∙ ap (λ (ls : List Line). with_event m.action (ls ++ one)) (sym front) in
          subst (AllFor j.client) (sym lines) (behind_head one (refused_for j.client (told_refusal err), tt))
