-- The lines of a step of the server leave the log as it is.
-- Towards `CutsShowEntries` (`specs/Parts.antt`).
use Rattle.std.proofs.Common.{◌≡◌, ◌+◌, ◌++◌, ◌&&◌, nat_lt, ℕ, zero, suc, Bool, true, false, List, [], ◌∷◌, filter, map, take, length, slice_get, Option, Some, None, Result, Ok, Err, refl, ap, ◌∙◌, if◌then◌else◌}
use Rattle.std.specs.List.{filter_map, cons_option, fold}
use Rattle.osd_lists.specs.declared.node.Node.{Node}
use Rattle.osd_lists.specs.declared.node.Node.TheVariants as node
use Rattle.server_rules.specs.Files.{Step as ServerStep}
use Rattle.server_rules.specs.History.{Input, step, Hears, Adds, Crashes, Zones, Formats, Obeys, Opens as ServerOpens}
use Rattle.server_rules.specs.Messages as server_messages
use Rattle.server_rules.specs.Making.{create_file}
use Rattle.scenario_text.specs.declared.event.Event.{Event}
use Rattle.scenario_text.specs.declared.event.Event.TheVariants as event
use Rattle.scenario_text.specs.declared.event.Machine.TheVariants as machine
use Rattle.scenario_text.specs.declared.line.Line.{Line}
use Rattle.scenario_text.specs.declared.line.Line.TheVariants as line
use Rattle.scenario_text.specs.declared.names.TheConstants.{FILES}
use Rattle.world_history.specs.declared.messages.Posted.{Posted}
use Rattle.world_history.specs.ServerNames as server_rules
use Rattle.world_history.specs.ServerNames.{Note, Outgoing, Refusal, RawMap}
use Rattle.world_history.specs.State.{World, with_down, and_drive}
use Rattle.world_history.specs.Names.{known_note_line, note_line, is_tellable_note, where_known}
use Rattle.world_history.specs.Handed.{is_addressed, server_post, server_did, quiet, server_takes, for_server, handed_to}
use Rattle.world_history.specs.Drives.{made_drive}
use Rattle.world_history.specs.Told.{told_file_refusal}
use Rattle.scenario_text.specs.declared.line.MapFault.TheVariants as map_fault
use Rattle.scenario_text.specs.declared.line.Note.TheVariants as note
use Rattle.world_history.specs.Moves.{Act, Action, Opens, Delivers, TimesOut, Pends, acts, begins, delivers, delivers_found, made_file, makes, gives, marked, has_algorithm, knows_drive, adds_drive, raw_of, known_drive, acted, told_delivered, tells, changed}
use Rattle.world_history.specs.Sending.{Move, sends_all, sent_lines}
use Rattle.world_history.specs.ReadLog.{Log, log_after}
use Rattle.scenario_text.specs.declared.line.Delivery.TheVariants as delivery
use Rattle.history_law.specs.Moments.{with_event, lines_in}
use Rattle.history_law.specs.Doing.{input_in, brought, brought_to, heard_of}

-- ---- lines

-- each of them leaves the log
abbrev pub AllKeep : List Line → Type 0
AllKeep [] = Unit {0}
AllKeep (y ∷ ys) = ((q : Log) → log_after q y ≡ q) × AllKeep ys

pub keep_all : (ys : List Line) → AllKeep ys → (q : Log) → fold log_after q ys ≡ q
keep_all [] all q = refl
keep_all (y ∷ ys) all q = ap (λ (p : Log). fold log_after p ys) (all.0 q) ∙ keep_all ys all.1 q

pub front_keeps : (n : ℕ) (ys : List Line) → AllKeep ys → AllKeep (take n ys)
front_keeps zero ys all = tt
front_keeps (suc n) [] all = tt
front_keeps (suc n) (y ∷ ys) all = (all.0, front_keeps n ys all.1)

both_keep : (xs ys : List Line) → AllKeep xs → AllKeep ys → AllKeep (xs ++ ys)
both_keep [] ys a b = b
both_keep (x ∷ xs) ys a b = (a.0, both_keep xs ys a.1 b)

notes_keep : (ns : List Note) → AllKeep (filter_map known_note_line ns)
notes_keep [] = tt
notes_keep (n ∷ ns) = by (nat_lt n.file FILES && is_tellable_note n.kind) (notes_keep ns)
  where
    by : (b : Bool) → AllKeep (filter_map known_note_line ns) →
        AllKeep (cons_option (where_known b (note_line n)) (filter_map known_note_line ns))
    by true rest = (λ q. refl, rest)
    by false rest = rest

posts_keep : (os : List Outgoing) (n : ℕ) → AllKeep (sent_lines n (filter is_addressed (map server_post os)))
unfolding sent_lines
posts_keep [] n = tt
posts_keep (o ∷ os) n = by (λ j. posts_keep os j) (is_addressed (server_post o))
  where
    by : ((j : ℕ) → AllKeep (sent_lines j (filter is_addressed (map server_post os)))) → (b : Bool) →
        AllKeep (sent_lines n (if b then server_post o ∷ filter is_addressed (map server_post os)
        else filter is_addressed (map server_post os)))
    by rest false = rest n
    by rest true = (λ q. refl, rest (n + 1))

-- ---- acts

-- all that an act tells and sends leaves the log
abbrev ActKeeps : Act → Type 0
ActKeeps a = (n : ℕ) → AllKeep (a.told ++ sent_lines n a.posts)

did_keeps : (v : World) (did : ServerStep) → ActKeeps (acted (server_did v did))
did_keeps v did n =
    both_keep (filter_map known_note_line did.notes) (sent_lines n (filter is_addressed (map server_post did.sends)))
    (notes_keep did.notes) (posts_keep did.sends n)

gives_keep : (v : World) (ds : List ℕ) (j : Input) → ActKeeps (gives v ds j)
unfolding gives
gives_keep v ds j = did_keeps v (step v.server ds j)

one_keeps : (l : Line) → ((q : Log) → log_after q l ≡ q) → (n : ℕ) → AllKeep ((l ∷ []) ++ sent_lines n [])
unfolding sent_lines
one_keeps l k n = (k, tt)

module _ (w : World) (chosen : List ℕ) where
  made_keeps : (f : ℕ) (r : Result ServerStep Refusal) → ActKeeps (made_file w f r)
  made_keeps f (Ok did) = did_keeps w did
  made_keeps f (Err e) = one_keeps (line.Note f (told_file_refusal e)) (λ q. refl)

  makes_keep : (f : ℕ) (m : RawMap) (tag : ℕ) (zoned : Bool) → ActKeeps (makes w chosen f m tag zoned)
  unfolding makes
  makes_keep f m tag zoned = by (has_algorithm m)
    where
      by : (b : Bool) → ActKeeps (if b then made_file w f (create_file w.server f m tag zoned chosen)
          else tells w (line.Note f (note.BadMap map_fault.Width)))
      by true = made_keeps f (create_file w.server f m tag zoned chosen)
      by false = one_keeps (line.Note f (note.BadMap map_fault.Width)) (λ q. refl)

  adds_keep : (d : ℕ) (key : List ℕ) (capacity : ℕ) (stored : Bool) (i : Input) →
      (if knows_drive w.server d then None else Some (Adds (known_drive d key capacity))) ≡ Some i →
      ActKeeps (adds_drive w d key capacity stored)
  adds_keep d key capacity stored i is = by (knows_drive w.server d) is
    where
      by : (b : Bool) → (if b then None else Some (Adds (known_drive d key capacity))) ≡ Some i →
          ActKeeps (if b then changed (and_drive w d (made_drive d key capacity stored))
          else gives (and_drive w d (made_drive d key capacity stored)) [] (Adds (known_drive d key capacity)))
      by true e = absurd (cc e)
      by false e = gives_keep (and_drive w d (made_drive d key capacity stored)) [] (Adds (known_drive d key capacity))

  -- ---- a message to the server

  takes_keep : (v : World) (number : ℕ) (from : Node) (o : Option server_messages.Message) (i : Input) →
      heard_of w.clock from o ≡ Some i → ActKeeps (told_delivered number (server_takes v chosen from o))
  takes_keep v number from None i is = absurd (cc is)
  takes_keep v number from (Some m) i is =
      λ n. (λ q. refl, did_keeps v (step v.server chosen (Hears v.clock from m)) n)

  to_keep : (number : ℕ) (p : Posted) (to : Node) (i : Input) → brought_to w p.message to ≡ Some i →
      ActKeeps (told_delivered number (handed_to (marked w number p) chosen p.message to))
  to_keep number p (node.Drive d) i is = absurd (cc is)
  to_keep number p (node.Client c) i is = absurd (cc is)
  to_keep number p node.Server i is = either w.down is
    where
      either : (b : Bool) → (if b then None else heard_of w.clock p.message.from (for_server p.message)) ≡ Some i →
          ActKeeps (told_delivered number (if b then quiet (marked w number p) delivery.Deaf
          else server_takes (marked w number p) chosen p.message.from (for_server p.message)))
      either true e = absurd (cc e)
      either false e = takes_keep (marked w number p) number p.message.from (for_server p.message) i e

  found_keep : (number : ℕ) (o : Option Posted) (i : Input) → brought w o ≡ Some i →
      ActKeeps (delivers_found w chosen number o)
  found_keep number None i is = absurd (cc is)
  found_keep number (Some p) i is = to_keep number p p.message.to i is

  delivers_keep : (number : ℕ) (i : Input) → brought w (slice_get w.network.messages number) ≡ Some i →
      ActKeeps (delivers w chosen number)
  unfolding delivers
  delivers_keep number i is = found_keep number (slice_get w.network.messages number) i is

  -- ---- an event

  event_keeps : (e : Event) (i : Input) → input_in w (Opens e) ≡ Some i → ActKeeps (begins w chosen e)
  unfolding begins
  event_keeps (event.Drive d key capacity) i is = adds_keep d key capacity false i is
  event_keeps (event.Disk d key capacity) i is = adds_keep d key capacity true i is
  event_keeps (event.File f m tag) i is = makes_keep f (raw_of m) tag false
  event_keeps (event.ZonedFile f m tag) i is = makes_keep f (raw_of m) tag true
  event_keeps (event.Deliver number) i is = delivers_keep number i is
  event_keeps (event.Zone d zone) i is = gives_keep w chosen (Zones d zone)
  event_keeps (event.Format format) i is = gives_keep w chosen (Formats format)
  event_keeps (event.Recall f) i is = gives_keep w chosen (Obeys server_rules.ToRecall f)
  event_keeps (event.Revoke f) i is = gives_keep w chosen (Obeys server_rules.ToRevoke f)
  event_keeps (event.Rebuild f) i is = gives_keep w chosen (Obeys server_rules.ToRebuild f)
  event_keeps (event.Audit f) i is = gives_keep w chosen (Obeys server_rules.ToAudit f)
  event_keeps (event.Declare d) i is = gives_keep w chosen (Obeys server_rules.ToDeclare d)
  event_keeps (event.Crash machine.Server) i is = gives_keep (with_down w true) chosen Crashes
  event_keeps (event.Reopen machine.Server) i is = gives_keep (with_down w false) chosen ServerOpens
  event_keeps e i is = absurd (cc is)

  -- its own line
  own_keeps : (e : Event) (i : Input) → input_in w (Opens e) ≡ Some i → (q : Log) → log_after q (line.Event e) ≡ q
  own_keeps (event.Do c x) i is = absurd (cc is)
  own_keeps (event.Call c x) i is = absurd (cc is)
  own_keeps e i is = λ q. refl

  action_keeps : (a : Action) (i : Input) → input_in w a ≡ Some i → AllKeep (with_event a (sends_all (acts w chosen a)).lines)
  action_keeps (Opens e) i is = (own_keeps e i is, event_keeps e i is (length (begins w chosen e).world.network.messages))
  action_keeps (Delivers number) i is =
      delivers_keep number i is (length (delivers w chosen number).world.network.messages)
  action_keeps (TimesOut c k) i is = absurd (cc is)
  action_keeps (Pends c) i is = absurd (cc is)

-- each line of a move in which something comes to the server
pub server_lines_keep : (w : World) (m : Move) (i : Input) → input_in w m.action ≡ Some i → AllKeep (lines_in w m)
server_lines_keep w m i is = action_keeps w m.chosen m.action i is
