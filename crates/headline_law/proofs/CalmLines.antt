-- The lines of a move of the server: its head, then the notes of its step, then lines that change no moment.
use Rattle.std.proofs.Common.{◌≡◌, ◌+◌, ◌++◌, ℕ, Bool, true, false, List, [], ◌∷◌, map, slice_get, Option, Some, None, Result, Ok, Err, refl, sym, ap, subst, ◌∙◌, inl, inr, append-nil, if◌then◌else◌}
use Rattle.std.specs.List.{filter_map}
use Rattle.std.proofs.lemmas.Bool.{cases_Bool}
use Rattle.osd_lists.specs.declared.node.Node.{Node}
use Rattle.osd_lists.specs.declared.node.Node.TheVariants as node
use Rattle.server_rules.specs.Files.{Step as ServerStep}
use Rattle.server_rules.specs.History.{Input, step, unless_made, Hears, Makes, Obeys, Adds, Zones, Formats, Crashes, Opens as ServerOpens}
use Rattle.server_rules.specs.Laws.{In}
use Rattle.server_rules.specs.Messages as server_messages
use Rattle.server_rules.specs.Making.{create_file}
use Rattle.scenario_text.specs.declared.event.Event.{Event}
use Rattle.scenario_text.specs.declared.event.Event.TheVariants as event
use Rattle.scenario_text.specs.declared.event.Machine.TheVariants as machine
use Rattle.scenario_text.specs.declared.line.Delivery.{Delivery}
use Rattle.scenario_text.specs.declared.line.Delivery.TheVariants as delivery
use Rattle.scenario_text.specs.declared.line.Line.{Line}
use Rattle.scenario_text.specs.declared.line.Line.TheVariants as line
use Rattle.world_history.specs.declared.messages.Posted.{Posted}
use Rattle.world_history.specs.ServerNames as server_rules
use Rattle.world_history.specs.ServerNames.{Note, Refusal, RawMap}
use Rattle.world_history.specs.State.{World, with_down}
use Rattle.world_history.specs.Names.{known_note_line, note_line}
use Rattle.world_history.specs.Handed.{Post, quiet, server_takes, for_server, handed_to}
use Rattle.world_history.specs.Moves.{begins, delivers, delivers_found, made_file, makes, gives, marked, has_algorithm, knows_drive, adds_drive, raw_of, known_drive}
use Rattle.world_history.specs.Sending.{sent_lines}
use Rattle.world_history.specs.Book.{made_of}
use Rattle.history_law.specs.Doing.{given_by, brought, brought_to, heard_of}
use Rattle.history_law.specs.Read.{leads}
use Rattle.world_history.specs.Calm.{is_told_taken}
use Rattle.headline_law.specs.Watching.{AllLeave}

-- ---- lines

-- notes that lines can tell are all told
pub known_all : (ns : List Note) → ((n : Note) → In n ns → known_note_line n ≡ Some (note_line n)) →
    filter_map known_note_line ns ≡ map note_line ns
known_all [] known = refl
known_all (n ∷ ns) known =
    rw (known n (inl refl)) (ap (λ (ls : List Line). note_line n ∷ ls) (known_all ns (λ x e. known x (inr e))))

pub sent_leave : (n : ℕ) (ps : List Post) → AllLeave (sent_lines n ps)
unfolding sent_lines
sent_leave n [] = tt
sent_leave n (p ∷ ps) = (tt, sent_leave (n + 1) ps)

pub leave_more : (xs ys : List Line) → AllLeave xs → AllLeave ys → AllLeave (xs ++ ys)
leave_more [] ys a b = b
leave_more (x ∷ xs) ys a b = (a.0, leave_more xs ys a.1 b)

-- ---- what is told

-- The act tells these lines, then the step's notes, and then what changes no moment.
pub record TellsNotes (w : World) (chosen : List ℕ) (i : Input) (front : List Line) (told : List Line) : Type 0 where
  pub extra : List Line
  pub leave : AllLeave extra
  pub untaken : is_told_taken extra ≡ false
  pub are : told ≡ front ++ (filter_map known_note_line (step w.server chosen i).notes ++ extra)

just : (w : World) (chosen : List ℕ) (i : Input) (front : List Line) →
    TellsNotes w chosen i front (front ++ filter_map known_note_line (step w.server chosen i).notes)
just w chosen i front = record {
  extra = [];
  leave = tt;
  untaken = refl;
  are = ap (λ (ls : List Line). front ++ ls) (sym (append-nil (filter_map known_note_line (step w.server chosen i).notes)));
}

gives_told : (w v : World) (chosen ds : List ℕ) (i j : Input) → v.server ≡ w.server →
    (step v.server ds j).notes ≡ (step v.server chosen j).notes → Some j ≡ Some i →
    TellsNotes w chosen i [] (gives v ds j).told
unfolding gives
gives_told w v chosen ds i j same notes is =
    let one : j ≡ i = cc is in
    subst (λ (y : Input). TellsNotes w chosen y [] (filter_map known_note_line (step v.server ds j).notes)) one
    (subst (λ (ns : List Note). TellsNotes w chosen j [] (filter_map known_note_line ns))
    (ap (λ (s : server_rules.Server). (step s chosen j).notes) (sym same) ∙ sym notes) (just w chosen j []))

refused_told : (w : World) (chosen : List ℕ) (f : ℕ) (m : RawMap) (tag : ℕ) (zoned : Bool) (e : Refusal) →
    create_file w.server f m tag zoned chosen ≡ Err e → TellsNotes w chosen (Makes f m tag zoned) [] (made_file w f (Err e)).told
refused_told w chosen f m tag zoned e is = by e is
  where
    none : (x : Refusal) → create_file w.server f m tag zoned chosen ≡ Err x →
        filter_map known_note_line (step w.server chosen (Makes f m tag zoned)).notes ≡ []
    none x r = ap (λ (y : Result ServerStep Refusal). filter_map known_note_line (unless_made w.server y).notes) r

    by : (x : Refusal) → create_file w.server f m tag zoned chosen ≡ Err x →
        TellsNotes w chosen (Makes f m tag zoned) [] (made_file w f (Err x)).told
    by server_rules.FileExists r = record {
      extra = (made_file w f (Err server_rules.FileExists)).told;
      leave = ((refl, λ cs. refl), tt);
      untaken = refl;
      are =
          ap (λ (ls : List Line). ls ++ (made_file w f (Err server_rules.FileExists)).told)
          (sym (none server_rules.FileExists r));
    }
    by (server_rules.BadMap b) r = record {
      extra = (made_file w f (Err (server_rules.BadMap b))).told;
      leave = ((refl, λ cs. refl), tt);
      untaken = refl;
      are =
          ap (λ (ls : List Line). ls ++ (made_file w f (Err (server_rules.BadMap b))).told)
          (sym (none (server_rules.BadMap b) r));
    }
    by (server_rules.TooFewDrives n) r = record {
      extra = (made_file w f (Err (server_rules.TooFewDrives n))).told;
      leave = ((refl, λ cs. refl), tt);
      untaken = refl;
      are =
          ap (λ (ls : List Line). ls ++ (made_file w f (Err (server_rules.TooFewDrives n))).told)
          (sym (none (server_rules.TooFewDrives n) r));
    }
    by (server_rules.NoSpread n) r = record {
      extra = (made_file w f (Err (server_rules.NoSpread n))).told;
      leave = ((refl, λ cs. refl), tt);
      untaken = refl;
      are =
          ap (λ (ls : List Line). ls ++ (made_file w f (Err (server_rules.NoSpread n))).told)
          (sym (none (server_rules.NoSpread n) r));
    }

made_told : (w : World) (chosen : List ℕ) (f : ℕ) (m : RawMap) (tag : ℕ) (zoned : Bool) (r : Result ServerStep Refusal) →
    create_file w.server f m tag zoned chosen ≡ r → TellsNotes w chosen (Makes f m tag zoned) [] (made_file w f r).told
made_told w chosen f m tag zoned (Ok s) is =
    subst (λ (ns : List Note). TellsNotes w chosen (Makes f m tag zoned) [] (filter_map known_note_line ns))
    (ap (λ (y : Result ServerStep Refusal). (unless_made w.server y).notes) is) (just w chosen (Makes f m tag zoned) [])
made_told w chosen f m tag zoned (Err e) is = refused_told w chosen f m tag zoned e is

makes_told : (w : World) (chosen : List ℕ) (f : ℕ) (m : RawMap) (tag : ℕ) (zoned : Bool) (i : Input) →
    made_of f m tag zoned ≡ Some i → TellsNotes w chosen i [] (makes w chosen f m tag zoned).told
unfolding makes
makes_told w chosen f m tag zoned i is = elim (cases_Bool (has_algorithm m)) [
  | inl t ↦
      let one : Makes f m tag zoned ≡ i = cc (rw t at is) in
      rw t
      (subst (λ (y : Input). TellsNotes w chosen y [] (made_file w f (create_file w.server f m tag zoned chosen)).told) one
      (made_told w chosen f m tag zoned (create_file w.server f m tag zoned chosen) refl))
  | inr z ↦ absurd (cc (rw z at is))
]

adds_told : (w : World) (chosen : List ℕ) (d : ℕ) (key : List ℕ) (capacity : ℕ) (stored : Bool) (i : Input) →
    (if knows_drive w.server d then None else Some (Adds (known_drive d key capacity))) ≡ Some i →
    TellsNotes w chosen i [] (adds_drive w d key capacity stored).told
adds_told w chosen d key capacity stored i is = elim (cases_Bool (knows_drive w.server d)) [
  | inl t ↦ absurd (cc (rw t at is))
  | inr z ↦ rw z (gives_told w _ chosen [] i (Adds (known_drive d key capacity)) refl refl (rw z at is))
]

-- an event that gives the server something
pub event_told : (w : World) (chosen : List ℕ) (e : Event) (i : Input) → leads e ≡ false → given_by w.server e ≡ Some i →
    TellsNotes w chosen i [] (begins w chosen e).told
unfolding begins
event_told w chosen (event.Drive d key capacity) i no_ is = adds_told w chosen d key capacity false i is
event_told w chosen (event.Disk d key capacity) i no_ is = adds_told w chosen d key capacity true i is
event_told w chosen (event.File f m tag) i no_ is = makes_told w chosen f (raw_of m) tag false i is
event_told w chosen (event.ZonedFile f m tag) i no_ is = makes_told w chosen f (raw_of m) tag true i is
event_told w chosen (event.Zone d zone) i no_ is = gives_told w w chosen chosen i (Zones d zone) refl refl is
event_told w chosen (event.Format format) i no_ is = gives_told w w chosen chosen i (Formats format) refl refl is
event_told w chosen (event.Recall f) i no_ is =
    gives_told w w chosen chosen i (Obeys server_rules.ToRecall f) refl refl is
event_told w chosen (event.Revoke f) i no_ is =
    gives_told w w chosen chosen i (Obeys server_rules.ToRevoke f) refl refl is
event_told w chosen (event.Rebuild f) i no_ is =
    gives_told w w chosen chosen i (Obeys server_rules.ToRebuild f) refl refl is
event_told w chosen (event.Audit f) i no_ is = gives_told w w chosen chosen i (Obeys server_rules.ToAudit f) refl refl is
event_told w chosen (event.Declare d) i no_ is =
    gives_told w w chosen chosen i (Obeys server_rules.ToDeclare d) refl refl is
event_told w chosen (event.Crash machine.Server) i no_ is =
    gives_told w (with_down w true) chosen chosen i Crashes refl refl is
event_told w chosen (event.Reopen machine.Server) i no_ is =
    gives_told w (with_down w false) chosen chosen i ServerOpens refl refl is
event_told w chosen e i no_ is = absurd (cc is)

-- ---- a message to the server

takes_told : (w v : World) (chosen : List ℕ) (from : Node) (o : Option server_messages.Message) (i : Input) →
    v.server ≡ w.server → v.clock ≡ w.clock → heard_of w.clock from o ≡ Some i →
    TellsNotes w chosen i [] (server_takes v chosen from o).told × ((server_takes v chosen from o).receipt ≡ delivery.Taken)
takes_told w v chosen from None i same clock is = absurd (cc is)
takes_told w v chosen from (Some m) i same clock is =
    let one : Hears v.clock from m ≡ i = ap (λ (n : ℕ). Hears n from m) clock ∙ cc is in (
      subst
          (λ (y : Input).
          TellsNotes w chosen y [] (filter_map known_note_line (step v.server chosen (Hears v.clock from m)).notes)) one
          (subst (λ (s : server_rules.Server). TellsNotes w chosen (Hears v.clock from m) []
          (filter_map known_note_line (step s chosen (Hears v.clock from m)).notes)) (sym same)
          (just w chosen (Hears v.clock from m) [])),
      refl,
    )

to_told : (w : World) (chosen : List ℕ) (n : ℕ) (p : Posted) (to : Node) (i : Input) → brought_to w p.message to ≡ Some i →
    TellsNotes w chosen i [] (handed_to (marked w n p) chosen p.message to).told
    × ((handed_to (marked w n p) chosen p.message to).receipt ≡ delivery.Taken)
to_told w chosen n p (node.Drive d) i is = absurd (cc is)
to_told w chosen n p (node.Client c) i is = absurd (cc is)
to_told w chosen n p node.Server i is = either w.down is
  where
    either : (b : Bool) → (if b then None else heard_of w.clock p.message.from (for_server p.message)) ≡ Some i →
        TellsNotes w chosen i []
        (if b then quiet (marked w n p) delivery.Deaf
        else server_takes (marked w n p) chosen p.message.from (for_server p.message)).told
        × ((if b then quiet (marked w n p) delivery.Deaf
        else server_takes (marked w n p) chosen p.message.from (for_server p.message)).receipt ≡ delivery.Taken)
    either true e = absurd (cc e)
    either false e = takes_told w (marked w n p) chosen p.message.from (for_server p.message) i refl refl e

found_told : (w : World) (chosen : List ℕ) (n : ℕ) (o : Option Posted) (i : Input) → brought w o ≡ Some i →
    TellsNotes w chosen i (line.Delivered n delivery.Taken ∷ []) (delivers_found w chosen n o).told
found_told w chosen n None i is = absurd (cc is)
found_told w chosen n (Some p) i is =
    let x = to_told w chosen n p p.message.to i is in
    record {
      extra = x.0.extra;
      leave = x.0.leave;
      untaken = x.0.untaken;
      are = ap (λ (d : Delivery). line.Delivered n d ∷ (handed_to (marked w n p) chosen p.message p.message.to).told) x.1
          ∙ ap (λ (ls : List Line). line.Delivered n delivery.Taken ∷ ls) x.0.are;
    }

pub delivers_told : (w : World) (chosen : List ℕ) (n : ℕ) (i : Input) →
    brought w (slice_get w.network.messages n) ≡ Some i →
    TellsNotes w chosen i (line.Delivered n delivery.Taken ∷ []) (delivers w chosen n).told
unfolding delivers
delivers_told w chosen n i is = found_told w chosen n (slice_get w.network.messages n) i is
