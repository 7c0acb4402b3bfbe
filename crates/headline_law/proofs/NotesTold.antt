-- The lines of notes among those of a move: each is of the step that the server takes in it, or tells that no file is made.
use Rattle.std.proofs.Common.{◌≡◌, ◌&&◌, ◌++◌, ℕ, Bool, true, false, true≢false, not, nat_lt, List, [], ◌∷◌, length, filter, refl, ap, subst, ◌∙◌, inl, inr}
use Rattle.std.specs.List.{cons_option, filter_map}
use Rattle.std.proofs.lemmas.List.{append-nil}
use Rattle.std.proofs.lemmas.List.Elements.{filter-append}
use Rattle.client_rules.specs.History.{step as client_step}
use Rattle.osd_commands.specs.Commands.{reading}
use Rattle.scenario_text.specs.declared.line.Delivery.TheVariants as delivery
use Rattle.scenario_text.specs.declared.line.Line.{Line}
use Rattle.scenario_text.specs.declared.line.Line.TheVariants as line
use Rattle.scenario_text.specs.declared.line.Note.{Note as ToldNote}
use Rattle.scenario_text.specs.declared.line.Note.TheVariants as note
use Rattle.scenario_text.specs.declared.names.TheConstants.{FILES}
use Rattle.server_rules.specs.History.{Input, step}
use Rattle.server_rules.specs.Laws.{In}
use Rattle.server_rules.proofs.Members.{in_filter, in_filtered}
use Rattle.world_history.specs.Drives.{judges, command_in}
use Rattle.world_history.specs.Handed.{ended_by, op_in}
use Rattle.world_history.specs.Moves.{Act, Action, acts}
use Rattle.world_history.specs.Names.{where_known, is_tellable_note, known_note_line, note_line}
use Rattle.world_history.specs.Sending.{Move, move, sent_lines}
use Rattle.world_history.specs.ServerNames.{Note}
use Rattle.world_history.specs.State.{World}
use Rattle.world_history.specs.Told.{told_refusal}
use Rattle.history_law.specs.Moments.{lines_in}
use Rattle.history_law.specs.Moves.{IsForServer, IsFileRefusal, front_of, MoveCases}
use Rattle.history_law.proofs.Moves.{each_act}
use Rattle.cause_law.proofs.NoteLines.{IsOfNotes, is_note, other, quiet_none, ended_none, front_none, both_none, sent_none, event_none}

-- ---- lines of notes

one_known : (known : Bool) (l : Line) (n : Note) (ns : List Note) →
    (In l (filter_map known_note_line ns) → (x : Note) × In x ns × (l ≡ note_line x)) →
    In l (cons_option (where_known known (note_line n)) (filter_map known_note_line ns)) →
    (x : Note) × In x (n ∷ ns) × (l ≡ note_line x)
one_known true l n ns rest (inl same) = (n, inl refl, same)
one_known true l n ns rest (inr i) = let x = rest i in (x.0, inr x.1, x.2)
one_known false l n ns rest i = let x = rest i in (x.0, inr x.1, x.2)

in_known : (l : Line) (ns : List Note) → In l (filter_map known_note_line ns) → (x : Note) × In x ns × (l ≡ note_line x)
in_known l [] i = absurd i
in_known l (n ∷ ns) i = one_known (nat_lt n.file FILES && is_tellable_note n.kind) l n ns (in_known l ns) i

-- the line of a note of a step: any that doesn't refuse to make a file
abbrev tells_refusal : ToldNote → Bool
tells_refusal note.Exists = true
tells_refusal (note.BadMap why) = true
tells_refusal (note.TooFew online) = true
tells_refusal (note.NoSpread online) = true
tells_refusal n = false

abbrev pub tells_note : Line → Bool
tells_note (line.Note f n) = not (tells_refusal n)
tells_note l = false

of_notes : IsOfNotes tells_note
of_notes = record { others = others; refusals = refusals }
  where
    others : (l : Line) → is_note l ≡ false → tells_note l ≡ false
    others (line.Note f n) e = absurd (true≢false e)
    others l e = refl

    refusals : (file : ℕ) (n : ToldNote) → IsFileRefusal n → tells_note (line.Note file n) ≡ false
    refusals file note.Exists q = refl
    refusals file (note.BadMap why) q = refl
    refusals file (note.TooFew online) q = refl
    refusals file (note.NoSpread online) q = refl
    refusals file n q = absurd q

-- such a line is of one of these notes
pub note_in : (ns : List Note) (ls : List Line) →
    filter tells_note ls ≡ filter tells_note (filter_map known_note_line ns) → (l : Line) → tells_note l ≡ true → In l ls →
    (x : Note) × In x ns × (l ≡ note_line x)
note_in ns ls same l told i =
    in_known l ns
    (in_filtered tells_note l (filter_map known_note_line ns) (subst (In l) same (in_filter tells_note l ls i told))).0

pub none_in : (ls : List Line) → filter tells_note ls ≡ [] → (l : Line) → tells_note l ≡ true → In l ls → ⊥
none_in ls none l told i = subst (In l) none (in_filter tells_note l ls i told)

-- ---- a move

-- The lines tell the notes of a step of the server, or none, and no file goes on.
pub data Tells (w v : World) (chosen : List ℕ) (action : Action) (ls : List Line) : Type 0 where
  Others : v.server.files ≡ w.server.files → filter tells_note ls ≡ [] → Tells w v chosen action ls
  Serves : (i : Input) → IsForServer w action i → v.server ≡ (step w.server chosen i).state →
      filter tells_note ls ≡ filter tells_note (filter_map known_note_line (step w.server chosen i).notes) →
      Tells w v chosen action ls

-- a line that is no note
alone : (l : Line) → is_note l ≡ false → filter tells_note (l ∷ []) ≡ []
alone l e = other tells_note of_notes l [] e

cases : (w : World) (chosen : List ℕ) (action : Action) →
    MoveCases w chosen action (λ a. Tells w a.world chosen action a.told)
cases w chosen action = record {
  rests = λ ms said told quiet. Others refl (quiet_none tells_note of_notes told quiet);
  refused = λ c a found op is e why. Others refl (alone (line.Refused c (told_refusal e)) refl);
  clock = λ time. Others refl refl;
  serves = λ ms said i is.
      Serves i is refl
      (both_none tells_note of_notes (front_of action delivery.Taken) (filter_map known_note_line (step w.server chosen i).notes)
      (front_none tells_note of_notes action delivery.Taken));
  goes = λ ms said c a found i is.
      let ended : List Line = ended_by c (op_in a.state i) (client_step a.state i).outcome in
      Others refl
      (both_none tells_note of_notes (front_of action delivery.Taken) ended (front_none tells_note of_notes action delivery.Taken)
      ∙ ended_none tells_note of_notes c (op_in a.state i) (client_step a.state i).outcome);
  comes = λ c is. Others refl refl;
  stops = λ c a found. Others refl refl;
  judged = λ ms said d a found hears m number.
      Others refl
      (alone (line.Delivered m.number (delivery.Judged (judges a (command_in m.posted.message.body)).verdict)) refl);
  injected = λ d bytes is a found. Others refl (alone (line.Judged d (judges a (reading bytes)).verdict) refl);
  turns = λ d a b found turns. Others refl refl;
  known = λ d key capacity stored is knows. Others refl refl;
  adds = λ d key capacity stored is knows. Others refl refl;
}

told_alone : (w : World) (m : Move) → filter tells_note (lines_in w m) ≡ filter tells_note (acts w m.chosen m.action).told
told_alone w m =
    let a : Act = acts w m.chosen m.action in
    let n : ℕ = length a.world.network.messages in
    event_none tells_note of_notes m.action (move w m).lines ∙ filter-append tells_note a.told (sent_lines n a.posts)
    ∙ ap (λ (ls : List Line). filter tells_note a.told ++ ls) (sent_none tells_note of_notes n a.posts)
    ∙ append-nil (filter tells_note a.told)

pub move_tells : (w : World) (m : Move) → Tells w (move w m).world m.chosen m.action (lines_in w m)
move_tells w m =
    by_act
    (each_act w m.chosen (λ (a : Act). Tells w a.world m.chosen m.action a.told) m.action (cases w m.chosen m.action))
  where
    by_act : Tells w (acts w m.chosen m.action).world m.chosen m.action (acts w m.chosen m.action).told →
        Tells w (move w m).world m.chosen m.action (lines_in w m)
    by_act (Others files none) = Others files (told_alone w m ∙ none)
    by_act (Serves i is server told) = Serves i is server (told_alone w m ∙ told)
