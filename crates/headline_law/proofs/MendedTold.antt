-- The line of a note that a repair is over stands among the lines of a move only if something comes to the server in that
-- move, and its step has the note.
-- Towards `RepairsLeaveNoneDisturbed` (`file_simulation/specs/Claim.antt`).
use Rattle.std.proofs.Common.{◌≡◌, ℕ, Bool, true, false, true≢false, List, filter, slice_get, Some, refl, sym, ap, ◌∙◌}
use Rattle.std.specs.List.{filter_map}
use Rattle.osd_lists.specs.declared.node.Node.{Node}
use Rattle.scenario_text.specs.declared.event.Event.TheVariants as event
use Rattle.scenario_text.specs.declared.event.Machine.TheVariants as machine
use Rattle.scenario_text.specs.declared.event.Sender.TheVariants as sender
use Rattle.scenario_text.specs.declared.line.Line.{Line}
use Rattle.scenario_text.specs.declared.line.Line.TheVariants as line
use Rattle.scenario_text.specs.declared.line.Note.TheVariants as note
use Rattle.server_rules.specs.History.{Input, Hears, Makes, Obeys, Adds, Resends, Opens as OpensAgain, step}
use Rattle.server_rules.specs.Laws.{In}
use Rattle.world_history.specs.ServerNames.{Note, NoteKind, Repaired}
use Rattle.world_history.specs.State.{World}
use Rattle.world_history.specs.Told.{told_note}
use Rattle.world_history.specs.Names.{known_note_line}
use Rattle.world_history.specs.Moves.{Action, Opens, Delivers, raw_of}
use Rattle.world_history.specs.Sending.{Move, move}
use Rattle.history_law.specs.Moments.{lines_in}
use Rattle.history_law.specs.Doing.{brought, input_in}
use Rattle.history_law.specs.Moves.{number_in, given_in, IsForServer}
use Rattle.history_law.proofs.Moves.{none_added}
use Rattle.component_law.specs.Distinct.{AreDistinct}
use Rattle.cause_law.proofs.NoteLines.{brought_is}
use Rattle.headline_law.proofs.MendedSteps.{none_made}
use Rattle.headline_law.proofs.NotesTold.{Tells, Others, Serves, tells_note, note_in, none_in, move_tells}

-- the line that a repair of file f is over, which counted so many stripes and left so many short
abbrev pub over_line : (f stripes short : ℕ) → Line
over_line f a b = line.Note f (note.Repaired a b)

-- these notes have it
pub record HaveNote (ns : List Note) (f stripes short : ℕ) : Type 0 where
  pub note : Note
  pub told : In note ns
  pub file : note.file ≡ f
  pub kind : note.kind ≡ Repaired stripes short

-- ---- notes and their lines

kind_told : (k : NoteKind) (a b : ℕ) → note.Repaired a b ≡ told_note k → k ≡ Repaired a b
kind_told (Repaired x y) a b e = cc e
kind_told k a b e = absurd (cc e)

noted : (ns : List Note) (ls : List Line) → filter tells_note ls ≡ filter tells_note (filter_map known_note_line ns) →
    (f a b : ℕ) → In (over_line f a b) ls → HaveNote ns f a b
noted ns ls same f a b i =
    let x = note_in ns ls same (over_line f a b) refl i in
    let file : f ≡ x.0.file = cc x.2 in
    let kind : note.Repaired a b ≡ told_note x.0.kind = cc x.2 in
    record { note = x.0; told = x.1; file = sym file; kind = kind_told x.0.kind a b kind }

-- ---- what comes to the server

-- a repair may be over in the step of an order or of the opening
abbrev may_repair : Input → Bool
may_repair (Obeys kind n) = true
may_repair OpensAgain = true
may_repair i = false

given_comes : (w : World) (action : Action) (j : Input) → given_in action ≡ Some j → may_repair j ≡ true →
    input_in w action ≡ Some j
given_comes w (Opens (event.File n m tag)) j g t =
    let same : Makes n (raw_of m) tag false ≡ j = cc g in
    absurd (true≢false (sym t ∙ sym (ap may_repair same)))
given_comes w (Opens (event.ZonedFile n m tag)) j g t =
    let same : Makes n (raw_of m) tag true ≡ j = cc g in
    absurd (true≢false (sym t ∙ sym (ap may_repair same)))
given_comes w (Opens (event.Resend sender.Server)) j g t =
    let same : Resends ≡ j = cc g in
    absurd (true≢false (sym t ∙ sym (ap may_repair same)))
given_comes w (Opens (event.Zone d zone)) j g t = g
given_comes w (Opens (event.Format format)) j g t = g
given_comes w (Opens (event.Recall n)) j g t = g
given_comes w (Opens (event.Revoke n)) j g t = g
given_comes w (Opens (event.Rebuild n)) j g t = g
given_comes w (Opens (event.Audit n)) j g t = g
given_comes w (Opens (event.Declare d)) j g t = g
given_comes w (Opens (event.Crash machine.Server)) j g t = g
given_comes w (Opens (event.Reopen machine.Server)) j g t = g
given_comes w action j g t = absurd (cc g)

-- an order, and the opening, come as they are given; so does a message
heard_comes : (w : World) (action : Action) (n : ℕ) → number_in action ≡ Some n →
    input_in w action ≡ brought w (slice_get w.network.messages n)
heard_comes w (Opens (event.Deliver k)) n is =
    let same : k ≡ n = cc is in ap (λ (x : ℕ). brought w (slice_get w.network.messages x)) same
heard_comes w (Delivers k) n is =
    let same : k ≡ n = cc is in ap (λ (x : ℕ). brought w (slice_get w.network.messages x)) same
heard_comes w action n is = absurd (cc is)

module _ (w : World) (apart : AreDistinct w.server.files) (chosen : List ℕ) (action : Action) (f a b : ℕ) where
  comes : (j : Input) → IsForServer w action j → HaveNote (step w.server chosen j).notes f a b → input_in w action ≡ Some j
  comes (Hears now from m) h has =
      heard_comes w action h.0.number h.4 ∙ brought_is w h.0 m h.5 h.3
      ∙ ap (λ (t : ℕ). Some (Hears t h.0.posted.message.from m)) (sym h.1)
      ∙ ap (λ (n : Node). Some (Hears now n m)) (sym h.2)
  comes (Makes n m tag zoned) h has =
      absurd (none_made w.server apart chosen n m tag zoned has.note a b has.told has.kind)
  comes (Obeys kind n) h has = given_comes w action (Obeys kind n) h refl
  comes (Adds d) h has = absurd (none_added w action d h)
  comes OpensAgain h has = given_comes w action OpensAgain h refl
  comes j h has = absurd has.told

-- ---- a move

-- Something comes to the server, and its step has the note.
pub record IsNoted (w : World) (m : Move) (f stripes short : ℕ) : Type 0 where
  pub input : Input
  pub comes : input_in w m.action ≡ Some input
  pub noted : HaveNote (step w.server m.chosen input).notes f stripes short

pub told_by_move : (w : World) → AreDistinct w.server.files → (m : Move) (f a b : ℕ) →
    In (over_line f a b) (lines_in w m) → IsNoted w m f a b
told_by_move w apart m f a b i = by (move_tells w m)
  where
    by : Tells w (move w m).world m.chosen m.action (lines_in w m) → IsNoted w m f a b
    by (Others files none) = absurd (none_in (lines_in w m) none (over_line f a b) refl i)
    by (Serves j is server told) =
        let has : HaveNote (step w.server m.chosen j).notes f a b =
        noted (step w.server m.chosen j).notes (lines_in w m) told f a b i in
        record { input = j; comes = comes w apart m.chosen m.action f a b j is has; noted = has }
