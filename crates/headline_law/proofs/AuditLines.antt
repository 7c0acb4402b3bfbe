-- The notes on audits among the lines of a move: each is of the step that the server takes in it.
-- Towards `AuditsFindNone` (`file_simulation/specs/Claim.antt`).
use Rattle.std.specs.List.{filter_map}
use Rattle.std.proofs.Common.{◌≡◌, ℕ, List, filter, refl, sym, ap, subst, ◌∙◌}
use Rattle.scenario_text.specs.declared.line.Line.{Line}
use Rattle.scenario_text.specs.declared.line.Line.TheVariants as line
use Rattle.scenario_text.specs.declared.line.Note.TheVariants as note
use Rattle.server_rules.specs.Laws.{In}
use Rattle.world_history.specs.Names.{known_note_line}
use Rattle.world_history.specs.ServerNames as server_rules
use Rattle.world_history.specs.Told.{told_note}
use Rattle.headline_law.proofs.NotesTold.{tells_note, note_in}

-- an audit of a file, with what it found
pub record Audit : Type 0 where
  pub file : ℕ
  pub high : ℕ
  pub short : ℕ
  pub bad : ℕ
  pub bytes : ℕ

-- as a line tells it, and as a step notes it
abbrev pub audit_line : Audit → Line
audit_line a = line.Note a.file (note.Audited a.high a.short a.bad a.bytes)

abbrev pub audit_note : Audit → server_rules.Note
audit_note a = record { file = a.file; kind = server_rules.Audit a.high a.short a.bad a.bytes }

kind_is : (k : server_rules.NoteKind) (a : Audit) → note.Audited a.high a.short a.bad a.bytes ≡ told_note k →
    server_rules.Audit a.high a.short a.bad a.bytes ≡ k
kind_is (server_rules.Audit x y z u) a e = cc e
kind_is k a e = absurd (cc e)

-- Each audit of which such lines tell is noted.
pub audit_noted : (ns : List server_rules.Note) (ls : List Line) →
    filter tells_note ls ≡ filter tells_note (filter_map known_note_line ns) → (a : Audit) → In (audit_line a) ls →
    In (audit_note a) ns
audit_noted ns ls same a i =
    let x = note_in ns ls same (audit_line a) refl i in
    let file : a.file ≡ x.0.file = cc x.2 in
    let kind : note.Audited a.high a.short a.bad a.bytes ≡ told_note x.0.kind = cc x.2 in
    subst (λ (n : server_rules.Note). In n ns)
    (sym (ap (λ (f : ℕ). record { file = f; kind = server_rules.Audit a.high a.short a.bad a.bytes }) file
    ∙ ap (λ (k : server_rules.NoteKind). record { file = x.0.file; kind = k }) (kind_is x.0.kind a kind))) x.1
