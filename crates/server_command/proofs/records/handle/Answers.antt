use Rattle.std.proofs.Common.{rules, [], ◌∷◌, ◌++◌, ◌∙◌, List, ap, refl, ◌≡◌, Err}
use Rattle.osd_bytes.specs.Asking.{ends_of}
use Rattle.osd_bytes.specs.Connections.{after_notes}
use Rattle.server_command.specs.Messages.{serving}
use Rattle.server_rules.specs.declared.notes.Note.{Note}
use Rattle.server_requests.specs.declared.outgoing.Sent.{Sent}
use Rattle.server_command.specs.Notes.{note_texts}
use Rattle.server_command.specs.Steps.{Hears}
use Rattle.server_command.specs.declared.metadata_server.StepErr.TheVariants.{Memory}
use Rattle.server_command.proofs.CutLaws.{cut_early, cut_noting}
use Rattle.server_command.proofs.KeptLaws.{cuts_behind, cuts_in, from_by}
use Rattle.server_command.proofs.records.handle.Goals as goal

pub returns-clause-handles : goal.returns-clause-handles
returns-clause-handles g c = λ waiting stands had. (
  had ++ Hears c.now-now.result c.in_ok-sends.ensures.ok.0 c.args.from c.args.message.now ∷ [],
  record {
    time = c.now-now.result;
    chosen = c.in_ok-sends.ensures.ok.0;
    tells = c.now-now.ensures;
    server = c.in_ok-sends.ensures.ok.1.state;
    waiting = ap (λ (ss : List Sent). waiting ++ ss) c.in_ok-sends.ensures.ok.1.sends;
    stands = refl;
    done = refl;
    told = c.in_ok-tell_notes.ensures.told
        ∙ ap (λ (ns : List Note). after_notes (note_texts ns) (g.L.Links.told c.args.links.now))
        c.in_ok-sends.ensures.ok.1.notes;
    faults = search rules;
  },
  from_by g.H.MetadataServer had _ c.args.server.now c.on_message.new.self c.in_ok-sends.ensures.ok.2,
)

pub returns-in_err-sends-clause-cuts : goal.returns-in_err-sends-clause-cuts
returns-in_err-sends-clause-cuts g c =
    let same : c.from_residual.result ≡ Err c.in_err-sends.field-0.0 = search rules in
    rw same (λ waiting stands had. (
      had,
      Hears c.now-now.result c.in_err-sends.ensures.err.0 c.args.from c.args.message.now ∷ [],
      cut_early _ _ _ _ c.now-now.result c.in_err-sends.ensures.err.0 c.now-now.ensures refl refl,
      cuts_in g.H.MetadataServer _ had _ c.args.server.now c.on_message.new.self c.in_err-sends.ensures.err.1,
    ))

pub returns-in_err-tell_notes-clause-cuts : goal.returns-in_err-tell_notes-clause-cuts
returns-in_err-tell_notes-clause-cuts g c =
    let same : c.from_residual-in_err-tell_notes.result ≡ Err Memory = search rules in
    rw same (λ waiting stands had. (
      had,
      Hears c.now-now.result c.in_ok-sends.ensures.ok.0 c.args.from c.args.message.now ∷ [],
      cut_noting c.args.from c.args.message.now
          (serving (g.H.MetadataServer.server c.args.server.now) waiting stands had
          (ends_of (g.L.Links.told c.args.links.now) (g.L.Links.faults c.args.links.now) (g.C.Clock.times c.args.clock.now)))
          (ends_of (g.L.Links.told c.tell_notes.new.links) (g.L.Links.faults c.tell_notes.new.links)
          (g.C.Clock.times c.now-now.new.self)) c.now-now.result c.in_ok-sends.ensures.ok.0 c.in_ok-sends.field-0.notes c.now-now.ensures
          c.in_ok-sends.ensures.ok.1.notes c.in_err-tell_notes.ensures.err c.tell_notes.ensures.same,
      cuts_behind g.H.MetadataServer _ had _ c.args.server.now c.on_message.new.self c.in_ok-sends.ensures.ok.2 (λ e. cc e),
    ))
