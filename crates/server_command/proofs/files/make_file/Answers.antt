use Rattle.std.proofs.Common.{rules, ◌≡◌, [], ◌∷◌, ◌++◌, List, Err, true, inl, inr, refl, subst}
use Rattle.osd_bytes.specs.Asking.{ends_of}
use Rattle.server_rules.specs.declared.notes.Note.{Note}
use Rattle.server_command.specs.Files.{RefusesFile}
use Rattle.server_command.specs.Messages.{serving}
use Rattle.server_command.specs.Notes.{TellsSome, note_texts}
use Rattle.server_command.specs.ServerStops.{no_memory}
use Rattle.server_command.specs.Steps.{Makes}
use Rattle.server_command.specs.declared.files.TheConstants.{FIRST_TAG}
use Rattle.server_command.proofs.KeptLaws.{cuts_as, cuts_behind, cuts_here, cuts_in, cuts_none, cuts_then, from_by, from_same, from_then}
use Rattle.server_command.proofs.MakingLaws.{begun_at, file_stops}
use Rattle.server_command.proofs.files.make_file.Goals as goal

pub returns-then-not-counters_low-clause-stops : goal.returns-then-not-counters_low-clause-stops
returns-then-not-counters_low-clause-stops g c = λ had. (
  had,
  [],
  inl (refl, refl, refl),
  cuts_none g.H.MetadataServer _ had c.args.server.now (g.met.H.MetadataServer.kept_stays c.args.server.now)
      c.requires.goes_on (λ e. cc e),
)

pub returns-then-map-lt-RAID_0-clause-stops : goal.returns-then-map-lt-RAID_0-clause-stops
returns-then-map-lt-RAID_0-clause-stops g c =
    let refuses : RefusesFile c.args.file.now (g.H.MetadataServer.server c.args.server.now) = search rules in
    rw c.refused.ensures (λ had. (
      had,
      [],
      (refl, refuses, refl),
      cuts_none g.H.MetadataServer _ had c.args.server.now (g.met.H.MetadataServer.kept_stays c.args.server.now)
          c.requires.goes_on (λ e. cc e),
    ))

pub returns-in_err-tell_notes-in-Ok-clause-stops : goal.returns-in_err-tell_notes-in-Ok-clause-stops
returns-in_err-tell_notes-in-Ok-clause-stops g c =
    let same : c.from_residual.result ≡ Err no_memory = search rules in
    let ok = c.in-Ok.ensures.ok in
    rw same (λ had. (
      had,
      Makes c.args.file.now.number c.args.file.now.map FIRST_TAG ok.0 ∷ [],
      inr (inl (record {
        chosen = ok.0;
        told = inr (
          ok.1,
          ok.2,
          subst
              (λ (ns : List Note). TellsSome (note_texts ns) (g.L.Links.told c.args.links.now)
              (g.L.Links.told c.tell_notes.new.links)) ok.3.notes c.in_err-tell_notes-in-Ok.ensures.err,
        );
        faults = c.tell_notes.ensures.same;
        times = refl;
        before = refl;
        step = refl;
      })),
      cuts_behind g.H.MetadataServer _ had _ c.args.server.now c.create_file.new.self ok.4 (λ e. cc e),
    ))

pub returns-in-Ok-make_all-clause-makes : goal.returns-in-Ok-make_all-clause-makes
returns-in-Ok-make_all-clause-makes g c = λ had.
    let ok = c.in-Ok.ensures.ok in
    let step = Makes c.args.file.now.number c.args.file.now.map FIRST_TAG ok.0 ∷ [] in
    let begun =
    begun_at c.args.file.now
    (serving (g.H.MetadataServer.server c.args.server.now) [] true had
    (ends_of (g.L.Links.told c.args.links.now) (g.L.Links.faults c.args.links.now) (g.C.Clock.times c.args.clock.now)))
    ok.0 ok.1 (g.H.MetadataServer.server c.create_file.new.self) c.in-Ok.field-0.sends c.in-Ok.field-0.notes
    (g.L.Links.told c.tell_notes.new.links) (g.L.Links.faults c.tell_notes.new.links)
    ok.2 ok.3.state ok.3.sends ok.3.notes c.in_ok-tell_notes-in-Ok.ensures.told c.tell_notes.ensures.same in
    let does = from_by g.H.MetadataServer had step c.args.server.now c.create_file.new.self ok.4 in
    let more = c.in-Ok-make_all.ensures.makes (had ++ step) in (
      more.0,
      (_, begun, more.1),
      from_then g.H.MetadataServer had (had ++ step) more.0 c.args.server.now c.create_file.new.self c.make_all.new.server does
          more.2,
    )

pub returns-in-Ok-clause-stops : goal.returns-in-Ok-clause-stops
returns-in-Ok-clause-stops g c = λ had.
    let ok = c.in-Ok.ensures.ok in
    let step = Makes c.args.file.now.number c.args.file.now.map FIRST_TAG ok.0 ∷ [] in
    let begun =
    begun_at c.args.file.now
    (serving (g.H.MetadataServer.server c.args.server.now) [] true had
    (ends_of (g.L.Links.told c.args.links.now) (g.L.Links.faults c.args.links.now) (g.C.Clock.times c.args.clock.now)))
    ok.0 ok.1 (g.H.MetadataServer.server c.create_file.new.self) c.in-Ok.field-0.sends c.in-Ok.field-0.notes
    (g.L.Links.told c.tell_notes.new.links) (g.L.Links.faults c.tell_notes.new.links)
    ok.2 ok.3.state ok.3.sends ok.3.notes c.in_ok-tell_notes-in-Ok.ensures.told c.tell_notes.ensures.same in
    let does = from_by g.H.MetadataServer had step c.args.server.now c.create_file.new.self ok.4 in
    let x = c.in-Err.ensures.stops (had ++ step) in (
      x.0,
      x.1,
      file_stops c.args.file.now _ _ (g.H.MetadataServer.server c.make_all.new.server)
          (ends_of (g.L.Links.told c.make_all.new.links) (g.L.Links.faults c.make_all.new.links)
          (g.C.Clock.times c.make_all.new.clock)) c.in-Err.stop x.0 x.1 begun x.2,
      cuts_then g.H.MetadataServer _ had (had ++ step) x.0 x.1 c.args.server.now c.create_file.new.self c.make_all.new.server
          does x.3,
    )

pub returns-in-Err-Refused-clause-stops : goal.returns-in-Err-Refused-clause-stops
returns-in-Err-Refused-clause-stops g c =
    let not = rw c.in-Err-Refused.field-0-is at c.in-Err-Refused.ensures.err in
    rw c.refused-in-Err-Refused.ensures (λ had. (
      had,
      [],
      (refl, inl (c.in-Err-Refused.field-0-0, not.0), refl),
      cuts_here g.H.MetadataServer _ had had c.args.server.now c.create_file.new.self
          (from_same g.H.MetadataServer had c.args.server.now c.create_file.new.self not.1) (λ e. cc e),
    ))

pub returns-in-Err-DiskFault-clause-stops : goal.returns-in-Err-DiskFault-clause-stops
returns-in-Err-DiskFault-clause-stops g c =
    let not = rw c.in-Err-DiskFault.field-0-is at c.in-Err-DiskFault.ensures.err in
    let step = Makes c.args.file.now.number c.args.file.now.map FIRST_TAG not.0 ∷ [] in
    λ had. (
      had,
      step,
      inr (inl (record {
        chosen = not.0;
        told = inl refl;
        faults = refl;
        times = refl;
        before = refl;
        step = refl;
      })),
      cuts_as g.H.MetadataServer _ _ had had step c.args.server.now c.create_file.new.self (λ e. refl)
          (cuts_in g.H.MetadataServer _ had step c.args.server.now c.create_file.new.self not.1),
    )

pub returns-clause-stops : goal.returns-clause-stops
returns-clause-stops g c =
    let not = rw c.in-Err-Memory.field-0-is at c.in-Err-Memory.ensures.err in
    let step = Makes c.args.file.now.number c.args.file.now.map FIRST_TAG not.0 ∷ [] in
    λ had. (
      had,
      step,
      inr (inl (record {
        chosen = not.0;
        told = inl refl;
        faults = refl;
        times = refl;
        before = refl;
        step = refl;
      })),
      cuts_as g.H.MetadataServer _ _ had had step c.args.server.now c.create_file.new.self (λ e. absurd (cc e))
          (cuts_in g.H.MetadataServer _ had step c.args.server.now c.create_file.new.self not.1),
    )
