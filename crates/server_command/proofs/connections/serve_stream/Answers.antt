use Rattle.std.proofs.Common.{rules, [], refl, ◌≡◌, Err}
use Rattle.server_command.specs.declared.metadata_server.StepErr.TheVariants.{Memory}
use Rattle.server_command.proofs.ConnectionLaws.{served_more, served_none, served_over}
use Rattle.server_command.proofs.CutLaws.{cut_among, cut_taking}
use Rattle.server_command.proofs.KeptLaws.{cuts_here, cuts_then, from_none, from_then}
use Rattle.server_command.proofs.connections.serve_stream.Goals as goal

pub serve_records-requires-clause-goes_on : goal.serve_records-requires-clause-goes_on
serve_records-requires-clause-goes_on g c =
    let so_far = c.loop-inbox.invariant.0 [] in (so_far.2).went.goes_on

pub loop-inbox-init : goal.loop-inbox-init
loop-inbox-init g c = (
  λ had. (
    had,
    served_none _ c.new-inbox.result c.new-inbox.ensures,
    from_none g.H.MetadataServer had c.args.server.now (g.met.H.MetadataServer.kept_stays c.args.server.now) c.requires.goes_on,
  ),
  search rules,
)

pub returns-in-None-clause-serves : goal.returns-in-None-clause-serves
returns-in-None-clause-serves g c =
    let taken = rw c.in-None.is at c.in_ok-more.ensures.taken in
    let over = rw c.in-None.is at c.in_ok-more.ensures.over in
    λ had.
    let first = c.loop-inbox.invariant.0 had in (
      first.0,
      served_over _ _ _ first.0 _ c.loop-inbox.inbox c.more.new.self taken.0 first.1 taken.1 taken.2 over.0
          c.in_ok-more.ensures.later refl over.1 refl refl,
      first.2,
    )

pub loop-inbox-preserved : goal.loop-inbox-preserved
loop-inbox-preserved g c =
    let taken = rw c.in-Some.is at c.in_ok-more.ensures.taken in (
      λ had.
          let first = c.loop-inbox.invariant.0 had in
          let more = c.in_ok-stands-in-Some.ensures.serves first.0 in (
            more.0,
            served_more _ _ _ _ c.loop-inbox.inbox c.more.new.self taken.0 c.in-Some.records first.1
                (record { told = taken.1; faults = c.in_ok-more.ensures.later; times = refl }) taken.2 taken.3 more.1,
            from_then g.H.MetadataServer had first.0 more.0 c.args.server.now c.loop-inbox.server c.serve_records.new.server
                first.2 more.2,
          ),
      search rules,
    )

pub returns-in_err-more-clause-cuts : goal.returns-in_err-more-clause-cuts
returns-in_err-more-clause-cuts g c =
    let same : c.from_residual.result ≡ Err Memory = search rules in
    let taken = c.in_err-more.ensures.taken in
    rw same (λ had.
    let first = c.loop-inbox.invariant.0 had in (
      first.0,
      [],
      cut_taking _ _ _ c.loop-inbox.inbox c.more.new.self taken.0 first.1
          (record { told = taken.1; faults = c.in_err-more.ensures.later; times = refl }) taken.2,
      cuts_here g.H.MetadataServer _ had first.0 c.args.server.now c.loop-inbox.server first.2 (λ e. cc e),
    ))

pub returns-in_err-stands-in-Some-clause-cuts : goal.returns-in_err-stands-in-Some-clause-cuts
returns-in_err-stands-in-Some-clause-cuts g c =
    let same : c.from_residual-in_err-stands-in-Some.result ≡ Err c.in_err-stands-in-Some.field-0.0 = search rules in
    let taken = rw c.in-Some.is at c.in_ok-more.ensures.taken in
    rw same (λ had.
    let first = c.loop-inbox.invariant.0 had in
    let x = c.in_err-stands-in-Some.ensures.cuts first.0 in (
      x.0,
      x.1,
      cut_among _ _ _ _ c.loop-inbox.inbox c.more.new.self taken.0 c.in-Some.records x.0 x.1 first.1
          (record { told = taken.1; faults = c.in_ok-more.ensures.later; times = refl }) taken.2 taken.3 x.2,
      cuts_then g.H.MetadataServer _ had first.0 x.0 x.1 c.args.server.now c.loop-inbox.server c.serve_records.new.server
          first.2 x.3,
    ))
