use Rattle.std.proofs.Common.{rules, ◌≡◌, false, [], refl, suc, Err}
use Rattle.osd_bytes.specs.Asking.{ends_of}
use Rattle.server_command.specs.Messages.{Works, serving}
use Rattle.server_command.proofs.CutLaws.{cut_from}
use Rattle.server_command.proofs.KeptLaws.{cuts_then, from_none, from_then}
use Rattle.server_command.proofs.WorkLaws.{all_worked, round_ends, round_from, some_wait}
use Rattle.server_command.proofs.messages.work_all.Goals as goal

pub work_round-requires-clause-goes_on : goal.work_round-requires-clause-goes_on
work_round-requires-clause-goes_on g c =
    let so_far = c.rounds.invariant.0 [] in (so_far.2).went.goes_on

pub rounds-init : goal.rounds-init
rounds-init g c = (
  λ had. (
    had,
    (0, refl),
    from_none g.H.MetadataServer had c.args.server.now (g.met.H.MetadataServer.kept_stays c.args.server.now) c.requires.goes_on,
  ),
  search rules,
)

pub rounds-preserved : goal.rounds-preserved
rounds-preserved g c = (
  λ had.
      let first = c.rounds.invariant.0 had in
      let more = c.in_ok-stands.ensures.works first.0 in (
        more.0,
        (
          suc first.1.0,
          (_, first.1.1, round_from (Works c.args.sender) _ _ _ _ (search rules) (search rules) more.1),
        ),
        from_then g.H.MetadataServer had first.0 more.0 c.args.server.now c.rounds.server c.work_round.new.server first.2 more.2,
      ),
  search rules,
)

pub rounds-smaller : goal.rounds-smaller
rounds-smaller g c =
    let empty : c.is_empty.result ≡ false = search rules in
    let more = c.in_ok-stands.ensures.works [] in
    round_ends c.args.sender
    (serving (g.H.MetadataServer.server c.rounds.server) c.rounds.waiting c.rounds.stands []
    (ends_of (g.L.Links.told c.rounds.links) (g.L.Links.faults c.rounds.links) (g.C.Clock.times c.rounds.clock)))
    (serving (g.H.MetadataServer.server c.work_round.new.server) c.work_round.new.waiting c.in_ok-stands.stands more.0
    (ends_of (g.L.Links.told c.work_round.new.links) (g.L.Links.faults c.work_round.new.links)
    (g.C.Clock.times c.work_round.new.clock)))
    (some_wait c.is_empty.result c.rounds.waiting empty c.is_empty.ensures)
    (round_from (Works c.args.sender) _ _ _ _ (search rules) (search rules) more.1)

pub returns-clause-works : goal.returns-clause-works
returns-clause-works g c = λ had.
    let first = c.rounds.invariant.0 had in
    (first.0, all_worked (Works c.args.sender) first.1.0 _ _ _ _ _ _ first.1.1 (search rules), first.2)

pub returns-in_err-stands-clause-cuts : goal.returns-in_err-stands-clause-cuts
returns-in_err-stands-clause-cuts g c =
    let same : c.from_residual.result ≡ Err c.in_err-stands.field-0.0 = search rules in
    rw same (λ had.
    let first = c.rounds.invariant.0 had in
    let x = c.in_err-stands.ensures.cuts first.0 in (
      x.0,
      x.1,
      (
        first.1.0,
        serving (g.H.MetadataServer.server c.rounds.server) c.rounds.waiting c.rounds.stands first.0
            (ends_of (g.L.Links.told c.rounds.links) (g.L.Links.faults c.rounds.links) (g.C.Clock.times c.rounds.clock)),
        first.1.1,
        cut_from c.args.sender _ _ _ _ x.0 x.1 (search rules) (search rules) x.2,
      ),
      cuts_then g.H.MetadataServer _ had first.0 x.0 x.1 c.args.server.now c.rounds.server c.work_round.new.server first.2 x.3,
    ))
