use Rattle.std.proofs.Common.{◌+◌, ◌∷◌, ◌∙◌, ap, drop, sym}
use Rattle.std.proofs.lemmas.List.{drop_more}
use Rattle.cluster_text.specs.declared.cluster.ClusterDrive.{ClusterDrive}
use Rattle.server_command.proofs.KeptLaws.{broke_then, went_then}
use Rattle.stored_server.specs.Lacking.{with_all_lacking}
use Rattle.stored_server.proofs.LackingLaws.{one_more}
use Rattle.stored_server.proofs.lacking.add_lacking.Goals as goal

pub returns-in-Err-clause-goes : goal.returns-in-Err-clause-goes
returns-in-Err-clause-goes g c =
    broke_then g.H.MetadataServer _ c.args.server.now c.loop-drive.server c.add_lacking_one.new.server c.loop-drive.invariant.1
    c.in-Err.ensures.goes

pub loop-drive-preserved : goal.loop-drive-preserved
loop-drive-preserved g c =
    let drives = c.args.drives.now in
    let behind = drop (c.loop-drive.drive-index + 1) drives in (
      one_more (g.H.MetadataServer.server c.loop-drive.server) (g.H.MetadataServer.server c.add_lacking_one.new.server)
          c.drive-item.result behind
          (drop c.loop-drive.drive-index drives) (with_all_lacking (g.H.MetadataServer.server c.args.server.now) drives)
          (drop_more drives c.loop-drive.drive-index c.drive-item.result c.loop-drive-test.true
          ∙ ap (λ (d : ClusterDrive). d ∷ behind) (sym c.drive-item.is))
          c.in-Ok.ensures.knows c.loop-drive.invariant.0,
      went_then g.H.MetadataServer c.args.server.now c.loop-drive.server c.add_lacking_one.new.server c.loop-drive.invariant.1
          c.in-Ok.ensures.goes,
    )
