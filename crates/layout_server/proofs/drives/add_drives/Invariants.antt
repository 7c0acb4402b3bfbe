use Rattle.std.proofs.Common.{◌≡◌, drop}
use Rattle.std.specs.Prelude.{List}
use Rattle.server_rules.specs.declared.server.Drive.{Drive}
use Rattle.server_state.specs.Drives.{AreDrives}
use Rattle.layout_server.specs.declared.drives.DriveInfo.{DriveInfo}
use Rattle.layout_server.specs.Adding.{CanAdd, and_drives}
use Rattle.layout_server.proofs.drives.add_drives.Given as goal

pub record Added (now : List Drive) (rest : List DriveInfo) (first : List Drive) (all : List DriveInfo) : Type 0 where
  pub drives : AreDrives now
  pub new : CanAdd now rest
  pub value : and_drives now rest ≡ and_drives first all

abbrev pub invariant-loop-info : goal.invariant-loop-info
invariant-loop-info l = Added l.drives (drop l.info-index l.fn.infos) l.fn.drives l.fn.infos
