use Rattle.layout_types.specs.Spelling.{deviceaddr_item, DeviceAddrFits}
use Rattle.layout_types.specs.Reading.{deviceaddr_in}
use Rattle.layout_types.proofs.Steps.{all_read_back}
use Rattle.layout_types.proofs.Codecs.{deviceaddr_codec}
use Rattle.layout_types.proofs.device_addr.DeviceAddrStructure.write.Goals as goal

pub returns-clause-read_back : goal.returns-clause-read_back
returns-clause-read_back c =
    all_read_back deviceaddr_in deviceaddr_item DeviceAddrFits deviceaddr_codec c.args.self.now c.write_all.result
    c.write_all.ensures.spelled c.write_all.ensures.fits
