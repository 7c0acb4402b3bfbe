use Rattle.std.proofs.Common.{arith}
use Rattle.layout_types.specs.Spelling.{map_item, MapFits, cred_item, CredFits, layout_item, LayoutFits, deviceaddr_item, DeviceAddrFits, update_item, UpdateFits, ioerrs_item, IoErrsFits, hint_item, HintFits}
use Rattle.layout_types.specs.Reading.{map_in, cred_in, layout_in, deviceaddr_in, update_in, ioerrs_in, hint_in}
use Rattle.layout_types.specs.Lines.{map_lines, cred_lines, layout_lines, deviceaddr_lines, update_lines, ioerrs_lines, hint_lines}
use Rattle.layout_types.proofs.Codecs.{map_codec, cred_codec, layout_codec, deviceaddr_codec, update_codec, ioerrs_codec, hint_codec}
use Rattle.layout_types.proofs.Shown.{shows_found}
use Rattle.layout_types.proofs.kind.leaves.Goals as goal

pub returns-in-Map-clause-found : goal.returns-in-Map-clause-found
returns-in-Map-clause-found c =
    rw c.in-Map.is
    (shows_found map_in map_item MapFits map_lines map_codec c.args.bytes.now
    (λ i. omega (arith, c.type_inv.bytes i)) c.show_all.result c.show_all.ensures)

pub returns-in-Cred-clause-found : goal.returns-in-Cred-clause-found
returns-in-Cred-clause-found c =
    rw c.in-Cred.is
    (shows_found cred_in cred_item CredFits cred_lines cred_codec c.args.bytes.now
    (λ i. omega (arith, c.type_inv.bytes i)) c.show_all-in-Cred.result c.show_all-in-Cred.ensures)

pub returns-in-Layout-clause-found : goal.returns-in-Layout-clause-found
returns-in-Layout-clause-found c =
    rw c.in-Layout.is
    (shows_found layout_in layout_item LayoutFits layout_lines layout_codec c.args.bytes.now
    (λ i. omega (arith, c.type_inv.bytes i)) c.show_all-in-Layout.result c.show_all-in-Layout.ensures)

pub returns-in-DeviceAddr-clause-found : goal.returns-in-DeviceAddr-clause-found
returns-in-DeviceAddr-clause-found c =
    rw c.in-DeviceAddr.is
    (shows_found deviceaddr_in deviceaddr_item DeviceAddrFits deviceaddr_lines deviceaddr_codec c.args.bytes.now
    (λ i. omega (arith, c.type_inv.bytes i)) c.show_all-in-DeviceAddr.result c.show_all-in-DeviceAddr.ensures)

pub returns-in-Update-clause-found : goal.returns-in-Update-clause-found
returns-in-Update-clause-found c =
    rw c.in-Update.is
    (shows_found update_in update_item UpdateFits update_lines update_codec c.args.bytes.now
    (λ i. omega (arith, c.type_inv.bytes i)) c.show_all-in-Update.result c.show_all-in-Update.ensures)

pub returns-in-IoErrs-clause-found : goal.returns-in-IoErrs-clause-found
returns-in-IoErrs-clause-found c =
    rw c.in-IoErrs.is
    (shows_found ioerrs_in ioerrs_item IoErrsFits ioerrs_lines ioerrs_codec c.args.bytes.now
    (λ i. omega (arith, c.type_inv.bytes i)) c.show_all-in-IoErrs.result c.show_all-in-IoErrs.ensures)

pub returns-in-Hint-clause-found : goal.returns-in-Hint-clause-found
returns-in-Hint-clause-found c =
    rw c.in-Hint.is
    (shows_found hint_in hint_item HintFits hint_lines hint_codec c.args.bytes.now
    (λ i. omega (arith, c.type_inv.bytes i)) c.show_all-in-Hint.result c.show_all-in-Hint.ensures)
