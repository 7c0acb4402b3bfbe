-- What is read may be written again: a value that fits keeps what a writer asks.
use Rattle.std.proofs.Common.{ℕ, ℤ, List, [], ◌∷◌, Option, Some, None}
use Rattle.std.specs.Prelude.{⊤}
use Rattle.std.specs.List.{AllByRecursion}
use Rattle.data_map.specs.declared.check.RawMap.{RawMap}
use Rattle.data_map.specs.Check.{HasAlgorithm}
use Rattle.layout_types.specs.declared.cred.ObjectCred.{ObjectCred}
use Rattle.layout_types.specs.declared.layout.Layout.{Layout}
use Rattle.layout_types.specs.declared.device_addr.DeviceAddr.{DeviceAddr}
use Rattle.layout_types.specs.declared.ioerrs.IoErrs.{IoErrs}
use Rattle.layout_types.specs.declared.hint.LayoutHint.{LayoutHint}
use Rattle.layout_types.specs.Enumerations.{IsAlgorithm}
use Rattle.layout_types.specs.Grammar.{OptionalFits}
use Rattle.layout_types.specs.Spelling.{CredFits, CredWritable, MapFits, LayoutFits, LayoutWritable, DeviceAddrFits, DeviceAddrWritable, IoErrsFits, IoErrsWritable, HintFits}

-- a number is written whatever it is
pub any_number : (o : Option ℕ) → OptionalFits (λ n. ⊤) o
any_number None = tt
any_number (Some n) = tt

pub any_signed : (o : Option ℤ) → OptionalFits (λ z. ⊤) o
any_signed None = tt
any_signed (Some z) = tt

pub map_writable : (v : RawMap) → MapFits v → HasAlgorithm v
map_writable v fits = fits.algorithm

pub cred_writable : (v : ObjectCred) → CredFits v → CredWritable v
cred_writable v fits = (fits.capability_key, fits.capability)

all_writable : (vs : List ObjectCred) → AllByRecursion CredFits vs → AllByRecursion CredWritable vs
all_writable [] fits = tt
all_writable (v ∷ vs) fits = (cred_writable v fits.0, all_writable vs fits.1)

pub layout_writable : (v : Layout) → LayoutFits v → LayoutWritable v
layout_writable v fits = (fits.map.algorithm, (fits.components.0, all_writable v.olo_components fits.components.1))

pub deviceaddr_writable : (v : DeviceAddr) → DeviceAddrFits v → DeviceAddrWritable v
deviceaddr_writable v fits = record {
  targetid = fits.targetid;
  targetaddr = fits.targetaddr;
  systemid = fits.systemid;
  root_obj_cred = cred_writable v.oda_root_obj_cred fits.root_obj_cred;
  osdname = fits.osdname;
}

pub ioerrs_writable : (v : IoErrs) → IoErrsFits v → IoErrsWritable v
ioerrs_writable v fits = fits.0

pub hint_writable : (v : LayoutHint) → HintFits v → OptionalFits IsAlgorithm v.raid_algorithm
hint_writable v fits = fits.raid_algorithm
