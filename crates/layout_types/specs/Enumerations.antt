-- The enumerations of RFC 5664 and their numbers, both ways.
use Rattle.std.specs.Prelude.{ℕ, ◌<◌, ◌≤◌, ◌&&◌, if◌then◌else◌, nat_eq, nat_le, nat_lt, Option, Some, None}
use Rattle.data_map.specs.declared.check.TheConstants.{RAID_PQ}
use Rattle.layout_types.specs.declared.cred.OsdVersion.{OsdVersion}
use Rattle.layout_types.specs.declared.cred.OsdVersion.TheVariants as version
use Rattle.layout_types.specs.declared.cred.KeySecurity.{KeySecurity}
use Rattle.layout_types.specs.declared.cred.KeySecurity.TheVariants as security
use Rattle.layout_types.specs.declared.ioerrs.Errno.{Errno}
use Rattle.layout_types.specs.declared.ioerrs.Errno.TheVariants as errno

abbrev pub version_number : OsdVersion → ℕ
version_number version.Missing = 0
version_number version.Version1 = 1
version_number version.Version2 = 2

abbrev pub version_of : ℕ → Option OsdVersion
version_of n =
    if nat_eq n 0 then Some version.Missing
    else if nat_eq n 1 then Some version.Version1
    else if nat_eq n 2 then Some version.Version2
    else None

abbrev pub security_number : KeySecurity → ℕ
security_number security.None = 0
security_number security.Ssv = 1

abbrev pub security_of : ℕ → Option KeySecurity
security_of n =
    if nat_eq n 0 then Some security.None
    else if nat_eq n 1 then Some security.Ssv
    else None

abbrev pub errno_number : Errno → ℕ
errno_number errno.Eio = 1
errno_number errno.NotFound = 2
errno_number errno.NoSpace = 3
errno_number errno.BadCred = 4
errno_number errno.NoAccess = 5
errno_number errno.Unreachable = 6
errno_number errno.Resource = 7

abbrev pub errno_of : ℕ → Option Errno
errno_of n =
    if nat_eq n 1 then Some errno.Eio
    else if nat_eq n 2 then Some errno.NotFound
    else if nat_eq n 3 then Some errno.NoSpace
    else if nat_eq n 4 then Some errno.BadCred
    else if nat_eq n 5 then Some errno.NoAccess
    else if nat_eq n 6 then Some errno.Unreachable
    else if nat_eq n 7 then Some errno.Resource
    else None

-- RAID 0, RAID 4, RAID 5 and RAID P+Q, which stay numbers: what `HasAlgorithm` says of a map's
abbrev pub IsAlgorithm : ℕ → Type 0
IsAlgorithm n = (0 < n) × (n ≤ RAID_PQ)

abbrev pub algorithm_of : ℕ → Option ℕ
algorithm_of n = if nat_lt 0 n && nat_le n RAID_PQ then Some n else None
