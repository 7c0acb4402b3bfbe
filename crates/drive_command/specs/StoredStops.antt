-- Why a drive with a store stops.
use Rattle.std.specs.Prelude.{◌≡◌, ◌⊎◌, ℕ}
use Rattle.cluster_text.specs.declared.stop.CommandStop.TheVariants as cause
use Rattle.drive_store.specs.declared.errors.StoreErr.{StoreErr}
use Rattle.drive_store.specs.declared.errors.StoreErr.TheVariants as store
use Rattle.osd_disk.specs.declared.disk.DiskErr.{DiskErr}
use Rattle.osd_disk.specs.declared.disk.DiskErr.TheVariants as disk
use Rattle.drive_command.specs.declared.serve_err.DriveServeErr.{DriveServeErr}
use Rattle.drive_command.specs.declared.serve_err.DriveServeErr.TheVariants as serving
use Rattle.drive_command.specs.declared.stored_stop.StoredStop.{StoredStop}
use Rattle.drive_command.specs.declared.stored_stop.StoredStop.TheVariants.{Command, DiskFault, BadStore}

-- where there was no memory
abbrev pub no_memory : StoredStop
no_memory = Command cause.Memory

-- where a call of the disk failed
abbrev pub stop_of_disk : DiskErr → StoredStop
stop_of_disk disk.Fault = DiskFault
stop_of_disk disk.Memory = no_memory

-- where a store wasn't made or opened; a disk that was empty has no bytes when the store is made
abbrev pub stop_of_store : StoreErr → StoredStop
stop_of_store (store.NotEmpty size) = BadStore 0
stop_of_store store.DiskFault = DiskFault
stop_of_store (store.NotAStore at) = BadStore at
stop_of_store store.Memory = no_memory

-- where serving stopped
abbrev pub stop_of_serving : DriveServeErr → StoredStop
stop_of_serving serving.LinkFault = Command cause.LinkFault
stop_of_serving serving.DiskFault = DiskFault
stop_of_serving serving.Memory = no_memory

-- what is told of a stop is that, or that there was no memory for the line of a place
abbrev pub IsTold : (stop told : StoredStop) → Type 0
IsTold stop told = (told ≡ stop) ⊎ ((told ≡ no_memory) × (at : ℕ) × (stop ≡ BadStore at))
