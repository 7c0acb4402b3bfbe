-- The commands that a job waits for.
use Rattle.std.specs.Prelude.{Bool, not, ◌==◌}
use Rattle.server_rules.specs.declared.jobs.Awaited.{Awaited}
use Rattle.file_jobs.specs.declared.awaited.Gone.{Gone}
use Rattle.file_jobs.specs.declared.awaited.Gone.TheVariants.{Nonce, Drive}

-- a command is still waited for
abbrev pub stays : Gone → Awaited → Bool
stays (Nonce nonce) a = not (a.command.nonce == nonce)
stays (Drive drive) a = not (a.drive == drive)
