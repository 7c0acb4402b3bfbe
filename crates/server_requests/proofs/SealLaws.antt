-- The bytes of a command that is sealed.
use Rattle.std.specs.Prelude.{ℕ, List, ◌≡◌, ◌++◌, ◌-◌, length, take, refl}
use Rattle.std.proofs.Common.{arith, append_assoc, ◌∙◌}
use Rattle.std.proofs.Math.Seq.{take-append_seam}
use Rattle.std.proofs.lemmas.List.{length-append, length-replicate}
use Rattle.osd_capability.specs.Keys.{key_of, check_of}
use Rattle.osd_capability.proofs.LayoutLaws.{length-spelling}
use Rattle.osd_commands.specs.declared.commands.Command.{Command}
use Rattle.osd_commands.specs.Commands.{head, spelling, check_len}
use Rattle.osd_commands.proofs.Writing.{length-fields, check_len-bounds, head-check}
use Rattle.server_rules.specs.declared.jobs.Awaited.{Awaited}
use Rattle.server_rules.specs.declared.server.Drive.{Drive}
use Rattle.server_rules.specs.Commands.{sealed, check_under, key_at}
use Rattle.server_requests.specs.Keys.{IsKeyAt}

-- the bytes before the check value
length-head : (c : Command) → length (head c) ≡ 256 - check_len c.capability.format
unfolding head
length-head c =
    simp (length-append, length-replicate, length-fields c, length-spelling c.capability)
    (omega (arith, check_len-bounds c.capability.format))

pub head-taken : (c : Command) → take (256 - check_len c.capability.format) (spelling c) ≡ head c
unfolding spelling
head-taken c = rw (← length-head c) (take-append_seam (head c) _)

-- a command's head, its check value under the drive's key, and its payload
pub sealed_as : (ds : List Drive) (a : Awaited) (key : List ℕ) → IsKeyAt ds a.drive key → (bytes : List ℕ) →
    bytes ≡ (head a.command ++ take (check_len a.command.capability.format)
    (check_of (key_of key a.command.capability) (head a.command ++ a.command.payload))) ++ a.command.payload →
    bytes ≡ spelling (sealed ds a)
unfolding spelling check_under
sealed_as ds a key k bytes e =
    e ∙ rw (
      append_assoc,
      k a.command.capability,
      head-check a.command (check_of (key_of (key_at ds a.drive) a.command.capability) (head a.command ++ a.command.payload)),
    )
    refl
