use Rattle.std.proofs.Common.{◌≡◌, ◌<◌, ◌∙◌, ℕ, List, length, true, refl, ap, arith}
use Rattle.std.specs.Prelude.{IsTrue}
use Rattle.osd_disk.specs.Medium.{Medium, bytes_of}
use Rattle.layout_world.proofs.Housed.{none_was_refused}
use Rattle.layout_world.proofs.machine.new_journal.Goals as goal

pub want_of-requires : goal.want_of-requires
want_of-requires c =
    none_was_refused
    (λ size. IsTrue true → (size ≡ length (bytes_of c.new.result)) × (0 < size)) c.in-Err.e c.in-Err.ensures.refused
    (λ size says. let some = says refl in
    let empty = ap (λ (m : Medium). length (bytes_of m)) c.new.ensures in omega (arith, some.0, some.1, empty))
    c.in-Err.ensures.cause

pub returns-in-Ok-clause-well : goal.returns-in-Ok-clause-well
returns-in-Ok-clause-well c = λ on. c.in-Ok.ensures.kept refl
