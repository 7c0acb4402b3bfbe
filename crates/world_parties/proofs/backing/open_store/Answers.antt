use Rattle.std.proofs.Common.{true, refl}
use Rattle.std.specs.Prelude.{IsTrue}
use Rattle.osd_disk.specs.Medium.{bytes_of}
use Rattle.drive_store.specs.Opening.{IsNoStoreAt}
use Rattle.drive_store.specs.Stores.{core_of}
use Rattle.world_parties.proofs.Backings.{no_refusal, the_one}
use Rattle.world_parties.proofs.Wants.{all_was_taken}
use Rattle.world_parties.proofs.backing.open_store.Goals as goal

pub want_of-requires : goal.want_of-requires
want_of-requires c =
    all_was_taken
    (λ at. IsTrue true → IsNoStoreAt c.in-Ok.keys (bytes_of c.args.disk) at) c.in-Err-open.e c.in-Err-open.ensures.refused
    (λ at none. no_refusal c.args.made c.args.disk c.in-Ok.keys at c.requires c.in-Ok.ensures (none refl))
    c.in-Err-open.ensures.cause

pub returns-in-Ok-open-clause-opened : goal.returns-in-Ok-open-clause-opened
returns-in-Ok-open-clause-opened c = record {
  drive_is = the_one c.args.made c.args.disk
      (core_of c.in-Ok-open.store) c.in-Ok.keys c.requires c.in-Ok.ensures c.in-Ok-open.ensures.keys
      (c.in-Ok-open.ensures.drive refl);
  on_disk = c.in-Ok-open.ensures.kept refl;
  goes_on = c.in-Ok-open.ensures.goes_on;
}
