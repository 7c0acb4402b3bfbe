-- What a crash, an opening and a command leave of what has a drive's objects.
use Rattle.std.proofs.Common.{◌≡◌, ◌⊎◌, inl, inr, ℕ, List, [], ◌∷◌, true, false, sym, ap, ◌∙◌, subst}
use Rattle.osd_disk.specs.Medium.{Medium, bytes_of, fresh, may_hold}
use Rattle.osd_drive.specs.declared.keys.DriveKey.{DriveKey}
use Rattle.osd_drive.specs.State.{DriveState}
use Rattle.drive_store.specs.declared.store.StoredDrive.{StoredDrive}
use Rattle.drive_store.specs.Opening.{IsNoStoreAt}
use Rattle.drive_store.specs.Resting.{stands}
use Rattle.drive_store.specs.Stores.{IsStoreOf, core_of, disk_in, is_over_in}
use Rattle.drive_store.proofs.ContentLaws.{one_drive, refused_is_none}
use Rattle.world_history.specs.Drives.{first_key}
use Rattle.world_parties.specs.declared.backing.DriveMake.{DriveMake}
use Rattle.world_parties.specs.declared.backing.Backing.TheVariants.{Stored, Resting}
use Rattle.world_parties.specs.Backing.{IsOnDisk, IsOpened, IsOwnStore, Rests, Stays, drive_on}
use Rattle.world_parties.specs.Drive.{IsMadeOf}
use Rattle.world_parties.proofs.StoreOn.{drive_is}

module _ (made : DriveMake) where
  -- a crash leaves the disk of a store that goes on
  pub left : (store : StoredDrive Medium) (disk : Medium) → IsOwnStore made store → is_over_in store ≡ false →
      disk ≡ fresh (bytes_of (disk_in store))
      → Stays made (Stored store) (Resting disk)
  left store disk own on is = record {
    state = same;
    stands = record {
      stored = own.stored;
      made_of = subst (λ (d : DriveState). IsMadeOf made d) (sym same) own.made_of;
      store = subst (λ (d : DriveState). IsStoreOf d (bytes_of disk)) (sym same) store_of;
    };
  }
    where
      store_of : IsStoreOf (core_of store) (bytes_of disk)
      store_of = subst (λ (c : List ℕ). IsStoreOf (core_of store) c) (sym (ap (λ (m : Medium). bytes_of m) is))
          (stands (λ (m : Medium). true) bytes_of may_hold (core_of store) store.log (own.on_disk on))

      same : drive_on made (bytes_of disk) ≡ core_of store
      same = drive_is made (core_of store) (bytes_of disk) own.made_of store_of

  -- the drive that is opened is the one that went down
  pub the_one : (disk : Medium) (d : DriveState) (keys : List DriveKey) → Rests made disk → keys ≡ first_key made.key ∷ [] →
      d.keys ≡ keys
      → IsStoreOf d (bytes_of disk) → d ≡ drive_on made (bytes_of disk)
  the_one disk d keys rests own same is =
      one_drive d (drive_on made (bytes_of disk)) (bytes_of disk) is rests.store (same ∙ own ∙ sym rests.made_of.keys_are)

  -- its store isn't refused
  pub no_refusal : (disk : Medium) (keys : List DriveKey) (at : ℕ) → Rests made disk → keys ≡ first_key made.key ∷ [] →
      IsNoStoreAt keys (bytes_of disk) at → ⊥
  no_refusal disk keys at rests own none =
      refused_is_none keys (bytes_of disk) at none (drive_on made (bytes_of disk)) rests.store (rests.made_of.keys_are ∙ sym own)

  pub again : (disk : Medium) (store : StoredDrive Medium) → Rests made disk → IsOpened (drive_on made (bytes_of disk)) store
      → Stays made (Resting disk) (Stored store)
  again disk store rests o = record {
    state = o.drive_is;
    stands = record {
      stored = rests.stored;
      made_of = subst (λ (d : DriveState). IsMadeOf made d) (sym o.drive_is) rests.made_of;
      on_disk = λ on. o.on_disk;
    };
  }

  -- a disk that comes back has the same bytes
  pub came_back : (old new : Medium) → Rests made old → bytes_of new ≡ bytes_of old → Stays made (Resting old) (Resting new)
  came_back old new rests same = record {
    state = ap (λ (c : List ℕ). drive_on made c) same;
    stands = record {
      stored = rests.stored;
      made_of = subst (λ (c : List ℕ). IsMadeOf made (drive_on made c)) (sym same) rests.made_of;
      store = subst (λ (c : List ℕ). IsStoreOf (drive_on made c) c) (sym same) rests.store;
    };
  }

  -- a store after a command that was answered, and after one that wasn't
  pub own_answered : (old new : StoredDrive Medium) (after : DriveState) → IsOwnStore made old → IsMadeOf made after →
      core_of new ≡ after → IsOnDisk new
      → IsOwnStore made new
  own_answered old new after own is same kept = record {
    stored = own.stored;
    made_of = subst (λ (d : DriveState). IsMadeOf made d) (sym same) is;
    on_disk = λ on. kept;
  }

  pub own_stopped : (old new : StoredDrive Medium) (after : DriveState) → IsOwnStore made old → IsMadeOf made after
      → (new ≡ old) ⊎ ((core_of new ≡ after) × (is_over_in new ≡ true)) → IsOwnStore made new
  own_stopped old new after own is (inl same) = subst (λ (s : StoredDrive Medium). IsOwnStore made s) (sym same) own
  own_stopped old new after own is (inr done) = record {
    stored = own.stored;
    made_of = subst (λ (d : DriveState). IsMadeOf made d) (sym done.0) is;
    on_disk = λ on. absurd (cc (sym done.1 ∙ on));
  }

  -- its drive then
  pub either_core : (old new : StoredDrive Medium) (after : DriveState) →
      (new ≡ old) ⊎ ((core_of new ≡ after) × (is_over_in new ≡ true))
      → (core_of new ≡ core_of old) ⊎ (core_of new ≡ after)
  either_core old new after (inl same) = inl (ap (λ (s : StoredDrive Medium). core_of s) same)
  either_core old new after (inr done) = inr done.0
