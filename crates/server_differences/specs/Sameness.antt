-- Parts of what is kept that are the same.
use Rattle.std.specs.Prelude.{◌≡◌}
use Rattle.server_rules.specs.declared.files.Kept.{Kept}
use Rattle.server_rules.specs.declared.server.Server.{Server}

-- two files were made as the same
pub record IsMadeAs (a b : Kept) : Type 0 where
  pub number : a.number ≡ b.number
  pub map : a.map ≡ b.map
  pub zoned : a.zoned ≡ b.zoned
  pub first_tag : a.first_tag ≡ b.first_tag

-- their fences are as far, and they are ready alike
pub record IsAsFar (a b : Kept) : Type 0 where
  pub tag : a.tag ≡ b.tag
  pub format : a.format ≡ b.format
  pub phase : a.phase ≡ b.phase
  pub ready : a.ready ≡ b.ready

-- they are as long, and their components and grants are the same
pub record HasSameContents (a b : Kept) : Type 0 where
  pub size : a.size ≡ b.size
  pub high : a.high ≡ b.high
  pub components : a.components ≡ b.components
  pub grants : a.grants ≡ b.grants
  pub ended : a.ended ≡ b.ended

-- the same numbers come next, and the formats are the same
pub record HasSameNumbers (a b : Server) : Type 0 where
  pub grants : a.next_grant ≡ b.next_grant
  pub objects : a.next_object ≡ b.next_object
  pub nonces : a.next_nonce ≡ b.next_nonce
  pub recalls : a.next_recall ≡ b.next_recall
  pub format : a.format ≡ b.format

-- the drives, slots and files are the same
pub record HasSameTables (a b : Server) : Type 0 where
  pub drives : a.drives ≡ b.drives
  pub slots : a.slots ≡ b.slots
  pub files : a.files ≡ b.files
