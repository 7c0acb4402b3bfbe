-- When the server can give a grant on a file, by what it keeps of it.
use Rattle.std.specs.Prelude.{◌≡◌, ℕ, true, [], ◌∷◌, ◌++◌, find, None}
use Rattle.server_rules.specs.Get.{high_after}
use Rattle.server_rules.specs.Grants.{conflicts, grant_of}
use Rattle.world_history.specs.ServerNames.{Kept, Grant, Still}

-- The file is still and was made, the client has no grant on it, and none conflicts with the new one, whose number is the next.
pub record CanGrant (k : Kept) (next c : ℕ) (x : Grant) : Type 0 where
  pub still : k.phase ≡ Still
  pub ready : k.ready ≡ true
  pub own : grant_of k.grants c ≡ None
  pub clear : find (conflicts x) k.grants ≡ None
  pub number : x.number ≡ next
  pub client : x.client ≡ c

-- what is kept then
abbrev pub with_grant : Kept → Grant → Kept
with_grant k x = record k { grants = k.grants ++ (x ∷ []); high = high_after k.high x }
