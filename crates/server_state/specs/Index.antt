-- Which file awaits a drive's reply.
use Rattle.std.specs.Prelude.{ℕ, Bool, true, false, List, ◌≡◌, find, is_some, ◌<◌, ◌==◌, ◌&&◌}
use Rattle.std.specs.List.{list_any}
use Rattle.server_rules.specs.declared.jobs.Awaited.{Awaited}

-- replies that are awaited, each by its nonce, its drive and the file
abbrev pub Keys : Type 0
Keys = List (ℕ × ℕ × ℕ)

-- the reply of this nonce from this drive, awaited by this file, is that one
abbrev pub is_of : (nonce drive file : ℕ) → (x d m : ℕ) → Bool
is_of nonce drive file x d m = ((nonce == x) && (drive == d)) && (file == m)

-- file m awaits a reply of nonce x from drive d
unfoldable pub has : Keys → (x d m : ℕ) → Bool
has ks x d m = list_any (λ k. is_of k.0 k.1 k.2 x d m) ks

-- n is the lowest number of a file that awaits it
pub record IsFirst (ks : Keys) (x d n : ℕ) : Type 0 where
  pub awaits : has ks x d n ≡ true
  pub none : (m : ℕ) → m < n → has ks x d m ≡ false

-- a reply of nonce x from drive d is to one of these commands
unfoldable pub are_to : List Awaited → (x d : ℕ) → Bool
are_to cs x d = is_some (find (λ a. (a.command.nonce == x) && (a.drive == d)) cs)
