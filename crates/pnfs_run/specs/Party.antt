-- The commands over a network, by their first word.
use Rattle.std.specs.Prelude.{ℕ, List, [], ◌∷◌, Option, None, codes}
use Rattle.scenario_text.specs.Keywords.{word_in}
use Rattle.pnfs_run.specs.declared.party.Party.{Party}
use Rattle.pnfs_run.specs.declared.party.Party.TheVariants.{Drive, StoredDrive, Server, StoredServer, Client}

unfoldable pub party_of_word : List ℕ → Option Party
party_of_word word =
    word_in ((codes "drive", Drive) ∷ (codes "stored-drive", StoredDrive) ∷ (codes "server", Server)
    ∷ (codes "stored-server", StoredServer) ∷ (codes "client", Client) ∷ []) word

-- the party that the first word names
abbrev pub party_of : List (List ℕ) → Option Party
party_of [] = None
party_of (word ∷ words) = party_of_word word
