-- What the words ask for, from the texts that a parse gave.
use Rattle.std.proofs.Common.{◌≡◌, ◌∙◌, ap, subst, sym, codes, List, Option}
use Rattle.clap.specs.Words.{App, Text, first_value, found_of}
use Rattle.clap.specs.Simple.{HasMatchesOf}
use Rattle.clap.specs.declared.parser.matches.ArgMatches.{ArgMatches}
use Rattle.command_words.specs.Options.{client_options, drive_options, server_options, text_of}
use Rattle.command_words.specs.Asked.{AsksClient, client_gives, drive_words_from, drive_words_of, server_words_from, server_words_of}
use Rattle.command_words.specs.StoredAsked.{AsksStored, AsksStoredServer, stored_drive_gives, stored_drive_options}
use Rattle.command_words.specs.StoredAsked.{stored_server_gives, stored_server_options}
use Rattle.command_words.specs.Work.{Gives}
use Rattle.command_words.specs.declared.words.ClientWords.{ClientWords}
use Rattle.command_words.specs.declared.words.DriveWords.{DriveWords}
use Rattle.command_words.specs.declared.words.ServerWords.{ServerWords}
use Rattle.command_words.specs.declared.stored_words.StoredDriveWords.{StoredDriveWords}
use Rattle.command_words.specs.declared.stored_words.StoredServerWords.{StoredServerWords}
use Rattle.command_words.proofs.Parsed.{client_simple, drive_simple, server_simple, stored_drive_simple, stored_server_simple, value}

module _ (a : App) (words : List Text) (m : ArgMatches) where
  pub drive_asked : (n k : Option Text) (r : Option DriveWords) → a ≡ drive_options → HasMatchesOf a words m
      → n ≡ first_value (found_of m) (codes "number") → k ≡ first_value (found_of m) (codes "connections") →
      r ≡ drive_words_from n k → drive_words_of words ≡ r
  drive_asked n k r same h number count is =
      let p = number ∙ value a drive_options words m (codes "number") same drive_simple h in
      let q = count ∙ value a drive_options words m (codes "connections") same drive_simple h in
      sym (is ∙ (ap (λ (x : Option Text). drive_words_from x k) p
      ∙ ap (λ (x : Option Text). drive_words_from (text_of drive_options (codes "number") words) x) q))

  pub server_asked : (k : Option Text) (r : Option ServerWords) → a ≡ server_options → HasMatchesOf a words m
      → k ≡ first_value (found_of m) (codes "connections") → r ≡ server_words_from k → server_words_of words ≡ r
  server_asked k r same h count is =
      sym (is ∙ ap (λ (x : Option Text). server_words_from x)
      (count ∙ value a server_options words m (codes "connections") same server_simple h))

  pub client_asked : (n q t : Option Text) (r : Option ClientWords) → a ≡ client_options → HasMatchesOf a words m
      → n ≡ first_value (found_of m) (codes "number") → q ≡ first_value (found_of m) (codes "sequence") →
      t ≡ first_value (found_of m) (codes "call")
      → Gives (AsksClient n q t) r → client_gives words r
  client_asked n q t r same h number first text g =
      let x = number ∙ value a client_options words m (codes "number") same client_simple h in
      let y = first ∙ value a client_options words m (codes "sequence") same client_simple h in
      let z = text ∙ value a client_options words m (codes "call") same client_simple h in
      subst (λ (w : Option Text). Gives
      (AsksClient (text_of client_options (codes "number") words) (text_of client_options (codes "sequence") words) w) r) z
      (subst (λ (w : Option Text). Gives (AsksClient (text_of client_options (codes "number") words) w t) r) y
      (subst (λ (w : Option Text). Gives (AsksClient w q t) r) x g))

  pub stored_drive_asked : (n k t : Option Text) (r : Option StoredDriveWords) → a ≡ stored_drive_options → HasMatchesOf a words m
      → n ≡ first_value (found_of m) (codes "number") → k ≡ first_value (found_of m) (codes "connections") →
      t ≡ first_value (found_of m) (codes "store")
      → Gives (AsksStored n k t) r → stored_drive_gives words r
  stored_drive_asked n k t r same h number count name g =
      let x = number ∙ value a stored_drive_options words m (codes "number") same stored_drive_simple h in
      let y = count ∙ value a stored_drive_options words m (codes "connections") same stored_drive_simple h in
      let z = name ∙ value a stored_drive_options words m (codes "store") same stored_drive_simple h in
      subst (λ (w : Option Text). Gives
      (AsksStored (text_of stored_drive_options (codes "number") words)
      (text_of stored_drive_options (codes "connections") words) w) r) z
      (subst (λ (w : Option Text). Gives (AsksStored (text_of stored_drive_options (codes "number") words) w t) r) y
      (subst (λ (w : Option Text). Gives (AsksStored w k t) r) x g))

  pub stored_server_asked : (k t : Option Text) (r : Option StoredServerWords) → a ≡ stored_server_options →
      HasMatchesOf a words m
      → k ≡ first_value (found_of m) (codes "connections") → t ≡ first_value (found_of m) (codes "store")
      → Gives (AsksStoredServer k t) r → stored_server_gives words r
  stored_server_asked k t r same h count name g =
      let y = count ∙ value a stored_server_options words m (codes "connections") same stored_server_simple h in
      let z = name ∙ value a stored_server_options words m (codes "store") same stored_server_simple h in
      subst (λ (w : Option Text). Gives (AsksStoredServer (text_of stored_server_options (codes "connections") words) w) r) z
      (subst (λ (w : Option Text). Gives (AsksStoredServer w t) r) y g)
