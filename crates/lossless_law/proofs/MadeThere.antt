-- A file that a step of the server makes has all of its components.
use Rattle.std.proofs.Common.{◌≡◌, ℕ, ◌+◌, Bool, List, [], ◌∷◌, Option, Some, None, refl, sym, ap, subst, ◌∙◌}
use Rattle.data_map.specs.declared.check.RawMap.{RawMap}
use Rattle.server_rules.specs.Commands.{to_all, All, Creating}
use Rattle.server_rules.specs.Files.{file_at, at_file}
use Rattle.server_rules.specs.Going.{Going, rests_or}
use Rattle.server_rules.specs.History.{Makes, step, unless_made}
use Rattle.server_rules.specs.Jobs.{making, is_made}
use Rattle.server_rules.specs.Making.{refusal, components_on, drives_for, unmade, with_file, makes_file, unless_refused, create_file}
use Rattle.server_rules.specs.declared.server.Refusal.{Refusal}
use Rattle.server_rules.proofs.Runs.{ran_making}
use Rattle.history_law.proofs.Files.{put_gives}
use Rattle.history_law.specs.Names.{Server, File, Making, Creates, Awaited}
use Rattle.lossless_law.proofs.NotShort.{AllThere}

new_there : (ds : List ℕ) (object : ℕ) → AllThere (components_on ds object)
unfolding components_on
new_there [] object = tt
new_there (d ∷ ds) object = (refl, new_there ds (object + 1))

-- the job that makes the objects leaves the components
rests_leaves : (cs : List Awaited) (g : Going)
    → (rests_or cs g Making Creates (is_made g)).file.kept.components ≡ g.file.kept.components
rests_leaves [] g = refl
rests_leaves (c ∷ cs) g = refl

making_leaves : (g : Going) → (making g).file.kept.components ≡ g.file.kept.components
unfolding making
making_leaves g = rests_leaves (to_all g.file.kept All Creating g.effects.nonce) g

module _ (s : Server) (chosen : List ℕ) (n : ℕ) (m : RawMap) (tag : ℕ) (zoned : Bool) (f : File)
    (none : file_at s.files n ≡ None) where
  abbrev fresh : File
  fresh = unmade s n m tag zoned (drives_for zoned s.drives m chosen)

  abbrev start : Going
  start = at_file (with_file s fresh) [] fresh

  by_refusal : (o : Option Refusal)
      → file_at (unless_made s (unless_refused o (makes_file s fresh))).state.files n ≡ Some f → AllThere f.kept.components
  by_refusal (Some r) found = absurd (cc (sym none ∙ found))
  by_refusal None found =
      let same : f ≡ (making start).file =
      put_gives (with_file s fresh).files n (making start).file f (ran_making start).number found in
      subst AllThere (sym (ap (λ (x : File). x.kept.components) same ∙ making_leaves start))
      (new_there (drives_for zoned s.drives m chosen) s.next_object)

  pub made_there : file_at (step s chosen (Makes n m tag zoned)).state.files n ≡ Some f → AllThere f.kept.components
  unfolding create_file
  made_there found = by_refusal (refusal s n m zoned) found
