-- What was told of the differences.
use Rattle.std.specs.Prelude.{slice_get, map}
use Rattle.std.proofs.Common.{◌≡◌, ◌∙◌, ◌+◌, ℕ, List, [], ◌∷◌, ◌++◌, take, drop, Option, Some, None, refl, sym, ap, append_assoc}
use Rattle.std.proofs.lemmas.List.{map-append, take-append-drop}
use Rattle.osd_lists.proofs.Slices.{take_more}
use Rattle.osd_bytes.specs.Asking.{Ends, ends_of}
use Rattle.osd_bytes.specs.Connections.{Traffic, after_notes}
use Rattle.osd_bytes.specs.Counts.{Faults}
use Rattle.cluster_text.specs.declared.cluster.Cluster.{Cluster}
use Rattle.server_rules.specs.declared.server.Server.{Server}
use Rattle.server_command.specs.Notes.{TellsSome}
use Rattle.stored_server.specs.declared.differences.Difference.{Difference}
use Rattle.stored_server.specs.Differences.{difference_line, difference_lines}
use Rattle.stored_server.specs.Service.{once_told}

after_then : (as_ bs : List (List ℕ)) (told : Option Traffic)
    → after_notes bs (after_notes as_ told) ≡ after_notes (as_ ++ bs) told
after_then as_ bs None = refl
after_then as_ bs (Some a) = ap (λ (n : List (List ℕ)). Some (record a { notes = n })) (append_assoc a.notes as_ bs)

-- one more of some was told
pub told_more : (ds : List Difference) (i : ℕ) (d : Difference) (first before now : Option Traffic) → slice_get ds i ≡ Some d
    → before ≡ after_notes (map difference_line (take i ds)) first → now ≡ after_notes (difference_line d ∷ []) before
    → now ≡ after_notes (map difference_line (take (i + 1) ds)) first
told_more ds i d first before now got so_far one =
    one ∙ ap (λ (t : Option Traffic). after_notes (difference_line d ∷ []) t) so_far
    ∙ after_then (map difference_line (take i ds)) (difference_line d ∷ []) first
    ∙ ap (λ (ls : List (List ℕ)). after_notes ls first)
    (sym (map-append difference_line (take i ds) (d ∷ []))
    ∙ ap (λ (xs : List Difference). map difference_line xs) (sym (take_more ds i d got)))

-- and no more
pub told_some : (ds : List Difference) (i : ℕ) (first before now : Option Traffic)
    → before ≡ after_notes (map difference_line (take i ds)) first → now ≡ before
    → TellsSome (map difference_line ds) first now
told_some ds i first before now so_far same = (
  map difference_line (take i ds),
  map difference_line (drop i ds),
  ap (λ (xs : List Difference). map difference_line xs) (sym (take-append-drop i ds))
      ∙ map-append difference_line (take i ds) (drop i ds),
  same ∙ so_far,
)

-- what links tell then
pub ends_told : (cluster : Cluster) (begun : Server) (told now_told : Option Traffic) (faults now_faults : Faults)
    (times : Option (List ℕ)) → now_told ≡ after_notes (difference_lines cluster begun) told → now_faults ≡ faults
    → ends_of now_told now_faults times ≡ once_told cluster begun (ends_of told faults times)
ends_told cluster begun told now_told faults now_faults times tells same =
    ap (λ (t : Option Traffic). ends_of t now_faults times) tells
    ∙ ap (λ (f : Faults). ends_of (after_notes (difference_lines cluster begun) told) f times) same
