-- What a text and its tables are judged to be, over plain values.
use Rattle.std.proofs.Common.{◌≡◌, ◌<◌, ◌≤◌, ◌∙◌, ℕ, codes, inl, inr, if◌then◌else◌, Bool, true, false, List, length, map, Option, None, Some, refl, sym, ap}
use borrow.Author.Tests.{le-leb, lt-ltb}
use Rattle.std.specs.Str.{IsUtf8, is_utf8}
use Rattle.std.proofs.lemmas.Bool.{cases_Bool}
use Rattle.std.proofs.lemmas.List.{length-map}
use Rattle.std.proofs.lemmas.Str.{IsUtf8-from_is_utf8, is_utf8-from_IsUtf8}
use Rattle.toml.specs.Data.{Members}
use Rattle.toml.specs.Parse.{parse_document}
use Rattle.cluster_text.specs.declared.cluster.ClusterDrive.{ClusterDrive}
use Rattle.cluster_text.specs.declared.cluster.ClusterFile.{ClusterFile}
use Rattle.cluster_text.specs.declared.fields.TheConstants.{MAX_DRIVES, MAX_FILES}
use Rattle.cluster_text.specs.Fields.{address_at, drive_in, file_in, format_in}
use Rattle.cluster_text.specs.Document.{all_in, cluster_in, document_of, has_good_counts}
use Rattle.cluster_text.proofs.Lists.{all-map}

none_of : (b : Bool) (o : Option Members) → b ≡ false → (if b then o else None) ≡ None
none_of b o is = rw is refl

some_of : (b : Bool) (o : Option Members) → b ≡ true → (if b then o else None) ≡ o
some_of b o is = rw is refl

pub no_text : (text : List ℕ) → (IsUtf8 text → ⊥) → document_of text ≡ None
unfolding document_of
no_text text bad = elim (cases_Bool (is_utf8 text)) [
  | inl good ↦ absurd (bad (IsUtf8-from_is_utf8 text good))
  | inr other ↦ none_of (is_utf8 text) (parse_document text) other
]

pub spelled : (text s : List ℕ) (t : Members) → s ≡ text → IsUtf8 text → parse_document s ≡ Some t → document_of text ≡ Some t
unfolding document_of
spelled text s t same utf8 parsed =
    some_of (is_utf8 text) (parse_document text) (is_utf8-from_IsUtf8 text utf8) ∙ ap parse_document (sym same) ∙ parsed

module _ {X : Type 0} (view : X → Members) where
  good_counts : (ds fs : List X) → 0 < length ds → length ds ≤ MAX_DRIVES → length fs ≤ MAX_FILES →
      has_good_counts (map view ds) (map view fs) ≡ true
  good_counts ds fs some few files =
      rw (
        length-map ds view,
        length-map fs view,
        lt-ltb 0 (length ds) some,
        le-leb (length ds) MAX_DRIVES few,
        le-leb (length fs) MAX_FILES files,
      ) refl

  module _ (top : Members) (ds fs : List X) where
    pub bad_drives : (server : List ℕ) (format : ℕ) → 0 < length ds → length ds ≤ MAX_DRIVES → length fs ≤ MAX_FILES
        → Some server ≡ address_at (codes "server") top → Some format ≡ format_in top → None ≡ all_in (λ x. drive_in (view x)) ds
        → None ≡ cluster_in top (map view ds) (map view fs)
    unfolding cluster_in
    bad_drives server format some few files a f d =
        rw (good_counts ds fs some few files) (rw (← a) (rw (← f) (rw (← (d ∙ all-map drive_in view ds)) refl)))

    pub bad_files : (server : List ℕ) (format : ℕ) (drives : List ClusterDrive) → 0 < length ds → length ds ≤ MAX_DRIVES →
        length fs ≤ MAX_FILES
        → Some server ≡ address_at (codes "server") top → Some format ≡ format_in top →
        Some drives ≡ all_in (λ x. drive_in (view x)) ds
        → None ≡ all_in (λ x. file_in (length ds) (view x)) fs → None ≡ cluster_in top (map view ds) (map view fs)
    unfolding cluster_in
    bad_files server format drives some few files a f d g =
        rw (good_counts ds fs some few files)
        (rw (← a) (rw (← f)
        (rw (← (d ∙ all-map drive_in view ds))
        (rw (length-map ds view) (rw (← (g ∙ all-map (file_in (length ds)) view fs)) refl)))))

    pub whole : (server owned : List ℕ) (format : ℕ) (drives : List ClusterDrive) (all : List ClusterFile) → 0 < length ds →
        length ds ≤ MAX_DRIVES → length fs ≤ MAX_FILES
        → Some server ≡ address_at (codes "server") top → Some format ≡ format_in top →
        Some drives ≡ all_in (λ x. drive_in (view x)) ds
        → Some all ≡ all_in (λ x. file_in (length ds) (view x)) fs → owned ≡ server
        → Some (record { server = owned; format = format; drives = drives; files = all }) ≡ cluster_in top (map view ds)
        (map view fs)
    unfolding cluster_in
    whole server owned format drives all some few files a f d g same =
        rw (good_counts ds fs some few files)
        (rw (← a) (rw (← f)
        (rw (← (d ∙ all-map drive_in view ds))
        (rw (length-map ds view) (rw (← (g ∙ all-map (file_in (length ds)) view fs)) (rw same refl))))))
