-- A tag that rises in a step is told: a fence of the file is over in it.
-- Towards `OweFollows` (`specs/Parts.antt`).
use Rattle.std.proofs.Common.{◌≡◌, ◌⊎◌, ◌++◌, ◌&&◌, ℕ, Bool, true, false, nat_lt, List, [], ◌∷◌, refl, sym, ap, ◌∙◌, inl, inr}
use Rattle.std.specs.List.{filter_map}
use Rattle.std.proofs.lemmas.Bool.{cases_eq, ne_eqb}
use Rattle.scenario_text.specs.declared.names.TheConstants.{FILES}
use Rattle.world_history.specs.ServerNames.{Note, NoteKind, Fenced}
use Rattle.world_history.specs.Names.{known_note_line, is_tellable_note, note_line}
use Rattle.component_law.specs.FenceTags.{tag_told, tags_told}
use Rattle.relation_law.specs.Owning.{EndsFence}

-- a note of file f
abbrev note_of : (f : ℕ) → NoteKind → Note
note_of f k = record { file = f; kind = k }

by_kind : (n file : ℕ) (k : NoteKind) → (tag_told n (note_line (note_of file k)) ≡ []) ⊎
    ((tag : ℕ) × (note_of file k ≡ note_of n (Fenced tag)))
by_kind n file (Fenced tag) = elim (cases_eq file n) [
  | inl same ↦ inr (tag, ap (λ (f : ℕ). note_of f (Fenced tag)) same)
  | inr other ↦ inl (rw (ne_eqb file n other) refl)
]
by_kind n file k = inl refl

module _ (n : ℕ) where
  ends_more : (x : Note) (ns : List Note) → EndsFence n ns → EndsFence n (x ∷ ns)
  ends_more x ns r = (r.0, inr r.1)

  -- no tag of the file is told, or a fence of it is over
  pub told_or : (ns : List Note) → (tags_told n (filter_map known_note_line ns) ≡ []) ⊎ EndsFence n ns
  told_or [] = inl refl
  told_or (x ∷ ns) = elim (told_or ns) [
    | inr ends ↦ inr (ends_more x ns ends)
    | inl rest ↦ by_known (nat_lt x.file FILES && is_tellable_note x.kind) refl rest
  ]
    where
      by_known : (b : Bool) → (nat_lt x.file FILES && is_tellable_note x.kind) ≡ b →
          tags_told n (filter_map known_note_line ns) ≡ [] →
          (tags_told n (filter_map known_note_line (x ∷ ns)) ≡ []) ⊎ EndsFence n (x ∷ ns)
      by_known false is rest = inl (rw is rest)
      by_known true is rest = elim (by_kind n x.file x.kind) [
        | inl none ↦ inl (rw is (ap (λ (ts : List ℕ). ts ++ tags_told n (filter_map known_note_line ns)) none ∙ rest))
        | inr own ↦ inr (own.0, inl (sym own.1))
      ]
