-- Candidates with the same values, and the same members among their sizes, are judged alike.
use Rattle.std.proofs.Common.{ℕ, ◌+◌, ◌==◌, true, false, List, length, max, map, sym, ap, subst, ◌∙◌}
use Rattle.std.specs.Prelude.{slice_index, Contains, Some, None}
use Rattle.std.specs.List.{filter}
use Rattle.file_log.specs.declared.entry.Entry.{Entry}
use Rattle.file_log.specs.declared.entry.Entry.TheVariants.{Write, Read}
use Rattle.file_log.specs.Judge.{Candidates, Fits, given, values_after, sizes_after, after_entry}
use Rattle.file_log.specs.Held.{AreSame}
use Rattle.file_log.proofs.Members.{mapped, from_mapped, kept, from_kept}
use Rattle.std.proofs.lemmas.List.Elements.{Contains-append_left, Contains-append_right, Contains-append_cases}
use Rattle.std.proofs.Common.{inl, inr, Bool}

abbrev Members : List ℕ → List ℕ → Type 0
Members a b = (n : ℕ) → Contains a n → Contains b n

raised : (f : ℕ → ℕ) (a b : List ℕ) → Members a b → Members (map f a) (map f b)
raised f a b s n h = let r = from_mapped f a n h in subst (λ m. Contains (map f b) m) r.2 (mapped f b r.0 (s r.0 r.1))

filtered : (p : ℕ → Bool) (a b : List ℕ) → Members a b → Members (filter p a) (filter p b)
filtered p a b s n h = let r = from_kept p a n h in kept p b n r.0 (s n r.1)

sizes_go : (e : Entry) (a b : List ℕ) → Members a b → Members (sizes_after e a) (sizes_after e b)
sizes_go (Write offset bytes true) a b s n h = raised (max (offset + length bytes)) a b s n h
sizes_go (Write offset bytes false) a b s n h = elim (Contains-append_cases a (map (max (offset + length bytes)) a) n h) [
  | inl old ↦ Contains-append_left b (map (max (offset + length bytes)) b) n (s n old)
  | inr new ↦ Contains-append_right b (map (max (offset + length bytes)) b) n (raised (max (offset + length bytes)) a b s n new)
]
sizes_go (Read offset len (Some answer)) a b s n h = filtered (λ size. given offset len size == length answer) a b s n h
sizes_go (Read offset len None) a b s n h = s n h

pub same_after : (a b : Candidates) (e : Entry) → AreSame a b → AreSame (after_entry a e) (after_entry b e)
same_after a b e s = record {
  values = λ p. ap (λ (x : List ℕ). values_after e p x) (s.values p);
  sizes = λ n. (sizes_go e a.sizes b.sizes (λ m h. (s.sizes m).0 h) n, sizes_go e b.sizes a.sizes (λ m h. (s.sizes m).1 h) n);
}

pub same_then : (a b c : Candidates) → AreSame a b → AreSame b c → AreSame a c
same_then a b c s t = record {
  values = λ p. s.values p ∙ t.values p;
  sizes = λ n. (λ h. (t.sizes n).0 ((s.sizes n).0 h), λ h. (s.sizes n).1 ((t.sizes n).1 h));
}

pub same_back : (a b : Candidates) → AreSame a b → AreSame b a
same_back a b s = record { values = λ p. sym (s.values p); sizes = λ n. ((s.sizes n).1, (s.sizes n).0) }

pub same_fits : (a b : Candidates) (e : Entry) → AreSame a b → Fits a e → Fits b e
same_fits a b (Write offset bytes acknowledged) s h = h
same_fits a b (Read offset len (Some answer)) s f = record {
  size = (f.size.0, (s.sizes f.size.0).0 f.size.1, f.size.2);
  bytes = λ i inside. subst (λ xs. Contains xs (slice_index answer i)) (s.values (offset + i)) (f.bytes i inside);
}
same_fits a b (Read offset len None) s h = h
