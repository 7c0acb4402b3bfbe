-- An accepted log of which every write was acknowledged is that of one plain list of bytes.
use Rattle.std.proofs.Common.{◌≡◌, ℕ, zero, suc, ◌+◌, true, [], ◌∷◌, length, get_or, Some, None, sym, ap, subst, ◌∙◌, arith}
use Rattle.std.specs.Prelude.{Contains}
use Rattle.osd_lists.specs.Overwrite.{overwritten}
use Rattle.file_log.specs.declared.entry.Entry.TheVariants.{Write, Read}
use Rattle.file_log.specs.Judge.{after_entry, given}
use Rattle.file_log.specs.OneList.{IsPlain, IsRangeFound}
use Rattle.file_log.proofs.Settled.{after_write, after_answer}

only_one : (v a : ℕ) → Contains (v ∷ []) a → v ≡ a
only_one v a (zero, low, e) = e
only_one v a (suc i, low, e) = absurd (omega (arith, low))

pub range_found : IsRangeFound
range_found c bytes offset len answer h f = record {
  size = sym f.size.2
      ∙ ap (given offset len) (sym (only_one (length bytes) f.size.0 (subst (λ xs. Contains xs f.size.0) h.sizes f.size.1)));
  same = λ i inside. sym
      (only_one _ _ (subst (λ xs. Contains xs (get_or answer i 0)) (h.values (offset + i)) (f.bytes i inside)));
}

pub plain : IsPlain
plain c old [] h a k = h
plain c old (Write offset bytes acknowledged ∷ es) h a k =
    rw a.0 (plain (after_entry c (Write offset bytes true)) (overwritten old offset bytes) es
    (after_write c old offset bytes h) a.1 (rw a.0 at k.1))
plain c old (Read offset len None ∷ es) h a k = plain (after_entry c (Read offset len None)) old es h a k.1
plain c old (Read offset len (Some answer) ∷ es) h a k =
    plain (after_entry c (Read offset len (Some answer))) old es
    (after_answer c old offset len answer h (range_found c old offset len answer h k.0)) a k.1
