-- Reading an entry or a record and spelling it are each other's inverse.
use Rattle.std.proofs.Common.{◌≡◌, ℕ, ◌<◌, ◌^◌, cond, eqb, List, [], ◌∷◌, ◌++◌, Result, Ok, Err, inl, inr, refl, sym, ap, subst, ◌∙◌, append_assoc, arith}
use Rattle.std.proofs.lemmas.Bool.{eqb-true}
use Rattle.osd_lists.specs.Blocks.{IsBytes}
use Rattle.xdr_codec.specs.declared.err.XdrErr.{XdrErr}
use Rattle.xdr_codec.specs.Items.{u32_item, u64_item, bool_item, fixed_item, opaque_item}
use Rattle.xdr_codec.specs.Reading.{Rest, ◌>>=◌, opaque_in}
use Rattle.xdr_codec.proofs.Codec.{IsCodec}
use Rattle.xdr_codec.proofs.ItemLaws.{ok_is, err_is_not, chosen, opaque_codec}
use Rattle.layout_types.specs.declared.err.LayoutErr.{LayoutErr}
use Rattle.layout_types.specs.Grammar.{lifted, list_item, u32_part}
use Rattle.layout_types.specs.Spelling.{map_item}
use Rattle.layout_types.proofs.Codecs.{map_codec}
use Rattle.layout_ops.proofs.Steps.{took}
use Rattle.layout_types.proofs.Steps.{u32_law, u64_law, bool_law, fixed_law, list_law, step, gathered, after, Ends, in_parts, first, last}
use Rattle.server_entries.specs.State.{DriveEntry, Placed, FileEntry, Counters, SlotEntry, Size, FenceStarted, Fenced, Repaired, Missing, Present, Ready, Format, Zoned, Entry, Grant}
use Rattle.server_entries.specs.declared.entry.Entry.TheVariants as entry
use Rattle.server_entries.specs.declared.record.Record.{Record}
use Rattle.server_entries.specs.Spelling.{IsAnswerBody, drive_item, DriveFits, placed_item, PlacedFits, file_item, FileFits, grant_item, GrantFits, counters_item, CountersFit, slot_item, SlotFits, entry_item, EntryFits, record_item, RecordFits}
use Rattle.server_entries.specs.Reading.{answer_part, drive_in, placed_in, file_in, grant_in, counters_in, slot_in, zone_in, size_in, fenced_in, missing_in, present_in, format_in, only_in, change_in, behind_kind, entry_in, record_in}

lifted_ok : {A : Type 0} (r : Result A XdrErr) (x : A) → lifted r ≡ Ok x → r ≡ Ok x
lifted_ok (Ok y) x e = cc
lifted_ok (Err d) x e = absurd cc

answer_law : IsCodec answer_part opaque_item IsAnswerBody
unfolding answer_part
answer_law =
    let codec = opaque_codec 65536 (omega arith) in
    record {
      again = λ v more at fits. let a = codec.again v more at fits in (a.0, ap lifted a.1);
      found = λ i v j fits e. codec.found i v j fits (lifted_ok (opaque_in 65536 i) (v, j) e);
    }

-- ---- the fields of an entry

drive_found : (i : Rest) (v : DriveEntry) (j : Rest) → IsBytes i.left → drive_in i ≡ Ok (v, j) →
    DriveFits v × (i.left ≡ drive_item v ++ j.left)
unfolding drive_in
drive_found i v j b e =
    took i _ (v, j) u32_law b e (λ x0 i0 f0 p0 b0 e0.
    took i0 _ (v, j) (fixed_law 20) b0 e0 (λ x1 i1 f1 p1 b1 e1.
    took i1 _ (v, j) u64_law b1 e1 (λ x2 i2 f2 p2 b2 e2.
    took i2 _ (v, j) bool_law b2 e2 (λ x3 i3 f3 p3 b3 e3.
    subst (λ (p : DriveEntry × Rest). DriveFits p.0 × (i.left ≡ drive_item p.0 ++ p.1.left)) (ok_is _ (v, j) e3) (
      record { number = f0; key = f1; capacity = f2 },
      gathered (u32_item x0 ∷ fixed_item x1 ∷ u64_item x2 ∷ bool_item x3 ∷ []) (i.left) i3.left
          (p0 ∙ after _ _ _ (p1 ∙ after _ _ _ (p2 ∙ after _ _ _ (p3)))),
    )))))

drive_again : (v : DriveEntry) (more : List ℕ) (at : ℕ) → DriveFits v →
    Ends (drive_in (record { left = drive_item v ++ more; at = at })) v more
unfolding drive_in
drive_again v more at fits =
    in_parts drive_in (u32_item v.number ∷ fixed_item v.key ∷ u64_item v.capacity ∷ bool_item v.online ∷ []) at v more
    (first _ _ _ _ _ u32_law v.number fits.number
    (λ _. first _ _ _ _ _ (fixed_law 20) v.key fits.key
    (λ _. first _ _ _ _ _ u64_law v.capacity fits.capacity (λ _. last _ _ _ _ bool_law v.online tt (λ _. refl)))))

pub drive_codec : IsCodec drive_in drive_item DriveFits
drive_codec = record { again = drive_again; found = drive_found }

placed_found : (i : Rest) (v : Placed) (j : Rest) → IsBytes i.left → placed_in i ≡ Ok (v, j) →
    PlacedFits v × (i.left ≡ placed_item v ++ j.left)
unfolding placed_in
placed_found i v j b e =
    took i _ (v, j) u32_law b e (λ x0 i0 f0 p0 b0 e0.
    took i0 _ (v, j) u64_law b0 e0 (λ x1 i1 f1 p1 b1 e1.
    subst (λ (p : Placed × Rest). PlacedFits p.0 × (i.left ≡ placed_item p.0 ++ p.1.left)) (ok_is _ (v, j) e1)
    (record { drive = f0; object = f1 }, gathered (u32_item x0 ∷ u64_item x1 ∷ []) (i.left) i1.left (p0 ∙ after _ _ _ (p1)))))

placed_again : (v : Placed) (more : List ℕ) (at : ℕ) → PlacedFits v →
    Ends (placed_in (record { left = placed_item v ++ more; at = at })) v more
unfolding placed_in
placed_again v more at fits =
    in_parts placed_in (u32_item v.drive ∷ u64_item v.object ∷ []) at v more
    (first _ _ _ _ _ u32_law v.drive fits.drive (λ _. last _ _ _ _ u64_law v.object fits.object (λ _. refl)))

pub placed_codec : IsCodec placed_in placed_item PlacedFits
placed_codec = record { again = placed_again; found = placed_found }

file_found : (i : Rest) (v : FileEntry) (j : Rest) → IsBytes i.left → file_in i ≡ Ok (v, j) →
    FileFits v × (i.left ≡ file_item v ++ j.left)
unfolding file_in
file_found i v j b e =
    took i _ (v, j) u32_law b e (λ x0 i0 f0 p0 b0 e0.
    took i0 _ (v, j) map_codec b0 e0 (λ x1 i1 f1 p1 b1 e1.
    took i1 _ (v, j) u32_law b1 e1 (λ x2 i2 f2 p2 b2 e2.
    took i2 _ (v, j) u32_law b2 e2 (λ x3 i3 f3 p3 b3 e3.
    took i3 _ (v, j) (list_law placed_codec) b3 e3 (λ x4 i4 f4 p4 b4 e4.
    subst (λ (p : FileEntry × Rest). FileFits p.0 × (i.left ≡ file_item p.0 ++ p.1.left)) (ok_is _ (v, j) e4) (
      record { file = f0; map = f1; tag = f2; format = f3; components = f4 },
      gathered (u32_item x0 ∷ map_item x1 ∷ u32_item x2 ∷ u32_item x3 ∷ list_item placed_item x4 ∷ []) (i.left) i4.left
          (p0 ∙ after _ _ _ (p1 ∙ after _ _ _ (p2 ∙ after _ _ _ (p3 ∙ after _ _ _ (p4))))),
    ))))))

file_again : (v : FileEntry) (more : List ℕ) (at : ℕ) → FileFits v →
    Ends (file_in (record { left = file_item v ++ more; at = at })) v more
unfolding file_in
file_again v more at fits =
    in_parts file_in
    (u32_item v.file ∷ map_item v.map ∷ u32_item v.tag ∷ u32_item v.format ∷ list_item placed_item v.components ∷ []) at v
    more
    (first _ _ _ _ _ u32_law v.file fits.file
    (λ _. first _ _ _ _ _ map_codec v.map fits.map
    (λ _. first _ _ _ _ _ u32_law v.tag fits.tag
    (λ _. first _ _ _ _ _ u32_law v.format fits.format
    (λ _. last _ _ _ _ (list_law placed_codec) v.components fits.components (λ _. refl))))))

pub file_codec : IsCodec file_in file_item FileFits
file_codec = record { again = file_again; found = file_found }

grant_found : (i : Rest) (v : Grant) (j : Rest) → IsBytes i.left → grant_in i ≡ Ok (v, j) →
    GrantFits v × (i.left ≡ grant_item v ++ j.left)
unfolding grant_in
grant_found i v j b e =
    took i _ (v, j) u32_law b e (λ x0 i0 f0 p0 b0 e0.
    took i0 _ (v, j) u32_law b0 e0 (λ x1 i1 f1 p1 b1 e1.
    took i1 _ (v, j) u32_law b1 e1 (λ x2 i2 f2 p2 b2 e2.
    took i2 _ (v, j) bool_law b2 e2 (λ x3 i3 f3 p3 b3 e3.
    took i3 _ (v, j) bool_law b3 e3 (λ x4 i4 f4 p4 b4 e4.
    took i4 _ (v, j) u64_law b4 e4 (λ x5 i5 f5 p5 b5 e5.
    took i5 _ (v, j) u64_law b5 e5 (λ x6 i6 f6 p6 b6 e6.
    took i6 _ (v, j) u64_law b6 e6 (λ x7 i7 f7 p7 b7 e7.
    subst (λ (p : Grant × Rest). GrantFits p.0 × (i.left ≡ grant_item p.0 ++ p.1.left)) (ok_is _ (v, j) e7) (
      record { number = f0; client = f1; file = f2; first = f5; end = f6; expiry = f7 },
      gathered (u32_item x0 ∷ u32_item x1 ∷ u32_item x2 ∷ bool_item x3 ∷ bool_item x4 ∷ u64_item x5 ∷ u64_item x6 ∷ u64_item x7
          ∷ []) (i.left) i7.left
          (p0 ∙ after _ _ _
          (p1 ∙ after _ _ _
          (p2 ∙ after _ _ _ (p3 ∙ after _ _ _ (p4 ∙ after _ _ _ (p5 ∙ after _ _ _ (p6 ∙ after _ _ _ (p7)))))))),
    )))))))))

grant_again : (v : Grant) (more : List ℕ) (at : ℕ) → GrantFits v →
    Ends (grant_in (record { left = grant_item v ++ more; at = at })) v more
unfolding grant_in
grant_again v more at fits =
    in_parts grant_in
    (u32_item v.number ∷ u32_item v.client ∷ u32_item v.file ∷ bool_item v.rw ∷ bool_item v.extending ∷ u64_item v.first
    ∷ u64_item v.end ∷ u64_item v.expiry ∷ []) at v more
    (first _ _ _ _ _ u32_law v.number fits.number
    (λ _. first _ _ _ _ _ u32_law v.client fits.client
    (λ _. first _ _ _ _ _ u32_law v.file fits.file
    (λ _. first _ _ _ _ _ bool_law v.rw tt
    (λ _. first _ _ _ _ _ bool_law v.extending tt
    (λ _. first _ _ _ _ _ u64_law v.first fits.first
    (λ _. first _ _ _ _ _ u64_law v.end fits.end (λ _. last _ _ _ _ u64_law v.expiry fits.expiry (λ _. refl)))))))))

pub grant_codec : IsCodec grant_in grant_item GrantFits
grant_codec = record { again = grant_again; found = grant_found }

counters_found : (i : Rest) (v : Counters) (j : Rest) → IsBytes i.left → counters_in i ≡ Ok (v, j) →
    CountersFit v × (i.left ≡ counters_item v ++ j.left)
unfolding counters_in
counters_found i v j b e =
    took i _ (v, j) u32_law b e (λ x0 i0 f0 p0 b0 e0.
    took i0 _ (v, j) u64_law b0 e0 (λ x1 i1 f1 p1 b1 e1.
    took i1 _ (v, j) u64_law b1 e1 (λ x2 i2 f2 p2 b2 e2.
    took i2 _ (v, j) u64_law b2 e2 (λ x3 i3 f3 p3 b3 e3.
    subst (λ (p : Counters × Rest). CountersFit p.0 × (i.left ≡ counters_item p.0 ++ p.1.left)) (ok_is _ (v, j) e3) (
      record { next_grant = f0; next_object = f1; next_nonce = f2; next_recall = f3 },
      gathered (u32_item x0 ∷ u64_item x1 ∷ u64_item x2 ∷ u64_item x3 ∷ []) (i.left) i3.left
          (p0 ∙ after _ _ _ (p1 ∙ after _ _ _ (p2 ∙ after _ _ _ (p3)))),
    )))))

counters_again : (v : Counters) (more : List ℕ) (at : ℕ) → CountersFit v →
    Ends (counters_in (record { left = counters_item v ++ more; at = at })) v more
unfolding counters_in
counters_again v more at fits =
    in_parts counters_in
    (u32_item v.next_grant ∷ u64_item v.next_object ∷ u64_item v.next_nonce ∷ u64_item v.next_recall ∷ []) at v more
    (first _ _ _ _ _ u32_law v.next_grant fits.next_grant
    (λ _. first _ _ _ _ _ u64_law v.next_object fits.next_object
    (λ _. first _ _ _ _ _ u64_law v.next_nonce fits.next_nonce
    (λ _. last _ _ _ _ u64_law v.next_recall fits.next_recall (λ _. refl)))))

pub counters_codec : IsCodec counters_in counters_item CountersFit
counters_codec = record { again = counters_again; found = counters_found }

slot_found : (i : Rest) (v : SlotEntry) (j : Rest) → IsBytes i.left → slot_in i ≡ Ok (v, j) →
    SlotFits v × (i.left ≡ slot_item v ++ j.left)
unfolding slot_in
slot_found i v j b e =
    took i _ (v, j) u32_law b e (λ x0 i0 f0 p0 b0 e0.
    took i0 _ (v, j) u32_law b0 e0 (λ x1 i1 f1 p1 b1 e1.
    took i1 _ (v, j) answer_law b1 e1 (λ x2 i2 f2 p2 b2 e2.
    subst (λ (p : SlotEntry × Rest). SlotFits p.0 × (i.left ≡ slot_item p.0 ++ p.1.left)) (ok_is _ (v, j) e2) (
      record { client = f0; sequence = f1; answer = f2 },
      gathered (u32_item x0 ∷ u32_item x1 ∷ opaque_item x2 ∷ []) (i.left) i2.left (p0 ∙ after _ _ _ (p1 ∙ after _ _ _ (p2))),
    ))))

slot_again : (v : SlotEntry) (more : List ℕ) (at : ℕ) → SlotFits v →
    Ends (slot_in (record { left = slot_item v ++ more; at = at })) v more
unfolding slot_in
slot_again v more at fits =
    in_parts slot_in (u32_item v.client ∷ u32_item v.sequence ∷ opaque_item v.answer ∷ []) at v more
    (first _ _ _ _ _ u32_law v.client fits.client
    (λ _. first _ _ _ _ _ u32_law v.sequence fits.sequence (λ _. last _ _ _ _ answer_law v.answer fits.answer (λ _. refl))))

pub slot_codec : IsCodec slot_in slot_item SlotFits
slot_codec = record { again = slot_again; found = slot_found }

-- ---- what a kind announces

zone_found : (i : Rest) (v : Entry) (j : Rest) → IsBytes i.left → zone_in i ≡ Ok (v, j) →
    EntryFits v × (u32_item 16 ++ i.left ≡ entry_item v ++ j.left)
unfolding zone_in
zone_found i v j b e =
    took i _ (v, j) u32_law b e (λ x0 i0 f0 p0 b0 e0.
    took i0 _ (v, j) u32_law b0 e0 (λ x1 i1 f1 p1 b1 e1.
    subst (λ (p : Entry × Rest). EntryFits p.0 × (u32_item 16 ++ i.left ≡ entry_item p.0 ++ p.1.left)) (ok_is _ (v, j) e1) (
      (f0, f1),
      gathered (u32_item 16 ∷ u32_item x0 ∷ u32_item x1 ∷ []) (u32_item 16 ++ i.left) i1.left
          (after _ _ _ (p0 ∙ after _ _ _ (p1))),
    )))

size_found : (i : Rest) (v : Entry) (j : Rest) → IsBytes i.left → size_in i ≡ Ok (v, j) →
    EntryFits v × (u32_item 5 ++ i.left ≡ entry_item v ++ j.left)
unfolding size_in
size_found i v j b e =
    took i _ (v, j) u32_law b e (λ x0 i0 f0 p0 b0 e0.
    took i0 _ (v, j) u64_law b0 e0 (λ x1 i1 f1 p1 b1 e1.
    subst (λ (p : Entry × Rest). EntryFits p.0 × (u32_item 5 ++ i.left ≡ entry_item p.0 ++ p.1.left)) (ok_is _ (v, j) e1) (
      (f0, f1),
      gathered (u32_item 5 ∷ u32_item x0 ∷ u64_item x1 ∷ []) (u32_item 5 ++ i.left) i1.left
          (after _ _ _ (p0 ∙ after _ _ _ (p1))),
    )))

fenced_found : (i : Rest) (v : Entry) (j : Rest) → IsBytes i.left → fenced_in i ≡ Ok (v, j) →
    EntryFits v × (u32_item 7 ++ i.left ≡ entry_item v ++ j.left)
unfolding fenced_in
fenced_found i v j b e =
    took i _ (v, j) u32_law b e (λ x0 i0 f0 p0 b0 e0.
    took i0 _ (v, j) u32_law b0 e0 (λ x1 i1 f1 p1 b1 e1.
    took i1 _ (v, j) u32_law b1 e1 (λ x2 i2 f2 p2 b2 e2.
    subst (λ (p : Entry × Rest). EntryFits p.0 × (u32_item 7 ++ i.left ≡ entry_item p.0 ++ p.1.left)) (ok_is _ (v, j) e2) (
      (f0, (f1, f2)),
      gathered (u32_item 7 ∷ u32_item x0 ∷ u32_item x1 ∷ u32_item x2 ∷ []) (u32_item 7 ++ i.left) i2.left
          (after _ _ _ (p0 ∙ after _ _ _ (p1 ∙ after _ _ _ (p2)))),
    ))))

missing_found : (i : Rest) (v : Entry) (j : Rest) → IsBytes i.left → missing_in i ≡ Ok (v, j) →
    EntryFits v × (u32_item 9 ++ i.left ≡ entry_item v ++ j.left)
unfolding missing_in
missing_found i v j b e =
    took i _ (v, j) u32_law b e (λ x0 i0 f0 p0 b0 e0.
    took i0 _ (v, j) u32_law b0 e0 (λ x1 i1 f1 p1 b1 e1.
    subst (λ (p : Entry × Rest). EntryFits p.0 × (u32_item 9 ++ i.left ≡ entry_item p.0 ++ p.1.left)) (ok_is _ (v, j) e1) (
      (f0, f1),
      gathered (u32_item 9 ∷ u32_item x0 ∷ u32_item x1 ∷ []) (u32_item 9 ++ i.left) i1.left
          (after _ _ _ (p0 ∙ after _ _ _ (p1))),
    )))

present_found : (i : Rest) (v : Entry) (j : Rest) → IsBytes i.left → present_in i ≡ Ok (v, j) →
    EntryFits v × (u32_item 10 ++ i.left ≡ entry_item v ++ j.left)
unfolding present_in
present_found i v j b e =
    took i _ (v, j) u32_law b e (λ x0 i0 f0 p0 b0 e0.
    took i0 _ (v, j) u32_law b0 e0 (λ x1 i1 f1 p1 b1 e1.
    took i1 _ (v, j) u32_law b1 e1 (λ x2 i2 f2 p2 b2 e2.
    took i2 _ (v, j) u64_law b2 e2 (λ x3 i3 f3 p3 b3 e3.
    subst (λ (p : Entry × Rest). EntryFits p.0 × (u32_item 10 ++ i.left ≡ entry_item p.0 ++ p.1.left)) (ok_is _ (v, j) e3) (
      (f0, (f1, f2, f3)),
      gathered (u32_item 10 ∷ u32_item x0 ∷ u32_item x1 ∷ u32_item x2 ∷ u64_item x3 ∷ []) (u32_item 10 ++ i.left) i3.left
          (after _ _ _ (p0 ∙ after _ _ _ (p1 ∙ after _ _ _ (p2 ∙ after _ _ _ (p3))))),
    )))))

format_found : (i : Rest) (v : Entry) (j : Rest) → IsBytes i.left → format_in i ≡ Ok (v, j) →
    EntryFits v × (u32_item 15 ++ i.left ≡ entry_item v ++ j.left)
unfolding format_in
format_found i v j b e =
    took i _ (v, j) u32_law b e (λ x0 i0 f0 p0 b0 e0.
    took i0 _ (v, j) u32_law b0 e0 (λ x1 i1 f1 p1 b1 e1.
    subst (λ (p : Entry × Rest). EntryFits p.0 × (u32_item 15 ++ i.left ≡ entry_item p.0 ++ p.1.left)) (ok_is _ (v, j) e1) (
      (f0, f1),
      gathered (u32_item 15 ∷ u32_item x0 ∷ u32_item x1 ∷ []) (u32_item 15 ++ i.left) i1.left
          (after _ _ _ (p0 ∙ after _ _ _ (p1))),
    )))

started_found : (i : Rest) (v : Entry) (j : Rest) → IsBytes i.left → only_in FenceStarted i ≡ Ok (v, j) →
    EntryFits v × (u32_item 6 ++ i.left ≡ entry_item v ++ j.left)
unfolding only_in
started_found i v j b e =
    took i _ (v, j) u32_law b e (λ x0 i0 f0 p0 b0 e0.
    subst (λ (p : Entry × Rest). EntryFits p.0 × (u32_item 6 ++ i.left ≡ entry_item p.0 ++ p.1.left)) (ok_is _ (v, j) e0)
    ((f0, tt), gathered (u32_item 6 ∷ u32_item x0 ∷ []) (u32_item 6 ++ i.left) i0.left (after _ _ _ (p0))))

repaired_found : (i : Rest) (v : Entry) (j : Rest) → IsBytes i.left → only_in Repaired i ≡ Ok (v, j) →
    EntryFits v × (u32_item 8 ++ i.left ≡ entry_item v ++ j.left)
unfolding only_in
repaired_found i v j b e =
    took i _ (v, j) u32_law b e (λ x0 i0 f0 p0 b0 e0.
    subst (λ (p : Entry × Rest). EntryFits p.0 × (u32_item 8 ++ i.left ≡ entry_item p.0 ++ p.1.left)) (ok_is _ (v, j) e0)
    ((f0, tt), gathered (u32_item 8 ∷ u32_item x0 ∷ []) (u32_item 8 ++ i.left) i0.left (after _ _ _ (p0))))

ready_found : (i : Rest) (v : Entry) (j : Rest) → IsBytes i.left → only_in Ready i ≡ Ok (v, j) →
    EntryFits v × (u32_item 14 ++ i.left ≡ entry_item v ++ j.left)
unfolding only_in
ready_found i v j b e =
    took i _ (v, j) u32_law b e (λ x0 i0 f0 p0 b0 e0.
    subst (λ (p : Entry × Rest). EntryFits p.0 × (u32_item 14 ++ i.left ≡ entry_item p.0 ++ p.1.left)) (ok_is _ (v, j) e0)
    ((f0, tt), gathered (u32_item 14 ∷ u32_item x0 ∷ []) (u32_item 14 ++ i.left) i0.left (after _ _ _ (p0))))

zoned_found : (i : Rest) (v : Entry) (j : Rest) → IsBytes i.left → only_in Zoned i ≡ Ok (v, j) →
    EntryFits v × (u32_item 17 ++ i.left ≡ entry_item v ++ j.left)
unfolding only_in
zoned_found i v j b e =
    took i _ (v, j) u32_law b e (λ x0 i0 f0 p0 b0 e0.
    subst (λ (p : Entry × Rest). EntryFits p.0 × (u32_item 17 ++ i.left ≡ entry_item p.0 ++ p.1.left)) (ok_is _ (v, j) e0)
    ((f0, tt), gathered (u32_item 17 ∷ u32_item x0 ∷ []) (u32_item 17 ++ i.left) i0.left (after _ _ _ (p0))))

-- a kind that announces a value of a codec
wrapped_found : {V : Type 0} (part : Rest → Result (V × Rest) LayoutErr) (spelling : V → List ℕ) (Fits : V → Type 0)
    (make : V → Entry) (kind : ℕ) → IsCodec part spelling Fits →
    ((w : V) → Fits w → EntryFits (make w)) → ((w : V) → entry_item (make w) ≡ u32_item kind ++ spelling w) →
    (i : Rest) (v : Entry) (j : Rest) → IsBytes i.left → ◌>>=◌ {B = Entry × Rest} (part i) (λ w. Ok (make w.0, w.1)) ≡ Ok (v, j) →
    EntryFits v × (u32_item kind ++ i.left ≡ entry_item v ++ j.left)
wrapped_found {V = V} part spelling Fits make kind codec fits spelled i v j bytes e =
    let a = step part spelling Fits i (λ (w : V × Rest). Ok (make w.0, w.1)) (v, j) codec bytes e in
    let both = ok_is _ (v, j) a.2 in
    let whole : u32_item kind ++ i.left ≡ entry_item (make a.0.0) ++ a.0.1.left =
    after (u32_item kind) _ _ a.1.front ∙ sym (append_assoc (u32_item kind) (spelling a.0.0) a.0.1.left)
    ∙ ap (λ (t : List ℕ). t ++ a.0.1.left) (sym (spelled a.0.0)) in
    subst (λ (p : Entry × Rest). EntryFits p.0 × (u32_item kind ++ i.left ≡ entry_item p.0 ++ p.1.left)) both
    (fits a.0.0 a.1.fits, whole)

-- ---- by its kind

abbrev pub Announces : (kind : ℕ) → Rest → Entry → Rest → Type 0
Announces kind i v j = EntryFits v × (u32_item kind ++ i.left ≡ entry_item v ++ j.left)

-- it is this kind, or a later one
one_of : (kind n : ℕ) (x rest : Result (Entry × Rest) LayoutErr) (i : Rest) (v : Entry) (j : Rest) →
    (x ≡ Ok (v, j) → Announces n i v j) → (rest ≡ Ok (v, j) → Announces kind i v j) →
    cond (eqb kind n) x rest ≡ Ok (v, j) → Announces kind i v j
one_of kind n x rest i v j this others e = elim (chosen (eqb kind n) x rest (Ok (v, j)) e) [
  | inl p ↦ subst (λ (k : ℕ). Announces k i v j) (sym (eqb-true kind n p.0)) (this p.1)
  | inr p ↦ others p.1
]

change_found : (at kind : ℕ) (i : Rest) (v : Entry) (j : Rest) → IsBytes i.left → change_in at kind i ≡ Ok (v, j) →
    Announces kind i v j
unfolding change_in
change_found at kind i v j bytes e =
    one_of kind 5 _ _ i v j (size_found i v j bytes)
    (λ r5. one_of kind 6 _ _ i v j (started_found i v j bytes)
    (λ r6. one_of kind 7 _ _ i v j (fenced_found i v j bytes)
    (λ r7. one_of kind 8 _ _ i v j (repaired_found i v j bytes)
    (λ r8. one_of kind 9 _ _ i v j (missing_found i v j bytes)
    (λ r9. one_of kind 10 _ _ i v j (present_found i v j bytes)
    (λ r10. one_of kind 14 _ _ i v j (ready_found i v j bytes)
    (λ r14. one_of kind 15 _ _ i v j (format_found i v j bytes)
    (λ r15. one_of kind 17 _ _ i v j (zoned_found i v j bytes)
    (λ r17. absurd (err_is_not _ _ r17)) r15) r14) r10) r9) r8) r7) r6) r5) e

behind_found : (at kind : ℕ) (i : Rest) (v : Entry) (j : Rest) → IsBytes i.left → behind_kind at kind i ≡ Ok (v, j) →
    Announces kind i v j
unfolding behind_kind
behind_found at kind i v j bytes e =
    one_of kind 1 _ _ i v j
    (wrapped_found drive_in drive_item DriveFits entry.Drive 1 drive_codec (λ w f. f) (λ w. refl) i v j bytes)
    (λ r1. one_of kind 2 _ _ i v j
    (wrapped_found file_in file_item FileFits entry.File 2 file_codec (λ w f. f) (λ w. refl) i v j bytes)
    (λ r2. one_of kind 3 _ _ i v j
    (wrapped_found grant_in grant_item GrantFits entry.Grant 3 grant_codec (λ w f. f) (λ w. refl) i v j bytes)
    (λ r3. one_of kind 4 _ _ i v j
    (wrapped_found u32_part u32_item (λ n. n < 2 ^ 32) entry.Return 4 u32_law (λ w f. f) (λ w. refl) i v j bytes)
    (λ r4. one_of kind 11 _ _ i v j
    (wrapped_found counters_in counters_item CountersFit entry.Counters 11 counters_codec (λ w f. f) (λ w. refl) i v j bytes)
    (λ r11. one_of kind 12 _ _ i v j
    (wrapped_found slot_in slot_item SlotFits entry.Slot 12 slot_codec (λ w f. f) (λ w. refl) i v j bytes)
    (λ r12. one_of kind 13 _ _ i v j
    (wrapped_found u32_part u32_item (λ n. n < 2 ^ 32) entry.Format 13 u32_law (λ w f. f) (λ w. refl) i v j bytes)
    (λ r13. one_of kind 16 _ _ i v j (zone_found i v j bytes)
    (λ r16. change_found at kind i v j bytes r16) r13) r12) r11) r4) r3) r2) r1) e

-- ---- entries

entry_found : (i : Rest) (v : Entry) (j : Rest) → IsBytes i.left → entry_in i ≡ Ok (v, j) →
    EntryFits v × (i.left ≡ entry_item v ++ j.left)
unfolding entry_in
entry_found i v j bytes e =
    let a = step _ _ _ i _ (v, j) u32_law bytes e in
    let b = behind_found i.at a.0.0 a.0.1 v j a.1.bytes a.2 in
    (b.0, a.1.front ∙ b.1)

-- a kind, and what it announces
kind_again : (kind : ℕ) (rest : List ℕ) (at : ℕ) (v : Entry) (more : List ℕ) → kind < 2 ^ 32 →
    ((p : ℕ) → Ends (behind_kind at kind (record { left = rest; at = p })) v more) →
    Ends (entry_in (record { left = u32_item kind ++ rest; at = at })) v more
unfolding entry_in
kind_again kind rest at v more fits h = first _ _ _ _ _ u32_law kind fits h

entry_again : (v : Entry) (more : List ℕ) (at : ℕ) → EntryFits v →
    Ends (entry_in (record { left = entry_item v ++ more; at = at })) v more
unfolding behind_kind change_in zone_in size_in fenced_in missing_in present_in format_in only_in
entry_again (entry.Drive v) more at fits =
    in_parts entry_in (u32_item 1 ∷ drive_item v ∷ []) at (entry.Drive v) more
    (kind_again 1 _ at _ more (omega arith) (λ _. last _ _ _ _ drive_codec v fits (λ _. refl)))
entry_again (entry.File v) more at fits =
    in_parts entry_in (u32_item 2 ∷ file_item v ∷ []) at (entry.File v) more
    (kind_again 2 _ at _ more (omega arith) (λ _. last _ _ _ _ file_codec v fits (λ _. refl)))
entry_again (entry.Grant v) more at fits =
    in_parts entry_in (u32_item 3 ∷ grant_item v ∷ []) at (entry.Grant v) more
    (kind_again 3 _ at _ more (omega arith) (λ _. last _ _ _ _ grant_codec v fits (λ _. refl)))
entry_again (entry.Return g) more at fits =
    in_parts entry_in (u32_item 4 ∷ u32_item g ∷ []) at (entry.Return g) more
    (kind_again 4 _ at _ more (omega arith) (λ _. last _ _ _ _ u32_law g fits (λ _. refl)))
entry_again (entry.Counters v) more at fits =
    in_parts entry_in (u32_item 11 ∷ counters_item v ∷ []) at (entry.Counters v) more
    (kind_again 11 _ at _ more (omega arith) (λ _. last _ _ _ _ counters_codec v fits (λ _. refl)))
entry_again (entry.Slot v) more at fits =
    in_parts entry_in (u32_item 12 ∷ slot_item v ∷ []) at (entry.Slot v) more
    (kind_again 12 _ at _ more (omega arith) (λ _. last _ _ _ _ slot_codec v fits (λ _. refl)))
entry_again (entry.Format f) more at fits =
    in_parts entry_in (u32_item 13 ∷ u32_item f ∷ []) at (entry.Format f) more
    (kind_again 13 _ at _ more (omega arith) (λ _. last _ _ _ _ u32_law f fits (λ _. refl)))
entry_again (entry.Zone d z) more at fits =
    in_parts entry_in (u32_item 16 ∷ u32_item d ∷ u32_item z ∷ []) at (entry.Zone d z) more
    (kind_again 16 _ at _ more (omega arith)
    (λ _. first _ _ _ _ _ u32_law d fits.0 (λ _. last _ _ _ _ u32_law z fits.1 (λ _. refl))))
entry_again (entry.Change f (Size n)) more at fits =
    in_parts entry_in (u32_item 5 ∷ u32_item f ∷ u64_item n ∷ []) at (entry.Change f (Size n)) more
    (kind_again 5 _ at _ more (omega arith)
    (λ _. first _ _ _ _ _ u32_law f fits.0 (λ _. last _ _ _ _ u64_law n fits.1 (λ _. refl))))
entry_again (entry.Change f FenceStarted) more at fits =
    in_parts entry_in (u32_item 6 ∷ u32_item f ∷ []) at (entry.Change f FenceStarted) more
    (kind_again 6 _ at _ more (omega arith) (λ _. last _ _ _ _ u32_law f fits.0 (λ _. refl)))
entry_again (entry.Change f (Fenced t m)) more at fits =
    in_parts entry_in (u32_item 7 ∷ u32_item f ∷ u32_item t ∷ u32_item m ∷ []) at (entry.Change f (Fenced t m)) more
    (kind_again 7 _ at _ more (omega arith)
    (λ _. first _ _ _ _ _ u32_law f fits.0
    (λ _. first _ _ _ _ _ u32_law t fits.1.0 (λ _. last _ _ _ _ u32_law m fits.1.1 (λ _. refl)))))
entry_again (entry.Change f Repaired) more at fits =
    in_parts entry_in (u32_item 8 ∷ u32_item f ∷ []) at (entry.Change f Repaired) more
    (kind_again 8 _ at _ more (omega arith) (λ _. last _ _ _ _ u32_law f fits.0 (λ _. refl)))
entry_again (entry.Change f (Missing k)) more at fits =
    in_parts entry_in (u32_item 9 ∷ u32_item f ∷ u32_item k ∷ []) at (entry.Change f (Missing k)) more
    (kind_again 9 _ at _ more (omega arith)
    (λ _. first _ _ _ _ _ u32_law f fits.0 (λ _. last _ _ _ _ u32_law k fits.1 (λ _. refl))))
entry_again (entry.Change f (Present k d o)) more at fits =
    in_parts entry_in (u32_item 10 ∷ u32_item f ∷ u32_item k ∷ u32_item d ∷ u64_item o ∷ []) at
    (entry.Change f (Present k d o)) more
    (kind_again 10 _ at _ more (omega arith)
    (λ _. first _ _ _ _ _ u32_law f fits.0
    (λ _. first _ _ _ _ _ u32_law k fits.1.0
    (λ _. first _ _ _ _ _ u32_law d fits.1.1 (λ _. last _ _ _ _ u64_law o fits.1.2 (λ _. refl))))))
entry_again (entry.Change f Ready) more at fits =
    in_parts entry_in (u32_item 14 ∷ u32_item f ∷ []) at (entry.Change f Ready) more
    (kind_again 14 _ at _ more (omega arith) (λ _. last _ _ _ _ u32_law f fits.0 (λ _. refl)))
entry_again (entry.Change f (Format m)) more at fits =
    in_parts entry_in (u32_item 15 ∷ u32_item f ∷ u32_item m ∷ []) at (entry.Change f (Format m)) more
    (kind_again 15 _ at _ more (omega arith)
    (λ _. first _ _ _ _ _ u32_law f fits.0 (λ _. last _ _ _ _ u32_law m fits.1 (λ _. refl))))
entry_again (entry.Change f Zoned) more at fits =
    in_parts entry_in (u32_item 17 ∷ u32_item f ∷ []) at (entry.Change f Zoned) more
    (kind_again 17 _ at _ more (omega arith) (λ _. last _ _ _ _ u32_law f fits.0 (λ _. refl)))

pub entry_codec : IsCodec entry_in entry_item EntryFits
entry_codec = record { again = entry_again; found = entry_found }

-- ---- records

record_again : (v : Record) (more : List ℕ) (at : ℕ) → RecordFits v →
    Ends (record_in (record { left = record_item v ++ more; at = at })) v more
unfolding record_in
record_again v more at fits = last _ _ _ _ (list_law entry_codec) v.entries fits (λ _. refl)

record_found : (i : Rest) (v : Record) (j : Rest) → IsBytes i.left → record_in i ≡ Ok (v, j) →
    RecordFits v × (i.left ≡ record_item v ++ j.left)
unfolding record_in
record_found i v j bytes e =
    let a = step _ _ _ i _ (v, j) (list_law entry_codec) bytes e in
    let both = ok_is _ (v, j) a.2 in
    subst (λ (p : Record × Rest). RecordFits p.0 × (i.left ≡ record_item p.0 ++ p.1.left)) both (a.1.fits, a.1.front)

pub record_codec : IsCodec record_in record_item RecordFits
record_codec = record { again = record_again; found = record_found }
