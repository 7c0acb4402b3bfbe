-- Reading a structure and spelling it are each other's inverse.
use Rattle.std.proofs.Common.{◌≡◌, ℕ, eqb, List, [], ◌∷◌, ◌++◌, inl, inr, Ok, refl, subst, ◌∙◌, arith}
use Rattle.std.proofs.lemmas.Bool.{eqb-true}
use Rattle.osd_lists.specs.Blocks.{IsBytes}
use Rattle.data_map.specs.declared.check.RawMap.{RawMap}
use Rattle.xdr_codec.specs.Items.{u32_item, u64_item, i64_item, bool_item, fixed_item, opaque_item}
use Rattle.xdr_codec.proofs.Codec.{IsCodec}
use Rattle.xdr_codec.specs.Reading.{Rest}
use Rattle.xdr_codec.proofs.ItemLaws.{ok_is, err_is_not, chosen}
use Rattle.layout_types.specs.declared.objid.ObjId.{ObjId}
use Rattle.layout_types.specs.declared.cred.OsdVersion.TheVariants as version
use Rattle.layout_types.specs.declared.cred.KeySecurity.TheVariants as security
use Rattle.layout_types.specs.declared.cred.ObjectCred.{ObjectCred}
use Rattle.layout_types.specs.declared.layout.Layout.{Layout}
use Rattle.layout_types.specs.declared.device_addr.TargetId.{TargetId}
use Rattle.layout_types.specs.declared.device_addr.TargetId.TheVariants as target
use Rattle.layout_types.specs.declared.device_addr.NetAddr.{NetAddr}
use Rattle.layout_types.specs.declared.device_addr.DeviceAddr.{DeviceAddr}
use Rattle.layout_types.specs.declared.update.LayoutUpdate.{LayoutUpdate}
use Rattle.layout_types.specs.declared.ioerrs.Errno.TheVariants as errno
use Rattle.layout_types.specs.declared.ioerrs.IoErr.{IoErr}
use Rattle.layout_types.specs.declared.ioerrs.IoErrs.{IoErrs}
use Rattle.layout_types.specs.declared.hint.LayoutHint.{LayoutHint}
use Rattle.layout_types.specs.Enumerations.{version_number, security_number, errno_number}
use Rattle.layout_types.specs.Grammar.{optional_item, list_item}
use Rattle.layout_types.specs.Spelling.{objid_item, ObjIdFits, cred_item, CredFits, map_item, MapFits, layout_item, LayoutFits, target_item, TargetFits, netaddr_item, NetAddrFits, deviceaddr_item, DeviceAddrFits, update_item, UpdateFits, ioerr_item, IoErrFits, ioerrs_item, IoErrsFits, hint_item, HintFits}
use Rattle.layout_types.specs.Reading.{objid_in, cred_in, map_in, layout_in, target_in, netaddr_in, deviceaddr_in, update_in, ioerr_in, ioerrs_in, hint_in}
use Rattle.layout_types.proofs.Steps.{u32_law, u64_law, i64_law, bool_law, fixed_law, opaque_law, optional_law, list_law, step, gathered, after, Ends, in_parts, first, last}
use Rattle.layout_types.proofs.EnumCodecs.{algorithm_law, version_law, security_law, errno_law}

-- ---- ObjId

objid_again : (v : ObjId) (more : List ℕ) (at : ℕ) → ObjIdFits v →
    Ends (objid_in (record { left = objid_item v ++ more; at = at })) v more
unfolding objid_in
objid_again v more at fits =
    in_parts objid_in (fixed_item v.oid_device_id ∷ u64_item v.oid_partition_id ∷ u64_item v.oid_object_id ∷ []) at v more
    (first _ _ _ _ _ (fixed_law 16) v.oid_device_id fits.device_id
    (λ _. first _ _ _ _ _ u64_law v.oid_partition_id fits.partition_id
    (λ _. last _ _ _ _ u64_law v.oid_object_id fits.object_id (λ _. refl))))

objid_found : (i : Rest) (v : ObjId) (j : Rest) → IsBytes i.left → objid_in i ≡ Ok (v, j) →
    ObjIdFits v × (i.left ≡ objid_item v ++ j.left)
unfolding objid_in
objid_found i v j bytes e =
    let a = step _ _ _ i _ (v, j) (fixed_law 16) bytes e in
    let b = step _ _ _ a.0.1 _ (v, j) u64_law a.1.bytes a.2 in
    let c = step _ _ _ b.0.1 _ (v, j) u64_law b.1.bytes b.2 in
    let whole = gathered (fixed_item a.0.0 ∷ u64_item b.0.0 ∷ u64_item c.0.0 ∷ []) i.left c.0.1.left
    (a.1.front ∙ after _ _ _ (b.1.front ∙ after _ _ _ (c.1.front))) in
    let both = ok_is _ (v, j) c.2 in
    subst (λ (p : ObjId × Rest). ObjIdFits p.0 × (i.left ≡ objid_item p.0 ++ p.1.left)) both
    (record { device_id = a.1.fits; partition_id = b.1.fits; object_id = c.1.fits }, whole)

pub objid_codec : IsCodec objid_in objid_item ObjIdFits
objid_codec = record { again = objid_again; found = objid_found }

-- ---- ObjectCred

cred_again : (v : ObjectCred) (more : List ℕ) (at : ℕ) → CredFits v →
    Ends (cred_in (record { left = cred_item v ++ more; at = at })) v more
unfolding cred_in
cred_again v more at fits =
    in_parts cred_in
    (objid_item v.oc_object_id ∷ u32_item (version_number v.oc_osd_version) ∷ u32_item
    (security_number v.oc_cap_key_sec) ∷ opaque_item v.oc_capability_key ∷ opaque_item v.oc_capability ∷ []) at v more
    (first _ _ _ _ _ objid_codec v.oc_object_id fits.object_id
    (λ _. first _ _ _ _ _ version_law v.oc_osd_version tt
    (λ _. first _ _ _ _ _ security_law v.oc_cap_key_sec tt
    (λ _. first _ _ _ _ _ opaque_law v.oc_capability_key fits.capability_key
    (λ _. last _ _ _ _ opaque_law v.oc_capability fits.capability (λ _. refl))))))

cred_found : (i : Rest) (v : ObjectCred) (j : Rest) → IsBytes i.left → cred_in i ≡ Ok (v, j) →
    CredFits v × (i.left ≡ cred_item v ++ j.left)
unfolding cred_in
cred_found i v j bytes e =
    let a = step _ _ _ i _ (v, j) objid_codec bytes e in
    let b = step _ _ _ a.0.1 _ (v, j) version_law a.1.bytes a.2 in
    let c = step _ _ _ b.0.1 _ (v, j) security_law b.1.bytes b.2 in
    let d = step _ _ _ c.0.1 _ (v, j) opaque_law c.1.bytes c.2 in
    let f = step _ _ _ d.0.1 _ (v, j) opaque_law d.1.bytes d.2 in
    let whole = gathered
    (objid_item a.0.0 ∷ u32_item (version_number b.0.0) ∷ u32_item
    (security_number c.0.0) ∷ opaque_item d.0.0 ∷ opaque_item f.0.0 ∷ []) i.left f.0.1.left
    (a.1.front ∙ after _ _ _ (b.1.front ∙ after _ _ _ (c.1.front ∙ after _ _ _ (d.1.front ∙ after _ _ _ (f.1.front))))) in
    let both = ok_is _ (v, j) f.2 in
    subst (λ (p : ObjectCred × Rest). CredFits p.0 × (i.left ≡ cred_item p.0 ++ p.1.left)) both
    (record { object_id = a.1.fits; capability_key = d.1.fits; capability = f.1.fits }, whole)

pub cred_codec : IsCodec cred_in cred_item CredFits
cred_codec = record { again = cred_again; found = cred_found }

-- ---- RawMap

map_again : (v : RawMap) (more : List ℕ) (at : ℕ) → MapFits v →
    Ends (map_in (record { left = map_item v ++ more; at = at })) v more
unfolding map_in
map_again v more at fits =
    in_parts map_in
    (u32_item v.comps ∷ u64_item v.unit ∷ u32_item v.width ∷ u32_item v.depth ∷ u32_item v.mirrors ∷ u32_item v.algorithm
    ∷ []) at v more
    (first _ _ _ _ _ u32_law v.comps fits.comps
    (λ _. first _ _ _ _ _ u64_law v.unit fits.unit
    (λ _. first _ _ _ _ _ u32_law v.width fits.width
    (λ _. first _ _ _ _ _ u32_law v.depth fits.depth
    (λ _. first _ _ _ _ _ u32_law v.mirrors fits.mirrors
    (λ _. last _ _ _ _ algorithm_law v.algorithm fits.algorithm (λ _. refl)))))))

map_found : (i : Rest) (v : RawMap) (j : Rest) → IsBytes i.left → map_in i ≡ Ok (v, j) →
    MapFits v × (i.left ≡ map_item v ++ j.left)
unfolding map_in
map_found i v j bytes e =
    let a = step _ _ _ i _ (v, j) u32_law bytes e in
    let b = step _ _ _ a.0.1 _ (v, j) u64_law a.1.bytes a.2 in
    let c = step _ _ _ b.0.1 _ (v, j) u32_law b.1.bytes b.2 in
    let d = step _ _ _ c.0.1 _ (v, j) u32_law c.1.bytes c.2 in
    let f = step _ _ _ d.0.1 _ (v, j) u32_law d.1.bytes d.2 in
    let g = step _ _ _ f.0.1 _ (v, j) algorithm_law f.1.bytes f.2 in
    let whole = gathered
    (u32_item a.0.0 ∷ u64_item b.0.0 ∷ u32_item c.0.0 ∷ u32_item d.0.0 ∷ u32_item f.0.0 ∷ u32_item g.0.0 ∷ []) i.left
    g.0.1.left (a.1.front
    ∙ after _ _ _
    (b.1.front ∙ after _ _ _
    (c.1.front ∙ after _ _ _ (d.1.front ∙ after _ _ _ (f.1.front ∙ after _ _ _ (g.1.front)))))) in
    let both = ok_is _ (v, j) g.2 in
    subst (λ (p : RawMap × Rest). MapFits p.0 × (i.left ≡ map_item p.0 ++ p.1.left)) both (
      record {
        comps = a.1.fits;
        unit = b.1.fits;
        width = c.1.fits;
        depth = d.1.fits;
        mirrors = f.1.fits;
        algorithm =
            g.1.fits;
      },
      whole,
    )

pub map_codec : IsCodec map_in map_item MapFits
map_codec = record { again = map_again; found = map_found }

-- ---- Layout

layout_again : (v : Layout) (more : List ℕ) (at : ℕ) → LayoutFits v →
    Ends (layout_in (record { left = layout_item v ++ more; at = at })) v more
unfolding layout_in
layout_again v more at fits =
    in_parts layout_in (map_item v.olo_map ∷ u32_item v.olo_comps_index ∷ list_item cred_item v.olo_components ∷ []) at v more
    (first _ _ _ _ _ map_codec v.olo_map fits.map
    (λ _. first _ _ _ _ _ u32_law v.olo_comps_index fits.comps_index
    (λ _. last _ _ _ _ (list_law cred_codec) v.olo_components fits.components (λ _. refl))))

layout_found : (i : Rest) (v : Layout) (j : Rest) → IsBytes i.left → layout_in i ≡ Ok (v, j) →
    LayoutFits v × (i.left ≡ layout_item v ++ j.left)
unfolding layout_in
layout_found i v j bytes e =
    let a = step _ _ _ i _ (v, j) map_codec bytes e in
    let b = step _ _ _ a.0.1 _ (v, j) u32_law a.1.bytes a.2 in
    let c = step _ _ _ b.0.1 _ (v, j) (list_law cred_codec) b.1.bytes b.2 in
    let whole = gathered (map_item a.0.0 ∷ u32_item b.0.0 ∷ list_item cred_item c.0.0 ∷ []) i.left c.0.1.left
    (a.1.front ∙ after _ _ _ (b.1.front ∙ after _ _ _ (c.1.front))) in
    let both = ok_is _ (v, j) c.2 in
    subst (λ (p : Layout × Rest). LayoutFits p.0 × (i.left ≡ layout_item p.0 ++ p.1.left)) both
    (record { map = a.1.fits; comps_index = b.1.fits; components = c.1.fits }, whole)

pub layout_codec : IsCodec layout_in layout_item LayoutFits
layout_codec = record { again = layout_again; found = layout_found }

-- ---- TargetId

target_again : (v : TargetId) (more : List ℕ) (at : ℕ) → TargetFits v →
    Ends (target_in (record { left = target_item v ++ more; at = at })) v more
unfolding target_in
target_again target.Anon more at fits = last _ _ _ _ u32_law 1 (omega arith) (λ _. refl)
target_again (target.ScsiName name) more at fits =
    in_parts target_in (u32_item 2 ∷ opaque_item name ∷ []) at (target.ScsiName name) more
    (first _ _ _ _ _ u32_law 2 (omega arith) (λ _. last _ _ _ _ opaque_law name fits (λ _. refl)))
target_again (target.ScsiDeviceId id) more at fits =
    in_parts target_in (u32_item 3 ∷ opaque_item id ∷ []) at (target.ScsiDeviceId id) more
    (first _ _ _ _ _ u32_law 3 (omega arith) (λ _. last _ _ _ _ opaque_law id fits (λ _. refl)))

abbrev IsTarget : Rest → TargetId × Rest → Type 0
IsTarget i p = TargetFits p.0 × (i.left ≡ target_item p.0 ++ p.1.left)

target_found : (i : Rest) (v : TargetId) (j : Rest) → IsBytes i.left → target_in i ≡ Ok (v, j) →
    TargetFits v × (i.left ≡ target_item v ++ j.left)
unfolding target_in
target_found i v j bytes e =
    let a = step _ _ _ i _ (v, j) u32_law bytes e in
    elim (chosen (eqb a.0.0 1) _ _ _ a.2) [
      | inl p ↦ subst (IsTarget i) (ok_is _ (v, j) p.1) (tt, rw (eqb-true _ _ p.0) at a.1.front)
      | inr p ↦
          elim (chosen (eqb a.0.0 2) _ _ _ p.1) [
            | inl q ↦
                let b = step _ _ _ a.0.1 _ (v, j) opaque_law a.1.bytes q.1 in
                let front : i.left ≡ u32_item 2 ++ a.0.1.left = rw (eqb-true _ _ q.0) at a.1.front in
                subst (IsTarget i) (ok_is _ (v, j) b.2)
                (b.1.fits, gathered (u32_item 2 ∷ opaque_item b.0.0 ∷ []) i.left b.0.1.left (front ∙ after _ _ _ b.1.front))
            | inr q ↦
                elim (chosen (eqb a.0.0 3) _ _ _ q.1) [
                  | inl r ↦
                      let b = step _ _ _ a.0.1 _ (v, j) opaque_law a.1.bytes r.1 in
                      let front : i.left ≡ u32_item 3 ++ a.0.1.left = rw (eqb-true _ _ r.0) at a.1.front in
                      subst (IsTarget i) (ok_is _ (v, j) b.2) (
                        b.1.fits,
                        gathered (u32_item 3 ∷ opaque_item b.0.0 ∷ []) i.left b.0.1.left
                            (front ∙ after _ _ _ b.1.front),
                      )
                  | inr r ↦ absurd (err_is_not _ _ r.1)
                ]
          ]
    ]

target_codec : IsCodec target_in target_item TargetFits
target_codec = record { again = target_again; found = target_found }

-- ---- NetAddr

netaddr_again : (v : NetAddr) (more : List ℕ) (at : ℕ) → NetAddrFits v →
    Ends (netaddr_in (record { left = netaddr_item v ++ more; at = at })) v more
unfolding netaddr_in
netaddr_again v more at fits =
    in_parts netaddr_in (opaque_item v.na_r_netid ∷ opaque_item v.na_r_addr ∷ []) at v more
    (first _ _ _ _ _ opaque_law v.na_r_netid fits.netid (λ _. last _ _ _ _ opaque_law v.na_r_addr fits.addr (λ _. refl)))

netaddr_found : (i : Rest) (v : NetAddr) (j : Rest) → IsBytes i.left → netaddr_in i ≡ Ok (v, j) →
    NetAddrFits v × (i.left ≡ netaddr_item v ++ j.left)
unfolding netaddr_in
netaddr_found i v j bytes e =
    let a = step _ _ _ i _ (v, j) opaque_law bytes e in
    let b = step _ _ _ a.0.1 _ (v, j) opaque_law a.1.bytes a.2 in
    let whole = gathered (opaque_item a.0.0 ∷ opaque_item b.0.0 ∷ []) i.left b.0.1.left (a.1.front ∙ after _ _ _ (b.1.front)) in
    let both = ok_is _ (v, j) b.2 in
    subst (λ (p : NetAddr × Rest). NetAddrFits p.0 × (i.left ≡ netaddr_item p.0 ++ p.1.left)) both
    (record { netid = a.1.fits; addr = b.1.fits }, whole)

pub netaddr_codec : IsCodec netaddr_in netaddr_item NetAddrFits
netaddr_codec = record { again = netaddr_again; found = netaddr_found }

-- ---- DeviceAddr

deviceaddr_again : (v : DeviceAddr) (more : List ℕ) (at : ℕ) → DeviceAddrFits v →
    Ends (deviceaddr_in (record { left = deviceaddr_item v ++ more; at = at })) v more
unfolding deviceaddr_in
deviceaddr_again v more at fits =
    in_parts deviceaddr_in
    (target_item v.oda_targetid ∷ optional_item netaddr_item v.oda_targetaddr ∷ fixed_item v.oda_lun
    ∷ opaque_item v.oda_systemid ∷ cred_item v.oda_root_obj_cred ∷ opaque_item v.oda_osdname ∷ []) at v more
    (first _ _ _ _ _ target_codec v.oda_targetid fits.targetid
    (λ _. first _ _ _ _ _ (optional_law netaddr_codec) v.oda_targetaddr fits.targetaddr
    (λ _. first _ _ _ _ _ (fixed_law 8) v.oda_lun fits.lun
    (λ _. first _ _ _ _ _ opaque_law v.oda_systemid fits.systemid
    (λ _. first _ _ _ _ _ cred_codec v.oda_root_obj_cred fits.root_obj_cred
    (λ _. last _ _ _ _ opaque_law v.oda_osdname fits.osdname (λ _. refl)))))))

deviceaddr_found : (i : Rest) (v : DeviceAddr) (j : Rest) → IsBytes i.left → deviceaddr_in i ≡ Ok (v, j) →
    DeviceAddrFits v × (i.left ≡ deviceaddr_item v ++ j.left)
unfolding deviceaddr_in
deviceaddr_found i v j bytes e =
    let a = step _ _ _ i _ (v, j) target_codec bytes e in
    let b = step _ _ _ a.0.1 _ (v, j) (optional_law netaddr_codec) a.1.bytes a.2 in
    let c = step _ _ _ b.0.1 _ (v, j) (fixed_law 8) b.1.bytes b.2 in
    let d = step _ _ _ c.0.1 _ (v, j) opaque_law c.1.bytes c.2 in
    let f = step _ _ _ d.0.1 _ (v, j) cred_codec d.1.bytes d.2 in
    let g = step _ _ _ f.0.1 _ (v, j) opaque_law f.1.bytes f.2 in
    let whole = gathered
    (target_item a.0.0 ∷ optional_item netaddr_item b.0.0 ∷ fixed_item c.0.0 ∷ opaque_item d.0.0 ∷ cred_item f.0.0
    ∷ opaque_item g.0.0 ∷ []) i.left g.0.1.left
    (a.1.front ∙ after _ _ _
    (b.1.front ∙ after _ _ _ (c.1.front ∙ after _ _ _ (d.1.front ∙ after _ _ _ (f.1.front ∙ after _ _ _ (g.1.front)))))) in
    let both = ok_is _ (v, j) g.2 in
    subst (λ (p : DeviceAddr × Rest). DeviceAddrFits p.0 × (i.left ≡ deviceaddr_item p.0 ++ p.1.left)) both (
      record {
        targetid = a.1.fits;
        targetaddr = b.1.fits;
        lun = c.1.fits;
        systemid = d.1.fits;
        root_obj_cred =
            f.1.fits;
        osdname = g.1.fits;
      },
      whole,
    )

pub deviceaddr_codec : IsCodec deviceaddr_in deviceaddr_item DeviceAddrFits
deviceaddr_codec = record { again = deviceaddr_again; found = deviceaddr_found }

-- ---- LayoutUpdate

update_again : (v : LayoutUpdate) (more : List ℕ) (at : ℕ) → UpdateFits v →
    Ends (update_in (record { left = update_item v ++ more; at = at })) v more
unfolding update_in
update_again v more at fits =
    in_parts update_in (optional_item i64_item v.dsu_delta ∷ bool_item v.olu_ioerr_flag ∷ []) at v more
    (first _ _ _ _ _ (optional_law i64_law) v.dsu_delta fits (λ _. last _ _ _ _ bool_law v.olu_ioerr_flag tt (λ _. refl)))

update_found : (i : Rest) (v : LayoutUpdate) (j : Rest) → IsBytes i.left → update_in i ≡ Ok (v, j) →
    UpdateFits v × (i.left ≡ update_item v ++ j.left)
unfolding update_in
update_found i v j bytes e =
    let a = step _ _ _ i _ (v, j) (optional_law i64_law) bytes e in
    let b = step _ _ _ a.0.1 _ (v, j) bool_law a.1.bytes a.2 in
    let whole = gathered (optional_item i64_item a.0.0 ∷ bool_item b.0.0 ∷ []) i.left b.0.1.left
    (a.1.front ∙ after _ _ _ (b.1.front)) in
    let both = ok_is _ (v, j) b.2 in
    subst (λ (p : LayoutUpdate × Rest). UpdateFits p.0 × (i.left ≡ update_item p.0 ++ p.1.left)) both (a.1.fits, whole)

pub update_codec : IsCodec update_in update_item UpdateFits
update_codec = record { again = update_again; found = update_found }

-- ---- IoErr

ioerr_again : (v : IoErr) (more : List ℕ) (at : ℕ) → IoErrFits v →
    Ends (ioerr_in (record { left = ioerr_item v ++ more; at = at })) v more
unfolding ioerr_in
ioerr_again v more at fits =
    in_parts ioerr_in
    (objid_item v.oer_component ∷ u64_item v.oer_comp_offset ∷ u64_item v.oer_comp_length ∷ bool_item v.oer_iswrite ∷ u32_item
    (errno_number v.oer_errno) ∷ []) at v more
    (first _ _ _ _ _ objid_codec v.oer_component fits.component
    (λ _. first _ _ _ _ _ u64_law v.oer_comp_offset fits.comp_offset
    (λ _. first _ _ _ _ _ u64_law v.oer_comp_length fits.comp_length
    (λ _. first _ _ _ _ _ bool_law v.oer_iswrite tt (λ _. last _ _ _ _ errno_law v.oer_errno tt (λ _. refl))))))

ioerr_found : (i : Rest) (v : IoErr) (j : Rest) → IsBytes i.left → ioerr_in i ≡ Ok (v, j) →
    IoErrFits v × (i.left ≡ ioerr_item v ++ j.left)
unfolding ioerr_in
ioerr_found i v j bytes e =
    let a = step _ _ _ i _ (v, j) objid_codec bytes e in
    let b = step _ _ _ a.0.1 _ (v, j) u64_law a.1.bytes a.2 in
    let c = step _ _ _ b.0.1 _ (v, j) u64_law b.1.bytes b.2 in
    let d = step _ _ _ c.0.1 _ (v, j) bool_law c.1.bytes c.2 in
    let f = step _ _ _ d.0.1 _ (v, j) errno_law d.1.bytes d.2 in
    let whole = gathered
    (objid_item a.0.0 ∷ u64_item b.0.0 ∷ u64_item c.0.0 ∷ bool_item d.0.0 ∷ u32_item (errno_number f.0.0) ∷ []) i.left
    f.0.1.left (a.1.front
    ∙ after _ _ _ (b.1.front ∙ after _ _ _ (c.1.front ∙ after _ _ _ (d.1.front ∙ after _ _ _ (f.1.front))))) in
    let both = ok_is _ (v, j) f.2 in
    subst (λ (p : IoErr × Rest). IoErrFits p.0 × (i.left ≡ ioerr_item p.0 ++ p.1.left)) both
    (record { component = a.1.fits; comp_offset = b.1.fits; comp_length = c.1.fits }, whole)

pub ioerr_codec : IsCodec ioerr_in ioerr_item IoErrFits
ioerr_codec = record { again = ioerr_again; found = ioerr_found }

-- ---- IoErrs

ioerrs_again : (v : IoErrs) (more : List ℕ) (at : ℕ) → IoErrsFits v →
    Ends (ioerrs_in (record { left = ioerrs_item v ++ more; at = at })) v more
unfolding ioerrs_in
ioerrs_again v more at fits =
    in_parts ioerrs_in (list_item ioerr_item v.olr_ioerr_report ∷ []) at v more
    (last _ _ _ _ (list_law ioerr_codec) v.olr_ioerr_report fits (λ _. refl))

ioerrs_found : (i : Rest) (v : IoErrs) (j : Rest) → IsBytes i.left → ioerrs_in i ≡ Ok (v, j) →
    IoErrsFits v × (i.left ≡ ioerrs_item v ++ j.left)
unfolding ioerrs_in
ioerrs_found i v j bytes e =
    let a = step _ _ _ i _ (v, j) (list_law ioerr_codec) bytes e in
    let whole = gathered (list_item ioerr_item a.0.0 ∷ []) i.left a.0.1.left (a.1.front) in
    let both = ok_is _ (v, j) a.2 in
    subst (λ (p : IoErrs × Rest). IoErrsFits p.0 × (i.left ≡ ioerrs_item p.0 ++ p.1.left)) both (a.1.fits, whole)

pub ioerrs_codec : IsCodec ioerrs_in ioerrs_item IoErrsFits
ioerrs_codec = record { again = ioerrs_again; found = ioerrs_found }

-- ---- LayoutHint

hint_again : (v : LayoutHint) (more : List ℕ) (at : ℕ) → HintFits v →
    Ends (hint_in (record { left = hint_item v ++ more; at = at })) v more
unfolding hint_in
hint_again v more at fits =
    in_parts hint_in
    (optional_item u32_item v.max_comps ∷ optional_item u64_item v.stripe_unit ∷ optional_item u32_item v.group_width
    ∷ optional_item u32_item v.group_depth ∷ optional_item u32_item v.mirror_cnt ∷ optional_item u32_item v.raid_algorithm
    ∷ []) at v more
    (first _ _ _ _ _ (optional_law u32_law) v.max_comps fits.max_comps
    (λ _. first _ _ _ _ _ (optional_law u64_law) v.stripe_unit fits.stripe_unit
    (λ _. first _ _ _ _ _ (optional_law u32_law) v.group_width fits.group_width
    (λ _. first _ _ _ _ _ (optional_law u32_law) v.group_depth fits.group_depth
    (λ _. first _ _ _ _ _ (optional_law u32_law) v.mirror_cnt fits.mirror_cnt
    (λ _. last _ _ _ _ (optional_law algorithm_law) v.raid_algorithm fits.raid_algorithm (λ _. refl)))))))

hint_found : (i : Rest) (v : LayoutHint) (j : Rest) → IsBytes i.left → hint_in i ≡ Ok (v, j) →
    HintFits v × (i.left ≡ hint_item v ++ j.left)
unfolding hint_in
hint_found i v j bytes e =
    let a = step _ _ _ i _ (v, j) (optional_law u32_law) bytes e in
    let b = step _ _ _ a.0.1 _ (v, j) (optional_law u64_law) a.1.bytes a.2 in
    let c = step _ _ _ b.0.1 _ (v, j) (optional_law u32_law) b.1.bytes b.2 in
    let d = step _ _ _ c.0.1 _ (v, j) (optional_law u32_law) c.1.bytes c.2 in
    let f = step _ _ _ d.0.1 _ (v, j) (optional_law u32_law) d.1.bytes d.2 in
    let g = step _ _ _ f.0.1 _ (v, j) (optional_law algorithm_law) f.1.bytes f.2 in
    let whole = gathered
    (optional_item u32_item a.0.0 ∷ optional_item u64_item b.0.0 ∷ optional_item u32_item c.0.0 ∷ optional_item u32_item d.0.0
    ∷ optional_item u32_item f.0.0 ∷ optional_item u32_item g.0.0 ∷ []) i.left g.0.1.left
    (a.1.front ∙ after _ _ _
    (b.1.front ∙ after _ _ _ (c.1.front ∙ after _ _ _ (d.1.front ∙ after _ _ _ (f.1.front ∙ after _ _ _ (g.1.front)))))) in
    let both = ok_is _ (v, j) g.2 in
    subst (λ (p : LayoutHint × Rest). HintFits p.0 × (i.left ≡ hint_item p.0 ++ p.1.left)) both (
      record {
        max_comps = a.1.fits;
        stripe_unit = b.1.fits;
        group_width = c.1.fits;
        group_depth = d.1.fits;
        mirror_cnt =
            f.1.fits;
        raid_algorithm = g.1.fits;
      },
      whole,
    )

pub hint_codec : IsCodec hint_in hint_item HintFits
hint_codec = record { again = hint_again; found = hint_found }
