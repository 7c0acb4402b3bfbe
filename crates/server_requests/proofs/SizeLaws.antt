-- A layout of a file's components is short enough for an answer.
use Rattle.std.specs.Prelude.{ℕ, List, [], ◌∷◌, ◌≡◌, ◌++◌, ◌≤◌, ◌+◌, ◌*◌, length, refl, suc, Result, Ok, Err, IfOk}
use Rattle.std.specs.List.{AllByRecursion, flat_map}
use Rattle.std.proofs.Common.{arith}
use Rattle.std.proofs.lemmas.List.{length-append, length-replicate}
use Rattle.xdr_codec.specs.Items.{u32_item, u64_item, fixed_item, opaque_item}
use Rattle.xdr_codec.proofs.ItemLaws.{length-u32, length-u64}
use Rattle.layout_types.specs.declared.cred.ObjectCred.{ObjectCred}
use Rattle.layout_types.specs.declared.layout.Layout.{Layout}
use Rattle.layout_types.specs.Grammar.{list_item}
use Rattle.layout_types.specs.Spelling.{cred_item, layout_item}
use Rattle.layout_ops.specs.declared.parts.TheConstants.{MAX_BODY}
use Rattle.layout_ops.specs.Spelling.{IsBody}
use Rattle.osd_lists.specs.declared.memory.Memory.{Memory}
use Rattle.server_requests.specs.Bounds.{IsCredential, IsSmall}

length-fixed : (bytes : List ℕ) → length (fixed_item bytes) ≤ length bytes + 3
unfolding fixed_item
length-fixed bytes = simp (length-append, length-replicate) (omega arith)

length-opaque : (bytes : List ℕ) → length (opaque_item bytes) ≤ length bytes + 7
unfolding opaque_item
length-opaque bytes = simp (length-append, length-u32) (omega (arith, length-fixed bytes))

small_cred : (c : ObjectCred) → IsCredential c → length (cred_item c) ≤ 192
small_cred c s =
    simp (length-append, length-u32, length-u64)
    (omega (
      arith,
      length-fixed c.oc_object_id.oid_device_id,
      length-opaque c.oc_capability_key,
      length-opaque c.oc_capability,
      s.device,
      s.key,
      s.capability,
    ))

small_more : (a b : List ℕ) (n : ℕ) → length a ≤ 192 → length b ≤ 192 * n → length (a ++ b) ≤ 192 * suc n
small_more a b n h k = simp length-append (omega (arith, h, k))

small_list : (cs : List ObjectCred) → AllByRecursion IsCredential cs → length (flat_map cred_item cs) ≤ 192 * length cs
small_list [] a = omega arith
small_list (c ∷ cs) a = small_more (cred_item c) (flat_map cred_item cs) (length cs) (small_cred c a.0) (small_list cs a.1)

small_layout : (l : Layout) → IsSmall l.olo_components → length (layout_item l) ≤ MAX_BODY
unfolding list_item
small_layout l s = simp (length-append, length-u32, length-u64) (omega (arith, small_list l.olo_components s.each, s.few))

pub if_small : (r : Result (List ℕ) Memory) (l : Layout) → IsSmall l.olo_components → IfOk r (λ b. b ≡ layout_item l) →
    IfOk r IsBody
if_small (Ok b) l s e = rw e (small_layout l s)
if_small (Err m) l s e = tt
