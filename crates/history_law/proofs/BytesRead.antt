-- A capability that is read in an answer of bytes is of bytes.
use Rattle.std.proofs.Common.{◌≡◌, ℕ, zero, suc, List, [], ◌∷◌, ◌++◌, Some, Ok, flat_map, length, slice_get, inr, sym, ap, subst, arith}
use Rattle.osd_lists.specs.Blocks.{IsBytes}
use Rattle.xdr_codec.specs.Items.{u32_item, u64_item, bool_item, fixed_item, opaque_item}
use Rattle.layout_types.specs.declared.cred.ObjectCred.{ObjectCred}
use Rattle.layout_types.specs.declared.layout.Layout.{Layout}
use Rattle.layout_types.specs.Enumerations.{version_number, security_number}
use Rattle.layout_types.specs.Grammar.{list_item}
use Rattle.layout_types.specs.Reading.{layout_in}
use Rattle.layout_types.specs.Spelling.{LayoutFits, layout_item, map_item, cred_item, objid_item}
use Rattle.layout_types.proofs.Codecs.{layout_codec}
use Rattle.layout_types.proofs.Steps.{joined_before}
use Rattle.layout_types.proofs.Steps as layouts
use Rattle.layout_ops.specs.declared.results.LayoutGetOk.{LayoutGetOk}
use Rattle.layout_ops.specs.declared.results.LayoutSegment.{LayoutSegment}
use Rattle.layout_ops.specs.declared.results.LayoutGetResult.TheVariants as get
use Rattle.layout_ops.specs.declared.results.Results.{Results}
use Rattle.layout_ops.specs.declared.results.Results.TheVariants as results
use Rattle.layout_ops.specs.declared.messages.Answer.{Answer}
use Rattle.layout_ops.specs.declared.envelope.Envelope.TheVariants as envelope
use Rattle.layout_ops.specs.declared.statuses.TheConstants.{NFS4_OK}
use Rattle.layout_ops.specs.Enumerations.{operation_number}
use Rattle.layout_ops.specs.Spelling.{operation_of_results, layout_type_item, stateid_item, segment_item, get_ok_item, results_item, envelope_item}
use Rattle.layout_ops.proofs.Whole.{all_found}
use Rattle.client_rules.specs.Results.{layouts_in}
use Rattle.history_law.specs.Listed.{Lists}

-- ---- parts of bytes

front : (xs ys : List ℕ) → IsBytes (xs ++ ys) → IsBytes xs
front [] ys are i = omega arith
front (x ∷ xs) ys are zero = are zero
front (x ∷ xs) ys are (suc i) = front xs ys (λ j. are (suc j)) i

rest : (xs ys : List ℕ) → IsBytes (xs ++ ys) → IsBytes ys
rest [] ys are = are
rest (x ∷ xs) ys are = rest xs ys (λ j. are (suc j))

rests : (items : List (List ℕ)) (end : List ℕ) → IsBytes (joined_before items end) → IsBytes end
rests [] end are = are
rests (x ∷ xs) end are = rests xs end (rest x (joined_before xs end) are)

in_opaque : (bytes : List ℕ) → IsBytes (opaque_item bytes) → IsBytes bytes
unfolding opaque_item fixed_item
in_opaque bytes are = front bytes _ (rest (u32_item (length bytes)) (fixed_item bytes) are)

in_list : {V : Type 0} (item : V → List ℕ) (vs : List V) (k : ℕ) (v : V) → slice_get vs k ≡ Some v
    → IsBytes (flat_map item vs) → IsBytes (item v)
in_list item [] k v found are = absurd (cc found)
in_list item (x ∷ vs) zero v found are =
    let same : x ≡ v = cc found in
    subst (λ (y : _). IsBytes (item y)) same (front (item x) (flat_map item vs) are)
in_list item (x ∷ vs) (suc k) v found are = in_list item vs k v found (rest (item x) (flat_map item vs) are)

in_members : {V : Type 0} (item : V → List ℕ) (vs : List V) (k : ℕ) (v : V) → slice_get vs k ≡ Some v
    → IsBytes (list_item item vs) → IsBytes (item v)
unfolding list_item
in_members item vs k v found are = in_list item vs k v found (rest (u32_item (length vs)) (flat_map item vs) are)

-- ---- an answer

in_segment : (s : LayoutSegment) → IsBytes (segment_item s) → IsBytes s.body
in_segment s are =
    in_opaque s.body (rests (u64_item s.offset ∷ u64_item s.length ∷ u32_item s.iomode ∷ layout_type_item ∷ [])
    (opaque_item s.body) are)

in_given : (given : LayoutGetOk) (s : LayoutSegment) → given.layouts ≡ s ∷ [] → IsBytes (get_ok_item given)
    → IsBytes (segment_item s)
in_given given s one are =
    in_members segment_item given.layouts 0 s (ap (λ (xs : List LayoutSegment). slice_get xs 0) one)
    (rests (bool_item given.return_on_close ∷ stateid_item given.stateid ∷ []) (list_item segment_item given.layouts) are)

in_results : (r : Results) (given : LayoutGetOk) → layouts_in r ≡ Some given → IsBytes (results_item r)
    → IsBytes (get_ok_item given)
in_results (results.LayoutGet (get.Granted ok)) given e are =
    let same : ok ≡ given = cc e in
    subst (λ (x : LayoutGetOk). IsBytes (get_ok_item x)) same (rest (u32_item NFS4_OK) (get_ok_item ok) are)
in_results (results.LayoutGet (get.TryLater signal)) given e are = absurd (cc e)
in_results (results.LayoutGet (get.Refused status)) given e are = absurd (cc e)
in_results (results.LayoutCommit r) given e are = absurd (cc e)
in_results (results.LayoutReturn r) given e are = absurd (cc e)

in_answer : (a : Answer) → IsBytes (envelope_item (envelope.Answer a)) → IsBytes (results_item a.results)
in_answer a are =
    rests (u32_item 2 ∷ u32_item a.client ∷ u32_item a.sequence ∷ u32_item a.file
    ∷ u32_item (operation_number (operation_of_results a.results)) ∷ u32_item a.detail ∷ u64_item a.size ∷ [])
    (results_item a.results) are

-- ---- its layout

in_credential : (o : ObjectCred) → IsBytes (cred_item o) → IsBytes o.oc_capability
in_credential o are =
    in_opaque o.oc_capability (rests (objid_item o.oc_object_id ∷ u32_item (version_number o.oc_osd_version)
    ∷ u32_item (security_number o.oc_cap_key_sec) ∷ opaque_item o.oc_capability_key ∷ []) (opaque_item o.oc_capability) are)

in_layout : (l : Layout) (k : ℕ) (o : ObjectCred) → slice_get l.olo_components k ≡ Some o → IsBytes (layout_item l)
    → IsBytes o.oc_capability
in_layout l k o found are =
    in_credential o (in_members cred_item l.olo_components k o found
    (rests (map_item l.olo_map ∷ u32_item l.olo_comps_index ∷ []) (list_item cred_item l.olo_components) are))

pub bytes_listed : (bytes : List ℕ) (k : ℕ) (o : ObjectCred) → Lists bytes k o → IsBytes bytes → IsBytes o.oc_capability
bytes_listed bytes k o l are =
    let answer = (all_found bytes are (Ok (envelope.Answer l.answer)) (inr (sym l.read))).1 in
    let given = in_results l.answer.results l.given l.gives (in_answer l.answer (subst IsBytes answer are)) in
    let body = in_segment l.segment (in_given l.given l.segment l.one given) in
    let layout = (layouts.all_found layout_in layout_item LayoutFits layout_codec l.segment.body body (Ok l.layout)
    (inr (sym l.body))).1 in
    in_layout l.layout k o l.found (subst IsBytes layout body)
