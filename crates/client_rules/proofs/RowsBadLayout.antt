-- Layouts that aren't taken, one for each reason.
use Rattle.std.specs.Prelude.{◌≡◌, refl, ℕ, List, [], ◌∷◌, ◌++◌, replicate, true, false}
use Rattle.layout_types.specs.declared.cred.ObjectCred.{ObjectCred}
use Rattle.layout_types.specs.declared.cred.OsdVersion.TheVariants as version
use Rattle.layout_types.specs.declared.cred.KeySecurity.TheVariants as security
use Rattle.layout_types.specs.declared.layout.Layout.{Layout}
use Rattle.layout_types.specs.Spelling.{layout_item}
use Rattle.layout_ops.specs.declared.results.Results.{Results}
use Rattle.client_rules.specs.State.{Write, Read, Why, Unreadable, Index, Partial, Secured, BadMap, BadCredential, BadLayout, Nothing, TheServer}
use Rattle.client_rules.specs.Steps.{new_client}
use Rattle.client_rules.specs.History.{Calls}
use Rattle.client_rules.specs.Rows.{Event, Given, Part, Usable, Missing, done, on, ends, answers, credential, layout_of, gives, gives_bodies, gives_layout, committed, asks_to_read, asks_to_write}
use Rattle.client_rules.proofs.Opened.{opened}
use Rattle.client_rules.proofs.RowsGrants.{rotating}

-- a grant for writing the first stripe, with these components
abbrev with_parts : List Part → Given
with_parts parts = record { number = 1; writes = true; offset = 0; len = 8; map = rotating; components = parts }

abbrev first_grant : Given
first_grant = with_parts (Usable 0 65536 0 4 ∷ Usable 1 65537 0 4 ∷ Usable 2 65538 0 4 ∷ [])

-- its layout with another third component
abbrev with_third : ObjectCred → Layout
with_third third = record (layout_of first_grant) {
  olo_components = credential first_grant (Usable 0 65536 0 4) ∷ credential first_grant (Usable 1 65537 0 4) ∷ third ∷ [];
}

abbrev third : ObjectCred
third = credential first_grant (Usable 2 65538 0 4)

-- a write of the first byte gets this answer, and ends
abbrev refused_for : (sequence : ℕ) → Results → Why → List Event
refused_for n r why =
    on (Calls (Write 0 0 (1 ∷ []))) TheServer (asks_to_write n 0 0 1 ∷ []) ∷
    ends (answers n 0 0 0 r) (BadLayout why) Nothing [] ∷
    []

-- and so does a read
abbrev refused_to_read : (sequence : ℕ) → Results → Why → List Event
refused_to_read n r why =
    on (Calls (Read 0 0 1)) TheServer (asks_to_read n 0 0 1 ∷ []) ∷
    ends (answers n 0 0 8 r) (BadLayout why) Nothing [] ∷
    []

abbrev events : List Event
events =
    refused_for 1 (gives_bodies first_grant []) Unreadable
    ++ refused_for 2
    (gives_bodies first_grant (layout_item (layout_of first_grant) ∷ layout_item (layout_of first_grant) ∷ [])) Unreadable
    ++ refused_for 3 (gives_bodies first_grant ((0 ∷ []) ∷ [])) Unreadable
    ++ refused_for 4 committed Unreadable
    ++ refused_for 5 (gives_layout (record first_grant { writes = false })) Unreadable
    ++ refused_for 6 (gives_layout (record first_grant { offset = 8 })) Unreadable
    ++ refused_for 7 (gives first_grant (record (layout_of first_grant) { olo_comps_index = 1 })) Index
    ++ refused_for 8 (gives_layout (with_parts (Usable 0 65536 0 4 ∷ Usable 1 65537 0 4 ∷ []))) Partial
    ++ refused_for 9 (gives first_grant (with_third (record third { oc_cap_key_sec = security.Ssv }))) Secured
    ++ refused_for 10 (gives first_grant (record (layout_of first_grant) { olo_map = record rotating { unit = 0 } })) BadMap
    ++ refused_for 11 (gives first_grant (with_third (record third { oc_osd_version = version.Version1 }))) BadCredential
    ++ refused_for 12 (gives first_grant (with_third (credential first_grant (Usable 64 65538 0 4)))) BadCredential
    ++ refused_for 13 (gives first_grant (with_third (record third { oc_capability_key = replicate 32 7 }))) BadCredential
    ++ refused_for 14 (gives first_grant (with_third (record third { oc_capability = replicate 96 0 }))) BadCredential
    ++ refused_for 15 (gives_layout (with_parts (Usable 0 65536 0 4 ∷ Missing 1 65537 ∷ Missing 2 65538 ∷ []))) BadCredential
    ++ refused_to_read 16 (gives_layout (with_parts (Usable 0 65536 0 4 ∷ Missing 1 65537 ∷ Missing 2 65538 ∷ []))) BadCredential

pub steps : done (new_client 0 1) events ≡ events
unfolding opened
steps = refl
