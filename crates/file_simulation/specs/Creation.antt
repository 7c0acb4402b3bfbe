-- The machine of a file when the file is made.
use Rattle.std.specs.Prelude.{ℕ, zero, suc, ◌+◌, ◌-◌, Bool, true, false, List, [], ◌∷◌, ◌++◌, flat_map, Option, Some, None}
use Rattle.std.specs.List.{range_with_len}
use Rattle.scenario_text.specs.declared.names.TheConstants.{CLIENTS}
use Rattle.layout_ops.specs.declared.messages.Answer.{Answer}
use Rattle.server_rules.specs.Slots.{slot_of}
use Rattle.world_history.specs.ServerNames.{Server, File, Component}
use Rattle.world_history.specs.ClientNames.{Client, Request}
use Rattle.world_history.specs.State.{World, at_number}
use Rattle.exchange_law.specs.Messages.{last_before}
use Rattle.fence_law.specs.State.{State, Event}
use Rattle.fence_law.specs.State.RequestKind.{Get}
use Rattle.fence_law.specs.State.Event.{Asks, Refuses, AsksOther, ServesOther, TakesOther, Fails}
use Rattle.fence_law.specs.Law.{reached}
use Rattle.plan_law.specs.FileLayout.{layout_of}
use Rattle.file_simulation.specs.Components.{has_failed}
use Rattle.file_simulation.specs.Requests.{RequestClass, Own, class_of, kept_by}
use Rattle.file_simulation.specs.Relation.{client_of}

-- so many requests of a client were answered before, none of them on the file
unfoldable pub earlier : (c : ℕ) → (count : ℕ) → List Event
earlier c zero = []
earlier c (suc n) = AsksOther c ∷ (ServesOther c ∷ (TakesOther c ∷ earlier c n))

-- how many requests of a client were answered before its outstanding one
abbrev pub answered : Client → Option Request → ℕ
answered x None = last_before x.next
answered x (Some r) = r.sequence - 1

-- A request that is outstanding when the file is made: a LAYOUTGET on this very file is asked, and was refused if the server
-- has answered it; any other is of another file.
abbrev pub asked : (c : ℕ) → RequestClass → Option Answer → List Event
asked c (Own (Get rw)) None = Asks c rw ∷ []
asked c (Own (Get rw)) (Some a) = Asks c rw ∷ (Refuses c (Get rw) ∷ [])
asked c request None = AsksOther c ∷ []
asked c request (Some a) = AsksOther c ∷ (ServesOther c ∷ [])

-- so it is of a client's outstanding request, if there is one
abbrev pub outstanding : (file : ℕ) → Server → (c : ℕ) → Client → Option Request → List Event
outstanding file s c x None = []
outstanding file s c x (Some r) = asked c (class_of file x r) (kept_by (slot_of s.slots c) r)

-- what went on between a client and the server before the file was made
abbrev pub client_before : World → (file c : ℕ) → List Event
client_before w file c =
    earlier c (answered (client_of w c) (client_of w c).outstanding)
    ++ outstanding file w.server c (client_of w c) (client_of w c).outstanding

-- component k fails at once where its drive has failed
abbrev pub fails_where : Bool → (k : ℕ) → List Event
fails_where true k = Fails k ∷ []
fails_where false k = []

-- so it is of all components from number k on
unfoldable pub fails_from : World → List Component → (k : ℕ) → List Event
fails_from w [] k = []
fails_from w (at ∷ cs) k = fails_where (has_failed (at_number w.drives at.drive)) k ++ fails_from w cs (k + 1)

-- all that the machine goes through when the file is made; `w` is the world behind that
unfoldable pub first_events : World → File → List Event
first_events w f =
    flat_map (client_before w f.kept.number) (range_with_len 0 CLIENTS) ++ fails_from w f.kept.components 0

-- the machine of a file that was just made
abbrev pub created : World → File → State
created w f = reached (layout_of f.kept.map f.kept.first_tag) (first_events w f)
