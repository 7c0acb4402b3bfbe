-- What is kept of the messages to drives finds those of the world.
use Rattle.std.proofs.Common.{◌≡◌, ℕ, ◌∷◌, [], List, cond, Option, Some, None, fold, length, position, slice_get, refl, ap, subst, ◌∙◌}
use Rattle.scenario_text.specs.declared.line.Line.{Line}
use Rattle.world_history.specs.declared.messages.Sent.{Sent}
use Rattle.world_history.specs.Laws.{MessagesAreRead}
use Rattle.world_history.specs.Reading.{sent_after, sent_in}
use Rattle.world_history.specs.Guesses.{Guarded, guards}
use Rattle.world_watch.specs.Sighted.{Table, nonce_in, of_nonce, is_same, is_same_at, first_same, first_in, sighted}
use Rattle.world_watch.specs.Tied.{AreBelow, AreOf, BeginWith}
use Rattle.calm_law.specs.Sightings.{GuardsMessages, SightsTheWorld}

same_messages : (h : List Line) (g : Guarded) → (fold guards g h).sent ≡ fold sent_after g.sent h
same_messages [] g = refl
same_messages (l ∷ h) g = same_messages h (guards g l)

pub guards_messages : GuardsMessages
unfolding sent_in
guards_messages h = same_messages h _

-- ---- behind a move

-- in messages that begin with those of the table, the same is found
first_begins : (ms sent : List Sent) (d : ℕ) (bytes ns : List ℕ) → BeginWith ms sent → AreBelow (length sent) ns
    → first_same ms d bytes ns ≡ first_same sent d bytes ns
unfolding first_same
first_begins ms sent d bytes [] w b = refl
first_begins ms sent d bytes (n ∷ ns) w b =
    ap (λ t. cond t (Some n) (first_same ms d bytes ns)) (w n b.0 d bytes)
    ∙ ap (λ r. cond (is_same_at d bytes (slice_get sent n)) (Some n) r) (first_begins ms sent d bytes ns w b.1)

in_begins : (ms sent : List Sent) (d : ℕ) (bytes : List ℕ) → BeginWith ms sent → (o : Option (List ℕ))
    → ((ns : List ℕ) → o ≡ Some ns → AreBelow (length sent) ns) → first_in ms d bytes o ≡ first_in sent d bytes o
in_begins ms sent d bytes w None h = refl
in_begins ms sent d bytes w (Some ns) h = first_begins ms sent d bytes ns w (h ns refl)

pub sighted_begins : (ms sent : List Sent) (t : Table) (d : ℕ) (bytes : List ℕ) → BeginWith ms sent → AreOf sent t
    → sighted t ms d bytes ≡ position (is_same d bytes) sent
sighted_begins ms sent t d bytes w a =
    in_begins ms sent d bytes w (of_nonce t (nonce_in bytes)) (λ ns e. a.below (nonce_in bytes) ns e) ∙ a.first d bytes

-- ---- at a moment

pub sights_the_world : MessagesAreRead → SightsTheWorld
sights_the_world read w h g stands keeps =
    subst (λ (ss : List Sent). AreOf ss g.sightings) (guards_messages h ∙ read w h stands) keeps.sightings
