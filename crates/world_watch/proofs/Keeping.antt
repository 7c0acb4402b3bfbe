-- What is kept of a run's lines, line by line.
use Rattle.std.proofs.Common.{◌≡◌, ℕ, ◌∷◌, ◌&&◌, [], List, false, not, Option, Some, None, is_none, Result, Ok, Err, length, slice_get, slice_set, refl, sym, ap, subst, ◌∙◌, inl, inr}
use Rattle.std.specs.Prelude.{nat_eq}
use Rattle.std.proofs.lemmas.Bool.{cases_Bool, cases_eq}
use Rattle.osd_lists.proofs.Tests.{and_true}
use Rattle.osd_lists.proofs.Slices.{length_set}
use Rattle.osd_objects.proofs.Entries.{lookup_inserted, lookup_beside}
use Rattle.osd_commands.specs.declared.commands.Command.{Command}
use Rattle.osd_commands.specs.declared.commands.CommandErr.{CommandErr}
use Rattle.osd_commands.specs.Commands as commands
use Rattle.server_rules.specs.declared.limits.TheConstants.{KEY_VERSION}
use Rattle.scenario_text.specs.declared.event.Event.{Event}
use Rattle.scenario_text.specs.declared.event.Event.TheVariants as event
use Rattle.scenario_text.specs.declared.line.Party.{Party}
use Rattle.scenario_text.specs.declared.line.Party.TheVariants as party
use Rattle.scenario_text.specs.declared.line.Line.TheVariants as line
use Rattle.world_history.specs.declared.messages.Sent.{Sent}
use Rattle.world_history.specs.State.{at_number}
use Rattle.world_history.specs.Drives.{first_key}
use Rattle.world_history.specs.Reading.{arrived, left_out, changed_by, changed_at}
use Rattle.world_history.specs.Guesses.{Guarded, guards, is_guess_of, opened_by}
use Rattle.world_watch.specs.Sighted.{Table, is_same, sighted}
use Rattle.world_watch.specs.Guessing.{GuessState, opens, opens_with, injects_read, sees}
use Rattle.world_watch.specs.Tied.{AreOf, BeginWith, Keeps, KeepsFirst, KeepsOn, with_key}
use Rattle.world_watch.proofs.Finding.{same_set}
use Rattle.world_watch.proofs.Sighting.{sighted_begins, none_sent, of_changed, of_more, of_seen}

-- ---- before the first line

pub keeps_first : KeepsFirst
keeps_first = record {
  keys = λ d. refl;
  sightings = record { below = λ nonce ns e. absurd (cc e); first = λ d bytes. refl };
  unguessed = refl;
}

-- ---- keys

keys_more : (g : Guarded) (s : GuessState) (k : ℕ) (key : List ℕ) → Keeps g s → (d : ℕ)
    → at_number (guards g (line.Event (event.Drive k key 0))).keys d
    ≡ with_key (at_number (sees s g.sent (line.Event (event.Drive k key 0))).keys d)
keys_more g s k key h d = elim (cases_eq d k) [
  | inl same ↦ rw same (lookup_inserted g.keys k (first_key key ∷ [])
      ∙ ap (λ o. with_key o) (sym (lookup_inserted s.keys k key)))
  | inr ne ↦ lookup_beside g.keys k d (first_key key ∷ []) ne ∙ h.keys d
      ∙ ap (λ o. with_key o) (sym (lookup_beside s.keys k d key ne))
]

-- ---- injected bytes

opens_key : (c : Command) (o : Option (List ℕ)) → opens_with c o ≡ opened_by (with_key o) c
opens_key c None = refl
opens_key c (Some key) = elim (cases_Bool (nat_eq KEY_VERSION c.capability.key_version)) [
  | inl t ↦ rw t refl
  | inr f ↦ rw f refl
]

opens_as : (g : Guarded) (s : GuessState) (d : ℕ) (c : Command) → Keeps g s
    → opens s d c ≡ opened_by (at_number g.keys d) c
opens_as g s d c h = opens_key c (at_number s.keys d) ∙ ap (λ o. opened_by o c) (sym (h.keys d))

none_as : (g : Guarded) (s : GuessState) (ms : List Sent) (d : ℕ) (bytes : List ℕ) → Keeps g s → BeginWith ms g.sent
    → is_none (sighted s.sightings ms d bytes) ≡ is_none (sighted s.sightings g.sent d bytes)
none_as g s ms d bytes h w = ap (λ o. is_none o) (sighted_begins ms g.sent s.sightings d bytes w h.sightings)

guessed_as : (g : Guarded) (s : GuessState) (ms : List Sent) (d : ℕ) (bytes : List ℕ) → Keeps g s
    → BeginWith ms g.sent → (r : Result Command CommandErr)
    → (injects_read s ms d bytes r).unguessed ≡ (g.unguessed && not (is_guess_of g d bytes r))
guessed_as g s ms d bytes h w (Ok c) =
    ap (λ u. u && not (opens s d c && is_none (sighted s.sightings ms d bytes))) h.unguessed
    ∙ ap (λ x. g.unguessed && not (x && is_none (sighted s.sightings ms d bytes))) (opens_as g s d c h)
    ∙ ap (λ x. g.unguessed && not (opened_by (at_number g.keys d) c && x))
    (none_as g s ms d bytes h w ∙ none_sent g.sent s.sightings d bytes h.sightings)
guessed_as g s ms d bytes h w (Err e) = h.unguessed ∙ and_true g.unguessed

same_keys : (s : GuessState) (ms : List Sent) (d : ℕ) (bytes : List ℕ) (r : Result Command CommandErr)
    → (injects_read s ms d bytes r).keys ≡ s.keys
same_keys s ms d bytes (Ok c) = refl
same_keys s ms d bytes (Err e) = refl

same_sightings : (s : GuessState) (ms : List Sent) (d : ℕ) (bytes : List ℕ) (r : Result Command CommandErr)
    → (injects_read s ms d bytes r).sightings ≡ s.sightings
same_sightings s ms d bytes (Ok c) = refl
same_sightings s ms d bytes (Err e) = refl

injected : (g : Guarded) (s : GuessState) (ms : List Sent) (d : ℕ) (bytes : List ℕ) → Keeps g s → BeginWith ms g.sent
    → Keeps (guards g (line.Event (event.Inject d bytes))) (sees s ms (line.Event (event.Inject d bytes)))
injected g s ms d bytes h w = record {
  keys = λ k. h.keys k ∙ ap (λ ks. with_key (at_number ks k)) (sym (same_keys s ms d bytes (commands.reading bytes)));
  sightings = subst (λ t. AreOf g.sent t) (sym (same_sightings s ms d bytes (commands.reading bytes))) h.sightings;
  unguessed = guessed_as g s ms d bytes h w (commands.reading bytes);
}

-- ---- messages whose marks change

of_marked : (ss : List Sent) (t : Table) (n : ℕ) (change : Sent → Sent)
    → ((d : ℕ) (bytes : List ℕ) (x : Sent) → is_same d bytes (change x) ≡ is_same d bytes x) → AreOf ss t
    → (o : Option Sent) → slice_get ss n ≡ o → AreOf (changed_by ss n change o) t
of_marked ss t n change q a None e = a
of_marked ss t n change q a (Some x) e =
    of_changed ss (slice_set ss n (change x)) t (length_set ss n (change x))
    (λ k d bytes. same_set ss n k x (change x) d bytes e (q d bytes x)) a

arrived_of : (ss : List Sent) (t : Table) (n : ℕ) → AreOf ss t → AreOf (changed_at ss n arrived) t
arrived_of ss t n a = of_marked ss t n arrived (λ d bytes x. refl) a (slice_get ss n) refl

left_out_of : (ss : List Sent) (t : Table) (n : ℕ) → AreOf ss t → AreOf (changed_at ss n left_out) t
left_out_of ss t n a = of_marked ss t n left_out (λ d bytes x. refl) a (slice_get ss n) refl

-- ---- messages that are sent

abbrev sent_so : Party → Party → List ℕ → Sent
sent_so from to bytes = record { from = from; to = to; bytes = bytes; delivered = false; dropped = false }

sent_on : (g : Guarded) (s : GuessState) (ms : List Sent) (n : ℕ) (from to : Party) (bytes : List ℕ) → Keeps g s
    → BeginWith ms g.sent → n ≡ length g.sent
    → Keeps (guards g (line.Message n from to bytes)) (sees s ms (line.Message n from to bytes))
sent_on g s ms n from (party.Drive d) bytes h w next = record {
  keys = h.keys;
  sightings = rw next (of_seen ms g.sent (sent_so from (party.Drive d) bytes) s.sightings d refl h.sightings w);
  unguessed = h.unguessed ∙ and_true g.unguessed;
}
sent_on g s ms n from (party.Client c) bytes h w next = record {
  keys = h.keys;
  sightings = of_more g.sent (sent_so from (party.Client c) bytes) s.sightings h.sightings (λ d bs e. absurd (cc e));
  unguessed = h.unguessed ∙ and_true g.unguessed;
}
sent_on g s ms n from party.Server bytes h w next = record {
  keys = h.keys;
  sightings = of_more g.sent (sent_so from party.Server bytes) s.sightings h.sightings (λ d bs e. absurd (cc e));
  unguessed = h.unguessed ∙ and_true g.unguessed;
}

-- ---- each line

on_event : (g : Guarded) (s : GuessState) (ms : List Sent) (e : Event) → Keeps g s → BeginWith ms g.sent
    → Keeps (guards g (line.Event e)) (sees s ms (line.Event e))
on_event g s ms (event.Drive d key capacity) h w = record {
  keys = keys_more g s d key h;
  sightings = h.sightings;
  unguessed = h.unguessed ∙ and_true g.unguessed;
}
on_event g s ms (event.Disk d key capacity) h w = record {
  keys = keys_more g s d key h;
  sightings = h.sightings;
  unguessed = h.unguessed ∙ and_true g.unguessed;
}
on_event g s ms (event.Inject d bytes) h w = injected g s ms d bytes h w
on_event g s ms (event.DropMessage n) h w = record {
  keys = h.keys;
  sightings = left_out_of g.sent s.sightings n h.sightings;
  unguessed = h.unguessed ∙ and_true g.unguessed;
}
on_event g s ms e h w = record {
  keys = h.keys;
  sightings = h.sightings;
  unguessed = h.unguessed ∙ and_true g.unguessed;
}

pub keeps_on : KeepsOn
keeps_on g s ms (line.Event e) h w next = on_event g s ms e h w
keeps_on g s ms (line.Message n from to bytes) h w next = sent_on g s ms n from to bytes h w next
keeps_on g s ms (line.Delivered n d) h w next = record {
  keys = h.keys;
  sightings = arrived_of g.sent s.sightings n h.sightings;
  unguessed = h.unguessed ∙ and_true g.unguessed;
}
keeps_on g s ms l h w next = record {
  keys = h.keys;
  sightings = h.sightings;
  unguessed = h.unguessed ∙ and_true g.unguessed;
}
