-- The records of a connection, piece by piece.
use Rattle.std.proofs.Common.{◌≡◌, ◌+◌, ℕ, suc, List, [], ◌∷◌, ◌++◌, length, Option, None, Err, Some, refl, sym, ap, subst, inl, inr, ◌∙◌, arith}
use Rattle.std.proofs.lemmas.List.{length-append}
use Rattle.std.proofs.Math.Numerals.{add-one}
use Rattle.osd_bytes.specs.Causes.{Rose}
use Rattle.osd_bytes.specs.Connections.{Accepts, Traffic}
use Rattle.osd_bytes.specs.Counts.{NoFewer}
use Rattle.osd_bytes.specs.declared.source.Fault.{Fault}
use Rattle.osd_bytes.specs.Records.{Split, fresh}
use Rattle.osd_bytes.proofs.RecordLaws.{split-nil}
use Rattle.osd_bytes.specs.Asking.{Ends}
use Rattle.osd_bytes.specs.Inboxes.{Came, Coming, Reads, WasTaken}
use Rattle.osd_bytes.specs.Inboxes as over
use Rattle.osd_bytes.specs.declared.inbox.TheConstants.{MAX_TAKEN}
use Rattle.server_rules.specs.declared.server.Server.{Server}
use Rattle.server_command.specs.Messages.{InTurn, ServesRecord, Serving}
use Rattle.server_command.specs.Steps.{ServerStep}
use Rattle.server_command.specs.Connections.{AcceptsNone, AcceptsOne, IsOver, ServesAll, ServesConnection, ServesPieces, ServesStream, Takes}

-- what a connection gave so far
abbrev pub HasServed : (s t : Serving) → Coming → Type 0
HasServed s t inbox =
    (pieces : ℕ) × (taken : List ℕ) × (records : List (List ℕ)) × ServesPieces pieces taken records s t
    × Came taken records inbox × (length taken + inbox.room ≡ MAX_TAKEN)

pub served_none : (s : Serving) (inbox : Coming) → inbox ≡ record { begun = Some fresh; room = MAX_TAKEN } → HasServed s s inbox
served_none s inbox e = (
  0,
  [],
  [],
  (refl, refl, refl),
  split-nil fresh ∙ ap (λ (i : Coming). record { records = []; begun = i.begun }) (sym e),
  omega (arith, ap (λ (i : Coming). i.room) e),
)

pub served_more : (s u t : Serving) (e : Ends) (inbox left : Coming) (piece : List ℕ) (records : List (List ℕ))
    → HasServed s u inbox → Takes piece u.ends e → length piece + left.room ≡ inbox.room → Reads piece records inbox left
    → InTurn ServesRecord records (record u { ends = e }) t → HasServed s t left
served_more s u t e inbox left piece records h takes rooms reads turn = (
  suc h.0,
  h.1 ++ piece,
  h.2 ++ records,
  (h.1, piece, h.2, records, u, e, h.3, takes, turn, refl, refl),
  reads h.1 h.2 h.4,
  omega (arith, h.5, rooms, length-append h.1 piece),
)

nothing_taken : (piece : List ℕ) (room : ℕ) → length piece + room ≡ room → piece ≡ []
nothing_taken [] room e = refl
nothing_taken (x ∷ piece) room e = absurd (omega (arith, e))

pub served_over : (s t : Serving) (new : Server) (has : List ServerStep) (now : Ends) (inbox left : Coming) (piece : List ℕ)
    → HasServed s t inbox → WasTaken t.ends.told now.told piece → length piece + left.room ≡ inbox.room → left ≡ inbox
    → NoFewer t.ends.faults now.faults → now.times ≡ t.ends.times → over.IsOver inbox now.told t.ends.faults now.faults
    → new ≡ t.server → has ≡ t.done → ServesStream s new has now
served_over s t new has now inbox left piece h took rooms same fewer times ends state steps = record {
  pieces = h.0;
  taken = h.1;
  last = t;
  served = subst (λ (rs : List (List ℕ)). ServesPieces h.0 h.1 rs s t) (sym (ap (λ (x : Split). x.records) h.4)) h.3;
  limit = omega (arith, h.5);
  state = state;
  steps = steps;
  ends = record {
    told = subst (λ (p : List ℕ). WasTaken t.ends.told now.told p)
        (nothing_taken piece inbox.room (ap (λ (i : Coming). length piece + i.room) (sym same) ∙ rooms)) took;
    faults = fewer;
    times = times;
  };
  over = why ends;
}
  where
    why : over.IsOver inbox now.told t.ends.faults now.faults → IsOver h.1 t.ends now
    why (inl e) = inl (ap (λ (x : Split). x.begun) h.4 ∙ e)
    why (inr (inl e)) = inr (inl (omega (arith, h.5, e)))
    why (inr (inr (inl r))) = inr (inr (inl r))
    why (inr (inr (inr e))) = inr (inr (inr e))

pub served_one : (n : ℕ) (old s new : Server) (had steps has : List ServerStep) (before between accepted now : Ends)
    → ServesAll n old s had steps before between → AcceptsOne between accepted
    → ServesConnection s new steps has accepted now → ServesAll (n + 1) old new had has before now
served_one n old s new had steps has before between accepted now all accepts serves =
    rw add-one (s, between, steps, all, accepted, accepts, serves)

-- links that accept nothing tell nothing new
pub accepts_none : (before now : Ends) (e : Fault) → Accepts before.told now.told (Err e) → now.times ≡ before.times
    → NoFewer before.faults now.faults → Rose before.faults.listening now.faults.listening → AcceptsNone before now
accepts_none before now e told times faults rose =
    record { told = same before.told now.told told; times = times; faults = faults; rose = rose }
  where
    same : (old new : Option Traffic) → Accepts old new (Err e) → new ≡ old
    same None new is = is
    same (Some a) new is = is
