-- A client's request on a file: what the machine has behind its step.
-- Towards `KeptGoesOn` (`specs/Steps.antt`).
use Rattle.std.proofs.Common.{◌≡◌, ◌==◌, ℕ, ◌+◌, Bool, false, List, [], ◌∷◌, ◌++◌, Some, None, refl, sym, subst, arith, inl, inr}
use Rattle.std.proofs.lemmas.Bool.{cases_Bool, eq-eqb}
use Rattle.layout_ops.specs.declared.statuses.TheConstants.{LAYOUTIOMODE4_RW, NFS4_OK}
use Rattle.client_rules.specs.Results.{status_of}
use Rattle.server_rules.specs.Get.{gives}
use Rattle.server_rules.specs.Grants.{grant_of}
use Rattle.server_rules.specs.History.{Input}
use Rattle.server_rules.specs.Requests.{answer_with}
use Rattle.server_rules.specs.Served.{Served}
use Rattle.world_history.specs.ServerNames.{Server, File, Grant, Note, ClientRequest, Get as Gets}
use Rattle.world_history.specs.State.{World}
use Rattle.fence_law.specs.State.{State, Event}
use Rattle.fence_law.specs.State.{Event as event}
use Rattle.fence_law.specs.Machine.{Lawful, after_all}
use Rattle.fence_law.proofs.Safe.{Safe, safe_all}
use Rattle.file_simulation.specs.Grants.{covers_column}
use Rattle.file_simulation.specs.ServerEvents.{answered_here}
use Rattle.relation_law.specs.KeptAsked.{AsksAs}
use Rattle.relation_law.specs.KeptGets.{IsRefused, IsGiven, GetsAs, Refused, Given_}
use Rattle.relation_law.specs.KeptSteps.{AllLight, notes_events, behind_notes, IsKeptAt}
use Rattle.relation_law.proofs.KeptGrants.{grants_kept}
use Rattle.relation_law.proofs.KeptServer.{light_kept}

-- ---- the answer to a LAYOUTGET

module _ (next : ℕ) (t : State) (w : World) (f : File) (i : Input) (Given : List Note → Type 0) (safe : Safe t)
    (server : Server) (q : ClientRequest) (iomode offset count : ℕ) (is : q.args ≡ Gets iomode offset count) where
  abbrev rw_ : Bool
  rw_ = iomode == LAYOUTIOMODE4_RW

  -- the events of the answer
  abbrev answer : Served → State → List Event
  answer v u = answered_here u q.client (Gets iomode offset count) (answer_with server q v) v.going.file

  found_own : (gs : List Grant) (x : Grant) (c : ℕ) → x.client ≡ c → grant_of gs c ≡ None → grant_of (gs ++ (x ∷ [])) c ≡ Some x
  found_own [] x c e none = rw (eq-eqb x.client c e) refl
  found_own (g ∷ gs) x c e none = elim (cases_Bool (g.client == c)) [
    | inl b ↦ absurd (cc (rw b at none))
    | inr z ↦ rw z (found_own gs x c e (rw z at none))
  ]

  pub refused_asks : (v : Served) → IsRefused next t w f i Given (Gets iomode offset count) v
      → AsksAs (next + v.numbers) t w f i (Given v.going.effects.notes) v.going.effects.notes (answer v) v.going.file
  refused_asks v r =
      let bad : (status_of (answer_with server q v).results == NFS4_OK) ≡ false =
      rw (r.none, is) r.status in
      record {
        lawful = r.done.lawful;
        kept = λ x l.
            let u : State = behind_notes t w f i v.going.effects.notes in
            let es : List Event = answer v u in
            let light : AllLight es = rw bad (refl, tt) in
            let k : IsKeptAt next u v.going.file = r.done.kept x in
            let safe_ : Safe u = safe_all t (notes_events t w f i v.going.effects.notes) (r.done.lawful x) safe in
            let same : next ≡ next + v.numbers = let e = r.numbers in omega (arith, e) in
            subst (λ (n : ℕ). IsKeptAt n (after_all u es) v.going.file) same
            (light_kept next u es v.going.file light l safe_ k);
      }

  pub given_asks : (v : Served) → IsGiven next t w f i Given q.client rw_ v
      → AsksAs (next + v.numbers) t w f i (Given v.going.effects.notes) v.going.effects.notes (answer v) v.going.file
  given_asks v r =
      subst (λ (y : Served).
      AsksAs (next + y.numbers) t w f i (Given y.going.effects.notes) y.going.effects.notes (answer y) y.going.file)
      (sym r.gives_it)
      (record {
        lawful = r.lawful;
        kept = λ x l.
            let u : State = behind_notes t w f i r.before.effects.notes in
            let safe_ : Safe u = safe_all t (notes_events t w f i r.before.effects.notes) (r.lawful x) safe in
            let es : answer (gives r.before r.grant) u ≡
            event.Grants q.client r.grant.number r.grant.rw
            (covers_column r.before.file.kept.map r.grant.first r.grant.end) r.grant.extending ∷ [] =
            rw (found_own r.before.file.kept.grants r.grant q.client r.can.client r.can.own, r.rw_is) refl in
            subst (λ (x : List Event). IsKeptAt (next + 1) (after_all u x) (gives r.before r.grant).going.file) (sym es)
            (let a = subst (Lawful u) es l in
            grants_kept next r.busy u r.before.file.kept q.client r.grant r.can (r.so_far x) a.0 safe_
            (gives r.before r.grant).going.file refl r.idle);
      })

  pub gets_asks : (v : Served) → GetsAs next t w f i Given (Gets iomode offset count) q.client rw_ v
      → AsksAs (next + v.numbers) t w f i (Given v.going.effects.notes) v.going.effects.notes (answer v) v.going.file
  gets_asks v (Refused r) = refused_asks v r
  gets_asks v (Given_ r) = given_asks v r
