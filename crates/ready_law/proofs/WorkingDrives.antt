-- A command of a working call comes to its drive.
use Rattle.std.proofs.Common.{◌≡◌, ◌⊎◌, ◌≤◌, ◌+◌, ℕ, true, false, List, length, slice_get, Option, Some, None, IsSome, refl, sym, ap, subst, ◌∙◌, inl, inr, arith}
use Rattle.std.proofs.lemmas.Bool.{cases_eq}
use Rattle.osd_objects.proofs.Entries.{lookup_set, lookup_set_beside}
use Rattle.server_rules.specs.Laws.{In}
use Rattle.stripe_plan.specs.Lost.{among}
use Rattle.client_rules.specs.Calls.{is_write}
use Rattle.client_rules.specs.Io.{awaited_in}
use Rattle.world_history.specs.ClientNames.{Awaited, Phase}
use Rattle.world_history.specs.ServerNames.{Component}
use Rattle.world_history.specs.State.{World, DriveAt, ClientAt, at_number, with_number}
use Rattle.ready_law.specs.Clear.{HasRoomTo}
use Rattle.ready_law.specs.Ready.{is_lost, IsTouched, write_end}
use Rattle.ready_law.proofs.Calls.{ReadyCall, scene_at, op_at, kept_at, lost_at, queue_at}
use Rattle.ready_law.proofs.Stages.{IsAsBefore, DrivesGoOn, AreOf, HaveOwnNonces, commands_in, HasGrant, Working}
use Rattle.ready_law.proofs.AskingFrames.{serves_stays, caller_stays, aside_still}

-- ---- the stage stays

-- the grant is held as it was
abbrev grant_on : {s : ReadyCall} {w v : World} {p : Phase} {size : ℕ} → HasGrant s w p None size → v.clients ≡ w.clients
    → v.server ≡ w.server → v.clock ≡ w.clock → v.down ≡ w.down → HasGrant s v p None size
grant_on {s} {w} {v} {p} {size} x clients server clock down = record {
  caller = caller_stays s w v p None (ap (λ (xs : List (ℕ × ClientAt)). at_number xs s.client) clients) x.caller;
  held = x.held;
  holds = x.holds;
  grants = x.grants;
  grant = x.grant;
  granted = x.granted;
  others = x.others;
  aside = aside_still s w v x.grants (λ c other. ap (λ (xs : List (ℕ × ClientAt)). at_number xs c) clients) x.aside;
  server = serves_stays s w v x.grants size server clock down x.server;
  good = x.good;
  listed = x.listed;
}

-- Neither the client nor the server did anything, and these messages are on their way now.
pub record IsBeside (s : ReadyCall) (w v : World) (a : Working s w) (waiting : List Awaited) : Type 0 where
  pub clients : v.clients ≡ w.clients
  pub server : v.server ≡ w.server
  pub clock : v.clock ≡ w.clock
  pub down : v.down ≡ w.down
  pub drives : DrivesGoOn s v
  pub own : HaveOwnNonces waiting
  pub queue : AreOf s.client waiting (queue_at s v)
  pub awaited : (x : Awaited) → In x waiting → In x (awaited_in a.phase)
  pub heard : (x : Awaited) → In x (awaited_in a.phase) → In x waiting ⊎ (among x.ask.component (lost_at s) ≡ true)
  pub sent : length v.network.messages + commands_in (queue_at s v)
      ≤ length w.network.messages + commands_in (queue_at s w)

pub still_works : (s : ReadyCall) (w v : World) (a : Working s w) (waiting : List Awaited) → IsBeside s w v a waiting
    → Working s v
still_works s w v a waiting b = record {
  phase = a.phase;
  works = a.works;
  has = grant_on a.has b.clients b.server b.clock b.down;
  size = a.size;
  well = a.well;
  in_time = a.in_time;
  drives = b.drives;
  begun = a.begun;
  commands = a.commands;
  run = a.run;
  waiting = waiting;
  own = b.own;
  queue = b.queue;
  awaited = b.awaited;
  heard = b.heard;
  sent = omega (arith, a.sent, b.sent);
}

-- ---- one drive becomes another

as_judged : (o : Option DriveAt) (a b : DriveAt) → IsAsBefore o (Some a) → b.failed ≡ a.failed → b.down ≡ a.down
    → b.clock ≡ a.clock → b.state.least ≡ a.state.least → IsAsBefore o (Some b)
as_judged None a b e failed down clock least = absurd (cc e)
as_judged (Some o) a b x failed down clock least =
    let same : a ≡ x.0 = cc x.1 in (
      b,
      refl,
      failed ∙ ap (λ (z : DriveAt). z.failed) same ∙ x.2,
      down ∙ ap (λ (z : DriveAt). z.down) same ∙ x.3,
      clock ∙ ap (λ (z : DriveAt). z.clock) same ∙ x.4,
      least ∙ ap (λ (z : DriveAt). z.state.least) same ∙ x.5,
    )

-- a drive stays but for its objects, and room stays there
pub record BecomesAlike (s : ReadyCall) (w v : World) (d : ℕ) : Type 0 where
  pub was : DriveAt
  pub stood : at_number w.drives d ≡ Some was
  pub now : DriveAt
  pub drives : v.drives ≡ with_number w.drives d now
  pub failed : now.failed ≡ was.failed
  pub down : now.down ≡ was.down
  pub clock : now.clock ≡ was.clock
  pub least : now.state.least ≡ was.state.least
  pub room : (k : ℕ) (at : Component) (top : ℕ) → slice_get (kept_at s).components k ≡ Some at → at.drive ≡ d
      → (is_write (op_at s) ≡ true → write_end (kept_at s) (op_at s) k ≤ top)
      → HasRoomTo top was.state.store at.object → HasRoomTo top now.state.store at.object

pub drives_alike : (s : ReadyCall) (w v : World) (d : ℕ) → DrivesGoOn s w → BecomesAlike s w v d → DrivesGoOn s v
drives_alike s w v d go b = record { each = each; stays = stays; room = room }
  where
    here : at_number v.drives d ≡ Some b.now
    here =
        ap (λ (ds : List (ℕ × DriveAt)). at_number ds d) b.drives
        ∙ lookup_set w.drives d b.now (subst IsSome (sym b.stood) refl)

    there : (n : ℕ) → (n ≡ d → ⊥) → at_number v.drives n ≡ at_number w.drives n
    there n other =
        ap (λ (ds : List (ℕ × DriveAt)). at_number ds n) b.drives ∙ lookup_set_beside w.drives d n b.now other

    each : (n : ℕ) → IsAsBefore (at_number s.world.drives n) (at_number v.drives n)
    each n = elim (cases_eq n d) [
      | inl is ↦
          subst (λ (k : ℕ). IsAsBefore (at_number s.world.drives k) (at_number v.drives k)) (sym is)
          (subst (IsAsBefore (at_number s.world.drives d)) (sym here)
          (as_judged (at_number s.world.drives d) b.was b.now
          (subst (IsAsBefore (at_number s.world.drives d)) b.stood (go.each d)) b.failed b.down b.clock b.least))
      | inr other ↦ subst (IsAsBefore (at_number s.world.drives n)) (sym (there n other)) (go.each n)
    ]

    stays : (k : ℕ) (at : Component) (a c : DriveAt) (top : ℕ) → slice_get (kept_at s).components k ≡ Some at
        → at_number s.world.drives at.drive ≡ Some a → at_number v.drives at.drive ≡ Some c
        → (is_write (op_at s) ≡ true → write_end (kept_at s) (op_at s) k ≤ top)
        → HasRoomTo top a.state.store at.object → HasRoomTo top c.state.store at.object
    stays k at a c top place first now low old = elim (cases_eq at.drive d) [
      | inl is ↦
          let same : b.now ≡ c = cc (sym here ∙ ap (at_number v.drives) (sym is) ∙ now) in
          subst (λ (x : DriveAt). HasRoomTo top x.state.store at.object) same
          (b.room k at top place is low (go.stays k at a b.was top place first (ap (at_number w.drives) is ∙ b.stood) low old))
      | inr other ↦ go.stays k at a c top place first (sym (there at.drive other) ∙ now) low old
    ]

    room : is_write (op_at s) ≡ true → (k : ℕ) (at : Component) (a : DriveAt) → IsTouched (kept_at s) (op_at s) k
        → slice_get (kept_at s).components k ≡ Some at → is_lost (scene_at s) at ≡ false
        → at_number v.drives at.drive ≡ Some a → HasRoomTo (write_end (kept_at s) (op_at s) k) a.state.store at.object
    room writes k at a touched place works stands = elim (cases_eq at.drive d) [
      | inl is ↦
          let same : b.now ≡ a = cc (sym here ∙ ap (at_number v.drives) (sym is) ∙ stands) in
          let old = go.room writes k at b.was touched place works (ap (at_number w.drives) is ∙ b.stood) in
          subst (λ (x : DriveAt). HasRoomTo (write_end (kept_at s) (op_at s) k) x.state.store at.object) same
          (b.room k at (write_end (kept_at s) (op_at s) k) place is (λ e. omega arith) old)
      | inr other ↦ go.room writes k at a touched place works (sym (there at.drive other) ∙ stands)
    ]
