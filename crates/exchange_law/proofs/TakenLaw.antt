-- No drive finds an awaited command stale, or an object without a lane for it.
use Rattle.std.proofs.Common.{◌≡◌, ℕ, ◌<◌, ◌∷◌, [], List, true, false, nat_eq, bit_and, Some, Result, Ok, Err, map, refl, sym, ap, subst, ◌∙◌, arith, inl, inr}
use Rattle.osd_lists.proofs.Tests.{first_false}
use Rattle.osd_capability.specs.declared.layout.Capability.{Capability}
use Rattle.osd_commands.specs.declared.commands.Command.{Command}
use Rattle.osd_commands.specs.declared.commands.CommandErr.{CommandErr}
use Rattle.osd_commands.specs.Actions.{right_of}
use Rattle.osd_commands.specs.Commands.{reading, spelling}
use Rattle.osd_drive.specs.declared.verdict.Verdict.{Verdict}
use Rattle.osd_drive.specs.declared.verdict.Verdict.TheVariants as verdict
use Rattle.osd_drive.specs.Table.{first_fault, has_no_right, is_mutating}
use Rattle.osd_objects.specs.declared.lanes.LaneEntry.{LaneEntry}
use Rattle.osd_objects.specs.declared.object.StoredObject.{StoredObject}
use Rattle.osd_objects.specs.Store.{object_at}
use Rattle.server_rules.specs.Laws.{In}
use Rattle.client_rules.specs.Commands.{no_capability}
use Rattle.client_rules.specs.Messages.{awaited_of}
use Rattle.exchange_law.specs.ClientState.{Awaited}
use Rattle.scenario_text.specs.declared.names.TheConstants.{CLIENTS}
use Rattle.scenario_text.specs.declared.line.Party.TheVariants as party
use Rattle.scenario_text.specs.declared.line.Line.{Line}
use Rattle.world_history.specs.State.{DriveAt, ClientAt, World, at_number}
use Rattle.world_history.specs.Told.{told_verdict}
use Rattle.world_history.specs.Drives.{verdict_on}
use Rattle.world_history.specs.Reading.{sent_in}
use Rattle.world_history.specs.Guesses.{unguessed}
use Rattle.world_history.specs.History.{OneEventMore}
use Rattle.world_history.specs.Laws.{shown}
use Rattle.history_law.proofs.DriveLines.{sent_read, drive_read}
use Rattle.history_law.specs.BookMoments.{IsMoment}
use Rattle.history_law.proofs.Spelled.{command_reads}
use Rattle.history_law.proofs.Carried.{none_read}
use Rattle.history_law.proofs.IssuedLaw.{answered, nothing_allowed}
use Rattle.history_law.proofs.Issuing.{MaySend}
use Rattle.history_law.proofs.Known.{AreKnown}
use Rattle.history_law.proofs.IssueLines.{IsKnown}
use Rattle.history_law.proofs.Messages.{all_carry}
use Rattle.history_law.proofs.HolderLaw.{given_holder, given_named}
use Rattle.history_law.proofs.Named.{lines_named, messages_named}
use Rattle.exchange_law.specs.Sent.{IsBacked, CommandsFit}
use Rattle.exchange_law.specs.Given.{GrantsAreNew}
use Rattle.exchange_law.specs.Lanes.{IsFrom, IsOwn, AreLanes, LanesAreOwn}
use Rattle.exchange_law.specs.Latest.{AwaitedAreLatest}
use Rattle.exchange_law.specs.LaneTaken.{is_of_lanes, AwaitedAreTaken}
use Rattle.exchange_law.proofs.Knowing.{known_at, lawful_at, was_sent}
use Rattle.exchange_law.proofs.LaneRows.{full_row, stale_row, are_many, is_late}
use Rattle.exchange_law.proofs.Sources.{below}

-- ---- commands without a capability

pub not_none : (y : Command) → has_no_right y ≡ false → y.capability ≡ no_capability → ⊥
not_none y allowed none =
    let nothing : nat_eq (bit_and y.capability.rights (right_of y.action)) 0 ≡ true =
    ap (λ (x : Capability). nat_eq (bit_and x.rights (right_of y.action)) 0) none ∙ nothing_allowed y.action in
    cc (sym nothing ∙ first_false _ _ allowed)

-- what has the right that it needs carries a capability
backed : (x y : Command) → reading (spelling x) ≡ Ok y → has_no_right y ≡ false → IsBacked x
backed x y read allowed none = not_none y allowed (none_read x y none read)

-- ---- whose it is

known_in : (Q : ℕ → Command → Type 0) (xs : List Awaited) (x : Awaited) → AreKnown Q xs → In x xs
    → Q x.drive x.command
known_in Q [] x k i = absurd i
known_in Q (z ∷ xs) x k (inl e) = subst (λ (v : Awaited). Q v.drive v.command) (sym e) k.0
known_in Q (z ∷ xs) x k (inr i) = known_in Q xs x k.1 i

module _ (further : OneEventMore) (lanes : LanesAreOwn) (latest : AwaitedAreLatest) (w : World) (h : List Line)
    (k : IsMoment w h) (clean : unguessed h ≡ true) (given : GrantsAreNew h) (fit : CommandsFit w) (c : ℕ)
    (a : ClientAt) (there : at_number w.clients c ≡ Some a) (x : Awaited) (i : In x (awaited_of a.state.call))
    (d : DriveAt) (stands : at_number w.drives x.drive ≡ Some d) (y : Command)
    (read : reading (spelling x.command) ≡ Ok y) where
  known : IsKnown w h
  known = known_at w h k

  seen : sent_in h ≡ map shown w.network.messages
  seen = sent_read w known.read.injected h known.read.drives

  -- the capability that a client awaits by names its number
  holder_by : MaySend (sent_in h) c x.drive x.command → has_no_right y ≡ false
      → (y.capability.holder ≡ c) × (c < CLIENTS)
  holder_by (inl (o, was, under)) allowed =
      let named = given_named (sent_in h) c o (messages_named h (lines_named h (lawful_at w h k))) was in (
        given_holder (sent_in h) c x.drive o was (answered (sent_in h) c o (all_carry h known.lines) was) x.command y
            under named read,
        below c named,
      )
  holder_by (inr none) allowed = absurd (not_none y allowed (none_read x.command y none read))

  holder : has_no_right y ≡ false → (y.capability.holder ≡ c) × (c < CLIENTS)
  holder allowed =
      holder_by (known_in (MaySend (sent_in h) c) (awaited_of a.state.call) x (known.world.clients c a there).call i)
      allowed

  lanes_there : (object : ℕ) (o : StoredObject) → object_at d.state.store object ≡ Some o
      → AreLanes h x.drive object o.lanes
  lanes_there object o found =
      lanes h (lawful_at w h k) clean x.drive d
      (drive_read w known.read.injected h x.drive known.read.drives ∙ stands) object o found

  -- ---- there is a lane

  not_full : first_fault d.state d.clock y ≡ verdict.LaneFull → ⊥
  not_full e =
      let r = full_row d.state d.clock y e in
      let m = are_many (object_at d.state.store y.object) (is_mutating y.action) _ r.1 in
      omega (arith, m.2, (lanes_there y.object m.0 m.1).few)

  -- ---- its nonce isn't later

  earlier : (l : LaneEntry) → l.holder ≡ c → IsFrom h (party.Client c) x.drive y.object l → has_no_right y ≡ false
      → is_mutating y.action ≡ true → y.nonce < l.nonce → ⊥
  earlier l holds f allowed changes later =
      let s = was_sent further w h k f.number f.message c x.drive seen f.there f.sender f.receiver in
      let spelled_read : reading (spelling s.command) ≡ Ok f.command = ap reading (sym s.bytes_are) ∙ f.read in
      let z = command_reads s.command f.command spelled_read in
      let own = command_reads x.command y read in
      let z_fits = fit.sent c x.drive s.command s.sent in
      let x_fits = fit.awaited c a there x i in
      let le = latest w h k given c a there x i (ap is_mutating (sym own.action) ∙ changes)
      (backed x.command y read allowed) x.drive s.command s.sent (ap is_mutating (sym z.action) ∙ f.changes)
      (backed s.command f.command spelled_read f.allowed)
      (sym (z.object z_fits.object) ∙ f.object_is ∙ own.object x_fits.object) in
      omega (arith, le, later, z.nonce z_fits.nonce, own.nonce x_fits.nonce, f.nonce_is)

  by_owner : (l : LaneEntry) → IsOwn h x.drive y.object l → l.holder ≡ y.capability.holder → has_no_right y ≡ false
      → is_mutating y.action ≡ true → y.nonce < l.nonce → ⊥
  by_owner l (inl (server, f)) same allowed changes later =
      let r = holder allowed in omega (arith, server, same, r.0, r.1)
  by_owner l (inr (less, f)) same allowed changes later =
      let own : l.holder ≡ c = same ∙ (holder allowed).0 in
      earlier l own (subst (λ (n : ℕ). IsFrom h (party.Client n) x.drive y.object l) own f) allowed changes later

  not_stale : (last : ℕ) → first_fault d.state d.clock y ≡ verdict.Stale last → ⊥
  not_stale last e =
      let r = stale_row d.state d.clock y last e in
      let s = is_late (object_at d.state.store y.object) (is_mutating y.action) y.capability.holder y.nonce r.1 in
      by_owner s.1.lane ((lanes_there y.object s.1.object s.1.there).own s.1.lane s.1.inside) s.1.holder_is r.0 s.0
      s.1.later

  by_verdict : (v : Verdict) → first_fault d.state d.clock y ≡ v → is_of_lanes (told_verdict v) ≡ false
  by_verdict verdict.LaneFull e = absurd (not_full e)
  by_verdict (verdict.Stale last) e = absurd (not_stale last e)
  by_verdict verdict.Perform e = refl
  by_verdict verdict.NoKey e = refl
  by_verdict verdict.CheckValue e = refl
  by_verdict verdict.Expired e = refl
  by_verdict verdict.Rights e = refl
  by_verdict verdict.WrongObject e = refl
  by_verdict verdict.Range e = refl
  by_verdict verdict.NoObject e = refl
  by_verdict verdict.Exists e = refl
  by_verdict (verdict.Tag current) e = refl
  by_verdict verdict.Limit e = refl
  by_verdict (verdict.NoSpace free) e = refl
  by_verdict verdict.AttrFull e = refl
  by_verdict verdict.Again e = refl
  by_verdict verdict.OldFormat e = refl

  pub taken : is_of_lanes (told_verdict (first_fault d.state d.clock y)) ≡ false
  taken = by_verdict (first_fault d.state d.clock y) refl

pub awaited_are_taken : OneEventMore → LanesAreOwn → AwaitedAreLatest → AwaitedAreTaken
awaited_are_taken further lanes latest w h k clean given fit c a there x i d stands =
    by_reading (reading (spelling x.command)) refl
  where
    by_reading : (r : Result Command CommandErr) → reading (spelling x.command) ≡ r
        → is_of_lanes (verdict_on d.state d.clock r) ≡ false
    by_reading (Ok y) read = taken further lanes latest w h k clean given fit c a there x i d stands y read
    by_reading (Err e) read = refl
