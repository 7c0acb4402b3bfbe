-- What a drive reads in the bytes of a command that a client awaits is the command itself.
use Rattle.std.proofs.Common.{◌≡◌, ℕ, ◌+◌, ◌<◌, ◌^◌, Bool, List, [], ◌∷◌, Option, Some, None, Ok, find, slice_get, unwrap_or, refl, sym, ap, subst, inl, inr, arith}
use Rattle.std.specs.List.{AllByRecursion}
use Rattle.std.proofs.lemmas.Bool.{cases_Bool}
use Rattle.std.proofs.lemmas.List.{append-nil}
use Rattle.std.proofs.lemmas.Option.{slice_get_cases, slice_get_within}
use Rattle.osd_capability.specs.declared.layout.Capability.{Capability}
use Rattle.osd_commands.specs.declared.commands.Command.{Command}
use Rattle.osd_commands.specs.Commands.{spelling, reading}
use Rattle.server_rules.specs.Layouts.{capability_for}
use Rattle.server_rules.specs.Laws.{In}
use Rattle.server_rules.proofs.FileLaws.{file_in}
use Rattle.server_rules.proofs.Members.{one_in}
use Rattle.client_rules.specs.Calls.{file_of, span_of}
use Rattle.client_rules.specs.Commands.{no_credential, credential_of, sealed, command}
use Rattle.client_rules.specs.Grants.{held_of}
use Rattle.client_rules.specs.Io.{awaited_in}
use Rattle.client_rules.specs.Messages.{awaited_of}
use Rattle.scenario_text.specs.declared.line.Line.{Line}
use Rattle.world_history.specs.ClientNames.{Awaited, Call, Credential, Held, Listed, Store}
use Rattle.world_history.specs.ServerNames.{Component, Drive, File, Grant, Kept}
use Rattle.world_history.specs.State.{World, ClientAt}
use Rattle.exchange_law.specs.Files.{GrantFits, KeptFits, AllFilesFit}
use Rattle.exchange_law.specs.InStep.{state_of}
use Rattle.exchange_law.specs.Sent.{HasPlaces}
use Rattle.exchange_law.proofs.Commands.{MaySend}
use Rattle.exchange_law.proofs.CountMoments.{at_moment, reached}
use Rattle.exchange_law.proofs.Parts.{each_in}
use Rattle.exchange_law.proofs.PlaceGoing.{CallFits}
use Rattle.exchange_law.proofs.PlaceLines.{IsPlacedWorld, all_placed}
use Rattle.exchange_law.proofs.PlaceSending.{AwaitedPlaced}
use Rattle.component_law.specs.Listed.{ListsComponents, ComponentsAgree}
use Rattle.cause_law.specs.Readable.{AnswersAreFit, PlacesAreEnough}
use Rattle.ready_law.specs.Fair.{IsFair}
use Rattle.ready_law.specs.Carried.{WorksUnder}
use Rattle.cause_law.proofs.KeyedGrants.{AreKeyed}
use Rattle.cause_law.proofs.MadeCommands.{IsMade}
use Rattle.cause_law.proofs.MadeSteps.{ClientMade, UnderMade, CallMade, all_made}
use Rattle.cause_law.proofs.MadeRead.{given, made_read, nonce_of}
use Rattle.ready_law.proofs.RangeEnds.{range_end}

-- ---- the credential of a component

-- the range ends where 32 bits reach
abbrev EndsLow : Capability → Type 0
EndsLow c = c.range_start + c.range_len < 2 ^ 32

module _ (ds : List Drive) (n : ℕ) (f : Kept) (g : Grant) (kept : KeptFits n f) (fits : GrantFits f.number f.map g) where
  capability_low : (at : Component) (k : ℕ) → EndsLow (capability_for f g at k)
  capability_low at k = omega (arith, range_end f.number f g at k kept.map fits, kept.map.short_unit)

  module _ (ls : List Listed) (a : ListsComponents ds f g ls) where
    there : (k : ℕ) (l : Listed) → slice_get ls k ≡ Some l → (at : Component) × (slice_get f.components k ≡ Some at)
    there k l is = elim (slice_get_cases f.components k).1 [
      | inl s ↦ (s.0, s.2)
      | inr past ↦ absurd (omega (arith, slice_get_within ls k l is, a.count, past.0))
    ]

    listed_low : (k : ℕ) (l : Listed) (o : Option Credential) → slice_get ls k ≡ Some l → l.credential ≡ o
        → EndsLow (unwrap_or o no_credential).capability
    listed_low k l None is has = omega arith
    listed_low k l (Some c) is has =
        let at = there k l is in
        rw (((a.each k at.0 l at.1 is).credential c has).capability) (capability_low at.0 k)

    ends_low : (k : ℕ) (o : Option Listed) → slice_get ls k ≡ o → EndsLow (given o).capability
    ends_low k None is = omega arith
    ends_low k (Some l) is = listed_low k l l.credential is refl

-- ---- a command that was made

length_below : (h : Held) (write : Bool) (w : Store) (nonce d : ℕ) → MaySend d (command h write w nonce)
    → EndsLow (credential_of h w.ask.component).capability → w.ask.length < 2 ^ 32
unfolding command sealed
length_below h write w nonce d may low = omega (arith, may.placed.end, low)

-- what holds of each grant does of one that is found
found_fits : (P : Grant → Type 0) (p : Grant → Bool) (gs : List Grant) (g : Grant) → AllByRecursion P gs
    → find p gs ≡ Some g → P g
found_fits P p [] g k e = absurd (cc e)
found_fits P p (x ∷ gs) g k e = elim (cases_Bool (p x)) [
  | inl t ↦ let same : Some x ≡ Some g = rw t at e in let is : x ≡ g = cc same in subst P is k.0
  | inr f ↦ let later : find p gs ≡ Some g = rw f at e in found_fits P p gs g k.1 later
]

-- ---- at a moment

module _ (w : World) (h : List Line) (client : ℕ) (x : Awaited) (u : WorksUnder w client x) where
  -- what the client holds and awaits was made so
  made : IsFair w h → ClientMade u.caller.state
  made fair = all_made w (reached w h fair.moment) client u.caller u.there

  of_call : (o : Option Call) → o ≡ Some u.call → CallMade u.caller.state.held o
      → held_of u.caller.state.held (file_of u.call.op) ≡ Some u.held → IsMade u.held (span_of u.call.op).length x
  of_call o is k held =
      each_in (IsMade u.held (span_of u.call.op).length) (awaited_in u.call.phase) x
      (subst (λ (g : Option Held). UnderMade g u.call.op u.call.phase) held (subst (CallMade u.caller.state.held) is k)).0
      u.awaits

  -- the command was made under the grant that is held, for no more bytes than the call's range has
  pub made_under : IsFair w h → IsMade u.held (span_of u.call.op).length x
  made_under fair = of_call u.caller.state.call u.pending (made fair).call u.holds

  in_call : In x (awaited_of u.caller.state.call)
  in_call = subst (λ (o : Option Call). In x (awaited_of o)) (sym u.pending) u.awaits

  -- it is placed, and what it carries fits
  pub may_be_sent : AnswersAreFit → IsFair w h → MaySend x.drive x.command
  may_be_sent answers fair =
      let k = at_moment IsPlacedWorld all_placed w h fair.moment in
      let fit = k.clients (answers h fair.lawful fair.of_text fair.few) client u.caller u.there in
      one_in AwaitedPlaced (awaited_in u.call.phase) x
      (subst (CallFits u.caller.state.held) u.pending fit.call).0 u.awaits

  pub has_places : PlacesAreEnough → IsFair w h → HasPlaces x.command
  has_places places fair =
      (places h fair.lawful fair.of_text fair.few w h [] (sym (append-nil h)) fair.moment).awaited client u.caller u.there x
      in_call

  -- what is held lists the components that the server has
  pub components : ComponentsAgree → IsFair w h → ListsComponents w.server.drives u.file.kept u.grant u.held.components
  components agree fair =
      agree w h fair.moment fair.readable client (file_of u.call.op) u.held u.file u.grant
      (subst (λ (o : Option ClientAt). held_of (state_of client o).held (file_of u.call.op) ≡ Some u.held) (sym u.there)
      u.holds) u.found u.granted

  short_command : AllFilesFit → ComponentsAgree → IsFair w h → (k : ℕ) → EndsLow (credential_of u.held k).capability
  unfolding credential_of
  short_command files agree fair k =
      let kept : KeptFits w.server.next_object u.file.kept =
      each_in (λ (f : File). KeptFits w.server.next_object f.kept) w.server.files u.file
      (files w h fair.moment fair.of_text) (file_in w.server.files (file_of u.call.op) u.file u.found) in
      ends_low w.server.drives w.server.next_object u.file.kept u.grant kept
      (found_fits (GrantFits u.file.kept.number u.file.kept.map) _ u.file.kept.grants u.grant kept.grants u.granted)
      u.held.components (components agree fair) k (slice_get u.held.components k) refl

pub awaited_are_read : AnswersAreFit → PlacesAreEnough → AllFilesFit → ComponentsAgree → (w : World) (h : List Line)
    → IsFair w h → (client : ℕ) (x : Awaited) (u : WorksUnder w client x) → reading (spelling x.command) ≡ Ok x.command
awaited_are_read answers places files agree w h fair client x u =
    let m = made_under w h client x u fair in
    let c : Command = command u.held m.write m.store m.nonce in
    let is : x.command ≡ c = ap (λ (y : Awaited). y.command) m.is in
    let may : MaySend x.drive c = subst (MaySend x.drive) is (may_be_sent w h client x u answers fair) in
    let low : m.nonce < 2 ^ 64 = nonce_of u.held m.write m.store m.nonce
    (subst (λ (y : Command). y.nonce < 2 ^ 64) is (has_places w h client x u places fair).nonce) in
    let few : m.store.ask.length < 2 ^ 32 =
    length_below u.held m.write m.store m.nonce x.drive may
    (short_command w h client x u files agree fair m.store.ask.component) in
    let keyed : AreKeyed u.held.components = ((made w h client x u fair).grants (file_of u.call.op) u.held u.holds).keyed in
    subst (λ (y : Command). reading (spelling y) ≡ Ok y) (sym is)
    (made_read u.held m.write m.store m.nonce x.drive keyed m.carries.0 may low few)
