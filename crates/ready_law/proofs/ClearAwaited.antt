-- What a call awaits of a drive meets no row of the drive's table but perhaps that of a repeat, while the server is up, has the
-- call's grant, and no job runs on the file.
use Rattle.std.proofs.Common.{nat_eq, bit_and, ◌≡◌, ◌≤◌, ◌+◌, ◌-◌, ℕ, true, false, List, [], length, slice_get, Option, Result, Ok, sym, ap, subst, ◌∙◌, arith, inl, inr}
use Rattle.std.proofs.lemmas.Bool.{cases_Bool, ltb-false}
use Rattle.std.proofs.lemmas.List.{append-nil}
use Rattle.osd_lists.proofs.Tests.{first_false}
use Rattle.osd_capability.specs.declared.layout.Capability.{Capability}
use Rattle.osd_capability.specs.Keys.{key_of}
use Rattle.osd_commands.specs.declared.commands.Command.{Command}
use Rattle.osd_commands.specs.declared.commands.CommandErr.{CommandErr}
use Rattle.osd_commands.specs.Actions.{right_of}
use Rattle.osd_commands.specs.Commands.{spelling, reading}
use Rattle.osd_drive.specs.declared.limits.TheConstants.{MAX_LENGTH, MAX_END}
use Rattle.osd_drive.specs.Table.{is_checked}
use Rattle.osd_objects.specs.declared.object.StoredObject.{StoredObject}
use Rattle.osd_objects.specs.Store.{object_at, bytes_or_none, free_of}
use Rattle.server_rules.specs.Laws.{In}
use Rattle.server_rules.specs.Layouts.{capability_for}
use Rattle.client_rules.specs.declared.limits.TheConstants.{MAX_CALL}
use Rattle.client_rules.specs.Calls.{file_of, span_of}
use Rattle.client_rules.specs.Commands.{credential_of, command, sealed}
use Rattle.client_rules.specs.Messages.{awaited_of}
use Rattle.scenario_text.specs.declared.line.Line.{Line}
use Rattle.world_history.specs.ClientNames.{Awaited, Call, Credential}
use Rattle.world_history.specs.ServerNames.{File}
use Rattle.world_history.specs.State.{World, DriveAt, at_number}
use Rattle.world_history.specs.Drives.{verdict_on, first_key}
use Rattle.world_history.specs.History.{OneEventMore}
use Rattle.history_law.specs.BookMoments.{IsMoment}
use Rattle.history_law.specs.Unforged.{UnguessedAreUnforged}
use Rattle.history_law.proofs.DriveLines.{drive_read}
use Rattle.history_law.proofs.Files.{in_at}
use Rattle.component_law.proofs.NamedLines.{are_named}
use Rattle.exchange_law.specs.Calls.{CallFine, IsCall}
use Rattle.exchange_law.specs.Counters.{CountersStayLow}
use Rattle.exchange_law.specs.Files.{KeptFits, GrantFits, AllFilesFit}
use Rattle.exchange_law.specs.InStep.{state_of}
use Rattle.exchange_law.specs.LaneTaken.{is_of_lanes, AwaitedAreTaken}
use Rattle.exchange_law.specs.Meeting.{KeptGood, IsMet, ClientsAgree}
use Rattle.exchange_law.specs.Placed.{IsPlaced}
use Rattle.exchange_law.specs.Awaited as awaited
use Rattle.exchange_law.proofs.Commands.{MaySend, credential_found}
use Rattle.exchange_law.proofs.DriveNumbers.{drive_number}
use Rattle.exchange_law.proofs.Knowing.{known_at}
use Rattle.exchange_law.proofs.Parts.{each_in}
use Rattle.cause_law.specs.Fresh.{GrantsAreFresh}
use Rattle.cause_law.specs.Readable.{AnswersAreFit, PlacesAreEnough}
use Rattle.component_law.specs.Least.{NoTagIsBehind}
use Rattle.component_law.specs.TagWithin.{NoTagIsAhead}
use Rattle.component_law.specs.Keys.{HasItsKey, KeysAreKnown}
use Rattle.component_law.proofs.Server.{grant_in}
use Rattle.ready_law.proofs.WorkingApart.{got_in}
use Rattle.component_law.specs.Listed.{IsCredentialFor, ListsComponent, ListsComponents, ComponentsAgree}
use Rattle.ready_law.specs.Carried.{WorksUnder, CanServe}
use Rattle.ready_law.specs.Clear.{IsClear}
use Rattle.ready_law.specs.Fair.{IsFair}
use Rattle.component_law.specs.Offline.{OfflineHaveFailed}
use Rattle.ready_law.proofs.ClearChecked.{made_checked, version_found, HasCredential, with_right}
use Rattle.ready_law.proofs.RangeEnds.{range_end}
use Rattle.cause_law.proofs.MadeCommands.{IsMade}
use Rattle.ready_law.proofs.ReadCommands.{made_under, may_be_sent, components}
use Rattle.component_law.proofs.Shut.{is_shut}
use Rattle.ready_law.proofs.ClearTagged.{HasTag, has_own_tag}

-- the laws that it takes
pub record ClearLaws : Type 0 where
  pub more : OneEventMore
  pub low : CountersStayLow
  pub agree : ClientsAgree
  pub components : ComponentsAgree
  pub keys : KeysAreKnown
  pub offline : OfflineHaveFailed
  pub files : AllFilesFit
  pub answers : AnswersAreFit
  pub taken : AwaitedAreTaken
  pub fresh : GrantsAreFresh
  pub places : PlacesAreEnough
  pub ahead : NoTagIsAhead
  pub behind : NoTagIsBehind
  pub unforged : UnguessedAreUnforged

-- ---- what is awaited

module _ (laws : ClearLaws) (w : World) (h : List Line) (fair : IsFair w h) (up : w.down ≡ false) (client : ℕ) (x : Awaited)
    (u : WorksUnder w client x) where
  k : IsMoment w h
  k = fair.moment

  -- the command is made under the held grant, for no more bytes than the call's range has
  pub under : IsMade u.held (span_of u.call.op).length x
  under = made_under w h client x u fair

  abbrev made : Command
  made = command u.held under.write under.store under.nonce

  is_made : x.command ≡ made
  is_made = ap (λ (y : Awaited). y.command) under.is

  -- it is for this component
  abbrev pub component : ℕ
  component = under.store.ask.component

  asked : x.ask.component ≡ component
  asked = ap (λ (y : Awaited). y.ask.component) under.is

  -- it lies where its capability allows
  may : MaySend x.drive x.command
  may = may_be_sent w h client x u laws.answers fair

  -- ---- its length

  within_call : (span_of u.call.op).length ≤ MAX_CALL
  within_call =
      let met : IsMet w.server client u.caller.state =
      subst (IsMet w.server client) (ap (state_of client) u.there) (laws.agree w h k fair.readable client) in
      let is : IsCall u.call.op =
      (subst (CallFine (KeptGood w.server client) u.caller.state.held u.caller.state.outstanding) u.pending met.call).0 in
      ltb-false MAX_CALL (span_of u.call.op).length (first_false _ _ is.range)

  pub short : x.command.length ≤ MAX_LENGTH
  unfolding command sealed
  short =
      let same : x.command.length ≡ under.store.ask.length = ap (λ (c : Command). c.length) is_made in
      omega (arith, same, under.carries.1, within_call)

  -- ---- the component's drive

  module _ (d : CanServe u) where
    lists : ListsComponents w.server.drives u.file.kept u.grant u.held.components
    lists = components w h client x u laws.components fair

    -- its component has a credential in the held grant
    pub credential : HasCredential u.held.components component
    unfolding command sealed
    credential =
        with_right u.held component x.command.action
        (subst (λ (c : Capability). nat_eq (bit_and c.rights (right_of x.command.action)) 0 ≡ false)
        (ap (λ (c : Command). c.capability) is_made) may.placed.right)

    is_credential : credential_of u.held component ≡ credential.credential
    is_credential =
        credential_found u.held component credential.listed credential.credential credential.found credential.has

    one : ListsComponent w.server.drives u.file.kept u.grant d.at component credential.listed
    one =
        lists.each component d.at credential.listed
        (ap (λ (n : ℕ). slice_get u.file.kept.components n) (sym asked) ∙ d.place) credential.found

    -- which is the one that the server would give now
    pub own : IsCredentialFor w.server.drives u.file.kept u.grant d.at component credential.credential
    own = one.credential credential.credential credential.has

    pub drive_is : x.drive ≡ d.at.drive
    drive_is =
        ap (λ (y : Awaited). y.drive) under.is ∙ ap (λ (c : Credential). c.drive) is_credential ∙ own.drive

    abbrev pub capability : Capability
    capability = capability_for u.file.kept u.grant d.at component

    pub capability_is : x.command.capability ≡ capability
    unfolding command sealed
    capability_is =
        ap (λ (c : Command). c.capability) is_made ∙ ap (λ (c : Credential). c.capability) is_credential ∙ own.capability

    pub object_is : x.command.object ≡ d.at.object
    object_is = may.placed.object ∙ ap (λ (c : Capability). c.object) capability_is

    -- a component whose drive hasn't failed isn't missing
    pub present : d.at.missing ≡ false
    present = elim (cases_Bool d.at.missing) [
      | inl gone ↦
          let out = laws.offline w h k d.at.drive (one.gone credential.credential credential.has gone) in
          let same : out.0 ≡ d.drive = cc (sym out.1 ∙ d.stands) in
          absurd (cc (sym out.2 ∙ ap (λ (a : DriveAt). a.failed) same ∙ d.works))
      | inr there ↦ there
    ]

    number : d.drive.state.number ≡ x.drive
    number =
        drive_number h d.at.drive d.drive
        (drive_read w (known_at w h k).read.injected h d.at.drive (known_at w h k).read.drives ∙ d.stands) ∙ sym drive_is

    its_key : HasItsKey w h d.at.drive d.drive
    its_key = laws.keys w h k d.at.drive d.drive d.stands

    -- the drive's key gives it this check value
    checked : is_checked its_key.key x.command ≡ true
    checked =
        ap (is_checked its_key.key) is_made
        ∙ made_checked u.held under.write under.store under.nonce its_key.key
        (ap (λ (c : Credential). c.key) is_credential ∙ own.key ∙ ap (λ (y : List ℕ). key_of y capability) its_key.known
        ∙ ap (key_of its_key.key) (sym (ap (λ (c : Credential). c.capability) is_credential ∙ own.capability)))

    -- the object is there with the file's tag
    stored : HasTag d.drive d.at.object u.file.kept.tag
    stored =
        has_own_tag laws.ahead laws.behind w h k (are_named h fair.written) fair.of_text fair.few
        (laws.unforged h fair.lawful fair.unguessed)
        (is_shut laws.more laws.low w h k (are_named h fair.written) fair.of_text fair.few) up (file_of u.call.op) u.file
        u.found u.quiet client u.grant u.granted d.at (got_in u.file.kept.components x.ask.component d.at d.place) present
        d.drive d.stands d.works

    -- it ends where an object may end
    low : x.command.offset + x.command.length ≤ MAX_END
    low =
        let kept : KeptFits w.server.next_object u.file.kept =
        each_in (λ (f : File). KeptFits w.server.next_object f.kept) w.server.files u.file (laws.files w h k fair.of_text)
        (in_at w.server.files (file_of u.call.op) u.file u.found) in
        let grant : GrantFits u.file.kept.number u.file.kept.map u.grant =
        each_in (GrantFits u.file.kept.number u.file.kept.map) u.file.kept.grants u.grant kept.grants
        (grant_in u.file.kept.grants client u.grant u.granted).0 in
        omega (
          arith,
          may.placed.end,
          ap (λ (c : Capability). c.range_start) capability_is,
          ap (λ (c : Capability). c.range_len) capability_is,
          range_end u.file.kept.number u.file.kept u.grant d.at component kept.map grant,
          kept.map.short_unit,
        )

    -- no row on lanes applies
    taken : reading (spelling x.command) ≡ Ok x.command
        → is_of_lanes (verdict_on d.drive.state d.drive.clock (Ok x.command)) ≡ false
    taken read =
        let few : awaited.AreFewerThanNonces h = omega (arith, fair.few) in
        subst (λ (r : Result Command CommandErr). is_of_lanes (verdict_on d.drive.state d.drive.clock r) ≡ false) read
        (laws.taken w h k fair.unguessed (laws.fresh h fair.readable few)
        (laws.places h fair.lawful fair.of_text fair.few w h [] (sym (append-nil h)) k) client u.caller u.there x
        (subst (λ (o : Option Call). In x (awaited_of o)) (sym u.pending) u.awaits) d.drive
        (ap (at_number w.drives) drive_is ∙ d.stands))

    clear : reading (spelling x.command) ≡ Ok x.command → IsClear d.drive.state d.drive.clock x.command
    clear read = record {
      placed = subst (λ (n : ℕ). IsPlaced n x.command) (sym number) may.placed;
      format = subst (λ (c : Capability). d.drive.state.least ≤ c.format) (sym capability_is) d.format;
      key = first_key its_key.key;
      known =
          version_found d.drive.state.keys its_key.key x.command.capability.key_version its_key.keys
          (ap (λ (c : Capability). c.key_version) capability_is);
      checked = checked;
      in_time = subst (λ (c : Capability). d.drive.clock ≤ c.expiry) (sym capability_is) d.in_time;
      object = stored.stored;
      there = ap (object_at d.drive.state.store) object_is ∙ stored.there;
      tag = ap (λ (c : Capability). c.tag) capability_is ∙ stored.its;
      short = short;
      low = low;
      room = λ is.
          subst (λ (o : Option StoredObject). (x.command.offset + x.command.length) - length (bytes_or_none o)
          ≤ free_of d.drive.state.store) stored.there (d.room is);
      taken = taken read;
    }

-- so it is at each fair moment
pub awaited_are_clear : ClearLaws → (w : World) (h : List Line) → IsFair w h → w.down ≡ false → (client : ℕ) (x : Awaited)
    → (u : WorksUnder w client x) (d : CanServe u) → reading (spelling x.command) ≡ Ok x.command
    → (x.drive ≡ d.at.drive) × IsClear d.drive.state d.drive.clock x.command
awaited_are_clear laws w h fair up client x u d read =
    (drive_is laws w h fair up client x u d, clear laws w h fair up client x u d read)
