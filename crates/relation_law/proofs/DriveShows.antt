-- A drive performs a READ that a client's call awaits: component k may show its cells to the entry that the client is at.
-- Towards `EventsAreLawful` (`specs/Steps.antt`).
use Rattle.std.proofs.Common.{◌≡◌, ◌⊎◌, ℕ, ◌<◌, ◌==◌, ◌&&◌, Bool, true, false, List, [], ◌∷◌, slice_get, Option, Some, None, refl, sym, ap, subst, ◌∙◌, inl, inr}
use Rattle.std.specs.Prelude.{unwrap_or}
use Rattle.std.proofs.lemmas.Bool.{cases_Bool, and_parts, eqb-true}
use Rattle.std.proofs.lemmas.Option.{same_Some}
use Rattle.data_map.specs.declared.check.RawMap.{RawMap}
use Rattle.layout_ops.specs.declared.messages.Answer.{Answer}
use Rattle.osd_commands.specs.declared.actions.Action.TheVariants as action
use Rattle.osd_commands.specs.declared.commands.Command.{Command}
use Rattle.osd_objects.specs.Store.{object_at}
use Rattle.osd_drive.proofs.Clear.{all_told}
use Rattle.server_rules.specs.Laws.{In}
use Rattle.client_rules.specs.Calls.{file_of}
use Rattle.client_rules.specs.Commands.{no_capability, no_credential, credential_in, credential_of}
use Rattle.client_rules.specs.Grants.{held_of}
use Rattle.client_rules.specs.Io.{awaited_in}
use Rattle.world_history.specs.ClientNames.{Call, Awaited, Held, Listed, Credential, Phase, Starts, Needs, Waits, Reads, Probes, Gathers, Scatters}
use Rattle.world_history.specs.ServerNames.{File, Component}
use Rattle.world_history.specs.State.{World, DriveAt, at_number}
use Rattle.history_law.proofs.Spending.{free}
use Rattle.exchange_law.proofs.TakenLaw.{not_none}
use Rattle.fence_law.specs.State.{State, Grant}
use Rattle.fence_law.specs.State.Call.{Reads as AtRead, Writes as AtWrite}
use Rattle.fence_law.specs.State.Event.{Shows}
use Rattle.fence_law.specs.Machine.{Allowed}
use Rattle.fence_law.proofs.Commands.{Runs}
use Rattle.fence_law.proofs.Safe.{Safe}
use Rattle.file_simulation.specs.Components.{IsMade, ObjectIs, StandsAs, object_on, object_of}
use Rattle.file_simulation.specs.Calls.{IsClient, IsHolding, HeldIs, CallIs, CallOn, CallAt, reports_on}
use Rattle.file_simulation.specs.DriveEvents.{awaits, is_running}
use Rattle.file_simulation.specs.EventLists.{entry_in, entry_of}
use Rattle.file_simulation.specs.Relation.{client_of}
use Rattle.relation_law.specs.DriveHearing.{IsPerformed, AwaitsUnder, ShowsRight}
use Rattle.relation_law.proofs.DriveObjects.{Leaves, reads}

-- ---- the call that awaits it

-- the machine's client is at entry j, a read or a write
record IsAt (s : State) (c j : ℕ) : Type 0 where
  entry : entry_of s c ≡ j
  call : (s.call c ≡ AtRead j) ⊎ (s.call c ≡ AtWrite j)

awaited_one : (nonce : ℕ) (xs : List Awaited) → awaits nonce xs ≡ true → (y : Awaited) × In y xs × (y.command.nonce ≡ nonce)
awaited_one nonce [] e = absurd (cc e)
awaited_one nonce (y ∷ xs) e = elim (cases_Bool (y.command.nonce == nonce)) [
  | inl here ↦ (y, inl refl, eqb-true y.command.nonce nonce here)
  | inr past ↦ let r = awaited_one nonce xs (rw past at e) in (r.0, inr r.1, r.2)
]

-- a phase that awaits something is at an entry, and waits for no report
by_phase : (m : RawMap) (s : State) (c : ℕ) (call : Call) (o : Option Answer) (p : Phase) (y : Awaited) →
    In y (awaited_in p) → CallIs m s c call.op o p → (j : ℕ) × IsAt s c j
by_phase m s c call o Starts y i is = absurd i
by_phase m s c call o (Needs need) y i is = absurd i
by_phase m s c call o (Waits need) y i is = absurd i
by_phase m s c call o (Reads io) y i is = (is.0, record { entry = ap entry_in is.1.at_; call = inl is.1.at_ })
by_phase m s c call o (Probes io) y i is = (is.0, record { entry = ap entry_in is.1.at_; call = inl is.1.at_ })
by_phase m s c call o (Gathers io) y i is = (is.0, record { entry = ap entry_in is.1.at_; call = inl is.1.at_ })
by_phase m s c call o (Scatters io queue) y i is =
    (is.0, record { entry = ap entry_in is.1.writing.at_; call = inr is.1.writing.at_ })

and_none : (b : Bool) → (b && false) ≡ false
and_none true = refl
and_none false = refl

reports_none : (file : ℕ) (call : Call) (p : Phase) (y : Awaited) → call.phase ≡ p → In y (awaited_in p) →
    reports_on file (Some call) ≡ false
reports_none file call Starts y e i = absurd i
reports_none file call (Needs need) y e i = absurd i
reports_none file call (Waits need) y e i = absurd i
reports_none file call (Reads io) y e i = rw e (and_none (file_of call.op == file))
reports_none file call (Probes io) y e i = rw e (and_none (file_of call.op == file))
reports_none file call (Gathers io) y e i = rw e (and_none (file_of call.op == file))
reports_none file call (Scatters io queue) y e i = rw e (and_none (file_of call.op == file))

-- ---- the credential

-- a credential with a capability is one that is listed
pub listed : (h : Held) (k : ℕ) → ((credential_of h k).capability ≡ no_capability → ⊥) →
    (l : Listed) × (cr : Credential) × (slice_get h.components k ≡ Some l) × (l.credential ≡ Some cr)
    × (credential_of h k ≡ cr)
unfolding credential_of
listed h k some = by_listed (slice_get h.components k) refl some
  where
    by_credential : (l : Listed) → slice_get h.components k ≡ Some l → (o : Option Credential) → l.credential ≡ o →
        ((unwrap_or o no_credential).capability ≡ no_capability → ⊥) →
        (l : Listed) × (cr : Credential) × (slice_get h.components k ≡ Some l) × (l.credential ≡ Some cr)
        × (unwrap_or o no_credential ≡ cr)
    by_credential l there None e any = absurd (any refl)
    by_credential l there (Some cr) e any = (l, cr, there, e, refl)

    by_listed : (o : Option Listed) → slice_get h.components k ≡ o →
        ((unwrap_or (credential_in o) no_credential).capability ≡ no_capability → ⊥) →
        (l : Listed) × (cr : Credential) × (slice_get h.components k ≡ Some l) × (l.credential ≡ Some cr)
        × (unwrap_or (credential_in o) no_credential ≡ cr)
    by_listed None e any = absurd (any refl)
    by_listed (Some l) e any = by_credential l e l.credential refl any

-- ---- the guard

module _ (s : State) (w : World) (f : File) (c : ℕ) (o : Option Answer) (safe : Safe s)
    (client : IsClient f.kept.number f.kept.map s c (client_of w c) o) (d : ℕ) (a : DriveAt) (x : Command)
    (own : AwaitsUnder w c x) (p : IsPerformed w d a x) (read : x.action ≡ action.Read) (k : ℕ) (at : Component)
    (drive : at.drive ≡ d) (object : at.object ≡ x.object) (inside : k < s.layout.components)
    (stands : s.lost k ≡ false → StandsAs s w f k at) where
  -- it carries a capability
  backed : x.capability ≡ no_capability → ⊥
  backed = not_none x ((all_told a.state a.clock x).0 p.clear).1.1.1.1.0

  -- the object has the capability's tag
  tag_is : s.lost k ≡ false → s.object_tag k ≡ x.capability.tag
  tag_is lost =
      let l : Leaves a.state x (λ y. y) = reads a.state x read (free a.state a.clock x p.clear) in
      let there : object_of w at ≡ Some l.before =
      ap (λ (n : ℕ). object_on (at_number w.drives n) at.object) drive
      ∙ ap (λ (q : Option DriveAt). object_on q at.object) p.there
      ∙ ap (object_at a.state.store) object ∙ l.there in
      let made : IsMade s k l.before = subst (ObjectIs s f k at) there (stands lost).object in
      made.tag ∙ l.tag

  runs : (j : ℕ) → (s.call c ≡ AtRead j) ⊎ (s.call c ≡ AtWrite j) → Runs s c j
  runs j (inl e) = safe.calls.reads c j e
  runs j (inr e) = safe.calls.writes c j e

  no_server : (j : ℕ) → (s.call c ≡ AtRead j) ⊎ (s.call c ≡ AtWrite j) → (s.start j).server ≡ false
  no_server j (inl e) = (safe.formed j (safe.calls.reads c j e).below).reads (safe.running.reads c j e)
  no_server j (inr e) = (safe.formed j (safe.calls.writes c j e).below).own (safe.running.writes c j e).0

  module _ (call : Call) (is : (client_of w c).call ≡ Some call) (here : file_of call.op ≡ f.kept.number) (y : Awaited)
      (i : In y (awaited_in call.phase)) (nonce : y.command.nonce ≡ x.nonce) (at_ : (j : ℕ) × IsAt s c j) where
    abbrev j : ℕ
    j = at_.0

    held_there : (q : Option Held) → held_of (client_of w c).held f.kept.number ≡ q →
        HeldIs f.kept.number f.kept.map s c (client_of w c) o q → (h : Held) × (q ≡ Some h) × IsHolding f.kept.map s c h
    held_there (Some h) e holds = (h, refl, holds)
    held_there None e holds =
        let silent : reports_on f.kept.number (client_of w c).call ≡ false =
        ap (reports_on f.kept.number) is ∙ reports_none f.kept.number call call.phase y refl i in
        let none : s.held c ≡ None = rw silent at holds in
        absurd (cc (sym (runs at_.0 at_.1.call).under.1 ∙ none))

    -- the grant that is held has the capability's tag
    same_tag : (s.start at_.0).tag ≡ x.capability.tag
    same_tag =
        let r = held_there (held_of (client_of w c).held f.kept.number) refl client.held in
        let under = (runs at_.0 at_.1.call).under in
        let grant : under.0 ≡ r.2.grant = same_Some under.0 r.2.grant (sym under.1 ∙ r.2.held) in
        let found : held_of (client_of w c).held (file_of call.op) ≡ Some r.0 =
        ap (held_of (client_of w c).held) here ∙ r.1 in
        let capability : (credential_of r.0 y.ask.component).capability ≡ x.capability =
        sym (own.of call r.0 is found y i) ∙ own.same call is y i nonce in
        let l = listed r.0 y.ask.component (λ none. backed (sym capability ∙ none)) in
        sym under.2 ∙ ap (λ (g : Grant). g.tag) grant
        ∙ sym (r.2.same.tag y.ask.component l.0 l.1 l.2 l.3)
        ∙ ap (λ (z : Credential). z.capability.tag) (sym l.4) ∙ ap (λ z. z.tag) capability

    allowed : s.lost k ≡ false → Allowed s (Shows (entry_of s c) k)
    allowed lost = subst (λ (n : ℕ). Allowed s (Shows n k)) (sym at_.1.entry) (record {
      client = no_server at_.0 at_.1.call;
      in_log = (runs at_.0 at_.1.call).below;
      right = same_tag ∙ sym (tag_is lost);
      there = inside;
      stands = lost;
    })

  by_call : (q : Option Call) → (client_of w c).call ≡ q → is_running f.kept.number x.nonce q ≡ true →
      CallAt f.kept.number f.kept.map s c o q → s.lost k ≡ false → Allowed s (Shows (entry_of s c) k)
  by_call None is run at_ lost = absurd (cc run)
  by_call (Some call) is run at_ lost =
      let both = and_parts (file_of call.op == f.kept.number) _ run in
      let one = awaited_one x.nonce (awaited_in call.phase) both.1 in
      let on : CallIs f.kept.map s c call.op o call.phase =
      subst (λ (b : Bool). CallOn b f.kept.map s c call o) both.0 at_ in
      allowed call is (eqb-true (file_of call.op) f.kept.number both.0) one.0 one.1 one.2
      (by_phase f.kept.map s c call o call.phase one.0 one.1 on) lost

  pub shows_right : ShowsRight s w f c k x
  shows_right run lost = by_call (client_of w c).call refl run client.call lost
