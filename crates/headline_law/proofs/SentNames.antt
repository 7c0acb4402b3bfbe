-- Each capability that a client holds has its grant's number: so the server gives it, and what a client holds keeps it.
use Rattle.std.proofs.Common.{◌≡◌, ◌<◌, ◌^◌, ℕ, List, Some, Ok, slice_get, unwrap_or, sym, ap, ◌∙◌}
use Rattle.std.proofs.lemmas.Nat.{from_be_bytes-to_be_bytes_4}
use Rattle.layout_types.specs.declared.layout.Layout.{Layout}
use Rattle.layout_types.specs.Grammar.{whole}
use Rattle.layout_types.specs.Reading.{layout_in}
use Rattle.layout_ops.specs.declared.results.LayoutSegment.{LayoutSegment}
use Rattle.layout_ops.specs.declared.results.LayoutGetOk.{LayoutGetOk}
use Rattle.layout_ops.specs.declared.results.LayoutGetResult.TheVariants as get
use Rattle.layout_ops.specs.declared.results.Results.TheVariants as results
use Rattle.layout_ops.specs.declared.messages.Answer.{Answer}
use Rattle.scenario_text.specs.declared.line.Line.{Line}
use Rattle.client_rules.specs.Commands.{credential_in, credential_of, no_capability, no_credential}
use Rattle.client_rules.specs.Grants.{held_of}
use Rattle.client_rules.specs.History.{Input, step as client_step}
use Rattle.client_rules.specs.Layouts.{taken}
use Rattle.client_rules.specs.Requests.{grant_in}
use Rattle.server_rules.specs.Layouts.{granted, layout_for, segment_for, stateid_of}
use Rattle.world_history.specs.ClientNames.{CallOp, Held, Listed}
use Rattle.world_history.specs.ServerNames.{Kept, Drive, Grant}
use Rattle.world_history.specs.History.{OneEventMore}
use Rattle.world_history.specs.State.{World, ClientAt, at_number}
use Rattle.history_law.specs.Moments.{IsMoment}
use Rattle.history_law.specs.Granted.{NumbersFit}
use Rattle.history_law.proofs.Exact.{same_ok, one_of, body_read}
use Rattle.exchange_law.specs.Calls.{ClientFine}
use Rattle.exchange_law.specs.Doing.{IsHeardByClient}
use Rattle.exchange_law.specs.Meeting.{IsReadableThrough, ClientsAgree}
use Rattle.exchange_law.specs.Taking.{AnswersAreOwn}
use Rattle.exchange_law.proofs.ClientGiven.{taken_given}
use Rattle.exchange_law.proofs.ClientsWalk.{always_of_each}
use Rattle.exchange_law.proofs.HeldHearing.{AnyKnown, step_is_fine}
use Rattle.exchange_law.proofs.HeldMoving.{IsSame}
use Rattle.exchange_law.proofs.HeldWorlds.{none_held, readable_fronts}
use Rattle.exchange_law.proofs.PlaceTaken.{IsTaken, is_taken, credential_is}
use Rattle.component_law.proofs.Given.{taken_gives, given_is}
use Rattle.cause_law.proofs.Moments.{Stands, stands}
use Rattle.file_simulation.specs.Relation.{client_of}
use Rattle.relation_law.proofs.DriveShows.{listed}

-- each capability that a client holds has its grant's number
abbrev pub CapabilitiesNameGrants : Type 0
CapabilitiesNameGrants =
    (w : World) (h : List Line) → IsMoment w h → IsReadableThrough h → (c n : ℕ) (x : Held) →
    held_of (client_of w c).held n ≡ Some x → (k : ℕ) → ((credential_of x k).capability ≡ no_capability → ⊥) →
    (credential_of x k).capability.grant ≡ x.number

-- each capability of a grant has the grant's number
abbrev pub NamesIt : (file : ℕ) → Held → Type 0
NamesIt file h =
    (k : ℕ) → ((credential_of h k).capability ≡ no_capability → ⊥) → (credential_of h k).capability.grant ≡ h.number

abbrev pub AllName : List Held → Type 0
AllName hs = (file : ℕ) (h : Held) → held_of hs file ≡ Some h → NamesIt file h

-- ---- a grant that is taken

number_again : (n : ℕ) → n < 2 ^ 32 → grant_in (stateid_of n) ≡ n
number_again n low = from_be_bytes-to_be_bytes_4 n low

module _ (ds : List Drive) (f : Kept) (g : Grant) (a : Answer) (op : CallOp) (h : Held)
    (gives : a.results ≡ results.LayoutGet (get.Granted (granted ds f g))) (fits : NumbersFit ds f g)
    (e : taken a op ≡ Ok h) where
  t : IsTaken a op h
  t = is_taken a op h e

  ok_is : t.given ≡ granted ds f g
  ok_is = given_is a.results t.given (granted ds f g) t.gives gives

  segment_is : t.segment ≡ segment_for ds f g
  segment_is = one_of t.segment (segment_for ds f g) t.given.layouts t.one (ap (λ (y : LayoutGetOk). y.layouts) ok_is)

  layout_is : t.layout ≡ layout_for ds f g
  layout_is =
      same_ok t.layout (layout_for ds f g) (whole layout_in t.segment.body) t.body
      (ap (λ (s : LayoutSegment). whole layout_in s.body) segment_is ∙ body_read ds f g fits.layout)

  number_is : h.number ≡ grant_in (stateid_of g.number)
  number_is =
      let x = taken_given a op h e in
      let same : x.ok ≡ granted ds f g = given_is a.results x.ok (granted ds f g) x.given gives in
      x.fresh.number ∙ ap (λ (y : LayoutGetOk). grant_in y.stateid) same

  names_it : (file : ℕ) → NamesIt file h
  names_it file k some =
      let x = listed h k some in
      let c =
      credential_is ds f g t.layout.olo_components h.components k x.0 x.1
      (ap (λ (y : Layout). y.olo_components) layout_is) t.components fits.capabilities x.2 x.3 in
      ap (λ (y : _). y.capability.grant) x.4 ∙ ap (λ (y : _). y.grant) c.capability
      ∙ sym (number_again g.number (c.fits.grant)) ∙ sym number_is

-- ---- a client's step

same_names : (file : ℕ) (h k : Held) → IsSame h k → NamesIt file h → NamesIt file k
unfolding credential_of
same_names file h k same names n some =
    let own : credential_of k n ≡ credential_of h n =
    ap (λ (cs : List Listed). unwrap_or (credential_in (slice_get cs n)) no_credential) same.components in
    ap (λ (y : _). y.capability.grant) own ∙ names n (λ none. some (ap (λ (y : _). y.capability) own ∙ none))
    ∙ sym same.number

module _ (more : OneEventMore) (own : AnswersAreOwn) (agree : ClientsAgree) where
  -- behind any step a client is as it should be, and its capabilities name their grants
  pub step_names : (w : World) (h : List Line) → IsMoment w h → IsReadableThrough h → (c : ℕ) (a : ClientAt)
      → at_number w.clients c ≡ Some a → AllName (client_of w c).held → (i : Input) → IsHeardByClient w c i
      → ClientFine NamesIt AnyKnown (client_step a.state i).client
  step_names w h k t c a found names =
      let s : Stands w = stands more own agree w h k t in
      step_is_fine own agree NamesIt same_names w h k t c a found names
      (λ slot e op x took.
      let r = taken_gives slot.kept op x took in
      let y = s.slots c slot e r.0 r.1 in
      names_it y.gives.drives y.file.kept y.gives.grant slot.kept op x
      (r.1 ∙ ap (λ (z : LayoutGetOk). results.LayoutGet (get.Granted z)) y.gives.is) y.gives.fits took slot.kept.file)

  -- ---- at each moment

  pub capabilities_name_grants : CapabilitiesNameGrants
  capabilities_name_grants w h k t c n x holds =
      always_of_each (λ u d y. AllName y.held) IsReadableThrough (record {
        front = readable_fronts;
        starts = λ d file y e. absurd (none_held file y e);
        rests = λ u g j m due later same d y names. names;
        client = λ u g j read s d a found i heard. (step_names u g j read d a found (s d) i heard).helds;
        server = λ u g j m due read later s goes d. s d;
      }) more w h k t c n x holds
