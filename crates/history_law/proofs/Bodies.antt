-- What an answer gave a client is of a grant of that client.
use Rattle.std.proofs.Common.{◌≡◌, ℕ, ◌∷◌, [], List, refl, sym, ap, subst, arith}
use Rattle.layout_types.specs.declared.cred.ObjectCred.{ObjectCred}
use Rattle.layout_ops.specs.declared.results.LayoutSegment.{LayoutSegment}
use Rattle.layout_ops.specs.declared.results.LayoutGetOk.{LayoutGetOk}
use Rattle.layout_ops.specs.declared.results.LayoutGetResult.TheVariants as get
use Rattle.layout_ops.specs.declared.results.Results.{Results}
use Rattle.layout_ops.specs.declared.results.Results.TheVariants as results
use Rattle.layout_ops.specs.declared.items.StateId.{StateId}
use Rattle.layout_ops.specs.declared.envelope.Envelope.{Envelope}
use Rattle.layout_ops.specs.declared.envelope.Envelope.TheVariants as envelope
use Rattle.layout_ops.specs.Spelling.{StateIdFits}
use Rattle.server_rules.specs.declared.files.Kept.{Kept}
use Rattle.server_rules.specs.declared.grants.Grant.{Grant}
use Rattle.server_rules.specs.declared.server.Drive.{Drive}
use Rattle.server_rules.specs.Layouts.{layout_for, body_of, stateid_of, segment_for}
use Rattle.world_history.specs.declared.messages.Sent.{Sent}
use Rattle.history_law.specs.Listed.{WasGiven}
use Rattle.history_law.specs.Granted.{GivesOwn, OwnIn, SpellsOwn}
use Rattle.history_law.proofs.Layouts.{Bears, layout_bears}
use Rattle.history_law.proofs.Given.{GivenBy, given_read}

-- the body that was read is one of a grant of the client
record IsBodyOf (client : ℕ) (body : List ℕ) : Type 0 where
  drives : List Drive
  file : Kept
  grant : Grant
  client_is : grant.client ≡ client
  body_is : body ≡ body_of (layout_for drives file grant)

stateid_fits : (n : ℕ) → StateIdFits (stateid_of n)
stateid_fits n = record { seqid = omega arith; other = refl }

own_body : (client : ℕ) (m : Envelope) (given : LayoutGetOk) (s : LayoutSegment) → OwnIn client m → GivenBy m given
    → given.layouts ≡ s ∷ [] → IsBodyOf client s.body
own_body client (envelope.Answer a) given s own by one = of_results a.results own by
  where
    of_results : (r : Results) → GivesOwn client r → GivenBy (envelope.Answer (record a { results = r })) given
        → IsBodyOf client s.body
    of_results (results.LayoutGet (get.Granted ok)) x given_in = record {
      drives = x.drives;
      file = x.file;
      grant = x.grant;
      client_is = x.client_is;
      body_is =
          given_in (segment_for x.drives x.file x.grant) (ap (λ (y : LayoutGetOk). y.layouts) x.is)
          (subst (λ (y : StateId). StateIdFits y) (ap (λ (y : LayoutGetOk). y.stateid) (sym x.is))
          (stateid_fits x.grant.number)) s one;
    }
    of_results (results.LayoutGet (get.TryLater signal)) x given_in = absurd given_in
    of_results (results.LayoutGet (get.Refused status)) x given_in = absurd given_in
    of_results (results.LayoutCommit r) x given_in = absurd given_in
    of_results (results.LayoutReturn r) x given_in = absurd given_in
own_body client (envelope.Request v) given s own by one = absurd by
own_body client (envelope.Recall v) given s own by one = absurd by
own_body client (envelope.RecallAnswer v) given s own by one = absurd by
own_body client (envelope.Order v) given s own by one = absurd by
own_body client (envelope.OrderAnswer v) given s own by one = absurd by

-- a credential that an answer gave a client is one of a grant of that client
pub record IsOfOwn (client : ℕ) (o : ObjectCred) : Type 0 where
  pub grant : Grant
  pub client_is : grant.client ≡ client
  pub bears : Bears grant o

pub given_own : (ss : List Sent) (c : ℕ) (o : ObjectCred) (w : WasGiven ss c o) → SpellsOwn c w.message.bytes
    → IsOfOwn c o
given_own ss c o w s =
    let l = w.lists in
    let by = given_read s.message w.message.bytes l.answer l.given s.bytes_are l.read l.gives in
    let own = own_body c s.message l.given l.segment s.own by l.one in
    record {
      grant = own.grant;
      client_is = own.client_is;
      bears =
          layout_bears own.drives own.file own.grant l.segment.body l.layout own.body_is l.body w.component o l.found;
    }
