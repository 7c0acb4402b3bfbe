-- What is read off lines: a report that is taken as a loss counts from its delivery on, once its answer stands there.
use Rattle.std.specs.Prelude.{ℕ, true, false, List, [], ◌∷◌, ◌++◌, None, refl, ◌≡◌}
use Rattle.layout_ops.specs.declared.envelope.Envelope.TheVariants as envelope
use Rattle.layout_ops.specs.declared.results.LayoutReturnResult.TheVariants as returned
use Rattle.layout_ops.specs.declared.results.Results.TheVariants as results
use Rattle.layout_ops.specs.Spelling.{envelope_item}
use Rattle.layout_types.specs.declared.ioerrs.IoErr.{IoErr}
use Rattle.layout_types.specs.declared.ioerrs.Errno.TheVariants.{Unreachable}
use Rattle.server_rules.specs.Layouts.{object_of}
use Rattle.client_rules.specs.Requests.{return_args}
use Rattle.scenario_text.specs.declared.event.Event.TheVariants as event
use Rattle.scenario_text.specs.declared.line.Line.{Line}
use Rattle.scenario_text.specs.declared.line.Line.TheVariants as line
use Rattle.scenario_text.specs.declared.line.Note.TheVariants as note
use Rattle.scenario_text.specs.declared.line.Party.TheVariants as party
use Rattle.world_history.specs.Stripes.{is_disturbed}
use Rattle.world_history.specs.Calm.{calm, moment_of}
use Rattle.world_history.proofs.Played.{taken}
use Rattle.world_history.proofs.Spoken.{first}
use Rattle.world_history.proofs.Opened.{opened}
use Rattle.world_history.proofs.OpenedServer.{opened_server}
use Rattle.world_history.proofs.OpenedText.{opened_text}

-- component 1 wasn't reached
abbrev error : IoErr
error = record {
  oer_component = object_of (record { drive = 1; object = 65537; missing = false });
  oer_comp_offset = 0;
  oer_comp_length = 4;
  oer_iswrite = true;
  oer_errno = Unreachable;
}

-- the return of grant 1 with that report, and its answer
abbrev report : List ℕ
report = envelope_item (envelope.Request (record {
  client = 0;
  sequence = 2;
  file = 0;
  args =
      return_args 1 (error ∷ []);
}))

abbrev answer : List ℕ
answer = envelope_item (envelope.Answer (record {
  client = 0;
  sequence = 2;
  file = 0;
  detail = 1;
  size = 0;
  results = results.LayoutReturn (returned.Returned None);
}))

-- the data were written, the parity wasn't, and then this happened
abbrev sent : List Line → List Line
sent between = first ++ (line.Message 9 (party.Client 0) party.Server report ∷ between)

-- the report is delivered, and its component is missing from then on
abbrev heard : List Line
heard = taken 9 ∷ line.Note 0 (note.Reported 1) ∷ []

-- its answer stands there
abbrev told : List Line
told = heard ++ (line.Message 10 party.Server (party.Client 0) answer ∷ [])

-- the client is stopped before
abbrev stopped : List Line → List Line
stopped more = sent (line.Event (event.Stop 0) ∷ more)

-- with a client that goes on all is calm, and the stripe isn't disturbed any more
pub calm_all : calm (sent told) ≡ true
unfolding opened opened_server opened_text
calm_all = refl

pub taken_then : is_disturbed (moment_of (sent told)) 0 0 ≡ false
unfolding opened opened_server opened_text
taken_then = refl

-- before the answer stands there it is disturbed, and its grant is live
pub calm_before : calm (sent heard) ≡ true
unfolding opened opened_server opened_text
calm_before = refl

pub not_taken : is_disturbed (moment_of (sent heard)) 0 0 ≡ true
unfolding opened opened_server opened_text
not_taken = refl

-- of a client that was stopped the stripe is torn, and short once the component is missing; but not where the answer
-- stands there, since the write was taken from the delivery on
pub stopped_before : calm (stopped heard) ≡ false
unfolding opened opened_server opened_text
stopped_before = refl

pub stopped_then : calm (stopped told) ≡ true
unfolding opened opened_server opened_text
stopped_then = refl
