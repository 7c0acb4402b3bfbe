-- What the server gives for a client's LAYOUTGET is what the client takes, or it says why it gives nothing.
use Rattle.std.proofs.Common.{◌≡◌, ℕ, false, List, Option, Some, None, refl, sym, ap, ◌∙◌, inl, inr}
use Rattle.layout_ops.specs.declared.statuses.TheConstants.{NFS4_OK}
use Rattle.layout_ops.specs.declared.messages.Answer.{Answer}
use Rattle.server_rules.specs.Answers.{result_of, result_with, file_answer}
use Rattle.server_rules.specs.Files.{file_at, at_file}
use Rattle.server_rules.specs.Going.{Going}
use Rattle.server_rules.specs.Grants.{grant_of, asked}
use Rattle.server_rules.specs.Requests.{serves}
use Rattle.server_rules.specs.Served.{Served}
use Rattle.server_rules.proofs.FileLaws.{number_at}
use Rattle.client_rules.specs.Calls.{span_of, is_write}
use Rattle.client_rules.specs.Results.{status_of}
use Rattle.client_rules.specs.Steps.{is_bad_range}
use Rattle.world_history.specs.ServerNames.{Server, File, Grant, Kept, ClientRequest, RequestArgs}
use Rattle.world_history.specs.ClientNames.{CallOp}
use Rattle.exchange_law.proofs.HeldAnswered.{status_again}
use Rattle.exchange_law.specs.HeldTaken.{IsGetOf}
use Rattle.exchange_law.specs.Meeting.{IsSoundFile}
use Rattle.exchange_law.proofs.HeldAnswered.{args_of_get, call_told, not_ok}
use Rattle.exchange_law.proofs.HeldAsking.{found_last}
use Rattle.exchange_law.proofs.HeldServing.{IsRefusal, IsTellable}
use Rattle.exchange_law.proofs.HeldTaken.{its_grant, told_for, given_is_taken}
use Rattle.relation_law.specs.RequestsGoing.{GivesGrant}

module _ (s : Server) (now : ℕ) (chosen : List ℕ) (q : ClientRequest) (f : File) (at : file_at s.files q.file ≡ Some f)
    (op : CallOp) (is_get : IsGetOf op q) (fine : is_bad_range (span_of op) ≡ false) where
  abbrev go : Going
  go = at_file s chosen f

  abbrev v : Served
  v = serves go s.next_grant s.format now q.client q.args

  abbrev a : Answer
  a = file_answer s.drives v.going.file.kept q v.told

  abbrev its : Grant
  its = its_grant go s.next_grant s.format now q op is_get

  its_client : its.client ≡ q.client
  unfolding asked
  its_client = refl

  -- the grant that is told is the client's then
  has_told : (gr : Grant) → v.told.grant ≡ Some gr → grant_of v.going.file.kept.grants q.client ≡ Some gr
  has_told gr told =
      let tell = told_for go s.next_grant s.format now q op is_get v refl gr told in
      ap (λ (y : Kept). grant_of y.grants q.client) tell.1.file
      ∙ found_last tell.1.at.grants its q.client (ap (grant_of tell.1.at.grants) (sym its_client) ∙ tell.1.own) its_client
      ∙ ap (λ (y : Grant). Some y) (sym tell.0)

  its_rw : its.rw ≡ is_write op
  unfolding asked
  its_rw = refl

  its_writes : (gr : Grant) → v.told.grant ≡ Some gr → gr.rw ≡ is_write op
  its_writes gr told =
      ap (λ (y : Grant). y.rw) (told_for go s.next_grant s.format now q op is_get v refl gr told).0 ∙ its_rw

  gives : (gr : Grant) → v.told.grant ≡ Some gr → IsSoundFile s v.going.file → GivesGrant s v.going.file a op q.client
  gives gr told sound =
      let has = has_told gr told in
      let it =
      given_is_taken go s.next_grant s.format now q op gr v fine is_get (number_at s.files q.file f at) refl told
      sound.shaped sound.drives s.drives (sound.fits q.client gr has) in
      record { grant = gr; has = has; writes = its_writes gr told; held = it.0; taken_is = it.1; given = it.2 }

  none_told : v.told.grant ≡ None → IsRefusal v.told.status → status_of a.results ≡ NFS4_OK → ⊥
  none_told none refusal ok =
      let status : status_of a.results ≡ v.told.status =
      ap (λ (o : Option Grant). status_of (result_with s.drives v.going.file.kept q.args v.told.status o)) none
      ∙ ap (λ (b : RequestArgs). status_of (result_of b v.told.status)) (sym (args_of_get op q is_get.args))
      ∙ status_again v.told.status in
      not_ok v.told.status refusal (sym status ∙ ok)

  -- of success is only an answer that gives a grant, which the client takes
  pub ok_gives : IsSoundFile s v.going.file → status_of a.results ≡ NFS4_OK → GivesGrant s v.going.file a op q.client
  ok_gives sound ok = by_told (call_told go s.next_grant s.format now q op fine is_get.args)
    where
      by_told : IsTellable v → GivesGrant s v.going.file a op q.client
      by_told (inl g) = gives g.0 g.1 sound
      by_told (inr n) = absurd (none_told n.0 n.1 ok)
