-- A LAYOUTCOMMIT of what a call wrote raises the file's size.
use Rattle.std.proofs.Common.{◌≡◌, ◌<◌, ◌+◌, ◌-◌, ℕ, Bool, true, max, List, [], Option, Some, None, refl, ap, ◌∙◌, arith, if◌then◌else◌}
use Rattle.data_map.specs.Striping.{stripe_length}
use Rattle.layout_types.specs.Reading.{update_in}
use Rattle.layout_types.specs.Spelling.{update_item, UpdateFits}
use Rattle.layout_types.proofs.Steps.{all_again}
use Rattle.layout_types.proofs.Codecs.{update_codec}
use Rattle.layout_ops.specs.declared.results.LayoutCommitResult.TheVariants as commit
use Rattle.layout_ops.specs.declared.results.Results.TheVariants as results
use Rattle.layout_ops.specs.declared.statuses.TheConstants.{NFS4_OK}
use Rattle.scenario_text.specs.declared.line.Line.{Line}
use Rattle.client_rules.specs.Calls.{span_of}
use Rattle.client_rules.specs.Requests.{plain_update, commit_args}
use Rattle.server_rules.specs.Commit.{Sizes, Wrong, may_commit, commit_under, by_commit, commits}
use Rattle.server_rules.specs.Envelopes.{commit_in, asked_in}
use Rattle.server_rules.specs.Files.{at_file}
use Rattle.server_rules.specs.Going.{Going, keeping}
use Rattle.server_rules.specs.Grants.{grant_of}
use Rattle.server_rules.specs.Requests.{serves}
use Rattle.server_rules.specs.Served.{Served, says}
use Rattle.world_history.specs.ClientNames.{CallOp, Held, Request}
use Rattle.world_history.specs.ServerNames.{File, Grant, Commit}
use Rattle.world_history.specs.State.{World}
use Rattle.world_history.specs.Moves.{Delivers, acts}
use Rattle.cause_law.proofs.Holders.{grants_named}
use Rattle.ready_law.specs.Fair.{IsFair}
use Rattle.ready_law.proofs.ServingForms.{RequestLaws, Comes, Carried, Serves}
use Rattle.ready_law.proofs.ServingRequests.{request_served}

-- where the call's bytes end
abbrev pub end_of : CallOp → ℕ
end_of op = (span_of op).offset + (span_of op).length

-- the file has this size at least, and nothing else of it changes
abbrev pub committed : (c : ℕ) → Request → File → (size : ℕ) → Carried
committed c q f size = record {
  left = record f { kept = record f.kept { size = max f.kept.size size } };
  recalled = [];
  numbers = 0;
  answer = record {
    client = c;
    sequence = q.sequence;
    file = q.file;
    detail = 0;
    size = max f.kept.size size;
    results = results.LayoutCommit (commit.Committed None);
  };
}

-- the call wrote something, under a grant for which it may be committed
pub commit_sizes : RequestLaws → (w : World) (h : List Line) → IsFair w h → (chosen : List ℕ) (number c : ℕ) (q : Request)
    (f : File) → Comes w c q f number → (held : Held) (op : CallOp) → q.args ≡ commit_args held op → (g : Grant)
    → grant_of f.kept.grants c ≡ Some g → 0 < (span_of op).length
    → may_commit (stripe_length f.kept.map) g (end_of op - 1) ≡ true
    → Serves w c q number (committed c q f (end_of op)) (acts w chosen (Delivers number))
unfolding commits commit_under
commit_sizes laws w h fair chosen number c q f comes held op args g has some may =
    let go : Going = at_file w.server chosen f in
    let last : ℕ = end_of op - 1 in
    let is_read : asked_in q.args ≡ Some (Commit (Some last)) =
    ap asked_in args
    ∙ ap (commit_in (Some last)) (all_again update_in update_item UpdateFits update_codec plain_update tt) in
    let v : Served = says (keeping go (record f.kept { size = max f.kept.size (end_of op) })) NFS4_OK 0 in
    let end_again : last + 1 ≡ end_of op = omega (arith, some) in
    let its : serves go w.server.next_grant w.server.format w.clock c (Commit (Some last)) ≡ v =
    ap (λ (o : Option Grant). by_commit go (commit_under (stripe_length f.kept.map) f.kept.size (Some last) o)) has
    ∙ ap (λ (b : Bool). by_commit go (if b then Sizes (max f.kept.size (last + 1)) else Wrong)) may
    ∙ ap (λ (n : ℕ). says (keeping go (record f.kept { size = max f.kept.size n })) NFS4_OK 0) end_again in
    request_served laws w h fair chosen number c q f comes
    (grants_named laws.safe laws.more w h fair.moment q.file f comes.file c g has) (Commit (Some last)) is_read v its refl
    refl tt
