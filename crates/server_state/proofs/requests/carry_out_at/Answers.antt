use Rattle.std.proofs.Common.{refl, sym, subst}
use Rattle.server_state.specs.Tables.{Table, AreEntries}
use Rattle.server_state.specs.Replies.{OthersStay}
use Rattle.server_state.proofs.TableLaws.{entries_left}
use Rattle.server_state.proofs.ReplyLaws.{on_each, others_set}
use Rattle.server_state.proofs.StepLaws.{mapped_ok, on_ok, done_at, good_finished, good_still, refused_at}
use Rattle.server_state.proofs.requests.carry_out_at.Goals as goal

pub returns-in-Some-clause-did : goal.returns-in-Some-clause-did
returns-in-Some-clause-did c =
    let v = rw (c.in-Some.is, c.no_effects-effects.ensures, c.as_slice-drives.ensures) at c.in_ok-served.ensures in
    mapped_ok c.finish.result
    (λ out fin chosen. done_at c.args.state.now c.serve_in.new.files c.finish.new.state c.serve_in.new.effects _
    c.args.request.now c.args.now chosen c.in-Some.served
    v.0 v.1 out refl c.requires.good.files v.3 v.2 v.4 fin) c.finish.ensures

pub returns-in-Some-clause-good : goal.returns-in-Some-clause-good
returns-in-Some-clause-good c =
    let v = rw c.in-Some.is at c.in_ok-served.ensures in
    on_ok c.finish.result
    (λ out fin. good_finished c.args.request.now.file c.args.state.now c.serve_in.new.files c.finish.new.state
    c.serve_in.new.effects c.in-Some.served out c.requires.good
    (subst (λ (t : Table). AreEntries t) (sym v.3)
    (entries_left c.args.state.now.files.entries c.args.request.now.file v.0 v.1 c.requires.good.files v.2 v.4.leaves))
    (subst (λ (t : Table). OthersStay c.args.request.now.file c.args.state.now.files.entries t) (sym v.3)
    (others_set c.args.state.now.files.entries c.args.request.now.file v.1))
    (v.4.numbers c.requires.good.grants) fin) c.finish.ensures

pub returns-in-None-clause-did : goal.returns-in-None-clause-did
returns-in-None-clause-did c =
    let v = rw c.in-None.is at c.in_ok-served.ensures in
    mapped_ok c.refuse.result
    (λ out did chosen. refused_at c.args.state.now c.serve_in.new.files c.refuse.new.state c.args.request.now c.args.now
    chosen out c.requires.good.files v.0 v.1 (did c.args.now chosen)) c.refuse.ensures.did

pub returns-in-None-clause-good : goal.returns-in-None-clause-good
returns-in-None-clause-good c =
    let v = rw c.in-None.is at c.in_ok-served.ensures in
    on_each c.refuse.result
    (good_still c.args.request.now.file c.args.state.now c.serve_in.new.files c.refuse.new.state c.requires.good v.1)
    c.refuse.ensures.files c.refuse.ensures.grants c.refuse.ensures.drives c.refuse.ensures.replies c.refuse.ensures.counts
