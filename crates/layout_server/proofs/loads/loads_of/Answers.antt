use Rattle.server_state.proofs.StepLaws.{mapped_ok}
use Rattle.layout_server.proofs.PlacingLaws.{few_loads, different_drives, all_tell, both_ok}
use Rattle.layout_server.proofs.loads.loads_of.Goals as goal

pub returns-clause-few : goal.returns-clause-few
returns-clause-few c =
    mapped_ok c.loads_with.result
    (λ loads e. few_loads loads c.args.state.now.drives (rw c.as_slice.ensures at e) c.requires.drives)
    c.loads_with.ensures.drives

pub returns-clause-different : goal.returns-clause-different
returns-clause-different c =
    mapped_ok c.loads_with.result
    (λ loads e. different_drives loads c.args.state.now.drives (rw c.as_slice.ensures at e) c.requires.drives)
    c.loads_with.ensures.drives

pub returns-clause-tells : goal.returns-clause-tells
returns-clause-tells c =
    both_ok c.loads_with.result
    (λ loads e t. all_tell loads c.args.state.now.drives c.args.state.now.counts c.args.state.now.files.entries
    (rw c.as_slice.ensures at e) c.requires.drives c.requires.counts t)
    c.loads_with.ensures.drives c.loads_with.ensures.told
