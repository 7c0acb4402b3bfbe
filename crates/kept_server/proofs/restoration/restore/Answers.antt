use Rattle.std.proofs.Common.{◌≡◌, Option, Some, None, get_or, ap, ◌∙◌}
use Rattle.server_rules.specs.declared.server.Server.{Server}
use Rattle.server_entries.specs.Applying.{applied_to}
use Rattle.kept_server.proofs.RestoreLaws.{restored_more}
use Rattle.kept_server.proofs.restoration.restore.Goals as goal

pub returns-in-Ok-Unmade-clause-unmade : goal.returns-in-Ok-Unmade-clause-unmade
returns-in-Ok-Unmade-clause-unmade c =
    let rs = c.args.records.now in
    let i = c.loop-place.place in
    let r = c.index-records-place.result in
    let by = rw c.in-Ok-Unmade.field-0-is at c.in-Ok-Unmade.ensures.takes in
    let none : applied_to (Some c.loop-place.restoration) (get_or rs i r).entries ≡ None = rw c.as_slice.ensures at by in
    record {
      inside = c.loop-place-test.true;
      before = c.loop-place.restoration;
      made = c.loop-place.invariant;
      unmade = restored_more rs i r c.loop-place-test.true
          ∙ ap (λ (s : Option Server). applied_to s (get_or rs i r).entries) c.loop-place.invariant ∙ none;
    }

pub loop-place-preserved : goal.loop-place-preserved
loop-place-preserved c =
    let rs = c.args.records.now in
    let i = c.loop-place.place in
    let r = c.index-records-place.result in
    let by = rw c.in-Ok-Done.field-0-is at c.in-Ok-Done.ensures.takes in
    let done : applied_to (Some c.loop-place.restoration) (get_or rs i r).entries ≡ Some c.take.new.self =
    rw c.as_slice.ensures at by in
    restored_more rs i r c.loop-place-test.true
    ∙ ap (λ (s : Option Server). applied_to s (get_or rs i r).entries) c.loop-place.invariant ∙ done
