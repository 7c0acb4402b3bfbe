use Rattle.generate_law.proofs.Messages.{each_call_takes_few, first_call_takes_few}
use Rattle.generate_law.proofs.laws.calls_take_few.Goals as goal

pub returns : goal.returns
returns c = record {
  calls =
      each_call_takes_few c.ready_calls_end_in_ok.ensures.ok c.grants_are_safe.ensures c.grants_are_in_order.ensures
      c.scenes_are_read.ensures;
  first =
      first_call_takes_few c.ready_calls_end_in_ok.ensures.ok c.grants_are_safe.ensures c.grants_are_in_order.ensures
      c.scenes_are_read.ensures;
}
