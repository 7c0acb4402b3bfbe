use Rattle.std.specs.Prelude.{Some, None, ◌==◌}
use Rattle.std.proofs.Common.{sym}
use Rattle.server_state.specs.Index.{has}
use Rattle.server_state.proofs.ReplyLaws.{nothing_on, on_that, put_on}
use Rattle.server_state.proofs.CountLaws.{counted_on, none_on}
use Rattle.server_state.proofs.lists.list.Goals as goal

pub returns-in_ok-add_of-in-Some-clause-good : goal.returns-in_ok-add_of-in-Some-clause-good
returns-in_ok-add_of-in-Some-clause-good c = on_that c.add.result (λ added. record {
  files = c.requires.files;
  grants = c.requires.grants;
  drives = c.requires.drives;
  replies = put_on c.args.state.now.files.entries c.args.state.now.replies c.add_of.new.replies c.args.number
      (Some c.in-Some.file.now) (sym c.in-Some.ensures.value)
      c.requires.replies c.in_ok-add_of-in-Some.ensures;
  counts = counted_on c.args.state.now.files.entries c.args.state.now.counts c.add.new.self c.args.number c.in-Some.file.now
      (sym c.in-Some.ensures.value)
      c.requires.counts added;
}) (rw c.as_slice.ensures at c.add.ensures)

pub returns-in-None-clause-good : goal.returns-in-None-clause-good
returns-in-None-clause-good c = record {
  files = c.requires.files;
  grants = c.requires.grants;
  drives = c.requires.drives;
  replies = put_on c.args.state.now.files.entries c.args.state.now.replies c.args.state.now.replies c.args.number None
      (sym c.in-None.ensures.value)
      c.requires.replies (λ x d m. nothing_on (c.args.number == m) (has c.args.state.now.replies x d m));
  counts = none_on c.args.state.now.files.entries c.args.state.now.counts c.args.number
      (sym c.in-None.ensures.value) c.requires.counts;
}
