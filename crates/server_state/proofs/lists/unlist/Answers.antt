use Rattle.std.specs.Prelude.{Some, None, ◌==◌}
use Rattle.std.proofs.Common.{sym}
use Rattle.server_state.specs.Index.{has}
use Rattle.server_state.proofs.ReplyLaws.{nothing_off, taken_off}
use Rattle.server_state.proofs.CountLaws.{file_counted, counted_off, none_off}
use Rattle.server_state.proofs.lists.unlist.Goals as goal

pub remove-requires : goal.remove-requires
remove-requires c =
    rw c.as_slice.ensures
    (file_counted c.args.state.now.files.entries c.args.state.now.counts c.args.number c.in-Some.file.now
    (sym c.in-Some.ensures.value) c.requires.counts)

pub returns-in-Some-clause-good : goal.returns-in-Some-clause-good
returns-in-Some-clause-good c = record {
  files = c.requires.files;
  grants = c.requires.grants;
  drives = c.requires.drives;
  replies = taken_off c.args.state.now.files.entries c.args.state.now.replies c.remove_of.new.replies c.args.number
      (Some c.in-Some.file.now) (sym c.in-Some.ensures.value)
      c.requires.replies c.remove_of.ensures;
  counts = counted_off c.args.state.now.files.entries c.args.state.now.counts c.remove.new.self c.args.number c.in-Some.file.now
      (sym c.in-Some.ensures.value)
      c.requires.counts (rw c.as_slice.ensures at c.remove.ensures);
}

pub returns-in-None-clause-good : goal.returns-in-None-clause-good
returns-in-None-clause-good c = record {
  files = c.requires.files;
  grants = c.requires.grants;
  drives = c.requires.drives;
  replies = taken_off c.args.state.now.files.entries c.args.state.now.replies c.args.state.now.replies c.args.number None
      (sym c.in-None.ensures.value)
      c.requires.replies (λ x d m. nothing_off (c.args.number == m) (has c.args.state.now.replies x d m));
  counts = none_off c.args.state.now.files.entries c.args.state.now.counts c.args.number
      (sym c.in-None.ensures.value) c.requires.counts;
}
