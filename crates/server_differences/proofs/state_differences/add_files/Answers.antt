use Rattle.std.specs.Prelude.{◌++◌, List}
use Rattle.std.specs.Option.{option_copied}
use Rattle.std.specs.Map.Iter.{deref_pair}
use Rattle.std.proofs.Common.{subst}
use Rattle.std.proofs.lemmas.Map.Iter.{rest_more}
use Rattle.server_entries.specs.declared.entry.Entry.{Entry}
use Rattle.server_state.specs.Tables.{Table, files_in}
use Rattle.server_differences.specs.Differences.{files_entries}
use Rattle.server_differences.proofs.DifferenceLaws.{SoFar, file_more}
use Rattle.server_differences.proofs.state_differences.add_files.Goals as goal

pub loop-number-preserved : goal.loop-number-preserved
loop-number-preserved c =
    let old : Table = c.args.old.now.entries in
    let all : List Entry = c.args.entries.now ++ files_entries (files_in old) (files_in c.args.files.now.entries) in
    let left = rest_more deref_pair c.loop-number.number-iterator c.next.new.self c.next.result
    (c.in-Some.number, c.in-Some.file) c.in-Some.is c.next.ensures.steps in
    file_more old c.next.new.self c.in-Some.number.now c.in-Some.file.now
    (option_copied c.get.result) c.loop-number.entries c.add_file.new.entries all c.requires.old
    (subst (λ (t : Table). SoFar old t c.loop-number.entries all) left c.loop-number.invariant) c.get.ensures.value
    c.in_ok-add_file.ensures
