use Rattle.std.proofs.Common.{ap, sym, subst, ◌∙◌}
use Rattle.server_rules.specs.declared.files.File.{File}
use Rattle.server_state.specs.Tables.{Table, AreEntries}
use Rattle.server_state.specs.Replies.{OthersStay}
use Rattle.server_state.proofs.StepLaws.{good_settled}
use Rattle.layout_server.proofs.CreateLaws.{created_too, entries_inserted, good_before, made_at, none_before, others_inserted}
use Rattle.layout_server.proofs.new_files.create.Goals as goal

pub list-requires : goal.list-requires
list-requires g c =
    let same = rw c.as_slice.ensures at c.in_ok-made.ensures.value in
    let old = c.args.state.now.files.entries in
    good_settled c.args.file.number c.args.state.now c.put.new.files c.finish_step.new.state c.make.new.effects c.in_ok-step.step
    (good_before c.args.state.now c.args.file.number c.args.file.map c.args.file.zoned c.requires.good c.requires.usable)
    (subst (λ (t : Table). AreEntries t) (sym c.in_ok-put.ensures)
    (entries_inserted old c.args.file.number c.make.new.file c.requires.good.files
    (record {
      number = c.in_ok-make.ensures.keeps.number ∙ ap (λ (f : File). f.kept.number) same;
      sound =
          c.in_ok-make.ensures.sound;
    })))
    (subst (λ (t : Table). OthersStay c.args.file.number old t) (sym c.in_ok-put.ensures)
    (others_inserted old c.args.file.number c.make.new.file
    (none_before c.args.state.now c.args.file.number c.args.file.map c.args.file.zoned c.requires.good c.requires.usable)))
    c.in_ok-step.ensures

pub returns-clause-made : goal.returns-clause-made
returns-clause-made g c =
    let same = rw c.as_slice.ensures at c.in_ok-made.ensures.value in
    let steps = rw (c.no_effects-effects.ensures, c.len.ensures) at c.in_ok-make.ensures.steps in
    created_too c.args.file c.args.state.now c.finish_step.new.state c.list.new.state c.in_ok-step.step
    c.in_ok-list.ensures.server
    (made_at c.args.state.now c.put.new.files c.finish_step.new.state c.make.new.effects c.args.file c.in_ok-drives.drives
    c.in_ok-made.made c.make.new.file c.in_ok-step.step c.requires.good.files c.requires.usable c.in_ok-drives.ensures.placed same
    c.in_ok-make.ensures.keeps.number c.in_ok-put.ensures steps c.in_ok-step.ensures)
