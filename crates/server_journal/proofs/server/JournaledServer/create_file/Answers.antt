use Rattle.std.proofs.Common.{◌≡◌, ◌∙◌, List, false, ap, refl, subst, arith, rules}
use Rattle.server_rules.specs.declared.notes.Note.{Note}
use Rattle.server_rules.specs.Files.{Step}
use Rattle.layout_server.specs.declared.new_files.FileErr.TheVariants.{Memory}
use Rattle.server_journal.specs.Calls.{Answered, making}
use Rattle.server_journal.proofs.JournalLaws.{answered, cut_off, journal_cause, made_so, refused, stopped}
use Rattle.server_journal.proofs.server.JournaledServer.create_file.Goals as goal

pub returns-in-Err-Memory-clause-refused : goal.returns-in-Err-Memory-clause-refused
returns-in-Err-Memory-clause-refused g c = (
  tt,
  refl,
  record { later = omega arith; failed = λ e. absurd (cc e) },
  stopped g.D.Disk g.met.D.Disk.only_now c.args.self.now _ _ refl,
)

pub returns-in-Err-clause-refused : goal.returns-in-Err-clause-refused
returns-in-Err-clause-refused g c =
    let other : c.in-Err.e ≡ Memory → ⊥ = search rules in
    let reason = c.in-Err.ensures.refused other in
    rw c.from.ensures
    (refused g.D.Disk c.args.self.now _ c.args.file c.args.raw c.args.tag false c.in-Err.e other reason.0 reason.1 reason.2
    (record { server = reason.3; log = refl; made = refl; noted = refl; goes_on = refl }))

pub returns-in-Ok-keep-clause-made : goal.returns-in-Ok-keep-clause-made
returns-in-Ok-keep-clause-made g c = rw c.keep.ensures.kept_server c.in-Ok.ensures.made

pub returns-in-Ok-keep-clause-answered : goal.returns-in-Ok-keep-clause-answered
returns-in-Ok-keep-clause-answered g c =
    subst (λ (told : List Note). Answered g.D.Disk c.args.self.now c.keep.new.self told) c.as_slice.ensures
    (answered g.D.Disk c.args.self.now c.keep.new.self c.create_file.new.self c.as_slice.result.now c.create_file.ensures.kept
    c.create_file.ensures.quiet c.in-Ok.ensures.over
    c.keep.ensures.kept_server c.keep.ensures.kept_made
    c.in-Ok-keep.ensures.noted c.keep.ensures.any_moment c.in-Ok-keep.ensures.kept
    c.keep.ensures.quiet)

pub returns-in-Err-keep-clause-refused : goal.returns-in-Err-keep-clause-refused
returns-in-Err-keep-clause-refused g c =
    let made = c.in-Ok.ensures.made in
    let so = made_so c.args.self.now.kept.server c.args.file c.args.raw c.args.tag false made.0 made.1 made.2 in (
      c.in-Err-keep.ensures.error,
      c.in-Err-keep.ensures.over,
      journal_cause _ _ c.in-Err-keep.e _ c.in-Err-keep.ensures.cause refl,
      cut_off g.D.Disk c.args.self.now c.keep.new.self c.create_file.new.self c.as_slice.result.now
          (making c.args.self.now.kept.server c.args.file c.args.raw c.args.tag false) made.0
          (made.3.state ∙ ap (λ (s : Step). s.state) so)
          (c.as_slice.ensures ∙ made.3.notes ∙ ap (λ (s : Step). s.notes) so)
          c.create_file.ensures.kept c.create_file.ensures.quiet c.in-Ok.ensures.over c.keep.ensures.any_moment
          c.keep.ensures.quiet,
    )
