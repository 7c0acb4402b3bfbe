use Rattle.std.proofs.Common.{rules, inl, inr, refl}
use Rattle.server_rules.specs.Openings.{crash}
use Rattle.server_journal.specs.Journals.{core_of, made_of, noted_of}
use Rattle.server_journal.specs.Resting.{stands}
use Rattle.stored_server.proofs.beginning.begin_on.Goals as goal

pub returns-in-Err-clause-refused : goal.returns-in-Err-clause-refused
returns-in-Err-clause-refused g c = inl (c.in-Err.ensures.refused, refl)

pub returns-then-is_of_another-clause-refused : goal.returns-then-is_of_another-clause-refused
returns-then-is_of_another-clause-refused g c =
    inr (inl (record {
      begun = core_of c.in-Ok.opened.0.journal;
      own = made_of c.in-Ok.opened.0.journal;
      noted = noted_of c.in-Ok.opened.0.journal;
      step = c.in-Ok.opened.1;
      begins = c.in-Ok.ensures.begins;
      other = search rules;
      stands = λ told. rw c.into_disk.ensures
          (stands g.D.Disk (crash (core_of c.in-Ok.opened.0.journal)) (made_of c.in-Ok.opened.0.journal)
          (noted_of c.in-Ok.opened.0.journal) c.in-Ok.opened.0.journal.log (c.in-Ok.ensures.kept told));
      place = refl;
      silent = refl;
    }))

pub returns-in-Err-tell_differences-clause-refused : goal.returns-in-Err-tell_differences-clause-refused
returns-in-Err-tell_differences-clause-refused g c =
    inr (inr (record {
      begun = core_of c.in-Ok.opened.0.journal;
      own = made_of c.in-Ok.opened.0.journal;
      step = c.in-Ok.opened.1;
      begins = c.in-Ok.ensures.begins;
      cause = c.from.ensures;
      some = c.in-Err-tell_differences.ensures.err;
    }))
