-- What each step of the server sends goes to objects of files, and isn't past them; nor is what jobs await.
use Rattle.std.proofs.Common.{◌≡◌, ℕ, ◌+◌, ◌≤◌, ◌⊎◌, List, [], ◌∷◌, length, flat_map, Option, Some, None, refl, sym, ap, subst, ◌∙◌, arith, inl, inr, Bool}
use Rattle.data_map.specs.declared.check.RawMap.{RawMap}
use Rattle.server_rules.specs.Laws.{In}
use Rattle.server_rules.specs.Files.{Step, still, begins, at_file, file_at, to_drives}
use Rattle.server_rules.specs.Messages.{awaited_by, on_message, counters_have_room}
use Rattle.server_rules.specs.Openings.{crashed_file, reopen}
use Rattle.server_rules.specs.Jobs.{making}
use Rattle.server_rules.specs.Making.{components_on, refusal, drives_for, unmade, with_file, makes_file, unless_refused, create_file}
use Rattle.server_rules.specs.History.{Input, Hears, Makes, Obeys, Adds, Zones, Formats, Resends, Crashes, Opens, step, unless_made}
use Rattle.server_rules.proofs.FileLaws.{not_there}
use Rattle.server_rules.proofs.Members.{in_either, in_mapped}
use Rattle.history_law.specs.Names.{Command, ToDrive, Server, File, Drive, Refusal}
use Rattle.history_law.proofs.JobFiles.{in_add, add_there, in_drives}
use Rattle.component_law.proofs.ObjectSteps.{Agree, with_owner, owner_below, owner_from}
use Rattle.component_law.proofs.SentNumbers.{in_new, new_differ}
use Rattle.component_law.proofs.PhaseJobs.{ends_making}
use Rattle.component_law.proofs.Going.{IsFine, AreFine, fine_later, Mine, mine_fresh, IsFrom, IsSent, sent_of, Steps, idle, stays, either_step, goes_at, begun}
use Rattle.component_law.proofs.PhaseSteps.{opened_each, round_keeps, obeyed, heard_message}

-- ---- making, crashing, opening

-- a file that isn't made yet has numbers of its own
new_fine : (s : Server) (number : ℕ) (m : RawMap) (tag : ℕ) (zoned : Bool) (ds : List ℕ) (owner : ℕ → ℕ)
    → IsFine (with_owner owner s.next_object number) (s.next_object + length (components_on ds s.next_object))
    (unmade s number m tag zoned ds)
new_fine s number m tag zoned ds owner = record {
  owned = record {
    components = λ o i.
        let r = in_new ds s.next_object o i in (r.1, owner_from owner s.next_object number o r.0);
    target = λ t e. absurd (cc e);
    differ = new_differ ds s.next_object;
    apart = λ t e. absurd (cc e);
  };
  mine = λ a i. absurd i;
  closed = tt;
}

-- the server with the file
with_fine : (s : Server) (number : ℕ) (m : RawMap) (tag : ℕ) (zoned : Bool) (ds : List ℕ) (owner : ℕ → ℕ) → AreFine owner s
    → AreFine (with_owner owner s.next_object number) (with_file s (unmade s number m tag zoned ds))
with_fine s number m tag zoned ds owner own x i = elim (in_add s.files (unmade s number m tag zoned ds) x i) [
  | inl same ↦
      subst (IsFine (with_owner owner s.next_object number) (s.next_object + length (components_on ds
      s.next_object))) (sym same) (new_fine s number m tag zoned ds owner)
  | inr j ↦
      fine_later owner (with_owner owner s.next_object number) s.next_object _ x
      (λ o less. owner_below owner s.next_object number o less) (omega arith) (own x j)
]

made : (s : Server) (number : ℕ) (m : RawMap) (tag : ℕ) (zoned : Bool) (ds : List ℕ)
    → Steps (with_file s (unmade s number m tag zoned ds)) (makes_file s (unmade s number m tag zoned ds))
made s number m tag zoned ds =
    let f : File = unmade s number m tag zoned ds in
    let t : Server = with_file s f in
    goes_at t number f (making (at_file t [] f)) (makes_file s f) (add_there s.files f) refl refl (λ e. refl)
    (λ drive c i. i) (λ o h.
    ends_making (Mine o t.next_object number) number t.next_object (mine_fresh o t.next_object number) f.kept []
    (at_file t [] f) (begun t [] f o h).0)

-- what a step leaves of the files that were there, and of a new one
pub record Goes (owner : ℕ → ℕ) (s : Server) (t : Step) : Type 0 where
  pub later : ℕ → ℕ
  pub agree : Agree owner later s.next_object
  pub rises : s.next_object ≤ t.state.next_object
  pub fine : AreFine later t.state
  pub from : (x : File) → In x t.state.files → IsFrom s.files x ⊎ (file_at s.files x.kept.number ≡ None)
  pub sent : (drive : ℕ) (c : Command) → In (ToDrive drive c) t.sends
      → IsSent later t.state.next_object t.state.files c

plain : (owner : ℕ → ℕ) (s : Server) (t : Step) → AreFine owner s → Steps s t → Goes owner s t
plain owner s t own k =
    let x = k.keeps owner own in
    record {
      later = x.later;
      agree = x.agree;
      rises = x.rises;
      fine = x.fine;
      from = λ y i. inl (x.from y i);
      sent = x.sent;
    }

goes_made : (owner : ℕ → ℕ) (s : Server) (number : ℕ) (m : RawMap) (tag : ℕ) (zoned : Bool) (ds : List ℕ) → AreFine owner s
    → file_at s.files number ≡ None → Goes owner s (makes_file s (unmade s number m tag zoned ds))
goes_made owner s number m tag zoned ds own none =
    let f : File = unmade s number m tag zoned ds in
    let mid = with_owner owner s.next_object number in
    let x = (made s number m tag zoned ds).keeps mid (with_fine s number m tag zoned ds owner own) in
    record {
      later = x.later;
      agree = λ o less.
          x.agree o (omega (arith, less)) ∙ owner_below owner s.next_object number o less;
      rises = omega (arith, x.rises);
      fine = x.fine;
      from = λ y i.
          let r = x.from y i in
          elim (in_add s.files f r.file r.there) [
            | inl new ↦
                inr (subst (λ (k : ℕ). file_at s.files k ≡ None)
                (sym (ap (λ (z : File). z.kept.number) new) ∙ r.number) none)
            | inr old ↦ inl (record { file = r.file; there = old; number = r.number; behind = r.behind })
          ];
      sent = x.sent;
    }

unless : (owner : ℕ → ℕ) (s : Server) (number : ℕ) (m : RawMap) (tag : ℕ) (zoned : Bool) (ds : List ℕ) (r : Option Refusal)
    → refusal s number m zoned ≡ r → AreFine owner s
    → Goes owner s (unless_made s (unless_refused r (makes_file s (unmade s number m tag zoned ds))))
unless owner s number m tag zoned ds None e own = goes_made owner s number m tag zoned ds own (not_there s number m zoned e)
unless owner s number m tag zoned ds (Some why) e own = plain owner s (still s) own (stays s)

crashed : (s : Server) (chosen : List ℕ) → Steps s (step s chosen Crashes)
crashed s chosen = record {
  keeps = λ owner own. record {
    later = owner;
    agree = λ o less. refl;
    rises = omega arith;
    fine = λ f i.
        let r = in_mapped crashed_file f s.files i in
        let h = (own r.0 r.1).owned in
        subst (IsFine owner s.next_object) (sym r.2) (record {
          owned = record {
            components = h.components;
            target = λ t e. absurd (cc e);
            differ = h.differ;
            apart = λ t e. absurd (cc e);
          };
          mine = λ a j. absurd j;
          closed = tt;
        });
    from = λ f i.
        let r = in_mapped crashed_file f s.files i in
        subst (IsFrom s.files) (sym r.2)
        (record { file = r.0; there = r.1; number = refl; behind = λ c b. b });
    sent = λ drive c i. absurd i;
  };
}

-- ---- once more

-- what is awaited
sent_again : (owner : ℕ → ℕ) (n : ℕ) (ds : List Drive) (all fs : List File) → ((f : File) → In f fs → In f all)
    → ((f : File) → In f all → IsFine owner n f) → (drive : ℕ) (c : Command)
    → In (ToDrive drive c) (flat_map (λ (f : File). to_drives ds (awaited_by f.job)) fs) → IsSent owner n all c
sent_again owner n ds all [] there own drive c i = absurd i
sent_again owner n ds all (f ∷ fs) there own drive c i =
    elim (in_either (ToDrive drive c) (to_drives ds (awaited_by f.job)) _ i) [
      | inl j ↦
          let r = in_drives ds (awaited_by f.job) drive c j in
          sent_of owner n all f drive c r.0 (there f (inl refl)) r.1 ((own f (there f (inl refl))).mine r.0 r.2)
      | inr j ↦ sent_again owner n ds all fs (λ x k. there x (inr k)) own drive c j
    ]

-- ---- any step

pub step_goes : (owner : ℕ → ℕ) (s : Server) (chosen : List ℕ) (i : Input) → AreFine owner s
    → Goes owner s (step s chosen i)
unfolding on_message create_file reopen
step_goes owner s chosen (Hears now from m) own =
    plain owner s _ own (either_step s (counters_have_room s) _ _ (heard_message s now chosen from m) (stays s))
step_goes owner s chosen (Makes n m tag zoned) own =
    unless owner s n m tag zoned (drives_for zoned s.drives m chosen) (refusal s n m zoned) refl own
step_goes owner s chosen (Obeys kind n) own = plain owner s _ own (obeyed s chosen kind n)
step_goes owner s chosen (Adds d) own =
    plain owner s _ own (idle s _ refl refl (λ o h drive c i. absurd i))
step_goes owner s chosen (Zones d zone) own =
    plain owner s _ own (idle s _ refl refl (λ o h drive c i. absurd i))
step_goes owner s chosen (Formats n) own =
    plain owner s _ own (idle s _ refl refl (λ o h drive c i. absurd i))
step_goes owner s chosen Resends own =
    plain owner s _ own
    (idle s (step s chosen Resends) refl refl
    (λ o h drive c i. sent_again o s.next_object s.drives s.files s.files (λ f j. j) h drive c i))
step_goes owner s chosen Crashes own = plain owner s _ own (crashed s chosen)
step_goes owner s chosen Opens own =
    plain owner s _ own
    (either_step s (counters_have_room s) _ _
    (record {
      keeps = λ o h. round_keeps o s s _ (opened_each s.format s.drives s.files (begins s) o h);
    }) (stays s))
