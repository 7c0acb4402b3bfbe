-- Each step of a server: what it sends, and what jobs await, is under no earlier tag than its object.
use Rattle.std.proofs.Common.{ℕ, List, [], ◌∷◌, flat_map, refl, sym, subst, ◌∙◌, arith, inl, inr, Bool}
use Rattle.data_map.specs.declared.check.RawMap.{RawMap}
use Rattle.server_rules.specs.Laws.{In}
use Rattle.server_rules.specs.Files.{still, at_file, to_drives}
use Rattle.server_rules.specs.Messages.{awaited_by, resend}
use Rattle.server_rules.specs.Jobs.{making}
use Rattle.server_rules.specs.Making.{drives_for, unmade, with_file, makes_file}
use Rattle.server_rules.specs.History.{Input, step}
use Rattle.history_law.specs.Names.{Command, ToDrive, Server, File, Drive}
use Rattle.server_rules.proofs.Members.{in_either}
use Rattle.history_law.proofs.JobFiles.{in_add, add_there, in_drives}
use Rattle.component_law.proofs.SentNumbers.{in_new}
use Rattle.component_law.proofs.BirthEnds.{IsFine, fine_later}
use Rattle.component_law.proofs.BirthJobs.{ends_making}
use Rattle.component_law.proofs.BirthGoing.{AreFine, IsSent, sent_of, Keeps, idle, goes_at, begun}
use Rattle.component_law.proofs.BirthSteps.{HaveFirst, kept_cases}
use Rattle.component_law.proofs.ObjectSteps.{with_owner, owner_below, owner_from}
use Rattle.history_law.proofs.Steps.{each_step}

-- ---- making

module _ (birth : ℕ → ℕ) (s : Server) (own : AreFine birth s) (number : ℕ) (m : RawMap) (tag : ℕ) (zoned : Bool)
    (ds : List ℕ) where
  -- the numbers of the new file are given at its first tag
  abbrev new_birth : ℕ → ℕ
  new_birth = with_owner birth s.next_object tag

  abbrev new_file : File
  new_file = unmade s number m tag zoned ds

  abbrev server_with : Server
  server_with = with_file s new_file

  new_fine : IsFine new_birth server_with.next_object new_file
  new_fine = (
    λ o i.
        let r = in_new ds s.next_object o i in
        (r.1, omega (arith, owner_from birth s.next_object tag o r.0)),
    tt,
    λ a i. absurd i,
    λ o i. omega (arith, owner_from birth s.next_object tag o (in_new ds s.next_object o i).0),
    omega arith,
  )

  with_fine : AreFine new_birth server_with
  with_fine x i = elim (in_add s.files new_file x i) [
    | inl same ↦ subst (IsFine new_birth server_with.next_object) (sym same) new_fine
    | inr j ↦
        fine_later birth new_birth s.next_object server_with.next_object x
        (λ o less. owner_below birth s.next_object tag o less) (omega arith) (own x j)
  ]

  made : Keeps birth s.next_object (makes_file s new_file)
  made =
      let g = at_file server_with [] new_file in
      let x : Keeps new_birth server_with.next_object (makes_file s new_file) =
      goes_at new_birth server_with with_fine number (making g) (makes_file s new_file) refl refl (λ drive c i. i)
      (ends_making new_birth server_with.next_object [] g
      (begun new_birth server_with with_fine [] new_file (add_there s.files new_file)).0
      (λ o i. omega (arith, owner_from birth s.next_object tag o (in_new ds s.next_object o i).0))) in
      record {
        later = x.later;
        agree = λ o less. x.agree o (omega (arith, less)) ∙ owner_below birth s.next_object tag o less;
        rises = omega (arith, x.rises);
        fine = x.fine;
        sent = x.sent;
      }

-- ---- once more

-- what is awaited
sent_again : (birth : ℕ → ℕ) (n : ℕ) (ds : List Drive) (fs : List File) → ((f : File) → In f fs → IsFine birth n f)
    → (drive : ℕ) (c : Command)
    → In (ToDrive drive c) (flat_map (λ (f : File). to_drives ds (awaited_by f.job)) fs) → IsSent birth n c
sent_again birth n ds [] own drive c i = absurd i
sent_again birth n ds (f ∷ fs) own drive c i =
    elim (in_either (ToDrive drive c) (to_drives ds (awaited_by f.job)) _ i) [
      | inl j ↦
          let r = in_drives ds (awaited_by f.job) drive c j in
          sent_of birth n drive c r.0 r.1 ((own f (inl refl)).2 r.0 r.2).0
      | inr j ↦ sent_again birth n ds fs (λ x k. own x (inr k)) drive c j
    ]

-- ---- any step

-- where a file that isn't ready has its first tag
pub step_keeps : (birth : ℕ → ℕ) (s : Server) (chosen : List ℕ) (i : Input) → HaveFirst s.files → AreFine birth s
    → Keeps birth s.next_object (step s chosen i)
step_keeps birth s chosen i first own =
    each_step s chosen i (Keeps birth s.next_object)
    (kept_cases birth s own chosen i first
    (λ n m tag zoned. made birth s own n m tag zoned (drives_for zoned s.drives m chosen))
    (idle birth s own (record (still s) { sends = resend s }) refl refl
    (sent_again birth s.next_object s.drives s.files own)))
