-- What a step at one file leaves: the tags at which numbers were given, and what was sent.
use Rattle.std.proofs.Common.{◌≡◌, ℕ, ◌≤◌, List, [], refl, sym, subst, arith, inl, inr}
use Rattle.server_rules.specs.Laws.{In}
use Rattle.server_rules.specs.Going.{Going}
use Rattle.server_rules.specs.Files.{Step, still, at_file, put_file, to_drives}
use Rattle.history_law.specs.Names.{Command, ToDrive, Server, File, Awaited}
use Rattle.history_law.specs.Numbered.{IsOf}
use Rattle.history_law.proofs.JobFiles.{in_put, in_drives}
use Rattle.component_law.proofs.ObjectSteps.{Agree}
use Rattle.component_law.proofs.BirthSent.{IsBorn}
use Rattle.component_law.proofs.BirthEnds.{IsFine, fine_later, Holds, Ends}

abbrev pub AreFine : (ℕ → ℕ) → Server → Type 0
AreFine birth s = (f : File) → In f s.files → IsFine birth s.next_object f

-- the command is under no earlier tag than its object
abbrev pub IsSent : (birth : ℕ → ℕ) → (next : ℕ) → Command → Type 0
IsSent birth next c = IsBorn birth next c.object c.capability.tag

-- what is sent of an awaited command
pub sent_of : (birth : ℕ → ℕ) (next drive : ℕ) (c : Command) (a : Awaited) → IsOf drive c a
    → IsSent birth next a.command → IsSent birth next c
sent_of birth next drive c a of x = subst (IsSent birth next) (sym of.1) x

-- behind a step: by some function that agrees with the former
pub record Keeps (birth : ℕ → ℕ) (next : ℕ) (t : Step) : Type 0 where
  pub later : ℕ → ℕ
  pub agree : Agree birth later next
  pub rises : next ≤ t.state.next_object
  pub fine : AreFine later t.state
  pub sent : (drive : ℕ) (c : Command) → In (ToDrive drive c) t.sends → IsSent later t.state.next_object c

-- ---- a step

module _ (birth : ℕ → ℕ) (s : Server) (own : AreFine birth s) where
  -- the files stay
  pub idle : (t : Step) → t.state.next_object ≡ s.next_object → t.state.files ≡ s.files
      → ((drive : ℕ) (c : Command) → In (ToDrive drive c) t.sends → IsSent birth s.next_object c)
      → Keeps birth s.next_object t
  idle t next files sent = record {
    later = birth;
    agree = λ o less. refl;
    rises = omega (arith, next);
    fine = λ f i. subst (λ (m : ℕ). IsFine birth m f) (sym next) (own f (subst (In f) files i));
    sent = λ drive c i. subst (λ (m : ℕ). IsSent birth m c) (sym next) (sent drive c i);
  }

  pub stays : Keeps birth s.next_object (still s)
  stays = idle (still s) refl refl (λ drive c i. absurd i)

  -- one file goes on
  pub goes_at : (number : ℕ) (h : Going) (t : Step) → t.state.files ≡ put_file s.files number h.file
      → t.state.next_object ≡ h.effects.object
      → ((drive : ℕ) (c : Command) → In (ToDrive drive c) t.sends
      → In (ToDrive drive c) (to_drives s.drives h.effects.sent)) → Ends birth s.next_object [] h
      → Keeps birth s.next_object t
  goes_at number h t files next sends e = record {
    later = e.0;
    agree = e.1;
    rises = omega (arith, next, e.2);
    fine = λ x j. elim (in_put s.files number h.file x (subst (In x) files j)) [
      | inl same ↦
          subst (IsFine e.0 t.state.next_object) (sym same) (subst (λ (m : ℕ). IsFine e.0 m h.file) (sym next) e.3)
      | inr k ↦
          fine_later birth e.0 s.next_object t.state.next_object x e.1 (omega (arith, next, e.2)) (own x k)
    ];
    sent = λ drive c j.
        let r = in_drives s.drives h.effects.sent drive c (sends drive c j) in
        subst (λ (m : ℕ). IsSent e.0 m c) (sym next)
        (elim (e.4 r.0 r.2) [
          | inl none ↦ absurd none
          | inr x ↦ sent_of e.0 h.effects.object drive c r.0 r.1 x
        ]);
  }

  pub begun : (chosen : List ℕ) (f : File) → In f s.files → Holds birth s.next_object [] (at_file s chosen f)
  begun chosen f i = let h = own f i in ((refl, h.0, λ a j. absurd j, h.3, h.4), h.1, h.2)
