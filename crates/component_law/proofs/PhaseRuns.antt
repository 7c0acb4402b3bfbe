-- Over any run what was sent goes to objects of files, and isn't past them.
use Rattle.std.proofs.Common.{◌≡◌, ◌⊎◌, ℕ, zero, suc, ◌<◌, List, [], ◌∷◌, ◌++◌, Some, None, refl, sym, ap, subst, ◌∙◌, arith, inl, inr, eq-eqb, ne_eqb}
use Rattle.std.proofs.lemmas.Option.{same_Some}
use Rattle.osd_commands.specs.declared.actions.Action.{Action}
use Rattle.osd_commands.specs.declared.actions.Action.TheVariants.{GetAttr, SetTag}
use Rattle.server_rules.specs.Commands.{command}
use Rattle.server_rules.specs.Files.{file_at}
use Rattle.server_rules.specs.History.{Act, step, state_after}
use Rattle.server_rules.specs.Laws.{In}
use Rattle.server_rules.specs.Making.{new_server}
use Rattle.server_rules.proofs.Members.{in_either}
use Rattle.history_law.specs.Names.{Server, File, Kept, Command, Outgoing, ToDrive}
use Rattle.history_law.proofs.JobFiles.{found_file}
use Rattle.component_law.specs.Words.{Each}
use Rattle.component_law.specs.Distinct.{AreDistinct}
use Rattle.component_law.specs.Sound.{IsSound, EachStepIsSound}
use Rattle.component_law.specs.Tags.{EachStepRaisesTags}
use Rattle.component_law.specs.Objects.{AreOwned}
use Rattle.component_law.proofs.ObjectSteps.{Agree, owned_later}
use Rattle.component_law.specs.Tagged.{HasFile, HaveFiles, sent_over, AreNamedActs, NoCommandIsAhead, IsBehind}
use Rattle.component_law.specs.Within.{IsWithin, TagsStayWithin}
use Rattle.component_law.proofs.Going.{AreFine, IsSent}
use Rattle.component_law.proofs.Every.{Goes, step_goes}

-- ---- files by their numbers

each_in : (P : File → Type 0) (fs : List File) (f : File) → Each P fs → In f fs → P f
each_in P [] f h i = absurd i
each_in P (g ∷ fs) f h (inl e) = subst P (sym e) h.0
each_in P (g ∷ fs) f h (inr i) = each_in P fs f h.1 i

found_own : (fs : List File) (f : File) → AreDistinct fs → In f fs → file_at fs f.kept.number ≡ Some f
unfolding file_at
found_own [] f d i = absurd i
found_own (g ∷ fs) f d (inl e) =
    rw (eq-eqb g.kept.number f.kept.number (ap (λ (x : File). x.kept.number) (sym e))) (ap Some (sym e))
found_own (g ∷ fs) f d (inr i) =
    rw (ne_eqb g.kept.number f.kept.number
    (λ e. each_in (λ (x : File). x.kept.number ≡ g.kept.number → ⊥) fs f d.0 i (sym e))) (found_own fs f d.1 i)

-- ---- a step

module _ (sound : EachStepIsSound) (raises : EachStepRaisesTags) where
  -- a file goes on, and no command that wasn't past it is
  record Stays (n : ℕ) (f : File) (files : List File) : Type 0 where
    behind : File
    there : file_at files n ≡ Some behind
    commands : (c : Command) → IsBehind f.kept c → IsBehind behind.kept c

  stays_one : (owner : ℕ → ℕ) (s : Server) (a : Act) → IsSound s → (g : Goes owner s (step s a.chosen a.input))
      → (n : ℕ) (f : File) → file_at s.files n ≡ Some f → Stays n f (step s a.chosen a.input).state.files
  stays_one owner s a h g n f at_n =
      let up = raises s a.chosen a.input h n f at_n in
      let found = found_file (step s a.chosen a.input).state.files n up.behind up.there in
      record {
        behind = up.behind;
        there = up.there;
        commands = λ c was. elim (g.from up.behind found.0) [
          | inl r ↦
              let e = found_own s.files r.file h.distinct r.there in
              let own : r.file.kept.number ≡ n = r.number ∙ found.1 in
              let same : r.file ≡ f =
              same_Some r.file f (sym (subst (λ (k : ℕ). file_at s.files k ≡ Some r.file) own e) ∙ at_n) in
              r.behind c (subst (λ (x : File). IsBehind x.kept c) (sym same) was)
          | inr none ↦ absurd (cc (sym (subst (λ (k : ℕ). file_at s.files k ≡ None) found.1 none) ∙ at_n))
        ];
      }

  -- what had its file before has it behind
  old_kept : (owner : ℕ → ℕ) (s : Server) (a : Act) → IsSound s → (g : Goes owner s (step s a.chosen a.input))
      → (c : Command) → HasFile owner s c → HasFile g.later (step s a.chosen a.input).state c
  old_kept owner s a h g c was =
      let x = stays_one owner s a h g (owner c.object) was.file was.there in
      record {
        file = x.behind;
        there = subst (λ (n : ℕ). file_at (step s a.chosen a.input).state.files n ≡ Some x.behind)
            (sym (g.agree c.object was.used)) x.there;
        used = omega (arith, was.used, g.rises);
        behind = x.commands c was.behind;
      }

  new_kept : (owner : ℕ → ℕ) (t : Server) → IsSound t → (c : Command) → IsSent owner t.next_object t.files c
      → HasFile owner t c
  new_kept owner t h c x = record {
    file = x.file;
    there = subst (λ (n : ℕ). file_at t.files n ≡ Some x.file) (sym x.used.0) (found_own t.files x.file h.distinct x.there);
    used = x.used.1;
    behind = x.behind;
  }

  -- ---- a run

  -- what holds at a moment, of what was sent before the run and in it
  record Holds (owner : ℕ → ℕ) (past : Command → Type 0) (s : Server) (sends : List Outgoing) : Type 0 where
    owned : AreOwned owner s
    old : (c : Command) → past c → HasFile owner s c
    sent : HaveFiles owner s sends

  record Runs (owner : ℕ → ℕ) (past : Command → Type 0) (s : Server) (acts : List Act) : Type 0 where
    later : ℕ → ℕ
    agree : Agree owner later s.next_object
    holds : (before after : List Act) → acts ≡ before ++ after
        → Holds later past (state_after s before) (sent_over s before)

  head_same : (a b : Act) (xs ys : List Act) → a ∷ xs ≡ b ∷ ys → a ≡ b
  head_same a b xs ys e = cc e

  tail_same : (a b : Act) (xs ys : List Act) → a ∷ xs ≡ b ∷ ys → xs ≡ ys
  tail_same a b xs ys e = cc e

  -- at the beginning, by later owners
  here : (owner later : ℕ → ℕ) (past : Command → Type 0) (s : Server) → Agree owner later s.next_object
      → AreFine owner s → ((c : Command) → past c → HasFile owner s c) → Holds later past s (sent_over s [])
  unfolding sent_over
  here owner later past s agree fine old = record {
    owned = λ f i.
        owned_later owner later s.next_object s.next_object f agree (omega arith) (fine f i).owned;
    old = λ c p.
        let x = old c p in
        record {
          file = x.file;
          there = subst (λ (n : ℕ). file_at s.files n ≡ Some x.file) (sym (agree c.object x.used)) x.there;
          used = x.used;
          behind = x.behind;
        };
    sent = λ drive c i. absurd i;
  }

  -- what was sent before the run, or in its first step
  abbrev Then : (Command → Type 0) → List Outgoing → Command → Type 0
  Then past sends c = past c ⊎ ((drive : ℕ) × In (ToDrive drive c) sends)

  behind_one : (later : ℕ → ℕ) (past : Command → Type 0) (s : Server) (a : Act) (before : List Act)
      → Holds later (Then past (step s a.chosen a.input).sends)
      (state_after (step s a.chosen a.input).state before) (sent_over (step s a.chosen a.input).state before)
      → Holds later past (state_after s (a ∷ before)) (sent_over s (a ∷ before))
  unfolding sent_over
  behind_one later past s a before h = record {
    owned = h.owned;
    old = λ c p. h.old c (inl p);
    sent = λ drive c i. elim (in_either (ToDrive drive c) (step s a.chosen a.input).sends _ i) [
      | inl j ↦ h.old c (inr (drive, j))
      | inr j ↦ h.sent drive c j
    ];
  }

  runs : (owner : ℕ → ℕ) (past : Command → Type 0) (s : Server) (acts : List Act) → IsSound s → AreFine owner s
      → AreNamedActs acts → ((c : Command) → past c → HasFile owner s c) → Runs owner past s acts
  runs owner past s [] h fine named old = record {
    later = owner;
    agree = λ o less. refl;
    holds = at_end;
  }
    where
      at_end : (before after : List Act) → [] ≡ before ++ after
          → Holds owner past (state_after s before) (sent_over s before)
      at_end [] after e = here owner owner past s (λ o less. refl) fine old
      at_end (b ∷ before) after e = absurd (cc e)
  runs owner past s (a ∷ acts) h fine named old =
      let g = step_goes owner s a.chosen a.input fine in
      let t = sound s a.chosen a.input h named.0 in
      let r = runs g.later (Then past (step s a.chosen a.input).sends) (step s a.chosen a.input).state acts t g.fine
      named.1
      (λ c p. elim p [
        | inl q ↦ old_kept owner s a h g c (old c q)
        | inr (drive, i) ↦ new_kept g.later (step s a.chosen a.input).state t c (g.sent drive c i)
      ]) in
      let agree = λ (o : ℕ) (less : o < s.next_object). r.agree o (omega (arith, less, g.rises)) ∙ g.agree o less in
      record {
        later = r.later;
        agree = agree;
        holds = at_each r.later r.holds (here owner r.later past s agree fine old);
      }
    where
      at_each : (later : ℕ → ℕ) → ((before after : List Act) → acts ≡ before ++ after
          → Holds later (Then past (step s a.chosen a.input).sends)
          (state_after (step s a.chosen a.input).state before) (sent_over (step s a.chosen a.input).state before))
          → Holds later past s (sent_over s []) → (before after : List Act) → a ∷ acts ≡ before ++ after
          → Holds later past (state_after s before) (sent_over s before)
      at_each later rest first [] after e = first
      at_each later rest first (b ∷ before) after e =
          subst (λ (x : Act). Holds later past (state_after s (x ∷ before)) (sent_over s (x ∷ before)))
          (head_same a b acts (before ++ after) e)
          (behind_one later past s a before (rest before after (tail_same a b acts (before ++ after) e)))

  pub no_command_is_ahead : NoCommandIsAhead
  no_command_is_ahead acts named =
      let r = runs (λ o. o) (λ c. ⊥) (new_server []) acts
      (record { distinct = tt; components = tt; aimed = tt; files = tt; drives = tt }) (λ f i. absurd i) named
      (λ c p. absurd p) in
      (r.later, λ before after e. let x = r.holds before after e in (x.owned, x.sent))

  -- ---- files go on

  stays_all : (owner : ℕ → ℕ) (s : Server) (acts : List Act) → IsSound s → AreFine owner s → AreNamedActs acts
      → (n : ℕ) (f : File) → file_at s.files n ≡ Some f → Stays n f (state_after s acts).files
  stays_all owner s [] h fine named n f at_n = record { behind = f; there = at_n; commands = λ c b. b }
  stays_all owner s (a ∷ acts) h fine named n f at_n =
      let g = step_goes owner s a.chosen a.input fine in
      let x = stays_one owner s a h g n f at_n in
      let y = stays_all g.later (step s a.chosen a.input).state acts (sound s a.chosen a.input h named.0) g.fine
      named.1 n x.behind x.there in
      record { behind = y.behind; there = y.there; commands = λ c b. y.commands c (x.commands c b) }

  from_front : (owner : ℕ → ℕ) (s : Server) (first more : List Act) → IsSound s → AreFine owner s
      → AreNamedActs (first ++ more) → (n : ℕ) (f : File) → file_at (state_after s first).files n ≡ Some f
      → Stays n f (state_after s (first ++ more)).files
  from_front owner s [] more h fine named n f at_n = stays_all owner s more h fine named n f at_n
  from_front owner s (a ∷ first) more h fine named n f at_n =
      let g = step_goes owner s a.chosen a.input fine in
      from_front g.later (step s a.chosen a.input).state first more (sound s a.chosen a.input h named.0) g.fine
      named.1 n f at_n

  -- a command with that tag
  abbrev tagged : Kept → (tag : ℕ) → Action → Command
  tagged k t a = command (record k { tag = t }) 0 0 0 a 0 0 0 []

  within_on : (k l : Kept) → ((c : Command) → IsBehind k c → IsBehind l c) → (t : ℕ) → IsWithin k t → IsWithin l t
  within_on k l on t (inl le) = inl (on (tagged k t GetAttr) (le, λ e. absurd (cc e))).0
  within_on k l on zero (inr x) = inl (omega arith)
  within_on k l on (suc u) (inr x) =
      let r = on (tagged k u SetTag) (omega (arith, x.0), λ e. inr x.1) in
      elim (r.1 refl) [
        | inl less ↦ inl (omega (arith, less))
        | inr wide ↦ inr (omega (arith, r.0), wide)
      ]

  pub tags_stay_within : TagsStayWithin
  tags_stay_within first more named n f at_n =
      let x = from_front (λ o. o) (new_server []) first more
      (record { distinct = tt; components = tt; aimed = tt; files = tt; drives = tt }) (λ g i. absurd i) named n f
      at_n in
      record {
        behind = x.behind;
        there = x.there;
        commands = x.commands;
        tags = λ t w. within_on f.kept x.behind.kept x.commands t w;
      }
