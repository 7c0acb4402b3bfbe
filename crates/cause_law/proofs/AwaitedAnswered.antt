-- A command whose answer comes isn't awaited behind the step.
use Rattle.std.proofs.Common.{◌≡◌, ℕ, true, not, find, List, [], ◌∷◌, Option, Some, None, refl, sym, ap, subst, ◌∙◌, arith, inl, inr}
use Rattle.std.proofs.lemmas.Bool.{cases_Bool, eq-eqb, true≢false}
use Rattle.std.proofs.lemmas.Bool.Decides.{nat_tests}
use Rattle.osd_lists.specs.declared.node.Node.TheVariants.{Drive as FromDrive}
use Rattle.server_rules.specs.Files.{Step, file_at, put_file, at_file}
use Rattle.server_rules.specs.Going.{Going}
use Rattle.server_rules.specs.History.{Input, Hears, step}
use Rattle.server_rules.specs.Laws.{In, FilesArePut}
use Rattle.server_rules.specs.Messages.{Replies, awaited_by, or_else, heard_at, by_heard, on_drive_reply, on_message}
use Rattle.server_rules.specs.Replies.{answers, hearing, hears, heard_by, heard_in, on_reply}
use Rattle.server_rules.proofs.FileLaws.{number_at}
use Rattle.server_rules.proofs.Members.{in_filtered}
use Rattle.world_history.specs.ServerNames.{Server, File, Job, Awaited, Reply}
use Rattle.history_law.proofs.Files.{in_at}
use Rattle.history_law.specs.Numbered.{Awaits}
use Rattle.history_law.proofs.Hearing.{found_in, goes_hears, left_hears}
use Rattle.cause_law.specs.Awaiting.{Answers}
use Rattle.cause_law.proofs.AwaitedSteps.{AreBelow}

-- ---- who hears it

-- one that answers is found
some_found : (d : ℕ) (r : Reply) (ws : List Awaited) (a : Awaited) → In a ws → answers d r a ≡ true
    → (b : Awaited) × (find (answers d r) ws ≡ Some b)
some_found d r [] a i e = absurd i
some_found d r (x ∷ ws) a i e = elim (cases_Bool (answers d r x)) [
  | inl t ↦ (x, rw t refl)
  | inr z ↦ elim i [
    | inl same ↦ absurd (true≢false (sym e ∙ ap (answers d r) same ∙ z))
    | inr j ↦ let rest = some_found d r ws a j e in (rest.0, rw z rest.1)
  ]
]

pub its_nonce : (d : ℕ) (r : Reply) (a : Awaited) → answers d r a ≡ true → a.command.nonce ≡ r.nonce
its_nonce d r a e = grind (arith, e, nat_tests)

module _ (s : Server) (chosen : List ℕ) (d : ℕ) (r : Reply) where
  -- where a file's job awaits the command, what the file does
  own_reply : (f : File) (j : Job) (a : Awaited) → f.job ≡ Some j → In a j.awaited → answers d r a ≡ true
      → (b : Awaited) × In b j.awaited × (answers d r b ≡ true)
      × (on_reply (at_file s chosen f) d r ≡ Some (hears (at_file s chosen f) j b r (hearing f.kept b r)))
  unfolding on_reply
  own_reply f j a runs there e =
      let found = some_found d r j.awaited a there e in
      let own = found_in (answers d r) j.awaited found.0 found.1 in (
        found.0,
        own.0,
        own.1,
        ap (heard_in (at_file s chosen f) d r) runs ∙ ap (heard_by (at_file s chosen f) r j) found.1,
      )

  -- a file whose job awaits nothing of the kind hears nothing
  no_reply : (f : File) → ((a : Awaited) → In a (awaited_by f.job) → answers d r a ≡ true → ⊥)
      → on_reply (at_file s chosen f) d r ≡ None
  unfolding on_reply
  no_reply f none = by f.job none
    where
      by_found : (j : Job) (o : Option Awaited) → find (answers d r) j.awaited ≡ o
          → ((a : Awaited) → In a j.awaited → answers d r a ≡ true → ⊥) → heard_by (at_file s chosen f) r j o ≡ None
      by_found j None e n = refl
      by_found j (Some b) e n = let own = found_in (answers d r) j.awaited b e in absurd (n b own.0 own.1)

      by : (o : Option Job) → ((a : Awaited) → In a (awaited_by o) → answers d r a ≡ true → ⊥)
          → heard_in (at_file s chosen f) d r o ≡ None
      by None n = refl
      by (Some j) n = by_found j (find (answers d r) j.awaited) refl n

  -- the first of these files whose job awaits it is this one
  first_hears : (fs : List File) (f : File) (h : Going) → In f fs
      → ((x : File) → In x fs → (b : Awaited) → In b (awaited_by x.job) → answers d r b ≡ true → x ≡ f)
      → on_reply (at_file s chosen f) d r ≡ Some h → heard_at s chosen d r fs ≡ Some h
  unfolding heard_at
  first_hears [] f h i alone is = absurd i
  first_hears (x ∷ fs) f h (inl same) alone is =
      ap (λ (o : Option Going). or_else o (heard_at s chosen d r fs))
      (ap (λ (y : File). on_reply (at_file s chosen y) d r) (sym same) ∙ is)
  first_hears (x ∷ fs) f h (inr i) alone is =
      by (on_reply (at_file s chosen x) d r) refl (first_hears fs f h i (λ y k b l e. alone y (inr k) b l e) is)
    where
      -- only this file hears it
      heard_same : (g : Going) → on_reply (at_file s chosen x) d r ≡ Some g → g ≡ h
      heard_same g e = by_job x.job refl
        where
          its : (u v : Going) → Some u ≡ Some v → u ≡ v
          its u v q = cc q

          by_found : (j : Job) → x.job ≡ Some j → (o : Option Awaited) → find (answers d r) j.awaited ≡ o → g ≡ h
          by_found j runs None none =
              absurd (cc (sym (no_reply x (λ a k y. absurd (none_found j.awaited a none
              (subst (λ (p : Option Job). In a (awaited_by p)) runs k) y))) ∙ e))
            where
              none_found : (ws : List Awaited) (a : Awaited) → find (answers d r) ws ≡ None → In a ws
                  → answers d r a ≡ true → ⊥
              none_found ws a z k y = let found = some_found d r ws a k y in cc (sym z ∙ found.1)
          by_found j runs (Some b) found =
              let own = found_in (answers d r) j.awaited b found in
              let same : x ≡ f =
              alone x (inl refl) b (subst (λ (p : Option Job). In b (awaited_by p)) (sym runs) own.0) own.1 in
              its g h (sym e ∙ ap (λ (y : File). on_reply (at_file s chosen y) d r) same ∙ is)

          by_job : (o : Option Job) → x.job ≡ o → g ≡ h
          by_job None none =
              absurd (cc (sym (no_reply x (λ a k y. subst (λ (p : Option Job). In a (awaited_by p)) none k)) ∙ e))
          by_job (Some j) runs = by_found j runs (find (answers d r) j.awaited) refl

      by : (o : Option Going) → on_reply (at_file s chosen x) d r ≡ o → heard_at s chosen d r fs ≡ Some h
          → or_else o (heard_at s chosen d r fs) ≡ Some h
      by None e rest = rest
      by (Some g) e rest = ap (λ (y : Going). Some y) (heard_same g e)

-- ---- a step

-- no two files await one nonce
abbrev pub AreParted : List File → Type 0
AreParted fs =
    (x y : File) → In x fs → In y fs → (a b : Awaited) → In a (awaited_by x.job) → In b (awaited_by y.job)
    → a.command.nonce ≡ b.command.nonce → x.kept.number ≡ y.kept.number

-- nor is one awaited twice
abbrev pub AreAlone : List File → Type 0
AreAlone fs = (a b : Awaited) → Awaits fs a → Awaits fs b → a.command.nonce ≡ b.command.nonce → a ≡ b

-- one file has a number
abbrev pub AreOne : List File → Type 0
AreOne fs = (x y : File) → In x fs → In y fs → x.kept.number ≡ y.kept.number → x ≡ y

module _ (put : FilesArePut) (s : Server) (chosen : List ℕ) (below : AreBelow s.next_nonce s.files)
    (parted : AreParted s.files) (alone : AreAlone s.files) (one : AreOne s.files) where
  module _ (n : ℕ) (f : File) (found : file_at s.files n ≡ Some f) (a : Awaited) (awaits : In a (awaited_by f.job))
      (i : Input) (x : Answers s i f a) where
    there : In f s.files
    there = in_at s.files n f found

    answered : answers a.drive x.reply a ≡ true
    answered = rw (eq-eqb a.command.nonce x.reply.nonce (sym x.nonce), eq-eqb a.drive a.drive refl) refl

    -- only this file awaits it
    only : (y : File) → In y s.files → (b : Awaited) → In b (awaited_by y.job) → answers a.drive x.reply b ≡ true → y ≡ f
    only y k b l e =
        one y f k there
        (parted y f k there b a l awaits (its_nonce a.drive x.reply b e ∙ x.nonce))

    none_left : (j : Job) → f.job ≡ Some j → (h : Going)
        → h ≡ hears (at_file s chosen f) j a x.reply (hearing f.kept a x.reply) → In a (awaited_by h.file.job) → ⊥
    none_left j runs h is k =
        elim (left_hears (at_file s chosen f) j a x.reply (hearing f.kept a x.reply) x.counts a
        (subst (λ (g : Going). In a (awaited_by g.file.job)) is k)) [
          | inl old ↦
              let kept = (in_filtered _ a j.awaited old).1 in
              true≢false (sym kept ∙ ap not (eq-eqb a.command.nonce a.command.nonce refl))
          | inr new ↦ omega (arith, new, below f there a awaits)
        ]

    -- the step
    heard_step : (h : Going) → heard_at s chosen a.drive x.reply s.files ≡ Some h → h.file.kept.number ≡ f.kept.number
        → file_at (on_drive_reply s chosen a.drive x.reply).state.files n ≡ Some h.file
    unfolding on_drive_reply
    heard_step h is number =
        ap (λ (o : Option Going). file_at (by_heard s o).state.files n) is
        ∙ ap (λ (k : ℕ). file_at (put_file s.files k h.file) n) (number ∙ number_at s.files n f found)
        ∙ (put s.files n h.file f (number ∙ number_at s.files n f found) found).0

    message_is : step s chosen (Hears x.now (FromDrive a.drive) (Replies x.reply))
        ≡ on_drive_reply s chosen a.drive x.reply
    unfolding on_message
    message_is = rw x.room refl

    pub answered_ends : (g : File) → file_at (step s chosen i).state.files n ≡ Some g → In a (awaited_by g.job) → ⊥
    answered_ends g behind k = by_job f.job refl
      where
        own : (u v : File) → Some u ≡ Some v → u ≡ v
        own u v e = cc e

        by_job : (o : Option Job) → f.job ≡ o → ⊥
        by_job None none = subst (λ (o : Option Job). In a (awaited_by o)) none awaits
        by_job (Some j) runs =
            let here : In a j.awaited = subst (λ (o : Option Job). In a (awaited_by o)) runs awaits in
            let r = own_reply s chosen a.drive x.reply f j a runs here answered in
            let same : r.0 ≡ a =
            alone r.0 a (f, there, subst (λ (o : Option Job). In r.0 (awaited_by o)) (sym runs) r.1) (f, there, awaits)
            (its_nonce a.drive x.reply r.0 r.2 ∙ x.nonce) in
            let h : Going = hears (at_file s chosen f) j r.0 x.reply (hearing f.kept r.0 x.reply) in
            let number : h.file.kept.number ≡ f.kept.number =
            (goes_hears (at_file s chosen f) j r.0 x.reply (hearing f.kept r.0 x.reply) r.1
            (λ y l. subst (λ (o : Option Job). In y (awaited_by o)) (sym runs) l)).number_is in
            let at_step : file_at (step s chosen i).state.files n ≡ Some h.file =
            ap (λ (y : Input). file_at (step s chosen y).state.files n) x.comes
            ∙ ap (λ (t : Step). file_at t.state.files n) message_is
            ∙ heard_step h (first_hears s chosen a.drive x.reply s.files f h there only r.3) number in
            none_left j runs h
            (ap (λ (b : Awaited). hears (at_file s chosen f) j b x.reply (hearing f.kept b x.reply)) same)
            (subst (λ (y : File). In a (awaited_by y.job)) (own g h.file (sym behind ∙ at_step)) k)
