-- A command of a job whose format is too old goes again, and its file's format is 2 from then on.
use Rattle.std.proofs.Common.{◌≡◌, ℕ, Bool, true, true≢false, find, map, List, [], ◌∷◌, Option, Some, None, refl, sym, ap, subst, ◌∙◌, inl, inr, if◌then◌else◌}
use Rattle.std.proofs.lemmas.Bool.{cases_Bool, eq-eqb}
use Rattle.osd_lists.specs.declared.node.Node.TheVariants.{Drive as FromDrive}
use Rattle.osd_capability.specs.declared.layout.TheConstants.{FORMAT_SHA256}
use Rattle.server_rules.specs.Commands.{again_in_2}
use Rattle.server_rules.specs.Files.{Step, file_at, put_file, at_file}
use Rattle.server_rules.specs.Going.{Going}
use Rattle.server_rules.specs.History.{Input, Hears, step}
use Rattle.server_rules.specs.Laws.{In, FilesArePut}
use Rattle.server_rules.specs.Messages.{Replies, awaited_by, or_else, heard_at, by_heard, on_drive_reply, on_message}
use Rattle.server_rules.specs.Replies.{Older, renewed, answers, hearing, hears, heard_by, heard_in, on_reply}
use Rattle.server_rules.proofs.FileLaws.{number_at}
use Rattle.server_rules.proofs.Members.{in_map}
use Rattle.world_history.specs.ServerNames.{Server, File, Job, Awaited, Reply}
use Rattle.history_law.proofs.Files.{in_at}
use Rattle.history_law.proofs.Hearing.{found_in}
use Rattle.cause_law.proofs.AwaitedAnswered.{AreParted, AreAlone, AreOne, its_nonce}
use Rattle.history_claims.specs.Formats.{IsTooOld}

-- ---- who hears a reply

module _ (s : Server) (chosen : List ℕ) (d : ℕ) (r : Reply) where
  -- this file, whose job awaits the command; and so it goes on
  record IsHeard (h : Going) : Type 0 where
    file : File
    there : In file s.files
    job : Job
    runs : file.job ≡ Some job
    awaited : Awaited
    awaits : In awaited job.awaited
    own : answers d r awaited ≡ true
    goes : h ≡ hears (at_file s chosen file) job awaited r (hearing file.kept awaited r)

  same : (g h : Going) → Some g ≡ Some h → h ≡ g
  same g h e = cc e

  heard_of : (f : File) → In f s.files → (j : Job) → f.job ≡ Some j → (o : Option Awaited) → find (answers d r) j.awaited ≡ o
      → (h : Going) → heard_by (at_file s chosen f) r j o ≡ Some h → IsHeard h
  heard_of f there j runs None found h e = absurd (cc e)
  heard_of f there j runs (Some a) found h e =
      let own = found_in (answers d r) j.awaited a found in
      record {
        file = f;
        there = there;
        job = j;
        runs = runs;
        awaited = a;
        awaits = own.0;
        own = own.1;
        goes = same _ h e;
      }

  heard_job : (f : File) → In f s.files → (o : Option Job) → f.job ≡ o → (h : Going)
      → heard_in (at_file s chosen f) d r o ≡ Some h → IsHeard h
  heard_job f there None runs h e = absurd (cc e)
  heard_job f there (Some j) runs h e = heard_of f there j runs (find (answers d r) j.awaited) refl h e

  some_heard : (fs : List File) → ((f : File) → In f fs → In f s.files) → (h : Going) → heard_at s chosen d r fs ≡ Some h
      → IsHeard h
  unfolding heard_at on_reply
  some_heard [] among h e = absurd (cc e)
  some_heard (f ∷ fs) among h e =
      by (on_reply (at_file s chosen f) d r) refl e (some_heard fs (λ g k. among g (inr k)) h)
    where
      by : (o : Option Going) → on_reply (at_file s chosen f) d r ≡ o → or_else o (heard_at s chosen d r fs) ≡ Some h
          → (heard_at s chosen d r fs ≡ Some h → IsHeard h) → IsHeard h
      by None is q later = later q
      by (Some g) is q later = heard_job f (among f (inl refl)) f.job refl h (is ∙ q)

  -- one that answers is found
  is_found : (ws : List Awaited) (a : Awaited) → In a ws → answers d r a ≡ true → find (answers d r) ws ≡ None → ⊥
  is_found [] a k e none = k
  is_found (b ∷ ws) a k e none = elim (cases_Bool (answers d r b)) [
    | inl t ↦ cc (rw t at none)
    | inr z ↦ elim k [
      | inl here ↦ true≢false (sym e ∙ ap (answers d r) here ∙ z)
      | inr l ↦ is_found ws a l e (rw z at none)
    ]
  ]

  none_heard : (fs : List File) → heard_at s chosen d r fs ≡ None → (f : File) → In f fs → (a : Awaited)
      → In a (awaited_by f.job) → answers d r a ≡ true → ⊥
  unfolding heard_at on_reply
  none_heard [] e f k a l own = k
  none_heard (g ∷ fs) e f k a l own =
      by (on_reply (at_file s chosen g) d r) refl e k (λ q m. none_heard fs q f m a l own)
    where
      of_found : (j : Job) → In a j.awaited → (o : Option Awaited) → find (answers d r) j.awaited ≡ o
          → heard_by (at_file s chosen g) r j o ≡ None → ⊥
      of_found j m None is q = is_found j.awaited a m own is
      of_found j m (Some b) is q = cc q

      of_job : (o : Option Job) → In a (awaited_by o) → heard_in (at_file s chosen g) d r o ≡ None → ⊥
      of_job None m q = m
      of_job (Some j) m q = of_found j m (find (answers d r) j.awaited) refl q

      by : (o : Option Going) → on_reply (at_file s chosen g) d r ≡ o → or_else o (heard_at s chosen d r fs) ≡ None
          → In f (g ∷ fs) → (heard_at s chosen d r fs ≡ None → In f fs → ⊥) → ⊥
      by (Some h) is q m later = cc q
      by None is q (inl here) later = of_job g.job (subst (λ (y : File). In a (awaited_by y.job)) here l) is
      by None is q (inr m) later = later q m

-- ---- the step

module _ (put : FilesArePut) (s : Server) (chosen : List ℕ) (parted : AreParted s.files) (alone : AreAlone s.files)
    (one : AreOne s.files) (i : Input) (n : ℕ) (f : File) (found : file_at s.files n ≡ Some f) (x : IsTooOld s i f) where
  abbrev a : Awaited
  a = x.awaited

  abbrev r : Reply
  r = x.answers.reply

  -- its format is 2, and the command is awaited again
  pub record IsRenewed (g : File) : Type 0 where
    pub format : g.kept.format ≡ FORMAT_SHA256
    pub again : In (again_in_2 a s.next_nonce) (awaited_by g.job)

  there : In f s.files
  there = in_at s.files n f found

  answered : answers a.drive r a ≡ true
  answered =
      rw (eq-eqb a.command.nonce r.nonce (sym x.answers.nonce), eq-eqb a.drive a.drive refl) refl

  message_is : step s chosen (Hears x.answers.now (FromDrive a.drive) (Replies r)) ≡ on_drive_reply s chosen a.drive r
  unfolding on_message
  message_is = rw x.answers.room refl

  -- what the file does whose job awaits the command
  goes_so : (y : File) (j : Job) (b : Awaited) (h : Going) → y ≡ f → b ≡ a → In b j.awaited
      → h ≡ hears (at_file s chosen y) j b r (hearing y.kept b r) → (h.file.kept.number ≡ n) × IsRenewed h.file
  goes_so y j b h is its awaits goes = (
    ap (λ (g : Going). g.file.kept.number) again ∙ ap (λ (z : File). z.kept.number) is ∙ number_at s.files n f found,
    record {
      format = ap (λ (g : Going). g.file.kept.format) again;
      again =
          subst (λ (c : Awaited). In (again_in_2 c s.next_nonce) (awaited_by h.file.job)) its
          (subst (λ (g : Going). In (again_in_2 b s.next_nonce) (awaited_by g.file.job)) (sym again) stands);
    },
  )
    where
      old : hearing y.kept b r ≡ Older
      old =
          subst (λ (z : File). hearing z.kept b r ≡ Older) (sym is)
          (subst (λ (c : Awaited). hearing f.kept c r ≡ Older) (sym its) x.old)

      again : h ≡ hears (at_file s chosen y) j b r Older
      again = goes ∙ ap (hears (at_file s chosen y) j b r) old

      stands : In (again_in_2 b s.next_nonce) (map (renewed b (again_in_2 b s.next_nonce)) j.awaited)
      stands =
          subst (λ (t : Bool). In (if t then again_in_2 b s.next_nonce else b)
          (map (renewed b (again_in_2 b s.next_nonce)) j.awaited)) (eq-eqb b.command.nonce b.command.nonce refl)
          (in_map (renewed b (again_in_2 b s.next_nonce)) b j.awaited awaits)

  heard_so : (o : Option Going) → heard_at s chosen a.drive r s.files ≡ o → (g : File)
      → file_at (by_heard s o).state.files n ≡ Some g → IsRenewed g
  heard_so None is g behind = absurd (none_heard s chosen a.drive r s.files is f there a x.there answered)
  heard_so (Some h) is g behind =
      let k = some_heard s chosen a.drive r s.files (λ y l. l) h is in
      let awaits : In k.awaited (awaited_by k.file.job) =
      subst (λ (o : Option Job). In k.awaited (awaited_by o)) (sym k.runs) k.awaits in
      let nonce : k.awaited.command.nonce ≡ a.command.nonce = its_nonce a.drive r k.awaited k.own ∙ x.answers.nonce in
      let did = goes_so k.file k.job k.awaited h
      (one k.file f k.there there (parted k.file f k.there there k.awaited a awaits x.there nonce))
      (alone k.awaited a (k.file, k.there, awaits) (f, there, x.there) nonce) k.awaits k.goes in
      subst IsRenewed (sym (its g h.file (sym behind ∙ placed h did.0))) did.1
    where
      its : (y z : File) → Some y ≡ Some z → y ≡ z
      its y z e = cc e

      placed : (h : Going) → h.file.kept.number ≡ n
          → file_at (put_file s.files h.file.kept.number h.file) n ≡ Some h.file
      placed h number =
          subst (λ (m : ℕ). file_at (put_file s.files m h.file) n ≡ Some h.file) (sym number)
          (put s.files n h.file f number found).0

  pub renewed_so : (g : File) → file_at (step s chosen i).state.files n ≡ Some g → IsRenewed g
  unfolding on_drive_reply
  renewed_so g behind =
      heard_so (heard_at s chosen a.drive r s.files) refl g
      (sym (ap (λ (y : Input). file_at (step s chosen y).state.files n) x.answers.comes
      ∙ ap (λ (t : Step). file_at t.state.files n) message_is) ∙ behind)
