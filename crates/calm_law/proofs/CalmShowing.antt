-- Files behind a step.
use Rattle.std.proofs.Common.{◌≡◌, ◌⊎◌, ℕ, ◌==◌, ◌&&◌, ◌∷◌, [], List, true, false, Option, Some, None, is_some, map, refl, sym, ap, subst, ◌∙◌, inl, inr, eq-eqb, ne_eqb}
use Rattle.std.specs.List.{fold, list_any}
use Rattle.std.proofs.lemmas.Bool.{cases_Bool, cases_eq, and_parts}
use Rattle.osd_objects.proofs.Entries.{is_at_other, lookup_inserted, lookup_beside, some_there}
use Rattle.osd_commands.specs.declared.commands.Command.{Command}
use Rattle.osd_commands.specs.Commands.{reading}
use Rattle.scenario_text.specs.declared.event.Event.{Event}
use Rattle.scenario_text.specs.declared.event.Event.TheVariants as event
use Rattle.scenario_text.specs.declared.line.Party.{Party}
use Rattle.scenario_text.specs.declared.line.Party.TheVariants as party
use Rattle.scenario_text.specs.declared.line.Ending.TheVariants as ending
use Rattle.scenario_text.specs.declared.line.Outcome.{Outcome}
use Rattle.scenario_text.specs.declared.line.Outcome.TheVariants as outcome
use Rattle.scenario_text.specs.declared.line.Refusal.{Refusal}
use Rattle.scenario_text.specs.declared.line.Refusal.TheVariants as refusal
use Rattle.scenario_text.specs.declared.line.Note.TheVariants as note
use Rattle.scenario_text.specs.declared.line.Line.{Line}
use Rattle.scenario_text.specs.declared.line.Line.TheVariants as line
use Rattle.server_rules.specs.Files.{file_at}
use Rattle.server_rules.specs.Numbers.{among}
use Rattle.server_rules.proofs.FileLaws.{number_at}
use Rattle.world_history.specs.ServerNames.{File, Kept}
use Rattle.world_history.specs.State.{at_number}
use Rattle.world_calm.specs.Read.{command_of}
use Rattle.world_calm.specs.Log.{write_by}
use Rattle.world_calm.specs.declared.files.SeenFile.{SeenFile}
use Rattle.world_calm.specs.Files.{FilesState, Table, no_files, seen_as}
use Rattle.world_calm.specs.Seeing.{CalmState, KeptOf, logs, logs_event, refused, acknowledged, ended, sent_by, sent, shown_with, shows, shows_all, follows}
use Rattle.component_law.proofs.Lists.{sorted_inserted}
use Rattle.component_law.specs.Words.{IsSorted, is_there}
use Rattle.calm_law.specs.Words.{seen_in, kept_in, IsKeptOf}
use Rattle.calm_law.specs.Files.{KeepsFiles, StepsAlike}
use Rattle.component_law.specs.ShownFiles.{shows_file}

-- ---- ---- the log leaves the files

event_files : (c : CalmState) (e : Event) → (logs_event c e).files ≡ c.files
event_files c (event.Do k x) = refl
event_files c (event.Call k x) = refl
event_files c e = refl

refused_files : (c : CalmState) (k : ℕ) (r : Refusal) → (refused c k r).files ≡ c.files
refused_files c k refusal.Busy = refl
refused_files c k r = refl

acknowledged_files : (c : CalmState) (o : Option ℕ) → (acknowledged c o).files ≡ c.files
acknowledged_files c None = refl
acknowledged_files c (Some n) = refl

ended_files : (c : CalmState) (k : ℕ) (o : Outcome) → (ended c k o).files ≡ c.files
ended_files c k (outcome.WriteOk n) = acknowledged_files c (write_by c.log k)
ended_files c k (outcome.Failed kind ending.Pending) = refl
ended_files c k o = refl

sent_by_files : (c : CalmState) (k n : ℕ) (o : Option Command) → (sent_by c k n o).files ≡ c.files
sent_by_files c k n None = refl
sent_by_files c k n (Some x) = refl

sent_files : (c : CalmState) (n : ℕ) (from to : Party) (bytes : List ℕ) → (sent c n from to bytes).files ≡ c.files
sent_files c n (party.Client k) (party.Drive d) bytes = sent_by_files c k n (command_of (reading bytes))
sent_files c n from to bytes = refl

pub logs_files : (c : CalmState) (l : Line) → (logs c l).files ≡ c.files
logs_files c (line.Event e) = event_files c e
logs_files c (line.Refused k r) = refused_files c k r
logs_files c (line.Ended k o) = ended_files c k o
logs_files c (line.Message n from to bytes) = sent_files c n from to bytes
logs_files c l = refl

-- ---- a file is shown

-- what is kept of file n stays, or is that of the files behind the step
abbrev Either : (behind : List File) (t u : FilesState) (n : ℕ) → Type 0
Either behind t u n = (at_number u.files n ≡ at_number t.files n) ⊎ (at_number u.files n ≡ seen_in (file_at behind n))

either_then : (behind : List File) (t u v : FilesState) (n : ℕ) → Either behind t u n → Either behind u v n
    → Either behind t v n
either_then behind t u v n (inl a) (inl b) = inl (b ∙ a)
either_then behind t u v n (inr a) (inl b) = inr (b ∙ a)
either_then behind t u v n a (inr b) = inr b

either_end : (behind : List File) (u v : FilesState) (n : ℕ) → at_number u.files n ≡ seen_in (file_at behind n)
    → Either behind u v n → at_number v.files n ≡ seen_in (file_at behind n)
either_end behind u v n a (inl b) = b ∙ a
either_end behind u v n a (inr b) = b

shown_by : (behind : List File) (t : FilesState) (f n : ℕ) (k : Option Kept) (o : Option File) → file_at behind f ≡ o
    → k ≡ kept_in o → Either behind t (shown_with t k) n
shown_by behind t f n None o e q = inl refl
shown_by behind t f n (Some k) None e q = absurd (cc q)
shown_by behind t f n (Some k) (Some g) e q =
    let same : k ≡ g.kept = cc q in
    let number : k.number ≡ f = ap (λ (x : Kept). x.number) same ∙ number_at behind f g e in
    elim (cases_eq n k.number) [
      | inl i ↦ inr (rw i (lookup_inserted t.files k.number (seen_as k) ∙ ap (λ (x : Kept). Some (seen_as x)) same
          ∙ sym (ap seen_in e) ∙ ap (λ (j : ℕ). seen_in (file_at behind j)) (sym number)))
      | inr o ↦ inl (lookup_beside t.files k.number n (seen_as k) o)
    ]

shown_here : (behind : List File) (t : FilesState) (f : ℕ) (k : Option Kept) (g : File) → file_at behind f ≡ Some g
    → k ≡ kept_in (Some g) → at_number (shown_with t k).files f ≡ seen_in (file_at behind f)
shown_here behind t f None g e q = absurd (cc q)
shown_here behind t f (Some k) g e q =
    let same : k ≡ g.kept = cc q in
    let number : k.number ≡ f = ap (λ (x : Kept). x.number) same ∙ number_at behind f g e in
    ap (λ (j : ℕ). at_number (shown_with t (Some k)).files j) (sym number)
    ∙ lookup_inserted t.files k.number (seen_as k) ∙ ap (λ (x : Kept). Some (seen_as x)) same ∙ sym (ap seen_in e)

may_show : (behind : List File) (kept : KeptOf) → IsKeptOf behind kept → (c : CalmState) (f n : ℕ)
    → Either behind c.files (shows kept c f).files n
may_show behind kept h c f n = shown_by behind c.files f n (kept f) (file_at behind f) refl (h f)

must_show : (behind : List File) (kept : KeptOf) → IsKeptOf behind kept → (c : CalmState) (n : ℕ)
    → is_there behind n ≡ true → at_number (shows kept c n).files.files n ≡ seen_in (file_at behind n)
must_show behind kept h c n t =
    let there : (g : File) × (file_at behind n ≡ Some g) = some_there (file_at behind n) t in
    shown_here behind c.files n (kept n) there.0 there.1 (h n ∙ ap kept_in there.1)

-- ---- all files are shown

may_show_all : (behind : List File) (kept : KeptOf) → IsKeptOf behind kept → (c : CalmState) (ns : List ℕ) (n : ℕ)
    → Either behind c.files (shows_all kept c ns).files n
may_show_all behind kept h c [] n = inl refl
may_show_all behind kept h c (m ∷ ns) n =
    either_then behind c.files (shows kept c m).files (shows_all kept (shows kept c m) ns).files n
    (may_show behind kept h c m n) (may_show_all behind kept h (shows kept c m) ns n)

must_show_all : (behind : List File) (kept : KeptOf) → IsKeptOf behind kept → (c : CalmState) (ns : List ℕ) (n : ℕ)
    → is_there behind n ≡ true → among n ns ≡ true
    → at_number (shows_all kept c ns).files.files n ≡ seen_in (file_at behind n)
unfolding among
must_show_all behind kept h c [] n t a = absurd (cc a)
must_show_all behind kept h c (m ∷ ns) n t a = elim (cases_eq n m) [
  | inl i ↦ either_end behind (shows kept c m).files (shows_all kept (shows kept c m) ns).files n
      (rw i (must_show behind kept h c m (rw i at t))) (may_show_all behind kept h (shows kept c m) ns n)
  | inr o ↦ must_show_all behind kept h (shows kept c m) ns n t (rw (ne_eqb n m o) at a)
]

among_keys : (es : Table) (n : ℕ) → is_some (at_number es n) ≡ true → among n (map (λ (e : ℕ × SeenFile). e.0) es) ≡ true
unfolding among
among_keys [] n h = absurd (cc h)
among_keys (e ∷ es) n h = elim (cases_eq n e.0) [
  | inl i ↦ rw (eq-eqb n e.0 i) refl
  | inr o ↦ rw (ne_eqb n e.0 o) (among_keys es n (rw (is_at_other n e.0 o) at h))
]

-- ---- a line

may_line : (behind : List File) (kept : KeptOf) → IsKeptOf behind kept → (c : CalmState) (l : Line) (n : ℕ)
    → Either behind c.files (follows kept c l).files n
may_line behind kept h c (line.Event (event.File f m tag)) n = may_show behind kept h c f n
may_line behind kept h c (line.Event (event.ZonedFile f m tag)) n = may_show behind kept h c f n
may_line behind kept h c (line.Event (event.Declare d)) n =
    may_show_all behind kept h c (map (λ (e : ℕ × SeenFile). e.0) c.files.files) n
may_line behind kept h c (line.Note f (note.Rebuilt k d)) n = may_show behind kept h c f n
may_line behind kept h c l n = inl (ap (λ (t : FilesState). at_number t.files n) (logs_files c l))

here : (behind : List File) (kept : KeptOf) → IsKeptOf behind kept → (c : CalmState) (f n : ℕ)
    → ((f == n) && is_there behind n) ≡ true → at_number (shows kept c f).files.files n ≡ seen_in (file_at behind n)
here behind kept h c f n t =
    let b : ((f == n) ≡ true) × (is_there behind n ≡ true) = and_parts (f == n) (is_there behind n) t in
    elim (cases_eq f n) [
      | inl i ↦ rw i (must_show behind kept h c n b.1)
      | inr o ↦ absurd (cc (rw (ne_eqb f n o) at b.0))
    ]

must_line : (behind : List File) (kept : KeptOf) → IsKeptOf behind kept → (c : CalmState) (l : Line) (n : ℕ)
    (x : Option SeenFile) → at_number c.files.files n ≡ x → shows_file (is_some x) behind n l ≡ true
    → at_number (follows kept c l).files.files n ≡ seen_in (file_at behind n)
must_line behind kept h c (line.Event (event.File f m tag)) n x e t = here behind kept h c f n t
must_line behind kept h c (line.Event (event.ZonedFile f m tag)) n x e t = here behind kept h c f n t
must_line behind kept h c (line.Event (event.Declare d)) n x e t =
    let b : (is_some x ≡ true) × (is_there behind n ≡ true) = and_parts (is_some x) (is_there behind n) t in
    must_show_all behind kept h c (map (λ (e : ℕ × SeenFile). e.0) c.files.files) n b.1
    (among_keys c.files.files n (ap (λ (o : Option SeenFile). is_some o) e ∙ b.0))
must_line behind kept h c (line.Note f (note.Rebuilt k d)) n x e t = here behind kept h c f n t
must_line behind kept h c l n x e t = absurd (cc t)

-- ---- all lines

-- file n is as it is behind the step, or as it was, and then these lines show it or it stays so
abbrev Coming : (behind : List File) (t : FilesState) (lines : List Line) (n : ℕ) (x : Option SeenFile) → Type 0
Coming behind t lines n x =
    (at_number t.files n ≡ seen_in (file_at behind n))
    ⊎ ((at_number t.files n ≡ x)
    × (list_any (shows_file (is_some x) behind n) lines ≡ false → seen_in (file_at behind n) ≡ x))

come : (behind : List File) (kept : KeptOf) → IsKeptOf behind kept → (c : CalmState) (lines : List Line) (n : ℕ)
    (x : Option SeenFile) → Coming behind c.files lines n x
    → at_number (fold (follows kept) c lines).files.files n ≡ seen_in (file_at behind n)
come behind kept h c [] n x (inl a) = a
come behind kept h c [] n x (inr b) = b.0 ∙ sym (b.1 refl)
come behind kept h c (l ∷ ls) n x (inl a) =
    come behind kept h (follows kept c l) ls n x
    (inl (either_end behind c.files (follows kept c l).files n a (may_line behind kept h c l n)))
come behind kept h c (l ∷ ls) n x (inr b) = elim (cases_Bool (shows_file (is_some x) behind n l)) [
  | inl t ↦ come behind kept h (follows kept c l) ls n x (inl (must_line behind kept h c l n x b.0 t))
  | inr f ↦ come behind kept h (follows kept c l) ls n x (elim (may_line behind kept h c l n) [
    | inl s ↦ inr (s ∙ b.0, λ z. b.1 (rw (f, z) refl))
    | inr s ↦ inl s
  ])
]

-- they stand by rising numbers

sorted_shown : (t : FilesState) (k : Option Kept) → IsSorted t.files → IsSorted (shown_with t k).files
sorted_shown t None h = h
sorted_shown t (Some k) h = sorted_inserted t.files k.number (seen_as k) h

sorted_all : (kept : KeptOf) (c : CalmState) (ns : List ℕ) → IsSorted c.files.files
    → IsSorted (shows_all kept c ns).files.files
sorted_all kept c [] h = h
sorted_all kept c (n ∷ ns) h = sorted_all kept (shows kept c n) ns (sorted_shown c.files (kept n) h)

sorted_line : (kept : KeptOf) (c : CalmState) (l : Line) → IsSorted c.files.files
    → IsSorted (follows kept c l).files.files
sorted_line kept c (line.Event (event.File f m tag)) h = sorted_shown c.files (kept f) h
sorted_line kept c (line.Event (event.ZonedFile f m tag)) h = sorted_shown c.files (kept f) h
sorted_line kept c (line.Event (event.Declare d)) h =
    sorted_all kept c (map (λ (e : ℕ × SeenFile). e.0) c.files.files) h
sorted_line kept c (line.Note f (note.Rebuilt k d)) h = sorted_shown c.files (kept f) h
sorted_line kept c l h = subst (λ (t : FilesState). IsSorted t.files) (sym (logs_files c l)) h

sorted_stay : (kept : KeptOf) (c : CalmState) (lines : List Line) → IsSorted c.files.files
    → IsSorted (fold (follows kept) c lines).files.files
sorted_stay kept c [] h = h
sorted_stay kept c (l ∷ ls) h = sorted_stay kept (follows kept c l) ls (sorted_line kept c l h)

none_there : (o : Option File) → is_some o ≡ false → seen_in o ≡ None
none_there None e = refl
none_there (Some f) e = absurd (cc e)

-- the drives that failed stay

failed_shown : (t : FilesState) (k : Option Kept) → (shown_with t k).failed ≡ t.failed
failed_shown t None = refl
failed_shown t (Some k) = refl

failed_all : (kept : KeptOf) (c : CalmState) (ns : List ℕ) → (shows_all kept c ns).files.failed ≡ c.files.failed
failed_all kept c [] = refl
failed_all kept c (n ∷ ns) = failed_all kept (shows kept c n) ns ∙ failed_shown c.files (kept n)

failed_line : (kept : KeptOf) (c : CalmState) (l : Line) → (follows kept c l).files.failed ≡ c.files.failed
failed_line kept c (line.Event (event.File f m tag)) = failed_shown c.files (kept f)
failed_line kept c (line.Event (event.ZonedFile f m tag)) = failed_shown c.files (kept f)
failed_line kept c (line.Event (event.Declare d)) =
    failed_all kept c (map (λ (e : ℕ × SeenFile). e.0) c.files.files)
failed_line kept c (line.Note f (note.Rebuilt k d)) = failed_shown c.files (kept f)
failed_line kept c l = ap (λ (t : FilesState). t.failed) (logs_files c l)

failed_stay : (kept : KeptOf) (c : CalmState) (lines : List Line)
    → (fold (follows kept) c lines).files.failed ≡ c.files.failed
failed_stay kept c [] = refl
failed_stay kept c (l ∷ ls) = failed_stay kept (follows kept c l) ls ∙ failed_line kept c l

pub steps_alike : StepsAlike
steps_alike kept there now behind failed c lines h k t =
    let all : (n : ℕ) → at_number (fold (follows kept) c lines).files.files n ≡ seen_in (file_at behind n) =
    λ n. come behind kept k c lines n (at_number c.files.files n) (inr (refl, t n)) in
    record {
      files = λ n i. all n;
      others = λ n i. all n ∙ none_there (file_at behind n) i;
      failed = λ d. ap (λ (ds : List ℕ). among d ds) (failed_stay kept c lines) ∙ h.failed d;
      sorted = sorted_stay kept c lines h.sorted;
    }

-- ---- before the first line

none_first : (n : ℕ) → is_there [] n ≡ true → at_number no_files.files n ≡ seen_in (file_at [] n)
unfolding file_at
none_first n e = refl

pub first_alike : KeepsFiles [] [] [] no_files
first_alike = record { files = none_first; others = λ n i. refl; failed = λ d. refl; sorted = tt }
