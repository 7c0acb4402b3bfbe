-- What making files leaves of a server: its drives, and that there is no file of any other number.
use Rattle.std.proofs.Common.{◌≡◌, ◌∙◌, ℕ, zero, suc, Bool, true, false, List, [], ◌∷◌, ◌==◌, Option, Some, None, Ok, refl, sym, ap, subst, inl, inr, arith}
use Rattle.std.proofs.lemmas.Bool.{cases_Bool, or_parts}
use Rattle.std.proofs.lemmas.Bool.Decides.{nat_tests}
use Rattle.std.specs.Prelude.{◌||◌, nat_eq, nat_lt}
use Rattle.std.specs.List.{list_any}
use Rattle.osd_lists.specs.declared.node.Node.{Node}
use Rattle.osd_lists.specs.declared.node.Node.TheVariants.{Server as TheServer, Drive, Client}
use Rattle.data_map.specs.declared.check.RawMap.{RawMap}
use Rattle.cluster_text.specs.declared.cluster.ClusterFile.{ClusterFile}
use Rattle.server_rules.specs.declared.files.File.{File}
use Rattle.server_rules.specs.declared.jobs.Awaited.{Awaited}
use Rattle.server_rules.specs.declared.jobs.JobKind.TheVariants.{Making}
use Rattle.server_rules.specs.declared.jobs.Work.TheVariants.{Creates}
use Rattle.server_rules.specs.declared.server.Refusal.{Refusal}
use Rattle.server_rules.specs.declared.server.Server.{Server}
use Rattle.server_rules.specs.Files.{Step, add_file, at_file, file_at, put_file}
use Rattle.server_rules.specs.Going.{Going, rests_or}
use Rattle.server_rules.specs.Jobs.{is_made, making}
use Rattle.server_rules.specs.Making.{create_file, makes_file, places, refusal, unless_refused, unmade, with_file}
use Rattle.server_rules.specs.Messages.{Message, Asks, Replies, Orders, by_heard, counters_have_room, handled, heard_at, on_drive_reply, on_message}
use Rattle.server_rules.specs.Envelopes.{message_in, on_message_in}
use Rattle.server_requests.specs.declared.outgoing.Sent.{Sent}
use Rattle.server_command.specs.Messages.{Hears, InTurn, Rounds, Serving}
use Rattle.server_command.specs.declared.files.TheConstants.{FIRST_TAG}
use Rattle.server_command.specs.Files.{Begins, Makes, MakesFile, MakesTo}

-- ---- the list of files

none_behind : (h : File) (hs : List File) (n : ℕ) → file_at (h ∷ hs) n ≡ None →
    ((h.kept.number == n) ≡ false) × (file_at hs n ≡ None)
unfolding file_at
none_behind h hs n e = elim (cases_Bool (h.kept.number == n)) [
  | inl t ↦ absurd (cc (rw t at e))
  | inr z ↦ (z, rw z at e)
]

put_none : (fs : List File) (m : ℕ) (f : File) (n : ℕ) → f.kept.number ≡ m → file_at fs n ≡ None →
    file_at (put_file fs m f) n ≡ None
unfolding file_at put_file
put_none [] m f n k e = refl
put_none (h ∷ hs) m f n k e =
    let b = none_behind h hs n e in elim (cases_Bool (h.kept.number == m)) [
      | inl t ↦ grind (arith, nat_tests, t, b.0, b.1, k)
      | inr z ↦ grind (arith, nat_tests, z, b.0, put_none hs m f n k b.1)
    ]

add_none : (fs : List File) (f : File) (n : ℕ) → (f.kept.number == n) ≡ false → file_at fs n ≡ None →
    file_at (add_file fs f) n ≡ None
unfolding file_at add_file
add_none [] f n k e = rw k refl
add_none (h ∷ hs) f n k e =
    let b = none_behind h hs n e in elim (cases_Bool (nat_lt h.kept.number f.kept.number)) [
      | inl t ↦ rw (t, b.0) (add_none hs f n k b.1)
      | inr z ↦ rw (z, k, b.0) b.1
    ]

-- ---- a reply

-- the drives stay, and there is no file more
pub record Keeps (s t : Server) : Type 0 where
  pub drives : t.drives ≡ s.drives
  pub none : (n : ℕ) → file_at s.files n ≡ None → file_at t.files n ≡ None

same_keeps : (s t : Server) → t ≡ s → Keeps s t
same_keeps s t e = subst (λ (x : Server). Keeps s x) (sym e) (record { drives = refl; none = λ n h. h })

then_keeps : (s u t : Server) → Keeps s u → Keeps u t → Keeps s t
then_keeps s u t a b = record { drives = b.drives ∙ a.drives; none = λ n h. b.none n (a.none n h) }

heard_keeps : (s : Server) (o : Option Going) → Keeps s (by_heard s o).state
heard_keeps s None = same_keeps s s refl
heard_keeps s (Some g) = record { drives = refl; none = λ n h. put_none s.files g.file.kept.number g.file n refl h }

handled_keeps : (s : Server) (now : ℕ) (chosen : List ℕ) (drive : ℕ) (m : Message) →
    Keeps s (handled s now chosen (Drive drive) m).state
unfolding on_drive_reply
handled_keeps s now chosen drive (Asks q) = same_keeps s s refl
handled_keeps s now chosen drive (Replies r) = heard_keeps s (heard_at s chosen drive r s.files)
handled_keeps s now chosen drive (Orders o) = same_keeps s s refl

message_keeps : (s : Server) (now : ℕ) (chosen : List ℕ) (drive : ℕ) (o : Option Message) →
    Keeps s (on_message_in s now chosen (Drive drive) o).state
unfolding on_message
message_keeps s now chosen drive None = same_keeps s s refl
message_keeps s now chosen drive (Some m) = elim (cases_Bool (counters_have_room s)) [
  | inl t ↦ rw t (handled_keeps s now chosen drive m)
  | inr z ↦ rw z (same_keeps s s refl)
]

-- ---- commands

hears_keeps : (drive : ℕ) (came : Option (List ℕ)) (s t : Serving) → Hears drive came s t → Keeps s.server t.server
hears_keeps drive None s t e = same_keeps s.server t.server (ap (λ (x : Serving). x.server) e)
hears_keeps drive (Some bytes) s t h =
    subst (λ (x : Server). Keeps s.server x) (sym h.server)
    (message_keeps s.server h.time h.chosen drive (message_in (Drive drive) bytes))

to_keeps : (to : Node) (message : List ℕ) (s t : Serving) → MakesTo to message s t → Keeps s.server t.server
to_keeps (Drive d) message s t h = hears_keeps d (h.0).came (record s { ends = (h.0).between }) t (h.0).hears
to_keeps TheServer message s t e = same_keeps s.server t.server (ap (λ (x : Serving). x.server) e)
to_keeps (Client c) message s t e = same_keeps s.server t.server (ap (λ (x : Serving). x.server) e)

turn_keeps : (ms : List Sent) (s t : Serving) → InTurn Makes ms s t → Keeps s.server t.server
turn_keeps [] s t e = same_keeps s.server t.server (ap (λ (x : Serving). x.server) e)
turn_keeps (m ∷ ms) s t h = then_keeps s.server (h.0).server t.server (to_keeps m.to m.bytes s h.0 h.1) (turn_keeps ms h.0 t h.2)

rounds_keep : (rounds : ℕ) (s t : Serving) → Rounds Makes rounds s t → Keeps s.server t.server
rounds_keep zero s t e = same_keeps s.server t.server (ap (λ (x : Serving). x.server) e)
rounds_keep (suc n) s t h =
    then_keeps s.server (h.0).server t.server (rounds_keep n s h.0 h.1)
    (turn_keeps (h.0).waiting (record (h.0) { waiting = [] }) t h.2)

-- ---- a file

-- the drives stay, and there is no file more but one of this number
pub record KeepsBut (number : ℕ) (s t : Server) : Type 0 where
  pub drives : t.drives ≡ s.drives
  pub none : (n : ℕ) → (number == n) ≡ false → file_at s.files n ≡ None → file_at t.files n ≡ None

making_number : (cs : List Awaited) (g : Going) → (rests_or cs g Making Creates (is_made g)).file.kept.number ≡ g.file.kept.number
making_number [] g = refl
making_number (c ∷ cs) g = refl

makes_keeps : (s : Server) (f : File) → KeepsBut f.kept.number s (makes_file s f).state
unfolding making
makes_keeps s f = record {
  drives = refl;
  none = λ n z h. put_none (add_file s.files f) f.kept.number (making (at_file (with_file s f) [] f)).file n
      (making_number _ (at_file (with_file s f) [] f)) (add_none s.files f n z h);
}

unrefused : (o : Option Refusal) (made step : Step) → unless_refused o made ≡ Ok step → made ≡ step
unrefused None made step e = cc e
unrefused (Some r) made step e = absurd (cc e)

created_keeps : (s : Server) (number : ℕ) (map : RawMap) (tag : ℕ) (chosen : List ℕ) (step : Step) →
    create_file s number map tag false chosen ≡ Ok step
    → KeepsBut number s step.state
unfolding create_file
created_keeps s number map tag chosen step e =
    let f : File = unmade s number map tag false (places s.drives map.comps chosen) in
    subst (λ (x : Step). KeepsBut number s x.state) (unrefused (refusal s number map false) (makes_file s f) step e)
    (makes_keeps s f)

file_keeps : (file : ClusterFile) (s t : Serving) → MakesFile file s t → KeepsBut file.number s.server t.server
file_keeps file s t h =
    let b : Begins file s h.0 = h.1 in
    let begun = created_keeps s.server file.number file.map FIRST_TAG b.chosen b.step b.is in
    let same : b.step.state ≡ (h.0).server = sym (ap (λ (x : Serving). x.server) b.begun) in
    let rest = rounds_keep (h.2).0 h.0 t (h.2).1 in
    record {
      drives = rest.drives ∙ (ap (λ (x : Server). x.drives) (sym same) ∙ begun.drives);
      none = λ n z k. rest.none n (subst (λ (x : Server). file_at x.files n ≡ None) same (begun.none n z k));
    }

-- ---- files

abbrev pub has_file : List ClusterFile → (number : ℕ) → Bool
has_file files number = list_any (λ f. nat_eq f.number number) files

-- the drives stay, and there is no file more but those of these numbers
pub record KeepsBesides (files : List ClusterFile) (s t : Server) : Type 0 where
  pub drives : t.drives ≡ s.drives
  pub none : (n : ℕ) → has_file files n ≡ false → file_at s.files n ≡ None → file_at t.files n ≡ None

pub files_keep : (files : List ClusterFile) (s t : Serving) → InTurn MakesFile files s t → KeepsBesides files s.server t.server
files_keep [] s t e =
    let same = same_keeps s.server t.server (ap (λ (x : Serving). x.server) e) in
    record { drives = same.drives; none = λ n z k. same.none n k }
files_keep (f ∷ fs) s t h =
    let first = file_keeps f s h.0 h.1 in
    let rest = files_keep fs h.0 t h.2 in
    record {
      drives = rest.drives ∙ first.drives;
      none = λ n z k. let b = or_parts (nat_eq f.number n) (has_file fs n) z in rest.none n b.1 (first.none n b.0 k);
    }
