-- What a step sends tells the drives that a placer named.
use Rattle.std.proofs.Common.{◌≡◌, ℕ, ◌+◌, ◌==◌, ◌∷◌, [], List, ◌++◌, Bool, true, false, nat_lt, Option, Some, None, map, filter, refl, sym, ap, subst, ◌∙◌, if◌then◌else◌}
use Rattle.osd_capability.specs.Layout.{is_format}
use Rattle.osd_commands.specs.Commands.{reading, spelling}
use Rattle.scenario_text.specs.declared.names.TheConstants.{DRIVES}
use Rattle.world_history.specs.ServerNames.{Server, Kept, File, Drive, Effects, Grant, Awaited, Outgoing, ToDrive, Recalls, Answers, AnswersOrder}
use Rattle.server_rules.specs.Commands.{sealed}
use Rattle.server_rules.specs.Going.{Going}
use Rattle.server_rules.specs.Answers.{recalls_from}
use Rattle.server_rules.specs.Files.{Step, file_at, put_file, add_file, to_drive, to_drives, step_at}
use Rattle.world_history.specs.Handed.{Post, is_addressed, server_post}
use Rattle.world_history.specs.Moves.{knows_drive}
use Rattle.world_history.specs.Sending.{sent_line, sent_lines}
use Rattle.world_history.specs.Book.{created_by, created_in, placed_in}
use Rattle.history_law.specs.Placed.{HaveFormats, IsReadable, placed_by}
use Rattle.history_law.proofs.Creating.{place}
use Rattle.history_law.proofs.Placing.{placed_of}
use Rattle.history_law.proofs.Served.{Ends}

-- ---- what lines tell of what is sent

abbrev posts : List Outgoing → List Post
posts os = filter is_addressed (map server_post os)

-- of commands
pub placed_sent : (ds : List Drive) (cs : List Awaited) (n : ℕ) → placed_by n (to_drives ds cs) ≡ placed_of ds cs
unfolding sent_lines place
placed_sent ds [] n = refl
placed_sent ds (a ∷ cs) n = either (nat_lt a.drive DRIVES) (placed_sent ds cs)
  where
    either : (b : Bool) → ((k : ℕ) → placed_by k (to_drives ds cs) ≡ placed_of ds cs)
        → placed_in (sent_lines n
        (if b then server_post (to_drive ds a) ∷ posts (to_drives ds cs) else posts (to_drives ds cs)))
        ≡ (if b then created_by a.drive (reading (spelling (sealed ds a))) else []) ++ placed_of ds cs
    either true rest = ap (λ (ns : List ℕ). created_by a.drive (reading (spelling (sealed ds a))) ++ ns) (rest (n + 1))
    either false rest = rest n

-- these go to no drive
abbrev pub ToOthers : List Outgoing → Type 0
ToOthers [] = Unit {0}
ToOthers (ToDrive d c ∷ os) = ⊥
ToOthers (o ∷ os) = ToOthers os

-- nothing is told of such a message, whether it is sent or not
none_sent : (b : Bool) (p : Post) (os : List Outgoing) → ((n : ℕ) → created_in (sent_line n p.message) ≡ [])
    → ((n : ℕ) → placed_by n os ≡ []) → (n : ℕ) → placed_in (sent_lines n (if b then p ∷ posts os else posts os)) ≡ []
unfolding sent_lines
none_sent true p os none h n = ap (λ (ns : List ℕ). ns ++ placed_by (n + 1) os) (none n) ∙ h (n + 1)
none_sent false p os none h n = h n

placed_others : (os : List Outgoing) → ToOthers os → (n : ℕ) → placed_by n os ≡ []
unfolding sent_lines
placed_others [] h n = refl
placed_others (ToDrive d c ∷ os) h n = absurd h
placed_others (Recalls r ∷ os) h n =
    none_sent (is_addressed (server_post (Recalls r))) (server_post (Recalls r)) os (λ k. refl) (placed_others os h) n
placed_others (Answers a ∷ os) h n =
    none_sent (is_addressed (server_post (Answers a))) (server_post (Answers a)) os (λ k. refl) (placed_others os h) n
placed_others (AnswersOrder a ∷ os) h n =
    none_sent (is_addressed (server_post (AnswersOrder a))) (server_post (AnswersOrder a)) os (λ k. refl)
    (placed_others os h) n

-- and behind others they add nothing
pub placed_more : (os ends : List Outgoing) → ToOthers ends → (n : ℕ) → placed_by n (os ++ ends) ≡ placed_by n os
unfolding sent_lines
placed_more [] ends h n = placed_others ends h n
placed_more (o ∷ os) ends h n = either (is_addressed (server_post o)) (placed_more os ends h)
  where
    either : (b : Bool) → ((k : ℕ) → placed_by k (os ++ ends) ≡ placed_by k os)
        → placed_in (sent_lines n (if b then server_post o ∷ posts (os ++ ends) else posts (os ++ ends)))
        ≡ placed_in (sent_lines n (if b then server_post o ∷ posts os else posts os))
    either true rest = ap (λ (ns : List ℕ). created_in (sent_line n (server_post o).message) ++ ns) (rest (n + 1))
    either false rest = rest n

pub recalls_to_others : (n : ℕ) (gs : List Grant) (ends : List Outgoing) → ToOthers ends
    → ToOthers (recalls_from n gs ++ ends)
unfolding recalls_from
recalls_to_others n [] ends h = h
recalls_to_others n (g ∷ gs) ends h = recalls_to_others (n + 1) gs ends h

-- ---- a step

-- what is kept of a file
abbrev pub kept_of : Option File → Option Kept
kept_of None = None
kept_of (Some f) = Some f.kept

-- and of each file
abbrev pub all_kept : List File → List Kept
all_kept fs = map (λ f. f.kept) fs

-- With the drives of the CREATEs that a step sends it is the same step, and with any drives it keeps the same of each file
-- that was there, and ends the same repairs. What it leaves can be told and read, and it knows the same drives.
pub record IsPlaced (s : Server) (t : Step) (f : List ℕ → Step) : Type 0 where
  pub same : (n : ℕ) → f (placed_by n t.sends) ≡ t
  pub keeps : (x : List ℕ) (n : ℕ) (y : File) → file_at s.files n ≡ Some y
      → kept_of (file_at (f x).state.files n) ≡ kept_of (file_at t.state.files n)
  pub mends : (x : List ℕ) → (f x).mended ≡ t.mended
  pub readable : IsReadable t.state
  pub knows : (d : ℕ) → knows_drive t.state d ≡ knows_drive s d

pub placed_always : (s : Server) (t : Step) → IsReadable t.state → ((d : ℕ) → knows_drive t.state d ≡ knows_drive s d)
    → IsPlaced s t (λ x. t)
placed_always s t r knows = record {
  same = λ n. refl;
  keeps = λ x n y at. refl;
  mends = λ x. refl;
  readable = r;
  knows = knows;
}

pub placed_either : (b : Bool) (s : Server) (t u : Step) (f k : List ℕ → Step) → IsPlaced s t f → IsPlaced s u k
    → IsPlaced s (if b then t else u) (λ x. if b then f x else k x)
placed_either true s t u f k p q = p
placed_either false s t u f k p q = q

-- ---- formats of files

pub format_at : (fs : List File) (n : ℕ) (f : File) → HaveFormats fs → file_at fs n ≡ Some f
    → is_format f.kept.format ≡ true
unfolding file_at
format_at [] n f h e = absurd (cc e)
format_at (x ∷ fs) n f h e = either (x.kept.number == n) e (format_at fs n f h.1)
  where
    same : Some x ≡ Some f → x ≡ f
    same s = cc s

    either : (b : Bool) → (if b then Some x else file_at fs n) ≡ Some f
        → (file_at fs n ≡ Some f → is_format f.kept.format ≡ true) → is_format f.kept.format ≡ true
    either true s rest = subst (λ (y : File). is_format y.kept.format ≡ true) (same s) h.0
    either false s rest = rest s

pub formats_put : (fs : List File) (n : ℕ) (g : File) → HaveFormats fs → is_format g.kept.format ≡ true
    → HaveFormats (put_file fs n g)
unfolding put_file
formats_put [] n g h e = tt
formats_put (x ∷ fs) n g h e = either (x.kept.number == n) (formats_put fs n g h.1 e)
  where
    either : (b : Bool) → HaveFormats (put_file fs n g) → HaveFormats (if b then g ∷ fs else x ∷ put_file fs n g)
    either true rest = (e, h.1)
    either false rest = (h.0, rest)

pub formats_add : (fs : List File) (g : File) → HaveFormats fs → is_format g.kept.format ≡ true
    → HaveFormats (add_file fs g)
unfolding add_file
formats_add [] g h e = (e, tt)
formats_add (x ∷ fs) g h e = either (nat_lt x.kept.number g.kept.number) (formats_add fs g h.1 e)
  where
    either : (b : Bool) → HaveFormats (add_file fs g) → HaveFormats (if b then x ∷ add_file fs g else g ∷ x ∷ fs)
    either true rest = (h.0, rest)
    either false rest = (e, h)

-- ---- what is kept of files

abbrev kept_among : List Kept → (number : ℕ) → Option Kept
kept_among [] n = None
kept_among (k ∷ ks) n = if k.number == n then Some k else kept_among ks n

found_kept : (fs : List File) (n : ℕ) → kept_of (file_at fs n) ≡ kept_among (all_kept fs) n
unfolding file_at
found_kept [] n = refl
found_kept (f ∷ fs) n = either (f.kept.number == n) (found_kept fs n)
  where
    either : (b : Bool) → kept_of (file_at fs n) ≡ kept_among (all_kept fs) n
        → kept_of (if b then Some f else file_at fs n) ≡ (if b then Some f.kept else kept_among (all_kept fs) n)
    either true rest = refl
    either false rest = rest

-- where the same is kept of all, so it is of the file of each number
pub kept_alike : (fs gs : List File) (n : ℕ) → all_kept fs ≡ all_kept gs
    → kept_of (file_at fs n) ≡ kept_of (file_at gs n)
kept_alike fs gs n e = found_kept fs n ∙ ap (λ (ks : List Kept). kept_among ks n) e ∙ sym (found_kept gs n)

pub put_alike : (fs : List File) (n : ℕ) (g h : File) → g.kept ≡ h.kept
    → all_kept (put_file fs n g) ≡ all_kept (put_file fs n h)
unfolding put_file
put_alike [] n g h e = refl
put_alike (f ∷ fs) n g h e = either (f.kept.number == n) (put_alike fs n g h e)
  where
    either : (b : Bool) → all_kept (put_file fs n g) ≡ all_kept (put_file fs n h)
        → all_kept (if b then g ∷ fs else f ∷ put_file fs n g) ≡ all_kept (if b then h ∷ fs else f ∷ put_file fs n h)
    either true rest = ap (λ (k : Kept). k ∷ all_kept fs) e
    either false rest = ap (λ (ks : List Kept). f.kept ∷ ks) rest

-- ---- a step at a file

pub step_placed : (s : Server) (number : ℕ) (h : Going) (f : List ℕ → Going) → IsReadable s → Ends s.drives [] h f
    → IsPlaced s (step_at s number h) (λ x. step_at s number (f x))
step_placed s number h f r e = record {
  same = λ n. ap (λ (ns : List ℕ). step_at s number (f ns))
      (placed_sent s.drives h.effects.sent n ∙ ap (placed_of s.drives) e.sends)
      ∙ ap (step_at s number) e.same;
  keeps = λ x n y at. kept_alike _ _ n (put_alike s.files number (f x).file h.file (e.alike x).kept);
  mends = λ x. ap (λ (m : Effects). m.mended) (e.alike x).effects;
  readable = record {
    drives = r.drives;
    format = r.format;
    files = formats_put s.files number h.file r.files e.format;
  };
  knows = λ d. refl;
}
