-- While the scenario's drives, clients and file are made few bytes are kept, and no loss is told.
use Rattle.generate_law.proofs.Chosen.{AreGood, apart, are_good, five_taken, taken}
use Rattle.generate_law.proofs.Creates.{asked, known_to, reply_of}
use Rattle.generate_law.proofs.FileMade.{asked_all, hears_last, hears_more, ns, rows_out, step_is}
use Rattle.generate_law.proofs.KeptHears.{NoLoss, both_no_loss, sent_no_loss}
use Rattle.generate_law.proofs.KeptSizes.{command_size, reply_size}
use Rattle.generate_law.proofs.Making.{Hears, Stage, back_row, drive_goes, due_so, heard, job_with, out_row, prompt, server_goes, server_with, told}
use Rattle.generate_law.proofs.Opening.{begun, client_made, clients_to, drive_made, first_stage, sends, step_with, world_with}
use Rattle.generate_law.proofs.Runs.{moved}
use Rattle.generate_law.specs.Kept.{BYTES_A_CALL}
use Rattle.generate_law.specs.Scenario.{makes_drive, makes_file}
use Rattle.scenario_text.specs.declared.event.Event.{Event}
use Rattle.server_rules.specs.Commands.{is_meant, label, sealed, to_each}
use Rattle.server_rules.specs.Files.{Step, add_file, put_file, to_drive, to_drives}
use Rattle.server_rules.specs.Jobs.{goes_on, making}
use Rattle.server_rules.specs.Laws.{In}
use Rattle.server_rules.specs.Making.{add_drive, components_on}
use Rattle.server_rules.specs.Messages.{Replies, on_message}
use Rattle.server_rules.specs.Replies.{others}
use Rattle.std.proofs.Common.{ℕ, Bool, List, None, Option, Some, [], ap, arith, false, filter, inl, inr, length, map, refl, slice_get, slice_set, subst, suc, sym, true, zero, ◌*◌, ◌++◌, ◌+◌, ◌<◌, ◌∙◌, ◌∷◌, ◌≡◌, ◌≤◌}
use Rattle.std.proofs.lemmas.Bool.{cases_Bool}
use Rattle.std.proofs.lemmas.List.Sums.{sum_by-cons}
use Rattle.std.specs.List.{AllByRecursion, filter_map, sum_by}
use Rattle.world_history.specs.Handed.{Post, is_addressed, plain, server_did, server_post}
use Rattle.world_history.specs.Moves.{Act, Action, Delivers, Opens, acted, acts, begins, gives}
use Rattle.world_history.specs.Names.{known_note_line}
use Rattle.world_history.specs.Plans.{Alone, Plan, Rule, due, due_pending, pending_from, plan_of, rule_of, went_on}
use Rattle.world_history.specs.Runs.{AreDue, lines_of, world_after}
use Rattle.world_history.specs.Sending.{Move, cost, move, sends_all, sent_lines}
use Rattle.world_history.specs.ServerNames.{Awaited, Heard, Job, Note, Outgoing}
use Rattle.world_history.specs.State.{ClientAt, World}
use Rattle.world_history.specs.declared.messages.Body.TheVariants.{Reply as OfReply}
use Rattle.world_history.specs.declared.messages.Posted.{Posted}
use Rattle.osd_lists.specs.declared.node.Node.TheVariants as node
use Rattle.scenario_text.specs.declared.event.Event.TheVariants as event

-- ---- an event by its moves

-- at each moment of the event few bytes are kept, and its lines so far tell no loss
abbrev pub KeepsFew : World → Event → Type 0
KeepsFew w e =
    (ms : List Move) → AreDue (plan_of w e) w ms
    → ((world_after w ms).network.kept ≤ BYTES_A_CALL) × NoLoss (lines_of w ms)

-- an event after which nothing is due
alone_keeps : (w : World) (e : Event) → rule_of w e ≡ Alone → w.network.kept ≤ BYTES_A_CALL
    → ((chosen : List ℕ) → (moved w (Opens e) chosen).network.kept ≤ BYTES_A_CALL)
    → ((chosen : List ℕ) → NoLoss (move w (record { action = Opens e; chosen = chosen })).lines) → KeepsFew w e
alone_keeps w e rule before behind told [] d = (before, tt)
alone_keeps w e rule before behind told (m ∷ []) d =
    let opens : Opens e ≡ m.action = cc d.0 in (
      subst (λ (a : Action). (move w (record { action = a; chosen = m.chosen })).world.network.kept ≤ BYTES_A_CALL) opens
          (behind m.chosen),
      both_no_loss (move w m).lines [] (subst (λ (a : Action). NoLoss (move w (record { action = a; chosen = m.chosen })).lines) opens
          (told m.chosen)) tt,
    )
alone_keeps w e rule before behind told (m ∷ n ∷ ns) d =
    let opens : Opens e ≡ m.action = cc d.0 in
    let none : due (record { opening = None; rule = Alone }) (move w m).world ≡ Some n.action =
    subst (λ (r : Rule). due (record { opening = None; rule = r }) (move w m).world ≡ Some n.action) rule
    (subst (λ (a : Action). due (went_on (plan_of w e) a) (move w m).world ≡ Some n.action) (sym opens) d.1.0) in
    absurd (cc none)

-- ---- drives and clients

drive_lines : (n : ℕ) → n < 6 → (chosen : List ℕ) → NoLoss (move (world_with n 0) (record { action = Opens (makes_drive n); chosen = chosen })).lines
unfolding begins gives add_drive sent_lines
drive_lines zero l chosen = tt
drive_lines (suc zero) l chosen = tt
drive_lines (suc (suc zero)) l chosen = tt
drive_lines (suc (suc (suc zero))) l chosen = tt
drive_lines (suc (suc (suc (suc zero)))) l chosen = tt
drive_lines (suc (suc (suc (suc (suc zero))))) l chosen = tt
drive_lines (suc (suc (suc (suc (suc (suc n)))))) l chosen = absurd (omega (arith, l))

client_lines : (c : ℕ) → c < 3 → (chosen : List ℕ) → NoLoss (move (world_with 6 c) (record { action = Opens (event.Client c); chosen = chosen })).lines
unfolding begins sent_lines
client_lines zero l chosen = tt
client_lines (suc zero) l chosen = tt
client_lines (suc (suc zero)) l chosen = tt
client_lines (suc (suc (suc c))) l chosen = absurd (omega (arith, l))

nothing_kept : (v w : World) → v ≡ w → w.network.kept ≡ 0 → v.network.kept ≤ BYTES_A_CALL
nothing_kept v w is none =
    let here : v.network.kept ≡ 0 = ap (λ (x : World). x.network.kept) is ∙ none in omega (arith, here)

pub drive_keeps : (n : ℕ) → n < 6 → KeepsFew (world_with n 0) (makes_drive n)
unfolding rule_of
drive_keeps n l =
    alone_keeps (world_with n 0) (makes_drive n) refl (omega arith)
    (λ chosen. nothing_kept _ (world_with (suc n) 0) (drive_made n l chosen) refl) (drive_lines n l)

pub client_keeps : (c : ℕ) → c < 3 → KeepsFew (world_with 6 c) (event.Client c)
unfolding rule_of
client_keeps c l =
    alone_keeps (world_with 6 c) (event.Client c) refl (omega arith)
    (λ chosen. nothing_kept _ (world_with 6 (suc c)) (client_made c l chosen) refl) (client_lines c l)

-- ---- the file's messages, one after another

-- from a world on, as messages are delivered
abbrev KeepsOn : World → Type 0
KeepsOn w =
    (ns : List Move) → AreDue prompt w ns → ((world_after w ns).network.kept ≤ BYTES_A_CALL) × NoLoss (lines_of w ns)

on_by : (w : World) (x : Action) → due prompt w ≡ Some x → went_on prompt x ≡ prompt → w.network.kept ≤ BYTES_A_CALL
    → ((chosen : List ℕ) → NoLoss (move w (record { action = x; chosen = chosen })).lines × KeepsOn (moved w x chosen)) → KeepsOn w
on_by w x first stays few next [] d = (few, tt)
on_by w x first stays few next (m ∷ ns) d =
    let same : x ≡ m.action = cc (sym first ∙ d.0) in
    subst (λ (a : Action). AreDue (went_on prompt a) (move w (record { action = a; chosen = m.chosen })).world ns
    → ((world_after (move w (record { action = a; chosen = m.chosen })).world ns).network.kept ≤ BYTES_A_CALL)
    × NoLoss ((move w (record { action = a; chosen = m.chosen })).lines
    ++ lines_of (move w (record { action = a; chosen = m.chosen })).world ns)) same
    (λ rest.
    let it = next m.chosen in
    let on = it.1 ns (subst (λ (p : Plan). AreDue p (moved w x m.chosen) ns) stays rest) in
    (on.0, both_no_loss (move w (record { action = x; chosen = m.chosen })).lines (lines_of (moved w x m.chosen) ns) it.0 on.1))
    d.1

on_last : (w : World) → due prompt w ≡ None → w.network.kept ≤ BYTES_A_CALL → KeepsOn w
on_last w none few [] d = (few, tt)
on_last w none few (m ∷ ns) d = absurd (cc (sym none ∙ d.0))

-- ---- one CREATE, and its reply

lines_no_loss : (a : Act) → NoLoss a.told → NoLoss (sends_all a).lines
lines_no_loss a t =
    both_no_loss a.told (sent_lines (length a.world.network.messages) a.posts) t
    (sent_no_loss (length a.world.network.messages) a.posts)

module _ (these : List ℕ) (rows : List Posted) (job : Option Job) (ready : Bool) (clients : List (ℕ × ClientAt)) (w : World)
    (n k d : ℕ) (few : k < 5) (low : d < 6) where
  drive_on : (todo : List ℕ) → Stage these rows job ready (d ∷ todo) clients w → ((e : ℕ) → In e todo → e ≡ d → ⊥)
      → pending_from 0 0 rows ≡ Some n → slice_get rows n ≡ Some (out_row k d false) → (b : ℕ) → b + 40 ≤ BYTES_A_CALL
      → w.network.kept ≤ b
      → ((v : World) → Stage these (slice_set rows n (out_row k d true) ++ back_row k d false ∷ []) job ready todo clients v
      → v.network.kept ≤ b + 40 → KeepsOn v) → KeepsOn w
  drive_on todo s other first found b room kept next =
      on_by w (Delivers n) (due_so w rows n s.rows_are first) refl (omega (arith, kept, room))
      (λ chosen.
      let is = heard these rows job ready clients w n k d todo s few low other found chosen in
      let reply : Post = plain (node.Drive d) node.Server (OfReply (reply_of k)) in
      let bytes : (sends_all (acts w chosen (Delivers n))).world.network.kept ≤ b + 40 =
      subst (λ (a : Act). (sends_all a).world.network.kept ≤ b + 40) (sym is)
      (omega (arith, kept, reply_size (reply_of k), sum_by-cons cost reply [])) in
      let quiet_of : NoLoss (acts w chosen (Delivers n)).told = subst (λ (a : Act). NoLoss a.told) (sym is) (tt, tt) in (
        lines_no_loss (acts w chosen (Delivers n)) quiet_of,
        next (moved w (Delivers n) chosen)
            (drive_goes these rows job ready clients w n k d todo s few low other found chosen) bytes,
      ))

  server_on : (todo : List ℕ) → Stage these rows job ready todo clients w → (after : Option Job) (done : Bool)
      → Hears these k d job after ready done
      → ((chosen : List ℕ) → NoLoss (filter_map known_note_line
      (on_message (server_with these job ready) 0 chosen (node.Drive d) (Replies (reply_of k))).notes))
      → pending_from 0 0 rows ≡ Some n → slice_get rows n ≡ Some (back_row k d false) → (b : ℕ) → b ≤ BYTES_A_CALL
      → w.network.kept ≤ b
      → ((v : World) → Stage these (slice_set rows n (back_row k d true)) after done todo clients v → v.network.kept ≤ b
      → KeepsOn v) → KeepsOn w
  server_on todo s after done hears notes first found b room kept next =
      on_by w (Delivers n) (due_so w rows n s.rows_are first) refl (omega (arith, kept, room))
      (λ chosen.
      let is = told these rows job ready clients w n k d todo s few low found chosen after done hears in
      let none : sum_by cost (filter is_addressed (map server_post
      (on_message (server_with these job ready) 0 chosen (node.Drive d) (Replies (reply_of k))).sends)) ≡ 0 =
      ap (λ (os : List Outgoing). sum_by cost (filter is_addressed (map server_post os))) (hears chosen).1 in
      let bytes : (sends_all (acts w chosen (Delivers n))).world.network.kept ≤ b =
      subst (λ (a : Act). (sends_all a).world.network.kept ≤ b) (sym is) (omega (arith, kept, none)) in
      let quiet_of : NoLoss (acts w chosen (Delivers n)).told =
      subst (λ (a : Act). NoLoss a.told) (sym is) (tt, notes chosen) in (
        lines_no_loss (acts w chosen (Delivers n)) quiet_of,
        next (moved w (Delivers n) chosen)
            (server_goes these rows job ready clients w n k d todo s few low found chosen after done hears) bytes,
      ))

-- ---- what the server notes of a reply

more_notes : (these : List ℕ) (k d : ℕ) (c : Awaited) (cs : List Awaited) (hs : List Heard)
    → others (asked k d ∷ c ∷ cs) (1 + k) ≡ c ∷ cs → (chosen : List ℕ)
    → NoLoss (filter_map known_note_line (on_message (server_with these (Some (job_with (asked k d ∷ c ∷ cs) hs)) false) 0 chosen
    (node.Drive d) (Replies (reply_of k))).notes)
more_notes these k d c cs hs left chosen =
    subst (λ (x : Step). NoLoss (filter_map known_note_line x.notes)) (sym (step_is these k d (c ∷ cs) hs left chosen)) tt

last_notes : (these : List ℕ) (k d : ℕ) (hs : List Heard) → others (asked k d ∷ []) (1 + k) ≡ [] → (chosen : List ℕ)
    → NoLoss (filter_map known_note_line (on_message (server_with these (Some (job_with (asked k d ∷ []) hs)) false) 0 chosen
    (node.Drive d) (Replies (reply_of k))).notes)
unfolding goes_on
last_notes these k d hs left chosen =
    subst (λ (x : Step). NoLoss (filter_map known_note_line x.notes)) (sym (step_is these k d [] hs left chosen)) (tt, tt)

-- ---- from the first message to the last

module _ (a b c d e : ℕ) (good : AreGood (ns a b c d e)) (clients : List (ℕ × ClientAt)) where
  replies_on : (w : World) → Stage (ns a b c d e) (out_row 0 a true ∷ out_row 1 b true ∷ out_row 2 c true ∷ out_row 3 d true
      ∷ out_row 4 e true ∷ back_row 0 a false ∷ back_row 1 b false ∷ back_row 2 c false ∷ back_row 3 d false
      ∷ back_row 4 e false ∷ []) (Some (job_with (asked_all a b c d e) [])) false [] clients w → w.network.kept ≤ 3000 → KeepsOn w
  unfolding pending_from
  replies_on w s kept =
      server_on _ _ _ _ _ w 5 0 a (omega arith) good.0 [] s _ false
      (hears_more (ns a b c d e) 0 a (asked 1 b) (asked 2 c ∷ asked 3 d ∷ asked 4 e ∷ []) [] refl)
      (more_notes (ns a b c d e) 0 a (asked 1 b) (asked 2 c ∷ asked 3 d ∷ asked 4 e ∷ []) [] refl) refl refl 3000 (omega arith) kept
      (λ w1 s1 k1. server_on _ _ _ _ _ w1 6 1 b (omega arith) good.2.0 [] s1 _ false
      (hears_more (ns a b c d e) 1 b (asked 2 c) (asked 3 d ∷ asked 4 e ∷ []) _ refl)
      (more_notes (ns a b c d e) 1 b (asked 2 c) (asked 3 d ∷ asked 4 e ∷ []) _ refl) refl refl 3000 (omega arith) k1
      (λ w2 s2 k2. server_on _ _ _ _ _ w2 7 2 c (omega arith) good.2.2.0 [] s2 _ false
      (hears_more (ns a b c d e) 2 c (asked 3 d) (asked 4 e ∷ []) _ refl)
      (more_notes (ns a b c d e) 2 c (asked 3 d) (asked 4 e ∷ []) _ refl) refl refl 3000 (omega arith) k2
      (λ w3 s3 k3. server_on _ _ _ _ _ w3 8 3 d (omega arith) good.2.2.2.0 [] s3 _ false
      (hears_more (ns a b c d e) 3 d (asked 4 e) [] _ refl)
      (more_notes (ns a b c d e) 3 d (asked 4 e) [] _ refl) refl refl 3000 (omega arith) k3
      (λ w4 s4 k4. server_on _ _ _ _ _ w4 9 4 e (omega arith) good.2.2.2.2.0 [] s4 None true
      (hears_last (ns a b c d e) 4 e _ refl) (last_notes (ns a b c d e) 4 e _ refl) refl refl 3000 (omega arith) k4
      (λ w5 s5 k5. on_last w5 (ap (λ (ms : List Posted). due_pending w5 None (pending_from 0 0 ms)) s5.rows_are)
      (omega (arith, k5)))))))

  creates_on : (w : World) → Stage (ns a b c d e) (rows_out a b c d e) (Some (job_with (asked_all a b c d e) [])) false (ns a b c d e)
      clients w → w.network.kept ≤ 2000 → KeepsOn w
  unfolding pending_from
  creates_on w s kept =
      drive_on _ _ _ _ _ w 0 0 a (omega arith) good.0 (b ∷ c ∷ d ∷ e ∷ []) s (apart a _ good.1) refl refl 2000 (omega arith) kept
      (λ w1 s1 k1. drive_on _ _ _ _ _ w1 1 1 b (omega arith) good.2.0 (c ∷ d ∷ e ∷ []) s1 (apart b _ good.2.1) refl refl 2040
      (omega arith) k1
      (λ w2 s2 k2. drive_on _ _ _ _ _ w2 2 2 c (omega arith) good.2.2.0 (d ∷ e ∷ []) s2 (apart c _ good.2.2.1) refl refl 2080
      (omega arith) k2
      (λ w3 s3 k3. drive_on _ _ _ _ _ w3 3 3 d (omega arith) good.2.2.2.0 (e ∷ []) s3 (apart d _ good.2.2.2.1) refl refl 2120
      (omega arith) k3
      (λ w4 s4 k4. drive_on _ _ _ _ _ w4 4 4 e (omega arith) good.2.2.2.2.0 [] s4 (apart e _ good.2.2.2.2.1) refl refl 2160
      (omega arith) k4
      (λ w5 s5 k5. replies_on w5 s5 (omega (arith, k5)))))))

-- ---- the file's first step

filter_cost : (p : Post → Bool) (ps : List Post) → sum_by cost (filter p ps) ≤ sum_by cost ps
filter_cost p [] = omega arith
filter_cost p (x ∷ ps) = elim (cases_Bool (p x)) [
  | inl t ↦ rw t (omega (arith, filter_cost p ps, sum_by-cons cost x ps, sum_by-cons cost x (filter p ps)))
  | inr f ↦ rw f (omega (arith, filter_cost p ps, sum_by-cons cost x ps))
]

creates_cost : (cs : List Awaited) → AllByRecursion (λ (x : Awaited). length (sealed (known_to 6) x).payload ≤ 100) cs
    → sum_by cost (map server_post (to_drives (known_to 6) cs)) ≤ 356 * length cs
creates_cost [] s = omega arith
creates_cost (x ∷ cs) s =
    omega (
      arith,
      s.0,
      command_size (sealed (known_to 6) x),
      creates_cost cs s.1,
      sum_by-cons cost (server_post (to_drive (known_to 6) x)) (map server_post (to_drives (known_to 6) cs)),
    )

label_size : (k d : ℕ) → length (sealed (known_to 6) (asked k d)).payload ≤ 100
unfolding label
label_size k d = omega arith

module _ (a b c d e : ℕ) (good : AreGood (ns a b c d e)) where
  -- what the first step sends
  first_bytes : sum_by cost (filter is_addressed (map server_post (step_with (ns a b c d e)).sends)) ≤ 1780
  first_bytes =
      let all = creates_cost (asked_all a b c d e)
      (label_size 0 a, (label_size 1 b, (label_size 2 c, (label_size 3 d, (label_size 4 e, tt))))) in
      let fewer = filter_cost is_addressed (map server_post (to_drives (known_to 6) (asked_all a b c d e))) in
      let same : sum_by cost (filter is_addressed (map server_post (step_with (ns a b c d e)).sends))
      ≡ sum_by cost (filter is_addressed (map server_post (to_drives (known_to 6) (asked_all a b c d e)))) =
      ap (λ (os : List Outgoing). sum_by cost (filter is_addressed (map server_post os))) (sends a b c d e good) in
      omega (arith, all, fewer, same)

  first_notes : (step_with (ns a b c d e)).notes ≡ []
  unfolding add_file put_file components_on making to_each is_meant
  first_notes = refl

  first_on : (chosen : List ℕ) → taken chosen ≡ ns a b c d e
      → NoLoss (move (world_with 6 3) (record { action = Opens makes_file; chosen = chosen })).lines
      × KeepsOn (moved (world_with 6 3) (Opens makes_file) chosen)
  first_on chosen same =
      let is : acts (world_with 6 3) chosen (Opens makes_file) ≡ acted (server_did (world_with 6 3) (step_with (ns a b c d e))) =
      begun chosen ∙ ap (λ (xs : List ℕ). acted (server_did (world_with 6 3) (step_with xs))) same in
      let quiet_of : NoLoss (acts (world_with 6 3) chosen (Opens makes_file)).told =
      subst (λ (x : Act). NoLoss x.told) (sym is)
      (subst (λ (xs : List Note). NoLoss (filter_map known_note_line xs)) (sym first_notes) tt) in (
        lines_no_loss (acts (world_with 6 3) chosen (Opens makes_file)) quiet_of,
        subst (λ (x : Act). KeepsOn (sends_all x).world) (sym is)
            (creates_on a b c d e good (clients_to 3) _ (first_stage a b c d e good) (omega (arith, first_bytes))),
      )

file_on : (xs : List ℕ) → length xs ≡ 5 → AreGood xs → (chosen : List ℕ) → taken chosen ≡ xs
    → NoLoss (move (world_with 6 3) (record { action = Opens makes_file; chosen = chosen })).lines
    × KeepsOn (moved (world_with 6 3) (Opens makes_file) chosen)
file_on (a ∷ b ∷ c ∷ d ∷ e ∷ []) five good chosen same = first_on a b c d e good chosen same
file_on [] five good chosen same = absurd (omega (arith, five))
file_on (a ∷ []) five good chosen same = absurd (omega (arith, five))
file_on (a ∷ b ∷ []) five good chosen same = absurd (omega (arith, five))
file_on (a ∷ b ∷ c ∷ []) five good chosen same = absurd (omega (arith, five))
file_on (a ∷ b ∷ c ∷ d ∷ []) five good chosen same = absurd (omega (arith, five))
file_on (a ∷ b ∷ c ∷ d ∷ e ∷ x ∷ xs) five good chosen same = absurd (omega (arith, five))

pub file_keeps : KeepsFew (world_with 6 3) makes_file
unfolding rule_of
file_keeps [] due_all = (omega arith, tt)
file_keeps (m ∷ ms) due_all =
    let opens : Opens makes_file ≡ m.action = cc due_all.0 in
    let five = five_taken m.chosen in
    let on = file_on (taken m.chosen) five.0 (are_good (taken m.chosen) five.1) m.chosen refl in
    subst (λ (x : Action). AreDue (went_on (plan_of (world_with 6 3) makes_file) x)
    (move (world_with 6 3) (record { action = x; chosen = m.chosen })).world ms
    → ((world_after (move (world_with 6 3) (record { action = x; chosen = m.chosen })).world ms).network.kept ≤ BYTES_A_CALL)
    × NoLoss ((move (world_with 6 3) (record { action = x; chosen = m.chosen })).lines
    ++ lines_of (move (world_with 6 3) (record { action = x; chosen = m.chosen })).world ms)) opens
    (λ rest.
    let r = on.1 ms rest in (
      r.0,
      both_no_loss (move (world_with 6 3) (record { action = Opens makes_file; chosen = m.chosen })).lines
          (lines_of (moved (world_with 6 3) (Opens makes_file) m.chosen) ms) on.0 r.1,
    )) due_all.1
