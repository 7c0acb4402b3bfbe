-- The drives and the server while the scenario's file is made: each CREATE is performed and answered.
use Rattle.std.proofs.Common.{◌≡◌, ◌<◌, ◌≤◌, ℕ, Bool, true, false, List, [], ◌∷◌, ◌++◌, map, slice_get, slice_set, Option, Some, None, Result, Ok, if◌then◌else◌, refl, sym, ap, subst, ◌∙◌, arith, inl, inr, IsSome, filter}
use Rattle.std.proofs.lemmas.Bool.{cases_eq}
use Rattle.std.proofs.lemmas.List.{append-nil}
use Rattle.osd_lists.specs.declared.node.Node.TheVariants as node
use Rattle.osd_commands.specs.declared.commands.Command.{Command}
use Rattle.osd_commands.specs.declared.commands.CommandErr.{CommandErr}
use Rattle.osd_commands.specs.declared.replies.Reply.{Reply}
use Rattle.osd_commands.specs.Replies as replies
use Rattle.osd_objects.specs.Store.{free_of}
use Rattle.osd_objects.proofs.Entries.{lookup_set, lookup_set_beside}
use Rattle.server_rules.specs.Laws.{In}
use Rattle.server_rules.specs.Files.{Step}
use Rattle.server_rules.specs.Making.{unmade}
use Rattle.server_rules.specs.Messages.{Replies, on_message}
use Rattle.server_rules.specs.Envelopes.{message_in, by_reply}
use Rattle.scenario_text.specs.declared.line.Delivery.TheVariants as delivery
use Rattle.world_history.specs.declared.messages.Body.TheVariants.{Command as OfCommand, Reply as OfReply}
use Rattle.world_history.specs.declared.messages.Posted.{Posted}
use Rattle.world_history.specs.ServerNames.{File, Job, Awaited, Heard, Making, Creates, Server, Outgoing}
use Rattle.world_history.specs.State.{World, DriveAt, ClientAt, at_number, with_number}
use Rattle.world_history.specs.Drives.{Judged, judges}
use Rattle.world_history.specs.Handed.{quiet, drive_hears, drive_replies, server_takes, server_did, server_post, is_addressed}
use Rattle.world_history.specs.Moves.{Act, Delivers, acts, marked, told_delivered, raw_of}
use Rattle.world_history.specs.Plans.{Plan, Prompt, due, due_pending, pending_from}
use Rattle.world_history.specs.Sending.{sends_all, fresh}
use Rattle.cause_law.proofs.Frames.{delivered_act}
use Rattle.generate_law.specs.Scenario.{file_map}
use Rattle.generate_law.proofs.Creates.{drive_new, server_to, create_of, reply_of, create_read, reply_read, drive_with, drive_makes, drive_answers}
use Rattle.generate_law.proofs.Runs.{Goes, moved, next}

-- ---- the file

-- the scenario's file with components on these drives
abbrev pub file_with : List ℕ → Option Job → (ready : Bool) → File
file_with ns job ready = record {
  kept = record (unmade (server_to 6) 0 (raw_of file_map) 1 false ns).kept { ready = ready };
  spent = false;
  job = job;
}

abbrev pub server_with : List ℕ → Option Job → (ready : Bool) → Server
server_with ns job ready =
    record (server_to 6) { files = file_with ns job ready ∷ []; next_object = 65541; next_nonce = 6 }

-- what the job still awaits, and what it heard
abbrev pub job_with : List Awaited → List Heard → Job
job_with cs hs = record { kind = Making; work = Creates; awaited = cs; heard = hs }

-- ---- messages

-- the CREATE of component k, and its reply
abbrev pub out_row : (k d : ℕ) → (heard : Bool) → Posted
out_row k d b = record {
  message = record { from = node.Server; to = node.Drive d; body = OfCommand (create_of k d) };
  delivered = b;
  dropped = false;
}

abbrev pub back_row : (k d : ℕ) → (heard : Bool) → Posted
back_row k d b = record {
  message = record { from = node.Drive d; to = node.Server; body = OfReply (reply_of k) };
  delivered = b;
  dropped = false;
}

-- ---- the world meanwhile

-- a drive that stands, with its clock at 0 and its first format, and with much room
pub record IsFine (a : DriveAt) : Type 0 where
  pub works : a.failed ≡ false
  pub up : a.down ≡ false
  pub clock : a.clock ≡ 0
  pub format : a.state.least ≤ 1
  pub room : 65536 ≤ free_of a.state.store

-- these messages were sent, and this is the job; the drives of `todo` are new
pub record Stage (ns : List ℕ) (rows : List Posted) (job : Option Job) (ready : Bool) (todo : List ℕ)
    (clients : List (ℕ × ClientAt)) (w : World) : Type 0 where
  pub rows_are : w.network.messages ≡ rows
  pub server : w.server ≡ server_with ns job ready
  pub clients_are : w.clients ≡ clients
  pub clock : w.clock ≡ 0
  pub down : w.down ≡ false
  pub drives : (d : ℕ) → d < 6 → (a : DriveAt) × (at_number w.drives d ≡ Some a) × IsFine a
  pub new : (d : ℕ) → In d todo → at_number w.drives d ≡ Some (drive_new d)

-- what comes after the event's first action: messages are delivered
abbrev pub prompt : Plan
prompt = record { opening = None; rule = Prompt 0 None }

pub due_so : (w : World) (rows : List Posted) (n : ℕ) → w.network.messages ≡ rows → pending_from 0 0 rows ≡ Some n
    → due prompt w ≡ Some (Delivers n)
due_so w rows n is first =
    ap (λ (ms : List Posted). due_pending w None (pending_from 0 0 ms)) is
    ∙ ap (λ (o : Option ℕ). due_pending w None o) first

-- by the reply of component k on drive d the server's job becomes another, and nothing is sent
abbrev pub Hears : (ns : List ℕ) → (k d : ℕ) → (job after : Option Job) → (ready done : Bool) → Type 0
Hears ns k d job after ready done =
    (chosen : List ℕ)
    → ((on_message (server_with ns job ready) 0 chosen (node.Drive d) (Replies (reply_of k))).state ≡ server_with ns after done)
    × ((on_message (server_with ns job ready) 0 chosen (node.Drive d) (Replies (reply_of k))).sends ≡ [])

module _ (ns : List ℕ) (rows : List Posted) (job : Option Job) (ready : Bool) (clients : List (ℕ × ClientAt)) (w : World)
    (n k d : ℕ) where
  abbrev pub number_found : Posted → Type 0
  number_found p = slice_get rows n ≡ Some p

  pub there : (p : Posted) → w.network.messages ≡ rows → number_found p → slice_get w.network.messages n ≡ Some p
  there p is found = ap (λ (ms : List Posted). slice_get ms n) is ∙ found

  -- ---- a drive hears

  module _ (todo : List ℕ) (s : Stage ns rows job ready (d ∷ todo) clients w) (few : k < 5) (low : d < 6)
      (other : (e : ℕ) → In e todo → e ≡ d → ⊥) (found : number_found (out_row k d false)) (chosen : List ℕ) where
    abbrev pub did : Judged
    did = record {
      drive = drive_with k d low;
      verdict = (judges (drive_new d) (Ok (create_of k d))).verdict;
      reply = reply_of k;
    }

    judged : judges (drive_new d) (Ok (create_of k d)) ≡ did
    judged =
        ap (λ (a : DriveAt). record {
          drive = a;
          verdict = (judges (drive_new d) (Ok (create_of k d))).verdict;
          reply = (judges (drive_new d) (Ok (create_of k d))).reply;
        }) (drive_makes k d low)
        ∙ ap (λ (r : Reply). record {
          drive = drive_with k d low;
          verdict = (judges (drive_new d) (Ok (create_of k d))).verdict;
          reply = r;
        }) (drive_answers k d low)

    abbrev pub marked_world : World
    marked_world = marked w n (out_row k d false)

    pub heard : acts w chosen (Delivers n) ≡ told_delivered n (drive_replies marked_world d node.Server did)
    heard =
        delivered_act w chosen n (out_row k d false) (there (out_row k d false) s.rows_are found)
        ∙ ap (λ (o : Option DriveAt). told_delivered n (drive_hears marked_world d (out_row k d false).message o))
        (s.new d (inl refl))
        ∙ ap (λ (r : Result Command CommandErr). told_delivered n
        (drive_replies marked_world d node.Server (judges (drive_new d) r)))
        (create_read k d few low)
        ∙ ap (λ (j : Judged). told_delivered n (drive_replies marked_world d node.Server j)) judged

    abbrev drives_now : List (ℕ × DriveAt)
    drives_now = with_number w.drives d (drive_with k d low)

    fine : (e : ℕ) → e < 6 → (a : DriveAt) × (at_number drives_now e ≡ Some a) × IsFine a
    fine e less = elim (cases_eq e d) [
      | inl same ↦ (
        drive_with k d low,
        ap (λ (x : ℕ). at_number drives_now x) same
            ∙ lookup_set w.drives d (drive_with k d low) (subst IsSome (sym (s.new d (inl refl))) refl),
        record { works = refl; up = refl; clock = refl; format = omega arith; room = omega arith },
      )
      | inr beside ↦
          let a = s.drives e less in
          (a.0, lookup_set_beside w.drives d e (drive_with k d low) beside ∙ a.1, a.2)
    ]

    pub drive_goes : Stage ns (slice_set rows n (out_row k d true) ++ back_row k d false ∷ []) job ready todo clients
        (moved w (Delivers n) chosen)
    drive_goes =
        subst (λ (a : Act). Stage ns (slice_set rows n (out_row k d true) ++ back_row k d false ∷ []) job ready todo clients
        (sends_all a).world) (sym heard)
        (record {
          rows_are =
              ap (λ (ms : List Posted). slice_set ms n (out_row k d true) ++ back_row k d false ∷ []) s.rows_are;
          server = s.server;
          clients_are = s.clients_are;
          clock = s.clock;
          down = s.down;
          drives = fine;
          new = λ e i. lookup_set_beside w.drives d e (drive_with k d low) (other e i) ∙ s.new e (inr i);
        })

  -- so the event goes on from there
  pub drive_takes : (todo : List ℕ) (v : World) → Stage ns rows job ready (d ∷ todo) clients w → Goes prompt w v → k < 5 → d < 6
      → ((e : ℕ) → In e todo → e ≡ d → ⊥) → pending_from 0 0 rows ≡ Some n → number_found (out_row k d false)
      → (u : World) × Stage ns (slice_set rows n (out_row k d true) ++ back_row k d false ∷ []) job ready todo clients u
      × Goes prompt u v
  drive_takes todo v s g few low other first found =
      let m = next prompt w v (Delivers n) g (due_so w rows n s.rows_are first) in
      (moved w (Delivers n) m.0, drive_goes todo s few low other found m.0, m.1)

  -- ---- the server hears

  module _ (todo : List ℕ) (s : Stage ns rows job ready todo clients w) (few : k < 5) (low : d < 6)
      (found : number_found (back_row k d false)) (chosen : List ℕ) (after : Option Job) (done : Bool)
      (hears : Hears ns k d job after ready done) where
    abbrev pub then_world : World
    then_world = marked w n (back_row k d false)

    abbrev the_step : Step
    the_step = on_message (server_with ns job ready) 0 chosen (node.Drive d) (Replies (reply_of k))

    pub told : acts w chosen (Delivers n) ≡ told_delivered n (server_did then_world the_step)
    unfolding message_in
    told =
        delivered_act w chosen n (back_row k d false) (there (back_row k d false) s.rows_are found)
        ∙ ap (λ (b : Bool). told_delivered n (if b then quiet then_world delivery.Deaf
        else server_takes then_world chosen (node.Drive d) (message_in (node.Drive d) (replies.spelling (reply_of k))))) s.down
        ∙ ap (λ (r : Result Reply CommandErr). told_delivered n (server_takes then_world chosen (node.Drive d) (by_reply r)))
        (reply_read k d few low)
        ∙ ap (λ (x : Server). told_delivered n
        (server_did then_world (on_message x w.clock chosen (node.Drive d) (Replies (reply_of k)))))
        s.server
        ∙ ap (λ (now : ℕ). told_delivered n
        (server_did then_world (on_message (server_with ns job ready) now chosen (node.Drive d) (Replies (reply_of k))))) s.clock

    pub server_goes : Stage ns (slice_set rows n (back_row k d true)) after done todo clients (moved w (Delivers n) chosen)
    server_goes =
        subst (λ (a : Act). Stage ns (slice_set rows n (back_row k d true)) after done todo clients
        (sends_all a).world) (sym told)
        (record {
          rows_are =
              ap (λ (sends : List Outgoing). slice_set w.network.messages n (back_row k d true)
              ++ map fresh (filter is_addressed (map server_post sends))) (hears chosen).1
              ∙ append-nil (slice_set w.network.messages n (back_row k d true))
              ∙ ap (λ (ms : List Posted). slice_set ms n (back_row k d true)) s.rows_are;
          server = (hears chosen).0;
          clients_are = s.clients_are;
          clock = s.clock;
          down = s.down;
          drives = s.drives;
          new = s.new;
        })

  -- so the event goes on from there
  pub server_takes_it : (todo : List ℕ) (v : World) (after : Option Job) (done : Bool) → Stage ns rows job ready todo clients w
      → Goes prompt w v → k < 5 → d < 6 → Hears ns k d job after ready done → pending_from 0 0 rows ≡ Some n
      → number_found (back_row k d false)
      → (u : World) × Stage ns (slice_set rows n (back_row k d true)) after done todo clients u × Goes prompt u v
  server_takes_it todo v after done s g few low hears first found =
      let m = next prompt w v (Delivers n) g (due_so w rows n s.rows_are first) in
      (moved w (Delivers n) m.0, server_goes todo s few low found m.0 after done hears, m.1)
