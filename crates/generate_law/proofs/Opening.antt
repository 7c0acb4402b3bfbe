-- The scenario's opening: after its drives, its clients and its file the parties rest.
use Rattle.std.proofs.Common.{◌≡◌, ◌<◌, ◌≤◌, nat_lt, ℕ, zero, suc, Bool, true, false, List, [], ◌∷◌, ◌++◌, length, map, filter, Some, None, refl, sym, ap, subst, ◌∙◌, arith, inl, inr}
use Rattle.std.proofs.lemmas.Bool.Decides.{nat_tests}
use Rattle.std.specs.List.{AllByRecursion}
use Rattle.client_rules.specs.Grants.{held_of}
use Rattle.client_rules.specs.Steps.{new_client}
use Rattle.data_map.specs.Check.{checked}
use Rattle.server_rules.specs.Laws.{In}
use Rattle.server_rules.specs.Commands.{to_each, is_meant}
use Rattle.server_rules.specs.Files.{Step, file_at, put_file, add_file, to_drive, to_drives}
use Rattle.server_rules.specs.Jobs.{making}
use Rattle.server_rules.specs.Making.{add_drive, checked_64, components_on, create_file, makes_file as makes, refusal, unmade}
use Rattle.osd_objects.specs.Store.{free_of}
use Rattle.scenario_text.specs.declared.line.Line.{Line}
use Rattle.scenario_text.specs.declared.line.Line.TheVariants as line
use Rattle.scenario_text.specs.declared.event.Event.{Event}
use Rattle.scenario_text.specs.declared.event.Event.TheVariants as event
use Rattle.world_history.specs.ServerNames.{Awaited, Component, File, Outgoing, Server}
use Rattle.world_history.specs.State.{World, DriveAt, ClientAt, empty_world, at_number}
use Rattle.world_history.specs.Handed.{Post, is_addressed, server_did, server_post}
use Rattle.world_history.specs.Moves.{Act, Opens, begins, acted, acts, gives, raw_of}
use Rattle.world_history.specs.Moves.{makes as world_makes}
use Rattle.world_history.specs.Guesses.{unguessed}
use Rattle.world_history.specs.Plans.{rule_of, plan_of}
use Rattle.world_history.specs.Sending.{sends_all, fresh}
use Rattle.generate_law.specs.Scenario.{each_below, file_map, makes_drive, makes_file}
use Rattle.ready_law.specs.Clear.{HasRoomTo}
use Rattle.ready_law.specs.Ready.{scene_of}
use Rattle.ready_law.specs.Rested.{RestsAt}
use Rattle.generate_law.specs.Opening.{before_calls, OpeningRests}
use Rattle.generate_law.specs.Rests.{OBJECT_END, IsItsFile, IsUp, Rests}
use Rattle.generate_law.specs.Plays.{Plays}
use Rattle.generate_law.specs.Quiet.{InjectsNone}
use Rattle.generate_law.proofs.Events.{events_in, events_are}
use Rattle.generate_law.proofs.Guessing.{uninjected_is_unguessed}
use Rattle.generate_law.proofs.Creates.{drive_new, known_to, server_to}
use Rattle.generate_law.proofs.Chosen.{AreGood, are_good, five_taken, taken}
use Rattle.generate_law.proofs.Making.{file_with, server_with, job_with, Stage, prompt}
use Rattle.generate_law.proofs.FileMade.{asked_all, rows_out, rows_all, file_made}
use Rattle.generate_law.proofs.Runs.{Goes, First, Leads, moved, next, first, at_end, alone}

-- ---- drives and clients

abbrev pub drives_to : (n : ℕ) → List (ℕ × DriveAt)
drives_to zero = []
drives_to (suc n) = drives_to n ++ (n, drive_new n) ∷ []

abbrev client_at : (c : ℕ) → ClientAt
client_at c = record { state = new_client c 1; stopped = false; wrote = false }

abbrev pub clients_to : (n : ℕ) → List (ℕ × ClientAt)
clients_to zero = []
clients_to (suc n) = clients_to n ++ (n, client_at n) ∷ []

-- the world with n drives and m clients
abbrev pub world_with : (n m : ℕ) → World
world_with n m = record {
  drives = drives_to n;
  clients = clients_to m;
  server = server_to n;
  clock = 0;
  network = record { messages = []; kept = 0 };
  down = false;
}

pub drive_made : (n : ℕ) → n < 6 → (chosen : List ℕ) → moved (world_with n 0) (Opens (makes_drive n)) chosen ≡ world_with (suc n) 0
unfolding begins gives add_drive
drive_made zero l chosen = refl
drive_made (suc zero) l chosen = refl
drive_made (suc (suc zero)) l chosen = refl
drive_made (suc (suc (suc zero))) l chosen = refl
drive_made (suc (suc (suc (suc zero)))) l chosen = refl
drive_made (suc (suc (suc (suc (suc zero))))) l chosen = refl
drive_made (suc (suc (suc (suc (suc (suc n)))))) l chosen = absurd (omega (arith, l))

pub client_made : (m : ℕ) → m < 3 → (chosen : List ℕ) → moved (world_with 6 m) (Opens (event.Client m)) chosen ≡ world_with 6 (suc m)
unfolding begins
client_made zero l chosen = refl
client_made (suc zero) l chosen = refl
client_made (suc (suc zero)) l chosen = refl
client_made (suc (suc (suc m))) l chosen = absurd (omega (arith, l))

a_drive : (n : ℕ) (v : World) (es : List Event) → n < 6 → Leads (world_with n 0) v (makes_drive n ∷ es)
    → Leads (world_with (suc n) 0) v es
unfolding rule_of
a_drive n v es low l = alone (world_with n 0) (world_with (suc n) 0) v (makes_drive n) es refl (drive_made n low) l

a_client : (m : ℕ) (v : World) (es : List Event) → m < 3 → Leads (world_with 6 m) v (event.Client m ∷ es)
    → Leads (world_with 6 (suc m)) v es
unfolding rule_of
a_client m v es low l = alone (world_with 6 m) (world_with 6 (suc m)) v (event.Client m) es refl (client_made m low) l

-- after the six drives and three clients
parties_made : (v : World) (es : List Event)
    → Leads empty_world v (each_below makes_drive 6 ++ (each_below (λ c. event.Client c) 3 ++ es)) → Leads (world_with 6 3) v es
parties_made v es l =
    a_client 2 v es (omega arith)
    (a_client 1 v _ (omega arith)
    (a_client 0 v _ (omega arith)
    (a_drive 5 v _ (omega arith)
    (a_drive 4 v _ (omega arith)
    (a_drive 3 v _ (omega arith)
    (a_drive 2 v _ (omega arith)
    (a_drive 1 v _ (omega arith)
    (a_drive 0 v _ (omega arith) l))))))))

-- ---- the file's first step

filter_first : {A : Type 0} (p : A → Bool) (x : A) (xs : List A) → p x ≡ true → filter p (x ∷ xs) ≡ x ∷ filter p xs
filter_first p x xs e = rw e refl

pub sent_all : (cs : List Awaited) → ((a : Awaited) → In a cs → a.drive < 6)
    → filter is_addressed (map server_post (to_drives (known_to 6) cs)) ≡ map server_post (to_drives (known_to 6) cs)
sent_all [] low = refl
sent_all (a ∷ cs) low =
    let named : nat_lt a.drive 64 ≡ true = grind (arith, nat_tests, low a (inl refl)) in
    filter_first is_addressed (server_post (to_drive (known_to 6) a)) (map server_post (to_drives (known_to 6) cs)) named
    ∙ ap (λ (ps : List Post). server_post (to_drive (known_to 6) a) ∷ ps) (sent_all cs (λ b i. low b (inr i)))

-- the server's step, with components on these drives
abbrev pub step_with : List ℕ → Step
step_with ns = makes (server_to 6) (unmade (server_to 6) 0 (raw_of file_map) 1 false ns)

pub begun : (chosen : List ℕ)
    → acts (world_with 6 3) chosen (Opens makes_file) ≡ acted (server_did (world_with 6 3) (step_with (taken chosen)))
unfolding begins world_makes create_file refusal file_at checked_64 checked
begun chosen = refl

new_there : (d : ℕ) → d < 6 → at_number (drives_to 6) d ≡ Some (drive_new d)
new_there zero l = refl
new_there (suc zero) l = refl
new_there (suc (suc zero)) l = refl
new_there (suc (suc (suc zero))) l = refl
new_there (suc (suc (suc (suc zero)))) l = refl
new_there (suc (suc (suc (suc (suc zero))))) l = refl
new_there (suc (suc (suc (suc (suc (suc d)))))) l = absurd (omega (arith, l))

module _ (a b c d e : ℕ) (good : AreGood (a ∷ b ∷ c ∷ d ∷ e ∷ [])) where
  abbrev pub these : List ℕ
  these = a ∷ b ∷ c ∷ d ∷ e ∷ []

  each_low : (n : ℕ) → In n these → n < 6
  each_low n (inl is) = subst (λ (x : ℕ). x < 6) (sym is) good.0
  each_low n (inr (inl is)) = subst (λ (x : ℕ). x < 6) (sym is) good.2.0
  each_low n (inr (inr (inl is))) = subst (λ (x : ℕ). x < 6) (sym is) good.2.2.0
  each_low n (inr (inr (inr (inl is)))) = subst (λ (x : ℕ). x < 6) (sym is) good.2.2.2.0
  each_low n (inr (inr (inr (inr (inl is))))) = subst (λ (x : ℕ). x < 6) (sym is) good.2.2.2.2.0
  each_low n (inr (inr (inr (inr (inr i))))) = absurd i

  pub asked_low : (x : Awaited) → In x (asked_all a b c d e) → x.drive < 6
  asked_low x (inl is) = subst (λ (y : Awaited). y.drive < 6) (sym is) good.0
  asked_low x (inr (inl is)) = subst (λ (y : Awaited). y.drive < 6) (sym is) good.2.0
  asked_low x (inr (inr (inl is))) = subst (λ (y : Awaited). y.drive < 6) (sym is) good.2.2.0
  asked_low x (inr (inr (inr (inl is)))) = subst (λ (y : Awaited). y.drive < 6) (sym is) good.2.2.2.0
  asked_low x (inr (inr (inr (inr (inl is))))) = subst (λ (y : Awaited). y.drive < 6) (sym is) good.2.2.2.2.0
  asked_low x (inr (inr (inr (inr (inr i))))) = absurd i

  abbrev pub the_step : Step
  the_step = step_with these

  pub sends : the_step.sends ≡ to_drives (known_to 6) (asked_all a b c d e)
  unfolding add_file put_file components_on making to_each is_meant
  sends = refl

  state : the_step.state ≡ server_with these (Some (job_with (asked_all a b c d e) [])) false
  unfolding add_file put_file components_on making to_each is_meant
  state = refl

  pub first_stage : Stage these (rows_out a b c d e) (Some (job_with (asked_all a b c d e) [])) false these (clients_to 3)
      (sends_all (acted (server_did (world_with 6 3) the_step))).world
  first_stage = record {
    rows_are =
        ap (λ (out : List Outgoing). map fresh (filter is_addressed (map server_post out))) sends
        ∙ ap (λ (ps : List Post). map fresh ps) (sent_all (asked_all a b c d e) asked_low);
    server = state;
    clients_are = refl;
    clock = refl;
    down = refl;
    drives = λ n low. (
      drive_new n,
      new_there n low,
      record { works = refl; up = refl; clock = refl; format = omega arith; room = omega arith },
    );
    new = λ n i. new_there n (each_low n i);
  }

-- five drives, and the file with its components there
record Ends (v : World) : Type 0 where
  a : ℕ
  b : ℕ
  c : ℕ
  d : ℕ
  e : ℕ
  good : AreGood (a ∷ b ∷ c ∷ d ∷ e ∷ [])
  stage : Stage (a ∷ b ∷ c ∷ d ∷ e ∷ []) (rows_all a b c d e) None true [] (clients_to 3) v

ends_with : (ns : List ℕ) → length ns ≡ 5 → AreGood ns → (v : World)
    → Goes prompt (sends_all (acted (server_did (world_with 6 3) (step_with ns)))).world v → Ends v
ends_with (a ∷ b ∷ c ∷ d ∷ e ∷ []) five good v g = record {
  a = a;
  b = b;
  c = c;
  d = d;
  e = e;
  good = good;
  stage = file_made a b c d e (clients_to 3) _ v good (first_stage a b c d e good) g;
}
ends_with [] five good v g = absurd (omega (arith, five))
ends_with (a ∷ []) five good v g = absurd (omega (arith, five))
ends_with (a ∷ b ∷ []) five good v g = absurd (omega (arith, five))
ends_with (a ∷ b ∷ c ∷ []) five good v g = absurd (omega (arith, five))
ends_with (a ∷ b ∷ c ∷ d ∷ []) five good v g = absurd (omega (arith, five))
ends_with (a ∷ b ∷ c ∷ d ∷ e ∷ x ∷ ns) five good v g = absurd (omega (arith, five))

-- so the file's event ends
file_ends : (v : World) → Leads (world_with 6 3) v (makes_file ∷ []) → Ends v
unfolding rule_of
file_ends v l =
    let f : First (world_with 6 3) v makes_file [] = first (world_with 6 3) v makes_file [] l in
    let n = next (plan_of (world_with 6 3) makes_file) (world_with 6 3) f.between (Opens makes_file) f.goes refl in
    let g : Goes prompt (sends_all (acted (server_did (world_with 6 3) (step_with (taken n.0))))).world f.between =
    subst (λ (x : Act). Goes prompt (sends_all x).world f.between) (begun n.0) n.1 in
    let five = five_taken n.0 in
    ends_with (taken n.0) five.0 (are_good (taken n.0) five.1) v
    (subst (λ (x : World). Goes prompt (sends_all (acted (server_did (world_with 6 3) (step_with (taken n.0))))).world x)
    (sym (at_end f.between v f.others)) g)

-- ---- at rest

three_clients : (n : ℕ) → n < 3 → at_number (clients_to 3) n ≡ Some (client_at n)
three_clients zero l = refl
three_clients (suc zero) l = refl
three_clients (suc (suc zero)) l = refl
three_clients (suc (suc (suc n))) l = absurd (omega (arith, l))

module _ (v : World) (h : List Line) (x : Ends v) (clean : unguessed h ≡ true) where
  abbrev numbers : List ℕ
  numbers = x.a ∷ x.b ∷ x.c ∷ x.d ∷ x.e ∷ []

  abbrev the_file : File
  the_file = file_with numbers None true

  placed : (at : Component) → In at the_file.kept.components → (at.missing ≡ false) × (at.drive < 6)
  unfolding components_on
  placed at (inl is) = subst (λ (y : Component). (y.missing ≡ false) × (y.drive < 6)) (sym is) (refl, x.good.0)
  placed at (inr (inl is)) = subst (λ (y : Component). (y.missing ≡ false) × (y.drive < 6)) (sym is) (refl, x.good.2.0)
  placed at (inr (inr (inl is))) =
      subst (λ (y : Component). (y.missing ≡ false) × (y.drive < 6)) (sym is) (refl, x.good.2.2.0)
  placed at (inr (inr (inr (inl is)))) =
      subst (λ (y : Component). (y.missing ≡ false) × (y.drive < 6)) (sym is) (refl, x.good.2.2.2.0)
  placed at (inr (inr (inr (inr (inl is))))) =
      subst (λ (y : Component). (y.missing ≡ false) × (y.drive < 6)) (sym is) (refl, x.good.2.2.2.2.0)
  placed at (inr (inr (inr (inr (inr i))))) = absurd i

  its : IsItsFile 0 the_file
  unfolding components_on
  its = record {
    number = refl;
    map = refl;
    size_is = refl;
    count = refl;
    there = placed;
    unspent = refl;
    quiet = refl;
  }

  drives : (d : ℕ) → d < 6 → (a : DriveAt) × (at_number v.drives d ≡ Some a) × IsUp the_file a
  drives d low =
      let a = x.stage.drives d low in
      (a.0, a.1, record { works = a.2.works; up = a.2.up; clock = a.2.clock; format = a.2.format })

  room : (at : Component) (a : DriveAt) → In at the_file.kept.components → at_number v.drives at.drive ≡ Some a
      → HasRoomTo OBJECT_END a.state.store at.object
  room at a i there =
      let b = x.stage.drives at.drive (placed at i).1 in
      let same : Some b.0 ≡ Some a = sym b.1 ∙ there in
      let is : b.0 ≡ a = cc same in
      omega (arith, subst (λ (y : DriveAt). 65536 ≤ free_of y.state.store) is b.2.room)

  clients : (c : ℕ) → c < 3 → (a : ClientAt) × (at_number v.clients c ≡ Some a) × RestsAt 0 the_file.kept c a
  unfolding held_of
  clients c low = (
    client_at c,
    ap (λ (xs : List (ℕ × ClientAt)). at_number xs c) x.stage.clients_are ∙ three_clients c low,
    record { idle = record { alive = refl; free = refl; answered = refl }; same = refl },
  )

  first_rest : Rests 0 (scene_of v h)
  unfolding file_at
  first_rest = record {
    unguessed = clean;
    up = x.stage.down;
    clock = x.stage.clock;
    file = the_file;
    found = ap (λ (s : Server). file_at s.files 0) x.stage.server;
    its = its;
    drives = drives;
    room = room;
    clients = clients;
    granted = λ g i. absurd i;
  }

none_injected : (ls : List Line) → AllByRecursion (λ (e : Event). InjectsNone (line.Event e)) (events_in ls)
    → AllByRecursion InjectsNone ls
none_injected [] n = tt
none_injected (line.Event e ∷ ls) n = (n.0, none_injected ls n.1)
none_injected (l ∷ ls) n = (tt, none_injected ls n)

plays_unguessed : (w : World) (h : List Line) → Plays before_calls w h → unguessed h ≡ true
plays_unguessed w h p =
    uninjected_is_unguessed h
    (none_injected h
    (subst (AllByRecursion (λ (e : Event). InjectsNone (line.Event e))) (sym (events_are before_calls w h p))
    (tt, (tt, (tt, (tt, (tt, (tt, (tt, (tt, (tt, (tt, tt))))))))))))

pub opening_rests : OpeningRests
opening_rests v h p =
    let l : Leads empty_world v before_calls = record {
      steps = p.stands.steps;
      carried = p.stands.carried;
      events_are = p.events_are;
      world_is = p.stands.world_is;
    } in
    first_rest v h (file_ends v (parties_made v (makes_file ∷ []) l)) (plays_unguessed v h p)
