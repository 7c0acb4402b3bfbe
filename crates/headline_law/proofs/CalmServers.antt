-- A step of the server keeps a run of the machine calm, up to each of its lines.
-- Towards `ServersKeepRuns` (`specs/Parts.antt`).
use Rattle.std.proofs.Common.{◌≡◌, ◌⊎◌, ◌<◌, ◌≤◌, ◌+◌, ◌-◌, ◌++◌, ℕ, zero, suc, Bool, true, false, List, [], ◌∷◌, take, Option, Some, refl, sym, ap, subst, ◌∙◌, inl, inr, arith, if◌then◌else◌}
use Rattle.scenario_text.specs.declared.line.Line.{Line}
use Rattle.server_rules.specs.Files.{file_at}
use Rattle.server_rules.specs.History.{Input, step}
use Rattle.world_history.specs.ServerNames.{File, Server}
use Rattle.world_history.specs.State.{World}
use Rattle.world_history.specs.Moves.{Action, Opens, Delivers, TimesOut, Pends}
use Rattle.world_history.specs.Sending.{Move}
use Rattle.world_history.specs.Book.{step_by}
use Rattle.history_law.specs.Doing.{input_in, did_in}
use Rattle.history_law.specs.Read.{leads}
use Rattle.fence_law.specs.Machine.{Lawful, after_all}
use Rattle.fence_law.specs.State.{State, Event}
use Rattle.file_simulation.specs.Cuts.{lines_before}
use Rattle.file_simulation.specs.DriveEvents.{drive_events}
use Rattle.file_simulation.specs.EventLists.{Lines}
use Rattle.file_simulation.specs.Events.{joined, events_of, led_by}
use Rattle.file_simulation.specs.ServerEvents.{server_events, server_goes}
use Rattle.file_simulation.specs.Showing.{Pairs, IsRun}
use Rattle.relation_law.specs.Frames.{AreAll, LinesAre}
use Rattle.relation_law.specs.Steps.{owed}
use Rattle.relation_law.proofs.FramesParties.{server_alone, server_steps, drive_quiet, Never}
use Rattle.relation_law.proofs.KeptNotes.{lawful_front, lawful_back, after_both}
use Rattle.headline_law.specs.Parts.{FollowsShown, AreLawful, ServersKeepRuns}
use Rattle.headline_law.proofs.CalmServer.{MarkLaws, first, t, later, Behind, step_runs}

-- ---- the lines of a step

-- lines without events add none
none_never : (es : List Event) → AreAll Never es → es ≡ []
none_never [] a = refl
none_never (e ∷ es) a = absurd a.0

none_taken : (j : ℕ) (ls : Lines) → LinesAre Never ls → joined (take j ls) ≡ []
none_taken zero ls a = refl
none_taken (suc j) [] a = refl
none_taken (suc j) (l ∷ ls) a = ap (λ (es : List Event). es ++ joined (take j ls)) (none_never l a.0) ∙ none_taken j ls a.1

tail_quiet : (j : ℕ) (ls rest : Lines) → LinesAre Never rest → joined (take j (ls ++ rest)) ≡ joined (take j ls)
tail_quiet j [] rest a = none_taken j rest a ∙ sym (none_taken j [] tt)
tail_quiet zero (l ∷ ls) rest a = refl
tail_quiet (suc j) (l ∷ ls) rest a = ap (λ (es : List Event). l ++ es) (tail_quiet j ls rest a)

-- The first n lines have no event, or those of the step's first line and of j lines behind it.
abbrev pub Splits : (before n : ℕ) → (one : List Event) → (ls whole : Lines) → Type 0
Splits before n one ls whole =
    ((n < before) × (joined (take n whole) ≡ []))
    ⊎ ((j : ℕ) × (n ≡ before + j) × (joined (take n whole) ≡ one ++ joined (take j ls)))

splits : (b : Bool) (n : ℕ) (one : List Event) (ls rest : Lines) → LinesAre Never rest →
    Splits (if b then 2 else 1) n one ls (if b then [] ∷ ((one ∷ ls) ++ rest) else (one ∷ ls) ++ rest)
splits false zero one ls rest a = inl (omega arith, refl)
splits false (suc j) one ls rest a =
    inr (j, omega arith, ap (λ (es : List Event). one ++ es) (tail_quiet j ls rest a))
splits true zero one ls rest a = inl (omega arith, refl)
splits true (suc zero) one ls rest a = inl (omega arith, refl)
splits true (suc (suc j)) one ls rest a =
    inr (j, omega arith, ap (λ (es : List Event). one ++ es) (tail_quiet j ls rest a))

pub splits_at : (a : Action) (n : ℕ) (one : List Event) (ls rest : Lines) → LinesAre Never rest →
    Splits (lines_before a) n one ls (led_by a ((one ∷ ls) ++ rest))
splits_at (Opens e) n one ls rest q = splits (leads e) n one ls rest q
splits_at (Delivers number) n one ls rest q = splits false n one ls rest q
splits_at (TimesOut c k) n one ls rest q = splits false n one ls rest q
splits_at (Pends c) n one ls rest q = splits false n one ls rest q

-- ---- any cut

module _ (laws : MarkLaws) (w : World) (h : List Line) (m : Move) (count : ℕ) (f g : File) (s : State) (pairs : Pairs)
    (k : FollowsShown w h m count f g s pairs) (i : Input) (is : input_in w m.action ≡ Some i) where
  abbrev e : ℕ → ℕ
  e = owed k.follows.related

  lines_are : events_of s w e f m
      ≡ led_by m.action
      ((first laws w h m count f g s pairs k i is ∷ later laws w h m count f g s pairs k i is)
      ++ drive_events s w e f m.action)
  lines_are =
      rw (server_alone w m.action i is)
      (ap (λ (ls : Lines). led_by m.action (ls ++ drive_events s w e f m.action)) server)
    where
      behind : file_at (step w.server m.chosen i).state.files f.kept.number ≡ Some g
      behind = ap (λ (v : Server). file_at v.files f.kept.number) (sym (server_steps w m i is)) ∙ k.follows.goes

      server : server_events s w f.kept.number (input_in w m.action) (did_in w m)
          ≡ first laws w h m count f g s pairs k i is ∷ later laws w h m count f g s pairs k i is
      server =
          ap (λ (o : Option Input). server_events s w f.kept.number o (step_by w.server m.chosen o)) is
          ∙ ap (λ (o : Option File). server_goes s w (step w.server m.chosen i) i o
          (file_at (step w.server m.chosen i).state.files f.kept.number)) k.follows.there
          ∙ ap (λ (o : Option File). server_goes s w (step w.server m.chosen i) i (Some f) o) behind

  -- the machine behind the first n lines
  abbrev pub reached_by : ℕ → State
  reached_by n = after_all s (joined (take n (events_of s w e f m)))

  -- nothing happened there, or it is behind j lines of the step that follow its first
  pub record IsBehind (n : ℕ) : Type 0 where
    pub place : ℕ
    pub lines : ℕ
    pub whole : count ≡ lines_before m.action + lines
    pub there : n ≡ lines_before m.action + place
    pub behind : Behind laws w h m count f g s pairs k i is lines whole place
    pub state : reached_by n ≡ after_all (t laws w h m count f g s pairs k i is)
        (joined (take place (later laws w h m count f g s pairs k i is)))

  pub cut_behind : (n : ℕ) → n ≤ count → AreLawful k.follows n →
      ((n < lines_before m.action) × (joined (take n (events_of s w e f m)) ≡ [])) ⊎ IsBehind n
  cut_behind n low lawful =
      elim (subst (λ (ls : Lines). Splits (lines_before m.action) n (first laws w h m count f g s pairs k i is)
      (later laws w h m count f g s pairs k i is) ls) (sym lines_are)
      (splits_at m.action n (first laws w h m count f g s pairs k i is) (later laws w h m count f g s pairs k i is)
      (drive_events s w e f m.action) (drive_quiet s w e f m.action i is))) [
        | inl none ↦ inl none
        | inr p ↦
            let one : List Event = first laws w h m count f g s pairs k i is in
            let rest : List Event = joined (take p.0 (later laws w h m count f g s pairs k i is)) in
            let at : n ≡ lines_before m.action + p.0 = p.1 in
            let law : Lawful s (one ++ rest) = subst (Lawful s) p.2 lawful in
            let whole : count ≡ lines_before m.action + (count - lines_before m.action) = omega (arith, low, at) in
            inr (record {
              place = p.0;
              lines = count - lines_before m.action;
              whole = whole;
              there = p.1;
              behind =
                  step_runs laws w h m count f g s pairs k i is (count - lines_before m.action) whole p.0
                  (omega (arith, low, at)) (lawful_front s one rest law) (lawful_back s one rest law);
              state = ap (after_all s) p.2 ∙ after_both s one rest;
            })
      ]

pub servers_keep_runs : MarkLaws → ServersKeepRuns
servers_keep_runs laws w h m count f g s pairs k i is n low lawful =
    elim (cut_behind laws w h m count f g s pairs k i is n low lawful) [
      | inl none ↦ subst IsRun (sym (ap (after_all s) none.1)) k.follows.run
      | inr b ↦ subst IsRun (sym b.state) b.behind.0
    ]
