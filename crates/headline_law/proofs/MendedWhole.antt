-- Right behind a note that a repair is over and left no stripe short, no stripe that the repair counted is disturbed.
-- Of `RepairsLeaveNoneDisturbed` (`file_simulation/specs/Claim.antt`).
use Rattle.std.proofs.Common.{◌≡◌, ◌==◌, ◌&&◌, ◌||◌, ◌++◌, not, ℕ, Bool, true, false, List, [], ◌∷◌, length, map, Option, Some, refl, sym, ap, subst, ◌∙◌, inl, inr, append_assoc}
use Rattle.std.specs.List.{fold, list_any}
use Rattle.std.proofs.lemmas.Bool.{and_parts, cases_Bool, eqb-true, eq-eqb}
use Rattle.std.proofs.lemmas.List.{append-nil, nil_from_length}
use Rattle.std.proofs.lemmas.List.Sums.{fold-append}
use Rattle.data_map.specs.Striping.{parities}
use Rattle.data_map.specs.declared.check.RawMap.{RawMap}
use Rattle.scenario_text.specs.declared.line.Note.TheVariants as note
use Rattle.scenario_text.specs.declared.line.Line.{Line}
use Rattle.scenario_text.specs.declared.line.Line.TheVariants as line
use Rattle.server_rules.specs.Files.{file_at, Step as ServerStep}
use Rattle.server_rules.specs.Numbers.{among}
use Rattle.world_history.specs.ServerNames.{File, Mended}
use Rattle.world_history.specs.State.{World, empty_world}
use Rattle.world_history.specs.History.{Lawful}
use Rattle.world_history.specs.Plans.{due}
use Rattle.world_history.specs.Sending.{Move}
use Rattle.world_history.specs.Reading.{Step}
use Rattle.world_history.specs.Book.{ServerSeen, server_step, sees_server, server_at_first}
use Rattle.world_history.specs.Calm.{Seen, Watched, sees, first_seen, moment_of, mended_in, begins, through, watched, watches, marks_behind, begun_file, takes_loss, is_told_taken}
use Rattle.world_history.specs.Stripes.{Mark, Moment, is_in, marks_as, is_unfinished, is_disturbed, is_worked, is_repaired, marks_left}
use Rattle.history_law.specs.Moments.{IsMoment, plan_at, lines_in}
use Rattle.history_law.specs.Read.{AreWritten}
use Rattle.history_law.proofs.Each.{EachBehind, each_more, each_front, at_each_line}
use Rattle.history_law.proofs.Moments.{always}
use Rattle.history_law.proofs.Staying.{written_front}
use Rattle.exchange_law.proofs.Along.{lawful}
use Rattle.component_law.proofs.SeenServer.{seen_server}
use Rattle.cause_law.proofs.Unanswered.{between}
use Rattle.cause_law.proofs.Words.{found as find_first}
use Rattle.file_simulation.specs.Claim.{EndsRepair, RepairsLeaveNoneDisturbed}
use Rattle.headline_law.specs.Mended.{RepairsAreCounted}
use Rattle.headline_law.proofs.CalmMoments.{noted_file}
use Rattle.headline_law.proofs.CalmServer.{begun_each}
use Rattle.headline_law.proofs.CalmTaken.{or_true}
use Rattle.headline_law.proofs.MendedJobs.{repair_of}
use Rattle.headline_law.proofs.MendedTold.{over_line}
use Rattle.headline_law.proofs.MendedCuts.{RepairLaws, EndsThere, OverAt, over_at}

-- ---- each line of a lawful history

-- where the lines before it are such as a text has them
abbrev WhereWritten : List Line → Line → Type 0
WhereWritten before l = AreWritten before → OverAt before l

module _ (laws : RepairLaws) where
  own_lines : (w : World) (h : List Line) (k : IsMoment w h) (m : Move) → due (plan_at k) w ≡ Some m.action →
      (front rest : List Line) → lines_in w m ≡ front ++ rest → EachBehind WhereWritten (h ++ front) rest
  own_lines w h k m d front [] is = tt
  own_lines w h k m d front (l ∷ rest) is = (
    λ written. over_at laws w h k m d front l rest is written,
    subst (λ (b : List Line). EachBehind WhereWritten b rest) (sym (append_assoc h front (l ∷ [])))
        (own_lines w h k m d (front ++ l ∷ []) rest (is ∙ sym (append_assoc front (l ∷ []) rest))),
  )

  all_lines : (w : World) (h : List Line) → IsMoment w h → EachBehind WhereWritten [] h
  all_lines w h k =
      always (λ (v : World) (g : List Line). EachBehind WhereWritten [] g) (record {
        starts = tt;
        moves = λ v g j m d x.
            each_more WhereWritten [] g (lines_in v m) x
            (subst (λ (b : List Line). EachBehind WhereWritten b (lines_in v m)) (append-nil g)
            (own_lines v g j m d [] (lines_in v m) refl));
      }) laws.one_event_more w h k

  over_there : (before : List Line) (l : Line) → Lawful (before ++ l ∷ []) → AreWritten before → OverAt before l
  over_there before l is written =
      let x : (w : World) × (more : List Line) × IsMoment w ((before ++ l ∷ []) ++ more) =
      lawful laws.one_event_more IsMoment
      (record {
        starts = between empty_world [] (record { steps = []; carried = tt; world_is = refl; lines_are = refl });
        moves = λ w h m k next may j. next;
      }) (before ++ l ∷ []) is in
      at_each_line WhereWritten (before ++ l ∷ [])
      (each_front WhereWritten [] (before ++ l ∷ []) x.1 (all_lines x.0 ((before ++ l ∷ []) ++ x.1) x.2)) before l [] refl
      written

-- ---- marks

-- where no mark is left in the stripe it isn't disturbed
none_disturb : (m : Moment) (f s : ℕ) (ks : List Mark) → list_any (is_in f s) ks ≡ false →
    list_any (λ (k : Mark). is_in f s k && marks_as m is_unfinished k) ks ≡ false
none_disturb m f s [] none = refl
none_disturb m f s (k ∷ ks) none = elim (cases_Bool (is_in f s k)) [
  | inl t ↦ absurd (cc (rw t at none))
  | inr z ↦ rw z (none_disturb m f s ks (rw z at none))
]

-- a repair that did a stripe leaves none in it
none_left : (ks : List Mark) (map : RawMap) (r : Mended) (f s : ℕ) → r.file ≡ f → is_repaired map r s ≡ true →
    list_any (is_in f s) (marks_left ks map r) ≡ false
none_left [] map r f s same done = refl
none_left (k ∷ ks) map r f s same done = elim (cases_Bool (is_in f s k)) [
  | inl t ↦
      let parts : ((k.file == f) ≡ true) × ((k.stripe == s) ≡ true) = and_parts (k.file == f) (k.stripe == s) t in
      let file : k.file ≡ r.file = eqb-true k.file f parts.0 ∙ sym same in
      let stripe : k.stripe ≡ s = eqb-true k.stripe s parts.1 in
      let out : ((k.file == r.file) && is_repaired map r k.stripe) ≡ true =
      rw (eq-eqb k.file r.file file, ap (is_repaired map r) stripe ∙ done) refl in
      rw out (none_left ks map r f s same done)
  | inr z ↦ elim (cases_Bool ((k.file == r.file) && is_repaired map r k.stripe)) [
    | inl out ↦ rw out (none_left ks map r f s same done)
    | inr stays ↦ rw (stays, z) (none_left ks map r f s same done)
  ]
]

-- it did each stripe that it counted, where it left none short
all_done : (map : RawMap) (r : Mended) (s : ℕ) → length r.short ≡ 0 → is_worked s r.worked ≡ true →
    is_repaired map r s ≡ true
unfolding among
all_done map r s none worked =
    rw worked (subst (λ (ss : List ℕ). ((parities map == 0) || not (among s ss)) ≡ true)
    (sym (nil_from_length r.short none)) (or_true (parities map == 0)))

-- ---- the moment behind the note

-- the file is there through the lines of the step
stands_through : (rs : List Mended) (ls : List Line) (w : Watched) (n : ℕ) (x : File) →
    file_at w.moment.server.files n ≡ Some x →
    (y : File) × (file_at (fold (watches rs) w ls).moment.server.files n ≡ Some y)
stands_through rs [] w n x e = (x, e)
stands_through rs (line.Note f what ∷ ls) w n x e =
    stands_through rs ls (watches rs w (line.Note f what)) n _ (noted_file w.moment.server.files f n what x e)
stands_through rs (l ∷ ls) w n x e = stands_through rs ls (watches rs w l) n x e

module _ (h : List Line) (file stripes s : ℕ) (it : EndsThere h (over_line file stripes 0) file stripes 0)
    (worked : is_worked s it.so.repair.worked ≡ true) where
  abbrev last : Step
  last = it.so.ends.last

  -- what was seen before the last step, where its notes begin, and just before the note
  abbrev there : Seen
  there = fold sees first_seen it.so.ends.earlier

  abbrev first : Watched
  first = watched (record { moment = there.moment; calm = there.calm }) (begins there last (Some it.did))

  abbrev now : Watched
  now = fold (watches it.did.mended) first it.rest

  stands : (g : File) × (file_at now.moment.server.files file ≡ Some g)
  stands =
      let untold : Bool = takes_loss (Some it.did) && not (is_told_taken last.rest) in
      stands_through it.did.mended it.rest first file (begun_file untold there.server.server.files it.file)
      (begun_each untold there.server.server.files it.did.state.files file it.file it.there)

  behind : (through there last (Some it.did)).moment.marks ≡ marks_left now.moment.marks stands.0.kept.map it.so.repair
  behind =
      ap (λ (ls : List Line). (fold (watches it.did.mended) first ls).moment.marks) it.line_last
      ∙ ap (λ (w : Watched). w.moment.marks)
      (fold-append (watches it.did.mended) first it.rest (over_line file stripes 0 ∷ []))
      ∙ ap (λ (o : Option Mended). marks_behind now.moment.marks (note.Repaired stripes 0)
      (file_at now.moment.server.files file) o) it.found
      ∙ ap (λ (o : Option File). marks_behind now.moment.marks (note.Repaired stripes 0) o (Some it.so.repair)) stands.1

  own_file : it.so.repair.file ≡ file
  own_file =
      eqb-true it.so.repair.file file
      (find_first (λ (x : Mended). x.file == file) it.did.mended it.so.repair it.found).passes

  seen_is : moment_of h ≡ (sees there last).moment
  seen_is =
      ap (λ (ts : List Step). (fold sees first_seen ts).moment) it.so.ends.steps
      ∙ ap (λ (z : Seen). z.moment) (fold-append sees first_seen it.so.ends.earlier (last ∷ []))

  does : server_step there.server last ≡ Some it.did
  does = ap (λ (z : ServerSeen). server_step z last) (seen_server first_seen it.so.ends.earlier) ∙ it.does

  undisturbed : is_disturbed (moment_of h) file s ≡ false
  unfolding is_disturbed
  undisturbed =
      ap (λ (m : Moment). is_disturbed m file s) seen_is
      ∙ none_disturb (sees there last).moment file s (sees there last).moment.marks
      (ap (λ (o : Option ServerStep). list_any (is_in file s) (through there last o).moment.marks) does
      ∙ ap (list_any (is_in file s)) behind
      ∙ none_left now.moment.marks stands.0.kept.map it.so.repair file s own_file
      (all_done stands.0.kept.map it.so.repair s it.so.left worked))

-- ---- any history

-- what the last of some steps ended
abbrev ended_by : ServerSeen → List Step → List Mended
ended_by s [] = []
ended_by s (t ∷ []) = mended_in (server_step s t)
ended_by s (t ∷ u ∷ ts) = ended_by (sees_server s t) (u ∷ ts)

by_last : (s : ServerSeen) (ts : List Step) (t : Step) →
    ended_by s (ts ++ t ∷ []) ≡ mended_in (server_step (fold sees_server s ts) t)
by_last s [] t = refl
by_last s (u ∷ []) t = refl
by_last s (u ∷ v ∷ ts) t = by_last (sees_server s u) (v ∷ ts) t

-- so two repairs that the last of some steps ends are one
same_repair : (h : List Line) (file : ℕ) (r q : Mended) → EndsRepair h file r → EndsRepair h file q → r ≡ q
same_repair h file r q one other =
    let same : Some r ≡ Some q =
    sym one.found
    ∙ ap (repair_of file)
    (sym (by_last server_at_first one.earlier one.last) ∙ ap (ended_by server_at_first) (sym one.steps ∙ other.steps)
    ∙ by_last server_at_first other.earlier other.last)
    ∙ other.found in
    cc same

module _ (laws : RepairLaws) (before : List Line) (file stripes short : ℕ)
    (is : Lawful (before ++ over_line file stripes short ∷ []))
    (written : AreWritten (before ++ over_line file stripes short ∷ [])) where
  it : EndsThere (before ++ over_line file stripes short ∷ []) (over_line file stripes short) file stripes short
  it =
      over_there laws before (over_line file stripes short) is
      (written_front before (over_line file stripes short ∷ []) written) file stripes short refl

-- Each lawful history is so, whatever its events are, as long as a text could have them.
pub repairs_leave_none_disturbed : RepairLaws → RepairsLeaveNoneDisturbed
repairs_leave_none_disturbed laws before file stripes r is written ends s worked =
    let x = it laws before file stripes 0 is written in
    undisturbed (before ++ over_line file stripes 0 ∷ []) file stripes s x
    (subst (λ (q : Mended). is_worked s q.worked ≡ true)
    (same_repair (before ++ over_line file stripes 0 ∷ []) file r x.so.repair ends x.so.ends) worked)

pub repairs_are_counted : RepairLaws → RepairsAreCounted
repairs_are_counted laws before file stripes short is written = (it laws before file stripes short is written).so
