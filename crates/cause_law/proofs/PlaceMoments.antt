-- At each moment of a history, and at any place before, the object of each component is its own.
use Rattle.std.proofs.Common.{◌≡◌, ◌⊎◌, ℕ, zero, suc, ◌<◌, List, [], ◌∷◌, ◌++◌, slice_get, option_map, Option, Some, None, refl, sym, ap, subst, ◌∙◌, arith, inl, inr}
use Rattle.std.proofs.lemmas.List.{append-nil}
use Rattle.scenario_text.specs.declared.line.Line.{Line}
use Rattle.server_rules.specs.Files.{file_at}
use Rattle.server_rules.specs.History.{Input}
use Rattle.server_rules.specs.Laws.{In}
use Rattle.server_rules.proofs.FileLaws.{number_at}
use Rattle.world_history.specs.ServerNames.{Server, File, Component}
use Rattle.world_history.specs.State.{World}
use Rattle.world_history.specs.Plans.{due}
use Rattle.world_history.specs.Sending.{Move, move}
use Rattle.world_history.specs.Book.{ServerSeen, input_at, step_by, server_behind, server_seen, server_after}
use Rattle.world_history.specs.History.{OneEventMore}
use Rattle.world_history.specs.Laws.{ServerGoesOn}
use Rattle.history_law.specs.Moments.{IsMoment, plan_at, lines_in}
use Rattle.history_law.proofs.Files.{in_at}
use Rattle.history_law.proofs.Moments.{always}
use Rattle.component_law.specs.Seeing.{SeenIsSound}
use Rattle.component_law.proofs.Lists.{get_map}
use Rattle.history_law.specs.Doing.{input_in, ServerMoves}
use Rattle.history_law.specs.Parties.{AllPartiesRun}
use Rattle.history_law.specs.Read.{AreWritten, BookIsRead, StepIsRead}
use Rattle.history_law.proofs.Staying.{written_front}
use Rattle.history_law.proofs.StepEnds.{place_of}
use Rattle.history_law.specs.Names.{Target}
use Rattle.exchange_law.proofs.HeldWorlds.{reached}
use Rattle.component_law.specs.Objects.{objects_of, target_of, NoneIs, AllDiffer, IsOwned, AreOwned, EachObjectIsOwned}
use Rattle.cause_law.proofs.Grants.{sound_at}
use Rattle.cause_law.proofs.Reading.{line_read}
use Rattle.cause_law.specs.Numbers.{component_of, IsPlace, AtEnd, AtInput, EachObjectIsOwn}
use Rattle.cause_law.proofs.PlaceSteps.{Claims, Since, since_itself, since_then, step_since}

-- ---- at one moment

-- no two components have a number, nor has one and what a rebuild makes anew; and all were used
pub record Known (s : Server) : Type 0 where
  pub below : (n k o : ℕ) → Claims s n k o → o < s.next_object
  pub unique : (n k m j o : ℕ) → Claims s n k o → Claims s m j o → (n ≡ m) × (k ≡ j)

in_get : (xs : List ℕ) (k o : ℕ) → slice_get xs k ≡ Some o → In o xs
in_get [] k o e = absurd (cc e)
in_get (x ∷ xs) zero o e = inl (cc (sym e))
in_get (x ∷ xs) (suc k) o e = inr (in_get xs k o e)

pub not_in : (xs : List ℕ) (o : ℕ) → NoneIs o xs → In o xs → ⊥
not_in [] o none i = i
not_in (x ∷ xs) o none (inl e) = none.0 (sym e)
not_in (x ∷ xs) o none (inr i) = not_in xs o none.1 i

one_place : (xs : List ℕ) (k j o : ℕ) → AllDiffer xs → slice_get xs k ≡ Some o → slice_get xs j ≡ Some o → k ≡ j
one_place [] k j o d e f = absurd (cc e)
one_place (x ∷ xs) zero zero o d e f = refl
one_place (x ∷ xs) zero (suc j) o d e f = absurd (not_in xs o (subst (λ (y : ℕ). NoneIs y xs) (cc e) d.0) (in_get xs j o f))
one_place (x ∷ xs) (suc k) zero o d e f = absurd (not_in xs o (subst (λ (y : ℕ). NoneIs y xs) (cc f) d.0) (in_get xs k o e))
one_place (x ∷ xs) (suc k) (suc j) o d e f = ap (λ (i : ℕ). suc i) (one_place xs k j o d.1 e f)

module _ (owner : ℕ → ℕ) (s : Server) (owned : AreOwned owner s) where
  of_claim : (n k o : ℕ) (c : Claims s n k o) → (o < s.next_object) × (owner o ≡ n)
  of_claim n k o c =
      let own : IsOwned owner s.next_object c.file = owned c.file (in_at s.files n c.file c.found) in
      let here : c.file.kept.number ≡ n = number_at s.files n c.file c.found in
      elim c.has [
        | inl e ↦
            let r = own.components o (in_get (objects_of c.file.kept.components) k o e) in (r.0, r.1 ∙ here)
        | inr (t, e, is, its) ↦
            let r = own.target t e in
            subst (λ (x : ℕ). (x < s.next_object) × (owner x ≡ n)) its (r.0, r.1 ∙ here)
      ]

  in_file : (f : File) → In f s.files → (k j o : ℕ)
      → (slice_get (objects_of f.kept.components) k ≡ Some o)
      ⊎ ((t : Target) × (target_of f.job ≡ Some t) × (t.component ≡ k) × (t.object ≡ o))
      → (slice_get (objects_of f.kept.components) j ≡ Some o)
      ⊎ ((t : Target) × (target_of f.job ≡ Some t) × (t.component ≡ j) × (t.object ≡ o)) → k ≡ j
  in_file f i k j o (inl e) (inl g) = one_place (objects_of f.kept.components) k j o (owned f i).differ e g
  in_file f i k j o (inl e) (inr (t, g, is, its)) =
      absurd (not_in (objects_of f.kept.components) o
      (subst (λ (x : ℕ). NoneIs x (objects_of f.kept.components)) its ((owned f i).apart t g))
      (in_get (objects_of f.kept.components) k o e))
  in_file f i k j o (inr (t, g, is, its)) (inl e) =
      absurd (not_in (objects_of f.kept.components) o
      (subst (λ (x : ℕ). NoneIs x (objects_of f.kept.components)) its ((owned f i).apart t g))
      (in_get (objects_of f.kept.components) j o e))
  in_file f i k j o (inr (t, g, is, its)) (inr (u, h, was, same)) =
      let one : t ≡ u = cc (sym g ∙ h) in
      sym is ∙ ap (λ (x : Target). x.component) one ∙ was

  pub known : Known s
  known = record {
    below = λ n k o c. (of_claim n k o c).0;
    unique = λ n k m j o c d.
        let same : n ≡ m = sym (of_claim n k o c).1 ∙ (of_claim m j o d).1 in
        let one : d.file ≡ c.file =
        some_same d.file c.file (sym d.found ∙ ap (file_at s.files) (sym same) ∙ c.found) in (
          same,
          in_file c.file (in_at s.files n c.file c.found) k j o c.has
              (subst (λ (f : File). (slice_get (objects_of f.kept.components) j ≡ Some o)
              ⊎ ((t : Target) × (target_of f.job ≡ Some t) × (t.component ≡ j) × (t.object ≡ o))) one d.has),
        );
  }
    where
      some_same : (f g : File) → Some f ≡ Some g → f ≡ g
      some_same f g e = cc e

-- ---- the moments

module _ (owns : EachObjectIsOwned) (runs : AllPartiesRun) (seen : SeenIsSound) (read : BookIsRead) (step_read : StepIsRead)
    (moves : ServerMoves) (on : ServerGoesOn) where
  known_at : (w : World) (h : List Line) → IsMoment w h → Known w.server
  known_at w h k =
      let r = (runs w (reached w h k)).server in
      let o = owns r.acts in
      known o.0 w.server (subst (AreOwned o.0) (sym r.is) (o.1 r.acts [] (sym (append-nil r.acts))))

  abbrev So : World → List Line → Type 0
  So w h = AreWritten h → (before : List Line) (l : Line) (after : List Line) (i : Input) → h ≡ before ++ l ∷ after
      → input_at (server_seen before) l ≡ Some i → Since (server_after before) w.server × Known (server_after before)

  module _ (w : World) (h : List Line) (k : IsMoment w h) (m : Move) (d : due (plan_at k) w ≡ Some m.action) (so : So w h)
      (written : AreWritten (h ++ lines_in w m)) where
    abbrev ms : List Line
    ms = lines_in w m

    written_here : AreWritten h
    written_here = written_front h ms written

    there : server_after h ≡ w.server
    there = ap (λ (s : ServerSeen). s.server) (read w h k written_here)

    goes : Since w.server (move w m).world.server
    goes = subst (Since w.server) (sym (moves w m).server) (by (input_in w m.action))
      where
        by : (o : Option Input) → Since w.server (server_behind w.server (step_by w.server m.chosen o))
        by None = since_itself w.server
        by (Some i) = step_since w.server m.chosen i (sound_at seen read w h k written_here).distinct

    moved : (before : List Line) (l : Line) (after : List Line) (i : Input) → h ++ ms ≡ before ++ l ∷ after
        → input_at (server_seen before) l ≡ Some i
        → Since (server_after before) (move w m).world.server × Known (server_after before)
    moved before l after i is comes = elim (place_of h ms before after l is) [
      | inl (rest, own, more) ↦
          let r = so written_here before l rest i own comes in
          (since_then (server_after before) w.server (move w m).world.server r.0 goes, r.1)
      | inr (front, own, it) ↦
          let here : server_after before ≡ w.server =
          ap server_after own
          ∙ (line_read on w h m front l after it
          (i, subst (λ (ls : List Line). input_at (server_seen ls) l ≡ Some i) own comes)
          (step_read w h k m d written)).server
          ∙ there in
          subst (λ (s : Server). Since s (move w m).world.server × Known s) (sym here) (goes, known_at w h k)
    ]

  starts : (before : List Line) (l : Line) (after : List Line) → [] ≡ before ++ l ∷ after → ⊥
  starts [] l after e = cc e
  starts (x ∷ before) l after e = cc e

  so_at : OneEventMore → (w : World) (h : List Line) → IsMoment w h → So w h
  so_at more w h k = always So (record {
    starts = λ x b y t j none c. absurd (starts b y t none);
    moves = λ u g j n x so written. moved u g j n x so written;
  }) more w h k

  -- ---- in the words of the lines

  claim_of : (s : Server) (n k : ℕ) (a : Component) (o : Option File) → file_at s.files n ≡ o → component_of o k ≡ Some a
      → Claims s n k a.object
  claim_of s n k a None found e = absurd (cc e)
  claim_of s n k a (Some f) found e = record {
    file = f;
    found = found;
    has = inl (get_map (λ (at : Component). at.object) f.kept.components k
        ∙ ap (option_map (λ (at : Component). at.object)) e);
  }

  pub each_object_is_own : OneEventMore → EachObjectIsOwn
  each_object_is_own more h w k written before place n j a one m i b other same =
      by place
      (claim_of (server_after before) n j a (file_at (server_after before).files n) refl one)
      (subst (Claims (server_after h) m i) (sym same)
      (claim_of (server_after h) m i b (file_at (server_after h).files m) refl other))
    where
      there_now : server_after h ≡ w.server
      there_now = ap (λ (s : ServerSeen). s.server) (read w h k written)

      by : IsPlace h before → Claims (server_after before) n j a.object → Claims (server_after h) m i a.object
          → (n ≡ m) × (j ≡ i)
      by (AtEnd is) c d =
          (subst Known (sym there_now) (known_at w h k)).unique n j m i a.object
          (subst (λ (ls : List Line). Claims (server_after ls) n j a.object) (sym is) c) d
      by (AtInput l after x is comes) c d =
          let r = so_at more w h k written before l after x is comes in
          elim (r.0.back m i a.object (subst (λ (s : Server). Claims s m i a.object) there_now d)) [
            | inl old ↦ r.1.unique n j m i a.object c old
            | inr new ↦
                let less : a.object < (server_after before).next_object = r.1.below n j a.object c in
                absurd (omega (arith, less, new))
          ]
