-- Where a client's grant names an object of a component that its file has now, it names it for that component.
-- Towards `SentGoesOn` and `ReadsFollow` (`relation_law/specs/Steps.antt`, `headline_law/specs/Parts.antt`).
use Rattle.std.proofs.Common.{◌≡◌, ℕ, List, [], ◌∷◌, ◌++◌, Some, option_map, slice_get, refl, sym, ap, subst, ◌∙◌, inl, inr, arith}
use Rattle.component_law.proofs.Lists.{get_map}
use Rattle.server_rules.specs.Files.{file_at}
use Rattle.server_rules.specs.History.{Act, step, state_after}
use Rattle.server_rules.specs.Making.{new_server}
use Rattle.world_history.specs.ServerNames.{Server, File, Component}
use Rattle.world_history.specs.ClientNames.{Held}
use Rattle.component_law.specs.Distinct.{AreDistinct}
use Rattle.component_law.proofs.ObjectRuns.{each_object_is_owned}
use Rattle.exchange_law.specs.Sent.{Names}
use Rattle.cause_law.proofs.Moments.{WasHeld}
use Rattle.cause_law.proofs.PlaceMoments.{Known, known}
use Rattle.cause_law.proofs.PlaceSteps.{Claims, Since, since_itself, since_then, step_since}
use Rattle.relation_law.proofs.FramesFiles.{step_stays}

-- files have different numbers at the end of each run
pub distinct_over : (s : Server) (acts : List Act) → AreDistinct s.files → AreDistinct (state_after s acts).files
distinct_over s [] d = d
distinct_over s (a ∷ acts) d = distinct_over (step s a.chosen a.input).state acts (step_stays s a.chosen a.input d).0

-- and over it components keep their objects, or get new ones
since_over : (s : Server) (acts : List Act) → AreDistinct s.files → Since s (state_after s acts)
since_over s [] d = since_itself s
since_over s (a ∷ acts) d =
    since_then s (step s a.chosen a.input).state (state_after (step s a.chosen a.input).state acts)
    (step_since s a.chosen a.input d)
    (since_over (step s a.chosen a.input).state acts (step_stays s a.chosen a.input d).0)

pub after_more : (s : Server) (xs ys : List Act) → state_after s (xs ++ ys) ≡ state_after (state_after s xs) ys
after_more s [] ys = refl
after_more s (a ∷ xs) ys = after_more (step s a.chosen a.input).state xs ys

claims : (s : Server) (f : File) (n k o : ℕ) (at : Component) → file_at s.files n ≡ Some f →
    slice_get f.kept.components k ≡ Some at → at.object ≡ o → Claims s n k o
claims s f n k o at found there is = record {
  file = f;
  found = found;
  has = inl (get_map (λ (x : Component). x.object) f.kept.components k
      ∙ ap (option_map (λ (x : Component). x.object)) there ∙ ap Some is);
}

module _ (run : List Act) (n : ℕ) (h : Held) (x : WasHeld run n h) where
  abbrev front : Server
  front = state_after (new_server []) x.there.before

  known_there : Known front
  known_there =
      let owns = each_object_is_owned run in
      known owns.0 front (owns.1 x.there.before x.there.after x.there.run)

  now_is : state_after (new_server []) run ≡ state_after front x.there.after
  now_is = ap (state_after (new_server [])) x.there.run ∙ after_more (new_server []) x.there.before x.there.after

  since : Since front (state_after (new_server []) run)
  since =
      subst (Since front) (sym now_is)
      (since_over front x.there.after (distinct_over (new_server []) x.there.before tt))

  pub same_place : (k o : ℕ) → Names h k o → (f : File) → file_at (state_after (new_server []) run).files n ≡ Some f →
      (j : ℕ) (at : Component) → slice_get f.kept.components j ≡ Some at → at.object ≡ o → k ≡ j
  same_place k o names f found j at there is =
      let p = x.lists k o names in
      let first : Claims front n k o = claims front x.file n k o p.at x.there.found p.found p.object in
      elim (since.back n j o (claims (state_after (new_server []) run) f n j o at found there is)) [
        | inl old ↦ (known_there.unique n k n j o first old).1
        | inr new ↦ let low = known_there.below n k o first in absurd (omega (arith, low, new))
      ]
