-- What clients' reads were shown is so behind each whole move.
-- Towards `ReadsFollow` (`headline_law/specs/Parts.antt`).
use Rattle.std.proofs.Common.{◌≡◌, ◌<◌, ℕ, List, Option, Some, None, refl, sym, ap, subst, ◌∙◌, inl, inr}
use Rattle.std.proofs.lemmas.Bool.{cases_eq}
use Rattle.scenario_text.specs.declared.line.Line.{Line}
use Rattle.scenario_text.specs.declared.names.TheConstants.{CLIENTS}
use Rattle.client_rules.specs.Calls.{file_of}
use Rattle.world_history.specs.ClientNames.{Call}
use Rattle.world_history.specs.ServerNames.{File}
use Rattle.world_history.specs.State.{World}
use Rattle.world_history.specs.Sending.{Move, move}
use Rattle.fence_law.specs.State.{State}
use Rattle.fence_law.specs.State.Call.{Reads as AtRead}
use Rattle.file_simulation.specs.ClientEvents.{Going, going_in}
use Rattle.file_simulation.specs.Messages.{ShownIn}
use Rattle.file_simulation.specs.Relation.{client_of}
use Rattle.relation_law.specs.ReadsDrive.{AwaitWell}
use Rattle.relation_law.specs.Steps.{FollowsWhole, owed, whole_behind, ReadsGoOn}
use Rattle.relation_law.proofs.FramesFiles.{file_stays}
use Rattle.relation_law.proofs.ReadsGo.{ShownBehind, shown_of_others}
use Rattle.headline_law.specs.Parts.{ReadsFollow}
use Rattle.headline_law.specs.Reads.{EachAwaitIsWell, EachAwaitIsThere, EachAskIsPlaced}
use Rattle.headline_law.proofs.ReadsOwn.{own_shown}
use Rattle.headline_law.proofs.ReadsStands.{await_stands}
use Rattle.headline_law.proofs.ReadsWell.{await_well}
use Rattle.headline_law.proofs.SentMove.{SentLaws}

module _ (laws : SentLaws) (w : World) (h : List Line) (m : Move) (f g : File) (s : State) (k : FollowsWhole w h m f g s)
    (well : AwaitWell s w f) (c : ℕ) (low : c < CLIENTS) (call : Call) (j : ℕ)
    (at : (client_of (move w m).world c).call ≡ Some call) (here : file_of call.op ≡ f.kept.number)
    (runs : (whole_behind k).call c ≡ AtRead j) where
  -- of a client beside the move
  beside : ((x : Going) → going_in w m.action ≡ Some x → c ≡ x.client → ⊥) →
      ShownIn (whole_behind k) (move w m).world c j call.phase
  unfolding ShownBehind
  beside other =
      shown_of_others w h k.follows.moment m k.follows.is_due f s (owed k.follows.related) well k.follows.related.components c
      other (λ y i is on runs_before. (k.follows.related.clients c low).shown y i is on runs_before) call j at here runs

  shown : ShownIn (whole_behind k) (move w m).world c j call.phase
  shown = by (going_in w m.action) refl
    where
      by : (o : Option Going) → going_in w m.action ≡ o → ShownIn (whole_behind k) (move w m).world c j call.phase
      by None none = beside (λ x is e. cc (sym none ∙ is))
      by (Some x) is = elim (cases_eq c x.client) [
        | inl it ↦
            subst (λ (n : ℕ). ShownIn (whole_behind k) (move w m).world n j call.phase) (sym it)
            (own_shown laws w h m f g s k x is call j (subst (λ (n : ℕ). (client_of (move w m).world n).call ≡ Some call) it at)
            here (subst (λ (n : ℕ). (whole_behind k).call n ≡ AtRead j) it runs))
        | inr other ↦
            beside (λ y its e.
            let both : Some x ≡ Some y = sym is ∙ its in
            let same : x ≡ y = cc both in
            other (e ∙ sym (ap (λ (z : Going). z.client) same)))
      ]

-- so it is of all clients
pub reads_go_on : SentLaws → EachAwaitIsWell → ReadsGoOn
reads_go_on laws well w h m f g s k c low call j at here runs =
    let stays = file_stays w h k.follows.moment m k.follows.is_due f.kept.number f g k.follows.there k.follows.goes in
    shown laws w h m f g s k (well w h m f g s k) c low call j at (here ∙ stays.same.number) runs

-- and so it is where what drives perform of what clients await goes to present components, at the positions that are asked
pub reads_follow : SentLaws → EachAwaitIsThere → EachAskIsPlaced → ReadsFollow
reads_follow laws there placed w h m f g s k parts =
    reads_go_on laws (await_well laws.moved (await_stands laws.moved there placed)) w h m f g s k
