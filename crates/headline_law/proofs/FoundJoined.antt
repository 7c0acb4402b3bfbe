-- Where a drive performs what a client's call awaits, the component of its ask is there: `AwaitedWritesAreFound`
-- (`headline_law/specs/ClientTold.antt`) and `EachAwaitIsThere` (`headline_law/specs/Reads.antt`) hold.
use Rattle.std.proofs.Common.{ℕ, length, take, sym, ap, ◌∙◌, inl}
use Rattle.world_history.specs.State.{at_number}
use Rattle.world_history.specs.Stripes.{component_at}
use Rattle.history_law.specs.Moments.{lines_in}
use Rattle.history_law.proofs.Coming.{clean_front}
use Rattle.component_law.specs.Offline.{OfflineHaveFailed}
use Rattle.relation_law.proofs.ComponentsMoved.{MovedLaws, scenario}
use Rattle.headline_law.specs.ClientTold.{AwaitedWritesAreFound}
use Rattle.headline_law.specs.Reads.{EachAwaitIsThere}
use Rattle.headline_law.proofs.FoundAsked.{helds_became}
use Rattle.headline_law.proofs.FoundAwaited.{FoundLaws, awaited_writes_are_found, found_there}
use Rattle.headline_law.proofs.FoundSettled.{SettledLaws, each_fence_sets_tags, each_file_is_settled}
use Rattle.headline_law.proofs.ReadsWell.{own_well}

-- what is known of histories
pub record JoinedLaws : Type 0 where
  pub moved : MovedLaws
  pub settled : SettledLaws
  pub offline : OfflineHaveFailed

module _ (laws : JoinedLaws) where
  found_laws : FoundLaws
  found_laws = record {
    moved = laws.moved;
    became = helds_became (record {
      moved = laws.moved;
      offline = laws.offline;
      settled = each_file_is_settled laws.settled;
      fences = each_fence_sets_tags laws.settled;
    });
    own = λ w h k t m c d x i from to reads. own_well laws.moved w h k t m c d x i from to reads;
    unforged = laws.moved.unforged;
  }

  pub writes_are_found : AwaitedWritesAreFound
  writes_are_found = awaited_writes_are_found found_laws

  pub awaits_are_there : EachAwaitIsThere
  awaits_are_there w h m f g s k c d at a by same p = (
    a.ask.component,
    ap (λ (n : ℕ). component_at n a.command.object f.kept.components 0) (sym same)
        ∙ found_there found_laws w h k.follows.moment (scenario laws.moved w h m f g s k)
        (clean_front h (take (length (lines_in w m)) (lines_in w m)) k.follows.calm.is_unguessed) f k.follows.there c a by
        (record {
          drive = at;
          there = ap (at_number w.drives) same ∙ p.there;
          hears = p.hears;
          done = inl p.clear;
        }),
  )
