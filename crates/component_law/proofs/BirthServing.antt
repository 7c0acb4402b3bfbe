-- What a request sends for a file, each under a tag since its object: nothing but what a fence begins.
use Rattle.std.proofs.Common.{ℕ, List}
use Rattle.server_rules.specs.Going.{Going, with_components}
use Rattle.server_rules.specs.Requests.{serves}
use Rattle.server_rules.specs.Standing.{lose_from}
use Rattle.history_law.specs.Names.{Awaited, Revoking, RequestArgs}
use Rattle.component_law.proofs.SentNumbers.{objects_from}
use Rattle.component_law.proofs.BirthEnds.{Holds, Ends, holds_on}
use Rattle.component_law.proofs.BirthJobs.{ends_fence, holds_same}
use Rattle.component_law.proofs.RequestWalk.{IsServed, ends_served as served_by}

module _ (birth : ℕ → ℕ) (n : ℕ) (before : List Awaited) where
  abbrev Hold : Going → Type 0
  Hold g = Holds birth n before g

  abbrev End : Going → Type 0
  End g = Ends birth n before g

  served : IsServed Hold End
  served = record {
    stays = λ g h. holds_on birth n before g h;
    fence = λ format g h. ends_fence birth n before Revoking format g h.0;
    lost = λ g ks h.
        holds_on birth n before (with_components g (lose_from ks g.file.kept.components 0))
        (holds_same birth n before g (lose_from ks g.file.kept.components 0) (objects_from ks g.file.kept.components 0) h);
    noted = λ g b x p h. h;
    granted = λ g gs high h. h;
    sized = λ g size h. h;
  }

  pub ends_served : (go : Going) (next format now client : ℕ) (args : RequestArgs) → Hold go
      → End (serves go next format now client args).going
  ends_served go next format now client args h = served_by Hold End served go next format now client args h
