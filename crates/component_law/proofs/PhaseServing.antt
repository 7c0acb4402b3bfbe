-- What a request sends for a file: nothing but what a fence begins.
use Rattle.std.proofs.Common.{ℕ, ◌≤◌, List}
use Rattle.server_rules.specs.Going.{Going}
use Rattle.server_rules.specs.Requests.{serves}
use Rattle.server_rules.specs.Standing.{lose_from}
use Rattle.history_law.specs.Names.{Kept, Awaited, Revoking, RequestArgs}
use Rattle.component_law.proofs.SentNumbers.{objects_from}
use Rattle.component_law.proofs.Ends.{Ends}
use Rattle.component_law.proofs.PhaseJobs.{ends_fence, ends_same}
use Rattle.component_law.proofs.RequestWalk.{IsServed, ends_served as served_by}

module _ (P : ℕ → Type 0) (number n : ℕ) (fresh : (o : ℕ) → n ≤ o → P o) (k0 : Kept) (before : List Awaited) where
  abbrev End : Going → Type 0
  End g = Ends P number n k0 before g

  served : IsServed End End
  served = record {
    stays = λ g h. h;
    fence = λ format g h. ends_fence P number n fresh k0 before Revoking format g h.0;
    lost = λ g ks h.
        ends_same P number n fresh k0 before g (lose_from ks g.file.kept.components 0)
        (objects_from ks g.file.kept.components 0) h;
    noted = λ g b x p h. h;
    granted = λ g gs high h. h;
    sized = λ g size h. h;
  }

  pub ends_served : (go : Going) (next format now client : ℕ) (args : RequestArgs) → End go
      → End (serves go next format now client args).going
  ends_served go next format now client args h = served_by End End served go next format now client args h
