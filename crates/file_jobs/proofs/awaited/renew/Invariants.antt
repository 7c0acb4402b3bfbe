use Rattle.std.proofs.Common.{◌≡◌, drop, take}
use Rattle.std.specs.Prelude.{List, ℕ, ◌==◌, length, map, if◌then◌else◌}
use Rattle.server_rules.specs.declared.jobs.Awaited.{Awaited}
use Rattle.file_jobs.proofs.awaited.renew.Given as goal

pub record Renewed (former : ℕ) (again : Awaited) (now old : List Awaited) (i : ℕ) : Type 0 where
  pub front : take i now ≡ map (λ c. if c.command.nonce == former then again else c) (take i old)
  pub rest : drop i now ≡ drop i old
  pub long : length now ≡ length old

abbrev pub invariant-loop-i : goal.invariant-loop-i
invariant-loop-i l = Renewed l.former l.fn.again l.awaited l.fn.awaited l.i
