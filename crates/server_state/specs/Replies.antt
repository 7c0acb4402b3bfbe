-- Which replies the files await, and the list of them.
use Rattle.std.specs.Prelude.{ℕ, Bool, false, Option, Some, None, ◌≡◌, ◌==◌, ◌&&◌, not}
use Rattle.server_rules.specs.declared.jobs.Job.{Job}
use Rattle.file_jobs.specs.declared.job.FileState.{FileState}
use Rattle.server_state.specs.Index.{Keys, has, are_to}
use Rattle.server_state.specs.Tables.{Table, entry_at, without}

-- the job, if one runs, awaits a reply of nonce x from drive d
abbrev pub job_awaits : Option Job → (x d : ℕ) → Bool
job_awaits None x d = false
job_awaits (Some j) x d = are_to j.awaited x d

-- the file awaits a reply, if there is one
abbrev pub file_awaits : Option FileState → (x d : ℕ) → Bool
file_awaits None x d = false
file_awaits (Some f) x d = job_awaits f.job x d

-- listed are the replies that the files await, and no others
abbrev pub AreListed : Keys → Table → Type 0
AreListed ks t = (x d m : ℕ) → has ks x d m ≡ file_awaits (entry_at t m) x d

-- the replies that files await are listed, but for file n, of which none is
abbrev pub AreListedBut : (n : ℕ) → Keys → Table → Type 0
AreListedBut n ks t = (x d m : ℕ) → has ks x d m ≡ (not (n == m) && file_awaits (entry_at t m) x d)

-- no file but number n changed
abbrev pub OthersStay : (n : ℕ) → Table → Table → Type 0
OthersStay n old new = without n new ≡ without n old
