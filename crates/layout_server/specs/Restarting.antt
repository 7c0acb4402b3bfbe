-- A crash of the server, at a file in a step.
use Rattle.server_rules.specs.Going.{Going}
use Rattle.server_rules.specs.Openings.{crashed_file}

-- no job runs on it any more, and its fence doesn't count as refused
abbrev pub crashes_at : Going → Going
crashes_at g = record g { file = crashed_file g.file }
