use Rattle.std.proofs.Common.{◌≡◌}
use Rattle.mio_ports.proofs.tcp_ports.TcpPorts.round.Given as goal

-- turns at which nothing came change nothing
abbrev pub invariant-loop : goal.invariant-loop
invariant-loop g l = l.self ≡ l.fn.self
