-- The counters of a server: the numbers of grants, objects and recalls, and nonces, are given from them on.
use Rattle.std.specs.Prelude.{◌≤◌}
use Rattle.server_rules.specs.declared.server.Server.{Server}

-- No counter is behind where it was. A number that was given before is below it, so it isn't given again.
abbrev pub CountsOn : (before after : Server) → Type 0
CountsOn before after = record {
  grants : before.next_grant ≤ after.next_grant;
  objects : before.next_object ≤ after.next_object;
  nonces : before.next_nonce ≤ after.next_nonce;
  recalls : before.next_recall ≤ after.next_recall;
}
