use Rattle.headline_law.proofs.world_laws.machine_is_lawful.Goals as goal

pub returns : goal.returns
returns c = record {
  layouts_are_codes = c.layouts_are_codes.ensures;
  columns_have_stripes = c.columns_have_stripes.ensures;
  judged = c.judged.ensures;
  whole = c.whole.ensures;
  audited = c.audited.ensures;
  components_go_on = c.components_go_on.ensures;
  kept_goes_on = c.kept_goes_on.ensures;
  requests_go_on = c.requests_go_on.ensures;
  calls_go_on = c.calls_go_on.ensures;
  clients_keep_runs = c.clients_keep_runs.ensures;
  owned_follows = c.owned_follows.ensures;
  quiet_follows = c.quiet_follows.ensures;
}
