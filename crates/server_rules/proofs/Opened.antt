-- All definitions that worked rows compute through, under one name.
use Rattle.std.specs.Prelude.{ℕ}
use Rattle.server_rules.specs.Audit.{length_in, present_lengths, audits, checked, audit_begins}
use Rattle.server_rules.specs.Columns.{row_from, unit_rows, wanted, first_unlike, end_unlike}
use Rattle.server_rules.specs.Commands.{label, is_meant, to_each, key_at}
use Rattle.server_rules.specs.Commit.{may_commit, commit_under, commits}
use Rattle.server_rules.specs.Decoding.{lost_units, restored}
use Rattle.server_rules.specs.Files.{file_at, put_file, add_file}
use Rattle.server_rules.specs.Get.{lowest_after, early, must_fence, late, give_or_refuse, fence_first, on_grants, gets}
use Rattle.server_rules.specs.Grants.{overlaps, conflicts, asked, joined, merged}
use Rattle.server_rules.specs.Jobs.{making, fenced, fence_begins, goes_on, loses, declares}
use Rattle.server_rules.specs.Layouts.{credential, credentials_from}
use Rattle.server_rules.specs.Making.{add_drive, checked_64, refusal, are_of, places, components_on, create_file}
use Rattle.server_rules.specs.Maps.{rows_below, rows_in, pieces_from, pieces_along, pieces, pieces_in}
use Rattle.server_rules.specs.Messages.{counters_have_room, heard_at, on_drive_reply, on_message}
use Rattle.server_rules.specs.Numbers.{among, marked}
use Rattle.server_rules.specs.Openings.{opens_fenced, opens, opens_each, reopen}
use Rattle.server_rules.specs.Orders.{offline, declares_each, declare, ordered}
use Rattle.server_rules.specs.Pieces.{stores_from, short_with}
use Rattle.server_rules.specs.Rebuild.{target_for, rebuilds, sources, fills, made, filling}
use Rattle.server_rules.specs.Repair.{repair_reads, repairs, storing, repair_begins}
use Rattle.server_rules.specs.Replies.{is_done, hearing, on_reply}
use Rattle.server_rules.specs.Requests.{on_request}
use Rattle.server_rules.specs.Answers.{recalls_from}
use Rattle.server_rules.specs.Return.{is_device, named_from, named, none_beyond, loss, return_row, reports_from, takes_loss, returns_on}
use Rattle.server_rules.specs.Rows.{done}
use Rattle.server_rules.specs.Slots.{admit_after, admit, keep}
use Rattle.server_rules.specs.Standing.{replica_from, lacking, lacked_from, lose_on, lose_from, any_on, stood_on}
use Rattle.server_rules.specs.Zoning.{in_zones, put_in_zone, holders_from}
use Rattle.zone_place.specs.Zones.{with_zone, zones_of, are_among, counted, spreads, every, dealt}
use Rattle.data_map.specs.Check.{checked as checked_map}
use Rattle.gf256.specs.Field.{double, where_odd, product_bits, product, two_to, inverse_from}
use Rattle.parity_code.specs.Repairs.{repair_of, first_repair, second_repair}
use Rattle.parity_code.specs.Decoding.{decoded}

unfoldable pub opened : ℕ
unfolding length_in present_lengths audits checked audit_begins row_from unit_rows wanted first_unlike end_unlike label is_meant
    to_each key_at may_commit commit_under commits decoded repair_of first_repair second_repair inverse_from lost_units restored
    file_at put_file add_file lowest_after early must_fence late give_or_refuse fence_first on_grants gets overlaps conflicts
    asked joined merged making fenced fence_begins goes_on loses declares credential credentials_from add_drive checked_64
    refusal are_of places components_on create_file rows_below rows_in pieces_from pieces_along pieces pieces_in
    counters_have_room heard_at on_drive_reply on_message among marked opens_fenced opens opens_each reopen offline
    declares_each declare ordered stores_from short_with target_for rebuilds sources fills made filling repair_reads repairs
    storing repair_begins is_done hearing on_reply recalls_from on_request is_device named_from named none_beyond loss
    return_row reports_from takes_loss returns_on done admit_after admit keep replica_from lacking lacked_from lose_on
    lose_from any_on stood_on in_zones put_in_zone holders_from with_zone zones_of are_among counted spreads every dealt
    checked_map double where_odd product_bits product two_to
opened = 0
