-- The examples, computed.
-- Assumes nothing.
use mathlib.Core.Path.{refl}
use Rattle.lists.specs.Below.{all_below, some_below, highest, or_zero, upward, count_below, total, set_below}
use Rattle.counters.specs.Counter.{grown, counted, in_bounds}
use Rattle.tenants.specs.Tenant.{tenant_of, out_of_range, of_another}
use Rattle.draws.specs.Draw.{step_of, nonzero, seed_of, xor_left, xor_right, round_of, draw_of}
use Rattle.placement.specs.Fraction.{exceeds, at_least, raise}
use Rattle.placement.specs.Rule.{share_of, write_p, takes, pick, write_server, readable}
use Rattle.medium.specs.Entry.{server_at, entry_at, bears_at, live, blank_run}
use Rattle.medium.specs.Burn.{burn_all, marks_on, marks_over, invalidations}
use Rattle.table.specs.Sound.{in_range, read_sound, server_sound, sound}
use Rattle.upkeep.specs.Upkeep.{with_server, with_weight, one_more, with_entry, with_opened}
use Rattle.replies.specs.Refusal.{first_of, settle}
use Rattle.replies.specs.Reply.{reply_by}
use Rattle.search.specs.Search.{last_live, opening, search_below, search_for}
use Rattle.search.specs.Opened.{lowest, opens}
use Rattle.checks.specs.Ready.{short, ready_rows, asked_rows}
use Rattle.lookup.specs.Lookup.{lookup_rows, met_reply, lookup_reply, lookup_table}
use Rattle.deletion.specs.Deletion.{is_met, delete_rows, delete_marks, delete_reply, delete_medium}
use Rattle.planning.specs.WriteRows.{target, entry_rows, write_rows}
use Rattle.writing.specs.Writing.{write_marks, write_burns, write_reply, write_table, write_medium}
use Rattle.server_rows.specs.ServerRows.{start_rows, add_server_rows, reweight_rows}
use Rattle.servers.specs.Servers.{start_table, add_server_reply, add_server_table, reweight_reply, reweight_table}
use Rattle.batch_answer.specs.Answer.{mounts, ends_at, by_end, order, filled, batch_by, opened_in, too_long, settled_batch}
use Rattle.batch.specs.Batch.{lookup_opens, opened_at, batch_rows, batch_reply, batch_table}
use Rattle.history.specs.Machine.{reply, next, turned, after_turns, begin}
use Rattle.isolation.specs.Seen.{sees, supposed, verdict, shown, shown_by, seen, verdicts, heard}
use Rattle.isolation.specs.Worked.{alone, among, both, own_replies, neighbours, spared, crowded, Worked}

pub worked : Worked
unfolding alone among both own_replies neighbours spared crowded all_below some_below highest or_zero upward count_below total set_below step_of nonzero seed_of xor_left xor_right round_of draw_of exceeds at_least raise share_of write_p takes pick write_server readable server_at entry_at bears_at live blank_run burn_all marks_on marks_over invalidations in_range read_sound server_sound sound in_bounds grown counted with_server with_weight one_more with_entry with_opened first_of settle reply_by last_live opening search_below search_for start_rows start_table add_server_rows add_server_reply add_server_table reweight_rows reweight_reply reweight_table short ready_rows asked_rows tenant_of out_of_range of_another target entry_rows write_rows write_marks write_burns write_reply write_table write_medium is_met delete_rows delete_marks delete_reply delete_medium lookup_rows met_reply lookup_reply lookup_table lowest opens mounts ends_at by_end order filled batch_by opened_in too_long settled_batch lookup_opens opened_at batch_rows batch_reply batch_table reply next turned after_turns begin sees supposed verdict shown shown_by seen verdicts heard
worked = record {
  seen_same = refl;
  verdicts_same = refl;
  heard_alone = refl;
  heard_among = refl;
  heard_by_other = refl;
  counter_alone = refl;
  counter_among = refl;
  seen_alike = refl;
  verdicts_spared = refl;
  verdicts_crowded = refl;
  heard_spared = refl;
  heard_crowded = refl;
}
