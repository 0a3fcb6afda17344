-- The worked example is computed over the definitions, from bytes to bytes.
use Rattle.std.specs.Prelude.{ℕ, ◌≡◌, refl, List, [], ◌∷◌, replicate}
use Rattle.lists.specs.Below.{all_below, highest, or_zero, upward, count_below, total, set_below}
use Rattle.tenants.specs.Tenant.{tenant_of, out_of_range, of_another}
use Rattle.counters.specs.Counter.{grown, counted, in_bounds}
use Rattle.draws.specs.Draw.{step_of, nonzero, seed_of, xor_left, xor_right, round_of, draw_of}
use Rattle.placement.specs.Fraction.{exceeds, at_least, raise}
use Rattle.placement.specs.Rule.{share_of, write_p, takes, pick, write_server, readable}
use Rattle.medium.specs.Entry.{server_at, entry_at, bears_at, live, blank_run}
use Rattle.medium.specs.Burn.{burn_all, marks_on, marks_over, invalidations}
use Rattle.table.specs.Sound.{in_range, read_sound, server_sound, sound}
use Rattle.upkeep.specs.Upkeep.{with_server, with_weight, one_more, with_entry, with_opened}
use Rattle.replies.specs.Refusal.{first_of, settle}
use Rattle.replies.specs.Reply.{reply_by}
use Rattle.search.specs.Search.{last_live, opening, search_below, search_for}
use Rattle.checks.specs.Ready.{short, ready_rows, asked_rows}
use Rattle.lookup.specs.Lookup.{lookup_rows, met_reply, lookup_reply, lookup_table}
use Rattle.deletion.specs.Deletion.{is_met, delete_rows, delete_marks, delete_reply, delete_medium}
use Rattle.planning.specs.WriteRows.{target, entry_rows, write_rows}
use Rattle.writing.specs.Writing.{write_marks, write_burns, write_reply, write_table, write_medium}
use Rattle.server_rows.specs.ServerRows.{start_rows, add_server_rows, reweight_rows}
use Rattle.servers.specs.Servers.{start_reply, start_table, add_server_reply, add_server_table, reweight_reply, reweight_table}
use Rattle.history.specs.Machine.{reply, next}
use Rattle.dispatch.specs.OneCall.{in_list, reply_to, next_by}
use Rattle.letters.specs.Letter.{letter_of, call_for}
use Rattle.parsing.specs.Line.{is_digit, digit_run, value_of, number_at, spaced, line_by, has_two, last, first, line_of}
use Rattle.printing.specs.Print.{digits, decimal, printed, question, answers_of, answered}
use Rattle.sheet_start.specs.SheetStart.{start_run}
use Rattle.sheet_call.specs.SheetCall.{call_run}
use Rattle.line_run.specs.LineRun.{line_run}
use Rattle.sheet.specs.Sheet.{longer, lines_of, run, output_of}

-- a line each, LF at its end
pub input : List ℕ
input =
    83 ∷ 32 ∷ 52 ∷ 10 ∷
    70 ∷ 32 ∷ 49 ∷ 10 ∷
    70 ∷ 32 ∷ 48 ∷ 10 ∷
    70 ∷ 32 ∷ 50 ∷ 10 ∷
    87 ∷ 32 ∷ 54 ∷ 50 ∷ 54 ∷ 54 ∷ 50 ∷ 55 ∷ 50 ∷ 56 ∷ 54 ∷ 32 ∷ 53 ∷ 48 ∷ 48 ∷ 10 ∷
    76 ∷ 32 ∷ 54 ∷ 50 ∷ 54 ∷ 54 ∷ 50 ∷ 55 ∷ 50 ∷ 56 ∷ 54 ∷ 10 ∷
    71 ∷ 32 ∷ 48 ∷ 32 ∷ 50 ∷ 10 ∷
    87 ∷ 32 ∷ 54 ∷ 50 ∷ 54 ∷ 54 ∷ 50 ∷ 55 ∷ 50 ∷ 56 ∷ 54 ∷ 32 ∷ 55 ∷ 52 ∷ 48 ∷ 10 ∷
    76 ∷ 32 ∷ 54 ∷ 50 ∷ 54 ∷ 54 ∷ 50 ∷ 55 ∷ 50 ∷ 56 ∷ 54 ∷ 10 ∷
    68 ∷ 32 ∷ 54 ∷ 50 ∷ 54 ∷ 54 ∷ 50 ∷ 55 ∷ 50 ∷ 56 ∷ 54 ∷ 10 ∷
    76 ∷ 32 ∷ 54 ∷ 50 ∷ 54 ∷ 54 ∷ 50 ∷ 55 ∷ 50 ∷ 56 ∷ 54 ∷ 10 ∷
    []

pub output : List ℕ
output =
    83 ∷ 32 ∷ 48 ∷ 32 ∷ 48 ∷ 32 ∷ 48 ∷ 10 ∷
    70 ∷ 32 ∷ 48 ∷ 32 ∷ 48 ∷ 32 ∷ 48 ∷ 10 ∷
    70 ∷ 32 ∷ 48 ∷ 32 ∷ 49 ∷ 32 ∷ 48 ∷ 10 ∷
    70 ∷ 32 ∷ 48 ∷ 32 ∷ 50 ∷ 32 ∷ 48 ∷ 10 ∷
    87 ∷ 32 ∷ 48 ∷ 32 ∷ 50 ∷ 32 ∷ 48 ∷ 10 ∷
    76 ∷ 32 ∷ 48 ∷ 32 ∷ 53 ∷ 48 ∷ 48 ∷ 32 ∷ 49 ∷ 10 ∷
    71 ∷ 32 ∷ 48 ∷ 32 ∷ 48 ∷ 32 ∷ 48 ∷ 10 ∷
    87 ∷ 32 ∷ 48 ∷ 32 ∷ 48 ∷ 32 ∷ 49 ∷ 10 ∷
    76 ∷ 32 ∷ 48 ∷ 32 ∷ 55 ∷ 52 ∷ 48 ∷ 32 ∷ 50 ∷ 10 ∷
    68 ∷ 32 ∷ 48 ∷ 32 ∷ 49 ∷ 32 ∷ 48 ∷ 10 ∷
    76 ∷ 32 ∷ 56 ∷ 32 ∷ 48 ∷ 32 ∷ 50 ∷ 10 ∷
    []

-- the output over as many words as daysheet has
pub example : (output_of input (replicate 3072 4294967295)).bytes ≡ output
unfolding input output all_below highest or_zero upward count_below total set_below step_of nonzero seed_of xor_left xor_right round_of draw_of exceeds at_least raise share_of write_p takes pick write_server readable server_at entry_at bears_at live blank_run burn_all marks_on marks_over invalidations in_range read_sound server_sound sound in_bounds grown counted with_server with_weight one_more with_entry with_opened first_of settle reply_by last_live opening search_below search_for start_rows start_reply start_table add_server_rows add_server_reply add_server_table reweight_rows reweight_reply reweight_table short ready_rows asked_rows tenant_of out_of_range of_another target entry_rows write_rows write_marks write_burns write_reply write_table write_medium is_met delete_rows delete_marks delete_reply delete_medium lookup_rows met_reply lookup_reply lookup_table reply next in_list reply_to next_by is_digit digit_run value_of number_at spaced letter_of call_for line_by has_two last first line_of longer lines_of digits decimal printed question answers_of answered start_run call_run line_run run output_of
example = refl
