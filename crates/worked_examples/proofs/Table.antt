-- The worked examples of document 01, and some of document 02 (ways of U1, evidence of U2, version 2 of U4, depths of U6, counts of U13), computed on the
-- definitions: a row for each, one test over the table, one proof.
use Rattle.std.specs.Prelude.{T}
use Rattle.integers.specs.Range.{contains, meet, vacant, size, smaller, larger}
use Rattle.integers.specs.Division.{floor_by, floor, ceiling}
use Rattle.integers.specs.Inverse.{inverse}
use Rattle.integers.specs.LittleEndian.{joined, unsigned_at, signed_of, signed_at, split, bits_of}
use Rattle.systems.specs.Search.{run, count, least}
use Rattle.exploration.specs.Counting as counting
use Rattle.systems.specs.Lists.{collect}
use Rattle.systems.specs.System.{after, entry, written, earliest, first_barred, same_numbers, same_index, same_reading, reading}
use Rattle.systems.specs.Words.{ended, lists_below, shorter_lists, first_that}
use Rattle.exploration.specs.Exploration.{place, known, added, visited, visited_at, visited_next, explore}
use Rattle.answer_rules.specs.Stages.{and_then, demand}
use Rattle.model.specs.Sheet.{within, in_box, place_in, region_number, region_of, applied, updated, landing, moved, step, sheet_system, sheet_reading}
use Rattle.model.specs.Blocks.{emptied, cut, cuts, preimage, narrowed, class_box, volume, volumes, configurations, class_of, same_class, blocks, target_byte, chart_record, chart_of, range_bytes, box_record, box_list_of}
use Rattle.model.specs.Chart.{record_at, label_of, target_of, block_named, chart_step, chart_system, chart_reading, same_target, refines, round_class}
use Rattle.model.specs.ChartDepth.{parts, depth_of, label_count, depth_limit}
use Rattle.model.specs.Listing.{numbers, numbers_in, prefixed, values_in, members}
use Rattle.sheet_rules.specs.Layout.{version_of, wide, bound_size, offset_limit, move_size, region_size, start_place, start_value, region_place, label_at, state_at, low_place, high_place, move_place, rule_place, factor_of, offset_of}
use Rattle.sheet_rules.specs.Decode.{rule_of, move_of, range_at, box_at, move_at, region_at, start_of, decode}
use Rattle.sheet_rules.specs.Form.{same_bytes, check_header, check_counts, check_length, check_value, check_bound, check_rule, check_zero_rule, check_move, check_fields, check_limits}
use Rattle.congruence_rules.specs.Congruence.{total, first_solution, all_below, allowed, eight, given, counts_left}
use Rattle.access_rules.specs.Access.{leads_into, or_empty, way_to}
use Rattle.separation_rules.specs.Separation.{parts_charts, evidence}
use Rattle.sheet_rules.specs.Check.{check_label, overlap, check_overlap, check_start, every, lands, check_landing, sheet_check}
use Rattle.worked_examples.specs.Table.{same_z, same_word, accepts, refuses, test, passes, chart, region, two_moves, carry, sheet, first, bytes, wide_bytes, changed, mirror, doubling, steps, range, table}

pub worked_examples : T (passes table)
unfolding passes test table same_z same_word accepts refuses chart same_numbers same_index same_reading parts_charts evidence block_named chart_step chart_system chart_reading bytes wide_bytes changed region two_moves carry sheet first mirror doubling steps range smaller larger contains meet size floor_by floor ceiling inverse split bits_of collect after entry written earliest first_barred reading place known added visited visited_at visited_next explore within in_box place_in region_number region_of applied updated landing moved step sheet_system sheet_reading emptied cut cuts preimage narrowed class_box volume volumes configurations class_of same_class blocks target_byte chart_record chart_of range_bytes box_record box_list_of joined unsigned_at signed_of signed_at vacant run and_then demand numbers numbers_in prefixed values_in members version_of wide bound_size offset_limit move_size region_size start_place start_value region_place label_at state_at low_place high_place move_place rule_place factor_of offset_of rule_of move_of range_at box_at move_at region_at start_of decode same_bytes check_header check_counts check_length check_value check_bound check_rule check_zero_rule check_move check_fields check_limits check_label overlap check_overlap check_start every lands check_landing sheet_check count least counting.numbers counting.has counting.classes record_at label_of target_of same_target refines round_class parts depth_of label_count depth_limit total lists_below first_that first_solution all_below allowed eight given counts_left ended shorter_lists leads_into or_empty way_to
worked_examples = tt
