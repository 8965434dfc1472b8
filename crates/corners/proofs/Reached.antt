-- The most nodes that an adoption takes are reached.
-- Assumes nothing.
use Rattle.std.proofs.Common.{◌+◌, ◌≡◌, refl}
use Rattle.names.specs.Sets.{formatting, special, default_scope, foster_targets}
use Rattle.names.specs.Numbers.{in_table, is_name}
use Rattle.names.specs.Table.{names}
use Rattle.lent.specs.Mem.{get16, put16, slots, inside, place, load, store, link, up}
use Rattle.names.specs.Text.{text as quoted}
use Rattle.records.specs.Written.{encoded_by, encoded, encoded_all}
use Rattle.records.specs.Number.{second, number_at}
use Rattle.records.specs.Pair.{value_at, next_at, name_at, text_at as pairText, pair_next}
use Rattle.records.specs.Record.{skip_at, count_of, pairs_of as pairCount, number_if, pairs_at, arguments_at, item_at}
use Rattle.arena.specs.Links.{appended, unlinked, detached, inserted, reparented, spliced, moved}
use Rattle.makers.specs.Make.{bare_links, bare_rest, bare, tagged, tag_of, is_template, plain, nodes_of, element, copied, document, piece, text, piece_after, pair}
use Rattle.lent.specs.Room.{free_nodes, free_pieces, free_pairs}
use Rattle.places.specs.Places.{places_of, at, without, pushed, within, swapped, cut, down, first_with, last_with, place_of, after_at, exchanged_at, exchanged, left_at}
use Rattle.state.specs.Fields.{core_of}
use Rattle.state.specs.Full.{with_stack, with_list, with_nodes, with_pieces, with_pairs, with_flags}
use Rattle.standard.specs.Html.{is_html, is_foster_target, current}
use Rattle.standard.specs.Place.{end_of, before_table, table_place, template_or_table, foster_at, is_foster_stop, foster_place, appropriate_place, attached, sibling_before, text_before}
use Rattle.standard.specs.Pairs.{pairs_in, fine, stored}
use Rattle.standard.specs.Insertion.{usual_place, is_markable, bad_tag, bad_pairs, new_tag, element_in, pushed_if, element_done, element_room, inserted_element, joined_text, new_text, text_at, inserted_text}
use Rattle.standard.specs.Small.{room, marked, popped, fostered}
use Rattle.standard.specs.Stack.{is_of, in_scope, shorter}
use Rattle.standard.specs.Formatting.{after, pairs_of, same_pairs, same_tag, how_many, after_marker, surplus, spared, listed, created_room, created_for, bad_formatting, created}
use Rattle.standard.specs.Adoption.{entry_of, furthest_of, gone, left_stack, left_both, renewed, renewed_in, renewed_at, turn_at, turned, inner, placed_at, rehung, at_mark, relisted, finished, started, adopted, block_at, blocked, scope_at, scoped, open_at, opened, entry_at, rounded, rounds, current_at, agency, few_nodes, adoption}
use Rattle.standard.specs.Step.{middle_step, low_step, high_step, step}
use Rattle.standard.specs.Run.{unless_refused, on_item, run_for, run_from, run_of}
use Rattle.standard.specs.Begin.{bad_mark, bad_context, is_template_context, first_modes, begin_answer, begin_nodes, begin_modes, begin_state}
use Rattle.edge.specs.Public.{whole}
use Rattle.queries.specs.Element.{expanded, context_or, standing}
use Rattle.queries.specs.Reset.{mode_for, mode_at, onward, walked, given, reset_mode}
use Rattle.dump.specs.Digits.{digit_at, digits}
use Rattle.dump.specs.Line.{indent, text_number, name_of, space_of, element_of, further, text_of, node_of, part_of, level_of, line_of}
use Rattle.dump.specs.Order.{level_down, first_line, extra_lines, first_inside, beside, line_beside, line_inside, next_line}
use Rattle.corners.specs.Seen.{lent, bytes_of}
use Rattle.corners.specs.Reached.{times, nested, ended, gives, fresh}

nested_gives : gives (run_of nested fresh) ≡ (0, 39)
unfolding value_at next_at name_at pairText pair_next pair formatting special default_scope foster_targets in_table is_name names quoted get16 put16 slots inside place load store link up second number_at skip_at count_of pairCount number_if pairs_at arguments_at item_at appended unlinked detached inserted reparented spliced moved bare_links bare_rest bare tagged tag_of is_template plain nodes_of element copied document piece text piece_after free_nodes free_pieces free_pairs at without pushed within swapped cut down first_with last_with place_of after_at exchanged_at exchanged left_at core_of with_stack with_list with_nodes with_pieces with_pairs with_flags is_html is_foster_target current end_of before_table table_place template_or_table foster_at is_foster_stop foster_place appropriate_place attached sibling_before text_before pairs_in fine stored usual_place is_markable bad_tag bad_pairs new_tag element_in pushed_if element_done element_room inserted_element joined_text new_text text_at inserted_text room marked popped fostered is_of in_scope shorter after pairs_of same_pairs same_tag how_many after_marker surplus spared listed created_room created_for bad_formatting created entry_of furthest_of gone left_stack left_both renewed renewed_in renewed_at turn_at turned inner placed_at rehung at_mark relisted finished started adopted block_at blocked scope_at scoped open_at opened entry_at rounded rounds current_at agency few_nodes adoption middle_step low_step high_step step unless_refused on_item run_for run_from run_of bad_mark bad_context is_template_context first_modes begin_answer begin_nodes begin_modes begin_state whole expanded context_or standing mode_for mode_at onward walked given reset_mode digit_at digits indent text_number name_of space_of element_of further text_of node_of part_of level_of line_of level_down first_line extra_lines first_inside beside line_beside line_inside next_line lent encoded_by encoded encoded_all bytes_of times nested fresh ended gives
nested_gives = refl

ended_gives : gives (run_of ended fresh) ≡ (0, 71)
unfolding value_at next_at name_at pairText pair_next pair formatting special default_scope foster_targets in_table is_name names quoted get16 put16 slots inside place load store link up second number_at skip_at count_of pairCount number_if pairs_at arguments_at item_at appended unlinked detached inserted reparented spliced moved bare_links bare_rest bare tagged tag_of is_template plain nodes_of element copied document piece text piece_after free_nodes free_pieces free_pairs at without pushed within swapped cut down first_with last_with place_of after_at exchanged_at exchanged left_at core_of with_stack with_list with_nodes with_pieces with_pairs with_flags is_html is_foster_target current end_of before_table table_place template_or_table foster_at is_foster_stop foster_place appropriate_place attached sibling_before text_before pairs_in fine stored usual_place is_markable bad_tag bad_pairs new_tag element_in pushed_if element_done element_room inserted_element joined_text new_text text_at inserted_text room marked popped fostered is_of in_scope shorter after pairs_of same_pairs same_tag how_many after_marker surplus spared listed created_room created_for bad_formatting created entry_of furthest_of gone left_stack left_both renewed renewed_in renewed_at turn_at turned inner placed_at rehung at_mark relisted finished started adopted block_at blocked scope_at scoped open_at opened entry_at rounded rounds current_at agency few_nodes adoption middle_step low_step high_step step unless_refused on_item run_for run_from run_of bad_mark bad_context is_template_context first_modes begin_answer begin_nodes begin_modes begin_state whole expanded context_or standing mode_for mode_at onward walked given reset_mode digit_at digits indent text_number name_of space_of element_of further text_of node_of part_of level_of line_of level_down first_line extra_lines first_inside beside line_beside line_inside next_line lent encoded_by encoded encoded_all bytes_of times nested fresh ended gives
ended_gives = refl

-- before the end tag 39 nodes are used, and after it 32 more
pub thirty_two : (gives (run_of nested fresh) ≡ (0, 39)) × (gives (run_of ended fresh) ≡ (0, 39 + 32))
thirty_two = (nested_gives, ended_gives)
