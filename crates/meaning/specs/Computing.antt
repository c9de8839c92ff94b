-- A name for all of the definitions at once: where `computing` unfolds, every one of them computes. The example tables are shown so.
use Rattle.std.specs.Prelude.{ℕ}
use Rattle.meaning.specs.Octets.{place, place_from, count, any, put, cut, same, two, four, two_at, four_at, ◌when◌else◌}
use Rattle.meaning.specs.Wire.{address_length, family_in, root_length, opaque_length, root_in, opaque_in, is_element, is_opaque, head_length, first_end, is_filled_f, is_filled, is_ordered, element_refusal, absent, after, tlvs_f, tlvs, is_overrun, found, body_of, fec_of, label_of, must, is_sized, is_kind, is_label, message_refusal, message_in, element, tlv, octets_of, record_of, next_id, records, ids_after, records_f, records_in}
use Rattle.meaning.specs.Card.{fresh, with_next, with_routes, with_trees, with_labels, with_last, with_branch, with_leaf, with_label, is_for, route_place, route_of, named, bare, tree_place, tree_of, tree_at, stands, is_branch, is_empty, is_lone, not_held, leads_on, is_free, is_awaiting, mapped_to, use_of, held_for, turn, next_free, free_labels, nothing, branches_from, feed_of, carries, carrier, feed_of_use, lookup_label, lookup_name}
use Rattle.meaning.specs.Events.{unless, refuse, accept, room_short, finish, still, followed_by, set_use, set_label, ended, give_up, give, let_go, take_up, move_label, relabel, need_move, need, labels_short, upstream, holder, of_root, total, in_root, one_standing, one_lone, worked_out, entry_of, changed, recounted_for, recount, recounted, holder_of, entered, swept, trees_full, tree_refusal, enter, become, branch, other_label, on_mapping, less_branch, on_withdraw, not_awaited, on_release, on_message, no_neighbour, on_octets, on_join, not_leaf, on_leave, move_one, move_from, move_all, need_one, sum_from, need_all, entry_with, routes_with, quick_yes, quick_no, route_short, runs_out, not_route, not_root, routes_full, route_refusal, re_route, on_route, outcome, event, base_outside, start, is_of, freed_of, uses_without, tree_without, trees_without, recounted_without, routes_without, parted, shed, shed_from, swept_below, part, on_lost}

unfoldable pub computing : ℕ
unfolding place count any put cut same two four two_at four_at ◌when◌else◌ address_length family_in root_length opaque_length root_in opaque_in is_element is_opaque head_length first_end is_filled_f is_filled is_ordered element_refusal absent after tlvs_f tlvs is_overrun found body_of fec_of label_of must is_sized is_kind is_label message_refusal message_in element tlv octets_of record_of next_id records ids_after records_f records_in fresh with_next with_routes with_trees with_labels with_last with_branch with_leaf with_label is_for route_place route_of named bare tree_place tree_of tree_at stands is_branch is_empty is_lone not_held leads_on is_free is_awaiting mapped_to use_of held_for turn place_from next_free free_labels nothing branches_from feed_of carries carrier feed_of_use lookup_label lookup_name unless refuse accept room_short finish still followed_by set_use set_label ended give_up give let_go take_up move_label relabel need_move need labels_short upstream holder of_root total in_root one_standing one_lone worked_out entry_of changed recounted_for recount recounted holder_of entered swept trees_full tree_refusal enter become branch other_label on_mapping less_branch on_withdraw not_awaited on_release on_message no_neighbour on_octets on_join not_leaf on_leave move_one move_from move_all need_one sum_from need_all entry_with routes_with quick_yes quick_no route_short runs_out not_route not_root routes_full route_refusal re_route on_route outcome event base_outside start is_of freed_of uses_without tree_without trees_without recounted_without routes_without parted shed shed_from swept_below part on_lost
computing = 0
