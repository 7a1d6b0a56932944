-- Every definition that a case computes through. To name one of these on an `unfolding` line opens its whole group; `paper` opens all but demand 3.
use Rattle.laws.specs.Base.{ℕ}
use Rattle.laws.specs.Tests.{◌and◌, ◌or◌, neg, is, less, upto, below}
use Rattle.laws.specs.Lists.{same, further, find, place, has, every, apart, count, keep, until, total, once}
use Rattle.laws.specs.Bytes.{part, written, value, little, number}
use Rattle.laws.specs.Cut.{chunks, cut, join}
use Rattle.laws.specs.Order.{first as first_refusal, along}
use Rattle.paper.specs.Check.{check_step, check_from, check_of, check_right, sealed}
use Rattle.paper.specs.Layout.{zeros, kind, n_of, lead, clock_plus_10080, rule_of, same_rule, day_of_book, area, receiver, day_zeros, version, id_of, series_count, sender, day_of_message, nets, net, sender_zeros, business_type, contract_type, senders_slot, in_area, out_area, in_party, out_party, pair, agreement, key, mark, differing, first, partner, quantities, entry, quantity, above_n, holder, limit, right_zeros, but_limits, sender_zeros_in_message, series_zeros_in_message, with_clock, with_senders_slot, with_mark, with_nets}
use Rattle.paper.specs.Ranges.{whole_blocks, n_allowed, lead_allowed, clock_allowed, rule_allowed, version_allowed, count_allowed, contract_allowed, quantity_allowed, net_allowed, quantities_allowed, nets_allowed}
use Rattle.paper.specs.Ids.{digit, letter, hyphen, id_character, id_text, id_well_formed, day_well_formed}
use Rattle.paper.specs.Eic.{character_value, eic_character, weighted, eic_sum, allowed_in_front, sixteenth_right, eic_number, eic_number_of_two, eic_valid}
use Rattle.paper.specs.Book.{day_block, slots, is_free, used, free_slots, is_sender, is_series, is_right, is_trade, with_capacity, is_external, numbered, is_sender_block_of, slot_of, is_series_of, own_sender, own_series, is_right_of, own_rights, id_is, key_is, trade, trade_is, is_series_with, is_trade_of}
use Rattle.paper.specs.Sound.{day_fields, day_sound, used_first, count_sound, sender_fields, sender_day_and_nets, sender_sound, parties_of, one_area_ours, areas_allowed, type_allowed, capacity_named, capacity_allowed, owner_sound, partner_sound, series_fields, series_codes, series_values, series_sound, right_fields, right_sound, used_sound, same_sender, same_series, same_right, differing_sound, sound_over, differing_allowed, sound}
use Rattle.paper.specs.Message.{head_of, series_of, head_right, series_right, message_right, rule2, series_numbered}
use Rattle.paper.specs.Rules.{◌then◌, broken, broken_by, over_positions, rule1, rule3, rule4, rule5, id_or_version_broken, rule6, with_other_key, with_other_id, rule7, rule8, wrong_character, rule9, rule10, rule11, rule12, rule13, names, rule18, right_for, sum_on, rule19, is_open, closed, rule14, series_version, rule15, absent, rule16, is_new, new_blocks, rule17, stored_of, head_verdict, quantity_verdict, closed_verdict, form_verdict, limit_verdict, right_verdict, late_verdict, values_verdict, series_verdict, each_series, last_verdict, judge, verdict}
use Rattle.paper.specs.Codes.{table, code_in, reason_code, status_code, reply_kind, reply_to}
use Rattle.paper.specs.Marks.{is_counterpart, counterpart, counterpart_slot, difference_from, first_difference, differences, mark_of, mark_in, state_of_mark, state_code, mark_code}
use Rattle.paper.specs.Nets.{comes_in, goes_out, bought, sold, net_of, nets_to, nets_of}
use Rattle.paper.specs.Acceptance.{slot_for, sender_kept, replaced, renewed, fresh, placed, touched, remarked, used_after, accepted, submitted}
use Rattle.paper.specs.Looks.{slots_to, visited, found_for, look, looked_over, none_found, found, partners_found, looked, submit_answer}
use Rattle.paper.specs.Finals.{lesser_of, final_of, held, is_held, held_at, final_in, final}
use Rattle.paper.specs.Settled.{is_trade_series, appearing, parties, trade_pairs, buyer_of, seller_of, final_of_pair, bought_by, sold_by, settled_in, settled}
use Rattle.paper.specs.Opening.{day_block_of, opening_allowed, open_number, open_answer, opened}
use Rattle.paper.specs.Clock.{day_state, advanced, clock_answer, clock_moved}
use Rattle.paper.specs.Readings.{is_stored_as, stored_as, mark_found, mark_answer, accepted_block}
use Rattle.paper.specs.PlainRun.{mark_true, nets_true, plain_run}
use Rattle.paper.specs.Rights.{right_allowed, enter_number, entered}
use Rattle.paper.specs.Conversion.{state_allowed, old_sound, conversion_number, converted_block, used_converted, converted, kept_message, kept_messages}
use Rattle.paper.specs.QuantityText.{leading_digits, decimal_from, worth, past_point, past_whole, unsigned_read, past_minus, quantity_read, last_digits, width_of, decimal, quantity_text, quantity_printed, printed_into}
use Rattle.paper.specs.Listing.{text, line, series_line, series_lines, header, listing}
use Rattle.paper.specs.PlainRule.{or_else, latest, series_of_latest, n_of_latest, plain_held, other_party, plain_mark, plain_nets}
use Rattle.paper.specs.Calls.{step, run}

-- the crate of general definitions
unfoldable pub general : ℕ
unfolding ◌and◌ ◌or◌ neg is less upto below same further find place has every apart count keep until total once part written value little number chunks cut join first_refusal along
general = 0

-- "Blocks"
unfoldable pub blocks : ℕ
unfolding check_step check_from check_of check_right sealed zeros kind n_of lead clock_plus_10080 rule_of same_rule day_of_book area receiver day_zeros version id_of series_count sender day_of_message nets net sender_zeros business_type contract_type senders_slot in_area out_area in_party out_party pair agreement key mark differing first partner quantities entry quantity above_n holder limit right_zeros but_limits sender_zeros_in_message series_zeros_in_message with_clock with_senders_slot with_mark with_nets whole_blocks n_allowed lead_allowed clock_allowed rule_allowed version_allowed count_allowed contract_allowed quantity_allowed net_allowed quantities_allowed nets_allowed digit letter hyphen id_character id_text id_well_formed day_well_formed
blocks = 0

-- "EIC"
unfoldable pub eic : ℕ
unfolding character_value eic_character weighted eic_sum allowed_in_front sixteenth_right eic_number eic_number_of_two eic_valid
eic = 0

-- "Sound book"
unfoldable pub sound_book : ℕ
unfolding day_block slots is_free used free_slots is_sender is_series is_right is_trade with_capacity is_external numbered is_sender_block_of slot_of is_series_of own_sender own_series is_right_of own_rights day_fields day_sound used_first count_sound sender_fields sender_day_and_nets sender_sound parties_of one_area_ours areas_allowed type_allowed capacity_named capacity_allowed owner_sound partner_sound series_fields series_codes series_values series_sound right_fields right_sound used_sound same_sender same_series same_right differing_sound sound_over differing_allowed sound
sound_book = 0

-- "Submission: order of checks"
unfoldable pub order_of_checks : ℕ
unfolding head_of series_of head_right series_right message_right rule2 series_numbered ◌then◌ broken broken_by over_positions rule1 rule3 rule4 rule5 id_or_version_broken rule6 id_is key_is with_other_key with_other_id rule7 rule8 wrong_character rule9 rule10 rule11 rule12 rule13 names rule18 right_for sum_on rule19 is_open closed rule14 series_version rule15 absent rule16 is_new new_blocks rule17 stored_of head_verdict quantity_verdict closed_verdict form_verdict limit_verdict right_verdict late_verdict values_verdict series_verdict each_series last_verdict judge verdict table code_in reason_code status_code reply_kind reply_to
order_of_checks = 0

-- "Marks and finals", and what an acceptance writes
unfoldable pub marks_and_finals : ℕ
unfolding is_counterpart counterpart counterpart_slot difference_from first_difference differences mark_of mark_in state_of_mark state_code mark_code comes_in goes_out bought sold net_of nets_to nets_of slot_for sender_kept replaced renewed fresh placed trade trade_is is_series_with is_trade_of touched remarked used_after accepted submitted slots_to visited found_for look looked_over none_found found partners_found looked submit_answer lesser_of final_of held is_held held_at final_in final is_trade_series appearing parties trade_pairs buyer_of seller_of final_of_pair bought_by sold_by settled_in settled
marks_and_finals = 0

-- "Other calls"
unfoldable pub other_calls : ℕ
unfolding day_block_of opening_allowed open_number open_answer opened day_state advanced clock_answer clock_moved is_stored_as stored_as mark_found mark_answer accepted_block mark_true nets_true plain_run right_allowed enter_number entered state_allowed old_sound conversion_number converted_block used_converted converted kept_message kept_messages leading_digits decimal_from worth past_point past_whole unsigned_read past_minus quantity_read last_digits width_of decimal quantity_text quantity_printed printed_into text line series_line series_lines header listing
other_calls = 0

-- demand 3, which few cases need
unfoldable pub demand3 : ℕ
unfolding or_else latest series_of_latest n_of_latest plain_held other_party plain_mark plain_nets step run
demand3 = 0

unfoldable pub paper : ℕ
unfolding general blocks eic sound_book order_of_checks marks_and_finals other_calls
paper = 0
