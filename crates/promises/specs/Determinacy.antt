-- "It is proved that any two outcomes allowed by one statement are equal" (document 01, "Holding the promises to account"): one
-- statement, with a line for each public function of every crate, over its contract as the source states it. Assumes nothing.
use denote.RattleType.{RattleType}
use denote.Param.Laws.{Laws}
use mir.Syntax.{Dict}
use Rattle.std.specs.Prelude.{◌≡◌}
use Rattle.std.proofs.Common.{sym, ◌∙◌}
use Rattle.answer.proofs as answer
use Rattle.bits.proofs as bits
use Rattle.bits.specs.declared.Register.{Ghosts}
use Rattle.crc.proofs as crc
use Rattle.calendar.proofs as calendar
use Rattle.image.proofs as image
use Rattle.select.proofs as select
use Rattle.bus.proofs as bus
use Rattle.field.proofs as field
use Rattle.memory.proofs as memory
use Rattle.exchange.proofs as exchange
use Rattle.conversion.proofs as conversion
use Rattle.mission.proofs as mission
use Rattle.record.proofs as tag-record
use Rattle.event.proofs as event
use Rattle.tag.proofs as tag
use Rattle.batch.proofs as batch
use Rattle.hexadecimal.proofs as hex
use Rattle.dump.proofs as dump
use Rattle.dock.proofs as dock
use Rattle.text.proofs as text
use Rattle.console.proofs as console
use Rattle.board.proofs as board
use Rattle.packing.proofs as packing
use Rattle.rack.proofs as rack
use Rattle.bagtag.proofs as bagtag

-- A contract speaks of lifetimes, arguments, result and what is lent at exit. Two outcomes that it allows for the same arguments look
-- the same, where `seen` is what a caller sees of an outcome: the result, and what stands behind each slice lent for writing.
abbrev Sole {κ α ρ ε χ} : {K : Type κ} {A : K → Type α} {R : K → Type ρ} {E : K → Type ε} {X : K → Type χ} →
    ((k : K) → A k → R k → E k → Type 0) → ((k : K) → R k → E k → X k) → Type (κ ⊔ α ⊔ ρ ⊔ ε ⊔ χ)
Sole post seen = (k : _) (a : _) (r s : _) (e f : _) → post k a r e → post k a s f → seen k r e ≡ seen k s f

-- a result with what is lent beside it
abbrev with {α β} : {A : Type α} {B : Type β} → A → B → A × B
with a b = (a, b)

pub record Determinacy : Type 2 where
  -- answer
  pub answer_number_lem : Sole answer.number.Reads.Post (λ k r e. r)
  pub answer_number_of : Sole answer.U8FromRefusal.from.Reads.Post (λ k r e. r)
  pub answer_refusal_text : Sole answer.refusal_text.Reads.Post (λ k r e. r)
  -- bits
  pub bits_digit : Sole bits.digit.Reads.Post (λ k r e. r)
  pub bits_bit : Sole bits.bit.Reads.Post (λ k r e. r)
  -- of any register no two of which hold one number, as the trait asks
  pub bits_shift_in : (R : RattleType) (L : Laws R) (g : Ghosts R.Denot) (d : Dict) → ((a b : R.Denot) → g.number a ≡ g.number b → a ≡ b) →
      Sole (bits.shift_in.Reads.Post R L g d) (λ k r e. r)
  pub bits_byte_half : Sole bits.U8Register.half.Reads.Post (λ k r e. r)
  pub bits_byte_topped : Sole bits.U8Register.topped.Reads.Post (λ k r e. r)
  pub bits_field_half : Sole bits.U64Register.half.Reads.Post (λ k r e. r)
  pub bits_field_topped : Sole bits.U64Register.topped.Reads.Post (λ k r e. r)
  pub bits_parting : Sole bits.parting.Reads.Post (λ k r e. r)
  -- crc
  pub crc_crc16_bit : Sole crc.crc16_bit.Reads.Post (λ k r e. r)
  pub crc_crc16_byte : Sole crc.crc16_byte.Reads.Post (λ k r e. r)
  pub crc_crc16_run : Sole crc.crc16_run.Reads.Post (λ k r e. r)
  pub crc_sent_low : Sole crc.sent_low.Reads.Post (λ k r e. r)
  pub crc_sent_high : Sole crc.sent_high.Reads.Post (λ k r e. r)
  pub crc_crc8 : Sole crc.crc8.Reads.Post (λ k r e. r)
  pub crc_good_crc : Sole crc.good_crc.Reads.Post (λ k r e. r)
  -- calendar
  pub calendar_next : Sole calendar.next.Reads.Post (λ k r e. r)
  pub calendar_step_seconds : Sole calendar.step_seconds.Reads.Post (λ k r e. r)
  -- image
  pub image_sent : Sole image.sent.Reads.Post (λ k r e. r)
  pub image_register : Sole image.register.Reads.Post (λ k r e. r)
  pub image_store : Sole image.store.Reads.Post (λ k r e. e.0.now)
  pub image_store_page : Sole image.store_page.Reads.Post (λ k r e. e.0.now)
  pub image_region_of : Sole image.region_of.Reads.Post (λ k r e. r)
  pub image_word : Sole image.word.Reads.Post (λ k r e. r)
  pub image_put_word : Sole image.put_word.Reads.Post (λ k r e. e.0.now)
  pub image_flag : Sole image.flag.Reads.Post (λ k r e. r)
  pub image_put_flag : Sole image.put_flag.Reads.Post (λ k r e. e.0.now)
  pub image_put_bytes : Sole image.put_bytes.Reads.Post (λ k r e. e.0.now)
  pub image_peek : Sole image.peek.Reads.Post (λ k r e. r)
  pub image_poke : Sole image.poke.Reads.Post (λ k r e. e.0.now)
  pub image_alarm : Sole image.alarm.Reads.Post (λ k r e. r)
  pub image_may_read : Sole image.may_read.Reads.Post (λ k r e. r)
  pub image_may_control : Sole image.may_control.Reads.Post (λ k r e. r)
  pub image_may_copy : Sole image.may_copy.Reads.Post (λ k r e. r)
  -- select
  pub select_waiting : Sole select.waiting.Reads.Post (λ k r e. r)
  pub select_reset : Sole select.reset.Reads.Post (λ k r e. r)
  pub select_restart : Sole select.restart.Reads.Post (λ k r e. r)
  pub select_overdrive : Sole select.overdrive.Reads.Post (λ k r e. r)
  pub select_in_range_lem : Sole select.in_range.Reads.Post (λ k r e. r)
  pub select_selected : Sole select.selected.Reads.Post (λ k r e. r)
  pub select_asks_alarm : Sole select.asks_alarm.Reads.Post (λ k r e. r)
  pub select_slot : Sole select.slot.Reads.Post (λ k r e. r)
  -- bus
  pub bus_blank : Sole bus.blank.Reads.Post (λ k r e. r)
  pub bus_state_clear : Sole bus.state.clear.Reads.Post (λ k r e. r)
  pub bus_state_to : Sole bus.state.to.Reads.Post (λ k r e. r)
  pub bus_state_pass : Sole bus.state.pass.Reads.Post (λ k r e. r)
  pub bus_state_add : Sole bus.state.add.Reads.Post (λ k r e. r)
  pub bus_state_count : Sole bus.state.count.Reads.Post (λ k r e. r)
  pub bus_state_fresh_crc : Sole bus.state.fresh_crc.Reads.Post (λ k r e. r)
  pub bus_state_at_address : Sole bus.state.at_address.Reads.Post (λ k r e. r)
  pub bus_state_note : Sole bus.state.note.Reads.Post (λ k r e. r)
  pub bus_state_listen : Sole bus.state.listen.Reads.Post (λ k r e. r)
  pub bus_state_status_byte : Sole bus.state.status_byte.Reads.Post (λ k r e. r)
  pub bus_state_pad_byte : Sole bus.state.pad_byte.Reads.Post (λ k r e. r)
  -- field
  pub field_ask : Sole field.ask.Reads.Post (λ k r e. r)
  pub field_gather : Sole field.gather.Reads.Post (λ k r e. r)
  -- memory
  pub memory_ask : Sole memory.ask.Reads.Post (λ k r e. r)
  pub memory_slot : Sole memory.slot.Reads.Post (λ k r e. r)
  pub memory_in_range_lem : Sole memory.in_range.Reads.Post (λ k r e. r)
  -- exchange
  pub exchange_new : Sole exchange.new.Reads.Post (λ k r e. r)
  pub exchange_reset : Sole exchange.reset.Reads.Post (λ k r e. r)
  pub exchange_short_reset : Sole exchange.short_reset.Reads.Post (λ k r e. r)
  pub exchange_ask : Sole exchange.ask.Reads.Post (λ k r e. r)
  pub exchange_slot : Sole exchange.slot.Reads.Post (λ k r e. r)
  pub exchange_in_range_lem : Sole exchange.in_range.Reads.Post (λ k r e. r)
  -- conversion
  pub conversion_make : Sole conversion.make.Reads.Post (λ k r e. e.0.now)
  pub conversion_count_device : Sole conversion.count_device.Reads.Post (λ k r e. e.0.now)
  pub conversion_alarm_alarms : Sole conversion.alarm.alarms.Reads.Post (λ k r e. r)
  pub conversion_clock_advance : Sole conversion.clock.advance.Reads.Post (λ k r e. e.0.now)
  -- mission
  pub mission_in_range : Sole mission.in_range.Reads.Post (λ k r e. r)
  pub mission_tick : Sole mission.tick.Reads.Post (λ k r e. with r e.0.now)
  pub mission_clear : Sole mission.clear.Reads.Post (λ k r e. e.0.now)
  pub mission_start : Sole mission.start.Reads.Post (λ k r e. with r e.0.now)
  pub mission_stop : Sole mission.stop.Reads.Post (λ k r e. e.0.now)
  pub mission_convert : Sole mission.convert.Reads.Post (λ k r e. e.0.now)
  -- record
  pub record_fresh : Sole tag-record.fresh.Reads.Post (λ k r e. r)
  pub record_good_number : Sole tag-record.good_number.Reads.Post (λ k r e. r)
  pub record_good_code : Sole tag-record.good_code.Reads.Post (λ k r e. r)
  pub record_in_range : Sole tag-record.in_range.Reads.Post (λ k r e. r)
  pub record_accept : Sole tag-record.accept.Reads.Post (λ k r e. r)
  pub record_refuse : Sole tag-record.refuse.Reads.Post (λ k r e. r)
  -- event
  pub event_slot : Sole event.slot.Reads.Post (λ k r e. with r e.0.now)
  pub event_reset : Sole event.reset.Reads.Post (λ k r e. r)
  pub event_short_reset : Sole event.short_reset.Reads.Post (λ k r e. r)
  pub event_tick : Sole event.tick.Reads.Post (λ k r e. with r e.0.now)
  -- tag
  pub tag_new : Sole tag.new.Reads.Post (λ k r e. with r e.0.now)
  pub tag_event : Sole tag.event.Reads.Post (λ k r e. with r e.0.now)
  -- batch
  pub batch_events : Sole batch.events.Reads.Post (λ k r e. with r (with e.0.now e.1.1.1.0.now))
  -- hex
  pub hex_pair_at : Sole hex.pair_at.Reads.Post (λ k r e. r)
  pub hex_nibble : Sole hex.nibble.Reads.Post (λ k r e. r)
  pub hex_put_hex : Sole hex.put_hex.Reads.Post (λ k r e. e.0.now)
  -- dump
  pub dump_read : Sole dump.read.Reads.Post (λ k r e. r)
  pub dump_page_of : Sole dump.page_of.Reads.Post (λ k r e. r)
  pub dump_byte_at : Sole dump.byte_at.Reads.Post (λ k r e. r)
  -- dock
  pub dock_list_dump : Sole dock.list_dump.Reads.Post (λ k r e. with r e.1.0.now)
  pub dock_seconds : Sole dock.seconds.Reads.Post (λ k r e. r)
  pub dock_period : Sole dock.period.Reads.Post (λ k r e. r)
  pub dock_temperature : Sole dock.temperature.Reads.Post (λ k r e. r)
  -- text
  pub text_put_head : Sole text.put_head.Reads.Post (λ k r e. with r e.0.now)
  pub text_put_entries : Sole text.put_entries.Reads.Post (λ k r e. with r e.0.now)
  pub text_twos_complement : Sole text.twos_complement.Reads.Post (λ k r e. r)
  -- console
  pub console_move_begun : Sole console.move_begun.Reads.Post (λ k r e. with r e.0.now)
  pub console_reading_of : Sole console.reading_of.Reads.Post (λ k r e. r)
  pub console_put_answer : Sole console.put_answer.Reads.Post (λ k r e. with r e.0.now)
  pub console_refused : Sole console.refused.Reads.Post (λ k r e. r)
  -- board
  pub board_new : Sole board.new.Reads.Post (λ k r e. with r e.0.now)
  pub board_event : Sole board.event.Reads.Post (λ k r e. with r e.0.now)
  pub board_places : Sole board.places.Reads.Post (λ k r e. r)
  pub board_same_number : Sole board.same_number.Reads.Post (λ k r e. r)
  pub board_judge : Sole board.judge.Reads.Post (λ k r e. r)
  pub board_judge_new : Sole board.judge_new.Reads.Post (λ k r e. r)
  -- packing
  pub packing_pack : Sole packing.pack.Reads.Post (λ k r e. e.0.now)
  pub packing_put : Sole packing.put.Reads.Post (λ k r e. e.0.now)
  pub packing_is_packed : Sole packing.is_packed.Reads.Post (λ k r e. r)
  pub packing_unpack : Sole packing.unpack.Reads.Post (λ k r e. r)
  -- rack
  pub rack_has_room : Sole rack.has_room.Reads.Post (λ k r e. r)
  pub rack_is_rack : Sole rack.is_rack.Reads.Post (λ k r e. r)
  pub rack_unpack : Sole rack.unpack.Reads.Post (λ k r e. r)
  pub rack_same_number : Sole rack.same_number.Reads.Post (λ k r e. r)
  pub rack_pack : Sole rack.pack.Reads.Post (λ k r e. e.0.now)
  -- bagtag
  pub bagtag_new : Sole bagtag.bagtag_new.Reads.Post (λ k r e. with r (with e.0.now e.1.0.now))
  pub bagtag_event : Sole bagtag.bagtag_event.Reads.Post
      (λ k r e. with r (with e.0.now (with e.1.0.now e.1.1.1.1.0.now)))
  pub bagtag_events : Sole bagtag.bagtag_events.Reads.Post
      (λ k r e. with r (with e.0.now (with e.1.0.now (with e.1.1.1.0.now e.1.1.1.1.0.now))))
  pub bagtag_line_new : Sole bagtag.line.bagtag_line_new.Reads.Post (λ k r e. with r (with e.0.now e.1.0.now))
  pub bagtag_line_event : Sole bagtag.line.bagtag_line_event.Reads.Post
      (λ k r e. with r (with e.0.now (with e.1.0.now e.1.1.1.1.1.1.0.now)))
  pub bagtag_list : Sole bagtag.bagtag_list.Reads.Post (λ k r e. with r (with e.1.0.now e.1.1.0.now))

-- ---- each contract is one equation for each thing that a caller sees

pair {α β} : {A : Type α} {B : Type β} {a b : A} {c d : B} → a ≡ b → c ≡ d → with a c ≡ with b d
pair p q i = (p i, q i)

pub determinacy : Determinacy
determinacy =
    record {
      answer_number_lem = λ k a r s e f p q. p ∙ sym q;
      answer_number_of = λ k a r s e f p q. p ∙ sym q;
      answer_refusal_text = λ k a r s e f p q. p ∙ sym q;
      bits_digit = λ k a r s e f p q. p ∙ sym q;
      bits_bit = λ k a r s e f p q. p ∙ sym q;
      bits_shift_in = λ R L g d same k a r s e f p q. same _ _ (p ∙ sym q);
      bits_byte_half = λ k a r s e f p q. p.0 ∙ sym q.0;
      bits_byte_topped = λ k a r s e f p q. p ∙ sym q;
      bits_field_half = λ k a r s e f p q. p.0 ∙ sym q.0;
      bits_field_topped = λ k a r s e f p q. p ∙ sym q;
      bits_parting = λ k a r s e f p q. p ∙ sym q;
      crc_crc16_bit = λ k a r s e f p q. p ∙ sym q;
      crc_crc16_byte = λ k a r s e f p q. p ∙ sym q;
      crc_crc16_run = λ k a r s e f p q. p ∙ sym q;
      crc_sent_low = λ k a r s e f p q. p ∙ sym q;
      crc_sent_high = λ k a r s e f p q. p ∙ sym q;
      crc_crc8 = λ k a r s e f p q. p ∙ sym q;
      crc_good_crc = λ k a r s e f p q. p ∙ sym q;
      calendar_next = λ k a r s e f p q. p ∙ sym q;
      calendar_step_seconds = λ k a r s e f p q. p ∙ sym q;
      image_sent = λ k a r s e f p q. p ∙ sym q;
      image_register = λ k a r s e f p q. p ∙ sym q;
      image_store = λ k a r s e f p q. p ∙ sym q;
      image_store_page = λ k a r s e f p q. p ∙ sym q;
      image_region_of = λ k a r s e f p q. p ∙ sym q;
      image_word = λ k a r s e f p q. p ∙ sym q;
      image_put_word = λ k a r s e f p q. p ∙ sym q;
      image_flag = λ k a r s e f p q. p ∙ sym q;
      image_put_flag = λ k a r s e f p q. p ∙ sym q;
      image_put_bytes = λ k a r s e f p q. p ∙ sym q;
      image_peek = λ k a r s e f p q. p ∙ sym q;
      image_poke = λ k a r s e f p q. p ∙ sym q;
      image_alarm = λ k a r s e f p q. p ∙ sym q;
      image_may_read = λ k a r s e f p q. p ∙ sym q;
      image_may_control = λ k a r s e f p q. p ∙ sym q;
      image_may_copy = λ k a r s e f p q. p ∙ sym q;
      select_waiting = λ k a r s e f p q. p ∙ sym q;
      select_reset = λ k a r s e f p q. p ∙ sym q;
      select_restart = λ k a r s e f p q. p ∙ sym q;
      select_overdrive = λ k a r s e f p q. p ∙ sym q;
      select_in_range_lem = λ k a r s e f p q. p ∙ sym q;
      select_selected = λ k a r s e f p q. p ∙ sym q;
      select_asks_alarm = λ k a r s e f p q. p ∙ sym q;
      select_slot = λ k a r s e f p q. p ∙ sym q;
      bus_blank = λ k a r s e f p q. p ∙ sym q;
      field_ask = λ k a r s e f p q. p ∙ sym q;
      field_gather = λ k a r s e f p q. p ∙ sym q;
      memory_ask = λ k a r s e f p q. p ∙ sym q;
      memory_slot = λ k a r s e f p q. p ∙ sym q;
      memory_in_range_lem = λ k a r s e f p q. p ∙ sym q;
      bus_state_clear = λ k a r s e f p q. p ∙ sym q;
      bus_state_to = λ k a r s e f p q. p ∙ sym q;
      bus_state_pass = λ k a r s e f p q. p ∙ sym q;
      bus_state_add = λ k a r s e f p q. p ∙ sym q;
      bus_state_count = λ k a r s e f p q. p ∙ sym q;
      bus_state_fresh_crc = λ k a r s e f p q. p ∙ sym q;
      bus_state_at_address = λ k a r s e f p q. p ∙ sym q;
      bus_state_note = λ k a r s e f p q. p ∙ sym q;
      bus_state_listen = λ k a r s e f p q. p ∙ sym q;
      bus_state_status_byte = λ k a r s e f p q. p ∙ sym q;
      bus_state_pad_byte = λ k a r s e f p q. p ∙ sym q;
      exchange_new = λ k a r s e f p q. p ∙ sym q;
      exchange_reset = λ k a r s e f p q. p ∙ sym q;
      exchange_short_reset = λ k a r s e f p q. p ∙ sym q;
      exchange_ask = λ k a r s e f p q. p ∙ sym q;
      exchange_slot = λ k a r s e f p q. p ∙ sym q;
      exchange_in_range_lem = λ k a r s e f p q. p ∙ sym q;
      conversion_make = λ k a r s e f p q. p ∙ sym q;
      conversion_count_device = λ k a r s e f p q. p ∙ sym q;
      conversion_alarm_alarms = λ k a r s e f p q. p ∙ sym q;
      conversion_clock_advance = λ k a r s e f p q. p ∙ sym q;
      mission_in_range = λ k a r s e f p q. p ∙ sym q;
      mission_tick = λ k a r s e f p q. pair (p.0 ∙ sym q.0) (p.1 ∙ sym q.1);
      mission_clear = λ k a r s e f p q. p ∙ sym q;
      mission_start = λ k a r s e f p q. pair (p.0 ∙ sym q.0) (p.1 ∙ sym q.1);
      mission_stop = λ k a r s e f p q. p ∙ sym q;
      mission_convert = λ k a r s e f p q. p ∙ sym q;
      record_fresh = λ k a r s e f p q. p ∙ sym q;
      record_good_number = λ k a r s e f p q. p ∙ sym q;
      record_good_code = λ k a r s e f p q. p ∙ sym q;
      record_in_range = λ k a r s e f p q. p ∙ sym q;
      record_accept = λ k a r s e f p q. p ∙ sym q;
      record_refuse = λ k a r s e f p q. p ∙ sym q;
      event_slot = λ k a r s e f p q. pair (p.0 ∙ sym q.0) (p.1 ∙ sym q.1);
      event_reset = λ k a r s e f p q. p ∙ sym q;
      event_short_reset = λ k a r s e f p q. p ∙ sym q;
      event_tick = λ k a r s e f p q. pair (p.0 ∙ sym q.0) (p.1 ∙ sym q.1);
      tag_new = λ k a r s e f p q. pair (p.0 ∙ sym q.0) (p.1 ∙ sym q.1);
      tag_event = λ k a r s e f p q. pair (p.0 ∙ sym q.0) (p.1 ∙ sym q.1);
      batch_events = λ k a r s e f p q. pair (p.0 ∙ sym q.0) (pair (p.1.0 ∙ sym q.1.0) (p.1.1 ∙ sym q.1.1));
      hex_pair_at = λ k a r s e f p q. p ∙ sym q;
      hex_nibble = λ k a r s e f p q. p ∙ sym q;
      hex_put_hex = λ k a r s e f p q. p ∙ sym q;
      dump_read = λ k a r s e f p q. p ∙ sym q;
      dump_page_of = λ k a r s e f p q. p ∙ sym q;
      dump_byte_at = λ k a r s e f p q. p ∙ sym q;
      dock_list_dump = λ k a r s e f p q. pair (p.0 ∙ sym q.0) (p.1 ∙ sym q.1);
      dock_seconds = λ k a r s e f p q. p ∙ sym q;
      dock_period = λ k a r s e f p q. p ∙ sym q;
      dock_temperature = λ k a r s e f p q. p ∙ sym q;
      text_put_head = λ k a r s e f p q. pair (p.0 ∙ sym q.0) (p.1 ∙ sym q.1);
      text_put_entries = λ k a r s e f p q. pair (p.0 ∙ sym q.0) (p.1 ∙ sym q.1);
      text_twos_complement = λ k a r s e f p q. p ∙ sym q;
      console_move_begun = λ k a r s e f p q. pair (p.0 ∙ sym q.0) (p.1 ∙ sym q.1);
      console_reading_of = λ k a r s e f p q. p ∙ sym q;
      console_put_answer = λ k a r s e f p q. pair (p.0 ∙ sym q.0) (p.1 ∙ sym q.1);
      console_refused = λ k a r s e f p q. p ∙ sym q;
      board_new = λ k a r s e f p q. pair (p.0 ∙ sym q.0) (p.1 ∙ sym q.1);
      board_event = λ k a r s e f p q. pair (p.0 ∙ sym q.0) (p.1 ∙ sym q.1);
      board_places = λ k a r s e f p q. p ∙ sym q;
      board_same_number = λ k a r s e f p q. p ∙ sym q;
      board_judge = λ k a r s e f p q. p ∙ sym q;
      board_judge_new = λ k a r s e f p q. p ∙ sym q;
      packing_pack = λ k a r s e f p q. p.0 ∙ sym q.0;
      packing_put = λ k a r s e f p q. p.0 ∙ sym q.0;
      packing_is_packed = λ k a r s e f p q. p ∙ sym q;
      packing_unpack = λ k a r s e f p q. p ∙ sym q;
      rack_has_room = λ k a r s e f p q. p ∙ sym q;
      rack_is_rack = λ k a r s e f p q. p ∙ sym q;
      rack_unpack = λ k a r s e f p q. p ∙ sym q;
      rack_same_number = λ k a r s e f p q. p ∙ sym q;
      rack_pack = λ k a r s e f p q. p.0 ∙ sym q.0;
      bagtag_new = λ k a r s e f p q. pair (p.0 ∙ sym q.0) (pair (p.1.0 ∙ sym q.1.0) (p.1.1.0 ∙ sym q.1.1.0));
      bagtag_event = λ k a r s e f p q.
          pair (p.0 ∙ sym q.0)
          (pair (p.1.0 ∙ sym q.1.0) (pair (p.1.1.0 ∙ sym q.1.1.0) (p.1.1.1.0 ∙ sym q.1.1.1.0)));
      bagtag_events = λ k a r s e f p q.
          pair (p.0 ∙ sym q.0)
          (pair (p.1.0 ∙ sym q.1.0)
          (pair (p.1.1.0 ∙ sym q.1.1.0)
          (pair (p.1.1.1.0 ∙ sym q.1.1.1.0) (p.1.1.1.1.0 ∙ sym q.1.1.1.1.0))));
      bagtag_line_new = λ k a r s e f p q.
          pair (p.0 ∙ sym q.0) (pair (p.1.0 ∙ sym q.1.0) (p.1.1.0 ∙ sym q.1.1.0));
      bagtag_line_event = λ k a r s e f p q.
          pair (p.0 ∙ sym q.0)
          (pair (p.1.0 ∙ sym q.1.0) (pair (p.1.1.0 ∙ sym q.1.1.0) (p.1.1.1.0 ∙ sym q.1.1.1.0)));
      bagtag_list = λ k a r s e f p q.
          pair (p.0 ∙ sym q.0) (pair (p.1.0 ∙ sym q.1.0) (p.1.1.0 ∙ sym q.1.1.0));
    }
