-- The memory commands, each from what stands of it in the files beside this one. Assumes nothing.
use Rattle.std.specs.Prelude.{refl, [], ◌<◌}
use Rattle.std.proofs.Common.{⊎_elim, arith}
use Rattle.bits.specs.Bits.{bit_of}
use Rattle.bus.specs.declared.Control.{Control}
use Rattle.event.specs.Event.{performed, performed_counters}
use Rattle.field.specs.Field.{guarded}
use Rattle.image.specs.Fields.{flag_at}
use Rattle.mission.specs.Mission
use Rattle.mission.specs.Mission.Commands as commands-of
use Rattle.mission.specs.Mission.Ranges.{range_facts}
use Rattle.record.specs.Record.Laws.{ranges_of}
use Rattle.promises.specs.Line.ControlRun.{control_byte}
use Rattle.promises.specs.Ranges.Laws.{fit_sound, fit_whole}
use Rattle.promises.specs.Sentences.Commands.Controlling.{controls, controls_not, controls_other, converts, converts_not, no_command}
use Rattle.promises.specs.Sentences.Commands.Copying.{copies_done, copies_not}
use Rattle.promises.specs.Sentences.Commands.Loading.{held_stays}
use Rattle.promises.specs.Sentences.Commands.Passwords.{unless}
use Rattle.promises.specs.Sentences.Commands.Reading.{reads, reads_on, reads_not}
use Rattle.promises.specs.Sentences.Commands.Alike.{goes_alike, reset_alike}
use Rattle.promises.specs.Sentences.Commands.Taken.{takes, still}
use Rattle.promises.specs.Sentences.Commands.Writing.{is_written, writes, writes_part, writes_begun, reads_pad}
use Rattle.promises.specs.Sentences.Mission.Deeds.{start_may, may_start_lem, is_cleared, is_started, is_stopped, is_forced}
use Rattle.promises.specs.Sentences.Memory.Laws.{stored_is}
use Rattle.promises.specs.Sentences.Controlling.{Controlling}
use Rattle.promises.specs.Sentences.Reading.{Reading}
use Rattle.promises.specs.Sentences.Scratchpad.{Scratchpad}
use Rattle.promises.specs.Sentences.Slots.{Slots}
use Rattle.promises.specs.Words.{bit, held_of}

pub scratchpad : Scratchpad
unfolding performed performed_counters
scratchpad =
    record {
      write = λ {s} fit ready address bytes more small are end.
          rw (writes fit ready address bytes more small are end) (
            refl,
            record { image = refl; code = refl; counters = refl; number = refl },
            is_written (held_of s) address bytes [] fit.pad (omega arith),
          );
      write_part = λ {s} fit ready address bytes broken small are inside few.
          rw (writes_part fit ready address bytes broken small are inside few).1 (
            refl,
            record { image = refl; code = refl; counters = refl; number = refl },
            is_written (held_of s) address bytes broken fit.pad (omega arith),
          );
      write_begun = writes_begun;
      read_scratchpad = reads_pad;
      copy = λ {s} fit ready address status field n whole c.
          let low : address < 0x0280 = ⊎_elim (λ user. omega arith) (λ idle. idle.0) c.place in
          rw (copies_done fit ready address status field n whole c) (
            refl,
            rw (← c.ta) (stored_is address fit.size fit.pad low),
            record { code = refl; number = refl; counters = refl },
            record { pad = refl; ta = refl; ending = refl; pf = refl; aa = refl },
          );
      no_copy = copies_not;
    }

pub reading : Reading
reading =
    record {
      read = λ fit ready address field n whole passes low-enough. reads fit ready address field whole passes n low-enough;
      read_on_lem = λ fit ready address field n more whole passes last. reads_on fit ready address field whole passes n more last;
      no_read = λ fit ready address field more small whole why. reads_not fit ready address field whole more small why;
      taken = takes;
    }

pub controlling : Controlling
unfolding performed performed_counters guarded control_byte Mission.started_counters bit bit_of flag_at
controlling =
    record {
      clear = λ {s} fit ready field more whole passes.
          rw (controls fit ready Control.Clear refl field whole more passes) (
            refl,
            (λ idle. (is_cleared (fit_whole fit) idle, record { code = refl; number = refl; counters = refl }, refl)),
            (λ running. record { image = commands-of.cleared_mission s.image running; code = refl; counters = refl; number = refl; held = refl }),
          );
      start = λ {s} fit ready field more whole passes.
          rw (controls fit ready Control.Start refl field whole more passes) (
            refl,
            (λ may. (is_started (fit_whole fit) (start_may may), record { code = refl; number = refl; counters = rw (start_may may) }, refl)),
            (λ never.
                let shut = unless (Mission.may_start s.image) (λ e. never (may_start_lem s.image e)) in
                record { image = commands-of.started_not s.image shut; code = refl; counters = rw shut; number = refl; held = refl }),
          );
      stop = λ fit ready field more whole passes.
          rw (controls fit ready Control.Stop refl field whole more passes)
          (refl, is_stopped (fit_whole fit), record { code = refl; number = refl; counters = refl }, refl);
      no_control = controls_not;
      other_last = controls_other;
      force = λ {s} fit ready more.
          let small = (range_facts s.tag.counters (ranges_of s.tag (fit_sound fit).ranges).counters).reading in
          rw (converts fit ready more) (
            refl,
            (λ idle. (is_forced (fit_whole fit) s.tag.counters small idle, record { code = refl; number = refl; counters = refl }, refl)),
            (λ running. record {
              image = commands-of.forced_mission s.image s.tag.counters running;
              code = refl;
              counters = refl;
              number = refl;
              held = refl;
            }),
          );
      no_force = converts_not;
      other = no_command;
    }

pub slots : Slots
slots =
    record {
      quiet = still;
      same_held_lem = held_stays;
      alike = goes_alike;
      alike_reset = reset_alike;
    }
