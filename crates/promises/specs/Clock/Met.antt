-- The premises of `Clock` can be met, in both forms at once: an owner sets two new tags to one moment, one in the 24-hour form and one
-- in the twelve-hour form. Assumes nothing.
use Rattle.std.specs.Prelude.{◌≡◌, List, ◌∷◌, ◌++◌, ℕ, replicate}
use Rattle.std.proofs.Math.Path.{refl}
use Rattle.std.proofs.Common.{inl, inr, arith}
use Rattle.std.specs.Int.Bits.{bit_and}
use Rattle.std.proofs.Math.Dec.{lit≤}
use Rattle.bits.specs.Bits.{bit_of}
use Rattle.bits.specs.Bytes.{Bytes, bytes_of}
use Rattle.calendar.specs.Calendar.{decimal}
use Rattle.calendar.specs.Meaning.{leap_day, month_length, cent_of, year_of, months_over, days_over, form_of, hour_of, seconds_of, moment, WritesHour, Valid}
use Rattle.calendar.proofs.Meaning.Fields.{written}
use Rattle.calendar.specs.declared.Clock.{Clock}
use Rattle.image.specs.Stored.{blend, stored_run}
use Rattle.image.specs.Tables.{writable}
use Rattle.promises.specs.Clock.{Timed}
use Rattle.promises.specs.Demand2.Met.Page.{page_at_lem}
use Rattle.promises.specs.Demand3.Needed.Owner.{Owned, stored, stored_owned}
use Rattle.promises.specs.Demand3.Needed.Tags.{number, fresh, fresh_off, fresh_idle, made, made_owned}
use Rattle.promises.specs.Runs.{State}
use Rattle.promises.specs.Sentences.Clock.{clock_at}
use Rattle.promises.specs.Words.{bit}

-- the registers from 0200h on: half past this hour and 5 s, 29 February 24; and EOSC, in 0212h
abbrev page : ℕ → List ℕ
page hours = 0x05 ∷ 0x30 ∷ hours ∷ 0x29 ∷ 0x02 ∷ 0x24 ∷ (replicate 12 0x00 ++ (0x01 ∷ replicate 13 0x00))

abbrev clock : ℕ → Clock
clock hours = record { seconds = 0x05; minutes = 0x30; hours = hours; date = 0x29; month = 0x02; year = 0x24 }

-- a new tag that its owner has set so
abbrev pub set_to : ℕ → State
set_to hours = stored made 0x0200 (page hours)

-- what it takes of the hour's byte
module _ (hours : ℕ) (bytes : Bytes (page hours)) (named : bit_and (blend 0x7F 0 hours) 0x7F ≡ hours) (hour : WritesHour hours) where
  owned : Owned number (stored_run fresh 0x0200 (page hours)) (set_to hours)
  owned = stored_owned made_owned fresh_off 0x0200 (page hours) (omega arith) refl bytes fresh_idle

  clock_set : clock_at (set_to hours).image ≡ clock hours
  unfolding clock_at blend writable
  clock_set =
      let at = page_at_lem (page hours) refl in
      rw (owned.holds, at 0x00 tt tt, at 0x01 tt tt, at 0x02 tt tt, at 0x03 tt tt, at 0x04 tt tt, at 0x05 tt tt, named)

  valid : Valid (clock hours)
  unfolding cent_of year_of months_over month_length leap_day decimal
  valid =
      record {
        seconds = written tt tt tt tt;
        minutes = written tt tt tt tt;
        hours = hour;
        date = written tt tt tt tt;
        month = written tt tt tt tt;
        cent = lit≤ tt;
        year = written tt tt tt tt;
      }

  timed : Timed (set_to hours)
  unfolding bit bit_of blend writable
  timed =
      record {
        reached = owned.reached;
        eosc = rw (owned.holds, page_at_lem (page hours) refl 0x12 tt tt);
        valid = rw clock_set valid;
      }

-- two tags of one moment, one in each form
pub record BothForms (s t : State) : Type 0 where
  pub day : Timed s
  pub twelve : Timed t
  pub day_form : form_of (clock_at s.image).hours ≡ 0
  pub twelve_form : form_of (clock_at t.image).hours ≡ 1
  pub moments : moment (clock_at s.image) ≡ moment (clock_at t.image)

-- 14 and 2 PM
pub forms_met : BothForms (set_to 0x14) (set_to 0x62)
unfolding blend form_of moment seconds_of hour_of days_over year_of months_over cent_of decimal
forms_met =
    let fourteen = clock_set 0x14 (bytes_of (page 0x14) tt) refl (inl (written tt tt tt tt)) in
    let two = clock_set 0x62 (bytes_of (page 0x62) tt) refl (inr (refl, written tt tt tt tt)) in
    record {
      day = timed 0x14 (bytes_of (page 0x14) tt) refl (inl (written tt tt tt tt));
      twelve = timed 0x62 (bytes_of (page 0x62) tt) refl (inr (refl, written tt tt tt tt));
      day_form = rw fourteen;
      twelve_form = rw two;
      moments = rw (fourteen, two);
    }
