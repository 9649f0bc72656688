-- Demand 2 of the order, the listing: "From a dump of one moment, with no register written and no Clear done since the mission's
-- start, the dock lists exactly that mission's readings that the log still holds, oldest first, to the format's resolution", which of
-- entry 0 of an alarm start is 8 bits (request #102). What a mission's readings are, and what is kept of them, is said in `History`, from
-- the settings at Start and the ticks' readings alone; what a Start, its settings and the mission's ticks are in `Sentences.Mission`, by the image; that there are such, with one
-- mission's listing in numbers, in `Demand2.Met`. Assumes nothing.
use Rattle.answer.specs.declared.Refusal.{Refusal}
use Rattle.std.specs.Prelude.{◌≡◌, true, List, [], ℕ, ◌+◌, ◌-◌, ◌≤◌, ◌<◌, min, ℤ, pos, length, get_or, Ok, Err}
use Rattle.std.proofs.Common.{ap}
use Rattle.bits.specs.Bits.{bit_of}
use Rattle.dock.specs.Entries.{temperature_of, seconds_of, period_of}
use Rattle.dock.specs.Listing.{refused, listing_of, temperatures_of, seconds_at}
use Rattle.dock.specs.Listing.Laws.{length_places}
use Rattle.dump.specs.Dump.{dump_of}
use Rattle.image.specs.Fields.{flag_at}
use Rattle.image.specs.Registers
use Rattle.conversion.specs.Conversion as conversion
use Rattle.record.specs.Record.{good_code}
use Rattle.record.specs.Record.Laws.{ranges_of}
use Rattle.promises.specs.Demand2.Course.{reached_solid, solid_run, starts_after, listed_run}
use Rattle.promises.specs.Demand2.Dumped.{six_bytes}
use Rattle.promises.specs.Demand2.Holds.{Listed}
use Rattle.promises.specs.Demand2.Listing.{listing_read, temperature_read, past_read, few_read}
use Rattle.promises.specs.History
use Rattle.promises.specs.History.{Settings, Conversion}
use Rattle.promises.specs.History.Laws.{history_le}
use Rattle.promises.specs.Ranges.Laws.{reached_fit}
use Rattle.promises.specs.Runs.{State, Event, after, run, Reached, Always}
use Rattle.promises.specs.Runs.Laws.{reached_after, reached_run}
use Rattle.promises.specs.Sentences.Dump.{zero_counts, DumpOf}
use Rattle.promises.specs.Sentences.Dump.Read.{dump_is}
use Rattle.promises.specs.Sentences.Course.{Starts, Spares, mission_ticks, settings_of, none}
use Rattle.promises.specs.Words.{bit}
pub mod AtStart
pub mod Counts
pub mod Holds
pub mod Ticks
pub mod Measures
pub mod Events
pub mod Effects
pub mod Deeds
pub mod Course
pub mod Going
pub mod Dumped
pub mod Listing
pub mod Met

-- "Held: the last min(n, places)"
abbrev pub held_of : Settings → List Conversion → ℕ
held_of s entries = min (length entries) (History.places s)

-- the number of the oldest entry held, and of entry i of the listing
abbrev pub number_of : Settings → List Conversion → ℕ → ℕ
number_of s entries i = length entries - held_of s entries + i

-- what the dock answers to a dump when these places are lent
pub record Lists (s : Settings) (entries : List Conversion) (code : ℕ) (dump : List ℕ) (lent : List ℤ) : Type 0 where
  -- accepted, with the code, the number held and the stamp
  pub listing : held_of s entries ≤ length lent
      → listing_of dump (length lent)
      ≡ record {
        answer = Ok tt;
        code = code;
        held = held_of s entries;
        first = length entries - held_of s entries;
        stamp = six_bytes (History.stamp s entries);
        rate = s.rate;
        ehss = s.ehss;
        suta = s.suta;
      }
  -- "Seconds from the stamp"
  pub seconds : held_of s entries ≤ length lent → (i : ℕ)
      → seconds_at (listing_of dump (length lent)) i ≡ History.seconds s (number_of s entries i)
  -- the temperature of the reading as the log keeps it, oldest first
  pub temperatures : held_of s entries ≤ length lent → (i : ℕ) → i < held_of s entries
      → let k = number_of s entries i in
      get_or (temperatures_of dump lent) i (pos 0) ≡ History.temperature code (History.kept s k (get_or entries k none).reading)
  -- as many places come back as were lent, and "places past the entries stay as they were"
  pub places : length (temperatures_of dump lent) ≡ length lent
  pub past : held_of s entries ≤ length lent → (i : ℕ) → held_of s entries ≤ i
      → get_or (temperatures_of dump lent) i (pos 0) ≡ get_or lent i (pos 0)
  -- 12: "fewer places lent for temperatures than entries held"
  pub few : length lent < held_of s entries → (listing_of dump (length lent) ≡ zero_counts (Err Refusal.Places)) × (temperatures_of dump lent ≡ lent)

-- an image that holds a mission's entries is listed so
lists : {start image : List ℕ} {es : List Conversion} → Listed start es image → (code : ℕ) → length es ≤ History.most (settings_of start)
    → good_code code ≡ true → (Registers.rate start ≡ 0 → ⊥) → Registers.etl start ≡ true → (lent : List ℤ)
    → Lists (settings_of start) es code (dump_of image code) lent
unfolding refused settings_of bit flag_at bit_of History.places conversion.places seconds_at seconds_of period_of History.period History.seconds temperature_of History.temperature
lists {image = image} p code most good rated logging lent =
    record {
      listing = listing_read p code most good rated logging lent;
      seconds = λ enough i. ap (λ l. seconds_at l i) (listing_read p code most good rated logging lent enough);
      temperatures = temperature_read p code most good rated logging lent;
      places = length_places (dump_of image code) lent;
      past = past_read p code most good rated logging lent;
      few = few_read p code most good rated logging lent;
    }

-- a Start is done in the event e, over the settings that it found; then come these events; and at their end the dump is taken
pub demand2 : {s : State} (e : Event) (events : List Event) → Reached s → Starts s e → Always Spares (after s e) events
    → let start = after s e in
    let end = (run start events).state in
    let settings = settings_of s.image in
    (dump : List ℕ) → DumpOf end dump → (lent : List ℤ)
    → Lists settings (History.history settings (mission_ticks start events)) end.tag.code dump lent
demand2 {s} e events reached starts always dump is lent =
    let start = after s e in
    let end = (run start events).state in
    let began = starts_after e (reached_solid reached) starts in
    let sound = (solid_run events began.solid).sound in
    rw (began.settings, dump_is (reached_fit (reached_run events (reached_after reached e))) dump is) at
    (lists (listed_run {readings = []} events began.solid began.holds always) end.tag.code
    (history_le (settings_of start.image) (mission_ticks start events))
    (ranges_of end.tag sound.ranges).code
    began.holds.running.time.rated
    began.etl
    lent)
