-- What a mission's image holds by its history alone (`Sentences.Course`, `told`), and what its Start has done (`starts`). Assumes nothing.
use Rattle.std.specs.Prelude.{◌≡◌, refl, Bool, true, false, ◌&&◌, List, [], ◌∷◌, ℕ, ◌+◌, ◌*◌, ◌/◌, ◌%◌, ◌<◌, length, get_or, if◌then◌else◌}
use Rattle.std.proofs.Common.{sym, ◌∙◌}
use Rattle.std.proofs.Math.Path.{ap}
use Rattle.std.proofs.lemmas.Bool.{false≢true}
use native.Mathlib.Omega.{arith}
use Rattle.bits.specs.Bits.{bit_of}
use Rattle.image.specs.Fields as fields
use Rattle.image.specs.Fields.{flag_at}
use Rattle.image.specs.Leaves.{Leaves, word_left}
use Rattle.image.specs.Registers
use Rattle.conversion.specs.Clock.Named.{clock_named}
use Rattle.conversion.specs.Conversion as conversion
use Rattle.conversion.specs.Conversion.Converts.{log_kept}
use Rattle.conversion.specs.Conversion.Whole.{Whole}
use Rattle.mission.specs.Mission.Commands as commands
use Rattle.mission.specs.Mission.Frames.{leaves_started}
use Rattle.mission.specs.declared.Counters.{Counters}
use Rattle.promises.specs.Demand2.AtStart.{delay_of_lem, clock_of_lem}
use Rattle.promises.specs.Demand2.Course.{reached_solid, four_found, start_done, starts_after}
use Rattle.promises.specs.Demand2.Going.{holds_run}
use Rattle.promises.specs.Demand2.Holds.{Holds}
use Rattle.promises.specs.History
use Rattle.promises.specs.History.{Settings, Conversion}
use Rattle.promises.specs.History.Laws.{none_length}
use Rattle.promises.specs.Runs.{State, Event, after, run, Reached, Always}
use Rattle.promises.specs.Sentences.Clock.Laws.{seconds_are, clock_is, stamp_is}
use Rattle.promises.specs.Sentences.Course.{Starts, Going, Told, mission_ticks, settings_of, none}
use Rattle.promises.specs.Sentences.Mission.{MayStart, Started}
use Rattle.promises.specs.Sentences.Mission.Ticks.{two_bytes}
use Rattle.promises.specs.Words.{bit}
use Rattle.promises.specs.Words.Laws.{byte_log, stays_left}

-- ---- Start

-- a Start that is done has found what document 01 asks for, and left what it says
pub starts : {s : State} (e : Event) → Reached s → Starts s e → MayStart s.image × Started s.image (after s e).image
unfolding bit bit_of flag_at
starts {s} e reached begins =
    let solid = reached_solid reached in
    let done = start_done e solid begins in
    let began = commands.starts solid.whole done.may in (
      four_found done.may,
      rw done.image
          (record { mip = began.mip; memclr = began.memclr; eosc = began.eosc; wfta = began.wfta; rest = stays_left (leaves_started s.image) tt }),
    )

-- ---- after any events of the mission

-- the bytes of an entry, by the reading that they hold: t is TLFS
entry_bytes : (t : Bool) (image : List ℕ) (k reading : ℕ) → ((j : ℕ) → get_or image j 0 < 256)
    → (t ≡ true → get_or image (640 + (2 * (k % 4096) + 1)) 0 % 32 ≡ 0)
    → (let place = k % (if t then 4096 else 8192) in
    if t then get_or image (640 + 2 * place) 0 * 8 + get_or image (641 + 2 * place) 0 / 32 else get_or image (640 + place) 0 * 8)
    ≡ reading
    → (t ≡ false → get_or image (640 + k % 8192) 0 ≡ reading / 8)
    × (t ≡ true →
    (get_or image (640 + 2 * (k % 4096)) 0 ≡ reading / 8) × (get_or image (640 + (2 * (k % 4096) + 1)) 0 ≡ reading % 8 * 32))
entry_bytes true image k reading small low e =
    let place : 641 + 2 * (k % 4096) ≡ 640 + (2 * (k % 4096) + 1) = omega arith in
    let sum = rw place at e in
    let second = small (640 + (2 * (k % 4096) + 1)) in
    let none = low refl in
    (λ narrow. absurd (false≢true (sym narrow)), λ wide. (omega arith, omega arith))
entry_bytes false image k reading small low e = (λ narrow. omega arith, λ wide. absurd (false≢true wide))

-- `before` is the image that Start found, `start` the one that it left
module _ {before start readings image : List ℕ} {c : Counters} (left : Leaves [] ((0x0212, 0) ∷ (0x0215, 1) ∷ (0x0215, 3) ∷ (0x0215, 4) ∷ []) before start)
    (whole : Whole start) (h : Holds start readings image c) where
  abbrev settings : Settings
  settings = settings_of start

  abbrev entries : List Conversion
  entries = History.history settings readings

  told_by : Told settings readings before image
  unfolding settings_of bit bit_of flag_at fields.word_at History.made History.places conversion.places conversion.entry_at
  told_by =
      record {
        mip = h.running.time.running;
        memclr = h.listed.memclr;
        eosc = h.running.eosc;
        clock = rw (clock_is image, clock_of_lem start, seconds_are (length readings) (clock_named start)) h.running.clock;
        delay = rw (delay_of_lem start) h.running.time.left;
        samples = h.listed.samples;
        device = rw (← word_left 0x0223 3 left tt) h.measured.device;
        thf = h.measured.thf;
        tlf = h.measured.tlf;
        wfta = h.running.wfta ∙ ap (λ (b : Bool). Registers.suta start && b) (none_length entries);
        latest = λ i e. two_bytes _ _ _ (h.listed.whole.bytes 0x020C) (h.listed.whole.bytes 0x020D) (h.measured.latest i e);
        no_latest = λ e.
            let same = h.measured.no_latest e in
            let a = h.listed.whole.bytes 0x020C in
            let b = whole.bytes 0x020C in
            rw (← left.keeps.bytes 0x020C tt, ← left.keeps.bytes 0x020D tt) (omega arith, omega arith);
        stamp = rw (stamp_is image) h.listed.stamp;
        log = λ k lt ge.
            let bytes = entry_bytes (Registers.tlfs start) image k (History.kept settings k (get_or entries k none).reading) h.listed.whole.bytes
            (λ wide. h.listed.written.low wide k lt) (rw h.listed.settings.tlfs at (h.listed.entries k lt ge)) in (
              λ narrow. byte_log image (k % 8192) (omega arith) ∙ bytes.0 narrow,
              λ wide. (
                byte_log image (2 * (k % 4096)) (omega arith) ∙ (bytes.1 wide).0,
                byte_log image (2 * (k % 4096) + 1) (omega arith) ∙ (bytes.1 wide).1,
              ),
            );
        unwritten = λ j inside ge.
            rw (byte_log image j inside, byte_log before j inside, ← log_kept j left.keeps tt inside) (h.listed.written.past j inside ge);
      }

pub told : {s : State} (e : Event) (events : List Event) → Reached s → Starts s e → Always Going (after s e) events →
    Told (settings_of s.image) (mission_ticks (after s e) events) s.image (run (after s e) events).state.image
told {s} e events reached begins going =
    let done = start_done e (reached_solid reached) begins in
    let began = starts_after e (reached_solid reached) begins in
    let there = holds_run {readings = []} events began.solid began.holds going in
    rw began.settings at (told_by {before = s.image} (rw done.image (leaves_started s.image)) began.solid.whole there.1)
