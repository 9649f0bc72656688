-- Document 01's "Choosing a tag on the line", proved: each sentence by the run that its slots make. Assumes nothing.
use Rattle.std.specs.Prelude.{Bool, true, false, ◌||◌, List, [], ◌∷◌, ◌++◌, map, ◌≡◌, ℕ, ◌<◌, eqb, drop}
use Rattle.std.proofs.lemmas.Bool.{false≢true}
use Rattle.std.proofs.lemmas.List.{map-append}
use Rattle.std.proofs.Common.{append-nil, ◌∙◌, arith, eqb-true}
use Rattle.std.proofs.Math.Path.{refl}
use Rattle.bits.specs.Bits.{bits_of}
use Rattle.exchange.specs.Exchange.{begun}
use Rattle.exchange.specs.Runs.{Way, way_slots, way_line, way_mode}
use Rattle.select.specs.declared.Choosing as stage
use Rattle.select.specs.declared.Choosing.TheVariants.{Silent, Giving, Selected}
use Rattle.select.specs.Select.{mode_of, keeps, rom_command}
use Rattle.select.specs.Select.Laws.{mark_of_lem, speed_of_lem}
use Rattle.select.specs.Select.Mark as mark
use Rattle.select.specs.Select.Mark.{joins, rom_unknown}
use Rattle.select.specs.Runs.{match_byte}
use Rattle.promises.specs.Line.Choosing.{Comes, cleared, begun_comes, byte_silent, match_part, match_other, search_part, search_other, search_begun, search_joined, resume_joined, alarm_of, alarm_known, alarm_is, comes_run, silent_run}
use Rattle.promises.specs.Line.Slots.{with_exchange, session_way}
use Rattle.promises.specs.Ranges.{Fit}
use Rattle.promises.specs.Ranges.Laws.{fit_sound}
use Rattle.promises.specs.Runs.{State, Event, Ran, run}
use Rattle.promises.specs.Runs.Laws.{run_append}
use Rattle.promises.specs.Sentences.Choosing.{rom, Gives, Chooses, Silences, alarm, Choosing}
use Rattle.promises.specs.Sentences.Choosing.Modes.{mode_stays}
use Rattle.promises.specs.Words.{among, number_of, mark_of}
use Rattle.promises.specs.Words.Laws.{bit_is, low_is, mark_is, speed_is}

-- one of the two Matches
which_match : (byte : ℕ) → among (0x55 ∷ 0x69 ∷ []) byte ≡ true → (fast : Bool) × (byte ≡ match_byte fast)
unfolding among
which_match byte one = by (eqb byte 0x55) refl (eqb byte 0x69) refl one
  where
    by : (slow : Bool) → eqb byte 0x55 ≡ slow → (fast : Bool) → eqb byte 0x69 ≡ fast → (slow || (fast || false)) ≡ true →
        (fast : Bool) × (byte ≡ match_byte fast)
    by true e fast f one = (false, eqb-true byte 0x55 e)
    by false e true f one = (true, eqb-true byte 0x69 f)
    by false e false f one = absurd (false≢true one)

module _ {s : State} (fit : Fit s) where
  -- a run that leaves the tag there, with this mark and speed, and nothing else changed
  abbrev Ends : List Bool → Bool → Bool → stage.Choosing → Ran → Type 0
  Ends line marked fast k ran =
      ran ≡ record { line = false ∷ line; state = with_exchange s (begun s.tag.exchange (keeps (mode_of marked fast) k)) }

  -- what a sentence says of it; where the tag is chosen, and where it is silent
  gives : {line : List Bool} {marked fast : Bool} {k : stage.Choosing} {ran : Ran} → Ends line marked fast k ran → Gives s line marked fast ran
  gives {marked = marked} {fast = fast} e =
      rw e
      (record {
        line = refl;
        kept = record { image = refl; code = refl; counters = refl; number = refl; held = refl };
        mark = mark_is (mode_of marked fast) ∙ mark_of_lem marked fast;
        speed = speed_is (mode_of marked fast) ∙ speed_of_lem marked fast;
      })

  chooses : {line : List Bool} {marked fast : Bool} {ran : Ran} → Ends line marked fast Selected ran → Chooses s line marked fast ran
  chooses e = (gives e, rw e (record { chosen = refl; bus = refl }))

  silences : {line : List Bool} {marked fast : Bool} {ran : Ran} → Ends line marked fast Silent ran → Silences s line marked fast ran
  silences e = (gives e, rw e refl)

  -- slots in which the tag is still being chosen make such a run, at standard speed
  comes : {bits : List Bool} {k : stage.Choosing} {marked : Bool} {line : List Bool} →
      Comes (mark_of s) (number_of s) (alarm_of s) bits k marked line → Ends line marked false k (run s (Event.reset ∷ map Event.slot bits))
  comes {bits} = comes_run s bits (fit_sound fit)

  -- what the image answers is the sentences' alarm
  asked : alarm_of s ≡ alarm s
  asked = alarm_known s ∙ alarm_is s

  -- a Search of either kind that is joined, and then any slots: what the line carries after its byte, and what is left
  search_then : (byte : ℕ) → byte < 256 → joins byte (alarm_of s) ≡ true → (bits : List Bool) →
      let there = with_exchange s (begun s.tag.exchange (keeps (mode_of false false) (Giving 0))) in
      run s (rom byte bits) ≡ record { line = false ∷ (bits_of 8 byte ++ (run there (map Event.slot bits)).line); state = (run there (map Event.slot bits)).state }
  search_then byte small joined bits =
      rw (low_is 8 byte, map-append Event.slot (bits_of 8 byte) bits)
      (run_append s (Event.reset ∷ map Event.slot (bits_of 8 byte)) (map Event.slot bits)
      ∙ rw (comes (search_begun (mark_of s) (number_of s) (alarm_of s) byte small joined)))

  searched : alarm_of s ≡ true → (bits : List Bool) →
      ((run s (rom 0xEC bits)).state ≡ (run s (rom 0xF0 bits)).state)
      × (drop 9 (run s (rom 0xEC bits)).line ≡ drop 9 (run s (rom 0xF0 bits)).line)
  unfolding joins bits_of
  searched flagged bits = rw (search_then 0xEC (omega arith) flagged bits, search_then 0xF0 (omega arith) refl bits) (refl, refl)

pub choosing : Choosing
unfolding way_slots way_line way_mode rom_command mark.known mark.among among
choosing =
    record {
      begun = λ fit bits short. gives fit (comes fit (begun_comes _ _ _ bits short));
      read = λ {s} fit. simp low_is (chooses fit (session_way s (fit_sound fit) Way.read));
      match = λ {s} fit. simp low_is (chooses fit (session_way s (fit_sound fit) (Way.match false)));
      fast_match = λ {s} fit. simp low_is (chooses fit (session_way s (fit_sound fit) (Way.match true)));
      other_match = λ {s} fit byte one bits more whole other.
          let which = which_match byte one in
          let differ = rw (low_is 64 (number_of s)) at other in
          rw which.1 (simp low_is (silences fit (comes fit (match_other _ _ _ which.0 bits more whole differ))));
      part_match = λ fit byte one bits short.
          let which = which_match byte one in rw which.1 (simp low_is (gives fit (comes fit (match_part _ _ _ which.0 bits short))));
      search = λ {s} fit. simp low_is (chooses fit (session_way s (fit_sound fit) Way.search));
      other_search = λ fit k low more. simp (low_is, bit_is) (silences fit (comes fit (search_other _ _ _ k more low)));
      part_search = λ fit k low. simp low_is (gives fit (comes fit (search_part _ _ _ k low)));
      joined = λ fit flagged. simp low_is (chooses fit (comes fit (search_joined _ _ _ (asked fit ∙ flagged))));
      joined_search = λ fit flagged bits. searched fit (asked fit ∙ flagged) bits;
      not_joined = λ {s} fit none more.
          simp low_is (silences fit (comes fit (byte_silent _ _ _ 0xEC more (omega arith) (rw (asked fit, none) (cleared (mark_of s) Silent)))));
      skip = λ {s} fit. simp (low_is, append-nil) (chooses fit (session_way s (fit_sound fit) (Way.skip false)));
      fast_skip = λ {s} fit. simp (low_is, append-nil) (chooses fit (session_way s (fit_sound fit) (Way.skip true)));
      resume = λ fit marked. simp (low_is, append-nil) (chooses fit (comes fit (resume_joined _ _ _ marked)));
      no_resume = λ {s} fit none more.
          simp low_is (silences fit (comes fit (byte_silent _ _ _ 0xA5 more (omega arith) (rw (mark_of_lem (mark_of s) false, none)))));
      other = λ {s} fit byte small none more.
          simp low_is (silences fit (comes fit (byte_silent _ _ _ byte more small (rom_unknown byte _ (alarm_of s) none))));
      same_mode = mode_stays;
      silent = λ {s} fit silent bits. silent_run s bits (fit_sound fit) silent;
    }
