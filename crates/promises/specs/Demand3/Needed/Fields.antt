-- A Read Memory with a password of one of two tags: the line carries a 0 of that one's memory, and nothing but 1s of the other's;
-- no Conditional Search comes. Assumes nothing.
use Rattle.std.specs.Prelude.{◌≡◌, Bool, true, false, ◌≢◌, ℕ, ◌^◌, ◌<◌, get_or}
use Rattle.std.proofs.Common.{sym, ap, ◌∙◌, true≢false, arith}
use Rattle.std.proofs.lemmas.Bool.{false≢true}
use mathlib.Core.List.{List, [], ◌∷◌, map, flat_map}
use Rattle.bits.specs.Bits.{bit_of, bits_of, released}
use Rattle.dump.specs.Lines.{bytes_from}
use Rattle.exchange.specs.Exchange.{slot_of}
use Rattle.exchange.specs.Runs.{Way, way_slots, way_line, way_mode}
use Rattle.image.specs.Answers.{may_read}
use Rattle.image.specs.Sent.{sent_at}
use Rattle.select.specs.Select.{is_chosen, is_selected}
use Rattle.event.specs.Event.{slotted}
use Rattle.promises.specs.Demand3.Needed.Owner.{skipping}
use Rattle.promises.specs.Demand3.Needed.Walk.{Unconditional, conditional_unchosen}
use Rattle.promises.specs.Line.ReadRun.{read_slots, page_sent, sent_with}
use Rattle.promises.specs.Line.Sessions.{reads_memory, reads_nothing}
use Rattle.promises.specs.Line.Slots.{session_way}
use Rattle.promises.specs.Runs.{State, Event, after, Ran, run, Always}
use Rattle.promises.specs.Runs.Laws.{Sound, sound_after, sound_run, always_append, slot_happens}

-- of the last byte of the first page, and its CRC-16
abbrev pub reader : ℕ → List Event
reader field = skipping (read_slots 0x001F field)

-- one tag lets the field read, and has a zero there; the other does not. After 97 bits the line carries the byte's first
pub reader_differs : (s t : State) → Sound s → Sound t → (field : ℕ) → field < 2 ^ 64 →
    may_read s.image field ≡ true → sent_at s.image s.tag.code 0x001F ≡ 0 → may_read t.image field ≡ false →
    (run s (reader field)).line ≢ (run t (reader field)).line
unfolding way_slots way_line page_sent sent_with bytes_from bits_of bit_of flat_map
reader_differs s t sound-s sound-t field fits may zero shut same =
    let read = reads_memory s sound-s (Way.skip false) 0x001F field fits (omega arith) may in
    let unread = reads_nothing t sound-t (Way.skip false) 0x001F field fits (released 24) (omega arith) (rw shut) in
    let first : bit_of (sent_at s.image s.tag.code 0x001F) 0 ≡ true =
    ap (λ (line : List Bool). get_or line 97 true) (sym read ∙ same ∙ unread) in
    false≢true (rw zero at first)

-- ---- no Conditional Search

-- a chosen tag stays chosen
chosen_unconditional : (u : State) (bits : List Bool) → Sound u → is_selected u.tag.exchange.select ≡ true →
    Always Unconditional u (map Event.slot bits)
unfolding Always after slotted slot_of
chosen_unconditional u [] sound chosen = tt
chosen_unconditional u (bit ∷ bits) sound chosen =
    let next = after u (Event.slot bit) in
    let still : is_selected next.tag.exchange.select ≡ true = rw (slot_happens sound bit, chosen) chosen in (
      λ conditional. true≢false (sym chosen ∙ conditional_unchosen u.tag.exchange bit conditional),
      chosen_unconditional next bits (sound_after (Event.slot bit) sound) still,
    )

-- after Skip every slot is a memory command's
pub skipping_unconditional : (s : State) (bits : List Bool) → Sound s → Always Unconditional s (skipping []) →
    Always Unconditional s (skipping bits)
unfolding way_slots way_mode is_chosen bits_of
skipping_unconditional s bits sound first =
    always_append Unconditional s (skipping []) (map Event.slot bits) first
    (chosen_unconditional (run s (skipping [])).state bits (sound_run (skipping []) sound)
    (ap (λ (r : Ran). is_selected r.state.tag.exchange.select) (session_way s sound (Way.skip false))))
