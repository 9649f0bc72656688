-- The library's calls to a line are the board's, through the bytes of its records. Assumes nothing.
use Rattle.std.specs.Prelude.{Bool, ◌&&◌, ◌||◌, List, [], ◌∷◌, ◌++◌, ◌≢◌, ◌≡◌, eqb, leb, ltb, replicate, if◌then◌else◌, Ok, Err}
use Rattle.std.specs.Borrow.{MutBor}
use Rattle.std.proofs.Math.Bool.{true, false, not}
use Rattle.std.proofs.Math.Logic.{dite}
use Rattle.std.proofs.Math.Path.{refl, subst}
use Rattle.std.proofs.Common.{sym, ap, ◌∙◌, arith, eq-eqb, ne_eqb}
use Prim.Native.Nat.{ℕ, zero, suc, ◌+◌, ◌*◌, ◌/◌, ◌≤◌, min}
use Rattle.std.proofs.Math.Decide.{dec_lt, ℕ_discrete}
use Rattle.std.proofs.Math.ListN.{length, get_or, get_or-eq_default}
use Rattle.std.proofs.lemmas.List.{get_or-replicate}
use Rattle.answer.specs.Answer.{answer_number}
use Rattle.answer.specs.declared.Refusal.{Refusal}
use Rattle.bagtag.proofs.line.bagtag_line_event.Reads as bagtag_line_event
use Rattle.bagtag.proofs.line.bagtag_line_new.Reads as bagtag_line_new
use Rattle.bagtag.specs.Line.{NewLine, asked, short_number, new_line_call, LineEvent, line_call}
use Rattle.bagtag.specs.Line.Laws as calls
use Rattle.bagtag.specs.Line.Laws.{new_made, new_refused, line_number_lem, line_left}
use Rattle.bits.specs.Bits.{digit}
use Rattle.bits.specs.Each.{each, each_same}
use Rattle.board.specs.declared.Board.{Board}
use Rattle.board.specs.Board.{tag_at, is_count, names_none, is_high, same_number, judged_by, Left, line_step, empty_board, new_line}
use Rattle.board.proofs.Visits.{Stays, line_stays, new_stays}
use Rattle.board.specs.Board.Laws as board-laws
use Rattle.board.specs.Board.Laws.{places_counted, counted}
use Rattle.image.specs.Fields.{word_at}
use Rattle.packing.specs.Packing.{packed, is_packed, unpacked}
use Rattle.rack.specs.Rack.{has_room, record_at, is_rack, board_in, number_held, whole_in, same_held, rack_from, rack_of, AllFit}
use Rattle.rack.specs.Rack.Back.{length_rack, record_rack, own_rack, rack_back, tag_racked}
use Rattle.rack.specs.Rack.Laws.{room}
use Rattle.record.specs.Record.{fresh_tag, tag_in_range}
use Rattle.select.specs.Select.{mode_of}
use Rattle.promises.specs.Library.{digit_of, is_record}
use Rattle.promises.specs.Library.Line.{record_in, rom_in, twice_in, zeros_of, new_line_number, line_number, Lined, Keeps, LibraryLine}
use Rattle.promises.specs.Library.Proof.{zeros_packed}
use Rattle.promises.specs.Library.Record.{fits_of, holds_of}
use Rattle.promises.specs.Ranges.{is_rom, is_configuration, in_range}
use Rattle.promises.specs.Ranges.Laws.{range_is}
use Rattle.promises.specs.Sentences.Events.{number_in, own_number, clear_tag}
use Rattle.promises.specs.Sentences.Events.Proof.{numbered, number_accepts}
use Rattle.promises.specs.Several.{Line, count_of, leaves, twice, is_line, first_fault, new_number, Reached}
use Rattle.promises.specs.Several.Proof.{line_demand1}
use Rattle.promises.specs.Several.Numbers.{twice_is, new_number_lem}

-- ---- an event

twice_in_lem : (records : List ℕ) (count : ℕ) → is_count count ≡ true → same_held records count ≡ twice_in records count
unfolding same_held whole_in number_held word_at
twice_in_lem records count few =
    ap (λ (n : ℕ). same_number (min n (length records / 80)) (number_held records)) (places_counted count few)
    ∙ sym (twice_is (min count (length records / 80)) (rom_in records))

-- two tests at once
each_both : (n : ℕ) (f g : ℕ → Bool) → (each n f && each n g) ≡ each n (λ i. f i && g i)
each_both zero f g = refl
each_both (suc n) f g = by (f n) (g n) (each n f) (each n g) ∙ ap (λ (b : Bool). (f n && g n) && b) (each_both n f g)
  where
    by : (a b c d : Bool) → ((a && c) && (b && d)) ≡ ((a && b) && (c && d))
    by true true c d = refl
    by true false true d = refl
    by true false false d = refl
    by false b c d = refl

and_assoc : (a b c : Bool) → ((a && b) && c) ≡ (a && (b && c))
and_assoc true b c = refl
and_assoc false b c = refl

good_is : (records : List ℕ) (count : ℕ) → is_count count ≡ true →
    (is_rack records count && each count (λ i. tag_in_range (tag_at (board_in records count) i)))
    ≡ (eqb (length records) (count * 80) && each count (λ i. is_record (record_in records i)))
unfolding is_rack record_in record_at
good_is records count few =
    let bounds = counted count few in
    let ranges = each_same count (λ i. tag_in_range (tag_at (board_in records count) i)) (λ i. in_range (unpacked (record_at records i)))
    (λ i h. ap tag_in_range (tag_racked records count i (omega (arith, h, bounds.1))) ∙ sym (range_is (unpacked (record_at records i)))) in
    ap (λ (b : Bool). is_rack records count && b) ranges
    ∙ and_assoc (eqb (length records) (count * 80)) (each count (λ i. is_packed (record_at records i))) (each count (λ i. in_range (unpacked (record_at records i))))
    ∙ ap (λ (b : Bool). eqb (length records) (count * 80) && b)
    (each_both count (λ i. is_packed (record_at records i)) (λ i. in_range (unpacked (record_at records i))))

-- `line_number`, once it is known whether two numbers are the same and all records are fine
abbrev number_by : (count size : ℕ) (held fine : Bool) (code place reading : ℕ) → ℕ
number_by count size held fine code place reading =
    if not (is_line count) || (eqb code 3 && leb count place) then 14
    else if not (eqb size (count * 8832)) then 3
    else if held then 13
    else if not fine then 6
    else own_number code reading

-- the number of what is judged; two numbers and the records count only where the count is one
judged_number : (count size : ℕ) (same held good fine : Bool) (code place reading : ℕ) →
    (is_count count ≡ true → (same ≡ held) × (good ≡ fine)) →
    number_in (judged_by count size same good code place reading)
    ≡ number_by count size held fine code place reading
unfolding judged_by is_count names_none is_high own_number
judged_number count size same held good fine code place reading known = by (is_count count) refl
  where
    by : (few : Bool) → is_count count ≡ few →
        number_in (judged_by count size same good code place reading)
        ≡ number_by count size held fine code place reading
    by true few =
        (λ i. number_in (judged_by count size ((known few).0 i) ((known few).1 i) code place reading))
        ∙ numbered (not (is_line count) || (eqb code 3 && leb count place)) (Err Refusal.TagPlace) _ refl
        (numbered (not (eqb size (count * 8832))) (Err Refusal.ImageLength) _ refl
        (numbered held (Err Refusal.SameNumber) _ refl
        (numbered (not fine) (Err Refusal.RecordRange) _ refl
        (numbered (ltb 4 code) (Err Refusal.EventCode) _ refl
        (numbered (eqb code 3 && ltb 2047 reading) (Err Refusal.Reading) (Ok tt) refl refl)))))
    by false few = rw few

event_number_lem : (block records : List ℕ) (count code place reading : ℕ) →
    (line_call block records count code place reading).number ≡ line_number block records count code place reading
unfolding line_number
event_number_lem block records count code place reading =
    line_number_lem block records count code place reading
    ∙ judged_number count (length block) _ (twice_in records count) _ _ code place reading (λ few. (twice_in_lem records count few, good_is records count few))

-- ---- a new line

-- 6 stands before these
short_fault : (numbers codes : List ℕ) → short_number (first_fault numbers codes) ≡ 6
unfolding first_fault short_number
short_fault [] codes = refl
short_fault (number ∷ numbers) [] = refl
short_fault (number ∷ numbers) (code ∷ codes) = by (not (is_rom number)) (not (is_configuration code)) (short_fault numbers codes)
  where
    by : (a b : Bool) → short_number (first_fault numbers codes) ≡ 6 →
        short_number (if a then 4 else if b then 5 else first_fault numbers codes) ≡ 6
    by true b e = refl
    by false true e = refl
    by false false e = e

module _ (block records numbers codes : List ℕ) where
  -- by the tests, one by one
  firsts : (few many whole same fits : Bool) → ℕ
  firsts few many whole same fits =
      if not few || not many then 14
      else if not whole then 3
      else if same then 13
      else if not fits then 6
      else first_fault numbers codes

  new_number_is : (new_line_call block records numbers codes).number ≡ new_line_number block records numbers codes
  unfolding new_line_number new_number has_room is_count short_number firsts
  new_number_is =
      let count = length numbers in
      calls.new_number_lem block records numbers codes
      ∙ rw (ap number_in (sym (board-laws.new_answer_lem block numbers codes)) ∙ new_number_lem block numbers codes)
      (by (is_line count) (eqb (length codes) count) (eqb (length block) (count * 8832)) (twice count (λ i. get_or numbers i 0))
      (eqb (length records) (count * 80)) (short_fault numbers codes))
    where
      first : (few many whole same : Bool) → ℕ
      first few many whole same =
          if not few || not many then 14
          else if not whole then 3
          else if same then 13
          else first_fault numbers codes

      by : (few many whole same fits : Bool) → short_number (first_fault numbers codes) ≡ 6 →
          (if few && fits then first few many whole same else short_number (first few many whole same)) ≡ firsts few many whole same fits
      by false many whole same fits e = refl
      by true false whole same true e = refl
      by true false whole same false e = refl
      by true true false same true e = refl
      by true true false same false e = refl
      by true true true true true e = refl
      by true true true true false e = refl
      by true true true false true e = refl
      by true true true false false e = e

  -- one that is accepted had room for its records
  had_room : new_line_number block records numbers codes ≡ 0 → has_room (length records) (length numbers) ≡ true
  unfolding new_line_number has_room is_count firsts
  had_room =
      by (is_line (length numbers)) (eqb (length codes) (length numbers)) (eqb (length block) (length numbers * 8832))
      (twice (length numbers) (λ i. get_or numbers i 0)) (eqb (length records) (length numbers * 80))
    where
      by : (few many whole same fits : Bool) → firsts few many whole same fits ≡ 0 → (few && fits) ≡ true
      by true many whole same true e = refl
      by true true true false false e = absurd (omega (arith, e))
      by true true true true false e = absurd (omega (arith, e))
      by true true false same false e = absurd (omega (arith, e))
      by true false whole same false e = absurd (omega (arith, e))
      by false many whole same fits e = absurd (omega (arith, e))

-- the record of all zeros, and those of a refused line
fresh_is : fresh_tag 0 0 ≡ clear_tag 0 0
unfolding mode_of
fresh_is = refl

tag_zeros : (count i : ℕ) → tag_at (empty_board count) i ≡ clear_tag 0 0
unfolding tag_at empty_board mode_of
tag_zeros count i =
    dite (dec_lt i 7) (λ lt. get_or-replicate 7 i (fresh_tag 0 0) (fresh_tag 0 0) lt)
    (λ ge.
    let past : length (replicate 7 (fresh_tag 0 0)) ≤ i = omega (arith, ge) in
    get_or-eq_default (replicate 7 (fresh_tag 0 0)) (fresh_tag 0 0) past)

rack_zeros : (count place left : ℕ) → rack_from (empty_board count) place left ≡ zeros_of left
unfolding rack_from zeros_of
rack_zeros count place zero = refl
rack_zeros count place (suc left) =
    λ i. (ap packed (tag_zeros count place) ∙ zeros_packed) i ++ rack_zeros count (place + 1) left i

zeros_left : (records numbers : List ℕ) →
    (if has_room (length records) (length numbers) then rack_of (empty_board (length numbers)) else records)
    ≡ (if is_line (length numbers) && eqb (length records) (length numbers * 80) then zeros_of (length numbers) else records)
unfolding has_room is_count rack_of empty_board
zeros_left records numbers = by (is_count (length numbers)) refl (eqb (length records) (length numbers * 80))
  where
    by : (few : Bool) → is_count (length numbers) ≡ few → (fits : Bool) →
        (if few && fits then rack_of (empty_board (length numbers)) else records) ≡ (if few && fits then zeros_of (length numbers) else records)
    by true few true =
        ap (rack_from (empty_board (length numbers)) 0) (places_counted (length numbers) few) ∙ rack_zeros (length numbers) 0 (length numbers)
    by true few false = refl
    by false few fits = refl

-- a line as it is kept once it is made
module _ (block records numbers codes : List ℕ) (had : has_room (length records) (length numbers) ≡ true)
    (zero : answer_number (new_line block numbers codes).shown.answer ≡ 0)
    (fit : AllFit (asked (length numbers) (new_line block numbers codes))) where
  stays : Stays (length numbers) block (empty_board (length numbers)) (new_line block numbers codes).block (new_line block numbers codes).shown.board
  stays = new_stays block numbers codes (ap answer_number (sym (board-laws.new_answer_lem block numbers codes)) ∙ zero)

  made_count : (new_line block numbers codes).shown.board.count ≡ length numbers
  unfolding empty_board
  made_count = stays.count

  asked_is : asked (length numbers) (new_line block numbers codes) ≡ (new_line block numbers codes).shown.board
  asked_is = λ i. record { tags = (new_line block numbers codes).shown.board.tags; count = sym made_count i }

  made_lined : Lined (new_line block numbers codes).shown.board
  unfolding empty_board is_count
  made_lined =
      let board = (new_line block numbers codes).shown.board in
      let k = stays in
      let r = room (length records) (length numbers) had in
      let fits : AllFit board = subst AllFit asked_is fit in
      record {
        few = rw made_count r.few;
        size = k.tags;
        holds = λ i h.
            holds_of (tag_at board i) (fits i (omega (arith, h, made_count, places_counted board.count (rw made_count r.few))));
        rest = λ i h. k.past i (omega (arith, h, made_count)) ∙ tag_zeros (length numbers) i;
      }

-- ---- a line that is kept

module _ (board : Board) (lined : Lined board) where
  few_lined : is_count board.count ≡ true
  unfolding is_count
  few_lined = lined.few

  fit_lined : AllFit board
  fit_lined i h = fits_of (tag_at board i) (lined.holds i (omega (arith, h, places_counted board.count few_lined)))

  rest_lined : (i : ℕ) → board.count ≤ i → tag_at board i ≡ fresh_tag 0 0
  rest_lined i h = lined.rest i h ∙ sym fresh_is

  module _ (block : List ℕ) (code place reading : ℕ) where
    abbrev left : Left
    left = line_step block board code place reading

    -- a refusal leaves the board
    same_board : answer_number left.shown.answer ≢ 0 → left.shown.board ≡ board
    same_board fault =
        ap (λ (l : Left). l.shown.board)
        (board-laws.line_refused block board code place reading (λ zero. fault (ap answer_number (board-laws.line_answer block board code place reading) ∙ zero)))

    keeps_lined : (answer_number left.shown.answer ≡ 0 → AllFit left.shown.board) → Lined left.shown.board
    keeps_lined fit =
        dite (ℕ_discrete (answer_number left.shown.answer) 0)
        (λ zero.
        let k = line_stays block board code place reading in
        let few : is_count left.shown.board.count ≡ true = rw k.count few_lined in
        record {
          few = rw k.count lined.few;
          size = k.tags ∙ lined.size;
          holds = λ i h. holds_of (tag_at left.shown.board i) (fit zero i (omega (arith, h, places_counted left.shown.board.count few)));
          rest = λ i h. k.past i (omega (arith, h, k.count)) ∙ lined.rest i (omega (arith, h, k.count));
        })
        (λ some. rw (same_board some) lined)

    -- the bytes of the line that it leaves
    call_is : line_call block (rack_of board) board.count code place reading
        ≡ record {
          number = answer_number left.shown.answer;
          block = left.block;
          records = rack_of left.shown.board;
          line = digit left.shown.line;
        }
    unfolding line_call
    call_is =
        rw (own_rack board few_lined fit_lined, rack_back board few_lined fit_lined lined.size rest_lined)
        (dite (ℕ_discrete (answer_number left.shown.answer) 0) (λ zero. rw (eq-eqb _ 0 zero))
        (λ some. rw (ne_eqb _ 0 some, same_board some)))

-- a new line that is accepted is the board's
makes : (κs : _) (block : _) (records : _) (numbers : _) (codes : _) (r : ℕ) (exit : _) →
    bagtag_line_new.Post κs (block, (records, (numbers, (codes, tt)))) r exit → r ≡ 0 →
    let l = new_line block.now numbers.now codes.now in
    (exit.0.now ≡ l.block) × (exit.1.0.now ≡ rack_of l.shown.board) × (l.shown.board.count ≡ length numbers.now)
    × Lined l.shown.board × (answer_number l.shown.answer ≡ 0)
makes κs block records numbers codes r exit p none =
    let n = new_number_is block.now records.now numbers.now codes.now in
    let room = had_room block.now records.now numbers.now codes.now (sym n ∙ sym p.0 ∙ none) in
    let e = new_made block.now records.now numbers.now codes.now room in
    let zero = sym (ap (λ (c : NewLine). c.number) e) ∙ sym p.0 ∙ none in
    let fit = p.1.1.1 room in (
      p.1.0 ∙ ap (λ (c : NewLine). c.block) e,
      p.1.1.0 ∙ ap (λ (c : NewLine). c.records) e ∙ ap rack_of (asked_is block.now records.now numbers.now codes.now room zero fit),
      made_count block.now records.now numbers.now codes.now room zero fit,
      made_lined block.now records.now numbers.now codes.now room zero fit,
      zero,
    )

new_reached : (block numbers codes : List ℕ) → answer_number (new_line block numbers codes).shown.answer ≡ 0 →
    Reached (leaves (new_line block numbers codes))
new_reached block numbers codes none = Reached.new block numbers codes (number_accepts none)

-- and a call on a line that is kept is the board's event
stepped : {l : Line} (κs : _) (block records : MutBor (List ℕ)) (code place reading : ℕ) (line : _) (r : ℕ) (exit : _) →
    Keeps block.now records.now l →
    bagtag_line_event.Post κs (block, (records, (count_of l, (code, (place, (reading, (line, tt))))))) r exit →
    let o = line_step l.block l.board code place reading in
    (r ≡ number_in o.shown.answer) × (exit.1.1.1.1.1.1.0.now ≡ digit_of o.shown.line)
    × Keeps exit.0.now exit.1.0.now (leaves o)
stepped {l} κs block records code place reading line r exit k p =
    let board = l.board in
    let lined = k.lined in
    let e : line_call block.now records.now board.count code place reading ≡ _ =
    (λ i. line_call (k.block i) (k.records i) board.count code place reading) ∙ call_is board lined l.block code place reading in
    let own = ap (λ (b : List ℕ). is_rack b board.count) k.records ∙ own_rack board (few_lined board lined) (fit_lined board lined) in
    let back = ap (λ (b : List ℕ). board_in b board.count) k.records
    ∙ rack_back board (few_lined board lined) (fit_lined board lined) lined.size (rest_lined board lined) in (
      p.0 ∙ ap (λ (c : LineEvent). c.number) e,
      p.1.1.1.0 ∙ ap (λ (c : LineEvent). c.line) e,
      record {
        block = p.1.0 ∙ ap (λ (c : LineEvent). c.block) e;
        records = p.1.1.0 ∙ ap (λ (c : LineEvent). c.records) e;
        lined = keeps_lined board lined l.block code place reading
            (λ zero. subst (λ (b : List ℕ). AllFit (line_step b board code place reading).shown.board) k.block
            (subst (λ (b : Board). AllFit (line_step block.now b code place reading).shown.board) back
            (p.1.1.1.1.1 own (ap (λ (c : LineEvent). c.number) e ∙ zero))));
        reached = line_demand1.again k.reached code place reading;
      },
    )

-- ---- all together

pub library_line : LibraryLine
unfolding record_in record_at
library_line =
    record {
      laid = λ board lined.
          (length_rack board (few_lined board lined) (fit_lined board lined), record_rack board (few_lined board lined) (fit_lined board lined));
      any_new = λ κs block records numbers codes. tt;
      any_event = λ κs block records count code place reading line. tt;
      news = λ κs block records numbers codes r exit p.
          let n = new_number_is block.now records.now numbers.now codes.now in (
            p.0 ∙ n,
            λ some.
                let left = new_refused block.now records.now numbers.now codes.now (λ none. some (p.0 ∙ none)) in
                (p.1.0 ∙ left.0, p.1.1.0 ∙ left.1 ∙ zeros_left records.now numbers.now),
          );
      events = λ κs block records count code place reading line r exit p.
          let n = event_number_lem block.now records.now count code place reading in (
            p.0 ∙ n,
            λ some.
                let left = line_left block.now records.now count code place reading (λ none. some (p.0 ∙ none)) in
                (p.1.0 ∙ left.0, p.1.1.0 ∙ left.1, p.1.1.1.0 ∙ left.2),
          );
      made = λ κs block records numbers codes r exit p none.
          let m = makes κs block records numbers codes r exit p none in
          (record { block = m.0; records = m.1; lined = m.3; reached = new_reached block.now numbers.now codes.now m.4 }, m.2);
      stepped = stepped;
      own = λ {l} κs block records code place reading line r exit k p.
          (stepped κs block records code place reading line r exit k p).0
          ∙ line_demand1.fit (line_demand1.reached k.reached).0 code place reading;
    }
