-- What is done place by place leaves at each place what is done there, and the others as they were: of an event that goes to all, and of a new
-- line. Assumes nothing.
use Rattle.std.specs.Prelude.{Bool, true, ◌≡◌, List, ◌≢◌, length, get_or}
use Rattle.std.proofs.Math.Path.{refl, ap}
use Rattle.std.proofs.Common.{◌∙◌, arith}
use Rattle.std.proofs.Math.Logic.{dite}
use Prim.Native.Nat.{ℕ, zero, suc, ◌+◌, ◌*◌, ◌≤◌, ◌<◌}
use Rattle.std.proofs.Math.Decide.{ℕ_discrete}
use Rattle.std.proofs.Math.Numerals.{add-one}
use Rattle.std.proofs.Math.ListN.{length-set}
use Rattle.answer.specs.Answer.{answer_number}
use Rattle.bits.specs.Each.{each, each_next}
use Rattle.record.specs.declared.Tag.{Tag}
use Rattle.record.specs.Record.{Outcome}
use Rattle.tag.specs.Tag.{new_tag, event_of}
use Rattle.tag.proofs.Tag.Laws.{length_event, length_made}
use Rattle.board.specs.Board.{image_at, with_image, tag_at, with_tag, judged, Going, begun, reached, across, taken, line_step, new_judged, empty_board, new_at, new_line}
use Rattle.board.specs.Board.Laws.{passed, tick_named, line_refused, line_taken, taken_tick, taken_given, across_last, new_taken, good}
use Rattle.board.specs.Board.Places.{Has, length_image, length_with, image_with, image_other, tag_with, tag_other}
use Rattle.board.specs.declared.Board.{Board}

-- the image and the record at a place
pub record Own : Type 0 where
  pub image : List ℕ
  pub tag : Tag

abbrev pub field_own : Going → ℕ → Own
field_own l place = record { image = image_at l.block place; tag = tag_at l.board place }

abbrev pub left_by : Outcome → Own
left_by o = record { image = o.image; tag = o.answered.tag }

-- what stays of a line: lengths, the count, and the records from a place on
pub record Stays (from : ℕ) (block : List ℕ) (line : Board) (left : List ℕ) (next : Board) : Type 0 where
  pub size : length left ≡ length block
  pub tags : length next.tags ≡ length line.tags
  pub count : next.count ≡ line.count
  pub past : (place : ℕ) → from ≤ place → tag_at next place ≡ tag_at line place

pub stays_same : {from : ℕ} {block : List ℕ} {line : Board} → Stays from block line block line
stays_same = record { size = refl; tags = refl; count = refl; past = λ place past. refl }

-- one after the other, where more may change at last
pub stays_then : {from more : ℕ} {block left last : List ℕ} {line next end : Board} → from ≤ more → Stays from block line left next →
    Stays more left next last end → Stays more block line last end
stays_then h p q =
    record {
      size = q.size ∙ p.size;
      tags = q.tags ∙ p.tags;
      count = q.count ∙ p.count;
      past = λ place past. q.past place past ∙ p.past place (omega (arith, h, past));
    }

-- a visit to a place puts there what `f` makes of the image and the record
pub record Visits (visit : ℕ → Going → Going) (f : ℕ → Own → Outcome) : Type 0 where
  pub block : (place : ℕ) (l : Going) → (visit place l).block ≡ with_image l.block place (f place (field_own l place)).image
  pub board : (place : ℕ) (l : Going) → (visit place l).board ≡ with_tag l.board place (f place (field_own l place)).answered.tag
  pub whole : (place : ℕ) (own : Own) → length own.image ≡ 8832 → length (f place own).image ≡ 8832

module _ {visit : ℕ → Going → Going} {f : ℕ → Own → Outcome} (v : Visits visit f) where
  whole_at : (place : ℕ) (l : Going) → Has l.block place → length (f place (field_own l place)).image ≡ 8832
  whole_at place l has = v.whole place (field_own l place) (length_image l.block place has)

  pub visit_own : (place : ℕ) (l : Going) → Has l.block place → place < length l.board.tags →
      field_own (visit place l) place ≡ left_by (f place (field_own l place))
  visit_own place l has there =
      rw (v.block place l, v.board place l)
      (λ i. record {
        image = image_with l.block place has (f place (field_own l place)).image (whole_at place l has) i;
        tag = tag_with l.board place (f place (field_own l place)).answered.tag there i;
      })

  pub visit_other : (place other : ℕ) (l : Going) → Has l.block place → Has l.block other → other ≢ place →
      field_own (visit place l) other ≡ field_own l other
  visit_other place other l has there apart =
      rw (v.block place l, v.board place l)
      (λ i. record {
        image = image_other l.block place other has there apart (f place (field_own l place)).image (whole_at place l has) i;
        tag = tag_other l.board place other (f place (field_own l place)).answered.tag apart i;
      })

  visit_stays : (place : ℕ) (l : Going) → Has l.block place → Stays (place + 1) l.block l.board (visit place l).block (visit place l).board
  unfolding with_tag
  visit_stays place l has =
      let tag = (f place (field_own l place)).answered.tag in
      rw (v.block place l, v.board place l)
      (record {
        size = length_with l.block place has (f place (field_own l place)).image (whole_at place l has);
        tags = length-set l.board.tags place tag;
        count = refl;
        past = λ other past. tag_other l.board place other tag (λ same. absurd (omega (arith, past, same)));
      })

  -- the first n places, one after the other
  across_stays : (n : ℕ) (l : Going) → n * 8832 ≤ length l.block →
      Stays n l.block l.board (across visit 0 n l).block (across visit 0 n l).board
  unfolding across
  across_stays zero l room = stays_same
  across_stays (suc n) l room =
      let before = across_stays n l (omega (arith, room)) in
      let last = visit_stays n (across visit 0 n l) (omega (arith, room, before.size)) in
      rw (across_last visit n l, ← add-one n) (stays_then (omega arith) before last)

  -- a place behind them
  pub across_other : (n place : ℕ) (l : Going) → n ≤ place → Has l.block place → field_own (across visit 0 n l) place ≡ field_own l place
  unfolding across
  across_other zero place l past has = refl
  across_other (suc n) place l past has =
      let before = (across_stays n l (omega (arith, past, has))).size in
      rw (across_last visit n l)
      (visit_other n place (across visit 0 n l) (omega (arith, past, has, before)) (omega (arith, has, before)) (λ same. absurd (omega (arith, past, same)))
      ∙ across_other n place l (omega (arith, past)) has)

  -- and one of them
  pub across_own : (n place : ℕ) (l : Going) → place < n → n * 8832 ≤ length l.block → n ≤ length l.board.tags →
      field_own (across visit 0 n l) place ≡ left_by (f place (field_own l place))
  unfolding across
  across_own zero place l h room there = absurd (omega (arith, h))
  across_own (suc n) place l h room there =
      let before = across_stays n l (omega (arith, room)) in
      let has : Has (across visit 0 n l).block n = omega (arith, room, before.size) in
      rw (across_last visit n l)
      (dite (ℕ_discrete place n)
      (λ same.
      rw same
      (visit_own n (across visit 0 n l) has (omega (arith, there, before.tags))
      ∙ ap (λ (own : Own). left_by (f n own)) (across_other n n l (omega arith) (omega (arith, room)))))
      (λ other.
      visit_other n place (across visit 0 n l) has (omega (arith, h, room, before.size)) other
      ∙ across_own n place l (omega (arith, h, other)) (omega (arith, room)) (omega (arith, there))))

-- ---- the two kinds

pub reached_visits : (code reading : ℕ) → Visits (reached code reading) (λ place own. event_of own.image own.tag code reading)
unfolding reached
reached_visits code reading =
    record {
      block = λ place l. refl;
      board = λ place l. refl;
      whole = λ place own whole. length_event own.image own.tag code reading ∙ whole;
    }

pub new_visits : (numbers codes : List ℕ) →
    Visits (new_at numbers codes) (λ place own. new_tag own.image (get_or numbers place 0) (get_or codes place 0))
unfolding new_at
new_visits numbers codes =
    record {
      block = λ place l. refl;
      board = λ place l. refl;
      whole = λ place own whole. length_made own.image (get_or numbers place 0) (get_or codes place 0) ∙ whole;
    }

-- ---- "the line bit is the AND of all"

-- the bit of the tag at a place, as it is alone
abbrev pub bit_at : ℕ → Going → ℕ → Bool
bit_at code l place = (event_of (image_at l.block place) (tag_at l.board place) code 0).answered.line

pub across_line : (code n : ℕ) (l : Going) → n * 8832 ≤ length l.block → l.line ≡ true →
    (across (reached code 0) 0 n l).line ≡ each n (bit_at code l)
unfolding across reached
across_line code zero l room free = free
across_line code (suc n) l room free =
    let before = across (reached code 0) 0 n l in
    let same = across_other (reached_visits code 0) n n l (omega arith) (omega (arith, room)) in
    ap (λ (g : Going). g.line) (across_last (reached code 0) n l)
    ∙ each_next n (bit_at code l) _ _ (across_line code n l (omega (arith, room)) free)
    (ap (λ (own : Own). (event_of own.image own.tag code 0).answered.line) same)

-- ---- a call

module _ (block : List ℕ) (line : Board) (code place reading : ℕ) where
  -- what an event leaves that is accepted: at a tick's place, or at every place
  taken_stays : answer_number (judged (length block) line code place reading) ≡ 0 →
      let l = taken (begun block line) code place reading in Stays line.count block line l.block l.board
  unfolding judged
  taken_stays none =
      let p = passed line.count (length block) _ _ code place reading none in
      dite (ℕ_discrete code 3)
      (λ three.
      let named = tick_named line.count code place p.named three in
      rw (taken_tick (begun block line) code place reading three)
      (stays_then (omega (arith, named)) (visit_stays (reached_visits 3 reading) place (begun block line) (omega (arith, named, p.whole))) stays_same))
      (λ other.
      rw (taken_given (begun block line) code place reading other)
      (across_stays (reached_visits code 0) line.count (begun block line) (omega (arith, p.whole))))

  -- any event, refused or not
  pub line_stays : let o = line_step block line code place reading in Stays line.count block line o.block o.shown.board
  line_stays =
      dite (ℕ_discrete (answer_number (judged (length block) line code place reading)) 0)
      (λ none. rw (line_taken block line code place reading none) (taken_stays none))
      (λ fault. rw (line_refused block line code place reading fault) stays_same)

-- a new line that is accepted
pub new_stays : (block numbers codes : List ℕ) → answer_number (new_judged (length block) numbers codes) ≡ 0 →
    let o = new_line block numbers codes in Stays (length numbers) block (empty_board (length numbers)) o.block o.shown.board
new_stays block numbers codes none =
    let p = good (length block) numbers codes none in
    rw (new_taken block numbers codes none)
    (across_stays (new_visits numbers codes) (length numbers) (begun block (empty_board (length numbers))) (omega (arith, p.whole)))
