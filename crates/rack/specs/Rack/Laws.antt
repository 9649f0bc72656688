-- Laws of a line's records as bytes: a record's place, how they are asked and read one by one, and how they are packed one behind the
-- other. Assumes nothing.
use Rattle.std.specs.Prelude.{◌≡◌, refl, true, false, List, [], ◌≢◌, ℕ, zero, suc, ◌+◌, ◌*◌, ◌-◌, ◌≤◌, ◌<◌, eqb, length, get_or, take, drop}
use Rattle.std.proofs.Common.{sym, ap, ◌∙◌, arith, eqb-true, eq-eqb, ne_eqb, length-take, length-drop}
use Rattle.std.proofs.Math.Bool.{and-eq-true_iff}
use Rattle.std.proofs.lemmas.List.Edits.{sets}
use Rattle.bits.specs.Each.{each_true, each_false, each_holds}
use Rattle.bits.specs.Parts.{part_lent, length_part}
use Rattle.bits.specs.Stores.{sets_join}
use Rattle.board.specs.declared.Board.{Board}
use Rattle.board.specs.Board.{tag_at, is_count}
use Rattle.board.specs.Board.Laws.{places_of, places_some}
use Rattle.packing.specs.Packing.{packed, is_packed, unpacked}
use Rattle.record.specs.Record.{fresh_tag}
use Rattle.rack.specs.Rack.{has_room, record_at, is_rack, seven, whole_in, rack_from}

-- ---- places

-- the part that the code lends
pub part_is : (records : List ℕ) (place : ℕ) → take (place * 80 + 80 - place * 80) (drop (place * 80) records) ≡ record_at records place
unfolding record_at
part_is records place = part_lent 80 records place

pub length_record : (records : List ℕ) (place : ℕ) → (place + 1) * 80 ≤ length records → length (record_at records place) ≡ 80
unfolding record_at
length_record records place has = length_part 80 records place (omega (arith, has))

-- a record that is not wholly there stands for that of all zeros
pub none_there : (records : List ℕ) (place : ℕ) → length records < (place + 1) * 80 → unpacked (record_at records place) ≡ fresh_tag 0 0
unfolding record_at unpacked
none_there records place short =
    let part : length (take 80 (drop (place * 80) records)) ≢ 80 =
    λ whole. omega (arith, whole, length-take 80 (drop (place * 80) records), length-drop (place * 80) records, short) in
    rw (ne_eqb _ 80 part)

-- what is asked where there is room
pub record Room (size count : ℕ) : Type 0 where
  pub few : is_count count ≡ true
  pub whole : size ≡ count * 80

pub room : (size count : ℕ) → has_room size count ≡ true → Room size count
unfolding has_room
room size count e =
    let a = (and-eq-true_iff (is_count count) _).0 e in record { few = a.0; whole = eqb-true size (count * 80) a.1 }

-- one of seven
pub seven_at : {A : Type 0} (f : ℕ → A) (d : A) (i : ℕ) → i < 7 → get_or (seven f) i d ≡ f i
seven_at f d zero h = refl
seven_at f d (suc zero) h = refl
seven_at f d (suc (suc zero)) h = refl
seven_at f d (suc (suc (suc zero))) h = refl
seven_at f d (suc (suc (suc (suc zero)))) h = refl
seven_at f d (suc (suc (suc (suc (suc zero))))) h = refl
seven_at f d (suc (suc (suc (suc (suc (suc zero)))))) h = refl
seven_at f d (suc (suc (suc (suc (suc (suc (suc i))))))) h = absurd (omega (arith, h))

-- ---- reading

pub whole_some : (size count : ℕ) → whole_in size count ≤ 7
unfolding whole_in
whole_some size count = omega (arith, places_some count)

-- a place past those that are wholly there has less than a record
pub whole_rest : (size place : ℕ) → place < 7 → whole_in size 7 ≤ place → size < (place + 1) * 80
unfolding whole_in places_of
whole_rest size place less past = omega (arith, less, past)

-- ---- asking

module _ (records : List ℕ) (count : ℕ) where
  pub rack_size : length records ≢ count * 80 → is_rack records count ≡ false
  unfolding is_rack
  rack_size other = rw (ne_eqb (length records) (count * 80) other)

  pub rack_bad : length records ≡ count * 80 → (i : ℕ) → i < count → is_packed (record_at records i) ≡ false → is_rack records count ≡ false
  unfolding is_rack
  rack_bad size i h bad = rw (eq-eqb (length records) (count * 80) size) (each_false count _ i h bad)

  pub rack_good : length records ≡ count * 80 → ((i : ℕ) → i < count → is_packed (record_at records i) ≡ true) → is_rack records count ≡ true
  unfolding is_rack
  rack_good size all = rw (eq-eqb (length records) (count * 80) size) (each_true count _ all)

-- what is asked of them
pub record Racked (records : List ℕ) (count : ℕ) : Type 0 where
  pub size : length records ≡ count * 80
  pub own : (i : ℕ) → i < count → is_packed (record_at records i) ≡ true

pub racked : (records : List ℕ) (count : ℕ) → is_rack records count ≡ true → Racked records count
unfolding is_rack
racked records count e =
    let a = (and-eq-true_iff (eqb (length records) (count * 80)) _).0 e in
    record { size = eqb-true (length records) (count * 80) a.0; own = each_holds count _ a.1 }

-- ---- packing

pub rack_next : (records : List ℕ) (board : Board) (place count : ℕ) → place < count → length (packed (tag_at board place)) ≡ 80 →
    sets (sets records (place * 80) (packed (tag_at board place))) ((place + 1) * 80) (rack_from board (place + 1) (count - (place + 1)))
    ≡ sets records (place * 80) (rack_from board place (count - place))
unfolding rack_from
rack_next records board place count h size =
    let first = packed (tag_at board place) in
    let rest = rack_from board (place + 1) (count - (place + 1)) in
    let left : count - place ≡ suc (count - (place + 1)) = omega (arith, h) in
    let next : (place + 1) * 80 ≡ place * 80 + length first = omega (arith, size) in
    ap (λ (n : ℕ). sets (sets records (place * 80) first) n rest) next
    ∙ sym (sets_join records (place * 80) first rest)
    ∙ sym (ap (λ (n : ℕ). sets records (place * 80) (rack_from board place n)) left)

pub rack_over : (board : Board) (place count : ℕ) → count ≤ place → rack_from board place (count - place) ≡ []
unfolding rack_from
rack_over board place count h = let none : count - place ≡ 0 = omega (arith, h) in ap (rack_from board place) none
