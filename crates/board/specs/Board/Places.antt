-- Places of a block and of a board: what is put at one place is there, and the others are as they were. So no proof walks through seven
-- records. Assumes nothing.
use Rattle.std.specs.Prelude.{◌≡◌, refl, List, [], ◌∷◌, ◌++◌, ◌≢◌, ℕ, zero, suc, ◌+◌, ◌*◌, ◌-◌, ◌≤◌, ◌<◌}
use Rattle.std.proofs.Common.{sym, ◌∙◌, le_of_suc-le-suc, not-suc-le-zero, arith, length-drop, length-take-le, get_or-set_same, get_or-set_other, drop_at, ext_get_or}
use Rattle.std.proofs.Math.Path.{ap}
use Rattle.std.proofs.Math.Logic.{dite}
use Rattle.std.proofs.Math.Decide.{dec_lt}
use Rattle.std.proofs.Math.ListN.{length, get_or, take, drop, length-append, get_or-append}
use Rattle.std.proofs.Math.Seq.{take_at, get_or-take, get_or-drop, get_or-append-add}
use Rattle.bits.specs.Parts.{part_lent, length_part}
use Rattle.record.specs.declared.Tag.{Tag}
use Rattle.board.specs.Board.{image_at, with_image, tag_at, with_tag}
use Rattle.board.specs.declared.Board.{Board}

-- ---- the block

-- a place is one of a block's
abbrev pub Has : List ℕ → ℕ → Type 0
Has block place = (place + 1) * 8832 ≤ length block

module _ (block : List ℕ) (place : ℕ) where
  part_length : place * 8832 + 8832 - place * 8832 ≡ 8832
  part_length = omega arith

  -- the part of a block that the code lends, and the block when it comes back
  pub part_is : take (place * 8832 + 8832 - place * 8832) (drop (place * 8832) block) ≡ image_at block place
  unfolding image_at
  part_is = part_lent 8832 block place

  pub put_is : (image : List ℕ) →
      take (place * 8832) block ++ (image ++ drop (place * 8832 + 8832 - place * 8832) (drop (place * 8832) block)) ≡ with_image block place image
  unfolding with_image
  put_is image = ap (λ (n : ℕ). take (place * 8832) block ++ (image ++ drop n (drop (place * 8832) block))) part_length

  module _ (has : Has block place) where
    pub length_image : length (image_at block place) ≡ 8832
    unfolding image_at
    length_image = length_part 8832 block place (omega (arith, has))

    -- what stands before a place, and behind it
    length_before : length (take (place * 8832) block) ≡ place * 8832
    length_before = length-take-le (place * 8832) block (omega (arith, has))

    length_behind : length (drop 8832 (drop (place * 8832) block)) ≡ length block - place * 8832 - 8832
    length_behind = length-drop 8832 (drop (place * 8832) block) ∙ ap (λ (n : ℕ). n - 8832) (length-drop (place * 8832) block)

    module _ (image : List ℕ) (whole : length image ≡ 8832) where
      pub length_with : length (with_image block place image) ≡ length block
      unfolding with_image
      length_with =
          let rest = length-append image (drop 8832 (drop (place * 8832) block)) in
          let all = length-append (take (place * 8832) block) (image ++ drop 8832 (drop (place * 8832) block)) in
          omega (arith, rest, all, length_before, length_behind, whole, has)

      pub image_with : image_at (with_image block place image) place ≡ image
      unfolding with_image image_at
      image_with =
          ap (take 8832) (drop_at (take (place * 8832) block) _ (place * 8832) length_before) ∙ take_at image _ 8832 whole

      -- a byte of another place
      byte_before : (i : ℕ) → i < place * 8832 → get_or (with_image block place image) i 0 ≡ get_or block i 0
      unfolding with_image
      byte_before i h =
          get_or-append (take (place * 8832) block) _ 0 i (omega (arith, length_before, h)) ∙ get_or-take (place * 8832) block i 0 h

      byte_behind : (i : ℕ) → (place + 1) * 8832 ≤ i → get_or (with_image block place image) i 0 ≡ get_or block i 0
      unfolding with_image
      byte_behind i h =
          let first = take (place * 8832) block in
          let rest = drop 8832 (drop (place * 8832) block) in
          let k = i - (place + 1) * 8832 in
          let there : i ≡ length first + (length image + k) = omega (arith, length_before, whole, h) in
          let same : place * 8832 + (8832 + k) ≡ i = omega (arith, h) in
          ap (λ (n : ℕ). get_or (first ++ (image ++ rest)) n 0) there
          ∙ get_or-append-add first (image ++ rest) (length image + k) 0
          ∙ get_or-append-add image rest k 0
          ∙ get_or-drop 8832 (drop (place * 8832) block) k 0
          ∙ get_or-drop (place * 8832) block (8832 + k) 0
          ∙ ap (λ (n : ℕ). get_or block n 0) same

-- a byte of a place's image
pub image_byte : (block : List ℕ) (place i : ℕ) → i < 8832 → get_or (image_at block place) i 0 ≡ get_or block (place * 8832 + i) 0
unfolding image_at
image_byte block place i h = get_or-take 8832 (drop (place * 8832) block) i 0 h ∙ get_or-drop (place * 8832) block i 0

-- the images of the others are as they were
pub image_other : (block : List ℕ) (place other : ℕ) → Has block place → Has block other → other ≢ place →
    (image : List ℕ) → length image ≡ 8832 → image_at (with_image block place image) other ≡ image_at block other
image_other block place other has there apart image whole =
    let long : length (image_at (with_image block place image) other) ≡ 8832 =
    length_image (with_image block place image) other (omega (arith, length_with block place has image whole, there)) in
    ext_get_or 0 _ _ (long ∙ sym (length_image block other there))
    (λ i h.
    let small : i < 8832 = omega (arith, h, long) in
    image_byte (with_image block place image) other i small
    ∙ dite (dec_lt other place) (λ before. byte_before block place has image whole (other * 8832 + i) (omega (arith, small, before)))
    (λ behind. byte_behind block place has image whole (other * 8832 + i) (omega (arith, behind, apart)))
    ∙ sym (image_byte block other i small))

-- ---- the board

-- at a place that is there it does not matter what would stand for one that is not
pub get_d_any : {A : Type 0} (l : List A) (i : ℕ) (d e : A) → i < length l → get_or l i d ≡ get_or l i e
get_d_any [] i d e h = absurd (not-suc-le-zero h)
get_d_any (x ∷ xs) zero d e h = refl
get_d_any (x ∷ xs) (suc i) d e h = get_d_any xs i d e (le_of_suc-le-suc h)

pub tag_with : (board : Board) (place : ℕ) (tag : Tag) → place < length board.tags → tag_at (with_tag board place tag) place ≡ tag
unfolding tag_at with_tag
tag_with board place tag h = get_or-set_same board.tags place tag _ h

pub tag_other : (board : Board) (place other : ℕ) (tag : Tag) → other ≢ place → tag_at (with_tag board place tag) other ≡ tag_at board other
unfolding tag_at with_tag
tag_other board place other tag apart = get_or-set_other board.tags place other tag _ apart
