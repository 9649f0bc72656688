-- What is put into a field is read back, and a put leaves every field apart from it: once for each kind of field, over
-- place and size. For two fields whose places are numerals, `apart` computes, and `tt` closes it. Assumes nothing.
use Rattle.bits.specs.Stores.{sets_join}
use Rattle.std.proofs.lemmas.List.Edits.{sets}
use Rattle.std.specs.Prelude.{◌≡◌, refl, Bool, true, false, not, ◌&&◌, ◌||◌, List, ◌≢◌, ◌⊎◌, ℕ, zero, suc, ◌+◌, ◌-◌, ◌*◌, ◌/◌, ◌%◌, ◌^◌, ◌≤◌, ◌<◌, T, leb, ltb, eqb, length, get_or, set, if◌then◌else◌, take}
use Rattle.std.proofs.Common.{sym, ◌∙◌, subst, inl, inr, ⊎_elim, pow-suc, arith, lt-ltb, ltb-true, eq-eqb, ne_eqb, T_not, leb→le, le→leb, ltb→lt, length-set, get_or-set_same, get_or-set_other, add-one, take-suc, length-take-le}
use Rattle.std.specs.Bool.{beq}
use Rattle.std.proofs.Math.Logic.{dite}
use Rattle.std.proofs.Math.Nat.{mod-one, one-le-pow, lt_of_lt_of_le, pow-le-pow_right}
use Rattle.std.proofs.Math.Decide.{ℕ_discrete, dec_lt}
use Rattle.std.proofs.Math.Arith.{mod-mul}
use Rattle.std.specs.Int.Bits.{bit_and, bit_or}
use Rattle.std.proofs.lemmas.Nat.{and_shr, or_shr, and_mod, or_mod, and_le_r, or_lt}
use Rattle.std.proofs.Math.Dec.{eqb_refl}
use Rattle.std.proofs.Math.ListN.{get_or-eq_default}
use Rattle.std.proofs.Math.Pow.{pow-lt}
use Rattle.std.proofs.Math.Seq.{set_out}
use Rattle.bits.specs.Bits.{digit, bit_of}
use Rattle.bits.specs.Bytes.{Bytes, bytes_set, blank, byte_blank}
use Rattle.bits.specs.Choose.{either, choice}
use Rattle.bits.specs.Tests.{or_cases, or_of, beq_eq}
use Rattle.bits.specs.Each.{each_pair, each_pair_at}
use Rattle.image.specs.Fields.{word_at, put_word, flag_at, with_bit, put_flag, apart}

-- ---- apart

-- two runs are apart exactly if the one ends before the other begins
pub apart_cases : (at m at' n : ℕ) → T (apart at m at' n) → (at + m ≤ at') ⊎ (at' + n ≤ at)
apart_cases at m at' n t =
    ⊎_elim (λ l. inl (leb→le _ _ l)) (λ l. inr (leb→le _ _ l)) (or_cases (leb (at + m) at') (leb (at' + n) at) t)

pub apart_of : (at m at' n : ℕ) → (at + m ≤ at') ⊎ (at' + n ≤ at) → T (apart at m at' n)
apart_of at m at' n h =
    or_of (leb (at + m) at') (leb (at' + n) at) (⊎_elim (λ l. inl (le→leb _ _ l)) (λ l. inr (le→leb _ _ l)) h)

pub apart_sym : (at m at' n : ℕ) → T (apart at m at' n) → T (apart at' n at m)
apart_sym at m at' n t = apart_of at' n at m (⊎_elim inr inl (apart_cases at m at' n t))

-- what is apart from a run is apart from each part of it
pub apart_part : (at m at' n k j : ℕ) → at' ≤ k → k + j ≤ at' + n → T (apart at m at' n) → T (apart at m k j)
apart_part at m at' n k j lo hi t =
    apart_of at m k j (⊎_elim (λ l. inl (omega arith)) (λ l. inr (omega arith)) (apart_cases at m at' n t))

-- ---- bytes

-- a store leaves every other byte
pub byte_set_other : (image : List ℕ) (at b k : ℕ) → T (apart at 1 k 1) → get_or (set image at b) k 0 ≡ get_or image k 0
byte_set_other image at b k t =
    get_or-set_other image at k b 0 (λ e. ⊎_elim (λ l. omega arith) (λ l. omega arith) (apart_cases at 1 k 1 t))

-- ---- words

-- a word is made of its bytes alone
pub word_same : (i j : List ℕ) (at n : ℕ) → ((k : ℕ) → at ≤ k → k < at + n → get_or i k 0 ≡ get_or j k 0) → word_at i at n ≡ word_at j at n
unfolding word_at
word_same i j at zero h = refl
word_same i j at (suc n) h =
    let head : get_or i at 0 ≡ get_or j at 0 = h at (omega arith) (omega arith) in
    let tail : word_at i (suc at) n ≡ word_at j (suc at) n = word_same i j (suc at) n (λ k lo hi. h k (omega arith) (omega arith)) in
    rw (head, tail)

-- it fits its bytes
pub word_lt : (image : List ℕ) (at n : ℕ) → Bytes image → word_at image at n < 256 ^ n
unfolding word_at
word_lt image at zero bytes = omega arith
word_lt image at (suc n) bytes = rw (pow-suc 256 n) (omega (arith, word_lt image (suc at) n bytes, bytes at))

-- past the end there are only zeros
pub word_past : (image : List ℕ) (at n : ℕ) → length image ≤ at → word_at image at n ≡ 0
unfolding word_at
word_past image at zero h = refl
word_past image at (suc n) h = rw (get_or-eq_default image 0 h, word_past image (suc at) n (omega arith))

-- of no bytes it is 0
pub word_none : (image : List ℕ) (at n : ℕ) → n ≡ 0 → word_at image at n ≡ 0
unfolding word_at
word_none image at n e = rw e

-- one byte more, below the others
pub word_next : (image : List ℕ) (at n i : ℕ) → 0 < i → i ≤ n
    → word_at image (at + i) (n - i) * 256 + get_or image (at + (i - 1)) 0 ≡ word_at image (at + (i - 1)) (n - (i - 1))
unfolding word_at
word_next image at n i pos le =
    let count : n - (i - 1) ≡ suc (n - i) = omega arith in
    let next : suc (at + (i - 1)) ≡ at + i = omega arith in
    rw (count, word_at, next) (omega arith)

-- of at most seven bytes it is below 2^56
pub word_seven : (image : List ℕ) (at n : ℕ) → Bytes image → n ≤ 7 → word_at image at n < 256 ^ 7
word_seven image at n bytes few =
    lt_of_lt_of_le (word_lt image at n bytes) (pow-le-pow_right {n = 256} (omega arith) {i = n} {j = 7} few)

-- a put keeps the length
pub length_put_word : (image : List ℕ) (at n v : ℕ) → length (put_word image at n v) ≡ length image
unfolding put_word
length_put_word image at zero v = refl
length_put_word image at (suc n) v = length_put_word (set image at (v % 256)) (suc at) n (v / 256) ∙ length-set image at (v % 256)

-- it leaves bytes
pub bytes_put_word : (image : List ℕ) (at n v : ℕ) → Bytes image → Bytes (put_word image at n v)
unfolding put_word
bytes_put_word image at zero v bytes = bytes
bytes_put_word image at (suc n) v bytes =
    bytes_put_word (set image at (v % 256)) (suc at) n (v / 256) (bytes_set image at (v % 256) bytes (omega arith))

-- past the end it changes nothing
pub put_word_past : (image : List ℕ) (at n v : ℕ) → length image ≤ at → put_word image at n v ≡ image
unfolding put_word
put_word_past image at zero v h = refl
put_word_past image at (suc n) v h = rw (set_out image at (v % 256) h, put_word_past image (suc at) n (v / 256) (omega arith))

-- one byte of it put, the rest is put from the next place on
pub put_word_next : (image : List ℕ) (at n i rest : ℕ) → i < n
    → put_word (set image (at + i) (rest % 256)) (at + (i + 1)) (n - (i + 1)) (rest / 256) ≡ put_word image (at + i) (n - i) rest
unfolding put_word
put_word_next image at n i rest lt =
    let count : n - i ≡ suc (n - (i + 1)) = omega arith in
    let next : at + (i + 1) ≡ suc (at + i) = omega arith in
    rw (count, put_word, next)

-- and with no byte left nothing is
pub put_word_none : (image : List ℕ) (at n v : ℕ) → n ≡ 0 → put_word image at n v ≡ image
unfolding put_word
put_word_none image at n v e = rw e

outside : (image : List ℕ) (at n v k : ℕ) → (at + n ≤ k) ⊎ (k + 1 ≤ at) → get_or (put_word image at n v) k 0 ≡ get_or image k 0
unfolding put_word
outside image at zero v k h = refl
outside image at (suc n) v k h =
    outside (set image at (v % 256)) (suc at) n (v / 256) k (⊎_elim (λ l. inl (omega arith)) (λ l. inr (omega arith)) h)
    ∙ get_or-set_other image at k (v % 256) 0 (⊎_elim (λ l e. omega arith) (λ l e. omega arith) h)

-- a put leaves every byte outside it
pub byte_put_word_other : (image : List ℕ) (at n v k : ℕ) → T (apart at n k 1) → get_or (put_word image at n v) k 0 ≡ get_or image k 0
byte_put_word_other image at n v k t = outside image at n v k (apart_cases at n k 1 t)

-- a put is read back, as much of it as the bytes hold
pub word_put_word : (image : List ℕ) (at n v : ℕ) → at + n ≤ length image → word_at (put_word image at n v) at n ≡ v % 256 ^ n
unfolding word_at put_word
word_put_word image at zero v h = sym (mod-one v)
word_put_word image at (suc n) v h =
    let after : List ℕ = set image at (v % 256) in
    let head : get_or (put_word after (suc at) n (v / 256)) at 0 ≡ v % 256 =
    outside after (suc at) n (v / 256) at (inr (omega arith)) ∙ get_or-set_same image at (v % 256) 0 (omega arith) in
    let tail : word_at (put_word after (suc at) n (v / 256)) (suc at) n ≡ v / 256 % 256 ^ n =
    word_put_word after (suc at) n (v / 256) (rw (length-set image at (v % 256)) (omega arith)) in
    rw (head, tail, pow-suc 256 n) (omega (arith, mod-mul v {m = 256 ^ n} {c = 256} (one-le-pow n 256 (omega arith)) (omega arith)))

-- a put leaves every word and every flag apart from it
pub word_put_word_other : (image : List ℕ) (at m v at' n : ℕ) → T (apart at m at' n)
    → word_at (put_word image at m v) at' n ≡ word_at image at' n
word_put_word_other image at m v at' n t =
    word_same (put_word image at m v) image at' n
    (λ k lo hi. outside image at m v k (⊎_elim (λ l. inl (omega arith)) (λ l. inr (omega arith)) (apart_cases at m at' n t)))

pub flag_put_word_other : (image : List ℕ) (at n v at' i : ℕ) → T (apart at n at' 1)
    → flag_at (put_word image at n v) at' i ≡ flag_at image at' i
unfolding flag_at
flag_put_word_other image at n v at' i t = rw (byte_put_word_other image at n v at' t)

-- ---- flags

one_bit : (f : ℕ → ℕ → ℕ) (g : Bool → Bool → Bool)
    → T (each_pair 2 (λ r s. beq (eqb (f r s) 1) (g (eqb r 1) (eqb s 1))))
    → (a b : ℕ) → eqb (f (a % 2) (b % 2)) 1 ≡ g (eqb (a % 2) 1) (eqb (b % 2) 1)
one_bit f g t a b =
    beq_eq _ _
    (each_pair_at 2 (λ r s. beq (eqb (f r s) 1) (g (eqb r 1) (eqb s 1))) t (a % 2) (b % 2) (omega arith) (omega arith))

-- bit i of an AND, and of an OR, is that of the two bits
pub bit_and_lem : (a b i : ℕ) → bit_of (bit_and a b) i ≡ bit_of a i && bit_of b i
unfolding bit_of
bit_and_lem a b i = rw (and_shr a b i, and_mod (a / 2 ^ i) (b / 2 ^ i) 1) (one_bit bit_and ◌&&◌ tt (a / 2 ^ i) (b / 2 ^ i))

pub bit_or_lem : (a b i : ℕ) → bit_of (bit_or a b) i ≡ bit_of a i || bit_of b i
unfolding bit_of
bit_or_lem a b i = rw (or_shr a b i, or_mod (a / 2 ^ i) (b / 2 ^ i) 1) (one_bit bit_or ◌||◌ tt (a / 2 ^ i) (b / 2 ^ i))

-- the byte of every bit but i, and the byte of bit i alone
bit_others : (i j : ℕ) → i < 8 → j < 8 → bit_of (255 - 2 ^ i) j ≡ not (eqb i j)
unfolding bit_of
bit_others i j hi hj = beq_eq _ _ (each_pair_at 8 (λ i j. beq (bit_of (255 - 2 ^ i) j) (not (eqb i j))) tt i j hi hj)

bit_own : (b : Bool) (i j : ℕ) → i < 8 → j < 8 → bit_of (digit b * 2 ^ i) j ≡ b && eqb i j
unfolding bit_of
bit_own true i j hi hj = beq_eq _ _ (each_pair_at 8 (λ i j. beq (bit_of (1 * 2 ^ i) j) (eqb i j)) tt i j hi hj)
bit_own false i j hi hj = beq_eq _ _ (each_pair_at 8 (λ i j. beq (bit_of (0 * 2 ^ i) j) false) tt i j hi hj)

-- a byte with bit i made b: bit j of it
pub bit_with_bit : (n i j : ℕ) (b : Bool) → i < 8 → j < 8 → bit_of (with_bit n i b) j ≡ if eqb i j then b else bit_of n j
unfolding with_bit
bit_with_bit n i j b hi hj =
    rw (bit_or_lem _ _ j, bit_and_lem _ _ j, bit_others i j hi hj, bit_own b i j hi hj) (picked (eqb i j) b (bit_of n j))
  where
    picked : (e b o : Bool) → (o && not e) || (b && e) ≡ if e then b else o
    picked true true true = refl
    picked true true false = refl
    picked true false true = refl
    picked true false false = refl
    picked false true true = refl
    picked false true false = refl
    picked false false true = refl
    picked false false false = refl

-- it is a byte
pub with_bit_lt : (n i : ℕ) (b : Bool) → i < 8 → with_bit n i b < 256
unfolding with_bit
with_bit_lt n i b h =
    or_lt 8 (bit_and n (255 - 2 ^ i)) (digit b * 2 ^ i) (omega (arith, and_le_r n (255 - 2 ^ i))) (own b)
  where
    own : (b : Bool) → digit b * 2 ^ i < 2 ^ 8
    own true = omega (arith, pow-lt h)
    own false = omega arith

-- within a byte a put of a flag is a store of that byte
put_flag_set : (image : List ℕ) (at i : ℕ) (b : Bool) → i < 8 → put_flag image at i b ≡ set image at (with_bit (get_or image at 0) i b)
unfolding put_flag
put_flag_set image at i b h = rw (lt-ltb i 8 h)

-- a put keeps the length
pub length_put_flag : (image : List ℕ) (at i : ℕ) (b : Bool) → length (put_flag image at i b) ≡ length image
unfolding put_flag
length_put_flag image at i b = choice (λ (l : List ℕ). length l ≡ length image) (ltb i 8) (length-set image at _) refl

-- it leaves bytes
pub bytes_put_flag : (image : List ℕ) (at i : ℕ) (b : Bool) → Bytes image → Bytes (put_flag image at i b)
unfolding put_flag
bytes_put_flag image at i b bytes =
    either Bytes (ltb i 8) (λ e. bytes_set image at _ bytes (with_bit_lt (get_or image at 0) i b (ltb-true i 8 e))) (λ e. bytes)

elsewhere : (image : List ℕ) (at i : ℕ) (b : Bool) (k : ℕ) → k ≢ at → get_or (put_flag image at i b) k 0 ≡ get_or image k 0
unfolding put_flag
elsewhere image at i b k ne = choice (λ (l : List ℕ). get_or l k 0 ≡ get_or image k 0) (ltb i 8) (get_or-set_other image at k _ 0 ne) refl

-- it leaves every other byte
pub byte_put_flag_other : (image : List ℕ) (at i : ℕ) (b : Bool) (k : ℕ) → T (apart at 1 k 1)
    → get_or (put_flag image at i b) k 0 ≡ get_or image k 0
byte_put_flag_other image at i b k t =
    elsewhere image at i b k (λ e. ⊎_elim (λ l. omega arith) (λ l. omega arith) (apart_cases at 1 k 1 t))

-- it leaves every word that its byte is no part of
pub word_put_flag_other : (image : List ℕ) (at i : ℕ) (b : Bool) (at' n : ℕ) → T (apart at 1 at' n)
    → word_at (put_flag image at i b) at' n ≡ word_at image at' n
word_put_flag_other image at i b at' n t =
    word_same (put_flag image at i b) image at' n
    (λ k lo hi. elsewhere image at i b k (λ e. ⊎_elim (λ l. omega arith) (λ l. omega arith) (apart_cases at 1 at' n t)))

-- a put is read back
pub flag_put_flag : (image : List ℕ) (at i : ℕ) (b : Bool) → at < length image → T (ltb i 8) → flag_at (put_flag image at i b) at i ≡ b
unfolding flag_at
flag_put_flag image at i b h t =
    let hi : i < 8 = ltb→lt i 8 t in
    rw (
      put_flag_set image at i b hi,
      get_or-set_same image at (with_bit (get_or image at 0) i b) 0 h,
      bit_with_bit (get_or image at 0) i i b hi hi,
      eq-eqb i i refl,
    )

-- the other flags of the same byte
beside : (image : List ℕ) (at i : ℕ) (b : Bool) (j : ℕ) → i < 8 → j < 8 → (i ≡ j → ⊥)
    → flag_at (put_flag image at i b) at j ≡ flag_at image at j
unfolding flag_at
beside image at i b j hi hj ne =
    dite (dec_lt at (length image))
    (λ inside.
    rw (
      put_flag_set image at i b hi,
      get_or-set_same image at (with_bit (get_or image at 0) i b) 0 inside,
      bit_with_bit (get_or image at 0) i j b hi hj,
      ne_eqb i j ne,
    ))
    (λ past. rw (put_flag_set image at i b hi, set_out image at (with_bit (get_or image at 0) i b) (omega arith)))

-- a put leaves every other flag, of another byte or of its own
pub flag_put_flag_other : (image : List ℕ) (at i : ℕ) (b : Bool) (at' j : ℕ) → T (ltb i 8) → T (ltb j 8)
    → T (apart at 1 at' 1 || not (eqb i j))
    → flag_at (put_flag image at i b) at' j ≡ flag_at image at' j
unfolding flag_at
flag_put_flag_other image at i b at' j ti tj t =
    dite (ℕ_discrete at' at)
    (λ e. rw e (beside image at i b j (ltb→lt i 8 ti) (ltb→lt j 8 tj) (λ same. other e same (or_cases (apart at 1 at' 1) (not (eqb i j)) t))))
    (λ ne. rw (elsewhere image at i b at' ne))
  where
    other : at' ≡ at → i ≡ j → T (apart at 1 at' 1) ⊎ T (not (eqb i j)) → ⊥
    other e same (inl l) = ⊎_elim (λ m. omega arith) (λ m. omega arith) (apart_cases at 1 at' 1 l)
    other e same (inr n) = T_not (eqb i j) n (subst (λ (m : ℕ). T (eqb i m)) same (eqb_refl i))

-- ---- a blank image, n bytes of zero

pub word_blank : (n at count : ℕ) → word_at (blank n) at count ≡ 0
unfolding word_at
word_blank n at zero = refl
word_blank n at (suc count) = rw (byte_blank n at, word_blank n (suc at) count)

-- ---- bytes from a place on

-- one more of them is stored
pub bytes_more : (l : List ℕ) (at : ℕ) (bytes : List ℕ) (i : ℕ) → i < length bytes →
    set (sets l at (take i bytes)) (at + i) (get_or bytes i 0) ≡ sets l at (take (i + 1) bytes)
bytes_more l at bytes i more =
    let some : length (take i bytes) ≡ i = length-take-le i bytes (omega arith) in
    rw (add-one, take-suc bytes i 0 more) (rw (sets_join l at (take i bytes), some))
