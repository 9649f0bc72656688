-- The laws of packing, over a field: what is packed stands at its offset, and bytes are what the numbers in them pack to. Assumes nothing.
use Rattle.std.specs.Prelude.{◌≡◌, refl, List, [], ◌∷◌, ◌++◌, map, ℕ, zero, suc, ◌+◌, ◌*◌, ◌/◌, ◌%◌, ◌^◌, ◌<◌, length, get_or}
use Rattle.std.specs.Int.{byte_at, bytes_low_first}
use Rattle.std.proofs.Math.Nat.{div-div-eq-div-mul}
use Rattle.std.proofs.Common.{◌∙◌, sym, ap, append_assoc, add-zero, zero-add, add-suc, suc-add, pow-suc, arith, length-append, get_or-append-add}
use Rattle.std.proofs.lemmas.List.Edits.{sets}
use Rattle.bits.specs.Bytes.{Bytes}
use Rattle.bits.specs.Stores.{sets_join}
use Rattle.image.specs.Fields.{word_at}
use Rattle.image.specs.Fields.Laws.{word_lt}
use Rattle.packing.specs.Packing.{Field, byte, low_first, bytes_of, AllFit, bytes_from}

-- ---- a number's bytes

length_low : (width n : ℕ) → length (low_first width n) ≡ width
unfolding low_first
length_low zero n = refl
length_low (suc width) n = ap suc (length_low width (n / 256))

-- as the library has them
byte_is : (i n : ℕ) → byte_at i n ≡ n / 256 ^ i % 256
byte_is zero n = omega arith
byte_is (suc i) n = refl

low_at : (i k n : ℕ) → bytes_low_first i k n ≡ low_first k (n / 256 ^ i)
unfolding low_first
low_at i zero n = refl
low_at i (suc k) n =
    let next : n / 256 ^ suc i ≡ n / 256 ^ i / 256 = ap (λ (m : ℕ). n / m) (pow-suc 256 i) ∙ sym (div-div-eq-div-mul n (256 ^ i) 256) in
    let rest = low_at (suc i) k n ∙ ap (low_first k) next in
    λ j. byte_is i n j ∷ rest j

pub low_le : (k n : ℕ) → low_first k n ≡ bytes_low_first 0 k n
low_le k n = let whole : n / 256 ^ 0 ≡ n = omega arith in sym (low_at 0 k n ∙ ap (low_first k) whole)

-- a word of one byte
pub word_one : (lent : List ℕ) (at : ℕ) → word_at lent at 1 ≡ get_or lent at 0
unfolding word_at
word_one lent at = omega arith

-- past some bytes a word is one of the rest
pub word_past : (bytes rest : List ℕ) (at n : ℕ) → word_at (bytes ++ rest) (length bytes + at) n ≡ word_at rest at n
unfolding word_at
word_past bytes rest at zero = refl
word_past bytes rest at (suc n) =
    rw (get_or-append-add bytes rest at 0, ← add-suc (length bytes) at, word_past bytes rest (suc at) n)

-- a number that fits is read back
word_low : (width n : ℕ) (rest : List ℕ) → n < 256 ^ width → word_at (low_first width n ++ rest) 0 width ≡ n
unfolding word_at low_first
word_low zero n rest fits = omega arith
word_low (suc width) n rest fits =
    let high : n / 256 < 256 ^ width = omega (arith, pow-suc 256 width) in
    let tail : word_at (n % 256 ∷ (low_first width (n / 256) ++ rest)) 1 width ≡ n / 256 =
    word_past (n % 256 ∷ []) (low_first width (n / 256) ++ rest) 0 width ∙ word_low width (n / 256) rest high in
    rw tail (omega arith)

-- ---- fields

pub bytes_append : (fs gs : List Field) → bytes_of (fs ++ gs) ≡ bytes_of fs ++ bytes_of gs
unfolding bytes_of
bytes_append [] gs = refl
bytes_append (f ∷ fs) gs =
    rw (bytes_append fs gs, append_assoc (low_first f.width f.value) (bytes_of fs) (bytes_of gs))

pub fit_append : (fs gs : List Field) → AllFit fs → AllFit gs → AllFit (fs ++ gs)
unfolding AllFit
fit_append [] gs fits more = more
fit_append (f ∷ fs) gs fits more = (fits.0, fit_append fs gs fits.1 more)

-- and all of them are bytes
pub append_bytes : (l m : List ℕ) → Bytes l → Bytes m → Bytes (l ++ m)
append_bytes [] m first second k = second k
append_bytes (x ∷ xs) m first second zero = first zero
append_bytes (x ∷ xs) m first second (suc k) = append_bytes xs m (λ i. first (suc i)) second k

low_bytes : (width n : ℕ) → Bytes (low_first width n)
unfolding low_first
low_bytes zero n k = omega arith
low_bytes (suc width) n zero = omega arith
low_bytes (suc width) n (suc k) = low_bytes width (n / 256) k

pub fields_bytes : (fs : List Field) → Bytes (bytes_of fs)
unfolding bytes_of
fields_bytes [] k = omega arith
fields_bytes (f ∷ fs) k =
    append_bytes (low_first f.width f.value) (bytes_of fs) (low_bytes f.width f.value) (fields_bytes fs) k

-- bytes fit a byte each
pub fit_singles : (ns : List ℕ) → Bytes ns → AllFit (map byte ns)
unfolding AllFit
fit_singles [] bytes = tt
fit_singles (n ∷ ns) bytes = (bytes 0, fit_singles ns (λ k. bytes (suc k)))

-- numbers of one byte are their bytes
pub bytes_singles : (ns : List ℕ) → AllFit (map byte ns) → bytes_of (map byte ns) ≡ ns
unfolding bytes_of AllFit low_first
bytes_singles [] fits = refl
bytes_singles (n ∷ ns) fits =
    let own : n % 256 ≡ n = omega (arith, fits.0) in
    rw (own, bytes_singles ns fits.1)

-- the bytes of fields are as many as their widths
unfoldable pub widths_of : List Field → ℕ
widths_of [] = 0
widths_of (f ∷ fs) = f.width + widths_of fs

pub length_fields : (fs : List Field) → length (bytes_of fs) ≡ widths_of fs
unfolding bytes_of widths_of
length_fields [] = refl
length_fields (f ∷ fs) =
    length-append (low_first f.width f.value) (bytes_of fs) ∙ rw (length_low f.width f.value, length_fields fs)

-- fields that are stored one by one, each behind the one before
unfoldable pub stores : List ℕ → ℕ → List Field → List ℕ
stores lent at [] = lent
stores lent at (f ∷ fs) = stores (sets lent at (low_first f.width f.value)) (at + f.width) fs

pub stores_sets : (lent : List ℕ) (at : ℕ) (fs : List Field) → stores lent at fs ≡ sets lent at (bytes_of fs)
unfolding stores bytes_of
stores_sets lent at [] = refl
stores_sets lent at (f ∷ fs) =
    let bytes = low_first f.width f.value in
    rw (stores_sets (sets lent at bytes) (at + f.width) fs, sets_join lent at bytes (bytes_of fs), length_low f.width f.value)

-- where a field begins
unfoldable pub offset_of : List Field → ℕ → ℕ
offset_of fs zero = 0
offset_of [] (suc k) = 0
offset_of (f ∷ fs) (suc k) = f.width + offset_of fs k

-- each field stands at its offset
pub field_back : (fs : List Field) (k : ℕ) (rest : List ℕ) → AllFit fs → k < length fs →
    word_at (bytes_of fs ++ rest) (offset_of fs k) (get_or fs k (byte 0)).width ≡ (get_or fs k (byte 0)).value
unfolding bytes_of offset_of AllFit
field_back [] k rest fits h = absurd (omega arith)
field_back (f ∷ fs) zero rest fits h =
    rw (append_assoc (low_first f.width f.value) (bytes_of fs) rest) (word_low f.width f.value (bytes_of fs ++ rest) fits.0)
field_back (f ∷ fs) (suc k) rest fits h =
    let on = word_past (low_first f.width f.value) (bytes_of fs ++ rest) (offset_of fs k) (get_or fs k (byte 0)).width in
    rw (append_assoc (low_first f.width f.value) (bytes_of fs) rest)
    (rw (length_low f.width f.value) at on ∙ field_back fs k rest fits.1 (omega arith))

-- ---- bytes

-- every list of bytes is read from its start
pub bytes_all : (l : List ℕ) → bytes_from l 0 (length l) ≡ l
unfolding bytes_from
bytes_all [] = refl
bytes_all (x ∷ xs) = ap (◌∷◌ x) (shifted xs 0 (length xs) ∙ bytes_all xs)
  where
    shifted : (xs : List ℕ) (at n : ℕ) → bytes_from (x ∷ xs) (suc at) n ≡ bytes_from xs at n
    shifted xs at zero = refl
    shifted xs at (suc n) = ap (◌∷◌ (get_or xs at 0)) (shifted xs (suc at) n)

pub length_bytes : (l : List ℕ) (at n : ℕ) → length (bytes_from l at n) ≡ n
unfolding bytes_from
length_bytes l at zero = refl
length_bytes l at (suc n) = ap suc (length_bytes l (suc at) n)

pub get_bytes : (l : List ℕ) (at n i : ℕ) → i < n → get_or (bytes_from l at n) i 0 ≡ get_or l (at + i) 0
unfolding bytes_from
get_bytes l at zero i h = absurd (omega arith)
get_bytes l at (suc n) zero h = ap (λ (k : ℕ). get_or l k 0) (sym (add-zero at))
get_bytes l at (suc n) (suc i) h = get_bytes l (suc at) n i (omega arith) ∙ ap (λ (k : ℕ). get_or l k 0) (suc-add at i ∙ sym (add-suc at i))

pub bytes_past : (bytes rest : List ℕ) (at n : ℕ) → bytes_from (bytes ++ rest) (length bytes + at) n ≡ bytes_from rest at n
unfolding bytes_from
bytes_past bytes rest at zero = refl
bytes_past bytes rest at (suc n) =
    rw (get_or-append-add bytes rest at 0, ← add-suc (length bytes) at, bytes_past bytes rest (suc at) n)

-- a run of them in two parts
pub bytes_join : (l : List ℕ) (at m n : ℕ) → bytes_from l at m ++ bytes_from l (at + m) n ≡ bytes_from l at (m + n)
unfolding bytes_from
bytes_join l at zero n = rw (add-zero at, zero-add n)
bytes_join l at (suc m) n = rw (suc-add m n, bytes_from, add-suc at m, ← suc-add at m) (ap (◌∷◌ (get_or l at 0)) (bytes_join l (suc at) m n))

pub bytes_are : (l : List ℕ) (at n : ℕ) → Bytes l → Bytes (bytes_from l at n)
unfolding bytes_from
bytes_are l at zero bytes k = omega arith
bytes_are l at (suc n) bytes zero = bytes at
bytes_are l at (suc n) bytes (suc k) = bytes_are l (suc at) n bytes k

-- the bytes of a word are its bytes
low_word : (l : List ℕ) (at n : ℕ) → Bytes l → low_first n (word_at l at n) ≡ bytes_from l at n
unfolding low_first word_at bytes_from
low_word l at zero bytes = refl
low_word l at (suc n) bytes =
    let b = bytes at in
    let head : (get_or l at 0 + 256 * word_at l (suc at) n) % 256 ≡ get_or l at 0 = omega (arith, b) in
    let tail : (get_or l at 0 + 256 * word_at l (suc at) n) / 256 ≡ word_at l (suc at) n = omega (arith, b) in
    rw (head, tail) (ap (◌∷◌ (get_or l at 0)) (low_word l (suc at) n bytes))

-- fields of these widths, with the numbers that stand in the bytes from a place on
unfoldable pub fields_in : List ℕ → List ℕ → ℕ → List Field
fields_in [] l at = []
fields_in (w ∷ ws) l at = record { width = w; value = word_at l at w } ∷ fields_in ws l (at + w)

-- they pack to those bytes ..
pub bytes_again : (ws l : List ℕ) (at : ℕ) → Bytes l → bytes_of (fields_in ws l at) ≡ bytes_from l at (widths_of (fields_in ws l at))
unfolding fields_in bytes_of widths_of bytes_from
bytes_again [] l at bytes = refl
bytes_again (w ∷ ws) l at bytes = rw (low_word l at w bytes, bytes_again ws l (at + w) bytes) (bytes_join l at w (widths_of (fields_in ws l (at + w))))

-- .. and fit
pub fields_fit : (ws l : List ℕ) (at : ℕ) → Bytes l → AllFit (fields_in ws l at)
unfolding fields_in AllFit
fields_fit [] l at bytes = tt
fields_fit (w ∷ ws) l at bytes = (word_lt l at w bytes, fields_fit ws l (at + w) bytes)
