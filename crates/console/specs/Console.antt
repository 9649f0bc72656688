-- What the programs that play events take in, print and leave (document 01, "What is built"; request #106), over groups of any size and
-- over whatever goes in and comes back with an event: a tag's record, or a line's. Assumes nothing.
use Rattle.std.specs.Prelude.{Bool, true, false, List, [], ◌∷◌, ◌++◌, ◌≡◌, ℕ, zero, suc, ◌+◌, ◌*◌, ◌-◌, ◌/◌, ◌%◌, ◌≤◌, min, eqb, length, take, drop, if◌then◌else◌, Result, Ok, Err}
use Rattle.answer.specs.Answer.{refusal_number, refusal_text}
use Rattle.answer.specs.declared.Refusal.{Refusal}
use Rattle.bits.specs.Bits.{digit}

-- ---- groups

-- so many groups of `size` bytes each
unfoldable pub groups : ℕ → ℕ → List ℕ → List (List ℕ)
groups zero size bytes = []
groups (suc count) size bytes = take size bytes ∷ groups count size (drop size bytes)

-- the whole ones: "a short last group is dropped"
unfoldable pub groups_in : ℕ → List ℕ → List (List ℕ)
groups_in size bytes = groups (length bytes / size) size bytes

-- the bytes behind them
unfoldable pub begun_in : ℕ → List ℕ → List ℕ
begun_in size bytes = drop (length bytes - length bytes % size) bytes

-- what a read behind the first `begun` bytes of a slice leaves, whatever comes: they stay, and the bytes then held are theirs and
-- those that came, as far as the slice goes
pub record Behind (before : List ℕ) (begun held : ℕ) (after : List ℕ) : Type 0 where
  pub kept : take begun after ≡ take begun before
  pub from : min begun (length before) ≤ held
  pub within : held ≤ length before

-- "reading high, low"
abbrev pub reading_of : ℕ → ℕ → ℕ
reading_of high low = 256 * high + low

-- ---- texts

-- "prints 0 or 1 and a line feed for each"
unfoldable pub bit_text : Bool → List ℕ
bit_text line = (0x30 + digit line) ∷ 0x0A ∷ []

-- what an event's answer prints: its line bit, or its refusal
unfoldable pub answer_text : ℕ → Bool → List ℕ
answer_text number line = if eqb number 0 then bit_text line else refusal_text number

-- the same of a line bit, or of a refusal's number
abbrev pub reply_text : Result Bool ℕ → List ℕ
reply_text (Ok line) = bit_text line
reply_text (Err number) = refusal_text number

-- ---- a session

-- what an event answers and leaves: its number, the line bit, what comes back, and the lent bytes
pub record Reply (A : Type 0) : Type 0 where
  pub number : ℕ
  pub line : Bool
  pub back : A
  pub lent : List ℕ

-- a line bit or a refusal says the same
abbrev pub Answers : {A : Type 0} → Reply A → Result Bool Refusal → Type 0
Answers reply (Ok line) = (reply.number ≡ 0) × (reply.line ≡ line)
Answers reply (Err refusal) = reply.number ≡ refusal_number refusal

-- what events leave one after the other: the text printed, what comes back, the lent bytes, and whether all of them were accepted
pub record Session (A : Type 0) : Type 0 where
  pub text : List ℕ
  pub back : A
  pub lent : List ℕ
  pub accepted : Bool

-- nothing more is printed
abbrev pub over : {A : Type 0} → Bool → List ℕ → A → Session A
over accepted lent back = record { text = []; back = back; lent = lent; accepted = accepted }

-- a text, and then the rest
abbrev pub printing : {A : Type 0} → List ℕ → Session A → Session A
printing text rest =
    record { text = text ++ rest.text; back = rest.back; lent = rest.lent; accepted = rest.accepted }

-- an answer to each group; "On a refusal .. stops"
unfoldable pub played : {A : Type 0} → (List ℕ → A → List ℕ → Reply A) → List ℕ → A → List (List ℕ) → Session A
played reply lent back [] = over true lent back
played reply lent back (group ∷ groups) =
    let r = reply lent back group in
    printing (answer_text r.number r.line)
    (if eqb r.number 0 then played reply r.lent r.back groups else over false r.lent r.back)

-- what is left is what the events of some groups leave, as they come
pub record Leaves {A : Type 0} (reply : List ℕ → A → List ℕ → Reply A) (lent : List ℕ) (back : A) (lent' : List ℕ) (back' : A) : Type 0 where
  pub came : List (List ℕ)
  pub lent_after : lent' ≡ (played reply lent back came).lent
  pub back_after : back' ≡ (played reply lent back came).back
