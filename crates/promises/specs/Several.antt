-- Request #106, "Several tags on one line": a line is up to seven tags, each a state of its own, and what holds of one tag holds of each of
-- them. First the words, then the statements: a tag on the line is a tag alone, which carries all others; demand 1 of the line; its bits; that
-- a Match touches no other tag; and, in Several/Demand3.antt, demand 3, whose premises Several/Met.antt meets. `one_tag` and `line_demand1` in
-- Several/Proof.antt, `line_bits` in Several/Bits.antt and `touches_no_other` in Several/Others.antt prove them. Assumes nothing.
use Rattle.std.specs.Prelude.{Bool, true, false, not, ◌&&◌, ◌||◌, ◌≡◌, ◌≢◌, ◌⊎◌, ℕ, zero, suc, ◌*◌, ◌^◌, ◌≤◌, ◌<◌, eqb, leb, length, get_or, take, drop, replicate, if◌then◌else◌, Ok}
use mathlib.Core.List.{List, [], ◌∷◌, ◌++◌, map, flat_map}
use Rattle.bits.specs.Each.{each}
use Rattle.board.specs.Board.{Left, line_step, new_line}
use Rattle.board.specs.declared.Board.{Board}
use Rattle.board.specs.declared.Shown.{Shown}
use Rattle.board.proofs.event.Reads as event-call
use Rattle.board.proofs.new.Reads as new-call
use Rattle.select.specs.declared.Choosing.{Choosing}
use Rattle.tag.specs.Tag.{new_tag}
use Rattle.promises.specs.Demand3.{JustReset}
use Rattle.promises.specs.Overdrive.{NoLong, NoShort, slots_in, Starts}
use Rattle.promises.specs.Ranges.{is_rom, is_configuration, in_range, Fit}
use Rattle.promises.specs.Runs as alone
use Rattle.promises.specs.Runs.{State, Event, Kept, ticks_of}
use Rattle.promises.specs.Sentences.Commands.{PassesFull}
use Rattle.promises.specs.Sentences.Events.{number_in, own_number, clear_tag, sends_now}
use Rattle.promises.specs.Sentences.Mission.{Cleared}
use Rattle.promises.specs.Words.{among, low, bit_at, number_of, speed_of, Silent, Chosen}
pub mod Laws
pub mod Away
pub mod InStep
pub mod Aside
pub mod Numbers
pub mod Proof
pub mod Bits
pub mod Others
pub mod Demand3
pub mod Met

-- ---- a line

-- "up to 7 tags, each with its own record and its own 8,832 bytes of one shared lent block"
pub record Line : Type 0 where
  pub block : List ℕ
  pub board : Board

abbrev pub count_of : Line → ℕ
count_of l = l.board.count

-- the tag at a place: "places count from 0; the tag at place i has bytes 8,832 i to 8,832 i + 8,831 of the block"
abbrev pub tag_at : Line → ℕ → State
tag_at l place =
    record { image = take 8832 (drop (place * 8832) l.block); tag = get_or l.board.tags place (clear_tag 0 0) }

-- there are seven records, as their type says
abbrev pub Seven : Line → Type 0
Seven l = length l.board.tags ≡ 7

-- ---- its events

-- "A slot or reset goes to all .. a tick names its tag"
pub data LineEvent : Type 0 where
  slot : Bool → LineEvent
  reset : LineEvent
  tick : (place reading : ℕ) → LineEvent
  short : LineEvent

abbrev pub code_of : LineEvent → ℕ
code_of (LineEvent.slot bit) = if bit then 1 else 0
code_of LineEvent.reset = 2
code_of (LineEvent.tick place reading) = 3
code_of LineEvent.short = 4

-- "Place and reading count with code 3 alone"
abbrev pub place_of : LineEvent → ℕ
place_of (LineEvent.slot bit) = 0
place_of LineEvent.reset = 0
place_of (LineEvent.tick place reading) = place
place_of LineEvent.short = 0

abbrev pub reading_of : LineEvent → ℕ
reading_of (LineEvent.slot bit) = 0
reading_of LineEvent.reset = 0
reading_of (LineEvent.tick place reading) = reading
reading_of LineEvent.short = 0

abbrev pub happens : Line → LineEvent → Left
happens l e = line_step l.block l.board (code_of e) (place_of e) (reading_of e)

abbrev pub leaves : Left → Line
leaves o = record { block = o.block; board = o.shown.board }

unfoldable pub after : Line → LineEvent → Line
after l e = leaves (happens l e)

abbrev pub line_bit : Line → LineEvent → Bool
line_bit l e = (happens l e).shown.line

abbrev pub Accepts : Line → LineEvent → Type 0
Accepts l e = (happens l e).shown.answer ≡ Ok tt

-- one after the other
pub record Ran : Type 0 where
  pub line : List Bool
  pub end : Line

unfoldable pub run : Line → List LineEvent → Ran
run l [] = record { line = []; end = l }
run l (e ∷ es) =
    let rest = run (after l e) es in
    record { line = line_bit l e ∷ rest.line; end = rest.end }

unfoldable pub AllAccepted : Line → List LineEvent → Type 0
AllAccepted l [] = Unit {0}
AllAccepted l (e ∷ es) = Accepts l e × AllAccepted (after l e) es

-- what the tag at a place hears: "every slot and reset, and its own ticks"
abbrev pub hears : ℕ → LineEvent → List Event
hears place (LineEvent.slot bit) = Event.slot bit ∷ []
hears place LineEvent.reset = Event.reset ∷ []
hears place (LineEvent.tick named reading) = if eqb named place then Event.tick reading ∷ [] else []
hears place LineEvent.short = Event.short ∷ []

abbrev pub heard : ℕ → List LineEvent → List Event
heard place es = flat_map (hears place) es

-- ---- 1. a tag on the line is a tag

-- the bit that a tag alone gives to what it hears of an event, 1 if that is nothing
abbrev pub bit_of : State → List Event → Bool
bit_of s [] = true
bit_of s (e ∷ es) = alone.line_bit s e

-- a line of tags, each alone: "the line bit is the AND of all"
unfoldable pub line_of : ℕ → (ℕ → State) → List LineEvent → List Bool
line_of count tags [] = []
line_of count tags (e ∷ es) =
    each count (λ place. bit_of (tags place) (hears place e))
    ∷ line_of count (λ place. (alone.run (tags place) (hears place e)).state) es

pub record OneTag : Type 0 where
  -- whatever the line's records and bytes are: after events that are accepted each tag is where it would be alone
  pub tags : (l : Line) → Seven l → (es : List LineEvent) → AllAccepted l es → (place : ℕ) → place < count_of l →
      tag_at (run l es).end place ≡ (alone.run (tag_at l place) (heard place es)).state
  -- and the line's bits are the AND of the tags' bits, each as alone
  pub line : (l : Line) → Seven l → (es : List LineEvent) → AllAccepted l es → (run l es).line ≡ line_of (count_of l) (tag_at l) es
  -- the count and the block's length stay, and records from the count on "come back as given"
  pub count : (l : Line) (es : List LineEvent) → count_of (run l es).end ≡ count_of l
  pub size : (l : Line) (es : List LineEvent) → length (run l es).end.block ≡ length l.block
  pub past : (l : Line) (es : List LineEvent) (place : ℕ) → count_of l ≤ place → (tag_at (run l es).end place).tag ≡ (tag_at l place).tag

-- ---- 2. demand 1

-- some place below n passes a test; and two of them have the same number
unfoldable pub some : ℕ → (ℕ → Bool) → Bool
some zero test = false
some (suc n) test = test n || some n test

abbrev pub twice : ℕ → (ℕ → ℕ) → Bool
twice n number = some n (λ i. some i (λ j. eqb (number i) (number j)))

-- so many tags make a line: no "count of 0 or above 7"
abbrev pub is_line : ℕ → Bool
is_line count = leb 1 count && leb count 7

-- "The order is 14, 3, 13, all before any other check of a tag"; "then 6 over all the count's records, then 1, 2". 14 too for "a tick for a tag
-- place that isn't there"; 3: "A block whose length isn't 8,832 times the count"; 13: "two tags with the same number"
unfoldable pub line_number : Line → ℕ → ℕ → ℕ → ℕ
line_number l code place reading =
    if not (is_line (count_of l)) || (eqb code 3 && leb (count_of l) place) then 14
    else if not (eqb (length l.block) (count_of l * 8832)) then 3
    else if twice (count_of l) (λ i. number_of (tag_at l i)) then 13
    else if not (each (count_of l) (λ i. in_range (tag_at l i).tag)) then 6
    else own_number code reading

-- "place by place 4, 5"
unfoldable pub first_fault : List ℕ → List ℕ → ℕ
first_fault [] codes = 0
first_fault (number ∷ numbers) [] = 0
first_fault (number ∷ numbers) (code ∷ codes) =
    if not (is_rom number) then 4
    else if not (is_configuration code) then 5
    else first_fault numbers codes

-- a new line: "14, 3, 13, then place by place 4, 5"; as many codes as numbers, else 14
unfoldable pub new_number : List ℕ → List ℕ → List ℕ → ℕ
new_number block numbers codes =
    if not (is_line (length numbers)) || not (eqb (length codes) (length numbers)) then 14
    else if not (eqb (length block) (length numbers * 8832)) then 3
    else if twice (length numbers) (λ i. get_or numbers i 0) then 13
    else first_fault numbers codes

-- of what a call returned, and left in the block: this number; and a refusal gives bit 1, these records and this block
pub record Defined (number : ℕ) (block : List ℕ) (board : Board) (out : Left) : Type 0 where
  pub answer : number_in out.shown.answer ≡ number
  pub refusal : number ≢ 0 → (out.shown.line ≡ true) × (out.shown.board ≡ board) × (out.block ≡ block)

abbrev pub outcome : Shown → List ℕ → Left
outcome shown block = record { shown = shown; block = block }

-- "Records past the count, and all of a refused line, are those of all zeros", and its count is 0
abbrev pub no_board : Board
no_board = record { tags = replicate 7 (clear_tag 0 0); count = 0 }

-- reached from a new line by events that were accepted
pub data Reached : Line → Type 0 where
  new : (block numbers codes : List ℕ) → (new_line block numbers codes).shown.answer ≡ Ok tt →
      Reached (leaves (new_line block numbers codes))
  event : {l : Line} (e : LineEvent) → Reached l → Accepts l e → Reached (after l e)

-- a line that no event refuses by 3, 13 or 6, nor for its count: up to seven tags that are fit, each with a number of its own
pub record FitLine (l : Line) : Type 0 where
  pub seven : Seven l
  pub many : is_line (count_of l) ≡ true
  pub size : length l.block ≡ count_of l * 8832
  pub apart : (i j : ℕ) → i < count_of l → j < count_of l → number_of (tag_at l i) ≡ number_of (tag_at l j) → i ≡ j
  pub tags : (place : ℕ) → place < count_of l → Fit (tag_at l place)

-- slots, resets, and ticks with a valid reading for a tag that is there
abbrev pub Valid : ℕ → LineEvent → Type 0
Valid count (LineEvent.slot bit) = Unit {0}
Valid count LineEvent.reset = Unit {0}
Valid count (LineEvent.tick place reading) = (place < count) × (reading ≤ 2047)
Valid count LineEvent.short = Unit {0}

-- `event-call.Post` and `new-call.Post` are the contracts as the source states them
pub record LineDemand1 : Type 2 where
  -- nobody needs to check first: of no arguments is there anything to show
  pub any_event : (κs : _) (block : _) (board : Board) (code place reading : ℕ) → event-call.Asked κs (block, (board, (code, (place, (reading, tt)))))
  pub any_new : (κs : _) (block : _) (numbers : _) (codes : _) → new-call.Asked κs (block, (numbers, (codes, tt)))
  -- an event: "the numbers and their order, for every block, line and event; a refusal changes no tag and no byte"
  pub events : (κs : _) (block : _) (board : Board) (code place reading : ℕ) (r : Shown) (exit : _) →
      event-call.Post κs (block, (board, (code, (place, (reading, tt))))) r exit →
      (outcome r exit.0.now ≡ line_step block.now board code place reading)
      × Defined (line_number (record { block = block.now; board = board }) code place reading) block.now board (outcome r exit.0.now)
  -- place and reading count with code 3 alone
  pub unread : (block : List ℕ) (board : Board) (code place reading : ℕ) → code ≢ 3 →
      line_step block board code place reading ≡ line_step block board code 0 0
  -- a new line
  pub news : (κs : _) (block : _) (numbers : _) (codes : _) (r : Shown) (exit : _) →
      new-call.Post κs (block, (numbers, (codes, tt))) r exit →
      (outcome r exit.0.now ≡ new_line block.now numbers.now codes.now)
      × Defined (new_number block.now numbers.now codes.now) block.now no_board (outcome r exit.0.now)
  pub new_bit : (block numbers codes : List ℕ) → (new_line block numbers codes).shown.line ≡ true
  -- "count 0, whose events answer 14"; "One broken record refuses every event, a tick for another tag too"
  pub none : (block : List ℕ) (code place reading : ℕ) → line_number (record { block = block; board = no_board }) code place reading ≡ 14
  pub broken : (l : Line) (i : ℕ) → i < count_of l → in_range (tag_at l i).tag ≡ false → (code place reading : ℕ) →
      line_number l code place reading ≢ 0
  -- "Tags made one by one on their parts are the same line"
  pub made : (block numbers codes : List ℕ) → new_number block numbers codes ≡ 0 →
      let l = leaves (new_line block numbers codes) in
      (Seven l) × (count_of l ≡ length numbers) × (length l.block ≡ length block)
      × ((place : ℕ) → place < length numbers →
      tag_at l place ≡ alone.leaves (new_tag (take 8832 (drop (place * 8832) block)) (get_or numbers place 0) (get_or codes place 0)))
      × ((place : ℕ) → length numbers ≤ place → (tag_at l place).tag ≡ clear_tag 0 0)
  -- a line reached from a new one is fit, each of its tags is reached from a new one, and it stays so
  pub reached : {l : Line} → Reached l → FitLine l × ((place : ℕ) → place < count_of l → alone.Reached (tag_at l place))
  pub stays_fit : {l : Line} (e : LineEvent) → FitLine l → Accepts l e → FitLine (after l e)
  -- whatever code, place and reading come, refused ones too, a reached line is one again
  pub again : {l : Line} → Reached l → (code place reading : ℕ) → Reached (leaves (line_step l.block l.board code place reading))
  -- each of its tags is then where demand 3 begins, after a code 2
  pub begins : {l : Line} → Reached l → (place : ℕ) → place < count_of l → JustReset (tag_at (after l LineEvent.reset) place)
  -- to a fit line the number is given by the event alone
  pub fit : {l : Line} → FitLine l → (code place reading : ℕ) →
      number_in (line_step l.block l.board code place reading).shown.answer
      ≡ (if eqb code 3 && leb (count_of l) place then 14 else own_number code reading)
  pub valid : {l : Line} → FitLine l → (e : LineEvent) → Valid (count_of l) e → Accepts l e

-- ---- 3. the line's bits

pub record LineBits : Type 0 where
  -- a slot held low is low; "Code 2 gives 0"; "A tick gives 1"
  pub low_slot : {l : Line} → FitLine l → line_bit l (LineEvent.slot false) ≡ false
  pub reset : {l : Line} → FitLine l → line_bit l LineEvent.reset ≡ false
  pub tick : {l : Line} → FitLine l → (place reading : ℕ) → place < count_of l → reading ≤ 2047 → line_bit l (LineEvent.tick place reading) ≡ true
  -- "and no other tag gets a second"
  pub other : {l : Line} → FitLine l → (place reading : ℕ) → place < count_of l → reading ≤ 2047 →
      (j : ℕ) → j < count_of l → j ≢ place → tag_at (after l (LineEvent.tick place reading)) j ≡ tag_at l j
  -- "Code 4 gives 0 exactly if a tag is at overdrive; tags at standard speed don't change"
  pub short : {l : Line} → FitLine l → line_bit l LineEvent.short ≡ not (some (count_of l) (λ i. speed_of (tag_at l i)))
  pub slow : {l : Line} → FitLine l → (j : ℕ) → j < count_of l → speed_of (tag_at l j) ≡ false → tag_at (after l LineEvent.short) j ≡ tag_at l j
  -- "From a new line on no tag listens while another sends": while one sends, the master's bit makes no difference to any
  pub deaf : {l : Line} → Reached l → (i j : ℕ) → i < count_of l → j < count_of l → sends_now (tag_at l i) ≡ true →
      alone.after (tag_at l j) (Event.slot false) ≡ alone.after (tag_at l j) (Event.slot true)
  -- "so hearing the line's bit would be the same"
  pub hearing : {l : Line} → Reached l → (bit : Bool) (j : ℕ) → j < count_of l →
      tag_at (after l (LineEvent.slot bit)) j ≡ alone.after (tag_at l j) (Event.slot (line_bit l (LineEvent.slot bit)))

-- ---- 4. "Match touches no other"

-- the tag is not chosen as the event comes
abbrev pub Unselected : State → Event → Type 0
Unselected s e = s.tag.exchange.select.choosing ≢ Choosing.Selected

-- it ends "as its own ticks alone leave" it: image, counters, scratchpad, TA and E/S, number and code
abbrev pub LeftAlone : State → List Event → State → Type 0
LeftAlone s es end = Kept (alone.run s (ticks_of es)).state end

-- what comes between a long reset and the next: 55h or 69h, and not the whole of this number behind it, "whole or broken off"; whatever slots
-- and short resets follow, with ticks anywhere
pub record Elsewhere (number : ℕ) (es : List Event) : Type 0 where
  pub none : NoLong es
  pub byte : ℕ
  pub match : among (0x55 ∷ 0x69 ∷ []) byte ≡ true
  pub bits : List Bool
  pub slots : slots_in es ≡ low 8 byte ++ bits
  pub other : Starts (low 64 number) bits → ⊥

-- or Resume
pub record Resumes (es : List Event) : Type 0 where
  pub none : NoLong es
  pub slots : Starts (low 8 0xA5) (slots_in es)

-- what follows a long reset: a first stretch, and others that a long reset begins
unfoldable pub stretches : List LineEvent → List (List LineEvent) → List LineEvent
stretches first [] = first
stretches first (next ∷ rest) = first ++ (LineEvent.reset ∷ stretches next rest)

unfoldable pub AllOf : (List LineEvent → Type 0) → List (List LineEvent) → Type 0
AllOf P [] = Unit {0}
AllOf P (es ∷ rest) = P es × AllOf P rest

pub record TouchesNoOther : Type 0 where
  -- "any run from a long reset in which j is never selected", or from any other place of a run
  pub unselected : {l : Line} → FitLine l → (es : List LineEvent) → AllAccepted l es → (j : ℕ) → j < count_of l →
      alone.Always Unselected (tag_at l j) (heard j es) → LeftAlone (tag_at l j) (heard j es) (tag_at (run l es).end j)
  -- after a long reset: "55h or 69h with another number, whole or broken off, never selects it, nor does Resume after it", over any number of
  -- stretches that each begin with a long reset
  pub never : {l : Line} → FitLine l → (j : ℕ) → j < count_of l → let s = after l LineEvent.reset in
      (first : List LineEvent) (rest : List (List LineEvent)) → Elsewhere (number_of (tag_at l j)) (heard j first) →
      AllOf (λ es. Elsewhere (number_of (tag_at l j)) (heard j es) ⊎ Resumes (heard j es)) rest →
      alone.Always Unselected (tag_at s j) (heard j (stretches first rest))
  pub match : {l : Line} → FitLine l → (j : ℕ) → j < count_of l → let s = after l LineEvent.reset in
      (first : List LineEvent) (rest : List (List LineEvent)) → AllAccepted s (stretches first rest) →
      Elsewhere (number_of (tag_at l j)) (heard j first) →
      AllOf (λ es. Elsewhere (number_of (tag_at l j)) (heard j es) ⊎ Resumes (heard j es)) rest →
      LeftAlone (tag_at s j) (heard j (stretches first rest)) (tag_at (run s (stretches first rest)).end j)
  -- "A grower who, from a long reset on, selects his tag by Match .. must not touch another grower's image". Numbers have 64 bits, as their
  -- type says
  pub grower : {l : Line} → FitLine l → (i j : ℕ) → i < count_of l → j < count_of l → i ≢ j →
      number_of (tag_at l i) < 2 ^ 64 → number_of (tag_at l j) < 2 ^ 64 → (byte : ℕ) → among (0x55 ∷ 0x69 ∷ []) byte ≡ true →
      let s = after l LineEvent.reset in
      (es : List LineEvent) → AllAccepted s es → NoLong (heard j es) →
      Starts (low 8 byte ++ low 64 (number_of (tag_at l i))) (slots_in (heard j es)) →
      LeftAlone (tag_at s j) (heard j es) (tag_at (run s es).end j)
  -- "After a whole 69h the other tags at standard speed are silent until a long reset", and after a 55h
  pub silenced : {l : Line} → FitLine l → (byte : ℕ) → among (0x55 ∷ 0x69 ∷ []) byte ≡ true → (j : ℕ) → j < count_of l →
      (bits : List Bool) → length bits ≡ 64 → bits ≢ low 64 (number_of (tag_at l j)) →
      let s = (run l (LineEvent.reset ∷ map LineEvent.slot (low 8 byte ++ bits))).end in
      (es : List LineEvent) → AllAccepted s es → NoLong (heard j es) → Silent (tag_at (run s es).end j)
  -- "those at overdrive until any reset": silent until then, and awake after a short one
  pub fast_silenced : {l : Line} → FitLine l → (byte : ℕ) → among (0x55 ∷ 0x69 ∷ []) byte ≡ true → (j : ℕ) → j < count_of l →
      speed_of (tag_at l j) ≡ true → (bits : List Bool) → length bits ≡ 64 → bits ≢ low 64 (number_of (tag_at l j)) →
      let s = (run l (LineEvent.short ∷ map LineEvent.slot (low 8 byte ++ bits))).end in
      (es : List LineEvent) → AllAccepted s es → NoLong (heard j es) → NoShort (heard j es) → Silent (tag_at (run s es).end j)
  pub fast_awake : {l : Line} → FitLine l → (j : ℕ) → j < count_of l → speed_of (tag_at l j) ≡ true →
      Silent (tag_at (after l LineEvent.short) j) → ⊥
  -- "just after a long reset no tag is silent"
  pub awake : {l : Line} → FitLine l → (j : ℕ) → j < count_of l → Silent (tag_at (after l LineEvent.reset) j) → ⊥
  -- "Skip reaches every tag": after a long reset all of them, by CCh and by 3Ch; after a short one those at overdrive
  pub skip : {l : Line} → FitLine l → (byte : ℕ) → among (0xCC ∷ 0x3C ∷ []) byte ≡ true → (place : ℕ) → place < count_of l →
      Chosen (tag_at (run l (LineEvent.reset ∷ map LineEvent.slot (low 8 byte))).end place)
  pub fast_skip : {l : Line} → FitLine l → (byte : ℕ) → among (0xCC ∷ 0x3C ∷ []) byte ≡ true → (place : ℕ) → place < count_of l →
      speed_of (tag_at l place) ≡ true → Chosen (tag_at (run l (LineEvent.short ∷ map LineEvent.slot (low 8 byte))).end place)
  -- "so a password sent after Skip is sent to all of them": a Clear clears every tag that has no mission and whose password it is
  pub clears_all : {l : Line} → FitLine l → (byte : ℕ) → among (0xCC ∷ 0x3C ∷ []) byte ≡ true → (field : ℕ) → field < 2 ^ 64 →
      let end = (run l (LineEvent.reset ∷ map LineEvent.slot (low 8 byte ++ (low 8 0x96 ++ (low 64 field ++ low 8 0xFF))))).end in
      (place : ℕ) → place < count_of l → PassesFull (tag_at l place) field → bit_at (tag_at l place).image 0x0215 1 ≡ false →
      Cleared (tag_at l place).image (tag_at end place).image
