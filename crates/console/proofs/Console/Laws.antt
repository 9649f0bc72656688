-- Laws of groups, of texts and of sessions. Assumes nothing.
use Rattle.std.specs.Prelude.{Bool, true, false, List, [], ◌∷◌, ◌++◌, ◌≡◌, ℕ, ◌+◌, ◌-◌, ◌%◌, ◌≤◌, ◌<◌, min, eqb, get_or, take, drop, Result, Ok, Err, if◌then◌else◌}
use Rattle.std.proofs.Math.Path.{refl}
use Rattle.std.proofs.Common.{sym, true≢false, ◌∙◌, add_assoc, zero-add, add-one, arith, eqb-true, ne_eqb, length-append, length-take, get_or-take, get_or-drop}
use Rattle.std.proofs.Math.Nat.{add-zero, div-eq-sub-div, div-eq_of_lt, mod-le}
use Rattle.std.proofs.lemmas.List.{drop-take, take_min}
use Rattle.std.proofs.Math.ListN.{length, length-drop}
use Rattle.std.proofs.lemmas.List.Edits.{sets, sets-eq}
use Rattle.answer.specs.declared.Refusal.{Refusal}
use Rattle.answer.specs.Answer.{refusal_number, refusal_text}
use Rattle.answer.specs.Answer.Laws.{refusal_counts}
use Rattle.std.specs.List.{copy_within}
use Rattle.bits.specs.Choose.{either}
use Rattle.bits.specs.Stores.{sets_join}
use Rattle.console.specs.Console.{groups, groups_in, begun_in, answer_text, bit_text, reply_text, Reply, Answers, Leaves, Session, over, printing, played}

-- ---- whole groups

-- a whole group, and then the rest
pub groups_cons : (size : ℕ) (bytes : List ℕ) → 0 < size → size ≤ length bytes →
    groups_in size bytes ≡ take size bytes ∷ groups_in size (drop size bytes)
unfolding groups_in groups
groups_cons size bytes some whole = rw (length-drop size bytes, div-eq-sub-div some whole, add-one)

-- less than a group
pub groups_none : (size : ℕ) (bytes : List ℕ) → length bytes < size → groups_in size bytes ≡ []
unfolding groups_in groups
groups_none size bytes h = rw (div-eq_of_lt h)

-- a byte of a group
pub group_byte : (size : ℕ) (bytes : List ℕ) (i k : ℕ) → k < size → get_or (take size (drop i bytes)) k 0 ≡ get_or bytes (i + k) 0
group_byte size bytes i k h = rw (get_or-take size (drop i bytes) k 0 h, get_or-drop)

-- ---- the group that has only begun

pub begun_length : (size : ℕ) (bytes : List ℕ) → length (begun_in size bytes) ≡ length bytes % size
unfolding begun_in
begun_length size bytes = rw length-drop (omega (arith, mod-le (length bytes) size))

-- as many as are counted
pub begun_counted : (size held : ℕ) (l : List ℕ) (end begun : ℕ) → end ≡ min held (length l) → begun ≡ end % size →
    length (begun_in size (take held l)) ≡ begun
begun_counted size held l end begun e b = rw (begun_length size (take held l), length-take held l, ← e) (sym b)

-- they are moved to the start
pub begun_moved : (size held : ℕ) (l : List ℕ) (end begun : ℕ) → end ≡ min held (length l) → begun ≡ end % size →
    copy_within l (end - begun) end 0 ≡ sets l 0 (begun_in size (take held l))
unfolding begun_in
begun_moved size held l end begun e b =
    let bytes : List ℕ = begun_in size (take held l) in
    let count : length bytes ≡ begun = begun_counted size held l end begun e b in
    let some : begun ≤ end = rw b (mod-le end size) in
    let at : end - begun + begun ≡ end = omega (arith, some) in
    let last : end - (end - begun) ≡ begun = omega (arith, some) in
    let held_too : take end l ≡ take held l = rw e (take_min held l) in
    let is : bytes ≡ drop (end - begun) (take held l) = rw (length-take held l, ← e, ← b) refl in
    let moved : bytes ≡ take begun (drop (end - begun) l) = is ∙ rw (at, held_too) at (drop-take (end - begun) begun l) in
    let all : 0 + length bytes ≤ length l = omega (arith, count, some, e) in
    rw (last, ← moved) (rw count at (sym (sets-eq bytes l 0 all)))

-- ---- texts

-- a refusal's text is that of its number
pub refused_text : (number : ℕ) (line : Bool) → 0 < number → answer_text number line ≡ refusal_text number
unfolding answer_text
refused_text number line h =
    either (λ (text : List ℕ). text ≡ refusal_text number) (eqb number 0)
    (λ yes. absurd (omega (arith, eqb-true number 0 yes)))
    (λ no. refl)

-- what an event's answer prints
abbrev pub text_of : Result Bool Refusal → List ℕ
text_of (Ok line) = reply_text (Ok line)
text_of (Err refusal) = reply_text (Err (refusal_number refusal))

-- a line bit or a refusal that says the same prints the same
pub answered_text : {A : Type 0} (r : Reply A) (answer : Result Bool Refusal) → Answers r answer → answer_text r.number r.line ≡ text_of answer
unfolding answer_text
answered_text r (Ok line) e = rw (e.0, e.1) refl
answered_text r (Err refusal) e = rw e (refused_text (refusal_number refusal) r.line (refusal_counts refusal))

-- a line bit is two bytes
pub bit_length : (line : Bool) → length (bit_text line) ≡ 2
unfolding bit_text
bit_length line = refl

-- an answer is four bytes at most
pub answer_length : (answer : Result Bool ℕ) → length (reply_text answer) ≤ 4
unfolding bit_text refusal_text
answer_length (Ok line) = omega arith
answer_length (Err number) = omega arith

-- ---- a session printed into a buffer

-- what it leaves where the text goes to `out` from `at` on
pub record Put (A : Type 0) : Type 0 where
  pub back : A
  pub lent : List ℕ
  pub printed : ℕ
  pub accepted : Bool
  pub out : List ℕ

unfoldable pub put_of : {A : Type 0} → List ℕ → ℕ → Session A → Put A
put_of out at s =
    record { back = s.back; lent = s.lent; printed = at + length s.text; accepted = s.accepted; out = sets out at s.text }

-- a text is put, and then the rest
pub put_printing : {A : Type 0} (out : List ℕ) (at : ℕ) (text : List ℕ) (s : Session A) →
    put_of out at (printing text s) ≡ put_of (sets out at text) (at + length text) s
unfolding put_of
put_printing out at text s = rw (sets_join, length-append, ← add_assoc)

-- ---- the groups of an input played one by one, and their text put into a buffer

module _ {A : Type 0} (reply : List ℕ → A → List ℕ → Reply A) (size : ℕ) where
  -- what a group's event leaves, by what it answers
  pub after_one : List ℕ → Result Bool Refusal → Reply A → Session A
  after_one rest (Ok line) r = played reply r.lent r.back (groups_in size rest)
  after_one rest (Err refusal) r = over false r.lent r.back

  -- a group's answer is put, and then what follows it
  pub put_group : (lent : List ℕ) (back : A) (bytes out : List ℕ) (at : ℕ) → 0 < size → size ≤ length bytes →
      (answer : Result Bool Refusal) → Answers (reply lent back (take size bytes)) answer →
      put_of (sets out at (text_of answer)) (at + length (text_of answer)) (after_one (drop size bytes) answer (reply lent back (take size bytes)))
      ≡ put_of out at (played reply lent back (groups_in size bytes))
  unfolding after_one played
  put_group lent back bytes out at some whole (Ok line) e =
      let r : Reply A = reply lent back (take size bytes) in
      rw (groups_cons size bytes some whole, answered_text r (Ok line) e, e.0)
      (sym (put_printing out at (bit_text line) (played reply r.lent r.back (groups_in size (drop size bytes)))))
  put_group lent back bytes out at some whole (Err refusal) e =
      let r : Reply A = reply lent back (take size bytes) in
      let counts : eqb (refusal_number refusal) 0 ≡ false = ne_eqb (refusal_number refusal) 0 (λ none. absurd (omega (arith, refusal_counts refusal, none))) in
      rw (groups_cons size bytes some whole, answered_text r (Err refusal) e, e, counts)
      (sym (put_printing out at (refusal_text (refusal_number refusal)) (over false r.lent r.back)))

module _ {A : Type 0} (reply : List ℕ → A → List ℕ → Reply A) (size : ℕ) (lent₀ : List ℕ) (back₀ : A) (input out₀ : List ℕ) where
  -- what is left is to be played: with it played, and its text put behind what is printed already, all is as it has to be. What is
  -- printed is no longer than what is played
  pub record Playing (lent out : List ℕ) (back : A) (printed : ℕ) (rest : List ℕ) : Type 0 where
    pub short : printed + length rest ≤ length input
    pub left : put_of out printed (played reply lent back (groups_in size rest)) ≡ put_of out₀ 0 (played reply lent₀ back₀ (groups_in size input))

  -- before the first
  pub playing_none : Playing lent₀ out₀ back₀ 0 input
  playing_none = record { short = omega arith; left = refl }

  -- a group's event, and what its answer puts
  pub record Turn (lent out : List ℕ) (back : A) (printed : ℕ) (rest group : List ℕ) (answer : Result Bool Refusal) (lent' out' : List ℕ) (back' : A) (count : ℕ) (rest' : List ℕ) : Type 0 where
    pub first : (group ≡ take size rest) × (rest' ≡ drop size rest) × (length rest' + size ≡ length rest)
    pub answers : Answers (reply lent back group) answer
    pub lent_after : lent' ≡ (reply lent back group).lent
    pub back_after : back' ≡ (reply lent back group).back
    pub out_after : out' ≡ sets out printed (text_of answer)
    pub value : count ≡ length (text_of answer)

  -- its text is put, and then what follows it
  turned : 2 ≤ size → {lent out : List ℕ} {back : A} {printed : ℕ} {rest group : List ℕ} {answer : Result Bool Refusal} {lent' out' : List ℕ} {back' : A} {count : ℕ} {rest' : List ℕ} →
      Playing lent out back printed rest → Turn lent out back printed rest group answer lent' out' back' count rest' →
      put_of out' (printed + count) (after_one reply size rest' answer (reply lent back group)) ≡ put_of out₀ 0 (played reply lent₀ back₀ (groups_in size input))
  turned two {lent} {out} {back} {printed} {rest} {group} {answer} p t =
      rw (t.first.0, t.first.1, t.out_after, t.value)
      (put_group reply size lent back rest out printed (omega arith) (omega (arith, t.first.2)) answer (rw t.first.0 at t.answers) ∙ p.left)

  -- one more
  pub playing_one : 2 ≤ size → {lent out : List ℕ} {back : A} {printed : ℕ} {rest group : List ℕ} {line : Bool} {lent' out' : List ℕ} {back' : A} {count : ℕ} {rest' : List ℕ} →
      Playing lent out back printed rest → Turn lent out back printed rest group (Ok line) lent' out' back' count rest' →
      Playing lent' out' back' (printed + count) rest'
  unfolding after_one
  playing_one two {line = line} p t =
      record {
        short = omega (arith, p.short, t.first.2, bit_length line, t.value);
        left = rw (t.lent_after, t.back_after) (turned two p t);
      }

  -- after a refusal
  pub playing_refused : 2 ≤ size → {lent out : List ℕ} {back : A} {printed : ℕ} {rest group : List ℕ} {refusal : Refusal} {lent' out' : List ℕ} {back' : A} {count : ℕ} {rest' : List ℕ} →
      Playing lent out back printed rest → Turn lent out back printed rest group (Err refusal) lent' out' back' count rest' →
      let s : Session A = played reply lent₀ back₀ (groups_in size input) in
      ◌≡◌ {A = Put A} record { back = back'; lent = lent'; printed = printed + count; accepted = false; out = out' }
      record { back = s.back; lent = s.lent; printed = length s.text; accepted = s.accepted; out = sets out₀ 0 s.text }
  unfolding put_of after_one
  playing_refused two p t = rw (t.lent_after, t.back_after) (rw (zero-add, add-zero) at (turned two p t))

  -- after the last
  pub playing_all : {lent out : List ℕ} {back : A} {printed : ℕ} {rest : List ℕ} → Playing lent out back printed rest → length rest < size →
      let s : Session A = played reply lent₀ back₀ (groups_in size input) in
      ◌≡◌ {A = Put A} record { back = back; lent = lent; printed = printed; accepted = true; out = out }
      record { back = s.back; lent = s.lent; printed = length s.text; accepted = s.accepted; out = sets out₀ 0 s.text }
  unfolding put_of played
  playing_all {lent} {out} {back} {printed} {rest} p last = rw (groups_none size rest last, add-zero, zero-add) at p.left

-- ---- one session behind another

module _ {A : Type 0} (reply : List ℕ → A → List ℕ → Reply A) where
  -- two that leave the same, and were both accepted or both refused
  abbrev pub Alike : Session A → Session A → Type 0
  Alike s t = (s.lent ≡ t.lent) × (s.back ≡ t.back) × (s.accepted ≡ t.accepted)

  after : (test : Bool) (s u : Session A) (lent : List ℕ) (back : A) (more : List (List ℕ)) →
      (if test then s else over false lent back).accepted ≡ true →
      (s.accepted ≡ true → Alike u (played reply s.lent s.back more)) →
      let first : Session A = if test then s else over false lent back in
      Alike (if test then u else over false lent back) (played reply first.lent first.back more)
  after true s u lent back more h next = next h
  after false s u lent back more h next = absurd (true≢false (sym h))

  -- where all were accepted, more go on where they ended
  pub played_on : (groups more : List (List ℕ)) (lent : List ℕ) (back : A) →
      let s : Session A = played reply lent back groups in
      s.accepted ≡ true → Alike (played reply lent back (groups ++ more)) (played reply s.lent s.back more)
  unfolding played
  played_on [] more lent back h = (refl, refl, refl)
  played_on (group ∷ groups) more lent back h =
      let r : Reply A = reply lent back group in
      after (eqb r.number 0) (played reply r.lent r.back groups) (played reply r.lent r.back (groups ++ more)) r.lent r.back more h
      (λ all. played_on groups more r.lent r.back all)

  -- what is left so far, all of it accepted
  pub record Reached (lent₀ : List ℕ) (back₀ : A) (lent : List ℕ) (back : A) : Type 0 where
    pub so_far : Leaves reply lent₀ back₀ lent back
    pub accepted : (played reply lent₀ back₀ so_far.came).accepted ≡ true

  pub reached_none : (lent₀ : List ℕ) (back₀ : A) → Reached lent₀ back₀ lent₀ back₀
  unfolding played
  reached_none lent₀ back₀ = record { so_far = record { came = []; lent_after = refl; back_after = refl }; accepted = refl }

  -- more groups, and what they leave
  module _ {lent₀ : List ℕ} {back₀ : A} {lent : List ℕ} {back : A} (p : Reached lent₀ back₀ lent back) (more : List (List ℕ)) {lent' : List ℕ} {back' : A}
      (l : lent' ≡ (played reply lent back more).lent) (b : back' ≡ (played reply lent back more).back) where
    on : Alike (played reply lent₀ back₀ (p.so_far.came ++ more)) (played reply lent back more)
    on = rw (p.so_far.lent_after, p.so_far.back_after) (played_on p.so_far.came more lent₀ back₀ p.accepted)

    pub leaves_more : Leaves reply lent₀ back₀ lent' back'
    leaves_more = record { came = p.so_far.came ++ more; lent_after = l ∙ sym on.0; back_after = b ∙ sym on.1 }

    pub reached_more : (played reply lent back more).accepted ≡ true → Reached lent₀ back₀ lent' back'
    unfolding leaves_more
    reached_more all = record { so_far = leaves_more; accepted = on.2 ∙ all }
