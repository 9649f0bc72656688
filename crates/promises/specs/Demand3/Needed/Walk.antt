-- A tag that is given one wrong field only: its exchange goes on as if the image answered 0 to every question. So where it stands
-- is computed from the events alone, and with it whether premises 4 and 5 hold. Assumes nothing.
use Rattle.std.specs.Prelude.{◌≡◌, Bool, false, ◌&&◌, ◌≢◌, ℕ, eqb}
use Rattle.std.proofs.Math.Path.{refl, ap}
use Rattle.std.proofs.Common.{sym, ◌∙◌}
use Rattle.std.proofs.Math.Bool.{true, and-eq-true_iff}
use Rattle.std.proofs.lemmas.Bool.{false≢true}
use mathlib.Core.List.{List, [], ◌∷◌}
use borrow.Author.Tests.{eqb-true}
use Rattle.exchange.specs.declared.Exchange.{Exchange}
use Rattle.exchange.specs.Exchange.{asks, slot_of, after_reset, after_short}
use Rattle.image.specs.Answers.{checked}
use Rattle.image.specs.Answers.Laws.{control_refused, copy_refused, read_refused}
use Rattle.bits.specs.Bits.{shift_in}
use Rattle.image.specs.Fields.{word_at}
use Rattle.image.specs.Registers.{mip, read_password, full_password}
use Rattle.bus.specs.declared.Guarded.{Guarded}
use Rattle.bus.specs.declared.Question.{Question}
use Rattle.field.specs.Field.{field_question, field_asks}
use Rattle.memory.specs.Memory as memory
use Rattle.mission.specs.Mission.Frames.{mip_ticked, mip_forced}
use Rattle.select.specs.declared.Choosing.{Choosing}
use Rattle.select.specs.declared.Choosing.TheVariants.{Silent, Command, Reading, Matching, Giving, Complementing, Awaiting, Selected}
use Rattle.select.specs.Select.{is_chosen, is_selected, ends_command}
use Rattle.event.specs.Event.{answer_to, slotted, reset_tag, short_tag, tick_tag}
use Rattle.promises.specs.Demand3.{EndsField, Conditional, Alike, NoPassword, AlarmsAgree, Begins, Premises}
use Rattle.promises.specs.Demand3.Left.{Guards, guards_checked, flag_stays, tick_cases, no_full}
use Rattle.promises.specs.Demand3.Reset.{begins_guarded}
use Rattle.promises.specs.Demand3.Slot.{conditional_is}
use Rattle.promises.specs.Runs.{State, Event, after, run, Always, Together, OnSlots}
use Rattle.promises.specs.Runs.Laws.{slot_happens, reset_happens, short_happens, always_map, on_slots}
use Rattle.promises.specs.Sentences.Choosing.{alarm}

-- ---- what is computed

-- a question that a tag with other passwords answers with 0: none, or whether this field may
unfoldable pub harmless : ℕ → Question → Bool
harmless wrong Question.Nothing = true
harmless wrong (Question.MayRead field) = eqb field wrong
harmless wrong (Question.MayCopy field address) = eqb field wrong
harmless wrong (Question.MayControl field) = eqb field wrong
harmless wrong Question.Alarm = false
harmless wrong (Question.Byte address) = false

-- the event asks nothing else
unfoldable pub asks_harmless : ℕ → Exchange → Event → Bool
asks_harmless wrong x (Event.slot bit) = harmless wrong (asks x bit)
asks_harmless wrong x Event.reset = true
asks_harmless wrong x (Event.tick reading) = true
asks_harmless wrong x Event.short = true

-- the exchange after it, with the answer 0
unfoldable pub denied : Exchange → Event → Exchange
denied x (Event.slot bit) = (slot_of x bit 0).exchange
denied x Event.reset = after_reset x
denied x (Event.tick reading) = x
denied x Event.short = after_short x

-- and over events one after the other
unfoldable pub harmless_all : ℕ → Exchange → List Event → Bool
harmless_all wrong x [] = true
harmless_all wrong x (e ∷ es) = asks_harmless wrong x e && harmless_all wrong (denied x e) es

unfoldable pub denied_all : Exchange → List Event → Exchange
denied_all x [] = x
denied_all x (e ∷ es) = denied_all (denied x e) es

-- of a state and the event that comes
abbrev pub Harmless : ℕ → State → Event → Type 0
Harmless wrong u e = asks_harmless wrong u.tag.exchange e ≡ true

abbrev pub Unconditional : State → Event → Type 0
Unconditional = OnSlots (λ u bit. Conditional u.tag.exchange bit → ⊥)

-- ---- what a harmless question is not

module _ {x : Exchange} {bit : Bool} {field : ℕ} (ends : EndsField x bit field) where
  field_asked : asks x bit ≡ field_question ends.gathered.0 x.bus field
  unfolding asks memory.asks memory.stage_asks field_asks is_chosen shift_in
  field_asked = rw (ends.chosen, ends.gathered.1, ends.last, ends.bytes)

  -- whether another field may
  harmless_field : (wrong : ℕ) → harmless wrong (asks x bit) ≡ true → field ≡ wrong
  unfolding harmless
  harmless_field wrong h = by ends.gathered.0 (rw field_asked at h)
    where
      by : (g : Guarded) → harmless wrong (field_question g x.bus field) ≡ true → field ≡ wrong
      by Guarded.Reading e = eqb-true field wrong e
      by Guarded.Copying e = eqb-true field wrong e
      by (Guarded.Controlling control) e = eqb-true field wrong e

-- a tag that hears a ROM command is not chosen yet
pub conditional_unchosen : (x : Exchange) (bit : Bool) → Conditional x bit → is_selected x.select ≡ false
unfolding ends_command is_chosen
conditional_unchosen x bit e = by x.select.choosing (sym (conditional_is x.select.choosing bit) ∙ e)
  where
    by : (c : Choosing) → ends_command (λ byte. eqb byte 0xEC) c bit ≡ true → is_chosen c ≡ false
    by Silent e = refl
    by (Command heard count) e = refl
    by (Reading at) e = refl
    by (Matching fast at) e = refl
    by (Giving at) e = refl
    by (Complementing at) e = refl
    by (Awaiting at) e = refl
    by Selected e = sym e

-- whether an alarm flag is set
pub harmless_unconditional : (wrong : ℕ) (u : State) (e : Event) → Harmless wrong u e → Unconditional u e
unfolding asks_harmless harmless asks
harmless_unconditional wrong u (Event.slot bit) h =
    λ asked. false≢true (rw (conditional_unchosen u.tag.exchange bit asked, sym (conditional_is u.tag.exchange.select.choosing bit) ∙ asked) at h)
harmless_unconditional wrong u Event.reset h = tt
harmless_unconditional wrong u (Event.tick reading) h = tt
harmless_unconditional wrong u Event.short h = tt

-- ---- a tag with other passwords

abbrev pub NoneOf : ℕ → List ℕ → Type 0
NoneOf wrong image = (wrong ≢ read_password image) × (wrong ≢ full_password image)

-- it answers 0
harmless_answer : (image : List ℕ) (code wrong : ℕ) (q : Question) → checked image ≡ true → NoneOf wrong image →
    harmless wrong q ≡ true → answer_to image code q ≡ 0
unfolding harmless answer_to
harmless_answer image code wrong Question.Nothing on none h = refl
harmless_answer image code wrong Question.Alarm on none h = absurd (false≢true h)
harmless_answer image code wrong (Question.MayRead field) on none h =
    rw (eqb-true field wrong h, read_refused image wrong on none.0 none.1)
harmless_answer image code wrong (Question.MayCopy field address) on none h =
    rw (eqb-true field wrong h, copy_refused image wrong on address none.1)
harmless_answer image code wrong (Question.MayControl field) on none h =
    rw (eqb-true field wrong h, control_refused image wrong on none.1)
harmless_answer image code wrong (Question.Byte address) on none h = absurd (false≢true h)

-- it has the passwords of the image that it began with, and its MIP
abbrev pub Denies : List ℕ → Bool → State → Type 0
Denies image mission u = Guards image u × (mip u.image ≡ mission)

no_password : (image : List ℕ) (wrong : ℕ) → NoneOf wrong image → (u : State) (e : Event) → Harmless wrong u e →
    NoPassword image u e
unfolding asks_harmless word_at
no_password image wrong none u (Event.slot bit) h =
    λ field ends. let same = sym (harmless_field ends wrong h) in (λ e. none.0 (same ∙ e), λ e. none.1 (same ∙ e))
no_password image wrong none u Event.reset h = tt
no_password image wrong none u (Event.tick reading) h = tt
no_password image wrong none u Event.short h = tt

module _ (image : List ℕ) (mission : Bool) (wrong : ℕ) (none : NoneOf wrong image) where
  denies_after : (u : State) (e : Event) → Denies image mission u → Harmless wrong u e → Denies image mission (after u e)
  denies_after u e d h =
      flag_stays 0x0215 1 mission mip_ticked mip_forced image u e d (no_full image u e (no_password image wrong none u e h))

  -- and its exchange goes on with the answer 0
  exchange_after : (u : State) (e : Event) → Denies image mission u → Harmless wrong u e →
      (after u e).tag.exchange ≡ denied u.tag.exchange e
  unfolding after slotted reset_tag short_tag tick_tag denied asks_harmless
  exchange_after u (Event.slot bit) (g, m) h =
      let others : NoneOf wrong u.image = (λ e. none.0 (e ∙ g.keys.read), λ e. none.1 (e ∙ g.keys.full)) in
      rw (slot_happens g.sound bit, harmless_answer u.image u.tag.code wrong _ (guards_checked g) others h)
  exchange_after u Event.reset (g, m) h = rw (reset_happens g.sound)
  exchange_after u Event.short (g, m) h = rw (short_happens g.sound)
  exchange_after u (Event.tick reading) (g, m) h =
      tick_cases g.sound reading (λ v. v.tag.exchange ≡ u.tag.exchange) refl refl

  -- so over a run
  pub denies_run : (u : State) (E : List Event) → Denies image mission u → harmless_all wrong u.tag.exchange E ≡ true →
      Always (Harmless wrong) u E × Denies image mission (run u E).state
      × ((run u E).state.tag.exchange ≡ denied_all u.tag.exchange E)
  unfolding Always run denied_all harmless_all
  denies_run u [] d h = (tt, d, refl)
  denies_run u (e ∷ es) d h =
      let x = u.tag.exchange in
      let both = (and-eq-true_iff (asks_harmless wrong x e) (harmless_all wrong (denied x e) es)).0 h in
      let next = exchange_after u e d both.0 in
      let rest = denies_run (after u e) es (denies_after u e d both.0) (rw next both.1) in
      ((both.0, rest.0), rest.1, rest.2 ∙ ap (λ (y : Exchange). denied_all y es) next)

-- ---- the premises

-- where no Conditional Search comes, premise 5 asks nothing
pub unconditional_agree : (s : State) (E : List Event) (t : State) (F : List Event) → Always Unconditional s E →
    Together (λ u e v f. Alike e f) s E t F → Together AlarmsAgree s E t F
unfolding Always Together
unconditional_agree s [] t [] none alike = tt
unconditional_agree s [] t (f ∷ fs) none alike = absurd alike
unconditional_agree s (e ∷ es) t [] none alike = absurd alike
unconditional_agree s (e ∷ es) t (f ∷ fs) none alike =
    let agree : AlarmsAgree s e t f =
    on_slots {P = λ u bit. Conditional u.tag.exchange bit → ⊥} {Q = λ u bit. Conditional u.tag.exchange bit → alarm s ≡ alarm t}
    (λ u bit never conditional. absurd (never conditional)) s e none.0 in
    (agree, unconditional_agree (after s e) es (after t f) fs none.1 alike.1)

-- any two tags, and one field that is none of their passwords
pub harmless_premises : (s t : State) (E F : List Event) (wrong : ℕ) → Begins s t E F →
    NoneOf wrong s.image → NoneOf wrong t.image →
    harmless_all wrong s.tag.exchange E ≡ true → harmless_all wrong t.tag.exchange F ≡ true → Premises s t E F
harmless_premises s t E F wrong begins none-s none-t given-s given-t =
    let d-s : Denies s.image (mip s.image) s = (begins_guarded begins.reset_s begins.checked_s, refl) in
    let d-t : Denies t.image (mip t.image) t = (begins_guarded begins.reset_t begins.checked_t, refl) in
    let all-s = (denies_run s.image (mip s.image) wrong none-s s E d-s given-s).0 in
    let all-t = (denies_run t.image (mip t.image) wrong none-t t F d-t given-t).0 in
    record {
      begins = begins;
      fields = (always_map neither s E all-s, always_map neither t F all-t);
      alarms = unconditional_agree s E t F (always_map (harmless_unconditional wrong) s E all-s) begins.alike;
    }
  where
    neither : (u : State) (e : Event) → Harmless wrong u e → NoPassword s.image u e × NoPassword t.image u e
    neither u e h = (no_password s.image wrong none-s u e h, no_password t.image wrong none-t u e h)
