-- Demand 3: two tags that stand alike go on alike, since no password lets them part; each is left to its ticks. Assumes nothing.
use Rattle.std.specs.Prelude.{◌≡◌, Bool, false, not, List, ℕ}
use Rattle.std.proofs.Math.Path.{sym, ap}
use Rattle.std.proofs.Common.{◌∙◌, subst}
use Rattle.exchange.specs.declared.Exchange.{Exchange}
use Rattle.exchange.specs.declared.Slotted.{Slotted}
use Rattle.exchange.specs.Exchange as exchange
use Rattle.exchange.specs.Exchange.Laws as exchange-laws
use Rattle.memory.specs.Phases.{opened, lets}
use Rattle.image.specs.Fields.{word_at}
use Rattle.select.specs.Select.{mark_in, speed_in, reset_select, restarted}
use Rattle.event.specs.Event.{answer_to, slotted, reset_tag, short_tag, tick_tag}
use Rattle.record.specs.Record.{Outcome}
use Rattle.promises.specs.Demand3.{Conditional, Alike, NoPassword, AlarmsAgree, Demand3}
use Rattle.promises.specs.Demand3.Reset.{reset_again, reset_opened, begins_guarded}
use Rattle.promises.specs.Demand3.Left.{Guards, guards_checked, guards_range, guards_after, left_to_ticks, no_full}
use Rattle.promises.specs.Demand3.Slot.{alarm_asked, unlet}
use Rattle.promises.specs.Line.Choosing.{alarm_is}
use Rattle.promises.specs.Runs.{State, Event, after, line_bit}
use Rattle.promises.specs.Runs.Laws.{relation, always_map, together_with, slot_happens, reset_happens, short_happens, tick_happens}
use Rattle.promises.specs.Sentences.Choosing.{alarm}

-- ---- one event of two tags that stand alike

-- both check passwords, no password led anywhere, and their exchanges are equal; i and j are the images that they began with
pub record Twins (i j : List ℕ) (s t : State) : Type 0 where
  pub guards_s : Guards i s
  pub guards_t : Guards j t
  pub shut : opened s.tag.exchange.bus.stage ≡ false
  pub same : s.tag.exchange ≡ t.tag.exchange

-- what is known of two events that come to them
abbrev pub Come : List ℕ → List ℕ → State → Event → State → Event → Type 0
Come i j s e t f = NoPassword i s e × NoPassword j t f × Alike e f × AlarmsAgree s e t f

abbrev line_of : Outcome → Bool
line_of o = o.answered.line

-- the answer of one of them, to an exchange in the place of its own
answers : State → Bool → Exchange → ℕ
answers u bit x = answer_to u.image u.tag.code (exchange.asks x bit)

unlet_guarded : {image : List ℕ} {u : State} (bit : Bool) → Guards image u → NoPassword image u (Event.slot bit) →
    lets (exchange.asks u.tag.exchange bit) (answers u bit u.tag.exchange) ≡ false
unfolding answers word_at
unlet_guarded {u = u} bit g wrong =
    unlet u.image u.tag.code u.tag.exchange bit (guards_range g) (guards_checked g)
    (λ field ends. (λ e. (wrong field ends).0 (e ∙ g.keys.read), λ e. (wrong field ends).1 (e ∙ g.keys.full)))

module _ {i j : List ℕ} {s t : State} (w : Twins i j s t) (bit : Bool)
    (wrong-s : NoPassword i s (Event.slot bit)) (wrong-t : NoPassword j t (Event.slot bit))
    (alarms : Conditional s.tag.exchange bit → alarm s ≡ alarm t) where
  agree : exchange.slot_of s.tag.exchange bit (answers s bit s.tag.exchange) ≡ exchange.slot_of t.tag.exchange bit (answers t bit t.tag.exchange)
  unfolding answers answer_to
  agree =
      let x = s.tag.exchange in
      exchange-laws.shut_agree x bit (answers s bit x) (answers t bit x) w.shut (unlet_guarded bit w.guards_s wrong-s)
      (subst (λ (y : Exchange). lets (exchange.asks y bit) (answers t bit y) ≡ false) (sym w.same) (unlet_guarded bit w.guards_t wrong-t))
      (λ asked. rw (asked, alarm_is s, alarm_is t, alarms (alarm_asked x bit (guards_range w.guards_s) asked)))
      ∙ ap (λ (y : Exchange). exchange.slot_of y bit (answers t bit y)) w.same

  slot_line_lem : line_bit s (Event.slot bit) ≡ line_bit t (Event.slot bit)
  unfolding slotted answers
  slot_line_lem =
      ap line_of (slot_happens w.guards_s.sound bit) ∙ ap (λ (m : Slotted). m.line) agree ∙ sym (ap line_of (slot_happens w.guards_t.sound bit))

  slot_twins : Twins i j (after s (Event.slot bit)) (after t (Event.slot bit))
  unfolding after slotted answers
  slot_twins =
      let p = slot_happens w.guards_s.sound bit in
      let q = slot_happens w.guards_t.sound bit in
      record {
        guards_s = guards_after s (Event.slot bit) w.guards_s (no_full i s (Event.slot bit) wrong-s);
        guards_t = guards_after t (Event.slot bit) w.guards_t (no_full j t (Event.slot bit) wrong-t);
        shut = rw p (exchange-laws.shut_after s.tag.exchange bit (answers s bit s.tag.exchange) w.shut (unlet_guarded bit w.guards_s wrong-s));
        same = rw (p, q) (ap (λ (m : Slotted). m.exchange) agree);
      }

pub twins_after : {i j : List ℕ} (s : State) (e : Event) (t : State) (f : Event) → Twins i j s t → Come i j s e t f →
    (line_bit s e ≡ line_bit t f) × Twins i j (after s e) (after t f)
unfolding after reset_tag short_tag tick_tag
twins_after s e t f w (wrong-s, wrong-t, Alike.slots bit, alarms) = (slot_line_lem w bit wrong-s wrong-t alarms, slot_twins w bit wrong-s wrong-t alarms)
twins_after s e t f w (wrong-s, wrong-t, Alike.resets, alarms) =
    let p = reset_happens w.guards_s.sound in
    let q = reset_happens w.guards_t.sound in (
      ap line_of p ∙ sym (ap line_of q),
      record {
        guards_s = guards_after s Event.reset w.guards_s tt;
        guards_t = guards_after t Event.reset w.guards_t tt;
        shut = rw p (exchange-laws.begun_shut s.tag.exchange (reset_select s.tag.exchange.select));
        same = rw (p, q) (ap exchange.after_reset w.same);
      },
    )
twins_after s e t f w (wrong-s, wrong-t, Alike.shorts, alarms) =
    let p = short_happens w.guards_s.sound in
    let q = short_happens w.guards_t.sound in
    let x = s.tag.exchange in (
      ap line_of p ∙ ap (λ (y : Exchange). not (speed_in y.select.mode)) w.same ∙ sym (ap line_of q),
      record {
        guards_s = guards_after s Event.short w.guards_s tt;
        guards_t = guards_after t Event.short w.guards_t tt;
        shut = rw p
            (exchange-laws.short_cases (λ y. opened y.bus.stage ≡ false) x (λ fast. exchange-laws.begun_shut x (restarted x.select)) (λ slow. w.shut));
        same = rw (p, q) (ap exchange.after_short w.same);
      },
    )
twins_after s e t f w (wrong-s, wrong-t, Alike.ticks m n small-m small_n, alarms) =
    let p = tick_happens w.guards_s.sound m small-m in
    let q = tick_happens w.guards_t.sound n small_n in (
      ap line_of p ∙ sym (ap line_of q),
      record {
        guards_s = guards_after s (Event.tick m) w.guards_s tt;
        guards_t = guards_after t (Event.tick n) w.guards_t tt;
        shut = rw p w.shut;
        same = rw (p, q) w.same;
      },
    )

-- ---- demand 3

pub demand3 : Demand3
unfolding mark_in
demand3 s t E F p =
    let guards_s = begins_guarded p.begins.reset_s p.begins.checked_s in
    let guards_t = begins_guarded p.begins.reset_t p.begins.checked_t in
    let fields-s = always_map {Q = NoPassword s.image} (λ u e h. h.0) s E p.fields.0 in
    let fields-t = always_map {Q = NoPassword t.image} (λ u e h. h.1) t F p.fields.1 in
    record {
      line =
          (relation (Twins s.image t.image) (Come s.image t.image) twins_after s E t F
          (record {
            guards_s = guards_s;
            guards_t = guards_t;
            shut = reset_opened p.begins.reset_s;
            same = reset_again p.begins.reset_s
                ∙ exchange-laws.reset_agree s.tag.exchange t.tag.exchange p.begins.number p.begins.mark p.begins.held
                ∙ sym (reset_again p.begins.reset_t);
          })
          (together_with (NoPassword s.image) (NoPassword t.image) (λ u e v f. Alike e f) AlarmsAgree s E t F fields-s fields-t p.begins.alike p.alarms)
          ).0;
      left_s = left_to_ticks s E guards_s (always_map (no_full s.image) s E fields-s);
      left_t = left_to_ticks t F guards_t (always_map (no_full t.image) t F fields-t);
    }
