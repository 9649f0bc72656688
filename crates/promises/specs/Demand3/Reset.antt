-- A tag just after a reset: no password has led anywhere yet. Assumes nothing.
use Rattle.std.specs.Prelude.{◌≡◌, List, false}
use Rattle.std.proofs.Common.{ap}
use Rattle.exchange.specs.declared.Exchange.{Exchange}
use Rattle.exchange.specs.Exchange as exchange
use Rattle.exchange.specs.Exchange.Laws as exchange-laws
use Rattle.image.specs.Answers.Laws.{keys_same}
use Rattle.image.specs.Registers.{password_control}
use Rattle.select.specs.Select.{reset_select}
use Rattle.select.specs.Select.Laws.{mark_of_lem}
use Rattle.memory.specs.Phases.{opened}
use Rattle.memory.specs.Phases.Laws.{shut_writing}
use Rattle.event.specs.Event.{reset_tag}
use Rattle.promises.specs.Demand3.{JustReset, Alike, Begins}
use Rattle.promises.specs.Demand3.Left.{Guards}
use Rattle.promises.specs.Words.{mark_in}
use Rattle.promises.specs.Runs.{State, Event, after, Reached, Together}
use Rattle.promises.specs.Runs.Laws.{Sound, sound_after, reached_sound, reset_happens, sound_accepts}

-- such an exchange is what a reset leaves of it
pub reset_again : {s : State} → JustReset s → s.tag.exchange ≡ exchange.after_reset s.tag.exchange
unfolding after reset_tag
reset_again r = rw (r.reset, reset_happens (reached_sound r.reached), mark_of_lem)

pub reset_reached : {s : State} → JustReset s → Reached s
reset_reached r = rw r.reset (Reached.event Event.reset r.reached (sound_accepts (reached_sound r.reached) Event.reset tt))

pub reset_sound : {s : State} → JustReset s → Sound s
reset_sound r = rw r.reset (sound_after Event.reset (reached_sound r.reached))

pub reset_opened : {s : State} → JustReset s → opened s.tag.exchange.bus.stage ≡ false
reset_opened {s} r = rw (reset_again r) (exchange-laws.begun_shut s.tag.exchange (reset_select s.tag.exchange.select))

pub begins_guarded : {s : State} → JustReset s → password_control s.image ≡ 0xAA → Guards s.image s
begins_guarded r on = record { sound = reset_sound r; shut = shut_writing _ (reset_opened r); keys = keys_same; on = on }

-- two tags just after a reset, with checking on and the same exchange
pub begins_alike : {s t : State} {E F : List Event} → JustReset s → JustReset t → password_control s.image ≡ 0xAA → password_control t.image ≡ 0xAA →
    s.tag.exchange ≡ t.tag.exchange → Together (λ u e v f. Alike e f) s E t F → Begins s t E F
begins_alike reset_s reset_t on-s on-t same alike =
    record {
      reset_s = reset_s;
      reset_t = reset_t;
      checked_s = on-s;
      checked_t = on-t;
      number = ap (λ (x : Exchange). x.number) same;
      held = ap (λ (x : Exchange). x.held) same;
      mark = ap (λ (x : Exchange). mark_in x.select.mode) same;
      alike = alike;
    }
