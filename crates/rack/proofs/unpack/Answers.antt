-- `rack::unpack` meets its contract. Assumes nothing.
use Rattle.std.proofs.Common.{◌≡◌, refl, sym, ap, ◌∙◌, ℕ, ◌+◌, ◌<◌, ◌≤◌, List, length, get_or, set, length-set, arith, get_or-set_same, get_or-set_other}
use Rattle.std.proofs.Math.Decide.{dec_lt, ℕ_discrete}
use Rattle.std.proofs.lemmas.List.{ext_get_or}
use Rattle.record.specs.declared.Tag.{Tag}
use Rattle.record.specs.Record.{fresh_tag}
use Rattle.packing.specs.Packing.{unpacked}
use Rattle.rack.specs.Rack.{seven, record_at, whole_in, board_in}
use Rattle.rack.specs.Rack.Laws.{seven_at, none_there, whole_some, whole_rest}
use Rattle.rack.proofs.unpack.Goals as goal

-- a place that is filled is one of the seven
inside : (records : List ℕ) {place end : ℕ} → place < end → end ≡ whole_in (length records) 7 → place < 7
inside records h e = omega (arith, h, e, whole_some (length records) 7)

pub overflow_cast-place : goal.overflow_cast-place
overflow_cast-place c = let few = inside c.args.records.now c.loop-place-test.true c.whole-place-end.ensures in omega (arith, few)

pub offset_bounds-tags-place : goal.offset_bounds-tags-place
offset_bounds-tags-place c = let few = inside c.args.records.now c.loop-place-test.true c.whole-place-end.ensures in omega (arith, few)

pub bounds-tags-place : goal.bounds-tags-place
bounds-tags-place c = inside c.args.records.now c.loop-place-test.true c.whole-place-end.ensures

-- one more place has its own, and those behind it stay
module _ {A : Type 0} (items : List A) (place : ℕ) (x : A) (room : place < length items) where
  more : (f : ℕ → A) → x ≡ f place → ((k : ℕ) (d : A) → k < place → get_or items k d ≡ f k)
      → (k : ℕ) (d : A) → k < place + 1 → get_or (set items place x) k d ≡ f k
  more f own before k d h = at (ℕ_discrete k place)
    where
      at : Dec (k ≡ place) → get_or (set items place x) k d ≡ f k
      at (yes e) = (λ i. get_or (set items place x) (e i) d) ∙ get_or-set_same items place x d room ∙ own ∙ ap f (sym e)
      at (no e) = get_or-set_other items place k x d e ∙ before k d (omega (arith, h, e))

  kept : (k : ℕ) (d : A) → place + 1 ≤ k → get_or (set items place x) k d ≡ get_or items k d
  kept k d h = get_or-set_other items place k x d (λ e. omega (arith, h, e))

pub loop-place-init : goal.loop-place-init
loop-place-init c =
    (refl, λ k d h. absurd (omega (arith, h)), λ k d h less. seven_at (λ i. c.fresh-tags.result) d k less ∙ c.fresh-tags.ensures)

pub loop-place-preserved : goal.loop-place-preserved
loop-place-preserved c =
    let l = c.loop-place in
    let few = inside c.args.records.now c.loop-place-test.true c.whole-place-end.ensures in
    let room : l.place < length l.tags = omega (arith, few, l.invariant.0) in (
      length-set l.tags l.place c.tag_at.result ∙ l.invariant.0,
      more l.tags l.place c.tag_at.result room (λ i. unpacked (record_at c.args.records.now i)) c.tag_at.ensures l.invariant.1,
      λ k d h less. kept l.tags l.place c.tag_at.result room k d h ∙ l.invariant.2 k d (omega (arith, h)) less,
    )

pub returns : goal.returns
unfolding board_in
returns c =
    let l = c.loop-place in
    let records = c.args.records.now in
    let held : ℕ → Tag = λ i. unpacked (record_at records i) in
    let d : Tag = fresh_tag 0 0 in
    let own : (k : ℕ) → k < 7 → Dec (k < l.place) → get_or l.tags k d ≡ held k =
    λ k less test. elim test [
      | yes h ↦ l.invariant.1 k d h
      | no h ↦ l.invariant.2 k d (omega (arith, h)) less
          ∙ sym (none_there records k (whole_rest (length records) k less (omega (arith, h, c.loop-place-test.false, c.whole-place-end.ensures))))
    ] in
    ap (λ (tags : List Tag). record { tags = tags; count = c.args.count })
    (ext_get_or d l.tags (seven held) l.invariant.0
    (λ k h.
    let less : k < 7 = omega (arith, h, l.invariant.0) in
    own k less (dec_lt k l.place) ∙ sym (seven_at held d k less)))
