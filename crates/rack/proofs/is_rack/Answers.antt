-- `rack::is_rack` meets its contract: the whole chunks are the records at their places. Assumes nothing.
use Rattle.std.proofs.Common.{◌≡◌, ◌≢◌, ℕ, ◌*◌, ◌/◌, ◌≤◌, List, length, take, drop, Bool, true, false, Bor, sym, ap, ◌∙◌, arith, rules, ne_eqb}
use Rattle.std.specs.Bool.{MatchBool}
use Rattle.std.specs.declared.option.Option.{Option}
use Rattle.std.specs.Option.{IfSome, IsSomeAnd, option_map}
use Rattle.std.specs.Iterator.Runs.{Run, IsChunksExactRun, AllItems, AnyItem}
use Rattle.std.specs.Slice.Iter.{chunks_exact_size, chunks_exact_rest}
use Rattle.rack.specs.Rack.Laws.{rack_size, rack_good, rack_bad}
use Rattle.packing.specs.Packing.{is_packed}
use Rattle.rack.specs.Rack.{record_at, is_rack}
use Rattle.rack.proofs.is_rack.Goals as goal

by_answer : (b : Bool) (P Q : Type 0) (own : Bool) → MatchBool b P Q → (P → own ≡ true) → (Q → own ≡ false) → b ≡ own
by_answer true P Q own m all one = sym (all m)
by_answer false P Q own m all one = sym (one m)

-- what is known of the item at a place, where there is one
there : {A : Type 0} (o : Option A) (P Q : A → Type 0) (R : Type 0) (x : A) → option_map (λ (y : A). y) o ≡ Option.Some x →
    IfSome o P → IfSome o Q → ((y : A) → P y → Q y → R) → R
there Option.None P Q R x e p q then = absurd (cc)
there (Option.Some y) P Q R x e p q then = then y p q

found : {A : Type 0} (o : Option A) (P Q : A → Type 0) (R : Type 0) → IsSomeAnd o P → IfSome o Q → ((y : A) → P y → Q y → R) → R
found Option.None P Q R p q then = absurd p
found (Option.Some y) P Q R p q then = then y p q

module _ {S : Type 0} {steps : S → Option (Bor (List ℕ)) → S → Type 0} (p : Run steps) (n : ℕ) (xs records : List ℕ) (count : ℕ)
    (width : n ≡ 80) (all : xs ≡ records) (size : length records ≡ count * 80) (chunks : IsChunksExactRun p n xs) where
  -- the item at a place is the record there
  record_is : (k : ℕ) (x : Bor (List ℕ)) → x.now ≡ take n (drop (k * n) xs) → x.now ≡ record_at records k
  unfolding record_at
  record_is k x e = e ∙ (λ i. take (width i) (drop (k * width i) (all i)))

  module _ (P : Bor (List ℕ) → Type 0) where
    good : p.whole ≡ true → Bor (List ℕ) → ((x : Bor (List ℕ)) → P x → is_packed x.now ≡ true) → AllItems p P → is_rack records count ≡ true
    good whole any own packed =
        let many : p.len ≡ count = chunks.1 whole ∙ (λ i. length (all i) / width i) ∙ omega (arith, size) in
        rack_good records count size
        (λ k h.
        there (p.at k) _ _ _ _ (p.reads k any (omega (arith, h, many))) (chunks.2 k) (packed k)
        (λ x part item. ap is_packed (sym (record_is k x part.2.0)) ∙ own x item))

    bad : ((x : Bor (List ℕ)) → P x → is_packed x.now ≡ false) → AnyItem p P → is_rack records count ≡ false
    bad other any =
        let few : p.len * 80 ≤ length records = rw (width, all) at chunks.0 in
        found (p.at any.0) _ _ _ any.2 (chunks.2 any.0)
        (λ x item part. rack_bad records count size any.0 (omega (arith, any.1, few, size)) (ap is_packed (sym (record_is any.0 x part.2.0)) ∙ other x item))

pub returns-then-records-from : goal.returns-then-records-from
returns-then-records-from c =
    let records = c.args.records.now in
    let size : length records ≡ c.args.count * 80 = omega arith in
    let p = c.all.ensures.runs in
    let width : chunks_exact_size p.0.from ≡ 80 = ap chunks_exact_size p.1 ∙ c.chunks_exact.ensures.size in
    let all : chunks_exact_rest p.0.from ≡ records = ap chunks_exact_rest p.1 ∙ c.chunks_exact.ensures.rest in
    let chunks = c.chunks_exact.ensures.runs p.0 p.0.seen (omega (arith, width)) in
    by_answer c.all.result _ _ (is_rack records c.args.count) p.2
    (λ each. good p.0 _ _ records c.args.count width all size chunks _ each.0 c.args.records (λ x h. search rules) (each.1 (λ a r f h. search rules)))
    (λ any. bad p.0 _ _ records c.args.count width all size chunks _ (λ x h. search rules) (any (λ a r f h. search rules)))

pub returns-else-records-from : goal.returns-else-records-from
returns-else-records-from c =
    let other : length c.args.records.now ≢ c.args.count * 80 = λ e. c.if-records-from.false (omega (arith, e)) in
    ne_eqb _ _ c.if-records-from.false ∙ sym (rack_size _ _ other)
