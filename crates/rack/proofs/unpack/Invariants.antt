-- `rack::unpack` meets its contract: the places before `place` have their records, and the others that of all zeros. Assumes nothing.
use Rattle.std.proofs.Common.{◌≡◌, ℕ, ◌<◌, ◌≤◌, length, get_or}
use Rattle.record.specs.declared.Tag.{Tag}
use Rattle.record.specs.Record.{fresh_tag}
use Rattle.packing.specs.Packing.{unpacked}
use Rattle.rack.specs.Rack.{record_at}
use Rattle.rack.proofs.unpack.Given as goal

abbrev pub invariant-loop-place : goal.invariant-loop-place
invariant-loop-place l =
    (length l.tags ≡ 7)
    × ((k : ℕ) (d : Tag) → k < l.place → get_or l.tags k d ≡ unpacked (record_at l.records k))
    × ((k : ℕ) (d : Tag) → l.place ≤ k → k < 7 → get_or l.tags k d ≡ fresh_tag 0 0)
