-- A scratchpad of 32 bytes stays one, and TA has 16 bits, from a new tag on. Assumes nothing.
use Rattle.std.specs.Prelude.{ℕ, Bool}
use Rattle.std.proofs.Common.{arith}
use Rattle.std.proofs.lemmas.List.{length-replicate}
use Rattle.bits.specs.Bytes.{bytes_blank}
use Rattle.select.specs.declared.Select.{Select}
use Rattle.select.specs.Select.{restarted}
use Rattle.memory.specs.Memory.Pad.{Padded, slot_padded}
use Rattle.exchange.specs.declared.Exchange.{Exchange}
use Rattle.exchange.specs.Exchange.{new_exchange, begun, after_short, slot_of}
use Rattle.exchange.specs.Exchange.Laws.{slot_cases, short_cases}

abbrev pub PaddedIn : Exchange → Type 0
PaddedIn x = Padded x.held x.bus

pub new_padded : (number : ℕ) → PaddedIn (new_exchange number)
new_padded number = record { size = length-replicate {A = ℕ} 32 0; bytes = bytes_blank 32; address = omega arith; heard = tt }

pub begun_padded : (x : Exchange) (next : Select) → PaddedIn x → PaddedIn (begun x next)
begun_padded x next p = record { size = p.size; bytes = p.bytes; address = p.address; heard = omega arith }

pub short_padded : (x : Exchange) → PaddedIn x → PaddedIn (after_short x)
short_padded x p = short_cases PaddedIn x (λ fast. begun_padded x (restarted x.select) p) (λ slow. p)

pub exchange_padded : (x : Exchange) (bit : Bool) (answer : ℕ) → PaddedIn x → PaddedIn (slot_of x bit answer).exchange
exchange_padded x bit answer p =
    slot_cases (λ q s. PaddedIn (s answer).exchange) x bit (slot_padded x.held x.bus p bit answer) p
