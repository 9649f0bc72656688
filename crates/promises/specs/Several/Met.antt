-- Demand 3 for the line says something: its premises are met by two tags of which one is selected, and gets a whole field that carries the
-- full password of the other. `line_met` in Met/Proof.antt proves it. Assumes nothing.
use Rattle.std.specs.Prelude.{◌≡◌, List, ◌≢◌}
use Rattle.promises.specs.Demand3.{EndsField}
use Rattle.promises.specs.Demand3.Needed.{Sometime}
use Rattle.promises.specs.Runs.{Always, ticks_of}
use Rattle.promises.specs.Several.{Line, LineEvent, count_of, tag_at, heard, Unselected}
use Rattle.promises.specs.Several.Demand3.{LinePremises}
use Rattle.promises.specs.Words.{word_at}
pub mod Proof

pub record LineMet : Type 0 where
  pub l : Line
  pub m : Line
  pub E : List LineEvent
  pub F : List LineEvent
  pub premises : LinePremises l m E F
  pub two : count_of l ≡ 2
  -- the first tag is selected as the last bit of the field comes
  pub carried : Sometime (λ u bit. EndsField u.tag.exchange bit (word_at (tag_at l 1).image 0x0230 8)) (tag_at l 0) (heard 0 E)
  -- the second is not, all the while
  pub aside : Always Unselected (tag_at l 1) (heard 1 E)
  -- the first has another full password in the other run, and other readings
  pub full : word_at (tag_at l 0).image 0x0230 8 ≢ word_at (tag_at m 0).image 0x0230 8
  pub readings : ticks_of (heard 0 E) ≢ ticks_of (heard 0 F)
