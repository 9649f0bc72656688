-- What the line's sentences (`Sentences.Choosing`, `Sentences.Commands`) and the demands' own runs are proved by: slots one after the other
-- as the exchange's run (Slots), those in which the tag is still being chosen (Choosing), each memory command as a run of the exchange
-- (Commands, ReadRun, WriteRun, CopyRun, ControlRun), whole sessions of these (Sessions), the pages of a dump (Pages), and a mission that goes on
-- (Converting). Assumes nothing.
pub mod Slots
pub mod Choosing
pub mod Commands
pub mod ReadRun
pub mod WriteRun
pub mod CopyRun
pub mod ControlRun
pub mod Sessions
pub mod Pages
pub mod Converting
