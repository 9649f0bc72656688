-- Document 01 as theorems, section by section in its order, each sentence above what says it, as changed by the requests that have landed. They are
-- said with `Words`, `Ranges`, `Runs` and `History`, and speak of `new_tag`, `step` and the dock's listing and text by what goes in and comes out; the
-- statements stand in these files and their proofs in files below them. "What is built" is said by the contracts of `play`, `list` and `answer`
-- (docs/PROMISES.md). Assumes nothing.
pub mod Events
pub mod Choosing
-- "Memory commands"
pub mod Commands
pub mod Scratchpad
pub mod Reading
pub mod Controlling
pub mod Slots
pub mod Memory
-- "A mission"
pub mod Clock
pub mod Mission
pub mod Ticking
pub mod Course
-- "The dump and its listing"
pub mod Listing
pub mod Dump
