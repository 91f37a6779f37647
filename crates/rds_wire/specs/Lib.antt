-- The wire laws: from the bytes of a log to the lines that receivers print.
pub mod Received
pub mod Printed
pub mod Safe
pub mod Wire
-- The headline in one file.
pub mod Headline
pub mod NothingNew
-- With `--keep`.
pub mod Kept
-- The same for what `slots` writes, for receivers that show only what they heard twice, and for runs of the program.
pub mod FromTimes
pub mod Twice
pub mod Program
-- What the lines of `witness` mean.
pub mod Mixes
-- From the groups of any station to its messages.
pub mod Groups
-- The headline on a call.
pub mod Trial
