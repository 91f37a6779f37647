-- The lines of views, and the program's types for views and their parts.
pub mod Output
pub mod ViewParts
pub mod KeptView
pub mod Part
-- Lemmas that crates above use.
pub mod NoChange
