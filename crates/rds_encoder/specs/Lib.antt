-- What an encoder was told, what it replies, what is then on air, and what it sends. Read the files in this order.
pub mod Entries
pub mod Reply
pub mod Plan
pub mod Tags
pub mod Round
pub mod Sent
-- What the laws say of all entries.
pub mod Spaced
pub mod Laws
pub mod Delivery
-- The numbers of the code. Callers do not need them.
pub mod State
pub mod Numbers
pub mod EncoderAt
