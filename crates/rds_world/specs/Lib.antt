-- A station and its receivers, slot by slot. Read the files in this order. SafeSlots and Delivery have the promises of
-- a world, Station and ConfirmedStation those of a station with any number of sets in a slot, and FlagStation those of
-- such a station to receivers with the flag bit alone.
pub mod Event
pub mod ReceiverKind
pub mod Due
pub mod Wrong
pub mod Slots
pub mod State
pub mod Replies
pub mod WorldAt
pub mod Station
pub mod ConfirmedStation
pub mod OnAir
pub mod SafeSlots
pub mod Delivery
pub mod FlagStation
