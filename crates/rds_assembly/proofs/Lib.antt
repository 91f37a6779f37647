pub mod FilledLemmas
pub mod HeldLemmas
pub mod LanesLemmas
pub mod TextLemmas
