pub mod JoinedLemmas
pub mod NameLemmas
pub mod TextLemmas
pub mod WordLemmas
