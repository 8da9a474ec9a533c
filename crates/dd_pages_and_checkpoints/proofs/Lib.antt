pub mod PageLemmas
pub mod PageParts
pub mod LineParts
pub mod Sending
pub mod RunFacts
