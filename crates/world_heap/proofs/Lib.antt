pub mod Fronts
pub mod LayoutLemmas
pub mod Referring
pub mod KindLemmas
pub mod ThingLemmas
pub mod Standing
pub mod Starting
