pub mod ApartLemmas
pub mod AskedLemmas
pub mod FoldLemmas
mod FrontOwn
pub mod HaveLemmas
pub mod ItemLemmas
pub mod NewLemmas
mod OpenLemmas
pub mod OwnLemmas
pub mod PlaceLemmas
mod PrefixLemmas
pub mod StillLemmas
pub mod WholeLemmas
