mod Asking
mod Channels
mod Dials
mod Finding
mod Index
mod LineLemmas
mod Lists
pub mod Parts
mod Players
mod ReadLemmas
mod Telling
mod Whole
