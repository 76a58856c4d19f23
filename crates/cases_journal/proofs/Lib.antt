mod Queued
pub mod Sets
pub mod Since
