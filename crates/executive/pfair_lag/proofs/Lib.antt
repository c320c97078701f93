mod BookLemmas
mod Common
mod Counts
